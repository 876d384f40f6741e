use Rattle.std.proofs.Common.{◌≡◌, ◌<◌, ◌∙◌, List, ap, get_or, length, subst, sym}
use Rattle.verilog_tree.specs.declared.source.Module.{Module}
use Rattle.flattening.specs.Places.{Given}
use Rattle.elaborator.proofs.Whole.{top_here, top_later}
use Rattle.elaborator.proofs.top.has_module.Goals as goal

pub returns-then-eq : goal.returns-then-eq
returns-then-eq c =
    let g = c.args.setting.now in
    let i = c.modules.module-index in
    let m = c.module-item.result in
    let whole = ap (λ (k : Given). k.modules) c.setting.view_is in
    let here = subst (λ (ms : List Module). m ≡ get_or ms i m) whole c.module-item.is in
    let below = subst (λ (ms : List Module). i < length ms) whole c.modules-test.true in
    sym (top_here g c.args.top.now i m here below c.name.result.now c.name.ensures (sym c.eq.ensures ∙ c.if-eq.true)) ∙ c.modules.invariant

pub modules-preserved : goal.modules-preserved
modules-preserved c =
    let g = c.args.setting.now in
    let i = c.modules.module-index in
    let m = c.module-item.result in
    let whole = ap (λ (k : Given). k.modules) c.setting.view_is in
    let here = subst (λ (ms : List Module). m ≡ get_or ms i m) whole c.module-item.is in
    let below = subst (λ (ms : List Module). i < length ms) whole c.modules-test.true in
    top_later g c.args.top.now i m here below c.name.result.now c.name.ensures (sym c.eq.ensures ∙ c.if-eq.false) ∙ c.modules.invariant
