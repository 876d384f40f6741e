use Rattle.std.proofs.Common.{◌≡◌, ◌<◌, ◌∙◌, ℕ, Some, List, ap, get_or, is_some, length, subst, sym}
use Rattle.verilog_tree.specs.declared.source.Module.{Module}
use Rattle.flattening.specs.declared.fault.ElabFault.TheVariants.{NameTwice}
use Rattle.flattening.specs.Places.{Given}
use Rattle.elaborator.proofs.TwiceNamed.{more_names, once_here, twice_here}
use Rattle.elaborator.proofs.modules.all_names.Goals as goal

pub returns-then-is_some : goal.returns-then-is_some
returns-then-is_some c free =
    let g = c.args.setting.now in
    let i = c.modules.module-index in
    let m = c.module-item.result in
    let whole = ap (λ (k : Given). k.modules) c.setting.view_is in
    let here = subst (λ (ms : List Module). m ≡ get_or ms i m) whole c.module-item.is in
    let below = subst (λ (ms : List Module). i < length ms) whole c.modules-test.true in
    let found = ap is_some (sym c.find.ensures.place) ∙ sym c.is_some.ensures in
    sym c.modules.invariant.1 ∙ twice_here g i m here below c.modules.names c.modules.invariant.0 c.name-name.result.now c.name-name.ensures c.is_some.result found c.if-is_some.true
    ∙ ap (λ (k : ℕ). Some (NameTwice k)) (sym c.start.ensures)

pub modules-preserved : goal.modules-preserved
modules-preserved c =
    let g = c.args.setting.now in
    let i = c.modules.module-index in
    let m = c.module-item.result in
    let whole = ap (λ (k : Given). k.modules) c.setting.view_is in
    let here = subst (λ (ms : List Module). m ≡ get_or ms i m) whole c.module-item.is in
    let below = subst (λ (ms : List Module). i < length ms) whole c.modules-test.true in
    let found = ap is_some (sym c.find.ensures.place) ∙ sym c.is_some.ensures in (
      c.in_ok-intern.ensures.names ∙ more_names g i m here below c.modules.names c.modules.invariant.0 c.name-name.result.now c.name-name.ensures c.is_some.result found c.if-is_some.false,
      once_here g i m here below c.modules.names c.modules.invariant.0 c.name-name.result.now c.name-name.ensures c.is_some.result found c.if-is_some.false ∙ c.modules.invariant.1,
    )
