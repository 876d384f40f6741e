use Rattle.std.proofs.Common.{◌≡◌, ◌<◌, List, ap, get_or, length, subst}
use Rattle.verilog_tree.specs.declared.source.Module.{Module}
use Rattle.flattening.specs.Places.{Given}
use Rattle.elaborator.specs.Walk.{AreReadyRows}
use Rattle.elaborator.specs.declared.modules.Ready.{Ready}
use Rattle.elaborator.proofs.TwiceNamed.{rows_more}
use Rattle.std.proofs.Common.{◌+◌, sym, take}
use Rattle.elaborator.proofs.modules.all_ready.Goals as goal

pub modules-preserved : goal.modules-preserved
modules-preserved c =
    let g = c.args.setting.now in
    let i = c.modules.module-index in
    let m = c.module-item.result in
    let whole = ap (λ (k : Given). k.modules) c.setting.view_is in
    let here = subst (λ (ms : List Module). m ≡ get_or ms i m) whole c.module-item.is in
    let below = subst (λ (ms : List Module). i < length ms) whole c.modules-test.true in
    subst (λ (rows : List Ready). AreReadyRows g (take (i + 1) g.modules) rows) (sym c.in_ok-push.ensures.ok)
    (rows_more g g.modules i m c.in_ok-make_ready.field-0 c.modules.rows here below c.modules.invariant c.in_ok-make_ready.ensures)
