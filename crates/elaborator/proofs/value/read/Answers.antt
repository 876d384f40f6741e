use Rattle.std.proofs.Common.{◌≢◌, ◌∙◌, Some, ap, subst, sym}
use Rattle.module_bits.specs.Names.{Context}
use Rattle.module_bits.specs.Sized.{sized_meaning}
use Rattle.flattening.specs.declared.fault.ElabFault.{ElabFault}
use Rattle.flattening.specs.declared.fault.ElabFault.TheVariants.{NoMemory}
use Rattle.flattening.specs.Faults.{sized_test}
use Rattle.flattening.specs.Places.{context_of}
use Rattle.elaborator.proofs.Values.{read_bits_are, told_test}
use Rattle.elaborator.proofs.value.read.Goals as goal

pub returns-in-Ok : goal.returns-in-Ok
returns-in-Ok c =
    let is = ap (λ (k : Context). sized_meaning k c.args.asked c.args.expr.now) (sym c.context.ensures) ∙ c.in-Ok.ensures in
    (ap sized_test is, read_bits_are (context_of c.args.setting.now c.args.instance.now) c.args.asked c.args.expr.now c.in-Ok.bits is)

pub returns-in-Err : goal.returns-in-Err
returns-in-Err c free =
    let is = told_test (sized_meaning c.context.result c.args.asked c.args.expr.now) c.in-Err.fault c.in-Err.ensures
    (subst (λ (f : ElabFault). f ≢ NoMemory) c.told.ensures free) in
    ap (λ (k : Context). sized_test (sized_meaning k c.args.asked c.args.expr.now)) (sym c.context.ensures) ∙ is ∙ ap Some (sym c.told.ensures)
