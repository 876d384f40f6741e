use Rattle.std.proofs.Common.{arith, subst, sym}
use Rattle.module_bits.specs.Names.{AreNumbered}
use Rattle.flattening.specs.Places.{Inside}
use Rattle.elaborator.proofs.setting.Instance.bits_named.Goals as goal

pub overflow_add-low : goal.overflow_add-low
overflow_add-low c =
    let are : AreNumbered c.self.inside.base c.self.inside.nets.now = subst {A = Inside} (λ i. AreNumbered i.base i.nets) (sym c.self.view_is) c.requires in
    omega (arith, are.within c.in-Some.place c.net-net.result c.net-net.ensures, c.from.ensures)
