use Rattle.std.proofs.Common.{◌+◌, ◌≤◌, arith, subst, sym}
use Rattle.module_nets.specs.Declarations.{width_of}
use Rattle.module_bits.specs.Names.{AreNumbered, Context}
use Rattle.module_bits.specs.Readings.{IsNumbered}
use Rattle.module_bits.proofs.Targets.{bits_within, net_within}
use Rattle.module_bits.proofs.context.Context.target.Goals as goal

-- the numbers of the net that was found
within : (c : goal.After-struct_known-1) → c.from.result + c.net-net.result.first + width_of c.net-net.result.range ≤ 4294967296
within c =
    let are : AreNumbered c.self.inside.base c.self.inside.nets.now = subst {A = Context} (λ k. AreNumbered k.base k.nets) (sym c.self.view_is) c.requires in
    let all = net_within c.self.inside.base c.self.inside.nets.now c.in-Some.place c.net-net.result are c.net-net.ensures in
    omega (arith, all, c.from.ensures)

pub overflow_add-from : goal.overflow_add-from
overflow_add-from c = (let all = within c in omega (arith, all))

pub bits_in-requires : goal.bits_in-requires
bits_in-requires c = (let all = within c in omega (arith, all))

pub returns-in-Some-clause-within : goal.returns-in-Some-clause-within
returns-in-Some-clause-within c =
    let are : AreNumbered c.self.inside.base c.self.inside.nets.now = subst {A = Context} (λ k. AreNumbered k.base k.nets) (sym c.self.view_is) c.requires in
    let all = net_within c.self.inside.base c.self.inside.nets.now c.in-Some.place c.net-net.result are c.net-net.ensures in
    subst IsNumbered (sym c.bits_in.ensures) (bits_within (c.from.result + c.net-net.result.first) c.net-net.result.range c.args.select (omega (arith, all, c.from.ensures)))
