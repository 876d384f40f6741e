use Rattle.std.proofs.Common.{◌≡◌, sym, subst}
use Rattle.std.specs.Prelude.{None}
use Rattle.emu_machine.specs.Netlist.{gate_of}
use Rattle.gate_pass.specs.Gates.{NoneDrives}
use Rattle.chip_pass.specs.Chips.{ChipOthersWait}
use Rattle.chip_pass.specs.Orders.{gives_at}
use Rattle.chip_pass.proofs.Passes.{none_drives}
use Rattle.chip_pass.proofs.pass.ChipPass.set.Goals as goal

pub set-requires-clause-free : goal.set-requires-clause-free
set-requires-clause-free g c =
    subst (λ outputs. NoneDrives outputs c.args.net.place) (sym c.self.invariant.outputs)
    (none_drives c.self.inside.chip.now c.self.invariant.driven c.self.inside.order.order c.self.invariant.ordered c.args.net.place
    (subst (λ s. gate_of s.chip c.args.net.place ≡ None) (sym c.self.view_is) c.requires.free))

pub returns-clause-others : goal.returns-clause-others
returns-clause-others g c gives hold =
    c.set.ensures.others (gives_at gives c.self.inside.chip.now c.self.inside.order.order)
    (subst (λ s. ChipOthersWait gives g.T.NetValue.none s) (sym c.self.view_is) hold)
