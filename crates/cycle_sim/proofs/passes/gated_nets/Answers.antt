use Rattle.std.proofs.Common.{rules, ◌≡◌, ◌<◌, List, length, ap, sym, ◌∙◌, arith}
use Rattle.std.specs.Prelude.{slice_get}
use Rattle.emu_machine.specs.declared.netlist.EmuGate.{EmuGate}
use Rattle.cycle_sim.proofs.passes.gated_nets.Goals as goal

pub mark_outputs-requires : goal.mark_outputs-requires
mark_outputs-requires c k gate at =
    let there : gate.output.place < c.args.chip.now.nets = (c.requires.formed.gates k gate (sym (ap (λ (gates : List EmuGate). slice_get gates k) c.as_slice.ensures) ∙ at)).output in
    let size : length c.from_vec-gated.result ≡ c.args.chip.now.nets = search rules in
    omega (arith, there, size)
