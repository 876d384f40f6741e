-- Chips of results that were built stand, where no gate lies on a cycle.
use Rattle.std.proofs.Common.{◌≡◌, ◌<◌, ℕ, sym, subst}
use Rattle.std.specs.Prelude.{Some, slice_get}
use Rattle.id_arena.specs.declared.wire.Wire.{Wire}
use Rattle.std.specs.Prelude.{List}
use Rattle.emu_machine.specs.declared.netlist.Chip.{Chip}
use Rattle.gate_cycles.specs.Gates.{IsDriven}
use Rattle.emu_machine.specs.Building.{IsBuilt, IsChip}
use Rattle.emu_machine.specs.Netlist.{chip_at, net_drivers, IsOnCycle}
use Rattle.emu_machine.specs.Results.{Results}
use Rattle.cycle_sim.specs.Standing.{ChipStands, CanRun, IsRunnable}
use Rattle.cycle_sim.proofs.Chips.{chip_is}
use Rattle.cycle_sim.proofs.Ports.{all_there}

pub runnable : (r : Results) (wires : List Wire) (nets : ℕ) → IsBuilt r.net → CanRun r wires nets → IsRunnable r wires nets
runnable r wires nets built rules =
    record { rules = rules; chips = chips }
  where
    chips : (c : ℕ) (chip : Chip) → slice_get r.net c ≡ Some chip → ChipStands chip
    chips c chip at =
        let here : chip_at r.net c ≡ chip = chip_is r.net c chip at in
        let formed : IsChip chip = built.formed.each c chip at in
        record {
          drivers = λ n low. subst (λ (h : Chip). net_drivers h n ≡ 1) here (built.netlist c n (subst (λ (h : Chip). n < h.nets) (sym here) low));
          gates = λ k gate at_gate.
              let is = formed.gates k gate at_gate in
              record { output = is.output; inputs = all_there chip.nets gate.inputs is.inputs; few = is.few };
          registers = λ k register at_register.
              let is = formed.registers k register at_register in
              record { q = is.q; d = is.d; enable = is.enable };
          memories = formed.memories;
          no_cycle = λ k cycle. rules.no_cycle c k (subst (λ (h : Chip). IsOnCycle h k) (sym here) cycle);
        }

-- each of its nets has one driver
pub all_driven : (r : Results) → IsBuilt r.net → (c : ℕ) (chip : Chip) → slice_get r.net c ≡ Some chip → IsDriven chip
all_driven r built c chip at =
    let here : chip_at r.net c ≡ chip = chip_is r.net c chip at in
    record {
      formed = built.formed.each c chip at;
      driven = λ n low. subst (λ (h : Chip). net_drivers h n ≡ 1) here (built.netlist c n (subst (λ (h : Chip). n < h.nets) (sym here) low));
    }
