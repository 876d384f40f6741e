-- A pass over the gates of one chip by change, and what it gives.
-- The rules are told in docs/RULES.md, "Passes by change" and "Netlists of chips".
use Rattle.std.specs.Prelude.{◌≡◌, ◌<◌, ℕ, None, List, length}
use Rattle.emu_machine.specs.declared.netlist.Chip.{Chip}
use Rattle.emu_machine.specs.declared.netlist.EmuGate.{EmuGate}
use Rattle.emu_machine.specs.Netlist.{gate_of, through_gates}
use Rattle.gate_cycles.specs.Gates.{IsDriven}
use Rattle.gate_pass.specs.Gates.{PassState, HasSettled, OthersWait, value_on}
use Rattle.chip_pass.specs.Orders.{IsGateOrder, gives_at, ranked_inputs, ranked_outputs}

-- What contracts see: the chip, its gates in the order of their turns, and the pass over the gates in that order.
pub record ChipState (T : Type 0) : Type 0 where
  pub chip : Chip
  pub order : List ℕ
  pub pass : PassState T

-- each net of the chip has one driver, and the pass is over the chip's nets and gates, in an order of these
pub record IsChipPass {T : Type 0} (s : ChipState T) : Type 0 where
  pub driven : IsDriven s.chip
  pub ordered : IsGateOrder s.chip s.order
  pub inputs : s.pass.inputs ≡ ranked_inputs s.chip s.order
  pub outputs : s.pass.outputs ≡ ranked_outputs s.chip s.order
  pub nets : length s.pass.values ≡ s.chip.nets

-- every gate that does not hold waits
abbrev pub ChipOthersWait : {T : Type 0} → (EmuGate → List T → T) → T → ChipState T → Type 0
ChipOthersWait gives none s = OthersWait (gives_at gives s.chip s.order) none s.pass

-- After a pass each net has what comes to it through gates from the nets that no gate drives, and these are as they
-- were. Every gate holds and none waits.
pub record ChipHasSettled {T : Type 0} (gives : EmuGate → List T → T) (none : T) (old new : ChipState T) : Type 0 where
  pub chip : new.chip ≡ old.chip
  pub order : new.order ≡ old.order
  pub pass : HasSettled (gives_at gives old.chip old.order) none old.pass new.pass
  pub through : (n : ℕ) → n < old.chip.nets
      → value_on none new.pass.values n ≡ through_gates old.chip (λ k. value_on none old.pass.values k) gives n
  pub free : (n : ℕ) → gate_of old.chip n ≡ None → value_on none new.pass.values n ≡ value_on none old.pass.values n
