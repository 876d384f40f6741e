-- Offered to the crates above: two things that come through the same gates keep a relation that sources and
-- gates keep.
use Rattle.std.proofs.Common.{◌≡◌, ℕ, zero, suc, true, List, map, refl, subst}
use Rattle.std.specs.Prelude.{Option, Some, None, slice_get}
use Rattle.std.specs.Option.{option_map_or}
use Rattle.emu_machine.specs.declared.netlist.Chip.{Chip}
use Rattle.emu_machine.specs.declared.netlist.EmuGate.{EmuGate}
use Rattle.emu_machine.specs.Netlist.{is_chip_net, gate_of, on_net}
use Rattle.facts.proofs.Counting.{find_at}
use Rattle.facts.proofs.Tests.{number_same}

module _ {A : Type 0} {B : Type 0} (chip : Chip) (source : ℕ → A) (other : ℕ → B) (combine : EmuGate → List A → A) (join : EmuGate → List B → B) (R : ℕ → A → B → Type 0) where
  by_gate : (n : ℕ)
      → R n (source n) (other n)
      → ((k : ℕ) (gate : EmuGate) → slice_get chip.gates k ≡ Some gate → (f : ℕ → A) (g : ℕ → B) → ((i : ℕ) → R i (f i) (g i))
      → R gate.output.place (combine gate (map (λ i. f i.place) gate.inputs)) (join gate (map (λ i. g i.place) gate.inputs)))
      → (f : ℕ → A) (g : ℕ → B) → ((i : ℕ) → R i (f i) (g i))
      → (o : Option EmuGate) → gate_of chip n ≡ o
      → R n
      (option_map_or (λ gate. combine gate (map (λ i. f i.place) gate.inputs)) o (source n))
      (option_map_or (λ gate. join gate (map (λ i. g i.place) gate.inputs)) o (other n))
  by_gate n held made f g both None e = held
  by_gate n held made f g both (Some gate) e =
      let at : (k : ℕ) × (slice_get chip.gates k ≡ Some gate) × (is_chip_net n gate.output ≡ true) = find_at (λ (gate : EmuGate). is_chip_net n gate.output) chip.gates gate e in
      subst
      (λ (k : ℕ). R k (combine gate (map (λ i. f i.place) gate.inputs)) (join gate (map (λ i. g i.place) gate.inputs)))
      (number_same _ _ at.2)
      (made at.0 gate at.1 f g both)

  pub in_parallel : ((n : ℕ) → R n (source n) (other n))
      → ((k : ℕ) (gate : EmuGate) → slice_get chip.gates k ≡ Some gate → (f : ℕ → A) (g : ℕ → B) → ((i : ℕ) → R i (f i) (g i))
      → R gate.output.place (combine gate (map (λ i. f i.place) gate.inputs)) (join gate (map (λ i. g i.place) gate.inputs)))
      → (room n : ℕ) → R n (on_net chip source combine room n) (on_net chip other join room n)
  in_parallel held made zero n = held n
  in_parallel held made (suc room) n =
      by_gate n (held n) made (on_net chip source combine room) (on_net chip other join room) (in_parallel held made room) (gate_of chip n) refl
