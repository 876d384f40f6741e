-- Offered to the crates above: where each gate of a chip holds, and the nets that no gate drives have given values,
-- each net has what comes to it through gates.
use Rattle.std.proofs.Common.{◌≡◌, ◌<◌, ◌≤◌, ℕ, zero, suc, List, [], ◌∷◌, map, length, refl, sym, ap, subst, ◌∙◌, arith}
use Rattle.std.specs.Prelude.{Option, Some, None, slice_get, slice_index, count_by, Contains}
use Rattle.std.specs.Option.{option_map_or}
use Rattle.std.proofs.lemmas.List.{get_or_default}
use Rattle.std.proofs.lemmas.Option.{slice_get_within}
use Rattle.id_arena.specs.declared.keys.ChipNetId.{ChipNetId}
use Rattle.emu_machine.specs.declared.netlist.Chip.{Chip}
use Rattle.emu_machine.specs.declared.netlist.EmuGate.{EmuGate}
use Rattle.emu_machine.specs.Netlist.{is_chip_net, net_drivers, gate_of, on_net, through_gates}
use Rattle.facts.proofs.Counting.{first, find_at}
use Rattle.facts.proofs.Places.{at_contains}
use Rattle.facts.proofs.Tests.{same_number, number_same}
use Rattle.gate_cycles.specs.Gates.{IsDriven}
use Rattle.chip_pass.specs.Orders.{IsGateOrder}

-- functions that agree on what a list contains give the same list
pub same_map : {X Y : Type 0} (f g : X → Y) (xs : List X) → ((x : X) → Contains xs x → f x ≡ g x) → map f xs ≡ map g xs
same_map f g [] same = refl
same_map f g (x ∷ xs) same =
    ap (λ y. y ∷ map f xs) (same x (0, omega arith, refl))
    ∙ ap (λ ys. g x ∷ ys) (same_map f g xs (λ y has. same y (suc has.0, omega (arith, has.1), has.2)))

-- the gate that drives a net stands among the gates
pub gate_there : (chip : Chip) (n : ℕ) (gate : EmuGate) → gate_of chip n ≡ Some gate
    → (k : ℕ) × (slice_get chip.gates k ≡ Some gate) × (gate.output.place ≡ n)
gate_there chip n gate e =
    let at = find_at (λ (g : EmuGate). is_chip_net n g.output) chip.gates gate e in
    (at.0, at.1, number_same gate.output.place n at.2)

module _ {A : Type 0} (chip : Chip) (source : ℕ → A) (combine : EmuGate → List A → A) where
  abbrev by_gate : ℕ → Option EmuGate → ℕ → A
  by_gate room o n = option_map_or (λ gate. combine gate (map (λ i. on_net chip source combine room i.place) gate.inputs)) o (source n)

  free_at : (room n : ℕ) → gate_of chip n ≡ None → on_net chip source combine room n ≡ source n
  free_at zero n e = refl
  free_at (suc room) n e = ap (λ o. by_gate room o n) e

  -- to a net that no gate drives its own value comes
  pub through_free : (n : ℕ) → gate_of chip n ≡ None → through_gates chip source combine n ≡ source n
  through_free n e = free_at (length chip.gates) n e

module _ (chip : Chip) (d : IsDriven chip) where
  few_at : (k : ℕ) (gate : EmuGate) → slice_get chip.gates k ≡ Some gate
      → count_by (λ (g : EmuGate). is_chip_net gate.output.place g.output) chip.gates ≤ 1
  few_at k gate at =
      let low : gate.output.place < chip.nets = (d.formed.gates k gate at).output in
      let one : net_drivers chip gate.output.place ≡ 1 = d.driven gate.output.place low in
      omega (arith, one)

  -- a gate drives its output
  pub driven_by : (k : ℕ) (gate : EmuGate) → slice_get chip.gates k ≡ Some gate → gate_of chip gate.output.place ≡ Some gate
  driven_by k gate at =
      first (λ (g : EmuGate). is_chip_net gate.output.place g.output) chip.gates k gate at (same_number gate.output.place gate.output.place refl) (few_at k gate at)

  -- what a gate reads is a net of the chip
  pub reads_low : (k : ℕ) (gate : EmuGate) → slice_get chip.gates k ≡ Some gate → (i : ChipNetId) → Contains gate.inputs i → i.place < chip.nets
  reads_low k gate at i has =
      let there = at_contains gate.inputs i has in
      (d.formed.gates k gate at).inputs there.0 i there.1

  module _ (order : List ℕ) (is : IsGateOrder chip order) where
    -- the place of a gate in the order
    pub placed : (k : ℕ) → k < length chip.gates → (i : ℕ) × (i < length order) × (slice_index order i ≡ k)
    placed k low = let h = is.all k low in (h.0, h.1, get_or_default order h.0 0 k h.1 ∙ h.2)

    -- whatever gate drives a net is among the first gates of the order
    abbrev IsEarly : ℕ → ℕ → Type 0
    IsEarly count n = (k : ℕ) (gate : EmuGate) → slice_get chip.gates k ≡ Some gate → gate.output.place ≡ n
        → (i : ℕ) × (i < count) × (i < length order) × (slice_index order i ≡ k)

    -- what drives an input of a gate comes before the gate
    input_early : (count j k : ℕ) (gate : EmuGate) → slice_get chip.gates k ≡ Some gate → j < suc count → j < length order → slice_index order j ≡ k
        → (i : ChipNetId) → Contains gate.inputs i → IsEarly count i.place
    input_early count j k gate at less low place i has other by at_other drives =
        let p = placed other (slice_get_within chip.gates other by at_other) in
        let same : i ≡ by.output = ap (λ (n : ℕ). let net : ChipNetId = record { place = n } in net) (sym drives) in
        let before : p.0 < j =
        is.earlier j p.0 gate by low p.1 (ap (slice_get chip.gates) place ∙ at) (ap (slice_get chip.gates) p.2 ∙ at_other)
        (subst (λ (n : ChipNetId). Contains gate.inputs n) same has) in
        (p.0, omega (arith, before, less), p.1, p.2)

    module _ {A : Type 0} (source : ℕ → A) (combine : EmuGate → List A → A) (f : ℕ → A)
        (holds : (k : ℕ) (gate : EmuGate) → slice_get chip.gates k ≡ Some gate → f gate.output.place ≡ combine gate (map (λ i. f i.place) gate.inputs))
        (free : (n : ℕ) → n < chip.nets → gate_of chip n ≡ None → f n ≡ source n) where
      -- what the first gates drive has what comes to it
      early : (count room n : ℕ) → n < chip.nets → IsEarly count n → count ≤ room → f n ≡ on_net chip source combine room n
      early zero room n low done less = go (gate_of chip n) refl
        where
          go : (o : Option EmuGate) → gate_of chip n ≡ o → f n ≡ on_net chip source combine room n
          go None e = free n low e ∙ sym (free_at chip source combine room n e)
          go (Some gate) e =
              let t = gate_there chip n gate e in
              let p = done t.0 gate t.1 t.2 in
              absurd (omega (arith, p.1))
      early (suc count) zero n low done less = absurd (omega (arith, less))
      early (suc count) (suc room) n low done less = go (early count room) (gate_of chip n) refl
        where
          go : ((m : ℕ) → m < chip.nets → IsEarly count m → count ≤ room → f m ≡ on_net chip source combine room m)
              → (o : Option EmuGate) → gate_of chip n ≡ o → f n ≡ on_net chip source combine (suc room) n
          go deep None e = free n low e ∙ sym (free_at chip source combine (suc room) n e)
          go deep (Some gate) e =
              let t = gate_there chip n gate e in
              let p = done t.0 gate t.1 t.2 in
              ap f (sym t.2)
              ∙ holds t.0 gate t.1
              ∙ ap (combine gate)
              (same_map (λ (i : ChipNetId). f i.place) (λ (i : ChipNetId). on_net chip source combine room i.place) gate.inputs
              (λ i has. deep i.place (reads_low t.0 gate t.1 i has) (input_early count p.0 t.0 gate t.1 p.1 p.2 p.3 i has) (omega (arith, less))))
              ∙ sym (ap (λ o. by_gate chip source combine room o n) e)

      -- each net has what comes to it through gates
      pub holds_through : (n : ℕ) → n < chip.nets → f n ≡ through_gates chip source combine n
      holds_through n low =
          early (length order) (length chip.gates) n low
          (λ k gate at drives. let p = placed k (slice_get_within chip.gates k gate at) in (p.0, p.1, p.1, p.2))
          (let c : length order ≡ length chip.gates = is.count in omega (arith, c))
