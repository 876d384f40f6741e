-- Offered to the crates above: the gates of a chip in order are ranked gates, and where all of them hold each net has
-- what comes to it.
use Rattle.std.proofs.Common.{◌≡◌, ◌<◌, ◌≤◌, ◌+◌, ℕ, List, [], ◌∷◌, ◌++◌, map, take, length, get_or, refl, sym, ap, subst, ◌∙◌, inl, inr, arith}
use Rattle.std.specs.Prelude.{◌⊎◌, Some, None, slice_get, slice_index, Contains, All}
use Rattle.std.proofs.lemmas.Bool.{cases_lt}
use Rattle.std.proofs.lemmas.List.{get_or-map, get_or_past, length-map, map_more}
use Rattle.std.proofs.lemmas.Option.{none-some, slice_get_within, slice_get-get_or, get_or_from_slice_get}
use Rattle.id_arena.specs.declared.keys.ChipNetId.{ChipNetId}
use Rattle.emu_machine.specs.declared.netlist.Chip.{Chip}
use Rattle.emu_machine.specs.declared.netlist.EmuGate.{EmuGate}
use Rattle.emu_machine.specs.Netlist.{gate_of, through_gates}
use Rattle.facts.proofs.Places.{contains_at, at_contains, at_map}
use Rattle.graph_rank.specs.Rows.{row}
use Rattle.gate_cycles.specs.Gates.{IsDriven}
use Rattle.gate_cycles.proofs.Rows.{same_gate}
use Rattle.gate_pass.specs.Gates.{PassState, AreRanked, AllHold, HasSettled, NoneDrives, value_on}
use Rattle.chip_pass.specs.Orders.{IsGateOrder, no_gate, gate_at, gives_at, input_places, ranked_inputs, ranked_outputs}
use Rattle.chip_pass.specs.Chips.{ChipState, ChipHasSettled, IsChipPass}
use Rattle.chip_pass.proofs.Through.{driven_by, holds_through, placed, reads_low}

-- the gate of a number that a gate has
pub gate_is : (chip : Chip) (k : ℕ) (gate : EmuGate) → slice_get chip.gates k ≡ Some gate → gate_at chip k ≡ gate
gate_is chip k gate at = get_or_from_slice_get chip.gates k gate no_gate at

-- a net that a gate reads, among their places
place_read : (gate : EmuGate) (n : ℕ) → Contains (input_places gate) n → (i : ChipNetId) × Contains gate.inputs i × (i.place ≡ n)
place_read gate n has =
    let at = at_contains (input_places gate) n has in
    let m = at_map (λ (i : ChipNetId). i.place) gate.inputs at.0 n at.1 in
    (m.0, contains_at gate.inputs at.0 m.0 m.1, sym m.2)

-- reading values at inputs and at their places is the same
pub same_reads : {T : Type 0} (f : ℕ → T) (xs : List ChipNetId) → map f (map (λ i. i.place) xs) ≡ map (λ i. f i.place) xs
same_reads f [] = refl
same_reads f (x ∷ xs) = ap (λ ys. f x.place ∷ ys) (same_reads f xs)

-- the gate at a place of the order, by its number
pub turn_is : (chip : Chip) (order : List ℕ) (k number : ℕ) (gate : EmuGate) → number ≡ slice_index order k → slice_get chip.gates number ≡ Some gate
    → gate_at chip (slice_index order k) ≡ gate
turn_is chip order k number gate is at = ap (gate_at chip) (sym is) ∙ gate_is chip number gate at

-- what a gate reads is there, where the places of its inputs are
pub inputs_there : (nets : ℕ) (gate other : EmuGate) (places : List ℕ) → other ≡ gate → places ≡ input_places other → All (λ n. n < nets) places
    → All (λ (i : ChipNetId). i.place < nets) gate.inputs
inputs_there nets gate other places same are there k d low =
    let is : places ≡ map (λ (i : ChipNetId). i.place) gate.inputs = are ∙ ap input_places same in
    let size : length places ≡ length gate.inputs = ap length is ∙ length-map gate.inputs (λ (i : ChipNetId). i.place) in
    let read : get_or places k 0 ≡ (get_or gate.inputs k d).place = ap (λ (ns : List ℕ). get_or ns k 0) is ∙ get_or-map (λ (i : ChipNetId). i.place) gate.inputs k d 0 low in
    let small : get_or places k 0 < nets = there k 0 (omega (arith, size, low)) in
    omega (arith, read, small)

-- what a gate gives for its inputs, it gives for their places
pub gives_by_place : {T : Type 0} (gives : EmuGate → List T → T) (shown : ℕ → T) (gate other : EmuGate) (places : List ℕ) → other ≡ gate → places ≡ input_places other
    → gives gate (map (λ i. shown i.place) gate.inputs) ≡ gives other (map shown places)
gives_by_place gives shown gate other places same are =
    ap (λ (g : EmuGate). gives g (map (λ (i : ChipNetId). shown i.place) g.inputs)) (sym same)
    ∙ ap (gives other) (sym (same_reads shown other.inputs))
    ∙ ap (λ (r : List ℕ). gives other (map shown r)) (sym are)

-- one more of a list has what a function gives
pub one_listed : {X : Type 0} (f : ℕ → X) (order : List ℕ) (k : ℕ) → k < length order → (given : List X) → given ≡ map f (take k order)
    → (item : X) → item ≡ f (slice_index order k) → map f (take (k + 1) order) ≡ given ++ item ∷ []
one_listed f order k low given are item is =
    map_more f order k 0 low
    ∙ ap (λ xs. xs ++ f (slice_index order k) ∷ []) (sym are)
    ∙ ap (λ x. given ++ x ∷ []) (sym is)

module _ (chip : Chip) (d : IsDriven chip) (order : List ℕ) (is : IsGateOrder chip order) where
  abbrev gate_of_turn : ℕ → EmuGate
  gate_of_turn k = gate_at chip (slice_index order k)

  turn_there : (k : ℕ) → k < length order → slice_get chip.gates (slice_index order k) ≡ Some (gate_of_turn k)
  turn_there k low = slice_get-get_or chip.gates (slice_index order k) no_gate (is.in_range k low)

  pub row_is : (k : ℕ) → k < length order → row (ranked_inputs chip order) k ≡ input_places (gate_of_turn k)
  row_is k low = get_or-map (λ (j : ℕ). input_places (gate_at chip j)) order k 0 [] low

  pub output_is : (k : ℕ) → k < length order → slice_index (ranked_outputs chip order) k ≡ (gate_of_turn k).output.place
  output_is k low = get_or-map (λ (j : ℕ). (gate_at chip j).output.place) order k 0 0 low

  input_count : length (ranked_inputs chip order) ≡ length order
  input_count = length-map order (λ (j : ℕ). input_places (gate_at chip j))

  pub output_count : length (ranked_outputs chip order) ≡ length order
  output_count = length-map order (λ (j : ℕ). (gate_at chip j).output.place)

  some_turn : (k n : ℕ) → Contains (row (ranked_inputs chip order) k) n → k < length order
  some_turn k n has = go (cases_lt k (length order))
    where
      go : (k < length order) ⊎ (length order ≤ k) → k < length order
      go (inl low) = low
      go (inr high) =
          let far : row (ranked_inputs chip order) k ≡ [] = get_or_past (ranked_inputs chip order) k [] (omega (arith, input_count, high)) in
          let at = at_contains [] n (subst (λ (r : List ℕ). Contains r n) far has) in
          absurd (none-some n at.1)

  -- a net that the gate at a place of the order reads
  turn_reads : (k n : ℕ) → k < length order → Contains (row (ranked_inputs chip order) k) n
      → (i : ChipNetId) × Contains (gate_of_turn k).inputs i × (i.place ≡ n)
  turn_reads k n low has = place_read (gate_of_turn k) n (subst (λ (r : List ℕ). Contains r n) (row_is k low) has)

  -- gates that drive one net are one
  same_driver : (j k : ℕ) → j < length order → k < length order → (gate_of_turn j).output.place ≡ (gate_of_turn k).output.place → j ≡ k
  same_driver j k low_j low_k e =
      is.once j k low_j low_k (same_gate chip d (slice_index order j) (slice_index order k) (gate_of_turn j) (gate_of_turn k) (turn_there j low_j) (turn_there k low_k) e)

  pub are_ranked : AreRanked chip.nets (ranked_inputs chip order) (ranked_outputs chip order)
  are_ranked =
      record {
        count = input_count ∙ sym output_count;
        drives = λ k low.
            let there : k < length order = omega (arith, output_count, low) in
            let out : (gate_of_turn k).output.place < chip.nets = (d.formed.gates (slice_index order k) (gate_of_turn k) (turn_there k there)).output in
            omega (arith, output_is k there, out);
        reads = λ k n has.
            let low = some_turn k n has in
            let r = turn_reads k n low has in
            let there : r.0.place < chip.nets = reads_low chip d (slice_index order k) (gate_of_turn k) (turn_there k low) r.0 r.1 in
            omega (arith, there, r.2);
        once = λ j k low_j low_k e.
            let at_j : j < length order = omega (arith, output_count, low_j) in
            let at_k : k < length order = omega (arith, output_count, low_k) in
            same_driver j k at_j at_k (sym (output_is j at_j) ∙ e ∙ output_is k at_k);
        later = λ j k low_j has.
            let at_j : j < length order = omega (arith, output_count, low_j) in
            let low = some_turn k (slice_index (ranked_outputs chip order) j) has in
            let r = turn_reads k (slice_index (ranked_outputs chip order) j) low has in
            let same : r.0 ≡ (gate_of_turn j).output = ap (λ (m : ℕ). let net : ChipNetId = record { place = m } in net) (r.2 ∙ output_is j at_j) in
            is.earlier k j (gate_of_turn k) (gate_of_turn j) low at_j (turn_there k low) (turn_there j at_j)
            (subst (λ (n : ChipNetId). Contains (gate_of_turn k).inputs n) same r.1);
      }

  -- no gate of the order drives a net that no gate drives
  pub none_drives : (n : ℕ) → gate_of chip n ≡ None → NoneDrives (ranked_outputs chip order) n
  none_drives n free k low e =
      let there : k < length order = omega (arith, output_count, low) in
      none-some (gate_of_turn k)
      (sym free ∙ ap (gate_of chip) (sym e ∙ output_is k there) ∙ driven_by chip d (slice_index order k) (gate_of_turn k) (turn_there k there))

  -- Where all gates of the order hold, and nets that no gate drives have given values, each net has what comes to it.
  module _ {T : Type 0} (gives : EmuGate → List T → T) (none : T) (s : PassState T)
      (inputs : s.inputs ≡ ranked_inputs chip order) (outputs : s.outputs ≡ ranked_outputs chip order)
      (hold : AllHold (gives_at gives chip order) none s) where
    abbrev shown : ℕ → T
    shown n = value_on none s.values n

    gate_holds : (k : ℕ) (gate : EmuGate) → slice_get chip.gates k ≡ Some gate → shown gate.output.place ≡ gives gate (map (λ i. shown i.place) gate.inputs)
    gate_holds k gate at =
        let p = placed chip d order is k (slice_get_within chip.gates k gate at) in
        let same : gate_of_turn p.0 ≡ gate = ap (gate_at chip) p.2 ∙ gate_is chip k gate at in
        let low : p.0 < length s.outputs = omega (arith, ap length outputs ∙ output_count, p.1) in
        ap (λ (g : EmuGate). shown g.output.place) (sym same)
        ∙ ap shown (sym (ap (λ (o : List ℕ). slice_index o p.0) outputs ∙ output_is p.0 p.1))
        ∙ hold p.0 low
        ∙ ap (λ (r : List ℕ). gives (gate_of_turn p.0) (map shown r)) (ap (λ (i : List (List ℕ)). row i p.0) inputs ∙ row_is p.0 p.1)
        ∙ ap (gives (gate_of_turn p.0)) (same_reads shown (gate_of_turn p.0).inputs)
        ∙ ap (λ (g : EmuGate). gives g (map (λ (i : ChipNetId). shown i.place) g.inputs)) same

    pub hold_through : (source : ℕ → T) → ((n : ℕ) → n < chip.nets → gate_of chip n ≡ None → shown n ≡ source n)
        → (n : ℕ) → n < chip.nets → shown n ≡ through_gates chip source gives n
    hold_through source free = holds_through chip d order is source gives shown gate_holds free

-- what a pass gives, in terms of the chip
pub chip_settled : {T : Type 0} (gives : EmuGate → List T → T) (none : T) (s : ChipState T) (pass : PassState T) → IsChipPass s
    → HasSettled (gives_at gives s.chip s.order) none s.pass pass
    → ChipHasSettled gives none s (record s { pass = pass })
chip_settled gives none s pass is h =
    record {
      chip = refl;
      order = refl;
      pass = h;
      through = hold_through s.chip is.driven s.order is.ordered gives none pass (h.inputs ∙ is.inputs) (h.outputs ∙ is.outputs) h.holds
          (λ k. value_on none s.pass.values k) (λ n low free. same n free);
      free = same;
    }
  where
    same : (n : ℕ) → gate_of s.chip n ≡ None → value_on none pass.values n ≡ value_on none s.pass.values n
    same n free =
        h.free n (subst (λ (o : List ℕ). NoneDrives o n) (sym is.outputs) (none_drives s.chip is.driven s.order is.ordered n free))
