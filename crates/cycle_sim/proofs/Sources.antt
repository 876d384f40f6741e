-- Offered to the crates above: what the nets of a chip show hangs on what its registers and read ports hold, and
-- on nothing else.
use Rattle.std.proofs.Common.{◌≡◌, ◌<◌, ◌≤◌, ◌+◌, ℕ, zero, suc, Bool, true, false, cond, List, [], ◌∷◌, map, length, refl, sym, ap, subst, ◌∙◌, inl, inr, arith}
use Rattle.std.specs.Prelude.{◌==◌, ◌||◌, ◌⊎◌, Option, Some, None, slice_get, find, count_by, Contains, All}
use Rattle.std.specs.List.{list_any}
use Rattle.std.specs.Option.{option_map_or}
use Rattle.std.proofs.lemmas.Bool.{cases_eq}
use Rattle.std.proofs.lemmas.List.Elements.{All-nil, All-cons}
use Rattle.std.proofs.lemmas.List.Sums.{sum_by-cons}
use Rattle.std.proofs.lemmas.Option.{none-some, slice_get_within, get_or_from_slice_get}
use Rattle.id_arena.specs.declared.keys.ChipNetId.{ChipNetId}
use Rattle.emu_machine.specs.declared.netlist.Chip.{Chip}
use Rattle.emu_machine.specs.declared.netlist.EmuGate.{EmuGate}
use Rattle.emu_machine.specs.declared.netlist.EmuRegister.{EmuRegister}
use Rattle.emu_machine.specs.Netlist.{is_chip_net, read_nets, net_drivers, gate_of, on_net, through_gates, LeadsTo, next, through}
use Rattle.facts.proofs.Lists.{any_at}
use Rattle.facts.proofs.Counting.{counted_found}
use Rattle.facts.proofs.Places.{contains_at}
use Rattle.facts.proofs.Tests.{found, number_same, same_number}
use Rattle.cycle_sim.specs.Standing.{IsThere, ChipStands}
use Rattle.cycle_sim.specs.Loading.{is_source}
use Rattle.cycle_sim.proofs.Counting.{few, is_other, one_if}

-- ## Gates that lie before some gates

-- a gate leads to each of some gates
abbrev LeadsToAll : Chip → ℕ → List ℕ → Type 0
LeadsToAll chip k [] = Unit {0}
LeadsToAll chip k (s ∷ seen) = LeadsTo chip k s × LeadsToAll chip k seen

-- numbers of gates, all of them different
record AreDifferent (chip : Chip) (seen : List ℕ) : Type 0 where
  low : All (λ s. s < length chip.gates) seen
  once : (m : ℕ) → count_by (λ s. s == m) seen ≤ 1

-- each gate that drives a net leads to all of some gates
abbrev ComesTo : Chip → ℕ → List ℕ → Type 0
ComesTo chip n seen = (k : ℕ) (gate : EmuGate) → slice_get chip.gates k ≡ Some gate → gate.output.place ≡ n → LeadsToAll chip k seen

counted_more : (m s : ℕ) (seen : List ℕ) → count_by (λ x. x == m) (s ∷ seen) ≡ one_if (s == m) + count_by (λ x. x == m) seen
counted_more m s seen = sum_by-cons (λ x. one_if (x == m)) s seen

module _ (chip : Chip) (stands : ChipStands chip) where
  all_through : (j k : ℕ) → LeadsTo chip j k → (seen : List ℕ) → LeadsToAll chip k seen → LeadsToAll chip j seen
  all_through j k lead [] all = tt
  all_through j k lead (s ∷ seen) all = (through j k s lead all.0, all_through j k lead seen all.1)

  -- a gate is none of those that it leads to, since no gate lies on a cycle
  not_seen : (k : ℕ) (seen : List ℕ) → LeadsToAll chip k seen → count_by (λ s. s == k) seen ≡ 0
  not_seen k [] all = refl
  not_seen k (s ∷ seen) all =
      let other : (s == k) ≡ false = is_other s k (λ e. stands.no_cycle k (subst (λ (m : ℕ). LeadsTo chip k m) e all.0)) in
      let none : one_if (s == k) ≡ 0 = ap one_if other in
      let rest : count_by (λ x. x == k) seen ≡ 0 = not_seen k seen all.1 in
      let here : count_by (λ x. x == k) (s ∷ seen) ≡ one_if (s == k) + count_by (λ x. x == k) seen = counted_more k s seen in
      omega (arith, none, rest, here)

  one_more : (k : ℕ) (seen : List ℕ) → k < length chip.gates → LeadsToAll chip k seen → AreDifferent chip seen → AreDifferent chip (k ∷ seen)
  one_more k seen low all are =
      record { low = All-cons (λ s. s < length chip.gates) k seen low are.low; once = λ m. go m (cases_eq k m) }
    where
      go : (m : ℕ) → (k ≡ m) ⊎ (k ≡ m → ⊥) → count_by (λ s. s == m) (k ∷ seen) ≤ 1
      go m (inl same) =
          let here : count_by (λ x. x == m) (k ∷ seen) ≡ one_if (k == m) + count_by (λ x. x == m) seen = counted_more m k seen in
          let one : one_if (k == m) ≡ 1 = ap one_if (same_number k m same) in
          let none : count_by (λ x. x == m) seen ≡ 0 = subst (λ (n : ℕ). count_by (λ x. x == n) seen ≡ 0) same (not_seen k seen all) in
          omega (arith, here, one, none)
      go m (inr other) =
          let here : count_by (λ x. x == m) (k ∷ seen) ≡ one_if (k == m) + count_by (λ x. x == m) seen = counted_more m k seen in
          let none : one_if (k == m) ≡ 0 = ap one_if (is_other k m other) in
          let rest : count_by (λ x. x == m) seen ≤ 1 = are.once m in
          omega (arith, here, none, rest)

  -- there are no more of them than gates
  are_few : (seen : List ℕ) → AreDifferent chip seen → length seen ≤ length chip.gates
  are_few seen are = few (λ (s : ℕ). s) (length chip.gates) seen are.low (λ m low. are.once m)

  -- ## What comes to nets

  module _ {A : Type 0} (f g : ℕ → A) (combine : EmuGate → List A → A) (agree : (n : ℕ) → n < chip.nets → gate_of chip n ≡ None → f n ≡ g n) where
    abbrev Same : ℕ → Type 0
    Same room =
        (n : ℕ) (seen : List ℕ) → n < chip.nets → AreDifferent chip seen → length chip.gates ≤ length seen + room → ComesTo chip n seen
        → on_net chip f combine room n ≡ on_net chip g combine room n

    same_inputs : (F G : ChipNetId → A) (inputs : List ChipNetId) → ((j : ℕ) (i : ChipNetId) → slice_get inputs j ≡ Some i → F i ≡ G i) → map F inputs ≡ map G inputs
    same_inputs F G [] same = refl
    same_inputs F G (i ∷ inputs) same =
        ap (λ v. v ∷ map F inputs) (same 0 i refl) ∙ ap (λ vs. G i ∷ vs) (same_inputs F G inputs (λ j. same (suc j)))

    -- where as many gates are seen as there are, no gate drives the net
    at_end : (n : ℕ) (seen : List ℕ) → n < chip.nets → AreDifferent chip seen → length chip.gates ≤ length seen → ComesTo chip n seen
        → (o : Option EmuGate) → gate_of chip n ≡ o → f n ≡ g n
    at_end n seen low are enough comes None e = agree n low e
    at_end n seen low are enough comes (Some gate) e =
        let at = found (λ one. is_chip_net n one.output) chip.gates gate e in
        let all = comes at.0 gate at.1 (number_same gate.output.place n at.2) in
        let bound : length (at.0 ∷ seen) ≤ length chip.gates =
        are_few (at.0 ∷ seen) (one_more at.0 seen (slice_get_within chip.gates at.0 gate at.1) all are) in
        absurd (omega (arith, bound, enough))

    by_gate : (room : ℕ) → Same room → (n : ℕ) (seen : List ℕ) → n < chip.nets → AreDifferent chip seen → length chip.gates ≤ length seen + suc room → ComesTo chip n seen
        → (o : Option EmuGate) → gate_of chip n ≡ o
        → option_map_or (λ gate. combine gate (map (λ i. on_net chip f combine room i.place) gate.inputs)) o (f n)
        ≡ option_map_or (λ gate. combine gate (map (λ i. on_net chip g combine room i.place) gate.inputs)) o (g n)
    by_gate room deep n seen low are enough comes None e = agree n low e
    by_gate room deep n seen low are enough comes (Some gate) e =
        let at = found (λ one. is_chip_net n one.output) chip.gates gate e in
        let all = comes at.0 gate at.1 (number_same gate.output.place n at.2) in
        let within : at.0 < length chip.gates = slice_get_within chip.gates at.0 gate at.1 in
        ap (combine gate)
        (same_inputs (λ i. on_net chip f combine room i.place) (λ i. on_net chip g combine room i.place) gate.inputs
        (λ j i here.
        deep i.place (at.0 ∷ seen) (input_there at.0 gate at.1 j i here) (one_more at.0 seen within all are) (omega (arith, enough))
        (λ k from at_from out. (leads k at.0 from gate at_from at.1 j i here out, all_through k at.0 (leads k at.0 from gate at_from at.1 j i here out) seen all))))
      where
        input_there : (k : ℕ) (one : EmuGate) → slice_get chip.gates k ≡ Some one → (j : ℕ) (i : ChipNetId) → slice_get one.inputs j ≡ Some i → i.place < chip.nets
        input_there k one at j i here =
            subst (IsThere chip.nets) (get_or_from_slice_get one.inputs j i i here) ((stands.gates k one at).inputs j i (slice_get_within one.inputs j i here))

        leads : (k to_k : ℕ) (from to : EmuGate) → slice_get chip.gates k ≡ Some from → slice_get chip.gates to_k ≡ Some to
            → (j : ℕ) (i : ChipNetId) → slice_get to.inputs j ≡ Some i → from.output.place ≡ i.place → LeadsTo chip k to_k
        leads k to_k from to at_from at_to j i here out =
            next k to_k from to at_from at_to
            (subst (Contains to.inputs) (ap (λ (m : ℕ). let id : ChipNetId = record { place = m } in id) (sym out)) (contains_at to.inputs j i here))

    same : (room : ℕ) → Same room
    same zero n seen low are enough comes = at_end n seen low are (omega (arith, enough)) comes (gate_of chip n) refl
    same (suc room) n seen low are enough comes = by_gate room (same room) n seen low are enough comes (gate_of chip n) refl

    -- what comes to a net is the same, where what comes to nets without a gate is
    pub same_through : (n : ℕ) → n < chip.nets → through_gates chip f combine n ≡ through_gates chip g combine n
    same_through n low =
        same (length chip.gates) n [] low (record { low = All-nil (λ s. s < length chip.gates); once = λ m. omega arith }) (omega arith) (λ k gate at out. tt)

  -- ## Nets without a gate

  none_drive : (p : EmuGate → Bool) (gates : List EmuGate) → find p gates ≡ None → count_by p gates ≡ 0
  none_drive p [] none = refl
  none_drive p (gate ∷ gates) none = go (none_drive p gates) (p gate) refl
    where
      go : (find p gates ≡ None → count_by p gates ≡ 0) → (b : Bool) → p gate ≡ b → count_by p (gate ∷ gates) ≡ 0
      go rest true e = absurd (none-some gate (sym (sym (ap (λ b. cond b (Some gate) (find p gates)) e) ∙ none)))
      go rest false e =
          let here : count_by p (gate ∷ gates) ≡ one_if (p gate) + count_by p gates = sum_by-cons (λ x. one_if (p x)) gate gates in
          let zero_here : one_if (p gate) ≡ 0 = ap one_if e in
          let others : count_by p gates ≡ 0 = rest (sym (ap (λ b. cond b (Some gate) (find p gates)) e) ∙ none) in
          omega (arith, here, zero_here, others)

  -- a net that no gate drives is that of a register or of a read port
  pub source_there : (n : ℕ) → n < chip.nets → gate_of chip n ≡ None → is_source chip n ≡ true
  source_there n low none =
      go (count_by (λ register. is_chip_net n register.q) chip.registers) refl
    where
      no_gate : count_by (λ gate. is_chip_net n gate.output) chip.gates ≡ 0
      no_gate = none_drive (λ gate. is_chip_net n gate.output) chip.gates none

      go : (count : ℕ) → count_by (λ register. is_chip_net n register.q) chip.registers ≡ count → is_source chip n ≡ true
      go zero e =
          let one : net_drivers chip n ≡ 1 = stands.drivers n low in
          let read : 0 < count_by (is_chip_net n) (read_nets chip) = omega (arith, one, no_gate, e) in
          let at = counted_found (is_chip_net n) (read_nets chip) read in
          either (list_any (λ (register : EmuRegister). is_chip_net n register.q) chip.registers) (any_at (is_chip_net n) (read_nets chip) at.0 at.1 at.2 at.3)
        where
          either : (b : Bool) → list_any (is_chip_net n) (read_nets chip) ≡ true → (b || list_any (is_chip_net n) (read_nets chip)) ≡ true
          either true e = refl
          either false e = e
      go (suc count) e =
          let at = counted_found (λ (register : EmuRegister). is_chip_net n register.q) chip.registers (omega (arith, e)) in
          ap (λ b. b || list_any (is_chip_net n) (read_nets chip)) (any_at (λ (register : EmuRegister). is_chip_net n register.q) chip.registers at.0 at.1 at.2 at.3)
