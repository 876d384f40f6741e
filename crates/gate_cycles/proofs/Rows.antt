-- The graph of the gates: its rows name the gates that drive inputs, and it leads on as the gates do.
use Rattle.std.proofs.Common.{◌≡◌, ℕ, zero, suc, ◌+◌, ◌<◌, ◌≤◌, ◌≢◌, ◌⊎◌, inl, inr, arith, Bool, true, false, List, [], ◌∷◌, ◌++◌, length, refl, subst, sym, ap, ◌∙◌, if◌then◌else◌, set, map}
use Rattle.emu_io.specs.declared.no_memory.NoMemory.{NoMemory}
use Rattle.std.specs.Prelude.{Result, Ok, Err, IfOk, ◌==◌, option_map, Option, Some, None, slice_get, count_by, flat_map, Contains, position}
use Rattle.std.proofs.lemmas.Option.{none-some, same_Some, slice_get_within, slice_get-map, get_or_from_slice_get}
use Rattle.std.proofs.lemmas.List.{get_or-set_same, get_or-set_other, get_or_past, length-set, length-map}
use Rattle.std.proofs.lemmas.Bool.{cases_eq, cases_lt}
use Rattle.id_arena.specs.declared.keys.ChipNetId.{ChipNetId}
use Rattle.graph_rank.specs.Rows.{row, InRange, Leads, step, through}
use Rattle.graph_cycle.specs.Cyclic.{IsLeastOnCycle as IsLeastInGraph}
use Rattle.emu_machine.specs.declared.netlist.Chip.{Chip}
use Rattle.emu_machine.specs.declared.netlist.EmuGate.{EmuGate}
use Rattle.emu_machine.specs.Netlist.{is_chip_net, net_drivers, LeadsTo, next, through as lead_through, IsOnCycle}
use Rattle.facts.proofs.Tests.{number_same, same_number, no}
use Rattle.facts.proofs.Counting.{found}
use Rattle.facts.proofs.Lists.{Has, Under, has_under, under_has}
use Rattle.facts.proofs.Places.{at_contains, contains_at}
use Rattle.gate_cycles.specs.Gates.{none, gate_named, Names, IsTableOf, listed, drivers, gate_row, AreGateRows, IsDriven, IsLeastOnCycle}

module _ (chip : Chip) (d : IsDriven chip) where
  abbrev at_net : ℕ → EmuGate → Bool
  at_net n gate = is_chip_net n gate.output

  pub output_low : (k : ℕ) (gate : EmuGate) → slice_get chip.gates k ≡ Some gate → gate.output.place < chip.nets
  output_low k gate at = (d.formed.gates k gate at).output

  one_gate : (n : ℕ) → n < chip.nets → count_by (at_net n) chip.gates ≤ 1
  one_gate n low = let one : net_drivers chip n ≡ 1 = d.driven n low in omega (arith, one)

  -- a net is driven by one gate
  pub same_gate : (j k : ℕ) (gate other : EmuGate) → slice_get chip.gates j ≡ Some gate → slice_get chip.gates k ≡ Some other
      → gate.output.place ≡ other.output.place → j ≡ k
  same_gate j k gate other aj ak e =
      let few = one_gate other.output.place (output_low k other ak) in
      let first : position (at_net other.output.place) chip.gates ≡ Some j = found (at_net other.output.place) chip.gates j gate aj (same_number gate.output.place other.output.place e) few in
      let second : position (at_net other.output.place) chip.gates ≡ Some k = found (at_net other.output.place) chip.gates k other ak (same_number other.output.place other.output.place refl) few in
      same_Some j k (sym first ∙ second)

  -- ## The table of the gates that drive nets

  pub one_more : (k : ℕ) (gate : EmuGate) (old new : List ℕ) → slice_get chip.gates k ≡ Some gate
      → IsTableOf chip k old → new ≡ set old gate.output.place k → IsTableOf chip (k + 1) new
  one_more k gate old new at t is =
      record { nets = ap length is ∙ length-set old gate.output.place k ∙ t.nets; named = named; all = all }
    where
      low : gate.output.place < length old
      low = let e = t.nets in let l = output_low k gate at in omega (arith, e, l)

      here : gate_named new gate.output.place ≡ k
      here = ap (λ (xs : List ℕ). gate_named xs gate.output.place) is ∙ get_or-set_same old gate.output.place k none low

      there : (n : ℕ) → (n ≡ gate.output.place → ⊥) → gate_named new n ≡ gate_named old n
      there n other =
          ap (λ (xs : List ℕ). gate_named xs n) is ∙ get_or-set_other old gate.output.place n k none other

      named : (n : ℕ) → gate_named new n ≢ none → Names chip.gates (k + 1) n (gate_named new n)
      named n some = go (cases_eq n gate.output.place)
        where
          go : (n ≡ gate.output.place) ⊎ (n ≡ gate.output.place → ⊥) → Names chip.gates (k + 1) n (gate_named new n)
          go (inl same) =
              let value : gate_named new n ≡ k = ap (gate_named new) same ∙ here in
              record { low = omega (arith, value); gate = gate; at = ap (slice_get chip.gates) value ∙ at; drives = sym same }
          go (inr other) =
              let value : gate_named new n ≡ gate_named old n = there n other in
              let r : Names chip.gates k n (gate_named old n) = t.named n (λ w. some (value ∙ w)) in
              record {
                low = let l = r.low in omega (arith, value, l);
                gate = r.gate;
                at = ap (slice_get chip.gates) value ∙ r.at;
                drives = r.drives;
              }

      all : (j : ℕ) (other : EmuGate) → j < k + 1 → slice_get chip.gates j ≡ Some other → gate_named new other.output.place ≡ j
      all j other less aj = go (cases_eq j k)
        where
          go : (j ≡ k) ⊎ (j ≡ k → ⊥) → gate_named new other.output.place ≡ j
          go (inl e) =
              let same : gate ≡ other = same_Some gate other (sym at ∙ ap (slice_get chip.gates) (sym e) ∙ aj) in
              ap (λ (g : EmuGate). gate_named new g.output.place) (sym same) ∙ here ∙ sym e
          go (inr apart) =
              there other.output.place (λ e. apart (same_gate j k other gate aj at e)) ∙ t.all j other (omega (arith, less, apart)) aj

  -- ## The rows

  module _ (rows : List (List ℕ)) (are : AreGateRows chip rows) where
    abbrev table : List ℕ
    table = are.table

    row_is : (k : ℕ) (gate : EmuGate) → slice_get chip.gates k ≡ Some gate → row rows k ≡ gate_row table gate
    row_is k gate at =
        get_or_from_slice_get rows k (gate_row table gate) []
        (ap (λ (rs : List (List ℕ)). slice_get rs k) are.are ∙ slice_get-map (gate_row table) chip.gates k ∙ ap (option_map (gate_row table)) at)

    pub row_count : length rows ≡ length chip.gates
    row_count = ap length are.are ∙ length-map chip.gates (gate_row table)

    -- what is listed of a number is the number, where it is a gate
    has_listed : (k j : ℕ) → Has (listed k) j → (k ≢ none) × (k ≡ j)
    has_listed k j h = go (k == none) refl
      where
        one : (n : ℕ) → slice_get (k ∷ []) n ≡ Some j → k ≡ j
        one zero e = same_Some k j e
        one (suc n) e = absurd (none-some j e)

        go : (b : Bool) → (k == none) ≡ b → (k ≢ none) × (k ≡ j)
        go true e = absurd (none-some j (subst (λ (b : Bool). slice_get (if b then [] else k ∷ []) h.place ≡ Some j) e h.at))
        go false e = (
          λ same. no (sym e ∙ same_number k none same),
          one h.place (subst (λ (b : Bool). slice_get (if b then [] else k ∷ []) h.place ≡ Some j) e h.at),
        )

    listed_has : (k : ℕ) → k ≢ none → Has (listed k) k
    listed_has k some = go (k == none) refl
      where
        go : (b : Bool) → (k == none) ≡ b → Has (listed k) k
        go true e = absurd (some (number_same k none e))
        go false e = record { place = 0; at = ap (λ (b : Bool). slice_get (if b then [] else k ∷ []) 0) e }

    same_id : (a b : ChipNetId) → a.place ≡ b.place → a ≡ b
    same_id a b e = ap {A = ℕ} {B = ChipNetId} (λ (k : ℕ). record { place = k }) e

    pub ends : {X : Type 0} (xs : List X) (k : ℕ) → slice_get xs k ≡ None → length xs ≤ k
    ends [] k e = omega arith
    ends (x ∷ xs) zero e = absurd (none-some x (sym e))
    ends (x ∷ xs) (suc k) e = let low : length xs ≤ k = ends xs k e in omega (arith, low)

    -- what a row names is a gate that drives an input
    row_gives : (k j : ℕ) → Contains (row rows k) j → LeadsTo chip j k
    row_gives k j h = go (slice_get chip.gates k) refl
      where
        go : (o : Option EmuGate) → slice_get chip.gates k ≡ o → LeadsTo chip j k
        go None e =
            let past : length chip.gates ≤ k = ends chip.gates k e in
            let far : row rows k ≡ [] = get_or_past rows k [] (let c = row_count in omega (arith, past, c)) in
            let at = at_contains [] j (subst (λ (r : List ℕ). Contains r j) far h) in
            absurd (none-some j at.1)
        go (Some gate) e =
            let at = at_contains (gate_row table gate) j (subst (λ (r : List ℕ). Contains r j) (row_is k gate e) h) in
            let u : Under (λ (net : ChipNetId). listed (gate_named table net.place)) gate.inputs j = under_has (λ (net : ChipNetId). listed (gate_named table net.place)) gate.inputs j (record { place = at.0; at = at.1 }) in
            let l = has_listed (gate_named table u.item.place) j u.has in
            let g : Names chip.gates (length chip.gates) u.item.place (gate_named table u.item.place) = are.tells.named u.item.place l.0 in
            next j k g.gate gate (ap (slice_get chip.gates) (sym l.1) ∙ g.at) e
            (contains_at gate.inputs u.place g.gate.output (u.at ∙ ap Some (sym (same_id g.gate.output u.item g.drives))))

    -- and each gate that drives an input is named
    pub row_has : (j k : ℕ) (from to : EmuGate) → slice_get chip.gates j ≡ Some from → slice_get chip.gates k ≡ Some to → Contains to.inputs from.output
        → Contains (row rows k) j
    row_has j k from to aj ak h =
        let low : j < length chip.gates = slice_get_within chip.gates j from aj in
        let value : gate_named table from.output.place ≡ j = are.tells.all j from low aj in
        let few = d.formed.few_gates in
        let some : gate_named table from.output.place ≢ none = (λ (e : gate_named table from.output.place ≡ none). omega (arith, value, e, low, few)) in
        let at = at_contains to.inputs from.output h in
        let has : Has (listed (gate_named table from.output.place)) j = subst (λ (n : ℕ). Has (listed (gate_named table from.output.place)) n) value (listed_has (gate_named table from.output.place) some) in
        let all : Has (gate_row table to) j = has_under (λ (net : ChipNetId). listed (gate_named table net.place)) to.inputs j (record { place = at.0; item = from.output; at = at.1; has = has }) in
        subst (λ (r : List ℕ). Contains r j) (sym (row_is k to ak)) (contains_at (gate_row table to) all.place j all.at)

    leader : (j k : ℕ) → LeadsTo chip j k → j < length chip.gates
    leader j k (next a b x y ax by h) = slice_get_within chip.gates a x ax
    leader j k (lead_through a b c l m) = leader a b l

    pub in_range : InRange rows
    in_range n j low h =
        let from : j < length chip.gates = leader j n (row_gives n j h) in
        let c = row_count in omega (arith, from, c)

    pub leads_back : (a b : ℕ) → Leads rows a b → LeadsTo chip b a
    leads_back a b (step x y h) = row_gives x y h
    leads_back a b (through x y z h l) = lead_through z y x (leads_back y z l) (row_gives x y h)

    joined : (a b c : ℕ) → Leads rows a b → Leads rows b c → Leads rows a c
    joined a b c (step x y h) m = through x y c h m
    joined a b c (through x y z h l) m = through x y c h (joined y z c l m)

    leads_on : (j k : ℕ) → LeadsTo chip j k → Leads rows k j
    leads_on j k (next a b x y ax by h) = step b a (row_has a b x y ax by h)
    leads_on j k (lead_through a b c l m) = joined c b a (leads_on b c m) (leads_on a b l)

    pub least : (o : Option ℕ) → IsLeastInGraph rows o → IsLeastOnCycle chip o
    least None h = λ (k : ℕ) (on : IsOnCycle chip k). h k (leads_on k k on)
    least (Some k) h = (leads_back k k h.0, λ (j : ℕ) (low : j < k) (on : IsOnCycle chip j). h.1 j low (leads_on j j on))

    pub least_told : (r : Result (Option ℕ) NoMemory) → IfOk r (λ o. IsLeastInGraph rows o) → IfOk r (λ o. IsLeastOnCycle chip o)
    least_told (Ok o) h = least o h
    least_told (Err e) h = h
