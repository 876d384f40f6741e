-- The marks that a frame starts with.
use Rattle.std.proofs.Common.{◌≡◌, ◌<◌, ◌≤◌, ◌+◌, ℕ, zero, suc, Bool, true, false, cond, List, [], ◌∷◌, ◌++◌, take, set, get_or, length, refl, sym, ap, subst, ◌∙◌, inl, inr, if◌then◌else◌, arith}
use Rattle.std.specs.Prelude.{◌==◌, ◌||◌, not, ◌⊎◌, Option, Some, None, slice_get, is_some, find, count_by}
use Rattle.std.specs.List.{enumerate_from}
use Rattle.std.specs.Option.{option_or}
use Rattle.std.proofs.lemmas.Bool.{cases_eq}
use Rattle.std.proofs.lemmas.List.{length-map, get_or-map, get_or_default}
use Rattle.std.proofs.lemmas.List.FromFn.{length-enumerate_from, get_or-enumerate_from}
use Rattle.std.proofs.lemmas.List.Sums.{count_by_more_yes, count_by_more_no}
use Rattle.std.proofs.lemmas.List.{length-set, get_or-set_same, get_or-set_other, take_more, take_all}
use Rattle.std.proofs.lemmas.List.Folds.{find-append}
use Rattle.std.proofs.lemmas.Option.{slice_get_within, slice_get-get_or, get_or_from_slice_get}
use Rattle.id_arena.specs.declared.wire.Wire.{Wire}
use Rattle.id_arena.specs.declared.keys.MemId.{MemId}
use Rattle.design_core.specs.declared.node.NodeId.{NodeId}
use Rattle.design_core.specs.declared.node.NodeId.TheVariants as node
use Rattle.design_core.specs.declared.element.WritePort.{WritePort}
use Rattle.design_core.specs.Dependency.{write_nodes}
use Rattle.design_core.specs.declared.parts.Parts.{Parts}
use Rattle.design_core.specs.declared.element.Memory.{Memory}
use Rattle.design_core.proofs.Owning.{get-set_other, get-set_same}
use Rattle.gate_pass.specs.Gates.{value_on}
use Rattle.chip_pass.specs.Chips.{ChipState, ChipOthersWait, IsChipPass}
use Rattle.mark_rule.specs.Gates.{gate_gives}
use Rattle.emu_machine.specs.declared.netlist.EmuGate.{EmuGate}
use Rattle.emu_machine.specs.Results.{Results}
use Rattle.emu_machine.specs.Building.{IsBuilt}
use Rattle.mark_rule.proofs.Free.{chip_formed}
use Rattle.emu_machine.specs.Netlist.{chip_at, is_chip_net, gate_of}
use Rattle.emu_machine.specs.Mapped.{subject, is_kept}
use Rattle.emu_machine.specs.Marks.{Mark, no_mark, widened, start_marks}
use Rattle.facts.proofs.Tests.{no, same_number}
use Rattle.frame_marks.specs.declared.tables.MemoryMarks.{MemoryMarks}
use Rattle.frame_marks.specs.Frames.{frame_state, mark_in, memory_in, unwritten}
use Rattle.frame_marks.specs.Starts.{OutputsTold, first_mark, start_mark, start_memory, ChipHasStarted, NetsHaveStarted, HaveStarted, RowHasStarted, MemoriesHaveStarted, WiresHaveStarted}
use Rattle.frame_marks.specs.Tables.{AreTables, AreChipTables, AreMemoryTables, AllOthersWait, IsBetween}
use Rattle.frame_marks.proofs.Giving.{is_other}
use Rattle.frame_marks.proofs.Numbers.{net_chip_low}
use Rattle.frame_marks.proofs.Passing.{tables_set, mark_same, mark_other}

-- ## Nets that gates drive

abbrev drives : ℕ → EmuGate → Bool
drives n gate = is_chip_net n gate.output

or_or : {T : Type 0} (x : Bool) (o p : Option T) → (x || is_some (option_or o p)) ≡ ((x || is_some o) || is_some p)
or_or true o p = refl
or_or false None p = refl
or_or false (Some a) p = refl

find_more : (gates : List EmuGate) (k : ℕ) (gate : EmuGate) → slice_get gates k ≡ Some gate → (n : ℕ)
    → find (drives n) (take (k + 1) gates) ≡ option_or (find (drives n) (take k gates)) (if drives n gate then Some gate else None)
find_more gates k gate at n =
    ap (find (drives n)) (take_more gates k gate (slice_get_within gates k gate at) ∙ ap (λ last. take k gates ++ last ∷ []) (get_or_from_slice_get gates k gate gate at))
    ∙ find-append (drives n) (take k gates) (gate ∷ [])
    ∙ ap (option_or (find (drives n) (take k gates))) (one (drives n gate) refl)
  where
    one : (b : Bool) → drives n gate ≡ b → find (drives n) (gate ∷ []) ≡ (if b then Some gate else None)
    one true e = ap (λ b. cond b (Some gate) None) e
    one false e = ap (λ b. cond b (Some gate) None) e

if_some : (b : Bool) (gate : EmuGate) → is_some (if b then Some gate else None) ≡ b
if_some true gate = refl
if_some false gate = refl

module _ (gates : List EmuGate) (k : ℕ) (gate : EmuGate) (at : slice_get gates k ≡ Some gate) (old now : List Bool) (told : OutputsTold (take k gates) old now) where
  next_told : (n : ℕ) → (get_or old n false || is_some (find (drives n) (take (k + 1) gates))) ≡ ((get_or old n false || is_some (find (drives n) (take k gates))) || drives n gate)
  next_told n =
      ap (λ o. get_or old n false || is_some o) (find_more gates k gate at n)
      ∙ or_or (get_or old n false) (find (drives n) (take k gates)) (if drives n gate then Some gate else None)
      ∙ ap (λ b. (get_or old n false || is_some (find (drives n) (take k gates))) || b) (if_some (drives n gate) gate)

  or_true : (b : Bool) → (b || true) ≡ true
  or_true true = refl
  or_true false = refl

  or_false : (b : Bool) → (b || false) ≡ b
  or_false true = refl
  or_false false = refl

  pub one_told : gate.output.place < length now → OutputsTold (take (k + 1) gates) old (set now gate.output.place true)
  one_told low =
      record {
        count = length-set now gate.output.place true ∙ told.count;
        tells = λ n within. go n within (cases_eq gate.output.place n);
      }
    where
      go : (n : ℕ) → n < length old → (gate.output.place ≡ n) ⊎ (gate.output.place ≡ n → ⊥)
          → get_or (set now gate.output.place true) n false ≡ (get_or old n false || is_some (find (drives n) (take (k + 1) gates)))
      go n within (inl same) =
          ap (λ (j : ℕ). get_or (set now gate.output.place true) j false) (sym same)
          ∙ get_or-set_same now gate.output.place true false low
          ∙ sym (next_told n ∙ ap (λ b. (get_or old n false || is_some (find (drives n) (take k gates))) || b) (same_number gate.output.place n same)
          ∙ or_true (get_or old n false || is_some (find (drives n) (take k gates))))
      go n within (inr other) =
          get_or-set_other now gate.output.place n true false (λ e. other (sym e))
          ∙ told.tells n within
          ∙ sym (next_told n ∙ ap (λ b. (get_or old n false || is_some (find (drives n) (take k gates))) || b) (is_other gate.output.place n other)
          ∙ or_false (get_or old n false || is_some (find (drives n) (take k gates))))

  pub one_far : length now ≤ gate.output.place → OutputsTold (take (k + 1) gates) old now
  one_far high =
      record {
        count = told.count;
        tells = λ n within.
            told.tells n within
            ∙ sym (next_told n
            ∙ ap (λ b. (get_or old n false || is_some (find (drives n) (take k gates))) || b) (is_other gate.output.place n (λ e. absurd (omega (arith, e, high, within, told.count))))
            ∙ or_false (get_or old n false || is_some (find (drives n) (take k gates))));
      }

pub none_told : (old : List Bool) → OutputsTold [] old old
none_told old = record { count = refl; tells = λ n low. or_false (get_or old n false) }
  where
    or_false : (b : Bool) → b ≡ (b || false)
    or_false true = refl
    or_false false = refl

-- ## Chips, one after the other

pub record FirstStarted (p : Parts) (r : Results) (inside : NodeId → Bool) (count : ℕ) (chips : List (ChipState Mark)) : Type 0 where
  pub tables : AreChipTables r chips
  pub others : (c : ℕ) (s : ChipState Mark) → c < count → slice_get chips c ≡ Some s → ChipOthersWait (gate_gives p r inside c) no_mark s
  pub started : (c n : ℕ) → c < count → n < (chip_at r.net c).nets → gate_of (chip_at r.net c) n ≡ None → mark_in chips c n ≡ first_mark r inside c n

-- ## Memories, one chip after the other

pub record FirstMemories (p : Parts) (r : Results) (inside : NodeId → Bool) (count : ℕ) (memories : List (List MemoryMarks)) : Type 0 where
  pub tables : AreMemoryTables r memories
  pub started : (c m : ℕ) → c < count → m < length (chip_at r.net c).memories → memory_in memories c m ≡ start_memory p r inside c m

-- ## The start

pub begun : (p : Parts) (r : Results) (wires : List Wire) (inside : NodeId → Bool) (chips : List (ChipState Mark)) (memories : List (List MemoryMarks)) (carried : List Mark)
    → AreTables (frame_state p r wires chips memories carried) → AllOthersWait p r inside chips → HaveStarted r inside chips → MemoriesHaveStarted p r inside memories → WiresHaveStarted carried
    → IsBetween inside (start_marks p r inside) (frame_state p r wires chips memories carried)
begun p r wires inside chips memories carried tables others started written idle =
    record {
      tables = tables;
      free = started;
      rest = record { memories = written; carried = λ w low. idle w };
      others = others;
    }

module _ (p : Parts) (r : Results) (inside : NodeId → Bool) (c : ℕ) where
  pub one_started : (chips : List (ChipState Mark)) → FirstStarted p r inside c chips → (s new : ChipState Mark) → slice_get chips c ≡ Some s
      → new.chip ≡ s.chip → IsChipPass new → ChipOthersWait (gate_gives p r inside c) no_mark new → ChipHasStarted r inside c new
      → FirstStarted p r inside (c + 1) (set chips c new)
  one_started chips first s new at chip is others started =
      record {
        tables = tables_set r chips first.tables c s new at chip is;
        others = λ k t low there. other k t low there (cases_eq k c);
        started = λ k n low within free. go k n low within free (cases_eq k c);
      }
    where
      other : (k : ℕ) (t : ChipState Mark) → k < c + 1 → slice_get (set chips c new) k ≡ Some t → (k ≡ c) ⊎ (k ≡ c → ⊥) → ChipOthersWait (gate_gives p r inside k) no_mark t
      other k t low there (inl same) =
          let one : new ≡ t = get-set_same chips c new t (subst (λ (i : ℕ). slice_get (set chips c new) i ≡ Some t) same there) in
          subst (λ (i : ℕ). ChipOthersWait (gate_gives p r inside i) no_mark t) (sym same) (subst (λ (x : ChipState Mark). ChipOthersWait (gate_gives p r inside c) no_mark x) one others)
      other k t low there (inr apart) =
          first.others k t (omega (arith, low, apart)) (sym (get-set_other chips c k new apart) ∙ there)

      go : (k n : ℕ) → k < c + 1 → n < (chip_at r.net k).nets → gate_of (chip_at r.net k) n ≡ None → (k ≡ c) ⊎ (k ≡ c → ⊥) → mark_in (set chips c new) k n ≡ first_mark r inside k n
      go k n low within free (inl same) =
          ap (λ (i : ℕ). mark_in (set chips c new) i n) same
          ∙ mark_same r chips first.tables c s new at n
          ∙ started n (subst (λ (i : ℕ). n < (chip_at r.net i).nets) same within) (subst (λ (i : ℕ). gate_of (chip_at r.net i) n ≡ None) same free)
          ∙ ap (λ (i : ℕ). first_mark r inside i n) (sym same)
      go k n low within free (inr apart) =
          mark_other r chips first.tables c s new at k n apart ∙ first.started k n (omega (arith, low, apart)) within free

  pub one_begun : (memories : List (List MemoryMarks)) → FirstMemories p r inside c memories → (row : List MemoryMarks) → c < length r.net
      → length row ≡ length (get_or memories c []) → RowHasStarted p r inside c row → FirstMemories p r inside (c + 1) (set memories c row)
  one_begun memories first row low size started =
      record {
        tables = record { count = length-set memories c row ∙ first.tables.count; sizes = λ k. sized k (cases_eq k c) };
        started = λ k m below within. go k m below within (cases_eq k c);
      }
    where
      here : c < length memories
      here = omega (arith, first.tables.count, low)

      row_at : get_or (set memories c row) c [] ≡ row
      row_at = get_or-set_same memories c row [] here

      size_is : length row ≡ length (chip_at r.net c).memories
      size_is = size ∙ first.tables.sizes c

      sized : (k : ℕ) → (k ≡ c) ⊎ (k ≡ c → ⊥) → length (get_or (set memories c row) k []) ≡ length (chip_at r.net k).memories
      sized k (inl same) =
          ap (λ (i : ℕ). length (get_or (set memories c row) i [])) same ∙ ap length row_at ∙ size_is ∙ ap (λ (i : ℕ). length (chip_at r.net i).memories) (sym same)
      sized k (inr apart) = ap length (get_or-set_other memories c k row [] apart) ∙ first.tables.sizes k

      go : (k m : ℕ) → k < c + 1 → m < length (chip_at r.net k).memories → (k ≡ c) ⊎ (k ≡ c → ⊥) → memory_in (set memories c row) k m ≡ start_memory p r inside k m
      go k m below within (inl same) =
          let low_m : m < length (chip_at r.net c).memories = subst (λ (i : ℕ). m < length (chip_at r.net i).memories) same within in
          let at : slice_get row m ≡ Some (get_or row m unwritten) = slice_get-get_or row m unwritten (omega (arith, low_m, size_is)) in
          ap (λ (i : ℕ). memory_in (set memories c row) i m) same
          ∙ ap (λ some. get_or some m unwritten) row_at
          ∙ started m (get_or row m unwritten) at
          ∙ ap (λ (i : ℕ). start_memory p r inside i m) (sym same)
      go k m below within (inr apart) =
          ap (λ some. get_or some m unwritten) (get_or-set_other memories c k row [] apart) ∙ first.started k m (omega (arith, below, apart)) within

pub all_started : (p : Parts) (r : Results) (inside : NodeId → Bool) (count : ℕ) (chips : List (ChipState Mark)) → length chips ≤ count → FirstStarted p r inside count chips
    → AllOthersWait p r inside chips × HaveStarted r inside chips
all_started p r inside count chips whole first = (
  λ c s at. first.others c s (let low : c < length chips = slice_get_within chips c s at in omega (arith, low, whole)) at,
  λ c n low free.
      first.started c n (let here : c < length r.net = net_chip_low r.net c n low in omega (arith, here, whole, first.tables.count)) low free,
)

-- one more net of a chip has started
module _ (r : Results) (inside : NodeId → Bool) (c : ℕ) (k : ℕ) where
  pub net_started : (s new : ChipState Mark) → NetsHaveStarted r inside c k s → (kept : Bool) → kept ≡ is_kept r c k
      → ((n : ℕ) → value_on no_mark new.pass.values n ≡ (if k == n then widened inside (subject r c k) (start_mark kept) else value_on no_mark s.pass.values n))
      → NetsHaveStarted r inside c (k + 1) new
  net_started s new first kept is taken n low free = go (cases_eq k n)
    where
      go : (k ≡ n) ⊎ (k ≡ n → ⊥) → value_on no_mark new.pass.values n ≡ first_mark r inside c n
      go (inl same) =
          taken n
          ∙ ap (λ b. if b then widened inside (subject r c k) (start_mark kept) else value_on no_mark s.pass.values n) (same_number k n same)
          ∙ ap (λ b. widened inside (subject r c k) (start_mark b)) is
          ∙ ap (λ (i : ℕ). first_mark r inside c i) same
      go (inr apart) =
          taken n
          ∙ ap (λ b. if b then widened inside (subject r c k) (start_mark kept) else value_on no_mark s.pass.values n) (is_other k n apart)
          ∙ first n (omega (arith, low, apart)) free

  pub net_gated : (s : ChipState Mark) → NetsHaveStarted r inside c k s → (gated : Bool) → gated ≡ is_some (gate_of (chip_at r.net c) k) → gated ≡ true → NetsHaveStarted r inside c (k + 1) s
  net_gated s first gated is gates n low free = go (cases_eq k n)
    where
      go : (k ≡ n) ⊎ (k ≡ n → ⊥) → value_on no_mark s.pass.values n ≡ first_mark r inside c n
      go (inl same) = no (sym (ap is_some (ap (gate_of (chip_at r.net c)) same ∙ free)) ∙ sym is ∙ gates)
      go (inr apart) = first n (omega (arith, low, apart)) free

-- a net that is not gated is free
pub free_of : (o : Option EmuGate) (gated : Bool) → gated ≡ is_some o → gated ≡ false → o ≡ None
free_of None gated is none = refl
free_of (Some gate) gated is none = no (sym none ∙ is)

-- the write nodes of a memory, one after the other
one_there : {X : Type 0} (xs : List X) (k : ℕ) → k < length xs → (x : X) × (slice_get xs k ≡ Some x)
one_there [] k low = absurd (omega (arith, low))
one_there (x ∷ xs) zero low = (x, refl)
one_there (x ∷ xs) (suc k) low = one_there xs k (let l : k < length xs = omega (arith, low) in l)

module _ (of : MemId) (memory : Memory) where
  abbrev nodes : List NodeId
  nodes = write_nodes of memory

  pub node_count : length nodes ≡ length memory.writes
  node_count =
      length-map (enumerate_from 0 memory.writes) (λ (e : ℕ × WritePort). node.Write of e.0) ∙ length-enumerate_from 0 memory.writes

  node_is : (k : ℕ) (port : WritePort) (other : NodeId) → k < length memory.writes → get_or nodes k other ≡ node.Write of k
  node_is k port other low =
      get_or-map (λ (e : ℕ × WritePort). node.Write of e.0) (enumerate_from 0 memory.writes) k (0, port) other (let size : length (enumerate_from 0 memory.writes) ≡ length memory.writes = length-enumerate_from 0 memory.writes in omega (arith, size, low))
      ∙ ap (λ (e : ℕ × WritePort). node.Write of e.0) (get_or-enumerate_from 0 memory.writes k (0, port) low)
      ∙ ap (λ (n : ℕ). node.Write of n) (let same : 0 + k ≡ k = omega arith in same)

  some_port : (k : ℕ) → k < length memory.writes → WritePort
  some_port k low = (one_there memory.writes k low).0

  module _ (inside : NodeId → Bool) (k : ℕ) (low : k < length memory.writes) where
    abbrev here : NodeId
    here = node.Write of k

    low_node : k < length nodes
    low_node = let size : length nodes ≡ length memory.writes = node_count in omega (arith, size, low)

    pub one_outside : (outside : ℕ) → outside ≡ count_by (λ a. not (inside a)) (take k nodes) → inside here ≡ false
        → outside + 1 ≡ count_by (λ a. not (inside a)) (take (k + 1) nodes)
    one_outside outside is none =
        ap (λ (n : ℕ). n + 1) is
        ∙ sym (count_by_more_yes (λ a. not (inside a)) nodes k here low_node (ap (λ a. not (inside a)) (node_is k (some_port k low) here low) ∙ ap not none))

    pub one_inside : (outside : ℕ) → outside ≡ count_by (λ a. not (inside a)) (take k nodes) → inside here ≡ true
        → outside ≡ count_by (λ a. not (inside a)) (take (k + 1) nodes)
    one_inside outside is some =
        is
        ∙ sym (count_by_more_no (λ a. not (inside a)) nodes k here low_node (ap (λ a. not (inside a)) (node_is k (some_port k low) here low) ∙ ap not some))

  pub all_outside : (inside : NodeId → Bool) (k outside : ℕ) → length memory.writes ≤ k → outside ≡ count_by (λ a. not (inside a)) (take k nodes)
      → outside ≡ count_by (λ a. not (inside a)) nodes
  all_outside inside k outside whole is =
      is ∙ ap (count_by (λ a. not (inside a))) (take_all k nodes (let size : length nodes ≡ length memory.writes = node_count in omega (arith, size, whole)))

-- ## Nets that gates drive, one gate after the other

one_found : (gate : EmuGate) (n : ℕ) → is_some (find (drives n) (gate ∷ [])) ≡ drives n gate
one_found gate n = go (drives n gate) refl
  where
    go : (b : Bool) → drives n gate ≡ b → is_some (find (drives n) (gate ∷ [])) ≡ b
    go true e = ap (λ b. is_some (cond b (Some gate) None)) e
    go false e = ap (λ b. is_some (cond b (Some gate) None)) e

pub told_more : (gates : List EmuGate) (k : ℕ) (gate : EmuGate) → slice_get gates k ≡ Some gate → (old now new : List Bool)
    → OutputsTold (take k gates) old now → OutputsTold (gate ∷ []) now new → OutputsTold (take (k + 1) gates) old new
told_more gates k gate at old now new first one =
    record {
      count = one.count ∙ first.count;
      tells = λ n low.
          one.tells n (omega (arith, low, first.count))
          ∙ ap (λ b. b || is_some (find (drives n) (gate ∷ []))) (first.tells n low)
          ∙ ap (λ b. (get_or old n false || is_some (find (drives n) (take k gates))) || b) (one_found gate n)
          ∙ sym (ap (λ o. get_or old n false || is_some o) (find_more gates k gate at n)
          ∙ or_or (get_or old n false) (find (drives n) (take k gates)) (if drives n gate then Some gate else None)
          ∙ ap (λ b. (get_or old n false || is_some (find (drives n) (take k gates))) || b) (if_some (drives n gate) gate));
    }

pub told_here : (gate : EmuGate) (now : List Bool) → gate.output.place < length now → OutputsTold (gate ∷ []) now (set now gate.output.place true)
told_here gate now low = one_told (gate ∷ []) 0 gate refl now now (none_told now) low

pub told_far : (gate : EmuGate) (now : List Bool) → length now ≤ gate.output.place → OutputsTold (gate ∷ []) now now
told_far gate now high = one_far (gate ∷ []) 0 gate refl now now (none_told now) high

-- ## Rows of memories

module _ (r : Results) (memories : List (List MemoryMarks)) (tables : AreMemoryTables r memories) (c : ℕ) (d : List MemoryMarks) (low : c < length r.net) where
  pub row_here : get_or memories c d ≡ get_or memories c []
  row_here = get_or_default memories c d [] (omega (arith, tables.count, low))

  pub row_few : IsBuilt r.net → length (get_or memories c d) ≤ 4294967295
  row_few built =
      let size : length (get_or memories c d) ≡ length (chip_at r.net c).memories = ap length row_here ∙ tables.sizes c in
      let few : length (chip_at r.net c).memories ≤ 4294967294 = (chip_formed r.net built.formed c).few_memories in
      omega (arith, size, few)
