-- What is loaded from a valuation.
use Rattle.std.proofs.Common.{◌≡◌, ◌<◌, ◌≤◌, ◌+◌, ◌^◌, ℕ, zero, suc, Bool, true, false, List, [], ◌∷◌, ◌++◌, map, take, set, replicate, get_or, length, refl, sym, ap, subst, ◌∙◌, inl, inr, arith, if◌then◌else◌}
use Rattle.std.specs.Prelude.{◌&&◌, ◌||◌, ◌⊎◌, is_some, Option, Some, None, slice_get, unwrap_or, option_map, zip}
use Rattle.std.specs.List.{list_any, list_all, enumerate_from}
use Rattle.std.specs.Option.{option_map_or}
use Rattle.std.proofs.lemmas.Bool.{cases_eq, cases_lt, and_parts}
use Rattle.std.proofs.lemmas.List.{length-set, length-replicate, get_or-set_same, get_or-set_other, get_or-replicate, get_or_past, length-append, get_or_append_left, get_or_push, take_all}
use Rattle.std.proofs.lemmas.List.Folds.{list_any_more}
use Rattle.std.proofs.lemmas.Option.{none-some, same_Some, slice_get_within, slice_get-get_or, slice_get_past, get_or_from_slice_get}
use Rattle.id_arena.specs.declared.keys.NetId.{NetId}
use Rattle.id_arena.specs.declared.keys.ChipNetId.{ChipNetId}
use Rattle.design_core.specs.declared.element.Edge.{Edge}
use Rattle.design_core.specs.declared.element.Memory.{Memory}
use Rattle.design_core.specs.declared.element.ReadPort.{ReadPort}
use Rattle.design_core.specs.declared.parts.Parts.{Parts}
use Rattle.design_core.specs.Valuation.{Valuation, IsAddress}
use Rattle.emu_machine.specs.Building.{IsBuilt}
use Rattle.emu_machine.specs.declared.netlist.Chip.{Chip}
use Rattle.emu_machine.specs.declared.netlist.EmuMemory.{EmuMemory}
use Rattle.emu_machine.specs.declared.netlist.EmuRead.{EmuRead}
use Rattle.emu_machine.specs.declared.map.ChipMap.{ChipMap}
use Rattle.emu_machine.specs.declared.map.MemMap.{MemMap}
use Rattle.emu_machine.specs.declared.map.Subject.{Subject}
use Rattle.emu_machine.specs.declared.map.Subject.TheVariants.{Net, Up, Down, Take, Next, TakeWrite, Old, TakeRead}
use Rattle.emu_machine.specs.Results.{Results, MapFits}
use Rattle.emu_machine.specs.Netlist.{no_chip, chip_at, is_chip_net}
use Rattle.emu_machine.specs.Mapped.{no_chip_map, chip_map, subject, memory_of, is_kept, kept_by_register, kept_by_read, IsValueOf, IsLoaded}
use Rattle.emu_machine.specs.Origins.{same_subject, have_subjects, is_net_subject, loading_fits, loading_of, register_pins_fit, keeps_read, read_fits, memory_ports_fit, memory_fits}
use Rattle.facts.proofs.Lists.{no}
use Rattle.facts.proofs.Places.{any_found, at_zip, zip_at, at_same_place}
use Rattle.facts.proofs.Tests.{left, right, same_number, number_same, not_true}
use Rattle.cycle_sim.specs.Values.{cell}
use Rattle.cycle_sim.specs.Tables.{tables, word_in, state_of, HaveSizes, HaveWords}
use Rattle.cycle_sim.specs.Loading.{FreeAreZero, CanLoad, told, kept_by_port, kept_by_memory, kept_as_q, Gains, IsHeld, AreHeld, MemoriesLoad, FirstCopied, AreCopied}
use Rattle.cycle_sim.proofs.Counting.{is_other}
use Rattle.cycle_sim.proofs.Chips.{chip_here}

-- ## One net

pub is_held : (net : ChipNetId) (entry : ChipMap) (values table : List Bool) → net.place < length table
    → (what : Subject) → slice_get entry.nets net.place ≡ Some what
    → (after : List Bool) → after ≡ set table net.place (told values (Some what))
    → Gains (λ n. is_chip_net n net) entry values table after
is_held net entry values table low what at after put =
    record {
      size = ap length put ∙ length-set table net.place (told values (Some what));
      each = λ n. ap (λ t. get_or t n false) put ∙ go n (cases_eq n net.place);
    }
  where
    go : (n : ℕ) → (n ≡ net.place) ⊎ (n ≡ net.place → ⊥)
        → get_or (set table net.place (told values (Some what))) n false
        ≡ (if is_chip_net n net then told values (slice_get entry.nets n) else get_or table n false)
    go n (inl same) =
        ap (λ (k : ℕ). get_or (set table net.place (told values (Some what))) k false) same
        ∙ get_or-set_same table net.place (told values (Some what)) false low
        ∙ ap (told values) (sym at)
        ∙ ap (λ (k : ℕ). told values (slice_get entry.nets k)) (sym same)
        ∙ sym (ap (λ b. if b then told values (slice_get entry.nets n) else get_or table n false) (same_number net.place n (sym same)))
    go n (inr other) =
        get_or-set_other table net.place n (told values (Some what)) false other
        ∙ sym (ap (λ b. if b then told values (slice_get entry.nets n) else get_or table n false) (is_other net.place n (λ e. other (sym e))))

-- ## Several nets

both : (any here : Bool) (value old mid new : Bool) → new ≡ (if here then value else mid) → mid ≡ (if any then value else old)
    → new ≡ (if any || here then value else old)
both true true value old mid new e f = e
both true false value old mid new e f = e ∙ f
both false true value old mid new e f = e
both false false value old mid new e f = e ∙ f

module _ (entry : ChipMap) (values : List Bool) where
  pub nobody_gains : (held : List Bool) → Gains (λ n. false) entry values held held
  nobody_gains held = record { size = refl; each = λ n. refl }

  two_gain : (some other : ℕ → Bool) (before mid after : List Bool) → Gains some entry values before mid → Gains other entry values mid after
      → Gains (λ n. some n || other n) entry values before after
  two_gain some other before mid after first second =
      record {
        size = second.size ∙ first.size;
        each = λ n. both (some n) (other n) (told values (slice_get entry.nets n)) (get_or before n false) (get_or mid n false) (get_or after n false) (second.each n) (first.each n);
      }

  same_gain : (some other : ℕ → Bool) (before after : List Bool) → ((n : ℕ) → some n ≡ other n) → Gains some entry values before after → Gains other entry values before after
  same_gain some other before after same gains =
      record { size = gains.size; each = λ n. gains.each n ∙ ap (λ b. if b then told values (slice_get entry.nets n) else get_or before n false) (same n) }

  pub next_gains : {X : Type 0} (test : ℕ → X → Bool) (xs : List X) (k : ℕ) (x : X) → slice_get xs k ≡ Some x → (before mid after : List Bool)
      → Gains (λ n. list_any (test n) (take k xs)) entry values before mid → Gains (λ n. test n x) entry values mid after
      → Gains (λ n. list_any (test n) (take (k + 1) xs)) entry values before after
  next_gains test xs k x at before mid after first second =
      same_gain (λ n. list_any (test n) (take k xs) || test n x) (λ n. list_any (test n) (take (k + 1) xs)) before after
      (λ n.
      sym (list_any_more (test n) xs k x (slice_get_within xs k x at)
      ∙ ap (λ y. list_any (test n) (take k xs) || test n y) (get_or_from_slice_get xs k x x at)))
      (two_gain (λ n. list_any (test n) (take k xs)) (λ n. test n x) before mid after first second)

  pub all_gain : {X : Type 0} (test : ℕ → X → Bool) (xs : List X) (count : ℕ) → length xs ≤ count → (before after : List Bool)
      → Gains (λ n. list_any (test n) (take count xs)) entry values before after → Gains (λ n. list_any (test n) xs) entry values before after
  all_gain test xs count whole before after gains =
      same_gain (λ n. list_any (test n) (take count xs)) (λ n. list_any (test n) xs) before after (λ n. ap (list_any (test n)) (take_all count xs whole)) gains

pub zip_short : {X Y : Type 0} (xs : List X) (ys : List Y) → length (zip xs ys) ≤ length xs
zip_short [] ys = omega arith
zip_short (a ∷ xs) [] = omega arith
zip_short (a ∷ xs) (b ∷ ys) = omega (arith, zip_short xs ys)

-- ## The registers and read ports of a chip

pub chip_is_held : (chip : Chip) (entry : ChipMap) (values zeros mid held : List Bool) → zeros ≡ replicate chip.nets false
    → Gains (kept_by_register chip entry) entry values zeros mid → Gains (kept_by_read chip entry) entry values mid held → IsHeld chip entry values held
chip_is_held chip entry values zeros mid held are first second =
    record {
      size = second.size ∙ first.size ∙ ap length are ∙ length-replicate chip.nets false;
      each = λ n.
          both (kept_by_register chip entry n) (kept_by_read chip entry n) (told values (slice_get entry.nets n)) (get_or zeros n false) (get_or mid n false) (get_or held n false) (second.each n) (first.each n)
          ∙ ap (λ b. if kept_by_register chip entry n || kept_by_read chip entry n then told values (slice_get entry.nets n) else b) (ap (λ t. get_or t n false) are ∙ none n (cases_lt n chip.nets));
    }
  where
    none : (n : ℕ) → (n < chip.nets) ⊎ (chip.nets ≤ n) → get_or (replicate chip.nets false) n false ≡ false
    none n (inl low) = get_or-replicate chip.nets n false false low
    none n (inr high) = get_or_past (replicate chip.nets false) n false (let size : length (replicate chip.nets false) ≡ chip.nets = length-replicate chip.nets false in omega arith)

-- ## All chips

module _ (r : Results) (values : List Bool) where
  pub next_chip : (c : ℕ) (chip : Chip) (entry : ChipMap) → slice_get r.net c ≡ Some chip → slice_get r.map.chips c ≡ Some entry
      → (held : List (List Bool)) (row : List Bool) → AreHeld r values c held → IsHeld chip entry values row
      → (after : List (List Bool)) → after ≡ held ++ row ∷ []
      → AreHeld r values (c + 1) after
  next_chip c chip entry at_c at_e held row h is after push =
      subst (AreHeld r values (c + 1)) (sym push)
      (record {
        size = (let size : length held ≡ c = h.size in let more : length (held ++ row ∷ []) ≡ length held + 1 = length-append held (row ∷ []) in omega arith);
        each = λ d one map_one less at_one at_map. go d one map_one less at_one at_map (cases_eq d c);
      })
    where
      go : (d : ℕ) (one : Chip) (map_one : ChipMap) → d < c + 1 → slice_get r.net d ≡ Some one → slice_get r.map.chips d ≡ Some map_one
          → (d ≡ c) ⊎ (d ≡ c → ⊥) → IsHeld one map_one values (get_or (held ++ row ∷ []) d [])
      go d one map_one less at_one at_map (inr other) =
          let before : d < c = omega (arith, less, other) in
          let within : d < length held = omega (arith, h.size) in
          subst (IsHeld one map_one values) (sym (get_or_append_left held (row ∷ []) [] d within)) (h.each d one map_one before at_one at_map)
      go d one map_one less at_one at_map (inl same) =
          let chips : chip ≡ one = same_Some chip one (sym at_c ∙ ap (slice_get r.net) (sym same) ∙ at_one) in
          let maps : entry ≡ map_one = same_Some entry map_one (sym at_e ∙ ap (slice_get r.map.chips) (sym same) ∙ at_map) in
          let rows : get_or (held ++ row ∷ []) d [] ≡ row = get_or_push held row [] d (h.size ∙ sym same) in
          subst (IsHeld one map_one values) (sym rows)
          (subst (λ (m : ChipMap). IsHeld one m values row) maps (subst (λ (o : Chip). IsHeld o entry values row) chips is))

-- ## Words

-- ## What is kept stands for nets

-- a subject is a net of the design
abbrev pub IsNet : Option Subject → Type 0
IsNet o = (n : NetId) × (o ≡ Some (Net n))

is_net : (p : Parts) (o : Option Subject) → is_net_subject p o ≡ true → IsNet o
is_net p None h = no h
is_net p (Some (Net n)) h = (n, refl)
is_net p (Some (Up n)) h = no h
is_net p (Some (Down n)) h = no h
is_net p (Some (Take e)) h = no h
is_net p (Some (Next e)) h = no h
is_net p (Some (TakeWrite m k)) h = no h
is_net p (Some (Old m k b)) h = no h
is_net p (Some (TakeRead m k)) h = no h

of_loading : (p : Parts) (r : Results) (c : ℕ) (d enable : ChipNetId) (o : Option Subject) → loading_fits r c d enable (loading_of p o) ≡ true → IsNet o
of_loading p r c d enable None h = no h
of_loading p r c d enable (Some (Net n)) h = (n, refl)
of_loading p r c d enable (Some (Up n)) h = no h
of_loading p r c d enable (Some (Down n)) h = no h
of_loading p r c d enable (Some (Take e)) h = no h
of_loading p r c d enable (Some (Next e)) h = no h
of_loading p r c d enable (Some (TakeWrite m k)) h = no h
of_loading p r c d enable (Some (Old m k b)) h = no h
of_loading p r c d enable (Some (TakeRead m k)) h = no h

by_pins : (p : Parts) (r : Results) (c : ℕ) (q : ChipNetId) (d enable : Option ChipNetId) → register_pins_fit p r c q d enable ≡ true → IsNet (subject r c q.place)
by_pins p r c q None None h = is_net p (subject r c q.place) h
by_pins p r c q None (Some enable) h = no h
by_pins p r c q (Some d) None h = is_net p (subject r c q.place) (left _ _ h)
by_pins p r c q (Some d) (Some enable) h = of_loading p r c d enable (subject r c q.place) h

-- what has a net as its subject
has_net : (n : NetId) (o : Option Subject) → option_map_or (same_subject (Net n)) o false ≡ true → IsNet o
has_net n None h = no h
has_net n (Some (Net m)) h = (m, refl)
has_net n (Some (Up m)) h = no h
has_net n (Some (Down m)) h = no h
has_net n (Some (Take e)) h = no h
has_net n (Some (Next e)) h = no h
has_net n (Some (TakeWrite m k)) h = no h
has_net n (Some (Old m k b)) h = no h
has_net n (Some (TakeRead m k)) h = no h

have_nets : (r : Results) (c : ℕ) (nets : List ChipNetId) (design : List NetId) (b : ℕ) (q : ChipNetId) → have_subjects r c nets (map Net design) ≡ true → slice_get nets b ≡ Some q
    → IsNet (subject r c q.place)
have_nets r c [] design b q h at = absurd (none-some q at)
have_nets r c (n ∷ nets) [] b q h at = no h
have_nets r c (n ∷ nets) (m ∷ design) zero q h at = subst (λ (k : ChipNetId). IsNet (subject r c k.place)) (same_Some n q at) (has_net m (subject r c n.place) (left _ _ h))
have_nets r c (n ∷ nets) (m ∷ design) (suc b) q h at = have_nets r c nets design b q (right _ _ h) at

numbered : {X : Type 0} (test : ℕ × X → Bool) (s : ℕ) (xs : List X) (k : ℕ) (x : X) → list_all test (enumerate_from s xs) ≡ true → slice_get xs k ≡ Some x → test (s + k, x) ≡ true
numbered test s [] k x h at = absurd (none-some x at)
numbered test s (y ∷ xs) zero x h at =
    let same : s + 0 ≡ s = omega arith in
    ap (λ (n : ℕ). test (n, x)) same ∙ ap (λ z. test (s, z)) (sym (same_Some y x at)) ∙ left _ _ h
numbered test s (y ∷ xs) (suc k) x h at =
    let same : s + suc k ≡ s + 1 + k = omega arith in
    ap (λ (n : ℕ). test (n, x)) same ∙ numbered test (s + 1) xs k x (right _ _ h) at

zero_more : (n : ℕ) → 0 + n ≡ n
zero_more n = omega arith

map_or_true : {X : Type 0} (f : X → Bool) (o : Option X) → option_map_or f o false ≡ true → (x : X) × (o ≡ Some x) × (f x ≡ true)
map_or_true f None h = no h
map_or_true f (Some x) h = (x, refl, h)

module _ (p : Parts) (r : Results) (can : CanLoad p r) where
  -- the entry and the original of a memory
  entry_of : (c m : ℕ) (memory : EmuMemory) → slice_get (chip_at r.net c).memories m ≡ Some memory
      → (of : MemMap) × (slice_get (chip_map r c).memories m ≡ Some of) × (memory_fits p r c of memory ≡ true)
  entry_of c m memory at = map_or_true (λ of. memory_fits p r c of memory) (slice_get (chip_map r c).memories m) (can.memories c m memory at)

  original_of : (c : ℕ) (of : MemMap) (memory : EmuMemory) → memory_fits p r c of memory ≡ true
      → (design : Memory) × (slice_get p.memories of.of.place ≡ Some design) × (memory_ports_fit r c of design memory ≡ true)
  original_of c of memory h = map_or_true (λ design. memory_ports_fit r c of design memory) (slice_get p.memories of.of.place) h

  -- a kept port has no clock, and its nets are those of the design's port
  kept_port : (c k b : ℕ) (of : MemMap) (design : ReadPort) (port : EmuRead) (q : ChipNetId) → read_fits r c of k design port ≡ true → keeps_read of k ≡ true → slice_get port.bits b ≡ Some q
      → IsNet (subject r c q.place)
  kept_port c k b of design port q fits kept at = go design.clock refl
    where
      go : (o : Option Edge) → design.clock ≡ o → IsNet (subject r c q.place)
      go None e =
          have_nets r c port.bits design.bits b q
          (ap (λ o. have_subjects r c port.bits (option_map_or (λ (clock : Edge). map (λ (e : ℕ × NetId). Old of.of k e.0) (enumerate_from 0 design.bits)) o (map Net design.bits))) (sym e) ∙ right _ _ (left _ _ fits)) at
      go (Some clock) e =
          let free : (is_some design.clock && keeps_read of k) ≡ false = not_true _ (right _ _ fits) in
          no (sym free ∙ ap (λ o. is_some o && keeps_read of k) e ∙ kept)

  by_register : (c n : ℕ) → kept_by_register (chip_at r.net c) (chip_map r c) n ≡ true → IsNet (subject r c n)
  by_register c n kept =
      let f = any_found (kept_as_q n) (zip (chip_at r.net c).registers (chip_map r c).kept) kept in
      let at : slice_get (chip_at r.net c).registers f.0 ≡ Some f.1.0 = (at_zip (chip_at r.net c).registers (chip_map r c).kept f.0 f.1 f.2).0 in
      let q : f.1.0.q.place ≡ n = number_same f.1.0.q.place n (and_parts f.1.1 (is_chip_net n f.1.0.q) f.3).1 in
      subst (λ (m : ℕ). IsNet (subject r c m)) q (by_pins p r c f.1.0.q f.1.0.d f.1.0.enable (can.registers c f.0 f.1.0 at))

  by_read : (c n : ℕ) → kept_by_read (chip_at r.net c) (chip_map r c) n ≡ true → IsNet (subject r c n)
  by_read c n kept =
      let f = any_found (kept_by_memory n) (zip (chip_at r.net c).memories (chip_map r c).memories) kept in
      let at = at_zip (chip_at r.net c).memories (chip_map r c).memories f.0 f.1 f.2 in
      let g = any_found (kept_by_port n) (zip f.1.0.reads f.1.1.kept) f.3 in
      let in_port = at_zip f.1.0.reads f.1.1.kept g.0 g.1 g.2 in
      let parts = and_parts g.1.1 (list_any (is_chip_net n) g.1.0.bits) g.3 in
      let bit = any_found (is_chip_net n) g.1.0.bits parts.1 in
      let entry = entry_of c f.0 f.1.0 at.0 in
      let same : entry.0 ≡ f.1.1 = same_Some entry.0 f.1.1 (sym entry.1 ∙ at.1) in
      let design = original_of c entry.0 f.1.0 entry.2 in
      let long : length f.1.0.reads ≡ length design.0.reads = number_same _ _ (right _ _ (left _ _ (left _ _ design.2))) in
      let original = at_same_place f.1.0.reads design.0.reads g.0 g.1.0 long in_port.0 in
      let fits : read_fits r c entry.0 (0 + g.0) original.0 g.1.0 ≡ true =
      numbered (λ (k, (w, port)). read_fits r c entry.0 k w port) 0 (zip design.0.reads f.1.0.reads) g.0 (original.0, g.1.0) (right _ _ design.2) (zip_at design.0.reads f.1.0.reads g.0 original.0 g.1.0 original.1 in_port.0) in
      let keeps : keeps_read entry.0 (0 + g.0) ≡ true =
      ap (λ (k : ℕ). keeps_read entry.0 k) (zero_more g.0) ∙ ap (λ (of : MemMap). keeps_read of g.0) same ∙ ap (λ o. unwrap_or o false) in_port.1 ∙ parts.0 in
      subst (λ (m : ℕ). IsNet (subject r c m)) (number_same bit.1.place n bit.3)
      (kept_port c (0 + g.0) bit.0 entry.0 original.0 g.1.0 bit.1 fits keeps bit.2)

  pub kept_net : (c n : ℕ) → is_kept r c n ≡ true → IsNet (subject r c n)
  kept_net c n kept = go (kept_by_register (chip_at r.net c) (chip_map r c) n) refl kept
    where
      go : (b : Bool) → kept_by_register (chip_at r.net c) (chip_map r c) n ≡ b → (b || kept_by_read (chip_at r.net c) (chip_map r c) n) ≡ true → IsNet (subject r c n)
      go true e h = by_register c n e
      go false e h = by_read c n h

  -- the memories of a chip have addresses of their originals
  pub memories_load : IsBuilt r.net → (c : ℕ) (chip : Chip) (entry : ChipMap) → slice_get r.net c ≡ Some chip → slice_get r.map.chips c ≡ Some entry → MemoriesLoad p chip entry
  memories_load built c chip entry at_chip at_entry m memory of at at_of =
      let here : chip_at r.net c ≡ chip = ap (λ o. unwrap_or o no_chip) at_chip in
      let map_here : chip_map r c ≡ entry = ap (λ o. unwrap_or o no_chip_map) at_entry in
      let found = entry_of c m memory (ap (λ (one : Chip). slice_get one.memories m) here ∙ at) in
      let same : found.0 ≡ of = same_Some found.0 of (sym found.1 ∙ ap (λ (one : ChipMap). slice_get one.memories m) map_here ∙ at_of) in
      let design = original_of c found.0 memory found.2 in
      let bits : memory.address_bits ≡ design.0.address_bits = number_same _ _ (left _ _ (left _ _ (left _ _ (left _ _ (left _ _ design.2))))) in
      record {
        few = ((built.formed.each c chip at_chip).memories m memory at).address_bits;
        addresses = λ a low. (
          design.0,
          subst (λ (one : MemMap). slice_get p.memories one.of.place ≡ Some design.0) same design.1,
          subst (λ (n : ℕ). a < 2 ^ n) bits low,
        );
      }

-- ## What is loaded

module _ (p : Parts) (r : Results) (mapped : MapFits r) (can : CanLoad p r) (values : List Bool) (v : Valuation) (has : (n : ℕ) → v.net n ≡ get_or values n false) (held : List (List Bool)) (is : AreHeld r values (length r.net) held) (words : List (List (List ℕ))) (copied : AreCopied v r (length r.net) words) where
  entry_here : (c : ℕ) → c < length r.net → slice_get r.map.chips c ≡ Some (chip_map r c)
  entry_here c low =
      let within : c < length r.map.chips = omega (arith, mapped.count) in
      let at : slice_get r.map.chips c ≡ Some (get_or r.map.chips c no_chip_map) = slice_get-get_or r.map.chips c no_chip_map within in
      at ∙ ap Some (sym (ap (λ o. unwrap_or o no_chip_map) at))

  pub sizes_fit : HaveSizes r held
  sizes_fit =
      record {
        count = is.size;
        sizes = λ c chip at.
            let low : c < length r.net = slice_get_within r.net c chip at in
            (is.each c chip (chip_map r c) low at (entry_here c low)).size;
      }

  pub words_fit : HaveWords r words
  words_fit =
      record {
        count = copied.size;
        each = λ c chip at.
            let low : c < length r.net = slice_get_within r.net c chip at in
            let here : FirstCopied v chip (chip_map r c) (length chip.memories) (get_or words c []) = copied.each c chip (chip_map r c) low at (entry_here c low) in
            record {
              count = here.size;
              sizes = λ m memory at_m.
                  let of = at_same_place chip.memories (chip_map r c).memories m memory (sym (mapped.chips c chip (chip_map r c) at (entry_here c low)).memories) at_m in
                  (here.each m memory of.0 (slice_get_within chip.memories m memory at_m) at_m of.1).size;
            };
      }

  -- what a net holds
  holds : (c n : ℕ) → cell held c n ≡ (if is_kept r c n then told values (subject r c n) else false)
  holds c n = go (cases_lt c (length r.net))
    where
      go : (c < length r.net) ⊎ (length r.net ≤ c) → cell held c n ≡ (if is_kept r c n then told values (subject r c n) else false)
      go (inl low) = (is.each c (chip_at r.net c) (chip_map r c) low (chip_here r.net c low) (entry_here c low)).each n
      go (inr high) =
          ap (λ row. get_or row n false) (get_or_past held c [] (omega (arith, is.size)))
          ∙ sym (ap (λ o. if kept_by_register (unwrap_or o no_chip) (chip_map r c) n || kept_by_read (unwrap_or o no_chip) (chip_map r c) n then told values (subject r c n) else false) (slice_get_past r.net c high))

  pub free : (outside : List Bool) → FreeAreZero r (state_of (tables held words outside []))
  free outside c n source not_kept = holds c n ∙ ap (λ b. if b then told values (subject r c n) else false) not_kept

  value_of : (o : Option Subject) → IsNet o → (value : Bool) → value ≡ told values o → IsValueOf v o value
  value_of o (n, e) value e_value = subst (λ (q : Option Subject). IsValueOf v q value) (sym e) (e_value ∙ ap (told values) e ∙ sym (has n.place))

  -- a memory that stands for one of the design has its words
  word_is : (c m of a : ℕ) → memory_of r c m ≡ Some of → IsAddress p of a → word_in words c m a ≡ v.word of a
  word_is c m of a is_of (design, at_design, low_a) = go (slice_get (chip_map r c).memories m) refl (cases_lt c (length r.net))
    where
      go : (o : Option MemMap) → slice_get (chip_map r c).memories m ≡ o → (c < length r.net) ⊎ (length r.net ≤ c) → word_in words c m a ≡ v.word of a
      go None e side = absurd (none-some of (sym (ap (λ o. option_map (λ entry. entry.of.place) o) e) ∙ is_of))
      go (Some entry) e (inr high) =
          let past : length r.map.chips ≤ c = omega (arith, mapped.count, high) in
          absurd (none-some entry (sym (ap (λ o. slice_get (unwrap_or o no_chip_map).memories m) (slice_get_past r.map.chips c past)) ∙ e))
      go (Some entry) e (inl low) =
          let chip : Chip = chip_at r.net c in
          let fits = mapped.chips c chip (chip_map r c) (chip_here r.net c low) (entry_here c low) in
          let memory = at_same_place (chip_map r c).memories chip.memories m entry fits.memories e in
          let found = entry_of p r can c m memory.0 memory.1 in
          let same : found.0 ≡ entry = same_Some found.0 entry (sym found.1 ∙ e) in
          let original = original_of p r can c found.0 memory.0 found.2 in
          let bits : memory.0.address_bits ≡ original.0.address_bits = number_same _ _ (left _ _ (left _ _ (left _ _ (left _ _ (left _ _ original.2))))) in
          let named : entry.of.place ≡ of = same_Some entry.of.place of (sym (ap (λ o. option_map (λ (one : MemMap). one.of.place) o) e) ∙ is_of) in
          let one : original.0 ≡ design =
          same_Some original.0 design
          (sym original.1 ∙ ap (λ (x : MemMap). slice_get p.memories x.of.place) same ∙ ap (slice_get p.memories) named ∙ at_design) in
          let less : a < 2 ^ memory.0.address_bits = subst (λ (n : ℕ). a < 2 ^ n) (sym (bits ∙ ap (λ (d : Memory). d.address_bits) one)) low_a in
          ((copied.each c chip (chip_map r c) low (chip_here r.net c low) (entry_here c low)).each m memory.0 entry (slice_get_within chip.memories m memory.0 memory.1) memory.1 e).each a less
          ∙ ap (λ (k : ℕ). v.word k a) named

  pub loads : (outside : List Bool) → outside ≡ values → IsLoaded p r v (state_of (tables held words outside []))
  loads outside e =
      record {
        state = record {
          held = λ c n kept. value_of (subject r c n) (kept_net p r can c n kept) (cell held c n)
              (holds c n ∙ ap (λ b. if b then told values (subject r c n) else false) kept);
          words = word_is;
        };
        outside = λ n low input. ap (λ t. get_or t n false) e ∙ sym (has n);
      }
