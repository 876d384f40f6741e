-- Each cell of a table is sound, and has a pin that it drives where it is combinational.
use Rattle.std.proofs.Common.{◌≡◌, ◌==◌, ◌<◌, ◌∙◌, ℕ, zero, suc, List, [], ◌∷◌, ◌++◌, Bool, true, false, Option, Some, None, subst, refl, sym, ap, length, take, arith}
use Rattle.std.specs.Prelude.{◌||◌, IfSome, option_and_then, slice_get, bytes_eq, flat_map, if◌then◌else◌, codes}
use Rattle.std.specs.List.{list_any}
use Rattle.std.proofs.lemmas.Bool.Decides.{nat_tests}
use Rattle.std.proofs.lemmas.List.{length-map}
use Rattle.std.proofs.lemmas.List.Folds.{list_any-append}
use Rattle.std.proofs.lemmas.Option.{none-some, option_and_then_some, same_Some}
use Rattle.std.proofs.lemmas.Slice.Eq.{bytes_eq-Decides}
use Rattle.serde_json.specs.Data.{Data}
use Rattle.facts.proofs.Lists.{Has, any_at, has_left, has_right}
use Rattle.facts.proofs.Tests.{mapped, no}
use Rattle.json_members.specs.Members.{all_of, text_member, word_member}
use Rattle.json_members.specs.Names.{name_member, names_member, optional_name_member}
use Rattle.cell_table.specs.declared.cell.Cell.{Cell}
use Rattle.cell_table.specs.declared.cell.CellKind.{CellKind}
use Rattle.cell_table.specs.declared.cell.CellKind.TheVariants as cell
use Rattle.cell_table.specs.declared.cell.CellRead.{CellRead}
use Rattle.cell_table.specs.declared.cell.CellWrite.{CellWrite}
use Rattle.cell_table.specs.Build.{built_of, cell_kind_of, comb_out_of}
use Rattle.cell_table.specs.Faults.{cell_fault, cell_of, fault_beside, written_fault}
use Rattle.cell_table.specs.Kinds.{comb_of, flop_of, gate_clock_of, latch_of, memory_of, named_kind_of, outs_member, reads_member, state_of, writes_member, written_of}
use Rattle.cell_table.specs.Members.{edge_pin_member, level_pin_member}
use Rattle.cell_table.specs.Pins.{clock_pins, has_twice, own_clock_pins, pins_of, read_pins, shared_pins, stands_twice, write_pins}
use Rattle.cell_table.specs.Sound.{IsSoundKind}
use Rattle.cell_table.specs.Table as tables
use Rattle.cell_table.specs.Table.{names_of}
use Rattle.cell_table.proofs.FaultLemmas.{sound_cell}
use Rattle.cell_table.proofs.SoundLemmas.{sound_kind, written_addressed}
use Rattle.flattening.specs.Laws.{IsTable}
use Rattle.flattening.proofs.Everywhere.{Every}

-- a combinational cell drives a pin at least
abbrev pub DrivesSome : CellKind → Type 0
DrivesSome (cell.Comb inputs outputs) = 0 < length outputs
DrivesSome (cell.Flop clock feed clear preset q qn) = Unit {0}
DrivesSome (cell.Latch gate feed clear preset q qn) = Unit {0}
DrivesSome (cell.GateClock clock enable test output) = Unit {0}
DrivesSome (cell.Memory address_bits width writes reads) = Unit {0}

-- the pins of a memory that are no clocks
abbrev pub port_names : List CellWrite → List CellRead → List (List ℕ)
port_names writes reads = flat_map write_pins writes ++ flat_map read_pins reads

-- these names are different, and none is one of those
pub record AreApart (names clocks : List (List ℕ)) : Type 0 where
  pub once : has_twice names ≡ false
  pub apart : (name : List ℕ) → Has names name → Has clocks name → ⊥

abbrev pub HasOwnPins : CellKind → Type 0
HasOwnPins (cell.Comb inputs outputs) = Unit {0}
HasOwnPins (cell.Flop clock feed clear preset q qn) = Unit {0}
HasOwnPins (cell.Latch gate feed clear preset q qn) = Unit {0}
HasOwnPins (cell.GateClock clock enable test output) = Unit {0}
HasOwnPins (cell.Memory address_bits width writes reads) = AreApart (port_names writes reads) (clock_pins writes reads)

-- what is known of a cell of a table
pub record IsGoodCell (c : Cell) : Type 0 where
  pub sound : IsSoundKind c.kind
  pub drives : DrivesSome c.kind
  pub pins : HasOwnPins c.kind

-- ---- what is read is so, whatever it is

then_some : {A B : Type 0} (f : A → Option B) (o : Option A) (P : B → Type 0) → ((x : A) → IfSome (f x) P) → IfSome (option_and_then f o) P
then_some f None P each = tt
then_some f (Some x) P each = each x

then_so : {A B : Type 0} (f : A → Option B) (o : Option A) (Q : A → Type 0) (P : B → Type 0) → ((x : A) → Q x → IfSome (f x) P) → IfSome o Q → IfSome (option_and_then f o) P
then_so f None Q P each is = tt
then_so f (Some x) Q P each is = each x is

unless_some : {A : Type 0} (none : Bool) (x : A) (P : A → Type 0) → (none ≡ false → P x) → IfSome (if none then None else Some x) P
unless_some true x P is = tt
unless_some false x P is = is refl

-- whichever of the five is said
whichever : {A : Type 0} (P : A → Type 0) (a b c e f : Bool) (comb flop latch gate memory : Option A) → IfSome comb P → IfSome flop P → IfSome latch P → IfSome gate P → IfSome memory P
    → IfSome (if a then comb else (if b then flop else (if c then latch else (if e then gate else (if f then memory else None))))) P
whichever P true b c e f comb flop latch gate memory p q r s t = p
whichever P false true c e f comb flop latch gate memory p q r s t = q
whichever P false false true e f comb flop latch gate memory p q r s t = r
whichever P false false false true f comb flop latch gate memory p q r s t = s
whichever P false false false false true comb flop latch gate memory p q r s t = t
whichever P false false false false false comb flop latch gate memory p q r s t = tt

-- what is found is so
found_some : {A : Type 0} (o : Option A) (x : A) (P : A → Type 0) → o ≡ Some x → IfSome o P → P x
found_some None x P e is = absurd (none-some x e)
found_some (Some y) x P e is = subst P (same_Some y x e) is

-- ---- the pins of its ports are apart

pub or_none : (a b : Bool) → (a || b) ≡ false → (a ≡ false) × (b ≡ false)
or_none true b e = absurd (no (sym e))
or_none false b e = (refl, e)

-- a name is the same as itself
same_bytes : (name : List ℕ) → bytes_eq name name ≡ true
same_bytes name = (bytes_eq-Decides name name).1 refl

pub any_named : (names : List (List ℕ)) (name : List ℕ) → Has names name → list_any (bytes_eq name) names ≡ true
any_named names name has = any_at (bytes_eq name) names has.place name has.at (same_bytes name)

-- names that come once do so in the front, and none comes in the front and in the back
once_front : (names more : List (List ℕ)) → has_twice (names ++ more) ≡ false → has_twice names ≡ false
once_front [] more e = refl
once_front (name ∷ names) more e =
    let parts = or_none (list_any (bytes_eq name) (names ++ more)) (has_twice (names ++ more)) e in
    let none : list_any (bytes_eq name) names ≡ false = (or_none (list_any (bytes_eq name) names) (list_any (bytes_eq name) more) (sym (list_any-append (bytes_eq name) names more) ∙ parts.0)).0 in
    λ i. none i || once_front names more parts.1 i

once_apart : (names more : List (List ℕ)) (name : List ℕ) → has_twice (names ++ more) ≡ false → Has names name → Has more name → ⊥
once_apart [] more name e has there = none-some name has.at
once_apart (first ∷ names) more name e has there = go has.place has.at (or_none (list_any (bytes_eq first) (names ++ more)) (has_twice (names ++ more)) e) (once_apart names more name)
  where
    go : (k : ℕ) → slice_get (first ∷ names) k ≡ Some name → (list_any (bytes_eq first) (names ++ more) ≡ false) × (has_twice (names ++ more) ≡ false) → (has_twice (names ++ more) ≡ false → Has names name → Has more name → ⊥) → ⊥
    go zero at parts deep =
        let same : first ≡ name = same_Some first name at in
        let some : list_any (bytes_eq name) (names ++ more) ≡ true = any_named (names ++ more) name (has_right names more name there) in
        no (sym (subst (λ (n : List ℕ). list_any (bytes_eq n) (names ++ more) ≡ false) same parts.0) ∙ some)
    go (suc k) at parts deep = deep parts.1 (record { place = k; at = at }) there

none_shared : (clocks names : List (List ℕ)) (name : List ℕ) → list_any (λ (pin : List ℕ). list_any (bytes_eq pin) names) clocks ≡ false → Has names name → Has clocks name → ⊥
none_shared clocks names name e has there =
    no (sym e ∙ any_at (λ (pin : List ℕ). list_any (bytes_eq pin) names) clocks there.place name there.at (any_named names name has))

apart_by : (shared : Bool) (names clocks : List (List ℕ)) → has_twice (names ++ (if shared then [] else clocks)) ≡ false → list_any (λ (pin : List ℕ). list_any (bytes_eq pin) (names ++ (if shared then [] else clocks))) (if shared then clocks else []) ≡ false → AreApart names clocks
apart_by true names clocks once none = record {
  once = once_front names [] once;
  apart = λ name has there. none_shared clocks (names ++ []) name none (has_left names [] name has) there;
}
apart_by false names clocks once none = record {
  once = once_front names clocks once;
  apart = λ name has there. once_apart names clocks name once has there;
}

ports_apart : (version : ℕ) (writes : List CellWrite) (reads : List CellRead) → stands_twice (flat_map write_pins writes ++ flat_map read_pins reads ++ own_clock_pins version writes reads) (if version == 2 then clock_pins writes reads else []) ≡ false → AreApart (port_names writes reads) (clock_pins writes reads)
ports_apart version writes reads not_twice =
    let own = own_clock_pins version writes reads in
    let shared : List (List ℕ) = if version == 2 then clock_pins writes reads else [] in
    let parts = or_none (has_twice (port_names writes reads ++ own)) (list_any (λ (pin : List ℕ). list_any (bytes_eq pin) (port_names writes reads ++ own)) shared) not_twice in
    apart_by (version == 2) (port_names writes reads) (clock_pins writes reads) parts.0 parts.1

-- ---- kinds

module _ (version : ℕ) where
  comb_good : (d : Data) → IfSome (comb_of d) (λ kind. DrivesSome (cell_kind_of kind) × (stands_twice (pins_of version kind) (shared_pins version kind) ≡ false → HasOwnPins (cell_kind_of kind)))
  unfolding comb_of cell_kind_of
  comb_good d =
      then_some _ (names_member (codes "inputs") d) _ (λ inputs.
      then_some _ (outs_member d) _ (λ outputs.
      unless_some (length outputs == 0) _ _ (λ none.
      (let some : 0 < length outputs = grind (arith, nat_tests) in
      let same = length-map outputs comb_out_of in
      (omega (arith, same, some), λ _. tt)))))

  flop_good : (d : Data) → IfSome (flop_of d) (λ kind. DrivesSome (cell_kind_of kind) × (stands_twice (pins_of version kind) (shared_pins version kind) ≡ false → HasOwnPins (cell_kind_of kind)))
  unfolding flop_of cell_kind_of
  flop_good d =
      then_some _ (edge_pin_member (codes "clock") d) _ (λ clock.
      then_some _ (state_of d) _ (λ state. (tt, λ _. tt)))

  latch_good : (d : Data) → IfSome (latch_of d) (λ kind. DrivesSome (cell_kind_of kind) × (stands_twice (pins_of version kind) (shared_pins version kind) ≡ false → HasOwnPins (cell_kind_of kind)))
  unfolding latch_of cell_kind_of
  latch_good d =
      then_some _ (level_pin_member (codes "gate") d) _ (λ gate.
      then_some _ (state_of d) _ (λ state. (tt, λ _. tt)))

  clock_good : (d : Data) → IfSome (gate_clock_of d) (λ kind. DrivesSome (cell_kind_of kind) × (stands_twice (pins_of version kind) (shared_pins version kind) ≡ false → HasOwnPins (cell_kind_of kind)))
  unfolding gate_clock_of cell_kind_of
  clock_good d =
      then_some _ (name_member (codes "clock") d) _ (λ clock.
      then_some _ (name_member (codes "enable") d) _ (λ enable.
      then_some _ (optional_name_member (codes "test") d) _ (λ test.
      then_some _ (name_member (codes "output") d) _ (λ output. (tt, λ _. tt)))))

  memory_good : (d : Data) → IfSome (memory_of version d) (λ kind. DrivesSome (cell_kind_of kind) × (stands_twice (pins_of version kind) (shared_pins version kind) ≡ false → HasOwnPins (cell_kind_of kind)))
  unfolding memory_of cell_kind_of pins_of shared_pins
  memory_good d =
      then_some _ (word_member (codes "address_bits") d) _ (λ address_bits.
      then_some _ (word_member (codes "width") d) _ (λ width.
      then_some _ (writes_member address_bits d) _ (λ writes.
      then_some _ (reads_member version address_bits d) _ (λ reads. (tt, λ none. ports_apart version writes reads none)))))

  kind_good : (text : List ℕ) (d : Data) → IfSome (named_kind_of version text d) (λ kind. DrivesSome (cell_kind_of kind) × (stands_twice (pins_of version kind) (shared_pins version kind) ≡ false → HasOwnPins (cell_kind_of kind)))
  unfolding named_kind_of
  kind_good text d =
      whichever _ (bytes_eq text (codes "comb")) (bytes_eq text (codes "flop")) (bytes_eq text (codes "latch")) (bytes_eq text (codes "gate_clock")) (bytes_eq text (codes "memory"))
      (comb_of d) (flop_of d) (latch_of d) (gate_clock_of d) (memory_of version d)
      (comb_good d) (flop_good d) (latch_good d) (clock_good d) (memory_good d)

  written_good : (d : Data) → IfSome (written_of version d) (λ written. DrivesSome (cell_kind_of written.kind) × (stands_twice (pins_of version written.kind) (shared_pins version written.kind) ≡ false → HasOwnPins (cell_kind_of written.kind)))
  unfolding written_of
  written_good d =
      then_some _ (name_member (codes "name") d) _ (λ name.
      then_some _ (text_member (codes "kind") d) _ (λ text.
      then_so _ (named_kind_of version text d) _ _ (λ kind is. is) (kind_good text d)))

-- ---- cells

not_first : {A : Type 0} (b : Bool) (x : A) (rest : Option A) → (if b then Some x else rest) ≡ None → b ≡ false
not_first true x rest e = absurd (none-some x (sym e))
not_first false x rest e = refl

built_good : (version : ℕ) (names : List (List ℕ)) (d : Data) (c : Cell) → cell_of version d ≡ Some c → cell_fault version names d ≡ None → IsGoodCell c
unfolding written_fault
built_good version names d c said none =
    let found = mapped built_of (written_of version d) c said in
    let clean : written_fault version names found.0 ≡ None = ap (fault_beside version names) (sym found.1) ∙ none in
    let tests = sound_cell version names found.0 clean in
    let once = not_first (stands_twice (pins_of version found.0.kind) (shared_pins version found.0.kind)) _ _ clean in
    let says = found_some (written_of version d) found.0 _ found.1 (written_good version d) in
    subst IsGoodCell found.2 (record {
      sound = sound_kind found.0.kind (written_addressed version d found.0 found.1) tests.0 tests.1;
      drives = says.0;
      pins = says.1 once;
    })

-- what is read of each thing of a list, by its place
each_read : {X A : Type 0} (P : A → Type 0) (f : X → Option A) (xs : List X) (ys : List A) → all_of f xs ≡ Some ys → ((k : ℕ) (x : X) (y : A) → slice_get xs k ≡ Some x → f x ≡ Some y → P y) → Every P ys
each_read {A = A} P f [] ys read each =
    let none : [] ≡ ys = cc in
    subst (λ zs. Every P zs) none tt
each_read {A = A} P f (x ∷ xs) ys read each =
    option_and_then_some _ (f x) ys read (λ v first rest.
    option_and_then_some _ (all_of f xs) ys rest (λ vs more same.
    let parts : v ∷ vs ≡ ys = cc in
    subst (λ zs. Every P zs) parts (each 0 x v refl first, each_read P f xs vs more (λ k. each (suc k)))))

listed_good : (version : ℕ) (ds : List Data) (cells : List Cell) → tables.IsTable version ds cells → Every IsGoodCell cells
listed_good version ds cells is =
    each_read IsGoodCell (cell_of version) ds cells is.said (λ k d c at said. built_good version (names_of (take k cells)) d c said (is.sound k d at))

pub cells_good : (cells : List Cell) → IsTable cells → Every IsGoodCell cells
cells_good cells is = listed_good is.1.2.0 is.1.2.1 cells is.1.2.3
