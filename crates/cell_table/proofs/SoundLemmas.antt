-- A cell that was read and judged is sound.
use Rattle.std.proofs.Common.{◌≡◌, ◌==◌, ◌^◌, ◌+◌, ◌<◌, ◌≤◌, ℕ, zero, suc, List, [], ◌∷◌, ◌++◌, Bool, true, false, Option, Some, None, subst, refl, map, length, get_or, arith}
use Rattle.std.specs.Prelude.{◌&&◌, slice_get, nat_le, is_none, is_some, option_map, codes, bytes_eq, if◌then◌else◌}
use Rattle.std.specs.List.{All}
use Rattle.std.proofs.lemmas.Bool.Decides.{nat_tests}
use Rattle.std.proofs.lemmas.List.Elements.{All-append}
use Rattle.std.proofs.lemmas.Option.{option_and_then_some, slice_get_within, get_or_from_slice_get}
use Rattle.serde_json.specs.Data.{Data}
use Rattle.serde_json.specs.Find.{get}
use Rattle.facts.proofs.Tests.{left, right}
use Rattle.cell_table.specs.Build.{number_of, comb_out_of, feed_pin_of, cell_kind_of}
use Rattle.cell_table.specs.Judge.{is_sized, outs_are_sized, feed_is_sized, feed_is_within, tables_are_sized, is_within_limits}
use Rattle.cell_table.specs.Kinds.{address_of, comb_of, flop_of, gate_clock_of, latch_of, memory_of, named_kind_of, outs_member, read_clock_of, read_of, reads_member, state_of, write_of, writes_member, written_of}
use Rattle.json_members.specs.Members.{all_of, array_member, data_of, text_member, word_member}
use Rattle.json_members.specs.Names.{name_member, names_member, optional_name_member}
use Rattle.cell_table.specs.Members.{edge_pin_member, level_pin_member, optional_level_pin_member}
use Rattle.cell_table.specs.Sound.{IsTableOver, HasAddress, IsSoundMemory, IsSoundFeed, IsSoundKind, AreSound}
use Rattle.cell_table.specs.declared.cell.Cell.{Cell}
use Rattle.cell_table.specs.declared.cell.CellRead.{CellRead}
use Rattle.cell_table.specs.declared.cell.CellWrite.{CellWrite}
use Rattle.cell_table.specs.declared.written.WrittenCell.{WrittenCell}
use Rattle.cell_table.specs.declared.written.WrittenFeed.{WrittenFeed}
use Rattle.cell_table.specs.declared.written.WrittenFeed.TheVariants.{Pin, Table}
use Rattle.cell_table.specs.declared.written.WrittenKind.{WrittenKind}
use Rattle.cell_table.specs.declared.written.WrittenKind.TheVariants.{Comb, Flop, Latch, GateClock, Memory}
use Rattle.cell_table.specs.declared.written.WrittenOut.{WrittenOut}
use Rattle.cell_table.proofs.JudgeLemmas.{number_of-below}

-- ---- lists

all_none : {X : Type 0} (P : X → Type 0) → All P []
all_none P k d within = absurd (let none : k < 0 = within in omega arith)

all_more : {X : Type 0} (P : X → Type 0) (x : X) (xs : List X) → P x → All P xs → (k : ℕ) (d : X) → k < length (x ∷ xs) → P (get_or (x ∷ xs) k d)
all_more P x xs first rest zero d within = first
all_more P x xs first rest (suc k) d within = rest k d (omega arith)

-- what holds of each thing that is read holds of all
all_read : {X A : Type 0} (P : A → Type 0) (f : X → Option A) → ((x : X) (y : A) → f x ≡ Some y → P y) → (xs : List X) (ys : List A) → all_of f xs ≡ Some ys → All P ys
all_read {A = A} P f each [] ys read =
    let none : [] ≡ ys = cc in
    subst (λ zs. All P zs) none (all_none P)
all_read {A = A} P f each (x ∷ xs) ys read =
    option_and_then_some _ (f x) ys read (λ v first rest.
    option_and_then_some _ (all_of f xs) ys rest (λ vs more same.
    let parts : v ∷ vs ≡ ys = cc in
    subst (λ zs. All P zs) parts (all_more P v vs (each x v first) (all_read P f each xs vs more))))

-- ---- tables

table_over : (inputs : ℕ) (table : List Bool) → is_sized inputs table ≡ true → inputs ≤ 6 → IsTableOver inputs (number_of table)
table_over inputs table sized few =
    let bits : length table ≡ 2 ^ inputs = grind (arith, nat_tests) in
    let below : number_of table < 2 ^ length table = number_of-below (length table) table (omega arith) in
    let P : ℕ → Type 0 = λ n. number_of table < 2 ^ n in
    record { few = few; fits = subst P bits below }

tables_over : (inputs : ℕ) (outs : List WrittenOut) → outs_are_sized inputs outs ≡ true → inputs ≤ 6 → All (λ out. IsTableOver inputs out.table) (map comb_out_of outs)
tables_over inputs [] sized few = all_none _
tables_over inputs (out ∷ outs) sized few =
    all_more (λ o. IsTableOver inputs o.table) (comb_out_of out) (map comb_out_of outs)
    (table_over inputs out.table (left _ _ sized) few)
    (tables_over inputs outs (right _ _ sized) few)

sound_feed : (feed : WrittenFeed) → feed_is_sized feed ≡ true → feed_is_within feed ≡ true → IsSoundFeed (feed_pin_of feed)
sound_feed (Pin pin) sized within = tt
sound_feed (Table pins table) sized within =
    let few : length pins ≤ 6 = grind (arith, nat_tests) in
    table_over (length pins) table sized few

-- ---- addresses

-- what the shape says of the addresses of a memory
abbrev pub IsAddressed : WrittenKind → Type 0
IsAddressed (Comb inputs outputs) = Unit {0}
IsAddressed (Flop clock state) = Unit {0}
IsAddressed (Latch gate state) = Unit {0}
IsAddressed (GateClock clock enable test output) = Unit {0}
IsAddressed (Memory address_bits width writes reads) =
    All (λ write. HasAddress address_bits write.address) writes × All (λ read. HasAddress address_bits read.address) reads

none_absent : (there : Bool) (address : Option (List ℕ)) → (if there then None else Some None) ≡ Some address → is_none address ≡ true
none_absent true address read = cc
none_absent false address read = let same : None ≡ address = cc in subst (λ a. is_none a ≡ true) same refl

some_there : (name : Option (List ℕ)) (address : Option (List ℕ)) → option_map Some name ≡ Some address → is_none address ≡ false
some_there None address read = cc
some_there (Some n) address read = let same : Some n ≡ address = cc in subst (λ a. is_none a ≡ false) same refl

addressed_by : (no_bits : Bool) (there : Bool) (name : Option (List ℕ)) (address : Option (List ℕ)) → (if no_bits then (if there then None else Some None) else option_map Some name) ≡ Some address → is_none address ≡ no_bits
addressed_by true there name address read = none_absent there address read
addressed_by false there name address read = some_there name address read

addressed : (address_bits : ℕ) (d : Data) (address : Option (List ℕ)) → address_of address_bits d ≡ Some address → HasAddress address_bits address
unfolding address_of
addressed address_bits d address read =
    addressed_by (address_bits == 0) (is_some (get (codes "address") d)) (name_member (codes "address") d) address read

write_addressed : (address_bits : ℕ) (d : Data) (write : CellWrite) → write_of address_bits d ≡ Some write → HasAddress address_bits write.address
unfolding write_of
write_addressed address_bits d write read =
    option_and_then_some _ (edge_pin_member (codes "clock") d) write read (λ clock _ r1.
    option_and_then_some _ (optional_level_pin_member (codes "enable") d) write r1 (λ enable _ r2.
    option_and_then_some _ (address_of address_bits d) write r2 (λ address there r3.
    option_and_then_some _ (name_member (codes "data") d) write r3 (λ feed _ r4.
    let same : address ≡ write.address = cc in
    subst (λ a. HasAddress address_bits a) same (addressed address_bits d address there)))))

read_addressed : (version address_bits : ℕ) (d : Data) (port : CellRead) → read_of version address_bits d ≡ Some port → HasAddress address_bits port.address
unfolding read_of
read_addressed version address_bits d port read =
    option_and_then_some _ (read_clock_of version d) port read (λ clock _ r1.
    option_and_then_some _ (address_of address_bits d) port r1 (λ address there r2.
    option_and_then_some _ (name_member (codes "data") d) port r2 (λ bits _ r3.
    let same : address ≡ port.address = cc in
    subst (λ a. HasAddress address_bits a) same (addressed address_bits d address there))))

writes_addressed : (address_bits : ℕ) (d : Data) (writes : List CellWrite) → writes_member address_bits d ≡ Some writes → All (λ write. HasAddress address_bits write.address) writes
unfolding writes_member
writes_addressed address_bits d writes read =
    option_and_then_some _ (array_member (codes "writes") d) writes read (λ items _ rest.
    all_read (λ write. HasAddress address_bits write.address) (write_of address_bits) (write_addressed address_bits) (data_of items) writes rest)

reads_addressed : (version address_bits : ℕ) (d : Data) (reads : List CellRead) → reads_member version address_bits d ≡ Some reads → All (λ read. HasAddress address_bits read.address) reads
unfolding reads_member
reads_addressed version address_bits d reads read =
    option_and_then_some _ (array_member (codes "reads") d) reads read (λ items _ rest.
    all_read (λ port. HasAddress address_bits port.address) (read_of version address_bits) (read_addressed version address_bits) (data_of items) reads rest)

-- ---- kinds

said_comb : (none : Bool) (inputs : List (List ℕ)) (outputs : List WrittenOut) (kind : WrittenKind) → (if none then None else Some (Comb inputs outputs)) ≡ Some kind → IsAddressed kind
said_comb true inputs outputs kind said = cc
said_comb false inputs outputs kind said = let same : Comb inputs outputs ≡ kind = cc in subst IsAddressed same tt

comb_addressed : (d : Data) (kind : WrittenKind) → comb_of d ≡ Some kind → IsAddressed kind
unfolding comb_of
comb_addressed d kind said =
    option_and_then_some _ (names_member (codes "inputs") d) kind said (λ inputs _ r1.
    option_and_then_some _ (outs_member d) kind r1 (λ outputs _ r2. said_comb (length outputs == 0) inputs outputs kind r2))

flop_addressed : (d : Data) (kind : WrittenKind) → flop_of d ≡ Some kind → IsAddressed kind
unfolding flop_of
flop_addressed d kind said =
    option_and_then_some _ (edge_pin_member (codes "clock") d) kind said (λ clock _ r1.
    option_and_then_some _ (state_of d) kind r1 (λ state _ r2.
    let same : Flop clock state ≡ kind = cc in subst IsAddressed same tt))

latch_addressed : (d : Data) (kind : WrittenKind) → latch_of d ≡ Some kind → IsAddressed kind
unfolding latch_of
latch_addressed d kind said =
    option_and_then_some _ (level_pin_member (codes "gate") d) kind said (λ gate _ r1.
    option_and_then_some _ (state_of d) kind r1 (λ state _ r2.
    let same : Latch gate state ≡ kind = cc in subst IsAddressed same tt))

gate_clock_addressed : (d : Data) (kind : WrittenKind) → gate_clock_of d ≡ Some kind → IsAddressed kind
unfolding gate_clock_of
gate_clock_addressed d kind said =
    option_and_then_some _ (name_member (codes "clock") d) kind said (λ clock _ r1.
    option_and_then_some _ (name_member (codes "enable") d) kind r1 (λ enable _ r2.
    option_and_then_some _ (optional_name_member (codes "test") d) kind r2 (λ test _ r3.
    option_and_then_some _ (name_member (codes "output") d) kind r3 (λ output _ r4.
    let same : GateClock clock enable test output ≡ kind = cc in subst IsAddressed same tt))))

memory_addressed : (version : ℕ) (d : Data) (kind : WrittenKind) → memory_of version d ≡ Some kind → IsAddressed kind
unfolding memory_of
memory_addressed version d kind said =
    option_and_then_some _ (word_member (codes "address_bits") d) kind said (λ address_bits _ r1.
    option_and_then_some _ (word_member (codes "width") d) kind r1 (λ width _ r2.
    option_and_then_some _ (writes_member address_bits d) kind r2 (λ writes w r3.
    option_and_then_some _ (reads_member version address_bits d) kind r3 (λ reads r r4.
    let same : Memory address_bits width writes reads ≡ kind = cc in
    subst IsAddressed same (writes_addressed address_bits d writes w, reads_addressed version address_bits d reads r)))))

-- whichever of the five was said
one_of : (a b c e f : Bool) (comb flop latch gate memory : Option WrittenKind) (kind : WrittenKind)
    → (comb ≡ Some kind → IsAddressed kind) → (flop ≡ Some kind → IsAddressed kind) → (latch ≡ Some kind → IsAddressed kind)
    → (gate ≡ Some kind → IsAddressed kind) → (memory ≡ Some kind → IsAddressed kind)
    → (if a then comb else (if b then flop else (if c then latch else (if e then gate else (if f then memory else None))))) ≡ Some kind → IsAddressed kind
one_of true b c e f comb flop latch gate memory kind p q r s t said = p said
one_of false true c e f comb flop latch gate memory kind p q r s t said = q said
one_of false false true e f comb flop latch gate memory kind p q r s t said = r said
one_of false false false true f comb flop latch gate memory kind p q r s t said = s said
one_of false false false false true comb flop latch gate memory kind p q r s t said = t said
one_of false false false false false comb flop latch gate memory kind p q r s t said = cc

kind_addressed : (version : ℕ) (text : List ℕ) (d : Data) (kind : WrittenKind) → named_kind_of version text d ≡ Some kind → IsAddressed kind
unfolding named_kind_of
kind_addressed version text d kind said =
    one_of (bytes_eq text (codes "comb")) (bytes_eq text (codes "flop")) (bytes_eq text (codes "latch")) (bytes_eq text (codes "gate_clock")) (bytes_eq text (codes "memory"))
    (comb_of d) (flop_of d) (latch_of d) (gate_clock_of d) (memory_of version d) kind
    (comb_addressed d kind) (flop_addressed d kind) (latch_addressed d kind) (gate_clock_addressed d kind) (memory_addressed version d kind) said

pub written_addressed : (version : ℕ) (d : Data) (written : WrittenCell) → written_of version d ≡ Some written → IsAddressed written.kind
unfolding written_of
written_addressed version d written said =
    option_and_then_some _ (name_member (codes "name") d) written said (λ name _ r1.
    option_and_then_some _ (text_member (codes "kind") d) written r1 (λ text _ r2.
    option_and_then_some _ (named_kind_of version text d) written r2 (λ kind k r3.
    let same : kind ≡ written.kind = cc in
    subst IsAddressed same (kind_addressed version text d kind k))))

-- ---- the whole

sound_memory : (address_bits width : ℕ) (writes : List CellWrite) (reads : List CellRead)
    → All (λ write. HasAddress address_bits write.address) writes × All (λ read. HasAddress address_bits read.address) reads
    → (nat_le address_bits 16 && nat_le 1 width && nat_le width 128 && nat_le (length writes + length reads) 16) ≡ true
    → IsSoundMemory address_bits width writes reads
sound_memory address_bits width writes reads at within =
    let ports = right _ (nat_le (length writes + length reads) 16) within in
    let three = left _ (nat_le (length writes + length reads) 16) within in
    let small = right _ (nat_le width 128) three in
    let two = left _ (nat_le width 128) three in
    let some = right _ (nat_le 1 width) two in
    let few = left _ (nat_le 1 width) two in
    record {
      few_address_bits = grind (arith, nat_tests);
      some_width = grind (arith, nat_tests);
      small_width = grind (arith, nat_tests);
      few_ports = grind (arith, nat_tests);
      written_at = at.0;
      read_at = at.1;
    }

-- a kind of good shape, whose tables are sized and which is within the limits, is sound
pub sound_kind : (kind : WrittenKind) → IsAddressed kind → tables_are_sized kind ≡ true → is_within_limits kind ≡ true → IsSoundKind (cell_kind_of kind)
unfolding tables_are_sized is_within_limits cell_kind_of
sound_kind (Comb inputs outputs) at sized within =
    let few : length inputs ≤ 6 = grind (arith, nat_tests) in
    tables_over (length inputs) outputs sized few
sound_kind (Flop clock state) at sized within = sound_feed state.feed sized within
sound_kind (Latch gate state) at sized within = sound_feed state.feed sized within
sound_kind (GateClock clock enable test output) at sized within = tt
sound_kind (Memory address_bits width writes reads) at sized within = sound_memory address_bits width writes reads at within

-- one sound cell more
pub AreSound-push : (cells : List Cell) (cell : Cell) → AreSound cells → IsSoundKind cell.kind → AreSound (cells ++ cell ∷ [])
AreSound-push cells cell sound one =
    let P : Cell → Type 0 = λ c. IsSoundKind c.kind in
    All-append P cells (cell ∷ []) sound (all_more P cell [] one (all_none P))

-- the cell at a place is
pub AreSound-at : (cells : List Cell) (k : ℕ) (cell : Cell) → AreSound cells → slice_get cells k ≡ Some cell → IsSoundKind cell.kind
AreSound-at cells k cell sound there =
    let P : Cell → Type 0 = λ c. IsSoundKind c.kind in
    subst P (get_or_from_slice_get cells k cell cell there) (sound k cell (slice_get_within cells k cell there))
