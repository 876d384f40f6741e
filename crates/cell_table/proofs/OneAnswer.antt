-- A text has one answer: what a text, a value and a list stand for excludes all else.
use Rattle.std.proofs.Common.{◌≡◌, ◌≢◌, ◌<◌, ◌≤◌, ◌⊎◌, ℕ, zero, suc, List, [], ◌∷◌, take, length, slice_get, Option, Some, None, Result, Ok, Err, IsTrue, inl, inr, refl, sym, ap, subst, ◌∙◌, arith}
use Rattle.std.specs.Prelude.{is_some, codes, option_map}
use Rattle.std.proofs.lemmas.Option.{option_and_then_some, same_Some, slice_get_within}
use Rattle.serde_json.specs.Data.{Data}
use Rattle.serde_json.specs.Read.{read}
use Rattle.json_members.specs.JsonText.{IsTextOf, IsNoJson}
use Rattle.json_members.specs.Members.{all_of, array_member, data_of}
use Rattle.cell_table.specs.Faults.{cell_fault, cell_of}
use Rattle.cell_table.specs.Table.{EachTextHasOneAnswer, HasItems, IsFirstFault, IsTable, ListStands, Stands, ValueStands, names_of, version_of}
use Rattle.cell_table.specs.declared.cell.Cell.{Cell}
use Rattle.cell_table.specs.declared.fault.CellFault.{CellFault}
use Rattle.cell_table.specs.declared.fault.CellFault.TheVariants.{NotJson, Version, BadShape, PinTwice, TableSize, Limit, CellTwice, NoMemory}

abbrev Answer : Type 0
Answer = Result (List Cell) CellFault

-- ## Lists of cells

-- the first of the things are what the first of what they say are
all_of-take : {X A : Type 0} (f : X → Option A) (xs : List X) (k : ℕ) (ys : List A) → all_of f xs ≡ Some ys → all_of f (take k xs) ≡ Some (take k ys)
all_of-take f xs zero ys said = refl
all_of-take f [] (suc k) ys said = let none : [] ≡ ys = cc in subst (λ zs. all_of f [] ≡ Some (take (suc k) zs)) none refl
all_of-take f (x ∷ xs) (suc k) ys said =
    option_and_then_some _ (f x) ys said (λ v first rest.
    option_and_then_some _ (all_of f xs) ys rest (λ vs more same.
    let shorter = all_of-take f xs k vs more in
    let parts : v ∷ vs ≡ ys = cc in
    subst (λ zs. all_of f (take (suc k) (x ∷ xs)) ≡ Some (take (suc k) zs)) parts (rw (first, shorter) refl)))

-- the first of the first are the first
take-take : {X : Type 0} (xs : List X) (k n : ℕ) → k ≤ n → take k (take n xs) ≡ take k xs
take-take xs zero n within = refl
take-take [] (suc k) zero within = absurd (omega (arith, within))
take-take [] (suc k) (suc n) within = refl
take-take (x ∷ xs) (suc k) zero within = absurd (omega (arith, within))
take-take (x ∷ xs) (suc k) (suc n) within = ap (λ ys. x ∷ ys) (take-take xs k n (omega (arith, within)))

slice_get-take : {X : Type 0} (xs : List X) (k n : ℕ) → k < n → slice_get (take n xs) k ≡ slice_get xs k
slice_get-take xs k zero within = absurd (omega (arith, within))
slice_get-take [] zero (suc n) within = refl
slice_get-take [] (suc k) (suc n) within = refl
slice_get-take (x ∷ xs) zero (suc n) within = refl
slice_get-take (x ∷ xs) (suc k) (suc n) within = slice_get-take xs k n (omega (arith, within))

module _ (version : ℕ) where
  -- values that are a table have no cell with a fault beside those before it
  no_fault : (ds : List Data) (cells : List Cell) → IsTable version ds cells
      → (before : List Cell) (faulty : Data) (fault : CellFault) → all_of (cell_of version) (take (length before) ds) ≡ Some before
      → slice_get ds (length before) ≡ Some faulty → cell_fault version (names_of before) faulty ≡ Some fault → ⊥
  no_fault ds cells table before faulty fault said there is =
      let first : before ≡ take (length before) cells = same_Some _ _ (sym said ∙ all_of-take (cell_of version) ds (length before) cells table.said) in
      let sound : cell_fault version (names_of (take (length before) cells)) faulty ≡ None = table.sound (length before) faulty there in
      let none : cell_fault version (names_of before) faulty ≡ None = subst (λ names. cell_fault version (names_of names) faulty ≡ None) (sym first) sound in
      let apart : None ≡ Some fault = sym none ∙ is in
      cc

  -- of two first faults none is before the other
  not_before : (ds : List Data) (one other : CellFault) (a : IsFirstFault version ds one) (b : IsFirstFault version ds other) → length a.before < length b.before → ⊥
  not_before ds one other a b less =
      no_fault (take (length b.before) ds) b.before b.table a.before a.faulty one
      (ap (all_of (cell_of version)) (take-take ds (length a.before) (length b.before) (omega (arith, less))) ∙ a.table.said)
      (slice_get-take ds (length a.before) (length b.before) less ∙ a.there)
      a.is

  same_fault : (ds : List Data) (one other : CellFault) → IsFirstFault version ds one → IsFirstFault version ds other → one ≡ other
  same_fault ds one other a b =
      let not_less : (length a.before < length b.before) → ⊥ = not_before ds one other a b in
      let not_more : (length b.before < length a.before) → ⊥ = not_before ds other one b a in
      let count : length a.before ≡ length b.before = omega arith in
      let before : a.before ≡ b.before =
      same_Some _ _ (sym a.table.said ∙ ap (λ n. all_of (cell_of version) (take n ds)) count ∙ b.table.said) in
      let faulty : a.faulty ≡ b.faulty = same_Some _ _ (sym a.there ∙ ap (slice_get ds) count ∙ b.there) in
      same_Some _ _ (sym a.is ∙ ap (λ cells. cell_fault version (names_of cells) a.faulty) before ∙ ap (cell_fault version (names_of b.before)) faulty ∙ b.is)

  -- an answer to a list is a table, or a first fault
  record TableIs (ds : List Data) (answer : Answer) : Type 0 where
    cells : List Cell
    is : answer ≡ Ok cells
    table : IsTable version ds cells

  record FaultIs (ds : List Data) (answer : Answer) : Type 0 where
    fault : CellFault
    is : answer ≡ Err fault
    first : IsFirstFault version ds fault

  list_answer : (ds : List Data) (answer : Answer) → answer ≢ Err NoMemory → ListStands version ds answer → TableIs ds answer ⊎ FaultIs ds answer
  list_answer ds (Ok cells) kept stands = inl (record { cells = cells; is = refl; table = stands })
  list_answer ds (Err NoMemory) kept stands = absurd (kept refl)
  list_answer ds (Err NotJson) kept stands = inr (record { fault = NotJson; is = refl; first = stands })
  list_answer ds (Err Version) kept stands = inr (record { fault = Version; is = refl; first = stands })
  list_answer ds (Err (BadShape cell)) kept stands = inr (record { fault = BadShape cell; is = refl; first = stands })
  list_answer ds (Err (PinTwice cell)) kept stands = inr (record { fault = PinTwice cell; is = refl; first = stands })
  list_answer ds (Err (TableSize cell)) kept stands = inr (record { fault = TableSize cell; is = refl; first = stands })
  list_answer ds (Err (Limit cell)) kept stands = inr (record { fault = Limit cell; is = refl; first = stands })
  list_answer ds (Err (CellTwice cell)) kept stands = inr (record { fault = CellTwice cell; is = refl; first = stands })

  fault_clashes : (ds : List Data) (cells : List Cell) (fault : CellFault) → IsTable version ds cells → IsFirstFault version ds fault → ⊥
  fault_clashes ds cells fault table first = no_fault ds cells table first.before first.faulty fault first.table.said first.there first.is

  one_of_list : (ds : List Data) (a b : Answer) → TableIs ds a ⊎ FaultIs ds a → TableIs ds b ⊎ FaultIs ds b → a ≡ b
  one_of_list ds a b (inl x) (inl y) = x.is ∙ ap Ok (same_Some _ _ (sym x.table.said ∙ y.table.said)) ∙ sym y.is
  one_of_list ds a b (inl x) (inr y) = absurd (fault_clashes ds x.cells y.fault x.table y.first)
  one_of_list ds a b (inr x) (inl y) = absurd (fault_clashes ds y.cells x.fault y.table x.first)
  one_of_list ds a b (inr x) (inr y) = x.is ∙ ap Err (same_fault ds x.fault y.fault x.first y.first) ∙ sym y.is

  one_list : (ds : List Data) (a b : Answer) → a ≢ Err NoMemory → b ≢ Err NoMemory → ListStands version ds a → ListStands version ds b → a ≡ b
  one_list ds a b kept-a kept-b stands-a stands-b = one_of_list ds a b (list_answer ds a kept-a stands-a) (list_answer ds b kept-b stands-b)

-- ## Values

-- an answer to a value: of another version, without a list, or with one
record OfOtherVersion (d : Data) (answer : Answer) : Type 0 where
  is : answer ≡ Err Version
  other : version_of d ≡ None

record WithoutList (d : Data) (answer : Answer) : Type 0 where
  is : answer ≡ Err (BadShape None)
  known : IsTrue (is_some (version_of d))
  none : array_member (codes "cells") d ≡ None

record WithList (d : Data) (answer : Answer) : Type 0 where
  version : ℕ
  ds : List Data
  items : HasItems d version ds
  stands : ListStands version ds answer

abbrev ValueIs : Data → Answer → Type 0
ValueIs d answer = OfOtherVersion d answer ⊎ (WithoutList d answer ⊎ WithList d answer)

with_list : (d : Data) (answer : Answer) → ((version : ℕ) × (ds : List Data) × HasItems d version ds × ListStands version ds answer) → ValueIs d answer
with_list d answer (version, ds, items, stands) = inr (inr (record { version = version; ds = ds; items = items; stands = stands }))

value_answer : (d : Data) (answer : Answer) → answer ≢ Err NoMemory → ValueStands d answer → ValueIs d answer
value_answer d (Ok cells) kept stands = with_list d (Ok cells) stands
value_answer d (Err NotJson) kept stands = absurd stands
value_answer d (Err Version) kept stands = inl (record { is = refl; other = stands })
value_answer d (Err (BadShape None)) kept stands = inr (inl (record { is = refl; known = stands.0; none = stands.1 }))
value_answer d (Err (BadShape (Some cell))) kept stands = with_list d (Err (BadShape (Some cell))) stands
value_answer d (Err (PinTwice cell)) kept stands = with_list d (Err (PinTwice cell)) stands
value_answer d (Err (TableSize cell)) kept stands = with_list d (Err (TableSize cell)) stands
value_answer d (Err (Limit cell)) kept stands = with_list d (Err (Limit cell)) stands
value_answer d (Err (CellTwice cell)) kept stands = with_list d (Err (CellTwice cell)) stands
value_answer d (Err NoMemory) kept stands = absurd (kept refl)

known_version : (o : Option ℕ) → o ≡ None → IsTrue (is_some o) → ⊥
known_version None none known = cc
known_version (Some v) none known = cc

some_version : (d : Data) (version : ℕ) → version_of d ≡ None → version_of d ≡ Some version → ⊥
some_version d version none some = let apart : None ≡ Some version = sym none ∙ some in cc

some_items : (d : Data) (ds : List Data) → array_member (codes "cells") d ≡ None → option_map data_of (array_member (codes "cells") d) ≡ Some ds → ⊥
some_items d ds none some = let apart : None ≡ Some ds = sym (ap (option_map data_of) none) ∙ some in cc

one_of_value : (d : Data) (a b : Answer) → a ≢ Err NoMemory → b ≢ Err NoMemory → ValueIs d a → ValueIs d b → a ≡ b
one_of_value d a b kept-a kept-b (inl x) (inl y) = x.is ∙ sym y.is
one_of_value d a b kept-a kept-b (inl x) (inr (inl y)) = absurd (known_version (version_of d) x.other y.known)
one_of_value d a b kept-a kept-b (inl x) (inr (inr y)) = absurd (some_version d y.version x.other y.items.version_is)
one_of_value d a b kept-a kept-b (inr (inl x)) (inl y) = absurd (known_version (version_of d) y.other x.known)
one_of_value d a b kept-a kept-b (inr (inl x)) (inr (inl y)) = x.is ∙ sym y.is
one_of_value d a b kept-a kept-b (inr (inl x)) (inr (inr y)) = absurd (some_items d y.ds x.none y.items.items)
one_of_value d a b kept-a kept-b (inr (inr x)) (inl y) = absurd (some_version d x.version y.other x.items.version_is)
one_of_value d a b kept-a kept-b (inr (inr x)) (inr (inl y)) = absurd (some_items d x.ds y.none x.items.items)
one_of_value d a b kept-a kept-b (inr (inr x)) (inr (inr y)) =
    let version : y.version ≡ x.version = same_Some _ _ (sym y.items.version_is ∙ x.items.version_is) in
    let items : y.ds ≡ x.ds = same_Some _ _ (sym y.items.items ∙ x.items.items) in
    one_list x.version x.ds a b kept-a kept-b x.stands
    (subst (λ v. ListStands v x.ds b) version (subst (λ ds. ListStands y.version ds b) items y.stands))

-- ## Texts

-- an answer to a text that is no JSON, and to one that is
record OfNoJson (bytes : List ℕ) (answer : Answer) : Type 0 where
  is : answer ≡ Err NotJson
  none : IsNoJson bytes

record OfJson (bytes : List ℕ) (answer : Answer) : Type 0 where
  value : Data
  text : IsTextOf bytes value
  stands : ValueStands value answer

of_json : (bytes : List ℕ) (answer : Answer) → ((d : Data) × IsTextOf bytes d × ValueStands d answer) → OfNoJson bytes answer ⊎ OfJson bytes answer
of_json bytes answer (d, text, stands) = inr (record { value = d; text = text; stands = stands })

text_answer : (bytes : List ℕ) (answer : Answer) → answer ≢ Err NoMemory → Stands bytes answer → OfNoJson bytes answer ⊎ OfJson bytes answer
text_answer bytes (Ok cells) kept stands = of_json bytes (Ok cells) stands
text_answer bytes (Err NotJson) kept stands = inl (record { is = refl; none = stands })
text_answer bytes (Err Version) kept stands = of_json bytes (Err Version) stands
text_answer bytes (Err (BadShape cell)) kept stands = of_json bytes (Err (BadShape cell)) stands
text_answer bytes (Err (PinTwice cell)) kept stands = of_json bytes (Err (PinTwice cell)) stands
text_answer bytes (Err (TableSize cell)) kept stands = of_json bytes (Err (TableSize cell)) stands
text_answer bytes (Err (Limit cell)) kept stands = of_json bytes (Err (Limit cell)) stands
text_answer bytes (Err (CellTwice cell)) kept stands = of_json bytes (Err (CellTwice cell)) stands
text_answer bytes (Err NoMemory) kept stands = absurd (kept refl)

no_json : (bytes : List ℕ) (d : Data) → IsNoJson bytes → IsTextOf bytes d → ⊥
no_json bytes d none text = let apart : None ≡ Some d = sym (none text.utf8) ∙ text.reads in cc

one_of_text : (bytes : List ℕ) (a b : Answer) → a ≢ Err NoMemory → b ≢ Err NoMemory → OfNoJson bytes a ⊎ OfJson bytes a → OfNoJson bytes b ⊎ OfJson bytes b → a ≡ b
one_of_text bytes a b kept-a kept-b (inl x) (inl y) = x.is ∙ sym y.is
one_of_text bytes a b kept-a kept-b (inl x) (inr y) = absurd (no_json bytes y.value x.none y.text)
one_of_text bytes a b kept-a kept-b (inr x) (inl y) = absurd (no_json bytes x.value y.none x.text)
one_of_text bytes a b kept-a kept-b (inr x) (inr y) =
    let same : y.value ≡ x.value = same_Some _ _ (sym y.text.reads ∙ x.text.reads) in
    let stands : ValueStands x.value b = subst (λ d. ValueStands d b) same y.stands in
    one_of_value x.value a b kept-a kept-b (value_answer x.value a kept-a x.stands) (value_answer x.value b kept-b stands)

pub one_answer : EachTextHasOneAnswer
one_answer bytes a b kept-a kept-b stands-a stands-b =
    one_of_text bytes a b kept-a kept-b (text_answer bytes a kept-a stands-a) (text_answer bytes b kept-b stands-b)
