-- The names of an instance's own nets, put behind others one after another.
use Rattle.std.proofs.Common.{◌≡◌, ◌+◌, ◌-◌, ◌<◌, ◌≤◌, ◌∙◌, ℕ, zero, suc, Bool, true, false, cond, min, Option, Some, None, List, [], ◌∷◌, ◌++◌, ap, append-nil, append_assoc, arith, length, map, refl, sym, take}
use Rattle.std.specs.Prelude.{nat_lt, slice_get}
use Rattle.std.specs.List.{range_with_len}
use Rattle.std.proofs.lemmas.Option.{same_Some}
use Rattle.verilog_tree.specs.declared.source.IndexRange.{IndexRange}
use Rattle.module_nets.specs.declared.nets.Net.{Net}
use Rattle.module_nets.specs.Declarations.{width_of}
use Rattle.flattening.specs.Places.{bit_names}
use Rattle.std.proofs.lemmas.List.{map-append}
use Rattle.std.proofs.lemmas.List.Sums.{sum_by-cons}
use Rattle.std.proofs.lemmas.List.FromFn.{map-range_with_len_more}
use Rattle.design_core.specs.declared.parts.NetName.{NetName}
use Rattle.module_nets.specs.Names.{Name}
use Rattle.flattening.specs.declared.made.Made.{Made}
use Rattle.flattening.specs.Pieces.{joined}
use Rattle.elaborator.specs.Walk.{bit_count, names_in, nets_alone, with_indices}
use Rattle.elaborator.proofs.Joining.{zero_more}

-- some names and then more are all of them; no names change nothing
pub nets_more : (made : Made) (some more : List NetName) → joined (joined made (nets_alone some)) (nets_alone more) ≡ joined made (nets_alone (some ++ more))
nets_more made some more =
    rw (
      append_assoc made.net_names some more,
      append-nil made.scopes,
      append-nil made.scopes,
      append-nil made.elements,
      append-nil made.elements,
      append-nil made.paths,
      append-nil made.paths,
      append-nil made.memories,
      append-nil made.memories,
      zero_more made.modules,
      zero_more made.modules,
    ) refl

pub nets_none : (made : Made) → joined made (nets_alone []) ≡ made
nets_none made =
    rw (
      append-nil made.net_names,
      append-nil made.scopes,
      append-nil made.elements,
      append-nil made.paths,
      append-nil made.memories,
      zero_more made.modules,
    ) refl

-- one bit more
pub bit_more : (made now new : Made) (scope : ℕ) (name : Name) (f : ℕ → Option ℕ) (k : ℕ) (index : Option ℕ) → index ≡ f k →
    now ≡ joined made (nets_alone (with_indices scope name (map f (range_with_len 0 k)))) → new ≡ joined now (nets_alone (with_indices scope name (index ∷ []))) →
    new ≡ joined made (nets_alone (with_indices scope name (map f (range_with_len 0 (k + 1)))))
bit_more made now new scope name f k index is before put =
    let front = map f (range_with_len 0 k) in
    put ∙ ap (λ (m : Made). joined m (nets_alone (with_indices scope name (index ∷ [])))) before
    ∙ nets_more made (with_indices scope name front) (with_indices scope name (index ∷ []))
    ∙ ap (λ (xs : List NetName). joined made (nets_alone xs)) (sym (map-append (λ (i : Option ℕ). record { scope = scope; name = name; index = i }) front (index ∷ [])))
    ∙ ap (λ (i : Option ℕ). joined made (nets_alone (with_indices scope name (front ++ i ∷ [])))) is
    ∙ ap (λ (is : List (Option ℕ)). joined made (nets_alone (with_indices scope name is))) (sym (map-range_with_len_more f 0 k k (omega arith)))

-- a net has a bit at least
wide_range : (b : Bool) (left right : ℕ) → 1 ≤ cond b (right - left + 1) (left - right + 1)
wide_range true left right = omega arith
wide_range false left right = omega arith

pub wide : (range : Option IndexRange) → 1 ≤ width_of range
wide None = omega arith
wide (Some r) = wide_range (nat_lt r.left r.right) r.left r.right

-- the bits of the nets up to a place, and of one more
count_take : (rows : List Net) (k : ℕ) (net : Net) → slice_get rows k ≡ Some net → bit_count (take (suc k) rows) ≡ bit_count (take k rows) + width_of net.range
count_take [] k net is = cc
count_take (row ∷ rows) zero net is = let same : row ≡ net = same_Some row net is in rw same (omega arith)
count_take (row ∷ rows) (suc k) net is =
    let all : bit_count (take (suc (suc k)) (row ∷ rows)) ≡ width_of row.range + bit_count (take (suc k) rows) = sum_by-cons (λ (n : Net). width_of n.range) row (take (suc k) rows) in
    let some : bit_count (take (suc k) (row ∷ rows)) ≡ width_of row.range + bit_count (take k rows) = sum_by-cons (λ (n : Net). width_of n.range) row (take k rows) in
    let more : bit_count (take (suc k) rows) ≡ bit_count (take k rows) + width_of net.range = count_take rows k net is in omega (arith, all, some, more)

count_front : (rows : List Net) (k : ℕ) → bit_count (take k rows) ≤ bit_count rows
count_front [] zero = omega arith
count_front [] (suc k) = omega arith
count_front (row ∷ rows) zero = omega arith
count_front (row ∷ rows) (suc k) =
    let all : bit_count (row ∷ rows) ≡ width_of row.range + bit_count rows = sum_by-cons (λ (n : Net). width_of n.range) row rows in
    let some : bit_count (take (suc k) (row ∷ rows)) ≡ width_of row.range + bit_count (take k rows) = sum_by-cons (λ (n : Net). width_of n.range) row (take k rows) in
    let less : bit_count (take k rows) ≤ bit_count rows = count_front rows k in omega (arith, all, some, less)

pub count_more : (rows : List Net) (k count width : ℕ) (net : Net) → slice_get rows k ≡ Some net → width ≡ width_of net.range → count ≡ bit_count (take k rows) → count + width ≡ bit_count (take (k + 1) rows)
count_more rows k count width net is w c = let next : k + 1 ≡ suc k = omega arith in rw next (let more : bit_count (take (suc k) rows) ≡ bit_count (take k rows) + width_of net.range = count_take rows k net is in omega (arith, more, w, c))

pub count_over : (rows : List Net) (k sum : ℕ) → sum ≡ bit_count (take (k + 1) rows) → 400000 < sum → 400001 ≡ min (bit_count rows) 400001
count_over rows k sum is over = let less : bit_count (take (k + 1) rows) ≤ bit_count rows = count_front rows (k + 1) in omega (arith, less, is, over)

-- nets are no more than bits
pub rows_few : (rows : List Net) → length rows ≤ bit_count rows
rows_few [] = omega arith
rows_few (row ∷ rows) =
    let all : bit_count (row ∷ rows) ≡ width_of row.range + bit_count rows = sum_by-cons (λ (n : Net). width_of n.range) row rows in
    let less : length rows ≤ bit_count rows = rows_few rows in let one : 1 ≤ width_of row.range = wide row.range in omega (arith, all, less, one)

-- the names of the nets up to a place, and of one more
names_take : (scope : ℕ) (names : List Name) (rows : List Net) (k : ℕ) (name : Name) (net : Net) → slice_get names k ≡ Some name → slice_get rows k ≡ Some net →
    names_in scope (take (suc k) names) (take (suc k) rows) ≡ names_in scope (take k names) (take k rows) ++ bit_names scope name net.range
names_take scope [] rows k name net a b = cc
names_take scope (n ∷ names) [] k name net a b = cc
names_take scope (n ∷ names) (row ∷ rows) zero name net a b = let x : n ≡ name = same_Some n name a in let y : row ≡ net = same_Some row net b in rw (x, y) (append-nil (bit_names scope name net.range))
names_take scope (n ∷ names) (row ∷ rows) (suc k) name net a b =
    ap (λ (xs : List NetName). bit_names scope n row.range ++ xs) (names_take scope names rows k name net a b)
    ∙ sym (append_assoc (bit_names scope n row.range) (names_in scope (take k names) (take k rows)) (bit_names scope name net.range))

pub net_more : (made now new : Made) (scope : ℕ) (names : List Name) (rows : List Net) (k : ℕ) (name : Name) (net : Net) → slice_get names k ≡ Some name → slice_get rows k ≡ Some net →
    now ≡ joined made (nets_alone (names_in scope (take k names) (take k rows))) → new ≡ joined now (nets_alone (bit_names scope name net.range)) →
    new ≡ joined made (nets_alone (names_in scope (take (k + 1) names) (take (k + 1) rows)))
net_more made now new scope names rows k name net a b before put =
    let next : k + 1 ≡ suc k = omega arith in
    rw next (put ∙ ap (λ (m : Made). joined m (nets_alone (bit_names scope name net.range))) before
    ∙ nets_more made (names_in scope (take k names) (take k rows)) (bit_names scope name net.range)
    ∙ ap (λ (xs : List NetName). joined made (nets_alone xs)) (sym (names_take scope names rows k name net a b)))

-- all of them
pub names_all : (scope : ℕ) (names : List Name) (rows : List Net) (k : ℕ) → length rows ≡ length names → length rows ≤ k → names_in scope (take k names) (take k rows) ≡ names_in scope names rows
names_all scope [] [] zero same within = refl
names_all scope [] [] (suc k) same within = refl
names_all scope [] (row ∷ rows) k same within = absurd (omega (arith, same))
names_all scope (n ∷ names) [] k same within = absurd (omega (arith, same))
names_all scope (n ∷ names) (row ∷ rows) zero same within = absurd (omega (arith, within))
names_all scope (n ∷ names) (row ∷ rows) (suc k) same within = ap (λ (xs : List NetName). bit_names scope n row.range ++ xs) (names_all scope names rows k (omega (arith, same)) (omega (arith, within)))
