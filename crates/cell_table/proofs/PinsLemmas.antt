use Rattle.std.proofs.Common.{◌≡◌, ◌<◌, ◌+◌, ℕ, List, [], ◌∷◌, ◌++◌, Bool, true, false, sym, refl, map, take, drop, length, get_or, cond, not, subst}
use Rattle.std.specs.Prelude.{bytes_eq, ◌||◌}
use Rattle.std.specs.Borrow.{Bor}
use Rattle.std.specs.HashSet.{HashSet, contains}
use Rattle.std.specs.List.{list_any}
use Rattle.std.proofs.lemmas.Bool.Decides.{same_from_decides}
use Rattle.std.proofs.lemmas.List.{take_more, take-append-drop, map-append}
use Rattle.std.proofs.lemmas.List.Folds.{list_any-append}
use Rattle.std.proofs.lemmas.Slice.Eq.{bytes_eq-Decides}
use Rattle.cell_table.specs.Pins.{has_twice, stands_twice}
use Rattle.cell_table.specs.Seen.{is_seen}

-- the bytes behind references
abbrev pub texts : List (Bor (List ℕ)) → List (List ℕ)
texts names = map (λ name. name.now) names

pub bytes_eq-swapped : (a b : List ℕ) → bytes_eq a b ≡ bytes_eq b a
bytes_eq-swapped a b =
    let there = bytes_eq-Decides a b in
    let back = bytes_eq-Decides b a in
    same_from_decides (bytes_eq a b) (bytes_eq b a) there ((λ t. sym (back.0 t)), (λ e. back.1 (sym e)))

or-true : (a : Bool) → (a || true) ≡ true
or-true true = refl
or-true false = refl

or-false : (a : Bool) → (a || false) ≡ a
or-false true = refl
or-false false = refl

-- the four parts in the other order
or-exchange : (a b c d : Bool) → ((a || b) || (c || d)) ≡ ((a || c) || (b || d))
or-exchange true b c d = refl
or-exchange false true true d = refl
or-exchange false true false d = refl
or-exchange false false c d = refl

or-grows : (a b c d : Bool) → (a || b) ≡ true → (b ≡ true → d ≡ true) → ((a || c) || d) ≡ true
or-grows true b c d some grows = refl
or-grows false b true d some grows = refl
or-grows false b false d some grows = grows some

or-cond : (a b : Bool) → (a || b) ≡ cond b true a
or-cond a true = or-true a
or-cond a false = or-false a

-- what the answer of an insertion says of the key
pub stood_before : (added stood : Bool) → added ≡ not stood → added ≡ false → stood ≡ true
stood_before added true is not_added = refl
stood_before added false is not_added = cc

pub not_before : (added stood : Bool) → added ≡ not stood → added ≡ true → stood ≡ false
not_before added true is was_added = cc
not_before added false is was_added = refl

-- a longer list still has what stood twice
pub has_twice-front : (xs ys : List (List ℕ)) → has_twice xs ≡ true → has_twice (xs ++ ys) ≡ true
has_twice-front [] ys h = cc
has_twice-front (x ∷ xs) ys h =
    rw (list_any-append (bytes_eq x) xs ys)
    (or-grows (list_any (bytes_eq x) xs) (has_twice xs) (list_any (bytes_eq x) ys) (has_twice (xs ++ ys)) h (has_twice-front xs ys))

-- one pin more: it stood already, or another stood twice
pub has_twice-push : (xs : List (List ℕ)) (pin : List ℕ) → has_twice (xs ++ pin ∷ []) ≡ (has_twice xs || list_any (bytes_eq pin) xs)
has_twice-push [] pin = refl
has_twice-push (x ∷ xs) pin =
    rw (list_any-append (bytes_eq x) xs (pin ∷ []), has_twice-push xs pin, or-false, bytes_eq-swapped x pin)
    (or-exchange (list_any (bytes_eq x) xs) (bytes_eq pin x) (has_twice xs) (list_any (bytes_eq pin) xs))

-- a name that stood before stands twice
pub found_twice : (names : List (Bor (List ℕ))) (i : ℕ) (d : Bor (List ℕ)) → i < length names → list_any (bytes_eq (get_or names i d).now) (texts (take i names)) ≡ true → has_twice (texts names) ≡ true
found_twice names i d within stood =
    let more : has_twice (texts (take (i + 1) names)) ≡ true = rw (take_more names i d within, map-append, has_twice-push, stood) (or-true (has_twice (texts (take i names)))) in
    let front = has_twice-front (texts (take (i + 1) names)) (texts (drop (i + 1) names)) more in
    let P : List (Bor (List ℕ)) → Type 0 = λ ns. has_twice (texts ns) ≡ true in
    subst P (take-append-drop (i + 1) names) (rw map-append front)

-- one that did not stand before leaves each name once
pub still_once : (names : List (Bor (List ℕ))) (i : ℕ) (d : Bor (List ℕ)) → i < length names → has_twice (texts (take i names)) ≡ false → list_any (bytes_eq (get_or names i d).now) (texts (take i names)) ≡ false → has_twice (texts (take (i + 1) names)) ≡ false
still_once names i d within once new = rw (take_more names i d within, map-append, has_twice-push, once) new

-- what is seen after one name more
pub seen_more : (names : List (Bor (List ℕ))) (i : ℕ) (d : Bor (List ℕ)) (q : List ℕ) → i < length names → list_any (bytes_eq q) (texts (take (i + 1) names)) ≡ cond (bytes_eq (get_or names i d).now q) true (list_any (bytes_eq q) (texts (take i names)))
seen_more names i d q within =
    rw (take_more names i d within, map-append, list_any-append, or-false, bytes_eq-swapped q (get_or names i d).now)
    (or-cond (list_any (bytes_eq q) (texts (take i names))) (bytes_eq (get_or names i d).now q))

-- a pin that stands twice by itself does so whatever is shared
pub twice_anyway : (pins shared : List (List ℕ)) → has_twice pins ≡ true → true ≡ stands_twice pins shared
twice_anyway pins shared twice = rw twice refl

-- where the seen pins are these, the shared ones that were seen are those that stand among these
among_seen : {S : Type 0} (pins shared : List (List ℕ)) (seen : HashSet (Bor (List ℕ)) S) → ((q : Bor (List ℕ)) → contains (λ x y. bytes_eq x.now y.now) seen q ≡ list_any (bytes_eq q.now) pins) → list_any (is_seen seen) shared ≡ list_any (λ pin. list_any (bytes_eq pin) pins) shared
among_seen pins [] seen sees = refl
among_seen pins (pin ∷ shared) seen sees =
    let first : is_seen seen pin ≡ list_any (bytes_eq pin) pins = sees (record { ref_ptr = (0, 0); now = pin }) in
    rw (first, among_seen pins shared seen sees) refl

-- where no pin stands twice by itself, the shared ones decide
pub shared_decide : {S : Type 0} (pins shared : List (List ℕ)) (seen : HashSet (Bor (List ℕ)) S) → has_twice pins ≡ false → ((q : Bor (List ℕ)) → contains (λ x y. bytes_eq x.now y.now) seen q ≡ list_any (bytes_eq q.now) pins) → list_any (is_seen seen) shared ≡ stands_twice pins shared
shared_decide pins shared seen once sees = rw once (among_seen pins shared seen sees)
