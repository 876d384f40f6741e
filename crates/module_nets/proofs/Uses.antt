-- Names that are used, one after another.
use Rattle.std.proofs.Common.{◌≡◌, ◌+◌, ◌<◌, ℕ, Bool, true, false, not, ◌||◌, cond, List, [], ◌∷◌, ◌++◌, Option, Some, None, is_some, ap, sym, ◌∙◌, refl, add-one, append_assoc, append-nil, drop, drop-cons, get_or, length, map, arith, length-append}
use Rattle.std.specs.Prelude.{filter, bytes_eq}
use Rattle.std.proofs.lemmas.Bool.{false_from_ne_true}
use Rattle.std.proofs.lemmas.List.Folds.{list_any-append, list_any_at}
use Rattle.std.proofs.lemmas.List.Quantifiers.{position-Some}
use Rattle.std.proofs.lemmas.List.Elements.{filter-append}
use Rattle.std.proofs.lemmas.Slice.Eq.{bytes_eq-Decides}
use Rattle.id_arena.specs.Names.{place_among, with_name}
use Rattle.id_arena.proofs.FirstPlaces.{list_any-position}
use Rattle.module_nets.specs.Names.{AreDifferent, Name, first_uses, is_among, with_names}

-- a name has a place among names where it is one of them
among_from : (names : List Name) (name : Name) (found : Option ℕ) → place_among names name ≡ found → is_some found ≡ is_among names name
among_from names name None e = sym (list_any-position (bytes_eq name) names e)
among_from names name (Some k) e =
    let here = position-Some (bytes_eq name) names k [] e in
    sym (list_any_at (bytes_eq name) names k [] here.0 here.1)

pub is_some-place : (names : List Name) (name : Name) → is_some (place_among names name) ≡ is_among names name
is_some-place names name = among_from names name (place_among names name) refl

-- names that differ do so both ways
pub apart_back : (a b : Name) → bytes_eq a b ≡ false → bytes_eq b a ≡ false
apart_back a b e =
    false_from_ne_true (bytes_eq b a) (λ same. let flipped = (bytes_eq-Decides a b).1 (sym ((bytes_eq-Decides b a).0 same)) in cc)

same_back : (a b : Name) → bytes_eq a b ≡ true → bytes_eq b a ≡ true
same_back a b e = (bytes_eq-Decides b a).1 (sym ((bytes_eq-Decides a b).0 e))

pub first_false : (a b : Bool) → (a || b) ≡ false → a ≡ false
first_false true b e = e
first_false false b e = refl

pub second_false : (a b : Bool) → (a || b) ≡ false → b ≡ false
second_false true b e = cc
second_false false b e = e

either_true : (a b c : Bool) → b ≡ true → (a || (b || c)) ≡ true
either_true true b c e = refl
either_true false b c e = ap (λ x. x || c) e

both_false : (a b : Bool) → a ≡ false → b ≡ false → (a || (b || false)) ≡ false
both_false a b e f = λ i. e i || (f i || false)

-- a name that comes again
pub twice : (names rest : List Name) (name : Name) → is_among names name ≡ true → AreDifferent (names ++ name ∷ rest) → ⊥
unfolding AreDifferent
twice [] rest name among d = (let no : false ≡ true = among in cc)
twice (x ∷ xs) rest name among d = go (bytes_eq name x) refl (twice xs rest name)
  where
    go : (b : Bool) → bytes_eq name x ≡ b → (is_among xs name ≡ true → AreDifferent (xs ++ name ∷ rest) → ⊥) → ⊥
    go true e later =
        let here : is_among (xs ++ name ∷ rest) x ≡ true = list_any-append (bytes_eq x) xs (name ∷ rest) ∙ either_true (is_among xs x) (bytes_eq x name) (is_among rest x) (same_back name x e) in
        let no : true ≡ false = sym here ∙ d.0 in cc
    go false e later = later (rw e at among) d.1

pub pushed : (names : List Name) (name : Name) → AreDifferent names → is_among names name ≡ false → AreDifferent (names ++ name ∷ [])
unfolding AreDifferent
pushed [] name d new = (refl, tt)
pushed (x ∷ xs) name d new =
    let apart = apart_back name x (first_false (bytes_eq name x) (is_among xs name) new) in (
      list_any-append (bytes_eq x) xs (name ∷ []) ∙ both_false (is_among xs x) (bytes_eq x name) d.0 apart,
      pushed xs name d.1 (second_false (bytes_eq name x) (is_among xs name) new),
    )

-- the names after one is interned
pub with_name-is : (names : List Name) (name : Name) → with_name names name ≡ cond (is_among names name) names (names ++ name ∷ [])
with_name-is names name = ap (λ b. cond b names (names ++ name ∷ [])) (is_some-place names name)

-- names do not become more exactly where the name was among them
pub stays : (names new : List Name) (name : Name) → new ≡ with_name names name → length new ≡ length names → is_among names name ≡ true
stays names new name is same = go (is_among names name) refl
  where
    go : (b : Bool) → is_among names name ≡ b → b ≡ true
    go true e = refl
    go false e =
        let last : new ≡ names ++ name ∷ [] = is ∙ with_name-is names name ∙ ap (λ b. cond b names (names ++ name ∷ [])) e in
        let long : length new ≡ length names + 1 = ap length last ∙ length-append names (name ∷ []) in
        absurd (omega (arith, same, long))

pub grows : (names new : List Name) (name : Name) → new ≡ with_name names name → (length new ≡ length names → ⊥) → is_among names name ≡ false
grows names new name is more =
    false_from_ne_true (is_among names name) (λ among. more (ap length (is ∙ with_name-is names name ∙ ap (λ b. cond b names (names ++ name ∷ [])) among)))

-- a name that was not among them goes last
pub put_last : (names new : List Name) (name : Name) → new ≡ with_name names name → is_among names name ≡ false → new ≡ names ++ name ∷ []
put_last names new name is fresh = is ∙ with_name-is names name ∙ ap (λ b. cond b names (names ++ name ∷ [])) fresh

-- the names so far are different, and with those that are left they are all names
pub record SoFar (names left all : List Name) : Type 0 where
  pub different : AreDifferent names
  pub together : names ++ left ≡ all

pub so_far_none : (names all : List Name) → names ≡ [] → SoFar names all all
unfolding AreDifferent
so_far_none names all e = record { different = rw e tt; together = rw e refl }

pub so_far_twice : (names left rest all : List Name) (name : Name) → SoFar names left all → left ≡ name ∷ rest → is_among names name ≡ true → AreDifferent all → ⊥
so_far_twice names left rest all name s e among d =
    twice names rest name among (let whole : all ≡ names ++ name ∷ rest = sym s.together ∙ ap (λ l. names ++ l) e in rw whole at d)

pub so_far_more : (names left rest all new : List Name) (name : Name) → SoFar names left all → left ≡ name ∷ rest → is_among names name ≡ false → new ≡ with_name names name → SoFar new rest all
so_far_more names left rest all new name s e fresh is =
    let last : new ≡ names ++ name ∷ [] = put_last names new name is fresh in
    record {
      different = rw last (pushed names name s.different fresh);
      together = ap (λ l. l ++ rest) last ∙ append_assoc names (name ∷ []) rest ∙ ap (λ l. names ++ l) (sym e) ∙ s.together;
    }

-- what is left of a mapped list begins with the image of the item there
pub drop-map : {X Y : Type 0} (f : X → Y) (xs : List X) (k : ℕ) (d : X) → k < length xs → map f (drop k xs) ≡ f (get_or xs k d) ∷ map f (drop (k + 1) xs)
drop-map f xs k d within = rw (drop-cons xs k d within, add-one) refl

-- a name that is kept is among those that are kept where it is among all
pub among-kept : (keep : Name → Bool) (names : List Name) (name : Name) → keep name ≡ true → is_among (filter keep names) name ≡ is_among names name
among-kept keep [] name k = refl
among-kept keep (x ∷ xs) name k = go (among-kept keep xs name k) (keep x) refl
  where
    go : is_among (filter keep xs) name ≡ is_among xs name → (b : Bool) → keep x ≡ b → is_among (cond b (x ∷ filter keep xs) (filter keep xs)) name ≡ (bytes_eq name x || is_among xs name)
    go rest true e = ap (λ r. bytes_eq name x || r) rest
    go rest false e =
        let apart : bytes_eq name x ≡ false = false_from_ne_true (bytes_eq name x) (λ same. let equal : name ≡ x = (bytes_eq-Decides name x).0 same in let no : true ≡ false = sym k ∙ ap keep equal ∙ e in cc) in
        rest ∙ sym (ap (λ b. b || is_among xs name) apart)

abbrev pub other_than : Name → Name → Bool
other_than name other = not (bytes_eq name other)

-- what is kept of names with a last one
kept_last : (keep : Name → Bool) (names : List Name) (name : Name) (b : Bool) → keep name ≡ b → filter keep (names ++ name ∷ []) ≡ filter keep names ++ cond b (name ∷ []) []
kept_last keep names name b e = filter-append keep names (name ∷ []) ∙ ap (λ k. filter keep names ++ cond k (name ∷ []) []) e

kept_same : (keep : Name → Bool) (names : List Name) (name : Name) (c : Bool) → keep name ≡ false → filter keep (cond c names (names ++ name ∷ [])) ≡ filter keep names
kept_same keep names name true e = refl
kept_same keep names name false e = kept_last keep names name false e ∙ append-nil (filter keep names)

kept_more : (keep : Name → Bool) (names : List Name) (name : Name) (c : Bool) → keep name ≡ true → filter keep (cond c names (names ++ name ∷ [])) ≡ cond c (filter keep names) (filter keep names ++ name ∷ [])
kept_more keep names name true e = refl
kept_more keep names name false e = kept_last keep names name true e

first_of_two : (x : Name) (kept : List Name) (name : Name) (c : Bool) → x ∷ cond c kept (kept ++ name ∷ []) ≡ cond c (x ∷ kept) (x ∷ kept ++ name ∷ [])
first_of_two x kept name true = refl
first_of_two x kept name false = refl

-- a name that is interned after others but for the first, or after all others
interned : (x name : Name) (names : List Name) → x ∷ filter (other_than x) (with_name names name) ≡ with_name (x ∷ filter (other_than x) names) name
interned x name names =
    ap (λ l. x ∷ filter (other_than x) l) (with_name-is names name)
    ∙ go (bytes_eq name x) refl
    ∙ sym (with_name-is (x ∷ filter (other_than x) names) name)
  where
    go : (b : Bool) → bytes_eq name x ≡ b
        → x ∷ filter (other_than x) (cond (is_among names name) names (names ++ name ∷ []))
        ≡ cond (bytes_eq name x || is_among (filter (other_than x) names) name) (x ∷ filter (other_than x) names) (x ∷ filter (other_than x) names ++ name ∷ [])
    go true e =
        let dropped : other_than x name ≡ false = ap not (same_back name x e) in
        ap (λ l. x ∷ l) (kept_same (other_than x) names name (is_among names name) dropped)
        ∙ sym (ap (λ b. cond (b || is_among (filter (other_than x) names) name) (x ∷ filter (other_than x) names) (x ∷ filter (other_than x) names ++ name ∷ [])) e)
    go false e =
        let kept : other_than x name ≡ true = ap not (apart_back name x e) in
        ap (λ l. x ∷ l) (kept_more (other_than x) names name (is_among names name) kept)
        ∙ first_of_two x (filter (other_than x) names) name (is_among names name)
        ∙ sym (ap (λ c. cond c (x ∷ filter (other_than x) names) (x ∷ filter (other_than x) names ++ name ∷ [])) (among-kept (other_than x) names name kept))
        ∙ sym (ap (λ b. cond (b || is_among (filter (other_than x) names) name) (x ∷ filter (other_than x) names) (x ∷ filter (other_than x) names ++ name ∷ [])) e)

-- first uses with a name at the end
first_uses-push : (names : List Name) (name : Name) → first_uses (names ++ name ∷ []) ≡ with_name (first_uses names) name
unfolding first_uses
first_uses-push [] name = refl
first_uses-push (x ∷ xs) name = ap (λ l. x ∷ filter (other_than x) l) (first_uses-push xs name) ∙ interned x name (first_uses xs)

-- names interned after the first uses of others
pub first_uses-append : (names more : List Name) → with_names (first_uses names) more ≡ first_uses (names ++ more)
first_uses-append names [] = ap first_uses (sym (append-nil names))
first_uses-append names (name ∷ more) =
    ap (λ l. with_names l more) (sym (first_uses-push names name))
    ∙ first_uses-append (names ++ name ∷ []) more
    ∙ ap first_uses (append_assoc names (name ∷ []) more)

pub first_uses-all : (names : List Name) → with_names [] names ≡ first_uses names
unfolding first_uses
first_uses-all names = first_uses-append [] names

-- first uses have the same names
pub is_among-first_uses : (names : List Name) (name : Name) → is_among (first_uses names) name ≡ is_among names name
unfolding first_uses
is_among-first_uses [] name = refl
is_among-first_uses (x ∷ xs) name = go (bytes_eq name x) refl (is_among-first_uses xs name)
  where
    go : (b : Bool) → bytes_eq name x ≡ b → is_among (first_uses xs) name ≡ is_among xs name → (bytes_eq name x || is_among (filter (other_than x) (first_uses xs)) name) ≡ (bytes_eq name x || is_among xs name)
    go true e same = ap (λ b. b || is_among (filter (other_than x) (first_uses xs)) name) e ∙ sym (ap (λ b. b || is_among xs name) e)
    go false e same = ap (λ r. bytes_eq name x || r) (among-kept (other_than x) (first_uses xs) name (ap not (apart_back name x e)) ∙ same)

-- a name that is among others has a place
pub absent : (names : List Name) (name text : Name) (found : Option ℕ) → found ≡ None → found ≡ place_among names text → text ≡ name → is_among names name ≡ true → ⊥
absent names name text found none place same among =
    let e : is_some (place_among names text) ≡ false = ap (λ o. is_some o) (sym place ∙ none) in
    let f : is_among names text ≡ true = ap (is_among names) same ∙ among in
    let no : false ≡ true = sym e ∙ is_some-place names text ∙ f in cc
