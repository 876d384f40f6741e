-- Offered to the crates above: how ports are taken into an index by their names, and first places of lists.
use Rattle.std.proofs.Common.{◌≡◌, ◌⊎◌, ℕ, zero, suc, ◌+◌, ◌<◌, ◌≤◌, Bool, true, false, if◌then◌else◌, Option, Some, None, is_some, option_map, slice_get, List, [], ◌∷◌, ◌++◌, take, get_or, length, inl, inr, refl, sym, ap, ◌∙◌, subst, arith, length-append}
use Rattle.std.specs.List.{position_from, list_any}
use Rattle.std.specs.Str.{bytes_eq}
use Rattle.std.proofs.lemmas.Bool.{cases_Bool, cond-true, cond-false, false_from_ne_true, true≢false, or_parts}
use Rattle.std.proofs.lemmas.List.{take_more, length-take-le}
use Rattle.std.proofs.lemmas.Option.{slice_get_within, slice_get-get_or}
use Rattle.std.proofs.lemmas.Slice.Eq.{bytes_eq-Decides}
use Rattle.design_core.specs.declared.parts.Port.{Port}
use Rattle.id_arena.specs.Names.{place_among, with_name}
use Rattle.id_arena.proofs.FirstPlaces.{place_among-Some, place_among-last, list_any-position}
use Rattle.domain_groups.specs.Ports.{port_named, Indexes}

-- what a test of the first element decides
pub first_yes : {X : Type 0} (test : X → Bool) (from : ℕ) (y : X) (ys : List X) → test y ≡ true → position_from test from (y ∷ ys) ≡ Some from
first_yes test from y ys e = cond-true (test y) (Some from) (position_from test (from + 1) ys) e

pub first_no : {X : Type 0} (test : X → Bool) (from : ℕ) (y : X) (ys : List X) → test y ≡ false → position_from test from (y ∷ ys) ≡ position_from test (from + 1) ys
first_no test from y ys e = cond-false (test y) (Some from) (position_from test (from + 1) ys) e

-- a first place stays where an element is put last
stays : {X : Type 0} (test : X → Bool) (x : X) (from place : ℕ) (xs : List X) → position_from test from xs ≡ Some place → position_from test from (xs ++ x ∷ []) ≡ Some place
stays test x from place [] found = absurd (cc)
stays test x from place (y ∷ ys) found =
    elim (cases_Bool (test y)) [
      | inl e ↦ first_yes test from y (ys ++ x ∷ []) e ∙ sym (first_yes test from y ys e) ∙ found
      | inr e ↦ first_no test from y (ys ++ x ∷ []) e ∙ stays test x (from + 1) place ys (sym (first_no test from y ys e) ∙ found)
    ]

-- and where there was none, the last element decides
comes : {X : Type 0} (test : X → Bool) (x : X) (from : ℕ) (xs : List X) → position_from test from xs ≡ None → position_from test from (xs ++ x ∷ []) ≡ (if test x then Some (from + length xs) else None)
comes test x from [] none = (let same : from ≡ from + 0 = omega arith in ap (λ n. if test x then Some n else None) same)
comes test x from (y ∷ ys) none =
    elim (cases_Bool (test y)) [
      | inl e ↦ (let s : Some from ≡ None = sym (first_yes test from y ys e) ∙ none in absurd (cc))
      | inr e ↦
          (let places : from + 1 + length ys ≡ from + suc (length ys) = omega arith in
          first_no test from y (ys ++ x ∷ []) e
          ∙ comes test x (from + 1) ys (sym (first_no test from y ys e) ∙ none)
          ∙ ap (λ n. if test x then Some n else None) places)
    ]

pub position_within : {X : Type 0} (test : X → Bool) (from place : ℕ) (xs : List X) → position_from test from xs ≡ Some place → (from ≤ place) × (place < from + length xs)
position_within test from place [] found = absurd (cc)
position_within test from place (y ∷ ys) found =
    elim (cases_Bool (test y)) [
      | inl e ↦ (let same : Some from ≡ Some place = sym (first_yes test from y ys e) ∙ found in let equal : from ≡ place = cc in (omega arith, omega arith))
      | inr e ↦ (let rest = position_within test (from + 1) place ys (sym (first_no test from y ys e) ∙ found) in (omega (arith, rest.0), omega (arith, rest.1)))
    ]

pub named_within : (ports : List Port) (name : List ℕ) (place : ℕ) → port_named ports name ≡ Some place → place < length ports
named_within ports name place found = omega (arith, (position_within (λ (port : Port). bytes_eq name port.name) 0 place ports found).1)

-- what stands in a list with an element put last
at_push : {X : Type 0} (xs : List X) (x y : X) (k : ℕ) → slice_get (xs ++ x ∷ []) k ≡ Some y → (slice_get xs k ≡ Some y) ⊎ ((k ≡ length xs) × (x ≡ y))
at_push [] x y zero here = inr (refl, (cc))
at_push [] x y (suc k) here = absurd (cc)
at_push (z ∷ zs) x y zero here = inl here
at_push (z ∷ zs) x y (suc k) here =
    elim (at_push zs x y k here) [
      | inl there ↦ inl there
      | inr last ↦ inr (ap suc last.0, last.1)
    ]

in_front : {X : Type 0} (xs : List X) (x y : X) (k : ℕ) → slice_get xs k ≡ Some y → slice_get (xs ++ x ∷ []) k ≡ Some y
in_front [] x y k here = absurd (cc)
in_front (z ∷ zs) x y zero here = here
in_front (z ∷ zs) x y (suc k) here = in_front zs x y k here

at_end : {X : Type 0} (xs : List X) (x : X) → slice_get (xs ++ x ∷ []) (length xs) ≡ Some x
at_end [] x = refl
at_end (z ∷ zs) x = at_end zs x

-- a text that has no place among names is none of them
not_any : {X : Type 0} (test : X → Bool) (xs : List X) (k : ℕ) (x : X) → list_any test xs ≡ false → slice_get xs k ≡ Some x → test x ≡ false
not_any test [] k x none here = absurd (cc)
not_any test (y ∷ ys) zero x none here = (let same : y ≡ x = cc in ap test (sym same) ∙ (or_parts (test y) (list_any test ys) none).0)
not_any test (y ∷ ys) (suc k) x none here = not_any test ys k x (or_parts (test y) (list_any test ys) none).1 here

pub not_among : (names : List (List ℕ)) (text : List ℕ) (k : ℕ) → place_among names text ≡ None → slice_get names k ≡ Some text → ⊥
not_among names text k none here =
    true≢false (sym ((bytes_eq-Decides text text).1 refl) ∙ not_any (bytes_eq text) names k text (list_any-position (bytes_eq text) names none) here)

module _ (ports : List Port) (names : List (List ℕ)) (firsts : List ℕ) (port : Port) (so_far : Indexes ports names firsts) where
  abbrev named : List ℕ → Port → Bool
  named name p = bytes_eq name p.name

  still : (place : ℕ) (name : List ℕ) → port_named ports name ≡ Some place → port_named (ports ++ port ∷ []) name ≡ Some place
  still place name found = stays (named name) port 0 place ports found

  other : (name : List ℕ) → port_named ports name ≡ None → (name ≡ port.name → ⊥) → port_named (ports ++ port ∷ []) name ≡ None
  other name none differs =
      let no-match : bytes_eq name port.name ≡ false = false_from_ne_true (bytes_eq name port.name) (λ e. differs ((bytes_eq-Decides name port.name).0 e)) in
      comes (named name) port 0 ports none ∙ cond-false _ _ _ no-match

  -- a name that is known leads to an earlier port
  pub with_known : (k : ℕ) → place_among names port.name ≡ Some k → Indexes (ports ++ port ∷ []) names firsts
  with_known k known = record {
    same = so_far.same;
    first = λ j place name here there. still place name (so_far.first j place name here there);
    none = λ name absent. other name (so_far.none name absent) (λ e. absent k (place_among-Some names port.name k known ∙ ap Some (sym e)));
  }

  -- a new name leads to this port
  pub with_new : place_among names port.name ≡ None → Indexes (ports ++ port ∷ []) (names ++ port.name ∷ []) (firsts ++ length ports ∷ [])
  with_new new = record {
    same = omega (arith, length-append names (port.name ∷ []), length-append firsts (length ports ∷ []), so_far.same);
    first = λ j place name here there. first j place name (at_push names port.name name j here) (at_push firsts (length ports) place j there);
    none = λ name absent. other name (so_far.none name (λ k here. absent k (in_front names port.name name k here))) (λ e. absent (length names) (at_end names port.name ∙ ap Some (sym e)));
  }
    where
      unnamed : (k : ℕ) → slice_get names k ≡ Some port.name → ⊥
      unnamed k here = not_among names port.name k new here

      first : (j place : ℕ) (name : List ℕ) → (slice_get names j ≡ Some name) ⊎ ((j ≡ length names) × (port.name ≡ name)) → (slice_get firsts j ≡ Some place) ⊎ ((j ≡ length firsts) × (length ports ≡ place))
          → port_named (ports ++ port ∷ []) name ≡ Some place
      first j place name (inl here) (inl there) = still place name (so_far.first j place name here there)
      first j place name (inl here) (inr last) = absurd (omega (arith, slice_get_within names j name here, so_far.same, last.0))
      first j place name (inr last) (inl there) = absurd (omega (arith, slice_get_within firsts j place there, so_far.same, last.0))
      first j place name (inr last) (inr end) =
          let absent : port_named ports name ≡ None = so_far.none name (λ k here. unnamed k (here ∙ ap Some (sym last.1))) in
          comes (named name) port 0 ports absent ∙ ap (λ b. if b then Some (0 + length ports) else None) ((bytes_eq-Decides name port.name).1 (sym last.1)) ∙ (let places : 0 + length ports ≡ place = omega (arith, end.1) in ap Some places)

-- the next port is taken in
pub taken_in : (ports : List Port) (names names-2 : List (List ℕ)) (firsts firsts-2 : List ℕ) (place number known : ℕ) (port : Port) (text : List ℕ)
    → place < length ports
    → Indexes (take place ports) names firsts
    → port ≡ get_or ports place port
    → text ≡ (get_or ports place port).name
    → known ≡ length names
    → place_among names-2 text ≡ Some number
    → names-2 ≡ with_name names text
    → (number ≡ known → firsts-2 ≡ firsts ++ place ∷ [])
    → ((number ≡ known → ⊥) → firsts-2 ≡ firsts)
    → Indexes (take (place + 1) ports) names-2 firsts-2
taken_in ports names names-2 firsts firsts-2 place number known port text inside so_far here text_is count found more new old =
    go (place_among names text) refl
  where
    named : text ≡ port.name
    named = text_is ∙ ap (λ p. p.name) (sym here)

    longer : take place ports ++ port ∷ [] ≡ take (place + 1) ports
    longer = ap (λ p. take place ports ++ p ∷ []) here ∙ sym (take_more ports place port inside)

    go : (o : Option ℕ) → place_among names text ≡ o → Indexes (take (place + 1) ports) names-2 firsts-2
    go None none =
        let added : names-2 ≡ names ++ text ∷ [] = more ∙ ap (λ o. if is_some o then names else names ++ text ∷ []) none in
        let own : place_among (names ++ text ∷ []) text ≡ Some number = sym (ap (λ ns. place_among ns text) added) ∙ found in
        let same : Some (length names) ≡ Some number = sym (place_among-last names text none) ∙ own in
        let last : length names ≡ number = cc in
        let step = with_new (take place ports) names firsts port so_far (subst (λ t. place_among names t ≡ None) named none) in
        let places : length (take place ports) ≡ place = length-take-le place ports (omega arith) in
        let longer_names : names ++ port.name ∷ [] ≡ names-2 = ap (λ t. names ++ t ∷ []) (sym named) ∙ sym added in
        let longer_firsts : firsts ++ length (take place ports) ∷ [] ≡ firsts-2 = ap (λ n. firsts ++ n ∷ []) places ∙ sym (new (omega arith)) in
        subst (λ ps. Indexes ps names-2 firsts-2) longer (subst (λ ns. Indexes (take place ports ++ port ∷ []) ns firsts-2) longer_names (subst (Indexes (take place ports ++ port ∷ []) (names ++ port.name ∷ [])) longer_firsts step))
    go (Some k) known_name =
        let same : names-2 ≡ names = more ∙ ap (λ o. if is_some o then names else names ++ text ∷ []) known_name in
        let own : place_among names text ≡ Some number = sym (ap (λ ns. place_among ns text) same) ∙ found in
        let low = slice_get_within names number text (place_among-Some names text number own) in
        let step = with_known (take place ports) names firsts port so_far k (subst (λ t. place_among names t ≡ Some k) named known_name) in
        subst (λ ps. Indexes ps names-2 firsts-2) longer (subst (λ ns. Indexes (take place ports ++ port ∷ []) ns firsts-2) (sym same) (subst (Indexes (take place ports ++ port ∷ []) names) (sym (old (λ e. omega arith))) step))

-- one more text makes at most one more name
pub few_more : (names : List (List ℕ)) (text : List ℕ) (k : ℕ) (after : List (List ℕ)) → after ≡ with_name names text → length names ≤ k → length after ≤ k + 1
few_more names text k after is few = subst (λ (some : List (List ℕ)). length some ≤ k + 1) (sym is) (go (is_some (place_among names text)))
  where
    go : (b : Bool) → length (if b then names else names ++ text ∷ []) ≤ k + 1
    go true = omega (arith, few)
    go false = omega (arith, few, length-append names (text ∷ []))
