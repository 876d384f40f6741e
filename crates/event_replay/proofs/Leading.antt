-- Where paths lead: how an index of them grows, element by element.
use Rattle.std.proofs.Common.{◌≡◌, ℕ, zero, suc, ◌+◌, ◌<◌, ◌≤◌, Bool, true, false, not, cond, Option, Some, None, is_some, option_map, slice_get, List, [], ◌∷◌, ◌++◌, take, get_or, length, inl, inr, refl, sym, ap, ◌∙◌, subst, arith, length-append}
use Rattle.std.specs.Prelude.{zip, find, bytes_eq, filter_map, IsTrue}
use Rattle.std.specs.List.{enumerate_from, list_any, position_or_len}
use Rattle.std.specs.Option.{option_or}
use Rattle.std.proofs.lemmas.Bool.{cases_Bool, cond-true, cond-false, or_parts}
use Rattle.std.proofs.lemmas.List.Folds.{find-append}
use Rattle.std.proofs.lemmas.List.Elements.{filter_map-append}
use Rattle.std.proofs.lemmas.List.Quantifiers.{position-Some}
use Rattle.std.proofs.lemmas.List.Sums.{position_or_len_is}
use Rattle.std.proofs.lemmas.Option.{slice_get_within, slice_get-get_or, same_Some}
use Rattle.std.proofs.lemmas.Slice.Eq.{bytes_eq-Decides}
use Rattle.id_arena.specs.Names.{place_among, with_name}
use Rattle.id_arena.proofs.FirstPlaces.{place_among-Some, place_among-last, list_any-position}
use Rattle.design_core.specs.declared.element.Element.{Element}
use Rattle.domain_groups.specs.Openings.{entries, entry_of, led_to}
use Rattle.event_replay.specs.PathIndex.{LeadAlike, TakesIn}

abbrev pub Entries : Type 0
Entries = List (List ℕ × ℕ)

-- whether an entry has a path
abbrev has_path : List ℕ → List ℕ × ℕ → Bool
has_path path e = bytes_eq path e.0

led_is : (path : List ℕ) (es : Entries) (o : Option (List ℕ × ℕ)) → find (has_path path) es ≡ o → led_to es path ≡ option_map (λ e. e.1) o
led_is path es o e = ap (option_map (λ (x : List ℕ × ℕ). x.1)) e

mapped_or : {A B : Type 0} (f : A → B) (o q : Option A) → option_map f (option_or o q) ≡ option_or (option_map f o) (option_map f q)
mapped_or f None q = refl
mapped_or f (Some x) q = refl

-- where a path leads in two lists, one after the other
pub led_append : (xs ys : Entries) (path : List ℕ) → led_to (xs ++ ys) path ≡ option_or (led_to xs path) (led_to ys path)
led_append xs ys path =
    ap (option_map (λ (x : List ℕ × ℕ). x.1)) (find-append (has_path path) xs ys)
    ∙ mapped_or (λ (x : List ℕ × ℕ). x.1) (find (has_path path) xs) (find (has_path path) ys)

-- the first name that is the path leads on
led_first : (path : List ℕ) (names : List (List ℕ)) (numbers : List ℕ) (n : ℕ) → slice_get numbers (position_or_len (bytes_eq path) names) ≡ Some n → position_or_len (bytes_eq path) names < length names → led_to (zip names numbers) path ≡ Some n
led_first path [] numbers n here low = absurd (omega arith)
led_first path (x ∷ xs) [] n here low = absurd (cc)
led_first path (x ∷ xs) (m ∷ ms) n here low = go (λ at less. led_first path xs ms n at less) (bytes_eq path x) refl
  where
    go : (slice_get ms (position_or_len (bytes_eq path) xs) ≡ Some n → position_or_len (bytes_eq path) xs < length xs → led_to (zip xs ms) path ≡ Some n) → (b : Bool) → bytes_eq path x ≡ b → led_to ((x, m) ∷ zip xs ms) path ≡ Some n
    go rest true e =
        let at : position_or_len (bytes_eq path) (x ∷ xs) ≡ 0 = ap (λ b. cond (not b) (1 + position_or_len (bytes_eq path) xs) 0) e in
        let first : Some m ≡ Some n = ap (slice_get (m ∷ ms)) (sym at) ∙ here in
        led_is path ((x, m) ∷ zip xs ms) (Some (x, m)) (cond-true (bytes_eq path x) (Some (x, m)) (find (has_path path) (zip xs ms)) e) ∙ first
    go rest false e =
        let one : 1 + position_or_len (bytes_eq path) xs ≡ suc (position_or_len (bytes_eq path) xs) = omega arith in
        let at : position_or_len (bytes_eq path) (x ∷ xs) ≡ suc (position_or_len (bytes_eq path) xs) = ap (λ b. cond (not b) (1 + position_or_len (bytes_eq path) xs) 0) e ∙ one in
        let more = rest (ap (slice_get (m ∷ ms)) (sym at) ∙ here) (omega (arith, low, at)) in
        ap (option_map (λ (x : List ℕ × ℕ). x.1)) (cond-false (bytes_eq path x) (Some (x, m)) (find (has_path path) (zip xs ms)) e) ∙ more

pub led_known : (path : List ℕ) (names : List (List ℕ)) (numbers : List ℕ) (k n : ℕ) → place_among names path ≡ Some k → slice_get numbers k ≡ Some n → led_to (zip names numbers) path ≡ Some n
led_known path names numbers k n known here =
    let found = position-Some (bytes_eq path) names k [] known in
    let at : position_or_len (bytes_eq path) names ≡ k = position_or_len_is (bytes_eq path) names k [] (omega (arith, found.0)) found.2 (λ _. found.1) in
    led_first path names numbers n (ap (slice_get numbers) at ∙ here) (omega (arith, found.0, at))

led_none : (path : List ℕ) (names : List (List ℕ)) (numbers : List ℕ) → list_any (bytes_eq path) names ≡ false → led_to (zip names numbers) path ≡ None
led_none path [] numbers none = refl
led_none path (x ∷ xs) [] none = refl
led_none path (x ∷ xs) (m ∷ ms) none =
    let parts = or_parts (bytes_eq path x) (list_any (bytes_eq path) xs) none in
    ap (option_map (λ (x : List ℕ × ℕ). x.1)) (cond-false (bytes_eq path x) (Some (x, m)) (find (has_path path) (zip xs ms)) parts.0)
    ∙ led_none path xs ms parts.1

pub led_unknown : (path : List ℕ) (names : List (List ℕ)) (numbers : List ℕ) → place_among names path ≡ None → led_to (zip names numbers) path ≡ None
led_unknown path names numbers none = led_none path names numbers (list_any-position (bytes_eq path) names none)

-- two lists of one length, each with one more at its end
zip_last : {X Y : Type 0} (xs : List X) (ys : List Y) (x : X) (y : Y) → length ys ≡ length xs → zip (xs ++ x ∷ []) (ys ++ y ∷ []) ≡ zip xs ys ++ (x, y) ∷ []
zip_last [] [] x y same = refl
zip_last [] (b ∷ ys) x y same = absurd (omega arith)
zip_last (a ∷ xs) [] x y same = absurd (omega arith)
zip_last (a ∷ xs) (b ∷ ys) x y same = ap (λ zs. (a, b) ∷ zs) (zip_last xs ys x y (omega arith))

-- an entry of a path that leads somewhere already is of no matter
led_again : (es : Entries) (path : List ℕ) (number n : ℕ) → led_to es path ≡ Some n → LeadAlike es (es ++ (path, number) ∷ [])
led_again es path number n known q = sym (led_append es ((path, number) ∷ []) q ∙ go (bytes_eq q path) refl)
  where
    go : (b : Bool) → bytes_eq q path ≡ b → option_or (led_to es q) (led_to ((path, number) ∷ []) q) ≡ led_to es q
    go true e =
        let same : q ≡ path = (bytes_eq-Decides q path).0 e in
        let here : led_to es q ≡ Some n = ap (led_to es) same ∙ known in
        ap (λ o. option_or o (led_to ((path, number) ∷ []) q)) here ∙ sym here
    go false e =
        ap (λ (o : Option (List ℕ × ℕ)). option_or (led_to es q) (option_map (λ (x : List ℕ × ℕ). x.1) o)) (cond-false (bytes_eq q path) (Some (path, number)) None e)
        ∙ or_none (led_to es q)
      where
        or_none : (o : Option ℕ) → option_or o None ≡ o
        or_none None = refl
        or_none (Some x) = refl

-- a path is taken in that was known
pub takes_known : (names names-2 : List (List ℕ)) (numbers : List ℕ) (path : List ℕ) (number place : ℕ)
    → length numbers ≡ length names
    → place_among names-2 path ≡ Some place
    → names-2 ≡ with_name names path
    → place < length names
    → TakesIn names names-2 numbers numbers path number
takes_known names names-2 numbers path number place same found more low = go (place_among names path) refl
  where
    go : (o : Option ℕ) → place_among names path ≡ o → TakesIn names names-2 numbers numbers path number
    go None none =
        let added : names-2 ≡ names ++ path ∷ [] = more ∙ ap (λ o. cond (is_some o) names (names ++ path ∷ [])) none in
        let own : Some (length names) ≡ Some place = sym (place_among-last names path none) ∙ ap (λ ns. place_among ns path) (sym added) ∙ found in
        let last : length names ≡ place = cc in
        absurd (omega arith)
    go (Some k) known =
        let still : names-2 ≡ names = more ∙ ap (λ o. cond (is_some o) names (names ++ path ∷ [])) known in
        let inside = slice_get_within names k path (place_among-Some names path k known) in
        let leads = led_known path names numbers k _ known (slice_get-get_or numbers k 0 (omega (arith, inside))) in
        record {
          same = same ∙ ap length (sym still);
          few = omega (arith, ap length still);
          leads = λ q. ap (λ ns. led_to (zip ns numbers) q) still ∙ led_again (zip names numbers) path number _ leads q;
        }

-- a path is taken in that was not
pub takes_new : (names names-2 : List (List ℕ)) (numbers numbers-2 : List ℕ) (path : List ℕ) (number place : ℕ)
    → length numbers ≡ length names
    → place_among names-2 path ≡ Some place
    → names-2 ≡ with_name names path
    → length names ≤ place
    → numbers-2 ≡ numbers ++ number ∷ []
    → TakesIn names names-2 numbers numbers-2 path number
takes_new names names-2 numbers numbers-2 path number place same found more high pushed = go (place_among names path) refl
  where
    go : (o : Option ℕ) → place_among names path ≡ o → TakesIn names names-2 numbers numbers-2 path number
    go (Some k) known =
        let still : names-2 ≡ names = more ∙ ap (λ o. cond (is_some o) names (names ++ path ∷ [])) known in
        let inside = slice_get_within names place path (place_among-Some names path place (ap (λ ns. place_among ns path) (sym still) ∙ found)) in
        absurd (omega (arith, inside))
    go None none =
        let added : names-2 ≡ names ++ path ∷ [] = more ∙ ap (λ o. cond (is_some o) names (names ++ path ∷ [])) none in
        record {
          same = ap length pushed ∙ length-append numbers (number ∷ []) ∙ ap (λ n. n + 1) same ∙ sym (length-append names (path ∷ [])) ∙ ap length (sym added);
          few = omega (arith, ap length added, length-append names (path ∷ []));
          leads = λ q. ap (λ ns. led_to (zip ns numbers-2) q) added ∙ ap (λ ms. led_to (zip (names ++ path ∷ []) ms) q) pushed
              ∙ ap (λ es. led_to es q) (zip_last names numbers path number same);
        }

-- lists that lead alike do so with the same entry after them
pub alike_push : (xs ys : Entries) (e : List ℕ × ℕ) → LeadAlike xs ys → LeadAlike (xs ++ e ∷ []) (ys ++ e ∷ [])
alike_push xs ys e alike q = led_append xs (e ∷ []) q ∙ ap (λ o. option_or o (led_to (e ∷ []) q)) (alike q) ∙ sym (led_append ys (e ∷ []) q)
