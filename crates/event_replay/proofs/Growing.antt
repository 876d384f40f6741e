-- How the elements of a kind are taken into an index by their paths.
use Rattle.std.proofs.Common.{◌≡◌, ℕ, zero, suc, ◌+◌, ◌<◌, ◌≤◌, Option, Some, None, option_map, slice_get, List, [], ◌∷◌, ◌++◌, take, get_or, length, refl, sym, ap, ◌∙◌, subst, arith, append-nil}
use Rattle.std.specs.Prelude.{zip, filter_map}
use Rattle.std.specs.List.{enumerate_from, cons_option}
use Rattle.std.proofs.lemmas.List.{take_all}
use Rattle.std.proofs.lemmas.Option.{slice_get_within, slice_get-get_or, same_Some}
use Rattle.design_core.specs.declared.element.Element.{Element}
use Rattle.design_core.specs.declared.parts.Parts.{Parts}
use Rattle.design_core.specs.Names.{IsElementPath, IsNamed, IsPath}
use Rattle.domain_groups.specs.Openings.{ArePaths, entries, entry_of, led_to}
use Rattle.domain_groups.proofs.OnePath.{path_at, as_many}
use Rattle.event_replay.specs.declared.path_names.Kind.{Kind}
use Rattle.event_replay.specs.PathIndex.{Indexes, LeadAlike, TakesIn, number_of}
use Rattle.event_replay.proofs.Leading.{alike_push}

-- one element more
step_from : {X Y Z : Type 0} (f : ℕ × (X × Y) → Option Z) (from k : ℕ) (xs : List X) (ys : List Y) (x : X) (y : Y) → slice_get xs k ≡ Some x → slice_get ys k ≡ Some y
    → filter_map f (enumerate_from from (zip (take (suc k) xs) (take (suc k) ys))) ≡ filter_map f (enumerate_from from (zip (take k xs) (take k ys))) ++ cons_option (f (from + k, (x, y))) []
step_from f from k [] ys x y here there = absurd (cc)
step_from f from k (a ∷ xs) [] x y here there = absurd (cc)
step_from f from zero (a ∷ xs) (b ∷ ys) x y here there =
    let first : a ≡ x = cc in
    let second : b ≡ y = cc in
    let place : from ≡ from + 0 = omega arith in
    ap (λ c. cons_option (f (from, (c, b))) []) first ∙ ap (λ c. cons_option (f (from, (x, c))) []) second ∙ ap (λ n. cons_option (f (n, (x, y))) []) place
step_from f from (suc k) (a ∷ xs) (b ∷ ys) x y here there =
    let place : from + 1 + k ≡ from + suc k = omega arith in
    ap (cons_option (f (from, (a, b)))) (step_from f (from + 1) k xs ys x y here there ∙ ap (λ n. filter_map f (enumerate_from (from + 1) (zip (take k xs) (take k ys))) ++ cons_option (f (n, (x, y))) []) place)
    ∙ shift (f (from, (a, b))) (filter_map f (enumerate_from (from + 1) (zip (take k xs) (take k ys)))) (cons_option (f (from + suc k, (x, y))) [])
  where
    shift : {Z : Type 0} (o : Option Z) (zs ws : List Z) → cons_option o (zs ++ ws) ≡ cons_option o zs ++ ws
    shift None zs ws = refl
    shift (Some z) zs ws = refl

entries_next : (number : ℕ → Element → Option ℕ) (k : ℕ) (elements : List Element) (paths : List (List ℕ)) (e : Element) (path : List ℕ) → slice_get elements k ≡ Some e → slice_get paths k ≡ Some path
    → entries number (take (k + 1) elements) (take (k + 1) paths) ≡ entries number (take k elements) (take k paths) ++ cons_option (option_map (λ n. (path, n)) (number k e)) []
entries_next number k elements paths e path here there =
    let more : k + 1 ≡ suc k = omega arith in
    ap (λ n. entries number (take n elements) (take n paths)) more ∙ step_from (entry_of number) 0 k elements paths e path here there
    ∙ (let own : 0 + k ≡ k = omega arith in ap (λ n. entries number (take k elements) (take k paths) ++ cons_option (entry_of number (n, (e, path))) []) own)

-- the index of the first elements
pub record Growing (p : Parts) (kind : Kind) (place : ℕ) (names : List (List ℕ)) (numbers : List ℕ) : Type 0 where
  pub few : length names ≤ place
  pub same : length numbers ≡ length names
  pub leads : (paths : List (List ℕ)) → ArePaths p paths → LeadAlike (zip names numbers) (entries (number_of kind) (take place p.elements) (take place paths))

module _ (p : Parts) (kind : Kind) (place : ℕ) (names : List (List ℕ)) (numbers : List ℕ) (named : IsNamed p) (so_far : Growing p kind place names numbers) where
  -- an element of another kind is passed over
  pub passed : (e : Element) → slice_get p.elements place ≡ Some e → number_of kind place e ≡ None → Growing p kind (place + 1) names numbers
  passed e here none = record {
    few = omega (arith, so_far.few);
    same = so_far.same;
    leads = λ paths are q.
        (let low : place < length paths = omega (arith, slice_get_within p.elements place e here, as_many p p.paths paths are, named.one_path) in
        let next = entries_next (number_of kind) place p.elements paths e (get_or paths place []) here (slice_get-get_or paths place [] low) in
        let still = next ∙ ap (λ o. entries (number_of kind) (take place p.elements) (take place paths) ++ cons_option (option_map (λ (n : ℕ). (get_or paths place [], n)) o) []) none ∙ append-nil _ in
        so_far.leads paths are q ∙ ap (λ es. led_to es q) (sym still));
  }

  pub passed_as : (e : Element) (names-2 : List (List ℕ)) (numbers-2 : List ℕ) → slice_get p.elements place ≡ Some e → number_of kind place e ≡ None → names-2 ≡ names → numbers-2 ≡ numbers → Growing p kind (place + 1) names-2 numbers-2
  passed_as e names-2 numbers-2 here none same same-2 =
      subst (λ ns. Growing p kind (place + 1) ns numbers-2) (sym same) (subst (Growing p kind (place + 1) names) (sym same-2) (passed e here none))

  -- one of the kind is taken in
  pub taken : (e : Element) (number : ℕ) (text : List ℕ) (names-2 : List (List ℕ)) (numbers-2 : List ℕ) → slice_get p.elements place ≡ Some e → number_of kind place e ≡ Some number
      → IsElementPath p place text → TakesIn names names-2 numbers numbers-2 text number → Growing p kind (place + 1) names-2 numbers-2
  taken e number text names-2 numbers-2 here is path takes = record {
    few = omega (arith, so_far.few, takes.few);
    same = takes.same;
    leads = λ paths are q.
        (let at = path_at p p.paths paths place path.0 text are path.1 path.2 in
        let next = entries_next (number_of kind) place p.elements paths e text here at in
        let longer = next ∙ ap (λ o. entries (number_of kind) (take place p.elements) (take place paths) ++ cons_option (option_map (λ (n : ℕ). (text, n)) o) []) is in
        takes.leads q ∙ alike_push (zip names numbers) (entries (number_of kind) (take place p.elements) (take place paths)) (text, number) (so_far.leads paths are) q ∙ ap (λ es. led_to es q) (sym longer));
  }

  -- all elements are taken in
  pub grown : length p.elements ≤ place → Indexes p kind (zip names numbers)
  grown all = λ paths are q.
      (let size : length paths ≤ place = omega (arith, all, as_many p p.paths paths are, named.one_path) in
      so_far.leads paths are q
      ∙ ap (λ es. led_to (entries (number_of kind) es (take place paths)) q) (take_all place p.elements all)
      ∙ ap (λ ps. led_to (entries (number_of kind) p.elements ps) q) (take_all place paths size))
