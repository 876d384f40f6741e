-- How entries are checked one by one: the first that has a fault ends it, and what the others give is put together.
use Rattle.std.proofs.Common.{◌≡◌, ℕ, zero, suc, ◌+◌, ◌<◌, ◌≤◌, Option, Some, None, option_map, slice_get, List, [], ◌∷◌, ◌++◌, take, drop, map, length, refl, sym, ap, ◌∙◌, subst, arith, append-nil, append_assoc, Result, Ok, Err}
use Rattle.std.specs.Prelude.{filter_map, flat_map}
use Rattle.std.specs.Result.{IsErr, IsErrAnd}
use Rattle.std.specs.List.{cons_option}
use Rattle.std.proofs.lemmas.List.{map-append}
use Rattle.domain_groups.specs.declared.openings.OpeningFault.{OpeningFault}
use Rattle.domain_groups.specs.declared.openings.OpeningFault.TheVariants.{NotJson, BadShape, NoPort, BadValue, NoState, NoWord, NoMemory}
use Rattle.event_replay.specs.Checks.{Checks, first_of}

-- no fault is the first of them
pub none_first : (faults : List OpeningFault) → first_of faults ≡ None → faults ≡ []
none_first [] none = refl
none_first (f ∷ fs) none = absurd (cc)

pub first_none : (faults : List OpeningFault) → faults ≡ [] → first_of faults ≡ None
first_none faults none = ap first_of none

-- the first of two lists of faults, where the first has none, or has one
pub later_first : (some more : List OpeningFault) → some ≡ [] → first_of (some ++ more) ≡ first_of more
later_first some more none = ap (λ s. first_of (s ++ more)) none

pub early_first : (some more : List OpeningFault) (f : OpeningFault) → first_of some ≡ Some f → first_of (some ++ more) ≡ Some f
early_first [] more f here = absurd (cc)
early_first (g ∷ gs) more f here = here

-- what a fault says, whatever a value would say
abbrev pub Tells : Option OpeningFault → OpeningFault → Type 0
Tells fault f = Checks {A = ℕ} fault (λ n. n ≡ n) (Err f)

-- what a fault says of another place where it is the same fault
pub same_check : {B : Type 0} (one other : Option OpeningFault) (Better : B → Type 0) (f : OpeningFault) → ((g : OpeningFault) → one ≡ Some g → other ≡ Some g) → Tells one f → Checks other Better (Err f)
same_check one other Better NotJson over check = absurd check
same_check one other Better BadShape over check = absurd check
same_check one other Better (NoPort name) over check = over (NoPort name) check
same_check one other Better (BadValue name) over check = over (BadValue name) check
same_check one other Better (NoState path) over check = over (NoState path) check
same_check one other Better (NoWord path) over check = over (NoWord path) check
same_check one other Better NoMemory over check = tt

module _ {X : Type 0} (fault : X → Option OpeningFault) where
  -- one entry more has no fault
  pub sound_next : (xs : List X) (k : ℕ) (x : X) → slice_get xs k ≡ Some x → first_of (filter_map fault (take k xs)) ≡ None → fault x ≡ None → first_of (filter_map fault (take (suc k) xs)) ≡ None
  sound_next [] k x here so_far none = absurd (cc)
  sound_next (y ∷ ys) zero x here so_far none = (let same : y ≡ x = cc in ap (λ z. first_of (cons_option (fault z) [])) same ∙ ap (λ o. first_of (cons_option o [])) none)
  sound_next (y ∷ ys) (suc k) x here so_far none = go (λ before. sound_next ys k x here before none) (fault y) refl
    where
      go : (first_of (filter_map fault (take k ys)) ≡ None → first_of (filter_map fault (take (suc k) ys)) ≡ None) → (o : Option OpeningFault) → fault y ≡ o → first_of (cons_option (fault y) (filter_map fault (take (suc k) ys))) ≡ None
      go rest (Some f) e = absurd (let clash : Some f ≡ None = sym (ap (λ o. first_of (cons_option o (filter_map fault (take k ys)))) e) ∙ so_far in cc)
      go rest None e =
          ap (λ o. first_of (cons_option o (filter_map fault (take (suc k) ys)))) e
          ∙ rest (sym (ap (λ o. first_of (cons_option o (filter_map fault (take k ys)))) e) ∙ so_far)

  -- an entry has the first fault
  pub fault_found : (xs : List X) (k : ℕ) (x : X) (f : OpeningFault) → slice_get xs k ≡ Some x → first_of (filter_map fault (take k xs)) ≡ None → fault x ≡ Some f → first_of (filter_map fault xs) ≡ Some f
  fault_found [] k x f here so_far is = absurd (cc)
  fault_found (y ∷ ys) zero x f here so_far is = (let same : y ≡ x = cc in ap (λ o. first_of (cons_option o (filter_map fault ys))) (ap fault same ∙ is))
  fault_found (y ∷ ys) (suc k) x f here so_far is = go (λ before. fault_found ys k x f here before is) (fault y) refl
    where
      go : (first_of (filter_map fault (take k ys)) ≡ None → first_of (filter_map fault ys) ≡ Some f) → (o : Option OpeningFault) → fault y ≡ o → first_of (cons_option (fault y) (filter_map fault ys)) ≡ Some f
      go rest (Some g) e = absurd (let clash : Some g ≡ None = sym (ap (λ o. first_of (cons_option o (filter_map fault (take k ys)))) e) ∙ so_far in cc)
      go rest None e =
          ap (λ o. first_of (cons_option o (filter_map fault ys))) e
          ∙ rest (sym (ap (λ o. first_of (cons_option o (filter_map fault (take k ys)))) e) ∙ so_far)

-- what one entry more gives
pub flat_next : {X Y : Type 0} (give : X → List Y) (xs : List X) (k : ℕ) (x : X) → slice_get xs k ≡ Some x → flat_map give (take (suc k) xs) ≡ flat_map give (take k xs) ++ give x
flat_next give [] k x here = absurd (cc)
flat_next give (y ∷ ys) zero x here = (let same : y ≡ x = cc in ap (λ z. give z ++ []) same ∙ append-nil (give x))
flat_next give (y ∷ ys) (suc k) x here = ap (λ zs. give y ++ zs) (flat_next give ys k x here) ∙ sym (append_assoc (give y) (flat_map give (take k ys)) (give x))

pub given_next : {X Y : Type 0} (give : X → Option Y) (xs : List X) (k : ℕ) (x : X) (y : Y) → slice_get xs k ≡ Some x → give x ≡ Some y → filter_map give (take (suc k) xs) ≡ filter_map give (take k xs) ++ y ∷ []
given_next give [] k x y here is = absurd (cc)
given_next give (z ∷ zs) zero x y here is = (let same : z ≡ x = cc in ap (λ o. cons_option o []) (ap give same ∙ is))
given_next give (z ∷ zs) (suc k) x y here is = ap (cons_option (give z)) (given_next give zs k x y here is) ∙ shift (give z)
  where
    shift : (o : Option _) → cons_option o (filter_map give (take k zs) ++ y ∷ []) ≡ cons_option o (filter_map give (take k zs)) ++ y ∷ []
    shift None = refl
    shift (Some w) = refl

-- the same with the number of entries written as the code counts them
pub sound_more : {X : Type 0} (fault : X → Option OpeningFault) (xs : List X) (k : ℕ) (x : X) → slice_get xs k ≡ Some x → first_of (filter_map fault (take k xs)) ≡ None → fault x ≡ None → first_of (filter_map fault (take (k + 1) xs)) ≡ None
sound_more fault xs k x here so_far none = (let one : suc k ≡ k + 1 = omega arith in subst (λ n. first_of (filter_map fault (take n xs)) ≡ None) one (sound_next fault xs k x here so_far none))

pub flat_more : {X Y : Type 0} (give : X → List Y) (xs : List X) (k : ℕ) (x : X) (old new more : List Y) → slice_get xs k ≡ Some x → old ≡ flat_map give (take k xs) → give x ≡ more → new ≡ old ++ more → new ≡ flat_map give (take (k + 1) xs)
flat_more give xs k x old new more here so_far is added =
    let one : suc k ≡ k + 1 = omega arith in
    added ∙ ap (λ o. o ++ more) so_far ∙ ap (λ m. flat_map give (take k xs) ++ m) (sym is) ∙ sym (flat_next give xs k x here) ∙ ap (λ n. flat_map give (take n xs)) one

pub given_more : {X Y Z : Type 0} (give : X → Option Y) (seen : Z → Y) (xs : List X) (k : ℕ) (x : X) (z : Z) (old new : List Z) → slice_get xs k ≡ Some x → map seen old ≡ filter_map give (take k xs) → give x ≡ Some (seen z) → new ≡ old ++ z ∷ [] → map seen new ≡ filter_map give (take (k + 1) xs)
given_more give seen xs k x z old new here so_far is added =
    let one : suc k ≡ k + 1 = omega arith in
    ap (map seen) added ∙ map-append seen old (z ∷ []) ∙ ap (λ o. o ++ seen z ∷ []) so_far ∙ sym (given_next give xs k x (seen z) here is) ∙ ap (λ n. filter_map give (take n xs)) one

-- the exit at an entry that has a fault
pub stops : {X B : Type 0} (fault : X → Option OpeningFault) (Better : B → Type 0) (xs : List X) (k : ℕ) (x : X) (f : OpeningFault) (r : Result B OpeningFault)
    → slice_get xs k ≡ Some x → first_of (filter_map fault (take k xs)) ≡ None → r ≡ Err f → Tells (fault x) f → Checks (first_of (filter_map fault xs)) Better r
stops fault Better xs k x f r here so_far same check =
    subst (Checks (first_of (filter_map fault xs)) Better) (sym same)
    (same_check (fault x) (first_of (filter_map fault xs)) Better f (λ g is. fault_found fault xs k x g here so_far is) check)

-- what an exit returns
pub exit_is : {A E : Type 0} (r : Result A E) (f : E) → IsErr r × IsErrAnd r (λ e. e ≡ f) → r ≡ Err f
exit_is (Ok x) f left = absurd left.1
exit_is (Err e) f left = ap Err left.1
