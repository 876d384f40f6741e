-- What an entry of the table tells of its net.
use Rattle.std.proofs.Common.{◌≡◌, ◌∙◌, ◌+◌, ◌<◌, ℕ, true, false, List, [], ◌∷◌, Option, None, Some, ◌⊎◌, inl, inr, ap, sym, refl, length, get_or, get_or-set_same, get_or-set_other, arith}
use Rattle.std.specs.Prelude.{◌==◌, if◌then◌else◌}
use Rattle.std.proofs.lemmas.Bool.{cases_eq, eq-eqb, ne_eqb, cases_Bool}
use Rattle.std.proofs.lemmas.List.{length-set}
use Rattle.design_core.specs.declared.drives.Driven.{Driven}
use Rattle.design_core.specs.declared.drives.Driven.TheVariants.{Never, Once, Twice}
use Rattle.design_core.specs.declared.element.Driver.{Driver}
use Rattle.design_core.specs.Drives.{Drive, once_more, put, put_all}
use Rattle.design_core.proofs.Counting.{is_of, count_of, first_of, count-cons}

-- an entry after some drives
abbrev pub driven_by : ℕ → List Drive → Driven → Driven
driven_by n [] s = s
driven_by n (d ∷ ds) s = driven_by n ds (if d.net == n then once_more s d.driver else s)

put_at : (n : ℕ) (d : Drive) (t : List Driven) → n < length t → get_or (put t d) n Never ≡ (if d.net == n then once_more (get_or t n Never) d.driver else get_or t n Never)
put_at n d t within = elim (cases_eq d.net n) [
  | inl same ↦
      rw (eq-eqb d.net n same, same) (get_or-set_same t n (once_more (get_or t n Never) d.driver) Never within)
  | inr apart ↦
      rw (ne_eqb d.net n apart) (get_or-set_other t d.net n (once_more (get_or t d.net Never) d.driver) Never (λ same. apart (sym same)))
]

pub entry : (n : ℕ) (ds : List Drive) (t : List Driven) → n < length t → get_or (put_all ds t) n Never ≡ driven_by n ds (get_or t n Never)
entry n [] t within = refl
entry n (d ∷ ds) t within =
    let size : length (put t d) ≡ length t = length-set t d.net (once_more (get_or t d.net Never) d.driver) in
    entry n ds (put t d) (omega (arith, size, within)) ∙ ap (driven_by n ds) (put_at n d t within)

-- what an entry says of the number of drives, and of the first
abbrev pub Tells : Driven → ℕ → Option Driver → Type 0
Tells Never count first = (count ≡ 0) × (first ≡ None)
Tells (Once driver) count first = (count ≡ 1) × (first ≡ Some driver)
Tells Twice count first = 1 < count

stays_twice : (n : ℕ) (ds : List Drive) → driven_by n ds Twice ≡ Twice
stays_twice n [] = refl
stays_twice n (d ∷ ds) = elim (cases_Bool (d.net == n)) [
  | inl same ↦ rw same (stays_twice n ds)
  | inr other ↦ rw other (stays_twice n ds)
]

count_yes : (n : ℕ) (d : Drive) (ds : List Drive) → (d.net == n) ≡ true → count_of n (d ∷ ds) ≡ 1 + count_of n ds
count_yes n d ds same = count-cons (is_of n) d ds ∙ rw same refl

pub count_no : (n : ℕ) (d : Drive) (ds : List Drive) → (d.net == n) ≡ false → count_of n (d ∷ ds) ≡ count_of n ds
count_no n d ds other = count-cons (is_of n) d ds ∙ rw other (omega arith)

-- an entry that is driven once stays so where no drive of its net follows
once_or_twice : (n : ℕ) (ds : List Drive) (driver : Driver) → ((count_of n ds ≡ 0) × (driven_by n ds (Once driver) ≡ Once driver)) ⊎ ((0 < count_of n ds) × (driven_by n ds (Once driver) ≡ Twice))
once_or_twice n [] driver = inl (refl, refl)
once_or_twice n (d ∷ ds) driver = elim (cases_Bool (d.net == n)) [
  | inl same ↦
      let more = count_yes n d ds same in
      inr (omega (arith, more), rw same (stays_twice n ds))
  | inr other ↦
      let fewer = count_no n d ds other in
      elim (once_or_twice n ds driver) [
        | inl h ↦ inl (fewer ∙ h.0, rw other h.1)
        | inr h ↦ inr (omega (arith, fewer, h.0), rw other h.1)
      ]
]

Tells-at : (s t : Driven) (c k : ℕ) (f g : Option Driver) → s ≡ t → c ≡ k → f ≡ g → Tells t k g → Tells s c f
Tells-at s t c k f g a b e told = rw (a, b, e) told

state_yes : (n : ℕ) (d : Drive) (ds : List Drive) → (d.net == n) ≡ true → driven_by n (d ∷ ds) Never ≡ driven_by n ds (Once d.driver)
state_yes n d ds same = rw same refl

state_no : (n : ℕ) (d : Drive) (ds : List Drive) → (d.net == n) ≡ false → driven_by n (d ∷ ds) Never ≡ driven_by n ds Never
state_no n d ds other = rw other refl

first_yes : (n : ℕ) (d : Drive) (ds : List Drive) → (d.net == n) ≡ true → first_of n (d ∷ ds) ≡ Some d.driver
first_yes n d ds same = rw same refl

first_no : (n : ℕ) (d : Drive) (ds : List Drive) → (d.net == n) ≡ false → first_of n (d ∷ ds) ≡ first_of n ds
first_no n d ds other = rw other refl

pub tells : (n : ℕ) (ds : List Drive) → Tells (driven_by n ds Never) (count_of n ds) (first_of n ds)
tells n [] = (refl, refl)
tells n (d ∷ ds) = elim (cases_Bool (d.net == n)) [
  | inl same ↦
      let more = count_yes n d ds same in
      elim (once_or_twice n ds d.driver) [
        | inl h ↦
            let one : count_of n (d ∷ ds) ≡ 1 = omega (arith, more, h.0) in
            Tells-at (driven_by n (d ∷ ds) Never) (Once d.driver) (count_of n (d ∷ ds)) 1 (first_of n (d ∷ ds)) (Some d.driver) (state_yes n d ds same ∙ h.1) one (first_yes n d ds same) (refl, refl)
        | inr h ↦
            let two : 1 < count_of n (d ∷ ds) = omega (arith, more, h.0) in
            Tells-at (driven_by n (d ∷ ds) Never) Twice (count_of n (d ∷ ds)) (count_of n (d ∷ ds)) (first_of n (d ∷ ds)) (Some d.driver) (state_yes n d ds same ∙ h.1) refl (first_yes n d ds same) two
      ]
  | inr other ↦
      Tells-at (driven_by n (d ∷ ds) Never) (driven_by n ds Never) (count_of n (d ∷ ds)) (count_of n ds) (first_of n (d ∷ ds)) (first_of n ds) (state_no n d ds other) (count_no n d ds other) (first_no n d ds other) (tells n ds)
]
