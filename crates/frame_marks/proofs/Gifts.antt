-- Lists of what places of chips are given.
use Rattle.std.proofs.Common.{◌≡◌, ℕ, ◌+◌, Bool, true, false, List, [], ◌∷◌, ◌++◌, take, drop, refl, sym, ap, ◌∙◌, if◌then◌else◌}
use Rattle.std.specs.Prelude.{◌==◌, ◌&&◌, Option, Some, None, slice_get, unwrap_or, All}
use Rattle.std.specs.Option.{option_or}
use Rattle.std.proofs.lemmas.List.Elements.{All-nil, All-cons, All-append}
use Rattle.std.proofs.lemmas.List.{drop_more, take_more}
use Rattle.std.proofs.lemmas.Option.{slice_get_within, get_or_from_slice_get}
use Rattle.emu_machine.specs.declared.schedule.Action.{Action}
use Rattle.emu_machine.specs.State.{first_given}
use Rattle.frame_marks.specs.declared.tables.Given.{Given}
use Rattle.frame_marks.specs.Takes.{given_in, HasMore}

-- ## Options

pub or_assoc : {T : Type 0} (o p q : Option T) → option_or (option_or o p) q ≡ option_or o (option_or p q)
or_assoc None p q = refl
or_assoc (Some x) p q = refl

pub or_none : {T : Type 0} (o : Option T) → option_or o None ≡ o
or_none None = refl
or_none (Some x) = refl

pub first_of_two : {T : Type 0} (o p : Option T) (x : T) → unwrap_or o (unwrap_or p x) ≡ unwrap_or (option_or o p) x
first_of_two None p x = refl
first_of_two (Some y) p x = refl

-- ## What several actions give

pub first_append : {T : Type 0} (gives : Action → Option T) (xs ys : List Action) → first_given gives (xs ++ ys) ≡ option_or (first_given gives xs) (first_given gives ys)
first_append gives [] ys = refl
first_append gives (a ∷ xs) ys =
    ap (option_or (gives a)) (first_append gives xs ys) ∙ sym (or_assoc (gives a) (first_given gives xs) (first_given gives ys))

pub first_more : {T : Type 0} (gives : Action → Option T) (actions : List Action) (k : ℕ) (a : Action) → slice_get actions k ≡ Some a
    → first_given gives (take (k + 1) actions) ≡ option_or (first_given gives (take k actions)) (gives a)
first_more gives actions k a at =
    ap (first_given gives)
    (take_more actions k a (slice_get_within actions k a at) ∙ ap (λ last. take k actions ++ last ∷ []) (get_or_from_slice_get actions k a a at))
    ∙ first_append gives (take k actions) (a ∷ [])
    ∙ ap (option_or (first_given gives (take k actions))) (or_none (gives a))

-- ## Lists

pub given_append : {T : Type 0} (xs ys : List (Given T)) (c n : ℕ) → given_in (xs ++ ys) c n ≡ option_or (given_in xs c n) (given_in ys c n)
given_append [] ys c n = refl
given_append (g ∷ xs) ys c n = go ((g.chip.place == c) && (g.place == n)) (given_append xs ys c n)
  where
    go : (b : Bool) → given_in (xs ++ ys) c n ≡ option_or (given_in xs c n) (given_in ys c n)
        → (if b then Some g.what else given_in (xs ++ ys) c n) ≡ option_or (if b then Some g.what else given_in xs c n) (given_in ys c n)
    go true rest = refl
    go false rest = rest

-- one more is added, which gives what it is to give
pub one_more : {T : Type 0} (gives : ℕ → ℕ → Option T) (before : List (Given T)) (g : Given T)
    → ((c n : ℕ) → given_in (g ∷ []) c n ≡ gives c n) → HasMore gives before (before ++ g ∷ [])
one_more gives before g is c n = given_append before (g ∷ []) c n ∙ ap (option_or (given_in before c n)) (is c n)

-- the same list, from the place of one on
pub split_at : {X : Type 0} (xs : List X) (k left : ℕ) → left ≡ k + 1 → (x : X) → slice_get xs k ≡ Some x → drop k xs ≡ x ∷ drop left xs
split_at xs k left next x at =
    drop_more xs k x (slice_get_within xs k x at)
    ∙ ap (λ a. a ∷ drop (k + 1) xs) (get_or_from_slice_get xs k x x at)
    ∙ ap (λ (i : ℕ). x ∷ drop i xs) (sym next)

-- one more of some that all pass a test
pub all_one : {X : Type 0} (P : X → Type 0) (xs : List X) (x : X) → All P xs → P x → All P (xs ++ x ∷ [])
all_one P xs x all one = All-append P xs (x ∷ []) all (All-cons P x [] one (All-nil P))
