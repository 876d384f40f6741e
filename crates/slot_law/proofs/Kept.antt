-- What an action gives a net, as a mark and as a value, and what the first of a slot's actions gives.
use Rattle.std.proofs.Common.{◌≡◌, ℕ, suc, ◌<◌, arith, Bool, List, [], ◌∷◌, refl, subst, sym}
use Rattle.std.specs.Prelude.{Option, Some, None, slice_get, unwrap_or}
use Rattle.std.specs.Option.{option_or}
use Rattle.design_core.specs.declared.parts.Parts.{Parts}
use Rattle.design_core.specs.Valuation.{Valuation}
use Rattle.emu_machine.specs.declared.map.Subject.{Subject}
use Rattle.emu_machine.specs.declared.schedule.Action.{Action}
use Rattle.emu_machine.specs.State.{first_given}
use Rattle.emu_machine.specs.Marks.{Mark}
use Rattle.marks_law.specs.Truth.{IsTrueOf}
use Rattle.marks_law.proofs.Given.{none_given}

-- An action gives a net no mark and no value; or a mark that is true of the value that it gives; or, where
-- its target is the net's register and keeps what it holds, a mark that is true of that.
pub data IsGiven (p : Parts) (v w : Valuation) (what : Option Subject) (held : Bool) (Own Any : Type 0) : Option Mark → Option Bool → Type 0 where
  nothing : IsGiven p v w what held Own Any None None
  fresh : (m : Mark) (b : Bool) → Any → IsTrueOf p v w what m b → IsGiven p v w what held Own Any (Some m) (Some b)
  stays : (m : Mark) → Own → IsTrueOf p v w what m held → IsGiven p v w what held Own Any (Some m) None

module _ (p : Parts) (v w : Valuation) (what : Option Subject) (held : Bool) where
  not_later : (Own Any : Type 0) (o : Option Mark) (q : Option Bool) → IsGiven p v w what held Own Any o q → (Any → ⊥) → q ≡ None
  not_later Own Any _ _ nothing h = refl
  not_later Own Any _ _ (fresh m b any t) h = absurd (h any)
  not_later Own Any _ _ (stays m own t) h = refl

  module _ (marks : Action → Option Mark) (vals : Action → Option Bool) (Own Any : Action → Type 0) where
    abbrev AreGiven : List Action → Type 0
    AreGiven actions = (j : ℕ) (a : Action) → slice_get actions j ≡ Some a → IsGiven p v w what held (Own a) (Any a) (marks a) (vals a)

    abbrev AreApart : List Action → Type 0
    AreApart actions = (i j : ℕ) (a b : Action) → i < j → slice_get actions i ≡ Some a → slice_get actions j ≡ Some b → Own a → Any b → ⊥

    at_first : (m : Mark) (a : Action) (actions : List Action) (o : Option Mark) (q : Option Bool)
        → IsGiven p v w what held (Own a) (Any a) o q
        → (Own a → first_given vals actions ≡ None)
        → IsTrueOf p v w what (unwrap_or (first_given marks actions) m) (unwrap_or (first_given vals actions) held)
        → IsTrueOf p v w what (unwrap_or (option_or o (first_given marks actions)) m) (unwrap_or (option_or q (first_given vals actions)) held)
    at_first m a actions _ _ nothing none rest = rest
    at_first m a actions _ _ (fresh n b any t) none rest = t
    at_first m a actions _ _ (stays n own t) none rest =
        subst (λ (o : Option Bool). IsTrueOf p v w what n (unwrap_or o held)) (sym (none own)) t

    -- where each action gives what is true, the mark at the end is true of what is held at the end
    pub first_true : (m : Mark) (actions : List Action) → AreGiven actions → AreApart actions
        → IsTrueOf p v w what m held
        → IsTrueOf p v w what (unwrap_or (first_given marks actions) m) (unwrap_or (first_given vals actions) held)
    first_true m [] given apart t = t
    first_true m (a ∷ actions) given apart t =
        at_first m a actions (marks a) (vals a) (given 0 a refl)
        (λ own.
        none_given vals actions
        (λ j b at.
        let less : 0 < suc j = omega arith in
        not_later (Own b) (Any b) (marks b) (vals b) (given (suc j) b at) (λ any. apart 0 (suc j) a b less refl at own any)))
        (first_true m actions (λ j. given (suc j)) (λ i j b d less. let more : suc i < suc j = omega arith in apart (suc i) (suc j) b d more) t)
