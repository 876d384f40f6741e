-- Tables of values, entry by entry.
use Rattle.std.proofs.Common.{◌≡◌, ◌<◌, ◌+◌, ℕ, Bool, true, false, List, [], ◌∷◌, ◌++◌, take, drop, length, get_or, refl, sym, ap, ◌∙◌, if◌then◌else◌, arith}
use Rattle.std.specs.Prelude.{◌==◌, ◌||◌, Option, Some, None, slice_set, slice_get, unwrap_or}
use Rattle.std.specs.Option.{option_or}
use Rattle.std.specs.List.{list_any}
use Rattle.std.proofs.lemmas.List.{drop_more, get_or-set_same, get_or-set_other, length-set}
use Rattle.id_arena.specs.declared.keys.ElemId.{ElemId}
use Rattle.design_core.specs.declared.element.Element.{Element}
use Rattle.design_core.specs.declared.parts.Parts.{Parts}
use Rattle.design_core.specs.declared.values.PortBit.{PortBit}
use Rattle.design_core.specs.Event.{given}
use Rattle.facts.proofs.Tests.{no, same_number, number_same}
use Rattle.settled_model.specs.Passing.{is_state, is_state_at, HasSetOne}

-- an entry is what was put there last
pub put_entry : (xs : List Bool) (k n : ℕ) (b : Bool) → k < length xs → get_or (slice_set xs k b) n false ≡ (if k == n then b else get_or xs n false)
put_entry xs k n b low = go (k == n) refl
  where
    go : (t : Bool) → (k == n) ≡ t → get_or (slice_set xs k b) n false ≡ (if t then b else get_or xs n false)
    go true e = ap (λ (j : ℕ). get_or (slice_set xs k b) j false) (sym (number_same k n e)) ∙ get_or-set_same xs k b false low
    go false e = get_or-set_other xs k n b false (λ same. no (sym e ∙ same_number k n (sym same)))

-- ## Values that are given

given_more : (o : Option Bool) (t b x : Bool) → unwrap_or (option_or o (if t then Some b else None)) x ≡ unwrap_or o (if t then b else x)
given_more None true b x = refl
given_more None false b x = refl
given_more (Some y) t b x = refl

module _ (values : List PortBit) (i : ℕ) (bit : PortBit) (low : i < length values) (here : bit ≡ get_or values i bit) where
  front : drop i values ≡ bit ∷ drop (i + 1) values
  front = drop_more values i bit low ∙ ap (λ x. x ∷ drop (i + 1) values) (sym here)

  pub one_put : (before after : List Bool) (n : ℕ) → bit.net.place < length before → after ≡ slice_set before bit.net.place bit.value
      → unwrap_or (given (drop (i + 1) values) n) (get_or after n false) ≡ unwrap_or (given (drop i values) n) (get_or before n false)
  one_put before after n there e =
      ap (λ xs. unwrap_or (given (drop (i + 1) values) n) (get_or xs n false)) e
      ∙ ap (unwrap_or (given (drop (i + 1) values) n)) (put_entry before bit.net.place n bit.value there)
      ∙ sym (given_more (given (drop (i + 1) values) n) (bit.net.place == n) bit.value (get_or before n false))
      ∙ ap (λ bs. unwrap_or (given bs n) (get_or before n false)) (sym front)

-- ## States that are set

set_entry : (xs : List Bool) (k n : ℕ) → k < length xs → get_or (slice_set xs k true) n false ≡ (get_or xs n false || (k == n))
set_entry xs k n low = put_entry xs k n true low ∙ go (k == n) (get_or xs n false)
  where
    go : (t x : Bool) → (if t then true else x) ≡ (x || t)
    go true true = refl
    go true false = refl
    go false true = refl
    go false false = refl

pub stays_set : (x : Bool) → x ≡ (x || false)
stays_set true = refl
stays_set false = refl

pub set_flop : (xs ys : List Bool) (e : Element) (k : ℕ) → k < length xs → ys ≡ slice_set xs k true → ((n : ℕ) → is_state n e ≡ (k == n)) → HasSetOne e xs ys
set_flop xs ys e k low same is =
    record {
      size = ap length same ∙ length-set xs k true;
      nets = λ n. ap (λ zs. get_or zs n false) same ∙ set_entry xs k n low ∙ ap (λ t. get_or xs n false || t) (sym (is n));
    }

or_moves : (x s r : Bool) → ((x || s) || r) ≡ (x || (s || r))
or_moves true s r = refl
or_moves false s r = refl

module _ (p : Parts) (ones : List ElemId) (i : ℕ) (id : ElemId) (e : Element) (low : i < length ones) (here : id ≡ get_or ones i id) (at : slice_get p.elements id.place ≡ Some e) where
  abbrev among : ℕ → List ElemId → Bool
  among n ids = list_any (λ (one : ElemId). is_state_at n (slice_get p.elements one.place)) ids

  pub one_set : (before after : List Bool) (n : ℕ) → HasSetOne e before after
      → (get_or after n false || among n (drop (i + 1) ones)) ≡ (get_or before n false || among n (drop i ones))
  one_set before after n h =
      ap (λ b. b || among n (drop (i + 1) ones)) (h.nets n)
      ∙ or_moves (get_or before n false) (is_state n e) (among n (drop (i + 1) ones))
      ∙ ap (λ b. get_or before n false || (b || among n (drop (i + 1) ones))) (sym (ap (is_state_at n) at))
      ∙ ap (λ ids. get_or before n false || among n ids) (sym (drop_more ones i id low ∙ ap (λ x. x ∷ drop (i + 1) ones) (sym here)))

-- what stands in a whole table that was written is what was written
pub whole : {A : Type 0} (new old : List A) (n : ℕ) → n ≡ length old → length new ≡ length old → take n (new ++ drop (length new) old) ≡ new
whole new old n e f =
    ap (λ (k : ℕ). take k (new ++ drop (length new) old)) (e ∙ sym f) ∙ go new old f
  where
    go : {A : Type 0} (new old : List A) → length new ≡ length old → take (length new) (new ++ drop (length new) old) ≡ new
    go [] old f = refl
    go (x ∷ new) [] f = absurd (omega arith)
    go (x ∷ new) (y ∷ old) f = ap (λ zs. x ∷ zs) (go new old (omega arith))
