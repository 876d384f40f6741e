-- Runs are histories, and there is one history.
use Rattle.std.proofs.Common.{◌≡◌, ◌<◌, ◌^◌, ℕ, suc, Bool, true, false, List, [], ◌∷◌, length, refl, sym, ap, subst, ◌∙◌, if◌then◌else◌, arith}
use Rattle.std.specs.Prelude.{◌==◌, ◌&&◌, Option, Some, None, IfSome, unwrap_or, slice_get, Contains}
use Rattle.std.specs.Option.{option_or}
use Rattle.std.proofs.lemmas.Bool.{and_parts}
use Rattle.std.proofs.lemmas.Nat.{pow_pos}
use Rattle.std.proofs.lemmas.Option.{same_Some}
use Rattle.design_core.specs.declared.element.Memory.{Memory}
use Rattle.design_core.specs.declared.parts.Parts.{Parts}
use Rattle.facts.proofs.Tests.{number_same}
use Rattle.one_history.proofs.Alone.{one_history}
use Rattle.settled_model.specs.declared.opening.OpenWord.{OpenWord}
use Rattle.settled_model.specs.Opening.{IsWord, word_given}
use Rattle.settled_model.specs.Runs.{RunsGiveTheHistory, RunsGrow, OpeningsFit}

pub runs_give_the_history : RunsGiveTheHistory
runs_give_the_history p o events v vs d r fits opened follow =
    let h = one_history p o events d r fits in
    (h, h.only (v ∷ vs) (opened, follow))

pub runs_grow : RunsGrow
runs_grow p v [] [] e w follow after = (after, tt)
runs_grow p v [] (x ∷ vs) e w follow after = absurd follow
runs_grow p v (f ∷ events) [] e w follow after = absurd follow
runs_grow p v (f ∷ events) (x ∷ vs) e w follow after = (follow.0, runs_grow p x events vs e w follow.1 after)

-- ## Words

abbrev Below : ℕ → Option ℕ → Type 0
Below bound o = IfSome o (λ x. x < bound)

either_below : (bound : ℕ) (o other : Option ℕ) → Below bound o → Below bound other → Below bound (option_or o other)
either_below bound None other h g = g
either_below bound (Some x) other h g = h

known_below : (bound : ℕ) (o : Option ℕ) → 0 < bound → Below bound o → unwrap_or o 0 < bound
known_below bound None some h = some
known_below bound (Some x) some h = h

module _ (p : Parts) (m a : ℕ) (memory : Memory) (at : slice_get p.memories m ≡ Some memory) where
  one_below : (w : OpenWord) → IsWord p w → Below (2 ^ memory.width) (if (w.mem.place == m) && (w.address == a) then Some w.value else None)
  one_below w h = go ((w.mem.place == m) && (w.address == a)) refl
    where
      go : (b : Bool) → ((w.mem.place == m) && (w.address == a)) ≡ b → Below (2 ^ memory.width) (if b then Some w.value else None)
      go false e = tt
      go true e =
          let here : w.mem.place ≡ m = number_same w.mem.place m (and_parts (w.mem.place == m) (w.address == a) e).0 in
          let same : h.0 ≡ memory = same_Some h.0 memory (sym h.1 ∙ ap (slice_get p.memories) here ∙ at) in
          subst (λ (x : Memory). w.value < 2 ^ x.width) same h.3

  given_below : (ws : List OpenWord) → ((w : OpenWord) → Contains ws w → IsWord p w) → Below (2 ^ memory.width) (word_given ws m a)
  given_below [] h = tt
  given_below (w ∷ ws) h =
      let low : 0 < length (w ∷ ws) = omega arith in
      either_below (2 ^ memory.width) (word_given ws m a) _ (given_below ws (λ x has. h x (later x has))) (one_below w (h w (0, low, refl)))
    where
      later : (x : OpenWord) → Contains ws x → Contains (w ∷ ws) x
      later x has =
          let less : has.0 < length ws = has.1 in
          let more : suc has.0 < length (w ∷ ws) = omega arith in
          (suc has.0, more, has.2)

pub openings_fit : OpeningsFit
openings_fit p o h m a memory at low =
    known_below (2 ^ memory.width) (word_given o.words m a) (pow_pos memory.width) (given_below p m a memory at o.words h.words)
