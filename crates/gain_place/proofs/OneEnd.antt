-- A best move is the only one, and so the end of a descent is. Each move lowers the cut.
use Rattle.std.proofs.Common.{◌≡◌, ◌≤◌, ◌<◌, ◌+◌, ℕ, List, [], ◌∷◌, sym, ap, ◌∙◌, subst, arith}
use Rattle.std.specs.Prelude.{ℤ, pos, ◌≤ℤ◌, ◌<ℤ◌}
use Rattle.std.proofs.lemmas.Int.{ints}
use Rattle.id_arena.specs.declared.keys.ChipId.{ChipId}
use Rattle.id_arena.specs.declared.keys.ElemId.{ElemId}
use Rattle.design_core.specs.declared.parts.Parts.{Parts}
use Rattle.gain_place.specs.declared.moves.Move.{Move}
use Rattle.gain_place.specs.Cut.{cut}
use Rattle.gain_place.specs.Gain.{gain, moved}
use Rattle.gain_place.specs.Descent.{IsBest, IsDescent, IsMove, DescentsLowerTheCut, EachStartHasOneEnd}

both_ways : (a b : ℤ) → a ≤ℤ b → b ≤ℤ a → a ≡ b
both_ways a b x y = omega (arith, ints)

not_both : (a : ℤ) → a ≤ℤ pos 0 → pos 0 <ℤ a → ⊥
not_both a x y = omega (arith, ints)

module _ (p : Parts) (rooms : List ℕ) where
  one_best : (chips : List ChipId) (m n : Move) → IsBest p rooms chips m → IsBest p rooms chips n → m ≡ n
  one_best chips m n a b =
      let same : gain p chips n ≡ gain p chips m = both_ways (gain p chips n) (gain p chips m) (a.greatest n b.move) (b.greatest m a.move) in
      let x = a.lowest n b.move same in
      let y = b.lowest m a.move (sym same) in
      let place : m.elem.place ≡ n.elem.place = omega (arith, x, y) in
      let elem : m.elem ≡ n.elem = ap (λ (k : ℕ). record { place = k }) place in
      let u = a.lowest_chip n b.move same (sym elem) in
      let v = b.lowest_chip m a.move (sym same) elem in
      let to_place : m.to.place ≡ n.to.place = omega (arith, u, v) in
      let to : m.to ≡ n.to = ap (λ (k : ℕ). record { place = k }) to_place in
      ap (λ (e : ElemId). record { elem = e; to = m.to }) elem ∙ ap (λ (c : ChipId). record { elem = n.elem; to = c }) to

  ends_are_same : (ms ns : List Move) (chips a b : List ChipId) → IsDescent p rooms chips ms a → IsDescent p rooms chips ns b → a ≡ b
  ends_are_same [] [] chips a b x y = sym x.0 ∙ y.0
  ends_are_same [] (n ∷ ns) chips a b x y = absurd (not_both (gain p chips n) (x.1 n y.0.move) y.1)
  ends_are_same (m ∷ ms) [] chips a b x y = absurd (not_both (gain p chips m) (y.1 m x.0.move) x.1)
  ends_are_same (m ∷ ms) (n ∷ ns) chips a b x y =
      let same : m ≡ n = one_best chips m n x.0 y.0 in
      ends_are_same ms ns (moved chips m) a b x.2 (subst (λ (o : Move). IsDescent p rooms (moved chips o) ns b) (sym same) y.2)

pub one_end : EachStartHasOneEnd
one_end p rooms start a b x y = ends_are_same p rooms x.0 y.0 start a b x.1 y.1

gains : (p : Parts) (chips : List ChipId) (m : Move) → pos 0 <ℤ gain p chips m → cut p (moved chips m) < cut p chips
unfolding gain
gains p chips m h = omega (arith, ints)

gains_none : (p : Parts) (chips : List ChipId) (m : Move) → gain p chips m ≤ℤ pos 0 → cut p chips ≤ cut p (moved chips m)
unfolding gain
gains_none p chips m h = omega (arith, ints)

pub lowered : DescentsLowerTheCut
lowered p rooms start end [] d = (
  subst (λ (chips : List ChipId). cut p chips + 0 ≤ cut p start) d.0 (omega arith),
  subst (λ (chips : List ChipId). (m : Move) → IsMove p rooms chips m → cut p chips ≤ cut p (moved chips m)) d.0 (λ m is. gains_none p start m (d.1 m is)),
)
lowered p rooms start end (m ∷ ms) d =
    let rest = lowered p rooms (moved start m) end ms d.2 in
    let h = rest.0 in
    let g = gains p start m d.1 in
    (omega (arith, h, g), rest.1)
