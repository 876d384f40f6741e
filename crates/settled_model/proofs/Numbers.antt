-- The number that nets show, from the last bit on.
use Rattle.std.proofs.Common.{◌≡◌, ◌<◌, ◌≤◌, ◌+◌, ◌*◌, ◌^◌, ℕ, Bool, true, false, List, [], ◌∷◌, drop, length, get_or, ap, subst, arith, pow-suc}
use Rattle.std.proofs.lemmas.List.{drop_more, length-map, length-drop}
use Rattle.std.proofs.Math.Pow.{pow_mono}
use Rattle.id_arena.specs.declared.keys.NetId.{NetId}
use Rattle.design_core.specs.Operation.{bit, number}
use Rattle.design_core.specs.Valuation.{values, shown_number}
use Rattle.settled_model.specs.Held.{shown}

number_low : (bs : List Bool) → number bs < 2 ^ length bs
number_low [] = omega arith
number_low (true ∷ bs) = omega (arith, pow-suc 2 (length bs), number_low bs)
number_low (false ∷ bs) = omega (arith, pow-suc 2 (length bs), number_low bs)

module _ (nets : List Bool) where
  pub shown_low : (bits : List NetId) → shown_number (shown nets) bits < 2 ^ length bits
  shown_low bits =
      subst (λ (k : ℕ). shown_number (shown nets) bits < 2 ^ k) (length-map bits (λ (n : NetId). (shown nets).net n.place)) (number_low (values (shown nets) bits))

  -- what the bits from a place on show fits, with one more bit below them
  pub rest_low : (bits : List NetId) (place : ℕ) → length bits ≤ 128 → 0 < place → shown_number (shown nets) (drop place bits) < 2 ^ 127
  rest_low bits place few some =
      let left : length (drop place bits) ≤ 127 = omega (arith, length-drop place bits) in
      let low : shown_number (shown nets) (drop place bits) < 2 ^ length (drop place bits) = shown_low (drop place bits) in
      let power : 2 ^ length (drop place bits) ≤ 2 ^ 127 = pow_mono left in
      omega arith

  pub one_bit : (bits : List NetId) (place before : ℕ) → place + 1 ≡ before → place < length bits
      → 2 * shown_number (shown nets) (drop before bits) + bit (get_or nets (get_or bits place (record { place = 0 })).place false) ≡ shown_number (shown nets) (drop place bits)
  one_bit bits place before next low =
      let front : shown_number (shown nets) (drop place bits) ≡ bit (get_or nets (get_or bits place (record { place = 0 })).place false) + 2 * shown_number (shown nets) (drop (place + 1) bits) =
      ap (λ ns. number (values (shown nets) ns)) (drop_more bits place (record { place = 0 }) low) in
      let same : shown_number (shown nets) (drop (place + 1) bits) ≡ shown_number (shown nets) (drop before bits) =
      ap (λ (k : ℕ). shown_number (shown nets) (drop k bits)) next in
      omega arith
