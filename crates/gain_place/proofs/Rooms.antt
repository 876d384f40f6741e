-- A move keeps the rooms, and so does a descent.
use Rattle.std.proofs.Common.{◌≡◌, ◌<◌, ◌≤◌, ◌+◌, ℕ, zero, suc, cond, List, [], ◌∷◌, length, get_or, set, sym, ap, ◌∙◌, subst, arith, inl, inr}
use Rattle.std.specs.Prelude.{Some, Option, option_map, unwrap_or, slice_get, sum_by, zip}
use Rattle.std.proofs.lemmas.Bool.{cases_eq, eq-eqb}
use Rattle.std.proofs.lemmas.List.{length-set, get_or-set_same, get_or-set_other}
use Rattle.std.proofs.lemmas.List.Sums.{sum_by-cons}
use Rattle.std.proofs.lemmas.Option.{none-some, same_Some, slice_get_within, slice_get-get_or, get_or_from_slice_get}
use Rattle.id_arena.specs.declared.keys.ChipId.{ChipId}
use Rattle.design_core.specs.declared.element.Element.{Element}
use Rattle.design_core.specs.declared.element.Element.TheVariants as element
use Rattle.design_core.specs.declared.parts.Parts.{Parts}
use Rattle.design_core.specs.Weight.{weight}
use Rattle.seed_place.specs.Rooms.{IsWithinRooms, load, room, taken}
use Rattle.gain_place.specs.declared.moves.Move.{Move}
use Rattle.gain_place.specs.Gain.{moved}
use Rattle.gain_place.specs.Descent.{DescentsKeepRooms, IsMove, weight_at}
use Rattle.gain_place.proofs.Ranges.{differ}

module _ (p : Parts) (c : ℕ) where
  abbrev weigh : Element × ChipId → ℕ
  weigh pair = taken p c pair.0 pair.1

  load_moved : (es : List Element) (chips : List ChipId) (k : ℕ) (e : Element) (to : ChipId) → slice_get es k ≡ Some e → k < length chips
      → sum_by weigh (zip es (set chips k to)) + taken p c e (get_or chips k (record { place = 0 })) ≡ sum_by weigh (zip es chips) + taken p c e to
  load_moved [] chips k e to at low = absurd (none-some e at)
  load_moved (x ∷ es) [] k e to at low = absurd (omega arith)
  load_moved (x ∷ es) (y ∷ chips) zero e to at low =
      let same : x ≡ e = same_Some x e at in
      let a = sum_by-cons weigh (x, to) (zip es chips) in
      let b = sum_by-cons weigh (x, y) (zip es chips) in
      let u : taken p c x to ≡ taken p c e to = ap (λ (z : Element). taken p c z to) same in
      let v : taken p c x y ≡ taken p c e y = ap (λ (z : Element). taken p c z y) same in
      omega (arith, a, b, u, v)
  load_moved (x ∷ es) (y ∷ chips) (suc k) e to at low =
      let rest = load_moved es chips k e to at (omega arith) in
      let a = sum_by-cons weigh (x, y) (zip es (set chips k to)) in
      let b = sum_by-cons weigh (x, y) (zip es chips) in
      omega (arith, a, b, rest)

module _ (p : Parts) (rooms : List ℕ) (chips : List ChipId) (m : Move) (w : IsWithinRooms p rooms chips) (is : IsMove p rooms chips m) where
  abbrev k : ℕ
  k = m.elem.place

  abbrev after : List ChipId
  after = moved chips m

  abbrev e : Element
  e = get_or p.elements k (element.Memory (record { place = 0 }))

  here : slice_get p.elements k ≡ Some e
  here = slice_get-get_or p.elements k (element.Memory (record { place = 0 })) is.here

  low : k < length chips
  low = let h = is.here in let l = w.one_each in omega (arith, h, l)

  weighs : weight_at p k ≡ weight p e
  weighs = ap (λ (o : Option Element). unwrap_or (option_map (weight p) o) 0) here

  taken_there : (chip : ChipId) (c : ℕ) → chip.place ≡ c → taken p c e chip ≡ weight p e
  taken_there chip c q = ap (λ b. cond b (weight p e) 0) (eq-eqb chip.place c q)

  taken_away : (chip : ChipId) (c : ℕ) → (chip.place ≡ c → ⊥) → taken p c e chip ≡ 0
  taken_away chip c apart = ap (λ b. cond b (weight p e) 0) (differ chip.place c apart)

  fits : (c : ℕ) → c < length rooms → load p after c ≤ room rooms c
  fits c there = elim (cases_eq m.to.place c) [
    | inl q ↦
        let move = load_moved p c p.elements chips k e m.to here low in
        let new = taken_there m.to c q in
        let old : load p chips c + weight_at p k ≤ room rooms c = subst (λ (d : ℕ). load p chips d + weight_at p k ≤ room rooms d) q is.fits in
        omega (arith, move, new, old, weighs)
    | inr apart ↦
        let move = load_moved p c p.elements chips k e m.to here low in
        let new = taken_away m.to c apart in
        let old = w.fits c there in
        omega (arith, move, new, old)
  ]

  there : (j : ℕ) (chip : ChipId) → slice_get after j ≡ Some chip → chip.place < length rooms
  there j chip at =
      let is_chip : get_or after j (record { place = 0 }) ≡ chip = get_or_from_slice_get after j chip (record { place = 0 }) at in
      elim (cases_eq j k) [
        | inl q ↦
            let to : m.to ≡ chip
            = sym (get_or-set_same chips k m.to (record { place = 0 }) low) ∙ ap (λ (i : ℕ). get_or after i (record { place = 0 })) (sym q) ∙ is_chip in
            subst (λ (d : ChipId). d.place < length rooms) to is.there
        | inr apart ↦
            let same : get_or chips j (record { place = 0 }) ≡ chip = sym (get_or-set_other chips k j m.to (record { place = 0 }) apart) ∙ is_chip in
            let within : j < length chips = let h = slice_get_within after j chip at in let l = length-set chips k m.to in omega (arith, h, l) in
            w.there j chip (slice_get-get_or chips j (record { place = 0 }) within ∙ ap Some same)
      ]

  pub move_keeps : IsWithinRooms p rooms after
  move_keeps = record { one_each = length-set chips k m.to ∙ w.one_each; there = there; fits = fits }

pub kept : DescentsKeepRooms
kept p rooms start end [] w d = subst (IsWithinRooms p rooms) d.0 w
kept p rooms start end (m ∷ ms) w d = kept p rooms (moved start m) end ms (move_keeps p rooms start m w d.0.move) d.2
