-- What one element more does to a placement by the rule, and what it comes to.
use Rattle.std.proofs.Common.{◌≡◌, ◌<◌, ◌≤◌, ◌+◌, ◌-◌, ℕ, Bool, true, false, List, [], ◌∷◌, ◌++◌, length, get_or, set, take, refl, sym, ap, ◌∙◌, subst, arith, inl, inr, cond}
use Rattle.std.specs.Prelude.{◌==◌, Some, Result, Ok, Err, IsErrAnd, slice_get, option_map}
use Rattle.std.proofs.lemmas.Bool.{cases_eq}
use Rattle.std.proofs.lemmas.Option.{none-some, same_Some, slice_get_within}
use Rattle.std.proofs.lemmas.List.{length-append, length-set, get_or-set_same, get_or-set_other, get_or_default, take-append-le}
use Rattle.std.proofs.Math.Seq.{take-append_seam}
use Rattle.facts.proofs.Tests.{mapped, same_number, number_same, no}
use Rattle.id_arena.specs.declared.keys.ChipId.{ChipId}
use Rattle.id_arena.specs.declared.keys.ElemId.{ElemId}
use Rattle.seed_place.specs.declared.fault.SeedFault.{SeedFault}
use Rattle.seed_place.specs.declared.fault.SeedFault.TheVariants.{NoRoom, NoMemory}
use Rattle.design_core.specs.declared.element.Element.{Element}
use Rattle.design_core.specs.declared.parts.Parts.{Parts}
use Rattle.design_core.specs.Weight.{weight}
use Rattle.seed_place.specs.Rooms.{taken, load, room, IsWithinRooms}
use Rattle.seed_place.specs.Seed.{IsFirstWithRoom, FindsNoChip, Answers}
use Rattle.seed_place.specs.Choice.{IsFirstLeft, Chooses, IsPlacing}
use Rattle.seed_place.proofs.Loads.{at_end, load_push, load_none}

module _ (p : Parts) (rooms : List ℕ) where
  -- nothing is placed
  pub start : IsPlacing p rooms 0 [] rooms
  start = record {
    count = refl;
    rule = record {
      few = omega arith;
      first = λ (k : ℕ) (e : Element) (chip : ChipId) at there. absurd (none-some chip there);
    };
    there = λ (k : ℕ) (chip : ChipId) at. absurd (none-some chip at);
    as_many = refl;
    rest = λ (c : ℕ) below. let none = load_none p c in omega arith;
  }

  module _ (k : ℕ) (chips : List ChipId) (left : List ℕ) (s : IsPlacing p rooms k chips left) where
    -- what is left of a room, and the weight that it takes, are the room
    takes : (w c : ℕ) → IsFirstLeft left w c → IsFirstWithRoom p rooms chips w c
    takes w c f =
        let many = s.as_many in
        let there : c < length rooms = let h = f.there in omega arith in
        record {
          there = there;
          fits = let e = s.rest c there in let h = f.fits in omega arith;
          full = λ (d : ℕ) below.
              let h = f.full d below in
              let e = s.rest d (omega arith) in
              omega arith;
        }

    -- the element of this number is the next one
    module _ (w : ℕ) (weighs : option_map (weight p) (slice_get p.elements k) ≡ Some w) where
      abbrev next : (e : Element) × (slice_get p.elements k ≡ Some e) × (weight p e ≡ w)
      next = mapped (weight p) (slice_get p.elements k) w weighs

      here : slice_get p.elements (length chips) ≡ Some next.0
      here = rw s.count next.1

      -- no chip has room for it
      no_chip : ((c : ℕ) → c < length left → get_or left c 0 < w) → FindsNoChip p rooms k
      no_chip full = record {
        chips = chips;
        placed = s.rule;
        before = s.count;
        element = next.0;
        here = next.1;
        full = λ (c : ℕ) below.
            let many = s.as_many in
            let h = full c (omega arith) in
            let e = s.rest c below in
            let is = next.2 in
            omega arith;
      }

      -- the fault that is told of it
      told : (elem : ElemId) (fault : SeedFault) → elem ≡ record { place = k } → Chooses left w elem (Err fault) → Answers p rooms (Err fault)
      told elem (NoRoom other) is h = subst (FindsNoChip p rooms) (ap (λ (e : ElemId). e.place) (sym (h.0 ∙ is))) (no_chip h.1)
      told elem NoMemory is h = absurd h

      pub told_on : (seen : List ℕ) → seen ≡ left → (elem : ElemId) (fault : SeedFault) → elem ≡ record { place = k }
          → Chooses seen w elem (Err fault)
          → (result : Result (List ChipId) SeedFault) → IsErrAnd result (λ e. e ≡ fault) → Answers p rooms result
      told_on seen same elem fault is h (Ok chips) e = absurd e
      told_on seen same elem fault is h (Err other) e =
          subst (λ (f : SeedFault). Answers p rooms (Err f)) (sym e)
          (told elem fault is (subst (λ (ls : List ℕ). Chooses ls w elem (Err fault)) same h))

      module _ (chip : ChipId) (f : IsFirstLeft left w chip.place) where
        abbrev more : List ChipId
        more = chips ++ chip ∷ []

        first : (j : ℕ) (e : Element) (c : ChipId) → slice_get p.elements j ≡ Some e → slice_get more j ≡ Some c
            → IsFirstWithRoom p rooms (take j more) (weight p e) c.place
        first j e c at there = elim (at_end chips chip j c there) [
          | inl h ↦
              let before : j < length chips = slice_get_within chips j c h in
              subst (λ (ds : List ChipId). IsFirstWithRoom p rooms ds (weight p e) c.place)
              (sym (take-append-le j chips (chip ∷ []) (omega arith)))
              (s.rule.first j e c at h)
          | inr h ↦
              let all : take j more ≡ chips = ap (λ (n : ℕ). take n more) h.0 ∙ take-append_seam chips (chip ∷ []) in
              let same : next.0 ≡ e = same_Some next.0 e (sym here ∙ ap (slice_get p.elements) (sym h.0) ∙ at) in
              let weight_is : w ≡ weight p e = sym next.2 ∙ ap (weight p) same in
              subst (λ (ds : List ChipId). IsFirstWithRoom p rooms ds (weight p e) c.place) (sym all)
              (subst (λ (v : ℕ). IsFirstWithRoom p rooms chips v c.place) weight_is
              (subst (λ (d : ChipId). IsFirstWithRoom p rooms chips w d.place) h.1 (takes w chip.place f)))
        ]

        there : (j : ℕ) (c : ChipId) → slice_get more j ≡ Some c → c.place < length rooms
        there j c at = elim (at_end chips chip j c at) [
          | inl h ↦ s.there j c h
          | inr h ↦ subst (λ (d : ChipId). d.place < length rooms) h.1 (takes w chip.place f).there
        ]

        taken_here : (b : Bool) (v u : ℕ) → b ≡ true → cond b v u ≡ v
        taken_here true v u h = refl
        taken_here false v u h = no h

        taken_there : (b : Bool) (v u : ℕ) → (b ≡ true → ⊥) → cond b v u ≡ u
        taken_there true v u h = absurd (h refl)
        taken_there false v u h = refl

        rest : (c : ℕ) → c < length rooms → load p more c + get_or (set left chip.place (get_or left chip.place 0 - w)) c 0 ≡ room rooms c
        rest c below =
            let pushed : load p more c ≡ load p chips c + taken p c next.0 chip = load_push p chips next.0 chip c here in
            let before : load p chips c + get_or left c 0 ≡ room rooms c = s.rest c below in
            let many : length left ≡ length rooms = s.as_many in
            let is : weight p next.0 ≡ w = next.2 in
            elim (cases_eq c chip.place) [
              | inl e ↦
                  let t : taken p c next.0 chip ≡ weight p next.0 = taken_here (chip.place == c) (weight p next.0) 0 (same_number chip.place c (sym e)) in
                  let l : get_or (set left chip.place (get_or left chip.place 0 - w)) chip.place 0 ≡ get_or left chip.place 0 - w
                  = get_or-set_same left chip.place (get_or left chip.place 0 - w) 0 f.there in
                  let m : get_or (set left chip.place (get_or left chip.place 0 - w)) c 0 ≡ get_or left c 0 - w
                  = ap (λ (i : ℕ). get_or (set left chip.place (get_or left chip.place 0 - w)) i 0) e ∙ l ∙ ap (λ (i : ℕ). get_or left i 0 - w) (sym e) in
                  let fits : w ≤ get_or left c 0 = subst (λ (i : ℕ). w ≤ get_or left i 0) (sym e) f.fits in
                  omega arith
              | inr ne ↦
                  let t : taken p c next.0 chip ≡ 0
                  = taken_there (chip.place == c) (weight p next.0) 0 (λ h. ne (sym (number_same chip.place c h))) in
                  let m : get_or (set left chip.place (get_or left chip.place 0 - w)) c 0 ≡ get_or left c 0
                  = get_or-set_other left chip.place c (get_or left chip.place 0 - w) 0 ne in
                  omega arith
            ]

        -- it stands on the first chip with room for it
        placed : IsPlacing p rooms (k + 1) (chips ++ chip ∷ []) (set left chip.place (get_or left chip.place 0 - w))
        placed = record {
          count = let e = length-append chips (chip ∷ []) in let n = s.count in omega arith;
          rule = record {
            few = let e = length-append chips (chip ∷ []) in let h = slice_get_within p.elements (length chips) next.0 here in omega arith;
            first = first;
          };
          there = there;
          as_many = length-set left chip.place (get_or left chip.place 0 - w) ∙ s.as_many;
          rest = rest;
        }

      pub placed_on : (seen : List ℕ) → seen ≡ left → (chip : ChipId) → IsFirstLeft seen w chip.place
          → (longer : List ChipId) (at now : ℕ) → longer ≡ chips ++ chip ∷ [] → at ≡ chip.place → now ≡ get_or left at now
          → IsPlacing p rooms (k + 1) longer (set left at (now - w))
      placed_on seen same chip f longer at now is place value =
          let g : IsFirstLeft left w chip.place = subst (λ (ls : List ℕ). IsFirstLeft ls w chip.place) same f in
          let read : now ≡ get_or left chip.place 0
          = value ∙ ap (λ (i : ℕ). get_or left i now) place ∙ get_or_default left chip.place now 0 g.there in
          subst (λ (cs : List ChipId). IsPlacing p rooms (k + 1) cs (set left at (now - w))) (sym is)
          (subst (λ (i : ℕ). IsPlacing p rooms (k + 1) (chips ++ chip ∷ []) (set left i (now - w))) (sym place)
          (subst (λ (v : ℕ). IsPlacing p rooms (k + 1) (chips ++ chip ∷ []) (set left chip.place (v - w))) (sym read)
          (placed chip g)))

    -- so the rooms are kept
    pub within : k ≡ length p.elements → IsWithinRooms p rooms chips
    within all = record {
      one_each = s.count ∙ all;
      there = s.there;
      fits = λ (c : ℕ) below. let e = s.rest c below in omega arith;
    }
