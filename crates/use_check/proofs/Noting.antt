-- The tables tell what actions use, one action after the other.
use Rattle.std.proofs.Common.{◌≡◌, ◌<◌, ◌≤◌, ◌+◌, ◌*◌, ◌⊎◌, ℕ, zero, suc, Bool, true, List, [], ◌∷◌, ◌++◌, length, get_or, set, Option, None, Some, inl, inr, refl, sym, subst, ap, ◌∙◌, arith, cond}
use Rattle.std.specs.Prelude.{nat_lt, IfSome, Contains}
use Rattle.std.specs.Option.{option_or}
use Rattle.std.proofs.lemmas.Bool.{cases_eq, cases_lt}
use Rattle.std.proofs.lemmas.Bool.Decides.{nat_tests}
use Rattle.std.proofs.lemmas.List.{get_or-set_same, get_or-set_other, length-set}
use Rattle.std.proofs.lemmas.List.Elements.{Contains-append_left, Contains-append_right, Contains-append_cases}
use Rattle.std.proofs.lemmas.Option.{none-some, same_Some}
use Rattle.facts.proofs.Tests.{same_number}
use Rattle.id_arena.specs.declared.keys.WireId.{WireId}
use Rattle.id_arena.specs.declared.wire.Wire.{Wire}
use Rattle.emu_machine.specs.declared.netlist.Chip.{Chip}
use Rattle.emu_machine.specs.declared.schedule.Action.{Action}
use Rattle.emu_machine.specs.declared.place.Thing.{Thing}
use Rattle.emu_machine.specs.declared.place.Thing.TheVariants as thing
use Rattle.emu_machine.specs.State.{Timed, timed, slots_taken}
use Rattle.emu_machine.specs.Acceptance.{uses_thing}
use Rattle.use_check.specs.Uses.{IsPart, IsUsed, NamesParts, Tell, again, cell_of, free_after, last_of, part_again, part_of, stamps_after, start_of, wire_again, wire_of}
use Rattle.use_check.proofs.Claims.{OnPart, OnWire, part_uses, uses_cases, wire_uses}
use Rattle.use_check.proofs.Cells.{cell_below, cells_apart, one_of_eight}

-- ## Elements and things

only : {X : Type 0} (x y : X) → Contains (x ∷ []) y → x ≡ y
only x y h = at h.0 h.1 h.2
  where
    at : (k : ℕ) → k < 1 → get_or (x ∷ []) k y ≡ y → x ≡ y
    at zero low e = e
    at (suc k) low e = absurd (omega (arith, low))

abbrev wire_number : Thing → ℕ
wire_number (thing.Wire w) = w.place
wire_number (thing.Register c r) = 0
wire_number (thing.Memory c m) = 0

wire_same : (v w : WireId) → thing.Wire v ≡ thing.Wire w → v.place ≡ w.place
wire_same v w e = ap wire_number e

id_same : (v w : WireId) → v.place ≡ w.place → v ≡ w
id_same v w e = ap (λ (n : ℕ). record { place = n }) e

-- where neither is used again
neither : {X : Type 0} (a b : Option X) → option_or a b ≡ None → (a ≡ None) × (b ≡ None)
neither None b e = (refl, e)
neither (Some x) b e = absurd (none-some x (sym e))

module _ (wires : List Wire) (chips : List Chip) where
  module _ (before : List Timed) (t : ℕ) (a : Action) (u : ℕ) (x : Thing) where
    used_before : IsUsed wires before u x → IsUsed wires (before ++ timed t a ∷ []) u x
    used_before h = record { by = h.by; one = Contains-append_left before (timed t a ∷ []) h.by h.one; uses = h.uses }

    used_now : uses_thing wires u x (timed t a) ≡ true → IsUsed wires (before ++ timed t a ∷ []) u x
    used_now h = record { by = timed t a; one = Contains-append_right before (timed t a ∷ []) (timed t a) (0, omega arith, refl); uses = h }

    used_either : IsUsed wires (before ++ timed t a ∷ []) u x → IsUsed wires before u x ⊎ (uses_thing wires u x (timed t a) ≡ true)
    used_either h = go (Contains-append_cases before (timed t a ∷ []) h.by h.one)
      where
        go : Contains before h.by ⊎ Contains (timed t a ∷ []) h.by → IsUsed wires before u x ⊎ (uses_thing wires u x (timed t a) ≡ true)
        go (inl c) = inl (record { by = h.by; one = c; uses = h.uses })
        go (inr c) = inr (subst (λ (y : Timed). uses_thing wires u x y ≡ true) (sym (only (timed t a) h.by c)) h.uses)

  -- an action that is noted
  module _ (before : List Timed) (t : ℕ) (free stamps : List ℕ) (told : Tell wires chips before t free stamps) (a : Action)
      (there : NamesParts wires chips a) (some : 0 < slots_taken wires a) (few : slots_taken wires a ≤ 8) where
    abbrev end : ℕ
    end = last_of wires t a

    abbrev now : List Timed
    now = before ++ timed t a ∷ []

    end_next : end + 1 ≡ t + slots_taken wires a
    end_next = omega (arith, some)

    no_wire_part : (w : WireId) → part_of wires a ≡ Some (thing.Wire w) → ⊥
    no_wire_part w e = subst (λ (o : Option Thing). IfSome o (IsPart chips)) e there.part

    part_there : (x : Thing) → part_of wires a ≡ Some x → IsPart chips x
    part_there x e = subst (λ (o : Option Thing). IfSome o (IsPart chips)) e there.part

    wire_there : (w : WireId) → wire_of a ≡ Some w → w.place < length free
    wire_there w e = let low : w.place < length wires = subst (λ (o : Option WireId). IfSome o (λ v. v.place < length wires)) e there.wire in omega (arith, low, told.tables.frees)

    cell_there : (x : Thing) (u : ℕ) → part_of wires a ≡ Some x → cell_of chips x u < length stamps
    cell_there x u e = omega (arith, cell_below chips x u (part_there x e), told.tables.cells)

    -- ### Wires

    free_is : (o : Option WireId) → wire_of a ≡ o → (w : WireId) → (o ≡ Some w) → get_or (free_after free end o) w.place 0 ≡ end + 1
    free_is None is w e = absurd (none-some w e)
    free_is (Some v) is w e =
        let same : v.place ≡ w.place = ap (λ (i : WireId). i.place) (same_Some v w e) in
        subst (λ (k : ℕ). get_or (set free v.place (end + 1)) k 0 ≡ end + 1) same (get_or-set_same free v.place (end + 1) 0 (wire_there v is))

    wire_used : (w : WireId) (u : ℕ) → t ≤ u → (o : Option WireId) → wire_of a ≡ o → u < get_or (free_after free end o) w.place 0 → IsUsed wires now u (thing.Wire w)
    wire_used w u from None is h = used_before before t a u (thing.Wire w) (told.wire_used w u from h)
    wire_used w u from (Some v) is h = go (cases_eq w.place v.place)
      where
        go : (w.place ≡ v.place) ⊎ (w.place ≡ v.place → ⊥) → IsUsed wires now u (thing.Wire w)
        go (inl same) =
            let mine : wire_of a ≡ Some w = is ∙ ap (λ (i : WireId). Some i) (sym (id_same w v same)) in
            let value : get_or (set free v.place (end + 1)) w.place 0 ≡ end + 1 = free_is (Some v) is w (sym is ∙ mine) in
            used_now before t a u (thing.Wire w) (wire_uses wires u t w a mine from (omega (arith, h, value, end_next)))
        go (inr other) =
            let value : get_or (set free v.place (end + 1)) w.place 0 ≡ get_or free w.place 0 = get_or-set_other free v.place w.place (end + 1) 0 other in
            used_before before t a u (thing.Wire w) (told.wire_used w u from (omega (arith, h, value)))

    not_before : (v : WireId) → wire_again free t (Some v) ≡ None → get_or free v.place 0 ≤ t
    not_before v e = go (cases_lt t (get_or free v.place 0))
      where
        go : (t < get_or free v.place 0) ⊎ (get_or free v.place 0 ≤ t) → get_or free v.place 0 ≤ t
        go (inl low) =
            let test : nat_lt t (get_or free v.place 0) ≡ true = grind (arith, nat_tests) in
            absurd (none-some (thing.Wire v) (sym e ∙ ap (λ (b : Bool). cond b (Some (thing.Wire v)) None) test))
        go (inr high) = high

    wire_noted : (w : WireId) (u : ℕ) → t ≤ u → (o : Option WireId) → wire_of a ≡ o → wire_again free t o ≡ None → IsUsed wires now u (thing.Wire w) → u < get_or (free_after free end o) w.place 0
    wire_noted w u from o is fresh used = go (used_either before t a u (thing.Wire w) used)
      where
        old : (o : Option WireId) → wire_again free t o ≡ None → u < get_or free w.place 0 → u < get_or (free_after free end o) w.place 0
        old None fresh low = low
        old (Some v) fresh low = by (cases_eq w.place v.place)
          where
            by : (w.place ≡ v.place) ⊎ (w.place ≡ v.place → ⊥) → u < get_or (set free v.place (end + 1)) w.place 0
            by (inl same) =
                let equal : get_or free w.place 0 ≡ get_or free v.place 0 = ap (λ (k : ℕ). get_or free k 0) same in
                absurd (omega (arith, low, equal, from, not_before v fresh))
            by (inr other) =
                let value : get_or (set free v.place (end + 1)) w.place 0 ≡ get_or free w.place 0 = get_or-set_other free v.place w.place (end + 1) 0 other in
                omega (arith, low, value)

        new : OnWire wires u (thing.Wire w) t a ⊎ OnPart wires u (thing.Wire w) t a → u < get_or (free_after free end o) w.place 0
        new (inl on) =
            let same : w ≡ on.wire = id_same w on.wire (wire_same w on.wire on.thing) in
            let value : get_or (free_after free end o) w.place 0 ≡ end + 1 = free_is o is w (sym is ∙ on.is ∙ ap (λ (i : WireId). Some i) (sym same)) in
            omega (arith, value, end_next, on.to)
        new (inr on) = absurd (no_wire_part w on.is)

        go : IsUsed wires before u (thing.Wire w) ⊎ (uses_thing wires u (thing.Wire w) (timed t a) ≡ true) → u < get_or (free_after free end o) w.place 0
        go (inl h) = old o fresh (told.wire_noted w u from h)
        go (inr h) = new (uses_cases wires u t (thing.Wire w) a h)

    -- ### Registers and memories

    stamp_is : (o : Option Thing) → part_of wires a ≡ o → (x : Thing) → (o ≡ Some x) → get_or (stamps_after chips stamps end o) (cell_of chips x end) 0 ≡ end + 1
    stamp_is None is x e = absurd (none-some x e)
    stamp_is (Some y) is x e =
        subst (λ (z : Thing). get_or (set stamps (cell_of chips y end) (end + 1)) (cell_of chips z end) 0 ≡ end + 1) (same_Some y x e)
        (get_or-set_same stamps (cell_of chips y end) (end + 1) 0 (cell_there y end is))

    part_used : (x : Thing) (u : ℕ) → IsPart chips x → t ≤ u → (o : Option Thing) → part_of wires a ≡ o → get_or (stamps_after chips stamps end o) (cell_of chips x u) 0 ≡ u + 1 → IsUsed wires now u x
    part_used x u p from None is h = used_before before t a u x (told.part_used x u p from h)
    part_used x u p from (Some y) is h = go (cases_eq (cell_of chips x u) (cell_of chips y end))
      where
        go : (cell_of chips x u ≡ cell_of chips y end) ⊎ (cell_of chips x u ≡ cell_of chips y end → ⊥) → IsUsed wires now u x
        go (inl same) =
            let value : get_or (set stamps (cell_of chips y end) (end + 1)) (cell_of chips x u) 0 ≡ end + 1 =
            subst (λ (k : ℕ). get_or (set stamps (cell_of chips y end) (end + 1)) k 0 ≡ end + 1) (sym same) (get_or-set_same stamps (cell_of chips y end) (end + 1) 0 (cell_there y end is))
            in
            let mine : part_of wires a ≡ Some x = is ∙ ap (λ (z : Thing). Some z) (sym (cells_apart chips x y u end p (part_there y is) same).0) in
            used_now before t a u x (part_uses wires u t x a mine from (omega (arith, h, value, end_next)))
        go (inr other) =
            let value : get_or (set stamps (cell_of chips y end) (end + 1)) (cell_of chips x u) 0 ≡ get_or stamps (cell_of chips x u) 0 = get_or-set_other stamps (cell_of chips y end) (cell_of chips x u) (end + 1) 0 other in
            used_before before t a u x (told.part_used x u p from (sym value ∙ h))

    not_stamped : (y : Thing) → part_again chips stamps end (Some y) ≡ None → get_or stamps (cell_of chips y end) 0 ≡ end + 1 → ⊥
    not_stamped y e same =
        none-some y (sym e ∙ ap (λ (b : Bool). cond b (Some y) None) (same_number (get_or stamps (cell_of chips y end) 0) (end + 1) same))

    part_noted : (x : Thing) (u : ℕ) → IsPart chips x → t ≤ u → (o : Option Thing) → part_of wires a ≡ o → part_again chips stamps end o ≡ None → IsUsed wires now u x → get_or (stamps_after chips stamps end o) (cell_of chips x u) 0 ≡ u + 1
    part_noted x u p from o is fresh used = go (used_either before t a u x used)
      where
        old : (o : Option Thing) → part_of wires a ≡ o → part_again chips stamps end o ≡ None → get_or stamps (cell_of chips x u) 0 ≡ u + 1 → get_or (stamps_after chips stamps end o) (cell_of chips x u) 0 ≡ u + 1
        old None is fresh low = low
        old (Some y) is fresh low = by (cases_eq (cell_of chips x u) (cell_of chips y end))
          where
            by : (cell_of chips x u ≡ cell_of chips y end) ⊎ (cell_of chips x u ≡ cell_of chips y end → ⊥) → get_or (set stamps (cell_of chips y end) (end + 1)) (cell_of chips x u) 0 ≡ u + 1
            by (inl same) =
                let slot : u ≡ end = one_of_eight t u end from (omega (arith, low, told.low (cell_of chips x u))) (omega (arith, some)) (omega (arith, some, few)) (cells_apart chips x y u end p (part_there y is) same).1 in
                absurd (not_stamped y fresh (subst (λ (k : ℕ). get_or stamps k 0 ≡ end + 1) same (low ∙ ap (λ (k : ℕ). k + 1) slot)))
            by (inr other) = get_or-set_other stamps (cell_of chips y end) (cell_of chips x u) (end + 1) 0 other ∙ low

        new : OnWire wires u x t a ⊎ OnPart wires u x t a → get_or (stamps_after chips stamps end o) (cell_of chips x u) 0 ≡ u + 1
        new (inl on) = absurd (subst (λ (z : Thing). IsPart chips z) on.thing p)
        new (inr on) =
            let slot : u ≡ end = omega (arith, on.end, end_next) in
            subst (λ (k : ℕ). get_or (stamps_after chips stamps end o) (cell_of chips x k) 0 ≡ k + 1) (sym slot) (stamp_is o is x (sym is ∙ on.is))

        go : IsUsed wires before u x ⊎ (uses_thing wires u x (timed t a) ≡ true) → get_or (stamps_after chips stamps end o) (cell_of chips x u) 0 ≡ u + 1
        go (inl h) = old o is fresh (told.part_noted x u p from h)
        go (inr h) = new (uses_cases wires u t x a h)

    low_after : (i : ℕ) (o : Option Thing) → part_of wires a ≡ o → get_or (stamps_after chips stamps end o) i 0 ≤ t + 8
    low_after i None is = told.low i
    low_after i (Some y) is = go (cases_eq i (cell_of chips y end))
      where
        go : (i ≡ cell_of chips y end) ⊎ (i ≡ cell_of chips y end → ⊥) → get_or (set stamps (cell_of chips y end) (end + 1)) i 0 ≤ t + 8
        go (inl same) =
            let value : get_or (set stamps (cell_of chips y end) (end + 1)) i 0 ≡ end + 1 =
            subst (λ (k : ℕ). get_or (set stamps (cell_of chips y end) (end + 1)) k 0 ≡ end + 1) (sym same) (get_or-set_same stamps (cell_of chips y end) (end + 1) 0 (cell_there y end is))
            in
            omega (arith, value, end_next, few)
        go (inr other) =
            let value : get_or (set stamps (cell_of chips y end) (end + 1)) i 0 ≡ get_or stamps i 0 = get_or-set_other stamps (cell_of chips y end) i (end + 1) 0 other in
            omega (arith, value, told.low i)

    frees_after : (o : Option WireId) → length (free_after free end o) ≡ length wires
    frees_after None = told.tables.frees
    frees_after (Some w) = length-set free w.place (end + 1) ∙ told.tables.frees

    cells_after : (o : Option Thing) → length (stamps_after chips stamps end o) ≡ 8 * start_of chips (length chips)
    cells_after None = told.tables.cells
    cells_after (Some x) = length-set stamps (cell_of chips x end) (end + 1) ∙ told.tables.cells

    -- where the action uses nothing again, the tables tell of it too
    pub noted : again wires chips free stamps t a ≡ None → Tell wires chips now t (free_after free end (wire_of a)) (stamps_after chips stamps end (part_of wires a))
    noted fresh =
        let apart : (wire_again free t (wire_of a) ≡ None) × (part_again chips stamps end (part_of wires a) ≡ None) = neither (wire_again free t (wire_of a)) (part_again chips stamps end (part_of wires a)) fresh in
        record {
          tables = record { frees = frees_after (wire_of a); cells = cells_after (part_of wires a) };
          low = λ i. low_after i (part_of wires a) refl;
          wire_used = λ w u from h. wire_used w u from (wire_of a) refl h;
          wire_noted = λ w u from h. wire_noted w u from (wire_of a) refl apart.0 h;
          part_used = λ x u p from h. part_used x u p from (part_of wires a) refl h;
          part_noted = λ x u p from h. part_noted x u p from (part_of wires a) refl apart.1 h;
        }

  -- what the tables tell of a slot and the later ones holds of the later ones
  pub later : (before : List Timed) (t : ℕ) (free stamps : List ℕ) → Tell wires chips before t free stamps → Tell wires chips before (t + 1) free stamps
  later before t free stamps told =
      record {
        tables = told.tables;
        low = λ i. let low : get_or stamps i 0 ≤ t + 8 = told.low i in omega (arith, low);
        wire_used = λ w u from h. told.wire_used w u (omega (arith, from)) h;
        wire_noted = λ w u from h. told.wire_noted w u (omega (arith, from)) h;
        part_used = λ x u p from h. told.part_used x u p (omega (arith, from)) h;
        part_noted = λ x u p from h. told.part_noted x u p (omega (arith, from)) h;
      }
