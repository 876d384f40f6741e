-- Offered to the crates above: what a wire carries while a `send` over it is on its way. It is what its slot
-- gave, for no other action of the frame sends over the wire meanwhile.
use Rattle.std.proofs.Common.{◌≡◌, ◌≢◌, ℕ, zero, suc, ◌+◌, ◌<◌, arith, Bool, true, false, List, [], ◌∷◌, refl, subst, sym, ap, ◌∙◌, inl, inr, if◌then◌else◌}
use Rattle.std.specs.Prelude.{◌⊎◌, ◌==◌, ◌&&◌, ◌||◌, nat_lt, nat_le, Option, Some, None, slice_get, unwrap_or, option_map, Contains}
use Rattle.std.specs.List.{list_any}
use Rattle.std.specs.Option.{option_or, option_map_or}
use Rattle.std.proofs.lemmas.Bool.{cases_eq}
use Rattle.std.proofs.lemmas.Bool.Decides.{nat_tests}
use Rattle.std.proofs.lemmas.Option.{none-some, same_Some}
use Rattle.id_arena.specs.declared.keys.ChipNetId.{ChipNetId}
use Rattle.id_arena.specs.declared.keys.RegId.{RegId}
use Rattle.id_arena.specs.declared.keys.WireId.{WireId}
use Rattle.id_arena.specs.declared.wire.Wire.{Wire}
use Rattle.design_core.specs.declared.node.NodeId.{NodeId}
use Rattle.emu_machine.specs.declared.place.Thing.{Thing}
use Rattle.emu_machine.specs.declared.place.Thing.TheVariants as thing
use Rattle.emu_machine.specs.declared.schedule.Action.{Action}
use Rattle.emu_machine.specs.declared.schedule.Action.TheVariants as action
use Rattle.emu_machine.specs.declared.schedule.Slot.{Slot}
use Rattle.emu_machine.specs.State.{frame_slots, Timed, timed, timed_actions, slots_taken, is_under_way, first_given}
use Rattle.emu_machine.specs.Marks.{Mark, MarkState, net_mark, action_carried_mark, marks_at, is_on_its_way}
use Rattle.emu_machine.specs.Acceptance.{Case, slot_actions, same_thing, uses_of, uses_thing}
use Rattle.emu_machine.specs.Headline.{sends_over}
use Rattle.facts.proofs.Tests.{no, left, right, below, number_same}
use Rattle.facts.proofs.Places.{at_contains}
use Rattle.marks_law.specs.Slots.{FrameFits}
use Rattle.marks_law.proofs.Given.{none_given}
use Rattle.marks_law.proofs.FrameActions.{StandsAt, stands_at, used_once_in, used_once_after}

-- ## A `send` uses its wire while it is under way

-- the wire of a number as a thing
abbrev pub wire_thing : ℕ → Thing
wire_thing w = thing.Wire (record { place = w })

-- numbers are equal in either order
equal_numbers : (a b : ℕ) → (b == a) ≡ true → (a == b) ≡ true
equal_numbers a b h = grind (arith, nat_tests)

-- an action that sends over a wire names it among what it uses while it is under way
uses_wire : (wires : List Wire) (w : ℕ) (under_way last : Bool) (a : Action) → sends_over w a ≡ true → under_way ≡ true
    → list_any (same_thing (wire_thing w)) (uses_of wires under_way last a) ≡ true
uses_wire wires w under_way last (action.Input chip register net) h e = no h
uses_wire wires w under_way last (action.Load chip register) h e = no h
uses_wire wires w under_way last (action.Write chip mem port) h e = no h
uses_wire wires w under_way last (action.Read chip mem port) h e = no h
uses_wire wires w false last (action.Send wire net register) h e = no e
uses_wire wires w true last (action.Send wire net register) h e =
    ap
    (λ b. b || list_any (same_thing (wire_thing w)) (option_map_or (λ (ends : Wire). if last then thing.Register ends.to register ∷ [] else []) (slice_get wires wire.place) []))
    (equal_numbers w wire.place h)

-- an action that sends over a wire uses it in each slot in which it is under way
pub sender_uses : (wires : List Wire) (w t : ℕ) (a : Timed) → sends_over w a.action ≡ true → is_under_way wires t a ≡ true → uses_thing wires t (wire_thing w) a ≡ true
sender_uses wires w t a h e = uses_wire wires w (is_under_way wires t a) _ a.action h e

-- it lasts as many slots as the wire tells
lasts_as_told : (wires : List Wire) (w : ℕ) (ends : Wire) (a : Action) → slice_get wires w ≡ Some ends → sends_over w a ≡ true → slots_taken wires a ≡ ends.latency
lasts_as_told wires w ends (action.Input chip register net) at h = no h
lasts_as_told wires w ends (action.Load chip register) at h = no h
lasts_as_told wires w ends (action.Write chip mem port) at h = no h
lasts_as_told wires w ends (action.Read chip mem port) at h = no h
lasts_as_told wires w ends (action.Send wire net register) at h =
    ap (λ o. option_map_or (λ (e : Wire). e.latency) o 1) (ap (slice_get wires) (number_same wire.place w h) ∙ at)

-- a slot from the first of some on and before their end is one of them
under_way_if : (slot taken t : ℕ) → (slot < suc t) → t < slot + taken → (nat_le slot t && nat_lt t (slot + taken)) ≡ true
under_way_if slot taken t early late =
    let lower : nat_le slot t ≡ true = grind (arith, nat_tests) in
    let upper : nat_lt t (slot + taken) ≡ true = grind (arith, nat_tests) in
    ap (λ b. b && nat_lt t (slot + taken)) lower ∙ upper

-- ## The first and only one to give something

-- what is given first stands where nothing is given after it
alone : {A : Type 0} (o : Option A) → option_or o None ≡ o
alone None = refl
alone (Some x) = refl

-- where no other action gives anything, what one action gives is given
only_given : {A : Type 0} (gives : Action → Option A) (actions : List Action) (k : ℕ) (a : Action) → slice_get actions k ≡ Some a
    → ((j : ℕ) (b : Action) → slice_get actions j ≡ Some b → j ≢ k → gives b ≡ None) → first_given gives actions ≡ gives a
only_given gives [] k a at others = absurd (none-some a at)
only_given gives (b ∷ actions) zero a at others =
    let none : first_given gives actions ≡ None = none_given gives actions (λ j d there. others (suc j) d there (λ e. absurd (omega (arith, e)))) in
    ap (option_or (gives b)) none ∙ alone (gives b) ∙ ap gives (same_Some b a at)
only_given gives (b ∷ actions) (suc k) a at others =
    ap (λ o. option_or o (first_given gives actions)) (others 0 b refl (λ e. absurd (omega (arith, e))))
    ∙ only_given gives actions k a at (λ j d there other. others (suc j) d there (λ e. other (omega (arith, e))))

-- of two places that differ one is lower
lower_or_higher : (j place : ℕ) → j ≢ place → (j < place) ⊎ (place < j)
lower_or_higher j place other = go (nat_lt j place) refl
  where
    go : (b : Bool) → nat_lt j place ≡ b → (j < place) ⊎ (place < j)
    go true e = inl (below j place e)
    go false e = inr (grind (arith, nat_tests))

-- ## Slots of a flight

-- what is on its way at the end of a slot stands in it or in an earlier one
pub now_or_before : (slot t : ℕ) → nat_lt slot (suc t) ≡ true → (slot ≡ t) ⊎ (slot < t)
now_or_before slot t h =
    let most : slot < suc t = below slot (suc t) h in
    elim (cases_eq slot t) [ inl e ↦ inl e | inr other ↦ inr (omega (arith, most, other)) ]

-- one that stands in an earlier slot was on its way at the start of the slot too
pub still_on_way : (t taken slot : ℕ) → slot < t → (nat_lt slot (suc t) && (nat_le slot (suc t) && nat_lt (suc t) (slot + taken))) ≡ true
    → (nat_lt slot t && (nat_le slot t && nat_lt t (slot + taken))) ≡ true
still_on_way t taken slot less h =
    let end : suc t < slot + taken = below (suc t) (slot + taken) (right (nat_le slot (suc t)) _ (right (nat_lt slot (suc t)) _ h)) in
    let first : nat_lt slot t ≡ true = grind (arith, nat_tests) in
    let early : slot < suc t = omega arith in
    let late : t < slot + taken = omega arith in
    ap (λ b. b && (nat_le slot t && nat_lt t (slot + taken))) first ∙ under_way_if slot taken t early late

-- nothing stands in a slot before the first
never : (slot : ℕ) (A : Type 0) → nat_lt slot 0 ≡ true → A
never slot A h = let less : slot < 0 = below slot 0 h in absurd (omega arith)

-- ## What a slot makes of a wire

module _ (c : Case) (frame : ℕ) (fit : FrameFits c frame) where
  -- the slots of the frame
  abbrev slots : List Slot
  slots = frame_slots c.results frame

  -- the wires of the board
  abbrev wires : List Wire
  wires = c.board.wires

  module _ (t : ℕ) (a : Timed) (wire : WireId) (net : ChipNetId) (register : RegId) (ends : Wire)
      (there : Contains (timed_actions slots) a) (is : a.action ≡ action.Send wire net register) (at : slice_get wires wire.place ≡ Some ends)
      (on_way : is_on_its_way wires (suc t) a ≡ true) where
    -- the action sends over the wire
    sends : sends_over wire.place a.action ≡ true
    sends = subst (λ (b : Action). sends_over wire.place b ≡ true) (sym is) (equal wire.place)
      where
        equal : (n : ℕ) → (n == n) ≡ true
        equal n = grind (arith, nat_tests)

    -- it stands in the slot or before it
    early : a.slot < suc t
    early = below a.slot (suc t) (left _ _ on_way)

    -- it lasts beyond the slot
    late : t < a.slot + ends.latency
    late =
        let before : suc t < a.slot + slots_taken wires a.action =
        below (suc t) (a.slot + slots_taken wires a.action) (right (nat_le a.slot (suc t)) _ (right (nat_lt a.slot (suc t)) _ on_way)) in
        let long : slots_taken wires a.action ≡ ends.latency = lasts_as_told wires wire.place ends a.action at sends in
        omega arith

    -- what sends over the wire uses it in each slot that it lasts
    uses_now : (b : Timed) → sends_over wire.place b.action ≡ true → b.slot < suc t → t < b.slot + ends.latency → uses_thing wires t (wire_thing wire.place) b ≡ true
    uses_now b h early late =
        let long : slots_taken wires b.action ≡ ends.latency = lasts_as_told wires wire.place ends b.action at h in
        sender_uses wires wire.place t b h (under_way_if b.slot (slots_taken wires b.action) t early (omega arith))

    -- an action of slot `t` that sends over the wire too would be under way in it
    uses_too : (b : Action) → sends_over wire.place b ≡ true → uses_thing wires t (wire_thing wire.place) (timed t b) ≡ true
    uses_too b h =
        let some : 0 < ends.latency = omega (arith, early, late) in
        uses_now (timed t b) h (omega arith) (omega arith)

    module _ {A : Type 0} (gives : Action → Option A) (idle : (b : Action) → sends_over wire.place b ≡ false → gives b ≡ None) where
      gives_nothing : (b : Action) → (sends_over wire.place b ≡ true → ⊥) → gives b ≡ None
      gives_nothing b h = go (sends_over wire.place b) refl
        where
          go : (s : Bool) → sends_over wire.place b ≡ s → gives b ≡ None
          go true e = absurd (h e)
          go false e = idle b e

      -- the slot in which the `send` stands gives the wire what the `send` gives
      pub sent_now : a.slot ≡ t → first_given gives (slot_actions c frame t) ≡ gives (action.Send wire net register)
      sent_now same =
          let h = at_contains (timed_actions slots) a there in
          let s : StandsAt slots h.0 a = stands_at slots h.0 a h.1 in
          let here : slice_get (slot_actions c frame t) s.place ≡ Some a.action = subst (λ (i : ℕ). slice_get (slot_actions c frame i) s.place ≡ Some a.action) same s.at in
          only_given gives (slot_actions c frame t) s.place a.action here
          (λ j b there_b other.
          gives_nothing b
          (λ over.
          by_order j s.place b here there_b other (uses_too a.action sends) (uses_too b over)))
          ∙ ap gives is
        where
          by_order : (j place : ℕ) (b : Action) → slice_get (slot_actions c frame t) place ≡ Some a.action → slice_get (slot_actions c frame t) j ≡ Some b → j ≢ place
              → uses_thing wires t (wire_thing wire.place) (timed t a.action) ≡ true → uses_thing wires t (wire_thing wire.place) (timed t b) ≡ true → ⊥
          by_order j place b at_a at_b other in_a in_b =
              elim (lower_or_higher j place other) [
                | inl less ↦ used_once_in c frame fit t t (wire_thing wire.place) j place b a.action less at_b at_a in_b in_a
                | inr less ↦ used_once_in c frame fit t t (wire_thing wire.place) place j a.action b less at_a at_b in_a in_b
              ]

      -- a later slot in which it is on its way gives the wire nothing
      pub sent_before : a.slot < t → first_given gives (slot_actions c frame t) ≡ None
      sent_before less =
          none_given gives (slot_actions c frame t)
          (λ j b at_b.
          gives_nothing b
          (λ over. used_once_after c frame fit t t (wire_thing wire.place) j a b there less at_b (uses_now a sends early late) (uses_too b over)))

-- ## The marks of what a wire carries

module _ (c : Case) (inside : NodeId → Bool) (s : MarkState) (w : ℕ) where
  -- an action that does not send over the wire gives its marks nothing
  pub no_mark_given : (b : Action) → sends_over w b ≡ false → action_carried_mark c.design c.results c.board.wires inside s b w ≡ None
  no_mark_given (action.Input chip register net) h = refl
  no_mark_given (action.Load chip register) h = refl
  no_mark_given (action.Write chip mem port) h = refl
  no_mark_given (action.Read chip mem port) h = refl
  no_mark_given (action.Send wire net register) h =
      ap (λ b. if b then option_map (λ ends. net_mark c.design c.results inside s ends.from.place net.place) (slice_get c.board.wires w) else None) h

  -- one that does gives it those of its net
  pub mark_given : (wire : WireId) (net : ChipNetId) (register : RegId) (ends : Wire) → slice_get c.board.wires wire.place ≡ Some ends → wire.place ≡ w
      → action_carried_mark c.design c.results c.board.wires inside s (action.Send wire net register) w ≡ Some (net_mark c.design c.results inside s ends.from.place net.place)
  mark_given wire net register ends at same =
      ap (λ b. if b then option_map (λ ends. net_mark c.design c.results inside s ends.from.place net.place) (slice_get c.board.wires w) else None) (equal wire.place w same)
      ∙ ap (option_map (λ (ends : Wire). net_mark c.design c.results inside s ends.from.place net.place)) (ap (slice_get c.board.wires) (sym same) ∙ at)
    where
      equal : (n m : ℕ) → n ≡ m → (n == m) ≡ true
      equal n m e = grind (arith, nat_tests)

module _ (c : Case) (frame : ℕ) (fit : FrameFits c frame) (inside : NodeId → Bool) (a : Timed) (wire : WireId) (net : ChipNetId) (register : RegId) (ends : Wire)
    (there : Contains (timed_actions (frame_slots c.results frame)) a) (is : a.action ≡ action.Send wire net register) (at : slice_get c.board.wires wire.place ≡ Some ends) where
  -- the marks at the start of a slot
  abbrev marks_then : ℕ → MarkState
  marks_then t = marks_at c.design c.results c.board.wires inside (frame_slots c.results frame) t

  -- the mark that the sent net has at the start of a slot
  abbrev sent_mark : ℕ → Mark
  sent_mark t = net_mark c.design c.results inside (marks_then t) ends.from.place net.place

  -- one slot more: the slot of the `send` puts the mark on the wire, and a later one leaves it there
  one_more : (t : ℕ) (on_way : is_on_its_way c.board.wires (suc t) a ≡ true)
      → (is_on_its_way c.board.wires t a ≡ true → (marks_then t).carried wire.place ≡ sent_mark a.slot)
      → (a.slot ≡ t) ⊎ (a.slot < t)
      → (marks_then (suc t)).carried wire.place ≡ sent_mark a.slot
  one_more t on_way before (inl same) =
      ap (λ o. unwrap_or o ((marks_then t).carried wire.place))
      (sent_now c frame fit t a wire net register ends there is at on_way
      (λ b. action_carried_mark c.design c.results c.board.wires inside (marks_then t) b wire.place)
      (no_mark_given c inside (marks_then t) wire.place) same
      ∙ mark_given c inside (marks_then t) wire.place wire net register ends at refl)
      ∙ ap sent_mark (sym same)
  one_more t on_way before (inr less) =
      ap (λ o. unwrap_or o ((marks_then t).carried wire.place))
      (sent_before c frame fit t a wire net register ends there is at on_way
      (λ b. action_carried_mark c.design c.results c.board.wires inside (marks_then t) b wire.place)
      (no_mark_given c inside (marks_then t) wire.place) less)
      ∙ before (still_on_way t (slots_taken c.board.wires a.action) a.slot less on_way)

  -- while a `send` is on its way its wire carries the marks that its net had at the start of its slot
  pub carried_as_sent : (t : ℕ) → is_on_its_way c.board.wires t a ≡ true → (marks_then t).carried wire.place ≡ sent_mark a.slot
  carried_as_sent zero on_way = never a.slot _ (left _ _ on_way)
  carried_as_sent (suc t) on_way = one_more t on_way (carried_as_sent t) (now_or_before a.slot t (left _ _ on_way))
