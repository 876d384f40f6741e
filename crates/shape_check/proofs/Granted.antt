-- What A1, A4 and A5 grant A6: chips, frames and slots are few, and what actions use is there.
use Rattle.std.proofs.Common.{◌≡◌, ◌<◌, ◌≤◌, ◌⊎◌, ℕ, Bool, true, false, List, length, Option, None, Some, inl, inr, refl, sym, subst, arith}
use Rattle.std.specs.Prelude.{slice_get, is_some, option_and_then, option_map, IfSome, IfOk, Result, Ok, Err}
use Rattle.std.proofs.lemmas.Bool.{cases_eq}
use Rattle.std.proofs.lemmas.Option.{slice_get_within}
use Rattle.facts.proofs.Tests.{left, right, no}
use Rattle.id_arena.specs.declared.wire.Wire.{Wire}
use Rattle.id_arena.specs.BoardPlan.{BoardPlan}
use Rattle.design_core.specs.declared.parts.Parts.{Parts}
use Rattle.design_core.specs.Influence.{Group}
use Rattle.emu_machine.specs.declared.netlist.Chip.{Chip}
use Rattle.emu_machine.specs.declared.netlist.EmuMemory.{EmuMemory}
use Rattle.emu_machine.specs.declared.netlist.EmuRegister.{EmuRegister}
use Rattle.emu_machine.specs.declared.place.Place.{Place}
use Rattle.emu_machine.specs.declared.place.Place.TheVariants as place
use Rattle.emu_machine.specs.declared.place.Thing.TheVariants as thing
use Rattle.emu_machine.specs.declared.schedule.Action.{Action}
use Rattle.emu_machine.specs.declared.schedule.Action.TheVariants as action
use Rattle.emu_machine.specs.Netlist.{chip_at}
use Rattle.emu_machine.specs.Results.{Results}
use Rattle.emu_machine.specs.State.{frame_slots}
use Rattle.emu_machine.specs.Acceptance.{Case, FailsA1, FailsA4, FailsA5, FailsA6, action_at, case_action_fits, fails_test, is_hold, is_in_group, is_loaded, register_of, send_fits}
use Rattle.use_check.specs.Least.{IsLeast, Never}
use Rattle.use_check.specs.Uses.{CanUse, IsPart, NamesParts, case_of}
use Rattle.shape_check.specs.ShapeCase.{Stands}
use Rattle.shape_check.proofs.Framing.{few}

module _ (chips : List Chip) where
  register_low : (k r : ℕ) (o : Option EmuRegister) → register_of chips k r ≡ o → is_some o ≡ true → r < length (chip_at chips k).registers
  register_low k r None is e = no e
  register_low k r (Some x) is e = slice_get_within (chip_at chips k).registers r x is

  hold_some : (o : Option EmuRegister) → is_hold o ≡ true → is_some o ≡ true
  hold_some None e = no e
  hold_some (Some x) e = refl

  loaded_some : (o : Option EmuRegister) → is_loaded o ≡ true → is_some o ≡ true
  loaded_some None e = no e
  loaded_some (Some x) e = refl

  write_low : (k m p : ℕ) (o : Option EmuMemory) → slice_get (chip_at chips k).memories m ≡ o → is_some (option_and_then (λ (memory : EmuMemory). slice_get memory.writes p) o) ≡ true → m < length (chip_at chips k).memories
  write_low k m p None is e = no e
  write_low k m p (Some x) is e = slice_get_within (chip_at chips k).memories m x is

  read_low : (k m p : ℕ) (o : Option EmuMemory) → slice_get (chip_at chips k).memories m ≡ o → is_some (option_and_then (λ (memory : EmuMemory). slice_get memory.reads p) o) ≡ true → m < length (chip_at chips k).memories
  read_low k m p None is e = no e
  read_low k m p (Some x) is e = slice_get_within (chip_at chips k).memories m x is

module _ (c : Case) where
  -- what an action that fits uses is there
  fits_there : (k t : ℕ) (a : Action) → case_action_fits c k t a ≡ true → NamesParts c.board.wires c.results.net a
  fits_there k t (action.Input chip register net) e =
      record {
        wire = tt;
        part = register_low c.results.net chip.place register.place (register_of c.results.net chip.place register.place) refl (hold_some c.results.net (register_of c.results.net chip.place register.place) (left _ (is_in_group c k net.place) e));
      }
  fits_there k t (action.Load chip register) e =
      record {
        wire = tt;
        part = register_low c.results.net chip.place register.place (register_of c.results.net chip.place register.place) refl (loaded_some c.results.net (register_of c.results.net chip.place register.place) e);
      }
  fits_there k t (action.Write chip mem port) e =
      record { wire = tt; part = write_low c.results.net chip.place mem.place port (slice_get (chip_at c.results.net chip.place).memories mem.place) refl e }
  fits_there k t (action.Read chip mem port) e =
      record { wire = tt; part = read_low c.results.net chip.place mem.place port (slice_get (chip_at c.results.net chip.place).memories mem.place) refl e }
  fits_there k t (action.Send wire net register) e = record { wire = near (slice_get c.board.wires wire.place) refl e; part = far (slice_get c.board.wires wire.place) e }
    where
      near : (o : Option Wire) → slice_get c.board.wires wire.place ≡ o → send_fits c.results.net (length (frame_slots c.results k)) t net register.place o ≡ true → wire.place < length c.board.wires
      near None is f = no f
      near (Some ends) is f = slice_get_within c.board.wires wire.place ends is

      far : (o : Option Wire) → send_fits c.results.net (length (frame_slots c.results k)) t net register.place o ≡ true → IfSome (option_map (λ (ends : Wire). thing.Register ends.to register) o) (IsPart c.results.net)
      far None f = no f
      far (Some ends) f =
          register_low c.results.net ends.to.place register.place (register_of c.results.net ends.to.place register.place) refl
          (hold_some c.results.net (register_of c.results.net ends.to.place register.place) (right _ _ (left _ _ f)))

  module _ (s : Stands c) (a1 : Never (FailsA1 c)) (a4 : Never (FailsA4 c)) (a5 : Never (FailsA5 c)) where
    action_fits : (k t j : ℕ) (a : Action) → action_at c k t j ≡ Some a → case_action_fits c k t a ≡ true
    action_fits k t j a at = go (case_action_fits c k t a) refl
      where
        go : (b : Bool) → case_action_fits c k t a ≡ b → case_action_fits c k t a ≡ true
        go true e = e
        go false e = absurd (a5 (place.Action k t j) (subst (λ (o : Option Action). fails_test (case_action_fits c k t) o) (sym at) e))

    few_chips : (length c.results.net ≡ length c.board.rooms) ⊎ (length c.results.net ≡ length c.board.rooms → ⊥) → length c.results.net ≤ 16
    few_chips (inl e) = omega (arith, e, s.board.limits.few_chips)
    few_chips (inr other) = absurd (a1 (place.Chips (length c.results.net)) (refl, other))

    pub granted : CanUse c.board.wires c.results
    granted =
        record {
          chips = few_chips (cases_eq (length c.results.net) (length c.board.rooms));
          frames = (few c s a4).frames;
          slots = (few c s a4).slots;
          there = λ k t j a at. fits_there k t a (action_fits k t j a at);
        }

-- what holds with the board and the results of a case, whatever the design and groups, holds of the case
pub of_case : {E : Type 0} (c : Case) (b : BoardPlan) (r : Results) (o : Result (Option Place) E) → b ≡ c.board → r ≡ c.results
    → IfOk o (λ at. (design : Parts) (groups : List Group) → IsLeast (FailsA6 (case_of design groups b r)) at) → IfOk o (λ at. IsLeast (FailsA6 c) at)
of_case c b r (Ok at) same kept h =
    subst (λ (q : Results). IsLeast (FailsA6 (case_of c.design c.groups c.board q)) at) kept
    (subst (λ (p : BoardPlan). IsLeast (FailsA6 (case_of c.design c.groups p r)) at) same (h c.design c.groups))
of_case c b r (Err e) same kept h = tt
