-- What the code asks of the tables, and how long actions last.
use Rattle.std.proofs.Common.{◌≡◌, ◌<◌, ◌≤◌, ◌+◌, ◌*◌, ℕ, Bool, true, false, List, length, get_or, Option, None, Some, refl, sym, subst, ap, ◌∙◌, arith, cond}
use Rattle.std.specs.Prelude.{◌==◌, ◌&&◌, nat_le, slice_get, IfSome}
use Rattle.std.specs.Option.{option_map_or}
use Rattle.std.proofs.lemmas.Bool.Decides.{nat_tests}
use Rattle.std.proofs.lemmas.Option.{get_or_from_slice_get}
use Rattle.facts.proofs.Places.{all_at}
use Rattle.facts.proofs.Tests.{left, right, number_same, same_number}
use Rattle.id_arena.specs.declared.wire.Wire.{Wire}
use Rattle.id_arena.specs.BoardPlan.{BoardPlan}
use Rattle.board_model.specs.Sound.{IsSound, latency_is_within}
use Rattle.emu_machine.specs.declared.netlist.Chip.{Chip}
use Rattle.emu_machine.specs.declared.schedule.Action.{Action}
use Rattle.emu_machine.specs.declared.schedule.Action.TheVariants as action
use Rattle.emu_machine.specs.declared.place.Thing.{Thing}
use Rattle.emu_machine.specs.State.{slots_taken}
use Rattle.use_check.specs.Uses.{IsPart, cell_of, part_again, start_of}
use Rattle.use_check.proofs.Cells.{cell_below}

pub record IsShort (n : ℕ) : Type 0 where
  pub some : 0 < n
  pub few : n ≤ 8

-- an action lasts one to eight slots
pub short : (b : BoardPlan) → IsSound b → (a : Action) → IsShort (slots_taken b.wires a)
short b sound (action.Input chip register net) = record { some = omega arith; few = omega arith }
short b sound (action.Load chip register) = record { some = omega arith; few = omega arith }
short b sound (action.Write chip mem port) = record { some = omega arith; few = omega arith }
short b sound (action.Read chip mem port) = record { some = omega arith; few = omega arith }
short b sound (action.Send wire net register) = go (slice_get b.wires wire.place) refl
  where
    within : (n : ℕ) → (nat_le 1 n && nat_le n 8) ≡ true → IsShort n
    within n e =
        let low : nat_le 1 n ≡ true = left (nat_le 1 n) (nat_le n 8) e in
        let high : nat_le n 8 ≡ true = right (nat_le 1 n) (nat_le n 8) e in
        let some : 0 < n = grind (arith, nat_tests) in
        let few : n ≤ 8 = grind (arith, nat_tests) in
        record { some = some; few = few }

    go : (o : Option Wire) → slice_get b.wires wire.place ≡ o → IsShort (option_map_or (λ (ends : Wire). ends.latency) o 1)
    go None e = record { some = omega arith; few = omega arith }
    go (Some ends) e = within ends.latency (all_at latency_is_within b.wires wire.place ends sound.limits.latencies e)

module _ (chips : List Chip) (stamps : List ℕ) where
  pub part_in : (o : Option Thing) (x : Thing) → IfSome o (IsPart chips) → o ≡ Some x → IsPart chips x
  part_in o x there is = subst (λ (p : Option Thing). IfSome p (IsPart chips)) is there

  pub cell_in : (o : Option Thing) (x : Thing) (u n : ℕ) → length stamps ≡ 8 * start_of chips (length chips) → IfSome o (IsPart chips) → o ≡ Some x → n ≡ cell_of chips x u → n < length stamps
  cell_in o x u n cells there is at = omega (arith, cells, at, cell_below chips x u (part_in o x there is))

  module _ (o : Option Thing) (x : Thing) (u n m : ℕ) (is : o ≡ Some x) (at : n ≡ cell_of chips x u) (value : slice_get stamps n ≡ Some m) where
    tested : (b : Bool) → (m == u + 1) ≡ b → cond b (Some x) None ≡ part_again chips stamps u o
    tested b e =
        let read : get_or stamps (cell_of chips x u) 0 ≡ m = ap (λ (k : ℕ). get_or stamps k 0) (sym at) ∙ get_or_from_slice_get stamps n m 0 value in
        ap (λ (c : Bool). cond {A = Option Thing} c (Some x) None) (sym e ∙ ap (λ (k : ℕ). k == u + 1) (sym read))
        ∙ ap (part_again chips stamps u) (sym is)

    pub stamped : m ≡ u + 1 → Some x ≡ part_again chips stamps u o
    stamped e = tested true (same_number m (u + 1) e)

    pub unstamped : (m ≡ u + 1 → ⊥) → None ≡ part_again chips stamps u o
    unstamped other = tested false (go (m == u + 1) refl)
      where
        go : (b : Bool) → (m == u + 1) ≡ b → (m == u + 1) ≡ false
        go true e = absurd (other (number_same m (u + 1) e))
        go false e = e
