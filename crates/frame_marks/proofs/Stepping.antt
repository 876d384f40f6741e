-- One slot, from what was collected and put.
use Rattle.std.proofs.Common.{◌≡◌, ◌<◌, ◌+◌, ℕ, Bool, true, false, List, get_or, length, refl, sym, ap, ◌∙◌, if◌then◌else◌}
use Rattle.std.specs.Prelude.{◌||◌, not, is_some, Option, Some, None, unwrap_or, option_map}
use Rattle.std.specs.Option.{option_map_or}
use Rattle.id_arena.specs.declared.wire.Wire.{Wire}
use Rattle.design_core.specs.declared.node.NodeId.{NodeId}
use Rattle.design_core.specs.declared.parts.Parts.{Parts}
use Rattle.chip_pass.specs.Chips.{ChipState}
use Rattle.mark_rule.proofs.Free.{free_mark}
use Rattle.emu_machine.specs.declared.schedule.Action.{Action}
use Rattle.emu_machine.specs.declared.schedule.Slot.{Slot}
use Rattle.emu_machine.specs.Results.{Results}
use Rattle.emu_machine.specs.Mapped.{subject}
use Rattle.emu_machine.specs.State.{first_given, actions_of, ending}
use Rattle.emu_machine.specs.Marks.{Mark, MarkState, no_mark, widened, action_mark, action_carried_mark, port_written, write_counts, marks_step}
use Rattle.frame_marks.specs.declared.tables.Given.{Given}
use Rattle.frame_marks.specs.declared.tables.MemoryMarks.{MemoryMarks}
use Rattle.frame_marks.specs.Frames.{FrameState, frame_state, mark_in, memory_in, Shows}
use Rattle.frame_marks.specs.Tables.{AreTables, AllOthersWait, HaveSettled, HoldFree, HoldRest, IsBetween, IsStart, memory_state}
use Rattle.frame_marks.specs.Takes.{GivesAll, HavePut, WritesAll, HaveWritten, SendsAll, after_write}

module _ (p : Parts) (r : Results) (wires : List Wire) (inside : NodeId → Bool) (s : MarkState) (before settled after : List (ChipState Mark)) (memories written : List (List MemoryMarks)) (carried sent : List Mark) where
  abbrev old : FrameState
  old = frame_state p r wires before memories carried

  abbrev now : FrameState
  now = frame_state p r wires settled memories carried

  abbrev new : FrameState
  new = frame_state p r wires after written sent

  -- all nets have the marks of the state, once all gates had their turn
  pub start_is : HaveSettled p r inside before settled → IsBetween inside s old → IsStart inside s now
  start_is have between =
      record {
        all = λ c n low. have c (λ k. widened inside (subject r c k) (s.on c k)) (λ k below free. between.free c k below free) n low;
        rest = record { memories = between.rest.memories; carried = between.rest.carried };
      }

  module _ (slots : List Slot) (t : ℕ) where
    abbrev step : MarkState
    step = marks_step p r wires inside slots t s

    widened_or : (c n : ℕ) (o : Option Mark) (m : Mark) → unwrap_or (option_map (widened inside (subject r c n)) o) (widened inside (subject r c n) m) ≡ widened inside (subject r c n) (unwrap_or o m)
    widened_or c n None m = refl
    widened_or c n (Some x) m = refl

    free_step : (start : IsStart inside s now) (given : List (Given Mark)) (ends : List Action) → ends ≡ ending wires slots t → GivesAll now ends given → HavePut r inside given settled after → HoldFree inside step new
    free_step start given ends is gives put c n low free =
        put c n free
        ∙ ap (λ o. unwrap_or (option_map (widened inside (subject r c n)) o) (mark_in settled c n))
        (gives inside s start c n ∙ ap (first_given (λ a. action_mark p r wires inside s a c n)) is)
        ∙ ap (unwrap_or (option_map (widened inside (subject r c n)) (first_given (λ a. action_mark p r wires inside s a c n) (ending wires slots t))))
        (start.all c n low ∙ free_mark p r inside s c n free)
        ∙ widened_or c n (first_given (λ a. action_mark p r wires inside s a c n) (ending wires slots t)) (s.on c n)

    memory_step : (c m : ℕ) (o : Option ℕ)
        → unwrap_or (option_map (after_write now inside s c m) o) (memory_state s c m)
        ≡ record {
          standing = option_map_or (λ k. if write_counts p r inside s c m k then s.standing c m + 1 else s.standing c m) o (s.standing c m);
          broken = s.broken c m || option_map_or (λ k. not (write_counts p r inside s c m k)) o false;
          wrote = s.wrote c m || is_some o;
        }
    memory_step c m None =
        ap (λ b. let x : MemoryMarks = record { standing = s.standing c m; broken = b; wrote = s.wrote c m } in x) (sym (or_false (s.broken c m)))
        ∙ ap (λ b. let x : MemoryMarks = record { standing = s.standing c m; broken = s.broken c m || false; wrote = b } in x) (sym (or_false (s.wrote c m)))
      where
        or_false : (b : Bool) → (b || false) ≡ b
        or_false true = refl
        or_false false = refl
    memory_step c m (Some k) =
        ap (λ b. let x : MemoryMarks = record { standing = if write_counts p r inside s c m k then s.standing c m + 1 else s.standing c m; broken = s.broken c m || not (write_counts p r inside s c m k); wrote = b } in x) (sym (or_true (s.wrote c m)))
      where
        or_true : (b : Bool) → (b || true) ≡ true
        or_true true = refl
        or_true false = refl

    rest_step : (start : IsStart inside s now) (gifts : List (Given MemoryMarks)) (begins : List Action) → begins ≡ actions_of slots t
        → WritesAll now begins gifts → HaveWritten gifts memories written → SendsAll p r wires settled begins carried sent → HoldRest step new
    rest_step start gifts begins is writes put sends =
        record {
          memories = λ c m low.
              put c m
              ∙ ap (λ o. unwrap_or o (memory_in memories c m)) (writes inside s start c m ∙ ap (λ some. option_map (after_write now inside s c m) (first_given (port_written c m) some)) is)
              ∙ ap (unwrap_or (option_map (after_write now inside s c m) (first_given (port_written c m) (actions_of slots t)))) (start.rest.memories c m low)
              ∙ memory_step c m (first_given (port_written c m) (actions_of slots t));
          carried = λ w low.
              sends inside s start.all w
              ∙ ap (λ some. unwrap_or (first_given (λ a. action_carried_mark p r wires inside s a w) some) (get_or carried w no_mark)) is
              ∙ ap (unwrap_or (first_given (λ a. action_carried_mark p r wires inside s a w) (actions_of slots t))) (start.rest.carried w (sent_low low));
        }
      where
        sent_low : {w : ℕ} → w < length wires → w < length wires
        sent_low low = low

    -- the slot is done
    pub stepped : HaveSettled p r inside before settled → (given : List (Given Mark)) (ends : List Action) → ends ≡ ending wires slots t → GivesAll now ends given → HavePut r inside given settled after
        → (gifts : List (Given MemoryMarks)) (begins : List Action) → begins ≡ actions_of slots t → WritesAll now begins gifts → HaveWritten gifts memories written
        → SendsAll p r wires settled begins carried sent
        → AreTables new → AllOthersWait p r inside after
        → IsBetween inside s old → IsBetween inside step new
    stepped have given ends ends_are gives put gifts begins begins_are writes wrote sends tables others between =
        let start : IsStart inside s now = start_is have between in
        record {
          tables = tables;
          free = free_step start given ends ends_are gives put;
          rest = rest_step start gifts begins begins_are writes wrote sends;
          others = others;
        }

-- what a frame's tables show at its end
pub shown : (inside : NodeId → Bool) (s : MarkState) (f : FrameState) → IsBetween inside s f → Shows inside s f
shown inside s f between =
    record {
      nets = λ c n low free. between.free c n low free ∙ sym (free_mark f.design f.results inside s c n free);
      standing = λ c m low. ap (λ (x : MemoryMarks). x.standing) (between.rest.memories c m low);
      broken = λ c m low. ap (λ (x : MemoryMarks). x.broken) (between.rest.memories c m low);
      wrote = λ c m low. ap (λ (x : MemoryMarks). x.wrote) (between.rest.memories c m low);
    }
