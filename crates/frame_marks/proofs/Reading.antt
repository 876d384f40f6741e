-- What read ports give.
use Rattle.std.proofs.Common.{◌≡◌, ℕ, Bool, true, false, List, length, refl, sym, ap, ◌∙◌}
use Rattle.std.specs.Prelude.{◌&&◌, ◌==◌, not, is_some, Option, Some, None}
use Rattle.std.proofs.lemmas.Option.{same_Some}
use Rattle.design_core.specs.declared.node.NodeId.{NodeId}
use Rattle.design_core.specs.declared.element.Edge.{Edge}
use Rattle.emu_machine.specs.declared.netlist.EmuRead.{EmuRead}
use Rattle.emu_machine.specs.State.{read_port}
use Rattle.emu_machine.specs.Marks.{Mark, MarkState, all_before, all_after, after_if, net_marks, read_mark, clock_of_read, writes_of}
use Rattle.facts.proofs.Tests.{no}
use Rattle.frame_marks.specs.declared.tables.MemoryMarks.{MemoryMarks}
use Rattle.frame_marks.specs.Frames.{FrameState, memory_in}
use Rattle.frame_marks.specs.Tables.{AreNets, IsStart, marks_in}
use Rattle.frame_marks.specs.Takes.{IsReadMark}
use Rattle.frame_marks.proofs.Giving.{marks_same}
use Rattle.frame_marks.proofs.Ports.{read_low}

clocked_mark : (s : MarkState) (o : Option Edge) (writes c m : ℕ) (ms : List Mark) → true ≡ is_some o → read_mark s o writes c m ms ≡ after_if (all_before ms && not (s.wrote c m))
clocked_mark s None writes c m ms is = no (sym is)
clocked_mark s (Some clock) writes c m ms is = refl

open_mark : (s : MarkState) (o : Option Edge) (writes c m : ℕ) (ms : List Mark) → false ≡ is_some o
    → read_mark s o writes c m ms ≡ record { before = all_before ms && not (s.wrote c m); after = all_after ms && (not (s.broken c m) && (s.standing c m == writes)) }
open_mark s None writes c m ms is = refl
open_mark s (Some clock) writes c m ms is = no is

module _ (f : FrameState) (c m k : ℕ) (port : EmuRead) (at : read_port f.results.net c m k ≡ Some port) (nets : AreNets f.results c port.address)
    (memory : MemoryMarks) (memory_is : memory ≡ memory_in f.memories c m) where
  address_is : (inside : NodeId → Bool) (s : MarkState) → IsStart inside s f → (other : EmuRead) → read_port f.results.net c m k ≡ Some other
      → marks_in f.chips c port.address ≡ net_marks f.design f.results inside s c other.address
  address_is inside s start other is =
      marks_same f inside s start c port.address nets
      ∙ ap (λ (p : EmuRead). net_marks f.design f.results inside s c p.address) (same_Some port other (sym at ∙ is))

  wrote_is : (inside : NodeId → Bool) (s : MarkState) → IsStart inside s f → memory.wrote ≡ s.wrote c m
  wrote_is inside s start = ap (λ (x : MemoryMarks). x.wrote) (memory_is ∙ start.rest.memories c m (read_low f.results c m k port at))

  broken_is : (inside : NodeId → Bool) (s : MarkState) → IsStart inside s f → memory.broken ≡ s.broken c m
  broken_is inside s start = ap (λ (x : MemoryMarks). x.broken) (memory_is ∙ start.rest.memories c m (read_low f.results c m k port at))

  standing_is : (inside : NodeId → Bool) (s : MarkState) → IsStart inside s f → memory.standing ≡ s.standing c m
  standing_is inside s start = ap (λ (x : MemoryMarks). x.standing) (memory_is ∙ start.rest.memories c m (read_low f.results c m k port at))

  old_is : (inside : NodeId → Bool) (s : MarkState) → IsStart inside s f → (other : EmuRead) → read_port f.results.net c m k ≡ Some other
      → (all_before (marks_in f.chips c port.address) && not memory.wrote) ≡ (all_before (net_marks f.design f.results inside s c other.address) && not (s.wrote c m))
  old_is inside s start other is =
      ap (λ ms. all_before ms && not memory.wrote) (address_is inside s start other is)
      ∙ ap (λ b. all_before (net_marks f.design f.results inside s c other.address) && not b) (wrote_is inside s start)

  pub read_clocked : (old : Bool) → old ≡ (all_before (marks_in f.chips c port.address) && not memory.wrote)
      → true ≡ is_some (clock_of_read f.design f.results c m k) → (mark : Mark) → mark ≡ after_if old → IsReadMark f c m k mark
  read_clocked old is clocked mark gives inside s other start there =
      gives
      ∙ ap after_if (is ∙ old_is inside s start other there)
      ∙ sym (clocked_mark s (clock_of_read f.design f.results c m k) (length (writes_of f.design f.results c m)) c m (net_marks f.design f.results inside s c other.address) clocked)

  pub read_open : (old after : Bool) → old ≡ (all_before (marks_in f.chips c port.address) && not memory.wrote)
      → (count : ℕ) → count ≡ length (writes_of f.design f.results c m)
      → after ≡ (all_after (marks_in f.chips c port.address) && (not memory.broken && (memory.standing == count)))
      → false ≡ is_some (clock_of_read f.design f.results c m k)
      → (mark : Mark) → mark ≡ record { before = old; after = after } → IsReadMark f c m k mark
  read_open old after is count counts after_is clocked mark gives inside s other start there =
      gives
      ∙ ap (λ b. let x : Mark = record { before = b; after = after } in x) (is ∙ old_is inside s start other there)
      ∙ ap (λ b. let x : Mark = record { before = all_before ms && not (s.wrote c m); after = b } in x) (after_is ∙ ap (λ some. all_after some && (not memory.broken && (memory.standing == count))) (address_is inside s start other there) ∙ ap (λ b. all_after ms && b) whole_same)
      ∙ sym (open_mark s (clock_of_read f.design f.results c m k) (length (writes_of f.design f.results c m)) c m ms clocked)
    where
      ms : List Mark
      ms = net_marks f.design f.results inside s c other.address

      whole_same : (not memory.broken && (memory.standing == count)) ≡ (not (s.broken c m) && (s.standing c m == length (writes_of f.design f.results c m)))
      whole_same =
          ap (λ b. not b && (memory.standing == count)) (broken_is inside s start)
          ∙ ap (λ (n : ℕ). not (s.broken c m) && (n == count)) (standing_is inside s start)
          ∙ ap (λ (n : ℕ). not (s.broken c m) && (s.standing c m == n)) counts
