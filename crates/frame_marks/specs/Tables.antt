-- Inside: the tables of a frame's marks between slots, and what they hold of a state.
use Rattle.std.specs.Prelude.{◌≡◌, ◌<◌, ℕ, Bool, None, Some, List, [], map, length, get_or, slice_get, All}
use Rattle.std.specs.Option.{option_map_or}
use Rattle.id_arena.specs.declared.keys.ChipNetId.{ChipNetId}
use Rattle.design_core.specs.declared.node.NodeId.{NodeId}
use Rattle.design_core.specs.declared.parts.Parts.{Parts}
use Rattle.chip_pass.specs.Chips.{ChipState, IsChipPass, ChipOthersWait}
use Rattle.mark_rule.specs.Gates.{gate_gives}
use Rattle.emu_machine.specs.Results.{Results}
use Rattle.emu_machine.specs.Netlist.{chip_at, gate_of, through_gates}
use Rattle.emu_machine.specs.Mapped.{subject}
use Rattle.emu_machine.specs.Marks.{Mark, no_mark, widened, MarkState, net_mark}
use Rattle.frame_marks.specs.declared.tables.MemoryMarks.{MemoryMarks}
use Rattle.frame_marks.specs.Frames.{FrameState, mark_in, memory_in}

-- the marks of some nets of a chip
abbrev pub marks_in : List (ChipState Mark) → ℕ → List ChipNetId → List Mark
marks_in chips c nets = map (λ n. mark_in chips c n.place) nets

-- how many nets a chip of the tables has; one that is not there has none
abbrev pub nets_in : List (ChipState Mark) → ℕ → ℕ
nets_in chips c = option_map_or (λ s. s.chip.nets) (slice_get chips c) 0

-- nets of a chip of the results
abbrev pub AreNets : Results → ℕ → List ChipNetId → Type 0
AreNets r c nets = All (λ n. n.place < (chip_at r.net c).nets) nets

-- a pass for each chip
pub record AreChipTables (r : Results) (chips : List (ChipState Mark)) : Type 0 where
  pub count : length chips ≡ length r.net
  pub chip : (c : ℕ) (s : ChipState Mark) → slice_get chips c ≡ Some s → s.chip ≡ chip_at r.net c
  pub pass : (c : ℕ) (s : ChipState Mark) → slice_get chips c ≡ Some s → IsChipPass s

-- an entry for each memory of each chip
pub record AreMemoryTables (r : Results) (memories : List (List MemoryMarks)) : Type 0 where
  pub count : length memories ≡ length r.net
  pub sizes : (c : ℕ) → length (get_or memories c []) ≡ length (chip_at r.net c).memories

-- tables for all chips, memories and wires
pub record AreTables (f : FrameState) : Type 0 where
  pub chips : AreChipTables f.results f.chips
  pub memories : AreMemoryTables f.results f.memories
  pub carried : length f.carried ≡ length f.wires

-- in each chip all gates that do not hold wait
abbrev pub AllOthersWait : Parts → Results → (NodeId → Bool) → List (ChipState Mark) → Type 0
AllOthersWait p r inside chips =
    (c : ℕ) (s : ChipState Mark) → slice_get chips c ≡ Some s → ChipOthersWait (gate_gives p r inside c) no_mark s

-- how far the writes of a memory stand in a state
abbrev pub memory_state : MarkState → ℕ → ℕ → MemoryMarks
memory_state s c m = record { standing = s.standing c m; broken = s.broken c m; wrote = s.wrote c m }

-- what the tables hold of memories and wires in a state
pub record HoldRest (s : MarkState) (f : FrameState) : Type 0 where
  pub memories : (c m : ℕ) → m < length (chip_at f.results.net c).memories → memory_in f.memories c m ≡ memory_state s c m
  pub carried : (w : ℕ) → w < length f.wires → get_or f.carried w no_mark ≡ s.carried w

-- nets that no gate drives have the marks of a state
abbrev pub HoldFree : (NodeId → Bool) → MarkState → FrameState → Type 0
HoldFree inside s f =
    (c n : ℕ) → n < (chip_at f.results.net c).nets → gate_of (chip_at f.results.net c) n ≡ None
    → mark_in f.chips c n ≡ widened inside (subject f.results c n) (s.on c n)

-- all nets have the marks of a state
abbrev pub HoldAll : Parts → Results → (NodeId → Bool) → MarkState → List (ChipState Mark) → Type 0
HoldAll p r inside s chips = (c n : ℕ) → n < (chip_at r.net c).nets → mark_in chips c n ≡ net_mark p r inside s c n

-- all nets have what comes to them through gates, from whatever agrees with the marks that stood on free nets
abbrev pub HaveSettled : Parts → Results → (NodeId → Bool) → List (ChipState Mark) → List (ChipState Mark) → Type 0
HaveSettled p r inside before after =
    (c : ℕ) (source : ℕ → Mark)
    → ((n : ℕ) → n < (chip_at r.net c).nets → gate_of (chip_at r.net c) n ≡ None → mark_in before c n ≡ source n)
    → (n : ℕ) → n < (chip_at r.net c).nets
    → mark_in after c n ≡ through_gates (chip_at r.net c) source (gate_gives p r inside c) n

-- The tables between two slots, in a state: gates may wait.
pub record IsBetween (inside : NodeId → Bool) (s : MarkState) (f : FrameState) : Type 0 where
  pub tables : AreTables f
  pub free : HoldFree inside s f
  pub rest : HoldRest s f
  pub others : AllOthersWait f.design f.results inside f.chips

-- The tables when the actions of a slot read them: all gates have had their turn.
pub record IsStart (inside : NodeId → Bool) (s : MarkState) (f : FrameState) : Type 0 where
  pub all : HoldAll f.design f.results inside s f.chips
  pub rest : HoldRest s f
