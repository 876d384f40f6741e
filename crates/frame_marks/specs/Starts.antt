-- Inside: the marks that a frame starts with, in tables.
use Rattle.std.specs.Prelude.{◌≡◌, ◌<◌, ℕ, ◌||◌, not, Bool, false, None, Some, if◌then◌else◌, List, [], length, get_or, slice_get, is_some, count_by, find}
use Rattle.design_core.specs.declared.node.NodeId.{NodeId}
use Rattle.design_core.specs.declared.parts.Parts.{Parts}
use Rattle.gate_pass.specs.Gates.{value_on}
use Rattle.chip_pass.specs.Chips.{ChipState}
use Rattle.mark_rule.specs.Kept.{AreKept}
use Rattle.emu_machine.specs.declared.netlist.Chip.{Chip}
use Rattle.emu_machine.specs.declared.netlist.EmuGate.{EmuGate}
use Rattle.emu_machine.specs.Results.{Results}
use Rattle.emu_machine.specs.Netlist.{chip_at, is_chip_net, gate_of}
use Rattle.emu_machine.specs.Mapped.{subject, is_kept}
use Rattle.emu_machine.specs.Marks.{Mark, no_mark, only_before, widened, writes_of}
use Rattle.frame_marks.specs.declared.tables.MemoryMarks.{MemoryMarks}
use Rattle.frame_marks.specs.Frames.{FrameState, mark_in, memory_in}
use Rattle.frame_marks.specs.Tables.{AreTables}

-- for each net of a chip whether a gate drives it
pub record AreGated (chip : Chip) (gated : List Bool) : Type 0 where
  pub count : length gated ≡ chip.nets
  pub tells : (n : ℕ) → n < chip.nets → get_or gated n false ≡ is_some (gate_of chip n)

-- the same of some gates, besides what was told
pub record OutputsTold (gates : List EmuGate) (old new : List Bool) : Type 0 where
  pub count : length new ≡ length old
  pub tells : (n : ℕ) → n < length old
      → get_or new n false ≡ (get_or old n false || is_some (find (λ gate. is_chip_net n gate.output) gates))

-- for each chip which of its nets are kept
pub record AllKept (r : Results) (kept : List (List Bool)) : Type 0 where
  pub count : length kept ≡ length r.net
  pub each : (c : ℕ) → c < length r.net → AreKept r c (get_or kept c [])

-- and which gates drive
pub record AllGated (r : Results) (gated : List (List Bool)) : Type 0 where
  pub count : length gated ≡ length r.net
  pub each : (c : ℕ) → c < length r.net → AreGated (chip_at r.net c) (get_or gated c [])

-- the marks that a net starts a frame with
abbrev pub start_mark : Bool → Mark
start_mark kept = if kept then only_before else no_mark

-- the same, widened: what stands on net `n` of chip `c`
abbrev pub first_mark : Results → (NodeId → Bool) → ℕ → ℕ → Mark
first_mark r inside c n = widened inside (subject r c n) (start_mark (is_kept r c n))

-- the nets of a chip that no gate drives have them
abbrev pub ChipHasStarted : Results → (NodeId → Bool) → ℕ → ChipState Mark → Type 0
ChipHasStarted r inside c s =
    (n : ℕ) → n < (chip_at r.net c).nets → gate_of (chip_at r.net c) n ≡ None
    → value_on no_mark s.pass.values n ≡ first_mark r inside c n

-- the same of the first nets of a chip
abbrev pub NetsHaveStarted : Results → (NodeId → Bool) → ℕ → ℕ → ChipState Mark → Type 0
NetsHaveStarted r inside c count s =
    (n : ℕ) → n < count → gate_of (chip_at r.net c) n ≡ None → value_on no_mark s.pass.values n ≡ first_mark r inside c n

-- the same for all chips
abbrev pub HaveStarted : Results → (NodeId → Bool) → List (ChipState Mark) → Type 0
HaveStarted r inside chips =
    (c n : ℕ) → n < (chip_at r.net c).nets → gate_of (chip_at r.net c) n ≡ None → mark_in chips c n ≡ first_mark r inside c n

-- a memory stands at the writes outside the influence
abbrev pub start_memory : Parts → Results → (NodeId → Bool) → ℕ → ℕ → MemoryMarks
start_memory p r inside c m =
    record { standing = count_by (λ a. not (inside a)) (writes_of p r c m); broken = false; wrote = false }

-- each memory of a chip does
abbrev pub RowHasStarted : Parts → Results → (NodeId → Bool) → ℕ → List MemoryMarks → Type 0
RowHasStarted p r inside c row =
    (m : ℕ) (memory : MemoryMarks) → slice_get row m ≡ Some memory → memory ≡ start_memory p r inside c m

-- and each memory of all chips
abbrev pub MemoriesHaveStarted : Parts → Results → (NodeId → Bool) → List (List MemoryMarks) → Type 0
MemoriesHaveStarted p r inside memories =
    (c m : ℕ) → m < length (chip_at r.net c).memories → memory_in memories c m ≡ start_memory p r inside c m

-- no wire carries anything that is known
abbrev pub WiresHaveStarted : List Mark → Type 0
WiresHaveStarted carried = (w : ℕ) → get_or carried w no_mark ≡ no_mark

-- what a table of a frame's marks is made with
pub record IsFrame (kept gated : List (List Bool)) (f : FrameState) : Type 0 where
  pub tables : AreTables f
  pub kept_nets : AllKept f.results kept
  pub gated_nets : AllGated f.results gated
