-- The maps of one chip without memories, whose subjects are nets of the design, as texts:
-- {"version":1,"chips":[{"nets":[["net",N],..],"registers":[BOOL,..],"memories":[]}],"outputs":[[0,N],..]}
-- The rule is told in docs/FORMATS.md, "The map".
use Rattle.std.specs.Prelude.{◌≡◌, ◌<◌, ℕ, Bool, List, [], ◌∷◌, Some, codes, slice_get}
use Rattle.serde_json.specs.Data.{Data, boolean, string}
use Rattle.json_members.specs.JsonText.{IsTextOf}
use Rattle.emu_machine.specs.declared.map.ChipMap.{ChipMap}
use Rattle.emu_machine.specs.declared.map.Spot.{Spot}
use Rattle.emu_machine.specs.declared.map.StateMap.{StateMap}
use Rattle.emu_machine.specs.declared.map.Subject.{Subject}
use Rattle.emu_machine.specs.declared.map.Subject.TheVariants.{Net}
use Rattle.emu_machine.specs.declared.netlist.Chip.{Chip}
use Rattle.emu_machine.specs.declared.schedule.Schedule.{Schedule}
use Rattle.emu_machine.specs.Results.{MapFits}
use Rattle.emu_machine.specs.Netlist.{chip_at}
use Rattle.result_files.specs.Trees.{list, whole, IsWord, HasMember}
use Rattle.result_files.specs.Lists.{HasList}
use Rattle.result_files.specs.Map.{IsKeptTree, IsSpotTree}

-- the tree is ["net",N], with a number of 32 bits
pub record IsNetTree (tree : Data) (n : ℕ) : Type 0 where
  pub tree_is : tree ≡ list (string (codes "net") ∷ whole n ∷ [])
  pub fits : IsWord n

-- the tree says a net of the design
abbrev pub IsSubjectTree : Data → Subject → Type 0
IsSubjectTree tree (Net n) = IsNetTree tree n.place
IsSubjectTree tree other = ⊥

-- the tree has a chip's subjects, tells which registers are kept, and has no memory
pub record IsEntryTree (tree : Data) (entry : ChipMap) : Type 0 where
  pub nets : HasList (codes "nets") IsSubjectTree tree entry.nets
  pub registers : HasList (codes "registers") IsKeptTree tree entry.kept
  pub memories : HasMember (codes "memories") (list []) tree
  pub none : entry.memories ≡ []

-- the tree is of version 1 and has one chip
pub record IsOnlyChip (tree chip : Data) : Type 0 where
  pub version : HasMember (codes "version") (whole 1) tree
  pub chips : HasMember (codes "chips") (list (chip ∷ [])) tree

-- the tree has one chip and the list of the outputs
pub record IsMapTree (tree : Data) (map : StateMap) : Type 0 where
  pub chip : Data
  pub only : IsOnlyChip tree chip
  pub entry : ChipMap
  pub one : map.chips ≡ entry ∷ []
  pub entry_is : IsEntryTree chip entry
  pub outputs : HasList (codes "outputs") IsSpotTree tree map.outputs

-- the map fits the results of this one chip, whatever their schedule
abbrev pub FitsChip : Chip → StateMap → Type 0
FitsChip chip map = (schedule : Schedule) → MapFits (record { net = chip ∷ []; schedule = schedule; map = map })

-- the net that an output shows is a net of the one chip
abbrev pub IsThere : Chip → Spot → Type 0
IsThere chip spot = spot.net.place < (chip_at (chip ∷ []) spot.chip.place).nets

-- so are the nets that all outputs show
abbrev pub AreThere : Chip → List Spot → Type 0
AreThere chip outputs = (k : ℕ) (spot : Spot) → slice_get outputs k ≡ Some spot → IsThere chip spot

-- the text is JSON for such a tree, and what it says fits the chip
pub record SaysMap (bytes : List ℕ) (chip : Chip) (map : StateMap) : Type 0 where
  pub tree : Data
  pub text : IsTextOf bytes tree
  pub form : IsMapTree tree map
  pub fits : FitsChip chip map

-- a text stands for at most one map of a chip
abbrev pub TextsTellMapsApart : Type 0
TextsTellMapsApart =
    (bytes : List ℕ) (chip : Chip) (first second : StateMap) → SaysMap bytes chip first → SaysMap bytes chip second → first ≡ second
