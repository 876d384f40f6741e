-- The maps as texts:
-- {"chips":[{"memories":[{"of":N,"reads":[BOOL,..]},..],"nets":[SUBJECT,..],"registers":[BOOL,..]},..],
--  "outputs":[[CHIP,NET],..],"version":V}
-- The rule is told in docs/FORMATS.md, "The map".
use Rattle.std.specs.Prelude.{◌≡◌, ◌<◌, ◌⊎◌, ℕ, Bool, true, false, List, [], ◌∷◌, Some, Result, Ok, Err, codes, length, slice_get}
use Rattle.std.specs.List.{list_any, zip}
use Rattle.serde_json.specs.Data.{Data, boolean}
use Rattle.json_members.specs.JsonText.{IsTextOf, IsNoJson}
use Rattle.emu_machine.specs.declared.map.ChipMap.{ChipMap}
use Rattle.emu_machine.specs.declared.map.MemMap.{MemMap}
use Rattle.emu_machine.specs.declared.map.Spot.{Spot}
use Rattle.emu_machine.specs.declared.map.StateMap.{StateMap}
use Rattle.emu_machine.specs.declared.map.Subject.{Subject}
use Rattle.emu_machine.specs.declared.map.Subject.TheVariants.{Net, Up, Down, Take, Next, TakeWrite, Old, TakeRead}
use Rattle.emu_machine.specs.declared.netlist.Chip.{Chip}
use Rattle.emu_machine.specs.Results.{ChipEntryFits}
use Rattle.emu_machine.specs.Netlist.{chip_at}
use Rattle.result_files.specs.Trees.{list, whole, AreFew, IsWord, HasMember}
use Rattle.result_files.specs.Lists.{SayEach, SaysNone, FirstBad, HasList}
use Rattle.result_files.specs.Rows.{Row, IsRow}
use Rattle.result_files.specs.Schedule.{TextIs}
use Rattle.result_files.specs.declared.result_fault.ResultFault.{ResultFault}
use Rattle.result_files.specs.declared.result_fault.ResultFault.TheVariants.{MapNotJson, MapVersion, MapForm, NoMemory}

-- how each subject is written
abbrev pub subject_row : Subject → Row
subject_row (Net n) = (codes "net", n.place ∷ [])
subject_row (Up n) = (codes "up", n.place ∷ [])
subject_row (Down n) = (codes "down", n.place ∷ [])
subject_row (Take element) = (codes "take", element.place ∷ [])
subject_row (Next element) = (codes "next", element.place ∷ [])
subject_row (TakeWrite memory port) = (codes "takew", memory.place ∷ port ∷ [])
subject_row (Old memory port bit) = (codes "old", memory.place ∷ port ∷ bit ∷ [])
subject_row (TakeRead memory port) = (codes "taker", memory.place ∷ port ∷ [])

-- the tree is that of a subject
abbrev pub IsSubjectTree : Data → Subject → Type 0
IsSubjectTree tree subject = IsRow tree (subject_row subject)

-- the tree is `true` or `false`
abbrev pub IsKeptTree : Data → Bool → Type 0
IsKeptTree tree kept = tree ≡ boolean kept

-- how a net of a chip is written: [CHIP,NET]
abbrev pub spot_tree : Spot → Data
spot_tree spot = list (whole spot.chip.place ∷ whole spot.net.place ∷ [])

-- the tree is so, with numbers of 32 bits
pub record IsSpotTree (tree : Data) (spot : Spot) : Type 0 where
  pub tree_is : tree ≡ spot_tree spot
  pub chip_fits : IsWord spot.chip.place
  pub net_fits : IsWord spot.net.place

-- the tree names a memory of the design, and tells which read ports are kept
pub record IsMemoryTree (tree : Data) (memory : MemMap) : Type 0 where
  pub of : HasMember (codes "of") (whole memory.of.place) tree
  pub of_fits : IsWord memory.of.place
  pub reads : HasList (codes "reads") IsKeptTree tree memory.kept

-- the tree has a chip's subjects, tells which registers are kept, and has the maps of its memories
pub record IsEntryTree (tree : Data) (entry : ChipMap) : Type 0 where
  pub nets : HasList (codes "nets") IsSubjectTree tree entry.nets
  pub registers : HasList (codes "registers") IsKeptTree tree entry.kept
  pub memories : HasList (codes "memories") IsMemoryTree tree entry.memories

-- a subject of a read port that has a clock
abbrev pub is_clocked : Subject → Bool
is_clocked (Old memory port bit) = true
is_clocked (TakeRead memory port) = true
is_clocked other = false

abbrev pub has_clocked : ChipMap → Bool
has_clocked entry = list_any is_clocked entry.nets

-- the entry has the chip's counts; one of version 1 has no subject of a clocked read
pub record EntryFits (version : ℕ) (chip : Chip) (entry : ChipMap) : Type 0 where
  pub counts : ChipEntryFits chip entry
  pub plain : version ≡ 1 → has_clocked entry ≡ false

-- a chip's tree says the entry, and the entry fits the chip
pub record SaysEntry (version : ℕ) (of : Chip × Data) (entry : ChipMap) : Type 0 where
  pub form : IsEntryTree of.1 entry
  pub fits : EntryFits version of.0 entry

-- the tree has as `chips` a list of these
pub record HasEntries (tree : Data) (trees : List Data) : Type 0 where
  pub there : HasMember (codes "chips") (list trees) tree
  pub few : AreFew trees

-- the nets that the outputs show are there
abbrev pub AreThere : List Chip → List Spot → Type 0
AreThere chips outputs =
    (k : ℕ) (spot : Spot) → slice_get outputs k ≡ Some spot → spot.net.place < (chip_at chips spot.chip.place).nets

-- the tree has an entry for each chip, which fits it, and the list of the outputs, which are there
pub record IsMapTree (version : ℕ) (chips : List Chip) (tree : Data) (map : StateMap) : Type 0 where
  pub trees : List Data
  pub entries : HasEntries tree trees
  pub count : length trees ≡ length chips
  pub each : SayEach (SaysEntry version) (zip chips trees) map.chips
  pub outputs : HasList (codes "outputs") IsSpotTree tree map.outputs
  pub exist : AreThere chips map.outputs

-- the tree is of this version, 1 or 2
pub record IsOfVersion (tree : Data) (version : ℕ) : Type 0 where
  pub member : HasMember (codes "version") (whole version) tree
  pub either : (version ≡ 1) ⊎ (version ≡ 2)

-- the text is JSON for such a tree, of either version
pub record SaysMap (bytes : List ℕ) (chips : List Chip) (map : StateMap) : Type 0 where
  pub tree : Data
  pub text : IsTextOf bytes tree
  pub version : ℕ
  pub version_is : IsOfVersion tree version
  pub form : IsMapTree version chips tree map

-- The tree is bad as a map. Either this chip is the first whose tree says no entry that fits it. Or each
-- chip that has a tree has an entry in it, and the fault lies in the rest; the number of chips stands for it.
pub data IsBadMap (version : ℕ) (chips : List Chip) (tree : Data) : ℕ → Type 0 where
  at : (trees : List Data) (entry : ℕ) → HasEntries tree trees → FirstBad (SaysEntry version) (SaysNone (SaysEntry version)) (zip chips trees) entry → IsBadMap version chips tree entry
  rest : ((trees : List Data) → HasEntries tree trees → (entries : List ChipMap) × SayEach (SaysEntry version) (zip chips trees) entries)
      → ((map : StateMap) → IsMapTree version chips tree map → ⊥)
      → IsBadMap version chips tree (length chips)

-- the tree is of a version, and bad as a map of it at this chip
pub record IsMapBadAt (chips : List Chip) (entry : ℕ) (tree : Data) : Type 0 where
  pub version : ℕ
  pub version_is : IsOfVersion tree version
  pub bad : IsBadMap version chips tree entry

-- the map of these chips that the text says, or its first fault
abbrev pub MapAnswers : List ℕ → List Chip → Result StateMap ResultFault → Type 0
MapAnswers bytes chips (Ok map) = SaysMap bytes chips map
MapAnswers bytes chips (Err MapNotJson) = IsNoJson bytes
MapAnswers bytes chips (Err MapVersion) = TextIs bytes (λ tree. (version : ℕ) → IsOfVersion tree version → ⊥)
MapAnswers bytes chips (Err (MapForm entry)) = TextIs bytes (IsMapBadAt chips entry)
MapAnswers bytes chips (Err NoMemory) = Unit {0}
MapAnswers bytes chips (Err other) = ⊥

-- a text stands for at most one map of the same chips
abbrev pub MapsAreToldApart : Type 0
MapsAreToldApart =
    (bytes : List ℕ) (chips : List Chip) (first second : StateMap) → SaysMap bytes chips first → SaysMap bytes chips second → first ≡ second
