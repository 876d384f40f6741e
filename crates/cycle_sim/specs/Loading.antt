-- What a machine is loaded with from the values of the nets of a design.
-- The rules are told in docs/RULES.md, "The state map" and "Loaded".
use Rattle.std.specs.Prelude.{◌≡◌, ◌<◌, ◌≤◌, ◌^◌, ◌&&◌, ◌||◌, ℕ, Bool, true, false, if◌then◌else◌, Option, Some, List, [], length, get_or, slice_get, zip}
use Rattle.std.specs.List.{list_any}
use Rattle.std.specs.Option.{option_map_or}
use Rattle.design_core.specs.declared.parts.Parts.{Parts}
use Rattle.design_core.specs.Design.{net_count}
use Rattle.design_core.specs.Valuation.{Valuation, IsAddress}
use Rattle.emu_machine.specs.declared.netlist.Chip.{Chip}
use Rattle.emu_machine.specs.declared.netlist.EmuMemory.{EmuMemory}
use Rattle.emu_machine.specs.declared.netlist.EmuRead.{EmuRead}
use Rattle.emu_machine.specs.declared.netlist.EmuRegister.{EmuRegister}
use Rattle.emu_machine.specs.declared.map.ChipMap.{ChipMap}
use Rattle.emu_machine.specs.declared.map.MemMap.{MemMap}
use Rattle.emu_machine.specs.declared.map.Subject.{Subject}
use Rattle.emu_machine.specs.declared.map.Subject.TheVariants.{Net}
use Rattle.emu_machine.specs.Results.{Results}
use Rattle.emu_machine.specs.Netlist.{chip_at, is_chip_net, read_nets}
use Rattle.emu_machine.specs.State.{State}
use Rattle.emu_machine.specs.Mapped.{is_kept, chip_map, kept_by_register, kept_by_read}
use Rattle.emu_machine.specs.Origins.{register_fits, memory_fits}

-- whether a net of a chip is the Q of a register, or driven by a read port
abbrev pub is_source : Chip → ℕ → Bool
is_source chip n = list_any (λ register. is_chip_net n register.q) chip.registers || list_any (is_chip_net n) (read_nets chip)

-- each register and each read net that is not kept holds 0
abbrev pub FreeAreZero : Results → State → Type 0
FreeAreZero r x = (c n : ℕ) → is_source (chip_at r.net c) n ≡ true → is_kept r c n ≡ false → x.held c n ≡ false

-- a net of the design, and nothing else
abbrev pub IsDesignNet : Parts → Option Subject → Type 0
IsDesignNet p (Some (Net n)) = n.place < net_count p
IsDesignNet p other = ⊥

-- whether a memory of a chip is what its subjects say, with its entry in the map
abbrev pub mapped_memory_fits : Parts → Results → ℕ → ℕ → EmuMemory → Bool
mapped_memory_fits p r c m memory =
    option_map_or (λ entry. memory_fits p r c entry memory) (slice_get (chip_map r c).memories m) false

-- A machine of these results can be loaded from values of the nets of the design: its registers and memories
-- are what their subjects say, as rule A7 asks.
pub record CanLoad (p : Parts) (r : Results) : Type 0 where
  pub registers : (c k : ℕ) (register : EmuRegister) → slice_get (chip_at r.net c).registers k ≡ Some register
      → register_fits p r c register ≡ true
  pub memories : (c m : ℕ) (memory : EmuMemory) → slice_get (chip_at r.net c).memories m ≡ Some memory
      → mapped_memory_fits p r c m memory ≡ true

-- the value of what a net stands for, if it stands for a net of the design
abbrev pub told : List Bool → Option Subject → Bool
told values (Some (Net n)) = get_or values n.place false
told values other = false

-- ## Inside

-- whether a net is driven by a read port that is kept, or by one of a memory
abbrev pub kept_by_port : ℕ → EmuRead × Bool → Bool
kept_by_port n (port, kept) = kept && list_any (is_chip_net n) port.bits

abbrev pub kept_by_memory : ℕ → EmuMemory × MemMap → Bool
kept_by_memory n (memory, of) = list_any (kept_by_port n) (zip memory.reads of.kept)

-- whether a net is the Q of a register that is kept
abbrev pub kept_as_q : ℕ → EmuRegister × Bool → Bool
kept_as_q n (register, kept) = kept && is_chip_net n register.q

-- the nets of a chip that pass the test have taken the values of their subjects, and the others stand
pub record Gains (test : ℕ → Bool) (entry : ChipMap) (values before after : List Bool) : Type 0 where
  pub size : length after ≡ length before
  pub each : (n : ℕ) → get_or after n false ≡ (if test n then told values (slice_get entry.nets n) else get_or before n false)

-- what registers and read ports hold on a chip: a net that is kept has its subject's value, and all else is 0
pub record IsHeld (chip : Chip) (entry : ChipMap) (values held : List Bool) : Type 0 where
  pub size : length held ≡ chip.nets
  pub each : (n : ℕ) → get_or held n false
      ≡ (if kept_by_register chip entry n || kept_by_read chip entry n then told values (slice_get entry.nets n) else false)

-- the same for the first chips of the results
pub record AreHeld (r : Results) (values : List Bool) (count : ℕ) (held : List (List Bool)) : Type 0 where
  pub size : length held ≡ count
  pub each : (c : ℕ) (chip : Chip) (entry : ChipMap) → c < count
      → slice_get r.net c ≡ Some chip → slice_get r.map.chips c ≡ Some entry → IsHeld chip entry values (get_or held c [])

-- the words of a memory of the design, at so many addresses
pub record IsCopy (v : Valuation) (m count : ℕ) (words : List ℕ) : Type 0 where
  pub size : length words ≡ count
  pub each : (a : ℕ) → a < count → get_or words a 0 ≡ v.word m a

-- a memory of a chip has addresses of its original alone
pub record MemoryLoads (p : Parts) (memory : EmuMemory) (of : ℕ) : Type 0 where
  pub few : memory.address_bits ≤ 16
  pub addresses : (a : ℕ) → a < 2 ^ memory.address_bits → IsAddress p of a

-- so do all memories of a chip
abbrev pub MemoriesLoad : Parts → Chip → ChipMap → Type 0
MemoriesLoad p chip entry =
    (m : ℕ) (memory : EmuMemory) (of : MemMap)
    → slice_get chip.memories m ≡ Some memory → slice_get entry.memories m ≡ Some of → MemoryLoads p memory of.of.place

-- the first memories of a chip hold the words of their originals
pub record FirstCopied (v : Valuation) (chip : Chip) (entry : ChipMap) (count : ℕ) (words : List (List ℕ)) : Type 0 where
  pub size : length words ≡ count
  pub each : (m : ℕ) (memory : EmuMemory) (of : MemMap) → m < count
      → slice_get chip.memories m ≡ Some memory → slice_get entry.memories m ≡ Some of
      → IsCopy v of.of.place (2 ^ memory.address_bits) (get_or words m [])

-- all memories of the first chips
pub record AreCopied (v : Valuation) (r : Results) (count : ℕ) (words : List (List (List ℕ))) : Type 0 where
  pub size : length words ≡ count
  pub each : (c : ℕ) (chip : Chip) (entry : ChipMap) → c < count
      → slice_get r.net c ≡ Some chip → slice_get r.map.chips c ≡ Some entry
      → FirstCopied v chip entry (length chip.memories) (get_or words c [])
