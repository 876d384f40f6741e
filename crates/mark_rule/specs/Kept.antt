-- Which nets of a chip are kept, as a table.
-- The rule is told in docs/RULES.md, "The state map".
use Rattle.std.specs.Prelude.{◌≡◌, ℕ, ◌<◌, ◌&&◌, ◌||◌, Bool, false, Some, List, length, get_or, slice_get, zip}
use Rattle.std.specs.List.{list_any}
use Rattle.emu_machine.specs.declared.netlist.Chip.{Chip}
use Rattle.emu_machine.specs.declared.netlist.EmuMemory.{EmuMemory}
use Rattle.emu_machine.specs.declared.netlist.EmuRead.{EmuRead}
use Rattle.emu_machine.specs.declared.netlist.EmuRegister.{EmuRegister}
use Rattle.emu_machine.specs.declared.map.MemMap.{MemMap}
use Rattle.emu_machine.specs.declared.map.ChipMap.{ChipMap}
use Rattle.emu_machine.specs.Results.{Results, MemoryEntryFits}
use Rattle.emu_machine.specs.Netlist.{chip_at, is_chip_net}
use Rattle.emu_machine.specs.Mapped.{kept_by_register, kept_by_read, is_kept}

-- for each net of chip `c` whether it is kept
pub record AreKept (r : Results) (c : ℕ) (kept : List Bool) : Type 0 where
  pub count : length kept ≡ (chip_at r.net c).nets
  pub tells : (n : ℕ) → n < (chip_at r.net c).nets → get_or kept n false ≡ is_kept r c n

-- ## Inside: nets are marked one after the other

-- a table tells, besides the nets that it told, those that pass a test
pub record TellsAlso (test : ℕ → Bool) (old new : List Bool) : Type 0 where
  pub count : length new ≡ length old
  pub tells : (n : ℕ) → n < length old → get_or new n false ≡ (get_or old n false || test n)

-- a kept register has the net as its Q
abbrev pub keeps_q : ℕ → EmuRegister × Bool → Bool
keeps_q n = λ (register, kept). kept && is_chip_net n register.q

-- a kept read port has the net as a bit
abbrev pub keeps_bits : ℕ → EmuRead × Bool → Bool
keeps_bits n = λ (port, kept). kept && list_any (is_chip_net n) port.bits

-- a memory has the net as a bit of a kept read port
abbrev pub keeps_ports : ℕ → EmuMemory × MemMap → Bool
keeps_ports n = λ (memory, of). list_any (keeps_bits n) (zip memory.reads of.kept)

-- a chip keeps the net, by its entry in the map
abbrev pub keeps_net : Chip → ChipMap → ℕ → Bool
keeps_net chip entry n = kept_by_register chip entry n || kept_by_read chip entry n

-- memories have an entry each, with a Boolean for each read port
pub record EntriesFit (memories : List EmuMemory) (entries : List MemMap) : Type 0 where
  pub count : length entries ≡ length memories
  pub each : (m : ℕ) (memory : EmuMemory) (of : MemMap)
      → slice_get memories m ≡ Some memory → slice_get entries m ≡ Some of → MemoryEntryFits memory of
