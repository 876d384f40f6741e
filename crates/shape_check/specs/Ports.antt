-- Inside the rule A7: the ports of a memory from one number on.
use Rattle.std.specs.Prelude.{◌≡◌, ◌≤◌, ◌+◌, ℕ, Bool, List, Some, length, slice_get, zip}
use Rattle.std.specs.List.{enumerate_from, list_all}
use Rattle.id_arena.specs.declared.keys.ChipNetId.{ChipNetId}
use Rattle.id_arena.specs.declared.keys.MemId.{MemId}
use Rattle.design_core.specs.declared.element.WritePort.{WritePort}
use Rattle.design_core.specs.declared.element.ReadPort.{ReadPort}
use Rattle.emu_machine.specs.declared.netlist.EmuMemory.{EmuMemory}
use Rattle.emu_machine.specs.declared.netlist.EmuRead.{EmuRead}
use Rattle.emu_machine.specs.declared.netlist.EmuWrite.{EmuWrite}
use Rattle.emu_machine.specs.declared.map.MemMap.{MemMap}
use Rattle.emu_machine.specs.declared.map.Subject.TheVariants.{Old}
use Rattle.emu_machine.specs.Results.{Results}
use Rattle.emu_machine.specs.Origins.{has_subject, read_fits, write_fits}

-- read ports have few bits
abbrev pub AreNarrow : List EmuRead → Type 0
AreNarrow ports = (k : ℕ) (port : EmuRead) → slice_get ports k ≡ Some port → length port.bits ≤ 128

-- write ports fit those of the design, where the first has number `k`
abbrev pub writes_fit : Results → ℕ → MemId → ℕ → List WritePort → List EmuWrite → Bool
writes_fit r c of k design ports = list_all (λ (j, (w, port)). write_fits r c of j w port) (enumerate_from k (zip design ports))

-- read ports fit those of the design, where the first has number `k`
abbrev pub reads_fit : Results → ℕ → MemMap → ℕ → List ReadPort → List EmuRead → Bool
reads_fit r c entry k design ports =
    list_all (λ (j, (w, port)). read_fits r c entry j w port) (enumerate_from k (zip design ports))

-- nets stand for the bits of the word that port `k` of a memory takes, from bit `b` on
abbrev pub old_bits : Results → ℕ → MemId → ℕ → ℕ → List ChipNetId → Bool
old_bits r c of k b nets = list_all (λ (j, net). has_subject r c net (Old of k j)) (enumerate_from b nets)

-- a memory of a chip has few ports, and few bits
pub record IsSmall (memory : EmuMemory) : Type 0 where
  pub ports : length memory.writes + length memory.reads ≤ 16
  pub bits : AreNarrow memory.reads
