-- Inside: what actions name, where they fit.
use Rattle.std.specs.Prelude.{◌≡◌, ◌<◌, ℕ, Some, List, length, slice_get}
use Rattle.id_arena.specs.declared.wire.Wire.{Wire}
use Rattle.emu_machine.specs.declared.netlist.EmuRegister.{EmuRegister}
use Rattle.emu_machine.specs.declared.netlist.EmuRead.{EmuRead}
use Rattle.emu_machine.specs.declared.netlist.EmuWrite.{EmuWrite}
use Rattle.emu_machine.specs.declared.schedule.Action.{Action}
use Rattle.emu_machine.specs.declared.schedule.Action.TheVariants.{Input, Load, Send, Write, Read}
use Rattle.chip_pass.specs.Chips.{ChipState}
use Rattle.emu_machine.specs.Results.{Results}
use Rattle.emu_machine.specs.Marks.{Mark}
use Rattle.frame_marks.specs.Tables.{nets_in}
use Rattle.emu_machine.specs.Netlist.{chip_at}
use Rattle.emu_machine.specs.State.{read_port, write_port}

-- a register of a chip of the results
abbrev pub IsRegister : Results → ℕ → ℕ → Type 0
IsRegister r c k = (register : EmuRegister) × (slice_get (chip_at r.net c).registers k ≡ Some register)

-- a read port of a memory of a chip of the results
abbrev pub IsReadPort : Results → ℕ → ℕ → ℕ → Type 0
IsReadPort r c m k = (port : EmuRead) × (read_port r.net c m k ≡ Some port)

-- a write port likewise
abbrev pub IsWritePort : Results → ℕ → ℕ → ℕ → Type 0
IsWritePort r c m k = (port : EmuWrite) × (write_port r.net c m k ≡ Some port)

-- a wire, a net of its near chip, and a register of its far chip
abbrev pub IsSending : Results → List Wire → ℕ → ℕ → ℕ → Type 0
IsSending r wires wire net register =
    (ends : Wire) × (slice_get wires wire ≡ Some ends)
    × IsRegister r ends.to.place register
    × (net < (chip_at r.net ends.from.place).nets)

-- what an action names is there
abbrev pub IsNamed : Results → List Wire → Action → Type 0
IsNamed r wires (Input chip register net) = IsRegister r chip.place register.place
IsNamed r wires (Load chip register) = IsRegister r chip.place register.place
IsNamed r wires (Send wire net register) = IsSending r wires wire.place net.place register.place
IsNamed r wires (Write chip mem port) = IsWritePort r chip.place mem.place port
IsNamed r wires (Read chip mem port) = IsReadPort r chip.place mem.place port

-- a wire of which the near chip shows a net
abbrev pub IsShown : List Wire → List (ChipState Mark) → ℕ → ℕ → Type 0
IsShown wires chips wire net =
    (ends : Wire) × (slice_get wires wire ≡ Some ends)
    × (ends.from.place < length chips)
    × (net < nets_in chips ends.from.place)

-- what an action sends is there
abbrev pub CanSend : List Wire → List (ChipState Mark) → Action → Type 0
CanSend wires chips (Send wire net register) = IsShown wires chips wire.place net.place
CanSend wires chips (Input chip register net) = Unit {0}
CanSend wires chips (Load chip register) = Unit {0}
CanSend wires chips (Write chip mem port) = Unit {0}
CanSend wires chips (Read chip mem port) = Unit {0}
