-- The pins of a cell in their order, and how wide each is.
-- The rule is told in docs/FORMATS.md, "The cell table" and "Cells".
use Rattle.std.specs.Prelude.{ℕ, true, false, not, Option, List, [], ◌∷◌, ◌++◌, bytes_eq, filter, flat_map, map}
use Rattle.cell_table.specs.declared.cell.CellKind.{CellKind}
use Rattle.cell_table.specs.declared.cell.CellKind.TheVariants.{Comb, Flop, Latch, GateClock, Memory}
use Rattle.cell_table.specs.declared.cell.CellRead.{CellRead}
use Rattle.cell_table.specs.declared.cell.CellWrite.{CellWrite}
use Rattle.cell_table.specs.declared.cell.FeedPin.{FeedPin}
use Rattle.cell_table.specs.declared.cell.FeedPin.TheVariants as feed
use Rattle.cell_table.specs.declared.cell.LevelPin.{LevelPin}
use Rattle.cell_table.specs.Pins.{edge_pins, level_pins, name_pins}
use Rattle.cell_parts.specs.declared.pins.Pin.{Pin}

-- a pin of so many bits
abbrev pub wide_pin : ℕ → List ℕ → Pin
wide_pin width name = record { name = name; width = width; needed = true }

-- a pin of one bit
abbrev pub bit_pin : List ℕ → Pin
bit_pin name = wide_pin 1 name

-- the inverted output needs no net
abbrev pub spare_pin : List ℕ → Pin
spare_pin name = record { name = name; width = 1; needed = false }

-- the pins of what feeds a flip-flop or a latch
abbrev pub feed_names : FeedPin → List (List ℕ)
feed_names (feed.Pin pin) = pin ∷ []
feed_names (feed.Table pins table) = pins

-- a flip-flop or a latch: output, inverted output, clock or gate, data, clear, preset
abbrev pub state_pins : List ℕ → FeedPin → Option LevelPin → Option LevelPin → List ℕ → Option (List ℕ) → List Pin
state_pins clock f clear preset q qn =
    bit_pin q ∷ map spare_pin (name_pins qn) ++ map bit_pin (clock ∷ feed_names f ++ level_pins clear ++ level_pins preset)

-- a write port: clock, enable, address, data
abbrev pub write_pins : ℕ → ℕ → CellWrite → List Pin
write_pins address_bits width write =
    map bit_pin (write.clock.pin ∷ level_pins write.enable) ++ map (wide_pin address_bits) (name_pins write.address) ++ wide_pin width write.feed ∷ []

-- a read port: clock, address, data
abbrev pub read_pins : ℕ → ℕ → CellRead → List Pin
read_pins address_bits width read =
    map bit_pin (edge_pins read.clock) ++ map (wide_pin address_bits) (name_pins read.address) ++ wide_pin width read.bits ∷ []

-- the pins as a kind names them: outputs before inputs; the ports of a memory one after the other
abbrev pub named_pins : CellKind → List Pin
named_pins (Comb inputs outputs) = map (λ out. bit_pin out.pin) outputs ++ map bit_pin inputs
named_pins (Flop clock f clear preset q qn) = state_pins clock.pin f clear preset q qn
named_pins (Latch gate f clear preset q qn) = state_pins gate.pin f clear preset q qn
named_pins (GateClock clock enable test output) = map bit_pin (output ∷ clock ∷ enable ∷ name_pins test)
named_pins (Memory address_bits width writes reads) =
    flat_map (write_pins address_bits width) writes ++ flat_map (read_pins address_bits width) reads

-- each pin at its first place: an output that feeds its own cell, and a clock that ports share, is one pin
abbrev pub once : List Pin → List Pin
once [] = []
once (pin ∷ pins) = pin ∷ filter (λ other. not (bytes_eq pin.name other.name)) (once pins)

-- the pins of a kind, in order
unfoldable pub pins_of : CellKind → List Pin
pins_of kind = once (named_pins kind)

-- the names of some pins, in their order
abbrev pub pin_names : List Pin → List (List ℕ)
pin_names pins = map (λ pin. pin.name) pins
