-- Inside the gathering of pins: a pin whose name is lent by the cell, and pins that are put last one by one.
use Rattle.std.specs.Prelude.{if◌then◌else◌, is_some, List, [], ◌∷◌, ◌++◌}
use Rattle.id_arena.specs.Names.{place_among}
use Rattle.cell_parts.specs.declared.named.NamedPin.{NamedPin}
use Rattle.cell_parts.specs.declared.pins.Pin.{Pin}
use Rattle.cell_parts.specs.Pins.{pin_names}

-- the pin that is gathered
abbrev pub pin_seen : NamedPin → Pin
pin_seen named = record { name = named.name.now; width = named.width; needed = named.needed }

-- the pins after one is added: it goes last if none of them has its name
abbrev pub with_pin : List Pin → Pin → List Pin
with_pin pins pin = if is_some (place_among (pin_names pins) pin.name) then pins else pins ++ pin ∷ []
