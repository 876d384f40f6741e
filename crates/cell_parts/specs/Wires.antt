-- The nets at the pins of a cell's instance: those that are connected, or new ones.
-- The rule is told in docs/FORMATS.md, "Cells" and "Names and paths".
use Rattle.std.specs.Prelude.{◌+◌, ◌==◌, ℕ, if◌then◌else◌, Option, Some, None, List, [], ◌∷◌, codes, get_or, map, option_and_then, slice_get, sum_by, unwrap_or}
use Rattle.std.specs.List.{range_with_len, zip}
use Rattle.id_arena.specs.declared.keys.NetId.{NetId}
use Rattle.id_arena.specs.Names.{place_among}
use Rattle.design_core.specs.declared.parts.NetName.{NetName}
use Rattle.cell_parts.specs.declared.pins.Pin.{Pin}

-- a pin with the nets that are connected to it, if it is connected
pub record TiedPin : Type 0 where
  pub pin : Pin
  pub tie : Option (List NetId)

-- pins with what is connected to each, in their order
abbrev pub tied_by : List Pin → List (Option (List NetId)) → List TiedPin
tied_by pins ties = map (λ (pin, tie). record { pin = pin; tie = tie }) (zip pins ties)

-- the net that has a number
abbrev pub net_numbered : ℕ → NetId
net_numbered place = record { place = place }

-- how many new nets a pin gets: as many as it is wide, where it is not connected and needs them
abbrev pub new_width : TiedPin → ℕ
new_width tied = elim tied.tie [ Some nets ↦ 0 | None ↦ if tied.pin.needed then tied.pin.width else 0 ]

-- the nets of a pin whose new nets begin at a number
abbrev pub nets_from : ℕ → TiedPin → List NetId
nets_from next tied = elim tied.tie [ Some nets ↦ nets | None ↦ map net_numbered (range_with_len next (new_width tied)) ]

-- the nets of each pin, where new nets have the next numbers in the order of pins
abbrev pub nets_in_order : ℕ → List TiedPin → List (List NetId)
nets_in_order next [] = []
nets_in_order next (tied ∷ rest) = nets_from next tied ∷ nets_in_order (next + new_width tied) rest

-- the names of the bits of a net in a scope, where they have these indices
abbrev pub indexed_names : ℕ → List ℕ → List (Option ℕ) → List NetName
indexed_names scope name indices = map (λ index. record { scope = scope; name = name; index = index }) indices

-- a new net of a pin has the name of the pin, with an index where the pin is wide
abbrev pub new_indices : ℕ → List (Option ℕ)
new_indices width = if width == 1 then None ∷ [] else map Some (range_with_len 0 width)

-- the names of the new nets of a pin
abbrev pub new_names : ℕ → TiedPin → List NetName
new_names scope tied = indexed_names scope tied.pin.name (new_indices (new_width tied))

-- an inner net has the name `$`
abbrev pub inner_names : ℕ → ℕ → List NetName
inner_names scope count = map (λ k. record { scope = scope; name = codes "$"; index = None }) (range_with_len 0 count)

-- how many new nets some pins get together
abbrev pub new_count : List TiedPin → ℕ
new_count pins = sum_by new_width pins

-- the pins by name, each with its nets
pub record Wires : Type 0 where
  pub names : List (List ℕ)
  pub nets : List (List NetId)

-- the wires of pins in order, whose new nets begin at a number
abbrev pub wires_of : ℕ → List TiedPin → Wires
wires_of next pins = record { names = map (λ tied. tied.pin.name) pins; nets = nets_in_order next pins }

-- the nets of a pin, from bit 0 on
abbrev pub nets_at : Wires → List ℕ → List NetId
nets_at w name = unwrap_or (option_and_then (λ place. slice_get w.nets place) (place_among w.names name)) []

-- the net of a pin of one bit
abbrev pub pin_at : Wires → List ℕ → NetId
pin_at w name = get_or (nets_at w name) 0 (net_numbered 0)
