-- The home of each net of a placed design, and the chips that read it.
-- The rules are told in docs/RULES.md, "Homes and readers".
use Rattle.std.specs.Prelude.{ℕ, Bool, false, ◌==◌, ◌&&◌, ◌||◌, List, [], Option, Some, None, length, option_map, position, slice_get, slice_index_or, unwrap_or}
use Rattle.std.specs.List.{list_any, range_with_len}
use Rattle.id_arena.specs.declared.keys.ChipId.{ChipId}
use Rattle.id_arena.specs.declared.keys.NetId.{NetId}
use Rattle.design_core.specs.declared.element.Driver.{Driver}
use Rattle.design_core.specs.declared.element.Driver.TheVariants.{Constant, Input, Elem, Read}
use Rattle.design_core.specs.declared.element.Element.{Element}
use Rattle.design_core.specs.declared.element.Element.TheVariants as element
use Rattle.design_core.specs.declared.parts.Parts.{Parts}
use Rattle.design_core.specs.Design.{driver, includes, is_memory, element_reads, memory_reads, net_count}

-- the elements of a design, by number
abbrev pub elements : Parts → List ℕ
elements p = range_with_len 0 (length p.elements)

-- the nets of a design, by number
abbrev pub nets : Parts → List ℕ
nets p = range_with_len 0 (net_count p)

-- the chip of an element, by its number
abbrev pub chip_at : List ChipId → ℕ → ℕ
chip_at chips k = (slice_index_or chips k (record { place = 0 })).place

-- the element that is named as what drives a net: for a bit of a read port the memory; constants and inputs
-- are driven by none
abbrev pub source_of : Parts → Driver → Option ℕ
source_of p (Constant b) = None
source_of p Input = None
source_of p (Elem e) = Some e.place
source_of p (Read m port bit) = position (is_memory m.place) p.elements

-- the element that drives a net
abbrev pub source : Parts → ℕ → Option ℕ
source p n = source_of p (driver p n)

-- the home of a net: the chip of the element that drives it
abbrev pub home : Parts → List ChipId → ℕ → Option ℕ
home p chips n = option_map (chip_at chips) (source p n)

-- the nets at the pins that an element reads, for a memory those of all its ports
abbrev pub pins : Parts → Element → List NetId
pins p (element.Memory m) = unwrap_or (option_map memory_reads (slice_get p.memories m.place)) []
pins p other = element_reads other

-- those of the element of a number
abbrev pub pins_at : Parts → ℕ → List NetId
pins_at p k = unwrap_or (option_map (pins p) (slice_get p.elements k)) []

-- whether an element reads a net through any pin
abbrev pub reads : Parts → ℕ → ℕ → Bool
reads p n k = includes (pins_at p k) n

-- whether a chip is a reader of a net: an element on it reads the net
abbrev pub is_reader : Parts → List ChipId → ℕ → ℕ → Bool
is_reader p chips n c = list_any (λ k. (chip_at chips k == c) && reads p n k) (elements p)

-- whether an element drives a net
abbrev pub is_source : Option ℕ → ℕ → Bool
is_source None k = false
is_source (Some h) k = h == k

-- whether an element drives or reads a net
abbrev pub touches : Parts → ℕ → ℕ → Bool
touches p n k = is_source (source p n) k || reads p n k
