-- What a frame is planned for: a placed design on a board, and the influence of the frame's group. Homes
-- and readers of nets.
-- The rules are told in docs/RULES.md, "Homes and readers".
use Rattle.std.specs.Prelude.{◌≡◌, ℕ, Bool, List, Option, Some, None, option_map, option_and_then, position, slice_get, Contains}
use Rattle.id_arena.specs.declared.keys.ChipId.{ChipId}
use Rattle.id_arena.specs.declared.keys.MemId.{MemId}
use Rattle.id_arena.specs.declared.keys.NetId.{NetId}
use Rattle.id_arena.specs.BoardPlan.{BoardPlan}
use Rattle.design_core.specs.declared.element.Driver.{Driver}
use Rattle.design_core.specs.declared.element.Driver.TheVariants.{Constant, Input, Elem, Read}
use Rattle.design_core.specs.declared.element.Element.{Element}
use Rattle.design_core.specs.declared.element.Element.TheVariants as element
use Rattle.design_core.specs.declared.element.Memory.{Memory}
use Rattle.design_core.specs.declared.element.ReadPort.{ReadPort}
use Rattle.design_core.specs.declared.element.WritePort.{WritePort}
use Rattle.design_core.specs.declared.node.NodeId.{NodeId}
use Rattle.design_core.specs.declared.parts.Parts.{Parts}
use Rattle.design_core.specs.Design.{driver, is_memory, element_reads, write_reads, read_reads}

-- a design with its nodes in order of rank and then of node, a board, a chip for each element, the
-- influence of the frame's group, and for each net the chips that it is delivered to
pub record Setting : Type 0 where
  pub design : Parts
  pub order : List NodeId
  pub board : BoardPlan
  pub placement : List ChipId
  pub inside : NodeId → Bool
  pub routes : NetId → List ℕ

-- the chip of an element, by its number
abbrev pub chip_of : Setting → ℕ → Option ℕ
chip_of s e = option_map (λ chip. chip.place) (slice_get s.placement e)

-- the chip of the element that is a memory
abbrev pub memory_chip : Setting → MemId → Option ℕ
memory_chip s m = option_and_then (chip_of s) (position (is_memory m.place) s.design.elements)

-- the chip of what drives a net; inputs and constants have none
abbrev pub driver_home : Setting → Driver → Option ℕ
driver_home s (Constant b) = None
driver_home s Input = None
driver_home s (Elem e) = chip_of s e.place
driver_home s (Read m r b) = memory_chip s m

-- the home of a net
abbrev pub home : Setting → NetId → Option ℕ
home s n = driver_home s (driver s.design n.place)

-- an element reads a net through a pin: its own, or one of a port of its memory
pub data HasPin (p : Parts) (e : ℕ) (n : NetId) : Type 0 where
  pin : (is : Element) → slice_get p.elements e ≡ Some is → Contains (element_reads is) n → HasPin p e n
  write_pin : (m : MemId) (memory : Memory) (k : ℕ) (port : WritePort)
      → slice_get p.elements e ≡ Some (element.Memory m)
      → slice_get p.memories m.place ≡ Some memory
      → slice_get memory.writes k ≡ Some port
      → Contains (write_reads port) n
      → HasPin p e n
  read_pin : (m : MemId) (memory : Memory) (r : ℕ) (port : ReadPort)
      → slice_get p.elements e ≡ Some (element.Memory m)
      → slice_get p.memories m.place ≡ Some memory
      → slice_get memory.reads r ≡ Some port
      → Contains (read_reads port) n
      → HasPin p e n

-- a chip reads a net where an element on it does
pub record IsReader (s : Setting) (n : NetId) (chip : ℕ) : Type 0 where
  pub element : ℕ
  pub placed : chip_of s element ≡ Some chip
  pub reads : HasPin s.design element n
