-- The design as plain lists: its nets and what drives each of them.
-- The rule is told in docs/RULES.md, "Values and valuations".
use Rattle.std.specs.Prelude.{◌≡◌, ◌<◌, ◌≤◌, ◌+◌, ◌^◌, ℕ, ◌==◌, ◌&&◌, nat_le, nat_lt, Bool, true, false, if◌then◌else◌, Option, List, [], ◌∷◌, ◌++◌, map, length, position, find, count_by, flat_map, unwrap_or, option_map, option_to_list, IsTrue}
use Rattle.std.specs.List.{list_any, list_all, enumerate_from}
use Rattle.std.specs.Option.{option_or}
use Rattle.id_arena.specs.declared.keys.NetId.{NetId}
use Rattle.design_core.specs.declared.operation.Op.{Op}
use Rattle.design_core.specs.declared.operation.Op.TheVariants.{Buf, Not, Table}
use Rattle.design_core.specs.declared.element.Edge.{Edge}
use Rattle.design_core.specs.declared.element.Level.{Level}
use Rattle.design_core.specs.declared.element.Element.{Element}
use Rattle.design_core.specs.declared.element.Element.TheVariants as element
use Rattle.design_core.specs.declared.element.Memory.{Memory}
use Rattle.design_core.specs.declared.element.ReadPort.{ReadPort}
use Rattle.design_core.specs.declared.element.WritePort.{WritePort}
use Rattle.design_core.specs.declared.element.Driver.{Driver}
use Rattle.design_core.specs.declared.element.Driver.TheVariants.{Constant, Input, Elem, Read}
use Rattle.design_core.specs.declared.parts.Parts.{Parts}
use Rattle.design_core.specs.declared.parts.Port.{Port}
use Rattle.design_core.specs.Most.{most_table_inputs, most_address_bits, most_width, most_ports}

abbrev pub net_count : Parts → ℕ
net_count p = length p.net_names

-- whether a net has this number
abbrev pub is_net : ℕ → NetId → Bool
is_net n m = m.place == n

-- whether the net of this number is among these
abbrev pub includes : List NetId → ℕ → Bool
includes nets n = list_any (is_net n) nets

-- the nets of some ports, port by port and from bit 0
abbrev pub port_bits : List Port → List NetId
port_bits ports = flat_map (λ port. port.nets) ports

-- whether this net is the output of the element; a memory drives nets through its read ports alone
abbrev pub drives : ℕ → Element → Bool
drives n (element.Gate op inputs output) = is_net n output
drives n (element.Flop f) = is_net n f.q
drives n (element.Latch l) = is_net n l.q
drives n (element.Memory m) = false

-- a net that a read port drives, with the place of the bit
pub record ReadBit : Type 0 where
  pub net : ℕ
  pub mem : ℕ
  pub port : ℕ
  pub bit : ℕ

-- every bit of every read port
abbrev pub port_read_bits : ℕ → ℕ → ReadPort → List ReadBit
port_read_bits m r port = map (λ (b, n). record { net = n.place; mem = m; port = r; bit = b }) (enumerate_from 0 port.bits)

abbrev pub memory_read_bits : ℕ → Memory → List ReadBit
memory_read_bits m memory = flat_map (λ (r, port). port_read_bits m r port) (enumerate_from 0 memory.reads)

abbrev pub read_bits : Parts → List ReadBit
read_bits p = flat_map (λ (m, memory). memory_read_bits m memory) (enumerate_from 0 p.memories)

abbrev pub read_driver : ReadBit → Driver
read_driver b = Read (record { place = b.mem }) b.port b.bit

abbrev pub element_driver : ℕ → Driver
element_driver k = Elem (record { place = k })

-- what drives a net besides constants and inputs, if anything does
abbrev pub inner_driver : Parts → ℕ → Option Driver
inner_driver p n =
    option_or
    (option_map element_driver (position (drives n) p.elements))
    (option_map read_driver (find (λ b. b.net == n) (read_bits p)))

-- what drives a net: nets 0 and 1 are the constants, and a net that nothing drives is the constant 0
abbrev pub driver : Parts → ℕ → Driver
driver p n =
    if n == 0 then Constant false
    else if n == 1 then Constant true
    else if includes (port_bits p.inputs) n then Input
    else unwrap_or (inner_driver p n) (Constant false)

-- how many things drive a net
abbrev pub driver_count : Parts → ℕ → ℕ
driver_count p n =
    (if nat_lt n 2 then 1 else 0)
    + count_by (is_net n) (port_bits p.inputs)
    + count_by (drives n) p.elements
    + count_by (λ b. b.net == n) (read_bits p)

-- the nets that reset pins name
abbrev pub reset_nets : Option Level → Option Level → List NetId
reset_nets clear preset = map (λ l. l.net) (option_to_list clear ++ option_to_list preset)

abbrev pub write_reads : WritePort → List NetId
write_reads port = port.clock ∷ port.enable.net ∷ (port.address ++ port.feed)

-- the net of a read port's clock, where it has one
abbrev pub clock_nets : Option Edge → List NetId
clock_nets clock = map (λ edge. edge.net) (option_to_list clock)

-- the nets that a read port reads: its clock, then its address
abbrev pub read_reads : ReadPort → List NetId
read_reads port = clock_nets port.clock ++ port.address

-- the nets that a memory reads through its pins
abbrev pub memory_reads : Memory → List NetId
memory_reads memory = flat_map write_reads memory.writes ++ flat_map read_reads memory.reads

-- the nets that an element other than a memory reads through its pins
abbrev pub element_reads : Element → List NetId
element_reads (element.Gate op inputs output) = inputs
element_reads (element.Flop f) = f.clock ∷ f.feed ∷ reset_nets f.clear f.preset
element_reads (element.Latch l) = l.gate.net ∷ l.feed ∷ reset_nets l.clear l.preset
element_reads (element.Memory m) = []

-- the nets that an element or an output port reads
abbrev pub nets_read : Parts → List NetId
nets_read p =
    flat_map element_reads p.elements ++ flat_map memory_reads p.memories ++ port_bits p.outputs

-- Whether a gate has inputs as its word or its table asks for them: `buf` and `not` have one, other words
-- have some, and a table has no bit at or above 2 to the number of inputs. Too many are no matter here.
abbrev pub inputs_fit : Op → ℕ → Bool
inputs_fit Buf inputs = inputs == 1
inputs_fit Not inputs = inputs == 1
inputs_fit (Table table) inputs = nat_lt table (2 ^ (2 ^ inputs))
inputs_fit other inputs = nat_lt 0 inputs

-- the inputs fit, and those of a table are not too many, so that each row has a number
abbrev pub op_fits : Op → ℕ → Bool
op_fits (Table table) inputs = nat_le inputs most_table_inputs && inputs_fit (Table table) inputs
op_fits other inputs = inputs_fit other inputs

abbrev pub element_fits : Parts → Element → Bool
element_fits p (element.Gate op inputs output) = op_fits op (length inputs)
element_fits p (element.Memory m) = nat_lt m.place (length p.memories)
element_fits p other = true

-- the lists of a memory's ports have the lengths that its dimensions say, and the dimensions and the number of
-- ports are within the limits
abbrev pub memory_fits : Memory → Bool
memory_fits memory =
    nat_le memory.address_bits most_address_bits && nat_lt 0 memory.width && nat_le memory.width most_width
    && nat_le (length memory.writes + length memory.reads) most_ports
    && list_all (λ port. (length port.address == memory.address_bits) && (length port.feed == memory.width)) memory.writes
    && list_all (λ port. (length port.address == memory.address_bits) && (length port.bits == memory.width)) memory.reads

abbrev pub is_memory : ℕ → Element → Bool
is_memory n (element.Memory m) = m.place == n
is_memory n other = false

-- A design: each net that something drives is there, no net has two drivers, each net that is read has
-- one, each memory is one element, and the shapes of elements and memories fit.
pub record IsDesign (p : Parts) : Type 0 where
  pub constants : 2 ≤ net_count p
  pub in_range : (n : ℕ) → 0 < driver_count p n → n < net_count p
  pub one_driver : (n : ℕ) → n < net_count p → driver_count p n ≤ 1
  pub driven : (n : ℕ) → IsTrue (includes (nets_read p) n) → (n < net_count p) × (driver_count p n ≡ 1)
  pub one_element : (m : ℕ) → m < length p.memories → count_by (is_memory m) p.elements ≡ 1
  pub elements_fit : IsTrue (list_all (element_fits p) p.elements)
  pub memories_fit : IsTrue (list_all memory_fits p.memories)
