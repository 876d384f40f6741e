-- The connections of an instance to the ports of its module or the pins of its cell.
-- The rule is told in docs/FORMATS.md, "Expansion" and "Faults of flattening".
use Rattle.std.specs.Prelude.{◌==◌, ℕ, if◌then◌else◌, Option, Some, None, List, [], ◌∷◌, ◌++◌, bytes_eq, flat_map, find, length, map, option_and_then, option_map, slice_get, take}
use Rattle.std.specs.List.{enumerate_from, zip}
use Rattle.id_arena.specs.declared.keys.NetId.{NetId}
use Rattle.verilog_tree.specs.declared.source.Expr.{Expr}
use Rattle.verilog_tree.specs.declared.source.Inst.{Inst}
use Rattle.verilog_tree.specs.declared.source.Links.{Links}
use Rattle.verilog_tree.specs.declared.source.Links.TheVariants.{Empty, Ordered, Named}
use Rattle.verilog_tree.specs.declared.source.Module.{Module}
use Rattle.verilog_tree.specs.declared.source.NamedLink.{NamedLink}
use Rattle.module_nets.specs.Declarations.{width_of}
use Rattle.module_nets.specs.Names.{Name, is_among}
use Rattle.module_bits.specs.declared.ports.PortShape.{PortShape}
use Rattle.module_bits.specs.Ports.{shapes_of}
use Rattle.flattening.specs.declared.fault.ElabFault.TheVariants as fault
use Rattle.flattening.specs.Faults.{bits_here, expression_test}
use Rattle.flattening.specs.Places.{Given, Inside, name_in, start_in}
use Rattle.flattening.specs.Steps.{Test}

-- what an instance may connect, a port or a pin: its name, and its width where it has one
pub record Socket : Type 0 where
  pub name : Name
  pub width : Option ℕ

-- a port has the width of its first direction, if it has one
abbrev pub port_socket : Given → PortShape → Socket
port_socket g shape = record { name = name_in g shape.name; width = option_map (λ d. width_of d.range) shape.given }

-- the ports of a module, in the order of its header; a name that stands there twice is two places
abbrev pub port_sockets : Given → Module → List Socket
port_sockets g m = map (port_socket g) (shapes_of (name_in g) m)

-- the names of ports or pins
abbrev pub socket_names : List Socket → List Name
socket_names sockets = map (λ socket. socket.name) sockets

-- how many connections by order there must be
abbrev pub count_test : ℕ → List Socket → List (Option Expr) → Test
count_test at sockets places = if length places == length sockets then None else Some (fault.PortCount at)

-- a connection by name must be to a port or pin
abbrev pub no_port_test : Given → List Socket → NamedLink → Test
no_port_test g sockets link =
    if is_among (socket_names sockets) (name_in g link.port) then None else Some (fault.NoPort (start_in g link.port))

-- nor may it be to one that an earlier one named, even with nothing in its parentheses
abbrev pub port_twice_test : Given → List NamedLink → NamedLink → Test
port_twice_test g earlier link =
    if is_among (map (λ other. name_in g other.port) earlier) (name_in g link.port) then Some (fault.PortTwice (start_in g link.port)) else None

-- both tests for each connection by name, from the left
abbrev pub link_tests : Given → List Socket → List NamedLink → List Test
link_tests g sockets links =
    flat_map (λ (k, link). no_port_test g sockets link ∷ port_twice_test g (take k links) link ∷ []) (enumerate_from 0 links)

-- first what the connections are to; nothing at all between the parentheses fits everything
abbrev pub target_tests : Given → List Socket → Inst → List Test
target_tests g sockets inst =
    elim inst.links [
      | Empty ↦ []
      | Ordered places ↦ count_test (start_in g inst.name) sockets places ∷ []
      | Named links ↦ link_tests g sockets links
    ]

-- then the expressions, from the left; an empty place has none
abbrev pub place_tests : Given → Inside → Option ℕ → Option Expr → List Test
place_tests g here asked None = []
place_tests g here asked (Some e) = expression_test g here asked e ∷ []

-- a name means the first port that has it
abbrev pub socket_named : List Socket → Name → Option Socket
socket_named sockets name = find (λ socket. bytes_eq name socket.name) sockets

-- the width of that port
abbrev pub width_named : List Socket → Name → Option ℕ
width_named sockets name = option_and_then (λ socket. socket.width) (socket_named sockets name)

-- the expressions of all connections, each with the width of its port or pin
abbrev pub value_tests : Given → Inside → List Socket → Links → List Test
value_tests g here sockets Empty = []
value_tests g here sockets (Ordered places) =
    flat_map (λ (socket, place). place_tests g here socket.width place) (zip sockets places)
value_tests g here sockets (Named links) =
    flat_map (λ link. place_tests g here (width_named sockets (name_in g link.port)) link.expr) links

-- all tests of the connections of an instance
abbrev pub connection_tests : Given → Inside → List Socket → Inst → List Test
connection_tests g here sockets inst = target_tests g sockets inst ++ value_tests g here sockets inst.links

-- the connection that has a name
abbrev pub link_named : Given → List NamedLink → Name → Option NamedLink
link_named g links name = find (λ link. bytes_eq name (name_in g link.port)) links

-- the expression at a place: by order the one at the same place, by name the one with its name
abbrev pub connected : Given → Links → ℕ → Name → Option Expr
connected g Empty k name = None
connected g (Ordered places) k name = option_and_then (λ place. place) (slice_get places k)
connected g (Named links) k name = option_and_then (λ link. link.expr) (link_named g links name)

-- the nets that are connected to each port or pin, in order, from bit 0 on
abbrev pub ties : Given → Inside → Links → List Socket → List (Option (List NetId))
ties g here links sockets =
    map (λ (k, socket). option_map (bits_here g here) (connected g links k socket.name)) (enumerate_from 0 sockets)
