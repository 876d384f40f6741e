-- Inside: what the program has found of connections by name, one after another.
use Rattle.std.specs.Prelude.{◌≡◌, ℕ, Bool, false, true, if◌then◌else◌, Option, Some, None, List, [], ◌∷◌, drop, flat_map, get_or, length, map, nat_lt, slice_set, take}
use Rattle.std.specs.List.{enumerate_from}
use Rattle.module_nets.specs.Names.{Name, is_among}
use Rattle.verilog_tree.specs.declared.source.NamedLink.{NamedLink}
use Rattle.flattening.specs.declared.fault.ElabFault.TheVariants as fault
use Rattle.flattening.specs.Links.{Socket, no_port_test, port_twice_test}
use Rattle.flattening.specs.Places.{Given, name_in}
use Rattle.flattening.specs.Steps.{Test, first_fault}
use Rattle.elaborator.specs.Sockets.{place_named}

-- the names of the ports or pins to which connections are
abbrev pub link_names : Given → List NamedLink → List Name
link_names g links = map (λ link. name_in g link.port) links

-- the fault of the connections from a place on, all of which are these
abbrev pub targets_from : Given → List Socket → List NamedLink → ℕ → Test
targets_from g sockets links i =
    first_fault (
    flat_map (λ (k, link). no_port_test g sockets link ∷ port_twice_test g (take k links) link ∷ [])
    (enumerate_from i (drop i links)))

-- the marks of ports and pins tell which were named
pub record AreMarked (sockets : List Socket) (names : List Name) (seen : List Bool) : Type 0 where
  pub sized : length seen ≡ length sockets
  pub each : (name : Name) (k : ℕ) → place_named sockets name ≡ Some k → get_or seen k false ≡ is_among names name

-- the fault of a connection at a byte to the port or pin at a place, where these were named before it
abbrev pub target_fault_at : List Bool → Option ℕ → ℕ → Test
target_fault_at seen None at = Some (fault.NoPort at)
target_fault_at seen (Some k) at = if get_or seen k false then Some (fault.PortTwice at) else None

-- the marks after the port or pin at a place was named
abbrev pub marked : List Bool → Option ℕ → List Bool
marked seen None = seen
marked seen (Some k) = if nat_lt k (length seen) then slice_set seen k true else seen
