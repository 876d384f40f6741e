-- Inside: what the program has tied of connections, one after another.
use Rattle.std.specs.Prelude.{◌≡◌, ◌<◌, ◌≤◌, ℕ, Option, Some, None, List, Result, drop, flat_map, get_or, length, option_and_then, option_map}
use Rattle.std.specs.List.{zip}
use Rattle.id_arena.specs.declared.keys.NetId.{NetId}
use Rattle.module_nets.specs.Names.{Name}
use Rattle.verilog_tree.specs.declared.source.Expr.{Expr}
use Rattle.verilog_tree.specs.declared.source.Links.{Links}
use Rattle.verilog_tree.specs.declared.source.NamedLink.{NamedLink}
use Rattle.flattening.specs.declared.fault.ElabFault.{ElabFault}
use Rattle.flattening.specs.Faults.{bits_here}
use Rattle.flattening.specs.Links.{Socket, link_named, place_tests, ties, value_tests, width_named}
use Rattle.flattening.specs.Places.{Given, Inside, name_in}
use Rattle.flattening.specs.Steps.{Test, first_fault}
use Rattle.elaborator.specs.Outcomes.{Finds}
use Rattle.elaborator.specs.Sockets.{first_place_at, place_named}

-- what is tied to each port or pin, in order: nets, or none
abbrev pub Tied : Type 0
Tied = List (Option (List NetId))

-- the answer to connections: what they tie, or the first fault of their expressions
abbrev pub TellsTies : Given → Inside → List Socket → Links → Result Tied ElabFault → Type 0
TellsTies g here sockets links result = Finds (first_fault (value_tests g here sockets links)) (ties g here links sockets) result

-- the nets that connections by name connect to a name
abbrev pub tie_named : Given → Inside → List NamedLink → Name → Option (List NetId)
tie_named g here links name = option_map (bits_here g here) (option_and_then (λ link. link.expr) (link_named g links name))

-- the first port or pin of each name is tied as connections by name tell
pub record AreTied (g : Given) (here : Inside) (sockets : List Socket) (links : List NamedLink) (tied : Tied) : Type 0 where
  pub sized : length tied ≡ length sockets
  pub each : (name : Name) (k : ℕ) → place_named sockets name ≡ Some k → get_or tied k None ≡ tie_named g here links name

-- each port or pin before a place is tied as the first of its name was, and all others are as they were
pub record Shares (sockets : List Socket) (i : ℕ) (old new : Tied) : Type 0 where
  pub sized : length new ≡ length old
  pub done : (k first : ℕ) → k < i → first_place_at sockets k ≡ Some first → get_or new k None ≡ get_or old first None
  pub left : (k : ℕ) → i ≤ k → get_or new k None ≡ get_or old k None

-- the fault of expressions by order from a place on
abbrev pub ordered_from : Given → Inside → List Socket → List (Option Expr) → ℕ → Test
ordered_from g here sockets places i =
    first_fault (flat_map (λ (socket, place). place_tests g here socket.width place) (zip (drop i sockets) (drop i places)))

-- the fault of expressions by name from a place on
abbrev pub named_from : Given → Inside → List Socket → List NamedLink → ℕ → Test
named_from g here sockets links i =
    first_fault (flat_map (λ link. place_tests g here (width_named sockets (name_in g link.port)) link.expr) (drop i links))
