-- Inside: how the program keeps ports or pins, so that each is found by its name.
use Rattle.std.specs.Prelude.{◌==◌, ◌≡◌, ℕ, if◌then◌else◌, Option, Some, List, [], ◌∷◌, ◌++◌, get_or, length, map, option_and_then, option_map, slice_get}
use Rattle.id_arena.specs.Names.{place_among}
use Rattle.module_nets.specs.Names.{Name}
use Rattle.flattening.specs.Links.{Socket, socket_names}
use Rattle.elaborator.specs.declared.sockets.Row.{Row}

-- the port or pin of a row, whose name stands at a place among the names
abbrev pub socket_of : List Name → Row → Socket
socket_of names row = record { name = get_or names row.name []; width = row.width }

-- those of all rows
abbrev pub sockets_of : List Name → List Row → List Socket
sockets_of names rows = map (socket_of names) rows

-- the place of the first port or pin of a name
abbrev pub place_named : List Socket → Name → Option ℕ
place_named sockets name = place_among (socket_names sockets) name

-- each name leads to the first port or pin that has it, and a row has its name's only place
pub record AreSockets (names : List Name) (firsts : List ℕ) (rows : List Row) : Type 0 where
  pub sized : length firsts ≡ length names
  pub found : (n : Name) → place_named (sockets_of names rows) n ≡ option_and_then (slice_get firsts) (place_among names n)
  pub placed : (k : ℕ) (row : Row) → slice_get rows k ≡ Some row → place_among names (get_or names row.name []) ≡ Some row.name

-- the first places of names, where the name at a place may be new
abbrev pub noted_first : List ℕ → ℕ → ℕ → List ℕ
noted_first firsts place first = if place == length firsts then firsts ++ first ∷ [] else firsts

-- the name of a port or pin, if there is one at a place
abbrev pub name_at : List Socket → ℕ → Option Name
name_at sockets k = option_map (λ socket. socket.name) (slice_get sockets k)

-- the width of a port or pin, if it has one
abbrev pub width_at : List Socket → ℕ → Option ℕ
width_at sockets k = option_and_then (λ socket. socket.width) (slice_get sockets k)

-- the place of the first port or pin that has the name of this one
abbrev pub first_place_at : List Socket → ℕ → Option ℕ
first_place_at sockets k = option_and_then (λ socket. place_named sockets socket.name) (slice_get sockets k)
