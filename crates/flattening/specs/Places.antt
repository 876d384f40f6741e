-- The modules of a text, the nets of an instance of a module with their numbers and names, and what it stands within.
-- The rule is told in docs/FORMATS.md, "Names and widths", "Expansion" and "Names and paths".
use Rattle.std.specs.Prelude.{◌+◌, ◌-◌, ℕ, if◌then◌else◌, nat_lt, Option, Some, None, List, [], ◌∷◌, flat_map, length, map, option_and_then}
use Rattle.std.specs.List.{range_with_len, zip}
use Rattle.verilog_lex.specs.declared.token.Token.{Token}
use Rattle.id_arena.specs.declared.keys.NetId.{NetId}
use Rattle.verilog_tree.specs.declared.source.Dir.{Dir}
use Rattle.verilog_tree.specs.declared.source.IndexRange.{IndexRange}
use Rattle.verilog_tree.specs.declared.source.Module.{Module}
use Rattle.cell_parts.specs.Wires.{indexed_names}
use Rattle.cell_table.specs.declared.cell.Cell.{Cell}
use Rattle.design_core.specs.declared.parts.NetName.{NetName}
use Rattle.module_nets.specs.declared.mention.Mention.{Mention}
use Rattle.module_nets.specs.declared.nets.Net.{Net}
use Rattle.module_nets.specs.Declarations.{dir_in, first_given, net_names, range_of, width_of}
use Rattle.module_nets.specs.Names.{Name, start_of, text_of}
use Rattle.module_nets.specs.Nets.{Nets, counted_in}
use Rattle.module_bits.specs.Bits.{net_at}
use Rattle.module_bits.specs.Names.{Context, net_named}
use Rattle.flattening.specs.declared.made.Made.{Made}

-- what is given: the text, its tokens, the modules of its tree, and the cells
pub record Given : Type 0 where
  pub source : List ℕ
  pub tokens : List Token
  pub modules : List Module
  pub cells : List Cell

-- the name that a token is
abbrev pub name_in : Given → ℕ → Name
name_in g token = text_of g.source g.tokens token

-- the byte at which a token begins
abbrev pub start_in : Given → ℕ → ℕ
start_in g token = start_of g.tokens token

-- the names of the modules, in the order of the text
abbrev pub module_names : Given → List Name
module_names g = map (λ m. name_in g m.name) g.modules

-- the nets of these names, in the order of their numbers; the first of them has so many bits of the module before it
abbrev pub rows_from : (ℕ → Name) → List Mention → ℕ → List Name → List Net
rows_from text ms first [] = []
rows_from text ms first (name ∷ names) =
    record { dir = first_given text dir_in ms name; range = range_of text ms name; first = first }
    ∷ rows_from text ms (first + width_of (range_of text ms name)) names

-- the nets of mentions that count: their names in order, the first of them with no bit before it
abbrev pub nets_with : (ℕ → Name) → List Mention → Nets
nets_with text ms = record { names = net_names text ms; rows = rows_from text ms 0 (net_names text ms) }

-- the nets of a module: ports in the order of the header, other declared nets in the order of the text, wires in the
-- order of their first uses
abbrev pub nets_of : Given → Module → Nets
nets_of g m = nets_with (name_in g) (counted_in g.source g.tokens m)

-- an instance of a module: its scope, the number of its first net, the modules around it by their places in the text, its
-- own first, its module, and the nets of this
pub record Inside : Type 0 where
  pub scope : ℕ
  pub base : ℕ
  pub around : List ℕ
  pub module_of : Module
  pub nets : Nets

-- the instance that comes next: its scope and its nets have the next numbers
abbrev pub next_inside : Given → List ℕ → ℕ → Module → Made → Inside
next_inside g around place m made =
    record { scope = length made.scopes; base = length made.net_names; around = place ∷ around; module_of = m; nets = nets_of g m }

-- what the expressions of an instance are read in
abbrev pub context_of : Given → Inside → Context
context_of g here = record { source = g.source; tokens = g.tokens; nets = here.nets; base = here.base }

-- the index of a bit of a range: the index on the right is that of bit 0
abbrev pub index_at : IndexRange → ℕ → ℕ
index_at r bit = if nat_lt r.left r.right then r.right - bit else r.right + bit

-- the indices of the bits, from bit 0 on; a net without range has one bit and no index
abbrev pub indices : Option IndexRange → List (Option ℕ)
indices None = None ∷ []
indices (Some r) = map (λ bit. Some (index_at r bit)) (range_with_len 0 (width_of (Some r)))

-- the names of the bits of a net in a scope, from bit 0 on
abbrev pub bit_names : ℕ → Name → Option IndexRange → List NetName
bit_names scope name range = indexed_names scope name (indices range)

-- the names of all nets of an instance, in the order of their numbers
abbrev pub own_names : Inside → List NetName
own_names here = flat_map (λ (name, net). bit_names here.scope name net.range) (zip here.nets.names here.nets.rows)

-- the numbers of a net in an instance, from bit 0 on
abbrev pub net_numbers : Inside → Net → List NetId
net_numbers here net = map net_at (range_with_len (here.base + net.first) (width_of net.range))

-- the nets of a name; none where the module has no such net
abbrev pub named_bits : Inside → Name → List NetId
named_bits here name = elim (net_named here.nets name) [ None ↦ [] | Some net ↦ net_numbers here net ]

-- the direction of a port of this name in an instance
abbrev pub dir_named : Inside → Name → Option Dir
dir_named here name = option_and_then (λ net. net.dir) (net_named here.nets name)
