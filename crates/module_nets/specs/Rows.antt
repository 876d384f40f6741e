-- Inside: the rows of nets, made of what was seen of their names.
use Rattle.std.specs.Prelude.{◌+◌, ◌≡◌, ◌≤◌, ℕ, Option, None, List, [], ◌∷◌, ◌++◌, Result, Ok, Err, length, slice_get, take, unwrap_or}
use Rattle.verilog_lex.specs.declared.token.Token.{Token}
use Rattle.module_nets.specs.declared.fault.NetFault.{NetFault}
use Rattle.module_nets.specs.declared.fault.NetFault.TheVariants.{Refused, NoMemory}
use Rattle.module_nets.specs.declared.mention.Class.TheVariants.{Head, Other, Use, Own}
use Rattle.module_nets.specs.declared.mention.Mention.{Mention}
use Rattle.module_nets.specs.declared.nets.Net.{Net}
use Rattle.module_nets.specs.declared.seen.Seen.{Seen}
use Rattle.module_nets.specs.Declarations.{IsFaultless, IsFirstFault, named, net_names, width_of}
use Rattle.module_nets.specs.Names.{Name, first_uses, text_of}
use Rattle.module_nets.specs.Nets.{counted_in}
use Rattle.module_nets.specs.declared.table.Table.{Table}
use Rattle.verilog_tree.specs.declared.source.Module.{Module}
use Rattle.module_nets.specs.Surveys.{AreSeen}

-- the net of a name that was seen so, with this first number
abbrev pub net_from : ℕ → Seen → Net
net_from first s = record { dir = s.dir; range = unwrap_or s.range None; first = first }

abbrev pub rows_from : ℕ → List Seen → List Net
rows_from first [] = []
rows_from first (s ∷ rest) = net_from first s ∷ rows_from (first + width_of (unwrap_or s.range None)) rest

-- all names of these mentions: of ports, of other nets, of uses, and of what is no net
abbrev pub all_names : (ℕ → Name) → List Mention → List Name
all_names text ms = first_uses (named text Head ms ++ (named text Other ms ++ (named text Use ms ++ named text Own ms)))

-- what these names are seen as in mentions without faults; or the first fault
abbrev pub Judges : List ℕ → List Token → List Name → List Mention → Result (List Seen) NetFault → Type 0
Judges source tokens names ms (Ok seen) = IsFaultless (text_of source tokens) ms × AreSeen (text_of source tokens) names ms seen
Judges source tokens names ms (Err (Refused cause at)) = IsFirstFault tokens (text_of source tokens) ms cause at
Judges source tokens names ms (Err NoMemory) = Unit {0}

-- the table of a module: the mentions that count, all their names, and before them those of the nets
pub record IsTable (source : List ℕ) (tokens : List Token) (m : Module) (t : Table) : Type 0 where
  pub mentions : t.mentions ≡ counted_in source tokens m
  pub names : t.names ≡ all_names (text_of source tokens) t.mentions
  pub front : take t.count t.names ≡ net_names (text_of source tokens) t.mentions
  pub within : t.count ≤ length t.names
