-- The nets of a module, or the first fault of its declarations.
-- The rule is told in docs/FORMATS.md, "Names and widths" and "Faults of flattening".
use Rattle.std.specs.Prelude.{◌≡◌, ◌≤◌, ◌<◌, ℕ, Option, Some, None, List, Result, Ok, Err, length, slice_get, take}
use Rattle.std.specs.List.{sum_by}
use Rattle.verilog_lex.specs.declared.token.Token.{Token}
use Rattle.verilog_tree.specs.declared.source.Module.{Module}
use Rattle.module_nets.specs.declared.fault.NetFault.{NetFault}
use Rattle.module_nets.specs.declared.fault.NetFault.TheVariants.{Refused, NoMemory}
use Rattle.module_nets.specs.declared.mention.Mention.{Mention}
use Rattle.module_nets.specs.declared.nets.Net.{Net}
use Rattle.module_nets.specs.Declarations.{IsFaultless, IsFirstFault, counted, dir_in, first_given, net_names, range_of, width_of}
use Rattle.module_nets.specs.Mentions.{mentions}
use Rattle.module_nets.specs.Names.{Name, is_implicit, text_of}

-- the nets of a module in the order of their numbers: the name of each, and what is known of it
pub record Nets : Type 0 where
  pub names : List Name
  pub rows : List Net

-- a net is this: it has the direction that its mentions give, if any does, their range, and as its first number the sum of
-- the widths of all nets before it
pub record IsNet (text : ℕ → Name) (ms : List Mention) (rows : List Net) (k : ℕ) (name : Name) (net : Net) : Type 0 where
  pub dir : net.dir ≡ first_given text dir_in ms name
  pub range : net.range ≡ range_of text ms name
  pub first : net.first ≡ sum_by (λ n. width_of n.range) (take k rows)

-- these are the nets of the mentions that count
pub record AreNets (text : ℕ → Name) (ms : List Mention) (nets : Nets) : Type 0 where
  pub names : nets.names ≡ net_names text ms
  pub sized : length nets.rows ≡ length nets.names
  pub each : (k : ℕ) (name : Name) (net : Net) → slice_get nets.names k ≡ Some name → slice_get nets.rows k ≡ Some net → IsNet text ms nets.rows k name net

-- the mentions of a module that count
abbrev pub counted_in : List ℕ → List Token → Module → List Mention
counted_in source tokens m = counted (text_of source tokens) (is_implicit tokens) (mentions m)

-- the nets of a module none of whose declarations has a fault; or the first fault of them, with its byte
abbrev pub Answers : List ℕ → List Token → Module → Result Nets NetFault → Type 0
Answers source tokens m (Ok nets) =
    IsFaultless (text_of source tokens) (counted_in source tokens m) × AreNets (text_of source tokens) (counted_in source tokens m) nets
Answers source tokens m (Err (Refused cause at)) = IsFirstFault tokens (text_of source tokens) (counted_in source tokens m) cause at
Answers source tokens m (Err NoMemory) = Unit {0}
