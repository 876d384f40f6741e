-- The places at which a module names its nets, instances and primitives, in the order of its text.
-- The rule is told in docs/FORMATS.md, "Names and widths".
use Rattle.std.specs.Prelude.{◌&&◌, ℕ, Bool, true, not, Option, Some, None, List, [], ◌∷◌, ◌++◌, flat_map, map}
use Rattle.verilog_lex.specs.declared.token.Token.{Token}
use Rattle.verilog_tree.specs.declared.source.AssignPair.{AssignPair}
use Rattle.verilog_tree.specs.declared.source.Dir.{Dir}
use Rattle.verilog_tree.specs.declared.source.Expr.{Expr, out-Expr}
use Rattle.verilog_tree.specs.declared.source.Expr.TheOpen.{Expr-F, Whole, Bit, Part, Constant, Join, Repeat}
use Rattle.verilog_tree.specs.declared.source.Expr.TheFolds.{fold-Expr}
use Rattle.verilog_tree.specs.declared.source.GatePart.{GatePart}
use Rattle.verilog_tree.specs.declared.source.IndexRange.{IndexRange}
use Rattle.verilog_tree.specs.declared.source.Inst.{Inst}
use Rattle.verilog_tree.specs.declared.source.Item.{Item}
use Rattle.verilog_tree.specs.declared.source.Item.TheVariants as item
use Rattle.verilog_tree.specs.declared.source.Links.{Links}
use Rattle.verilog_tree.specs.declared.source.Links.TheVariants.{Empty, Ordered, Named}
use Rattle.verilog_tree.specs.declared.source.Module.{Module}
use Rattle.verilog_tree.specs.declared.source.PortName.{PortName}
use Rattle.module_nets.specs.declared.mention.Mention.{Mention}
use Rattle.module_nets.specs.declared.mention.Role.{Role}
use Rattle.module_nets.specs.declared.mention.Role.TheVariants.{Bare, Headed, Directed, Wired, Supplied, Owned, Used}
use Rattle.module_nets.specs.Names.{Name, is_among, is_implicit, text_of}

abbrev pub mention : Role → ℕ → Mention
mention role token = record { token = token; role = role }

-- the names without a select in an expression, also within concatenations and repeats
abbrev pub uses_step : Expr-F (List Mention) → List Mention
uses_step (Whole name) = mention Used name ∷ []
uses_step (Bit name index) = []
uses_step (Part name left right) = []
uses_step (Constant number) = []
uses_step (Join parts) = flat_map (λ part. part) parts
uses_step (Repeat count parts) = flat_map (λ part. part) parts

abbrev pub uses : Expr → List Mention
uses = fold-Expr (List Mention) uses_step

-- an assignment makes a wire of a name that is its whole left side
abbrev pub pair_mentions : AssignPair → List Mention
pair_mentions pair = elim (out-Expr pair.left) [ Whole name ↦ mention Used name ∷ [] | Bit name index ↦ [] | Part name left right ↦ [] | Constant number ↦ [] | Join parts ↦ [] | Repeat count parts ↦ [] ]

-- a primitive: its name, if it has one, and its terminals
abbrev pub label_mention : Option ℕ → List Mention
label_mention None = []
label_mention (Some name) = mention Owned name ∷ []

abbrev pub prim_mentions : GatePart → List Mention
prim_mentions prim = label_mention prim.name ++ flat_map uses prim.terminals

-- an instance: its name and its connections
abbrev pub place_mentions : Option Expr → List Mention
place_mentions None = []
place_mentions (Some expr) = uses expr

abbrev pub links_mentions : Links → List Mention
links_mentions Empty = []
links_mentions (Ordered places) = flat_map place_mentions places
links_mentions (Named links) = flat_map (λ link. place_mentions link.expr) links

abbrev pub inst_mentions : Inst → List Mention
inst_mentions inst = mention Owned inst.name ∷ links_mentions inst.links

-- what an item names; the value of a wire and the right side of an assignment make no wires
abbrev pub item_mentions : Item → List Mention
item_mentions (item.Ports at dir range names) = map (mention (Directed dir range)) names
item_mentions (item.Nets at range nets) = map (λ net. mention (Wired range) net.name) nets
item_mentions (item.Supply at one range names) = map (mention (Supplied range)) names
item_mentions (item.Assign at pairs) = flat_map pair_mentions pairs
item_mentions (item.Gates at prims) = flat_map prim_mentions prims
item_mentions (item.Instances at insts) = flat_map inst_mentions insts

-- what a port of the header is named as
abbrev pub head_role : Option Dir → Option IndexRange → Role
head_role None range = Bare
head_role (Some dir) range = Headed dir range

abbrev pub head_mention : PortName → Mention
head_mention port = mention (head_role port.dir port.range) port.name

-- all that a module names: the header, then the items
abbrev pub mentions : Module → List Mention
mentions m = map head_mention m.ports ++ flat_map item_mentions m.items

-- which mentions are looked at: all but some uses
pub record Sieve : Type 0 where
  pub source : List ℕ
  pub tokens : List Token
  pub declared : List Name
  pub uses : Bool

-- a use counts where an undeclared name becomes a wire and the name is not declared
abbrev pub counts_use : Sieve → ℕ → Bool
counts_use s token = s.uses && is_implicit s.tokens token && not (is_among s.declared (text_of s.source s.tokens token))

abbrev pub role_counts : Sieve → ℕ → Role → Bool
role_counts s token Used = counts_use s token
role_counts s token _ = true

abbrev pub is_kept : Sieve → Mention → Bool
is_kept s m = role_counts s m.token m.role
