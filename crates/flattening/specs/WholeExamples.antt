-- Whole texts flattened, by which a misreading of numbers, scopes or the order of faults would show.
-- The rule is told in docs/FORMATS.md, "Expansion", "Names and paths" and "Faults of flattening".
use Rattle.std.specs.Prelude.{◌≡◌, ℕ, true, false, Some, None, List, [], ◌∷◌, Ok, Err, codes}
use Rattle.verilog_lex.specs.declared.token.Token.{Token}
use Rattle.verilog_lex.specs.declared.token.TokenKind.TheVariants as kind
use Rattle.verilog_tree.specs.declared.source.Item.TheVariants as item
use Rattle.verilog_tree.specs.declared.source.Links.TheVariants as links
use Rattle.verilog_tree.specs.declared.source.Module.{Module}
use Rattle.design_core.specs.declared.element.Element.{Element}
use Rattle.design_core.specs.declared.element.Element.TheVariants as element
use Rattle.design_core.specs.declared.operation.Op.TheVariants as op
use Rattle.design_core.specs.declared.parts.NetName.{NetName}
use Rattle.design_core.specs.declared.parts.Parts.{Parts}
use Rattle.module_bits.specs.Bits.{net_at}
use Rattle.flattening.specs.declared.fault.ElabFault.TheVariants.{NoTop, Recursive}
use Rattle.flattening.specs.Flattening.{flattened}
use Rattle.flattening.specs.Places.{Given}

-- a name from one byte up to another
abbrev pub named : ℕ → ℕ → Token
named start end = record { kind = kind.Name; start = start; end = end; implicit = true }

-- a reserved word by its place among all
abbrev pub word : ℕ → ℕ → ℕ → Token
word place start end = record { kind = kind.Keyword place; start = start; end = end; implicit = true }

-- a mark, which no rule reads here
abbrev pub mark : ℕ → ℕ → Token
mark byte start = record { kind = kind.Mark byte; start = start; end = start; implicit = true }

-- the tokens of the text below
abbrev pub nest_tokens : List Token
nest_tokens =
    word 57 0 6 ∷ named 7 8 ∷ mark 59 8 ∷ word 98 10 17 ∷ named 18 19 ∷ mark 59 19 ∷ word 26 21 30
    ∷ word 57 31 37 ∷ named 38 39 ∷ mark 59 39 ∷ word 97 41 48 ∷ mark 91 49 ∷ mark 48 50 ∷ mark 58 51 ∷ mark 49 52 ∷ mark 93 53
    ∷ named 55 56 ∷ mark 59 56 ∷ named 58 59 ∷ named 60 61 ∷ mark 40 61 ∷ mark 41 62 ∷ mark 59 63 ∷ word 26 65 74 ∷ []

-- the inner module: a supply net
abbrev pub inner_module : Module
inner_module = record { name = 1; ports = []; items = item.Supply 3 true None (4 ∷ []) ∷ [] }

-- the outer module, with an instance of the inner one
abbrev pub outer_module : Module
outer_module =
    record {
      name = 8;
      ports = [];
      items =
          item.Supply 10 false (Some (record { left = 0; right = 1 })) (16 ∷ [])
          ∷ item.Instances 18 (record { name = 19; links = links.Empty } ∷ [])
          ∷ [];
    }

-- the text with these tokens and modules, and no cell
unfoldable pub nest : Given
nest =
    record {
      source = codes "module h; supply1 a; endmodule module t; supply0 [0:1] b; h u(); endmodule";
      tokens = nest_tokens;
      modules = inner_module ∷ outer_module ∷ [];
      cells = [];
    }

-- a net without range in a scope
abbrev pub scalar : ℕ → List ℕ → NetName
scalar scope name = record { scope = scope; name = name; index = None }

-- a bit of a vector of the top
abbrev pub bit_of : List ℕ → ℕ → NetName
bit_of name index = record { scope = 0; name = name; index = Some index }

-- a `buf`
abbrev pub buffer : ℕ → ℕ → Element
buffer from to = element.Gate op.Buf (net_at from ∷ []) (net_at to)

-- `b[1]` is net 2 and `b[0]` is net 3, both driven from net 0; then `u` has scope 1, and its net `a` is net 4, driven from net 1
unfoldable pub nest_parts : Parts
nest_parts =
    record {
      net_names = scalar 0 (codes "1'b0") ∷ scalar 0 (codes "1'b1") ∷ bit_of (codes "b") 1 ∷ bit_of (codes "b") 0 ∷ scalar 1 (codes "a") ∷ [];
      scopes = record { parent = None; name = codes "t" } ∷ record { parent = Some 0; name = codes "u" } ∷ [];
      elements = buffer 0 2 ∷ buffer 0 3 ∷ buffer 1 4 ∷ [];
      paths = 0 ∷ 0 ∷ 1 ∷ [];
      memories = [];
      inputs = [];
      outputs = [];
    }

-- so it is flattened
abbrev pub NestIsFlat : Type 0
NestIsFlat = flattened nest (codes "t") ≡ Ok nest_parts

-- no module has the name `u`
abbrev pub NestHasNoSuchTop : Type 0
NestHasNoSuchTop = flattened nest (codes "u") ≡ Err NoTop

-- a module with an instance of itself, in place of both
abbrev pub recursive_module : Module
recursive_module = record { name = 8; ports = []; items = item.Instances 8 (record { name = 19; links = links.Empty } ∷ []) ∷ [] }

-- the same text with this module alone
unfoldable pub loop : Given
loop =
    record { source = codes "module h; supply1 a; endmodule module t; supply0 [0:1] b; h u(); endmodule"; tokens = nest_tokens; modules = recursive_module ∷ []; cells = [] }

-- it is recursive, at the name of the module
abbrev pub LoopIsRecursive : Type 0
LoopIsRecursive = flattened loop (codes "t") ≡ Err (Recursive 38)

-- all of them
abbrev pub WholeExamplesHold : Type 0
WholeExamplesHold = NestIsFlat × NestHasNoSuchTop × LoopIsRecursive
