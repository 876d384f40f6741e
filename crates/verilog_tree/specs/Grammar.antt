-- The grammar: which lists of terminals are which trees.
-- The rule is told in docs/FORMATS.md, "The grammar".
use Rattle.std.specs.Prelude.{◌≡◌, ℕ, ◌+◌, ◌≤◌, Bool, length, List, [], ◌∷◌, ◌++◌, Option, Some, None, slice_get}
use Rattle.verilog_tree.specs.declared.terminal.Terminal.{Terminal}
use Rattle.verilog_tree.specs.declared.terminal.Terminal.TheVariants.{Name, Number, Constant, Module, EndModule, Direction, Wire, Supply, Assign, Gate, OpenParen, CloseParen, OpenBracket, CloseBracket, OpenBrace, CloseBrace, Comma, Semicolon, Colon, Equals, Dot}
use Rattle.verilog_tree.specs.declared.source.IndexRange.{IndexRange}
use Rattle.verilog_tree.specs.declared.source.AssignPair.{AssignPair}
use Rattle.verilog_tree.specs.declared.source.Dir.{Dir}
use Rattle.verilog_tree.specs.declared.source.Expr.{Expr}
use Rattle.verilog_tree.specs.declared.source.Inst.{Inst}
use Rattle.verilog_tree.specs.declared.source.Item.{Item}
use Rattle.verilog_tree.specs.declared.source.Item.TheVariants as item
use Rattle.verilog_tree.specs.declared.source.Links.{Links}
use Rattle.verilog_tree.specs.declared.source.Links.TheVariants as links
use Rattle.verilog_tree.specs.declared.source.Module.{Module as ModuleTree}
use Rattle.verilog_tree.specs.declared.source.NamedLink.{NamedLink}
use Rattle.verilog_tree.specs.declared.source.NetPart.{NetPart}
use Rattle.verilog_tree.specs.declared.source.PortName.{PortName}
use Rattle.verilog_tree.specs.declared.source.GatePart.{GatePart}
use Rattle.verilog_tree.specs.declared.source.Source.{Source}
use Rattle.verilog_tree.specs.declared.source.Expr.TheVariants as expr

-- The grammar as relations over places in one list of terminals. Each says that its part of the
-- text begins at the first place and ends before the second. Each line of the grammar is a
-- constructor; in a tree, names and constants are places.

-- this terminal stands at place k
pub record Is (ts : List Terminal) (k : ℕ) (t : Terminal) (n : ℕ) : Type 0 where
  pub here : slice_get ts k ≡ Some t
  pub after : n ≡ k + 1

-- NUM, whose value the tree holds
abbrev pub IsNumber : List Terminal → ℕ → ℕ → ℕ → Type 0
IsNumber ts k n value = Is ts k (Number value) n

-- [ X ]
pub data Optional {A : Type 0} (X : ℕ → ℕ → A → Type 0) : ℕ → ℕ → Option A → Type 0 where
  absent : (k : ℕ) → Optional X k k None
  present : (k n : ℕ) (a : A) → X k n a → Optional X k n (Some a)

-- X { "," X }
pub data Commas {A : Type 0} (ts : List Terminal) (X : ℕ → ℕ → A → Type 0) : ℕ → ℕ → List A → Type 0 where
  first_item : (k n : ℕ) (a : A) → X k n a → Commas ts X k n (a ∷ [])
  more_items : (k a b n : ℕ) (x : A) (xs : List A) →
      X k a x → Is ts a Comma b → Commas ts X b n xs → Commas ts X k n (x ∷ xs)

-- range = "[" NUM ":" NUM "]"
pub data IsRange (ts : List Terminal) : ℕ → ℕ → IndexRange → Type 0 where
  range : (k a b c d n left right : ℕ) →
      Is ts k OpenBracket a → Is ts a (Number left) b → Is ts b Colon c →
      Is ts c (Number right) d → Is ts d CloseBracket n →
      IsRange ts k n (record { left = left; right = right })

-- NAME [ select ], with select = "[" NUM [ ":" NUM ] "]"
pub data IsNamed (ts : List Terminal) : ℕ → ℕ → Expr → Type 0 where
  whole : (k n : ℕ) → Is ts k Name n → IsNamed ts k n (expr.Whole k)
  bit : (k a b c n index : ℕ) →
      Is ts k Name a → Is ts a OpenBracket b → Is ts b (Number index) c →
      Is ts c CloseBracket n → IsNamed ts k n (expr.Bit k index)
  part : (k a b c d e n left right : ℕ) →
      Is ts k Name a → Is ts a OpenBracket b → Is ts b (Number left) c →
      Is ts c Colon d → Is ts d (Number right) e → Is ts e CloseBracket n →
      IsNamed ts k n (expr.Part k left right)

-- left = NAME [ select ] | "{" left { "," left } "}"
mutual
  pub data IsLeft (ts : List Terminal) : ℕ → ℕ → Expr → Type 0 where
    left_named : (k n : ℕ) (e : Expr) → IsNamed ts k n e → IsLeft ts k n e
    left_join : (k a b n : ℕ) (es : List Expr) →
        Is ts k OpenBrace a → IsLefts ts a b es → Is ts b CloseBrace n →
        IsLeft ts k n (expr.Join es)

  pub data IsLefts (ts : List Terminal) : ℕ → ℕ → List Expr → Type 0 where
    left_first : (k n : ℕ) (e : Expr) → IsLeft ts k n e → IsLefts ts k n (e ∷ [])
    more_lefts : (k a b n : ℕ) (e : Expr) (es : List Expr) →
        IsLeft ts k a e → Is ts a Comma b → IsLefts ts b n es → IsLefts ts k n (e ∷ es)

-- expr = NAME [ select ] | CONST | "{" expr { "," expr } "}"
--      | "{" NUM "{" expr { "," expr } "}" "}"
mutual
  pub data IsExpr (ts : List Terminal) : ℕ → ℕ → Expr → Type 0 where
    expr_named : (k n : ℕ) (e : Expr) → IsNamed ts k n e → IsExpr ts k n e
    expr_constant : (k n : ℕ) → Is ts k Constant n → IsExpr ts k n (expr.Constant k)
    expr_join : (k a b n : ℕ) (es : List Expr) →
        Is ts k OpenBrace a → IsParts ts a b es → Is ts b CloseBrace n →
        IsExpr ts k n (expr.Join es)
    expr_repeat : (k a b c d e n count : ℕ) (es : List Expr) →
        Is ts k OpenBrace a → Is ts a (Number count) b → Is ts b OpenBrace c →
        IsParts ts c d es → Is ts d CloseBrace e → Is ts e CloseBrace n →
        IsExpr ts k n (expr.Repeat count es)

  pub data IsParts (ts : List Terminal) : ℕ → ℕ → List Expr → Type 0 where
    part_first : (k n : ℕ) (e : Expr) → IsExpr ts k n e → IsParts ts k n (e ∷ [])
    more_parts : (k a b n : ℕ) (e : Expr) (es : List Expr) →
        IsExpr ts k a e → Is ts a Comma b → IsParts ts b n es → IsParts ts k n (e ∷ es)

-- NAME, whose place the tree holds
pub data IsName (ts : List Terminal) : ℕ → ℕ → ℕ → Type 0 where
  name : (k n : ℕ) → Is ts k Name n → IsName ts k n k

-- "=" expr
pub data IsValue (ts : List Terminal) : ℕ → ℕ → Expr → Type 0 where
  value : (k a n : ℕ) (e : Expr) → Is ts k Equals a → IsExpr ts a n e → IsValue ts k n e

-- net = NAME [ "=" expr ]
pub data IsNet (ts : List Terminal) : ℕ → ℕ → NetPart → Type 0 where
  net : (k a n : ℕ) (v : Option Expr) →
      Is ts k Name a → Optional (IsValue ts) a n v → IsNet ts k n (record { name = k; value = v })

-- left "=" expr
pub data IsPair (ts : List Terminal) : ℕ → ℕ → AssignPair → Type 0 where
  pair : (k a b n : ℕ) (l r : Expr) →
      IsLeft ts k a l → Is ts a Equals b → IsExpr ts b n r → IsPair ts k n (record { left = l; right = r })

-- expr "," expr { "," expr }
pub data IsTerminals (ts : List Terminal) : ℕ → ℕ → List Expr → Type 0 where
  terminals : (k n : ℕ) (es : List Expr) → Commas ts (IsExpr ts) k n es → 2 ≤ length es → IsTerminals ts k n es

-- prim = [ NAME ] "(" expr "," expr { "," expr } ")"
pub data IsPrim (ts : List Terminal) : ℕ → ℕ → GatePart → Type 0 where
  prim : (k a b c n : ℕ) (label : Option ℕ) (es : List Expr) →
      Optional (IsName ts) k a label → Is ts a OpenParen b → IsTerminals ts b c es → Is ts c CloseParen n →
      IsPrim ts k n (record { name = label; terminals = es })

-- "." NAME "(" [ expr ] ")"
pub data IsLink (ts : List Terminal) : ℕ → ℕ → NamedLink → Type 0 where
  link : (k a b c d n : ℕ) (e : Option Expr) →
      Is ts k Dot a → Is ts a Name b → Is ts b OpenParen c → Optional (IsExpr ts) c d e →
      Is ts d CloseParen n → IsLink ts k n (record { port = a; expr = e })

-- [ order | named ], with order = expr | [ expr ] "," [ expr ] { "," [ expr ] }: places that may be
-- empty, but not one empty place alone
pub data IsLinks (ts : List Terminal) : ℕ → ℕ → Links → Type 0 where
  no_links : (k : ℕ) → IsLinks ts k k links.Empty
  ordered : (k n : ℕ) (places : List (Option Expr)) →
      Commas ts (Optional (IsExpr ts)) k n places → (places ≡ None ∷ [] → ⊥) →
      IsLinks ts k n (links.Ordered places)
  by_name : (k n : ℕ) (named : List NamedLink) →
      Commas ts (IsLink ts) k n named → IsLinks ts k n (links.Named named)

-- inst = NAME "(" [ order | named ] ")"
pub data IsInst (ts : List Terminal) : ℕ → ℕ → Inst → Type 0 where
  inst : (k a b c n : ℕ) (ls : Links) →
      Is ts k Name a → Is ts a OpenParen b → IsLinks ts b c ls → Is ts c CloseParen n →
      IsInst ts k n (record { name = k; links = ls })

-- [ "wire" ]
pub data IsWire (ts : List Terminal) : ℕ → ℕ → Type 0 where
  no_wire : (k : ℕ) → IsWire ts k k
  a_wire : (k n : ℕ) → Is ts k Wire n → IsWire ts k n

-- item = dir [ "wire" ] [ range ] NAME { "," NAME } ";"
--      | "wire" [ range ] net { "," net } ";"
--      | ( "supply0" | "supply1" ) [ range ] NAME { "," NAME } ";"
--      | "assign" left "=" expr { "," left "=" expr } ";"
--      | gate prim { "," prim } ";"
--      | NAME inst { "," inst } ";"
pub data IsItem (ts : List Terminal) : ℕ → ℕ → Item → Type 0 where
  ports_item : (k a b c d n : ℕ) (dir : Dir) (r : Option IndexRange) (names : List ℕ) →
      Is ts k (Direction dir) a → IsWire ts a b → Optional (IsRange ts) b c r → Commas ts (IsName ts) c d names →
      Is ts d Semicolon n → IsItem ts k n (item.Ports k dir r names)
  nets_item : (k a b c n : ℕ) (r : Option IndexRange) (nets : List NetPart) →
      Is ts k Wire a → Optional (IsRange ts) a b r → Commas ts (IsNet ts) b c nets →
      Is ts c Semicolon n → IsItem ts k n (item.Nets k r nets)
  supply_item : (k a b c n : ℕ) (one : Bool) (r : Option IndexRange) (names : List ℕ) →
      Is ts k (Supply one) a → Optional (IsRange ts) a b r → Commas ts (IsName ts) b c names →
      Is ts c Semicolon n → IsItem ts k n (item.Supply k one r names)
  assign_item : (k a b n : ℕ) (pairs : List AssignPair) →
      Is ts k Assign a → Commas ts (IsPair ts) a b pairs → Is ts b Semicolon n → IsItem ts k n (item.Assign k pairs)
  gates_item : (k a b n : ℕ) (prims : List GatePart) →
      Is ts k Gate a → Commas ts (IsPrim ts) a b prims → Is ts b Semicolon n → IsItem ts k n (item.Gates k prims)
  instances_item : (k a b n : ℕ) (insts : List Inst) →
      Is ts k Name a → Commas ts (IsInst ts) a b insts → Is ts b Semicolon n → IsItem ts k n (item.Instances k insts)

-- NAME in a header, without a direction
pub data IsPlainPort (ts : List Terminal) : ℕ → ℕ → PortName → Type 0 where
  plain_port : (k n : ℕ) → Is ts k Name n → IsPlainPort ts k n (record { name = k; dir = None; range = None })

-- one = dir [ "wire" ] [ range ] NAME
pub data IsOne (ts : List Terminal) : ℕ → ℕ → PortName → Type 0 where
  one : (k a b c n : ℕ) (d : Dir) (r : Option IndexRange) →
      Is ts k (Direction d) a → IsWire ts a b → Optional (IsRange ts) b c r → Is ts c Name n →
      IsOne ts k n (record { name = c; dir = Some d; range = r })

-- one { "," ( one | NAME ) }, with the last port of it; a NAME has the direction and range before it
pub data IsPorts (ts : List Terminal) : ℕ → ℕ → PortName → List PortName → Type 0 where
  first_port : (k n : ℕ) (p : PortName) → IsOne ts k n p → IsPorts ts k n p (p ∷ [])
  next_one : (k a b n : ℕ) (p q : PortName) (ps : List PortName) →
      IsPorts ts k a q ps → Is ts a Comma b → IsOne ts b n p → IsPorts ts k n p (ps ++ p ∷ [])
  next_name : (k a b n : ℕ) (q : PortName) (ps : List PortName) →
      IsPorts ts k a q ps → Is ts a Comma b → Is ts b Name n →
      IsPorts ts k n (record { name = b; dir = q.dir; range = q.range })
      (ps ++ record { name = b; dir = q.dir; range = q.range } ∷ [])

-- [ header ], with header = NAME { "," NAME } | one { "," ( one | NAME ) }
pub data IsHeader (ts : List Terminal) : ℕ → ℕ → List PortName → Type 0 where
  no_header : (k : ℕ) → IsHeader ts k k []
  names : (k n : ℕ) (ps : List PortName) → Commas ts (IsPlainPort ts) k n ps → IsHeader ts k n ps
  directions : (k n : ℕ) (last : PortName) (ps : List PortName) → IsPorts ts k n last ps → IsHeader ts k n ps

-- [ "(" [ header ] ")" ]
pub data IsHead (ts : List Terminal) : ℕ → ℕ → List PortName → Type 0 where
  no_head : (k : ℕ) → IsHead ts k k []
  head : (k a b n : ℕ) (ps : List PortName) →
      Is ts k OpenParen a → IsHeader ts a b ps → Is ts b CloseParen n → IsHead ts k n ps

-- { X }
pub data Many {A : Type 0} (X : ℕ → ℕ → A → Type 0) : ℕ → ℕ → List A → Type 0 where
  none : (k : ℕ) → Many X k k []
  and_more : (k a n : ℕ) (x : A) (xs : List A) → X k a x → Many X a n xs → Many X k n (x ∷ xs)

-- module = "module" NAME [ "(" [ header ] ")" ] ";" { item } "endmodule"
pub data IsModule (ts : List Terminal) : ℕ → ℕ → ModuleTree → Type 0 where
  module_ : (k a b c d e n : ℕ) (ps : List PortName) (is : List Item) →
      Is ts k Module a → Is ts a Name b → IsHead ts b c ps → Is ts c Semicolon d →
      Many (IsItem ts) d e is → Is ts e EndModule n →
      IsModule ts k n (record { name = a; ports = ps; items = is })

-- source = { module }: these terminals are a source text, and this is its tree
abbrev pub IsSource : List Terminal → Source → Type 0
IsSource ts tree = Many (IsModule ts) 0 (length ts) tree.modules
