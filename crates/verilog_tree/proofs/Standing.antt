-- What may stand for each part that prediction holds due.
use Rattle.std.proofs.Common.{◌≡◌, ℕ, ◌+◌, ◌≤◌, List, [], ◌∷◌, ◌++◌, Option, Some, None, Bool, true, false, IsTrue, ◌==◌, slice_get, length, refl, sym, ◌∙◌, ap, subst, eq-eqb}
use Rattle.std.proofs.lemmas.Bool.{eqb-true}
use Rattle.verilog_tree.specs.declared.terminal.Terminal.{Terminal}
use Rattle.verilog_tree.specs.declared.terminal.Terminal.TheVariants.{Name, Number, OpenBracket, OpenBrace, CloseParen, EndModule, Comma}
use Rattle.verilog_tree.specs.declared.source.AssignPair.{AssignPair}
use Rattle.verilog_tree.specs.declared.source.Expr.{Expr}
use Rattle.verilog_tree.specs.declared.source.IndexRange.{IndexRange}
use Rattle.verilog_tree.specs.declared.source.Inst.{Inst}
use Rattle.verilog_tree.specs.declared.source.Item.{Item}
use Rattle.verilog_tree.specs.declared.source.Links.{Links}
use Rattle.verilog_tree.specs.declared.source.Module.{Module as ModuleTree}
use Rattle.verilog_tree.specs.declared.source.NamedLink.{NamedLink}
use Rattle.verilog_tree.specs.declared.source.NetPart.{NetPart}
use Rattle.verilog_tree.specs.declared.source.PortName.{PortName}
use Rattle.verilog_tree.specs.declared.source.GatePart.{GatePart}
use Rattle.verilog_tree.specs.Terminal.{code_of, is_plain}
use Rattle.verilog_tree.specs.Grammar.{Is, Optional, IsRange, IsNamed, IsLeft, IsExpr, IsName, IsValue, IsNet, IsPair, IsPrim, IsLink, IsLinks, IsInst, IsWire, IsItem, IsOne, IsHeader, IsHead, IsModule}
use Rattle.verilog_tree.specs.Predict.{Symbol, Choice, Begins, Skips, Wrong, is_same, source, module_, ports, header, one, port, items, item, number, due, wire, range, select, select_end, expr, brace, left, place, value, net, pair, label, prim, inst, links, link, more, Closed, IsLater}
use Rattle.verilog_tree.proofs.Plain.{plain}

-- one part after another, and then an end
pub data Runs (X E : ℕ → ℕ → Type 0) : ℕ → ℕ → Type 0 where
  last : (k n : ℕ) → E k n → Runs X E k n
  again : (k m n : ℕ) → X k m → Runs X E m n → Runs X E k n

-- the terminal that is due
pub record Same (ts : List Terminal) (u : Terminal) (k n : ℕ) : Type 0 where
  pub which : Terminal
  pub is : Is ts k which n
  pub same : is_same which u ≡ true

pub exactly : (u : Terminal) → is_plain u ≡ true → {ts : List Terminal} {k n : ℕ} → Same ts u k n → Is ts k u n
exactly u p {ts} {k} {n} s = subst (λ t. Is ts k t n) (plain s.which u p (eqb-true (code_of s.which) (code_of u) s.same)) s.is

-- a comma and then a part
pub record CommaThen (ts : List Terminal) (X : ℕ → ℕ → Type 0) (k n : ℕ) : Type 0 where
  pub place : ℕ
  pub is : Is ts k Comma place
  pub stands : X place n

abbrev pub Stands : List Terminal → Symbol → ℕ → ℕ → Type 0
Stands ts source k n = Runs (λ j m. (x : ModuleTree) × IsModule ts j m x) (λ j m. j ≡ m) k n
Stands ts module_ k n = (x : ModuleTree) × IsModule ts k n x
Stands ts ports k n = (x : List PortName) × IsHead ts k n x
Stands ts header k n = (x : List PortName) × Closed ts (IsHeader ts) CloseParen k n x
Stands ts one k n = (x : PortName) × IsOne ts k n x
Stands ts port k n = (q : PortName) → (x : PortName) × IsLater ts q k n x
Stands ts items k n = Runs (λ j m. (x : Item) × IsItem ts j m x) (λ j m. Is ts j EndModule m) k n
Stands ts item k n = (x : Item) × IsItem ts k n x
Stands ts number k n = (v : ℕ) × Is ts k (Number v) n
Stands ts (due u) k n = Same ts u k n
Stands ts wire k n = IsWire ts k n
Stands ts range k n = (x : Option IndexRange) × Optional (IsRange ts) k n x
Stands ts select k n = (j : ℕ) → Is ts j Name k → (x : Expr) × IsNamed ts j n x
Stands ts select_end k n = (i j a b : ℕ) → Is ts j Name a → Is ts a OpenBracket b → Is ts b (Number i) k → (x : Expr) × IsNamed ts j n x
Stands ts expr k n = (x : Expr) × IsExpr ts k n x
Stands ts brace k n = (j : ℕ) → Is ts j OpenBrace k → (x : Expr) × IsExpr ts j n x
Stands ts left k n = (x : Expr) × IsLeft ts k n x
Stands ts place k n = (x : Option Expr) × Optional (IsExpr ts) k n x
Stands ts value k n = (x : Option Expr) × Optional (IsValue ts) k n x
Stands ts net k n = (x : NetPart) × IsNet ts k n x
Stands ts pair k n = (x : AssignPair) × IsPair ts k n x
Stands ts label k n = (x : Option ℕ) × Optional (IsName ts) k n x
Stands ts prim k n = (x : GatePart) × IsPrim ts k n x
Stands ts inst k n = (x : Inst) × IsInst ts k n x
Stands ts links k n = (x : Links) × Closed ts (IsLinks ts) CloseParen k n x
Stands ts link k n = (x : NamedLink) × IsLink ts k n x
Stands ts (more x end) k n = Runs (CommaThen ts (Stands ts x)) (Same ts end) k n

-- what may stand for parts one after another
abbrev pub Due : List Terminal → List Symbol → ℕ → ℕ → Type 0
Due ts [] k n = k ≡ n
Due ts (s ∷ []) k n = Stands ts s k n
Due ts (s ∷ s' ∷ parts) k n = (m : ℕ) × Stands ts s k m × Due ts (s' ∷ parts) m n
