-- The answer of the reader: the tree, or the first place where no text goes on.
-- The rule is told in docs/FORMATS.md, "The grammar".
use Prim.Native.Nat.{zero, suc}
use Rattle.std.specs.Prelude.{◌≡◌, ℕ, ◌+◌, ◌≤◌, ◌<◌, List, [], ◌∷◌, ◌++◌, Option, Some, None, Result, Ok, Err, slice_get, length, take, drop}
use Rattle.verilog_tree.specs.declared.parser.ParseFault.{ParseFault}
use Rattle.verilog_tree.specs.declared.parser.ParseFault.TheVariants.{Expected, Unsupported, TooDeep, NoMemory}
use Rattle.verilog_tree.specs.declared.source.Source.{Source}
use Rattle.verilog_tree.specs.declared.terminal.Terminal.{Terminal}
use Rattle.verilog_tree.specs.declared.terminal.Terminal.TheVariants.{OpenBrace, CloseBrace, Reserved}
use Rattle.verilog_tree.specs.Grammar.{IsSource}

-- some source text goes on from these terminals
abbrev pub Begins : List Terminal → Type 0
Begins front = (rest : List Terminal) × (tree : Source) × IsSource (front ++ rest) tree

-- the terminals before place p begin a source text, and those up to it begin none; where they end at
-- p, they are none
pub record FirstFault (ts : List Terminal) (p : ℕ) : Type 0 where
  pub inside : p ≤ length ts
  pub before : Begins (take p ts)
  pub up_to : p < length ts → Begins (take (p + 1) ts) → ⊥
  pub at_end : p ≡ length ts → (tree : Source) → IsSource ts tree → ⊥

-- the room for opening braces that a terminal leaves, if there was room for it
abbrev pub room_after : ℕ → Terminal → Option ℕ
room_after zero OpenBrace = None
room_after (suc room) OpenBrace = Some room
room_after room CloseBrace = Some (room + 1)
room_after room _ = Some room

-- the terminals from the first opening brace on for which no room is left
abbrev pub dives : ℕ → List Terminal → Option (List Terminal)
dives room [] = None
dives room (t ∷ ts) = elim (room_after room t) [ None ↦ Some (t ∷ ts) | Some later ↦ dives later ts ]

-- the place of that brace
abbrev pub IsFirstDeep : List Terminal → Option ℕ → Type 0
IsFirstDeep ts None = dives 64 ts ≡ None
IsFirstDeep ts (Some p) = (p < length ts) × (dives 64 ts ≡ Some (drop p ts))

-- what the terminals of a text have: a tree, within 64 nested braces; or the first place where no
-- text goes on, before which no brace is too deep; or the first brace that is too deep, where a text
-- goes on after it
abbrev pub Explains : List Terminal → Result Source ParseFault → Type 0
Explains ts (Ok tree) = IsSource ts tree × (dives 64 ts ≡ None)
Explains ts (Err NoMemory) = Unit {0}
Explains ts (Err (Expected p)) =
    FirstFault ts p × (slice_get ts p ≡ Some Reserved → ⊥) × (dives 64 (take p ts) ≡ None)
Explains ts (Err (Unsupported p)) =
    FirstFault ts p × (slice_get ts p ≡ Some Reserved) × (dives 64 (take p ts) ≡ None)
Explains ts (Err (TooDeep p)) =
    (p < length ts) × (dives 64 ts ≡ Some (drop p ts)) × Begins (take (p + 1) ts)
