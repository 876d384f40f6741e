-- A text of the grammar within the nesting is read.
use Rattle.std.proofs.Common.{◌≡◌, ℕ, ◌+◌, ◌≤◌, ◌<◌, ◌⊎◌, inl, inr, List, Option, Some, None, Result, Ok, Err, length, take, drop, refl, sym, subst, arith}
use Rattle.std.proofs.Math.Nat.{eq-or-lt_of_le}
use Rattle.std.proofs.lemmas.List.{take-append-drop}
use Rattle.verilog_tree.specs.declared.parser.ParseFault.{ParseFault}
use Rattle.verilog_tree.specs.declared.parser.ParseFault.TheVariants.{Expected, Unsupported, TooDeep, NoMemory}
use Rattle.verilog_tree.specs.declared.source.Source.{Source}
use Rattle.verilog_tree.specs.declared.terminal.Terminal.{Terminal}
use Rattle.verilog_tree.specs.Grammar.{IsSource}
use Rattle.verilog_tree.specs.Laws.{TextsAreRead}
use Rattle.verilog_tree.specs.Source.{FirstFault, Explains, dives}

-- a text of the grammar has no first fault
no_fault : (ts : List Terminal) (tree : Source) (p : ℕ) → IsSource ts tree → FirstFault ts p → ⊥
no_fault ts tree p s f = go (eq-or-lt_of_le f.inside)
  where
    go : (p ≡ length ts) ⊎ (p < length ts) → ⊥
    go (inr w) = f.up_to w (drop (p + 1) ts, tree, subst (λ us. IsSource us tree) (sym (take-append-drop (p + 1) ts)) s)
    go (inl e) = f.at_end e tree s

pub texts_are_read : TextsAreRead
texts_are_read ts tree (Ok t) s d e = inr (t, refl)
texts_are_read ts tree (Err NoMemory) s d e = inl refl
texts_are_read ts tree (Err (Expected p)) s d e = absurd (no_fault ts tree p s e.0)
texts_are_read ts tree (Err (Unsupported p)) s d e = absurd (no_fault ts tree p s e.0)
texts_are_read ts tree (Err (TooDeep p)) s d e = absurd (let no : ⊥ = (let f : dives 64 ts ≡ Some (drop p ts) = e.1 in cc) in no)
