-- Reading a range, and what follows a name.
use Rattle.std.proofs.Common.{◌≡◌, ℕ, ◌+◌, ◌≤◌, List, [], ◌∷◌, ◌++◌, Some, None, Bool, true, false, slice_get, length, refl, sym, ◌∙◌, ap, arith}
use Rattle.verilog_tree.specs.declared.terminal.Terminal.{Terminal}
use Rattle.verilog_tree.specs.declared.terminal.Terminal.TheVariants.{Name, OpenBracket, CloseBracket, Colon}
use Rattle.verilog_tree.specs.declared.reader.Stop.{Stop as StopOf}
use Rattle.verilog_tree.specs.declared.reader.Stop.TheVariants as Stop
use Rattle.verilog_tree.specs.declared.source.IndexRange.{IndexRange}
use Rattle.verilog_tree.specs.declared.source.Expr.{Expr}
use Rattle.verilog_tree.specs.declared.source.Expr.TheVariants as Expr
use Rattle.verilog_tree.specs.Grammar.{Is, IsNumber, IsRange, range as is_range, Optional, absent, present, IsNamed, whole, bit, part}
use Rattle.verilog_tree.specs.Predict.{Begins, Skips, Wrong, after_range, after_select, after_select_end, number, due, range, select, select_end, Leads, Fails, Passes, Reads}
use Rattle.verilog_tree.proofs.Due.{begins, passes, follow, fails_after, skips, wrong, here_within}

abbrev pub Num : List Terminal → ℕ → ℕ → ℕ → Type 0
Num ts k n value = Reads ts (number ∷ []) (IsNumber ts) k n value

-- one terminal has been read, and these parts are due
range_begins : {ts : List Terminal} {k : ℕ} → slice_get ts k ≡ Some OpenBracket →
    Leads ts (range ∷ []) k (number ∷ due Colon ∷ number ∷ due CloseBracket ∷ []) (k + 1)
range_begins e = begins (number ∷ due Colon ∷ number ∷ due CloseBracket ∷ []) [] e refl

pub range_left : (ts : List Terminal) (k : ℕ) (stop : StopOf) → slice_get ts k ≡ Some OpenBracket →
    Fails ts (number ∷ []) (k + 1) stop → Fails ts (range ∷ []) k stop
range_left ts k stop e f = fails_after (range_begins e) f

pub range_colon : (ts : List Terminal) (k a left : ℕ) (stop : StopOf) → slice_get ts k ≡ Some OpenBracket →
    Num ts (k + 1) a left → Fails ts (due Colon ∷ []) a stop → Fails ts (range ∷ []) k stop
range_colon ts k a left stop e l f = fails_after (passes (range_begins e) l.goes) f

pub range_right : (ts : List Terminal) (k a b left : ℕ) (stop : StopOf) → slice_get ts k ≡ Some OpenBracket →
    Num ts (k + 1) a left → Passes ts Colon a b → Fails ts (number ∷ []) b stop → Fails ts (range ∷ []) k stop
range_right ts k a b left stop e l c f = fails_after (passes (passes (range_begins e) l.goes) c.goes) f

pub range_close : (ts : List Terminal) (k a b d left right : ℕ) (stop : StopOf) → slice_get ts k ≡ Some OpenBracket →
    Num ts (k + 1) a left → Passes ts Colon a b → Num ts b d right → Fails ts (due CloseBracket ∷ []) d stop → Fails ts (range ∷ []) k stop
range_close ts k a b d left right stop e l c r f = fails_after (passes (passes (passes (range_begins e) l.goes) c.goes) r.goes) f

-- no range stands here
pub range_absent : (ts : List Terminal) (k : ℕ) → k ≤ length ts → (slice_get ts k ≡ Some OpenBracket → ⊥) →
    Reads ts (range ∷ []) (Optional (IsRange ts)) k k None
range_absent ts k w not_open = record {
  stands = absent k;
  goes = skips ts k range refl go;
  forward = omega arith;
  inside = w;
}
  where
    go : (t : Terminal) → slice_get ts k ≡ Some t → after_range t ≡ Skips
    go OpenBracket e = absurd (not_open e)
    go _ e = refl

-- a range stands here
pub range_read : (ts : List Terminal) (k a b d n left right : ℕ) → slice_get ts k ≡ Some OpenBracket →
    Num ts (k + 1) a left → Passes ts Colon a b → Num ts b d right → Passes ts CloseBracket d n →
    Reads ts (range ∷ []) (Optional (IsRange ts)) k n (Some (record { left = left; right = right }))
range_read ts k a b d n left right e l c r z = record {
  stands = present k n (record { left = left; right = right })
      (is_range k (k + 1) a b d n left right (record { here = e; after = refl }) l.stands c.is r.stands z.is);
  goes = passes (passes (passes (passes (range_begins e) l.goes) c.goes) r.goes) z.goes;
  forward = (let f : k + 1 ≤ a = l.forward in let g : b ≡ a + 1 = c.is.after in let h : b ≤ d = r.forward in let i : n ≡ d + 1 = z.is.after in omega arith);
  inside = z.inside;
}

pub ruleset ranges = (range_left, range_colon, range_right, range_close)
