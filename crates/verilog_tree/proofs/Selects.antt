-- Reading what follows a name.
use Rattle.std.proofs.Common.{◌≡◌, ℕ, ◌+◌, ◌≤◌, List, [], ◌∷◌, ◌++◌, Some, None, Bool, true, false, slice_get, length, refl, arith}
use Rattle.verilog_tree.specs.declared.terminal.Terminal.{Terminal}
use Rattle.verilog_tree.specs.declared.terminal.Terminal.TheVariants.{Name, OpenBracket, CloseBracket, Colon}
use Rattle.verilog_tree.specs.declared.reader.Stop.{Stop as StopOf}
use Rattle.verilog_tree.specs.declared.reader.Stop.TheVariants as Stop
use Rattle.verilog_tree.specs.declared.source.Expr.TheVariants as tree
use Rattle.verilog_tree.specs.Grammar.{Is, IsNumber, IsNamed, whole, bit, part}
use Rattle.verilog_tree.specs.Predict.{Symbol, Begins, Skips, Wrong, after_select, after_select_end, number, due, select, select_end, Leads, Fails, Passes, Reads}
use Rattle.verilog_tree.proofs.Due.{begins, passes, follow, fails_after, skips, wrong, here_within}
use Rattle.verilog_tree.proofs.Ranges.{Num}

select_begins : {ts : List Terminal} {k : ℕ} → slice_get ts k ≡ Some OpenBracket → Leads ts (select ∷ []) k (number ∷ select_end ∷ []) (k + 1)
select_begins e = begins (number ∷ select_end ∷ []) [] e refl

select_colon : {ts : List Terminal} {k a left : ℕ} → slice_get ts k ≡ Some OpenBracket → Num ts (k + 1) a left → slice_get ts a ≡ Some Colon →
    Leads ts (select ∷ []) k (number ∷ due CloseBracket ∷ []) (a + 1)
select_colon e l c = follow (passes (select_begins e) l.goes) (begins (number ∷ due CloseBracket ∷ []) [] c refl)

pub select_left : (ts : List Terminal) (k : ℕ) (stop : StopOf) → slice_get ts k ≡ Some OpenBracket →
    Fails ts (number ∷ []) (k + 1) stop → Fails ts (select ∷ []) k stop
select_left ts k stop e f = fails_after (select_begins e) f

pub select_right : (ts : List Terminal) (k a left : ℕ) (stop : StopOf) → slice_get ts k ≡ Some OpenBracket →
    Num ts (k + 1) a left → slice_get ts a ≡ Some Colon → Fails ts (number ∷ []) (a + 1) stop → Fails ts (select ∷ []) k stop
select_right ts k a left stop e l c f = fails_after (select_colon e l c) f

pub select_close : (ts : List Terminal) (k a b left right : ℕ) (stop : StopOf) → slice_get ts k ≡ Some OpenBracket →
    Num ts (k + 1) a left → slice_get ts a ≡ Some Colon → Num ts (a + 1) b right → Fails ts (due CloseBracket ∷ []) b stop → Fails ts (select ∷ []) k stop
select_close ts k a b left right stop e l c r f = fails_after (passes (select_colon e l c) r.goes) f

-- after an index stands a colon or the end
pub select_wrong : (ts : List Terminal) (k a left : ℕ) → slice_get ts k ≡ Some OpenBracket → Num ts (k + 1) a left →
    (slice_get ts a ≡ Some CloseBracket → ⊥) → (slice_get ts a ≡ Some Colon → ⊥) → Fails ts (select ∷ []) k (Stop.Stuck a)
select_wrong ts k a left e l not_close not_colon =
    fails_after (passes (select_begins e) l.goes) (wrong ts a select_end [] l.inside refl go)
  where
    go : (t : Terminal) → slice_get ts a ≡ Some t → after_select_end t ≡ Wrong
    go CloseBracket f = absurd (not_close f)
    go Colon f = absurd (not_colon f)
    go _ f = refl

pub select_absent : (ts : List Terminal) (name : ℕ) → slice_get ts name ≡ Some Name → (slice_get ts (name + 1) ≡ Some OpenBracket → ⊥) →
    Reads ts (select ∷ []) (λ _ n e. IsNamed ts name n e) (name + 1) (name + 1) (tree.Whole name)
select_absent ts name named not_open = record {
  stands = whole name (name + 1) (record { here = named; after = refl });
  goes = skips ts (name + 1) select refl go;
  forward = omega arith;
  inside = here_within ts name Name named;
}
  where
    go : (t : Terminal) → slice_get ts (name + 1) ≡ Some t → after_select t ≡ Skips
    go OpenBracket e = absurd (not_open e)
    go _ e = refl

pub select_bit : (ts : List Terminal) (name a left : ℕ) → slice_get ts name ≡ Some Name → slice_get ts (name + 1) ≡ Some OpenBracket →
    Num ts (name + 1 + 1) a left → slice_get ts a ≡ Some CloseBracket →
    Reads ts (select ∷ []) (λ _ n e. IsNamed ts name n e) (name + 1) (a + 1) (tree.Bit name left)
select_bit ts name a left named e l c = record {
  stands = bit name (name + 1) (name + 1 + 1) a (a + 1) left
      (record { here = named; after = refl }) (record { here = e; after = refl }) l.stands (record { here = c; after = refl });
  goes = follow (passes (select_begins e) l.goes) (begins [] [] c refl);
  forward = (let f = l.forward in omega arith);
  inside = here_within ts a CloseBracket c;
}

pub select_part : (ts : List Terminal) (name a b n left right : ℕ) → slice_get ts name ≡ Some Name → slice_get ts (name + 1) ≡ Some OpenBracket →
    Num ts (name + 1 + 1) a left → slice_get ts a ≡ Some Colon → Num ts (a + 1) b right → Passes ts CloseBracket b n →
    Reads ts (select ∷ []) (λ _ n e. IsNamed ts name n e) (name + 1) n (tree.Part name left right)
select_part ts name a b n left right named e l c r z = record {
  stands = part name (name + 1) (name + 1 + 1) a (a + 1) b n left right
      (record { here = named; after = refl }) (record { here = e; after = refl }) l.stands (record { here = c; after = refl }) r.stands z.is;
  goes = passes (passes (select_colon e l c) r.goes) z.goes;
  forward = (let f : name + 1 + 1 ≤ a = l.forward in let g : a + 1 ≤ b = r.forward in let h : n ≡ b + 1 = z.is.after in omega arith);
  inside = z.inside;
}

pub ruleset selects = (select_left, select_right, select_close, select_wrong)
