-- Reading modules.
use Rattle.std.proofs.Common.{◌≡◌, ℕ, ◌+◌, ◌≤◌, ◌⊎◌, inl, inr, List, [], ◌∷◌, ◌++◌, Option, Some, None, Result, Ok, Err, IsErr, Bool, true, false, if◌then◌else◌, is_some, slice_get, length, drop, refl, sym, ◌∙◌, ap, subst, arith}
use Rattle.std.specs.Result.{IsErrAnd}
use Rattle.std.proofs.lemmas.Option.{slice_get_cases}
use Rattle.verilog_tree.specs.declared.terminal.Terminal.{Terminal}
use Rattle.verilog_tree.specs.declared.terminal.Terminal.TheVariants.{Module}
use Rattle.verilog_tree.specs.declared.source.Module.{Module as ModuleTree}
use Rattle.verilog_tree.specs.declared.reader.Stop.{Stop as StopOf}
use Rattle.verilog_tree.specs.declared.source.Source.{Source}
use Rattle.verilog_tree.specs.Grammar.{IsModule, Many, none}
use Rattle.verilog_tree.specs.Predict.{Symbol, source, module_, is_end, next, fault, Leads, Fails, Reads, SourceAnswers}
use Rattle.verilog_tree.proofs.Pushing.{another}
use Rattle.verilog_tree.proofs.Due.{drop_end, passes, follow}
use Rattle.verilog_tree.proofs.Begins.{alike}

-- where the text goes on, a module is due
pub source_module : (ts : List Terminal) (k : ℕ) → is_some (slice_get ts k) ≡ true → Leads ts (source ∷ []) k (module_ ∷ source ∷ []) k
source_module ts k some = alike ts k (source ∷ []) (module_ ∷ source ∷ []) (λ below e. (let no : false ≡ true = ap is_some (sym e) ∙ some in cc)) (λ below t e. go below t)
  where
    go : (below : List Symbol) (t : Terminal) → next (source ∷ below) t ≡ next (module_ ∷ source ∷ below) t
    go below Module = refl
    go below _ = refl

-- while modules are read
pub record Gathered (ts : List Terminal) (n : ℕ) (ms : List ModuleTree) : Type 0 where
  pub stands : Many (IsModule ts) 0 n ms
  pub goes : Leads ts (source ∷ []) 0 (source ∷ []) n
  pub inside : n ≤ length ts

pub modules_start : (ts : List Terminal) (ms : List ModuleTree) → ms ≡ [] → Gathered ts 0 ms
modules_start ts ms e = record {
  stands = subst (λ l. Many (IsModule ts) 0 0 l) (sym e) (none 0);
  goes = record { leads = λ below. refl };
  inside = omega arith;
}

pub modules_next : {ts : List Terminal} {m n : ℕ} {x : ModuleTree} {ms later : List ModuleTree} → later ≡ ms ++ x ∷ [] → is_some (slice_get ts m) ≡ true →
    Gathered ts m ms → Reads ts (module_ ∷ []) (IsModule ts) m n x → Gathered ts n later
modules_next {ts} {m} {n} {x} {ms} {later} e some g r = record {
  stands = subst (λ l. Many (IsModule ts) 0 n l) (sym e) (another 0 m n ms x g.stands r.stands);
  goes = passes (follow g.goes (source_module ts m some)) r.goes;
  inside = r.inside;
}

past : (ts : List Terminal) (n : ℕ) → slice_get ts n ≡ None → length ts ≤ n
past ts n e =
    elim (slice_get_cases ts n).1 [ inl w ↦ (let h : slice_get ts n ≡ Some w.0 = w.2 in let no : ⊥ = cc in absurd no) | inr w ↦ w.0 ]

-- where the text ends, all modules are read
pub modules_end : (ts : List Terminal) (n : ℕ) (ms : List ModuleTree) → is_some (slice_get ts n) ≡ false → Gathered ts n ms →
    Many (IsModule ts) 0 (length ts) ms × (fault (source ∷ []) ts ≡ None)
modules_end ts n ms at_end g = go (slice_get ts n) refl at_end
  where
    go : (o : Option Terminal) → slice_get ts n ≡ o → is_some o ≡ false → Many (IsModule ts) 0 (length ts) ms × (fault (source ∷ []) ts ≡ None)
    go None e f =
        let behind : length ts ≤ n = past ts n e in
        let inside : n ≤ length ts = g.inside in
        let end : n ≡ length ts = omega arith in
        (subst (λ (k : ℕ). Many (IsModule ts) 0 k ms) end g.stands, g.goes.leads [] ∙ ap (fault (source ∷ [])) (drop_end ts n e))
    go (Some t) e f = cc

-- where a module fails, the text does
pub source_answered : (ts : List Terminal) (r : Result Source StopOf) (stop : StopOf) → IsErr r × IsErrAnd r (λ e. e ≡ stop) → Fails ts (source ∷ []) 0 stop → SourceAnswers ts r
source_answered ts (Ok tree) stop f e = absurd (let no : ⊥ = f.1 in no)
source_answered ts (Err s) stop f e = subst (λ (x : StopOf). Fails ts (source ∷ []) 0 x) (sym f.1) e
