-- Reading one terminal.
use Rattle.std.proofs.Common.{◌≡◌, ℕ, ◌+◌, ◌≤◌, List, [], ◌∷◌, ◌++◌, Some, None, Bool, true, false, if◌then◌else◌, ◌==◌, slice_get, length, refl, sym, ◌∙◌, ap, arith, eq-eqb}
use Rattle.std.proofs.lemmas.Bool.{ne_eqb}
use Rattle.verilog_tree.specs.declared.terminal.Terminal.{Terminal}
use Rattle.verilog_tree.specs.declared.terminal.Terminal.TheVariants.{Name, Number, Constant, Module, EndModule, Direction, Wire, Supply, Assign, Gate, Reserved, OpenParen, CloseParen, OpenBracket, CloseBracket, OpenBrace, CloseBrace, Comma, Semicolon, Colon, Equals, Dot, Stray}
use Rattle.verilog_tree.specs.declared.reader.Stop.TheVariants as Stop
use Rattle.verilog_tree.specs.Grammar.{Is, IsNumber}
use Rattle.verilog_tree.specs.Terminal.{code_of, is_plain}
use Rattle.verilog_tree.specs.Predict.{Symbol, Begins, Skips, Wrong, after, after_number, after_due, after_more, is_same, number, due, more, Leads, Fails, Passes, Reads, Separates, Closes}
use Rattle.verilog_tree.proofs.Due.{begins, wrong, here_within}
use Rattle.verilog_tree.proofs.Plain.{plain}

pub number_passed : (ts : List Terminal) (k value : ℕ) → slice_get ts k ≡ Some (Number value) → Reads ts (number ∷ []) (IsNumber ts) k (k + 1) value
number_passed ts k value e = record {
  stands = record { here = e; after = refl };
  goes = begins [] [] e refl;
  forward = omega arith;
  inside = here_within ts k (Number value) e;
}

pub number_wrong : (ts : List Terminal) (k : ℕ) → k ≤ length ts → ((value : ℕ) → slice_get ts k ≡ Some (Number value) → ⊥) → Fails ts (number ∷ []) k (Stop.Stuck k)
number_wrong ts k w not_number = wrong ts k number [] w refl go
  where
    go : (t : Terminal) → slice_get ts k ≡ Some t → after_number t ≡ Wrong
    go (Number value) e = absurd (not_number value e)
    go _ e = refl

pub is_same_self : (t : Terminal) → is_same t t ≡ true
is_same_self t = eq-eqb (code_of t) (code_of t) refl

is_other : (t u : Terminal) → is_plain u ≡ true → (t ≡ u → ⊥) → is_same t u ≡ false
is_other t u p other = ne_eqb (code_of t) (code_of u) (λ e. other (plain t u p e))

-- a terminal that is due is passed
pub due_passed : (ts : List Terminal) (k : ℕ) (u : Terminal) → slice_get ts k ≡ Some u → Passes ts u k (k + 1)
due_passed ts k u e = record {
  is = record { here = e; after = refl };
  forward = omega arith;
  goes = begins [] [] e (ap (λ b. if b then Begins [] else Wrong) (is_same_self u));
  inside = here_within ts k u e;
}

pub due_found : (ts : List Terminal) (k : ℕ) (u found : Terminal) → slice_get ts k ≡ Some found → found ≡ u → Passes ts u k (k + 1)
due_found ts k u found e b = due_passed ts k u (e ∙ ap (λ t. Some t) b)

-- where another terminal stands, reading fails
pub due_other : (ts : List Terminal) (k : ℕ) (u found : Terminal) → k ≤ length ts → is_plain u ≡ true → slice_get ts k ≡ Some found → (found ≡ u → ⊥) → Fails ts (due u ∷ []) k (Stop.Stuck k)
due_other ts k u found w p e other = wrong ts k (due u) [] w refl go
  where
    go : (t : Terminal) → slice_get ts k ≡ Some t → after_due u t ≡ Wrong
    go t f = ap (λ b. if b then Begins [] else Wrong) (is_other t u p (λ g. other (let same : found ≡ t = cc in same ∙ g)))

pub due_absent : (ts : List Terminal) (k : ℕ) (u : Terminal) → k ≤ length ts → slice_get ts k ≡ None → Fails ts (due u ∷ []) k (Stop.Stuck k)
due_absent ts k u w none = wrong ts k (due u) [] w refl (λ t e. (let no : ⊥ = cc in absurd no))

-- after an item of a list stands a comma
pub more_comma : (ts : List Terminal) (k : ℕ) (end : Terminal) → slice_get ts k ≡ Some Comma → Separates ts end k
more_comma ts k end e = record {
  is = record { here = e; after = refl };
  goes = λ x. begins (x ∷ more x end ∷ []) [] e refl;
  inside = here_within ts k Comma e;
}

-- what a terminal that is no comma makes of the rest of a list
after_item : (x : Symbol) (end t : Terminal) → (t ≡ Comma → ⊥) → after_more x end t ≡ (if is_same t end then Begins [] else Wrong)
after_item x end Comma other = absurd (other refl)
after_item x end _ other = refl

-- or the end of the list
pub more_end : (ts : List Terminal) (k : ℕ) (end found : Terminal) → slice_get ts k ≡ Some found → (slice_get ts k ≡ Some Comma → ⊥) → found ≡ end → Closes ts end k
more_end ts k end found e not_comma b =
    let at_end : slice_get ts k ≡ Some end = e ∙ ap (λ t. Some t) b in
    record {
      is = record { here = at_end; after = refl };
      goes = λ x. begins [] [] at_end
          (after_item x end end (λ f. not_comma (at_end ∙ ap (λ t. Some t) f)) ∙ ap (λ b. if b then Begins [] else Wrong) (is_same_self end));
      inside = here_within ts k end at_end;
    }

-- or the text is wrong
pub more_other : (ts : List Terminal) (k : ℕ) (end found : Terminal) → k ≤ length ts → is_plain end ≡ true → slice_get ts k ≡ Some found →
    (slice_get ts k ≡ Some Comma → ⊥) → (found ≡ end → ⊥) → (x : Symbol) → Fails ts (more x end ∷ []) k (Stop.Stuck k)
more_other ts k end found w p e not_comma other x = wrong ts k (more x end) [] w refl go
  where
    go : (t : Terminal) → slice_get ts k ≡ Some t → after_more x end t ≡ Wrong
    go t f =
        after_item x end t (λ g. not_comma (f ∙ ap (λ m. Some m) g))
        ∙ ap (λ b. if b then Begins [] else Wrong) (is_other t end p (λ g. other (let same : found ≡ t = cc in same ∙ g)))

pub more_absent : (ts : List Terminal) (k : ℕ) (end : Terminal) → k ≤ length ts → slice_get ts k ≡ None → (x : Symbol) → Fails ts (more x end ∷ []) k (Stop.Stuck k)
more_absent ts k end w none x = wrong ts k (more x end) [] w refl (λ t e. (let no : ⊥ = cc in absurd no))

pub ruleset terminals = (number_passed, number_wrong, due_found, due_other, due_absent, more_comma, more_end, more_other, more_absent)
