-- Reading a list with commas between its items.
use Rattle.std.proofs.Common.{◌≡◌, ℕ, ◌+◌, ◌≤◌, List, [], ◌∷◌, ◌++◌, Result, Ok, Err, IsErr, Bool, true, false, length, length-append, refl, sym, ◌∙◌, ap, subst, arith}
use Rattle.std.specs.Result.{IsErrAnd}
use Rattle.verilog_tree.specs.declared.reader.Read.{Read}
use Rattle.verilog_tree.specs.declared.terminal.Terminal.{Terminal}
use Rattle.verilog_tree.specs.declared.terminal.Terminal.TheVariants.{Comma}
use Rattle.verilog_tree.specs.declared.reader.Stop.{Stop as StopOf}
use Rattle.verilog_tree.specs.Grammar.{Is, Commas, first_item}
use Rattle.verilog_tree.specs.Predict.{Symbol, more, Leads, Fails, Reads, Separates, Closes, Closed, Gathers, Continues, Extends, Answers}
use Rattle.verilog_tree.proofs.Pushing.{next_item}
use Rattle.verilog_tree.proofs.Due.{passes, follow, fails_after, fails_from, answered}

-- the first item fails
pub first_fails : (ts : List Terminal) (x : Symbol) (end : Terminal) (k : ℕ) (stop : StopOf) →
    Fails ts (x ∷ []) k stop → Fails ts (x ∷ more x end ∷ []) k stop
first_fails ts x end k stop f = record {
  sticks = λ p e. let g = f.sticks p e in record { stuck = λ below. g.stuck (more x end ∷ below); inside = g.inside };
}

module _ {A : Type 0} {ts : List Terminal} {parts : List Symbol} {x : Symbol} {end : Terminal} {X : ℕ → ℕ → A → Type 0} {k n : ℕ} {items : A} (so_far : Gathers ts parts x end X k n items) where
  -- neither a comma nor the end follows
  pub more_fails : (stop : StopOf) → ((y : Symbol) → Fails ts (more y end ∷ []) n stop) → Fails ts parts k stop
  more_fails stop f = fails_from so_far.goes (f x)

  -- a later item fails
  pub next_fails : (stop : StopOf) → Separates ts end n → Fails ts (x ∷ []) (n + 1) stop → Fails ts parts k stop
  next_fails stop s f = fails_after (follow so_far.goes (s.goes x)) f

  -- the list ends
  pub gathers_end : Closes ts end n → Reads ts parts (Closed ts X end) k (n + 1) items
  gathers_end c = record {
    stands = record { place = n; stands = so_far.stands; ends = c.is };
    goes = follow so_far.goes (c.goes x);
    forward = (let f = so_far.forward in omega arith);
    inside = c.inside;
  }

-- the first item is read
pub gathers_first : {A B : Type 0} {ts : List Terminal} {x : Symbol} {end : Terminal} {X : ℕ → ℕ → A → Type 0} {Y : ℕ → ℕ → B → Type 0} {k n : ℕ} {a : A} {b : B} →
    (X k n a → Y k n b) → Reads ts (x ∷ []) X k n a → Gathers ts (x ∷ more x end ∷ []) x end Y k n b
gathers_first {x = x} {end = end} into r = record {
  stands = into r.stands;
  goes = record { leads = λ below. r.goes.leads (more x end ∷ below) };
  forward = r.forward;
  inside = r.inside;
}

-- another item is read
pub gathers_next : {A B : Type 0} {ts : List Terminal} {parts : List Symbol} {x : Symbol} {end : Terminal} {X : ℕ → ℕ → A → Type 0} {Y : ℕ → ℕ → B → Type 0} {k m n : ℕ} {a : A} {b c : B} →
    (Y k m b → Is ts m Comma (m + 1) → X (m + 1) n a → Y k n c) →
    Gathers ts parts x end Y k m b → Separates ts end m → Reads ts (x ∷ []) X (m + 1) n a → Gathers ts parts x end Y k n c
gathers_next {x = x} into g s r = record {
  stands = into g.stands s.is r.stands;
  goes = passes (follow g.goes (s.goes x)) r.goes;
  forward = (let f = g.forward in let h = r.forward in omega arith);
  inside = r.inside;
}

pub rest_first : {A : Type 0} {ts : List Terminal} (x : Symbol) (end : Terminal) (X : ℕ → ℕ → A → Type 0) (k : ℕ) (items : List A) → k ≤ length ts →
    Gathers ts (more x end ∷ []) x end (Extends ts X items) k k items
rest_first x end X k items w = record { stands = record { goes_on = λ j c. c; longer = omega arith }; goes = record { leads = λ below. refl }; forward = omega arith; inside = w }

pub rest_next : {A : Type 0} {ts : List Terminal} {x : Symbol} {end : Terminal} {X : ℕ → ℕ → A → Type 0} {k m n : ℕ} {a : A} (first : List A) {items later : List A} →
    later ≡ items ++ a ∷ [] → Gathers ts (more x end ∷ []) x end (Extends ts X first) k m items → Separates ts end m → Reads ts (x ∷ []) X (m + 1) n a →
    Gathers ts (more x end ∷ []) x end (Extends ts X first) k n later
rest_next {ts = ts} {x = x} {end = end} {X = X} {k = k} {m = m} {n = n} {a = a} first {items = items} f g s r =
    subst (λ l. Gathers ts (more x end ∷ []) x end (Extends ts X first) k n l) (sym f)
    (gathers_next {X = X} {Y = Extends ts X first} (λ e i h. record { goes_on = λ j c. next_item j m (m + 1) n items a (e.goes_on j c) i h; longer = (let w = e.longer in simp length-append (omega arith)) }) g s r)

-- what a look after an item answered
pub separates : (ts : List Terminal) (end : Terminal) (k : ℕ) (b : Bool) → b ≡ true → Continues ts end k (Ok b) → Separates ts end k
separates ts end k true e c = c
separates ts end k false e c = absurd (let no : ⊥ = cc in no)

pub closes : (ts : List Terminal) (end : Terminal) (k : ℕ) (b : Bool) → b ≡ false → Continues ts end k (Ok b) → Closes ts end k
closes ts end k true e c = absurd (let no : ⊥ = cc in no)
closes ts end k false e c = c

-- the answers where reading a list stops early
module _ {A : Type 0} (ts : List Terminal) (x : Symbol) (end : Terminal) (k : ℕ) (X : ℕ → ℕ → A → Type 0) (r : Result (Read A) StopOf) (stop : StopOf)
    (is_err : IsErr r) (same : IsErrAnd r (λ e. e ≡ stop)) where
  pub first_answered : Fails ts (x ∷ []) k stop → Answers ts (x ∷ more x end ∷ []) (Closed ts X end) k r
  first_answered f = answered (Closed ts X end) r stop is_err same (first_fails ts x end k stop f)

  pub more_answered : {parts : List Symbol} {n : ℕ} {items : A} → Gathers ts parts x end X k n items → ((y : Symbol) → Fails ts (more y end ∷ []) n stop) →
      Answers ts parts (Closed ts X end) k r
  more_answered g f = answered (Closed ts X end) r stop is_err same (more_fails g stop f)

  pub next_answered : {parts : List Symbol} {n : ℕ} {items : A} → Gathers ts parts x end X k n items → Separates ts end n → Fails ts (x ∷ []) (n + 1) stop →
      Answers ts parts (Closed ts X end) k r
  next_answered g s f = answered (Closed ts X end) r stop is_err same (next_fails g stop s f)

-- the first item, and then the rest
pub list_fails : {A : Type 0} (ts : List Terminal) (x : Symbol) (end : Terminal) (X : ℕ → ℕ → A → Type 0) (k : ℕ) (stop : StopOf) →
    Fails ts (x ∷ []) k stop → Fails ts (x ∷ more x end ∷ []) k stop
list_fails ts x end X k stop f = first_fails ts x end k stop f

pub list_answers : {A : Type 0} (ts : List Terminal) (x : Symbol) (end : Terminal) (X : ℕ → ℕ → A → Type 0) (k m : ℕ) (a : A) (none items : List A) (r : Result (Read (List A)) StopOf) →
    none ≡ [] → items ≡ none ++ a ∷ [] → Reads ts (x ∷ []) X k m a → Answers ts (more x end ∷ []) (Closed ts (Extends ts X items) end) m r →
    Answers ts (x ∷ more x end ∷ []) (Closed ts (Commas ts X) end) k r
list_answers ts x end X k m a none items (Ok r) e f first rest = record {
  stands = record {
    place = rest.stands.place;
    stands = rest.stands.stands.goes_on k (subst (λ l. Commas ts X k m l) (sym (f ∙ ap (λ l. l ++ a ∷ []) e)) (first_item k m a first.stands));
    ends = rest.stands.ends;
  };
  goes = record { leads = λ below. first.goes.leads (more x end ∷ below) ∙ rest.goes.leads below };
  forward = (let g = first.forward in let h = rest.forward in omega arith);
  inside = rest.inside;
}
list_answers ts x end X k m a none items (Err stop) e f first rest = record {
  sticks = λ p g. let h = rest.sticks p g in record { stuck = λ below. first.goes.leads (more x end ∷ below) ∙ h.stuck below; inside = h.inside };
}
