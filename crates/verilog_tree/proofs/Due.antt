-- How reading goes on, step by step.
use Rattle.std.proofs.Common.{◌≡◌, ℕ, suc, ◌+◌, ◌≤◌, ◌<◌, List, [], ◌∷◌, ◌++◌, Option, Some, None, Result, Ok, Err, IsErr, IfOk, Bool, true, false, if◌then◌else◌, ◌&&◌, ◌⊎◌, inl, inr, slice_get, length, drop, refl, sym, ◌∙◌, ap, subst, add-one, append_assoc, arith}
use Rattle.std.specs.Result.{IsErrAnd}
use Rattle.std.proofs.Math.Seq.{drop-cons}
use Rattle.std.proofs.lemmas.List.{drop_all}
use Rattle.std.proofs.lemmas.Option.{slice_get_within, get_or_from_slice_get, slice_get_cases}
use Rattle.verilog_tree.specs.declared.terminal.Terminal.{Terminal}
use Rattle.verilog_tree.specs.Grammar.{Is}
use Rattle.verilog_tree.specs.Predict.{Symbol, Choice, Begins, Skips, Wrong, after, then_due, next, onward, fault, is_end, may_vanish, Leads, Sticks, Fails, Answers}
use Rattle.verilog_tree.specs.declared.reader.Read.{Read}
use Rattle.verilog_tree.specs.declared.reader.Stop.{Stop as StopOf}
use Rattle.verilog_tree.specs.declared.reader.Stop.TheVariants as Stop

-- the terminals from a place on begin with the one there
pub drop_here : (ts : List Terminal) (k : ℕ) (t : Terminal) → slice_get ts k ≡ Some t → drop k ts ≡ t ∷ drop (k + 1) ts
drop_here ts k t e =
    rw (add-one k)
    (drop-cons ts k t (slice_get_within ts k t e) ∙ ap (λ x. x ∷ drop (suc k) ts) (get_or_from_slice_get ts k t t e))

pub drop_end : (ts : List Terminal) (k : ℕ) → slice_get ts k ≡ None → drop k ts ≡ []
drop_end ts k e =
    elim (slice_get_cases ts k).1 [ inl w ↦ (let no : ⊥ = (let h : slice_get ts k ≡ Some w.0 = w.2 in cc) in absurd no) | inr w ↦ drop_all k ts w.0 ]

-- a place where a terminal stands is inside the list, and so is the next
pub here_within : (ts : List Terminal) (k : ℕ) (t : Terminal) → slice_get ts k ≡ Some t → k + 1 ≤ length ts
here_within ts k t e = let h : k < length ts = slice_get_within ts k t e in omega arith

-- what a terminal makes of a choice
abbrev pub onto : Choice → List Symbol → Option (List Symbol) → Terminal → List Terminal → Option (List Terminal)
onto c below skipped t ts = elim (onward c below skipped) [ None ↦ Some (t ∷ ts) | Some later ↦ fault later ts ]

fault_at : (s : Symbol) (below : List Symbol) (t : Terminal) (ts : List Terminal) (c : Choice) →
    after s t ≡ c → fault (s ∷ below) (t ∷ ts) ≡ onto c below (next below t) t ts
fault_at s below t ts c e = ap (λ d. onto d below (next below t) t ts) e

-- a terminal that begins a part
pub begins : {ts : List Terminal} {k : ℕ} {t : Terminal} {s : Symbol} (parts rest : List Symbol) →
    slice_get ts k ≡ Some t → after s t ≡ Begins parts → Leads ts (s ∷ rest) k (parts ++ rest) (k + 1)
begins {ts} {k} {t} {s} parts rest e b = record {
  leads = λ below.
      ap (fault (s ∷ (rest ++ below))) (drop_here ts k t e)
      ∙ fault_at s (rest ++ below) t (drop (k + 1) ts) (Begins parts) b
      ∙ ap (λ x. fault x (drop (k + 1) ts)) (sym (append_assoc parts rest below));
}

-- a terminal that shows that a part is absent
skips_here : {ts : List Terminal} {k : ℕ} {t : Terminal} {s : Symbol} (rest : List Symbol) →
    slice_get ts k ≡ Some t → after s t ≡ Skips → Leads ts (s ∷ rest) k rest k
skips_here {ts} {k} {t} {s} rest e b = record {
  leads = λ below.
      ap (fault (s ∷ (rest ++ below))) (drop_here ts k t e)
      ∙ fault_at s (rest ++ below) t (drop (k + 1) ts) Skips b
      ∙ ap (fault (rest ++ below)) (sym (drop_here ts k t e));
}

skips_end : {ts : List Terminal} {k : ℕ} {s : Symbol} (rest : List Symbol) →
    slice_get ts k ≡ None → may_vanish s ≡ true → Leads ts (s ∷ rest) k rest k
skips_end {ts} {k} {s} rest e b = record {
  leads = λ below.
      ap (fault (s ∷ (rest ++ below))) (drop_end ts k e)
      ∙ ap (λ v. if (v && is_end (rest ++ below)) then None else Some []) b
      ∙ ap (fault (rest ++ below)) (sym (drop_end ts k e));
}

-- a part is absent where no terminal begins it
pub skips : (ts : List Terminal) (k : ℕ) (s : Symbol) → may_vanish s ≡ true →
    ((t : Terminal) → slice_get ts k ≡ Some t → after s t ≡ Skips) → Leads ts (s ∷ []) k [] k
skips ts k s v h = go (slice_get ts k) refl
  where
    go : (o : Option Terminal) → slice_get ts k ≡ o → Leads ts (s ∷ []) k [] k
    go None e = skips_end [] e v
    go (Some t) e = skips_here [] e (h t e)

-- the text is wrong where a terminal can neither begin a part nor leave it out
wrong_here : {ts : List Terminal} {k : ℕ} {t : Terminal} {s : Symbol} (rest : List Symbol) →
    k ≤ length ts → slice_get ts k ≡ Some t → after s t ≡ Wrong → Sticks ts (s ∷ rest) k k
wrong_here {ts} {k} {t} {s} rest w e b = record {
  stuck = λ below.
      ap (fault (s ∷ (rest ++ below))) (drop_here ts k t e)
      ∙ fault_at s (rest ++ below) t (drop (k + 1) ts) Wrong b
      ∙ ap Some (sym (drop_here ts k t e));
  inside = w;
}

wrong_end : {ts : List Terminal} {k : ℕ} {s : Symbol} (rest : List Symbol) →
    k ≤ length ts → slice_get ts k ≡ None → may_vanish s ≡ false → Sticks ts (s ∷ rest) k k
wrong_end {ts} {k} {s} rest w e b = record {
  stuck = λ below.
      ap (fault (s ∷ (rest ++ below))) (drop_end ts k e)
      ∙ ap (λ v. if (v && is_end (rest ++ below)) then None else Some []) b
      ∙ ap Some (sym (drop_end ts k e));
  inside = w;
}

pub wrong : (ts : List Terminal) (k : ℕ) (s : Symbol) (rest : List Symbol) → k ≤ length ts → may_vanish s ≡ false →
    ((t : Terminal) → slice_get ts k ≡ Some t → after s t ≡ Wrong) → Fails ts (s ∷ rest) k (Stop.Stuck k)
wrong ts k s rest w v h = record {
  sticks = λ p e. let same : k ≡ p = cc in subst (λ (q : ℕ). Sticks ts (s ∷ rest) k q) same (go (slice_get ts k) refl);
}
  where
    go : (o : Option Terminal) → slice_get ts k ≡ o → Sticks ts (s ∷ rest) k k
    go None e = wrong_end rest w e v
    go (Some t) e = wrong_here rest w e (h t e)

-- one part after another
pub passes : {ts : List Terminal} {from : List Symbol} {k m n : ℕ} {s : Symbol} {rest : List Symbol} →
    Leads ts from k (s ∷ rest) m → Leads ts (s ∷ []) m [] n → Leads ts from k rest n
passes {rest = rest} a b = record { leads = λ below. a.leads below ∙ b.leads (rest ++ below) }

pub follow : {ts : List Terminal} {a b c : List Symbol} {k m n : ℕ} → Leads ts a k b m → Leads ts b m c n → Leads ts a k c n
follow p q = record { leads = λ below. p.leads below ∙ q.leads below }

pub passes_two : {ts : List Terminal} {from : List Symbol} {k m n : ℕ} {s s' : Symbol} {rest : List Symbol} →
    Leads ts from k (s ∷ s' ∷ rest) m → Leads ts (s ∷ s' ∷ []) m [] n → Leads ts from k rest n
passes_two {rest = rest} a b = record { leads = λ below. a.leads below ∙ b.leads (rest ++ below) }

-- a part that begins as another part does, after which these are due
unfolds_at : (s x : Symbol) (rest below : List Symbol) (t : Terminal) (ts : List Terminal) (c : Choice) → after x t ≡ c → (c ≡ Skips → ⊥) →
    after s t ≡ then_due (after x t) rest → fault (s ∷ below) (t ∷ ts) ≡ fault (x ∷ (rest ++ below)) (t ∷ ts)
unfolds_at s x rest below t ts (Begins parts) e no_skip h =
    fault_at s below t ts (Begins (parts ++ rest)) (h ∙ ap (λ c. then_due c rest) e)
    ∙ ap (λ p. fault p ts) (append_assoc parts rest below)
    ∙ sym (fault_at x (rest ++ below) t ts (Begins parts) e)
unfolds_at s x rest below t ts Skips e no_skip h = absurd (no_skip refl)
unfolds_at s x rest below t ts Wrong e no_skip h =
    fault_at s below t ts Wrong (h ∙ ap (λ c. then_due c rest) e) ∙ sym (fault_at x (rest ++ below) t ts Wrong e)

pub unfolds : (ts : List Terminal) (k : ℕ) (s x : Symbol) (rest : List Symbol) → may_vanish s ≡ false → may_vanish x ≡ false →
    ((t : Terminal) → after x t ≡ Skips → ⊥) →
    ((t : Terminal) → slice_get ts k ≡ Some t → after s t ≡ then_due (after x t) rest) → Leads ts (s ∷ []) k (x ∷ rest) k
unfolds ts k s x rest v w no_skip h = record { leads = λ below. go below (slice_get ts k) refl }
  where
    go : (below : List Symbol) (o : Option Terminal) → slice_get ts k ≡ o → fault (s ∷ below) (drop k ts) ≡ fault (x ∷ (rest ++ below)) (drop k ts)
    go below None e =
        ap (fault (s ∷ below)) (drop_end ts k e)
        ∙ ap (λ b. if (b && is_end below) then None else Some []) v
        ∙ sym (ap (λ b. if (b && is_end (rest ++ below)) then None else Some []) w)
        ∙ sym (ap (fault (x ∷ (rest ++ below))) (drop_end ts k e))
    go below (Some t) e =
        ap (fault (s ∷ below)) (drop_here ts k t e)
        ∙ unfolds_at s x rest below t (drop (k + 1) ts) (after x t) refl (no_skip t) (h t e)
        ∙ sym (ap (fault (x ∷ (rest ++ below))) (drop_here ts k t e))

-- where a later part fails, the whole does
pub fails_from : {ts : List Terminal} {a b : List Symbol} {k m : ℕ} {stop : StopOf} → Leads ts a k b m → Fails ts b m stop → Fails ts a k stop
fails_from l f = record {
  sticks = λ p e. let g = f.sticks p e in record { stuck = λ below. l.leads below ∙ g.stuck below; inside = g.inside };
}

pub fails_two : {ts : List Terminal} {from : List Symbol} {k m : ℕ} {s s' : Symbol} {rest : List Symbol} {stop : StopOf} →
    Leads ts from k (s ∷ s' ∷ rest) m → Fails ts (s ∷ s' ∷ []) m stop → Fails ts from k stop
fails_two {rest = rest} a f = record {
  sticks = λ p e. let g = f.sticks p e in record { stuck = λ below. a.leads below ∙ g.stuck (rest ++ below); inside = g.inside };
}

-- the answer of a part that is the whole from here on
pub answers_from : {A : Type 0} {ts : List Terminal} {a b : List Symbol} {k m : ℕ} (X Y : ℕ → ℕ → A → Type 0) (r : Result (Read A) StopOf) →
    Leads ts a k b m → k ≤ m → ((n : ℕ) (x : A) → X m n x → Y k n x) → Answers ts b X m r → Answers ts a Y k r
answers_from X Y (Ok r) l w into f = record {
  stands = into r.next r.node f.stands;
  goes = follow l f.goes;
  forward = (let g = f.forward in omega arith);
  inside = f.inside;
}
answers_from X Y (Err stop) l w into f = fails_from l f

pub fails_after : {ts : List Terminal} {from : List Symbol} {k m : ℕ} {s : Symbol} {rest : List Symbol} {stop : StopOf} →
    Leads ts from k (s ∷ rest) m → Fails ts (s ∷ []) m stop → Fails ts from k stop
fails_after {rest = rest} a f = record {
  sticks = λ p e. let g = f.sticks p e in record { stuck = λ below. a.leads below ∙ g.stuck (rest ++ below); inside = g.inside };
}

pub fails_memory : (ts : List Terminal) (parts : List Symbol) (k : ℕ) (stop : StopOf) → stop ≡ Stop.NoMemory → Fails ts parts k stop
fails_memory ts parts k stop e = record { sticks = λ p f. absurd (let no : ⊥ = cc in no) }

-- the answer where a callee's want or fault is passed on
pub answered : {A : Type 0} {ts : List Terminal} {parts : List Symbol} {k : ℕ} (X : ℕ → ℕ → A → Type 0) (r : Result (Read A) StopOf) (stop : StopOf) →
    IsErr r → IsErrAnd r (λ e. e ≡ stop) → Fails ts parts k stop → Answers ts parts X k r
answered X (Ok x) stop i j f = absurd (let no : ⊥ = cc in no)
answered {ts = ts} {parts = parts} {k = k} X (Err e) stop i j f = subst (λ (s : StopOf). Fails ts parts k s) (sym j) f

-- the same at the first part that is due
pub halted : {A : Type 0} {ts : List Terminal} {parts rest : List Symbol} {s : Symbol} {k m : ℕ} {stop : StopOf} (X : ℕ → ℕ → A → Type 0) (r : Result (Read A) StopOf) →
    IsErr r × IsErrAnd r (λ e. e ≡ stop) → Leads ts parts k (s ∷ rest) m → Fails ts (s ∷ []) m stop → Answers ts parts X k r
halted {stop = stop} X r f l e = answered X r stop f.0 f.1 (fails_after l e)

-- the same where all that is due fails
pub halted_all : {A : Type 0} {ts : List Terminal} {parts rest : List Symbol} {k m : ℕ} {stop : StopOf} (X : ℕ → ℕ → A → Type 0) (r : Result (Read A) StopOf) →
    IsErr r × IsErrAnd r (λ e. e ≡ stop) → Leads ts parts k rest m → Fails ts rest m stop → Answers ts parts X k r
halted_all {stop = stop} X r f l e = answered X r stop f.0 f.1 (fails_from l e)

-- nothing has been read yet
pub stays : {ts : List Terminal} {parts : List Symbol} {k : ℕ} → Leads ts parts k parts k
stays = record { leads = λ below. refl }

-- what is read from the next place on ends behind this one
pub further : {A : Type 0} (ts : List Terminal) (parts : List Symbol) (X : ℕ → ℕ → A → Type 0) (k : ℕ) (r : Result (Read A) StopOf) →
    Answers ts parts X (k + 1) r → IfOk r (λ x. k < x.next)
further ts parts X k (Ok r) f = (let w = f.forward in omega arith)
further ts parts X k (Err stop) f = tt
