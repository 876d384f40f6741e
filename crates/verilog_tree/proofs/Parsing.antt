-- The answer of a text, from what reading it answered.
use Prim.Native.Nat.{zero}
use Rattle.std.proofs.Common.{◌≡◌, ℕ, suc, ◌+◌, ◌-◌, ◌≤◌, ◌<◌, List, [], ◌∷◌, ◌++◌, Option, Some, None, Bool, true, false, Result, Ok, Err, slice_get, length, take, drop, refl, sym, ◌∙◌, ap, subst, append-nil, length-take, length-drop, arith}
use Rattle.std.proofs.lemmas.List.{take-take, take_all, drop_all}
use Rattle.std.proofs.lemmas.Option.{slice_get_within}
use Rattle.verilog_tree.specs.declared.parser.ParseFault.{ParseFault}
use Rattle.verilog_tree.specs.declared.parser.ParseFault.TheVariants.{Expected, Unsupported, TooDeep, NoMemory}
use Rattle.verilog_tree.specs.declared.reader.Stop.TheVariants as Stop
use Rattle.verilog_tree.specs.declared.source.Source.{Source}
use Rattle.verilog_tree.specs.declared.terminal.Terminal.{Terminal}
use Rattle.verilog_tree.specs.declared.terminal.Terminal.TheVariants.{Reserved}
use Rattle.verilog_tree.specs.Grammar.{IsSource}
use Rattle.verilog_tree.specs.Parsing.{readable, NotBehind, FaultIs}
use Rattle.verilog_tree.specs.Predict.{Symbol, source, next, is_end, fault, Fails}
use Rattle.verilog_tree.specs.Source.{Begins, FirstFault, IsFirstDeep, dives, Explains}
use Rattle.verilog_tree.proofs.Dives.{dives_none, dives_before}
use Rattle.verilog_tree.proofs.Due.{drop_here, drop_end}
use Rattle.verilog_tree.proofs.Viable.{reach, begins_text, stopped, Halts, first_fault}

-- a text that ends in a brace that is too deep was read
pub read_deep : (ts : List Terminal) (p : ℕ) (tree : Source) → IsFirstDeep ts (Some p) → IsSource (take (p + 1) ts) tree → Explains ts (Err (TooDeep p))
read_deep ts p tree f s =
    (f.0, f.1, ([], tree, subst (λ us. IsSource us tree) (sym (append-nil (take (p + 1) ts))) s))

slice_get_take : (ts : List Terminal) (n k : ℕ) → k < n → slice_get (take n ts) k ≡ slice_get ts k
slice_get_take [] zero k w = refl
slice_get_take [] (suc n) k w = refl
slice_get_take (t ∷ ts) zero k w = absurd (omega arith)
slice_get_take (t ∷ ts) (suc n) zero w = refl
slice_get_take (t ∷ ts) (suc n) (suc k) w = slice_get_take ts n k (omega arith)

-- what prediction does at the place where it stopped
refused : (ts : List Terminal) (p : ℕ) (d : List Symbol) → Halts d (drop p ts) → (t : Terminal) → slice_get ts p ≡ Some t → next d t ≡ None
refused ts p d h t e = subst (λ l. Halts d l) (drop_here ts p t e) h

ended : (ts : List Terminal) (p : ℕ) (d : List Symbol) → Halts d (drop p ts) → p ≡ length ts → is_end d ≡ false
ended ts p d h e = subst (λ l. Halts d l) (drop_all p ts (omega arith)) h

-- the first fault, where all terminals were read
fault_of_all : (ts : List Terminal) (p : ℕ) → Fails ts (source ∷ []) 0 (Stop.Stuck p) → FirstFault ts p
fault_of_all ts p f =
    let s = f.sticks p refl in
    let q = stopped ts p s.inside (s.stuck []) in
    first_fault ts p q.0 s.inside q.1.0 (refused ts p q.0 q.1.1) (ended ts p q.0 q.1.1)

-- the first fault before a brace that is too deep
fault_of_part : (ts : List Terminal) (b p : ℕ) → b < length ts → p ≤ b → Fails (take (b + 1) ts) (source ∷ []) 0 (Stop.Stuck p) → FirstFault ts p
fault_of_part ts b p w h f =
    let us = take (b + 1) ts in
    let s = f.sticks p refl in
    let q = stopped us p s.inside (s.stuck []) in
    let front : take p us ≡ take p ts = take-take p (b + 1) ts (omega arith) in
    first_fault ts p q.0 (omega arith) (subst (λ l. reach (source ∷ []) l ≡ Some q.0) front q.1.0)
    (λ t e. refused us p q.0 q.1.1 t (slice_get_take ts (b + 1) p (omega arith) ∙ e))
    (λ e. absurd (omega arith))

-- where reading stopped after that brace, a text goes on from it
goes_on : (ts : List Terminal) (b p : ℕ) → b < length ts → b < p → Fails (take (b + 1) ts) (source ∷ []) 0 (Stop.Stuck p) → Begins (take (b + 1) ts)
goes_on ts b p w h f =
    let us = take (b + 1) ts in
    let s = f.sticks p refl in
    let q = stopped us p s.inside (s.stuck []) in
    let long : length us ≤ b + 1 = simp length-take (omega arith) in
    let all : take p us ≡ us = take_all p us (omega arith) in
    begins_text us q.0 (subst (λ l. reach (source ∷ []) l ≡ Some q.0) all q.1.0)

-- the fault of a text, where reading stopped
pub explained : (ts : List Terminal) (deep : Option ℕ) (p : ℕ) (f : ParseFault) → IsFirstDeep ts deep →
    Fails (readable ts deep) (source ∷ []) 0 (Stop.Stuck p) → FaultIs (readable ts deep) p deep f → Explains ts (Err f)
explained ts deep p NoMemory d e i = tt
explained ts None p (TooDeep b) d e i = absurd (let h : None ≡ Some b = i.0 in let no : ⊥ = cc in no)
explained ts None p (Expected q) d e i =
    subst (λ (r : ℕ). Explains ts (Err (Expected r))) (sym i.0) (fault_of_all ts p e, i.1, dives_none ts 64 p d)
explained ts None p (Unsupported q) d e i =
    subst (λ (r : ℕ). Explains ts (Err (Unsupported r))) (sym i.0) (fault_of_all ts p e, i.1, dives_none ts 64 p d)
explained ts (Some b) p (TooDeep c) d e i =
    let h : Some b ≡ Some c = i.0 in
    let same : b ≡ c = cc in
    subst (λ (r : ℕ). Explains ts (Err (TooDeep r))) same (d.0, d.1, goes_on ts b p d.0 (let w : c < p = i.1 in omega arith) e)
explained ts (Some b) p (Expected q) d e i =
    let w : p ≤ b = i.2 b refl in
    subst (λ (r : ℕ). Explains ts (Err (Expected r))) (sym i.0)
    (fault_of_part ts b p d.0 w e, (λ f. i.1 (slice_get_take ts (b + 1) p (omega arith) ∙ f)), dives_before ts 64 p b d.1 d.0 w)
explained ts (Some b) p (Unsupported q) d e i =
    let w : p ≤ b = i.2 b refl in
    subst (λ (r : ℕ). Explains ts (Err (Unsupported r))) (sym i.0)
    (fault_of_part ts b p d.0 w e, sym (slice_get_take ts (b + 1) p (omega arith)) ∙ i.1, dives_before ts 64 p b d.1 d.0 w)
