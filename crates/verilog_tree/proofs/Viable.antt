-- What prediction has passed begins a source text; what it refuses begins none.
use Rattle.std.proofs.Common.{◌≡◌, ℕ, suc, ◌+◌, ◌-◌, ◌≤◌, ◌<◌, List, [], ◌∷◌, ◌++◌, Option, Some, None, Bool, true, false, if◌then◌else◌, ◌&&◌, slice_get, length, take, drop, refl, sym, ◌∙◌, ap, subst, add-zero, zero-add, add-one, append-nil, append_assoc, length-append, length-drop, length-take, arith}
use Rattle.std.proofs.Math.Seq.{drop-append_seam, take-append_seam}
use Rattle.std.proofs.lemmas.List.{drop-drop, drop_all, take-append-drop, take_more, take_all}
use Rattle.std.proofs.lemmas.Option.{get_or_from_slice_get, slice_get_within}
use Rattle.verilog_tree.specs.declared.terminal.Terminal.{Terminal}
use Rattle.verilog_tree.specs.declared.terminal.Terminal.TheVariants.{Name, Number, Constant, Module, EndModule, Direction, OpenParen, CloseParen, CloseBracket, CloseBrace, Comma, Semicolon, Equals, Dot}
use Rattle.verilog_tree.specs.declared.source.Dir.TheVariants.{Input}
use Rattle.verilog_tree.specs.declared.source.Module.{Module as ModuleTree}
use Rattle.verilog_tree.specs.declared.source.Source.{Source}
use Rattle.verilog_tree.specs.declared.source.Expr.TheVariants as tree
use Rattle.verilog_tree.specs.Terminal.{code_of}
use Rattle.verilog_tree.specs.Grammar as grammar
use Rattle.verilog_tree.specs.Grammar.{Is, IsModule, IsSource, Many, none, absent, no_wire, no_head}
use Rattle.verilog_tree.specs.Source as text
use Rattle.verilog_tree.specs.Source.{FirstFault}
use Rattle.verilog_tree.specs.Predict.{Symbol, Choice, Begins, Skips, Wrong, is_same, after, next, onward, fault, is_end, source, module_, ports, header, one, port, items, item, number, due, wire, range, select, select_end, expr, brace, left, place, value, net, pair, label, prim, inst, links, link, more}
use Rattle.verilog_tree.proofs.Pushing.{another}
use Rattle.verilog_tree.proofs.Due.{drop_here, drop_end}
use Rattle.verilog_tree.proofs.Terminals.{is_same_self}
use Rattle.verilog_tree.proofs.Standing.{Runs, last, again, Same, CommaThen, Stands, Due}
use Rattle.verilog_tree.proofs.Backward.{Back, back, split}
use Rattle.verilog_tree.proofs.PassingItems.{source_goes}

-- what is due after some terminals, if all of them can stand
abbrev pub reach : List Symbol → List Terminal → Option (List Symbol)
reach parts [] = Some parts
reach parts (t ∷ ts) = elim (next parts t) [ None ↦ None | Some later ↦ reach later ts ]

due_append : (ts : List Terminal) (parts rest : List Symbol) (k m n : ℕ) → Due ts parts k m → Due ts rest m n → Due ts (parts ++ rest) k n
due_append ts [] rest k m n d r = subst (λ (j : ℕ). Due ts rest j n) (sym d) r
due_append ts (s ∷ []) [] k m n d r = subst (λ (j : ℕ). Stands ts s k j) r d
due_append ts (s ∷ []) (x ∷ rest) k m n d r = (m, d, r)
due_append ts (s ∷ s' ∷ parts) rest k m n d r = (d.0, d.1, due_append ts (s' ∷ parts) rest d.0 m n d.2 r)

next_back : (ts : List Terminal) (st : List Symbol) (t : Terminal) (k n : ℕ) (d : List Symbol) →
    slice_get ts k ≡ Some t → next st t ≡ Some d → Due ts d (k + 1) n → Due ts st k n
next_back ts [] t k n d e f g = absurd (let no : ⊥ = cc in no)
next_back ts (s ∷ below) t k n d e f g = go (after s t) refl f (λ h. next_back ts below t k n d e h g)
  where
    go : (c : Choice) → after s t ≡ c → onward c below (next below t) ≡ Some d → (next below t ≡ Some d → Due ts below k n) → Due ts (s ∷ below) k n
    go (Begins parts) h f rec =
        (let same : parts ++ below ≡ d = cc in
        let q = split ts parts below (k + 1) n (subst (λ x. Due ts x (k + 1) n) (sym same) g) in
        let b : Back ts s k (Begins parts) = subst (λ c. Back ts s k c) h (back ts s t k e) in
        due_append ts (s ∷ []) below k q.0 n (b q.0 q.1.0) q.1.1)
    go Skips h f rec =
        (let b : Back ts s k Skips = subst (λ c. Back ts s k c) h (back ts s t k e) in
        due_append ts (s ∷ []) below k k n b (rec f))
    go Wrong h f rec = absurd (let no : ⊥ = cc in no)

-- the place of the first of some terminals
first_here : (ts : List Terminal) (k : ℕ) (t : Terminal) (us : List Terminal) → drop k ts ≡ t ∷ us → (slice_get ts k ≡ Some t) × (drop (k + 1) ts ≡ us)
first_here ts k t us e = go (slice_get ts k) refl
  where
    go : (o : Option Terminal) → slice_get ts k ≡ o → (slice_get ts k ≡ Some t) × (drop (k + 1) ts ≡ us)
    go None f = absurd (let g = drop_end ts k f in let no : ⊥ = cc in no)
    go (Some u) f = (let g = drop_here ts k u f in let same : u ≡ t = cc in let rest : drop (k + 1) ts ≡ us = cc in (f ∙ ap (λ x. Some x) same, rest))

pub reach_back : (ts : List Terminal) (front rest : List Terminal) (k n : ℕ) (st d : List Symbol) → drop k ts ≡ front ++ rest →
    reach st front ≡ Some d → Due ts d (k + length front) n → Due ts st k n
reach_back ts [] rest k n st d e f g =
    let same : st ≡ d = cc in subst (λ x. Due ts x k n) (sym same) (subst (λ (j : ℕ). Due ts d j n) (add-zero k) g)
reach_back ts (t ∷ front) rest k n st d e f g = go (next st t) refl f (λ later h. reach_back ts front rest (k + 1) n later d (first_here ts k t (front ++ rest) e).1 h
    (subst (λ (j : ℕ). Due ts d j n) shift g))
  where
    shift : k + length (t ∷ front) ≡ k + 1 + length front
    shift = omega arith

    go : (o : Option (List Symbol)) → next st t ≡ o → elim o [ None ↦ None | Some later ↦ reach later front ] ≡ Some d →
        ((later : List Symbol) → reach later front ≡ Some d → Due ts later (k + 1) n) → Due ts st k n
    go None h f rec = absurd (let no : ⊥ = cc in no)
    go (Some later) h f rec = next_back ts st t k n later (first_here ts k t (front ++ rest) e).0 h (rec later f)

-- terminals that are enough for a part
word : Symbol → List Terminal
word source = []
word module_ = Module ∷ Name ∷ Semicolon ∷ EndModule ∷ []
word ports = []
word header = CloseParen ∷ []
word one = Direction Input ∷ Name ∷ []
word port = Name ∷ []
word items = EndModule ∷ []
word item = Name ∷ Name ∷ OpenParen ∷ CloseParen ∷ Semicolon ∷ []
word number = Number 0 ∷ []
word (due u) = u ∷ []
word wire = []
word range = []
word select = []
word select_end = CloseBracket ∷ []
word expr = Constant ∷ []
word brace = Constant ∷ CloseBrace ∷ []
word left = Name ∷ []
word place = []
word value = []
word net = Name ∷ []
word pair = Name ∷ Equals ∷ Constant ∷ []
word label = []
word prim = OpenParen ∷ Constant ∷ Comma ∷ Constant ∷ CloseParen ∷ []
word inst = Name ∷ OpenParen ∷ CloseParen ∷ []
word links = CloseParen ∷ []
word link = Dot ∷ Name ∷ OpenParen ∷ CloseParen ∷ []
word (more x end) = end ∷ []

whole : (ts : List Terminal) (s : Symbol) (front rest : List Terminal) (k : ℕ) → drop k ts ≡ front ++ rest → reach (s ∷ []) front ≡ Some [] → Stands ts s k (k + length front)
whole ts s front rest k e f = reach_back ts front rest k (k + length front) (s ∷ []) [] e f refl

same_here : (ts : List Terminal) (k : ℕ) (u : Terminal) (rest : List Terminal) → drop k ts ≡ u ∷ rest → Same ts u k (k + 1)
same_here ts k u rest e = record { which = u; is = record { here = (first_here ts k u rest e).0; after = refl }; same = is_same_self u }

-- they stand for it
stands_word : (ts : List Terminal) (s : Symbol) (rest : List Terminal) (k : ℕ) → drop k ts ≡ word s ++ rest → Stands ts s k (k + length (word s))
unfolding word
stands_word ts source rest k e = last k (k + 0) (sym (add-zero k))
stands_word ts module_ rest k e = whole ts module_ (word module_) rest k e refl
stands_word ts ports rest k e = subst (λ (j : ℕ). Stands ts ports k j) (sym (add-zero k)) ([], no_head k)
stands_word ts header rest k e = whole ts header (word header) rest k e refl
stands_word ts one rest k e = whole ts one (word one) rest k e refl
stands_word ts port rest k e = whole ts port (word port) rest k e refl
stands_word ts items rest k e = whole ts items (word items) rest k e refl
stands_word ts item rest k e = whole ts item (word item) rest k e refl
stands_word ts number rest k e = whole ts number (word number) rest k e refl
stands_word ts (due u) rest k e = same_here ts k u rest e
stands_word ts wire rest k e = subst (λ (j : ℕ). Stands ts wire k j) (sym (add-zero k)) (no_wire k)
stands_word ts range rest k e = subst (λ (j : ℕ). Stands ts range k j) (sym (add-zero k)) (None, absent k)
stands_word ts select rest k e = subst (λ (j : ℕ). Stands ts select k j) (sym (add-zero k)) (λ j i. (tree.Whole j, grammar.whole j k i))
stands_word ts select_end rest k e = whole ts select_end (word select_end) rest k e refl
stands_word ts expr rest k e = whole ts expr (word expr) rest k e refl
stands_word ts brace rest k e = whole ts brace (word brace) rest k e refl
stands_word ts left rest k e =
    (tree.Whole k, grammar.left_named k (k + 1) (tree.Whole k) (grammar.whole k (k + 1) (record { here = (first_here ts k Name rest e).0; after = refl })))
stands_word ts place rest k e = subst (λ (j : ℕ). Stands ts place k j) (sym (add-zero k)) (None, absent k)
stands_word ts value rest k e = subst (λ (j : ℕ). Stands ts value k j) (sym (add-zero k)) (None, absent k)
stands_word ts net rest k e =
    (record { name = k; value = None }, grammar.net k (k + 1) (k + 1) None (record { here = (first_here ts k Name rest e).0; after = refl }) (absent (k + 1)))
stands_word ts pair rest k e = whole ts pair (word pair) rest k e refl
stands_word ts label rest k e = subst (λ (j : ℕ). Stands ts label k j) (sym (add-zero k)) (None, absent k)
stands_word ts prim rest k e = whole ts prim (word prim) rest k e refl
stands_word ts inst rest k e = whole ts inst (word inst) rest k e refl
stands_word ts links rest k e = whole ts links (word links) rest k e refl
stands_word ts link rest k e = whole ts link (word link) rest k e refl
stands_word ts (more x end) rest k e = last k (k + 1) (same_here ts k end rest e)

-- terminals that are enough for all that is due
complete : List Symbol → List Terminal
complete [] = []
complete (s ∷ parts) = word s ++ complete parts

complete_due : (ts : List Terminal) (parts : List Symbol) (k : ℕ) → k ≤ length ts → drop k ts ≡ complete parts → Due ts parts k (length ts)
unfolding complete
complete_due ts [] k w e =
    let none_left : length ts - k ≡ 0 = sym (length-drop k ts) ∙ ap (λ (l : List Terminal). length l) e in omega arith
complete_due ts (s ∷ parts) k w e =
    let rest : drop (k + length (word s)) ts ≡ complete parts =
    sym (drop-drop (length (word s)) k ts) ∙ ap (drop (length (word s))) e ∙ drop-append_seam (word s) (complete parts) in
    let long : length ts - k ≡ length (word s) + length (complete parts) =
    sym (length-drop k ts) ∙ ap (λ (l : List Terminal). length l) e ∙ length-append (word s) (complete parts) in
    due_append ts (s ∷ []) parts k (k + length (word s)) (length ts) (stands_word ts s (complete parts) k e)
    (complete_due ts parts (k + length (word s)) (omega arith) rest)

many_modules : (ts : List Terminal) (k n : ℕ) (xs : List ModuleTree) → Many (IsModule ts) 0 k xs →
    Runs (λ j m. (x : ModuleTree) × IsModule ts j m x) (λ j m. j ≡ m) k n → (ys : List ModuleTree) × Many (IsModule ts) 0 n ys
many_modules ts _ _ xs r (last k n e) = (xs, subst (λ (j : ℕ). Many (IsModule ts) 0 j xs) e r)
many_modules ts _ _ xs r (again k m n x rest) = many_modules ts m n (xs ++ x.0 ∷ []) (another 0 k m xs x.0 r x.1) rest

-- terminals that prediction passes begin a source text
pub begins_text : (front : List Terminal) (d : List Symbol) → reach (source ∷ []) front ≡ Some d → text.Begins front
begins_text front d e =
    let ts = front ++ complete d in
    let at_end : drop (length front) ts ≡ complete d = drop-append_seam front (complete d) in
    let inside : length front ≤ length ts = simp length-append (omega arith) in
    let later : Due ts d (0 + length front) (length ts) =
    subst (λ (j : ℕ). Due ts d j (length ts)) (sym (zero-add (length front))) (complete_due ts d (length front) inside at_end) in
    let ms = many_modules ts 0 (length ts) [] (none 0) (reach_back ts front (complete d) 0 (length ts) (source ∷ []) d refl e later) in
    (complete d, record { modules = ms.0 }, ms.1)

reach_fault : (front rest : List Terminal) (st d : List Symbol) → reach st front ≡ Some d → fault st (front ++ rest) ≡ fault d rest
reach_fault [] rest st d e = (let same : st ≡ d = cc in ap (λ x. fault x rest) same)
reach_fault (t ∷ front) rest st d e = go (next st t) e (λ later h. reach_fault front rest later d h)
  where
    go : (o : Option (List Symbol)) → elim o [ None ↦ None | Some later ↦ reach later front ] ≡ Some d →
        ((later : List Symbol) → reach later front ≡ Some d → fault later (front ++ rest) ≡ fault d rest) →
        elim o [ None ↦ Some (t ∷ (front ++ rest)) | Some later ↦ fault later (front ++ rest) ] ≡ fault d rest
    go None f rec = absurd (let no : ⊥ = cc in no)
    go (Some later) f rec = rec later f

-- prediction finds no fault in a source text
source_passed : (ts : List Terminal) (tree : Source) → IsSource ts tree → fault (source ∷ []) ts ≡ None
source_passed ts tree s = (source_goes ts 0 (length ts) tree.modules s).leads [] ∙ ap (fault (source ∷ [])) (drop_all (length ts) ts (omega arith))

-- where prediction stops: before the first of these terminals, or where they end
abbrev pub Halts : List Symbol → List Terminal → Type 0
Halts d [] = is_end d ≡ false
Halts d (t ∷ rest) = next d t ≡ None

pub fault_split : (ts rest : List Terminal) (st : List Symbol) → fault st ts ≡ Some rest →
    (front : List Terminal) × ((d : List Symbol) × ((ts ≡ front ++ rest) × (reach st front ≡ Some d) × Halts d rest))
fault_split [] rest st e = go (is_end st) refl e
  where
    go : (b : Bool) → is_end st ≡ b → (if b then None else Some []) ≡ Some rest →
        (front : List Terminal) × ((d : List Symbol) × (([] ≡ front ++ rest) × (reach st front ≡ Some d) × Halts d rest))
    go true f g = absurd (let no : ⊥ = cc in no)
    go false f g = (let same : [] ≡ rest = cc in ([], (st, (same, refl, subst (λ l. Halts st l) same f))))
fault_split (t ∷ ts) rest st e = go (next st t) refl e (λ later h. fault_split ts rest later h)
  where
    go : (o : Option (List Symbol)) → next st t ≡ o → elim o [ None ↦ Some (t ∷ ts) | Some later ↦ fault later ts ] ≡ Some rest →
        ((later : List Symbol) → fault later ts ≡ Some rest →
        (front : List Terminal) × ((d : List Symbol) × ((ts ≡ front ++ rest) × (reach later front ≡ Some d) × Halts d rest))) →
        (front : List Terminal) × ((d : List Symbol) × ((t ∷ ts ≡ front ++ rest) × (reach st front ≡ Some d) × Halts d rest))
    go None f g rec = (let same : t ∷ ts ≡ rest = cc in ([], (st, (same, refl, subst (λ l. Halts st l) same f))))
    go (Some later) f g rec =
        (let q = rec later g in
        (t ∷ q.0, (q.1.0, (ap (λ l. t ∷ l) q.1.1.0, ap (λ o. elim o [ None ↦ None | Some x ↦ reach x q.0 ]) f ∙ q.1.1.1, q.1.1.2))))

-- where prediction stops at place p, the terminals before it are passed
pub stopped : (ts : List Terminal) (p : ℕ) → p ≤ length ts → fault (source ∷ []) ts ≡ Some (drop p ts) →
    (d : List Symbol) × ((reach (source ∷ []) (take p ts) ≡ Some d) × Halts d (drop p ts))
stopped ts p w e =
    let q = fault_split ts (drop p ts) (source ∷ []) e in
    let whole : ts ≡ q.0 ++ drop p ts = q.1.1.0 in
    let long : length ts ≡ length q.0 + length (drop p ts) = ap (λ (l : List Terminal). length l) whole ∙ length-append q.0 (drop p ts) in
    let size : length (drop p ts) ≡ length ts - p = length-drop p ts in
    let is_p : length q.0 ≡ p = omega arith in
    let front : q.0 ≡ take p ts =
    sym (take-append_seam q.0 (drop p ts)) ∙ ap (λ (n : ℕ). take n (q.0 ++ drop p ts)) is_p ∙ ap (take p) (sym whole) in
    (q.1.0, (subst (λ l. reach (source ∷ []) l ≡ Some q.1.0) front q.1.1.1, q.1.1.2))

-- the first fault of a text
pub first_fault : (ts : List Terminal) (p : ℕ) (d : List Symbol) → p ≤ length ts → reach (source ∷ []) (take p ts) ≡ Some d →
    ((t : Terminal) → slice_get ts p ≡ Some t → next d t ≡ None) → (p ≡ length ts → is_end d ≡ false) → FirstFault ts p
first_fault ts p d w e refused ended = record {
  inside = w;
  before = begins_text (take p ts) d e;
  up_to = λ more_left b. go (slice_get ts p) refl more_left b;
  at_end = λ f tree s.
      (let all : take p ts ≡ ts = take_all p ts (omega arith) in
      let n : fault (source ∷ []) ts ≡ None = source_passed ts tree s in
      let stop : fault (source ∷ []) (take p ts ++ []) ≡ fault d [] = reach_fault (take p ts) [] (source ∷ []) d e in
      let same : take p ts ++ [] ≡ ts = append-nil (take p ts) ∙ all in
      let some : fault d [] ≡ Some [] = ap (λ (b : Bool). if b then None else Some []) (ended f) in
      let both : fault (source ∷ []) ts ≡ Some [] = sym (ap (fault (source ∷ [])) same) ∙ stop ∙ some in cc);
}
  where
    go : (o : Option Terminal) → slice_get ts p ≡ o → p < length ts → text.Begins (take (p + 1) ts) → ⊥
    go None f h b = (let behind = drop_end ts p f in let size : length (drop p ts) ≡ length ts - p = length-drop p ts in
        let zero_left : length (drop p ts) ≡ 0 = ap (λ (l : List Terminal). length l) behind in absurd (omega arith))
    go (Some t) f h b =
        (let one_more : take (p + 1) ts ≡ take p ts ++ t ∷ [] =
        take_more ts p t h ∙ ap (λ x. take p ts ++ x ∷ []) (get_or_from_slice_get ts p t t f) in
        let us : take (p + 1) ts ++ b.0 ≡ take p ts ++ (t ∷ b.0) = ap (λ l. l ++ b.0) one_more ∙ append_assoc (take p ts) (t ∷ []) b.0 in
        let n : fault (source ∷ []) (take (p + 1) ts ++ b.0) ≡ None = source_passed (take (p + 1) ts ++ b.0) b.1 b.2 in
        let stop : fault (source ∷ []) (take p ts ++ (t ∷ b.0)) ≡ fault d (t ∷ b.0) = reach_fault (take p ts) (t ∷ b.0) (source ∷ []) d e in
        let some : fault d (t ∷ b.0) ≡ Some (t ∷ b.0) = ap (λ o. elim o [ None ↦ Some (t ∷ b.0) | Some later ↦ fault later b.0 ]) (refused t f) in
        let both : fault (source ∷ []) (take (p + 1) ts ++ b.0) ≡ Some (t ∷ b.0) = ap (fault (source ∷ [])) us ∙ stop ∙ some in cc)
