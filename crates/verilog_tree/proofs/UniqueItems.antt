-- There is at most one tree: items, headers, modules and texts.
use Rattle.std.proofs.Common.{◌≡◌, ℕ, ◌+◌, ◌≤◌, ◌⊎◌, inl, inr, List, [], ◌∷◌, ◌++◌, Option, Some, None, Bool, true, false, slice_get, length, refl, sym, ◌∙◌, ap, subst, arith}
use Rattle.std.proofs.lemmas.Option.{slice_get_past}
use Rattle.verilog_tree.specs.declared.terminal.Terminal.{Terminal}
use Rattle.verilog_tree.specs.declared.terminal.Terminal.TheVariants.{Name, Number, Constant, Module, EndModule, Direction, Wire, Supply, Assign, Gate, OpenParen, CloseParen, OpenBracket, CloseBracket, OpenBrace, CloseBrace, Comma, Semicolon, Colon, Equals, Dot}
use Rattle.verilog_tree.specs.declared.source.AssignPair.{AssignPair}
use Rattle.verilog_tree.specs.declared.source.Dir.{Dir}
use Rattle.verilog_tree.specs.declared.source.Expr.{Expr}
use Rattle.verilog_tree.specs.declared.source.IndexRange.{IndexRange}
use Rattle.verilog_tree.specs.declared.source.Inst.{Inst}
use Rattle.verilog_tree.specs.declared.source.Item.{Item}
use Rattle.verilog_tree.specs.declared.source.Item.TheVariants as form
use Rattle.verilog_tree.specs.declared.source.Links.{Links}
use Rattle.verilog_tree.specs.declared.source.Links.TheVariants as connections
use Rattle.verilog_tree.specs.declared.source.Module.{Module as ModuleTree}
use Rattle.verilog_tree.specs.declared.source.NamedLink.{NamedLink}
use Rattle.verilog_tree.specs.declared.source.NetPart.{NetPart}
use Rattle.verilog_tree.specs.declared.source.PortName.{PortName}
use Rattle.verilog_tree.specs.declared.source.GatePart.{GatePart}
use Rattle.verilog_tree.specs.declared.source.Source.{Source}
use Rattle.verilog_tree.specs.Grammar as grammar
use Rattle.verilog_tree.specs.Grammar.{Is, Commas, Optional, absent, present, IsRange, IsExpr, IsName, name, IsValue, IsNet, IsPair, IsTerminals, terminals, IsPrim, IsLink, IsLinks, no_links, ordered, by_name, IsInst, IsWire, no_wire, a_wire, IsItem, ports_item, nets_item, supply_item, assign_item, gates_item, instances_item}
use Rattle.verilog_tree.specs.Predict.{starts}
use Rattle.verilog_tree.proofs.Passing.{Free, free, After, not_after, expr_starts, commas_here}
use Rattle.verilog_tree.proofs.Unique.{at_one, is_one, same_terminal, number_one, unique_left, unique_expr, unique_commas}
use Rattle.verilog_tree.proofs.PassingItems.{names_here, net_here, link_here, places_here}

pub unique_name : (ts : List Terminal) (end : Terminal) (k k' n n' a a' : ℕ) → k ≡ k' → IsName ts k n a → IsName ts k' n' a' → After ts end n → After ts end n' → (n ≡ n') × (a ≡ a')
unique_name ts end _ _ _ _ _ _ p (name k n i) (name k' n' i') f f' = (is_one p i i', p)

-- [ range ] before a name
pub unique_range : (ts : List Terminal) (k k' n n' : ℕ) (r r' : Option IndexRange) → k ≡ k' → Optional (IsRange ts) k n r → Optional (IsRange ts) k' n' r' →
    slice_get ts n ≡ Some Name → slice_get ts n' ≡ Some Name → (n ≡ n') × (r ≡ r')
unique_range ts _ _ _ _ _ _ p (absent k) (absent k') f f' = (p, refl)
unique_range ts _ _ _ _ _ _ p (absent k) (present k' n' _ (grammar.range _ a b c d _ l r o v z w y)) f f' =
    let h : Name ≡ OpenBracket = at_one ts k k' Name OpenBracket p f o.here in absurd (let no : ⊥ = cc in no)
unique_range ts _ _ _ _ _ _ p (present k n _ (grammar.range _ a b c d _ l r o v z w y)) (absent k') f f' =
    let h : OpenBracket ≡ Name = at_one ts k k' OpenBracket Name p o.here f' in absurd (let no : ⊥ = cc in no)
unique_range ts _ _ _ _ _ _ p (present k n _ (grammar.range _ a b c d _ l r o v z w y)) (present k' n' _ (grammar.range _ a' b' c' d' _ l' r' o' v' z' w' y')) f f' =
    let pa = is_one p o o' in let pc = is_one (is_one pa v v') z z' in
    let pl : l ≡ l' = number_one pa v v' in let pr : r ≡ r' = number_one pc w w' in
    (is_one (is_one pc w w') y y', ap (λ (x : ℕ). let q : Option IndexRange = Some (record { left = x; right = r }) in q) pl ∙ ap (λ (x : ℕ). let q : Option IndexRange = Some (record { left = l'; right = x }) in q) pr)

-- [ "wire" ] before a range or a name
pub Next : List Terminal → ℕ → Type 0
Next ts n = (slice_get ts n ≡ Some Name) ⊎ (slice_get ts n ≡ Some OpenBracket)

no_wire_here : (ts : List Terminal) (k k' : ℕ) → k ≡ k' → Next ts k → slice_get ts k' ≡ Some Wire → ⊥
unfolding Next
no_wire_here ts k k' p (inl f) e = (let h : Name ≡ Wire = at_one ts k k' Name Wire p f e in cc)
no_wire_here ts k k' p (inr f) e = (let h : OpenBracket ≡ Wire = at_one ts k k' OpenBracket Wire p f e in cc)

pub unique_wire : (ts : List Terminal) (k k' n n' : ℕ) → k ≡ k' → IsWire ts k n → IsWire ts k' n' → Next ts n → Next ts n' → n ≡ n'
unique_wire ts _ _ _ _ p (no_wire k) (no_wire k') f f' = p
unique_wire ts _ _ _ _ p (no_wire k) (a_wire k' n' i') f f' = absurd (no_wire_here ts k k' p f i'.here)
unique_wire ts _ _ _ _ p (a_wire k n i) (no_wire k') f f' = absurd (no_wire_here ts k' k (sym p) f' i.here)
unique_wire ts _ _ _ _ p (a_wire k n i) (a_wire k' n' i') f f' = is_one p i i'

pub range_next : (ts : List Terminal) (k n : ℕ) (r : Option IndexRange) → Optional (IsRange ts) k n r → slice_get ts n ≡ Some Name → Next ts k
unfolding Next
range_next ts _ _ _ (absent k) f = inl f
range_next ts _ _ _ (present k n _ (grammar.range _ a b c d _ l r o v z w y)) f = inr o.here

item_free : (ts : List Terminal) (end : Terminal) (n : ℕ) → (end ≡ OpenBracket → ⊥) → After ts end n → Free ts n
item_free ts end n other f = not_after ts end OpenBracket n f (λ e. cc) other

unique_value : (ts : List Terminal) (k k' n n' : ℕ) (v v' : Option Expr) → k ≡ k' → Optional (IsValue ts) k n v → Optional (IsValue ts) k' n' v' →
    After ts Semicolon n → After ts Semicolon n' → (n ≡ n') × (v ≡ v')
unique_value ts _ _ _ _ _ _ p (absent k) (absent k') f f' = (p, refl)
unique_value ts _ _ _ _ _ _ p (absent k) (present k' n' _ (grammar.value _ a _ e i s)) f f' =
    absurd (not_after ts Semicolon Equals k f (λ e. cc) (λ e. cc) (ap (slice_get ts) p ∙ i.here))
unique_value ts _ _ _ _ _ _ p (present k n _ (grammar.value _ a _ e i s)) (absent k') f f' =
    absurd (not_after ts Semicolon Equals k' f' (λ e. cc) (λ e. cc) (ap (slice_get ts) (sym p) ∙ i.here))
unique_value ts _ _ _ _ _ _ p (present k n _ (grammar.value _ a _ e i s)) (present k' n' _ (grammar.value _ a' _ e' i' s')) f f' =
    let q = unique_expr ts a a' n n' e e' (is_one p i i') s s' (item_free ts Semicolon n (λ x. cc) f) (item_free ts Semicolon n' (λ x. cc) f') in
    (q.0, ap (λ x. Some x) q.1)

pub unique_net : (ts : List Terminal) (k k' n n' : ℕ) (x x' : NetPart) → k ≡ k' → IsNet ts k n x → IsNet ts k' n' x' →
    After ts Semicolon n → After ts Semicolon n' → (n ≡ n') × (x ≡ x')
unique_net ts _ _ _ _ _ _ p (grammar.net k a n v i s) (grammar.net k' a' n' v' i' s') f f' =
    let q = unique_value ts a a' n n' v v' (is_one p i i') s s' f f' in
    (q.0, ap (λ (j : ℕ). let t : NetPart = record { name = j; value = v } in t) p ∙ ap (λ (u : Option Expr). let t : NetPart = record { name = k'; value = u } in t) q.1)

pub unique_pair : (ts : List Terminal) (k k' n n' : ℕ) (x x' : AssignPair) → k ≡ k' → IsPair ts k n x → IsPair ts k' n' x' →
    After ts Semicolon n → After ts Semicolon n' → (n ≡ n') × (x ≡ x')
unique_pair ts _ _ _ _ _ _ p (grammar.pair k a b n l r s i z) (grammar.pair k' a' b' n' l' r' s' i' z') f f' =
    let q = unique_left ts k k' a a' l l' p s s' (free ts a b Equals i (λ x. cc)) (free ts a' b' Equals i' (λ x. cc)) in
    let y = unique_expr ts b b' n n' r r' (is_one q.0 i i') z z' (item_free ts Semicolon n (λ x. cc) f) (item_free ts Semicolon n' (λ x. cc) f') in
    (y.0, ap (λ (u : Expr). let t : AssignPair = record { left = u; right = r } in t) q.1 ∙ ap (λ (u : Expr). let t : AssignPair = record { left = l'; right = u } in t) y.1)

unique_terminal : (ts : List Terminal) (k k' n n' : ℕ) (x x' : Expr) → k ≡ k' → IsExpr ts k n x → IsExpr ts k' n' x' →
    After ts CloseParen n → After ts CloseParen n' → (n ≡ n') × (x ≡ x')
unique_terminal ts k k' n n' x x' p s s' f f' =
    unique_expr ts k k' n n' x x' p s s' (item_free ts CloseParen n (λ e. cc) f) (item_free ts CloseParen n' (λ e. cc) f')

unique_label : (ts : List Terminal) (k k' n n' m m' : ℕ) (l l' : Option ℕ) → k ≡ k' → Optional (IsName ts) k n l → Optional (IsName ts) k' n' l' →
    Is ts n OpenParen m → Is ts n' OpenParen m' → (n ≡ n') × (l ≡ l')
unique_label ts _ _ _ _ m m' _ _ p (absent k) (absent k') o o' = (p, refl)
unique_label ts _ _ _ _ m m' _ _ p (absent k) (present k' n' _ (name _ _ j)) o o' =
    let h : OpenParen ≡ Name = same_terminal p o j in absurd (let no : ⊥ = cc in no)
unique_label ts _ _ _ _ m m' _ _ p (present k n _ (name _ _ j)) (absent k') o o' =
    let h : Name ≡ OpenParen = same_terminal p j o' in absurd (let no : ⊥ = cc in no)
unique_label ts _ _ _ _ m m' _ _ p (present k n _ (name _ _ j)) (present k' n' _ (name _ _ j')) o o' = (is_one p j j', ap (λ x. Some x) p)

pub unique_prim : (ts : List Terminal) (k k' n n' : ℕ) (x x' : GatePart) → k ≡ k' → IsPrim ts k n x → IsPrim ts k' n' x' →
    After ts Semicolon n → After ts Semicolon n' → (n ≡ n') × (x ≡ x')
unique_prim ts _ _ _ _ _ _ p (grammar.prim k a b c n l es s i (terminals _ _ _ t two) z) (grammar.prim k' a' b' c' n' l' es' s' i' (terminals _ _ _ t' two') z') f f' =
    let q = unique_label ts k k' a a' b b' l l' p s s' i i' in
    let y = unique_commas ts CloseParen (IsExpr ts) (λ e. cc) (unique_terminal ts) b b' c c' es es' (is_one q.0 i i') t t' z.here z'.here in
    (is_one y.0 z z', ap (λ (u : Option ℕ). let x : GatePart = record { name = u; terminals = es } in x) q.1 ∙ ap (λ (u : List Expr). let x : GatePart = record { name = l'; terminals = u } in x) y.1)

absent_starts : (ts : List Terminal) (k k' : ℕ) → k ≡ k' → After ts CloseParen k → starts (slice_get ts k') ≡ true → ⊥
absent_starts ts k k' p (inl f) s = (let g : false ≡ true = sym (ap starts f) ∙ ap starts (ap (slice_get ts) p) ∙ s in cc)
absent_starts ts k k' p (inr f) s = (let g : false ≡ true = sym (ap starts f) ∙ ap starts (ap (slice_get ts) p) ∙ s in cc)

unique_place : (ts : List Terminal) (k k' n n' : ℕ) (x x' : Option Expr) → k ≡ k' → Optional (IsExpr ts) k n x → Optional (IsExpr ts) k' n' x' →
    After ts CloseParen n → After ts CloseParen n' → (n ≡ n') × (x ≡ x')
unique_place ts _ _ _ _ _ _ p (absent k) (absent k') f f' = (p, refl)
unique_place ts _ _ _ _ _ _ p (absent k) (present k' n' e s) f f' = absurd (absent_starts ts k k' p f (expr_starts ts k' n' e s))
unique_place ts _ _ _ _ _ _ p (present k n e s) (absent k') f f' = absurd (absent_starts ts k' k (sym p) f' (expr_starts ts k n e s))
unique_place ts _ _ _ _ _ _ p (present k n e s) (present k' n' e' s') f f' =
    let q = unique_terminal ts k k' n n' e e' p s s' f f' in (q.0, ap (λ x. Some x) q.1)

unique_link : (ts : List Terminal) (k k' n n' : ℕ) (x x' : NamedLink) → k ≡ k' → IsLink ts k n x → IsLink ts k' n' x' →
    After ts CloseParen n → After ts CloseParen n' → (n ≡ n') × (x ≡ x')
unique_link ts _ _ _ _ _ _ p (grammar.link k a b c d n e i j o s z) (grammar.link k' a' b' c' d' n' e' i' j' o' s' z') f f' =
    let pa = is_one p i i' in
    let q = unique_place ts c c' d d' e e' (is_one (is_one pa j j') o o') s s' (inr z.here) (inr z'.here) in
    (is_one q.0 z z', ap (λ (u : ℕ). let x : NamedLink = record { port = u; expr = e } in x) pa ∙ ap (λ (u : Option Expr). let x : NamedLink = record { port = a'; expr = u } in x) q.1)

-- what the first terminal between parentheses is
links_first : (ts : List Terminal) (k m : ℕ) (ps : List (Option Expr)) → Commas ts (Optional (IsExpr ts)) k m ps → (ps ≡ None ∷ [] → ⊥) →
    (t : Terminal) → starts (Some t) ≡ false → (Comma ≡ t → ⊥) → slice_get ts k ≡ Some t → ⊥
links_first ts k m ps c some t s other e = go (places_here ts k m ps c)
  where
    go : (starts (slice_get ts k) ≡ true) ⊎ ((slice_get ts k ≡ Some Comma) ⊎ ((m ≡ k) × (ps ≡ None ∷ []))) → ⊥
    go (inl f) = (let g : false ≡ true = sym s ∙ ap starts (sym e) ∙ f in cc)
    go (inr (inl f)) = other (at_one ts k k Comma t refl f e)
    go (inr (inr f)) = some f.1

links_dot : (ts : List Terminal) (k m : ℕ) (ls : List NamedLink) → Commas ts (IsLink ts) k m ls → slice_get ts k ≡ Some Dot
links_dot ts k m ls c = commas_here ts (IsLink ts) (λ j. slice_get ts j ≡ Some Dot) (link_here ts) k m ls c

unique_links : (ts : List Terminal) (k k' m m' n n' : ℕ) (x x' : Links) → k ≡ k' → IsLinks ts k m x → IsLinks ts k' m' x' →
    Is ts m CloseParen n → Is ts m' CloseParen n' → (m ≡ m') × (x ≡ x')
unique_links ts _ _ _ _ n n' _ _ p (no_links k) (no_links k') z z' = (p, refl)
unique_links ts _ _ _ _ n n' _ _ p (no_links k) (ordered k' m' ps' c' some') z z' =
    absurd (links_first ts k' m' ps' c' some' CloseParen refl (λ e. cc) (ap (slice_get ts) (sym p) ∙ z.here))
unique_links ts _ _ _ _ n n' _ _ p (no_links k) (by_name k' m' ls' c') z z' =
    let h : CloseParen ≡ Dot = at_one ts k k' CloseParen Dot p z.here (links_dot ts k' m' ls' c') in absurd (let no : ⊥ = cc in no)
unique_links ts _ _ _ _ n n' _ _ p (ordered k m ps c some) (no_links k') z z' =
    absurd (links_first ts k m ps c some CloseParen refl (λ e. cc) (ap (slice_get ts) p ∙ z'.here))
unique_links ts _ _ _ _ n n' _ _ p (ordered k m ps c some) (ordered k' m' ps' c' some') z z' =
    let q = unique_commas ts CloseParen (Optional (IsExpr ts)) (λ e. cc) (unique_place ts) k k' m m' ps ps' p c c' z.here z'.here in (q.0, ap connections.Ordered q.1)
unique_links ts _ _ _ _ n n' _ _ p (ordered k m ps c some) (by_name k' m' ls' c') z z' =
    absurd (links_first ts k m ps c some Dot refl (λ e. cc) (ap (slice_get ts) p ∙ links_dot ts k' m' ls' c'))
unique_links ts _ _ _ _ n n' _ _ p (by_name k m ls c) (no_links k') z z' =
    let h : Dot ≡ CloseParen = at_one ts k k' Dot CloseParen p (links_dot ts k m ls c) z'.here in absurd (let no : ⊥ = cc in no)
unique_links ts _ _ _ _ n n' _ _ p (by_name k m ls c) (ordered k' m' ps' c' some') z z' =
    absurd (links_first ts k' m' ps' c' some' Dot refl (λ e. cc) (ap (slice_get ts) (sym p) ∙ links_dot ts k m ls c))
unique_links ts _ _ _ _ n n' _ _ p (by_name k m ls c) (by_name k' m' ls' c') z z' =
    let q = unique_commas ts CloseParen (IsLink ts) (λ e. cc) (unique_link ts) k k' m m' ls ls' p c c' z.here z'.here in (q.0, ap connections.Named q.1)

pub unique_inst : (ts : List Terminal) (k k' n n' : ℕ) (x x' : Inst) → k ≡ k' → IsInst ts k n x → IsInst ts k' n' x' →
    After ts Semicolon n → After ts Semicolon n' → (n ≡ n') × (x ≡ x')
unique_inst ts _ _ _ _ _ _ p (grammar.inst k a b c n ls i o s z) (grammar.inst k' a' b' c' n' ls' i' o' s' z') f f' =
    let q = unique_links ts b b' c c' n n' ls ls' (is_one (is_one p i i') o o') s s' z z' in
    (is_one q.0 z z', ap (λ (u : ℕ). let x : Inst = record { name = u; links = ls } in x) p ∙ ap (λ (u : Links). let x : Inst = record { name = k'; links = u } in x) q.1)

-- the first terminal of an item
first_of : Item → Terminal
first_of (form.Ports at dir r ns) = Direction dir
first_of (form.Nets at r ns) = Wire
first_of (form.Supply at one r ns) = Supply one
first_of (form.Assign at ps) = Assign
first_of (form.Gates at ps) = Gate
first_of (form.Instances at xs) = Name
