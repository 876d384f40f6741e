-- What stands in a text is passed by prediction: the parts of items, items and modules.
use Rattle.std.proofs.Common.{◌≡◌, ℕ, ◌+◌, ◌≤◌, ◌⊎◌, inl, inr, List, [], ◌∷◌, ◌++◌, Option, Some, None, Bool, true, false, if◌then◌else◌, slice_get, length, length-append, refl, sym, ◌∙◌, ap, subst, arith}
use Rattle.verilog_tree.specs.declared.terminal.Terminal.{Terminal}
use Rattle.verilog_tree.specs.declared.terminal.Terminal.TheVariants.{Name, Number, Constant, Module, EndModule, Direction, Wire, Supply, Assign, Gate, OpenParen, CloseParen, OpenBracket, CloseBracket, OpenBrace, CloseBrace, Comma, Semicolon, Colon, Equals, Dot}
use Rattle.verilog_tree.specs.declared.source.AssignPair.{AssignPair}
use Rattle.verilog_tree.specs.declared.source.Dir.{Dir}
use Rattle.verilog_tree.specs.declared.source.Expr.{Expr}
use Rattle.verilog_tree.specs.declared.source.IndexRange.{IndexRange}
use Rattle.verilog_tree.specs.declared.source.Inst.{Inst}
use Rattle.verilog_tree.specs.declared.source.Item.{Item}
use Rattle.verilog_tree.specs.declared.source.Links.{Links}
use Rattle.verilog_tree.specs.declared.source.Module.{Module as ModuleTree}
use Rattle.verilog_tree.specs.declared.source.NamedLink.{NamedLink}
use Rattle.verilog_tree.specs.declared.source.NetPart.{NetPart}
use Rattle.verilog_tree.specs.declared.source.PortName.{PortName}
use Rattle.verilog_tree.specs.declared.source.GatePart.{GatePart}
use Rattle.verilog_tree.specs.Grammar as grammar
use Rattle.verilog_tree.specs.Grammar.{Is, Commas, Optional, absent, present, IsRange, IsExpr, IsLeft, IsName, name, IsValue, IsNet, IsPair, IsTerminals, terminals, IsPrim, IsLink, IsLinks, no_links, ordered, by_name, IsInst, IsWire, no_wire, a_wire, IsItem, ports_item, nets_item, supply_item, assign_item, gates_item, instances_item, IsPlainPort, plain_port, IsOne, IsPorts, first_port, next_one, next_name, IsHeader, no_header, names, directions, IsHead, no_head, head, Many, none, and_more, IsModule, first_item, more_items}
use Rattle.verilog_tree.specs.Predict.{Symbol, Begins, Skips, Wrong, after, after_range, number, due, more, source, module_, ports, header, one, port, items, item, wire, range, expr, left, place, value, net, pair, label, prim, inst, links, link, starts, next, fault, Leads}
use Rattle.verilog_tree.proofs.Due.{begins, passes, passes_two, follow, skips, stays}
use Rattle.verilog_tree.proofs.Begins.{alike, net_begins, pair_begins, inst_begins, link_begins, module_begins, prim_begins, links_named, links_ordered, links_end, place_begins, place_absent, value_absent, label_absent, wire_absent, ports_absent, header_end, header_directions, header_names, port_one, items_item}
use Rattle.verilog_tree.proofs.Instances.{commas_length, not_alone}
use Rattle.verilog_tree.proofs.Passing.{is_goes, step, number_goes, Free, free, After, after_comma, after_end, not_after, expr_goes, expr_starts, left_goes, more_ends, commas_go, commas_close, commas_here}

-- [ range ] before a name
range_goes : (ts : List Terminal) (k n : ℕ) (r : Option IndexRange) → Optional (IsRange ts) k n r → slice_get ts n ≡ Some Name →
    Leads ts (range ∷ []) k [] n × ((slice_get ts k ≡ Some Name) ⊎ (slice_get ts k ≡ Some OpenBracket))
range_goes ts _ _ _ (absent k) here = (skips ts k range refl go, inl here)
  where
    go : (t : Terminal) → slice_get ts k ≡ Some t → after_range t ≡ Skips
    go OpenBracket e = cc
    go _ e = refl
range_goes ts _ _ _ (present k n _ (grammar.range _ a b c d _ l r o v z w y)) here =
    (passes (passes (passes (passes (step (number ∷ due Colon ∷ number ∷ due CloseBracket ∷ []) o refl) (number_goes v)) (is_goes z)) (number_goes w)) (is_goes y), inr o.here)

-- [ "wire" ] before a range or a name
wire_goes : (ts : List Terminal) (k n : ℕ) → IsWire ts k n → (slice_get ts n ≡ Some Name) ⊎ (slice_get ts n ≡ Some OpenBracket) → Leads ts (wire ∷ []) k [] n
wire_goes ts _ _ (no_wire k) here = wire_absent ts k (λ e. go e here)
  where
    go : slice_get ts k ≡ Some Wire → (slice_get ts k ≡ Some Name) ⊎ (slice_get ts k ≡ Some OpenBracket) → ⊥
    go e (inl f) = cc
    go e (inr f) = cc
wire_goes ts _ _ (a_wire k n i) here = step [] i refl

name_goes : (ts : List Terminal) (end : Terminal) (k n : ℕ) (a : ℕ) → IsName ts k n a → After ts end n → Leads ts (due Name ∷ []) k [] n
name_goes ts end _ _ _ (name k n i) f = is_goes i

name_here : (ts : List Terminal) (k n a : ℕ) → IsName ts k n a → slice_get ts k ≡ Some Name
name_here ts _ _ _ (name k n i) = i.here

pub names_here : (ts : List Terminal) (k n : ℕ) (xs : List ℕ) → Commas ts (IsName ts) k n xs → slice_get ts k ≡ Some Name
names_here ts k n xs c = commas_here ts (IsName ts) (λ j. slice_get ts j ≡ Some Name) (name_here ts) k n xs c

value_goes : (ts : List Terminal) (k n : ℕ) (v : Option Expr) → Optional (IsValue ts) k n v → After ts Semicolon n → Leads ts (value ∷ []) k [] n
value_goes ts _ _ _ (absent k) f = value_absent ts k (not_after ts Semicolon Equals k f (λ e. cc) (λ e. cc))
value_goes ts _ _ _ (present k n _ (grammar.value _ a _ e i s)) f =
    passes (step (expr ∷ []) i refl) (expr_goes ts a n e s (not_after ts Semicolon OpenBracket n f (λ e. cc) (λ e. cc)))

net_goes : (ts : List Terminal) (k n : ℕ) (x : NetPart) → IsNet ts k n x → After ts Semicolon n → Leads ts (net ∷ []) k [] n
net_goes ts _ _ _ (grammar.net k a n v i s) f = passes (passes net_begins (is_goes i)) (value_goes ts a n v s f)

pub net_here : (ts : List Terminal) (k n : ℕ) (x : NetPart) → IsNet ts k n x → slice_get ts k ≡ Some Name
net_here ts _ _ _ (grammar.net k a n v i s) = i.here

pair_goes : (ts : List Terminal) (k n : ℕ) (x : AssignPair) → IsPair ts k n x → After ts Semicolon n → Leads ts (pair ∷ []) k [] n
pair_goes ts _ _ _ (grammar.pair k a b n l r s i z) f =
    passes (passes (passes pair_begins (left_goes ts k a l s (free ts a b Equals i (λ e. cc)))) (is_goes i))
    (expr_goes ts b n r z (not_after ts Semicolon OpenBracket n f (λ e. cc) (λ e. cc)))

terminal_goes : (ts : List Terminal) (k n : ℕ) (e : Expr) → IsExpr ts k n e → After ts CloseParen n → Leads ts (expr ∷ []) k [] n
terminal_goes ts k n e s f = expr_goes ts k n e s (not_after ts CloseParen OpenBracket n f (λ x. cc) (λ x. cc))

-- two or more terminals
terminals_go : (ts : List Terminal) (k n : ℕ) (es : List Expr) → Commas ts (IsExpr ts) k n es → 2 ≤ length es → After ts CloseParen n →
    Leads ts (expr ∷ due Comma ∷ expr ∷ more expr CloseParen ∷ []) k (more expr CloseParen ∷ []) n
terminals_go ts _ _ _ (first_item k n e s) two f = absurd (omega arith)
terminals_go ts _ _ _ (more_items k a b n e es s i c) two f =
    follow (passes (passes stays (terminal_goes ts k a e s (after_comma CloseParen i))) (is_goes i))
    (commas_go ts expr CloseParen (IsExpr ts) (terminal_goes ts) b n es c f)

label_goes : (ts : List Terminal) (k n m : ℕ) (l : Option ℕ) → Optional (IsName ts) k n l → Is ts n OpenParen m → Leads ts (label ∷ []) k [] n
label_goes ts _ _ m _ (absent k) i = label_absent ts k (λ e. (let h : slice_get ts k ≡ Some OpenParen = i.here in cc))
label_goes ts _ _ m _ (present k n _ (name _ _ j)) i = step [] j refl

prim_goes : (ts : List Terminal) (k n : ℕ) (x : GatePart) → IsPrim ts k n x → After ts Semicolon n → Leads ts (prim ∷ []) k [] n
prim_goes ts _ _ _ (grammar.prim k a b c n l es s i (terminals _ _ _ t two) z) f =
    follow (follow (passes (passes prim_begins (label_goes ts k a b l s i)) (is_goes i)) (terminals_go ts b c es t two (after_end z)))
    (more_ends ts expr CloseParen c n (λ e. cc) z)

-- a place that may be empty
place_goes : (ts : List Terminal) (k n : ℕ) (e : Option Expr) → Optional (IsExpr ts) k n e → After ts CloseParen n → Leads ts (place ∷ []) k [] n
place_goes ts _ _ _ (absent k) f = place_absent ts k (go f)
  where
    go : After ts CloseParen k → starts (slice_get ts k) ≡ false
    go (inl e) = ap starts e
    go (inr e) = ap starts e
place_goes ts _ _ _ (present k n e s) f = follow (place_begins ts k (expr_starts ts k n e s)) (terminal_goes ts k n e s f)

link_goes : (ts : List Terminal) (k n : ℕ) (x : NamedLink) → IsLink ts k n x → After ts CloseParen n → Leads ts (link ∷ []) k [] n
link_goes ts _ _ _ (grammar.link k a b c d n e i j o s z) f =
    passes (passes (passes (passes (passes link_begins (is_goes i)) (is_goes j)) (is_goes o)) (place_goes ts c d e s (after_end z))) (is_goes z)

pub link_here : (ts : List Terminal) (k n : ℕ) (x : NamedLink) → IsLink ts k n x → slice_get ts k ≡ Some Dot
link_here ts _ _ _ (grammar.link k a b c d n e i j o s z) = i.here

-- places begin with an expression, a comma, or nothing before the end
pub places_here : (ts : List Terminal) (k n : ℕ) (xs : List (Option Expr)) → Commas ts (Optional (IsExpr ts)) k n xs →
    (starts (slice_get ts k) ≡ true) ⊎ ((slice_get ts k ≡ Some Comma) ⊎ ((n ≡ k) × (xs ≡ None ∷ [])))
places_here ts _ _ _ (first_item k n o s) = go k n o s
  where
    go : (k n : ℕ) (o : Option Expr) → Optional (IsExpr ts) k n o → (starts (slice_get ts k) ≡ true) ⊎ ((slice_get ts k ≡ Some Comma) ⊎ ((n ≡ k) × (o ∷ [] ≡ None ∷ [])))
    go _ _ _ (absent k) = inr (inr (refl, refl))
    go _ _ _ (present k n e s) = inl (expr_starts ts k n e s)
places_here ts _ _ _ (more_items k a b n o xs s i c) = go k a b o s i
  where
    go : (k a b : ℕ) (o : Option Expr) → Optional (IsExpr ts) k a o → Is ts a Comma b →
        (starts (slice_get ts k) ≡ true) ⊎ ((slice_get ts k ≡ Some Comma) ⊎ ((n ≡ k) × (o ∷ xs ≡ None ∷ [])))
    go _ _ b _ (absent k) i = inr (inl i.here)
    go _ _ b _ (present k a e s) i = inl (expr_starts ts k a e s)

links_go : (ts : List Terminal) (k m n : ℕ) (x : Links) → IsLinks ts k m x → Is ts m CloseParen n → Leads ts (links ∷ []) k [] n
links_go ts _ _ n _ (no_links k) z = step [] z refl
links_go ts _ _ n _ (ordered k m ps c some) z =
    follow (go (places_here ts k m ps c)) (commas_close ts place CloseParen (Optional (IsExpr ts)) (λ e. cc) (place_goes ts) k m n ps c z)
  where
    not_end : (t : Terminal) → (starts (Some t) ≡ false) → starts (slice_get ts k) ≡ true → slice_get ts k ≡ Some t → ⊥
    not_end t other s e = (let f : true ≡ false = sym s ∙ ap starts e ∙ other in cc)

    go : (starts (slice_get ts k) ≡ true) ⊎ ((slice_get ts k ≡ Some Comma) ⊎ ((m ≡ k) × (ps ≡ None ∷ []))) → Leads ts (links ∷ []) k (place ∷ more place CloseParen ∷ []) k
    go (inl s) = links_ordered ts k (not_end CloseParen refl s) (not_end Dot refl s)
    go (inr (inl e)) = links_ordered ts k (λ f. cc) (λ f. cc)
    go (inr (inr w)) = absurd (some w.1)
links_go ts _ _ n _ (by_name k m ls c) z =
    follow (links_named (commas_here ts (IsLink ts) (λ j. slice_get ts j ≡ Some Dot) (link_here ts) k m ls c))
    (commas_close ts link CloseParen (IsLink ts) (λ e. cc) (link_goes ts) k m n ls c z)

inst_goes : (ts : List Terminal) (k n : ℕ) (x : Inst) → IsInst ts k n x → After ts Semicolon n → Leads ts (inst ∷ []) k [] n
inst_goes ts _ _ _ (grammar.inst k a b c n ls i o s z) f = passes (passes (passes inst_begins (is_goes i)) (is_goes o)) (links_go ts b c n ls s z)

item_goes : (ts : List Terminal) (k n : ℕ) (x : Item) → IsItem ts k n x → Leads ts (item ∷ []) k [] n
item_goes ts _ _ _ (ports_item k a b c d n dir r ns i w o s z) =
    let q = range_goes ts b c r o (names_here ts c d ns s) in
    follow (passes (passes (step (wire ∷ range ∷ due Name ∷ more (due Name) Semicolon ∷ []) i refl) (wire_goes ts a b w q.1)) q.0)
    (commas_close ts (due Name) Semicolon (IsName ts) (λ e. cc) (name_goes ts Semicolon) c d n ns s z)
item_goes ts _ _ _ (nets_item k a b c n r ns i o s z) =
    let q = range_goes ts a b r o (commas_here ts (IsNet ts) (λ j. slice_get ts j ≡ Some Name) (net_here ts) b c ns s) in
    follow (passes (step (range ∷ net ∷ more net Semicolon ∷ []) i refl) q.0)
    (commas_close ts net Semicolon (IsNet ts) (λ e. cc) (net_goes ts) b c n ns s z)
item_goes ts _ _ _ (supply_item k a b c n v r ns i o s z) =
    let q = range_goes ts a b r o (names_here ts b c ns s) in
    follow (passes (step (range ∷ due Name ∷ more (due Name) Semicolon ∷ []) i refl) q.0)
    (commas_close ts (due Name) Semicolon (IsName ts) (λ e. cc) (name_goes ts Semicolon) b c n ns s z)
item_goes ts _ _ _ (assign_item k a b n ps i s z) =
    follow (step (pair ∷ more pair Semicolon ∷ []) i refl) (commas_close ts pair Semicolon (IsPair ts) (λ e. cc) (pair_goes ts) a b n ps s z)
item_goes ts _ _ _ (gates_item k a b n ps i s z) =
    follow (step (prim ∷ more prim Semicolon ∷ []) i refl) (commas_close ts prim Semicolon (IsPrim ts) (λ e. cc) (prim_goes ts) a b n ps s z)
item_goes ts _ _ _ (instances_item k a b n xs i s z) =
    follow (step (inst ∷ more inst Semicolon ∷ []) i refl) (commas_close ts inst Semicolon (IsInst ts) (λ e. cc) (inst_goes ts) a b n xs s z)

plain_goes : (ts : List Terminal) (k n : ℕ) (p : PortName) → IsPlainPort ts k n p → After ts CloseParen n → Leads ts (due Name ∷ []) k [] n
plain_goes ts _ _ _ (plain_port k n i) f = is_goes i

pub plain_here : (ts : List Terminal) (k n : ℕ) (p : PortName) → IsPlainPort ts k n p → slice_get ts k ≡ Some Name
plain_here ts _ _ _ (plain_port k n i) = i.here

one_goes : (ts : List Terminal) (k n : ℕ) (p : PortName) → IsOne ts k n p → Leads ts (one ∷ []) k [] n
one_goes ts _ _ _ (grammar.one k a b c n d r i w o z) =
    let q = range_goes ts b c r o z.here in
    passes (passes (passes (step (wire ∷ range ∷ due Name ∷ []) i refl) (wire_goes ts a b w q.1)) q.0) (is_goes z)

pub one_here : (ts : List Terminal) (k n : ℕ) (p : PortName) → IsOne ts k n p → (d : Dir) × (slice_get ts k ≡ Some (Direction d))
one_here ts _ _ _ (grammar.one k a b c n d r i w o z) = (d, i.here)

one_no_name : (ts : List Terminal) (k n : ℕ) (p : PortName) → IsOne ts k n p → slice_get ts k ≡ Some Name → ⊥
one_no_name ts k n p s e = (let h = one_here ts k n p s in let f : slice_get ts k ≡ Some (Direction h.0) = h.1 in cc)

ports_go : (ts : List Terminal) (k n : ℕ) (q : PortName) (ps : List PortName) → IsPorts ts k n q ps →
    Leads ts (one ∷ more port CloseParen ∷ []) k (more port CloseParen ∷ []) n × ((d : Dir) × (slice_get ts k ≡ Some (Direction d)))
ports_go ts _ _ _ _ (first_port k n p s) = (passes stays (one_goes ts k n p s), one_here ts k n p s)
ports_go ts _ _ _ _ (next_one k a b n p q ps s i o) =
    let before = ports_go ts k a q ps s in
    (passes (follow before.0 (step (port ∷ more port CloseParen ∷ []) i refl)) (follow (port_one ts b (one_no_name ts b n p o)) (one_goes ts b n p o)), before.1)
ports_go ts _ _ _ _ (next_name k a b n q ps s i j) =
    let before = ports_go ts k a q ps s in
    (passes (follow before.0 (step (port ∷ more port CloseParen ∷ []) i refl)) (step [] j refl), before.1)

header_goes : (ts : List Terminal) (k m n : ℕ) (ps : List PortName) → IsHeader ts k m ps → Is ts m CloseParen n → Leads ts (header ∷ []) k [] n
header_goes ts _ _ n _ (no_header k) z = step [] z refl
header_goes ts _ _ n _ (names k m ps c) z =
    let here : slice_get ts k ≡ Some Name = commas_here ts (IsPlainPort ts) (λ j. slice_get ts j ≡ Some Name) (plain_here ts) k m ps c in
    follow (header_names ts k (λ e. cc) (λ d e. cc))
    (commas_close ts (due Name) CloseParen (IsPlainPort ts) (λ e. cc) (plain_goes ts) k m n ps c z)
header_goes ts _ _ n _ (directions k m q ps s) z =
    let g = ports_go ts k m q ps s in
    follow (header_directions {d = g.1.0} g.1.1) (follow g.0 (more_ends ts port CloseParen m n (λ e. cc) z))

head_goes : (ts : List Terminal) (k m n : ℕ) (ps : List PortName) → IsHead ts k m ps → Is ts m Semicolon n → Leads ts (ports ∷ []) k [] m
head_goes ts _ _ n _ (no_head k) z = ports_absent ts k (λ e. (let h : slice_get ts k ≡ Some Semicolon = z.here in cc))
head_goes ts _ _ n _ (head k a b m ps o s c) z = follow (step (header ∷ []) o refl) (header_goes ts a b m ps s c)

pub item_no_end : (ts : List Terminal) (k n : ℕ) (x : Item) → IsItem ts k n x → slice_get ts k ≡ Some EndModule → ⊥
item_no_end ts _ _ _ (ports_item k a b c d n dir r ns i w o s z) e = (let h = i.here in let g : slice_get ts k ≡ Some (Direction dir) = h in cc)
item_no_end ts _ _ _ (nets_item k a b c n r ns i o s z) e = (let g : slice_get ts k ≡ Some Wire = i.here in cc)
item_no_end ts _ _ _ (supply_item k a b c n v r ns i o s z) e = (let g : slice_get ts k ≡ Some (Supply v) = i.here in cc)
item_no_end ts _ _ _ (assign_item k a b n ps i s z) e = (let g : slice_get ts k ≡ Some Assign = i.here in cc)
item_no_end ts _ _ _ (gates_item k a b n ps i s z) e = (let g : slice_get ts k ≡ Some Gate = i.here in cc)
item_no_end ts _ _ _ (instances_item k a b n xs i s z) e = (let g : slice_get ts k ≡ Some Name = i.here in cc)

items_go : (ts : List Terminal) (k n : ℕ) (xs : List Item) → Many (IsItem ts) k n xs → Leads ts (items ∷ []) k (items ∷ []) n
items_go ts _ _ _ (none k) = stays
items_go ts _ _ _ (and_more k a n x xs i s) =
    follow (passes (items_item ts k (item_no_end ts k a x i)) (item_goes ts k a x i)) (items_go ts a n xs s)

module_goes : (ts : List Terminal) (k n : ℕ) (x : ModuleTree) → IsModule ts k n x → Leads ts (module_ ∷ []) k [] n
module_goes ts _ _ _ (grammar.module_ k a b c d e n ps xs i j h z s y) =
    follow (follow (passes (passes (passes (passes module_begins (is_goes i)) (is_goes j)) (head_goes ts b c d ps h z)) (is_goes z)) (items_go ts d e xs s))
    (step [] y refl)

source_module : (ts : List Terminal) (k : ℕ) → slice_get ts k ≡ Some Module → Leads ts (source ∷ []) k (module_ ∷ source ∷ []) k
source_module ts k here = alike ts k (source ∷ []) (module_ ∷ source ∷ []) (λ below e. cc)
    (λ below t e. (let same : t ≡ Module = cc in subst (λ u. next (source ∷ below) u ≡ next (module_ ∷ source ∷ below) u) (sym same) refl))

pub module_here : (ts : List Terminal) (k n : ℕ) (x : ModuleTree) → IsModule ts k n x → slice_get ts k ≡ Some Module
module_here ts _ _ _ (grammar.module_ k a b c d e n ps xs i j h z s y) = i.here

-- prediction passes all that is a source text
pub source_goes : (ts : List Terminal) (k n : ℕ) (xs : List ModuleTree) → Many (IsModule ts) k n xs → Leads ts (source ∷ []) k (source ∷ []) n
source_goes ts _ _ _ (none k) = stays
source_goes ts _ _ _ (and_more k a n x xs i s) =
    follow (passes (source_module ts k (module_here ts k a x i)) (module_goes ts k a x i)) (source_goes ts a n xs s)
