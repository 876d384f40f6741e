-- A step of prediction, taken back: what stands for the parts that a terminal made due stands, with
-- that terminal before it, for the part that it began.
use Rattle.std.proofs.Common.{◌≡◌, ℕ, ◌+◌, ◌≤◌, List, [], ◌∷◌, ◌++◌, Option, Some, None, Bool, true, false, if◌then◌else◌, slice_get, length, length-append, refl, sym, ◌∙◌, ap, subst, arith}
use Rattle.verilog_tree.specs.declared.terminal.Terminal.{Terminal}
use Rattle.verilog_tree.specs.declared.terminal.Terminal.TheVariants.{Name, Number, Constant, Module, EndModule, Direction, Wire, Supply, Assign, Gate, OpenParen, CloseParen, OpenBracket, CloseBracket, OpenBrace, CloseBrace, Comma, Semicolon, Colon, Equals, Dot}
use Rattle.verilog_tree.specs.declared.source.Dir.{Dir}
use Rattle.verilog_tree.specs.declared.source.Expr.{Expr}
use Rattle.verilog_tree.specs.declared.source.Expr.TheVariants as tree
use Rattle.verilog_tree.specs.declared.source.Item.{Item}
use Rattle.verilog_tree.specs.declared.source.Item.TheVariants as form
use Rattle.verilog_tree.specs.declared.source.Links.{Links}
use Rattle.verilog_tree.specs.declared.source.Links.TheVariants as connections
use Rattle.verilog_tree.specs.declared.source.PortName.{PortName}
use Rattle.verilog_tree.specs.Terminal.{is_plain}
use Rattle.verilog_tree.specs.Grammar as grammar
use Rattle.verilog_tree.specs.Grammar.{Is, Commas, first_item, Optional, absent, present, IsExpr, IsParts, IsLeft, IsLefts, IsName, IsNet, IsPair, IsTerminals, IsPrim, IsLink, IsLinks, IsInst, IsItem, IsPlainPort, IsOne, IsPorts, IsHeader, Many, none}
use Rattle.verilog_tree.specs.Predict.{Symbol, Choice, Begins, Skips, Wrong, is_same, after, after_expr, after_left, after_ports, after_header, after_one, after_port, after_items, after_item, after_number, after_due, after_wire, after_range, after_select, after_select_end, after_brace, after_value, after_label, after_prim, after_link, after_links, after_more, then_due, or_absent, source, module_, ports, header, one, port, items, item, number, due, wire, range, select, select_end, expr, brace, left, place, value, net, pair, label, prim, inst, links, link, more, Closed, IsLater, with_direction, bare}
use Rattle.verilog_tree.proofs.Pushing.{another, left_next, next_item, part_next}
use Rattle.verilog_tree.proofs.Instances.{not_alone}
use Rattle.verilog_tree.proofs.Standing.{Runs, last, again, Same, exactly, CommaThen, Stands, Due}

abbrev pub Back : List Terminal → Symbol → ℕ → Choice → Type 0
Back ts s k (Begins parts) = (n : ℕ) → Due ts parts (k + 1) n → Stands ts s k n
Back ts s k Skips = Stands ts s k k
Back ts s k Wrong = Unit {0}

is_at : {ts : List Terminal} {k : ℕ} {t : Terminal} → slice_get ts k ≡ Some t → Is ts k t (k + 1)
is_at e = record { here = e; after = refl }

is_last : {ts : List Terminal} {k n : ℕ} {t : Terminal} → slice_get ts k ≡ Some t → k + 1 ≡ n → Is ts k t n
is_last e d = record { here = e; after = sym d }

-- a list whose end comes after some items
closing : {A : Type 0} (ts : List Terminal) (x : Symbol) (end : Terminal) (R : ℕ → ℕ → A → Type 0) → is_plain end ≡ true →
    ((k m n : ℕ) (a : A) → R k m a → CommaThen ts (Stands ts x) m n → (b : A) × R k n b) →
    (k m n : ℕ) (a : A) → R k m a → Runs (CommaThen ts (Stands ts x)) (Same ts end) m n → (b : A) × Closed ts R end k n b
closing ts x end R p extend k _ _ a r (last m n e) = (a, record { place = m; stands = r; ends = exactly end p e })
closing ts x end R p extend k _ _ a r (again m i n c rest) =
    let q = extend k m i a r c in closing ts x end R p extend k i n q.0 q.1 rest

listed : {A : Type 0} (ts : List Terminal) (x : Symbol) (end : Terminal) (X : ℕ → ℕ → A → Type 0) → is_plain end ≡ true →
    ((k n : ℕ) → Stands ts x k n → (a : A) × X k n a) →
    (k m n : ℕ) → Stands ts x k m → Stands ts (more x end) m n → (as' : List A) × Closed ts (Commas ts X) end k n as'
listed ts x end X p into k m n s tail =
    let f = into k m s in
    closing ts x end (Commas ts X) p (λ j i l xs r c. (let q = into c.place l c.stands in (xs ++ q.0 ∷ [], next_item j i c.place l xs q.0 r c.is q.1)))
    k m n (f.0 ∷ []) (first_item k m f.0 f.1) tail

parts_closed : (ts : List Terminal) (k m n : ℕ) → Stands ts expr k m → Stands ts (more expr CloseBrace) m n → (es : List Expr) × Closed ts (IsParts ts) CloseBrace k n es
parts_closed ts k m n s tail =
    closing ts expr CloseBrace (IsParts ts) refl (λ j i l es r c. (es ++ c.stands.0 ∷ [], part_next j i c.place l es c.stands.0 r c.is c.stands.1))
    k m n (s.0 ∷ []) (grammar.part_first k m s.0 s.1) tail

lefts_closed : (ts : List Terminal) (k m n : ℕ) → Stands ts left k m → Stands ts (more left CloseBrace) m n → (es : List Expr) × Closed ts (IsLefts ts) CloseBrace k n es
lefts_closed ts k m n s tail =
    closing ts left CloseBrace (IsLefts ts) refl (λ j i l es r c. (es ++ c.stands.0 ∷ [], left_next j i c.place l es c.stands.0 r c.is c.stands.1))
    k m n (s.0 ∷ []) (grammar.left_first k m s.0 s.1) tail

terminals_closed : (ts : List Terminal) (k a b c n : ℕ) → Stands ts expr k a → Is ts a Comma b → Stands ts expr b c → Stands ts (more expr CloseParen) c n →
    (es : List Expr) × Closed ts (IsTerminals ts) CloseParen k n es
terminals_closed ts k a b c n x i y tail =
    closing ts expr CloseParen (IsTerminals ts) refl extend k c n (x.0 ∷ y.0 ∷ [])
    (grammar.terminals k c (x.0 ∷ y.0 ∷ []) (next_item k a b c (x.0 ∷ []) y.0 (first_item k a x.0 x.1) i y.1) (omega arith)) tail
  where
    extend : (j i l : ℕ) (es : List Expr) → IsTerminals ts j i es → CommaThen ts (Stands ts expr) i l → (fs : List Expr) × IsTerminals ts j l fs
    extend j i l es r c = go j i es r c
      where
        go : (j i : ℕ) (es : List Expr) → IsTerminals ts j i es → CommaThen ts (Stands ts expr) i l → (fs : List Expr) × IsTerminals ts j l fs
        go _ _ _ (grammar.terminals j i es g two) c =
            (es ++ c.stands.0 ∷ [], grammar.terminals j l (es ++ c.stands.0 ∷ []) (next_item j i c.place l es c.stands.0 g c.is c.stands.1) (simp length-append (omega arith)))

-- ports after a first one with a direction
ports_closed : (ts : List Terminal) (k m n : ℕ) → Stands ts one k m → Stands ts (more port CloseParen) m n → (ps : List PortName) × Closed ts (IsHeader ts) CloseParen k n ps
ports_closed ts k m n s tail =
    let q = closing ts port CloseParen (λ j i ps. (p : PortName) × IsPorts ts j i p ps) refl extend k m n (s.0 ∷ []) (s.0, grammar.first_port k m s.0 s.1) tail in
    (q.0, record { place = q.1.place; stands = grammar.directions k q.1.place q.1.stands.0 q.0 q.1.stands.1; ends = q.1.ends })
  where
    extend : (j i l : ℕ) (ps : List PortName) → ((p : PortName) × IsPorts ts j i p ps) → CommaThen ts (Stands ts port) i l →
        (qs : List PortName) × ((p : PortName) × IsPorts ts j l p qs)
    extend j i l ps r c = (let q = c.stands r.0 in go j i c.place l r.0 q.0 ps r.1 c.is q.1)
      where
        go : (j i b l : ℕ) (q p : PortName) (ps : List PortName) → IsPorts ts j i q ps → Is ts i Comma b → IsLater ts q b l p →
            (qs : List PortName) × ((p : PortName) × IsPorts ts j l p qs)
        go j i _ _ q _ ps r z (with_direction b l p d) = (ps ++ p ∷ [], (p, grammar.next_one j i b l p q ps r z d))
        go j i _ _ q _ ps r z (bare b l d) =
            (ps ++ record { name = b; dir = q.dir; range = q.range } ∷ [], (record { name = b; dir = q.dir; range = q.range }, grammar.next_name j i b l q ps r z d))

items_closed : (ts : List Terminal) (j m n : ℕ) (is : List Item) → Many (IsItem ts) j m is → Stands ts items m n → (xs : List Item) × Closed ts (Many (IsItem ts)) EndModule j n xs
items_closed ts j _ _ is r (last m n e) = (is, record { place = m; stands = r; ends = e })
items_closed ts j _ _ is r (again m i n x rest) = items_closed ts j i n (is ++ x.0 ∷ []) (another j m i is x.0 r x.1) rest

back_select : (ts : List Terminal) (t : Terminal) (k : ℕ) → slice_get ts k ≡ Some t → Back ts select k (after_select t)
back_select ts OpenBracket k e = λ n d. λ j i. d.2 d.1.0 j k (k + 1) i (is_at e) d.1.1
back_select ts _ k e = λ j i. (tree.Whole j, grammar.whole j k i)

back_select_end : (ts : List Terminal) (t : Terminal) (k : ℕ) → slice_get ts k ≡ Some t → Back ts select_end k (after_select_end t)
back_select_end ts Colon k e = λ n d. λ i j a b x y z. (tree.Part j i d.1.0, grammar.part j a b k (k + 1) d.0 n i d.1.0 x y z (is_at e) d.1.1 (exactly CloseBracket refl d.2))
back_select_end ts CloseBracket k e = λ n d. λ i j a b x y z. (tree.Bit j i, grammar.bit j a b k n i x y z (is_last e d))
back_select_end ts _ k e = tt

back_expr : (ts : List Terminal) (t : Terminal) (k : ℕ) → slice_get ts k ≡ Some t → Back ts expr k (after_expr t)
back_expr ts Name k e = λ n d. (let q = d k (is_at e) in (q.0, grammar.expr_named k n q.0 q.1))
back_expr ts Constant k e = λ n d. (tree.Constant k, grammar.expr_constant k n (is_last e d))
back_expr ts OpenBrace k e = λ n d. d k (is_at e)
back_expr ts _ k e = tt

join_back : (ts : List Terminal) (k m n : ℕ) → Stands ts expr k m → Stands ts (more expr CloseBrace) m n → Stands ts brace k n
join_back ts k m n s tail = λ j i. (let ps = parts_closed ts k m n s tail in (tree.Join ps.0, grammar.expr_join j k ps.1.place n ps.0 i ps.1.stands ps.1.ends))

back_brace : (ts : List Terminal) (t : Terminal) (k : ℕ) → slice_get ts k ≡ Some t → Back ts brace k (after_brace t)
back_brace ts (Number v) k e = λ n d. λ j i.
    (let ps = parts_closed ts d.0 d.2.0 d.2.2.0 d.2.1 d.2.2.1 in
    (tree.Repeat v ps.0, grammar.expr_repeat j k (k + 1) d.0 ps.1.place d.2.2.0 n v ps.0 i (is_at e) (exactly OpenBrace refl d.1) ps.1.stands ps.1.ends (exactly CloseBrace refl d.2.2.2)))
back_brace ts Name k e = λ n d. join_back ts k d.0 n (back_expr ts Name k e d.0 d.1) d.2
back_brace ts Constant k e = λ n d. join_back ts k (k + 1) n (back_expr ts Constant k e (k + 1) refl) d
back_brace ts OpenBrace k e = λ n d. join_back ts k d.0 n (back_expr ts OpenBrace k e d.0 d.1) d.2
back_brace ts _ k e = tt

back_left : (ts : List Terminal) (t : Terminal) (k : ℕ) → slice_get ts k ≡ Some t → Back ts left k (after_left t)
back_left ts Name k e = λ n d. (let q = d k (is_at e) in (q.0, grammar.left_named k n q.0 q.1))
back_left ts OpenBrace k e = λ n d. (let ps = lefts_closed ts (k + 1) d.0 n d.1 d.2 in (tree.Join ps.0, grammar.left_join k (k + 1) ps.1.place n ps.0 (is_at e) ps.1.stands ps.1.ends))
back_left ts _ k e = tt

back_pair : (ts : List Terminal) (t : Terminal) (k : ℕ) → slice_get ts k ≡ Some t → Back ts pair k (then_due (after_left t) (due Equals ∷ expr ∷ []))
back_pair ts Name k e = λ n d.
    (let l = back_left ts Name k e d.0 d.1 in
    (record { left = l.0; right = d.2.2.0 }, grammar.pair k d.0 d.2.0 n l.0 d.2.2.0 l.1 (exactly Equals refl d.2.1) d.2.2.1))
back_pair ts OpenBrace k e = λ n d.
    (let l = back_left ts OpenBrace k e d.2.0 (d.0, d.1, d.2.1) in
    (record { left = l.0; right = d.2.2.2.0 }, grammar.pair k d.2.0 d.2.2.0 n l.0 d.2.2.2.0 l.1 (exactly Equals refl d.2.2.1) d.2.2.2.1))
back_pair ts _ k e = tt

back_place : (ts : List Terminal) (t : Terminal) (k : ℕ) → slice_get ts k ≡ Some t → Back ts place k (or_absent (after_expr t))
back_place ts Name k e = λ n d. (let q = back_expr ts Name k e n d in (Some q.0, present k n q.0 q.1))
back_place ts Constant k e = λ n d. (let q = back_expr ts Constant k e n d in (Some q.0, present k n q.0 q.1))
back_place ts OpenBrace k e = λ n d. (let q = back_expr ts OpenBrace k e n d in (Some q.0, present k n q.0 q.1))
back_place ts _ k e = (None, absent k)

back_value : (ts : List Terminal) (t : Terminal) (k : ℕ) → slice_get ts k ≡ Some t → Back ts value k (after_value t)
back_value ts Equals k e = λ n d. (Some d.0, present k n d.0 (grammar.value k (k + 1) n d.0 (is_at e) d.1))
back_value ts _ k e = (None, absent k)

back_net : (ts : List Terminal) (t : Terminal) (k : ℕ) → slice_get ts k ≡ Some t → Back ts net k (then_due (after_due Name t) (value ∷ []))
back_net ts Name k e = λ n d. (record { name = k; value = d.0 }, grammar.net k (k + 1) n d.0 (is_at e) d.1)
back_net ts _ k e = tt

back_label : (ts : List Terminal) (t : Terminal) (k : ℕ) → slice_get ts k ≡ Some t → Back ts label k (after_label t)
back_label ts Name k e = λ n d. (Some k, present k n k (grammar.name k n (is_last e d)))
back_label ts _ k e = (None, absent k)

back_prim : (ts : List Terminal) (t : Terminal) (k : ℕ) → slice_get ts k ≡ Some t → Back ts prim k (after_prim t)
back_prim ts Name k e = λ n d.
    (let es = terminals_closed ts d.0 d.2.0 d.2.2.0 d.2.2.2.0 n d.2.1 (exactly Comma refl d.2.2.1) d.2.2.2.1 d.2.2.2.2 in (
      record { name = Some k; terminals = es.0 },
      grammar.prim k (k + 1) d.0 es.1.place n (Some k) es.0 (present k (k + 1) k (grammar.name k (k + 1) (is_at e))) (exactly OpenParen refl d.1) es.1.stands es.1.ends,
    ))
back_prim ts OpenParen k e = λ n d.
    (let es = terminals_closed ts (k + 1) d.0 d.2.0 d.2.2.0 n d.1 (exactly Comma refl d.2.1) d.2.2.1 d.2.2.2 in
    (record { name = None; terminals = es.0 }, grammar.prim k k (k + 1) es.1.place n None es.0 (absent k) (is_at e) es.1.stands es.1.ends))
back_prim ts _ k e = tt

back_inst : (ts : List Terminal) (t : Terminal) (k : ℕ) → slice_get ts k ≡ Some t → Back ts inst k (then_due (after_due Name t) (due OpenParen ∷ links ∷ []))
back_inst ts Name k e = λ n d.
    (record { name = k; links = d.2.0 }, grammar.inst k (k + 1) d.0 d.2.1.place n d.2.0 (is_at e) (exactly OpenParen refl d.1) d.2.1.stands d.2.1.ends)
back_inst ts _ k e = tt

back_link : (ts : List Terminal) (t : Terminal) (k : ℕ) → slice_get ts k ≡ Some t → Back ts link k (after_link t)
back_link ts Dot k e = λ n d. (
  record { port = k + 1; expr = d.2.2.1.0 },
  grammar.link k (k + 1) d.0 d.2.0 d.2.2.0 n d.2.2.1.0 (is_at e) (exactly Name refl d.1) (exactly OpenParen refl d.2.1) d.2.2.1.1 (exactly CloseParen refl d.2.2.2),
)
back_link ts _ k e = tt

-- connections by order, where the parentheses are not empty
ordered_back : (ts : List Terminal) (k n : ℕ) → (slice_get ts k ≡ Some CloseParen → ⊥) →
    ((ps : List (Option Expr)) × Closed ts (Commas ts (Optional (IsExpr ts))) CloseParen k n ps) → Stands ts links k n
ordered_back ts k n other ps =
    (connections.Ordered ps.0, record { place = ps.1.place; stands = grammar.ordered k ps.1.place ps.0 ps.1.stands (not_alone ts k n ps.0 other ps.1); ends = ps.1.ends })

expr_place : (ts : List Terminal) (k n : ℕ) → Stands ts expr k n → Stands ts place k n
expr_place ts k n s = (Some s.0, present k n s.0 s.1)

places_back : (ts : List Terminal) (k m n : ℕ) → (slice_get ts k ≡ Some CloseParen → ⊥) → Stands ts expr k m → Stands ts (more place CloseParen) m n → Stands ts links k n
places_back ts k m n other s tail =
    ordered_back ts k n other (listed ts place CloseParen (Optional (IsExpr ts)) refl (λ j i p. p) k m n (expr_place ts k m s) tail)

back_links : (ts : List Terminal) (t : Terminal) (k : ℕ) → slice_get ts k ≡ Some t → Back ts links k (after_links t)
back_links ts CloseParen k e = λ n d. (connections.Empty, record { place = k; stands = grammar.no_links k; ends = is_last e d })
back_links ts Comma k e = λ n d.
    ordered_back ts k n (λ f. cc)
    (closing ts place CloseParen (Commas ts (Optional (IsExpr ts))) refl
    (λ j i l xs r c. (xs ++ c.stands.0 ∷ [], next_item j i c.place l xs c.stands.0 r c.is c.stands.1))
    k d.0 n (None ∷ d.1.0 ∷ [])
    (next_item k k (k + 1) d.0 (None ∷ []) d.1.0 (first_item k k None (absent k)) (is_at e) d.1.1) d.2)
back_links ts Dot k e = λ n d.
    (let ls = listed ts link CloseParen (IsLink ts) refl (λ j i p. p) k d.2.2.2.0 n (back_link ts Dot k e d.2.2.2.0 (d.0, d.1, (d.2.0, d.2.1, (d.2.2.0, d.2.2.1, d.2.2.2.1)))) d.2.2.2.2 in
    (connections.Named ls.0, record { place = ls.1.place; stands = grammar.by_name k ls.1.place ls.0 ls.1.stands; ends = ls.1.ends }))
back_links ts Name k e = λ n d. places_back ts k d.0 n (λ f. cc) (back_expr ts Name k e d.0 d.1) d.2
back_links ts Constant k e = λ n d. places_back ts k (k + 1) n (λ f. cc) (back_expr ts Constant k e (k + 1) refl) d
back_links ts OpenBrace k e = λ n d. places_back ts k d.0 n (λ f. cc) (back_expr ts OpenBrace k e d.0 d.1) d.2
back_links ts _ k e = tt

back_wire : (ts : List Terminal) (t : Terminal) (k : ℕ) → slice_get ts k ≡ Some t → Back ts wire k (after_wire t)
back_wire ts Wire k e = λ n d. grammar.a_wire k n (is_last e d)
back_wire ts _ k e = grammar.no_wire k

back_range : (ts : List Terminal) (t : Terminal) (k : ℕ) → slice_get ts k ≡ Some t → Back ts range k (after_range t)
back_range ts OpenBracket k e = λ n d. (
  Some (record { left = d.1.0; right = d.2.2.1.0 }),
  present k n (record { left = d.1.0; right = d.2.2.1.0 })
      (grammar.range k (k + 1) d.0 d.2.0 d.2.2.0 n d.1.0 d.2.2.1.0 (is_at e) d.1.1 (exactly Colon refl d.2.1) d.2.2.1.1 (exactly CloseBracket refl d.2.2.2)),
)
back_range ts _ k e = (None, absent k)

back_one : (ts : List Terminal) (t : Terminal) (k : ℕ) → slice_get ts k ≡ Some t → Back ts one k (after_one t)
back_one ts (Direction dir) k e = λ n d.
    (record { name = d.2.0; dir = Some dir; range = d.2.1.0 }, grammar.one k (k + 1) d.0 d.2.0 n dir d.2.1.0 (is_at e) d.1 d.2.1.1 (exactly Name refl d.2.2))
back_one ts _ k e = tt

back_port : (ts : List Terminal) (t : Terminal) (k : ℕ) → slice_get ts k ≡ Some t → Back ts port k (after_port t)
back_port ts Name k e = λ n d. λ q. (record { name = k; dir = q.dir; range = q.range }, bare k n (is_last e d))
back_port ts (Direction dir) k e = λ n d. λ q. (let o = back_one ts (Direction dir) k e n d in (o.0, with_direction k n o.0 o.1))
back_port ts _ k e = tt

back_header : (ts : List Terminal) (t : Terminal) (k : ℕ) → slice_get ts k ≡ Some t → Back ts header k (after_header t)
back_header ts CloseParen k e = λ n d. ([], record { place = k; stands = grammar.no_header k; ends = is_last e d })
back_header ts (Direction dir) k e = λ n d. ports_closed ts k d.2.2.0 n (back_one ts (Direction dir) k e d.2.2.0 (d.0, d.1, (d.2.0, d.2.1, d.2.2.1))) d.2.2.2
back_header ts Name k e = λ n d.
    (let ps = listed ts (due Name) CloseParen (IsPlainPort ts) refl (λ j i s. (record { name = j; dir = None; range = None }, grammar.plain_port j i (exactly Name refl s))) k (k + 1) n
    (record { which = Name; is = is_at e; same = refl }) d in
    (ps.0, record { place = ps.1.place; stands = grammar.names k ps.1.place ps.0 ps.1.stands; ends = ps.1.ends }))
back_header ts _ k e = tt

back_ports : (ts : List Terminal) (t : Terminal) (k : ℕ) → slice_get ts k ≡ Some t → Back ts ports k (after_ports t)
back_ports ts OpenParen k e = λ n d. (d.0, grammar.head k (k + 1) d.1.place n d.0 (is_at e) d.1.stands d.1.ends)
back_ports ts _ k e = ([], grammar.no_head k)

names_closed : (ts : List Terminal) (k m n : ℕ) → Stands ts (due Name) k m → Stands ts (more (due Name) Semicolon) m n → (ns : List ℕ) × Closed ts (Commas ts (IsName ts)) Semicolon k n ns
names_closed ts k m n s tail = listed ts (due Name) Semicolon (IsName ts) refl (λ j i p. (j, grammar.name j i (exactly Name refl p))) k m n s tail

back_item : (ts : List Terminal) (t : Terminal) (k : ℕ) → slice_get ts k ≡ Some t → Back ts item k (after_item t)
back_item ts (Direction dir) k e = λ n d.
    (let ns = names_closed ts d.2.0 d.2.2.0 n d.2.2.1 d.2.2.2 in
    (form.Ports k dir d.2.1.0 ns.0, grammar.ports_item k (k + 1) d.0 d.2.0 ns.1.place n dir d.2.1.0 ns.0 (is_at e) d.1 d.2.1.1 ns.1.stands ns.1.ends))
back_item ts Wire k e = λ n d.
    (let ns = listed ts net Semicolon (IsNet ts) refl (λ j i p. p) d.0 d.2.0 n d.2.1 d.2.2 in
    (form.Nets k d.1.0 ns.0, grammar.nets_item k (k + 1) d.0 ns.1.place n d.1.0 ns.0 (is_at e) d.1.1 ns.1.stands ns.1.ends))
back_item ts (Supply v) k e = λ n d.
    (let ns = names_closed ts d.0 d.2.0 n d.2.1 d.2.2 in
    (form.Supply k v d.1.0 ns.0, grammar.supply_item k (k + 1) d.0 ns.1.place n v d.1.0 ns.0 (is_at e) d.1.1 ns.1.stands ns.1.ends))
back_item ts Assign k e = λ n d.
    (let ns = listed ts pair Semicolon (IsPair ts) refl (λ j i p. p) (k + 1) d.0 n d.1 d.2 in
    (form.Assign k ns.0, grammar.assign_item k (k + 1) ns.1.place n ns.0 (is_at e) ns.1.stands ns.1.ends))
back_item ts Gate k e = λ n d.
    (let ns = listed ts prim Semicolon (IsPrim ts) refl (λ j i p. p) (k + 1) d.0 n d.1 d.2 in
    (form.Gates k ns.0, grammar.gates_item k (k + 1) ns.1.place n ns.0 (is_at e) ns.1.stands ns.1.ends))
back_item ts Name k e = λ n d.
    (let ns = listed ts inst Semicolon (IsInst ts) refl (λ j i p. p) (k + 1) d.0 n d.1 d.2 in
    (form.Instances k ns.0, grammar.instances_item k (k + 1) ns.1.place n ns.0 (is_at e) ns.1.stands ns.1.ends))
back_item ts _ k e = tt

-- parts one after another, cut in two
pub split : (ts : List Terminal) (parts rest : List Symbol) (k n : ℕ) → Due ts (parts ++ rest) k n → (m : ℕ) × (Due ts parts k m × Due ts rest m n)
split ts [] rest k n d = (k, (refl, d))
split ts (s ∷ []) [] k n d = (n, (d, refl))
split ts (s ∷ []) (r ∷ rest) k n d = (d.0, (d.1, d.2))
split ts (s ∷ s' ∷ parts) rest k n d = (let q = split ts (s' ∷ parts) rest d.0 n d.2 in (q.0, ((d.0, d.1, q.1.0), q.1.1)))

item_then : (ts : List Terminal) (k : ℕ) (parts : List Symbol) → ((n : ℕ) → Due ts parts (k + 1) n → Stands ts item k n) →
    (n : ℕ) → Due ts (parts ++ items ∷ []) (k + 1) n → Stands ts items k n
item_then ts k parts f n d = (let q = split ts parts (items ∷ []) (k + 1) n d in again k q.0 n (f q.0 q.1.0) q.1.1)

back_items : (ts : List Terminal) (t : Terminal) (k : ℕ) → slice_get ts k ≡ Some t → Back ts items k (after_items t)
back_items ts EndModule k e = λ n d. last k n (is_last e d)
back_items ts (Direction dir) k e = item_then ts k (wire ∷ range ∷ due Name ∷ more (due Name) Semicolon ∷ []) (back_item ts (Direction dir) k e)
back_items ts Wire k e = item_then ts k (range ∷ net ∷ more net Semicolon ∷ []) (back_item ts Wire k e)
back_items ts (Supply v) k e = item_then ts k (range ∷ due Name ∷ more (due Name) Semicolon ∷ []) (back_item ts (Supply v) k e)
back_items ts Assign k e = item_then ts k (pair ∷ more pair Semicolon ∷ []) (back_item ts Assign k e)
back_items ts Gate k e = item_then ts k (prim ∷ more prim Semicolon ∷ []) (back_item ts Gate k e)
back_items ts Name k e = item_then ts k (inst ∷ more inst Semicolon ∷ []) (back_item ts Name k e)
back_items ts _ k e = tt

back_module : (ts : List Terminal) (t : Terminal) (k : ℕ) → slice_get ts k ≡ Some t →
    Back ts module_ k (then_due (after_due Module t) (due Name ∷ ports ∷ due Semicolon ∷ items ∷ []))
back_module ts Module k e = λ n d.
    (let is = items_closed ts d.2.2.0 d.2.2.0 n [] (none d.2.2.0) d.2.2.2 in (
      record { name = k + 1; ports = d.2.1.0; items = is.0 },
      grammar.module_ k (k + 1) d.0 d.2.0 d.2.2.0 is.1.place n d.2.1.0 is.0 (is_at e) (exactly Name refl d.1) d.2.1.1 (exactly Semicolon refl d.2.2.1) is.1.stands is.1.ends,
    ))
back_module ts _ k e = tt

back_source : (ts : List Terminal) (t : Terminal) (k : ℕ) → slice_get ts k ≡ Some t →
    Back ts source k (then_due (after_due Module t) (due Name ∷ ports ∷ due Semicolon ∷ items ∷ source ∷ []))
back_source ts Module k e = λ n d.
    again k d.2.2.2.0 n (back_module ts Module k e d.2.2.2.0 (d.0, d.1, (d.2.0, d.2.1, (d.2.2.0, d.2.2.1, d.2.2.2.1)))) d.2.2.2.2
back_source ts _ k e = tt

back_number : (ts : List Terminal) (t : Terminal) (k : ℕ) → slice_get ts k ≡ Some t → Back ts number k (after_number t)
back_number ts (Number v) k e = λ n d. (v, is_last e d)
back_number ts _ k e = tt

back_due : (ts : List Terminal) (u t : Terminal) (k : ℕ) → slice_get ts k ≡ Some t → Back ts (due u) k (after_due u t)
back_due ts u t k e = go (is_same t u) refl
  where
    go : (b : Bool) → is_same t u ≡ b → Back ts (due u) k (if b then Begins [] else Wrong)
    go true f = λ n d. record { which = t; is = is_last e d; same = f }
    go false f = tt

end_back : (ts : List Terminal) (x : Symbol) (end t : Terminal) (k : ℕ) (b : Bool) → slice_get ts k ≡ Some t → is_same t end ≡ b → Back ts (more x end) k (if b then Begins [] else Wrong)
end_back ts x end t k true e f = λ n d. last k n (record { which = t; is = is_last e d; same = f })
end_back ts x end t k false e f = tt

back_more : (ts : List Terminal) (x : Symbol) (end t : Terminal) (k : ℕ) → slice_get ts k ≡ Some t → Back ts (more x end) k (after_more x end t)
back_more ts x end Comma k e = λ n d. again k d.0 n (record { place = k + 1; is = is_at e; stands = d.1 }) d.2
back_more ts x end t k e = end_back ts x end t k (is_same t end) e refl

pub back : (ts : List Terminal) (s : Symbol) (t : Terminal) (k : ℕ) → slice_get ts k ≡ Some t → Back ts s k (after s t)
back ts source t k e = back_source ts t k e
back ts module_ t k e = back_module ts t k e
back ts ports t k e = back_ports ts t k e
back ts header t k e = back_header ts t k e
back ts one t k e = back_one ts t k e
back ts port t k e = back_port ts t k e
back ts items t k e = back_items ts t k e
back ts item t k e = back_item ts t k e
back ts number t k e = back_number ts t k e
back ts (due u) t k e = back_due ts u t k e
back ts wire t k e = back_wire ts t k e
back ts range t k e = back_range ts t k e
back ts select t k e = back_select ts t k e
back ts select_end t k e = back_select_end ts t k e
back ts expr t k e = back_expr ts t k e
back ts brace t k e = back_brace ts t k e
back ts left t k e = back_left ts t k e
back ts place t k e = back_place ts t k e
back ts value t k e = back_value ts t k e
back ts net t k e = back_net ts t k e
back ts pair t k e = back_pair ts t k e
back ts label t k e = back_label ts t k e
back ts prim t k e = back_prim ts t k e
back ts inst t k e = back_inst ts t k e
back ts links t k e = back_links ts t k e
back ts link t k e = back_link ts t k e
back ts (more x end) t k e = back_more ts x end t k e
