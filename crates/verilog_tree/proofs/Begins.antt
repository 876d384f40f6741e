-- How each part begins: the parts that are due in its place.
use Rattle.std.proofs.Common.{◌≡◌, ℕ, ◌+◌, List, [], ◌∷◌, ◌++◌, Option, Some, None, Bool, true, false, if◌then◌else◌, slice_get, drop, refl, sym, ◌∙◌, ap, subst}
use Rattle.verilog_tree.specs.declared.source.Dir.{Dir}
use Rattle.verilog_tree.specs.declared.terminal.Terminal.{Terminal}
use Rattle.verilog_tree.specs.declared.terminal.Terminal.TheVariants.{Name, Number, Constant, Module, EndModule, Direction, Wire, Supply, Assign, Gate, Reserved, OpenParen, CloseParen, OpenBracket, CloseBracket, OpenBrace, CloseBrace, Comma, Semicolon, Colon, Equals, Dot, Stray}
use Rattle.verilog_tree.specs.Predict.{Symbol, module_, ports, header, one, port, items, item, due, wire, range, expr, left, place, value, net, pair, label, prim, inst, links, link, more, Choice, Begins, Skips, Wrong, is_same, then_due, after, after_due, after_left, after_expr, after_item, after_items, after_header, after_one, after_links, after_link, after_prim, after_value, after_port, after_ports, after_label, after_wire, or_absent, starts, is_end, next, fault, Leads}
use Rattle.verilog_tree.proofs.Due.{unfolds, skips, drop_here, drop_end, begins}
use Rattle.verilog_tree.proofs.Expressions.{expr_due}

-- no terminal shows that one that is due is absent
due_due : (u t : Terminal) → after_due u t ≡ Skips → ⊥
due_due u t e = go (is_same t u) e
  where
    go : (b : Bool) → (if b then Begins [] else Wrong) ≡ Skips → ⊥
    go true e = cc
    go false e = cc

left_due : (t : Terminal) → after_left t ≡ Skips → ⊥
left_due Name e = cc
left_due OpenBrace e = cc
left_due _ e = cc

one_due : (t : Terminal) → after_one t ≡ Skips → ⊥
one_due (Direction d) e = cc
one_due _ e = cc

item_due : (t : Terminal) → after_item t ≡ Skips → ⊥
item_due (Direction d) e = cc
item_due Wire e = cc
item_due (Supply o) e = cc
item_due Assign e = cc
item_due Gate e = cc
item_due Name e = cc
item_due _ e = cc

due_due_then : (t : Terminal) → after_link t ≡ Skips → ⊥
due_due_then Dot e = cc
due_due_then _ e = cc

module _ {ts : List Terminal} {k : ℕ} where
  pub net_begins : Leads ts (net ∷ []) k (due Name ∷ value ∷ []) k
  net_begins = unfolds ts k net (due Name) (value ∷ []) refl refl (due_due Name) (λ t e. refl)

  pub pair_begins : Leads ts (pair ∷ []) k (left ∷ due Equals ∷ expr ∷ []) k
  pair_begins = unfolds ts k pair left (due Equals ∷ expr ∷ []) refl refl left_due (λ t e. refl)

  pub inst_begins : Leads ts (inst ∷ []) k (due Name ∷ due OpenParen ∷ links ∷ []) k
  inst_begins = unfolds ts k inst (due Name) (due OpenParen ∷ links ∷ []) refl refl (due_due Name) (λ t e. refl)

  pub link_begins : Leads ts (link ∷ []) k (due Dot ∷ due Name ∷ due OpenParen ∷ place ∷ due CloseParen ∷ []) k
  link_begins = unfolds ts k link (due Dot) (due Name ∷ due OpenParen ∷ place ∷ due CloseParen ∷ []) refl refl (due_due Dot) (λ t e. refl)

  pub module_begins : Leads ts (module_ ∷ []) k (due Module ∷ due Name ∷ ports ∷ due Semicolon ∷ items ∷ []) k
  module_begins = unfolds ts k module_ (due Module) (due Name ∷ ports ∷ due Semicolon ∷ items ∷ []) refl refl (due_due Module) (λ t e. refl)

  pub value_begins : slice_get ts k ≡ Some Equals → Leads ts (value ∷ []) k (expr ∷ []) (k + 1)
  value_begins e = begins (expr ∷ []) [] e refl

  pub label_begins : slice_get ts k ≡ Some Name → Leads ts (label ∷ []) k [] (k + 1)
  label_begins e = begins [] [] e refl

  pub links_named : slice_get ts k ≡ Some Dot → Leads ts (links ∷ []) k (link ∷ more link CloseParen ∷ []) k
  links_named here = unfolds ts k links link (more link CloseParen ∷ []) refl refl (due_due_then) go
    where
      go : (t : Terminal) → slice_get ts k ≡ Some t → after_links t ≡ then_due (after_link t) (more link CloseParen ∷ [])
      go t e = (let same : t ≡ Dot = cc in subst (λ u. after_links u ≡ then_due (after_link u) (more link CloseParen ∷ [])) (sym same) refl)

  pub links_end : slice_get ts k ≡ Some CloseParen → Leads ts (links ∷ []) k [] (k + 1)
  links_end e = begins [] [] e refl

  pub header_end : slice_get ts k ≡ Some CloseParen → Leads ts (header ∷ []) k [] (k + 1)
  header_end e = begins [] [] e refl

  pub port_name : slice_get ts k ≡ Some Name → Leads ts (port ∷ []) k [] (k + 1)
  port_name e = begins [] [] e refl

  pub items_end : slice_get ts k ≡ Some EndModule → Leads ts (items ∷ []) k [] (k + 1)
  items_end e = begins [] [] e refl

  pub wire_begins : slice_get ts k ≡ Some Wire → Leads ts (wire ∷ []) k [] (k + 1)
  wire_begins e = begins [] [] e refl

  pub ports_begin : slice_get ts k ≡ Some OpenParen → Leads ts (ports ∷ []) k (header ∷ []) (k + 1)
  ports_begin e = begins (header ∷ []) [] e refl

  pub one_begins : {d : Dir} → slice_get ts k ≡ Some (Direction d) → Leads ts (one ∷ []) k (wire ∷ range ∷ due Name ∷ []) (k + 1)
  one_begins e = begins (wire ∷ range ∷ due Name ∷ []) [] e refl

  pub header_directions : {d : Dir} → slice_get ts k ≡ Some (Direction d) → Leads ts (header ∷ []) k (one ∷ more port CloseParen ∷ []) k
  header_directions {d} here = unfolds ts k header one (more port CloseParen ∷ []) refl refl one_due go
    where
      go : (t : Terminal) → slice_get ts k ≡ Some t → after_header t ≡ then_due (after_one t) (more port CloseParen ∷ [])
      go t e = (let same : t ≡ Direction d = cc in subst (λ u. after_header u ≡ then_due (after_one u) (more port CloseParen ∷ [])) (sym same) refl)

pub header_names : (ts : List Terminal) (k : ℕ) → (slice_get ts k ≡ Some CloseParen → ⊥) → ((d : Dir) → slice_get ts k ≡ Some (Direction d) → ⊥) →
    Leads ts (header ∷ []) k (due Name ∷ more (due Name) CloseParen ∷ []) k
header_names ts k not_close not_direction = unfolds ts k header (due Name) (more (due Name) CloseParen ∷ []) refl refl (due_due Name) go
  where
    go : (t : Terminal) → slice_get ts k ≡ Some t → after_header t ≡ then_due (after_due Name t) (more (due Name) CloseParen ∷ [])
    go CloseParen e = absurd (not_close e)
    go (Direction d) e = absurd (not_direction d e)
    go _ e = refl

pub port_one : (ts : List Terminal) (k : ℕ) → (slice_get ts k ≡ Some Name → ⊥) → Leads ts (port ∷ []) k (one ∷ []) k
port_one ts k not_name = unfolds ts k port one [] refl refl one_due go
  where
    go : (t : Terminal) → slice_get ts k ≡ Some t → after_port t ≡ then_due (after_one t) []
    go Name e = absurd (not_name e)
    go (Direction d) e = refl
    go _ e = refl

pub items_item : (ts : List Terminal) (k : ℕ) → (slice_get ts k ≡ Some EndModule → ⊥) → Leads ts (items ∷ []) k (item ∷ items ∷ []) k
items_item ts k not_end = unfolds ts k items item (items ∷ []) refl refl item_due go
  where
    go : (t : Terminal) → slice_get ts k ≡ Some t → after_items t ≡ then_due (after_item t) (items ∷ [])
    go EndModule e = absurd (not_end e)
    go _ e = refl

pub ports_absent : (ts : List Terminal) (k : ℕ) → (slice_get ts k ≡ Some OpenParen → ⊥) → Leads ts (ports ∷ []) k [] k
ports_absent ts k other = skips ts k ports refl go
  where
    go : (t : Terminal) → slice_get ts k ≡ Some t → after_ports t ≡ Skips
    go OpenParen e = absurd (other e)
    go _ e = refl

pub label_absent : (ts : List Terminal) (k : ℕ) → (slice_get ts k ≡ Some Name → ⊥) → Leads ts (label ∷ []) k [] k
label_absent ts k other = skips ts k label refl go
  where
    go : (t : Terminal) → slice_get ts k ≡ Some t → after_label t ≡ Skips
    go Name e = absurd (other e)
    go _ e = refl

pub wire_absent : (ts : List Terminal) (k : ℕ) → (slice_get ts k ≡ Some Wire → ⊥) → Leads ts (wire ∷ []) k [] k
wire_absent ts k other = skips ts k wire refl go
  where
    go : (t : Terminal) → slice_get ts k ≡ Some t → after_wire t ≡ Skips
    go Wire e = absurd (other e)
    go _ e = refl

pub place_absent : (ts : List Terminal) (k : ℕ) → starts (slice_get ts k) ≡ false → Leads ts (place ∷ []) k [] k
place_absent ts k none = skips ts k place refl (λ t e. go t (ap starts (sym e) ∙ none))
  where
    go : (t : Terminal) → starts (Some t) ≡ false → or_absent (after_expr t) ≡ Skips
    go Name e = cc
    go Constant e = cc
    go OpenBrace e = cc
    go _ e = refl

-- two lists of parts that each terminal treats alike
pub alike : (ts : List Terminal) (k : ℕ) (a b : List Symbol) →
    ((below : List Symbol) → slice_get ts k ≡ None → is_end (a ++ below) ≡ is_end (b ++ below)) →
    ((below : List Symbol) (t : Terminal) → slice_get ts k ≡ Some t → next (a ++ below) t ≡ next (b ++ below) t) → Leads ts a k b k
alike ts k a b h n = record { leads = λ below. go below (slice_get ts k) refl }
  where
    go : (below : List Symbol) (o : Option Terminal) → slice_get ts k ≡ o → fault (a ++ below) (drop k ts) ≡ fault (b ++ below) (drop k ts)
    go below None e = rw (drop_end ts k e) (ap (λ (v : Bool). if v then None else Some []) (h below e))
    go below (Some t) e =
        rw (drop_here ts k t e)
        (ap (λ (o : Option (List Symbol)). elim o [ None ↦ Some (t ∷ drop (k + 1) ts) | Some later ↦ fault later (drop (k + 1) ts) ]) (n below t e))

pub place_begins : (ts : List Terminal) (k : ℕ) → starts (slice_get ts k) ≡ true → Leads ts (place ∷ []) k (expr ∷ []) k
place_begins ts k some = alike ts k (place ∷ []) (expr ∷ []) (λ below e. (let no : false ≡ true = ap starts (sym e) ∙ some in cc)) (λ below t e. go below t (ap starts (sym e) ∙ some))
  where
    go : (below : List Symbol) (t : Terminal) → starts (Some t) ≡ true → next (place ∷ below) t ≡ next (expr ∷ below) t
    go below Name e = refl
    go below Constant e = refl
    go below OpenBrace e = refl
    go below _ e = cc

pub prim_begins : {ts : List Terminal} {k : ℕ} → Leads ts (prim ∷ []) k (label ∷ due OpenParen ∷ expr ∷ due Comma ∷ expr ∷ more expr CloseParen ∷ []) k
prim_begins {ts} {k} = alike ts k (prim ∷ []) (label ∷ due OpenParen ∷ expr ∷ due Comma ∷ expr ∷ more expr CloseParen ∷ []) (λ below e. refl) (λ below t e. go below t)
  where
    go : (below : List Symbol) (t : Terminal) → next (prim ∷ below) t ≡ next (label ∷ due OpenParen ∷ expr ∷ due Comma ∷ expr ∷ more expr CloseParen ∷ below) t
    go below Name = refl
    go below OpenParen = refl
    go below _ = refl

pub links_ordered : (ts : List Terminal) (k : ℕ) → (slice_get ts k ≡ Some CloseParen → ⊥) → (slice_get ts k ≡ Some Dot → ⊥) →
    Leads ts (links ∷ []) k (place ∷ more place CloseParen ∷ []) k
links_ordered ts k not_close not_dot = alike ts k (links ∷ []) (place ∷ more place CloseParen ∷ []) (λ below e. refl) (λ below t e. go below t e)
  where
    go : (below : List Symbol) (t : Terminal) → slice_get ts k ≡ Some t → next (links ∷ below) t ≡ next (place ∷ more place CloseParen ∷ below) t
    go below CloseParen e = absurd (not_close e)
    go below Dot e = absurd (not_dot e)
    go below _ e = refl

pub value_absent : (ts : List Terminal) (k : ℕ) → (slice_get ts k ≡ Some Equals → ⊥) → Leads ts (value ∷ []) k [] k
value_absent ts k other = skips ts k value refl go
  where
    go : (t : Terminal) → slice_get ts k ≡ Some t → after_value t ≡ Skips
    go Equals e = absurd (other e)
    go _ e = refl
