-- There is at most one tree: items, headers, modules and texts.
use Rattle.std.proofs.Common.{◌≡◌, ℕ, ◌+◌, ◌≤◌, ◌<◌, ◌⊎◌, inl, inr, List, [], ◌∷◌, ◌++◌, Option, Some, None, Bool, true, false, slice_get, length, refl, sym, ◌∙◌, ap, subst, arith}
use Rattle.std.proofs.lemmas.Option.{slice_get_past}
use Rattle.verilog_tree.specs.declared.terminal.Terminal.{Terminal}
use Rattle.verilog_tree.specs.declared.terminal.Terminal.TheVariants.{Name, Number, Constant, Module, EndModule, Direction, Wire, Supply, Assign, Gate, OpenParen, CloseParen, OpenBracket, CloseBracket, OpenBrace, CloseBrace, Comma, Semicolon, Colon, Equals, Dot}
use Rattle.verilog_tree.specs.declared.source.Dir.{Dir}
use Rattle.verilog_tree.specs.declared.source.IndexRange.{IndexRange}
use Rattle.verilog_tree.specs.declared.source.Item.{Item}
use Rattle.verilog_tree.specs.declared.source.Item.TheVariants as form
use Rattle.verilog_tree.specs.declared.source.Module.{Module as ModuleTree}
use Rattle.verilog_tree.specs.declared.source.NetPart.{NetPart}
use Rattle.verilog_tree.specs.declared.source.PortName.{PortName}
use Rattle.verilog_tree.specs.declared.source.Source.{Source}
use Rattle.verilog_tree.specs.Grammar as grammar
use Rattle.verilog_tree.specs.Grammar.{Is, Commas, Optional, IsRange, IsName, IsNet, IsPair, IsPrim, IsInst, IsWire, IsItem, ports_item, nets_item, supply_item, assign_item, gates_item, instances_item, IsPlainPort, plain_port, IsOne, IsPorts, first_port, next_one, next_name, IsHeader, no_header, names, directions, IsHead, no_head, head, Many, none, and_more, IsModule, IsSource}
use Rattle.verilog_tree.proofs.Passing.{After, commas_here}
use Rattle.verilog_tree.proofs.Unique.{at_one, is_one, same_terminal, unique_commas}
use Rattle.verilog_tree.proofs.UniqueItems.{unique_name, unique_range, unique_wire, range_next, unique_net, unique_pair, unique_prim, unique_inst}
use Rattle.verilog_tree.proofs.PassingItems.{names_here, net_here, one_here, plain_here, item_no_end, module_here}

nets_here : (ts : List Terminal) (k n : ℕ) (xs : List NetPart) → Commas ts (IsNet ts) k n xs → slice_get ts k ≡ Some Name
nets_here ts k n xs c = commas_here ts (IsNet ts) (λ j. slice_get ts j ≡ Some Name) (net_here ts) k n xs c

direction_one : (d d' : Dir) → Direction d ≡ Direction d' → d ≡ d'
direction_one d d' e = cc

supply_one : (v v' : Bool) → Supply v ≡ Supply v' → v ≡ v'
supply_one v v' e = cc

unique_item : (ts : List Terminal) (k k' n n' : ℕ) (x x' : Item) → k ≡ k' → IsItem ts k n x → IsItem ts k' n' x' → (n ≡ n') × (x ≡ x')
unique_item ts _ _ _ _ _ _ p (ports_item k a b c d n dir r ns i w o s z) (ports_item k' a' b' c' d' n' dir' r' ns' i' w' o' s' z') =
    let h = names_here ts c d ns s in let h' = names_here ts c' d' ns' s' in
    let pd = direction_one dir dir' (same_terminal p i i') in
    let pb = unique_wire ts a a' b b' (is_one p i i') w w' (range_next ts b c r o h) (range_next ts b' c' r' o' h') in
    let q = unique_range ts b b' c c' r r' pb o o' h h' in
    let y = unique_commas ts Semicolon (IsName ts) (λ e. cc) (unique_name ts Semicolon) c c' d d' ns ns' q.0 s s' z.here z'.here in
    (is_one y.0 z z', ap (λ j. form.Ports j dir r ns) p ∙ ap (λ j. form.Ports k' j r ns) pd ∙ ap (λ j. form.Ports k' dir' j ns) q.1 ∙ ap (form.Ports k' dir' r') y.1)
unique_item ts _ _ _ _ _ _ p (nets_item k a b c n r ns i o s z) (nets_item k' a' b' c' n' r' ns' i' o' s' z') =
    let q = unique_range ts a a' b b' r r' (is_one p i i') o o' (nets_here ts b c ns s) (nets_here ts b' c' ns' s') in
    let y = unique_commas ts Semicolon (IsNet ts) (λ e. cc) (unique_net ts) b b' c c' ns ns' q.0 s s' z.here z'.here in
    (is_one y.0 z z', ap (λ j. form.Nets j r ns) p ∙ ap (λ j. form.Nets k' j ns) q.1 ∙ ap (form.Nets k' r') y.1)
unique_item ts _ _ _ _ _ _ p (supply_item k a b c n v r ns i o s z) (supply_item k' a' b' c' n' v' r' ns' i' o' s' z') =
    let pv = supply_one v v' (same_terminal p i i') in
    let q = unique_range ts a a' b b' r r' (is_one p i i') o o' (names_here ts b c ns s) (names_here ts b' c' ns' s') in
    let y = unique_commas ts Semicolon (IsName ts) (λ e. cc) (unique_name ts Semicolon) b b' c c' ns ns' q.0 s s' z.here z'.here in
    (is_one y.0 z z', ap (λ j. form.Supply j v r ns) p ∙ ap (λ j. form.Supply k' j r ns) pv ∙ ap (λ j. form.Supply k' v' j ns) q.1 ∙ ap (form.Supply k' v' r') y.1)
unique_item ts _ _ _ _ _ _ p (assign_item k a b n ps i s z) (assign_item k' a' b' n' ps' i' s' z') =
    let y = unique_commas ts Semicolon (IsPair ts) (λ e. cc) (unique_pair ts) a a' b b' ps ps' (is_one p i i') s s' z.here z'.here in
    (is_one y.0 z z', ap (λ j. form.Assign j ps) p ∙ ap (form.Assign k') y.1)
unique_item ts _ _ _ _ _ _ p (gates_item k a b n ps i s z) (gates_item k' a' b' n' ps' i' s' z') =
    let y = unique_commas ts Semicolon (IsPrim ts) (λ e. cc) (unique_prim ts) a a' b b' ps ps' (is_one p i i') s s' z.here z'.here in
    (is_one y.0 z z', ap (λ j. form.Gates j ps) p ∙ ap (form.Gates k') y.1)
unique_item ts _ _ _ _ _ _ p (instances_item k a b n xs i s z) (instances_item k' a' b' n' xs' i' s' z') =
    let y = unique_commas ts Semicolon (IsInst ts) (λ e. cc) (unique_inst ts) a a' b b' xs xs' (is_one p i i') s s' z.here z'.here in
    (is_one y.0 z z', ap (λ j. form.Instances j xs) p ∙ ap (form.Instances k') y.1)
unique_item ts _ _ _ _ _ _ p (ports_item k a b c d n dir r ns i w o s z) (nets_item k' a' b' c' n' r' ns' i' o' s' z') = let h : Direction dir ≡ Wire = same_terminal p i i' in absurd (let no : ⊥ = cc in no)
unique_item ts _ _ _ _ _ _ p (ports_item k a b c d n dir r ns i w o s z) (supply_item k' a' b' c' n' v' r' ns' i' o' s' z') = let h : Direction dir ≡ Supply v' = same_terminal p i i' in absurd (let no : ⊥ = cc in no)
unique_item ts _ _ _ _ _ _ p (ports_item k a b c d n dir r ns i w o s z) (assign_item k' a' b' n' ps' i' s' z') = let h : Direction dir ≡ Assign = same_terminal p i i' in absurd (let no : ⊥ = cc in no)
unique_item ts _ _ _ _ _ _ p (ports_item k a b c d n dir r ns i w o s z) (gates_item k' a' b' n' ps' i' s' z') = let h : Direction dir ≡ Gate = same_terminal p i i' in absurd (let no : ⊥ = cc in no)
unique_item ts _ _ _ _ _ _ p (ports_item k a b c d n dir r ns i w o s z) (instances_item k' a' b' n' xs' i' s' z') = let h : Direction dir ≡ Name = same_terminal p i i' in absurd (let no : ⊥ = cc in no)
unique_item ts _ _ _ _ _ _ p (nets_item k a b c n r ns i o s z) (ports_item k' a' b' c' d' n' dir' r' ns' i' w' o' s' z') = let h : Wire ≡ Direction dir' = same_terminal p i i' in absurd (let no : ⊥ = cc in no)
unique_item ts _ _ _ _ _ _ p (nets_item k a b c n r ns i o s z) (supply_item k' a' b' c' n' v' r' ns' i' o' s' z') = let h : Wire ≡ Supply v' = same_terminal p i i' in absurd (let no : ⊥ = cc in no)
unique_item ts _ _ _ _ _ _ p (nets_item k a b c n r ns i o s z) (assign_item k' a' b' n' ps' i' s' z') = let h : Wire ≡ Assign = same_terminal p i i' in absurd (let no : ⊥ = cc in no)
unique_item ts _ _ _ _ _ _ p (nets_item k a b c n r ns i o s z) (gates_item k' a' b' n' ps' i' s' z') = let h : Wire ≡ Gate = same_terminal p i i' in absurd (let no : ⊥ = cc in no)
unique_item ts _ _ _ _ _ _ p (nets_item k a b c n r ns i o s z) (instances_item k' a' b' n' xs' i' s' z') = let h : Wire ≡ Name = same_terminal p i i' in absurd (let no : ⊥ = cc in no)
unique_item ts _ _ _ _ _ _ p (supply_item k a b c n v r ns i o s z) (ports_item k' a' b' c' d' n' dir' r' ns' i' w' o' s' z') = let h : Supply v ≡ Direction dir' = same_terminal p i i' in absurd (let no : ⊥ = cc in no)
unique_item ts _ _ _ _ _ _ p (supply_item k a b c n v r ns i o s z) (nets_item k' a' b' c' n' r' ns' i' o' s' z') = let h : Supply v ≡ Wire = same_terminal p i i' in absurd (let no : ⊥ = cc in no)
unique_item ts _ _ _ _ _ _ p (supply_item k a b c n v r ns i o s z) (assign_item k' a' b' n' ps' i' s' z') = let h : Supply v ≡ Assign = same_terminal p i i' in absurd (let no : ⊥ = cc in no)
unique_item ts _ _ _ _ _ _ p (supply_item k a b c n v r ns i o s z) (gates_item k' a' b' n' ps' i' s' z') = let h : Supply v ≡ Gate = same_terminal p i i' in absurd (let no : ⊥ = cc in no)
unique_item ts _ _ _ _ _ _ p (supply_item k a b c n v r ns i o s z) (instances_item k' a' b' n' xs' i' s' z') = let h : Supply v ≡ Name = same_terminal p i i' in absurd (let no : ⊥ = cc in no)
unique_item ts _ _ _ _ _ _ p (assign_item k a b n ps i s z) (ports_item k' a' b' c' d' n' dir' r' ns' i' w' o' s' z') = let h : Assign ≡ Direction dir' = same_terminal p i i' in absurd (let no : ⊥ = cc in no)
unique_item ts _ _ _ _ _ _ p (assign_item k a b n ps i s z) (nets_item k' a' b' c' n' r' ns' i' o' s' z') = let h : Assign ≡ Wire = same_terminal p i i' in absurd (let no : ⊥ = cc in no)
unique_item ts _ _ _ _ _ _ p (assign_item k a b n ps i s z) (supply_item k' a' b' c' n' v' r' ns' i' o' s' z') = let h : Assign ≡ Supply v' = same_terminal p i i' in absurd (let no : ⊥ = cc in no)
unique_item ts _ _ _ _ _ _ p (assign_item k a b n ps i s z) (gates_item k' a' b' n' ps' i' s' z') = let h : Assign ≡ Gate = same_terminal p i i' in absurd (let no : ⊥ = cc in no)
unique_item ts _ _ _ _ _ _ p (assign_item k a b n ps i s z) (instances_item k' a' b' n' xs' i' s' z') = let h : Assign ≡ Name = same_terminal p i i' in absurd (let no : ⊥ = cc in no)
unique_item ts _ _ _ _ _ _ p (gates_item k a b n ps i s z) (ports_item k' a' b' c' d' n' dir' r' ns' i' w' o' s' z') = let h : Gate ≡ Direction dir' = same_terminal p i i' in absurd (let no : ⊥ = cc in no)
unique_item ts _ _ _ _ _ _ p (gates_item k a b n ps i s z) (nets_item k' a' b' c' n' r' ns' i' o' s' z') = let h : Gate ≡ Wire = same_terminal p i i' in absurd (let no : ⊥ = cc in no)
unique_item ts _ _ _ _ _ _ p (gates_item k a b n ps i s z) (supply_item k' a' b' c' n' v' r' ns' i' o' s' z') = let h : Gate ≡ Supply v' = same_terminal p i i' in absurd (let no : ⊥ = cc in no)
unique_item ts _ _ _ _ _ _ p (gates_item k a b n ps i s z) (assign_item k' a' b' n' ps' i' s' z') = let h : Gate ≡ Assign = same_terminal p i i' in absurd (let no : ⊥ = cc in no)
unique_item ts _ _ _ _ _ _ p (gates_item k a b n ps i s z) (instances_item k' a' b' n' xs' i' s' z') = let h : Gate ≡ Name = same_terminal p i i' in absurd (let no : ⊥ = cc in no)
unique_item ts _ _ _ _ _ _ p (instances_item k a b n xs i s z) (ports_item k' a' b' c' d' n' dir' r' ns' i' w' o' s' z') = let h : Name ≡ Direction dir' = same_terminal p i i' in absurd (let no : ⊥ = cc in no)
unique_item ts _ _ _ _ _ _ p (instances_item k a b n xs i s z) (nets_item k' a' b' c' n' r' ns' i' o' s' z') = let h : Name ≡ Wire = same_terminal p i i' in absurd (let no : ⊥ = cc in no)
unique_item ts _ _ _ _ _ _ p (instances_item k a b n xs i s z) (supply_item k' a' b' c' n' v' r' ns' i' o' s' z') = let h : Name ≡ Supply v' = same_terminal p i i' in absurd (let no : ⊥ = cc in no)
unique_item ts _ _ _ _ _ _ p (instances_item k a b n xs i s z) (assign_item k' a' b' n' ps' i' s' z') = let h : Name ≡ Assign = same_terminal p i i' in absurd (let no : ⊥ = cc in no)
unique_item ts _ _ _ _ _ _ p (instances_item k a b n xs i s z) (gates_item k' a' b' n' ps' i' s' z') = let h : Name ≡ Gate = same_terminal p i i' in absurd (let no : ⊥ = cc in no)

unique_plain : (ts : List Terminal) (k k' n n' : ℕ) (x x' : PortName) → k ≡ k' → IsPlainPort ts k n x → IsPlainPort ts k' n' x' →
    After ts CloseParen n → After ts CloseParen n' → (n ≡ n') × (x ≡ x')
unique_plain ts _ _ _ _ _ _ p (plain_port k n i) (plain_port k' n' i') f f' =
    (is_one p i i', ap (λ (u : ℕ). let x : PortName = record { name = u; dir = None; range = None } in x) p)

unique_one : (ts : List Terminal) (k k' n n' : ℕ) (x x' : PortName) → k ≡ k' → IsOne ts k n x → IsOne ts k' n' x' → (n ≡ n') × (x ≡ x')
unique_one ts _ _ _ _ _ _ p (grammar.one k a b c n d r i w o z) (grammar.one k' a' b' c' n' d' r' i' w' o' z') =
    let pd = direction_one d d' (same_terminal p i i') in
    let pb = unique_wire ts a a' b b' (is_one p i i') w w' (range_next ts b c r o z.here) (range_next ts b' c' r' o' z'.here) in
    let q = unique_range ts b b' c c' r r' pb o o' z.here z'.here in (
      is_one q.0 z z',
      ap (λ (u : ℕ). let x : PortName = record { name = u; dir = Some d; range = r } in x) q.0
          ∙ ap (λ (u : Dir). let x : PortName = record { name = c'; dir = Some u; range = r } in x) pd
          ∙ ap (λ (u : Option IndexRange). let x : PortName = record { name = c'; dir = Some d'; range = u } in x) q.1,
    )

-- ports from the left, each by the port before it
data PortsAfter (ts : List Terminal) : PortName → ℕ → ℕ → List PortName → Type 0 where
  ports_end : (q : PortName) (k : ℕ) → PortsAfter ts q k k []
  then_one : (q p : PortName) (k a b n : ℕ) (ps : List PortName) → Is ts k Comma a → IsOne ts a b p → PortsAfter ts p b n ps → PortsAfter ts q k n (p ∷ ps)
  then_name : (q : PortName) (k a b n : ℕ) (ps : List PortName) → Is ts k Comma a → Is ts a Name b →
      PortsAfter ts (record { name = a; dir = q.dir; range = q.range }) b n ps → PortsAfter ts q k n (record { name = a; dir = q.dir; range = q.range } ∷ ps)

record PortsFrom (ts : List Terminal) (k n : ℕ) (ps : List PortName) : Type 0 where
  first : PortName
  rest : List PortName
  place : ℕ
  is : ps ≡ first ∷ rest
  one : IsOne ts k place first
  later : PortsAfter ts first place n rest

-- what the last port is
Last : PortName → List PortName → PortName → Type 0
Last q [] p = p ≡ q
Last q (x ∷ xs) p = Last x xs p

after_push_one : (ts : List Terminal) (q : PortName) (k a b n : ℕ) (p : PortName) (ps : List PortName) → PortsAfter ts q k a ps → Is ts a Comma b → IsOne ts b n p →
    PortsAfter ts q k n (ps ++ p ∷ [])
after_push_one ts _ _ _ b n p _ (ports_end q k) i o = then_one q p k b n n [] i o (ports_end p n)
after_push_one ts _ _ _ b n p _ (then_one q x k c d m xs j y rest) i o = then_one q x k c d n (xs ++ p ∷ []) j y (after_push_one ts x d m b n p xs rest i o)
after_push_one ts _ _ _ b n p _ (then_name q k c d m xs j y rest) i o =
    then_name q k c d n (xs ++ p ∷ []) j y (after_push_one ts (record { name = c; dir = q.dir; range = q.range }) d m b n p xs rest i o)

after_push_name : (ts : List Terminal) (q l : PortName) (k a b n : ℕ) (ps : List PortName) → PortsAfter ts q k a ps → Last q ps l → Is ts a Comma b → Is ts b Name n →
    PortsAfter ts q k n (ps ++ record { name = b; dir = l.dir; range = l.range } ∷ [])
unfolding Last
after_push_name ts _ l _ _ b n _ (ports_end q k) e i o =
    subst (λ (x : PortName). PortsAfter ts q k n (record { name = b; dir = x.dir; range = x.range } ∷ [])) (sym e)
    (then_name q k b n n [] i o (ports_end (record { name = b; dir = q.dir; range = q.range }) n))
after_push_name ts _ l _ _ b n _ (then_one q x k c d m xs j y rest) e i o =
    then_one q x k c d n (xs ++ record { name = b; dir = l.dir; range = l.range } ∷ []) j y (after_push_name ts x l d m b n xs rest e i o)
after_push_name ts _ l _ _ b n _ (then_name q k c d m xs j y rest) e i o =
    then_name q k c d n (xs ++ record { name = b; dir = l.dir; range = l.range } ∷ []) j y
    (after_push_name ts (record { name = c; dir = q.dir; range = q.range }) l d m b n xs rest e i o)

last_push : (q p : PortName) (ps : List PortName) → Last q (ps ++ p ∷ []) p
unfolding Last
last_push q p [] = refl
last_push q p (x ∷ ps) = last_push x p ps

ports_from : (ts : List Terminal) (k n : ℕ) (l : PortName) (ps : List PortName) → IsPorts ts k n l ps → (f : PortsFrom ts k n ps) × Last f.first f.rest l
unfolding Last
ports_from ts _ _ _ _ (first_port k n p s) = (record { first = p; rest = []; place = n; is = refl; one = s; later = ports_end p n }, refl)
ports_from ts _ _ _ _ (next_one k a b n p q ps s i o) =
    let f = ports_from ts k a q ps s in (
      record {
        first = f.0.first;
        rest = f.0.rest ++ p ∷ [];
        place = f.0.place;
        is = ap (λ l. l ++ p ∷ []) f.0.is;
        one = f.0.one;
        later = after_push_one ts f.0.first f.0.place a b n p f.0.rest f.0.later i o;
      },
      last_push f.0.first p f.0.rest,
    )
ports_from ts _ _ _ _ (next_name k a b n q ps s i o) =
    let f = ports_from ts k a q ps s in
    let p : PortName = record { name = b; dir = q.dir; range = q.range } in (
      record {
        first = f.0.first;
        rest = f.0.rest ++ p ∷ [];
        place = f.0.place;
        is = ap (λ l. l ++ p ∷ []) f.0.is;
        one = f.0.one;
        later = after_push_name ts f.0.first q f.0.place a b n f.0.rest f.0.later f.1 i o;
      },
      last_push f.0.first p f.0.rest,
    )

port_bare : (a a' : ℕ) (q q' : PortName) → a ≡ a' → q ≡ q' →
    ◌≡◌ {A = PortName} (record { name = a; dir = q.dir; range = q.range }) (record { name = a'; dir = q'.dir; range = q'.range })
port_bare a a' q q' p e =
    ap (λ (u : ℕ). let x : PortName = record { name = u; dir = q.dir; range = q.range } in x) p
    ∙ ap (λ (u : PortName). let x : PortName = record { name = a'; dir = u.dir; range = u.range } in x) e

unique_after : (ts : List Terminal) (q q' : PortName) (k k' n n' : ℕ) (ps ps' : List PortName) → q ≡ q' → k ≡ k' → PortsAfter ts q k n ps → PortsAfter ts q' k' n' ps' →
    slice_get ts n ≡ Some CloseParen → slice_get ts n' ≡ Some CloseParen → (n ≡ n') × (ps ≡ ps')
unique_after ts _ _ _ _ _ _ _ _ g p (ports_end q k) (ports_end q' k') f f' = (p, refl)
unique_after ts _ _ _ _ _ _ _ _ g p (ports_end q k) (then_one q' x' k' a' b' n' ps' i' o' r') f f' =
    let h : CloseParen ≡ Comma = at_one ts k k' CloseParen Comma p f i'.here in absurd (let no : ⊥ = cc in no)
unique_after ts _ _ _ _ _ _ _ _ g p (ports_end q k) (then_name q' k' a' b' n' ps' i' o' r') f f' =
    let h : CloseParen ≡ Comma = at_one ts k k' CloseParen Comma p f i'.here in absurd (let no : ⊥ = cc in no)
unique_after ts _ _ _ _ _ _ _ _ g p (then_one q x k a b n ps i o r) (ports_end q' k') f f' =
    let h : Comma ≡ CloseParen = at_one ts k k' Comma CloseParen p i.here f' in absurd (let no : ⊥ = cc in no)
unique_after ts _ _ _ _ _ _ _ _ g p (then_name q k a b n ps i o r) (ports_end q' k') f f' =
    let h : Comma ≡ CloseParen = at_one ts k k' Comma CloseParen p i.here f' in absurd (let no : ⊥ = cc in no)
unique_after ts _ _ _ _ _ _ _ _ g p (then_one q x k a b n ps i o r) (then_name q' k' a' b' n' ps' i' o' r') f f' =
    let t = one_here ts a b x o in
    let h : Direction t.0 ≡ Name = at_one ts a a' (Direction t.0) Name (is_one p i i') t.1 o'.here in absurd (let no : ⊥ = cc in no)
unique_after ts _ _ _ _ _ _ _ _ g p (then_name q k a b n ps i o r) (then_one q' x' k' a' b' n' ps' i' o' r') f f' =
    let t = one_here ts a' b' x' o' in
    let h : Name ≡ Direction t.0 = at_one ts a a' Name (Direction t.0) (is_one p i i') o.here t.1 in absurd (let no : ⊥ = cc in no)
unique_after ts _ _ _ _ _ _ _ _ g p (then_one q x k a b n ps i o r) (then_one q' x' k' a' b' n' ps' i' o' r') f f' =
    let u = unique_one ts a a' b b' x x' (is_one p i i') o o' in
    let v = unique_after ts x x' b b' n n' ps ps' u.1 u.0 r r' f f' in
    (v.0, ap (λ y. y ∷ ps) u.1 ∙ ap (λ l. x' ∷ l) v.1)
unique_after ts _ _ _ _ _ _ _ _ g p (then_name q k a b n ps i o r) (then_name q' k' a' b' n' ps' i' o' r') f f' =
    let pa = is_one p i i' in
    let same = port_bare a a' q q' pa g in
    let v = unique_after ts (record { name = a; dir = q.dir; range = q.range }) (record { name = a'; dir = q'.dir; range = q'.range }) b b' n n' ps ps' same (is_one pa o o') r r' f f' in
    (v.0, ap (λ y. y ∷ ps) same ∙ ap (λ l. record { name = a'; dir = q'.dir; range = q'.range } ∷ l) v.1)

unique_ports : (ts : List Terminal) (k k' n n' : ℕ) (l l' : PortName) (ps ps' : List PortName) → k ≡ k' → IsPorts ts k n l ps → IsPorts ts k' n' l' ps' →
    slice_get ts n ≡ Some CloseParen → slice_get ts n' ≡ Some CloseParen → (n ≡ n') × (ps ≡ ps')
unique_ports ts k k' n n' l l' ps ps' p s s' f f' =
    let a = (ports_from ts k n l ps s).0 in let b = (ports_from ts k' n' l' ps' s').0 in
    let u = unique_one ts k k' a.place b.place a.first b.first p a.one b.one in
    let v = unique_after ts a.first b.first a.place b.place n n' a.rest b.rest u.1 u.0 a.later b.later f f' in
    (v.0, a.is ∙ ap (λ y. y ∷ a.rest) u.1 ∙ ap (λ m. b.first ∷ m) v.1 ∙ sym b.is)

names_first : (ts : List Terminal) (k n : ℕ) (ps : List PortName) → Commas ts (IsPlainPort ts) k n ps → slice_get ts k ≡ Some Name
names_first ts k n ps c = commas_here ts (IsPlainPort ts) (λ j. slice_get ts j ≡ Some Name) (plain_here ts) k n ps c

ports_first : (ts : List Terminal) (k n : ℕ) (l : PortName) (ps : List PortName) → IsPorts ts k n l ps → (d : Dir) × (slice_get ts k ≡ Some (Direction d))
ports_first ts k n l ps s = (let a = (ports_from ts k n l ps s).0 in one_here ts k a.place a.first a.one)

unique_header : (ts : List Terminal) (k k' m m' n n' : ℕ) (ps ps' : List PortName) → k ≡ k' → IsHeader ts k m ps → IsHeader ts k' m' ps' →
    Is ts m CloseParen n → Is ts m' CloseParen n' → (m ≡ m') × (ps ≡ ps')
unique_header ts _ _ _ _ n n' _ _ p (no_header k) (no_header k') z z' = (p, refl)
unique_header ts _ _ _ _ n n' _ _ p (no_header k) (names k' m' ps' c') z z' =
    let h : CloseParen ≡ Name = at_one ts k k' CloseParen Name p z.here (names_first ts k' m' ps' c') in absurd (let no : ⊥ = cc in no)
unique_header ts _ _ _ _ n n' _ _ p (no_header k) (directions k' m' l' ps' s') z z' =
    let t = ports_first ts k' m' l' ps' s' in let h : CloseParen ≡ Direction t.0 = at_one ts k k' CloseParen (Direction t.0) p z.here t.1 in absurd (let no : ⊥ = cc in no)
unique_header ts _ _ _ _ n n' _ _ p (names k m ps c) (no_header k') z z' =
    let h : Name ≡ CloseParen = at_one ts k k' Name CloseParen p (names_first ts k m ps c) z'.here in absurd (let no : ⊥ = cc in no)
unique_header ts _ _ _ _ n n' _ _ p (names k m ps c) (names k' m' ps' c') z z' =
    unique_commas ts CloseParen (IsPlainPort ts) (λ e. cc) (unique_plain ts) k k' m m' ps ps' p c c' z.here z'.here
unique_header ts _ _ _ _ n n' _ _ p (names k m ps c) (directions k' m' l' ps' s') z z' =
    let t = ports_first ts k' m' l' ps' s' in
    let h : Name ≡ Direction t.0 = at_one ts k k' Name (Direction t.0) p (names_first ts k m ps c) t.1 in absurd (let no : ⊥ = cc in no)
unique_header ts _ _ _ _ n n' _ _ p (directions k m l ps s) (no_header k') z z' =
    let t = ports_first ts k m l ps s in let h : Direction t.0 ≡ CloseParen = at_one ts k k' (Direction t.0) CloseParen p t.1 z'.here in absurd (let no : ⊥ = cc in no)
unique_header ts _ _ _ _ n n' _ _ p (directions k m l ps s) (names k' m' ps' c') z z' =
    let t = ports_first ts k m l ps s in
    let h : Direction t.0 ≡ Name = at_one ts k k' (Direction t.0) Name p t.1 (names_first ts k' m' ps' c') in absurd (let no : ⊥ = cc in no)
unique_header ts _ _ _ _ n n' _ _ p (directions k m l ps s) (directions k' m' l' ps' s') z z' =
    unique_ports ts k k' m m' l l' ps ps' p s s' z.here z'.here

unique_head : (ts : List Terminal) (k k' m m' n n' : ℕ) (ps ps' : List PortName) → k ≡ k' → IsHead ts k m ps → IsHead ts k' m' ps' →
    Is ts m Semicolon n → Is ts m' Semicolon n' → (m ≡ m') × (ps ≡ ps')
unique_head ts _ _ _ _ n n' _ _ p (no_head k) (no_head k') z z' = (p, refl)
unique_head ts _ _ _ _ n n' _ _ p (no_head k) (head k' a' b' m' ps' o' s' c') z z' =
    let h : Semicolon ≡ OpenParen = same_terminal p z o' in absurd (let no : ⊥ = cc in no)
unique_head ts _ _ _ _ n n' _ _ p (head k a b m ps o s c) (no_head k') z z' =
    let h : OpenParen ≡ Semicolon = same_terminal p o z' in absurd (let no : ⊥ = cc in no)
unique_head ts _ _ _ _ n n' _ _ p (head k a b m ps o s c) (head k' a' b' m' ps' o' s' c') z z' =
    let q = unique_header ts a a' b b' m m' ps ps' (is_one p o o') s s' c c' in (is_one q.0 c c', q.1)

-- parts one after another, up to a place where no more begins
unique_many : {A : Type 0} (X : ℕ → ℕ → A → Type 0) (E : ℕ → Type 0) → ((k k' n : ℕ) (a : A) → k ≡ k' → E k → X k' n a → ⊥) →
    ((k k' n n' : ℕ) (a a' : A) → k ≡ k' → X k n a → X k' n' a' → (n ≡ n') × (a ≡ a')) →
    (k k' n n' : ℕ) (xs xs' : List A) → k ≡ k' → Many X k n xs → Many X k' n' xs' → E n → E n' → (n ≡ n') × (xs ≡ xs')
unique_many X E over u _ _ _ _ _ _ p (none k) (none k') f f' = (p, refl)
unique_many X E over u _ _ _ _ _ _ p (none k) (and_more k' a' n' x' xs' s' r') f f' = absurd (over k k' a' x' p f s')
unique_many X E over u _ _ _ _ _ _ p (and_more k a n x xs s r) (none k') f f' = absurd (over k' k a x (sym p) f' s)
unique_many X E over u _ _ _ _ _ _ p (and_more k a n x xs s r) (and_more k' a' n' x' xs' s' r') f f' =
    let q = u k k' a a' x x' p s s' in
    let t = unique_many X E over u a a' n n' xs xs' q.0 r r' f f' in
    (t.0, ap (λ y. y ∷ xs) q.1 ∙ ap (λ l. x' ∷ l) t.1)

unique_module : (ts : List Terminal) (k k' n n' : ℕ) (x x' : ModuleTree) → k ≡ k' → IsModule ts k n x → IsModule ts k' n' x' → (n ≡ n') × (x ≡ x')
unique_module ts _ _ _ _ _ _ p (grammar.module_ k a b c d e n ps xs i j h z s y) (grammar.module_ k' a' b' c' d' e' n' ps' xs' i' j' h' z' s' y') =
    let pa = is_one p i i' in
    let q = unique_head ts b b' c c' d d' ps ps' (is_one pa j j') h h' z z' in
    let t = unique_many (IsItem ts) (λ m. slice_get ts m ≡ Some EndModule) (λ m m' l x e f g. item_no_end ts m' l x g (ap (slice_get ts) (sym e) ∙ f)) (unique_item ts)
    d d' e e' xs xs' (is_one q.0 z z') s s' y.here y'.here in (
      is_one t.0 y y',
      ap (λ (u : ℕ). let x : ModuleTree = record { name = u; ports = ps; items = xs } in x) pa
          ∙ ap (λ (u : List PortName). let x : ModuleTree = record { name = a'; ports = u; items = xs } in x) q.1
          ∙ ap (λ (u : List Item). let x : ModuleTree = record { name = a'; ports = ps'; items = u } in x) t.1,
    )

-- a text has one tree
pub unique_source : (ts : List Terminal) (a b : Source) → IsSource ts a → IsSource ts b → a ≡ b
unique_source ts a b s t =
    let over : (k k' n : ℕ) (x : ModuleTree) → k ≡ k' → k ≡ length ts → IsModule ts k' n x → ⊥ =
    λ k k' n x p e m. (let h = module_here ts k' n x m in
    let f : slice_get ts k' ≡ None = slice_get_past ts k' (omega arith) in cc) in
    let q = unique_many (IsModule ts) (λ m. m ≡ length ts) over (unique_module ts) 0 0 (length ts) (length ts) a.modules b.modules refl s t refl refl in
    ap (λ (u : List ModuleTree). let x : Source = record { modules = u } in x) q.1
