-- The bits of names and expressions are nets that are there.
use Rattle.std.proofs.Common.{◌≡◌, ◌+◌, ◌-◌, ◌<◌, ◌≤◌, ℕ, zero, suc, Bool, true, false, cond, ◌&&◌, List, [], ◌∷◌, Option, Some, None, Ok, Err, refl, arith, inl, inr, length, map, slice_get, subst, sym}
use Rattle.std.specs.Prelude.{◌⊎◌, ◌==◌, if◌then◌else◌, nat_le, nat_lt}
use Rattle.std.specs.Int.{bit_at}
use Rattle.std.specs.List.{range_with_len}
use Rattle.std.proofs.lemmas.Bool.{leb-false, leb-true, ltb-false, ltb-true}
use Rattle.std.proofs.lemmas.Nat.Bits.{bit_at-lt}
use Rattle.std.proofs.lemmas.Option.{none-some}
use Rattle.facts.proofs.Tests.{either, left, number_same, right}
use Rattle.id_arena.specs.declared.keys.NetId.{NetId}
use Rattle.id_arena.specs.Names.{place_among}
use Rattle.verilog_lex.specs.declared.token.Token.{Token}
use Rattle.verilog_lex.specs.declared.token.TokenKind.{TokenKind}
use Rattle.verilog_lex.specs.declared.token.TokenKind.TheVariants as kind
use Rattle.verilog_tree.specs.declared.source.Expr.{Expr, map-Expr}
use Rattle.verilog_tree.specs.declared.source.Expr.TheOpen.{Expr-F}
use Rattle.verilog_tree.specs.declared.source.Expr.TheOpen as layer
use Rattle.verilog_tree.specs.declared.source.Expr.TheFolds.{fold-roll-Expr, ind-Expr}
use Rattle.verilog_tree.specs.declared.source.IndexRange.{IndexRange}
use Rattle.module_nets.specs.declared.fault.Cause.TheVariants.{NotDeclared, BadIndex, Width}
use Rattle.module_nets.specs.declared.fault.NetFault.TheVariants.{Refused}
use Rattle.module_nets.specs.declared.nets.Net.{Net}
use Rattle.module_nets.specs.Declarations.{most_bits, width_of}
use Rattle.module_nets.specs.Names.{Name, start_of, text_of}
use Rattle.module_nets.specs.Nets.{Nets}
use Rattle.module_bits.specs.declared.sized.BitsFault.TheVariants as bits_fault
use Rattle.module_bits.specs.declared.target.Target.{Target}
use Rattle.module_bits.specs.declared.target.Target.TheVariants.{NoNet, NoBits, Bits}
use Rattle.module_bits.specs.Bits.{bits, bits_of_kind, bits_step, constant_bits, first_token, joined, misplaced, net_at, one_index, target_bits, times, two_indices, unknown, verdict}
use Rattle.module_bits.specs.Names.{Context, bit_place, bits_in, has_index, is_select, net_named, selected, target_at}
use Rattle.module_bits.specs.Sized.{asked_of}
use Rattle.flattening.specs.declared.fault.ElabFault.TheVariants as fault
use Rattle.flattening.specs.Faults.{bits_here, expression_test, fault_of, sized_test}
use Rattle.flattening.specs.Places.{Given, Inside, context_of, named_bits, net_numbers}
use Rattle.flattening.proofs.Everywhere.{Every, every_append, every_map, every_one}
use Rattle.flattening.proofs.GoodPieces.{AreBelow}
use Rattle.flattening.proofs.Growing.{AreFit}
use Rattle.flattening.proofs.Passing.{Passes}

pub range_below : (n low count : ℕ) → low + count ≤ n → AreBelow n (map net_at (range_with_len low count))
range_below n low zero few = tt
range_below n low (suc count) few = (omega (arith, few), range_below n (low + 1) count (omega (arith, few)))

-- ---- selects

-- an index lies between the ends of its range
between : (r : IndexRange) (i : ℕ) → has_index r i ≡ true → ((r.right ≤ i) × (i ≤ r.left)) ⊎ ((r.left ≤ i) × (i ≤ r.right))
between r i e =
    elim (either (nat_le r.right i && nat_le i r.left) (nat_le r.left i && nat_le i r.right) e) [
      | inl falls ↦ inl (leb-true r.right i (left _ _ falls), leb-true i r.left (right _ _ falls))
      | inr rises ↦ inr (leb-true r.left i (left _ _ rises), leb-true i r.right (right _ _ rises))
    ]

-- so its bit is one of the range
bit_within : (r : IndexRange) (i : ℕ) → has_index r i ≡ true → bit_place r i < width_of (Some r)
bit_within r i e = go (nat_le r.right i) refl (nat_lt r.left r.right) refl (between r i e)
  where
    go : (a : Bool) → nat_le r.right i ≡ a → (b : Bool) → nat_lt r.left r.right ≡ b → ((r.right ≤ i) × (i ≤ r.left)) ⊎ ((r.left ≤ i) × (i ≤ r.right)) → cond a (i - r.right) (r.right - i) < cond b (r.right - r.left + 1) (r.left - r.right + 1)
    go true s true t (inl w) = (let p = leb-true r.right i s in let q = ltb-true r.left r.right t in omega (arith, p, q, w.0, w.1))
    go true s true t (inr w) = (let p = leb-true r.right i s in let q = ltb-true r.left r.right t in omega (arith, p, q, w.0, w.1))
    go true s false t (inl w) = (let p = leb-true r.right i s in let q = ltb-false r.left r.right t in omega (arith, p, q, w.0, w.1))
    go true s false t (inr w) = (let p = leb-true r.right i s in let q = ltb-false r.left r.right t in omega (arith, p, q, w.0, w.1))
    go false s true t (inl w) = (let p = leb-false r.right i s in let q = ltb-true r.left r.right t in omega (arith, p, q, w.0, w.1))
    go false s true t (inr w) = (let p = leb-false r.right i s in let q = ltb-true r.left r.right t in omega (arith, p, q, w.0, w.1))
    go false s false t (inl w) = (let p = leb-false r.right i s in let q = ltb-false r.left r.right t in omega (arith, p, q, w.0, w.1))
    go false s false t (inr w) = (let p = leb-false r.right i s in let q = ltb-false r.left r.right t in omega (arith, p, q, w.0, w.1))

-- the bits of a target end at most here
abbrev EndsBy : ℕ → Target → Type 0
EndsBy n NoNet = Unit {0}
EndsBy n NoBits = Unit {0}
EndsBy n (Bits low count) = low + count ≤ n

selected_ends : (n first : ℕ) (r s : IndexRange) → first + width_of (Some r) ≤ n → EndsBy n (selected first r s)
selected_ends n first r s all = go (is_select r s) refl
  where
    go : (b : Bool) → is_select r s ≡ b → EndsBy n (cond b (Bits (first + bit_place r s.right) (bit_place r s.left - bit_place r s.right + 1)) NoBits)
    go false e = tt
    go true e =
        let within = bit_within r s.left (left _ _ (left _ _ e)) in
        let order : bit_place r s.right ≤ bit_place r s.left = leb-true (bit_place r s.right) (bit_place r s.left) (right (has_index r s.left && has_index r s.right) (nat_le (bit_place r s.right) (bit_place r s.left)) e) in
        omega (arith, all, within, order)

bits_end : (n first : ℕ) (range select : Option IndexRange) → first + width_of range ≤ n → EndsBy n (bits_in first range select)
bits_end n first range None all = all
bits_end n first None (Some s) all = tt
bits_end n first (Some r) (Some s) all = selected_ends n first r s all

-- ---- names

-- a net that is found is one of the nets
pub row_of : (nets : Nets) (name : Name) (net : Net) → net_named nets name ≡ Some net → (k : ℕ) × (slice_get nets.rows k ≡ Some net)
row_of nets name net found = go (place_among nets.names name) found
  where
    go : (place : Option ℕ) → (elim place [ None ↦ None | Some k ↦ slice_get nets.rows k ]) ≡ Some net → (k : ℕ) × (slice_get nets.rows k ≡ Some net)
    go None e = absurd (none-some net e)
    go (Some k) e = (k, e)

module _ (n : ℕ) (c : Context) (fit : AreFit n c.base c.nets.rows) where
  target_ends : (token : ℕ) (select : Option IndexRange) → EndsBy n (target_at c token select)
  target_ends token select = go (net_named c.nets (text_of c.source c.tokens token)) refl
    where
      go : (found : Option Net) → net_named c.nets (text_of c.source c.tokens token) ≡ found → EndsBy n (elim found [ None ↦ NoNet | Some net ↦ bits_in (c.base + net.first) net.range select ])
      go None e = tt
      go (Some net) e =
          let row = row_of c.nets (text_of c.source c.tokens token) net e in
          let ends = fit row.0 net row.1 in
          bits_end n (c.base + net.first) net.range select (omega (arith, ends))

  pub target_below : (token : ℕ) (select : Option IndexRange) → AreBelow n (target_bits (target_at c token select))
  target_below token select = go (target_at c token select) (target_ends token select)
    where
      go : (t : Target) → EndsBy n t → AreBelow n (target_bits t)
      go NoNet ends = tt
      go NoBits ends = tt
      go (Bits low count) ends = range_below n low count ends

pub named_below : (n : ℕ) (here : Inside) (name : Name) → AreFit n here.base here.nets.rows → AreBelow n (named_bits here name)
named_below n here name fit = go (net_named here.nets name) refl
  where
    go : (found : Option Net) → net_named here.nets name ≡ found → AreBelow n (elim found [ None ↦ [] | Some net ↦ net_numbers here net ])
    go None e = tt
    go (Some net) e =
        let row = row_of here.nets name net e in
        let ends = fit row.0 net row.1 in
        range_below n (here.base + net.first) (width_of net.range) (omega (arith, ends))

-- ---- constants

kind_below : (n : ℕ) (k : TokenKind) → 2 ≤ n → AreBelow n (bits_of_kind k)
kind_below n kind.Name two = tt
kind_below n (kind.Keyword place) two = tt
kind_below n (kind.Number number) two = tt
kind_below n (kind.Constant size value) two =
    every_map (λ (m : NetId). m.place < n) (λ i. net_at (bit_at value i)) (range_with_len 0 size)
    (every_one (λ i. bit_at value i < n) (range_with_len 0 size) (λ i. (let bit = bit_at-lt value i in omega (arith, bit, two))))
kind_below n (kind.Mark byte) two = tt

constant_below : (n : ℕ) (tokens : List Token) (token : ℕ) → 2 ≤ n → AreBelow n (constant_bits tokens token)
constant_below n tokens token two = go (slice_get tokens token)
  where
    go : (found : Option Token) → AreBelow n (elim found [ None ↦ [] | Some t ↦ bits_of_kind t.kind ])
    go None = tt
    go (Some t) = kind_below n t.kind two

-- ---- expressions

joined_below : (n : ℕ) (parts : List (List NetId)) → Every (AreBelow n) parts → AreBelow n (joined parts)
joined_below n [] all = tt
joined_below n (part ∷ rest) all = every_append (λ (m : NetId). m.place < n) (joined rest) part (joined_below n rest all.1) all.0

times_below : (n count : ℕ) (ns : List NetId) → AreBelow n ns → AreBelow n (times count ns)
times_below n zero ns all = tt
times_below n (suc count) ns all = every_append (λ (m : NetId). m.place < n) ns (times count ns) all (times_below n count ns all)

module _ (n : ℕ) (c : Context) (two : 2 ≤ n) (fit : AreFit n c.base c.nets.rows) where
  parts_below : (parts : List ((e : Expr) × AreBelow n (bits c e))) → Every (AreBelow n) (map (bits c) (map (λ e. e.0) parts))
  parts_below [] = tt
  parts_below (part ∷ parts) = (part.1, parts_below parts)

  layer_below : (y : Expr-F ((e : Expr) × AreBelow n (bits c e))) → AreBelow n (bits_step c (map-Expr Expr (List NetId) (bits c) (map-Expr ((e : Expr) × AreBelow n (bits c e)) Expr (λ e. e.0) y)))
  layer_below (layer.Whole name) = target_below n c fit name None
  layer_below (layer.Bit name index) = target_below n c fit name (one_index index)
  layer_below (layer.Part name left right) = target_below n c fit name (two_indices left right)
  layer_below (layer.Constant token) = constant_below n c.tokens token two
  layer_below (layer.Join parts) = joined_below n (map (bits c) (map (λ e. e.0) parts)) (parts_below parts)
  layer_below (layer.Repeat count parts) = times_below n count (joined (map (bits c) (map (λ e. e.0) parts))) (joined_below n (map (bits c) (map (λ e. e.0) parts)) (parts_below parts))

  -- the bits of an expression
  pub bits_below : (e : Expr) → AreBelow n (bits c e)
  bits_below = ind-Expr (λ e. AreBelow n (bits c e)) (λ x y is.
      subst (AreBelow n) (sym (fold-roll-Expr (List NetId) (bits_step c) x))
      (subst (λ z. AreBelow n (bits_step c (map-Expr Expr (List NetId) (bits c) z))) is (layer_below y)))

-- ---- an expression that must have a width

sized_by : (same : Bool) (found : List NetId) (at : ℕ) → sized_test (if same then Ok found else Err (bits_fault.WidthDiffers at)) ≡ None → same ≡ true
sized_by true found at passes = refl
sized_by false found at passes = absurd (none-some (fault.WidthDiffers at) (sym passes))

wide_by : (wide : Bool) (found : List NetId) (asked at start : ℕ) → sized_test (asked_of (Some asked) at (if wide then Err (Refused Width start) else Ok found)) ≡ None → (length found == asked) ≡ true
wide_by true found asked at start passes = absurd (none-some (fault_of Width start) (sym passes))
wide_by false found asked at start passes = sized_by (length found == asked) found at passes

names_by : (c : Context) (e : Expr) (name select : Option ℕ) (asked at : ℕ) → sized_test (asked_of (Some asked) at (verdict c e name select)) ≡ None → (length (bits c e) == asked) ≡ true
names_by c e (Some name) select asked at passes = absurd (none-some (fault_of NotDeclared (start_of c.tokens name)) (sym passes))
names_by c e None (Some name) asked at passes = absurd (none-some (fault_of BadIndex (start_of c.tokens name)) (sym passes))
names_by c e None None asked at passes = wide_by (nat_lt most_bits (length (bits c e))) (bits c e) asked at (start_of c.tokens (first_token e)) passes

-- has it
pub sized : (g : Given) (here : Inside) (asked : ℕ) (e : Expr) → Passes (expression_test g here (Some asked) e) → length (bits_here g here e) ≡ asked
sized g here asked e passes =
    let c = context_of g here in
    number_same (length (bits c e)) asked (names_by c e (unknown c e) (misplaced c e) asked (start_of c.tokens (first_token e)) passes)
