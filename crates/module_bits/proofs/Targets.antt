-- The bits of a net have numbers below 2^32.
use Rattle.std.proofs.Common.{◌≡◌, ◌+◌, ◌-◌, ◌<◌, ◌≤◌, ℕ, Bool, true, false, cond, ◌&&◌, Option, Some, None, refl, arith, inl, inr, slice_get}
use Rattle.std.specs.Prelude.{◌⊎◌, nat_le, nat_lt}
use Rattle.std.proofs.lemmas.Bool.{leb-false, leb-true, ltb-false, ltb-true}
use Rattle.facts.proofs.Tests.{either, left, right}
use Rattle.verilog_tree.specs.declared.source.IndexRange.{IndexRange}
use Rattle.module_nets.specs.declared.nets.Net.{Net}
use Rattle.module_nets.specs.Declarations.{width_of}
use Rattle.module_nets.specs.Nets.{Nets}
use Rattle.module_bits.specs.declared.target.Target.TheVariants.{NoBits, Bits}
use Rattle.module_bits.specs.Names.{AreNumbered, bit_place, bits_in, has_index, is_select, selected}
use Rattle.module_bits.specs.Readings.{IsNumbered}

-- an index lies between the ends of its range
between : (r : IndexRange) (i : ℕ) → has_index r i ≡ true → ((r.right ≤ i) × (i ≤ r.left)) ⊎ ((r.left ≤ i) × (i ≤ r.right))
between r i e =
    elim (either (nat_le r.right i && nat_le i r.left) (nat_le r.left i && nat_le i r.right) e) [
      | inl falls ↦ inl (leb-true r.right i (left _ _ falls), leb-true i r.left (right _ _ falls))
      | inr rises ↦ inr (leb-true r.left i (left _ _ rises), leb-true i r.right (right _ _ rises))
    ]

-- so its bit is one of the range
bit_within : (r : IndexRange) (i : ℕ) → has_index r i ≡ true → bit_place r i < width_of (Some r)
bit_within r i e = go (nat_le r.right i) refl (nat_lt r.left r.right) refl (between r i e)
  where
    go : (a : Bool) → nat_le r.right i ≡ a → (b : Bool) → nat_lt r.left r.right ≡ b → ((r.right ≤ i) × (i ≤ r.left)) ⊎ ((r.left ≤ i) × (i ≤ r.right)) → cond a (i - r.right) (r.right - i) < cond b (r.right - r.left + 1) (r.left - r.right + 1)
    go true s true t (inl w) = (let p = leb-true r.right i s in let q = ltb-true r.left r.right t in omega (arith, p, q, w.0, w.1))
    go true s true t (inr w) = (let p = leb-true r.right i s in let q = ltb-true r.left r.right t in omega (arith, p, q, w.0, w.1))
    go true s false t (inl w) = (let p = leb-true r.right i s in let q = ltb-false r.left r.right t in omega (arith, p, q, w.0, w.1))
    go true s false t (inr w) = (let p = leb-true r.right i s in let q = ltb-false r.left r.right t in omega (arith, p, q, w.0, w.1))
    go false s true t (inl w) = (let p = leb-false r.right i s in let q = ltb-true r.left r.right t in omega (arith, p, q, w.0, w.1))
    go false s true t (inr w) = (let p = leb-false r.right i s in let q = ltb-true r.left r.right t in omega (arith, p, q, w.0, w.1))
    go false s false t (inl w) = (let p = leb-false r.right i s in let q = ltb-false r.left r.right t in omega (arith, p, q, w.0, w.1))
    go false s false t (inr w) = (let p = leb-false r.right i s in let q = ltb-false r.left r.right t in omega (arith, p, q, w.0, w.1))

selected_within : (first : ℕ) (r s : IndexRange) → first + width_of (Some r) ≤ 4294967296 → IsNumbered (selected first r s)
selected_within first r s all = go (is_select r s) refl
  where
    go : (b : Bool) → is_select r s ≡ b → IsNumbered (cond b (Bits (first + bit_place r s.right) (bit_place r s.left - bit_place r s.right + 1)) NoBits)
    go false e = tt
    go true e =
        let within = bit_within r s.left (left _ _ (left _ _ e)) in
        let order : bit_place r s.right ≤ bit_place r s.left = leb-true (bit_place r s.right) (bit_place r s.left) (right (has_index r s.left && has_index r s.right) (nat_le (bit_place r s.right) (bit_place r s.left)) e) in
        omega (arith, all, within, order)

pub bits_within : (first : ℕ) (range select : Option IndexRange) → first + width_of range ≤ 4294967296 → IsNumbered (bits_in first range select)
bits_within first range None all = all
bits_within first None (Some s) all = tt
bits_within first (Some r) (Some s) all = selected_within first r s all

-- the numbers of a net that was found
pub net_within : (base : ℕ) (nets : Nets) (k : ℕ) (net : Net) → AreNumbered base nets → slice_get nets.rows k ≡ Some net → base + net.first + width_of net.range ≤ 4294967296
net_within base nets k net are at = (let all = are.within k net at in omega (arith, all))
