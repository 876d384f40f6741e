-- The least net that is read and not driven, as the table tells it.
use Rattle.std.proofs.Common.{◌≡◌, ◌∙◌, ◌<◌, ◌≤◌, ℕ, true, List, [], ◌∷◌, Option, None, Some, ◌⊎◌, inl, inr, ap, sym, subst, arith}
use Rattle.std.specs.Prelude.{◌==◌, nat_lt}
use Rattle.std.proofs.lemmas.Bool.{and_parts, and_from, or_cases, or_left, or_right, eq-eqb, eqb-true, ltb-true, ltb-false, cases_Bool, false_from_ne_true}
use Rattle.id_arena.specs.declared.keys.NetId.{NetId}
use Rattle.design_core.specs.declared.drives.Driven.{Driven}
use Rattle.design_core.specs.declared.parts.Parts.{Parts}
use Rattle.design_core.specs.Design.{driver_count, includes, is_net, net_count, nets_read}
use Rattle.design_core.specs.Faults.{AreThere, IsDriven, IsLeastUndriven, is_undriven}
use Rattle.design_core.specs.Reads.{lesser, lower, lowest, never_at}
use Rattle.design_core.proofs.Ranges.{read_there}
use Rattle.design_core.proofs.Sole.{IsTableOf, never_is}

-- a net so far that is at most this one
abbrev pub AtMost : Option NetId → ℕ → Type 0
AtMost None n = ⊥
AtMost (Some m) n = m.place ≤ n

lesser_keeps : (least : Option NetId) (x : NetId) (n : ℕ) → AtMost least n → AtMost (lesser least x) n
lesser_keeps None x n small = absurd small
lesser_keeps (Some m) x n small = elim (cases_Bool (nat_lt x.place m.place)) [
  | inl less ↦ let below = ltb-true x.place m.place less in rw less (omega (arith, below, small))
  | inr more ↦ rw more small
]

lesser_takes : (least : Option NetId) (x : NetId) → AtMost (lesser least x) x.place
lesser_takes None x = omega arith
lesser_takes (Some m) x = elim (cases_Bool (nat_lt x.place m.place)) [
  | inl less ↦ rw less (omega arith)
  | inr more ↦ let above = ltb-false x.place m.place more in rw more above
]

lower_keeps : (table : List Driven) (least : Option NetId) (x : NetId) (n : ℕ) → AtMost least n → AtMost (lower table least x) n
lower_keeps table least x n small = elim (cases_Bool (never_at table x.place)) [
  | inl free ↦ rw free (lesser_keeps least x n small)
  | inr driven ↦ rw driven small
]

lower_takes : (table : List Driven) (least : Option NetId) (x : NetId) → never_at table x.place ≡ true → AtMost (lower table least x) x.place
lower_takes table least x free = rw free (lesser_takes least x)

lowest_keeps : (table : List Driven) (least : Option NetId) (nets : List NetId) (n : ℕ) → AtMost least n → AtMost (lowest table least nets) n
lowest_keeps table least [] n small = small
lowest_keeps table least (x ∷ xs) n small = lowest_keeps table (lower table least x) xs n (lower_keeps table least x n small)

-- what is found is at most each net without a driver
lowest_takes : (table : List Driven) (least : Option NetId) (nets : List NetId) (n : ℕ) → includes nets n ≡ true → never_at table n ≡ true → AtMost (lowest table least nets) n
lowest_takes table least [] n some free = absurd (cc)
lowest_takes table least (x ∷ xs) n some free = elim (or_cases (is_net n x) (includes xs n) some) [
  | inl same ↦
      let is : x.place ≡ n = eqb-true x.place n same in
      let free-x : never_at table x.place ≡ true = rw is free in
      let here = lower_takes table least x free-x in
      lowest_keeps table (lower table least x) xs n (subst (λ k. AtMost (lower table least x) k) is here)
  | inr rest ↦ lowest_takes table (lower table least x) xs n rest free
]

lesser_is : (least : Option NetId) (x m : NetId) → lesser least x ≡ Some m → (least ≡ Some m) ⊎ (x ≡ m)
lesser_is None x m is = inr (cc)
lesser_is (Some l) x m is = elim (cases_Bool (nat_lt x.place l.place)) [
  | inl less ↦ let is-2 : Some x ≡ Some m = rw less at is in inr (cc)
  | inr more ↦ let is-2 : Some l ≡ Some m = rw more at is in inl is-2
]

lower_is : (table : List Driven) (least : Option NetId) (x m : NetId) → lower table least x ≡ Some m → (least ≡ Some m) ⊎ ((x ≡ m) × (never_at table x.place ≡ true))
lower_is table least x m is = elim (cases_Bool (never_at table x.place)) [
  | inl free ↦
      let is-2 : lesser least x ≡ Some m = rw free at is in
      elim (lesser_is least x m is-2) [
        | inl before ↦ inl before
        | inr same ↦ inr (same, free)
      ]
  | inr driven ↦ let is-2 : least ≡ Some m = rw driven at is in inl is-2
]

-- what is found is among the nets, and nothing drives it
lowest_is : (table : List Driven) (least : Option NetId) (nets : List NetId) (m : NetId) → lowest table least nets ≡ Some m → (least ≡ Some m) ⊎ ((includes nets m.place ≡ true) × (never_at table m.place ≡ true))
lowest_is table least [] m is = inl is
lowest_is table least (x ∷ xs) m is = elim (lowest_is table (lower table least x) xs m is) [
  | inl before ↦ elim (lower_is table least x m before) [
    | inl older ↦ inl older
    | inr h ↦
        let same : x.place ≡ m.place = ap (λ (k : NetId). k.place) h.0 in
        inr (or_left (is_net m.place x) (includes xs m.place) (eq-eqb x.place m.place same), rw (← same) h.1)
  ]
  | inr h ↦ inr (or_right (is_net m.place x) (includes xs m.place) h.0, h.1)
]

-- a net without a driver that is read, as the table tells it
free_read : (p : Parts) (table : List Driven) (n : ℕ) → IsTableOf p table → AreThere p → is_undriven p n ≡ true → (includes (nets_read p) n ≡ true) × (never_at table n ≡ true)
free_read p table n is there bad =
    let parts = and_parts (includes (nets_read p) n) (driver_count p n == 0) bad in
    let within = read_there p there n parts.0 in
    (parts.0, never_is p table n is within ∙ parts.1)

pub none_undriven : (p : Parts) (table : List Driven) → IsTableOf p table → AreThere p → lowest table None (nets_read p) ≡ None → IsDriven p
none_undriven p table is there none n =
    false_from_ne_true (is_undriven p n) (λ bad.
    let free = free_read p table n is there bad in
    let small = lowest_takes table None (nets_read p) n free.0 free.1 in
    rw none at small)

pub least_undriven : (p : Parts) (table : List Driven) (m : NetId) → IsTableOf p table → AreThere p → lowest table None (nets_read p) ≡ Some m → (m.place < net_count p) × IsLeastUndriven p m.place
least_undriven p table m is there found = elim (lowest_is table None (nets_read p) m found) [
  | inl before ↦ absurd (cc)
  | inr h ↦
      let within = read_there p there m.place h.0 in (
        within,
        record {
          here = and_from (includes (nets_read p) m.place) (driver_count p m.place == 0) h.0 (sym (never_is p table m.place is within) ∙ h.1);
          earlier = λ n below. false_from_ne_true (is_undriven p n) (λ bad.
              let free = free_read p table n is there bad in
              let small = lowest_takes table None (nets_read p) n free.0 free.1 in
              let small-2 : m.place ≤ n = rw found at small in
              omega (arith, small-2, below));
        },
      )
]
