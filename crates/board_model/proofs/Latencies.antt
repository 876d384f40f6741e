-- The latency of each wire, where all are within the limits.
use Rattle.std.proofs.Common.{◌≡◌, ℕ, zero, suc, ◌<◌, ◌≤◌, true, List, [], ◌∷◌, Some, subst, arith}
use Rattle.std.specs.Prelude.{nat_le, slice_get}
use Rattle.std.specs.List.{list_all}
use Rattle.std.proofs.lemmas.Bool.Decides.{nat_tests}
use Rattle.std.proofs.lemmas.Option.{same_Some}
use Rattle.facts.proofs.Tests.{left, right}
use Rattle.id_arena.specs.declared.wire.Wire.{Wire}
use Rattle.board_model.specs.Sound.{latency_is_within}

within : (wire : Wire) → latency_is_within wire ≡ true → (0 < wire.latency) × (wire.latency ≤ 8)
within wire held =
    let some : nat_le 1 wire.latency ≡ true = left (nat_le 1 wire.latency) (nat_le wire.latency 8) held in
    let few : nat_le wire.latency 8 ≡ true = right (nat_le 1 wire.latency) (nat_le wire.latency 8) held in
    (grind (arith, nat_tests), grind (arith, nat_tests))

-- the wire at a place has a latency of 1 to 8 slots
pub latency_at : (wires : List Wire) (place : ℕ) (wire : Wire) → list_all latency_is_within wires ≡ true → slice_get wires place ≡ Some wire → (0 < wire.latency) × (wire.latency ≤ 8)
latency_at [] place wire all here = cc
latency_at (first ∷ wires) zero wire all here =
    let one = left (latency_is_within first) (list_all latency_is_within wires) all in
    within wire (subst (λ w. latency_is_within w ≡ true) (same_Some first wire here) one)
latency_at (first ∷ wires) (suc place) wire all here =
    let rest = right (latency_is_within first) (list_all latency_is_within wires) all in
    latency_at wires place wire rest here
