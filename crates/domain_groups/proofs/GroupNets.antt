-- The nets of judged groups: they are input bits, and no net is in two groups.
use Rattle.std.proofs.Common.{◌≡◌, ℕ, zero, suc, ◌+◌, ◌<◌, ◌≤◌, arith, Bool, true, false, not, inl, inr, List, [], ◌∷◌, ◌++◌, take, length, map, refl, subst, sym, ap, ◌∙◌}
use Rattle.std.specs.Prelude.{◌==◌, ◌⊎◌, ◌||◌, is_none, if◌then◌else◌, Option, Some, None, Contains, slice_get, count_by, flat_map, option_to_list, option_map}
use Rattle.std.specs.List.{list_any, enumerate_from, sum_by}
use Rattle.std.specs.Option.{option_map_or}
use Rattle.std.proofs.lemmas.Bool.{cases_order}
use Rattle.std.proofs.lemmas.List.{length-map}
use Rattle.std.proofs.lemmas.List.Sums.{sum_by-append}
use Rattle.std.proofs.lemmas.Option.{none-some, same_Some, slice_get_within, slice_get-map}
use Rattle.facts.proofs.Tests.{no, same_number}
use Rattle.facts.proofs.Counting.{counted}
use Rattle.facts.proofs.Lists.{Has, Under, has_under, under_has, has_left, any_at, enumerated}
use Rattle.facts.proofs.Places.{contains_at, at_contains, at_map}
use Rattle.id_arena.specs.declared.keys.NetId.{NetId}
use Rattle.design_core.specs.declared.parts.Parts.{Parts}
use Rattle.design_core.specs.declared.parts.Port.{Port}
use Rattle.design_core.specs.Design.{IsDesign, net_count, port_bits, is_net, driver_count}
use Rattle.design_core.specs.Influence.{Group}
use Rattle.domain_groups.specs.declared.fault.GroupFault.{GroupFault}
use Rattle.domain_groups.specs.declared.fault.GroupFault.TheVariants.{NameTaken, EmptyGroup, NoPort, PortTwice}
use Rattle.domain_groups.specs.declared.written.WrittenGroup.{WrittenGroup}
use Rattle.domain_groups.specs.Groups.{InputGroups, AreGroups}
use Rattle.domain_groups.specs.Judged.{FirstAreSound, fault_behind, group_of, has_place, is_taken, some_earlier, some_unknown, ports_named, ports_of}
use Rattle.domain_groups.specs.Ports.{nets_at}

-- the port of a group that has a net
record HasPort (ports : List Port) (places : List ℕ) (n : NetId) : Type 0 where
  place : ℕ
  named : Has places place
  port : Port
  there : slice_get ports place ≡ Some port
  has : Has port.nets n

port_with : (ports : List Port) (places : List ℕ) (n : NetId) → Contains (flat_map (nets_at ports) places) n → HasPort ports places n
port_with ports places n c =
    let at = at_contains (flat_map (nets_at ports) places) n c in
    let u : Under (nets_at ports) places n = under_has (nets_at ports) places n (record { place = at.0; at = at.1 }) in
    go u (slice_get ports u.item) refl
  where
    nets_of : Option Port → List NetId
    nets_of o = option_map_or (λ (port : Port). port.nets) o []

    go : (under : Under (nets_at ports) places n) (o : Option Port) → slice_get ports under.item ≡ o → HasPort ports places n
    go under None e =
        let empty : Has [] n = subst (λ (nets : List NetId). Has nets n) (ap nets_of e) under.has in
        absurd (none-some n empty.at)
    go under (Some port) e = record {
      place = under.item;
      named = record { place = under.place; at = under.at };
      port = port;
      there = e;
      has = subst (λ (nets : List NetId). Has nets n) (ap nets_of e) under.has;
    }

input_bit : (ports : List Port) (places : List ℕ) (n : NetId) → HasPort ports places n → Contains (port_bits ports) n
input_bit ports places n h =
    let has = has_under (λ (port : Port). port.nets) ports n (record { place = h.place; item = h.port; at = h.there; has = h.has }) in
    contains_at (port_bits ports) has.place n has.at

-- a net that is one bit is in one port alone
counted_once : (nets : List NetId) (n : NetId) → Has nets n → 0 < count_by (is_net n.place) nets
counted_once nets n h = counted (is_net n.place) nets h.place n h.at (same_number n.place n.place refl)

port_count : (n : ℕ) (port : Port) (ports : List Port) → count_by (is_net n) (port_bits (port ∷ ports)) ≡ count_by (is_net n) port.nets + count_by (is_net n) (port_bits ports)
port_count n port ports = sum_by-append (λ (m : NetId). if is_net n m then 1 else 0) port.nets (port_bits ports)

later_count : (ports : List Port) (k : ℕ) (port : Port) (n : NetId) → slice_get ports k ≡ Some port → Has port.nets n → 0 < count_by (is_net n.place) (port_bits ports)
later_count ports k port n at h =
    let has = has_under (λ (p : Port). p.nets) ports n (record { place = k; item = port; at = at; has = h }) in
    counted_once (port_bits ports) n has

one_port : (ports : List Port) (j k : ℕ) (a b : Port) (n : NetId) → count_by (is_net n.place) (port_bits ports) ≤ 1
    → slice_get ports j ≡ Some a → slice_get ports k ≡ Some b → Has a.nets n → Has b.nets n → j ≡ k
one_port [] j k a b n one at at-2 h g = absurd (none-some a at)
one_port (p ∷ ports) zero zero a b n one at at-2 h g = refl
one_port (p ∷ ports) zero (suc k) a b n one at at-2 h g =
    let sum = port_count n.place p ports in
    let here : Has p.nets n = subst (λ (x : Port). Has x.nets n) (sym (same_Some p a at)) h in
    let some = counted_once p.nets n here in
    let more = later_count ports k b n at-2 g in
    absurd (omega arith)
one_port (p ∷ ports) (suc j) zero a b n one at at-2 h g =
    let sum = port_count n.place p ports in
    let here : Has p.nets n = subst (λ (x : Port). Has x.nets n) (sym (same_Some p b at-2)) g in
    let some = counted_once p.nets n here in
    let more = later_count ports j a n at h in
    absurd (omega arith)
one_port (p ∷ ports) (suc j) (suc k) a b n one at at-2 h g =
    let sum = port_count n.place p ports in
    let few : count_by (is_net n.place) (port_bits ports) ≤ 1 = omega arith in
    ap suc (one_port ports j k a b n few at at-2 h g)

-- what it says that a group has no fault
no_faults : (taken empty unknown earlier : Bool) (f g h i : GroupFault)
    → (if taken then Some f else (if empty then Some g else (if unknown then Some h else (if earlier then Some i else None)))) ≡ None → earlier ≡ false
no_faults true empty unknown earlier f g h i e = absurd (none-some f (sym e))
no_faults false true unknown earlier f g h i e = absurd (none-some g (sym e))
no_faults false false true earlier f g h i e = absurd (none-some h (sym e))
no_faults false false false true f g h i e = absurd (none-some i (sym e))
no_faults false false false false f g h i e = refl

no_earlier : (ports : List Port) (earlier : List WrittenGroup) (group : WrittenGroup) → fault_behind ports earlier group ≡ None → some_earlier (ports_of ports earlier) (ports_named ports group.ports) ≡ false
unfolding fault_behind
no_earlier ports earlier group e =
    no_faults (is_taken earlier group.name) (length group.ports == 0) (some_unknown ports group.ports) (some_earlier (ports_of ports earlier) (ports_named ports group.ports))
    (NameTaken (length earlier)) (EmptyGroup (length earlier)) (NoPort (length earlier)) (PortTwice (length earlier)) e

-- a group of the first is among the first, so many
at_take : {X : Type 0} (xs : List X) (j k : ℕ) (x : X) → slice_get xs j ≡ Some x → j < k → slice_get (take k xs) j ≡ Some x
at_take [] j k x at less = absurd (none-some x at)
at_take (y ∷ ys) j zero x at less = absurd (omega arith)
at_take (y ∷ ys) zero (suc k) x at less = at
at_take (y ∷ ys) (suc j) (suc k) x at less = let lower : j < k = omega arith in at_take ys j k x at lower

module _ (ports : List Port) (written : List WrittenGroup) (sound : FirstAreSound ports written (length written)) where
  -- a port of an earlier group is no port of a later one
  no_port_twice : (j k : ℕ) (g h : WrittenGroup) (place : ℕ) → slice_get written j ≡ Some g → slice_get written k ≡ Some h → j < k
      → Has (ports_named ports g.ports) place → Has (ports_named ports h.ports) place → ⊥
  no_port_twice j k g h place at at-2 less first again =
      let none : some_earlier (ports_of ports (take k written)) (ports_named ports h.ports) ≡ false =
      no_earlier ports (take k written) h (sound k h (slice_get_within written k h at-2) at-2) in
      let own = ports_named ports h.ports in
      let before = ports_of ports (take k written) in
      let has = has_under (λ (group : WrittenGroup). ports_named ports group.ports) (take k written) place (record { place = j; item = g; at = at_take written j k g at less; has = first }) in
      let has-2 = has_left before (take again.place own) place has in
      let stands : has_place (before ++ take again.place own) place ≡ true =
      any_at (λ (other : ℕ). other == place) (before ++ take again.place own) has-2.place place has-2.at (same_number place place refl) in
      let numbered = enumerated own 0 again.place again.place place again.at (let same : again.place ≡ 0 + again.place = omega arith in same) in
      let found : some_earlier before own ≡ true =
      any_at (λ (k, place). has_place (before ++ take k own) place) (enumerate_from 0 own) again.place (again.place, place) numbered stands in
      no (sym none ∙ found)

  same_group : (one : (n : NetId) → Contains (port_bits ports) n → count_by (is_net n.place) (port_bits ports) ≤ 1)
      → (j k : ℕ) (g h : WrittenGroup) (n : NetId) → slice_get written j ≡ Some g → slice_get written k ≡ Some h
      → Contains (group_of ports g).nets n → Contains (group_of ports h).nets n → j ≡ k
  same_group one j k g h n at at-2 c d = go (cases_order j k)
    where
      a : HasPort ports (ports_named ports g.ports) n
      a = port_with ports (ports_named ports g.ports) n c

      b : HasPort ports (ports_named ports h.ports) n
      b = port_with ports (ports_named ports h.ports) n d

      same : a.place ≡ b.place
      same = one_port ports a.place b.place a.port b.port n (one n (input_bit ports (ports_named ports g.ports) n a)) a.there b.there a.has b.has

      go : (j ≡ k) ⊎ ((j < k) ⊎ (k < j)) → j ≡ k
      go (inl e) = e
      go (inr (inl less)) =
          absurd (no_port_twice j k g h a.place at at-2 less a.named (subst (Has (ports_named ports h.ports)) (sym same) b.named))
      go (inr (inr more)) =
          absurd (no_port_twice k j h g a.place at-2 at more (subst (Has (ports_named ports h.ports)) (sym same) b.named) a.named)

-- an input bit of a design is counted once
pub input_once : (p : Parts) → IsDesign p → (n : NetId) → Contains (port_bits p.inputs) n → count_by (is_net n.place) (port_bits p.inputs) ≤ 1
input_once p d n c =
    let at = at_contains (port_bits p.inputs) n c in
    let some = counted_once (port_bits p.inputs) n (record { place = at.0; at = at.1 }) in
    let there = d.in_range n.place (omega arith) in
    let few = d.one_driver n.place there in
    omega arith

-- an input bit of a design is one of its nets
pub input_there : (p : Parts) → IsDesign p → (n : NetId) → Contains (port_bits p.inputs) n → n.place < net_count p
input_there p d n c =
    let at = at_contains (port_bits p.inputs) n c in
    let some = counted_once (port_bits p.inputs) n (record { place = at.0; at = at.1 }) in
    d.in_range n.place (omega arith)

-- what written groups without a fault stand for are groups
pub are_groups : (p : Parts) → IsDesign p → (written : List WrittenGroup) → length written ≤ 32 → FirstAreSound p.inputs written (length written)
    → (v : InputGroups) → v.groups ≡ map (group_of p.inputs) written → v.inputs ≡ port_bits p.inputs → AreGroups v
are_groups p d written few sound v groups inputs = record {
  few = rw (groups, length-map written (group_of p.inputs)) few;
  inside = λ k g n at c. inside k g n (rw groups at at) c;
  apart = λ j k g h n at at-2 c e. apart j k g h n (rw groups at at) (rw groups at at-2) c e;
}
  where
    inside : (k : ℕ) (g : Group) (n : NetId) → slice_get (map (group_of p.inputs) written) k ≡ Some g → Contains g.nets n → Contains v.inputs n
    inside k g n at c =
        let w = at_map (group_of p.inputs) written k g at in
        let h = port_with p.inputs (ports_named p.inputs w.0.ports) n (subst (λ (x : Group). Contains x.nets n) w.2 c) in
        rw inputs (input_bit p.inputs (ports_named p.inputs w.0.ports) n h)

    apart : (j k : ℕ) (g h : Group) (n : NetId) → slice_get (map (group_of p.inputs) written) j ≡ Some g → slice_get (map (group_of p.inputs) written) k ≡ Some h
        → Contains g.nets n → Contains h.nets n → j ≡ k
    apart j k g h n at at-2 c e =
        let w = at_map (group_of p.inputs) written j g at in
        let u = at_map (group_of p.inputs) written k h at-2 in
        same_group p.inputs written sound (input_once p d) j k w.0 u.0 n w.1 u.1
        (subst (λ (x : Group). Contains x.nets n) w.2 c) (subst (λ (x : Group). Contains x.nets n) u.2 e)
