-- The parent of a chip, from the distances of all chips and the lowest chip that is one step nearer.
use Rattle.std.proofs.Common.{◌≡◌, ◌⊎◌, inl, inr, ◌<◌, ◌≤◌, ◌+◌, ◌==◌, ℕ, Bool, true, false, Option, Some, None, List, length, refl, sym, ◌∙◌, ap, subst, arith}
use Rattle.std.specs.Prelude.{slice_get, option_map}
use Rattle.std.proofs.lemmas.Bool.{cases_lt}
use Rattle.std.proofs.lemmas.Bool.Decides.{nat_tests}
use Rattle.std.proofs.lemmas.Option.{slice_get_within, get_or_from_slice_get}
use Rattle.facts.proofs.Tests.{below, mapped, number_same, same_number as same_test}
use Rattle.id_arena.specs.declared.keys.ChipId.{ChipId}
use Rattle.id_arena.specs.declared.wire.Wire.{Wire}
use Rattle.id_arena.specs.BoardPlan.{BoardPlan}
use Rattle.board_model.specs.Trees.{Joins, Path, HasDistance, IsNearer, IsParent}
use Rattle.board_model.specs.Trees.Path.{here, further}
use Rattle.board_model.specs.Rounds.{found, is_before, is_below, AreDistances, Comes, IsLowest}

before_is : (o : Option ℕ) (distance : ℕ) → is_before o distance ≡ true → (near : ℕ) × (o ≡ Some near) × (distance ≡ near + 1)
before_is None distance e = cc
before_is (Some near) distance e = (near, refl, sym (number_same (near + 1) distance e))

is_one_before : (near : ℕ) → is_before (Some near) (near + 1) ≡ true
is_one_before near = same_test (near + 1) (near + 1) refl

has_one : (o : Option ℕ) → ((at : ℕ) × (o ≡ Some at)) ⊎ (o ≡ None)
has_one None = inr refl
has_one (Some at) = inl (at, refl)

same_number : (a b : ℕ) → Some a ≡ Some b → a ≡ b
same_number a b e = cc

-- what a read of the distances tells
pub read_at : (distances : List (Option ℕ)) (place chip : ℕ) (o : Option ℕ) → slice_get distances place ≡ Some o → place ≡ chip → found distances chip ≡ o
read_at distances place chip o is at = sym (ap (λ k. found distances k) at) ∙ get_or_from_slice_get distances place o None is

pub to_chip : (a b : ℕ) (test : Bool) → test ≡ (a == b) → test ≡ true → a ≡ b
to_chip a b test is so = number_same a b (sym is ∙ so)

pub no_chip : {A : Type 0} (a b : ℕ) (test : Bool) → test ≡ (a == b) → test ≡ false → a ≡ b → A
no_chip a b test is so same = let e = same_test a b same in absurd cc

module _ (plan : BoardPlan) (root : ℕ) (distances : List (Option ℕ)) (d : AreDistances plan root distances) (chip distance : ℕ) (is : found distances chip ≡ Some distance) where
  -- a chip that a wire comes from is one that is nearer, and the other way round
  nearer_from : (number from : ℕ) → Comes plan distances chip distance number from → IsNearer plan root chip distance from
  nearer_from number from (wire, at, starts, ends, before) =
      let b = before_is (found distances from) distance before in
      record {
        before = b.0;
        step = b.2;
        reached = d.each from b.0 b.1;
        joined = record { number = number; wire = wire; here = at; starts = starts; ends = ends };
      }

  distance_of : (from at : ℕ) → HasDistance plan root from at → found distances from ≡ Some at
  distance_of from at h = go (has_one (found distances from))
    where
      go : ((k : ℕ) × (found distances from ≡ Some k)) ⊎ (found distances from ≡ None) → found distances from ≡ Some at
      go (inr none) = absurd (d.others from none at h.path)
      go (inl (k, so)) =
          let e = d.each from k so in
          let low = e.least at h.path in
          let back = h.least k e.path in
          subst (λ (i : ℕ). found distances from ≡ Some i) (omega arith) so

  comes_from : (from : ℕ) (n : IsNearer plan root chip distance from) → Comes plan distances chip distance n.joined.number from
  comes_from from n =
      let at : found distances from ≡ Some n.before = distance_of from n.before n.reached in
      let before : is_before (found distances from) distance ≡ true = rw (at, n.step) (is_one_before n.before) in
      (n.joined.wire, n.joined.here, n.joined.starts, n.joined.ends, before)

  pub parent_is : (parent : ChipId) → IsLowest plan distances chip distance (length plan.wires) (Some parent) → IsParent plan root chip parent.place distance
  parent_is parent (comes, least) = record {
    reached = d.each chip distance is;
    nearer = nearer_from comes.0 parent.place comes.1;
    lowest = λ other n. least n.joined.number other (slice_get_within plan.wires n.joined.number n.joined.wire n.joined.here) (comes_from other n);
  }

  -- the last step of a shortest path comes from a nearer chip
  last_step : (to long : ℕ) → Path plan root to long → to ≡ chip → long ≡ distance → (chip ≡ root) ⊎ ((from : ℕ) × IsNearer plan root chip distance from)
  last_step to long here there same = inl (sym there)
  last_step to long (further from next w path j) there same = go (has_one (found distances from))
    where
      joined : Joins plan from chip
      joined = subst (λ (c : ℕ). Joins plan from c) there j

      go : ((k : ℕ) × (found distances from ≡ Some k)) ⊎ (found distances from ≡ None) → (chip ≡ root) ⊎ ((a : ℕ) × IsNearer plan root chip distance a)
      go (inr none) = absurd (d.others from none w path)
      go (inl (k, so)) =
          let e = d.each from k so in
          let low = e.least w path in
          let back = (d.each chip distance is).least (k + 1) (further from chip k e.path joined) in
          inr (from, record { before = k; step = omega arith; reached = e; joined = joined })

  pub is_root : IsLowest plan distances chip distance (length plan.wires) None → chip ≡ root
  is_root none = go (last_step chip distance (d.each chip distance is).path refl refl)
    where
      go : (chip ≡ root) ⊎ ((from : ℕ) × IsNearer plan root chip distance from) → chip ≡ root
      go (inl same) = same
      go (inr (from, n)) = absurd (none n.joined.number from (slice_get_within plan.wires n.joined.number n.joined.wire n.joined.here) (comes_from from n))

-- one wire more of those that may come from a lower chip
module _ (plan : BoardPlan) (distances : List (Option ℕ)) (chip distance number : ℕ) (wire : Wire) (at : slice_get plan.wires number ≡ Some wire) where
  this_wire : (other : Wire) (k : ℕ) → k ≡ number → slice_get plan.wires k ≡ Some other → other ≡ wire
  this_wire other k same is = let e : slice_get plan.wires number ≡ Some other = subst (λ (i : ℕ). slice_get plan.wires i ≡ Some other) same is in let f = at in cc

  -- a wire that comes from a nearer chip is this one or one before
  earlier : (k from : ℕ) → k < number + 1 → Comes plan distances chip distance k from
      → (k < number) ⊎ ((wire.from.place ≡ from) × (wire.to.place ≡ chip) × (is_before (found distances from) distance ≡ true))
  earlier k from below (other, is, starts, ends, before) = go (cases_lt k number)
    where
      go : (k < number) ⊎ (number ≤ k) → (k < number) ⊎ ((wire.from.place ≡ from) × (wire.to.place ≡ chip) × (is_before (found distances from) distance ≡ true))
      go (inl old) = inl old
      go (inr past) =
          let e = this_wire other k (omega arith) is in
          inr (subst (λ (w : Wire). w.from.place ≡ from) e starts, subst (λ (w : Wire). w.to.place ≡ chip) e ends, before)

  pub lower : (lowest : Option ChipId) → IsLowest plan distances chip distance number lowest → wire.to.place ≡ chip
      → is_before (found distances wire.from.place) distance ≡ true → ((other : ChipId) → lowest ≡ Some other → wire.from.place < other.place)
      → IsLowest plan distances chip distance (number + 1) (Some wire.from)
  lower None low ends before less = ((number, (wire, at, refl, ends, before)), least)
    where
      least : (k from : ℕ) → k < number + 1 → Comes plan distances chip distance k from → wire.from.place ≤ from
      least k from below comes = elim (earlier k from below comes) [ inl old ↦ absurd (low k from old comes) | inr this ↦ let e = this.0 in omega arith ]
  lower (Some other) low ends before less = ((number, (wire, at, refl, ends, before)), least)
    where
      least : (k from : ℕ) → k < number + 1 → Comes plan distances chip distance k from → wire.from.place ≤ from
      least k from below comes = elim (earlier k from below comes) [ inl old ↦ (let l = low.1 k from old comes in let s = less other refl in omega arith) | inr this ↦ let e = this.0 in omega arith ]

  pub kept : (lowest : Option ChipId) → IsLowest plan distances chip distance number lowest
      → (wire.to.place ≡ chip → is_before (found distances wire.from.place) distance ≡ true → (other : ChipId) × (lowest ≡ Some other) × (other.place ≤ wire.from.place))
      → IsLowest plan distances chip distance (number + 1) lowest
  kept None low more = λ k from below comes. elim (earlier k from below comes) [
    | inl old ↦ low k from old comes
    | inr this ↦
        let before : is_before (found distances wire.from.place) distance ≡ true = subst (λ (i : ℕ). is_before (found distances i) distance ≡ true) (sym this.0) this.2 in
        let m = more this.1 before in let e = m.1 in cc
  ]
  kept (Some lowest) low more = (
    low.0,
    λ k from below comes. elim (earlier k from below comes) [
      | inl old ↦ low.1 k from old comes
      | inr this ↦
          let before : is_before (found distances wire.from.place) distance ≡ true = subst (λ (i : ℕ). is_before (found distances i) distance ≡ true) (sym this.0) this.2 in
          let m = more this.1 before in
          let same : lowest ≡ m.0 = let e = m.1 in cc in
          let place : lowest.place ≡ m.0.place = ap (λ c. c.place) same in
          let far = m.2 in let e = this.0 in omega arith
    ],
  )

-- the same by what is known of the ends of the wire, and of what was kept
module _ (plan : BoardPlan) (distances : List (Option ℕ)) (chip : ChipId) (distance number : ℕ) (lowest : Option ChipId)
    (low : IsLowest plan distances chip.place distance number lowest)
    (from to : ChipId) (joined : option_map {U = ChipId × ChipId} (λ (wire : Wire). (wire.from, wire.to)) (slice_get plan.wires number) ≡ Some (from, to)) where
  wire : (wire : Wire) × (slice_get plan.wires number ≡ Some wire) × (wire.from ≡ from) × (wire.to ≡ to)
  wire =
      let m = mapped {B = ChipId × ChipId} (λ (wire : Wire). (wire.from, wire.to)) (slice_get plan.wires number) (from, to) joined in
      (m.0, m.1, ap (λ p. p.0) m.2, ap (λ p. p.1) m.2)

  above : (o : Option ChipId) → is_below from.place o ≡ true → (other : ChipId) → o ≡ Some other → from.place < other.place
  above None is other so = cc
  above (Some first) is other so = let same : first ≡ other = cc in subst (λ (c : ChipId). from.place < c.place) same (below from.place first.place is)

  beyond : (o : Option ChipId) → is_below from.place o ≡ false → (other : ChipId) × (o ≡ Some other) × (other.place ≤ from.place)
  beyond None is = cc
  beyond (Some first) is = (first, refl, grind (arith, nat_tests))

  pub takes : to.place ≡ chip.place → is_before (found distances from.place) distance ≡ true → is_below from.place lowest ≡ true
      → (after : Option ChipId) → after ≡ Some from → IsLowest plan distances chip.place distance (number + 1) after
  takes same before less after is =
      let w = wire in
      let start : w.0.from.place ≡ from.place = ap (λ c. c.place) w.2 in
      let l = lower plan distances chip.place distance number w.0 w.1 lowest low (ap (λ c. c.place) w.3 ∙ same) (rw start before) (rw start (above lowest less)) in
      rw (is, sym w.2) l

  pub skips : (to.place ≡ chip.place → is_before (found distances from.place) distance ≡ true → is_below from.place lowest ≡ false)
      → (after : Option ChipId) → after ≡ lowest → IsLowest plan distances chip.place distance (number + 1) after
  skips far after is = rw is (kept plan distances chip.place distance number wire.0 wire.1 lowest low (λ ends before. so ends before))
    where
      so : wire.0.to.place ≡ chip.place → is_before (found distances wire.0.from.place) distance ≡ true → (other : ChipId) × (lowest ≡ Some other) × (other.place ≤ wire.0.from.place)
      so ends before =
          let start : wire.0.from.place ≡ from.place = ap (λ c. c.place) wire.2 in
          let end : to.place ≡ chip.place = ap (λ c. c.place) (sym wire.3) ∙ ends in
          let b = beyond lowest (far end (rw start at before)) in
          (b.0, b.1, rw start b.2)
