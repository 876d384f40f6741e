-- How the distances grow round by round, and that they are done where a round finds none.
use Rattle.std.proofs.Common.{◌≡◌, ◌≢◌, ◌⊎◌, inl, inr, ◌<◌, ◌≤◌, ◌+◌, ℕ, Bool, true, false, cond, Option, Some, None, List, length, get_or, set, replicate, refl, sym, ◌∙◌, ap, subst, arith}
use Rattle.std.specs.List.{count_by}
use Rattle.std.specs.Prelude.{slice_get, option_map}
use Rattle.std.specs.Option.{is_none}
use Rattle.std.proofs.Math.ListN.{get_or-eq_default}
use Rattle.std.proofs.lemmas.Option.{slice_get_within}
use Rattle.std.proofs.lemmas.Bool.{cases_eq, cases_lt}
use Rattle.std.proofs.lemmas.List.{length-set, length-replicate, get_or-replicate, get_or-set_same, get_or-set_other}
use Rattle.std.proofs.lemmas.List.Sums.{sum_by-set, count_by-le-length}
use Rattle.facts.proofs.Tests.{left, right, mapped, number_same, same_number as same_test}
use Rattle.id_arena.specs.declared.keys.ChipId.{ChipId}
use Rattle.id_arena.specs.declared.wire.Wire.{Wire}
use Rattle.id_arena.specs.BoardPlan.{BoardPlan}
use Rattle.board_model.specs.Trees.{Joins, Path}
use Rattle.board_model.specs.Trees.Path.{here, further}
use Rattle.board_model.specs.Rounds.{found, is_at, goes_on, IsReached, AreDistances, IsRound}

-- a chip has a distance or has none
has_one : (o : Option ℕ) → ((at : ℕ) × (o ≡ Some at)) ⊎ (o ≡ None)
has_one None = inr refl
has_one (Some at) = inl (at, refl)

same_number : (a b : ℕ) → Some a ≡ Some b → a ≡ b
same_number a b e = cc

none_is : (o : Option ℕ) → is_none o ≡ true → o ≡ None
none_is None e = refl
none_is (Some at) e = cc

some_is : (o : Option ℕ) → is_none o ≡ false → (at : ℕ) × (o ≡ Some at)
some_is None e = cc
some_is (Some at) e = (at, refl)

at_is : (o : Option ℕ) (n : ℕ) → is_at o n ≡ true → o ≡ Some n
at_is None n e = cc
at_is (Some at) n e = ap (λ k. Some k) (number_same at n e)

is_at_same : (n : ℕ) → is_at (Some n) n ≡ true
is_at_same n = same_test n n refl

abbrev no_distance : Option ℕ
no_distance = None

-- one more chip with a distance
fewer_none : (distances : List (Option ℕ)) (chip at : ℕ) → chip < length distances → found distances chip ≡ None
    → count_by is_none (set distances chip (Some at)) + 1 ≡ count_by is_none distances
fewer_none distances chip at below none =
    let e = sum_by-set (λ o. cond {A = ℕ} (is_none o) 1 0) distances chip (Some at) None below in
    let h = rw none at e in omega arith

-- a path over no wire leads to the root alone
at_start : (plan : BoardPlan) (root chip long : ℕ) → Path plan root chip long → long ≤ 0 → chip ≡ root
at_start plan root chip long here le = refl
at_start plan root chip long (further from to wires path j) le = absurd (omega arith)

-- the root alone has a distance before the first round
module _ (plan : BoardPlan) (root : ℕ) (below : root < length plan.rooms) (few : length plan.rooms ≤ 16) where
  abbrev first : List (Option ℕ)
  first = set (replicate (length plan.rooms) None) root (Some 0)

  count : length first ≡ length plan.rooms
  count = length-set (replicate (length plan.rooms) None) root (Some 0) ∙ length-replicate (length plan.rooms) None

  at_root : found first root ≡ Some 0
  at_root = get_or-set_same (replicate (length plan.rooms) None) root (Some 0) None (omega (arith, length-replicate {A = Option ℕ} (length plan.rooms) None))

  none_yet : (chip : ℕ) → get_or (replicate (length plan.rooms) None) chip None ≡ no_distance
  none_yet chip = go (cases_lt chip (length plan.rooms))
    where
      go : (chip < length plan.rooms) ⊎ (length plan.rooms ≤ chip) → get_or (replicate (length plan.rooms) None) chip None ≡ no_distance
      go (inl inside) = get_or-replicate (length plan.rooms) chip None None inside
      go (inr past) = get_or-eq_default (replicate (length plan.rooms) None) None (omega (arith, length-replicate {A = Option ℕ} (length plan.rooms) None))

  at_other : (chip : ℕ) → chip ≢ root → found first chip ≡ None
  at_other chip other = get_or-set_other (replicate (length plan.rooms) None) root chip (Some 0) None other ∙ none_yet chip

  only : (chip at : ℕ) → found first chip ≡ Some at → (chip ≡ root) × (at ≡ 0)
  only chip at is = go (cases_eq chip root)
    where
      go : (chip ≡ root) ⊎ (chip ≡ root → ⊥) → (chip ≡ root) × (at ≡ 0)
      go (inl same) = (same, let h : found first root ≡ Some at = subst (λ (k : ℕ). found first k ≡ Some at) same is in let e = at_root in same_number at 0 cc)
      go (inr other) = let none = at_other chip other in cc

  begun : IsReached plan root 0 first
  begun = record {
    count = count;
    paths = λ chip at is. let o = only chip at is in subst (λ (k : ℕ). Path plan root k at) (sym o.0) (subst (λ (k : ℕ). Path plan root root k) (sym o.1) here);
    few = λ chip at is. let o = (only chip at is).1 in omega arith;
    all = λ chip long path le. (0, (let same = at_start plan root chip long path le in subst (λ (k : ℕ). found first k ≡ Some 0) (sym same) at_root), omega arith);
    steps = let e = count in omega (arith, count_by-le-length is_none first);
  }

pub starts : (plan : BoardPlan) (root : ℕ) (distances base : List (Option ℕ)) (place count : ℕ) → root < length plan.rooms → length plan.rooms ≤ 16
    → distances ≡ set base place (Some 0) → place ≡ root → base ≡ replicate count None → count ≡ length plan.rooms → IsReached plan root 0 distances
starts plan root distances base place count below few is at filled rooms = rw (is, at, filled, rooms) (begun plan root below few)

module _ (plan : BoardPlan) (root wires : ℕ) (before after : List (Option ℕ)) (more : Bool)
    (r : IsReached plan root wires before) (d : IsRound plan (length plan.wires) wires before after more) where
  -- a chip that a wire joins to one at this distance has a distance after the round
  joined_found : (from chip : ℕ) → found before from ≡ Some wires → Joins plan from chip → (at : ℕ) × (found after chip ≡ Some at)
  joined_found from chip at j =
      let start : found before j.wire.from.place ≡ Some wires = subst (λ (k : ℕ). found before k ≡ Some wires) (sym j.starts) at in
      let h = d.reached j.number j.wire (slice_get_within plan.wires j.number j.wire j.here) j.here start in
      (h.0, subst (λ (k : ℕ). found after k ≡ Some h.0) j.ends h.1)

  -- no chip is further than one wire more
  one_more : (chip at : ℕ) → found after chip ≡ Some at → at ≤ wires + 1
  one_more chip at is = go (d.fresh chip at is)
    where
      go : (found before chip ≡ Some at) ⊎ ((at ≡ wires + 1) × ((from : ℕ) × (found before from ≡ Some wires) × Joins plan from chip)) → at ≤ wires + 1
      go (inl old) = let h = r.few chip at old in omega arith
      go (inr new) = let h = new.0 in omega arith

  path_to : (chip at : ℕ) → found after chip ≡ Some at → Path plan root chip at
  path_to chip at is = go (d.fresh chip at is)
    where
      go : (found before chip ≡ Some at) ⊎ ((at ≡ wires + 1) × ((from : ℕ) × (found before from ≡ Some wires) × Joins plan from chip)) → Path plan root chip at
      go (inl old) = r.paths chip at old
      go (inr (same, (from, start, joined))) = subst (λ (k : ℕ). Path plan root chip k) (sym same) (further from chip wires (r.paths from wires start) joined)

  kept_all : (chip long : ℕ) → Path plan root chip long → long ≤ wires → (at : ℕ) × (found after chip ≡ Some at) × (at ≤ long)
  kept_all chip long path le = let h = r.all chip long path le in (h.0, d.kept chip h.0 h.1, h.2)

  -- a path that goes one wire further than a chip with a distance
  one_further : (from to long at : ℕ) → found before from ≡ Some at → at ≤ long → long ≤ wires → Joins plan from to
      → (at : ℕ) × (found after to ≡ Some at) × (at ≤ long + 1)
  one_further from to long at is le small j = go (cases_lt at wires)
    where
      go : (at < wires) ⊎ (wires ≤ at) → (k : ℕ) × (found after to ≡ Some k) × (k ≤ long + 1)
      go (inl less) =
          let h = kept_all to (at + 1) (further from to at (r.paths from at is) j) (omega arith) in
          let low = h.2 in (h.0, h.1, omega arith)
      go (inr past) =
          let same : at ≡ wires = let bound = r.few from at is in omega arith in
          let h = joined_found from to (subst (λ (k : ℕ). found before from ≡ Some k) same is) j in
          let low = one_more to h.0 h.1 in (h.0, h.1, omega arith)

  all_next : (chip long : ℕ) → Path plan root chip long → long ≤ wires + 1 → (at : ℕ) × (found after chip ≡ Some at) × (at ≤ long)
  all_next chip long here le = kept_all root 0 here (omega arith)
  all_next chip long (further from to w path j) le =
      let h = r.all from w path (omega arith) in one_further from to w h.0 h.1 h.2 (omega arith) j

  pub next : more ≡ true → IsReached plan root (wires + 1) after
  next on = record {
    count = d.count ∙ r.count;
    paths = path_to;
    few = one_more;
    all = all_next;
    steps = let h = d.fewer on in let s = r.steps in omega arith;
  }

  -- where a round finds none, each path leads to a chip that has a distance
  all_found : more ≡ false → (chip long : ℕ) → Path plan root chip long → (at : ℕ) × (found before chip ≡ Some at) × (at ≤ long)
  all_found none chip long here = r.all root 0 here (omega arith)
  all_found none chip long (further from to w path j) =
      let h = all_found none from w path in go h.0 h.1 h.2 (cases_lt w wires)
    where
      go : (at : ℕ) → found before from ≡ Some at → at ≤ w → (w < wires) ⊎ (wires ≤ w) → (at : ℕ) × (found before to ≡ Some at) × (at ≤ w + 1)
      go at is le (inl less) = let h = one_further from to w at is le (omega arith) j in (h.0, subst (λ (k : List (Option ℕ)). found k to ≡ Some h.0) (d.same none) h.1, h.2)
      go at is le (inr past) =
          let h = one_further from to wires at is (r.few from at is) (omega arith) j in
          let back : found before to ≡ Some h.0 = subst (λ (k : List (Option ℕ)). found k to ≡ Some h.0) (d.same none) h.1 in
          let low = r.few to h.0 back in (h.0, back, omega arith)

  least_found : more ≡ false → (chip at : ℕ) → found before chip ≡ Some at → (long : ℕ) → Path plan root chip long → at ≤ long
  least_found none chip at is long path =
      let h = all_found none chip long path in
      let e = h.1 in let same = same_number at h.0 cc in let low = h.2 in omega arith

  pub last : more ≡ false → AreDistances plan root after
  last none = subst (λ (k : List (Option ℕ)). AreDistances plan root k) (sym (d.same none)) (record {
    count = r.count;
    each = λ chip at is. record { path = r.paths chip at is; least = least_found none chip at is };
    others = λ chip is long path. let h = all_found none chip long path in let e = h.1 in cc;
  })

-- one wire more of a round
module _ (plan : BoardPlan) (number distance : ℕ) (before now : List (Option ℕ)) (more : Bool)
    (r : IsRound plan number distance before now more) (wire : Wire) (at : slice_get plan.wires number ≡ Some wire) where
  this_wire : (k : ℕ) (other : Wire) → k ≡ number → slice_get plan.wires k ≡ Some other → other ≡ wire
  this_wire k other same is = let e : slice_get plan.wires number ≡ Some other = subst (λ (i : ℕ). slice_get plan.wires i ≡ Some other) same is in same_wire
    where
      same_wire : other ≡ wire
      same_wire = let e : slice_get plan.wires number ≡ Some other = subst (λ (i : ℕ). slice_get plan.wires i ≡ Some other) same is in let f = at in cc

  pub skipped : goes_on now wire.from.place wire.to.place distance ≡ false → IsRound plan (number + 1) distance before now more
  skipped off = record {
    count = r.count;
    kept = r.kept;
    fresh = r.fresh;
    reached = λ k other below is start. go k other below is start (cases_lt k number);
    same = r.same;
    fewer = r.fewer;
    no_more = r.no_more;
  }
    where
      there : (o : Bool) → is_none (found now wire.to.place) ≡ o → found before wire.from.place ≡ Some distance → (to : ℕ) × (found now wire.to.place ≡ Some to)
      there false none start = some_is (found now wire.to.place) none
      there true none start =
          let on : is_at (found now wire.from.place) distance ≡ true = rw (r.kept wire.from.place distance start) (is_at_same distance) in
          absurd (let h = off in cc)

      go : (k : ℕ) (other : Wire) → k < number + 1 → slice_get plan.wires k ≡ Some other → found before other.from.place ≡ Some distance
          → (k < number) ⊎ (number ≤ k) → (to : ℕ) × (found now other.to.place ≡ Some to)
      go k other below is start (inl old) = r.reached k other old is start
      go k other below is start (inr past) =
          let e = this_wire k other (omega arith) is in
          let h = there (is_none (found now wire.to.place)) refl (subst (λ (w : Wire). found before w.from.place ≡ Some distance) e start) in
          (h.0, subst (λ (w : Wire). found now w.to.place ≡ Some h.0) (sym e) h.1)

  pub taken : goes_on now wire.from.place wire.to.place distance ≡ true → wire.to.place < length now
      → IsRound plan (number + 1) distance before (set now wire.to.place (Some (distance + 1))) true
  taken on room = record {
    count = length-set now wire.to.place (Some (distance + 1)) ∙ r.count;
    kept = keeps;
    fresh = fresh_now;
    reached = λ k other below is start. go k other below is start (cases_lt k number);
    same = λ e. cc;
    fewer = λ e. let h = fewer_none now wire.to.place (distance + 1) room none in let n = r.no_more in omega arith;
    no_more = let h = fewer_none now wire.to.place (distance + 1) room none in let n = r.no_more in omega arith;
  }
    where
      none : found now wire.to.place ≡ None
      none = none_is (found now wire.to.place) (right (is_at (found now wire.from.place) distance) (is_none (found now wire.to.place)) on)

      start_now : found now wire.from.place ≡ Some distance
      start_now = at_is (found now wire.from.place) distance (left (is_at (found now wire.from.place) distance) (is_none (found now wire.to.place)) on)

      start_before : (found before wire.from.place ≡ Some distance) ⊎ ((distance ≡ distance + 1) × ((from : ℕ) × (found before from ≡ Some distance) × Joins plan from wire.from.place)) → found before wire.from.place ≡ Some distance
      start_before (inl old) = old
      start_before (inr new) = absurd (let e = new.0 in omega arith)

      here_now : found (set now wire.to.place (Some (distance + 1))) wire.to.place ≡ Some (distance + 1)
      here_now = get_or-set_same now wire.to.place (Some (distance + 1)) None room

      not_it : (chip k : ℕ) → found now chip ≡ Some k → chip ≡ wire.to.place → ⊥
      not_it chip k is same = let e : found now wire.to.place ≡ Some k = subst (λ (i : ℕ). found now i ≡ Some k) same is in let n = none in cc

      stays : (chip k : ℕ) → found now chip ≡ Some k → found (set now wire.to.place (Some (distance + 1))) chip ≡ Some k
      stays chip k is = get_or-set_other now wire.to.place chip (Some (distance + 1)) None (not_it chip k is) ∙ is

      keeps : (chip k : ℕ) → found before chip ≡ Some k → found (set now wire.to.place (Some (distance + 1))) chip ≡ Some k
      keeps chip k is = stays chip k (r.kept chip k is)

      fresh_now : (chip k : ℕ) → found (set now wire.to.place (Some (distance + 1))) chip ≡ Some k
          → (found before chip ≡ Some k) ⊎ ((k ≡ distance + 1) × ((from : ℕ) × (found before from ≡ Some distance) × Joins plan from chip))
      fresh_now chip k is = split (cases_eq chip wire.to.place)
        where
          split : (chip ≡ wire.to.place) ⊎ (chip ≡ wire.to.place → ⊥) → (found before chip ≡ Some k) ⊎ ((k ≡ distance + 1) × ((from : ℕ) × (found before from ≡ Some distance) × Joins plan from chip))
          split (inr other) = r.fresh chip k (sym (get_or-set_other now wire.to.place chip (Some (distance + 1)) None other) ∙ is)
          split (inl same) =
              let e : found (set now wire.to.place (Some (distance + 1))) wire.to.place ≡ Some k = subst (λ (i : ℕ). found (set now wire.to.place (Some (distance + 1))) i ≡ Some k) same is in
              let h = here_now in
              inr (same_number k (distance + 1) cc, (wire.from.place, start_before (r.fresh wire.from.place distance start_now), record { number = number; wire = wire; here = at; starts = refl; ends = sym same }))

      go : (k : ℕ) (other : Wire) → k < number + 1 → slice_get plan.wires k ≡ Some other → found before other.from.place ≡ Some distance
          → (k < number) ⊎ (number ≤ k) → (to : ℕ) × (found (set now wire.to.place (Some (distance + 1))) other.to.place ≡ Some to)
      go k other below is start (inl old) = let h = r.reached k other old is start in (h.0, stays other.to.place h.0 h.1)
      go k other below is start (inr past) =
          let e = this_wire k other (omega arith) is in
          (distance + 1, subst (λ (w : Wire). found (set now wire.to.place (Some (distance + 1))) w.to.place ≡ Some (distance + 1)) (sym e) here_now)

-- the same by what is known of the ends of the wire, and of what was written
pub skips : (plan : BoardPlan) (number distance : ℕ) (before now : List (Option ℕ)) (more : Bool) → IsRound plan number distance before now more
    → (from to : ChipId) → option_map {U = ChipId × ChipId} (λ (wire : Wire). (wire.from, wire.to)) (slice_get plan.wires number) ≡ Some (from, to)
    → goes_on now from.place to.place distance ≡ false
    → (after : List (Option ℕ)) → after ≡ now → (any : Bool) → any ≡ more → IsRound plan (number + 1) distance before after any
skips plan number distance before now more r from to ends off after is any same =
    let m = mapped {B = ChipId × ChipId} (λ (wire : Wire). (wire.from, wire.to)) (slice_get plan.wires number) (from, to) ends in
    let f : m.0.from ≡ from = ap (λ p. p.0) m.2 in
    let t : m.0.to ≡ to = ap (λ p. p.1) m.2 in
    rw (is, same) (skipped plan number distance before now more r m.0 m.1 (rw (f, t) off))

pub takes : (plan : BoardPlan) (number distance : ℕ) (before now : List (Option ℕ)) (more : Bool) → IsRound plan number distance before now more
    → (from to : ChipId) → option_map {U = ChipId × ChipId} (λ (wire : Wire). (wire.from, wire.to)) (slice_get plan.wires number) ≡ Some (from, to)
    → goes_on now from.place to.place distance ≡ true → to.place < length now
    → (new : List (Option ℕ)) (place : ℕ) → new ≡ set now place (Some (distance + 1)) → place ≡ to.place
    → (after : List (Option ℕ)) → after ≡ new → (any : Bool) → any ≡ true → IsRound plan (number + 1) distance before after any
takes plan number distance before now more r from to ends on room new place written at after is any same =
    let m = mapped {B = ChipId × ChipId} (λ (wire : Wire). (wire.from, wire.to)) (slice_get plan.wires number) (from, to) ends in
    let f : m.0.from ≡ from = ap (λ p. p.0) m.2 in
    let t : m.0.to ≡ to = ap (λ p. p.1) m.2 in
    rw (is, same, written, at, sym t) (taken plan number distance before now more r m.0 m.1 (rw (f, t) on) (rw t room))
