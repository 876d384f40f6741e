-- A delivery has one slot and one wire, where two plans agree on all that was taken before it.
use Rattle.std.proofs.Common.{◌≡◌, ◌≢◌, ◌⊎◌, inl, inr, ◌<◌, ◌≤◌, ◌+◌, ℕ, zero, suc, Some, List, ◌∷◌, ◌++◌, refl, sym, ◌∙◌, ap, subst, arith}
use Rattle.std.specs.Prelude.{slice_get, Contains}
use Rattle.std.proofs.lemmas.List.Elements.{Contains-append_cases, Contains-append_right}
use Rattle.id_arena.specs.declared.keys.NetId.{NetId}
use Rattle.id_arena.specs.declared.wire.Wire.{Wire}
use Rattle.id_arena.specs.BoardPlan.{BoardPlan}
use Rattle.board_model.specs.Trees.{HasDistance, IsNearer, IsParent}
use Rattle.slot_schedule.specs.Settings.{Setting}
use Rattle.slot_schedule.specs.Deliveries.{IsToReach, IsRoute}
use Rattle.slot_schedule.specs.Deliveries.IsToReach.{on_the_way}
use Rattle.slot_schedule.specs.ListPlan.{Plan, Task, IsFree, IsOffer, IsDelivered}
use Rattle.slot_schedule.specs.ListPlan.Task.{Deliver}

-- a chip has one distance, and so one parent
pub distance_is : (b : BoardPlan) (root chip j k : ℕ) → HasDistance b root chip j → HasDistance b root chip k → j ≡ k
distance_is b root chip j k x y = let low = x.least k y.path in let high = y.least j x.path in omega arith

pub parent_is : (b : BoardPlan) (root chip p q j k : ℕ) → IsParent b root chip p j → IsParent b root chip q k → p ≡ q
parent_is b root chip p q j k x y =
    let same : j ≡ k = distance_is b root chip j k x.reached y.reached in
    let low = x.lowest q (subst (λ (d : ℕ). IsNearer b root chip d q) (sym same) y.nearer) in
    let high = y.lowest p (subst (λ (d : ℕ). IsNearer b root chip d p) same x.nearer) in
    omega arith

-- the parent of a chip on a route stands before it there, or is the home
first_of_rest : {X : Type 0} (x y : X) (ys : List X) → Contains (y ∷ ys) x → (y ≡ x) ⊎ Contains ys x
first_of_rest x y ys (zero, below, is) = inl is
first_of_rest x y ys (suc k, below, is) = inr (k, omega (arith, below), is)

pub parent_before : (s : Setting) (n : NetId) (start : ℕ) (front back : List ℕ) (chip parent distance : ℕ)
    → IsRoute s n start (front ++ chip ∷ back) → IsParent s.board start chip parent distance → parent ≢ start → Contains front parent
parent_before s n start front back chip parent distance route near other =
    go (Contains-append_cases front (chip ∷ back) parent ((route.chips parent).1 wanted))
  where
    here : Contains (front ++ chip ∷ back) chip
    here = Contains-append_right front (chip ∷ back) chip (0, omega arith, refl)

    wanted : IsToReach s n start parent
    wanted = on_the_way parent chip distance ((route.chips chip).0 here) near other

    after : (chip ≡ parent) ⊎ Contains back parent → Contains front parent
    after (inl same) =
        let own : HasDistance s.board start chip near.nearer.before = subst (λ (c : ℕ). HasDistance s.board start c near.nearer.before) (sym same) near.nearer.reached in
        let e = distance_is s.board start chip distance near.nearer.before near.reached own in
        let f = near.nearer.step in absurd (omega arith)
    after (inr behind) = late (route.rises front back chip parent refl behind distance near.nearer.before near.reached near.nearer.reached)
      where
        late : (distance < near.nearer.before) ⊎ ((distance ≡ near.nearer.before) × (chip < parent)) → Contains front parent
        late (inl less) = let f = near.nearer.step in absurd (omega arith)
        late (inr same) = let f = near.nearer.step in let e = same.0 in absurd (omega arith)

    go : Contains front parent ⊎ Contains (chip ∷ back) parent → Contains front parent
    go (inl before) = before
    go (inr rest) = after (first_of_rest parent chip back rest)

-- what one plan may do, the other may
module _ (s : Setting) (p q : Plan) (past : List Task) (same : (n : NetId) (chip : ℕ) → Contains past (Deliver n chip) → (p.sent n chip ≡ q.sent n chip) × (p.wire n chip ≡ q.wire n chip)) where
  free_too : (start first wire latency t : ℕ) → start ≡ first → IsFree p past start wire latency t → IsFree q past first wire latency t
  free_too start first wire latency t at f = record {
    ready = let r = f.ready in omega arith;
    apart = λ n chip taken over.
        let k = same n chip taken in
        subst (λ (x : ℕ). (x + latency ≤ t) ⊎ (t + latency ≤ x)) k.0 (f.apart n chip taken (k.1 ∙ over));
  }

module _ (s : Setting) (p q : Plan) (past : List Task)
    (same : (n : NetId) (chip : ℕ) → Contains past (Deliver n chip) → (p.sent n chip ≡ q.sent n chip) × (p.wire n chip ≡ q.wire n chip)) where
  back_same : (n : NetId) (chip : ℕ) → Contains past (Deliver n chip) → (q.sent n chip ≡ p.sent n chip) × (q.wire n chip ≡ p.wire n chip)
  back_same n chip taken = let k = same n chip taken in (sym k.0, sym k.1)

  offer_too : (start first from to wire slot arrival : ℕ) → start ≡ first → IsOffer s p past start from to wire slot arrival → IsOffer s q past first from to wire slot arrival
  offer_too start first from to wire slot arrival at o = record {
    is = o.is;
    here = o.here;
    starts = o.starts;
    ends = o.ends;
    first = record {
      holds = free_too s p q past same start first wire o.is.latency slot at o.first.holds;
      least = λ u held. o.first.least u (free_too s q p past back_same first start wire o.is.latency u (sym at) held);
    };
    arrives = o.arrives;
  }

-- two offers over one wire are one
offer_is : (s : Setting) (p : Plan) (past : List Task) (start from to wire other slot late arrival last : ℕ) → wire ≡ other → arrival ≡ last
    → IsOffer s p past start from to wire slot arrival → IsOffer s p past start from to other late last → slot ≡ late
offer_is s p past start from to wire other slot late arrival last same arrived a b =
    let there : slice_get s.board.wires wire ≡ Some b.is = subst (λ (w : ℕ). slice_get s.board.wires w ≡ Some b.is) (sym same) b.here in
    let one : a.is ≡ b.is = let h = a.here in cc in
    let long : a.is.latency ≡ b.is.latency = ap (λ (w : Wire). w.latency) one in
    let x = a.arrives in let y = b.arrives in omega arith

-- both deliver to a chip in one slot, over one wire
module _ (s : Setting) (p q : Plan) (past : List Task) (n : NetId) (chip : ℕ)
    (same : (n : NetId) (chip : ℕ) → Contains past (Deliver n chip) → (p.sent n chip ≡ q.sent n chip) × (p.wire n chip ≡ q.wire n chip))
    (a : IsDelivered s p past n chip) (b : IsDelivered s q past n chip) (ready : p.ready n a.parent ≡ q.ready n a.parent) where
  start_same : a.start ≡ b.start
  start_same = let e = a.at_home in let f = b.at_home in cc

  parent_same : b.parent ≡ a.parent
  parent_same = parent_is s.board a.start chip b.parent a.parent b.distance a.distance (subst (λ (r : ℕ). IsParent s.board r chip b.parent b.distance) (sym start_same) b.near) a.near

  -- what the second does, as the first would
  theirs : IsOffer s p past (p.ready n a.parent) a.parent chip (q.wire n chip) (q.sent n chip) (q.ready n chip)
  theirs = offer_too s q p past (back_same s p q past same) (q.ready n a.parent) (p.ready n a.parent) a.parent chip (q.wire n chip) (q.sent n chip) (q.ready n chip) (sym ready)
      (subst (λ (r : ℕ). IsOffer s q past (q.ready n r) r chip (q.wire n chip) (q.sent n chip) (q.ready n chip)) parent_same b.offer)

  ours : IsOffer s q past (q.ready n b.parent) b.parent chip (p.wire n chip) (p.sent n chip) (p.ready n chip)
  ours = subst (λ (r : ℕ). IsOffer s q past (q.ready n r) r chip (p.wire n chip) (p.sent n chip) (p.ready n chip)) (sym parent_same)
      (offer_too s p q past same (p.ready n a.parent) (q.ready n a.parent) a.parent chip (p.wire n chip) (p.sent n chip) (p.ready n chip) ready a.offer)

  arrival_same : p.ready n chip ≡ q.ready n chip
  arrival_same = go (a.best (q.wire n chip) (q.sent n chip) (q.ready n chip) theirs) (b.best (p.wire n chip) (p.sent n chip) (p.ready n chip) ours)
    where
      go : (p.ready n chip < q.ready n chip) ⊎ ((p.ready n chip ≡ q.ready n chip) × (p.wire n chip ≤ q.wire n chip))
          → (q.ready n chip < p.ready n chip) ⊎ ((q.ready n chip ≡ p.ready n chip) × (q.wire n chip ≤ p.wire n chip))
          → p.ready n chip ≡ q.ready n chip
      go (inl x) (inl y) = absurd (omega arith)
      go (inl x) (inr y) = sym y.0
      go (inr x) y = x.0

  wire_same : p.wire n chip ≡ q.wire n chip
  wire_same = go (a.best (q.wire n chip) (q.sent n chip) (q.ready n chip) theirs) (b.best (p.wire n chip) (p.sent n chip) (p.ready n chip) ours)
    where
      go : (p.ready n chip < q.ready n chip) ⊎ ((p.ready n chip ≡ q.ready n chip) × (p.wire n chip ≤ q.wire n chip))
          → (q.ready n chip < p.ready n chip) ⊎ ((q.ready n chip ≡ p.ready n chip) × (q.wire n chip ≤ p.wire n chip))
          → p.wire n chip ≡ q.wire n chip
      go (inl x) y = let e = arrival_same in absurd (omega arith)
      go (inr x) (inl y) = let e = arrival_same in absurd (omega arith)
      go (inr x) (inr y) = let low = x.1 in let high = y.1 in omega arith

  sent_same : p.sent n chip ≡ q.sent n chip
  sent_same = offer_is s p past (p.ready n a.parent) a.parent chip (p.wire n chip) (q.wire n chip) (p.sent n chip) (q.sent n chip) (p.ready n chip) (q.ready n chip) wire_same arrival_same a.offer theirs

  pub delivered_same : (p.sent n chip ≡ q.sent n chip) × (p.wire n chip ≡ q.wire n chip) × (p.ready n chip ≡ q.ready n chip)
  delivered_same = (sent_same, wire_same, arrival_same)
