-- Two list plans agree on every task: a walk over the tasks in planning order, node by node.
use Rattle.std.proofs.Common.{◌≡◌, ◌⊎◌, inl, inr, ◌<◌, ◌+◌, ◌==◌, ℕ, zero, suc, Bool, true, false, cond, Option, Some, None, List, [], ◌∷◌, ◌++◌, length, map, refl, sym, ◌∙◌, ap, subst, arith}
use Rattle.std.specs.Prelude.{slice_get, Contains}
use Rattle.std.specs.List.{list_any, enumerate_from}
use Rattle.std.proofs.lemmas.Bool.{cases_eq}
use Rattle.std.proofs.lemmas.List.{append_assoc, append-nil}
use Rattle.std.proofs.lemmas.List.Elements.{Contains-append_cases, Contains-append_left, Contains-append_right}
use Rattle.std.proofs.lemmas.Option.{same_Some}
use Rattle.facts.proofs.Places.{any_found, at_contains, contains_at}
use Rattle.facts.proofs.Tests.{left, right, number_same}
use Rattle.id_arena.specs.declared.keys.MemId.{MemId}
use Rattle.id_arena.specs.declared.keys.NetId.{NetId}
use Rattle.design_core.specs.declared.element.Driver.{Driver}
use Rattle.design_core.specs.declared.element.Driver.TheVariants.{Constant, Input, Elem, Read}
use Rattle.design_core.specs.declared.element.Edge.{Edge}
use Rattle.design_core.specs.declared.element.Element.{Element}
use Rattle.design_core.specs.declared.element.Memory.{Memory}
use Rattle.design_core.specs.declared.element.ReadPort.{ReadPort}
use Rattle.design_core.specs.declared.element.WritePort.{WritePort}
use Rattle.design_core.specs.declared.node.NodeId.{NodeId}
use Rattle.design_core.specs.declared.node.NodeId.TheVariants.{Net, Write}
use Rattle.design_core.specs.Design.{driver}
use Rattle.design_core.specs.Dependency.{needs, needs_at, driver_needs, dependencies, port_needs, write_nodes, write_before}
use Rattle.clock_rank.specs.Orders.{IsSorted}
use Rattle.board_model.specs.Trees.{IsParent}
use Rattle.slot_schedule.specs.Settings.{Setting, home, driver_home}
use Rattle.slot_schedule.specs.Deliveries.{IsRoute, IsSetting}
use Rattle.slot_schedule.specs.ListPlan.{Plan, Task, IsListPlan, IsSettledBy, IsSettledBit, IsStored, IsDelivered, ElementSlots, shown, is_bit, is_bit_inside, fetches, node_tasks, tasks_after, tasks}
use Rattle.slot_schedule.specs.ListPlan.Task.{Fetch, Settle, Store, Deliver}
use Rattle.slot_schedule.specs.Frames.{read_clock, driver_steps, element_steps}
use Rattle.slot_schedule.proofs.Agreement.{SamePort, SameReady, SameNet, SameNode, SameTask, element_same}
use Rattle.slot_schedule.proofs.Offers.{parent_before, delivered_same}
use Rattle.slot_schedule.proofs.Ports.{fetched_same, stored_same}

-- lists
at_middle : {X : Type 0} (xs : List X) (x : X) (ys : List X) → slice_get (xs ++ x ∷ ys) (length xs) ≡ Some x
at_middle [] x ys = refl
at_middle (y ∷ xs) x ys = at_middle xs x ys

in_front : {X : Type 0} (xs ys : List X) (k : ℕ) (x : X) → slice_get (xs ++ ys) k ≡ Some x → k < length xs → Contains xs x
in_front [] ys k x at below = absurd (omega arith)
in_front (z ∷ xs) ys zero x at below = (0, omega arith, same_Some z x at)
in_front (z ∷ xs) ys (suc k) x at below = let h = in_front xs ys k x at (omega arith) in (suc h.0, omega (arith, h.1), h.2)

pub of_one : {X : Type 0} (x y : X) → Contains (x ∷ []) y → x ≡ y
of_one x y (zero, below, is) = is
of_one x y (suc k, below, is) = absurd (omega (arith, below))

mapped_net : (xs : List NetId) (i : NetId) → Contains xs i → Contains (map Net xs) (Net i)
mapped_net [] i h = absurd (omega (arith, h.1))
mapped_net (x ∷ xs) i (zero, below, is) = (0, omega arith, ap Net is)
mapped_net (x ∷ xs) i (suc k, below, is) = let h = mapped_net xs i (k, omega (arith, below), is) in (suc h.0, omega (arith, h.1), h.2)

abbrev writes_from : MemId → ℕ → List WritePort → List NodeId
writes_from m base ports = map (λ (k, port). Write m k) (enumerate_from base ports)

has_write : (m : MemId) (ports : List WritePort) (base k j : ℕ) → k < length ports → j ≡ base + k → Contains (writes_from m base ports) (Write m j)
has_write m [] base k j below is = absurd (omega arith)
has_write m (port ∷ ports) base zero j below is = (0, omega arith, ap (Write m) (let e : base ≡ j = omega arith in e))
has_write m (port ∷ ports) base (suc k) j below is =
    let h = has_write m ports (base + 1) k j (omega arith) (omega arith) in (suc h.0, omega (arith, h.1), h.2)

-- all tasks, those that the walk has passed before those to come, where the plans agree on the former
pub record Walk (s : Setting) (p q : Plan) (past later : List Task) : Type 0 where
  pub all : tasks s ≡ past ++ later
  pub same : (t : Task) → Contains past t → SameTask s p q t

walk_on : (s : Setting) (p q : Plan) (past later : List Task) (t : Task) → Walk s p q past (t ∷ later) → SameTask s p q t → Walk s p q (past ++ t ∷ []) later
walk_on s p q past later t w same = record {
  all = w.all ∙ sym (append_assoc past (t ∷ []) later);
  same = λ u h. go u (Contains-append_cases past (t ∷ []) u h);
}
  where
    go : (u : Task) → Contains past u ⊎ Contains (t ∷ []) u → SameTask s p q u
    go u (inl old) = w.same u old
    go u (inr new) = subst (λ (x : Task). SameTask s p q x) (of_one t u new) same

-- what is known of a net once it is settled, before it is delivered
pub record SettledSame (s : Setting) (p q : Plan) (n : NetId) : Type 0 where
  pub chip : ℕ
  pub at : home s n ≡ Some chip
  pub ready : p.ready n chip ≡ q.ready n chip

abbrev Settled : Setting → Plan → Plan → NetId → Driver → Type 0
Settled s p q n (Constant b) = home s n ≡ None
Settled s p q n Input = home s n ≡ None
Settled s p q n (Elem e) = SettledSame s p q n
Settled s p q n (Read m r b) = SettledSame s p q n

abbrev PortOf : Setting → Plan → Plan → Driver → Type 0
PortOf s p q (Read m r b) = SamePort s p q m r
PortOf s p q other = Unit {0}

shown_same : (s : Setting) (p q : Plan) (m : MemId) (r : ℕ) → SamePort s p q m r → (o : Option Edge) → read_clock s m r ≡ o → shown p m r o ≡ shown q m r o
shown_same s p q m r same None is = ap (λ t. t + 1) same.read
shown_same s p q m r same (Some edge) is = ap (λ t. t + 1) (same.bits edge is)

module _ (s : Setting) (ok : IsSetting s) (sorted : IsSorted s.design s.order) (p q : Plan) (P : IsListPlan s p) (Q : IsListPlan s q) where
  -- a node of the influence on which another depends was taken before
  module _ (before rest : List NodeId) (a : NodeId) (order : s.order ≡ before ++ a ∷ rest)
      (known : (b : NodeId) → Contains before b → s.inside b ≡ true → SameNode s p q b) where
    taken : (b : NodeId) → Contains (dependencies s.design a) b → s.inside b ≡ true → SameNode s p q b
    taken b needed on =
        let at = at_contains s.order b (ok.order.all b (ok.nodes b on)) in
        let here : slice_get s.order (length before) ≡ Some a = subst (λ (xs : List NodeId). slice_get xs (length before) ≡ Some a) (sym order) (at_middle before a rest) in
        let less = sorted (length before) at.0 a b here at.1 needed in
        let there : slice_get (before ++ a ∷ rest) at.0 ≡ Some b = subst (λ (xs : List NodeId). slice_get xs at.0 ≡ Some b) order at.1 in
        known b (in_front before (a ∷ rest) at.0 b there less) on

  module _ (before rest : List NodeId) (n : NetId) (order : s.order ≡ before ++ Net n ∷ rest) (on : s.inside (Net n) ≡ true)
      (known : (b : NodeId) → Contains before b → s.inside b ≡ true → SameNode s p q b) where
    taken_net : (d : Driver) → driver s.design n.place ≡ d → (b : NodeId) → Contains (driver_needs s.design d) b → s.inside b ≡ true → SameNode s p q b
    taken_net d is b needed inside =
        taken before rest (Net n) order known b (subst (λ (x : Driver). Contains (driver_needs s.design x) b) (sym is) needed) inside

    -- its port, which is read with it or was read before
    bit_same : (m : MemId) (r : ℕ) (x : NetId) (d : Driver) → is_bit m r d ≡ true → SameNet s p q x d → SamePort s p q m r
    bit_same m r x (Constant b) e k = cc
    bit_same m r x Input e k = cc
    bit_same m r x (Elem y) e k = cc
    bit_same m r x (Read mem port bit) e k =
        let f : mem ≡ m = ap (λ (i : ℕ). record { place = i }) (number_same mem.place m.place (left (mem.place == m.place) (port == r) e)) in
        let g : port ≡ r = number_same port r (right (mem.place == m.place) (port == r) e) in
        subst (λ (y : MemId). SamePort s p q y r) f (subst (λ (y : ℕ). SamePort s p q mem y) g k.1)

    node_same : (m : MemId) (r : ℕ) (b : NodeId) → is_bit_inside s m r b ≡ true → Contains before b → SamePort s p q m r
    node_same m r (Net x) e h =
        let inside = left (s.inside (Net x)) (is_bit m r (driver s.design x.place)) e in
        bit_same m r x (driver s.design x.place) (right (s.inside (Net x)) (is_bit m r (driver s.design x.place)) e) (known (Net x) h inside)
    node_same m r (Write mem k) e h = cc

    past_fetch : (past later : List Task) (m : MemId) (r b : ℕ) → driver s.design n.place ≡ Read m r b → Walk s p q past (Fetch m r ∷ later) → SamePort s p q m r
    past_fetch past later m r b is w =
        fetched_same s ok p q m r past (λ j h. (w.same (Fetch m j) h).read) writes address clock (P past later (Fetch m r) w.all) (Q past later (Fetch m r) w.all)
      where
        needs_of : (memory : Memory) (port : ReadPort) (o : Option Edge) → slice_get s.design.memories m.place ≡ Some memory → slice_get memory.reads r ≡ Some port → port.clock ≡ o
            → driver_needs s.design (Read m r b) ≡ port_needs m memory port.address o
        needs_of memory port o here through clocked = rw (here, through, clocked) refl

        writes : (memory : Memory) (port : ReadPort) → slice_get s.design.memories m.place ≡ Some memory → slice_get memory.reads r ≡ Some port
            → port.clock ≡ None → (k : ℕ) → s.inside (Write m k) ≡ true → p.write m k ≡ q.write m k
        writes memory port here through none k inside =
            let node = ok.nodes (Write m k) inside in
            let one : node.0 ≡ memory = let e = node.1 in let f = here in cc in
            let below : k < length memory.writes = subst (λ (x : Memory). k < length x.writes) one node.2 in
            let deep : Contains (port_needs m memory port.address None) (Write m k) =
            Contains-append_right (map Net port.address) (write_nodes m memory) (Write m k) (has_write m memory.writes 0 k k below (omega arith)) in
            taken_net (Read m r b) is (Write m k) (subst (λ (xs : List NodeId). Contains xs (Write m k)) (sym (needs_of memory port None here through none)) deep) inside

        address : (memory : Memory) (port : ReadPort) → slice_get s.design.memories m.place ≡ Some memory → slice_get memory.reads r ≡ Some port
            → port.clock ≡ None → (i : NetId) → Contains port.address i → s.inside (Net i) ≡ true → SameNode s p q (Net i)
        address memory port here through none i h inside =
            let deep : Contains (port_needs m memory port.address None) (Net i) =
            Contains-append_left (map Net port.address) (write_nodes m memory) (Net i) (mapped_net port.address i h) in
            taken_net (Read m r b) is (Net i) (subst (λ (xs : List NodeId). Contains xs (Net i)) (sym (needs_of memory port None here through none)) deep) inside

        clock : (memory : Memory) (port : ReadPort) → slice_get s.design.memories m.place ≡ Some memory → slice_get memory.reads r ≡ Some port
            → (edge : Edge) → port.clock ≡ Some edge → s.inside (Net edge.net) ≡ true → SameNode s p q (Net edge.net)
        clock memory port here through edge some inside =
            taken_net (Read m r b) is (Net edge.net) (subst (λ (xs : List NodeId). Contains xs (Net edge.net)) (sym (needs_of memory port (Some edge) here through some)) (0, omega arith, refl)) inside

    -- the walk past the access of its port
    pub record Fetched (d : Driver) (later : List Task) : Type 0 where
      pub past : List Task
      pub walk : Walk s p q past later
      pub port : PortOf s p q d

    fetch : (d : Driver) → driver s.design n.place ≡ d → (past later : List Task) → Walk s p q past (fetches s before d ++ later) → Fetched d later
    fetch (Constant b) is past later w = record { past = past; walk = w; port = tt }
    fetch Input is past later w = record { past = past; walk = w; port = tt }
    fetch (Elem e) is past later w = record { past = past; walk = w; port = tt }
    fetch (Read m r b) is past later w = go (list_any (is_bit_inside s m r) before) refl w
      where
        go : (o : Bool) → list_any (is_bit_inside s m r) before ≡ o → Walk s p q past ((cond o [] (Fetch m r ∷ [])) ++ later) → Fetched (Read m r b) later
        go true any v =
            let f = any_found (is_bit_inside s m r) before any in
            record { past = past; walk = v; port = node_same m r f.1 f.3 (contains_at before f.0 f.1 f.2) }
        go false none v =
            let port = past_fetch past later m r b is v in
            record { past = past ++ Fetch m r ∷ []; walk = walk_on s p q past later (Fetch m r) v port; port = port }

    settle_by : (d : Driver) → driver s.design n.place ≡ d → PortOf s p q d → IsSettledBy s p n d → IsSettledBy s q n d
        → Settled s p q n d × (driver_steps s p d ≡ driver_steps s q d)
    settle_by (Constant b) is port x y = (ap (driver_home s) is, refl)
    settle_by Input is port x y = (ap (driver_home s) is, refl)
    settle_by (Elem e) is port x y =
        let one : y.is ≡ x.is = let e = x.here in let f = y.here in cc in
        let chip : y.chip ≡ x.chip = let e = x.placed in let f = y.placed in cc in
        let slots : ElementSlots s q n e x.chip x.is =
        subst (λ (k : Element). ElementSlots s q n e x.chip k) one (subst (λ (k : ℕ). ElementSlots s q n e k y.is) chip y.slots) in
        let deps : (i : NetId) → Contains (needs x.is) i → s.inside (Net i) ≡ true → SameNode s p q (Net i) =
        λ i h inside. taken_net (Elem e) is (Net i) (subst (λ (o : Option Element). Contains (map Net (needs_at o)) (Net i)) (sym x.here) (mapped_net (needs x.is) i h)) inside in
        let same = element_same s ok p q n e x.chip x.is x.here x.placed deps x.slots slots in (
          record { chip = x.chip; at = ap (driver_home s) is ∙ x.placed; ready = same.0 },
          subst (λ (o : Option Element). element_steps p e o ≡ element_steps q e o) (sym x.here) same.1,
        )
    settle_by (Read m r b) is port x y =
        let chip : y.chip ≡ x.chip = let e = x.placed in let f = y.placed in cc in
        let clock : (z : IsSettledBit s p n m r) → read_clock s m r ≡ z.port.clock = λ z. rw (z.here, z.through) refl in
        let memory : y.memory ≡ x.memory = let e = x.here in let f = y.here in cc in
        let one : y.port ≡ x.port = let f : slice_get x.memory.reads r ≡ Some y.port = subst (λ (k : Memory). slice_get k.reads r ≡ Some y.port) memory y.through in let e = x.through in cc in
        let theirs : q.ready n x.chip ≡ shown q m r x.port.clock =
        subst (λ (k : ReadPort). q.ready n x.chip ≡ shown q m r k.clock) one (subst (λ (k : ℕ). q.ready n k ≡ shown q m r y.port.clock) chip y.slot) in
        (record { chip = x.chip; at = ap (driver_home s) is ∙ x.placed; ready = x.slot ∙ shown_same s p q m r port x.port.clock (clock x) ∙ sym theirs }, refl)

    -- the walk past the net itself
    pub record SettledWalk (d : Driver) (later : List Task) : Type 0 where
      pub past : List Task
      pub walk : Walk s p q past later
      pub settled : Settled s p q n d
      pub port : PortOf s p q d

    settle : (d : Driver) → driver s.design n.place ≡ d → (later : List Task) → Fetched d (Settle n ∷ later) → SettledWalk d later
    settle d is later f =
        let planned = subst (λ (x : Driver). IsSettledBy s p n x) is (P f.past later (Settle n) f.walk.all) in
        let theirs = subst (λ (x : Driver). IsSettledBy s q n x) is (Q f.past later (Settle n) f.walk.all) in
        let same = settle_by d is f.port planned theirs in
        let steps : SameTask s p q (Settle n) = subst (λ (x : Driver). driver_steps s p x ≡ driver_steps s q x) (sym is) same.1 in
        record { past = f.past ++ Settle n ∷ []; walk = walk_on s p q f.past later (Settle n) f.walk steps; settled = same.0; port = f.port }

    -- the walk past its deliveries
    pub record Delivered (later : List Task) : Type 0 where
      pub past : List Task
      pub walk : Walk s p q past later
      pub ready : (c : ℕ) → Contains (s.routes n) c → p.ready n c ≡ q.ready n c

    module _ (start : ℕ) (at : home s n ≡ Some start) (settled : p.ready n start ≡ q.ready n start) where
      at_parent : (front back : List ℕ) (c parent distance : ℕ) → s.routes n ≡ front ++ c ∷ back
          → ((x : ℕ) → Contains front x → p.ready n x ≡ q.ready n x) → IsParent s.board start c parent distance → p.ready n parent ≡ q.ready n parent
      at_parent front back c parent distance route ready near = go (cases_eq parent start)
        where
          go : (parent ≡ start) ⊎ (parent ≡ start → ⊥) → p.ready n parent ≡ q.ready n parent
          go (inl same) = subst (λ (x : ℕ). p.ready n x ≡ q.ready n x) (sym same) settled
          go (inr other) =
              ready parent (parent_before s n start front back c parent distance
              (subst (λ (xs : List ℕ). IsRoute s n start xs) route (ok.routes n start on at)) near other)

      deliver : (front back : List ℕ) → s.routes n ≡ front ++ back → ((x : ℕ) → Contains front x → p.ready n x ≡ q.ready n x)
          → (past later : List Task) → Walk s p q past (map (Deliver n) back ++ later) → Delivered later
      deliver front [] route ready past later w = record {
        past = past;
        walk = w;
        ready = λ c h. ready c (subst (λ (xs : List ℕ). Contains xs c) (route ∙ append-nil front) h);
      }
      deliver front (c ∷ back) route ready past later w =
          deliver (front ++ c ∷ []) back (route ∙ sym (append_assoc front (c ∷ []) back)) more (past ++ Deliver n c ∷ []) later
          (walk_on s p q past (map (Deliver n) back ++ later) (Deliver n c) w (same.0, same.1))
        where
          a : IsDelivered s p past n c
          a = P past (map (Deliver n) back ++ later) (Deliver n c) w.all

          b : IsDelivered s q past n c
          b = Q past (map (Deliver n) back ++ later) (Deliver n c) w.all

          start_is : a.start ≡ start
          start_is = let e = a.at_home in let f = at in cc

          same : (p.sent n c ≡ q.sent n c) × (p.wire n c ≡ q.wire n c) × (p.ready n c ≡ q.ready n c)
          same = delivered_same s p q past n c (λ m x h. w.same (Deliver m x) h) a b
              (at_parent front back c a.parent a.distance route ready (subst (λ (x : ℕ). IsParent s.board x c a.parent a.distance) start_is a.near))

          more : (x : ℕ) → Contains (front ++ c ∷ []) x → p.ready n x ≡ q.ready n x
          more x h = go (Contains-append_cases front (c ∷ []) x h)
            where
              go : Contains front x ⊎ Contains (c ∷ []) x → p.ready n x ≡ q.ready n x
              go (inl old) = ready x old
              go (inr new) = subst (λ (y : ℕ). p.ready n y ≡ q.ready n y) (of_one c x new) same.2

    -- the walk past a node
    pub record NetWalk (d : Driver) (later : List Task) : Type 0 where
      pub past : List Task
      pub walk : Walk s p q past later
      pub same : SameNet s p q n d

    none_there : (x : ℕ) → Contains [] x → p.ready n x ≡ q.ready n x
    none_there x h = absurd (omega (arith, h.1))

    without_home : (past later : List Task) → home s n ≡ None → Walk s p q past (map (Deliver n) (s.routes n) ++ later) → Walk s p q past later
    without_home past later none w = subst (λ (xs : List ℕ). Walk s p q past (map (Deliver n) xs ++ later)) (ok.no_routes n none) w

    with_home : (later : List Task) (c : SettledSame s p q n) (past : List Task) → Walk s p q past (map (Deliver n) (s.routes n) ++ later) → Delivered later
    with_home later c past w = deliver c.chip c.at c.ready [] (s.routes n) refl none_there past later w

    ready_of : (later : List Task) → SettledSame s p q n → Delivered later → SameReady s p q n
    ready_of later c d = record { chip = c.chip; at = c.at; settled = c.ready; delivered = d.ready }

    all_of : (d : Driver) (later : List Task) → SettledWalk d (map (Deliver n) (s.routes n) ++ later) → NetWalk d later
    all_of (Constant b) later w = record { past = w.past; walk = without_home w.past later w.settled w.walk; same = tt }
    all_of Input later w = record { past = w.past; walk = without_home w.past later w.settled w.walk; same = tt }
    all_of (Elem e) later w =
        let d = with_home later w.settled w.past w.walk in
        record { past = d.past; walk = d.walk; same = ready_of later w.settled d }
    all_of (Read m r b) later w =
        let d = with_home later w.settled w.past w.walk in
        record { past = d.past; walk = d.walk; same = (ready_of later w.settled d, w.port) }

    net_walk : (past later : List Task) → Walk s p q past (node_tasks s before (Net n) ++ later) → NetWalk (driver s.design n.place) later
    net_walk past later w =
        let d = driver s.design n.place in
        let own = Settle n ∷ map (Deliver n) (s.routes n) in
        let apart : Walk s p q past (fetches s before d ++ (own ++ later)) =
        subst (λ (xs : List Task). Walk s p q past xs) (append_assoc (fetches s before d) own later) w in
        all_of d later (settle d refl (map (Deliver n) (s.routes n) ++ later) (fetch d refl past (own ++ later) apart))

  -- the walk past a write port
  module _ (before rest : List NodeId) (m : MemId) (k : ℕ) (order : s.order ≡ before ++ Write m k ∷ rest)
      (known : (b : NodeId) → Contains before b → s.inside b ≡ true → SameNode s p q b) where
    needs_of : (memory : Memory) (port : WritePort) → slice_get s.design.memories m.place ≡ Some memory → slice_get memory.writes k ≡ Some port
        → dependencies s.design (Write m k) ≡ Net port.clock ∷ write_before m k
    needs_of memory port here through = rw (here, through) refl

    stored : (past later : List Task) → Walk s p q past (Store m k ∷ later) → p.write m k ≡ q.write m k
    stored past later w = stored_same s ok p q m k clock earlier a b
      where
        a : IsStored s p m k
        a = P past later (Store m k) w.all

        b : IsStored s q m k
        b = Q past later (Store m k) w.all

        clock : (memory : Memory) (port : WritePort) → slice_get s.design.memories m.place ≡ Some memory → slice_get memory.writes k ≡ Some port
            → s.inside (Net port.clock) ≡ true → SameNode s p q (Net port.clock)
        clock memory port here through inside =
            taken before rest (Write m k) order known (Net port.clock)
            (subst (λ (xs : List NodeId). Contains xs (Net port.clock)) (sym (needs_of memory port here through)) (0, omega arith, refl)) inside

        earlier : (j : ℕ) → k ≡ suc j → s.inside (Write m j) ≡ true → p.write m j ≡ q.write m j
        earlier j same inside =
            let second : Contains (Net a.port.clock ∷ write_before m (suc j)) (Write m j) = (1, omega arith, refl) in
            let there : Contains (Net a.port.clock ∷ write_before m k) (Write m j) =
            subst (λ (i : ℕ). Contains (Net a.port.clock ∷ write_before m i) (Write m j)) (sym same) second in
            taken before rest (Write m k) order known (Write m j)
            (subst (λ (xs : List NodeId). Contains xs (Write m j)) (sym (needs_of a.memory a.port a.here a.through)) there) inside

  -- the walk past all nodes
  pub record NodeWalk (a : NodeId) (later : List Task) : Type 0 where
    pub past : List Task
    pub walk : Walk s p q past later
    pub same : SameNode s p q a

  node_walk : (before rest : List NodeId) (a : NodeId) → s.order ≡ before ++ a ∷ rest → s.inside a ≡ true
      → ((b : NodeId) → Contains before b → s.inside b ≡ true → SameNode s p q b)
      → (past later : List Task) → Walk s p q past (node_tasks s before a ++ later) → NodeWalk a later
  node_walk before rest (Net n) order on known past later w =
      let d = net_walk before rest n order on known past later w in record { past = d.past; walk = d.walk; same = d.same }
  node_walk before rest (Write m k) order on known past later w =
      let same = stored before rest m k order known past later w in
      record { past = past ++ Store m k ∷ []; walk = walk_on s p q past later (Store m k) w same; same = same }

  walk_all : (before rest : List NodeId) → s.order ≡ before ++ rest → ((b : NodeId) → Contains before b → s.inside b ≡ true → SameNode s p q b)
      → (past : List Task) → Walk s p q past (tasks_after s before rest) → (t : Task) → Contains (tasks s) t → SameTask s p q t
  walk_all before [] order known past w t h = w.same t (subst (λ (xs : List Task). Contains xs t) (w.all ∙ append-nil past) h)
  walk_all before (a ∷ rest) order known past w t h =
      let next = walk_all (before ++ a ∷ []) rest (order ∙ sym (append_assoc before (a ∷ []) rest)) in
      go next (s.inside a) refl w t h
    where
      later : List Task
      later = tasks_after s (before ++ a ∷ []) rest

      more : (s.inside a ≡ true → SameNode s p q a) → (b : NodeId) → Contains (before ++ a ∷ []) b → s.inside b ≡ true → SameNode s p q b
      more here b h on = split (Contains-append_cases before (a ∷ []) b h)
        where
          split : Contains before b ⊎ Contains (a ∷ []) b → SameNode s p q b
          split (inl old) = known b old on
          split (inr new) = let e = of_one a b new in subst (λ (x : NodeId). SameNode s p q x) e (here (subst (λ (x : NodeId). s.inside x ≡ true) (sym e) on))

      go : (((b : NodeId) → Contains (before ++ a ∷ []) b → s.inside b ≡ true → SameNode s p q b) → (past : List Task) → Walk s p q past later → (t : Task) → Contains (tasks s) t → SameTask s p q t)
          → (o : Bool) → s.inside a ≡ o → Walk s p q past ((cond o (node_tasks s before a) []) ++ later) → (t : Task) → Contains (tasks s) t → SameTask s p q t
      go next false off v = next (more (λ on. let e = off in cc)) past v
      go next true on v =
          let d = node_walk before rest a order on known past later v in
          next (more (λ _. d.same)) d.past d.walk

  pub all_same : (t : Task) → Contains (tasks s) t → SameTask s p q t
  all_same = walk_all [] s.order refl (λ b h on. absurd (omega (arith, h.1))) [] (record { all = refl; same = λ t h. absurd (omega (arith, h.1)) })
