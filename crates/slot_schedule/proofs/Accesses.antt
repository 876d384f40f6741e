-- Different accesses of one memory are in different slots.
use Rattle.std.proofs.Common.{◌≡◌, ◌≢◌, ◌⊎◌, inl, inr, ◌<◌, ◌≤◌, ◌+◌, ℕ, zero, suc, Bool, true, false, cond, Option, Some, None, List, [], ◌∷◌, ◌++◌, length, map, take, refl, sym, ◌∙◌, ap, subst, arith}
use Rattle.std.specs.Prelude.{slice_get, Contains, count_by}
use Rattle.std.specs.List.{list_any}
use Rattle.std.proofs.lemmas.Bool.{cases_lt}
use Rattle.std.proofs.lemmas.List.Elements.{Contains-append_cases, Contains-append_left, Contains-append_right}
use Rattle.std.proofs.lemmas.Option.{none-some, same_Some, slice_get_within}
use Rattle.facts.proofs.Counting.{count_here, count_there}
use Rattle.facts.proofs.Lists.{any_at}
use Rattle.id_arena.specs.declared.keys.MemId.{MemId}
use Rattle.id_arena.specs.declared.keys.NetId.{NetId}
use Rattle.design_core.specs.declared.element.Driver.{Driver}
use Rattle.design_core.specs.declared.element.Driver.TheVariants.{Constant, Input, Elem, Read}
use Rattle.design_core.specs.declared.element.Edge.{Edge}
use Rattle.design_core.specs.declared.element.Memory.{Memory}
use Rattle.design_core.specs.declared.element.ReadPort.{ReadPort}
use Rattle.design_core.specs.declared.element.WritePort.{WritePort}
use Rattle.design_core.specs.declared.node.NodeId.{NodeId}
use Rattle.design_core.specs.declared.node.NodeId.TheVariants.{Net, Write}
use Rattle.design_core.specs.Design.{driver}
use Rattle.design_core.specs.Dependency.{dependencies}
use Rattle.history_law.specs.Drivers.{DriverIsReadBit}
use Rattle.slot_schedule.specs.Settings.{Setting}
use Rattle.slot_schedule.specs.Deliveries.{IsSetting}
use Rattle.slot_schedule.specs.ListPlan.{Plan, Task, IsListPlan, IsFetched, IsStored, CanRead, PortSlots, is_bit_inside, is_clocked_inside, clocked, after_write, fetches, node_tasks, tasks_after, tasks}
use Rattle.slot_schedule.specs.ListPlan.Task.{Fetch, Settle, Store, Deliver}
use Rattle.slot_schedule.specs.Ordered.{Access, access_slot, MemoriesAreUsedOnce}
use Rattle.slot_schedule.specs.Ordered.Access.{reads, writes}
use Rattle.slot_schedule.proofs.Walks.{of_one}
use Rattle.slot_schedule.proofs.Uses.{split_at}

-- where a list has nothing at a place, it ends before it
slice_get_past_end : {X : Type 0} (xs : List X) (k : ℕ) → slice_get xs k ≡ None → length xs ≤ k
slice_get_past_end [] k none = omega arith
slice_get_past_end (x ∷ xs) zero none = cc
slice_get_past_end (x ∷ xs) (suc k) none = let deep = slice_get_past_end xs k none in omega arith

-- more of a list hold where one more of its front is taken that does
counted_in : {X : Type 0} (p : X → Bool) (xs : List X) (r : ℕ) (x : X) → slice_get xs r ≡ Some x → p x ≡ true → count_by p (take r xs) < count_by p xs
counted_in p [] r x at e = absurd (none-some x at)
counted_in p (y ∷ ys) zero x at e =
    let one : p y ≡ true = ap p (same_Some y x at) ∙ e in omega (arith, count_here p y ys one)
counted_in p (y ∷ ys) (suc r) x at e = go (counted_in p ys r x at e) (p y) refl
  where
    go : count_by p (take r ys) < count_by p ys → (b : Bool) → p y ≡ b → count_by p (y ∷ take r ys) < count_by p (y ∷ ys)
    go deep true f = omega (arith, count_here p y ys f, count_here p y (take r ys) f, deep)
    go deep false f = omega (arith, count_there p y ys f, count_there p y (take r ys) f, deep)

counted_before : {X : Type 0} (p : X → Bool) (xs : List X) (r q : ℕ) (x : X) → slice_get xs r ≡ Some x → p x ≡ true → r < q → count_by p (take r xs) < count_by p (take q xs)
counted_before p [] r q x at e less = absurd (none-some x at)
counted_before p (y ∷ ys) zero zero x at e less = absurd (omega arith)
counted_before p (y ∷ ys) (suc r) zero x at e less = absurd (omega arith)
counted_before p (y ∷ ys) zero (suc q) x at e less =
    let one : p y ≡ true = ap p (same_Some y x at) ∙ e in omega (arith, count_here p y (take q ys) one)
counted_before p (y ∷ ys) (suc r) (suc q) x at e less = go (counted_before p ys r q x at e (omega arith)) (p y) refl
  where
    go : count_by p (take r ys) < count_by p (take q ys) → (b : Bool) → p y ≡ b → count_by p (y ∷ take r ys) < count_by p (y ∷ take q ys)
    go deep true f = omega (arith, count_here p y (take q ys) f, count_here p y (take r ys) f, deep)
    go deep false f = omega (arith, count_there p y (take q ys) f, count_there p y (take r ys) f, deep)

-- of two elements that differ, one stands before the other
either_before : {X : Type 0} (xs zs ys ws : List X) (t u : X) → xs ++ t ∷ zs ≡ ys ++ u ∷ ws → t ≢ u → Contains xs u ⊎ Contains ys t
either_before [] zs [] ws t u e apart = absurd (apart (let f = e in cc))
either_before [] zs (y ∷ ys) ws t u e apart = inr (0, omega arith, let same : t ≡ y = (let f = e in cc) in sym same)
either_before (x ∷ xs) zs [] ws t u e apart = inl (0, omega arith, let same : x ≡ u = (let f = e in cc) in same)
either_before (x ∷ xs) zs (y ∷ ys) ws t u e apart = go (either_before xs zs ys ws t u (let f = e in cc) apart)
  where
    go : Contains xs u ⊎ Contains ys t → Contains (x ∷ xs) u ⊎ Contains (y ∷ ys) t
    go (inl h) = inl (suc h.0, omega (arith, h.1), h.2)
    go (inr h) = inr (suc h.0, omega (arith, h.1), h.2)

-- why a task is there
abbrev TaskOf : Setting → Task → Type 0
TaskOf s (Fetch m r) = (n : NetId) × (b : ℕ) × (s.inside (Net n) ≡ true) × (driver s.design n.place ≡ Read m r b)
TaskOf s (Store m k) = s.inside (Write m k) ≡ true
TaskOf s other = Unit {0}

delivers_of : (s : Setting) (n : NetId) (cs : List ℕ) (t : Task) → Contains (map (Deliver n) cs) t → TaskOf s t
delivers_of s n [] t h = absurd (omega (arith, h.1))
delivers_of s n (c ∷ cs) t (zero, below, is) = subst (λ (x : Task). TaskOf s x) is tt
delivers_of s n (c ∷ cs) t (suc k, below, is) = delivers_of s n cs t (k, omega (arith, below), is)

own_of : (s : Setting) (n : NetId) (cs : List ℕ) (t : Task) → Contains (Settle n ∷ map (Deliver n) cs) t → TaskOf s t
own_of s n cs t (zero, below, is) = subst (λ (x : Task). TaskOf s x) is tt
own_of s n cs t (suc k, below, is) = delivers_of s n cs t (k, omega (arith, below), is)

fetch_of : (s : Setting) (before : List NodeId) (n : NetId) (d : Driver) (t : Task) → s.inside (Net n) ≡ true → driver s.design n.place ≡ d → Contains (fetches s before d) t → TaskOf s t
fetch_of s before n (Constant b) t on is h = absurd (omega (arith, h.1))
fetch_of s before n Input t on is h = absurd (omega (arith, h.1))
fetch_of s before n (Elem e) t on is h = absurd (omega (arith, h.1))
fetch_of s before n (Read m r b) t on is h = go (list_any (is_bit_inside s m r) before) h
  where
    go : (o : Bool) → Contains (cond o [] (Fetch m r ∷ [])) t → TaskOf s t
    go true h = absurd (omega (arith, h.1))
    go false h = subst (λ (x : Task). TaskOf s x) (of_one (Fetch m r) t h) (n, b, on, is)

node_of : (s : Setting) (before : List NodeId) (a : NodeId) (t : Task) → s.inside a ≡ true → Contains (node_tasks s before a) t → TaskOf s t
node_of s before (Net n) t on h = go (Contains-append_cases (fetches s before (driver s.design n.place)) (Settle n ∷ map (Deliver n) (s.routes n)) t h)
  where
    go : Contains (fetches s before (driver s.design n.place)) t ⊎ Contains (Settle n ∷ map (Deliver n) (s.routes n)) t → TaskOf s t
    go (inl fetch) = fetch_of s before n (driver s.design n.place) t on refl fetch
    go (inr own) = own_of s n (s.routes n) t own
node_of s before (Write m k) t on h = subst (λ (x : Task). TaskOf s x) (of_one (Store m k) t h) on

task_of : (s : Setting) (before rest : List NodeId) (t : Task) → Contains (tasks_after s before rest) t → TaskOf s t
task_of s before [] t h = absurd (omega (arith, h.1))
task_of s before (a ∷ rest) t h = go (task_of s (before ++ a ∷ []) rest t) (s.inside a) refl h
  where
    go : (Contains (tasks_after s (before ++ a ∷ []) rest) t → TaskOf s t) → (o : Bool) → s.inside a ≡ o → Contains ((cond o (node_tasks s before a) []) ++ tasks_after s (before ++ a ∷ []) rest) t → TaskOf s t
    go deep false off h = deep h
    go deep true on h = split (Contains-append_cases (node_tasks s before a) (tasks_after s (before ++ a ∷ []) rest) t h)
      where
        split : Contains (node_tasks s before a) t ⊎ Contains (tasks_after s (before ++ a ∷ []) rest) t → TaskOf s t
        split (inl here) = node_of s before a t on here
        split (inr later) = deep later

-- a write port of the influence has its task
store_there : (s : Setting) (before rest : List NodeId) (m : MemId) (k : ℕ) → s.inside (Write m k) ≡ true → Contains rest (Write m k) → Contains (tasks_after s before rest) (Store m k)
store_there s before [] m k on h = absurd (omega (arith, h.1))
store_there s before (a ∷ rest) m k on (zero, below, is) =
    let one : s.inside a ≡ true = subst (λ (x : NodeId). s.inside x ≡ true) (sym is) on in
    let here : Contains (node_tasks s before a) (Store m k) = subst (λ (x : NodeId). Contains (node_tasks s before x) (Store m k)) (sym is) (0, omega arith, refl) in
    rw one (Contains-append_left (node_tasks s before a) (tasks_after s (before ++ a ∷ []) rest) (Store m k) here)
store_there s before (a ∷ rest) m k on (suc j, below, is) =
    Contains-append_right (cond (s.inside a) (node_tasks s before a) []) (tasks_after s (before ++ a ∷ []) rest) (Store m k)
    (store_there s (before ++ a ∷ []) rest m k on (j, omega (arith, below), is))

-- what is known of the slot of an access
pub data Kind (s : Setting) (plan : Plan) (m : MemId) (memory : Memory) : Task → Type 0 where
  clock_read : (r : ℕ) (port : ReadPort) → slice_get memory.reads r ≡ Some port → is_clocked_inside s port ≡ true
      → plan.read m r ≡ clocked s (take r memory.reads) + 1 → Kind s plan m memory (Fetch m r)
  open_read : (r chip : ℕ) (port : ReadPort) (past rest : List Task) → tasks s ≡ past ++ Fetch m r ∷ rest
      → CanRead s plan past m chip memory port (plan.read m r) → Kind s plan m memory (Fetch m r)
  written : (k : ℕ) → s.inside (Write m k) ≡ true → k < length memory.writes → clocked s memory.reads + 1 ≤ plan.write m k → Kind s plan m memory (Store m k)

module _ (read_bits : DriverIsReadBit) (s : Setting) (plan : Plan) (ok : IsSetting s) (planned : IsListPlan s plan) where
  -- a clocked port that is read has a bit in the influence
  is_counted : (m : MemId) (r : ℕ) (memory : Memory) (port : ReadPort) (edge : Edge) → slice_get s.design.memories m.place ≡ Some memory → slice_get memory.reads r ≡ Some port
      → port.clock ≡ Some edge → TaskOf s (Fetch m r) → is_clocked_inside s port ≡ true
  is_counted m r memory port edge here through some (n, b, on, drives) =
      let f = read_bits s.design n.place m r b drives in
      let memory_one : f.0 ≡ memory = let g = f.3 in let h = here in cc in
      let through_one : slice_get memory.reads r ≡ Some f.1 = subst (λ (x : Memory). slice_get x.reads r ≡ Some f.1) memory_one f.4 in
      let port_one : f.1 ≡ port = let g = through_one in let h = through in cc in
      let bit : slice_get port.bits b ≡ Some f.2 = subst (λ (x : ReadPort). slice_get x.bits b ≡ Some f.2) port_one f.5 in
      let net_one : n ≡ f.2 = ap (λ (i : ℕ). record { place = i }) (sym f.6) in
      let any : list_any (λ i. s.inside (Net i)) port.bits ≡ true = any_at (λ i. s.inside (Net i)) port.bits b f.2 bit (subst (λ (x : NetId). s.inside (Net x) ≡ true) net_one on) in
      rw (some, any) refl

  -- each access is of one of these kinds
  fetch_kind : (m : MemId) (r : ℕ) (past rest : List Task) → tasks s ≡ past ++ Fetch m r ∷ rest → TaskOf s (Fetch m r) → (k : IsFetched s plan past m r) → Kind s plan m k.memory (Fetch m r)
  fetch_kind m r past rest is of k = go k.port.clock refl k.slots
    where
      go : (o : Option Edge) → k.port.clock ≡ o → PortSlots s plan past m r k.chip k.memory k.port o → Kind s plan m k.memory (Fetch m r)
      go None none slots = open_read r k.chip k.port past rest is slots.holds
      go (Some edge) some slots = clock_read r k.port k.through (is_counted m r k.memory k.port edge k.here k.through some of) slots.0

  kind : (m : MemId) (t : Task) → Access m t → Contains (tasks s) t → (memory : Memory) × (slice_get s.design.memories m.place ≡ Some memory) × Kind s plan m memory t
  kind m t (reads r) h =
      let at = split_at (tasks s) (Fetch m r) h in
      let k : IsFetched s plan at.past m r = planned at.past at.rest (Fetch m r) at.is in
      (k.memory, k.here, fetch_kind m r at.past at.rest at.is (task_of s [] s.order (Fetch m r) h) k)
  kind m t (writes j) h =
      let at = split_at (tasks s) (Store m j) h in
      let k : IsStored s plan m j = planned at.past at.rest (Store m j) at.is in
      (k.memory, k.here, written j (task_of s [] s.order (Store m j) h) (slice_get_within k.memory.writes j k.port k.through) (let e = k.slot in omega arith))

  -- a later write port is written later
  module _ (m : MemId) (memory : Memory) (here : slice_get s.design.memories m.place ≡ Some memory) where
    stored : (k : ℕ) → s.inside (Write m k) ≡ true → IsStored s plan m k
    stored k on =
        let at = split_at (tasks s) (Store m k) (store_there s [] s.order m k on (ok.order.all (Write m k) (ok.nodes (Write m k) on))) in
        planned at.past at.rest (Store m k) at.is

    next_inside : (i : ℕ) → suc i < length memory.writes → s.inside (Write m i) ≡ true → s.inside (Write m (suc i)) ≡ true
    next_inside i below on = ok.grows (Write m (suc i)) (Write m i) (needed (slice_get memory.writes (suc i)) refl) on
      where
        needed : (o : Option WritePort) → slice_get memory.writes (suc i) ≡ o → Contains (dependencies s.design (Write m (suc i))) (Write m i)
        needed None none = absurd (let e = slice_get_past_end memory.writes (suc i) none in omega arith)
        needed (Some port) some = rw (here, some) (1, omega arith, refl)

    above_one : (i : ℕ) → s.inside (Write m i) ≡ true → s.inside (Write m (suc i)) ≡ true → plan.write m i < plan.write m (suc i)
    above_one i on next =
        let d = stored (suc i) next in
        let slot = d.slot in
        let after : after_write s plan m (suc i) ≡ plan.write m i + 1 = rw on refl in
        omega arith

    rising : (j k : ℕ) → j ≤ k → k < length memory.writes → s.inside (Write m j) ≡ true
        → (s.inside (Write m k) ≡ true) × (j < k → plan.write m j < plan.write m k)
    rising j zero le below on = (subst (λ (i : ℕ). s.inside (Write m i) ≡ true) (let e : j ≡ 0 = omega arith in e) on, λ less. absurd (omega (arith, less)))
    rising j (suc i) le below on = go (λ (small : j ≤ i). rising j i small (omega arith) on) (cases_lt j (suc i))
      where
        go : (j ≤ i → (s.inside (Write m i) ≡ true) × (j < i → plan.write m j < plan.write m i)) → (j < suc i) ⊎ (suc i ≤ j) → (s.inside (Write m (suc i)) ≡ true) × (j < suc i → plan.write m j < plan.write m (suc i))
        go deeper (inr same) = (subst (λ (x : ℕ). s.inside (Write m x) ≡ true) (let e : j ≡ suc i = omega arith in e) on, λ less. absurd (omega (arith, less)))
        go deeper (inl less) =
            let deep = deeper (omega arith) in
            let next = next_inside i below deep.0 in
            let one = above_one i deep.0 next in
            (next, λ _. last (cases_lt j i) deep.1 one)
          where
            last : (j < i) ⊎ (i ≤ j) → (j < i → plan.write m j < plan.write m i) → plan.write m i < plan.write m (suc i) → plan.write m j < plan.write m (suc i)
            last (inl before) deep one = let d = deep before in omega arith
            last (inr past) deep one = let e : j ≡ i = omega arith in subst (λ (x : ℕ). plan.write m x < plan.write m (suc i)) (sym e) one

    apart : (t u : Task) → Kind s plan m memory t → Kind s plan m memory u → t ≢ u → access_slot plan t ≡ access_slot plan u → ⊥
    apart t u (clock_read r port at on is) (clock_read q other there also this) differ same = go (cases_lt r q) (cases_lt q r)
      where
        go : (r < q) ⊎ (q ≤ r) → (q < r) ⊎ (r ≤ q) → ⊥
        go (inl less) y = let c = counted_before (is_clocked_inside s) memory.reads r q port at on less in omega arith
        go (inr x) (inl less) = let c = counted_before (is_clocked_inside s) memory.reads q r other there also less in omega arith
        go (inr x) (inr y) = differ (ap (Fetch m) (let e : r ≡ q = omega arith in e))
    apart t u (clock_read r port at on is) (open_read q chip other past rest split can) differ same =
        let c = counted_in (is_clocked_inside s) memory.reads r port at on in let d = can.clocks in omega arith
    apart t u (clock_read r port at on is) (written k inside below late) differ same =
        let c = counted_in (is_clocked_inside s) memory.reads r port at on in omega arith
    apart t u (open_read r chip port past rest split can) (clock_read q other there also this) differ same =
        let c = counted_in (is_clocked_inside s) memory.reads q other there also in let d = can.clocks in omega arith
    apart t u (open_read r chip port past rest split can) (open_read q place other before behind is might) differ same =
        go (either_before past rest before behind (Fetch m r) (Fetch m q) (sym split ∙ is) differ)
      where
        go : Contains past (Fetch m q) ⊎ Contains before (Fetch m r) → ⊥
        go (inl taken) = can.free q taken (sym same)
        go (inr taken) = might.free r taken same
    apart t u (open_read r chip port past rest split can) (written k inside below late) differ same =
        let c = can.writes k inside in omega arith
    apart t u (written k inside below late) (clock_read q other there also this) differ same =
        let c = counted_in (is_clocked_inside s) memory.reads q other there also in omega arith
    apart t u (written k inside below late) (open_read r chip port past rest split can) differ same =
        let c = can.writes k inside in omega arith
    apart t u (written k inside below late) (written j also under other) differ same = go (cases_lt k j) (cases_lt j k)
      where
        go : (k < j) ⊎ (j ≤ k) → (j < k) ⊎ (k ≤ j) → ⊥
        go (inl less) y = let c = (rising k j (omega arith) under inside).1 less in omega arith
        go (inr x) (inl less) = let c = (rising j k (omega arith) below also).1 less in omega arith
        go (inr x) (inr y) = differ (ap (Store m) (let e : k ≡ j = omega arith in e))

pub memories_are_used_once : DriverIsReadBit → MemoriesAreUsedOnce
memories_are_used_once read_bits s plan ok planned m t u here there a b differ same =
    let x = kind read_bits s plan ok planned m t a here in
    let y = kind read_bits s plan ok planned m u b there in
    let one : y.0 ≡ x.0 = let f = x.1 in let g = y.1 in cc in
    apart read_bits s plan ok planned m x.0 x.1 t u x.2 (subst (λ (k : Memory). Kind s plan m k u) one y.2) differ same
