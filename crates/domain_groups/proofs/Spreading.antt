-- One pass over the nodes in order marks just what some nets reach.
use Rattle.std.proofs.Common.{◌≡◌, ◌≢◌, ℕ, zero, suc, ◌+◌, ◌<◌, ◌≤◌, arith, Bool, true, false, inl, inr, List, [], ◌∷◌, length, set, refl, subst, sym, ap, ◌∙◌}
use Rattle.std.specs.Prelude.{◌⊎◌, ◌↔◌, Option, Some, None, Contains, slice_get}
use Rattle.std.specs.List.{list_any}
use Rattle.std.proofs.lemmas.Bool.{cases_lt}
use Rattle.std.proofs.lemmas.List.{length-set}
use Rattle.std.proofs.lemmas.Option.{none-some, same_Some, slice_get_within}
use Rattle.facts.proofs.Tests.{no}
use Rattle.facts.proofs.Places.{any_found, at_contains, contains_at}
use Rattle.facts.proofs.Lists.{any_at}
use Rattle.id_arena.specs.declared.keys.NetId.{NetId}
use Rattle.id_arena.specs.declared.keys.MemId.{MemId}
use Rattle.design_core.specs.declared.element.Memory.{Memory}
use Rattle.design_core.specs.declared.element.WritePort.{WritePort}
use Rattle.design_core.specs.declared.element.Driver.{Driver}
use Rattle.design_core.specs.declared.element.Driver.TheVariants.{Constant, Input, Elem, Read}
use Rattle.design_core.specs.declared.node.NodeId.{NodeId}
use Rattle.design_core.specs.declared.node.NodeId.TheVariants.{Net, Write}
use Rattle.design_core.specs.declared.parts.Parts.{Parts}
use Rattle.design_core.specs.Design.{IsDesign, net_count, driver, port_bits}
use Rattle.design_core.specs.Dependency.{IsNode, dependencies, driver_needs, write_needs, write_needs_at}
use Rattle.design_core.specs.Influence.{IsReached}
use Rattle.design_core.specs.Influence.IsReached.{seed, over}
use Rattle.history_law.specs.Drivers.{DriverIsElement, DriverIsReadBit, ElementIsDriver, InputBitIsInput, ReadBitIsDriver}
use Rattle.link_rows.specs.BitRows.{BitTable, bits_at, is_set, with_bit}
use Rattle.clock_rank.specs.Numbers.{all_nodes, number_of, IsThere}
use Rattle.clock_rank.specs.Orders.{IsInOrder, IsSorted}
use Rattle.domain_groups.specs.Influences.{is_marked}
use Rattle.domain_groups.specs.Members.{SetsNets}
use Rattle.domain_groups.specs.Reaching.{HasRow, SameSize, Reaches}
use Rattle.domain_groups.proofs.NodeMarks.{set_here, set_keeps, set_only, set_others, seed_set, set_seed}
use Rattle.domain_groups.proofs.TableBits.{other_row}

-- what drives a net is there
pub driver_there : DriverIsElement → DriverIsReadBit → (p : Parts) (n : ℕ) (from : Driver) → from ≡ driver p n → IsThere p from
driver_there element read p n (Constant b) e = tt
driver_there element read p n Input e = tt
driver_there element read p n (Elem k) e = let there = element p n k (sym e) in slice_get_within p.elements k.place there.0 there.1
driver_there element read p n (Read m r b) e =
    let (memory, port, net, at, in_port, in_bits, same) = read p n m r b (sym e) in
    (memory, port, at, in_port)

-- no node stands in an empty list
nothing : {A : Type 0} (b : NodeId) → Contains [] b → A
nothing b c = let at = at_contains [] b c in absurd (none-some b at.1)

-- a node that depends on another is there
module _ (p : Parts) (d : IsDesign p) (element : DriverIsElement) (read : DriverIsReadBit) (output : ElementIsDriver) (bit : ReadBitIsDriver) where
  net_there : (n : NetId) (b : NodeId) (from : Driver) → driver p n.place ≡ from → Contains (driver_needs p from) b → n.place < net_count p
  net_there n b (Constant v) e c = nothing b c
  net_there n b Input e c = nothing b c
  net_there n b (Elem k) e c =
      let there = element p n.place k e in
      (output p k.place n.place there.0 d there.1 there.2).0
  net_there n b (Read m r k) e c =
      let (memory, port, net, at, in_port, in_bits, same) = read p n.place m r k e in
      subst (λ (i : ℕ). i < net_count p) same (bit p m.place r k memory port net d at in_port in_bits).0

  port_there : (m : MemId) (k : ℕ) (b : NodeId) (memory : Memory) (o : Option WritePort) → slice_get memory.writes k ≡ o → Contains (write_needs m k o) b → k < length memory.writes
  port_there m k b memory None e c = nothing b c
  port_there m k b memory (Some port) e c = slice_get_within memory.writes k port e

  write_there : (m : MemId) (k : ℕ) (b : NodeId) (o : Option Memory) → slice_get p.memories m.place ≡ o → Contains (write_needs_at m k o) b
      → (memory : Memory) × (slice_get p.memories m.place ≡ Some memory) × (k < length memory.writes)
  write_there m k b None e c = nothing b c
  write_there m k b (Some memory) e c = (memory, e, port_there m k b memory (slice_get memory.writes k) refl c)

  pub dependent_there : (a b : NodeId) → Contains (dependencies p a) b → IsNode p a
  dependent_there (Net n) b c = net_there n b (driver p n.place) refl c
  dependent_there (Write m k) b c = write_there m k b (slice_get p.memories m.place) refl c

-- what holds after the first nodes of the order, so many
pub record Spread (p : Parts) (order : List NodeId) (seeds : List NetId) (first now : BitTable) (row count : ℕ) : Type 0 where
  pub size : SameSize first now
  pub sound : (a : NodeId) → is_marked p now row a ≡ true → IsReached p seeds a
  pub seeded : (n : NetId) → Contains seeds n → is_marked p now row (Net n) ≡ true
  pub closed : (j : ℕ) (a b : NodeId) → j < count → slice_get order j ≡ Some a → Contains (dependencies p a) b → is_marked p now row b ≡ true → is_marked p now row a ≡ true
  pub others : (k n : ℕ) → k ≢ row → is_set (bits_at now k) n ≡ is_set (bits_at first k) n

module _ (p : Parts) (order : List NodeId) (sorted : IsSorted p order) (seeds : List NetId) (first : BitTable) (row : ℕ) where
  -- the nets alone are marked
  pub begin : (old : BitTable) → SetsNets old first row seeds → ((n : ℕ) → is_set (bits_at old row) n ≡ false) → ((n : NetId) → Contains seeds n → n.place < net_count p)
      → Spread p order seeds first first row zero
  begin old s clear low = record {
    size = record { count = refl; width = refl };
    sound = λ a e. let h = set_seed p old first row seeds s clear low a e in subst (IsReached p seeds) (sym h.1) (seed h.0 h.2);
    seeded = λ n c. seed_set p old first row seeds s clear n (low n c) c;
    closed = λ j a b less at c e. absurd (omega arith);
    others = λ k n differ. refl;
  }

  module _ (now : BitTable) (place : ℕ) (a : NodeId) (here : slice_get order place ≡ Some a) (s : Spread p order seeds first now row place) where
    -- nothing on which the next node depends is marked
    pub pass_over : list_any (is_marked p now row) (dependencies p a) ≡ false → Spread p order seeds first now row (place + 1)
    pass_over none = record {
      size = s.size;
      sound = s.sound;
      seeded = s.seeded;
      closed = λ j c b less at needed e. go j c b less at needed e (cases_lt j place);
      others = s.others;
    }
      where
        go : (j : ℕ) (c b : NodeId) → j < place + 1 → slice_get order j ≡ Some c → Contains (dependencies p c) b → is_marked p now row b ≡ true
            → (j < place) ⊎ (place ≤ j) → is_marked p now row c ≡ true
        go j c b less at needed e (inl before) = s.closed j c b before at needed e
        go j c b less at needed e (inr past) =
            let last : j ≡ place = omega arith in
            let at-2 : slice_get order place ≡ Some c = subst (λ (i : ℕ). slice_get order i ≡ Some c) last at in
            let same : c ≡ a = same_Some c a (sym at-2 ∙ here) in
            let found = at_contains (dependencies p a) b (subst (λ (x : NodeId). Contains (dependencies p x) b) same needed) in
            no (sym none ∙ any_at (is_marked p now row) (dependencies p a) found.0 b found.1 e)

    -- something on which it depends is marked, and so it is marked too
    pub take_in : (at : ℕ) (new : BitTable) → IsNode p a → at ≡ number_of p a → row < length now.rows → at < length (bits_at now row) → new ≡ with_bit now row at true
        → list_any (is_marked p now row) (dependencies p a) ≡ true → Spread p order seeds first new row (place + 1)
    take_in at new node number there room is some = rw is (record {
      size = record { count = length-set now.rows row (set (bits_at now row) at true) ∙ s.size.count; width = s.size.width };
      sound = λ c e. sound c (set_only p now row at a node number there room row c e);
      seeded = λ n c. set_keeps p now row at a node number there room row (Net n) (s.seeded n c);
      closed = λ j c b less in_order needed e. closed j c b less in_order needed (set_only p now row at a node number there room row b e) (cases_lt j place);
      others = λ k n differ. set_others p now row at a node number there room k n differ ∙ s.others k n differ;
    })
      where
        reached : IsReached p seeds a
        reached =
            let f = any_found (is_marked p now row) (dependencies p a) some in
            over a f.1 (contains_at (dependencies p a) f.0 f.1 f.2) (s.sound f.1 f.3)

        sound : (c : NodeId) → (is_marked p now row c ≡ true) ⊎ (a ≡ c) → IsReached p seeds c
        sound c (inl old) = s.sound c old
        sound c (inr same) = subst (IsReached p seeds) same reached

        kept : (c : NodeId) → is_marked p now row c ≡ true → is_marked p (with_bit now row at true) row c ≡ true
        kept c e = set_keeps p now row at a node number there room row c e

        closed : (j : ℕ) (c b : NodeId) → j < place + 1 → slice_get order j ≡ Some c → Contains (dependencies p c) b → (is_marked p now row b ≡ true) ⊎ (a ≡ b)
            → (j < place) ⊎ (place ≤ j) → is_marked p (with_bit now row at true) row c ≡ true
        closed j c b less in_order needed (inl old) (inl before) = kept c (s.closed j c b before in_order needed old)
        closed j c b less in_order needed (inr same) (inl before) =
            let low : place < j = sorted j place c b in_order (here ∙ ap Some same) needed in
            absurd (omega arith)
        closed j c b less in_order needed marked (inr past) =
            let last : j ≡ place = omega arith in
            let at-2 : slice_get order place ≡ Some c = subst (λ (i : ℕ). slice_get order i ≡ Some c) last in_order in
            let same : a ≡ c = same_Some a c (sym here ∙ at-2) in
            subst (λ (x : NodeId). is_marked p (with_bit now row at true) row x ≡ true) same (set_here p now row at a node number there room)

  -- at the end of the order just what the nets reach is marked
  module _ (now : BitTable) (count : ℕ) (all : (a : NodeId) → IsNode p a → Contains order a) (there : (a b : NodeId) → Contains (dependencies p a) b → IsNode p a) (s : Spread p order seeds first now row count) (enough : length order ≤ count) where
    complete : (a : NodeId) → IsReached p seeds a → is_marked p now row a ≡ true
    complete a (seed n c) = s.seeded n c
    complete a (over c b needed deep) =
        let place = at_contains order c (all c (there c b needed)) in
        let within = slice_get_within order place.0 c place.1 in
        s.closed place.0 c b (omega arith) place.1 needed (complete b deep)

    pub reaches : (old : BitTable) → SetsNets old first row seeds → Reaches p old now row seeds
    reaches old sets = record {
      size = record { count = s.size.count ∙ sets.count; width = s.size.width ∙ sets.width };
      here = λ a. (s.sound a, complete a);
      others = λ k n differ. s.others k n differ ∙ other_row old first row seeds k n sets differ;
    }
