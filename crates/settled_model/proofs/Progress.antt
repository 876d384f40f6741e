-- So many nodes of the order have had their turn.
use Rattle.std.proofs.Common.{◌≡◌, ◌<◌, ◌≤◌, ◌+◌, ◌^◌, ◌⊎◌, ℕ, zero, suc, Bool, false, List, [], ◌∷◌, take, length, get_or, refl, sym, ap, subst, ◌∙◌, inl, inr, arith}
use Rattle.std.specs.Prelude.{Some, None, slice_get, slice_set, Contains}
use Rattle.std.proofs.lemmas.Bool.{cases_eq, cases_lt}
use Rattle.std.proofs.lemmas.List.{length-set, get_or-set_same, get_or-set_other, length-take-le}
use Rattle.std.proofs.lemmas.Option.{none-some, slice_get_within, same_Some, slice_get-get_or}
use Rattle.std.proofs.Math.Seq.{take-length}
use Rattle.id_arena.specs.declared.keys.NetId.{NetId}
use Rattle.id_arena.specs.declared.keys.MemId.{MemId}
use Rattle.design_core.specs.declared.element.Memory.{Memory}
use Rattle.design_core.specs.declared.element.ReadPort.{ReadPort}
use Rattle.design_core.specs.declared.element.WritePort.{WritePort}
use Rattle.design_core.specs.declared.element.Driver.TheVariants.{Read}
use Rattle.design_core.specs.declared.node.NodeId.{NodeId}
use Rattle.design_core.specs.declared.node.NodeId.TheVariants.{Net, Write}
use Rattle.design_core.specs.declared.parts.Parts.{Parts}
use Rattle.design_core.specs.Design.{IsDesign, net_count, driver}
use Rattle.design_core.specs.Limits.{word_count}
use Rattle.design_core.specs.Valuation.{Valuation, IsAddress}
use Rattle.design_core.specs.Dependency.{dependencies, IsNode}
use Rattle.history_law.proofs.Equations.{Same}
use Rattle.settled_model.specs.declared.turn.Turn.{Turn}
use Rattle.settled_model.specs.declared.turn.Turn.TheVariants.{Opening, Event}
use Rattle.settled_model.specs.Held.{shown, word_in}
use Rattle.settled_model.specs.Passing.{driver_value, written_in, HasStored, HasRenewed, AreRenewed, IsOrder}
use Rattle.settled_model.proofs.Passes.{gives_same, same_inputs, same_words, needs_clock, needs_before, needs_writes}
use Rattle.settled_model.proofs.Stores.{stored_other, stored_more, stored_size, written_clocks}

-- a node stands among the first so many
pub record HadTurn (order : List NodeId) (count : ℕ) (a : NodeId) : Type 0 where
  pub place : ℕ
  pub low : place < count
  pub at : slice_get order place ≡ Some a

-- just so many of a memory's write ports have had their turn, the first ones
pub record ArePorts (order : List NodeId) (count : ℕ) (m : MemId) (ports : ℕ) : Type 0 where
  pub all : (i : ℕ) → i < ports → HadTurn order count (Write m i)
  pub only : (i : ℕ) → HadTurn order count (Write m i) → i < ports

pub record IsPassed (p : Parts) (order : List NodeId) (turn : Turn) (old start : List Bool) (begun : List ℕ) (count : ℕ) (new : List Bool) (words : List ℕ) : Type 0 where
  pub size : length new ≡ net_count p
  pub room : length words ≡ word_count p
  pub kept : (n : NetId) → (HadTurn order count (Net n) → ⊥) → get_or new n.place false ≡ get_or start n.place false
  pub done : (n : NetId) → HadTurn order count (Net n)
      → get_or new n.place false ≡ driver_value p turn (shown start).net (word_in p words) (shown old) (shown new) n.place (driver p n.place)
  pub stands : (m : MemId) (ports a : ℕ) (memory : Memory) → slice_get p.memories m.place ≡ Some memory → ports ≤ length memory.writes → a < 2 ^ memory.address_bits
      → ArePorts order count m ports
      → word_in p words m.place a ≡ written_in turn (shown old) (shown new) (take ports memory.writes) a (word_in p begun m.place a)

-- a port among the first ones is the one at its place
taken_port : (ports : List WritePort) (count j : ℕ) (port : WritePort) → slice_get (take count ports) j ≡ Some port → slice_get ports j ≡ Some port
taken_port [] count j port at = taken_none count j port at
  where
    taken_none : (count j : ℕ) (port : WritePort) → slice_get (take count []) j ≡ Some port → slice_get [] j ≡ Some port
    taken_none zero j port at = at
    taken_none (suc count) j port at = at
taken_port (x ∷ ports) zero j port at = absurd (none-some port at)
taken_port (x ∷ ports) (suc count) zero port at = at
taken_port (x ∷ ports) (suc count) (suc j) port at = taken_port ports count j port at

no_ports : (ports : ℕ) (order : List NodeId) (m : MemId) → ArePorts order 0 m ports → ports ≡ 0
no_ports zero order m h = refl
no_ports (suc ports) order m h =
    let first : 0 < suc ports = omega arith in
    let had : HadTurn order 0 (Write m 0) = h.all 0 first in
    let low : had.place < 0 = had.low in
    absurd (omega arith)

pub none_passed : (p : Parts) (order : List NodeId) (turn : Turn) (old start : List Bool) (begun : List ℕ) → length start ≡ net_count p → length begun ≡ word_count p → IsPassed p order turn old start begun 0 start begun
none_passed p order turn old start begun size room =
    record {
      size = size;
      room = room;
      kept = λ n h. refl;
      done = λ n had. let low : had.place < 0 = had.low in absurd (omega arith);
      stands = λ m ports a memory at few low h.
          let none : ports ≡ 0 = no_ports ports order m h in
          sym (ap (λ (k : ℕ). written_in turn (shown old) (shown start) (take k memory.writes) a (word_in p begun m.place a)) none ∙ unwritten turn (shown old) (shown start) a (word_in p begun m.place a));
    }
  where
    unwritten : (turn : Turn) (v u : Valuation) (a x : ℕ) → written_in turn v u [] a x ≡ x
    unwritten Opening v u a x = refl
    unwritten Event v u a x = refl

same_net : (m n : NetId) → m.place ≡ n.place → m ≡ n
same_net m n e = ap (λ (k : ℕ). record { place = k }) e

same_mem : (m n : MemId) → m.place ≡ n.place → m ≡ n
same_mem m n e = ap (λ (k : ℕ). record { place = k }) e

not_net : (m : MemId) (k : ℕ) (n : NetId) → Some (Write m k) ≡ Some (Net n) → ⊥
not_net m k n e = cc

module _ (p : Parts) (d : IsDesign p) (order : List NodeId) (o : IsOrder p order) (turn : Turn) (old start : List Bool) (begun : List ℕ)
    (count : ℕ) (new : List Bool) (words : List ℕ) (h : IsPassed p order turn old start begun count new words) where
  later : (a : NodeId) → HadTurn order count a → HadTurn order (count + 1) a
  later a had =
      let low : had.place < count = had.low in
      let more : had.place < count + 1 = omega arith in
      record { place = had.place; low = more; at = had.at }

  -- what has had its turn by the next count is the present node, or had it before
  split : (a b : NodeId) → slice_get order count ≡ Some a → HadTurn order (count + 1) b → (a ≡ b) ⊎ HadTurn order count b
  split a b at had = elim (cases_eq had.place count) [
    | inl same ↦ inl (same_Some a b (sym at ∙ ap (slice_get order) (sym same) ∙ had.at))
    | inr differ ↦
        let low : had.place < count + 1 = had.low in
        let less : had.place < count = omega arith in
        inr (record { place = had.place; low = less; at = had.at })
  ]

  now : (a : NodeId) → slice_get order count ≡ Some a → HadTurn order (count + 1) a
  now a at = let low : count < count + 1 = omega arith in record { place = count; low = low; at = at }

  -- the present node has not had its turn before
  not_yet : (a : NodeId) → slice_get order count ≡ Some a → HadTurn order count a → ⊥
  not_yet a at had =
      let same : had.place ≡ count = o.once had.place count a had.at at in
      let low : had.place < count = had.low in
      omega arith

  -- no node that had its turn before, nor the present one, depends on the present one
  not_needed : (a b : NodeId) → slice_get order count ≡ Some a → HadTurn order (count + 1) b → Contains (dependencies p b) a → ⊥
  not_needed a b at had needed =
      let before : count < had.place = o.earlier count had.place b a had.at at needed in
      let low : had.place < count + 1 = had.low in
      omega arith

  module _ (m : NetId) (at : slice_get order count ≡ Some (Net m)) where
    abbrev value : Bool
    value = driver_value p turn (shown new).net (word_in p words) (shown old) (shown new) m.place (driver p m.place)

    abbrev next : List Bool
    next = slice_set new m.place value

    in_table : m.place < length new
    in_table = let small : m.place < net_count p = o.nodes count (Net m) at in omega (arith, h.size)

    stays : (n : NetId) → (n.place ≡ m.place → ⊥) → get_or new n.place false ≡ get_or next n.place false
    stays n differ = sym (get_or-set_other new m.place n.place value false differ)

    moved : (b : NodeId) (n : NetId) → HadTurn order (count + 1) b → n.place ≡ m.place → Contains (dependencies p b) (Net n) → ⊥
    moved b n had same needed =
        not_needed (Net m) b at had (subst (λ (c : NetId). Contains (dependencies p b) (Net c)) (same_net n m same) needed)

    -- what a node depends on that had its turn has had its own
    before_it : (n : NetId) → HadTurn order (count + 1) (Net n) → (b : NodeId) → IsNode p b → Contains (dependencies p (Net n)) b → HadTurn order (count + 1) b
    before_it n had b node needed =
        let has : Contains order b = o.all b node in
        let here : slice_get order has.0 ≡ Some b = slice_get-get_or order has.0 b has.1 ∙ ap Some has.2 in
        let less : has.0 < had.place = o.earlier has.0 had.place (Net n) b had.at here needed in
        let low : had.place < count + 1 = had.low in
        let more : has.0 < count + 1 = omega arith in
        record { place = has.0; low = more; at = here }

    clock_stays : (l : MemId) (k : ℕ) (memory : Memory) (port : WritePort) → slice_get p.memories l.place ≡ Some memory → slice_get memory.writes k ≡ Some port → HadTurn order (count + 1) (Write l k) → get_or new port.clock.place false ≡ get_or next port.clock.place false
    clock_stays l k memory port here in_port had =
        stays port.clock (λ same. moved (Write l k) port.clock had same (needs_clock p l k memory port here in_port))

    free : (n : NetId) → HadTurn order (count + 1) (Net n) → (b : NodeId) → Contains (dependencies p (Net n)) b → Same p (shown new) (shown next) b
    free n had (Net b) needed = stays b (λ same. moved (Net n) b had same needed)
    free n had (Write l k) needed = λ memory port here in_port.
        clock_stays l k memory port here in_port
        (before_it n had (Write l k) (memory, here, slice_get_within memory.writes k port in_port) needed)

    value_stays : (n : NetId) → HadTurn order (count + 1) (Net n) → (inputs : ℕ → Bool)
        → driver_value p turn inputs (word_in p words) (shown old) (shown new) n.place (driver p n.place)
        ≡ driver_value p turn inputs (word_in p words) (shown old) (shown next) n.place (driver p n.place)
    value_stays n had inputs = gives_same p turn inputs (word_in p words) (shown old) (shown new) (shown next) n.place (free n had)

    here_done : get_or next m.place false ≡ driver_value p turn (shown start).net (word_in p words) (shown old) (shown next) m.place (driver p m.place)
    here_done =
        get_or-set_same new m.place value false in_table
        ∙ value_stays m (now (Net m) at) (shown new).net
        ∙ same_inputs p turn (shown new).net (shown start).net (word_in p words) (shown old) (shown next) m.place (driver p m.place) (h.kept m (not_yet (Net m) at))

    earlier_done : (n : NetId) → HadTurn order count (Net n) → get_or next n.place false ≡ driver_value p turn (shown start).net (word_in p words) (shown old) (shown next) n.place (driver p n.place)
    earlier_done n had =
        sym (stays n (λ same. not_yet (Net m) at (subst (λ (c : NetId). HadTurn order count (Net c)) (same_net n m same) had)))
        ∙ h.done n had
        ∙ value_stays n (later (Net n) had) (shown start).net

    done_next : (n : NetId) → HadTurn order (count + 1) (Net n) → get_or next n.place false ≡ driver_value p turn (shown start).net (word_in p words) (shown old) (shown next) n.place (driver p n.place)
    done_next n had = elim (split (Net m) (Net n) at had) [
      | inl same ↦
          let net : m ≡ n = cc in
          subst (λ (c : NetId). get_or next c.place false ≡ driver_value p turn (shown start).net (word_in p words) (shown old) (shown next) c.place (driver p c.place)) net here_done
      | inr before ↦ earlier_done n before
    ]

    write_before : (l : MemId) (i : ℕ) → HadTurn order (count + 1) (Write l i) → HadTurn order count (Write l i)
    write_before l i had = elim (split (Net m) (Write l i) at had) [
      | inl same ↦ absurd (differs same)
      | inr before ↦ before
    ]
      where
        differs : Net m ≡ Write l i → ⊥
        differs e = cc

    stands_next : (l : MemId) (ports a : ℕ) (memory : Memory) → slice_get p.memories l.place ≡ Some memory → ports ≤ length memory.writes → a < 2 ^ memory.address_bits → ArePorts order (count + 1) l ports
        → word_in p words l.place a ≡ written_in turn (shown old) (shown next) (take ports memory.writes) a (word_in p begun l.place a)
    stands_next l ports a memory here few low had =
        h.stands l ports a memory here few low (record { all = λ i less. write_before l i (had.all i less); only = λ i turn. had.only i (later (Write l i) turn) })
        ∙ written_clocks turn (shown old) (shown new) (shown next) (take ports memory.writes) a (word_in p begun l.place a)
        (λ j port in_port.
        let taken : j < length (take ports memory.writes) = slice_get_within (take ports memory.writes) j port in_port in
        let less : j < ports = omega (arith, length-take-le ports memory.writes few) in
        clock_stays l j memory port here (taken_port memory.writes ports j port in_port) (had.all j less))

    net_passed : IsPassed p order turn old start begun (count + 1) next words
    net_passed =
        record {
          size = length-set new m.place value ∙ h.size;
          room = h.room;
          kept = λ n unmet.
              sym (stays n (λ same. unmet (subst (λ (c : NetId). HadTurn order (count + 1) (Net c)) (same_net m n (sym same)) (now (Net m) at))))
              ∙ h.kept n (λ had. unmet (later (Net n) had));
          done = done_next;
          stands = stands_next;
        }

  module _ (m : MemId) (k : ℕ) (at : slice_get order count ≡ Some (Write m k)) (rest : List ℕ) (store : HasStored p turn old new m.place k words rest) where
    node : IsNode p (Write m k)
    node = o.nodes count (Write m k) at

    abbrev memory : Memory
    memory = node.0

    abbrev port : WritePort
    port = get_or memory.writes k (record { clock = record { place = 0 }; rise = false; enable = record { net = record { place = 0 }; high = false }; address = []; feed = [] })

    in_port : slice_get memory.writes k ≡ Some port
    in_port = slice_get-get_or memory.writes k _ node.2

    other_stays : (l a : ℕ) → IsAddress p l a → (m.place ≡ l → ⊥) → word_in p words l a ≡ word_in p rest l a
    other_stays l a address differ =
        stored_other p d old new words h.room m.place k memory port node.1 in_port turn rest l a address differ (store memory port node.1 in_port)

    net_before : (n : NetId) → HadTurn order (count + 1) (Net n) → HadTurn order count (Net n)
    net_before n had = elim (split (Write m k) (Net n) at had) [
      | inl same ↦ absurd (not_net m k n (ap Some same))
      | inr before ↦ before
    ]

    -- a bit of a read port without a clock that had its turn is of another memory
    read_stays : (n : NetId) → HadTurn order count (Net n) → (l : MemId) (r b : ℕ) (other : Memory) (read : ReadPort) (a : ℕ) → driver p n.place ≡ Read l r b → slice_get p.memories l.place ≡ Some other → slice_get other.reads r ≡ Some read → read.clock ≡ None → a < 2 ^ other.address_bits → word_in p words l.place a ≡ word_in p rest l.place a
    read_stays n had l r b other read a e here in_read none low =
        other_stays l.place a (other, here, low) (λ same. not_needed (Write m k) (Net n) at (later (Net n) had) (needed same))
      where
        needed : m.place ≡ l.place → Contains (dependencies p (Net n)) (Write m k)
        needed same =
            let mine : other ≡ memory = same_Some other memory (sym here ∙ ap (slice_get p.memories) (sym same) ∙ node.1) in
            let writes : slice_get other.writes k ≡ Some port = ap (λ (x : Memory). slice_get x.writes k) mine ∙ in_port in
            subst (λ (x : MemId). Contains (dependencies p (Net n)) (Write x k)) (sym (same_mem m l same))
            (needs_writes p n.place l r b k other read port e here in_read none writes)

    done_still : (n : NetId) → HadTurn order (count + 1) (Net n) → get_or new n.place false ≡ driver_value p turn (shown start).net (word_in p rest) (shown old) (shown new) n.place (driver p n.place)
    done_still n had =
        h.done n (net_before n had)
        ∙ same_words p d turn (shown start).net (word_in p words) (word_in p rest) (shown old) (shown new) n.place (driver p n.place) (read_stays n (net_before n had))

    -- with this port, the first ports are just those up to it
    up_to : (ports : ℕ) → ports ≤ length memory.writes → ArePorts order (count + 1) m ports → ports ≡ k + 1
    up_to ports few had =
        let mine : k < ports = had.only k (now (Write m k) at) in
        elim (cases_lt (k + 1) ports) [
          | inl more ↦ absurd (beyond more)
          | inr most ↦ omega arith
        ]
      where
        beyond : k + 1 < ports → ⊥
        beyond more =
            let next : suc k < ports = omega arith in
            let within : suc k < length memory.writes = omega arith in
            not_needed (Write m k) (Write m (suc k)) at (had.all (suc k) next) (needs_before p m k memory node.1 within)

    fewer : (ports : ℕ) → ports ≡ k + 1 → ArePorts order (count + 1) m ports → ArePorts order count m k
    fewer ports same had =
        record {
          all = λ i less.
              let wider : i < ports = omega arith in
              elim (split (Write m k) (Write m i) at (had.all i wider)) [
                | inl here ↦ absurd (not_same i less here)
                | inr before ↦ before
              ];
          only = λ i turn.
              let low : i < ports = had.only i (later (Write m i) turn) in
              elim (cases_eq i k) [
                | inl here ↦ absurd (not_yet (Write m k) at (subst (λ (j : ℕ). HadTurn order count (Write m j)) here turn))
                | inr differ ↦ omega arith
              ];
        }
      where
        not_same : (i : ℕ) → i < k → Write m k ≡ Write m i → ⊥
        not_same i less e =
            let same : k ≡ i = cc in
            omega arith

    stands_own : (ports a : ℕ) → ports ≤ length memory.writes → a < 2 ^ memory.address_bits → ArePorts order (count + 1) m ports
        → word_in p rest m.place a ≡ written_in turn (shown old) (shown new) (take ports memory.writes) a (word_in p begun m.place a)
    stands_own ports a few low had =
        let same : ports ≡ k + 1 = up_to ports few had in
        let within : k ≤ length memory.writes = omega arith in
        stored_more p d old new words h.room m.place k memory port node.1 in_port turn rest a (word_in p begun m.place a) low (store memory port node.1 in_port)
        (h.stands m k a memory node.1 within low (fewer ports same had))
        ∙ ap (λ (j : ℕ). written_in turn (shown old) (shown new) (take j memory.writes) a (word_in p begun m.place a)) (sym same)

    stands_still : (l : MemId) (ports a : ℕ) (other : Memory) → slice_get p.memories l.place ≡ Some other → ports ≤ length other.writes → a < 2 ^ other.address_bits → ArePorts order (count + 1) l ports
        → word_in p rest l.place a ≡ written_in turn (shown old) (shown new) (take ports other.writes) a (word_in p begun l.place a)
    stands_still l ports a other here few low had = elim (cases_eq m.place l.place) [
      | inl same ↦
          let mem : m ≡ l = same_mem m l same in
          let mine : memory ≡ other = same_Some memory other (sym node.1 ∙ ap (slice_get p.memories) same ∙ here) in
          own mem mine
      | inr differ ↦
          sym (other_stays l.place a (other, here, low) differ)
          ∙ h.stands l ports a other here few low
          (record {
            all = λ i less. other_before differ i (had.all i less);
            only = λ i turn. had.only i (later (Write l i) turn);
          })
    ]
      where
        other_before : (m.place ≡ l.place → ⊥) → (i : ℕ) → HadTurn order (count + 1) (Write l i) → HadTurn order count (Write l i)
        other_before differ i turned = elim (split (Write m k) (Write l i) at turned) [
          | inl same ↦ absurd (differ (let mem : m ≡ l = cc in ap (λ (x : MemId). x.place) mem))
          | inr before ↦ before
        ]

        own : m ≡ l → memory ≡ other → word_in p rest l.place a ≡ written_in turn (shown old) (shown new) (take ports other.writes) a (word_in p begun l.place a)
        own mem mine =
            subst (λ (x : Memory). word_in p rest l.place a ≡ written_in turn (shown old) (shown new) (take ports x.writes) a (word_in p begun l.place a)) mine
            (subst (λ (x : MemId). word_in p rest x.place a ≡ written_in turn (shown old) (shown new) (take ports memory.writes) a (word_in p begun x.place a)) mem
            (stands_own ports a
            (subst (λ (x : Memory). ports ≤ length x.writes) (sym mine) few)
            (subst (λ (x : Memory). a < 2 ^ x.address_bits) (sym mine) low)
            (subst (λ (x : MemId). ArePorts order (count + 1) x ports) (sym mem) had)))

    write_passed : IsPassed p order turn old start begun (count + 1) new rest
    write_passed =
        record {
          size = h.size;
          room = stored_size p d old new words h.room m.place k memory port node.1 in_port turn rest (store memory port node.1 in_port);
          kept = λ n unmet. h.kept n (λ had. unmet (later (Net n) had));
          done = done_still;
          stands = stands_still;
        }

  -- one more node has its turn
  pub one_passed : (a : NodeId) (after : List Bool) (rest : List ℕ) → slice_get order count ≡ Some a → HasRenewed p turn old a new words after rest → IsPassed p order turn old start begun (count + 1) after rest
  one_passed (Net m) after rest at e =
      subst (λ (xs : List Bool). IsPassed p order turn old start begun (count + 1) xs rest) (sym e.0)
      (subst (IsPassed p order turn old start begun (count + 1) (next m at)) (sym e.1) (net_passed m at))
  one_passed (Write m k) after rest at e =
      subst (λ (xs : List Bool). IsPassed p order turn old start begun (count + 1) xs rest) (sym e.0) (write_passed m k at rest e.1)

pub all_passed : (p : Parts) (order : List NodeId) (turn : Turn) (old start : List Bool) (begun : List ℕ) (new : List Bool) (words : List ℕ) → IsOrder p order → IsPassed p order turn old start begun (length order) new words → AreRenewed p turn old start begun new words
all_passed p order turn old start begun new words o h =
    record {
      size = h.size;
      room = h.room;
      nets = λ n small. h.done (record { place = n }) (had (Net (record { place = n })) small);
      words = λ m a memory at low.
          h.stands (record { place = m }) (length memory.writes) a memory at (omega arith) low
          (record {
            all = λ i less. had (Write (record { place = m }) i) (memory, at, less);
            only = λ i turned.
                let node : IsNode p (Write (record { place = m }) i) = o.nodes turned.place (Write (record { place = m }) i) turned.at in
                let same : node.0 ≡ memory = same_Some node.0 memory (sym node.1 ∙ at) in
                subst (λ (x : Memory). i < length x.writes) same node.2;
          })
          ∙ ap (λ ports. written_in turn (shown old) (shown new) ports a (word_in p begun m a)) (take-length memory.writes);
    }
  where
    had : (a : NodeId) → IsNode p a → HadTurn order (length order) a
    had a node =
        let has : Contains order a = o.all a node in
        record { place = has.0; low = has.1; at = slice_get-get_or order has.0 a has.1 ∙ ap Some has.2 }
