-- Offered to the crates above: nodes and their numbers.
use Rattle.std.proofs.Common.{◌≡◌, ◌<◌, ◌≤◌, ◌+◌, ◌-◌, ℕ, zero, suc, List, [], ◌∷◌, ◌++◌, Some, map, length, get_or, take, refl, ap, sym, ◌∙◌, subst, arith, ◌⊎◌, inl, inr, length-append, append_assoc}
use Rattle.std.specs.Prelude.{slice_get}
use Rattle.std.specs.List.{range_with_len, enumerate_from}
use Rattle.std.proofs.lemmas.Bool.{cases_lt, cases_order}
use Rattle.std.proofs.lemmas.List.{get_or_append_left, get_or-append-add, get_or-append_right, append-nil}
use Rattle.std.proofs.lemmas.List.FromFn.{length-map-range_with_len, get_or-map-range_with_len}
use Rattle.id_arena.specs.declared.keys.MemId.{MemId}
use Rattle.design_core.specs.declared.element.Memory.{Memory}
use Rattle.design_core.specs.declared.element.WritePort.{WritePort}
use Rattle.design_core.specs.declared.node.NodeId.{NodeId}
use Rattle.design_core.specs.declared.node.NodeId.TheVariants.{Net, Write}
use Rattle.design_core.specs.declared.parts.Parts.{Parts}
use Rattle.design_core.specs.Design.{net_count}
use Rattle.design_core.specs.Dependency.{IsNode, Precedes, write_nodes}
use Rattle.clock_rank.specs.Numbers.{net_node, port_nodes, memory_nodes, all_nodes, writes_before, first_write, number_of, node_at}
use Rattle.clock_rank.proofs.Counting.{before_more, before_grows}

-- the write nodes of a memory by its ports, and by their number
write_nodes_from : (m : MemId) (n : ℕ) (ports : List WritePort)
    → map (λ (k, port). Write m k) (enumerate_from n ports) ≡ map (Write m) (range_with_len n (length ports))
write_nodes_from m n [] = refl
write_nodes_from m n (port ∷ ports) = ap (λ rest. Write m n ∷ rest) (write_nodes_from m (n + 1) ports)

pub write_nodes_are : (m : MemId) (memory : Memory) → write_nodes m memory ≡ port_nodes m.place (length memory.writes)
write_nodes_are m memory = write_nodes_from m 0 memory.writes

pub port_count : (m n : ℕ) → length (port_nodes m n) ≡ n
port_count m n = length-map-range_with_len (Write (record { place = m })) 0 n

pub memory_count : (m : ℕ) (ms : List Memory) → length (memory_nodes m ms) ≡ writes_before (length ms) ms
memory_count m [] = refl
memory_count m (x ∷ ms) =
    let e = length-append (port_nodes m (length x.writes)) (memory_nodes (m + 1) ms) in
    let f = port_count m (length x.writes) in
    let g = memory_count (m + 1) ms in
    omega arith

pub net_nodes_count : (p : Parts) → length (map net_node (range_with_len 0 (net_count p))) ≡ net_count p
net_nodes_count p = length-map-range_with_len net_node 0 (net_count p)

pub node_count : (p : Parts) → length (all_nodes p) ≡ first_write p (length p.memories)
node_count p =
    let e = length-append (map net_node (range_with_len 0 (net_count p))) (memory_nodes 0 p.memories) in
    let f = net_nodes_count p in
    let g = memory_count 0 p.memories in
    omega arith

-- the write nodes of one memory more
pub nodes_more : (ms : List Memory) (m i n : ℕ) (memory : Memory) → slice_get ms i ≡ Some memory → m + i ≡ n
    → memory_nodes m (take (suc i) ms) ≡ memory_nodes m (take i ms) ++ port_nodes n (length memory.writes)
nodes_more [] m i n memory at is = absurd (cc)
nodes_more (x ∷ ms) m zero n memory at is =
    let same : x ≡ memory = cc in
    let here : m ≡ n = omega arith in
    rw (same, here) (append-nil (port_nodes n (length memory.writes)))
nodes_more (x ∷ ms) m (suc i) n memory at is =
    let rest = nodes_more ms (m + 1) i n memory at (omega arith) in
    rw rest (sym (append_assoc (port_nodes m (length x.writes)) (memory_nodes (m + 1) (take i ms)) (port_nodes n (length memory.writes))))

-- a place among the write nodes
record IsWriteAt (ms : List Memory) (m j : ℕ) (a : NodeId) : Type 0 where
  at : ℕ
  port : ℕ
  memory : Memory
  there : slice_get ms at ≡ Some memory
  within : port < length memory.writes
  node : a ≡ Write (record { place = m + at }) port
  place : writes_before at ms + port ≡ j

write_at : (ms : List Memory) (m j : ℕ) (d : NodeId) → j < length (memory_nodes m ms) → IsWriteAt ms m j (get_or (memory_nodes m ms) j d)
write_at [] m j d below = absurd (omega arith)
write_at (x ∷ ms) m j d below = go (λ (i : ℕ) (h : i < length (memory_nodes (m + 1) ms)). write_at ms (m + 1) i d h) (cases_lt j (length x.writes))
  where
    later : ((i : ℕ) → i < length (memory_nodes (m + 1) ms) → IsWriteAt ms (m + 1) i (get_or (memory_nodes (m + 1) ms) i d))
        → (i : ℕ) → i < length (memory_nodes (m + 1) ms) → length x.writes + i ≡ j → IsWriteAt (x ∷ ms) m j (get_or (memory_nodes m (x ∷ ms)) j d)
    later deep i here is =
        let rest = deep i here in
        let size = port_count m (length x.writes) in
        let far : length (port_nodes m (length x.writes)) + i ≡ j = omega arith in
        let shift : m + 1 + rest.at ≡ m + suc rest.at = omega arith in
        let count = rest.place in
        record {
          at = suc rest.at;
          port = rest.port;
          memory = rest.memory;
          there = rest.there;
          within = rest.within;
          node = ap (λ n. get_or (memory_nodes m (x ∷ ms)) n d) (sym far)
              ∙ get_or-append-add (port_nodes m (length x.writes)) (memory_nodes (m + 1) ms) i d
              ∙ rest.node ∙ ap (λ n. Write (record { place = n }) rest.port) shift;
          place = omega arith;
        }

    go : ((i : ℕ) → i < length (memory_nodes (m + 1) ms) → IsWriteAt ms (m + 1) i (get_or (memory_nodes (m + 1) ms) i d))
        → (j < length x.writes) ⊎ (length x.writes ≤ j) → IsWriteAt (x ∷ ms) m j (get_or (memory_nodes m (x ∷ ms)) j d)
    go deep (inl before) =
        let zero_more : m + 0 ≡ m = omega arith in
        record {
          at = 0;
          port = j;
          memory = x;
          there = refl;
          within = before;
          node = get_or_append_left (port_nodes m (length x.writes)) (memory_nodes (m + 1) ms) d j (let e = port_count m (length x.writes) in omega arith)
              ∙ get_or-map-range_with_len (Write (record { place = m })) 0 (length x.writes) j j d before (omega arith)
              ∙ ap (λ n. Write (record { place = n }) j) (sym zero_more);
          place = omega arith;
        }
    go deep (inr past) =
        let e = length-append (port_nodes m (length x.writes)) (memory_nodes (m + 1) ms) in
        let f = port_count m (length x.writes) in
        later deep (j - length x.writes) (omega arith) (omega arith)

at_write : (ms : List Memory) (m e k : ℕ) (memory : Memory) (d : NodeId) → slice_get ms e ≡ Some memory → k < length memory.writes
    → (writes_before e ms + k < length (memory_nodes m ms)) × (get_or (memory_nodes m ms) (writes_before e ms + k) d ≡ Write (record { place = m + e }) k)
at_write [] m e k memory d at below = absurd (cc)
at_write (x ∷ ms) m zero k memory d at below =
    let same : x ≡ memory = cc in
    let here : k < length x.writes = rw same below in
    let size = length-append (port_nodes m (length x.writes)) (memory_nodes (m + 1) ms) in
    let ports = port_count m (length x.writes) in
    let zero_more : m + 0 ≡ m = omega arith in
    let start : 0 + k ≡ k = omega arith in (
      omega arith,
      ap (λ n. get_or (memory_nodes m (x ∷ ms)) n d) start
          ∙ get_or_append_left (port_nodes m (length x.writes)) (memory_nodes (m + 1) ms) d k (omega arith)
          ∙ get_or-map-range_with_len (Write (record { place = m })) 0 (length x.writes) k k d here (omega arith)
          ∙ ap (λ n. Write (record { place = n }) k) (sym zero_more),
    )
at_write (x ∷ ms) m (suc e) k memory d at below =
    let rest = at_write ms (m + 1) e k memory d at below in
    let low = rest.0 in
    let size = length-append (port_nodes m (length x.writes)) (memory_nodes (m + 1) ms) in
    let ports = port_count m (length x.writes) in
    let far : length x.writes + writes_before e ms + k ≡ length (port_nodes m (length x.writes)) + (writes_before e ms + k) = omega arith in
    let shift : m + 1 + e ≡ m + suc e = omega arith in (
      omega arith,
      ap (λ n. get_or (memory_nodes m (x ∷ ms)) n d) far
          ∙ get_or-append-add (port_nodes m (length x.writes)) (memory_nodes (m + 1) ms) (writes_before e ms + k) d
          ∙ rest.1 ∙ ap (λ n. Write (record { place = n }) k) shift,
    )

module _ (p : Parts) where
  net_at : (n : ℕ) → n < net_count p → node_at p n ≡ net_node n
  net_at n below =
      let e = net_nodes_count p in
      get_or_append_left (map net_node (range_with_len 0 (net_count p))) (memory_nodes 0 p.memories) (net_node 0) n (omega arith)
      ∙ get_or-map-range_with_len net_node 0 (net_count p) n n (net_node 0) below (omega arith)

  -- each number is that of a node
  pub at_number : (n : ℕ) → n < length (all_nodes p) → IsNode p (node_at p n) × (number_of p (node_at p n) ≡ n)
  at_number n below = go (cases_lt n (net_count p))
    where
      go : (n < net_count p) ⊎ (net_count p ≤ n) → IsNode p (node_at p n) × (number_of p (node_at p n) ≡ n)
      go (inl net) = subst (λ a. IsNode p a × (number_of p a ≡ n)) (sym (net_at n net)) (net, refl)
      go (inr past) =
          let size = net_nodes_count p in
          let all = length-append (map net_node (range_with_len 0 (net_count p))) (memory_nodes 0 p.memories) in
          let w = write_at p.memories 0 (n - net_count p) (net_node 0) (omega arith) in
          let at : node_at p n ≡ get_or (memory_nodes 0 p.memories) (n - net_count p) (net_node 0) =
          get_or-append_right (map net_node (range_with_len 0 (net_count p))) (memory_nodes 0 p.memories) (net_count p) n (net_node 0) size past in
          let same : 0 + w.at ≡ w.at = omega arith in
          let is : node_at p n ≡ Write (record { place = w.at }) w.port = at ∙ w.node ∙ ap (λ i. Write (record { place = i }) w.port) same in
          let place = w.place in
          subst (λ a. IsNode p a × (number_of p a ≡ n)) (sym is) ((w.memory, w.there, w.within), omega arith)

  -- each node stands at its number
  pub number_at : (a : NodeId) → IsNode p a → (number_of p a < length (all_nodes p)) × (node_at p (number_of p a) ≡ a)
  number_at (Net n) below =
      let all = length-append (map net_node (range_with_len 0 (net_count p))) (memory_nodes 0 p.memories) in
      let size = net_nodes_count p in
      (omega arith, net_at n.place below)
  number_at (Write m k) (memory, there, within) =
      let w = at_write p.memories 0 m.place k memory (net_node 0) there within in
      let low = w.0 in
      let all = length-append (map net_node (range_with_len 0 (net_count p))) (memory_nodes 0 p.memories) in
      let size = net_nodes_count p in
      let far : first_write p m.place + k ≡ length (map net_node (range_with_len 0 (net_count p))) + (writes_before m.place p.memories + k) = omega arith in
      let same : 0 + m.place ≡ m.place = omega arith in (
        omega arith,
        ap (node_at p) far
            ∙ get_or-append-add (map net_node (range_with_len 0 (net_count p))) (memory_nodes 0 p.memories) (writes_before m.place p.memories + k) (net_node 0)
            ∙ w.1 ∙ ap (λ i. Write (record { place = i }) k) same,
      )

  -- numbers tell the order of nodes
  pub precedes_from : (a b : NodeId) → IsNode p a → IsNode p b → number_of p a < number_of p b → Precedes a b
  precedes_from (Net n) (Net m) here there below = below
  precedes_from (Net n) (Write m k) here there below = tt
  precedes_from (Write m k) (Net n) here there below = omega arith
  precedes_from (Write m k) (Write l j) (memory, at, within) (other, at-2, within-2) below = go (cases_order m.place l.place)
    where
      go : (m.place ≡ l.place) ⊎ ((m.place < l.place) ⊎ (l.place < m.place)) → (m.place < l.place) ⊎ ((m.place ≡ l.place) × (k < j))
      go (inl same) =
          let e : first_write p m.place ≡ first_write p l.place = ap (first_write p) same in
          inr (same, omega arith)
      go (inr (inl less)) = inl less
      go (inr (inr more)) =
          let next = before_more p.memories l.place other at-2 in
          let grown = before_grows p.memories (suc l.place) m.place more in
          absurd (omega arith)

  pub same_number : (a b : NodeId) → IsNode p a → IsNode p b → number_of p a ≡ number_of p b → a ≡ b
  same_number a b here there same = sym (number_at a here).1 ∙ ap (node_at p) same ∙ (number_at b there).1
