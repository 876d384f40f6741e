-- Steps of the loops that number nodes and collect their needs.
use Rattle.std.proofs.Common.{◌≡◌, ◌<◌, ◌≤◌, ◌+◌, ◌-◌, ◌⊎◌, inl, inr, ℕ, zero, suc, List, [], ◌∷◌, ◌++◌, Some, None, Option, map, length, get_or, take, refl, ap, sym, ◌∙◌, arith, append_assoc, length-append}
use Rattle.std.specs.Prelude.{slice_get, option_to_list}
use Rattle.std.specs.List.{range_with_len}
use Rattle.std.proofs.lemmas.List.{append-nil, map-append, get_or_append_left, get_or_push, length-map, length-take-le}
use Rattle.std.proofs.lemmas.List.FromFn.{map-range_with_len_more}
use Rattle.std.proofs.lemmas.Bool.{cases_lt}
use Rattle.std.proofs.lemmas.Option.{slice_get_within}
use Rattle.id_arena.specs.declared.keys.NetId.{NetId}
use Rattle.id_arena.specs.declared.keys.MemId.{MemId}
use Rattle.id_arena.specs.declared.keys.ElemId.{ElemId}
use Rattle.design_core.specs.declared.element.Edge.{Edge}
use Rattle.design_core.specs.declared.element.Element.{Element}
use Rattle.design_core.specs.declared.element.Level.{Level}
use Rattle.design_core.specs.declared.element.Memory.{Memory}
use Rattle.design_core.specs.declared.element.ReadPort.{ReadPort}
use Rattle.design_core.specs.declared.element.WritePort.{WritePort}
use Rattle.design_core.specs.declared.element.Driver.{Driver}
use Rattle.design_core.specs.declared.element.Driver.TheVariants.{Constant, Input, Elem, Read}
use Rattle.design_core.specs.declared.node.NodeId.{NodeId}
use Rattle.design_core.specs.declared.node.NodeId.TheVariants.{Net, Write}
use Rattle.design_core.specs.declared.parts.Parts.{Parts}
use Rattle.design_core.specs.Design.{IsDesign, driver, reset_nets}
use Rattle.design_core.specs.Limits.{IsWithin}
use Rattle.history_law.specs.Drivers.{DriverIsElement, DriverIsReadBit}
use Rattle.design_core.specs.Dependency.{IsNode, needs, needs_at, driver_needs, port_needs, read_needs, read_needs_at, write_nodes, write_before, write_needs, write_needs_at}
use Rattle.clock_rank.specs.Numbers.{net_node, port_nodes, memory_nodes, all_nodes, first_write, number_of, row_of, AreStarts, IsThere}
use Rattle.clock_rank.proofs.Counting.{before_more, few_nodes, start_fits}
use Rattle.clock_rank.proofs.Numbering.{at_number, node_count, nodes_more, write_nodes_are}

-- one more of a list that is built by number
pub range_more : {X : Type 0} (f : ℕ → X) (first old new : List X) (n : ℕ) (x : X) → old ≡ first ++ map f (range_with_len 0 n) → new ≡ old ++ x ∷ [] → x ≡ f n
    → new ≡ first ++ map f (range_with_len 0 (n + 1))
range_more f first old new n x is pushed at =
    let more = map-range_with_len_more f 0 n n (omega arith) in
    rw (pushed, is, at, more) (append_assoc first (map f (range_with_len 0 n)) (f n ∷ []))

pub range_none : {X : Type 0} (f : ℕ → X) (first : List X) → first ≡ first ++ map f (range_with_len 0 0)
range_none f first = sym (append-nil first)

-- the numbers of nets, and of write nodes
pub net_numbers : (p : Parts) (nets : List NetId) → map (number_of p) (map Net nets) ≡ map (λ (n : NetId). n.place) nets
net_numbers p [] = refl
net_numbers p (n ∷ nets) = ap (λ rest. n.place ∷ rest) (net_numbers p nets)

write_numbers : (p : Parts) (m : MemId) (a n : ℕ) → map (number_of p) (map (Write m) (range_with_len a n)) ≡ map (λ k. first_write p m.place + k) (range_with_len a n)
write_numbers p m a zero = refl
write_numbers p m a (suc n) = ap (λ rest. (first_write p m.place + a) ∷ rest) (write_numbers p m (a + 1) n)

pub read_row : (p : Parts) (m : MemId) (memory : Memory) (port : ReadPort)
    → map (number_of p) (map Net port.address ++ write_nodes m memory)
    ≡ map (λ (n : NetId). n.place) port.address ++ map (λ k. first_write p m.place + k) (range_with_len 0 (length memory.writes))
read_row p m memory port =
    rw (map-append (number_of p) (map Net port.address) (write_nodes m memory), net_numbers p port.address, write_nodes_are m memory)
    (ap (λ rest. map (λ (n : NetId). n.place) port.address ++ rest) (write_numbers p m 0 (length memory.writes)))

-- what a read bit depends on, where the memory and the port are there and have a clock or have none
pub read_needs_is : (p : Parts) (m : MemId) (r b : ℕ) (memory : Memory) (port : ReadPort) (clock : Option Edge)
    → slice_get p.memories m.place ≡ Some memory → slice_get memory.reads r ≡ Some port → port.clock ≡ clock
    → driver_needs p (Read m r b) ≡ port_needs m memory port.address clock
read_needs_is p m r b memory port clock at in_port is =
    ap (λ o. read_needs_at m o r) at ∙ ap (read_needs m memory) in_port ∙ ap (port_needs m memory port.address) is

-- the resets that are there
pub reset_numbers : (clear preset : Option Level)
    → map (λ (n : NetId). n.place) (reset_nets clear preset)
    ≡ map (λ (l : Level). l.net.place) (option_to_list clear) ++ map (λ (l : Level). l.net.place) (option_to_list preset)
reset_numbers None None = refl
reset_numbers None (Some b) = refl
reset_numbers (Some a) None = refl
reset_numbers (Some a) (Some b) = refl

-- the nodes of one memory more
pub nodes_step : (ms : List Memory) (first old new : List NodeId) (m n : ℕ) (memory : Memory) → slice_get ms m ≡ Some memory
    → old ≡ first ++ memory_nodes 0 (take m ms) → new ≡ old ++ port_nodes m n → n ≡ length memory.writes
    → new ≡ first ++ memory_nodes 0 (take (m + 1) ms)
nodes_step ms first old new m n memory at is added count =
    let e : m + 1 ≡ suc m = omega arith in
    let more = nodes_more ms 0 m m memory at (omega arith) in
    rw (added, is, count, e, more) (append_assoc first (memory_nodes 0 (take m ms)) (port_nodes m (length memory.writes)))

-- the start of one memory more
pub start_step : (p : Parts) (m next count : ℕ) (memory : Memory) → slice_get p.memories m ≡ Some memory
    → next ≡ first_write p m → count ≡ length memory.writes → next + count ≡ first_write p (m + 1)
start_step p m next count memory at is size =
    let e : m + 1 ≡ suc m = omega arith in
    let more = before_more p.memories m memory at in
    rw e (omega arith)

pub start_room : (p : Parts) (n : ℕ) (starts : List ℕ) → AreStarts p n starts → (m next count : ℕ) (memory : Memory) → slice_get p.memories m ≡ Some memory
    → next ≡ first_write p m → count ≡ length memory.writes → next + count ≤ 4294967295
start_room p n starts s m next count memory at is size = let h = start_fits p n starts s m memory at in omega arith

-- where the write nodes of a memory begin
pub start_is : (p : Parts) (starts : List ℕ) → AreStarts p (length p.memories) starts → (m n : ℕ) (memory : Memory) → slice_get p.memories m ≡ Some memory → n ≡ m
    → get_or starts n 0 ≡ first_write p m
start_is p starts s m n memory at same = rw same (s.each m (slice_get_within p.memories m memory at))

-- the needs of a bit of a port without a clock were added
pub read_added : (p : Parts) (m : MemId) (r b : ℕ) (memory : Memory) (port : ReadPort)
    → slice_get p.memories m.place ≡ Some memory → slice_get memory.reads r ≡ Some port → port.clock ≡ None
    → (old new : List ℕ) (start count : ℕ) → start ≡ first_write p m.place → count ≡ length memory.writes
    → new ≡ old ++ map (λ (n : NetId). n.place) port.address ++ map (λ k. start + k) (range_with_len 0 count)
    → new ≡ old ++ map (number_of p) (driver_needs p (Read m r b))
read_added p m r b memory port at in_port none old new start count s c added =
    let both : new ≡ old ++ (map (λ (n : NetId). n.place) port.address ++ map (λ k. first_write p m.place + k) (range_with_len 0 (length memory.writes))) =
    rw (added, s, c) (append_assoc old (map (λ (n : NetId). n.place) port.address) (map (λ k. first_write p m.place + k) (range_with_len 0 (length memory.writes)))) in
    both ∙ ap (λ xs. old ++ xs) (sym (read_row p m memory port)) ∙ ap (λ xs. old ++ map (number_of p) xs) (sym (read_needs_is p m r b memory port None at in_port none))

-- the needs of a bit of a port with a clock were added
pub clocked_added : (p : Parts) (m : MemId) (r b : ℕ) (memory : Memory) (port : ReadPort) (edge : Edge)
    → slice_get p.memories m.place ≡ Some memory → slice_get memory.reads r ≡ Some port → port.clock ≡ Some edge
    → (old new : List ℕ) → new ≡ old ++ edge.net.place ∷ []
    → new ≡ old ++ map (number_of p) (driver_needs p (Read m r b))
clocked_added p m r b memory port edge at in_port is old new added =
    added ∙ ap (λ xs. old ++ map (number_of p) xs) (sym (read_needs_is p m r b memory port (Some edge) at in_port is))

-- the needs of an element were added
pub element_added : (p : Parts) (driver : Driver) (id : ElemId) (e : Element) → driver ≡ Elem id → slice_get p.elements id.place ≡ Some e
    → (old new : List ℕ) → new ≡ old ++ map (λ (n : NetId). n.place) (needs e)
    → new ≡ old ++ map (number_of p) (driver_needs p driver)
element_added p driver id e is at old new added =
    let same : driver_needs p driver ≡ map Net (needs e) = ap (driver_needs p) is ∙ ap (λ o. map Net (needs_at o)) at in
    added ∙ ap (λ xs. old ++ xs) (sym (net_numbers p (needs e))) ∙ ap (λ xs. old ++ map (number_of p) xs) (sym same)

-- the needs of a write node were added
pub write_row : (p : Parts) (m : MemId) (k : ℕ) (memory : Memory) (port : WritePort)
    → slice_get p.memories m.place ≡ Some memory → slice_get memory.writes k ≡ Some port
    → row_of p (Write m k) ≡ port.clock.place ∷ map (number_of p) (write_before m k)
write_row p m k memory port at in_port =
    ap (map (number_of p)) (ap (write_needs_at m k) at ∙ ap (write_needs m k) in_port)

pub write_added : (p : Parts) (m : MemId) (k : ℕ) (memory : Memory) (port : WritePort)
    → slice_get p.memories m.place ≡ Some memory → slice_get memory.writes k ≡ Some port
    → (old mid new : List ℕ) (start : ℕ) → start ≡ first_write p m.place → (k ≡ 0 → ⊥)
    → mid ≡ old ++ port.clock.place ∷ [] → new ≡ mid ++ (start + (k - 1)) ∷ []
    → new ≡ old ++ row_of p (Write m k)
write_added p m zero memory port at in_port old mid new start s more is added = absurd (more refl)
write_added p m (suc k) memory port at in_port old mid new start s more is added =
    let row = write_row p m (suc k) memory port at in_port in
    let less : suc k - 1 ≡ k = omega arith in
    let both : new ≡ old ++ (port.clock.place ∷ (first_write p m.place + k) ∷ []) =
    rw (added, is, s, less) (append_assoc old (port.clock.place ∷ []) ((first_write p m.place + k) ∷ [])) in
    both ∙ ap (λ xs. old ++ xs) (sym row)

pub first_write_added : (p : Parts) (m : MemId) (k : ℕ) (memory : Memory) (port : WritePort)
    → slice_get p.memories m.place ≡ Some memory → slice_get memory.writes k ≡ Some port
    → (old new : List ℕ) → k ≡ 0 → new ≡ old ++ port.clock.place ∷ [] → new ≡ old ++ row_of p (Write m k)
first_write_added p m zero memory port at in_port old new none added =
    added ∙ ap (λ xs. old ++ xs) (sym (write_row p m 0 memory port at in_port))
first_write_added p m (suc k) memory port at in_port old new none added = absurd (omega arith)

-- what drives a net is there
pub driver_there : DriverIsElement → DriverIsReadBit → (p : Parts) (n : ℕ) (d : Driver) → d ≡ driver p n → IsThere p d
driver_there element read p n (Constant b) is = tt
driver_there element read p n Input is = tt
driver_there element read p n (Elem e) is =
    let h = element p n e (sym is) in slice_get_within p.elements e.place h.0 h.1
driver_there element read p n (Read m r b) is =
    let h = read p n m r b (sym is) in (h.0, h.1, h.3, h.4)

-- the node at a place of the list of all nodes
pub node_there : (p : Parts) (nodes : List NodeId) → nodes ≡ all_nodes p → (i : ℕ) → i < length nodes → IsNode p (get_or nodes i (net_node 0))
node_there p nodes is i below =
    let size : length nodes ≡ length (all_nodes p) = ap length is in
    rw is (at_number p i (omega arith)).0

-- there is room for one row more
pub row_room : (p : Parts) (starts : List ℕ) (count : ℕ) → AreStarts p count starts → (nodes : List NodeId) → nodes ≡ all_nodes p
    → (graph : List (List ℕ)) (f : NodeId → List ℕ) (i : ℕ) → i < length nodes → graph ≡ map f (take i nodes) → length graph < 4294967295
row_room p starts count s nodes is graph f i below same =
    let size : length nodes ≡ length (all_nodes p) = ap length is in
    let all = node_count p in
    let small = s.small in
    let rows : length graph ≡ length (take i nodes) = ap length same ∙ length-map (take i nodes) f in
    let few = length-take-le i nodes (omega arith) in
    omega arith

-- the starts, one more each time
pub starts_none : (p : Parts) → IsDesign p → IsWithin p → AreStarts p 0 []
starts_none p d w = record {
  size = refl;
  small = let few = few_nodes p (length p.memories) d w in omega arith;
  each = λ m below. absurd (omega arith);
}

pub starts_more : (p : Parts) (m next : ℕ) (old new : List ℕ) → AreStarts p m old → next ≡ first_write p m → new ≡ old ++ next ∷ [] → AreStarts p (m + 1) new
starts_more p m next old new s is pushed = rw pushed (record {
  size = let e = length-append old (next ∷ []) in let f = s.size in omega arith;
  small = s.small;
  each = λ i below. go i below (cases_lt i m);
})
  where
    go : (i : ℕ) → i < m + 1 → (i < m) ⊎ (m ≤ i) → get_or (old ++ next ∷ []) i 0 ≡ first_write p i
    go i below (inl before) = get_or_append_left old (next ∷ []) 0 i (let e = s.size in omega arith) ∙ s.each i before
    go i below (inr past) =
        let last : m ≡ i = omega arith in
        let size : length old ≡ i = let e = s.size in omega arith in
        get_or_push old next 0 i size ∙ is ∙ ap (first_write p) last
