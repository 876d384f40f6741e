-- Offered to the crates above: what a node depends on is in the design.
use Rattle.std.proofs.Common.{◌≡◌, ℕ, zero, suc, ◌+◌, ◌<◌, arith, Bool, true, false, List, [], ◌∷◌, ◌++◌, map, length, refl, subst, ap}
use Rattle.std.specs.Prelude.{◌||◌, Option, Some, None, Contains, slice_get, flat_map}
use Rattle.std.specs.List.{list_any, enumerate_from}
use Rattle.std.proofs.lemmas.Option.{none-some, same_Some}
use Rattle.id_arena.specs.declared.keys.NetId.{NetId}
use Rattle.id_arena.specs.declared.keys.MemId.{MemId}
use Rattle.design_core.specs.declared.element.Edge.{Edge}
use Rattle.design_core.specs.declared.element.Element.{Element}
use Rattle.design_core.specs.declared.element.Element.TheVariants as element
use Rattle.design_core.specs.declared.element.Memory.{Memory}
use Rattle.design_core.specs.declared.element.ReadPort.{ReadPort}
use Rattle.design_core.specs.declared.element.WritePort.{WritePort}
use Rattle.design_core.specs.declared.element.Driver.{Driver}
use Rattle.design_core.specs.declared.element.Driver.TheVariants.{Constant, Input, Elem, Read}
use Rattle.design_core.specs.declared.node.NodeId.{NodeId}
use Rattle.design_core.specs.declared.node.NodeId.TheVariants.{Net, Write}
use Rattle.design_core.specs.declared.parts.Parts.{Parts}
use Rattle.design_core.specs.Design.{IsDesign, net_count, driver, includes, is_net, nets_read, element_reads, memory_reads, write_reads, read_reads, clock_nets, port_bits}
use Rattle.design_core.specs.Dependency.{dependencies, driver_needs, needs, needs_at, port_needs, read_needs, read_needs_at, write_nodes, write_needs, write_needs_at, write_before, above}
use Rattle.facts.proofs.Tests.{no, same_number}

-- ## Each node of a list

abbrev pub Each : (NodeId → Type 0) → List NodeId → Type 0
Each P [] = Unit {0}
Each P (a ∷ rest) = P a × Each P rest

here : (a : NodeId) (rest : List NodeId) → Contains (a ∷ rest) a
here a rest = let low : 0 < length (a ∷ rest) = omega arith in (0, low, refl)

there : (a b : NodeId) (rest : List NodeId) → Contains rest b → Contains (a ∷ rest) b
there a b rest c =
    let low : c.0 < length rest = c.1 in
    let more : suc c.0 < length (a ∷ rest) = omega arith in
    (suc c.0, more, c.2)

pub each_of : (P : NodeId → Type 0) (nodes : List NodeId) → ((b : NodeId) → Contains nodes b → P b) → Each P nodes
each_of P [] h = tt
each_of P (a ∷ rest) h = (h a (here a rest), each_of P rest (λ b c. h b (there a b rest c)))

pub each_in : (P : NodeId → Type 0) (nodes : List NodeId) (b : NodeId) → Each P nodes → Contains nodes b → P b
each_in P [] b h (k, low, at) = absurd (omega arith)
each_in P (a ∷ rest) b h (zero, low, at) = subst P at h.0
each_in P (a ∷ rest) b h (suc k, low, at) = let less : k < length rest = omega arith in each_in P rest b h.1 (k, less, at)

pub each_both : (P : NodeId → Type 0) (xs ys : List NodeId) → Each P xs → Each P ys → Each P (xs ++ ys)
each_both P [] ys h g = g
each_both P (x ∷ xs) ys h g = (h.0, each_both P xs ys h.1 g)

pub each_left : (P : NodeId → Type 0) (xs ys : List NodeId) → Each P (xs ++ ys) → Each P xs
each_left P [] ys h = tt
each_left P (x ∷ xs) ys h = (h.0, each_left P xs ys h.1)

pub each_right : (P : NodeId → Type 0) (xs ys : List NodeId) → Each P (xs ++ ys) → Each P ys
each_right P [] ys h = h
each_right P (x ∷ xs) ys h = each_right P xs ys h.1

pub each_write : (P : NodeId → Type 0) (m : MemId) (n : ℕ) (ports : List WritePort) (j k : ℕ) (port : WritePort) → Each P (map (λ (k, port). Write m k) (enumerate_from n ports)) → slice_get ports j ≡ Some port → n + j ≡ k → P (Write m k)
each_write P m n [] j k port h at e = absurd (none-some port at)
each_write P m n (x ∷ xs) zero k port h at e =
    let same : n ≡ k = omega arith in
    subst (λ (i : ℕ). P (Write m i)) same h.0
each_write P m n (x ∷ xs) (suc j) k port h at e =
    let same : (n + 1) + j ≡ k = omega arith in
    each_write P m (n + 1) xs j k port h.1 at same

all_writes : (P : NodeId → Type 0) (m : MemId) (n : ℕ) (ports : List WritePort) → ((k : ℕ) → P (Write m k)) → Each P (map (λ (k, port). Write m k) (enumerate_from n ports))
all_writes P m n [] h = tt
all_writes P m n (x ∷ xs) h = (h n, all_writes P m (n + 1) xs h)

-- the rank of each node is below the number above all
pub below_above : (rank : NodeId → ℕ) (nodes : List NodeId) (b : NodeId) → Contains nodes b → rank b < above rank nodes
below_above rank [] b (k, low, at) = absurd (omega arith)
below_above rank (a ∷ rest) b (zero, low, at) =
    let same : rank a ≡ rank b = ap rank at in
    omega arith
below_above rank (a ∷ rest) b (suc k, low, at) =
    let less : k < length rest = omega arith in
    let deep : rank b < above rank rest = below_above rank rest b (k, less, at) in
    omega arith

-- ## Ranges

any_left : (f : NetId → Bool) (xs ys : List NetId) → list_any f xs ≡ true → list_any f (xs ++ ys) ≡ true
any_left f [] ys h = no h
any_left f (x ∷ xs) ys h = go (f x) (any_left f xs ys) h
  where
    go : (b : Bool) → (list_any f xs ≡ true → list_any f (xs ++ ys) ≡ true) → (b || list_any f xs) ≡ true → (b || list_any f (xs ++ ys)) ≡ true
    go true deep h = refl
    go false deep h = deep h

any_right : (f : NetId → Bool) (xs ys : List NetId) → list_any f ys ≡ true → list_any f (xs ++ ys) ≡ true
any_right f [] ys h = h
any_right f (x ∷ xs) ys h = go (f x) (any_right f xs ys h)
  where
    go : (b : Bool) → list_any f (xs ++ ys) ≡ true → (b || list_any f (xs ++ ys)) ≡ true
    go true deep = refl
    go false deep = deep

-- the nodes that are in the design: a net by its number, and any write node
abbrev pub InRange : Parts → NodeId → Type 0
InRange p (Net n) = n.place < net_count p
InRange p (Write m k) = Unit {0}

-- all these nets are in the design
pub record Within (p : Parts) (nets : List NetId) : Type 0 where
  pub within : (n : ℕ) → includes nets n ≡ true → n < net_count p

module _ (p : Parts) where
  pub within_left : (xs ys : List NetId) → Within p (xs ++ ys) → Within p xs
  within_left xs ys h = record { within = λ n e. h.within n (any_left (is_net n) xs ys e) }

  pub within_right : (xs ys : List NetId) → Within p (xs ++ ys) → Within p ys
  within_right xs ys h = record { within = λ n e. h.within n (any_right (is_net n) xs ys e) }

  within_item : {X : Type 0} (f : X → List NetId) (xs : List X) (k : ℕ) (x : X) → slice_get xs k ≡ Some x → Within p (flat_map f xs) → Within p (f x)
  within_item f [] k x at h = absurd (none-some x at)
  within_item f (y ∷ ys) zero x at h =
      subst (λ z. Within p (f z)) (same_Some y x at) (within_left (f y) (flat_map f ys) h)
  within_item f (y ∷ ys) (suc k) x at h = within_item f ys k x at (within_right (f y) (flat_map f ys) h)

  pub within_each : (nets : List NetId) → Within p nets → Each (InRange p) (map Net nets)
  within_each [] h = tt
  within_each (n ∷ nets) h =
      (h.within n.place (ap (λ b. b || includes nets n.place) (same_number n.place n.place refl)), within_each nets (within_right (n ∷ []) nets h))

  module _ (d : IsDesign p) where
    all_read : Within p (nets_read p)
    all_read = record { within = λ n e. (d.driven n e).0 }

    pub element_within : (k : ℕ) (e : Element) → slice_get p.elements k ≡ Some e → Within p (element_reads e)
    element_within k e at =
        within_item element_reads p.elements k e at
        (within_left (flat_map element_reads p.elements) (flat_map memory_reads p.memories)
        (within_left (flat_map element_reads p.elements ++ flat_map memory_reads p.memories) (port_bits p.outputs) all_read))

    memory_within : (m : ℕ) (memory : Memory) → slice_get p.memories m ≡ Some memory → Within p (memory_reads memory)
    memory_within m memory at =
        within_item memory_reads p.memories m memory at
        (within_right (flat_map element_reads p.elements) (flat_map memory_reads p.memories)
        (within_left (flat_map element_reads p.elements ++ flat_map memory_reads p.memories) (port_bits p.outputs) all_read))

    pub write_within : (m k : ℕ) (memory : Memory) (port : WritePort) → slice_get p.memories m ≡ Some memory → slice_get memory.writes k ≡ Some port → Within p (write_reads port)
    write_within m k memory port at in_port =
        within_item write_reads memory.writes k port in_port
        (within_left (flat_map write_reads memory.writes) (flat_map read_reads memory.reads) (memory_within m memory at))

    pub read_within : (m r : ℕ) (memory : Memory) (port : ReadPort) → slice_get p.memories m ≡ Some memory → slice_get memory.reads r ≡ Some port → Within p (read_reads port)
    read_within m r memory port at in_port =
        within_item read_reads memory.reads r port in_port
        (within_right (flat_map write_reads memory.writes) (flat_map read_reads memory.reads) (memory_within m memory at))

    pub address_within : (m r : ℕ) (memory : Memory) (port : ReadPort) → slice_get p.memories m ≡ Some memory → slice_get memory.reads r ≡ Some port → Within p port.address
    address_within m r memory port at in_port =
        within_right (clock_nets port.clock) port.address (read_within m r memory port at in_port)

    pub read_clock_within : (m r : ℕ) (memory : Memory) (port : ReadPort) (edge : Edge) → slice_get p.memories m ≡ Some memory → slice_get memory.reads r ≡ Some port → port.clock ≡ Some edge → edge.net.place < net_count p
    read_clock_within m r memory port edge at in_port clocked =
        let clock : Within p (clock_nets port.clock) = within_left (clock_nets port.clock) port.address (read_within m r memory port at in_port) in
        (within_each (edge.net ∷ []) (subst (λ (c : Option Edge). Within p (clock_nets c)) clocked clock)).0

    needs_range : (e : Element) → Each (InRange p) (map Net (element_reads e)) → Each (InRange p) (map Net (needs e))
    needs_range (element.Gate op inputs output) h = h
    needs_range (element.Flop f) h = (h.0, h.1.1)
    needs_range (element.Latch l) h = h
    needs_range (element.Memory m) h = tt

    element_range : (k : ℕ) (o : Option Element) → slice_get p.elements k ≡ o → Each (InRange p) (map Net (needs_at o))
    element_range k None at = tt
    element_range k (Some e) at = needs_range e (within_each (element_reads e) (element_within k e at))

    port_range : (m : MemId) (memory : Memory) → slice_get p.memories m.place ≡ Some memory → (r : ℕ) (o : Option ReadPort) → slice_get memory.reads r ≡ o → Each (InRange p) (read_needs m memory o)
    port_range m memory at r None in_port = tt
    port_range m memory at r (Some port) in_port = bit_range port.clock refl
      where
        bit_range : (c : Option Edge) → port.clock ≡ c → Each (InRange p) (port_needs m memory port.address c)
        bit_range None e =
            each_both (InRange p) (map Net port.address) (write_nodes m memory)
            (within_each port.address (address_within m.place r memory port at in_port))
            (all_writes (InRange p) m 0 memory.writes (λ k. tt))
        bit_range (Some edge) e = (read_clock_within m.place r memory port edge at in_port e, tt)

    read_range : (m : MemId) (r : ℕ) (o : Option Memory) → slice_get p.memories m.place ≡ o → Each (InRange p) (read_needs_at m o r)
    read_range m r None at = tt
    read_range m r (Some memory) at = port_range m memory at r (slice_get memory.reads r) refl

    driver_range : (r : Driver) → Each (InRange p) (driver_needs p r)
    driver_range (Constant b) = tt
    driver_range Input = tt
    driver_range (Elem k) = element_range k.place (slice_get p.elements k.place) refl
    driver_range (Read m r b) = read_range m r (slice_get p.memories m.place) refl

    before_range : (m : MemId) (k : ℕ) → Each (InRange p) (write_before m k)
    before_range m zero = tt
    before_range m (suc k) = (tt, tt)

    clock_range : (m : MemId) (k : ℕ) (memory : Memory) → slice_get p.memories m.place ≡ Some memory → (o : Option WritePort) → slice_get memory.writes k ≡ o → Each (InRange p) (write_needs m k o)
    clock_range m k memory at None in_port = tt
    clock_range m k memory at (Some port) in_port =
        ((within_each (write_reads port) (write_within m.place k memory port at in_port)).0, before_range m k)

    write_range : (m : MemId) (k : ℕ) (o : Option Memory) → slice_get p.memories m.place ≡ o → Each (InRange p) (write_needs_at m k o)
    write_range m k None at = tt
    write_range m k (Some memory) at = clock_range m k memory at (slice_get memory.writes k) refl

    pub dependencies_range : (a : NodeId) → Each (InRange p) (dependencies p a)
    dependencies_range (Net n) = driver_range (driver p n.place)
    dependencies_range (Write m k) = write_range m k (slice_get p.memories m.place) refl
