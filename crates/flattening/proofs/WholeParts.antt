-- What is flattened out of a text is refused for its drivers alone.
use Rattle.std.proofs.Common.{◌≡◌, ◌+◌, ◌<◌, ◌≤◌, ◌∙◌, ℕ, true, List, [], ◌∷◌, Option, Some, None, arith, length, refl, slice_get, sym, take}
use Rattle.std.specs.Prelude.{◌&&◌, IfSome, count_by, nat_lt}
use Rattle.std.specs.List.{enumerate_from, list_all}
use Rattle.std.proofs.lemmas.Bool.{eq-eqb, le-leb, lt-ltb}
use Rattle.std.proofs.lemmas.Option.{none-some, slice_get-get_or, slice_get_within}
use Rattle.facts.proofs.Lists.{numbered}
use Rattle.facts.proofs.Tests.{same_number}
use Rattle.id_arena.specs.declared.keys.NetId.{NetId}
use Rattle.design_core.specs.declared.element.Element.{Element}
use Rattle.design_core.specs.declared.element.Element.TheVariants as element
use Rattle.design_core.specs.declared.element.Memory.{Memory}
use Rattle.design_core.specs.declared.element.ReadPort.{ReadPort}
use Rattle.design_core.specs.declared.element.WritePort.{WritePort}
use Rattle.design_core.specs.declared.fault.LimitKind.{LimitKind}
use Rattle.design_core.specs.declared.fault.LimitKind.TheVariants as limit
use Rattle.design_core.specs.declared.parts.NetName.{NetName}
use Rattle.design_core.specs.declared.parts.Parts.{Parts}
use Rattle.design_core.specs.declared.parts.Port.{Port}
use Rattle.design_core.specs.declared.parts.Scope.{Scope}
use Rattle.design_core.specs.Design.{element_reads, is_memory, read_reads, write_reads}
use Rattle.design_core.specs.Faults.{AreGood, are_there, element_good, element_outputs, is_there, memory_good, parent_earlier, rest_good, scope_there, shape_good, thing_good, within}
use Rattle.design_core.specs.Limits.{IsCountable, inputs_within}
use Rattle.design_core.specs.Most.{most_elements, most_nets, most_words}
use Rattle.flattening.specs.declared.made.Made.{Made}
use Rattle.flattening.specs.Laws.{IsWhole}
use Rattle.flattening.proofs.Everywhere.{at_every, every_at, every_passes}
use Rattle.flattening.proofs.GoodPieces.{AreBelow, IsGoodElement, IsGoodMemory, IsReadBelow, IsWriteBelow, StandIn}
use Rattle.flattening.proofs.Growing.{IsMade}
use Rattle.flattening.proofs.OwnedMemories.{taken_once, some_at, takes_few}
use Rattle.flattening.proofs.PortBits.{ArePorts}

-- ---- facts as tests

nets_pass : (n : ℕ) (nets : List NetId) → AreBelow n nets → are_there n nets ≡ true
nets_pass n nets below = every_passes (λ (m : NetId). m.place < n) (is_there n) nets (λ m less. lt-ltb m.place n less) below

memory_passes : (n : ℕ) (memory : Memory) → IsGoodMemory n memory → memory_good n (Some memory) ≡ true
memory_passes n memory good =
    let fits = good.fits in
    let writes = every_passes (IsWriteBelow n) (λ (port : WritePort). are_there n (write_reads port)) memory.writes (λ port below. nets_pass n (write_reads port) below) good.writes in
    let reads = every_passes (IsReadBelow n) (λ (port : ReadPort). are_there n (read_reads port) && are_there n port.bits) memory.reads (λ port below. (let a = nets_pass n (read_reads port) below.0 in let b = nets_pass n port.bits below.1 in λ i. a i && b i)) good.reads in
    λ i. fits i && writes i && reads i

stand_passes : (first : ℕ) (scopes : List Scope) → StandIn first scopes → list_all (λ (e : ℕ × Scope). parent_earlier e.0 e.1.parent) (enumerate_from first scopes) ≡ true
stand_passes first [] stand = refl
stand_passes first (scope ∷ scopes) stand = go scope.parent stand.0 (stand_passes (first + 1) scopes stand.1)
  where
    go : (parent : Option ℕ) → IfSome parent (λ p. p < first) → list_all (λ (e : ℕ × Scope). parent_earlier e.0 e.1.parent) (enumerate_from (first + 1) scopes) ≡ true → (parent_earlier first parent && list_all (λ (e : ℕ × Scope). parent_earlier e.0 e.1.parent) (enumerate_from (first + 1) scopes)) ≡ true
    go None less rest = rest
    go (Some p) less rest = let one = lt-ltb p first less in λ i. one i && rest i

-- ---- parts that are made

-- a memory that stands for none
blank : Memory
blank = record { address_bits = 0; width = 0; writes = []; reads = [] }

module _ (made : Made) (is : IsMade made) (inputs outputs : List Port) (bits : ℕ) (few : bits ≤ most_nets) (fed : ArePorts (length made.net_names) bits inputs) (led : ArePorts (length made.net_names) bits outputs) where
  parts : Parts
  parts =
      record {
        net_names = made.net_names;
        scopes = made.scopes;
        elements = made.elements;
        paths = made.paths;
        memories = made.memories;
        inputs = inputs;
        outputs = outputs;
      }

  memories_few : length made.memories ≤ length made.elements
  memories_few = let few_more = takes_few 0 (0 + length made.memories) made.elements is.good.takes in omega (arith, few_more)

  countable : IsCountable parts
  unfolding parts
  countable = record {
    nets = (let n = is.nets in omega (arith, n));
    scopes = (let s = is.scopes in let m = is.modules in let e = is.elements in omega (arith, s, m, e));
    elements = (let e = is.elements in omega (arith, e));
    memories = (let e = is.elements in let m = memories_few in omega (arith, e, m));
    inputs = (let count = fed.count in omega (arith, count, few));
    outputs = (let count = led.count in omega (arith, count, few));
    output_bits = (let count = led.few in omega (arith, count, few));
  }

  element_shape : (k : ℕ) (e : Element) → slice_get made.elements k ≡ Some e → IsGoodElement (length made.net_names) e → shape_good parts (take k made.elements) e ≡ true
  unfolding parts
  element_shape k (element.Gate op inputs outputs) at good = good.fits
  element_shape k (element.Flop f) at good = refl
  element_shape k (element.Latch l) at good = refl
  element_shape k (element.Memory m) at one =
      let first = taken_once 0 (0 + length made.memories) made.elements k m is.good.takes at in
      let none = same_number (count_by (is_memory m.place) (take k made.elements)) 0 first.none in
      let there = go (slice_get made.memories m.place) refl (let high = first.high in omega (arith, high)) in
      λ i. none i && there i
    where
      go : (found : Option Memory) → slice_get made.memories m.place ≡ found → m.place < length made.memories → memory_good (length made.net_names) found ≡ true
      go None e less = absurd (none-some _ (sym e ∙ slice_get-get_or made.memories m.place blank less))
      go (Some memory) e less = memory_passes (length made.net_names) memory (every_at (IsGoodMemory (length made.net_names)) made.memories m.place memory is.good.memories e)

  path_there : (k : ℕ) (path : Option ℕ) → slice_get made.paths k ≡ path → scope_there parts path ≡ true
  unfolding parts
  path_there k None e = refl
  path_there k (Some s) e = lt-ltb s (length made.scopes) (every_at (λ (x : ℕ). x < length made.scopes) made.paths k s is.good.paths e)

  element_passes : (k : ℕ) (e : Element) → slice_get made.elements k ≡ Some e → element_good parts (take k made.elements) (slice_get made.paths k) e ≡ true
  unfolding parts
  element_passes k e at =
      let good = every_at (IsGoodElement (length made.net_names)) made.elements k e is.good.elements at in
      let shape = element_shape k e at good in
      let reads = nets_pass (length made.net_names) (element_reads e) good.reads in
      let drives = nets_pass (length made.net_names) (element_outputs e) good.drives in
      let path = path_there k (slice_get made.paths k) refl in
      λ i. shape i && reads i && drives i && path i

  owned : list_all (λ (e : ℕ × Memory). nat_lt 0 (count_by (is_memory e.0) made.elements)) (enumerate_from 0 made.memories) ≡ true
  owned =
      every_passes (λ (e : ℕ × Memory). e.0 < length made.memories) (λ (e : ℕ × Memory). nat_lt 0 (count_by (is_memory e.0) made.elements)) (enumerate_from 0 made.memories)
      (λ e less. lt-ltb 0 (count_by (is_memory e.0) made.elements) (some_at 0 (0 + length made.memories) made.elements e.0 is.good.takes (omega arith) (omega (arith, less))))
      (at_every (λ (e : ℕ × Memory). e.0 < length made.memories) (enumerate_from 0 made.memories) (λ k e at.
      (let there = numbered made.memories 0 k e at in
      let number = there.number in
      let low = slice_get_within made.memories k e.1 there.at in
      omega (arith, number, low))))

  rest_passes : rest_good parts ≡ true
  unfolding parts
  rest_passes =
      let constants = le-leb 2 (length made.net_names) is.constants in
      let paths = eq-eqb (length made.paths) (length made.elements) is.good.one_path in
      let ins = fed.there in
      let outs = led.there in
      let names = every_passes (λ (name : NetName). name.scope < length made.scopes) (λ (name : NetName). nat_lt name.scope (length made.scopes)) made.net_names (λ name less. lt-ltb name.scope (length made.scopes) less) is.good.names in
      let scopes = stand_passes 0 made.scopes is.good.parents in
      let memories = owned in
      λ i. constants i && paths i && ins i && outs i && names i && scopes i && memories i

  good : AreGood parts
  unfolding parts
  good k = go (slice_get made.elements k) refl
    where
      go : (found : Option Element) → slice_get made.elements k ≡ found → thing_good parts k found ≡ true
      go None e = rest_passes
      go (Some x) e = element_passes k x e

  limits : (which : LimitKind) → within parts which ≡ true
  unfolding parts
  limits limit.Inputs = every_passes (IsGoodElement (length made.net_names)) inputs_within made.elements (λ e one. one.few) is.good.elements
  limits limit.Nets = le-leb (length made.net_names) most_nets is.nets
  limits limit.Elements = le-leb (length made.elements) most_elements is.elements
  limits limit.Words = le-leb _ most_words is.words
  limits limit.Width = refl
  limits limit.Depth = refl
  limits limit.Instances = refl

  pub parts_whole : IsWhole (record { net_names = made.net_names; scopes = made.scopes; elements = made.elements; paths = made.paths; memories = made.memories; inputs = inputs; outputs = outputs })
  unfolding parts
  parts_whole = record { countable = countable; good = good; limits = limits }
