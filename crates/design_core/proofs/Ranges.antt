-- Nets that are driven or read are there.
use Rattle.std.proofs.Common.{◌≡◌, ◌∙◌, ◌+◌, ◌<◌, ℕ, Bool, true, ◌&&◌, List, [], ◌∷◌, ◌++◌, Some, inl, inr, refl, map, arith}
use Rattle.std.specs.Prelude.{◌==◌, nat_lt, flat_map}
use Rattle.std.specs.List.{enumerate_from, list_all}
use Rattle.std.proofs.lemmas.Bool.{and_parts, and_from, or_cases, ltb-true, lt-ltb, eqb-true, cases_Bool}
use Rattle.std.proofs.lemmas.List.Folds.{list_all-append, list_all-map}
use Rattle.id_arena.specs.declared.keys.NetId.{NetId}
use Rattle.design_core.specs.declared.element.Element.{Element}
use Rattle.design_core.specs.declared.element.Memory.{Memory}
use Rattle.design_core.specs.declared.element.ReadPort.{ReadPort}
use Rattle.design_core.specs.declared.element.WritePort.{WritePort}
use Rattle.design_core.specs.declared.element.Driver.TheVariants.{Input, Read}
use Rattle.design_core.specs.declared.parts.Parts.{Parts}
use Rattle.design_core.specs.declared.parts.Port.{Port}
use Rattle.design_core.specs.Design.{driver_count, element_driver, element_reads, includes, is_net, memory_fits, memory_reads, net_count, nets_read, port_bits, read_reads, write_reads}
use Rattle.design_core.specs.Drives.{Drive, constant_drives, drive_of, drives_of, element_drives, elements_drives, input_drives, memories_drives, memory_drives, port_drives}
use Rattle.design_core.specs.Faults.{AreThere, are_there, element_outputs, is_there, memory_good, ports_there}
use Rattle.design_core.proofs.Counting.{count_of, counted}
use Rattle.design_core.proofs.Entries.{count_no}

all_append : {X : Type 0} (t : X → Bool) (xs ys : List X) → list_all t xs ≡ true → list_all t ys ≡ true → list_all t (xs ++ ys) ≡ true
all_append t xs ys left right = list_all-append t xs ys ∙ and_from (list_all t xs) (list_all t ys) left right

-- what holds of the lists that items give holds of them together
all_flat : {X A : Type 0} (t : A → Bool) (F : X → List A) (q : X → Bool) (xs : List X) → ((x : X) → q x ≡ true → list_all t (F x) ≡ true) → list_all q xs ≡ true → list_all t (flat_map F xs) ≡ true
all_flat t F q [] each all = refl
all_flat t F q (x ∷ xs) each all =
    let parts = and_parts (q x) (list_all q xs) all in
    all_append t (F x) (flat_map F xs) (each x parts.0) (all_flat t F q xs each parts.1)

all_flat_from : {X A : Type 0} (t : A → Bool) (F : ℕ × X → List A) (q : X → Bool) (k : ℕ) (xs : List X) → ((j : ℕ) (x : X) → q x ≡ true → list_all t (F (j, x)) ≡ true) → list_all q xs ≡ true → list_all t (flat_map F (enumerate_from k xs)) ≡ true
all_flat_from t F q k [] each all = refl
all_flat_from t F q k (x ∷ xs) each all =
    let parts = and_parts (q x) (list_all q xs) all in
    all_append t (F (k, x)) (flat_map F (enumerate_from (k + 1) xs)) (each k x parts.0) (all_flat_from t F q (k + 1) xs each parts.1)

all_map_from : {X A : Type 0} (t : A → Bool) (f : ℕ × X → A) (q : X → Bool) (k : ℕ) (xs : List X) → ((j : ℕ) (x : X) → t (f (j, x)) ≡ q x) → list_all q xs ≡ true → list_all t (map f (enumerate_from k xs)) ≡ true
all_map_from t f q k [] same all = refl
all_map_from t f q k (x ∷ xs) same all =
    let parts = and_parts (q x) (list_all q xs) all in
    and_from (t (f (k, x))) (list_all t (map f (enumerate_from (k + 1) xs))) (same k x ∙ parts.0) (all_map_from t f q (k + 1) xs same parts.1)

-- a drive of a net that is there
abbrev pub drives_there : ℕ → Drive → Bool
drives_there nets d = nat_lt d.net nets

inputs_there : (nets : ℕ) (ports : List Port) → ports_there nets ports ≡ true → list_all (drives_there nets) (input_drives ports) ≡ true
inputs_there nets ports there =
    all_flat (drives_there nets) (λ (port : Port). map (drive_of Input) port.nets) (λ (port : Port). are_there nets port.nets) ports (λ port good. list_all-map (drives_there nets) (drive_of Input) port.nets ∙ good) there

elements_there : (nets : ℕ) (es : List Element) → list_all (λ e. are_there nets (element_outputs e)) es ≡ true → list_all (drives_there nets) (elements_drives 0 es) ≡ true
elements_there nets es there =
    all_flat_from (drives_there nets) (λ (x : ℕ × Element). element_drives x.0 x.1) (λ (e : Element). are_there nets (element_outputs e)) 0 es (λ k e good. list_all-map (drives_there nets) (drive_of (element_driver k)) (element_outputs e) ∙ good) there

memory_there : (nets m : ℕ) (memory : Memory) → memory_good nets (Some memory) ≡ true → list_all (drives_there nets) (memory_drives m memory) ≡ true
memory_there nets m memory good =
    all_flat_from (drives_there nets) (λ (x : ℕ × ReadPort). port_drives m x.0 x.1.bits) (λ (port : ReadPort). are_there nets (read_reads port) && are_there nets port.bits) 0 memory.reads
    (λ r port fine.
    all_map_from (drives_there nets) (λ (x : ℕ × NetId). drive_of (Read (record { place = m }) r x.0) x.1) (is_there nets) 0 port.bits (λ b n. refl) (and_parts (are_there nets (read_reads port)) (are_there nets port.bits) fine).1)
    (and_parts (memory_fits memory && list_all (λ port. are_there nets (write_reads port)) memory.writes) (list_all (λ port. are_there nets (read_reads port) && are_there nets port.bits) memory.reads) good).1

memories_there : (nets : ℕ) (memories : List Memory) → list_all (λ memory. memory_good nets (Some memory)) memories ≡ true → list_all (drives_there nets) (memories_drives memories) ≡ true
memories_there nets memories good =
    all_flat_from (drives_there nets) (λ (x : ℕ × Memory). memory_drives x.0 x.1) (λ (memory : Memory). memory_good nets (Some memory)) 0 memories (λ m memory fine. memory_there nets m memory fine) good

all_there : (p : Parts) → AreThere p → list_all (drives_there (net_count p)) (drives_of p) ≡ true
all_there p there =
    let nets = net_count p in
    let low : nat_lt 0 (net_count p) ≡ true = lt-ltb 0 (net_count p) (omega (arith, there.constants)) in
    let high : nat_lt 1 (net_count p) ≡ true = lt-ltb 1 (net_count p) (omega (arith, there.constants)) in
    let constants : list_all (drives_there (net_count p)) constant_drives ≡ true = rw (low, high) refl in
    all_append (drives_there nets) constant_drives (input_drives p.inputs ++ (elements_drives 0 p.elements ++ memories_drives p.memories)) constants
    (all_append (drives_there nets) (input_drives p.inputs) (elements_drives 0 p.elements ++ memories_drives p.memories) (inputs_there nets p.inputs there.inputs)
    (all_append (drives_there nets) (elements_drives 0 p.elements) (memories_drives p.memories) (elements_there nets p.elements there.driven) (memories_there nets p.memories there.memories)))

count_there : (nets n : ℕ) (ds : List Drive) → list_all (drives_there nets) ds ≡ true → 0 < count_of n ds → n < nets
count_there nets n [] all some = absurd (omega (arith, some))
count_there nets n (d ∷ ds) all some =
    let parts = and_parts (drives_there nets d) (list_all (drives_there nets) ds) all in
    elim (cases_Bool (d.net == n)) [
      | inl same ↦
          let is = eqb-true d.net n same in
          let below = ltb-true d.net nets parts.0 in
          omega (arith, is, below)
      | inr other ↦
          let step : count_of n (d ∷ ds) ≡ count_of n ds = count_no n d ds other in
          count_there nets n ds parts.1 (omega (arith, some, step))
    ]

-- a net that something drives is there
pub in_range : (p : Parts) → AreThere p → (n : ℕ) → 0 < driver_count p n → n < net_count p
in_range p there n some = count_there (net_count p) n (drives_of p) (all_there p there) (omega (arith, some, counted p n))

memory_read : (nets : ℕ) (memory : Memory) → memory_good nets (Some memory) ≡ true → are_there nets (memory_reads memory) ≡ true
memory_read nets memory good =
    let outer = and_parts (memory_fits memory && list_all (λ port. are_there nets (write_reads port)) memory.writes) (list_all (λ port. are_there nets (read_reads port) && are_there nets port.bits) memory.reads) good in
    let inner = and_parts (memory_fits memory) (list_all (λ port. are_there nets (write_reads port)) memory.writes) outer.0 in
    all_append (is_there nets) (flat_map write_reads memory.writes) (flat_map read_reads memory.reads)
    (all_flat (is_there nets) write_reads (λ (port : WritePort). are_there nets (write_reads port)) memory.writes (λ port fine. fine) inner.1)
    (all_flat (is_there nets) read_reads (λ (port : ReadPort). are_there nets (read_reads port) && are_there nets port.bits) memory.reads (λ port fine. (and_parts (are_there nets (read_reads port)) (are_there nets port.bits) fine).0) outer.1)

all_read : (p : Parts) → AreThere p → are_there (net_count p) (nets_read p) ≡ true
all_read p there =
    let nets = net_count p in
    let elements = all_flat (is_there nets) element_reads (λ (e : Element). are_there nets (element_reads e)) p.elements (λ e fine. fine) there.read in
    let memories = all_flat (is_there nets) memory_reads (λ (memory : Memory). memory_good nets (Some memory)) p.memories (memory_read nets) there.memories in
    let outputs = all_flat (is_there nets) (λ (port : Port). port.nets) (λ (port : Port). are_there nets port.nets) p.outputs (λ port fine. fine) there.outputs in
    all_append (is_there nets) (flat_map element_reads p.elements ++ flat_map memory_reads p.memories) (port_bits p.outputs)
    (all_append (is_there nets) (flat_map element_reads p.elements) (flat_map memory_reads p.memories) elements memories)
    outputs

included_there : (nets n : ℕ) (ns : List NetId) → are_there nets ns ≡ true → includes ns n ≡ true → n < nets
included_there nets n [] all some = absurd (cc)
included_there nets n (m ∷ ns) all some =
    let parts = and_parts (is_there nets m) (are_there nets ns) all in
    elim (or_cases (is_net n m) (includes ns n) some) [
      | inl same ↦
          let is = eqb-true m.place n same in
          let below = ltb-true m.place nets parts.0 in
          omega (arith, is, below)
      | inr rest ↦ included_there nets n ns parts.1 rest
    ]

-- a net that is read is there
pub read_there : (p : Parts) → AreThere p → (n : ℕ) → includes (nets_read p) n ≡ true → n < net_count p
read_there p there n some = included_there (net_count p) n (nets_read p) (all_read p there) some
