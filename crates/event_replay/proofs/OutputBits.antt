-- The values of the bits of outputs, port by port.
use Rattle.std.proofs.Common.{◌≡◌, ◌<◌, ◌+◌, ℕ, Bool, true, List, [], ◌∷◌, ◌++◌, map, drop, length, get_or, refl, sym, ap, subst, ◌∙◌, arith}
use Rattle.std.specs.Prelude.{◌&&◌, ◌||◌, nat_lt, IsTrue, flat_map}
use Rattle.std.proofs.lemmas.Bool.{and_parts, or_right}
use Rattle.std.proofs.lemmas.Bool.Decides.{nat_tests}
use Rattle.std.proofs.lemmas.List.{append_assoc, drop_more, map-append}
use Rattle.std.proofs.lemmas.List.Folds.{list_all-append}
use Rattle.id_arena.specs.declared.keys.NetId.{NetId}
use Rattle.design_core.specs.declared.parts.Parts.{Parts}
use Rattle.design_core.specs.declared.parts.Port.{Port}
use Rattle.design_core.specs.Design.{IsDesign, net_count, includes, is_net, element_reads, memory_reads, port_bits}
use Rattle.design_core.specs.Faults.{are_there, is_there}
use Rattle.history_law.proofs.Naming.{same_number}

left_from : (ports : List Port) (k : ℕ) (port : Port) → k < length ports → port ≡ get_or ports k port → drop k ports ≡ port ∷ drop (k + 1) ports
left_from ports k port low here = drop_more ports k port low ∙ ap (λ first. first ∷ drop (k + 1) ports) (sym here)

-- the values of one more port
pub port_more : (f : NetId → Bool) (ports : List Port) (k : ℕ) (port : Port) (nets : List NetId) (bits more all : List Bool)
    → k < length ports
    → port ≡ get_or ports k port
    → nets ≡ port.nets
    → more ≡ bits ++ map f nets
    → bits ++ map f (port_bits (drop k ports)) ≡ all
    → more ++ map f (port_bits (drop (k + 1) ports)) ≡ all
port_more f ports k port nets bits more all low here same grown so_far =
    ap (λ shown. shown ++ map f (port_bits (drop (k + 1) ports))) (grown ∙ ap (λ ns. bits ++ map f ns) same)
    ∙ append_assoc bits (map f port.nets) (map f (port_bits (drop (k + 1) ports)))
    ∙ ap (λ shown. bits ++ shown) (sym (map-append f port.nets (port_bits (drop (k + 1) ports))))
    ∙ ap (λ left. bits ++ map f (port_bits left)) (sym (left_from ports k port low here))
    ∙ so_far

-- the nets of the ports after one are there
pub ports_after_there : (size : ℕ) (ports : List Port) (k : ℕ) (port : Port)
    → k < length ports
    → port ≡ get_or ports k port
    → IsTrue (are_there size (port_bits (drop k ports)))
    → IsTrue (are_there size (port_bits (drop (k + 1) ports)))
ports_after_there size ports k port low here all =
    (and_parts (are_there size port.nets) (are_there size (port_bits (drop (k + 1) ports)))
    (sym (list_all-append (is_there size) port.nets (port_bits (drop (k + 1) ports)))
    ∙ ap (λ left. are_there size (port_bits left)) (sym (left_from ports k port low here))
    ∙ all)).1

-- ## The outputs of a design are there

left_there : (size : ℕ) (nets : List NetId) → ((n : ℕ) → includes nets n ≡ true → n < size) → are_there size nets ≡ true
left_there size [] low = refl
left_there size (net ∷ nets) low =
    let first : net.place < size = low net.place (ap (λ b. b || includes nets net.place) (same_number net.place net.place refl)) in
    let there : nat_lt net.place size ≡ true = grind (arith, nat_tests) in
    ap (λ b. b && are_there size nets) there
    ∙ left_there size nets (λ n among. low n (or_right (is_net n net) (includes nets n) among))

read_later : (n : ℕ) (xs ys : List NetId) → includes ys n ≡ true → includes (xs ++ ys) n ≡ true
read_later n [] ys among = among
read_later n (x ∷ xs) ys among = or_right (is_net n x) (includes (xs ++ ys) n) (read_later n xs ys among)

-- the bits of the outputs of a design are nets of it
pub outputs_there : (p : Parts) (size : ℕ) → IsDesign p → size ≡ net_count p → IsTrue (are_there size (port_bits p.outputs))
outputs_there p size design same =
    subst (λ count. are_there count (port_bits p.outputs) ≡ true) (sym same)
    (left_there (net_count p) (port_bits p.outputs)
    (λ n among. (design.driven n (read_later n (flat_map element_reads p.elements ++ flat_map memory_reads p.memories) (port_bits p.outputs) among)).0))
