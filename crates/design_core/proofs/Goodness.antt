-- What good parts are: all nets are there, names and memories too, and shapes fit.
use Rattle.std.proofs.Common.{◌≡◌, ◌∙◌, ◌+◌, ◌<◌, ◌≤◌, ◌^◌, ℕ, zero, suc, Bool, true, false, ◌&&◌, cond, List, [], ◌∷◌, Option, None, Some, inl, inr, refl, take, length, arith}
use Rattle.std.specs.Prelude.{◌==◌, nat_le, nat_lt, count_by, slice_get, IfSome}
use Rattle.std.specs.List.{enumerate_from, list_all}
use Rattle.std.proofs.lemmas.Bool.{and_parts, and_from, cases_Bool, cases_lt, ltb-true, lt-ltb, leb-true, eqb-true}
use Rattle.std.proofs.lemmas.Option.{slice_get_past, slice_get_within}
use Rattle.design_core.specs.declared.operation.Op.{Op}
use Rattle.design_core.specs.declared.operation.Op.TheVariants.{And, Nand, Or, Nor, Xor, Xnor, Buf, Not, Table}
use Rattle.design_core.specs.declared.element.Element.{Element}
use Rattle.design_core.specs.declared.element.Element.TheVariants as element
use Rattle.design_core.specs.declared.element.Memory.{Memory}
use Rattle.design_core.specs.declared.parts.Parts.{Parts}
use Rattle.design_core.specs.declared.parts.NetName.{NetName}
use Rattle.design_core.specs.declared.parts.Scope.{Scope}
use Rattle.design_core.specs.Design.{IsDesign, driver_count, element_fits, element_reads, includes, inputs_fit, is_memory, memory_fits, net_count, nets_read, op_fits, read_reads, write_reads}
use Rattle.design_core.specs.Limits.{IsCountable, IsWithin, inputs_within, most_inputs}
use Rattle.design_core.specs.Names.{IsNamed}
use Rattle.design_core.specs.Faults.{AreGood, AreSingle, AreThere, IsDriven, IsOnce, are_there, around_good, element_good, element_outputs, memory_good, parent_earlier, ports_there, rest_good, scope_there, shape_good}
use Rattle.design_core.proofs.Counting.{count-cons}
use Rattle.design_core.specs.Tables.{IsSound}
use Rattle.design_core.proofs.Bounds.{every}
use Rattle.design_core.proofs.Outwards.{found_at}
use Rattle.design_core.proofs.Ranges.{in_range, read_there}

-- what holds at each place holds of all items
pub all_from : {X : Type 0} (t : X → Bool) (xs : List X) → ((k : ℕ) (x : X) → slice_get xs k ≡ Some x → t x ≡ true) → list_all t xs ≡ true
all_from t [] each = refl
all_from t (x ∷ xs) each = and_from (t x) (list_all t xs) (each 0 x refl) (all_from t xs (λ k y here. each (suc k) y here))

-- what holds of all items with their numbers holds at each place
pub every_from : {X : Type 0} (t : ℕ × X → Bool) (i : ℕ) (xs : List X) (k : ℕ) (x : X) → list_all t (enumerate_from i xs) ≡ true → slice_get xs k ≡ Some x → t (i + k, x) ≡ true
every_from t i [] k x all here = absurd (cc)
every_from t i (y ∷ ys) zero x all here =
    let same : y ≡ x = cc in
    let none : i + 0 ≡ i = omega arith in
    rw (none, ← same) (and_parts (t (i, y)) (list_all t (enumerate_from (i + 1) ys)) all).0
every_from t i (y ∷ ys) (suc k) x all here =
    let next : i + suc k ≡ i + 1 + k = omega arith in
    rw next (every_from t (i + 1) ys k x (and_parts (t (i, y)) (list_all t (enumerate_from (i + 1) ys)) all).1 here)

-- where a count is not 0 there is an item that passes
pub counted_one : {X : Type 0} (t : X → Bool) (xs : List X) → 0 < count_by t xs → (k : ℕ) × (x : X) × (slice_get xs k ≡ Some x) × (t x ≡ true)
counted_one t [] some = absurd (omega (arith, some))
counted_one t (x ∷ xs) some = elim (cases_Bool (t x)) [
  | inl is ↦ (0, x, refl, is)
  | inr other ↦
      let more : count_by t (x ∷ xs) ≡ cond (t x) 1 0 + count_by t xs = count-cons t x xs in
      let more-2 : count_by t (x ∷ xs) ≡ 0 + count_by t xs = more ∙ rw other refl in
      let rest = counted_one t xs (omega (arith, some, more-2)) in
      (suc rest.0, rest.1, rest.2, rest.3)
]

-- what holds at each place holds of all items with their numbers
pub all_numbered : {X : Type 0} (t : ℕ × X → Bool) (i : ℕ) (xs : List X) → ((k : ℕ) (x : X) → slice_get xs k ≡ Some x → t (i + k, x) ≡ true) → list_all t (enumerate_from i xs) ≡ true
all_numbered t i [] each = refl
all_numbered t i (x ∷ xs) each =
    let none : i + 0 ≡ i = omega arith in
    let first : t (i, x) ≡ true = rw none at (each 0 x refl) in
    and_from (t (i, x)) (list_all t (enumerate_from (i + 1) xs)) first
    (all_numbered t (i + 1) xs (λ k y here.
    let next : i + suc k ≡ i + 1 + k = omega arith in
    rw (← next) (each (suc k) y here)))

module _ (p : Parts) (good : AreGood p) where
  -- an element is good
  element_here : (k : ℕ) (e : Element) → slice_get p.elements k ≡ Some e → element_good p (take k p.elements) (slice_get p.paths k) e ≡ true
  element_here k e here = rw here at (good k)

  pub rest_here : rest_good p ≡ true
  rest_here = rw (slice_get_past p.elements (length p.elements) (omega arith)) at (good (length p.elements))

  -- what stands around the elements
  around : (nat_le 2 (net_count p) ≡ true) × ((length p.paths == length p.elements) ≡ true) × (ports_there (net_count p) p.inputs ≡ true) × (ports_there (net_count p) p.outputs ≡ true) × (list_all (λ (name : NetName). nat_lt name.scope (length p.scopes)) p.net_names ≡ true) × (list_all (λ (x : ℕ × Scope). parent_earlier x.0 x.1.parent) (enumerate_from 0 p.scopes) ≡ true)
  around =
      let a = nat_le 2 (net_count p) in
      let b = length p.paths == length p.elements in
      let c = ports_there (net_count p) p.inputs in
      let d = ports_there (net_count p) p.outputs in
      let e = list_all (λ (name : NetName). nat_lt name.scope (length p.scopes)) p.net_names in
      let f = list_all (λ (x : ℕ × Scope). parent_earlier x.0 x.1.parent) (enumerate_from 0 p.scopes) in
      let all = and_parts (around_good p) (list_all (λ (x : ℕ × Memory). nat_lt 0 (count_by (is_memory x.0) p.elements)) (enumerate_from 0 p.memories)) rest_here in
      let five = and_parts (a && b && c && d && e) f all.0 in
      let four = and_parts (a && b && c && d) e five.0 in
      let three = and_parts (a && b && c) d four.0 in
      let two = and_parts (a && b) c three.0 in
      let one = and_parts a b two.0 in
      (one.0, one.1, two.1, three.1, four.1, five.1)

  same_paths : length p.paths ≡ length p.elements
  same_paths = eqb-true (length p.paths) (length p.elements) around.1

  -- what an element's parts are
  parts_of : (k : ℕ) (e : Element) → slice_get p.elements k ≡ Some e → (shape_good p (take k p.elements) e ≡ true) × (are_there (net_count p) (element_reads e) ≡ true) × (are_there (net_count p) (element_outputs e) ≡ true) × (scope_there p (slice_get p.paths k) ≡ true)
  parts_of k e here =
      let a = shape_good p (take k p.elements) e in
      let b = are_there (net_count p) (element_reads e) in
      let c = are_there (net_count p) (element_outputs e) in
      let d = scope_there p (slice_get p.paths k) in
      let three = and_parts (a && b && c) d (element_here k e here) in
      let two = and_parts (a && b) c three.0 in
      let one = and_parts a b two.0 in
      (one.0, one.1, two.1, three.1)

  -- a memory is good, since its element is
  memory_here : (m : ℕ) (memory : Memory) → slice_get p.memories m ≡ Some memory → memory_good (net_count p) (Some memory) ≡ true
  memory_here m memory here =
      let all = and_parts (around_good p) (list_all (λ (x : ℕ × Memory). nat_lt 0 (count_by (is_memory x.0) p.elements)) (enumerate_from 0 p.memories)) rest_here in
      let some = every_from (λ (x : ℕ × Memory). nat_lt 0 (count_by (is_memory x.0) p.elements)) 0 p.memories m memory all.1 here in
      let start : 0 + m ≡ m = omega arith in
      let some-2 : nat_lt 0 (count_by (is_memory m) p.elements) ≡ true = rw start at some in
      let one = counted_one (is_memory m) p.elements (ltb-true 0 (count_by (is_memory m) p.elements) some-2) in
      of_element one.0 one.1 one.2 one.3
    where
      of_element : (k : ℕ) (e : Element) → slice_get p.elements k ≡ Some e → is_memory m e ≡ true → memory_good (net_count p) (Some memory) ≡ true
      of_element k (element.Gate op inputs output) at-k is = absurd (cc)
      of_element k (element.Flop f) at-k is = absurd (cc)
      of_element k (element.Latch l) at-k is = absurd (cc)
      of_element k (element.Memory n) at-k is =
          let same = eqb-true n.place m is in
          let shape = (parts_of k (element.Memory n) at-k).0 in
          let fine = (and_parts (count_by (is_memory n.place) (take k p.elements) == 0) (memory_good (net_count p) (slice_get p.memories n.place)) shape).1 in
          rw (same, here) at fine

  pub are_there_all : AreThere p
  are_there_all = record {
    constants = leb-true 2 (net_count p) around.0;
    inputs = around.2;
    outputs = around.3;
    driven = all_from (λ (e : Element). are_there (net_count p) (element_outputs e)) p.elements (λ k e here. (parts_of k e here).2);
    read = all_from (λ (e : Element). are_there (net_count p) (element_reads e)) p.elements (λ k e here. (parts_of k e here).1);
    memories = all_from (λ (memory : Memory). memory_good (net_count p) (Some memory)) p.memories memory_here;
  }

  pub is_named : IsNamed p
  is_named = record {
    one_path = same_paths;
    path_scopes = λ k s here.
        let within : k < length p.elements = omega (arith, slice_get_within p.paths k s here, same_paths) in
        let e = found_at p.elements k within in
        let scope = (parts_of k e.0 e.1).3 in
        ltb-true s (length p.scopes) (rw here at scope);
    net_scopes = λ n name here. ltb-true name.scope (length p.scopes) (every (λ (x : NetName). nat_lt x.scope (length p.scopes)) p.net_names n name around.4 here);
    parents = λ s scope here.
        let start : 0 + s ≡ s = omega arith in
        let earlier = every_from (λ (x : ℕ × Scope). parent_earlier x.0 x.1.parent) 0 p.scopes s scope around.5 here in
        below s scope.parent (rw start at earlier);
  }
    where
      below : (s : ℕ) (parent : Option ℕ) → parent_earlier s parent ≡ true → IfSome parent (λ r. r < s)
      below s None earlier = tt
      below s (Some r) earlier = ltb-true r s earlier

  pub memories_fit : list_all memory_fits p.memories ≡ true
  memories_fit = all_from memory_fits p.memories (λ m memory here.
      (and_parts (memory_fits memory) (list_all (λ port. are_there (net_count p) (write_reads port)) memory.writes)
      (and_parts (memory_fits memory && list_all (λ port. are_there (net_count p) (write_reads port)) memory.writes) (list_all (λ port. are_there (net_count p) (read_reads port) && are_there (net_count p) port.bits) memory.reads) (memory_here m memory here)).0).0)

-- a gate's inputs fit where they are as its operation asks for them, and not too many
inputs_fine : (op : Op) (n : ℕ) → inputs_fit op n ≡ true → nat_le n (most_inputs op) ≡ true → op_fits op n ≡ true
inputs_fine And n fit few = fit
inputs_fine Nand n fit few = fit
inputs_fine Or n fit few = fit
inputs_fine Nor n fit few = fit
inputs_fine Xor n fit few = fit
inputs_fine Xnor n fit few = fit
inputs_fine Buf n fit few = fit
inputs_fine Not n fit few = fit
inputs_fine (Table table) n fit few = and_from (nat_le n 6) (nat_lt table (2 ^ (2 ^ n))) few fit

memory_is : (nets m : ℕ) (memories : List Memory) → memory_good nets (slice_get memories m) ≡ true → nat_lt m (length memories) ≡ true
memory_is nets m memories fine = elim (cases_lt m (length memories)) [
  | inl within ↦ lt-ltb m (length memories) within
  | inr past ↦ let none : memory_good nets None ≡ true = rw (slice_get_past memories m past) at fine in absurd (cc)
]

fits_at : (p : Parts) (earlier : List Element) (e : Element) → shape_good p earlier e ≡ true → inputs_within e ≡ true → element_fits p e ≡ true
fits_at p earlier (element.Gate op inputs output) shape few = inputs_fine op (length inputs) shape few
fits_at p earlier (element.Flop f) shape few = refl
fits_at p earlier (element.Latch l) shape few = refl
fits_at p earlier (element.Memory m) shape few =
    memory_is (net_count p) m.place p.memories (and_parts (count_by (is_memory m.place) earlier == 0) (memory_good (net_count p) (slice_get p.memories m.place)) shape).1

pub elements_fit : (p : Parts) → AreGood p → list_all inputs_within p.elements ≡ true → list_all (element_fits p) p.elements ≡ true
elements_fit p good few = all_from (element_fits p) p.elements (λ k e here.
    fits_at p (take k p.elements) e (parts_of p good k e here).0 (every inputs_within p.elements k e few here))

-- good parts within the limits, with one driver for each net that is read, are a design
pub is_design : (p : Parts) → AreGood p → IsWithin p → AreSingle p → IsOnce p → IsDriven p → IsDesign p
is_design p good limits single once driven = record {
  constants = (are_there_all p good).constants;
  in_range = in_range p (are_there_all p good);
  one_driver = λ n within. once n;
  driven = λ n some. (read_there p (are_there_all p good) n some, one_driven (includes (nets_read p) n) (driver_count p n) some (once n) (driven n));
  one_element = single;
  elements_fit = elements_fit p good limits.inputs;
  memories_fit = memories_fit p good;
}
  where
    one_driven : (b : Bool) (count : ℕ) → b ≡ true → count ≤ 1 → (b && (count == 0)) ≡ false → count ≡ 1
    one_driven b zero some few both = let bad : true ≡ false = rw some at both in absurd (cc)
    one_driven b (suc k) some few both = omega (arith, few)

pub is_sound : (p : Parts) → IsCountable p → AreGood p → IsWithin p → AreSingle p → IsOnce p → IsDriven p → IsSound p
is_sound p few good limits single once driven = record {
  design = is_design p good limits single once driven;
  named = is_named p good;
  within = limits;
  countable = few;
}
