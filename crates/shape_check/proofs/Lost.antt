-- A9: the places of input bits, elements and output bits.
use Rattle.std.proofs.Common.{◌≡◌, ◌<◌, ◌≤◌, ◌+◌, ◌-◌, ℕ, zero, suc, Bool, true, false, get_or, List, [], ◌∷◌, ◌++◌, length, length-append, drop, Option, None, Some, refl, sym, subst, ap, ◌∙◌, arith}
use Rattle.std.specs.Prelude.{slice_get}
use Rattle.std.proofs.lemmas.Option.{none-some, slice_get_past}
use Rattle.std.proofs.lemmas.List.{drop_all, length-drop}
use Rattle.facts.proofs.Places.{all_at}
use Rattle.facts.proofs.Tests.{below, left, no}
use Rattle.id_arena.specs.declared.keys.ElemId.{ElemId}
use Rattle.id_arena.specs.declared.keys.MemId.{MemId}
use Rattle.id_arena.specs.declared.keys.NetId.{NetId}
use Rattle.design_core.specs.declared.element.Driver.TheVariants.{Input}
use Rattle.design_core.specs.declared.element.Element.{Element}
use Rattle.design_core.specs.declared.element.Element.TheVariants as element
use Rattle.design_core.specs.declared.element.Memory.{Memory}
use Rattle.design_core.specs.declared.parts.Parts.{Parts}
use Rattle.design_core.specs.declared.parts.Port.{Port}
use Rattle.design_core.proofs.Outwards.{found_at}
use Rattle.design_core.specs.Design.{IsDesign, driver, drives, element_fits, includes, net_count, port_bits}
use Rattle.history_law.proofs.Naming.{element_is_driver, input_bit_is_input, read_bit_is_driver}
use Rattle.emu_machine.specs.declared.map.Spot.{Spot}
use Rattle.emu_machine.specs.declared.place.Place.{Place}
use Rattle.emu_machine.specs.declared.place.Place.TheVariants as place
use Rattle.emu_machine.specs.Acceptance.{Case, FailsA9, fails_test, is_element_mapped, output_differs, place_key}
use Rattle.use_check.specs.Least.{Begins, IsLeastUnder}
use Rattle.shape_check.specs.Mapped.{ArePorts, differs, is_lost}
use Rattle.use_check.proofs.Walk.{Just, Longer, here}

-- a net that is not driven from outside is no input bit
pub no_input : (p : Parts) (n : ℕ) → IsDesign p → (driver p n ≡ Input → ⊥) → includes (port_bits p.inputs) n ≡ false
no_input p n d other = go (includes (port_bits p.inputs) n) refl
  where
    go : (b : Bool) → includes (port_bits p.inputs) n ≡ b → includes (port_bits p.inputs) n ≡ false
    go false e = e
    go true e = absurd (other (input_bit_is_input p n d e).1)

-- what an element drives is there
pub driven_low : (p : Parts) (k n : ℕ) (e : Element) → IsDesign p → slice_get p.elements k ≡ Some e → drives n e ≡ true → n < net_count p
driven_low p k n e d at h = (element_is_driver p k n e d at h).0

pub memory_low : (p : Parts) (k : ℕ) (m : MemId) → IsDesign p → slice_get p.elements k ≡ Some (element.Memory m) → m.place < length p.memories
memory_low p k m d at = below m.place (length p.memories) (all_at (element_fits p) p.elements k (element.Memory m) d.elements_fit at)

pub ports_low : (c : Case) (m : ℕ) (memory : Memory) → IsDesign c.design → slice_get c.design.memories m ≡ Some memory → ArePorts c memory.reads
ports_low c m memory d at k port here j n bit = (read_bit_is_driver c.design m k j memory port n d at here bit).0

module _ (c : Case) where
  pub just_two : Just (FailsA9 c) 2
  just_two (place.Input a) f = refl
  just_two (place.Element a) f = refl
  just_two (place.Output a) f = refl
  just_two (place.Gate a b) f = absurd f
  just_two (place.Register a b) f = absurd f
  just_two (place.Memory a b) f = absurd f
  just_two (place.Weight a b) f = absurd f
  just_two (place.Chips m) f = absurd f
  just_two (place.Frame a) f = absurd f
  just_two (place.Action a b d) f = absurd f
  just_two (place.Again a b d e) f = absurd f
  just_two (place.EndRegister a b d) f = absurd f
  just_two (place.EndMemory a b d) f = absurd f
  just_two (place.EndRead a b d e) f = absurd f

  pub longer : (n : ℕ) → n < 2 → Longer (FailsA9 c) n
  longer n low at f = let two : length (place_key at) ≡ 2 = just_two at f in omega (arith, two, low)

  pub lost : (n : NetId) → is_lost c n ≡ true → IsLeastUnder (FailsA9 c) (0 ∷ n.place ∷ []) (Some (place.Input n))
  lost n e = here (FailsA9 c) (0 ∷ n.place ∷ []) (place.Input n) just_two refl (refl, (refl, tt)) e

  pub not_lost : (n : NetId) → is_lost c n ≡ false → IsLeastUnder (FailsA9 c) (0 ∷ n.place ∷ []) None
  not_lost n e (place.Input m) b f = no (sym e ∙ subst (λ (k : ℕ). is_lost c (record { place = k }) ≡ true) (sym b.1.0) f)
  not_lost n e (place.Element m) b f = absurd (omega (arith, b.0))
  not_lost n e (place.Output m) b f = absurd (omega (arith, b.0))
  not_lost n e other b f = absurd f

  pub past_nets : (n : ℕ) → IsDesign c.design → net_count c.design ≤ n → IsLeastUnder (FailsA9 c) (0 ∷ n ∷ []) None
  past_nets n d past (place.Input m) b f =
      let low : m.place < net_count c.design = (input_bit_is_input c.design m.place d (left (includes (port_bits c.design.inputs) m.place) _ f)).0 in
      omega (arith, low, past, b.1.0)
  past_nets n d past (place.Element m) b f = absurd (omega (arith, b.0))
  past_nets n d past (place.Output m) b f = absurd (omega (arith, b.0))
  past_nets n d past other b f = absurd f

  under_elements : (k : ℕ) (at : Place) → Begins (1 ∷ k ∷ []) (place_key at) → FailsA9 c at → fails_test (is_element_mapped c.design c.results) (slice_get c.design.elements k)
  under_elements k (place.Input m) b f = absurd (omega (arith, b.0))
  under_elements k (place.Element m) b f =
      subst (λ (j : ℕ). fails_test (is_element_mapped c.design c.results) (slice_get c.design.elements j)) (sym b.1.0) f
  under_elements k (place.Output m) b f = absurd (omega (arith, b.0))
  under_elements k other b f = absurd f

  pub element_passes : (k : ℕ) (e : Element) → slice_get c.design.elements k ≡ Some e → is_element_mapped c.design c.results e ≡ true → IsLeastUnder (FailsA9 c) (1 ∷ k ∷ []) None
  element_passes k e is ok at b f =
      no (sym (subst (λ (o : Option Element). fails_test (is_element_mapped c.design c.results) o) is (under_elements k at b f)) ∙ ok)

  pub past_elements : (k : ℕ) → length c.design.elements ≤ k → IsLeastUnder (FailsA9 c) (1 ∷ k ∷ []) None
  past_elements k past at b f =
      subst (λ (o : Option Element). fails_test (is_element_mapped c.design c.results) o) (slice_get_past c.design.elements k past) (under_elements k at b f)

  pub element_fails : (k : ElemId) (e : Element) → slice_get c.design.elements k.place ≡ Some e → is_element_mapped c.design c.results e ≡ false → IsLeastUnder (FailsA9 c) (1 ∷ k.place ∷ []) (Some (place.Element k))
  element_fails k e is bad =
      here (FailsA9 c) (1 ∷ k.place ∷ []) (place.Element k) just_two refl (refl, (refl, tt))
      (subst (λ (o : Option Element). fails_test (is_element_mapped c.design c.results) o) (sym is) bad)

  pub differing : (k : ℕ) → differs c k ≡ true → IsLeastUnder (FailsA9 c) (2 ∷ k ∷ []) (Some (place.Output k))
  differing k e = here (FailsA9 c) (2 ∷ k ∷ []) (place.Output k) just_two refl (refl, (refl, tt)) e

  pub the_same : (k : ℕ) → differs c k ≡ false → IsLeastUnder (FailsA9 c) (2 ∷ k ∷ []) None
  the_same k e (place.Input m) b f = absurd (omega (arith, b.0))
  the_same k e (place.Element m) b f = absurd (omega (arith, b.0))
  the_same k e (place.Output m) b f = no (sym e ∙ subst (λ (j : ℕ). differs c j ≡ true) (sym b.1.0) f)
  the_same k e other b f = absurd f

  -- a net of the map behind the last output bit, or nothing
  pub one_over : (k : ℕ) → length (port_bits c.design.outputs) ≤ k → k < length c.results.map.outputs → IsLeastUnder (FailsA9 c) (2 ∷ k ∷ []) (Some (place.Output k))
  one_over k past low =
      differing k (go (slice_get c.results.map.outputs k) refl)
    where
      go : (o : Option Spot) → slice_get c.results.map.outputs k ≡ o → differs c k ≡ true
      go None none = absurd (never none)
        where
          never : slice_get c.results.map.outputs k ≡ None → ⊥
          never e = let there : (x : Spot) × (slice_get c.results.map.outputs k ≡ Some x) = found_at c.results.map.outputs k low in none-some there.0 (sym e ∙ there.1)
      go (Some spot) is =
          ap (λ (o : Option Spot). output_differs c.results o (slice_get (port_bits c.design.outputs) k)) is
          ∙ ap (λ (o : Option NetId). output_differs c.results (Some spot) o) (slice_get_past (port_bits c.design.outputs) k past)

  pub none_over : (k : ℕ) → length (port_bits c.design.outputs) ≤ k → length c.results.map.outputs ≤ k → IsLeastUnder (FailsA9 c) (2 ∷ k ∷ []) None
  none_over k past short =
      the_same k
      (ap (λ (o : Option Spot). output_differs c.results o (slice_get (port_bits c.design.outputs) k)) (slice_get_past c.results.map.outputs k short)
      ∙ ap (λ (o : Option NetId). output_differs c.results None o) (slice_get_past (port_bits c.design.outputs) k past))

-- ## The bits of ports, one port after the other

drop_front : (a b : List NetId) → drop (length a) (a ++ b) ≡ b
drop_front [] b = refl
drop_front (x ∷ a) b = drop_front a b

no_more : (a b : List NetId) → [] ≡ a ++ b → b ≡ []
no_more [] b e = sym e
no_more (x ∷ a) b e = absurd (let z : length (x ∷ (a ++ b)) ≡ 0 = ap (λ (l : List NetId). length l) (sym e) in omega (arith, z))

drop_none : (j : ℕ) → drop {A = NetId} j [] ≡ []
drop_none zero = refl
drop_none (suc j) = refl

-- what is left behind the next nets
pub behind : (xs : List NetId) (i j : ℕ) (a b : List NetId) → drop i xs ≡ a ++ b → j ≡ i + length a → drop j xs ≡ b
behind xs zero j a b e same =
    let is : j ≡ length a = omega (arith, same) in
    ap (λ (k : ℕ). drop k xs) is ∙ ap (λ (l : List NetId). drop (length a) l) e ∙ drop_front a b
behind [] (suc i) j a b e same = drop_none j ∙ sym (no_more a b e)
behind (x ∷ xs) (suc i) zero a b e same = absurd (omega (arith, same))
behind (x ∷ xs) (suc i) (suc j) a b e same = let less : j ≡ i + length a = omega (arith, same) in behind xs i j a b e less

front_at : (a b : List NetId) (k : ℕ) (n : NetId) → slice_get a k ≡ Some n → slice_get (a ++ b) k ≡ Some n
front_at [] b k n at = absurd (none-some n at)
front_at (x ∷ a) b zero n at = at
front_at (x ∷ a) b (suc k) n at = front_at a b k n at

dropped_at : (xs : List NetId) (i j k : ℕ) (n : NetId) → slice_get (drop i xs) k ≡ Some n → j ≡ i + k → slice_get xs j ≡ Some n
dropped_at xs zero j k n at same = let is : j ≡ k = omega (arith, same) in ap (λ (m : ℕ). slice_get xs m) is ∙ at
dropped_at [] (suc i) j k n at same = absurd (none-some n at)
dropped_at (x ∷ xs) (suc i) zero k n at same = absurd (omega (arith, same))
dropped_at (x ∷ xs) (suc i) (suc j) k n at same = let less : j ≡ i + k = omega (arith, same) in dropped_at xs i j k n at less

pub next_at : (xs : List NetId) (i k : ℕ) (a b : List NetId) (n : NetId) → drop i xs ≡ a ++ b → slice_get a k ≡ Some n → slice_get xs (i + k) ≡ Some n
next_at xs i k a b n e at = dropped_at xs i (i + k) k n (subst (λ (l : List NetId). slice_get l k ≡ Some n) (sym e) (front_at a b k n at)) refl

pub within : (xs : List NetId) (i : ℕ) (a b : List NetId) → i ≤ length xs → drop i xs ≡ a ++ b → i + length a ≤ length xs
within xs i a b low e =
    let rest : length (a ++ b) ≡ length xs - i = ap (λ (l : List NetId). length l) (sym e) ∙ length-drop i xs in
    omega (arith, rest, length-append a b, low)

pub at_end : (xs : List NetId) (i : ℕ) → i ≤ length xs → drop i xs ≡ [] → length xs ≤ i
at_end xs i low e =
    let rest : length xs - i ≡ 0 = sym (length-drop i xs) ∙ ap (λ (l : List NetId). length l) e in
    omega (arith, rest, low)

pub ports_from : (ports : List Port) (k : ℕ) (port : Port) → k < length ports → port ≡ get_or ports k port → port_bits (drop k ports) ≡ port.nets ++ port_bits (drop (k + 1) ports)
ports_from [] k port low is = absurd (omega (arith, low))
ports_from (p ∷ ports) zero port low is = ap (λ (q : Port). q.nets ++ port_bits ports) (sym is)
ports_from (p ∷ ports) (suc k) port low is =
    let less : k < length ports = omega (arith, low) in
    let s : suc k + 1 ≡ suc (k + 1) = omega arith in
    subst (λ (j : ℕ). port_bits (drop k ports) ≡ port.nets ++ port_bits (drop j (p ∷ ports))) (sym s) (ports_from ports k port less is)

-- the nets of the next port stand where the walk has come to
pub port_step : (bits : List NetId) (ports : List Port) (i k : ℕ) (port : Port) (nets : List NetId) → drop i bits ≡ port_bits (drop k ports) → k < length ports → port ≡ get_or ports k port → nets ≡ (get_or ports k port).nets
    → drop i bits ≡ nets ++ port_bits (drop (k + 1) ports)
port_step bits ports i k port nets rest low is same =
    rest ∙ ports_from ports k port low is ∙ ap (λ (ns : List NetId). ns ++ port_bits (drop (k + 1) ports)) (ap (λ (p : Port). p.nets) is ∙ sym same)

pub last_port : (bits : List NetId) (ports : List Port) (i k : ℕ) → i ≤ length bits → drop i bits ≡ port_bits (drop k ports) → length ports ≤ k → length bits ≤ i
last_port bits ports i k low rest past = at_end bits i low (rest ∙ ap (λ (ps : List Port). port_bits ps) (drop_all k ports past))
