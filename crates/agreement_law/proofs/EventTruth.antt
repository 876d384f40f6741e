-- The facts of an event of a group, and of the event that gives nothing.
use Rattle.std.proofs.Common.{◌≡◌, ℕ, zero, suc, ◌<◌, arith, Bool, true, false, List, [], ◌∷◌, length, get_or, refl, subst, sym, ap, ◌∙◌, inl, inr}
use Rattle.std.specs.Prelude.{◌⊎◌, Option, Some, None, slice_get, option_and_then, Contains}
use Rattle.std.proofs.lemmas.Option.{none-some, slice_get_within, slice_get-get_or}
use Rattle.id_arena.specs.declared.keys.MemId.{MemId}
use Rattle.design_core.specs.declared.element.Memory.{Memory}
use Rattle.design_core.specs.declared.element.WritePort.{WritePort}
use Rattle.design_core.specs.declared.node.NodeId.{NodeId}
use Rattle.design_core.specs.declared.node.NodeId.TheVariants.{Net, Write}
use Rattle.design_core.specs.declared.parts.Parts.{Parts}
use Rattle.design_core.specs.declared.values.PortBit.{PortBit}
use Rattle.design_core.specs.Design.{IsDesign}
use Rattle.design_core.specs.Valuation.{Valuation}
use Rattle.design_core.specs.Settled.{IsSettled}
use Rattle.design_core.specs.Event.{IsAfter}
use Rattle.design_core.specs.Dependency.{IsRanked, dependencies, write_needs, write_needs_at}
use Rattle.design_core.specs.Influence.{Group, IsInfluence, over}
use Rattle.marks_law.specs.Facts.{DriverFacts, EventFacts}
use Rattle.history_law.proofs.Naming.{element_is_driver, driver_is_element, read_bit_is_driver, input_bit_is_input}
use Rattle.history_law.proofs.Following.{events_keep_settled}
use Rattle.history_law.proofs.Untouched.{after_nothing, not_inside, outside_stays, outside_stores_nothing}
use Rattle.history_law.proofs.Afterwards.{stores_nothing}

and_then_is : {X : Type 0} {Y : Type 0} (f : X → Option Y) (o : Option X) (y : Y) → option_and_then f o ≡ Some y → (x : X) × (o ≡ Some x) × (f x ≡ Some y)
and_then_is f None y h = absurd (none-some y h)
and_then_is f (Some x) y h = (x, refl, h)

driver_facts : (p : Parts) → IsDesign p → DriverFacts p
driver_facts p d =
    record {
      element = λ n e h. driver_is_element p n e h;
      in_range = λ n e h. let f = driver_is_element p n e h in (element_is_driver p e.place n f.0 d f.1 f.2).0;
      inputs = λ n h. (input_bit_is_input p n d h).1;
      read_bits = λ m r b memory port n at in_port in_bit. (read_bit_is_driver p m r b memory port n d at in_port in_bit).0;
    }

-- ## An event of a group

below_next : (j k : ℕ) → j < suc k → (j ≡ k) ⊎ (j < k)
below_next zero zero h = inl refl
below_next zero (suc k) h = let low : 0 < suc k = omega arith in inr low
below_next (suc j) zero h = absurd (omega arith)
below_next (suc j) (suc k) h =
    let less : j < suc k = omega arith in
    elim (below_next j k less) [ inl e ↦ inl (ap suc e) | inr l ↦ let low : suc j < suc k = omega arith in inr low ]

module _ (p : Parts) (g : Group) (inside : NodeId → Bool) (i : IsInfluence p g inside) where
  -- a write port that is not reached comes after ports that are not reached
  port_before : (m : MemId) (k : ℕ) (memory : Memory) (port : WritePort) → slice_get p.memories m.place ≡ Some memory → slice_get memory.writes (suc k) ≡ Some port
      → inside (Write m (suc k)) ≡ false → inside (Write m k) ≡ false
  port_before m k memory port at in_port out = go (inside (Write m k)) refl
    where
      needs : dependencies p (Write m (suc k)) ≡ Net port.clock ∷ Write m k ∷ []
      needs = ap (write_needs_at m (suc k)) at ∙ ap (write_needs m (suc k)) in_port

      second : Contains (Net port.clock ∷ Write m k ∷ []) (Write m k)
      second = let low : 1 < length (Net port.clock ∷ Write m k ∷ []) = omega arith in (1, low, refl)

      go : (b : Bool) → inside (Write m k) ≡ b → inside (Write m k) ≡ false
      go false e = e
      go true e =
          absurd (not_inside p g inside i (Write m (suc k)) out (over (Write m (suc k)) (Write m k) (subst (λ nodes. Contains nodes (Write m k)) (sym needs) second) ((i (Write m k)).0 e)))

  ports_before : (m : MemId) (memory : Memory) → slice_get p.memories m.place ≡ Some memory → (k j : ℕ) (port : WritePort) → j < k → slice_get memory.writes k ≡ Some port
      → inside (Write m k) ≡ false → inside (Write m j) ≡ false
  ports_before m memory at zero j port less in_port out = absurd (omega arith)
  ports_before m memory at (suc k) j port less in_port out =
      let last : suc k < length memory.writes = slice_get_within memory.writes (suc k) port in_port in
      let within : k < length memory.writes = omega arith in
      let here : inside (Write m k) ≡ false = port_before m k memory port at in_port out in
      elim (below_next j k less) [
        | inl e ↦ ap (λ (n : ℕ). inside (Write m n)) e ∙ here
        | inr l ↦ ports_before m memory at k j (get_or memory.writes k port) l (slice_get-get_or memory.writes k port within) here
      ]

  pub event_facts : (v : Valuation) (event : List PortBit) (w : Valuation) → IsDesign p → IsRanked p → IsSettled p v → IsAfter p v event w
      → ((b : PortBit) → Contains event b → Contains g.nets b.net)
      → EventFacts p inside v event w
  event_facts v event w d r settled after mine =
      record {
        drivers = driver_facts p d;
        settled = settled;
        stays_settled = events_keep_settled p v event w d settled after;
        follows = after;
        nets = outside_stays p v event w g inside d r settled after i mine;
        writes = λ m k port at out.
            let f = and_then_is (λ (memory : Memory). slice_get memory.writes k) (slice_get p.memories m.place) port at in
            outside_stores_nothing p v event w g inside d r settled after i mine m k f.0 port f.1 f.2 out;
        in_order = λ m j k port less at out.
            let f = and_then_is (λ (memory : Memory). slice_get memory.writes k) (slice_get p.memories m.place) port at in
            ports_before m f.0 f.1 k j port less f.2 out;
      }

-- ## The event that gives nothing

pub nothing_happens : (p : Parts) (v : Valuation) → IsDesign p → IsSettled p v → EventFacts p (λ a. true) v [] v
nothing_happens p v d settled =
    record {
      drivers = driver_facts p d;
      settled = settled;
      stays_settled = settled;
      follows = after_nothing p v d settled;
      nets = λ n low out. refl;
      writes = λ m k port at out. stores_nothing v v port refl;
      in_order = λ m j k port less at out. out;
    }
