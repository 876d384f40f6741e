-- Offered to the crates above: what a group does not reach stays as it is.
use Rattle.std.proofs.Common.{◌≡◌, ℕ, suc, ◌<◌, arith, Bool, true, false, List, [], ◌∷◌, length, refl, sym, ap, ◌∙◌, if◌then◌else◌}
use Rattle.std.specs.Prelude.{◌==◌, Option, Some, None, Contains, IfSome, unwrap_or, slice_get}
use Rattle.std.specs.Option.{option_or}
use Rattle.std.proofs.lemmas.Option.{slice_get_within}
use Rattle.id_arena.specs.declared.keys.NetId.{NetId}
use Rattle.id_arena.specs.declared.keys.MemId.{MemId}
use Rattle.design_core.specs.declared.element.Edge.{Edge}
use Rattle.design_core.specs.declared.element.Element.{Element}
use Rattle.design_core.specs.declared.element.Element.TheVariants as element
use Rattle.design_core.specs.declared.element.Memory.{Memory}
use Rattle.design_core.specs.declared.element.ReadPort.{ReadPort}
use Rattle.design_core.specs.declared.element.WritePort.{WritePort}
use Rattle.design_core.specs.declared.node.NodeId.{NodeId}
use Rattle.design_core.specs.declared.node.NodeId.TheVariants.{Net, Write}
use Rattle.design_core.specs.declared.parts.Parts.{Parts}
use Rattle.design_core.specs.declared.values.PortBit.{PortBit}
use Rattle.design_core.specs.Operation.{bit_of}
use Rattle.design_core.specs.Design.{IsDesign}
use Rattle.design_core.specs.Valuation.{Valuation, shown_number, addressed_bit, forced, passed}
use Rattle.design_core.specs.Settled.{IsReadBit, IsSettled, ElementHolds}
use Rattle.design_core.specs.Event.{IsAfter, given}
use Rattle.design_core.specs.Dependency.{dependencies, HasRank, IsRanked}
use Rattle.design_core.specs.Influence.{Group, IsInfluence, IsReached, seed, over}
use Rattle.history_law.specs.Outside.{OutsideStays, OutsideStoresNothing, OutsideKeepsWords}
use Rattle.facts.proofs.Tests.{no, number_same}
use Rattle.history_law.proofs.Naming.{read_bit}
use Rattle.history_law.proofs.Ranges.{InRange, each_in, dependencies_range}
use Rattle.history_law.proofs.Equations.{Equations, ElementShows, fixed_from, read_shows, solutions_agree, Same}
use Rattle.history_law.proofs.Afterwards.{after_start, after_inputs, after_local, after_equations, equations_after, state_after, word_at, no_edge, written_idle, stores_nothing}

-- ## A settled valuation is the one after no event

held : (o : Option Bool) (x d : Bool) → IfSome o (λ b. x ≡ b) → x ≡ d → x ≡ unwrap_or o d
held None x d h e = e
held (Some b) x d h e = h

holds_shows : (v : Valuation) (e : Element) → ElementHolds v e → ElementShows (state_after v v e) v e
holds_shows v (element.Gate op inputs output) h = h
holds_shows v (element.Flop f) h =
    held (forced f.clear f.preset v) (v.net f.q.place) _ h
    (sym (ap (λ b. if b then v.net f.feed.place else v.net f.q.place) (no_edge f.rise (v.net f.clock.place) (v.net f.clock.place) refl)))
holds_shows v (element.Latch l) h = held (passed l v) (v.net l.q.place) _ h refl
holds_shows v (element.Memory m) h = tt

settled_equations : (p : Parts) (v : Valuation) → IsSettled p v → Equations p (after_start p v) v.net v
settled_equations p v h =
    record {
      constants = h.constants;
      inputs = λ n small e. refl;
      elements = λ k x at. holds_shows v x (h.elements k x at);
      reads = λ m r b port n is. bit_shows m r b port n is port.clock refl;
    }
  where
    bit_shows : (m r b : ℕ) (port : ReadPort) (n : NetId) → IsReadBit p m r b port n → (c : Option Edge) → port.clock ≡ c → v.net n.place ≡ read_shows (after_start p v) v (read_bit n.place m r b) port c
    bit_shows m r b port n is None free =
        let a : ℕ = shown_number v port.address in
        h.reads m r b port n is free
        ∙ ap (λ x. bit_of x b)
        (sym (ap (word_at v v a (v.word m a)) is.is_memory ∙ written_idle v v is.memory.writes a (v.word m a) (λ j q in_q. refl)))
    bit_shows m r b port n is (Some edge) clocked =
        sym (ap (λ t. if t then addressed_bit v m port b else v.net n.place) (no_edge edge.rise (v.net edge.net.place) (v.net edge.net.place) refl))

-- where an event gives nothing, a settled valuation is the one after it
pub after_nothing : (p : Parts) (v : Valuation) → IsDesign p → IsSettled p v → IsAfter p v [] v
after_nothing p v d h =
    equations_after p v [] v d (settled_equations p v h)
    (λ m a memory at. sym (ap (word_at v v a (v.word m a)) at ∙ written_idle v v memory.writes a (v.word m a) (λ j port in_port. refl)))

-- ## Values that an event gives

given_none : (e : List PortBit) (n : ℕ) → ((b : PortBit) → Contains e b → b.net.place ≡ n → ⊥) → given e n ≡ None
given_none [] n h = refl
given_none (b ∷ bs) n h =
    go (b.net.place == n) refl (given_none bs n (λ c has. h c (later c has)))
  where
    later : (c : PortBit) → Contains bs c → Contains (b ∷ bs) c
    later c has =
        let low : has.0 < length bs = has.1 in
        let more : suc has.0 < length (b ∷ bs) = omega arith in
        (suc has.0, more, has.2)

    first : Contains (b ∷ bs) b
    first = let low : 0 < length (b ∷ bs) = omega arith in (0, low, refl)

    go : (t : Bool) → (b.net.place == n) ≡ t → given bs n ≡ None → given (b ∷ bs) n ≡ None
    go true e deep = absurd (h b first (number_same b.net.place n e))
    go false e deep =
        ap (λ o. option_or o (if b.net.place == n then Some b.value else None)) deep
        ∙ ap (λ (t : Bool). if t then Some b.value else None) e

-- a node outside the influence is not reached
pub not_inside : (p : Parts) (g : Group) (inside : NodeId → Bool) → IsInfluence p g inside → (a : NodeId) → inside a ≡ false → IsReached p g.nets a → ⊥
not_inside p g inside i a out h = no (sym out ∙ (i a).1 h)

module _ (p : Parts) (v : Valuation) (e : List PortBit) (w : Valuation) (g : Group) (inside : NodeId → Bool)
    (d : IsDesign p) (r : IsRanked p) (s : IsSettled p v) (after : IsAfter p v e w) (i : IsInfluence p g inside)
    (mine : (b : PortBit) → Contains e b → Contains g.nets b.net) where
  abbrev IsOutside : NodeId → Type 0
  IsOutside a = InRange p a × (inside a ≡ false)

  closed : (a b : NodeId) → IsOutside a → Contains (dependencies p a) b → IsOutside b
  closed a b h has = (each_in (InRange p) (dependencies p a) b (dependencies_range p d a) has, go (inside b) refl)
    where
      go : (t : Bool) → inside b ≡ t → inside b ≡ false
      go false q = q
      go true q = absurd (not_inside p g inside i a h.1 (over a b has ((i b).0 q)))

  not_given : (n : NetId) → inside (Net n) ≡ false → given e n.place ≡ None
  not_given n out =
      given_none e n.place
      (λ b has same. not_inside p g inside i (Net b.net) (ap (λ (k : ℕ). inside (Net (record { place = k }))) same ∙ out) (seed b.net (mine b has)))

  stays : (a : NodeId) (k : ℕ) → HasRank p a k → IsOutside a → Same p v w a
  stays =
      solutions_agree p (after_start p v) (after_local p v) v.net (after_inputs v e) v w
      (fixed_from p (after_start p v) v.net v (settled_equations p v s))
      (fixed_from p (after_start p v) (after_inputs v e) w (after_equations p v e w d after))
      IsOutside closed (λ n h. h.0)
      (λ n h driven. sym (ap (λ o. unwrap_or o (v.net n.place)) (not_given n h.1)))

pub outside_stays : OutsideStays
outside_stays p v e w g inside d r s after i mine n small out =
    let rank = r (Net n) small in
    sym (stays p v e w g inside d r s after i mine (Net n) rank.0 rank.1 (small, out))

-- the clock of a write port outside the influence stays
clock_stays : (p : Parts) (v : Valuation) (e : List PortBit) (w : Valuation) (g : Group) (inside : NodeId → Bool) → IsDesign p → IsRanked p → IsSettled p v → IsAfter p v e w → IsInfluence p g inside → ((b : PortBit) → Contains e b → Contains g.nets b.net) → (m : MemId) (k : ℕ) (memory : Memory) (port : WritePort) → slice_get p.memories m.place ≡ Some memory → slice_get memory.writes k ≡ Some port → inside (Write m k) ≡ false → v.net port.clock.place ≡ w.net port.clock.place
clock_stays p v e w g inside d r s after i mine m k memory port at in_port out =
    let rank = r (Write m k) (memory, at, slice_get_within memory.writes k port in_port) in
    stays p v e w g inside d r s after i mine (Write m k) rank.0 rank.1 (tt, out) memory port at in_port

pub outside_stores_nothing : OutsideStoresNothing
outside_stores_nothing p v e w g inside d r s after i mine m k memory port at in_port out =
    stores_nothing v w port (clock_stays p v e w g inside d r s after i mine m k memory port at in_port out)

pub outside_keeps_words : OutsideKeepsWords
outside_keeps_words p v e w g inside d r s after i mine m memory at out a address =
    after.words m.place a memory at address
    ∙ written_idle v w memory.writes a (v.word m.place a)
    (λ k port in_port.
    clock_stays p v e w g inside d r s after i mine m k memory port at in_port (out k (slice_get_within memory.writes k port in_port)))
