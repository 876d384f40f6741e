-- The opened valuation is the solution of the equations that start from what the opening gives.
use Rattle.std.proofs.Common.{◌≡◌, ℕ, Bool, refl, sym, ap, ◌∙◌}
use Rattle.std.specs.Prelude.{Option, Some, None, IfSome, IfNone, unwrap_or}
use Rattle.id_arena.specs.declared.keys.NetId.{NetId}
use Rattle.design_core.specs.declared.element.Edge.{Edge}
use Rattle.design_core.specs.declared.element.Element.{Element}
use Rattle.design_core.specs.declared.element.Element.TheVariants as element
use Rattle.design_core.specs.declared.element.ReadPort.{ReadPort}
use Rattle.design_core.specs.declared.parts.Parts.{Parts}
use Rattle.design_core.specs.Operation.{bit_of}
use Rattle.design_core.specs.Design.{IsDesign}
use Rattle.design_core.specs.Valuation.{Valuation, shown_number, forced, passed, IsAddress}
use Rattle.design_core.specs.Settled.{ElementHolds, IsReadBit, Opening, HasState, IsOpened}
use Rattle.history_law.proofs.Naming.{read_bit}
use Rattle.history_law.proofs.Following.{shown}
use Rattle.history_law.proofs.Equations.{Start, Equations, ElementShows, IsLocal, read_shows}
use Rattle.history_law.proofs.Afterwards.{address_bound}

abbrev pub open_start : Opening → Start
open_start o =
    record {
      state = λ u k e. o.states k;
      word = λ u m a. o.words m a;
      read = λ u x port edge. o.reads x.mem x.port x.bit;
    }

pub open_local : (p : Parts) (o : Opening) → IsLocal p (open_start o)
open_local p o =
    record {
      state = λ u w k e h. refl;
      word = λ u w m a memory at h. refl;
      read = λ u w x port edge h. refl;
    }

-- ## From the opening to the equations and back

joined : (o : Option Bool) (x d : Bool) → IfSome o (λ b. x ≡ b) → IfNone o (x ≡ d) → x ≡ unwrap_or o d
joined None x d h e = e
joined (Some b) x d h e = h

free : (o : Option Bool) (x d : Bool) → x ≡ unwrap_or o d → IfNone o (x ≡ d)
free None x d e = e
free (Some b) x d e = tt

module _ (v : Valuation) (state : Bool) where
  element_opens : (e : Element) → ElementHolds v e → HasState v state e → ElementShows state v e
  element_opens (element.Gate op inputs output) h g = h
  element_opens (element.Flop f) h g = joined (forced f.clear f.preset v) (v.net f.q.place) state h g
  element_opens (element.Latch l) h g = joined (passed l v) (v.net l.q.place) state h g
  element_opens (element.Memory m) h g = tt

  element_holds : (e : Element) → ElementShows state v e → ElementHolds v e
  element_holds (element.Gate op inputs output) h = h
  element_holds (element.Flop f) h = shown (forced f.clear f.preset v) (v.net f.q.place) state h
  element_holds (element.Latch l) h = shown (passed l v) (v.net l.q.place) state h
  element_holds (element.Memory m) h = tt

  element_state : (e : Element) → ElementShows state v e → HasState v state e
  element_state (element.Gate op inputs output) h = tt
  element_state (element.Flop f) h = free (forced f.clear f.preset v) (v.net f.q.place) state h
  element_state (element.Latch l) h = free (passed l v) (v.net l.q.place) state h
  element_state (element.Memory m) h = tt

module _ (p : Parts) (o : Opening) (v : Valuation) (d : IsDesign p) where
  pub open_equations : IsOpened p o v → Equations p (open_start o) o.inputs v
  open_equations h =
      record {
        constants = h.settled.constants;
        inputs = h.inputs;
        elements = λ k x at. element_opens v (o.states k) x (h.settled.elements k x at) (h.states k x at);
        reads = λ m r b port n is. bit_opens m r b port n is port.clock refl;
      }
    where
      bit_opens : (m r b : ℕ) (port : ReadPort) (n : NetId) → IsReadBit p m r b port n → (c : Option Edge) → port.clock ≡ c → v.net n.place ≡ read_shows (open_start o) v (read_bit n.place m r b) port c
      bit_opens m r b port n is None free =
          let there : IsAddress p m (shown_number v port.address) = (is.memory, is.is_memory, address_bound p v m r is.memory port d is.is_memory is.is_port) in
          h.settled.reads m r b port n is free ∙ ap (λ x. bit_of x b) (h.words m (shown_number v port.address) there)
      bit_opens m r b port n is (Some edge) clocked = h.reads m r b port edge n is clocked

  pub equations_open : Equations p (open_start o) o.inputs v → ((m a : ℕ) → v.word m a ≡ o.words m a) → IsOpened p o v
  equations_open h words =
      record {
        settled = record {
          constants = h.constants;
          elements = λ k x at. element_holds v (o.states k) x (h.elements k x at);
          reads = λ m r b port n is free.
              h.reads m r b port n is
              ∙ ap (read_shows (open_start o) v (read_bit n.place m r b) port) free
              ∙ ap (λ x. bit_of x b) (sym (words m (shown_number v port.address)));
        };
        inputs = h.inputs;
        words = λ m a address. words m a;
        states = λ k x at. element_state v (o.states k) x (h.elements k x at);
        reads = λ m r b port edge n is clocked.
            h.reads m r b port n is ∙ ap (read_shows (open_start o) v (read_bit n.place m r b) port) clocked;
      }
