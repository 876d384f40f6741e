-- Offered to the crates above: the valuation after an event solves the equations that start from the valuation
-- before it.
use Rattle.std.proofs.Common.{◌≡◌, ℕ, suc, ◌^◌, ◌<◌, pow-suc, arith, Bool, true, false, not, List, [], ◌∷◌, map, length, refl, subst, sym, ap, ◌∙◌, if◌then◌else◌}
use Rattle.std.proofs.lemmas.List.{length-map}
use Rattle.std.specs.Prelude.{◌==◌, ◌&&◌, Option, Some, None, slice_get, unwrap_or}
use Rattle.id_arena.specs.declared.keys.NetId.{NetId}
use Rattle.design_core.specs.declared.element.Edge.{Edge}
use Rattle.design_core.specs.declared.element.Element.{Element}
use Rattle.design_core.specs.declared.element.Element.TheVariants as element
use Rattle.design_core.specs.declared.element.Memory.{Memory}
use Rattle.design_core.specs.declared.element.ReadPort.{ReadPort}
use Rattle.design_core.specs.declared.element.WritePort.{WritePort}
use Rattle.design_core.specs.declared.parts.Parts.{Parts}
use Rattle.design_core.specs.declared.values.PortBit.{PortBit}
use Rattle.design_core.specs.Operation.{number, bit_of}
use Rattle.design_core.specs.Design.{IsDesign, ReadBit, memory_fits}
use Rattle.design_core.specs.Valuation.{Valuation, values, shown_number, addressed_bit, has_edge, acts, IsAddress}
use Rattle.design_core.specs.Settled.{IsReadBit}
use Rattle.design_core.specs.Event.{given, ElementFollows, stores, written, IsAfter}
use Rattle.facts.proofs.Places.{all_at}
use Rattle.facts.proofs.Tests.{no, left, right, number_same}
use Rattle.history_law.proofs.Naming.{read_bit}
use Rattle.design_core.specs.declared.node.NodeId.TheVariants.{Net}
use Rattle.design_core.specs.Dependency.{needs}
use Rattle.history_law.proofs.Ranges.{Each}
use Rattle.history_law.proofs.Equations.{Start, Equations, ElementShows, IsLocal, Same, read_shows}

abbrev pub state_after : Valuation → Valuation → Element → Bool
state_after v u (element.Gate op inputs output) = false
state_after v u (element.Flop f) = if has_edge v u f.clock f.rise then v.net f.feed.place else v.net f.q.place
state_after v u (element.Latch l) = v.net l.q.place
state_after v u (element.Memory m) = false

abbrev pub word_at : Valuation → Valuation → ℕ → ℕ → Option Memory → ℕ
word_at v u a old None = old
word_at v u a old (Some memory) = written v u memory.writes a old

-- a bit of a clocked read port takes its bit of the word from before, or stays
abbrev pub read_after : Valuation → Valuation → ReadBit → ReadPort → Edge → Bool
read_after v u x port edge =
    if has_edge v u edge.net edge.rise then addressed_bit v x.mem port x.bit else v.net x.net

abbrev pub after_start : Parts → Valuation → Start
after_start p v =
    record {
      state = λ u k e. state_after v u e;
      word = λ u m a. word_at v u a (v.word m a) (slice_get p.memories m);
      read = λ u x port edge. read_after v u x port edge;
    }

abbrev pub after_inputs : Valuation → List PortBit → ℕ → Bool
after_inputs v e n = unwrap_or (given e n) (v.net n)

-- ## Only clocks matter

module _ (v u w : Valuation) where
  pub edge_same : (clock : NetId) (rise : Bool) → u.net clock.place ≡ w.net clock.place → has_edge v u clock rise ≡ has_edge v w clock rise
  edge_same clock rise e =
      ap (λ b. if rise then not (v.net clock.place) && b else v.net clock.place && not b) e

  stores_same : (port : WritePort) → u.net port.clock.place ≡ w.net port.clock.place → stores v u port ≡ stores v w port
  stores_same port e = ap (λ b. b && acts v port.enable) (edge_same port.clock port.rise e)

  pub written_same : (ports : List WritePort) (a old : ℕ) → ((j : ℕ) (port : WritePort) → slice_get ports j ≡ Some port → u.net port.clock.place ≡ w.net port.clock.place) → written v u ports a old ≡ written v w ports a old
  written_same [] a old h = refl
  written_same (port ∷ ports) a old h =
      ap (λ b. written v u ports a (if b && (shown_number v port.address == a) then shown_number v port.feed else old)) (stores_same port (h 0 port refl))
      ∙ written_same ports a _ (λ j. h (suc j))

-- a port whose clock did not change stores nothing
pub no_edge : (rise b c : Bool) → b ≡ c → (if rise then not b && c else b && not c) ≡ false
no_edge true true true e = refl
no_edge true false false e = refl
no_edge false true true e = refl
no_edge false false false e = refl
no_edge rise true false e = no (sym e)
no_edge rise false true e = no e

module _ (v w : Valuation) where
  pub stores_nothing : (port : WritePort) → v.net port.clock.place ≡ w.net port.clock.place → stores v w port ≡ false
  stores_nothing port e = ap (λ b. b && acts v port.enable) (no_edge port.rise (v.net port.clock.place) (w.net port.clock.place) e)

  pub written_idle : (ports : List WritePort) (a old : ℕ) → ((j : ℕ) (port : WritePort) → slice_get ports j ≡ Some port → v.net port.clock.place ≡ w.net port.clock.place) → written v w ports a old ≡ old
  written_idle [] a old h = refl
  written_idle (port ∷ ports) a old h =
      ap (λ b. written v w ports a (if b && (shown_number v port.address == a) then shown_number v port.feed else old)) (stores_nothing port (h 0 port refl))
      ∙ written_idle ports a old (λ j. h (suc j))

state_same : (p : Parts) (v u w : Valuation) (e : Element) → Each (Same p u w) (map Net (needs e)) → state_after v u e ≡ state_after v w e
state_same p v u w (element.Gate op inputs output) h = refl
state_same p v u w (element.Flop f) h =
    ap (λ b. if b then v.net f.feed.place else v.net f.q.place) (edge_same v u w f.clock f.rise h.0)
state_same p v u w (element.Latch l) h = refl
state_same p v u w (element.Memory m) h = refl

pub after_local : (p : Parts) (v : Valuation) → IsLocal p (after_start p v)
after_local p v =
    record {
      state = λ u w k e h. state_same p v u w e h;
      word = λ u w m a memory at h.
          ap (word_at v u a (v.word m a)) at ∙ written_same v u w memory.writes a (v.word m a) h ∙ ap (word_at v w a (v.word m a)) (sym at);
      read = λ u w x port edge h.
          ap (λ b. if b then addressed_bit v x.mem port x.bit else v.net x.net) (edge_same v u w edge.net edge.rise h);
    }

-- ## Addresses

number_bound : (bs : List Bool) → number bs < 2 ^ length bs
number_bound [] = omega arith
number_bound (true ∷ bs) = omega (arith, pow-suc 2 (length bs), number_bound bs)
number_bound (false ∷ bs) = omega (arith, pow-suc 2 (length bs), number_bound bs)

-- so many nets show a number below 2 to as much
pub shown_bound : (u : Valuation) (nets : List NetId) (k : ℕ) → length nets ≡ k → shown_number u nets < 2 ^ k
shown_bound u nets k wide =
    let same : length (values u nets) ≡ k = length-map nets (λ (n : NetId). u.net n.place) ∙ wide in
    subst (λ (k : ℕ). shown_number u nets < 2 ^ k) same (number_bound (values u nets))

pub address_bound : (p : Parts) (u : Valuation) (m r : ℕ) (memory : Memory) (port : ReadPort) → IsDesign p → slice_get p.memories m ≡ Some memory → slice_get memory.reads r ≡ Some port → shown_number u port.address < 2 ^ memory.address_bits
address_bound p u m r memory port d at in_port =
    let fits : memory_fits memory ≡ true = all_at memory_fits p.memories m memory d.memories_fit at in
    let both = all_at _ memory.reads r port (right _ _ fits) in_port in
    shown_bound u port.address memory.address_bits (number_same _ _ (left _ _ both))

-- ## The equations after an event

follows_shows : (v w : Valuation) (e : Element) → ElementFollows v w e → ElementShows (state_after v w e) w e
follows_shows v w (element.Gate op inputs output) h = h
follows_shows v w (element.Flop f) h = h
follows_shows v w (element.Latch l) h = h
follows_shows v w (element.Memory m) h = tt

shows_follow : (v w : Valuation) (e : Element) → ElementShows (state_after v w e) w e → ElementFollows v w e
shows_follow v w (element.Gate op inputs output) h = h
shows_follow v w (element.Flop f) h = h
shows_follow v w (element.Latch l) h = h
shows_follow v w (element.Memory m) h = tt

module _ (p : Parts) (v : Valuation) (e : List PortBit) (w : Valuation) (d : IsDesign p) where
  pub after_equations : IsAfter p v e w → Equations p (after_start p v) (after_inputs v e) w
  after_equations h =
      record {
        constants = h.constants;
        inputs = h.inputs;
        elements = λ k x at. follows_shows v w x (h.elements k x at);
        reads = λ m r b port n is. bit_follows m r b port n is port.clock refl;
      }
    where
      bit_follows : (m r b : ℕ) (port : ReadPort) (n : NetId) → IsReadBit p m r b port n → (c : Option Edge) → port.clock ≡ c → w.net n.place ≡ read_shows (after_start p v) w (read_bit n.place m r b) port c
      bit_follows m r b port n is None free =
          let a : ℕ = shown_number w port.address in
          let there : IsAddress p m a = (is.memory, is.is_memory, address_bound p w m r is.memory port d is.is_memory is.is_port) in
          h.reads m r b port n is free
          ∙ ap (λ x. bit_of x b) (h.words m a is.memory is.is_memory there ∙ ap (word_at v w a (v.word m a)) (sym is.is_memory))
      bit_follows m r b port n is (Some edge) clocked = h.clocked m r b port edge n is clocked

  pub equations_after : Equations p (after_start p v) (after_inputs v e) w
      → ((m a : ℕ) (memory : Memory) → slice_get p.memories m ≡ Some memory → w.word m a ≡ word_at v w a (v.word m a) (slice_get p.memories m))
      → IsAfter p v e w
  equations_after h words =
      record {
        constants = h.constants;
        inputs = h.inputs;
        elements = λ k x at. shows_follow v w x (h.elements k x at);
        words = λ m a memory at address. words m a memory at ∙ ap (word_at v w a (v.word m a)) at;
        reads = λ m r b port n is free.
            h.reads m r b port n is
            ∙ ap (read_shows (after_start p v) w (read_bit n.place m r b) port) free
            ∙ ap (λ x. bit_of x b) (sym (words m (shown_number w port.address) is.memory is.is_memory));
        clocked = λ m r b port edge n is clocked.
            h.reads m r b port n is ∙ ap (read_shows (after_start p v) w (read_bit n.place m r b) port) clocked;
      }
