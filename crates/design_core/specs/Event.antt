-- What an event makes of a valuation, and the history of a list of events.
-- The rules are told in docs/RULES.md, "After an event" and "History".
use Rattle.std.specs.Prelude.{◌≡◌, ◌<◌, ℕ, ◌==◌, ◌&&◌, Bool, if◌then◌else◌, Option, Some, None, List, [], ◌∷◌, slice_get, unwrap_or}
use Rattle.std.specs.Option.{option_or}
use Rattle.id_arena.specs.declared.keys.NetId.{NetId}
use Rattle.design_core.specs.declared.element.Edge.{Edge}
use Rattle.design_core.specs.declared.element.Element.{Element}
use Rattle.design_core.specs.declared.element.Element.TheVariants as element
use Rattle.design_core.specs.declared.element.Memory.{Memory}
use Rattle.design_core.specs.declared.element.ReadPort.{ReadPort}
use Rattle.design_core.specs.declared.element.WritePort.{WritePort}
use Rattle.design_core.specs.declared.element.Driver.TheVariants.{Input}
use Rattle.design_core.specs.declared.parts.Parts.{Parts}
use Rattle.design_core.specs.declared.values.PortBit.{PortBit}
use Rattle.design_core.specs.Operation.{op_value}
use Rattle.design_core.specs.Design.{net_count, driver}
use Rattle.design_core.specs.Valuation.{Valuation, values, shown_number, addressed_bit, forced, passed, has_edge, acts, IsAddress, SameValues}
use Rattle.design_core.specs.Settled.{ConstantsHold, IsReadBit, ReadsHold, Opening, IsOpened}

-- the value that an event gives to a net, if it gives one; where it gives several, the last counts
abbrev pub given : List PortBit → ℕ → Option Bool
given [] n = None
given (b ∷ bs) n = option_or (given bs n) (if b.net.place == n then Some b.value else None)

-- A gate shows its function of its inputs after the event. A flip-flop shows what its resets force
-- after it; else its data from before, where its clock has its edge; else its old value. A latch shows
-- what it passes after the event, else its old value.
abbrev pub ElementFollows : Valuation → Valuation → Element → Type 0
ElementFollows v w (element.Gate op inputs output) = w.net output.place ≡ op_value op (values w inputs)
ElementFollows v w (element.Flop f) =
    w.net f.q.place
    ≡ unwrap_or (forced f.clear f.preset w)
    (if has_edge v w f.clock f.rise then v.net f.feed.place else v.net f.q.place)
ElementFollows v w (element.Latch l) = w.net l.q.place ≡ unwrap_or (passed l w) (v.net l.q.place)
ElementFollows v w (element.Memory m) = Unit {0}

-- a write port stores where its clock has its edge and its enable acted before the event
abbrev pub stores : Valuation → Valuation → WritePort → Bool
stores v w port = has_edge v w port.clock port.rise && acts v port.enable

-- A word after some write ports have acted in order, so that a later port wins. A port that stores
-- puts its data from before the event at its address from before.
abbrev pub written : Valuation → Valuation → List WritePort → ℕ → ℕ → ℕ
written v w [] a old = old
written v w (port ∷ ports) a old =
    written v w ports a
    (if stores v w port && (shown_number v port.address == a) then shown_number v port.feed else old)

-- A read port whose clock has its edge shows the word as it was before the writes of the event, at the
-- address that stood before the event. Without its edge it shows what it showed.
abbrev pub ClockedReadsFollow : Parts → Valuation → Valuation → Type 0
ClockedReadsFollow p v w =
    (m r b : ℕ) (port : ReadPort) (edge : Edge) (n : NetId)
    → IsReadBit p m r b port n
    → port.clock ≡ Some edge
    → w.net n.place ≡ (if has_edge v w edge.net edge.rise then addressed_bit v m port b else v.net n.place)

-- the valuation `w` after an event that gives values to inputs, from the valuation `v` before it
pub record IsAfter (p : Parts) (v : Valuation) (event : List PortBit) (w : Valuation) : Type 0 where
  pub constants : ConstantsHold p w
  pub inputs : (n : ℕ) → n < net_count p → driver p n ≡ Input → w.net n ≡ unwrap_or (given event n) (v.net n)
  pub elements : (k : ℕ) (e : Element) → slice_get p.elements k ≡ Some e → ElementFollows v w e
  pub words : (m a : ℕ) (memory : Memory) → slice_get p.memories m ≡ Some memory → IsAddress p m a
      → w.word m a ≡ written v w memory.writes a (v.word m a)
  pub reads : ReadsHold p w
  pub clocked : ClockedReadsFollow p v w

-- each valuation is the one after the next event
abbrev pub Follow : Parts → Valuation → List (List PortBit) → List Valuation → Type 0
Follow p v [] [] = Unit {0}
Follow p v (e ∷ es) (w ∷ ws) = IsAfter p v e w × Follow p w es ws
Follow p v [] (w ∷ ws) = ⊥
Follow p v (e ∷ es) [] = ⊥

-- a history: the opened valuation, and then one valuation after each event
abbrev pub IsHistory : Parts → Opening → List (List PortBit) → List Valuation → Type 0
IsHistory p o events [] = ⊥
IsHistory p o events (v ∷ vs) = IsOpened p o v × Follow p v events vs

-- two lists of valuations are the same one by one
abbrev pub SameHistory : Parts → List Valuation → List Valuation → Type 0
SameHistory p [] [] = Unit {0}
SameHistory p (v ∷ vs) (w ∷ ws) = SameValues p v w × SameHistory p vs ws
SameHistory p [] (w ∷ ws) = ⊥
SameHistory p (v ∷ vs) [] = ⊥

-- there is exactly one history of an opening and events
pub record HasOneHistory (p : Parts) (o : Opening) (events : List (List PortBit)) : Type 0 where
  pub history : List Valuation
  pub is_one : IsHistory p o events history
  pub only : (others : List Valuation) → IsHistory p o events others → SameHistory p history others
