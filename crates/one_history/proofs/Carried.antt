-- What an event makes of a valuation depends on no more of it than the nets and words of the design.
use Rattle.std.proofs.Common.{◌≡◌, ℕ, suc, ◌<◌, Bool, not, List, [], ◌∷◌, ◌++◌, map, refl, sym, ap, ◌∙◌, if◌then◌else◌}
use Rattle.std.specs.Prelude.{◌==◌, ◌&&◌, Some, slice_get, unwrap_or}
use Rattle.id_arena.specs.declared.keys.NetId.{NetId}
use Rattle.design_core.specs.declared.element.Element.{Element}
use Rattle.design_core.specs.declared.element.Element.TheVariants as element
use Rattle.design_core.specs.declared.element.ReadPort.{ReadPort}
use Rattle.design_core.specs.declared.element.WritePort.{WritePort}
use Rattle.design_core.specs.declared.node.NodeId.TheVariants.{Net}
use Rattle.design_core.specs.declared.parts.Parts.{Parts}
use Rattle.design_core.specs.declared.values.PortBit.{PortBit}
use Rattle.design_core.specs.Operation.{number, bit_of}
use Rattle.design_core.specs.Design.{IsDesign, net_count, element_reads, write_reads}
use Rattle.design_core.specs.Valuation.{Valuation, values, shown_number, addressed_bit, has_edge, acts, forced, passed, IsAddress, SameValues}
use Rattle.design_core.specs.Settled.{IsReadBit}
use Rattle.design_core.specs.Event.{given, ElementFollows, stores, written, ClockedReadsFollow, IsAfter}
use Rattle.facts.proofs.Tests.{same_number}
use Rattle.history_law.proofs.Naming.{element_is_driver, read_bit_is_driver}
use Rattle.history_law.proofs.Afterwards.{address_bound}
use Rattle.history_law.proofs.Ranges.{Each, Within, within_left, within_right, within_each, element_within, write_within, address_within, read_clock_within, InRange}

module _ (p : Parts) (v u : Valuation) (same : SameValues p v u) where
  values_carry : (nets : List NetId) → Each (InRange p) (map Net nets) → values u nets ≡ values v nets
  values_carry [] h = refl
  values_carry (n ∷ nets) h =
      ap (λ b. b ∷ values u nets) (sym (same.nets n.place h.0)) ∙ ap (λ bs. v.net n.place ∷ bs) (values_carry nets h.1)

  module _ (w : Valuation) where
    edge_carry : (clock : NetId) (rise : Bool) → clock.place < net_count p → has_edge u w clock rise ≡ has_edge v w clock rise
    edge_carry clock rise small =
        ap (λ b. if rise then not b && w.net clock.place else b && not (w.net clock.place)) (sym (same.nets clock.place small))

    stores_carry : (port : WritePort) → Each (InRange p) (map Net (write_reads port)) → stores u w port ≡ stores v w port
    stores_carry port h =
        ap (λ b. b && acts u port.enable) (edge_carry port.clock port.rise h.0)
        ∙ ap (λ b. has_edge v w port.clock port.rise && (if port.enable.high then b else not b)) (sym (same.nets port.enable.net.place h.1.0))

    abbrev put : Bool → ℕ → ℕ → ℕ → ℕ → ℕ
    put stored address a feed old = if stored && (address == a) then feed else old

    one_carry : (port : WritePort) (a old : ℕ) → Within p (write_reads port) → put (stores u w port) (shown_number u port.address) a (shown_number u port.feed) old ≡ put (stores v w port) (shown_number v port.address) a (shown_number v port.feed) old
    one_carry port a old h =
        let pins : Within p (port.address ++ port.feed) = within_right p (port.clock ∷ port.enable.net ∷ []) (port.address ++ port.feed) h in
        let address : values u port.address ≡ values v port.address =
        values_carry port.address (within_each p port.address (within_left p port.address port.feed pins)) in
        let feed : values u port.feed ≡ values v port.feed =
        values_carry port.feed (within_each p port.feed (within_right p port.address port.feed pins)) in
        ap (λ b. put b (shown_number u port.address) a (shown_number u port.feed) old) (stores_carry port (within_each p (write_reads port) h))
        ∙ ap (λ bs. put (stores v w port) (number bs) a (shown_number u port.feed) old) address
        ∙ ap (λ bs. put (stores v w port) (shown_number v port.address) a (number bs) old) feed

    written_carry : (ports : List WritePort) (a old : ℕ) → ((k : ℕ) (port : WritePort) → slice_get ports k ≡ Some port → Within p (write_reads port)) → written u w ports a old ≡ written v w ports a old
    written_carry [] a old h = refl
    written_carry (port ∷ ports) a old h =
        ap (written u w ports a) (one_carry port a old (h 0 port refl)) ∙ written_carry ports a _ (λ k. h (suc k))

    module _ (d : IsDesign p) where
      element_carries : (k : ℕ) (e : Element) → slice_get p.elements k ≡ Some e → Each (InRange p) (map Net (element_reads e)) → ElementFollows u w e → ElementFollows v w e
      element_carries k (element.Gate op inputs output) at reads h = h
      element_carries k (element.Flop f) at reads h =
          let q : f.q.place < net_count p = (element_is_driver p k f.q.place (element.Flop f) d at (same_number f.q.place f.q.place refl)).0 in
          h
          ∙ ap (λ b. unwrap_or (forced f.clear f.preset w) (if b then u.net f.feed.place else u.net f.q.place)) (edge_carry f.clock f.rise reads.0)
          ∙ ap (λ b. unwrap_or (forced f.clear f.preset w) (if has_edge v w f.clock f.rise then b else u.net f.q.place)) (sym (same.nets f.feed.place reads.1.0))
          ∙ ap (λ b. unwrap_or (forced f.clear f.preset w) (if has_edge v w f.clock f.rise then v.net f.feed.place else b)) (sym (same.nets f.q.place q))
      element_carries k (element.Latch l) at reads h =
          let q : l.q.place < net_count p = (element_is_driver p k l.q.place (element.Latch l) d at (same_number l.q.place l.q.place refl)).0 in
          h ∙ ap (unwrap_or (passed l w)) (sym (same.nets l.q.place q))
      element_carries k (element.Memory m) at reads h = tt

      addressed_carries : (m r b : ℕ) (port : ReadPort) (n : NetId) → IsReadBit p m r b port n → addressed_bit u m port b ≡ addressed_bit v m port b
      addressed_carries m r b port n is =
          let address : values u port.address ≡ values v port.address =
          values_carry port.address (within_each p port.address (address_within p d m r is.memory port is.is_memory is.is_port)) in
          let there : IsAddress p m (shown_number v port.address) =
          (is.memory, is.is_memory, address_bound p v m r is.memory port d is.is_memory is.is_port) in
          ap (λ bs. bit_of (u.word m (number bs)) b) address
          ∙ ap (λ x. bit_of x b) (sym (same.words m (shown_number v port.address) there))

      reads_carry : ClockedReadsFollow p u w → ClockedReadsFollow p v w
      reads_carry h m r b port edge n is clocked =
          let clock = read_clock_within p d m r is.memory port edge is.is_memory is.is_port clocked in
          let own : n.place < net_count p = (read_bit_is_driver p m r b is.memory port n d is.is_memory is.is_port is.is_bit).0 in
          h m r b port edge n is clocked
          ∙ ap (λ t. if t then addressed_bit u m port b else u.net n.place) (edge_carry edge.net edge.rise clock)
          ∙ ap (λ x. if has_edge v w edge.net edge.rise then x else u.net n.place) (addressed_carries m r b port n is)
          ∙ ap (λ x. if has_edge v w edge.net edge.rise then addressed_bit v m port b else x) (sym (same.nets n.place own))

      pub after_carries : (event : List PortBit) → IsAfter p u event w → IsAfter p v event w
      after_carries event h =
          record {
            constants = h.constants;
            inputs = λ n small driven. h.inputs n small driven ∙ ap (unwrap_or (given event n)) (sym (same.nets n small));
            elements = λ k e at. element_carries k e at (within_each p (element_reads e) (element_within p d k e at)) (h.elements k e at);
            words = λ m a memory at address.
                h.words m a memory at address
                ∙ ap (written u w memory.writes a) (sym (same.words m a address))
                ∙ written_carry memory.writes a (v.word m a) (λ k port in_port. write_within p d m k memory port at in_port);
            reads = h.reads;
            clocked = reads_carry h.clocked;
          }
