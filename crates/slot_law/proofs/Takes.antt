-- What a register with an enable takes, where it stands for a flip-flop or for a bit of a read port with a clock.
use Rattle.std.proofs.Common.{◌≡◌, ℕ, Bool, true, false, List, refl, subst, sym, ap, ◌∙◌, if◌then◌else◌}
use Rattle.std.specs.Prelude.{◌||◌, Option, Some, None, unwrap_or, option_map, option_and_then, slice_get}
use Rattle.std.specs.Option.{option_map_or}
use Rattle.std.proofs.lemmas.Option.{none-some, same_Some}
use Rattle.id_arena.specs.declared.keys.NetId.{NetId}
use Rattle.id_arena.specs.declared.keys.ElemId.{ElemId}
use Rattle.id_arena.specs.declared.keys.MemId.{MemId}
use Rattle.id_arena.specs.declared.keys.ChipNetId.{ChipNetId}
use Rattle.design_core.specs.declared.element.Element.{Element}
use Rattle.design_core.specs.declared.element.Element.TheVariants as element
use Rattle.design_core.specs.declared.element.Edge.{Edge}
use Rattle.design_core.specs.declared.element.Flop.{Flop}
use Rattle.design_core.specs.declared.element.Memory.{Memory}
use Rattle.design_core.specs.declared.element.ReadPort.{ReadPort}
use Rattle.design_core.specs.declared.element.Driver.{Driver}
use Rattle.design_core.specs.declared.element.Driver.TheVariants as driven
use Rattle.design_core.specs.declared.node.NodeId.{NodeId}
use Rattle.design_core.specs.declared.parts.Parts.{Parts}
use Rattle.design_core.specs.declared.values.PortBit.{PortBit}
use Rattle.design_core.specs.Design.{driver, drives}
use Rattle.design_core.specs.Valuation.{Valuation, addressed_bit, reset_acts, has_edge}
use Rattle.design_core.specs.Settled.{IsReadBit}
use Rattle.design_core.specs.Event.{ElementFollows}
use Rattle.emu_machine.specs.declared.map.Subject.{Subject}
use Rattle.emu_machine.specs.declared.map.Subject.TheVariants.{Net, Up, Down, Take, Next, TakeWrite, Old, TakeRead}
use Rattle.emu_machine.specs.Results.{Results}
use Rattle.emu_machine.specs.Mapped.{subject, subject_value, as_flop, flop_at, flop_takes, flop_next, read_takes, design_read}
use Rattle.emu_machine.specs.Origins.{flop_loading, read_loading, driver_loading, loading_of, loading_fits}
use Rattle.marks_law.specs.Facts.{EventFacts}
use Rattle.facts.proofs.Tests.{no, left, right, number_same}
use Rattle.history_law.proofs.Naming.{driver_is_read_bit}
use Rattle.slot_law.proofs.Loads.{TakesUnder}

-- ## What a flip-flop takes

-- a flip-flop that takes nothing keeps its value
not_taken : (clear preset edge feed old new : Bool) → new ≡ unwrap_or (if clear then Some false else if preset then Some true else None) (if edge then feed else old) → (clear || preset || edge) ≡ false → new ≡ old
not_taken true preset edge feed old new h e = no (sym e)
not_taken false true edge feed old new h e = no (sym e)
not_taken false false true feed old new h e = no (sym e)
not_taken false false false feed old new h e = h

-- one that takes a value has it after the event
is_taken : (clear preset edge feed old new : Bool) → new ≡ unwrap_or (if clear then Some false else if preset then Some true else None) (if edge then feed else old) → (clear || preset || edge) ≡ true → new ≡ unwrap_or (if clear then Some false else if preset then Some true else None) feed
is_taken true preset edge feed old new h e = h
is_taken false true edge feed old new h e = h
is_taken false false true feed old new h e = h
is_taken false false false feed old new h e = no e

module _ (v w : Valuation) (f : Flop) (follows : ElementFollows v w (element.Flop f)) where
  -- so the output keeps its value
  flop_keeps : flop_takes v w f ≡ false → w.net f.q.place ≡ v.net f.q.place
  flop_keeps = not_taken (reset_acts w f.clear) (reset_acts w f.preset) (has_edge v w f.clock f.rise) (v.net f.feed.place) (v.net f.q.place) (w.net f.q.place) follows

  -- so the output shows what the flip-flop takes
  flop_shows : flop_takes v w f ≡ true → w.net f.q.place ≡ flop_next v w f
  flop_shows = is_taken (reset_acts w f.clear) (reset_acts w f.preset) (has_edge v w f.clock f.rise) (v.net f.feed.place) (v.net f.q.place) (w.net f.q.place) follows

-- what is taken as a flip-flop is one
as_flop_is : (e : Element) (f : Flop) → as_flop e ≡ Some f → e ≡ element.Flop f
as_flop_is (element.Gate op inputs output) f h = absurd (none-some f h)
as_flop_is (element.Flop g) f h = ap element.Flop (same_Some g f h)
as_flop_is (element.Latch l) f h = absurd (none-some f h)
as_flop_is (element.Memory m) f h = absurd (none-some f h)

module _ (p : Parts) (inside : NodeId → Bool) (v w : Valuation) (event : List PortBit) (facts : EventFacts p inside v event w) where
  -- the flip-flop of a net follows the event, and the net is its output
  follows : (net : NetId) (e : ElemId) (f : Flop) → driver p net.place ≡ driven.Elem e → flop_at p e.place ≡ Some f
      → (ElementFollows v w (element.Flop f)) × (f.q.place ≡ net.place)
  follows net e f by at =
      let there = facts.drivers.element net.place e by in
      let same : there.0 ≡ element.Flop f = as_flop_is there.0 f (sym (ap (option_and_then as_flop) there.1) ∙ at) in (
        subst (λ (x : Element). ElementFollows v w x) same (facts.follows.elements e.place there.0 there.1),
        number_same f.q.place net.place (subst (λ (x : Element). drives net.place x ≡ true) same there.2),
      )

  module _ (r : Results) (chip : ℕ) (q d enable : ChipNetId) where
    -- the output of a flip-flop
    by_flop : (net : NetId) (e : ElemId) → subject r chip q.place ≡ Some (Net net) → driver p net.place ≡ driven.Elem e → (o : Option Flop) → flop_at p e.place ≡ o
        → loading_fits r chip d enable (option_map (λ f. flop_loading e) o) ≡ true → TakesUnder p v w r chip q d enable
    by_flop net e is by None at h = no h
    by_flop net e is by (Some f) at h =
        let f_follows = follows net e f by at in
        let takes_is : subject_value p v w (Take e) ≡ flop_takes v w f = ap (λ o. option_map_or (flop_takes v w) o false) at in
        let next_is : subject_value p v w (Next e) ≡ flop_next v w f = ap (λ o. option_map_or (flop_next v w) o false) at in
        record {
          net = net;
          feed = Next e;
          take = Take e;
          is = is;
          feed_is = left _ _ h;
          take_is = right _ _ h;
          takes = λ t. ap w.net (sym f_follows.1) ∙ flop_shows v w f f_follows.0 (sym takes_is ∙ t) ∙ sym next_is;
          keeps = λ t. ap w.net (sym f_follows.1) ∙ flop_keeps v w f f_follows.0 (sym takes_is ∙ t) ∙ ap v.net f_follows.1;
        }

    -- ## Bits of read ports with a clock

    -- a bit of a read port takes its bit of the word from before at the clock's edge, and else keeps its value
    by_clock : (net : NetId) (m : MemId) (k b : ℕ) (port : ReadPort) (bit : NetId) → subject r chip q.place ≡ Some (Net net)
        → IsReadBit p m.place k b port bit → bit.place ≡ net.place → design_read p m.place k ≡ Some port
        → (o : Option Edge) → port.clock ≡ o
        → loading_fits r chip d enable (option_map (λ clock. record { feed = Old m k b; enable = TakeRead m k }) o) ≡ true → TakesUnder p v w r chip q d enable
    by_clock net m k b port bit is is_bit same at None clock h = no h
    by_clock net m k b port bit is is_bit same at (Some edge) clock h =
        let shown : w.net bit.place ≡ (if has_edge v w edge.net edge.rise then addressed_bit v m.place port b else v.net bit.place) =
        facts.follows.clocked m.place k b port edge bit is_bit clock in
        let takes_is : subject_value p v w (TakeRead m k) ≡ has_edge v w edge.net edge.rise =
        ap (λ o. option_map_or (read_takes v w) o false) at ∙ ap (λ o. option_map_or (λ (clock : Edge). has_edge v w clock.net clock.rise) o false) clock in
        let old_is : subject_value p v w (Old m k b) ≡ addressed_bit v m.place port b = ap (λ o. option_map_or (λ (port : ReadPort). addressed_bit v m.place port b) o false) at in
        record {
          net = net;
          feed = Old m k b;
          take = TakeRead m k;
          is = is;
          feed_is = left _ _ h;
          take_is = right _ _ h;
          takes = λ t. ap w.net (sym same) ∙ shown ∙ ap (λ e. if e then addressed_bit v m.place port b else v.net bit.place) (sym takes_is ∙ t) ∙ sym old_is;
          keeps = λ t. ap w.net (sym same) ∙ shown ∙ ap (λ e. if e then addressed_bit v m.place port b else v.net bit.place) (sym takes_is ∙ t) ∙ ap v.net same;
        }

    -- by the clock of the port that the bit belongs to
    by_read : (net : NetId) (m : MemId) (k b : ℕ) → subject r chip q.place ≡ Some (Net net) → driver p net.place ≡ driven.Read m k b
        → loading_fits r chip d enable (option_and_then (read_loading m k b) (design_read p m.place k)) ≡ true → TakesUnder p v w r chip q d enable
    by_read net m k b is by h =
        let f = driver_is_read_bit p net.place m k b by in
        let at : design_read p m.place k ≡ Some f.1 = ap (option_and_then (λ (memory : Memory). slice_get memory.reads k)) f.3 ∙ f.4 in
        by_clock net m k b f.1 f.2 is (record { memory = f.0; is_memory = f.3; is_port = f.4; is_bit = f.5 }) f.6 at f.1.clock refl
        (ap (λ o. loading_fits r chip d enable (option_and_then (read_loading m k b) o)) (sym at) ∙ h)

    -- ## What a register with an enable stands for

    -- by what drives the net of the register
    by_driver : (net : NetId) → subject r chip q.place ≡ Some (Net net) → (o : Driver) → driver p net.place ≡ o
        → loading_fits r chip d enable (driver_loading p o) ≡ true → TakesUnder p v w r chip q d enable
    by_driver net is (driven.Constant b) at h = no h
    by_driver net is driven.Input at h = no h
    by_driver net is (driven.Elem e) at h = by_flop net e is at (flop_at p e.place) refl h
    by_driver net is (driven.Read m k b) at h = by_read net m k b is at h

    -- by the subject of the register
    by_subject : (o : Option Subject) → subject r chip q.place ≡ o → loading_fits r chip d enable (loading_of p o) ≡ true → TakesUnder p v w r chip q d enable
    by_subject None at h = no h
    by_subject (Some (Net net)) at h = by_driver net at (driver p net.place) refl h
    by_subject (Some (Up n)) at h = no h
    by_subject (Some (Down n)) at h = no h
    by_subject (Some (Take e)) at h = no h
    by_subject (Some (Next e)) at h = no h
    by_subject (Some (TakeWrite m k)) at h = no h
    by_subject (Some (Old m k b)) at h = no h
    by_subject (Some (TakeRead m k)) at h = no h

    -- a register with an enable that fits stands for what takes under it
    pub takes_under : loading_fits r chip d enable (loading_of p (subject r chip q.place)) ≡ true → TakesUnder p v w r chip q d enable
    takes_under = by_subject (subject r chip q.place) refl
