-- Offered to the crates above: the mark of each kind of gate is true of what the gate makes of inputs whose
-- marks are true.
use Rattle.std.proofs.Common.{◌≡◌, ℕ, Bool, true, false, not, List, [], ◌∷◌, map, refl, subst, sym, ap, ◌∙◌, inl, inr, if◌then◌else◌}
use Rattle.std.specs.Prelude.{◌&&◌, ◌||◌, ◌⊎◌, ◌<◌, Option, Some, None, slice_get, unwrap_or, option_map, option_and_then, IfSome, zip}
use Rattle.std.specs.List.{list_any}
use Rattle.std.specs.Option.{option_or, option_map_or}
use Rattle.id_arena.specs.declared.keys.NetId.{NetId}
use Rattle.id_arena.specs.declared.keys.ElemId.{ElemId}
use Rattle.id_arena.specs.declared.keys.MemId.{MemId}
use Rattle.design_core.specs.declared.operation.Op.{Op}
use Rattle.design_core.specs.declared.operation.Op.TheVariants.{Table}
use Rattle.design_core.specs.declared.element.Edge.{Edge}
use Rattle.design_core.specs.declared.element.Level.{Level}
use Rattle.design_core.specs.declared.element.Flop.{Flop}
use Rattle.design_core.specs.declared.element.Latch.{Latch}
use Rattle.design_core.specs.declared.element.ReadPort.{ReadPort}
use Rattle.design_core.specs.declared.element.WritePort.{WritePort}
use Rattle.design_core.specs.declared.element.Element.{Element}
use Rattle.design_core.specs.declared.element.Element.TheVariants as element
use Rattle.design_core.specs.declared.element.Driver.{Driver}
use Rattle.design_core.specs.declared.element.Driver.TheVariants as driven
use Rattle.design_core.specs.declared.node.NodeId.{NodeId}
use Rattle.design_core.specs.declared.parts.Parts.{Parts}
use Rattle.design_core.specs.declared.values.PortBit.{PortBit}
use Rattle.design_core.specs.Operation.{op_value, bit}
use Rattle.design_core.specs.Design.{net_count, driver, drives}
use Rattle.design_core.specs.Valuation.{Valuation, forced, acts, has_edge, reset_acts}
use Rattle.design_core.specs.Settled.{ElementHolds}
use Rattle.design_core.specs.Event.{ElementFollows, stores}
use Rattle.emu_machine.specs.declared.map.Subject.{Subject}
use Rattle.emu_machine.specs.declared.map.Subject.TheVariants.{Net, Up, Down, Take, Next, TakeWrite, Old, TakeRead}
use Rattle.emu_machine.specs.Mapped.{subject_value, flop_at, flop_takes, flop_next, read_takes, design_write, design_read}
use Rattle.emu_machine.specs.Marks.{Mark, all_after, has_some, after_if, copied_mark, latch_mark, edge_mark, next_mark, write_take_mark, read_take_mark, element_mark, driver_mark, gate_mark}
use Rattle.emu_machine.specs.Origins.{Origin, origin_of, net_origin, element_origin, latch_origin, take_origin, next_origin, write_take_origin, read_take_origin, is_design_net, table_of, acts_at, resets, forced_at, reset_subjects, edge_of, rise_function, fall_function, latch_function, take_function, next_function, write_take_function, read_take_function}
use Rattle.marks_law.specs.Facts.{EventFacts}
use Rattle.marks_law.specs.Truth.{MarkHolds}
use Rattle.facts.proofs.Tests.{left, right, number_same, below, either}
use Rattle.marks_law.proofs.Tables.{constant_bit}
use Rattle.marks_law.proofs.Inputs.{AreTrue, first_and_rest, ended, computes, before_values, after_values}

-- ## Resets, latches and flip-flops over values

forced_is : (u : Valuation) (clear preset : Option Level) → forced_at clear preset (map (λ level. u.net level.net.place) (resets clear preset)) ≡ forced clear preset u
forced_is u None None = refl
forced_is u None (Some preset) = refl
forced_is u (Some clear) None = refl
forced_is u (Some clear) (Some preset) = refl

taken_with : (edge a b : Bool) → (edge || (a || (b || false))) ≡ (a || b || edge)
taken_with true true true = refl
taken_with true true false = refl
taken_with true false true = refl
taken_with true false false = refl
taken_with false true true = refl
taken_with false true false = refl
taken_with false false true = refl
taken_with false false false = refl

taken_one : (edge a : Bool) → (edge || (a || false)) ≡ (a || false || edge)
taken_one true true = refl
taken_one true false = refl
taken_one false true = refl
taken_one false false = refl

taken_other : (edge a : Bool) → (edge || (a || false)) ≡ (false || a || edge)
taken_other true true = refl
taken_other true false = refl
taken_other false true = refl
taken_other false false = refl

taken_alone : (edge : Bool) → (edge || false) ≡ (false || false || edge)
taken_alone true = refl
taken_alone false = refl

takes_is : (u : Valuation) (edge : Bool) (clear preset : Option Level)
    → (edge || list_any (λ (level, b). acts_at level b) (zip (resets clear preset) (map (λ level. u.net level.net.place) (resets clear preset))))
    ≡ (reset_acts u clear || reset_acts u preset || edge)
takes_is u edge None None = taken_alone edge
takes_is u edge None (Some preset) = taken_other edge (acts u preset)
takes_is u edge (Some clear) None = taken_one edge (acts u clear)
takes_is u edge (Some clear) (Some preset) = taken_with edge (acts u clear) (acts u preset)

passes_before : (f : Option Bool) (passing feed q : Bool) → IfSome (option_or f (if passing then Some feed else None)) (λ b. q ≡ b) → unwrap_or f (if passing then feed else q) ≡ q
passes_before (Some b) passing feed q h = sym h
passes_before None true feed q h = sym h
passes_before None false feed q h = refl

-- where a latch passes nothing, its value before and after is the same, so that either will do as its hold
passes_after : (f : Option Bool) (passing feed old q hold : Bool) → q ≡ unwrap_or (option_or f (if passing then Some feed else None)) old
    → (hold ≡ old) ⊎ (hold ≡ q)
    → unwrap_or f (if passing then feed else hold) ≡ q
passes_after (Some b) passing feed old q hold h k = sym h
passes_after None true feed old q hold h k = sym h
passes_after None false feed old q hold h (inl k) = k ∙ sym h
passes_after None false feed old q hold h (inr k) = k

module _ (p : Parts) (inside : NodeId → Bool) (v w : Valuation) (event : List PortBit) (facts : EventFacts p inside v event w) where
  -- ## The gates of nets

  copied : (n : ℕ) (op : Op) (inputs : List NetId) (output : NetId)
      → output.place ≡ n
      → ElementHolds v (element.Gate op inputs output) → ElementHolds w (element.Gate op inputs output)
      → (word : Op) → word ≡ op
      → (ms : List Mark) (bs : List Bool) → AreTrue p v w (map Net inputs) ms bs
      → MarkHolds p v w (Net (record { place = n })) (copied_mark ms) (op_value word bs)
  copied n op inputs output at old new word e ms bs h =
      record {
        before = λ a. ap (λ (o : Op). op_value o bs) e ∙ ap (op_value op) (before_values p v w (λ (n : NetId). n) inputs ms bs h a) ∙ sym old ∙ ap v.net at;
        after = λ a. ap (λ (o : Op). op_value o bs) e ∙ ap (op_value op) (after_values p v w (λ (n : NetId). n) inputs ms bs h a) ∙ sym new ∙ ap w.net at;
      }

  hold_of : (n : ℕ) (q : NetId) → q.place ≡ n → (m : Mark) (b : Bool) → MarkHolds p v w (Net q) m b → has_some m ≡ true → (b ≡ v.net n) ⊎ (b ≡ w.net n)
  hold_of n q at m b t a = elim (either m.before m.after a) [ inl k ↦ inl (t.before k ∙ ap v.net at) | inr k ↦ inr (t.after k ∙ ap w.net at) ]

  latched_with : (n : ℕ) (l : Latch) → l.q.place ≡ n
      → ElementHolds v (element.Latch l) → ElementFollows v w (element.Latch l)
      → (m : Mark) (b : Bool) → MarkHolds p v w (Net l.gate.net) m b
      → (m2 : Mark) (b2 : Bool) → MarkHolds p v w (Net l.feed) m2 b2
      → (m3 : Mark) (b3 : Bool) → MarkHolds p v w (Net l.q) m3 b3
      → (ms : List Mark) (bs : List Bool) → AreTrue p v w (reset_subjects l.clear l.preset) ms bs
      → MarkHolds p v w (Net (record { place = n })) (latch_mark (m ∷ m2 ∷ m3 ∷ ms)) (latch_function l (b ∷ b2 ∷ b3 ∷ bs))
  latched_with n l at old new m b t m2 b2 t2 m3 b3 t3 ms bs h =
      record {
        before = λ a.
            ap (λ (c : Bool). latch_function l (c ∷ b2 ∷ b3 ∷ bs)) (t.before (left _ _ a))
            ∙ ap (λ (c : Bool). latch_function l (v.net l.gate.net.place ∷ c ∷ b3 ∷ bs)) (t2.before (left _ _ (right _ _ a)))
            ∙ ap (λ (c : Bool). latch_function l (v.net l.gate.net.place ∷ v.net l.feed.place ∷ c ∷ bs)) (t3.before (left _ _ (right _ _ (right _ _ a))))
            ∙ ap (λ (cs : List Bool). latch_function l (v.net l.gate.net.place ∷ v.net l.feed.place ∷ v.net l.q.place ∷ cs)) (before_values p v w (λ (level : Level). level.net) (resets l.clear l.preset) ms bs h (right m3.before _ (right m2.before _ (right m.before _ a))))
            ∙ ap (λ (f : Option Bool). unwrap_or f (if acts v l.gate then v.net l.feed.place else v.net l.q.place)) (forced_is v l.clear l.preset)
            ∙ passes_before (forced l.clear l.preset v) (acts v l.gate) (v.net l.feed.place) (v.net l.q.place) old
            ∙ ap v.net at;
        after = λ a.
            ap (λ (c : Bool). latch_function l (c ∷ b2 ∷ b3 ∷ bs)) (t.after (left _ _ (left _ _ (left _ _ a))))
            ∙ ap (λ (c : Bool). latch_function l (w.net l.gate.net.place ∷ c ∷ b3 ∷ bs)) (t2.after (right _ _ (left _ _ (left _ _ a))))
            ∙ ap (λ (cs : List Bool). latch_function l (w.net l.gate.net.place ∷ w.net l.feed.place ∷ b3 ∷ cs)) (after_values p v w (λ (level : Level). level.net) (resets l.clear l.preset) ms bs h (right _ _ (left _ _ a)))
            ∙ ap (λ (f : Option Bool). unwrap_or f (if acts w l.gate then w.net l.feed.place else b3)) (forced_is w l.clear l.preset)
            ∙ passes_after (forced l.clear l.preset w) (acts w l.gate) (w.net l.feed.place) (v.net l.q.place) (w.net l.q.place) b3 new (hold_of l.q.place l.q refl m3 b3 t3 (right _ _ a))
            ∙ ap w.net at;
      }

  latched : (n : ℕ) (l : Latch) → l.q.place ≡ n
      → ElementHolds v (element.Latch l) → ElementFollows v w (element.Latch l)
      → (ms : List Mark) (bs : List Bool) → AreTrue p v w (latch_origin l).inputs ms bs
      → MarkHolds p v w (Net (record { place = n })) (latch_mark ms) (latch_function l bs)
  latched n l at old new ms bs h =
      first_and_rest p v w (Net l.gate.net) (Net l.feed ∷ Net l.q ∷ reset_subjects l.clear l.preset)
      (λ ms bs. MarkHolds p v w (Net (record { place = n })) (latch_mark ms) (latch_function l bs))
      (λ m ms b bs t rest.
      first_and_rest p v w (Net l.feed) (Net l.q ∷ reset_subjects l.clear l.preset)
      (λ ms bs. MarkHolds p v w (Net (record { place = n })) (latch_mark (m ∷ ms)) (latch_function l (b ∷ bs)))
      (λ m2 ms2 b2 bs2 t2 rest2.
      first_and_rest p v w (Net l.q) (reset_subjects l.clear l.preset)
      (λ ms bs. MarkHolds p v w (Net (record { place = n })) (latch_mark (m ∷ m2 ∷ ms)) (latch_function l (b ∷ b2 ∷ bs)))
      (λ m3 ms3 b3 bs3 t3 rest3. latched_with n l at old new m b t m2 b2 t2 m3 b3 t3 ms3 bs3 rest3)
      ms2 bs2 rest2)
      ms bs rest)
      ms bs h

  -- what a gate is, by its origin: it has the operation, and its inputs are true of the subjects
  abbrev pub IsMade : Op → List Mark → List Bool → Option Origin → Type 0
  IsMade word ms bs None = ⊥
  IsMade word ms bs (Some origin) = (word ≡ origin.op) × AreTrue p v w origin.inputs ms bs

  of_element : (n : ℕ) (word : Op) (ms : List Mark) (bs : List Bool) (e : Element) → drives n e ≡ true
      → ElementHolds v e → ElementHolds w e → ElementFollows v w e
      → IsMade word ms bs (element_origin (Some e))
      → MarkHolds p v w (Net (record { place = n })) (element_mark (Some e) ms) (op_value word bs)
  of_element n word ms bs (element.Gate op inputs output) d old new follows h = copied n op inputs output (number_same _ _ d) old new word h.0 ms bs h.1
  of_element n word ms bs (element.Latch l) d old new follows h =
      subst
      (λ (b : Bool). MarkHolds p v w (Net (record { place = n })) (latch_mark ms) b)
      (sym (computes p v w word (latch_function l) (latch_origin l).inputs ms bs h.0 h.1))
      (latched n l (number_same _ _ d) old follows ms bs h.1)
  of_element n word ms bs (element.Flop f) d old new follows h = absurd h
  of_element n word ms bs (element.Memory m) d old new follows h = absurd h

  of_driver : (n : ℕ) (word : Op) (ms : List Mark) (bs : List Bool) → n < net_count p → (d : Driver) → driver p n ≡ d
      → IsMade word ms bs (net_origin p d)
      → MarkHolds p v w (Net (record { place = n })) (driver_mark p d ms) (op_value word bs)
  of_driver n word ms bs low (driven.Constant b) e h =
      let value : op_value word bs ≡ b = ap (λ (o : Op). op_value o bs) h.0 ∙ ended p v w (λ ms bs. op_value (Table (bit b)) bs ≡ b) (constant_bit b) ms bs h.1 in
      record { before = λ a. value ∙ sym (facts.settled.constants n b low e); after = λ a. value ∙ sym (facts.stays_settled.constants n b low e) }
  of_driver n word ms bs low (driven.Elem k) e h =
      let there : (el : Element) × (slice_get p.elements k.place ≡ Some el) × (drives n el ≡ true) = facts.drivers.element n k e in
      subst
      (λ (o : Option Element). MarkHolds p v w (Net (record { place = n })) (element_mark o ms) (op_value word bs))
      (sym there.1)
      (of_element n word ms bs there.0 there.2
      (facts.settled.elements k.place there.0 there.1)
      (facts.stays_settled.elements k.place there.0 there.1)
      (facts.follows.elements k.place there.0 there.1)
      (subst (λ (o : Option Element). IsMade word ms bs (element_origin o)) there.1 h))
  of_driver n word ms bs low driven.Input e h = absurd h
  of_driver n word ms bs low (driven.Read m r b) e h = absurd h

  of_net : (n : NetId) (word : Op) (ms : List Mark) (bs : List Bool) (b : Bool) → is_design_net p n ≡ b
      → IsMade word ms bs (if b then net_origin p (driver p n.place) else None)
      → MarkHolds p v w (Net n) (driver_mark p (driver p n.place) ms) (op_value word bs)
  of_net n word ms bs false e h = absurd h
  of_net n word ms bs true e h = of_driver n.place word ms bs (below _ _ e) (driver p n.place) refl h

  -- ## The gates of edges, takes and next values

  rises : (n : NetId) (word : Op) (ms : List Mark) (bs : List Bool) → word ≡ table_of 2 rise_function → AreTrue p v w (Net n ∷ Net n ∷ []) ms bs
      → MarkHolds p v w (Up n) (edge_mark ms) (op_value word bs)
  rises n word ms bs e h =
      subst (λ (b : Bool). MarkHolds p v w (Up n) (edge_mark ms) b) (sym (computes p v w word rise_function (Net n ∷ Net n ∷ []) ms bs e h))
      (first_and_rest p v w (Net n) (Net n ∷ []) (λ ms bs. MarkHolds p v w (Up n) (edge_mark ms) (rise_function bs))
      (λ m ms b bs t rest.
      first_and_rest p v w (Net n) [] (λ ms bs. MarkHolds p v w (Up n) (edge_mark (m ∷ ms)) (rise_function (b ∷ bs)))
      (λ m2 ms2 b2 bs2 t2 rest2.
      ended p v w (λ ms bs. MarkHolds p v w (Up n) (edge_mark (m ∷ m2 ∷ ms)) (rise_function (b ∷ b2 ∷ bs)))
      (record {
        before = λ a. tt;
        after = λ a. ap (λ (c : Bool). not c && b2) (t.before (left _ _ a)) ∙ ap (λ (c : Bool). not (v.net n.place) && c) (t2.after (right _ _ a));
      })
      ms2 bs2 rest2)
      ms bs rest)
      ms bs h)

  falls : (n : NetId) (word : Op) (ms : List Mark) (bs : List Bool) → word ≡ table_of 2 fall_function → AreTrue p v w (Net n ∷ Net n ∷ []) ms bs
      → MarkHolds p v w (Down n) (edge_mark ms) (op_value word bs)
  falls n word ms bs e h =
      subst (λ (b : Bool). MarkHolds p v w (Down n) (edge_mark ms) b) (sym (computes p v w word fall_function (Net n ∷ Net n ∷ []) ms bs e h))
      (first_and_rest p v w (Net n) (Net n ∷ []) (λ ms bs. MarkHolds p v w (Down n) (edge_mark ms) (fall_function bs))
      (λ m ms b bs t rest.
      first_and_rest p v w (Net n) [] (λ ms bs. MarkHolds p v w (Down n) (edge_mark (m ∷ ms)) (fall_function (b ∷ bs)))
      (λ m2 ms2 b2 bs2 t2 rest2.
      ended p v w (λ ms bs. MarkHolds p v w (Down n) (edge_mark (m ∷ m2 ∷ ms)) (fall_function (b ∷ b2 ∷ bs)))
      (record {
        before = λ a. tt;
        after = λ a. ap (λ (c : Bool). c && not b2) (t.before (left _ _ a)) ∙ ap (λ (c : Bool). v.net n.place && not c) (t2.after (right _ _ a));
      })
      ms2 bs2 rest2)
      ms bs rest)
      ms bs h)

  of_edge : (n : NetId) (what : Subject) (function : List Bool → Bool) (word : Op) (ms : List Mark) (bs : List Bool)
      → (word ≡ table_of 2 function → AreTrue p v w (Net n ∷ Net n ∷ []) ms bs → MarkHolds p v w what (edge_mark ms) (op_value word bs))
      → (b : Bool)
      → IsMade word ms bs (if b then Some (record { op = table_of 2 function; inputs = Net n ∷ Net n ∷ [] }) else None)
      → MarkHolds p v w what (edge_mark ms) (op_value word bs)
  of_edge n what function word ms bs shown false h = absurd h
  of_edge n what function word ms bs shown true h = shown h.0 h.1

  edge_value : (clock : NetId) (rise : Bool) → subject_value p v w (edge_of clock rise) ≡ has_edge v w clock rise
  edge_value clock true = refl
  edge_value clock false = refl

  takes : (e : ElemId) (f : Flop) (word : Op) (ms : List Mark) (bs : List Bool) → IsMade word ms bs (Some (take_origin f))
      → all_after ms ≡ true → op_value word bs ≡ flop_takes v w f
  takes e f word ms bs h a =
      computes p v w word (take_function f) (take_origin f).inputs ms bs h.0 h.1
      ∙ first_and_rest p v w (edge_of f.clock f.rise) (reset_subjects f.clear f.preset) (λ ms bs. all_after ms ≡ true → take_function f bs ≡ flop_takes v w f)
      (λ m ms b bs t rest a.
      ap (λ (c : Bool). take_function f (c ∷ bs)) (t.after (left _ _ a) ∙ edge_value f.clock f.rise)
      ∙ ap (λ (cs : List Bool). take_function f (has_edge v w f.clock f.rise ∷ cs)) (after_values p v w (λ (level : Level). level.net) (resets f.clear f.preset) ms bs rest (right _ _ a))
      ∙ takes_is w (has_edge v w f.clock f.rise) f.clear f.preset)
      ms bs h.1 a

  of_take : (e : ElemId) (word : Op) (ms : List Mark) (bs : List Bool) (o : Option Flop) → flop_at p e.place ≡ o
      → IsMade word ms bs (option_map take_origin o)
      → MarkHolds p v w (Take e) (after_if (all_after ms)) (op_value word bs)
  of_take e word ms bs None at h = absurd h
  of_take e word ms bs (Some f) at h =
      record { before = λ a. tt; after = λ a. takes e f word ms bs h a ∙ sym (ap (λ o. option_map_or (flop_takes v w) o false) at) }

  nexts : (f : Flop) (word : Op) (ms : List Mark) (bs : List Bool) → IsMade word ms bs (Some (next_origin f))
      → (next_mark ms).after ≡ true → op_value word bs ≡ flop_next v w f
  nexts f word ms bs h a =
      computes p v w word (next_function f) (next_origin f).inputs ms bs h.0 h.1
      ∙ first_and_rest p v w (Net f.feed) (reset_subjects f.clear f.preset) (λ ms bs. (next_mark ms).after ≡ true → next_function f bs ≡ flop_next v w f)
      (λ m ms b bs t rest a.
      ap (λ (c : Bool). next_function f (c ∷ bs)) (t.before (left _ _ a))
      ∙ ap (λ (cs : List Bool). next_function f (v.net f.feed.place ∷ cs)) (after_values p v w (λ (level : Level). level.net) (resets f.clear f.preset) ms bs rest (right _ _ a))
      ∙ ap (λ (o : Option Bool). unwrap_or o (v.net f.feed.place)) (forced_is w f.clear f.preset))
      ms bs h.1 a

  of_next : (e : ElemId) (word : Op) (ms : List Mark) (bs : List Bool) (o : Option Flop) → flop_at p e.place ≡ o
      → IsMade word ms bs (option_map next_origin o)
      → MarkHolds p v w (Next e) (next_mark ms) (op_value word bs)
  of_next e word ms bs None at h = absurd h
  of_next e word ms bs (Some f) at h =
      record { before = λ a. tt; after = λ a. nexts f word ms bs h a ∙ sym (ap (λ o. option_map_or (flop_next v w) o false) at) }

  write_takes : (port : WritePort) (word : Op) (ms : List Mark) (bs : List Bool) → IsMade word ms bs (Some (write_take_origin port))
      → (write_take_mark ms).after ≡ true → op_value word bs ≡ stores v w port
  write_takes port word ms bs h a =
      computes p v w word (write_take_function port) (write_take_origin port).inputs ms bs h.0 h.1
      ∙ first_and_rest p v w (edge_of port.clock port.rise) (Net port.enable.net ∷ []) (λ ms bs. (write_take_mark ms).after ≡ true → write_take_function port bs ≡ stores v w port)
      (λ m ms b bs t rest.
      first_and_rest p v w (Net port.enable.net) [] (λ ms bs. (write_take_mark (m ∷ ms)).after ≡ true → write_take_function port (b ∷ bs) ≡ stores v w port)
      (λ m2 ms2 b2 bs2 t2 rest2.
      ended p v w (λ ms bs. (write_take_mark (m ∷ m2 ∷ ms)).after ≡ true → write_take_function port (b ∷ b2 ∷ bs) ≡ stores v w port)
      (λ a.
      ap (λ (c : Bool). c && acts_at port.enable b2) (t.after (left _ _ a) ∙ edge_value port.clock port.rise)
      ∙ ap (λ (c : Bool). has_edge v w port.clock port.rise && acts_at port.enable c) (t2.before (right _ _ a)))
      ms2 bs2 rest2)
      ms bs rest)
      ms bs h.1 a

  of_write_take : (m : MemId) (k : ℕ) (word : Op) (ms : List Mark) (bs : List Bool) (o : Option WritePort) → design_write p m.place k ≡ o
      → IsMade word ms bs (option_map write_take_origin o)
      → MarkHolds p v w (TakeWrite m k) (write_take_mark ms) (op_value word bs)
  of_write_take m k word ms bs None at h = absurd h
  of_write_take m k word ms bs (Some port) at h =
      record { before = λ a. tt; after = λ a. write_takes port word ms bs h a ∙ sym (ap (λ o. option_map_or (stores v w) o false) at) }

  -- a read take gate shows whether the clock of its port has its edge
  read_takes_edge : (clock : Edge) (word : Op) (ms : List Mark) (bs : List Bool) → IsMade word ms bs (read_take_origin (Some clock))
      → (read_take_mark ms).after ≡ true → op_value word bs ≡ has_edge v w clock.net clock.rise
  read_takes_edge clock word ms bs h a =
      computes p v w word read_take_function (edge_of clock.net clock.rise ∷ []) ms bs h.0 h.1
      ∙ first_and_rest p v w (edge_of clock.net clock.rise) [] (λ ms bs. (read_take_mark ms).after ≡ true → read_take_function bs ≡ has_edge v w clock.net clock.rise)
      (λ m ms b bs t rest.
      ended p v w (λ ms bs. (read_take_mark (m ∷ ms)).after ≡ true → read_take_function (b ∷ bs) ≡ has_edge v w clock.net clock.rise)
      (λ a. t.after a ∙ edge_value clock.net clock.rise)
      ms bs rest)
      ms bs h.1 a

  -- so it shows whether its port takes a word, where the port has a clock
  read_taken : (port : ReadPort) (word : Op) (ms : List Mark) (bs : List Bool) (o : Option Edge) → port.clock ≡ o
      → IsMade word ms bs (read_take_origin o)
      → (read_take_mark ms).after ≡ true → op_value word bs ≡ read_takes v w port
  read_taken port word ms bs None e h a = absurd h
  read_taken port word ms bs (Some clock) e h a =
      read_takes_edge clock word ms bs h a ∙ sym (ap (λ o. option_map_or (λ (clock : Edge). has_edge v w clock.net clock.rise) o false) e)

  -- the gate of a subject that says whether a read port takes a word
  of_read_take : (m : MemId) (k : ℕ) (word : Op) (ms : List Mark) (bs : List Bool) (o : Option ReadPort) → design_read p m.place k ≡ o
      → IsMade word ms bs (option_and_then (λ port. read_take_origin port.clock) o)
      → MarkHolds p v w (TakeRead m k) (read_take_mark ms) (op_value word bs)
  of_read_take m k word ms bs None at h = absurd h
  of_read_take m k word ms bs (Some port) at h =
      record { before = λ a. tt; after = λ a. read_taken port word ms bs port.clock refl h a ∙ sym (ap (λ o. option_map_or (read_takes v w) o false) at) }

  -- the mark of a gate is true, whatever the subject of its output
  pub made_true : (what : Subject) (word : Op) (ms : List Mark) (bs : List Bool) → IsMade word ms bs (origin_of p what)
      → MarkHolds p v w what (gate_mark p (Some what) ms) (op_value word bs)
  made_true (Net n) word ms bs h = of_net n word ms bs (is_design_net p n) refl h
  made_true (Up n) word ms bs h = of_edge n (Up n) rise_function word ms bs (rises n word ms bs) (is_design_net p n) h
  made_true (Down n) word ms bs h = of_edge n (Down n) fall_function word ms bs (falls n word ms bs) (is_design_net p n) h
  made_true (Take e) word ms bs h = of_take e word ms bs (flop_at p e.place) refl h
  made_true (Next e) word ms bs h = of_next e word ms bs (flop_at p e.place) refl h
  made_true (TakeWrite m k) word ms bs h = of_write_take m k word ms bs (design_write p m.place k) refl h
  made_true (Old m k b) word ms bs h = absurd h
  made_true (TakeRead m k) word ms bs h = of_read_take m k word ms bs (design_read p m.place k) refl h
