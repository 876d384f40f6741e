-- The net of each output shows its bit of whatever settled valuation the machine holds.
use Rattle.std.proofs.Common.{◌≡◌, ℕ, Bool, true, false, List, [], length, map, refl, subst, if◌then◌else◌}
use Rattle.std.specs.Prelude.{Option, Some, None}
use Rattle.std.specs.Option.{option_map_or}
use Rattle.id_arena.specs.declared.keys.NetId.{NetId}
use Rattle.design_core.specs.declared.element.Driver.{Driver}
use Rattle.design_core.specs.declared.element.Driver.TheVariants as driven
use Rattle.design_core.specs.declared.node.NodeId.{NodeId}
use Rattle.design_core.specs.declared.parts.Parts.{Parts}
use Rattle.design_core.specs.declared.values.PortBit.{PortBit}
use Rattle.design_core.specs.Operation.{op_value}
use Rattle.design_core.specs.Design.{driver}
use Rattle.design_core.specs.Valuation.{Valuation}
use Rattle.design_core.specs.Settled.{IsSettled}
use Rattle.emu_machine.specs.declared.netlist.EmuGate.{EmuGate}
use Rattle.emu_machine.specs.declared.map.Subject.{Subject}
use Rattle.emu_machine.specs.declared.map.Subject.TheVariants.{Net, Up, Down, Take, Next, TakeWrite, Old, TakeRead}
use Rattle.emu_machine.specs.Results.{Results}
use Rattle.emu_machine.specs.Netlist.{chip_at, through_gates}
use Rattle.emu_machine.specs.State.{State, net_value}
use Rattle.emu_machine.specs.Mapped.{subject, is_kept, HoldsState}
use Rattle.emu_machine.specs.Marks.{Mark, no_mark, only_before, driver_mark, gate_mark}
use Rattle.emu_machine.specs.Origins.{has_origin, origin_of}
use Rattle.emu_machine.specs.declared.rule.Rule.{Rule}
use Rattle.emu_machine.specs.Acceptance.{Case, Holds, plain_driver_mark, plain_gate_mark}
use Rattle.emu_machine.specs.Headline.{Agrees}
use Rattle.emu_machine.specs.Law.{IsCase}
use Rattle.marks_law.specs.Facts.{EventFacts}
use Rattle.marks_law.specs.Truth.{MarkHolds, IsTrueOf}
use Rattle.facts.proofs.Tests.{no}
use Rattle.marks_law.proofs.Parallel.{in_parallel}
use Rattle.marks_law.proofs.Through.{origin_made}
use Rattle.marks_law.proofs.GateMarks.{made_true}
use Rattle.agreement_law.proofs.EventTruth.{nothing_happens}
use Rattle.agreement_law.proofs.FrameStart.{kept_true}
use Rattle.agreement_law.proofs.Accepted.{gates_fit, output_subject, output_shows}

module _ (p : Parts) (inside : NodeId → Bool) (v w : Valuation) (event : List PortBit) (facts : EventFacts p inside v event w) where
  -- ## Gates

  plain_net : (n : NetId) (by : Driver) (ms : List Mark) (b : Bool) → MarkHolds p v w (Net n) (driver_mark p by ms) b → MarkHolds p v w (Net n) (plain_driver_mark p by ms) b
  plain_net n (driven.Constant value) ms b t = record { before = λ a. t.before refl; after = λ a. no a }
  plain_net n driven.Input ms b t = t
  plain_net n (driven.Elem e) ms b t = t
  plain_net n (driven.Read m i k) ms b t = t

  plain_true : (what : Subject) (ms : List Mark) (b : Bool) → MarkHolds p v w what (gate_mark p (Some what) ms) b → MarkHolds p v w what (plain_gate_mark p (Some what) ms) b
  plain_true (Net n) ms b t = plain_net n (driver p n.place) ms b t
  plain_true (Up n) ms b t = t
  plain_true (Down n) ms b t = t
  plain_true (Take e) ms b t = t
  plain_true (Next e) ms b t = t
  plain_true (TakeWrite m k) ms b t = t
  plain_true (Old m k i) ms b t = t
  plain_true (TakeRead m k) ms b t = t

  module _ (r : Results) (chip : ℕ) (gate : EmuGate) (f : ℕ → Mark) (g : ℕ → Bool) (both : (i : ℕ) → IsTrueOf p v w (subject r chip i) (f i) (g i)) where
    by_fit : (o : Option Subject) → option_map_or (λ what. has_origin r chip gate (origin_of p what)) o false ≡ true
        → IsTrueOf p v w o (plain_gate_mark p o (map (λ i. f i.place) gate.inputs)) (op_value gate.op (map (λ i. g i.place) gate.inputs))
    by_fit None h = no h
    by_fit (Some what) h =
        plain_true what _ _
        (made_true p inside v w event facts what gate.op (map (λ i. f i.place) gate.inputs) (map (λ i. g i.place) gate.inputs) (origin_made p inside v w event facts r chip gate f g both (origin_of p what) h))

module _ (c : Case) (is : IsCase c) (inside : ℕ → NodeId → Bool) (rules : (rule : Rule) → Holds c inside rule) (v : Valuation) (settled : IsSettled c.design v) (x : State) (state : HoldsState c.design c.results v x) where
  still : EventFacts c.design (λ a. true) v [] v
  still = nothing_happens c.design v is.design settled

  plain_mark : ℕ → ℕ → Mark
  plain_mark chip n =
      through_gates (chip_at c.results.net chip)
      (λ n. if is_kept c.results chip n then only_before else no_mark)
      (λ gate ms. plain_gate_mark c.design (subject c.results chip gate.output.place) ms)
      n

  shown : (chip n : ℕ) → IsTrueOf c.design v v (subject c.results chip n) (plain_mark chip n) (net_value c.results.net x chip n)
  unfolding plain_mark
  shown chip n =
      in_parallel (chip_at c.results.net chip)
      (λ (k : ℕ). if is_kept c.results chip k then only_before else no_mark)
      (x.held chip)
      (λ (gate : EmuGate) (ms : List Mark). plain_gate_mark c.design (subject c.results chip gate.output.place) ms)
      (λ (gate : EmuGate) (bits : List Bool). op_value gate.op bits)
      (λ (k : ℕ) (m : Mark) (b : Bool). IsTrueOf c.design v v (subject c.results chip k) m b)
      (λ k. kept_true c.design c.results v v x state chip k (is_kept c.results chip k) refl)
      (λ k gate at f g both.
      by_fit c.design (λ a. true) v v [] still c.results chip gate f g both (subject c.results chip gate.output.place) (gates_fit c inside rules chip k gate at))
      (length (chip_at c.results.net chip).gates)
      n

  -- a machine that holds the state of a settled valuation agrees with it
  pub agrees : Agrees c v x
  unfolding plain_mark
  agrees =
      record {
        state = state;
        outputs = λ k spot n at in_ports.
            let t : MarkHolds c.design v v (Net n) (plain_mark spot.chip.place spot.net.place) (net_value c.results.net x spot.chip.place spot.net.place) =
            subst (λ o. IsTrueOf c.design v v o (plain_mark spot.chip.place spot.net.place) (net_value c.results.net x spot.chip.place spot.net.place))
            (output_subject c inside rules k spot n at in_ports)
            (shown spot.chip.place spot.net.place) in
            t.before (output_shows c inside rules k spot at);
      }
