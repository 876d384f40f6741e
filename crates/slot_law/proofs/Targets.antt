-- Offered to the crates above: what an action gives a value. Nothing else drives the net of a register, and no
-- other action of the slot uses the register.
use Rattle.std.proofs.Common.{◌≡◌, ℕ, ◌+◌, ◌<◌, ◌≤◌, arith, Bool, true, List, subst, sym, ◌∙◌, inl, inr}
use Rattle.std.specs.Prelude.{◌⊎◌, Some, None, slice_get, count_by}
use Rattle.std.specs.List.{list_any}
use Rattle.std.proofs.lemmas.Option.{same_Some}
use Rattle.id_arena.specs.declared.keys.ChipNetId.{ChipNetId}
use Rattle.id_arena.specs.declared.wire.Wire.{Wire}
use Rattle.emu_machine.specs.declared.netlist.Chip.{Chip}
use Rattle.emu_machine.specs.declared.netlist.EmuGate.{EmuGate}
use Rattle.emu_machine.specs.declared.netlist.EmuRegister.{EmuRegister}
use Rattle.emu_machine.specs.declared.place.Thing.{Thing}
use Rattle.emu_machine.specs.declared.place.Thing.TheVariants as thing
use Rattle.emu_machine.specs.declared.schedule.Action.{Action}
use Rattle.emu_machine.specs.declared.schedule.Slot.{Slot}
use Rattle.emu_machine.specs.Netlist.{chip_at, is_chip_net, read_nets, net_drivers, gate_of, on_net}
use Rattle.emu_machine.specs.State.{frame_slots, is_under_way, ending}
use Rattle.emu_machine.specs.Acceptance.{Case, same_thing, uses_of, uses_thing}
use Rattle.emu_machine.specs.Law.{IsCase}
use Rattle.facts.proofs.Tests.{same_number}
use Rattle.facts.proofs.Counting.{counted, found, not_found}
use Rattle.facts.proofs.Lists.{Has}
use Rattle.marks_law.proofs.Chips.{at_source}
use Rattle.marks_law.specs.Slots.{FrameFits}
use Rattle.marks_law.proofs.FrameActions.{EndsIn, EndInOrder, end_in_order, none_uses_again}

-- ## What drives a net

-- a register of a chip with this net as its Q
pub record RegisterAt (chip : Chip) (n : ℕ) : Type 0 where
  pub place : ℕ
  pub register : EmuRegister
  pub at : slice_get chip.registers place ≡ Some register
  pub q : register.q.place ≡ n

-- a read port of a chip with this net as a bit
pub record BitAt (chip : Chip) (n : ℕ) : Type 0 where
  pub bit : ChipNetId
  pub has : Has (read_nets chip) bit
  pub is : bit.place ≡ n

module _ (chip : Chip) (n : ℕ) (one : net_drivers chip n ≡ 1) where
  -- how many gates drive the net
  abbrev gates : ℕ
  gates = count_by (λ (gate : EmuGate). is_chip_net n gate.output) chip.gates

  -- how many registers
  abbrev registers : ℕ
  registers = count_by (λ (register : EmuRegister). is_chip_net n register.q) chip.registers

  -- how many read ports
  abbrev reads : ℕ
  reads = count_by (is_chip_net n) (read_nets chip)

  -- together they are one
  all : gates + registers + reads ≡ 1
  all = one

  -- a register with this net is one of its drivers
  some_register : RegisterAt chip n → 0 < registers
  some_register h = counted (λ (register : EmuRegister). is_chip_net n register.q) chip.registers h.place h.register h.at (same_number _ _ h.q)

  -- then no gate drives it
  no_gate : RegisterAt chip n → gate_of chip n ≡ None
  no_gate h =
      let some : 0 < registers = some_register h in
      let sum : gates + registers + reads ≡ 1 = all in
      let none : gates ≡ 0 = omega arith in
      not_found (λ (gate : EmuGate). is_chip_net n gate.output) chip.gates none

  -- and no other register
  pub same_register : (a b : RegisterAt chip n) → a.place ≡ b.place
  same_register a b =
      let sum : gates + registers + reads ≡ 1 = all in
      let few : registers ≤ 1 = omega arith in
      same_Some a.place b.place
      (sym (found (λ (register : EmuRegister). is_chip_net n register.q) chip.registers a.place a.register a.at (same_number _ _ a.q) few)
      ∙ found (λ (register : EmuRegister). is_chip_net n register.q) chip.registers b.place b.register b.at (same_number _ _ b.q) few)

  -- and no read port
  pub no_bit : RegisterAt chip n → BitAt chip n → ⊥
  no_bit a b =
      let some : 0 < registers = some_register a in
      let bits : 0 < reads = counted (is_chip_net n) (read_nets chip) b.has.place b.bit b.has.at (same_number _ _ b.is) in
      let sum : gates + registers + reads ≡ 1 = all in
      omega arith

  -- so the net of a register shows what the register holds
  pub on_register_net : RegisterAt chip n → {A : Type 0} (source : ℕ → A) (combine : EmuGate → List A → A) → (room : ℕ) → on_net chip source combine room n ≡ source n
  on_register_net h source combine room = at_source chip source combine room n (no_gate h)

-- ## What an action uses

-- the register of a chip as a thing, and the memory
abbrev pub register_thing : ℕ → ℕ → Thing
register_thing chip k = thing.Register (record { place = chip }) (record { place = k })

abbrev pub memory_thing : ℕ → ℕ → Thing
memory_thing chip m = thing.Memory (record { place = chip }) (record { place = m })

-- an action uses a thing in its last slot
abbrev pub UsesAtEnd : List Wire → Thing → Action → Type 0
UsesAtEnd wires what a = (under_way : Bool) → list_any (same_thing what) (uses_of wires under_way true a) ≡ true

-- an action has a register with this net as its Q as its target
pub record GivesRegister (c : Case) (chip n : ℕ) (a : Action) : Type 0 where
  pub here : RegisterAt (chip_at c.results.net chip) n
  pub used : UsesAtEnd c.board.wires (register_thing chip here.place) a

-- an action gives this net a value through its register or through a read port
abbrev pub GivesNet : Case → ℕ → ℕ → Action → Type 0
GivesNet c chip n a = GivesRegister c chip n a ⊎ BitAt (chip_at c.results.net chip) n

module _ (c : Case) (frame slot : ℕ) where
  -- the wires of the board
  abbrev wires : List Wire
  wires = c.board.wires

  -- the slots of the frame
  abbrev slots : List Slot
  slots = frame_slots c.results frame

  -- an action that ends in a slot uses there what it uses in its last slot
  uses_in_end : (what : Thing) (a : Action) (e : EndsIn wires slots slot a) → UsesAtEnd wires what a → uses_thing wires slot what e.from ≡ true
  uses_in_end what a e h =
      subst (λ (b : Bool). list_any (same_thing what) (uses_of wires (is_under_way wires slot e.from) b e.from.action) ≡ true) (sym e.last)
      (subst (λ (b : Action). list_any (same_thing what) (uses_of wires (is_under_way wires slot e.from) true b) ≡ true) e.is (h (is_under_way wires slot e.from)))

  -- of two actions that end in a slot the later one uses there nothing that the earlier one uses
  ends_apart : FrameFits c frame → (what : Thing) (i j : ℕ) (a b : Action) → i < j
      → slice_get (ending wires slots slot) i ≡ Some a → slice_get (ending wires slots slot) j ≡ Some b
      → UsesAtEnd wires what a → UsesAtEnd wires what b → ⊥
  ends_apart fit what i j a b less at_a at_b in_a in_b =
      let e : EndInOrder wires slots slot a b = end_in_order wires slots slot i j a b less at_a at_b in
      none_uses_again c frame fit slot what e.first.place e.second.place e.first.from e.second.from e.order e.first.at e.second.at
      (uses_in_end what a e.first in_a) (uses_in_end what b e.second in_b)

  -- where an action has the net's register as its target, no later action gives the net a value
  pub alone : IsCase c → FrameFits c frame → (chip n : ℕ) → n < (chip_at c.results.net chip).nets
      → (i j : ℕ) (a b : Action) → i < j → slice_get (ending wires slots slot) i ≡ Some a → slice_get (ending wires slots slot) j ≡ Some b
      → GivesRegister c chip n a → GivesNet c chip n b → ⊥
  alone is fit chip n small i j a b less at_a at_b first (inl second) =
      let same : first.here.place ≡ second.here.place = same_register (chip_at c.results.net chip) n (is.netlist chip n small) first.here second.here in
      ends_apart fit (register_thing chip second.here.place) i j a b less at_a at_b
      (subst (λ (place : ℕ). UsesAtEnd wires (register_thing chip place) a) same first.used)
      second.used
  alone is fit chip n small i j a b less at_a at_b first (inr second) =
      no_bit (chip_at c.results.net chip) n (is.netlist chip n small) first.here second
