-- Laws beside the rules, told without the words by which the rules are defined.
-- The rules are told in docs/RULES.md, "Acceptance" and "The state map".
use Rattle.std.specs.Prelude.{◌≡◌, ◌<◌, ◌+◌, ◌↔◌, ℕ, Bool, true, is_some, Some, List, length, slice_get}
use Rattle.id_arena.specs.declared.keys.ChipNetId.{ChipNetId}
use Rattle.id_arena.specs.declared.keys.RegId.{RegId}
use Rattle.id_arena.specs.declared.keys.WireId.{WireId}
use Rattle.id_arena.specs.declared.wire.Wire.{Wire}
use Rattle.design_core.specs.declared.node.NodeId.{NodeId}
use Rattle.emu_machine.specs.declared.netlist.Chip.{Chip}
use Rattle.emu_machine.specs.declared.netlist.EmuMemory.{EmuMemory}
use Rattle.emu_machine.specs.declared.map.ChipMap.{ChipMap}
use Rattle.emu_machine.specs.declared.map.MemMap.{MemMap}
use Rattle.emu_machine.specs.declared.place.Thing.TheVariants as thing
use Rattle.emu_machine.specs.declared.rule.Rule.TheVariants.{A1}
use Rattle.emu_machine.specs.declared.schedule.Action.TheVariants.{Send}
use Rattle.emu_machine.specs.declared.schedule.Slot.{Slot}
use Rattle.emu_machine.specs.Results.{Results, MapFits}
use Rattle.emu_machine.specs.State.{actions_of}
use Rattle.emu_machine.specs.Mapped.{chip_map}
use Rattle.emu_machine.specs.Acceptance.{Case, Holds, UsesAgain}

-- A `send` that stands in a slot before an earlier `send` over the same wire has arrived uses the wire again:
-- over a wire with a latency of 3 slots, one in the next slot or in the one after it.
abbrev pub SendsUseAgain : Type 0
SendsUseAgain =
    (wires : List Wire) (slots : List Slot) (wire : WireId) (ends : Wire)
    (s t i j : ℕ) (net other : ChipNetId) (register far : RegId)
    → slice_get wires wire.place ≡ Some ends
    → slice_get (actions_of slots s) i ≡ Some (Send wire net register)
    → slice_get (actions_of slots t) j ≡ Some (Send wire other far)
    → s < t
    → t < s + ends.latency
    → UsesAgain wires slots t j (thing.Wire wire)

-- two sends over one wire in one slot, the second of which uses the wire again
abbrev pub SendsUseTwice : Type 0
SendsUseTwice =
    (wires : List Wire) (slots : List Slot) (wire : WireId) (ends : Wire)
    (t i j : ℕ) (net other : ChipNetId) (register far : RegId)
    → slice_get wires wire.place ≡ Some ends
    → 0 < ends.latency
    → slice_get (actions_of slots t) i ≡ Some (Send wire net register)
    → slice_get (actions_of slots t) j ≡ Some (Send wire other far)
    → i < j
    → UsesAgain wires slots t j (thing.Wire wire)

-- A1 holds exactly where there are as many modules as chips, neither fewer nor more
abbrev pub ModulesAreCounted : Type 0
ModulesAreCounted =
    (c : Case) (inside : ℕ → NodeId → Bool) → Holds c inside A1 ↔ (length c.results.net ≡ length c.board.rooms)

-- in the map of results each net, register, memory and read port of a chip has an entry
pub record HasEntries (chip : Chip) (entry : ChipMap) : Type 0 where
  pub nets : (k : ℕ) → k < chip.nets → is_some (slice_get entry.nets k) ≡ true
  pub registers : (k : ℕ) → k < length chip.registers → is_some (slice_get entry.kept k) ≡ true
  pub memories : (m : ℕ) → m < length chip.memories → is_some (slice_get entry.memories m) ≡ true
  pub reads : (m k : ℕ) (memory : EmuMemory) (of : MemMap)
      → slice_get chip.memories m ≡ Some memory
      → slice_get entry.memories m ≡ Some of
      → k < length memory.reads
      → is_some (slice_get of.kept k) ≡ true

abbrev pub AllAreMapped : Type 0
AllAreMapped =
    (r : Results) (c : ℕ) (chip : Chip)
    → MapFits r
    → slice_get r.net c ≡ Some chip
    → HasEntries chip (chip_map r c)
