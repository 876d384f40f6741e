-- Inside the rule A6: what each action uses, and the tables that tell what the actions before it use.
use Rattle.std.specs.Prelude.{◌≡◌, ◌<◌, ◌≤◌, ◌+◌, ◌*◌, ◌-◌, ◌%◌, ℕ, ◌==◌, nat_lt, true, if◌then◌else◌, Option, Some, None, List, length, take, get_or, slice_get, slice_set, option_map, sum_by, IfSome, Contains}
use Rattle.std.specs.Option.{option_or}
use Rattle.id_arena.specs.declared.keys.WireId.{WireId}
use Rattle.id_arena.specs.declared.wire.Wire.{Wire}
use Rattle.id_arena.specs.BoardPlan.{BoardPlan}
use Rattle.design_core.specs.declared.parts.Parts.{Parts}
use Rattle.design_core.specs.Influence.{Group}
use Rattle.emu_machine.specs.declared.netlist.Chip.{Chip}
use Rattle.emu_machine.specs.declared.schedule.Action.{Action}
use Rattle.emu_machine.specs.declared.schedule.Action.TheVariants as action
use Rattle.emu_machine.specs.declared.place.Place.{Place}
use Rattle.emu_machine.specs.declared.place.Place.TheVariants as place
use Rattle.emu_machine.specs.declared.place.Thing.{Thing}
use Rattle.emu_machine.specs.declared.place.Thing.TheVariants as thing
use Rattle.board_model.specs.Sound.{IsSound}
use Rattle.emu_machine.specs.Building.{IsBuilt}
use Rattle.emu_machine.specs.Results.{Results, SlotsFit}
use Rattle.emu_machine.specs.Netlist.{chip_at}
use Rattle.emu_machine.specs.State.{actions_of, frame_slots, slots_taken, Timed}
use Rattle.emu_machine.specs.Acceptance.{Case, UsesAgain, earlier_actions, uses_thing}

-- a board and results with any design and groups
abbrev pub case_of : Parts → List Group → BoardPlan → Results → Case
case_of design groups board results = record { design = design; groups = groups; board = board; results = results }

-- the places at which A6 fails, of which the wires and the results alone tell
abbrev pub FailsUse : List Wire → Results → Place → Type 0
FailsUse wires results (place.Again k t j what) = UsesAgain wires (frame_slots results k) t j what
FailsUse wires results other = ⊥

-- the wire that an action uses while it is under way
abbrev pub wire_of : Action → Option WireId
wire_of (action.Send wire net register) = Some wire
wire_of (action.Input chip register net) = None
wire_of (action.Load chip register) = None
wire_of (action.Write chip mem port) = None
wire_of (action.Read chip mem port) = None

-- the register or memory that an action uses in its last slot
abbrev pub part_of : List Wire → Action → Option Thing
part_of wires (action.Input chip register net) = Some (thing.Register chip register)
part_of wires (action.Load chip register) = Some (thing.Register chip register)
part_of wires (action.Send wire net register) = option_map (λ ends. thing.Register ends.to register) (slice_get wires wire.place)
part_of wires (action.Write chip mem port) = Some (thing.Memory chip mem)
part_of wires (action.Read chip mem port) = Some (thing.Memory chip mem)

-- the last slot of an action of slot `t`
abbrev pub last_of : List Wire → ℕ → Action → ℕ
last_of wires t a = t + slots_taken wires a - 1

-- a register or memory that is there
abbrev pub IsPart : List Chip → Thing → Type 0
IsPart chips (thing.Wire wire) = ⊥
IsPart chips (thing.Register chip register) = register.place < length (chip_at chips chip.place).registers
IsPart chips (thing.Memory chip mem) = mem.place < length (chip_at chips chip.place).memories

-- what an action uses is there
pub record NamesParts (wires : List Wire) (chips : List Chip) (a : Action) : Type 0 where
  pub wire : IfSome (wire_of a) (λ w. w.place < length wires)
  pub part : IfSome (part_of wires a) (IsPart chips)

-- What the rules before A6 grant of results: there are no more chips, frames and slots than a board has, and
-- what actions use is there.
pub record CanUse (wires : List Wire) (r : Results) : Type 0 where
  pub chips : length r.net ≤ 16
  pub frames : length r.schedule.frames ≤ 33
  pub slots : (k : ℕ) → length (frame_slots r k) ≤ 65535
  pub there : (k t j : ℕ) (a : Action) → slice_get (actions_of (frame_slots r k) t) j ≡ Some a → NamesParts wires r.net a

-- ## The numbers of registers and memories over all chips

-- how many registers and memories a chip has
abbrev pub parts_in : Chip → ℕ
parts_in chip = length chip.registers + length chip.memories

-- how many registers and memories the first chips have
abbrev pub start_of : List Chip → ℕ → ℕ
start_of chips c = sum_by parts_in (take c chips)

-- the registers of a chip come before its memories
abbrev pub part_number : List Chip → Thing → ℕ
part_number chips (thing.Wire wire) = 0
part_number chips (thing.Register chip register) = start_of chips chip.place + register.place
part_number chips (thing.Memory chip mem) = start_of chips chip.place + length (chip_at chips chip.place).registers + mem.place

-- each register and memory has eight cells, one for each slot in which an action may end that has begun
abbrev pub cell_of : List Chip → Thing → ℕ → ℕ
cell_of chips what u = 8 * part_number chips what + u % 8

-- the starts of all chips, and the number of all registers and memories
pub record AreStarts (chips : List Chip) (starts : List ℕ) : Type 0 where
  pub count : length starts ≡ length chips + 1
  pub each : (c : ℕ) → c ≤ length chips → get_or starts c 0 ≡ start_of chips c

-- ## The tables

-- the wire of an action is used in slot `t` by one before it, where it is not free again
abbrev pub wire_again : List ℕ → ℕ → Option WireId → Option Thing
wire_again free t None = None
wire_again free t (Some w) = if nat_lt t (get_or free w.place 0) then Some (thing.Wire w) else None

-- the register or memory of an action is used in slot `u` by one before it, where its cell has the stamp of that slot
abbrev pub part_again : List Chip → List ℕ → ℕ → Option Thing → Option Thing
part_again chips stamps u None = None
part_again chips stamps u (Some what) = if get_or stamps (cell_of chips what u) 0 == u + 1 then Some what else None

-- what an action of slot `t` uses again, the wire first
abbrev pub again : List Wire → List Chip → List ℕ → List ℕ → ℕ → Action → Option Thing
again wires chips free stamps t a =
    option_or (wire_again free t (wire_of a)) (part_again chips stamps (last_of wires t a) (part_of wires a))

-- a wire that is used up to slot `u` is free in the next
abbrev pub free_after : List ℕ → ℕ → Option WireId → List ℕ
free_after free u None = free
free_after free u (Some w) = slice_set free w.place (u + 1)

-- the cell of a register or memory that is used in slot `u` has its stamp
abbrev pub stamps_after : List Chip → List ℕ → ℕ → Option Thing → List ℕ
stamps_after chips stamps u None = stamps
stamps_after chips stamps u (Some what) = slice_set stamps (cell_of chips what u) (u + 1)

-- the stamps after an action of slot `t`
abbrev pub stamps_noted : List Wire → List Chip → List ℕ → ℕ → Action → List ℕ
stamps_noted wires chips stamps t a = stamps_after chips stamps (last_of wires t a) (part_of wires a)

-- some action of these uses a thing in slot `u`
pub record IsUsed (wires : List Wire) (before : List Timed) (u : ℕ) (what : Thing) : Type 0 where
  pub by : Timed
  pub one : Contains before by
  pub uses : uses_thing wires u what by ≡ true

-- the tables have a place for each wire, register and memory
pub record AreTables (wires : List Wire) (chips : List Chip) (free stamps : List ℕ) : Type 0 where
  pub frees : length free ≡ length wires
  pub cells : length stamps ≡ 8 * start_of chips (length chips)

-- the tables tell what these actions use in slot `t` and in all later ones
pub record Tell (wires : List Wire) (chips : List Chip) (before : List Timed) (t : ℕ) (free stamps : List ℕ) : Type 0 where
  pub tables : AreTables wires chips free stamps
  pub low : (i : ℕ) → get_or stamps i 0 ≤ t + 8
  pub wire_used : (w : WireId) (u : ℕ) → t ≤ u → u < get_or free w.place 0 → IsUsed wires before u (thing.Wire w)
  pub wire_noted : (w : WireId) (u : ℕ) → t ≤ u → IsUsed wires before u (thing.Wire w) → u < get_or free w.place 0
  pub part_used : (x : Thing) (u : ℕ) → IsPart chips x → t ≤ u
      → get_or stamps (cell_of chips x u) 0 ≡ u + 1 → IsUsed wires before u x
  pub part_noted : (x : Thing) (u : ℕ) → IsPart chips x → t ≤ u
      → IsUsed wires before u x → get_or stamps (cell_of chips x u) 0 ≡ u + 1

-- the tables tell what the actions before place `j` of slot `t` of frame `k` use
abbrev pub TellBefore : BoardPlan → Results → ℕ → ℕ → ℕ → List ℕ → List ℕ → Type 0
TellBefore board r k t j free stamps = Tell board.wires r.net (earlier_actions (frame_slots r k) t j) t free stamps

-- a built netlist, a sound board, results that the rules before A6 let pass, and the numbers of their parts
pub record IsJudged (board : BoardPlan) (r : Results) (starts : List ℕ) : Type 0 where
  pub sound : IsSound board
  pub netlist : IsBuilt r.net
  pub slots : SlotsFit r.schedule
  pub can : CanUse board.wires r
  pub numbers : AreStarts r.net starts
