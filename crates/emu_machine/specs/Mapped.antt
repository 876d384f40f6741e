-- What nets of the machine stand for, and when a machine is loaded from a valuation.
-- The rules are told in docs/RULES.md, "The state map" and "Loaded".
use Rattle.std.specs.Prelude.{◌≡◌, ◌<◌, ℕ, ◌&&◌, ◌||◌, Bool, true, false, not, Option, Some, None, [], slice_get, unwrap_or, option_map, option_and_then, zip}
use Rattle.std.specs.List.{list_any}
use Rattle.std.specs.Option.{option_map_or}
use Rattle.design_core.specs.declared.element.Element.{Element}
use Rattle.design_core.specs.declared.element.Element.TheVariants as element
use Rattle.design_core.specs.declared.element.Flop.{Flop}
use Rattle.design_core.specs.declared.element.WritePort.{WritePort}
use Rattle.design_core.specs.declared.element.ReadPort.{ReadPort}
use Rattle.design_core.specs.declared.element.Driver.TheVariants.{Input}
use Rattle.design_core.specs.declared.parts.Parts.{Parts}
use Rattle.design_core.specs.Design.{net_count, driver}
use Rattle.design_core.specs.Valuation.{Valuation, has_edge, reset_acts, forced, addressed_bit, IsAddress}
use Rattle.design_core.specs.Event.{stores}
use Rattle.emu_machine.specs.declared.netlist.Chip.{Chip}
use Rattle.emu_machine.specs.declared.map.Subject.{Subject}
use Rattle.emu_machine.specs.declared.map.Subject.TheVariants.{Net, Up, Down, Take, Next, TakeWrite, Old, TakeRead}
use Rattle.emu_machine.specs.declared.map.ChipMap.{ChipMap}
use Rattle.emu_machine.specs.Results.{Results}
use Rattle.emu_machine.specs.Netlist.{chip_at, is_chip_net}
use Rattle.emu_machine.specs.State.{State}

abbrev pub as_flop : Element → Option Flop
as_flop (element.Flop f) = Some f
as_flop other = None

-- the flip-flop that an element number means, if it means one
abbrev pub flop_at : Parts → ℕ → Option Flop
flop_at p k = option_and_then as_flop (slice_get p.elements k)

abbrev pub design_write : Parts → ℕ → ℕ → Option WritePort
design_write p m k = option_and_then (λ memory. slice_get memory.writes k) (slice_get p.memories m)

abbrev pub design_read : Parts → ℕ → ℕ → Option ReadPort
design_read p m k = option_and_then (λ memory. slice_get memory.reads k) (slice_get p.memories m)

-- a flip-flop takes a new value in an event where a reset acts after it or its clock has its edge
abbrev pub flop_takes : Valuation → Valuation → Flop → Bool
flop_takes v w f = reset_acts w f.clear || reset_acts w f.preset || has_edge v w f.clock f.rise

-- the value that it takes: what resets force after the event, else its data from before
abbrev pub flop_next : Valuation → Valuation → Flop → Bool
flop_next v w f = unwrap_or (forced f.clear f.preset w) (v.net f.feed.place)

-- a read port takes a word in an event where it has a clock and that has its edge
abbrev pub read_takes : Valuation → Valuation → ReadPort → Bool
read_takes v w port = option_map_or (λ clock. has_edge v w clock.net clock.rise) port.clock false

-- The value of a subject in an event from `v` to `w`. A bit of the word that a read port takes is that of
-- the word in `v` at the port's address in `v`.
abbrev pub subject_value : Parts → Valuation → Valuation → Subject → Bool
subject_value p v w (Net n) = w.net n.place
subject_value p v w (Up n) = not (v.net n.place) && w.net n.place
subject_value p v w (Down n) = v.net n.place && not (w.net n.place)
subject_value p v w (Take e) = option_map_or (flop_takes v w) (flop_at p e.place) false
subject_value p v w (Next e) = option_map_or (flop_next v w) (flop_at p e.place) false
subject_value p v w (TakeWrite m k) = option_map_or (stores v w) (design_write p m.place k) false
subject_value p v w (Old m k b) = option_map_or (λ port. addressed_bit v m.place port b) (design_read p m.place k) false
subject_value p v w (TakeRead m k) = option_map_or (read_takes v w) (design_read p m.place k) false

abbrev pub no_chip_map : ChipMap
no_chip_map = record { nets = []; kept = []; memories = [] }

abbrev pub chip_map : Results → ℕ → ChipMap
chip_map r c = unwrap_or (slice_get r.map.chips c) no_chip_map

-- the subject of net `n` of chip `c`
abbrev pub subject : Results → ℕ → ℕ → Option Subject
subject r c n = slice_get (chip_map r c).nets n

-- the memory of the design that memory `m` of chip `c` stands for
abbrev pub memory_of : Results → ℕ → ℕ → Option ℕ
memory_of r c m = option_map (λ entry. entry.of.place) (slice_get (chip_map r c).memories m)

-- whether a net is the Q of a kept register, or driven by a kept read port
abbrev pub kept_by_register : Chip → ChipMap → ℕ → Bool
kept_by_register chip entry n = list_any (λ (register, kept). kept && is_chip_net n register.q) (zip chip.registers entry.kept)

abbrev pub kept_by_read : Chip → ChipMap → ℕ → Bool
kept_by_read chip entry n =
    list_any
    (λ (memory, of). list_any (λ (port, kept). kept && list_any (is_chip_net n) port.bits) (zip memory.reads of.kept))
    (zip chip.memories entry.memories)

abbrev pub is_kept : Results → ℕ → ℕ → Bool
is_kept r c n =
    kept_by_register (chip_at r.net c) (chip_map r c) n || kept_by_read (chip_at r.net c) (chip_map r c) n

-- a value is that of a subject in a valuation; only a net of the design has one
abbrev pub IsValueOf : Valuation → Option Subject → Bool → Type 0
IsValueOf v (Some (Net n)) value = value ≡ v.net n.place
IsValueOf v other value = ⊥

-- each kept register and kept read net holds its subject's value, and each memory its original's words
pub record HoldsState (p : Parts) (r : Results) (v : Valuation) (x : State) : Type 0 where
  pub held : (c n : ℕ) → is_kept r c n ≡ true → IsValueOf v (subject r c n) (x.held c n)
  pub words : (c m of a : ℕ) → memory_of r c m ≡ Some of → IsAddress p of a → x.word c m a ≡ v.word of a

-- A machine is loaded from a valuation where it holds its state and the inputs stand outside. Free
-- registers and free read nets hold anything, and wires carry anything.
pub record IsLoaded (p : Parts) (r : Results) (v : Valuation) (x : State) : Type 0 where
  pub state : HoldsState p r v x
  pub outside : (n : ℕ) → n < net_count p → driver p n ≡ Input → x.outside n ≡ v.net n
