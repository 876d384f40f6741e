-- Chips and input bits that are there.
use Rattle.std.proofs.Common.{◌≡◌, ◌<◌, ℕ, List, get_or, length, refl, sym, subst, arith}
use Rattle.std.specs.Prelude.{Option, Some, None, All, Contains, slice_get, unwrap_or}
use Rattle.std.proofs.lemmas.List.Elements.{Contains-get_or}
use Rattle.std.proofs.lemmas.Option.{slice_get_within, get_or_from_slice_get}
use Rattle.design_core.specs.declared.parts.Parts.{Parts}
use Rattle.design_core.specs.declared.values.PortBit.{PortBit}
use Rattle.design_core.specs.Design.{IsDesign, net_count}
use Rattle.emu_machine.specs.declared.netlist.Chip.{Chip}
use Rattle.emu_machine.specs.Netlist.{chip_at, no_chip}
use Rattle.history_law.specs.Drivers.{InputBitIsInput, InputIsInputBit}
use Rattle.event_replay.specs.Settings.{AreInputBits}

-- what stands at a place is contained
pub contains : {A : Type 0} (xs : List A) (k : ℕ) (x : A) → slice_get xs k ≡ Some x → Contains xs x
contains xs k x at = (k, slice_get_within xs k x at, get_or_from_slice_get xs k x x at)

-- a chip that has a net is there
pub chip_there : (chips : List Chip) (c n : ℕ) → n < (chip_at chips c).nets → c < length chips
chip_there chips c n low = go (slice_get chips c) refl low
  where
    go : (o : Option Chip) → slice_get chips c ≡ o → n < (unwrap_or o no_chip).nets → c < length chips
    go None at below = absurd (let none : n < 0 = below in omega arith)
    go (Some chip) at below = slice_get_within chips c chip at

-- input bits of a design are nets of it
pub inputs_there : (p : Parts) (nets : ℕ) (values : List PortBit) → IsDesign p → InputIsInputBit → InputBitIsInput
    → nets ≡ net_count p → AreInputBits p values → All (λ b. b.net.place < nets) values
inputs_there p nets values design is_bit is_there same bits =
    λ j d low.
    let b : PortBit = get_or values j d in
    subst (λ k. b.net.place < k) (sym same)
    (is_there p b.net.place design (is_bit p b.net.place (bits.inputs b (Contains-get_or values j d low)))).0
