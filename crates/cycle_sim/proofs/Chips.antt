-- The tables of all chips.
use Rattle.std.proofs.Common.{◌≡◌, ◌<◌, ◌≤◌, ℕ, Bool, List, [], get_or, length, sym, ap, subst, ◌∙◌, inl, inr, arith}
use Rattle.std.specs.Prelude.{◌⊎◌, Some, slice_get, unwrap_or}
use Rattle.std.proofs.lemmas.Bool.{cases_lt}
use Rattle.std.proofs.lemmas.Option.{none-some, slice_get_past, slice_get-get_or, unwrap_or-slice_get}
use Rattle.id_arena.specs.declared.wire.Wire.{Wire}
use Rattle.emu_machine.specs.declared.netlist.Chip.{Chip}
use Rattle.emu_machine.specs.declared.netlist.EmuRegister.{EmuRegister}
use Rattle.emu_machine.specs.Results.{Results}
use Rattle.emu_machine.specs.Netlist.{no_chip, chip_at}
use Rattle.emu_machine.specs.State.{net_value}
use Rattle.cycle_sim.specs.Standing.{IsRunnable, RegisterStands}
use Rattle.cycle_sim.specs.Values.{cell}
use Rattle.cycle_sim.specs.Tables.{Tables, state_of, HaveSizes, AllShown}

-- the chip of a number
pub chip_here : (chips : List Chip) (c : ℕ) → c < length chips → slice_get chips c ≡ Some (chip_at chips c)
chip_here chips c low = slice_get-get_or chips c no_chip low ∙ ap Some (sym (unwrap_or-slice_get chips c no_chip))

pub chip_is : (chips : List Chip) (c : ℕ) (chip : Chip) → slice_get chips c ≡ Some chip → chip_at chips c ≡ chip
chip_is chips c chip at = ap (λ o. unwrap_or o no_chip) at

-- a register that is there is one of a chip that is there, and its nets are there
module _ (r : Results) (chip k : ℕ) (register : EmuRegister) (at : slice_get (chip_at r.net chip).registers k ≡ Some register) where
  pub chip_low : chip < length r.net
  chip_low = go (cases_lt chip (length r.net))
    where
      go : (chip < length r.net) ⊎ (length r.net ≤ chip) → chip < length r.net
      go (inl low) = low
      go (inr high) =
          absurd (none-some register (sym (ap (λ o. slice_get (unwrap_or o no_chip).registers k) (slice_get_past r.net chip high)) ∙ at))

  pub low_in : (held : List (List Bool)) → HaveSizes r held → chip < length held
  low_in held sizes = let low : chip < length r.net = chip_low in omega (arith, sizes.count)

  module _ (wires : List Wire) (nets : ℕ) (runs : IsRunnable r wires nets) where
    pub register_stands : RegisterStands (chip_at r.net chip).nets register
    register_stands = (runs.chips chip (chip_at r.net chip) (chip_here r.net chip chip_low)).registers k register at

    pub q_in : (held : List (List Bool)) → HaveSizes r held → register.q.place < length (get_or held chip [])
    q_in held sizes =
        let size : length (get_or held chip []) ≡ (chip_at r.net chip).nets = sizes.sizes chip (chip_at r.net chip) (chip_here r.net chip chip_low) in
        let low : register.q.place < (chip_at r.net chip).nets = register_stands.q in
        omega arith

    pub stands_in : (table : List Bool) (shown : List (List Bool)) → table ≡ get_or shown chip [] → HaveSizes r shown → RegisterStands (length table) register
    stands_in table shown is sizes =
        subst (λ (n : ℕ). RegisterStands n register)
        (sym (ap length is ∙ sizes.sizes chip (chip_at r.net chip) (chip_here r.net chip chip_low)))
        register_stands

-- what a net shows is its value
pub net_is : (r : Results) (t : Tables) (shown : List (List Bool)) → AllShown r t.held shown
    → (c n : ℕ) → c < length r.net → n < (chip_at r.net c).nets
    → cell shown c n ≡ net_value r.net (state_of t) c n
net_is r t shown all c n low within = (all.each c (chip_at r.net c) (chip_here r.net c low)).each n within

-- a net that is there is one of a chip that is there
pub net_chip_low : (chips : List Chip) (c n : ℕ) → n < (chip_at chips c).nets → c < length chips
net_chip_low chips c n low = go (cases_lt c (length chips))
  where
    go : (c < length chips) ⊎ (length chips ≤ c) → c < length chips
    go (inl within) = within
    go (inr high) =
        let none : (chip_at chips c).nets ≡ 0 = ap (λ o. (unwrap_or o no_chip).nets) (slice_get_past chips c high) in
        absurd (omega (arith, none, low))
