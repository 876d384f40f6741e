-- Chips by their numbers, in results and in tables.
use Rattle.std.proofs.Common.{◌≡◌, ◌<◌, ◌≤◌, ℕ, List, [], get_or, length, refl, sym, ap, ◌∙◌, inl, inr, arith}
use Rattle.std.specs.Prelude.{◌⊎◌, Option, Some, None, slice_get, unwrap_or}
use Rattle.std.specs.Option.{option_map_or}
use Rattle.std.proofs.lemmas.Bool.{cases_lt}
use Rattle.std.proofs.lemmas.Option.{none-some, slice_get_past, slice_get-get_or}
use Rattle.chip_pass.specs.Chips.{ChipState}
use Rattle.emu_machine.specs.declared.netlist.Chip.{Chip}
use Rattle.emu_machine.specs.Results.{Results}
use Rattle.emu_machine.specs.Netlist.{no_chip, chip_at}
use Rattle.emu_machine.specs.Marks.{Mark, no_mark}
use Rattle.gate_pass.specs.Gates.{value_on}
use Rattle.frame_marks.specs.Frames.{mark_in}
use Rattle.frame_marks.specs.Tables.{nets_in, AreChipTables}

pub chip_is : (chips : List Chip) (c : ℕ) (chip : Chip) → slice_get chips c ≡ Some chip → chip_at chips c ≡ chip
chip_is chips c chip at = ap (λ o. unwrap_or o no_chip) at

pub chip_far : (chips : List Chip) (c : ℕ) → length chips ≤ c → chip_at chips c ≡ no_chip
chip_far chips c high = ap (λ o. unwrap_or o no_chip) (slice_get_past chips c high)

-- a net, a register or a memory that is there is one of a chip that is there
pub net_chip_low : (chips : List Chip) (c n : ℕ) → n < (chip_at chips c).nets → c < length chips
net_chip_low chips c n low = go (cases_lt c (length chips))
  where
    go : (c < length chips) ⊎ (length chips ≤ c) → c < length chips
    go (inl within) = within
    go (inr high) = let none : (chip_at chips c).nets ≡ 0 = ap (λ (chip : Chip). chip.nets) (chip_far chips c high) in absurd (omega (arith, none, low))

-- the tables of chips have their nets
pub nets_are : (r : Results) (chips : List (ChipState Mark)) → AreChipTables r chips → (c : ℕ) → nets_in chips c ≡ (chip_at r.net c).nets
nets_are r chips are c = go (slice_get chips c) refl (cases_lt c (length r.net))
  where
    go : (o : Option (ChipState Mark)) → slice_get chips c ≡ o → (c < length r.net) ⊎ (length r.net ≤ c) → nets_in chips c ≡ (chip_at r.net c).nets
    go (Some s) e low = ap (λ o. option_map_or (λ (s : ChipState Mark). s.chip.nets) o 0) e ∙ ap (λ (chip : Chip). chip.nets) (are.chip c s e)
    go None e (inl low) =
        let within : c < length chips = omega (arith, low, are.count) in
        let first : ChipState Mark = record { chip = no_chip; order = []; pass = record { inputs = []; outputs = []; values = []; idle = [] } } in
        absurd (none-some (get_or chips c first) (sym e ∙ slice_get-get_or chips c first within))
    go None e (inr high) = ap (λ o. option_map_or (λ (s : ChipState Mark). s.chip.nets) o 0) e ∙ sym (ap (λ (chip : Chip). chip.nets) (chip_far r.net c high))

-- the marks in the table of a chip
pub mark_is : (chips : List (ChipState Mark)) (c : ℕ) (s : ChipState Mark) → slice_get chips c ≡ Some s → (n : ℕ) → mark_in chips c n ≡ value_on no_mark s.pass.values n
mark_is chips c s at n = ap (λ o. value_on no_mark (option_map_or (λ (s : ChipState Mark). s.pass.values) o []) n) at
