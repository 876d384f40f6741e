-- A table for each chip, one after the other, and what they tell of a net.
use Rattle.std.proofs.Common.{◌≡◌, ◌<◌, ◌≤◌, ◌+◌, ℕ, Bool, true, false, List, [], ◌∷◌, ◌++◌, length, length-append, get_or, sym, subst, ap, ◌∙◌, inl, inr, arith}
use Rattle.std.specs.Prelude.{◌⊎◌, Option, Some, None, slice_get, unwrap_or}
use Rattle.std.proofs.lemmas.Bool.{cases_lt}
use Rattle.std.proofs.lemmas.List.{get_or_append_left, get_or-append-add}
use Rattle.std.proofs.lemmas.Option.{get_or_from_slice_get, slice_get_within, slice_get-get_or}
use Rattle.design_core.specs.declared.parts.Parts.{Parts}
use Rattle.emu_machine.specs.declared.netlist.Chip.{Chip}
use Rattle.emu_machine.specs.declared.map.Spot.{Spot}
use Rattle.emu_machine.specs.Building.{IsBuilt}
use Rattle.emu_machine.specs.Results.{Results}
use Rattle.emu_machine.specs.Netlist.{no_chip, chip_at, gate_of, IsOnCycle}
use Rattle.gate_cycles.specs.Gates.{IsDriven}
use Rattle.mark_rule.specs.Kept.{AreKept}
use Rattle.mark_rule.proofs.Free.{chip_formed, free_kept}
use Rattle.output_marks.specs.Shown.{AreFirst, AreShown, HasShown, IsShown, spot_at}
use Rattle.output_marks.proofs.Through.{far_shown, shown_as}

-- ## The chip of a number

-- the chip at a place of a list that shows them
pub shown_chip : (chips shown : List Chip) (c : ℕ) (chip : Chip) → shown ≡ chips → c < length shown → chip ≡ get_or shown c chip → slice_get chips c ≡ Some chip
shown_chip chips shown c chip same low is = ap (λ (xs : List Chip). slice_get xs c) (sym same) ∙ slice_get-get_or shown c chip low ∙ ap Some (sym is)

pub chip_is : (chips : List Chip) (c : ℕ) (chip : Chip) → slice_get chips c ≡ Some chip → chip_at chips c ≡ chip
chip_is chips c chip at = ap (λ (o : Option Chip). unwrap_or o no_chip) at

module _ (r : Results) (built : IsBuilt r.net) (c : ℕ) (chip : Chip) (at : slice_get r.net c ≡ Some chip) where
  -- each of its nets has one driver
  pub driven_here : IsDriven chip
  driven_here = subst IsDriven (chip_is r.net c chip at) (record { formed = chip_formed r.net built.formed c; driven = built.netlist c })

  -- no gate drives what is kept
  pub kept_free : (kept : List Bool) (shown : Chip) → AreKept r c kept → shown ≡ chip → (n : ℕ) → n < chip.nets → get_or kept n false ≡ true → gate_of shown n ≡ None
  kept_free kept shown are same n low h =
      let is : chip_at r.net c ≡ chip = chip_is r.net c chip at in
      let there : n < (chip_at r.net c).nets = subst (λ (x : Chip). n < x.nets) (sym is) low in
      ap (λ (x : Chip). gate_of x n) (same ∙ sym is) ∙ free_kept r built c n (sym (are.tells n there) ∙ h)

-- no gate of it lies on a cycle
pub no_cycle_here : (chips : List Chip) → ((c k : ℕ) → IsOnCycle (chip_at chips c) k → ⊥) → (c : ℕ) (chip : Chip) → slice_get chips c ≡ Some chip → (k : ℕ) → IsOnCycle chip k → ⊥
no_cycle_here chips none c chip at k on = none c k (subst (λ (x : Chip). IsOnCycle x k) (sym (chip_is chips c chip at)) on)

-- ## Tables

module _ (p : Parts) (r : Results) where
  -- one table more
  pub first_more : (c other : ℕ) (tables new : List (List Bool)) (table : List Bool) → AreFirst p r c tables → other ≡ c → IsShown p r other table → new ≡ tables ++ table ∷ [] → AreFirst p r (c + 1) new
  first_more c other tables new table first same is more = record { many = many; each = λ k less. each k less (cases_lt k c) }
    where
      many : length new ≡ c + 1
      many =
          let sum : length (tables ++ table ∷ []) ≡ length tables + length (table ∷ []) = length-append tables (table ∷ []) in
          let size : length new ≡ length (tables ++ table ∷ []) = ap length more in
          omega (arith, sum, size, first.many)

      each : (k : ℕ) → k < c + 1 → (k < c) ⊎ (c ≤ k) → IsShown p r k (get_or new k [])
      each k less (inl low) =
          let there : k < length tables = omega (arith, low, first.many) in
          subst (IsShown p r k) (sym (ap (λ (ts : List (List Bool)). get_or ts k []) more ∙ get_or_append_left tables (table ∷ []) [] k there)) (first.each k low)
      each k less (inr past) =
          let last : other ≡ k = omega (arith, same, less, past) in
          let end : length tables + 0 ≡ k = omega (arith, first.many, less, past) in
          let here : get_or new k [] ≡ table =
          ap (λ (ts : List (List Bool)). get_or ts k []) more
          ∙ ap (λ (i : ℕ). get_or (tables ++ table ∷ []) i []) (sym end)
          ∙ get_or-append-add tables (table ∷ []) 0 [] in
          subst (IsShown p r k) (sym here) (subst (λ (i : ℕ). IsShown p r i table) last is)

  module _ (built : IsBuilt r.net) (tables : List (List Bool)) (are : AreShown p r tables) (spot : Spot) (chip net : ℕ) (same_chip : chip ≡ spot.chip.place) (same_net : net ≡ spot.net.place) where
    module _ (table : List Bool) (at : slice_get tables chip ≡ Some table) where
      told : IsShown p r chip table
      told =
          let low : chip < length tables = slice_get_within tables chip table at in
          subst (IsShown p r chip) (get_or_from_slice_get tables chip table [] at) (are.each chip (omega (arith, low, are.many)))

      -- a net that the table of its chip has not is not there
      pub far_net : length table ≤ net → HasShown p r spot false
      far_net past = far_shown p r built chip spot (sym same_chip) (omega (arith, past, same_net, told.count))

      -- the table of its chip tells of a net
      pub net_shown : (test : Bool) → slice_get table net ≡ Some test → HasShown p r spot test
      net_shown test has =
          let low : net < length table = slice_get_within table net test has in
          let same : ◌≡◌ {A = Spot} (spot_at chip net) spot = ap (λ (c : ℕ). spot_at c net) same_chip ∙ ap (spot_at spot.chip.place) same_net in
          shown_as p r (spot_at chip net) spot test (get_or table net false) same (sym (get_or_from_slice_get table net test false has)) (told.tells net (omega (arith, low, told.count)))
