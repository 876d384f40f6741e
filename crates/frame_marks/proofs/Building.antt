-- Tables for all chips, made one after the other.
use Rattle.std.proofs.Common.{◌≡◌, ◌<◌, ◌≤◌, ◌+◌, ℕ, Bool, List, [], ◌∷◌, ◌++◌, get_or, length, sym, ap, subst, ◌∙◌, inl, inr, arith}
use Rattle.std.specs.Prelude.{◌⊎◌, Some, slice_get}
use Rattle.std.proofs.lemmas.Bool.{cases_eq, cases_lt}
use Rattle.std.proofs.lemmas.Option.{slice_get_within, slice_get-get_or, same_Some}
use Rattle.std.proofs.lemmas.List.{length-append, get_or_push, get_or_append_left, get_or_past}
use Rattle.gate_cycles.specs.Gates.{IsDriven}
use Rattle.emu_machine.specs.declared.netlist.Chip.{Chip}
use Rattle.emu_machine.specs.Building.{IsBuilt}
use Rattle.chip_pass.specs.Chips.{ChipState, IsChipPass}
use Rattle.mark_rule.specs.Kept.{AreKept}
use Rattle.emu_machine.specs.Results.{Results}
use Rattle.emu_machine.specs.Netlist.{chip_at, net_drivers}
use Rattle.emu_machine.specs.Marks.{Mark}
use Rattle.frame_marks.specs.declared.tables.MemoryMarks.{MemoryMarks}
use Rattle.frame_marks.specs.Starts.{AreGated}
use Rattle.frame_marks.specs.Tables.{AreMemoryTables}
use Rattle.frame_marks.proofs.Numbers.{chip_is, chip_far}

-- tables of which each tells what it is to tell of its chip
pub record FirstTell {T : Type 0} (Tells : ℕ → List T → Type 0) (count : ℕ) (tables : List (List T)) : Type 0 where
  pub count_is : length tables ≡ count
  pub each : (c : ℕ) → c < count → Tells c (get_or tables c [])

abbrev pub FirstKept : Results → ℕ → List (List Bool) → Type 0
FirstKept r count kept = FirstTell (AreKept r) count kept

abbrev pub FirstGated : Results → ℕ → List (List Bool) → Type 0
FirstGated r count gated = FirstTell (λ c. AreGated (chip_at r.net c)) count gated

abbrev pub FirstRows : Results → ℕ → List (List MemoryMarks) → Type 0
FirstRows r count memories = FirstTell (λ c row. length row ≡ length (chip_at r.net c).memories) count memories

-- passes over the first chips
pub record FirstChips (r : Results) (count : ℕ) (chips : List (ChipState Mark)) : Type 0 where
  pub count_is : length chips ≡ count
  pub chip : (c : ℕ) (s : ChipState Mark) → slice_get chips c ≡ Some s → s.chip ≡ chip_at r.net c
  pub pass : (c : ℕ) (s : ChipState Mark) → slice_get chips c ≡ Some s → IsChipPass s

-- ## All chips

pub rows_are : (r : Results) (count : ℕ) (memories : List (List MemoryMarks)) → length r.net ≤ count → count ≤ length r.net → FirstRows r count memories → AreMemoryTables r memories
rows_are r count memories whole within first =
    record { count = omega (arith, first.count_is, whole, within); sizes = λ c. go c (cases_lt c (length r.net)) }
  where
    go : (c : ℕ) → (c < length r.net) ⊎ (length r.net ≤ c) → length (get_or memories c []) ≡ length (chip_at r.net c).memories
    go c (inl low) = first.each c (omega (arith, low, whole))
    go c (inr high) =
        ap length (get_or_past memories c [] (omega (arith, first.count_is, high, within)))
        ∙ sym (ap (λ (chip : Chip). length chip.memories) (chip_far r.net c high))

module _ (r : Results) (built : IsBuilt r.net) (c : ℕ) (chip : Chip) (at : slice_get r.net c ≡ Some chip) where
  pub chip_driven : IsDriven chip
  chip_driven =
      let here : chip_at r.net c ≡ chip = chip_is r.net c chip at in
      record {
        formed = built.formed.each c chip at;
        driven = λ n low. subst (λ (h : Chip). net_drivers h n ≡ 1) here (built.netlist c n (subst (λ (h : Chip). n < h.nets) (sym here) low));
      }

pub one_chip : (r : Results) (c : ℕ) (chips : List (ChipState Mark)) → FirstChips r c chips → (new : ChipState Mark) → new.chip ≡ chip_at r.net c → IsChipPass new
    → FirstChips r (c + 1) (chips ++ new ∷ [])
one_chip r c chips first new chip is =
    record {
      count_is = length-append chips (new ∷ []) ∙ ap (λ (n : ℕ). n + 1) first.count_is;
      chip = λ k s at. chip_of k s at (cases_eq k c);
      pass = λ k s at. pass_of k s at (cases_eq k c);
    }
  where
    size : length (chips ++ new ∷ []) ≡ c + 1
    size = length-append chips (new ∷ []) ∙ ap (λ (n : ℕ). n + 1) first.count_is

    low_in : (k : ℕ) (s : ChipState Mark) → slice_get (chips ++ new ∷ []) k ≡ Some s → k < c + 1
    low_in k s at = let low : k < length (chips ++ new ∷ []) = slice_get_within (chips ++ new ∷ []) k s at in omega (arith, low, size)

    last : (k : ℕ) (s : ChipState Mark) → slice_get (chips ++ new ∷ []) k ≡ Some s → k ≡ c → new ≡ s
    last k s at same =
        same_Some new s
        (ap Some (sym (get_or_push chips new s c first.count_is))
        ∙ sym (slice_get-get_or (chips ++ new ∷ []) c s (omega (arith, size)))
        ∙ ap (slice_get (chips ++ new ∷ [])) (sym same) ∙ at)

    earlier : (k : ℕ) (s : ChipState Mark) → slice_get (chips ++ new ∷ []) k ≡ Some s → (k ≡ c → ⊥) → slice_get chips k ≡ Some s
    earlier k s at other =
        let low : k < length chips = let within : k < c + 1 = low_in k s at in omega (arith, within, other, first.count_is) in
        slice_get-get_or chips k s low
        ∙ ap Some (sym (get_or_append_left chips (new ∷ []) s k low))
        ∙ sym (slice_get-get_or (chips ++ new ∷ []) k s (let within : k < c + 1 = low_in k s at in omega (arith, within, size)))
        ∙ at

    chip_of : (k : ℕ) (s : ChipState Mark) → slice_get (chips ++ new ∷ []) k ≡ Some s → (k ≡ c) ⊎ (k ≡ c → ⊥) → s.chip ≡ chip_at r.net k
    chip_of k s at (inl same) = sym (ap (λ (x : ChipState Mark). x.chip) (last k s at same)) ∙ chip ∙ ap (chip_at r.net) (sym same)
    chip_of k s at (inr other) = first.chip k s (earlier k s at other)

    pass_of : (k : ℕ) (s : ChipState Mark) → slice_get (chips ++ new ∷ []) k ≡ Some s → (k ≡ c) ⊎ (k ≡ c → ⊥) → IsChipPass s
    pass_of k s at (inl same) = subst (λ (x : ChipState Mark). IsChipPass x) (last k s at same) is
    pass_of k s at (inr other) = first.pass k s (earlier k s at other)
