-- What is kept takes "before" alone, net by net.
use Rattle.std.proofs.Common.{◌≡◌, ◌<◌, ◌≤◌, ◌+◌, ℕ, Bool, true, false, List, length, get_or, if◌then◌else◌, sym, subst, ap, ◌∙◌, inl, inr, arith}
use Rattle.std.specs.Prelude.{◌⊎◌, Some, slice_get}
use Rattle.std.proofs.lemmas.Bool.{cases_eq, cases_lt}
use Rattle.std.proofs.lemmas.List.{length-set, get_or-set_same, get_or-set_other}
use Rattle.std.proofs.lemmas.Option.{get_or_from_slice_get}
use Rattle.emu_machine.specs.declared.netlist.EmuGate.{EmuGate}
use Rattle.emu_machine.specs.Marks.{Mark, no_mark, only_before}
use Rattle.gate_pass.specs.Gates.{NetHasTaken, value_on}
use Rattle.chip_pass.specs.Chips.{ChipState, ChipOthersWait}
use Rattle.output_marks.specs.Shown.{HasKept, HasPut}

-- a kept net is set
pub put_kept : (kept : Bool) (n : ℕ) (old new : ChipState Mark) (mark : Mark) → kept ≡ true → mark ≡ only_before → n < length old.pass.values
    → new.chip ≡ old.chip → NetHasTaken no_mark n mark old.pass new.pass
    → ((gives : EmuGate → List Mark → Mark) → ChipOthersWait gives no_mark old → ChipOthersWait gives no_mark new)
    → HasPut kept n old new
put_kept kept n old new mark is alone there same taken wait = record {
  chip = same;
  nets = ap length taken.values ∙ length-set old.pass.values n mark;
  here = ap (λ (v : List Mark). value_on no_mark v n) taken.values
      ∙ get_or-set_same old.pass.values n mark no_mark there
      ∙ alone
      ∙ ap (λ (b : Bool). if b then only_before else value_on no_mark old.pass.values n) (sym is);
  others = λ m other.
      ap (λ (v : List Mark). value_on no_mark v m) taken.values ∙ get_or-set_other old.pass.values n m mark no_mark other;
  wait = wait;
}

-- one net more
pub kept_more : (kept : List Bool) (count : ℕ) (old s new : ChipState Mark) → HasKept kept count old s → HasPut (get_or kept count false) count s new → HasKept kept (count + 1) old new
kept_more kept count old s new h put = record {
  chip = put.chip ∙ h.chip;
  nets = put.nets ∙ h.nets;
  low = λ n less. low n less (cases_eq n count);
  high = λ n past.
      let under : count ≤ n = omega (arith, past) in
      let other : n ≡ count → ⊥ = λ e. omega (arith, e, past) in
      put.others n other ∙ h.high n under;
  wait = λ gives so. put.wait gives (h.wait gives so);
}
  where
    below : (n : ℕ) → n < count + 1 → (n ≡ count → ⊥) → n < count
    below n less other = go (cases_lt n count)
      where
        go : (n < count) ⊎ (count ≤ n) → n < count
        go (inl low) = low
        go (inr past) = let same : n ≡ count = omega (arith, past, less) in absurd (other same)

    low : (n : ℕ) → n < count + 1 → (n ≡ count) ⊎ (n ≡ count → ⊥) → value_on no_mark new.pass.values n ≡ (if get_or kept n false then only_before else value_on no_mark old.pass.values n)
    low n less (inl same) =
        let here : value_on no_mark s.pass.values count ≡ value_on no_mark old.pass.values count = h.high count (omega arith) in
        subst
        (λ (m : ℕ). value_on no_mark new.pass.values m ≡ (if get_or kept m false then only_before else value_on no_mark old.pass.values m))
        (sym same)
        (put.here ∙ ap (λ (v : Mark). if get_or kept count false then only_before else v) here)
    low n less (inr other) =
        let under : n < count = below n less other in
        put.others n other ∙ h.low n under

-- a net of the table is put
pub put_at : (kept : List Bool) (n i k : ℕ) (b : Bool) (old new : ChipState Mark) → i ≡ n → k ≡ n → slice_get kept i ≡ Some b → HasPut b k old new → HasPut (get_or kept n false) n old new
put_at kept n i k b old new same same_net at put =
    subst (λ (m : ℕ). HasPut (get_or kept n false) m old new) same_net
    (subst (λ (x : Bool). HasPut x k old new) (sym (get_or_from_slice_get kept n b false (ap (slice_get kept) (sym same) ∙ at))) put)
