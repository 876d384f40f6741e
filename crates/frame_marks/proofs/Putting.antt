-- Free nets take what they are given.
use Rattle.std.proofs.Common.{◌≡◌, ◌<◌, ℕ, Bool, List, [], ◌∷◌, drop, set, length, sym, ap, subst, ◌∙◌, inl, inr, if◌then◌else◌, arith}
use Rattle.std.specs.Prelude.{◌==◌, ◌&&◌, ◌⊎◌, Some, None, slice_get, unwrap_or, option_map}
use Rattle.std.proofs.lemmas.Bool.{cases_eq}
use Rattle.std.proofs.lemmas.List.{length-set, get_or-set_same, get_or-set_other}
use Rattle.design_core.specs.declared.node.NodeId.{NodeId}
use Rattle.gate_pass.specs.Gates.{PassState, NetHasTaken, value_on}
use Rattle.chip_pass.specs.Chips.{ChipState, IsChipPass}
use Rattle.emu_machine.specs.declared.netlist.Chip.{Chip}
use Rattle.emu_machine.specs.Results.{Results}
use Rattle.emu_machine.specs.Netlist.{chip_at}
use Rattle.emu_machine.specs.Mapped.{subject}
use Rattle.emu_machine.specs.Marks.{Mark, no_mark, widened}
use Rattle.facts.proofs.Tests.{same_number}
use Rattle.frame_marks.specs.declared.tables.Given.{Given}
use Rattle.frame_marks.specs.Frames.{mark_in}
use Rattle.frame_marks.specs.Tables.{AreChipTables}
use Rattle.frame_marks.specs.Takes.{given_in, HavePut}
use Rattle.frame_marks.proofs.Giving.{is_other}
use Rattle.frame_marks.proofs.Numbers.{mark_is}
use Rattle.frame_marks.proofs.Passing.{same_pass, tables_set, mark_same, mark_other}

-- the same of a net and a value that are told otherwise
pub taken_as : (net other : ℕ) (value same : Mark) (old new : PassState Mark) → other ≡ net → same ≡ value → NetHasTaken no_mark other same old new → NetHasTaken no_mark net value old new
taken_as net other value same old new nets values taken =
    subst (λ (n : ℕ). NetHasTaken no_mark n value old new) nets (subst (λ (m : Mark). NetHasTaken no_mark other m old new) values taken)

-- the value of a net that has taken one
pub taken_value : (net : ℕ) (value : Mark) (old new : PassState Mark) → NetHasTaken no_mark net value old new → net < length old.values → (n : ℕ)
    → value_on no_mark new.values n ≡ (if net == n then value else value_on no_mark old.values n)
taken_value net value old new taken low n = go (cases_eq net n)
  where
    go : (net ≡ n) ⊎ (net ≡ n → ⊥) → value_on no_mark new.values n ≡ (if net == n then value else value_on no_mark old.values n)
    go (inl same) =
        ap (λ vs. value_on no_mark vs n) taken.values
        ∙ ap (λ (k : ℕ). value_on no_mark (set old.values net value) k) (sym same)
        ∙ get_or-set_same old.values net value no_mark low
        ∙ sym (ap (λ b. if b then value else value_on no_mark old.values n) (same_number net n same))
    go (inr other) =
        ap (λ vs. value_on no_mark vs n) taken.values
        ∙ get_or-set_other old.values net n value no_mark (λ e. other (sym e))
        ∙ sym (ap (λ b. if b then value else value_on no_mark old.values n) (is_other net n other))

module _ (r : Results) (inside : NodeId → Bool) (chips : List (ChipState Mark)) (tables : AreChipTables r chips) (g : Given Mark) (s new : ChipState Mark) (at : slice_get chips g.chip.place ≡ Some s)
    (low : g.place < (chip_at r.net g.chip.place).nets)
    (chip : new ≡ record s { pass = new.pass })
    (taken : NetHasTaken no_mark g.place (widened inside (subject r g.chip.place g.place) g.what) s.pass new.pass) where
  abbrev c : ℕ
  c = g.chip.place

  abbrev value : Mark
  value = widened inside (subject r c g.place) g.what

  is_pass : IsChipPass s
  is_pass = tables.pass c s at

  within : g.place < length s.pass.values
  within =
      let nets : s.chip.nets ≡ (chip_at r.net c).nets = ap (λ (chip : Chip). chip.nets) (tables.chip c s at) in
      let size : length s.pass.values ≡ s.chip.nets = is_pass.nets in
      omega (arith, nets, size, low)

  pub put_pass : IsChipPass new
  put_pass =
      same_pass s new (ap (λ (x : ChipState Mark). x.chip) chip) (ap (λ (x : ChipState Mark). x.order) chip) taken.inputs taken.outputs
      (ap length taken.values ∙ length-set s.pass.values g.place value) is_pass

  pub put_tables : AreChipTables r (set chips c new)
  put_tables = tables_set r chips tables c s new at (ap (λ (x : ChipState Mark). x.chip) chip) put_pass

  pub put_marks : HavePut r inside (g ∷ []) chips (set chips c new)
  put_marks k n free = go (cases_eq c k)
    where
      go : (c ≡ k) ⊎ (c ≡ k → ⊥)
          → mark_in (set chips c new) k n ≡ unwrap_or (option_map (widened inside (subject r k n)) (given_in (g ∷ []) k n)) (mark_in chips k n)
      go (inr other) =
          mark_other r chips tables c s new at k n (λ e. other (sym e))
          ∙ sym (ap (λ b. unwrap_or (option_map (widened inside (subject r k n)) (if b && (g.place == n) then Some g.what else None)) (mark_in chips k n)) (is_other c k other))
      go (inl same) =
          ap (λ (i : ℕ). mark_in (set chips c new) i n) (sym same)
          ∙ mark_same r chips tables c s new at n
          ∙ taken_value g.place value s.pass new.pass taken within n
          ∙ ap (λ m. if g.place == n then value else m) (sym (mark_is chips c s at n))
          ∙ here (cases_eq g.place n)
          ∙ ap (λ (i : ℕ). unwrap_or (option_map (widened inside (subject r i n)) (if g.place == n then Some g.what else None)) (mark_in chips i n)) same
          ∙ sym (ap (λ b. unwrap_or (option_map (widened inside (subject r k n)) (if b && (g.place == n) then Some g.what else None)) (mark_in chips k n)) (same_number c k same))
        where
          here : (g.place ≡ n) ⊎ (g.place ≡ n → ⊥)
              → (if g.place == n then value else mark_in chips c n) ≡ unwrap_or (option_map (widened inside (subject r c n)) (if g.place == n then Some g.what else None)) (mark_in chips c n)
          here (inl same_n) =
              ap (λ b. if b then value else mark_in chips c n) (same_number g.place n same_n)
              ∙ ap (λ (i : ℕ). widened inside (subject r c i) g.what) same_n
              ∙ sym (ap (λ b. unwrap_or (option_map (widened inside (subject r c n)) (if b then Some g.what else None)) (mark_in chips c n)) (same_number g.place n same_n))
          here (inr other) =
              ap (λ b. if b then value else mark_in chips c n) (is_other g.place n other)
              ∙ sym (ap (λ b. unwrap_or (option_map (widened inside (subject r c n)) (if b then Some g.what else None)) (mark_in chips c n)) (is_other g.place n other))

module _ (r : Results) (inside : NodeId → Bool) (given : List (Given Mark)) where
  pub all_put : (left : ℕ) → left ≡ 0 → (before after : List (ChipState Mark)) → HavePut r inside (drop left given) before after → HavePut r inside given before after
  all_put left none before after h = subst (λ (k : ℕ). HavePut r inside (drop k given) before after) none h
