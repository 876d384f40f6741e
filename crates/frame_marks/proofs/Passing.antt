-- Passes over the gates of all chips, one chip after the other.
use Rattle.std.proofs.Common.{◌≡◌, ◌<◌, ◌≤◌, ◌+◌, ℕ, Bool, List, [], set, get_or, length, sym, ap, subst, ◌∙◌, inl, inr, arith}
use Rattle.std.specs.Prelude.{◌⊎◌, Some, None, slice_get}
use Rattle.std.specs.Option.{option_map_or}
use Rattle.std.proofs.lemmas.Bool.{cases_eq}
use Rattle.std.proofs.lemmas.List.{length-set}
use Rattle.std.proofs.lemmas.Option.{slice_get_within, slice_get-get_or}
use Rattle.design_core.specs.declared.node.NodeId.{NodeId}
use Rattle.design_core.specs.declared.parts.Parts.{Parts}
use Rattle.design_core.proofs.Owning.{get-set_other, get-set_same}
use Rattle.gate_cycles.specs.Gates.{IsDriven}
use Rattle.gate_pass.specs.Gates.{value_on}
use Rattle.chip_pass.specs.Chips.{ChipState, ChipHasSettled, ChipOthersWait, IsChipPass}
use Rattle.chip_pass.specs.Orders.{IsGateOrder, ranked_inputs, ranked_outputs}
use Rattle.chip_pass.proofs.Passes.{hold_through}
use Rattle.mark_rule.specs.Gates.{gate_gives}
use Rattle.emu_machine.specs.declared.netlist.Chip.{Chip}
use Rattle.emu_machine.specs.declared.netlist.EmuGate.{EmuGate}
use Rattle.emu_machine.specs.Results.{Results}
use Rattle.emu_machine.specs.Netlist.{chip_at, gate_of, through_gates}
use Rattle.emu_machine.specs.Marks.{Mark, no_mark}
use Rattle.frame_marks.specs.Frames.{mark_in}
use Rattle.frame_marks.specs.Tables.{AreChipTables, AllOthersWait, HaveSettled}
use Rattle.frame_marks.proofs.Numbers.{mark_is, net_chip_low}

-- a pass over the same gates in the same order
pub same_pass : {T : Type 0} (s new : ChipState T) → new.chip ≡ s.chip → new.order ≡ s.order → new.pass.inputs ≡ s.pass.inputs → new.pass.outputs ≡ s.pass.outputs
    → length new.pass.values ≡ length s.pass.values → IsChipPass s → IsChipPass new
same_pass s new chip order inputs outputs nets is =
    record {
      driven = subst IsDriven (sym chip) is.driven;
      ordered = subst (IsGateOrder new.chip) (sym order) (subst (λ (c : Chip). IsGateOrder c s.order) (sym chip) is.ordered);
      inputs = inputs ∙ is.inputs ∙ ap (λ (c : Chip). ranked_inputs c s.order) (sym chip) ∙ ap (ranked_inputs new.chip) (sym order);
      outputs = outputs ∙ is.outputs ∙ ap (λ (c : Chip). ranked_outputs c s.order) (sym chip) ∙ ap (ranked_outputs new.chip) (sym order);
      nets = nets ∙ is.nets ∙ ap (λ (c : Chip). c.nets) (sym chip);
    }

pub settled_pass : {T : Type 0} (gives : EmuGate → List T → T) (none : T) (s new : ChipState T) → ChipHasSettled gives none s new → IsChipPass s → IsChipPass new
settled_pass gives none s new h is = same_pass s new h.chip h.order h.pass.inputs h.pass.outputs h.pass.nets is

-- the tables with another pass for one chip
module _ (r : Results) (chips : List (ChipState Mark)) (tables : AreChipTables r chips) (c : ℕ) (s new : ChipState Mark) (at : slice_get chips c ≡ Some s) where
  low : c < length chips
  low = slice_get_within chips c s at

  pub at_set : slice_get (set chips c new) c ≡ Some new
  at_set =
      let within : c < length (set chips c new) = let same : length (set chips c new) ≡ length chips = length-set chips c new in let l : c < length chips = low in omega arith in
      let here : slice_get (set chips c new) c ≡ Some (get_or (set chips c new) c s) = slice_get-get_or (set chips c new) c s within in
      here ∙ ap Some (sym (get-set_same chips c new (get_or (set chips c new) c s) here))

  pub tables_set : new.chip ≡ s.chip → IsChipPass new → AreChipTables r (set chips c new)
  tables_set chip is =
      record {
        count = length-set chips c new ∙ tables.count;
        chip = λ k t there. chip_of k t there (cases_eq k c);
        pass = λ k t there. pass_of k t there (cases_eq k c);
      }
    where
      chip_of : (k : ℕ) (t : ChipState Mark) → slice_get (set chips c new) k ≡ Some t → (k ≡ c) ⊎ (k ≡ c → ⊥) → t.chip ≡ chip_at r.net k
      chip_of k t there (inl same) =
          let one : new ≡ t = get-set_same chips c new t (subst (λ (i : ℕ). slice_get (set chips c new) i ≡ Some t) same there) in
          sym (ap (λ (x : ChipState Mark). x.chip) one) ∙ chip ∙ tables.chip c s at ∙ ap (chip_at r.net) (sym same)
      chip_of k t there (inr other) = tables.chip k t (sym (get-set_other chips c k new other) ∙ there)

      pass_of : (k : ℕ) (t : ChipState Mark) → slice_get (set chips c new) k ≡ Some t → (k ≡ c) ⊎ (k ≡ c → ⊥) → IsChipPass t
      pass_of k t there (inl same) =
          let one : new ≡ t = get-set_same chips c new t (subst (λ (i : ℕ). slice_get (set chips c new) i ≡ Some t) same there) in
          subst (λ (x : ChipState Mark). IsChipPass x) one is
      pass_of k t there (inr other) = tables.pass k t (sym (get-set_other chips c k new other) ∙ there)

  pub others_set : (p : Parts) (inside : NodeId → Bool) → ChipOthersWait (gate_gives p r inside c) no_mark new → AllOthersWait p r inside chips → AllOthersWait p r inside (set chips c new)
  others_set p inside one all k t there = go (cases_eq k c)
    where
      go : (k ≡ c) ⊎ (k ≡ c → ⊥) → ChipOthersWait (gate_gives p r inside k) no_mark t
      go (inl same) =
          let is : new ≡ t = get-set_same chips c new t (subst (λ (i : ℕ). slice_get (set chips c new) i ≡ Some t) same there) in
          subst (λ (i : ℕ). ChipOthersWait (gate_gives p r inside i) no_mark t) (sym same) (subst (λ (x : ChipState Mark). ChipOthersWait (gate_gives p r inside c) no_mark x) is one)
      go (inr other) = all k t (sym (get-set_other chips c k new other) ∙ there)

  pub mark_other : (k n : ℕ) → (k ≡ c → ⊥) → mark_in (set chips c new) k n ≡ mark_in chips k n
  mark_other k n other = ap (λ o. value_on no_mark (option_map_or (λ (s : ChipState Mark). s.pass.values) o []) n) (get-set_other chips c k new other)

  pub mark_same : (n : ℕ) → mark_in (set chips c new) c n ≡ value_on no_mark new.pass.values n
  mark_same n = mark_is (set chips c new) c new at_set n

-- ## Settling

-- the first chips have settled, and the others are as they were
pub record FirstSettled (p : Parts) (r : Results) (inside : NodeId → Bool) (count : ℕ) (before after : List (ChipState Mark)) : Type 0 where
  pub tables : AreChipTables r after
  pub others : AllOthersWait p r inside after
  pub settled : (c : ℕ) → c < count → (source : ℕ → Mark)
      → ((n : ℕ) → n < (chip_at r.net c).nets → gate_of (chip_at r.net c) n ≡ None → mark_in before c n ≡ source n)
      → (n : ℕ) → n < (chip_at r.net c).nets → mark_in after c n ≡ through_gates (chip_at r.net c) source (gate_gives p r inside c) n
  pub rest : (c n : ℕ) → count ≤ c → mark_in after c n ≡ mark_in before c n

module _ (p : Parts) (r : Results) (inside : NodeId → Bool) (before : List (ChipState Mark)) where
  module _ (c : ℕ) (chips : List (ChipState Mark)) (first : FirstSettled p r inside c before chips) (s new : ChipState Mark) (at : slice_get chips c ≡ Some s)
      (done : ChipHasSettled (gate_gives p r inside c) no_mark s new) (others : ChipOthersWait (gate_gives p r inside c) no_mark new) where
    pass_of_chip : IsChipPass s
    pass_of_chip = first.tables.pass c s at

    here : (source : ℕ → Mark)
        → ((n : ℕ) → n < (chip_at r.net c).nets → gate_of (chip_at r.net c) n ≡ None → mark_in before c n ≡ source n)
        → (n : ℕ) → n < (chip_at r.net c).nets → mark_in (set chips c new) c n ≡ through_gates (chip_at r.net c) source (gate_gives p r inside c) n
    here source agree n within =
        mark_same r chips first.tables c s new at n
        ∙ subst (λ (chip : Chip). ((m : ℕ) → m < chip.nets → gate_of chip m ≡ None → mark_in before c m ≡ source m) → n < chip.nets
        → value_on no_mark new.pass.values n ≡ through_gates chip source (gate_gives p r inside c) n)
        (first.tables.chip c s at) through agree within
      where
        through : ((m : ℕ) → m < s.chip.nets → gate_of s.chip m ≡ None → mark_in before c m ≡ source m) → n < s.chip.nets
            → value_on no_mark new.pass.values n ≡ through_gates s.chip source (gate_gives p r inside c) n
        through agree low =
            hold_through s.chip pass_of_chip.driven s.order pass_of_chip.ordered (gate_gives p r inside c) no_mark new.pass
            (done.pass.inputs ∙ pass_of_chip.inputs) (done.pass.outputs ∙ pass_of_chip.outputs) done.pass.holds source
            (λ m below free.
            done.free m free
            ∙ sym (mark_is chips c s at m)
            ∙ first.rest c m (omega arith)
            ∙ agree m below free)
            n low

    pub one_settled : FirstSettled p r inside (c + 1) before (set chips c new)
    one_settled =
        record {
          tables = tables_set r chips first.tables c s new at done.chip (settled_pass (gate_gives p r inside c) no_mark s new done pass_of_chip);
          others = others_set r chips first.tables c s new at p inside others first.others;
          settled = λ k low. go k low (cases_eq k c);
          rest = λ k n high. mark_other r chips first.tables c s new at k n (λ e. absurd (omega (arith, high, e))) ∙ first.rest k n (omega (arith, high));
        }
      where
        go : (k : ℕ) → k < c + 1 → (k ≡ c) ⊎ (k ≡ c → ⊥) → (source : ℕ → Mark)
            → ((n : ℕ) → n < (chip_at r.net k).nets → gate_of (chip_at r.net k) n ≡ None → mark_in before k n ≡ source n)
            → (n : ℕ) → n < (chip_at r.net k).nets → mark_in (set chips c new) k n ≡ through_gates (chip_at r.net k) source (gate_gives p r inside k) n
        go k low (inl same) source agree n within =
            subst (λ (i : ℕ). (source : ℕ → Mark)
            → ((n : ℕ) → n < (chip_at r.net i).nets → gate_of (chip_at r.net i) n ≡ None → mark_in before i n ≡ source n)
            → (n : ℕ) → n < (chip_at r.net i).nets → mark_in (set chips c new) i n ≡ through_gates (chip_at r.net i) source (gate_gives p r inside i) n)
            (sym same) here source agree n within
        go k low (inr other) source agree n within =
            mark_other r chips first.tables c s new at k n other
            ∙ first.settled k (omega (arith, low, other)) source agree n within

  pub all_settled : (count : ℕ) (after : List (ChipState Mark)) → length r.net ≤ count → FirstSettled p r inside count before after → HaveSettled p r inside before after
  all_settled count after whole first c source agree n low =
      let here : c < length r.net = net_chip_low r.net c n low in
      first.settled c (omega (arith, here, whole)) source agree n low
