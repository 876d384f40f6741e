-- The ranking of the graph of gates gives an order in which each gate stands once, after those that drive its inputs.
use Rattle.std.proofs.Common.{◌≡◌, ◌<◌, ◌≤◌, ◌+◌, ℕ, zero, suc, List, length, sym, ap, subst, ◌∙◌, inl, inr, arith}
use Rattle.std.specs.Prelude.{◌⊎◌, slice_index}
use Rattle.std.proofs.lemmas.Bool.{cases_eq, cases_lt}
use Rattle.graph_rank.specs.Ranks.{ComesBefore, Ranking, IsRanking, IsOrder}
use Rattle.graph_rank.specs.Cycles.{IsCycle}
use Rattle.graph_rank.specs.Answers.{CyclesComeRound}
use Rattle.emu_machine.specs.declared.netlist.Chip.{Chip}
use Rattle.emu_machine.specs.Netlist.{IsOnCycle}
use Rattle.gate_cycles.specs.Gates.{AreGateRows, IsDriven}
use Rattle.gate_cycles.proofs.Rows.{row_count, row_has, leads_back}
use Rattle.chip_pass.specs.Orders.{IsGateOrder}

module _ (ranks order : List ℕ) (rises : (k : ℕ) → k + 1 < length order → ComesBefore ranks (slice_index order k) (slice_index order (k + 1))) where
  then_before : (a b c : ℕ) → ComesBefore ranks a b → ComesBefore ranks b c → ComesBefore ranks a c
  then_before a b c (inl x) (inl y) = inl (omega (arith, x, y))
  then_before a b c (inl x) (inr y) = inl (omega (arith, x, y.0))
  then_before a b c (inr x) (inl y) = inl (omega (arith, x.0, y))
  then_before a b c (inr x) (inr y) = inr (x.0 ∙ y.0, omega (arith, x.1, y.1))

  not_itself : (a b : ℕ) → a ≡ b → ComesBefore ranks a b → ⊥
  not_itself a b e (inl x) = let same : slice_index ranks a ≡ slice_index ranks b = ap (slice_index ranks) e in omega (arith, same, x)
  not_itself a b e (inr x) = omega (arith, e, x.1)

  later : (m j : ℕ) → j ≤ m → m + 1 < length order → ComesBefore ranks (slice_index order j) (slice_index order (m + 1))
  later zero j less low =
      let first : 0 ≡ j = omega (arith, less) in
      subst (λ (i : ℕ). ComesBefore ranks (slice_index order i) (slice_index order (zero + 1))) first (rises 0 low)
  later (suc m) j less low = go (later m j) (cases_eq j (suc m))
    where
      go : (j ≤ m → m + 1 < length order → ComesBefore ranks (slice_index order j) (slice_index order (m + 1)))
          → (j ≡ suc m) ⊎ (j ≡ suc m → ⊥) → ComesBefore ranks (slice_index order j) (slice_index order (suc m + 1))
      go before (inl same) =
          subst (λ (i : ℕ). ComesBefore ranks (slice_index order i) (slice_index order (suc m + 1))) (sym same) (rises (suc m) low)
      go before (inr other) =
          let next : suc m ≡ m + 1 = omega arith in
          then_before (slice_index order j) (slice_index order (m + 1)) (slice_index order (suc m + 1))
          (before (omega (arith, less, other)) (omega (arith, low)))
          (subst (λ (i : ℕ). ComesBefore ranks (slice_index order i) (slice_index order (suc m + 1))) next (rises (suc m) low))

  -- what stands at two places is not the same
  apart : (j k : ℕ) → j < k → k < length order → slice_index order j ≡ slice_index order k → ⊥
  apart j zero less low e = omega (arith, less)
  apart j (suc m) less low e =
      let next : suc m ≡ m + 1 = omega arith in
      not_itself (slice_index order j) (slice_index order (m + 1)) (e ∙ ap (slice_index order) next)
      (later m j (omega (arith, less)) (omega (arith, low)))

  once : (j k : ℕ) → j < length order → k < length order → slice_index order j ≡ slice_index order k → j ≡ k
  once j k low_j low_k e = go (cases_lt j k) (cases_lt k j)
    where
      go : (j < k) ⊎ (k ≤ j) → (k < j) ⊎ (j ≤ k) → j ≡ k
      go (inl less) other = absurd (apart j k less low_k e)
      go (inr high) (inl less) = absurd (apart k j less low_j (sym e))
      go (inr high) (inr low) = omega (arith, high, low)

module _ (chip : Chip) (d : IsDriven chip) (rows : List (List ℕ)) (are : AreGateRows chip rows) where
  pub gate_order : (r : Ranking) → IsRanking rows r → IsOrder rows r.order → IsGateOrder chip r.order
  gate_order r is sorted =
      let rows_are : length rows ≡ length chip.gates = row_count chip d rows are in
      record {
        count = is.order_count ∙ rows_are;
        in_range = λ j low. omega (arith, rows_are, is.in_range j low);
        all = λ k low. is.all k (omega (arith, rows_are, low));
        once = once r.ranks r.order is.rises;
        earlier = λ j i to from low_j low_i at_j at_i reads.
            sorted j i low_j low_i (row_has chip d rows are (slice_index r.order i) (slice_index r.order j) from to at_i at_j reads);
      }

  pub no_cycle : CyclesComeRound → ((k : ℕ) → IsOnCycle chip k → ⊥) → (cycle : List ℕ) → IsCycle rows cycle → ⊥
  no_cycle round none cycle is =
      none (slice_index cycle 0) (leads_back chip d rows are (slice_index cycle 0) (slice_index cycle 0) (round rows cycle is))
