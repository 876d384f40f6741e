-- The equations of a ranked design have a solution, which rounds of "every net takes what its driver
-- gives" reach.
use Rattle.std.proofs.Common.{ℕ, zero, suc, ◌+◌, ◌<◌, ◌≤◌, arith, Bool, false, inl, inr, List, refl, subst, sym, ◌∙◌}
use Rattle.design_core.specs.declared.node.NodeId.{NodeId}
use Rattle.design_core.specs.declared.node.NodeId.TheVariants.{Net, Write}
use Rattle.design_core.specs.declared.parts.Parts.{Parts}
use Rattle.design_core.specs.Design.{net_count, driver}
use Rattle.design_core.specs.Valuation.{Valuation}
use Rattle.design_core.specs.Dependency.{dependencies, above, HasRank, ranked, IsRanked}
use Rattle.std.proofs.lemmas.Bool.{cases_eq}
use Rattle.history_law.proofs.Ranges.{Each, each_of, below_above}
use Rattle.history_law.proofs.Equations.{Start, shows, IsFixed, Same, IsLocal, shows_same, clock_same}

-- what the rounds begin with; any valuation would do
abbrev blank : Valuation
blank = record { net = λ n. false; word = λ m a. 0 }

module _ (p : Parts) (s : Start) (i : ℕ → Bool) where
  -- every net takes what its driver gives
  abbrev pub round : Valuation → Valuation
  round u = record { net = λ n. shows p s i u n (driver p n); word = u.word }

  abbrev pub rounds : ℕ → Valuation
  rounds zero = blank
  rounds (suc k) = round (rounds k)

  -- the nets of a round, with the words that they give
  abbrev pub solution : ℕ → Valuation
  solution k = record { net = (rounds k).net; word = λ m a. s.word (rounds k) m a }

module _ (p : Parts) (s : Start) (local : IsLocal p s) (i : ℕ → Bool) where
  -- after as many rounds as its rank and one more, a node is what it is from then on
  final : (a : NodeId) (k : ℕ) → HasRank p a k → (j l : ℕ) → k < j → k < l → Same p (rounds p s i j) (rounds p s i l) a
  final _ _ (ranked (Net n) k rank deps e) zero l low high = absurd (omega arith)
  final _ _ (ranked (Net n) k rank deps e) (suc j) zero low high = absurd (omega arith)
  final _ _ (ranked (Net n) k rank deps e) (suc j) (suc l) low high =
      shows_same p (rounds p s i j) (rounds p s i l) s local i n.place (driver p n.place)
      (each_of (Same p (rounds p s i j) (rounds p s i l)) (dependencies p (Net n))
      (λ b has.
      let below : rank b < above rank (dependencies p (Net n)) = below_above rank (dependencies p (Net n)) b has in
      let less : rank b < j = omega arith in
      let more : rank b < l = omega arith in
      final b (rank b) (deps b has) j l less more))
  final _ _ (ranked (Write m c) k rank deps e) j l low high =
      clock_same p (rounds p s i j) (rounds p s i l) m c
      (each_of (Same p (rounds p s i j) (rounds p s i l)) (dependencies p (Write m c))
      (λ b has.
      let below : rank b < above rank (dependencies p (Write m c)) = below_above rank (dependencies p (Write m c)) b has in
      let less : rank b < j = omega arith in
      let more : rank b < l = omega arith in
      final b (rank b) (deps b has) j l less more))

-- a net has a rank below a number
pub record HasRankBelow (p : Parts) (bound n : ℕ) : Type 0 where
  pub rank : ℕ
  pub has : HasRank p (Net (record { place = n })) rank
  pub low : rank < bound

-- some number is above the ranks of the first nets
pub record HasBound (p : Parts) (count : ℕ) : Type 0 where
  pub bound : ℕ
  pub each : (n : ℕ) → n < count → HasRankBelow p bound n

module _ (p : Parts) (r : IsRanked p) where
  higher : (low high n : ℕ) → low ≤ high → HasRankBelow p low n → HasRankBelow p high n
  higher low high n more h = let less : h.rank < high = omega (arith, h.low) in record { rank = h.rank; has = h.has; low = less }

  bounded : (count : ℕ) → count ≤ net_count p → HasBound p count
  bounded zero small = record { bound = 0; each = λ n h. absurd (omega arith) }
  bounded (suc count) small =
      let fewer : count ≤ net_count p = omega arith in
      let here : count < net_count p = omega arith in
      let before : HasBound p count = bounded count fewer in
      let last = r (Net (record { place = count })) here in
      let bound : ℕ = before.bound + (last.0 + 1) in
      let more : before.bound ≤ bound = omega arith in
      let own : last.0 < bound = omega arith in
      record {
        bound = bound;
        each = λ n h. elim (cases_eq n count) [
          | inl same ↦ subst (HasRankBelow p bound) (sym same) (record { rank = last.0; has = last.1; low = own })
          | inr other ↦
              let less : n < count = omega arith in
              higher before.bound bound n more (before.each n less)
        ];
      }

  pub all_bounded : HasBound p (net_count p)
  all_bounded = bounded (net_count p) (omega arith)

  module _ (s : Start) (local : IsLocal p s) (i : ℕ → Bool) where
    abbrev pub enough : ℕ
    enough = all_bounded.bound

    abbrev pub solved : Valuation
    solved = solution p s i enough

    same_nets : (k : ℕ) (nodes : List NodeId) → Each (Same p (rounds p s i k) (solution p s i k)) nodes
    same_nets k nodes = each_of (Same p (rounds p s i k) (solution p s i k)) nodes (λ b has. same_node b)
      where
        same_node : (b : NodeId) → Same p (rounds p s i k) (solution p s i k) b
        same_node (Net n) = refl
        same_node (Write m c) = λ memory port at in_port. refl

    pub solved_fixed : IsFixed p s i solved
    solved_fixed =
        record {
          fixed = λ n small.
              let b : HasRankBelow p enough n = all_bounded.each n small in
              let next : b.rank < suc enough = omega (arith, b.low) in
              final p s local i (Net (record { place = n })) b.rank b.has enough (suc enough) b.low next
              ∙ shows_same p (rounds p s i enough) solved s local i n (driver p n) (same_nets enough (dependencies p (Net (record { place = n }))));
        }
