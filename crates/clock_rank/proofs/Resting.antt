-- A design is ranked exactly where none of its nodes rests on itself.
use Rattle.std.proofs.Common.{◌≡◌, ◌<◌, ℕ, zero, suc, Bool, true, false, cond, not, List, [], ◌∷◌, length, get_or, set, replicate, refl, sym, ◌∙◌, ap, subst, arith, ◌⊎◌, inl, inr}
use Rattle.std.specs.List.{Contains, count_by}
use Rattle.std.proofs.lemmas.Bool.{cases_eq}
use Rattle.std.proofs.lemmas.List.{length-set, length-replicate, get_or-set_other, get_or-replicate}
use Rattle.std.proofs.lemmas.List.Sums.{sum_by-set}
use Rattle.design_core.specs.declared.node.NodeId.{NodeId}
use Rattle.design_core.specs.declared.parts.Parts.{Parts}
use Rattle.design_core.specs.Design.{IsDesign}
use Rattle.design_core.specs.Dependency.{dependencies, IsNode, above, HasRank, IsRanked}
use Rattle.design_core.specs.Dependency.HasRank.{ranked}
use Rattle.clock_rank.specs.Cycles.{RestsOn, HasNoCycle}
use Rattle.clock_rank.specs.Cycles.RestsOn.{directly, through}
use Rattle.clock_rank.specs.Numbers.{all_nodes, number_of}
use Rattle.clock_rank.specs.Answers.{RankedWhereNoCycle}
use Rattle.clock_rank.proofs.Numbering.{number_at, same_number}
use Rattle.clock_rank.proofs.Closed.{depends_on_nodes}
use Rattle.clock_rank.proofs.Ordered.{one_rank, lower}

-- one dependency more
rests_further : (p : Parts) (a b c : NodeId) → RestsOn p a b → Contains (dependencies p b) c → RestsOn p a c
rests_further p a b c (directly a1 b1 h) more = through a1 b1 c h (directly b1 c more)
rests_further p a b c (through a1 m b1 h rest) more = through a1 m c h (rests_further p m b1 c rest more)

-- that on which a node rests has a lesser rank
rests_lower : (p : Parts) (a b : NodeId) (k : ℕ) → RestsOn p a b → HasRank p a k → (j : ℕ) × HasRank p b j × (j < k)
rests_lower p a b k (directly a1 b1 h) r = lower p a1 b1 k r h
rests_lower p a b k (through a1 m c h rest) r =
    let one = lower p a1 m k r h in
    let two = rests_lower p m c one.0 rest one.1 in
    let x = one.2 in let y = two.2 in
    (two.0, two.1, omega arith)

no_cycle : (p : Parts) → IsRanked p → HasNoCycle p
no_cycle p all a node on =
    let r = all a node in
    let s = rests_lower p a a r.0 on r.1 in
    let same : s.0 ≡ r.0 = one_rank p a s.0 r.0 s.1 r.1 in
    let less = s.2 in
    omega arith

-- one number where the nodes are the same, else the other
abbrev pick : {A : Type 0} → A ⊎ (A → ⊥) → ℕ → ℕ → ℕ
pick (inl same) k j = k
pick (inr other) k j = j

-- In a design without a cycle a walk from a node over dependencies sees no node twice, so it ends after
-- as many steps as there are nodes, and on the way back each node has its rank.
module _ (p : Parts) (d : IsDesign p) (none : HasNoCycle p) where
  -- the ranks of some nodes as one function
  as_one : (bs : List NodeId) → ((b : NodeId) → Contains bs b → IsNode p b) → ((b : NodeId) → Contains bs b → (k : ℕ) × HasRank p b k)
      → (rank : NodeId → ℕ) × ((b : NodeId) → Contains bs b → HasRank p b (rank b))
  as_one [] nodes each = (λ b. 0, λ b h. absurd (let below = h.1 in omega arith))
  as_one (e ∷ bs) nodes each =
      go (each e first) (as_one bs (λ b h. nodes b (later b h)) (λ b h. each b (later b h)))
    where
      first : Contains (e ∷ bs) e
      first = (0, omega arith, refl)

      later : (b : NodeId) → Contains bs b → Contains (e ∷ bs) b
      later b h = (suc h.0, omega (arith, h.1), h.2)

      go : (k : ℕ) × HasRank p e k → (rank : NodeId → ℕ) × ((b : NodeId) → Contains bs b → HasRank p b (rank b))
          → (rank : NodeId → ℕ) × ((b : NodeId) → Contains (e ∷ bs) b → HasRank p b (rank b))
      go (k, its) (rank, theirs) =
          (λ b. pick (cases_eq (number_of p b) (number_of p e)) k (rank b), λ b h. its_rank b (cases_eq (number_of p b) (number_of p e)) h)
        where
          its_rank : (b : NodeId) (o : (number_of p b ≡ number_of p e) ⊎ (number_of p b ≡ number_of p e → ⊥)) → Contains (e ∷ bs) b → HasRank p b (pick o k (rank b))
          its_rank b (inl same) h = subst (λ (c : NodeId). HasRank p c k) (sym (same_number p b e (nodes b h) (nodes e first) same)) its
          its_rank b (inr other) (zero, below, at) = absurd (other (ap (number_of p) (sym at)))
          its_rank b (inr other) (suc i, below, at) = theirs b (i, omega arith, at)

  -- a node whose dependencies have ranks has one
  rank_above : (a : NodeId) → IsNode p a → ((b : NodeId) → Contains (dependencies p a) b → (k : ℕ) × HasRank p b k) → (k : ℕ) × HasRank p a k
  rank_above a node each =
      let all = as_one (dependencies p a) (λ b h. depends_on_nodes p d a b node h) each in
      (above all.0 (dependencies p a), ranked a (above all.0 (dependencies p a)) all.0 all.1 refl)

  -- each node that was seen, by its number, rests on this one
  AreBehind : List Bool → NodeId → Type 0
  AreBehind seen a = (b : NodeId) → IsNode p b → get_or seen (number_of p b) false ≡ true → RestsOn p b a

  behind_more : (seen : List Bool) (a b : NodeId) → IsNode p a → Contains (dependencies p a) b → AreBehind seen a → AreBehind (set seen (number_of p a) true) b
  unfolding AreBehind
  behind_more seen a b node h back c there is = go (cases_eq (number_of p c) (number_of p a))
    where
      go : (number_of p c ≡ number_of p a) ⊎ (number_of p c ≡ number_of p a → ⊥) → RestsOn p c b
      go (inl same) = subst (λ (n : NodeId). RestsOn p n b) (sym (same_number p c a there node same)) (directly a b h)
      go (inr other) = rests_further p c a b (back c there (sym (get_or-set_other seen (number_of p a) (number_of p c) true false other) ∙ is)) h

  fewer : (seen : List Bool) (n : ℕ) → n < length seen → get_or seen n false ≡ false → count_by not (set seen n true) < count_by not seen
  fewer seen n room new =
      let e = sum_by-set (λ x. cond {A = ℕ} (not x) 1 0) seen n true false room in
      let h = rw new at e in omega arith

  go_on : (fuel : ℕ) (seen : List Bool) (a : NodeId) → IsNode p a → length seen ≡ length (all_nodes p) → count_by not seen < suc fuel → AreBehind seen a
      → ((more : List Bool) (b : NodeId) → IsNode p b → length more ≡ length (all_nodes p) → count_by not more < fuel → AreBehind more b → (k : ℕ) × HasRank p b k)
      → (was : Bool) → get_or seen (number_of p a) false ≡ was → (k : ℕ) × HasRank p a k
  unfolding AreBehind
  go_on fuel seen a node size few back deep true is = absurd (none a node (back a node is))
  go_on fuel seen a node size few back deep false is =
      let num = number_at p a node in
      let low = num.0 in
      let less = fewer seen (number_of p a) (omega arith) is in
      rank_above a node
      (λ b h. deep (set seen (number_of p a) true) b (depends_on_nodes p d a b node h) (length-set seen (number_of p a) true ∙ size) (omega arith)
      (behind_more seen a b node h back))

  find_rank : (fuel : ℕ) (seen : List Bool) (a : NodeId) → IsNode p a → length seen ≡ length (all_nodes p) → count_by not seen < fuel → AreBehind seen a → (k : ℕ) × HasRank p a k
  find_rank zero seen a node size few back = absurd (omega arith)
  find_rank (suc fuel) seen a node size few back =
      go_on fuel seen a node size few back (λ more b n s c u. find_rank fuel more b n s c u) (get_or seen (number_of p a) false) refl

  all_ranked : IsRanked p
  unfolding AreBehind
  all_ranked a node =
      find_rank (suc (count_by not (replicate (length (all_nodes p)) false))) (replicate (length (all_nodes p)) false) a node
      (length-replicate (length (all_nodes p)) false) (omega arith)
      (λ b there is.
      let unseen : get_or (replicate (length (all_nodes p)) false) (number_of p b) false ≡ false =
      get_or-replicate (length (all_nodes p)) (number_of p b) false false (number_at p b there).0 in absurd (cc))

pub ranked_exactly : RankedWhereNoCycle
ranked_exactly p d = (no_cycle p, all_ranked p d)
