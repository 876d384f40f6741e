-- Marks of nodes, and what one more mark changes.
use Rattle.std.proofs.Common.{◌≡◌, ◌≢◌, ◌<◌, ◌≤◌, ◌+◌, ℕ, suc, Bool, true, false, cond, List, [], ◌∷◌, length, get_or, set, refl, ◌∙◌, arith}
use Rattle.std.specs.List.{Contains, count_by}
use Rattle.std.proofs.lemmas.List.Sums.{sum_by-set}
use Rattle.std.proofs.lemmas.List.{get_or-set_same, get_or-set_other, get_or_default}
use Rattle.graph_rank.specs.declared.search.Mark.{Mark}
use Rattle.graph_rank.specs.declared.search.Mark.TheVariants.{Fresh, Met, Ranked}
use Rattle.graph_rank.specs.Ranks.{above}
use Rattle.graph_rank.specs.Search.{fresh, ranked, mark_at}

-- a list contains what stands at a place of it
pub stands_in : (xs : List ℕ) (k : ℕ) → k < length xs → Contains xs (get_or xs k 0)
stands_in xs k below = (k, below, get_or_default xs k (get_or xs k 0) 0 below)

-- what a list contains stands at a place of it
pub place_in : (xs : List ℕ) (x : ℕ) → Contains xs x → (k : ℕ) × (k < length xs) × (get_or xs k 0 ≡ x)
place_in xs x h = (h.0, h.1, get_or_default xs h.0 0 x h.1 ∙ h.2)

-- a mark that is set, and the others
pub mark_same : (marks : List Mark) (n : ℕ) (m : Mark) → n < length marks → mark_at (set marks n m) n ≡ m
mark_same marks n m below = get_or-set_same marks n m Fresh below

pub mark_other : (marks : List Mark) (n k : ℕ) (m : Mark) → k ≢ n → mark_at (set marks n m) k ≡ mark_at marks k
mark_other marks n k m other = get_or-set_other marks n k m Fresh other

-- the number above some ranks is no greater than a bound above each of them
pub above_low : (rank : ℕ → ℕ) (ds : List ℕ) (bound : ℕ) → ((d : ℕ) → Contains ds d → rank d < bound) → above rank ds ≤ bound
above_low rank [] bound low = omega arith
above_low rank (d ∷ ds) bound low =
    let here = low d (0, omega arith, refl) in
    let rest = above_low rank ds bound (λ (e : ℕ) (h : Contains ds e). low e (suc h.0, omega (arith, h.1), h.2)) in
    omega arith

-- counts after a mark is set
pub count_set : (test : Mark → Bool) (marks : List Mark) (n : ℕ) (m : Mark) → n < length marks
    → count_by test (set marks n m) + cond {A = ℕ} (test (mark_at marks n)) 1 0 ≡ count_by test marks + cond {A = ℕ} (test m) 1 0
count_set test marks n m below = sum_by-set (λ x. cond {A = ℕ} (test x) 1 0) marks n m Fresh below

pub ranked_one_more : (marks : List Mark) (n r : ℕ) → n < length marks → mark_at marks n ≡ Met
    → count_by ranked (set marks n (Ranked r)) ≡ count_by ranked marks + 1
ranked_one_more marks n r below met =
    let e = count_set ranked marks n (Ranked r) below in let h = rw met at e in omega arith

pub ranked_as_many : (marks : List Mark) (n : ℕ) → n < length marks → mark_at marks n ≡ Fresh
    → count_by ranked (set marks n Met) ≡ count_by ranked marks
ranked_as_many marks n below is =
    let e = count_set ranked marks n Met below in let h = rw is at e in omega arith

pub fresh_one_less : (marks : List Mark) (n : ℕ) → n < length marks → mark_at marks n ≡ Fresh
    → count_by fresh (set marks n Met) + 1 ≡ count_by fresh marks
fresh_one_less marks n below is =
    let e = count_set fresh marks n Met below in let h = rw is at e in omega arith

pub fresh_as_many : (marks : List Mark) (n r : ℕ) → n < length marks → mark_at marks n ≡ Met
    → count_by fresh (set marks n (Ranked r)) ≡ count_by fresh marks
fresh_as_many marks n r below met =
    let e = count_set fresh marks n (Ranked r) below in let h = rw met at e in omega arith

-- what the three tests say of a mark
pub is_fresh : (m : Mark) → fresh m ≡ true → m ≡ Fresh
is_fresh Fresh yes-so = refl
is_fresh Met so = cc
is_fresh (Ranked r) so = cc

pub is_met : (m : Mark) → fresh m ≡ false → ranked m ≡ false → m ≡ Met
is_met Fresh a b = cc
is_met Met a b = refl
is_met (Ranked r) a b = cc
