-- Inside: what the search for cycles knows at each step.
use Rattle.std.specs.Prelude.{◌≡◌, ◌<◌, ◌≤◌, ◌+◌, ◌-◌, ◌*◌, ◌^◌, ◌⊎◌, ℕ, Bool, true, false, List, [], ◌∷◌, if◌then◌else◌, nat_le, length, count_by, take, Contains, slice_index, slice_index_or, slice_set, ◌++◌, ⊤}
use Rattle.graph_cycle.specs.declared.search.Search.{Search}
use Rattle.graph_cycle.specs.declared.search.Mark.{Mark}
use Rattle.graph_cycle.specs.declared.search.Mark.TheVariants.{Fresh, Open, Closed}
use Rattle.graph_rank.specs.Rows.{row, InRange, Leads}

abbrev pub fresh : Mark → Bool
fresh Fresh = true
fresh (Open k) = false
fresh (Closed on) = false

abbrev pub closed : Mark → Bool
closed Fresh = false
closed (Open k) = false
closed (Closed on) = true

abbrev pub cyclic : Mark → Bool
cyclic Fresh = false
cyclic (Open k) = false
cyclic (Closed on) = on

abbrev pub mark_at : List Mark → ℕ → Mark
mark_at marks n = slice_index_or marks n Fresh

-- numbers below a bound, each greater than those before it
pub record AreRising (bound : ℕ) (numbers : List ℕ) : Type 0 where
  pub low : (k : ℕ) → k < length numbers → slice_index numbers k < bound
  pub rises : (j k : ℕ) → j < k → k < length numbers → slice_index numbers j < slice_index numbers k

-- The open nodes stand on the stack, in groups that begin at these places: place `j` is in the group of place
-- `i` or in a later one.
abbrev pub NoLower : List ℕ → ℕ → ℕ → Type 0
NoLower bounds i j = (k : ℕ) → k < length bounds → slice_index bounds k ≤ i → slice_index bounds k ≤ j

-- a node to which the search has come from place `i` is closed, or open in that group or a later one
abbrev pub IsKnown : List ℕ → ℕ → Mark → Type 0
IsKnown bounds i Fresh = ⊥
IsKnown bounds i (Open j) = NoLower bounds i j
IsKnown bounds i (Closed on) = ⊤

-- the stack has the open nodes, each at the place that its mark tells
pub record IsStack (rows : List (List ℕ)) (marks : List Mark) (stack : List ℕ) : Type 0 where
  pub count : length marks ≡ length rows
  pub inside : (k : ℕ) → k < length stack → slice_index stack k < length rows
  pub opened : (k : ℕ) → k < length stack → mark_at marks (slice_index stack k) ≡ Open k
  pub placed : (n k : ℕ) → mark_at marks n ≡ Open k → (k < length stack) × (slice_index stack k ≡ n)

-- each open node leads to all later ones, and to the earlier ones of its group
pub record AreJoined (rows : List (List ℕ)) (stack bounds : List ℕ) : Type 0 where
  pub forth : (i j : ℕ) → i < j → j < length stack → Leads rows (slice_index stack i) (slice_index stack j)
  pub back : (i j : ℕ) → i < j → j < length stack → NoLower bounds j i → Leads rows (slice_index stack j) (slice_index stack i)

-- the places with nodes left to come to, and the places at which groups begin
pub record ArePlaces (stack work bounds : List ℕ) : Type 0 where
  pub work_rises : AreRising (length stack) work
  pub bounds_rise : AreRising (length stack) bounds
  pub some : 0 < length stack → 0 < length bounds
  pub zero : 0 < length bounds → slice_index bounds 0 ≡ 0

-- how far the search has come in each row: to the end of it at a place without work
pub record HasCome (rows : List (List ℕ)) (marks : List Mark) (next stack work bounds : List ℕ) : Type 0 where
  pub count : length next ≡ length rows
  pub blank : (n : ℕ) → mark_at marks n ≡ Fresh → slice_index next n ≡ 0
  pub within : (n : ℕ) → n < length rows → slice_index next n ≤ length (row rows n)
  pub known : (i k : ℕ) → i < length stack → k < slice_index next (slice_index stack i)
      → IsKnown bounds i (mark_at marks (slice_index (row rows (slice_index stack i)) k))
  pub done : (i : ℕ) → i < length stack → (Contains work i → ⊥)
      → slice_index next (slice_index stack i) ≡ length (row rows (slice_index stack i))

-- of each closed node it is told whether it lies on a cycle, and all on which it depends is closed
pub record AreTold (rows : List (List ℕ)) (marks : List Mark) : Type 0 where
  pub yes : (n : ℕ) → mark_at marks n ≡ Closed true → Leads rows n n
  pub no : (n : ℕ) → mark_at marks n ≡ Closed false → Leads rows n n → ⊥
  pub needs : (n d : ℕ) → closed (mark_at marks n) ≡ true → Contains (row rows n) d → closed (mark_at marks d) ≡ true

pub record IsSearch (rows : List (List ℕ)) (marks : List Mark) (next stack work bounds : List ℕ) : Type 0 where
  pub small : length rows < 2 ^ 32
  pub range : InRange rows
  pub stands : IsStack rows marks stack
  pub joined : AreJoined rows stack bounds
  pub places : ArePlaces stack work bounds
  pub come : HasCome rows marks next stack work bounds
  pub told : AreTold rows marks

-- how many places of rows are left
abbrev pub left : List (List ℕ) → List ℕ → ℕ
left [] next = 0
left (r ∷ rows) [] = 0
left (r ∷ rows) (k ∷ next) = (length r - k) + left rows next

-- how many steps are left at most
abbrev pub weight : List (List ℕ) → List Mark → List ℕ → List ℕ → List ℕ → ℕ
weight rows marks next work bounds = 3 * count_by fresh marks + length work + length bounds + left rows next

-- what the search came to stays so
abbrev pub Keeps : List Mark → List Mark → Type 0
Keeps before after = (n : ℕ) → fresh (mark_at before n) ≡ false → fresh (mark_at after n) ≡ false

-- the last of some numbers
pub record IsLast (numbers : List ℕ) (n : ℕ) : Type 0 where
  pub some : 0 < length numbers
  pub here : slice_index numbers (length numbers - 1) ≡ n

-- the bounds above a place are dropped
pub record AreCut (bounds : List ℕ) (place : ℕ) (fewer : List ℕ) : Type 0 where
  pub front : take (length fewer) bounds ≡ fewer
  pub short : length fewer ≤ length bounds
  pub last : 0 < length fewer → slice_index fewer (length fewer - 1) ≤ place
  pub dropped : (k : ℕ) → length fewer ≤ k → k < length bounds → place < slice_index bounds k

-- the nodes from a place of the stack on are closed, and no others change
pub record AreShut (before : List Mark) (stack : List ℕ) (start end : ℕ) (on : Bool) (after : List Mark) : Type 0 where
  pub count : length after ≡ length before
  pub shut : (k : ℕ) → start ≤ k → k < end → mark_at after (slice_index stack k) ≡ Closed on
  pub same : (n : ℕ) → ((k : ℕ) → start ≤ k → k < end → slice_index stack k ≡ n → ⊥) → mark_at after n ≡ mark_at before n

-- the last group is more than one node, or a node that depends on itself
abbrev pub Turns : List (List ℕ) → List ℕ → ℕ → Type 0
Turns rows stack start =
    (start + 1 < length stack) ⊎ Contains (row rows (slice_index stack start)) (slice_index stack start)

-- the marks when the search is done
pub record AreMarks (rows : List (List ℕ)) (marks : List Mark) : Type 0 where
  pub small : length rows < 2 ^ 32
  pub count : length marks ≡ length rows
  pub all : (n : ℕ) → n < length rows → closed (mark_at marks n) ≡ true
  pub yes : (n : ℕ) → mark_at marks n ≡ Closed true → Leads rows n n
  pub no : (n : ℕ) → mark_at marks n ≡ Closed false → Leads rows n n → ⊥

-- a node is put at the end of the stack, as a group of its own
pub record Enters (node : ℕ) (old new : Search) : Type 0 where
  pub marks : new.marks.items ≡ slice_set old.marks.items node (Open (length old.stack.items))
  pub next : new.next.items ≡ old.next.items
  pub stack : new.stack.items ≡ old.stack.items ++ node ∷ []
  pub work : new.work.items ≡ old.work.items ++ length old.stack.items ∷ []
  pub bounds : new.bounds.items ≡ old.bounds.items ++ length old.stack.items ∷ []

-- the groups from this place on are joined
pub record Joins (place : ℕ) (old new : Search) : Type 0 where
  pub marks : new.marks.items ≡ old.marks.items
  pub next : new.next.items ≡ old.next.items
  pub stack : new.stack.items ≡ old.stack.items
  pub work : new.work.items ≡ old.work.items
  pub bounds : AreCut old.bounds.items place new.bounds.items

-- the search goes to a node of this mark
abbrev pub FollowsMark : ℕ → Mark → Search → Search → Type 0
FollowsMark node Fresh old new = Enters node old new
FollowsMark node (Open place) old new = Joins place old new
FollowsMark node (Closed on) old new = new ≡ old

abbrev pub Follows : ℕ → Search → Search → Type 0
Follows node old new = FollowsMark node (mark_at old.marks.items node) old new
