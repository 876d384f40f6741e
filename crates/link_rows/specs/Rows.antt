-- The lists of the heads, as contracts see them. Heads and items are named by their places.
use Rattle.std.specs.Prelude.{◌≡◌, ℕ, ◌+◌, ◌<◌, ◌^◌, Bool, false, true, List, [], ◌∷◌, ◌++◌, Option, None, Some, if◌then◌else◌, nat_eq, length, replicate, slice_index_or, slice_set, option_and_then}
use Rattle.std.specs.List.{list_any}
use Rattle.std.specs.Option.{option_map}

-- each head's list, in the order of the heads, and the number of items
pub record Linked : Type 0 where
  pub lists : List (List ℕ)
  pub items : ℕ

-- the list of a head, empty where there is no such head
abbrev pub row : List (List ℕ) → ℕ → List ℕ
row lists head = slice_index_or lists head []

-- whether an item is in a list
abbrev pub has : ℕ → List ℕ → Bool
has item xs = list_any (nat_eq item) xs

-- the head in whose list an item is
abbrev pub home : ℕ → List (List ℕ) → Option ℕ
home item [] = None
home item (xs ∷ lists) = if has item xs then Some 0 else option_map (λ head. head + 1) (home item lists)

-- the first item of a list
abbrev pub first_of : List ℕ → Option ℕ
first_of [] = None
first_of (x ∷ xs) = Some x

-- the item that follows an item in a list
abbrev pub after : ℕ → List ℕ → Option ℕ
after item [] = None
after item (x ∷ xs) = if nat_eq item x then first_of xs else after item xs

-- the item that follows an item in the list of its head
abbrev pub next_in : List (List ℕ) → ℕ → Option ℕ
next_in lists item = option_and_then (λ head. after item (row lists head)) (home item lists)

-- the last item of a list, or what stands before the list where it is empty
abbrev pub last_or : Option ℕ → List ℕ → Option ℕ
last_or prev [] = prev
last_or prev (x ∷ xs) = last_or (Some x) xs

-- the item that precedes an item in a list, or what stands before the list where it is the first
abbrev pub before : Option ℕ → ℕ → List ℕ → Option ℕ
before prev item [] = None
before prev item (x ∷ xs) = if nat_eq item x then prev else before (Some x) item xs

-- the item that precedes an item in the list of its head
abbrev pub prev_in : List (List ℕ) → ℕ → Option ℕ
prev_in lists item = option_and_then (λ head. before None item (row lists head)) (home item lists)

-- a list with an item taken out
abbrev pub without : ℕ → List ℕ → List ℕ
without item [] = []
without item (x ∷ xs) = if nat_eq item x then without item xs else x ∷ without item xs

-- the lists with so many empty ones more
abbrev pub with_more : List (List ℕ) → ℕ → List (List ℕ)
with_more lists more = lists ++ replicate more []

-- the lists with that of `from` put before that of `to`
abbrev pub moved_all : List (List ℕ) → ℕ → ℕ → List (List ℕ)
moved_all lists from to = slice_set (slice_set lists to (row lists from ++ row lists to)) from []

-- no item stands twice in a list
abbrev pub IsApart : List ℕ → Type 0
IsApart [] = Unit {0}
IsApart (x ∷ xs) = (has x xs ≡ false) × IsApart xs

-- each item stands at most once in all lists, and the numbers of heads and items fit 32 bits
pub record AreApart (rows : Linked) : Type 0 where
  pub each : (head : ℕ) → IsApart (row rows.lists head)
  pub one : (head item : ℕ) → has item (row rows.lists head) ≡ true → home item rows.lists ≡ Some head
  pub within : (head item : ℕ) → has item (row rows.lists head) ≡ true → item < rows.items
  pub few : rows.items < 2 ^ 32
  pub few_heads : length rows.lists < 2 ^ 32
