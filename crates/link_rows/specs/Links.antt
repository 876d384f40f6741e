-- How the lists stand in the arrays: the first item of each head, and for each item its neighbours and its head.
use Rattle.std.specs.Prelude.{◌≡◌, ℕ, ◌<◌, ◌^◌, suc, zero, List, [], ◌∷◌, Option, None, Some, map, length, slice_index_or, slice_set}
use Rattle.link_rows.specs.declared.arrays.Link.{Link}
use Rattle.link_rows.specs.Rows.{row, home, IsApart}

-- the link of an item in no list
abbrev pub loose : Link
loose = record { next = None; prev = None; owner = None }

-- the link of an item, loose where there is no such item
abbrev pub link_of : List Link → ℕ → Link
link_of links item = slice_index_or links item loose

-- the first item of a head
abbrev pub first_at : List (Option ℕ) → ℕ → Option ℕ
first_at firsts head = slice_index_or firsts head None

-- at most n items from a place on, each the next of the one before
abbrev pub walk : ℕ → (ℕ → Link) → Option ℕ → List ℕ
walk zero f at = []
walk (suc n) f None = []
walk (suc n) f (Some item) = item ∷ walk n f (f item).next

-- the lists of all heads
abbrev pub lists_of : List (Option ℕ) → List Link → List (List ℕ)
lists_of firsts links = map (walk (length links) (link_of links)) firsts

-- the links after what follows an item, if anything does, is set
abbrev pub with_next : List Link → Option ℕ → Option ℕ → List Link
with_next links None next = links
with_next links (Some item) next = slice_set links item (record (link_of links item) { next = next })

-- the links after what is before an item, if there is one, is set
abbrev pub with_prev : List Link → Option ℕ → Option ℕ → List Link
with_prev links None prev = links
with_prev links (Some item) prev = slice_set links item (record (link_of links item) { prev = prev })

-- the links after an item is put before the first of a head
abbrev pub front_links : List (Option ℕ) → List Link → ℕ → ℕ → List Link
front_links firsts links head item =
    let first = first_at firsts head in
    slice_set (with_prev links first (Some item)) item (record { next = first; prev = None; owner = Some head })

-- the first items after an item of a head is taken out
abbrev pub cut_firsts : List (Option ℕ) → Option ℕ → Option ℕ → ℕ → List (Option ℕ)
cut_firsts firsts None next head = slice_set firsts head next
cut_firsts firsts (Some before) next head = firsts

-- the links after an item that stands between two others, or at an end, is taken out
abbrev pub cut_links : List Link → ℕ → List Link
cut_links links item =
    let link = link_of links item in
    slice_set (with_prev (with_next links link.prev link.next) link.next link.prev) item loose

-- an item that may be there is one of so many
abbrev pub IsWithin : Option ℕ → ℕ → Type 0
IsWithin None items = Unit {0}
IsWithin (Some item) items = item < items

-- the items from a place on are these, all of one head, and each knows the one before it
abbrev pub IsChain : (ℕ → Link) → ℕ → Option ℕ → Option ℕ → List ℕ → Type 0
IsChain f head prev at [] = at ≡ None
IsChain f head prev at (x ∷ xs) = (at ≡ Some x) × ((f x).prev ≡ prev) × ((f x).owner ≡ Some head) × IsChain f head (Some x) (f x).next xs

-- the arrays hold these lists
pub record IsLinked (firsts : List (Option ℕ)) (links : List Link) (lists : List (List ℕ)) : Type 0 where
  pub heads : length lists ≡ length firsts
  pub chains : (head : ℕ) → head < length firsts → IsChain (link_of links) head None (first_at firsts head) (row lists head)
  pub apart : (head : ℕ) → head < length firsts → IsApart (row lists head)
  pub homes : (item : ℕ) → (link_of links item).owner ≡ home item lists
  pub few_heads : length firsts < 2 ^ 32
  pub few_items : length links < 2 ^ 32
