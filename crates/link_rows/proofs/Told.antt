-- What the arrays tell: the lists themselves, and that each item stands in one of them at most.
use Rattle.std.proofs.Common.{◌≡◌, ℕ, ◌<◌, ◌≤◌, ◌^◌, true, false, eqb, List, [], ◌∷◌, Option, Some, None, length, sym, ap, ◌∙◌, subst, inl, inr, arith}
use Rattle.std.specs.List.{IsDistinct, AllByRecursion}
use Rattle.std.proofs.lemmas.Bool.{true≢false, cases_lt, or_parts}
use Rattle.std.proofs.lemmas.List.{get_or_past, get_or-map, get_or_default, length-map, same_lists}
use Rattle.std.proofs.lemmas.Map.Steps.{length-le_from_distinct_below}
use Rattle.link_rows.specs.declared.arrays.Link.{Link}
use Rattle.link_rows.specs.Rows.{Linked, row, has, IsApart, AreApart}
use Rattle.link_rows.specs.Links.{loose, link_of, first_at, walk, lists_of, IsLinked}
use Rattle.link_rows.proofs.Chains.{chain_owner, walk-chain}

all_differ : (x : ℕ) (xs : List ℕ) → has x xs ≡ false → AllByRecursion (λ y. eqb x y ≡ false) xs
all_differ x [] absent = tt
all_differ x (y ∷ ys) absent = let parts = or_parts (eqb x y) (has x ys) absent in (parts.0, all_differ x ys parts.1)

IsDistinct-from_apart : (xs : List ℕ) → IsApart xs → IsDistinct eqb xs
unfolding IsDistinct
IsDistinct-from_apart [] apart = tt
IsDistinct-from_apart (x ∷ xs) apart = (all_differ x xs apart.0, IsDistinct-from_apart xs apart.1)

-- an item with a head is one of the items
pub owner-within : (links : List Link) (item head : ℕ) → (link_of links item).owner ≡ Some head → item < length links
owner-within links item head owned =
    elim (cases_lt item (length links)) [
      | inl within ↦ within
      | inr past ↦ absurd (let no : None ≡ Some head = sym (ap (λ l. l.owner) (get_or_past links item loose past)) ∙ owned in cc)
    ]

module _ (firsts : List (Option ℕ)) (links : List Link) (lists : List (List ℕ)) (linked : IsLinked firsts links lists) where
  -- past the heads there are no lists
  pub has-head : (head item : ℕ) → has item (row lists head) ≡ true → head < length firsts
  has-head head item here =
      elim (cases_lt head (length firsts)) [
        | inl within ↦ within
        | inr past ↦
            let e : length lists ≤ head = omega (arith, linked.heads) in
            absurd (true≢false (sym here ∙ ap (has item) (get_or_past lists head [] e)))
      ]

  pub has-owner : (head item : ℕ) → has item (row lists head) ≡ true → (link_of links item).owner ≡ Some head
  has-owner head item here =
      let within = has-head head item here in
      chain_owner (link_of links) head item None (first_at firsts head) (row lists head) (linked.chains head within) here

  -- no list is longer than there are items
  row-length : (head : ℕ) → head < length firsts → length (row lists head) ≤ length links
  row-length head within =
      length-le_from_distinct_below (row lists head) (length links) (IsDistinct-from_apart (row lists head) (linked.apart head within)) (λ item here.
      owner-within links item head (has-owner head item here))

  row-told : (head : ℕ) → head < length firsts → walk (length links) (link_of links) (first_at firsts head) ≡ row lists head
  row-told head within =
      walk-chain (link_of links) head (length links) None (first_at firsts head) (row lists head) (linked.chains head within) (row-length head within)

  -- the lists that the arrays tell are these
  pub told : lists_of firsts links ≡ lists
  told =
      let list = walk (length links) (link_of links) in
      let same_length = length-map firsts list ∙ sym linked.heads in
      same_lists (lists_of firsts links) lists same_length (λ k d within.
      let in_firsts : k < length firsts = omega (arith, length-map firsts list) in
      get_or-map list firsts k None d in_firsts ∙ row-told k in_firsts ∙ get_or_default lists k [] d (omega (arith, linked.heads)))

  -- and each item stands in one list at most
  pub apart_told : AreApart (record { lists = lists; items = length links })
  apart_told = record {
    each = λ head. elim (cases_lt head (length firsts)) [
      | inl within ↦ linked.apart head within
      | inr past ↦
          let e : length lists ≤ head = omega (arith, linked.heads) in
          subst IsApart (sym (get_or_past lists head [] e)) tt
    ];
    one = λ head item here. sym (linked.homes item) ∙ has-owner head item here;
    within = λ head item here. owner-within links item head (has-owner head item here);
    few = linked.few_items;
    few_heads = subst (λ n. n < 2 ^ 32) (sym linked.heads) linked.few_heads;
  }

-- arrays that hold some lists hold the lists that they tell
pub kept : (firsts : List (Option ℕ)) (links : List Link) (lists : List (List ℕ)) → IsLinked firsts links lists → IsLinked firsts links (lists_of firsts links)
kept firsts links lists linked = subst (IsLinked firsts links) (sym (told firsts links lists linked)) linked

-- what a contract sees of them
pub seen : (firsts : List (Option ℕ)) (links : List Link) (lists : List (List ℕ)) (items : ℕ) → IsLinked firsts links lists → length links ≡ items
    → ◌≡◌ {A = Linked} (record { lists = lists_of firsts links; items = length links }) (record { lists = lists; items = items })
seen firsts links lists items linked count = λ i. record { lists = told firsts links lists linked i; items = count i }
