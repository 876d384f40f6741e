-- An item is put before the first of a head.
use Rattle.std.proofs.Common.{◌≡◌, ℕ, ◌<◌, ◌^◌, false, eqb, List, [], ◌∷◌, Option, Some, None, length, set, refl, sym, ap, ◌∙◌, subst, inl, inr}
use Rattle.std.proofs.lemmas.Bool.{true≢false, cases_eq, false_from_ne_true, or_right}
use Rattle.std.proofs.lemmas.List.{get_or-set_same, get_or-set_other, length-set}
use Rattle.link_rows.specs.declared.arrays.Link.{Link}
use Rattle.link_rows.specs.Rows.{row, has, home, IsApart}
use Rattle.link_rows.specs.Links.{loose, link_of, first_at, with_prev, front_links, IsWithin, IsChain, IsLinked}
use Rattle.link_rows.proofs.HeadLists.{has-cons_other, has-cons_same, has-differ}
use Rattle.link_rows.proofs.Homes.{has-None, home-set, home-put}
use Rattle.link_rows.proofs.Chains.{chain_same}
use Rattle.link_rows.proofs.Fields.{length-with_prev, link_of-with_prev_same, link_of-with_prev_other, field-with_prev}
use Rattle.link_rows.proofs.Told.{has-owner, owner-within}

-- the first item of a chain has its head
pub first-owner : (f : ℕ → Link) (head k : ℕ) (prev at : Option ℕ) (xs : List ℕ) → IsChain f head prev at xs → at ≡ Some k → (f k).owner ≡ Some head
first-owner f head k prev at [] chain is = absurd (let no : None ≡ Some k = sym chain ∙ is in cc)
first-owner f head k prev at (x ∷ xs) chain is =
    let both : Some x ≡ Some k = sym chain.0 ∙ is in
    let same : x ≡ k = cc in
    subst (λ n. (f n).owner ≡ Some head) same chain.2

-- and so it is one of the items
pub first-within : (firsts : List (Option ℕ)) (links : List Link) (lists : List (List ℕ)) (head : ℕ) → IsLinked firsts links lists → head < length firsts → IsWithin (first_at firsts head) (length links)
first-within firsts links lists head linked within = go (first_at firsts head) (linked.chains head within)
  where
    go : (at : Option ℕ) → IsChain (link_of links) head None at (row lists head) → IsWithin at (length links)
    go None chain = tt
    go (Some k) chain = owner-within links k head (first-owner (link_of links) head k None (Some k) (row lists head) chain refl)

-- the chain with an item more at its front
chain_front : (f g : ℕ → Link) (head i : ℕ) (at : Option ℕ) (xs : List ℕ) → IsChain f head None at xs → IsApart xs → has i xs ≡ false → g i ≡ record { next = at; prev = None; owner = Some head }
    → ((x : ℕ) → at ≡ Some x → g x ≡ record (f x) { prev = Some i })
    → ((k : ℕ) → (at ≡ Some k → ⊥) → (k ≡ i → ⊥) → g k ≡ f k)
    → IsChain g head None (Some i) (i ∷ xs)
chain_front f g head i at xs chain apart new here first others =
    (refl, ap (λ l. l.prev) here, ap (λ l. l.owner) here, subst (λ o. IsChain g head (Some i) o xs) (sym (ap (λ l. l.next) here)) (rest xs chain apart new))
  where
    rest : (ys : List ℕ) → IsChain f head None at ys → IsApart ys → has i ys ≡ false → IsChain g head (Some i) at ys
    rest [] c a n = c
    rest (y ∷ ys) c a n =
        let gy = first y c.0 in
        let absent : has i ys ≡ false = false_from_ne_true (has i ys) (λ t. true≢false (sym (or_right (eqb i y) (has i ys) t) ∙ n)) in
        let tail : IsChain g head (Some y) (f y).next ys = chain_same f g head (Some y) (f y).next ys (λ k among.
        let not_first = λ (e : at ≡ Some k). (let both : Some y ≡ Some k = sym c.0 ∙ e in let same : k ≡ y = cc in has-differ k y ys among a.0 same) in
        others k not_first (has-differ k i ys among absent)) c.3 in
        (c.0, ap (λ l. l.prev) gy, ap (λ l. l.owner) gy ∙ c.2, subst (λ o. IsChain g head (Some y) o ys) (sym (ap (λ l. l.next) gy)) tail)

module _ (firsts : List (Option ℕ)) (links : List Link) (lists : List (List ℕ)) (head item : ℕ) (linked : IsLinked firsts links lists)
    (in_heads : head < length firsts) (in_items : item < length links) (new : home item lists ≡ None) where
  -- the links before and after
  abbrev before : ℕ → Link
  before = link_of links

  abbrev behind : ℕ → Link
  behind = link_of (front_links firsts links head item)

  abbrev first : Option ℕ
  first = first_at firsts head

  link : Link
  link = record { next = first; prev = None; owner = Some head }

  first-owned : (k : ℕ) → first ≡ Some k → (before k).owner ≡ Some head
  first-owned k is = first-owner before head k None first (row lists head) (linked.chains head in_heads) is

  -- the new item has no head yet
  not_new : (k h : ℕ) → (before k).owner ≡ Some h → k ≡ item → ⊥
  not_new k h owned same =
      let no : None ≡ Some h = sym new ∙ sym (linked.homes item) ∙ ap (λ n. (before n).owner) (sym same) ∙ owned in cc

  behind-item : behind item ≡ record { next = first; prev = None; owner = Some head }
  behind-item = get_or-set_same (with_prev links first (Some item)) item _ loose (subst (λ n. item < n) (sym (length-with_prev links first (Some item))) in_items)

  behind-first : (k : ℕ) → first ≡ Some k → behind k ≡ record (before k) { prev = Some item }
  behind-first k is =
      let owned = first-owned k is in
      get_or-set_other (with_prev links first (Some item)) item k _ loose (not_new k head owned)
      ∙ link_of-with_prev_same links k first (Some item) is (owner-within links k head owned)

  behind-other : (k : ℕ) → (first ≡ Some k → ⊥) → (k ≡ item → ⊥) → behind k ≡ before k
  behind-other k not_first other =
      get_or-set_other (with_prev links first (Some item)) item k _ loose other
      ∙ link_of-with_prev_other links k first (Some item) not_first

  behind-owner : (k : ℕ) → (k ≡ item → ⊥) → (behind k).owner ≡ (before k).owner
  behind-owner k other =
      ap (λ l. l.owner) (get_or-set_other (with_prev links first (Some item)) item k _ loose other)
      ∙ field-with_prev links k (λ l. l.owner) (λ l p. refl) first (Some item) (first-within firsts links lists head linked in_heads)

  abbrev lists_after : List (List ℕ)
  lists_after = set lists head (item ∷ row lists head)

  abbrev firsts_after : List (Option ℕ)
  firsts_after = set firsts head (Some item)

  in_lists : head < length lists
  in_lists = subst (λ n. head < n) (sym linked.heads) in_heads

  chain_at : (h : ℕ) → h < length firsts → IsChain behind h None (first_at firsts_after h) (row lists_after h)
  chain_at h within =
      elim (cases_eq h head) [
        | inl same ↦
            let at : first_at firsts_after h ≡ Some item = subst (λ n. first_at firsts_after n ≡ Some item) (sym same) (get_or-set_same firsts head (Some item) None in_heads) in
            let xs : row lists_after h ≡ item ∷ row lists head = subst (λ n. row lists_after n ≡ item ∷ row lists head) (sym same) (get_or-set_same lists head (item ∷ row lists head) [] in_lists) in
            let chain = chain_front before behind head item first (row lists head) (linked.chains head in_heads) (linked.apart head in_heads) (has-None item lists head new) behind-item behind-first behind-other in
            subst (λ n. IsChain behind n None (first_at firsts_after h) (row lists_after h)) (sym same) (subst (λ o. IsChain behind head None o (row lists_after h)) (sym at) (subst (IsChain behind head None (Some item)) (sym xs) chain))
        | inr other ↦
            let at = get_or-set_other firsts head h (Some item) None other in
            let xs = get_or-set_other lists head h (item ∷ row lists head) [] other in
            let chain = chain_same before behind h None (first_at firsts h) (row lists h) (λ k among.
            let owned = has-owner firsts links lists linked h k among in
            behind-other k (λ is. other (let both : Some h ≡ Some head = sym owned ∙ first-owned k is in cc)) (not_new k h owned)) (linked.chains h within) in
            subst (λ o. IsChain behind h None o (row lists_after h)) (sym at) (subst (IsChain behind h None (first_at firsts h)) (sym xs) chain)
      ]

  apart_at : (h : ℕ) → h < length firsts → IsApart (row lists_after h)
  apart_at h within =
      elim (cases_eq h head) [
        | inl same ↦ subst (λ n. IsApart (row lists_after n)) (sym same) (subst IsApart (sym (get_or-set_same lists head (item ∷ row lists head) [] in_lists)) (has-None item lists head new, linked.apart head in_heads))
        | inr other ↦ subst IsApart (sym (get_or-set_other lists head h (item ∷ row lists head) [] other)) (linked.apart h within)
      ]

  home_at : (k : ℕ) → (behind k).owner ≡ home k lists_after
  home_at k =
      elim (cases_eq k item) [
        | inl same ↦
            let here = ap (λ l. l.owner) behind-item ∙ sym (home-put item lists head (item ∷ row lists head) new in_lists (has-cons_same item item (row lists head) refl)) in
            subst (λ n. (behind n).owner ≡ home n lists_after) (sym same) here
        | inr other ↦ behind-owner k other ∙ linked.homes k ∙ sym (home-set k lists head (item ∷ row lists head) (has-cons_other k item (row lists head) other))
      ]

  pub length-front_links : length (front_links firsts links head item) ≡ length links
  length-front_links = length-set (with_prev links first (Some item)) item _ ∙ length-with_prev links first (Some item)

  -- the item stands before the others of the head
  pub front_linked : IsLinked (set firsts head (Some item)) (front_links firsts links head item) (set lists head (item ∷ row lists head))
  front_linked = record {
    heads = length-set lists head _ ∙ linked.heads ∙ sym (length-set firsts head (Some item));
    chains = λ h within. chain_at h (subst (λ n. h < n) (length-set firsts head (Some item)) within);
    apart = λ h within. apart_at h (subst (λ n. h < n) (length-set firsts head (Some item)) within);
    homes = home_at;
    few_heads = subst (λ n. n < 2 ^ 32) (sym (length-set firsts head (Some item))) linked.few_heads;
    few_items = subst (λ n. n < 2 ^ 32) (sym length-front_links) linked.few_items;
  }
