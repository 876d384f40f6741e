-- An item is taken out of its list.
use Rattle.std.proofs.Common.{◌≡◌, ℕ, ◌<◌, ◌^◌, Bool, true, false, eqb, if◌then◌else◌, List, [], ◌∷◌, Option, Some, None, map, length, set, refl, sym, ap, ◌∙◌, subst, inl, inr}
use Rattle.std.proofs.Math.ListN.{get_or-map}
use Rattle.std.proofs.lemmas.Bool.{cases_eq, cases_lt, eqb-true, eqb-false, eq-eqb, or_right}
use Rattle.std.proofs.lemmas.List.{get_or-set_same, get_or-set_other, get_or_past, length-set, length-map}
use Rattle.link_rows.specs.declared.arrays.Link.{Link}
use Rattle.link_rows.specs.Rows.{row, has, home, without, IsApart}
use Rattle.link_rows.specs.Links.{loose, link_of, first_at, with_next, with_prev, cut_firsts, cut_links, IsWithin, IsChain, IsLinked}
use Rattle.link_rows.proofs.HeadLists.{has-cons_same, IsApart-without}
use Rattle.link_rows.proofs.Homes.{has-home, home-without_same, home-without_other}
use Rattle.link_rows.proofs.Chains.{prev-next, next-prev, first-prev}
use Rattle.link_rows.proofs.Fields.{length-with_prev, length-with_next, link_of-with_prev_same, link_of-with_prev_other, link_of-with_next_same, link_of-with_next_other, field-with_prev, field-with_next}
use Rattle.link_rows.proofs.Fronts.{first-owner}
use Rattle.link_rows.proofs.Told.{has-head, owner-within}

-- a place that is led past an item to what lies beyond it
abbrev skip : ℕ → Option ℕ → Option ℕ → Option ℕ
skip i beyond None = None
skip i beyond (Some k) = if eqb i k then beyond else Some k

skip-here : (i k : ℕ) (beyond : Option ℕ) → i ≡ k → skip i beyond (Some k) ≡ beyond
skip-here i k beyond same = ap (λ b. if b then beyond else Some k) (eq-eqb i k same)

skip-self : (i : ℕ) (o : Option ℕ) → skip i o o ≡ o
skip-self i None = refl
skip-self i (Some k) = go (eqb i k)
  where
    go : (b : Bool) → (if b then Some k else Some k) ≡ Some k
    go true = refl
    go false = refl

skip-is : (i : ℕ) (beyond o new : Option ℕ) → (o ≡ Some i → new ≡ beyond) → ((o ≡ Some i → ⊥) → new ≡ o) → new ≡ skip i beyond o
skip-is i beyond None new at other = other (λ e. (let no : None ≡ Some i = e in cc))
skip-is i beyond (Some k) new at other = go (eqb i k) refl
  where
    go : (b : Bool) → eqb i k ≡ b → new ≡ (if b then beyond else Some k)
    go true e = at (ap Some (sym (eqb-true i k e)))
    go false e = other (λ same. eqb-false i k e (let both : Some k ≡ Some i = same in cc))

-- the link of an item is led past another
record Skips (f g : ℕ → Link) (i k : ℕ) : Type 0 where
  next : (g k).next ≡ skip i (f i).next (f k).next
  prev : (g k).prev ≡ skip i (f i).prev (f k).prev
  owner : (g k).owner ≡ (f k).owner

-- a chain whose links are led past an item is the chain without it
chain_skips : (f g : ℕ → Link) (head i : ℕ) (prev at : Option ℕ) (xs : List ℕ) → ((k : ℕ) → has k xs ≡ true → (k ≡ i → ⊥) → Skips f g i k) → IsChain f head prev at xs
    → IsChain g head (skip i (f i).prev prev) (skip i (f i).next at) (without i xs)
chain_skips f g head i prev at [] skips chain = ap (skip i (f i).next) chain
chain_skips f g head i prev at (x ∷ xs) skips chain =
    go (eqb i x) refl (chain_skips f g head i (Some x) (f x).next xs (λ k among other. skips k (or_right (eqb k x) (has k xs) among) other) chain.3)
  where
    go : (b : Bool) → eqb i x ≡ b → IsChain g head (skip i (f i).prev (Some x)) (skip i (f i).next (f x).next) (without i xs)
        → IsChain g head (skip i (f i).prev prev) (skip i (f i).next at) (if b then without i xs else x ∷ without i xs)
    go true e rest =
        let same = eqb-true i x e in
        let own_prev : (f i).prev ≡ prev = ap (λ n. (f n).prev) same ∙ chain.1 in
        let back : skip i (f i).prev (Some x) ≡ skip i (f i).prev prev = skip-here i x (f i).prev same ∙ sym (skip-self i (f i).prev) ∙ ap (skip i (f i).prev) own_prev in
        let forth : skip i (f i).next (f x).next ≡ skip i (f i).next at =
        ap (λ n. skip i (f i).next (f n).next) (sym same) ∙ skip-self i (f i).next ∙ sym (skip-here i x (f i).next same) ∙ ap (skip i (f i).next) (sym chain.0) in
        subst (λ o. IsChain g head o (skip i (f i).next at) (without i xs)) back (subst (λ o. IsChain g head (skip i (f i).prev (Some x)) o (without i xs)) forth rest)
    go false e rest =
        let s = skips x (has-cons_same x x xs refl) (λ same. eqb-false i x e (sym same)) in
        let stays = λ (o : Option ℕ). (let same : skip i o (Some x) ≡ Some x = ap (λ b. if b then o else Some x) e in same) in
        let tail : IsChain g head (Some x) (g x).next (without i xs) =
        subst (λ o. IsChain g head o (g x).next (without i xs)) (stays (f i).prev) (subst (λ o. IsChain g head (skip i (f i).prev (Some x)) o (without i xs)) (sym s.next) rest) in
        (ap (skip i (f i).next) chain.0 ∙ stays (f i).next, s.prev ∙ ap (skip i (f i).prev) chain.1, s.owner ∙ chain.2, tail)

-- the first item of a chain has what stands before the chain before it
first-back : (f : ℕ → Link) (head k : ℕ) (prev at : Option ℕ) (xs : List ℕ) → IsChain f head prev at xs → at ≡ Some k → (f k).prev ≡ prev
first-back f head k prev at [] chain is = absurd (let no : None ≡ Some k = sym chain ∙ is in cc)
first-back f head k prev at (x ∷ xs) chain is =
    let both : Some x ≡ Some k = sym chain.0 ∙ is in
    let same : x ≡ k = cc in
    subst (λ n. (f n).prev ≡ prev) same chain.1

-- an item with a neighbour is one of the items
prev-within : (links : List Link) (k i : ℕ) → (link_of links k).prev ≡ Some i → k < length links
prev-within links k i is =
    elim (cases_lt k (length links)) [
      | inl within ↦ within
      | inr past ↦ absurd (let no : None ≡ Some i = sym (ap (λ l. l.prev) (get_or_past links k loose past)) ∙ is in cc)
    ]

next-within : (links : List Link) (k i : ℕ) → (link_of links k).next ≡ Some i → k < length links
next-within links k i is =
    elim (cases_lt k (length links)) [
      | inl within ↦ within
      | inr past ↦ absurd (let no : None ≡ Some i = sym (ap (λ l. l.next) (get_or_past links k loose past)) ∙ is in cc)
    ]

module _ (firsts : List (Option ℕ)) (links : List Link) (lists : List (List ℕ)) (head item : ℕ) (linked : IsLinked firsts links lists) (owned : (link_of links item).owner ≡ Some head) where
  -- the links before and after
  abbrev before : ℕ → Link
  before = link_of links

  abbrev behind : ℕ → Link
  behind = link_of (cut_links links item)

  abbrev next : Option ℕ
  next = (link_of links item).next

  abbrev prev : Option ℕ
  prev = (link_of links item).prev

  pub item-within : item < length links
  item-within = owner-within links item head owned

  here : has item (row lists head) ≡ true
  here = has-home item lists head (sym (linked.homes item) ∙ owned)

  pub head-within : head < length firsts
  head-within = has-head firsts links lists linked head item here

  own_chain : IsChain before head None (first_at firsts head) (row lists head)
  own_chain = linked.chains head head-within

  -- the neighbours of the item know it
  next_knows : (k : ℕ) → next ≡ Some k → (before k).prev ≡ Some item
  next_knows k is = prev-next before head item k None (first_at firsts head) (row lists head) own_chain here is

  prev_knows : (k : ℕ) → prev ≡ Some k → (before k).next ≡ Some item
  prev_knows k is =
      elim (next-prev before head k item None (first_at firsts head) (row lists head) own_chain here is) [
        | inl found ↦ found
        | inr front ↦ absurd (let no : None ≡ Some k = front.0 in cc)
      ]

  pub next_in_items : IsWithin next (length links)
  next_in_items = go next refl
    where
      go : (o : Option ℕ) → next ≡ o → IsWithin o (length links)
      go None is = tt
      go (Some k) is = prev-within links k item (next_knows k is)

  pub prev_in_items : IsWithin prev (length links)
  prev_in_items = go prev refl
    where
      go : (o : Option ℕ) → prev ≡ o → IsWithin o (length links)
      go None is = tt
      go (Some k) is = next-within links k item (prev_knows k is)

  abbrev half : List Link
  half = with_next links prev next

  half-length : length half ≡ length links
  half-length = length-with_next links prev next

  next_in_half : IsWithin next (length half)
  next_in_half = subst (IsWithin next) (sym half-length) next_in_items

  behind-item : behind item ≡ loose
  behind-item = get_or-set_same (with_prev half next prev) item loose loose (subst (λ n. item < n) (sym (length-with_prev half next prev ∙ half-length)) item-within)

  module _ (k : ℕ) (other : k ≡ item → ⊥) where
    behind-is : behind k ≡ link_of (with_prev half next prev) k
    behind-is = get_or-set_other (with_prev half next prev) item k loose loose other

    behind-next : (behind k).next ≡ (link_of half k).next
    behind-next = ap (λ l. l.next) behind-is ∙ field-with_prev half k (λ l. l.next) (λ l p. refl) next prev next_in_half

    behind-next_same : prev ≡ Some k → (behind k).next ≡ next
    behind-next_same is = behind-next ∙ ap (λ l. l.next) (link_of-with_next_same links k prev next is (next-within links k item (prev_knows k is)))

    behind-next_other : (prev ≡ Some k → ⊥) → (behind k).next ≡ (before k).next
    behind-next_other not_prev = behind-next ∙ ap (λ l. l.next) (link_of-with_next_other links k prev next not_prev)

    behind-prev_same : next ≡ Some k → (behind k).prev ≡ prev
    behind-prev_same is =
        ap (λ l. l.prev) behind-is
        ∙ ap (λ l. l.prev) (link_of-with_prev_same half k next prev is (subst (λ n. k < n) (sym half-length) (prev-within links k item (next_knows k is))))

    behind-prev_other : (next ≡ Some k → ⊥) → (behind k).prev ≡ (before k).prev
    behind-prev_other not_next =
        ap (λ l. l.prev) behind-is
        ∙ ap (λ l. l.prev) (link_of-with_prev_other half k next prev not_next)
        ∙ field-with_next links k (λ l. l.prev) (λ l n. refl) prev next prev_in_items

    behind-owner : (behind k).owner ≡ (before k).owner
    behind-owner =
        ap (λ l. l.owner) behind-is
        ∙ field-with_prev half k (λ l. l.owner) (λ l p. refl) next prev next_in_half
        ∙ field-with_next links k (λ l. l.owner) (λ l n. refl) prev next prev_in_items

    -- each other item is led past the item
    skips_at : (h : ℕ) → has k (row lists h) ≡ true → Skips before behind item k
    skips_at h among =
        let within = has-head firsts links lists linked h k among in
        let chain = linked.chains h within in
        record {
          next = skip-is item next (before k).next (behind k).next
              (λ is. behind-next_same (prev-next before h k item None (first_at firsts h) (row lists h) chain among is))
              (λ differs. behind-next_other (λ is. differs (prev_knows k is)));
          prev = skip-is item prev (before k).prev (behind k).prev
              (λ is. elim (next-prev before h item k None (first_at firsts h) (row lists h) chain among is) [
                | inl found ↦ behind-prev_same found
                | inr front ↦ absurd (let no : None ≡ Some item = front.0 in cc)
              ])
              (λ differs. behind-prev_other (λ is. differs (next_knows k is)));
          owner = behind-owner;
        }

  -- the item is the first of a list only of its own, and where nothing is before it
  first_only : (h : ℕ) → h < length firsts → first_at firsts h ≡ Some item → (h ≡ head) × (prev ≡ None)
  first_only h within is =
      let chain = linked.chains h within in
      let by = first-owner before h item None (first_at firsts h) (row lists h) chain is in
      let both : Some h ≡ Some head = sym by ∙ owned in
      let same : h ≡ head = cc in
      (same, first-back before h item None (first_at firsts h) (row lists h) chain is)

  first_skips : (h : ℕ) → h < length firsts → first_at (cut_firsts firsts prev next head) h ≡ skip item next (first_at firsts h)
  first_skips h within = go prev refl
    where
      go : (o : Option ℕ) → prev ≡ o → first_at (cut_firsts firsts o next head) h ≡ skip item next (first_at firsts h)
      go None none =
          let front = (first-prev before head item None (first_at firsts head) (row lists head) own_chain here none).0 in
          elim (cases_eq h head) [
            | inl same ↦
                subst (λ n. first_at (set firsts head next) n ≡ skip item next (first_at firsts n)) (sym same)
                (get_or-set_same firsts head next None head-within ∙ sym (ap (skip item next) front ∙ skip-here item item next refl))
            | inr other ↦
                get_or-set_other firsts head h next None other
                ∙ skip-is item next (first_at firsts h) (first_at firsts h) (λ is. absurd (other (first_only h within is).0)) (λ differs. refl)
          ]
      go (Some b) some =
          skip-is item next (first_at firsts h) (first_at firsts h)
          (λ is. absurd (let no : None ≡ Some b = sym (first_only h within is).1 ∙ some in cc))
          (λ differs. refl)

  pub length-cut_firsts : length (cut_firsts firsts prev next head) ≡ length firsts
  length-cut_firsts = go prev
    where
      go : (o : Option ℕ) → length (cut_firsts firsts o next head) ≡ length firsts
      go None = length-set firsts head next
      go (Some b) = refl

  pub length-cut_links : length (cut_links links item) ≡ length links
  length-cut_links = length-set (with_prev half next prev) item loose ∙ length-with_prev half next prev ∙ half-length

  row_at : (h : ℕ) → row (map (without item) lists) h ≡ without item (row lists h)
  row_at h = get_or-map (without item) lists h []

  chain_at : (h : ℕ) → h < length firsts → IsChain behind h None (first_at (cut_firsts firsts prev next head) h) (row (map (without item) lists) h)
  chain_at h within =
      let chain = chain_skips before behind h item None (first_at firsts h) (row lists h) (λ k among other. skips_at k other h among) (linked.chains h within) in
      subst (λ o. IsChain behind h None o (row (map (without item) lists) h)) (sym (first_skips h within)) (subst (IsChain behind h None (skip item next (first_at firsts h))) (sym (row_at h)) chain)

  home_at : (k : ℕ) → (behind k).owner ≡ home k (map (without item) lists)
  home_at k =
      elim (cases_eq k item) [
        | inl same ↦ subst (λ n. (behind n).owner ≡ home n (map (without item) lists)) (sym same) (ap (λ l. l.owner) behind-item ∙ sym (home-without_same item lists))
        | inr other ↦ behind-owner k other ∙ linked.homes k ∙ sym (home-without_other k item lists other)
      ]

  -- each list is without the item
  pub cut_linked : IsLinked (cut_firsts firsts prev next head) (cut_links links item) (map (without item) lists)
  cut_linked = record {
    heads = length-map lists (without item) ∙ linked.heads ∙ sym length-cut_firsts;
    chains = λ h within. chain_at h (subst (λ n. h < n) length-cut_firsts within);
    apart = λ h within. subst IsApart (sym (row_at h)) (IsApart-without item (row lists h) (linked.apart h (subst (λ n. h < n) length-cut_firsts within)));
    homes = home_at;
    few_heads = subst (λ n. n < 2 ^ 32) (sym length-cut_firsts) linked.few_heads;
    few_items = subst (λ n. n < 2 ^ 32) (sym length-cut_links) linked.few_items;
  }
