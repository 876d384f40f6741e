-- The arrays and the value that contracts see of them.
use Rattle.std.proofs.Common.{◌≡◌, ℕ, ◌-◌, ◌<◌, ◌^◌, max, true, List, ◌∷◌, ◌++◌, Option, Some, None, IsSome, is_some, map, length, get_or, set, replicate, refl, sym, ap, ◌∙◌, subst, arith}
use Rattle.std.specs.Option.{option_and_then}
use Rattle.std.proofs.lemmas.List.{get_or_default}
use Rattle.link_rows.specs.declared.arrays.Link.{Link}
use Rattle.link_rows.specs.Rows.{Linked, row, has, home, first_of, after, next_in, before, prev_in, without, with_more, AreApart}
use Rattle.link_rows.specs.Links.{loose, link_of, first_at, lists_of, front_links, cut_firsts, cut_links, IsWithin, IsLinked}
use Rattle.link_rows.proofs.Homes.{has-home, map-without_absent}
use Rattle.link_rows.proofs.Chains.{chain_first, chain_next, chain_prev}
use Rattle.link_rows.proofs.Told.{has-head, has-owner, owner-within, apart_told, kept, seen}
use Rattle.link_rows.proofs.Fronts.{first-within, length-front_links, front_linked}
use Rattle.link_rows.proofs.Cuts.{head-within, next_in_items, prev_in_items, length-cut_links, cut_linked}
use Rattle.link_rows.proofs.Grown.{length-more, grown_linked}

-- what a contract sees of the arrays
abbrev pub view_of : List (Option ℕ) → List Link → Linked
view_of firsts links = record { lists = lists_of firsts links; items = length links }

-- the arrays hold a value
pub record Holds (firsts : List (Option ℕ)) (links : List Link) (v : Linked) : Type 0 where
  pub linked : IsLinked firsts links v.lists
  pub count : length links ≡ v.items

module _ (firsts : List (Option ℕ)) (links : List Link) (v : Linked) where
  pub holds : view_of firsts links ≡ v → IsLinked firsts links (lists_of firsts links) → Holds firsts links v
  holds view_is linked = record {
    linked = subst (λ r. IsLinked firsts links r.lists) view_is linked;
    count = ap (λ r. r.items) view_is;
  }

  pub holds-invariant : Holds firsts links v → IsLinked firsts links (lists_of firsts links)
  holds-invariant h = kept firsts links v.lists h.linked

  pub holds-view : Holds firsts links v → view_of firsts links ≡ v
  holds-view h = seen firsts links v.lists v.items h.linked h.count

  pub holds-apart : Holds firsts links v → AreApart v
  holds-apart h = subst (λ n. AreApart (record { lists = v.lists; items = n })) h.count (apart_told firsts links v.lists h.linked)

  module _ (h : Holds firsts links v) where
    head-in : (head : ℕ) → head < length v.lists → head < length firsts
    head-in head within = subst (λ n. head < n) h.linked.heads within

    item-in : (item : ℕ) → item < v.items → item < length links
    item-in item within = subst (λ n. item < n) (sym h.count) within

    pub holds-first : (head : ℕ) → head < length v.lists → IsWithin (first_at firsts head) (length links)
    holds-first head within = first-within firsts links v.lists head h.linked (head-in head within)

    -- an item is put before the others of a head
    pub holds-front : (head item h i : ℕ) (firsts' : List (Option ℕ)) (links' : List Link) → head < length v.lists → item < v.items → home item v.lists ≡ None → h ≡ head → i ≡ item
        → firsts' ≡ set firsts h (Some i) → links' ≡ front_links firsts links h i
        → Holds firsts' links' (record { lists = set v.lists head (item ∷ row v.lists head); items = v.items })
    holds-front head item h_place i_place firsts' links' in_heads in_items new same_head same_item wrote_firsts wrote_links =
        let e1 : firsts' ≡ set firsts head (Some item) = wrote_firsts ∙ (λ j. set firsts (same_head j) (Some (same_item j))) in
        let e2 : links' ≡ front_links firsts links head item = wrote_links ∙ (λ j. front_links firsts links (same_head j) (same_item j)) in
        let lists' = set v.lists head (item ∷ row v.lists head) in
        let after = front_linked firsts links v.lists head item h.linked (head-in head in_heads) (item-in item in_items) new in
        let same = length-front_links firsts links v.lists head item h.linked (head-in head in_heads) (item-in item in_items) new in
        record {
          linked = subst (λ fs. IsLinked fs links' lists') (sym e1) (subst (λ ls. IsLinked (set firsts head (Some item)) ls lists') (sym e2) after);
          count = ap length e2 ∙ same ∙ h.count;
        }

    -- an item of a head is taken out
    module _ (head item : ℕ) (owned : (link_of links item).owner ≡ Some head) where
      pub holds-cut_head : head < length firsts
      holds-cut_head = head-within firsts links v.lists head item h.linked owned

      pub holds-cut_next : IsWithin (link_of links item).next (length links)
      holds-cut_next = next_in_items firsts links v.lists head item h.linked owned

      pub holds-cut_prev : IsWithin (link_of links item).prev (length links)
      holds-cut_prev = prev_in_items firsts links v.lists head item h.linked owned

      pub holds-cut : (firsts' : List (Option ℕ)) (links' : List Link) → firsts' ≡ cut_firsts firsts (link_of links item).prev (link_of links item).next head → links' ≡ cut_links links item
          → Holds firsts' links' (record { lists = map (without item) v.lists; items = v.items })
      holds-cut firsts' links' e1 e2 =
          let lists' = map (without item) v.lists in
          let after = cut_linked firsts links v.lists head item h.linked owned in
          let same = length-cut_links firsts links v.lists head item h.linked owned in
          record {
            linked = subst (λ fs. IsLinked fs links' lists') (sym e1) (subst (λ ls. IsLinked (cut_firsts firsts (link_of links item).prev (link_of links item).next head) ls lists') (sym e2) after);
            count = ap length e2 ∙ same ∙ h.count;
          }

    -- an item that is in no list leaves the lists
    pub holds-loose : (item : ℕ) → (link_of links item).owner ≡ None → Holds firsts links (record { lists = map (without item) v.lists; items = v.items })
    holds-loose item owned =
        let none : home item v.lists ≡ None = sym (h.linked.homes item) ∙ owned in
        record {
          linked = subst (IsLinked firsts links) (sym (map-without_absent item v.lists none)) h.linked;
          count = h.count;
        }

    -- more heads and items
    pub holds-grown : (heads items : ℕ) (firsts' : List (Option ℕ)) (links' : List Link) → heads < 2 ^ 32 → items < 2 ^ 32
        → firsts' ≡ firsts ++ replicate (heads - length firsts) None → links' ≡ links ++ replicate (items - length links) loose
        → Holds firsts' links' (record { lists = with_more v.lists (heads - length v.lists); items = max items v.items })
    holds-grown heads items firsts' links' few_heads few_items e1 e2 =
        let more = heads - length firsts in
        let extra = items - length links in
        let after = grown_linked firsts links v.lists more extra h.linked (omega (arith, h.linked.few_heads)) (omega (arith, h.linked.few_items)) in
        let lists' = with_more v.lists more in
        let held = subst (λ fs. IsLinked fs links' lists') (sym e1) (subst (λ ls. IsLinked (firsts ++ replicate more None) ls lists') (sym e2) after) in
        record {
          linked = subst (λ n. IsLinked firsts' links' (with_more v.lists (heads - n))) (sym h.linked.heads) held;
          count = ap length e2 ∙ length-more links extra loose ∙ omega (arith, h.count);
        }

    -- the item after an item of a list
    pub holds-next : (item : ℕ) → IsSome (home item v.lists) → (link_of links item).next ≡ next_in v.lists item
    holds-next item linked_item = go (home item v.lists) refl linked_item
      where
        go : (o : Option ℕ) → home item v.lists ≡ o → IsSome o → (link_of links item).next ≡ option_and_then (λ head. after item (row v.lists head)) o
        go None e s = absurd (let no : is_some {T = ℕ} None ≡ true = s in cc)
        go (Some head) e s =
            let here = has-home item v.lists head e in
            let within = has-head firsts links v.lists h.linked head item here in
            chain_next (link_of links) head item None (first_at firsts head) (row v.lists head) (h.linked.chains head within) here

    -- an item of a list is one of the items
    pub holds-within : (item : ℕ) → IsSome (home item v.lists) → item < length links
    holds-within item linked_item = go (home item v.lists) refl linked_item
      where
        go : (o : Option ℕ) → home item v.lists ≡ o → IsSome o → item < length links
        go None e s = absurd (let no : is_some {T = ℕ} None ≡ true = s in cc)
        go (Some head) e s = owner-within links item head (h.linked.homes item ∙ e)

    -- the link that is read of an item of a list
    pub holds-read : (item place : ℕ) (link : Link) → IsSome (home item v.lists) → place ≡ item → link ≡ get_or links place link → link.next ≡ next_in v.lists item
    holds-read item place link linked_item same read =
        let within : place < length links = subst (λ n. n < length links) (sym same) (holds-within item linked_item) in
        ap (λ l. l.next) (read ∙ get_or_default links place link loose within ∙ ap (link_of links) same) ∙ holds-next item linked_item

    -- what is read of an item of a head's list
    pub holds-item : (head item : ℕ) → has item (row v.lists head) ≡ true → item < length links
    holds-item head item here = owner-within links item head (has-owner firsts links v.lists h.linked head item here)

    pub holds-after : (head item : ℕ) (link : Link) → has item (row v.lists head) ≡ true → link ≡ get_or links item link → link.next ≡ after item (row v.lists head)
    holds-after head item link here read =
        let within = has-head firsts links v.lists h.linked head item here in
        ap (λ l. l.next) (read ∙ get_or_default links item link loose (holds-item head item here))
        ∙ chain_next (link_of links) head item None (first_at firsts head) (row v.lists head) (h.linked.chains head within) here

    pub holds-first_of : (head place : ℕ) (first : Option ℕ) → head < length v.lists → place ≡ head → first ≡ get_or firsts place first → first ≡ first_of (row v.lists head)
    holds-first_of head place first within same read =
        let in_firsts = head-in head within in
        let in_place : place < length firsts = subst (λ n. n < length firsts) (sym same) in_firsts in
        read ∙ get_or_default firsts place first None in_place ∙ ap (first_at firsts) same
        ∙ chain_first (link_of links) head None (first_at firsts head) (row v.lists head) (h.linked.chains head in_firsts)

    -- the item before an item of a list
    holds-prev : (item : ℕ) → IsSome (home item v.lists) → (link_of links item).prev ≡ prev_in v.lists item
    holds-prev item linked_item = go (home item v.lists) refl linked_item
      where
        go : (o : Option ℕ) → home item v.lists ≡ o → IsSome o → (link_of links item).prev ≡ option_and_then (λ head. before None item (row v.lists head)) o
        go None e s = absurd (let no : is_some {T = ℕ} None ≡ true = s in cc)
        go (Some head) e s =
            let here = has-home item v.lists head e in
            let within = has-head firsts links v.lists h.linked head item here in
            chain_prev (link_of links) head item None (first_at firsts head) (row v.lists head) (h.linked.chains head within) here

    pub holds-read_prev : (item place : ℕ) (link : Link) → IsSome (home item v.lists) → place ≡ item → link ≡ get_or links place link → link.prev ≡ prev_in v.lists item
    holds-read_prev item place link linked_item same read =
        let within : place < length links = subst (λ n. n < length links) (sym same) (holds-within item linked_item) in
        ap (λ l. l.prev) (read ∙ get_or_default links place link loose within ∙ ap (link_of links) same) ∙ holds-prev item linked_item

    -- the head that is read of an item
    pub holds-owner : (item place : ℕ) (link : Link) (owner : Option ℕ) → item < v.items → place ≡ item → link ≡ get_or links place link → link.owner ≡ owner → (link_of links place).owner ≡ owner
    holds-owner item place link owner within same read is =
        let in_links : place < length links = subst (λ n. n < length links) (sym same) (item-in item within) in
        ap (λ l. l.owner) (sym (read ∙ get_or_default links place link loose in_links)) ∙ is

    -- arrays with the same items hold the same
    pub holds-same : (firsts' : List (Option ℕ)) (links' : List Link) → firsts' ≡ firsts → links' ≡ links → Holds firsts' links' v
    holds-same firsts' links' e1 e2 =
        subst (λ fs. Holds fs links' v) (sym e1) (subst (λ ls. Holds firsts ls v) (sym e2) h)

  -- what is seen of arrays that hold a value is apart
  pub holds-seen_apart : Holds firsts links v → AreApart (view_of firsts links)
  holds-seen_apart h = subst AreApart (sym (holds-view h)) (holds-apart h)
