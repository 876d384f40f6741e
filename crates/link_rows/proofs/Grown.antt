-- More heads and more items.
use Rattle.std.proofs.Common.{◌≡◌, ℕ, zero, suc, ◌+◌, ◌<◌, ◌^◌, List, [], ◌∷◌, ◌++◌, Option, None, replicate, length, get_or, refl, sym, ap, ◌∙◌, subst, inl, inr, arith, length-append}
use Rattle.std.proofs.lemmas.Bool.{cases_lt}
use Rattle.std.proofs.lemmas.List.{get_or_past, length-replicate}
use Rattle.link_rows.specs.declared.arrays.Link.{Link}
use Rattle.link_rows.specs.Rows.{row, with_more, IsApart}
use Rattle.link_rows.specs.Links.{loose, link_of, first_at, IsChain, IsLinked}
use Rattle.link_rows.proofs.Homes.{home-with_more}
use Rattle.link_rows.proofs.Chains.{chain_same}

pub get_or-replicate_same : {A : Type 0} (n k : ℕ) (d : A) → get_or (replicate n d) k d ≡ d
get_or-replicate_same zero k d = refl
get_or-replicate_same (suc n) zero d = refl
get_or-replicate_same (suc n) (suc k) d = get_or-replicate_same n k d

-- what is put last is what is read there anyway
pub get_or-more : {A : Type 0} (xs : List A) (n k : ℕ) (d : A) → get_or (xs ++ replicate n d) k d ≡ get_or xs k d
get_or-more [] n k d = get_or-replicate_same n k d
get_or-more (x ∷ xs) n zero d = refl
get_or-more (x ∷ xs) n (suc k) d = get_or-more xs n k d

pub length-more : {A : Type 0} (xs : List A) (n : ℕ) (d : A) → length (xs ++ replicate n d) ≡ length xs + n
length-more xs n d = length-append xs (replicate n d) ∙ ap (λ m. length xs + m) (length-replicate n d)

module _ (firsts : List (Option ℕ)) (links : List Link) (lists : List (List ℕ)) (more_heads more_items : ℕ) (linked : IsLinked firsts links lists)
    (few_heads : length firsts + more_heads < 2 ^ 32) (few_items : length links + more_items < 2 ^ 32) where
  abbrev firsts_after : List (Option ℕ)
  firsts_after = firsts ++ replicate more_heads None

  abbrev links_after : List Link
  links_after = links ++ replicate more_items loose

  same_link : (k : ℕ) → link_of links_after k ≡ link_of links k
  same_link k = get_or-more links more_items k loose

  same_first : (h : ℕ) → first_at firsts_after h ≡ first_at firsts h
  same_first h = get_or-more firsts more_heads h None

  same_row : (h : ℕ) → row (with_more lists more_heads) h ≡ row lists h
  same_row h = get_or-more lists more_heads h []

  -- where there was no head the list is empty
  chain_old : (h : ℕ) → IsChain (link_of links) h None (first_at firsts h) (row lists h)
  chain_old h =
      elim (cases_lt h (length firsts)) [
        | inl within ↦ linked.chains h within
        | inr past ↦
            let empty = get_or_past lists h [] (omega (arith, linked.heads)) in
            subst (IsChain (link_of links) h None (first_at firsts h)) (sym empty) (get_or_past firsts h None past)
      ]

  apart_old : (h : ℕ) → IsApart (row lists h)
  apart_old h =
      elim (cases_lt h (length firsts)) [
        | inl within ↦ linked.apart h within
        | inr past ↦ subst IsApart (sym (get_or_past lists h [] (omega (arith, linked.heads)))) tt
      ]

  -- the lists are as they were, with empty ones more
  pub grown_linked : IsLinked firsts_after links_after (with_more lists more_heads)
  grown_linked = record {
    heads = length-more lists more_heads [] ∙ ap (λ n. n + more_heads) linked.heads ∙ sym (length-more firsts more_heads None);
    chains = λ h within.
        (let chain = chain_same (link_of links) (link_of links_after) h None (first_at firsts h) (row lists h) (λ k among. same_link k) (chain_old h) in
        subst (λ o. IsChain (link_of links_after) h None o (row (with_more lists more_heads) h)) (sym (same_first h)) (subst (IsChain (link_of links_after) h None (first_at firsts h)) (sym (same_row h)) chain));
    apart = λ h within. subst IsApart (sym (same_row h)) (apart_old h);
    homes = λ k. ap (λ l. l.owner) (same_link k) ∙ linked.homes k ∙ sym (home-with_more k lists more_heads);
    few_heads = subst (λ n. n < 2 ^ 32) (sym (length-more firsts more_heads None)) few_heads;
    few_items = subst (λ n. n < 2 ^ 32) (sym (length-more links more_items loose)) few_items;
  }

-- no heads and no items
pub empty_linked : IsLinked [] [] []
empty_linked = record {
  heads = refl;
  chains = λ h within. absurd (omega arith);
  apart = λ h within. tt;
  homes = λ k. refl;
  few_heads = omega arith;
  few_items = omega arith;
}
