-- The fields of the links after what is before or behind one item is set.
use Rattle.std.proofs.Common.{◌≡◌, ℕ, ◌<◌, List, Option, Some, None, length, refl, sym, ap, ◌∙◌, subst, inl, inr}
use Rattle.std.proofs.lemmas.Bool.{cases_eq}
use Rattle.std.proofs.lemmas.List.{get_or-set_same, get_or-set_other, length-set}
use Rattle.link_rows.specs.declared.arrays.Link.{Link}
use Rattle.link_rows.specs.Links.{loose, link_of, with_next, with_prev, IsWithin}

pub length-with_prev : (links : List Link) (item prev : Option ℕ) → length (with_prev links item prev) ≡ length links
length-with_prev links None prev = refl
length-with_prev links (Some k) prev = length-set links k _

pub length-with_next : (links : List Link) (item next : Option ℕ) → length (with_next links item next) ≡ length links
length-with_next links None next = refl
length-with_next links (Some k) next = length-set links k _

module _ (links : List Link) (k : ℕ) where
  pub link_of-with_prev_same : (item prev : Option ℕ) → item ≡ Some k → k < length links → link_of (with_prev links item prev) k ≡ record (link_of links k) { prev = prev }
  link_of-with_prev_same item prev is within =
      subst (λ o. link_of (with_prev links o prev) k ≡ record (link_of links k) { prev = prev }) (sym is) (get_or-set_same links k _ loose within)

  pub link_of-with_prev_other : (item prev : Option ℕ) → (item ≡ Some k → ⊥) → link_of (with_prev links item prev) k ≡ link_of links k
  link_of-with_prev_other None prev other = refl
  link_of-with_prev_other (Some i) prev other = get_or-set_other links i k _ loose (λ same. other (ap Some (sym same)))

  pub link_of-with_next_same : (item next : Option ℕ) → item ≡ Some k → k < length links → link_of (with_next links item next) k ≡ record (link_of links k) { next = next }
  link_of-with_next_same item next is within =
      subst (λ o. link_of (with_next links o next) k ≡ record (link_of links k) { next = next }) (sym is) (get_or-set_same links k _ loose within)

  pub link_of-with_next_other : (item next : Option ℕ) → (item ≡ Some k → ⊥) → link_of (with_next links item next) k ≡ link_of links k
  link_of-with_next_other None next other = refl
  link_of-with_next_other (Some i) next other = get_or-set_other links i k _ loose (λ same. other (ap Some (sym same)))

  -- a field that the write leaves
  pub field-with_prev : {X : Type 0} (field : Link → X) → ((l : Link) (p : Option ℕ) → field (record l { prev = p }) ≡ field l) → (item prev : Option ℕ) → IsWithin item (length links)
      → field (link_of (with_prev links item prev) k) ≡ field (link_of links k)
  field-with_prev field leaves None prev within = refl
  field-with_prev field leaves (Some i) prev within =
      elim (cases_eq i k) [
        | inl same ↦ ap field (link_of-with_prev_same (Some i) prev (ap Some same) (subst (λ n. n < length links) same within)) ∙ leaves (link_of links k) prev
        | inr other ↦ ap field (link_of-with_prev_other (Some i) prev (λ e. other (let both : Some i ≡ Some k = e in cc)))
      ]

  pub field-with_next : {X : Type 0} (field : Link → X) → ((l : Link) (n : Option ℕ) → field (record l { next = n }) ≡ field l) → (item next : Option ℕ) → IsWithin item (length links)
      → field (link_of (with_next links item next) k) ≡ field (link_of links k)
  field-with_next field leaves None next within = refl
  field-with_next field leaves (Some i) next within =
      elim (cases_eq i k) [
        | inl same ↦ ap field (link_of-with_next_same (Some i) next (ap Some same) (subst (λ n. n < length links) same within)) ∙ leaves (link_of links k) next
        | inr other ↦ ap field (link_of-with_next_other (Some i) next (λ e. other (let both : Some i ≡ Some k = e in cc)))
      ]
