-- A chain of links: what it tells of its items, and when other links make the same chain.
use Rattle.std.proofs.Common.{◌≡◌, ℕ, zero, suc, ◌≤◌, Bool, true, false, if◌then◌else◌, eqb, ◌⊎◌, List, [], ◌∷◌, Option, Some, None, length, refl, sym, ap, ◌∙◌, subst, inl, inr, arith}
use Rattle.std.proofs.lemmas.Bool.{eqb-true, eqb-false, true≢false}
use Rattle.link_rows.specs.declared.arrays.Link.{Link}
use Rattle.link_rows.specs.Rows.{has, first_of, after, before}
use Rattle.link_rows.specs.Links.{walk, IsChain}
use Rattle.link_rows.proofs.HeadLists.{has-cases, has-cons_same, has-cons_other}

module _ (f : ℕ → Link) (head : ℕ) where
  pub chain_first : (prev at : Option ℕ) (xs : List ℕ) → IsChain f head prev at xs → at ≡ first_of xs
  chain_first prev at [] chain = chain
  chain_first prev at (x ∷ xs) chain = chain.0

  pub chain_owner : (k : ℕ) (prev at : Option ℕ) (xs : List ℕ) → IsChain f head prev at xs → has k xs ≡ true → (f k).owner ≡ Some head
  chain_owner k prev at [] chain here = absurd (true≢false (sym here))
  chain_owner k prev at (x ∷ xs) chain here =
      let rest = chain_owner k (Some x) (f x).next xs chain.3 in
      elim (has-cases k x xs here) [
        | inl same ↦ subst (λ n. (f n).owner ≡ Some head) (sym same) chain.2
        | inr other ↦ rest other.1
      ]

  pub chain_next : (k : ℕ) (prev at : Option ℕ) (xs : List ℕ) → IsChain f head prev at xs → has k xs ≡ true → (f k).next ≡ after k xs
  chain_next k prev at [] chain here = absurd (true≢false (sym here))
  chain_next k prev at (x ∷ xs) chain here = go (eqb k x) refl (chain_next k (Some x) (f x).next xs chain.3)
    where
      go : (b : Bool) → eqb k x ≡ b → (has k xs ≡ true → (f k).next ≡ after k xs) → (f k).next ≡ (if b then first_of xs else after k xs)
      go true e rest = ap (λ n. (f n).next) (eqb-true k x e) ∙ chain_first (Some x) (f x).next xs chain.3
      go false e rest = rest (sym (has-cons_other k x xs (eqb-false k x e)) ∙ here)

  pub chain_prev : (k : ℕ) (prev at : Option ℕ) (xs : List ℕ) → IsChain f head prev at xs → has k xs ≡ true → (f k).prev ≡ before prev k xs
  chain_prev k prev at [] chain here = absurd (true≢false (sym here))
  chain_prev k prev at (x ∷ xs) chain here = go (eqb k x) refl (chain_prev k (Some x) (f x).next xs chain.3)
    where
      go : (b : Bool) → eqb k x ≡ b → (has k xs ≡ true → (f k).prev ≡ before (Some x) k xs) → (f k).prev ≡ (if b then prev else before (Some x) k xs)
      go true e rest = ap (λ n. (f n).prev) (eqb-true k x e) ∙ chain.1
      go false e rest = rest (sym (has-cons_other k x xs (eqb-false k x e)) ∙ here)

  -- a walk that is long enough goes over the whole chain
  pub walk-chain : (n : ℕ) (prev at : Option ℕ) (xs : List ℕ) → IsChain f head prev at xs → length xs ≤ n → walk n f at ≡ xs
  walk-chain zero prev at [] chain enough = refl
  walk-chain (suc n) prev at [] chain enough = ap (walk (suc n) f) chain
  walk-chain zero prev at (x ∷ xs) chain enough = absurd (omega arith)
  walk-chain (suc n) prev at (x ∷ xs) chain enough =
      ap (walk (suc n) f) chain.0
      ∙ ap {B = List ℕ} (λ ys. x ∷ ys) (walk-chain n (Some x) (f x).next xs chain.3 (omega arith))

  -- what follows an item knows it as the one before
  pub prev-next : (k i : ℕ) (prev at : Option ℕ) (xs : List ℕ) → IsChain f head prev at xs → has k xs ≡ true → (f k).next ≡ Some i → (f i).prev ≡ Some k
  prev-next k i prev at [] chain here next = absurd (true≢false (sym here))
  prev-next k i prev at (x ∷ xs) chain here next =
      let rest = prev-next k i (Some x) (f x).next xs chain.3 in
      elim (has-cases k x xs here) [
        | inl same ↦ go xs chain.3 (sym (ap (λ n. (f n).next) same) ∙ next) same
        | inr other ↦ rest other.1 next
      ]
    where
      go : (ys : List ℕ) → IsChain f head (Some x) (f x).next ys → (f x).next ≡ Some i → k ≡ x → (f i).prev ≡ Some k
      go [] last follows same = absurd (let no : None ≡ Some i = sym last ∙ follows in cc)
      go (y ∷ ys) more follows same =
          let both : Some y ≡ Some i = sym more.0 ∙ follows in
          let y_is : y ≡ i = cc in
          ap (λ n. (f n).prev) (sym y_is) ∙ more.1 ∙ ap Some (sym same)

  -- what is before an item has it next, or it stands before the whole chain
  pub next-prev : (k i : ℕ) (prev at : Option ℕ) (xs : List ℕ) → IsChain f head prev at xs → has i xs ≡ true → (f i).prev ≡ Some k → ((f k).next ≡ Some i) ⊎ ((prev ≡ Some k) × (at ≡ Some i))
  next-prev k i prev at [] chain here back = absurd (true≢false (sym here))
  next-prev k i prev at (x ∷ xs) chain here back =
      let rest = next-prev k i (Some x) (f x).next xs chain.3 in
      elim (has-cases i x xs here) [
        | inl same ↦ inr (sym chain.1 ∙ sym (ap (λ n. (f n).prev) same) ∙ back, chain.0 ∙ ap Some (sym same))
        | inr other ↦ elim (rest other.1 back) [
          | inl found ↦ inl found
          | inr front ↦ inl (let both : Some x ≡ Some k = front.0 in let x_is : x ≡ k = cc in ap (λ n. (f n).next) (sym x_is) ∙ front.1)
        ]
      ]

  -- an item with nothing before it is the first
  pub first-prev : (i : ℕ) (prev at : Option ℕ) (xs : List ℕ) → IsChain f head prev at xs → has i xs ≡ true → (f i).prev ≡ None → (at ≡ Some i) × (prev ≡ None)
  first-prev i prev at [] chain here back = absurd (true≢false (sym here))
  first-prev i prev at (x ∷ xs) chain here back =
      let rest = first-prev i (Some x) (f x).next xs chain.3 in
      elim (has-cases i x xs here) [
        | inl same ↦ (chain.0 ∙ ap Some (sym same), sym chain.1 ∙ sym (ap (λ n. (f n).prev) same) ∙ back)
        | inr other ↦ absurd (let no : Some x ≡ None = (rest other.1 back).1 in cc)
      ]

-- links that agree on the items make the same chain
pub chain_same : (f g : ℕ → Link) (head : ℕ) (prev at : Option ℕ) (xs : List ℕ) → ((k : ℕ) → has k xs ≡ true → g k ≡ f k) → IsChain f head prev at xs → IsChain g head prev at xs
chain_same f g head prev at [] agree chain = chain
chain_same f g head prev at (x ∷ xs) agree chain =
    let here = agree x (has-cons_same x x xs refl) in
    let rest = chain_same f g head (Some x) (f x).next xs (λ k among. agree k (go k among (eqb k x) refl)) chain.3 in
    (chain.0, ap (λ l. l.prev) here ∙ chain.1, ap (λ l. l.owner) here ∙ chain.2, subst (λ o. IsChain g head (Some x) o xs) (sym (ap (λ l. l.next) here)) rest)
  where
    go : (k : ℕ) → has k xs ≡ true → (b : Bool) → eqb k x ≡ b → has k (x ∷ xs) ≡ true
    go k among true e = has-cons_same k x xs (eqb-true k x e)
    go k among false e = has-cons_other k x xs (eqb-false k x e) ∙ among
