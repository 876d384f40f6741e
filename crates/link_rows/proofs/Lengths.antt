-- Rows are given more words, one after another.
use Rattle.std.proofs.Common.{◌≡◌, ℕ, ◌+◌, ◌/◌, ◌%◌, ◌<◌, ◌≤◌, eqb, List, [], ◌++◌, ◌-◌, map, replicate, length, get_or, set, refl, sym, ap, ◌∙◌, subst, inl, inr, arith}
use Rattle.std.specs.Int.{bit_at}
use Rattle.std.proofs.lemmas.Bool.{cases_eq}
use Rattle.std.proofs.lemmas.List.{get_or-set_same, get_or-set_other, get_or-map, length-map, length-set, map-set, set-get_or}
use Rattle.link_rows.specs.Words.{bit_in, words_at, SameBits}
use Rattle.link_rows.proofs.Grown.{get_or-more, length-more}

-- words with clear ones more have the same bits
bit_in-more : (words : List ℕ) (more at : ℕ) → bit_in (words ++ replicate more 0) at ≡ bit_in words at
bit_in-more words more at = ap (λ w. eqb (bit_at w (at % 64)) 1) (get_or-more words more (at / 64) 0)

-- the rows before a place have been given their words
pub record Lengthened (old now : List (List ℕ)) (count row : ℕ) : Type 0 where
  pub same : SameBits old now
  pub room : (r : ℕ) → r < row → count ≤ length (words_at now r)

pub lengthened-start : (rows : List (List ℕ)) (count : ℕ) → Lengthened rows rows count 0
lengthened-start rows count = record {
  same = record { count = refl; bits = λ row at. refl; longer = λ row. omega arith };
  room = λ r below. absurd (omega arith);
}

pub lengthened-step : (old now : List (List ℕ)) (count row : ℕ) (words : List ℕ) → Lengthened old now count row → row < length now → words ≡ words_at now row ++ replicate (count - length (words_at now row)) 0
    → Lengthened old (set now row words) count (row + 1)
lengthened-step old now count row words lengthened within is =
    let own = words_at now row in
    let more = count - length own in
    let longer : length words ≡ length own + more = ap length is ∙ length-more own more 0 in
    let here : words_at (set now row words) row ≡ words = get_or-set_same now row words [] within in
    let there = λ (r : ℕ) (other : r ≡ row → ⊥). get_or-set_other now row r words [] other in
    record {
      same = record {
        count = length-set now row words ∙ lengthened.same.count;
        bits = λ r at. elim (cases_eq r row) [
          | inl same ↦
              subst (λ n. bit_in (words_at (set now row words) n) at ≡ bit_in (words_at old n) at) (sym same)
              (ap (λ ws. bit_in ws at) (here ∙ is) ∙ bit_in-more own more at ∙ lengthened.same.bits row at)
          | inr other ↦ ap (λ ws. bit_in ws at) (there r other) ∙ lengthened.same.bits r at
        ];
        longer = λ r. elim (cases_eq r row) [
          | inl same ↦ subst (λ n. length (words_at old n) ≤ length (words_at (set now row words) n)) (sym same) (omega (arith, ap length here, longer, lengthened.same.longer row))
          | inr other ↦ omega (arith, ap length (there r other), lengthened.same.longer r)
        ];
      };
      room = λ r below. elim (cases_eq r row) [
        | inl same ↦ subst (λ n. count ≤ length (words_at (set now row words) n)) (sym same) (omega (arith, ap length here, longer))
        | inr other ↦
            let earlier = lengthened.room r (omega (arith, other)) in
            omega (arith, ap length (there r other), earlier)
      ];
    }

-- the same, of the rows as the code has them
module _ {V : Type 0} (items : V → List ℕ) (old : List (List ℕ)) (rows : List V) (count row : ℕ) (own new : V) (within : row < length rows) (read : own ≡ get_or rows row own) where
  own-words : items own ≡ words_at (map items rows) row
  own-words = ap items read ∙ sym (get_or-map items rows row own [] within)

  pub lengthened-row : Lengthened old (map items rows) count row → items new ≡ items own ++ replicate (count - length (items own)) 0 → Lengthened old (map items (set rows row new)) count (row + 1)
  lengthened-row lengthened is =
      let longer : items new ≡ words_at (map items rows) row ++ replicate (count - length (words_at (map items rows) row)) 0 =
      is ∙ ap (λ ws. ws ++ replicate (count - length ws) 0) own-words in
      let inside : row < length (map items rows) = subst (λ n. row < n) (sym (length-map rows items)) within in
      subst (λ ws. Lengthened old ws count (row + 1)) (sym (map-set items rows row new)) (lengthened-step old (map items rows) count row (items new) lengthened inside longer)

  pub same-row : SameBits old (map items rows) → items new ≡ items own → SameBits old (map items (set rows row new))
  same-row same is =
      let kept : map items (set rows row new) ≡ map items rows =
      map-set items rows row new ∙ ap (set (map items rows) row) (is ∙ own-words) ∙ set-get_or (map items rows) row [] in
      subst (SameBits old) (sym kept) same
