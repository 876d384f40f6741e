-- Where the words of memories stand, one memory after the other, so that no two addresses share a place.
use Rattle.std.proofs.Common.{◌≡◌, ◌<◌, ◌≤◌, ◌+◌, ◌*◌, ◌^◌, ◌%◌, ◌⊎◌, inl, inr, ℕ, zero, suc, Bool, true, false, List, [], ◌∷◌, ◌++◌, take, drop, length, get_or, refl, sym, ap, subst, ◌∙◌, if◌then◌else◌, arith}
use Rattle.std.specs.Prelude.{◌==◌, ◌&&◌, Option, Some, None, slice_get, slice_set, slice_index, unwrap_or}
use Rattle.std.specs.Option.{option_or}
use Rattle.std.specs.List.{sum_by}
use Rattle.std.proofs.lemmas.Bool.{and_parts, cases_order, cases_eq}
use Rattle.std.proofs.lemmas.List.{get_or-set_same, get_or-set_other, get_or_push, get_or_append_left, length-append}
use Rattle.std.proofs.lemmas.List.Sums.{sum_by-cons, sum_by_more, sum_by_more_le}
use Rattle.std.proofs.lemmas.Option.{none-some, same_Some, slice_get_within, get_or_from_slice_get}
use Rattle.std.proofs.Math.Pow.{pow_mono}
use Rattle.design_core.specs.declared.element.Memory.{Memory}
use Rattle.design_core.specs.declared.parts.Parts.{Parts}
use Rattle.design_core.specs.Limits.{word_count}
use Rattle.design_core.specs.Valuation.{IsAddress}
use Rattle.facts.proofs.Tests.{no, same_number, number_same}
use Rattle.settled_model.specs.declared.opening.OpenWord.{OpenWord}
use Rattle.settled_model.specs.Held.{size_of, first_word, word_in}
use Rattle.settled_model.specs.Opening.{word_given, IsWord, AreWords}
use Rattle.settled_model.proofs.Ranges.{item_among}

-- one block of places ends before a later one begins
block : (xs : List Memory) (k m a : ℕ) (x : Memory) → slice_get xs k ≡ Some x → a < size_of x → k < m → sum_by size_of (take k xs) + a < sum_by size_of (take m xs)
block [] k m a x at low less = absurd (none-some x at)
block (y ∷ ys) k zero a x at low less = absurd (omega arith)
block (y ∷ ys) zero (suc m) a x at low less =
    let same : size_of y ≡ size_of x = ap size_of (same_Some y x at) in
    let all : sum_by size_of (y ∷ take m ys) ≡ size_of y + sum_by size_of (take m ys) = sum_by-cons size_of y (take m ys) in
    omega arith
block (y ∷ ys) (suc k) (suc m) a x at low less =
    let fewer : k < m = omega arith in
    let deep : sum_by size_of (take k ys) + a < sum_by size_of (take m ys) = block ys k m a x at low fewer in
    let left : sum_by size_of (y ∷ take k ys) ≡ size_of y + sum_by size_of (take k ys) = sum_by-cons size_of y (take k ys) in
    let right : sum_by size_of (y ∷ take m ys) ≡ size_of y + sum_by size_of (take m ys) = sum_by-cons size_of y (take m ys) in
    omega arith

module _ (p : Parts) where
  module _ (m : ℕ) (memory : Memory) (at : slice_get p.memories m ≡ Some memory) where
    item : get_or p.memories m memory ≡ memory
    item = get_or_from_slice_get p.memories m memory memory at

    pub next_base : first_word p (m + 1) ≡ first_word p m + size_of memory
    next_base =
        sum_by_more size_of p.memories m memory (slice_get_within p.memories m memory at) ∙ ap (λ (x : Memory). first_word p m + size_of x) item

    pub base_room : first_word p m + size_of memory ≤ word_count p
    base_room =
        subst (λ (x : Memory). first_word p m + size_of x ≤ word_count p) item
        (sum_by_more_le size_of p.memories m memory (slice_get_within p.memories m memory at))

  pub in_words : (m a : ℕ) → IsAddress p m a → first_word p m + a < word_count p
  in_words m a address =
      let room : first_word p m + size_of address.0 ≤ word_count p = base_room m address.0 address.1 in
      let low : a < size_of address.0 = address.2 in
      omega arith

  less_apart : (m l a b : ℕ) → IsAddress p m a → first_word p m + a ≡ first_word p l + b → m < l → ⊥
  less_apart m l a b address same less =
      let below : first_word p m + a < first_word p l = block p.memories m l a address.0 address.1 address.2 less in
      omega arith

  pub same_memory : (m l a b : ℕ) → IsAddress p m a → IsAddress p l b → first_word p m + a ≡ first_word p l + b → m ≡ l
  same_memory m l a b here there same = go (cases_order m l)
    where
      go : (m ≡ l) ⊎ ((m < l) ⊎ (l < m)) → m ≡ l
      go (inl e) = e
      go (inr (inl less)) = absurd (less_apart m l a b here same less)
      go (inr (inr more)) = absurd (less_apart l m b a there (sym same) more)

  pub same_address : (m l a b : ℕ) → m ≡ l → first_word p m + a ≡ first_word p l + b → a ≡ b
  same_address m l a b e same =
      let base : first_word p m ≡ first_word p l = ap (first_word p) e in
      omega arith

  -- a word is what was put there last
  pub word_put : (words : List ℕ) (m l a b x : ℕ) → length words ≡ word_count p → IsAddress p m a → IsAddress p l b
      → word_in p (slice_set words (first_word p l + b) x) m a ≡ (if (l == m) && (b == a) then x else word_in p words m a)
  word_put words m l a b x size here there = go ((l == m) && (b == a)) refl
    where
      go : (t : Bool) → ((l == m) && (b == a)) ≡ t → word_in p (slice_set words (first_word p l + b) x) m a ≡ (if t then x else word_in p words m a)
      go true e =
          let both = and_parts (l == m) (b == a) e in
          let memory : l ≡ m = number_same l m both.0 in
          let address : b ≡ a = number_same b a both.1 in
          let base : first_word p l ≡ first_word p m = ap (first_word p) memory in
          let place : first_word p m + a ≡ first_word p l + b = omega arith in
          let low : first_word p l + b < length words = omega (arith, in_words l b there) in
          ap (λ (k : ℕ). get_or (slice_set words (first_word p l + b) x) k 0) place
          ∙ get_or-set_same words (first_word p l + b) x 0 low
      go false e =
          get_or-set_other words (first_word p l + b) (first_word p m + a) x 0
          (λ same.
          let memory : m ≡ l = same_memory m l a b here there same in
          let address : a ≡ b = same_address m l a b memory same in
          no (sym e ∙ ap (λ t. t && (b == a)) (same_number l m (sym memory)) ∙ same_number b a (sym address)))

  -- ## The words of an opening

  given_more : (o : Option ℕ) (t : Bool) (b x : ℕ) → unwrap_or (option_or o (if t then Some b else None)) x ≡ unwrap_or o (if t then b else x)
  given_more None true b x = refl
  given_more None false b x = refl
  given_more (Some y) t b x = refl

  -- a word of an opening has an address
  pub word_address : (given : List OpenWord) (i : ℕ) (other : OpenWord) → AreWords p given → i < length given → IsAddress p (get_or given i other).mem.place (get_or given i other).address
  word_address given i other h low =
      let word : IsWord p (get_or given i other) = h (get_or given i other) (item_among given i other low) in
      (word.0, word.1, word.2)

  pub memory_within : (m a : ℕ) → IsAddress p m a → m < length p.memories
  memory_within m a address = slice_get_within p.memories m address.0 address.1

  module _ (given : List OpenWord) (i : ℕ) (w : OpenWord) (front : drop i given ≡ w ∷ drop (i + 1) given) where
    pub one_word : (before after : List ℕ) (m a : ℕ) → IsAddress p m a → IsAddress p w.mem.place w.address → length before ≡ word_count p
        → after ≡ slice_set before (first_word p w.mem.place + w.address) w.value
        → unwrap_or (word_given (drop (i + 1) given) m a) (word_in p after m a) ≡ unwrap_or (word_given (drop i given) m a) (word_in p before m a)
    one_word before after m a address its size e =
        ap (λ xs. unwrap_or (word_given (drop (i + 1) given) m a) (word_in p xs m a)) e
        ∙ ap (unwrap_or (word_given (drop (i + 1) given) m a)) (word_put before m w.mem.place a w.address w.value size address its)
        ∙ sym (given_more (word_given (drop (i + 1) given) m a) ((w.mem.place == m) && (w.address == a)) w.value (word_in p before m a))
        ∙ ap (λ ws. unwrap_or (word_given ws m a) (word_in p before m a)) (sym front)

-- the places, with the next one
pub one_base : (p : Parts) (bases after : List ℕ) (place next : ℕ) → length bases ≡ place + 1 → ((m : ℕ) → m ≤ place → slice_index bases m ≡ first_word p m)
    → next ≡ first_word p (place + 1) → after ≡ bases ++ next ∷ [] → (m : ℕ) → m ≤ place + 1 → slice_index after m ≡ first_word p m
one_base p bases after place next size each here e m low =
    ap (λ (xs : List ℕ). slice_index xs m) e ∙ go (cases_eq m (place + 1))
  where
    go : (m ≡ place + 1) ⊎ (m ≡ place + 1 → ⊥) → slice_index (bases ++ next ∷ []) m ≡ first_word p m
    go (inl same) = get_or_push bases next 0 m (size ∙ sym same) ∙ here ∙ ap (first_word p) (sym same)
    go (inr other) =
        let less : m < length bases = omega arith in
        let before : m ≤ place = omega arith in
        get_or_append_left bases (next ∷ []) 0 m less ∙ each m before

pub length_pushed : (xs : List ℕ) (x n : ℕ) → length xs ≡ n → length (xs ++ x ∷ []) ≡ n + 1
length_pushed xs x n size = length-append xs (x ∷ []) ∙ ap (λ (k : ℕ). k + 1) size

-- a shift of one within 64 bits is the power
pub shifted : (a : ℕ) → a ≤ 16 → 1 * 2 ^ a % 18446744073709551616 ≡ 2 ^ a
shifted a few =
    let words : 2 ^ a ≤ 65536 = pow_mono few in
    omega arith
