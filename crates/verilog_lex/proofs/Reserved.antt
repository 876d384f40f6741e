-- The reserved words, where each letter's begin, and the place of a word among them.
use Rattle.std.proofs.Common.{◌≡◌, ℕ, zero, suc, ◌+◌, ◌-◌, ◌<◌, ◌≤◌, Bool, true, false, not, ◌&&◌, nat_lt, nat_le, if◌then◌else◌, List, [], ◌∷◌, length, get_or, Some, None, position, bytes_eq, refl, sym, ◌∙◌, ap, subst, arith}
use Rattle.std.specs.Char.{is_ascii_lowercase}
use Rattle.std.specs.List.{prefix_len}
use Rattle.std.proofs.lemmas.Bool.Decides.{nat_tests}
use Rattle.std.proofs.lemmas.List.Sums.{prefix_len_is}
use Rattle.std.proofs.lemmas.Slice.Eq.{bytes_eq-Decides}
use Rattle.verilog_lex.specs.Bytes.{first, second}
use Rattle.verilog_lex.specs.Words.{Splits, reserved_words}

pub reserved_words-length : length reserved_words ≡ 124
unfolding reserved_words
reserved_words-length = refl

false_from : (b : Bool) → (b ≡ true → ⊥) → b ≡ false
false_from true h = absurd (h refl)
false_from false h = refl

-- two words with two first letters are two words
differs : (word other : List ℕ) → (first word ≡ first other → ⊥) → bytes_eq word other ≡ false
differs word other h = false_from (bytes_eq word other) (λ e. h (ap first ((bytes_eq-Decides word other).0 e)))

position-none : (p : List ℕ → Bool) (words : List (List ℕ)) → ((k : ℕ) → k < length words → p (get_or words k []) ≡ false) → position p words ≡ None
position-none p words h =
    let all : prefix_len (λ w. not (p w)) words ≡ length words = prefix_len_is (λ w. not (p w)) words (length words) [] (omega arith) (λ k below. rw (h k below) refl) (λ below. absurd (omega arith)) in
    let off : nat_lt (length words) (length words) ≡ false = grind (arith, nat_tests) in
    rw (all, off) refl

position-some : (p : List ℕ → Bool) (words : List (List ℕ)) (place : ℕ) → place < length words → ((k : ℕ) → k < place → p (get_or words k []) ≡ false) → p (get_or words place []) ≡ true → position p words ≡ Some place
position-some p words place inside h here =
    let all : prefix_len (λ w. not (p w)) words ≡ place = prefix_len_is (λ w. not (p w)) words place [] (omega arith) (λ k below. rw (h k below) refl) (λ below. rw here refl) in
    let on : nat_lt place (length words) ≡ true = grind (arith, nat_tests) in
    rw (all, on) refl

-- a letter's test of the word at a place
abbrev fits : ℕ → ℕ → ℕ → List ℕ → Bool
fits letter start k w = if nat_lt k start then nat_lt (first w) letter else nat_le letter (first w)

-- a letter's test of each word from a place on
splits : ℕ → ℕ → ℕ → List (List ℕ) → Bool
splits letter start k [] = true
splits letter start k (w ∷ words) = fits letter start k w && splits letter start (k + 1) words

-- the test of each letter from one on, with its start
all_split : ℕ → List ℕ → List (List ℕ) → Bool
all_split letter [] words = true
all_split letter (start ∷ starts) words = (nat_le start (length words) && splits letter start 0 words) && all_split (letter + 1) starts words

both : (a b : Bool) → (a && b) ≡ true → (a ≡ true) × (b ≡ true)
both true b e = (refl, e)
both false b e = absurd (false_is e)
  where
    false_is : false ≡ true → ⊥
    false_is e = absurd (cc)

splits-earlier : (letter start k : ℕ) (words : List (List ℕ)) (j : ℕ) → splits letter start k words ≡ true → j < length words → k + j < start → first (get_or words j []) < letter
unfolding splits
splits-earlier letter start k [] j e inside below = absurd (omega arith)
splits-earlier letter start k (w ∷ words) zero e inside below =
    let here = (both (fits letter start k w) (splits letter start (k + 1) words) e).0 in
    grind (arith, nat_tests)
splits-earlier letter start k (w ∷ words) (suc j) e inside below = splits-earlier letter start (k + 1) words j (both (fits letter start k w) (splits letter start (k + 1) words) e).1 (omega arith) (omega arith)

splits-later : (letter start k : ℕ) (words : List (List ℕ)) (j : ℕ) → splits letter start k words ≡ true → j < length words → start ≤ k + j → letter ≤ first (get_or words j [])
unfolding splits
splits-later letter start k [] j e inside below = absurd (omega arith)
splits-later letter start k (w ∷ words) zero e inside below =
    let here = (both (fits letter start k w) (splits letter start (k + 1) words) e).0 in
    grind (arith, nat_tests)
splits-later letter start k (w ∷ words) (suc j) e inside below = splits-later letter start (k + 1) words j (both (fits letter start k w) (splits letter start (k + 1) words) e).1 (omega arith) (omega arith)

all_split-at : (letter : ℕ) (starts : List ℕ) (words : List (List ℕ)) (i : ℕ) → all_split letter starts words ≡ true → i < length starts → Splits (letter + i) (get_or starts i 0) words
unfolding all_split
all_split-at letter [] words i e inside = absurd (omega arith)
all_split-at letter (start ∷ starts) words zero e inside =
    let first_two = (both (nat_le start (length words) && splits letter start 0 words) (all_split (letter + 1) starts words) e).0 in
    let here = (both (nat_le start (length words)) (splits letter start 0 words) first_two).1 in
    let room = (both (nat_le start (length words)) (splits letter start 0 words) first_two).0 in
    record {
      within = grind (arith, nat_tests);
      earlier = λ k below. let less = splits-earlier letter start 0 words k here (grind (arith, nat_tests)) (omega arith) in omega arith;
      later = λ k above below. let more = splits-later letter start 0 words k here below (omega arith) in omega arith;
    }
all_split-at letter (start ∷ starts) words (suc i) e inside =
    let same : letter + 1 + i ≡ letter + suc i = omega arith in
    subst (λ n. Splits n (get_or starts i 0) words) same (all_split-at (letter + 1) starts words i (both (nat_le start (length words) && splits letter start 0 words) (all_split (letter + 1) starts words) e).1 (omega arith))

abbrev starts : List ℕ
starts = 0 ∷ 4 ∷ 8 ∷ 14 ∷ 19 ∷ 32 ∷ 37 ∷ 39 ∷ 41 ∷ 50 ∷ 51 ∷ 51 ∷ 55 ∷ 58 ∷ 66 ∷ 68 ∷ 78 ∷ 78 ∷ 89 ∷ 99 ∷ 111 ∷ 114 ∷ 115 ∷ 122 ∷ 124 ∷ 124 ∷ 124 ∷ []

all_split-starts : all_split 97 starts reserved_words ≡ true
unfolding all_split splits reserved_words
all_split-starts = refl

-- a letter's place in the table of starts splits the reserved words
pub starts-split : (letter : ℕ) → 97 ≤ letter → letter ≤ 123 → Splits letter (get_or (0 ∷ 4 ∷ 8 ∷ 14 ∷ 19 ∷ 32 ∷ 37 ∷ 39 ∷ 41 ∷ 50 ∷ 51 ∷ 51 ∷ 55 ∷ 58 ∷ 66 ∷ 68 ∷ 78 ∷ 78 ∷ 89 ∷ 99 ∷ 111 ∷ 114 ∷ 115 ∷ 122 ∷ 124 ∷ 124 ∷ 124 ∷ []) (letter - 97) 0) reserved_words
starts-split letter low high =
    let same : 97 + (letter - 97) ≡ letter = omega arith in
    let inside : letter - 97 < 27 = omega arith in
    subst (λ n. Splits n (get_or starts (letter - 97) 0) reserved_words) same (all_split-at 97 starts reserved_words (letter - 97) all_split-starts inside)

not_letter : (letter : ℕ) → is_ascii_lowercase letter ≡ false → 97 ≤ letter → letter ≤ 122 → ⊥
not_letter letter off low high = grind (arith, nat_tests)

-- each of some words goes on with a letter
go_on : List (List ℕ) → Bool
go_on [] = true
go_on (w ∷ words) = is_ascii_lowercase (second w) && go_on words

go_on-at : (words : List (List ℕ)) (k : ℕ) → go_on words ≡ true → k < length words → is_ascii_lowercase (second (get_or words k [])) ≡ true
unfolding go_on
go_on-at [] k e inside = absurd (omega arith)
go_on-at (w ∷ words) zero e inside = (both (is_ascii_lowercase (second w)) (go_on words) e).0
go_on-at (w ∷ words) (suc k) e inside = go_on-at words k (both (is_ascii_lowercase (second w)) (go_on words) e).1 (omega arith)

reserved_go_on : go_on reserved_words ≡ true
unfolding reserved_words go_on
reserved_go_on = refl

-- a word that is none of those with its first letter is none
module _ (word : List ℕ) where
  pub no_second : (letter : ℕ) → letter ≡ second word → is_ascii_lowercase letter ≡ false → None ≡ position (bytes_eq word) reserved_words
  no_second letter is off =
      sym (position-none (bytes_eq word) reserved_words (λ k inside. false_from (bytes_eq word (get_or reserved_words k [])) (λ e.
      let same : word ≡ get_or reserved_words k [] = (bytes_eq-Decides word (get_or reserved_words k [])).0 e in
      let letters : letter ≡ second (get_or reserved_words k []) = is ∙ ap second same in
      let on : is_ascii_lowercase letter ≡ true = ap is_ascii_lowercase letters ∙ go_on-at reserved_words k reserved_go_on inside in
      let never : false ≡ true = sym off ∙ on in
      cc)))

  pub no_letter : (letter : ℕ) → letter ≡ first word → is_ascii_lowercase letter ≡ false → None ≡ position (bytes_eq word) reserved_words
  no_letter letter is off =
      let low = starts-split 97 (omega arith) (omega arith) in
      let high = starts-split 123 (omega arith) (omega arith) in
      let size = reserved_words-length in
      sym (position-none (bytes_eq word) reserved_words (λ k inside. differs word (get_or reserved_words k []) (λ e.
      let a = low.later k (omega arith) inside in
      let b = high.earlier k (omega arith) in
      absurd (not_letter letter off (omega (arith, a, e, is)) (omega (arith, b, e, is))))))

  pub no_bucket : (letter high : ℕ) → letter ≡ first word → Splits (letter + 1) high reserved_words → ((k : ℕ) → k < high → bytes_eq word (get_or reserved_words k []) ≡ false) → None ≡ position (bytes_eq word) reserved_words
  no_bucket letter high is to h =
      sym (position-none (bytes_eq word) reserved_words (λ k inside. below k inside (nat_lt k high) refl))
    where
      below : (k : ℕ) → k < length reserved_words → (b : Bool) → nat_lt k high ≡ b → bytes_eq word (get_or reserved_words k []) ≡ false
      below k inside true e = h k (grind (arith, nat_tests))
      below k inside false e = differs word (get_or reserved_words k []) (λ same. let more = to.later k (grind (arith, nat_tests)) inside in absurd (omega (arith, more, same, is)))

  pub in_bucket : (place : ℕ) → place < 124 → ((k : ℕ) → k < place → bytes_eq word (get_or reserved_words k []) ≡ false) → bytes_eq word (get_or reserved_words place []) ≡ true → Some place ≡ position (bytes_eq word) reserved_words
  in_bucket place inside h here =
      let size = reserved_words-length in
      sym (position-some (bytes_eq word) reserved_words place (omega arith) h here)
