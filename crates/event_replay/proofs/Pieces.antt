-- How lines and words are taken off a text one by one.
use Rattle.std.proofs.Common.{◌≡◌, ◌≢◌, ℕ, zero, suc, ◌+◌, ◌<◌, ◌≤◌, ◌==◌, ◌&&◌, ltb, Bool, true, false, List, [], ◌∷◌, ◌++◌, map, filter, take, drop, get_or, length, All, refl, sym, ap, ◌∙◌, arith, take-append-drop, length-drop}
use Rattle.std.specs.List.{list_all, slice_split}
use Rattle.std.proofs.lemmas.Bool.{ne_eqb, eq-eqb, true≢false, cond-true, or_from, lt-ltb}
use Rattle.std.proofs.lemmas.List.{length-take-le, get_or-take, get_or-drop, drop_more, drop_all}
use Rattle.std.proofs.lemmas.List.Elements.{All-from_get_or}
use Rattle.std.proofs.lemmas.List.Splits.{slice_split_at, slice_split_none, slice_split-cons_yes}
use Rattle.domain_groups.specs.Lines.{IsParted, has_equals, is_equals, is_newline, is_blank, without_returns, lines, words}

-- a list is what stands before a place, what stands there, and what stands after it
split_around : (xs : List ℕ) (i : ℕ) → i < length xs → take i xs ++ get_or xs i 0 ∷ drop (i + 1) xs ≡ xs
split_around xs i inside = ap (λ l. take i xs ++ l) (sym (drop_more xs i 0 inside)) ∙ take-append-drop i xs

-- the first piece and the rest, or all in one piece
module _ (p : ℕ → Bool) where
  cut_at : (xs : List ℕ) (i : ℕ) → i < length xs → p (get_or xs i 0) ≡ true → ((k : ℕ) → k < i → p (get_or xs k 0) ≡ false) → slice_split p xs ≡ take i xs ∷ slice_split p (drop (i + 1) xs)
  cut_at xs i inside here before =
      let front : All (λ b. p b ≡ false) (take i xs) =
      All-from_get_or (λ b. p b ≡ false) (take i xs) 0 (λ k below. let less : k < i = omega (arith, length-take-le i xs (omega arith)) in ap p (get_or-take i xs k 0 less) ∙ before k less) in
      ap (slice_split p) (sym (split_around xs i inside)) ∙ slice_split_at p (take i xs) (get_or xs i 0) (drop (i + 1) xs) front here

  uncut : (xs : List ℕ) → ((k : ℕ) → k < length xs → p (get_or xs k 0) ≡ false) → slice_split p xs ≡ xs ∷ []
  uncut xs none = slice_split_none p xs (All-from_get_or (λ b. p b ≡ false) xs 0 none)

pub line_cut : (text : List ℕ) (i : ℕ) → i < length text → get_or text i 0 ≡ 10 → ((k : ℕ) → k < i → get_or text k 0 ≢ 10) → lines text ≡ without_returns (take i text) ∷ lines (drop (i + 1) text)
line_cut text i inside here before =
    ap (map without_returns) (cut_at is_newline text i inside (eq-eqb (get_or text i 0) 10 here) (λ k less. ne_eqb (get_or text k 0) 10 (before k less)))

pub line_last : (text : List ℕ) → ((k : ℕ) → k < length text → get_or text k 0 ≢ 10) → lines text ≡ without_returns text ∷ []
line_last text none = ap (map without_returns) (uncut is_newline text (λ k less. ne_eqb (get_or text k 0) 10 (none k less)))

words-blank : (b : ℕ) (bs : List ℕ) → is_blank b ≡ true → words (b ∷ bs) ≡ words bs
words-blank b bs e = ap (filter (λ word. ltb 0 (length word))) (slice_split-cons_yes is_blank b bs e)

-- blanks at the front of a line are no word
pub words_from : (line : List ℕ) (start : ℕ) → start ≤ length line → ((k : ℕ) → k < start → is_blank (get_or line k 0) ≡ true) → words line ≡ words (drop start line)
words_from line zero within blank = refl
words_from [] (suc start) within blank = refl
words_from (b ∷ bs) (suc start) within blank =
    words-blank b bs (blank 0 (omega arith)) ∙ words_from bs start (omega arith) (λ k less. blank (suc k) (omega arith))

pub no_words : (line : List ℕ) → ((k : ℕ) → k < length line → is_blank (get_or line k 0) ≡ true) → words line ≡ []
no_words line blank = words_from line (length line) (omega arith) blank ∙ ap words (drop_all (length line) line (omega arith))

pub word_cut : (line : List ℕ) (i : ℕ) → 0 < i → i < length line → is_blank (get_or line i 0) ≡ true → ((k : ℕ) → k < i → is_blank (get_or line k 0) ≡ false) → words line ≡ take i line ∷ words (drop i line)
word_cut line i some inside here before =
    let bytes : 0 < length (take i line) = omega (arith, length-take-le i line (omega arith)) in
    ap (filter (λ word. ltb 0 (length word))) (cut_at is_blank line i inside here before)
    ∙ cond-true (ltb 0 (length (take i line))) _ _ (lt-ltb 0 (length (take i line)) bytes)
    ∙ ap (λ rest. take i line ∷ rest) (sym (words-blank (get_or line i 0) (drop (i + 1) line) here) ∙ ap words (sym (drop_more line i 0 inside)))

pub word_last : (line : List ℕ) → 0 < length line → ((k : ℕ) → k < length line → is_blank (get_or line k 0) ≡ false) → words line ≡ line ∷ words []
word_last line some none =
    ap (filter (λ word. ltb 0 (length word))) (uncut is_blank line none)
    ∙ cond-true (ltb 0 (length line)) _ _ (lt-ltb 0 (length line) some)

pub none_past : (xs : List ℕ) → ((k : ℕ) → k < length xs → get_or xs k 0 ≢ 61) → has_equals xs ≡ false
none_past [] h = refl
none_past (x ∷ xs) h = or_from (is_equals x) (has_equals xs) (ne_eqb x 61 (h 0 (omega arith))) (none_past xs (λ k below. h (suc k) (omega arith)))

-- a word is parted at its last `=`
pub parted : (word : List ℕ) (i : ℕ) → i < length word → get_or word i 0 ≡ 61 → ((k : ℕ) → i + 1 ≤ k → k < length word → get_or word k 0 ≢ 61) → IsParted word (take i word) (drop (i + 1) word)
parted word i inside here after = record {
  parts = sym (ap (λ b. take i word ++ b ∷ drop (i + 1) word) (sym here) ∙ split_around word i inside);
  last = none_past (drop (i + 1) word) (λ k below.
      let there = get_or-drop (i + 1) word k 0 in let differs = after (i + 1 + k) (omega arith) (omega (arith, length-drop (i + 1) word)) in rw there differs);
}

-- a line of blanks
pub all_blank : (line : List ℕ) → ((k : ℕ) → k < length line → is_blank (get_or line k 0) ≡ true) → list_all is_blank line ≡ true
all_blank [] h = refl
all_blank (b ∷ bs) h = ap (λ t. t && list_all is_blank bs) (h 0 (omega arith)) ∙ all_blank bs (λ k below. h (suc k) (omega arith))

-- a blank is not at the front of a line that does not begin with one
pub after_first : (line : List ℕ) (i : ℕ) → is_blank (get_or line i 0) ≡ true → is_blank (get_or line 0 0) ≡ false → 0 < i
after_first line zero here first = absurd (true≢false (sym here ∙ first))
after_first line (suc i) here first = omega arith
