-- Steps over white space, comments and attributes.
use Rattle.std.proofs.Common.{◌≡◌, ℕ, zero, suc, ◌+◌, ◌-◌, ◌<◌, ◌≤◌, Bool, true, false, ◌==◌, ◌&&◌, List, [], ◌∷◌, length, take, drop, length-drop, Option, Some, None, option_map, if◌then◌else◌, get_or, not, ◌∙◌, refl, ap, sym, arith}
use Rattle.std.proofs.lemmas.Bool.Decides.{nat_tests}
use Rattle.std.proofs.lemmas.Grind.{common_steps}
use Rattle.std.proofs.lemmas.List.{drop_more, drop-drop, get_or-drop}
use Rattle.verilog_lex.specs.declared.bytes.Class.TheVariants.{White, Line}
use Rattle.verilog_lex.specs.Bytes.{is_white, run, first, second}
use Rattle.verilog_lex.specs.Blanks.{comment_len, attribute_len, blank_len, after_blanks}

-- what holds of the number in each branch of a choice holds of the number chosen
pub chosen : (P : ℕ → Type 0) (b : Bool) (x y : Option ℕ) → (b ≡ true → (n : ℕ) → x ≡ Some n → P n) → ((n : ℕ) → y ≡ Some n → P n) → (n : ℕ) → (if b then x else y) ≡ Some n → P n
chosen P true x y f g n e = f refl n e
chosen P false x y f g n e = g n e

mapped_positive : (o : Option ℕ) (n : ℕ) → option_map (λ k. k + 2) o ≡ Some n → 0 < n
mapped_positive None n e = absurd (cc)
mapped_positive (Some k) n e = let same : k + 2 ≡ n = cc in omega (arith, same)

white_positive : (text : List ℕ) → is_white (first text) ≡ true → 0 < run White text
white_positive [] e = absurd (cc)
white_positive (b ∷ rest) e = rw e (omega arith)

line_positive : (text : List ℕ) → (first text == 47 && second text == 47) ≡ true → 0 < run Line text
line_positive [] e = absurd (cc)
line_positive (b ∷ rest) e = grind (arith, nat_tests)

none_positive : (n : ℕ) → ◌≡◌ {A = Option ℕ} None (Some n) → 0 < n
none_positive n e = absurd (cc)

some_same : (k n : ℕ) → Some k ≡ Some n → 0 < k → 0 < n
some_same k n e h = let same : k ≡ n = cc in omega (arith, same)

-- white space, a comment and an attribute have a byte
pub blank_len-positive : (text : List ℕ) (n : ℕ) → blank_len text ≡ Some n → 0 < n
unfolding blank_len
blank_len-positive text =
    let P : ℕ → Type 0 = λ n. 0 < n in
    chosen P _ _ _ (λ white n e. some_same _ n e (white_positive text white))
    (chosen P _ _ _ (λ line n e. some_same _ n e (line_positive text line))
    (chosen P _ _ _ (λ _ n e. mapped_positive (comment_len (drop 2 text)) n e)
    (chosen P _ _ _ (λ _ n e. mapped_positive (attribute_len false (drop 2 text)) n e)
    none_positive)))

pub after_blanks-drop : (k : ℕ) (text : List ℕ) → after_blanks k text ≡ after_blanks 0 (drop k text)
after_blanks-drop zero text = refl
after_blanks-drop (suc k) [] = refl
after_blanks-drop (suc k) (b ∷ rest) = after_blanks-drop k rest

pub after_blanks-some : (text : List ℕ) (n : ℕ) → blank_len text ≡ Some n → 0 < n → after_blanks 0 (drop n text) ≡ after_blanks 0 text
after_blanks-some [] zero e h = refl
after_blanks-some [] (suc n) e h = refl
after_blanks-some (b ∷ rest) zero e h = absurd (omega arith)
after_blanks-some (b ∷ rest) (suc n) e h =
    let back : suc n - 1 ≡ n = omega arith in
    rw (e, back) (sym (after_blanks-drop n rest))

pub after_blanks-none : (text : List ℕ) → blank_len text ≡ None → after_blanks 0 text ≡ text
after_blanks-none [] e = refl
after_blanks-none (b ∷ rest) e = rw e refl

map_shift : (o : Option ℕ) (a at : ℕ) → option_map (λ n. n + at) (option_map (λ n. n + a) o) ≡ option_map (λ n. n + (at + a)) o
map_shift None a at = refl
map_shift (Some n) a at = ap (λ (k : ℕ). Some k) (omega arith)

escape : (b at : ℕ) (rest : List ℕ) → b ≡ 92 → option_map (λ n. n + at) (attribute_len true (b ∷ rest)) ≡ option_map (λ n. n + (at + 2)) (attribute_len true (drop 1 rest))
escape b at [] e = refl
escape b at (c ∷ rest) e = rw e (map_shift (attribute_len true rest) 2 at)

inside : (b at : ℕ) (rest : List ℕ) → (b == 92) ≡ false → option_map (λ n. n + at) (attribute_len true (b ∷ rest)) ≡ option_map (λ n. n + (at + 1)) (attribute_len (not (b == 34)) rest)
inside b at [] e = last (not (b == 34))
  where
    last : (quoted : Bool) → None ≡ option_map (λ n. n + (at + 1)) (attribute_len quoted [])
    last true = refl
    last false = refl
inside b at (c ∷ rest) e = rw e (map_shift (attribute_len (not (b == 34)) (c ∷ rest)) 1 at)

outside : (b at : ℕ) (rest : List ℕ) → (b == 42 && first rest == 41) ≡ false → option_map (λ n. n + at) (attribute_len false (b ∷ rest)) ≡ option_map (λ n. n + (at + 1)) (attribute_len (b == 34) rest)
outside b at rest e = rw e (map_shift (attribute_len (b == 34) rest) 1 at)

closed : (b at : ℕ) (rest : List ℕ) → (b == 42 && first rest == 41) ≡ true → option_map (λ n. n + at) (attribute_len false (b ∷ rest)) ≡ Some (at + 2)
closed b at rest e = rw e (ap (λ (k : ℕ). Some k) (omega arith))

both_off : (a b : ℕ) → (a ≡ 42 → b ≡ 41 → ⊥) → (a == 42 && b == 41) ≡ false
both_off a b h = grind (arith, nat_tests)

-- the attribute that is left, one step on
module _ (text : List ℕ) (at : ℕ) (quoted : Bool) (whole : Option ℕ) (room : at < length text) (is : option_map (λ n. n + at) (attribute_len quoted (drop at text)) ≡ whole) where
  front : drop at text ≡ get_or text at 0 ∷ drop (at + 1) text
  front = drop_more text at 0 room

  pub attribute-escape : quoted ≡ true → get_or text at 0 ≡ 92 → option_map (λ n. n + (at + 2)) (attribute_len quoted (drop (at + 2) text)) ≡ whole
  attribute-escape q e =
      let now = rw (front, q) at is in
      let two : drop 1 (drop (at + 1) text) ≡ drop (at + 2) text = rw drop-drop (ap (λ k. drop k text) (omega arith)) in
      rw (q, ← two) (sym (escape (get_or text at 0) at (drop (at + 1) text) e) ∙ now)

  pub attribute-inside : quoted ≡ true → ¬ (get_or text at 0 ≡ 92) → option_map (λ n. n + (at + 1)) (attribute_len (not (get_or text at 0 == 34)) (drop (at + 1) text)) ≡ whole
  attribute-inside q e =
      let now = rw (front, q) at is in
      let off : (get_or text at 0 == 92) ≡ false = grind (arith, nat_tests) in
      sym (inside (get_or text at 0) at (drop (at + 1) text) off) ∙ now

  second_is : first (drop (at + 1) text) ≡ get_or text (at + 1) 0
  second_is = rw get_or-drop (ap (λ k. get_or text k 0) (omega arith))

  pub attribute-outside : quoted ≡ false → (get_or text at 0 ≡ 42 → get_or text (at + 1) 0 ≡ 41 → ⊥) → option_map (λ n. n + (at + 1)) (attribute_len (get_or text at 0 == 34) (drop (at + 1) text)) ≡ whole
  attribute-outside q e =
      let now = rw (front, q) at is in
      let two = second_is in
      let off : (get_or text at 0 == 42 && first (drop (at + 1) text) == 41) ≡ false = rw two (both_off _ _ e) in
      sym (outside (get_or text at 0) at (drop (at + 1) text) off) ∙ now

  pub attribute-closed : quoted ≡ false → get_or text at 0 ≡ 42 → get_or text (at + 1) 0 ≡ 41 → Some (at + 2) ≡ whole
  attribute-closed q star bracket =
      let now = rw (front, q) at is in
      let two = second_is in
      let on : (get_or text at 0 == 42 && first (drop (at + 1) text) == 41) ≡ true = rw (two, star, bracket) refl in
      sym (closed (get_or text at 0) at (drop (at + 1) text) on) ∙ now

-- the text after one more blank, as a slice of the text before it
pub after_blanks-step : (rest : List ℕ) (n size : ℕ) (whole : List ℕ) → Some n ≡ blank_len rest → n ≤ length rest → (length rest ≤ size) × (after_blanks 0 rest ≡ whole) → (length (take (length rest - n) (drop n rest)) ≤ size) × (after_blanks 0 (take (length rest - n) (drop n rest)) ≡ whole)
after_blanks-step rest n size whole e fits so_far =
    let same : take (length rest - n) (drop n rest) ≡ drop n rest = grind (arith, common_steps) in
    rw same (simp length-drop (omega arith), after_blanks-some rest n (sym e) (blank_len-positive rest n (sym e)) ∙ so_far.1)

pub ruleset blank_steps = (blank_len-positive, after_blanks-some, after_blanks-none)
