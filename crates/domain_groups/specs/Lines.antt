-- The lines of a text of events, and the words of a line.
-- The rule is told in docs/FORMATS.md, "Openings and events".
use Rattle.std.specs.Prelude.{◌≡◌, ℕ, ◌-◌, ◌==◌, ◌||◌, ◌&&◌, nat_le, nat_lt, Bool, false, not, List, [], ◌∷◌, ◌++◌, map, filter, take, drop, length}
use Rattle.std.specs.List.{list_all, list_any, enumerate_from, slice_split, suffix_len}

abbrev pub is_newline : ℕ → Bool
is_newline b = b == 10

abbrev pub is_return : ℕ → Bool
is_return b = b == 13

-- a space or a tab
abbrev pub is_blank : ℕ → Bool
is_blank b = b == 32 || b == 9

-- a byte that may stand in the line of an event: a tab, or one from the space to the tilde
abbrev pub is_plain : ℕ → Bool
is_plain b = b == 9 || (nat_le 32 b && nat_le b 126)

-- a line without the carriage returns at its end
abbrev pub without_returns : List ℕ → List ℕ
without_returns line = take (length line - suffix_len is_return line) line

-- The lines of a text: what stands between its newlines, and before the first and after the last. After
-- a newline at the end stands a line without bytes.
abbrev pub lines : List ℕ → List (List ℕ)
lines text = map without_returns (slice_split is_newline text)

-- whether the first byte is `#`
abbrev pub is_comment : List ℕ → Bool
is_comment [] = false
is_comment (b ∷ bs) = b == 35

-- a line that tells no event: one of spaces and tabs alone, or a comment
abbrev pub is_passed_over : List ℕ → Bool
is_passed_over line = list_all is_blank line || is_comment line

-- The lines that tell events, each with its number. All lines are counted, from 1, those that are passed over
-- too.
abbrev pub event_lines : List ℕ → List (ℕ × List ℕ)
event_lines text = filter (λ (number, line). not (is_passed_over line)) (enumerate_from 1 (lines text))

-- the words of a line: what stands between spaces and tabs, where it has a byte
abbrev pub words : List ℕ → List (List ℕ)
words line = filter (λ word. nat_lt 0 (length word)) (slice_split is_blank line)

abbrev pub is_equals : ℕ → Bool
is_equals b = b == 61

-- whether a word holds `=`
abbrev pub has_equals : List ℕ → Bool
has_equals word = list_any is_equals word

-- a bad line: it has a byte that none may have, or a word behind the first that holds no `=`
abbrev pub is_bad : List ℕ → Bool
is_bad line = not (list_all is_plain line && list_all has_equals (drop 1 (words line)))

-- A word `NAME=DIGITS` is parted at its last `=`, which is 61.
pub record IsParted (word name digits : List ℕ) : Type 0 where
  pub parts : word ≡ name ++ 61 ∷ digits
  pub last : has_equals digits ≡ false
