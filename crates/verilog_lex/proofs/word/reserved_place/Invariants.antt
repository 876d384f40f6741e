-- No earlier reserved word is the word.
use Rattle.std.proofs.Common.{◌≡◌, ℕ, ◌<◌, get_or, [], false, bytes_eq}
use Rattle.verilog_lex.specs.Words.{reserved_words}
use Rattle.verilog_lex.proofs.word.reserved_place.Given as goal

abbrev pub invariant-loop-place : goal.invariant-loop-place
invariant-loop-place l = (j : ℕ) → j < l.place → bytes_eq l.word (get_or reserved_words j []) ≡ false
