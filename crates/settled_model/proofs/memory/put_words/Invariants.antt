-- The words that are left, put to the table, make the whole table.
use Rattle.std.proofs.Common.{◌≡◌, ℕ, drop, length}
use Rattle.std.specs.Prelude.{unwrap_or}
use Rattle.design_core.specs.Valuation.{IsAddress}
use Rattle.settled_model.specs.Held.{word_in}
use Rattle.settled_model.specs.Opening.{word_given}
use Rattle.settled_model.proofs.memory.put_words.Given as goal

abbrev pub invariant-words : goal.invariant-words
invariant-words l = record {
  rest : (m a : ℕ) → IsAddress l.design m a
      → unwrap_or (word_given (drop l.word-index l.given) m a) (word_in l.design l.words m a) ≡ unwrap_or (word_given l.given m a) (word_in l.design l.initial.words m a);
  size : length l.words ≡ length l.initial.words;
}
