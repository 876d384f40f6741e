use Rattle.std.proofs.Common.{◌≡◌, length, take}
use Rattle.token_words.specs.Words.{words_of}
use Rattle.token_words.proofs.words.are_words.Given as goal

-- the tokens and words so far agree
abbrev pub invariant-places : goal.invariant-places
invariant-places l =
    (length l.tokens ≡ length l.words) × (words_of l.source (take l.place l.tokens) ≡ take l.place l.words)
