use Rattle.std.proofs.Common.{sym, ◌∙◌}
use Rattle.std.proofs.lemmas.List.{length-map}
use Rattle.token_words.specs.Words.{word_of, words_of}
use Rattle.result_files.proofs.rest.Rest.is_empty.Goals as goal
use Rattle.result_files.proofs.Words.{is_end}

pub returns : goal.returns
returns c =
    is_end (words_of c.self.inside.source.now c.self.inside.tokens.now) c.self.inside.place c.self.inside.count _ c.self.view_is
    (c.self.invariant.1 ∙ sym (length-map c.self.inside.tokens.now (word_of c.self.inside.source.now)))
