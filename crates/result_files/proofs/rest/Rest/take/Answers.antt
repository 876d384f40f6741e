use Rattle.std.proofs.Common.{rules}
use Rattle.token_words.specs.Words.{words_of}
use Rattle.result_files.proofs.rest.Rest.take.Goals as goal
use Rattle.result_files.proofs.Words.{passed}

pub returns-clause-takes : goal.returns-clause-takes
returns-clause-takes c =
    passed (words_of c.self.inside.source.now c.self.inside.tokens.now) c.self.inside.place _ _ c.self.view_is (c.begins.ensures.0 (search rules))
