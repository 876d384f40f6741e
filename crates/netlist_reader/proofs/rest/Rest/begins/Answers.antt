use Rattle.token_words.specs.Words.{words_of}
use Rattle.netlist_reader.proofs.rest.Rest.begins.Goals as goal
use Rattle.netlist_reader.proofs.Words.{begins_is}

pub returns-then-self : goal.returns-then-self
returns-then-self c =
    begins_is (words_of c.self.inside.source.now c.self.inside.tokens.now) c.self.inside.place _ _ _ c.self.view_is c.is_word_at.ensures
