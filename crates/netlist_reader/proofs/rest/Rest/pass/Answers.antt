use Rattle.token_words.specs.Words.{words_of}
use Rattle.netlist_reader.proofs.rest.Rest.pass.Goals as goal
use Rattle.netlist_reader.proofs.Words.{drop_next}

pub returns : goal.returns
returns c =
    drop_next (words_of c.self.inside.source.now c.self.inside.tokens.now) _ c.self.inside.place c.self.view_is
