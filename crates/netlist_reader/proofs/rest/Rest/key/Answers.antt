use Rattle.netlist_reader.proofs.rest.Rest.key.Goals as goal
use Rattle.netlist_reader.proofs.Words.{key_there, no_key}

pub returns-in-Keyword : goal.returns-in-Keyword
returns-in-Keyword c =
    key_there c.self.inside.source.now c.self.inside.tokens.now c.self.inside.place _ _ _ c.self.view_is c.token.ensures c.in-Keyword.is

pub returns-in_default : goal.returns-in_default
returns-in_default c =
    no_key c.self.inside.source.now c.self.inside.tokens.now c.self.inside.place _ c.self.view_is c.token.result c.token.ensures c.in_default.not-Keyword
