use Rattle.netlist_reader.proofs.rest.Rest.name.Goals as goal
use Rattle.netlist_reader.proofs.Words.{tells_name}

pub returns : goal.returns
returns c =
    tells_name c.self.inside.source.now c.self.inside.tokens.now c.self.inside.place _ _ c.self.view_is c.name_at.ensures
