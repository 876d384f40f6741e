use Rattle.link_rows.proofs.Held.{holds, holds-apart}
use Rattle.link_rows.proofs.rows.Rows.heads.Goals as goal

pub returns-clause-apart : goal.returns-clause-apart
returns-clause-apart g c =
    let arrays = c.self.inside.arrays in
    holds-apart arrays.firsts.items arrays.links.items c.args.self.now (holds _ _ _ c.self.view_is c.self.invariant)
