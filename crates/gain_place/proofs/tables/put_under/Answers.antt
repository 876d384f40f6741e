use Rattle.std.proofs.Common.{rules, ◌+◌, ℕ, List, take, sym, subst}
use Rattle.gain_place.specs.Lists.{HasUnder}
use Rattle.gain_place.proofs.Filled.{put_one}
use Rattle.gain_place.proofs.tables.put_under.Goals as goal

pub heads-preserved : goal.heads-preserved
heads-preserved c =
    let i : ℕ = c.heads.head-index in
    subst (λ (table : List (List ℕ)). HasUnder (take (i + 1) c.args.heads.now) c.args.number c.args.table.now.items table)
    (sym c.in_ok-put_once.ensures)
    (put_one c.args.table.now.items c.heads.table.items c.args.heads.now c.args.number i c.requires.fresh (search rules) (search rules) c.heads.invariant)
