use Rattle.std.proofs.Common.{◌-◌, max, length}
use Rattle.link_rows.specs.Rows.{with_more}
use Rattle.link_rows.proofs.Held.{Holds, holds, holds-same, holds-grown, holds-invariant, holds-view, holds-seen_apart}
use Rattle.link_rows.proofs.rows.Rows.reserve.Given.{Over}
use Rattle.link_rows.proofs.rows.Rows.reserve.Goals as goal

pub returns-in_err-grow-clause-apart : goal.returns-in_err-grow-clause-apart
returns-in_err-grow-clause-apart g c =
    let v = c.args.self.now in
    let new = c.grow.new.self in
    holds-seen_apart _ _ v (holds-same _ _ v (holds _ _ v c.self.view_is c.self.invariant) new.firsts.items new.links.items c.in_err-grow.ensures.firsts_kept c.in_err-grow.ensures.links_kept)

-- the arrays hold the lists with more empty ones
after : (g : Over) (c : goal.In_ok-grow g) → Holds c.grow.new.self.firsts.items c.grow.new.self.links.items (record {
  lists = with_more c.args.self.now.lists (c.args.heads - length c.args.self.now.lists);
  items = max c.args.items c.args.self.now.items;
})
after g c =
    let v = c.args.self.now in
    let new = c.grow.new.self in
    holds-grown _ _ v (holds _ _ v c.self.view_is c.self.invariant) c.args.heads c.args.items new.firsts.items new.links.items c.ranges.heads.fits c.ranges.items.fits c.in_ok-grow.ensures.firsts c.in_ok-grow.ensures.links

pub invariant_of-self-2 : goal.invariant_of-self-2
invariant_of-self-2 g c = holds-invariant _ _ _ (after g c)

pub returns-clause-ok : goal.returns-clause-ok
returns-clause-ok g c = holds-view _ _ _ (after g c)

pub returns-clause-apart : goal.returns-clause-apart
returns-clause-apart g c = holds-seen_apart _ _ _ (after g c)
