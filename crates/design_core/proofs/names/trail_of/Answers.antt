use Rattle.std.proofs.Common.{sym, arith}
use Rattle.design_core.proofs.Outwards.{ends, goes_on, outer_below, still_scopes}
use Rattle.design_core.proofs.names.trail_of.Goals as goal

pub outwards-smaller : goal.outwards-smaller
outwards-smaller c =
    outer_below c.args.scopes.now c.outwards.place c.in-Some.parent c.outwards.invariant.there c.requires.outward (sym c.in-Some.ensures)

pub outwards-preserved : goal.outwards-preserved
outwards-preserved c =
    let scopes = c.args.scopes.now in
    let there = c.outwards.invariant.there in
    let below = outer_below scopes c.outwards.place c.in-Some.parent there c.requires.outward (sym c.in-Some.ensures) in
    record {
      there = omega arith;
      trail = goes_on scopes c.args.from c.outwards.place c.in-Some.parent c.outwards.trail.items c.push.new.self.items there c.in_ok-push.ensures.items (sym c.in-Some.ensures) c.outwards.invariant.trail;
      scopes = still_scopes scopes c.outwards.trail.items c.push.new.self.items c.outwards.place c.in_ok-push.ensures.items there c.outwards.invariant.scopes;
    }

pub returns-clause-trail : goal.returns-clause-trail
returns-clause-trail c =
    ends c.args.scopes.now c.args.from c.outwards.place c.outwards.trail.items c.outwards.invariant.there (sym c.in_default.ensures) c.outwards.invariant.trail
