use Rattle.cycle_sim.proofs.Levels.{still_passes, still_level, now_shown}
use Rattle.cycle_sim.proofs.passes.settle_all.Goals as goal

pub returns-clause-passes : goal.returns-clause-passes
returns-clause-passes c = still_passes c.args.results.now c.args.passes.now c.settle_each.new.passes c.requires.passes c.settle_each.ensures

pub returns-clause-level : goal.returns-clause-level
returns-clause-level c = still_level c.args.results.now c.args.passes.now c.settle_each.new.passes c.requires.passes c.settle_each.ensures

pub returns-clause-shown : goal.returns-clause-shown
returns-clause-shown c = now_shown c.args.results.now c.args.passes.now c.settle_each.new.passes c.requires.passes c.settle_each.ensures c.requires.chips

pub settle_each-requires : goal.settle_each-requires
settle_each-requires c place s at = (c.requires.passes.each place s at).others
