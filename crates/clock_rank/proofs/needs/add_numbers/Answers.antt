use Rattle.std.proofs.Common.{◌+◌, refl}
use Rattle.clock_rank.proofs.Steps.{range_more}
use Rattle.clock_rank.proofs.needs.add_numbers.Goals as goal

pub numbers-preserved : goal.numbers-preserved
numbers-preserved c =
    range_more (λ k. c.args.start + k) c.args.row.now.items c.numbers.row.items _ c.numbers.k _ c.numbers.invariant c.in_ok-push.ensures.items refl
