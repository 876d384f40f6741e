use Rattle.std.proofs.Common.{subst}
use Rattle.chip_pass.specs.Chips.{ChipHasSettled}
use Rattle.chip_pass.proofs.Passes.{chip_settled}
use Rattle.chip_pass.proofs.pass.ChipPass.settle_counted.Goals as goal

pub returns-clause-settled : goal.returns-clause-settled
returns-clause-settled g c =
    subst
    (λ s. ChipHasSettled (g.R.ChipRule.gives c.args.rule.now) g.T.NetValue.none s
    (record { chip = c.self.inside.chip.now; order = c.self.inside.order.order; pass = c.settle_counted.new.self }))
    c.self.view_is
    (chip_settled (g.R.ChipRule.gives c.args.rule.now) g.T.NetValue.none
    (record { chip = c.self.inside.chip.now; order = c.self.inside.order.order; pass = c.self.inside.pass })
    c.settle_counted.new.self c.self.invariant c.settle_counted.ensures.settled)
