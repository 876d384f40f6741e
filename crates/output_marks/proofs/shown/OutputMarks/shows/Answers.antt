-- The table of the chip tells of the net.
use Rattle.std.proofs.Common.{◌≤◌, length, subst, false, arith}
use Rattle.output_marks.specs.Shown.{HasShown, OutputCase}
use Rattle.output_marks.proofs.OfChips.{far_net, net_shown}
use Rattle.output_marks.proofs.shown.OutputMarks.shows.Goals as goal

pub returns-then-net-len : goal.returns-then-net-len
returns-then-net-len c =
    let past : length c.get-shown.result.now ≤ c.from-net.result = omega (arith, c.len-2.ensures, c.if-net-len.true) in
    subst (λ (s : OutputCase). HasShown s.design s.results c.args.spot false) c.self.view_is
    (far_net c.self.inside.design.now c.self.inside.results.now c.stand.ensures.netlist _ c.self.invariant c.args.spot _ _ c.from-chip.ensures c.from-net.ensures _ c.get-shown.ensures past)

pub returns : goal.returns
returns c =
    subst (λ (s : OutputCase). HasShown s.design s.results c.args.spot c.get.result.now) c.self.view_is
    (net_shown c.self.inside.design.now c.self.inside.results.now c.stand.ensures.netlist _ c.self.invariant c.args.spot _ _ c.from-chip.ensures c.from-net.ensures _ c.get-shown.ensures c.get.result.now c.get.ensures)
