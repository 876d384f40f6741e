use Rattle.std.proofs.Common.{◌+◌, ◌≡◌, ◌≤◌, arith}
use Rattle.module_nets.specs.Declarations.{width_of}
use Rattle.elaborator.proofs.OwnNets.{count_more, count_over, wide}
use Rattle.elaborator.proofs.entering.count_bits.Goals as goal

pub returns-then-count-gt-MOST_NETS : goal.returns-then-count-gt-MOST_NETS
returns-then-count-gt-MOST_NETS c =
    count_over c.args.nets.now.rows c.nets.place (c.nets.count + c.width_of-count.result)
    (count_more c.args.nets.now.rows c.nets.place c.nets.count c.width_of-count.result c.net.result c.net.ensures c.width_of-count.ensures c.nets.invariant.0) c.if-count-gt-MOST_NETS.true

pub nets-preserved : goal.nets-preserved
nets-preserved c =
    let some : 1 ≤ width_of c.net.result.range = wide c.net.result.range in
    let is : c.width_of-count.result ≡ width_of c.net.result.range = c.width_of-count.ensures in (
      count_more c.args.nets.now.rows c.nets.place c.nets.count c.width_of-count.result c.net.result c.net.ensures c.width_of-count.ensures c.nets.invariant.0,
      omega (arith, some, is, c.nets.invariant.1),
      omega (arith, c.if-count-gt-MOST_NETS.false),
    )
