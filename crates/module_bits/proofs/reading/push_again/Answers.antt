use Rattle.std.proofs.Common.{rules}
use Rattle.module_bits.proofs.Pushing.{again_next}
use Rattle.module_bits.proofs.reading.push_again.Goals as goal

pub items-preserved : goal.items-preserved
items-preserved c = (
  search rules,
  search rules,
  again_next c.args.out.now c.items.out c.push.new.self c.args.start c.args.end c.items.place c.get-item.result.now
      c.requires.1 c.items.invariant.0 (search rules) c.items.invariant.2 c.get-item.ensures c.in_ok-push.ensures.ok,
)
