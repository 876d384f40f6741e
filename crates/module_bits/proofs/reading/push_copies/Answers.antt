use Rattle.std.proofs.Common.{rules}
use Rattle.module_bits.proofs.Pushing.{copies_next, copies_within}
use Rattle.module_bits.proofs.reading.push_copies.Goals as goal

pub push_again-requires : goal.push_again-requires
push_again-requires c = (
  search rules,
  copies_within c.args.out.now c.copies.out c.args.start c.len-end.result c.copies.counter c.len-end.ensures c.copies.invariant,
)

pub copies-preserved : goal.copies-preserved
copies-preserved c =
    copies_next c.args.out.now c.copies.out c.push_again.new.out c.args.start c.len-end.result c.copies.counter c.len-end.ensures (search rules) c.copies.invariant c.in_ok-push_again.ensures
