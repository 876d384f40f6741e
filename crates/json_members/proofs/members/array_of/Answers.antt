use Rattle.std.proofs.Common.{sym, arith}
use Rattle.serde_json.specs.View.{view}
use Rattle.json_members.proofs.Lists.{short_is_one, long_is_none}
use Rattle.json_members.proofs.members.array_of.Goals as goal

pub returns-then-len-from-clause-value : goal.returns-then-len-from-clause-value
returns-then-len-from-clause-value c =
    sym (long_is_none (view c.args.value.now) c.in_ok-items.items.now.items (sym c.in_ok-items.ensures) (omega arith))

pub returns-clause-value : goal.returns-clause-value
returns-clause-value c =
    rw c.as_slice.ensures.value (sym (short_is_one (view c.args.value.now) c.in_ok-items.items.now.items (sym c.in_ok-items.ensures) (omega arith)))
