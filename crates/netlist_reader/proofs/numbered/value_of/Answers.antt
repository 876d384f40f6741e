use Rattle.std.proofs.Common.{rules}
use Rattle.std.proofs.lemmas.Str.Parse.{digit_at}
use Rattle.netlist_reader.proofs.numbered.value_of.Goals as goal
use Rattle.netlist_reader.proofs.Digits.{more, too_large}

pub returns-then-not-is_ascii_digit : goal.returns-then-not-is_ascii_digit
returns-then-not-is_ascii_digit c = λ all small.
    let range = digit_at c.args.digits.now c.digits.digit-index all c.digits-test.true in
    search rules

pub returns-then-value-from : goal.returns-then-value-from
returns-then-value-from c =
    too_large c.args.digits.now c.digits.digit-index c.digits.value c.from.result c.digits-test.true (search rules) c.from.ensures c.digits.invariant.1 (search rules)

pub digits-preserved : goal.digits-preserved
digits-preserved c =
    more c.args.digits.now c.digits.digit-index c.digits.value c.from.result c.digits-test.true (search rules) c.from.ensures c.digits.invariant (search rules)
