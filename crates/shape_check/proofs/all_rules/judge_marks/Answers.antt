-- The rules from A10 on, each granted those before it.
use Rattle.std.proofs.Common.{arith, refl}
use Rattle.emu_machine.specs.declared.rule.Rule.TheVariants.{A2, A4, A5, A9, A10, A11}
use Rattle.shape_check.specs.Influences.{inside_of}
use Rattle.shape_check.proofs.Judged.{and_fails, and_next, at_first}
use Rattle.shape_check.proofs.all_rules.judge_marks.Goals as goal

pub find_a10-requires : goal.find_a10-requires
find_a10-requires c = record { frames = c.requires (inside_of c.args.influences.now) A4 (omega arith) }

pub find_a11-requires-clause-cycles : goal.find_a11-requires-clause-cycles
find_a11-requires-clause-cycles c = c.requires (inside_of c.args.influences.now) A2 (omega arith)

pub find_a11-requires-clause-frames : goal.find_a11-requires-clause-frames
find_a11-requires-clause-frames c = c.requires (inside_of c.args.influences.now) A4 (omega arith)

pub find_a11-requires-clause-actions : goal.find_a11-requires-clause-actions
find_a11-requires-clause-actions c = c.requires (inside_of c.args.influences.now) A5 (omega arith)

pub find_a12-requires-clause-cycles : goal.find_a12-requires-clause-cycles
find_a12-requires-clause-cycles c = c.requires (inside_of c.args.influences.now) A2 (omega arith)

pub find_a12-requires-clause-mapped : goal.find_a12-requires-clause-mapped
find_a12-requires-clause-mapped c = c.requires (inside_of c.args.influences.now) A9 (omega arith)

pub returns-in-Some : goal.returns-in-Some
returns-in-Some c =
    and_fails c.args.case.now (inside_of c.args.influences.now) 10 A10 c.find_a10.result c.in-Some.place refl (at_first c.args.case.now (inside_of c.args.influences.now) c.requires) c.find_a10.ensures c.in-Some.is

pub returns-in-Some-2 : goal.returns-in-Some-2
returns-in-Some-2 c =
    and_fails c.args.case.now (inside_of c.args.influences.now) 11 A11 c.in_ok-place.field-0 c.in-Some-2.place refl
    (and_next c.args.case.now (inside_of c.args.influences.now) 10 A10 c.find_a10.result refl (at_first c.args.case.now (inside_of c.args.influences.now) c.requires) c.find_a10.ensures c.in_default.is)
    c.in_ok-place.ensures c.in-Some-2.is
