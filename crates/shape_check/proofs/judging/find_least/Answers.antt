-- Each rule has its function, and is granted those before it.
use Rattle.std.proofs.Common.{refl, arith}
use Rattle.emu_machine.specs.declared.rule.Rule.TheVariants.{A1, A2, A3, A4, A5, A6, A7, A8, A9}
use Rattle.shape_check.proofs.Ordered.{granted, finds, finds_told}
use Rattle.shape_check.proofs.judging.find_least.Goals as goal

pub returns-in-A1 : goal.returns-in-A1
returns-in-A1 c = finds c.args.case.now A1 c.args.rule c.find_a1.result c.in-A1.is (λ inside. c.find_a1.ensures)

pub returns-in-A3 : goal.returns-in-A3
returns-in-A3 c = finds c.args.case.now A3 c.args.rule c.find_a3.result c.in-A3.is (λ inside. c.find_a3.ensures)

pub returns-in-A4 : goal.returns-in-A4
returns-in-A4 c = finds c.args.case.now A4 c.args.rule c.find_a4.result c.in-A4.is (λ inside. c.find_a4.ensures)

pub returns-in-A5 : goal.returns-in-A5
returns-in-A5 c = finds c.args.case.now A5 c.args.rule c.find_a5.result c.in-A5.is (λ inside. c.find_a5.ensures)

pub returns-in-A7 : goal.returns-in-A7
returns-in-A7 c = finds c.args.case.now A7 c.args.rule c.find_a7.result c.in-A7.is (λ inside. c.find_a7.ensures)

pub returns-in-A8 : goal.returns-in-A8
returns-in-A8 c = finds c.args.case.now A8 c.args.rule c.find_a8.result c.in-A8.is (λ inside. c.find_a8.ensures)

pub returns-in-A2 : goal.returns-in-A2
returns-in-A2 c = finds_told c.args.case.now A2 c.args.rule c.find_a2.result c.in-A2.is (λ inside. c.find_a2.ensures)

pub returns-in-A6 : goal.returns-in-A6
returns-in-A6 c = finds_told c.args.case.now A6 c.args.rule c.find_a6.result c.in-A6.is (λ inside. c.find_a6.ensures)

pub returns-in-A9 : goal.returns-in-A9
returns-in-A9 c = finds_told c.args.case.now A9 c.args.rule c.find_a9.result c.in-A9.is (λ inside. c.find_a9.ensures)

pub find_a5-requires : goal.find_a5-requires
find_a5-requires c = record { frames = granted c.args.case.now c.args.rule A5 4 c.requires.before c.in-A5.is (omega arith) A4 refl }

pub find_a8-requires : goal.find_a8-requires
find_a8-requires c = record { frames = granted c.args.case.now c.args.rule A8 4 c.requires.before c.in-A8.is (omega arith) A4 refl }

pub find_a6-requires-clause-chips : goal.find_a6-requires-clause-chips
find_a6-requires-clause-chips c = granted c.args.case.now c.args.rule A6 1 c.requires.before c.in-A6.is (omega arith) A1 refl

pub find_a6-requires-clause-frames : goal.find_a6-requires-clause-frames
find_a6-requires-clause-frames c = granted c.args.case.now c.args.rule A6 4 c.requires.before c.in-A6.is (omega arith) A4 refl

pub find_a6-requires-clause-actions : goal.find_a6-requires-clause-actions
find_a6-requires-clause-actions c = granted c.args.case.now c.args.rule A6 5 c.requires.before c.in-A6.is (omega arith) A5 refl
