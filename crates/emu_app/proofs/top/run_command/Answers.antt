use Rattle.std.proofs.Common.{List, ℕ, Ok, subst}
use Rattle.emu_app.specs.declared.answer.Answer.{Answer}
use Rattle.emu_app.specs.declared.ending.Ending.{Ending}
use Rattle.emu_app.specs.Answers.{Comes, CommandMeans, IsTraced}
use Rattle.emu_app.proofs.Endings.{answered_ends}
use Rattle.emu_app.proofs.top.run_command.Goals as goal

pub returns-in-Ok-Answered-clause-ends : goal.returns-in-Ok-Answered-clause-ends
returns-in-Ok-Answered-clause-ends g c =
    let Means : Answer → Type 0 = CommandMeans (g.F.Files.held c.args.files.now) (g.F.Files.read_faults c.args.files.now) (g.F.Files.read_faults c.answer.new.files) (g.F.Files.blamed c.answer.new.files) c.args.words.now in
    let Runs : List ℕ → Type 0 = IsTraced (g.F.Files.held c.args.files.now) c.args.words.now in
    answered_ends Means Runs c.in-Ok-Answered.found
    (g.O.Sink.written c.args.out.now) (g.O.Sink.written c.answer.new.out) (g.O.Sink.written c.print.new.out)
    (g.O.Sink.faults c.args.out.now) (g.O.Sink.faults c.answer.new.out) (g.O.Sink.faults c.print.new.out) c.print.result
    (subst (λ (ended : Ending). Comes Means Runs (g.O.Sink.written c.args.out.now) (g.O.Sink.written c.answer.new.out) (g.O.Sink.faults c.args.out.now) (g.O.Sink.faults c.answer.new.out) (Ok ended)) c.in-Ok-Answered.field-0-is c.in-Ok-Answered.ensures.means)
    c.print.ensures
