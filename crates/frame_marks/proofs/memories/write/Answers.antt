use Rattle.std.proofs.Common.{subst, sym}
use Rattle.frame_marks.specs.Takes.{WritesOne}
use Rattle.frame_marks.proofs.Writing.{port_wrote}
use Rattle.frame_marks.proofs.memories.write.Goals as goal

pub returns-in_ok-add_written-in-Write-clause-written : goal.returns-in_ok-add_written-in-Write-clause-written
returns-in_ok-add_written-in-Write-clause-written c =
    subst (λ a. WritesOne c.args.start.now a c.args.written.now.items c.add_written.new.written.items) (sym c.in-Write.is)
    (port_wrote c.args.start.now c.in-Write.chip c.in-Write.mem c.in-Write.port c.after_write-what.result c.after_write-what.ensures
    c.args.written.now.items c.add_written.new.written.items c.in_ok-add_written-in-Write.ensures)
