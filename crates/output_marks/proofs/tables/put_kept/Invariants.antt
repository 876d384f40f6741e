use Rattle.output_marks.specs.Shown.{HasKept}
use Rattle.output_marks.proofs.tables.put_kept.Given as goal

abbrev pub invariant-nets : goal.invariant-nets
invariant-nets l = HasKept l.kept l.n l.initial.pass l.pass
