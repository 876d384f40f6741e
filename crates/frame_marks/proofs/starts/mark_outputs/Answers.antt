use Rattle.frame_marks.proofs.Starting.{told_more}
use Rattle.std.proofs.lemmas.Option.{slice_get-get_or}
use Rattle.std.proofs.Common.{sym, ap, ◌∙◌}
use Rattle.std.specs.Prelude.{Some}
use Rattle.frame_marks.proofs.starts.mark_outputs.Goals as goal

pub gates-preserved : goal.gates-preserved
gates-preserved c =
    told_more c.args.gates.now c.gates.gate-index c.gate-item.result (slice_get-get_or c.args.gates.now c.gates.gate-index c.gate-item.result c.gates-test.true ∙ ap Some (sym c.gate-item.is))
    c.args.gated.now c.gates.gated c.mark_output.new.gated c.gates.invariant c.mark_output.ensures
