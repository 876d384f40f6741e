use Rattle.emu_app.proofs.Recordings.{one_run}
use Rattle.emu_app.proofs.laws.texts_tell_runs_apart.Goals as goal

pub returns : goal.returns
returns c = one_run c.each_text_has_one_design.ensures c.texts_tell_recordings_apart.ensures
