use Rattle.emu_app.proofs.Recordings.{one_recording}
use Rattle.emu_app.proofs.laws.texts_tell_recordings_apart.Goals as goal

pub returns : goal.returns
returns c = one_recording c.each_text_has_one_answer.ensures c.each_opening_has_one_answer.ensures c.each_recording_has_one_answer.ensures
