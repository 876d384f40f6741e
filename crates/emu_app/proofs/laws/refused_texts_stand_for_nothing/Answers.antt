use Rattle.emu_app.proofs.Refusals.{refused_stand_for_nothing}
use Rattle.emu_app.proofs.laws.refused_texts_stand_for_nothing.Goals as goal

pub returns : goal.returns
returns c = refused_stand_for_nothing c.faulty_texts_are_unread.ensures
