use Rattle.emu_app.proofs.Endings.{ended_ok, ended_rejected, ended_usage}
use Rattle.emu_app.proofs.Completing.{completes}
use Rattle.emu_app.proofs.top.run.Goals as goal

pub returns-clause-accepted : goal.returns-clause-accepted
returns-clause-accepted g c = ended_ok _ _ _ _ _ _ _ _ _ _ c.run_command.ensures.ends

pub returns-clause-rejected : goal.returns-clause-rejected
returns-clause-rejected g c = ended_rejected _ _ _ _ _ _ _ _ _ _ c.run_command.ensures.ends

pub returns-clause-usage : goal.returns-clause-usage
returns-clause-usage g c = ended_usage _ _ _ _ _ _ _ _ _ _ c.run_command.ensures.ends

pub returns-clause-completes : goal.returns-clause-completes
returns-clause-completes g c = completes c.refused_texts_stand_for_nothing.ensures _ _ _ _ _ _ _ _ _ _ c.run_command.ensures.ends
