-- The text that each answer prints, and its status.
-- The rule is told in docs/FORMATS.md, "Printed texts".
use Rattle.std.specs.Prelude.{ℕ, List, ◌++◌, codes, decimal, length, flat_map}
use Rattle.emu_machine.specs.declared.schedule.Frame.{Frame}
use Rattle.case_texts.specs.What.{label}
use Rattle.case_texts.specs.Words.{line, refusal_text}
use Rattle.emu_app.specs.declared.answer.Answer.{Answer}
use Rattle.emu_app.specs.declared.answer.Answer.TheVariants as answer
use Rattle.emu_app.specs.declared.status.Status.{Status}
use Rattle.emu_app.specs.declared.status.Status.TheVariants as status
use Rattle.emu_app.specs.Verdicts.{rejected_text}

-- `frame NAME LENGTH`
abbrev pub frame_line : Frame → List ℕ
frame_line frame = line (codes "frame " ++ frame.group ++ codes " " ++ decimal (length frame.slots))

-- `accepted`, and a line for each frame
abbrev pub accepted_text : List Frame → List ℕ
accepted_text frames = line (codes "accepted") ++ flat_map frame_line frames

-- what the command prints
abbrev pub text_of : Answer → List ℕ
text_of answer.Usage = line (codes "usage: emu check|compile|make|replay|settle")
text_of (answer.Accepted results) = accepted_text results.schedule.frames
text_of (answer.Rejected rule at) = rejected_text rule at
text_of (answer.TooLarge what) = line (codes "refused " ++ label what ++ codes " TooLarge")
text_of (answer.Refused why) = refusal_text why
text_of (answer.ReadFault name) = line (codes "read fault " ++ name)

-- how the command ends, where its text is written
abbrev pub status_of : Answer → Status
status_of answer.Usage = status.Usage
status_of (answer.Accepted results) = status.Ok
status_of (answer.Rejected rule at) = status.Rejected
status_of (answer.TooLarge what) = status.Refused
status_of (answer.Refused why) = status.Refused
status_of (answer.ReadFault name) = status.ReadFault
