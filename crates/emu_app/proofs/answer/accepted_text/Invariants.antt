use Rattle.std.specs.Prelude.{◌≡◌, ◌++◌, drop, flat_map}
use Rattle.emu_app.specs.Printing.{accepted_text, frame_line}
use Rattle.emu_app.proofs.answer.accepted_text.Given as goal

abbrev pub invariant-frames : goal.invariant-frames
invariant-frames l = l.text.items ++ flat_map frame_line (drop l.frame-index l.frames) ≡ accepted_text l.frames
