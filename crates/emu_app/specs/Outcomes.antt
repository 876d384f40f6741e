-- What the statuses Ok and Rejected say of the texts that are held, in facts of their own.
-- The rules are told in docs/FORMATS.md, "Commands".
use Rattle.std.specs.Prelude.{ℕ, List, Option, IfSome}
use Rattle.emu_io.specs.Files.{Held}
use Rattle.emu_io.specs.Sink.{AppendsWhereTold}
use Rattle.emu_machine.specs.declared.place.Place.{Place}
use Rattle.emu_machine.specs.declared.rule.Rule.{Rule}
use Rattle.emu_machine.specs.Results.{Results}
use Rattle.emu_app.specs.declared.command.Command.{Command}
use Rattle.emu_app.specs.declared.command.Command.TheVariants.{Check, Settle, Replay}
use Rattle.emu_app.specs.Command.{CommandWords, IsCommand}
use Rattle.case_texts.specs.What.{Texts}
use Rattle.emu_app.specs.Fetching.{AreHeld}
use Rattle.emu_app.specs.declared.answer.Answer.TheVariants as answer
use Rattle.emu_app.specs.Verdicts.{rejected_text}
use Rattle.emu_app.specs.Answers.{Accepts, CanAnswer, HeldTrace, Rejects, RejectsReplay, WritesTrace}

-- the texts that are held under the names are accepted: they stand for one case alone, the rules A1 to A12 hold
-- for it, and so the machine agrees with the design after every event, for every opening and every list of events
pub record HoldsAccepted (n : CommandWords) (held : Held) : Type 0 where
  pub texts : Texts
  pub are_held : AreHeld held n texts
  pub results : Results
  pub accepts : Accepts n.top texts results

-- the texts that are held under the names stand for one case alone, and this is its first failure
pub record HoldsRejected (n : CommandWords) (rule : Rule) (at : Place) (held : Held) : Type 0 where
  pub texts : Texts
  pub are_held : AreHeld held n texts
  pub rejects : Rejects n.top texts rule at

-- the texts that are held under the names stand for one case and recording alone, and of the rules A1 to A9 this
-- is the first that fails for the case, with its least place
pub record HoldsUnfit (n : CommandWords) (rule : Rule) (at : Place) (held : Held) : Type 0 where
  pub texts : Texts
  pub are_held : AreHeld held n texts
  pub rejects : RejectsReplay n.top texts rule at

-- what Ok says by the command: results are accepted, or the trace of what is held is written
abbrev pub OkHolds : Command → CommandWords → Option (List ℕ) → Option (List ℕ) → Held → Type 0
OkHolds Check n old new held = HoldsAccepted n held
OkHolds other n old new held = WritesTrace (HeldTrace held n) old new

-- what Rejected says by the command; `settle` judges nothing
abbrev pub RejectedHolds : Command → CommandWords → Rule → Place → Held → Type 0
RejectedHolds Check n rule at held = HoldsRejected n rule at held
RejectedHolds Settle n rule at held = ⊥
RejectedHolds Replay n rule at held = HoldsUnfit n rule at held

-- the words are those of a command, and where the files tell what they hold, it did its work
pub record IsOk (told : Option Held) (words : List (List ℕ)) (old new : Option (List ℕ)) : Type 0 where
  pub names : CommandWords
  pub shape : IsCommand words names
  pub held : IfSome told (OkHolds names.command names old new)

-- The words are those of a command that judges, and where the files tell what they hold, it rejects results. The
-- rule that fails first is printed, and its least place.
pub record IsRejected (told : Option Held) (words : List (List ℕ)) (old new : Option (List ℕ)) : Type 0 where
  pub names : CommandWords
  pub shape : IsCommand words names
  pub rule : Rule
  pub at : Place
  pub judges : CanAnswer names.command (answer.Rejected rule at)
  pub held : IfSome told (RejectedHolds names.command names rule at)
  pub printed : AppendsWhereTold old (rejected_text rule at) new
