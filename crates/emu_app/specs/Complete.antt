-- That a command which finds all in order does its work.
-- The rule is told in docs/FORMATS.md, "Commands".
use Rattle.std.specs.Prelude.{◌≡◌, ◌<◌, ◌⊎◌, ℕ, List, Option, Some}
use Rattle.emu_io.specs.Files.{Held}
use Rattle.emu_io.specs.Faults.{max_count}
use Rattle.emu_machine.specs.Acceptance.{Case, IsAccepted}
use Rattle.emu_app.specs.declared.command.Command.{Command}
use Rattle.emu_app.specs.declared.command.Command.TheVariants.{Check, Settle, Replay}
use Rattle.emu_app.specs.declared.status.Status.{Status}
use Rattle.emu_app.specs.declared.status.Status.TheVariants as status
use Rattle.emu_app.specs.Command.{CommandWords, IsCommand}
use Rattle.case_texts.specs.What.{Texts}
use Rattle.emu_app.specs.Fetching.{AreHeld}
use Rattle.emu_app.specs.declared.recording.Recording.{Recording}
use Rattle.design_core.specs.declared.parts.Parts.{Parts}
use Rattle.case_texts.specs.Cases.{StandFor}
use Rattle.emu_app.specs.Reading.{StandForSettle}
use Rattle.emu_app.specs.Runs.{CanReplay, RecordingSays}

-- no failure shows in a count: it did not rise, and it does not stand at its last value
pub record NothingFailed (before now : ℕ) : Type 0 where
  pub same : now ≡ before
  pub below : now < max_count

-- the texts stand for a case which meets the twelve rules
pub record IsFineCase (top : List ℕ) (texts : Texts) : Type 0 where
  pub judged : Case
  pub stand : StandFor top texts judged
  pub accepted : IsAccepted judged

-- the texts stand for a design and a recording of it
pub record IsFineSettle (top : List ℕ) (texts : Texts) : Type 0 where
  pub design : Parts
  pub recording : Recording
  pub stand : StandForSettle top texts design recording

-- the texts stand for a case that meets the rules A1 to A9, and for a recording of its design
pub record IsFineReplay (top : List ℕ) (texts : Texts) : Type 0 where
  pub judged : Case
  pub recording : Recording
  pub stand : StandFor top texts judged
  pub recorded : RecordingSays texts judged.design recording
  pub fit : CanReplay judged

-- texts with which a command can do its work
abbrev pub IsFine : Command → List ℕ → Texts → Type 0
IsFine Check top texts = IsFineCase top texts
IsFine Settle top texts = IsFineSettle top texts
IsFine Replay top texts = IsFineReplay top texts

-- the files hold texts within their limits with which the command can do its work
pub record AreFine (n : CommandWords) (held : Held) : Type 0 where
  pub texts : Texts
  pub are_held : AreHeld held n texts
  pub fine : IsFine n.command n.top texts

-- the words are those of a command, and the files tell texts that are fine
pub record IsInOrder (told : Option Held) (words : List (List ℕ)) : Type 0 where
  pub held : Held
  pub tells : told ≡ Some held
  pub names : CommandWords
  pub shape : IsCommand words names
  pub fine : AreFine names held

-- Where all is in order, and no fetch and no put failed, the command ends with Ok, or there was no memory.
abbrev pub Completes : Option Held → List (List ℕ) → ℕ → ℕ → ℕ → ℕ → Status → Type 0
Completes told words reads-before reads-now puts-before puts-now ended =
    IsInOrder told words → NothingFailed reads-before reads-now → NothingFailed puts-before puts-now
    → (ended ≡ status.Ok) ⊎ (ended ≡ status.NoMemory)
