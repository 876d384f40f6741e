-- How the parts of a command end.
-- The rules are told in docs/FORMATS.md, "Commands".
use Rattle.std.specs.Prelude.{◌≡◌, ◌≤◌, ℕ, List, Option, Result, Ok, Err, length, take}
use Rattle.emu_io.specs.declared.files.StoreFault.{StoreFault}
use Rattle.emu_io.specs.declared.files.StoreFault.TheVariants as store
use Rattle.emu_io.specs.Faults.{Rose}
use Rattle.emu_io.specs.Sink.{AppendsWhereTold}
use Rattle.emu_app.specs.declared.answer.Answer.{Answer}
use Rattle.emu_app.specs.declared.answer.Answer.TheVariants as answer
use Rattle.emu_app.specs.declared.command.Command.{Command}
use Rattle.emu_app.specs.declared.ending.Ending.{Ending}
use Rattle.emu_app.specs.declared.ending.Ending.TheVariants as ending
use Rattle.emu_app.specs.declared.fetch.Stop.{Stop}
use Rattle.emu_app.specs.declared.fetch.Stop.TheVariants as stop
use Rattle.case_texts.specs.declared.refusal.Unread.{Unread}
use Rattle.case_texts.specs.declared.refusal.Unread.TheVariants as unread
use Rattle.emu_app.specs.declared.status.Status.{Status}
use Rattle.emu_app.specs.declared.status.Status.TheVariants as status
use Rattle.emu_app.specs.Command.{CommandWords, Reads, name_of}
use Rattle.emu_app.specs.Printing.{text_of, status_of}

-- texts that are refused are answered so, and nothing is printed yet
abbrev pub ending_of : Unread → Result Ending StoreFault
ending_of (unread.Refused why) = Ok (ending.Answered (answer.Refused why))
ending_of unread.NoMemory = Err store.NoMemory

-- a text that was not fetched is one that the command reads
abbrev pub StopReads : Command → Stop → Type 0
StopReads command (stop.NotThere what) = Reads command what
StopReads command other = Unit {0}

-- how a command ends of which a text was not fetched: the answer names it
abbrev pub IsNotFetched : CommandWords → Stop → Result Ending StoreFault → Type 0
IsNotFetched n why (Err store.NoMemory) = Unit {0}
IsNotFetched n why (Err store.Failed) = ⊥
IsNotFetched n (stop.NotThere what) (Ok ended) = ended ≡ ending.Answered (answer.ReadFault (name_of n what))
IsNotFetched n (stop.TooLarge what) (Ok ended) = ended ≡ ending.Answered (answer.TooLarge what)
IsNotFetched n stop.NoMemory (Ok ended) = ⊥

-- what stands where a put of an answer's text failed
pub record HasFailed (found : Answer) (old new : Option (List ℕ)) (before now : ℕ) : Type 0 where
  pub rose : Rose before now
  pub count : ℕ
  pub some : count ≤ length (text_of found)
  pub text : AppendsWhereTold old (take count (text_of found)) new

-- by the status after printing an answer; its own status comes where its whole text is written
abbrev pub Printed : Answer → Option (List ℕ) → Option (List ℕ) → ℕ → ℕ → Status → Type 0
Printed found old new before now status.WriteFault = HasFailed found old new before now
Printed found old new before now status.NoMemory = new ≡ old
Printed found old new before now ended = (status_of found ≡ ended) × AppendsWhereTold old (text_of found) new
