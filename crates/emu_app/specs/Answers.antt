-- What commands answer, and when each answer comes.
-- The rules are told in docs/FORMATS.md, "Commands" and "Printed texts".
use Rattle.std.specs.Prelude.{◌≡◌, ◌≤◌, ◌⊎◌, ℕ, List, length, take, Option, Result, Ok, Err, IfSome}
use Rattle.design_core.specs.declared.parts.Parts.{Parts}
use Rattle.domain_groups.specs.Groups.{InputGroups}
use Rattle.emu_io.specs.declared.files.StoreFault.{StoreFault}
use Rattle.emu_io.specs.declared.files.StoreFault.TheVariants as store
use Rattle.emu_io.specs.Files.{Held}
use Rattle.emu_io.specs.Faults.{Rose}
use Rattle.emu_io.specs.Sink.{AppendsWhereTold}
use Rattle.emu_machine.specs.Results.{Results}
use Rattle.emu_machine.specs.declared.place.Place.{Place}
use Rattle.emu_machine.specs.declared.rule.Rule.{Rule}
use Rattle.emu_machine.specs.Acceptance.{Case, IsAccepted, IsFirstFailure}
use Rattle.emu_machine.specs.Headline.{Headline}
use Rattle.shape_check.specs.declared.verdict.Verdict.TheVariants.{Rejected}
use Rattle.shape_check.specs.Verdict.{IsShapeVerdict}
use Rattle.emu_app.specs.declared.answer.Answer.{Answer}
use Rattle.emu_app.specs.declared.answer.Answer.TheVariants as answer
use Rattle.emu_app.specs.declared.command.Command.{Command}
use Rattle.emu_app.specs.declared.command.Command.TheVariants.{Check, Settle, Replay}
use Rattle.emu_app.specs.declared.ending.Ending.{Ending}
use Rattle.emu_app.specs.declared.ending.Ending.TheVariants as ending
use Rattle.emu_app.specs.declared.reading.Planned.{Planned}
use Rattle.emu_app.specs.declared.recording.Recording.{Recording}
use Rattle.emu_app.specs.declared.replay.Replayed.{Replayed}
use Rattle.case_texts.specs.declared.what.What.{What}
use Rattle.emu_app.specs.declared.status.Status.{Status}
use Rattle.emu_app.specs.declared.status.Status.TheVariants as status
use Rattle.emu_app.specs.Command.{CommandWords, IsCommand, IsNoCommand, Reads, name_of}
use Rattle.case_texts.specs.What.{Texts}
use Rattle.emu_app.specs.Fetching.{AreHeld, ReadFails, FirstTooLarge}
use Rattle.emu_app.specs.Printing.{text_of, status_of}
use Rattle.emu_app.specs.Reading.{StandForOneSettle, StandForOneReplay, Refuses, case_of}
use Rattle.case_texts.specs.Cases.{StandForOne}
use Rattle.emu_app.specs.Runs.{IsHistoryTrace, IsMachineTrace, IsRun, IsUnfit, CanReplay, NoAnswer}

-- The texts stand for one case, and the rules A1 to A12 hold for it: then the machine agrees with the
-- design after every event, for every opening and every list of events. The results are those of the case.
pub record Accepts (top : List ℕ) (texts : Texts) (results : Results) : Type 0 where
  pub judged : Case
  pub stand : StandForOne top texts judged
  pub accepted : IsAccepted judged
  pub headline : Headline judged
  pub shown : judged.results ≡ results

-- The texts stand for one case, and this is its first failure: of the rules A1 to A12 the first that fails, with
-- its least place. So the case is not accepted.
pub record Rejects (top : List ℕ) (texts : Texts) (rule : Rule) (at : Place) : Type 0 where
  pub judged : Case
  pub stand : StandForOne top texts judged
  pub first : IsFirstFailure judged rule at
  pub rejected : IsAccepted judged → ⊥

-- The texts stand for one case and recording, and of the rules A1 to A9 this is the first that fails for the case,
-- with its least place. So a machine cannot run it.
pub record RejectsReplay (top : List ℕ) (texts : Texts) (rule : Rule) (at : Place) : Type 0 where
  pub judged : Case
  pub recording : Recording
  pub stand : StandForOneReplay top texts judged recording
  pub first : IsShapeVerdict judged (Rejected rule at)
  pub rejected : CanReplay judged → ⊥

-- what judging the texts comes to; it is no matter of other answers
abbrev pub JudgeMeans : List ℕ → Texts → Answer → Type 0
JudgeMeans top texts (answer.Accepted results) = Accepts top texts results
JudgeMeans top texts (answer.Rejected rule at) = Rejects top texts rule at
JudgeMeans top texts (answer.Refused why) = Refuses Check top texts why
JudgeMeans top texts other = ⊥

-- why the original's trace is not begun
abbrev pub SettleMeans : List ℕ → Texts → Answer → Type 0
SettleMeans top texts (answer.Refused why) = Refuses Settle top texts why
SettleMeans top texts other = ⊥

-- why the machine's trace is not begun
abbrev pub ReplayMeans : List ℕ → Texts → Answer → Type 0
ReplayMeans top texts (answer.Rejected rule at) = RejectsReplay top texts rule at
ReplayMeans top texts (answer.Refused why) = Refuses Replay top texts why
ReplayMeans top texts other = ⊥

-- what the command answers to the texts
abbrev pub WorkMeans : Command → List ℕ → Texts → Answer → Type 0
WorkMeans Check top texts found = JudgeMeans top texts found
WorkMeans Settle top texts found = SettleMeans top texts found
WorkMeans Replay top texts found = ReplayMeans top texts found

-- the texts stand for one design and recording, and this is the trace of its history
pub record Settles (top : List ℕ) (texts : Texts) (trace : List ℕ) : Type 0 where
  pub design : Parts
  pub recording : Recording
  pub stand : StandForOneSettle top texts design recording
  pub is : IsHistoryTrace design recording trace

-- the texts stand for one case and recording, the rules A1 to A9 hold, and this is the machine's trace
pub record Replays (top : List ℕ) (texts : Texts) (trace : List ℕ) : Type 0 where
  pub judged : Case
  pub recording : Recording
  pub stand : StandForOneReplay top texts judged recording
  pub fit : CanReplay judged
  pub is : IsMachineTrace judged recording trace

-- the trace that the command prints of the texts; `check` prints none
abbrev pub TraceMeans : Command → List ℕ → Texts → List ℕ → Type 0
TraceMeans Check top texts trace = ⊥
TraceMeans Settle top texts trace = Settles top texts trace
TraceMeans Replay top texts trace = Replays top texts trace

-- the answers of a command to texts that are fetched: `settle` judges nothing, and only `check` accepts
abbrev pub CanAnswer : Command → Answer → Type 0
CanAnswer Check found = Unit {0}
CanAnswer other (answer.Accepted results) = ⊥
CanAnswer Settle (answer.Rejected rule at) = ⊥
CanAnswer other found = Unit {0}

-- the commands that print a trace
abbrev pub HasTrace : Command → Type 0
HasTrace Check = ⊥
HasTrace other = Unit {0}

-- the texts that are held under these names, which are all there and within their limits, come to an answer
pub record HeldMeans (held : Held) (n : CommandWords) (found : Answer) : Type 0 where
  pub texts : Texts
  pub are_held : AreHeld held n texts
  pub means : WorkMeans n.command n.top texts found

-- the texts that are held under these names, which are all there and within their limits, have this trace
pub record HeldTrace (held : Held) (n : CommandWords) (trace : List ℕ) : Type 0 where
  pub texts : Texts
  pub are_held : AreHeld held n texts
  pub means : TraceMeans n.command n.top texts trace

-- a text of the command could not be fetched, and its name is printed
pub record NameFails (told : Option Held) (before now : ℕ) (blamed : Option (List ℕ)) (n : CommandWords) (name : List ℕ) : Type 0 where
  pub what : What
  pub named : name ≡ name_of n what
  pub fails : ReadFails told before now blamed n what

-- by the answer of a command, with the counts of failed fetches before and after
abbrev pub FoundMeans : Option Held → ℕ → ℕ → Option (List ℕ) → CommandWords → Answer → Type 0
FoundMeans told before now blamed n answer.Usage = ⊥
FoundMeans told before now blamed n (answer.TooLarge what) = FirstTooLarge told before now n what
FoundMeans told before now blamed n (answer.ReadFault name) = NameFails told before now blamed n name
FoundMeans told before now blamed n found = CanAnswer n.command found × IfSome told (λ held. HeldMeans held n found)

-- the words are those of a command, and it came to this answer
pub record IsFound (told : Option Held) (before now : ℕ) (blamed : Option (List ℕ)) (words : List (List ℕ)) (found : Answer) : Type 0 where
  pub names : CommandWords
  pub shape : IsCommand words names
  pub means : FoundMeans told before now blamed names found

-- by the answer of a command: `Usage` exactly for words that are those of no command
abbrev pub CommandMeans : Option Held → ℕ → ℕ → Option (List ℕ) → List (List ℕ) → Answer → Type 0
CommandMeans told before now blamed words answer.Usage = IsNoCommand words
CommandMeans told before now blamed words found = IsFound told before now blamed words found

-- the command prints a trace, and this is it where the files tell what they hold
abbrev pub TraceOf : Option Held → CommandWords → List ℕ → Type 0
TraceOf told n trace = HasTrace n.command × IfSome told (λ held. HeldTrace held n trace)

-- the words are those of a command, and this is its trace
pub record IsTraced (told : Option Held) (words : List (List ℕ)) (trace : List ℕ) : Type 0 where
  pub names : CommandWords
  pub shape : IsCommand words names
  pub means : TraceOf told names trace

-- what is written of an answer's text: all of it
pub record Prints (Means : Answer → Type 0) (old new : Option (List ℕ)) (ended : Status) : Type 0 where
  pub found : Answer
  pub means : Means found
  pub status_is : status_of found ≡ ended
  pub text : AppendsWhereTold old (text_of found) new

-- what is written where a put failed: some first bytes of the text that was due
pub record PrintFails (Means : Answer → Type 0) (old new : Option (List ℕ)) (before now : ℕ) : Type 0 where
  pub rose : Rose before now
  pub found : Answer
  pub means : Means found
  pub count : ℕ
  pub some : count ≤ length (text_of found)
  pub text : AppendsWhereTold old (take count (text_of found)) new

-- what is written of a trace: all of it
pub record WritesTrace (Means : List ℕ → Type 0) (old new : Option (List ℕ)) : Type 0 where
  pub trace : List ℕ
  pub means : Means trace
  pub text : AppendsWhereTold old trace new

-- what is written of a trace that could not be ended: some first bytes of it
pub record TraceStops (Means : List ℕ → Type 0) (old new : Option (List ℕ)) : Type 0 where
  pub trace : List ℕ
  pub means : Means trace
  pub count : ℕ
  pub some : count ≤ length trace
  pub text : AppendsWhereTold old (take count trace) new

-- By the end of a command's work: an answer, before anything is written; or a trace, which is written whole
-- or stops where a put failed or memory was wanting.
abbrev pub Comes : (Answer → Type 0) → (List ℕ → Type 0) → Option (List ℕ) → Option (List ℕ) → ℕ → ℕ → Result Ending StoreFault → Type 0
Comes Means Runs old new before now (Ok (ending.Answered found)) = Means found × (new ≡ old) × (now ≡ before)
Comes Means Runs old new before now (Ok ending.Traced) = WritesTrace Runs old new
Comes Means Runs old new before now (Err store.Failed) = Rose before now × TraceStops Runs old new
Comes Means Runs old new before now (Err store.NoMemory) = (new ≡ old) ⊎ TraceStops Runs old new

-- By the status. Ok comes with the whole text of an answer, or with a whole trace. `WriteFault` comes where a
-- put failed, and then some first bytes of what was due are written. Where memory was wanting, nothing is
-- written, or some first bytes of a trace. With any other status the whole text of an answer of that status
-- is written.
abbrev pub Ends : (Answer → Type 0) → (List ℕ → Type 0) → Option (List ℕ) → Option (List ℕ) → ℕ → ℕ → Status → Type 0
Ends Means Runs old new before now status.Ok = Prints Means old new status.Ok ⊎ WritesTrace Runs old new
Ends Means Runs old new before now status.WriteFault = PrintFails Means old new before now ⊎ (Rose before now × TraceStops Runs old new)
Ends Means Runs old new before now status.NoMemory = (new ≡ old) ⊎ TraceStops Runs old new
Ends Means Runs old new before now status.NoFit = ⊥
Ends Means Runs old new before now ended = Prints Means old new ended

-- where the twelve rules hold, `settle` and `replay` print one trace of the same texts
abbrev pub SettleAndReplayAgree : Type 0
SettleAndReplayAgree =
    (top : List ℕ) (texts others : Texts) (settled replayed : List ℕ) (run : Replays top texts replayed)
    → ((what : What) → Reads Settle what → texts what ≡ others what)
    → IsAccepted run.judged → Settles top others settled → replayed ≡ settled

-- ## Inside the commands

-- the answer is right for all texts that stand for this case alone
abbrev pub JudgesAll : Case → Answer → Type 0
JudgesAll judged found = (top : List ℕ) (texts : Texts) → StandForOne top texts judged → JudgeMeans top texts found

-- by the end of `settle` on texts
abbrev pub SettleEnds : List ℕ → Texts → Option (List ℕ) → Option (List ℕ) → ℕ → ℕ → Result Ending StoreFault → Type 0
SettleEnds top texts old new before now ended =
    Comes (SettleMeans top texts) (TraceMeans Settle top texts) old new before now ended

-- by the end of `replay` on texts
abbrev pub ReplayEnds : List ℕ → Texts → Option (List ℕ) → Option (List ℕ) → ℕ → ℕ → Result Ending StoreFault → Type 0
ReplayEnds top texts old new before now ended =
    Comes (ReplayMeans top texts) (TraceMeans Replay top texts) old new before now ended

-- by the end of `replay` on what texts say: results that a machine cannot run are rejected, others have its trace
abbrev pub RunEnds : Parts → InputGroups → Replayed → Option (List ℕ) → Option (List ℕ) → ℕ → ℕ → Result Ending StoreFault → Type 0
RunEnds p v r old new before now ended =
    Comes (IsUnfit (case_of p v r.plan)) (IsRun (case_of p v r.plan) r.recording) old new before now ended

-- by the end of a run of results that a machine can run: it has come to the trace and to no answer
abbrev pub TraceEnds : Parts → InputGroups → Planned → Recording
    → Option (List ℕ) → Option (List ℕ) → ℕ → ℕ → Result Ending StoreFault → Type 0
TraceEnds p v plan r old new before now ended =
    Comes NoAnswer (IsMachineTrace (case_of p v plan) r) old new before now ended
