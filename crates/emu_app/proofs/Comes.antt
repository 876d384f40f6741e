-- What the work of a command comes to, where its answers and its traces are told of more.
use Rattle.std.proofs.Common.{ℕ, List, Option, Some, None, IfSome, Result, Ok, Err, inl, inr, refl}
use Rattle.emu_io.specs.Files.{Held}
use Rattle.emu_io.specs.declared.files.StoreFault.{StoreFault}
use Rattle.emu_io.specs.declared.files.StoreFault.TheVariants as store
use Rattle.emu_app.specs.declared.answer.Answer.{Answer}
use Rattle.emu_app.specs.declared.answer.Answer.TheVariants as answer
use Rattle.emu_app.specs.declared.command.Command.{Command}
use Rattle.emu_app.specs.declared.command.Command.TheVariants.{Check, Settle, Replay}
use Rattle.case_texts.specs.declared.what.What.{What}
use Rattle.emu_app.specs.declared.ending.Ending.{Ending}
use Rattle.emu_app.specs.declared.ending.Ending.TheVariants as ending
use Rattle.case_texts.specs.declared.refusal.Refusal.{Refusal}
use Rattle.case_texts.specs.declared.refusal.Unread.{Unread}
use Rattle.case_texts.specs.declared.refusal.Unread.TheVariants as unread
use Rattle.emu_app.specs.Answers.{CanAnswer, Comes, FoundMeans, HasTrace, HeldMeans, HeldTrace, TraceMeans, TraceOf, TraceStops, WorkMeans, WritesTrace}
use Rattle.emu_app.specs.Command.{CommandWords}
use Rattle.emu_app.specs.Endings.{ending_of}
use Rattle.case_texts.specs.What.{Texts}
use Rattle.emu_app.specs.Fetching.{AreHeld}
use Rattle.emu_app.specs.Reading.{AllMean, Refuses}

-- a trace that is written is one of what its meaning says
writes_as : (R S : List ℕ → Type 0) (old new : Option (List ℕ)) → ((trace : List ℕ) → R trace → S trace) → WritesTrace R old new → WritesTrace S old new
writes_as R S old new runs writes =
    record { trace = writes.trace; means = runs writes.trace writes.means; text = writes.text }

stops_as : (R S : List ℕ → Type 0) (old new : Option (List ℕ)) → ((trace : List ℕ) → R trace → S trace) → TraceStops R old new → TraceStops S old new
stops_as R S old new runs stops =
    record {
      trace = stops.trace;
      means = runs stops.trace stops.means;
      count = stops.count;
      some = stops.some;
      text = stops.text;
    }

-- what is told of answers and traces carries over to what work comes to
pub comes_as : (M N : Answer → Type 0) (R S : List ℕ → Type 0) (old new : Option (List ℕ)) (before now : ℕ) (ended : Result Ending StoreFault) → ((found : Answer) → M found → N found) → ((trace : List ℕ) → R trace → S trace) → Comes M R old new before now ended → Comes N S old new before now ended
comes_as M N R S old new before now (Ok (ending.Answered found)) means runs comes = (means found comes.0, comes.1, comes.2)
comes_as M N R S old new before now (Ok ending.Traced) means runs comes = writes_as R S old new runs comes
comes_as M N R S old new before now (Err store.Failed) means runs comes = (comes.0, stops_as R S old new runs comes.1)
comes_as M N R S old new before now (Err store.NoMemory) means runs (inl same) = inl same
comes_as M N R S old new before now (Err store.NoMemory) means runs (inr stops) = inr (stops_as R S old new runs stops)

-- texts that are refused come to that answer, and nothing is written
pub refused_comes : {X : Type 0} (Says : X → Type 0) (M : Answer → Type 0) (R : List ℕ → Type 0) (command : Command) (top : List ℕ) (texts : Texts) (old : Option (List ℕ)) (before : ℕ) (why : Unread) → ((refusal : Refusal) → Refuses command top texts refusal → M (answer.Refused refusal)) → AllMean command top texts Says (Err why) → Comes M R old old before before (ending_of why)
refused_comes Says M R command top texts old before (unread.Refused why) answers refuses = (answers why refuses, refl, refl)
refused_comes Says M R command top texts old before unread.NoMemory answers refuses = inl refl

-- ## Texts that are fetched

-- the work answers nothing of words and of fetches, and only what the command can
can_answer : (command : Command) (top : List ℕ) (texts : Texts) (found : Answer) → WorkMeans command top texts found → CanAnswer command found
can_answer Check top texts found means = tt
can_answer Settle top texts answer.Usage means = absurd means
can_answer Settle top texts (answer.Accepted results) means = absurd means
can_answer Settle top texts (answer.Rejected rule at) means = absurd means
can_answer Settle top texts (answer.TooLarge what) means = absurd means
can_answer Settle top texts (answer.Refused why) means = tt
can_answer Settle top texts (answer.ReadFault name) means = absurd means
can_answer Replay top texts answer.Usage means = absurd means
can_answer Replay top texts (answer.Accepted results) means = absurd means
can_answer Replay top texts (answer.Rejected rule at) means = tt
can_answer Replay top texts (answer.TooLarge what) means = absurd means
can_answer Replay top texts (answer.Refused why) means = tt
can_answer Replay top texts (answer.ReadFault name) means = absurd means

no_usage : (command : Command) (top : List ℕ) (texts : Texts) → WorkMeans command top texts answer.Usage → ⊥
no_usage Check top texts means = means
no_usage Settle top texts means = means
no_usage Replay top texts means = means

no_large : (command : Command) (top : List ℕ) (texts : Texts) (what : What) → WorkMeans command top texts (answer.TooLarge what) → ⊥
no_large Check top texts what means = means
no_large Settle top texts what means = means
no_large Replay top texts what means = means

no_read_fault : (command : Command) (top : List ℕ) (texts : Texts) (name : List ℕ) → WorkMeans command top texts (answer.ReadFault name) → ⊥
no_read_fault Check top texts name means = means
no_read_fault Settle top texts name means = means
no_read_fault Replay top texts name means = means

has_trace : (command : Command) (top : List ℕ) (texts : Texts) (trace : List ℕ) → TraceMeans command top texts trace → HasTrace command
has_trace Check top texts trace means = absurd means
has_trace Settle top texts trace means = tt
has_trace Replay top texts trace means = tt

module _ (told : Option Held) (before now : ℕ) (blamed : Option (List ℕ)) (n : CommandWords) (texts : Texts) (held : IfSome told (λ held. AreHeld held n texts)) where
  of_held : (t : Option Held) → IfSome t (λ h. AreHeld h n texts) → (found : Answer) → WorkMeans n.command n.top texts found → IfSome t (λ h. HeldMeans h n found)
  of_held None are found means = tt
  of_held (Some h) are found means = record { texts = texts; are_held = are; means = means }

  traced : (t : Option Held) → IfSome t (λ h. AreHeld h n texts) → (trace : List ℕ) → TraceMeans n.command n.top texts trace → IfSome t (λ h. HeldTrace h n trace)
  traced None are trace means = tt
  traced (Some h) are trace means = record { texts = texts; are_held = are; means = means }

  -- so what the work makes of them is what was found
  pub found_means : (found : Answer) → WorkMeans n.command n.top texts found → FoundMeans told before now blamed n found
  found_means answer.Usage means = no_usage n.command n.top texts means
  found_means (answer.Accepted results) means = (can_answer n.command n.top texts (answer.Accepted results) means, of_held told held (answer.Accepted results) means)
  found_means (answer.Rejected rule at) means = (can_answer n.command n.top texts (answer.Rejected rule at) means, of_held told held (answer.Rejected rule at) means)
  found_means (answer.TooLarge what) means = absurd (no_large n.command n.top texts what means)
  found_means (answer.Refused why) means = (can_answer n.command n.top texts (answer.Refused why) means, of_held told held (answer.Refused why) means)
  found_means (answer.ReadFault name) means = absurd (no_read_fault n.command n.top texts name means)

  pub found_trace : (trace : List ℕ) → TraceMeans n.command n.top texts trace → TraceOf told n trace
  found_trace trace means = (has_trace n.command n.top texts trace means, traced told held trace means)
