-- What the end of a command says at the statuses Ok, Rejected and Usage.
use Rattle.std.proofs.Common.{ℕ, ◌≡◌, ◌⊎◌, inl, inr, List, Option, Some, None, IfSome, Ok, Err, refl, subst}
use Rattle.emu_io.specs.Files.{Held}
use Rattle.emu_machine.specs.declared.place.Place.{Place}
use Rattle.emu_machine.specs.declared.rule.Rule.{Rule}
use Rattle.emu_machine.specs.Results.{Results}
use Rattle.emu_app.specs.declared.answer.Answer.{Answer}
use Rattle.emu_app.specs.declared.answer.Answer.TheVariants as answer
use Rattle.emu_app.specs.declared.status.Status.{Status}
use Rattle.emu_app.specs.declared.status.Status.TheVariants as status
use Rattle.emu_app.specs.declared.command.Command.{Command}
use Rattle.emu_app.specs.declared.command.Command.TheVariants.{Check, Settle, Replay}
use Rattle.case_texts.specs.What.{Texts}
use Rattle.emu_app.specs.Fetching.{AreHeld}
use Rattle.emu_app.specs.Command.{CommandWords, IsNoCommand}
use Rattle.emu_app.specs.Printing.{status_of, text_of}
use Rattle.emu_io.specs.declared.files.StoreFault.TheVariants as store
use Rattle.emu_io.specs.Sink.{AppendsWhereTold}
use Rattle.emu_app.specs.declared.ending.Ending.TheVariants as ending
use Rattle.emu_app.specs.Answers.{CommandMeans, Comes, HeldMeans, HeldTrace, IsTraced, Prints, Ends, TraceMeans, TraceOf, WorkMeans, WritesTrace}
use Rattle.emu_app.specs.Endings.{Printed}
use Rattle.emu_app.specs.Outcomes.{IsOk, IsRejected, OkHolds, RejectedHolds}

accepted_work : (held : Held) (n : CommandWords) (texts : Texts) (results : Results) (old new : Option (List ℕ)) (command : Command) → n.command ≡ command → AreHeld held n texts → WorkMeans command n.top texts (answer.Accepted results) → OkHolds command n old new held
accepted_work held n texts results old new Check is are means =
    record { texts = texts; are_held = are; results = results; accepts = means }
accepted_work held n texts results old new Settle is are means = absurd means
accepted_work held n texts results old new Replay is are means = absurd means

accepted_held : (told : Option Held) (n : CommandWords) (results : Results) (old new : Option (List ℕ)) → IfSome told (λ held. HeldMeans held n (answer.Accepted results)) → IfSome told (OkHolds n.command n old new)
accepted_held None n results old new means = tt
accepted_held (Some held) n results old new means = accepted_work held n means.texts results old new n.command refl means.are_held means.means

rejected_work : (held : Held) (n : CommandWords) (texts : Texts) (rule : Rule) (at : Place) (command : Command) → n.command ≡ command → AreHeld held n texts → WorkMeans command n.top texts (answer.Rejected rule at)
    → RejectedHolds command n rule at held
rejected_work held n texts rule at Check is are means = record { texts = texts; are_held = are; rejects = means }
rejected_work held n texts rule at Settle is are means = absurd means
rejected_work held n texts rule at Replay is are means = record { texts = texts; are_held = are; rejects = means }

rejected_held : (told : Option Held) (n : CommandWords) (rule : Rule) (at : Place) → IfSome told (λ held. HeldMeans held n (answer.Rejected rule at)) → IfSome told (RejectedHolds n.command n rule at)
rejected_held None n rule at means = tt
rejected_held (Some held) n rule at means = rejected_work held n means.texts rule at n.command refl means.are_held means.means

-- a trace that is written is one that `settle` or `replay` means; `check` means none
traced_work : (held : Held) (n : CommandWords) (old new : Option (List ℕ)) (command : Command) → n.command ≡ command → WritesTrace (HeldTrace held n) old new → OkHolds command n old new held
traced_work held n old new Check is writes = absurd (subst (λ c. TraceMeans c n.top writes.means.texts writes.trace) is writes.means.means)
traced_work held n old new Settle is writes = writes
traced_work held n old new Replay is writes = writes

traced_held : (told : Option Held) (n : CommandWords) (old new : Option (List ℕ)) (trace : List ℕ) → TraceOf told n trace → AppendsWhereTold old trace new → IfSome told (OkHolds n.command n old new)
traced_held None n old new trace means text = tt
traced_held (Some held) n old new trace means text = traced_work held n old new n.command refl (record { trace = trace; means = means.1; text = text })

-- by the answer that was found
ok_found : (told : Option Held) (before now : ℕ) (blamed : Option (List ℕ)) (words : List (List ℕ)) (old new : Option (List ℕ)) (found : Answer) → CommandMeans told before now blamed words found → status_of found ≡ status.Ok → IsOk told words old new
ok_found told before now blamed words old new answer.Usage means is = absurd (let e : status.Usage ≡ status.Ok = is in cc)
ok_found told before now blamed words old new (answer.Accepted results) means is =
    record { names = means.names; shape = means.shape; held = accepted_held told means.names results old new means.means.1 }
ok_found told before now blamed words old new (answer.Rejected rule at) means is = absurd (let e : status.Rejected ≡ status.Ok = is in cc)
ok_found told before now blamed words old new (answer.TooLarge what) means is = absurd (let e : status.Refused ≡ status.Ok = is in cc)
ok_found told before now blamed words old new (answer.Refused what) means is = absurd (let e : status.Refused ≡ status.Ok = is in cc)
ok_found told before now blamed words old new (answer.ReadFault name) means is = absurd (let e : status.ReadFault ≡ status.Ok = is in cc)

-- by the trace that was written
ok_traced : (told : Option Held) (words : List (List ℕ)) (old new : Option (List ℕ)) → WritesTrace (IsTraced told words) old new → IsOk told words old new
ok_traced told words old new writes =
    record { names = writes.means.names; shape = writes.means.shape; held = traced_held told writes.means.names old new writes.trace writes.means.means writes.text }

rejected_found : (told : Option Held) (before now : ℕ) (blamed : Option (List ℕ)) (words : List (List ℕ)) (old new : Option (List ℕ)) (found : Answer)
    → CommandMeans told before now blamed words found → status_of found ≡ status.Rejected → AppendsWhereTold old (text_of found) new → IsRejected told words old new
rejected_found told before now blamed words old new answer.Usage means is text = absurd (let e : status.Usage ≡ status.Rejected = is in cc)
rejected_found told before now blamed words old new (answer.Accepted results) means is text = absurd (let e : status.Ok ≡ status.Rejected = is in cc)
rejected_found told before now blamed words old new (answer.Rejected rule at) means is text =
    record { names = means.names; shape = means.shape; rule = rule; at = at; judges = means.means.0; held = rejected_held told means.names rule at means.means.1; printed = text }
rejected_found told before now blamed words old new (answer.TooLarge what) means is text = absurd (let e : status.Refused ≡ status.Rejected = is in cc)
rejected_found told before now blamed words old new (answer.Refused what) means is text = absurd (let e : status.Refused ≡ status.Rejected = is in cc)
rejected_found told before now blamed words old new (answer.ReadFault name) means is text = absurd (let e : status.ReadFault ≡ status.Rejected = is in cc)

usage_found : (told : Option Held) (before now : ℕ) (blamed : Option (List ℕ)) (words : List (List ℕ)) (found : Answer) → CommandMeans told before now blamed words found → status_of found ≡ status.Usage → IsNoCommand words
usage_found told before now blamed words answer.Usage means is = means
usage_found told before now blamed words (answer.Accepted results) means is = absurd (let e : status.Ok ≡ status.Usage = is in cc)
usage_found told before now blamed words (answer.Rejected rule at) means is = absurd (let e : status.Rejected ≡ status.Usage = is in cc)
usage_found told before now blamed words (answer.TooLarge what) means is = absurd (let e : status.Refused ≡ status.Usage = is in cc)
usage_found told before now blamed words (answer.Refused what) means is = absurd (let e : status.Refused ≡ status.Usage = is in cc)
usage_found told before now blamed words (answer.ReadFault name) means is = absurd (let e : status.ReadFault ≡ status.Usage = is in cc)

module _ (told : Option Held) (before now : ℕ) (blamed : Option (List ℕ)) (words : List (List ℕ)) (old new : Option (List ℕ)) (faults-before faults-now : ℕ) (ended : Status) (ends : Ends (CommandMeans told before now blamed words) (IsTraced told words) old new faults-before faults-now ended) where
  abbrev at_status : Status → Type 0
  at_status s = Ends (CommandMeans told before now blamed words) (IsTraced told words) old new faults-before faults-now s

  pub ended_ok : ended ≡ status.Ok → IsOk told words old new
  ended_ok is = go (subst at_status is ends)
    where
      go : Prints (CommandMeans told before now blamed words) old new status.Ok ⊎ WritesTrace (IsTraced told words) old new → IsOk told words old new
      go (inl prints) = ok_found told before now blamed words old new prints.found prints.means prints.status_is
      go (inr writes) = ok_traced told words old new writes

  pub ended_rejected : ended ≡ status.Rejected → IsRejected told words old new
  ended_rejected is =
      let prints : Prints (CommandMeans told before now blamed words) old new status.Rejected = subst at_status is ends in
      rejected_found told before now blamed words old new prints.found prints.means prints.status_is prints.text

  pub ended_usage : ended ≡ status.Usage → IsNoCommand words
  ended_usage is =
      let prints : Prints (CommandMeans told before now blamed words) old new status.Usage = subst at_status is ends in
      usage_found told before now blamed words prints.found prints.means prints.status_is

-- no answer says that a design does not fit
no_fit : (found : Answer) → status_of found ≡ status.NoFit → ⊥
no_fit answer.Usage is = let e : status.Usage ≡ status.NoFit = is in cc
no_fit (answer.Accepted results) is = let e : status.Ok ≡ status.NoFit = is in cc
no_fit (answer.Rejected rule at) is = let e : status.Rejected ≡ status.NoFit = is in cc
no_fit (answer.TooLarge what) is = let e : status.Refused ≡ status.NoFit = is in cc
no_fit (answer.Refused what) is = let e : status.Refused ≡ status.NoFit = is in cc
no_fit (answer.ReadFault name) is = let e : status.ReadFault ≡ status.NoFit = is in cc

-- an answer that is printed ends the command
module _ (M : Answer → Type 0) (R : List ℕ → Type 0) (found : Answer) (means : M found) (old new : Option (List ℕ)) (before now : ℕ) where
  prints_as : (ended : Status) → (status_of found ≡ ended) × AppendsWhereTold old (text_of found) new → Prints M old new ended
  prints_as ended printed = record { found = found; means = means; status_is = printed.0; text = printed.1 }

  pub printed_ends : (ended : Status) → Printed found old new before now ended → Ends M R old new before now ended
  printed_ends status.Ok printed = inl (prints_as status.Ok printed)
  printed_ends status.Usage printed = prints_as status.Usage printed
  printed_ends status.Refused printed = prints_as status.Refused printed
  printed_ends status.Rejected printed = prints_as status.Rejected printed
  printed_ends status.NoFit printed = absurd (no_fit found printed.0)
  printed_ends status.ReadFault printed = prints_as status.ReadFault printed
  printed_ends status.WriteFault printed =
      inl (record { rose = printed.rose; found = found; means = means; count = printed.count; some = printed.some; text = printed.text })
  printed_ends status.NoMemory printed = inl printed

-- a command that does not come to an answer ends so
pub traced_ends : (M : Answer → Type 0) (R : List ℕ → Type 0) (old new : Option (List ℕ)) (before now : ℕ) → Comes M R old new before now (Ok ending.Traced) → Ends M R old new before now status.Ok
traced_ends M R old new before now comes = inr comes

pub failed_ends : (M : Answer → Type 0) (R : List ℕ → Type 0) (old new : Option (List ℕ)) (before now : ℕ) → Comes M R old new before now (Err store.Failed) → Ends M R old new before now status.WriteFault
failed_ends M R old new before now comes = inr comes

-- a command that comes to an answer ends as printing it does
pub answered_ends : (M : Answer → Type 0) (R : List ℕ → Type 0) (found : Answer) (old mid new : Option (List ℕ)) (before between now : ℕ) (ended : Status)
    → Comes M R old mid before between (Ok (ending.Answered found)) → Printed found mid new between now ended → Ends M R old new before now ended
answered_ends M R found old mid new before between now ended comes printed =
    printed_ends M R found comes.0 old new before now ended
    (subst (λ n. Printed found old new n now ended) comes.2 (subst (λ text. Printed found text new between now ended) comes.1 printed))
