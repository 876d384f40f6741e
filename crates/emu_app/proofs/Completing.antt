-- A command that finds all in order ends with Ok, or there was no memory.
use Rattle.std.proofs.Common.{ℕ, ◌≡◌, ◌<◌, ◌≤◌, inl, inr, List, [], ◌∷◌, length, Option, Some, None, IfSome, refl, sym, ◌∙◌, ap, subst, arith}
use Rattle.emu_io.specs.Files.{Held}
use Rattle.emu_io.specs.Faults.{Rose, max_count, risen}
use Rattle.emu_machine.specs.declared.place.Place.{Place}
use Rattle.emu_machine.specs.declared.rule.Rule.{Rule}
use Rattle.emu_machine.specs.Acceptance.{Case, IsAccepted}
use Rattle.emu_app.specs.declared.answer.Answer.{Answer}
use Rattle.emu_app.specs.declared.answer.Answer.TheVariants as answer
use Rattle.emu_app.specs.declared.command.Command.{Command}
use Rattle.emu_app.specs.declared.command.Command.TheVariants.{Check, Settle, Replay}
use Rattle.case_texts.specs.declared.refusal.Refusal.{Refusal}
use Rattle.emu_app.specs.declared.status.Status.{Status}
use Rattle.emu_app.specs.declared.status.Status.TheVariants as status
use Rattle.case_texts.specs.declared.what.What.{What}
use Rattle.case_texts.specs.declared.what.What.TheVariants.{Design, Cells, Groups, Board, Netlist, Schedule as ScheduleText, Map, Opening, Events}
use Rattle.case_texts.specs.What.{limit, order}
use Rattle.emu_app.specs.Command.{CommandWords, IsCommand, Reads, command_word, name_of}
use Rattle.case_texts.specs.What.{Texts}
use Rattle.emu_app.specs.Fetching.{AreHeld, IsHeld, FirstTooLarge, NotThere, FetchFailed}
use Rattle.case_texts.specs.Cases.{DesignSays, StandFor}
use Rattle.case_texts.specs.Forms.{SaysBoard, SaysGroups}
use Rattle.emu_app.specs.Printing.{status_of}
use Rattle.emu_app.specs.Reading.{AreRead, Refuses, RefusedTextsStandForNothing}
use Rattle.emu_app.specs.Runs.{CanReplay, RecordingSays, SaysOpening}
use Rattle.emu_app.specs.declared.recording.Recording.{Recording}
use Rattle.design_core.specs.declared.parts.Parts.{Parts}
use Rattle.flattening.specs.Stands.{Stands}
use Rattle.domain_groups.specs.Events.{SaysEvents}
use Rattle.domain_groups.specs.Groups.{InputGroups}
use Rattle.emu_app.specs.Answers.{CommandMeans, Ends, HeldMeans, IsTraced, Prints, WorkMeans}
use Rattle.emu_app.specs.Complete.{AreFine, Completes, IsFine, IsInOrder, NothingFailed}
use Rattle.result_files.specs.ThreeTexts.{StandsFor}

second_word : (a b c d : List ℕ) (xs ys : List (List ℕ)) → a ∷ b ∷ xs ≡ c ∷ d ∷ ys → b ≡ d
second_word a b c d xs ys e = cc

further_words : (a b c d : List ℕ) (xs ys : List (List ℕ)) → a ∷ b ∷ xs ≡ c ∷ d ∷ ys → xs ≡ ys
further_words a b c d xs ys e = cc

abbrev pub words_with : Command → List ℕ → List (List ℕ) → CommandWords
words_with command top names = record { command = command; top = top; names = names }

-- the first letter of a word
letter : List ℕ → ℕ
letter [] = 0
letter (b ∷ bs) = b

-- a word is that of one command
one_word : (a b : Command) → command_word a ≡ command_word b → a ≡ b
unfolding letter
one_word Check Check same = refl
one_word Settle Settle same = refl
one_word Replay Replay same = refl
one_word Check Settle same = absurd (let e : 99 ≡ 115 = ap letter same in omega (arith, e))
one_word Check Replay same = absurd (let e : 99 ≡ 114 = ap letter same in omega (arith, e))
one_word Settle Check same = absurd (let e : 115 ≡ 99 = ap letter same in omega (arith, e))
one_word Settle Replay same = absurd (let e : 115 ≡ 114 = ap letter same in omega (arith, e))
one_word Replay Check same = absurd (let e : 114 ≡ 99 = ap letter same in omega (arith, e))
one_word Replay Settle same = absurd (let e : 114 ≡ 115 = ap letter same in omega (arith, e))

first_word : (a b c d : List ℕ) (xs ys : List (List ℕ)) → a ∷ b ∷ xs ≡ c ∷ d ∷ ys → a ≡ c
first_word a b c d xs ys e = cc

-- words are those of one command, with one list of names
one_command : (words : List (List ℕ)) (n m : CommandWords) → IsCommand words n → IsCommand words m → n ≡ m
one_command words n m is-n is-m =
    let same : command_word n.command ∷ n.top ∷ n.names ≡ command_word m.command ∷ m.top ∷ m.names = sym is-n.shape ∙ is-m.shape in
    let command : n.command ≡ m.command =
    one_word n.command m.command (first_word (command_word n.command) n.top (command_word m.command) m.top n.names m.names same) in
    ap (λ c. words_with c n.top n.names) command
    ∙ ap (λ t. words_with m.command t n.names) (second_word (command_word n.command) n.top (command_word m.command) m.top n.names m.names same)
    ∙ ap (λ xs. words_with m.command m.top xs) (further_words (command_word n.command) n.top (command_word m.command) m.top n.names m.names same)

-- a name holds one text
one_text : (held : Held) (name a b : List ℕ) → held name ≡ Some a → held name ≡ Some b → a ≡ b
one_text held name a b is-a is-b = let same : Some a ≡ Some b = sym is-a ∙ is-b in cc

-- the texts that are held under the names of a command are the same, however they are told
same_texts : (held : Held) (n : CommandWords) (a b : Texts) (what : What) → Reads n.command what → AreHeld held n a → AreHeld held n b → a what ≡ b what
same_texts held n a b what reads are-a are-b = one_text held (name_of n what) (a what) (b what) (are-a what reads).is (are-b what reads).is

-- texts of which those that a command reads are the same
abbrev AreSame : Command → Texts → Texts → Type 0
AreSame command a b = (what : What) → Reads command what → a what ≡ b what

pub first_too : (top : List ℕ) (a b : Texts) (p : Parts) (v : InputGroups) → a Design ≡ b Design → a Cells ≡ b Cells → a Groups ≡ b Groups → DesignSays top a p v → DesignSays top b p v
first_too top a b p v design cells groups says =
    record {
      design = subst (λ t. Stands t (b Cells) top p) design (subst (λ t. Stands (a Design) t top p) cells says.design);
      ranked = says.ranked;
      groups = subst (λ t. SaysGroups p t v) groups says.groups;
    }

-- so they stand for the same case
module _ (top : List ℕ) (a b : Texts) (same : (what : What) → order what < 7 → a what ≡ b what) where
  case_too : (c : Case) → StandFor top a c → StandFor top b c
  case_too c s =
      let results : StandsFor (b Netlist) (b ScheduleText) (b Map) c.results =
      subst (λ t. StandsFor t (b ScheduleText) (b Map) c.results) (same Netlist (omega arith))
      (subst (λ t. StandsFor (a Netlist) t (b Map) c.results) (same ScheduleText (omega arith))
      (subst (λ t. StandsFor (a Netlist) (a ScheduleText) t c.results) (same Map (omega arith)) s.results)) in
      record {
        groups = s.groups;
        first = first_too top a b c.design s.groups (same Design (omega arith)) (same Cells (omega arith)) (same Groups (omega arith)) s.first;
        grouped = s.grouped;
        board = subst (λ t. SaysBoard t c.board) (same Board (omega arith)) s.board;
        results = results;
      }

-- and for the same recording
pub recorded_too : (a b : Texts) (p : Parts) (r : Recording) → a Groups ≡ b Groups → a Opening ≡ b Opening → a Events ≡ b Events → RecordingSays a p r → RecordingSays b p r
recorded_too a b p r groups opening events says =
    record {
      opening = subst (λ t. SaysOpening p t r.opening) opening says.opening;
      groups = says.groups;
      says_groups = subst (λ t. SaysGroups p t says.groups) groups says.says_groups;
      events = subst (λ t. SaysEvents says.groups p.inputs t r.events) events says.events;
    }

-- so texts are fine where others that are held under the same names are
fine_too : (command : Command) (top : List ℕ) (a b : Texts) → AreSame command a b → IsFine command top a → IsFine command top b
fine_too Check top a b same fine =
    record { judged = fine.judged; stand = case_too top a b (λ what reads. same what reads) fine.judged fine.stand; accepted = fine.accepted }
fine_too Settle top a b same fine =
    record {
      design = fine.design;
      recording = fine.recording;
      stand = record {
        groups = fine.stand.groups;
        first = first_too top a b fine.design fine.stand.groups (same Design (omega arith)) (same Cells (omega arith)) (same Groups (omega arith)) fine.stand.first;
        recorded = recorded_too a b fine.design fine.recording (same Groups (omega arith)) (same Opening (omega arith)) (same Events (omega arith)) fine.stand.recorded;
      };
    }
fine_too Replay top a b same fine =
    record {
      judged = fine.judged;
      recording = fine.recording;
      stand = case_too top a b (λ what early. same what (omega (arith, early))) fine.judged fine.stand;
      recorded = recorded_too a b fine.judged.design fine.recording (same Groups (omega arith)) (same Opening (omega arith)) (same Events (omega arith)) fine.recorded;
      fit = fine.fit;
    }

-- what the work came to on texts that are fine: neither a rejection nor a refusal
fine_not_rejected : (command : Command) (top : List ℕ) (texts : Texts) (rule : Rule) (at : Place) → IsFine command top texts → WorkMeans command top texts (answer.Rejected rule at) → ⊥
fine_not_rejected Check top texts rule at fine means =
    means.rejected (subst IsAccepted (means.stand.one fine.judged fine.stand) fine.accepted)
fine_not_rejected Settle top texts rule at fine means = means
fine_not_rejected Replay top texts rule at fine means =
    means.rejected (subst CanReplay (means.stand.stand.one fine.judged fine.stand) fine.fit)

fine_is_read : (command : Command) (top : List ℕ) (texts : Texts) → IsFine command top texts → AreRead command top texts
fine_is_read Check top texts fine = (fine.judged, fine.stand)
fine_is_read Settle top texts fine = (fine.design, fine.recording, fine.stand)
fine_is_read Replay top texts fine = (fine.judged, fine.recording, fine.stand, fine.recorded)

refused_work : (command : Command) (top : List ℕ) (texts : Texts) (why : Refusal) → WorkMeans command top texts (answer.Refused why) → Refuses command top texts why
refused_work Check top texts why means = means
refused_work Settle top texts why means = means
refused_work Replay top texts why means = means

fine_held : (held : Held) (n : CommandWords) (found : Answer) → (fine : AreFine n held) → (means : HeldMeans held n found) → IsFine n.command n.top means.texts
fine_held held n found fine means =
    fine_too n.command n.top fine.texts means.texts (λ what reads. same_texts held n fine.texts means.texts what reads fine.are_held means.are_held) fine.fine

not_rejected : (held : Held) (n : CommandWords) (rule : Rule) (at : Place) → AreFine n held → HeldMeans held n (answer.Rejected rule at) → ⊥
not_rejected held n rule at fine means =
    fine_not_rejected n.command n.top means.texts rule at (fine_held held n (answer.Rejected rule at) fine means) means.means

not_refused : RefusedTextsStandForNothing → (held : Held) (n : CommandWords) (why : Refusal) → AreFine n held → HeldMeans held n (answer.Refused why) → ⊥
not_refused law held n why fine means =
    law n.command n.top means.texts why (refused_work n.command n.top means.texts why means.means)
    (fine_is_read n.command n.top means.texts (fine_held held n (answer.Refused why) fine means))

not_large : (held : Held) (before now : ℕ) (n : CommandWords) (what : What) → AreFine n held → FirstTooLarge (Some held) before now n what → ⊥
not_large held before now n what fine first =
    let is : IsHeld held (name_of n what) what (fine.texts what) = fine.are_held what first.0 in
    let large : _ = first.1.0 in
    let same : fine.texts what ≡ large.bytes = one_text held (name_of n what) (fine.texts what) large.bytes is.is large.is in
    let within : length large.bytes ≤ limit what = subst (λ bytes. length bytes ≤ limit what) same is.within in
    let beyond : limit what < length large.bytes = large.beyond in
    omega (arith, within, beyond)

not_failed : (before now : ℕ) (blamed : Option (List ℕ)) (name : List ℕ) → NothingFailed before now → FetchFailed before now blamed name → ⊥
not_failed before now blamed name nothing (inl (rose, blames)) = let same : now ≡ before = nothing.same in omega (arith, same, rose)
not_failed before now blamed name nothing (inr most) = let below : now < max_count = nothing.below in omega (arith, below, most)

not_absent : (held : Held) (before now : ℕ) (blamed : Option (List ℕ)) (n : CommandWords) (what : What) → Reads n.command what → NothingFailed before now → AreFine n held → NotThere (Some held) before now blamed (name_of n what) → ⊥
not_absent held before now blamed n what reads nothing fine (inl none) = let is : held (name_of n what) ≡ Some (fine.texts what) = (fine.are_held what reads).is in let apart : None ≡ Some (fine.texts what) = sym none ∙ is in cc
not_absent held before now blamed n what reads nothing fine (inr failed) = not_failed before now blamed (name_of n what) nothing failed

module _ (law : RefusedTextsStandForNothing) (told : Option Held) (before now : ℕ) (blamed : Option (List ℕ)) (words : List (List ℕ)) (fair : IsInOrder told words) (nothing : NothingFailed before now) where
  -- the names of the answer are those of the words
  fine_for : (m : CommandWords) → IsCommand words m → AreFine m fair.held
  fine_for m shape = subst (λ n. AreFine n fair.held) (one_command words fair.names m fair.shape shape) fair.fine

  -- so the answer is that the results are accepted
  found_ok : (found : Answer) → CommandMeans told before now blamed words found → status_of found ≡ status.Ok
  found_ok answer.Usage means = absurd (means fair.names fair.shape)
  found_ok (answer.Accepted results) means = refl
  found_ok (answer.Rejected rule at) means =
      let fine : AreFine means.names fair.held = fine_for means.names means.shape in
      absurd (not_rejected fair.held means.names rule at fine (subst (λ t. IfSome t (λ held. HeldMeans held means.names (answer.Rejected rule at))) fair.tells means.means.1))
  found_ok (answer.TooLarge what) means =
      let fine : AreFine means.names fair.held = fine_for means.names means.shape in
      absurd (not_large fair.held before now means.names what fine (subst (λ t. FirstTooLarge t before now means.names what) fair.tells means.means))
  found_ok (answer.Refused why) means =
      let fine : AreFine means.names fair.held = fine_for means.names means.shape in
      absurd (not_refused law fair.held means.names why fine (subst (λ t. IfSome t (λ held. HeldMeans held means.names (answer.Refused why))) fair.tells means.means.1))
  found_ok (answer.ReadFault name) means =
      let fine : AreFine means.names fair.held = fine_for means.names means.shape in
      let fails : _ = means.means.fails in
      absurd (not_absent fair.held before now blamed means.names means.means.what fails.reads nothing fine
      (subst (λ t. NotThere t before now blamed (name_of means.names means.means.what)) fair.tells fails.cause))

  printed_ok : (old new : Option (List ℕ)) (ended : Status) → Prints (CommandMeans told before now blamed words) old new ended → ended ≡ status.Ok
  printed_ok old new ended prints = sym prints.status_is ∙ found_ok prints.found prints.means

not_written : (before now : ℕ) → NothingFailed before now → Rose before now → ⊥
not_written before now nothing rose =
    let same : now ≡ before = nothing.same in
    let below : now < max_count = nothing.below in
    let least : risen before ≤ now = rose in
    omega (arith, same, below, least)

-- by the end of a command
pub completes : RefusedTextsStandForNothing → (told : Option Held) (before now : ℕ) (blamed : Option (List ℕ)) (words : List (List ℕ)) (old new : Option (List ℕ)) (puts-before puts-now : ℕ) (ended : Status)
    → Ends (CommandMeans told before now blamed words) (IsTraced told words) old new puts-before puts-now ended → Completes told words before now puts-before puts-now ended
completes law told before now blamed words old new puts-before puts-now status.Ok ends order reads puts = inl refl
completes law told before now blamed words old new puts-before puts-now status.NoMemory ends order reads puts = inr refl
completes law told before now blamed words old new puts-before puts-now status.NoFit ends order reads puts = absurd ends
completes law told before now blamed words old new puts-before puts-now status.WriteFault (inl ends) order reads puts = absurd (not_written puts-before puts-now puts ends.rose)
completes law told before now blamed words old new puts-before puts-now status.WriteFault (inr ends) order reads puts = absurd (not_written puts-before puts-now puts ends.0)
completes law told before now blamed words old new puts-before puts-now status.Usage ends order reads puts = inl (printed_ok law told before now blamed words order reads old new status.Usage ends)
completes law told before now blamed words old new puts-before puts-now status.Refused ends order reads puts = inl (printed_ok law told before now blamed words order reads old new status.Refused ends)
completes law told before now blamed words old new puts-before puts-now status.Rejected ends order reads puts = inl (printed_ok law told before now blamed words order reads old new status.Rejected ends)
completes law told before now blamed words old new puts-before puts-now status.ReadFault ends order reads puts = inl (printed_ok law told before now blamed words order reads old new status.ReadFault ends)
