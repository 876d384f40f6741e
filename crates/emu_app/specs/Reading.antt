-- What the texts of a command stand for, and which of them is the first that is refused.
-- The rules are told in docs/FORMATS.md, from "The design" to "Openings and events".
use Rattle.std.specs.Prelude.{◌≡◌, ◌<◌, ℕ, List, Result, Ok, Err}
use Rattle.clock_rank.specs.Orders.{RankedDesign}
use Rattle.design_core.specs.declared.parts.Parts.{Parts}
use Rattle.design_core.specs.declared.values.Event.{Event}
use Rattle.domain_groups.specs.Events.{SaysEvents}
use Rattle.domain_groups.specs.Groups.{InputGroups}
use Rattle.emu_machine.specs.Acceptance.{Case}
use Rattle.flattening.specs.Places.{Given}
use Rattle.flattening.specs.Stands as designs
use Rattle.settled_model.specs.declared.opening.Opening as opened
use Rattle.shape_check.specs.ShapeCase.{shape_case}
use Rattle.case_texts.specs.declared.refusal.Refusal.{Refusal}
use Rattle.case_texts.specs.declared.refusal.Refusal.TheVariants as refusal
use Rattle.case_texts.specs.declared.refusal.Unread.{Unread}
use Rattle.case_texts.specs.declared.refusal.Unread.TheVariants as unread
use Rattle.case_texts.specs.declared.what.What.{What}
use Rattle.case_texts.specs.declared.what.What.TheVariants.{Design, Board}
use Rattle.case_texts.specs.Cases.{DesignSays, StandFor, StandForOne}
use Rattle.case_texts.specs.Faults.{HasEventsFault, HasOpeningFault, design_fault_of}
use Rattle.case_texts.specs.Forms.{SaysBoard, SaysResults}
use Rattle.case_texts.specs.Reading.{IsFaulty, IsRead, faulty_text}
use Rattle.case_texts.specs.What.{Texts, order}
use Rattle.emu_app.specs.declared.command.Command.{Command}
use Rattle.emu_app.specs.declared.command.Command.TheVariants.{Check, Settle, Replay}
use Rattle.emu_app.specs.declared.reading.Planned.{Planned}
use Rattle.emu_app.specs.declared.recording.Recording.{Recording}
use Rattle.emu_app.specs.declared.replay.Replayed.{Replayed}
use Rattle.emu_app.specs.Command.{Reads}
use Rattle.emu_app.specs.Runs.{RecordingSays, SaysOpening}

-- by the answer of flattening what is given by a design text, its tokens and tree, and a table of cells
abbrev pub DesignMeans : Given → List ℕ → Result Parts Unread → Type 0
DesignMeans g top (Ok p) = designs.Answers g top (Ok p)
DesignMeans g top (Err (unread.Refused (refusal.Design fault))) = designs.Answers g top (Err (design_fault_of fault))
DesignMeans g top (Err (unread.Refused why)) = ⊥
DesignMeans g top (Err unread.NoMemory) = Unit {0}

-- by the answer of reading an opening of a design
abbrev pub OpeningMeans : Parts → List ℕ → Result opened.Opening Unread → Type 0
OpeningMeans p text (Ok o) = SaysOpening p text o
OpeningMeans p text (Err (unread.Refused (refusal.Opening fault))) = HasOpeningFault p text fault
OpeningMeans p text (Err (unread.Refused why)) = ⊥
OpeningMeans p text (Err unread.NoMemory) = Unit {0}

-- by the answer of reading events of a design with groups
abbrev pub EventsMean : InputGroups → Parts → List ℕ → Result (List Event) Unread → Type 0
EventsMean v p text (Ok events) = SaysEvents v p.inputs text events
EventsMean v p text (Err (unread.Refused (refusal.Events fault))) = HasEventsFault v p text fault
EventsMean v p text (Err (unread.Refused why)) = ⊥
EventsMean v p text (Err unread.NoMemory) = Unit {0}

-- the texts say this design, which is ranked and in order, and these groups of its inputs
abbrev pub OrderSays : List ℕ → Texts → Parts → RankedDesign × InputGroups → Type 0
OrderSays top texts p (ranked, v) = (ranked.design ≡ p) × DesignSays top texts p v

-- the texts say this board and these results
pub record PlanSays (texts : Texts) (plan : Planned) : Type 0 where
  pub board : SaysBoard (texts Board) plan.board
  pub results : SaysResults texts plan.results

-- the texts say this plan, and this recording of a design
pub record ReplayedSays (texts : Texts) (p : Parts) (r : Replayed) : Type 0 where
  pub plan : PlanSays texts r.plan
  pub recorded : RecordingSays texts p r.recording

-- the case of a design, its groups, and what is planned for it
abbrev pub case_of : Parts → InputGroups → Planned → Case
case_of p v plan = shape_case p v plan.board plan.results

-- the texts stand for a design and a recording of it
pub record StandForSettle (top : List ℕ) (texts : Texts) (p : Parts) (r : Recording) : Type 0 where
  pub groups : InputGroups
  pub first : DesignSays top texts p groups
  pub recorded : RecordingSays texts p r

-- the texts stand for this design and this recording alone
pub record StandForOneSettle (top : List ℕ) (texts : Texts) (p : Parts) (r : Recording) : Type 0 where
  pub stand : StandForSettle top texts p r
  pub one : (q : Parts) (other : Recording) → StandForSettle top texts q other → (q ≡ p) × (other ≡ r)

-- the texts stand for this case, and for this recording of its design, alone
pub record StandForOneReplay (top : List ℕ) (texts : Texts) (c : Case) (r : Recording) : Type 0 where
  pub stand : StandForOne top texts c
  pub recorded : RecordingSays texts c.design r
  pub one : (other : Recording) → RecordingSays texts c.design other → other ≡ r

-- the texts before one, of those that the command reads, are of their forms
abbrev pub EarlierAreRead : Command → List ℕ → Texts → What → Type 0
EarlierAreRead command top texts what = (other : What) → Reads command other → order other < order what → IsRead top texts other

-- this text, after the design, is the first of those that the command reads that is not of its form
pub record FirstUnread (command : Command) (top : List ℕ) (texts : Texts) (what : What) : Type 0 where
  pub reads : Reads command what
  pub later : order Design < order what
  pub here : IsRead top texts what → ⊥
  pub earlier : EarlierAreRead command top texts what

-- Why the texts are refused: they have this fault, and where it is of a text after the cells, that text is the
-- first that is not of its form. The design, its cells and its flattening are read together, in the order that
-- their faults tell.
abbrev pub Refuses : Command → List ℕ → Texts → Refusal → Type 0
Refuses command top texts (refusal.Faulty fault) = IsFaulty top texts (refusal.Faulty fault)
Refuses command top texts (refusal.Cells fault) = IsFaulty top texts (refusal.Cells fault)
Refuses command top texts (refusal.Design fault) = IsFaulty top texts (refusal.Design fault)
Refuses command top texts (refusal.Cycle names) = IsFaulty top texts (refusal.Cycle names)
Refuses command top texts why = IsFaulty top texts why × FirstUnread command top texts (faulty_text why)

-- by the answer of reading several texts: what they say together, or why they are refused
abbrev pub AllMean : {X : Type 0} → Command → List ℕ → Texts → (X → Type 0) → Result X Unread → Type 0
AllMean command top texts Says (Ok x) = Says x
AllMean command top texts Says (Err (unread.Refused why)) = Refuses command top texts why
AllMean command top texts Says (Err unread.NoMemory) = Unit {0}

-- texts stand for one recording of a design at most
abbrev pub TextsTellRecordingsApart : Type 0
TextsTellRecordingsApart =
    (texts : Texts) (p : Parts) (r other : Recording) → RecordingSays texts p r → RecordingSays texts p other → other ≡ r

-- texts stand for one design and one recording at most
abbrev pub TextsTellRunsApart : Type 0
TextsTellRunsApart =
    (top : List ℕ) (texts : Texts) (p q : Parts) (r other : Recording)
    → StandForSettle top texts p r → StandForSettle top texts q other → (q ≡ p) × (other ≡ r)

-- what texts that the command reads without a fault stand for: a case, a design with a recording, or both
abbrev pub AreRead : Command → List ℕ → Texts → Type 0
AreRead Check top texts = (c : Case) × StandFor top texts c
AreRead Settle top texts = (p : Parts) × (r : Recording) × StandForSettle top texts p r
AreRead Replay top texts = (c : Case) × (r : Recording) × StandFor top texts c × RecordingSays texts c.design r

-- texts that a command refuses stand for nothing
abbrev pub RefusedTextsStandForNothing : Type 0
RefusedTextsStandForNothing =
    (command : Command) (top : List ℕ) (texts : Texts) (why : Refusal) → Refuses command top texts why → AreRead command top texts → ⊥
