-- That texts which are refused stand for nothing.
use Rattle.std.proofs.Common.{ℕ, ◌<◌, List, arith}
use Rattle.design_core.specs.declared.parts.Parts.{Parts}
use Rattle.emu_machine.specs.Acceptance.{Case}
use Rattle.event_replay.specs.Opened.{plain}
use Rattle.case_texts.specs.declared.refusal.Refusal.{Refusal}
use Rattle.case_texts.specs.declared.refusal.Refusal.TheVariants as refusal
use Rattle.case_texts.specs.declared.what.What.{What}
use Rattle.case_texts.specs.declared.what.What.TheVariants.{Design, Cells, Groups, Board, Netlist, Schedule as ScheduleText, Map, Opening, Events}
use Rattle.case_texts.specs.Cases.{StandFor}
use Rattle.case_texts.specs.Forms.{SaysDesign}
use Rattle.case_texts.specs.Reading.{FaultyTextsAreUnread, IsRead}
use Rattle.case_texts.specs.What.{Texts, order}
use Rattle.emu_app.specs.declared.command.Command.{Command}
use Rattle.emu_app.specs.declared.command.Command.TheVariants.{Check, Settle, Replay}
use Rattle.emu_app.specs.declared.recording.Recording.{Recording}
use Rattle.emu_app.specs.Command.{Reads, settle_place}
use Rattle.emu_app.specs.Reading.{AreRead, FirstUnread, Refuses, RefusedTextsStandForNothing, StandForSettle}
use Rattle.emu_app.specs.Runs.{RecordingSays}
use Rattle.emu_app.proofs.FirstUnread.{has_cells}

-- each text is read that a command reads of texts that stand for what it asks for
abbrev AllAreRead : Command → List ℕ → Texts → Type 0
AllAreRead command top texts = (what : What) → Reads command what → IsRead top texts what

-- what a case gives
read_case : (top : List ℕ) (texts : Texts) (c : Case) → StandFor top texts c → (what : What) → order what < 7 → IsRead top texts what
read_case top texts c s Design early = record { design = c.design; says = s.first.design; holds = s.first.ranked }
read_case top texts c s Cells early = has_cells top texts c.design s.first.design
read_case top texts c s Groups early = record { design = c.design; says = s.first.design; holds = (s.groups, s.first.groups) }
read_case top texts c s Board early = (c.board, s.board)
read_case top texts c s Netlist early = (c.results.net, s.results.net_is)
read_case top texts c s ScheduleText early = (c.results.schedule, s.results.schedule_is)
read_case top texts c s Map early = (c.results.net, c.results.map, s.results.net_is, s.results.map_is)
read_case top texts c s Opening early = absurd (omega (arith, early))
read_case top texts c s Events early = absurd (omega (arith, early))

-- what a recording of a design gives
read_opened : (top : List ℕ) (texts : Texts) (p : Parts) (r : Recording) → SaysDesign top texts p → RecordingSays texts p r → IsRead top texts Opening
read_opened top texts p r design says = record { design = p; says = design; holds = (plain r.opening, says.opening) }

read_events : (top : List ℕ) (texts : Texts) (p : Parts) (r : Recording) → SaysDesign top texts p → RecordingSays texts p r → IsRead top texts Events
read_events top texts p r design says = record { design = p; says = design; holds = (says.groups, r.events, says.says_groups, says.events) }

-- what a design with a recording gives
read_run : (top : List ℕ) (texts : Texts) (p : Parts) (r : Recording) → StandForSettle top texts p r → (what : What) → settle_place what < 5 → IsRead top texts what
read_run top texts p r s Design reads = record { design = p; says = s.first.design; holds = s.first.ranked }
read_run top texts p r s Cells reads = has_cells top texts p s.first.design
read_run top texts p r s Groups reads = record { design = p; says = s.first.design; holds = (s.groups, s.first.groups) }
read_run top texts p r s Board reads = absurd (omega (arith, reads))
read_run top texts p r s Netlist reads = absurd (omega (arith, reads))
read_run top texts p r s ScheduleText reads = absurd (omega (arith, reads))
read_run top texts p r s Map reads = absurd (omega (arith, reads))
read_run top texts p r s Opening reads = read_opened top texts p r s.first.design s.recorded
read_run top texts p r s Events reads = read_events top texts p r s.first.design s.recorded

-- what a case with a recording of its design gives
read_replay : (top : List ℕ) (texts : Texts) (c : Case) (r : Recording) → StandFor top texts c → RecordingSays texts c.design r → (what : What) → IsRead top texts what
read_replay top texts c r s recorded Design = read_case top texts c s Design (omega arith)
read_replay top texts c r s recorded Cells = read_case top texts c s Cells (omega arith)
read_replay top texts c r s recorded Groups = read_case top texts c s Groups (omega arith)
read_replay top texts c r s recorded Board = read_case top texts c s Board (omega arith)
read_replay top texts c r s recorded Netlist = read_case top texts c s Netlist (omega arith)
read_replay top texts c r s recorded ScheduleText = read_case top texts c s ScheduleText (omega arith)
read_replay top texts c r s recorded Map = read_case top texts c s Map (omega arith)
read_replay top texts c r s recorded Opening = read_opened top texts c.design r s.first.design recorded
read_replay top texts c r s recorded Events = read_events top texts c.design r s.first.design recorded

all_read : (command : Command) (top : List ℕ) (texts : Texts) → AreRead command top texts → AllAreRead command top texts
all_read Check top texts (c, s) what reads = read_case top texts c s what reads
all_read Settle top texts (p, r, s) what reads = read_run top texts p r s what reads
all_read Replay top texts (c, r, s, recorded) what reads = read_replay top texts c r s recorded what

-- every command reads a design and its cells
reads_design : (command : Command) → Reads command Design
reads_design Check = omega arith
reads_design Settle = omega arith
reads_design Replay = omega arith

reads_cells : (command : Command) → Reads command Cells
reads_cells Check = omega arith
reads_cells Settle = omega arith
reads_cells Replay = omega arith

module _ (law : FaultyTextsAreUnread) (command : Command) (top : List ℕ) (texts : Texts) (all : AllAreRead command top texts) where
  not_first : (what : What) → FirstUnread command top texts what → ⊥
  not_first what first = first.here (all what first.reads)

  not_refused : (why : Refusal) → Refuses command top texts why → ⊥
  not_refused (refusal.Faulty fault) means = law top texts (refusal.Faulty fault) means (all Design (reads_design command))
  not_refused (refusal.Cells fault) means = law top texts (refusal.Cells fault) means (all Cells (reads_cells command))
  not_refused (refusal.Design fault) means = law top texts (refusal.Design fault) means (all Design (reads_design command))
  not_refused (refusal.Cycle names) means = law top texts (refusal.Cycle names) means (all Design (reads_design command))
  not_refused (refusal.Groups fault) means = not_first Groups means.1
  not_refused (refusal.Board fault) means = not_first Board means.1
  not_refused (refusal.Netlist fault) means = not_first Netlist means.1
  not_refused (refusal.Schedule fault) means = not_first ScheduleText means.1
  not_refused (refusal.Map fault) means = not_first Map means.1
  not_refused (refusal.Opening fault) means = not_first Opening means.1
  not_refused (refusal.Events fault) means = not_first Events means.1

-- texts that a command refuses stand for nothing
pub refused_stand_for_nothing : FaultyTextsAreUnread → RefusedTextsStandForNothing
refused_stand_for_nothing law command top texts why means are = not_refused law command top texts (all_read command top texts are) why means
