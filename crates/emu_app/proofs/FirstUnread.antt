-- The first text that is refused, from what is known of the texts before it.
use Rattle.std.proofs.Common.{ℕ, ◌≡◌, ◌<◌, ◌≤◌, ◌^◌, List, length, Ok, Err, sym, subst, arith, lit<}
use Rattle.id_arena.specs.BoardPlan.{BoardPlan}
use Rattle.design_core.specs.declared.parts.Parts.{Parts}
use Rattle.design_core.specs.Dependency.{IsRanked}
use Rattle.cell_table.specs.declared.cell.Cell.{Cell}
use Rattle.cell_table.specs.Table.{Stands}
use Rattle.verilog_lex.specs.declared.token.Token.{Token}
use Rattle.verilog_tree.specs.declared.source.Source.{Source}
use Rattle.domain_groups.specs.Groups.{InputGroups}
use Rattle.settled_model.specs.declared.opening.Opening as opened
use Rattle.event_replay.specs.Opened.{plain}
use Rattle.flattening.specs.Stands.{given_by}
use Rattle.result_files.specs.ThreeTexts.{HasNet, HasSchedule}
use Rattle.case_texts.specs.declared.refusal.Refusal.{Refusal}
use Rattle.case_texts.specs.declared.refusal.Refusal.TheVariants as refusal
use Rattle.case_texts.specs.declared.refusal.Unread.{Unread}
use Rattle.case_texts.specs.declared.refusal.Unread.TheVariants as unread
use Rattle.case_texts.specs.declared.what.What.{What}
use Rattle.case_texts.specs.declared.what.What.TheVariants.{Design, Cells, Groups, Board, Netlist, Schedule as ScheduleText, Map, Opening, Events}
use Rattle.case_texts.specs.Cases.{DesignSays}
use Rattle.case_texts.specs.Cycles.{RankMeans}
use Rattle.case_texts.specs.Forms.{HasCells, HasTree, IsTreeOf, SaysBoard, SaysDesign, SaysGroups}
use Rattle.case_texts.specs.Reading.{BoardMeans, CellsMean, FaultyTextsAreUnread, GroupsMean, IsFaulty, TreeMeans, faulty_text}
use Rattle.case_texts.specs.Results.{ResultsMean}
use Rattle.case_texts.specs.What.{Texts, limit, order}
use Rattle.emu_app.specs.declared.command.Command.{Command}
use Rattle.emu_app.specs.declared.command.Command.TheVariants.{Settle}
use Rattle.emu_app.specs.declared.reading.Planned.{Planned}
use Rattle.emu_app.specs.Command.{Reads}
use Rattle.emu_app.specs.Fetching.{AreWithin}
use Rattle.emu_app.specs.Reading.{AllMean, DesignMeans, EarlierAreRead, EventsMean, FirstUnread, OpeningMeans, PlanSays}
use Rattle.emu_app.specs.Runs.{SaysOpening}

-- a text within its limit is short enough for the lexer
pub short_text : (texts : Texts) (what : What) (bytes : List ℕ) → bytes ≡ texts what → AreWithin texts → length bytes < 2 ^ 32
short_text texts what bytes same within =
    let here : length (texts what) ≤ limit what = within what in
    let below : limit what < 2 ^ 32 = small what in
    subst (λ b. length b < 2 ^ 32) (sym same) (omega (arith, here, below))
  where
    small : (w : What) → limit w < 2 ^ 32
    small Design = lit< tt
    small Cells = lit< tt
    small Groups = lit< tt
    small Board = lit< tt
    small Netlist = lit< tt
    small ScheduleText = lit< tt
    small Map = lit< tt
    small Opening = lit< tt
    small Events = lit< tt

-- ## Texts with a fault

-- the design is the first text, and has faults of its own
pub refused_tree : {Y : Type 0} (T : Y → Type 0) (command : Command) (top : List ℕ) (texts : Texts) (why : Unread) → TreeMeans (texts Design) (Err why) → AllMean command top texts T (Err why)
refused_tree T command top texts (unread.Refused (refusal.Faulty fault)) means = means
refused_tree T command top texts (unread.Refused (refusal.Cells x)) means = absurd means
refused_tree T command top texts (unread.Refused (refusal.Design x)) means = absurd means
refused_tree T command top texts (unread.Refused (refusal.Cycle x)) means = absurd means
refused_tree T command top texts (unread.Refused (refusal.Groups x)) means = absurd means
refused_tree T command top texts (unread.Refused (refusal.Board x)) means = absurd means
refused_tree T command top texts (unread.Refused (refusal.Netlist x)) means = absurd means
refused_tree T command top texts (unread.Refused (refusal.Schedule x)) means = absurd means
refused_tree T command top texts (unread.Refused (refusal.Map x)) means = absurd means
refused_tree T command top texts (unread.Refused (refusal.Opening x)) means = absurd means
refused_tree T command top texts (unread.Refused (refusal.Events x)) means = absurd means
refused_tree T command top texts unread.NoMemory means = tt

-- cells are refused where the design has its tree
pub refused_cells : {Y : Type 0} (T : Y → Type 0) (command : Command) (top : List ℕ) (texts : Texts) (why : Unread) → HasTree (texts Design) → CellsMean (texts Cells) (Err why) → AllMean command top texts T (Err why)
refused_cells T command top texts (unread.Refused (refusal.Cells fault)) tree means = (tree, means)
refused_cells T command top texts (unread.Refused (refusal.Faulty x)) tree means = absurd means
refused_cells T command top texts (unread.Refused (refusal.Design x)) tree means = absurd means
refused_cells T command top texts (unread.Refused (refusal.Cycle x)) tree means = absurd means
refused_cells T command top texts (unread.Refused (refusal.Groups x)) tree means = absurd means
refused_cells T command top texts (unread.Refused (refusal.Board x)) tree means = absurd means
refused_cells T command top texts (unread.Refused (refusal.Netlist x)) tree means = absurd means
refused_cells T command top texts (unread.Refused (refusal.Schedule x)) tree means = absurd means
refused_cells T command top texts (unread.Refused (refusal.Map x)) tree means = absurd means
refused_cells T command top texts (unread.Refused (refusal.Opening x)) tree means = absurd means
refused_cells T command top texts (unread.Refused (refusal.Events x)) tree means = absurd means
refused_cells T command top texts unread.NoMemory tree means = tt

-- a tree is refused where the cells are read
pub refused_design : {Y : Type 0} (T : Y → Type 0) (command : Command) (top : List ℕ) (texts : Texts) (tokens : List Token) (tree : Source) (cells : List Cell) (why : Unread)
    → IsTreeOf (texts Design) tokens tree → Stands (texts Cells) (Ok cells) → DesignMeans (given_by (texts Design) tokens tree cells) top (Err why) → AllMean command top texts T (Err why)
refused_design T command top texts tokens tree cells (unread.Refused (refusal.Design fault)) is table means =
    record { tokens = tokens; tree = tree; cells = cells; is_tree = is; is_table = table; answers = means }
refused_design T command top texts tokens tree cells (unread.Refused (refusal.Faulty x)) is table means = absurd means
refused_design T command top texts tokens tree cells (unread.Refused (refusal.Cells x)) is table means = absurd means
refused_design T command top texts tokens tree cells (unread.Refused (refusal.Cycle x)) is table means = absurd means
refused_design T command top texts tokens tree cells (unread.Refused (refusal.Groups x)) is table means = absurd means
refused_design T command top texts tokens tree cells (unread.Refused (refusal.Board x)) is table means = absurd means
refused_design T command top texts tokens tree cells (unread.Refused (refusal.Netlist x)) is table means = absurd means
refused_design T command top texts tokens tree cells (unread.Refused (refusal.Schedule x)) is table means = absurd means
refused_design T command top texts tokens tree cells (unread.Refused (refusal.Map x)) is table means = absurd means
refused_design T command top texts tokens tree cells (unread.Refused (refusal.Opening x)) is table means = absurd means
refused_design T command top texts tokens tree cells (unread.Refused (refusal.Events x)) is table means = absurd means
refused_design T command top texts tokens tree cells unread.NoMemory is table means = tt

-- what is flattened is the design that the texts say
pub says_design : (top : List ℕ) (texts : Texts) (tokens : List Token) (tree : Source) (cells : List Cell) (p : Parts)
    → IsTreeOf (texts Design) tokens tree → Stands (texts Cells) (Ok cells) → DesignMeans (given_by (texts Design) tokens tree cells) top (Ok p) → SaysDesign top texts p
says_design top texts tokens tree cells p is table means =
    record { tokens = tokens; tree = tree; cells = cells; tokens_are = is.are_tokens; tree_is = is.explains; cells_are = table; describes = means }

-- a design that is ranked is refused where it has a cycle
pub refused_rank : {Y : Type 0} (T : Y → Type 0) (command : Command) (top : List ℕ) (texts : Texts) (p : Parts) (why : Unread) → SaysDesign top texts p → RankMeans p (Err why) → AllMean command top texts T (Err why)
refused_rank T command top texts p (unread.Refused (refusal.Cycle names)) says means = record { design = p; says = says; holds = means }
refused_rank T command top texts p (unread.Refused (refusal.Faulty x)) says means = absurd means
refused_rank T command top texts p (unread.Refused (refusal.Cells x)) says means = absurd means
refused_rank T command top texts p (unread.Refused (refusal.Design x)) says means = absurd means
refused_rank T command top texts p (unread.Refused (refusal.Groups x)) says means = absurd means
refused_rank T command top texts p (unread.Refused (refusal.Board x)) says means = absurd means
refused_rank T command top texts p (unread.Refused (refusal.Netlist x)) says means = absurd means
refused_rank T command top texts p (unread.Refused (refusal.Schedule x)) says means = absurd means
refused_rank T command top texts p (unread.Refused (refusal.Map x)) says means = absurd means
refused_rank T command top texts p (unread.Refused (refusal.Opening x)) says means = absurd means
refused_rank T command top texts p (unread.Refused (refusal.Events x)) says means = absurd means
refused_rank T command top texts p unread.NoMemory says means = tt

-- the text of cells of a design is a table
pub has_cells : (top : List ℕ) (texts : Texts) (p : Parts) → SaysDesign top texts p → HasCells (texts Cells)
has_cells top texts p says = record { cells = says.cells; stands = says.cells_are }

-- ## The texts before each

module _ (command : Command) (top : List ℕ) (texts : Texts) where
  pub before_groups : (p : Parts) → SaysDesign top texts p → IsRanked p → EarlierAreRead command top texts Groups
  before_groups p says ranked Design reads early = record { design = p; says = says; holds = ranked }
  before_groups p says ranked Cells reads early = has_cells top texts p says
  before_groups p says ranked Groups reads early = absurd (omega (arith, early))
  before_groups p says ranked Board reads early = absurd (omega (arith, early))
  before_groups p says ranked Netlist reads early = absurd (omega (arith, early))
  before_groups p says ranked ScheduleText reads early = absurd (omega (arith, early))
  before_groups p says ranked Map reads early = absurd (omega (arith, early))
  before_groups p says ranked Opening reads early = absurd (omega (arith, early))
  before_groups p says ranked Events reads early = absurd (omega (arith, early))

  pub before_board : (p : Parts) (v : InputGroups) → DesignSays top texts p v → EarlierAreRead command top texts Board
  before_board p v says Design reads early = record { design = p; says = says.design; holds = says.ranked }
  before_board p v says Cells reads early = has_cells top texts p says.design
  before_board p v says Groups reads early = record { design = p; says = says.design; holds = (v, says.groups) }
  before_board p v says Board reads early = absurd (omega (arith, early))
  before_board p v says Netlist reads early = absurd (omega (arith, early))
  before_board p v says ScheduleText reads early = absurd (omega (arith, early))
  before_board p v says Map reads early = absurd (omega (arith, early))
  before_board p v says Opening reads early = absurd (omega (arith, early))
  before_board p v says Events reads early = absurd (omega (arith, early))

  behind_board : (board : BoardPlan) → SaysBoard (texts Board) board → EarlierAreRead command top texts Board → EarlierAreRead command top texts Netlist
  behind_board board says before Design reads early = before Design reads (omega arith)
  behind_board board says before Cells reads early = before Cells reads (omega arith)
  behind_board board says before Groups reads early = before Groups reads (omega arith)
  behind_board board says before Board reads early = (board, says)
  behind_board board says before Netlist reads early = absurd (omega (arith, early))
  behind_board board says before ScheduleText reads early = absurd (omega (arith, early))
  behind_board board says before Map reads early = absurd (omega (arith, early))
  behind_board board says before Opening reads early = absurd (omega (arith, early))
  behind_board board says before Events reads early = absurd (omega (arith, early))

  behind_netlist : (board : BoardPlan) → SaysBoard (texts Board) board → HasNet (texts Netlist) → EarlierAreRead command top texts Board → EarlierAreRead command top texts ScheduleText
  behind_netlist board says net before Design reads early = before Design reads (omega arith)
  behind_netlist board says net before Cells reads early = before Cells reads (omega arith)
  behind_netlist board says net before Groups reads early = before Groups reads (omega arith)
  behind_netlist board says net before Board reads early = (board, says)
  behind_netlist board says net before Netlist reads early = net
  behind_netlist board says net before ScheduleText reads early = absurd (omega (arith, early))
  behind_netlist board says net before Map reads early = absurd (omega (arith, early))
  behind_netlist board says net before Opening reads early = absurd (omega (arith, early))
  behind_netlist board says net before Events reads early = absurd (omega (arith, early))

  behind_schedule : (board : BoardPlan) → SaysBoard (texts Board) board → HasNet (texts Netlist) → HasSchedule (texts ScheduleText) → EarlierAreRead command top texts Board → EarlierAreRead command top texts Map
  behind_schedule board says net schedule before Design reads early = before Design reads (omega arith)
  behind_schedule board says net schedule before Cells reads early = before Cells reads (omega arith)
  behind_schedule board says net schedule before Groups reads early = before Groups reads (omega arith)
  behind_schedule board says net schedule before Board reads early = (board, says)
  behind_schedule board says net schedule before Netlist reads early = net
  behind_schedule board says net schedule before ScheduleText reads early = schedule
  behind_schedule board says net schedule before Map reads early = absurd (omega (arith, early))
  behind_schedule board says net schedule before Opening reads early = absurd (omega (arith, early))
  behind_schedule board says net schedule before Events reads early = absurd (omega (arith, early))

  -- an opening of results comes behind all of these
  pub before_opening : (p : Parts) (v : InputGroups) (plan : Planned) → DesignSays top texts p v → PlanSays texts plan → EarlierAreRead command top texts Opening
  before_opening p v plan says planned Design reads early = before_board p v says Design reads (omega arith)
  before_opening p v plan says planned Cells reads early = before_board p v says Cells reads (omega arith)
  before_opening p v plan says planned Groups reads early = before_board p v says Groups reads (omega arith)
  before_opening p v plan says planned Board reads early = (plan.board, planned.board)
  before_opening p v plan says planned Netlist reads early = (plan.results.net, planned.results.net_is)
  before_opening p v plan says planned ScheduleText reads early = (plan.results.schedule, planned.results.schedule_is)
  before_opening p v plan says planned Map reads early = (plan.results.net, plan.results.map, planned.results.net_is, planned.results.map_is)
  before_opening p v plan says planned Opening reads early = absurd (omega (arith, early))
  before_opening p v plan says planned Events reads early = absurd (omega (arith, early))

  -- events come behind the opening
  pub before_events : (p : Parts) (o : opened.Opening) → SaysDesign top texts p → SaysOpening p (texts Opening) o → EarlierAreRead command top texts Opening → EarlierAreRead command top texts Events
  before_events p o design opening before Design reads early = before Design reads (omega arith)
  before_events p o design opening before Cells reads early = before Cells reads (omega arith)
  before_events p o design opening before Groups reads early = before Groups reads (omega arith)
  before_events p o design opening before Board reads early = before Board reads (omega arith)
  before_events p o design opening before Netlist reads early = before Netlist reads (omega arith)
  before_events p o design opening before ScheduleText reads early = before ScheduleText reads (omega arith)
  before_events p o design opening before Map reads early = before Map reads (omega arith)
  before_events p o design opening before Opening reads early = record { design = p; says = design; holds = (plain o, opening) }
  before_events p o design opening before Events reads early = absurd (omega (arith, early))

-- an opening of the original comes behind its groups
pub before_settling : (top : List ℕ) (texts : Texts) (p : Parts) (v : InputGroups) → DesignSays top texts p v → EarlierAreRead Settle top texts Opening
before_settling top texts p v says Design reads early = before_board Settle top texts p v says Design reads (omega arith)
before_settling top texts p v says Cells reads early = before_board Settle top texts p v says Cells reads (omega arith)
before_settling top texts p v says Groups reads early = before_board Settle top texts p v says Groups reads (omega arith)
before_settling top texts p v says Board reads early = absurd (omega (arith, reads))
before_settling top texts p v says Netlist reads early = absurd (omega (arith, reads))
before_settling top texts p v says ScheduleText reads early = absurd (omega (arith, reads))
before_settling top texts p v says Map reads early = absurd (omega (arith, reads))
before_settling top texts p v says Opening reads early = absurd (omega (arith, early))
before_settling top texts p v says Events reads early = absurd (omega (arith, early))

-- ## Texts that have a fault, behind texts that are read

module _ (law : FaultyTextsAreUnread) (command : Command) (top : List ℕ) (texts : Texts) where
  -- a text with a fault is the first unread where all before it are read
  first_faulty : (why : Refusal) → IsFaulty top texts why → Reads command (faulty_text why) → order Design < order (faulty_text why) → EarlierAreRead command top texts (faulty_text why) → FirstUnread command top texts (faulty_text why)
  first_faulty why faulty reads later earlier = record { reads = reads; later = later; here = law top texts why faulty; earlier = earlier }

  -- groups are refused where all before them are read
  pub refused_groups : {Y : Type 0} (T : Y → Type 0) (p : Parts) (why : Unread)
      → GroupsMean p (texts Groups) (Err why) → SaysDesign top texts p → Reads command Groups → EarlierAreRead command top texts Groups → AllMean command top texts T (Err why)
  refused_groups T p (unread.Refused (refusal.Groups fault)) means design reads earlier =
      let faulty : IsFaulty top texts (refusal.Groups fault) = record { design = p; says = design; holds = means } in
      (faulty, first_faulty (refusal.Groups fault) faulty reads (omega arith) earlier)
  refused_groups T p (unread.Refused (refusal.Faulty x)) means design reads earlier = absurd means
  refused_groups T p (unread.Refused (refusal.Cells x)) means design reads earlier = absurd means
  refused_groups T p (unread.Refused (refusal.Design x)) means design reads earlier = absurd means
  refused_groups T p (unread.Refused (refusal.Cycle x)) means design reads earlier = absurd means
  refused_groups T p (unread.Refused (refusal.Board x)) means design reads earlier = absurd means
  refused_groups T p (unread.Refused (refusal.Netlist x)) means design reads earlier = absurd means
  refused_groups T p (unread.Refused (refusal.Schedule x)) means design reads earlier = absurd means
  refused_groups T p (unread.Refused (refusal.Map x)) means design reads earlier = absurd means
  refused_groups T p (unread.Refused (refusal.Opening x)) means design reads earlier = absurd means
  refused_groups T p (unread.Refused (refusal.Events x)) means design reads earlier = absurd means
  refused_groups T p unread.NoMemory means design reads earlier = tt

  -- so is a board
  pub refused_board : {Y : Type 0} (T : Y → Type 0) (why : Unread) → BoardMeans (texts Board) (Err why) → Reads command Board → EarlierAreRead command top texts Board → AllMean command top texts T (Err why)
  refused_board T (unread.Refused (refusal.Board fault)) means reads earlier = (means, first_faulty (refusal.Board fault) means reads (omega arith) earlier)
  refused_board T (unread.Refused (refusal.Faulty x)) means reads earlier = absurd means
  refused_board T (unread.Refused (refusal.Cells x)) means reads earlier = absurd means
  refused_board T (unread.Refused (refusal.Design x)) means reads earlier = absurd means
  refused_board T (unread.Refused (refusal.Cycle x)) means reads earlier = absurd means
  refused_board T (unread.Refused (refusal.Groups x)) means reads earlier = absurd means
  refused_board T (unread.Refused (refusal.Netlist x)) means reads earlier = absurd means
  refused_board T (unread.Refused (refusal.Schedule x)) means reads earlier = absurd means
  refused_board T (unread.Refused (refusal.Map x)) means reads earlier = absurd means
  refused_board T (unread.Refused (refusal.Opening x)) means reads earlier = absurd means
  refused_board T (unread.Refused (refusal.Events x)) means reads earlier = absurd means
  refused_board T unread.NoMemory means reads earlier = tt

  -- results are refused where the board is read; a schedule where the netlist has no fault, and a map where neither has
  pub refused_results : {Y : Type 0} (T : Y → Type 0) (board : BoardPlan) (why : Unread)
      → ResultsMean (texts Netlist) (texts ScheduleText) (texts Map) (Err why) → Reads command Netlist → Reads command ScheduleText → Reads command Map
      → SaysBoard (texts Board) board → EarlierAreRead command top texts Board → AllMean command top texts T (Err why)
  refused_results T board (unread.Refused (refusal.Netlist fault)) means netlist schedule map says earlier =
      (means, first_faulty (refusal.Netlist fault) means netlist (omega arith) (behind_board command top texts board says earlier))
  refused_results T board (unread.Refused (refusal.Schedule fault)) means netlist schedule map says earlier =
      (means.1, first_faulty (refusal.Schedule fault) means.1 schedule (omega arith) (behind_netlist command top texts board says means.0 earlier))
  refused_results T board (unread.Refused (refusal.Map fault)) means netlist schedule map says earlier =
      let net : HasNet (texts Netlist) = (means.1.net, means.1.net_is) in
      (means.1, first_faulty (refusal.Map fault) means.1 map (omega arith) (behind_schedule command top texts board says net means.0 earlier))
  refused_results T board (unread.Refused (refusal.Faulty x)) means netlist schedule map says earlier = absurd means
  refused_results T board (unread.Refused (refusal.Cells x)) means netlist schedule map says earlier = absurd means
  refused_results T board (unread.Refused (refusal.Design x)) means netlist schedule map says earlier = absurd means
  refused_results T board (unread.Refused (refusal.Cycle x)) means netlist schedule map says earlier = absurd means
  refused_results T board (unread.Refused (refusal.Groups x)) means netlist schedule map says earlier = absurd means
  refused_results T board (unread.Refused (refusal.Board x)) means netlist schedule map says earlier = absurd means
  refused_results T board (unread.Refused (refusal.Opening x)) means netlist schedule map says earlier = absurd means
  refused_results T board (unread.Refused (refusal.Events x)) means netlist schedule map says earlier = absurd means
  refused_results T board unread.NoMemory means netlist schedule map says earlier = tt

  -- an opening is refused where all before it are read
  pub refused_opening : {Y : Type 0} (T : Y → Type 0) (p : Parts) (why : Unread)
      → OpeningMeans p (texts Opening) (Err why) → SaysDesign top texts p → Reads command Opening → EarlierAreRead command top texts Opening → AllMean command top texts T (Err why)
  refused_opening T p (unread.Refused (refusal.Opening fault)) means design reads earlier =
      let faulty : IsFaulty top texts (refusal.Opening fault) = record { design = p; says = design; holds = means } in
      (faulty, first_faulty (refusal.Opening fault) faulty reads (omega arith) earlier)
  refused_opening T p (unread.Refused (refusal.Faulty x)) means design reads earlier = absurd means
  refused_opening T p (unread.Refused (refusal.Cells x)) means design reads earlier = absurd means
  refused_opening T p (unread.Refused (refusal.Design x)) means design reads earlier = absurd means
  refused_opening T p (unread.Refused (refusal.Cycle x)) means design reads earlier = absurd means
  refused_opening T p (unread.Refused (refusal.Groups x)) means design reads earlier = absurd means
  refused_opening T p (unread.Refused (refusal.Board x)) means design reads earlier = absurd means
  refused_opening T p (unread.Refused (refusal.Netlist x)) means design reads earlier = absurd means
  refused_opening T p (unread.Refused (refusal.Schedule x)) means design reads earlier = absurd means
  refused_opening T p (unread.Refused (refusal.Map x)) means design reads earlier = absurd means
  refused_opening T p (unread.Refused (refusal.Events x)) means design reads earlier = absurd means
  refused_opening T p unread.NoMemory means design reads earlier = tt

  -- so are events
  pub refused_events : {Y : Type 0} (T : Y → Type 0) (p : Parts) (v : InputGroups) (why : Unread)
      → EventsMean v p (texts Events) (Err why) → SaysDesign top texts p → SaysGroups p (texts Groups) v → Reads command Events → EarlierAreRead command top texts Events
      → AllMean command top texts T (Err why)
  refused_events T p v (unread.Refused (refusal.Events fault)) means design says reads earlier =
      let faulty : IsFaulty top texts (refusal.Events fault) = record { design = p; says = design; holds = (v, says, means) } in
      (faulty, first_faulty (refusal.Events fault) faulty reads (omega arith) earlier)
  refused_events T p v (unread.Refused (refusal.Faulty x)) means design says reads earlier = absurd means
  refused_events T p v (unread.Refused (refusal.Cells x)) means design says reads earlier = absurd means
  refused_events T p v (unread.Refused (refusal.Design x)) means design says reads earlier = absurd means
  refused_events T p v (unread.Refused (refusal.Cycle x)) means design says reads earlier = absurd means
  refused_events T p v (unread.Refused (refusal.Groups x)) means design says reads earlier = absurd means
  refused_events T p v (unread.Refused (refusal.Board x)) means design says reads earlier = absurd means
  refused_events T p v (unread.Refused (refusal.Netlist x)) means design says reads earlier = absurd means
  refused_events T p v (unread.Refused (refusal.Schedule x)) means design says reads earlier = absurd means
  refused_events T p v (unread.Refused (refusal.Map x)) means design says reads earlier = absurd means
  refused_events T p v (unread.Refused (refusal.Opening x)) means design says reads earlier = absurd means
  refused_events T p v unread.NoMemory means design says reads earlier = tt
