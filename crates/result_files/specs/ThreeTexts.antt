-- What three texts stand for, as the netlist, the schedule and the map of results: these results, or their
-- first fault. Of a later text a fault comes only where the texts before it have none.
-- The rules are told in docs/FORMATS.md, "The netlist", "The schedule" and "The map".
use Rattle.std.specs.Prelude.{◌≡◌, ℕ, true, List, Result, Ok, Err}
use Rattle.verilog_lex.specs.declared.fault.LexFault.{LexFault}
use Rattle.verilog_lex.specs.declared.fault.LexFault.TheVariants as lex
use Rattle.verilog_lex.specs.declared.token.Token.{Token}
use Rattle.verilog_lex.specs.Reads.{Reads}
use Rattle.token_words.specs.Words.{words_of}
use Rattle.emu_machine.specs.declared.emu_net.BuildFault.{BuildFault}
use Rattle.emu_machine.specs.declared.emu_net.BuildFault.TheVariants as build
use Rattle.emu_machine.specs.declared.netlist.Chip.{Chip}
use Rattle.emu_machine.specs.declared.schedule.Schedule.{Schedule}
use Rattle.emu_machine.specs.Building.{IsLeastMisdriven}
use Rattle.emu_machine.specs.Netlist.{IsNetlist}
use Rattle.emu_machine.specs.Results.{Results}
use Rattle.netlist_reader.specs.Faults.{IsFirstWrong}
use Rattle.netlist_reader.specs.Netlist.{SaysChips}
use Rattle.netlist_reader.specs.declared.fault.NetlistFault.{NetlistFault}
use Rattle.netlist_reader.specs.declared.fault.NetlistFault.TheVariants as form
use Rattle.result_files.specs.Map.{SaysMap, MapAnswers}
use Rattle.result_files.specs.Schedule.{SaysSchedule, ScheduleAnswers}
use Rattle.result_files.specs.declared.result_fault.ResultFault.{ResultFault}
use Rattle.result_files.specs.declared.result_fault.ResultFault.TheVariants.{NetlistLex, NetlistForm, NetlistShape, ScheduleNotJson, ScheduleVersion, ScheduleForm, MapNotJson, MapVersion, MapForm, NoMemory}

-- these are the tokens of the text
abbrev pub AreTokens : List ℕ → List Token → Type 0
AreTokens bytes tokens = Reads bytes true 0 (Ok tokens)

-- the text is the netlist of these chips, whatever drives their nets
pub record IsNetlistText (bytes : List ℕ) (chips : List Chip) : Type 0 where
  pub tokens : List Token
  pub text : AreTokens bytes tokens
  pub says : SaysChips (words_of bytes tokens) chips

-- the text is the netlist of these chips, and each of their nets has one driver
pub record SaysNet (bytes : List ℕ) (net : List Chip) : Type 0 where
  pub says : IsNetlistText bytes net
  pub driven : IsNetlist net

-- this token of the text is the first that cannot stand after those before it
pub record HasWrongToken (bytes : List ℕ) (token : ℕ) : Type 0 where
  pub tokens : List Token
  pub text : AreTokens bytes tokens
  pub first : IsFirstWrong (words_of bytes tokens) token

-- the text is a netlist in which net `n` of chip `c` is the least without exactly one driver
pub record HasMisdriven (bytes : List ℕ) (c n : ℕ) : Type 0 where
  pub chips : List Chip
  pub says : IsNetlistText bytes chips
  pub least : IsLeastMisdriven chips c n

-- the chips of the netlist that a text is, or its first fault
abbrev pub ChipsAnswer : List ℕ → Result (List Chip) ResultFault → Type 0
ChipsAnswer bytes (Ok chips) = IsNetlistText bytes chips
ChipsAnswer bytes (Err (NetlistLex fault)) = Reads bytes true 0 (Err fault)
ChipsAnswer bytes (Err (NetlistForm token)) = HasWrongToken bytes token
ChipsAnswer bytes (Err NoMemory) = Unit {0}
ChipsAnswer bytes (Err other) = ⊥

-- the netlist that a text stands for, or its first fault
abbrev pub NetAnswers : List ℕ → Result (List Chip) ResultFault → Type 0
NetAnswers bytes (Ok net) = SaysNet bytes net
NetAnswers bytes (Err (NetlistLex fault)) = Reads bytes true 0 (Err fault)
NetAnswers bytes (Err (NetlistForm token)) = HasWrongToken bytes token
NetAnswers bytes (Err (NetlistShape chip net)) = HasMisdriven bytes chip.place net.place
NetAnswers bytes (Err NoMemory) = Unit {0}
NetAnswers bytes (Err other) = ⊥

-- three texts stand for these results
pub record StandsFor (netlist schedule map : List ℕ) (results : Results) : Type 0 where
  pub net_is : SaysNet netlist results.net
  pub schedule_is : SaysSchedule schedule results.schedule
  pub map_is : SaysMap map results.net results.map

-- the first text stands for a netlist
abbrev pub HasNet : List ℕ → Type 0
HasNet netlist = (net : List Chip) × SaysNet netlist net

-- the text stands for a schedule
abbrev pub HasSchedule : List ℕ → Type 0
HasSchedule schedule = (s : Schedule) × SaysSchedule schedule s

-- the first text has no fault, and the schedule is answered so
abbrev pub ScheduleFails : List ℕ → List ℕ → ResultFault → Type 0
ScheduleFails netlist schedule fault = HasNet netlist × ScheduleAnswers schedule (Err fault)

-- the first two texts have no fault, and the map of the netlist's chips is answered so
pub record MapFails (netlist schedule map : List ℕ) (fault : ResultFault) : Type 0 where
  pub net : List Chip
  pub net_is : SaysNet netlist net
  pub schedule_is : HasSchedule schedule
  pub fails : MapAnswers map net (Err fault)

-- the results that three texts stand for, or their first fault
abbrev pub ResultAnswers : List ℕ → List ℕ → List ℕ → Result Results ResultFault → Type 0
ResultAnswers netlist schedule map (Ok results) = StandsFor netlist schedule map results
ResultAnswers netlist schedule map (Err (NetlistLex fault)) = Reads netlist true 0 (Err fault)
ResultAnswers netlist schedule map (Err (NetlistForm token)) = HasWrongToken netlist token
ResultAnswers netlist schedule map (Err (NetlistShape chip net)) = HasMisdriven netlist chip.place net.place
ResultAnswers netlist schedule map (Err ScheduleNotJson) = ScheduleFails netlist schedule ScheduleNotJson
ResultAnswers netlist schedule map (Err ScheduleVersion) = ScheduleFails netlist schedule ScheduleVersion
ResultAnswers netlist schedule map (Err (ScheduleForm frame slot action)) =
    ScheduleFails netlist schedule (ScheduleForm frame slot action)
ResultAnswers netlist schedule map (Err MapNotJson) = MapFails netlist schedule map MapNotJson
ResultAnswers netlist schedule map (Err MapVersion) = MapFails netlist schedule map MapVersion
ResultAnswers netlist schedule map (Err (MapForm entry)) = MapFails netlist schedule map (MapForm entry)
ResultAnswers netlist schedule map (Err NoMemory) = Unit {0}

-- three texts stand for at most one result
abbrev pub ResultsAreToldApart : Type 0
ResultsAreToldApart =
    (netlist schedule map : List ℕ) (first second : Results)
    → StandsFor netlist schedule map first → StandsFor netlist schedule map second → first ≡ second

-- the fault of results that a fault of the netlist's tokens is
abbrev pub of_lex : LexFault → ResultFault
of_lex lex.NoMemory = NoMemory
of_lex fault = NetlistLex fault

-- the fault of results that a fault of the netlist's form is
abbrev pub of_form : NetlistFault → ResultFault
of_form (form.Form token) = NetlistForm token
of_form form.NoMemory = NoMemory

-- the fault of results that a fault of the netlist's drivers is
abbrev pub of_build : BuildFault → ResultFault
of_build (build.ShapeFault chip net) = NetlistShape chip net
of_build build.NoMemory = NoMemory
