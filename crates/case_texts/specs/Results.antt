-- What reading the three texts of results comes to.
-- The rules are told in docs/FORMATS.md, "The netlist", "The schedule" and "The map".
use Rattle.std.specs.Prelude.{◌≡◌, ℕ, List, Result, Ok, Err}
use Rattle.emu_machine.specs.Results.{Results}
use Rattle.result_files.specs.declared.result_fault.ResultFault.{ResultFault}
use Rattle.result_files.specs.declared.result_fault.ResultFault.TheVariants as told
use Rattle.result_files.specs.ThreeTexts.{HasNet, HasSchedule, HasWrongToken, StandsFor}
use Rattle.case_texts.specs.declared.refusal.MapsFault.TheVariants as map_fault
use Rattle.case_texts.specs.declared.refusal.NetlistsFault.TheVariants as netlist_fault
use Rattle.case_texts.specs.declared.refusal.Refusal.TheVariants.{Netlist, Schedule, Map}
use Rattle.case_texts.specs.declared.refusal.SchedulesFault.TheVariants as schedule_fault
use Rattle.case_texts.specs.declared.refusal.Unread.{Unread}
use Rattle.case_texts.specs.declared.refusal.Unread.TheVariants.{Refused, NoMemory}
use Rattle.case_texts.specs.Faults.{HasMapFault, HasNetlistFault, HasScheduleFault, HasWrongByte, netlist_lex_refusal}

-- By the answer of reading the three texts: the results that they stand for, or the first fault. Of a later text
-- a fault is told only where those before it have none.
abbrev pub ResultsMean : List ℕ → List ℕ → List ℕ → Result Results Unread → Type 0
ResultsMean netlist schedule map (Ok results) = StandsFor netlist schedule map results
ResultsMean netlist schedule map (Err (Refused (Netlist fault))) = HasNetlistFault netlist fault
ResultsMean netlist schedule map (Err (Refused (Schedule fault))) = HasNet netlist × HasScheduleFault schedule fault
ResultsMean netlist schedule map (Err (Refused (Map fault))) = HasSchedule schedule × HasMapFault netlist map fault
ResultsMean netlist schedule map (Err (Refused why)) = ⊥
ResultsMean netlist schedule map (Err NoMemory) = Unit {0}

-- ## Inside the reader

-- by the answer of looking for the byte of a netlist's wrong token
abbrev pub WrongMeans : List ℕ → Unread → Type 0
WrongMeans netlist (Refused (Netlist (netlist_fault.Form at))) = HasWrongByte netlist at
WrongMeans netlist (Refused why) = ⊥
WrongMeans netlist NoMemory = Unit {0}

-- where a token is told, it is the netlist's wrong one
abbrev pub TokenIsWrong : List ℕ → ResultFault → Type 0
TokenIsWrong netlist (told.NetlistForm token) = HasWrongToken netlist token
TokenIsWrong netlist other = Unit {0}

-- the answer to texts of which the reader of results tells a fault
abbrev pub IsResultRefusal : List ℕ → ResultFault → Unread → Type 0
IsResultRefusal netlist (told.NetlistLex fault) why = why ≡ netlist_lex_refusal fault
IsResultRefusal netlist (told.NetlistForm token) why = WrongMeans netlist why
IsResultRefusal netlist (told.NetlistShape chip net) why = why ≡ Refused (Netlist (netlist_fault.Shape chip net))
IsResultRefusal netlist told.ScheduleNotJson why = why ≡ Refused (Schedule schedule_fault.NotJson)
IsResultRefusal netlist told.ScheduleVersion why = why ≡ Refused (Schedule schedule_fault.Version)
IsResultRefusal netlist (told.ScheduleForm frame slot action) why = why ≡ Refused (Schedule (schedule_fault.Form frame slot action))
IsResultRefusal netlist told.MapNotJson why = why ≡ Refused (Map map_fault.NotJson)
IsResultRefusal netlist told.MapVersion why = why ≡ Refused (Map map_fault.Version)
IsResultRefusal netlist (told.MapForm entry) why = why ≡ Refused (Map (map_fault.Form entry))
IsResultRefusal netlist told.NoMemory why = why ≡ NoMemory
