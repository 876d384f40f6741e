use Rattle.std.proofs.Common.{take}
use Rattle.std.specs.Prelude.{zip}
use Rattle.std.specs.List.{list_any}
use Rattle.mark_rule.specs.Kept.{TellsAlso, keeps_ports}
use Rattle.mark_rule.proofs.kept.keep_memories.Given as goal

abbrev pub invariant-each : goal.invariant-each
invariant-each l = TellsAlso (λ n. list_any (keeps_ports n) (take l.i (zip l.memories l.entries))) l.initial.kept l.kept
