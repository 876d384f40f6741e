use Rattle.std.proofs.Common.{take}
use Rattle.std.specs.List.{list_any}
use Rattle.emu_machine.specs.Netlist.{is_chip_net}
use Rattle.mark_rule.specs.Kept.{TellsAlso}
use Rattle.mark_rule.proofs.kept.keep_bits.Given as goal

abbrev pub invariant-each : goal.invariant-each
invariant-each l = TellsAlso (λ n. list_any (is_chip_net n) (take l.net-index l.bits)) l.initial.kept l.kept
