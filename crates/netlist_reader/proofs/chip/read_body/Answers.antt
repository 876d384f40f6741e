use Rattle.std.proofs.Common.{sym, subst}
use Rattle.emu_machine.specs.Building.{IsGateOf, IsMemoryOf, IsRegisterOf}
use Rattle.netlist_reader.specs.Faults.{nets_over}
use Rattle.netlist_reader.specs.Inside.{AreApart}
use Rattle.netlist_reader.specs.Netlist.{gate_words, memory_words, register_words}
use Rattle.netlist_reader.proofs.Bodies.{body_read, end_stops, gates_stop, memories_stop, nets_stop, over_fits, registers_stop}
use Rattle.netlist_reader.proofs.ItemLines.{gates_apart, registers_apart}
use Rattle.netlist_reader.proofs.MemoryLines.{memories_apart}
use Rattle.netlist_reader.proofs.chip.read_body.Goals as goal

pub returns-in_err-nets : goal.returns-in_err-nets
returns-in_err-nets c = nets_stop _ _ _ _ c.from_residual.ensures c.in_err-nets.ensures

pub read_lines-requires-clause-apart : goal.read_lines-requires-clause-apart
read_lines-requires-clause-apart c = subst (λ m. AreApart (IsGateOf m) gate_words) (sym c.named_nets-named.ensures) (gates_apart (nets_over c.in_ok-nets.nets) (over_fits c.in_ok-nets.nets c.in_ok-nets.ensures.0))

pub returns-in_err-gates : goal.returns-in_err-gates
returns-in_err-gates c =
    gates_stop c.in_ok-nets.nets c.named_nets-named.result c.named_nets-named.ensures c.in_ok-nets.ensures.0 _ _ c.in_ok-nets.ensures.1 c.in_ok-nets.ensures.2 _ _ _ c.from_residual-in_err-gates.ensures c.in_err-gates.ensures

pub read_lines-requires-2-clause-apart : goal.read_lines-requires-2-clause-apart
read_lines-requires-2-clause-apart c = subst (λ m. AreApart (IsRegisterOf m) register_words) (sym c.named_nets-named.ensures) (registers_apart (nets_over c.in_ok-nets.nets) (over_fits c.in_ok-nets.nets c.in_ok-nets.ensures.0))

pub returns-in_err-registers : goal.returns-in_err-registers
returns-in_err-registers c =
    registers_stop c.in_ok-nets.nets c.named_nets-named.result c.named_nets-named.ensures c.in_ok-nets.ensures.0 _ _ c.in_ok-nets.ensures.1 c.in_ok-nets.ensures.2
    c.in_ok-gates.gates _ c.in_ok-gates.ensures.0 c.in_ok-gates.ensures.1 c.in_ok-gates.ensures.2 _ _ _ c.from_residual-in_err-registers.ensures c.in_err-registers.ensures

pub read_lines-requires-3-clause-apart : goal.read_lines-requires-3-clause-apart
read_lines-requires-3-clause-apart c = subst (λ m. AreApart (IsMemoryOf m) memory_words) (sym c.named_nets-named.ensures) (memories_apart (nets_over c.in_ok-nets.nets) (over_fits c.in_ok-nets.nets c.in_ok-nets.ensures.0))

pub returns-in_err-memories : goal.returns-in_err-memories
returns-in_err-memories c =
    memories_stop c.in_ok-nets.nets c.named_nets-named.result c.named_nets-named.ensures c.in_ok-nets.ensures.0 _ _ c.in_ok-nets.ensures.1 c.in_ok-nets.ensures.2
    c.in_ok-gates.gates _ c.in_ok-gates.ensures.0 c.in_ok-gates.ensures.1 c.in_ok-gates.ensures.2
    c.in_ok-registers.registers _ c.in_ok-registers.ensures.0 c.in_ok-registers.ensures.1 c.in_ok-registers.ensures.2 _ _ _ c.from_residual-in_err-memories.ensures c.in_err-memories.ensures

pub returns-in_err-take : goal.returns-in_err-take
returns-in_err-take c =
    end_stops c.in_ok-nets.nets c.named_nets-named.result c.named_nets-named.ensures c.in_ok-nets.ensures.0 _ _ c.in_ok-nets.ensures.1 c.in_ok-nets.ensures.2
    c.in_ok-gates.gates _ c.in_ok-gates.ensures.0 c.in_ok-gates.ensures.1 c.in_ok-gates.ensures.2
    c.in_ok-registers.registers _ c.in_ok-registers.ensures.0 c.in_ok-registers.ensures.1 c.in_ok-registers.ensures.2
    c.in_ok-memories.memories _ _ _ _ c.in_ok-memories.ensures.0 c.in_ok-memories.ensures.1 c.in_ok-memories.ensures.2 c.from_residual-in_err-take.ensures c.in_err-take.ensures

pub returns : goal.returns
returns c =
    body_read c.in_ok-nets.nets c.named_nets-named.result c.in_ok-gates.gates c.in_ok-registers.registers c.in_ok-memories.memories _ _ _ _ _ _ c.named_nets-named.ensures
    c.in_ok-nets.ensures.0 c.in_ok-nets.ensures.1 c.in_ok-gates.ensures.0 c.in_ok-gates.ensures.1 c.in_ok-registers.ensures.0 c.in_ok-registers.ensures.1 c.in_ok-memories.ensures.0 c.in_ok-memories.ensures.1 c.in_ok-take.ensures.1
