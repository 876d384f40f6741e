use Rattle.std.proofs.Common.{◌≡◌, ◌++◌, drop}
use Rattle.flattening.specs.Steps.{first_fault}
use Rattle.elaborator.specs.Primitives.{terminal_nets, terminal_tests}
use Rattle.elaborator.proofs.primitive.read_terminals.Given as goal

abbrev pub invariant-terminals : goal.invariant-terminals
invariant-terminals l =
    record {
      tests : first_fault (terminal_tests l.setting l.instance (drop l.terminal-index l.terminals)) ≡ first_fault (terminal_tests l.setting l.instance l.terminals);
      nets : l.nets ++ terminal_nets l.setting l.instance (drop l.terminal-index l.terminals) ≡ terminal_nets l.setting l.instance l.terminals;
    }
