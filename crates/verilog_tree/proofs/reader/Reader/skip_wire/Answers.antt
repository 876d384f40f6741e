use Rattle.std.proofs.Common.{rules, arith, refl}
use Rattle.verilog_tree.specs.declared.terminal.Terminal.TheVariants.{Wire}
use Rattle.verilog_tree.specs.Grammar as grammar
use Rattle.verilog_tree.proofs.Due.{here_within}
use Rattle.verilog_tree.proofs.Begins.{wire_begins, wire_absent}
use Rattle.verilog_tree.proofs.reader.Reader.skip_wire.Goals as goal

pub returns-in-Some-Wire : goal.returns-in-Some-Wire
returns-in-Some-Wire c = record {
  stands = grammar.a_wire _ _ (record { here = search rules; after = refl });
  goes = wire_begins (search rules);
  forward = omega arith;
  inside = here_within _ _ Wire (search rules);
}

pub returns-in_default : goal.returns-in_default
returns-in_default c = record { stands = grammar.no_wire _; goes = wire_absent _ _ (search rules); forward = omega arith; inside = c.requires }

pub returns-in_default-2 : goal.returns-in_default-2
returns-in_default-2 c = record { stands = grammar.no_wire _; goes = wire_absent _ _ (search rules); forward = omega arith; inside = c.requires }
