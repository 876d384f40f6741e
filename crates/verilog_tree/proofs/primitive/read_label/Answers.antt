use Rattle.std.proofs.Common.{rules, arith, refl}
use Rattle.verilog_tree.specs.declared.terminal.Terminal.TheVariants.{Name}
use Rattle.verilog_tree.specs.Grammar as grammar
use Rattle.verilog_tree.proofs.Due.{here_within}
use Rattle.verilog_tree.proofs.Begins.{label_begins, label_absent}
use Rattle.verilog_tree.proofs.primitive.read_label.Goals as goal

pub returns-in-Some-Name : goal.returns-in-Some-Name
returns-in-Some-Name c = record {
  stands = grammar.present _ _ _ (grammar.name _ _ (record { here = search rules; after = refl }));
  goes = label_begins (search rules);
  forward = omega arith;
  inside = here_within _ _ Name (search rules);
}

pub returns-in_default : goal.returns-in_default
returns-in_default c = record { stands = grammar.absent _; goes = label_absent _ _ (search rules); forward = omega arith; inside = c.requires }

pub returns-in_default-2 : goal.returns-in_default-2
returns-in_default-2 c = record { stands = grammar.absent _; goes = label_absent _ _ (search rules); forward = omega arith; inside = c.requires }
