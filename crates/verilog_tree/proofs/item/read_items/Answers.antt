use Rattle.std.proofs.Common.{rules, arith}
use Rattle.verilog_tree.specs.declared.terminal.Terminal.TheVariants.{EndModule}
use Rattle.verilog_tree.specs.Grammar.{IsItem, Many}
use Rattle.verilog_tree.specs.Predict.{Closed}
use Rattle.verilog_tree.proofs.Begins.{items_item}
use Rattle.verilog_tree.proofs.Due.{follow, halted}
use Rattle.verilog_tree.proofs.Items.{items_start, items_next, items_read}
use Rattle.verilog_tree.proofs.item.read_items.Goals as goal

pub items-init : goal.items-init
items-init c = items_start _ _ _ c.requires c.new-items.ensures

pub returns-in_err-item : goal.returns-in_err-item
returns-in_err-item c =
    halted (Closed c.args.reader.now (Many (IsItem c.args.reader.now)) EndModule) c.from_residual.result c.from_residual.ensures
    (follow c.items.invariant.goes (items_item _ _ (search rules))) c.in_err-item.ensures.stands

pub items-preserved : goal.items-preserved
items-preserved c = items_next c.in_ok-push.ensures.ok (search rules) c.items.invariant c.in_ok-item.ensures.stands

pub returns : goal.returns
returns c = items_read (search rules) c.items.invariant
