use Rattle.std.proofs.Common.{rules, arith}
use Rattle.verilog_tree.proofs.Due.{follow, fails_after}
use Rattle.verilog_tree.proofs.Modules.{source_module, modules_start, modules_next, modules_end, source_answered}
use Rattle.verilog_tree.proofs.module.read_source.Goals as goal

pub modules-init : goal.modules-init
modules-init c = modules_start _ _ c.new-modules.ensures

pub returns-in_err-module : goal.returns-in_err-module
returns-in_err-module c =
    source_answered _ c.from_residual.result _ c.from_residual.ensures
    (fails_after (follow c.modules.invariant.goes (source_module _ _ (search rules))) c.in_err-module.ensures.stands)

pub modules-preserved : goal.modules-preserved
modules-preserved c = modules_next c.in_ok-push.ensures.ok (search rules) c.modules.invariant c.in_ok-module.ensures.stands

pub returns : goal.returns
returns c = modules_end _ _ _ (search rules) c.modules.invariant
