use Rattle.std.proofs.Common.{take}
use Rattle.elaborator.specs.Walk.{AreReadyRows}
use Rattle.elaborator.proofs.modules.all_ready.Given as goal

abbrev pub invariant-modules : goal.invariant-modules
invariant-modules l = AreReadyRows l.setting (take l.module-index l.setting.modules) l.rows
