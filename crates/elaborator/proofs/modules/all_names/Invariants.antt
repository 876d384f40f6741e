use Rattle.std.proofs.Common.{◌≡◌, drop, take}
use Rattle.flattening.specs.Places.{module_names}
use Rattle.flattening.specs.Steps.{first_fault}
use Rattle.elaborator.specs.Walk.{tests_from}
use Rattle.elaborator.proofs.modules.all_names.Given as goal

abbrev pub invariant-modules : goal.invariant-modules
invariant-modules l =
    (l.names ≡ take l.module-index (module_names l.setting))
    × (first_fault (tests_from l.setting l.module-index (drop l.module-index l.setting.modules)) ≡ first_fault (tests_from l.setting 0 l.setting.modules))
