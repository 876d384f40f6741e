use Rattle.std.proofs.Common.{◌≡◌, drop, map}
use Rattle.module_nets.specs.Names.{is_among}
use Rattle.flattening.specs.Places.{module_names, name_in}
use Rattle.elaborator.proofs.top.has_module.Given as goal

abbrev pub invariant-modules : goal.invariant-modules
invariant-modules l = is_among (map (λ m. name_in l.setting m.name) (drop l.module-index l.setting.modules)) l.top ≡ is_among (module_names l.setting) l.top
