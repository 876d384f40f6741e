-- The nets that are left decide with what is found so far.
use Rattle.std.proofs.Common.{◌≡◌, drop}
use Rattle.design_core.specs.Reads.{lowest}
use Rattle.design_core.proofs.reads.lowest.Given as goal

abbrev pub invariant-nets : goal.invariant-nets
invariant-nets l = lowest l.table l.found ((drop l.net-index l.nets)) ≡ lowest l.table l.initial.found (l.nets)
