-- The elements so far are the owners so far.
use Rattle.std.proofs.Common.{◌≡◌, Some, map, take}
use Rattle.design_core.proofs.owners.all_owners.Given as goal

abbrev pub invariant-memories : goal.invariant-memories
invariant-memories l = map Some l.elems.items ≡ take l.owner-index l.owners
