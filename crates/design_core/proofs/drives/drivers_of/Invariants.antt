-- The drivers so far are those of the entries so far, each of which tells one.
use Rattle.std.proofs.Common.{◌≡◌, ◌<◌, ℕ, true, Some, map, take, is_some}
use Rattle.design_core.specs.Drives.{the_driver, told_at}
use Rattle.design_core.proofs.drives.drivers_of.Given as goal

abbrev pub invariant-nets : goal.invariant-nets
invariant-nets l = record {
  made : map Some l.drivers.items ≡ map the_driver (take l.place l.table);
  earlier : (m : ℕ) → m < l.place → is_some (told_at l.table m) ≡ true;
}
