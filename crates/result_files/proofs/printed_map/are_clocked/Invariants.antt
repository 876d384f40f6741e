use Rattle.std.proofs.Common.{◌≡◌, drop}
use Rattle.std.specs.List.{list_any}
use Rattle.result_files.specs.Map.{has_clocked}
use Rattle.result_files.proofs.printed_map.are_clocked.Given as goal

abbrev pub invariant-entries : goal.invariant-entries
invariant-entries l = list_any has_clocked (drop l.place l.entries) ≡ list_any has_clocked l.entries
