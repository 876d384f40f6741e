use Rattle.std.proofs.Common.{◌≡◌, drop}
use Rattle.std.specs.List.{list_any}
use Rattle.result_files.specs.Map.{is_clocked}
use Rattle.result_files.proofs.map_reader.has_clocked.Given as goal

abbrev pub invariant-subjects : goal.invariant-subjects
invariant-subjects l = list_any is_clocked (drop l.subject-index l.subjects) ≡ list_any is_clocked l.subjects
