use Rattle.std.proofs.Common.{take, map}
use Rattle.std.specs.List.{zip}
use Rattle.serde_json.specs.View.{view}
use Rattle.result_files.specs.Lists.{SayEach}
use Rattle.result_files.specs.Map.{SaysEntry}
use Rattle.result_files.proofs.map_reader.read_chip_maps.Given as goal

-- what is read is what the trees of the chips so far say
abbrev pub invariant-chips : goal.invariant-chips
invariant-chips l = SayEach (SaysEntry l.version) (take l.place (zip l.chips (map view l.trees))) l.entries
