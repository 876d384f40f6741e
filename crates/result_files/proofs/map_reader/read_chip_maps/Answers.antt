use Rattle.std.proofs.Common.{rules}
use Rattle.result_files.specs.Map.{SaysEntry}
use Rattle.result_files.proofs.map_reader.read_chip_maps.Goals as goal
use Rattle.result_files.proofs.MapLemmas.{pair_at, pair_bad, say_one_more, all_pairs}

pub returns-in-Err-NotYet : goal.returns-in-Err-NotYet
returns-in-Err-NotYet c =
    pair_bad _ _ _ _ _ _ (pair_at c.args.chips.now c.args.trees.now c.chips.place _ _ (search rules) (search rules) c.index-chips-place.is c.index-trees-place.is)
    c.chips.invariant c.in-Err-NotYet.field-0-is c.in-Err-NotYet.ensures

pub chips-preserved : goal.chips-preserved
chips-preserved c =
    rw c.in_ok-push-in-Ok.ensures.ok
    (say_one_more (SaysEntry c.args.version) _ _ _ _ _
    (pair_at c.args.chips.now c.args.trees.now c.chips.place _ _ (search rules) (search rules) c.index-chips-place.is c.index-trees-place.is)
    c.chips.invariant c.in-Ok.ensures)

pub returns : goal.returns
returns c = all_pairs _ _ _ _ c.chips.place (search rules) c.chips.invariant
