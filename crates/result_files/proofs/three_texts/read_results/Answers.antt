use Rattle.std.proofs.Common.{rules}
use Rattle.result_files.proofs.ThreeTexts.{all_stand}
use Rattle.result_files.proofs.three_texts.read_results.Goals as goal

pub new-requires : goal.new-requires
new-requires c = all_stand _ _ _ _ c.in_ok-schedule.ensures.says c.in_ok-map.ensures (search rules)
