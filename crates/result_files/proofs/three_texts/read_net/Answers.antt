use Rattle.result_files.proofs.ThreeTexts.{net_said}
use Rattle.result_files.proofs.three_texts.read_net.Goals as goal

pub returns : goal.returns
returns c = net_said _ _ _ c.in_ok-chips.ensures.says c.in_ok-net.ensures
