use Rattle.std.proofs.lemmas.Option.{slice_get-get_or}
use Rattle.shape_check.proofs.frame_end.FrameEnd.all_have_after.Goals as goal

pub has_after-requires : goal.has_after-requires
has_after-requires c = c.requires c.nets.net-index _ (slice_get-get_or c.args.nets.now c.nets.net-index _ c.nets-test.true)
