-- A kept net is one that no gate drives, and takes "before".
use Rattle.std.proofs.Common.{◌<◌, length, arith, ap}
use Rattle.output_marks.proofs.Kept.{put_kept}
use Rattle.output_marks.proofs.tables.put_if.Goals as goal

pub returns-then-is_kept : goal.returns-then-is_kept
returns-then-is_kept c =
    let there : c.args.net.place < length c.args.pass.now.pass.values = omega (arith, c.requires.there, c.stands.ensures.nets) in
    put_kept c.args.is_kept c.args.net.place c.args.pass.now c.set.new.self c.only_before.result c.if-is_kept.true c.only_before.ensures there
    (ap (λ s. s.chip) c.set.ensures.chip) c.set.ensures.taken c.set.ensures.others
