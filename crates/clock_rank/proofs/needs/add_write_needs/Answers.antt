use Rattle.std.proofs.Common.{arith}
use Rattle.std.proofs.lemmas.Option.{slice_get_within}
use Rattle.clock_rank.proofs.Counting.{start_fits}
use Rattle.clock_rank.proofs.Steps.{start_is, write_added}
use Rattle.clock_rank.proofs.needs.add_write_needs.Goals as goal

pub overflow_add-starts : goal.overflow_add-starts
overflow_add-starts c =
    let start = start_is _ _ c.requires.starts c.args.m.place c.place-2.result _ c.mem.ensures.here c.place-2.ensures in
    let fits = start_fits _ _ _ c.requires.starts c.args.m.place _ c.mem.ensures.here in
    let below = slice_get_within _ c.args.port _ (rw c.from.ensures at c.get.ensures) in
    omega arith

pub returns : goal.returns
returns c =
    let start = start_is _ _ c.requires.starts c.args.m.place c.place-2.result _ c.mem.ensures.here c.place-2.ensures in
    write_added c.args.design.now c.args.m c.args.port _ _ c.mem.ensures.here (rw c.from.ensures at c.get.ensures) c.args.row.now.items _ _ _ start c.if-port-eq0.false
    (rw c.place.ensures at c.in_ok-push.ensures.items) c.in_ok-push-2.ensures.items
