use Rattle.std.proofs.Common.{arith}
use Rattle.clock_rank.proofs.Counting.{start_fits}
use Rattle.clock_rank.proofs.Steps.{start_is, read_added}
use Rattle.clock_rank.proofs.needs.add_read_needs.Goals as goal

pub add_word_needs-requires : goal.add_word_needs-requires
add_word_needs-requires c =
    let start = start_is _ _ c.requires.starts c.args.m.place c.place-in-None.result _ c.mem-memory.ensures.here c.place-in-None.ensures in
    let fits = start_fits _ _ _ c.requires.starts c.args.m.place _ c.mem-memory.ensures.here in
    let count = c.len-count.ensures in
    omega arith

pub returns-in_ok-add_word_needs-in-None : goal.returns-in_ok-add_word_needs-in-None
returns-in_ok-add_word_needs-in-None c =
    let start = start_is _ _ c.requires.starts c.args.m.place c.place-in-None.result _ c.mem-memory.ensures.here c.place-in-None.ensures in
    read_added c.args.design.now c.args.m c.args.port 0 _ _ c.mem-memory.ensures.here (rw c.from.ensures at c.get-read.ensures) c.in-None.is c.args.row.now.items _ _ _ start c.len-count.ensures
    c.in_ok-add_word_needs-in-None.ensures
