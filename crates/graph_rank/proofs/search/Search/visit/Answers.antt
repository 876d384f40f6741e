use Rattle.std.proofs.Common.{◌<◌, length, arith, sym}
use Rattle.graph_rank.proofs.Finished.{begins, begins_met, fresh_read}
use Rattle.graph_rank.proofs.search.Search.visit.Goals as goal

pub search-init : goal.search-init
search-init c =
    let room : c.args.root < length c.args.self.now.marks.items =
    let e = c.requires.search.marks_count in let h = c.requires.root in omega arith in
    let new = fresh_read c.args.self.now.marks.items c.args.root c.index.result.now room c.index.ensures (sym c.if-not-is_fresh.ensures) in
    let step = begins _ _ _ _ c.requires.search c.requires.trail c.args.root c.requires.root new _ _ _
    c.in_ok-enter.ensures.marks c.in_ok-enter.ensures.next c.in_ok-enter.ensures.trail in
    record {
      search = step.search;
      keeps = step.keeps;
      met = begins_met _ c.args.root room _ c.in_ok-enter.ensures.marks;
    }
