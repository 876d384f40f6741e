use Rattle.std.proofs.Common.{◌≡◌, ◌<◌, length, arith, sym}
use Rattle.graph_cycle.specs.declared.search.Mark.TheVariants.{Fresh}
use Rattle.graph_cycle.specs.Search.{mark_at}
use Rattle.graph_cycle.proofs.Steps.{begins, begins_still, begins_met, fresh_read}
use Rattle.graph_cycle.proofs.search.Search.visit.Goals as goal

pub search-init : goal.search-init
search-init c =
    let room : c.args.root < length c.args.self.now.marks.items =
    let e = c.requires.search.stands.count in let h = c.requires.root in omega (arith, e, h) in
    let is : mark_at c.args.self.now.marks.items c.args.root ≡ Fresh =
    fresh_read c.args.self.now.marks.items c.args.root c.index.result.now room c.index.ensures (sym c.if-not-is_fresh.ensures) in
    record {
      search = begins _ c.args.self.now c.enter.new.self c.requires.search c.requires.blank _ c.requires.root is c.in_ok-enter.ensures;
      keeps = begins_still _ c.args.self.now c.enter.new.self c.requires.search c.requires.blank _ c.requires.root is c.in_ok-enter.ensures;
      met = begins_met _ c.args.self.now c.enter.new.self c.requires.search c.requires.blank _ c.requires.root is c.in_ok-enter.ensures;
    }
