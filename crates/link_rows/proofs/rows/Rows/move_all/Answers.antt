use Rattle.std.proofs.Common.{◌∙◌, ap}
use Rattle.std.specs.Option.{option_map}
use Rattle.link_rows.proofs.Moves.{moves-start, moves-end, moving-linked, moving-item, moving-next, moving-shorter, moving-room, moving-unlinked, placed}
use Rattle.link_rows.proofs.rows.Rows.move_all.Goals as goal

pub back-init : goal.back-init
back-init g c =
    let last = ap (option_map g.I.Key.place_of) c.last-at.ensures.last ∙ placed g.I.Key.place_of g.I.Key.key_of g.met.I.Key.place_of_key _ in
    moves-start c.args.self.now (g.H.Key.place_of c.args.from) (g.H.Key.place_of c.args.to) _ c.last-at.ensures.apart last

pub before-at-requires : goal.before-at-requires
before-at-requires g c =
    moving-linked c.args.self.now c.back.self (g.H.Key.place_of c.args.from) (g.H.Key.place_of c.args.to) (g.I.Key.place_of c.in-Some.item) _ c.back.invariant (ap (option_map g.I.Key.place_of) c.in-Some.is) c.requires.differ c.requires.from c.requires.to

pub unlink-requires : goal.unlink-requires
unlink-requires g c =
    moving-item c.args.self.now c.back.self (g.H.Key.place_of c.args.from) (g.H.Key.place_of c.args.to) (g.I.Key.place_of c.in-Some.item) _ c.back.invariant (ap (option_map g.I.Key.place_of) c.in-Some.is) c.requires.differ c.requires.from c.requires.to

pub push_front-requires-clause-item : goal.push_front-requires-clause-item
push_front-requires-clause-item g c =
    moving-room c.args.self.now c.back.self (g.H.Key.place_of c.args.from) (g.H.Key.place_of c.args.to) (g.I.Key.place_of c.in-Some.item) _ c.back.invariant (ap (option_map g.I.Key.place_of) c.in-Some.is) c.requires.differ c.requires.from c.requires.to
    c.unlink.new.self c.unlink.ensures.out

pub push_front-requires-clause-unlinked : goal.push_front-requires-clause-unlinked
push_front-requires-clause-unlinked g c =
    moving-unlinked c.args.self.now c.back.self (g.H.Key.place_of c.args.from) (g.H.Key.place_of c.args.to) (g.I.Key.place_of c.in-Some.item) _ c.back.invariant (ap (option_map g.I.Key.place_of) c.in-Some.is) c.requires.differ c.requires.from c.requires.to
    c.unlink.new.self c.unlink.ensures.out

pub back-smaller : goal.back-smaller
back-smaller g c =
    moving-shorter c.args.self.now c.back.self (g.H.Key.place_of c.args.from) (g.H.Key.place_of c.args.to) (g.I.Key.place_of c.in-Some.item) _ c.back.invariant (ap (option_map g.I.Key.place_of) c.in-Some.is) c.requires.differ c.requires.from c.requires.to
    c.unlink.new.self c.push_front.new.self c.unlink.ensures.out c.push_front.ensures.front

pub back-preserved : goal.back-preserved
back-preserved g c =
    let prev = ap (option_map g.I.Key.place_of) c.before-at.ensures ∙ placed g.I.Key.place_of g.I.Key.key_of g.met.I.Key.place_of_key _ in
    moving-next c.args.self.now c.back.self (g.H.Key.place_of c.args.from) (g.H.Key.place_of c.args.to) (g.I.Key.place_of c.in-Some.item) _ c.back.invariant (ap (option_map g.I.Key.place_of) c.in-Some.is) c.requires.differ c.requires.from c.requires.to
    c.unlink.new.self c.push_front.new.self _ c.unlink.ensures.out c.push_front.ensures.front c.push_front.ensures.apart prev

pub returns-clause-moved : goal.returns-clause-moved
returns-clause-moved g c =
    moves-end c.args.self.now c.back.self (g.H.Key.place_of c.args.from) (g.H.Key.place_of c.args.to) _ c.back.invariant (ap (option_map g.I.Key.place_of) c.in_default.is) c.requires.differ
