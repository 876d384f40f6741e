use Rattle.std.proofs.Common.{◌<◌, ◌∷◌, length, set, subst, sym}
use Rattle.link_rows.specs.Rows.{row}
use Rattle.link_rows.proofs.Held.{Holds, holds, holds-first, holds-front, holds-invariant, holds-view, holds-seen_apart}
use Rattle.link_rows.proofs.rows.Rows.push_front.Given.{Over}
use Rattle.link_rows.proofs.rows.Rows.push_front.Goals as goal

pub put_front-requires-clause-first : goal.put_front-requires-clause-first
put_front-requires-clause-first g c =
    let v = c.args.self.now in
    let within : c.place.result < length v.lists = subst (λ n. n < length v.lists) (sym c.place.ensures) c.requires.head in
    holds-first _ _ v (holds _ _ v c.self.view_is c.self.invariant) c.place.result within

-- the arrays hold the lists with the item at the front
after : (g : Over) (c : goal.After-put_front g) → Holds c.put_front.new.self.firsts.items c.put_front.new.self.links.items (record {
  lists = set c.args.self.now.lists (g.H.Key.place_of c.args.h) (g.I.Key.place_of c.args.i ∷ row c.args.self.now.lists (g.H.Key.place_of c.args.h));
  items = c.args.self.now.items;
})
after g c =
    let v = c.args.self.now in
    let new = c.put_front.new.self in
    holds-front _ _ v (holds _ _ v c.self.view_is c.self.invariant) (g.H.Key.place_of c.args.h) (g.I.Key.place_of c.args.i) c.place.result c.place-2.result new.firsts.items new.links.items
    c.requires.head c.requires.item c.requires.unlinked c.place.ensures c.place-2.ensures c.put_front.ensures.firsts c.put_front.ensures.links

pub invariant_of-self : goal.invariant_of-self
invariant_of-self g c = holds-invariant _ _ _ (after g c)

pub returns-clause-front : goal.returns-clause-front
returns-clause-front g c = holds-view _ _ _ (after g c)

pub returns-clause-apart : goal.returns-clause-apart
returns-clause-apart g c = holds-seen_apart _ _ _ (after g c)
