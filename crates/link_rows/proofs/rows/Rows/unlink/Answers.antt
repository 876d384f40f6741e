use Rattle.std.proofs.Common.{◌≡◌, Some, None, map, sym, subst, ap, ◌∙◌, rules}
use Rattle.link_rows.specs.Rows.{without}
use Rattle.link_rows.specs.Links.{link_of}
use Rattle.link_rows.proofs.Held.{Holds, holds, holds-owner, holds-loose, holds-cut, holds-cut_head, holds-cut_next, holds-cut_prev, holds-invariant, holds-view, holds-apart, holds-seen_apart}
use Rattle.link_rows.proofs.rows.Rows.unlink.Given.{Over}
use Rattle.link_rows.proofs.rows.Rows.unlink.Goals as goal

before : (g : Over) (c : goal.After-cut-arg-1 g) → Holds c.self.inside.arrays.firsts.items c.self.inside.arrays.links.items c.args.self.now
before g c = holds _ _ _ c.self.view_is c.self.invariant

owned : (g : Over) (c : goal.After-cut-arg-1 g) → (link_of c.self.inside.arrays.links.items c.place-item.result).owner ≡ Some c.in-Some.head
owned g c = holds-owner _ _ _ (before g c) (g.I.Key.place_of c.args.i) c.place-item.result c.index.result.now (Some c.in-Some.head) c.requires c.place-item.ensures c.index.ensures c.in-Some.is

pub cut-requires-clause-head : goal.cut-requires-clause-head
cut-requires-clause-head g c = holds-cut_head _ _ _ (before g c) c.in-Some.head c.place-item.result (owned g c)

pub cut-requires-clause-next : goal.cut-requires-clause-next
cut-requires-clause-next g c = holds-cut_next _ _ _ (before g c) c.in-Some.head c.place-item.result (owned g c)

pub cut-requires-clause-prev : goal.cut-requires-clause-prev
cut-requires-clause-prev g c = holds-cut_prev _ _ _ (before g c) c.in-Some.head c.place-item.result (owned g c)

-- the arrays hold the lists without the item
after : (g : Over) (c : goal.After-cut g) → Holds c.cut.new.self.firsts.items c.cut.new.self.links.items (record {
  lists = map (without (g.I.Key.place_of c.args.i)) c.args.self.now.lists;
  items = c.args.self.now.items;
})
after g c =
    let v = c.args.self.now in
    let new = c.cut.new.self in
    let held = holds _ _ v c.self.view_is c.self.invariant in
    let by = holds-owner _ _ v held (g.I.Key.place_of c.args.i) c.place-item.result c.index.result.now (Some c.in-Some.head) c.requires c.place-item.ensures c.index.ensures c.in-Some.is in
    let cut = holds-cut _ _ v held c.in-Some.head c.place-item.result by new.firsts.items new.links.items c.cut.ensures.firsts c.cut.ensures.links in
    subst (λ n. Holds new.firsts.items new.links.items (record { lists = map (without n) v.lists; items = v.items })) c.place-item.ensures cut

pub invariant_of-self : goal.invariant_of-self
invariant_of-self g c = holds-invariant _ _ _ (after g c)

pub returns-in-Some-clause-out : goal.returns-in-Some-clause-out
returns-in-Some-clause-out g c = holds-view _ _ _ (after g c)

pub returns-in-Some-clause-apart : goal.returns-in-Some-clause-apart
returns-in-Some-clause-apart g c = holds-seen_apart _ _ _ (after g c)

pub returns-in_default-clause-out : goal.returns-in_default-clause-out
returns-in_default-clause-out g c =
    let v = c.args.self.now in
    let held = holds _ _ v c.self.view_is c.self.invariant in
    let none : c.index.result.now.owner ≡ None = search rules in
    let loose = holds-owner _ _ v held (g.I.Key.place_of c.args.i) c.place-item.result c.index.result.now None c.requires c.place-item.ensures c.index.ensures none in
    let same = holds-view _ _ _ (holds-loose _ _ v held c.place-item.result loose) in
    sym c.self.view_is ∙ same ∙ ap (λ n. record { lists = map (without n) v.lists; items = v.items }) c.place-item.ensures

pub returns-in_default-clause-apart : goal.returns-in_default-clause-apart
returns-in_default-clause-apart g c = holds-apart _ _ c.args.self.now (holds _ _ c.args.self.now c.self.view_is c.self.invariant)
