use Rattle.std.proofs.Common.{◌∙◌, Some, ap, sym, ◌<◌, length, arith}
use Rattle.std.specs.Option.{option_map}
use Rattle.link_rows.specs.Rows.{row}
use Rattle.link_rows.proofs.Held.{holds, holds-apart, holds-first_of, holds-item, holds-after}
use Rattle.link_rows.proofs.Lasts.{last_or-empty, walks-start, walks-step, walks-end, walks-falls}
use Rattle.link_rows.proofs.rows.Rows.last.Goals as goal

pub returns-in_err-at-clause-last : goal.returns-in_err-at-clause-last
returns-in_err-at-clause-last g c =
    let v = c.args.self.now in
    let xs = row v.lists (g.H.Key.place_of c.args.h) in
    let first = holds-first_of _ _ v (holds _ _ v c.self.view_is c.self.invariant) (g.H.Key.place_of c.args.h) c.place.result c.index.result.now c.requires c.place.ensures c.index.ensures in
    let none = last_or-empty xs (sym first ∙ c.in_err-at.was) in
    c.from_residual.ensures ∙ ap (option_map g.I.Key.key_of) (sym none)

pub returns-in_err-at-clause-apart : goal.returns-in_err-at-clause-apart
returns-in_err-at-clause-apart g c = holds-apart _ _ c.args.self.now (holds _ _ c.args.self.now c.self.view_is c.self.invariant)

pub forth-init : goal.forth-init
forth-init g c =
    let v = c.args.self.now in
    let first = holds-first_of _ _ v (holds _ _ v c.self.view_is c.self.invariant) (g.H.Key.place_of c.args.h) c.place.result c.index.result.now c.requires c.place.ensures c.index.ensures in
    walks-start _ c.in_ok-at.at (sym first ∙ c.in_ok-at.was)

pub index-requires-in-forth : goal.index-requires-in-forth
index-requires-in-forth g c =
    let v = c.args.self.now in
    let links = c.self.inside.arrays.links in
    let within : c.forth.at < length links.items = holds-item _ _ v (holds _ _ v c.self.view_is c.self.invariant) (g.H.Key.place_of c.args.h) c.forth.at c.forth.invariant.here in
    omega (arith, links.ok.0)

pub forth-smaller : goal.forth-smaller
forth-smaller g c =
    let v = c.args.self.now in
    let head = g.H.Key.place_of c.args.h in
    let next = holds-after _ _ v (holds _ _ v c.self.view_is c.self.invariant) head c.forth.at c.index-in-forth.result.now c.forth.invariant.here c.index-in-forth.ensures in
    let apart = holds-apart _ _ v (holds _ _ v c.self.view_is c.self.invariant) in
    walks-falls (row v.lists head) c.forth.at c.in-Some.next (apart.each head) (sym next ∙ c.in-Some.is)

pub forth-preserved : goal.forth-preserved
forth-preserved g c =
    let v = c.args.self.now in
    let head = g.H.Key.place_of c.args.h in
    let next = holds-after _ _ v (holds _ _ v c.self.view_is c.self.invariant) head c.forth.at c.index-in-forth.result.now c.forth.invariant.here c.index-in-forth.ensures in
    let apart = holds-apart _ _ v (holds _ _ v c.self.view_is c.self.invariant) in
    walks-step (row v.lists head) c.forth.at c.in-Some.next (apart.each head) c.forth.invariant (sym next ∙ c.in-Some.is)

pub returns-clause-last : goal.returns-clause-last
returns-clause-last g c =
    let v = c.args.self.now in
    let head = g.H.Key.place_of c.args.h in
    let next = holds-after _ _ v (holds _ _ v c.self.view_is c.self.invariant) head c.forth.at c.index-in-forth.result.now c.forth.invariant.here c.index-in-forth.ensures in
    let last = walks-end (row v.lists head) c.forth.at c.forth.invariant (sym next ∙ c.in_default.is) in
    ap Some c.of.ensures ∙ ap (option_map g.I.Key.key_of) (sym last)

pub returns-clause-apart : goal.returns-clause-apart
returns-clause-apart g c = holds-apart _ _ c.args.self.now (holds _ _ c.args.self.now c.self.view_is c.self.invariant)
