-- Each memory has an element, or the rest is bad.
use Rattle.std.proofs.Common.{◌≡◌, ◌∙◌, Some, length, map, false, ap, sym}
use Rattle.std.specs.Prelude.{is_some}
use Rattle.std.specs.List.{list_all}
use Rattle.design_core.proofs.Singles.{are_good, are_owners, are_single, rest_bad}
use Rattle.design_core.proofs.build.good_owners.Goals as goal

pub returns-in_default-clause-fault : goal.returns-in_default-clause-fault
returns-in_default-clause-fault c =
    let p = c.args.parts.now in
    let found = c.in_ok-found.found.items in
    let none : list_all is_some found ≡ false = rw (c.in_default.is, c.deref.ensures.value) at c.in_ok-owners.ensures in
    let rest : c.of-rest.result.place ≡ length p.elements = ap (λ e. e.place) c.of-rest.ensures ∙ c.len.ensures in
    rest_bad p found c.in_ok-found.ensures.owned c.of-rest.result.place rest none c.in_ok-found.ensures.good

pub returns-clause-good : goal.returns-clause-good
returns-clause-good c =
    let p = c.args.parts.now in
    let found = c.in_ok-found.found.items in
    let all : map Some c.in-Some.owners.items ≡ found = rw (c.in-Some.is, c.deref.ensures.value) at c.in_ok-owners.ensures in
    are_good p found c.in_ok-found.ensures.owned c.in-Some.owners.items all (sym c.around_good.ensures ∙ c.if-not-around_good.false) c.in_ok-found.ensures.good

pub returns-clause-single : goal.returns-clause-single
returns-clause-single c =
    let p = c.args.parts.now in
    let found = c.in_ok-found.found.items in
    let all : map Some c.in-Some.owners.items ≡ found = rw (c.in-Some.is, c.deref.ensures.value) at c.in_ok-owners.ensures in
    are_single p found c.in_ok-found.ensures.owned c.in-Some.owners.items all

pub returns-clause-owners : goal.returns-clause-owners
returns-clause-owners c =
    let p = c.args.parts.now in
    let found = c.in_ok-found.found.items in
    let all : map Some c.in-Some.owners.items ≡ found = rw (c.in-Some.is, c.deref.ensures.value) at c.in_ok-owners.ensures in
    are_owners p found c.in_ok-found.ensures.owned c.in-Some.owners.items all
