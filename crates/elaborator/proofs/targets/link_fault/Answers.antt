use Rattle.std.proofs.Common.{ap, refl, subst, sym, take, ◌+◌, ◌∙◌}
use Rattle.id_arena.specs.Names.{place_among}
use Rattle.flattening.specs.Links.{socket_names}
use Rattle.flattening.specs.Places.{name_in, start_in}
use Rattle.elaborator.specs.Targets.{AreMarked, link_names, target_fault_at}
use Rattle.elaborator.proofs.Marking.{fault_end, fault_here, fault_later, marked_next, none_marked}
use Rattle.elaborator.proofs.targets.link_fault.Goals as goal

pub links-init : goal.links-init
links-init c = (none_marked c.args.sockets.now c.in_ok-seen.seen c.len.result c.len.ensures c.in_ok-seen.ensures, refl)

pub links-preserved : goal.links-preserved
links-preserved c =
    let g = c.args.setting.now in
    let found = c.find-place.ensures ∙ ap (λ n. place_among (socket_names c.args.sockets.now) n) (c.name.ensures ∙ ap (λ link. name_in g link.port) c.link-item.is) in
    let at = c.start.ensures ∙ ap (λ link. start_in g link.port) c.link-item.is in
    let none = sym (ap (λ n. target_fault_at c.links.seen c.find-place.result n) at) ∙ sym c.fault_at.ensures ∙ c.in_default.is in (
      subst (λ seen. AreMarked c.args.sockets.now (link_names g (take (c.links.link-index + 1) c.args.links.now)) seen) (sym c.mark.ensures)
          (marked_next g c.args.sockets.now c.args.links.now c.links.link-index c.link-item.result c.links-test.true c.links.seen c.links.invariant.0 c.find-place.result found none),
      sym (fault_later g c.args.sockets.now c.args.links.now c.links.link-index c.link-item.result c.links-test.true c.links.seen c.links.invariant.0 c.find-place.result found none)
          ∙ c.links.invariant.1,
    )

pub returns-in-Some : goal.returns-in-Some
returns-in-Some c =
    let g = c.args.setting.now in
    let found = c.find-place.ensures ∙ ap (λ n. place_among (socket_names c.args.sockets.now) n) (c.name.ensures ∙ ap (λ link. name_in g link.port) c.link-item.is) in
    let at = c.start.ensures ∙ ap (λ link. start_in g link.port) c.link-item.is in
    let some = sym (ap (λ n. target_fault_at c.links.seen c.find-place.result n) at) ∙ sym c.fault_at.ensures ∙ c.in-Some.is in
    sym (fault_here g c.args.sockets.now c.args.links.now c.links.link-index c.link-item.result c.links-test.true c.links.seen c.links.invariant.0 c.find-place.result found c.in-Some.fault some)
    ∙ c.links.invariant.1

pub returns : goal.returns
returns c = sym (fault_end c.args.setting.now c.args.sockets.now c.args.links.now c.links.link-index c.links-test.false) ∙ c.links.invariant.1
