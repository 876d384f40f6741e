use Rattle.std.proofs.Common.{◌≡◌, ◌≤◌, ◌∙◌, false, Some, length, ap, sym, subst, arith}
use Rattle.std.specs.Prelude.{option_map, slice_get}
use Rattle.design_core.specs.Design.{includes}
use Rattle.design_core.specs.Influence.{Group}
use Rattle.domain_groups.specs.Groups.{InputGroups, frames}
use Rattle.domain_groups.proofs.Faulty.{not_less}
use Rattle.domain_groups.proofs.MemberRows.{has_beyond}
use Rattle.domain_groups.proofs.groups.Groups.has.Goals as goal

pub returns-else-place-width : goal.returns-else-place-width
returns-else-place-width c =
    let within = subst (λ (v : InputGroups). c.args.g.place ≤ length v.groups) (sym c.self.view_is) c.requires in
    let wide = c.width.ensures.width in
    let place = c.place.ensures in
    let beyond = has_beyond _ c.self.inside.members c.self.invariant.1 c.width.ensures.rectangular c.args.g.place c.args.net.place within (omega arith) in
    subst (λ (v : InputGroups). option_map (λ (group : Group). includes group.nets c.args.net.place) (slice_get (frames v) c.args.g.place) ≡ Some false) c.self.view_is beyond
    ∙ ap Some (sym (not_less c.place.result c.width.result (omega arith)))
