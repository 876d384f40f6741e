use Rattle.std.proofs.Common.{◌≡◌, subst, arith, List, Some}
use Rattle.std.specs.Prelude.{Contains, option_map, slice_get}
use Rattle.id_arena.specs.declared.keys.GroupId.{GroupId}
use Rattle.id_arena.specs.declared.keys.NetId.{NetId}
use Rattle.design_core.specs.Influence.{Group}
use Rattle.domain_groups.specs.Groups.{frames}
use Rattle.domain_groups.proofs.FrameRows.{frame_inputs, all_reached}
use Rattle.domain_groups.proofs.influences.influence.Goals as goal

pub reach-requires-clause-inputs : goal.reach-requires-clause-inputs
reach-requires-clause-inputs c =
    let at = subst (λ (g : GroupId). option_map (λ (group : Group). group.nets) (slice_get (frames c.args.groups.now) g.place) ≡ Some c.nets.result.now) c.of.ensures c.nets.ensures in
    λ n h.
    frame_inputs c.args.ranked.now.design c.args.groups.now c.stands.ensures c.requires c.frames.k c.nets.result.now at n
    (subst (λ (xs : List NetId). Contains xs n) c.as_slice.ensures h)

pub returns : goal.returns
returns c =
    let size = c.len-count.ensures.count in
    all_reached c.args.ranked.now.design c.args.groups.now c.requires c.frames.table c.frames.k c.frames.invariant (omega arith)
