use Rattle.std.proofs.Common.{◌≡◌, ◌∙◌, List, map, length, sym, ap, subst, arith}
use Rattle.std.specs.Prelude.{Contains}
use Rattle.id_arena.specs.declared.keys.NetId.{NetId}
use Rattle.design_core.specs.declared.parts.Port.{Port}
use Rattle.design_core.specs.Design.{port_bits}
use Rattle.domain_groups.specs.Judged.{FirstAreSound, group_of}
use Rattle.domain_groups.specs.Members.{seen, all_seen}
use Rattle.domain_groups.proofs.GroupNets.{are_groups, input_there}
use Rattle.domain_groups.proofs.read.judged.Goals as goal

pub from_parts-requires-clause-sound : goal.from_parts-requires-clause-sound
from_parts-requires-clause-sound c =
    let p = c.args.design.now in
    let same = c.in_ok-ports.ensures ∙ c.as_slice.ensures ∙ c.inputs.ensures in
    are_groups p c.stands.ensures.design c.args.written.now c.requires
    (subst (λ (ports : List Port). FirstAreSound ports c.args.written.now (length c.args.written.now)) same c.in_ok-groups.ensures.0)
    (all_seen c.in_ok-groups.groups c.in_ok-inputs.inputs)
    (subst (λ (ports : List Port). map seen c.in_ok-groups.groups ≡ map (group_of ports) c.args.written.now) same c.in_ok-groups.ensures.1)
    (c.in_ok-inputs.ensures ∙ ap port_bits (c.as_slice-2.ensures ∙ c.inputs-2.ensures))

pub from_parts-requires-clause-below : goal.from_parts-requires-clause-below
from_parts-requires-clause-below c =
    let inputs = c.in_ok-inputs.ensures ∙ ap port_bits (c.as_slice-2.ensures ∙ c.inputs-2.ensures) in
    let count = c.nets.ensures.count in
    λ n h.
    let low = input_there c.args.design.now c.stands.ensures.design n (subst (λ (xs : List NetId). Contains xs n) inputs h) in
    omega arith
