use Rattle.std.proofs.Common.{◌≡◌, ◌<◌, ◌∙◌, ap, sym, subst, length, arith, Some}
use Rattle.std.specs.Prelude.{slice_get, Contains, List}
use Rattle.std.proofs.lemmas.List.{length-map}
use Rattle.std.proofs.lemmas.Option.{slice_get-get_or, slice_get-map}
use Rattle.id_arena.specs.declared.keys.NetId.{NetId}
use Rattle.domain_groups.specs.declared.groups.NamedGroup.{NamedGroup}
use Rattle.domain_groups.specs.Members.{seen, SetsNets}
use Rattle.domain_groups.proofs.MemberRows.{member_below, row_more, all_rows}
use Rattle.domain_groups.proofs.groups.members_of.Goals as goal

pub set_nets-requires-clause-below : goal.set_nets-requires-clause-below
set_nets-requires-clause-below c =
    let within : c.groups.k < length c.args.groups.now = omega arith in
    let at = slice_get-get_or c.args.groups.now c.groups.k c.index-groups-k.result within in
    let wide = c.groups.invariant.width in
    λ n h.
    let low = member_below c.args.groups.now c.args.inputs.now c.args.nets c.requires.sound c.requires.below c.groups.k _ at n
    (subst (λ (nets : List NetId). Contains nets n) c.as_slice.ensures h) in
    omega arith

pub groups-preserved : goal.groups-preserved
groups-preserved c =
    let within : c.groups.k < length c.args.groups.now = omega arith in
    let at = slice_get-get_or c.args.groups.now c.groups.k c.index-groups-k.result within in
    let size = length-map c.args.groups.now seen in
    let few = c.requires.sound.few in
    row_more c.args.groups.now c.args.nets c.groups.members c.set_nets.new.table c.groups.k _ _ c.groups.invariant (omega arith) at
    (subst (SetsNets c.groups.members c.set_nets.new.table _) c.as_slice.ensures c.set_nets.ensures)

pub returns : goal.returns
returns c =
    let size = length-map c.args.groups.now seen in
    let few = c.requires.sound.few in
    all_rows c.args.groups.now c.args.inputs.now c.args.nets c.groups.members c.set_nets-2.new.table c.groups.k _ c.groups.invariant (omega arith) (omega arith) (omega arith) c.set_nets-2.ensures
