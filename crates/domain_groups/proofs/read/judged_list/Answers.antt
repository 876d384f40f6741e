use Rattle.std.proofs.Common.{◌≡◌, ◌<◌, ◌+◌, ◌++◌, ◌∙◌, List, Bool, None, drop, get_or, take, length, sym, ap, subst, arith, Some}
use Rattle.std.proofs.lemmas.List.{take_at}
use Rattle.std.proofs.lemmas.Option.{slice_get-get_or, same_Some}
use Rattle.domain_groups.specs.declared.written.WrittenGroup.{WrittenGroup}
use Rattle.domain_groups.specs.Judged.{fault_behind, group_of, ports_named, ports_of}
use Rattle.domain_groups.specs.Judging.{Marks}
use Rattle.domain_groups.proofs.Collected.{fault_told, sound_next, marks_next, groups_next}
use Rattle.domain_groups.proofs.read.judged_list.Goals as goal

pub returns-in-Some : goal.returns-in-Some
returns-in-Some c =
    let within : c.groups.k < length c.args.written.now = omega arith in
    let at = slice_get-get_or c.args.written.now c.groups.k c.index-written-k-in-groups.result within ∙ ap Some (sym c.index-written-k-in-groups.is) in
    fault_told c.args.ports.now c.args.written.now c.groups.k c.index-written-k-in-groups.result at c.in-Some.fault
    (sym c.fault_behind.ensures.fault ∙ c.in-Some.is) c.groups.invariant.sound

pub groups-preserved : goal.groups-preserved
groups-preserved c =
    let ports = c.args.ports.now in
    let written = c.args.written.now in
    let k = c.groups.k in
    let g = c.index-written-k-in-groups.result in
    let within : c.groups.k < length c.args.written.now = omega arith in
    let at = slice_get-get_or written k g within ∙ ap Some (sym c.index-written-k-in-groups.is) in
    let first : get_or written k c.index-written-k.result ≡ g = same_Some _ g (sym (slice_get-get_or written k c.index-written-k.result within) ∙ at) in
    let again : c.index-written-k-in-groups-2.result ≡ g = c.index-written-k-in-groups-2.is ∙ same_Some _ g (sym (slice_get-get_or written k c.index-written-k-in-groups-2.result within) ∙ at) in
    let none : fault_behind ports (take k written) g ≡ None = sym c.fault_behind.ensures.fault ∙ c.in_default.is in
    let size : length c.fault_behind.new.marks ≡ c.groups.marks.len = c.fault_behind.auto.marks ∙ c.deref_mut.ensures.len in
    let whole = take_at c.fault_behind.new.marks (drop (length c.fault_behind.new.marks) c.groups.marks.items) c.groups.marks.len size in
    let named = c.as_slice-in-groups.ensures.value ∙ c.in_ok-places.ensures.named ∙ ap (ports_named ports) c.as_slice.ensures ∙ ap (λ (x : WrittenGroup). ports_named ports x.ports) first in
    let marked = marks_next ports written k g at c.fault_behind.new.marks c.as_slice-in-groups.result.now named (c.fault_behind.ensures.marked c.in_default.is) in
    record {
      sound = sound_next ports written k g at none c.groups.invariant.sound;
      size = ap length whole ∙ c.fault_behind.ensures.size ∙ ap length c.deref_mut.ensures.value ∙ c.groups.invariant.size;
      marks = subst (λ (m : List Bool). Marks m (ports_of ports (take (k + 1) written))) (sym whole) marked;
      are = groups_next ports written k g at c.groups.groups c.push.new.self c.in_ok-named_group.field-0 c.in_ok-push.ensures.ok (c.in_ok-named_group.ensures ∙ ap (group_of ports) again) c.groups.invariant.are;
    }
