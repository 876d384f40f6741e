-- The events that a text tells are events of their groups.
use Rattle.std.proofs.Common.{◌≡◌, ℕ, zero, suc, true, Some, slice_get, List, [], ◌∷◌, ◌++◌, Contains, codes, refl, sym, ap, ◌∙◌, subst}
use Rattle.std.specs.List.{AllZip, enumerate_from}
use Rattle.std.proofs.lemmas.Option.{none-some, same_Some}
use Rattle.id_arena.specs.declared.keys.NetId.{NetId}
use Rattle.design_core.specs.declared.parts.Port.{Port}
use Rattle.design_core.specs.declared.values.Event.{Event}
use Rattle.design_core.specs.declared.values.PortBit.{PortBit}
use Rattle.design_core.specs.Design.{includes, port_bits}
use Rattle.design_core.specs.Influence.{Group, all_groups}
use Rattle.design_core.specs.Operation.{bit_of}
use Rattle.emu_machine.specs.Acceptance.{Case}
use Rattle.facts.proofs.Lists.{Has, under_has, numbered}
use Rattle.facts.proofs.Places.{all_at, at_contains, at_map}
use Rattle.domain_groups.specs.Events.{WordSets, TellsEvent, RecordedEventsFit, are_inside}
use Rattle.domain_groups.specs.Groups.{InputGroups, AreOf, frames}
use Rattle.domain_groups.specs.Lines.{event_lines}
use Rattle.domain_groups.specs.Settings.{Setting, bits_set}
use Rattle.domain_groups.specs.Values.{shown_bits}
use Rattle.domain_groups.proofs.NodeMarks.{at_includes}

-- an element of the second list has a partner in the first
zip_first : {X Y : Type 0} (R : X → Y → Type 0) (xs : List X) (ys : List Y) (k : ℕ) (y : Y) → AllZip R xs ys → slice_get ys k ≡ Some y → (x : X) × R x y
zip_first R [] [] k y all at = absurd (none-some y at)
zip_first R [] (z ∷ ys) k y all at = absurd all
zip_first R (x ∷ xs) [] k y all at = absurd all
zip_first R (x ∷ xs) (z ∷ ys) zero y all at = (x, subst (R x) (same_Some z y at) all.0)
zip_first R (x ∷ xs) (z ∷ ys) (suc k) y all at = zip_first R xs ys k y all.1 at

-- the bits that a port of a group is given are the group's
shown_inside : (group : Group) (s : Setting) (b : PortBit) → are_inside group s.nets ≡ true → Has (shown_bits s.nets s.number) b → Contains group.nets b.net
shown_inside group s b inside h =
    let pair = at_map (λ (k, net). record { net = net; value = bit_of s.number k }) (enumerate_from 0 s.nets) h.place b h.at in
    let there = numbered s.nets 0 h.place pair.0 pair.1 in
    let held = at_includes group.nets pair.0.1 (all_at (λ (net : NetId). includes group.nets net.place) s.nets h.place pair.0.1 inside there.at) in
    subst (λ (c : PortBit). Contains group.nets c.net) (sym pair.2) held

all_inside : (ports : List Port) (group : Group) (given : List (List ℕ)) (settings : List Setting) (b : PortBit)
    → AllZip (WordSets ports group) given settings → Contains (bits_set settings) b → Contains group.nets b.net
all_inside ports group given settings b each here =
    let at = at_contains (bits_set settings) b here in
    let under = under_has (λ (s : Setting). shown_bits s.nets s.number) settings b (record { place = at.0; at = at.1 }) in
    let word = zip_first (WordSets ports group) given settings under.place under.item each under.at in
    shown_inside group under.item b word.1.inside under.has

same_frames : (c : Case) (v : InputGroups) → v.groups ≡ c.groups → AreOf c.design v → frames v ≡ all_groups c.design c.groups
same_frames c v groups inputs =
    ap (λ (gs : List Group). gs ++ record { name = codes "*"; nets = v.inputs } ∷ []) groups
    ∙ ap (λ (ns : List NetId). c.groups ++ record { name = codes "*"; nets = ns } ∷ []) inputs

pub events_fit : RecordedEventsFit
events_fit c v text events groups inputs says = λ k event at.
    let told = zip_first (λ (numbered : ℕ × List ℕ). TellsEvent v c.design.inputs numbered.1) (event_lines text) events k event says at in
    let t = told.1 in
    record {
      group = t.group;
      named = subst (λ (gs : List Group). slice_get gs event.group.place ≡ Some t.group) (same_frames c v groups inputs) t.of_group.there;
      inputs = λ b here. all_inside c.design.inputs t.group t.further t.settings b t.set.each (subst (λ (bits : List PortBit). Contains bits b) t.bits here);
    }
