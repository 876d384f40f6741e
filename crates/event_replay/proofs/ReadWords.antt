-- What the words of a line are found to be: the group that a name means, ports of it, and values.
use Rattle.std.proofs.Common.{◌≡◌, ◌↔◌, ℕ, zero, suc, ◌+◌, ◌<◌, ◌≤◌, ◌^◌, ltb, ◌&&◌, Bool, true, false, not, IsTrue, Option, Some, None, option_map, slice_get, List, [], ◌∷◌, ◌++◌, drop, get_or, length, refl, sym, ap, ◌∙◌, subst, arith, length-append}
use Rattle.std.specs.List.{list_all, position_from}
use Rattle.std.specs.Option.{option_map_or}
use Rattle.std.specs.Str.{bytes_eq}
use Rattle.std.proofs.lemmas.Bool.{true≢false, and_parts, lt-ltb}
use Rattle.std.proofs.lemmas.List.{drop_more}
use Rattle.std.proofs.lemmas.Option.{same_Some, slice_get_within, get_or_from_slice_get, slice_get-get_or}
use Rattle.facts.proofs.Tests.{below, mapped}
use Rattle.id_arena.specs.declared.keys.NetId.{NetId}
use Rattle.design_core.specs.declared.parts.Port.{Port}
use Rattle.design_core.specs.Influence.{Group}
use Rattle.domain_groups.specs.Events.{IsOfGroup, IsPort, are_inside, group_named}
use Rattle.domain_groups.specs.Groups.{InputGroups, frames}
use Rattle.domain_groups.specs.Lines.{is_bad, words}
use Rattle.domain_groups.specs.Ports.{port_named, nets_at}
use Rattle.domain_groups.specs.Values.{hex_number, is_hex, is_value}
use Rattle.event_replay.specs.Values.{IsValue}
use Rattle.domain_groups.proofs.FirstPorts.{first_yes, first_no, position_within}

-- ## Groups

drop_at : {X : Type 0} (xs : List X) (k : ℕ) (x : X) → slice_get xs k ≡ Some x → drop k xs ≡ x ∷ drop (k + 1) xs
drop_at xs k x at = drop_more xs k x (slice_get_within xs k x at) ∙ ap (λ y. y ∷ drop (k + 1) xs) (get_or_from_slice_get xs k x x at)

module _ (v : InputGroups) (name : List ℕ) (k : ℕ) (text : List ℕ) (here : option_map (λ (group : Group). group.name) (slice_get (frames v) k) ≡ Some text) where
  abbrev test : Group → Bool
  test group = bytes_eq name group.name

  -- the group at a place has the name that is looked for
  pub group_found : position_from test k (drop k (frames v)) ≡ group_named v name → bytes_eq name text ≡ true → Some k ≡ group_named v name
  group_found so_far same =
      let m = mapped (λ (group : Group). group.name) (slice_get (frames v) k) text here in
      sym (first_yes test k m.0 (drop (k + 1) (frames v)) (ap (bytes_eq name) m.2 ∙ same))
      ∙ sym (ap (position_from test k) (drop_at (frames v) k m.0 m.1)) ∙ so_far

  -- or it has another
  pub group_passed : position_from test k (drop k (frames v)) ≡ group_named v name → bytes_eq name text ≡ false → position_from test (k + 1) (drop (k + 1) (frames v)) ≡ group_named v name
  group_passed so_far no_match =
      let m = mapped (λ (group : Group). group.name) (slice_get (frames v) k) text here in
      sym (first_no test k m.0 (drop (k + 1) (frames v)) (ap (bytes_eq name) m.2 ∙ no_match))
      ∙ sym (ap (position_from test k) (drop_at (frames v) k m.0 m.1)) ∙ so_far

frame_within : (v : InputGroups) (name : List ℕ) (place : ℕ) → group_named v name ≡ Some place → place < length v.groups + 1
frame_within v name place found =
    let within = position_within (λ (group : Group). bytes_eq name group.name) 0 place (frames v) found in
    let count = length-append v.groups ((record { name = 42 ∷ []; nets = v.inputs }) ∷ []) in
    omega (arith, within.1, count)

pub frame_there : (v : InputGroups) (name : List ℕ) (place : ℕ) → group_named v name ≡ Some place → place ≤ length v.groups
frame_there v name place found = let low = frame_within v name place found in omega arith

frame_at : {X : Type 0} (xs : List X) (k : ℕ) → k < length xs → (x : X) × (slice_get xs k ≡ Some x)
frame_at [] k low = absurd (omega arith)
frame_at (x ∷ xs) zero low = (x, refl)
frame_at (x ∷ xs) (suc k) low = frame_at xs k (omega arith)

-- the group that a name means
pub group_of : (v : InputGroups) (name : List ℕ) (place : ℕ) → group_named v name ≡ Some place → (g : Group) × (slice_get (frames v) place ≡ Some g)
group_of v name place found = frame_at (frames v) place (let within = position_within (λ (group : Group). bytes_eq name group.name) 0 place (frames v) found in omega (arith, within.1))

pub of_group : (v : InputGroups) (line first : List ℕ) (further : List (List ℕ)) (place : ℕ) (g : Group) → is_bad line ≡ false → words line ≡ first ∷ further → group_named v first ≡ Some place → slice_get (frames v) place ≡ Some g
    → IsOfGroup v line place g further
of_group v line first further place g fine are named there = record { first = first; has_words = record { fine = fine; are = are }; named = named; there = there }

-- ## Values

both : (a b : Bool) → a ≡ true → b ≡ true → (a && b) ≡ true
both true b x y = y
both false b x y = absurd (true≢false (sym x))

value_tests : (width : ℕ) (digits : List ℕ) → IsValue width digits → is_value width digits ≡ true
unfolding is_value
value_tests width digits v =
    both (ltb 0 (length digits) && list_all is_hex digits) _
    (both (ltb 0 (length digits)) (list_all is_hex digits) (lt-ltb 0 (length digits) v.some) v.hex)
    (lt-ltb (hex_number digits) (2 ^ width) v.fits)

tests_value : (width : ℕ) (digits : List ℕ) → is_value width digits ≡ true → IsValue width digits
unfolding is_value
tests_value width digits t =
    let last = and_parts (ltb 0 (length digits) && list_all is_hex digits) (ltb (hex_number digits) (2 ^ width)) t in
    let first = and_parts (ltb 0 (length digits)) (list_all is_hex digits) last.0 in
    record { some = below 0 (length digits) first.0; hex = first.1; fits = below (hex_number digits) (2 ^ width) last.1 }

pub value_yes : (width : ℕ) (digits : List ℕ) (found : Bool) → IsTrue found ↔ IsValue width digits → found ≡ true → is_value width digits ≡ true
value_yes width digits found is one = value_tests width digits (is.0 one)

pub value_no : (width : ℕ) (digits : List ℕ) (found : Bool) → IsTrue found ↔ IsValue width digits → found ≡ false → is_value width digits ≡ false
value_no width digits found is no_match = go (is_value width digits) refl
  where
    go : (b : Bool) → is_value width digits ≡ b → is_value width digits ≡ false
    go false e = e
    go true e = absurd (true≢false (sym (is.1 (tests_value width digits e)) ∙ no_match))

-- ## Ports

pub port_at : (ports inner : List Port) (place : ℕ) (port : Port) → inner ≡ ports → place < length ports → port ≡ get_or inner place port → slice_get ports place ≡ Some port
port_at ports inner place port same inside is = slice_get-get_or ports place port inside ∙ ap Some (sym (is ∙ ap (λ ps. get_or ps place port) same))

pub nets_are : (ports : List Port) (place : ℕ) (port : Port) (nets : List NetId) → slice_get ports place ≡ Some port → nets ≡ port.nets → nets_at ports place ≡ nets
nets_are ports place port nets at same = go (slice_get ports place) at
  where
    go : (o : Option Port) → o ≡ Some port → option_map_or (λ (p : Port). p.nets) o [] ≡ nets
    go None e = absurd (cc)
    go (Some other) e = ap (λ (p : Port). p.nets) (same_Some other port e) ∙ sym same

pub is_port : (ports : List Port) (group : Group) (name : List ℕ) (place : ℕ) (port : Port) (nets : List NetId) (found : Bool)
    → port_named ports name ≡ Some place → slice_get ports place ≡ Some port → nets ≡ port.nets → found ≡ are_inside group nets → found ≡ true → IsPort ports group name place
is_port ports group name place port nets found named at same inside one =
    record { named = named; inside = ap (are_inside group) (nets_are ports place port nets at same) ∙ sym inside ∙ one }
