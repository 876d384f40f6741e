-- Values of inputs that a text gives set different ports.
use Rattle.std.proofs.Common.{◌≡◌, ℕ, ◌+◌, ◌<◌, ◌≤◌, ◌==◌, Bool, true, false, cond, Option, Some, None, option_map, slice_get, List, [], ◌∷◌, ◌++◌, map, string_bytes, count_by, length, Less, Equal, refl, sym, ap, ◌∙◌, subst, arith, inl, inr, zero, suc, append-nil, append_assoc}
use Rattle.std.specs.Prelude.{filter_map, flat_map, option_and_then}
use Rattle.std.specs.Cmp.Lexicographic.{slice_cmp}
use Rattle.std.specs.List.{AllByRecursion, cons_option}
use Rattle.std.specs.List.Sorted.{IsStrictlySortedBy}
use Rattle.std.specs.Map.{keys_of}
use Rattle.std.specs.Option.{option_map_or}
use Rattle.std.specs.Ordering.{nat_cmp}
use Rattle.std.specs.String.{string_cmp}
use Rattle.std.proofs.lemmas.Bool.{cases_eq, eq-eqb, ne_eqb, cond-true, cond-false}
use Rattle.std.proofs.lemmas.Cmp.{nat_list_cmp_total, tied_itself}
use Rattle.std.proofs.lemmas.List.Sums.{sum_by-cons}
use Rattle.std.proofs.lemmas.Option.{same_Some}
use Rattle.serde_json.specs.Data.{Data}
use Rattle.serde_json.specs.Find.{as_str}
use Rattle.serde_json.specs.View.{view, members_view}
use Rattle.serde_json.proofs.Views.{Entry}
use Rattle.json_members.specs.Members.{all_of}
use Rattle.design_core.specs.declared.parts.Port.{Port}
use Rattle.design_core.specs.declared.values.PortBit.{PortBit}
use Rattle.domain_groups.specs.GivenOpening.{GivenValue, listed, value_told}
use Rattle.domain_groups.specs.Openings.{input_values}
use Rattle.domain_groups.specs.Ports.{port_named, nets_at}
use Rattle.domain_groups.specs.Values.{hex_number, shown_bits}
use Rattle.event_replay.specs.Checks.{AreApart}
use Rattle.domain_groups.specs.Settings.{EachOnce, Setting, bits_set}
use Rattle.event_replay.specs.Settings.{AreSet, IsOfPort}
use Rattle.domain_groups.proofs.FirstPorts.{named_within}
use Rattle.event_replay.proofs.SameNames.{same_name}

-- the setting of a port that a value gives
abbrev setting_at : List Port → GivenValue → ℕ → Setting
setting_at ports g place = record { port = place; nets = nets_at ports place; number = hex_number g.digits }

abbrev setting_of : List Port → GivenValue → Option Setting
setting_of ports g = option_map (setting_at ports g) (port_named ports g.name)

abbrev settings_of : List Port → List GivenValue → List Setting
settings_of ports given = filter_map (setting_of ports) given

-- they have the bits of the values
bits_are : (ports : List Port) (given : List GivenValue) → flat_map (input_values ports) given ≡ bits_set (settings_of ports given)
bits_are ports [] = refl
bits_are ports (g ∷ gs) = go (bits_are ports gs) (port_named ports g.name) refl
  where
    shown : ℕ → List PortBit
    shown place = shown_bits (nets_at ports place) (hex_number g.digits)

    go : flat_map (input_values ports) gs ≡ bits_set (settings_of ports gs) → (o : Option ℕ) → port_named ports g.name ≡ o → option_map_or shown (port_named ports g.name) [] ++ flat_map (input_values ports) gs ≡ bits_set (cons_option (option_map (setting_at ports g) (port_named ports g.name)) (settings_of ports gs))
    go rest None e =
        ap (λ o. option_map_or shown o [] ++ flat_map (input_values ports) gs) e ∙ rest
        ∙ ap (λ o. bits_set (cons_option (option_map (setting_at ports g) o) (settings_of ports gs))) (sym e)
    go rest (Some place) e =
        ap (λ o. option_map_or shown o [] ++ flat_map (input_values ports) gs) e ∙ ap (λ bits. shown place ++ bits) rest
        ∙ ap (λ o. bits_set (cons_option (option_map (setting_at ports g) o) (settings_of ports gs))) (sym e)

none_there : {X : Type 0} (qs : List X) (k : ℕ) → k < length qs → slice_get qs k ≡ None → ⊥
none_there [] k less none = absurd (omega arith)
none_there (q ∷ qs) zero less none = cc
none_there (q ∷ qs) (suc k) less none = none_there qs k (omega arith) none

nets_there : (ports : List Port) (place : ℕ) → place < length ports → option_map (λ port. port.nets) (slice_get ports place) ≡ Some (nets_at ports place)
nets_there ports place low = go (slice_get ports place) refl
  where
    go : (o : Option Port) → slice_get ports place ≡ o → option_map (λ port. port.nets) (slice_get ports place) ≡ Some (option_map_or (λ port. port.nets) (slice_get ports place) [])
    go None e = absurd (none_there ports place low e)
    go (Some port) e =
        ap (option_map (λ (q : Port). q.nets)) e ∙ ap (λ o. Some (option_map_or (λ (q : Port). q.nets) o [])) (sym e)

of_ports : (ports : List Port) (given : List GivenValue) → AllByRecursion (IsOfPort ports) (settings_of ports given)
of_ports ports [] = tt
of_ports ports (g ∷ gs) = go (of_ports ports gs) (port_named ports g.name) refl
  where
    go : AllByRecursion (IsOfPort ports) (settings_of ports gs) → (o : Option ℕ) → port_named ports g.name ≡ o → AllByRecursion (IsOfPort ports) (cons_option (option_map (setting_at ports g) (port_named ports g.name)) (settings_of ports gs))
    go rest None e = subst (λ o. AllByRecursion (IsOfPort ports) (cons_option (option_map (setting_at ports g) o) (settings_of ports gs))) (sym e) rest
    go rest (Some place) e =
        subst (λ o. AllByRecursion (IsOfPort ports) (cons_option (option_map (setting_at ports g) o) (settings_of ports gs))) (sym e)
        (nets_there ports place (named_within ports g.name place e), rest)

-- a port of one name is set by none of those with other names
none_later : (ports : List Port) (p : ℕ) (name : List ℕ) (given : List GivenValue) → port_named ports name ≡ Some p → AllByRecursion (λ w. name ≡ w.name → ⊥) given → count_by (λ s. s.port == p) (settings_of ports given) ≡ 0
none_later ports p name [] named apart = refl
none_later ports p name (g ∷ gs) named apart = go (none_later ports p name gs named apart.1) (port_named ports g.name) refl
  where
    go : count_by (λ s. s.port == p) (settings_of ports gs) ≡ 0 → (o : Option ℕ) → port_named ports g.name ≡ o → count_by (λ s. s.port == p) (cons_option (option_map (setting_at ports g) (port_named ports g.name)) (settings_of ports gs)) ≡ 0
    go rest None e = ap (λ o. count_by (λ (s : Setting). s.port == p) (cons_option (option_map (setting_at ports g) o) (settings_of ports gs))) e ∙ rest
    go rest (Some place) e =
        let differs : place ≡ p → ⊥ = λ same. apart.0 (same_name 0 p ports name g.name named (e ∙ ap Some same)) in
        let none : cond {A = ℕ} (place == p) 1 0 ≡ 0 = cond-false _ 1 0 (ne_eqb place p differs) in
        let count = sum_by-cons (λ (s : Setting). cond {A = ℕ} (s.port == p) 1 0) (setting_at ports g place) (settings_of ports gs) in
        ap (λ o. count_by (λ (s : Setting). s.port == p) (cons_option (option_map (setting_at ports g) o) (settings_of ports gs))) e
        ∙ omega (arith, count, none, rest)

once : (ports : List Port) (given : List GivenValue) → AreApart given → EachOnce (settings_of ports given)
once ports [] apart p = omega arith
once ports (g ∷ gs) apart p = go (once ports gs apart.1 p) (port_named ports g.name) refl
  where
    go : count_by (λ s. s.port == p) (settings_of ports gs) ≤ 1 → (o : Option ℕ) → port_named ports g.name ≡ o → count_by (λ s. s.port == p) (cons_option (option_map (setting_at ports g) (port_named ports g.name)) (settings_of ports gs)) ≤ 1
    go rest None e = subst (λ o. count_by (λ (s : Setting). s.port == p) (cons_option (option_map (setting_at ports g) o) (settings_of ports gs)) ≤ 1) (sym e) rest
    go rest (Some place) e =
        subst (λ o. count_by (λ (s : Setting). s.port == p) (cons_option (option_map (setting_at ports g) o) (settings_of ports gs)) ≤ 1) (sym e)
        (let count = sum_by-cons (λ (s : Setting). cond {A = ℕ} (s.port == p) 1 0) (setting_at ports g place) (settings_of ports gs) in
        elim (cases_eq place p) [
          | inl same ↦
              (let one : cond {A = ℕ} (place == p) 1 0 ≡ 1 = cond-true _ 1 0 (eq-eqb place p same) in
              omega (arith, count, one, none_later ports p g.name gs (e ∙ ap Some same) apart.0))
          | inr other ↦
              (let none : cond {A = ℕ} (place == p) 1 0 ≡ 0 = cond-false _ 1 0 (ne_eqb place p other) in
              omega (arith, count, none, rest))
        ])

pub inputs_set : (ports : List Port) (given : List GivenValue) (values : List PortBit) → AreApart given → values ≡ flat_map (input_values ports) given → AreSet ports values
inputs_set ports given values apart are = record {
  settings = settings_of ports given;
  of_ports = of_ports ports given;
  once = once ports given apart;
  bits = are ∙ bits_are ports given;
}

-- the things that a list tells, one and the others
all_parts : {X A : Type 0} (form : X → Option A) (x : X) (xs : List X) (ws : List A) → all_of form (x ∷ xs) ≡ Some ws → (v : A) × (vs : List A) × (form x ≡ Some v) × (all_of form xs ≡ Some vs) × (ws ≡ v ∷ vs)
all_parts {X} {A} form x xs ws all = go (form x) (all_of form xs) refl refl
  where
    go : (o : Option A) (q : Option (List A)) → form x ≡ o → all_of form xs ≡ q → (v : A) × (vs : List A) × (form x ≡ Some v) × (all_of form xs ≡ Some vs) × (ws ≡ v ∷ vs)
    go None q e f = absurd (cc)
    go (Some v) None e f = absurd (cc)
    go (Some v) (Some vs) e f = (v, vs, e, f, (cc))

value_name : (e : Entry) (v : GivenValue) → value_told (string_bytes e.0, view e.1) ≡ Some v → string_bytes e.0 ≡ v.name
value_name e v told = go (as_str (view e.1)) told
  where
    go : (o : Option (List ℕ)) → option_map (λ digits. record { name = string_bytes e.0; digits = digits }) o ≡ Some v → string_bytes e.0 ≡ v.name
    go None is = absurd (cc)
    go (Some digits) is = (let same = same_Some _ v is in ap (λ (g : GivenValue). g.name) same)

-- names that come in a strict order are different
others_differ : (first : Entry) (es : List Entry) (vs : List GivenValue) → all_of value_told (listed (members_view es)) ≡ Some vs → AllByRecursion (λ y. string_cmp first.0 y ≡ Less) (keys_of es) → AllByRecursion (λ w. string_bytes first.0 ≡ w.name → ⊥) vs
others_differ first [] vs told below = (let none : [] ≡ vs = same_Some _ vs told in subst (AllByRecursion (λ w. string_bytes first.0 ≡ w.name → ⊥)) none tt)
others_differ first (e ∷ es) vs told below =
    let parts = all_parts value_told (string_bytes e.0, view e.1) (listed (members_view es)) vs told in
    let name = value_name e parts.0 parts.2 in
    let differs : string_bytes first.0 ≡ parts.0.name → ⊥ = λ same.
    let tied = tied_itself nat_list_cmp_total (string_bytes first.0) in
    let clash : Less ≡ Equal = sym below.0 ∙ ap (slice_cmp nat_cmp (string_bytes first.0)) (name ∙ sym same) ∙ tied in cc in
    subst (AllByRecursion (λ w. string_bytes first.0 ≡ w.name → ⊥)) (sym parts.4) (differs, others_differ first es parts.1 parts.3 below.1)

pub told_apart : (es : List Entry) (vs : List GivenValue) → all_of value_told (listed (members_view es)) ≡ Some vs → IsStrictlySortedBy string_cmp (keys_of es) → AreApart vs
unfolding IsStrictlySortedBy
told_apart [] vs told sorted = (let none : [] ≡ vs = same_Some _ vs told in subst AreApart none tt)
told_apart (e ∷ es) vs told sorted =
    let parts = all_parts value_told (string_bytes e.0, view e.1) (listed (members_view es)) vs told in
    let name = value_name e parts.0 parts.2 in
    subst AreApart (sym parts.4) (
      subst (λ n. AllByRecursion (λ w. n ≡ w.name → ⊥) parts.1) name (others_differ e es parts.1 parts.3 sorted.0),
      told_apart es parts.1 parts.3 sorted.1,
    )

-- the next member gives a value
pub member_next : (rest : List Entry) (e : Entry) (name digits digits-2 : List ℕ) (values new : List GivenValue) (all : Option (List GivenValue))
    → as_str (view e.1) ≡ Some digits
    → name ≡ string_bytes e.0
    → digits-2 ≡ digits
    → new ≡ values ++ record { name = name; digits = digits-2 } ∷ []
    → option_map (λ vs. values ++ vs) (all_of value_told (listed (members_view (e ∷ rest)))) ≡ all
    → option_map (λ vs. new ++ vs) (all_of value_told (listed (members_view rest))) ≡ all
member_next rest e name digits digits-2 values new all text named same added so_far =
    go (all_of value_told (listed (members_view rest))) refl
  where
    value : GivenValue
    value = record { name = string_bytes e.0; digits = digits }

    told : value_told (string_bytes e.0, view e.1) ≡ Some value
    told = ap (option_map (λ ds. record { name = string_bytes e.0; digits = ds })) text

    is : new ≡ values ++ value ∷ []
    is = added ∙ ap (λ n. values ++ record { name = n; digits = digits-2 } ∷ []) named ∙ ap (λ ds. values ++ record { name = string_bytes e.0; digits = ds } ∷ []) same

    whole : Option GivenValue → Option (List GivenValue) → Option (List GivenValue)
    whole o q = option_and_then (λ v. option_and_then (λ vs. Some (v ∷ vs)) q) o

    step : option_map (λ vs. values ++ vs) (whole (Some value) (all_of value_told (listed (members_view rest)))) ≡ all
    step = ap (λ o. option_map (λ vs. values ++ vs) (whole o (all_of value_told (listed (members_view rest))))) (sym told) ∙ so_far

    go : (q : Option (List GivenValue)) → all_of value_told (listed (members_view rest)) ≡ q → option_map (λ vs. new ++ vs) (all_of value_told (listed (members_view rest))) ≡ all
    go None f = ap (option_map (λ vs. new ++ vs)) f ∙ sym (ap (λ q. option_map (λ vs. values ++ vs) (whole (Some value) q)) f) ∙ step
    go (Some vs) f =
        ap (option_map (λ vs. new ++ vs)) f
        ∙ ap (λ ws. Some (ws ++ vs)) is ∙ ap Some (append_assoc values (value ∷ []) vs)
        ∙ sym (ap (λ q. option_map (λ ws. values ++ ws) (whole (Some value) q)) f) ∙ step

-- all members have given their values
pub all_told : (values : List GivenValue) (rest : List Entry) (all : Option (List GivenValue)) → rest ≡ [] → option_map (λ vs. values ++ vs) (all_of value_told (listed (members_view rest))) ≡ all → all ≡ Some values
all_told values rest all ended so_far =
    sym so_far ∙ ap (λ es. option_map (λ vs. values ++ vs) (all_of value_told (listed (members_view es)))) ended ∙ ap Some (append-nil values)
