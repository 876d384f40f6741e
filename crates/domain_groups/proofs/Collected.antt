-- Groups and nets that are collected one by one.
use Rattle.std.proofs.Common.{◌≡◌, ℕ, zero, suc, ◌+◌, ◌<◌, ◌≤◌, arith, Bool, true, false, inl, inr, List, [], ◌∷◌, ◌++◌, get_or, take, drop, length, map, refl, subst, sym, ap, ◌∙◌, append_assoc}
use Rattle.std.specs.Prelude.{◌==◌, ◌⊎◌, if◌then◌else◌, Option, Some, None, Ok, Err, slice_get, flat_map}
use Rattle.std.specs.Option.{option_map_or}
use Rattle.std.proofs.Math.Seq.{drop-cons}
use Rattle.std.proofs.lemmas.Bool.{cases_lt}
use Rattle.std.proofs.lemmas.Grind.{flat_map-append}
use Rattle.std.proofs.lemmas.List.{append-nil, map-append, take_more, take_all}
use Rattle.std.proofs.lemmas.Option.{none-some, same_Some, slice_get_within, slice_get-get_or, get_or_from_slice_get}
use Rattle.facts.proofs.Tests.{no}
use Rattle.id_arena.specs.declared.keys.NetId.{NetId}
use Rattle.design_core.specs.declared.parts.Port.{Port}
use Rattle.domain_groups.specs.declared.fault.GroupFault.{GroupFault}
use Rattle.domain_groups.specs.declared.fault.GroupFault.TheVariants.{NotJson, BadShape, Limit, NameTaken, EmptyGroup, NoPort, PortTwice, NoMemory}
use Rattle.domain_groups.specs.declared.groups.NamedGroup.{NamedGroup}
use Rattle.domain_groups.specs.declared.written.WrittenGroup.{WrittenGroup}
use Rattle.domain_groups.specs.Judged.{FirstAreSound, IsFirstFault, fault_behind, group_of, is_taken, some_earlier, some_unknown, ports_named, ports_of}
use Rattle.domain_groups.specs.Judging.{ListJudged, Marks}
use Rattle.domain_groups.specs.Members.{seen}
use Rattle.domain_groups.specs.Ports.{nets_at}

-- the nets of one port more
pub nets_next : (ports : List Port) (places : List ℕ) (old new more whole : List NetId) (k : ℕ) (e : Port) → k < length places → get_or places k 0 < length ports
    → more ≡ (get_or ports (get_or places k 0) e).nets → new ≡ old ++ more
    → old ++ flat_map (nets_at ports) (drop k places) ≡ whole → new ++ flat_map (nets_at ports) (drop (k + 1) places) ≡ whole
nets_next ports places old new more whole k e within there is added before =
    let next : suc k ≡ k + 1 = omega arith in
    let rest = flat_map (nets_at ports) (drop (k + 1) places) in
    let nets : nets_at ports (get_or places k 0) ≡ more =
    ap (λ o. option_map_or (λ (port : Port). port.nets) o []) (slice_get-get_or ports (get_or places k 0) e there) ∙ sym is in
    let cut : flat_map (nets_at ports) (drop k places) ≡ more ++ rest =
    ap (flat_map (nets_at ports)) (drop-cons places k 0 within)
    ∙ ap (λ xs. nets_at ports (get_or places k 0) ++ flat_map (nets_at ports) (drop xs places)) next
    ∙ ap (λ (xs : List NetId). xs ++ rest) nets in
    ap (λ (xs : List NetId). xs ++ rest) added ∙ append_assoc old more rest ∙ ap (λ xs. old ++ xs) (sym cut) ∙ before

-- a fault of a group is one of four
abbrev is_of_group : GroupFault → Bool
is_of_group NotJson = false
is_of_group BadShape = false
is_of_group Limit = false
is_of_group (NameTaken k) = true
is_of_group (EmptyGroup k) = true
is_of_group (NoPort k) = true
is_of_group (PortTwice k) = true
is_of_group NoMemory = false

of_group : (a b c d : Bool) (k : ℕ) (fault : GroupFault)
    → (if a then Some (NameTaken k) else (if b then Some (EmptyGroup k) else (if c then Some (NoPort k) else (if d then Some (PortTwice k) else None)))) ≡ Some fault → is_of_group fault ≡ true
of_group true b c d k fault e = ap is_of_group (sym (same_Some (NameTaken k) fault e))
of_group false true c d k fault e = ap is_of_group (sym (same_Some (EmptyGroup k) fault e))
of_group false false true d k fault e = ap is_of_group (sym (same_Some (NoPort k) fault e))
of_group false false false true k fault e = ap is_of_group (sym (same_Some (PortTwice k) fault e))
of_group false false false false k fault e = absurd (none-some fault e)

behind_is : (ports : List Port) (earlier : List WrittenGroup) (group : WrittenGroup) (fault : GroupFault) → fault_behind ports earlier group ≡ Some fault → is_of_group fault ≡ true
unfolding fault_behind
behind_is ports earlier group fault e =
    of_group (is_taken earlier group.name) (length group.ports == 0) (some_unknown ports group.ports) (some_earlier (ports_of ports earlier) (ports_named ports group.ports)) (length earlier) fault e

told : (ports : List Port) (written : List WrittenGroup) (fault : GroupFault) → is_of_group fault ≡ true → IsFirstFault ports written fault → ListJudged ports written (Err fault)
told ports written NotJson e f = no e
told ports written BadShape e f = no e
told ports written Limit e f = no e
told ports written (NameTaken k) e f = f
told ports written (EmptyGroup k) e f = f
told ports written (NoPort k) e f = f
told ports written (PortTwice k) e f = f
told ports written NoMemory e f = tt

module _ (ports : List Port) (written : List WrittenGroup) (k : ℕ) (g : WrittenGroup) (at : slice_get written k ≡ Some g) where
  -- the first fault is told
  pub fault_told : (fault : GroupFault) → fault_behind ports (take k written) g ≡ Some fault → FirstAreSound ports written k → ListJudged ports written (Err fault)
  fault_told fault is sound =
      told ports written fault (behind_is ports (take k written) g fault is) (record { number = k; group = g; there = at; is = is; earlier = sound })

  longer : take (k + 1) written ≡ take k written ++ g ∷ []
  longer = take_more written k g (slice_get_within written k g at) ∙ ap (λ x. take k written ++ x ∷ []) (get_or_from_slice_get written k g g at)

  -- one group more has no fault
  pub sound_next : fault_behind ports (take k written) g ≡ None → FirstAreSound ports written k → FirstAreSound ports written (k + 1)
  sound_next none sound j h less there = go (cases_lt j k)
    where
      go : (j < k) ⊎ (k ≤ j) → fault_behind ports (take j written) h ≡ None
      go (inl before) = sound j h before there
      go (inr past) =
          let last : k ≡ j = omega arith in
          let there-2 : slice_get written k ≡ Some h = subst (λ (i : ℕ). slice_get written i ≡ Some h) (sym last) there in
          let same : g ≡ h = same_Some g h (sym at ∙ there-2) in
          subst (λ (i : ℕ). fault_behind ports (take i written) h ≡ None) last (subst (λ (x : WrittenGroup). fault_behind ports (take k written) x ≡ None) same none)

  -- its ports are marked
  pub marks_next : (marks : List Bool) (places : List ℕ) → places ≡ ports_named ports g.ports → Marks marks (ports_of ports (take k written) ++ places) → Marks marks (ports_of ports (take (k + 1) written))
  marks_next marks places named m = subst (Marks marks) same m
    where
      own : WrittenGroup → List ℕ
      own group = ports_named ports group.ports

      same : ports_of ports (take k written) ++ places ≡ ports_of ports (take (k + 1) written)
      same =
          ap (λ xs. ports_of ports (take k written) ++ xs) (named ∙ sym (append-nil (ports_named ports g.ports)))
          ∙ sym (flat_map-append own (take k written) (g ∷ []))
          ∙ ap (flat_map own) (sym longer)

  -- it is put last
  pub groups_next : (old new : List NamedGroup) (group : NamedGroup) → new ≡ old ++ group ∷ [] → seen group ≡ group_of ports g
      → map seen old ≡ map (group_of ports) (take k written) → map seen new ≡ map (group_of ports) (take (k + 1) written)
  groups_next old new group added is before =
      ap (map seen) added
      ∙ map-append seen old (group ∷ [])
      ∙ ap (λ xs. xs ++ seen group ∷ []) before
      ∙ ap (λ x. map (group_of ports) (take k written) ++ x ∷ []) is
      ∙ sym (map-append (group_of ports) (take k written) (g ∷ []))
      ∙ ap (map (group_of ports)) (sym longer)
