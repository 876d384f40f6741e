-- Directions that are noted, and what is found of them.
use Rattle.std.proofs.Common.{◌≡◌, ◌+◌, ◌<◌, ℕ, Bool, true, false, Option, Some, None, List, [], ◌∷◌, ◌++◌, ap, sym, ◌∙◌, refl, subst, arith, append-nil, get_or, cond, is_some, length, map, slice_get, take}
use Rattle.std.specs.Prelude.{bytes_eq, flat_map, nat_lt}
use Rattle.std.specs.List.{find, position_or_len}
use Rattle.std.specs.Option.{option_or}
use Rattle.std.proofs.lemmas.Grind.{flat_map-append, take_at_read}
use Rattle.std.proofs.lemmas.Bool.{ltb-false}
use Rattle.std.proofs.lemmas.List.{length-map, map-append}
use Rattle.std.proofs.lemmas.List.Folds.{find-append, find_at}
use Rattle.std.proofs.lemmas.List.Quantifiers.{position-Some}
use Rattle.std.proofs.lemmas.Option.{slice_get-get_or, slice_get_past}
use Rattle.std.proofs.lemmas.Slice.Eq.{bytes_eq-Decides}
use Rattle.id_arena.specs.Names.{place_among, with_name}
use Rattle.id_arena.proofs.FirstPlaces.{position-map}
use Rattle.module_nets.specs.Names.{Name}
use Rattle.verilog_tree.specs.declared.source.Module.{Module}
use Rattle.module_bits.specs.declared.ports.Direction.{Direction}
use Rattle.module_bits.specs.declared.ports.Given.{Given}
use Rattle.module_bits.specs.Noted.{HasFirsts, IsGiven, Notes, first_direction, with_first, with_firsts}
use Rattle.module_bits.specs.Ports.{directions, head_directions, item_directions}

module _ (text : ℕ → Name) where
  -- directions after others
  firsts_append : (firsts ds es : List Direction) → with_firsts text firsts (ds ++ es) ≡ with_firsts text (with_firsts text firsts ds) es
  firsts_append firsts [] es = refl
  firsts_append firsts (d ∷ ds) es = firsts_append (with_first text firsts d) ds es

  pub notes_both : (a b c : Given) (ds es : List Direction) → Notes text a b ds → Notes text b c es → Notes text a c (ds ++ es)
  notes_both a b c ds es x y = record {
    named = λ are. y.named (x.named are);
    firsts = λ are. y.firsts (x.named are) ∙ ap (λ l. with_firsts text l es) (x.firsts are) ∙ sym (firsts_append a.firsts ds es);
  }

  pub notes_next : {X : Type 0} (f : X → List Direction) (xs : List X) (i : ℕ) (d : X) (a b c : Given) → i < length xs → Notes text a b (flat_map f (take i xs)) → Notes text b c (f (get_or xs i d)) → Notes text a c (flat_map f (take (i + 1) xs))
  notes_next f xs i d a b c within x y =
      let x' = get_or xs i d in
      let same : flat_map f (take i xs) ++ f x' ≡ flat_map f (take (i + 1) xs) =
      ap (λ l. flat_map f (take i xs) ++ l) (sym (append-nil (f x')))
      ∙ sym (flat_map-append f (take i xs) (x' ∷ []))
      ∙ ap (λ l. flat_map f l) (sym (take_at_read xs i d within).1) in
      subst (λ l. Notes text a c l) same (notes_both a b c _ _ x y)

  pub notes_next_name : (f : ℕ → Direction) (xs : List ℕ) (i d : ℕ) (a b c : Given) → i < length xs → Notes text a b (map f (take i xs)) → Notes text b c (f (get_or xs i d) ∷ []) → Notes text a c (map f (take (i + 1) xs))
  notes_next_name f xs i d a b c within x y =
      let x' = get_or xs i d in
      let same : map f (take i xs) ++ f x' ∷ [] ≡ map f (take (i + 1) xs) =
      sym (map-append f (take i xs) (x' ∷ []))
      ∙ ap (λ l. map f l) (sym (take_at_read xs i d within).1) in
      subst (λ l. Notes text a c l) same (notes_both a b c _ _ x y)

  abbrev name_of : Direction → Name
  name_of d = text d.name

  -- the first direction of a name stands at the place of the name
  pub found_first : (firsts : List Direction) (name : Name) → first_direction text firsts name ≡ elim (place_among (map name_of firsts) name) [ None ↦ None | Some p ↦ slice_get firsts p ]
  found_first firsts name =
      go (nat_lt k (length firsts)) refl
      ∙ ap {A = Option ℕ} (λ o. elim o [ None ↦ None | Some p ↦ slice_get firsts p ]) (sym (position-map name_of (bytes_eq name) firsts))
    where
      test : Direction → Bool
      test d = bytes_eq name (name_of d)

      k : ℕ
      k = position_or_len test firsts

      go : (b : Bool) → nat_lt k (length firsts) ≡ b → find test firsts ≡ elim (cond b (Some k) None) [ None ↦ None | Some p ↦ slice_get firsts p ]
      go true e = find_at test firsts
      go false e = find_at test firsts ∙ slice_get_past firsts k (ltb-false k (length firsts) e)

  pub first_named : (g : Given) (name : Name) → HasFirsts text g → first_direction text g.firsts name ≡ elim (place_among g.names name) [ None ↦ None | Some p ↦ slice_get g.firsts p ]
  first_named g name are = found_first g.firsts name ∙ ap {A = List Name} (λ names. elim (place_among names name) [ None ↦ None | Some p ↦ slice_get g.firsts p ]) (sym are)

  -- a name that has none yet
  pub notes_new : (old : Given) (d : Direction) (names : List Name) (firsts : List Direction) (found : Option ℕ) → place_among old.names (text d.name) ≡ found → is_some found ≡ false → names ≡ with_name old.names (text d.name) → firsts ≡ old.firsts ++ d ∷ [] → Notes text old (record { names = names; firsts = firsts }) (d ∷ [])
  notes_new old d names firsts (Some k) none free named pushed = cc
  notes_new old d names firsts None none free named pushed = record {
    named = λ are.
        named
        ∙ ap {A = Option ℕ} (λ o. cond (is_some o) old.names (old.names ++ text d.name ∷ [])) none
        ∙ ap (λ l. l ++ text d.name ∷ []) are
        ∙ sym (map-append name_of old.firsts (d ∷ []))
        ∙ ap (λ l. map name_of l) (sym pushed);
    firsts = λ are.
        pushed
        ∙ sym (ap {A = Option Direction} (λ o. elim o [ None ↦ old.firsts ++ d ∷ [] | Some first ↦ old.firsts ])
        (first_named old (text d.name) are ∙ ap {A = Option ℕ} (λ o. elim o [ None ↦ None | Some p ↦ slice_get old.firsts p ]) none));
  }

  -- a name that has one
  pub notes_known : (old : Given) (d : Direction) → is_some (place_among old.names (text d.name)) ≡ true → Notes text old old (d ∷ [])
  notes_known old d known = record {
    named = λ are. are;
    firsts = λ are. go are (place_among old.names (text d.name)) refl known;
  }
    where
      go : HasFirsts text old → (o : Option ℕ) → place_among old.names (text d.name) ≡ o → is_some o ≡ true → old.firsts ≡ with_first text old.firsts d
      go are None e bad = cc
      go are (Some p) e some =
          let place = position-Some (bytes_eq (text d.name)) old.names p [] e in
          let within : p < length old.firsts = omega (arith, place.0, ap (λ l. length l) are, length-map old.firsts name_of) in
          sym (ap {A = Option Direction} (λ o. elim o [ None ↦ old.firsts ++ d ∷ [] | Some first ↦ old.firsts ])
          (first_named old (text d.name) are
          ∙ ap {A = Option ℕ} (λ o. elim o [ None ↦ None | Some p ↦ slice_get old.firsts p ]) e
          ∙ slice_get-get_or old.firsts p d within))

  -- what is found after a direction was noted
  first_kept : (firsts : List Direction) (d : Direction) (name : Name) → first_direction text (with_first text firsts d) name ≡ option_or (first_direction text firsts name) (first_direction text (d ∷ []) name)
  first_kept firsts d name = go (first_direction text firsts (text d.name)) refl
    where
      only : (o : Option Direction) → first_direction text firsts name ≡ o → (x : Direction) → first_direction text firsts (text d.name) ≡ Some x → (b : Bool) → bytes_eq name (text d.name) ≡ b → o ≡ option_or o (cond b (Some d) None)
      only (Some y) f x e b t = refl
      only None f x e false t = refl
      only None f x e true t =
          let same = (bytes_eq-Decides name (text d.name)).0 t in
          let bad : None ≡ Some x = sym f ∙ ap (λ n. first_direction text firsts n) same ∙ e in cc

      go : (o : Option Direction) → first_direction text firsts (text d.name) ≡ o → first_direction text (elim o [ None ↦ firsts ++ d ∷ [] | Some first ↦ firsts ]) name ≡ option_or (first_direction text firsts name) (first_direction text (d ∷ []) name)
      go None e = find-append (λ x. bytes_eq name (text x.name)) firsts (d ∷ [])
      go (Some x) e = only (first_direction text firsts name) refl x e (bytes_eq name (text d.name)) refl

  firsts_found : (firsts ds : List Direction) (name : Name) → first_direction text (with_firsts text firsts ds) name ≡ option_or (first_direction text firsts name) (first_direction text ds name)
  firsts_found firsts [] name = or_none (first_direction text firsts name)
    where
      or_none : (o : Option Direction) → o ≡ option_or o None
      or_none None = refl
      or_none (Some x) = refl
  firsts_found firsts (d ∷ ds) name =
      firsts_found (with_first text firsts d) ds name
      ∙ ap (λ o. option_or o (first_direction text ds name)) (first_kept firsts d name)
      ∙ moved (first_direction text firsts name) (first_direction text (d ∷ []) name) (first_direction text ds name)
      ∙ ap (λ o. option_or (first_direction text firsts name) o) (sym (find-append (λ x. bytes_eq name (text x.name)) (d ∷ []) ds))
    where
      moved : (a b c : Option Direction) → option_or (option_or a b) c ≡ option_or a (option_or b c)
      moved None b c = refl
      moved (Some x) b c = refl

  -- all directions of a module are noted
  pub given_is : (m : Module) (names : List Name) (firsts : List Direction) (b c : Given) → names ≡ [] → firsts ≡ [] → Notes text (record { names = names; firsts = firsts }) b (flat_map head_directions m.ports) → Notes text b c (flat_map item_directions m.items) → IsGiven text m c
  given_is m names firsts b c no_names no_firsts x y =
      let old : Given = record { names = names; firsts = firsts } in
      let all = notes_both old b c (flat_map head_directions m.ports) (flat_map item_directions m.items) x y in
      let are : HasFirsts text old = no_names ∙ sym (ap (λ l. map name_of l) no_firsts) in
      record {
        named = all.named are;
        first = λ name.
            ap (λ l. first_direction text l name) (all.firsts are ∙ ap (λ l. with_firsts text l (directions m)) no_firsts)
            ∙ firsts_found [] (directions m) name;
      }
