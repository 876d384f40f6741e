-- Ports and pins by their names.
use Rattle.std.proofs.Common.{◌≡◌, ◌+◌, ◌<◌, ℕ, Bool, true, false, Option, Some, None, List, [], ◌∷◌, ◌++◌, ap, sym, ◌∙◌, refl, subst, arith, inl, inr, suc, cond, eqb, get_or, is_some, length, map, slice_get, length-append}
use Rattle.std.specs.Prelude.{bytes_eq, option_and_then, option_map}
use Rattle.std.specs.Option.{option_or}
use Rattle.std.proofs.lemmas.Bool.{eq-eqb}
use Rattle.std.proofs.lemmas.Bool.Decides.{nat_tests}
use Rattle.std.proofs.lemmas.List.{get_or-map, get_or_append_left, length-map, map-append}
use Rattle.std.proofs.Math.Seq.{get_or-append_seam}
use Rattle.std.proofs.lemmas.List.Quantifiers.{position-Some}
use Rattle.std.proofs.lemmas.Option.{get_or_from_slice_get, slice_get-get_or, slice_get_within}
use Rattle.std.proofs.lemmas.Slice.Eq.{bytes_eq-Decides}
use Rattle.facts.proofs.Places.{at_last}
use Rattle.id_arena.specs.Names.{place_among, with_name}
use Rattle.id_arena.proofs.FirstPlaces.{place_among-Some, place_among-last}
use Rattle.module_nets.specs.Names.{Name}
use Rattle.flattening.specs.Links.{Socket, socket_names}
use Rattle.elaborator.specs.declared.sockets.Row.{Row}
use Rattle.elaborator.specs.Sockets.{AreSockets, first_place_at, name_at, socket_of, sockets_of, noted_first}
use Rattle.elaborator.proofs.Placing.{place_more}

-- where two functions agree on all members, the lists are the same
same_map : {X Y : Type 0} (f g : X → Y) (xs : List X) → ((k : ℕ) (x : X) → slice_get xs k ≡ Some x → f x ≡ g x) → map f xs ≡ map g xs
same_map f g [] e = refl
same_map f g (x ∷ xs) e = λ i. e 0 x refl i ∷ same_map f g xs (λ k y at. e (suc k) y at) i

-- a place that a list has is there
at_left : {X : Type 0} (xs : List X) (y : X) (k : ℕ) → k < length xs → slice_get (xs ++ y ∷ []) k ≡ slice_get xs k
at_left xs y k within =
    let longer : k < length (xs ++ y ∷ []) = omega (arith, within, length-append xs (y ∷ [])) in
    slice_get-get_or (xs ++ y ∷ []) k y longer ∙ ap Some (get_or_append_left xs (y ∷ []) y k within) ∙ sym (slice_get-get_or xs k y within)

at_end : {X : Type 0} (xs : List X) (y : X) (n : ℕ) → n ≡ length xs → slice_get (xs ++ y ∷ []) n ≡ Some y
at_end xs y n e =
    let longer : n < length (xs ++ y ∷ []) = omega (arith, e, length-append xs (y ∷ [])) in
    slice_get-get_or (xs ++ y ∷ []) n y longer ∙ ap (λ k. Some (get_or (xs ++ y ∷ []) k y)) e ∙ ap Some (get_or-append_seam xs y [] y)

-- one more port or pin
module _ (names : List Name) (firsts : List ℕ) (rows : List Row) (are : AreSockets names firsts rows) (text : Name) (width : Option ℕ) where
  within_names : (name : Name) (p : ℕ) → place_among names name ≡ Some p → p < length names
  within_names name p e = (position-Some (bytes_eq name) names p [] e).0

  row_within : (k : ℕ) (row : Row) → slice_get rows k ≡ Some row → row.name < length names
  row_within k row at = within_names (get_or names row.name []) row.name (are.placed k row at)

  abbrev old_names : List Name
  old_names = socket_names (sockets_of names rows)

  abbrev new_row : ℕ → Row
  new_row place = record { name = place; width = width }

  abbrev new_socket : Socket
  new_socket = record { name = text; width = width }

  counted : length old_names ≡ length rows
  counted = length-map (sockets_of names rows) (λ s. s.name) ∙ length-map rows (socket_of names)

  named_more : (names2 : List Name) (rows2 : List Row) → sockets_of names2 rows2 ≡ sockets_of names rows ++ new_socket ∷ [] → (name : Name) → place_among (socket_names (sockets_of names2 rows2)) name ≡ option_or (place_among old_names name) (cond (bytes_eq name text) (Some (length old_names)) None)
  named_more names2 rows2 same name =
      ap (λ l. place_among (socket_names l) name) same
      ∙ ap (λ l. place_among l name) (map-append (λ s. s.name) (sockets_of names rows) (new_socket ∷ []))
      ∙ place_more old_names text name

  -- whose name was there
  module _ (p : ℕ) (known : place_among names text ≡ Some p) where
    at_known : get_or names p [] ≡ text
    at_known = get_or_from_slice_get names p text [] (place_among-Some names text p known)

    same_known : sockets_of names (rows ++ new_row p ∷ []) ≡ sockets_of names rows ++ new_socket ∷ []
    same_known = map-append (socket_of names) rows (new_row p ∷ []) ∙ ap (λ n. sockets_of names rows ++ record { name = n; width = width } ∷ []) at_known

    found_known : (name : Name) (b : Bool) → bytes_eq name text ≡ b → option_or (place_among old_names name) (cond b (Some (length old_names)) None) ≡ option_and_then (slice_get firsts) (place_among names name)
    found_known name false e = or_none (place_among old_names name) ∙ are.found name
      where
        or_none : (o : Option ℕ) → option_or o None ≡ o
        or_none None = refl
        or_none (Some x) = refl
    found_known name true e =
        let at : place_among names name ≡ Some p = ap (λ n. place_among names n) ((bytes_eq-Decides name text).0 e) ∙ known in
        let here : place_among old_names name ≡ Some (get_or firsts p 0) =
        are.found name ∙ ap (λ o. option_and_then (slice_get firsts) o) at ∙ slice_get-get_or firsts p 0 (omega (arith, within_names text p known, are.sized)) in
        ap (λ o. option_or o (Some (length old_names))) here ∙ sym here ∙ are.found name

    pub known_stands : AreSockets names firsts (rows ++ new_row p ∷ [])
    known_stands = record {
      sized = are.sized;
      found = λ name. named_more names (rows ++ new_row p ∷ []) same_known name ∙ found_known name (bytes_eq name text) refl;
      placed = λ k row at.
          elim (at_last rows (new_row p) k row at) [
            | inl old ↦ are.placed k row old
            | inr e ↦ (let P : Row → Type 0 = λ r. place_among names (get_or names r.name []) ≡ Some r.name in subst P e (ap (λ n. place_among names n) at_known ∙ known))
          ];
    }

  -- whose name is new
  module _ (new : place_among names text ≡ None) where
    abbrev more_names : List Name
    more_names = names ++ text ∷ []

    abbrev more_firsts : List ℕ
    more_firsts = firsts ++ length rows ∷ []

    abbrev last_row : Row
    last_row = new_row (length names)

    same_new : sockets_of more_names (rows ++ last_row ∷ []) ≡ sockets_of names rows ++ new_socket ∷ []
    same_new =
        let kept : sockets_of more_names rows ≡ sockets_of names rows =
        same_map (socket_of more_names) (socket_of names) rows (λ k row at. ap (λ t. record { name = t; width = row.width }) (get_or_append_left names (text ∷ []) [] row.name (row_within k row at))) in
        map-append (socket_of more_names) rows (last_row ∷ [])
        ∙ (λ i. kept i ++ record { name = get_or-append_seam names text [] [] i; width = width } ∷ [])

    found_new : (name : Name) (b : Bool) (o : Option ℕ) → place_among names name ≡ o → option_or (place_among old_names name) (cond b (Some (length old_names)) None) ≡ option_and_then (slice_get more_firsts) (option_or o (cond b (Some (length names)) None))
    found_new name b (Some q) e =
        let within : q < length firsts = omega (arith, within_names name q e, are.sized) in
        let here : place_among old_names name ≡ Some (get_or firsts q 0) =
        are.found name ∙ ap (λ o. option_and_then (slice_get firsts) o) e ∙ slice_get-get_or firsts q 0 within in
        ap (λ o. option_or o (cond b (Some (length old_names)) None)) here
        ∙ sym (slice_get-get_or firsts q 0 within)
        ∙ sym (at_left firsts (length rows) q within)
    found_new name true None e =
        let here : place_among old_names name ≡ None = are.found name ∙ ap (λ o. option_and_then (slice_get firsts) o) e in
        ap (λ o. option_or o (Some (length old_names))) here ∙ ap Some counted ∙ sym (at_end firsts (length rows) (length names) (sym are.sized))
    found_new name false None e =
        let here : place_among old_names name ≡ None = are.found name ∙ ap (λ o. option_and_then (slice_get firsts) o) e in
        ap (λ o. option_or o None) here

    pub new_stands : AreSockets more_names more_firsts (rows ++ last_row ∷ [])
    new_stands = record {
      sized = length-append firsts (length rows ∷ []) ∙ ap (λ n. n + 1) are.sized ∙ sym (length-append names (text ∷ []));
      found = λ name.
          named_more more_names (rows ++ last_row ∷ []) same_new name
          ∙ found_new name (bytes_eq name text) (place_among names name) refl
          ∙ ap (λ o. option_and_then (slice_get more_firsts) o) (sym (place_more names text name));
      placed = λ k row at.
          elim (at_last rows last_row k row at) [
            | inl old ↦ placed_old k row old
            | inr e ↦ (let P : Row → Type 0 = λ r. place_among more_names (get_or more_names r.name []) ≡ Some r.name in subst P e (ap (λ n. place_among more_names n) (get_or-append_seam names text [] []) ∙ place_among-last names text new))
          ];
    }
      where
        placed_old : (k : ℕ) (row : Row) → slice_get rows k ≡ Some row → place_among (names ++ text ∷ []) (get_or (names ++ text ∷ []) row.name []) ≡ Some row.name
        placed_old k row old =
            let name = get_or names row.name [] in
            ap (λ n. place_among (names ++ text ∷ []) n) (get_or_append_left names (text ∷ []) [] row.name (row_within k row old))
            ∙ place_more names text name
            ∙ ap (λ o. option_or o (cond (bytes_eq name text) (Some (length names)) None)) (are.placed k row old)

  abbrev Becomes : List Name → List ℕ → List Row → Type 0
  Becomes ns fs rs = AreSockets ns fs rs × (sockets_of ns rs ≡ sockets_of names rows ++ new_socket ∷ [])

  -- so it is where the tables are these
  pub adds : (names2 : List Name) (firsts2 : List ℕ) (rows2 : List Row) (place : ℕ) → names2 ≡ with_name names text → place_among names2 text ≡ Some place → firsts2 ≡ noted_first firsts place (length rows) → rows2 ≡ rows ++ new_row place ∷ [] → AreSockets names2 firsts2 rows2 × (sockets_of names2 rows2 ≡ sockets_of names rows ++ new_socket ∷ [])
  adds names2 firsts2 rows2 place are_names at are_firsts are_rows = go (place_among names text) refl
    where
      moved : (ns : List Name) (fs : List ℕ) (p : ℕ) → ns ≡ names2 → fs ≡ firsts2 → p ≡ place → AreSockets ns fs (rows ++ new_row p ∷ []) → sockets_of ns (rows ++ new_row p ∷ []) ≡ sockets_of names rows ++ new_socket ∷ [] → Becomes names2 firsts2 rows2
      moved ns fs p e f g a b =
          let r : rows ++ new_row p ∷ [] ≡ rows2 = ap (λ k. rows ++ new_row k ∷ []) g ∙ sym are_rows in
          let step : Becomes ns fs (rows ++ new_row p ∷ []) = (a, b) in
          subst (λ ns. Becomes ns firsts2 rows2) e (subst (λ fs. Becomes ns fs rows2) f (subst (λ rs. Becomes ns fs rs) r step))

      go : (o : Option ℕ) → place_among names text ≡ o → AreSockets names2 firsts2 rows2 × (sockets_of names2 rows2 ≡ sockets_of names rows ++ new_socket ∷ [])
      go (Some p) e =
          let stays : names2 ≡ names = are_names ∙ ap (λ o. cond (is_some o) names (names ++ text ∷ [])) e in
          let here : Some p ≡ Some place = sym e ∙ ap (λ ns. place_among ns text) (sym stays) ∙ at in
          let same : p ≡ place = cc in
          let less : place < length firsts = omega (arith, within_names text p e, are.sized, same) in
          let apart : eqb place (length firsts) ≡ false = grind (arith, nat_tests) in
          let old : firsts2 ≡ firsts = are_firsts ∙ ap (λ b. cond b (firsts ++ length rows ∷ []) firsts) apart in
          moved names firsts p (sym stays) (sym old) same (known_stands p e) (same_known p e)
      go None e =
          let more : names2 ≡ more_names e = are_names ∙ ap (λ o. cond (is_some o) names (names ++ text ∷ [])) e in
          let here : Some (length names) ≡ Some place = sym (place_among-last names text e) ∙ ap (λ ns. place_among ns text) (sym more) ∙ at in
          let same : length names ≡ place = cc in
          let longer : firsts2 ≡ more_firsts e = are_firsts ∙ ap (λ b. cond b (firsts ++ length rows ∷ []) firsts) (eq-eqb place (length firsts) (sym same ∙ sym are.sized)) in
          moved (more_names e) (more_firsts e) (length names) (sym more) (sym longer) same (new_stands e) (same_new e)

-- the port or pin of a row
socket_at : (names : List Name) (rows : List Row) (k : ℕ) (row : Row) → slice_get rows k ≡ Some row → slice_get (sockets_of names rows) k ≡ Some (socket_of names row)
socket_at names rows k row at =
    let within = slice_get_within rows k row at in
    let long : k < length (sockets_of names rows) = omega (arith, within, length-map rows (socket_of names)) in
    slice_get-get_or (sockets_of names rows) k (socket_of names row) long
    ∙ ap Some (get_or-map (socket_of names) rows k row (socket_of names row) within ∙ ap (socket_of names) (get_or_from_slice_get rows k row row at))

pub row_named : (names : List Name) (firsts : List ℕ) (rows : List Row) (k : ℕ) (row : Row) → AreSockets names firsts rows → slice_get rows k ≡ Some row → row.name < length names
row_named names firsts rows k row are at = (position-Some (bytes_eq (get_or names row.name [])) names row.name [] (are.placed k row at)).0

pub name_of : (names : List Name) (rows : List Row) (k : ℕ) (row : Row) (name : Name) → slice_get rows k ≡ Some row → slice_get names row.name ≡ Some name → name_at (sockets_of names rows) k ≡ Some name
name_of names rows k row name at here =
    ap (λ o. option_map (λ socket. socket.name) o) (socket_at names rows k row at) ∙ ap Some (get_or_from_slice_get names row.name name [] here)

-- the first port or pin of a row's name
pub first_of : (names : List Name) (firsts : List ℕ) (rows : List Row) (k first : ℕ) (row : Row) → AreSockets names firsts rows → slice_get rows k ≡ Some row → slice_get firsts row.name ≡ Some first → first_place_at (sockets_of names rows) k ≡ Some first
first_of names firsts rows k first row are at here =
    ap (λ o. option_and_then (λ socket. place_among (socket_names (sockets_of names rows)) socket.name) o) (socket_at names rows k row at)
    ∙ are.found (get_or names row.name [])
    ∙ ap (λ o. option_and_then (slice_get firsts) o) (are.placed k row at)
    ∙ here
