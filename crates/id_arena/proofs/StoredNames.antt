-- The names as the texts that a set keeps in order.
use Rattle.std.proofs.Common.{◌≡◌, ℕ, ◌<◌, false, List, [], ◌∷◌, ◌++◌, map, length, get_or, Some, None, position, if◌then◌else◌, refl, sym, ap, ◌∙◌}
use Rattle.std.specs.List.{IsDistinct}
use Rattle.std.specs.Str.{bytes_eq}
use Rattle.std.proofs.lemmas.Bool.{false_from_ne_true}
use Rattle.std.proofs.lemmas.List.{map-append}
use Rattle.std.proofs.lemmas.Map.Keys.{apart_from_distinct}
use Rattle.std.proofs.lemmas.Slice.Eq.{bytes_eq-Decides}
use Rattle.indexmap.specs.IndexSet.{insert_key}
use Rattle.id_arena.specs.Names.{place_among}
use Rattle.id_arena.proofs.FirstPlaces.{position-map, list_any-position, position-is}

module _ {V : Type 0} (bytes : V → List ℕ) where
  -- the place of a text among the names is its place in the set
  pub place_among-stored : (stored : List V) (names : List (List ℕ)) (text : List ℕ) → map bytes stored ≡ names → position (λ v. bytes_eq text (bytes v)) stored ≡ place_among names text
  place_among-stored stored names text seen =
      sym (position-map bytes (bytes_eq text) stored) ∙ ap (λ ns. place_among ns text) seen

  -- a new text goes last
  pub insert_key-new : (stored : List V) (names : List (List ℕ)) (text : List ℕ) (copy : V) → map bytes stored ≡ names → place_among names text ≡ None → bytes copy ≡ text
      → map bytes (insert_key (λ v w. bytes_eq (bytes v) (bytes w)) stored copy) ≡ names ++ text ∷ []
  insert_key-new stored names text copy seen new same =
      let test = λ (v : V). bytes_eq (bytes copy) (bytes v) in
      let absent : position test stored ≡ None = rw same (place_among-stored stored names text seen ∙ new) in
      let none = list_any-position test stored absent in
      ap (λ b. map bytes (if b then stored else stored ++ copy ∷ [])) none
      ∙ map-append bytes stored (copy ∷ [])
      ∙ (λ i. seen i ++ same i ∷ [])

  -- each text is found at its own place
  pub place_among-own : (stored : List V) (names : List (List ℕ)) (place : ℕ) (d : V) → map bytes stored ≡ names → IsDistinct (λ v w. bytes_eq (bytes v) (bytes w)) stored → place < length stored
      → place_among names (bytes (get_or stored place d)) ≡ Some place
  place_among-own stored names place d seen apart within =
      let own = bytes (get_or stored place d) in
      sym (place_among-stored stored names own seen)
      ∙ position-is (λ v. bytes_eq own (bytes v)) stored place d within before ((bytes_eq-Decides own own).1 refl)
    where
      before : (k : ℕ) → k < place → bytes_eq (bytes (get_or stored place d)) (bytes (get_or stored k d)) ≡ false
      before k earlier =
          let own = bytes (get_or stored place d) in
          let other = bytes (get_or stored k d) in
          let differ = apart_from_distinct (λ v w. bytes_eq (bytes v) (bytes w)) stored k place d apart earlier within in
          false_from_ne_true (bytes_eq own other) (λ same.
          let e = (bytes_eq-Decides own other).0 same in
          let flipped = (bytes_eq-Decides other own).1 (sym e) in cc)
