-- Ports and pins that have one name, and what is tied to them.
use Rattle.std.proofs.Common.{◌≡◌, ◌+◌, ◌<◌, ◌≤◌, ℕ, true, false, Option, Some, None, List, [], ap, sym, ◌∙◌, refl, arith, inl, inr, get_or, length, slice_get, slice_set}
use Rattle.std.specs.Prelude.{bytes_eq, option_and_then}
use Rattle.std.proofs.lemmas.Bool.{cases_eq, cases_lt}
use Rattle.std.proofs.lemmas.List.{get_or-map, get_or-set_other, get_or-set_same, length-map, length-set}
use Rattle.std.proofs.lemmas.List.Folds.{list_any_at}
use Rattle.std.proofs.lemmas.List.Quantifiers.{position-Some}
use Rattle.std.proofs.lemmas.Option.{get_or_from_slice_get, slice_get-get_or}
use Rattle.std.proofs.lemmas.Slice.Eq.{bytes_eq-Decides}
use Rattle.id_arena.specs.declared.keys.NetId.{NetId}
use Rattle.id_arena.specs.Names.{place_among}
use Rattle.id_arena.proofs.FirstPlaces.{list_any-position}
use Rattle.module_nets.specs.Names.{Name}
use Rattle.flattening.specs.Links.{Socket, socket_names}
use Rattle.elaborator.specs.Sockets.{first_place_at}
use Rattle.elaborator.specs.Ties.{Shares}

abbrev pub no_socket : Socket
no_socket = record { name = []; width = None }

module _ (sockets : List Socket) (i : ℕ) (within : i < length sockets) where
  abbrev name : Name
  name = (get_or sockets i no_socket).name

  named_at : get_or (socket_names sockets) i [] ≡ name
  named_at = get_or-map (λ s. s.name) sockets i no_socket [] within

  pub first_place_is : first_place_at sockets i ≡ place_among (socket_names sockets) name
  first_place_is = ap (λ o. option_and_then (λ socket. place_among (socket_names sockets) socket.name) o) (slice_get-get_or sockets i no_socket within)

  same_name : bytes_eq name (get_or (socket_names sockets) i []) ≡ true
  same_name = (bytes_eq-Decides name (get_or (socket_names sockets) i [])).1 (sym named_at)

  low : i < length (socket_names sockets)
  low = omega (arith, within, length-map sockets (λ s. s.name))

  -- each has a first, which is not behind it and is its own first
  pub has_first : (f : ℕ) × (first_place_at sockets i ≡ Some f)
  has_first = go (place_among (socket_names sockets) name) refl
    where
      go : (o : Option ℕ) → place_among (socket_names sockets) name ≡ o → (f : ℕ) × (first_place_at sockets i ≡ Some f)
      go (Some f) e = (f, first_place_is ∙ e)
      go None e =
          let some = list_any_at (bytes_eq name) (socket_names sockets) i [] low same_name in
          let none = list_any-position (bytes_eq name) (socket_names sockets) e in
          let bad : true ≡ false = sym some ∙ none in cc

  pub first_before : (f : ℕ) → first_place_at sockets i ≡ Some f → f ≤ i
  first_before f e =
      let first = position-Some (bytes_eq name) (socket_names sockets) f [] (sym first_place_is ∙ e) in
      elim (cases_lt i f) [
        | inl less ↦ (let bad : true ≡ false = sym same_name ∙ first.2 i less in cc)
        | inr past ↦ past
      ]

  pub first_first : (f : ℕ) → first_place_at sockets i ≡ Some f → first_place_at sockets f ≡ Some f
  first_first f e =
      let at = sym first_place_is ∙ e in
      let first = position-Some (bytes_eq name) (socket_names sockets) f [] at in
      let long : f < length sockets = omega (arith, first.0, length-map sockets (λ s. s.name)) in
      let one : (get_or sockets f no_socket).name ≡ name =
      sym (get_or-map (λ s. s.name) sockets f no_socket [] long) ∙ sym ((bytes_eq-Decides name (get_or (socket_names sockets) f [])).0 first.1) in
      ap (λ o. option_and_then (λ socket. place_among (socket_names sockets) socket.name) o) (slice_get-get_or sockets f no_socket long)
      ∙ ap (λ n. place_among (socket_names sockets) n) one
      ∙ at

  -- one more is tied as the first of its name
  module _ (old tied : List (Option (List NetId))) (long : length old ≡ length sockets) (shares : Shares sockets i old tied) (f : ℕ) (at : first_place_at sockets i ≡ Some f) where
    one_first : (k : ℕ) → first_place_at sockets i ≡ Some k → k ≡ f
    one_first k e = let both : Some k ≡ Some f = sym e ∙ at in cc

    pub share_own : (f < i → ⊥) → Shares sockets (i + 1) old tied
    share_own late = record {
      sized = shares.sized;
      done = λ k first before here.
          elim (cases_eq k i) [
            | inl same ↦ own k first same here
            | inr apart ↦ shares.done k first (omega (arith, before, apart)) here
          ];
      left = λ k past. shares.left k (omega (arith, past));
    }
      where
        own : (k first : ℕ) → k ≡ i → first_place_at sockets k ≡ Some first → get_or tied k None ≡ get_or old first None
        own k first same here =
            let it : first ≡ f = one_first first (ap (λ j. first_place_at sockets j) (sym same) ∙ here) in
            let me : k ≡ first = omega (arith, same, it, first_before f at, late) in
            shares.left k (omega (arith, same)) ∙ ap (λ j. get_or old j None) me

    pub share_copy : (new : List (Option (List NetId))) (copy : Option (List NetId)) → f < i → slice_get tied f ≡ Some copy → new ≡ slice_set tied i copy → Shares sockets (i + 1) old new
    share_copy new copy early there is = record {
      sized = ap length is ∙ length-set tied i copy ∙ shares.sized;
      done = λ k first before here.
          elim (cases_eq k i) [
            | inl same ↦ copied k first same here
            | inr apart ↦ ap (λ l. get_or l k None) is ∙ get_or-set_other tied i k copy None apart ∙ shares.done k first (omega (arith, before, apart)) here
          ];
      left = λ k past. ap (λ l. get_or l k None) is ∙ get_or-set_other tied i k copy None (λ e. omega (arith, e, past)) ∙ shares.left k (omega (arith, past));
    }
      where
        copied : (k first : ℕ) → k ≡ i → first_place_at sockets k ≡ Some first → get_or new k None ≡ get_or old first None
        copied k first same here =
            let it : first ≡ f = one_first first (ap (λ j. first_place_at sockets j) (sym same) ∙ here) in
            let room : i < length tied = omega (arith, within, long, shares.sized) in
            ap (λ l. get_or l k None) is
            ∙ ap (λ j. get_or (slice_set tied i copy) j None) same
            ∙ get_or-set_same tied i copy None room
            ∙ sym (get_or_from_slice_get tied f copy None there)
            ∙ shares.done f f early (first_first f at)
            ∙ ap (λ j. get_or old j None) (sym it)
