-- What is tied by name.
use Rattle.std.proofs.Common.{◌≡◌, ◌+◌, ◌<◌, ◌≤◌, ℕ, Bool, true, false, ◌||◌, Option, Some, None, List, [], ◌∷◌, ap, sym, ◌∙◌, refl, subst, arith, inl, inr, suc, zero, cond, get_or, length, map, slice_get, slice_set, take}
use Rattle.std.specs.Prelude.{bytes_eq, nat_lt, option_and_then, option_map, replicate}
use Rattle.std.specs.List.{enumerate_from, find, position_or_len}
use Rattle.std.specs.Option.{option_or}
use Rattle.std.proofs.lemmas.Bool.{cases_eq, ltb-false}
use Rattle.std.proofs.lemmas.List.{get_or-map, get_or-set_other, get_or-set_same, get_or_default, length-map, length-replicate, length-set, same_lists, take_more}
use Rattle.std.proofs.lemmas.List.Folds.{find-append, find_at}
use Rattle.std.proofs.lemmas.List.Quantifiers.{position-Some}
use Rattle.std.proofs.lemmas.Option.{slice_get_past}
use Rattle.std.proofs.lemmas.Slice.Eq.{bytes_eq-Decides}
use Rattle.id_arena.specs.declared.keys.NetId.{NetId}
use Rattle.id_arena.specs.Names.{place_among}
use Rattle.id_arena.proofs.FirstPlaces.{place_among-Some, position-map}
use Rattle.module_nets.specs.Names.{Name, is_among}
use Rattle.verilog_tree.specs.declared.source.Links.TheVariants.{Named}
use Rattle.verilog_tree.specs.declared.source.NamedLink.{NamedLink}
use Rattle.flattening.specs.declared.fault.ElabFault.TheVariants as fault
use Rattle.flattening.specs.Faults.{bits_here}
use Rattle.flattening.specs.Links.{Socket, link_named, link_tests, no_port_test, port_twice_test, socket_named, socket_names, ties, width_named}
use Rattle.flattening.specs.Places.{Given, Inside, name_in, start_in}
use Rattle.flattening.specs.Steps.{Test, first_fault}
use Rattle.elaborator.specs.Sockets.{width_at}
use Rattle.elaborator.specs.Targets.{targets_from, link_names}
use Rattle.elaborator.specs.Ties.{AreTied, Shares, tie_named}
use Rattle.elaborator.proofs.Marking.{fault_step}
use Rattle.elaborator.proofs.Sharing.{first_place_is, has_first, no_socket}

-- the port or pin of a name stands at the first place of the name
found_at : (sockets : List Socket) (name : Name) → socket_named sockets name ≡ option_and_then (slice_get sockets) (place_among (socket_names sockets) name)
found_at sockets name =
    go (nat_lt k (length sockets)) refl
    ∙ ap (λ o. option_and_then (slice_get sockets) o) (sym (position-map (λ s. s.name) (bytes_eq name) sockets))
  where
    test : Socket → Bool
    test s = bytes_eq name s.name

    k : ℕ
    k = position_or_len test sockets

    go : (b : Bool) → nat_lt k (length sockets) ≡ b → find test sockets ≡ option_and_then (slice_get sockets) (cond b (Some k) None)
    go true e = find_at test sockets
    go false e = find_at test sockets ∙ slice_get_past sockets k (ltb-false k (length sockets) e)

pub width_found : (sockets : List Socket) (name : Name) (k : ℕ) → place_among (socket_names sockets) name ≡ Some k → width_at sockets k ≡ width_named sockets name
width_found sockets name k at =
    ap (λ o. option_and_then (λ socket. socket.width) o) (sym (found_at sockets name ∙ ap (λ o. option_and_then (slice_get sockets) o) at))

-- where no connection by name is refused, each is to a port or pin that no earlier one named
module _ (g : Given) (sockets : List Socket) (links : List NamedLink) (fine : first_fault (link_tests g sockets links) ≡ None) where
  none_both : (a b c : Test) → option_or a (option_or b c) ≡ None → (a ≡ None) × (b ≡ None) × (c ≡ None)
  none_both None None c e = (refl, refl, e)
  none_both None (Some x) c e = cc
  none_both (Some x) b c e = cc

  all_fine : (i : ℕ) (d : NamedLink) → i ≤ length links → targets_from g sockets links i ≡ None
  all_fine zero d within = fine
  all_fine (suc i) d within =
      let low : i < length links = omega (arith, within) in
      let both = none_both (no_port_test g sockets (get_or links i d)) (port_twice_test g (take i links) (get_or links i d)) (targets_from g sockets links (i + 1)) (sym (fault_step g sockets links i d low) ∙ all_fine i d (omega (arith, within))) in
      let next : suc i ≡ i + 1 = omega arith in
      ap (λ k. targets_from g sockets links k) next ∙ both.2

  module _ (i : ℕ) (d : NamedLink) (within : i < length links) where
    tests : (no_port_test g sockets (get_or links i d) ≡ None) × (port_twice_test g (take i links) (get_or links i d) ≡ None) × (targets_from g sockets links (i + 1) ≡ None)
    tests = none_both (no_port_test g sockets (get_or links i d)) (port_twice_test g (take i links) (get_or links i d)) (targets_from g sockets links (i + 1)) (sym (fault_step g sockets links i d within) ∙ all_fine i d (omega (arith, within)))

    pub is_there : is_among (socket_names sockets) (name_in g (get_or links i d).port) ≡ true
    is_there = go (is_among (socket_names sockets) (name_in g (get_or links i d).port)) tests.0
      where
        go : (b : Bool) → cond b None (Some (fault.NoPort (start_in g (get_or links i d).port))) ≡ None → b ≡ true
        go true e = refl
        go false e = cc

    pub is_first : is_among (link_names g (take i links)) (name_in g (get_or links i d).port) ≡ false
    is_first = go (is_among (link_names g (take i links)) (name_in g (get_or links i d).port)) tests.1
      where
        go : (b : Bool) → cond b (Some (fault.PortTwice (start_in g (get_or links i d).port))) None ≡ None → b ≡ false
        go true e = cc
        go false e = refl

-- the connection of a name is none where the name is not among them
no_link : (g : Given) (links : List NamedLink) (name : Name) → is_among (link_names g links) name ≡ false → link_named g links name ≡ None
no_link g [] name e = refl
no_link g (link ∷ links) name e = go (λ f. no_link g links name f) (bytes_eq name (name_in g link.port)) e
  where
    go : (is_among (link_names g links) name ≡ false → link_named g links name ≡ None) → (b : Bool) → (b || is_among (link_names g links) name) ≡ false → cond b (Some link) (link_named g links name) ≡ None
    go later true f = cc
    go later false f = later f

module _ (g : Given) (here : Inside) (sockets : List Socket) where
  none_at : (n k : ℕ) → let none : Option (List NetId) = None in get_or (replicate n none) k none ≡ none
  none_at zero k = refl
  none_at (suc n) zero = refl
  none_at (suc n) (suc k) = none_at n k

  pub none_tied : (tied : List (Option (List NetId))) (n : ℕ) → n ≡ length sockets → tied ≡ replicate n None → AreTied g here sockets [] tied
  none_tied tied n e f = record {
    sized = ap length f ∙ length-replicate n None ∙ e;
    each = λ name k at. ap (λ l. get_or l k None) f ∙ none_at n k;
  }

  -- one connection more
  module _ (links : List NamedLink) (i : ℕ) (d : NamedLink) (within : i < length links) (tied : List (Option (List NetId))) (are : AreTied g here sockets (take i links) tied) (k : ℕ) (placed : place_among (socket_names sockets) (name_in g (get_or links i d).port) ≡ Some k) (new_name : is_among (link_names g (take i links)) (name_in g (get_or links i d).port) ≡ false) (tie : Option (List NetId)) (is : tie ≡ option_map (bits_here g here) (get_or links i d).expr) where
    abbrev link : NamedLink
    link = get_or links i d

    abbrev name : Name
    name = name_in g link.port

    more : (other : Name) → link_named g (take (i + 1) links) other ≡ option_or (link_named g (take i links) other) (cond (bytes_eq other name) (Some link) None)
    more other = ap (λ l. link_named g l other) (take_more links i d within) ∙ find-append (λ x. bytes_eq other (name_in g x.port)) (take i links) (link ∷ [])

    or_none : (o : Option NamedLink) → option_or o None ≡ o
    or_none None = refl
    or_none (Some x) = refl

    low : k < length tied
    low = omega (arith, (position-Some (bytes_eq name) (socket_names sockets) k [] placed).0, length-map sockets (λ s. s.name), are.sized)

    own : (other : Name) (j : ℕ) → place_among (socket_names sockets) other ≡ Some j → j ≡ k → get_or (slice_set tied k tie) j None ≡ tie_named g here (take (i + 1) links) other
    own other j there same =
        let both : Some other ≡ Some name = sym (place_among-Some (socket_names sockets) other j there) ∙ ap (λ p. slice_get (socket_names sockets) p) same ∙ place_among-Some (socket_names sockets) name k placed in
        let one : other ≡ name = cc in
        let found : link_named g (take (i + 1) links) other ≡ Some link =
        more other
        ∙ ap (λ o. option_or o (cond (bytes_eq other name) (Some link) None)) (ap (λ n. link_named g (take i links) n) one ∙ no_link g (take i links) name new_name)
        ∙ ap (λ b. cond b (Some link) None) ((bytes_eq-Decides other name).1 one) in
        ap (λ p. get_or (slice_set tied k tie) p None) same
        ∙ get_or-set_same tied k tie None low
        ∙ is
        ∙ sym (ap (λ o. option_map (bits_here g here) (option_and_then (λ link. link.expr) o)) found)

    kept : (other : Name) (j : ℕ) → place_among (socket_names sockets) other ≡ Some j → (j ≡ k → ⊥) → get_or (slice_set tied k tie) j None ≡ tie_named g here (take (i + 1) links) other
    kept other j there apart =
        let found : link_named g (take (i + 1) links) other ≡ link_named g (take i links) other = more other ∙ go (bytes_eq other name) refl in
        get_or-set_other tied k j tie None apart
        ∙ are.each other j there
        ∙ sym (ap (λ o. option_map (bits_here g here) (option_and_then (λ link. link.expr) o)) found)
      where
        go : (b : Bool) → bytes_eq other name ≡ b → option_or (link_named g (take i links) other) (cond b (Some link) None) ≡ link_named g (take i links) other
        go false e = or_none (link_named g (take i links) other)
        go true e =
            let both : Some j ≡ Some k = sym there ∙ ap (λ n. place_among (socket_names sockets) n) ((bytes_eq-Decides other name).0 e) ∙ placed in
            let same : j ≡ k = cc in
            absurd (apart same)

    pub tied_next : (new : List (Option (List NetId))) → new ≡ slice_set tied k tie → AreTied g here sockets (take (i + 1) links) new
    tied_next new e = subst (λ l. AreTied g here sockets (take (i + 1) links) l) (sym e) (record {
      sized = length-set tied k tie ∙ are.sized;
      each = λ other j there. elim (cases_eq j k) [ inl same ↦ own other j there same | inr apart ↦ kept other j there apart ];
    })

  -- all that is tied
  pub all_tied : (links : List NamedLink) (tied new : List (Option (List NetId))) → AreTied g here sockets links tied → Shares sockets (length sockets) tied new → new ≡ ties g here (Named links) sockets
  all_tied links tied new are shares =
      let long : length new ≡ length sockets = shares.sized ∙ are.sized in
      same_lists new (map by_name sockets) (long ∙ sym (length-map sockets by_name)) (λ k d low. at k d (omega (arith, low, long)))
      ∙ sym (unnumbered 0 sockets)
    where
      by_name : Socket → Option (List NetId)
      by_name socket = tie_named g here links socket.name

      unnumbered : (n : ℕ) (ss : List Socket) → map (λ (k, socket). by_name socket) (enumerate_from n ss) ≡ map by_name ss
      unnumbered n [] = refl
      unnumbered n (s ∷ ss) = ap (λ l. by_name s ∷ l) (unnumbered (n + 1) ss)

      at : (k : ℕ) (d : Option (List NetId)) → k < length sockets → get_or new k d ≡ get_or (map by_name sockets) k d
      at k d low =
          let first = has_first sockets k low in
          let room : k < length new = omega (arith, low, shares.sized, are.sized) in
          get_or_default new k d None room
          ∙ shares.done k first.0 low first.1
          ∙ are.each (get_or sockets k no_socket).name first.0 (sym (first_place_is sockets k low) ∙ first.1)
          ∙ sym (get_or-map by_name sockets k no_socket d low)
