-- The ports and pins that connections by name have named, and the fault of those that are left.
use Rattle.std.proofs.Common.{◌≡◌, ◌+◌, ◌<◌, ◌≤◌, ℕ, Bool, true, false, ◌||◌, Option, Some, None, List, [], ◌∷◌, ◌++◌, ap, sym, ◌∙◌, refl, subst, arith, inl, inr, suc, cond, drop, get_or, is_some, length, slice_get, slice_set, take, zero, add-one}
use Rattle.std.specs.Prelude.{bytes_eq, flat_map, replicate}
use Rattle.std.specs.List.{enumerate_from}
use Rattle.std.specs.Option.{option_or}
use Rattle.std.proofs.Math.Seq.{drop-cons}
use Rattle.std.proofs.lemmas.Bool.{cases_eq, lt-ltb}
use Rattle.std.proofs.lemmas.List.{drop_all, get_or-set_other, get_or-set_same, length-map, length-replicate, length-set, map-append, take_more}
use Rattle.std.proofs.lemmas.List.Folds.{list_any-append}
use Rattle.std.proofs.lemmas.List.Quantifiers.{position-Some}
use Rattle.std.proofs.lemmas.Slice.Eq.{bytes_eq-Decides}
use Rattle.id_arena.specs.Names.{place_among}
use Rattle.id_arena.proofs.FirstPlaces.{place_among-Some}
use Rattle.module_nets.specs.Names.{Name, is_among}
use Rattle.verilog_tree.specs.declared.source.NamedLink.{NamedLink}
use Rattle.flattening.specs.declared.fault.ElabFault.{ElabFault}
use Rattle.flattening.specs.declared.fault.ElabFault.TheVariants as fault
use Rattle.flattening.specs.Links.{Socket, no_port_test, port_twice_test, socket_names}
use Rattle.flattening.specs.Places.{Given, name_in, start_in}
use Rattle.flattening.specs.Steps.{Test, first_fault}
use Rattle.elaborator.specs.Targets.{AreMarked, targets_from, link_names, marked, target_fault_at}
use Rattle.elaborator.proofs.Placing.{place_is_some}

or_some : (a b c : Test) (f : ElabFault) → option_or a b ≡ Some f → option_or a (option_or b c) ≡ Some f
or_some None None c f e = cc
or_some None (Some x) c f e = e
or_some (Some x) b c f e = e

or_none : (a b c : Test) → option_or a b ≡ None → option_or a (option_or b c) ≡ c
or_none None None c e = refl
or_none None (Some x) c e = cc
or_none (Some x) b c e = cc

false_unless : (b : Bool) → (b ≡ true → ⊥) → b ≡ false
false_unless true e = absurd (e refl)
false_unless false e = refl

-- no name was named yet
unmarked_at : (n k : ℕ) → get_or (replicate n false) k false ≡ false
unmarked_at zero k = refl
unmarked_at (suc n) zero = refl
unmarked_at (suc n) (suc k) = unmarked_at n k

pub none_marked : (sockets : List Socket) (seen : List Bool) (n : ℕ) → n ≡ length sockets → seen ≡ replicate n false → AreMarked sockets [] seen
none_marked sockets seen n e f = record {
  sized = ap length f ∙ length-replicate n false ∙ e;
  each = λ name k at. ap (λ l. get_or l k false) f ∙ unmarked_at n k;
}

module _ (g : Given) (sockets : List Socket) (links : List NamedLink) where
  -- the fault of a connection comes before those of later ones
  pub fault_step : (i : ℕ) (d : NamedLink) → i < length links → targets_from g sockets links i ≡ option_or (no_port_test g sockets (get_or links i d)) (option_or (port_twice_test g (take i links) (get_or links i d)) (targets_from g sockets links (i + 1)))
  fault_step i d within =
      let front : drop i links ≡ get_or links i d ∷ drop (i + 1) links = drop-cons links i d within ∙ ap (λ k. get_or links i d ∷ drop k links) (sym (add-one i)) in
      ap (λ l. first_fault (flat_map (λ (k, link). no_port_test g sockets link ∷ port_twice_test g (take k links) link ∷ []) (enumerate_from i l))) front

  pub fault_end : (i : ℕ) → length links ≤ i → targets_from g sockets links i ≡ None
  fault_end i past = ap (λ l. first_fault (flat_map (λ (k, link). no_port_test g sockets link ∷ port_twice_test g (take k links) link ∷ []) (enumerate_from i l))) (drop_all i links past)

  -- at one connection
  module _ (i : ℕ) (d : NamedLink) (within : i < length links) (seen : List Bool) (are : AreMarked sockets (link_names g (take i links)) seen) (place : Option ℕ) (found : place ≡ place_among (socket_names sockets) (name_in g (get_or links i d).port)) where
    abbrev here : NamedLink
    here = get_or links i d

    abbrev name : Name
    name = name_in g here.port

    judged : target_fault_at seen place (start_in g here.port) ≡ option_or (no_port_test g sockets here) (port_twice_test g (take i links) here)
    judged = go place found
      where
        go : (o : Option ℕ) → o ≡ place_among (socket_names sockets) name → target_fault_at seen o (start_in g here.port) ≡ option_or (no_port_test g sockets here) (port_twice_test g (take i links) here)
        go None e =
            let none : is_among (socket_names sockets) name ≡ false = sym (place_is_some (socket_names sockets) name) ∙ ap (λ o. is_some o) (sym e) in
            sym (ap (λ b. option_or (cond b None (Some (fault.NoPort (start_in g here.port)))) (port_twice_test g (take i links) here)) none)
        go (Some k) e =
            let some : is_among (socket_names sockets) name ≡ true = sym (place_is_some (socket_names sockets) name) ∙ ap (λ o. is_some o) (sym e) in
            ap (λ b. cond b (Some (fault.PortTwice (start_in g here.port))) None) (are.each name k (sym e))
            ∙ sym (ap (λ b. option_or (cond b None (Some (fault.NoPort (start_in g here.port)))) (port_twice_test g (take i links) here)) some)

    pub fault_here : (f : ElabFault) → target_fault_at seen place (start_in g here.port) ≡ Some f → targets_from g sockets links i ≡ Some f
    fault_here f e = fault_step i d within ∙ or_some (no_port_test g sockets here) (port_twice_test g (take i links) here) (targets_from g sockets links (i + 1)) f (sym judged ∙ e)

    pub fault_later : target_fault_at seen place (start_in g here.port) ≡ None → targets_from g sockets links i ≡ targets_from g sockets links (i + 1)
    fault_later e = fault_step i d within ∙ or_none (no_port_test g sockets here) (port_twice_test g (take i links) here) (targets_from g sockets links (i + 1)) (sym judged ∙ e)

    more_names : link_names g (take (i + 1) links) ≡ link_names g (take i links) ++ name ∷ []
    more_names = ap (λ l. link_names g l) (take_more links i d within) ∙ map-append (λ link. name_in g link.port) (take i links) (here ∷ [])

    marked_more : (k : ℕ) → place_among (socket_names sockets) name ≡ Some k → AreMarked sockets (link_names g (take i links) ++ name ∷ []) (marked seen (Some k))
    marked_more k at =
        let low : k < length seen = omega (arith, (position-Some (bytes_eq name) (socket_names sockets) k [] at).0, length-map sockets (λ s. s.name), are.sized) in
        let new : marked seen (Some k) ≡ slice_set seen k true = ap (λ b. cond b (slice_set seen k true) seen) (lt-ltb k (length seen) low) in
        subst (λ s. AreMarked sockets (link_names g (take i links) ++ name ∷ []) s) (sym new) (record {
          sized = length-set seen k true ∙ are.sized;
          each = λ other j there.
              elim (cases_eq j k) [
                | inl same ↦ same_place low other j there same
                | inr apart ↦ other_place other j there apart
              ];
        })
      where
        among : (other : Name) → is_among (link_names g (take i links) ++ name ∷ []) other ≡ (is_among (link_names g (take i links)) other || (bytes_eq other name || false))
        among other = list_any-append (bytes_eq other) (link_names g (take i links)) (name ∷ [])

        or_true : (a b : Bool) → b ≡ true → (a || (b || false)) ≡ true
        or_true true b e = refl
        or_true false true e = refl
        or_true false false e = cc

        or_false : (a b : Bool) → b ≡ false → (a || (b || false)) ≡ a
        or_false true b e = refl
        or_false false true e = cc
        or_false false false e = refl

        same_place : k < length seen → (other : Name) (j : ℕ) → place_among (socket_names sockets) other ≡ Some j → j ≡ k → get_or (slice_set seen k true) j false ≡ is_among (link_names g (take i links) ++ name ∷ []) other
        same_place low other j there same =
            let both : Some other ≡ Some name = sym (place_among-Some (socket_names sockets) other j there) ∙ ap (λ p. slice_get (socket_names sockets) p) same ∙ place_among-Some (socket_names sockets) name k at in
            let one : other ≡ name = cc in
            ap (λ p. get_or (slice_set seen k true) p false) same
            ∙ get_or-set_same seen k true false low
            ∙ sym (among other ∙ or_true (is_among (link_names g (take i links)) other) (bytes_eq other name) ((bytes_eq-Decides other name).1 one))

        other_place : (other : Name) (j : ℕ) → place_among (socket_names sockets) other ≡ Some j → (j ≡ k → ⊥) → get_or (slice_set seen k true) j false ≡ is_among (link_names g (take i links) ++ name ∷ []) other
        other_place other j there apart =
            let no : bytes_eq other name ≡ false =
            false_unless (bytes_eq other name) (λ e. let both : Some j ≡ Some k = sym there ∙ ap (λ n. place_among (socket_names sockets) n) ((bytes_eq-Decides other name).0 e) ∙ at in let same : j ≡ k = cc in apart same) in
            get_or-set_other seen k j true false apart
            ∙ are.each other j there
            ∙ sym (among other ∙ or_false (is_among (link_names g (take i links)) other) (bytes_eq other name) no)

    pub marked_next : target_fault_at seen place (start_in g here.port) ≡ None → AreMarked sockets (link_names g (take (i + 1) links)) (marked seen place)
    marked_next none = go place found none
      where
        go : (o : Option ℕ) → o ≡ place_among (socket_names sockets) name → target_fault_at seen o (start_in g here.port) ≡ None → AreMarked sockets (link_names g (take (i + 1) links)) (marked seen o)
        go None e bad = cc
        go (Some k) e fine = subst (λ names. AreMarked sockets names (marked seen (Some k))) (sym more_names) (marked_more k (sym e))
