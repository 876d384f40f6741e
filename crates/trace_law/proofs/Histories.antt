-- A run of the original shows what the one history shows.
use Rattle.std.proofs.Common.{◌≡◌, ℕ, zero, suc, List, [], ◌∷◌, ◌++◌, map, take, drop, refl, sym, ap, subst, ◌∙◌}
use Rattle.std.specs.Prelude.{flat_map, ◌||◌}
use Rattle.std.proofs.lemmas.List.{take-map}
use Rattle.id_arena.specs.declared.keys.NetId.{NetId}
use Rattle.design_core.specs.declared.parts.Parts.{Parts}
use Rattle.design_core.specs.declared.values.PortBit.{PortBit}
use Rattle.design_core.specs.declared.values.Event.{Event}
use Rattle.design_core.specs.Design.{IsDesign, port_bits, includes, element_reads, memory_reads}
use Rattle.design_core.specs.Valuation.{Valuation, values, SameValues}
use Rattle.design_core.specs.Event.{Follow, IsHistory, HasOneHistory, SameHistory}
use Rattle.emu_machine.specs.Headline.{event_values}
use Rattle.history_law.proofs.Naming.{same_number}
use Rattle.history_law.proofs.Ranges.{Within, within_right}
use Rattle.one_history.proofs.Alone.{one_history}
use Rattle.domain_groups.specs.Traces.{outputs_of, trace_of}
use Rattle.trace_law.specs.Traces.{OpenedAreSame, SettledTraces, SettledTraceIsOne}

-- ## Opened valuations

same_by : (p : Parts) (u v w : Valuation) → SameValues p u v → SameValues p u w → SameValues p v w
same_by p u v w h g =
    record {
      nets = λ n small. sym (h.nets n small) ∙ g.nets n small;
      words = λ m a address. sym (h.words m a address) ∙ g.words m a address;
    }

pub opened_are_same : OpenedAreSame
opened_are_same p o v w d r fits first second = go one.history (one.only (v ∷ []) (first, tt)) (one.only (w ∷ []) (second, tt))
  where
    one : HasOneHistory p o []
    one = one_history p o [] d r fits

    go : (history : List Valuation) → SameHistory p history (v ∷ []) → SameHistory p history (w ∷ []) → SameValues p v w
    go [] h g = absurd h
    go (u ∷ us) h g = same_by p u v w h.0 g.0

-- ## The same histories show the same

module _ (p : Parts) where
  same_values : (v w : Valuation) (nets : List NetId) → Within p nets → SameValues p v w → values v nets ≡ values w nets
  same_values v w [] within same = refl
  same_values v w (n ∷ nets) within same =
      ap (λ bit. bit ∷ values v nets) (same.nets n.place (within.within n.place (ap (λ b. b || includes nets n.place) (same_number n.place n.place refl))))
      ∙ ap (λ bits. w.net n.place ∷ bits) (same_values v w nets (within_right p (n ∷ []) nets within) same)

  module _ (d : IsDesign p) where
    outputs_within : Within p (port_bits p.outputs)
    outputs_within =
        within_right p (flat_map element_reads p.elements ++ flat_map memory_reads p.memories) (port_bits p.outputs)
        (record { within = λ n e. (d.driven n e).0 })

    same_shown : (vs us : List Valuation) → SameHistory p vs us → map (outputs_of p) vs ≡ map (outputs_of p) us
    same_shown [] [] h = refl
    same_shown [] (u ∷ us) h = absurd h
    same_shown (v ∷ vs) [] h = absurd h
    same_shown (v ∷ vs) (u ∷ us) h =
        ap (λ bits. bits ∷ map (outputs_of p) vs) (same_values v u (port_bits p.outputs) outputs_within h.0)
        ∙ ap (λ rest. outputs_of p u ∷ rest) (same_shown vs us h.1)

    same_later : (history : List Valuation) (v : Valuation) (vs : List Valuation) → SameHistory p history (v ∷ vs) → map (outputs_of p) (drop 1 history) ≡ map (outputs_of p) vs
    same_later [] v vs h = absurd h
    same_later (u ∷ us) v vs h = same_shown us vs h.1

-- ## The first events of a history

first_follow : (p : Parts) (count : ℕ) (events : List (List PortBit)) (v : Valuation) (vs : List Valuation) → Follow p v events vs → Follow p v (take count events) (take count vs)
first_follow p zero events v vs h = tt
first_follow p (suc count) [] v [] h = tt
first_follow p (suc count) [] v (w ∷ ws) h = absurd h
first_follow p (suc count) (e ∷ es) v [] h = absurd h
first_follow p (suc count) (e ∷ es) v (w ∷ ws) h = (h.0, first_follow p count es w ws h.1)

pub settled_traces : SettledTraces
settled_traces p o events count v vs h d r fits opened within follow = go h.history h.is_one
  where
    one : HasOneHistory p o (event_values (take count events))
    one = one_history p o (event_values (take count events)) d r fits

    go : (history : List Valuation) → IsHistory p o (event_values events) history → map (outputs_of p) vs ≡ take count (map (outputs_of p) (drop 1 history))
    go [] is = absurd is
    go (u ∷ us) is =
        let first : Follow p u (event_values (take count events)) (take count us) =
        subst (λ es. Follow p u es (take count us)) (take-map (λ (event : Event). event.values) count events) (first_follow p count (event_values events) u us is.1) in
        sym (same_later p d one.history v vs (one.only (v ∷ vs) (opened, follow)))
        ∙ same_later p d one.history u (take count us) (one.only (u ∷ take count us) (is.0, first))
        ∙ sym (take-map (outputs_of p) count us)

pub settled_trace_is_one : SettledTraceIsOne
settled_trace_is_one p o events v vs h d opened follow =
    ap (trace_of p.outputs) (sym (same_later p d h.history v vs (h.only (v ∷ vs) (opened, follow))))
