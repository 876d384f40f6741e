-- The machine shows at the spots of the map what the original shows at its outputs.
use Rattle.std.proofs.Common.{◌≡◌, ℕ, suc, Bool, true, List, [], ◌∷◌, map, length, refl, ap, ◌∙◌, arith}
use Rattle.std.specs.Prelude.{Some, slice_get}
use Rattle.id_arena.specs.declared.keys.NetId.{NetId}
use Rattle.design_core.specs.declared.values.Event.{Event}
use Rattle.design_core.specs.Design.{port_bits}
use Rattle.design_core.specs.Valuation.{Valuation}
use Rattle.emu_machine.specs.declared.map.Spot.{Spot}
use Rattle.emu_machine.specs.declared.place.Place.TheVariants as place
use Rattle.emu_machine.specs.Results.{Results}
use Rattle.emu_machine.specs.State.{State, net_value, after_frame, run_of}
use Rattle.emu_machine.specs.declared.rule.Rule.TheVariants.{A9}
use Rattle.emu_machine.specs.Acceptance.{Case, output_differs}
use Rattle.emu_machine.specs.Headline.{Agrees, RunsTogether}
use Rattle.accepted_law.proofs.Whole.{accepted_agrees}
use Rattle.domain_groups.specs.Traces.{outputs_of, spots_of, trace_of}
use Rattle.trace_law.specs.Traces.{TracesAgree, OutputsAreMapped}

-- ## As many spots as output bits

module _ (r : Results) where
  as_many : (spots : List Spot) (nets : List NetId) → ((k : ℕ) → output_differs r (slice_get spots k) (slice_get nets k) ≡ true → ⊥) → length spots ≡ length nets
  as_many [] [] same = refl
  as_many [] (n ∷ nets) same = absurd (same 0 refl)
  as_many (spot ∷ spots) [] same = absurd (same 0 refl)
  as_many (spot ∷ spots) (n ∷ nets) same = ap suc (as_many spots nets (λ k e. same (suc k) e))

pub outputs_are_mapped : OutputsAreMapped
outputs_are_mapped c inside holds =
    as_many c.results c.results.map.outputs (port_bits c.design.outputs) (λ k e. holds (place.Output k) e)

-- ## The same bits

module _ {A B : Type 0} (f : A → Bool) (g : B → Bool) where
  same_bits : (xs : List A) (ys : List B) → length xs ≡ length ys → ((k : ℕ) (x : A) (y : B) → slice_get xs k ≡ Some x → slice_get ys k ≡ Some y → f x ≡ g y) → map f xs ≡ map g ys
  same_bits [] [] long same = refl
  same_bits [] (y ∷ ys) long same = absurd (omega (arith, long))
  same_bits (x ∷ xs) [] long same = absurd (omega (arith, long))
  same_bits (x ∷ xs) (y ∷ ys) long same =
      let less : length xs ≡ length ys = omega (arith, long) in
      ap (λ bit. bit ∷ map f xs) (same 0 x y refl refl)
      ∙ ap (λ bits. g y ∷ bits) (same_bits xs ys less (λ k. same (suc k)))

module _ (c : Case) (mapped : length c.results.map.outputs ≡ length (port_bits c.design.outputs)) where
  spots_show : (v : Valuation) (x : State) → Agrees c v x → spots_of c.results x ≡ outputs_of c.design v
  spots_show v x agrees =
      same_bits (λ (spot : Spot). net_value c.results.net x spot.chip.place spot.net.place) (λ (n : NetId). v.net n.place)
      c.results.map.outputs (port_bits c.design.outputs) mapped agrees.outputs

  agrees_now : (v : Valuation) (vs : List Valuation) (x : State) (events : List Event) → RunsTogether c v vs x events → Agrees c v x
  agrees_now v [] x [] h = h
  agrees_now v [] x (e ∷ es) h = absurd h
  agrees_now v (w ∷ ws) x [] h = absurd h
  agrees_now v (w ∷ ws) x (e ∷ es) h = h.0

  all_show : (v : Valuation) (vs : List Valuation) (x : State) (events : List Event) → RunsTogether c v vs x events → map (spots_of c.results) (run_of c.results c.board.wires x events) ≡ map (outputs_of c.design) vs
  all_show v [] x [] h = refl
  all_show v [] x (e ∷ es) h = absurd h
  all_show v (w ∷ ws) x [] h = absurd h
  all_show v (w ∷ ws) x (e ∷ es) h =
      let after : State = after_frame c.results c.board.wires e x in
      ap (λ bits. bits ∷ map (spots_of c.results) (run_of c.results c.board.wires after es)) (spots_show w after (agrees_now w ws after es h.2))
      ∙ ap (λ rest. outputs_of c.design w ∷ rest) (all_show w ws after es h.2)

pub traces_agree : TracesAgree
traces_agree c o events v vs x is accepted opening fits history loaded =
    ap (trace_of c.design.outputs)
    (all_show c (outputs_are_mapped c accepted.inside (accepted.rules A9)) v vs x events
    ((accepted_agrees c is accepted).together o events v vs x opening fits history loaded))
