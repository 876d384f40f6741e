use Rattle.std.proofs.Common.{ap, get_or, map, rules, sym, take, Some, ◌≡◌, ◌≢◌, ◌++◌, ◌∷◌, [], ◌∙◌}
use Rattle.std.specs.Prelude.{option_map}
use Rattle.std.proofs.lemmas.List.{map-append, take_all, take_more}
use Rattle.verilog_tree.specs.declared.source.Links.TheVariants.{Ordered}
use Rattle.flattening.specs.declared.fault.ElabFault.TheVariants.{NoMemory}
use Rattle.flattening.specs.Faults.{bits_here}
use Rattle.flattening.specs.Links.{place_tests, value_tests}
use Rattle.flattening.specs.Steps.{first_fault}
use Rattle.elaborator.proofs.Tying.{ordered_end, ordered_step, ordered_ties, fault_passed, fault_found}
use Rattle.elaborator.proofs.ties.read_ordered.Goals as goal

pub returns-in_err-tie : goal.returns-in_err-tie
returns-in_err-tie c =
    let g = c.args.setting.now in
    let here = c.args.here.now in
    let sockets = c.args.sockets.now in
    let places = c.args.places.now in
    let step = ordered_step g here sockets places c.requires.count c.places.k c.index-places-k.result c.width.result c.places-test.true c.width.ensures in
    let told : c.in_err-tie.field-0.0 ≢ NoMemory → first_fault (value_tests g here sockets (Ordered places)) ≡ Some c.in_err-tie.field-0.0 =
    λ free.
    fault_found _ _ _ _ (sym c.places.invariant.1 ∙ step) (ap (λ p. first_fault (place_tests g here c.width.result p)) (sym c.index-places-k.is) ∙ c.in_err-tie.ensures free) in
    search rules

pub places-preserved : goal.places-preserved
places-preserved c =
    let g = c.args.setting.now in
    let here = c.args.here.now in
    let sockets = c.args.sockets.now in
    let places = c.args.places.now in
    let step = ordered_step g here sockets places c.requires.count c.places.k c.index-places-k.result c.width.result c.places-test.true c.width.ensures in (
      c.in_ok-push.ensures.ok
          ∙ (λ i. c.places.invariant.0 i ++ (c.in_ok-tie.ensures.1 ∙ ap (λ p. option_map (bits_here g here) p) c.index-places-k.is) i ∷ [])
          ∙ sym (map-append (option_map (bits_here g here)) (take c.places.k places) (get_or places c.places.k c.index-places-k.result ∷ []))
          ∙ ap (λ l. map (option_map (bits_here g here)) l) (sym (take_more places c.places.k c.index-places-k.result c.places-test.true)),
      fault_passed _ _ _ step (ap (λ p. first_fault (place_tests g here c.width.result p)) (sym c.index-places-k.is) ∙ c.in_ok-tie.ensures.0) ∙ c.places.invariant.1,
    )

pub returns : goal.returns
returns c =
    let g = c.args.setting.now in
    let here = c.args.here.now in
    let sockets = c.args.sockets.now in
    let places = c.args.places.now in (
      sym c.places.invariant.1 ∙ ordered_end g here sockets places c.requires.count c.places.k c.places-test.false,
      c.places.invariant.0
          ∙ ap (λ l. map (option_map (bits_here g here)) l) (take_all c.places.k places c.places-test.false)
          ∙ ordered_ties g here sockets places c.requires.count,
    )
