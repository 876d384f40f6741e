use Rattle.std.proofs.Common.{ap, get_or, refl, rules, subst, sym, Some, ◌≡◌, ◌≢◌, ◌∙◌}
use Rattle.std.specs.Prelude.{option_map}
use Rattle.std.proofs.lemmas.List.{take_all}
use Rattle.id_arena.specs.Names.{place_among}
use Rattle.module_nets.specs.Names.{is_among}
use Rattle.verilog_tree.specs.declared.source.Links.TheVariants.{Named}
use Rattle.flattening.specs.declared.fault.ElabFault.TheVariants.{NoMemory}
use Rattle.flattening.specs.Faults.{bits_here}
use Rattle.flattening.specs.Links.{place_tests, socket_names, value_tests}
use Rattle.flattening.specs.Places.{name_in}
use Rattle.flattening.specs.Steps.{first_fault}
use Rattle.elaborator.specs.Ties.{AreTied}
use Rattle.elaborator.proofs.Linking.{all_tied, is_first, is_there, none_tied, tied_next, width_found}
use Rattle.elaborator.proofs.Tying.{named_end, named_step, fault_passed, fault_found}
use Rattle.elaborator.proofs.ties.read_named.Goals as goal

pub links-init : goal.links-init
links-init c = (none_tied c.args.setting.now c.args.here.now c.args.sockets.now c.in_ok-ties.ties c.len.result c.len.ensures c.in_ok-ties.ensures, refl)

pub place-place-requires : goal.place-place-requires
place-place-requires c =
    let g = c.args.setting.now in
    let sockets = c.args.sockets.now in
    ap (λ n. is_among (socket_names sockets) n) (c.name.ensures ∙ ap (λ link. name_in g link.port) c.link-item.is)
    ∙ is_there g sockets c.args.links.now c.requires.fine c.links.link-index c.link-item.result c.links-test.true

pub returns-in_err-tie : goal.returns-in_err-tie
returns-in_err-tie c =
    let g = c.args.setting.now in
    let here = c.args.here.now in
    let sockets = c.args.sockets.now in
    let links = c.args.links.now in
    let named = ap (λ n. place_among (socket_names sockets) n) (sym (c.name.ensures ∙ ap (λ link. name_in g link.port) c.link-item.is)) ∙ c.place-place.ensures in
    let asked = c.width.ensures ∙ width_found sockets (name_in g (get_or links c.links.link-index c.link-item.result).port) c.place-place.result named in
    let step = named_step g here sockets links c.links.link-index c.link-item.result c.width.result c.links-test.true asked in
    let told : c.in_err-tie.field-0.0 ≢ NoMemory → first_fault (value_tests g here sockets (Named links)) ≡ Some c.in_err-tie.field-0.0 =
    λ free.
    fault_found _ _ _ _ (sym c.links.invariant.1 ∙ step) (ap (λ link. first_fault (place_tests g here c.width.result link.expr)) (sym c.link-item.is) ∙ c.in_err-tie.ensures free) in
    search rules

pub links-preserved : goal.links-preserved
links-preserved c =
    let g = c.args.setting.now in
    let here = c.args.here.now in
    let sockets = c.args.sockets.now in
    let links = c.args.links.now in
    let named = ap (λ n. place_among (socket_names sockets) n) (sym (c.name.ensures ∙ ap (λ link. name_in g link.port) c.link-item.is)) ∙ c.place-place.ensures in
    let asked = c.width.ensures ∙ width_found sockets (name_in g (get_or links c.links.link-index c.link-item.result).port) c.place-place.result named in
    let step = named_step g here sockets links c.links.link-index c.link-item.result c.width.result c.links-test.true asked in
    let own = is_first g sockets links c.requires.fine c.links.link-index c.link-item.result c.links-test.true in (
      tied_next g here sockets links c.links.link-index c.link-item.result c.links-test.true c.links.ties c.links.invariant.0 c.place-place.result named own
          c.in_ok-tie.tie (c.in_ok-tie.ensures.1 ∙ ap (λ link. option_map (bits_here g here) link.expr) c.link-item.is) c.set.new.self c.set.ensures,
      fault_passed _ _ _ step (ap (λ link. first_fault (place_tests g here c.width.result link.expr)) (sym c.link-item.is) ∙ c.in_ok-tie.ensures.0) ∙ c.links.invariant.1,
    )

pub returns : goal.returns
returns c =
    let g = c.args.setting.now in
    let here = c.args.here.now in
    let sockets = c.args.sockets.now in
    let links = c.args.links.now in (
      sym c.links.invariant.1 ∙ named_end g here sockets links c.links.link-index c.links-test.false,
      all_tied g here sockets links c.links.ties c.share.new.ties
          (subst (λ l. AreTied g here sockets l c.links.ties) (take_all c.links.link-index links c.links-test.false) c.links.invariant.0)
          c.in_ok-share.ensures,
    )
