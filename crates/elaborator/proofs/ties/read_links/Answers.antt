use Rattle.std.proofs.Common.{subst, sym, ◌∙◌}
use Rattle.flattening.specs.Links.{target_tests, ties, value_tests}
use Rattle.flattening.specs.Steps.{Test}
use Rattle.elaborator.specs.Outcomes.{Finds}
use Rattle.elaborator.proofs.Tying.{fault_append, fault_passed, fault_found}
use Rattle.elaborator.proofs.ties.read_links.Goals as goal

pub returns-in-Some : goal.returns-in-Some
returns-in-Some c = λ _.
    let g = c.args.setting.now in
    let sockets = c.args.sockets.now in
    fault_found _ _ _ _ (fault_append (target_tests g sockets c.args.inst.now) (value_tests g c.args.here.now sockets c.args.inst.now.links))
    (sym c.in_ok-fault.ensures ∙ c.in-Some.is)

pub returns : goal.returns
returns c =
    let g = c.args.setting.now in
    let here = c.args.here.now in
    let sockets = c.args.sockets.now in
    let inst = c.args.inst.now in
    let same = fault_passed _ _ _ (fault_append (target_tests g sockets inst) (value_tests g here sockets inst.links)) (sym c.in_ok-fault.ensures ∙ c.in_default.is) in
    subst (λ (test : Test). Finds test (ties g here inst.links sockets) c.read_values.result) same c.read_values.ensures
