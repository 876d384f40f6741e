use Rattle.std.proofs.Common.{◌≡◌, ◌∙◌, ap, sym}
use Rattle.flattening.specs.Flattening.{flattened}
use Rattle.flattening.specs.Places.{module_names}
use Rattle.elaborator.proofs.Placing.{none_place}
use Rattle.elaborator.proofs.Whole.{done_as, items_not_done, no_top, none_before, told_on, top_in, top_not_in, twice_told, whole_done}
use Rattle.elaborator.proofs.top.flat_parts.Goals as goal

pub returns-then-not-has_module : goal.returns-then-not-has_module
returns-then-not-has_module c = λ free. no_top c.args.setting.now c.args.top.now (none_place (module_names c.args.setting.now) c.args.top.now (sym c.has_module.ensures ∙ c.if-not-has_module.true))

pub returns-in_err-modules : goal.returns-in_err-modules
returns-in_err-modules c =
    let g = c.args.setting.now in
    let top = c.args.top.now in
    let f = c.in_err-modules.field-0.0 in
    told_on (flattened g top) f c.from_residual.result c.from_residual.ensures
    (λ free. twice_told g top f (sym c.has_module.ensures ∙ c.if-not-has_module.false) (c.in_err-modules.ensures.fault free))

pub returns-in_default : goal.returns-in_default
returns-in_default c = λ free. no_top c.args.setting.now c.args.top.now (sym c.find.ensures.place ∙ c.in_default.is)

pub admit-requires-clause-ready : goal.admit-requires-clause-ready
admit-requires-clause-ready c =
    c.in_ok-modules.ensures.ready.rows.each c.in-Some.place c.module_at-module.result.now c.ready-ready.result.now c.module_at-module.ensures c.ready-ready.ensures

pub admit-requires-clause-few : goal.admit-requires-clause-few
admit-requires-clause-few c = none_before c.in_ok-making.making c.in_ok-making.ensures

pub returns-in_err-here : goal.returns-in_err-here
returns-in_err-here c =
    let g = c.args.setting.now in
    let top = c.args.top.now in
    let f = c.in_err-here.field-0.0 in
    told_on (flattened g top) f c.from_residual-in_err-here.result c.from_residual-in_err-here.ensures
    (λ free. top_not_in g top c.in-Some.place c.module_at-module.result.now (sym c.find.ensures.place ∙ c.in-Some.is) c.module_at-module.ensures c.in_ok-modules.ensures.fault
    c.as_slice-around.result.now c.in_ok-making.making (c.as_slice-around.ensures ∙ c.in_ok-around.ensures) c.in_ok-making.ensures f (c.in_err-here.ensures.enters free))

pub returns-in_err-do_items : goal.returns-in_err-do_items
returns-in_err-do_items c =
    let g = c.args.setting.now in
    let top = c.args.top.now in
    let place = c.in-Some.place in
    let m = c.module_at-module.result.now in
    let found = sym c.find.ensures.place ∙ c.in-Some.is in
    let around = c.as_slice-around.result.now in
    let outer = c.as_slice-around.ensures ∙ c.in_ok-around.ensures in
    let old = c.in_ok-making.making in
    let made = c.admit.new.making in
    let entered = top_in g top place m found c.module_at-module.ensures c.in_ok-modules.ensures.fault around old outer c.in_ok-making.ensures made c.in_ok-here.ensures.enters in
    let f = c.in_err-do_items.field-0.0 in
    told_on (flattened g top) f c.from_residual-in_err-do_items.result c.from_residual-in_err-do_items.ensures
    (λ free. items_not_done g top place m found c.module_at-module.ensures c.in_ok-modules.ensures.fault made entered around old c.in_ok-here.here outer c.in_ok-making.ensures c.in_ok-here.ensures.child f (c.in_err-do_items.ensures free))

pub returns : goal.returns
returns c =
    let g = c.args.setting.now in
    let top = c.args.top.now in
    let place = c.in-Some.place in
    let m = c.module_at-module.result.now in
    let found = sym c.find.ensures.place ∙ c.in-Some.is in
    let around = c.as_slice-around.result.now in
    let outer = c.as_slice-around.ensures ∙ c.in_ok-around.ensures in
    let old = c.in_ok-making.making in
    let made = c.admit.new.making in
    let entered = top_in g top place m found c.module_at-module.ensures c.in_ok-modules.ensures.fault around old outer c.in_ok-making.ensures made c.in_ok-here.ensures.enters in
    whole_done g top place m found c.module_at-module.ensures c.in_ok-modules.ensures.fault made entered around old c.in_ok-here.here outer c.in_ok-making.ensures c.in_ok-here.ensures.child c.do_items.new.making c.in_ok-do_items.ensures
    ∙ ap done_as (sym c.in_ok-parts.ensures)
