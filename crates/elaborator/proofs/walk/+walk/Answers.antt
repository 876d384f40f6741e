use Rattle.std.proofs.Common.{◌≡◌, ◌<◌, ◌-◌, ◌∙◌, ◌∷◌, ℕ, Option, Some, ap, length, refl, subst, sym}
use Rattle.std.specs.Prelude.{IfSome}
use Rattle.std.proofs.lemmas.Option.{same_Some}
use Rattle.verilog_tree.specs.declared.source.Module.{Module}
use Rattle.flattening.specs.Flattening.{item_step}
use Rattle.flattening.specs.Instances.{fed, port_deed}
use Rattle.flattening.specs.Items.{net_deed, pair_deed, supply_deed}
use Rattle.flattening.specs.Pieces.{performed}
use Rattle.flattening.specs.Places.{Inside}
use Rattle.flattening.specs.Steps.{in_turn}
use Rattle.elaborator.specs.Outcomes.{Does}
use Rattle.elaborator.specs.Primitives.{primitive_step}
use Rattle.elaborator.specs.Walk.{enter_of, instance_at, module_step}
use Rattle.elaborator.proofs.Performing.{carried, retold}
use Rattle.elaborator.proofs.Walking.{continued, item_nets, item_pairs, item_prims, item_supplies, not_entered, not_fed, not_walked, of_cell, of_module, stands_not, walked}
use Rattle.elaborator.proofs.walk.+walk.Goals as goal

pub do_instance-returns-in-None : goal.do_instance-returns-in-None
do_instance-returns-in-None t c =
    of_cell c.args.room c.args.setting.now c.args.here.now c.args.token c.args.inst.now c.args.making.now c.do_cell.new.making c.start-at.result c.name-name.result.now c.start-at.ensures c.name-name.ensures
    c.do_cell.result (sym c.find.ensures.place ∙ c.in-None.is) c.do_cell.ensures

pub do_instance-returns-in-Some : goal.do_instance-returns-in-Some
do_instance-returns-in-Some t c =
    of_module c.args.room c.args.setting.now c.args.here.now c.args.token c.args.inst.now c.args.making.now c.do_module.new.making c.start-at.result c.name-name.result.now c.start-at.ensures c.name-name.ensures
    c.in-Some.place c.do_module.result (sym c.find.ensures.place ∙ c.in-Some.is)
    (subst (λ (o : Option ℕ). IfSome o (λ k. k < length c.args.setting.now.modules)) c.in-Some.is c.find.ensures.within)
    c.do_module.ensures

pub do_item-returns-in-Nets : goal.do_item-returns-in-Nets
do_item-returns-in-Nets t c =
    let g = c.args.setting.now in
    let here = c.args.here.now in
    retold (item_step (enter_of c.args.room g) g here c.args.item.now) (in_turn (λ net. performed c.start-start.result (net_deed g here net)) c.as_slice.result.now) c.args.making.now c.do_nets.new.making c.do_nets.result
    (item_nets (enter_of c.args.room g) g here c.args.item.now c.in-Nets.at c.start-start.result c.start-start.ensures c.args.making.now c.in-Nets.range c.in-Nets.nets c.as_slice.result.now c.in-Nets.is c.as_slice.ensures)
    c.do_nets.ensures

pub do_item-returns-in-Supply : goal.do_item-returns-in-Supply
do_item-returns-in-Supply t c =
    let g = c.args.setting.now in
    let here = c.args.here.now in
    retold (item_step (enter_of c.args.room g) g here c.args.item.now) (in_turn (λ name. performed c.start-start-in-Supply.result (supply_deed g here c.in-Supply.one name)) c.as_slice-in-Supply.result.now) c.args.making.now c.do_supplies.new.making c.do_supplies.result
    (item_supplies (enter_of c.args.room g) g here c.args.item.now c.in-Supply.at c.start-start-in-Supply.result c.start-start-in-Supply.ensures c.args.making.now c.in-Supply.one c.in-Supply.range c.in-Supply.names c.as_slice-in-Supply.result.now c.in-Supply.is c.as_slice-in-Supply.ensures)
    c.do_supplies.ensures

pub do_item-returns-in-Assign : goal.do_item-returns-in-Assign
do_item-returns-in-Assign t c =
    let g = c.args.setting.now in
    let here = c.args.here.now in
    retold (item_step (enter_of c.args.room g) g here c.args.item.now) (in_turn (λ pair. performed c.start-start-in-Assign.result (pair_deed g here pair)) c.as_slice-in-Assign.result.now) c.args.making.now c.do_pairs.new.making c.do_pairs.result
    (item_pairs (enter_of c.args.room g) g here c.args.item.now c.in-Assign.at c.start-start-in-Assign.result c.start-start-in-Assign.ensures c.args.making.now c.in-Assign.pairs c.as_slice-in-Assign.result.now c.in-Assign.is c.as_slice-in-Assign.ensures)
    c.do_pairs.ensures

pub do_item-returns-in-Gates : goal.do_item-returns-in-Gates
do_item-returns-in-Gates t c =
    let g = c.args.setting.now in
    let here = c.args.here.now in
    retold (item_step (enter_of c.args.room g) g here c.args.item.now) (in_turn (primitive_step g here c.start-start-in-Gates.result c.in-Gates.at) c.as_slice-in-Gates.result.now) c.args.making.now c.do_prims.new.making c.do_prims.result
    (item_prims (enter_of c.args.room g) g here c.args.item.now c.in-Gates.at c.start-start-in-Gates.result c.start-start-in-Gates.ensures c.args.making.now c.in-Gates.prims c.as_slice-in-Gates.result.now c.in-Gates.is c.as_slice-in-Gates.ensures)
    c.do_prims.ensures

pub do_module-returns-in_err-tied : goal.do_module-returns-in_err-tied
do_module-returns-in_err-tied t c m there =
    let g = c.args.setting.now in
    let here = c.args.here.now in
    let k = c.module_at-module.result.now in
    let ready = c.requires.modules.rows.each c.args.place k c.ready-ready.result.now c.module_at-module.ensures c.ready-ready.ensures in
    let same : k ≡ m = same_Some k m (sym c.module_at-module.ensures ∙ there) in
    subst (λ (x : Module). Does (module_step c.args.room g here c.args.at c.args.inst.now c.args.place x) c.args.making.now c.args.making.now c.from_residual.result) same
    (carried (module_step c.args.room g here c.args.at c.args.inst.now c.args.place k) c.args.making.now c.args.making.now c.in_err-tied.field-0.0 c.from_residual.result c.from_residual.ensures
    (λ free. stands_not c.args.room g here c.args.at c.args.inst.now c.args.place k c.args.making.now c.ready-ready.result.now.sockets ready.sockets c.in_err-tied.field-0.0 (c.in_err-tied.ensures free)))

pub do_module-admit-requires-clause-ready : goal.do_module-admit-requires-clause-ready
do_module-admit-requires-clause-ready t c =
    c.requires.modules.rows.each c.args.place c.module_at-module.result.now c.ready-ready.result.now c.module_at-module.ensures c.ready-ready.ensures

pub do_module-returns-in_err-child : goal.do_module-returns-in_err-child
do_module-returns-in_err-child t c m there =
    let g = c.args.setting.now in
    let here = c.args.here.now in
    let made = c.args.making.now in
    let k = c.module_at-module.result.now in
    let ready = c.requires.modules.rows.each c.args.place k c.ready-ready.result.now c.module_at-module.ensures c.ready-ready.ensures in
    let same : k ≡ m = same_Some k m (sym c.module_at-module.ensures ∙ there) in
    subst (λ (x : Module). Does (module_step c.args.room g here c.args.at c.args.inst.now c.args.place x) made c.admit.new.making c.from_residual-in_err-child.result) same
    (carried (module_step c.args.room g here c.args.at c.args.inst.now c.args.place k) made c.admit.new.making c.in_err-child.field-0.0 c.from_residual-in_err-child.result c.from_residual-in_err-child.ensures
    (λ free. not_entered c.args.room g here c.args.at c.args.inst.now c.args.place k made c.ready-ready.result.now.sockets ready.sockets
    (Some c.here.inside.scope) c.name-name.result.now c.as_slice.result.now
    (ap (λ (i : Inside). Some i.scope) c.here.view_is) c.name-name.ensures
    (c.as_slice.ensures ∙ c.in_ok-around.ensures ∙ ap (λ (i : Inside). c.args.place ∷ i.around) c.here.view_is)
    c.in_ok-tied.ensures.0 (instance_at g c.as_slice.result.now k made) refl c.in_err-child.field-0.0 (c.in_err-child.ensures.enters free)))

pub do_module-returns-in_err-do_ports : goal.do_module-returns-in_err-do_ports
do_module-returns-in_err-do_ports t c m there =
    let g = c.args.setting.now in
    let here = c.args.here.now in
    let made = c.args.making.now in
    let k = c.module_at-module.result.now in
    let ready = c.requires.modules.rows.each c.args.place k c.ready-ready.result.now c.module_at-module.ensures c.ready-ready.ensures in
    let same : k ≡ m = same_Some k m (sym c.module_at-module.ensures ∙ there) in
    subst (λ (x : Module). Does (module_step c.args.room g here c.args.at c.args.inst.now c.args.place x) made c.do_ports.new.making c.from_residual-in_err-do_ports.result) same
    (carried (module_step c.args.room g here c.args.at c.args.inst.now c.args.place k) made c.do_ports.new.making c.in_err-do_ports.field-0.0 c.from_residual-in_err-do_ports.result c.from_residual-in_err-do_ports.ensures
    (λ free. not_fed c.args.room g here c.args.at c.args.inst.now c.args.place k made c.ready-ready.result.now.sockets ready.sockets
    (Some c.here.inside.scope) c.name-name.result.now c.as_slice.result.now
    (ap (λ (i : Inside). Some i.scope) c.here.view_is) c.name-name.ensures
    (c.as_slice.ensures ∙ c.in_ok-around.ensures ∙ ap (λ (i : Inside). c.args.place ∷ i.around) c.here.view_is)
    c.in_ok-tied.ensures.0 c.in_ok-child.child c.in_ok-child.ensures.child c.admit.new.making c.in_ok-child.ensures.enters c.in_err-do_ports.field-0.0 (c.in_err-do_ports.ensures free)))

pub do_module-returns-in_err-do_items : goal.do_module-returns-in_err-do_items
do_module-returns-in_err-do_items t c m there =
    let g = c.args.setting.now in
    let here = c.args.here.now in
    let made = c.args.making.now in
    let k = c.module_at-module.result.now in
    let ready = c.requires.modules.rows.each c.args.place k c.ready-ready.result.now c.module_at-module.ensures c.ready-ready.ensures in
    let same : k ≡ m = same_Some k m (sym c.module_at-module.ensures ∙ there) in
    subst (λ (x : Module). Does (module_step c.args.room g here c.args.at c.args.inst.now c.args.place x) made c.do_items.new.making c.from_residual-in_err-do_items.result) same
    (carried (module_step c.args.room g here c.args.at c.args.inst.now c.args.place k) made c.do_items.new.making c.in_err-do_items.field-0.0 c.from_residual-in_err-do_items.result c.from_residual-in_err-do_items.ensures
    (λ free. not_walked c.args.room g here c.args.at c.args.inst.now c.args.place k made c.ready-ready.result.now.sockets ready.sockets
    (Some c.here.inside.scope) c.name-name.result.now c.as_slice.result.now
    (ap (λ (i : Inside). Some i.scope) c.here.view_is) c.name-name.ensures
    (c.as_slice.ensures ∙ c.in_ok-around.ensures ∙ ap (λ (i : Inside). c.args.place ∷ i.around) c.here.view_is)
    c.in_ok-tied.ensures.0 c.in_ok-child.child c.in_ok-child.ensures.child c.admit.new.making c.in_ok-child.ensures.enters c.do_ports.new.making c.in_ok-do_ports.ensures
    c.in_err-do_items.field-0.0 (c.in_err-do_items.ensures free)))

pub do_module-returns : goal.do_module-returns
do_module-returns t c m there =
    let g = c.args.setting.now in
    let here = c.args.here.now in
    let made = c.args.making.now in
    let k = c.module_at-module.result.now in
    let ready = c.requires.modules.rows.each c.args.place k c.ready-ready.result.now c.module_at-module.ensures c.ready-ready.ensures in
    let same : k ≡ m = same_Some k m (sym c.module_at-module.ensures ∙ there) in
    subst (λ (x : Module). Does (module_step c.args.room g here c.args.at c.args.inst.now c.args.place x) made c.do_ports-2.new.making c.do_ports-2.result) same
    (continued (module_step c.args.room g here c.args.at c.args.inst.now c.args.place k) (performed c.args.at (port_deed fed g here c.args.inst.now c.in_ok-child.child)) made c.do_items.new.making c.do_ports-2.new.making c.do_ports-2.result
    (walked c.args.room g here c.args.at c.args.inst.now c.args.place k made c.ready-ready.result.now.sockets ready.sockets
    (Some c.here.inside.scope) c.name-name.result.now c.as_slice.result.now
    (ap (λ (i : Inside). Some i.scope) c.here.view_is) c.name-name.ensures
    (c.as_slice.ensures ∙ c.in_ok-around.ensures ∙ ap (λ (i : Inside). c.args.place ∷ i.around) c.here.view_is)
    c.in_ok-tied.ensures.0 c.in_ok-child.child c.in_ok-child.ensures.child c.admit.new.making c.in_ok-child.ensures.enters c.do_ports.new.making c.in_ok-do_ports.ensures
    c.do_items.new.making c.in_ok-do_items.ensures)
    c.do_ports-2.ensures)
