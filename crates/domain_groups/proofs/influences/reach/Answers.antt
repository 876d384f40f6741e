use Rattle.std.proofs.Common.{◌≡◌, ◌<◌, ◌+◌, ◌∙◌, length, sym, subst, arith}
use Rattle.design_core.specs.Design.{IsDesign}
use Rattle.link_rows.specs.BitRows.{BitTable, IsRectangular}
use Rattle.domain_groups.proofs.GroupNets.{input_there}
use Rattle.domain_groups.proofs.NodeMarks.{net_room, node_room}
use Rattle.domain_groups.proofs.Spreading.{Spread, begin, pass_over, take_in, reaches, dependent_there}
use Rattle.domain_groups.proofs.TableBits.{room_before}
use Rattle.domain_groups.proofs.influences.reach.Goals as goal
use Rattle.domain_groups.proofs.influences.reach.Goals.{then-needs_marked, else-needs_marked}

pub set_nets-requires-clause-below : goal.set_nets-requires-clause-below
set_nets-requires-clause-below c =
    let p = c.args.ranked.now.design in
    let d = subst IsDesign c.design.ensures c.stands-2.ensures.design in
    let wide = c.requires.row.width in
    λ n h. let room = net_room p n (input_there p d n (c.requires.inputs n h)) in omega arith

pub nodes-init : goal.nodes-init
nodes-init c =
    let p = c.args.ranked.now.design in
    let order = c.args.ranked.now.order in
    let d = subst IsDesign c.design.ensures c.stands-2.ensures.design in
    begin p order (c.orders_are_sorted.ensures p order c.stands.ensures) c.args.seeds.now c.set_nets.new.table c.args.row c.args.table.now c.set_nets.ensures c.requires.clear
    (λ n h. input_there p d n (c.requires.inputs n h))

pub set-requires-clause-at : goal.set-requires-clause-at
set-requires-clause-at c =
    let node = c.stands.ensures.nodes c.nodes.place _ c.at-node.ensures in
    node_room c.args.ranked.now.design _ c.number.result c.nodes.table.width node c.number.ensures
    (c.nodes.invariant.size.width ∙ c.set_nets.ensures.width ∙ c.requires.row.width)

pub nodes-preserved : goal.nodes-preserved
nodes-preserved c =
    let p = c.args.ranked.now.design in
    let order = c.args.ranked.now.order in
    let sorted = c.orders_are_sorted.ensures p order c.stands.ensures in
    let node = c.stands.ensures.nodes c.nodes.place _ c.at-node.ensures in
    let wide = c.nodes.invariant.size.width ∙ c.set_nets.ensures.width ∙ c.requires.row.width in
    let count = c.nodes.invariant.size.count ∙ c.set_nets.ensures.count in
    let some = c.requires.row.there in
    let there : c.args.row < length c.nodes.table.rows = omega arith in
    elim c.if-needs_marked.branch [
      | then-needs_marked w ↦
          (let low = node_room p _ w.number.result c.nodes.table.width node w.number.ensures wide in
          let size = room_before c.nodes.table c.args.row w.number.result there (subst IsRectangular w.set.ensures.bit w.set.ensures.rectangular) in
          subst (λ (t : BitTable). Spread p order c.args.seeds.now c.set_nets.new.table t c.args.row (c.nodes.place + 1)) (sym w.table-is)
          (take_in p order sorted c.args.seeds.now c.set_nets.new.table c.args.row c.nodes.table c.nodes.place _ c.at-node.ensures c.nodes.invariant
          w.number.result w.set.new.self node w.number.ensures there (omega arith) w.set.ensures.bit (sym c.needs_marked.ensures ∙ w.if-needs_marked.true)))
      | else-needs_marked w ↦
          (subst (λ (t : BitTable). Spread p order c.args.seeds.now c.set_nets.new.table t c.args.row (c.nodes.place + 1)) (sym w.table-is)
          (pass_over p order sorted c.args.seeds.now c.set_nets.new.table c.args.row c.nodes.table c.nodes.place _ c.at-node.ensures c.nodes.invariant
          (sym c.needs_marked.ensures ∙ w.if-needs_marked.false)))
    ]

pub returns : goal.returns
returns c =
    let p = c.args.ranked.now.design in
    let order = c.args.ranked.now.order in
    let d = subst IsDesign c.design.ensures c.stands-2.ensures.design in
    let sorted = c.orders_are_sorted.ensures p order c.stands.ensures in
    let end = c.len-place-end.ensures.count in
    reaches p order sorted c.args.seeds.now c.set_nets.new.table c.args.row c.nodes.table c.nodes.place c.stands.ensures.all
    (dependent_there p d c.driver_is_element.ensures c.driver_is_read_bit.ensures c.element_is_driver.ensures c.read_bit_is_driver.ensures)
    c.nodes.invariant (omega arith) c.args.table.now c.set_nets.ensures
