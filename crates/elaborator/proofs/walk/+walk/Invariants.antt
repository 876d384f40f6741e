use Rattle.std.proofs.Common.{◌≡◌, ◌+◌, ◌*◌, drop}
use Rattle.flattening.specs.Flattening.{instance_step, item_step}
use Rattle.flattening.specs.Steps.{in_turn}
use Rattle.elaborator.specs.Walk.{enter_of}
use Rattle.elaborator.proofs.walk.+walk.Given as goal

abbrev pub decreases-do_items : goal.decreases-do_items
decreases-do_items l = 5 * l.room + 4

abbrev pub decreases-do_item : goal.decreases-do_item
decreases-do_item l = 5 * l.room + 3

abbrev pub decreases-do_instances : goal.decreases-do_instances
decreases-do_instances l = 5 * l.room + 2

abbrev pub decreases-do_instance : goal.decreases-do_instance
decreases-do_instance l = 5 * l.room + 1

abbrev pub decreases-do_module : goal.decreases-do_module
decreases-do_module l = 5 * l.room

abbrev pub invariant-do_items-items : goal.invariant-do_items-items
invariant-do_items-items l =
    in_turn (item_step (enter_of l.room l.setting) l.setting l.instance) (drop l.item-index l.item-items) l.making
    ≡ in_turn (item_step (enter_of l.room l.setting) l.setting l.instance) l.item-items l.fn.making

abbrev pub invariant-do_instances-insts : goal.invariant-do_instances-insts
invariant-do_instances-insts l =
    in_turn (instance_step (enter_of l.room l.setting) l.setting l.here l.token) (drop l.inst-index l.insts) l.making
    ≡ in_turn (instance_step (enter_of l.room l.setting) l.setting l.here l.token) l.insts l.fn.making
