-- The chips have no cycle, and there are no more outputs than output bits.
use Rattle.std.proofs.Common.{◌≡◌, ◌≤◌, length, subst, ap, arith}
use Rattle.design_core.specs.Design.{port_bits}
use Rattle.emu_machine.specs.declared.place.Place.TheVariants as place
use Rattle.emu_machine.specs.Results.{Results}
use Rattle.emu_machine.specs.Netlist.{IsOnCycle, chip_at}
use Rattle.shape_check.proofs.Shown.{no_more}
use Rattle.shape_check.proofs.outputs.find_a12.Goals as goal

pub new-requires : goal.new-requires
new-requires c chip k cycle =
    c.requires.cycles (place.Gate (record { place = chip }) k) (subst (λ (r : Results). IsOnCycle (chip_at r.net chip) k) c.results.ensures cycle)

pub find_output-requires-clause-few : goal.find_output-requires-clause-few
find_output-requires-clause-few c =
    let few : length c.args.case.now.results.map.outputs ≤ length (port_bits c.args.case.now.design.outputs) = no_more c.args.case.now c.requires.mapped in
    let count : length c.outputs.result.now ≡ length c.args.case.now.results.map.outputs = ap length c.outputs.ensures in
    omega (arith, few, count, c.stands.ensures.countable.output_bits)
