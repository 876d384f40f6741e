-- The table of drives tells the drivers, or the least net with two, or the least without one.
use Rattle.std.proofs.Common.{◌≡◌, ◌∙◌, None, Some, length, ap, sym, arith}
use Rattle.design_core.specs.Design.{nets_read}
use Rattle.design_core.specs.Drives.{AreTold, IsFirstTwice}
use Rattle.design_core.specs.Reads.{lowest}
use Rattle.design_core.proofs.Ranges.{in_range}
use Rattle.design_core.proofs.Sole.{are_drivers, are_once, least_twice, table_length}
use Rattle.design_core.proofs.Undriven.{least_undriven, none_undriven}
use Rattle.design_core.proofs.build.sole_drivers.Goals as goal

pub drivers_of-requires : goal.drivers_of-requires
drivers_of-requires c =
    let size = table_length c.args.parts.now c.in_ok-table.table.items c.in_ok-table.ensures in
    let size-2 = ap length c.deref.ensures.value in
    omega (arith, size, size-2, c.requires.few.nets)

pub net_text-requires-clause-there : goal.net_text-requires-clause-there
net_text-requires-clause-there c =
    let first : IsFirstTwice c.in_ok-table.table.items c.in-Err-Twice.net.place = rw (c.in-Err-Twice.field-0-is, c.deref.ensures.value) at c.in-Err-Twice.ensures.fault in
    (least_twice c.args.parts.now c.in_ok-table.table.items c.in-Err-Twice.net.place c.in_ok-table.ensures first).0

pub returns-in-Err-Twice-clause-fault : goal.returns-in-Err-Twice-clause-fault
returns-in-Err-Twice-clause-fault c =
    let first : IsFirstTwice c.in_ok-table.table.items c.in-Err-Twice.net.place = rw (c.in-Err-Twice.field-0-is, c.deref.ensures.value) at c.in-Err-Twice.ensures.fault in
    ((least_twice c.args.parts.now c.in_ok-table.table.items c.in-Err-Twice.net.place c.in_ok-table.ensures first).1, c.in_ok-name-in-Err-Twice.ensures)

pub net_text-requires-in-Some-clause-there : goal.net_text-requires-in-Some-clause-there
net_text-requires-in-Some-clause-there c =
    let found : lowest c.in_ok-table.table.items None (nets_read c.args.parts.now) ≡ Some c.in-Some.net = rw (c.deref-2.ensures.value) at (sym c.least_undriven.ensures ∙ c.in-Some.is) in
    (least_undriven c.args.parts.now c.in_ok-table.table.items c.in-Some.net c.in_ok-table.ensures c.requires.there found).0

pub returns-in-Some-clause-fault : goal.returns-in-Some-clause-fault
returns-in-Some-clause-fault c =
    let p = c.args.parts.now in
    let table = c.in_ok-table.table.items in
    let found : lowest c.in_ok-table.table.items None (nets_read p) ≡ Some c.in-Some.net = rw (c.deref-2.ensures.value) at (sym c.least_undriven.ensures ∙ c.in-Some.is) in
    let are : AreTold table c.in-Ok.drivers.items = rw (c.deref.ensures.value) at c.in-Ok.ensures.told in
    (are_once p table c.in-Ok.drivers.items c.in_ok-table.ensures (in_range p c.requires.there) are, (least_undriven p table c.in-Some.net c.in_ok-table.ensures c.requires.there found).1, c.in_ok-name.ensures)

pub returns : goal.returns
returns c =
    let p = c.args.parts.now in
    let table = c.in_ok-table.table.items in
    let are : AreTold table c.in-Ok.drivers.items = rw (c.deref.ensures.value) at c.in-Ok.ensures.told in
    let none : lowest table None (nets_read p) ≡ None = rw (c.deref-2.ensures.value) at (sym c.least_undriven.ensures ∙ c.in_default.is) in
    record {
      drivers = are_drivers p table c.in-Ok.drivers.items c.in_ok-table.ensures are;
      once = are_once p table c.in-Ok.drivers.items c.in_ok-table.ensures (in_range p c.requires.there) are;
      driven = none_undriven p table c.in_ok-table.ensures c.requires.there none;
      fault = tt;
    }
