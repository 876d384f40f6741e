-- A table of up to 5 inputs has at most 32 bits.
use Rattle.std.proofs.Common.{◌≤◌, arith}
use Rattle.design_core.proofs.Powers.{wide, shift_is, rows_fit, table_is}
use Rattle.design_core.proofs.good.table_fits.Goals as goal

pub returns-then-inputs-gt5 : goal.returns-then-inputs-gt5
returns-then-inputs-gt5 c = wide c.args.table c.args.inputs (omega arith) c.if-inputs-gt5.true

pub overflow_shl-result-2 : goal.overflow_shl-result-2
overflow_shl-result-2 c =
    let few : c.args.inputs ≤ 5 = omega arith in
    let rows = rows_fit c.args.inputs few in
    let same = shift_is c.args.inputs (omega arith) in
    omega arith

pub returns : goal.returns
returns c = table_is c.args.table c.args.inputs (omega arith)
