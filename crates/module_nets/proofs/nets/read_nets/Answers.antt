use Rattle.module_nets.proofs.Numbering.{nets_made, rows_within}
use Rattle.module_nets.proofs.nets.read_nets.Goals as goal

pub invariant_of-result : goal.invariant_of-result
invariant_of-result c =
    rows_within c.args.source.now c.args.tokens.now c.args.module.now c.in_ok-names.field-0 c.as_slice.result.now c.in_ok-seen.seen c.as_slice-2.result.now c.in_ok-rows.rows
    c.in_ok-names.ensures.table c.as_slice.ensures c.in_ok-seen.ensures c.as_slice-2.ensures c.in_ok-rows.ensures

pub returns : goal.returns
returns c =
    nets_made c.args.source.now c.args.tokens.now c.args.module.now c.in_ok-names.field-0 c.as_slice.result.now c.in_ok-seen.seen c.as_slice-2.result.now c.in_ok-rows.rows
    c.in_ok-names.ensures.table c.as_slice.ensures c.in_ok-seen.ensures c.as_slice-2.ensures c.in_ok-rows.ensures
