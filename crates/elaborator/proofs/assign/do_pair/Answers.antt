use Rattle.std.proofs.Common.{◌∙◌, Some, ap, length, sym}
use Rattle.flattening.specs.Faults.{expression_test}
use Rattle.flattening.specs.Items.{pair_deed}
use Rattle.flattening.specs.Pieces.{buffers, performed}
use Rattle.flattening.specs.Places.{Inside}
use Rattle.elaborator.specs.Room.{elements_alone}
use Rattle.elaborator.proofs.Items.{pair_both, pair_left, pair_right}
use Rattle.elaborator.proofs.Performing.{carried, retold}
use Rattle.elaborator.proofs.assign.do_pair.Goals as goal

pub returns-in_err-left : goal.returns-in_err-left
returns-in_err-left c =
    carried (performed c.args.at (pair_deed c.args.setting.now c.args.instance.now c.args.pair.now)) c.args.making.now c.args.making.now c.in_err-left.field-0.0 c.from_residual.result c.from_residual.ensures
    (λ free. pair_left c.args.setting.now c.args.instance.now c.args.pair.now c.args.at c.args.making.now c.in_err-left.field-0.0 (c.in_err-left.ensures free))

pub returns-in_err-right : goal.returns-in_err-right
returns-in_err-right c =
    carried (performed c.args.at (pair_deed c.args.setting.now c.args.instance.now c.args.pair.now)) c.args.making.now c.args.making.now c.in_err-right.field-0.0 c.from_residual-in_err-right.result c.from_residual-in_err-right.ensures
    (λ free. pair_right c.args.setting.now c.args.instance.now c.args.pair.now c.args.at c.args.making.now c.in_ok-left.left c.in_err-right.field-0.0 c.in_ok-left.ensures.0 c.in_ok-left.ensures.1
    (ap (λ n. expression_test c.args.setting.now c.args.instance.now (Some n) c.args.pair.now.right) (sym c.len.ensures) ∙ c.in_err-right.ensures free))

pub returns : goal.returns
returns c =
    let g = c.args.setting.now in
    let here = c.args.instance.now in
    let pair = c.args.pair.now in
    retold (performed c.args.at (pair_deed g here pair)) (performed c.args.at (elements_alone c.instance.inside.scope (buffers c.as_slice.result.now c.as_slice-2.result.now))) c.args.making.now c.add_buffers.new.self c.add_buffers.result
    (pair_both g here pair c.args.at c.args.making.now c.as_slice-2.result.now c.as_slice.result.now c.in_ok-left.ensures.0 (c.as_slice-2.ensures ∙ c.in_ok-left.ensures.1)
    (ap (λ n. expression_test g here (Some n) pair.right) (ap length c.as_slice-2.ensures ∙ sym c.len.ensures) ∙ c.in_ok-right.ensures.0)
    (c.as_slice.ensures ∙ c.in_ok-right.ensures.1)
    ∙ ap (λ (i : Inside). performed c.args.at (elements_alone i.scope (buffers c.as_slice.result.now c.as_slice-2.result.now)) c.args.making.now) (sym c.instance.view_is))
    c.add_buffers.ensures
