use Rattle.std.proofs.Common.{◌≡◌, ◌∙◌, Some, ap, length, sym}
use Rattle.flattening.specs.Faults.{expression_test}
use Rattle.flattening.specs.Items.{net_bits, net_deed}
use Rattle.flattening.specs.Pieces.{buffers, performed}
use Rattle.flattening.specs.Places.{Inside, named_bits}
use Rattle.elaborator.specs.Room.{elements_alone}
use Rattle.elaborator.proofs.Items.{net_both, net_value}
use Rattle.elaborator.proofs.Performing.{carried, retold}
use Rattle.elaborator.proofs.assign.do_net.Goals as goal

pub returns-in_err-value : goal.returns-in_err-value
returns-in_err-value c =
    let g = c.args.setting.now in
    let here = c.args.instance.now in
    let net = c.args.net.now in
    carried (performed c.args.at (net_deed g here net)) c.args.making.now c.args.making.now c.in_err-value.field-0.0 c.from_residual-in_err-value.result c.from_residual-in_err-value.ensures
    (λ free. net_value g here net c.args.at c.args.making.now c.in-Some.value c.in_ok-bits.bits c.in_err-value.field-0.0 c.in-Some.is (c.in_ok-bits.ensures ∙ ap (named_bits here) c.name.ensures)
    (ap (λ n. expression_test g here (Some n) c.in-Some.value) (sym c.len.ensures) ∙ c.in_err-value.ensures free))

pub returns : goal.returns
returns c =
    let g = c.args.setting.now in
    let here = c.args.instance.now in
    let net = c.args.net.now in
    let are : c.as_slice-2.result.now ≡ net_bits g here net.name = c.as_slice-2.ensures ∙ c.in_ok-bits.ensures ∙ ap (named_bits here) c.name.ensures in
    retold (performed c.args.at (net_deed g here net)) (performed c.args.at (elements_alone c.instance.inside.scope (buffers c.as_slice.result.now c.as_slice-2.result.now))) c.args.making.now c.add_buffers-2.new.self c.add_buffers-2.result
    (net_both g here net c.args.at c.args.making.now c.in-Some.value c.as_slice-2.result.now c.as_slice.result.now c.in-Some.is are
    (ap (λ n. expression_test g here (Some n) c.in-Some.value) (ap length c.as_slice-2.ensures ∙ sym c.len.ensures) ∙ c.in_ok-value.ensures.0)
    (c.as_slice.ensures ∙ c.in_ok-value.ensures.1)
    ∙ ap (λ (i : Inside). performed c.args.at (elements_alone i.scope (buffers c.as_slice.result.now c.as_slice-2.result.now)) c.args.making.now) (sym c.instance.view_is))
    c.add_buffers-2.ensures
