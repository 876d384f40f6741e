use Rattle.std.proofs.Common.{◌∙◌, List, Some, None, ap, length, sym}
use Rattle.verilog_tree.specs.declared.source.Expr.{Expr}
use Rattle.flattening.specs.Steps.{first_fault}
use Rattle.flattening.specs.Pieces.{performed}
use Rattle.flattening.specs.Primitives.{gates_of, primitive_deed}
use Rattle.elaborator.specs.Primitives.{terminal_nets, terminal_tests}
use Rattle.elaborator.proofs.Gates.{inputs_test_is, prim_inputs, prim_done, prim_full, prim_terminals}
use Rattle.elaborator.proofs.Performing.{carried}
use Rattle.elaborator.proofs.primitive.do_prim_of.Goals as goal

pub returns-in_err-nets : goal.returns-in_err-nets
returns-in_err-nets c =
    let g = c.args.setting.now in
    let here = c.args.instance.now in
    let prim = c.args.prim.now in
    carried (λ made. performed c.args.at (primitive_deed g here c.args.at c.args.op prim made) made) c.args.making.now c.args.making.now c.in_err-nets.field-0.0 c.from_residual.result c.from_residual.ensures
    (λ free. prim_terminals g here c.args.at c.args.op prim c.args.making.now c.in_err-nets.field-0.0
    (ap (λ (ts : List Expr). first_fault (terminal_tests g here ts)) (sym c.as_slice.ensures) ∙ c.in_err-nets.ensures free))

pub returns-in-Some : goal.returns-in-Some
returns-in-Some c free =
    prim_inputs c.args.setting.now c.args.instance.now c.args.at c.args.op c.args.prim.now c.args.making.now c.in-Some.fault
    (ap (λ (ts : List Expr). first_fault (terminal_tests c.args.setting.now c.args.instance.now ts)) (sym c.as_slice.ensures) ∙ c.in_ok-nets.ensures.0)
    (inputs_test_is c.args.at c.args.op c.args.prim.now c.len.result c.inputs_of-inputs.result (Some c.in-Some.fault) c.len.ensures c.inputs_of-inputs.ensures (sym c.beyond.ensures ∙ c.in-Some.is))

pub returns-in-Some-room_fault : goal.returns-in-Some-room_fault
returns-in-Some-room_fault c free =
    prim_full c.args.setting.now c.args.instance.now c.args.at c.args.op c.args.prim.now c.args.making.now c.as_slice-2.result.now c.gate_count-count.result c.in-Some-room_fault.fault
    (ap (λ (ts : List Expr). first_fault (terminal_tests c.args.setting.now c.args.instance.now ts)) (sym c.as_slice.ensures) ∙ c.in_ok-nets.ensures.0)
    (inputs_test_is c.args.at c.args.op c.args.prim.now c.len.result c.inputs_of-inputs.result None c.len.ensures c.inputs_of-inputs.ensures (sym c.beyond.ensures ∙ c.in_default.is))
    (c.as_slice-2.ensures ∙ c.in_ok-nets.ensures.1 ∙ ap (λ (ts : List Expr). terminal_nets c.args.setting.now c.args.instance.now ts) c.as_slice.ensures) c.gate_count-count.ensures (sym c.room_fault.ensures ∙ c.in-Some-room_fault.is)

pub returns : goal.returns
returns c =
    prim_done c.args.setting.now c.args.instance.now c.args.at c.args.op c.args.prim.now c.args.making.now c.open_scope.new.making c.push_gates.new.making c.as_slice-3.result.now c.gate_count-count.result c.in_ok-scope.scope
    (ap (λ (ts : List Expr). first_fault (terminal_tests c.args.setting.now c.args.instance.now ts)) (sym c.as_slice.ensures) ∙ c.in_ok-nets.ensures.0)
    (inputs_test_is c.args.at c.args.op c.args.prim.now c.len.result c.inputs_of-inputs.result None c.len.ensures c.inputs_of-inputs.ensures (sym c.beyond.ensures ∙ c.in_default.is))
    (c.as_slice-3.ensures ∙ c.in_ok-nets.ensures.1 ∙ ap (λ (ts : List Expr). terminal_nets c.args.setting.now c.args.instance.now ts) c.as_slice.ensures)
    (c.gate_count-count.ensures ∙ ap (λ ns. length (gates_of c.args.op ns)) (c.as_slice-2.ensures ∙ sym c.as_slice-3.ensures))
    (sym c.room_fault.ensures ∙ c.in_default-room_fault.is)
    c.in_ok-scope.ensures.path c.in_ok-scope.ensures.made c.in_ok-push_gates.ensures
