use Rattle.flattening.specs.Cells.{cell_deed, cell_piece_with}
use Rattle.flattening.specs.Pieces.{performed}
use Rattle.cell_parts.specs.Wires.{tied_by}
use Rattle.std.proofs.Common.{[]}
use Rattle.elaborator.proofs.CellTies.{ready_count, ready_fault, ready_same}
use Rattle.elaborator.proofs.Performing.{carried, retold}
use Rattle.elaborator.proofs.cells.do_ready.Goals as goal

pub returns-in_err-ties : goal.returns-in_err-ties
returns-in_err-ties c =
    let g = c.args.setting.now in
    let here = c.args.here.now in
    let inst = c.args.inst.now in
    let cell = c.args.cell.now in
    carried (λ made. performed c.args.at (cell_deed g here inst cell made) made) c.args.making.now c.args.making.now c.in_err-ties.field-0.0 c.from_residual.result c.from_residual.ensures
    (λ free. ready_fault g here c.args.at inst cell c.args.ready.now c.args.making.now c.requires.ready c.in_err-ties.field-0.0 (c.in_err-ties.ensures free))

pub do_tied-requires-clause-tied : goal.do_tied-requires-clause-tied
do_tied-requires-clause-tied c =
    ready_count c.args.setting.now c.args.here.now c.args.at c.args.inst.now c.args.cell.now c.args.ready.now c.args.making.now c.requires.ready c.in_ok-ties.ties c.in_ok-ties.ensures.1

pub returns : goal.returns
returns c =
    let g = c.args.setting.now in
    let here = c.args.here.now in
    let inst = c.args.inst.now in
    let cell = c.args.cell.now in
    retold (λ made. performed c.args.at (cell_deed g here inst cell made) made)
    (λ made. performed c.args.at (record { tests = []; piece = cell_piece_with g here inst cell.kind (tied_by c.args.ready.now.pins c.in_ok-ties.ties) made }) made)
    c.args.making.now c.do_tied.new.making c.do_tied.result
    (ready_same g here c.args.at inst cell c.args.ready.now c.args.making.now c.requires.ready c.in_ok-ties.ties c.in_ok-ties.ensures.0 c.in_ok-ties.ensures.1)
    c.do_tied.ensures
