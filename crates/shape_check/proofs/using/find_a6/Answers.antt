-- What the earlier rules grant is asked of the board and the results of the case.
use Rattle.std.proofs.Common.{sym, subst}
use Rattle.id_arena.specs.BoardPlan.{BoardPlan}
use Rattle.emu_machine.specs.Results.{Results}
use Rattle.use_check.specs.Uses.{CanUse}
use Rattle.shape_check.proofs.Granted.{granted, of_case}
use Rattle.shape_check.proofs.using.find_a6.Goals as goal

pub find_a6-requires : goal.find_a6-requires
find_a6-requires c =
    subst (λ (b : BoardPlan). CanUse b.wires c.results.result.now) (sym c.board.ensures)
    (subst (λ (r : Results). CanUse c.args.case.now.board.wires r) (sym c.results.ensures)
    (granted c.args.case.now c.stands.ensures c.requires.chips c.requires.frames c.requires.actions))

pub returns : goal.returns
returns c = of_case c.args.case.now c.board.result.now c.results.result.now c.find_a6.result c.board.ensures c.results.ensures c.find_a6.ensures
