use Rattle.std.proofs.Common.{◌∙◌, ap, subst}
use Rattle.design_core.specs.declared.operation.Op.{Op}
use Rattle.flattening.specs.Pieces.{performed}
use Rattle.flattening.specs.Places.{Given}
use Rattle.flattening.specs.Primitives.{op_at, primitive_deed}
use Rattle.elaborator.specs.Outcomes.{Does}
use Rattle.elaborator.proofs.primitive.do_prim.Goals as goal

pub returns : goal.returns
returns c =
    let g = c.args.setting.now in
    let here = c.args.instance.now in
    subst (λ (op : Op). Does (λ made. performed c.args.at (primitive_deed g here c.args.at op c.args.prim.now made) made) c.args.making.now c.do_prim_of.new.making c.do_prim_of.result)
    (c.op_at-op.ensures ∙ ap (λ (s : Given). op_at s.tokens c.args.word) c.setting.view_is) c.do_prim_of.ensures
