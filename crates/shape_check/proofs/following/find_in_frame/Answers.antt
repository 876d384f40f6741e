-- The marks that are followed are those of the frame's end.
use Rattle.std.proofs.Common.{[], ◌∷◌, subst}
use Rattle.shape_check.specs.Ends as ends
use Rattle.shape_check.specs.Ends.{EndFails}
use Rattle.use_check.specs.Least.{IsLeastUnder}
use Rattle.shape_check.proofs.Followed.{end_shown, stands_there}
use Rattle.shape_check.proofs.following.find_in_frame.Goals as goal

pub follow-requires-clause-stands : goal.follow-requires-clause-stands
follow-requires-clause-stands c = stands_there c.args.case.now c.requires.actions c.args.marks.now c.requires.marks c.args.frame

pub new-end-requires : goal.new-end-requires
new-end-requires c =
    end_shown c.args.case.now c.args.influences.now c.args.frame c.new-influence.result c.args.marks.now c.follow.new.self c.new-influence.ensures c.requires.marks c.follow.ensures.design c.follow.ensures.results c.requires.frame c.in_ok-follow.ensures.shows

pub returns-clause-found : goal.returns-clause-found
returns-clause-found c =
    subst (λ (e : ends.FrameEnd). IsLeastUnder (EndFails e) (e.frame ∷ []) c.find_at_end.result) c.new-end.ensures c.find_at_end.ensures
