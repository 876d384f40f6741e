use Rattle.std.proofs.Common.{◌∙◌, [], Ok, ap, sym, refl}
use Rattle.flattening.specs.Pieces.{buffers, elements_in}
use Rattle.elaborator.proofs.Joining.{buffers_count}
use Rattle.elaborator.proofs.Performing.{fits, full}
use Rattle.elaborator.proofs.making.Making.add_buffers.Goals as goal

pub returns-in-Some : goal.returns-in-Some
returns-in-Some c free =
    full c.args.at [] (elements_in c.args.scope (buffers c.args.from.now c.args.to.now)) c.args.self.now 0 c.min-count.result 0 c.in-Some.fault refl refl
    (c.min-count.ensures ∙ sym (buffers_count c.args.from.now c.args.to.now)) refl (sym c.room_fault.ensures ∙ c.in-Some.is)

pub returns : goal.returns
returns c =
    fits c.args.at [] (elements_in c.args.scope (buffers c.args.from.now c.args.to.now)) c.args.self.now 0 c.min-count.result 0 refl refl
    (c.min-count.ensures ∙ sym (buffers_count c.args.from.now c.args.to.now)) refl (sym c.room_fault.ensures ∙ c.in_default.is)
    ∙ ap Ok (sym c.in_ok-push_buffers.ensures)
