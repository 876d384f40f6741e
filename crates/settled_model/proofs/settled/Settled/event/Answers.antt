-- The inputs are those of the design that is settled.
use Rattle.std.proofs.Common.{sym, subst}
use Rattle.settled_model.specs.Held.{Held}
use Rattle.settled_model.specs.Opening.{AreInputs}
use Rattle.settled_model.proofs.settled.Settled.event.Goals as goal

pub fill_next-requires-clause-inputs : goal.fill_next-requires-clause-inputs
fill_next-requires-clause-inputs c =
    subst (λ (h : Held). AreInputs h.parts c.args.values.now) (sym c.self.view_is) c.requires
