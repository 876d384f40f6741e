-- The read ports are taken in order.
use Rattle.std.proofs.Common.{◌∙◌, [], ◌∷◌, sym, subst, arith, refl, ℕ}
use Rattle.std.specs.Prelude.{Some}
use Rattle.emu_machine.specs.declared.place.Place.TheVariants as place
use Rattle.shape_check.specs.Ends.{ReadFails}
use Rattle.use_check.specs.Least.{IsLeastUnder}
use Rattle.use_check.proofs.Walk.{found, more, nowhere}
use Rattle.shape_check.proofs.Finishing.{longer_reads, read_fails, read_passes, past_reads}
use Rattle.shape_check.proofs.ends.find_read.Goals as goal

pub returns-then-not-read_ends : goal.returns-then-not-read_ends
returns-then-not-read_ends c =
    subst (λ (f : ℕ). IsLeastUnder (ReadFails c.args.end.now) (c.args.end.now.frame ∷ c.args.chip.place ∷ 1 ∷ c.args.mem.place ∷ []) (Some (place.EndRead f c.args.chip c.args.mem c.each.j))) (sym c.frame.ensures.is)
    (found (ReadFails c.args.end.now) (c.args.end.now.frame ∷ c.args.chip.place ∷ 1 ∷ c.args.mem.place ∷ []) (longer_reads c.args.end.now) c.each.j (place.EndRead c.args.end.now.frame c.args.chip c.args.mem c.each.j) c.each.invariant
    (read_fails c.args.end.now c.frame.ensures.there c.args.chip c.args.mem c.each.j (sym c.read_ends.ensures ∙ c.if-not-read_ends.true)))

pub each-preserved : goal.each-preserved
each-preserved c =
    more (ReadFails c.args.end.now) (c.args.end.now.frame ∷ c.args.chip.place ∷ 1 ∷ c.args.mem.place ∷ []) c.each.j _ c.each.invariant
    (read_passes c.args.end.now c.args.chip.place c.args.mem.place c.each.j (sym c.read_ends.ensures ∙ c.if-not-read_ends.false))
    refl

pub returns : goal.returns
returns c =
    nowhere (ReadFails c.args.end.now) (c.args.end.now.frame ∷ c.args.chip.place ∷ 1 ∷ c.args.mem.place ∷ []) (longer_reads c.args.end.now) c.each.j c.each.invariant
    (λ j high. past_reads c.args.end.now c.args.chip.place c.args.mem.place j c.args.reads.now c.requires.reads (omega (arith, high, c.each-test.false)))
