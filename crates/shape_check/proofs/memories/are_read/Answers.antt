-- Bits of the word that is taken are as many as those of the port.
use Rattle.std.proofs.Common.{◌≡◌, ◌∙◌, ap, subst, length, List}
use Rattle.id_arena.specs.declared.keys.NetId.{NetId}
use Rattle.emu_machine.specs.Origins.{have_subjects}
use Rattle.shape_check.proofs.Subjects.{olds_are, read_is, unequal_olds}
use Rattle.shape_check.proofs.memories.are_read.Goals as goal

pub returns-then-nets-bits : goal.returns-then-nets-bits
returns-then-nets-bits c =
    unequal_olds c.args.case.now.results c.args.chip.place c.args.nets.now c.args.of c.args.number 0 c.args.design.now.bits
    (subst (λ (ns : List NetId). length c.args.nets.now ≡ length ns → ⊥) c.as_slice-bits.ensures c.if-nets-bits.true)
    ∙ ap (have_subjects c.args.case.now.results c.args.chip.place c.args.nets.now) (read_is c.args.case.now.results c.args.chip.place c.args.of c.args.number c.args.design.now c.in-Some.field-0 c.in-Some.is)

pub returns-else-nets-bits : goal.returns-else-nets-bits
returns-else-nets-bits c =
    c.are_old.ensures
    ∙ olds_are c.args.case.now.results c.args.chip.place c.args.nets.now c.args.of c.args.number 0 c.args.design.now.bits
    (subst (λ (ns : List NetId). length c.args.nets.now ≡ length ns) c.as_slice-bits.ensures c.if-nets-bits.false)
    ∙ ap (have_subjects c.args.case.now.results c.args.chip.place c.args.nets.now) (read_is c.args.case.now.results c.args.chip.place c.args.of c.args.number c.args.design.now c.in-Some.field-0 c.in-Some.is)
