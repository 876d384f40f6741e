use Rattle.std.proofs.Common.{◌≡◌, [], refl, rules, subst}
use Rattle.netlist_reader.specs.Inside.{Begins}
use Rattle.netlist_reader.specs.Faults.{HasLooseForms}
use Rattle.netlist_reader.specs.Netlist.{body_words, chip_words, head_words}
use Rattle.netlist_reader.specs.Wires.{IsModuleWord}
use Rattle.netlist_reader.proofs.Chips.{module_body, module_head, module_whole, stops_next}
use Rattle.netlist_reader.proofs.chip.ChipLine.read_next.Goals as goal

pub returns-in_err-take_all : goal.returns-in_err-take_all
returns-in_err-take_all c =
    stops_next {B = Unit {0}} HasLooseForms (IsModuleWord 0) (λ u. Unit {0}) (λ chip. chip_words (c.args.number, chip)) (λ u. head_words c.args.number) [] _ _ _ _ _ c.from_residual.ensures
    (subst (λ w. Begins (λ first. first ≡ w) c.args.rest.now) c.key.ensures (c.begins.ensures.0 (search rules))) refl (module_head c.args.number _) c.in_err-take_all.ensures

pub returns-in_err-chip : goal.returns-in_err-chip
returns-in_err-chip c =
    stops_next HasLooseForms (IsModuleWord 0) HasLooseForms (λ chip. chip_words (c.args.number, chip)) body_words (head_words c.args.number) _ _ _ _ _ c.from_residual-in_err-chip.ensures
    (subst (λ w. Begins (λ first. first ≡ w) c.args.rest.now) c.key.ensures (c.begins.ensures.0 (search rules))) c.in_ok-take_all.ensures.1 (module_body c.args.number _) c.in_err-chip.ensures

pub returns : goal.returns
returns c = module_whole c.args.number c.in_ok-chip.chip _ _ _ c.in_ok-take_all.ensures.1 c.in_ok-chip.ensures
