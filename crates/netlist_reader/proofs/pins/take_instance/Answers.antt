use Rattle.std.proofs.Common.{[], ◌∷◌, refl}
use Rattle.token_words.specs.Word.{open_parenthesis, semicolon}
use Rattle.netlist_reader.specs.Forms.{stem_text}
use Rattle.netlist_reader.specs.Inside.{ArePins}
use Rattle.netlist_reader.specs.Netlist.{pin_words, closed_words, numbered}
use Rattle.netlist_reader.proofs.Stucks.{stops}
use Rattle.netlist_reader.proofs.Instances.{head_holds, pins_hold, end_holds, behind_pins, whole_line}
use Rattle.netlist_reader.proofs.pins.take_instance.Goals as goal

pub returns-in_err-take_all : goal.returns-in_err-take_all
returns-in_err-take_all c =
    stops (ArePins c.args.room) (λ u. Unit {0}) (pin_words (stem_text c.args.stem) c.args.number) _ [] _ _ _ _ _ c.from_residual.ensures refl
    (head_holds c.args.room (stem_text c.args.stem) c.args.number _ c.requires) c.in_err-take_all.ensures

pub returns-in_err-pins : goal.returns-in_err-pins
returns-in_err-pins c =
    stops (ArePins c.args.room) (ArePins c.args.room) (pin_words (stem_text c.args.stem) c.args.number) closed_words _ _ _ _ _ _ c.from_residual-in_err-pins.ensures c.in_ok-take_all.ensures.1
    (pins_hold c.args.room (stem_text c.args.stem) c.args.number _) c.in_err-pins.ensures

pub returns-in_err-take : goal.returns-in_err-take
returns-in_err-take c =
    stops (ArePins c.args.room) (λ u. Unit {0}) (pin_words (stem_text c.args.stem) c.args.number) (λ u. semicolon ∷ [])
    (numbered (stem_text c.args.stem) c.args.number ∷ open_parenthesis ∷ closed_words c.in_ok-pins.pins) _ _ _ _ _ c.from_residual-in_err-take.ensures
    (behind_pins (stem_text c.args.stem) c.args.number _ _ _ _ c.in_ok-take_all.ensures.1 c.in_ok-pins.ensures.1)
    (end_holds c.args.room (stem_text c.args.stem) c.args.number _ _ c.requires.small c.in_ok-pins.ensures.0) c.in_err-take.ensures

pub returns : goal.returns
returns c = (
  c.in_ok-pins.ensures.0,
  whole_line (stem_text c.args.stem) c.args.number _ _ _ _ _ c.in_ok-take_all.ensures.1 c.in_ok-pins.ensures.1 c.in_ok-take.ensures.1,
)
