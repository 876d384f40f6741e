use Rattle.std.proofs.Common.{rules, refl, ◌∙◌, ◌-◌}
use Rattle.netlist_writer.proofs.text.append_hex.Goals as goal
use Rattle.netlist_writer.proofs.HexLemmas.{hex_start, hex_next, hex_end, hex_size, rest_taken, appended}

pub digits-init : goal.digits-init
digits-init c = hex_start _ c.args.number refl c.ranges.number.fits

pub digits-preserved : goal.digits-preserved
digits-preserved c =
    hex_next _ _ _ c.args.number c.hex_glyph.result c.digits.invariant (search rules) (search rules)

pub returns : goal.returns
returns c =
    appended _ _ _ _ _
    (rest_taken _ (c.digits.first - 1) (hex_size _ _ _ c.args.number c.hex_glyph.result (c.digits.first - 1) c.digits.invariant)
    ∙ hex_end _ _ _ c.args.number c.hex_glyph.result c.digits.invariant (search rules) (search rules))
    c.append.ensures
