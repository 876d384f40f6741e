use Rattle.std.proofs.Common.{◌≡◌, ◌∙◌, ◌∷◌, ◌+◌, sym, ap, subst, arith, false, option_copied}
use Rattle.domain_groups.specs.Lines.{event_lines, is_passed_over}
use Rattle.event_replay.proofs.Told.{Telling, lines_left, bytes_left, line_kept, event_told, less_left}
use Rattle.event_replay.proofs.events.read_lines.Goals as goal

pub lines-preserved : goal.lines-preserved
lines-preserved c =
    let v = c.args.groups.now in
    let ports = c.args.ports.now in
    let all = event_lines c.args.bytes.now in
    let number = c.lines.number + 1 in
    let line = c.cut_line.result.0.now in
    let after = option_copied c.cut_line.result.1 in
    let kept : is_passed_over line ≡ false = sym c.is_passed_over.ensures ∙ c.if-is_passed_over.false in
    let left : lines_left c.lines.number (option_copied c.lines.rest) ≡ (number, line) ∷ lines_left number after =
    ap (λ r. lines_left c.lines.number (option_copied r)) c.in-Some.is ∙ line_kept number c.in-Some.text.now line after c.cut_line.ensures.lines kept in
    let t = subst (λ ls. Telling v ports all ls c.lines.events) left c.lines.invariant.0 in
    let bytes : bytes_left (option_copied c.lines.rest) ≡ _ = ap (λ r. bytes_left (option_copied r)) c.in-Some.is in
    let less = less_left c.in-Some.text.now after c.cut_line.ensures.less in (
      subst (Telling v ports all (lines_left number after)) (sym c.in_ok-push-in-Ok.ensures.ok) (event_told v ports all (lines_left number after) number line c.lines.events c.in-Ok.event t c.in-Ok.ensures.means),
      c.in-Ok.ensures.lines,
      omega (arith, bytes, less, c.lines.invariant.2),
    )
