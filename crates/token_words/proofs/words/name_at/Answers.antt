use Rattle.std.proofs.Common.{◌≡◌, None, slice_get}
use Rattle.std.proofs.lemmas.Option.{slice_get-map, slice_get_past}
use Rattle.token_words.proofs.words.name_at.Goals as goal

pub returns-then-place-len : goal.returns-then-place-len
returns-then-place-len c = simp (slice_get-map, c.token.ensures, c.name_of.ensures)

pub returns-else-place-len : goal.returns-else-place-len
returns-else-place-len c =
    let none : slice_get c.args.tokens.now c.args.place ≡ None = slice_get_past c.args.tokens.now c.args.place (rw (← c.len.ensures) c.if-place-len.false) in simp (slice_get-map, none)
