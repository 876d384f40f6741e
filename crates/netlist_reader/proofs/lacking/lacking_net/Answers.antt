use Rattle.std.proofs.Common.{refl, rules, sym, ap, ◌∙◌, ◌≡◌, slice_get, Some}
use Rattle.token_words.specs.Words.{words_of, word_of}
use Rattle.netlist_reader.specs.Faults.{first_net}
use Rattle.netlist_reader.proofs.Netless.{at_next, at_start, first_net_is, lacking_here}
use Rattle.netlist_reader.proofs.Stucks.{not_so}
use Rattle.netlist_reader.proofs.Words.{got_word}
use Rattle.netlist_reader.proofs.lacking.lacking_net.Goals as goal
use Rattle.netlist_reader.proofs.lacking.lacking_net.Goals.{else-not-declared-via-then-not-declared+else-is_word_at, else-not-declared-via-else-not-declared}

pub tokens-init : goal.tokens-init
tokens-init c = at_start (words_of c.args.source.now c.args.tokens.now)

pub returns-then-is_word_at : goal.returns-then-is_word_at
returns-then-is_word_at c =
    lacking_here (words_of c.args.source.now c.args.tokens.now) c.tokens.place _ c.if-not-declared.true (c.is_word_at.ensures.0 c.if-is_word_at.true ∙ ap Some c.name-first.ensures ∙ ap Some first_net_is) c.tokens.invariant

pub tokens-preserved : goal.tokens-preserved
tokens-preserved c =
    at_next (words_of c.args.source.now c.args.tokens.now) c.tokens.place (word_of c.args.source.now c.token.result) (got_word c.args.source.now c.token.result c.args.tokens.now c.tokens.place c.token.ensures)
    _ _ _ _ refl c.declared_behind-declared.ensures
    (λ e. elim c.else-not-declared.branch [
      | else-not-declared-via-then-not-declared+else-is_word_at w ↦ absurd (not_so _ _ w.if-is_word_at.false w.is_word_at.ensures
          (got_word c.args.source.now c.token.result c.args.tokens.now c.tokens.place c.token.ensures ∙ ap Some e ∙ ap Some (sym first_net_is) ∙ ap Some (sym c.name-first.ensures)))
      | else-not-declared-via-else-not-declared w ↦ w.if-not-declared.false
    ])
    c.tokens.invariant
