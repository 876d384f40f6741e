use Rattle.std.proofs.Common.{rules, ◌≡◌, Err, subst, sym}
use Rattle.emu_app.specs.Command.{words_of}
use Rattle.emu_app.specs.Fetching.{TextsMean, texts_of}
use Rattle.emu_app.proofs.Fetches.{all_within, one_more, text_stops}
use Rattle.emu_app.proofs.fetch.fetch_texts.Goals as goal

pub texts-preserved : goal.texts-preserved
texts-preserved g c =
    one_more _ _ _ _ _ _ _ _ _ _ _ _ _ _ _ _ _ c.texts.invariant (search rules) c.text_at-what.ensures c.in_ok-push.ensures.ok c.from_vec.ensures c.name.ensures c.in_ok-bytes.ensures.means c.in_ok-bytes.ensures.bounded
    c.fetch_text.ensures.later c.fetch_text.ensures.held_same c.fetch_text.ensures.stores_same

pub returns-in_err-bytes-clause-means : goal.returns-in_err-bytes-clause-means
returns-in_err-bytes-clause-means g c =
    let same : c.from_residual.result ≡ Err c.in_err-bytes.field-0.0 = search rules in
    subst (λ r. TextsMean (texts_of c.args.names.now.command) (g.F.Files.held c.args.files.now) (g.F.Files.read_faults c.args.files.now) (g.F.Files.read_faults c.fetch_text.new.files) (g.F.Files.blamed c.fetch_text.new.files) (words_of c.args.names.now) r) (sym same)
    (text_stops _ _ _ _ _ _ _ _ _ _ _ _ c.in_err-bytes.field-0.0 _ c.texts.invariant (search rules) c.text_at-what.ensures c.name.ensures c.in_err-bytes.ensures.means)

pub returns-clause-within : goal.returns-clause-within
returns-clause-within g c = all_within _ _ (search rules) (search rules)
