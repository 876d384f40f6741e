use Rattle.std.proofs.Common.{rules}
use Rattle.event_replay.proofs.ReadDigits.{fits_more, fits_all}
use Rattle.event_replay.proofs.values.is_value.Goals as goal

pub digits-preserved : goal.digits-preserved
digits-preserved c =
    fits_more c.args.width c.digits.place c.args.digits.now (search rules) (c.digit_fits.ensures.0 (search rules)) c.digits.invariant

pub returns : goal.returns
returns c =
    let all = fits_all c.args.width c.digits.place c.args.digits.now (search rules) c.digits.invariant in (
      λ f. record { some = search rules; hex = all.0; fits = all.1 },
      λ v. (let some = v.some in search rules),
    )
