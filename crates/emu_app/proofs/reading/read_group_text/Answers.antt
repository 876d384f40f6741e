use Rattle.std.proofs.Common.{rules, ◌≡◌, Err, subst, sym}
use Rattle.domain_groups.specs.Groups.{InputGroups}
use Rattle.case_texts.specs.declared.what.What.TheVariants.{Groups}
use Rattle.case_texts.specs.Forms.{SaysGroups}
use Rattle.case_texts.specs.Reading.{GroupsMean}
use Rattle.emu_app.specs.Fetching.{texts_of}
use Rattle.emu_app.specs.Reading.{AllMean}
use Rattle.emu_app.proofs.FirstUnread.{refused_groups, before_groups}
use Rattle.emu_app.proofs.reading.read_group_text.Goals as goal

pub returns-in_err-groups : goal.returns-in_err-groups
returns-in_err-groups c =
    let same : c.from_residual.result ≡ Err c.in_err-groups.field-0.0 = search rules in
    let texts : _ = texts_of c.args.command c.args.texts.now in
    let means : GroupsMean c.args.design.now (texts Groups) (Err c.in_err-groups.field-0.0) =
    subst (λ bytes. GroupsMean c.args.design.now bytes (Err c.in_err-groups.field-0.0)) c.text_at.ensures c.in_err-groups.ensures in
    let Says : InputGroups → Type 0 = SaysGroups c.args.design.now (texts Groups) in
    subst (AllMean c.args.command c.args.top.now texts Says) (sym same)
    (refused_groups c.faulty_texts_are_unread.ensures c.args.command c.args.top.now texts Says c.args.design.now c.in_err-groups.field-0.0
    means c.requires.says c.requires.groups
    (before_groups c.args.command c.args.top.now texts c.args.design.now c.requires.says c.requires.ranked))
