use Rattle.std.proofs.Common.{ap, get_or, slice_set, sym, ◌∙◌}
use Rattle.module_nets.specs.declared.mention.Role.TheVariants.{Bare}
use Rattle.module_nets.specs.Names.{start_of}
use Rattle.module_nets.specs.Surveys.{text_in}
use Rattle.module_nets.proofs.Surveying.{all_taken, first_fault, next_seen, past_none}
use Rattle.module_nets.proofs.check.check.Goals as goal

pub returns-in-Some : goal.returns-in-Some
returns-in-Some c =
    first_fault c.args.survey.now c.args.mentions.now _ c.mentions.mention-index c.from-place.result c.place.result c.mentions.seen c.get-before.result.now
    c.requires c.mentions-test.true c.mentions.invariant.0 c.mentions.invariant.1 c.place.ensures c.from-place.ensures c.get-before.ensures
    c.in-Some.cause c.start_of.result (sym c.cause.ensures ∙ c.in-Some.is)
    (c.start_of.ensures ∙ ap (λ s. start_of s.tokens (get_or c.args.mentions.now c.mentions.mention-index (record { token = 0; role = Bare })).token) c.survey.view_is)

pub mentions-preserved : goal.mentions-preserved
mentions-preserved c =
    next_seen c.args.survey.now c.args.mentions.now _ c.mentions.mention-index c.from-place.result c.place.result c.mentions.seen c.get-before.result.now
    c.requires c.mentions-test.true c.mentions.invariant.0 c.mentions.invariant.1 c.place.ensures c.from-place.ensures c.get-before.ensures
    c.set.new.self (sym c.cause.ensures ∙ c.in_default.is) (c.set.ensures ∙ ap (λ s. slice_set c.mentions.seen c.from-place.result s) c.noted.ensures)

pub returns : goal.returns
returns c = (
  past_none (text_in c.args.survey.now) c.args.mentions.now c.mentions.mention-index c.mentions-test.false c.mentions.invariant.1,
  all_taken (text_in c.args.survey.now) c.args.survey.now.names c.args.mentions.now c.mentions.mention-index c.mentions.seen c.mentions-test.false c.mentions.invariant.0,
)
