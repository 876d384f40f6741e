use Rattle.std.proofs.Common.{◌≡◌, ◌+◌, ℕ, sym, subst, ap, ◌∙◌}
use Rattle.id_arena.specs.declared.keys.ChipNetId.{ChipNetId}
use Rattle.mark_rule.specs.Gates.{gate_gives}
use Rattle.frame_marks.specs.Starts.{NetsHaveStarted}
use Rattle.frame_marks.proofs.starts.start_chip.Goals as goal

pub nets-preserved : goal.nets-preserved
nets-preserved g c =
    let place : c.of-net.result.place ≡ c.nets.n = ap (λ (id : ChipNetId). id.place) c.of-net.ensures in
    record {
      chip = c.start_net.ensures.chip ∙ c.nets.invariant.chip;
      others = λ gives. c.start_net.ensures.others gives (c.nets.invariant.others gives);
      started = subst (λ (k : ℕ). NetsHaveStarted c.args.plan.results.now (g.I.Inside.inside c.args.inside.now) c.args.chip.place (k + 1) c.start_net.new.pass) place
          (c.start_net.ensures.started
          (subst (λ (k : ℕ). NetsHaveStarted c.args.plan.results.now (g.I.Inside.inside c.args.inside.now) c.args.chip.place k c.nets.pass) (sym place) c.nets.invariant.started));
    }

pub returns-clause-others : goal.returns-clause-others
returns-clause-others g c =
    c.nets.invariant.others (gate_gives c.args.plan.design.now c.args.plan.results.now (g.I.Inside.inside c.args.inside.now) c.args.chip.place)
