use Rattle.std.proofs.Common.{ℕ, List, Bool, false, length, sym, ap, subst, ◌∙◌}
use Rattle.std.proofs.lemmas.List.{length-replicate}
use Rattle.cycle_sim.specs.Standing.{IsRunnable}
use Rattle.cycle_sim.specs.Passes.{ShowHeld, rows_of}
use Rattle.cycle_sim.specs.Tables.{AllShown, Tables, HaveSizes, HaveWords}
use Rattle.cycle_sim.proofs.Built.{all_driven, runnable}
use Rattle.cycle_sim.proofs.SlotSteps.{opened}
use Rattle.cycle_sim.proofs.machine.Machine.open.Goals as goal

pub settled_passes-requires-clause-driven : goal.settled_passes-requires-clause-driven
settled_passes-requires-clause-driven c place chip at = all_driven c.args.results.now c.stand.ensures.netlist place chip at

pub invariant_of-result : goal.invariant_of-result
invariant_of-result c =
    record {
      settled = record {
        under = record {
          equipped = record {
            runs = subst (λ (nets : ℕ). IsRunnable c.args.results.now c.args.wires.now nets) (sym (ap length c.into_tables-held.ensures.outside))
                (runnable c.args.results.now c.args.wires.now (length c.args.loaded.outside) c.stand.ensures.netlist c.requires.runs);
            held = subst (HaveSizes c.args.results.now) (sym c.into_tables-held.ensures.held) c.requires.loaded;
            words = subst (HaveWords c.args.results.now) (sym c.into_tables-held.ensures.words) c.requires.words;
            carried = ap length c.in_ok-carried.ensures ∙ length-replicate (length c.args.wires.now) false;
          };
          passes_are = c.in_ok-passes.ensures.passes;
          level = subst (λ (held : List (List Bool)). ShowHeld c.args.results.now held (rows_of c.in_ok-passes.passes.items)) c.as_slice.ensures.value c.in_ok-passes.ensures.level;
        };
        shows = subst (λ (held : List (List Bool)). AllShown c.args.results.now held (rows_of c.in_ok-passes.passes.items)) c.as_slice.ensures.value c.in_ok-passes.ensures.shown;
      };
      ends = c.in_ok-endings.ensures;
    }

pub returns-clause-state : goal.returns-clause-state
returns-clause-state c =
    opened c.args.loaded _ _ _ _ (length c.args.wires.now) c.into_tables-held.ensures.held c.into_tables-held.ensures.words c.into_tables-held.ensures.outside
    c.in_ok-carried.ensures (ap (λ (t : Tables). t.carried) (sym c.loaded.view_is))
