-- The steps of a text make what is good, and so its flattened parts are whole.
use Rattle.std.proofs.Common.{◌≡◌, ◌+◌, ◌<◌, ◌≤◌, ℕ, [], ◌∷◌, Option, Some, None, Ok, Err, arith, length, map, refl, subst, sym}
use Rattle.verilog_tree.specs.declared.source.Module.{Module}
use Rattle.verilog_tree.specs.Terminal.{terminal_at}
use Rattle.design_core.specs.declared.parts.Parts.{Parts}
use Rattle.module_nets.specs.Names.{Name}
use Rattle.flattening.specs.declared.fault.ElabFault.TheVariants.{NoTop}
use Rattle.flattening.specs.declared.made.Made.{Made}
use Rattle.flattening.specs.Faults.{module_tests}
use Rattle.flattening.specs.Flattening.{as_parts, constants_alone, expanded, flattened, levels_below_top, module_named, parts_of, ports_with, top_inside, top_parts, top_steps}
use Rattle.flattening.specs.Instances.{entering, is_input, is_output, most_modules}
use Rattle.flattening.specs.Laws.{FlattenedPartsAreWhole, IsWhole}
use Rattle.flattening.specs.Places.{Given, own_names}
use Rattle.flattening.specs.Stands.{given_by}
use Rattle.flattening.specs.Steps.{Outcome, all_steps, tested}
use Rattle.flattening.proofs.Entered.{bit_total, has_entered}
use Rattle.flattening.proofs.Everywhere.{Every, every_at}
use Rattle.flattening.proofs.GoodPieces.{IsGoodPiece}
use Rattle.flattening.proofs.Growing.{here_more}
use Rattle.flattening.proofs.ModuleSteps.{expanded_keeps, module_there}
use Rattle.flattening.proofs.Passing.{done, tested_ok}
use Rattle.flattening.proofs.PortBits.{ports_are}
use Rattle.flattening.proofs.SoundCells.{IsGoodCell, cells_good}
use Rattle.flattening.proofs.TwoTerminals.{AreTwofold, source_two}
use Rattle.flattening.proofs.WholeParts.{parts_whole}

-- nets 0 and 1 alone
constants_good : (nets scopes : ℕ) → 0 < scopes → IsGoodPiece nets scopes 0 0 constants_alone
unfolding constants_alone
constants_good nets scopes some = record {
  names = (some, (some, tt));
  parents = tt;
  elements = tt;
  paths = tt;
  one_path = refl;
  memories = tt;
  takes = refl;
}

constants_two : 2 ≤ length constants_alone.net_names
unfolding constants_alone
constants_two = omega arith

constants_few : length constants_alone.scopes ≤ constants_alone.modules + length constants_alone.elements
unfolding constants_alone
constants_few = omega arith

constants_first : constants_alone.modules + 1 ≤ most_modules
unfolding constants_alone
constants_first = omega arith

module _ (g : Given) (cells : Every IsGoodCell g.cells) (modules : Every AreTwofold g.modules) where
  -- the steps of the top
  steps_whole : (top : Name) (place : ℕ) (m : Module) (made : Made) → AreTwofold m → top_steps g top (top_inside g place m) constants_alone ≡ Ok made → IsWhole (parts_of g (top_inside g place m) made)
  steps_whole top place m made two e =
      let here = top_inside g place m in
      let tests = λ (now : Made). tested (module_tests g) now in
      let one = done (tested (module_tests g)) (all_steps (entering g None top here ∷ expanded levels_below_top g here ∷ [])) constants_alone made e in
      let passes = tested_ok (module_tests g) constants_alone one.mid one.before in
      let after = subst (λ (x : Made). all_steps (entering g None top here ∷ expanded levels_below_top g here ∷ []) x ≡ Ok made) (sym passes.1) one.after in
      let two_more = done (entering g None top here) (all_steps (expanded levels_below_top g here ∷ [])) constants_alone made after in
      let entered = has_entered g [] place m constants_alone None top two_more.mid two_more.before
      (constants_good (length constants_alone.net_names + length (own_names here)) (length constants_alone.scopes + 1) (omega arith))
      constants_two constants_few constants_first tt in
      let three = done (expanded levels_below_top g here) (all_steps []) two_more.mid made two_more.after in
      let grown = expanded_keeps g cells modules levels_below_top here two two_more.mid three.mid entered.grows.all entered.here three.before in
      let inside = here_more here two_more.mid three.mid grown entered.here in
      let same : three.mid ≡ made = (let end : Ok three.mid ≡ Ok made = three.after in cc) in
      subst (λ (x : Made). IsWhole (parts_of g here x)) same
      (parts_whole three.mid grown.all (ports_with is_input g here) (ports_with is_output g here) (bit_total here.nets.rows) entered.few
      (ports_are is_input (length three.mid.net_names) g here inside.nets entered.tests)
      (ports_are is_output (length three.mid.net_names) g here inside.nets entered.tests))

  outcome_whole : (top : Name) (place : ℕ) (m : Module) (o : Outcome) (p : Parts) → AreTwofold m → top_steps g top (top_inside g place m) constants_alone ≡ o → as_parts g (top_inside g place m) o ≡ Ok p → IsWhole p
  outcome_whole top place m (Ok made) p two is e =
      let same : parts_of g (top_inside g place m) made ≡ p = (let parts : Ok (parts_of g (top_inside g place m) made) ≡ Ok p = e in cc) in
      subst IsWhole same (steps_whole top place m made two is)
  outcome_whole top place m (Err fault) p two is e = absurd (let clash : Err fault ≡ Ok p = e in cc)

  found_whole : (top : Name) (found : Option (ℕ × Module)) (p : Parts) → module_named g top ≡ found → top_parts g top found ≡ Ok p → IsWhole p
  found_whole top None p is e = absurd (let clash : Err NoTop ≡ Ok p = e in cc)
  found_whole top (Some (place, m)) p is e =
      outcome_whole top place m (top_steps g top (top_inside g place m) constants_alone) p (every_at AreTwofold g.modules place m modules (module_there g top place m is)) refl e

  flattened_whole : (top : Name) (p : Parts) → flattened g top ≡ Ok p → IsWhole p
  unfolding flattened
  flattened_whole top p e = found_whole top (module_named g top) p refl e

pub flattened_parts_whole : FlattenedPartsAreWhole
flattened_parts_whole source tokens tree cells top parts reads explains table flat =
    flattened_whole (given_by source tokens tree cells) (cells_good cells table) (source_two (map terminal_at tokens) tree explains.0) top parts flat
