use Rattle.std.proofs.Common.{ℕ, [], List, ◌≡◌, ◌<◌, ◌∙◌, length, take, get_or, false, sym, ap, subst, arith, Bor}
use Rattle.std.specs.Prelude.{bytes_eq}
use Rattle.std.specs.HashSet.{contains}
use Rattle.std.specs.List.{list_any}
use Rattle.std.proofs.lemmas.List.{take_all}
use Rattle.cell_table.specs.Pins.{has_twice}
use Rattle.cell_table.proofs.PinsLemmas.{texts, twice_anyway, shared_decide, found_twice, still_once, seen_more, stood_before, not_before}
use Rattle.cell_table.proofs.pins.Pins.stand_twice.Goals as goal

-- what reading past the end gives
abbrev nowhere : Bor (List ℕ)
nowhere = record { ref_ptr = (0, 0); now = [] }

pub returns-then-not-branch : goal.returns-then-not-branch
returns-then-not-branch c =
    let names = c.as_slice-name-items.result.now in
    let i = c.loop-name.name-index in
    let within : i < length names = omega arith in
    let stood = stood_before _ _ c.in_ok-insert.ensures.added c.if-not-branch.true in
    let twice = found_twice names i nowhere within (sym (c.loop-name.invariant.seen (get_or names i nowhere)) ∙ stood) in
    rw (← c.self.view_is, ← c.as_slice-name-items.ensures.value) (twice_anyway (texts names) c.args.shared.now twice)

pub returns : goal.returns
returns c =
    let names = c.as_slice-name-items.result.now in
    let all : take c.loop-name.name-index names ≡ names = take_all c.loop-name.name-index names c.loop-name-test.false in
    let once : has_twice (texts names) ≡ false = subst (λ ns. has_twice (texts ns) ≡ false) all c.loop-name.invariant.once in
    let sees : (q : Bor (List ℕ)) → contains (λ x y. bytes_eq x.now y.now) c.loop-name.seen q ≡ list_any (bytes_eq q.now) (texts names) =
    λ q. c.loop-name.invariant.seen q ∙ ap (λ ns. list_any (bytes_eq q.now) (texts ns)) all in
    rw (c.are_among.ensures, ← c.self.view_is, ← c.as_slice-name-items.ensures.value) (shared_decide (texts names) c.args.shared.now c.loop-name.seen once sees)

pub loop-name-preserved : goal.loop-name-preserved
loop-name-preserved c =
    let names = c.as_slice-name-items.result.now in
    let i = c.loop-name.name-index in
    let within : i < length names = omega arith in
    let new = not_before _ _ c.in_ok-insert.ensures.added c.if-not-branch.false in
    record {
      once = still_once names i nowhere within c.loop-name.invariant.once (sym (c.loop-name.invariant.seen (get_or names i nowhere)) ∙ new);
      seen = λ q. rw (c.in_ok-insert.ensures.updates.0 q, c.loop-name.invariant.seen q) (sym (seen_more names i nowhere q.now within));
    }
