use Rattle.std.proofs.Common.{◌≡◌, rules, Some, slice_get, map, sym, ◌∙◌, ◌+◌, subst, ℕ}
use Rattle.verilog_tree.specs.declared.terminal.Terminal.TheVariants.{OpenBrace, CloseBrace}
use Rattle.verilog_tree.specs.Terminal.{terminal_at}
use Rattle.verilog_tree.proofs.Dives.{Scans, seen, scan_stops, scan_open, scan_close, scan_other}
use Rattle.verilog_tree.proofs.parser.first_deep.Goals as goal
use Rattle.verilog_tree.proofs.parser.first_deep.Goals.{in-Some-OpenBrace+else-room-eq0, in-Some-CloseBrace, in-Some+in-Name-1, in-None-1}

pub returns-then-room-eq0 : goal.returns-then-room-eq0
returns-then-room-eq0 c =
    let here = seen c.args.tokens.now c.new-reader.result _ c.places.place c.new-reader.ensures c.len.ensures in
    let brace : slice_get c.new-reader.result c.places.place ≡ Some OpenBrace = search rules in
    scan_stops _ _ _ c.places.invariant (sym here ∙ brace) c.if-room-eq0.true

pub places-preserved : goal.places-preserved
places-preserved c =
    let here = seen c.args.tokens.now c.new-reader.result _ c.places.place c.new-reader.ensures c.len.ensures in
    elim c.match-at.branch [
      | in-Some-OpenBrace+else-room-eq0 w ↦
          (let brace : slice_get c.new-reader.result c.places.place ≡ Some OpenBrace = search rules in
          subst (λ (r : ℕ). Scans (map terminal_at c.args.tokens.now) (c.places.place + 1) r) (sym w.room-is) (scan_open _ _ _ c.places.invariant (sym here ∙ brace) w.if-room-eq0.false))
      | in-Some-CloseBrace w ↦
          (let brace : slice_get c.new-reader.result c.places.place ≡ Some CloseBrace = search rules in
          subst (λ (r : ℕ). Scans (map terminal_at c.args.tokens.now) (c.places.place + 1) r) (sym w.room-is) (scan_close _ _ _ c.places.invariant (sym here ∙ brace)))
      | in-Some+in-Name-1 w ↦
          (let not_open : slice_get c.new-reader.result c.places.place ≡ Some OpenBrace → ⊥ = search rules in
          let not_close : slice_get c.new-reader.result c.places.place ≡ Some CloseBrace → ⊥ = search rules in
          subst (λ (r : ℕ). Scans (map terminal_at c.args.tokens.now) (c.places.place + 1) r) (sym w.room-is) (scan_other _ _ _ c.places.invariant (λ e. not_open (here ∙ e)) (λ e. not_close (here ∙ e))))
      | in-None-1 w ↦
          (let not_open : slice_get c.new-reader.result c.places.place ≡ Some OpenBrace → ⊥ = search rules in
          let not_close : slice_get c.new-reader.result c.places.place ≡ Some CloseBrace → ⊥ = search rules in
          subst (λ (r : ℕ). Scans (map terminal_at c.args.tokens.now) (c.places.place + 1) r) (sym w.room-is) (scan_other _ _ _ c.places.invariant (λ e. not_open (here ∙ e)) (λ e. not_close (here ∙ e))))
    ]
