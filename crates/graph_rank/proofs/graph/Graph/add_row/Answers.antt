use Rattle.std.proofs.Common.{◌≡◌, ◌<◌, ◌++◌, ◌∷◌, [], ℕ, List, length, arith, ap, refl, ◌∙◌}
use Rattle.graph_rank.proofs.Cuts.{stored_more, rows_more, cut-length}
use Rattle.graph_rank.proofs.graph.Graph.add_row.Goals as goal

pushed_on : (old mid new : List ℕ) (n k : ℕ) → new ≡ mid ++ n ∷ [] → mid ≡ old → n ≡ k → new ≡ old ++ k ∷ []
pushed_on old mid new n k e f g = rw (e, f, g) refl

pub invariant_of-self-2 : goal.invariant_of-self-2
invariant_of-self-2 c =
    let room : length c.self.inside.ends.items < 4294967295 =
    omega (arith, cut-length c.self.inside.items.items 0 c.self.inside.ends.items, c.requires, ap length c.self.view_is) in
    let pushed : c.push.new.self.items ≡ c.self.inside.ends.items ++ length c.extend_from_slice.new.self.items ∷ [] =
    pushed_on _ _ _ _ _ c.in_ok-push.ensures.items c.reserve.ensures.items (c.len.ensures ∙ c.extend_from_slice.new.self.ok.0) in
    stored_more c.self.inside.items.items c.self.inside.ends.items c.args.needs.now _ _ c.self.invariant room
    c.in_ok-extend_from_slice.ensures.items pushed

pub returns-clause-ok : goal.returns-clause-ok
returns-clause-ok c =
    let room : length c.self.inside.ends.items < 4294967295 =
    omega (arith, cut-length c.self.inside.items.items 0 c.self.inside.ends.items, c.requires, ap length c.self.view_is) in
    let pushed : c.push.new.self.items ≡ c.self.inside.ends.items ++ length c.extend_from_slice.new.self.items ∷ [] =
    pushed_on _ _ _ _ _ c.in_ok-push.ensures.items c.reserve.ensures.items (c.len.ensures ∙ c.extend_from_slice.new.self.ok.0) in
    rows_more c.self.inside.items.items c.self.inside.ends.items c.args.needs.now _ _ c.self.invariant room
    c.in_ok-extend_from_slice.ensures.items pushed
    ∙ ap (λ rows. rows ++ c.args.needs.now ∷ []) c.self.view_is
