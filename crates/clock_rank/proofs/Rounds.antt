-- The first node of a cycle rests on itself.
use Rattle.std.proofs.Common.{◌≡◌, ◌<◌, ◌+◌, ◌-◌, ℕ, zero, suc, List, [], ◌∷◌, ◌++◌, Some, length, get_or, refl, sym, ap, ◌∙◌, subst, arith, length-append}
use Rattle.std.specs.Prelude.{slice_get}
use Rattle.std.proofs.lemmas.List.{get_or_append_left, get_or-append-add, get_or_push}
use Rattle.std.proofs.lemmas.Option.{slice_get_within, slice_get-get_or, same_Some, get_or_from_slice_get}
use Rattle.design_core.specs.declared.node.NodeId.{NodeId}
use Rattle.design_core.specs.declared.parts.Parts.{Parts}
use Rattle.clock_rank.specs.Cycles.{RestsOn, IsWalk}
use Rattle.clock_rank.specs.Cycles.RestsOn.{directly, through}
use Rattle.clock_rank.specs.Numbers.{net_node}
use Rattle.clock_rank.specs.Answers.{CyclesComeRound}

-- a node of a walk rests on each that comes after it
on_later : (p : Parts) (walk : List NodeId) → IsWalk p walk → (n i : ℕ) (a b : NodeId) → slice_get walk i ≡ Some a → slice_get walk (i + n + 1) ≡ Some b → RestsOn p a b
on_later p walk w zero i a b at at-2 =
    let e : i + 0 + 1 ≡ i + 1 = omega arith in
    directly a b (w.steps i a b at (subst (λ (m : ℕ). slice_get walk m ≡ Some b) e at-2)).needed
on_later p walk w (suc n) i a b at at-2 =
    let e : i + suc n + 1 ≡ i + 1 + n + 1 = omega arith in
    let at-3 : slice_get walk (i + 1 + n + 1) ≡ Some b = subst (λ (m : ℕ). slice_get walk m ≡ Some b) e at-2 in
    let within = slice_get_within walk (i + 1 + n + 1) b at-3 in
    let mid : slice_get walk (i + 1) ≡ Some (get_or walk (i + 1) (net_node 0)) = slice_get-get_or walk (i + 1) (net_node 0) (omega arith) in
    through a (get_or walk (i + 1) (net_node 0)) b (w.steps i a (get_or walk (i + 1) (net_node 0)) at mid).needed
    (on_later p walk w n (i + 1) (get_or walk (i + 1) (net_node 0)) b mid at-3)

pub come_round : CyclesComeRound
come_round p cycle a c at =
    let same : c.again ≡ a = same_Some c.again a (sym c.begins ∙ at) in
    let some : 0 < length cycle = slice_get_within cycle 0 a at in
    let front : length (c.lead ++ cycle) ≡ length c.lead + length cycle = length-append c.lead cycle in
    let whole : length (c.lead ++ cycle ++ c.again ∷ []) ≡ length (c.lead ++ cycle) + 1 = length-append (c.lead ++ cycle) (c.again ∷ []) in
    let first : get_or (c.lead ++ cycle ++ c.again ∷ []) (length c.lead + 0) a ≡ a =
    get_or_append_left (c.lead ++ cycle) (c.again ∷ []) a (length c.lead + 0) (omega arith)
    ∙ get_or-append-add c.lead cycle 0 a
    ∙ get_or_from_slice_get cycle 0 a a at in
    let begin : slice_get (c.lead ++ cycle ++ c.again ∷ []) (length c.lead + 0) ≡ Some a =
    slice_get-get_or (c.lead ++ cycle ++ c.again ∷ []) (length c.lead + 0) a (omega arith) ∙ ap Some first in
    let last : get_or (c.lead ++ cycle ++ c.again ∷ []) (length (c.lead ++ cycle)) a ≡ a =
    get_or_push (c.lead ++ cycle) c.again a (length (c.lead ++ cycle)) refl ∙ same in
    let end : slice_get (c.lead ++ cycle ++ c.again ∷ []) (length (c.lead ++ cycle)) ≡ Some a =
    slice_get-get_or (c.lead ++ cycle ++ c.again ∷ []) (length (c.lead ++ cycle)) a (omega arith) ∙ ap Some last in
    let e : length (c.lead ++ cycle) ≡ length c.lead + 0 + (length cycle - 1) + 1 = omega arith in
    on_later p (c.lead ++ cycle ++ c.again ∷ []) c.walk (length cycle - 1) (length c.lead + 0) a a begin
    (subst (λ (m : ℕ). slice_get (c.lead ++ cycle ++ c.again ∷ []) m ≡ Some a) e end)
