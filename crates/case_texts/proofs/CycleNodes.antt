-- The nodes of a cycle are there, and their names one by one.
use Rattle.std.proofs.Common.{ℕ, zero, suc, ◌≡◌, ◌<◌, ◌+◌, ◌++◌, List, [], ◌∷◌, length, get_or, take, Some, None, slice_get, refl, sym, ◌∙◌, subst, arith}
use Rattle.std.proofs.lemmas.Option.{slice_get-get_or, slice_get_within}
use Rattle.std.proofs.Math.Seq.{take-suc}
use Rattle.clock_rank.specs.Cycles.{IsCycle, IsWalk}
use Rattle.design_core.specs.declared.node.NodeId.{NodeId}
use Rattle.design_core.specs.declared.parts.Parts.{Parts}
use Rattle.design_core.specs.Dependency.{IsNode}
use Rattle.case_texts.specs.Cycles.{AreNodeTexts, IsNodeText}

-- an item of a list with others after it
item_before : (nodes after : List NodeId) (k : ℕ) (a : NodeId) → slice_get nodes k ≡ Some a → slice_get (nodes ++ after) k ≡ Some a
item_before [] after zero a here = absurd (let e : None ≡ Some a = here in cc)
item_before [] after (suc k) a here = absurd (let e : None ≡ Some a = here in cc)
item_before (x ∷ nodes) after zero a here = here
item_before (x ∷ nodes) after (suc k) a here = item_before nodes after k a here

-- and with others before it
item_within : (before nodes after : List NodeId) (k : ℕ) (a : NodeId) → slice_get nodes k ≡ Some a → slice_get (before ++ nodes ++ after) (length before + k) ≡ Some a
item_within [] nodes after k a here =
    let none : k ≡ 0 + k = omega arith in
    subst (λ j. slice_get (nodes ++ after) j ≡ Some a) none (item_before nodes after k a here)
item_within (b ∷ before) nodes after k a here =
    let rest : slice_get (before ++ nodes ++ after) (length before + k) ≡ Some a = item_within before nodes after k a here in
    let at : suc (length before + k) ≡ suc (length before) + k = omega arith in
    subst (λ j. slice_get (b ∷ (before ++ nodes ++ after)) j ≡ Some a) at rest

-- each node of a walk is there
walk_node : (p : Parts) (walk : List NodeId) (j : ℕ) (a : NodeId) → IsWalk p walk → slice_get walk j ≡ Some a → IsNode p a
walk_node p walk zero a is here = (is.first a here).here.node
walk_node p walk (suc i) a is here =
    let within : suc i < length walk = slice_get_within walk (suc i) a here in
    let before : slice_get walk i ≡ Some (get_or walk i a) = slice_get-get_or walk i a (omega (arith, within)) in
    let next : suc i ≡ i + 1 = omega arith in
    (is.steps i (get_or walk i a) a before (subst (λ j. slice_get walk j ≡ Some a) next here)).here.node

-- so is each node of a cycle
pub cycle_node : (p : Parts) (nodes : List NodeId) → IsCycle p nodes → (k : ℕ) (d : NodeId) → k < length nodes → IsNode p (get_or nodes k d)
cycle_node p nodes is k d low =
    walk_node p (is.lead ++ nodes ++ is.again ∷ []) (length is.lead + k) (get_or nodes k d) is.walk
    (item_within is.lead nodes (is.again ∷ []) k (get_or nodes k d) (slice_get-get_or nodes k d low))

-- one text more
texts_more : (p : Parts) (nodes : List NodeId) (texts : List (List ℕ)) (a : NodeId) (text : List ℕ) → AreNodeTexts p nodes texts → IsNodeText p a text → AreNodeTexts p (nodes ++ a ∷ []) (texts ++ text ∷ [])
texts_more p [] [] a text all is = (is, tt {0})
texts_more p [] (t ∷ texts) a text all is = absurd all
texts_more p (b ∷ nodes) [] a text all is = absurd all
texts_more p (b ∷ nodes) (t ∷ texts) a text all is = (all.0, texts_more p nodes texts a text all.1 is)

pub next_text : (p : Parts) (nodes : List NodeId) (texts texts-new : List (List ℕ)) (i : ℕ) (a : NodeId) (text : List ℕ)
    → i < length nodes → a ≡ get_or nodes i a → texts-new ≡ texts ++ text ∷ [] → AreNodeTexts p (take i nodes) texts → IsNodeText p a text
    → AreNodeTexts p (take (i + 1) nodes) texts-new
next_text p nodes texts texts-new i a text low here new all is =
    let one : suc i ≡ i + 1 = omega arith in
    let grown : take (suc i) nodes ≡ take i nodes ++ a ∷ [] = take-suc nodes i a low ∙ subst (λ b. take i nodes ++ get_or nodes i a ∷ [] ≡ take i nodes ++ b ∷ []) (sym here) refl in
    subst (λ j. AreNodeTexts p (take j nodes) texts-new) one
    (subst (λ ts. AreNodeTexts p ts texts-new) (sym grown) (subst (AreNodeTexts p (take i nodes ++ a ∷ [])) (sym new) (texts_more p (take i nodes) texts a text all is)))
