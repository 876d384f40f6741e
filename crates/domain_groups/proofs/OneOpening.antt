-- The text of an opening has one answer: the answers of the reader exclude one another.
use Rattle.std.proofs.Common.{◌≡◌, ℕ, List, [], ◌∷◌, Option, Some, None, Result, Ok, Err, slice_get, ◌≢◌, refl, sym, ap, subst, ◌∙◌}
use Rattle.std.proofs.lemmas.Option.{same_Some}
use Rattle.serde_json.specs.Data.{Data}
use Rattle.json_members.specs.JsonText.{IsTextOf, IsNoJson}
use Rattle.design_core.specs.declared.parts.Parts.{Parts}
use Rattle.domain_groups.specs.declared.openings.OpeningFault.{OpeningFault}
use Rattle.domain_groups.specs.declared.openings.OpeningFault.TheVariants.{NotJson, BadShape, NoPort, BadValue, NoState, NoWord, NoMemory}
use Rattle.domain_groups.specs.GivenOpening.{GivenOpening, opening_told}
use Rattle.domain_groups.specs.Openings.{PlainOpening, TellsOpening, HasNoOpening, HasOpeningFault, StandsForOpening, OpeningAnswers, EachOpeningHasOneAnswer, opening_faults, plain_opening}
use Rattle.domain_groups.proofs.OnePath.{same_paths}

same_tree : (bytes : List ℕ) (t u : Data) → IsTextOf bytes t → IsTextOf bytes u → t ≡ u
same_tree bytes t u a b = same_Some t u (sym a.reads ∙ b.reads)

same_given : (bytes : List ℕ) (g h : GivenOpening) → TellsOpening bytes g → TellsOpening bytes h → g ≡ h
same_given bytes g h a b = same_Some g h (sym a.form ∙ ap opening_told (same_tree bytes a.tree b.tree a.text b.text) ∙ b.form)

not_told : (bytes : List ℕ) (g : GivenOpening) → TellsOpening bytes g → HasNoOpening bytes → ⊥
not_told bytes g a b = let clash : Some g ≡ None = sym a.form ∙ ap opening_told (same_tree bytes a.tree b.tree a.text b.text) ∙ b.shape in cc

no_json : (bytes : List ℕ) (t : Data) → IsTextOf bytes t → IsNoJson bytes → ⊥
no_json bytes t a none = let clash : Some t ≡ None = sym a.reads ∙ none a.utf8 in cc

-- the faults of the text, whatever is said of it
same_faults : (p : Parts) (bytes : List ℕ) (g h : GivenOpening) (xs ys : List (List ℕ)) → TellsOpening bytes g → TellsOpening bytes h → xs ≡ ys → opening_faults p xs g ≡ opening_faults p ys h
same_faults p bytes g h xs ys a b paths = ap (λ z. opening_faults p z g) paths ∙ ap (opening_faults p ys) (same_given bytes g h a b)

both_stand : (p : Parts) (bytes : List ℕ) (o q : PlainOpening) → StandsForOpening p bytes o → StandsForOpening p bytes q → o ≡ q
both_stand p bytes o q a b =
    a.gives ∙ ap (λ z. plain_opening p z a.given) (same_paths p p.paths a.paths b.paths a.are_paths b.are_paths)
    ∙ ap (plain_opening p b.paths) (same_given bytes a.given b.given a.told b.told) ∙ sym b.gives

both_fail : (p : Parts) (bytes : List ℕ) (f g : OpeningFault) → HasOpeningFault p bytes f → HasOpeningFault p bytes g → f ≡ g
both_fail p bytes f g a b =
    same_Some f g (sym a.first ∙ ap (λ l. slice_get l 0) (same_faults p bytes a.given b.given a.paths b.paths a.told b.told (same_paths p p.paths a.paths b.paths a.are_paths b.are_paths)) ∙ b.first)

stands_or_fails : (p : Parts) (bytes : List ℕ) (o : PlainOpening) (f : OpeningFault) → StandsForOpening p bytes o → HasOpeningFault p bytes f → ⊥
stands_or_fails p bytes o f a b =
    let none : opening_faults p b.paths b.given ≡ [] = sym (same_faults p bytes a.given b.given a.paths b.paths a.told b.told (same_paths p p.paths a.paths b.paths a.are_paths b.are_paths)) ∙ a.sound in
    let clash : Some f ≡ None = sym b.first ∙ ap (λ (l : List OpeningFault). slice_get l 0) none in cc

-- the four things that an answer may say of a text
data Said (p : Parts) (bytes : List ℕ) : Result PlainOpening OpeningFault → Type 0 where
  stands : (o : PlainOpening) → StandsForOpening p bytes o → Said p bytes (Ok o)
  no_text : IsNoJson bytes → Said p bytes (Err NotJson)
  no_shape : HasNoOpening bytes → Said p bytes (Err BadShape)
  fails : (f : OpeningFault) → HasOpeningFault p bytes f → Said p bytes (Err f)

said : (p : Parts) (bytes : List ℕ) (r : Result PlainOpening OpeningFault) → r ≢ Err NoMemory → OpeningAnswers (λ o. o) p bytes r → Said p bytes r
said p bytes (Ok o) some a = stands o a
said p bytes (Err NotJson) some a = no_text a
said p bytes (Err BadShape) some a = no_shape a
said p bytes (Err (NoPort name)) some a = fails (NoPort name) a
said p bytes (Err (BadValue name)) some a = fails (BadValue name) a
said p bytes (Err (NoState path)) some a = fails (NoState path) a
said p bytes (Err (NoWord path)) some a = fails (NoWord path) a
said p bytes (Err NoMemory) some a = absurd (some refl)

same_answer : (p : Parts) (bytes : List ℕ) (r s : Result PlainOpening OpeningFault) → Said p bytes r → Said p bytes s → r ≡ s
same_answer p bytes r s (stands o a) (stands q b) = ap Ok (both_stand p bytes o q a b)
same_answer p bytes r s (stands o a) (no_text b) = absurd (no_json bytes a.told.tree a.told.text b)
same_answer p bytes r s (stands o a) (no_shape b) = absurd (not_told bytes a.given a.told b)
same_answer p bytes r s (stands o a) (fails f b) = absurd (stands_or_fails p bytes o f a b)
same_answer p bytes r s (no_text a) (stands q b) = absurd (no_json bytes b.told.tree b.told.text a)
same_answer p bytes r s (no_text a) (no_text b) = refl
same_answer p bytes r s (no_text a) (no_shape b) = absurd (no_json bytes b.tree b.text a)
same_answer p bytes r s (no_text a) (fails f b) = absurd (no_json bytes b.told.tree b.told.text a)
same_answer p bytes r s (no_shape a) (stands q b) = absurd (not_told bytes b.given b.told a)
same_answer p bytes r s (no_shape a) (no_text b) = absurd (no_json bytes a.tree a.text b)
same_answer p bytes r s (no_shape a) (no_shape b) = refl
same_answer p bytes r s (no_shape a) (fails f b) = absurd (not_told bytes b.given b.told a)
same_answer p bytes r s (fails f a) (stands q b) = absurd (stands_or_fails p bytes q f b a)
same_answer p bytes r s (fails f a) (no_text b) = absurd (no_json bytes a.told.tree a.told.text b)
same_answer p bytes r s (fails f a) (no_shape b) = absurd (not_told bytes a.given a.told b)
same_answer p bytes r s (fails f a) (fails g b) = ap Err (both_fail p bytes f g a b)

pub one_answer : EachOpeningHasOneAnswer
one_answer p bytes first second m n a b = same_answer p bytes first second (said p bytes first m a) (said p bytes second n b)
