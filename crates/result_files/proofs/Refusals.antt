-- What a reader answers where a part of what it reads was answered.
use Rattle.std.proofs.Common.{◌≡◌, ℕ, List, Result, Ok, Err, sym, ◌∙◌, subst}
use Rattle.std.specs.Prelude.{IsErr}
use Rattle.std.specs.Result.{IsErrAnd}
use Rattle.std.proofs.lemmas.Option.{same_Some}
use Rattle.serde_json.specs.Data.{Data}
use Rattle.result_files.specs.Faults.{Answers}
use Rattle.result_files.specs.Lists.{SayEach, IsListOf, HasList}
use Rattle.result_files.specs.Trees.{list, AreFew, HasMember}
use Rattle.result_files.specs.declared.fault.FormFault.{FormFault}
use Rattle.result_files.specs.declared.fault.FormFault.TheVariants.{NotYet, NoMemory}
use Rattle.result_files.proofs.Inside.{same_list}

-- the answer of a part is handed on
pub handed_on : {A : Type 0} (P : A → Type 0) (r : Result A FormFault) (fault : FormFault) → IsErr r × IsErrAnd r (λ e. e ≡ fault) → Answers P (Err fault) → Answers P r
handed_on P (Ok value) fault is answer = absurd is.1
handed_on P (Err e) fault is answer = subst (λ f. Answers P (Err f)) (sym is.1) answer

-- where a part says nothing, the whole says nothing
pub refused : {A B : Type 0} (P : A → Type 0) (Q : B → Type 0) (fault : FormFault) → ((b : B) → Q b → (a : A) × P a) → Answers P (Err fault) → Answers Q (Err fault)
refused P Q NotYet part none = λ b q. let p = part b q in none p.0 p.1
refused P Q NoMemory part none = tt

-- the same, handed on
pub part_refused : {A B : Type 0} (P : A → Type 0) (Q : B → Type 0) (r : Result B FormFault) (fault : FormFault) → IsErr r × IsErrAnd r (λ e. e ≡ fault) → ((b : B) → Q b → (a : A) × P a) → Answers P (Err fault) → Answers Q r
part_refused P Q r fault is part none = handed_on Q r fault is (refused P Q fault part none)

-- what says the same as another
pub same_answer : {A : Type 0} (P Q : A → Type 0) (r : Result A FormFault) → ((a : A) → P a → Q a) → ((a : A) → Q a → P a) → Answers P r → Answers Q r
same_answer P Q (Ok value) to from answer = to value answer
same_answer P Q (Err NotYet) to from answer = λ a q. answer a (from a q)
same_answer P Q (Err NoMemory) to from answer = tt

-- the entries of a list are answered
pub list_answered : {A : Type 0} (Says : Data → A → Type 0) (tree : Data) (trees : List Data) (r : Result (List A) FormFault) → tree ≡ list trees → AreFew trees → Answers (SayEach Says trees) r → Answers (IsListOf Says tree) r
list_answered Says tree trees r is few answer =
    same_answer (SayEach Says trees) (IsListOf Says tree) r
    (λ values each. record { trees = trees; tree_is = is; few = few; each = each })
    (λ values of. subst (λ ts. SayEach Says ts values) (same_list of.trees trees (sym of.tree_is ∙ is)) of.each)
    answer

-- the list of a member is answered
pub member_answered : {A : Type 0} (Says : Data → A → Type 0) (key : List ℕ) (tree member : Data) (r : Result (List A) FormFault) → HasMember key member tree → Answers (IsListOf Says member) r → Answers (HasList key Says tree) r
member_answered Says key tree member r there answer =
    same_answer (IsListOf Says member) (HasList key Says tree) r
    (λ values of. record { member = member; there = there; is = of })
    (λ values has. subst (λ d. IsListOf Says d values) (same_Some has.member member (sym has.there ∙ there)) has.is)
    answer
