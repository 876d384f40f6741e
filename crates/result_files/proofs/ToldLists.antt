-- Lists of which one entry says nothing.
use Rattle.std.proofs.Common.{◌≡◌, ℕ, List, Err, sym, ◌∙◌, subst}
use Rattle.serde_json.specs.Data.{Data}
use Rattle.result_files.specs.Trees.{list}
use Rattle.result_files.specs.Lists.{SayEach, SaysNone, FirstBad, IsListOf}
use Rattle.result_files.specs.Readers.{ListAnswers}
use Rattle.result_files.specs.declared.told.ListFault.{ListFault}
use Rattle.result_files.specs.declared.told.ListFault.TheVariants as list_fault
use Rattle.result_files.proofs.Entries.{says_at}
use Rattle.result_files.proofs.Inside.{same_list}
use Rattle.result_files.proofs.ScheduleFaults.{first_bad}

-- where one says nothing, they do not say values each
pub bad_says_none : {X A : Type 0} (Says : X → A → Type 0) (things : List X) (k : ℕ) → FirstBad Says (SaysNone Says) things k → (values : List A) → SayEach Says things values → ⊥
bad_says_none Says things k bad values each =
    let found = says_at Says things values k bad.thing each bad.there in
    bad.bad found.0 found.1

-- the list that has it says nothing
pub list_says_none : {A : Type 0} (Says : Data → A → Type 0) (tree : Data) (trees : List Data) (fault : ListFault) (k : ℕ) → tree ≡ list trees → fault ≡ list_fault.Bad k → ListAnswers Says trees (Err fault) → (values : List A) → IsListOf Says tree values → ⊥
list_says_none Says tree trees fault k is at answer values of =
    bad_says_none Says trees k (first_bad Says trees fault k at answer) values
    (subst (λ ts. SayEach Says ts values) (same_list of.trees trees (sym of.tree_is ∙ is)) of.each)
