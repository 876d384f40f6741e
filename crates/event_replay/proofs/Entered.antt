-- Lists of another length than three give no word.
use Rattle.std.proofs.Common.{◌≡◌, ◌<◌, ◌≤◌, ◌⊎◌, List, [], ◌∷◌, None, Some, length, inl, inr, refl, ap, arith, ◌∙◌, sym}
use Rattle.serde_json.specs.Data.{Data}
use Rattle.serde_json.specs.Find.{as_array}
use Rattle.serde_json.specs.View.{items_view}
use Rattle.serde_json.specs.declared.value.Value.{Value}
use Rattle.json_members.specs.Members.{◌>>=◌}
use Rattle.domain_groups.specs.GivenOpening.{entry_in, word_told}

not_three : (values : List Value) → (length values < 3) ⊎ (3 < length values) → entry_in (items_view values) ≡ None
not_three [] other = refl
not_three (a ∷ []) other = refl
not_three (a ∷ b ∷ []) other = refl
not_three (a ∷ b ∷ c ∷ []) (inl less) = absurd (omega arith)
not_three (a ∷ b ∷ c ∷ []) (inr more) = absurd (omega arith)
not_three (a ∷ b ∷ c ∷ d ∷ rest) other = refl

pub no_entry : (tree : Data) (values : List Value) → as_array tree ≡ Some (items_view values) → (length values < 3) ⊎ (3 < length values) → None ≡ word_told tree
no_entry tree values is other = sym (ap (λ o. o >>= entry_in) is ∙ not_three values other)
