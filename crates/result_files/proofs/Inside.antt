-- What the steps into a JSON tree say of the tree.
use Rattle.std.proofs.Common.{◌≡◌, ◌≢◌, ℕ, List, [], ◌∷◌, length, Bor, Option, IsTrue, ◌==◌, Some, None, refl, sym, ap, suc, subst, ◌∙◌, arith}
use Rattle.std.specs.Prelude.{map, nat_le, option_map, MatchOption}
use Rattle.std.proofs.lemmas.List.{length-map}
use Rattle.std.proofs.lemmas.Bool.Decides.{nat_tests}
use Rattle.std.proofs.lemmas.Option.{same_Some, cond_some, option_and_then_some}
use Rattle.serde_json.specs.Data.{Data, null, boolean, number, string, array, object, unsigned, negative, float, Items}
use Rattle.serde_json.specs.Events.{items_len}
use Rattle.serde_json.specs.Find.{as_array, as_str}
use Rattle.serde_json.specs.View.{items_of, items_view, view}
use Rattle.serde_json.specs.declared.value.Value.{Value}
use Rattle.json_members.specs.JsonText.{IsTextOf}
use Rattle.json_members.specs.Members.{number_of, array_of, short_list}
use Rattle.result_files.specs.Trees.{list, AreFew, IsWordTree}

array_is : (d : Data) (ds : Items) → as_array d ≡ Some ds → d ≡ array ds
array_is null ds e = cc
array_is (boolean b) ds e = cc
array_is (number n) ds e = cc
array_is (string s) ds e = cc
array_is (array es) ds e = ap array (same_Some _ _ e)
array_is (object ms) ds e = cc

-- a list of data has as many entries
items_len-items_of : (ds : List Data) → items_len (items_of ds) ≡ length ds
items_len-items_of [] = refl
items_len-items_of (d ∷ ds) = ap suc (items_len-items_of ds)

short_is : (ds : Items) (es : Items) → short_list ds ≡ Some es → ds ≡ es
unfolding short_list
short_is ds es e = (cond_some (nat_le (items_len ds) 4294967295) ds es e).1

-- what is found as a list is one
list_is : (d : Data) (ds : Items) → array_of d ≡ Some ds → d ≡ array ds
list_is d ds e =
    option_and_then_some _ (as_array d) ds e (λ es is_array short. array_is d es is_array ∙ ap array (short_is es ds short))

-- where none is found, there is no list of few entries
no_list : (d : Data) → array_of d ≡ None → (entries : List Data) → AreFew entries → d ≢ list entries
unfolding short_list
no_list d none entries few is =
    let found : array_of (list entries) ≡ Some (items_of entries) = rw (items_len-items_of entries) (grind (arith, nat_tests)) in
    let lost : array_of (list entries) ≡ None = subst (λ t. array_of t ≡ None) is none in
    cc

-- so much does what is found say of the tree
pub entries_found : (d : Data) (found : Option (Bor (List Value))) → option_map (λ items. items_view items.now) found ≡ array_of d → MatchOption found ((entries : List Data) → AreFew entries → d ≢ list entries) (λ entries. d ≡ list (map view entries.now))
entries_found d None e = no_list d (sym e)
entries_found d (Some values) e = list_is d (items_view values.now) (sym e)

pub string_is : (d : Data) (s : List ℕ) → as_str d ≡ Some s → d ≡ string s
string_is null s e = cc
string_is (boolean b) s e = cc
string_is (number n) s e = cc
string_is (string t) s e = ap string (same_Some _ _ e)
string_is (array es) s e = cc
string_is (object ms) s e = cc

pub same_items : (xs ys : List Data) → items_of xs ≡ items_of ys → xs ≡ ys
same_items [] [] e = refl
same_items [] (y ∷ ys) e = cc
same_items (x ∷ xs) [] e = cc
same_items (x ∷ xs) (y ∷ ys) e =
    let rest : items_of xs ≡ items_of ys = cc in
    let again = same_items xs ys rest in
    cc

pub same_list : (xs ys : List Data) → list xs ≡ list ys → xs ≡ ys
same_list xs ys e = let items : items_of xs ≡ items_of ys = cc in same_items xs ys items

pub word_is : (d : Data) (n : ℕ) → number_of 4294967295 d ≡ Some n → IsWordTree d n
word_is null n e = cc
word_is (boolean b) n e = cc
word_is (number (unsigned m)) n e = grind (arith, nat_tests)
word_is (number (negative z)) n e = cc
word_is (number (float x)) n e = cc
word_is (string s) n e = cc
word_is (array es) n e = cc
word_is (object ms) n e = cc

pub word_found : (d : Data) (n : ℕ) → IsWordTree d n → number_of 4294967295 d ≡ Some n
word_found d n w = let tree_is = w.tree_is in let fits = w.fits in grind (arith, nat_tests)

-- a list of these values has as many entries
pub same_length : (values : List Value) (entries : List Data) → list (map view values) ≡ list entries → length values ≡ length entries
same_length values entries e =
    let same = same_list (map view values) entries e in
    sym (length-map values view) ∙ ap length same

pub only_read :
    (tree : Data) (values : List Value) (found : Option (Bor Value))
    → tree ≡ list (map view values)
    → MatchOption found (length values ≢ 1) (λ entry. values ≡ entry.now ∷ [])
    → MatchOption found ((entry : Data) → tree ≢ list (entry ∷ [])) (λ entry. tree ≡ list (view entry.now ∷ []))
only_read tree values None t m = λ entry e. m (same_length values (entry ∷ []) (sym t ∙ e))
only_read tree values (Some entry) t m = t ∙ ap (λ vs. list (map view vs)) m

pub two_read :
    (tree : Data) (values : List Value) (found : Option (Bor Value × Bor Value))
    → tree ≡ list (map view values)
    → MatchOption found (length values ≢ 2) (λ pair. values ≡ pair.0.now ∷ pair.1.now ∷ [])
    → MatchOption found ((first second : Data) → tree ≢ list (first ∷ second ∷ [])) (λ pair. tree ≡ list (view pair.0.now ∷ view pair.1.now ∷ []))
two_read tree values None t m = λ first second e. m (same_length values (first ∷ second ∷ []) (sym t ∙ e))
two_read tree values (Some pair) t m = t ∙ ap (λ vs. list (map view vs)) m

pub four_read :
    (tree : Data) (values : List Value) (found : Option (Bor Value × Bor Value × Bor Value × Bor Value))
    → tree ≡ list (map view values)
    → MatchOption found (length values ≢ 4) (λ four. values ≡ four.0.now ∷ four.1.now ∷ four.2.now ∷ four.3.now ∷ [])
    → MatchOption found ((first second third fourth : Data) → tree ≢ list (first ∷ second ∷ third ∷ fourth ∷ [])) (λ four. tree ≡ list (view four.0.now ∷ view four.1.now ∷ view four.2.now ∷ view four.3.now ∷ []))
four_read tree values None t m = λ first second third fourth e.
    m (same_length values (first ∷ second ∷ third ∷ fourth ∷ []) (sym t ∙ e))
four_read tree values (Some four) t m = t ∙ ap (λ vs. list (map view vs)) m

-- where no list of few entries is there, there is none of one, two or four entries
pub only_missed : (tree : Data) (found : Option (Bor Value)) → found ≡ None → ((entries : List Data) → AreFew entries → tree ≢ list entries) → MatchOption found ((entry : Data) → tree ≢ list (entry ∷ [])) (λ entry. tree ≡ list (view entry.now ∷ []))
only_missed tree None e none = λ entry. none (entry ∷ []) (omega arith)
only_missed tree (Some entry) e none = cc

pub two_missed : (tree : Data) (found : Option (Bor Value × Bor Value)) → found ≡ None → ((entries : List Data) → AreFew entries → tree ≢ list entries) → MatchOption found ((first second : Data) → tree ≢ list (first ∷ second ∷ [])) (λ pair. tree ≡ list (view pair.0.now ∷ view pair.1.now ∷ []))
two_missed tree None e none = λ first second. none (first ∷ second ∷ []) (omega arith)
two_missed tree (Some pair) e none = cc

pub four_missed : (tree : Data) (found : Option (Bor Value × Bor Value × Bor Value × Bor Value)) → found ≡ None → ((entries : List Data) → AreFew entries → tree ≢ list entries) → MatchOption found ((first second third fourth : Data) → tree ≢ list (first ∷ second ∷ third ∷ fourth ∷ [])) (λ four. tree ≡ list (view four.0.now ∷ view four.1.now ∷ view four.2.now ∷ view four.3.now ∷ []))
four_missed tree None e none = λ first second third fourth. none (first ∷ second ∷ third ∷ fourth ∷ []) (omega arith)
four_missed tree (Some four) e none = cc

-- a list of no values is the list with no entry
pub empty : (values : List Value) → IsTrue (length values == 0) → list (map view values) ≡ list []
empty [] e = refl
empty (value ∷ values) e = grind (arith, nat_tests)

pub is_empty : (values : List Value) → list (map view values) ≡ list [] → IsTrue (length values == 0)
is_empty values e = let none : length values ≡ 0 = same_length values [] e in grind (arith, nat_tests)

-- where nothing was found
pub at_none : {A : Type 0} (P : Type 0) (Q : A → Type 0) (found : Option A) → found ≡ None → P → MatchOption found P Q
at_none P Q None e p = p
at_none P Q (Some x) e p = cc

-- a text is one tree
pub same_tree : (bytes : List ℕ) (t u : Data) → IsTextOf bytes t → IsTextOf bytes u → t ≡ u
same_tree bytes t u a b = same_Some t u (sym a.reads ∙ b.reads)
