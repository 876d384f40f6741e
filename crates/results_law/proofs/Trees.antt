-- Printed trees are read back.
use Rattle.std.proofs.Common.{◌≡◌, ◌≤◌, ◌<◌, ◌+◌, ◌^◌, ℕ, zero, suc, Bool, true, false, max, List, [], ◌∷◌, ◌++◌, Option, Some, refl, sym, ap, ◌∙◌, subst, append-nil, arith, slice_get}
use Rattle.std.specs.Prelude.{IsUtf8, decimal, map, option_map, option_and_then, length}
use Rattle.std.proofs.lemmas.Str.{IsUtf8-append, IsUtf8-from_ascii, IsUtf8-nil}
use Rattle.std.proofs.lemmas.Fmt.{IsAscii-decimal}
use Rattle.json.specs.Json as json
use Rattle.json.specs.Lex.{tokens}
use Rattle.json.specs.Print.{quoted, print}
use Rattle.json.specs.Tree as tree
use Rattle.json.proofs.Printed.Decimals.{IsNumber-decimal}
use Rattle.json.proofs.Printed.Tokens.{tokens-print}
use Rattle.json.proofs.Printed.Trees.{ArePrintable-json_tokens, value-json_tokens}
use Rattle.json.proofs.Printed.Utf8.{are_ascii, IsUtf8-are_ascii, IsUtf8-boolean, IsUtf8-quoted}
use Rattle.serde_json.specs.Data.{Data, boolean, number, unsigned, string, array, object, Items, no_items, item, Members, no_members, member, put}
use Rattle.serde_json.specs.Read.{number_of, of_json, of_items, of_members, read, max_depth}
use Rattle.serde_json.specs.View.{items_of}
use Rattle.serde_json.specs.Written.{compact_text, items_text, members_text, comma_if, outline, items_outline, members_outline}
use Rattle.serde_json.proofs.Numbers.{number_of-decimal}
use Rattle.serde_json.proofs.Texts.{print-outline}
use Rattle.result_files.specs.Trees.{list, whole, IsWord}
use Rattle.results_law.proofs.Newline.{line, same_tokens}

-- the text of the tree is UTF-8 and says the tree, which nests at most so deep
pub record IsBack (room : ℕ) (d : Data) : Type 0 where
  pub says : of_json (outline d) ≡ Some d
  pub numbers : tree.HasNumbers (outline d)
  pub shallow : tree.depth (outline d) ≤ room
  pub utf8 : IsUtf8 (compact_text d)

pub whole_back : (n : ℕ) → IsWord n → IsBack 0 (whole n)
whole_back n fits =
    let small : n < 2 ^ 64 = omega arith in
    record { says = ap (option_map number) (number_of-decimal n small); numbers = IsNumber-decimal n small; shallow = omega arith; utf8 = IsUtf8-from_ascii (decimal n) (IsAscii-decimal n small) }

pub text_back : (s : List ℕ) → IsUtf8 s → IsBack 0 (string s)
text_back s fits = record { says = refl; numbers = tt; shallow = omega arith; utf8 = IsUtf8-quoted s fits }

pub kept_back : (b : Bool) → IsBack 0 (boolean b)
kept_back b = record { says = refl; numbers = tt; shallow = omega arith; utf8 = IsUtf8-boolean b }

-- a tree that nests less
pub wider : (m n : ℕ) (d : Data) → m ≤ n → IsBack m d → IsBack n d
wider m n d less is = record { says = is.says; numbers = is.numbers; shallow = (let own = is.shallow in omega arith); utf8 = is.utf8 }

-- Lists.

record AreBack (room : ℕ) (ds : Items) : Type 0 where
  says : of_items (items_outline ds) ≡ Some ds
  numbers : tree.ItemsHaveNumbers (items_outline ds)
  shallow : tree.items_depth (items_outline ds) ≤ room
  utf8 : (later : Bool) → IsUtf8 (items_text later ds)

comma_utf8 : (later : Bool) → IsUtf8 (comma_if later)
comma_utf8 true = IsUtf8-are_ascii (44 ∷ []) refl
comma_utf8 false = IsUtf8-nil

ascii_first : (x : ℕ) (s : List ℕ) → are_ascii (x ∷ []) ≡ true → IsUtf8 s → IsUtf8 (x ∷ s)
ascii_first x s small fits = IsUtf8-append (x ∷ []) s (IsUtf8-are_ascii (x ∷ []) small) fits

-- all trees of a list are so
abbrev pub AllBack : ℕ → List Data → Type 0
AllBack room [] = Unit {0}
AllBack room (d ∷ ds) = IsBack room d × AllBack room ds

pub all_mapped : {A : Type 0} (as_tree : A → Data) (room : ℕ) (xs : List A) → ((k : ℕ) (x : A) → slice_get xs k ≡ Some x → IsBack room (as_tree x)) → AllBack room (map as_tree xs)
all_mapped as_tree room [] each = tt
all_mapped as_tree room (x ∷ xs) each = (each 0 x refl, all_mapped as_tree room xs (λ k y e. each (suc k) y e))

items_back : (room : ℕ) (ds : List Data) → AllBack room ds → AreBack room (items_of ds)
items_back room [] all = record { says = refl; numbers = tt; shallow = omega arith; utf8 = λ later. IsUtf8-are_ascii (93 ∷ []) refl }
items_back room (d ∷ ds) all =
    let head = all.0 in
    let rest = items_back room ds all.1 in
    record {
      says = ap (option_and_then (λ x. option_map (item x) (of_items (items_outline (items_of ds))))) head.says ∙ ap (option_map (item d)) rest.says;
      numbers = (head.numbers, rest.numbers);
      shallow = (let a = head.shallow in let b = rest.shallow in omega arith);
      utf8 = λ later. IsUtf8-append (comma_if later) _ (comma_utf8 later) (IsUtf8-append (compact_text d) _ head.utf8 (rest.utf8 true));
    }

pub list_back : (room : ℕ) (ds : List Data) → AllBack room ds → IsBack (suc room) (list ds)
list_back room ds all =
    let are = items_back room ds all in
    record { says = ap (option_map array) are.says; numbers = are.numbers; shallow = (let own = are.shallow in omega arith); utf8 = ascii_first 91 _ refl (are.utf8 false) }

-- Objects of two and of three members, in the order of their names.

member_utf8 : (later : Bool) (k : List ℕ) (d : Data) (ms : Members) → IsUtf8 k → IsUtf8 (compact_text d) → IsUtf8 (members_text true ms) → IsUtf8 (members_text later (member k d ms))
member_utf8 later k d ms named fits rest =
    IsUtf8-append (comma_if later) _ (comma_utf8 later) (IsUtf8-append (quoted k) _ (IsUtf8-quoted k named) (ascii_first 58 _ refl (IsUtf8-append (compact_text d) _ fits rest)))

pub two_back : (room : ℕ) (k l : List ℕ) (d e : Data) → put l e (member k d no_members) ≡ member k d (member l e no_members) → IsUtf8 k → IsUtf8 l → IsBack room d → IsBack room e → IsBack (suc room) (object (member k d (member l e no_members)))
two_back room k l d e order named named-2 is is-2 = record {
  says =
      ap (λ o. option_map object (option_and_then (λ x. option_and_then (λ y. Some (put l y (put k x no_members))) (of_json (outline e))) o)) is.says
      ∙ ap (λ o. option_map object (option_and_then (λ y. Some (put l y (put k d no_members))) o)) is-2.says
      ∙ ap (λ ms. Some (object ms)) order;
  numbers = (is.numbers, (is-2.numbers, tt));
  shallow = (let a = is.shallow in let b = is-2.shallow in omega arith);
  utf8 = ascii_first 123 _ refl (member_utf8 false k d (member l e no_members) named is.utf8 (member_utf8 true l e no_members named-2 is-2.utf8 (IsUtf8-are_ascii (125 ∷ []) refl)));
}

pub three_back : (room : ℕ) (k l m : List ℕ) (d e f : Data) → put m f (put l e (member k d no_members)) ≡ member k d (member l e (member m f no_members)) → IsUtf8 k → IsUtf8 l → IsUtf8 m → IsBack room d → IsBack room e → IsBack room f → IsBack (suc room) (object (member k d (member l e (member m f no_members))))
three_back room k l m d e f order named named-2 named-3 is is-2 is-3 = record {
  says =
      ap (λ o. option_map object (option_and_then (λ x. option_and_then (λ y. option_and_then (λ z. Some (put m z (put l y (put k x no_members)))) (of_json (outline f))) (of_json (outline e))) o)) is.says
      ∙ ap (λ o. option_map object (option_and_then (λ y. option_and_then (λ z. Some (put m z (put l y (put k d no_members)))) (of_json (outline f))) o)) is-2.says
      ∙ ap (λ o. option_map object (option_and_then (λ z. Some (put m z (put l e (put k d no_members)))) o)) is-3.says
      ∙ ap (λ ms. Some (object ms)) order;
  numbers = (is.numbers, (is-2.numbers, (is-3.numbers, tt)));
  shallow = (let a = is.shallow in let b = is-2.shallow in let c = is-3.shallow in omega arith);
  utf8 = ascii_first 123 _ refl (member_utf8 false k d (member l e (member m f no_members)) named is.utf8 (member_utf8 true l e (member m f no_members) named-2 is-2.utf8 (member_utf8 true m f no_members named-3 is-3.utf8 (IsUtf8-are_ascii (125 ∷ []) refl))));
}

-- The text of a tree, with a newline, is read as the tree.

pub line_reads : (d : Data) → IsBack max_depth d → read (line (compact_text d)) ≡ Some d
line_reads d is =
    let printable = ArePrintable-json_tokens (outline d) is.numbers in
    let same : tokens (line (compact_text d)) ≡ tree.json_tokens (outline d) =
    ap (λ t. tokens (line t)) (sym (print-outline d)) ∙ same_tokens (tree.json_tokens (outline d)) printable ∙ tokens-print (tree.json_tokens (outline d)) printable in
    ap (λ ts. option_and_then of_json (option_and_then (λ p. json.if_last p.0 p.1) (json.value max_depth ts))) (same ∙ sym (append-nil (tree.json_tokens (outline d))))
    ∙ ap (λ o. option_and_then of_json (option_and_then (λ p. json.if_last p.0 p.1) o)) (value-json_tokens (outline d) max_depth [] is.shallow)
    ∙ is.says

pub line_utf8 : (d : Data) (room : ℕ) → IsBack room d → IsUtf8 (line (compact_text d))
line_utf8 d room is = IsUtf8-append (compact_text d) (10 ∷ []) is.utf8 (IsUtf8-are_ascii (10 ∷ []) refl)
