-- The names of modules, one after another, and the tests of those that are left.
use Rattle.std.proofs.Common.{◌≡◌, ◌+◌, ◌<◌, ◌∙◌, ℕ, zero, suc, Bool, true, false, Option, Some, None, List, [], ◌∷◌, ◌++◌, add-one, ap, arith, cond, drop, get_or, is_some, length, map, refl, subst, sym, take}
use Rattle.std.specs.Prelude.{slice_get}
use Rattle.std.proofs.lemmas.Option.{same_Some}
use Rattle.std.specs.Option.{option_or}
use Rattle.std.proofs.Math.Seq.{drop-cons}
use Rattle.std.proofs.lemmas.List.{length-append, length-map, take_more}
use Rattle.id_arena.specs.Names.{place_among, with_name}
use Rattle.verilog_tree.specs.declared.source.Module.{Module}
use Rattle.module_nets.specs.Names.{Name, is_among}
use Rattle.flattening.specs.declared.fault.ElabFault.TheVariants.{NameTwice}
use Rattle.flattening.specs.Faults.{module_test}
use Rattle.flattening.specs.Places.{Given, module_names, name_in, start_in}
use Rattle.flattening.specs.Steps.{Test, first_fault}
use Rattle.elaborator.specs.Walk.{AreReadyRows, IsReady, tests_from}
use Rattle.elaborator.specs.declared.modules.Ready.{Ready}
use Rattle.elaborator.proofs.Placing.{place_is_some}

-- the name at a place is that of the module there
name_there : (g : Given) (ms : List Module) (i : ℕ) (m : Module) → get_or (map (λ (k : Module). name_in g k.name) ms) i (name_in g m.name) ≡ name_in g (get_or ms i m).name
name_there g [] i m = refl
name_there g (k ∷ ms) zero m = refl
name_there g (k ∷ ms) (suc i) m = name_there g ms i m

module _ (g : Given) (i : ℕ) (m : Module) (here : m ≡ get_or g.modules i m) (below : i < length g.modules) where
  pub front : drop i g.modules ≡ m ∷ drop (i + 1) g.modules
  front = drop-cons g.modules i m below ∙ ap (λ k. get_or g.modules i m ∷ drop k g.modules) (sym (add-one i)) ∙ ap (λ (k : Module). k ∷ drop (i + 1) g.modules) (sym here)

  split : first_fault (tests_from g i (drop i g.modules)) ≡ option_or (module_test g i m) (first_fault (tests_from g (i + 1) (drop (i + 1) g.modules)))
  split = ap (λ ms. first_fault (tests_from g i ms)) front

  module _ (names : List Name) (are : names ≡ take i (module_names g)) (name : Name) (called : name ≡ name_in g m.name) (b : Bool) (found : is_some (place_among names name) ≡ b) where
    test_is : module_test g i m ≡ cond b (Some (NameTwice (start_in g m.name))) None
    test_is =
        let same : is_among (take i (module_names g)) (name_in g m.name) ≡ b = ap (λ (xs : List Name). is_among xs (name_in g m.name)) (sym are) ∙ ap (is_among names) (sym called) ∙ sym (place_is_some names name) ∙ found in
        ap (λ (t : Bool). cond {A = Test} t (Some (NameTwice (start_in g m.name))) None) same

    pub more_names : b ≡ false → with_name names name ≡ take (i + 1) (module_names g)
    more_names new =
        let added : with_name names name ≡ names ++ name ∷ [] = (let e : is_some (place_among names name) ≡ false = found ∙ new in rw e refl) in
        let last : get_or (module_names g) i (name_in g m.name) ≡ name = name_there g g.modules i m ∙ ap (λ (k : Module). name_in g k.name) (sym here) ∙ sym called in
        let long : length (module_names g) ≡ length g.modules = length-map g.modules (λ (k : Module). name_in g k.name) in
        added ∙ ap (λ (xs : List Name). xs ++ name ∷ []) are ∙ ap (λ (x : Name). take i (module_names g) ++ x ∷ []) (sym last)
        ∙ sym (take_more (module_names g) i (name_in g m.name) (omega (arith, long, below)))

    pub twice_here : b ≡ true → first_fault (tests_from g i (drop i g.modules)) ≡ Some (NameTwice (start_in g m.name))
    twice_here old = split ∙ ap (λ t. option_or t (first_fault (tests_from g (i + 1) (drop (i + 1) g.modules)))) (test_is ∙ ap (λ (t : Bool). cond {A = Test} t (Some (NameTwice (start_in g m.name))) None) old)

    pub once_here : b ≡ false → first_fault (tests_from g (i + 1) (drop (i + 1) g.modules)) ≡ first_fault (tests_from g i (drop i g.modules))
    once_here new = sym (split ∙ ap (λ t. option_or t (first_fault (tests_from g (i + 1) (drop (i + 1) g.modules)))) (test_is ∙ ap (λ (t : Bool). cond {A = Test} t (Some (NameTwice (start_in g m.name))) None) new))

-- what is known of modules, and then of one more
each_more : (g : Given) (m : Module) (ready : Ready) (xs : List Module) (rows : List Ready) → length rows ≡ length xs →
    ((k : ℕ) (x : Module) (y : Ready) → slice_get xs k ≡ Some x → slice_get rows k ≡ Some y → IsReady g x y) → IsReady g m ready →
    (k : ℕ) (x : Module) (y : Ready) → slice_get (xs ++ m ∷ []) k ≡ Some x → slice_get (rows ++ ready ∷ []) k ≡ Some y → IsReady g x y
each_more g m ready [] [] long each last zero x y a b = subst (λ (z : Module). IsReady g z y) (same_Some m x a) (subst (λ (r : Ready). IsReady g m r) (same_Some ready y b) last)
each_more g m ready [] [] long each last (suc k) x y a b = absurd (let none : slice_get (m ∷ []) (suc k) ≡ Some x = a in let no : ⊥ = cc in no)
each_more g m ready [] (r ∷ rows) long each last k x y a b = absurd (omega (arith, long))
each_more g m ready (z ∷ xs) [] long each last k x y a b = absurd (omega (arith, long))
each_more g m ready (z ∷ xs) (r ∷ rows) long each last zero x y a b = each zero x y a b
each_more g m ready (z ∷ xs) (r ∷ rows) long each last (suc k) x y a b = each_more g m ready xs rows (omega (arith, long)) (λ j. each (suc j)) last k x y a b

pub rows_more : (g : Given) (ms : List Module) (i : ℕ) (m : Module) (ready : Ready) (rows : List Ready) → m ≡ get_or ms i m → i < length ms →
    AreReadyRows g (take i ms) rows → IsReady g m ready → AreReadyRows g (take (i + 1) ms) (rows ++ ready ∷ [])
rows_more g ms i m ready rows here below are last =
    let taken : take i ms ++ m ∷ [] ≡ take (i + 1) ms = ap (λ (x : Module). take i ms ++ x ∷ []) here ∙ sym (take_more ms i m below) in
    let long : length rows ≡ length (take i ms) = are.sized in
    let sum : length (rows ++ ready ∷ []) ≡ length (take i ms ++ m ∷ []) = length-append rows (ready ∷ []) ∙ ap (λ n. n + 1) long ∙ sym (length-append (take i ms) (m ∷ [])) in
    subst (λ (xs : List Module). AreReadyRows g xs (rows ++ ready ∷ [])) taken (record { sized = sum; each = each_more g m ready (take i ms) rows long are.each last })
