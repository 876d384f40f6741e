-- Offered to the crates above: the marks and values of a gate's inputs, beside the subjects that its origin
-- demands.
use Rattle.std.proofs.Common.{◌≡◌, ℕ, suc, Bool, true, false, List, [], ◌∷◌, length, map, refl, subst, sym, ap, ◌∙◌}
use Rattle.std.specs.Prelude.{Option, Some, None}
use Rattle.std.specs.Option.{option_map_or}
use Rattle.id_arena.specs.declared.keys.NetId.{NetId}
use Rattle.id_arena.specs.declared.keys.ChipNetId.{ChipNetId}
use Rattle.design_core.specs.declared.operation.Op.{Op}
use Rattle.design_core.specs.declared.operation.Op.TheVariants.{And, Nand, Or, Nor, Xor, Xnor, Buf, Not, Table}
use Rattle.design_core.specs.declared.parts.Parts.{Parts}
use Rattle.design_core.specs.Operation.{op_value}
use Rattle.design_core.specs.Valuation.{Valuation}
use Rattle.emu_machine.specs.declared.map.Subject.{Subject}
use Rattle.emu_machine.specs.declared.map.Subject.TheVariants.{Net, Up, Down, Take, Next, TakeWrite, Old, TakeRead}
use Rattle.emu_machine.specs.Results.{Results}
use Rattle.emu_machine.specs.Mapped.{subject}
use Rattle.emu_machine.specs.Marks.{Mark, all_before, all_after}
use Rattle.emu_machine.specs.Origins.{same_subject, same_op, have_subjects, table_of}
use Rattle.marks_law.specs.Truth.{MarkHolds, IsTrueOf}
use Rattle.facts.proofs.Tests.{no, left, right, number_same}
use Rattle.marks_law.proofs.Tables.{tables_are_functions}

pub same_subject_is : (a b : Subject) → same_subject a b ≡ true → a ≡ b
same_subject_is (Net a) (Net b) h = ap (λ (n : ℕ). Net (record { place = n })) (number_same a.place b.place h)
same_subject_is (Up a) (Up b) h = ap (λ (n : ℕ). Up (record { place = n })) (number_same a.place b.place h)
same_subject_is (Down a) (Down b) h = ap (λ (n : ℕ). Down (record { place = n })) (number_same a.place b.place h)
same_subject_is (Take a) (Take b) h = ap (λ (n : ℕ). Take (record { place = n })) (number_same a.place b.place h)
same_subject_is (Next a) (Next b) h = ap (λ (n : ℕ). Next (record { place = n })) (number_same a.place b.place h)
same_subject_is (TakeWrite a i) (TakeWrite b j) h =
    ap (λ (n : ℕ). TakeWrite (record { place = n }) i) (number_same a.place b.place (left _ _ h)) ∙ ap (λ (n : ℕ). TakeWrite b n) (number_same i j (right _ _ h))
same_subject_is (Old a i k) (Old b j l) h =
    ap (λ (n : ℕ). Old (record { place = n }) i k) (number_same a.place b.place (left _ _ (left _ _ h)))
    ∙ ap (λ (n : ℕ). Old b n k) (number_same i j (right _ _ (left _ _ h)))
    ∙ ap (λ (n : ℕ). Old b j n) (number_same k l (right _ _ h))
same_subject_is (TakeRead a i) (TakeRead b j) h =
    ap (λ (n : ℕ). TakeRead (record { place = n }) i) (number_same a.place b.place (left _ _ h)) ∙ ap (λ (n : ℕ). TakeRead b n) (number_same i j (right _ _ h))
same_subject_is a b h = no h

pub same_op_is : (a b : Op) → same_op a b ≡ true → a ≡ b
same_op_is And And h = refl
same_op_is Nand Nand h = refl
same_op_is Or Or h = refl
same_op_is Nor Nor h = refl
same_op_is Xor Xor h = refl
same_op_is Xnor Xnor h = refl
same_op_is Buf Buf h = refl
same_op_is Not Not h = refl
same_op_is (Table a) (Table b) h = ap Table (number_same a b h)
same_op_is a b h = no h

module _ (p : Parts) (v w : Valuation) where
  -- marks and values, one by one, are true of subjects
  abbrev pub AreTrue : List Subject → List Mark → List Bool → Type 0
  AreTrue [] [] [] = Unit {0}
  AreTrue (what ∷ subjects) (m ∷ ms) (b ∷ bs) = MarkHolds p v w what m b × AreTrue subjects ms bs
  AreTrue subjects ms bs = ⊥

  pub of_subject : (what : Subject) (m : Mark) (b : Bool) (o : Option Subject) → option_map_or (same_subject what) o false ≡ true → IsTrueOf p v w o m b → MarkHolds p v w what m b
  of_subject what m b None h t = no h
  of_subject what m b (Some other) h t = subst (λ (s : Subject). MarkHolds p v w s m b) (sym (same_subject_is what other h)) t

  pub inputs_true : (r : Results) (c : ℕ) (f : ℕ → Mark) (g : ℕ → Bool) → ((i : ℕ) → IsTrueOf p v w (subject r c i) (f i) (g i))
      → (nets : List ChipNetId) (subjects : List Subject) → have_subjects r c nets subjects ≡ true
      → AreTrue subjects (map (λ i. f i.place) nets) (map (λ i. g i.place) nets)
  inputs_true r c f g both [] [] h = tt
  inputs_true r c f g both [] (what ∷ subjects) h = no h
  inputs_true r c f g both (n ∷ nets) [] h = no h
  inputs_true r c f g both (n ∷ nets) (what ∷ subjects) h =
      (of_subject what (f n.place) (g n.place) (subject r c n.place) (left _ _ h) (both n.place), inputs_true r c f g both nets subjects (right _ _ h))

  -- to show a fact of marks and values that are true, show it of what they can be
  pub first_and_rest : (what : Subject) (subjects : List Subject) (P : List Mark → List Bool → Type 0)
      → ((m : Mark) (ms : List Mark) (b : Bool) (bs : List Bool) → MarkHolds p v w what m b → AreTrue subjects ms bs → P (m ∷ ms) (b ∷ bs))
      → (ms : List Mark) (bs : List Bool) → AreTrue (what ∷ subjects) ms bs → P ms bs
  first_and_rest what subjects P f [] [] h = absurd h
  first_and_rest what subjects P f [] (b ∷ bs) h = absurd h
  first_and_rest what subjects P f (m ∷ ms) [] h = absurd h
  first_and_rest what subjects P f (m ∷ ms) (b ∷ bs) h = f m ms b bs h.0 h.1

  pub ended : (P : List Mark → List Bool → Type 0) → P [] [] → (ms : List Mark) (bs : List Bool) → AreTrue [] ms bs → P ms bs
  ended P e [] [] h = e
  ended P e [] (b ∷ bs) h = absurd h
  ended P e (m ∷ ms) [] h = absurd h
  ended P e (m ∷ ms) (b ∷ bs) h = absurd h

  as_long : (subjects : List Subject) (ms : List Mark) (bs : List Bool) → AreTrue subjects ms bs → length bs ≡ length subjects
  as_long [] ms bs h = ended (λ ms bs. length bs ≡ 0) refl ms bs h
  as_long (what ∷ subjects) ms bs h =
      first_and_rest what subjects (λ ms bs. length bs ≡ suc (length subjects)) (λ m ms b bs t rest. ap suc (as_long subjects ms bs rest)) ms bs h

  -- a gate with the table of a function computes it
  pub computes : (op : Op) (function : List Bool → Bool) (subjects : List Subject) (ms : List Mark) (bs : List Bool)
      → op ≡ table_of (length subjects) function → AreTrue subjects ms bs → op_value op bs ≡ function bs
  computes op function subjects ms bs e h =
      ap (λ (o : Op). op_value o bs) e
      ∙ ap (λ (n : ℕ). op_value (table_of n function) bs) (sym (as_long subjects ms bs h))
      ∙ tables_are_functions function bs

  -- where all bear "before", the values are those from before; and likewise with "after"
  pub before_values : {X : Type 0} (net : X → NetId) (xs : List X) (ms : List Mark) (bs : List Bool)
      → AreTrue (map (λ x. Net (net x)) xs) ms bs → all_before ms ≡ true → bs ≡ map (λ x. v.net (net x).place) xs
  before_values net [] ms bs h = ended (λ ms bs. all_before ms ≡ true → bs ≡ []) (λ a. refl) ms bs h
  before_values net (x ∷ xs) ms bs h =
      first_and_rest (Net (net x)) (map (λ x. Net (net x)) xs) (λ ms bs. all_before ms ≡ true → bs ≡ v.net (net x).place ∷ map (λ x. v.net (net x).place) xs)
      (λ m ms b bs t rest a.
      ap (λ (c : Bool). c ∷ bs) (t.before (left _ _ a)) ∙ ap (λ cs. v.net (net x).place ∷ cs) (before_values net xs ms bs rest (right _ _ a)))
      ms bs h

  pub after_values : {X : Type 0} (net : X → NetId) (xs : List X) (ms : List Mark) (bs : List Bool)
      → AreTrue (map (λ x. Net (net x)) xs) ms bs → all_after ms ≡ true → bs ≡ map (λ x. w.net (net x).place) xs
  after_values net [] ms bs h = ended (λ ms bs. all_after ms ≡ true → bs ≡ []) (λ a. refl) ms bs h
  after_values net (x ∷ xs) ms bs h =
      first_and_rest (Net (net x)) (map (λ x. Net (net x)) xs) (λ ms bs. all_after ms ≡ true → bs ≡ w.net (net x).place ∷ map (λ x. w.net (net x).place) xs)
      (λ m ms b bs t rest a.
      ap (λ (c : Bool). c ∷ bs) (t.after (left _ _ a)) ∙ ap (λ cs. w.net (net x).place ∷ cs) (after_values net xs ms bs rest (right _ _ a)))
      ms bs h
