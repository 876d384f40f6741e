-- A text has one answer: the answers of the reader exclude one another.
use Rattle.std.proofs.Common.{◌≡◌, ℕ, ◌<◌, true, false, List, length, Option, Some, None, Ok, Err, refl, sym, ap, subst, ◌∙◌, arith}
use Rattle.std.specs.Prelude.{option_and_then, codes}
use Rattle.std.proofs.lemmas.Option.{slice_get_within, same_Some}
use Rattle.serde_json.specs.Data.{Data}
use Rattle.serde_json.specs.Read.{read}
use Rattle.json_members.specs.JsonText.{IsTextOf, IsNoJson}
use Rattle.json_members.specs.Members.{each, array_member}
use Rattle.id_arena.specs.declared.wire.Wire.{Wire}
use Rattle.board_model.specs.declared.fault.BoardFault.TheVariants.{NotJson, BadShape, Version, Limit, BadWire, NoMemory}
use Rattle.id_arena.specs.BoardPlan.{BoardPlan}
use Rattle.board_model.specs.Sound.{IsWithinLimits, IsFirstBadWire, IsSound, joins}
use Rattle.board_model.specs.Form.{HasForm, is_known, wire_of}
use Rattle.board_model.specs.Answers.{Says, HasBadShape, HasOtherVersion, StandsFor, IsBeyondLimits, HasBadWire, EachTextHasOneAnswer}

same_tree : (bytes : List ℕ) (t u : Data) → IsTextOf bytes t → IsTextOf bytes u → t ≡ u
same_tree bytes t u a b = same_Some t u (sym a.reads ∙ b.reads)

same_version : (t : Data) (v w : ℕ) (p q : BoardPlan) → HasForm t v p → HasForm t w q → v ≡ w
same_version t v w p q a b = same_Some v w (sym a.version ∙ b.version)

abbrev plan : List ℕ → List Wire → ℕ → BoardPlan
plan rooms wires slots = record { rooms = rooms; wires = wires; slots = slots }

-- the wires of a tree in a version
abbrev wires_of : Data → ℕ → Option (List Wire)
wires_of t version = option_and_then (each (wire_of version)) (array_member (codes "wires") t)

same_plan : (t : Data) (v w : ℕ) (p q : BoardPlan) → HasForm t v p → HasForm t w q → p ≡ q
same_plan t v w p q a b =
    let rooms : p.rooms ≡ q.rooms = same_Some _ _ (sym a.chips ∙ b.chips) in
    let told : v ≡ w = same_version t v w p q a b in
    let wires : p.wires ≡ q.wires = same_Some _ _ (sym (subst (λ n. wires_of t n ≡ Some p.wires) told a.wires) ∙ b.wires) in
    let slots : p.slots ≡ q.slots = same_Some _ _ (sym a.slots ∙ b.slots) in
    ap (λ (r : List ℕ). plan r p.wires p.slots) rooms ∙ ap (λ (w : List Wire). plan q.rooms w p.slots) wires ∙ ap (plan q.rooms q.wires) slots

moved : (bytes : List ℕ) (t u : Data) (v : ℕ) (p : BoardPlan) → IsTextOf bytes t → IsTextOf bytes u → HasForm t v p → HasForm u v p
moved bytes t u v p a b h = subst (λ d. HasForm d v p) (same_tree bytes t u a b) h

says_same : (bytes : List ℕ) (p q : BoardPlan) → Says bytes p → Says bytes q → p ≡ q
says_same bytes p q a b =
    same_plan b.tree a.version b.version p q (moved bytes a.tree b.tree a.version p a.text b.text a.form) b.form

no_json : (bytes : List ℕ) (t : Data) → IsNoJson bytes → IsTextOf bytes t → ⊥
no_json bytes t n a = let e : read bytes ≡ None = n a.utf8 in let f : read bytes ≡ Some t = a.reads in cc

bad_shape : (bytes : List ℕ) (t : Data) (v : ℕ) (p : BoardPlan) → HasBadShape bytes → IsTextOf bytes t → HasForm t v p → ⊥
bad_shape bytes t v p s a h = s.shape v p (moved bytes t s.tree v p a s.text h)

other_version : (bytes : List ℕ) (p : BoardPlan) → HasOtherVersion bytes → Says bytes p → ⊥
other_version bytes p o s =
    let same : o.version ≡ s.version = same_version s.tree o.version s.version o.plan p (moved bytes o.tree s.tree o.version o.plan o.text s.text o.form) s.form in
    let known : is_known s.version ≡ true = s.known in
    let unknown : is_known s.version ≡ false = subst (λ v. is_known v ≡ false) same o.other in
    cc

beyond : (bytes : List ℕ) (p : BoardPlan) → IsBeyondLimits bytes → Says bytes p → IsWithinLimits p → ⊥
beyond bytes p b s w = b.beyond (subst IsWithinLimits (says_same bytes p b.plan s b.says) w)

bad_wire : (bytes : List ℕ) (k : ℕ) (p : BoardPlan) → HasBadWire bytes k → StandsFor bytes p → ⊥
bad_wire bytes k p h s =
    let e : h.plan ≡ p = says_same bytes h.plan p h.says s.says in
    let sound : IsSound h.plan = subst IsSound (sym e) s.sound in
    let good : joins (length h.plan.rooms) h.wire.wire ≡ true = sound.wires k h.wire.wire (slice_get_within h.plan.wires k h.wire.wire h.wire.here) h.wire.here in
    let bad : joins (length h.plan.rooms) h.wire.wire ≡ false = h.wire.bad in
    cc

first_is_first : (p : BoardPlan) (j k : ℕ) → IsFirstBadWire p j → IsFirstBadWire p k → j < k → ⊥
first_is_first p j k a b l =
    let good : joins (length p.rooms) a.wire ≡ true = b.earlier j a.wire l a.here in
    let bad : joins (length p.rooms) a.wire ≡ false = a.bad in
    cc

same_wire : (bytes : List ℕ) (j k : ℕ) → HasBadWire bytes j → HasBadWire bytes k → j ≡ k
same_wire bytes j k a b =
    let e : a.plan ≡ b.plan = says_same bytes a.plan b.plan a.says b.says in
    let w : IsFirstBadWire b.plan j = subst (λ p. IsFirstBadWire p j) e a.wire in
    let not_less : (j < k) → ⊥ = first_is_first b.plan j k w b.wire in
    let not_more : (k < j) → ⊥ = first_is_first b.plan k j b.wire w in
    omega arith

pub one_answer : EachTextHasOneAnswer
one_answer bytes (Err NoMemory) s m n a b = absurd (m refl)
one_answer bytes r (Err NoMemory) m n a b = absurd (n refl)
one_answer bytes (Ok p) (Ok q) m n a b = ap Ok (says_same bytes p q a.says b.says)
one_answer bytes (Ok p) (Err NotJson) m n a b = absurd (no_json bytes _ b a.says.text)
one_answer bytes (Ok p) (Err BadShape) m n a b = absurd (bad_shape bytes _ _ _ b a.says.text a.says.form)
one_answer bytes (Ok p) (Err Version) m n a b = absurd (other_version bytes _ b a.says)
one_answer bytes (Ok p) (Err Limit) m n a b = absurd (beyond bytes _ b a.says a.sound.limits)
one_answer bytes (Ok p) (Err (BadWire k)) m n a b = absurd (bad_wire bytes _ _ b a)
one_answer bytes (Err NotJson) (Ok p) m n a b = absurd (no_json bytes _ a b.says.text)
one_answer bytes (Err NotJson) (Err NotJson) m n a b = refl
one_answer bytes (Err NotJson) (Err BadShape) m n a b = absurd (no_json bytes _ a b.text)
one_answer bytes (Err NotJson) (Err Version) m n a b = absurd (no_json bytes _ a b.text)
one_answer bytes (Err NotJson) (Err Limit) m n a b = absurd (no_json bytes _ a b.says.text)
one_answer bytes (Err NotJson) (Err (BadWire k)) m n a b = absurd (no_json bytes _ a b.says.text)
one_answer bytes (Err BadShape) (Ok p) m n a b = absurd (bad_shape bytes _ _ _ a b.says.text b.says.form)
one_answer bytes (Err BadShape) (Err NotJson) m n a b = absurd (no_json bytes _ b a.text)
one_answer bytes (Err BadShape) (Err BadShape) m n a b = refl
one_answer bytes (Err BadShape) (Err Version) m n a b = absurd (bad_shape bytes _ _ _ a b.text b.form)
one_answer bytes (Err BadShape) (Err Limit) m n a b = absurd (bad_shape bytes _ _ _ a b.says.text b.says.form)
one_answer bytes (Err BadShape) (Err (BadWire k)) m n a b = absurd (bad_shape bytes _ _ _ a b.says.text b.says.form)
one_answer bytes (Err Version) (Ok p) m n a b = absurd (other_version bytes _ a b.says)
one_answer bytes (Err Version) (Err NotJson) m n a b = absurd (no_json bytes _ b a.text)
one_answer bytes (Err Version) (Err BadShape) m n a b = absurd (bad_shape bytes _ _ _ b a.text a.form)
one_answer bytes (Err Version) (Err Version) m n a b = refl
one_answer bytes (Err Version) (Err Limit) m n a b = absurd (other_version bytes _ a b.says)
one_answer bytes (Err Version) (Err (BadWire k)) m n a b = absurd (other_version bytes _ a b.says)
one_answer bytes (Err Limit) (Ok p) m n a b = absurd (beyond bytes _ a b.says b.sound.limits)
one_answer bytes (Err Limit) (Err NotJson) m n a b = absurd (no_json bytes _ b a.says.text)
one_answer bytes (Err Limit) (Err BadShape) m n a b = absurd (bad_shape bytes _ _ _ b a.says.text a.says.form)
one_answer bytes (Err Limit) (Err Version) m n a b = absurd (other_version bytes _ b a.says)
one_answer bytes (Err Limit) (Err Limit) m n a b = refl
one_answer bytes (Err Limit) (Err (BadWire k)) m n a b = absurd (beyond bytes _ a b.says b.limits)
one_answer bytes (Err (BadWire k)) (Ok p) m n a b = absurd (bad_wire bytes _ _ a b)
one_answer bytes (Err (BadWire k)) (Err NotJson) m n a b = absurd (no_json bytes _ b a.says.text)
one_answer bytes (Err (BadWire k)) (Err BadShape) m n a b = absurd (bad_shape bytes _ _ _ b a.says.text a.says.form)
one_answer bytes (Err (BadWire k)) (Err Version) m n a b = absurd (other_version bytes _ b a.says)
one_answer bytes (Err (BadWire k)) (Err Limit) m n a b = absurd (beyond bytes _ b a.says a.limits)
one_answer bytes (Err (BadWire j)) (Err (BadWire k)) m n a b =
    ap (λ (place : ℕ). Err (BadWire (record { place = place }))) (same_wire bytes j.place k.place a b)
