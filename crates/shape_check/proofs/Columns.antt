-- The tables that are told by columns are those of the functions, pin by pin.
use Rattle.std.proofs.Common.{◌≡◌, ℕ, Bool, true, false, List, [], ◌∷◌, Option, None, Some, refl}
use Rattle.std.specs.Prelude.{slice_index_or, bit_and, bit_or, bit_xor}
use Rattle.id_arena.specs.declared.keys.NetId.{NetId}
use Rattle.design_core.specs.declared.element.Level.{Level}
use Rattle.design_core.specs.declared.element.Flop.{Flop}
use Rattle.design_core.specs.declared.element.Latch.{Latch}
use Rattle.emu_machine.specs.Origins.{latch_function, next_function, take_function}
use Rattle.shape_check.specs.Tables.{acting, acts, behind, held_by, reset_inputs, table}

abbrev masks : List ℕ
masks = 1 ∷ 3 ∷ 15 ∷ 255 ∷ 65535 ∷ 4294967295 ∷ []

abbrev at : NetId → Bool → Level
at n h = record { net = n; high = h }

abbrev pub IsTake : Flop → Type 0
IsTake f =
    bit_and (slice_index_or masks (reset_inputs 1 f.clear f.preset) 0)
    (bit_or (bit_or 2863311530 (acts f.clear 3435973836)) (acts f.preset (behind f.clear 3435973836 4042322160)))
    ≡ table (reset_inputs 1 f.clear f.preset) (take_function f)

abbrev pub IsNext : Flop → Type 0
IsNext f =
    bit_and (slice_index_or masks (reset_inputs 1 f.clear f.preset) 0)
    (held_by (acts f.clear 3435973836) (acts f.preset (behind f.clear 3435973836 4042322160)) 2863311530)
    ≡ table (reset_inputs 1 f.clear f.preset) (next_function f)

abbrev pub IsLatch : Latch → Type 0
IsLatch l =
    bit_and (slice_index_or masks (reset_inputs 3 l.clear l.preset) 0)
    (held_by (acts l.clear 4278255360) (acts l.preset (behind l.clear 4278255360 4294901760))
    (bit_or (bit_and (acting l.gate 2863311530) 3435973836) (bit_and (bit_xor (acting l.gate 2863311530) 4294967295) 4042322160)))
    ≡ table (reset_inputs 3 l.clear l.preset) (latch_function l)

module _ (k : NetId) (r : Bool) (d q : NetId) where
  abbrev flop : Option Level → Option Level → Flop
  flop clear preset = record { clock = k; rise = r; feed = d; clear = clear; preset = preset; q = q }

  take_one : (n : NetId) (h : Bool) → IsTake (flop (Some (at n h)) None)
  take_one n true = refl
  take_one n false = refl

  take_other : (n : NetId) (h : Bool) → IsTake (flop None (Some (at n h)))
  take_other n true = refl
  take_other n false = refl

  take_both : (n m : NetId) (h j : Bool) → IsTake (flop (Some (at n h)) (Some (at m j)))
  take_both n m true true = refl
  take_both n m true false = refl
  take_both n m false true = refl
  take_both n m false false = refl

  take_any : (clear preset : Option Level) → IsTake (flop clear preset)
  take_any None None = refl
  take_any (Some a) None = take_one a.net a.high
  take_any None (Some b) = take_other b.net b.high
  take_any (Some a) (Some b) = take_both a.net b.net a.high b.high

  next_one : (n : NetId) (h : Bool) → IsNext (flop (Some (at n h)) None)
  next_one n true = refl
  next_one n false = refl

  next_other : (n : NetId) (h : Bool) → IsNext (flop None (Some (at n h)))
  next_other n true = refl
  next_other n false = refl

  next_both : (n m : NetId) (h j : Bool) → IsNext (flop (Some (at n h)) (Some (at m j)))
  next_both n m true true = refl
  next_both n m true false = refl
  next_both n m false true = refl
  next_both n m false false = refl

  next_any : (clear preset : Option Level) → IsNext (flop clear preset)
  next_any None None = refl
  next_any (Some a) None = next_one a.net a.high
  next_any None (Some b) = next_other b.net b.high
  next_any (Some a) (Some b) = next_both a.net b.net a.high b.high

pub take_is : (f : Flop) → IsTake f
take_is f = take_any f.clock f.rise f.feed f.q f.clear f.preset

pub next_is : (f : Flop) → IsNext f
next_is f = next_any f.clock f.rise f.feed f.q f.clear f.preset

module _ (g d q : NetId) where
  abbrev latch : Bool → Option Level → Option Level → Latch
  latch h clear preset = record { gate = at g h; feed = d; clear = clear; preset = preset; q = q }

  latch_none : (h : Bool) → IsLatch (latch h None None)
  latch_none true = refl
  latch_none false = refl

  latch_one : (g h : Bool) (n : NetId) → IsLatch (latch g (Some (at n h)) None)
  latch_one true true n = refl
  latch_one true false n = refl
  latch_one false true n = refl
  latch_one false false n = refl

  latch_other : (g h : Bool) (n : NetId) → IsLatch (latch g None (Some (at n h)))
  latch_other true true n = refl
  latch_other true false n = refl
  latch_other false true n = refl
  latch_other false false n = refl

  latch_both : (g h j : Bool) (n m : NetId) → IsLatch (latch g (Some (at n h)) (Some (at m j)))
  latch_both true true true n m = refl
  latch_both true true false n m = refl
  latch_both true false true n m = refl
  latch_both true false false n m = refl
  latch_both false true true n m = refl
  latch_both false true false n m = refl
  latch_both false false true n m = refl
  latch_both false false false n m = refl

  latch_any : (h : Bool) (clear preset : Option Level) → IsLatch (latch h clear preset)
  latch_any h None None = latch_none h
  latch_any h (Some a) None = latch_one h a.high a.net
  latch_any h None (Some b) = latch_other h b.high b.net
  latch_any h (Some a) (Some b) = latch_both h a.high b.high a.net b.net

pub latch_is : (l : Latch) → IsLatch l
latch_is l = latch_any l.gate.net l.feed l.q l.gate.high l.clear l.preset
