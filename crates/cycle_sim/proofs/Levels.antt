-- Passes over the gates of all chips, and what their nets show.
use Rattle.std.proofs.Common.{◌≡◌, ◌<◌, ◌≤◌, ◌+◌, ℕ, zero, suc, Bool, true, false, cond, List, [], ◌∷◌, ◌++◌, drop, set, get_or, length, refl, sym, ap, subst, ◌∙◌, inl, inr, arith}
use Rattle.std.specs.Prelude.{◌==◌, ◌||◌, ◌⊎◌, Some, None, slice_get, option_map, is_some, find}
use Rattle.std.proofs.lemmas.Bool.{cases_eq}
use Rattle.std.proofs.lemmas.List.{map-set, length-append, length-map, length-set, get_or-set_same, get_or-set_other, drop_more}
use Rattle.std.proofs.lemmas.Option.{none-some, same_Some, slice_get-map, slice_get_within, slice_get-get_or, get_or_from_slice_get}
use Rattle.chip_pass.specs.Chips.{ChipState, ChipOthersWait, IsChipPass}
use Rattle.emu_machine.specs.declared.netlist.Chip.{Chip}
use Rattle.emu_machine.specs.declared.netlist.EmuGate.{EmuGate}
use Rattle.emu_machine.specs.Results.{Results}
use Rattle.emu_machine.specs.Netlist.{no_chip, chip_at, is_chip_net, gate_of, through_gates}
use Rattle.facts.proofs.Tests.{same_number}
use Rattle.cycle_sim.specs.Standing.{ChipStands}
use Rattle.cycle_sim.specs.Values.{gate_gives}
use Rattle.cycle_sim.specs.Passes.{rows_of, IsPassOf, ArePasses, ShowHeld, HasCaughtUp, AllCaughtUp, FirstCaughtUp, IsLevelPass, AreFirstPasses, is_driven}
use Rattle.cycle_sim.specs.Tables.{HaveSizes, AllShown}
use Rattle.cycle_sim.proofs.Counting.{is_other}
use Rattle.cycle_sim.proofs.Chips.{chip_here, chip_is, net_chip_low}
use Rattle.cycle_sim.proofs.Sources.{same_through}

-- ## Lists

pub at_set_same : {X : Type 0} (xs : List X) (k : ℕ) (x : X) → k < length xs → slice_get (set xs k x) k ≡ Some x
at_set_same xs k x low =
    let size : length (set xs k x) ≡ length xs = length-set xs k x in
    slice_get-get_or (set xs k x) k x (omega arith) ∙ ap Some (get_or-set_same xs k x x low)

pub at_set_other : {X : Type 0} (xs : List X) (k c : ℕ) (x : X) → (c ≡ k → ⊥) → slice_get (set xs k x) c ≡ slice_get xs c
at_set_other [] k c x other = refl
at_set_other (y ∷ ys) zero zero x other = absurd (other refl)
at_set_other (y ∷ ys) zero (suc c) x other = refl
at_set_other (y ∷ ys) (suc k) zero x other = refl
at_set_other (y ∷ ys) (suc k) (suc c) x other = at_set_other ys k c x (λ e. other (ap suc e))

-- ## Rows

no_state : ChipState Bool
no_state = record { chip = no_chip; order = []; pass = record { inputs = []; outputs = []; values = []; idle = [] } }

-- what the nets of a chip show
pub row_of : (passes : List (ChipState Bool)) (c : ℕ) (s : ChipState Bool) → slice_get passes c ≡ Some s → get_or (rows_of passes) c [] ≡ s.pass.values
row_of passes c s at =
    get_or_from_slice_get (rows_of passes) c s.pass.values []
    (slice_get-map (λ (s : ChipState Bool). s.pass.values) passes c ∙ ap (option_map (λ (s : ChipState Bool). s.pass.values)) at)

pub row_count : (passes : List (ChipState Bool)) → length (rows_of passes) ≡ length passes
row_count passes = length-map passes (λ (s : ChipState Bool). s.pass.values)

module _ (r : Results) (passes : List (ChipState Bool)) (are : ArePasses r passes) where
  -- the pass of a chip that is there
  pub pass_here : (c : ℕ) → c < length r.net → (s : ChipState Bool) × (slice_get passes c ≡ Some s)
  pass_here c low = (get_or passes c no_state, slice_get-get_or passes c no_state (omega (arith, low, are.count)))

  pub rows_fit : HaveSizes r (rows_of passes)
  rows_fit =
      record {
        count = row_count passes ∙ are.count;
        sizes = λ c chip at.
            let here = pass_here c (slice_get_within r.net c chip at) in
            let is : IsPassOf (chip_at r.net c) here.0 = are.each c here.0 here.1 in
            ap length (row_of passes c here.0 here.1)
            ∙ is.stands.nets
            ∙ ap (λ (k : Chip). k.nets) (is.is ∙ chip_is r.net c chip at);
      }

  -- one pass in the place of another over the same chip
  pub pass_put : (k : ℕ) (t : ChipState Bool) → k < length passes → IsPassOf (chip_at r.net k) t → ArePasses r (set passes k t)
  pass_put k t low is =
      record {
        count = length-set passes k t ∙ are.count;
        each = λ c s at. go c s at (cases_eq c k);
      }
    where
      go : (c : ℕ) (s : ChipState Bool) → slice_get (set passes k t) c ≡ Some s → (c ≡ k) ⊎ (c ≡ k → ⊥) → IsPassOf (chip_at r.net c) s
      go c s at (inl same) =
          let one : t ≡ s = same_Some t s (sym (at_set_same passes k t low) ∙ ap (slice_get (set passes k t)) (sym same) ∙ at) in
          subst (λ (n : ℕ). IsPassOf (chip_at r.net n) s) (sym same) (subst (IsPassOf (chip_at r.net k)) one is)
      go c s at (inr other) = are.each c s (sym (at_set_other passes k c t other) ∙ at)

-- ## Gates that wait have their turn

module _ (old : List (ChipState Bool)) where
  pub one_caught_up : (now after : List (ChipState Bool)) (k : ℕ) (s t : ChipState Bool) → k < length now → slice_get now k ≡ Some s → HasCaughtUp s t
      → after ≡ set now k t → FirstCaughtUp k old now → FirstCaughtUp (k + 1) old after
  one_caught_up now after k s t low at up put first =
      subst (FirstCaughtUp (k + 1) old) (sym put)
      (record {
        size = length-set now k t ∙ first.size;
        done = λ c a b less at_a at_b. go c a b less at_a at_b (cases_eq c k);
        rest = λ c less.
            let other : c ≡ k → ⊥ = λ e. omega (arith, e, less) in
            at_set_other now k c t other ∙ first.rest c (omega (arith, less));
      })
    where
      go : (c : ℕ) (a b : ChipState Bool) → c < k + 1 → slice_get old c ≡ Some a → slice_get (set now k t) c ≡ Some b → (c ≡ k) ⊎ (c ≡ k → ⊥) → HasCaughtUp a b
      go c a b less at_a at_b (inl same) =
          let new : t ≡ b = same_Some t b (sym (at_set_same now k t low) ∙ ap (slice_get (set now k t)) (sym same) ∙ at_b) in
          let was : s ≡ a = same_Some s a (sym at ∙ first.rest k (omega arith) ∙ ap (slice_get old) (sym same) ∙ at_a) in
          subst (λ x. HasCaughtUp x b) was (subst (HasCaughtUp s) new up)
      go c a b less at_a at_b (inr other) =
          first.done c a b (omega (arith, less, other)) at_a (sym (at_set_other now k c t other) ∙ at_b)

  pub all_caught_up : (now : List (ChipState Bool)) (count : ℕ) → length old ≤ count → FirstCaughtUp count old now → AllCaughtUp old now
  all_caught_up now count whole first =
      record {
        count = first.size;
        each = λ c s t at_s at_t.
            let low : c < length old = slice_get_within old c s at_s in
            first.done c s t (omega (arith, low, whole)) at_s at_t;
      }

module _ (r : Results) (old new : List (ChipState Bool)) (are : ArePasses r old) (up : AllCaughtUp old new) where
  pub still_passes : ArePasses r new
  still_passes =
      record {
        count = up.count ∙ are.count;
        each = λ c t at_t.
            let low : c < length new = slice_get_within new c t at_t in
            let here = pass_here r old are c (omega (arith, low, up.count, are.count)) in
            let is : IsPassOf (chip_at r.net c) here.0 = are.each c here.0 here.1 in
            let caught : HasCaughtUp here.0 t = up.each c here.0 t here.1 at_t in
            record { is = caught.settled.chip ∙ is.is; stands = caught.stands; others = caught.others };
      }

  -- a chip that is there, before and after
  record Caught (c : ℕ) : Type 0 where
    s : ChipState Bool
    t : ChipState Bool
    at_s : slice_get old c ≡ Some s
    at_t : slice_get new c ≡ Some t
    is : s.chip ≡ chip_at r.net c
    caught : HasCaughtUp s t

  caught_at : (c : ℕ) → c < length r.net → Caught c
  caught_at c low =
      let here = pass_here r old are c low in
      let there = pass_here r new still_passes c low in
      record {
        s = here.0;
        t = there.0;
        at_s = here.1;
        at_t = there.1;
        is = (are.each c here.0 here.1).is;
        caught = up.each c here.0 there.0 here.1 there.1;
      }

  -- nets that no gate drives show what they showed
  pub still_level : (held : List (List Bool)) → ShowHeld r held (rows_of old) → ShowHeld r held (rows_of new)
  still_level held level c n low free =
      let k : Caught c = caught_at c (net_chip_low r.net c n low) in
      ap (λ row. get_or row n false) (row_of new c k.t k.at_t)
      ∙ k.caught.settled.free n (subst (λ (chip : Chip). gate_of chip n ≡ None) (sym k.is) free)
      ∙ sym (ap (λ row. get_or row n false) (row_of old c k.s k.at_s))
      ∙ level c n low free

  -- and all nets show what comes to them
  pub now_shown : ((c : ℕ) (chip : Chip) → slice_get r.net c ≡ Some chip → ChipStands chip)
      → (held : List (List Bool)) → ShowHeld r held (rows_of old) → AllShown r held (rows_of new)
  now_shown chips held level =
      record {
        count = row_count new ∙ up.count ∙ are.count;
        each = λ c chip at.
            record {
              size = (rows_fit r new still_passes).sizes c chip at;
              each = shows c chip at;
            };
      }
    where
      shows : (c : ℕ) (chip : Chip) → slice_get r.net c ≡ Some chip → (n : ℕ) → n < chip.nets
          → get_or (get_or (rows_of new) c []) n false ≡ through_gates chip (λ k. get_or (get_or held c []) k false) gate_gives n
      shows c chip at n low =
          let k : Caught c = caught_at c (slice_get_within r.net c chip at) in
          let here : chip_at r.net c ≡ chip = chip_is r.net c chip at in
          let same : k.s.chip ≡ chip = k.is ∙ here in
          ap (λ row. get_or row n false) (row_of new c k.t k.at_t)
          ∙ k.caught.settled.through n (subst (λ (one : Chip). n < one.nets) (sym same) low)
          ∙ ap (λ (one : Chip). through_gates one (λ m. get_or k.s.pass.values m false) gate_gives n) same
          ∙ same_through chip (chips c chip at) (λ m. get_or k.s.pass.values m false) (λ m. get_or (get_or held c []) m false) gate_gives
          (λ m within free.
          sym (ap (λ row. get_or row m false) (row_of old c k.s k.at_s))
          ∙ level c m (subst (λ (one : Chip). m < one.nets) (sym here) within) (subst (λ (one : Chip). gate_of one m ≡ None) (sym here) free))
          n low

-- ## Nets that gates drive

driven_more : (gate : EmuGate) (gates : List EmuGate) (n : ℕ) → is_driven (gate ∷ gates) n ≡ (gate.output.place == n || is_driven gates n)
driven_more gate gates n = go (gate.output.place == n)
  where
    go : (b : Bool) → is_some (cond b (Some gate) (find (λ (g : EmuGate). is_chip_net n g.output) gates)) ≡ (b || is_driven gates n)
    go true = refl
    go false = refl

-- one more gate is told of: what is left to tell, on the new table, is what was left on the old one
pub one_gated : (gates : List EmuGate) (k : ℕ) (gate : EmuGate) → k < length gates → gate ≡ get_or gates k gate
    → (table after : List Bool) → gate.output.place < length table → after ≡ set table gate.output.place true
    → (n : ℕ) → (get_or after n false || is_driven (drop (k + 1) gates) n) ≡ (get_or table n false || is_driven (drop k gates) n)
one_gated gates k gate low is table after within put n =
    ap (λ t. get_or t n false || is_driven (drop (k + 1) gates) n) put
    ∙ go (cases_eq n gate.output.place)
    ∙ ap (λ b. get_or table n false || b) (sym (driven_more gate (drop (k + 1) gates) n))
    ∙ ap (λ gs. get_or table n false || is_driven gs n) (sym (drop_more gates k gate low ∙ ap (λ g. g ∷ drop (k + 1) gates) (sym is)))
  where
    or_true : (a b : Bool) → (true || b) ≡ (a || (true || b))
    or_true true b = refl
    or_true false b = refl

    go : (n ≡ gate.output.place) ⊎ (n ≡ gate.output.place → ⊥)
        → (get_or (set table gate.output.place true) n false || is_driven (drop (k + 1) gates) n)
        ≡ (get_or table n false || (gate.output.place == n || is_driven (drop (k + 1) gates) n))
    go (inl same) =
        ap (λ b. b || is_driven (drop (k + 1) gates) n)
        (ap (λ (m : ℕ). get_or (set table gate.output.place true) m false) same ∙ get_or-set_same table gate.output.place true false within)
        ∙ or_true (get_or table n false) (is_driven (drop (k + 1) gates) n)
        ∙ ap (λ b. get_or table n false || (b || is_driven (drop (k + 1) gates) n)) (sym (same_number gate.output.place n (sym same)))
    go (inr other) =
        ap (λ b. b || is_driven (drop (k + 1) gates) n) (get_or-set_other table gate.output.place n true false other)
        ∙ ap (λ b. get_or table n false || (b || is_driven (drop (k + 1) gates) n)) (sym (is_other gate.output.place n (λ e. other (sym e))))

-- ## Passes, chip by chip

at_push : {X : Type 0} (xs : List X) (last : X) (k : ℕ) (x : X) → slice_get (xs ++ last ∷ []) k ≡ Some x → (slice_get xs k ≡ Some x) ⊎ ((k ≡ length xs) × (last ≡ x))
at_push [] last zero x at = inr (refl, same_Some last x at)
at_push [] last (suc k) x at = absurd (none-some x at)
at_push (y ∷ xs) last zero x at = inl at
at_push {X} (y ∷ xs) last (suc k) x at = go (at_push xs last k x at)
  where
    go : (slice_get xs k ≡ Some x) ⊎ ((k ≡ length xs) × (last ≡ x)) → (slice_get xs k ≡ Some x) ⊎ ((suc k ≡ suc (length xs)) × (last ≡ x))
    go (inl here) = inl here
    go (inr (e, same)) = inr (ap suc e, same)

module _ (r : Results) (held : List (List Bool)) where
  -- one more chip has its pass
  pub one_pass : (k : ℕ) (passes : List (ChipState Bool)) (chip : Chip) → slice_get r.net k ≡ Some chip → (row : List Bool) → row ≡ get_or held k []
      → (s : ChipState Bool) → IsLevelPass chip row s → (after : List (ChipState Bool)) → after ≡ passes ++ s ∷ []
      → AreFirstPasses r held k passes → AreFirstPasses r held (k + 1) after
  one_pass k passes chip at row row_is s is after put first =
      subst (AreFirstPasses r held (k + 1)) (sym put)
      (record {
        count_is = length-append passes (s ∷ []) ∙ ap (λ (n : ℕ). n + 1) first.count_is;
        each = λ c t at_t. go c t (at_push passes s c t at_t);
      })
    where
      here : IsLevelPass (chip_at r.net k) (get_or held k []) s
      here =
          subst (λ (one : Chip). IsLevelPass one (get_or held k []) s) (sym (chip_is r.net k chip at))
          (subst (λ (bits : List Bool). IsLevelPass chip bits s) row_is is)

      go : (c : ℕ) (t : ChipState Bool) → (slice_get passes c ≡ Some t) ⊎ ((c ≡ length passes) × (s ≡ t)) → IsLevelPass (chip_at r.net c) (get_or held c []) t
      go c t (inl old) = first.each c t old
      go c t (inr (e, same)) =
          subst (λ (n : ℕ). IsLevelPass (chip_at r.net n) (get_or held n []) t) (sym (e ∙ first.count_is))
          (subst (IsLevelPass (chip_at r.net k) (get_or held k [])) same here)

  module _ (count : ℕ) (passes : List (ChipState Bool)) (whole : length r.net ≡ count) (first : AreFirstPasses r held count passes) where
    pub all_passes : ArePasses r passes
    all_passes = record { count = first.count_is ∙ sym whole; each = λ c s at. (first.each c s at).is_pass }

    pub all_level : ShowHeld r held (rows_of passes)
    all_level c n low free =
        let here = pass_here r passes all_passes c (net_chip_low r.net c n low) in
        ap (λ row. get_or row n false) (row_of passes c here.0 here.1) ∙ (first.each c here.0 here.1).level n low free

-- ## One net of one chip

module _ (r : Results) (passes : List (ChipState Bool)) (are : ArePasses r passes) (k j : ℕ) (same : j ≡ k) (low : k < length r.net) (d : ChipState Bool) where
  within : j < length passes
  within = omega (arith, same, low, are.count)

  at_j : slice_get passes j ≡ Some (get_or passes j d)
  at_j = slice_get-get_or passes j d within

  pub pass_near : IsPassOf (chip_at r.net k) (get_or passes j d)
  pass_near = subst (λ (n : ℕ). IsPassOf (chip_at r.net n) (get_or passes j d)) same (are.each j (get_or passes j d) at_j)

  -- the pass has let a net show a value
  module _ (t : ChipState Bool) (chip : t.chip ≡ (get_or passes j d).chip) (stands : IsChipPass t) (others : ChipOthersWait gate_gives false t) where
    pub near_put : ArePasses r (set passes j t)
    near_put =
        pass_put r passes are j t within
        (subst (λ (n : ℕ). IsPassOf (chip_at r.net n) t) (sym same) (record { is = chip ∙ pass_near.is; stands = stands; others = others }))

  pub rows_put : (t : ChipState Bool) (q : ℕ) (value : Bool) → t.pass.values ≡ set (get_or passes j d).pass.values q value
      → rows_of (set passes j t) ≡ set (rows_of passes) k (set (get_or (rows_of passes) k []) q value)
  rows_put t q value put =
      map-set (λ (s : ChipState Bool). s.pass.values) passes j t
      ∙ ap (set (rows_of passes) j) (put ∙ ap (λ row. set row q value) (sym (row_of passes j (get_or passes j d) at_j)))
      ∙ ap (λ (n : ℕ). set (rows_of passes) n (set (get_or (rows_of passes) n []) q value)) same

-- a net that is there has its place in the rows
module _ (r : Results) (passes : List (ChipState Bool)) (are : ArePasses r passes) (c n : ℕ) (low : n < (chip_at r.net c).nets) where
  pub chip_in_rows : c < length (rows_of passes)
  chip_in_rows =
      let there : c < length r.net = net_chip_low r.net c n low in
      let size : length (rows_of passes) ≡ length r.net = (rows_fit r passes are).count in
      omega (arith, there, size)

  pub net_in_rows : n < length (get_or (rows_of passes) c [])
  net_in_rows =
      let size : length (get_or (rows_of passes) c []) ≡ (chip_at r.net c).nets =
      (rows_fit r passes are).sizes c (chip_at r.net c) (chip_here r.net c (net_chip_low r.net c n low)) in
      omega (arith, low, size)
