-- What actions give to nets.
use Rattle.std.proofs.Common.{◌≡◌, ◌<◌, ◌≤◌, ◌+◌, ℕ, suc, Bool, true, false, cond, List, [], ◌∷◌, ◌++◌, take, get_or, length, refl, sym, ap, subst, ◌∙◌, inl, inr, arith, if◌then◌else◌}
use Rattle.std.specs.Prelude.{◌==◌, ◌&&◌, ◌⊎◌, nat_lt, Option, Some, None, All, slice_get, option_map, option_and_then, position, IfSome, not}
use Rattle.std.specs.List.{position_or_len}
use Rattle.std.specs.Option.{option_or}
use Rattle.std.proofs.lemmas.Bool.{cases_eq}
use Rattle.std.proofs.lemmas.Bool.Decides.{nat_tests}
use Rattle.std.proofs.lemmas.List.Elements.{All-head, All-tail}
use Rattle.std.proofs.lemmas.List.{take_more, take_all}
use Rattle.std.proofs.lemmas.Option.{slice_get_within, get_or_from_slice_get}
use Rattle.id_arena.specs.declared.keys.ChipNetId.{ChipNetId}
use Rattle.id_arena.specs.declared.keys.ChipId.{ChipId}
use Rattle.id_arena.specs.declared.keys.NetId.{NetId}
use Rattle.id_arena.specs.declared.keys.RegId.{RegId}
use Rattle.id_arena.specs.declared.keys.WireId.{WireId}
use Rattle.id_arena.specs.declared.wire.Wire.{Wire}
use Rattle.emu_machine.specs.Building.{IsRegisterOf}
use Rattle.design_core.specs.declared.node.NodeId.{NodeId}
use Rattle.emu_machine.specs.declared.netlist.EmuRegister.{EmuRegister}
use Rattle.emu_machine.specs.declared.schedule.Action.{Action}
use Rattle.emu_machine.specs.declared.schedule.Action.TheVariants.{Input, Load, Send}
use Rattle.emu_machine.specs.Results.{Results}
use Rattle.emu_machine.specs.Netlist.{chip_at, is_chip_net}
use Rattle.emu_machine.specs.State.{on_register}
use Rattle.emu_machine.specs.Marks.{Mark, MarkState, no_mark, only_after, load_mark, arriving_mark, action_mark, net_mark, net_marks, has_some, after_if}
use Rattle.facts.proofs.Tests.{number_same}
use Rattle.frame_marks.specs.declared.tables.Given.{Given}
use Rattle.frame_marks.specs.Frames.{FrameState, mark_in}
use Rattle.frame_marks.specs.Tables.{IsStart, marks_in}
use Rattle.frame_marks.specs.Takes.{given_in, HasMore, GivesOne, GivesAll, AreFree, IsFree, bits_take}
use Rattle.frame_marks.proofs.Gifts.{or_assoc, or_none, first_more, given_append, one_more, all_one}

is_less : (a b : ℕ) → a < b → nat_lt a b ≡ true
is_less a b h = grind (arith, nat_tests)

pub is_other : (a b : ℕ) → (a ≡ b → ⊥) → (a == b) ≡ false
is_other a b other = go (a == b) refl
  where
    go : (x : Bool) → (a == b) ≡ x → x ≡ false
    go true e = absurd (other (number_same a b e))
    go false e = refl

-- marks for one net of one chip
abbrev pub net_gift : ChipId → ℕ → Mark → Given Mark
net_gift chip net mark = record { chip = chip; place = net; what = mark }

-- ## Registers

module _ (r : Results) (chip : ChipId) (number : ℕ) (register : EmuRegister) (at : slice_get (chip_at r.net chip.place).registers number ≡ Some register) where
  abbrev reading : (EmuRegister → Option Mark) → ℕ → Option EmuRegister → Option Mark
  reading gives n o = option_and_then (λ one. if is_chip_net n one.q then gives one else None) o

  on_is : (gives : EmuRegister → Option Mark) (c n : ℕ)
      → on_register r.net chip.place number gives c n ≡ (if chip.place == c then (if register.q.place == n then gives register else None) else None)
  on_is gives c n = go (cases_eq c chip.place)
    where
      go : (c ≡ chip.place) ⊎ (c ≡ chip.place → ⊥)
          → on_register r.net chip.place number gives c n ≡ (if chip.place == c then (if register.q.place == n then gives register else None) else None)
      go (inl same) =
          ap (λ (k : ℕ). on_register r.net chip.place number gives k n) same
          ∙ ap (λ o. if chip.place == chip.place then reading gives n o else None) at
          ∙ ap (λ (k : ℕ). if chip.place == k then (if register.q.place == n then gives register else None) else None) (sym same)
      go (inr other) =
          ap (λ b. if b then reading gives n (slice_get (chip_at r.net c).registers number) else None) (is_other chip.place c (λ e. other (sym e)))
          ∙ sym (ap (λ b. if b then (if register.q.place == n then gives register else None) else None) (is_other chip.place c (λ e. other (sym e))))

  nested : (a b : Bool) (m : Mark) → (if a && b then Some m else None) ≡ (if a then (if b then Some m else None) else None)
  nested true b m = refl
  nested false b m = refl

  nothing : (a b : Bool) → None ≡ (if a then (if b then (let o : Option Mark = None in o) else None) else None)
  nothing true true = refl
  nothing true false = refl
  nothing false b = refl

  pub register_given : (gives : EmuRegister → Option Mark) (mark : Mark) → gives register ≡ Some mark
      → (before : List (Given Mark)) → HasMore (on_register r.net chip.place number gives) before (before ++ net_gift chip register.q.place mark ∷ [])
  register_given gives mark is before =
      one_more (on_register r.net chip.place number gives) before (net_gift chip register.q.place mark)
      (λ c n.
      nested (chip.place == c) (register.q.place == n) mark
      ∙ ap (λ o. if chip.place == c then (if register.q.place == n then o else None) else None) (sym is)
      ∙ sym (on_is gives c n))

-- ## What is read

pub loaded_same : (f g : ChipNetId → Mark) (nets : ℕ) (q : ChipNetId) (d enable : Option ChipNetId) → q.place < nets
    → IfSome d (λ n. n.place < nets) → IfSome enable (λ n. n.place < nets)
    → ((m : ChipNetId) → m.place < nets → f m ≡ g m) → load_mark f q d enable ≡ load_mark g q d enable
loaded_same f g nets q None enable in_q in_d in_e same = refl
loaded_same f g nets q (Some d) None in_q in_d in_e same = ap Some (same d in_d)
loaded_same f g nets q (Some d) (Some e) in_q in_d in_e same =
    ap (λ (m : Mark). Some (after_if (m.after && (f e).after && has_some (f q)))) (same d in_d)
    ∙ ap (λ (m : Mark). Some (after_if ((g d).after && m.after && has_some (f q)))) (same e in_e)
    ∙ ap (λ (m : Mark). Some (after_if ((g d).after && (g e).after && has_some m))) (same q in_q)

pub marks_same : (f : FrameState) (inside : NodeId → Bool) (s : MarkState) → IsStart inside s f → (c : ℕ) (nets : List ChipNetId)
    → All (λ n. n.place < (chip_at f.results.net c).nets) nets → marks_in f.chips c nets ≡ net_marks f.design f.results inside s c nets
marks_same f inside s start c [] there = refl
marks_same f inside s start c (n ∷ nets) there =
    ap (λ m. m ∷ marks_in f.chips c nets) (start.all c n.place (All-head (λ (n : ChipNetId). n.place < (chip_at f.results.net c).nets) n nets there))
    ∙ ap (λ ms. net_mark f.design f.results inside s c n.place ∷ ms) (marks_same f inside s start c nets (All-tail (λ (n : ChipNetId). n.place < (chip_at f.results.net c).nets) n nets there))

-- ## Bits of a read port

less_more : (m k : ℕ) (b : Bool) → nat_lt m k ≡ b → nat_lt (1 + m) (suc k) ≡ b
less_more m k true e = grind (arith, nat_tests, e)
less_more m k false e = grind (arith, nat_tests, e)

-- the first place of a list that begins with an item
first_place : {X : Type 0} (p : X → Bool) (x : X) (xs : List X) → position p (x ∷ xs) ≡ (if p x then Some 0 else option_map suc (position p xs))
first_place p x xs = go (p x) (nat_lt (position_or_len p xs) (length xs)) refl
  where
    go : (here less : Bool) → nat_lt (position_or_len p xs) (length xs) ≡ less
        → cond (nat_lt (cond {A = ℕ} (not here) (1 + position_or_len p xs) 0) (suc (length xs))) (Some (cond {A = ℕ} (not here) (1 + position_or_len p xs) 0)) None
        ≡ (if here then Some 0 else option_map suc (cond (nat_lt (position_or_len p xs) (length xs)) (Some (position_or_len p xs)) None))
    go true less e = ap (λ b. cond b (Some 0) None) (is_less 0 (suc (length xs)) (omega arith))
    go false true e =
        ap (λ b. cond b (Some (1 + position_or_len p xs)) None) (less_more (position_or_len p xs) (length xs) true e)
        ∙ ap Some (let next : 1 + position_or_len p xs ≡ suc (position_or_len p xs) = omega arith in next)
        ∙ sym (ap (λ b. option_map suc (cond b (Some (position_or_len p xs)) None)) e)
    go false false e =
        ap (λ b. cond b (Some (1 + position_or_len p xs)) None) (less_more (position_or_len p xs) (length xs) false e)
        ∙ sym (ap (λ b. option_map suc (cond b (Some (position_or_len p xs)) None)) e)

module _ (mark : Mark) (n : ℕ) where
  abbrev marked : List ChipNetId → Option Mark
  marked bits = option_map (λ b. mark) (position (is_chip_net n) bits)

  abbrev one_marked : ChipNetId → Option Mark
  one_marked net = if is_chip_net n net then Some mark else None

  marked_cons : (net : ChipNetId) (bits : List ChipNetId) → marked (net ∷ bits) ≡ option_or (one_marked net) (marked bits)
  marked_cons net bits =
      ap (option_map (λ b. mark)) (first_place (is_chip_net n) net bits) ∙ go (is_chip_net n net) (position (is_chip_net n) bits)
    where
      go : (b : Bool) (o : Option ℕ) → option_map (λ b. mark) (if b then Some 0 else option_map suc o) ≡ option_or (if b then Some mark else None) (option_map (λ b. mark) o)
      go true o = refl
      go false None = refl
      go false (Some k) = refl

  marked_append : (bits more : List ChipNetId) → marked (bits ++ more) ≡ option_or (marked bits) (marked more)
  marked_append [] more = refl
  marked_append (net ∷ bits) more =
      marked_cons net (bits ++ more)
      ∙ ap (option_or (one_marked net)) (marked_append bits more)
      ∙ sym (or_assoc (one_marked net) (marked bits) (marked more))
      ∙ sym (ap (λ o. option_or o (marked more)) (marked_cons net bits))

  marked_more : (bits : List ChipNetId) (k : ℕ) (net : ChipNetId) → slice_get bits k ≡ Some net → marked (take (k + 1) bits) ≡ option_or (marked (take k bits)) (one_marked net)
  marked_more bits k net at =
      ap marked (take_more bits k net (slice_get_within bits k net at) ∙ ap (λ last. take k bits ++ last ∷ []) (get_or_from_slice_get bits k net net at))
      ∙ marked_append (take k bits) (net ∷ [])
      ∙ ap (option_or (marked (take k bits))) (marked_cons net [] ∙ or_none (one_marked net))

-- one more bit takes the marks
pub bits_more : (chip : ChipId) (bits : List ChipNetId) (k : ℕ) (net : ChipNetId) (mark : Mark) → slice_get bits k ≡ Some net
    → (first before after : List (Given Mark)) → HasMore (bits_take chip.place (take k bits) mark) first before
    → after ≡ before ++ net_gift chip net.place mark ∷ [] → HasMore (bits_take chip.place (take (k + 1) bits) mark) first after
bits_more chip bits k net mark at first before after more is c n =
    ap (λ gs. given_in gs c n) is
    ∙ given_append before (net_gift chip net.place mark ∷ []) c n
    ∙ ap (λ o. option_or o (given_in (net_gift chip net.place mark ∷ []) c n)) (more c n)
    ∙ or_assoc (given_in first c n) (bits_take chip.place (take k bits) mark c n) (given_in (net_gift chip net.place mark ∷ []) c n)
    ∙ ap (option_or (given_in first c n)) (go (chip.place == c) ∙ ap (λ o. if chip.place == c then o else None) (sym (marked_more mark n bits k net at)))
  where
    go : (b : Bool)
        → option_or (if b then marked mark n (take k bits) else None) (if b && (net.place == n) then Some mark else None)
        ≡ (if b then option_or (marked mark n (take k bits)) (one_marked mark n net) else None)
    go true = refl
    go false = refl

-- ## Several actions

module _ (f : FrameState) (actions : List Action) where
  pub one_given : (k : ℕ) (a : Action) → slice_get actions k ≡ Some a → (before after : List (Given Mark))
      → GivesAll f (take k actions) before → GivesOne f a before after → GivesAll f (take (k + 1) actions) after
  one_given k a at before after all one inside s start c n =
      one inside s start c n
      ∙ ap (λ o. option_or o (action_mark f.design f.results f.wires inside s a c n)) (all inside s start c n)
      ∙ sym (first_more (λ a. action_mark f.design f.results f.wires inside s a c n) actions k a at)

pub all_given : (f : FrameState) (actions : List Action) (k : ℕ) → length actions ≤ k → (given : List (Given Mark)) → GivesAll f (take k actions) given → GivesAll f actions given
all_given f actions k whole given all =
    subst (λ some. GivesAll f some given) (take_all k actions whole) all

-- what is given to one more free net is free
pub one_free : (r : Results) (chip : ChipId) (net : ℕ) (mark : Mark) → IsFree r chip.place net → (before : List (Given Mark)) → AreFree r before
    → (after : List (Given Mark)) → after ≡ before ++ net_gift chip net mark ∷ [] → AreFree r after
one_free r chip net mark free before all after is =
    subst (λ some. AreFree r some) (sym is) (all_one (λ (g : Given Mark). IsFree r g.chip.place g.place) before (net_gift chip net mark) all free)

pub bits_free : (r : Results) (chip : ChipId) (bits : List ChipNetId) (k : ℕ) (d : ChipNetId) (mark : Mark) → k < length bits → All (λ n. IsFree r chip.place n.place) bits
    → (before : List (Given Mark)) → AreFree r before → (after : List (Given Mark)) → after ≡ before ++ net_gift chip (get_or bits k d).place mark ∷ [] → AreFree r after
bits_free r chip bits k d mark low free before all after is = one_free r chip (get_or bits k d).place mark (free k d low) before all after is

-- ## What each kind of action gives

module _ (f : FrameState) (chip : ChipId) (number : RegId) (register : EmuRegister) (at : slice_get (chip_at f.results.net chip.place).registers number.place ≡ Some register)
    (mark : Mark) (before after : List (Given Mark)) (is : after ≡ before ++ net_gift chip register.q.place mark ∷ []) where
  pub input_given : (net : NetId) → mark ≡ only_after → GivesOne f (Input chip number net) before after
  input_given net gives inside s start =
      subst (λ some. HasMore (action_mark f.design f.results f.wires inside s (Input chip number net)) before some) (sym is)
      (register_given f.results chip number.place register at (λ q. Some only_after) mark (ap Some (sym gives)) before)

  pub load_given : IsRegisterOf (chip_at f.results.net chip.place).nets register
      → Some mark ≡ load_mark (λ n. mark_in f.chips chip.place n.place) register.q register.d register.enable → GivesOne f (Load chip number) before after
  load_given there gives inside s start =
      subst (λ some. HasMore (action_mark f.design f.results f.wires inside s (Load chip number)) before some) (sym is)
      (register_given f.results chip number.place register at (λ q. load_mark (λ m. net_mark f.design f.results inside s chip.place m.place) q.q q.d q.enable) mark
      (sym (gives ∙ loaded_same (λ n. mark_in f.chips chip.place n.place) (λ m. net_mark f.design f.results inside s chip.place m.place)
      (chip_at f.results.net chip.place).nets register.q register.d register.enable there.q there.d there.enable (λ m low. start.all chip.place m.place low))) before)

pub send_given : (f : FrameState) (wire : WireId) (net : ChipNetId) (number : RegId) (ends : Wire) → slice_get f.wires wire.place ≡ Some ends
    → (register : EmuRegister) → slice_get (chip_at f.results.net ends.to.place).registers number.place ≡ Some register
    → net.place < (chip_at f.results.net ends.from.place).nets
    → (mark : Mark) → mark ≡ (if ends.latency == 1 then mark_in f.chips ends.from.place net.place else get_or f.carried wire.place no_mark)
    → (before after : List (Given Mark)) → after ≡ before ++ net_gift ends.to register.q.place mark ∷ [] → GivesOne f (Send wire net number) before after
send_given f wire net number ends here register at low mark gives before after is inside s start =
    subst (λ some. HasMore (action_mark f.design f.results f.wires inside s (Send wire net number)) before some) (sym is)
    (λ c n.
    register_given f.results ends.to number.place register at (λ q. Some (arriving_mark f.design f.results inside s ends wire.place net)) mark (ap Some (sym arrives)) before c n
    ∙ ap (option_or (given_in before c n))
    (sym (ap (option_and_then (λ (one : Wire). on_register f.results.net one.to.place number.place (λ q. Some (arriving_mark f.design f.results inside s one wire.place net)) c n)) here)))
  where
    arrives : mark ≡ arriving_mark f.design f.results inside s ends wire.place net
    arrives =
        gives
        ∙ ap (λ m. if ends.latency == 1 then m else get_or f.carried wire.place no_mark) (start.all ends.from.place net.place low)
        ∙ ap (λ m. if ends.latency == 1 then net_mark f.design f.results inside s ends.from.place net.place else m)
        (start.rest.carried wire.place (slice_get_within f.wires wire.place ends here))
