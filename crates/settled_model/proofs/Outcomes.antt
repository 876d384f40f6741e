-- What a pass gives is the opened valuation, or the one after an event.
use Rattle.std.proofs.Common.{◌≡◌, ◌<◌, ◌+◌, ◌^◌, ℕ, zero, suc, Bool, true, false, List, [], ◌∷◌, replicate, length, get_or, refl, sym, ap, subst, ◌∙◌, if◌then◌else◌, arith}
use Rattle.std.specs.Prelude.{◌==◌, ◌||◌, ◌&&◌, Option, Some, None, IfNone, is_some, slice_get, slice_index, unwrap_or, Contains}
use Rattle.std.specs.List.{list_any, list_all}
use Rattle.std.proofs.lemmas.Option.{slice_get-get_or, same_Some}
use Rattle.id_arena.specs.declared.keys.NetId.{NetId}
use Rattle.id_arena.specs.declared.keys.ElemId.{ElemId}
use Rattle.design_core.specs.declared.element.Edge.{Edge}
use Rattle.design_core.specs.declared.element.Element.{Element}
use Rattle.design_core.specs.declared.element.Element.TheVariants as element
use Rattle.design_core.specs.declared.element.Memory.{Memory}
use Rattle.design_core.specs.declared.element.ReadPort.{ReadPort}
use Rattle.design_core.specs.declared.element.WritePort.{WritePort}
use Rattle.design_core.specs.declared.element.Driver.{Driver}
use Rattle.design_core.specs.declared.element.Driver.TheVariants.{Input, Elem, Read}
use Rattle.design_core.specs.declared.node.NodeId.{NodeId}
use Rattle.design_core.specs.declared.node.NodeId.TheVariants.{Net, Write}
use Rattle.design_core.specs.declared.parts.Parts.{Parts}
use Rattle.design_core.specs.declared.values.PortBit.{PortBit}
use Rattle.design_core.specs.Design.{IsDesign, net_count, driver, drives, includes, is_net, port_bits}
use Rattle.design_core.specs.Faults.{is_there}
use Rattle.design_core.specs.Valuation.{Valuation, addressed_bit, forced, has_edge, passed}
use Rattle.design_core.specs.Settled.{ConstantsHold, ReadsHold, IsReadBit, ElementHolds, HasState, ReadsOpened, IsOpened}
use Rattle.design_core.specs.Limits.{word_count}
use Rattle.design_core.specs.Event.{given, written, ElementFollows, ClockedReadsFollow, IsAfter}
use Rattle.facts.proofs.Lists.{any_at}
use Rattle.facts.proofs.Tests.{no, same_number, number_same}
use Rattle.history_law.proofs.Naming.{element_is_driver, input_bit_is_input, read_bit_is_driver}
use Rattle.history_law.proofs.Following.{shown as held}
use Rattle.history_law.proofs.Equations.{Same}
use Rattle.settled_model.specs.declared.turn.Turn.{Turn}
use Rattle.settled_model.specs.declared.turn.Turn.TheVariants.{Opening, Event}
use Rattle.settled_model.specs.declared.opening.Opening.{Opening as Start}
use Rattle.settled_model.specs.declared.opening.OpenWord.{OpenWord}
use Rattle.settled_model.specs.Held.{shown, holding, first_word, word_in}
use Rattle.settled_model.specs.Clocked.{AreClocked, HasTaken, clock_of, is_clocked, port_among, port_of, taken_value, word_bit}
use Rattle.settled_model.specs.Opening.{AreInputs, is_among, word_given, stands_for}
use Rattle.settled_model.specs.Passing.{bit_value, driver_value, element_value, value_at, is_state, is_state_at, AreRenewed, HasPut, HasSet, HasWords}
use Rattle.settled_model.proofs.Ranges.{there}
use Rattle.settled_model.proofs.Passes.{gives_same}

-- ## Nets that are given values are there

module _ (p : Parts) (d : IsDesign p) where
  input_there : (n : NetId) → Contains (port_bits p.inputs) n → is_there (net_count p) n ≡ true
  input_there n has =
      let at : slice_get (port_bits p.inputs) has.0 ≡ Some n = slice_get-get_or (port_bits p.inputs) has.0 n has.1 ∙ ap Some has.2 in
      let among : includes (port_bits p.inputs) n.place ≡ true = any_at (is_net n.place) (port_bits p.inputs) has.0 n at (same_number n.place n.place refl) in
      there p n (input_bit_is_input p n.place d among).0

  each_there : (values : List PortBit) → AreInputs p values → list_all (λ b. is_there (net_count p) b.net) values ≡ true
  each_there [] h = refl
  each_there (b ∷ bs) h =
      let low : 0 < length (b ∷ bs) = omega arith in
      ap (λ t. t && list_all (λ b. is_there (net_count p) b.net) bs) (input_there b.net (h b (0, low, refl)))
      ∙ each_there bs (λ c has. h c (later c has))
    where
      later : (c : PortBit) → Contains bs c → Contains (b ∷ bs) c
      later c has =
          let less : has.0 < length bs = has.1 in
          let more : suc has.0 < length (b ∷ bs) = omega arith in
          (suc has.0, more, has.2)

  pub inputs_there : (values slice : List PortBit) (size : ℕ) → AreInputs p values → slice ≡ values → size ≡ net_count p → list_all (λ b. is_there size b.net) slice ≡ true
  inputs_there values slice size h same count =
      ap (λ (k : ℕ). list_all (λ b. is_there k b.net) slice) count
      ∙ ap (list_all (λ b. is_there (net_count p) b.net)) same
      ∙ each_there values h

-- what is put is told of the same values and the same table
pub put_in : (values slice : List PortBit) (old copy new : List Bool) → slice ≡ values → copy ≡ old → HasPut slice copy new → HasPut values old new
put_in values slice old copy new same like h =
    subst (λ vs. HasPut vs old new) same (subst (λ (xs : List Bool). HasPut slice xs new) like h)

pub words_in : (p q : Parts) (given slice : List OpenWord) (old copy new : List ℕ) → q ≡ p → slice ≡ given → copy ≡ old → HasWords q slice copy new → HasWords p given old new
words_in p q given slice old copy new part same like h =
    subst (λ (x : Parts). HasWords x given old new) part
    (subst (λ (ws : List OpenWord). HasWords q ws old new) same (subst (λ (xs : List ℕ). HasWords q slice xs new) like h))

pub set_in : (p q : Parts) (ones slice : List ElemId) (old copy new : List Bool) → q ≡ p → slice ≡ ones → copy ≡ old → HasSet q slice copy new → HasSet p ones old new
set_in p q ones slice old copy new part same like h =
    subst (λ (x : Parts). HasSet x ones old new) part
    (subst (λ (ids : List ElemId). HasSet q ids old new) same (subst (λ (xs : List Bool). HasSet q slice xs new) like h))

-- ## What a pass gives, by element and by read bit

-- a read bit is what drives its net, and its port is there
module _ (p : Parts) (d : IsDesign p) (m r b : ℕ) (port : ReadPort) (n : NetId) (h : IsReadBit p m r b port n) where
  pub bit_drives : (n.place < net_count p) × (driver p n.place ≡ Read (record { place = m }) r b)
  bit_drives = read_bit_is_driver p m r b h.memory port n d h.is_memory h.is_port h.is_bit

  pub port_is : port_of p m r ≡ Some port
  port_is = ap (port_among r) h.is_memory ∙ h.is_port

  pub clocked_is : (edge : Edge) → port.clock ≡ Some edge → is_clocked p (driver p n.place) ≡ true
  clocked_is edge e =
      ap (is_clocked p) bit_drives.1 ∙ ap (λ (o : Option ReadPort). is_some (clock_of o)) port_is ∙ ap is_some e

module _ (p : Parts) (d : IsDesign p) (turn : Turn) (old start : List Bool) (begun : List ℕ) (new : List Bool) (words : List ℕ) (made : AreRenewed p turn old start begun new words) where
  abbrev v : Valuation
  v = shown old

  abbrev w : Valuation
  w = holding p new words

  abbrev given_by : ℕ → Driver → Bool
  given_by n x = driver_value p turn (shown start).net (word_in p words) v w n x

  -- each net has what its driver gives, where words are told too
  told : (n : ℕ) → n < net_count p → w.net n ≡ given_by n (driver p n)
  told n small =
      made.nets n small ∙ gives_same p turn (shown start).net (word_in p words) v (shown new) w n (λ b has. same b)
    where
      same : (b : NodeId) → Same p (shown new) w b
      same (Net b) = refl
      same (Write m k) = λ memory port at in_port. refl

  pub constants_hold : ConstantsHold p w
  constants_hold n b small e = told n small ∙ ap (given_by n) e

  pub inputs_stay : (n : ℕ) → n < net_count p → driver p n ≡ Input → w.net n ≡ get_or start n false
  inputs_stay n small e = told n small ∙ ap (given_by n) e

  pub element_gives : (k n : ℕ) (e : Element) → slice_get p.elements k ≡ Some e → drives n e ≡ true → w.net n ≡ element_value turn v w e
  element_gives k n e at out =
      let h = element_is_driver p k n e d at out in
      told n h.0 ∙ ap (given_by n) h.1 ∙ ap (value_at turn v w) at

  pub bit_gives : (m r b : ℕ) (port : ReadPort) (n : NetId) → IsReadBit p m r b port n
      → w.net n.place ≡ bit_value turn (word_in p words m) v w n.place b (get_or start n.place false) (Some port) port.clock
  bit_gives m r b port n h =
      let driven = bit_drives p d m r b port n h in
      told n.place driven.0
      ∙ ap (given_by n.place) driven.1
      ∙ ap (λ (o : Option ReadPort). bit_value turn (word_in p words m) v w n.place b (get_or start n.place false) o (clock_of o)) (port_is p d m r b port n h)

  pub reads_hold : ReadsHold p w
  reads_hold m r b port n h none =
      bit_gives m r b port n h
      ∙ ap (bit_value turn (word_in p words m) v w n.place b (get_or start n.place false) (Some port)) none

-- ## After an event

module _ (p : Parts) (old : List Bool) (begun : List ℕ) where
  -- ports write the same where words are told too
  written_told : (new : List Bool) (words : List ℕ) (ports : List WritePort) (a x : ℕ) → written (shown old) (shown new) ports a x ≡ written (holding p old begun) (holding p new words) ports a x
  written_told new words [] a x = refl
  written_told new words (port ∷ ports) a x = written_told new words ports a _

module _ (p : Parts) (d : IsDesign p) (values : List PortBit) (old put start : List Bool) (begun : List ℕ) (new : List Bool) (words : List ℕ) (clocked : List NetId) (are : AreClocked p clocked)
    (puts : HasPut values old put) (taken : HasTaken p clocked (word_in p begun) (shown old) put start) (made : AreRenewed p Event old start begun new words) where
  follows : (k : ℕ) (e : Element) → slice_get p.elements k ≡ Some e → ElementFollows (holding p old begun) (holding p new words) e
  follows k (element.Gate op inputs output) at =
      element_gives p d Event old start begun new words made k output.place (element.Gate op inputs output) at (same_number output.place output.place refl)
  follows k (element.Flop f) at =
      element_gives p d Event old start begun new words made k f.q.place (element.Flop f) at (same_number f.q.place f.q.place refl)
  follows k (element.Latch l) at =
      element_gives p d Event old start begun new words made k l.q.place (element.Latch l) at (same_number l.q.place l.q.place refl)
  follows k (element.Memory m) at = tt

  -- what stands in the place of a bit of a read port with a clock is what it takes
  bit_taken : (m r b : ℕ) (port : ReadPort) (edge : Edge) (n : NetId) → IsReadBit p m r b port n → port.clock ≡ Some edge → get_or start n.place false ≡ addressed_bit (holding p old begun) m port b
  bit_taken m r b port edge n h e =
      let driven = bit_drives p d m r b port n h in
      taken.taken n (are.all n driven.0 (clocked_is p d m r b port n h edge e))
      ∙ ap (taken_value p (word_in p begun) (shown old)) driven.1
      ∙ ap (word_bit (word_in p begun m) (shown old) b) (port_is p d m r b port n h)

  clocked_follow : ClockedReadsFollow p (holding p old begun) (holding p new words)
  clocked_follow m r b port edge n h e =
      bit_gives p d Event old start begun new words made m r b port n h
      ∙ ap (bit_value Event (word_in p words m) (shown old) (holding p new words) n.place b (get_or start n.place false) (Some port)) e
      ∙ ap (λ x. if has_edge (shown old) (holding p new words) edge.net edge.rise then x else get_or old n.place false) (bit_taken m r b port edge n h e)

  pub after_event : IsAfter p (holding p old begun) values (holding p new words)
  after_event =
      record {
        constants = constants_hold p d Event old start begun new words made;
        inputs = λ n small e. inputs_stay p d Event old start begun new words made n small e ∙ taken.others n (ap (is_clocked p) e) ∙ puts.nets n;
        elements = follows;
        words = λ m a memory at address.
            let same : address.0 ≡ memory = same_Some address.0 memory (sym address.1 ∙ at) in
            let low : a < 2 ^ memory.address_bits = subst (λ (x : Memory). a < 2 ^ x.address_bits) same address.2 in
            made.words m a memory at low ∙ written_told p old begun new words memory.writes a (word_in p begun m a);
        reads = reads_hold p d Event old start begun new words made;
        clocked = clocked_follow;
      }

-- ## Opened

blank : (count n : ℕ) → get_or (replicate count false) n false ≡ false
blank zero n = refl
blank (suc count) zero = refl
blank (suc count) (suc n) = blank count n

any_same : (f g : ElemId → Bool) (ids : List ElemId) → ((id : ElemId) → f id ≡ g id) → list_any f ids ≡ list_any g ids
any_same f g [] h = refl
any_same f g (id ∷ ids) h = ap (λ b. b || list_any f ids) (h id) ∙ ap (λ b. g id || b) (any_same f g ids h)

state_drives : (n : ℕ) (e : Element) → is_state n e ≡ true → drives n e ≡ true
state_drives n (element.Gate op inputs output) h = no h
state_drives n (element.Flop f) h = h
state_drives n (element.Latch l) h = h
state_drives n (element.Memory m) h = no h

module _ (p : Parts) (d : IsDesign p) (k n : ℕ) (e : Element) (at : slice_get p.elements k ≡ Some e) (is : is_state n e ≡ true) where
  elem_place : (i j : ElemId) → Elem i ≡ Elem j → i.place ≡ j.place
  elem_place i j h = let same : i ≡ j = cc in ap (λ (x : ElemId). x.place) same

  -- no other element has the net as its output
  this_one : (j : ℕ) (x : Element) → slice_get p.elements j ≡ Some x → is_state n x ≡ true → j ≡ k
  this_one j x here h =
      let one = element_is_driver p j n x d here (state_drives n x h) in
      let other = element_is_driver p k n e d at (state_drives n e is) in
      elem_place (record { place = j }) (record { place = k }) (sym one.1 ∙ other.1)

  named : (id : ElemId) → is_state_at n (slice_get p.elements id.place) ≡ (id.place == k)
  named id = go (id.place == k) refl
    where
      state : (o : Option Element) → slice_get p.elements id.place ≡ o → (id.place == k) ≡ false → is_state_at n o ≡ false
      state None here f = refl
      state (Some x) here f = deeper (is_state n x) refl
        where
          deeper : (b : Bool) → is_state n x ≡ b → is_state n x ≡ false
          deeper false h = h
          deeper true h = no (sym f ∙ same_number id.place k (this_one id.place x here h))

      go : (b : Bool) → (id.place == k) ≡ b → is_state_at n (slice_get p.elements id.place) ≡ b
      go true f =
          ap (λ (j : ℕ). is_state_at n (slice_get p.elements j)) (number_same id.place k f) ∙ ap (is_state_at n) at ∙ is
      go false f = state (slice_get p.elements id.place) refl f

  pub state_is : (ones : List ElemId) (states : List Bool) (count : ℕ) → HasSet p ones (replicate count false) states → get_or states n false ≡ is_among ones k
  state_is ones states count set =
      set.nets n
      ∙ ap (λ b. b || list_any (λ (id : ElemId). is_state_at n (slice_get p.elements id.place)) ones) (blank count n)
      ∙ any_same (λ id. is_state_at n (slice_get p.elements id.place)) (λ id. id.place == k) ones named

free : (o : Option Bool) (x d : Bool) → x ≡ unwrap_or o d → IfNone o (x ≡ d)
free None x d e = e
free (Some b) x d e = tt

-- a net that no flip-flop or latch has as its output is none of those that are set
none_set : (n : ℕ) (elements : List Element) (ids : List ElemId) → ((k : ℕ) (e : Element) → slice_get elements k ≡ Some e → is_state n e ≡ false) → list_any (λ (id : ElemId). is_state_at n (slice_get elements id.place)) ids ≡ false
none_set n elements [] h = refl
none_set n elements (id ∷ ids) h =
    ap (λ b. b || list_any (λ (one : ElemId). is_state_at n (slice_get elements one.place)) ids) (state (slice_get elements id.place) refl)
    ∙ none_set n elements ids h
  where
    state : (o : Option Element) → slice_get elements id.place ≡ o → is_state_at n o ≡ false
    state None here = refl
    state (Some e) here = h id.place e here

no_word : (count n : ℕ) → slice_index (replicate count 0) n ≡ 0
no_word zero n = refl
no_word (suc count) zero = refl
no_word (suc count) (suc n) = no_word count n

module _ (p : Parts) (o : Start) (states start : List Bool) (begun : List ℕ) (new : List Bool) (words : List ℕ) (d : IsDesign p)
    (set : HasSet p o.ones (replicate (net_count p) false) states) (put : HasPut o.inputs (replicate (net_count p) false) start)
    (told : HasWords p o.words (replicate (word_count p) 0) begun) (made : AreRenewed p Opening states start begun new words) where
  abbrev opened_values : Valuation
  opened_values = holding p new words

  output_gives : (k n : ℕ) (e : Element) → slice_get p.elements k ≡ Some e → drives n e ≡ true → opened_values.net n ≡ element_value Opening (shown states) opened_values e
  output_gives = element_gives p d Opening states start begun new words made

  holds : (k : ℕ) (e : Element) → slice_get p.elements k ≡ Some e → ElementHolds opened_values e
  holds k (element.Gate op inputs output) at =
      output_gives k output.place (element.Gate op inputs output) at (same_number output.place output.place refl)
  holds k (element.Flop f) at =
      held (forced f.clear f.preset opened_values) (opened_values.net f.q.place) (get_or states f.q.place false)
      (output_gives k f.q.place (element.Flop f) at (same_number f.q.place f.q.place refl))
  holds k (element.Latch l) at =
      held (passed l opened_values) (opened_values.net l.q.place) (get_or states l.q.place false)
      (output_gives k l.q.place (element.Latch l) at (same_number l.q.place l.q.place refl))
  holds k (element.Memory m) at = tt

  has_state : (k : ℕ) (e : Element) → slice_get p.elements k ≡ Some e → HasState opened_values (is_among o.ones k) e
  has_state k (element.Gate op inputs output) at = tt
  has_state k (element.Flop f) at =
      free (forced f.clear f.preset opened_values) _ _
      (output_gives k f.q.place (element.Flop f) at (same_number f.q.place f.q.place refl)
      ∙ ap (unwrap_or (forced f.clear f.preset opened_values)) (state_is p d k f.q.place (element.Flop f) at (same_number f.q.place f.q.place refl) o.ones states (net_count p) set))
  has_state k (element.Latch l) at =
      free (passed l opened_values) _ _
      (output_gives k l.q.place (element.Latch l) at (same_number l.q.place l.q.place refl)
      ∙ ap (unwrap_or (passed l opened_values)) (state_is p d k l.q.place (element.Latch l) at (same_number l.q.place l.q.place refl) o.ones states (net_count p) set))
  has_state k (element.Memory m) at = tt

  -- no element has the net of a read bit as its output
  not_state : (m r b : ℕ) (port : ReadPort) (n : NetId) → IsReadBit p m r b port n → (k : ℕ) (e : Element) → slice_get p.elements k ≡ Some e → is_state n.place e ≡ false
  not_state m r b port n h k e at = go (is_state n.place e) refl
    where
      go : (t : Bool) → is_state n.place e ≡ t → is_state n.place e ≡ false
      go false is = is
      go true is =
          absurd
          (differs
          (sym (bit_drives p d m r b port n h).1
          ∙ (element_is_driver p k n.place e d at (state_drives n.place e is)).1))
        where
          differs : Read (record { place = m }) r b ≡ Elem (record { place = k }) → ⊥
          differs same = cc

  reads_opened : ReadsOpened p (stands_for o) opened_values
  reads_opened m r b port edge n h e =
      bit_gives p d Opening states start begun new words made m r b port n h
      ∙ ap (bit_value Opening (word_in p words m) (shown states) opened_values n.place b (get_or start n.place false) (Some port)) e
      ∙ set.nets n.place
      ∙ ap (λ x. x || list_any (λ (id : ElemId). is_state_at n.place (slice_get p.elements id.place)) o.ones) (blank (net_count p) n.place)
      ∙ none_set n.place p.elements o.ones (not_state m r b port n h)

  pub opened : IsOpened p (stands_for o) opened_values
  opened =
      record {
        settled = record {
          constants = constants_hold p d Opening states start begun new words made;
          elements = holds;
          reads = reads_hold p d Opening states start begun new words made;
        };
        inputs = λ n small e. inputs_stay p d Opening states start begun new words made n small e ∙ put.nets n ∙ ap (unwrap_or (given o.inputs n)) (blank (net_count p) n);
        words = λ m a address.
            made.words m a address.0 address.1 address.2
            ∙ told.words m a address
            ∙ ap (unwrap_or (word_given o.words m a)) (no_word (word_count p) (first_word p m + a));
        states = has_state;
        reads = reads_opened;
      }
