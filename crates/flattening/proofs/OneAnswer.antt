-- What is given has one answer, and design bytes and cell bytes stand for one design.
use Rattle.std.proofs.Common.{◌≡◌, ◌≢◌, ◌<◌, ◌∙◌, ℕ, true, false, List, Result, Ok, Err, refl, sym, ap, subst, arith}
use Rattle.std.specs.Prelude.{◌==◌}
use Rattle.std.proofs.lemmas.Bool.{and_parts, eqb-true}
use Rattle.id_arena.specs.declared.keys.NetId.{NetId}
use Rattle.design_core.specs.declared.parts.Parts.{Parts}
use Rattle.design_core.specs.Design.{driver_count, includes, net_count, nets_read}
use Rattle.design_core.specs.Faults.{IsLeastTwice, IsLeastUndriven, IsTwice, IsUndriven, is_undriven}
use Rattle.design_core.specs.Tables.{IsSound}
use Rattle.module_nets.specs.Names.{Name}
use Rattle.module_bits.specs.Bits.{net_at}
use Rattle.flattening.specs.declared.fault.ElabFault.{ElabFault}
use Rattle.flattening.specs.declared.fault.ElabFault.TheVariants as fault
use Rattle.flattening.specs.Flattening.{flattened}
use Rattle.flattening.specs.Laws.{EachTreeHasOneAnswer}
use Rattle.flattening.specs.Places.{Given}
use Rattle.flattening.specs.Stands.{Answers}
use Rattle.flattening.proofs.OneName.{one_name}

-- the least net with two drivers is one net
one_twice : (p : Parts) (n m : ℕ) → IsLeastTwice p n → IsLeastTwice p m → n ≡ m
one_twice p n m a b =
    let low : (m < n → ⊥) = λ less. omega (arith, a.earlier m less, b.here) in
    let high : (n < m → ⊥) = λ less. omega (arith, b.earlier n less, a.here) in
    omega (arith, low, high)

-- and so is the least that is read and has none
one_undriven : (p : Parts) (n m : ℕ) → IsLeastUndriven p n → IsLeastUndriven p m → n ≡ m
one_undriven p n m a b =
    let low : (m < n → ⊥) = λ less. (let none : is_undriven p m ≡ false = a.earlier m less in let some : is_undriven p m ≡ true = b.here in cc) in
    let high : (n < m → ⊥) = λ less. (let none : is_undriven p n ≡ false = b.earlier n less in let some : is_undriven p n ≡ true = a.here in cc) in
    omega (arith, low, high)

-- a number of a net is the net
same_net : (n m : NetId) → n.place ≡ m.place → n ≡ m
same_net n m same = ap net_at same

-- what building answers of sound parts, of parts with a net driven twice, and of parts with a net that is not driven
data Late (p : Parts) : Result Parts ElabFault → Type 0 where
  design : (d : Parts) → d ≡ p → IsSound p → Late p (Ok d)
  twice : (net : NetId) (name : List ℕ) → IsTwice p net.place name → Late p (Err (fault.TwoDrivers net name))
  undriven : (net : NetId) (name : List ℕ) → IsUndriven p net.place name → Late p (Err (fault.Undriven net name))

-- either flattening has a fault, or building answers
data Told (g : Given) (top : Name) : Result Parts ElabFault → Type 0 where
  early : (why : ElabFault) → flattened g top ≡ Err why → Told g top (Err why)
  late : (p : Parts) (answer : Result Parts ElabFault) → flattened g top ≡ Ok p → Late p answer → Told g top answer

told : (g : Given) (top : Name) (answer : Result Parts ElabFault) → answer ≢ Err fault.NoMemory → Answers g top answer → Told g top answer
told g top (Ok d) free says = Told.late says.parts (Ok d) says.flat (Late.design d says.built.0 says.built.1)
told g top (Err fault.NoTop) free says = Told.early fault.NoTop says
told g top (Err (fault.NameTwice at)) free says = Told.early (fault.NameTwice at) says
told g top (Err (fault.UnknownModule at)) free says = Told.early (fault.UnknownModule at) says
told g top (Err (fault.Recursive at)) free says = Told.early (fault.Recursive at) says
told g top (Err (fault.PortCount at)) free says = Told.early (fault.PortCount at) says
told g top (Err (fault.NoPort at)) free says = Told.early (fault.NoPort at) says
told g top (Err (fault.PortTwice at)) free says = Told.early (fault.PortTwice at) says
told g top (Err (fault.WidthDiffers at)) free says = Told.early (fault.WidthDiffers at) says
told g top (Err (fault.BadIndex at)) free says = Told.early (fault.BadIndex at) says
told g top (Err (fault.NotDeclared at)) free says = Told.early (fault.NotDeclared at) says
told g top (Err (fault.Limit which at)) free says = Told.early (fault.Limit which at) says
told g top (Err (fault.TwoDrivers net name)) free says = Told.late says.parts (Err (fault.TwoDrivers net name)) says.flat (Late.twice net name says.built)
told g top (Err (fault.Undriven net name)) free says = Told.late says.parts (Err (fault.Undriven net name)) says.flat (Late.undriven net name says.built)
told g top (Err fault.NoMemory) free says = absurd (free refl)

-- a design has no net with two drivers, and no net that is read and has none
sound_once : (p : Parts) (n : ℕ) → IsSound p → 1 < driver_count p n → ⊥
sound_once p n sound more =
    let within : n < net_count p = sound.design.in_range n (omega (arith, more)) in
    omega (arith, sound.design.one_driver n within, more)

sound_driven : (p : Parts) (n : ℕ) → IsSound p → is_undriven p n ≡ true → ⊥
sound_driven p n sound bad =
    let both = and_parts (includes (nets_read p) n) (driver_count p n == 0) bad in
    let driven = sound.design.driven n both.0 in
    let none : driver_count p n ≡ 0 = eqb-true (driver_count p n) 0 both.1 in
    omega (arith, driven.1, none)

-- two nets that are the same, and their names
same_twice : (p : Parts) (n m : NetId) (one other : List ℕ) → IsTwice p n.place one → IsTwice p m.place other → (n ≡ m) × (one ≡ other)
same_twice p n m one other a b =
    let same : n.place ≡ m.place = one_twice p n.place m.place a.net b.net in
    (same_net n m same, one_name p n.place m.place one other same a.text b.text)

same_undriven : (p : Parts) (n m : NetId) (one other : List ℕ) → IsUndriven p n.place one → IsUndriven p m.place other → (n ≡ m) × (one ≡ other)
same_undriven p n m one other a b =
    let same : n.place ≡ m.place = one_undriven p n.place m.place a.net b.net in
    (same_net n m same, one_name p n.place m.place one other same a.text b.text)

same_late : (p : Parts) (a b : Result Parts ElabFault) → Late p a → Late p b → a ≡ b
same_late p a b (Late.design d is sound) (Late.design e is-2 sound-2) = ap Ok (is ∙ sym is-2)
same_late p a b (Late.design d is sound) (Late.twice net name why) = absurd (sound_once p net.place sound why.net.here)
same_late p a b (Late.design d is sound) (Late.undriven net name why) = absurd (sound_driven p net.place sound why.net.here)
same_late p a b (Late.twice net name why) (Late.design d is sound) = absurd (sound_once p net.place sound why.net.here)
same_late p a b (Late.twice net name why) (Late.twice net-2 name-2 why-2) =
    let same = same_twice p net net-2 name name-2 why why-2 in
    ap (λ n. Err (fault.TwoDrivers n name)) same.0 ∙ ap (λ t. Err (fault.TwoDrivers net-2 t)) same.1
same_late p a b (Late.twice net name why) (Late.undriven net-2 name-2 why-2) = absurd (omega (arith, why.net.here, why-2.once net.place))
same_late p a b (Late.undriven net name why) (Late.design d is sound) = absurd (sound_driven p net.place sound why.net.here)
same_late p a b (Late.undriven net name why) (Late.twice net-2 name-2 why-2) = absurd (omega (arith, why-2.net.here, why.once net-2.place))
same_late p a b (Late.undriven net name why) (Late.undriven net-2 name-2 why-2) =
    let same = same_undriven p net net-2 name name-2 why why-2 in
    ap (λ n. Err (fault.Undriven n name)) same.0 ∙ ap (λ t. Err (fault.Undriven net-2 t)) same.1

same_told : (g : Given) (top : Name) (a b : Result Parts ElabFault) → Told g top a → Told g top b → a ≡ b
same_told g top a b (Told.early why is) (Told.early why-2 is-2) = sym is ∙ is-2
same_told g top a b (Told.early why is) (Told.late p answer is-2 says) = absurd (let clash : Err why ≡ Ok p = sym is ∙ is-2 in cc)
same_told g top a b (Told.late p answer is says) (Told.early why is-2) = absurd (let clash : Err why ≡ Ok p = sym is-2 ∙ is in cc)
same_told g top a b (Told.late p answer is says) (Told.late q answer-2 is-2 says-2) =
    let flat : Ok p ≡ Ok q = sym is ∙ is-2 in
    let same : p ≡ q = cc in
    same_late q answer answer-2 (subst (λ x. Late x answer) same says) says-2

pub one_answer : EachTreeHasOneAnswer
one_answer g top a b free-a free-b says-a says-b = same_told g top a b (told g top a free-a says-a) (told g top b free-b says-b)
