-- Which fault of a group behind others comes.
use Rattle.std.proofs.Common.{◌≡◌, ℕ, ◌<◌, ◌≤◌, arith, Bool, true, false, List, [], ◌∷◌, length, refl, subst, sym, ap, ◌∙◌, IsTrue}
use Rattle.std.specs.Prelude.{◌==◌, ◌↔◌, nat_lt, if◌then◌else◌, Option, Some, None}
use Rattle.std.proofs.lemmas.Bool.{lt-ltb}
use Rattle.std.proofs.lemmas.Bool.Decides.{nat_tests}
use Rattle.facts.proofs.Tests.{no}
use Rattle.design_core.specs.declared.parts.Port.{Port}
use Rattle.domain_groups.specs.declared.fault.GroupFault.{GroupFault}
use Rattle.domain_groups.specs.declared.fault.GroupFault.TheVariants.{NameTaken, EmptyGroup, NoPort, PortTwice}
use Rattle.domain_groups.specs.declared.written.WrittenGroup.{WrittenGroup}
use Rattle.domain_groups.specs.Judged.{fault_behind, is_taken, some_earlier, some_unknown, ports_named, ports_of}
use Rattle.domain_groups.proofs.Placed.{unknown_is}

abbrev chain : Bool → Bool → Bool → Bool → GroupFault → GroupFault → GroupFault → GroupFault → Option GroupFault
chain a b c d f g h i = if a then Some f else (if b then Some g else (if c then Some h else (if d then Some i else None)))

last_chain : (a b c d : Bool) (f g h i : GroupFault) → a ≡ false → b ≡ false → c ≡ false → (if d then Some i else None) ≡ chain a b c d f g h i
last_chain true b c d f g h i x y z = no (sym x)
last_chain false true c d f g h i x y z = no (sym y)
last_chain false false true d f g h i x y z = no (sym z)
last_chain false false false d f g h i x y z = refl

third_chain : (a b c d : Bool) (f g h i : GroupFault) → a ≡ false → b ≡ false → c ≡ true → Some h ≡ chain a b c d f g h i
third_chain true b c d f g h i x y z = no (sym x)
third_chain false true c d f g h i x y z = no (sym y)
third_chain false false true d f g h i x y z = refl
third_chain false false false d f g h i x y z = no z

-- a list that is told not to be empty has a length that is not 0
pub not_empty : {X : Type 0} (xs : List X) (b : Bool) → (IsTrue b ↔ (xs ≡ [])) → b ≡ false → (length xs == 0) ≡ false
not_empty [] b told e = no (sym e ∙ told.1 refl)
not_empty (x ∷ xs) b told e = grind (arith, nat_tests)

pub not_less : (a b : ℕ) → b ≤ a → nat_lt a b ≡ false
not_less a b h = grind (arith, nat_tests)

module _ (ports : List Port) (earlier : List WrittenGroup) (group : WrittenGroup) (places : List ℕ) (named : places ≡ ports_named ports group.ports)
    (taken : is_taken earlier group.name ≡ false) (some : (length group.ports == 0) ≡ false) where
  pub unknown_port : length places < length group.ports → Some (NoPort (length earlier)) ≡ fault_behind ports earlier group
  unfolding fault_behind
  unknown_port less =
      let unknown : some_unknown ports group.ports ≡ true =
      sym (unknown_is ports group.ports) ∙ ap (λ (xs : List ℕ). nat_lt (length xs) (length group.ports)) (sym named) ∙ lt-ltb (length places) (length group.ports) less in
      third_chain (is_taken earlier group.name) (length group.ports == 0) (some_unknown ports group.ports) (some_earlier (ports_of ports earlier) (ports_named ports group.ports))
      (NameTaken (length earlier)) (EmptyGroup (length earlier)) (NoPort (length earlier)) (PortTwice (length earlier)) taken some unknown

  pub known_ports : length group.ports ≤ length places → (b : Bool) → b ≡ some_earlier (ports_of ports earlier) places
      → (if b then Some (PortTwice (length earlier)) else None) ≡ fault_behind ports earlier group
  unfolding fault_behind
  known_ports all b is =
      let known : some_unknown ports group.ports ≡ false =
      sym (unknown_is ports group.ports) ∙ ap (λ (xs : List ℕ). nat_lt (length xs) (length group.ports)) (sym named) ∙ not_less (length places) (length group.ports) all in
      ap (λ (c : Bool). if c then Some (PortTwice (length earlier)) else None) (is ∙ ap (some_earlier (ports_of ports earlier)) named)
      ∙ last_chain (is_taken earlier group.name) (length group.ports == 0) (some_unknown ports group.ports) (some_earlier (ports_of ports earlier) (ports_named ports group.ports))
      (NameTaken (length earlier)) (EmptyGroup (length earlier)) (NoPort (length earlier)) (PortTwice (length earlier)) taken some known
