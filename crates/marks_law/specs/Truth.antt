-- When a mark is true of the value that a net shows. The rule is told in docs/RULES.md, "Marks".
use Rattle.std.specs.Prelude.{◌≡◌, ◌<◌, ℕ, Bool, true, Option, Some, None}
use Rattle.id_arena.specs.declared.keys.NetId.{NetId}
use Rattle.design_core.specs.declared.node.NodeId.{NodeId}
use Rattle.design_core.specs.declared.parts.Parts.{Parts}
use Rattle.design_core.specs.Design.{net_count}
use Rattle.design_core.specs.Valuation.{Valuation}
use Rattle.emu_machine.specs.declared.map.Subject.{Subject}
use Rattle.emu_machine.specs.declared.map.Subject.TheVariants.{Net}
use Rattle.emu_machine.specs.Results.{Results}
use Rattle.emu_machine.specs.State.{State, net_value}
use Rattle.emu_machine.specs.Mapped.{subject, subject_value}
use Rattle.emu_machine.specs.Marks.{Mark, MarkState, net_mark}

-- a value is that of a subject before an event; only a net of the design has one, and of others nothing is said
abbrev pub IsBefore : Valuation → Subject → Bool → Type 0
IsBefore v (Net n) value = value ≡ v.net n.place
IsBefore v other value = Unit {0}

-- a mark is true of a value: it bears "before" only where the value is that from before the event, and
-- "after" only where it is the subject's value in the event
pub record MarkHolds (p : Parts) (v w : Valuation) (what : Subject) (m : Mark) (value : Bool) : Type 0 where
  pub before : m.before ≡ true → IsBefore v what value
  pub after : m.after ≡ true → value ≡ subject_value p v w what

-- the same of a net that may have no subject, of which nothing is said
abbrev pub IsTrueOf : Parts → Valuation → Valuation → Option Subject → Mark → Bool → Type 0
IsTrueOf p v w None m value = Unit {0}
IsTrueOf p v w (Some what) m value = MarkHolds p v w what m value

-- the marks of what registers and read ports hold are true of what they hold
abbrev pub SourcesTrue : Parts → Results → Valuation → Valuation → MarkState → State → Type 0
SourcesTrue p r v w s x = (chip net : ℕ) → IsTrueOf p v w (subject r chip net) (s.on chip net) (x.held chip net)

-- the marks of all nets are true of what they show
abbrev pub NetsTrue : Parts → Results → (NodeId → Bool) → Valuation → Valuation → MarkState → State → Type 0
NetsTrue p r inside v w s x =
    (chip net : ℕ) → IsTrueOf p v w (subject r chip net) (net_mark p r inside s chip net) (net_value r.net x chip net)

-- each net of a chip that stands for a net stands for one that the design has
abbrev pub SubjectsStand : Parts → Results → Type 0
SubjectsStand p r = (chip net : ℕ) (named : NetId) → subject r chip net ≡ Some (Net named) → named.place < net_count p
