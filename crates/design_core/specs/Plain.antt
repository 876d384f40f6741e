-- The plain designs: gates `buf` and `not` alone, and nothing constant that is read.
-- The rule is told in docs/FORMATS.md, "The design".
use Rattle.std.specs.Prelude.{◌≡◌, ◌≢◌, ◌⊎◌, ℕ, Bool, Some, [], ◌∷◌, slice_get, Contains}
use Rattle.id_arena.specs.declared.keys.NetId.{NetId}
use Rattle.design_core.specs.declared.operation.Op.{Op}
use Rattle.design_core.specs.declared.operation.Op.TheVariants.{Buf, Not}
use Rattle.design_core.specs.declared.element.Element.{Element}
use Rattle.design_core.specs.declared.element.Element.TheVariants as element
use Rattle.design_core.specs.declared.element.Driver.TheVariants.{Constant}
use Rattle.design_core.specs.declared.parts.Parts.{Parts}
use Rattle.design_core.specs.Design.{driver, port_bits}

-- a gate that passes or inverts one value
abbrev pub IsPlainOp : Op → Type 0
IsPlainOp op = (op ≡ Buf) ⊎ (op ≡ Not)

-- no constant drives the net
abbrev pub IsNoConstant : Parts → NetId → Type 0
IsNoConstant p n = (b : Bool) → driver p n.place ≢ Constant b

-- a `buf` or `not` of one net that no constant drives
abbrev pub IsPlainElement : Parts → Element → Type 0
IsPlainElement p (element.Gate op inputs output) =
    IsPlainOp op × ((n : NetId) × (inputs ≡ n ∷ []) × IsNoConstant p n)
IsPlainElement p other = ⊥

-- every element is plain, there is no memory, and no constant drives a bit of an output port
pub record IsPlain (p : Parts) : Type 0 where
  pub elements : (k : ℕ) (e : Element) → slice_get p.elements k ≡ Some e → IsPlainElement p e
  pub memories : p.memories ≡ []
  pub outputs : (n : NetId) → Contains (port_bits p.outputs) n → IsNoConstant p n
