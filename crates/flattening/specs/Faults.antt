-- Tests of declarations and expressions.
-- The rule is told in docs/FORMATS.md, "Faults of flattening".
use Rattle.std.specs.Prelude.{ℕ, if◌then◌else◌, Option, Some, None, List, Result, Ok, Err, length, map, option_map, take}
use Rattle.std.specs.List.{enumerate_from}
use Rattle.id_arena.specs.declared.keys.NetId.{NetId}
use Rattle.verilog_tree.specs.declared.source.Expr.{Expr}
use Rattle.verilog_tree.specs.declared.source.Module.{Module}
use Rattle.design_core.specs.declared.fault.LimitKind.TheVariants as limit
use Rattle.module_nets.specs.declared.fault.Cause.{Cause}
use Rattle.module_nets.specs.declared.fault.Cause.TheVariants as cause
use Rattle.module_nets.specs.declared.mention.Mention.{Mention}
use Rattle.module_nets.specs.Declarations.{cause_at}
use Rattle.module_nets.specs.Names.{is_among}
use Rattle.module_nets.specs.Nets.{counted_in}
use Rattle.module_bits.specs.declared.sized.BitsFault.{BitsFault}
use Rattle.module_bits.specs.declared.sized.BitsFault.TheVariants as bits_fault
use Rattle.module_bits.specs.Bits.{bits}
use Rattle.module_bits.specs.Sized.{sized_meaning}
use Rattle.flattening.specs.declared.fault.ElabFault.{ElabFault}
use Rattle.flattening.specs.declared.fault.ElabFault.TheVariants as fault
use Rattle.flattening.specs.Places.{Given, Inside, context_of, module_names, name_in, start_in}
use Rattle.flattening.specs.Steps.{Test}

-- the fault of a cause, at this byte
abbrev pub fault_of : Cause → ℕ → ElabFault
fault_of cause.NotDeclared at = fault.NotDeclared at
fault_of cause.NameTwice at = fault.NameTwice at
fault_of cause.BadIndex at = fault.BadIndex at
fault_of cause.Width at = fault.Limit limit.Width at

-- a module must not have the name of an earlier one
abbrev pub module_test : Given → ℕ → Module → Test
module_test g k m =
    if is_among (take k (module_names g)) (name_in g m.name) then Some (fault.NameTwice (start_in g m.name)) else None

-- all modules of the text, entered or not
abbrev pub module_tests : Given → List Test
module_tests g = map (λ (k, m). module_test g k m) (enumerate_from 0 g.modules)

-- the declarations of a module, in the order of its text; at one name first `NotDeclared`, then `NameTwice`, then the width
abbrev pub mention_test : Given → List Mention → ℕ → Mention → Test
mention_test g ms k mention = option_map (λ c. fault_of c (start_in g mention.token)) (cause_at (name_in g) ms k)

-- each of them, from the first on
abbrev pub mention_tests : Given → List Mention → List Test
mention_tests g ms = map (λ (k, mention). mention_test g ms k mention) (enumerate_from 0 ms)

-- those of them that count
abbrev pub declaration_tests : Given → Module → List Test
declaration_tests g m = mention_tests g (counted_in g.source g.tokens m)

-- an expression that has what is asked has no fault; else its fault is told as it is
abbrev pub sized_test : Result (List NetId) BitsFault → Test
sized_test (Ok nets) = None
sized_test (Err (bits_fault.Refused c at)) = Some (fault_of c at)
sized_test (Err (bits_fault.WidthDiffers at)) = Some (fault.WidthDiffers at)
sized_test (Err bits_fault.NoMemory) = None

-- a whole expression: first the names that are no nets, then the selects, then too many bits, then the width that is asked,
-- where one is
abbrev pub expression_test : Given → Inside → Option ℕ → Expr → Test
expression_test g here asked e = sized_test (sized_meaning (context_of g here) asked e)

-- the bits of an expression, from bit 0 on, and how many they are
abbrev pub bits_here : Given → Inside → Expr → List NetId
bits_here g here e = bits (context_of g here) e

-- how many bits an expression has
abbrev pub width_here : Given → Inside → Expr → ℕ
width_here g here e = length (bits_here g here e)
