-- What the program answers for a step or a test of the definition.
-- The rule is told in docs/FORMATS.md, "Faults of flattening".
use Rattle.std.specs.Prelude.{◌≡◌, ◌≢◌, Some, None, Result, Ok, Err}
use Rattle.module_bits.specs.declared.sized.BitsFault.{BitsFault}
use Rattle.module_bits.specs.declared.sized.BitsFault.TheVariants as bits
use Rattle.flattening.specs.declared.fault.ElabFault.{ElabFault}
use Rattle.flattening.specs.declared.fault.ElabFault.TheVariants.{NoMemory, WidthDiffers}
use Rattle.flattening.specs.declared.made.Made.{Made}
use Rattle.flattening.specs.Faults.{fault_of}
use Rattle.flattening.specs.Steps.{Step, Test}

-- the answer of what does a step: where it is that all is there, the step made this; and a fault is that of the step, unless
-- memory is wanting
abbrev pub Does : {X : Type 0} → Step → Made → Made → Result X ElabFault → Type 0
Does step old new (Ok x) = step old ≡ Ok new
Does step old new (Err fault) = fault ≢ NoMemory → step old ≡ Err fault

-- the answer to a test with a value: no fault, and the value; or the fault, unless memory is wanting
abbrev pub Finds : {X : Type 0} → Test → X → Result X ElabFault → Type 0
Finds test value (Ok found) = (test ≡ None) × (found ≡ value)
Finds test value (Err fault) = fault ≢ NoMemory → test ≡ Some fault

-- the fault of an expression as one of the text
abbrev pub told_as : BitsFault → ElabFault
told_as (bits.Refused cause at) = fault_of cause at
told_as (bits.WidthDiffers at) = WidthDiffers at
told_as bits.NoMemory = NoMemory
