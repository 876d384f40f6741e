-- What the refusals of a design text say.
use Rattle.std.proofs.Common.{ℕ, List, Err}
use Rattle.flattening.specs.declared.fault.ElabFault.{ElabFault}
use Rattle.flattening.specs.declared.fault.ElabFault.TheVariants as elab
use Rattle.flattening.specs.Places.{Given}
use Rattle.flattening.specs.Stands as flat
use Rattle.case_texts.specs.Faults.{design_refusal}
use Rattle.emu_app.specs.Reading.{DesignMeans}

-- a fault that flattening tells is that of what is given
pub design_means : (g : Given) (top : List ℕ) (fault : ElabFault) → flat.Answers g top (Err fault) → DesignMeans g top (Err (design_refusal fault))
design_means g top elab.NoTop answers = answers
design_means g top (elab.NameTwice at) answers = answers
design_means g top (elab.UnknownModule at) answers = answers
design_means g top (elab.Recursive at) answers = answers
design_means g top (elab.PortCount at) answers = answers
design_means g top (elab.NoPort at) answers = answers
design_means g top (elab.PortTwice at) answers = answers
design_means g top (elab.WidthDiffers at) answers = answers
design_means g top (elab.BadIndex at) answers = answers
design_means g top (elab.NotDeclared at) answers = answers
design_means g top (elab.Limit which at) answers = answers
design_means g top (elab.TwoDrivers net name) answers = answers
design_means g top (elab.Undriven net name) answers = answers
design_means g top elab.NoMemory answers = tt
