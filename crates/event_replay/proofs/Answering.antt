-- What a value has, where there is one, gives what it has besides.
use Rattle.std.proofs.Common.{Result, Ok, Err, IfOk}

pub if_ok : {A E : Type 0} (P Q : A → Type 0) (r : Result A E) → ((v : A) → P v → Q v) → IfOk r P → IfOk r Q
if_ok P Q (Ok value) there here = there value here
if_ok P Q (Err fault) there here = tt
