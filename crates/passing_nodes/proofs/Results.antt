-- What holds of a result.
use Rattle.std.specs.Prelude.{Result, Ok, Err, OnOk}
use Rattle.ck_base.specs.declared.refusal.NoMemory.{NoMemory}

pub on_ok : {V : Type 0} (r : Result V NoMemory) (P Q : Type 0) → (P → Q) → OnOk r P → OnOk r Q
on_ok (Ok v) P Q f h = f h
on_ok (Err e) P Q f h = tt

pub on_both : {V : Type 0} (r : Result V NoMemory) (P Q : Type 0) → OnOk r P → OnOk r Q → OnOk r (P × Q)
on_both (Ok v) P Q p q = (p, q)
on_both (Err e) P Q p q = tt
