-- What is said where a call succeeds or fails, whichever it does.
use Rattle.std.specs.Prelude.{Result, Ok, Err, OnOk, OnErr}

pub on_ok : {T E : Type 0} (r : Result T E) (P : Type 0) → P → OnOk r P
on_ok (Ok x) P p = p
on_ok (Err e) P p = tt

pub on_err : {T E : Type 0} (r : Result T E) (P : Type 0) → P → OnErr r P
on_err (Ok x) P p = tt
on_err (Err e) P p = p

-- two facts of what went well give a third
pub ok_both : {T E : Type 0} (r : Result T E) (P Q R : Type 0) → (P → Q → R) → OnOk r P → OnOk r Q → OnOk r R
ok_both (Ok x) P Q R f p q = f p q
ok_both (Err e) P Q R f p q = tt
