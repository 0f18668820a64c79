-- Weaker statements about a result, from stronger ones.
use Rattle.std.proofs.Common.{Result, Ok, Err}
pub use Rattle.std.proofs.lemmas.Result.{IfOk-weaker as if_ok_map}
use Rattle.std.specs.Result.{OnErr, OnOk}

pub on_err : {T E : Type 0} (r : Result T E) (P : Type 0) → P → OnErr r P
on_err (Ok x) P p = tt
on_err (Err x) P p = p

pub on_ok_then : {T E : Type 0} (r : Result T E) (P Q : Type 0) → (P → Q) → OnOk r P → OnOk r Q
on_ok_then (Ok x) P Q f p = f p
on_ok_then (Err x) P Q f p = tt
