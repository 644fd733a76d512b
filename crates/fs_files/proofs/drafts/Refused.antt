-- What an answer or a refusal says, another way; and a refusal that is passed on.
use Rattle.std.proofs.Common.{◌≡◌, Result, Err, arith}
use Rattle.std.specs.Prelude.{IfErr, OnOk}
use Rattle.std.specs.Result.{IsErrAnd}
use Rattle.std.proofs.lemmas.Bool.Decides.{nat_tests}

-- and two things that it says
pub ok_both : {T E P Q R : Type 0} (r : Result T E) → (P → Q → R) → OnOk r P → OnOk r Q → OnOk r R
ok_both r e h p = grind (arith, nat_tests)

-- what a refusal says, another way
pub err_maps : {T E : Type 0} {P Q : E → Type 0} (r : Result T E) → ((w : E) → P w → Q w) → IfErr r P → IfErr r Q
err_maps r e h = grind (arith, nat_tests)

pub passed_on : {T E : Type 0} (r : Result T E) (w : E) (P : E → Type 0) → IsErrAnd r (λ y. y ≡ w) → P w → IfErr r P
passed_on r w P e h = grind (arith, nat_tests)

-- one error is the other
pub same_error : {T E : Type 0} (r : Result T E) (w : E) (P : Result T E → Type 0) → IsErrAnd r (λ y. y ≡ w) → P (Err w) → P r
same_error r w P e h = grind (arith, nat_tests)
