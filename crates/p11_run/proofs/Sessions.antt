-- The fault of a session, and the ending that it is.
use Rattle.std.proofs.Common.{◌≡◌, Result, Ok, Err, refl, ap, subst}
use Rattle.p11_panel.specs.declared.script.SessionFault.{SessionFault}
use Rattle.p11_run.specs.declared.ending.Cause.{Cause}
use Rattle.p11_run.specs.declared.ending.Cause.TheVariants as causes

fault_in : {T : Type 0} → SessionFault → Result T Cause → SessionFault
fault_in other (Err (causes.Session fault)) = fault
fault_in other _ = other

pub not_ok : {T E : Type 0} (v : T) (e : E) → ◌≡◌ {A = Result T E} (Ok v) (Err e) → ⊥
not_ok v e h = cc

pub same_err : {T E : Type 0} (e f : E) → e ≡ f → ◌≡◌ {A = Result T E} (Err e) (Err f)
same_err {T} {E} e f h = subst (λ (x : E). ◌≡◌ {A = Result T E} (Err e) (Err x)) h refl

-- the fault of an ending is the session's
pub fault_is : {T : Type 0} (fault other : SessionFault) → ◌≡◌ {A = Result T Cause} (Err (causes.Session fault)) (Err (causes.Session other)) → fault ≡ other
unfolding fault_in
fault_is fault other e = ap (fault_in other) e
