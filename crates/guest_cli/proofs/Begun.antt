-- What a debugger that was begun is, and why none was.
use Rattle.std.proofs.Common.{◌≡◌, List, ℕ, true, false, Result, Ok, Err, IfOk, IfErr, is_ok, subst}
use Rattle.std.proofs.lemmas.Bool.{false≢true}
use Rattle.run_paths.specs.declared.fault.RunFault.{RunFault}
use Rattle.guest_history.specs.declared.history.History.{History}
use Rattle.guest_cli.specs.declared.wrong.Wrong.{Wrong}
use Rattle.guest_cli.specs.Debugged.{IsWrongRun}

pub begun_so : {A B : History → Type 0} (had : Result History RunFault) (result : Result History Wrong)
    → ((begun : History) → A begun → B begun) → IfOk had A → IfOk result (λ begun. had ≡ Ok begun) → IfOk result B
begun_so had (Err why) more given same = tt
begun_so {A = A} had (Ok begun) more given same = more begun (subst (λ (it : Result History RunFault). IfOk it A) same given)

pub refused_so : {A : RunFault → Type 0} {B : Wrong → Type 0} (image : List ℕ) (had : Result History RunFault) (result : Result History Wrong)
    → ((fault : RunFault) → A fault → (why : Wrong) → IsWrongRun fault image why → B why)
    → IfErr had A → IfErr result (λ why. IfErr had (λ fault. IsWrongRun fault image why)) → is_ok result ≡ is_ok had → IfErr result B
refused_so image had (Ok begun) more given wrong same = tt
refused_so image (Err fault) (Err why) more given wrong same = more fault given why wrong
refused_so image (Ok begun) (Err why) more given wrong same = absurd (false≢true same)
