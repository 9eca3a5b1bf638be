-- An error that is not for want of memory is of a fault.
use Rattle.std.proofs.Common.{[], inl, inr, subst}
use Rattle.std.specs.Prelude.{◌≡◌, ◌≢◌}
use Rattle.clap.specs.Kinds.{HasKind, IsAmong, Kinds}
use Rattle.clap.specs.Values.{kind_of}
use Rattle.clap.specs.declared.error.Error.{Error}
use Rattle.clap.specs.declared.error.kind.ErrorKind.{ErrorKind}
use Rattle.clap.specs.declared.error.kind.ErrorKind.TheVariants as kind

pub has_fault : (kinds : Kinds) (error : Error) (told : ErrorKind) → told ≡ kind_of error → HasKind kinds error → told ≢ kind.OutOfMemory → kinds ≢ []
has_fault kinds error told is has other none =
    elim has [
      | inl memory ↦ other (cc)
      | inr among ↦ subst (IsAmong (kind_of error)) none among
    ]
