-- Policies that go by writes, and formats that mark none.
use Rattle.std.specs.Prelude.{◌≡◌, ◌||◌, Bool, true, false, not, refl}

pub marked : (marks writes : Bool) → marks ≡ true → (marks || not writes) ≡ true
marked true writes h = refl
marked false writes h = cc

pub none_writes : (marks writes : Bool) → writes ≡ false → (marks || not writes) ≡ true
none_writes true false h = refl
none_writes false false h = refl
none_writes true true h = cc
none_writes false true h = cc
