-- Lists of all keys that pass a test, each once.
use Rattle.std.specs.Prelude.{◌≡◌, ℕ, Bool, List, length}
use Rattle.std.specs.List.{IsDistinct, list_any}

pub record AreAll {K : Type 0} (eq : K → K → Bool) (test : K → Bool) (listed : List K) : Type 0 where
  pub each_once : IsDistinct eq listed
  pub all : (key : K) → list_any (eq key) listed ≡ test key

-- so many keys pass a test
pub record AreSoMany {K : Type 0} (eq : K → K → Bool) (test : K → Bool) (count : ℕ) : Type 0 where
  pub listed : List K
  pub are_all : AreAll eq test listed
  pub many : length listed ≡ count
