-- A sample of a string's pages: Carl Waldspurger, Nohhyun Park, Alexander Garthwaite and Irfan Ahmad, "Efficient MRC Construction with
-- SHARDS", FAST 2015. A page is in the sample or not, whenever it is used, by a number that its own gives; so the sample of a string is
-- the string of some pages, whole.
use Rattle.std.specs.Prelude.{ℕ, ◌%◌, ◌==◌, Bool}
use Rattle.clock_policy.specs.declared.key.Key.{Key}
use Rattle.page_policies.specs.Spread.{spread}

-- whether it is in a sample of one page in so many
unfoldable pub is_sampled : ℕ → Key → Bool
is_sampled one_in p = spread 11400714819323198485 p % one_in == 0
