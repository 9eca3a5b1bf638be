-- What a reference adds to the misses.
use Rattle.std.specs.Prelude.{ℕ}
use Rattle.page_policies.specs.declared.policy.HitOrMiss.{HitOrMiss}
use Rattle.page_policies.specs.declared.policy.HitOrMiss.TheVariants.{Hit, Miss}

abbrev pub miss_count : HitOrMiss → ℕ
miss_count Hit = 0
miss_count Miss = 1
