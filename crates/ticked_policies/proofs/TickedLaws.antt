-- NRU and aging begin with empty frames: a proof.
use Rattle.std.specs.Prelude.{◌≡◌, ℕ, List, []}
use Rattle.clock_policy.specs.declared.key.Key.{Key}
use Rattle.ticked_policies.specs.declared.marks.Marks.{Marks}
use Rattle.ticked_policies.specs.declared.page_use.PageUse.{PageUse}
use Rattle.ticked_policies.specs.declared.ticked_rule.TickedRule.{TickedRule}
use Rattle.ticked_policies.specs.Ticked.{in_ticked, ticked_by, ticked_misses}
use Rattle.ticked_policies.specs.Uses.{misses}

pub ticked_opens : (rule : TickedRule) (every n m : ℕ) (pages : List (Key × Marks)) → n ≡ m → pages ≡ [] → (string : List PageUse) → misses in_ticked (ticked_by rule every n) (record { pages = pages; left = every }) string ≡ ticked_misses rule every m string
unfolding ticked_misses
ticked_opens rule every n m pages is none string = λ i. misses in_ticked (ticked_by rule every (is i)) (record { pages = none i; left = every }) string
