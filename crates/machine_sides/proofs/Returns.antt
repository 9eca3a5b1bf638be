-- A page that does not leave its frame can return where the list takes it back.
use Rattle.std.specs.Prelude.{◌≡◌, ℕ, true}
use Rattle.std.proofs.Common.{sym, ap, ◌∙◌, subst}
use Rattle.paged_memory.proofs.access_laws.LooksLaws.{leaving_stage}
use Rattle.paged_memory.specs.moves.Stages.{is_leaving_stage}
use Rattle.pager_core.specs.Pager.{takes_back}
use Rattle.swap_slots.specs.PoolValue.{PoolValue}
use Rattle.machine_sides.proofs.StageLaws.{stage_below}
use Rattle.machine_sides.specs.Collecting.{is_leaving_at, LacksSlot}
use Rattle.machine_sides.specs.Returning.{CanReturn}
use Rattle.machine_sides.specs.Sides.{PagerSideValue}
use Rattle.machine_sides.specs.Together.{key_of}
use Rattle.space_core.specs.StandsFor.{SpaceValue}

module _ {S : Type 0} where
  -- a page that lacks a slot is leaving
  pub slotless_returns : (vpn : ℕ) (pager : PagerSideValue) (space : SpaceValue S) (slots : PoolValue S) → (is_leaving_at space vpn ≡ true → CanReturn vpn pager space) → LacksSlot vpn space slots → CanReturn vpn pager space
  slotless_returns vpn pager space slots back lacks = back (ap is_leaving_stage (stage_below space vpn lacks.wants.page.small) ∙ leaving_stage vpn space.memory lacks.wants.page)

  -- a page whose save failed is of the process still
  pub failed_returns : (vpn : ℕ) (pager : PagerSideValue) (old new : SpaceValue S) → new.memory.process ≡ old.memory.process → CanReturn vpn pager old → CanReturn vpn pager new
  failed_returns vpn pager old new same back = subst (λ p. takes_back (key_of p vpn) pager.pager.list ≡ true) (sym same) back
