-- Where the page of a number is, whatever the number: one that is mapped has a number that there is.
use Rattle.std.proofs.Common.{◌≡◌, ℕ, ◌^◌, ◌<◌, nat_lt, Bool, true, false, Option, None, refl, ap}
use Rattle.std.specs.Prelude.{if◌then◌else◌}
use borrow.Author.Tests.{ltb-true, lt-ltb}
use Rattle.page_store.specs.declared.state.PageState.{PageState}
use Rattle.paged_memory.specs.Whole.{stage_in}
use Rattle.space_core.specs.StandsFor.{SpaceValue}
use Rattle.machine_sides.specs.Admitting.{stage_at}

module _ {S : Type 0} (space : SpaceValue S) where
  -- of a number that there is it is what the memory tells
  pub stage_below : (v : ℕ) → v < 2 ^ 20 → stage_at space v ≡ stage_in space.memory v
  stage_below v small = ap (λ b. if b then stage_in space.memory v else None) (lt-ltb v (2 ^ 20) small)

  -- a test that passes, and would not where no page is mapped
  pub stage_passes : (test : Option PageState → Bool) (v : ℕ) → test None ≡ false → test (stage_at space v) ≡ true → (v < 2 ^ 20) × (test (stage_in space.memory v) ≡ true)
  stage_passes test v none h = by_bound (nat_lt v (2 ^ 20)) refl h
    where
      by_bound : (b : Bool) → nat_lt v (2 ^ 20) ≡ b → test (if b then stage_in space.memory v else None) ≡ true → (v < 2 ^ 20) × (test (stage_in space.memory v) ≡ true)
      by_bound true small h = (ltb-true v (2 ^ 20) small, h)
      by_bound false large h = let e = none in cc
