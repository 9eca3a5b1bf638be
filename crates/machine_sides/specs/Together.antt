-- The list's resident entries against the resident pages, and the frames: counted by tests, a call moves them between the two sides.
use Rattle.std.specs.Prelude.{◌≡◌, ℕ, ◌+◌, Bool, cond, List, [], ◌∷◌}
use Rattle.frame_pool.specs.FrameValue.{FrameValue}
use Rattle.clock_policy.specs.declared.key.Key.{Key}
use Rattle.clock_policy.specs.Residents.{residents}
use Rattle.paged_memory.specs.cleaning.Copies.{copies_among}
use Rattle.paged_memory.specs.Whole.{residents_among, frames_among, savings_among}
use Rattle.pager_core.specs.Pager.{PagerState}
use Rattle.space_core.specs.StandsFor.{SpaceValue}

-- the key of a process's page
abbrev pub key_of : ℕ → ℕ → Key
key_of process vpn = record { process = process; vpn = vpn }

-- how many frames' numbers pass
unfoldable pub frames_where : (ℕ → Bool) → List FrameValue → ℕ
frames_where test [] = 0
frames_where test (frame ∷ frames) = cond (test frame.number) 1 0 + frames_where test frames

module _ {S : Type 0} where
  -- how many resident pages' keys pass
  unfoldable pub residents_in : SpaceValue S → (Key → Bool) → ℕ
  residents_in space test = residents_among space.memory (λ vpn. test (key_of space.memory.process vpn))

  -- how many of the pages that are being saved pass by their keys
  unfoldable pub savings_in : SpaceValue S → (Key → Bool) → ℕ
  savings_in space test = savings_among space.memory (λ vpn. test (key_of space.memory.process vpn))

  -- how many of the pages of which a copy is out pass by their keys
  unfoldable pub copies_in : SpaceValue S → (Key → Bool) → ℕ
  copies_in space test = copies_among space.memory (λ vpn. test (key_of space.memory.process vpn))

  -- how many pages hold a frame whose number passes
  unfoldable pub frames_in : SpaceValue S → (ℕ → Bool) → ℕ
  frames_in space test = frames_among space.memory test

  -- what the list gains or loses the process's resident pages do, and what frames the pager gains or loses its pages lose or gain
  pub record Together (pager pager' : PagerState) (space space' : SpaceValue S) : Type 0 where
    pub listed : (test : Key → Bool) → residents pager'.list test + residents_in space test ≡ residents pager.list test + residents_in space' test
    pub framed : (test : ℕ → Bool) → frames_where test pager'.free + frames_in space' test ≡ frames_where test pager.free + frames_in space test
    pub size : pager'.size ≡ pager.size
    pub process : space'.memory.process ≡ space.memory.process
