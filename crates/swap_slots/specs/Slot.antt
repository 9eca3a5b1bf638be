use Rattle.std.specs.Prelude.{◌≡◌, ℕ, ◌-◌, ◌^◌, ◌<◌, ◌⊎◌, List, replicate}

-- the count of failures rose, or it stands at the largest number that it can have
abbrev pub Rose : ℕ → ℕ → Type 0
Rose old new = (old < new) ⊎ ((old ≡ 2 ^ 64 - 1) × (new ≡ 2 ^ 64 - 1))

-- what a new slot gives: a page of zeros
unfoldable pub zero_content : List ℕ
zero_content = replicate 4096 0
