-- Which of several numbers of frames one pass with the optimum's stack is worth for.
use Rattle.std.specs.Prelude.{ℕ, suc, ◌-◌, ◌/◌, Bool, cond, nat_lt, max, List, [], ◌∷◌}
use Rattle.page_policies.specs.declared.frames.Frames.{Frames}

-- how many of the numbers are at most so many
abbrev pub count_up_to : ℕ → List Frames → ℕ
count_up_to most [] = 0
count_up_to most (f ∷ fs) = cond (nat_lt most f.number) (count_up_to most fs) (suc (count_up_to most fs))

-- whether a number is at most 64 times as many as the numbers up to it
abbrev pub is_shared : List Frames → ℕ → Bool
is_shared all n = nat_lt ((n - 1) / 64) (count_up_to n all)

-- the greatest of some of the numbers for which that is so
abbrev pub deepest : List Frames → List Frames → ℕ
deepest all [] = 0
deepest all (f ∷ fs) = cond (is_shared all f.number) (max f.number (deepest all fs)) (deepest all fs)

abbrev pub shared_depth : List Frames → ℕ
shared_depth frames = deepest frames frames
