-- Pages in their frames, in the frames' order, each with the bits that hardware sets, R and M, and a number that a policy keeps.
use Rattle.std.specs.Prelude.{ℕ, suc, ◌||◌, Bool, true, false, cond, nat_lt, List, [], ◌∷◌, ◌++◌, length, slice_get, slice_set, Option, Some, None}
use Rattle.clock_policy.specs.declared.key.Key.{Key}
use Rattle.page_policies.specs.Strings.{is_page}
use Rattle.ticked_policies.specs.declared.marks.Marks.{Marks}

abbrev pub in_frames : Key → List (Key × Marks) → Bool
in_frames p [] = false
in_frames p (f ∷ fs) = cond (is_page p f.0) true (in_frames p fs)

-- A reference sets R, and M if it writes.
abbrev pub used_by : Bool → Marks → Marks
used_by writes m = record { used = true; changed = m.changed || writes; number = m.number }

-- the page is used
abbrev pub noted : Key → Bool → List (Key × Marks) → List (Key × Marks)
noted p writes [] = []
noted p writes (f ∷ fs) = cond (is_page p f.0) ((f.0, used_by writes f.1) ∷ fs) (f ∷ noted p writes fs)

-- a page that comes in is used
abbrev pub fresh : Bool → ℕ → Marks
fresh writes number = record { used = true; changed = writes; number = number }

-- the rank of the page in a frame, if there is one
abbrev pub rank_in : (Marks → ℕ) → Option (Key × Marks) → ℕ
rank_in rank None = 0
rank_in rank (Some f) = rank f.1

-- a later place, if its rank is less than that of the best so far
abbrev pub better : (Marks → ℕ) → List (Key × Marks) → ℕ → ℕ → ℕ
better rank fs best place = cond (nat_lt (rank_in rank (slice_get fs place)) (rank_in rank (slice_get fs best))) place best

-- the first frame whose rank is least: of the one that was best so far, whose rank is known, and of those from a place on
abbrev pub lowest_from : (Marks → ℕ) → ℕ → ℕ → ℕ → List (Key × Marks) → ℕ
lowest_from rank best least place [] = best
lowest_from rank best least place (f ∷ fs) = cond (nat_lt (rank f.1) least) (lowest_from rank place (rank f.1) (suc place) fs) (lowest_from rank best least (suc place) fs)

abbrev pub lowest : (Marks → ℕ) → List (Key × Marks) → ℕ
lowest rank [] = 0
lowest rank (f ∷ fs) = lowest_from rank 0 (rank f.1) 1 fs

-- A page comes into a free frame, or into the first of those with the least rank.
abbrev pub brought : (Marks → ℕ) → ℕ → Key → Marks → List (Key × Marks) → List (Key × Marks)
brought rank m p marks fs = cond (nat_lt (length fs) m) (fs ++ (p, marks) ∷ []) (slice_set fs (lowest rank fs) (p, marks))
