-- Entries by page number: a page's place is where its entry stands in the list.
use Rattle.std.specs.Prelude.{◌≡◌, ℕ, zero, suc, ◌+◌, ◌==◌, ◌<◌, ◌≤◌, List, [], ◌∷◌, ◌++◌, Option, Some, None, map, position}
use Rattle.std.specs.List.{slice_get}
use Rattle.std.specs.Ordering.{nat_cmp}
use Rattle.std.specs.FinMap.{FinMap, insert, from_entries}

module _ {T : Type 0} where
  abbrev pub pages_of : List (ℕ × T) → List ℕ
  pages_of entries = map (λ e. e.0) entries

  abbrev pub values_of : List (ℕ × T) → List T
  values_of entries = map (λ e. e.1) entries

  -- the place of a page that has an entry
  abbrev pub place_of : ℕ → List (ℕ × T) → Option ℕ
  place_of page entries = position (λ listed. listed == page) (pages_of entries)

  -- the value at a place
  abbrev pub value_at : ℕ → List (ℕ × T) → Option T
  value_at place entries = slice_get (values_of entries) place

  -- the entries with another value at a place
  unfoldable pub with_value : List (ℕ × T) → ℕ → T → List (ℕ × T)
  with_value [] place value = []
  with_value (e ∷ es) zero value = (e.0, value) ∷ es
  with_value (e ∷ es) (suc place) value = e ∷ with_value es place value

  abbrev pub added_unless : Option ℕ → ℕ → T → List (ℕ × T) → List (ℕ × T)
  added_unless None page value entries = entries ++ (page, value) ∷ []
  added_unless (Some place) page value entries = entries

  -- the entries with a value for a page that has none, behind the others
  unfoldable pub added : ℕ → T → List (ℕ × T) → List (ℕ × T)
  added page value entries = added_unless (place_of page entries) page value entries

  -- the same for so many pages from the first on, in their order
  unfoldable pub with_added : ℕ → ℕ → T → List (ℕ × T) → List (ℕ × T)
  with_added first zero value entries = entries
  with_added first (suc count) value entries = added (first + count) value (with_added first count value entries)

-- what entries stand for: the memory, or another map, in which each page has what its entry stands for
unfoldable pub map_by : {S T : Type 0} → (S → T) → List (ℕ × S) → FinMap nat_cmp T
map_by f entries = from_entries (map (λ e. (e.0, f e.1)) entries)

-- one page has another value, or gets its first one; every other page is as it was
pub record ChangesPage {T : Type 0} (old new : List (ℕ × T)) (page : ℕ) (value : T) : Type 0 where
  pub changed : from_entries {R = nat_cmp} new ≡ insert (from_entries old) page value

-- of so many page numbers from the first on, one that has no entry
pub record LacksOne {T : Type 0} (first count : ℕ) (entries : List (ℕ × T)) : Type 0 where
  pub number : ℕ
  pub above : first ≤ number
  pub below : number < first + count
  pub absent : place_of number entries ≡ None
