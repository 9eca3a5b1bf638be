-- What entries by page number say as a finite map, and what becomes of it where one page changes.
use Rattle.std.proofs.Common.{◌≡◌, ℕ, zero, suc, ◌+◌, ◌-◌, ◌<◌, ◌≤◌, List, [], ◌∷◌, ◌++◌, length, slice_get, Option, Some, None, option_map, option_and_then, position, ◌==◌, nat_lt, Bool, true, false, cond, take, set, append_assoc, append-nil, arith, refl, sym, ap, ◌∙◌, lt-ltb, eqb-true, eq-eqb, inl, inr, true≢false}
use Rattle.std.specs.List.{position_or_len}
use Rattle.std.specs.Ordering.{nat_cmp, eq_by_cmp}
use Rattle.std.specs.Cmp.{nat_cmp_total}
use Rattle.std.specs.FinMap.{FinMap, get, insert, from_entries, find, get-from_entries, get-insert, same_map, from_entries_push, nat_cmp-IsAntisymmetric}
use Rattle.std.proofs.lemmas.Bool.Decides.{nat_tests, eqb_tells}
use Rattle.std.proofs.lemmas.Option.{none-some, same_Some, slice_get_cases}
use Rattle.std.proofs.lemmas.List.{map-append}
use Rattle.std.proofs.lemmas.List.Quantifiers.{position-Some}
use Rattle.std.proofs.Math.Seq.{take-append_seam}
use Rattle.page_memory.specs.Entries.{pages_of, values_of, place_of, value_at, with_value, added_unless, added, with_added, LacksOne}

-- the order of numbers finds just the equal ones
pub equal_by_order : (q page : ℕ) → eq_by_cmp nat_cmp q page ≡ (page == q)
equal_by_order q page = grind (arith, nat_tests)

first_place : (n : ℕ) → cond {A = Option ℕ} (nat_lt 0 (suc n)) (Some 0) None ≡ Some 0
first_place n = rw (lt-ltb 0 (suc n) (omega arith)) refl

next_place : (k n : ℕ) → cond {A = Option ℕ} (nat_lt (1 + k) (suc n)) (Some (1 + k)) None ≡ option_map (λ i. suc i) (cond (nat_lt k n) (Some k) None)
next_place k n = grind (arith, nat_tests)

position_here : (page : ℕ) (pages : List ℕ) (q : ℕ) → (page == q) ≡ true → position (λ p. p == q) (page ∷ pages) ≡ Some 0
position_here page pages q e = rw e (first_place (length pages))

position_later : (page : ℕ) (pages : List ℕ) (q : ℕ) → (page == q) ≡ false → position (λ p. p == q) (page ∷ pages) ≡ option_map (λ i. suc i) (position (λ p. p == q) pages)
position_later page pages q e = rw e (next_place (position_or_len (λ p. p == q) pages) (length pages))

-- a test that is asked twice
shadowed : {A : Type 0} (b : Bool) (x y z : A) → cond b x z ≡ cond b x (cond b y z)
shadowed true x y z = refl
shadowed false x y z = refl

swapped : {A : Type 0} (a b : Bool) (x y z : A) → (a ≡ true → b ≡ true → ⊥) → cond a x (cond b y z) ≡ cond b y (cond a x z)
swapped true true x y z apart = absurd (apart refl refl)
swapped true false x y z apart = refl
swapped false b x y z apart = refl

never_first : (o : Option ℕ) → option_map (λ i. suc i) o ≡ Some 0 → ⊥
never_first None e = none-some _ e
never_first (Some k) e = let z : suc k ≡ 0 = same_Some _ _ e in omega arith

place_before : (o : Option ℕ) (i : ℕ) → option_map (λ i. suc i) o ≡ Some (suc i) → o ≡ Some i
place_before None i e = absurd (none-some _ e)
place_before (Some k) i e = let z : suc k ≡ suc i = same_Some _ _ e in ap Some (omega arith)

still_first : (pages : List ℕ) (more page place : ℕ) → position (λ p. p == page) pages ≡ Some place → position (λ p. p == page) (pages ++ more ∷ []) ≡ Some place
still_first [] more page place at = absurd (none-some _ at)
still_first (p ∷ pages) more page zero at =
    elim (p == page) as (λ b. (p == page) ≡ b → position (λ p. p == page) (p ∷ (pages ++ more ∷ [])) ≡ Some 0) [
      | true ↦ λ h. position_here p (pages ++ more ∷ []) page h
      | false ↦ λ h. absurd (never_first _ (sym (position_later p pages page h) ∙ at))
    ] refl
still_first (p ∷ pages) more page (suc i) at =
    elim (p == page) as (λ b. (p == page) ≡ b → position (λ p. p == page) (p ∷ (pages ++ more ∷ [])) ≡ Some (suc i)) [
      | true ↦ λ h. let z : 0 ≡ suc i = same_Some _ _ (sym (position_here p pages page h) ∙ at) in absurd (omega arith)
      | false ↦ λ h. position_later p (pages ++ more ∷ []) page h ∙ ap (option_map (λ i. suc i)) (still_first pages more page i (place_before _ i (sym (position_later p pages page h) ∙ at)))
    ] refl

-- a value put back as it was found leaves the map as it was
pub put_back : {T : Type 0} (m : FinMap nat_cmp T) (key : ℕ) (value : T) → get m key ≡ Some value → insert m key value ≡ m
put_back m key value found = same_map nat_cmp_total nat_cmp-IsAntisymmetric _ _ (λ q. get-insert nat_cmp_total m key value q ∙ same q)
  where
    same : (q : ℕ) → cond (eq_by_cmp nat_cmp q key) (Some value) (get m q) ≡ get m q
    same q =
        elim (eqb_tells key q) [
          | inl at ↦ ap (λ b. cond b (Some value) (get m q)) (equal_by_order q key ∙ at.0) ∙ sym found ∙ ap (get m) at.1
          | inr apart ↦ ap (λ b. cond b (Some value) (get m q)) (equal_by_order q key ∙ apart.0)
        ]

module _ {T : Type 0} where
  later_value : (v : T) (values : List T) (o : Option ℕ) → option_and_then (λ k. slice_get (v ∷ values) k) (option_map (λ i. suc i) o) ≡ option_and_then (λ k. slice_get values k) o
  later_value v values None = refl
  later_value v values (Some k) = refl

  found : (entries : List (ℕ × T)) (q : ℕ) → find nat_cmp q entries ≡ option_and_then (λ k. value_at k entries) (place_of q entries)
  found [] q = refl
  found (e ∷ es) q =
      elim (e.0 == q) as (λ b. (e.0 == q) ≡ b → cond (eq_by_cmp nat_cmp q e.0) (Some e.1) (find nat_cmp q es) ≡ option_and_then (λ k. slice_get (e.1 ∷ values_of es) k) (position (λ p. p == q) (e.0 ∷ pages_of es))) [
        | true ↦ λ h. ap (λ b. cond b (Some e.1) (find nat_cmp q es)) (equal_by_order q e.0 ∙ h) ∙ ap (option_and_then (λ k. slice_get (e.1 ∷ values_of es) k)) (sym (position_here e.0 (pages_of es) q h))
        | false ↦ λ h. ap (λ b. cond b (Some e.1) (find nat_cmp q es)) (equal_by_order q e.0 ∙ h) ∙ (found es q ∙ sym (later_value e.1 (values_of es) (place_of q es)) ∙ ap (option_and_then (λ k. slice_get (e.1 ∷ values_of es) k)) (sym (position_later e.0 (pages_of es) q h)))
      ] refl

  -- a page's value is the one at its place
  pub value_by_place : (entries : List (ℕ × T)) (page : ℕ) → get (from_entries {R = nat_cmp} entries) page ≡ option_and_then (λ k. value_at k entries) (place_of page entries)
  value_by_place entries page = get-from_entries nat_cmp_total entries page ∙ found entries page

  as_many : (entries : List (ℕ × T)) → length (pages_of entries) ≡ length (values_of entries)
  as_many [] = refl
  as_many (e ∷ es) = ap suc (as_many es)

  -- at a page's place there is a value
  pub has_value : (entries : List (ℕ × T)) (page place : ℕ) → place_of page entries ≡ Some place → (value : T) × (value_at place entries ≡ Some value)
  has_value entries page place at =
      let within = (position-Some (λ p. p == page) (pages_of entries) place 0 at).0 in
      let same = as_many entries in
      elim (slice_get_cases (values_of entries) place).1 [
        | inl some ↦ (some.0, some.2)
        | inr past ↦ let end = past.0 in absurd (omega arith)
      ]

  missing : (entries : List (ℕ × T)) (page : ℕ) → find nat_cmp page entries ≡ None → place_of page entries ≡ None
  missing [] page none = refl
  missing (e ∷ es) page none =
      elim (e.0 == page) as (λ b. (e.0 == page) ≡ b → position (λ p. p == page) (e.0 ∷ pages_of es) ≡ None) [
        | true ↦ λ h. absurd (none-some e.1 (sym none ∙ ap (λ b. cond b (Some e.1) (find nat_cmp page es)) (equal_by_order page e.0 ∙ h)))
        | false ↦ λ h.
            position_later e.0 (pages_of es) page h
            ∙ ap (option_map (λ i. suc i)) (missing es page (ap (λ b. cond b (Some e.1) (find nat_cmp page es)) (sym (equal_by_order page e.0 ∙ h)) ∙ none))
      ] refl

  -- a page without a value has no place
  pub no_place : (entries : List (ℕ × T)) (page : ℕ) → get (from_entries {R = nat_cmp} entries) page ≡ None → place_of page entries ≡ None
  no_place entries page none = missing entries page (sym (get-from_entries nat_cmp_total entries page) ∙ none)

  -- and a page without a place has no value
  pub no_value : (entries : List (ℕ × T)) (page : ℕ) → place_of page entries ≡ None → get (from_entries {R = nat_cmp} entries) page ≡ None
  no_value entries page absent = value_by_place entries page ∙ ap (option_and_then (λ k. value_at k entries)) absent

  -- one more entry, for a page that has no place, is an insertion
  pub inserted : (entries : List (ℕ × T)) (page : ℕ) (value : T) → place_of page entries ≡ None → from_entries {R = nat_cmp} (entries ++ (page, value) ∷ []) ≡ insert (from_entries entries) page value
  inserted entries page value absent =
      from_entries_push nat_cmp_total nat_cmp-IsAntisymmetric entries page value (found entries page ∙ ap (option_and_then (λ k. value_at k entries)) absent)

  replaced_at : (entries : List (ℕ × T)) (page i : ℕ) (w : T) (q : ℕ) → place_of page entries ≡ Some i → find nat_cmp q (with_value entries i w) ≡ cond (eq_by_cmp nat_cmp q page) (Some w) (find nat_cmp q entries)
  unfolding with_value
  replaced_at [] page i w q at = absurd (none-some _ at)
  replaced_at (e ∷ es) page zero w q at =
      elim (e.0 == page) as (λ b. (e.0 == page) ≡ b → cond (eq_by_cmp nat_cmp q e.0) (Some w) (find nat_cmp q es) ≡ cond (eq_by_cmp nat_cmp q page) (Some w) (cond (eq_by_cmp nat_cmp q e.0) (Some e.1) (find nat_cmp q es))) [
        | true ↦ λ h. rw (eqb-true e.0 page h) (shadowed (eq_by_cmp nat_cmp q page) (Some w) (Some e.1) (find nat_cmp q es))
        | false ↦ λ h. absurd (never_first _ (sym (position_later e.0 (pages_of es) page h) ∙ at))
      ] refl
  replaced_at (e ∷ es) page (suc i) w q at =
      elim (e.0 == page) as (λ b. (e.0 == page) ≡ b → cond (eq_by_cmp nat_cmp q e.0) (Some e.1) (find nat_cmp q (with_value es i w)) ≡ cond (eq_by_cmp nat_cmp q page) (Some w) (cond (eq_by_cmp nat_cmp q e.0) (Some e.1) (find nat_cmp q es))) [
        | true ↦ λ h. let z : 0 ≡ suc i = same_Some _ _ (sym (position_here e.0 (pages_of es) page h) ∙ at) in absurd (omega arith)
        | false ↦ λ h.
            rw (replaced_at es page i w q (place_before _ i (sym (position_later e.0 (pages_of es) page h) ∙ at)))
            (sym (swapped (eq_by_cmp nat_cmp q page) (eq_by_cmp nat_cmp q e.0) (Some w) (Some e.1) (find nat_cmp q es) (λ a b. apart h (sym (equal_by_order q page) ∙ a) (sym (equal_by_order q e.0) ∙ b))))
      ] refl
    where
      apart : (e.0 == page) ≡ false → (page == q) ≡ true → (e.0 == q) ≡ true → ⊥
      apart h a b = let one = eqb-true page q a in let two = eqb-true e.0 q b in let t : (e.0 == page) ≡ true = eq-eqb e.0 page (omega arith) in true≢false (sym t ∙ h)

  -- another value at a page's place is an insertion
  pub replaced_value : (entries : List (ℕ × T)) (page place : ℕ) (value : T) → place_of page entries ≡ Some place → from_entries {R = nat_cmp} (with_value entries place value) ≡ insert (from_entries entries) page value
  replaced_value entries page place value at =
      same_map nat_cmp_total nat_cmp-IsAntisymmetric _ _ (λ q.
      get-from_entries nat_cmp_total _ q ∙ replaced_at entries page place value q at
      ∙ ap (cond (eq_by_cmp nat_cmp q page) (Some value)) (sym (get-from_entries nat_cmp_total entries q))
      ∙ sym (get-insert nat_cmp_total _ page value q))

  -- entries with another value at a place: the pages and all other places stay
  pub pages_of-with_value : (entries : List (ℕ × T)) (place : ℕ) (value : T) → pages_of (with_value entries place value) ≡ pages_of entries
  unfolding with_value
  pages_of-with_value [] place value = refl
  pages_of-with_value (e ∷ es) zero value = refl
  pages_of-with_value (e ∷ es) (suc place) value = ap (λ l. e.0 ∷ l) (pages_of-with_value es place value)

  pub values_of-with_value : (entries : List (ℕ × T)) (place : ℕ) (value : T) → values_of (with_value entries place value) ≡ set (values_of entries) place value
  unfolding with_value
  values_of-with_value [] place value = refl
  values_of-with_value (e ∷ es) zero value = refl
  values_of-with_value (e ∷ es) (suc place) value = ap (λ l. e.1 ∷ l) (values_of-with_value es place value)

  pub place_of-with_value : (entries : List (ℕ × T)) (place page : ℕ) (value : T) → place_of page (with_value entries place value) ≡ place_of page entries
  place_of-with_value entries place page value = ap (position (λ p. p == page)) (pages_of-with_value entries place value)

  pub length-with_value : (entries : List (ℕ × T)) (place : ℕ) (value : T) → length (with_value entries place value) ≡ length entries
  unfolding with_value
  length-with_value [] place value = refl
  length-with_value (e ∷ es) zero value = refl
  length-with_value (e ∷ es) (suc place) value = ap suc (length-with_value es place value)

  -- a page keeps its place where one more entry comes behind
  pub place_stays : (entries : List (ℕ × T)) (more : ℕ × T) (page place : ℕ) → place_of page entries ≡ Some place → place_of page (entries ++ more ∷ []) ≡ Some place
  place_stays entries more page place at = ap (position (λ p. p == page)) (map-append (λ e. e.0) entries (more ∷ [])) ∙ still_first (pages_of entries) more.0 page place at

  added_case : (entries : List (ℕ × T)) (page : ℕ) (value : T) (place : Option ℕ) → place_of page entries ≡ place → added page value entries ≡ added_unless place page value entries
  unfolding added
  added_case entries page value place at = ap (λ o. added_unless o page value entries) at

  -- a page that has no place goes behind the others
  pub added_behind : (entries : List (ℕ × T)) (page : ℕ) (value : T) → place_of page entries ≡ None → added page value entries ≡ entries ++ (page, value) ∷ []
  added_behind entries page value absent = added_case entries page value None absent

  -- entries that are added come behind those that were there
  behind : (entries more : List (ℕ × T)) (page : ℕ) (value : T) (place : Option ℕ) → (rest : List (ℕ × T)) × (added_unless place page value (entries ++ more) ≡ entries ++ rest)
  behind entries more page value None = (more ++ (page, value) ∷ [], append_assoc entries more ((page, value) ∷ []))
  behind entries more page value (Some place) = (more, refl)

  pub added_at_end : (entries : List (ℕ × T)) (first count : ℕ) (value : T) → (more : List (ℕ × T)) × (with_added first count value entries ≡ entries ++ more)
  unfolding with_added added
  added_at_end entries first zero value = ([], sym (append-nil entries))
  added_at_end entries first (suc count) value =
      let before = added_at_end entries first count value in
      let after = behind entries before.0 (first + count) value (place_of (first + count) (entries ++ before.0)) in
      (after.0, ap (added (first + count) value) before.1 ∙ after.1)

  pub front_stays : (entries : List (ℕ × T)) (first count : ℕ) (value : T) → take (length entries) (with_added first count value entries) ≡ entries
  front_stays entries first count value =
      let more = added_at_end entries first count value in
      ap (take (length entries)) more.1 ∙ take-append_seam entries more.0

  -- a page that is missing once others were added was missing before
  absent_one : (entries : List (ℕ × T)) (number q : ℕ) (value : T) → place_of q (added number value entries) ≡ None → place_of q entries ≡ None
  unfolding added
  absent_one entries number q value none = by_place (place_of number entries) none
    where
      by_end : (o : Option ℕ) → place_of q entries ≡ o → place_of q (entries ++ (number, value) ∷ []) ≡ None → o ≡ None
      by_end None at gone = refl
      by_end (Some k) at gone = absurd (none-some _ (sym gone ∙ place_stays entries (number, value) q k at))

      by_place : (o : Option ℕ) → place_of q (added_unless o number value entries) ≡ None → place_of q entries ≡ None
      by_place (Some place) gone = gone
      by_place None gone = by_end (place_of q entries) refl gone

  absent_before : (entries : List (ℕ × T)) (first count q : ℕ) (value : T) → place_of q (with_added first count value entries) ≡ None → place_of q entries ≡ None
  unfolding with_added
  absent_before entries first zero q value none = none
  absent_before entries first (suc count) q value none = absent_before entries first count q value (absent_one (with_added first count value entries) (first + count) q value none)

  pub lacks_one : (old now : List (ℕ × T)) (first count number : ℕ) (value : T) → first ≤ number → number < first + count → now ≡ with_added first (number - first) value old → place_of number now ≡ None
      → LacksOne first count old
  lacks_one old now first count number value above below is none =
      record { number = number; above = above; below = below; absent = absent_before old first (number - first) number value (ap (place_of number) (sym is) ∙ none) }

  -- where there are more entries than before, a page was missing
  grown_by : (entries : List (ℕ × T)) (first count : ℕ) (value : T) (place : Option ℕ) → place_of (first + count) (with_added first count value entries) ≡ place
      → length entries < length (added_unless place (first + count) value (with_added first count value entries))
      → (length entries < length (with_added first count value entries) → LacksOne first count entries) → LacksOne first (suc count) entries
  grown_by entries first count value (Some place) at more before =
      let lacks = before more in
      record { number = lacks.number; above = lacks.above; below = (let below = lacks.below in omega (arith, below)); absent = lacks.absent }
  grown_by entries first count value None at more before =
      record { number = first + count; above = omega arith; below = omega arith; absent = absent_before entries first count (first + count) value at }

  pub grown_lacks : (entries : List (ℕ × T)) (first count : ℕ) (value : T) → length entries < length (with_added first count value entries) → LacksOne first count entries
  unfolding with_added added
  grown_lacks entries first zero value more = absurd (omega arith)
  grown_lacks entries first (suc count) value more =
      grown_by entries first count value (place_of (first + count) (with_added first count value entries)) refl more (grown_lacks entries first count value)

pub ruleset mapping = (no_place, inserted)
