-- Records that are written one after another: proofs.
use Rattle.std.specs.Prelude.{◌≡◌, ℕ, zero, suc, ◌+◌, ◌<◌, List, [], ◌∷◌, ◌++◌, length, drop, slice_index_or, Option}
use Rattle.std.proofs.Common.{arith, sym, ap, subst, ◌∙◌}
use Rattle.std.proofs.lemmas.List.{append_assoc}
use Rattle.std.proofs.KnownBytes.{Appends-trans}
use Rattle.std.specs.Io.KnownBytes.{Appends}
use Rattle.clock_policy.specs.declared.key.Key.{Key}
use Rattle.page_policies.specs.Optimal.{next_use}
use Rattle.page_policies.specs.NextUses.{next_uses}
use Rattle.whole_strings.proofs.PlaceStepLaws.{Uncovered, uncover}
use Rattle.byteorder.specs.Endian.{little_bytes}
use Rattle.trace_lines.specs.PageIds.{id_of}
use Rattle.trace_files.specs.Written.{short_time, next_time, record_bytes, records}

-- a record, part by part
pub record_written : (a b c d e : Option (List ℕ)) (time id next : ℕ) (page : Key) → id ≡ id_of page → Appends a b (little_bytes 4 time) → Appends b c (little_bytes 8 id) → Appends c d (little_bytes 4 1) → Appends d e (little_bytes 8 next)
    → Appends a e (record_bytes time page next)
unfolding record_bytes
record_written a b c d e time id next page is f g h i =
    Appends-trans a b e (little_bytes 4 time) (little_bytes 8 (id_of page) ++ (little_bytes 4 1 ++ little_bytes 8 next)) f
    (Appends-trans b c e (little_bytes 8 (id_of page)) (little_bytes 4 1 ++ little_bytes 8 next) (subst (λ (k : ℕ). Appends b c (little_bytes 8 k)) is g)
    (Appends-trans c d e (little_bytes 4 1) (little_bytes 8 next) h i))

-- what was appended so far, and the records that are to come
pub record Writes (old now : Option (List ℕ)) (at : ℕ) (string : List Key) : Type 0 where
  pub bytes : List ℕ
  pub appended : Appends old now bytes
  pub whole : bytes ++ records (length string) at (drop at string) ≡ records (length string) 0 string

pub writes_on : (old now new : Option (List ℕ)) (at time next : ℕ) (string : List Key) (uses : List ℕ) (page d : Key) → uses ≡ next_uses string → at < length string → page ≡ slice_index_or string at d
    → time ≡ short_time at → next ≡ next_time (length string) at (slice_index_or uses at 0) → Appends now new (record_bytes time page next) → Writes old now at string → Writes old new (at + 1) string
writes_on old now new at time next string uses page d is inside here time_is next_is appended before =
    let appends : Appends now new (record_bytes (short_time at) page (next_time (length string) at (slice_index_or uses at 0))) =
    subst (λ (k : ℕ). Appends now new (record_bytes (short_time at) page k)) next_is (subst (λ (k : ℕ). Appends now new (record_bytes k page next)) time_is appended) in
    let found : Uncovered string at 0 = uncover string at 0 inside in
    let ahead : slice_index_or uses at 0 ≡ next_use found.page found.rest = ap (λ (l : List ℕ). slice_index_or l at 0) is ∙ found.ahead in
    let stands : page ≡ found.page = here ∙ first string at found.page found.rest found.now inside in
    let one : List ℕ = record_bytes (short_time at) page (next_time (length string) at (slice_index_or uses at 0)) in
    let same : one ≡ record_bytes (short_time at) found.page (next_time (length string) at (next_use found.page found.rest)) =
    ap (λ (k : Key). record_bytes (short_time at) k (next_time (length string) at (slice_index_or uses at 0))) stands ∙ ap (λ (n : ℕ). record_bytes (short_time at) found.page (next_time (length string) at n)) ahead in
    record {
      bytes = before.bytes ++ one;
      appended = Appends-trans old now new before.bytes one before.appended appends;
      whole = append_assoc before.bytes one (records (length string) (at + 1) (drop (at + 1) string))
          ∙ ap (λ (l : List ℕ). before.bytes ++ (l ++ records (length string) (at + 1) (drop (at + 1) string))) same
          ∙ ap (λ (l : List Key). before.bytes ++ (record_bytes (short_time at) found.page (next_time (length string) at (next_use found.page found.rest)) ++ records (length string) (at + 1) l)) (ap (λ (k : ℕ). drop k string) (one_on at) ∙ found.later)
          ∙ ap (λ (l : List Key). before.bytes ++ records (length string) at l) (sym found.now)
          ∙ before.whole;
    }
  where
    one_on : (a : ℕ) → a + 1 ≡ suc a
    one_on a = omega arith

    first : (s : List Key) (at : ℕ) (p : Key) (ps : List Key) → drop at s ≡ p ∷ ps → at < length s → slice_index_or s at d ≡ p
    first [] at p ps e h = absurd (omega (arith, h))
    first (q ∷ qs) zero p ps e h = ap (λ (l : List Key). slice_index_or l 0 d) e
    first (q ∷ qs) (suc at) p ps e h = first qs at p ps e (omega (arith, h))
