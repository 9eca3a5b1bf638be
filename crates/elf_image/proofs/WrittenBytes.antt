-- The bytes of a written file, part after part.
use Rattle.std.proofs.Common.{◌≡◌, ℕ, zero, suc, ◌+◌, ◌-◌, ◌*◌, ◌/◌, ◌<◌, ◌≤◌, ◌^◌, Bool, true, false, cond, List, [], ◌∷◌, ◌++◌, length, take, replicate, flat_map, slice_index_or, arith, refl, sym, ap, ◌∙◌, append_assoc, length-append, take_all, subst}
use Rattle.std.proofs.lemmas.List.{length-replicate}
use Rattle.elf_image.specs.declared.image.ImagePage.{ImagePage}
use Rattle.elf_image.specs.declared.runs.Run.{Run}
use Rattle.elf_image.specs.WrittenFiles.{run_of, goes_on, joined, runs_from, runs, file_header, segment_header, pages_offset, padding, file_front, page_bytes, HasRoom}

pub four_parts : (front a b c d : List ℕ) → (((front ++ a) ++ b) ++ c) ++ d ≡ front ++ (a ++ (b ++ (c ++ d)))
four_parts front a b c d = simp append_assoc

pub length-file_header : (entry count : ℕ) → length (file_header entry count) ≡ 52
unfolding file_header
length-file_header entry count = refl

pub length-segment_header : (start : ℕ) (run : Run) → length (segment_header start run) ≡ 32
unfolding segment_header
length-segment_header start run = refl

pub length-segment_headers : (start : ℕ) (segments : List Run) → length (flat_map (segment_header start) segments) ≡ 32 * length segments
length-segment_headers start [] = refl
length-segment_headers start (run ∷ segments) =
    let rest = length-segment_headers start segments in
    let first = length-segment_header start run in
    omega (arith, length-append (segment_header start run) (flat_map (segment_header start) segments))

-- a page more is at most a run more
joined_length : (run : Run) (later : List Run) → length (joined run later) ≤ length later + 1
unfolding joined
joined_length run [] = omega arith
joined_length run (next ∷ later) = by (goes_on run next)
  where
    by : (b : Bool) → length (cond b (record { number = run.number; place = run.place; count = run.count + next.count; rights = run.rights } ∷ later) (run ∷ next ∷ later)) ≤ length (next ∷ later) + 1
    by true = omega arith
    by false = omega arith

length-runs_from : (place : ℕ) (pages : List ImagePage) → length (runs_from place pages) ≤ length pages
unfolding runs_from
length-runs_from place [] = omega arith
length-runs_from place (one ∷ rest) = let later = length-runs_from (place + 1) rest in let first = joined_length (run_of place one) (runs_from (place + 1) rest) in omega arith

pub length-runs : (pages : List ImagePage) → length (runs pages) ≤ length pages
length-runs pages = length-runs_from 0 pages

-- a run lies among pages, and below 0x70000
record IsAmong (end : ℕ) (run : Run) : Type 0 where
  before : run.place + run.count ≤ end
  low : run.number < 458752

-- runs from a place on up to an end
record AreAmong (start end : ℕ) (found : List Run) : Type 0 where
  first : (d : Run) → 0 < length found → (slice_index_or found 0 d).place ≡ start
  each : (k : ℕ) (d : Run) → k < length found → IsAmong end (slice_index_or found k d)

joined_among : (end : ℕ) (run : Run) (later : List Run) → IsAmong end run → AreAmong (run.place + run.count) end later → AreAmong run.place end (joined run later)
unfolding joined
joined_among end run [] here among = record { first = λ d l. refl; each = one }
  where
    one : (k : ℕ) (d : Run) → k < length (run ∷ []) → IsAmong end (slice_index_or (run ∷ []) k d)
    one zero d l = here
    one (suc k) d l = absurd (omega arith)
joined_among end run (next ∷ later) here among = by (goes_on run next)
  where
    whole : Run
    whole = record { number = run.number; place = run.place; count = run.count + next.count; rights = run.rights }

    with_next : (k : ℕ) (d : Run) → k < length (whole ∷ later) → IsAmong end (slice_index_or (whole ∷ later) k d)
    with_next zero d l = record { before = let start = among.first d (omega arith) in let there = (among.each 0 d (omega arith)).before in omega arith; low = here.low }
    with_next (suc k) d l = among.each (suc k) d (omega arith)

    apart : (k : ℕ) (d : Run) → k < length (run ∷ next ∷ later) → IsAmong end (slice_index_or (run ∷ next ∷ later) k d)
    apart zero d l = here
    apart (suc k) d l = among.each k d (omega arith)

    by : (b : Bool) → AreAmong run.place end (cond b (record { number = run.number; place = run.place; count = run.count + next.count; rights = run.rights } ∷ later) (run ∷ next ∷ later))
    by true = record { first = λ d l. refl; each = with_next }
    by false = record { first = λ d l. refl; each = apart }

runs_among : (place : ℕ) (pages : List ImagePage) → ((i : ℕ) (d : ImagePage) → i < length pages → (slice_index_or pages i d).number < 458752) → AreAmong place (place + length pages) (runs_from place pages)
unfolding runs_from
runs_among place [] low = record { first = λ d l. absurd (omega arith); each = λ k d l. absurd (omega arith) }
runs_among place (one ∷ rest) low =
    let end : place + 1 + length rest ≡ place + length (one ∷ rest) = omega arith in
    let later = subst (λ n. AreAmong (place + 1) n (runs_from (place + 1) rest)) end (runs_among (place + 1) rest (λ i d l. low (suc i) d (omega arith))) in
    joined_among (place + length (one ∷ rest)) (run_of place one) (runs_from (place + 1) rest) (record { before = omega arith; low = low 0 one (omega arith) }) later

pub small_offset : (count : ℕ) → count ≤ 4032 → pages_offset count < 2 ^ 24
unfolding pages_offset
small_offset count few = omega arith

pub runs_have_room : (pages : List ImagePage) (segments : List Run) → length pages ≤ 4032 → ((i : ℕ) (d : ImagePage) → i < length pages → (slice_index_or pages i d).number < 458752) → segments ≡ runs pages → (k : ℕ) (d : Run) → k < length segments → HasRoom (pages_offset (length segments)) (slice_index_or segments k d)
runs_have_room pages segments few low are =
    subst (λ s. (k : ℕ) (d : Run) → k < length s → HasRoom (pages_offset (length s)) (slice_index_or s k d)) (sym are) (λ k d l.
    let among = (runs_among 0 pages low).each k d l in
    let before = among.before in
    let below = among.low in
    let start = small_offset (length (runs pages)) (let n = length-runs pages in omega arith) in
    record { filed = omega arith; low = omega arith; short = omega arith })

-- the front of a file, once its headers are followed by zeros
pub front_written : (entry start size : ℕ) (segments : List Run) (written : List ℕ) → start ≡ pages_offset (length segments) → size ≡ length written → written ≡ file_header entry (length segments) ++ flat_map (segment_header start) segments → take start written ++ replicate (start - size) 0 ≡ file_front entry segments
unfolding file_front pages_offset
front_written entry start size segments written at sized are =
    let count = length segments in
    let head = length-file_header entry count in
    let long : length written ≡ 52 + 32 * count = ap length are ∙ length-append (file_header entry count) (flat_map (segment_header start) segments) ∙ (λ i. head i + length-segment_headers start segments i) in
    let whole : take start written ≡ written = take_all start written (omega arith) in
    let rest : start - size ≡ (52 + 32 * count + 4095) / 4096 * 4096 - (52 + 32 * count) = omega arith in
    (λ i. whole i ++ replicate (rest i) 0)
    ∙ (λ i. are i ++ replicate ((52 + 32 * count + 4095) / 4096 * 4096 - (52 + 32 * count)) 0)
    ∙ (λ i. (file_header entry count ++ flat_map (segment_header (at i)) segments) ++ replicate ((52 + 32 * count + 4095) / 4096 * 4096 - (52 + 32 * count)) 0)
    ∙ append_assoc (file_header entry count) (flat_map (segment_header (pages_offset count)) segments) (padding count)

-- a size with what is missing to the next multiple of 4096
up_to_pages : (size rest gap : ℕ) → size ≡ 52 + rest → gap ≡ (size + 4095) / 4096 * 4096 - size → 52 + (rest + gap) ≡ (size + 4095) / 4096 * 4096
up_to_pages size rest gap sized missing = omega arith

pub length-file_front : (entry : ℕ) (segments : List Run) → length (file_front entry segments) ≡ pages_offset (length segments)
unfolding file_front pages_offset
length-file_front entry segments =
    let count : ℕ = length segments in
    let gap : ℕ = (52 + 32 * count + 4095) / 4096 * 4096 - (52 + 32 * count) in
    let headers : List ℕ = flat_map (segment_header (pages_offset count)) segments in
    let head : length (file_header entry count) ≡ 52 = length-file_header entry count in
    let middle : length headers ≡ 32 * count = length-segment_headers (pages_offset count) segments in
    let zeros : length (replicate gap 0) ≡ gap = length-replicate gap 0 in
    let all = up_to_pages (52 + 32 * count) (32 * count) gap refl refl in
    length-append (file_header entry count) (headers ++ replicate gap 0)
    ∙ (λ i. head i + length-append headers (replicate gap 0) i)
    ∙ (λ i. 52 + (middle i + zeros i))
    ∙ all

pub length-page_bytes : (pages : List ImagePage) → ((k : ℕ) (d : ImagePage) → k < length pages → length (slice_index_or pages k d).page.bytes ≡ 4096) → length (page_bytes pages) ≡ 4096 * length pages
length-page_bytes [] whole = refl
length-page_bytes (one ∷ rest) whole =
    let first = whole 0 one (omega arith) in
    let others = length-page_bytes rest (λ k d l. whole (suc k) d (omega arith)) in
    let both = length-append one.page.bytes (page_bytes rest) in
    omega arith
