-- What segments load that are the runs of an image's pages.
use Rattle.std.proofs.Common.{◌≡◌, ℕ, zero, suc, ◌+◌, ◌-◌, ◌*◌, ◌<◌, ◌≤◌, min, max, Bool, true, false, cond, not, nat_lt, nat_le, ◌&&◌, ◌||◌, ◌==◌, List, [], ◌∷◌, length, map, slice_index, slice_index_or, arith, refl, sym, ap, ◌∙◌, inl, inr, bit_and, lt-ltb, le-leb, le-ltb}
use Rattle.std.specs.List.{list_any}
use Rattle.std.proofs.lemmas.Bool.{false≢true, or_right}
use Rattle.std.proofs.lemmas.Bool.Decides.{leb_tells}
use Rattle.std.proofs.Math.Bool.{or-false}
use Rattle.elf_image.specs.declared.image.ImagePage.{ImagePage}
use Rattle.elf_image.specs.declared.runs.Run.{Run}
use Rattle.elf_image.specs.ElfFiles.{touches, share_address, overlap, gives, loaded_byte}
use Rattle.elf_image.specs.WrittenFiles.{flags_of}
use Rattle.elf_image.proofs.HeadersBack.{run_header}
use Rattle.elf_image.proofs.Tiles.{IsRun, Tile}

-- a page that stands for none
pub blank : ImagePage
blank = record { number = 0; page = record { rights = record { 0 = 0 }; bytes = [] } }

abbrev pub page_at : List ImagePage → ℕ → ImagePage
page_at pages i = slice_index_or pages i blank

abbrev pub Rising : List ImagePage → Type 0
Rising pages = (i j : ℕ) → i < j → j < length pages → (page_at pages i).number < (page_at pages j).number

-- a run touches its own pages and no others
touch_in : (start x : ℕ) (run : Run) → run.number ≤ x → x < run.number + run.count → touches x (run_header start run) ≡ true
touch_in start x run low high = lt-ltb _ _ (omega arith)

touch_below : (start x : ℕ) (run : Run) → x < run.number → touches x (run_header start run) ≡ false
touch_below start x run low = le-ltb _ _ (omega arith)

touch_above : (start x : ℕ) (run : Run) → run.number + run.count ≤ x → touches x (run_header start run) ≡ false
touch_above start x run high = le-ltb _ _ (omega arith)

number_in : (pages : List ImagePage) (run : Run) (i : ℕ) → IsRun pages run → run.place ≤ i → i < run.place + run.count → (page_at pages i).number ≡ run.number + (i - run.place)
number_in pages run i one low high =
    let at = one.numbers (i - run.place) blank (omega arith) in
    let place : run.place + (i - run.place) ≡ i = omega arith in
    let same = ap (λ n. (page_at pages n).number) place in
    omega arith

rights_in : (pages : List ImagePage) (run : Run) (i : ℕ) → IsRun pages run → run.place ≤ i → i < run.place + run.count → (page_at pages i).page.rights ≡ run.rights
rights_in pages run i one low high =
    let place : i ≡ run.place + (i - run.place) = omega arith in
    ap (λ n. (page_at pages n).page.rights) place ∙ one.rights (i - run.place) blank (omega arith)

own : (pages : List ImagePage) (start i : ℕ) (run : Run) → IsRun pages run → run.place ≤ i → i < run.place + run.count → touches (page_at pages i).number (run_header start run) ≡ true
own pages start i run one low high = let at = number_in pages run i one low high in touch_in start (page_at pages i).number run (omega arith) (omega arith)

before : (pages : List ImagePage) (start i : ℕ) (run : Run) → Rising pages → IsRun pages run → i < run.place → touches (page_at pages i).number (run_header start run) ≡ false
before pages start i run up one low =
    let within = one.within in
    let full = one.full in
    let first = number_in pages run run.place one (omega arith) (omega arith) in
    let rise = up i run.place low (omega arith) in
    touch_below start (page_at pages i).number run (omega arith)

-- the last number of a run is below those of all pages behind it
end_below : (pages : List ImagePage) (i : ℕ) (run : Run) → Rising pages → IsRun pages run → run.place + run.count ≤ i → i < length pages → run.number + run.count ≤ (page_at pages i).number
end_below pages i run up one high within =
    let full = one.full in
    let last = number_in pages run (run.place + run.count - 1) one (omega arith) (omega arith) in
    let rise = up (run.place + run.count - 1) i (omega arith) within in
    omega arith

behind : (pages : List ImagePage) (start i : ℕ) (run : Run) → Rising pages → IsRun pages run → run.place + run.count ≤ i → i < length pages → touches (page_at pages i).number (run_header start run) ≡ false
behind pages start i run up one high within = touch_above start (page_at pages i).number run (end_below pages i run up one high within)

-- each page is touched
pub touched : (pages : List ImagePage) (start place : ℕ) (segments : List Run) (i : ℕ) → Tile pages place segments → place ≤ i → i < length pages → list_any (touches (page_at pages i).number) (map (run_header start) segments) ≡ true
touched pages start place [] i tile low within = absurd (omega arith)
touched pages start place (run ∷ later) i tile low within =
    let at = tile.0 in
    elim (leb_tells (place + run.count) i) [
      | inl past ↦ or_right (touches (page_at pages i).number (run_header start run)) (list_any (touches (page_at pages i).number) (map (run_header start) later)) (touched pages start (place + run.count) later i tile.1.1 past.1 within)
      | inr near ↦ let high = near.1 in ap (λ b. b || list_any (touches (page_at pages i).number) (map (run_header start) later)) (own pages start i run tile.1.0 (omega arith) (omega arith))
    ]

-- and nothing else is
pub touched_only : (pages : List ImagePage) (start place : ℕ) (segments : List Run) (x : ℕ) → Tile pages place segments → list_any (touches x) (map (run_header start) segments) ≡ true → (i : ℕ) × (i < length pages) × ((page_at pages i).number ≡ x)
touched_only pages start place [] x tile e = absurd (false≢true e)
touched_only pages start place (run ∷ later) x tile e =
    elim (leb_tells run.number x) [
      | inl low ↦ elim (leb_tells (run.number + run.count) x) [
        | inl past ↦ touched_only pages start (place + run.count) later x tile.1.1 (sym (ap (λ b. b || list_any (touches x) (map (run_header start) later)) (touch_above start x run past.1)) ∙ e)
        | inr near ↦
            let least = low.1 in
            let most = near.1 in
            let within = tile.1.0.within in
            let at = tile.1.0.numbers (x - run.number) blank (omega arith) in
            (run.place + (x - run.number), omega arith, omega arith)
      ]
      | inr below ↦ touched_only pages start (place + run.count) later x tile.1.1 (sym (ap (λ b. b || list_any (touches x) (map (run_header start) later)) (touch_below start x run below.1)) ∙ e)
    ]

-- runs behind a page give it nothing
given_before : (pages : List ImagePage) (start place : ℕ) (segments : List Run) (flag i : ℕ) → Rising pages → Tile pages place segments → i < place → list_any (gives flag (page_at pages i).number) (map (run_header start) segments) ≡ false
given_before pages start place [] flag i up tile low = refl
given_before pages start place (run ∷ later) flag i up tile low =
    let at = tile.0 in
    ap (λ b. (b && not (bit_and (flags_of run.rights) flag == 0)) || list_any (gives flag (page_at pages i).number) (map (run_header start) later)) (before pages start i run up tile.1.0 (omega arith))
    ∙ given_before pages start (place + run.count) later flag i up tile.1.1 (omega arith)

-- the run of a page gives it its rights
pub granted : (pages : List ImagePage) (start place : ℕ) (segments : List Run) (flag i : ℕ) → Rising pages → Tile pages place segments → place ≤ i → i < length pages → list_any (gives flag (page_at pages i).number) (map (run_header start) segments) ≡ not (bit_and (flags_of (page_at pages i).page.rights) flag == 0)
granted pages start place [] flag i up tile low within = absurd (omega arith)
granted pages start place (run ∷ later) flag i up tile low within =
    let at = tile.0 in
    let x : ℕ = (page_at pages i).number in
    elim (leb_tells (place + run.count) i) [
      | inl past ↦
          let far = past.1 in
          ap (λ b. (b && not (bit_and (flags_of run.rights) flag == 0)) || list_any (gives flag x) (map (run_header start) later)) (behind pages start i run up tile.1.0 (omega arith) within)
          ∙ granted pages start (place + run.count) later flag i up tile.1.1 far within
      | inr near ↦
          let high = near.1 in
          ap (λ b. (b && not (bit_and (flags_of run.rights) flag == 0)) || list_any (gives flag x) (map (run_header start) later)) (own pages start i run tile.1.0 (omega arith) (omega arith))
          ∙ ap (λ b. not (bit_and (flags_of run.rights) flag == 0) || b) (given_before pages start (place + run.count) later flag i up tile.1.1 high)
          ∙ or-false (not (bit_and (flags_of run.rights) flag == 0))
          ∙ ap (λ r. not (bit_and (flags_of r) flag == 0)) (sym (rights_in pages run i tile.1.0 (omega arith) (omega arith)))
    ]

-- and its bytes
pub byte_loaded : (file : List ℕ) (pages : List ImagePage) (start place : ℕ) (segments : List Run) (i offset : ℕ) → Rising pages → Tile pages place segments → place ≤ i → i < length pages → offset < 4096 → loaded_byte file (map (run_header start) segments) (4096 * (page_at pages i).number + offset) ≡ slice_index file (start + (4096 * i + offset))
byte_loaded file pages start place [] i offset up tile low within small = absurd (omega arith)
byte_loaded file pages start place (run ∷ later) i offset up tile low within small =
    let at = tile.0 in
    let x : ℕ = (page_at pages i).number in
    let here : ℕ = slice_index file (start + 4096 * run.place + (4096 * x + offset - 4096 * run.number)) in
    let there : ℕ = loaded_byte file (map (run_header start) later) (4096 * x + offset) in
    elim (leb_tells (place + run.count) i) [
      | inl past ↦
          let far = past.1 in
          let end = end_below pages i run up tile.1.0 (omega arith) within in
          ap (λ b. cond b here there) (and_false (nat_le (4096 * run.number) (4096 * x + offset)) _ (le-ltb (4096 * x + offset) (4096 * run.number + 4096 * run.count) (omega arith)))
          ∙ byte_loaded file pages start (place + run.count) later i offset up tile.1.1 far within small
      | inr near ↦
          let high = near.1 in
          let number = number_in pages run i tile.1.0 (omega arith) (omega arith) in
          let place_is : start + 4096 * run.place + (4096 * x + offset - 4096 * run.number) ≡ start + (4096 * i + offset) = omega arith in
          ap (λ b. cond b here there) (both (nat_le (4096 * run.number) (4096 * x + offset)) (nat_lt (4096 * x + offset) (4096 * run.number + 4096 * run.count)) (le-leb _ _ (omega arith)) (lt-ltb _ _ (omega arith)))
          ∙ ap (slice_index file) place_is
    ]
  where
    and_false : (a b : Bool) → b ≡ false → (a && b) ≡ false
    and_false true b e = e
    and_false false b e = refl

    both : (a b : Bool) → a ≡ true → b ≡ true → (a && b) ≡ true
    both true b e f = f
    both false b e f = absurd (false≢true e)

-- no run shares an address with one behind it
apart_from : (pages : List ImagePage) (start place : ℕ) (one : Run) (segments : List Run) → Rising pages → IsRun pages one → one.place + one.count ≤ place → Tile pages place segments → list_any (share_address (run_header start one)) (map (run_header start) segments) ≡ false
apart_from pages start place one [] up is low tile = refl
apart_from pages start place one (run ∷ later) up is low tile =
    let at = tile.0 in
    let within = tile.1.0.within in
    let full = tile.1.0.full in
    let first = number_in pages run run.place tile.1.0 (omega arith) (omega arith) in
    let end = end_below pages run.place one up is (omega arith) (omega arith) in
    ap (λ b. b || list_any (share_address (run_header start one)) (map (run_header start) later)) (le-ltb (max (4096 * one.number) (4096 * run.number)) (min (4096 * one.number + 4096 * one.count) (4096 * run.number + 4096 * run.count)) (omega arith))
    ∙ apart_from pages start (place + run.count) one later up is (omega arith) tile.1.1

pub no_overlap : (pages : List ImagePage) (start place : ℕ) (segments : List Run) → Rising pages → Tile pages place segments → overlap (map (run_header start) segments) ≡ false
no_overlap pages start place [] up tile = refl
no_overlap pages start place (run ∷ later) up tile =
    let at = tile.0 in
    ap (λ b. b || overlap (map (run_header start) later)) (apart_from pages start (place + run.count) run later up tile.1.0 (omega arith) tile.1.1)
    ∙ no_overlap pages start (place + run.count) later up tile.1.1

-- what holds of each run of tiles
pub tile_each : (pages : List ImagePage) (place : ℕ) (segments : List Run) → Tile pages place segments → (k : ℕ) (d : Run) → k < length segments → IsRun pages (slice_index_or segments k d)
tile_each pages place [] tile k d l = absurd (omega arith)
tile_each pages place (run ∷ later) tile zero d l = tile.1.0
tile_each pages place (run ∷ later) tile (suc k) d l = tile_each pages (place + run.count) later tile.1.1 k d (omega arith)

-- a run ends below 0x70000
pub run_low : (pages : List ImagePage) (run : Run) → ((i : ℕ) → i < length pages → (page_at pages i).number < 458752) → IsRun pages run → run.number + run.count ≤ 458752
run_low pages run low one =
    let full = one.full in
    let within = one.within in
    let last = number_in pages run (run.place + run.count - 1) one (omega arith) (omega arith) in
    let below = low (run.place + run.count - 1) (omega arith) in
    omega arith
