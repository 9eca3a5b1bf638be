-- The file that is written of an image has no fault, and its image is that image.
use Rattle.std.proofs.Common.{◌≡◌, ℕ, suc, ◌+◌, ◌*◌, ◌<◌, ◌≤◌, Bool, true, false, cond, not, nat_lt, ◌||◌, List, [], ◌∷◌, ◌++◌, length, map, flat_map, slice_index_or, None, arith, refl, ap, ◌∙◌, append_assoc, length-append, lt-ltb, le-ltb}
use Rattle.std.specs.List.{list_any, filter}
use Rattle.std.specs.Option.{option_or}
use Rattle.std.proofs.lemmas.Bool.{and_right}
use Rattle.elf_image.proofs.PartsLaws.{no_fault_after}
use Rattle.elf_image.specs.declared.runs.Run.{Run}
use Rattle.elf_image.specs.declared.program_header.ProgramHeader.{ProgramHeader}
use Rattle.elf_image.specs.declared.fault.ElfFault.TheVariants.{Dynamic, SegmentOutOfFile, SizeOrder, Range, Overlap, TooLarge, TooSparse, EntryNotExecutable}
use Rattle.elf_image.specs.Image.{ImageContent, IsLawful}
use Rattle.elf_image.specs.Parts.{rising, entered, image_of_parts, readable_page}
use Rattle.elf_image.proofs.RisingLaws.{rises}
use Rattle.elf_image.specs.Regions.{regions}
use Rattle.elf_image.specs.ElfFiles.{file_entry, program_headers, load_headers, segments, is_load, is_dynamic, is_out_of_file, is_larger_in_file, is_out_of_range, overlap, loaded_pages, file_pages, header_fault, program_fault, loading_fault, file_fault, file_image}
use Rattle.elf_image.specs.WrittenFiles.{runs, file_header, segment_header, padding, pages_offset, page_bytes, file_front, elf_file, IsHeld}
use Rattle.elf_image.proofs.HeadersBack.{run_header, headers_back, header_passes, entry_back}
use Rattle.elf_image.proofs.LoadedPages.{pages_loaded, still_readable}
use Rattle.elf_image.proofs.LoadedRuns.{blank, no_overlap, tile_each, run_low}
use Rattle.elf_image.proofs.Tiles.{IsRun, runs_tile}
use Rattle.elf_image.proofs.WrittenBytes.{length-file_front, length-page_bytes, length-runs, runs_have_room}

-- no header fails a test, or all pass it
no_header_passes : (test : ProgramHeader → Bool) (header : Run → ProgramHeader) (found : List Run) → ((k : ℕ) (d : Run) → k < length found → test (header (slice_index_or found k d)) ≡ false) → list_any test (map header found) ≡ false
no_header_passes test header [] each = refl
no_header_passes test header (run ∷ later) each = ap (λ b. b || list_any test (map header later)) (each 0 run (omega arith)) ∙ no_header_passes test header later (λ k d l. each (suc k) d (omega arith))

each_header_passes : (test : ProgramHeader → Bool) (header : Run → ProgramHeader) (found : List Run) → ((k : ℕ) (d : Run) → k < length found → test (header (slice_index_or found k d)) ≡ true) → filter test (map header found) ≡ map header found
each_header_passes test header [] each = refl
each_header_passes test header (run ∷ later) each =
    let others = each_header_passes test header later (λ k d l. each (suc k) d (omega arith)) in
    ap (λ b. cond b (header run ∷ filter test (map header later)) (filter test (map header later))) (each 0 run (omega arith))
    ∙ ap (λ l. header run ∷ l) others

abbrev count_of : ImageContent → ℕ
count_of image = length (runs image.pages)

abbrev start_of : ImageContent → ℕ
start_of image = pages_offset (count_of image)

abbrev headers_of : ImageContent → List ProgramHeader
headers_of image = map (run_header (start_of image)) (runs image.pages)

-- the file is its headers and what stands behind them
in_parts : (image : ImageContent) → elf_file image ≡ file_header image.entry (count_of image) ++ (flat_map (segment_header (start_of image)) (runs image.pages) ++ (padding (count_of image) ++ page_bytes image.pages))
unfolding elf_file file_front
in_parts image =
    append_assoc (file_header image.entry (count_of image)) (flat_map (segment_header (start_of image)) (runs image.pages) ++ padding (count_of image)) (page_bytes image.pages)
    ∙ ap (λ l. file_header image.entry (count_of image) ++ l) (append_assoc (flat_map (segment_header (start_of image)) (runs image.pages)) (padding (count_of image)) (page_bytes image.pages))

size : (image : ImageContent) → IsHeld image → length (elf_file image) ≡ start_of image + 4096 * length image.pages
unfolding elf_file
size image held =
    length-append (file_front image.entry (runs image.pages)) (page_bytes image.pages)
    ∙ (λ i. length-file_front image.entry (runs image.pages) i + length-page_bytes image.pages held.whole i)

long : (image : ImageContent) → 52 + 32 * count_of image ≤ start_of image
unfolding pages_offset
long image = omega arith

few_runs : (image : ImageContent) → IsHeld image → count_of image ≤ 4032
few_runs image held = let runs_few = length-runs image.pages in let few = held.lawful.pages.few in omega arith

program_headers_are : (image : ImageContent) → IsHeld image → program_headers (elf_file image) ≡ headers_of image
program_headers_are image held =
    ap program_headers (in_parts image)
    ∙ headers_back image.entry (start_of image) (runs image.pages) (padding (count_of image) ++ page_bytes image.pages) (let few = few_runs image held in omega arith) (runs_have_room image.pages (runs image.pages) held.lawful.pages.few held.lawful.pages.low refl)

load_headers_are : (image : ImageContent) → IsHeld image → load_headers (elf_file image) ≡ headers_of image
unfolding load_headers
load_headers_are image held = ap (filter is_load) (program_headers_are image held) ∙ each_header_passes is_load (run_header (start_of image)) (runs image.pages) (λ k d l. refl)

run_at : (image : ImageContent) (k : ℕ) (d : Run) → k < count_of image → IsRun image.pages (slice_index_or (runs image.pages) k d)
run_at image k d l = tile_each image.pages 0 (runs image.pages) (runs_tile image.pages) k d l

segments_are : (image : ImageContent) → IsHeld image → segments (elf_file image) ≡ headers_of image
unfolding segments
segments_are image held =
    ap (filter (λ (header : ProgramHeader). nat_lt 0 header.memory_size)) (load_headers_are image held)
    ∙ each_header_passes (λ (header : ProgramHeader). nat_lt 0 header.memory_size) (run_header (start_of image)) (runs image.pages) (λ k d l. lt-ltb 0 (4096 * (slice_index_or (runs image.pages) k d).count) (let full = (run_at image k d l).full in omega arith))

rise : (image : ImageContent) → IsHeld image → rising image.pages ≡ true
rise image held = rises image.pages (λ k m d e l. held.lawful.pages.rising k m d (omega arith) l)

file_pages_are : (image : ImageContent) → IsHeld image → file_pages (elf_file image) ≡ image.pages
unfolding elf_file
file_pages_are image held =
    ap (loaded_pages (elf_file image)) (segments_are image held)
    ∙ pages_loaded (file_front image.entry (runs image.pages)) image.pages (start_of image) (runs image.pages) (length-file_front image.entry (runs image.pages)) (rise image held)
    (λ i j below within. held.lawful.pages.rising i j blank below within)
    (λ k l. held.lawful.pages.low k blank l)
    (λ k l. held.whole k blank l)
    (λ k l. held.lawful.pages.plain k blank l)
    (runs_tile image.pages)

entry_is : (image : ImageContent) → IsHeld image → file_entry (elf_file image) ≡ image.entry
entry_is image held =
    ap file_entry (in_parts image)
    ∙ entry_back image.entry (count_of image) (flat_map (segment_header (start_of image)) (runs image.pages) ++ (padding (count_of image) ++ page_bytes image.pages)) held.entry

is_entered : (image : ImageContent) → IsLawful image → entered image.entry image.pages ≡ true
unfolding entered
is_entered image lawful = lawful.entered

no_header_fault : (image : ImageContent) → IsHeld image → header_fault (elf_file image) ≡ None
no_header_fault image held =
    let whole = in_parts image in
    let sized = size image held in
    let same = ap length whole in
    let front = long image in
    let few = few_runs image held in
    ap header_fault whole
    ∙ header_passes image.entry (count_of image) (flat_map (segment_header (start_of image)) (runs image.pages) ++ (padding (count_of image) ++ page_bytes image.pages)) (omega arith) (omega arith)

no_program_fault : (image : ImageContent) → IsHeld image → program_fault (elf_file image) ≡ None
unfolding program_fault
no_program_fault image held =
    let file = elf_file image in
    let header = run_header (start_of image) in
    let found = runs image.pages in
    no_fault_after (list_any is_dynamic (program_headers file)) Dynamic _ (ap (list_any is_dynamic) (program_headers_are image held) ∙ no_header_passes is_dynamic header found (λ k d l. refl))
    (no_fault_after (list_any (is_out_of_file (length file)) (load_headers file)) SegmentOutOfFile _ (ap (list_any (is_out_of_file (length file))) (load_headers_are image held) ∙ no_header_passes (is_out_of_file (length file)) header found (λ k d l. in_file k d l))
    (no_fault_after (list_any is_larger_in_file (load_headers file)) SizeOrder _ (ap (list_any is_larger_in_file) (load_headers_are image held) ∙ no_header_passes is_larger_in_file header found (λ k d l. le-ltb (4096 * (slice_index_or found k d).count) (4096 * (slice_index_or found k d).count) (omega arith)))
    (no_fault_after (list_any is_out_of_range (load_headers file)) Range None (ap (list_any is_out_of_range) (load_headers_are image held) ∙ no_header_passes is_out_of_range header found (λ k d l. in_range k d l)) refl)))
  where
    in_file : (k : ℕ) (d : Run) → k < count_of image → is_out_of_file (length (elf_file image)) (run_header (start_of image) (slice_index_or (runs image.pages) k d)) ≡ false
    in_file k d l =
        let run = slice_index_or (runs image.pages) k d in
        let within = (run_at image k d l).within in
        let sized = size image held in
        and_right (nat_lt 0 (4096 * run.count)) (nat_lt (length (elf_file image)) (start_of image + 4096 * run.place + 4096 * run.count)) (le-ltb _ _ (omega arith))

    in_range : (k : ℕ) (d : Run) → k < count_of image → is_out_of_range (run_header (start_of image) (slice_index_or (runs image.pages) k d)) ≡ false
    in_range k d l =
        let run = slice_index_or (runs image.pages) k d in
        let low = run_low image.pages run (λ i h. held.lawful.pages.low i blank h) (run_at image k d l) in
        and_right (nat_lt 0 (4096 * run.count)) (nat_lt 0x7000_0000 (4096 * run.number + 4096 * run.count)) (le-ltb _ _ (omega arith))

no_loading_fault : (image : ImageContent) → IsHeld image → loading_fault (elf_file image) ≡ None
unfolding loading_fault
no_loading_fault image held =
    let file = elf_file image in
    let pages = file_pages_are image held in
    let entry = entry_is image held in
    no_fault_after (overlap (segments file)) Overlap _ (ap overlap (segments_are image held) ∙ no_overlap image.pages (start_of image) 0 (runs image.pages) (λ i j below within. held.lawful.pages.rising i j blank below within) (runs_tile image.pages))
    (no_fault_after (nat_lt 4032 (length (file_pages file))) TooLarge _ (ap (λ p. nat_lt 4032 (length p)) pages ∙ le-ltb 4032 (length image.pages) held.lawful.pages.few)
    (no_fault_after (nat_lt 56 (length (regions (file_pages file)))) TooSparse _ (ap (λ p. nat_lt 56 (length (regions p))) pages ∙ le-ltb 56 (length (regions image.pages)) held.lawful.pages.compact)
    (no_fault_after (not (entered (file_entry file) (file_pages file))) EntryNotExecutable None ((λ i. not (entered (entry i) (pages i))) ∙ ap not (is_entered image held.lawful)) refl)))

pub no_fault : (image : ImageContent) → IsHeld image → file_fault (elf_file image) ≡ None
unfolding file_fault
no_fault image held =
    let header = no_header_fault image held in
    let program = no_program_fault image held in
    let loading = no_loading_fault image held in
    λ i. option_or (option_or (header i) (program i)) (loading i)

pub same_image : (image : ImageContent) → IsHeld image → file_image (elf_file image) ≡ image
unfolding file_image image_of_parts
same_image image held =
    let entry = entry_is image held in
    let pages = ap (map readable_page) (file_pages_are image held) ∙ still_readable image.pages (λ k l. held.lawful.pages.plain k blank l) (λ k l. held.lawful.pages.readable k blank l) in
    λ i. record { entry = entry i; pages = pages i }
