-- What the headers of a written file say when they are read.
use Rattle.std.proofs.Common.{◌≡◌, ℕ, zero, suc, ◌+◌, ◌*◌, ◌<◌, ◌≤◌, ◌^◌, Bool, true, false, cond, nat_lt, ◌&&◌, ◌||◌, List, [], ◌∷◌, ◌++◌, length, drop, map, flat_map, slice_index_or, get_or, None, arith, refl, sym, ap, ◌∙◌, append_assoc, le-ltb}
use Rattle.std.specs.List.{range_with_len}
use Rattle.std.proofs.lemmas.List.{drop-drop, get_or-map, length-map}
use Rattle.std.proofs.lemmas.List.FromFn.{fill_by_all}
use Rattle.std.proofs.Math.Seq.{drop-append-add}
use Rattle.std.proofs.lemmas.Bool.{and_right}
use Rattle.elf_image.proofs.PartsLaws.{no_fault_after}
use Rattle.byteorder.specs.Endian.{little_bytes, little_number}
use Rattle.byteorder.specs.Numbers.{little_number-reads_back}
use Rattle.page_memory.specs.Rights.{may}
use Rattle.page_memory.specs.declared.rights.Rights.{Rights}
use Rattle.page_memory.specs.declared.words.Access.TheVariants.{Fetch, Load, Store}
use Rattle.elf_image.specs.declared.fault.ElfFault.TheVariants.{Short, Headers}
use Rattle.elf_image.specs.declared.runs.Run.{Run}
use Rattle.elf_image.specs.declared.program_header.ProgramHeader.{ProgramHeader}
use Rattle.elf_image.specs.ElfFiles.{half_at, word_at, file_entry, headers_offset, headers_count, header_at, program_headers, header_fault}
use Rattle.elf_image.specs.WrittenFiles.{file_header, segment_header, flags_of, HasRoom}
use Rattle.elf_image.proofs.WrittenBytes.{length-file_header, length-segment_header}

-- a number's bytes give the number
word_back : (x : ℕ) (rest : List ℕ) → x < 2 ^ 32 → little_number 4 (little_bytes 4 x ++ rest) ≡ x
word_back x rest h = little_number-reads_back 4 x rest h

half_back : (x : ℕ) (rest : List ℕ) → x < 2 ^ 16 → little_number 2 (little_bytes 2 x ++ rest) ≡ x
half_back x rest h = little_number-reads_back 2 x rest h

pub entry_back : (entry count : ℕ) (rest : List ℕ) → entry < 2 ^ 32 → file_entry (file_header entry count ++ rest) ≡ entry
unfolding word_at file_header
entry_back entry count rest h = word_back entry [] h

count_back : (entry count : ℕ) (rest : List ℕ) → count < 2 ^ 16 → headers_count (file_header entry count ++ rest) ≡ count
unfolding half_at file_header
count_back entry count rest h = half_back count [] h

offset_back : (entry count : ℕ) (rest : List ℕ) → headers_offset (file_header entry count ++ rest) ≡ 52
unfolding word_at file_header
offset_back entry count rest = refl

pub header_passes : (entry count : ℕ) (rest : List ℕ) → count < 2 ^ 16 → 52 + 32 * count ≤ length (file_header entry count ++ rest) → header_fault (file_header entry count ++ rest) ≡ None
unfolding header_fault half_at word_at file_header
header_passes entry count rest few long =
    let size : ℕ = length (file_header entry count ++ rest) in
    no_fault_after (nat_lt size 52) Short _ (le-ltb size 52 (omega arith))
    (no_fault_after (nat_lt 0 (little_number 2 (little_bytes 2 count)) && (false || nat_lt size (52 + 32 * little_number 2 (little_bytes 2 count)))) Headers None (ap (λ n. nat_lt 0 n && (false || nat_lt size (52 + 32 * n))) (half_back count [] few) ∙ and_right (nat_lt 0 count) (nat_lt size (52 + 32 * count)) (le-ltb size (52 + 32 * count) long)) refl)

-- what the program header of a run says
abbrev pub run_header : ℕ → Run → ProgramHeader
run_header start run =
    record {
      kind = 1;
      offset = start + 4096 * run.place;
      address = 4096 * run.number;
      file_size = 4096 * run.count;
      memory_size = 4096 * run.count;
      flags = flags_of run.rights;
    }

small_flags : (rights : Rights) → flags_of rights < 2 ^ 32
unfolding flags_of
small_flags rights = by (may Load rights) (may Store rights) (may Fetch rights)
  where
    by : (r w x : Bool) → cond r 4 0 + (cond w 2 0 + cond x 1 0) < 2 ^ 32
    by true true true = omega arith
    by true true false = omega arith
    by true false true = omega arith
    by true false false = omega arith
    by false true true = omega arith
    by false true false = omega arith
    by false false true = omega arith
    by false false false = omega arith

header_there : (file : List ℕ) (offset start : ℕ) (run : Run) (rest : List ℕ) → drop offset file ≡ segment_header start run ++ rest → HasRoom start run → header_at file offset ≡ run_header start run
unfolding header_at word_at segment_header
header_there file offset start run rest e room =
    λ i. record {
      kind = ap (little_number 4) e i;
      offset = (ap (little_number 4) (step 4) ∙ word_back (start + 4096 * run.place) [] room.filed) i;
      address = (ap (little_number 4) (step 8) ∙ word_back (4096 * run.number) [] room.low) i;
      file_size = (ap (little_number 4) (step 16) ∙ word_back (4096 * run.count) [] room.short) i;
      memory_size = (ap (little_number 4) (step 20) ∙ word_back (4096 * run.count) [] room.short) i;
      flags = (ap (little_number 4) (step 24) ∙ word_back (flags_of run.rights) [] (small_flags run.rights)) i;
    }
  where
    step : (j : ℕ) → drop (offset + j) file ≡ drop j (segment_header start run ++ rest)
    step j = sym (drop-drop j offset file) ∙ ap (drop j) e

-- the k-th program header
header_found : (start : ℕ) (segments : List Run) (tail : List ℕ) (k : ℕ) (d : Run) → k < length segments → (rest : List ℕ) × (drop (32 * k) (flat_map (segment_header start) segments ++ tail) ≡ segment_header start (slice_index_or segments k d) ++ rest)
header_found start [] tail k d l = absurd (omega arith)
header_found start (run ∷ later) tail zero d l = (flat_map (segment_header start) later ++ tail, append_assoc (segment_header start run) (flat_map (segment_header start) later) tail)
header_found start (run ∷ later) tail (suc k) d l =
    let next = header_found start later tail k d (omega arith) in
    let size = length-segment_header start run in
    let far : 32 * suc k ≡ length (segment_header start run) + 32 * k = omega arith in (
      next.0,
      (λ i. drop (far i) (append_assoc (segment_header start run) (flat_map (segment_header start) later) tail i))
          ∙ drop-append-add (segment_header start run) (flat_map (segment_header start) later ++ tail) (32 * k)
          ∙ next.1,
    )

pub headers_back : (entry start : ℕ) (segments : List Run) (tail : List ℕ) → length segments < 2 ^ 16 → ((k : ℕ) (d : Run) → k < length segments → HasRoom start (slice_index_or segments k d)) → program_headers (file_header entry (length segments) ++ (flat_map (segment_header start) segments ++ tail)) ≡ map (run_header start) segments
unfolding program_headers
headers_back entry start segments tail few room =
    (λ i. map (λ k. header_at file (offset_back entry (length segments) rest i + 32 * k)) (range_with_len 0 (count_back entry (length segments) rest few i)))
    ∙ sym (fill_by_all (λ k. header_at file (52 + 32 * k)) (map (run_header start) segments) (length segments) (run_header 0 none) (length-map segments (run_header start)) each)
  where
    rest : List ℕ
    rest = flat_map (segment_header start) segments ++ tail

    file : List ℕ
    file = file_header entry (length segments) ++ rest

    none : Run
    none = record { number = 0; place = 0; count = 0; rights = record { 0 = 0 } }

    each : (k : ℕ) → k < length segments → get_or (map (run_header start) segments) k (run_header 0 none) ≡ header_at file (52 + 32 * k)
    each k l =
        let found = header_found start segments tail k none l in
        let at : 52 + 32 * k ≡ length (file_header entry (length segments)) + 32 * k = let size = length-file_header entry (length segments) in omega arith in
        get_or-map (run_header start) segments k none (run_header 0 none) l
        ∙ sym (header_there file (52 + 32 * k) start (slice_index_or segments k none) found.0 (ap (λ n. drop n file) at ∙ drop-append-add (file_header entry (length segments)) rest (32 * k) ∙ found.1) (room k none l))
