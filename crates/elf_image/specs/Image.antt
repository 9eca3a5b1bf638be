-- Images: an entry, and pages with rights by rising number.
use Rattle.std.specs.Prelude.{ℕ, ◌+◌, ◌-◌, ◌*◌, ◌/◌, ◌<◌, ◌≤◌, List, ◌++◌, length, map, take, drop, replicate, IsTrue, flat_map, slice_index_or, ◌==◌, ◌&&◌, Bool}
use Rattle.std.specs.List.{range_with_len, list_any}
use Rattle.byteorder.specs.Endian.{little_bytes}
use Rattle.page_memory.specs.Words.{page_number}
use Rattle.page_memory.specs.MemoryMap.{text_start, text_first_page, image_end_page, most_image_pages, most_image_regions}
use Rattle.page_memory.specs.Rights.{read_execute, may}
use Rattle.page_memory.specs.declared.rights.Rights.{Rights}
use Rattle.page_memory.specs.declared.words.Access.TheVariants.{Fetch, Load, Store}
use Rattle.elf_image.specs.declared.image.ImagePage.{ImagePage}
use Rattle.elf_image.specs.Regions.{regions}

pub record ImageContent : Type 0 where
  pub entry : ℕ
  pub pages : List ImagePage

-- pages that an image may have
pub record ArePages (pages : List ImagePage) : Type 0 where
  -- they come by rising number, and so no number twice
  pub rising : (i j : ℕ) (d : ImagePage) → i < j → j < length pages → (slice_index_or pages i d).number < (slice_index_or pages j d).number
  -- they lie below the end of images
  pub low : (i : ℕ) (d : ImagePage) → i < length pages → (slice_index_or pages i d).number < image_end_page
  pub few : length pages ≤ most_image_pages
  -- they lie in few regions of 4 MiB
  pub compact : length (regions pages) ≤ most_image_regions
  -- they have no rights but to read, to write and to execute
  pub plain : (i : ℕ) (d : ImagePage) → i < length pages → (slice_index_or pages i d).page.rights.0 < 8
  -- what may be written may be read
  pub readable : (i : ℕ) (d : ImagePage) → i < length pages → IsTrue (may Store (slice_index_or pages i d).page.rights) → IsTrue (may Load (slice_index_or pages i d).page.rights)

-- the entry lies in a page that may be executed
abbrev pub lies_in_code : ℕ → List ImagePage → Bool
lies_in_code entry pages = list_any (λ listed. (listed.number == page_number entry) && may Fetch listed.page.rights) pages

-- what every image keeps
pub record IsLawful (image : ImageContent) : Type 0 where
  pub pages : ArePages image.pages
  pub entered : IsTrue (lies_in_code image.entry image.pages)

-- the most words that fit into the pages of an image, 1024 in each
abbrev pub most_words : ℕ
most_words = 4128768

-- the bytes of words, the lowest of each first
abbrev pub bytes_of : List ℕ → List ℕ
bytes_of words = flat_map (little_bytes 4) words

-- bytes with zeros up to a page's end
abbrev pub padded : List ℕ → List ℕ
padded bytes = bytes ++ replicate (4096 - length bytes) 0

-- the rights to read and to execute
abbrev pub readable_code : Rights
readable_code = read_execute

-- the k-th page of words: it may be read and executed, and has the 1024 words from word 1024 k on
abbrev pub word_page : List ℕ → ℕ → ImagePage
word_page words k = record { number = text_first_page + k; page = record { rights = readable_code; bytes = padded (bytes_of (take 1024 (drop (1024 * k) words))) } }

-- how many pages words need
abbrev pub word_pages : List ℕ → ℕ
word_pages words = (length words + 1023) / 1024

-- the image of words: they begin where text begins, and the first is the entry
unfoldable pub image_of_words : List ℕ → ImageContent
image_of_words words = record { entry = text_start; pages = map (word_page words) (range_with_len 0 (word_pages words)) }
