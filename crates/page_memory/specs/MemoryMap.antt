-- The map of a process's memory, and how many pages it may have (this project's profile; drawn in docs/GLOSSARY.md).
use Rattle.std.specs.Prelude.{ℕ}

-- where words and assembled text begin: the address, and the number of that page
abbrev pub text_start : ℕ
text_start = 0x1_0000

abbrev pub text_first_page : ℕ
text_first_page = 0x10

-- no image and no break reaches further than this address, and so no image has a page of this number
abbrev pub image_end : ℕ
image_end = 0x7000_0000

abbrev pub image_end_page : ℕ
image_end_page = 0x7_0000

-- the stack: the number of its first page, how many pages it has, and where hart 0's stack pointer stands at first
abbrev pub stack_first_page : ℕ
stack_first_page = 0x7_FFC0

abbrev pub stack_page_count : ℕ
stack_page_count = 64

abbrev pub first_stack_pointer : ℕ
first_stack_pointer = 0x7FFF_FFF0

-- at most so many pages are mapped: those of image, break and stack together
abbrev pub most_pages : ℕ
most_pages = 4096

-- an image has at most so many pages, in at most so many regions of 4 MiB
abbrev pub most_image_pages : ℕ
most_image_pages = 4032

abbrev pub most_image_regions : ℕ
most_image_regions = 56
