-- Laws of entries for the crates above: what calls do to the entry of a mapped page.
use Rattle.std.specs.Prelude.{◌≡◌, ℕ, ◌+◌, ◌*◌, ◌%◌, Bool, true, false, ◌&&◌, ◌||◌, if◌then◌else◌, Some, Ok, Err, refl}
use Rattle.std.proofs.Common.{sym, ap, ◌∙◌, lit<}
use Rattle.page_memory.specs.declared.words.Access.{Access}
use Rattle.page_memory.specs.declared.words.Access.TheVariants.{Fetch, Load, Store}
use Rattle.page_memory.specs.declared.rights.Rights.{Rights}
use Rattle.page_memory.specs.Rights.{has, may}
use Rattle.sv32_table.specs.declared.fault.WalkFault.TheVariants.{PageFault}
use Rattle.sv32_table.specs.Entry.{Entry, entry_of, word_of, shape_of, allows, touched, blank, leaf_entry, page_entry}
use Rattle.sv32_table.specs.EntryAt.{is_leaf, walk_entry, walked_entry, unmapped_entry, unaccessed_entry, undirtied_entry, accessed_of, dirty_mark_of, dirty_of}
use Rattle.sv32_table.proofs.EntryWordLaws.{entry_of-word_of}

abbrev pub is_store : Access → Bool
is_store Store = true
is_store Load = false
is_store Fetch = false

-- as `map` makes it
pub leaf_entry-page_entry : (ppn : ℕ) (rights : Rights) (accessed : Bool) → leaf_entry ppn rights accessed ≡ page_entry ppn rights accessed false
unfolding leaf_entry page_entry
leaf_entry-page_entry ppn rights accessed = refl

pub leaf_without_dirty : (ppn : ℕ) (rights : Rights) (accessed : Bool) → word_of (leaf_entry ppn rights accessed) ≡ word_of (page_entry ppn rights accessed false)
leaf_without_dirty ppn rights accessed = ap word_of (leaf_entry-page_entry ppn rights accessed)

pub leaf_with_dirty : (ppn : ℕ) (rights : Rights) (accessed : Bool) (word : ℕ) → word ≡ word_of (leaf_entry ppn rights accessed)
    → word_of (record (entry_of word) { dirty = true }) ≡ word_of (page_entry ppn rights accessed true)
unfolding page_entry leaf_entry
leaf_with_dirty ppn rights accessed word is =
    ap (λ w. word_of (record (entry_of w) { dirty = true })) is
    ∙ ap (λ (x : Entry). word_of (record x { dirty = true })) (entry_of-word_of (leaf_entry ppn rights accessed) (lit< tt))

-- as `unmap`, `test_and_clear_accessed` and `clear_dirty` leave it, and what they answer
pub unmapped_entry-page_entry : (ppn : ℕ) (rights : Rights) (accessed dirty : Bool) → unmapped_entry (page_entry ppn rights accessed dirty) ≡ blank
unfolding unmapped_entry page_entry leaf_entry
unmapped_entry-page_entry ppn rights accessed dirty = refl

pub unaccessed_entry-page_entry : (ppn : ℕ) (rights : Rights) (accessed dirty : Bool)
    → unaccessed_entry (page_entry ppn rights accessed dirty) ≡ page_entry ppn rights false dirty
unfolding unaccessed_entry page_entry leaf_entry
unaccessed_entry-page_entry ppn rights accessed dirty = refl

pub undirtied_entry-page_entry : (ppn : ℕ) (rights : Rights) (accessed dirty : Bool)
    → undirtied_entry (page_entry ppn rights accessed dirty) ≡ page_entry ppn rights accessed false
unfolding undirtied_entry page_entry leaf_entry
undirtied_entry-page_entry ppn rights accessed dirty = refl

pub accessed_of-page_entry : (ppn : ℕ) (rights : Rights) (accessed dirty : Bool) → accessed_of (page_entry ppn rights accessed dirty) ≡ Some accessed
unfolding accessed_of page_entry leaf_entry
accessed_of-page_entry ppn rights accessed dirty = refl

pub dirty_of-page_entry : (ppn : ℕ) (rights : Rights) (accessed dirty : Bool) → dirty_of (page_entry ppn rights accessed dirty) ≡ dirty
unfolding dirty_of page_entry leaf_entry
dirty_of-page_entry ppn rights accessed dirty = refl

-- and where there is none
pub unmapped_entry-blank : unmapped_entry blank ≡ blank
unfolding unmapped_entry
unmapped_entry-blank = refl

-- a walk where there is none is a page fault, which changes nothing
pub walk_entry-blank : (address : ℕ) (access : Access) → walk_entry blank address access ≡ Err PageFault
unfolding walk_entry shape_of
walk_entry-blank address access = refl

-- a walk for a mapped page sets A, and D for a store
pub touched-page_entry : (access : Access) (ppn : ℕ) (rights : Rights) (accessed dirty : Bool)
    → touched access (page_entry ppn rights accessed dirty) ≡ page_entry ppn rights true (is_store access || dirty)
unfolding touched page_entry leaf_entry
touched-page_entry Fetch ppn rights accessed dirty = refl
touched-page_entry Load ppn rights accessed dirty = refl
touched-page_entry Store ppn rights accessed dirty = refl

-- its fields
pub ppn-page_entry : (ppn : ℕ) (rights : Rights) (accessed dirty : Bool) → (page_entry ppn rights accessed dirty).ppn ≡ ppn
unfolding page_entry leaf_entry
ppn-page_entry ppn rights accessed dirty = refl

pub accessed-page_entry : (ppn : ℕ) (rights : Rights) (accessed dirty : Bool) → (page_entry ppn rights accessed dirty).accessed ≡ accessed
unfolding page_entry leaf_entry
accessed-page_entry ppn rights accessed dirty = refl

pub dirty-page_entry : (ppn : ℕ) (rights : Rights) (accessed dirty : Bool) → (page_entry ppn rights accessed dirty).dirty ≡ dirty
unfolding page_entry leaf_entry
dirty-page_entry ppn rights accessed dirty = refl

-- whether a walk finds a leaf that allows the access, over the tests of the rights: W without R is no lawful right
abbrev finds : Access → Bool → Bool → Bool → Bool
finds Fetch read write execute = execute
finds Load read write execute = read
finds Store read write execute = write

may-finds : (access : Access) (rights : Rights) → may access rights ≡ finds access (has rights 1) (has rights 2) (has rights 4)
may-finds Fetch rights = refl
may-finds Load rights = refl
may-finds Store rights = refl

tested : ℕ → Bool → Bool → Bool → Bool → Bool → Entry
tested ppn read write execute accessed dirty =
    record blank { valid = true; read = read; write = write; execute = execute; user = true; accessed = accessed; dirty = dirty; ppn = ppn }

finds-tested : (access : Access) (ppn : ℕ) (read write execute accessed dirty : Bool) → (write ≡ true → read ≡ true)
    → (is_leaf (shape_of (tested ppn read write execute accessed dirty)) && allows access (tested ppn read write execute accessed dirty)) ≡ finds access read write execute
unfolding tested shape_of allows
finds-tested Fetch ppn true true true accessed dirty lawful = refl
finds-tested Fetch ppn true true false accessed dirty lawful = refl
finds-tested Fetch ppn true false true accessed dirty lawful = refl
finds-tested Fetch ppn true false false accessed dirty lawful = refl
finds-tested Fetch ppn false true execute accessed dirty lawful = let clash : false ≡ true = lawful refl in cc
finds-tested Fetch ppn false false true accessed dirty lawful = refl
finds-tested Fetch ppn false false false accessed dirty lawful = refl
finds-tested Load ppn true true true accessed dirty lawful = refl
finds-tested Load ppn true true false accessed dirty lawful = refl
finds-tested Load ppn true false true accessed dirty lawful = refl
finds-tested Load ppn true false false accessed dirty lawful = refl
finds-tested Load ppn false true execute accessed dirty lawful = let clash : false ≡ true = lawful refl in cc
finds-tested Load ppn false false true accessed dirty lawful = refl
finds-tested Load ppn false false false accessed dirty lawful = refl
finds-tested Store ppn true true true accessed dirty lawful = refl
finds-tested Store ppn true true false accessed dirty lawful = refl
finds-tested Store ppn true false true accessed dirty lawful = refl
finds-tested Store ppn true false false accessed dirty lawful = refl
finds-tested Store ppn false true execute accessed dirty lawful = let clash : false ≡ true = lawful refl in cc
finds-tested Store ppn false false true accessed dirty lawful = refl
finds-tested Store ppn false false false accessed dirty lawful = refl

finds-page_entry : (access : Access) (ppn : ℕ) (rights : Rights) (accessed dirty : Bool) → (has rights 2 ≡ true → has rights 1 ≡ true)
    → (is_leaf (shape_of (page_entry ppn rights accessed dirty)) && allows access (page_entry ppn rights accessed dirty)) ≡ may access rights
unfolding page_entry leaf_entry tested
finds-page_entry access ppn rights accessed dirty lawful =
    finds-tested access ppn (has rights 1) (has rights 2) (has rights 4) accessed dirty lawful ∙ sym (may-finds access rights)

-- a walk for a mapped page gives its frame for each access that its rights allow, and is a page fault for any other
pub walk_entry-page_entry : (address : ℕ) (access : Access) (ppn : ℕ) (rights : Rights) (accessed dirty : Bool) → (has rights 2 ≡ true → has rights 1 ≡ true)
    → walk_entry (page_entry ppn rights accessed dirty) address access
    ≡ (if may access rights then Ok (record { pte = record { 0 = word_of (page_entry ppn rights true (is_store access || dirty)) }; physical = ppn * 0x1000 + address % 0x1000 }) else Err PageFault)
unfolding walk_entry
walk_entry-page_entry address access ppn rights accessed dirty lawful =
    rw (finds-page_entry access ppn rights accessed dirty lawful, touched-page_entry access ppn rights accessed dirty, ppn-page_entry ppn rights accessed dirty) refl

pub walked_entry-page_entry : (access : Access) (ppn : ℕ) (rights : Rights) (accessed dirty : Bool) → (has rights 2 ≡ true → has rights 1 ≡ true)
    → walked_entry (page_entry ppn rights accessed dirty) access
    ≡ (if may access rights then page_entry ppn rights true (is_store access || dirty) else page_entry ppn rights accessed dirty)
unfolding walked_entry
walked_entry-page_entry access ppn rights accessed dirty lawful = rw (finds-page_entry access ppn rights accessed dirty lawful, touched-page_entry access ppn rights accessed dirty) refl
