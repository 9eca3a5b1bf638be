-- A walk over the list of tables is the translation process over the words that the tables stand for.
use Rattle.std.proofs.Common.{◌≡◌, ℕ, ◌+◌, ◌-◌, ◌*◌, ◌/◌, ◌%◌, ◌^◌, ◌<◌, ◌≤◌, Bool, true, false, cond, refl, ap, arith, List, length, Some, None, Result, Ok, Err, not, ◌&&◌, ◌||◌, nat_le, nat_lt}
use Rattle.std.proofs.lemmas.Bool.Decides.{nat_tests}
use Rattle.std.specs.FinMap.{get, insert}
use Rattle.page_memory.specs.declared.words.Access.{Access}
use Rattle.sv32_table.specs.declared.pte.Shape.{Shape}
use Rattle.sv32_table.specs.declared.pte.Shape.TheVariants.{Invalid, Pointer, Leaf}
use Rattle.sv32_table.specs.declared.fault.WalkFault.{WalkFault}
use Rattle.sv32_table.specs.declared.fault.WalkFault.TheVariants.{PageFault}
use Rattle.sv32_table.specs.declared.walk.Leaf.{Leaf as Translation}
use Rattle.sv32_table.specs.Entry.{Entry, entry_of, word_of, shape_of, has_reserved, allows, is_aligned, touched}
use Rattle.sv32_table.specs.Tables.{IsSized, Walked, word_in, with_word, table_of, last_step, next_step, root_step, walk_end, physical_of, permits, translated, walked_from, walked}
use Rattle.sv32_table.specs.TranslationProcess.{Success, physical_words, FollowsProcess, IsTranslation, translate, level_1, word_1, entry_1, leaf_1, level_0, word_0, entry_0, leaf_0, physical_0, physical_1, vpn_0, vpn_1}
use Rattle.sv32_table.proofs.TableWords.{get-words_of, get_below-words_of, get_past-words_of, words_of-set}

-- a walk's result and tables follow what the process comes to
abbrev FollowsIn : List (List ℕ) → Result Success WalkFault → Walked → Type 0
FollowsIn tables outcome walk = FollowsProcess outcome (physical_words tables) walk.0 (physical_words walk.1)

abbrev answer : Entry → ℕ → Result Translation WalkFault
answer e physical = Ok (record { pte = record { 0 = word_of e }; physical = physical })

-- a write of one word
words_of-with_word : (tables : List (List ℕ)) (at k i new : ℕ) → IsSized tables → k < length tables → i < 1024 → at ≡ (0x200000 + k) * 4096 + 4 * i
    → physical_words (with_word tables k i new) ≡ insert (physical_words tables) at new
unfolding with_word
words_of-with_word tables at k i new sized within small is = words_of-set tables at k i new within sized.sized small is

-- steps 5 to 8 at level 1, over the two tests
leaf_1_follows : (tables : List (List ℕ)) (e : Entry) (at physical physical' index : ℕ) (allow aligned : Bool) → IsSized tables → index < 1024
    → at ≡ 0x200000 * 4096 + 4 * index → physical' ≡ physical
    → FollowsIn tables
    (cond (not allow) (Err PageFault) (cond (not aligned) (Err PageFault) (Ok (record { physical = physical; entry = e; at = at }))))
    (cond (allow && (not true || aligned)) (answer e physical', with_word tables 0 index (word_of e)) (Err PageFault, tables))
leaf_1_follows tables e at physical physical' index false aligned sized small is same = (refl, refl)
leaf_1_follows tables e at physical physical' index true false sized small is same = (refl, refl)
leaf_1_follows tables e at physical physical' index true true sized small is same =
    let some = sized.rooted in
    (ap (answer e) same, words_of-with_word tables at 0 index (word_of e) sized (omega arith) small (omega arith))

-- and at level 0
leaf_0_follows : (tables : List (List ℕ)) (e : Entry) (at physical table index : ℕ) (allow aligned : Bool) → IsSized tables → table < length tables → index < 1024
    → at ≡ (0x200000 + table) * 4096 + 4 * index
    → FollowsIn tables
    (cond (not allow) (Err PageFault) (Ok (record { physical = physical; entry = e; at = at })))
    (cond (allow && (not false || aligned)) (answer e physical, with_word tables table index (word_of e)) (Err PageFault, tables))
leaf_0_follows tables e at physical table index false aligned sized within small is = (refl, refl)
leaf_0_follows tables e at physical table index true aligned sized within small is = (refl, words_of-with_word tables at table index (word_of e) sized within small is)

same_physical : (ppn address : ℕ) → physical_of true ppn address ≡ physical_1 ppn address
unfolding physical_of physical_1
same_physical ppn address = omega arith

-- steps 3 and 4 at level 0
entry_0_follows : (tables : List (List ℕ)) (address : ℕ) (access : Access) (at table index : ℕ) (shape : Shape) → IsSized tables → table < length tables → index < 1024
    → at ≡ (0x200000 + table) * 4096 + 4 * index
    → FollowsIn tables (entry_0 address access at (entry_of (word_in tables table index)) shape) (walked_from tables address access (last_step table index shape))
unfolding entry_0 last_step walked_from leaf_0 translated permits physical_of physical_0
entry_0_follows tables address access at table index Invalid sized within small is = (refl, refl)
entry_0_follows tables address access at table index Pointer sized within small is = (refl, refl)
entry_0_follows tables address access at table index Leaf sized within small is =
    let e = entry_of (word_in tables table index) in
    leaf_0_follows tables (touched access e) at (physical_of false e.ppn address) table index (allows access e) (is_aligned e) sized within small is

-- a word of a table is read
get-word_in : (tables : List (List ℕ)) (q k i : ℕ) → IsSized tables → k < length tables → i < 1024 → q ≡ (0x200000 + k) * 4096 + 4 * i
    → get (physical_words tables) q ≡ Some (word_in tables k i)
unfolding word_in
get-word_in tables q k i sized within small is = get-words_of tables q k i within sized.sized small is

-- step 2 at level 0: a number below the tables', one past them, or a table's
word_0_follows : (tables : List (List ℕ)) (address : ℕ) (access : Access) (at ppn index : ℕ) → IsSized tables → index < 1024 → at ≡ ppn * 4096 + index * 4
    → (low within : Bool) → nat_le 0x200000 ppn ≡ low → nat_lt (ppn - 0x200000) (length tables) ≡ within
    → FollowsIn tables (word_0 address access at (get (physical_words tables) at)) (walked_from tables address access (next_step tables index (cond (low && within) (Some (ppn - 0x200000)) None)))
unfolding word_0 next_step walked_from
word_0_follows tables address access at ppn index sized small is false within low-is within-is =
    let below : ppn < 0x200000 = grind (arith, nat_tests) in
    rw (get_below-words_of tables at (omega arith)) (refl, refl)
word_0_follows tables address access at ppn index sized small is true false low-is within-is =
    let above : 0x200000 ≤ ppn = grind (arith, nat_tests) in
    let past : length tables ≤ ppn - 0x200000 = grind (arith, nat_tests) in
    rw (get_past-words_of tables at sized.sized (omega arith)) (refl, refl)
word_0_follows tables address access at ppn index sized small is true true low-is within-is =
    let above : 0x200000 ≤ ppn = grind (arith, nat_tests) in
    let inside : ppn - 0x200000 < length tables = grind (arith, nat_tests) in
    let read = get-word_in tables at (ppn - 0x200000) index sized inside small (omega arith) in
    rw read (entry_0_follows tables address access at (ppn - 0x200000) index (shape_of (entry_of (word_in tables (ppn - 0x200000) index))) sized inside small (omega arith))

-- a pointer at level 1, over the test of its reserved bits
pointer_follows : (tables : List (List ℕ)) (address : ℕ) (access : Access) (e : Entry) (reserved : Bool) → IsSized tables
    → FollowsIn tables (cond reserved (Err PageFault) (level_0 (physical_words tables) (e.ppn * 0x1000) address access))
    (walked_from tables address access (cond reserved (Err PageFault) (next_step tables (address / 0x1000 % 1024) (table_of (length tables) e.ppn))))
unfolding level_0 table_of walked_from
pointer_follows tables address access e true sized = (refl, refl)
pointer_follows tables address access e false sized =
    word_0_follows tables address access (e.ppn * 0x1000 + vpn_0 address * 4) e.ppn (vpn_0 address) sized (omega arith) refl _ _ refl refl

-- steps 3 and 4 at level 1
entry_1_follows : (tables : List (List ℕ)) (address : ℕ) (access : Access) (at : ℕ) (shape : Shape) → IsSized tables → address < 2 ^ 32
    → at ≡ 0x200000 * 4096 + 4 * (address / 0x400000)
    → let e = entry_of (word_in tables 0 (address / 0x400000)) in
    FollowsIn tables (entry_1 (physical_words tables) address access at e shape) (walked_from tables address access (root_step tables address e shape))
unfolding entry_1 root_step walked_from leaf_1 translated permits
entry_1_follows tables address access at Invalid sized fits is = (refl, refl)
entry_1_follows tables address access at Leaf sized fits is =
    let e = entry_of (word_in tables 0 (address / 0x400000)) in
    leaf_1_follows tables (touched access e) at (physical_1 e.ppn address) (physical_of true e.ppn address) (address / 0x400000) (allows access e) (is_aligned e) sized (omega arith) is (same_physical e.ppn address)
entry_1_follows tables address access at Pointer sized fits is =
    let e = entry_of (word_in tables 0 (address / 0x400000)) in
    pointer_follows tables address access e (has_reserved e) sized

pub walk_is_translation : (tables : List (List ℕ)) (address : ℕ) (access : Access) → IsSized tables → address < 2 ^ 32
    → IsTranslation tables address access (walked tables address access).0 (walked tables address access).1
unfolding IsTranslation translate level_1 word_1 walked walk_end
walk_is_translation tables address access sized fits =
    let at = 0x200000 * 0x1000 + vpn_1 address * 4 in
    let some = sized.rooted in
    let read = get-word_in tables at 0 (address / 0x400000) sized (omega arith) (omega arith) (omega arith) in
    let e = entry_of (word_in tables 0 (address / 0x400000)) in
    rw read (entry_1_follows tables address access at (shape_of e) sized fits (omega arith))

-- the same of a call that gave this result and left these tables
pub walk_translates : (tables : List (List ℕ)) (address : ℕ) (access : Access) (result : Result Translation WalkFault) (new : List (List ℕ)) → IsSized tables → address < 2 ^ 32
    → result ≡ (walked tables address access).0 → new ≡ (walked tables address access).1 → IsTranslation tables address access result new
walk_translates tables address access result new sized fits is is' = rw (is, is') (walk_is_translation tables address access sized fits)
