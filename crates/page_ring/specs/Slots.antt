-- A table of slots: each page has one, which holds its node or another page's.
use Rattle.std.specs.Prelude.{ℕ, ◌≡◌, ◌+◌, ◌-◌, ◌*◌, ◌/◌, ◌%◌, ◌^◌, ◌==◌, ◌&&◌, Bool, cond, List, length, Option, Some, None, is_some, true, slice_index_or, bit_and}
use Rattle.std.specs.Int.{w64, trailing_zeros}
use Rattle.std.specs.Int.RustNames.{bit_xor}
use Rattle.clock_policy.specs.declared.key.Key.{Key}
use Rattle.page_ring.specs.declared.node_index.IndexedNode.{IndexedNode}

abbrev pub same_key : Key → Key → Bool
same_key k q = (k.process == q.process) && (k.vpn == q.vpn)

-- The slot from which on the pages of a process have theirs, among n. The factor is 2 ^ 32 over the golden ratio, and odd: its multiples below
-- 2 ^ 32 stand apart, however many there are.
abbrev pub first_slot : ℕ → ℕ → ℕ
first_slot process n = process * 2654435761 % 2 ^ 32 * n % 2 ^ 64 / 2 ^ 32

-- the slot of a page among n, which is a power of two: the pages of a process take turns from its first slot on, and the high
-- bits of a number count where the low ones are alike
unfoldable pub index_slot : Key → ℕ → ℕ
index_slot k n = bit_and ((first_slot k.process n + bit_xor k.vpn (k.vpn / 2 ^ (trailing_zeros w64 n % 32))) % 2 ^ 64) (n - 1)

-- what a slot tells of a page
abbrev pub held : Option IndexedNode → Key → Option ℕ
held None k = None
held (Some p) k = cond (same_key p.key k) (Some p.at) None

abbrev pub in_slot : List (Option IndexedNode) → Key → Option ℕ
in_slot slots k = held (slice_index_or slots (index_slot k (length slots)) None) k

-- the slot of a page holds a node, of whichever page
abbrev pub IsSlotTaken : List (Option IndexedNode) → Key → Type 0
IsSlotTaken slots k = is_some (slice_index_or slots (index_slot k (length slots)) None) ≡ true
