-- Ids of objects, each of which is a page.
use Rattle.std.specs.Prelude.{ℕ, ◌/◌, ◌%◌, ◌*◌, ◌+◌, ◌-◌, ◌^◌, ◌==◌, ◌&&◌, nat_le, nat_lt, min, Option, Some, None, if◌then◌else◌}
use Rattle.clock_policy.specs.declared.key.Key.{Key}

-- the page that represents an object: each id has its own
unfoldable pub page_of_id : ℕ → Key
page_of_id id = record { process = id / 2 ^ 32; vpn = id % 2 ^ 32 }

-- the id of an object that a page represents
abbrev pub id_of : Key → ℕ
id_of page = page.process * 2 ^ 32 + page.vpn

-- the page of the next id; the greatest number of a process stays
unfoldable pub next_page : Key → Key
next_page page = if page.vpn == 4294967295 then record { process = min (page.process + 1) 4294967295; vpn = 0 } else record { process = page.process; vpn = page.vpn + 1 }

-- how many pages come after the first one up to the last: fewer than 2^20, so that a line refers to no more
unfoldable pub more_pages : ℕ → ℕ → Option ℕ
more_pages first last = if nat_le first last && nat_lt (last - first) 1048576 then Some (last - first) else None
