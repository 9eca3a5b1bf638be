-- A page's number spread, so that neighbours part.
use Rattle.std.specs.Prelude.{ℕ, ◌+◌, ◌*◌, ◌/◌, ◌%◌, ◌^◌}
use Rattle.clock_policy.specs.declared.key.Key.{Key}

-- the upper half of the product of a page's number, the process's above the page's, and a multiplier
unfoldable pub spread : ℕ → Key → ℕ
spread multiplier p = ((p.process * 2 ^ 32 + p.vpn) * multiplier) % 2 ^ 64 / 2 ^ 32
