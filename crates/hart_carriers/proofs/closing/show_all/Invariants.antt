-- The viewers so far show the pairs of their numbers.
use Rattle.std.proofs.Common.{◌≡◌, length, map, take}
use Rattle.hart_carriers.proofs.closing.show_all.Given as goal

abbrev pub invariant-viewers : goal.invariant-viewers
invariant-viewers g l = record { many : length l.viewers ≡ length l.pairs; shown : take l.number (map (λ v. v.seen) l.viewers) ≡ take l.number l.pairs }
