use Rattle.std.proofs.Common.{◌≡◌, vec_len, vec_capacity}
use Rattle.file_slots.specs.Making.{AreMade}
use Rattle.file_slots.proofs.making.make_file_slots.Given as goal

-- The slots so far are made.
abbrev pub invariant-loop-number : goal.invariant-loop-number
invariant-loop-number g l =
    record {
      made : AreMade g.M.FileMaker.makes l.prefix l.number l.slots.items;
      len : vec_len l.slots ≡ l.number;
      room : vec_capacity l.slots ≡ l.wanted;
    }
