use Rattle.std.proofs.Common.{◌≡◌, ◌≤◌, ◌-◌, length, replicate}
use Rattle.swap_slots.specs.Slot.{zero_content}
use Rattle.image_files.proofs.slots.memory_slots.Given as goal

abbrev pub invariant-slots : goal.invariant-slots
invariant-slots l = record {
  zeros : l.slots.items ≡ replicate (length l.slots.items) zero_content;
  within : length l.slots.items ≤ l.wanted;
}

abbrev pub decreases-slots : goal.decreases-slots
decreases-slots l = l.wanted - length l.slots.items
