-- What is printed of a reply.
use Rattle.std.specs.Prelude.{ℕ, List, ◌++◌, codes, if◌then◌else◌}
use Rattle.std.specs.Fmt.{decimal}
use Rattle.clock_policy.specs.Text.{key_text}
use Rattle.machine_core.specs.RefusalNumber.{refusal_number}
use Rattle.machine_core.specs.declared.event.Reply.{Reply}
use Rattle.machine_core.specs.declared.event.Reply.TheVariants.{Ran, Yielded, HartDone, Ended, Absent, ScheduleFull, Noticed, Asked, Victim, NotYet, Freed, Dirty, NoSlot, Device, Damaged, Mapped, Killed, Purged, Cleaning, Stored, Copied, Cleaned, Refused}

abbrev pub reply_text : Reply → List ℕ
reply_text Ran = codes "ran"
reply_text Yielded = codes "yield"
reply_text HartDone = codes "hart done"
reply_text Ended = codes "ended"
reply_text (Absent vpn) = codes "absent " ++ decimal vpn
reply_text ScheduleFull = codes "schedule full"
reply_text Noticed = codes "noticed"
reply_text (Asked key used) = codes "asked " ++ key_text key ++ (if used then codes " one" else codes " zero")
reply_text (Victim key) = codes "victim " ++ key_text key
reply_text NotYet = codes "not yet"
reply_text Freed = codes "freed"
reply_text Dirty = codes "dirty"
reply_text NoSlot = codes "no slot"
reply_text Device = codes "device"
reply_text Damaged = codes "damaged"
reply_text Mapped = codes "mapped"
reply_text Killed = codes "killed"
reply_text Purged = codes "purged"
reply_text Cleaning = codes "cleaning"
reply_text Stored = codes "stored"
reply_text Copied = codes "copied"
reply_text Cleaned = codes "clean"
reply_text (Refused refusal) = codes "refused " ++ decimal (refusal_number refusal)
