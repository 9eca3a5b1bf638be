-- Steps of one hart in a row, in one call: the events and replies that they are.
use Rattle.std.specs.Prelude.{ℕ, List, [], ◌∷◌, ◌++◌, replicate, Option, Some, None}
use Rattle.machine_core.specs.declared.event.Event.{Event}
use Rattle.machine_core.specs.declared.event.Event.TheVariants.{Step}
use Rattle.machine_core.specs.declared.event.Reply.{Reply}
use Rattle.machine_core.specs.declared.event.Reply.TheVariants.{Ran}

-- so many steps of a hart, and one more where its reply is given
abbrev pub with_last_event : List Event → Event → Option Reply → List Event
with_last_event events event None = events
with_last_event events event (Some reply) = events ++ event ∷ []

abbrev pub steps_of : ℕ → ℕ → ℕ → Option Reply → List Event
steps_of process hart count last = with_last_event (replicate count (Step process hart)) (Step process hart) last

-- their replies: each ran, except the last one where its reply is given
abbrev pub with_last_reply : List Reply → Option Reply → List Reply
with_last_reply replies None = replies
with_last_reply replies (Some reply) = replies ++ reply ∷ []

abbrev pub replies_of : ℕ → Option Reply → List Reply
replies_of count last = with_last_reply (replicate count Ran) last
