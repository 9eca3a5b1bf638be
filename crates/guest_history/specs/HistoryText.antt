-- What is printed of a reply of a debugger that goes back.
use Rattle.std.specs.Prelude.{ℕ, List, ◌++◌, codes, Option, Some, None}
use Rattle.std.specs.Fmt.{decimal}
use Rattle.debug_core.specs.declared.point.Why.{Why}
use Rattle.debug_core.specs.declared.point.Why.TheVariants as why
use Rattle.debug_session.specs.ReplyText.{reply_text}
use Rattle.guest_history.specs.declared.reply.HistoryReply.{HistoryReply}
use Rattle.guest_history.specs.declared.reply.HistoryReply.TheVariants.{Plain, At, Met, NoneMet, RecordEnds, ToldRecordEnds, PastRecord, OtherHart, NoStepBefore}

-- the point that was met on the way back, or the beginning
abbrev pub met_text : Option Why → List ℕ
met_text None = codes "begin"
met_text (Some (why.Watch number)) = codes "watch " ++ decimal number
met_text (Some (why.Break number)) = codes "break " ++ decimal number
met_text (Some why.Ended) = codes "begin"
met_text (Some why.Gone) = codes "begin"
met_text (Some why.Limit) = codes "begin"
met_text (Some why.Absent) = codes "begin"

abbrev pub history_text : HistoryReply → List ℕ
history_text (Plain told) = reply_text told
history_text (At done total) = codes "at " ++ decimal done ++ codes " of " ++ decimal total
history_text (Met met done total) = met_text met ++ codes " at " ++ decimal done ++ codes " of " ++ decimal total
history_text (NoneMet done total) = codes "limit at " ++ decimal done ++ codes " of " ++ decimal total
history_text (RecordEnds steps) = codes "record-end after " ++ decimal steps
history_text (ToldRecordEnds last turn steps) =
    codes "record-end last " ++ decimal last ++ codes " turn " ++ decimal turn ++ codes " after " ++ decimal steps
history_text PastRecord = codes "refused 10"
history_text OtherHart = codes "refused 11"
history_text NoStepBefore = codes "refused 12"
