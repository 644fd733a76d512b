-- How the calls and answers of a log are written. A call's text is the line that asks for it, without its line feed; the grammar that reads
-- it back is in `Grammar`.
use Rattle.std.specs.Prelude.{◌≡◌, ◌<◌, ◌^◌, ℕ, List, ◌++◌, codes, decimal, nat_lt, true, ⊤}
use Rattle.std.specs.List.{list_all}
use Rattle.lang_log.specs.declared.call.LogCall.{LogCall}
use Rattle.lang_log.specs.declared.call.LogCall.TheVariants as call
use Rattle.lang_log.specs.declared.call.LogReply.{LogReply}
use Rattle.lang_log.specs.declared.call.LogReply.TheVariants.{Number, Bytes, Low, Range, Ordered, Durable, Bad, NoRecord, TooLong, LogEnd, Refused}
use Rattle.lang_script.specs.Text.{refusal_text}
use Rattle.lang_tree.specs.Listing.{digits_behind_blank}

-- the line that asks for a call; `?`, which is no call, for `Bad`
abbrev pub text_of_call : LogCall → List ℕ
text_of_call (call.Append bytes) = codes "append" ++ digits_behind_blank bytes
text_of_call (call.Get number) = codes "get " ++ decimal number
text_of_call (call.Trim number) = codes "trim " ++ decimal number
text_of_call call.Count = codes "count"
text_of_call call.Order = codes "order"
text_of_call call.Sync = codes "sync"
text_of_call call.Bad = codes "?"

-- a line asks for the call: it isn't `Bad`, its number is below 2^32, and its bytes are below 256
abbrev pub IsAskedFor : LogCall → Type 0
IsAskedFor (call.Append bytes) = list_all (λ b. nat_lt b 256) bytes ≡ true
IsAskedFor (call.Get number) = number < 2 ^ 32
IsAskedFor (call.Trim number) = number < 2 ^ 32
IsAskedFor call.Bad = ⊥
IsAskedFor _ = ⊤

-- how an answer is written
abbrev pub text_of_log_reply : LogReply → List ℕ
text_of_log_reply (Number number) = codes "ok " ++ decimal number
text_of_log_reply (Bytes bytes) = codes "hex" ++ digits_behind_blank bytes
text_of_log_reply (Low low) = codes "low " ++ decimal low
text_of_log_reply (Range low next) = codes "count " ++ decimal low ++ codes " " ++ decimal next
text_of_log_reply (Ordered point) = codes "synced " ++ decimal point
text_of_log_reply (Durable point) = codes "durable " ++ decimal point
text_of_log_reply Bad = codes "bad"
text_of_log_reply (NoRecord low next) = codes "norecord " ++ decimal low ++ codes " " ++ decimal next
text_of_log_reply TooLong = codes "toolong"
text_of_log_reply LogEnd = codes "logend"
text_of_log_reply (Refused why) = refusal_text why
