-- The texts of replies, each with its line feed. [This profile.]
use Rattle.std.specs.Prelude.{ℕ, List, [], ◌++◌, codes, decimal, Option, Some, None}
use Rattle.std.specs.List.{flat_map}
use Rattle.run_model.specs.declared.reply.Reply.{Reply}
use Rattle.run_model.specs.declared.reply.Reply.TheVariants as reply
use Rattle.run_model.specs.Desk.{DeskReply, Plain, Stale, Took}
use Rattle.run_model.specs.Faults.{fault_text, fault_word, number_behind}

-- the text of a reply, without its line feed
unfoldable pub reply_words : Reply → List ℕ
reply_words reply.TooLong = codes "TOOLONG"
reply_words reply.BadLine = codes "BADLINE"
reply_words reply.BadTable = codes "BADTABLE"
reply_words (reply.BadRow code column) = codes "BADROW " ++ fault_word code ++ number_behind column
reply_words reply.Added = codes "ADDED"
reply_words reply.Replaced = codes "REPLACED"
reply_words reply.Deleted = codes "DELETED"
reply_words reply.NoRow = codes "NOROW"
reply_words (reply.Saved edition plans) = codes "SAVED " ++ decimal edition ++ codes " PLANS " ++ decimal plans
reply_words (reply.Unsound f) = codes "UNSOUND " ++ fault_text f
reply_words reply.FullEditions = codes "FULL EDITIONS 64"
reply_words reply.Dropped = codes "DROPPED"
reply_words (reply.Used edition from) = codes "USED " ++ decimal edition ++ codes " FROM " ++ decimal from
reply_words (reply.NoEdition count) = codes "NOEDITION " ++ decimal count
reply_words (reply.Late next) = codes "LATE " ++ decimal next
reply_words (reply.Disorder last) = codes "DISORDER " ++ decimal last
reply_words reply.FullPending = codes "FULL PENDING 16"
reply_words reply.Go = codes "GO"
reply_words reply.Want = codes "WANT"
reply_words reply.Limit = codes "LIMIT"

-- the line of a reply
abbrev pub reply_text : Reply → List ℕ
reply_text r = reply_words r ++ codes "\n"

-- the text of a desk's reply
abbrev pub desk_reply_words : DeskReply → List ℕ
desk_reply_words (Plain r) = reply_words r
desk_reply_words (Stale newest) = codes "STALE " ++ decimal newest
desk_reply_words (Took edition) = codes "TOOK " ++ decimal edition

-- where several desks work, each line begins with its desk; a single desk has no number
abbrev pub desk_prefix : Option ℕ → List ℕ
desk_prefix None = []
desk_prefix (Some desk) = codes "DESK " ++ decimal desk ++ codes " "

-- the line of a desk's reply
abbrev pub desk_line : Option ℕ → DeskReply → List ℕ
desk_line desk r = desk_prefix desk ++ desk_reply_words r ++ codes "\n"

-- the lines of replies, in their order
unfoldable pub desk_text : Option ℕ → List DeskReply → List ℕ
desk_text desk replies = flat_map (desk_line desk) replies
