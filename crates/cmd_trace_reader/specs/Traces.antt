-- Which contents are those of a trace. Their text is `text_of`, so a text is a trace where it is that of such contents. It is described in docs/TRACE.md.
use Rattle.std.specs.Prelude.{◌≡◌, ◌||◌, ◌==◌, ◌+◌, ◌⊎◌, Bool, true, false, not, List, [], ◌∷◌, ◌++◌, length, ℕ}
use Rattle.std.specs.List.{list_all}
use Rattle.layout_geometry.specs.Geometry.{geometry_fits}
use Rattle.crash_stands.specs.Bounds.{bounds_of}
use Rattle.lang_tree.specs.declared.command.Cmd.{Cmd}
use Rattle.lang_tree.specs.declared.command.Reply.{Reply}
use Rattle.lang_tree.specs.Step.{Session, start}
use Rattle.lang_tree.specs.Points.{after_reply}
use Rattle.cmd_trace.specs.Contents.{Contents, AreLawful, Each, text_of}
use Rattle.cmd_trace.specs.ReadsAs.{fed}
use Rattle.cmd_trace_reader.specs.Replies.{MayReply, is_fault}

-- each command has a reply that may stand behind it, from this session on, which may have ended
abbrev pub MayReplyEach : Session → Bool → List Cmd → List Reply → Type 0
MayReplyEach s stopped [] [] = Unit {0}
MayReplyEach s stopped [] (reply ∷ replies) = ⊥
MayReplyEach s stopped (cmd ∷ cmds) [] = ⊥
MayReplyEach s stopped (cmd ∷ cmds) (reply ∷ replies) =
    MayReply s stopped cmd reply × MayReplyEach (after_reply s cmd reply) (stopped || is_fault reply) cmds replies

-- Contents of a trace: they are lawful, the geometry fits, and the replies may stand behind the commands in a session that begins with the root alone.
pub record IsTrace (c : Contents) : Type 0 where
  pub lawful : AreLawful c
  pub fits : geometry_fits c.geometry ≡ true
  pub replies : MayReplyEach (start (bounds_of c.geometry)) false c.cmds c.replies

-- some trace begins with these bytes
pub record BeginsTrace (bytes : List ℕ) : Type 0 where
  pub contents : Contents
  pub is : IsTrace contents
  pub rest : List ℕ
  pub split : text_of contents ≡ bytes ++ rest

-- the bytes are the text of a trace
pub record AreTrace (bytes : List ℕ) : Type 0 where
  pub contents : Contents
  pub is : IsTrace contents
  pub text : text_of contents ≡ bytes

-- whether no byte is a line feed
abbrev pub is_line : List ℕ → Bool
is_line text = list_all (λ b. not (b == 10)) text

-- lists of lines, given without their line feeds
abbrev pub AreLines : List (List ℕ) → Type 0
AreLines lines = Each (λ line. is_line line ≡ true) lines

-- the lines in order, each with its line feed
abbrev pub text_of_lines : List (List ℕ) → List ℕ
text_of_lines [] = []
text_of_lines (line ∷ lines) = fed line ++ text_of_lines lines

-- behind these lines stands a whole line, and no trace begins with them and it
pub record GoesWrong (before : List (List ℕ)) (rest : List ℕ) : Type 0 where
  pub line : List ℕ
  pub later : List ℕ
  pub one : is_line line ≡ true
  pub split : rest ≡ fed line ++ later
  pub none : BeginsTrace (text_of_lines before ++ fed line) → ⊥

-- behind these lines stands no whole line, and they and it aren't the text of a trace
pub record BreaksOff (before : List (List ℕ)) (rest : List ℕ) : Type 0 where
  pub one : is_line rest ≡ true
  pub none : AreTrace (text_of_lines before ++ rest) → ⊥

-- The bytes aren't the text of a trace, and this line, counted from 1, is the first at which that shows: some trace begins with the lines before it; and none begins with them and this one, or the bytes break off in it.
pub record IsWrongAt (bytes : List ℕ) (number : ℕ) : Type 0 where
  pub before : List (List ℕ)
  pub rest : List ℕ
  pub lines : AreLines before
  pub counted : number ≡ length before + 1
  pub split : bytes ≡ text_of_lines before ++ rest
  pub begins : BeginsTrace (text_of_lines before)
  pub shows : GoesWrong before rest ⊎ BreaksOff before rest
