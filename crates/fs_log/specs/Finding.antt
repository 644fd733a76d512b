-- What is found of a log, question by question, as it is opened. It adds no meaning to the promises of the calls.
use Rattle.std.specs.Prelude.{◌≡◌, ◌≢◌, ◌⊎◌, ℕ, ◌+◌, Bool, true, false, List, length, map, Option, None, Some}
use Rattle.std.specs.List.{AllByRecursion}
use Rattle.std.specs.FinMap.{get}
use Rattle.lang_tree.specs.declared.command.Cmd.{Cmd}
use Rattle.lang_tree.specs.declared.command.Kind.{Kind}
use Rattle.lang_tree.specs.declared.command.Kind.TheVariants.{Dir as DirKind, File as FileKind}
use Rattle.lang_tree.specs.declared.command.Refusal.{Refusal}
use Rattle.lang_tree.specs.declared.command.Refusal.TheVariants.{Full, NotFound, Scattered, TooBig}
use Rattle.lang_tree.specs.declared.command.Reply.{Reply}
use Rattle.lang_tree.specs.declared.command.Reply.TheVariants.{Names as NamesReply, Refused, Stat as StatReply}
use Rattle.lang_tree.specs.declared.command.Stat.{Stat}
use Rattle.lang_tree.specs.Run.{is_of_disk}
use Rattle.lang_tree.specs.Step.{Session, step}
use Rattle.lang_tree.specs.Tree.{Dir, File, Tree}
use Rattle.lang_log.specs.Names.{log_path, path_in_log, segment_name, segment_path}
use Rattle.lang_log.specs.Spelling.{AreShort, spellings}
use Rattle.lang_log.specs.Segments.{AreApart, AreNot, HasSegments, LiesIn, OneIsNamed, Segment}
use Rattle.lang_log.specs.Log.{IsMadeOf, Log, next_of}
use Rattle.engine_blocks.specs.State.{State}
use Rattle.fs_log.specs.declared.refusal.OpenRefusal.{OpenRefusal}
use Rattle.fs_log.specs.declared.refusal.OpenRefusal.TheVariants.{BadLog, Fs as FsRefused}
use Rattle.fs_log.specs.Keeping.{Rests}
use Rattle.fs_log.specs.Open.{size_of}
use Rattle.fs_log.specs.Opening.{KeepsTree}
use Rattle.fs_log.specs.Ways.{Way}

-- Questions alone were asked: a log is as it was, and so is the tree; and what changed since the last sync point weighs as much.
pub record AsksOnly {S : Type 0} (tells : Bool) (state : S → State) (old new : S) : Type 0 where
  pub rests : Rests (state old) (state new)
  pub keeps : KeepsTree (state old) (state new)
  pub weight : (state new).books.running.weight ≡ (state old).books.running.weight
  pub way : Way tells state (λ cmd. ⊥) old new

-- The question was answered as the tree of the session answers it; or it was refused for a reason of the disk.
abbrev pub AnswersQuestion : Session → Cmd → Reply → Type 0
AnswersQuestion f cmd reply = (step f cmd ≡ (f, reply)) ⊎ ((why : Refusal) × (is_of_disk why ≡ true) × (reply ≡ Refused why))

-- the reply of a stat: what is there, or that nothing is
abbrev pub stat_reply : Option Stat → Reply
stat_reply (Some there) = StatReply there
stat_reply None = Refused NotFound

-- whether it is such a reply
abbrev pub is_stat : Reply → Bool
is_stat (StatReply there) = true
is_stat (Refused NotFound) = true
is_stat _ = false

-- whether names are listed
abbrev pub is_names : Reply → Bool
is_names (NamesReply names) = true
is_names _ = false

-- why a log isn't opened whose question was answered otherwise than it asked for
abbrev pub refusal_by : Reply → OpenRefusal
refusal_by (Refused why) = FsRefused why
refusal_by _ = BadLog

-- whether a command was refused since it needs more blocks than there are, or they don't fit or lie apart
abbrev pub wants_blocks : Reply → Bool
wants_blocks (Refused (Full need left)) = true
wants_blocks (Refused (TooBig weight cost room)) = true
wants_blocks (Refused (Scattered runs)) = true
wants_blocks _ = false

-- a directory is at `/log`
abbrev pub HasDirectory : Tree → Type 0
HasDirectory t = (n : ℕ) × (get t.names log_path ≡ Some n) × (get t.nodes n ≡ Some Dir)

-- nothing is at `/log`, a directory, or a file
abbrev pub HasAtLog : Tree → Option Kind → Type 0
HasAtLog t None = get t.names log_path ≡ None
HasAtLog t (Some DirKind) = HasDirectory t
HasAtLog t (Some FileKind) = (n : ℕ) × (bytes : List ℕ) × (get t.names log_path ≡ Some n) × (get t.nodes n ≡ Some (File bytes))

-- the name of the segment with this first number leads somewhere
abbrev pub LeadsSomewhere : Tree → ℕ → Type 0
LeadsSomewhere t first = (n : ℕ) × (get t.names (segment_path first) ≡ Some n)

-- so does this name in the directory the name in its directory
abbrev pub LeadsIn : Tree → List ℕ → Type 0
LeadsIn t name = (n : ℕ) × (get t.names (path_in_log name) ≡ Some n)

-- The name of the segment with this first number leads to a file with these bytes.
pub record HasFile (t : Tree) (first node : ℕ) (bytes : List ℕ) : Type 0 where
  pub at : get t.names (segment_path first) ≡ Some node
  pub file : get t.nodes node ≡ Some (File bytes)

-- The bytes are those of so many whole appends.
pub record HasWhole (bytes : List ℕ) (count : ℕ) : Type 0 where
  pub appends : List (List ℕ)
  pub is : bytes ≡ spellings appends
  pub short : AreShort appends
  pub counts : count ≡ length appends

-- A segment with this first number lies in the tree, in that node, and takes so many bytes. Behind it comes that number.
pub record HasSegment (t : Tree) (begins in_node bytes behind : ℕ) : Type 0 where
  pub appends : List (List ℕ)
  pub lies : LiesIn t (record { first = begins; node = in_node; appends = appends })
  pub short : AreShort appends
  pub takes : bytes ≡ length (spellings appends)
  pub next : behind ≡ begins + length appends

-- These are the segments in the directory, and what is kept in memory of the log that they make.
pub record HasFound (t : Tree) (numbers : List ℕ) (bytes behind : ℕ) : Type 0 where
  pub segments : List Segment
  pub log : Log
  pub has : HasSegments t segments
  pub made : IsMadeOf segments log
  pub firsts : numbers ≡ map (λ s. s.first) segments
  pub size : bytes ≡ size_of segments
  pub next : behind ≡ next_of log

-- So far as these names go, they are those of segments that lie in the tree and make a log, in nodes that are marked, no two of them one; and this is kept in memory of it.
pub record HasFoundSome (t : Tree) (names : List (List ℕ)) (numbers : List ℕ) (bytes behind : ℕ) (is_marked : ℕ → Bool) : Type 0 where
  pub segments : List Segment
  pub log : Log
  pub named : names ≡ map (λ s. segment_name s.first) segments
  pub there : AllByRecursion (LiesIn t) segments
  pub apart : AreApart segments
  pub marked : (n : ℕ) → is_marked n ≡ true → (name : List ℕ) × OneIsNamed segments name × (get t.names (path_in_log name) ≡ Some n)
  pub others : (n : ℕ) → is_marked n ≡ false → AreNot n segments
  pub made : IsMadeOf segments log
  pub firsts : numbers ≡ map (λ s. s.first) segments
  pub size : bytes ≡ size_of segments
  pub next : behind ≡ next_of log
