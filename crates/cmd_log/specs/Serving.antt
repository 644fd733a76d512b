-- A log on a disk whose calls are answered one after the other: how whole runs of them are answered, and what crashes leave of the log.
use Rattle.std.specs.Prelude.{◌≡◌, ℕ, ◌≤◌, List, [], ◌∷◌, length, take}
use Rattle.base_types.specs.Seal.{Blocks}
use Rattle.disk_contract.specs.declared.event.Event.{Event}
use Rattle.disk_contract.specs.Crash.{IsHonest}
use Rattle.layout_geometry.specs.Geometry.{Geometry}
use Rattle.lang_log.specs.declared.call.LogCall.{LogCall}
use Rattle.lang_log.specs.declared.call.LogReply.{LogReply}
use Rattle.lang_log.specs.Answers.{AnswersLog}
use Rattle.lang_log.specs.History.{History, opened_with}
use Rattle.lang_log.specs.Log.{Log}
use Rattle.engine_blocks.specs.State.{State}
use Rattle.fs_log.specs.Keeping.{Keeps, StandsForLog}
use Rattle.cmd_trace.specs.Trace.{Ascend}

-- Each honest image that a crash at this moment may leave stands for a tree with a log that may be left of one of the two histories. Moment m is the log's first m events.
abbrev pub LeavesAt : ℕ → Blocks → List Event → ℕ → History → History → Type 0
LeavesAt n base log moment h k = (img : Blocks) → IsHonest n base (take moment log) img → ∥ StandsForLog n img h k ∥₁

-- A call was answered between two moments, in which a log of history h came to history k. At the first moment a crash leaves a log of h, and at each moment up to the second one of h or of k.
pub record Serves (n : ℕ) (base : Blocks) (log : List Event) (from upto : ℕ) (h : History) (call : LogCall) (reply : LogReply) (k : History) : Type 0 where
  pub answers : AnswersLog h call reply k
  pub before : LeavesAt n base log from h h
  pub each : (moment : ℕ) → from ≤ moment → moment ≤ upto → LeavesAt n base log moment h k

-- So were these calls, one after the other, each with its reply and its mark: from history h at the first moment to history k at the last mark, when a crash leaves a log of k.
abbrev pub ServesAll : ℕ → Blocks → List Event → ℕ → History → List LogCall → List LogReply → List ℕ → History → Type 0
ServesAll n base log from h [] [] [] k = (k ≡ h) × LeavesAt n base log from h h
ServesAll n base log from h (call ∷ calls) (reply ∷ replies) (mark ∷ marks) k =
    (next : History) × Serves n base log from mark h call reply next × ServesAll n base log mark next calls replies marks k
ServesAll n base log from h _ _ _ k = ⊥

-- These calls were answered with these replies, at these marks, since a log was open on a disk, which had so many events then: each as a log answers it that was opened as this one. Until the log was open, each crash leaves it as it was opened; and from then on a log as it is at that moment, or as it was since the last sync that was answered by then.
pub record HasLogged (g : Geometry) (begun : ℕ) (opened : Log) (calls : List LogCall) (replies : List LogReply) (marks : List ℕ) (s : State) : Type 0 where
  pub geom : s.books.geom ≡ g
  pub ascend : Ascend begun marks (length s.crash.log)
  pub opening : (moment : ℕ) → moment ≤ begun → LeavesAt g.n s.crash.base s.crash.log moment (opened_with opened) (opened_with opened)
  pub now : History
  pub serves : ServesAll g.n s.crash.base s.crash.log begun (opened_with opened) calls replies marks now
  pub keeps : Keeps now s
