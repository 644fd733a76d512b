-- What crashes leave of a disk of a mirror by its own moments, from what they leave of the mirror.
use Rattle.std.proofs.Common.{◌≡◌, ◌↔◌, ℕ, ◌≤◌, ◌<◌, List, length, map, take, sym, subst, arith}
use Rattle.std.proofs.Math.Logic.{∥∥₁_elim, ∥∥₁_map, ∥∥₁_prop}
use Rattle.base_types.specs.Seal.{Blocks}
use Rattle.disk_contract.specs.declared.event.Event.{Event}
use Rattle.disk_contract.specs.Crash.{IsHonest, Window}
use Rattle.disk_mirror.specs.Times.{LeavesAtMoments}
use Rattle.lang_tree.specs.declared.command.Cmd.{Cmd}
use Rattle.lang_tree.specs.declared.command.Reply.{Reply}
use Rattle.lang_tree.specs.Points.{floor, points_of, top}
use Rattle.lang_tree.specs.Step.{Session, session_on}
use Rattle.lang_tree.specs.Tree.{Bounds, Tree}
use Rattle.crash_stands.specs.Stands.{StandsFor}
use Rattle.cmd_trace.specs.Trace.{Ascend}
use Rattle.cmd_session.specs.Crashes.{IsCrashConsistent, LeavesNoTree, LeavesPoints, StandsForOne}
use Rattle.cmd_mirror.specs.Sides.{Course, IsConsistentAlong, mirror_moment, own_moment}
use Rattle.cmd_mirror.proofs.Moments.{Comes, agree, mirror_low}
use Rattle.cmd_mirror.proofs.Points.{same_floor, same_point, same_top}

-- images that are alike below n stand for the same trees
abbrev pub Alike : Type 0
Alike = (n : ℕ) (img other : Blocks) (t : Tree) → ((b : ℕ) → b < n → img b ≡ other b) → StandsFor n img t → StandsFor n other t

-- what is told of a disk of a mirror by its course
abbrev pub Leaves : ℕ → Blocks → List Event → Course → Blocks → List Event → Type 0
Leaves n base log c began events = LeavesAtMoments n base log c.times c.live c.end began events

-- the mirror's moment that stands for one of the disk is one of its own
within : (n : ℕ) (base : Blocks) (log : List Event) (c : Course) (began : Blocks) (events : List Event) → Leaves n base log c began events → (k : ℕ) → mirror_moment c k ≤ length log
within n base log c began events l k = subst (λ m. mirror_moment c k ≤ m) l.full (mirror_low c k)

pub floor_along : Comes → (n : ℕ) (base began : Blocks) (log events : List Event) (c : Course) (mounted : ℕ) (replies : List Reply) (moments : List ℕ) (k : ℕ) → Leaves n base log c began events → Ascend mounted moments (length log) → k ≤ length events
    → floor k replies (map (own_moment c (length events)) moments) ≡ floor (mirror_moment c k) replies moments
floor_along law n base began log events c mounted replies moments k l up low =
    same_floor (own_moment c (length events)) k (mirror_moment c k) replies moments (agree law c k (length events) mounted moments l.ascend low (subst (Ascend mounted moments) (sym l.full) up)).1

pub top_along : Comes → (n : ℕ) (base began : Blocks) (log events : List Event) (c : Course) (s : Session) (mounted : ℕ) (cmds : List Cmd) (replies : List Reply) (moments : List ℕ) (k : ℕ) → Leaves n base log c began events → Ascend mounted moments (length log) → k ≤ length events
    → top k s (own_moment c (length events) mounted) cmds replies (map (own_moment c (length events)) moments) ≡ top (mirror_moment c k) s mounted cmds replies moments
top_along law n base began log events c s mounted cmds replies moments k l up low =
    let a = agree law c k (length events) mounted moments l.ascend low (subst (Ascend mounted moments) (sym l.full) up) in
    same_top (own_moment c (length events)) k (mirror_moment c k) s mounted cmds replies moments a.0 a.1

-- each image of the disk stands for a point by its own moments
pub points_along : Comes → (n : ℕ) (base began : Blocks) (log events : List Event) (c : Course) (s : Session) (mounted : ℕ) (cmds : List Cmd) (replies : List Reply) (moments : List ℕ) → Leaves n base log c began events → Ascend mounted moments (length log)
    → LeavesPoints n base s log mounted cmds replies moments → LeavesPoints n began s events (own_moment c (length events) mounted) cmds replies (map (own_moment c (length events)) moments)
points_along law n base began log events c s mounted cmds replies moments l up points = record { each = each }
  where
    own : ℕ → ℕ
    own m = own_moment c (length events) m

    each : (k : ℕ) (img : Blocks) → k ≤ length events → IsHonest n began (take k events) img
        → ∥ StandsForOne n img (points_of s (own mounted) cmds replies (map own moments)) (floor k replies (map own moments)) (top k s (own mounted) cmds replies (map own moments)) ∥₁
    each k img low honest = ∥∥₁_elim (l.images k img low honest) ∥∥₁_prop (λ (h : IsHonest n base (take (mirror_moment c k) log) img).
        ∥∥₁_map (points.each (mirror_moment c k) img (within n base log c began events l k) h)
        (same_point own n img s mounted cmds replies moments (floor (mirror_moment c k) replies moments) (top (mirror_moment c k) s mounted cmds replies moments)
        (floor k replies (map own moments)) (top k s (own mounted) cmds replies (map own moments))
        (floor_along law n base began log events c mounted replies moments k l up low) (top_along law n base began log events c s mounted cmds replies moments k l up low)))

-- and none where the mirror stood for no tree
none_along : (n : ℕ) (base began : Blocks) (log events : List Event) (c : Course) → Leaves n base log c began events → LeavesNoTree n base log → LeavesNoTree n began events
none_along n base began log events c l none = record {
  each = λ k img low honest t stands. ∥∥₁_elim (l.images k img low honest) (λ x y. absurd x) (λ (h : IsHonest n base (take (mirror_moment c k) log) img).
      none.each (mirror_moment c k) img (within n base log c began events l k) h t stands);
}

pub consistent_along : Comes → Alike → (n : ℕ) (limit : Bounds) (base began : Blocks) (log events : List Event) (c : Course) (mounted : ℕ) (cmds : List Cmd) (replies : List Reply) (moments : List ℕ) → Leaves n base log c began events → Ascend mounted moments (length log)
    → IsCrashConsistent n limit base log mounted cmds replies moments → IsConsistentAlong c n limit began events mounted cmds replies moments
consistent_along law alike n limit base began log events c mounted cmds replies moments l up is = record {
  points = λ t stands. points_along law n base began log events c (session_on limit t) mounted cmds replies moments l up (is.points t (alike n began base t l.alike stands));
  none = λ none. none_along n base began log events c l (is.none (λ t stands. none t (alike n base began t (λ b low. sym (l.alike b low)) stands)));
}

-- Each image of the disk stands for the trees for which the disk began, where the mirror's do so.
abbrev pub Stays : ℕ → Blocks → Blocks → Type 0
Stays n base img = (t : Tree) → StandsFor n img t ↔ StandsFor n base t

pub stands_along : Alike → (n : ℕ) (base began : Blocks) (log events : List Event) (c : Course) → Leaves n base log c began events → Window n base log 0 (Stays n base) → Window n began events 0 (λ img. ∥ Stays n began img ∥₁)
stands_along alike n base began log events c l window = record {
  each = λ k img from low honest. ∥∥₁_map (l.images k img low honest) (λ (h : IsHonest n base (take (mirror_moment c k) log) img).
      stays img (window.each (mirror_moment c k) img (omega arith) (within n base log c began events l k) h));
}
  where
    stays : (img : Blocks) → Stays n base img → Stays n began img
    stays img is = λ t. (
      λ stands. alike n base began t (λ b low. sym (l.alike b low)) ((is t).0 stands),
      λ stands. (is t).1 (alike n began base t l.alike stands),
    )
