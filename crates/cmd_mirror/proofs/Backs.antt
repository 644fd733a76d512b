-- How a disk of a mirror goes back after a run.
use Rattle.std.proofs.Common.{◌≡◌, ◌↔◌, ℕ, zero, suc, ◌+◌, ◌<◌, nat_le, nat_lt, ◌||◌, Bool, true, false, if◌then◌else◌, List, [], ◌∷◌, length, map, Some, refl, sym, ap, ap₂, ◌∙◌, subst, arith}
use Rattle.std.proofs.lemmas.Bool.{false≢true, lt-ltb}
use Rattle.base_types.specs.Seal.{Blocks}
use Rattle.disk_contract.specs.declared.bay.Mark.{Mark}
use Rattle.disk_contract.specs.Bay.{has_faults}
use Rattle.disk_contract.specs.Crash.{Window}
use Rattle.disk_contract.specs.Disk.{State}
use Rattle.disk_mirror.specs.Half.{HasFailedOnce}
use Rattle.disk_mirror.specs.Times.{life_of, mark_on, moment_on}
use Rattle.layout_journal.specs.declared.header.Header.{Header}
use Rattle.layout_journal.specs.Layout.{IsWithinDisk, header_of}
use Rattle.layout_geometry.specs.Geometry.{Geometry}
use Rattle.lang_tree.specs.declared.command.Cmd.{Cmd}
use Rattle.lang_tree.specs.declared.command.Reply.{Reply}
use Rattle.lang_tree.specs.Step.{session_on}
use Rattle.lang_tree.specs.Tree.{Tree}
use Rattle.crash_stands.specs.Bounds.{bounds_of}
use Rattle.crash_stands.specs.Stands.{StandsFor}
use Rattle.cmd_session.specs.Crashes.{IsCrashConsistent, LeavesPoints}
use Rattle.cmd_image.specs.Runs.{RunsDisk}
use Rattle.cmd_mirror.specs.Sides.{Course, GoesBack, IsConsistentAlong, IsSideOf, LeavesOfRun, is_live_at, marks_along, own_moment, told_moment}
use Rattle.cmd_mirror.proofs.Moments.{Comes}
use Rattle.cmd_mirror.proofs.Honest.{Alike, consistent_along, stands_along}

-- an image stands for one tree
abbrev pub OneTree : Type 0
OneTree = (n : ℕ) (img : Blocks) (t u : Tree) → StandsFor n img t → StandsFor n img u → t ≡ u

-- a header keeps to its disk
abbrev pub Keeps : Type 0
Keeps = (n : ℕ) (b : List ℕ) (h : Header) → header_of n b ≡ Some h → IsWithinDisk n h

-- a disk that has failed has counted it
counted : (r f : ℕ) → 0 < f + r → (nat_lt 0 r || nat_lt 0 f) ≡ true
counted zero zero low = absurd (none low)
  where
    none : 0 < 0 → ⊥
    none low = omega (arith, low)
counted zero (suc f) low = ap (λ v. nat_lt 0 0 || v) (lt-ltb 0 (suc f) (omega arith))
counted (suc r) f low = ap (λ v. v || nat_lt 0 f) (lt-ltb 0 (suc r) (omega arith))

pub failed_once : (live : Bool) (s : State) → HasFailedOnce live s → live ≡ false → has_faults s ≡ true
failed_once live s failed down = counted s.read_faults s.faults (failed down)

-- what a mark of the disk tells is its own moment
told_live : (events j : ℕ) (v : Bool) (r f m : ℕ) → (v ≡ false → (nat_lt 0 r || nat_lt 0 f) ≡ true)
    → told_moment events (record { moment = m; read_faults = if v then 0 else r; faults = if v then 0 else f }) ≡ (if v then m else events + 1)
told_live events j true r f m down = refl
told_live events j false r f m down = ap (λ (w : Bool). if w then events + 1 else m) (down refl)

live_at : (live : Bool) (end j : ℕ) → (if live then true else nat_le j end) ≡ false → live ≡ false
live_at true end j e = e
live_at false end j e = refl

told_one : (c : Course) (d : State) → (c.live ≡ false → has_faults d ≡ true) → (m : Mark) → told_moment (length d.log) (mark_on c.times (life_of c.live c.end d) m) ≡ own_moment c (length d.log) m.moment
told_one c d down m = told_live (length d.log) m.moment (is_live_at c m.moment) d.read_faults d.faults (moment_on m.moment c.times) (λ e. down (live_at c.live c.end m.moment e))

told_all : (c : Course) (d : State) → (c.live ≡ false → has_faults d ≡ true) → (marks : List Mark)
    → map (told_moment (length d.log)) (map (mark_on c.times (life_of c.live c.end d)) marks) ≡ map (λ m. own_moment c (length d.log) m.moment) marks
told_all c d down [] = refl
told_all c d down (m ∷ ms) = ap₂ (λ (x : ℕ) (xs : List ℕ). x ∷ xs) (told_one c d down m) (told_all c d down ms)

told : (known : Bool) (c : Course) (d : State) (marks own : List Mark) → (c.live ≡ false → has_faults d ≡ true) → own ≡ marks_along known c d marks → known ≡ true
    → map (told_moment (length d.log)) own ≡ map (λ m. own_moment c (length d.log) m.moment) marks
told true c d marks own down is k = ap (map (told_moment (length d.log))) is ∙ told_all c d down marks
told false c d marks own down is k = absurd (false≢true k)

-- the geometry of a run is that of the disk
sized : Keeps → (first last : State) (marks : List Mark) (cmds : List Cmd) (replies : List Reply) (r : RunsDisk first last marks cmds replies) → r.geom.n ≡ first.blocks
sized keeps first last marks cmds replies r =
    let held = r.image.stands.held in
    ap (λ (g : Geometry). g.n) (sym r.shape) ∙ (keeps first.blocks (first.base held.slot) held.header held.newest.stands).blocks

-- a run over commands is crash consistent
pub consistent_run : Keeps → OneTree → (first last : State) (marks : List Mark) (cmds : List Cmd) (replies : List Reply) (r : RunsDisk first last marks cmds replies) → last.blocks ≡ first.blocks
    → IsCrashConsistent last.blocks (bounds_of r.geom) last.base last.log r.mounted cmds replies r.moments
consistent_run keeps one first last marks cmds replies r same =
    let size : r.geom.n ≡ last.blocks = sized keeps first last marks cmds replies r ∙ sym same in
    let stands : StandsFor last.blocks last.base r.tree = subst (λ (n : ℕ). StandsFor n last.base r.tree) (sym same) (subst (λ (b : Blocks). StandsFor first.blocks b r.tree) (sym r.base) r.image.stands) in
    let leaves : LeavesPoints last.blocks last.base (session_on (bounds_of r.geom) r.tree) last.log r.mounted cmds replies r.moments =
    subst (λ (n : ℕ). LeavesPoints n last.base (session_on (bounds_of r.geom) r.tree) last.log r.mounted cmds replies r.moments) size r.run.crashes in
    record {
      points = λ u other. subst (λ (t : Tree). LeavesPoints last.blocks last.base (session_on (bounds_of r.geom) t) last.log r.mounted cmds replies r.moments) (one last.blocks last.base r.tree u stands other) leaves;
      none = λ none. absurd (none r.tree stands);
    }

pub leaves_of_run : Comes → Alike → OneTree → Keeps → (c : Course) (mirror disk : State) (marks : List Mark) → IsSideOf c mirror disk → LeavesOfRun c mirror marks disk
leaves_of_run law alike one keeps c mirror disk marks side = record {
  served = λ first cmds replies r same. subst (λ (n : ℕ). IsConsistentAlong c n (bounds_of r.geom) disk.base disk.log r.mounted cmds replies r.moments) (sym side.blocks)
      (consistent_along law alike mirror.blocks (bounds_of r.geom) mirror.base disk.base mirror.log disk.log c r.mounted cmds replies r.moments side.leaves r.run.ascend
      (consistent_run keeps one first mirror marks cmds replies r same));
  unopened = λ stands. subst (λ (n : ℕ). Window n disk.base disk.log 0 (λ img. ∥ ((t : Tree) → StandsFor n img t ↔ StandsFor n disk.base t) ∥₁)) (sym side.blocks)
      (stands_along alike mirror.blocks mirror.base disk.base mirror.log disk.log c side.leaves stands);
}

pub goes_back : Comes → Alike → OneTree → Keeps → (known : Bool) (c : Course) (mirror disk : State) (marks own : List Mark) → IsSideOf c mirror disk → own ≡ marks_along known c disk marks → GoesBack known c mirror disk marks own
goes_back law alike one keeps known c mirror disk marks own side along = record {
  side = side;
  along = along;
  told = told known c disk marks own side.down along;
  points = leaves_of_run law alike one keeps c mirror disk marks side;
}
