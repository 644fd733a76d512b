-- How a walk over the commands of a trace comes along, and what it has found in the end.
use Rattle.std.proofs.Common.{◌≡◌, ◌⊎◌, inl, inr, ⊎_elim, ℕ, ◌+◌, ◌<◌, ◌≤◌, max, Bool, true, false, nat_le, if◌then◌else◌, List, [], ◌∷◌, ◌++◌, length, drop, refl, sym, ◌∙◌, ap, subst, arith, append_assoc}
use Rattle.std.proofs.lemmas.Bool.{cond-false, cond-true, le-leb, lt-leb}
use Rattle.std.proofs.lemmas.List.{drop_all, length-append}
use Rattle.lang_tree.specs.declared.command.Cmd.{Cmd}
use Rattle.lang_tree.specs.declared.command.Reply.{Reply}
use Rattle.lang_tree.specs.Points.{Point, after_reply, begun_by, floor, made_by, points_after, promised_by}
use Rattle.lang_tree.specs.Step.{Session, start}
use Rattle.crash_stands.specs.Bounds.{bounds_of}
use Rattle.cmd_trace.specs.Contents.{Contents}
use Rattle.cmd_trace.specs.Trace.{Ascend}
use Rattle.cmd_session.specs.Shared.{begun_append}
use Rattle.cmd_replay.specs.declared.walk.Walk.{Walk}
use Rattle.cmd_replay.specs.Newest.{IsNewest}
use Rattle.cmd_replay.specs.Points.{IsMarked, points_in, top_at}
use Rattle.cmd_replay.specs.Walking.{AreCounted, HasCome, IsListedAs, WalksOn, first_tally, makes_point, with_point}
use Rattle.cmd_replay.proofs.Newests.{counted_more, newest_first, newest_longer}

-- ---- how many points began by a moment

began : (k : ℕ) (x : Point) → x.begun ≤ k → ◌≡◌ {A = ℕ} (if nat_le x.begun k then 1 else 0) 1
began k x early = cond-true {A = ℕ} (nat_le x.begun k) 1 0 (le-leb x.begun k early)

made_begun : (k : ℕ) (one : Point) (makes : Bool) → one.begun ≤ k → begun_by k (if makes then one ∷ [] else []) ≡ length (if makes then one ∷ [] else [])
made_begun k one true early = omega (arith, began k one early)
made_begun k one false early = refl

made_late : (k : ℕ) (one : Point) (makes : Bool) → k < one.begun → begun_by k (if makes then one ∷ [] else []) ≡ 0
made_late k one true late = omega (arith, cond-false {A = ℕ} (nat_le one.begun k) 1 0 (lt-leb one.begun k late))
made_late k one false late = refl

-- no point of commands that begin later did
late : (k : ℕ) (s : Session) (begun : ℕ) (cmds : List Cmd) (replies : List Reply) (marks : List ℕ) (events : ℕ) → k < begun → Ascend begun marks events → begun_by k (points_after s begun cmds replies marks) ≡ 0
late k s begun (cmd ∷ cmds) (reply ∷ replies) (mark ∷ marks) events past up =
    begun_append k (made_by s cmd reply begun) (points_after (after_reply s cmd reply) mark cmds replies marks)
    ∙ omega (arith, made_late k (record { tree = s.tree; begun = begun }) (makes_point s cmd reply) past, late k (after_reply s cmd reply) mark cmds replies marks events (omega (arith, past, up.0)) up.1)
late k s begun other replies marks events past up = refl

none_after : (s : Session) (begun : ℕ) (cmds : List Cmd) (replies : List Reply) (marks : List ℕ) → cmds ≡ [] → points_after s begun cmds replies marks ≡ []
none_after s begun cmds replies marks none = ap (λ (l : List Cmd). points_after s begun l replies marks) none

-- ---- the beginning

pub begun_walk : (text : List ℕ) (low k : ℕ) (c : Contents) (w : Walk) → IsMarked c → w ≡ record { tree = start (bounds_of c.geometry); synced = 0; tally = first_tally text low (start (bounds_of c.geometry)).tree } → HasCome text low k c 0 c.mounted w
begun_walk text low k c w marked is = subst (λ (x : Walk). HasCome text low k c 0 c.mounted x) (sym is) (record {
  before = first ∷ [];
  split = refl;
  counted = record { count = refl; newest = newest_first text low first };
  early = omega (arith, began k first (omega arith));
  events = marked.events;
  ascend = marked.ascend;
  synced = refl;
  few = omega arith;
  last = omega arith;
})
  where
    first : Point
    first = record { tree = (start (bounds_of c.geometry)).tree; begun = 0 }

-- ---- one command more

pub walked_on : (text : List ℕ) (low k : ℕ) (c : Contents) (i begun : ℕ) (w v : Walk) (cmd : Cmd) (reply : Reply) (mark : ℕ) → begun ≤ k → drop i c.cmds ≡ cmd ∷ drop (i + 1) c.cmds → drop i c.replies ≡ reply ∷ drop (i + 1) c.replies → drop i c.marks ≡ mark ∷ drop (i + 1) c.marks
    → HasCome text low k c i begun w → WalksOn text low cmd reply w v → HasCome text low k c (i + 1) mark v
walked_on text low k c i begun w v cmd reply mark early cmd_is reply_is mark_is h on = record {
  before = h.before ++ made;
  split = h.split ∙ ap (λ (l : List Point). h.before ++ l) after_is ∙ sym (append_assoc h.before made rest);
  counted = subst (λ y. AreCounted text low (h.before ++ made) y) (sym on.tally) (counted_more text low h.before one w.tally (makes_point w.tree cmd reply) h.counted);
  early = begun_append k h.before made ∙ omega (arith, h.early, made_begun k one (makes_point w.tree cmd reply) early) ∙ sym (length-append h.before made);
  events = h.events;
  ascend = up.1;
  synced = on.synced;
  few = omega (arith, on.few, h.few);
  last = last_is (makes_point w.tree cmd reply) on.tally;
}
  where
    one : Point
    one = record { tree = w.tree.tree; begun = begun }

    made : List Point
    made = made_by w.tree cmd reply begun

    rest : List Point
    rest = points_after v.tree mark (drop (i + 1) c.cmds) (drop (i + 1) c.replies) (drop (i + 1) c.marks)

    up : Ascend begun (mark ∷ drop (i + 1) c.marks) h.events
    up = subst (λ (l : List ℕ). Ascend begun l h.events) mark_is h.ascend

    after_is : points_after w.tree begun (drop i c.cmds) (drop i c.replies) (drop i c.marks) ≡ made ++ rest
    after_is =
        ap (λ (l : List Cmd). points_after w.tree begun l (drop i c.replies) (drop i c.marks)) cmd_is
        ∙ ap (λ (l : List Reply). points_after w.tree begun (cmd ∷ drop (i + 1) c.cmds) l (drop i c.marks)) reply_is
        ∙ ap (λ (l : List ℕ). points_after w.tree begun (cmd ∷ drop (i + 1) c.cmds) (reply ∷ drop (i + 1) c.replies) l) mark_is
        ∙ ap (λ (s : Session). made ++ points_after s mark (drop (i + 1) c.cmds) (drop (i + 1) c.replies) (drop (i + 1) c.marks)) (sym on.session)

    last_is : (makes : Bool) → v.tally ≡ (if makes then with_point text low w.tree.tree w.tally else w.tally) → v.tally.last ≤ i + 1
    last_is true is = omega (arith, ap (λ y. y.last) is, h.last)
    last_is false is = omega (arith, ap (λ y. y.last) is, h.last)

-- ---- the end

pub walk_ends : (text : List ℕ) (low k : ℕ) (c : Contents) (i begun : ℕ) (w : Walk) → (length c.cmds ≤ i) ⊎ (k < begun) → HasCome text low k c i begun w
    → (w.tally.last ≡ top_at k c) × IsNewest (IsListedAs text) (points_in c) low w.tally.last w.tally.newest
walk_ends text low k c i begun w over h = (count, subst (λ (points : List Point). IsNewest (IsListedAs text) points low w.tally.last w.tally.newest) (sym h.split) (newest_longer (IsListedAs text) h.before rest low w.tally.last w.tally.newest h.counted.count h.counted.newest))
  where
    rest : List Point
    rest = points_after w.tree begun (drop i c.cmds) (drop i c.replies) (drop i c.marks)

    none : begun_by k rest ≡ 0
    none = ⊎_elim (λ ended. ap (begun_by k) (none_after w.tree begun (drop i c.cmds) (drop i c.replies) (drop i c.marks) (drop_all i c.cmds ended))) (λ past. late k w.tree begun (drop i c.cmds) (drop i c.replies) (drop i c.marks) h.events past h.ascend) over

    all : begun_by k (points_in c) ≡ length h.before
    all = ap (begun_by k) h.split ∙ begun_append k h.before rest ∙ omega (arith, h.early, none)

    count : w.tally.last ≡ top_at k c
    count = omega (arith, all, h.counted.count, began k (record { tree = (start (bounds_of c.geometry)).tree; begun = 0 }) (omega arith))

-- ---- the floor

floor_late : (g a b k : ℕ) (m : ℕ) (whole : ℕ) → k < m → max g (max (if nat_le m k then a else 0) b) ≡ whole → max g b ≡ whole
floor_late g a b k m whole past h = omega (arith, cond-false {A = ℕ} (nat_le m k) a 0 (lt-leb m k past), h)

floor_early : (g a b k : ℕ) (m : ℕ) (whole : ℕ) → m ≤ k → max g (max (if nat_le m k then a else 0) b) ≡ whole → max (max a g) b ≡ whole
floor_early g a b k m whole early h = omega (arith, cond-true {A = ℕ} (nat_le m k) a 0 (le-leb m k early), h)

pub floor_more : (g k i : ℕ) (replies : List Reply) (marks : List ℕ) (reply : Reply) (mark whole : ℕ) → drop i replies ≡ reply ∷ drop (i + 1) replies → drop i marks ≡ mark ∷ drop (i + 1) marks → mark ≤ k
    → max g (floor k (drop i replies) (drop i marks)) ≡ whole → max (max (promised_by reply) g) (floor k (drop (i + 1) replies) (drop (i + 1) marks)) ≡ whole
floor_more g k i replies marks reply mark whole reply_is mark_is early h =
    floor_early g (promised_by reply) (floor k (drop (i + 1) replies) (drop (i + 1) marks)) k mark whole early (ap (λ (l : List Reply). max g (floor k l (mark ∷ drop (i + 1) marks))) (sym reply_is) ∙ ap (λ (l : List ℕ). max g (floor k (drop i replies) l)) (sym mark_is) ∙ h)

pub floor_past : (g k i : ℕ) (replies : List Reply) (marks : List ℕ) (reply : Reply) (mark whole : ℕ) → drop i replies ≡ reply ∷ drop (i + 1) replies → drop i marks ≡ mark ∷ drop (i + 1) marks → k < mark
    → max g (floor k (drop i replies) (drop i marks)) ≡ whole → max g (floor k (drop (i + 1) replies) (drop (i + 1) marks)) ≡ whole
floor_past g k i replies marks reply mark whole reply_is mark_is past h =
    floor_late g (promised_by reply) (floor k (drop (i + 1) replies) (drop (i + 1) marks)) k mark whole past (ap (λ (l : List Reply). max g (floor k l (mark ∷ drop (i + 1) marks))) (sym reply_is) ∙ ap (λ (l : List ℕ). max g (floor k (drop i replies) l)) (sym mark_is) ∙ h)

floor_none : (k : ℕ) (replies : List Reply) (marks : List ℕ) → (replies ≡ []) ⊎ (marks ≡ []) → floor k replies marks ≡ 0
floor_none k (reply ∷ replies) (mark ∷ marks) (inl over) = cc over
floor_none k (reply ∷ replies) (mark ∷ marks) (inr over) = cc over
floor_none k other marks over = refl

pub floor_ends : (g k i : ℕ) (replies : List Reply) (marks : List ℕ) (whole : ℕ) → (length replies ≤ i) ⊎ (length marks ≤ i) → max g (floor k (drop i replies) (drop i marks)) ≡ whole → g ≡ whole
floor_ends g k i replies marks whole over h =
    omega (arith, h, floor_none k (drop i replies) (drop i marks) (⊎_elim (λ few. inl (drop_all i replies few)) (λ few. inr (drop_all i marks few)) over))
