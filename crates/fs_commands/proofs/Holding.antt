-- What is held of a snapshot stays so where blocks are the same, and where the snapshot is still there with its directories.
use Rattle.std.proofs.Common.{◌≡◌, ℕ, ◌+◌, ◌≤◌, Bool, IsTrue, List, length, Option, Some, None, IfSome, Result, Ok, Err, OnOk, OnErr, sym, subst, ap, ◌∙◌}
use Rattle.std.specs.List.{All}
use Rattle.base_types.specs.Seal.{Blocks}
use Rattle.layout_geometry.specs.Geometry.{Geometry}
use Rattle.crash_stands.specs.Places.{table_blocks}
use Rattle.crash_stands.specs.Stands.{AreSound}
use Rattle.lang_tree.specs.declared.command.Refusal.{Refusal}
use Rattle.lang_tree.specs.declared.command.Reply.{Reply}
use Rattle.engine_blocks.specs.Puts.{IsData}
use Rattle.engine_blocks.specs.State.{Bookkeeping, State}
use Rattle.fs_files.specs.Calls.{places_or_none}
use Rattle.fs_files.specs.Effects.{LooksOnly}
use Rattle.fs_snapshots.specs.Kept.{AreDirsBefore, IsGoneThrough, IsSnapshotAt, IsWholeKept, KeptState, MayReadKept}
use Rattle.fs_session.specs.declared.plan.Plan.{Plan}
use Rattle.fs_session.specs.declared.plan.Plan.TheVariants.{Answer, Change}
use Rattle.fs_session.specs.Commands.{SpendsNothing, places_of}
use Rattle.fs_session.specs.Plans.{IsAnswer, LeavesMap}
use Rattle.fs_commands.specs.declared.held.HeldNodes.{HeldNodes}
use Rattle.fs_commands.specs.Held.{AreHeld, Holds}
use Rattle.fs_commands.specs.Snapping.{IsSnapshot}
use Rattle.fs_commands.proofs.snapped.Kept.{WholeLaw}
use Rattle.fs_commands.proofs.snapped.Knows.{same_so}

-- the snapshot is there, and so are the numbers of its directories' blocks
abbrev pub IsThere : ℕ → KeptState → Geometry → Blocks → Type 0
IsThere k v g m = IsSnapshotAt g m k v.places × AreDirsBefore g m v.places v.before

-- what was gone through stays so
pub gone_same : (tells : Bool) (s t : State) (v : KeptState) → t.books.geom ≡ s.books.geom → (IsTrue tells → AreDirsBefore t.books.geom t.map v.places v.before) → IsGoneThrough tells s v → IsGoneThrough tells t v
gone_same tells s t v geom right h = record {
  «data» = subst (λ (g : Geometry). All (IsData g) v.places) (sym geom) h.«data»;
  table = subst (λ (g : Geometry). 1 + table_blocks g ≤ length v.places) (sym geom) h.table;
  counts = h.counts ∙ ap (λ (g : Geometry). table_blocks g) (sym geom);
  right = right;
}

pub held_there : (tells : Bool) (s : State) (h : HeldNodes) → IsTrue tells → AreHeld tells s h → IsThere h.number h.nodes s.books.geom s.map
held_there tells s h told are = (are.there told, are.gone.right told)

module _ (tells : Bool) (s t : State) (geom : t.books.geom ≡ s.books.geom) where
  held_so : (h : HeldNodes) → (IsTrue tells → IsThere h.number h.nodes s.books.geom s.map → IsThere h.number h.nodes t.books.geom t.map) → AreHeld tells s h → AreHeld tells t h
  held_so h stays are = record {
    gone = gone_same tells s t h.nodes geom (λ told. (stays told (held_there tells s h told are)).1) are.gone;
    there = λ told. (stays told (held_there tells s h told are)).0;
  }

  -- where each snapshot that is there stays there
  pub holds_so : (IsTrue tells → (k : ℕ) (v : KeptState) → IsThere k v s.books.geom s.map → IsThere k v t.books.geom t.map) → (held : Option HeldNodes) → Holds tells s held → Holds tells t held
  holds_so stays None h = tt
  holds_so stays (Some nodes) h = held_so nodes (λ told. stays told nodes.number nodes.nodes) h

  -- and where the blocks are the same
  pub holds_same : (IsTrue tells → t.map ≡ s.map) → (held : Option HeldNodes) → Holds tells s held → Holds tells t held
  holds_same map = holds_so (λ told k v. same_so (IsThere k v) s t geom (map told))

pub holds_looked : (tells failed : Bool) (s t : State) → LooksOnly tells failed s t → (held : Option HeldNodes) → Holds tells s held → Holds tells t held
holds_looked tells failed s t looks = holds_same tells s t (ap (λ (b : Bookkeeping). b.geom) looks.books) looks.map

-- What carrying out an answer leaves: the blocks as planning found them.
pub answer_map : (tells : Bool) (s q t : State) (planned : Result Plan Refusal) (r : Result Reply Refusal) → IsTrue tells → IsAnswer planned → q.map ≡ s.map → OnOk r (LeavesMap planned q t) → OnErr r (SpendsNothing tells s t) → t.map ≡ q.map
answer_map tells s q t (Err why) (Ok reply) told is map left spent = absurd left
answer_map tells s q t (Ok (Answer answer)) (Ok reply) told is map left spent = left
answer_map tells s q t (Ok (Change draft cost nodes)) (Ok reply) told is map left spent = absurd is
answer_map tells s q t planned (Err why) told is map left spent = spent.map told ∙ sym map

-- What is held may be read.
module _ (tells : Bool) (s : State) (sound : IsTrue tells → AreSound s.books.geom s.map) (law : WholeLaw) where
  pub may_held : (h : HeldNodes) → AreHeld tells s h → MayReadKept tells s h.nodes
  may_held h are = record {
    gone = are.gone;
    whole = λ told. let there = are.there told in subst (IsWholeKept s.books.geom s.map) there.places_are (law s.books.geom s.map h.number there.node (sound told) there.is_node there.kind);
  }

  pub may_hold : (held : Option HeldNodes) → Holds tells s held → IfSome held (λ h. MayReadKept tells s h.nodes)
  may_hold None h = tt
  may_hold (Some nodes) h = may_held nodes h

-- a snapshot at the places of its node
pub snapshot_at : (s : State) (k : ℕ) (places : List ℕ) → IsSnapshot s.books.geom s.map k → places ≡ places_of s k → IsSnapshotAt s.books.geom s.map k places
snapshot_at s k places (node, used, kind) are = record { node = node; is_node = used; kind = kind; places_are = sym (are ∙ ap places_or_none used) }

-- the places of what is held of a snapshot
pub places_at : (s : State) (k : ℕ) (places : List ℕ) → IsSnapshotAt s.books.geom s.map k places → places ≡ places_of s k
places_at s k places at = sym (ap places_or_none at.is_node ∙ at.places_are)
