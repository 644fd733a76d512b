-- A snapshot that is read: what holds of its places, and what stays behind reads.
use Rattle.std.proofs.Common.{◌≡◌, ℕ, ◌+◌, ◌≤◌, Bool, false, IsTrue, List, length, All, Option, Some, Err, IfOk, IfSome, refl, sym, ap, subst, ◌∙◌, arith}
use Rattle.base_types.specs.Runs.{run_places}
use Rattle.base_types.specs.Seal.{Blocks}
use Rattle.layout_geometry.specs.Geometry.{Geometry}
use Rattle.layout_bytes.specs.declared.node.Node.{Node}
use Rattle.layout_bytes.specs.declared.node.NodeKind.TheVariants.{Snapshot}
use Rattle.crash_stands.specs.Files.{used_node}
use Rattle.crash_stands.specs.Places.{table_blocks}
use Rattle.crash_stands.specs.Stands.{AreSound}
use Rattle.engine_blocks.specs.Puts.{IsData}
use Rattle.engine_blocks.specs.State.{Bookkeeping, State}
use Rattle.fs_files.specs.declared.node_blocks.OpenFile.{OpenFile}
use Rattle.fs_files.specs.Calls.{places_in, places_or_none}
use Rattle.fs_files.specs.Content as file
use Rattle.fs_files.specs.Drafts.{DraftState, begun_beside}
use Rattle.fs_files.specs.Effects.{LooksOnly}
use Rattle.fs_snapshots.specs.declared.refusal.SnapshotRefusal.{SnapshotRefusal}
use Rattle.fs_snapshots.specs.declared.refusal.SnapshotRefusal.TheVariants.{ReadFault, NoMemory, WrongSize}
use Rattle.fs_snapshots.specs.Kept.{AreDirsBefore, HasItsParts, IsGoneThrough, IsWholeKept, KeptState}
use Rattle.fs_snapshots.specs.Refused as snapshot
use Rattle.fs_files.specs.Shared.{is_kept}
use Rattle.fs_files.specs.Sound.{TellsKept}
use Rattle.engine_blocks.specs.Running.{HasNoBare}
use Rattle.fs_session.specs.Commands.{places_of}
use Rattle.fs_session.specs.Sessions.{IsSession, MayBegin}
use Rattle.fs_session.specs.Staying.{session_stays}
use Rattle.lang_tree.specs.Step.{Session}
use Rattle.fs_commands.specs.Refusals.{kept_refusal}
use Rattle.fs_commands.specs.Snapping.{IsSnapshot}

-- a snapshot of sound blocks is whole, and has its parts
abbrev pub WholeLaw : Type 0
WholeLaw = (g : Geometry) (m : Blocks) (k : ℕ) (node : Node) → AreSound g m → used_node g m k ≡ Some node → node.kind ≡ Snapshot → IsWholeKept g m (run_places node.runs)

abbrev pub PartsLaw : Type 0
PartsLaw = (g : Geometry) (m : Blocks) (k : ℕ) (node : Node) → AreSound g m → used_node g m k ≡ Some node → node.kind ≡ Snapshot → HasItsParts g m (run_places node.runs)

-- the places that were opened are those of the node
pub opened_places : {counts : List ℕ} (s : State) (d : DraftState) (k : ℕ) (found : Option OpenFile) (f : OpenFile) → d ≡ begun_beside counts → found ≡ Some f → IfSome found (λ f. f.blocks ≡ places_in s d k) → f.blocks ≡ places_of s k
opened_places s d k found f begun is places = subst (λ o. IfSome o (λ f. f.blocks ≡ places_in s d k)) is places ∙ ap (λ e. places_in s e k) begun

module _ (s : State) (k : ℕ) (places : List ℕ) (there : places ≡ places_of s k) (sound : AreSound s.books.geom s.map) where
  pub places_whole : WholeLaw → IsSnapshot s.books.geom s.map k → IsWholeKept s.books.geom s.map places
  places_whole law (node, used, kind) = subst (IsWholeKept s.books.geom s.map) (sym (there ∙ ap places_or_none used)) (law s.books.geom s.map k node sound used kind)

  pub places_parts : PartsLaw → IsSnapshot s.books.geom s.map k → HasItsParts s.books.geom s.map places
  places_parts law (node, used, kind) = subst (HasItsParts s.books.geom s.map) (sym (there ∙ ap places_or_none used)) (law s.books.geom s.map k node sound used kind)

-- What stays behind reads.
module _ (tells : Bool) (s t : State) (looks : LooksOnly tells false s t) where
  pub still : (P : Geometry → Blocks → Type 0) → IsTrue tells → P s.books.geom s.map → P t.books.geom t.map
  still P told h = subst (λ (b : Bookkeeping). P b.geom t.map) (sym looks.books) (subst (P s.books.geom) (sym (looks.map told)) h)

  pub begins_still : (counts : List ℕ) → MayBegin tells s counts → MayBegin tells t counts
  begins_still counts may = record {
    going = ap (λ (b : Bookkeeping). b.stopped) looks.books ∙ may.going;
    none_bare = subst (λ (b : Bookkeeping). HasNoBare b.running) (sym looks.books) may.none_bare;
    sound = λ told. still AreSound told (may.sound told);
    kept = λ told. still (λ g m. TellsKept g (is_kept counts) m) told (may.kept told);
  }

  pub looked_session : IsTrue tells → (f : Session) → s.books.stopped ≡ false → IsSession s f → IsSession t f
  looked_session told f going h = session_stays s t f going (ap (λ (b : Bookkeeping). b.geom) looks.books) (looks.map told) (ap (λ (b : Bookkeeping). b.point) looks.books) (ap (λ (b : Bookkeeping). b.running.weight) looks.books)
      (omega (arith, ap (λ (b : Bookkeeping). b.floor) looks.books)) h

  pub gone_stays : (v : KeptState) → IsGoneThrough tells s v → IsGoneThrough tells t v
  gone_stays v h = record {
    «data» = subst (λ (b : Bookkeeping). All (IsData b.geom) v.places) (sym looks.books) h.«data»;
    table = subst (λ (b : Bookkeeping). 1 + table_blocks b.geom ≤ length v.places) (sym looks.books) h.table;
    counts = h.counts ∙ ap (λ (b : Bookkeeping). table_blocks b.geom) (sym looks.books);
    right = λ told. still (λ g m. AreDirsBefore g m v.places v.before) told (h.right told);
  }

-- one that isn't read is one that has too few or too many blocks, or the disk or memory failed
pub never_wrong : (why : SnapshotRefusal) (P : Option KeptState → Type 0) → (why ≡ WrongSize → ⊥) → IfOk (kept_refusal why) P
never_wrong ReadFault P never = tt
never_wrong NoMemory P never = tt
never_wrong WrongSize P never = absurd (never refl)

pub fails_alike : (why : SnapshotRefusal) → snapshot.fails_reading {T = KeptState} (Err why) ≡ file.fails_reading (kept_refusal why)
fails_alike ReadFault = refl
fails_alike NoMemory = refl
fails_alike WrongSize = refl
