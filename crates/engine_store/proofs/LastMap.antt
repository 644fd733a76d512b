-- On the live blocks the map of the last sync point is the ledger's newest map, and the same blocks are live in both.
use Rattle.std.proofs.Common.{◌≡◌, ℕ, false, IsTrue, List, Option, Some, None, refl, sym, ◌∙◌, subst}
use Rattle.base_types.specs.Seal.{Blocks}
use Rattle.disk_contract.specs.declared.event.Event.{Event}
use Rattle.disk_contract.specs.Cell.{accepted, is_lost}
use Rattle.disk_contract.specs.Disk as disk
use Rattle.layout_geometry.specs.Geometry.{Geometry}
use Rattle.layout_journal.specs.Ring.{RingPlaces}
use Rattle.layout_journal.specs.Run.{otherwise, is_live}
use Rattle.crash_argument.specs.Ledger.{Ledger, IsConsistentWith, issued, next_number}
use Rattle.engine_checkpoint.specs.declared.pipeline.Pipeline.{Pipeline}
use Rattle.engine_checkpoint.specs.Agree.{PipelineAgrees}
use Rattle.engine_checkpoint.specs.Bytes.{bytes_now, IsLiveNow}
use Rattle.engine_checkpoint.specs.Kept.{kept, newest_in}
use Rattle.engine_books.specs.Books.{TransactionBooks}
use Rattle.engine_books.specs.Kept.{AreKept}
use Rattle.engine_books.specs.Point.{HasSameLive}
use Rattle.engine_store.specs.declared.parts.StoreParts.{StoreParts}
use Rattle.engine_store.specs.Told.{IsToldBy, last_map}
use Rattle.engine_store.proofs.Windows.{ReadsLast}

-- What engine_checkpoint promises of the newest payloads, crash_argument of reads, and engine_books of maps with the same live blocks.
abbrev pub PayloadIs : Type 0
PayloadIs = (base : Blocks) (log : List Event) (l : Ledger) (v : Pipeline) (ring : RingPlaces) (waiting : List (ℕ × ℕ)) (taken : List ℕ) (b : ℕ) (x : List ℕ) → IsConsistentWith base log l → PipelineAgrees base log l v ring waiting taken → IsLiveNow l b → newest_in None (kept v) b ≡ Some x → l.map_before (next_number l) b ≡ x

abbrev pub WrittenIs : Type 0
WrittenIs = (base : Blocks) (log : List Event) (l : Ledger) (v : Pipeline) (ring : RingPlaces) (waiting : List (ℕ × ℕ)) (taken : List ℕ) (b : ℕ) → IsConsistentWith base log l → PipelineAgrees base log l v ring waiting taken → IsLiveNow l b → newest_in None (kept v) b ≡ None → l.map_before (next_number l) b ≡ issued base log b

abbrev pub NoneIsLost : Type 0
NoneIsLost = (base : Blocks) (log : List Event) (l : Ledger) (v : Pipeline) (ring : RingPlaces) (waiting : List (ℕ × ℕ)) (taken : List ℕ) (b : ℕ) → IsConsistentWith base log l → PipelineAgrees base log l v ring waiting taken → IsLiveNow l b → is_lost b log ≡ false

abbrev pub LiveIsSame : Type 0
LiveIsSame = (v : TransactionBooks) (last next : Blocks) (b : ℕ) → AreKept v → HasSameLive v last next → is_live v.geom next b ≡ is_live v.geom last b

-- the laws by which the last map is the ledger's
pub record LastMapLaws : Type 0 where
  pub payload : PayloadIs
  pub written : WrittenIs
  pub calm : NoneIsLost
  pub reads : ReadsLast
  pub live : LiveIsSame

-- what stands for a live block by the pipeline and the disk is what the ledger's newest map has there
pub bytes_are : LastMapLaws → (base : Blocks) (log : List Event) (l : Ledger) (v : Pipeline) (ring : RingPlaces) (waiting : List (ℕ × ℕ)) (taken : List ℕ) (b : ℕ) → IsConsistentWith base log l → PipelineAgrees base log l v ring waiting taken → IsLiveNow l b → bytes_now v base log b ≡ l.map_before (next_number l) b
bytes_are laws base log l v ring waiting taken b keeps agrees lives = by (newest_in None (kept v) b) refl
  where
    by : (o : Option (List ℕ)) → newest_in None (kept v) b ≡ o → otherwise o (accepted base log b) ≡ l.map_before (next_number l) b
    by (Some x) is = sym (laws.payload base log l v ring waiting taken b x keeps agrees lives is)
    by None is = laws.reads base log b (laws.calm base log l v ring waiting taken b keeps agrees lives) ∙ sym (laws.written base log l v ring waiting taken b keeps agrees lives is)

module _ (laws : LastMapLaws) (v : StoreParts) (d : disk.State) (l : Ledger) (k : AreKept v.books) (told : IsToldBy v d l) (going : v.stopped ≡ false) where
  same_geom : v.books.geom ≡ l.geom
  same_geom = told.safe.points.geom

  -- the last map has the ledger's bytes on the ledger's live blocks
  pub last_is : HasSameLive v.books (l.map_before (next_number l)) (last_map v d)
  last_is b lives = bytes_are laws d.base d.log l v.pipeline v.ring v.books.dead.waiting v.books.changes.taken b told.safe.keeps (told.going going).agrees (subst (λ (g : Geometry). IsTrue (is_live g (l.map_before (next_number l)) b)) same_geom lives)

  -- the same blocks are live in both
  pub live_same : (b : ℕ) → is_live v.books.geom (last_map v d) b ≡ is_live v.books.geom (l.map_before (next_number l)) b
  live_same b = laws.live v.books (l.map_before (next_number l)) (last_map v d) b k last_is

  -- so a live block of the last map is live in the ledger's, as the pipeline speaks of it
  pub live_now : (b : ℕ) → IsTrue (is_live v.books.geom (last_map v d) b) → IsLiveNow l b
  live_now b lives = subst (λ (g : Geometry). IsTrue (is_live g (l.map_before (next_number l)) b)) same_geom (subst (λ t. IsTrue t) (live_same b) lives)

  -- the ledger's newest map has the last map's bytes on the last map's live blocks
  pub newest_is : HasSameLive v.books (last_map v d) (l.map_before (next_number l))
  newest_is b lives = sym (last_is b (subst (λ t. IsTrue t) (live_same b) lives))

  -- no write to a live block of the last map is lost
  pub none_lost : (b : ℕ) → IsTrue (is_live v.books.geom (last_map v d) b) → is_lost b d.log ≡ false
  none_lost b lives = laws.calm d.base d.log l v.pipeline v.ring v.books.dead.waiting v.books.changes.taken b told.safe.keeps (told.going going).agrees (live_now b lives)
