-- What is known of any map of blocks whose contents are told: the laws that are called, the room of each session, and what it keeps where the pipeline moves.
use Rattle.std.proofs.Common.{⊎_elim, ◌≡◌, ℕ, ◌-◌, ◌<◌, Bool, true, false, IsTrue, List, length, filter, refl, sym, subst, ap, ap₂, ◌∙◌, arith}
use Rattle.std.proofs.lemmas.Bool.{cases_Bool, true≢false}
use Rattle.base_types.specs.Seal.{Blocks}
use Rattle.std.specs.FinMap.{empty}
use Rattle.layout_geometry.specs.Geometry.{Geometry, data_start}
use Rattle.layout_bytes.specs.Bitmap.{is_set}
use Rattle.lang_tree.specs.Figures.{blocks}
use Rattle.lang_tree.specs.Step.{Session}
use Rattle.lang_tree.specs.Tree.{Tree}
use Rattle.crash_stands.specs.Files.{files_of}
use Rattle.crash_stands.specs.Inodes.{inodes_of}
use Rattle.crash_stands.specs.Maps.{IsMapOf}
use Rattle.crash_stands.specs.Stands.{IsTreeOf}
use Rattle.engine_blocks.specs.Calls.{IsSound}
use Rattle.engine_blocks.specs.Crashes.{IsTold}
use Rattle.engine_blocks.specs.Running.{Running, has}
use Rattle.engine_blocks.specs.State.{Bookkeeping, State, IsReusable, data_blocks, live_blocks, reusable_blocks}
use Rattle.fs_session.specs.DiskRoom.{ComesBack, IsRoomOf, KeepsRoom}
use Rattle.fs_session.specs.Memory.{room_of}
use Rattle.fs_session.specs.Snapshots.{kept_lists}
use Rattle.fs_session.specs.Room.{HoldsTree, Room, is_in_use}
use Rattle.fs_session.specs.Sessions.{IsSession}
use Rattle.fs_snapshots.specs.Among.{is_among, kept_is}
use Rattle.fs_session.proofs.standing.Marks.{HasSlots, HasItsBytes}
use Rattle.fs_session.proofs.rooms.KeptBlocks.{SnapshotLaws}
use Rattle.fs_session.proofs.rooms.SnapshotBlocks.{HasDirectories, HasWholeFiles}
use Rattle.fs_session.proofs.rooms.Lists.{kept_themselves}
use Rattle.fs_session.proofs.rooms.Nodes.{HasAsManyRuns, HasItsRuns, HasLeastNumber, HasNumbers, HasSlotsForNames, holds, in_use_marked, marked_in_use}
use Rattle.fs_session.proofs.rooms.Same.{places_same}

-- contents are told, what holds of each state, and the laws that are called
pub record Known {S : Type 0} (tells : Bool) (state : S → State) : Type 0 where
  pub told : IsTrue tells
  pub sound : (s : S) → IsSound (state s).books
  pub agrees : (s : S) → IsTold (state s)
  pub live : (s : S) (f : Session) → IsSession (state s) f → f.tree.snapshots ≡ empty → length (live_blocks (state s).books) ≡ blocks (state s).books.geom.layout f.tree
  pub map : (g : Geometry) (m : Blocks) (t : Tree) → IsTreeOf g m t → IsMapOf g.i (inodes_of g.layout (files_of g m)) t
  pub slots : HasSlots
  pub bytes : HasItsBytes
  pub names : HasSlotsForNames
  pub numbers : HasNumbers
  pub least : HasLeastNumber
  pub snapshots : SnapshotLaws
  pub directories : HasDirectories
  pub whole : HasWholeFiles
  pub back : HasItsRuns
  pub many : HasAsManyRuns

-- the blocks are those of a session after the command, which was answered so
abbrev pub LeavesSession : {S : Type 0} → (S → State) → S → S → (Session → Type 0) → Type 0
LeavesSession state old new Answers = (next : Session) × IsSession (state new) next × ((state new).books.geom ≡ (state old).books.geom) × Answers next

-- the room of a state in which what may be taken is as in this bookkeeping
abbrev pub room_with : State → Bookkeeping → Room
room_with s k = record (room_of s) { takeable = reusable_blocks k }

module _ (laws : SnapshotLaws) (s : State) (f : Session) (bits : (b : ℕ) → b < s.books.geom.n → s.books.marked b ≡ is_set s.books.geom s.map b) (sound : IsSound s.books) (stands : IsTreeOf s.books.geom s.map f.tree)
    (tree : HoldsTree s.books.geom f.tree (room_of s)) (k : Bookkeeping) (behind : IsSound k) (geom : k.geom ≡ s.books.geom) (marked : k.marked ≡ s.books.marked) (running : k.running ≡ s.books.running) where
  -- what may be taken are data blocks
  moved : reusable_blocks k ≡ filter k.reusable (data_blocks s.books.geom)
  moved = ap (λ (g : Geometry). filter k.reusable (data_blocks g)) geom

  -- one that may be taken isn't marked
  unmarked : (b : ℕ) → has (reusable_blocks k) b ≡ true → s.books.marked b ≡ false
  unmarked b there =
      let at = kept_is k.reusable (data_start k.geom) (k.geom.n - data_start k.geom) b there in
      ap (λ (m : ℕ → Bool). m b) (sym marked) ∙ behind.unmarked b (record { from = at.0; below = omega (arith, at.0, at.1); free = at.2 })

  free : (b : ℕ) → is_in_use s.books.geom f.tree (room_of s) b ≡ true → has (reusable_blocks k) b ≡ false
  free b is = ⊎_elim
      (λ there. absurd (true≢false (sym (in_use_marked s bits stands.sound laws f.tree stands b is) ∙ unmarked b there)))
      (λ gone. gone) (cases_Bool (has (reusable_blocks k) b))

  -- as many data blocks are in use as are marked
  live_too : length (live_blocks k) ≡ length (live_blocks s.books)
  live_too = ap (λ (m : ℕ → Bool). length (filter m (data_blocks k.geom))) marked ∙ ap (λ (g : Geometry). length (filter s.books.marked (data_blocks g))) geom

  -- the room is one of the session's
  pub is_room : IsRoomOf s.books.geom f (room_with s k)
  is_room = record {
    holds = record { files = tree.files; directories = tree.directories; unused = tree.unused; snapshots = tree.snapshots; alone = tree.alone };
    fits = omega (arith, sound.fits, sound.room);
    takeable = moved ∙ kept_themselves k.reusable (data_start s.books.geom) (s.books.geom.n - data_start s.books.geom) ∙ ap (λ (xs : List ℕ). filter (has xs) (data_blocks s.books.geom)) (sym moved);
    apart = free;
    upto = omega (arith, behind.accounts, behind.area, ap (λ (g : Geometry). g.n - data_start g) geom, live_too, marked_in_use s bits stands.sound laws f.tree stands, ap (λ (r : Running). r.held) running);
  }

-- what may be taken may be taken still
pub still_takeable : (k l : Bookkeeping) → l.geom ≡ k.geom → ((b : ℕ) → IsReusable k.geom k.reusable b → l.reusable b ≡ true) → (b : ℕ) → has (reusable_blocks k) b ≡ true → has (reusable_blocks l) b ≡ true
still_takeable k l geom still b there =
    let at = kept_is k.reusable (data_start k.geom) (k.geom.n - data_start k.geom) b there in
    let below : b < k.geom.n = omega (arith, at.0, at.1) in
    ap (λ (g : Geometry). has (filter l.reusable (data_blocks g)) b) geom
    ∙ is_among l.reusable (data_start k.geom) (k.geom.n - data_start k.geom) b at.0 at.1 (still b (record { from = at.0; below = below; free = at.2 }))

-- rooms that came back twice came back
pub back_again : (g : Geometry) (f : Session) (r s t : Room) → ComesBack g f r s → ComesBack g f s t → ComesBack g f r t
back_again g f r s t one two = record {
  weight = two.weight ∙ one.weight;
  held = two.held ∙ one.held;
  keeps = record { places = two.keeps.places ∙ one.keeps.places; kept = two.keeps.kept ∙ one.keeps.kept; takeable = λ b may. two.keeps.takeable b (one.keeps.takeable b may) };
  is_room = two.is_room;
}

module _ {S : Type 0} (tells : Bool) (state : S → State) (known : Known tells state) where
  -- the room of a session holds its tree
  pub room_holds : (s : S) (f : Session) → IsSession (state s) f → HoldsTree (state s).books.geom f.tree (room_of (state s))
  room_holds s f h = holds known.slots known.bytes known.names known.numbers (state s) f.tree h.tree known.directories known.whole (λ none. marked_in_use (state s) (known.agrees s).bits h.tree.sound known.snapshots f.tree h.tree ∙ known.live s f h none)

  -- the room with what may be taken by another bookkeeping of the same blocks
  pub room_is_with : (s : S) (f : Session) → IsSession (state s) f → (k : Bookkeeping) → IsSound k → k.geom ≡ (state s).books.geom → k.marked ≡ (state s).books.marked → k.running ≡ (state s).books.running → IsRoomOf (state s).books.geom f (room_with (state s) k)
  room_is_with s f h k behind geom marked running =
      is_room known.snapshots (state s) f (known.agrees s).bits (known.sound s) h.tree (room_holds s f h) k behind geom marked running

  -- the room of a session
  pub room_is : (s : S) (f : Session) → IsSession (state s) f → IsRoomOf (state s).books.geom f (room_of (state s))
  room_is s f h = room_is_with s f h (state s).books (known.sound s) refl refl refl

  -- a call that keeps the map and what may be taken keeps the room
  pub keeps_room : (s t : S) → (state t).books.geom ≡ (state s).books.geom → (state t).map ≡ (state s).map → ((b : ℕ) → IsReusable (state s).books.geom (state s).books.reusable b → (state t).books.reusable b ≡ true) → KeepsRoom (room_of (state s)) (room_of (state t))
  keeps_room s t geom map still = record { places = places_same (state s) (state t) geom map; kept = ap₂ kept_lists geom map; takeable = still_takeable (state s).books (state t).books geom still }

  -- and one that keeps the transaction as well brings it back
  pub brings_back : (s t : S) (f : Session) → IsSession (state t) f → (state t).books.geom ≡ (state s).books.geom → (state t).map ≡ (state s).map → (state t).books.running ≡ (state s).books.running
      → ((b : ℕ) → IsReusable (state s).books.geom (state s).books.reusable b → (state t).books.reusable b ≡ true) → ComesBack (state s).books.geom f (room_of (state s)) (room_of (state t))
  brings_back s t f h geom map running still = record {
    weight = ap (λ (r : Running). r.weight) running;
    held = ap (λ (r : Running). r.held) running;
    keeps = keeps_room s t geom map still;
    is_room = subst (λ (g : Geometry). IsRoomOf g f (room_of (state t))) geom (room_is t f h);
  }
