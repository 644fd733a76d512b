-- Where each node's blocks lie while nothing changed since the last point: in that point's map as in the room, and so in the image that has all that was issued.
use Rattle.std.proofs.Common.{◌≡◌, ◌⊎◌, inl, inr, ⊎_elim, ℕ, ◌+◌, ◌-◌, ◌<◌, ◌≤◌, ◌&&◌, ◌||◌, nat_le, nat_lt, Bool, true, false, if◌then◌else◌, List, [], ◌∷◌, ◌++◌, length, take, drop, Option, Some, None, refl, sym, ap, ◌∙◌, subst, arith}
use Rattle.std.proofs.Math.Logic.{∥∥₁_map}
use Rattle.std.proofs.Math.Seq.{take-length}
use Rattle.std.proofs.lemmas.List.{length-append}
use Rattle.std.proofs.lemmas.Bool.{and_from, and_parts, cases_Bool, cases_lt, false≢true, leb-true, le-leb, lt-ltb, or_parts, true≢false}
use Rattle.std.specs.FinMap.{get}
use Rattle.base_types.specs.Seal.{Blocks}
use Rattle.base_types.specs.Layouts.{node_block, node_byte}
use Rattle.base_types.specs.LayoutLaws.{node_in_table}
use Rattle.layout_geometry.specs.Geometry.{Geometry, IsGeometry, bitmap_blocks, bitmap_start, table_start, data_start}
use Rattle.layout_extent.specs.Renew.{renew}
use Rattle.layout_bytes.specs.Bitmap.{is_set}
use Rattle.layout_bytes.specs.Bytes.{when}
use Rattle.layout_bytes.specs.Node.{node_size, node_of, node_at}
use Rattle.layout_journal.specs.declared.header.Header.{Header}
use Rattle.layout_journal.specs.Run.{Newest}
use Rattle.lang_tree.specs.declared.command.Cmd.{Cmd}
use Rattle.lang_tree.specs.declared.command.Cmd.TheVariants as cmds
use Rattle.lang_tree.specs.declared.command.Refusal.{Refusal}
use Rattle.lang_tree.specs.declared.command.Reply.{Reply}
use Rattle.lang_tree.specs.Conditions.{is_snapshot, refusal}
use Rattle.lang_tree.specs.Figures.{figures}
use Rattle.lang_tree.specs.Points.{after_reply, is_sync, may_have_written}
use Rattle.lang_tree.specs.Sharing.{BlocksAlone, SharedNodes, figures_over}
use Rattle.lang_tree.specs.Step.{Session, dsync, dwait, osync, step}
use Rattle.lang_tree.specs.Tree.{Dir, File, IsSound, Kept, Thing, Tree}
use Rattle.crash_argument.specs.Ledger.{HoldsUnder, issued}
use Rattle.engine_blocks.specs.Crashes.{HasLiveBlocks, HasMapOfPoint, StandsForLast}
use Rattle.engine_blocks.specs.State.{State}
use Rattle.fs_files.specs.Calls.{places_of, places_or_none}
use Rattle.fs_session.specs.Commands.{is_on_tree}
use Rattle.fs_session.specs.DiskRoom.{AnswersOn, AnswersOver, BeginsOver, IsRoomOf, SyncsOver}
use Rattle.fs_session.specs.Memory.{room_of}
use Rattle.fs_session.specs.NothingKept.{renews_nothing}
use Rattle.fs_session.specs.Room.{HoldsTree, IsDoneIn, RefusesIn, Room, alone_by, figures_in, renewed_in, shared_by}
use Rattle.fs_session.specs.Sessions.{IsSession}
use Rattle.cmd_session.specs.Answered.{PassesPoints, PlaceLaws, StaysPlaced}
use Rattle.cmd_session.specs.Going.{KeepsPlaces}
use Rattle.cmd_session.specs.Places.{LiesAt}
use Rattle.cmd_session.specs.Taking.{makes_point}
use Rattle.cmd_session.proofs.Costing.{needs_little}
use Rattle.cmd_session.proofs.Rooms.{said}

-- A map that has the live blocks of another one: each node has the same blocks in both.

module _ (g : Geometry) (limits : IsGeometry g) (map m : Blocks) (same : HasLiveBlocks g map m) where
  -- a block of the node table
  table_same : (b : ℕ) → bitmap_start g ≤ b → b < data_start g → m b ≡ map b
  table_same b from below = same b (and_from _ _ (le-leb _ _ from) (and_from _ _ (lt-ltb b g.n (omega (arith, below, limits.data_room))) (ap (λ t. t || is_set g map b) (lt-ltb _ _ below))))

  node_same : (k : ℕ) → 1 ≤ k → k ≤ g.i → node_at g m k ≡ node_at g map k
  node_same k from upto =
      ap (λ (xs : List ℕ). node_of g (take (node_size g.layout) (drop (node_byte g.layout k) xs)))
      (table_same (table_start g + node_block g.layout k) (omega arith) (omega (arith, node_in_table g.layout g.i k limits.whole_blocks from upto)))

  pub places_same : (k : ℕ) → places_of g m k ≡ places_of g map k
  places_same k = ⊎_elim
      (λ is. let number = and_parts (nat_le 1 k) (nat_le k g.i) is in ap (λ o. places_or_none (when (nat_le 1 k && nat_le k g.i) o)) (node_same k (leb-true 1 k number.0) (leb-true k g.i number.1)))
      (λ out. ap (λ t. places_or_none (when t (node_at g m k))) out ∙ sym (ap (λ t. places_or_none (when t (node_at g map k))) out)) (cases_Bool (nat_le 1 k && nat_le k g.i))

-- An image that is alike below n holds the same map under the same geometry.
module _ (g : Geometry) (laws : PlaceLaws g) (img other m : Blocks) (same : (b : ℕ) → b < g.n → img b ≡ other b) where
  newest_same : (slot : ℕ) (h : Header) → Newest g.n img slot h → Newest g.n other slot h
  newest_same slot h x = grind (arith, x.is_slot, g.n, laws.limits.least_blocks, x.stands, x.other)

  pub held_alike : HoldsUnder g.n g img m → HoldsUnder g.n g other m
  held_alike h =
      let held = laws.alike g.n img other m same h.held in
      let one = laws.newest g.n other held.slot h.held.slot held.header h.held.header held.newest (newest_same h.held.slot h.held.header h.held.newest) in
      record { held = held; geom = ap (λ (x : Header). x.geom) one.1 ∙ h.geom }

-- A command on the tree that leaves nothing changed since the last point leaves the session as it was.

if_same : (f : Session) (c : Bool) (done : Reply) (x : Session × Reply) → x.0.changed ≡ true → (if c then (f, done) else x).0.changed ≡ false → (if c then (f, done) else x).0 ≡ f
if_same f c done x h1 h2 = grind arith

same_session : (f : Session) (cmd : Cmd) → is_on_tree cmd ≡ true → (step f cmd).0.changed ≡ false → (step f cmd).0 ≡ f
same_session f cmd on_tree clean = grind (arith, refusal f.limit f.tree cmd, f.limit, f.tree, if_same, false≢true)

-- a sync that is done and makes no point had nothing to commit
clean_osync : (f : Session) (c : Bool) → (c && may_have_written (osync f c).1) ≡ false → c ≡ false
clean_osync f c h1 = grind arith

clean_dsync : (f : Session) (c : Bool) → (c && may_have_written (dsync f c).1) ≡ false → c ≡ false
clean_dsync f c h1 = grind arith

-- a wait changes nothing of the tree
waited_changed : (f : Session) (n : ℕ) (b : Bool) → (dwait f n b).0.changed ≡ f.changed
waited_changed f n true = refl
waited_changed f n false = refl

-- Rooms that hold the same tree have as many blocks of each node.

-- a number of snapshots is that of one
abbrev NumbersNamed : Tree → Type 0
NumbersNamed t = (n : ℕ) → is_snapshot t.snapshots n ≡ true → (name : List ℕ) × (k : Kept) × (get t.snapshots name ≡ Some k) × (k.number ≡ n)

module _ (g : Geometry) (limit : ℕ) (t : Tree) (sound : IsSound limit t) (named : NumbersNamed t) (r q : Room) (holds : HoldsTree g t r) (again : HoldsTree g t q) where
  same_length : (k : ℕ) → length (q.places k) ≡ length (r.places k)
  same_length k = by (get t.nodes k) refl
    where
      of_snapshot : (name : List ℕ) × (x : Kept) × (get t.snapshots name ≡ Some x) × (x.number ≡ k) → length (q.places k) ≡ length (r.places k)
      of_snapshot x =
          ap (λ (n : ℕ). length (q.places n)) (sym x.3) ∙ again.snapshots x.0 x.1 x.2 ∙ sym (holds.snapshots x.0 x.1 x.2) ∙ ap (λ (n : ℕ). length (r.places n)) x.3

      by : (x : Option Thing) → get t.nodes k ≡ x → length (q.places k) ≡ length (r.places k)
      by None is = ⊎_elim (λ snapshot. of_snapshot (named k snapshot)) (λ none. ap length (again.unused k is none ∙ sym (holds.unused k is none))) (cases_Bool (is_snapshot t.snapshots k))
      by (Some (File bytes)) is = again.files k bytes is ∙ sym (holds.files k bytes is)
      by (Some Dir) is = let path = sound.reached k Dir is in again.directories path.0 k path.1 is ∙ sym (holds.directories path.0 k path.1 is)

-- so where these are the first of those, they are those
same_front : (xs ys : List ℕ) → length xs ≡ length ys → xs ≡ take (length xs) ys → xs ≡ ys
same_front xs ys long is = is ∙ ap (λ (n : ℕ). take n ys) long ∙ take-length ys

-- where nothing new is placed, each node has the first of its own
placed_as_before : (renewed : ℕ → Bool) (need : ℕ) (xs ys takeable : List ℕ) → need ≡ 0 → xs ≡ take (length xs) (renew renewed 0 ys (take need takeable)) → xs ≡ take (length xs) ys
placed_as_before renewed need xs ys takeable none is =
    is ∙ ap (λ (n : ℕ). take (length xs) (renew renewed 0 ys (take n takeable))) none ∙ ap (take (length xs)) (renews_nothing renewed 0 ys)

-- what the laws say of changes and costs
abbrev ChangesWhereItCosts : Type 0
ChangesWhereItCosts = (bitmap : ℕ) (s : Session) (cmd : Cmd) → is_sync cmd ≡ false → (step s cmd).0.changed ≡ (s.changed || nat_lt 0 (figures bitmap s cmd).cost)

abbrev CostsWhereShared : Type 0
CostsWhereShared = (bitmap : ℕ) (shared : SharedNodes) (alone : BlocksAlone) (s : Session) (cmd : Cmd) → nat_lt 0 (figures_over bitmap shared alone s cmd).cost ≡ nat_lt 0 (figures bitmap s cmd).cost

-- no number below none
none_below : (n : ℕ) → nat_lt 0 n ≡ false → n ≡ 0
none_below n none = ⊎_elim (λ some. absurd (true≢false (sym (lt-ltb 0 n some) ∙ none))) (λ few. omega (arith, few)) (cases_lt 0 n)

-- a command on the tree is no sync
no_sync : (cmd : Cmd) → is_on_tree cmd ≡ true → is_sync cmd ≡ false
no_sync cmds.Osync is = absurd (false≢true is)
no_sync cmds.Dsync is = absurd (false≢true is)
no_sync cmd is = refl

-- One command that makes no point and leaves nothing changed: nothing was changed before it, and each node keeps its blocks.

module _ (g : Geometry) (f : Session) (reply : Reply) (next : Session) (clean : next.changed ≡ false) (limit : ℕ) (sound : IsSound limit f.tree) (named : NumbersNamed f.tree) (changes : ChangesWhereItCosts) (shared : CostsWhereShared) (r room : Room) (holds : HoldsTree g f.tree r) where
  abbrev Keeps : Type 0
  Keeps = (f.changed ≡ false) × ((k : ℕ) → room.places k ≡ r.places k)

  -- the session and the places are as they were
  rests : next ≡ f → room.places ≡ r.places → Keeps
  rests same places = (ap (λ (x : Session). x.changed) (sym same) ∙ clean, λ k. ap (λ (at : ℕ → List ℕ). at k) places)

  refused : (P : Refusal → Type 0) (back : Room) → back.places ≡ r.places → RefusesIn P f back reply next room → Keeps
  refused P back places x = rests x.3 (ap (λ (q : Room). q.places) x.4 ∙ places)

  done : (cmd : Cmd) (back : Room) → is_on_tree cmd ≡ true → back.places ≡ r.places → IsDoneIn g f back cmd reply next room → Keeps
  done cmd back of_tree places d = (ap (λ (x : Session). x.changed) (sym same) ∙ clean, kept)
    where
      after : (step f cmd).0 ≡ next
      after = ap (λ (x : Session × Reply). x.0) d.answer

      same : next ≡ f
      same = sym after ∙ same_session f cmd of_tree (ap (λ (x : Session). x.changed) after ∙ clean)

      -- it costs nothing, and so needs nothing
      free : (figures_in g f back cmd).cost ≡ 0
      free = none_below (figures_in g f back cmd).cost
          (shared (bitmap_blocks g) (shared_by g f.tree back) (alone_by g f.tree back) f cmd
          ∙ (or_parts f.changed (nat_lt 0 (figures (bitmap_blocks g) f cmd).cost) (sym (changes (bitmap_blocks g) f cmd (no_sync cmd of_tree)) ∙ ap (λ (x : Session). x.changed) after ∙ clean)).1)

      none : (figures_in g f back cmd).need ≡ 0
      none = omega (arith, free, needs_little (bitmap_blocks g) (shared_by g f.tree back) (alone_by g f.tree back) f.limit f.tree cmd (refusal f.limit f.tree cmd))

      kept : (k : ℕ) → room.places k ≡ r.places k
      kept k = same_front (room.places k) (r.places k) (same_length g limit f.tree sound named r room holds (subst (λ (x : Session). HoldsTree g x.tree room) same d.holds) k)
          (placed_as_before (renewed_in g f back cmd k) (figures_in g f back cmd).need (room.places k) (r.places k) back.takeable none
          (subst (λ (at : ℕ → List ℕ). room.places k ≡ take (length (room.places k)) (renew (renewed_in g f back cmd k) 0 (at k) (take (figures_in g f back cmd).need back.takeable))) places (d.spends.placed k)))

  synced : (cmd : Cmd) (back : Room) → back.places ≡ r.places → (step f cmd ≡ (next, reply) → f.changed ≡ false) → SyncsOver f back cmd reply next room → Keeps
  synced cmd back h1 h2 h3 = grind (arith, refused, rests)

  on_tree : (P Q : Refusal → Type 0) (cmd : Cmd) (back : Room) → is_on_tree cmd ≡ true → back.places ≡ r.places → (IsDoneIn g f back cmd reply next room ⊎ RefusesIn P f back reply next room) ⊎ RefusesIn Q f back reply next room → Keeps
  on_tree P Q cmd back h1 h2 h3 = grind (arith, done, refused)

  over : (cmd : Cmd) (back : Room) → makes_point f cmd reply ≡ false → back.places ≡ r.places → AnswersOver g f back cmd reply next room → Keeps
  over cmds.Bad back none places (inl x) = rests (ap (λ (y : Session × Reply). y.0) (sym x.0)) (ap (λ (q : Room). q.places) x.1 ∙ places)
  over cmds.Bad back none places (inr x) = refused _ back places x
  over cmds.Poll back none places (inl x) = rests (ap (λ (y : Session × Reply). y.0) (sym x.0)) (ap (λ (q : Room). q.places) x.1 ∙ places)
  over cmds.Poll back none places (inr x) = refused _ back places x
  over (cmds.Dwait n) back none places (inl x) = (sym (waited_changed f n (nat_le n f.points)) ∙ ap (λ (y : Session × Reply). y.0.changed) x.0 ∙ clean, λ k. ap (λ (at : ℕ → List ℕ). at k) (ap (λ (q : Room). q.places) x.1 ∙ places))
  over (cmds.Dwait n) back none places (inr x) = refused _ back places x
  over cmds.Durable back none places (inl x) = rests x.0.same (ap (λ (q : Room). q.places) x.1 ∙ places)
  over cmds.Durable back none places (inr x) = refused _ back places x
  over cmds.Osync back none places x = synced cmds.Osync back places (λ is. clean_osync f f.changed (ap (λ (y : Session × Reply). f.changed && may_have_written y.1) is ∙ none)) x
  over cmds.Dsync back none places x = synced cmds.Dsync back places (λ is. clean_dsync f f.changed (ap (λ (y : Session × Reply). f.changed && may_have_written y.1) is ∙ none)) x
  over (cmds.Mkdir path) back none places x = on_tree _ _ (cmds.Mkdir path) back refl places x
  over (cmds.Create path) back none places x = on_tree _ _ (cmds.Create path) back refl places x
  over (cmds.Write path offset bytes) back none places x = on_tree _ _ (cmds.Write path offset bytes) back refl places x
  over (cmds.Fill path offset count byte) back none places x = on_tree _ _ (cmds.Fill path offset count byte) back refl places x
  over (cmds.Read path offset count) back none places x = on_tree _ _ (cmds.Read path offset count) back refl places x
  over (cmds.Truncate path size) back none places x = on_tree _ _ (cmds.Truncate path size) back refl places x
  over (cmds.Link path other) back none places x = on_tree _ _ (cmds.Link path other) back refl places x
  over (cmds.Unlink path) back none places x = on_tree _ _ (cmds.Unlink path) back refl places x
  over (cmds.Rmdir path) back none places x = on_tree _ _ (cmds.Rmdir path) back refl places x
  over (cmds.Rename from to) back none places x = on_tree _ _ (cmds.Rename from to) back refl places x
  over (cmds.Stat path) back none places x = on_tree _ _ (cmds.Stat path) back refl places x
  over (cmds.List path) back none places x = on_tree _ _ (cmds.List path) back refl places x
  over (cmds.Snap name) back none places x = on_tree _ _ (cmds.Snap name) back refl places x
  over (cmds.Unsnap name) back none places x = on_tree _ _ (cmds.Unsnap name) back refl places x
  over cmds.Snaps back none places x = on_tree _ _ cmds.Snaps back refl places x
  over (cmds.At name look) back none places x = on_tree _ _ (cmds.At name look) back refl places x

  began : (P : Refusal → Type 0) (cmd : Cmd) → makes_point f cmd reply ≡ false → RefusesIn P f r reply next room ⊎ BeginsOver g f r cmd reply next room → Keeps
  began P cmd h1 h2 = grind (arith, refused, over)

  keeps : (cmd : Cmd) → makes_point f cmd reply ≡ false → AnswersOn g f r cmd reply next room → Keeps
  keeps cmds.Bad none x = rests (ap (λ (y : Session × Reply). y.0) (sym x.0)) (ap (λ (q : Room). q.places) x.1)
  keeps cmds.Poll none x = began _ cmds.Poll none x
  keeps (cmds.Dwait n) none x = began _ (cmds.Dwait n) none x
  keeps cmds.Durable none x = began _ cmds.Durable none x
  keeps cmds.Osync none x = began _ cmds.Osync none x
  keeps cmds.Dsync none x = began _ cmds.Dsync none x
  keeps (cmds.Mkdir path) none x = began _ (cmds.Mkdir path) none x
  keeps (cmds.Create path) none x = began _ (cmds.Create path) none x
  keeps (cmds.Write path offset bytes) none x = began _ (cmds.Write path offset bytes) none x
  keeps (cmds.Fill path offset count byte) none x = began _ (cmds.Fill path offset count byte) none x
  keeps (cmds.Read path offset count) none x = began _ (cmds.Read path offset count) none x
  keeps (cmds.Truncate path size) none x = began _ (cmds.Truncate path size) none x
  keeps (cmds.Link path other) none x = began _ (cmds.Link path other) none x
  keeps (cmds.Unlink path) none x = began _ (cmds.Unlink path) none x
  keeps (cmds.Rmdir path) none x = began _ (cmds.Rmdir path) none x
  keeps (cmds.Rename from to) none x = began _ (cmds.Rename from to) none x
  keeps (cmds.Stat path) none x = began _ (cmds.Stat path) none x
  keeps (cmds.List path) none x = began _ (cmds.List path) none x
  keeps (cmds.Snap name) none x = began _ (cmds.Snap name) none x
  keeps (cmds.Unsnap name) none x = began _ (cmds.Unsnap name) none x
  keeps cmds.Snaps none x = began _ cmds.Snaps none x
  keeps (cmds.At name look) none x = began _ (cmds.At name look) none x

-- One command more, over blocks.

module _ (g : Geometry) (laws : PlaceLaws g) (base : Blocks) (f : Session) (cmd : Cmd) (reply : Reply) (old new : State) (p : PassesPoints old new) (geom : new.books.geom ≡ g) where
  -- a point that came has the map now
  came : old.books.point < new.books.point → (m : Blocks) → new.crash.is_point new.books.point m → (k : ℕ) → places_of g m k ≡ (room_of new).places k
  came up m is k = places_same g laws.limits new.map m (subst (λ (x : Geometry). HasLiveBlocks x new.map m) geom (p.time.made up m is)) k ∙ ap (λ (x : Geometry). places_of x new.map k) (sym geom)

  keeps_on : IsSound g.i f.tree → HoldsTree g f.tree (room_of old) → (new.books.stopped ≡ false → old.books.stopped ≡ false) → (new.books.stopped ≡ false → makes_point f cmd reply ≡ true → old.books.point < new.books.point)
      → AnswersOn g f (room_of old) cmd reply (after_reply f cmd reply) (room_of new) → KeepsPlaces g f old → KeepsPlaces g (after_reply f cmd reply) new
  keeps_on sound holds before makes answers was going clean m is k = ⊎_elim (λ up. came up m is k) stayed (cases_lt old.books.point new.books.point)
    where
      stayed : new.books.point ≤ old.books.point → places_of g m k ≡ (room_of new).places k
      stayed low = was (before going) same.0 m point k ∙ sym (same.1 k)
        where
          none : makes_point f cmd reply ≡ false
          none = ⊎_elim (λ made. absurd (omega (arith, low, makes going made))) (λ not. not) (cases_Bool (makes_point f cmd reply))

          same : (f.changed ≡ false) × ((j : ℕ) → (room_of new).places j ≡ (room_of old).places j)
          same = keeps g f reply (after_reply f cmd reply) clean g.i sound (laws.numbers f.tree.snapshots) laws.changes laws.shared (room_of old) (room_of new) holds cmd none answers

          number : new.books.point ≡ old.books.point
          number = omega (arith, low, p.time.advances.last)

          point : old.crash.is_point old.books.point m
          point = (p.time.advances.point old.books.point m (omega arith)).0 (subst (λ (n : ℕ). new.crash.is_point n m) number is)

  -- where it is so, the image that has all that was issued holds such a map
  lies_now : (h : Session) → ((b : ℕ) → b < g.n → new.crash.base b ≡ base b) → KeepsPlaces g h new → new.books.stopped ≡ false → h.changed ≡ false → ∥ LiesAt g base new.crash.log (room_of new).places ∥₁
  lies_now h same keeps going clean = ∥∥₁_map last.some lies
    where
      last : StandsForLast new
      last = p.last going

      alike : (b : ℕ) → b < g.n → issued new.crash.base new.crash.log b ≡ issued base new.crash.log b
      alike b low = ap (λ (x : List ℕ). issued (λ _. x) new.crash.log b) (same b low)

      lies : (m : Blocks) × new.crash.issued m → LiesAt g base new.crash.log (room_of new).places
      lies one = record {
        map = one.0;
        held = held_alike g laws (issued new.crash.base new.crash.log) (issued base new.crash.log) one.0 alike
            (subst (λ (x : Geometry). HoldsUnder x.n x (issued new.crash.base new.crash.log) one.0) geom (p.drawn.holds (issued new.crash.base new.crash.log) one.0 (p.drawn.issued one.0 one.1)));
        nodes = keeps going clean one.0 (last.each one.0 one.1);
      }

  pub placed_on : IsSound g.i f.tree → HoldsTree g f.tree (room_of old) → (new.books.stopped ≡ false → old.books.stopped ≡ false) → (new.books.stopped ≡ false → makes_point f cmd reply ≡ true → old.books.point < new.books.point)
      → AnswersOn g f (room_of old) cmd reply (after_reply f cmd reply) (room_of new) → ((b : ℕ) → b < g.n → new.crash.base b ≡ base b) → KeepsPlaces g f old → StaysPlaced g base (after_reply f cmd reply) new
  placed_on sound holds before makes answers same was =
      let now = keeps_on sound holds before makes answers was in
      record { keeps = now; lies = lies_now (after_reply f cmd reply) same now }

-- The same by what is known of a run so far: this is its session, and so many of its commands made a point.
pub placed_in : (g : Geometry) (laws : PlaceLaws g) (base : Blocks) (f : Session) (made : ℕ) (cmd : Cmd) (reply : Reply) (old new : State) → PassesPoints old new → old.books.geom ≡ g → IsSession old f → IsRoomOf old.books.geom f (room_of old)
    → (next : Session) × IsSession new next × (new.books.geom ≡ old.books.geom) × AnswersOn old.books.geom f (room_of old) cmd reply next (room_of new)
    → (new.books.stopped ≡ false → old.books.stopped ≡ false) → (old.books.stopped ≡ false → made ≡ old.books.point) → (new.books.stopped ≡ false → made + (if makes_point f cmd reply then 1 else 0) ≡ new.books.point)
    → ((b : ℕ) → b < g.n → new.crash.base b ≡ base b) → KeepsPlaces g f old → StaysPlaced g base (after_reply f cmd reply) new
placed_in g laws base f made cmd reply old new p geom session room given before had has same was =
    placed_on g laws base f cmd reply old new p (p.time.geom ∙ geom) (subst (λ (k : Geometry). IsSound k.i f.tree) geom (laws.sound old.books.geom old.map f.tree session.tree)) (subst (λ (k : Geometry). HoldsTree k f.tree (room_of old)) geom room.holds) before makes answers same was
  where
    makes : new.books.stopped ≡ false → makes_point f cmd reply ≡ true → old.books.point < new.books.point
    makes going is = omega (arith, had (before going), has going, ap {B = ℕ} (λ (c : Bool). if c then 1 else 0) is)

    here : AnswersOn g f (room_of old) cmd reply given.0 (room_of new)
    here = subst (λ (k : Geometry). AnswersOn k f (room_of old) cmd reply given.0 (room_of new)) geom given.3

    follows : given.0 ≡ after_reply f cmd reply
    follows = laws.replies (λ _. true) f given.0 cmd reply (said g f reply given.0 (room_of old) cmd (room_of new) here)

    answers : AnswersOn g f (room_of old) cmd reply (after_reply f cmd reply) (room_of new)
    answers = subst (λ (s : Session). AnswersOn g f (room_of old) cmd reply s (room_of new)) follows here

-- how many spans there are with one more, where a command made a point
pub one_more : {A : Type 0} (xs : List A) (x : A) (c : Bool) → length (xs ++ (if c then x ∷ [] else [])) ≡ length xs + (if c then 1 else 0)
one_more xs x c = grind (arith, length-append)

-- As the mount ends, point 0 has the map.
pub placed_first : (g : Geometry) → IsGeometry g → (f : Session) (s : State) → s.books.geom ≡ g → s.books.point ≡ 0 → HasMapOfPoint s 0 → KeepsPlaces g f s
placed_first g limits f s geom first only going clean m is k = grind (arith, places_same, s.map, s.crash.is_point)
