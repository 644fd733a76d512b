-- A draft that puts bytes into a file makes the tree of the command, and is within its cost.
use Rattle.base_types.specs.Layouts.{most_runs}
use Rattle.std.proofs.Common.{◌≡◌, ◌≢◌, ℕ, ◌+◌, ◌-◌, ◌/◌, ◌<◌, ◌≤◌, ◌==◌, nat_le, min, max, Bool, true, false, ◌&&◌, cond, List, [], ◌∷◌, ◌++◌, take, drop, length, Option, Some, option_and_then, refl, sym, subst, ap, ap₂, ◌∙◌, arith, Ok}
use mathlib.Core.Path.{fun_ext}
use Rattle.std.specs.FinMap.{get}
use Rattle.std.proofs.Math.Bool.{and-false, and-true}
use Rattle.std.proofs.lemmas.Bool.{eq-eqb, ne_eqb, cond-false}
use Rattle.std.proofs.lemmas.List.{length-append, length-take, length-drop}
use Rattle.std.proofs.lemmas.Option.{same_Some}
use Rattle.base_types.specs.declared.layout.Layout.{Layout}
use Rattle.layout_geometry.specs.Geometry.{Geometry, bitmap_blocks}
use Rattle.layout_extent.specs.Renew.{renew}
use Rattle.layout_extent.specs.Runs.{stretches}
use Rattle.layout_bytes.specs.declared.node.NodeKind.TheVariants.{Dir, File}
use Rattle.lang_tree.specs.declared.command.Cmd.{Cmd}
use Rattle.lang_tree.specs.declared.command.Reply.TheVariants.{Ok as Done}
use Rattle.lang_tree.specs.declared.command.Reply.{Reply}
use Rattle.lang_tree.specs.Figures.{Figures, nothing, blocks_met, blocks_for}
use Rattle.lang_tree.specs.Sharing.{SharedNodes, SharedPlaces, is_renewed, none_shared, shared_at, shared_met, write_over_figures, writing_over}
use Rattle.lang_tree.specs.Walk.{are_same, content}
use Rattle.lang_tree.specs.Step.{Session, written, changed_to, edited}
use Rattle.crash_stands.specs.Files.{FileNode, Files}
use Rattle.crash_stands.specs.Inodes.{Inode, AFile, IsInodeOf, AreInodesOf, inode_of, inodes_of, Inodes}
use Rattle.crash_stands.specs.Maps.{IsMapOf}
use Rattle.crash_stands.specs.Walks.{LeadsTo}
use Rattle.fs_inodes.specs.Changes.{Sets}
use Rattle.fs_inodes.specs.Lookups.{bytes_of, walk_on, inode_at}
use Rattle.engine_blocks.specs.State.{Bookkeeping, State, reusable_blocks}
use Rattle.fs_files.specs.Bytes.{met, overwritten}
use Rattle.fs_files.specs.Calls.{IsWithFile, ChangesAmong, Grows, is_dir, files_in, places_in, written_blocks, written_from, with_bytes}
use Rattle.fs_files.specs.Drafts.{DraftState, begun_beside, nothing_drafted}
use Rattle.fs_files.specs.Growing.{alone, places_after, taken_by}
use Rattle.fs_files.specs.Nodes.{node_block}
use Rattle.fs_files.specs.Shared.{is_kept}
use Rattle.fs_files.specs.Effects.{LooksAndSettles, LooksOnly}
use Rattle.fs_dirs.specs.Directories.{inodes_in}
use Rattle.fs_session.specs.Changes.{ChangesAtMost, IsWithinCost, Uses}
use Rattle.fs_session.specs.Commands.{GrowsInRuns, alone_on, figures_on, places_of, renewed_on, shared_on}
use Rattle.fs_session.specs.Plans.{MakesTree, StaysBeside}
use Rattle.fs_session.specs.Snapshots.{LeavesSnapshots}
use Rattle.fs_session.specs.declared.unused.NodeUse.TheVariants.{Stays}
use Rattle.fs_session.specs.Sessions.{IsSession, KeepsUsed, inodes}
use Rattle.fs_commands.specs.Writing.{IsWeighed}
use Rattle.fs_commands.proofs.keeping.Laid.{inodes_laid, reads_laid}
use Rattle.fs_commands.proofs.AtMost.{only_these}
use Rattle.fs_commands.proofs.Placing.{placed_renewed}
use Rattle.fs_commands.proofs.counting.Touched.{ways_count, ways_renew}
use Rattle.fs_commands.proofs.keeping.Leaves.{grows_alike, leaves_but, makes_stay}
use Rattle.fs_commands.proofs.writing.Puts.{PutsSo}
use Rattle.fs_commands.proofs.Given.{DivisionLaw, KeptTooLaw, SharedLaw, WritingLaw, MapLaw, EndsLaw, session_map}
use Rattle.fs_commands.proofs.looking.InUse.{no_snapshot, still_used, read_still}
use Rattle.lang_tree.specs.Tree.{Tree}
use Rattle.fs_session.specs.Space.{grown_in, touched_by}
use Rattle.fs_commands.specs.Figures.{kept_places}

-- One node became a file with other bytes.

pub file_reads : (lay : Layout) (x : FileNode) → x.kind ≡ File → inode_of lay x ≡ Some (AFile x.links x.bytes)
file_reads lay x e = cc

pub file_bytes : (lay : Layout) (x : FileNode) → x.kind ≡ File → bytes_of (inode_of lay x) ≡ x.bytes
file_bytes lay x e = ap bytes_of (file_reads _ x e)

pub read_with : (l : Layout) (old new : Files) (k : ℕ) (x : FileNode) (i : Inode) → inode_of l x ≡ Some i → IsWithFile old new k (Some x) → AreInodesOf l old (inodes_of l old) → AreInodesOf l new (inodes_of l new)
read_with l old new k x i is h = read_still l old new k (subst (λ o. IsInodeOf l o (option_and_then (inode_of l) o)) (sym h.own) (subst (λ o. IsInodeOf l (Some x) o) (sym is) is)) h.others

-- so one inode is set
pub sets_inode : (l : Layout) (old new : Files) (k : ℕ) (x : FileNode) (i : Inode) → inode_of l x ≡ Some i → IsWithFile old new k (Some x) → Sets (inodes_of l old) (inodes_of l new) k (Some i)
sets_inode l old new k x i is h = record {
  here = ap (option_and_then (inode_of l)) h.own ∙ is;
  others = λ n d. ap (option_and_then (inode_of l)) (h.others n d);
}

last_one : (b : Bool) (x : ℕ) → length (cond {A = List ℕ} b [] (x ∷ [])) ≤ 1
last_one true x = omega arith
last_one false x = omega arith

met_places : (lo hi : ℕ) (places : List ℕ) → length (met lo hi places) ≡ min (blocks_for hi) (length places) - lo / 1024
met_places lo hi places = omega (arith, length-drop (lo / 1024) (take (blocks_for hi) places), length-take (blocks_for hi) places)

-- What the bytes of a file that snapshots may keep take: blocks in the stead of those that are kept, and those that it has too few.
module _ (counts : List ℕ) (places : List ℕ) (size lo hi : ℕ) (count : length places ≡ blocks_for size) where
  abbrev pub shares : SharedPlaces
  shares = kept_places counts places

  pub taken_is : taken_by (is_kept counts) lo hi places ≡ shared_met shares size lo hi + (blocks_for (max size hi) - blocks_for size)
  taken_is = omega (arith, ways_count counts places lo hi size count, count)

  pub placed_is : (spare : List ℕ) → places_after (is_kept counts) lo hi places spare ≡ renew (is_renewed shares lo hi) 0 places (take (taken_by (is_kept counts) lo hi places) spare)
  placed_is spare = ways_renew counts places lo hi (take (taken_by (is_kept counts) lo hi places) spare)

module _ (g : Geometry) (number : ℕ) (x : FileNode) (counts places new_places : List ℕ) (k : Bookkeeping) (d : DraftState) (off lo hi : ℕ) (file : x.kind ≡ File) (begins : min off (length x.bytes) ≡ lo) (count : length places ≡ blocks_for (length x.bytes))
    (kept_too : KeptTooLaw) (division : DivisionLaw)
    (grows : Grows k x places new_places lo hi (begun_beside counts) d) (among : ChangesAmong (written_blocks g (is_kept counts) number x places (drop (length places) new_places) off hi) (begun_beside counts) d) where
  abbrev met_shared : ℕ
  met_shared = shared_met (kept_places counts places) (length x.bytes) lo hi

  abbrev taken_now : ℕ
  taken_now = met_shared + (blocks_for (max (length x.bytes) hi) - blocks_for (length x.bytes))

  -- the bytes that it changes begin there
  from : written_from x off ≡ lo
  from = ap (λ kind. cond (is_dir kind) off (min off (length x.bytes))) file ∙ begins

  few : length (written_blocks g (is_kept counts) number x places (drop (length places) new_places) off hi) ≤ blocks_met (length x.bytes) lo hi - met_shared + 1
  few =
      let more = drop (length places) new_places in
      let still = nat_le hi (length x.bytes) && (taken_by (is_kept counts) (min off (length x.bytes)) hi places == 0) in
      let node = cond {A = List ℕ} still [] (node_block g number ∷ []) in
      let none : cond (is_dir x.kind) more [] ≡ [] = ap (λ kind. cond (is_dir kind) more []) file in
      omega (arith, length-append (alone (is_kept counts) (met (written_from x off) hi places)) (cond (is_dir x.kind) more [] ++ node), ap (λ n. length (alone (is_kept counts) (met n hi places))) from, kept_too (is_kept counts) lo hi places, ways_count counts places lo hi (length x.bytes) count, length-append (cond (is_dir x.kind) more []) node, ap (λ (xs : List ℕ). length xs) none, last_one still (node_block g number), met_places lo hi places, count, division (length x.bytes) lo hi)

  pub at_most : ChangesAtMost d (blocks_met (length x.bytes) lo hi - met_shared + 1) taken_now taken_now 0
  at_most = record {
    blocks = written_blocks g (is_kept counts) number x places (drop (length places) new_places) off hi;
    only = only_these (written_blocks g (is_kept counts) number x places (drop (length places) new_places) off hi) d among;
    few_changed = few;
    few_fresh = omega (arith, grows.fresh, ap (λ kind. cond (is_dir kind) 0 (taken_by (is_kept counts) lo hi places)) file, taken_is counts places (length x.bytes) lo hi count);
    few_taken = omega (arith, ap (λ (xs : List ℕ). length xs) grows.taken, length-take (taken_by (is_kept counts) lo hi places) (reusable_blocks k), taken_is counts places (length x.bytes) lo hi count);
    few_freed = omega (arith, ap (λ (xs : List ℕ). length xs) grows.freed);
    some = grows.changes;
  }

-- a file is no directory
pub file_no_dir : {P : Type 0} (o : Option FileNode) (x y : FileNode) → o ≡ Some x → o ≡ Some y → y.kind ≡ File → x.kind ≡ Dir → P
file_no_dir o x y is also file dir = absurd (clash (sym dir ∙ ap (λ (z : FileNode). z.kind) (same_Some x y (sym is ∙ also)) ∙ file))
  where
    clash : Dir ≡ File → ⊥
    clash e = absurd cc

-- nodes in use stay so where one has other bytes
pub used_stays : (old new : Files) (k : ℕ) (y : FileNode) → IsWithFile old new k (Some y) → KeepsUsed Stays old new
used_stays old new k y h = still_used old new k y h

-- what holds of a draft and an offset holds of those that are the same
pub moved_to : (P : DraftState → ℕ → Type 0) (d e : DraftState) (m n : ℕ) → d ≡ e → m ≡ n → P d m → P e n
moved_to P d e m n p q h = subst (λ i. P e i) q (subst (λ c. P c m) p h)

-- A draft that gives a file bytes up to `hi` uses the blocks that it takes, where just this node has renewed places: those that the bytes touch and that are kept.
pub grown_uses : (s t : State) (d : DraftState) (counts : List ℕ) (renewed : SharedNodes) (number lo hi need freed : ℕ) (x : FileNode) → length (places_of s number) ≡ blocks_for (length x.bytes)
    → need ≡ taken_by (is_kept counts) lo hi (places_of s number) → freed ≡ 0 → renewed number ≡ is_renewed (kept_places counts (places_of s number)) lo hi → ((l : ℕ) → l ≢ number → renewed l ≡ none_shared)
    → Grows t.books x (places_of s number) (places_in t d number) lo hi (begun_beside counts) d → ((l : ℕ) → l ≢ number → places_in t d l ≡ places_of s l) → Uses need freed (reusable_blocks t.books) renewed (places_of s) (places_in t d) d
grown_uses s t d counts renewed number lo hi need freed x count is none here elsewhere grows others =
    let spare = reusable_blocks t.books in
    record {
      taken = grows.taken ∙ ap (λ n. take n spare) (sym is);
      freed_are = ap (λ (xs : List ℕ). length xs) grows.freed ∙ sym none;
      placed = placed_renewed renewed (places_of s) (places_in t d) number (take need spare)
          (grows.placed ∙ placed_is counts (places_of s number) (length x.bytes) lo hi count spare
          ∙ ap₂ (λ (r : SharedPlaces) (n : ℕ). renew r 0 (places_of s number) (take n spare)) (sym here) (sym is)) others elsewhere;
    }

-- A file that a path leads to, in a session: the node and the tree hold the same bytes, and it has as many blocks as these need.
pub record AtFile (s : State) (f : Session) (path : List (List ℕ)) (number : ℕ) (x : FileNode) : Type 0 where
  pub map : IsMapOf f.limit.nodes (inodes s) f.tree
  pub leads : LeadsTo (inodes s) path number
  pub is : files_in s nothing_drafted number ≡ Some x
  pub file : x.kind ≡ File
  pub holds : content f.tree path ≡ x.bytes
  pub count : length (places_of s number) ≡ blocks_for (length x.bytes)

pub at_file : (s : State) (f : Session) (path : List (List ℕ)) (number : ℕ) (x : FileNode) → IsSession s f → MapLaw → EndsLaw
    → ((l : Layout) (files : Files) (path : List (List ℕ)) (k : ℕ) (x : FileNode) → LeadsTo (inodes_of l files) path k → files k ≡ Some x → inode_at (inodes_of l files) path ≡ inode_of l x)
    → ((limit : ℕ) (m : Inodes) (t : Tree) (path : List (List ℕ)) → IsMapOf limit m t → content t path ≡ bytes_of (inode_at m path))
    → walk_on (inodes s) 1 path ≡ Ok number → files_in s nothing_drafted number ≡ Some x → x.kind ≡ File → length (places_of s number) ≡ blocks_for (length x.bytes) → AtFile s f path number x
at_file s f path number x h map ends at bytes walk is file count =
    let leads = ends (inodes s) path number walk in
    let mine = session_map map s f h in
    record { map = mine; leads = leads; is = is; file = file; holds = bytes f.limit.nodes (inodes s) f.tree path mine ∙ ap bytes_of (at s.books.geom.layout (files_in s nothing_drafted) path number x leads is) ∙ file_bytes _ x file; count = count }

-- What a write left in its draft: the file with the bytes, and what was taken and changed.
pub record Wrote (tells : Bool) (s t : State) (old new : DraftState) (number offset : ℕ) (bytes : List ℕ) (x : FileNode) : Type 0 where
  pub file : IsWithFile (files_in s old) (files_in t new) number (Some (with_bytes x (overwritten offset bytes x.bytes)))
  pub grows : Grows t.books x (places_in s old number) (places_in t new number) (min offset (length x.bytes)) (offset + length bytes) old new
  pub among : ChangesAmong (written_blocks s.books.geom (is_kept old.kept) number x (places_in s old number) (drop (length (places_in s old number)) (places_in t new number)) offset (offset + length bytes)) old new
  pub others : (l : ℕ) → l ≢ number → places_in t new l ≡ places_in s old l
  pub looks : taken_by (is_kept old.kept) (min offset (length x.bytes)) (offset + length bytes) (places_in s old number) ≤ length (reusable_blocks s.books) → LooksOnly tells false s t

-- What a command renews that grows the file at a path alone: of the shared blocks those that its bytes touch.
module _ (s : State) (f : Session) (cmd : Cmd) (path : List (List ℕ)) (number lo hi : ℕ) (counts : List ℕ) (shared : SharedLaw s f counts) (lies : grown_in f cmd ≡ Some number) (touches : (sh : SharedPlaces) → touched_by f.tree cmd sh ≡ is_renewed sh lo hi) where
  pub shared_there : shared_on s f number ≡ kept_places counts (places_of s number)
  shared_there = fun_ext (λ i. shared number i)

  pub renewed_there : renewed_on s f cmd number ≡ is_renewed (kept_places counts (places_of s number)) lo hi
  renewed_there = fun_ext (λ i.
      ap₂ (λ (r : SharedPlaces) (o : Option ℕ). r i && are_same o (Some number)) (touches (shared_on s f number) ∙ ap (λ (sh : SharedPlaces). is_renewed sh lo hi) shared_there) lies
      ∙ ap (λ b. is_renewed (kept_places counts (places_of s number)) lo hi i && b) (eq-eqb number number refl) ∙ and-true (is_renewed (kept_places counts (places_of s number)) lo hi i))

  pub renewed_elsewhere : (l : ℕ) → l ≢ number → renewed_on s f cmd l ≡ none_shared
  renewed_elsewhere l other = fun_ext (λ i.
      ap (λ (o : Option ℕ). touched_by f.tree cmd (shared_on s f l) i && are_same o (Some l)) lies
      ∙ ap (λ b. touched_by f.tree cmd (shared_on s f l) i && b) (ne_eqb number l (λ e. other (sym e))) ∙ and-false (touched_by f.tree cmd (shared_on s f l) i))

  -- the node has room for its runs, where its blocks are these
  pub runs_there : (t : State) → t.books.geom ≡ s.books.geom → (need : ℕ) (x : FileNode) (new_places : List ℕ) (d : DraftState) → length (places_of s number) ≡ blocks_for (length x.bytes) → need ≡ taken_by (is_kept counts) lo hi (places_of s number)
      → Grows t.books x (places_of s number) new_places lo hi (begun_beside counts) d → GrowsInRuns (renewed_on s f cmd number) s t.books number need
  runs_there t geom need x new_places d count is grows = record {
    enough = subst (λ n. n ≤ length (reusable_blocks t.books)) (sym is) grows.enough;
    runs = subst (λ (places : List ℕ). stretches places ≤ most_runs s.books.geom.layout)
        (grows.placed ∙ placed_is counts (places_of s number) (length x.bytes) lo hi count (reusable_blocks t.books)
        ∙ ap₂ (λ (r : SharedPlaces) (n : ℕ). renew r 0 (places_of s number) (take n (reusable_blocks t.books))) (sym renewed_there) (sym is))
        (subst (λ (g : Geometry). stretches new_places ≤ most_runs g.layout) geom grows.runs);
  }

-- Bytes that a command puts into a file: the draft makes the command's tree.
module _ (s : State) (f : Session) (cmd : Cmd) (path : List (List ℕ)) (offset number cost : ℕ) (bytes : List ℕ) (x : FileNode) (a : AtFile s f path number x) (counts : List ℕ) (shared : SharedLaw s f counts) (so : PutsSo cmd path offset bytes) (weighed : IsWeighed s f cmd cost) (some : 0 < length bytes) where
  abbrev pub lo : ℕ
  lo = min offset (length x.bytes)

  abbrev pub hi : ℕ
  hi = offset + length bytes

  abbrev pub kept : SharedPlaces
  kept = kept_places counts (places_of s number)

  -- the number of the file in the tree
  named : get f.tree.names path ≡ Some number
  named = a.map.shows.names path ∙ a.leads

  pub lies_there : grown_in f cmd ≡ Some number
  lies_there = so.lies f ∙ named

  pub touches_there : (sh : SharedPlaces) → touched_by f.tree cmd sh ≡ is_renewed sh lo hi
  touches_there sh = so.touches f.tree sh ∙ ap (λ (xs : List ℕ). is_renewed sh (min offset (length xs)) hi) a.holds

  -- what the command takes
  pub figures_are : figures_on s f cmd ≡ writing_over (bitmap_blocks s.books.geom) kept (length x.bytes) lo hi
  figures_are = so.takes (bitmap_blocks s.books.geom) (shared_on s f) (alone_on s f) f weighed.accepted
      ∙ ap₂ (λ (o : Option ℕ) (xs : List ℕ). write_over_figures (bitmap_blocks s.books.geom) (shared_at (shared_on s f) o) (length xs) offset (length bytes)) named a.holds
      ∙ ap (λ (sh : SharedPlaces). write_over_figures (bitmap_blocks s.books.geom) sh (length x.bytes) offset (length bytes)) (shared_there s f cmd path number lo hi counts shared lies_there touches_there)
      ∙ cond-false (length bytes == 0) nothing (writing_over (bitmap_blocks s.books.geom) kept (length x.bytes) lo hi) (ne_eqb (length bytes) 0 (λ e. absurd (omega (arith, e, some))))

  -- so many blocks the write takes
  pub need_is : (figures_on s f cmd).need ≡ taken_by (is_kept counts) lo hi (places_of s number)
  need_is = ap (λ (n : Figures). n.need) figures_are ∙ sym (taken_is counts (places_of s number) (length x.bytes) lo hi a.count)

  pub puts_tree : (t : State) (d : DraftState) (tells failed settling : Bool) → KeptTooLaw → DivisionLaw → WritingLaw → LooksAndSettles tells failed settling s t → Wrote tells s t (begun_beside counts) d number offset bytes x
      → StaysBeside d t → AreInodesOf s.books.geom.layout (files_in s nothing_drafted) (inodes_in s nothing_drafted) → MakesTree cmd d cost s t f
  puts_tree t d tells failed settling kept_too division small settles w stays reads =
      let new : FileNode = with_bytes x (overwritten offset bytes x.bytes) in
      let becomes : inode_of s.books.geom.layout new ≡ Some (AFile x.links (written offset bytes x.bytes)) = file_reads _ new a.file ∙ ap (λ xs. Some (AFile x.links xs)) (cond-false (length bytes == 0) x.bytes (written offset bytes x.bytes) (ne_eqb (length bytes) 0 (λ e. absurd (omega (arith, e, some))))) in
      let was : inodes_in s nothing_drafted number ≡ Some (AFile x.links x.bytes) = ap (option_and_then (inode_of s.books.geom.layout)) a.is ∙ file_reads _ x a.file in
      record {
        accepted = weighed.accepted;
        answer = so.answer f weighed.accepted ∙ ap (λ (p : Session × Reply). p.1) (cond-false (length bytes == 0) (f, Done) (changed_to f (edited f.tree path (written offset bytes))) (ne_eqb (length bytes) 0 (λ e. absurd (omega (arith, e, some)))));
        costs = weighed.costs;
        room = weighed.room;
        runs = λ k more grown. subst (λ n. GrowsInRuns (renewed_on s f cmd n) s t.books n (figures_on s f cmd).need) (same_Some number k (sym a.leads ∙ sym (grows_alike s cmd so.keeps ∙ so.grown (inodes s)) ∙ grown))
            (runs_there s f cmd path number lo hi counts shared lies_there touches_there t settles.pipeline.geom (figures_on s f cmd).need x (places_in t d number) d a.count need_is w.grows);
        reads = reads_laid s t settles.pipeline.geom d (read_with s.books.geom.layout (files_in s nothing_drafted) (files_in t d) number new (AFile x.links (written offset bytes x.bytes)) becomes w.file reads);
        map = so.maps f (inodes_in s nothing_drafted) (inodes_in t d) number x.links x.bytes a.map weighed.accepted some a.leads was
            (subst (λ m. Sets (inodes_in s nothing_drafted) m number (Some (AFile x.links (written offset bytes x.bytes)))) (sym (inodes_laid s t settles.pipeline.geom d))
            (sets_inode s.books.geom.layout (files_in s nothing_drafted) (files_in t d) number new (AFile x.links (written offset bytes x.bytes)) becomes w.file));
        snapshots = makes_stay cmd d t f so.keeps stays;
        within = subst (λ n. IsWithinCost t.books.geom d n) (sym (ap (λ (n : Figures). n.cost) figures_are) ∙ weighed.costs)
            (subst (λ (g : Geometry). IsWithinCost t.books.geom d (writing_over (bitmap_blocks g) kept (length x.bytes) lo hi).cost) settles.pipeline.geom
            (small t.books.geom d kept (length x.bytes) lo hi (at_most s.books.geom number x counts (places_of s number) (places_in t d number) t.books d offset lo hi a.file refl a.count kept_too division w.grows w.among)));
        uses = grown_uses s t d counts (renewed_on s f cmd) number lo hi (figures_on s f cmd).need (figures_on s f cmd).freed x a.count need_is (ap (λ (n : Figures). n.freed) figures_are)
            (renewed_there s f cmd path number lo hi counts shared lies_there touches_there) (renewed_elsewhere s f cmd path number lo hi counts shared lies_there touches_there) w.grows w.others;
        enough = subst (λ n. n ≤ length (reusable_blocks t.books)) (sym need_is) w.grows.enough;
        rests = λ enough. (w.looks (omega (arith, enough, need_is))).books;
      }

-- A file that got other bytes leaves the snapshots as they are.
pub file_leaves : (s t : State) (d : DraftState) (number : ℕ) (x y : FileNode) → files_in s nothing_drafted number ≡ Some x → x.kind ≡ File → y.kind ≡ File → IsWithFile (files_in s nothing_drafted) (files_in t d) number (Some y)
    → ((l : ℕ) → l ≢ number → places_in t d l ≡ places_of s l) → LeavesSnapshots (files_in s nothing_drafted) (files_in t d) (places_of s) (places_in t d)
file_leaves s t d number x y is file still with others =
    leaves_but (files_in s nothing_drafted) (files_in t d) (places_of s) (places_in t d) number with.others others
    (no_snapshot _ (files_in s nothing_drafted number) (AFile x.links x.bytes) (ap (option_and_then (inode_of s.books.geom.layout)) is ∙ file_reads _ x file))
    (no_snapshot _ (files_in t d number) (AFile y.links y.bytes) (ap (option_and_then (inode_of s.books.geom.layout)) with.own ∙ file_reads _ y still))
