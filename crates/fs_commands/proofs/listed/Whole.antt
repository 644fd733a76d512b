-- The whole walk: it begins with all paths of the tree to come, and goes on turn by turn.
use Rattle.std.proofs.Common.{◌≡◌, ℕ, ◌+◌, List, [], ◌∷◌, ◌++◌, length, take, Option, Some, refl, sym, subst, ap, ap₂, ◌∙◌, arith, append_assoc, append-nil, length-append}
use Rattle.std.proofs.lemmas.List.{take_all}
use Rattle.std.proofs.lemmas.List.Elements.{All-pop}
use Rattle.std.specs.FinMap.{get}
use Rattle.std.specs.Io.KnownBytes.{Appends}
use Rattle.std.proofs.KnownBytes.{Appends-trans}
use Rattle.base_types.specs.Seal.{Blocks}
use Rattle.layout_geometry.specs.Geometry.{Geometry}
use Rattle.base_io.specs.Prefix.{TakesPrefix}
use Rattle.lang_tree.specs.Tree.{Tree, Dir, IsSound}
use Rattle.lang_tree.specs.Names.{path_count}
use Rattle.lang_tree.specs.Listing.{path_lines}
use Rattle.lang_tree.specs.Step.{Session}
use Rattle.crash_stands.specs.Files.{files_of}
use Rattle.crash_stands.specs.Inodes.{Inodes, inodes_of}
use Rattle.crash_stands.specs.Maps.{IsMapOf}
use Rattle.crash_stands.specs.Stands.{IsTreeOf}
use Rattle.crash_stands.specs.Walks.{LeadsTo}
use Rattle.fs_inodes.specs.Listing.{at_and_below, lines_below}
use Rattle.engine_blocks.specs.State.{State}
use Rattle.fs_files.specs.Drafts.{DraftState, begun_beside}
use Rattle.fs_files.specs.NodeMaps.{NodeMap, nodes_in}
use Rattle.fs_dirs.specs.Directories.{IsNumber, inodes_in}
use Rattle.fs_commands.specs.declared.listing.Frame.{Frame}
use Rattle.fs_commands.specs.declared.listing.Walk.{Walk}
use Rattle.fs_commands.specs.Listing.{IsMapIn, lines_of, dirs_among, under_names, paths_left, to_come, IsFrame, AreFrames, IsWalk, HasWritten, HaveNumbers, names_left}
use Rattle.fs_session.specs.Sessions.{IsSession}
use Rattle.fs_commands.proofs.listed.Texts.{IsSecond}
use Rattle.fs_commands.proofs.listed.Walks.{lines_join, left_behind, frames_split}
use Rattle.fs_commands.proofs.listed.Rooms.{few_dirs}
use Rattle.fs_commands.proofs.listed.Shows.{AtNode, FrontAtNode}
use Rattle.fs_commands.proofs.listed.Turns.{coming, AtFrame, FrontAtFrame}

-- The beginning.

-- whether a tree of this map is sound, and each of its directories has one path
abbrev pub CountsPaths : Type 0
CountsPaths = (limit : ℕ) (t : Tree) (p : List (List ℕ)) (n : ℕ) → IsSound limit t → get t.names p ≡ Some n → get t.nodes n ≡ Some Dir → path_count t.names n ≡ 1

module _ (s : State) (v : NodeMap) (w : Walk) (path : w.path.items ≡ []) (frames : w.frames.items ≡ []) (left : w.left ≡ s.books.geom.i)
    (sound : (limit : ℕ) (m : Inodes) (t : Tree) → IsMapOf limit m t → IsSound limit t) (counts : CountsPaths) (root : (t : Tree) → path_lines t.names t.nodes ≡ lines_below t []) where
  all_paths : (t : Tree) → at_and_below t w.path.items ++ to_come t w ≡ at_and_below t []
  all_paths t = ap₂ (λ p fs. at_and_below t p ++ paths_left t p 0 fs) path frames ∙ append-nil (at_and_below t [])

  begins : (m : Inodes) (t : Tree) → IsMapIn s v m t → IsWalk m t (at_and_below t w.path.items) w
  begins m t h = record {
    frames = subst (λ fs. AreFrames m w.path.items 0 fs) (sym frames) tt;
    depth = ap length path ∙ sym (ap length frames);
    room = omega (arith, ap (dirs_among t) (all_paths t), left, few_dirs s.books.geom.i t (sound s.books.geom.i m t h.map) (λ p n at dir. counts s.books.geom.i t p n (sound s.books.geom.i m t h.map) at dir));
  }

  at_root : (m : Inodes) → LeadsTo m w.path.items 1
  at_root m = subst (λ p. LeadsTo m p 1) (sym path) refl

  pub whole_front : (old new : Option (List ℕ)) → FrontAtNode s v w 1 old new → (m : Inodes) (t : Tree) → IsMapIn s v m t → TakesPrefix old new (path_lines t.names t.nodes)
  whole_front old new front m t h = subst (TakesPrefix old new) (ap (lines_of t) (all_paths t) ∙ sym (root t)) (front m t h (at_root m) (begins m t h))

  pub whole_writes : (new : Walk) (old now : Option (List ℕ)) → AtNode s v w 1 (λ m t. HasWritten m t (at_and_below t w.path.items ++ to_come t w) new old now)
      → (m : Inodes) (t : Tree) → IsMapIn s v m t → HasWritten m t (at_and_below t []) new old now
  whole_writes new old now goes m t h = subst (λ paths. HasWritten m t paths new old now) (all_paths t) (goes m t h (at_root m) (begins m t h))

-- A turn.

-- each directory has a number, and so has the deepest one
pub numbers_split : (limit now : ℕ) (frames rest : List Frame) (f : Frame) → now ≡ limit → frames ≡ rest ++ f ∷ [] → HaveNumbers limit frames → HaveNumbers now rest × IsNumber now f.dir
numbers_split limit now frames rest f same is have =
    subst (λ n. HaveNumbers n rest × IsNumber n f.dir) (sym same) (All-pop (λ (f : Frame). IsNumber limit f.dir) frames rest (Some f) is have)

module _ (start s : State) (v u : NodeMap) (before : Option (List ℕ)) (w : Walk) (frame : Frame) (mid : Walk) (path : mid.path ≡ w.path) (frames : w.frames.items ≡ mid.frames.items ++ frame ∷ []) (left : mid.left ≡ w.left) (now : Option (List ℕ))
    (goes : (m : Inodes) (t : Tree) → IsMapIn start v m t → HasWritten m t (at_and_below t []) w before now) where
  module _ (m : Inodes) (t : Tree) (h : IsMapIn start v m t) where
    so_far : HasWritten m t (at_and_below t []) w before now
    so_far = goes m t h

    same_path : mid.path.items ≡ w.path.items
    same_path = ap (λ p. p.items) path

    depth : length mid.path.items ≡ length mid.frames.items
    depth = omega (arith, ap length same_path, ap length frames, length-append mid.frames.items (frame ∷ []), so_far.depth)

    parts : AreFrames m mid.path.items 0 mid.frames.items × IsFrame m mid.path.items (0 + length mid.frames.items) frame
    parts = frames_split m mid.path.items 0 mid.frames.items frame (subst (λ fs. AreFrames m mid.path.items 0 fs) frames (subst (λ p. AreFrames m p 0 w.frames.items) (sym same_path) so_far.frames))

    deepest : IsFrame m mid.path.items (length mid.frames.items) frame
    deepest = let here : 0 + length mid.frames.items ≡ length mid.frames.items = omega arith in subst (λ n. IsFrame m mid.path.items n frame) here parts.1

    same_left : to_come t w ≡ coming s u mid frame t
    same_left =
        let whole : take (0 + length mid.frames.items) mid.path.items ≡ mid.path.items = take_all (0 + length mid.frames.items) mid.path.items (omega (arith, depth)) in
        ap₂ (λ p fs. paths_left t p 0 fs) (sym same_path) frames ∙ left_behind t mid.path.items 0 mid.frames.items frame
        ∙ ap (λ up. under_names t up (names_left frame) ++ to_come t mid) whole

    goes_on : IsWalk m t (under_names t mid.path.items (names_left frame)) mid
    goes_on = record { frames = parts.0; depth = depth; room = omega (arith, ap (dirs_among t) same_left, so_far.room, left) }

    all_lines : lines_of t so_far.seen ++ lines_of t (coming s u mid frame t) ≡ lines_of t (at_and_below t [])
    all_lines = ap (λ l. lines_of t so_far.seen ++ lines_of t l) (sym same_left) ∙ sym (lines_join t so_far.seen (to_come t w)) ∙ ap (lines_of t) (sym so_far.rest)

  pub turn_front : (new : Option (List ℕ)) → IsSecond → ((t : Tree) → path_lines t.names t.nodes ≡ lines_below t []) → ((m : Inodes) (t : Tree) → IsMapIn start v m t → IsMapIn s u m t) → FrontAtFrame s u mid frame now new
      → (m : Inodes) (t : Tree) → IsMapIn start v m t → TakesPrefix before new (path_lines t.names t.nodes)
  turn_front new second root stays front m t h =
      subst (TakesPrefix before new) (all_lines m t h ∙ sym (root t))
      (second before now new (lines_of t (so_far m t h).seen) (lines_of t (coming s u mid frame t)) (so_far m t h).wrote (front m t (stays m t h) (deepest m t h) (goes_on m t h)))

  pub turn_writes : (new : Walk) (after : Option (List ℕ)) → ((m : Inodes) (t : Tree) → IsMapIn start v m t → IsMapIn s u m t) → AtFrame s u mid frame (λ m t. HasWritten m t (coming s u mid frame t) new now after)
      → (m : Inodes) (t : Tree) → IsMapIn start v m t → HasWritten m t (at_and_below t []) new before after
  turn_writes new after stays turn m t h =
      let a = so_far m t h in
      let b = turn m t (stays m t h) (deepest m t h) (goes_on m t h) in
      record {
        seen = a.seen ++ b.seen;
        wrote = subst (Appends before after) (sym (lines_join t a.seen b.seen)) (Appends-trans before now after (lines_of t a.seen) (lines_of t b.seen) a.wrote b.wrote);
        rest = a.rest ∙ ap (λ l. a.seen ++ l) (same_left m t h ∙ b.rest) ∙ sym (append_assoc a.seen b.seen (to_come t new));
        frames = b.frames;
        depth = b.depth;
        room = b.room;
      }

-- The end: where no directory is left, all is written.
pub ended : (m : Inodes) (t : Tree) (w : Walk) (before after : Option (List ℕ)) → w.frames.items ≡ [] → path_lines t.names t.nodes ≡ lines_below t []
    → HasWritten m t (at_and_below t []) w before after → Appends before after (path_lines t.names t.nodes)
ended m t w before after frames root h =
    subst (Appends before after)
    (ap (lines_of t) (sym (append-nil h.seen) ∙ ap (λ fs. h.seen ++ paths_left t w.path.items 0 fs) (sym frames) ∙ sym h.rest) ∙ sym root) h.wrote

-- The blocks of a session.

-- what holds of each tree of this map holds of the session's
pub in_session : {counts : List ℕ} (s : State) (d : DraftState) (P : Tree → Type 0) → d ≡ begun_beside counts → ((g : Geometry) (m : Blocks) (t : Tree) → IsTreeOf g m t → IsMapOf g.i (inodes_of g.layout (files_of g m)) t)
    → ((m : Inodes) (t : Tree) → IsMapIn s (nodes_in s d) m t → P t) → (f : Session) → IsSession s f → P f.tree
in_session s d P none law holds f h =
    holds (inodes_in s d) f.tree (record { same = refl; map = subst (λ e. IsMapOf s.books.geom.i (inodes_in s e) f.tree) (sym none) (law s.books.geom s.map f.tree h.tree) })
