-- The steps of a walk: into a directory, past a file, to a name, and out of a directory.
use Rattle.std.proofs.Common.{◌≡◌, ℕ, ◌+◌, ◌-◌, ◌<◌, ◌≤◌, if◌then◌else◌, List, [], ◌∷◌, ◌++◌, length, map, take, drop, Option, Some, option_map, sym, subst, ap, ap₂, ◌∙◌, arith, append-nil, append_assoc, length-append, length-take}
use Rattle.std.proofs.lemmas.List.{take_all, take-take, take-append-le}
use Rattle.std.specs.Io.KnownBytes.{Appends}
use Rattle.std.proofs.KnownBytes.{Appends-nil}
use Rattle.std.specs.FinMap.{get}
use Rattle.std.specs.List.Sorted.{IsPermutation}
use Rattle.layout_bytes.specs.declared.slot.Slot.{Slot}
use Rattle.base_io.specs.Prefix.{TakesPrefix}
use Rattle.lang_tree.specs.Tree.{Tree, Thing, Dir, File}
use Rattle.lang_tree.specs.Paths.{parent}
use Rattle.lang_tree.specs.Listing.{line_of}
use Rattle.crash_stands.specs.Inodes.{Inode, Inodes, ADir, thing_of}
use Rattle.crash_stands.specs.Walks.{LeadsTo}
use Rattle.fs_inodes.specs.Names.{names_of}
use Rattle.fs_inodes.specs.Listing.{at_and_below}
use Rattle.fs_commands.specs.declared.listing.Frame.{Frame}
use Rattle.fs_commands.specs.declared.listing.Walk.{Walk}
use Rattle.fs_commands.specs.Listing.{Paths, lines_of, is_dir_thing, dirs_among, under_names, paths_left, to_come, IsFrame, AreFrames, IsWalk, HasWritten, Enters, TakesEntry, names_left}
use Rattle.fs_commands.proofs.listed.Texts.{IsFirst, IsSecond}
use Rattle.fs_commands.proofs.listed.Children.{no_names}
use Rattle.fs_commands.proofs.listed.Walks.{lines_join, left_behind, AreAlike, left_alike, frames_alike, frames_join}

-- Into a directory.

-- a directory that was entered is the deepest one
pub into_dir : (m : Inodes) (t : Tree) (old new : Walk) (f : Frame) (slots : List Slot) → new.path ≡ old.path → new.frames.items ≡ old.frames.items ++ f ∷ [] → new.left + 1 ≡ old.left
    → f.next ≡ 0 → IsPermutation slots f.entries.items → map (λ (s : Slot). s.name) f.entries.items ≡ names_of slots → LeadsTo m old.path.items f.dir → m f.dir ≡ Some (ADir slots)
    → AreFrames m old.path.items 0 old.frames.items → length old.path.items ≡ length old.frames.items → Enters m t (names_of slots) old new
into_dir m t old new f slots same_path same_frames left first entries names leads dir frames depth =
    let path = old.path.items in
    let whole : take (0 + length old.frames.items) path ≡ path = take_all (0 + length old.frames.items) path (omega (arith, depth)) in
    let deepest : IsFrame m path (0 + length old.frames.items) f = record { leads = subst (λ up. LeadsTo m up f.dir) (sym whole) leads; slots = slots; dir = dir; entries = entries } in
    record {
      rest = ap₂ (λ (p : List (List ℕ)) fs. paths_left t p 0 fs) (ap (λ p. p.items) same_path) same_frames ∙ left_behind t path 0 old.frames.items f
          ∙ ap₂ (λ up ns. under_names t up ns ++ to_come t old) whole (ap (λ n. map (λ (s : Slot). s.name) (drop n f.entries.items)) first ∙ names);
      frames = subst (λ p. AreFrames m p.items 0 new.frames.items) (sym same_path) (subst (λ fs. AreFrames m path 0 fs) (sym same_frames) (frames_join m path 0 old.frames.items f frames deepest));
      depth = omega (arith, ap (λ p. length p.items) same_path, ap length same_frames, length-append old.frames.items (f ∷ []), depth);
      left = left;
    }

-- The line of one path.

-- the lines of one path are its line
pub one_line : (t : Tree) (path : List (List ℕ)) (number : ℕ) (thing : Thing) → get t.nodes number ≡ Some thing → lines_of t ((path, number) ∷ []) ≡ line_of path number (Some thing)
one_line t path number thing is = ap (λ o. line_of path number o ++ []) is ∙ append-nil (line_of path number (Some thing))

-- a node in use is a thing of the tree
pub thing_there : (t : Tree) (m : Inodes) (number : ℕ) (inode : Inode) → ((k : ℕ) → get t.nodes k ≡ option_map thing_of (m k)) → m number ≡ Some inode → get t.nodes number ≡ Some (thing_of inode)
thing_there t m number inode nodes is = nodes number ∙ ap (option_map thing_of) is

module _ (t : Tree) (path : List (List ℕ)) (number : ℕ) (thing : Thing) (is : get t.nodes number ≡ Some thing) (below rest : Paths) (down : at_and_below t path ≡ (path, number) ∷ below) where
  -- the path comes first
  pub first_path : at_and_below t path ++ rest ≡ ((path, number) ∷ []) ++ (below ++ rest)
  first_path = ap (λ l. l ++ rest) down

  whole_lines : line_of path number (Some thing) ++ lines_of t (below ++ rest) ≡ lines_of t (at_and_below t path ++ rest)
  whole_lines = sym (ap (lines_of t) first_path ∙ lines_join t ((path, number) ∷ []) (below ++ rest) ∙ ap (λ l. l ++ lines_of t (below ++ rest)) (one_line t path number thing is))

  -- a prefix of its line is one of all lines
  pub line_front : (old new : Option (List ℕ)) → IsFirst → TakesPrefix old new (line_of path number (Some thing)) → TakesPrefix old new (lines_of t (at_and_below t path ++ rest))
  line_front old new first front = subst (TakesPrefix old new) whole_lines (first old new (line_of path number (Some thing)) (lines_of t (below ++ rest)) front)

  -- and so is the line
  pub line_taken : (old new : Option (List ℕ)) → IsSecond → Appends old new (line_of path number (Some thing)) → TakesPrefix old new (lines_of t (at_and_below t path ++ rest))
  line_taken old new second taken =
      subst (TakesPrefix old new) whole_lines (second old new new (line_of path number (Some thing)) (lines_of t (below ++ rest)) taken (0, Appends-nil new))

  -- the directories of all, and of those behind the first path
  pub dirs_behind : dirs_among t (at_and_below t path ++ rest) ≡ (if is_dir_thing (Some thing) then 1 else 0) + dirs_among t (below ++ rest)
  dirs_behind = ap (dirs_among t) first_path ∙ ap (λ o. (if is_dir_thing o then 1 else 0) + dirs_among t (below ++ rest)) is

  pub wrote_line : (old new : Option (List ℕ)) → Appends old new (line_of path number (Some thing)) → Appends old new (lines_of t ((path, number) ∷ []))
  wrote_line old new taken = subst (Appends old new) (sym (one_line t path number thing is)) taken

-- a directory's line was written, and the directory was entered
pub showed_dir : (m : Inodes) (t : Tree) (old new : Walk) (number : ℕ) (slots : List Slot) (before after : Option (List ℕ)) → get t.nodes number ≡ Some Dir
    → at_and_below t old.path.items ≡ (old.path.items, number) ∷ under_names t old.path.items (names_of slots) → dirs_among t (at_and_below t old.path.items ++ to_come t old) ≤ old.left
    → Enters m t (names_of slots) old new → Appends before after (line_of old.path.items number (Some Dir)) → HasWritten m t (at_and_below t old.path.items ++ to_come t old) new before after
showed_dir m t old new number slots before after is down room enters taken =
    let path = old.path.items in
    let below = under_names t path (names_of slots) in
    record {
      seen = (path, number) ∷ [];
      wrote = wrote_line t path number Dir is below (to_come t old) down before after taken;
      rest = first_path t path number Dir is below (to_come t old) down ∙ ap (λ l. ((path, number) ∷ []) ++ l) (sym enters.rest);
      frames = enters.frames;
      depth = enters.depth;
      room = omega (arith, room, dirs_behind t path number Dir is below (to_come t old) down, ap (dirs_among t) enters.rest, enters.left);
    }

-- before it a directory may be entered
pub may_enter : (t : Tree) (old : Walk) (number : ℕ) (below : Paths) → get t.nodes number ≡ Some Dir → at_and_below t old.path.items ≡ (old.path.items, number) ∷ below
    → dirs_among t (at_and_below t old.path.items ++ to_come t old) ≤ old.left → 0 < old.left
may_enter t old number below is down room = omega (arith, room, dirs_behind t old.path.items number Dir is below (to_come t old) down)

-- Out of a path.

-- a walk that left the last name of its path
module _ (m : Inodes) (t : Tree) (old new : Walk) (left : new.path.items ≡ parent old.path.items) (same : new.frames ≡ old.frames) (depth : length old.path.items ≡ length old.frames.items) where
  alike : AreAlike old.path.items new.path.items 0 (length old.frames.items)
  alike d low = sym (ap (take d) left ∙ take-take d (length old.path.items - 1) old.path.items (omega (arith, low, depth)))

  pub to_come_left : to_come t new ≡ to_come t old
  to_come_left = ap (λ fs. paths_left t new.path.items 0 fs.items) same ∙ sym (left_alike old.path.items new.path.items t 0 old.frames.items alike)

  pub frames_left : AreFrames m old.path.items 0 old.frames.items → AreFrames m new.path.items 0 new.frames.items
  frames_left frames = subst (λ fs. AreFrames m new.path.items 0 fs.items) (sym same) (frames_alike old.path.items new.path.items m 0 old.frames.items alike frames)

  pub depth_left : length new.path.items ≡ length new.frames.items - 1
  depth_left = omega (arith, ap length left, length-take (length old.path.items - 1) old.path.items, ap (λ fs. length fs.items) same, depth)

-- a file's line was written, and its path left
pub showed_file : (m : Inodes) (t : Tree) (old new : Walk) (number : ℕ) (bytes : List ℕ) (before after : Option (List ℕ)) → get t.nodes number ≡ Some (File bytes)
    → at_and_below t old.path.items ≡ (old.path.items, number) ∷ under_names t old.path.items (names_of [])
    → IsWalk m t (at_and_below t old.path.items) old → new.path.items ≡ parent old.path.items → new.frames ≡ old.frames → new.left ≡ old.left
    → Appends before after (line_of old.path.items number (Some (File bytes))) → HasWritten m t (at_and_below t old.path.items ++ to_come t old) new before after
showed_file m t old new number bytes before after is down walk left same room taken =
    let path = old.path.items in
    let below = under_names t path (names_of []) in
    let none : below ≡ [] = ap (under_names t path) no_names in
    let behind : below ++ to_come t old ≡ to_come t new = ap (λ l. l ++ to_come t old) none ∙ sym (to_come_left m t old new left same walk.depth) in
    record {
      seen = (path, number) ∷ [];
      wrote = wrote_line t path number (File bytes) is below (to_come t old) down before after taken;
      rest = first_path t path number (File bytes) is below (to_come t old) down ∙ ap (λ l. ((path, number) ∷ []) ++ l) behind;
      frames = frames_left m t old new left same walk.depth walk.frames;
      depth = depth_left m t old new left same walk.depth;
      room = omega (arith, walk.room, dirs_behind t path number (File bytes) is below (to_come t old) down, ap (dirs_among t) behind, room);
    }

-- a directory was left, of which no name is to come
pub left_dir : (m : Inodes) (t : Tree) (old new : Walk) (names : List (List ℕ)) (taken : Option (List ℕ)) → names ≡ [] → IsWalk m t (under_names t old.path.items names) old
    → new.path.items ≡ parent old.path.items → new.frames ≡ old.frames → new.left ≡ old.left → HasWritten m t (under_names t old.path.items names ++ to_come t old) new taken taken
left_dir m t old new names taken none walk left same room =
    let behind : under_names t old.path.items names ++ to_come t old ≡ to_come t new = ap (λ ns. under_names t old.path.items ns ++ to_come t old) none ∙ sym (to_come_left m t old new left same walk.depth) in
    record {
      seen = [];
      wrote = Appends-nil taken;
      rest = behind;
      frames = frames_left m t old new left same walk.depth walk.frames;
      depth = depth_left m t old new left same walk.depth;
      room = omega (arith, walk.room, ap (dirs_among t) behind, room);
    }

-- To a name.

-- a walk at a directory's next name
module _ (m : Inodes) (t : Tree) (old mid : Walk) (frame next : Frame) (entry : Slot) (takes : TakesEntry frame next entry) (path : mid.path.items ≡ old.path.items ++ entry.name ∷ []) (frames : mid.frames.items ≡ old.frames.items ++ next ∷ [])
    (room : mid.left ≡ old.left) (walk : IsWalk m t (under_names t old.path.items (names_left frame)) old) (deepest : IsFrame m old.path.items (length old.frames.items) frame) where
  longer : AreAlike old.path.items mid.path.items 0 (length (old.frames.items ++ next ∷ []))
  longer d low = sym (ap (take d) path ∙ take-append-le d old.path.items (entry.name ∷ []) (omega (arith, low, length-append old.frames.items (next ∷ []), walk.depth)))

  whole : take (0 + length old.frames.items) old.path.items ≡ old.path.items
  whole = take_all (0 + length old.frames.items) old.path.items (omega (arith, walk.depth))

  to_come_mid : to_come t mid ≡ under_names t old.path.items (names_left next) ++ to_come t old
  to_come_mid = ap (paths_left t mid.path.items 0) frames ∙ sym (left_alike old.path.items mid.path.items t 0 (old.frames.items ++ next ∷ []) longer)
      ∙ left_behind t old.path.items 0 old.frames.items next ∙ ap (λ up. under_names t up (names_left next) ++ to_come t old) whole

  -- the paths at and below that name come first
  pub same_paths : under_names t old.path.items (names_left frame) ++ to_come t old ≡ at_and_below t mid.path.items ++ to_come t mid
  same_paths =
      let at : List (List ℕ) → Paths = λ p. at_and_below t p in
      let rest = under_names t old.path.items (names_left next) in
      ap (λ ns. under_names t old.path.items ns ++ to_come t old) (ap (map (λ (s : Slot). s.name)) takes.rest) ∙ append_assoc (at (old.path.items ++ entry.name ∷ [])) rest (to_come t old)
      ∙ ap₂ (λ p l. at p ++ l) (sym path) (sym to_come_mid)

  pub walk_mid : IsWalk m t (at_and_below t mid.path.items) mid
  walk_mid =
      let here : length old.frames.items ≡ 0 + length old.frames.items = omega arith in
      let one : IsFrame m old.path.items (0 + length old.frames.items) next = record {
        leads = subst (λ d. LeadsTo m (take d old.path.items) next.dir) here (subst (λ n. LeadsTo m (take (length old.frames.items) old.path.items) n) (sym takes.dir) deepest.leads);
        slots = deepest.slots;
        dir = subst (λ n. m n ≡ Some (ADir deepest.slots)) (sym takes.dir) deepest.dir;
        entries = subst (IsPermutation deepest.slots) (sym takes.entries) deepest.entries;
      } in
      record {
        frames = subst (λ fs. AreFrames m mid.path.items 0 fs) (sym frames) (frames_alike old.path.items mid.path.items m 0 (old.frames.items ++ next ∷ []) longer (frames_join m old.path.items 0 old.frames.items next walk.frames one));
        depth = omega (arith, ap length path, ap length frames, length-append old.path.items (entry.name ∷ []), length-append old.frames.items (next ∷ []), walk.depth);
        room = omega (arith, walk.room, ap (dirs_among t) same_paths, room);
      }
