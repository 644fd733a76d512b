-- A turn of the walk: to the next name of the deepest directory, or out of it.
use Rattle.std.proofs.Common.{◌≡◌, ℕ, List, [], ◌∷◌, ◌++◌, length, map, take, drop, slice_get, Option, Some, sym, subst, ap, ◌∙◌, arith}
use Rattle.std.specs.List.{Contains}
use Rattle.std.proofs.lemmas.List.{take_all}
use Rattle.layout_bytes.specs.declared.slot.Slot.{Slot}
use Rattle.base_io.specs.Prefix.{TakesPrefix}
use Rattle.lang_tree.specs.Tree.{Tree}
use Rattle.lang_tree.specs.Paths.{parent}
use Rattle.crash_stands.specs.Inodes.{Inode, Inodes, ADir}
use Rattle.crash_stands.specs.Maps.{IsMapOf}
use Rattle.crash_stands.specs.Walks.{LeadsTo, node_in}
use Rattle.fs_inodes.specs.Lookups.{number_at}
use Rattle.fs_inodes.specs.Listing.{at_and_below}
use Rattle.engine_blocks.specs.State.{State}
use Rattle.fs_files.specs.NodeMaps.{NodeMap}
use Rattle.fs_dirs.specs.Directories.{IsNumber}
use Rattle.fs_commands.specs.declared.listing.Frame.{Frame}
use Rattle.fs_commands.specs.declared.listing.Walk.{Walk}
use Rattle.fs_commands.specs.Listing.{Paths, IsMapIn, lines_of, under_names, to_come, IsFrame, IsWalk, HasWritten, TakesEntry, names_left}
use Rattle.fs_commands.proofs.listed.Texts.{took_nothing}
use Rattle.fs_commands.proofs.listed.Children.{is_slot, place_of_slot, leads_to_node}
use Rattle.fs_commands.proofs.listed.Steps.{left_dir, same_paths, walk_mid}
use Rattle.fs_commands.proofs.listed.Shows.{AtNode, FrontAtNode}

module _ (s : State) (v : NodeMap) (w : Walk) (frame : Frame) where
  -- the paths that the turn begins with
  abbrev pub coming : Tree → Paths
  coming t = under_names t w.path.items (names_left frame) ++ to_come t w

  -- something that holds where the walk comes to the directory, whatever the tree
  abbrev pub AtFrame : (Inodes → Tree → Type 0) → Type 0
  AtFrame P = (m : Inodes) (t : Tree) → IsMapIn s v m t → IsFrame m w.path.items (length w.frames.items) frame → IsWalk m t (under_names t w.path.items (names_left frame)) w → P m t

  -- a prefix was taken of the lines that are still to come
  abbrev pub FrontAtFrame : Option (List ℕ) → Option (List ℕ) → Type 0
  FrontAtFrame old new = AtFrame (λ m t. TakesPrefix old new (lines_of t (coming t)))

  pub nothing_front : (old : Option (List ℕ)) → FrontAtFrame old old
  nothing_front old m t h frame walk = took_nothing old (lines_of t (coming t))

  -- no name is to come
  pub leaves : (new : Walk) (taken : Option (List ℕ)) → drop frame.next frame.entries.items ≡ [] → new.path.items ≡ parent w.path.items → new.frames ≡ w.frames → new.left ≡ w.left
      → AtFrame (λ m t. HasWritten m t (coming t) new taken taken)
  leaves new taken none path frames left m t h is_frame walk = left_dir m t w new (names_left frame) taken (ap (map (λ (s : Slot). s.name)) none) walk path frames left

  module _ (next : Frame) (entry : Slot) (takes : TakesEntry frame next entry) where
    slot_there : (m : Inodes) → (is_frame : IsFrame m w.path.items (length w.frames.items) frame) → Contains is_frame.slots entry
    slot_there m is_frame = is_slot is_frame.slots frame.entries.items (drop next.next next.entries.items) frame.next entry is_frame.entries takes.rest

    -- in a tree's directory each entry names a number of the table
    pub never_outside : ((limit : ℕ) (m : Inodes) (t : Tree) → IsMapOf limit m t → (k i : ℕ) (slots : List Slot) (s : Slot) → m k ≡ Some (ADir slots) → slice_get slots i ≡ Some s → (x : Inode) × (m s.node ≡ Some x))
        → (limit : ℕ) → limit ≡ s.books.geom.i → (IsNumber limit entry.node → ⊥) → (P : Inodes → Tree → Type 0) → AtFrame P
    never_outside names_used limit same outside P m t h is_frame walk =
        let has = slot_there m is_frame in
        let used = names_used s.books.geom.i m t h.map frame.dir has.0 is_frame.slots entry is_frame.dir (place_of_slot is_frame.slots entry has) in
        let low = h.map.within entry.node used.0 used.1 in
        absurd (outside (record { from = low.0; upto = omega (arith, low.1, same) }))

    -- It is shown.
    module _ (mid : Walk) (path : mid.path.items ≡ w.path.items ++ entry.name ∷ []) (frames : mid.frames.items ≡ w.frames.items ++ next ∷ []) (left : mid.left ≡ w.left)
        (last : (m : Inodes) (up : List (List ℕ)) (name : List ℕ) (dir : ℕ) (slots : List Slot) → LeadsTo m up dir → m dir ≡ Some (ADir slots) → number_at m (up ++ name ∷ []) ≡ node_in slots name) where
      leads_on : (m : Inodes) (t : Tree) → IsMapIn s v m t → IsFrame m w.path.items (length w.frames.items) frame → IsWalk m t (under_names t w.path.items (names_left frame)) w → LeadsTo m mid.path.items entry.node
      leads_on m t h is_frame walk =
          let whole : take (length w.frames.items) w.path.items ≡ w.path.items = take_all (length w.frames.items) w.path.items (omega (arith, walk.depth)) in
          let up = subst (λ p. LeadsTo m p frame.dir) whole is_frame.leads in
          ap (number_at m) path ∙ last m w.path.items entry.name frame.dir is_frame.slots up is_frame.dir
          ∙ leads_to_node is_frame.slots entry (h.map.distinct frame.dir is_frame.slots is_frame.dir) (slot_there m is_frame)

      pub shows_front : (old new : Option (List ℕ)) → FrontAtNode s v mid entry.node old new → FrontAtFrame old new
      shows_front old new front m t h is_frame walk =
          subst (λ paths. TakesPrefix old new (lines_of t paths)) (sym (same_paths m t w mid frame next entry takes path frames left walk is_frame))
          (front m t h (leads_on m t h is_frame walk) (walk_mid m t w mid frame next entry takes path frames left walk is_frame))

      pub shows_writes : (new : Walk) (old now : Option (List ℕ)) → AtNode s v mid entry.node (λ m t. HasWritten m t (at_and_below t mid.path.items ++ to_come t mid) new old now)
          → AtFrame (λ m t. HasWritten m t (coming t) new old now)
      shows_writes new old now goes m t h is_frame walk =
          subst (λ paths. HasWritten m t paths new old now) (sym (same_paths m t w mid frame next entry takes path frames left walk is_frame))
          (goes m t h (leads_on m t h is_frame walk) (walk_mid m t w mid frame next entry takes path frames left walk is_frame))
