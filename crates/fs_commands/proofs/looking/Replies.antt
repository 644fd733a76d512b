-- What the tree answers a command that only looks, from the node at the path.
use Rattle.std.proofs.Common.{◌≡◌, ℕ, ◌*◌, true, false, List, length, ◌∷◌, [], take, drop, Option, None, Some, option_and_then, Result, Ok, Err, IfOk, ◌==◌, refl, sym, subst, ap, ◌∙◌}
use Rattle.crash_stands.specs.Bounds.{bounds_of}
use Rattle.std.proofs.lemmas.Option.{none-some}
use Rattle.std.proofs.lemmas.Bool.{true≢false}
use Rattle.base_types.specs.declared.layout.Layout.{Layout}
use Rattle.base_types.specs.Layouts.{directory_bytes}
use Rattle.base_types.specs.LayoutLaws.{directory_count}
use Rattle.layout_bytes.specs.declared.slot.Slot.{Slot}
use Rattle.layout_bytes.specs.declared.node.NodeKind.{NodeKind}
use Rattle.layout_bytes.specs.declared.node.NodeKind.TheVariants.{Free, Dir, File, Snapshot}
use Rattle.lang_tree.specs.declared.command.Cmd.{Cmd}
use Rattle.lang_tree.specs.declared.command.Cmd.TheVariants.{Read, Stat as StatCmd, List as ListNames}
use Rattle.lang_tree.specs.declared.command.Kind.TheVariants.{Dir as DirKind}
use Rattle.lang_tree.specs.declared.command.Refusal.{Refusal}
use Rattle.lang_tree.specs.declared.command.Refusal.TheVariants.{IsDir, NotDir}
use Rattle.lang_tree.specs.declared.command.Reply.{Reply}
use Rattle.lang_tree.specs.declared.command.Reply.TheVariants.{Bytes, Names as NamesReply, Refused, Stat as StatReply}
use Rattle.lang_tree.specs.Conditions.{first_reason, least_unused, when as whenever}
use Rattle.lang_tree.specs.Points.{answers_point}
use Rattle.lang_tree.specs.Step.{Session, step}
use Rattle.lang_tree.specs.Tree.{Snapshots, Bounds}
use Rattle.lang_tree.specs.Walk.{refusal_in}
use Rattle.crash_stands.specs.Files.{FileNode, Files}
use Rattle.crash_stands.specs.Inodes.{Inode, Inodes, ADir, AFile, inode_by, inode_of, inodes_of}
use Rattle.crash_stands.specs.Maps.{IsMapOf}
use Rattle.crash_stands.specs.Walks.{LeadsTo}
use Rattle.engine_blocks.specs.State.{State}
use Rattle.fs_files.specs.declared.refusal.FileRefusal.{FileRefusal}
use Rattle.fs_files.specs.Calls.{files_in, is_dir}
use Rattle.fs_files.specs.Drafts.{DraftState, begun_beside}
use Rattle.fs_inodes.specs.Lookups.{walk_on, is_dir_inode, is_file_inode, bytes_of, slots_of, inode_at}
use Rattle.fs_inodes.specs.Names.{names_of, stat_at, stat_by}
use Rattle.fs_inodes.specs.Replies.{reply_by, reply_of}
use Rattle.fs_commands.specs.Looks.{stat_of_kind, IsMapOfSession, LeadsToFound}
use Rattle.fs_session.specs.Sessions.{IsSession}
use Rattle.fs_commands.proofs.looking.Facts.{file_told, kind_told}
use Rattle.fs_commands.proofs.Given.{EndsLaw, MapLaw, ReplyLaw}
use Rattle.fs_commands.specs.declared.paths.NodeFound.{NodeFound}
use Rattle.fs_files.specs.declared.look.FileFacts.{FileFacts}
use Rattle.fs_snapshots.specs.Nodes.{not_file}

-- what is told of a node that reads as an inode is what the inode gives
pub stat_told : (lay : Layout) (kind : NodeKind) (links : ℕ) (bytes : List ℕ) (inode : Inode) (n : ℕ) → inode_by lay kind links bytes ≡ Some inode
    → ((slots : List Slot) → kind ≡ Dir → inode ≡ ADir slots → length bytes ≡ directory_bytes lay (length slots))
    → stat_of_kind lay kind n links (length bytes) ≡ stat_by n (Some inode)
stat_told lay Free links bytes inode n reads size = absurd (none-some inode reads)
stat_told lay Snapshot links bytes inode n reads size = absurd (none-some inode reads)
stat_told lay Dir links bytes (AFile l b) n reads size = absurd (not_file (links == 1) _ l b reads)
stat_told lay Dir links bytes (ADir slots) n reads size =
    ap (λ s. stat_of_kind lay Dir n links s) (size slots refl refl) ∙ ap (λ e. StatReply (record { kind = DirKind; number = n; size = 64 * e; links = 1 })) (directory_count lay (length slots))
stat_told lay File links bytes (ADir slots) n reads size = absurd cc
stat_told lay File links bytes (AFile l b) n reads size = cc

module _ (lay : Layout) (m : Inodes) (least : Option ℕ) (kept : Snapshots) (path : List (List ℕ)) where
  -- a path that leads nowhere
  pub stat_refused : (why : Refusal) → walk_on m 1 path ≡ Err why → Refused why ≡ reply_of lay least kept m (StatCmd path)
  stat_refused why e = sym (ap (λ r. reply_by kept m (StatCmd path) (refusal_in r)) e)

  pub read_refused : (offset count : ℕ) (why : Refusal) → walk_on m 1 path ≡ Err why → Refused why ≡ reply_of lay least kept m (Read path offset count)
  read_refused offset count why e = sym (ap (λ r. reply_by kept m (Read path offset count) (first_reason (refusal_in r ∷ whenever (is_dir_inode (inode_at m path)) IsDir ∷ []))) e)

  pub list_refused : (why : Refusal) → walk_on m 1 path ≡ Err why → Refused why ≡ reply_of lay least kept m (ListNames path)
  list_refused why e = sym (ap (λ r. reply_by kept m (ListNames path) (first_reason (refusal_in r ∷ whenever (is_file_inode (inode_at m path)) NotDir ∷ []))) e)

  -- a path that leads to a node
  module _ (n : ℕ) (inode : Inode) (walked : walk_on m 1 path ≡ Ok n) (leads : LeadsTo m path n) (here : m n ≡ Some inode) where
    pub at_path : inode_at m path ≡ Some inode
    at_path = ap (option_and_then m) leads ∙ here

    pub stat_is : reply_of lay least kept m (StatCmd path) ≡ stat_by n (Some inode)
    stat_is = ap (λ r. reply_by kept m (StatCmd path) (refusal_in r)) walked ∙ ap (stat_at m) leads ∙ ap (stat_by n) here

    reads_by : (offset count : ℕ) → reply_of lay least kept m (Read path offset count) ≡ reply_by kept m (Read path offset count) (first_reason (None ∷ whenever (is_dir_inode (Some inode)) IsDir ∷ []))
    reads_by offset count = ap (λ r. reply_by kept m (Read path offset count) (first_reason (refusal_in r ∷ whenever (is_dir_inode (inode_at m path)) IsDir ∷ []))) walked
        ∙ ap (λ i. reply_by kept m (Read path offset count) (first_reason (None ∷ whenever (is_dir_inode i) IsDir ∷ []))) at_path

    lists_by : reply_of lay least kept m (ListNames path) ≡ reply_by kept m (ListNames path) (first_reason (None ∷ whenever (is_file_inode (Some inode)) NotDir ∷ []))
    lists_by = ap (λ r. reply_by kept m (ListNames path) (first_reason (refusal_in r ∷ whenever (is_file_inode (inode_at m path)) NotDir ∷ []))) walked
        ∙ ap (λ i. reply_by kept m (ListNames path) (first_reason (None ∷ whenever (is_file_inode i) NotDir ∷ []))) at_path

  pub read_dir : (n offset count : ℕ) (slots : List Slot) → walk_on m 1 path ≡ Ok n → LeadsTo m path n → m n ≡ Some (ADir slots) → Refused IsDir ≡ reply_of lay least kept m (Read path offset count)
  read_dir n offset count slots walked leads here = sym (reads_by n (ADir slots) walked leads here offset count)

  pub read_file : (n offset count links : ℕ) (bytes : List ℕ) → walk_on m 1 path ≡ Ok n → LeadsTo m path n → m n ≡ Some (AFile links bytes) → Bytes (take count (drop offset bytes)) ≡ reply_of lay least kept m (Read path offset count)
  read_file n offset count links bytes walked leads here =
      sym (reads_by n (AFile links bytes) walked leads here offset count ∙ ap (λ i. Bytes (take count (drop offset (bytes_of i)))) (at_path n (AFile links bytes) walked leads here))

  pub list_file : (n links : ℕ) (bytes : List ℕ) → walk_on m 1 path ≡ Ok n → LeadsTo m path n → m n ≡ Some (AFile links bytes) → Refused NotDir ≡ reply_of lay least kept m (ListNames path)
  list_file n links bytes walked leads here = sym (lists_by n (AFile links bytes) walked leads here)

  pub list_dir : (n : ℕ) (slots : List Slot) → walk_on m 1 path ≡ Ok n → LeadsTo m path n → m n ≡ Some (ADir slots) → NamesReply (names_of slots) ≡ reply_of lay least kept m (ListNames path)
  list_dir n slots walked leads here = sym (lists_by n (ADir slots) walked leads here ∙ ap (λ i. NamesReply (names_of (slots_of i))) (at_path n (ADir slots) walked leads here))

-- the inodes are the map of the session's tree, by its own limit
pub session_maps : (limit : Bounds) (m : Inodes) (f : Session) → IsMapOfSession limit m f → IsMapOf f.limit.nodes m f.tree
session_maps limit m f h = subst (λ (b : Bounds). IsMapOf b.nodes m f.tree) (sym h.limit_is) h.map

-- what a look in an empty draft answers, it answers for each session over the blocks
pub answers_begun : {counts : List ℕ} (s : State) (d : DraftState) (cmd : Cmd) (r : Result Reply FileRefusal) → d ≡ begun_beside counts → MapLaw
    → IfOk r (λ reply. (f : Session) → IsMapOfSession (bounds_of s.books.geom) (inodes_of s.books.geom.layout (files_in s d)) f → reply ≡ (step f cmd).1) → IfOk r (λ reply. (f : Session) → IsSession s f → reply ≡ (step f cmd).1)
answers_begun s d cmd (Ok reply) none map h = λ f is. h f (record {
  map = subst (λ e. IsMapOf s.books.geom.i (inodes_of s.books.geom.layout (files_in s e)) f.tree) (sym none) (map s.books.geom s.map f.tree is.tree);
  limit_is = is.limit;
})
answers_begun s d cmd (Err why) none map h = tt

-- The replies of a session whose tree has these inodes as its map.
module _ (l : Layout) (files : Files) (f : Session) (map : IsMapOf f.limit.nodes (inodes_of l files) f.tree) (law : ReplyLaw) (path : List (List ℕ)) where
  abbrev m : Inodes
  m = inodes_of l files

  replies : (cmd : Cmd) → answers_point cmd ≡ false → reply_of f.limit.layout (least_unused f.limit.nodes f.tree) f.tree.snapshots m cmd ≡ (step f cmd).1
  replies cmd none = sym (law f m cmd map none)

  pub stat_nowhere : (why : Refusal) → walk_on m 1 path ≡ Err why → Refused why ≡ (step f (StatCmd path)).1
  stat_nowhere why e = stat_refused f.limit.layout m (least_unused f.limit.nodes f.tree) f.tree.snapshots path why e ∙ replies (StatCmd path) refl

  pub read_nowhere : (offset count : ℕ) (why : Refusal) → walk_on m 1 path ≡ Err why → Refused why ≡ (step f (Read path offset count)).1
  read_nowhere offset count why e = read_refused f.limit.layout m (least_unused f.limit.nodes f.tree) f.tree.snapshots path offset count why e ∙ replies (Read path offset count) refl

  pub list_nowhere : (why : Refusal) → walk_on m 1 path ≡ Err why → Refused why ≡ (step f (ListNames path)).1
  list_nowhere why e = list_refused f.limit.layout m (least_unused f.limit.nodes f.tree) f.tree.snapshots path why e ∙ replies (ListNames path) refl

  module _ (ends : EndsLaw) (found : NodeFound) (led : LeadsToFound l files path (Ok found)) where
    abbrev n : ℕ
    n = found.number

    abbrev x : FileNode
    x = led.1.0

    walked : walk_on m 1 path ≡ Ok n
    walked = led.0

    leads : LeadsTo m path n
    leads = ends m path n led.0

    abbrev inode : Inode
    inode = (map.shows.used path n leads).0

    here : m n ≡ Some inode
    here = (map.shows.used path n leads).1

    reads : inode_of l x ≡ Some inode
    reads = sym (ap (option_and_then (inode_of l)) led.1.1) ∙ here

    pub stat_there : ((slots : List Slot) → x.kind ≡ Dir → inode_of l x ≡ Some (ADir slots) → length x.bytes ≡ directory_bytes l (length slots)) → stat_of_kind l x.kind n x.links (length x.bytes) ≡ (step f (StatCmd path)).1
    stat_there size = stat_told l x.kind x.links x.bytes inode n reads (λ slots dir is. size slots dir (reads ∙ ap Some is)) ∙ sym (stat_is f.limit.layout m (least_unused f.limit.nodes f.tree) f.tree.snapshots path n inode walked leads here) ∙ replies (StatCmd path) refl

    -- a file reads as one, and a directory too
    kind_is : (i : Inode) → inode_of l x ≡ Some i → is_dir_inode (Some i) ≡ is_dir x.kind
    kind_is i e = (kind_told _ x.kind x.links x.bytes i e).0

    read_is : (offset count : ℕ) (i : Inode) → inode_of l x ≡ Some i → m n ≡ Some i → (is_dir x.kind ≡ true → Refused IsDir ≡ reply_of f.limit.layout (least_unused f.limit.nodes f.tree) f.tree.snapshots m (Read path offset count))
        × (is_dir x.kind ≡ false → Bytes (take count (drop offset x.bytes)) ≡ reply_of f.limit.layout (least_unused f.limit.nodes f.tree) f.tree.snapshots m (Read path offset count))
    read_is offset count (ADir slots) e is = (
      (λ dir. read_dir f.limit.layout m (least_unused f.limit.nodes f.tree) f.tree.snapshots path n offset count slots walked leads is),
      (λ file. absurd (true≢false (kind_is (ADir slots) e ∙ file))),
    )
    read_is offset count (AFile l b) e is = (
      (λ dir. absurd (true≢false (sym dir ∙ sym (kind_is (AFile l b) e)))),
      (λ file. ap (λ bytes. Bytes (take count (drop offset bytes))) (ap bytes_of (sym (file_told _ x.kind x.links x.bytes (AFile l b) e file) ∙ e)) ∙ read_file f.limit.layout m (least_unused f.limit.nodes f.tree) f.tree.snapshots path n offset count l b walked leads is),
    )

    kind : is_dir x.kind ≡ is_dir found.facts.kind
    kind = sym (ap (λ (q : FileFacts). is_dir q.kind) led.1.2)

    pub read_there : (offset count : ℕ) → (is_dir found.facts.kind ≡ true → Refused IsDir ≡ (step f (Read path offset count)).1) × (is_dir found.facts.kind ≡ false → Bytes (take count (drop offset x.bytes)) ≡ (step f (Read path offset count)).1)
    read_there offset count =
        let r = read_is offset count inode reads here in
        let law = replies (Read path offset count) refl in
        ((λ dir. r.0 (kind ∙ dir) ∙ law), (λ file. r.1 (kind ∙ file) ∙ law))

    list_is : (i : Inode) → inode_of l x ≡ Some i → m n ≡ Some i → (is_dir x.kind ≡ false → Refused NotDir ≡ reply_of f.limit.layout (least_unused f.limit.nodes f.tree) f.tree.snapshots m (ListNames path))
        × (is_dir x.kind ≡ true → (slots : List Slot) × (i ≡ ADir slots) × (NamesReply (names_of slots) ≡ reply_of f.limit.layout (least_unused f.limit.nodes f.tree) f.tree.snapshots m (ListNames path)))
    list_is (ADir slots) e is = (
      (λ file. absurd (true≢false (kind_is (ADir slots) e ∙ file))),
      (λ dir. (slots, refl, list_dir f.limit.layout m (least_unused f.limit.nodes f.tree) f.tree.snapshots path n slots walked leads is)),
    )
    list_is (AFile l b) e is = (
      (λ file. list_file f.limit.layout m (least_unused f.limit.nodes f.tree) f.tree.snapshots path n l b walked leads is),
      (λ dir. absurd (true≢false (sym dir ∙ sym (kind_is (AFile l b) e)))),
    )

    pub list_there : (is_dir found.facts.kind ≡ false → Refused NotDir ≡ (step f (ListNames path)).1)
        × (is_dir found.facts.kind ≡ true → (slots : List Slot) × (m n ≡ Some (ADir slots)) × (NamesReply (names_of slots) ≡ (step f (ListNames path)).1))
    list_there =
        let r = list_is inode reads here in
        let law = replies (ListNames path) refl in
        ((λ file. r.0 (kind ∙ file) ∙ law), (λ dir. let d = r.1 (kind ∙ dir) in (d.0, here ∙ ap Some d.1, d.2 ∙ law)))
