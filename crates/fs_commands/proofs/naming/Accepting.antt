-- What the tree makes of a command by which a name comes to be, from what was looked up first.
use Rattle.std.proofs.Common.{◌≡◌, ℕ, ◌+◌, ◌≤◌, ◌<◌, Bool, true, false, List, [], ◌∷◌, ◌++◌, length, is_some, is_none, Option, None, Some, option_and_then, Ok, Err, nat_le, nat_lt, refl, sym, subst, ap, ◌∙◌}
use Rattle.std.proofs.lemmas.Bool.{le-leb, le-ltb, lt-leb, lt-ltb}
use Rattle.base_types.specs.declared.layout.Layout.{Layout}
use Rattle.base_types.specs.Layouts.{longest_name}
use Rattle.layout_geometry.specs.Geometry.{bitmap_blocks}
use Rattle.lang_tree.specs.declared.command.Cmd.{Cmd}
use Rattle.lang_tree.specs.declared.command.Cmd.TheVariants.{Mkdir, Create, Link}
use Rattle.lang_tree.specs.declared.command.Kind.{Kind}
use Rattle.lang_tree.specs.declared.command.Kind.TheVariants.{Dir, File}
use Rattle.lang_tree.specs.declared.command.Refusal.{Refusal}
use Rattle.lang_tree.specs.declared.command.Refusal.TheVariants.{Exists, NoNode, IsDir, TooManyLinks, NameTooLong}
use Rattle.lang_tree.specs.declared.command.Reply.TheVariants.{Ok as Done}
use Rattle.lang_tree.specs.Conditions.{when, first_reason, least_unused, refusal}
use Rattle.lang_tree.specs.Figures.{Figures, adding, growth}
use Rattle.lang_tree.specs.Sharing.{BlocksAlone, SharedNodes}
use Rattle.lang_tree.specs.Paths.{is_too_long, parent}
use Rattle.lang_tree.specs.Step.{Session, changes_snapshots, step, answered}
use Rattle.lang_tree.specs.Tree.{Snapshots, Dir as DirThing, File as FileThing, Bounds}
use Rattle.lang_tree.specs.Walk.{refusal_in}
use Rattle.crash_stands.specs.Files.{Files}
use Rattle.crash_stands.specs.Inodes.{Inode, Inodes, AFile, inode_of, inodes_of}
use Rattle.crash_stands.specs.Maps.{IsMapOf}
use Rattle.crash_stands.specs.Walks.{LeadsTo}
use Rattle.fs_inodes.specs.Changes.{AddsSlot, new_inode, slot_of}
use Rattle.fs_inodes.specs.Figures.{cost_over_by, accepted_cost_over, slots_above}
use Rattle.fs_inodes.specs.Lookups.{is_dir_inode, links_in, number_at, inode_at, walk_on}
use Rattle.fs_inodes.specs.Refusals.{reason, make_reason, parent_reason}
use Rattle.engine_blocks.specs.State.{State}
use Rattle.fs_files.specs.Calls.{files_in, is_dir}
use Rattle.fs_files.specs.Drafts.{nothing_drafted}
use Rattle.fs_commands.specs.declared.making.Vacancy.{Vacancy}
use Rattle.fs_files.specs.declared.look.FileFacts.{FileFacts}
use Rattle.fs_commands.specs.declared.paths.NodeFound.{NodeFound}
use Rattle.fs_commands.specs.declared.paths.Entry.{Entry}
use Rattle.fs_commands.specs.declared.paths.Spot.{Spot}
use Rattle.fs_commands.specs.declared.paths.Spot.TheVariants.{Inside}
use Rattle.fs_session.specs.Commands.{alone_on, grown_on, least_number, shared_on}
use Rattle.fs_commands.specs.Looks.{ComesTo, LeadsToFound, number_of}
use Rattle.fs_commands.specs.Making.{AcceptsName, MayAppear, MayLink, first_thing, make_cmd}
use Rattle.fs_session.specs.NothingKept.{puts_no_bytes, renews_without_bytes}
use Rattle.fs_session.specs.Sessions.{IsSession, inodes}
use Rattle.fs_commands.proofs.looking.Facts.{inode_is, kind_told, file_told}
use Rattle.fs_commands.proofs.looking.Spots.{above}
use Rattle.fs_commands.proofs.FirstReason.{first_more}
use Rattle.fs_commands.proofs.Given.{RefusalLaw, FiguresLaw, EndsLaw}

-- What the laws on what a path comes to say.

abbrev pub ParentLaw : Type 0
ParentLaw = (l : Layout) (files : Files) (path : List (List ℕ)) (spot : Spot) → ComesTo l files path (Ok spot) → parent_reason (inodes_of l files) path ≡ None

abbrev pub NumberLaw : Type 0
NumberLaw = (l : Layout) (files : Files) (path : List (List ℕ)) (spot : Spot) → ComesTo l files path (Ok spot) → number_at (inodes_of l files) path ≡ number_of spot

abbrev pub SlotsLaw : Type 0
SlotsLaw = (l : Layout) (files : Files) (path : List (List ℕ)) (dir count : ℕ) (entry : Option Entry) → ComesTo l files path (Ok (Inside dir count entry)) → count ≡ slots_above (inodes_of l files) path

-- a last name is too long where it has more bytes than a name of the layout may have
abbrev pub LastLaw : Type 0
LastLaw = (l : Layout) (up : List (List ℕ)) (name : List ℕ) → is_too_long l (up ++ name ∷ []) ≡ nat_lt (longest_name l) (length name)

-- The reasons.

-- a command is refused for the reason of making
made_reason : (l : Layout) (least : Option ℕ) (kept : Snapshots) (m : Inodes) (kind : Kind) (path : List (List ℕ)) → reason l least kept m (make_cmd kind path) ≡ make_reason l least m path
made_reason l least kept m Dir path = refl
made_reason l least kept m File path = refl

made_cost : (bitmap : ℕ) (shared : SharedNodes) (alone : BlocksAlone) (limit : Bounds) (kept : Snapshots) (m : Inodes) (kind : Kind) (path : List (List ℕ))
    → accepted_cost_over bitmap shared alone limit kept m (make_cmd kind path) ≡ adding (growth limit.layout (slots_above m path))
made_cost bitmap shared alone limit kept m Dir path = refl
made_cost bitmap shared alone limit kept m File path = refl

made_done : (f : Session) (kind : Kind) (path : List (List ℕ)) → (answered f (make_cmd kind path) None).1 ≡ Done
made_done f Dir path = refl
made_done f File path = refl

made_grows : (s : State) (kind : Kind) (path : List (List ℕ)) → grown_on s (make_cmd kind path) ≡ number_at (inodes s) (parent path)
made_grows s Dir path = refl
made_grows s File path = refl

-- it puts no bytes into a file
made_puts_none : (kind : Kind) (path : List (List ℕ)) → puts_no_bytes (make_cmd kind path) ≡ true
made_puts_none Dir path = refl
made_puts_none File path = refl

-- and leaves the snapshots
made_keeps : (kind : Kind) (path : List (List ℕ)) → changes_snapshots (make_cmd kind path) ≡ false
made_keeps Dir path = refl
made_keeps File path = refl

-- the directory above a path is where its parent leads
pub parent_leads : EndsLaw → (l : Layout) (files : Files) (path : List (List ℕ)) (dir count : ℕ) (entry : Option Entry) → ComesTo l files path (Ok (Inside dir count entry)) → LeadsTo (inodes_of l files) (parent path) dir
parent_leads ends l files path dir count entry (up, name, is, at, h) = ap (number_at (inodes_of l files)) (ap parent is ∙ above up name) ∙ ends (inodes_of l files) up dir at

module _ (old : State) (f : Session) (h : IsSession old f) (map : IsMapOf old.books.geom.i (inodes old) f.tree) where
  abbrev m : Inodes
  m = inodes old

  abbrev files : Files
  files = files_in old nothing_drafted

  its_map : IsMapOf f.limit.nodes (inodes old) f.tree
  its_map = subst (λ (b : Bounds). IsMapOf b.nodes (inodes old) f.tree) (sym h.limit) map

  -- the least unused number, and the reason against a command
  abbrev least_in : Option ℕ
  least_in = least_unused f.limit.nodes f.tree

  abbrev against : Cmd → Option Refusal
  against cmd = reason f.limit.layout least_in f.tree.snapshots m cmd

  -- what it takes once it is accepted
  abbrev takes : Cmd → Figures
  takes cmd = accepted_cost_over (bitmap_blocks old.books.geom) (shared_on old f) (alone_on old f) f.limit f.tree.snapshots m cmd

  -- what holds of each command that gives a name to a directory, once the tree has no reason against it
  pub accepts : RefusalLaw → FiguresLaw → EndsLaw → SlotsLaw → (cmd : Cmd) (path : List (List ℕ)) (dir count : ℕ) → ComesTo old.books.geom.layout files path (Ok (Inside dir count None)) → against cmd ≡ None
      → (answered f cmd None).1 ≡ Done → takes cmd ≡ adding (growth f.limit.layout (slots_above m path)) → grown_on old cmd ≡ number_at m (parent path) → puts_no_bytes cmd ≡ true → changes_snapshots cmd ≡ false → AcceptsName old f cmd dir count
  accepts law figured ends counted cmd path dir count comes none done costs grown no_bytes keeps =
      let accepted : refusal f.limit f.tree cmd ≡ None = law f.limit m f.tree cmd its_map ∙ none in
      record {
        accepted = accepted;
        answer = ap (λ r. (answered f cmd r).1) accepted ∙ done;
        grows = grown ∙ parent_leads ends old.books.geom.layout files path dir count None comes;
        renews = renews_without_bytes old f cmd no_bytes;
        keeps = keeps;
        figures = figured (bitmap_blocks old.books.geom) (shared_on old f) (alone_on old f) f m cmd its_map
            ∙ ap (cost_over_by (bitmap_blocks old.books.geom) (shared_on old f) (alone_on old f) f.limit f.tree.snapshots m cmd) none ∙ costs ∙ ap (λ n. adding (growth f.limit.layout n)) (sym (counted old.books.geom.layout files path dir count None comes))
            ∙ ap (λ (b : Bounds). adding (growth b.layout count)) h.limit;
        slots = comes.4.slots;
        is_dir = comes.4.dir;
        count = comes.4.count;
      }

  -- a new node
  module _ (law : RefusalLaw) (kind : Kind) (path : List (List ℕ)) where
    pub node_refused : (why : Refusal) → MayAppear old.books.geom.layout files path (Err why) → refusal f.limit f.tree (make_cmd kind path) ≡ Some why
    node_refused why e = law f.limit m f.tree (make_cmd kind path) its_map ∙ made_reason f.limit.layout least_in f.tree.snapshots m kind path
        ∙ first_more (parent_reason m path) (when (is_some (number_at m path)) Exists) (when (is_none least_in) NoNode ∷ when (is_too_long f.limit.layout path) NameTooLong ∷ []) why e

    module _ (none_against : ParentLaw) (at : NumberLaw) (least_is : least_in ≡ least_number old) (v : Vacancy) (comes : MayAppear old.books.geom.layout files path (Ok v)) where
      reason_is : (least : Option ℕ) → least_number old ≡ least → make_reason f.limit.layout least_in m path ≡ first_reason (when (is_none least) NoNode ∷ when (is_too_long f.limit.layout path) NameTooLong ∷ [])
      reason_is least e =
          ap (λ r. first_reason (r ∷ when (is_some (number_at m path)) Exists ∷ when (is_none least_in) NoNode ∷ when (is_too_long f.limit.layout path) NameTooLong ∷ [])) (none_against old.books.geom.layout files path (Inside v.dir v.count None) comes.0)
          ∙ ap (λ o. first_reason (when (is_some o) Exists ∷ when (is_none least_in) NoNode ∷ when (is_too_long f.limit.layout path) NameTooLong ∷ [])) (at old.books.geom.layout files path (Inside v.dir v.count None) comes.0)
          ∙ ap (λ o. first_reason (when (is_none o) NoNode ∷ when (is_too_long f.limit.layout path) NameTooLong ∷ [])) (least_is ∙ e)

      -- whether its name is too long is told by the name that was found
      long_is : LastLaw → is_too_long f.limit.layout path ≡ nat_lt (longest_name old.books.geom.layout) (length v.name)
      long_is last = ap (λ (b : Bounds). is_too_long b.layout path) h.limit ∙ ap (is_too_long old.books.geom.layout) comes.1.1 ∙ last old.books.geom.layout comes.1.0 v.name

      short_is : LastLaw → length v.name ≤ longest_name old.books.geom.layout → is_too_long f.limit.layout path ≡ false
      short_is last short = long_is last ∙ le-ltb (longest_name old.books.geom.layout) (length v.name) short

      pub name_too_long : LastLaw → (node : ℕ) → least_number old ≡ Some node → longest_name old.books.geom.layout < length v.name → refusal f.limit f.tree (make_cmd kind path) ≡ Some NameTooLong
      name_too_long last node e long = law f.limit m f.tree (make_cmd kind path) its_map ∙ made_reason f.limit.layout least_in f.tree.snapshots m kind path ∙ reason_is (Some node) e
          ∙ ap (λ b. first_reason (when b NameTooLong ∷ [])) (long_is last ∙ lt-ltb (longest_name old.books.geom.layout) (length v.name) long)

      pub no_node_left : least_number old ≡ None → refusal f.limit f.tree (make_cmd kind path) ≡ Some NoNode
      no_node_left e = law f.limit m f.tree (make_cmd kind path) its_map ∙ made_reason f.limit.layout least_in f.tree.snapshots m kind path ∙ reason_is None e

      pub node_accepted : FiguresLaw → EndsLaw → SlotsLaw → LastLaw → (node : ℕ) → least_number old ≡ Some node → length v.name ≤ longest_name old.books.geom.layout → AcceptsName old f (make_cmd kind path) v.dir v.count
      node_accepted figured ends counted last node e short =
          accepts law figured ends counted (make_cmd kind path) path v.dir v.count comes.0 (made_reason f.limit.layout least_in f.tree.snapshots m kind path ∙ reason_is (Some node) e ∙ ap (λ b. first_reason (when b NameTooLong ∷ [])) (short_is last short)) (made_done f kind path)
          (made_cost (bitmap_blocks old.books.geom) (shared_on old f) (alone_on old f) f.limit f.tree.snapshots m kind path) (made_grows old kind path) (made_puts_none kind path) (made_keeps kind path)

      -- what the draft makes is the map of the tree with the new node
      pub node_mapped : EndsLaw
          → ((s : Session) (m new : Inodes) (up : List (List ℕ)) (name : List ℕ) (dir node : ℕ) → IsMapOf s.limit.nodes m s.tree → refusal s.limit s.tree (Mkdir (up ++ name ∷ [])) ≡ None
          → LeadsTo m up dir → least_unused s.limit.nodes s.tree ≡ Some node → AddsSlot m new dir node name (new_inode DirThing) → IsMapOf s.limit.nodes new (step s (Mkdir (up ++ name ∷ []))).0.tree)
          → ((s : Session) (m new : Inodes) (up : List (List ℕ)) (name : List ℕ) (dir node : ℕ) → IsMapOf s.limit.nodes m s.tree → refusal s.limit s.tree (Create (up ++ name ∷ [])) ≡ None
          → LeadsTo m up dir → least_unused s.limit.nodes s.tree ≡ Some node → AddsSlot m new dir node name (new_inode (FileThing [])) → IsMapOf s.limit.nodes new (step s (Create (up ++ name ∷ []))).0.tree)
          → (new : Inodes) (node : ℕ) → refusal f.limit f.tree (make_cmd kind path) ≡ None → least_number old ≡ Some node → AddsSlot m new v.dir node v.name (new_inode (first_thing kind))
          → IsMapOf f.limit.nodes new (step f (make_cmd kind path)).0.tree
      node_mapped ends mkdir create new node accepted least adds =
          let up = comes.1.0 in
          let is : path ≡ up ++ v.name ∷ [] = comes.1.1 in
          let leads : LeadsTo m up v.dir = subst (λ p. LeadsTo m p v.dir) (ap parent is ∙ above up v.name) (parent_leads ends old.books.geom.layout files path v.dir v.count None comes.0) in
          subst (λ p. IsMapOf f.limit.nodes new (step f (make_cmd kind p)).0.tree) (sym is)
          (by kind up leads (subst (λ p. refusal f.limit f.tree (make_cmd kind p) ≡ None) is accepted) adds)
        where
          by : (kind : Kind) (up : List (List ℕ)) → LeadsTo m up v.dir → refusal f.limit f.tree (make_cmd kind (up ++ v.name ∷ [])) ≡ None → AddsSlot m new v.dir node v.name (new_inode (first_thing kind))
              → IsMapOf f.limit.nodes new (step f (make_cmd kind (up ++ v.name ∷ []))).0.tree
          by Dir up leads accepted adds = mkdir f m new up v.name v.dir node its_map accepted leads (least_is ∙ least) adds
          by File up leads accepted adds = create f m new up v.name v.dir node its_map accepted leads (least_is ∙ least) adds

  -- a link
  module _ (law : RefusalLaw) (path other : List (List ℕ)) where
    -- its reasons but the walk to the first path
    abbrev later : List (Option Refusal)
    later = parent_reason m other ∷ when (is_some (number_at m other)) Exists ∷ when (is_dir_inode (inode_at m path)) IsDir ∷ when (nat_le 65535 (links_in (inode_at m path))) TooManyLinks ∷ when (is_too_long f.limit.layout other) NameTooLong ∷ []

    pub link_nowhere : (why : Refusal) → walk_on m 1 path ≡ Err why → refusal f.limit f.tree (Link path other) ≡ Some why
    link_nowhere why e = law f.limit m f.tree (Link path other) its_map ∙ ap (λ r. first_reason (refusal_in r ∷ later)) e

    module _ (ends : EndsLaw) (found : NodeFound) (walked : LeadsToFound old.books.geom.layout files path (Ok found)) where
      leads : LeadsTo m path found.number
      leads = ends m path found.number walked.0

      used : (i : Inode) × (inode_of old.books.geom.layout walked.1.0 ≡ Some i)
      used = let u = map.shows.used path found.number leads in (u.0, sym (ap (option_and_then (inode_of old.books.geom.layout)) walked.1.1) ∙ u.1)

      at_path : inode_at m path ≡ Some used.0
      at_path = inode_is old.books.geom.layout files path found.number walked.1.0 leads walked.1.1 ∙ used.1

      told : (is_dir_inode (inode_at m path) ≡ is_dir found.facts.kind) × (links_in (inode_at m path) ≡ found.facts.links)
      told =
          let t = kind_told _ walked.1.0.kind walked.1.0.links walked.1.0.bytes used.0 used.1 in
          (ap is_dir_inode at_path ∙ t.0 ∙ ap (λ (q : FileFacts). is_dir q.kind) (sym walked.1.2), ap links_in at_path ∙ t.1 ∙ ap (λ (q : FileFacts). q.links) (sym walked.1.2))

      past_walk : against (Link path other) ≡ first_reason later
      past_walk = ap (λ r. first_reason (refusal_in r ∷ later)) walked.0

      pub link_refused : (why : Refusal) → MayAppear old.books.geom.layout files other (Err why) → refusal f.limit f.tree (Link path other) ≡ Some why
      link_refused why e =
          law f.limit m f.tree (Link path other) its_map ∙ past_walk
          ∙ first_more (parent_reason m other) (when (is_some (number_at m other)) Exists) (when (is_dir_inode (inode_at m path)) IsDir ∷ when (nat_le 65535 (links_in (inode_at m path))) TooManyLinks ∷ when (is_too_long f.limit.layout other) NameTooLong ∷ []) why e

      module _ (none_against : ParentLaw) (at : NumberLaw) (v : Vacancy) (comes : MayAppear old.books.geom.layout files other (Ok v)) where
        -- the reasons that are left are those of the node
        link_reason_is : (dir many : Bool) → is_dir found.facts.kind ≡ dir → nat_le 65535 found.facts.links ≡ many → against (Link path other) ≡ first_reason (when dir IsDir ∷ when many TooManyLinks ∷ when (is_too_long f.limit.layout other) NameTooLong ∷ [])
        link_reason_is dir many d n =
            past_walk
            ∙ ap (λ r. first_reason (r ∷ when (is_some (number_at m other)) Exists ∷ when (is_dir_inode (inode_at m path)) IsDir ∷ when (nat_le 65535 (links_in (inode_at m path))) TooManyLinks ∷ when (is_too_long f.limit.layout other) NameTooLong ∷ [])) (none_against old.books.geom.layout files other (Inside v.dir v.count None) comes.0)
            ∙ ap (λ o. first_reason (when (is_some o) Exists ∷ when (is_dir_inode (inode_at m path)) IsDir ∷ when (nat_le 65535 (links_in (inode_at m path))) TooManyLinks ∷ when (is_too_long f.limit.layout other) NameTooLong ∷ [])) (at old.books.geom.layout files other (Inside v.dir v.count None) comes.0)
            ∙ ap (λ b. first_reason (when b IsDir ∷ when (nat_le 65535 (links_in (inode_at m path))) TooManyLinks ∷ when (is_too_long f.limit.layout other) NameTooLong ∷ [])) (told.0 ∙ d)
            ∙ ap (λ b. first_reason (when dir IsDir ∷ when b TooManyLinks ∷ when (is_too_long f.limit.layout other) NameTooLong ∷ [])) (ap (nat_le 65535) told.1 ∙ n)

        -- whether the name is too long is told by the name that was found
        link_long_is : LastLaw → is_too_long f.limit.layout other ≡ nat_lt (longest_name old.books.geom.layout) (length v.name)
        link_long_is last = ap (λ (b : Bounds). is_too_long b.layout other) h.limit ∙ ap (is_too_long old.books.geom.layout) comes.1.1 ∙ last old.books.geom.layout comes.1.0 v.name

        pub link_too_long : LastLaw → is_dir found.facts.kind ≡ false → found.facts.links < 65535 → longest_name old.books.geom.layout < length v.name → refusal f.limit f.tree (Link path other) ≡ Some NameTooLong
        link_too_long last d few long = law f.limit m f.tree (Link path other) its_map ∙ link_reason_is false false d (lt-leb 65535 found.facts.links few)
            ∙ ap (λ b. first_reason (when b NameTooLong ∷ [])) (link_long_is last ∙ lt-ltb (longest_name old.books.geom.layout) (length v.name) long)

        pub link_directory : is_dir found.facts.kind ≡ true → refusal f.limit f.tree (Link path other) ≡ Some IsDir
        link_directory d = law f.limit m f.tree (Link path other) its_map ∙ link_reason_is true (nat_le 65535 found.facts.links) d refl

        pub link_many : is_dir found.facts.kind ≡ false → 65535 ≤ found.facts.links → refusal f.limit f.tree (Link path other) ≡ Some TooManyLinks
        link_many d n = law f.limit m f.tree (Link path other) its_map ∙ link_reason_is false true d (le-leb 65535 found.facts.links n)

        -- it is accepted, and a slot for the file makes its tree
        module _ (figured : FiguresLaw) (counted : SlotsLaw) (file : is_dir found.facts.kind ≡ false) (few : found.facts.links < 65535) (last : LastLaw) (short : length v.name ≤ longest_name old.books.geom.layout) where
          link_accepted : AcceptsName old f (Link path other) v.dir v.count
          link_accepted = accepts law figured ends counted (Link path other) other v.dir v.count comes.0 (link_reason_is false false file (lt-leb 65535 found.facts.links few)
              ∙ ap (λ b. first_reason (when b NameTooLong ∷ [])) (link_long_is last ∙ le-ltb (longest_name old.books.geom.layout) (length v.name) short)) refl refl refl refl refl

          is_file : m found.number ≡ Some (AFile found.facts.links walked.1.0.bytes)
          is_file =
              ap (option_and_then (inode_of old.books.geom.layout)) walked.1.1 ∙ file_told _ walked.1.0.kind walked.1.0.links walked.1.0.bytes used.0 used.1 (sym (ap (λ (q : FileFacts). is_dir q.kind) walked.1.2) ∙ file)
              ∙ ap (λ (q : FileFacts). Some (AFile q.links walked.1.0.bytes)) (sym walked.1.2)

          pub link_made : ((s : Session) (m new : Inodes) (path up : List (List ℕ)) (name : List ℕ) (dir node links : ℕ) (bytes : List ℕ) → IsMapOf s.limit.nodes m s.tree → refusal s.limit s.tree (Link path (up ++ name ∷ [])) ≡ None
              → LeadsTo m path node → m node ≡ Some (AFile links bytes) → LeadsTo m up dir → AddsSlot m new dir node name (AFile (links + 1) bytes) → IsMapOf s.limit.nodes new (step s (Link path (up ++ name ∷ []))).0.tree)
              → MayLink old f (Link path other) v.dir v.count (slot_of found.number v.name) (found.facts.links + 1)
          link_made linked = record {
            accepts = link_accepted;
            before = found.facts.links;
            bytes = walked.1.0.bytes;
            file = is_file;
            map = λ new adds.
                let up = comes.1.0 in
                let is : other ≡ up ++ v.name ∷ [] = comes.1.1 in
                let to : LeadsTo m up v.dir = subst (λ p. LeadsTo m p v.dir) (ap parent is ∙ above up v.name) (parent_leads ends old.books.geom.layout files other v.dir v.count None comes.0) in
                subst (λ p. IsMapOf f.limit.nodes new (step f (Link path p)).0.tree) (sym is)
                (linked f m new path up v.name v.dir found.number found.facts.links walked.1.0.bytes its_map (subst (λ p. refusal f.limit f.tree (Link path p) ≡ None) is link_accepted.accepted) leads is_file to adds);
          }
