-- What is known of a name that may go, and what the tree makes of it.
use Rattle.std.proofs.Common.{◌≡◌, ℕ, zero, suc, ◌+◌, ◌^◌, ◌==◌, ◌≤◌, nat_lt, Bool, true, false, List, [], ◌∷◌, ◌++◌, length, slice_get, if◌then◌else◌, Option, None, Some, option_and_then, Ok, Err, refl, sym, subst, ap, ap₂, ◌∙◌, arith}
use Rattle.std.proofs.lemmas.Bool.{true≢false, lt-ltb}
use Rattle.std.proofs.lemmas.Option.{same_Some}
use Rattle.base_types.specs.declared.layout.Layout.{Layout}
use Rattle.lang_tree.specs.declared.command.Cmd.TheVariants.{Unlink, Rmdir}
use Rattle.lang_tree.specs.declared.command.Kind.{Kind}
use Rattle.lang_tree.specs.declared.command.Kind.TheVariants.{Dir, File}
use Rattle.lang_tree.specs.declared.command.Refusal.{Refusal}
use Rattle.lang_tree.specs.declared.command.Refusal.TheVariants.{IsDir, NotDir, NotEmpty, BelowItself}
use Rattle.lang_tree.specs.declared.command.Reply.TheVariants.{Ok as Done}
use Rattle.lang_tree.specs.Conditions.{refusal, when, first_reason}
use Rattle.lang_tree.specs.Figures.{removing, release, blocks_for}
use Rattle.lang_tree.specs.Sharing.{BlocksAlone, SharedNodes, alone_from, shared_at}
use Rattle.lang_tree.specs.Step.{Session, step, answered, changes_snapshots}
use Rattle.lang_tree.specs.Tree.{Snapshots, Bounds}
use Rattle.lang_tree.specs.Walk.{refusal_in}
use Rattle.crash_stands.specs.Files.{FileNode, Files}
use Rattle.crash_stands.specs.Inodes.{Inode, Inodes, ADir, AFile, inodes_of}
use Rattle.crash_stands.specs.Maps.{IsMapOf}
use Rattle.crash_stands.specs.Walks.{LeadsTo}
use Rattle.fs_inodes.specs.Changes.{slot_of, TakesSlot}
use Rattle.fs_inodes.specs.Figures.{accepted_cost_over, blocks_lost, slots_above}
use Rattle.fs_inodes.specs.Lookups.{is_dir_inode, is_file_inode, has_slots, links_in, bytes_of, walk_on, inode_at, number_at}
use Rattle.fs_inodes.specs.Refusals.{reason, walk_reason}
use Rattle.fs_files.specs.declared.look.FileFacts.{FileFacts}
use Rattle.fs_files.specs.Calls.{facts_of, is_dir}
use Rattle.fs_commands.specs.declared.paths.Entry.{Entry}
use Rattle.fs_commands.specs.declared.paths.Spot.TheVariants.{Inside}
use Rattle.fs_commands.specs.declared.removing.Named.{Named}
use Rattle.fs_commands.specs.Figures.{HasFacts}
use Rattle.fs_commands.specs.Looks.{ComesTo, HasEntry, ShowsFacts}
use Rattle.fs_commands.specs.Removing.{IsLoss, IsNamed, KnowsLoss, lose_cmd, lose_reason}
use Rattle.fs_session.specs.NothingKept.{puts_no_bytes}
use Rattle.fs_commands.proofs.FirstReason.{no_reason, no_when}
use Rattle.fs_commands.proofs.Given.{EndsLaw, PlaceLaw}

-- What may go holds nothing.

pub file_bare : (i : Option Inode) → is_dir_inode i ≡ false → has_slots i ≡ false
file_bare None e = refl
file_bare (Some (ADir slots)) e = absurd (true≢false e)
file_bare (Some (AFile links bytes)) e = refl

pub accepted_bare : (kind : Kind) (m : Inodes) (path : List (List ℕ)) → lose_reason kind m path ≡ None → has_slots (inode_at m path) ≡ false
accepted_bare File m path e =
    let dir = no_reason (when (is_dir_inode (inode_at m path)) IsDir) [] (no_reason (walk_reason m path) (when (is_dir_inode (inode_at m path)) IsDir ∷ []) e).1 in
    file_bare (inode_at m path) (no_when (is_dir_inode (inode_at m path)) IsDir dir.0)
accepted_bare Dir m path e =
    let rest = no_reason (walk_reason m path) (when (is_file_inode (inode_at m path)) NotDir ∷ when (has_slots (inode_at m path)) NotEmpty ∷ when (length path == 0) BelowItself ∷ []) e in
    let held = no_reason (when (is_file_inode (inode_at m path)) NotDir) (when (has_slots (inode_at m path)) NotEmpty ∷ when (length path == 0) BelowItself ∷ []) rest.1 in
    no_when (has_slots (inode_at m path)) NotEmpty (no_reason (when (has_slots (inode_at m path)) NotEmpty) (when (length path == 0) BelowItself ∷ []) held.1).0

-- what a path comes to in a directory is a slot that names a node
pub entry_slot : (l : Layout) (files : Files) (dir count : ℕ) (name : List ℕ) (e : Entry) (h : HasEntry l files dir count name (Some e)) → PlaceLaw → slice_get h.slots e.place ≡ Some (slot_of e.node.number name)
entry_slot l files dir count name e h law =
    let r = law h.slots name e.place (sym h.place) in
    r.1 ∙ ap (λ n. Some (slot_of n name)) (sym (same_Some e.node.number r.0 (h.node ∙ r.2)))

pub named_entry : (l : Layout) (files : Files) (path : List (List ℕ)) (n : Named) (c : ComesTo l files path (Ok (Inside n.dir n.count (Some n.entry)))) → PlaceLaw → LeadsTo (inodes_of l files) path n.entry.node.number → (inode : Inode) → inodes_of l files n.entry.node.number ≡ Some inode → has_slots (inode_at (inodes_of l files) path) ≡ false → IsNamed l files c.1 n
named_entry l files path n c law leads inode shown bare =
    let h = c.4 in
    record {
      slots = h.slots;
      dir = h.dir;
      count = h.count;
      slot = entry_slot l files n.dir n.count c.1 n.entry h law;
      node = record { file = h.facts.0; is = h.facts.1; facts = h.facts.2 };
      inode = inode;
      shown = shown;
      bare = ap has_slots (sym (ap (option_and_then (inodes_of l files)) leads)) ∙ bare;
    }

-- The links and bytes at a path, from what is known of a node that holds nothing.
pub bare_facts : (m : Inodes) (path : List (List ℕ)) (f : FileFacts) → ShowsFacts m path f → has_slots (inode_at m path) ≡ false → HasFacts m path f.links f.size
bare_facts m path f shows bare = (sym shows.links, by (is_dir f.kind) refl)
  where
    no_bytes : (i : Option Inode) → is_dir_inode i ≡ true → 0 ≡ length (bytes_of i)
    no_bytes None e = refl
    no_bytes (Some (ADir slots)) e = refl
    no_bytes (Some (AFile links bytes)) e = absurd (true≢false (sym e))

    none : nat_lt 0 f.size ≡ false → f.size ≡ 0
    none e = zero_size f.size e
      where
        zero_size : (n : ℕ) → nat_lt 0 n ≡ false → n ≡ 0
        zero_size zero e = refl
        zero_size (suc n) e = absurd (true≢false (sym (lt-ltb 0 (suc n) (omega arith)) ∙ e))

    by : (b : Bool) → is_dir f.kind ≡ b → f.size ≡ length (bytes_of (inode_at m path))
    by true e = none (sym (shows.slots e) ∙ bare) ∙ no_bytes (inode_at m path) (shows.dir ∙ e)
    by false e = sym (shows.bytes e)

-- The figures.

-- they are those of a name less, with the blocks that go
pub accepted_removes : (kind : Kind) (bitmap : ℕ) (shared : SharedNodes) (alone : BlocksAlone) (limit : Bounds) (kept : Snapshots) (m : Inodes) (path : List (List ℕ)) (count gone : ℕ) → lose_reason kind m path ≡ None → count ≡ slots_above m path → gone ≡ blocks_lost shared m path
    → accepted_cost_over bitmap shared alone limit kept m (lose_cmd kind path) ≡ removing bitmap (release limit.layout count + gone)
accepted_removes File bitmap shared alone limit kept m path count gone accepted above lost = ap₂ (λ c g. removing bitmap (release limit.layout c + g)) (sym above) (sym lost)
accepted_removes Dir bitmap shared alone limit kept m path count gone accepted above lost =
    let none : gone ≡ 0 = lost ∙ nothing (inode_at m path) file in
    ap (λ n. removing bitmap n) {x = release limit.layout (slots_above m path)} {y = release limit.layout count + gone} (omega (arith, ap (release limit.layout) above, none))
  where
    file : is_file_inode (inode_at m path) ≡ false
    file =
        let rest = no_reason (walk_reason m path) (when (is_file_inode (inode_at m path)) NotDir ∷ when (has_slots (inode_at m path)) NotEmpty ∷ when (length path == 0) BelowItself ∷ []) accepted in
        no_when (is_file_inode (inode_at m path)) NotDir (no_reason (when (is_file_inode (inode_at m path)) NotDir) (when (has_slots (inode_at m path)) NotEmpty ∷ when (length path == 0) BelowItself ∷ []) rest.1).0

    either : (b : Bool) (n : ℕ) → (if b then n else n) ≡ n
    either true n = refl
    either false n = refl

    nothing : (i : Option Inode) → is_file_inode i ≡ false → (if links_in i == 1 then alone_from (shared_at shared (number_at m path)) 0 (blocks_for (length (bytes_of i))) else 0) ≡ 0
    nothing None e = either (0 == 1) 0
    nothing (Some (ADir slots)) e = either (links_in (Some (ADir slots)) == 1) 0
    nothing (Some (AFile links bytes)) e = absurd (true≢false e)

-- What the tree makes of it.

pub reason_is : (l : Layout) (kind : Kind) (least : Option ℕ) (kept : Snapshots) (m : Inodes) (path : List (List ℕ)) → reason l least kept m (lose_cmd kind path) ≡ lose_reason kind m path
reason_is l File least kept m path = refl
reason_is l Dir least kept m path = refl

-- it puts no bytes into a file, and leaves the snapshots
pub lose_puts_none : (kind : Kind) (path : List (List ℕ)) → puts_no_bytes (lose_cmd kind path) ≡ true
lose_puts_none File path = refl
lose_puts_none Dir path = refl

pub lose_keeps : (kind : Kind) (path : List (List ℕ)) → changes_snapshots (lose_cmd kind path) ≡ false
lose_keeps File path = refl
lose_keeps Dir path = refl

pub loss_done : (kind : Kind) (f : Session) (path : List (List ℕ)) → refusal f.limit f.tree (lose_cmd kind path) ≡ None → (step f (lose_cmd kind path)).1 ≡ Done
loss_done File f path e = ap (λ r. (answered f (Unlink path) r).1) e
loss_done Dir f path e = ap (λ r. (answered f (Rmdir path) r).1) e

-- where one slot goes, and a link of its node, the map is that of the tree
abbrev pub LossLaw : Kind → Type 0
LossLaw kind = (s : Session) (m new : Inodes) (up : List (List ℕ)) (name : List ℕ) (dir node : ℕ) → IsMapOf s.limit.nodes m s.tree → refusal s.limit s.tree (lose_cmd kind (up ++ name ∷ [])) ≡ None
    → LeadsTo m up dir → TakesSlot m new dir node name → IsMapOf s.limit.nodes new (step s (lose_cmd kind (up ++ name ∷ []))).0.tree

pub law_of : (kind : Kind) → LossLaw File → LossLaw Dir → LossLaw kind
law_of File unlink rmdir = unlink
law_of Dir unlink rmdir = rmdir

pub loss_mapped : (kind : Kind) → LossLaw kind → (f : Session) (m new : Inodes) (path up : List (List ℕ)) (name : List ℕ) (dir node : ℕ) → path ≡ up ++ name ∷ [] → IsMapOf f.limit.nodes m f.tree → refusal f.limit f.tree (lose_cmd kind path) ≡ None
    → LeadsTo m up dir → TakesSlot m new dir node name → IsMapOf f.limit.nodes new (step f (lose_cmd kind path)).0.tree
loss_mapped kind law f m new path up name dir node is map accepted leads takes =
    subst (λ p. IsMapOf f.limit.nodes new (step f (lose_cmd kind p)).0.tree) (sym is)
    (law f m new up name dir node map (ap (λ p. refusal f.limit f.tree (lose_cmd kind p)) (sym is) ∙ accepted) leads takes)

-- What is known of what goes.
pub known_loss : (kind : Kind) (l : Layout) (files : Files) (path : List (List ℕ)) (n : Named) → (loss : IsLoss kind l files path n) → PlaceLaw → EndsLaw
    → n.count ≡ slots_above (inodes_of l files) path → (leads : LeadsTo (inodes_of l files) path n.entry.node.number) → (inode : Inode) → inodes_of l files n.entry.node.number ≡ Some inode → ((x : FileNode) → files n.entry.node.number ≡ Some x → ShowsFacts (inodes_of l files) path (facts_of x))
    → ((x : FileNode) → files n.entry.node.number ≡ Some x → length x.bytes + 1024 ≤ 2 ^ 30) → KnowsLoss kind l files path n
known_loss kind l files path n loss place ends above leads inode shown shows fits =
    let c = loss.comes in
    let bare = accepted_bare kind (inodes_of l files) path loss.accepted in
    let x = c.4.facts in
    record {
      up = c.0;
      name = c.1;
      is = c.2;
      leads = ends (inodes_of l files) c.0 n.dir c.3;
      named = named_entry l files path n c place leads inode shown bare;
      above = above;
      to_node = leads;
      facts = bare_facts (inodes_of l files) path n.entry.node.facts (subst (λ (f : FileFacts). ShowsFacts (inodes_of l files) path f) (sym x.2) (shows x.0 x.1)) bare;
      small = omega (arith, fits x.0 x.1, ap (λ (f : FileFacts). f.size) x.2);
      accepted = loss.accepted;
    }

-- Why it is refused.

-- a path that leads nowhere
pub walk_why : (kind : Kind) (m : Inodes) (path : List (List ℕ)) (why : Refusal) → walk_on m 1 path ≡ Err why → lose_reason kind m path ≡ Some why
walk_why File m path why e = ap (λ r. first_reason (refusal_in r ∷ when (is_dir_inode (inode_at m path)) IsDir ∷ [])) e
walk_why Dir m path why e = ap (λ r. first_reason (refusal_in r ∷ when (is_file_inode (inode_at m path)) NotDir ∷ when (has_slots (inode_at m path)) NotEmpty ∷ when (length path == 0) BelowItself ∷ [])) e
