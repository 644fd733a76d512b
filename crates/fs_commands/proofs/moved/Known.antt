-- What a rename that was found, and that the tree accepts, is: the two names, where they stand, and that its draft may begin.
use Rattle.std.proofs.Common.{◌≡◌, ◌≢◌, ℕ, ◌+◌, ◌^◌, ◌≤◌, ◌&&◌, if◌then◌else◌, Bool, IsTrue, true, false, not, List, [], ◌∷◌, ◌++◌, length, is_some, Option, None, Some, option_map, option_and_then, IfSome, Ok, refl, sym, subst, ap, ap₂, ◌∙◌, arith}
use Rattle.std.proofs.lemmas.Bool.{true≢false, ne_eqb}
use Rattle.std.proofs.lemmas.Option.{same_Some}
use Rattle.base_types.specs.declared.layout.Layout.{Layout}
use Rattle.lang_tree.specs.declared.command.Refusal.{Refusal}
use Rattle.lang_tree.specs.declared.command.Refusal.TheVariants.{NotDir, IsDir, NotEmpty, BelowItself, NameTooLong}
use Rattle.lang_tree.specs.Conditions.{when}
use Rattle.lang_tree.specs.Paths.{is_below, is_too_long}
use Rattle.lang_tree.specs.Walk.{are_same}
use Rattle.crash_stands.specs.Files.{FileNode, Files}
use Rattle.crash_stands.specs.Inodes.{Inode, Inodes, inodes_of}
use Rattle.crash_stands.specs.Walks.{LeadsTo}
use Rattle.fs_inodes.specs.Changes.{slot_of}
use Rattle.fs_inodes.specs.Figures.{slots_above}
use Rattle.fs_inodes.specs.Lookups.{number_at, inode_at, is_dir_inode, is_file_inode, has_slots}
use Rattle.fs_inodes.specs.Refusals.{rename_reason, onto_reason, walk_reason, parent_reason}
use Rattle.engine_blocks.specs.State.{State}
use Rattle.fs_files.specs.declared.look.FileFacts.{FileFacts}
use Rattle.fs_files.specs.Calls.{files_in, is_dir}
use Rattle.fs_files.specs.Drafts.{nothing_drafted}
use Rattle.fs_files.specs.Effects.{LooksOnly}
use Rattle.fs_snapshots.specs.Nodes.{same_slots}
use Rattle.fs_commands.specs.declared.paths.Entry.{Entry}
use Rattle.fs_commands.specs.declared.paths.Spot.{Spot}
use Rattle.fs_commands.specs.declared.paths.Spot.TheVariants.{Inside}
use Rattle.fs_commands.specs.declared.removing.Named.{Named}
use Rattle.fs_commands.specs.Looks.{ComesTo, HasEntry, ShowsFacts, number_of}
use Rattle.fs_commands.specs.Moving.{HasNamed, IsMove, KnowsMove, LacksName, MayMoveOnto}
use Rattle.fs_commands.specs.Removing.{IsFound}
use Rattle.fs_commands.specs.Figures.{HasFacts}
use Rattle.fs_session.specs.Sessions.{inodes}
use Rattle.fs_commands.proofs.looking.Found.{over_same}
use Rattle.fs_commands.proofs.removed.Accepted.{bare_facts, file_bare}
use Rattle.fs_commands.proofs.removed.Slots.{apart}
use Rattle.fs_commands.proofs.FirstReason.{no_reason, no_when}
use Rattle.fs_commands.proofs.Given.{EndsLaw, PlaceLaw}

-- an entry that was found
pub entry_named : (l : Layout) (files : Files) (name : List ℕ) (n : Named) → PlaceLaw → HasEntry l files n.dir n.count name (Some n.entry) → HasNamed (inodes_of l files) name n
entry_named l files name n law h =
    let at = law h.slots name n.entry.place (sym h.place) in
    record {
      slots = h.slots;
      dir = h.dir;
      count = h.count;
      first = sym h.place;
      slot = at.1 ∙ ap (λ k. Some (slot_of k name)) (same_Some at.0 n.entry.node.number (sym at.2 ∙ sym h.node));
      node = sym h.node;
    }

-- one that isn't there
pub entry_lacks : (l : Layout) (files : Files) (name : List ℕ) (dir count : ℕ) → HasEntry l files dir count name None → LacksName (inodes_of l files) name dir count
entry_lacks l files name dir count h = record { slots = h.slots; dir_is = h.dir; many_are = h.count; none = sym h.place; nothing = sym h.node }

pub entry_found : (l : Layout) (files : Files) (dir count : ℕ) (name : List ℕ) (e : Entry) → HasEntry l files dir count name (Some e) → IsFound files e.node
entry_found l files dir count name e h = record { file = h.facts.0; is = h.facts.1; facts = h.facts.2 }

-- two paths that end alike have the same last name
pub last_same : (a b : List (List ℕ)) (x y : List ℕ) → a ++ x ∷ [] ≡ b ++ y ∷ [] → (a ≡ b) × (x ≡ y)
last_same [] [] x y e = (refl, cc)
last_same [] (q ∷ []) x y e = absurd cc
last_same [] (q ∷ r ∷ b) x y e = absurd cc
last_same (p ∷ []) [] x y e = absurd cc
last_same (p ∷ q ∷ a) [] x y e = absurd cc
last_same (p ∷ a) (q ∷ b) x y e =
    let rest : a ++ x ∷ [] ≡ b ++ y ∷ [] = cc in
    let here : p ≡ q = cc in
    let t = last_same a b x y rest in
    (ap₂ (λ h l. h ∷ l) here t.0, t.1)

-- why a rename that the tree accepts between two nodes may come onto the second one
onto_accepted : (l : Layout) (m : Inodes) (from to : List (List ℕ)) → rename_reason l m from to ≡ None → are_same (number_at m from) (number_at m to) ≡ false → onto_reason m from to ≡ None
onto_accepted l m from to none apart =
    let rest : List (Option Refusal) = (if are_same (number_at m from) (number_at m to) then None else onto_reason m from to) ∷ when (is_too_long l to) NameTooLong ∷ [] in
    let r = no_reason (walk_reason m from) (parent_reason m to ∷ rest) none in
    let q = no_reason (parent_reason m to) rest r.1 in
    let p = no_reason (if are_same (number_at m from) (number_at m to) then None else onto_reason m from to) (when (is_too_long l to) NameTooLong ∷ []) q.1 in
    sym (ap (λ b. if b then None else onto_reason m from to) apart) ∙ p.0

-- what it comes onto has no slots
onto_bare : (m : Inodes) (from to : List (List ℕ)) (a b : FileFacts) → ShowsFacts m from a → ShowsFacts m to b → onto_reason m from to ≡ None → has_slots (inode_at m to) ≡ false
onto_bare m from to a b x y none = by (is_dir a.kind) (is_dir b.kind) x.dir x.file y.dir y.file
  where
    no_dir : Bool
    no_dir = is_dir_inode (inode_at m from) && is_file_inode (inode_at m to)

    no_file : Bool
    no_file = is_file_inode (inode_at m from) && is_dir_inode (inode_at m to)

    full : Bool
    full = is_dir_inode (inode_at m from) && (is_dir_inode (inode_at m to) && has_slots (inode_at m to))

    below : Option Refusal
    below = when (is_dir_inode (inode_at m from) && is_below from to) BelowItself

    first : (no_dir ≡ false) × (no_file ≡ false) × (full ≡ false)
    first =
        let r = no_reason (when no_dir NotDir) (when no_file IsDir ∷ when full NotEmpty ∷ below ∷ []) none in
        let q = no_reason (when no_file IsDir) (when full NotEmpty ∷ below ∷ []) r.1 in
        let p = no_reason (when full NotEmpty) (below ∷ []) q.1 in
        (no_when no_dir NotDir r.0, no_when no_file IsDir q.0, no_when full NotEmpty p.0)

    by : (p q : Bool) → is_dir_inode (inode_at m from) ≡ p → is_file_inode (inode_at m from) ≡ not p → is_dir_inode (inode_at m to) ≡ q → is_file_inode (inode_at m to) ≡ not q → has_slots (inode_at m to) ≡ false
    by p false c d e f = file_bare (inode_at m to) e
    by true true c d e f = sym (ap₂ (λ (x y : Bool). x && (y && has_slots (inode_at m to))) c e) ∙ first.2
    by false true c d e f = absurd (true≢false (sym (ap₂ (λ (x y : Bool). x && y) d e) ∙ first.1))

number_apart : (a : ℕ) (found : Option Entry) → IfSome found (λ e. e.node.number ≢ a) → are_same (Some a) (option_map (λ (e : Entry). e.node.number) found) ≡ false
number_apart a None d = refl
number_apart a (Some e) d = ne_eqb a e.node.number (λ same. d (sym same))

so_there : (found : Option Entry) → is_some (option_map (λ (e : Entry). e.node.number) found) ≡ is_some found
so_there None = refl
so_there (Some x) = refl

-- what a rename that the tree accepts comes upon
pub known_move : (l : Layout) (files : Files) (from to : List (List ℕ)) (source : Named) (into count : ℕ) (found : Option Entry) (other : List ℕ) → PlaceLaw → EndsLaw
    → ((path : List (List ℕ)) (spot : Spot) → ComesTo l files path (Ok spot) → number_at (inodes_of l files) path ≡ number_of spot)
    → ((path : List (List ℕ)) (dir count : ℕ) (entry : Option Entry) → ComesTo l files path (Ok (Inside dir count entry)) → count ≡ slots_above (inodes_of l files) path)
    → IsMove l files from to source into count found other → KnowsMove l files from to source into count found other
known_move l files from to source into count found other place ends number above move =
    let c = move.source_comes in
    let d = move.target_comes in
    let last = last_same d.0 move.last.0 d.1 other (sym d.2 ∙ move.last.1) in
    let here = number from (Inside source.dir source.count (Some source.entry)) c in
    let there = number to (Inside into count found) d in
    record {
      name = c.1;
      paths = record {
        up = c.0;
        from_is = c.2;
        source_leads = ends (inodes_of l files) c.0 source.dir c.3;
        above = d.0;
        to_is = d.2 ∙ ap (λ n. d.0 ++ n ∷ []) last.1;
        into_leads = ends (inodes_of l files) d.0 into d.3;
      };
      named = entry_named l files c.1 source place c.4;
      entry = subst (λ n. HasEntry l files into count n found) last.1 d.4;
      slots = above from source.dir source.count (Some source.entry) c;
      more = above to into count found d;
      apart = ap₂ are_same here there ∙ number_apart source.entry.node.number found move.apart;
      there = ap is_some there ∙ so_there found;
    }

-- it may come onto what is at the second path
pub known_onto : (s : State) (from to : List (List ℕ)) (source target : Named) (other : List ℕ) → PlaceLaw → (move : IsMove s.books.geom.layout (files_in s nothing_drafted) from to source target.dir target.count (Some target.entry) other)
    → (k : KnowsMove s.books.geom.layout (files_in s nothing_drafted) from to source target.dir target.count (Some target.entry) other)
    → ShowsFacts (inodes s) from source.entry.node.facts → ShowsFacts (inodes s) to target.entry.node.facts → number_at (inodes s) to ≡ Some target.entry.node.number → (inode : Inode) → inodes s target.entry.node.number ≡ Some inode
    → ((x : FileNode) → files_in s nothing_drafted target.entry.node.number ≡ Some x → length x.bytes + 1024 ≤ 2 ^ 30)
    → MayMoveOnto s source target k.name other × HasFacts (inodes s) to target.entry.node.facts.links target.entry.node.facts.size × (target.entry.node.facts.size ≤ 1073741824) × LeadsTo (inodes s) to target.entry.node.number
known_onto s from to source target other place move k a b there inode shown fits =
    let bare = onto_bare (inodes s) from to source.entry.node.facts target.entry.node.facts a b (onto_accepted s.books.geom.layout (inodes s) from to move.accepted k.apart) in
    let own : has_slots (inodes s target.entry.node.number) ≡ false = ap has_slots (sym (ap (option_and_then (inodes s)) there)) ∙ bare in
    let onto = entry_named s.books.geom.layout (files_in s nothing_drafted) other target place k.entry in
    let found = entry_found s.books.geom.layout (files_in s nothing_drafted) target.dir target.count other target.entry k.entry in (
      record {
        from = k.named;
        onto = onto;
        found = found;
        inode = inode;
        shown = shown;
        not_node = move.apart;
        not_from = apart (inodes s) source.dir target.entry.node.number source.entry.place k.named.slots (slot_of source.entry.node.number k.name) k.named.dir k.named.slot own;
        not_into = apart (inodes s) target.dir target.entry.node.number target.entry.place onto.slots (slot_of target.entry.node.number other) onto.dir onto.slot own;
      },
      bare_facts (inodes s) to target.entry.node.facts b bare,
      omega (arith, fits found.file found.is, ap (λ (f : FileFacts). f.size) found.facts),
      there,
    )

-- to a free name of the source's directory
same_count : (l : Layout) (files : Files) (dir a b : ℕ) (x y : List ℕ) (e f : Option Entry) → HasEntry l files dir a x e → HasEntry l files dir b y f → a ≡ b
same_count l files dir a b x y e f g h = g.count ∙ ap length (same_slots g.slots h.slots (sym g.dir ∙ h.dir)) ∙ sym h.count

pub move_within : (l : Layout) (files : Files) (from to : List (List ℕ)) (source : Named) (into count : ℕ) (other : List ℕ) → source.dir ≡ into → IsMove l files from to source into count None other → IsMove l files from to source source.dir source.count None other
move_within l files from to source into count other same move =
    let here = subst (λ k. IsMove l files from to source k count None other) (sym same) move in
    let equal = same_count l files source.dir count source.count here.target_comes.1 here.source_comes.1 None (Some source.entry) here.target_comes.4 here.source_comes.4 in
    subst (λ n. IsMove l files from to source source.dir n None other) equal here

-- what moves is there still behind reads
pub move_still : (tells : Bool) (s t : State) (from to : List (List ℕ)) (source : Named) (into count : ℕ) (found : Option Entry) (other : List ℕ) → LooksOnly tells false s t → IsTrue tells
    → IsMove s.books.geom.layout (files_in s nothing_drafted) from to source into count found other → IsMove t.books.geom.layout (files_in t nothing_drafted) from to source into count found other
move_still tells s t from to source into count found other looks told move = over_same tells s t looks told (λ l files. IsMove l files from to source into count found other) move
