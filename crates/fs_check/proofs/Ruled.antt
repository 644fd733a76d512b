-- The rules of a tree from what was found of each node, and the damage from what was found wrong.
use Rattle.std.proofs.Common.{◌≡◌, ◌≢◌, ℕ, zero, suc, ◌-◌, ◌^◌, ◌<◌, ◌≤◌, true, Bool, List, length, get_or, Some, option_and_then, slice_get, refl, sym, ap, ◌∙◌, arith, subst}
use Rattle.std.proofs.lemmas.Option.{none-some}
use Rattle.std.proofs.lemmas.Bool.{both_ways}
use Rattle.base_types.specs.declared.layout.Layout.{Layout}
use Rattle.layout_bytes.specs.declared.node.NodeKind.TheVariants.{Snapshot}
use Rattle.layout_bytes.specs.declared.slot.Slot.{Slot}
use Rattle.lang_tree.specs.Tree.{Bounds}
use Rattle.crash_stands.specs.Files.{FileNode, Files}
use Rattle.crash_stands.specs.Inodes.{Inode, ADir, AFile, AreDistinct, inode_of, inodes_of}
use Rattle.fs_inodes.specs.Links.{naming_from, slots_naming}
use Rattle.fs_snapshots.specs.Nodes.{same_slots}
use Rattle.fs_check.specs.declared.damage.TreeDamage.{TreeDamage}
use Rattle.fs_check.specs.declared.damage.TreeDamage.TheVariants as damage
use Rattle.fs_check.specs.declared.looked.Looked.{Looked}
use Rattle.fs_check.specs.declared.looked.Looked.TheVariants.{Unused, Directory, Links}
use Rattle.fs_check.specs.Damage.{IsBroken, IsUnreached, IsNotNamedOnce, HasWrongLinks}
use Rattle.fs_check.specs.Judged.{Agrees, Agree, IsWrong}
use Rattle.fs_check.specs.Looked.{seen, AreSeen, HasPlaces}
use Rattle.fs_check.specs.Marks.{has_mark, WasDir, AreReached}
use Rattle.fs_check.specs.Rules.{AreTreeFiles}
use Rattle.fs_check.specs.Slots.{capped, WentUpTo}
use Rattle.fs_check.proofs.Searching.{GoodSlots, good_slots}
use Rattle.fs_check.proofs.Seeing.{seen_none, inode_none, inode_file, was_dir, dir_inside, seen_inside}

capped_one : (n : ℕ) → capped n ≡ 1 → n ≡ 1
capped_one n e = omega arith

capped_few : (n links : ℕ) → capped n ≡ links → links < 2 ^ 32 → n ≡ links
capped_few n links e low = omega arith

capped_not_one : (n : ℕ) → capped n ≢ 1 → n ≢ 1
capped_not_one n h e = h (omega arith)

capped_not : (n links : ℕ) → capped n ≢ links → links < 2 ^ 32 → n ≢ links
capped_not n links h low e = h (omega arith)

-- what the check has found of all nodes, before it judged
pub record HasFound (limit : Bounds) (files : Files) (nodes : List Looked) (named : List ℕ) (marks : List Bool) : Type 0 where
  pub seen_all : AreSeen files nodes
  pub places : HasPlaces limit.nodes nodes
  pub went : WentUpTo nodes (inodes_of limit.layout files) (length nodes) named
  pub reached : AreReached (inodes_of limit.layout files) marks

good : (limit : Bounds) (files : Files) (nodes : List Looked) (named : List ℕ) (marks : List Bool) → HasFound limit files nodes named marks → (k : ℕ) → WasDir nodes k → GoodSlots nodes (inodes_of limit.layout files) k
good limit files nodes named marks h k d = good_slots nodes (inodes_of limit.layout files) k d (h.went.dirs k (dir_inside nodes k d))

used_as : (limit : Bounds) (files : Files) (nodes : List Looked) (named : List ℕ) (marks : List Bool) → HasFound limit files nodes named marks → (k : ℕ) (look : Looked) → seen nodes k ≡ look → look ≢ Unused → (x : Inode) × (inodes_of limit.layout files k ≡ Some x)
used_as limit files nodes named marks h k Unused e used = absurd (used refl)
used_as limit files nodes named marks h k (Directory size) e used = let g = good limit files nodes named marks h k (size, e) in (ADir g.slots, g.is_dir)
used_as limit files nodes named marks h k (Links n) e used = let f = inode_file limit.layout files nodes k n h.seen_all e in (AFile n f.0, f.1)

used_inode : (limit : Bounds) (files : Files) (nodes : List Looked) (named : List ℕ) (marks : List Bool) → HasFound limit files nodes named marks → (k : ℕ) → seen nodes k ≢ Unused → (x : Inode) × (inodes_of limit.layout files k ≡ Some x)
used_inode limit files nodes named marks h k used = used_as limit files nodes named marks h k (seen nodes k) refl used

-- an inode's node was seen
inode_used : (layout : Layout) (files : Files) (nodes : List Looked) (k : ℕ) (x : Inode) → AreSeen files nodes → inodes_of layout files k ≡ Some x → seen nodes k ≢ Unused
inode_used layout files nodes k x h is e = none-some x (sym (inode_none layout files nodes k h e) ∙ is)

reads_as : (limit : Bounds) (files : Files) (nodes : List Looked) (named : List ℕ) (marks : List Bool) → HasFound limit files nodes named marks → (k : ℕ) (file : FileNode) → files k ≡ Some file → file.kind ≢ Snapshot → (look : Looked) → seen nodes k ≡ look → (x : Inode) × (inode_of limit.layout file ≡ Some x)
reads_as limit files nodes named marks h k file at plain Unused e = absurd (plain (seen_none (files k) (seen nodes k) file (h.seen_all k) e at))
reads_as limit files nodes named marks h k file at plain (Directory size) e =
    let g = good limit files nodes named marks h k (size, e) in (ADir g.slots, sym (ap (option_and_then (inode_of limit.layout)) at) ∙ g.is_dir)
reads_as limit files nodes named marks h k file at plain (Links n) e =
    let f = inode_file limit.layout files nodes k n h.seen_all e in (AFile n f.0, sym (ap (option_and_then (inode_of limit.layout)) at) ∙ f.1)

-- the count of a node is how many slots name it
count_is : (limit : Bounds) (files : Files) (nodes : List Looked) (named : List ℕ) (marks : List Bool) → HasFound limit files nodes named marks → (k : ℕ) → k < length nodes → get_or named k 0 ≡ capped (slots_naming limit.nodes (inodes_of limit.layout files) k)
count_is limit files nodes named marks h k low =
    let n : length nodes - 1 ≡ limit.nodes = omega (arith, h.places.count) in
    h.went.counted k low ∙ ap (λ c. capped (naming_from (inodes_of limit.layout files) k 1 c)) n

agrees_at : (n : ℕ) (look other : Looked) (count : ℕ) (mark : Bool) → look ≡ other → Agrees n look count mark → Agrees n other count mark
agrees_at n look other count mark e a = subst (λ l. Agrees n l count mark) e a

marked_as : (n : ℕ) (look : Looked) (count : ℕ) (mark : Bool) → look ≢ Unused → Agrees n look count mark → mark ≡ true
marked_as n Unused count mark used a = absurd (used refl)
marked_as n (Directory size) count mark used a = a.0
marked_as n (Links l) count mark used a = a.0

not_both : (l : ℕ) (bytes : List ℕ) (slots : List Slot) → Some (ADir slots) ≡ Some (AFile l bytes) → ⊥
not_both l bytes slots e = cc

links_same : (l n : ℕ) (bytes more : List ℕ) → Some (AFile l bytes) ≡ Some (AFile n more) → l ≡ n
links_same l n bytes more e = cc

-- a file was seen as one
was_file : (limit : Bounds) (files : Files) (nodes : List Looked) (named : List ℕ) (marks : List Bool) → HasFound limit files nodes named marks → (k l : ℕ) (bytes : List ℕ) → inodes_of limit.layout files k ≡ Some (AFile l bytes) → (look : Looked) → seen nodes k ≡ look → seen nodes k ≡ Links l
was_file limit files nodes named marks h k l bytes is Unused e = absurd (inode_used limit.layout files nodes k (AFile l bytes) h.seen_all is e)
was_file limit files nodes named marks h k l bytes is (Directory size) e = absurd (not_both l bytes (good limit files nodes named marks h k (size, e)).slots (sym (good limit files nodes named marks h k (size, e)).is_dir ∙ is))
was_file limit files nodes named marks h k l bytes is (Links n) e =
    let f = inode_file limit.layout files nodes k n h.seen_all e in e ∙ ap Links (links_same n l f.0 bytes (sym f.1 ∙ is))

-- the rules hold
pub tree_files : (limit : Bounds) (files : Files) (nodes : List Looked) (named : List ℕ) (marks : List Bool) → HasFound limit files nodes named marks → WasDir nodes 1 → Agree nodes named marks (length nodes) → AreTreeFiles limit files
tree_files limit files nodes named marks h root agree = record {
  read = λ k file at plain. reads_as limit files nodes named marks h k file at plain (seen nodes k) refl;
  rules = record {
    root = let g = good limit files nodes named marks h 1 root in (g.slots, g.is_dir);
    within = λ k x is. (above k x is, omega (arith, place k x is, h.places.count));
    distinct = λ k slots is. let g = of_dir k slots is in subst AreDistinct (same_slots g.slots slots (sym g.is_dir ∙ is)) g.distinct;
    named = λ k i slots s is at. names k i slots s is at;
    dirs = λ k slots is other.
        let d = was_dir limit.layout files nodes k slots h.seen_all is in
        let low = dir_inside nodes k d in
        capped_one (slots_naming limit.nodes (inodes_of limit.layout files) k) (sym (count_is limit files nodes named marks h k low) ∙ (agrees_at k (seen nodes k) (Directory d.0) (get_or named k 0) (has_mark marks k) d.1 (agree k low)).1 other);
    links = λ k links bytes is.
        let e = was_file limit files nodes named marks h k links bytes is (seen nodes k) refl in
        let low = place k (AFile links bytes) is in
        let a = agrees_at k (seen nodes k) (Links links) (get_or named k 0) (has_mark marks k) e (agree k low) in
        capped_few (slots_naming limit.nodes (inodes_of limit.layout files) k) links (sym (count_is limit files nodes named marks h k low) ∙ a.1) a.2;
    reached = λ k x is. h.reached.paths k (marked_as k (seen nodes k) (get_or named k 0) (has_mark marks k) (inode_used limit.layout files nodes k x h.seen_all is) (agree k (place k x is)));
  };
}
  where
    place : (k : ℕ) (x : Inode) → inodes_of limit.layout files k ≡ Some x → k < length nodes
    place k x is = seen_inside nodes k (inode_used limit.layout files nodes k x h.seen_all is)

    above : (k : ℕ) (x : Inode) → inodes_of limit.layout files k ≡ Some x → 1 ≤ k
    above zero x is = absurd (inode_used limit.layout files nodes 0 x h.seen_all is h.places.zero)
    above (suc k) x is = omega arith

    of_dir : (k : ℕ) (slots : List Slot) → inodes_of limit.layout files k ≡ Some (ADir slots) → GoodSlots nodes (inodes_of limit.layout files) k
    of_dir k slots is = good limit files nodes named marks h k (was_dir limit.layout files nodes k slots h.seen_all is)

    names : (k i : ℕ) (slots : List Slot) (s : Slot) → inodes_of limit.layout files k ≡ Some (ADir slots) → slice_get slots i ≡ Some s → (s.node ≢ 1) × ((x : Inode) × (inodes_of limit.layout files s.node ≡ Some x))
    names k i slots s is at =
        let g = of_dir k slots is in
        let may = g.names i s (subst (λ ss. slice_get ss i ≡ Some s) (sym (same_slots g.slots slots (sym g.is_dir ∙ is))) at) in
        (may.other, used_inode limit files nodes named marks h s.node may.used)

-- What was found wrong is broken.
pub wrong_broken : (limit : Bounds) (files : Files) (nodes : List Looked) (named : List ℕ) (marks : List Bool) (why : TreeDamage) → HasFound limit files nodes named marks → IsWrong nodes named marks why → IsBroken limit files why
wrong_broken limit files nodes named marks damage.NoRoot h w = absurd w.2
wrong_broken limit files nodes named marks (damage.Unreadable node) h w = absurd w.2
wrong_broken limit files nodes named marks (damage.NamesRoot dir place) h w = absurd w.2
wrong_broken limit files nodes named marks (damage.NamesUnused dir place) h w = absurd w.2
wrong_broken limit files nodes named marks (damage.RepeatsName dir place) h w = absurd w.2
wrong_broken limit files nodes named marks (damage.NotNamedOnce node) h w =
    let e = w.2.0 in
    let d = w.2.1 in
    let g = good limit files nodes named marks h w.0 (d.size, d.is_dir) in
    subst (IsNotNamedOnce limit.nodes (inodes_of limit.layout files)) (sym e)
    (record { slots = g.slots; is_dir = g.is_dir; other = d.other; count = capped_not_one (slots_naming limit.nodes (inodes_of limit.layout files) w.0) (λ c. d.differ (count_is limit files nodes named marks h w.0 w.1 ∙ c)) })
wrong_broken limit files nodes named marks (damage.WrongLinks node) h w =
    let e = w.2.0 in
    let d = w.2.1 in
    let f = inode_file limit.layout files nodes w.0 d.links h.seen_all d.is_file in
    subst (HasWrongLinks limit.nodes (inodes_of limit.layout files)) (sym e)
    (record { links = d.links; bytes = f.0; is_file = f.1; count = capped_not (slots_naming limit.nodes (inodes_of limit.layout files) w.0) d.links (λ c. d.differ (count_is limit files nodes named marks h w.0 w.1 ∙ c)) d.few })
wrong_broken limit files nodes named marks (damage.Unreached node) h w =
    let e = w.2.0 in
    let u = w.2.1 in
    let x = used_inode limit files nodes named marks h w.0 u.0 in
    subst (IsUnreached (inodes_of limit.layout files)) (sym e)
    (record { inode = x.0; used = x.1; unreached = λ path leads. both_ways (has_mark marks w.0) u.1 (h.reached.others path w.0 leads) })

-- A root that wasn't seen as a directory is none.
pub no_root : (layout : Layout) (files : Files) (nodes : List Looked) → AreSeen files nodes → (WasDir nodes 1 → ⊥) → (slots : List Slot) → inodes_of layout files 1 ≢ Some (ADir slots)
no_root layout files nodes h none slots is = none (was_dir layout files nodes 1 slots h is)
