-- What nodes are, by what was seen of them.
use Rattle.std.proofs.Common.{◌≡◌, ◌≢◌, ℕ, ◌<◌, ◌≤◌, ◌==◌, List, length, Option, None, Some, option_map, option_and_then, refl, sym, ap, ◌∙◌, subst, ◌⊎◌, inl, inr, IfSome, IfNone}
use Rattle.std.proofs.lemmas.Bool.{cases_lt}
use Rattle.std.proofs.lemmas.List.{get_or_past}
use Rattle.std.proofs.lemmas.Option.{none-some, same_Some}
use Rattle.base_types.specs.declared.layout.Layout.{Layout}
use Rattle.base_types.specs.Layouts.{slots_held}
use Rattle.layout_bytes.specs.declared.node.NodeKind.{NodeKind}
use Rattle.layout_bytes.specs.declared.node.NodeKind.TheVariants as kind
use Rattle.layout_bytes.specs.declared.slot.Slot.{Slot}
use Rattle.layout_bytes.specs.Bytes.{when}
use Rattle.layout_bytes.specs.Slot.{slots_in}
use Rattle.lang_tree.specs.Tree.{Bounds}
use Rattle.crash_stands.specs.Files.{FileNode, Files}
use Rattle.crash_stands.specs.Inodes.{ADir, AFile, inode_by, inode_of, inodes_of}
use Rattle.fs_check.specs.declared.damage.TreeDamage.{TreeDamage}
use Rattle.fs_check.specs.declared.damage.TreeDamage.TheVariants as damage
use Rattle.fs_check.specs.declared.looked.Looked.{Looked}
use Rattle.fs_check.specs.declared.looked.Looked.TheVariants.{Unused, Directory, Links}
use Rattle.fs_check.specs.Damage.{IsUnreadable, IsBroken, RepeatsName}
use Rattle.fs_check.specs.Looked.{seen, IsSeen, IsSeenAs, AreSeen}
use Rattle.fs_check.specs.Marks.{WasDir}
use Rattle.fs_check.specs.Slots.{IsBrokenIn, Repeats}

pub if_some : {X : Type 0} (o : Option X) (x : X) (P : X → Type 0) → o ≡ Some x → IfSome o P → P x
if_some None x P e h = absurd (none-some x e)
if_some (Some y) x P e h = subst P (same_Some y x e) h

some-none : {X : Type 0} (x : X) → Some x ≡ None → ⊥
some-none x e = none-some x (sym e)

pub if_none : {X : Type 0} (o : Option X) (P : Type 0) → o ≡ None → IfNone o P → P
if_none None P e h = h
if_none (Some y) P e h = absurd (some-none y e)

-- a directory of so many bytes
pub record IsDirOf (o : Option FileNode) (size : ℕ) : Type 0 where
  pub file : FileNode
  pub there : o ≡ Some file
  pub is_dir : file.kind ≡ kind.Dir
  pub link : file.links ≡ 1
  pub long : length file.bytes ≡ size

same_size : (m n : ℕ) (look : Looked) → look ≡ Directory m → look ≡ Directory n → m ≡ n
same_size m n look e f = cc

seen_dir_as : (x : FileNode) (k : NodeKind) (look : Looked) (size : ℕ) → x.kind ≡ k → IsSeenAs k x look → look ≡ Directory size → IsDirOf (Some x) size
seen_dir_as x kind.Free look size is h e = absurd h
seen_dir_as x kind.Dir look size is h e = record { file = x; there = refl; is_dir = is; link = h.0; long = same_size (length x.bytes) size look h.1 e }
seen_dir_as x kind.File look size is h e = absurd cc
seen_dir_as x kind.Snapshot look size is h e = absurd cc

pub seen_dir : (o : Option FileNode) (look : Looked) (size : ℕ) → IsSeen o look → look ≡ Directory size → IsDirOf o size
seen_dir None look size h e = absurd cc
seen_dir (Some x) look size h e = seen_dir_as x x.kind look size refl h e

-- a file with so many links
pub record IsFileOf (o : Option FileNode) (links : ℕ) : Type 0 where
  pub file : FileNode
  pub there : o ≡ Some file
  pub is_file : file.kind ≡ kind.File
  pub as_many : file.links ≡ links

same_links : (m n : ℕ) (look : Looked) → look ≡ Links m → look ≡ Links n → m ≡ n
same_links m n look e f = cc

seen_file_as : (x : FileNode) (k : NodeKind) (look : Looked) (n : ℕ) → x.kind ≡ k → IsSeenAs k x look → look ≡ Links n → IsFileOf (Some x) n
seen_file_as x kind.Free look n is h e = absurd h
seen_file_as x kind.Dir look n is h e = let f = h.1 in absurd cc
seen_file_as x kind.File look n is h e = record { file = x; there = refl; is_file = is; as_many = same_links x.links n look h e }
seen_file_as x kind.Snapshot look n is h e = absurd cc

pub seen_file : (o : Option FileNode) (look : Looked) (n : ℕ) → IsSeen o look → look ≡ Links n → IsFileOf o n
seen_file None look n h e = absurd cc
seen_file (Some x) look n h e = seen_file_as x x.kind look n refl h e

-- what was seen as unused is no node, or a snapshot
seen_none_as : (x : FileNode) (k : NodeKind) (look : Looked) → x.kind ≡ k → IsSeenAs k x look → look ≡ Unused → x.kind ≡ kind.Snapshot
seen_none_as x kind.Free look is h e = absurd h
seen_none_as x kind.Dir look is h e = let f = h.1 in absurd cc
seen_none_as x kind.File look is h e = absurd cc
seen_none_as x kind.Snapshot look is h e = is

pub seen_none : (o : Option FileNode) (look : Looked) (x : FileNode) → IsSeen o look → look ≡ Unused → o ≡ Some x → x.kind ≡ kind.Snapshot
seen_none None look x h e at = absurd (none-some x at)
seen_none (Some y) look x h e at = ap (λ (f : FileNode). f.kind) (sym (same_Some y x at)) ∙ seen_none_as y y.kind look refl h e

pub dir_plain : (x : FileNode) → x.kind ≡ kind.Dir → x.kind ≢ kind.Snapshot
dir_plain x is not = cc

-- The inodes.

module _ (layout : Layout) where
  pub snapshot_inode : (x : FileNode) → x.kind ≡ kind.Snapshot → inode_of layout x ≡ None
  snapshot_inode x is = ap (λ k. inode_by layout k x.links x.bytes) is

  unused_inode : (o : Option FileNode) (look : Looked) → IsSeen o look → look ≡ Unused → option_and_then (inode_of layout) o ≡ None
  unused_inode None look h e = refl
  unused_inode (Some x) look h e = snapshot_inode x (seen_none (Some x) look x h e refl)

  pub inode_none : (files : Files) (nodes : List Looked) (k : ℕ) → AreSeen files nodes → seen nodes k ≡ Unused → inodes_of layout files k ≡ None
  inode_none files nodes k h e = unused_inode (files k) (seen nodes k) (h k) e

  file_inode : (x : FileNode) → x.kind ≡ kind.File → inode_of layout x ≡ Some (AFile x.links x.bytes)
  file_inode x is = ap (λ k. inode_by layout k x.links x.bytes) is

  pub inode_file : (files : Files) (nodes : List Looked) (k n : ℕ) → AreSeen files nodes → seen nodes k ≡ Links n → (bytes : List ℕ) × (inodes_of layout files k ≡ Some (AFile n bytes))
  inode_file files nodes k n h e =
      let f = seen_file (files k) (seen nodes k) n (h k) e in
      (f.file.bytes, ap (option_and_then (inode_of layout)) f.there ∙ file_inode f.file f.is_file ∙ ap (λ l. Some (AFile l f.file.bytes)) f.as_many)

  dir_inode : (x : FileNode) → x.kind ≡ kind.Dir → x.links ≡ 1 → inode_of layout x ≡ option_map ADir (slots_in layout (slots_held layout (length x.bytes)) x.bytes)
  dir_inode x is link =
      ap (λ k. inode_by layout k x.links x.bytes) is ∙ ap (λ l. when (l == 1) (option_map ADir (slots_in layout (slots_held layout (length x.bytes)) x.bytes))) link

  -- its bytes were read as these slots, or as none
  abbrev pub WereRead : Files → ℕ → ℕ → Option (List Slot) → Type 0
  WereRead files dir size found = (x : FileNode) → files dir ≡ Some x → x.kind ≡ kind.Dir → length x.bytes ≡ size → found ≡ slots_in layout (slots_held layout size) x.bytes

  read_inode : (files : Files) (nodes : List Looked) (dir size : ℕ) (found : Option (List Slot)) → AreSeen files nodes → seen nodes dir ≡ Directory size → WereRead files dir size found
      → (x : FileNode) × (files dir ≡ Some x) × (inode_of layout x ≡ option_map ADir found)
  read_inode files nodes dir size found h e reads =
      let d = seen_dir (files dir) (seen nodes dir) size (h dir) e in
      (d.file, d.there, dir_inode d.file d.is_dir d.link ∙ ap (λ n. option_map ADir (slots_in layout (slots_held layout n) d.file.bytes)) d.long ∙ ap (option_map ADir) (sym (reads d.file d.there d.is_dir d.long)))

  pub dir_some : {V : Type 0} (o : Option V) (v : V) (items : V → List Slot) (files : Files) (nodes : List Looked) (dir size : ℕ) → AreSeen files nodes → seen nodes dir ≡ Directory size → WereRead files dir size (option_map items o) → o ≡ Some v
      → inodes_of layout files dir ≡ Some (ADir (items v))
  dir_some o v items files nodes dir size h e reads is =
      let r = read_inode files nodes dir size (option_map items o) h e reads in
      ap (option_and_then (inode_of layout)) r.1 ∙ r.2 ∙ ap (λ p. option_map ADir (option_map items p)) is

  pub dir_none : {V : Type 0} (o : Option V) (items : V → List Slot) (files : Files) (nodes : List Looked) (dir size : ℕ) → AreSeen files nodes → seen nodes dir ≡ Directory size → WereRead files dir size (option_map items o) → o ≡ None
      → IsUnreadable layout files dir
  dir_none o items files nodes dir size h e reads is =
      let r = read_inode files nodes dir size (option_map items o) h e reads in
      let d = seen_dir (files dir) (seen nodes dir) size (h dir) e in
      record {
        file = r.0;
        used = r.1;
        plain = dir_plain r.0 (ap (λ (f : FileNode). f.kind) (same_Some r.0 d.file (sym r.1 ∙ d.there)) ∙ d.is_dir);
        unread = r.2 ∙ ap (λ p. option_map ADir (option_map items p)) is;
      }

pub dir_used : (files : Files) (nodes : List Looked) (dir size : ℕ) → AreSeen files nodes → seen nodes dir ≡ Directory size → (x : FileNode) × (files dir ≡ Some x)
dir_used files nodes dir size h e = let d = seen_dir (files dir) (seen nodes dir) size (h dir) e in (d.file, d.there)

-- what is a directory was seen as one
not_file : (l : ℕ) (bytes : List ℕ) (slots : List Slot) → Some (AFile l bytes) ≡ Some (ADir slots) → ⊥
not_file l bytes slots e = cc

module _ (layout : Layout) where
  was_dir_as : (files : Files) (nodes : List Looked) (k : ℕ) (slots : List Slot) (look : Looked) → AreSeen files nodes → seen nodes k ≡ look → inodes_of layout files k ≡ Some (ADir slots) → WasDir nodes k
  was_dir_as files nodes k slots Unused h e is = absurd (none-some (ADir slots) (sym (inode_none layout files nodes k h e) ∙ is))
  was_dir_as files nodes k slots (Directory size) h e is = (size, e)
  was_dir_as files nodes k slots (Links n) h e is = let f = inode_file layout files nodes k n h e in absurd (not_file n f.0 slots (sym f.1 ∙ is))

  pub was_dir : (files : Files) (nodes : List Looked) (k : ℕ) (slots : List Slot) → AreSeen files nodes → inodes_of layout files k ≡ Some (ADir slots) → WasDir nodes k
  was_dir files nodes k slots h is = was_dir_as files nodes k slots (seen nodes k) h refl is

-- what was seen has a place
inside : (nodes : List Looked) (k : ℕ) → (k < length nodes) ⊎ (length nodes ≤ k) → seen nodes k ≢ Unused → k < length nodes
inside nodes k (inl low) h = low
inside nodes k (inr high) h = absurd (h (get_or_past nodes k Unused high))

pub seen_inside : (nodes : List Looked) (k : ℕ) → seen nodes k ≢ Unused → k < length nodes
seen_inside nodes k h = inside nodes k (cases_lt k (length nodes)) h

dir_not_unused : (look : Looked) (size : ℕ) → look ≡ Directory size → look ≢ Unused
dir_not_unused look size e f = cc

pub dir_inside : (nodes : List Looked) (k : ℕ) → WasDir nodes k → k < length nodes
dir_inside nodes k d = seen_inside nodes k (dir_not_unused (seen nodes k) d.0 d.1)

-- What is broken in one directory is broken.

pub repeats_name : (layout : Layout) (files : Files) (dir place : ℕ) (slots : List Slot) → inodes_of layout files dir ≡ Some (ADir slots) → Repeats slots place → RepeatsName (inodes_of layout files) dir place
repeats_name layout files dir place slots is r = record {
  slot = r.slot;
  has = record { slots = slots; is_dir = is; at = r.at };
  earlier = r.earlier;
  before = r.before;
  other = r.other;
  has_other = record { slots = slots; is_dir = is; at = r.at_other };
  same = r.same;
}

pub broken_in : (limit : Bounds) (files : Files) (nodes : List Looked) (dir : ℕ) (slots : List Slot) (why : TreeDamage) → AreSeen files nodes → inodes_of limit.layout files dir ≡ Some (ADir slots) → IsBrokenIn nodes dir slots why → IsBroken limit files why
broken_in limit files nodes dir slots damage.NoRoot h is b = absurd b
broken_in limit files nodes dir slots (damage.Unreadable node) h is b = absurd b
broken_in limit files nodes dir slots (damage.NamesRoot d place) h is b =
    record { slot = b.1.slot; has = record { slots = slots; is_dir = ap (inodes_of limit.layout files) b.0 ∙ is; at = b.1.at }; root = b.1.names }
broken_in limit files nodes dir slots (damage.NamesUnused d place) h is b =
    record { slot = b.1.slot; has = record { slots = slots; is_dir = ap (inodes_of limit.layout files) b.0 ∙ is; at = b.1.at }; unused = inode_none limit.layout files nodes b.1.slot.node h b.1.unused }
broken_in limit files nodes dir slots (damage.RepeatsName d place) h is b = repeats_name limit.layout files d place slots (ap (inodes_of limit.layout files) b.0 ∙ is) b.1
broken_in limit files nodes dir slots (damage.NotNamedOnce node) h is b = absurd b
broken_in limit files nodes dir slots (damage.WrongLinks node) h is b = absurd b
broken_in limit files nodes dir slots (damage.Unreached node) h is b = absurd b
