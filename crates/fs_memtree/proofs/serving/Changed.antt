-- The inode map after a node of those that are kept changed, came or went.
use Rattle.std.proofs.Common.{◌≡◌, ℕ, ◌-◌, ◌==◌, Bool, true, false, if◌then◌else◌, List, Option, Some, None, option_map, option_and_then, refl, sym, ap, ◌∙◌, ◌⊎◌, inl, inr, arith}
use Rattle.std.proofs.lemmas.Bool.{cases_eq}
use Rattle.std.specs.Cmp.{nat_cmp_total}
use Rattle.std.specs.FinMap.{nat_cmp-IsAntisymmetric, get, insert, remove}
use Rattle.std.proofs.lemmas.Bool.Decides.{nat_tests}
use Rattle.std.proofs.lemmas.Grind.{common_steps}
use Rattle.layout_bytes.specs.declared.slot.Slot.{Slot}
use Rattle.crash_stands.specs.Inodes.{Inodes, ADir, AFile}
use Rattle.crash_stands.specs.Walks.{entry_in}
use Rattle.fs_inodes.specs.Changes.{one_link_less, HasUnder}
use Rattle.fs_memtree.specs.Kept.{DirNames, Kept, KeptDir, KeptFile, KeptNodes, map_of, inode_of, slots_for, changed_at, put_changed, without_link, less_by, with_name, without_name}
use Rattle.fs_memtree.proofs.keys.Keys.{name_total, name_same, put_here, put_other, gone_here, gone_other, put_twice, put_same, taken_back}
use Rattle.fs_memtree.proofs.maps.Slots.{under_name, slots_distinct}

-- What a map says of the nodes.

dir_of : (o : Option Kept) (slots : List Slot) → option_map inode_of o ≡ Some (ADir slots) → (names : DirNames) × (o ≡ Some (KeptDir names))
dir_of None slots e = absurd cc
dir_of (Some (KeptDir names)) slots e = (names, refl)
dir_of (Some (KeptFile links bytes)) slots e = absurd cc

pub kept_dir : (nodes : KeptNodes) (k : ℕ) (slots : List Slot) → map_of nodes k ≡ Some (ADir slots) → (names : DirNames) × (get nodes k ≡ Some (KeptDir names))
kept_dir nodes k slots e = dir_of (get nodes k) slots e

file_of : (o : Option Kept) (links : ℕ) (bytes : List ℕ) → option_map inode_of o ≡ Some (AFile links bytes) → o ≡ Some (KeptFile links bytes)
file_of o links bytes e = grind (arith, nat_tests)

pub kept_file : (nodes : KeptNodes) (k links : ℕ) (bytes : List ℕ) → map_of nodes k ≡ Some (AFile links bytes) → get nodes k ≡ Some (KeptFile links bytes)
kept_file nodes k links bytes e = file_of (get nodes k) links bytes e

pub mapped : (nodes : KeptNodes) (k : ℕ) (x : Kept) → get nodes k ≡ Some x → map_of nodes k ≡ Some (inode_of x)
mapped nodes k x e = ap (option_map inode_of) e

-- One node.

module _ (nodes : KeptNodes) (k : ℕ) where
  -- a changed node
  pub changed_here : (change : Kept → Kept) (x : Kept) → get nodes k ≡ Some x → get (changed_at nodes k change) k ≡ Some (change x)
  changed_here change x is = ap (λ o. get (put_changed nodes k change o) k) is ∙ put_here nat_cmp_total nat_cmp-IsAntisymmetric nodes k (change x) k refl

  -- and another one
  pub changed_other : (change : Kept → Kept) (l : ℕ) → (l ≡ k → ⊥) → get (changed_at nodes k change) l ≡ get nodes l
  changed_other change l off = by (get nodes k)
    where
      by : (o : Option Kept) → get (put_changed nodes k change o) l ≡ get nodes l
      by None = refl
      by (Some x) = put_other nat_cmp_total nat_cmp-IsAntisymmetric nodes k (change x) l off

  -- a node with one link less
  pub less_here : map_of (without_link nodes k) k ≡ option_and_then one_link_less (map_of nodes k)
  less_here = by (get nodes k) refl
    where
      last : (b : Bool) (links : ℕ) (bytes : List ℕ) → option_map inode_of (get (if b then remove nodes k else insert nodes k (KeptFile (links - 1) bytes)) k) ≡ (if b then None else Some (AFile (links - 1) bytes))
      last true links bytes = ap (option_map inode_of) (gone_here nat_cmp_total nat_cmp-IsAntisymmetric nodes k k refl)
      last false links bytes = ap (option_map inode_of) (put_here nat_cmp_total nat_cmp-IsAntisymmetric nodes k (KeptFile (links - 1) bytes) k refl)

      by : (o : Option Kept) → get nodes k ≡ o → option_map inode_of (get (less_by nodes k o) k) ≡ option_and_then one_link_less (option_map inode_of o)
      by o e = grind (arith, nat_tests, gone_here, nat_cmp-IsAntisymmetric, last)

  -- and another one
  pub less_other : (l : ℕ) → (l ≡ k → ⊥) → get (without_link nodes k) l ≡ get nodes l
  less_other l off = by (get nodes k)
    where
      last : (b : Bool) (links : ℕ) (bytes : List ℕ) → get (if b then remove nodes k else insert nodes k (KeptFile (links - 1) bytes)) l ≡ get nodes l
      last true links bytes = gone_other nat_cmp_total nat_cmp-IsAntisymmetric nodes k l off
      last false links bytes = put_other nat_cmp_total nat_cmp-IsAntisymmetric nodes k (KeptFile (links - 1) bytes) l off

      by : (o : Option Kept) → get (less_by nodes k o) l ≡ get nodes l
      by None = refl
      by (Some (KeptDir names)) = gone_other nat_cmp_total nat_cmp-IsAntisymmetric nodes k l off
      by (Some (KeptFile links bytes)) = last (links == 1) links bytes

-- One directory.

module _ (m new : Inodes) (k : ℕ) (names : DirNames) (name : List ℕ) (dir : m k ≡ Some (ADir (slots_for names))) where
  -- a name that came
  abbrev pub has_put : (n : ℕ) → new k ≡ Some (ADir (slots_for (insert names name n))) → HasUnder m new k name (Some n)
  has_put n now = record {
    slots = slots_for names;
    dir = dir;
    after = slots_for (insert names name n);
    now = now;
    here = under_name (insert names name n) name ∙ put_here name_total name_same names name n name refl;
    others = λ b off. under_name (insert names name n) b ∙ put_other name_total name_same names name n b off ∙ sym (under_name names b);
    distinct = slots_distinct (insert names name n);
  }

  -- a name that went
  abbrev pub has_taken : new k ≡ Some (ADir (slots_for (remove names name))) → HasUnder m new k name None
  has_taken now = record {
    slots = slots_for names;
    dir = dir;
    after = slots_for (remove names name);
    now = now;
    here = under_name (remove names name) name ∙ gone_here name_total name_same names name name refl;
    others = λ b off. under_name (remove names name) b ∙ gone_other name_total name_same names name b off ∙ sym (under_name names b);
    distinct = slots_distinct (remove names name);
  }

-- a number that no node has is that of none after a change of a node
pub none_kept : (nodes : KeptNodes) (k n : ℕ) (change : Kept → Kept) → get nodes n ≡ None → get (changed_at nodes k change) n ≡ None
none_kept nodes k n change none = by (cases_eq n k)
  where
    by : (n ≡ k) ⊎ (n ≡ k → ⊥) → get (changed_at nodes k change) n ≡ None
    by (inl e) = ap (λ o. get (put_changed nodes k change o) n) (ap (get nodes) (sym e) ∙ none) ∙ none
    by (inr off) = changed_other nodes k change n off ∙ none

-- A name that was put in and is taken out again leaves the nodes as they were.

put_back : (nodes : KeptNodes) (k : ℕ) (x y : Kept) → get nodes k ≡ Some x → y ≡ x → (z : Kept) → insert (insert nodes k z) k y ≡ nodes
put_back nodes k x y is same z = put_twice nat_cmp_total nat_cmp-IsAntisymmetric nodes k z y ∙ ap (insert nodes k) same ∙ put_same nat_cmp_total nat_cmp-IsAntisymmetric nodes k x is

pub undone : (nodes : KeptNodes) (k n : ℕ) (name : List ℕ) → entry_in (map_of nodes k) name ≡ None → changed_at (changed_at nodes k (with_name name n)) k (without_name name) ≡ nodes
undone nodes k n name free = grind (arith, common_steps, put_here, nat_cmp-IsAntisymmetric, put_back, taken_back, name_total, name_same, under_name)
