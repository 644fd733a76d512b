-- The directories that the check went through, one number more.
use Rattle.std.proofs.Common.{◌≡◌, ℕ, ◌+◌, ◌-◌, ◌<◌, ◌≤◌, List, [], length, get_or, refl, sym, ap, ◌∙◌, arith, subst, ◌⊎◌, inl, inr, ⊎_elim}
use Rattle.std.proofs.lemmas.Bool.{cases_lt}
use Rattle.std.proofs.lemmas.List.{get_or_past}
use Rattle.base_types.specs.declared.layout.Layout.{Layout}
use Rattle.layout_bytes.specs.declared.slot.Slot.{Slot}
use Rattle.crash_stands.specs.Files.{Files}
use Rattle.crash_stands.specs.Inodes.{Inodes, inodes_of}
use Rattle.fs_inodes.specs.Links.{naming, naming_from}
use Rattle.fs_inodes.specs.Lookups.{slots_of}
use Rattle.fs_check.specs.declared.looked.Looked.{Looked}
use Rattle.fs_check.specs.declared.looked.Looked.TheVariants.{Unused, Directory, Links}
use Rattle.fs_check.specs.Looked.{seen, AreSeen}
use Rattle.fs_check.specs.Slots.{capped, WentBy, WentUpTo, IsGoodDir}
use Rattle.fs_check.proofs.Counting.{naming_from-more, capped_sum}
use Rattle.fs_check.proofs.Seeing.{inode_none, inode_file}

unused_good : (nodes : List Looked) (m : Inodes) (d : ℕ) (look : Looked) → look ≡ Unused → IsGoodDir nodes m d look
unused_good nodes m d Unused e = tt
unused_good nodes m d (Directory size) e = absurd cc
unused_good nodes m d (Links n) e = tt

good_by : (nodes : List Looked) (m : Inodes) (k : ℕ) (look : Looked) (named new : List ℕ) → WentBy nodes m k look named new → IsGoodDir nodes m k look
good_by nodes m k Unused named new h = tt
good_by nodes m k (Directory size) named new h = (h.slots, h.is_dir, h.distinct, h.names)
good_by nodes m k (Links n) named new h = tt

-- the slots of number k are counted
count_on : (m : Inodes) (n k : ℕ) (slots : List Slot) → 1 ≤ k → slots_of (m k) ≡ slots → naming_from m n 1 (k + 1 - 1) ≡ naming_from m n 1 (k - 1) + naming n slots
count_on m n k slots low is =
    let a : k + 1 - 1 ≡ k - 1 + 1 = omega arith in
    let b : 1 + (k - 1) ≡ k = omega arith in
    ap (naming_from m n 1) a ∙ naming_from-more m n 1 (k - 1) ∙ ap (λ j. naming_from m n 1 (k - 1) + naming n (slots_of (m j))) b ∙ ap (λ ss. naming_from m n 1 (k - 1) + naming n ss) is

count_none : (m : Inodes) (n k : ℕ) → 1 ≤ k → slots_of (m k) ≡ [] → naming_from m n 1 (k - 1) ≡ naming_from m n 1 (k + 1 - 1)
count_none m n k low is = omega (arith, count_on m n k [] low is)

-- one number more
pub went_more : (layout : Layout) (files : Files) (nodes : List Looked) (k : ℕ) (named new : List ℕ) → AreSeen files nodes → 1 ≤ k → length new ≡ length named → WentUpTo nodes (inodes_of layout files) k named → WentBy nodes (inodes_of layout files) k (seen nodes k) named new
    → WentUpTo nodes (inodes_of layout files) (k + 1) new
went_more layout files nodes k named new seen_all low same went by = record {
  count = same ∙ went.count;
  dirs = λ d less. dirs d less (cases_lt d k);
  counted = λ n less. counts n less (seen nodes k) refl by;
}
  where
    dirs : (d : ℕ) → d < k + 1 → (d < k) ⊎ (k ≤ d) → IsGoodDir nodes (inodes_of layout files) d (seen nodes d)
    dirs d less (inl before) = went.dirs d before
    dirs d less (inr here) =
        let e : k ≡ d = omega (arith, less, here) in
        subst (λ j. IsGoodDir nodes (inodes_of layout files) j (seen nodes j)) e (good_by nodes (inodes_of layout files) k (seen nodes k) named new by)

    counts : (n : ℕ) → n < length nodes → (look : Looked) → seen nodes k ≡ look → WentBy nodes (inodes_of layout files) k look named new → get_or new n 0 ≡ capped (naming_from (inodes_of layout files) n 1 (k + 1 - 1))
    counts n less Unused is h =
        ap (λ xs. get_or xs n 0) h ∙ went.counted n less ∙ ap capped (count_none (inodes_of layout files) n k low (ap slots_of (inode_none layout files nodes k seen_all is)))
    counts n less (Links l) is h =
        ap (λ xs. get_or xs n 0) h ∙ went.counted n less ∙ ap capped (count_none (inodes_of layout files) n k low (ap slots_of (inode_file layout files nodes k l seen_all is).1))
    counts n less (Directory size) is h =
        h.counted n (omega (arith, less, went.count))
        ∙ ap (λ c. capped (c + naming n h.slots)) (went.counted n less)
        ∙ capped_sum (naming_from (inodes_of layout files) n 1 (k - 1)) (naming n h.slots)
        ∙ ap capped (sym (count_on (inodes_of layout files) n k h.slots low (ap slots_of h.is_dir)))

-- each directory is good once all numbers were gone through
pub good_all : (nodes : List Looked) (m : Inodes) (named : List ℕ) → WentUpTo nodes m (length nodes) named → (d : ℕ) → IsGoodDir nodes m d (seen nodes d)
good_all nodes m named went d = ⊎_elim (λ low. went.dirs d low)
    (λ high. unused_good nodes m d (seen nodes d) (get_or_past nodes d Unused high))
    (cases_lt d (length nodes))
