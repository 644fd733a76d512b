-- The least unused number: no inode has it, and in a tree without snapshots it is the least that none has.
use Rattle.std.proofs.Common.{◌≡◌, ℕ, zero, suc, ◌+◌, ◌≤◌, ◌<◌, Bool, true, not, ◌&&◌, Option, Some, None, option_map, is_none, find, refl, sym, ap, ◌∙◌, arith}
use Rattle.std.specs.List.{range_with_len}
use Rattle.std.specs.FinMap.{get, empty}
use Rattle.std.proofs.lemmas.Bool.{and_parts}
use Rattle.std.proofs.lemmas.Option.{same_Some, none-some}
use Rattle.lang_tree.specs.Tree.{Tree, Nodes}
use Rattle.lang_tree.specs.Conditions.{is_snapshot, least_unused}
use Rattle.crash_stands.specs.Inodes.{Inode, Inodes, thing_of}
use Rattle.fs_inodes.specs.Lookups.{least_free}
use Rattle.fs_inodes.specs.TreeLaws.{TreeLaws}

-- functions that agree everywhere are the same
pub everywhere : {A B : Type 0} (f h : A → B) → ((k : A) → f k ≡ h k) → f ≡ h
everywhere f h same i k = same k i

-- the least number that no node has is the least free one of the map
free_alike : (limit : ℕ) (m : Inodes) (nodes : Nodes) → ((k : ℕ) → get nodes k ≡ option_map thing_of (m k)) → find (λ n. is_none (get nodes n)) (range_with_len 1 limit) ≡ least_free limit m
free_alike limit m nodes same = grind arith

-- so is the least unused number of a tree without snapshots
pub unused_is_free : (laws : TreeLaws) (limit : ℕ) (m : Inodes) (t : Tree) → t.snapshots ≡ empty → ((k : ℕ) → get t.nodes k ≡ option_map thing_of (m k)) → least_unused limit t ≡ least_free limit m
unused_is_free laws limit m t alone same = laws.unused_alone limit t alone ∙ free_alike limit m t.nodes same

-- what is found in a range passes the test and lies there
found_in : (test : ℕ → Bool) (a n m : ℕ) → find test (range_with_len a n) ≡ Some m → (test m ≡ true) × (a ≤ m) × (m < a + n)
found_in test a zero m e = absurd (none-some m e)
found_in test a (suc n) m e = grind (arith, found_in test (a + 1) n m, test a, same_Some)

-- what is no thing is no inode
none_alike : (o : Option Inode) → is_none (option_map thing_of o) ≡ is_none o
none_alike None = refl
none_alike (Some x) = refl

-- what is none is none
none_of : {A : Type 0} (o : Option A) → is_none o ≡ true → o ≡ None
none_of o h1 = grind arith

-- no inode has it, and it is within the limit
pub unused_is : (limit n : ℕ) (m : Inodes) (t : Tree) → ((k : ℕ) → get t.nodes k ≡ option_map thing_of (m k)) → least_unused limit t ≡ Some n → (m n ≡ None) × (1 ≤ n) × (n ≤ limit)
unfolding least_unused
unused_is limit n m t same e =
    let r = found_in (λ n. is_none (get t.nodes n) && not (is_snapshot t.snapshots n)) 1 limit n e in
    let free = and_parts (is_none (get t.nodes n)) (not (is_snapshot t.snapshots n)) r.0 in
    (none_of _ (sym (none_alike (m n)) ∙ ap is_none (sym (same n)) ∙ free.0), r.1, omega (arith, r.2))
