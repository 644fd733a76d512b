-- Why a rename is refused, from inodes.
use Rattle.std.proofs.Common.{◌≡◌, ◌≢◌, ℕ, Bool, true, false, List, [], ◌∷◌, ◌++◌, if◌then◌else◌, Option, None, Some, option_and_then, Ok, Err, refl, sym, subst, ap, ap₂, ◌∙◌}
use Rattle.std.proofs.lemmas.Bool.{eqb-true, ne_eqb, true≢false}
use Rattle.std.proofs.lemmas.Option.{none-some}
use Rattle.base_types.specs.declared.layout.Layout.{Layout}
use Rattle.lang_tree.specs.declared.command.Refusal.{Refusal}
use Rattle.lang_tree.specs.declared.command.Refusal.TheVariants.{BelowItself, NameTooLong}
use Rattle.lang_tree.specs.Conditions.{first_reason, when}
use Rattle.lang_tree.specs.Paths.{is_below, is_too_long}
use Rattle.lang_tree.specs.Walk.{are_same, refusal_in}
use Rattle.crash_stands.specs.Inodes.{Inode, Inodes, ADir, AFile}
use Rattle.crash_stands.specs.Walks.{entries_of, entry_in, walk}
use Rattle.fs_inodes.specs.Lookups.{has_slots, number_at, walk_on}
use Rattle.fs_inodes.specs.Refusals.{onto_reason, parent_reason, rename_reason}

module _ (l : Layout) (m : Inodes) (from to : List (List ℕ)) where
  -- a first path that leads nowhere
  pub walk_refuses : (why : Refusal) → walk_on m 1 from ≡ Err why → rename_reason l m from to ≡ Some why
  walk_refuses why e = ap (λ r. first_reason (refusal_in r ∷ parent_reason m to ∷ (if are_same (number_at m from) (number_at m to) then None else onto_reason m from to) ∷ when (is_too_long l to) NameTooLong ∷ [])) e

  -- a second path at which nothing can come to be
  pub parent_refuses : (k : ℕ) (why : Refusal) → walk_on m 1 from ≡ Ok k → parent_reason m to ≡ Some why → rename_reason l m from to ≡ Some why
  parent_refuses k why e p = ap₂ (λ r o. first_reason (refusal_in r ∷ o ∷ (if are_same (number_at m from) (number_at m to) then None else onto_reason m from to) ∷ when (is_too_long l to) NameTooLong ∷ [])) e p

  -- neither
  last_refuses : (k : ℕ) (b : Bool) → walk_on m 1 from ≡ Ok k → parent_reason m to ≡ None → are_same (number_at m from) (number_at m to) ≡ b
      → rename_reason l m from to ≡ first_reason ((if b then None else onto_reason m from to) ∷ when (is_too_long l to) NameTooLong ∷ [])
  last_refuses k b e p same =
      ap₂ (λ r o. first_reason (refusal_in r ∷ o ∷ (if are_same (number_at m from) (number_at m to) then None else onto_reason m from to) ∷ when (is_too_long l to) NameTooLong ∷ [])) e p
      ∙ ap (λ b. first_reason ((if b then None else onto_reason m from to) ∷ when (is_too_long l to) NameTooLong ∷ [])) same

  -- they don't
  pub onto_refuses : (k : ℕ) (o : Option Refusal) → walk_on m 1 from ≡ Ok k → parent_reason m to ≡ None → are_same (number_at m from) (number_at m to) ≡ false → onto_reason m from to ≡ o
      → rename_reason l m from to ≡ first_reason (o ∷ when (is_too_long l to) NameTooLong ∷ [])
  onto_refuses k o e p apart is = last_refuses k false e p apart ∙ ap (λ o. first_reason (o ∷ when (is_too_long l to) NameTooLong ∷ [])) is

-- whether two numbers are the same
pub not_root_apart : (n : ℕ) → n ≢ 1 → (a : Option ℕ) → a ≡ Some n → (are_same a (Some 1) ≡ false)
not_root_apart n other a x = ap (λ a. are_same a (Some 1)) x ∙ ne_eqb n 1 other

pub root_apart : (b : Option ℕ) → ((n : ℕ) → b ≡ Some n → n ≢ 1) → are_same (Some 1) b ≡ false
root_apart None other = refl
root_apart (Some n) other = ne_eqb 1 n (λ e. other n refl (sym e))

-- where a path that isn't the root leads somewhere, the root has slots
entered : (i : Option Inode) (name : List ℕ) (on : ℕ → Option ℕ) (k : ℕ) → option_and_then on (entry_in i name) ≡ Some k → has_slots i ≡ true
entered None name on k e = absurd (none-some k e)
entered (Some (ADir [])) name on k e = absurd (none-some k e)
entered (Some (ADir (s ∷ slots))) name on k e = refl
entered (Some (AFile links bytes)) name on k e = absurd (none-some k e)

pub root_holds : (m : Inodes) (up : List (List ℕ)) (name : List ℕ) (k : ℕ) → number_at m (up ++ name ∷ []) ≡ Some k → has_slots (m 1) ≡ true
root_holds m [] name k e = entered (m 1) name (λ j. walk (entries_of m) j []) k e
root_holds m (a ∷ up) name k e = entered (m 1) a (λ j. walk (entries_of m) j (up ++ name ∷ [])) k e

-- the root lies above each other path
pub below_root : (m : Inodes) (to : List (List ℕ)) (o : Option Refusal) (why : Refusal) → to ≢ [] → onto_reason m [] to ≡ first_reason (o ∷ when (is_below [] to) BelowItself ∷ []) → first_reason (o ∷ Some BelowItself ∷ []) ≡ Some why
    → onto_reason m [] to ≡ Some why
below_root m [] o why some e r = absurd (some refl)
below_root m (name ∷ to) o why some e r = e ∙ r

-- a path other than the root's moves onto the root
pub onto_root_refuses : (l : Layout) (m : Inodes) (from to : List (List ℕ)) (k : ℕ) (why : Refusal) → to ≡ [] → walk_on m 1 from ≡ Ok k → number_at m from ≡ Some k → k ≢ 1 → onto_reason m from [] ≡ Some why → rename_reason l m from to ≡ Some why
onto_root_refuses l m from to k why none e num other onto =
    subst (λ p. rename_reason l m from p ≡ Some why) (sym none) (onto_refuses l m from [] k (Some why) e refl (not_root_apart k other (number_at m from) num) onto)

-- the root moves onto another path
pub of_root_refuses : (l : Layout) (m : Inodes) (to : List (List ℕ)) (why : Refusal) → parent_reason m to ≡ None → ((n : ℕ) → number_at m to ≡ Some n → n ≢ 1) → onto_reason m [] to ≡ Some why → rename_reason l m [] to ≡ Some why
of_root_refuses l m to why p other onto = onto_refuses l m [] to 1 (Some why) refl p (root_apart (number_at m to) other) onto

-- two paths in directories: the reasons that are left are those of the two ends and of the last name
pub moved_reason : (l : Layout) (m : Inodes) (from to : List (List ℕ)) (k : ℕ) (b : Option ℕ) (o : Option Refusal) → walk_on m 1 from ≡ Ok k → number_at m from ≡ Some k → parent_reason m to ≡ None → number_at m to ≡ b
    → first_reason ((if are_same (Some k) b then None else onto_reason m from to) ∷ when (is_too_long l to) NameTooLong ∷ []) ≡ o → rename_reason l m from to ≡ o
moved_reason l m from to k b o e num p there is = last_refuses l m from to k (are_same (Some k) b) e p (ap₂ are_same num there) ∙ is

-- a number that is the same is this one
pub same_is : (n : ℕ) (b : Option ℕ) → are_same (Some n) b ≡ true → b ≡ Some n
same_is n None e = absurd (true≢false (sym e))
same_is n (Some k) e = ap Some (sym (eqb-true n k e))
