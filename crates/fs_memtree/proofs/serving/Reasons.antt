-- What a command that nothing refuses meets: where its paths lead, and what is there.
use Rattle.std.proofs.Common.{◌≡◌, ℕ, Bool, true, false, if◌then◌else◌, List, [], ◌∷◌, ◌++◌, is_none, Option, Some, None, Result, Ok, Err, option_and_then, refl, sym, ap, ap₂, ◌∙◌, arith}
use Rattle.std.proofs.lemmas.Bool.Decides.{nat_tests}
use Rattle.layout_bytes.specs.declared.slot.Slot.{Slot}
use Rattle.lang_tree.specs.declared.command.Refusal.{Refusal}
use Rattle.lang_tree.specs.declared.command.Refusal.TheVariants.{NotFound, NotDir}
use Rattle.lang_tree.specs.Tree.{Tree}
use Rattle.lang_tree.specs.Walk.{enter, refusal_in}
use Rattle.lang_tree.specs.Conditions.{when, first_reason}
use Rattle.crash_stands.specs.Inodes.{Inode, Inodes, ADir, AFile}
use Rattle.crash_stands.specs.Maps.{IsMapOf}
use Rattle.crash_stands.specs.Walks.{entry_in, LeadsTo}
use Rattle.fs_inodes.specs.Lookups.{is_dir_inode, walk_on, number_at, inode_at}
use Rattle.fs_inodes.specs.Refusals.{walk_reason, dir_reason, parent_reason}
use Rattle.fs_memtree.specs.Kept.{spot_at}
use Rattle.fs_memtree.proofs.maps.Walking.{Fits, fits, parent_is, by_parts, number_last, spot_is}

-- where no reason comes first, the first one is none, and none of the later ones is
pub no_reason : (r : Option Refusal) (rest : List (Option Refusal)) → first_reason (r ∷ rest) ≡ None → (r ≡ None) × (first_reason rest ≡ None)
no_reason r rest e = grind (arith, nat_tests)

-- a condition that gives no reason doesn't hold
pub not_so : (b : Bool) (why : Refusal) → when b why ≡ None → b ≡ false
not_so b why e = grind (arith, nat_tests)

pub some_of : {A : Type 0} (o : Option A) → is_none o ≡ false → (x : A) × (o ≡ Some x)
some_of o e = grind (arith, nat_tests)

module _ (m : Inodes) where
  -- a walk without a reason comes to a number
  pub walked : (path : List (List ℕ)) → walk_reason m path ≡ None → (n : ℕ) × LeadsTo m path n
  walked path none = by (walk_on m 1 path) none (fits m 1 path)
    where
      by : (r : Result ℕ Refusal) → refusal_in r ≡ None → Fits r (number_at m path) → (n : ℕ) × LeadsTo m path n
      by (Ok n) e f = (n, f)
      by (Err why) e f = absurd cc

  dir_there : (o : Option Inode) → is_dir_inode o ≡ true → (slots : List Slot) × (o ≡ Some (ADir slots))
  dir_there o e = grind (arith, nat_tests)

  -- A directory above a path.
  pub record Parent (up : List (List ℕ)) : Type 0 where
    pub dir : ℕ
    pub leads : LeadsTo m up dir
    pub slots : List Slot
    pub is : m dir ≡ Some (ADir slots)

  -- the reason of a path's parent is that of the walk to it
  pub reason_of_parent : (up : List (List ℕ)) (name : List ℕ) → parent_reason m (up ++ name ∷ []) ≡ dir_reason m (walk_on m 1 up)
  reason_of_parent [] name = refl
  reason_of_parent (x ∷ up) name = ap (λ q. dir_reason m (walk_on m 1 q)) (parent_is (x ∷ up) name)

  pub parent_there : (up : List (List ℕ)) (name : List ℕ) → parent_reason m (up ++ name ∷ []) ≡ None → Parent up
  parent_there up name none = by (walk_on m 1 up) (sym (reason_of_parent up name) ∙ none) (fits m 1 up)
    where
      is_dir : (n : ℕ) (b : Bool) → is_dir_inode (m n) ≡ b → (if b then None else Some NotDir) ≡ None → LeadsTo m up n → Parent up
      is_dir n true e none leads = let d = dir_there (m n) e in record { dir = n; leads = leads; slots = d.0; is = d.1 }
      is_dir n false e none leads = absurd cc

      by : (r : Result ℕ Refusal) → dir_reason m r ≡ None → Fits r (number_at m up) → Parent up
      by (Ok n) e f = is_dir n (is_dir_inode (m n)) refl e f
      by (Err why) e f = absurd cc

  -- A file at a path.
  pub record FileAt (path : List (List ℕ)) : Type 0 where
    pub node : ℕ
    pub leads : LeadsTo m path node
    pub links : ℕ
    pub bytes : List ℕ
    pub is : m node ≡ Some (AFile links bytes)

  pub file_there : (limit : ℕ) (t : Tree) (path : List (List ℕ)) → IsMapOf limit m t → walk_reason m path ≡ None → is_dir_inode (inode_at m path) ≡ false → FileAt path
  file_there limit t path is none no_dir = grind (arith, nat_tests, walked)

  -- where the directory above a path is there
  pub no_parent_reason : (path up : List (List ℕ)) (name : List ℕ) (d : ℕ) → path ≡ up ++ name ∷ [] → walk_on m 1 up ≡ Ok d → is_dir_inode (m d) ≡ true → parent_reason m path ≡ None
  no_parent_reason path up name d is walks dir = ap (parent_reason m) is ∙ reason_of_parent up name ∙ ap (dir_reason m) walks ∙ ap (λ b. if b then None else Some NotDir) dir

  -- what the code finds at a path with a last name
  pub looked_up : (path up : List (List ℕ)) (name : List ℕ) (d : ℕ) → path ≡ up ++ name ∷ [] → number_at m up ≡ Some d → (spot_at m path ≡ Some (d, name)) × (number_at m path ≡ entry_in (m d) name)
  looked_up path up name d is leads = grind (arith, nat_tests, spot_is, number_last)

  -- a walk that goes on by one name
  abbrev then_name : Result ℕ Refusal → List ℕ → Result ℕ Refusal
  then_name (Err why) name = Err why
  then_name (Ok d) name = enter (is_dir_inode (m d)) (entry_in (m d) name) (λ j. Ok j)

  -- a walk by one name more
  one_more : (k : ℕ) (up : List (List ℕ)) (name : List ℕ) → walk_on m k (up ++ name ∷ []) ≡ then_name (walk_on m k up) name
  one_more k [] name = refl
  one_more k (x ∷ up) name = by (is_dir_inode (m k)) (entry_in (m k) x) (λ j. one_more j up name)
    where
      by : (b : Bool) (o : Option ℕ) → ((j : ℕ) → walk_on m j (up ++ name ∷ []) ≡ then_name (walk_on m j up) name) → enter b o (λ j. walk_on m j (up ++ name ∷ [])) ≡ then_name (enter b o (λ j. walk_on m j up)) name
      by b o e = grind (arith, nat_tests)

  -- a walk meets what is in the way of the path's parent, or that nothing is there
  pub reached : (path : List (List ℕ)) (r : Option Refusal) (o : Option ℕ) → r ≡ parent_reason m path → number_at m path ≡ o → first_reason (r ∷ when (is_none o) NotFound ∷ []) ≡ walk_reason m path
  reached path r o parent is = ap₂ (λ r o. first_reason (r ∷ when (is_none o) NotFound ∷ [])) parent (sym is) ∙ by_parts (λ path. first_reason (parent_reason m path ∷ when (is_none (number_at m path)) NotFound ∷ []) ≡ walk_reason m path) refl last path
    where
      both : (b : Bool) (o : Option ℕ) → first_reason ((if b then None else Some NotDir) ∷ when (is_none o) NotFound ∷ []) ≡ refusal_in (enter b o (λ j. Ok j))
      both b o = grind (arith, nat_tests)

      by : (up : List (List ℕ)) (name : List ℕ) (w : Result ℕ Refusal) → Fits w (number_at m up)
          → first_reason (dir_reason m w ∷ when (is_none (option_and_then (λ j. entry_in (m j) name) (number_at m up))) NotFound ∷ []) ≡ refusal_in (then_name w name)
      by up name (Err why) f = refl
      by up name (Ok d) f = ap (λ o. first_reason (dir_reason m (Ok d) ∷ when (is_none (option_and_then (λ j. entry_in (m j) name) o)) NotFound ∷ [])) f ∙ both (is_dir_inode (m d)) (entry_in (m d) name)

      last : (up : List (List ℕ)) (name : List ℕ) → first_reason (parent_reason m (up ++ name ∷ []) ∷ when (is_none (number_at m (up ++ name ∷ []))) NotFound ∷ []) ≡ walk_reason m (up ++ name ∷ [])
      last up name = ap₂ (λ r o. first_reason (r ∷ when (is_none o) NotFound ∷ [])) (reason_of_parent up name) (number_last m up name) ∙ by up name (walk_on m 1 up) (fits m 1 up) ∙ ap refusal_in (sym (one_more 1 up name))
