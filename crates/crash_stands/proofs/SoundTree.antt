-- The tree of an inode map is sound.
use Rattle.std.proofs.Common.{◌≡◌, ℕ, true≢false, List, [], ◌∷◌, ◌++◌, Option, Some, None, option_map, option_and_then, sym, refl, ap, ◌∙◌}
use Rattle.std.specs.FinMap.{get}
use Rattle.std.proofs.lemmas.Option.{none-some}
use Rattle.layout_bytes.specs.declared.slot.Slot.{Slot}
use Rattle.lang_tree.specs.Tree.{Tree, Thing, IsSound, Dir}
use Rattle.lang_tree.specs.Walk.{is_dir}
use Rattle.crash_stands.specs.Inodes.{Inode, Inodes, ADir, AFile, thing_of}
use Rattle.crash_stands.specs.Walks.{Entries, entries_of, entry_in, walk}
use Rattle.crash_stands.specs.Maps.{IsMapOf}

-- a walk by a path with one name more is the walk and one entry
pub walk_end : (e : Entries) (k : ℕ) (up : List (List ℕ)) (name : List ℕ) → walk e k (up ++ name ∷ []) ≡ option_and_then (λ j. e j name) (walk e k up)
walk_end e k [] name = by (e k name)
  where
    by : (o : Option ℕ) → option_and_then (λ j. Some j) o ≡ o
    by None = refl
    by (Some n) = refl
walk_end e k (x ∷ up) name = by (e k x) (λ n. walk_end e n up name)
  where
    by : (o : Option ℕ) → ((n : ℕ) → walk e n (up ++ name ∷ []) ≡ option_and_then (λ j. e j name) (walk e n up))
        → option_and_then (λ j. walk e j (up ++ name ∷ [])) o ≡ option_and_then (λ j. e j name) (option_and_then (λ j. walk e j up) o)
    by None end = refl
    by (Some n) end = end n

-- what has an entry is a directory
dir_with : (o : Option Inode) (name : List ℕ) (n : ℕ) → entry_in o name ≡ Some n → (slots : List Slot) × (o ≡ Some (ADir slots))
dir_with None name n e = absurd (none-some n e)
dir_with (Some (ADir slots)) name n e = (slots, refl)
dir_with (Some (AFile links bytes)) name n e = absurd (none-some n e)

-- a thing of the tree is an inode's
inode_with : (o : Option Inode) (x : Thing) → option_map thing_of o ≡ Some x → (y : Inode) × (o ≡ Some y)
inode_with None x e = absurd (none-some x e)
inode_with (Some y) x e = (y, refl)

-- a directory of the tree is a directory's
dir_in : (o : Option Inode) → option_map thing_of o ≡ Some Dir → (slots : List Slot) × (o ≡ Some (ADir slots))
dir_in None e = absurd (none-some Dir e)
dir_in (Some (ADir slots)) e = (slots, refl)
dir_in (Some (AFile links bytes)) e = absurd (true≢false (ap is_dir (sym e)))

module _ (limit : ℕ) (m : Inodes) (t : Tree) (is : IsMapOf limit m t) where
  -- what has a path with a last name is in a directory
  parent_of : (up : List (List ℕ)) (name : List ℕ) (n : ℕ) (o : Option ℕ) → o ≡ walk (entries_of m) 1 up → option_and_then (λ j. entries_of m j name) o ≡ Some n
      → (k : ℕ) × (get t.names up ≡ Some k) × (get t.nodes k ≡ Some Dir)
  parent_of up name n None at e = absurd (none-some n e)
  parent_of up name n (Some k) at e =
      let dir = dir_with (m k) name n e in
      (k, is.shows.names up ∙ sym at, is.shows.nodes k ∙ ap (option_map thing_of) dir.1)

  pub is_sound : IsSound limit t
  is_sound = record {
    root = is.shows.names [];
    root_dir = is.shows.nodes 1 ∙ ap (option_map thing_of) is.root.1;
    parents = λ up name n e. parent_of up name n _ refl (sym (walk_end (entries_of m) 1 up name) ∙ sym (is.shows.names (up ++ name ∷ [])) ∙ e);
    named = λ p n e. let x = is.shows.used p n (sym (is.shows.names p) ∙ e) in (thing_of x.0, is.shows.nodes n ∙ ap (option_map thing_of) x.1);
    reached = λ n x e. let y = inode_with (m n) x (sym (is.shows.nodes n) ∙ e) in let p = is.shows.reached n y.0 y.1 in (p.0, is.shows.names p.0 ∙ p.1);
    one_path = λ n p q dir at_p at_q.
        let slots = dir_in (m n) (sym (is.shows.nodes n) ∙ dir) in
        sym (is.shows.only n slots.0 p slots.1 (sym (is.shows.names p) ∙ at_p) q (sym (is.shows.names q) ∙ at_q));
    within = λ n x e. let y = inode_with (m n) x (sym (is.shows.nodes n) ∙ e) in is.within n y.0 y.1;
  }
