-- Walks, name by name.
use Rattle.std.proofs.Common.{◌≡◌, ℕ, suc, ◌+◌, ◌<◌, ◌≤◌, Bool, true, false, IsTrue, List, [], ◌∷◌, length, drop, get_or, slice_get, Option, None, Some, Result, Ok, Err, if◌then◌else◌, refl, sym, subst, ap, ◌∙◌, arith, drop-cons}
use Rattle.std.proofs.lemmas.List.{drop_all}
use Rattle.std.proofs.lemmas.Option.{none-some, same_Some}
use Rattle.fs_dirs.proofs.reading.Searches.{NamesAreFound}
use Rattle.layout_bytes.specs.declared.slot.Slot.{Slot}
use Rattle.lang_tree.specs.declared.command.Refusal.{Refusal}
use Rattle.lang_tree.specs.declared.command.Refusal.TheVariants.{NotFound, NotDir}
use Rattle.lang_tree.specs.Tree.{Tree}
use Rattle.lang_tree.specs.Paths.{parent}
use Rattle.lang_tree.specs.Walk.{enter}
use Rattle.crash_stands.specs.Inodes.{Inode, Inodes, ADir, AFile}
use Rattle.crash_stands.specs.Maps.{IsMapOf}
use Rattle.crash_stands.specs.Walks.{node_in, entry_in}
use Rattle.engine_blocks.specs.State.{State}
use Rattle.fs_files.specs.Effects.{LooksOnly}
use Rattle.fs_inodes.specs.Changes.{slot_of}
use Rattle.fs_inodes.specs.Lookups.{is_dir_inode, walk_on}
use Rattle.fs_inodes.specs.Refusals.{dir_reason, parent_reason}
use Rattle.fs_dirs.specs.declared.lookup.Directory.{Directory}
use Rattle.fs_dirs.specs.declared.lookup.Found.{Found}
use Rattle.fs_dirs.specs.Directories.{slot_count, EndsAtParent, Finds, IsNumber}
use Rattle.fs_dirs.specs.Reading.{EntersOn, HasWalked}
use Rattle.fs_dirs.proofs.reading.Looks.{looks_none, looks_more, same_map}

-- a node without slots isn't entered
pub enters_file : (m : Inodes) (k : ℕ) (name : List ℕ) (x : Inode) → m k ≡ Some x → None ≡ slot_count x → EntersOn m k name (Err NotDir)
enters_file m k name (ADir slots) is none = absurd (none-some (length slots) none)
enters_file m k name (AFile links bytes) is none = record { step = sym (ap (λ o. enter (is_dir_inode o) (entry_in (m k) name) Ok) is); used = tt }

-- what a directory's name is entered as
enters_by : (m : Inodes) (k : ℕ) (name : List ℕ) (slots : List Slot) → m k ≡ Some (ADir slots) → enter (is_dir_inode (m k)) (entry_in (m k) name) Ok ≡ enter true (node_in slots name) Ok
enters_by m k name slots is = ap (λ o. enter (is_dir_inode o) (entry_in o name) Ok) is

-- a directory without the name
pub enters_nothing : (m : Inodes) (k count : ℕ) (name : List ℕ) (x : Inode) → m k ≡ Some x → Some count ≡ slot_count x → ((slots : List Slot) → m k ≡ Some (ADir slots) → Finds slots name None) → EntersOn m k name (Err NotFound)
enters_nothing m k count name (AFile links bytes) is some finds = absurd (none-some count (sym some))
enters_nothing m k count name (ADir slots) is some finds = record { step = sym (enters_by m k name slots is ∙ ap (λ o. enter true o Ok) (sym (finds slots is).node)); used = tt }

-- a directory with the name
pub enters_found : NamesAreFound
    → (m : Inodes) (k count : ℕ) (name : List ℕ) (x : Inode) (found : Found)
    → ((k i : ℕ) (slots : List Slot) (s : Slot) → m k ≡ Some (ADir slots) → slice_get slots i ≡ Some s → (x : Inode) × (m s.node ≡ Some x))
    → m k ≡ Some x → Some count ≡ slot_count x → ((slots : List Slot) → m k ≡ Some (ADir slots) → Finds slots name (Some found)) → EntersOn m k name (Ok found.node)
enters_found law m k count name (AFile links bytes) found used is some finds = absurd (none-some count (sym some))
enters_found law m k count name (ADir slots) found used is some finds =
    let h = finds slots is in
    let r = law slots name found.place (sym h.place) in
    let x = used k found.place slots (slot_of r.0 name) is r.1 in
    record {
      step = sym (enters_by m k name slots is ∙ ap (λ o. enter true o Ok) (sym h.node));
      used = (x.0, sym (ap m (same_Some r.0 found.node (sym r.2 ∙ sym h.node))) ∙ x.1);
    }

-- what one name leads to is where the walk goes on
goes_on : (b : Bool) (o : Option ℕ) (j : ℕ) (on : ℕ → Result ℕ Refusal) → Ok j ≡ enter b o Ok → enter b o on ≡ on j
goes_on false o j on e = absurd cc
goes_on true None j on e = absurd cc
goes_on true (Some n) j on e = ap on {x = n} {y = j} cc

-- and where there is none, it ends
ends_with : (b : Bool) (o : Option ℕ) (why : Refusal) (on : ℕ → Result ℕ Refusal) → Err why ≡ enter b o Ok → enter b o on ≡ Err why
ends_with false o why on e = sym e
ends_with true None why on e = sym e
ends_with true (Some n) why on e = absurd cc

-- a walk begins at the root
pub walked_none : (tells : Bool) (s : State) (m : Inodes) (names : List (List ℕ)) → 1 ≤ s.books.geom.i → HasWalked tells s s m names names 1
walked_none tells s m names many = record {
  looks = looks_none tells s;
  number = record { from = omega arith; upto = many };
  walks = λ told t map. refl;
  used = λ told t map. (ADir map.root.0, map.root.1);
}

-- the first of the names that are left
pub next_name : (names : List (List ℕ)) (i : ℕ) (name : List ℕ) → i < length names → name ≡ get_or names i name → drop i names ≡ name ∷ drop (i + 1) names
next_name names i name low is = drop-cons names i name low ∙ ap (λ n. n ∷ drop (suc i) names) (sym is) ∙ ap (λ k. name ∷ drop k names) {x = suc i} {y = i + 1} (omega arith)

-- what is entered where the walk has come to, by the inodes as they were at its start
entered_there : (tells : Bool) (start now : State) (m n : Inodes) (names rest : List (List ℕ)) (name : List ℕ) (k : ℕ) (next : Result ℕ Refusal) → HasWalked tells start now m names rest k → (IsTrue tells → n ≡ m)
    → (IsTrue tells → (t : Tree) (x : Inode) → IsMapOf now.books.geom.i n t → n k ≡ Some x → EntersOn n k name next)
    → IsTrue tells → (t : Tree) → IsMapOf start.books.geom.i m t → EntersOn m k name next
entered_there tells start now m n names rest name k next h same enters told t map =
    let u = h.used told t map in
    subst (λ i. EntersOn i k name next) (same told) (enters told t u.0 (same_map tells false start now h.looks m n t (same told) map) (ap (λ i. i k) (same told) ∙ u.1))

module _ (tells : Bool) (start now new : State) (m n : Inodes) (names : List (List ℕ)) (name : List ℕ) (rest : List (List ℕ)) (k : ℕ) (h : HasWalked tells start now m names (name ∷ rest) k) (same : IsTrue tells → n ≡ m) where
  -- a name was entered
  pub walked_more : (j : ℕ) → LooksOnly tells false now new → IsNumber now.books.geom.i j → (IsTrue tells → (t : Tree) (x : Inode) → IsMapOf now.books.geom.i n t → n k ≡ Some x → EntersOn n k name (Ok j))
      → HasWalked tells start new m names rest j
  walked_more j looks low enters = record {
    looks = looks_more tells false start now new h.looks looks;
    number = record { from = low.from; upto = omega (arith, low.upto, ap (λ b. b.geom.i) h.looks.books) };
    walks = λ told t map.
        h.walks told t map
        ∙ goes_on (is_dir_inode (m k)) (entry_in (m k) name) j (λ j. walk_on m j rest) (entered_there tells start now m n names (name ∷ rest) name k (Ok j) h same enters told t map).step;
    used = λ told t map. (entered_there tells start now m n names (name ∷ rest) name k (Ok j) h same enters told t map).used;
  }

  -- a name wasn't
  pub walk_refused : (why : Refusal) → (IsTrue tells → (t : Tree) (x : Inode) → IsMapOf now.books.geom.i n t → n k ≡ Some x → EntersOn n k name (Err why))
      → IsTrue tells → (t : Tree) → IsMapOf start.books.geom.i m t → Err why ≡ walk_on m 1 names
  walk_refused why enters told t map =
      sym (h.walks told t map ∙ ends_with (is_dir_inode (m k)) (entry_in (m k) name) why (λ j. walk_on m j rest) (entered_there tells start now m n names (name ∷ rest) name k (Err why) h same enters told t map).step)

-- at the end of the names
pub walk_ended : (tells : Bool) (start now : State) (m : Inodes) (names : List (List ℕ)) (i k : ℕ) → HasWalked tells start now m names (drop i names) k → length names ≤ i
    → IsTrue tells → (t : Tree) → IsMapOf start.books.geom.i m t → Ok k ≡ walk_on m 1 names
walk_ended tells start now m names i k h all told t map = sym (h.walks told t map ∙ ap (λ l. walk_on m k l) (drop_all i names all))

-- The directory above a path.

-- why nothing can come to be at a path with a name
parent_by : (m : Inodes) (path : List (List ℕ)) → 0 < length path → parent_reason m path ≡ dir_reason m (walk_on m 1 (parent path))
parent_by m [] some = absurd (omega (arith, some))
parent_by m (name ∷ names) some = refl

-- the walk is refused
pub parent_refused : (m : Inodes) (path up : List (List ℕ)) (why : Refusal) → 0 < length path → up ≡ parent path → Err why ≡ walk_on m 1 up → parent_reason m path ≡ Some why
parent_refused m path up why some same e = parent_by m path some ∙ ap (λ p. dir_reason m (walk_on m 1 p)) (sym same) ∙ ap (dir_reason m) (sym e)

-- it comes to a file
pub parent_file : (m : Inodes) (path up : List (List ℕ)) (k : ℕ) (x : Inode) → 0 < length path → up ≡ parent path → Ok k ≡ walk_on m 1 up → m k ≡ Some x → None ≡ slot_count x → parent_reason m path ≡ Some NotDir
parent_file m path up k (ADir slots) some same e is none = absurd (none-some (length slots) none)
parent_file m path up k (AFile links bytes) some same e is none =
    parent_by m path some ∙ ap (λ p. dir_reason m (walk_on m 1 p)) (sym same) ∙ ap (dir_reason m) (sym e) ∙ ap (λ o. if is_dir_inode o then None else Some NotDir) is

-- it comes to a directory
pub parent_found : (m : Inodes) (path up : List (List ℕ)) (dir : Directory) (k : ℕ) (x : Inode) → 0 < length path → up ≡ parent path → Ok k ≡ walk_on m 1 up → dir.number ≡ k → m k ≡ Some x → Some dir.count ≡ slot_count x → EndsAtParent m path (Ok (Some dir))
parent_found m path up dir k (AFile links bytes) some same e at is many = absurd (none-some dir.count (sym many))
parent_found m path up dir k (ADir slots) some same e at is many =
    ((λ none. omega (arith, some, ap length none)), ap (walk_on m 1) (sym same) ∙ sym e ∙ ap Ok (sym at), (slots, ap m at ∙ is, same_Some dir.count (length slots) many))
