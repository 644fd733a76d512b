-- What a path comes to gives the walk along it, the number at it and the slots above it.
use Rattle.std.proofs.Common.{⊎_elim, ◌≡◌, ◌⊎◌, inl, inr, ℕ, ◌-◌, Bool, true, false, List, [], ◌∷◌, ◌++◌, length, Option, None, Some, option_map, option_and_then, Result, Ok, Err, if◌then◌else◌, refl, sym, ap, ◌∙◌, arith, take_at}
use Rattle.std.proofs.lemmas.Option.{none-some, same_Some}
use Rattle.std.proofs.lemmas.List.{length-append}
use Rattle.base_types.specs.declared.layout.Layout.{Layout}
use Rattle.layout_bytes.specs.declared.slot.Slot.{Slot}
use Rattle.lang_tree.specs.declared.command.Refusal.{Refusal}
use Rattle.lang_tree.specs.declared.command.Refusal.TheVariants.{NotDir}
use Rattle.lang_tree.specs.Paths.{parent}
use Rattle.lang_tree.specs.Walk.{enter}
use Rattle.crash_stands.specs.Files.{Files}
use Rattle.crash_stands.specs.Inodes.{Inodes, ADir, inodes_of}
use Rattle.crash_stands.specs.Walks.{entry_in, node_in, LeadsTo}
use Rattle.fs_inodes.specs.Lookups.{is_dir_inode, slots_of, walk_on, number_at, inode_at}
use Rattle.fs_inodes.specs.Figures.{slots_above}
use Rattle.fs_inodes.specs.Refusals.{dir_reason, parent_reason}
use Rattle.fs_commands.specs.declared.paths.Entry.{Entry}
use Rattle.fs_commands.specs.declared.paths.Spot.{Spot}
use Rattle.fs_commands.specs.declared.paths.Spot.TheVariants.{Root as TheRoot, Inside}
use Rattle.fs_commands.specs.Looks.{ComesTo, walk_of, number_of}
use Rattle.fs_commands.proofs.Given.{EndsLaw}

-- one name more behind what a walk came to
abbrev then_enter : Inodes → List ℕ → Result ℕ Refusal → Result ℕ Refusal
then_enter m name (Ok k) = enter (is_dir_inode (m k)) (entry_in (m k) name) Ok
then_enter m name (Err why) = Err why

enter_last : (m : Inodes) (up : List (List ℕ)) (name : List ℕ) (b : Bool) (o : Option ℕ) → ((j : ℕ) → walk_on m j (up ++ name ∷ []) ≡ then_enter m name (walk_on m j up))
    → enter b o (λ j. walk_on m j (up ++ name ∷ [])) ≡ then_enter m name (enter b o (λ j. walk_on m j up))
enter_last m up name false o rec = refl
enter_last m up name true None rec = refl
enter_last m up name true (Some j) rec = rec j

walk_last : (m : Inodes) (k : ℕ) (up : List (List ℕ)) (name : List ℕ) → walk_on m k (up ++ name ∷ []) ≡ then_enter m name (walk_on m k up)
walk_last m k [] name = refl
walk_last m k (a ∷ up) name = enter_last m up name (is_dir_inode (m k)) (entry_in (m k) a) (λ j. walk_last m j up name)

pub above : (up : List (List ℕ)) (name : List ℕ) → parent (up ++ name ∷ []) ≡ up
above up name = take_at up (name ∷ []) (length (up ++ name ∷ []) - 1) (omega (arith, length-append up (name ∷ [])))

-- a path is the root, or it has a last name
pub from_end : (p : List (List ℕ)) → (p ≡ []) ⊎ ((up : List (List ℕ)) × (name : List ℕ) × (p ≡ up ++ name ∷ []))
from_end [] = inl refl
from_end (a ∷ p) = ⊎_elim
    (λ e. inr ([], a, ap (λ p. a ∷ p) e))
    (λ s. inr (a ∷ s.0, s.1, ap (λ p. a ∷ p) s.2)) (from_end p)

-- why nothing can come to be at a path with a name
reason_by : (m : Inodes) (up : List (List ℕ)) (name : List ℕ) → parent_reason m (up ++ name ∷ []) ≡ dir_reason m (walk_on m 1 up)
reason_by m [] name = refl
reason_by m (a ∷ up) name = ap (λ p. dir_reason m (walk_on m 1 p)) (above (a ∷ up) name)

-- a walk to a path in whose directory nothing can come to be
refused_by : (m : Inodes) (name : List ℕ) (r : Result ℕ Refusal) (why : Refusal) → dir_reason m r ≡ Some why → then_enter m name r ≡ Err why
refused_by m name (Err other) why e = ap Err (same_Some other why e)
refused_by m name (Ok n) why e = refused_at (is_dir_inode (m n)) (entry_in (m n) name) why e
  where
    refused_at : (b : Bool) (o : Option ℕ) (why : Refusal) → (if b then None else Some NotDir) ≡ Some why → enter b o Ok ≡ Err why
    refused_at true o why e = absurd (none-some why e)
    refused_at false o why e = ap Err (same_Some NotDir why e)

pub walk_refused : (m : Inodes) (path : List (List ℕ)) (why : Refusal) → parent_reason m path ≡ Some why → walk_on m 1 path ≡ Err why
walk_refused m path why e = ⊎_elim
    (λ none. absurd (none-some why (ap (parent_reason m) (sym none) ∙ e)))
    (λ s. ap (walk_on m 1) s.2 ∙ walk_last m 1 s.0 s.1 ∙ refused_by m s.1 (walk_on m 1 s.0) why (sym (reason_by m s.0 s.1) ∙ ap (parent_reason m) (sym s.2) ∙ e)) (from_end path)

-- the walk to a path in a directory
entered : (slots : List Slot) (name : List ℕ) (dir count : ℕ) (entry : Option Entry) → option_map (λ (e : Entry). e.node.number) entry ≡ node_in slots name → enter true (node_in slots name) Ok ≡ walk_of (Ok (Inside dir count entry))
entered slots name dir count None e = ap (λ o. enter true o Ok) (sym e)
entered slots name dir count (Some x) e = ap (λ o. enter true o Ok) (sym e)

pub walk_is : (l : Layout) (files : Files) (path : List (List ℕ)) (spot : Result Spot Refusal) → ComesTo l files path spot → walk_on (inodes_of l files) 1 path ≡ walk_of spot
walk_is l files path (Ok TheRoot) h = ap (walk_on (inodes_of l files) 1) h
walk_is l files path (Ok (Inside dir count entry)) (up, name, is, at, h) =
    let m = inodes_of l files in
    ap (walk_on m 1) is ∙ walk_last m 1 up name ∙ ap (then_enter m name) at ∙ ap (λ o. enter (is_dir_inode o) (entry_in o name) Ok) h.dir ∙ entered h.slots name dir count entry h.node
walk_is l files path (Err why) h = walk_refused (inodes_of l files) path why h

-- a directory is above a path that comes to a spot
pub none_against : (l : Layout) (files : Files) (path : List (List ℕ)) (spot : Spot) → ComesTo l files path (Ok spot) → parent_reason (inodes_of l files) path ≡ None
none_against l files path TheRoot h = ap (parent_reason (inodes_of l files)) h
none_against l files path (Inside dir count entry) (up, name, is, at, h) =
    let m = inodes_of l files in
    ap (parent_reason m) is ∙ reason_by m up name ∙ ap (dir_reason m) at ∙ ap (λ o. if is_dir_inode o then None else Some NotDir) h.dir

-- the number at the path
pub number_is : EndsLaw
    → ((m : Inodes) (up : List (List ℕ)) (name : List ℕ) (dir : ℕ) (slots : List Slot) → LeadsTo m up dir → m dir ≡ Some (ADir slots) → number_at m (up ++ name ∷ []) ≡ node_in slots name)
    → (l : Layout) (files : Files) (path : List (List ℕ)) (spot : Spot) → ComesTo l files path (Ok spot) → number_at (inodes_of l files) path ≡ number_of spot
number_is ends last l files path TheRoot h = ap (number_at (inodes_of l files)) h
number_is ends last l files path (Inside dir count entry) (up, name, is, at, h) =
    let m = inodes_of l files in
    ap (number_at m) is ∙ last m up name dir h.slots (ends m up dir at) h.dir ∙ sym h.node

-- the slots above the path
pub slots_are : EndsLaw
    → (l : Layout) (files : Files) (path : List (List ℕ)) (dir count : ℕ) (entry : Option Entry) → ComesTo l files path (Ok (Inside dir count entry)) → count ≡ slots_above (inodes_of l files) path
slots_are ends l files path dir count entry (up, name, is, at, h) =
    let m = inodes_of l files in
    h.count ∙ sym (ap (slots_above m) is ∙ ap (λ p. length (slots_of (inode_at m p))) (above up name)
    ∙ ap (λ (o : Option ℕ). length (slots_of (option_and_then m o))) (ends m up dir at) ∙ ap (λ o. length (slots_of o)) h.dir)
