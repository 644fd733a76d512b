-- What the commands of a load keep of a tree: no file grows past 12 blocks, and each name is one of a load.
use Rattle.std.proofs.Common.{◌≡◌, sym, refl, ap, ◌∙◌, subst, arith, ℕ, zero, suc, ◌+◌, ◌/◌, ◌%◌, ◌<◌, ◌≤◌, ◌==◌, Bool, true, false, cond, if◌then◌else◌, List, [], ◌∷◌, ◌++◌, length, take, drop, map, replicate, Option, Some, None, bytes_eq, nat_lt}
use Rattle.std.specs.Prelude.{◌-◌, ◌&&◌, ⊤, slice_index_or}
use Rattle.std.specs.List.{list_all}
use Rattle.std.specs.Cmp.{nat_cmp_total, IsTotalOrder}
use Rattle.std.specs.Cmp.Lexicographic.{lists_total}
use Rattle.std.specs.FinMap.{IsAntisymmetric, get, insert, remove, empty, entries, find, get-insert, get-remove, get-empty, get-from_entries, nat_cmp-IsAntisymmetric, slice_cmp-IsAntisymmetric}
use Rattle.std.specs.Ordering.{is_eq, eq_by_cmp, nat_cmp}
use Rattle.std.specs.declared.cmp.Ordering.{Ordering}
use Rattle.std.specs.declared.cmp.Ordering.TheVariants.{Equal}
use Rattle.std.proofs.lemmas.Bool.{and_parts, lt-ltb}
use Rattle.std.proofs.lemmas.List.{length-append, length-take, length-drop, length-replicate}
use Rattle.std.proofs.lemmas.Nat.{mod_below}
use Rattle.std.proofs.lemmas.Slice.Eq.{bytes_eq-Decides}
use Rattle.std.proofs.lemmas.Option.{same_Some, none-some}
use Rattle.base_types.specs.Draws.{drawn, draws, next_state}
use Rattle.lang_load.specs.Load.{command, kind_of, kinds, name, next_command, next_kind, part, parts, path}
use Rattle.lang_tree.specs.declared.command.Cmd.{Cmd}
use Rattle.lang_tree.specs.declared.command.Cmd.TheVariants.{Mkdir, Create, Write, Fill, Truncate, Link, Unlink, Rmdir, Rename, Osync, Dsync, Dwait, Snap, Unsnap}
use Rattle.lang_tree.specs.declared.command.Refusal.{Refusal}
use Rattle.lang_tree.specs.declared.command.Reply.TheVariants.{Ok as Done}
use Rattle.lang_tree.specs.Conditions.{least_unused}
use Rattle.lang_tree.specs.Names.{path_count, renamed}
use Rattle.lang_tree.specs.Paths.{strip, moved_by, moved_path}
use Rattle.lang_tree.specs.Step.{Session, start, answered, accepted, osync, write, truncate, rename, written, resized, with_node, added, with_bytes, edited_at, edited, linked_by, linked, removed_by, removed, moved, changed_to}
use Rattle.lang_tree.specs.Tree.{Bounds, Tree, Names, Nodes, Thing, Dir, File, path_cmp}
use Rattle.lang_tree.specs.Walk.{content, is_same_node}
use Rattle.cmd_load.specs.Trees.{IsLoadTree, digit_of, is_load_name, largest}
use Rattle.cmd_load.proofs.Entries.{each_of, entry_each, Each}

-- What a command of a load keeps to.

abbrev Named : List (List ℕ) → Type 0
Named p = list_all is_load_name p ≡ true

abbrev pub IsLoadCommand : Cmd → Type 0
IsLoadCommand (Mkdir path) = Named path
IsLoadCommand (Create path) = Named path
IsLoadCommand (Write path offset bytes) = offset + length bytes ≤ largest
IsLoadCommand (Fill path offset count byte) = offset + count ≤ largest
IsLoadCommand (Truncate path size) = size ≤ largest
IsLoadCommand (Link path other) = Named other
IsLoadCommand (Unlink path) = ⊤
IsLoadCommand (Rmdir path) = ⊤
IsLoadCommand (Rename from to) = Named to
IsLoadCommand Osync = ⊤
IsLoadCommand Dsync = ⊤
IsLoadCommand _ = ⊥

name_lawful : (d : ℕ) → d < 8 → is_load_name (name d) ≡ true
name_lawful d low =
    let same : digit_of (name d) ≡ d = omega arith in
    ap (λ k. nat_lt k 8 && bytes_eq (name d) (name k)) same ∙ ap (λ b. b && bytes_eq (name d) (name d)) (lt-ltb d 8 low) ∙ (bytes_eq-Decides (name d) (name d)).1 refl

path_lawful : (v : ℕ) → Named (path v)
path_lawful v = by (v % 4 == 0)
  where
    one : is_load_name (name (v / 4 % 8)) ≡ true
    one = name_lawful (v / 4 % 8) (mod_below (v / 4) 8 (omega arith))

    two : is_load_name (name (v / 32 % 8)) ≡ true
    two = name_lawful (v / 32 % 8) (mod_below (v / 32) 8 (omega arith))

    by : (b : Bool) → Named (if b then name (v / 4 % 8) ∷ [] else name (v / 4 % 8) ∷ name (v / 32 % 8) ∷ [])
    by true = ap (λ b. b && true) one
    by false = ap (λ b. b && (is_load_name (name (v / 32 % 8)) && true)) one ∙ ap (λ b. b && true) two

-- the command of the kind at this place among the kinds, whatever its draws are
command_at : (k : ℕ) (values : List ℕ) → IsLoadCommand (command (slice_index_or kinds k (kind_of 15)) values)
command_at (suc (suc (suc (suc (suc zero))))) values = omega (arith, mod_below (part values 1) 8192 (omega arith), mod_below (part values 2) 4096 (omega arith))
command_at (suc (suc (suc (suc (suc (suc zero)))))) values = omega (arith, mod_below (part values 1) 8192 (omega arith), mod_below (part values 2) 4096 (omega arith))
command_at (suc (suc (suc (suc (suc (suc (suc zero))))))) values = omega (arith, mod_below (part values 1) 8192 (omega arith), mod_below (part values 2) 4096 (omega arith))
command_at (suc (suc (suc (suc (suc (suc (suc (suc zero)))))))) values = omega (arith, mod_below (part values 1) 8192 (omega arith))
command_at (suc (suc (suc (suc (suc (suc (suc (suc (suc zero))))))))) values = omega (arith, mod_below (part values 1) 8192 (omega arith))
command_at (suc (suc (suc (suc (suc (suc (suc (suc (suc (suc zero)))))))))) values = path_lawful (part values 1)
command_at (suc (suc (suc (suc (suc (suc (suc (suc (suc (suc (suc zero))))))))))) values = tt
command_at (suc (suc (suc (suc (suc (suc (suc (suc (suc (suc (suc (suc zero)))))))))))) values = tt
command_at (suc (suc (suc (suc (suc (suc (suc (suc (suc (suc (suc (suc (suc zero))))))))))))) values = path_lawful (part values 1)
command_at (suc (suc (suc (suc (suc (suc (suc (suc (suc (suc (suc (suc (suc (suc zero)))))))))))))) values = tt
command_at (suc (suc (suc (suc (suc (suc (suc (suc (suc (suc (suc (suc (suc (suc (suc zero))))))))))))))) values = tt
command_at (suc (suc (suc (suc (suc (suc (suc (suc (suc (suc (suc (suc (suc (suc (suc (suc k)))))))))))))))) values = tt
command_at other values = path_lawful (part values 0)

pub next_is_load : (state : ℕ) → IsLoadCommand (next_command state)
next_is_load state = command_at (drawn (next_state state) % 16) (draws (parts (next_kind state)) (next_state state))

-- The names of paths.

abbrev AreNamed : Names → Type 0
AreNamed names = (p : List (List ℕ)) (n : ℕ) → get names p ≡ Some n → Named p

pub path_total : IsTotalOrder path_cmp
path_total = lists_total (lists_total nat_cmp_total)

path_same : IsAntisymmetric path_cmp
path_same = slice_cmp-IsAntisymmetric (slice_cmp-IsAntisymmetric nat_cmp-IsAntisymmetric)

equal_of : (o : Ordering) → is_eq o ≡ true → o ≡ Equal
equal_of Equal e = refl
equal_of other e = absurd cc

names_put : (names : Names) (k : List (List ℕ)) (v : ℕ) → Named k → AreNamed names → AreNamed (insert names k v)
names_put names k v law h p n e = elim (eq_by_cmp path_cmp p k) as (λ b. eq_by_cmp path_cmp p k ≡ b → cond b (Some v) (get names p) ≡ Some n → Named p) [
  | true ↦ λ same is. subst Named (sym (path_same p k (equal_of (path_cmp p k) same))) law
  | false ↦ λ same is. h p n is
] refl (sym (get-insert path_total names k v p) ∙ e)

names_out : (names : Names) (k : List (List ℕ)) → AreNamed names → AreNamed (remove names k)
names_out names k h p n e = elim (eq_by_cmp path_cmp p k) as (λ b. cond b None (get names p) ≡ Some n → Named p) [ true ↦ λ is. cc is | false ↦ λ is. h p n is ] (sym (get-remove path_total names k p) ∙ e)

behind_is_named : (front path rest : List (List ℕ)) → Named path → strip front path ≡ Some rest → Named rest
behind_is_named [] path rest h e = subst Named (same_Some path rest e) h
behind_is_named (a ∷ front) [] rest h e = cc e
behind_is_named (a ∷ front) (b ∷ path) rest h e = elim (bytes_eq a b) as (λ t. (strip front path ≡ Some rest → Named rest) → (if t then strip front path else None) ≡ Some rest → Named rest) [
  | true ↦ λ later is. later is
  | false ↦ λ later is. cc is
] (behind_is_named front path rest (and_parts (is_load_name b) (list_all is_load_name path) h).1) e

both_named : (p q : List (List ℕ)) → Named p → Named q → Named (p ++ q)
both_named [] q h k = k
both_named (x ∷ p) q h k =
    let parts = and_parts (is_load_name x) (list_all is_load_name p) h in
    rw parts.0 (both_named p q parts.1 k)

moved_is_named : (from to path : List (List ℕ)) → Named to → Named path → Named (moved_path from to path)
moved_is_named from to path h k = elim (strip from path) as (λ o. ((rest : List (List ℕ)) → o ≡ Some rest → Named rest) → Named (moved_by to path o)) [
  | None ↦ λ later. k
  | Some rest ↦ λ later. both_named to rest h (later rest refl)
] (λ rest. behind_is_named from path rest k)

each_moved : (from to : List (List ℕ)) (es : List (List (List ℕ) × ℕ)) → Named to → Each (λ e. Named e.0) es → Each (λ (e : List (List ℕ) × ℕ). Named e.0) (map (λ e. (moved_path from to e.0, e.1)) es)
each_moved from to [] h k = tt
each_moved from to (e ∷ es) h k = (moved_is_named from to e.0 h k.0, each_moved from to es h k.1)

found_is_named : (es : List (List (List ℕ) × ℕ)) (q : List (List ℕ)) (n : ℕ) → Each (λ e. Named e.0) es → find path_cmp q es ≡ Some n → Named q
found_is_named [] q n h e = cc e
found_is_named (f ∷ es) q n h e = elim (eq_by_cmp path_cmp q f.0) as (λ b. eq_by_cmp path_cmp q f.0 ≡ b → (find path_cmp q es ≡ Some n → Named q) → cond b (Some f.1) (find path_cmp q es) ≡ Some n → Named q) [
  | true ↦ λ same later is. subst Named (sym (path_same q f.0 (equal_of (path_cmp q f.0) same))) h.0
  | false ↦ λ same later is. later is
] refl (found_is_named es q n h.1) e

names_moved : (names : Names) (from to : List (List ℕ)) → Named to → AreNamed names → AreNamed (renamed names from to)
names_moved names from to law h p n e =
    let es = map (λ (e : List (List ℕ) × ℕ). (moved_path from to e.0, e.1)) (entries names) in
    found_is_named es p n (each_moved from to (entries names) law (each_of (λ e is. h e.0 e.1 is) (entries names) (entry_each path_total names))) (sym (get-from_entries path_total es p) ∙ e)

-- The sizes of files.

abbrev Small : Nodes → Type 0
Small nodes = (n : ℕ) (bytes : List ℕ) → get nodes n ≡ Some (File bytes) → length bytes ≤ largest

-- a thing that isn't a larger file
abbrev IsSmall : Thing → Type 0
IsSmall Dir = ⊤
IsSmall (File bytes) = length bytes ≤ largest

nodes_put : (nodes : Nodes) (k : ℕ) (x : Thing) → IsSmall x → Small nodes → Small (insert nodes k x)
nodes_put nodes k x law h n bytes e = elim (eq_by_cmp nat_cmp n k) as (λ b. cond b (Some x) (get nodes n) ≡ Some (File bytes) → length bytes ≤ largest) [
  | true ↦ λ is. subst IsSmall (same_Some x (File bytes) is) law
  | false ↦ λ is. h n bytes is
] (sym (get-insert nat_cmp_total nodes k x n) ∙ e)

nodes_out : (nodes : Nodes) (k : ℕ) → Small nodes → Small (remove nodes k)
nodes_out nodes k h n bytes e = elim (eq_by_cmp nat_cmp n k) as (λ b. cond b None (get nodes n) ≡ Some (File bytes) → length bytes ≤ largest) [
  | true ↦ λ is. cc is
  | false ↦ λ is. h n bytes is
] (sym (get-remove nat_cmp_total nodes k n) ∙ e)

-- it leaves no small file larger
abbrev KeepsSmall : (List ℕ → List ℕ) → Type 0
KeepsSmall change = (xs : List ℕ) → length xs ≤ largest → length (change xs) ≤ largest

written_small : (most off : ℕ) (ys xs : List ℕ) → off + length ys ≤ most → length xs ≤ most → length (written off ys xs) ≤ most
written_small most off ys xs fits small =
    let zeros : List ℕ = replicate (off - length xs) 0 in
    omega (
      arith,
      fits,
      small,
      length-append (take off (xs ++ zeros)) (ys ++ drop (off + length ys) xs),
      length-take off (xs ++ zeros),
      length-append ys (drop (off + length ys) xs),
      length-drop (off + length ys) xs,
    )

resized_small : (most size : ℕ) (xs : List ℕ) → size ≤ most → length (resized size xs) ≤ most
resized_small most size xs fits = omega (arith, fits, length-take size (xs ++ replicate (size - length xs) 0))

-- What each change of a tree keeps.

record IsKept (P : Tree → Type 0) : Type 0 where
  made : (limit : ℕ) (t : Tree) (path : List (List ℕ)) (thing : Thing) → Named path → IsSmall thing → P t → P (added limit t path thing)
  changed : (t : Tree) (path : List (List ℕ)) (change : List ℕ → List ℕ) → KeepsSmall change → P t → P (edited t path change)
  tied : (t : Tree) (path other : List (List ℕ)) → Named other → P t → P (linked t path other)
  gone : (t : Tree) (path : List (List ℕ)) → P t → P (removed t path)
  shifted : (t : Tree) (from to : List (List ℕ)) → Named to → P t → P (moved t from to)

names_kept : IsKept (λ t. AreNamed t.names)
names_kept = record {
  made = λ limit t path thing law small h. make t path thing law h (least_unused limit t);
  changed = λ t path change same h. change_at t change h (get t.names path);
  tied = λ t path other law h. link t other law h (get t.names path);
  gone = λ t path h. out t path h (get t.names path);
  shifted = λ t from to law h. names_moved t.names from to law h;
}
  where
    make : (t : Tree) (path : List (List ℕ)) (thing : Thing) → Named path → AreNamed t.names → (o : Option ℕ) → AreNamed (with_node t path thing o).names
    make t path thing law h None = h
    make t path thing law h (Some n) = names_put t.names path n law h

    change_at : (t : Tree) (change : List ℕ → List ℕ) → AreNamed t.names → (o : Option ℕ) → AreNamed (edited_at t change o).names
    change_at t change h None = h
    change_at t change h (Some n) = h

    link : (t : Tree) (other : List (List ℕ)) → Named other → AreNamed t.names → (o : Option ℕ) → AreNamed (linked_by t other o).names
    link t other law h None = h
    link t other law h (Some n) = names_put t.names other n law h

    out : (t : Tree) (path : List (List ℕ)) → AreNamed t.names → (o : Option ℕ) → AreNamed (removed_by t path o).names
    out t path h None = h
    out t path h (Some n) = names_out t.names path h

files_kept : IsKept (λ t. Small t.nodes)
files_kept = record {
  made = λ limit t path thing law small h. make t path thing small h (least_unused limit t);
  changed = λ t path change same h. change_at t change same h (get t.names path);
  tied = λ t path other law h. link t other h (get t.names path);
  gone = λ t path h. out t path h (get t.names path);
  shifted = λ t from to law h. h;
}
  where
    make : (t : Tree) (path : List (List ℕ)) (thing : Thing) → IsSmall thing → Small t.nodes → (o : Option ℕ) → Small (with_node t path thing o).nodes
    make t path thing small h None = h
    make t path thing small h (Some n) = nodes_put t.nodes n thing small h

    node_at : (nodes : Nodes) (n : ℕ) (change : List ℕ → List ℕ) → KeepsSmall change → Small nodes → (o : Option Thing) → get nodes n ≡ o → Small (with_bytes nodes n change o)
    node_at nodes n change same h (Some (File bytes)) is = nodes_put nodes n (File (change bytes)) (same bytes (h n bytes is)) h
    node_at nodes n change same h other is = h

    change_at : (t : Tree) (change : List ℕ → List ℕ) → KeepsSmall change → Small t.nodes → (o : Option ℕ) → Small (edited_at t change o).nodes
    change_at t change same h None = h
    change_at t change same h (Some n) = node_at t.nodes n change same h (get t.nodes n) refl

    link : (t : Tree) (other : List (List ℕ)) → Small t.nodes → (o : Option ℕ) → Small (linked_by t other o).nodes
    link t other h None = h
    link t other h (Some n) = h

    unused : (nodes : Nodes) (n : ℕ) → Small nodes → (b : Bool) → Small (if b then remove nodes n else nodes)
    unused nodes n h true = nodes_out nodes n h
    unused nodes n h false = h

    out : (t : Tree) (path : List (List ℕ)) → Small t.nodes → (o : Option ℕ) → Small (removed_by t path o).nodes
    out t path h None = h
    out t path h (Some n) = unused t.nodes n h (path_count (remove t.names path) n == 0)

alone_kept : IsKept (λ t. t.snapshots ≡ empty)
alone_kept = record {
  made = λ limit t path thing law small h. make t path thing h (least_unused limit t);
  changed = λ t path change same h. change_at t change h (get t.names path);
  tied = λ t path other law h. link t other h (get t.names path);
  gone = λ t path h. out t path h (get t.names path);
  shifted = λ t from to law h. h;
}
  where
    make : (t : Tree) (path : List (List ℕ)) (thing : Thing) → t.snapshots ≡ empty → (o : Option ℕ) → (with_node t path thing o).snapshots ≡ empty
    make t path thing h None = h
    make t path thing h (Some n) = h

    change_at : (t : Tree) (change : List ℕ → List ℕ) → t.snapshots ≡ empty → (o : Option ℕ) → (edited_at t change o).snapshots ≡ empty
    change_at t change h None = h
    change_at t change h (Some n) = h

    link : (t : Tree) (other : List (List ℕ)) → t.snapshots ≡ empty → (o : Option ℕ) → (linked_by t other o).snapshots ≡ empty
    link t other h None = h
    link t other h (Some n) = h

    out : (t : Tree) (path : List (List ℕ)) → t.snapshots ≡ empty → (o : Option ℕ) → (removed_by t path o).snapshots ≡ empty
    out t path h None = h
    out t path h (Some n) = h

-- What a command keeps.

module _ (P : Tree → Type 0) (kept : IsKept P) where
  write_keeps : (s : Session) (path : List (List ℕ)) (offset : ℕ) (bytes : List ℕ) → offset + length bytes ≤ largest → P s.tree → P (write s path offset bytes).0.tree
  write_keeps s path offset bytes low h = elim (length bytes == 0) as (λ b. P (if b then (s, Done) else changed_to s (edited s.tree path (written offset bytes))).0.tree) [
    | true ↦ h
    | false ↦ kept.changed s.tree path (written offset bytes) (λ xs small. written_small largest offset bytes xs low small) h
  ]

  truncate_keeps : (s : Session) (path : List (List ℕ)) (size : ℕ) → size ≤ largest → P s.tree → P (truncate s path size).0.tree
  truncate_keeps s path size low h = elim (size == length (content s.tree path)) as (λ b. P (if b then (s, Done) else changed_to s (edited s.tree path (resized size))).0.tree) [
    | true ↦ h
    | false ↦ kept.changed s.tree path (resized size) (λ xs small. resized_small largest size xs low) h
  ]

  rename_keeps : (s : Session) (from to : List (List ℕ)) → Named to → P s.tree → P (rename s from to).0.tree
  rename_keeps s from to law h = elim (is_same_node s.tree from to) as (λ b. P (if b then (s, Done) else changed_to s (moved (removed s.tree to) from to)).0.tree) [
    | true ↦ h
    | false ↦ kept.shifted (removed s.tree to) from to law (kept.gone s.tree to h)
  ]

  sync_keeps : (s : Session) (changed : Bool) → P s.tree → P (osync s changed).0.tree
  sync_keeps s true h = h
  sync_keeps s false h = h

  accepted_keeps : (s : Session) (cmd : Cmd) → IsLoadCommand cmd → P s.tree → P (accepted s cmd).0.tree
  accepted_keeps s (Mkdir path) law h = kept.made s.limit.nodes s.tree path Dir law tt h
  accepted_keeps s (Create path) law h = kept.made s.limit.nodes s.tree path (File []) law (omega arith) h
  accepted_keeps s (Write path offset bytes) law h = write_keeps s path offset bytes law h
  accepted_keeps s (Fill path offset count byte) law h = write_keeps s path offset (replicate count byte) (omega (arith, law, length-replicate count byte)) h
  accepted_keeps s (Truncate path size) law h = truncate_keeps s path size law h
  accepted_keeps s (Link path other) law h = kept.tied s.tree path other law h
  accepted_keeps s (Unlink path) law h = kept.gone s.tree path h
  accepted_keeps s (Rmdir path) law h = kept.gone s.tree path h
  accepted_keeps s (Rename from to) law h = rename_keeps s from to law h
  accepted_keeps s Osync law h = sync_keeps s s.changed h
  accepted_keeps s Dsync law h = sync_keeps s s.changed h
  accepted_keeps s (Dwait n) law h = absurd law
  accepted_keeps s (Snap n) law h = absurd law
  accepted_keeps s (Unsnap n) law h = absurd law
  accepted_keeps s other law h = h

  answered_keeps : (s : Session) (cmd : Cmd) (o : Option Refusal) → IsLoadCommand cmd → P s.tree → P (answered s cmd o).0.tree
  answered_keeps s cmd None law h = accepted_keeps s cmd law h
  answered_keeps s cmd (Some why) law h = h

-- however it is answered
pub answered_tree : (s : Session) (cmd : Cmd) (o : Option Refusal) → IsLoadCommand cmd → IsLoadTree s.tree → IsLoadTree (answered s cmd o).0.tree
answered_tree s cmd o law h = record {
  files = answered_keeps (λ t. Small t.nodes) files_kept s cmd o law h.files;
  names = answered_keeps (λ t. AreNamed t.names) names_kept s cmd o law h.names;
  alone = answered_keeps (λ t. t.snapshots ≡ empty) alone_kept s cmd o law h.alone;
}

pub start_tree : (limit : Bounds) → IsLoadTree (start limit).tree
start_tree limit = record {
  files = nodes_put empty 1 Dir tt (λ n bytes e. absurd (none-some (File bytes) (sym (get-empty nat_cmp n) ∙ e)));
  names = names_put empty [] 1 refl (λ p n e. absurd (none-some n (sym (get-empty path_cmp p) ∙ e)));
  alone = refl;
}
