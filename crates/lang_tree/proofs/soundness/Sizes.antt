-- No command makes a file larger than 2^30 bytes.
use Rattle.std.proofs.Common.{◌≡◌, ℕ, ◌+◌, ◌-◌, ◌≤◌, ◌==◌, nat_lt, Bool, true, false, cond, ◌&&◌, if◌then◌else◌, List, [], ◌∷◌, ◌++◌, length, replicate, Option, Some, None, is_some, refl, sym, ap, ◌∙◌, subst, T, arith, nat_le}
use Rattle.std.proofs.lemmas.Bool.{ltb-false}
use Rattle.std.proofs.lemmas.List.{length-append, length-take, length-drop, length-replicate}
use Rattle.std.specs.Ordering.{eq_by_cmp, nat_cmp}
use Rattle.std.specs.Cmp.{nat_cmp_total}
use Rattle.std.specs.FinMap.{get, insert, remove, empty, get-empty, get-insert, get-remove}
use Rattle.std.proofs.lemmas.Option.{same_Some}
use Rattle.lang_tree.specs.declared.command.Cmd.{Cmd}
use Rattle.lang_tree.specs.declared.command.Cmd.TheVariants.{Mkdir, Create, Write, Fill, Read, Truncate, Link, Unlink, Rmdir, Rename, Stat, List as ListNames, Snap, Unsnap, Snaps, At, Osync, Dsync, Durable, Dwait, Poll, Bad}
use Rattle.lang_tree.specs.declared.command.Reply.TheVariants.{Ok as Done}
use Rattle.lang_tree.specs.declared.command.Refusal.{Refusal}
use Rattle.lang_tree.specs.Tree.{Tree, Bounds, Nodes, Thing, Dir, File, HasSmallFiles}
use Rattle.lang_tree.specs.Walk.{is_same_node}
use Rattle.lang_tree.specs.Conditions.{when, first_reason, is_too_large, least_unused, refusal, write_refusal, truncate_refusal}
use Rattle.lang_tree.specs.Step.{Session, start, step, accepted, changed_to, with_node, with_bytes, edited_at, edited, linked_by, removed, removed_by, moved, snapped_by, write, truncate, osync, dwait, written, resized}

-- the nodes of a tree hold no file larger than the bound
abbrev Small : ℕ → Nodes → Type 0
Small most nodes = (n : ℕ) (bytes : List ℕ) → get nodes n ≡ Some (File bytes) → length bytes ≤ most

none_some : {A : Type 0} (x : A) → ◌≡◌ {A = Option A} None (Some x) → ⊥
none_some x e = subst T (ap is_some (sym e)) tt

file_same : (xs ys : List ℕ) → File xs ≡ File ys → xs ≡ ys
file_same xs ys e = cc

module _ (most : ℕ) where
  with_small : (nodes : Nodes) (n : ℕ) (x : Thing) → Small most nodes → ((bytes : List ℕ) → x ≡ File bytes → length bytes ≤ most) → Small most (insert nodes n x)
  with_small nodes n x small one m bytes e = by (eq_by_cmp nat_cmp m n) (sym (get-insert nat_cmp_total nodes n x m) ∙ e)
    where
      by : (b : Bool) → cond b (Some x) (get nodes m) ≡ Some (File bytes) → length bytes ≤ most
      by b h1 = grind (arith, same_Some)

  without_small : (nodes : Nodes) (n : ℕ) → Small most nodes → Small most (remove nodes n)
  without_small nodes n small m bytes e = by (eq_by_cmp nat_cmp m n) (sym (get-remove nat_cmp_total nodes n m) ∙ e)
    where
      by : (b : Bool) → cond b None (get nodes m) ≡ Some (File bytes) → length bytes ≤ most
      by b h1 = grind (arith, none_some)

  kept_small : (b : Bool) (nodes : Nodes) (n : ℕ) → Small most nodes → Small most (if b then remove nodes n else nodes)
  kept_small b nodes n h1 = grind (arith, without_small)

  removed_small : (t : Tree) (path : List (List ℕ)) (o : Option ℕ) → Small most t.nodes → Small most (removed_by t path o).nodes
  removed_small t path o h1 = grind (arith, kept_small, t.names, t.nodes)

  linked_small : (t : Tree) (other : List (List ℕ)) (o : Option ℕ) → Small most t.nodes → Small most (linked_by t other o).nodes
  linked_small t other o h1 = grind arith

  node_small : (t : Tree) (path : List (List ℕ)) (x : Thing) (o : Option ℕ) → ((bytes : List ℕ) → x ≡ File bytes → length bytes ≤ most) → Small most t.nodes → Small most (with_node t path x o).nodes
  node_small t path x o h1 h2 = grind (arith, with_small, t.nodes)

  bytes_small : (nodes : Nodes) (n : ℕ) (change : List ℕ → List ℕ) (o : Option Thing) → get nodes n ≡ o → ((old : List ℕ) → length old ≤ most → length (change old) ≤ most)
      → Small most nodes → Small most (with_bytes nodes n change o)
  bytes_small nodes n change o h1 h2 h3 = grind (arith, with_small, file_same)

  edited_small : (t : Tree) (change : List ℕ → List ℕ) (o : Option ℕ) → ((old : List ℕ) → length old ≤ most → length (change old) ≤ most) → Small most t.nodes → Small most (edited_at t change o).nodes
  edited_small t change o h1 h2 = grind (arith, bytes_small, t.nodes)

snapped_small : (most : ℕ) (t : Tree) (name : List ℕ) (o : Option ℕ) → Small most t.nodes → Small most (snapped_by t name o).nodes
snapped_small most t name None small = small
snapped_small most t name (Some n) small = small

written_small : (most off : ℕ) (ys xs : List ℕ) → off + length ys ≤ most → length xs ≤ most → length (written off ys xs) ≤ most
written_small most off ys xs fits small = grind (arith, length-append, length-take, length-drop)

not_too_large : (size : ℕ) → is_too_large size ≡ false → size ≤ 1073741824
not_too_large size e = ltb-false 1073741824 size e

-- what no reason means for the conditions in a list
none_when : (b : Bool) (why : Refusal) (later : List (Option Refusal)) → first_reason (when b why ∷ later) ≡ None → (b ≡ false) × (first_reason later ≡ None)
none_when b why later h1 = grind (arith, none_some)

none_later : (o : Option Refusal) (later : List (Option Refusal)) → first_reason (o ∷ later) ≡ None → first_reason later ≡ None
none_later o later h1 = grind (arith, none_some)

and_false : (a b : Bool) → a ≡ true → (a && b) ≡ false → b ≡ false
and_false a b h1 h2 = grind arith

some_bytes : (n : ℕ) → (n == 0) ≡ false → nat_lt 0 n ≡ true
some_bytes n e = grind (arith, e)

write_small_by : (b : Bool) (s : Session) (path : List (List ℕ)) (offset : ℕ) (bytes : List ℕ) → (length bytes == 0) ≡ b → ((length bytes == 0) ≡ false → offset + length bytes ≤ 1073741824) → HasSmallFiles s.tree.nodes
    → HasSmallFiles (if b then (s, Done) else changed_to s (edited s.tree path (written offset bytes))).0.tree.nodes
write_small_by true s path offset bytes e fits small = small
write_small_by false s path offset bytes e fits small =
    edited_small 1073741824 s.tree (written offset bytes) (get s.tree.names path) (λ old h. written_small 1073741824 offset bytes old (fits e) h) small

fits_of : (t : Tree) (path : List (List ℕ)) (offset count : ℕ) → write_refusal t path offset count ≡ None → (count == 0) ≡ false → offset + count ≤ 1073741824
fits_of t path offset count free some = grind (arith, none_later, none_when, not_too_large, and_false, some_bytes)

write_small : (s : Session) (path : List (List ℕ)) (offset : ℕ) (bytes : List ℕ) → write_refusal s.tree path offset (length bytes) ≡ None → HasSmallFiles s.tree.nodes → HasSmallFiles (write s path offset bytes).0.tree.nodes
write_small s path offset bytes free small = write_small_by (length bytes == 0) s path offset bytes refl (fits_of s.tree path offset (length bytes) free) small

truncate_small_by : (b : Bool) (s : Session) (path : List (List ℕ)) (size : ℕ) → size ≤ 1073741824 → HasSmallFiles s.tree.nodes → HasSmallFiles (if b then (s, Done) else changed_to s (edited s.tree path (resized size))).0.tree.nodes
truncate_small_by true s path size fits small = small
truncate_small_by false s path size fits small = edited_small 1073741824 s.tree (resized size) (get s.tree.names path) (λ old h. omega (arith, fits, length-take size (old ++ replicate (size - length old) 0))) small

truncate_small : (s : Session) (path : List (List ℕ)) (size : ℕ) → truncate_refusal s.tree path size ≡ None → HasSmallFiles s.tree.nodes → HasSmallFiles (truncate s path size).0.tree.nodes
truncate_small s path size free small = grind (arith, none_later, s.tree, none_when, truncate_small_by, not_too_large)

rename_small_by : (b : Bool) (s : Session) (from to : List (List ℕ)) → HasSmallFiles s.tree.nodes → HasSmallFiles (if b then (s, Done) else changed_to s (moved (removed s.tree to) from to)).0.tree.nodes
rename_small_by true s from to small = small
rename_small_by false s from to small = removed_small 1073741824 s.tree to (get s.tree.names to) small

osync_small : (s : Session) (b : Bool) → HasSmallFiles s.tree.nodes → HasSmallFiles (osync s b).0.tree.nodes
osync_small s b h1 = grind arith

no_file : (bytes : List ℕ) → Dir ≡ File bytes → length bytes ≤ 1073741824
no_file bytes e = absurd cc

empty_file : (bytes : List ℕ) → File [] ≡ File bytes → length bytes ≤ 1073741824
empty_file bytes e = subst (λ xs. length xs ≤ 1073741824) (file_same [] bytes e) (omega arith)

dwait_small : (s : Session) (n : ℕ) (b : Bool) → HasSmallFiles s.tree.nodes → HasSmallFiles (dwait s n b).0.tree.nodes
dwait_small s n true small = small
dwait_small s n false small = small

accepted_small : (s : Session) (cmd : Cmd) → refusal s.limit s.tree cmd ≡ None → HasSmallFiles s.tree.nodes → HasSmallFiles (accepted s cmd).0.tree.nodes
accepted_small s (Mkdir path) free small = node_small 1073741824 s.tree path Dir (least_unused s.limit.nodes s.tree) no_file small
accepted_small s (Create path) free small = node_small 1073741824 s.tree path (File []) (least_unused s.limit.nodes s.tree) empty_file small
accepted_small s (Write path offset bytes) free small = write_small s path offset bytes free small
accepted_small s (Fill path offset count byte) free small =
    write_small s path offset (replicate count byte) (ap (write_refusal s.tree path offset) (length-replicate count byte) ∙ free) small
accepted_small s (Read path offset count) free small = small
accepted_small s (Truncate path size) free small = truncate_small s path size free small
accepted_small s (Link path other) free small = linked_small 1073741824 s.tree other (get s.tree.names path) small
accepted_small s (Unlink path) free small = removed_small 1073741824 s.tree path (get s.tree.names path) small
accepted_small s (Rmdir path) free small = removed_small 1073741824 s.tree path (get s.tree.names path) small
accepted_small s (Rename from to) free small = rename_small_by (is_same_node s.tree from to) s from to small
accepted_small s (Stat path) free small = small
accepted_small s (ListNames path) free small = small
accepted_small s (Snap name) free small = snapped_small 1073741824 s.tree name (least_unused s.limit.nodes s.tree) small
accepted_small s (Unsnap name) free small = small
accepted_small s Snaps free small = small
accepted_small s (At name l) free small = small
accepted_small s Osync free small = osync_small s s.changed small
accepted_small s Dsync free small = osync_small s s.changed small
accepted_small s Durable free small = small
accepted_small s (Dwait n) free small = dwait_small s n (nat_le n s.points) small
accepted_small s Poll free small = small
accepted_small s Bad free small = small

pub step_small : (s : Session) (cmd : Cmd) → HasSmallFiles s.tree.nodes → HasSmallFiles (step s cmd).0.tree.nodes
step_small s cmd small = grind (arith, refusal s.limit s.tree cmd, s.limit, s.tree, accepted_small)

pub start_small : (limit : Bounds) → HasSmallFiles (start limit).tree.nodes
start_small limit = with_small 1073741824 empty 1 Dir (λ k bytes e. absurd (none_some (File bytes) (sym (get-empty nat_cmp k) ∙ e))) no_file
