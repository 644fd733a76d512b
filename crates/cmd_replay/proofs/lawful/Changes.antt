-- What commands do to a tree keeps its names lawful and its bytes bytes.
use Rattle.std.proofs.Common.{◌≡◌, sym, refl, ◌∙◌, subst, arith, tests, ℕ, zero, suc, ◌+◌, ◌==◌, Bool, true, false, cond, if◌then◌else◌, List, [], ◌∷◌, ◌++◌, length, take, drop, map, replicate, Option, Some, None, bytes_eq, nat_lt, nat_le}
use Rattle.std.specs.Prelude.{◌-◌}
use Rattle.std.specs.List.{list_all}
use Rattle.std.specs.Cmp.{nat_cmp_total, IsTotalOrder}
use Rattle.std.specs.Cmp.Lexicographic.{lists_total, slice_cmp}
use Rattle.std.specs.FinMap.{IsAntisymmetric, get, insert, remove, empty, entries, find, get-insert, get-remove, get-empty, get-from_entries, nat_cmp-IsAntisymmetric, slice_cmp-IsAntisymmetric}
use Rattle.std.specs.Ordering.{is_eq, eq_by_cmp, nat_cmp}
use Rattle.std.specs.declared.cmp.Ordering.{Ordering}
use Rattle.std.specs.declared.cmp.Ordering.TheVariants.{Equal}
use Rattle.std.proofs.lemmas.Bool.{and_parts}
use Rattle.std.proofs.lemmas.Option.{same_Some, none-some}
use Rattle.base_types.specs.Name.{is_name}
use Rattle.lang_script.specs.Shared.{snapshot_name}
use Rattle.lang_script.specs.Grammar.{fits}
use Rattle.lang_script.specs.Values.{IsCommand}
use Rattle.cmd_trace.specs.Contents.{Each}
use Rattle.lang_tree.specs.declared.command.Cmd.{Cmd}
use Rattle.lang_tree.specs.declared.command.Cmd.TheVariants.{Mkdir, Create, Write, Fill, Truncate, Link, Unlink, Rmdir, Rename, Snap, Unsnap, Osync, Dsync, Dwait}
use Rattle.lang_tree.specs.declared.command.Reply.TheVariants.{Ok as Done}
use Rattle.lang_tree.specs.Conditions.{least_unused, refusal}
use Rattle.lang_tree.specs.Names.{path_count, renamed}
use Rattle.lang_tree.specs.Paths.{strip, moved_by, moved_path}
use Rattle.lang_tree.specs.Step.{Session, kept_of, snapped_by, unsnapped, start, step, answered, accepted, osync, dwait, write, truncate, rename, written, resized, with_node, added, with_bytes, edited_at, edited, linked_by, linked, removed_by, removed, moved, changed_to}
use Rattle.lang_tree.specs.Tree.{Bounds, Tree, Names, Nodes, Kept, Thing, Dir, File, alone, kept_tree, path_cmp}
use Rattle.lang_tree.specs.Walk.{content, is_same_node}
use Rattle.cmd_replay.specs.Named.{HasLawfulNames, HasBytes, OfEachSnapshot}
use Rattle.cmd_replay.proofs.telling.Lines.{ThingBytes}
use Rattle.cmd_replay.proofs.telling.Maps.{each_of, entry_each}
use Rattle.cmd_replay.proofs.telling.Texts.{AreBytes}

-- ---- names

abbrev Lawful : List (List ℕ) → Type 0
Lawful p = list_all is_name p ≡ true

abbrev AreLawful : Names → Type 0
AreLawful names = (p : List (List ℕ)) (n : ℕ) → get names p ≡ Some n → Lawful p

path_total : IsTotalOrder path_cmp
path_total = lists_total (lists_total nat_cmp_total)

path_same : IsAntisymmetric path_cmp
path_same = slice_cmp-IsAntisymmetric (slice_cmp-IsAntisymmetric nat_cmp-IsAntisymmetric)

equal_of : (o : Ordering) → is_eq o ≡ true → o ≡ Equal
equal_of Equal e = refl
equal_of other e = absurd cc

names_put : (names : Names) (k : List (List ℕ)) (v : ℕ) → Lawful k → AreLawful names → AreLawful (insert names k v)
names_put names k v law h p n e = elim (eq_by_cmp path_cmp p k) as (λ b. eq_by_cmp path_cmp p k ≡ b → cond b (Some v) (get names p) ≡ Some n → Lawful p) [
  | true ↦ λ same is. subst Lawful (sym (path_same p k (equal_of (path_cmp p k) same))) law
  | false ↦ λ same is. h p n is
] refl (sym (get-insert path_total names k v p) ∙ e)

names_out : (names : Names) (k : List (List ℕ)) → AreLawful names → AreLawful (remove names k)
names_out names k h p n e = elim (eq_by_cmp path_cmp p k) as (λ b. cond b None (get names p) ≡ Some n → Lawful p) [ true ↦ λ is. cc is | false ↦ λ is. h p n is ] (sym (get-remove path_total names k p) ∙ e)

behind_is_lawful : (front path rest : List (List ℕ)) → Lawful path → strip front path ≡ Some rest → Lawful rest
behind_is_lawful [] path rest h e = subst Lawful (same_Some path rest e) h
behind_is_lawful (a ∷ front) [] rest h e = cc e
behind_is_lawful (a ∷ front) (b ∷ path) rest h e = elim (bytes_eq a b) as (λ t. (strip front path ≡ Some rest → Lawful rest) → (if t then strip front path else None) ≡ Some rest → Lawful rest) [
  | true ↦ λ later is. later is
  | false ↦ λ later is. cc is
] (behind_is_lawful front path rest (and_parts (is_name b) (list_all is_name path) h).1) e

both_lawful : (p q : List (List ℕ)) → Lawful p → Lawful q → Lawful (p ++ q)
both_lawful [] q h k = k
both_lawful (x ∷ p) q h k =
    let parts = and_parts (is_name x) (list_all is_name p) h in
    rw parts.0 (both_lawful p q parts.1 k)

moved_is_lawful : (from to path : List (List ℕ)) → Lawful to → Lawful path → Lawful (moved_path from to path)
moved_is_lawful from to path h k = elim (strip from path) as (λ o. ((rest : List (List ℕ)) → o ≡ Some rest → Lawful rest) → Lawful (moved_by to path o)) [
  | None ↦ λ later. k
  | Some rest ↦ λ later. both_lawful to rest h (later rest refl)
] (λ rest. behind_is_lawful from path rest k)

each_moved : (from to : List (List ℕ)) (es : List (List (List ℕ) × ℕ)) → Lawful to → Each (λ e. Lawful e.0) es → Each (λ (e : List (List ℕ) × ℕ). Lawful e.0) (map (λ e. (moved_path from to e.0, e.1)) es)
each_moved from to [] h k = tt
each_moved from to (e ∷ es) h k = (moved_is_lawful from to e.0 h k.0, each_moved from to es h k.1)

found_is_lawful : (es : List (List (List ℕ) × ℕ)) (q : List (List ℕ)) (n : ℕ) → Each (λ e. Lawful e.0) es → find path_cmp q es ≡ Some n → Lawful q
found_is_lawful [] q n h e = cc e
found_is_lawful (f ∷ es) q n h e = elim (eq_by_cmp path_cmp q f.0) as (λ b. eq_by_cmp path_cmp q f.0 ≡ b → (find path_cmp q es ≡ Some n → Lawful q) → cond b (Some f.1) (find path_cmp q es) ≡ Some n → Lawful q) [
  | true ↦ λ same later is. subst Lawful (sym (path_same q f.0 (equal_of (path_cmp q f.0) same))) h.0
  | false ↦ λ same later is. later is
] refl (found_is_lawful es q n h.1) e

names_moved : (names : Names) (from to : List (List ℕ)) → Lawful to → AreLawful names → AreLawful (renamed names from to)
names_moved names from to law h p n e =
    let es = map (λ (e : List (List ℕ) × ℕ). (moved_path from to e.0, e.1)) (entries names) in
    found_is_lawful es p n (each_moved from to (entries names) law (each_of (λ e is. h e.0 e.1 is) (entries names) (entry_each path_total names))) (sym (get-from_entries path_total es p) ∙ e)

-- ---- bytes

abbrev HaveBytes : Nodes → Type 0
HaveBytes nodes = (n : ℕ) (bytes : List ℕ) → get nodes n ≡ Some (File bytes) → AreBytes bytes

nodes_put : (nodes : Nodes) (k : ℕ) (x : Thing) → ThingBytes x → HaveBytes nodes → HaveBytes (insert nodes k x)
nodes_put nodes k x law h n bytes e = elim (eq_by_cmp nat_cmp n k) as (λ b. cond b (Some x) (get nodes n) ≡ Some (File bytes) → AreBytes bytes) [
  | true ↦ λ is. subst ThingBytes (same_Some x (File bytes) is) law
  | false ↦ λ is. h n bytes is
] (sym (get-insert nat_cmp_total nodes k x n) ∙ e)

nodes_out : (nodes : Nodes) (k : ℕ) → HaveBytes nodes → HaveBytes (remove nodes k)
nodes_out nodes k h n bytes e = elim (eq_by_cmp nat_cmp n k) as (λ b. cond b None (get nodes n) ≡ Some (File bytes) → AreBytes bytes) [
  | true ↦ λ is. cc is
  | false ↦ λ is. h n bytes is
] (sym (get-remove nat_cmp_total nodes k n) ∙ e)

pub all_join : (xs ys : List ℕ) → AreBytes xs → AreBytes ys → AreBytes (xs ++ ys)
all_join [] ys h k = k
all_join (x ∷ xs) ys h k =
    let parts = and_parts (nat_lt x 256) (list_all (λ b. nat_lt b 256) xs) h in
    rw parts.0 (all_join xs ys parts.1 k)

pub all_take : (n : ℕ) (xs : List ℕ) → AreBytes xs → AreBytes (take n xs)
all_take (suc n) (x ∷ xs) h =
    let parts = and_parts (nat_lt x 256) (list_all (λ b. nat_lt b 256) xs) h in
    rw parts.0 (all_take n xs parts.1)
all_take other xs h = refl

pub all_drop : (n : ℕ) (xs : List ℕ) → AreBytes xs → AreBytes (drop n xs)
all_drop zero xs h = h
all_drop (suc n) [] h = refl
all_drop (suc n) (x ∷ xs) h = all_drop n xs (and_parts (nat_lt x 256) (list_all (λ b. nat_lt b 256) xs) h).1

all_copies : (n b : ℕ) → nat_lt b 256 ≡ true → AreBytes (replicate n b)
all_copies zero b h = refl
all_copies (suc n) b h = rw h (all_copies n b h)

written_bytes : (off : ℕ) (ys xs : List ℕ) → AreBytes ys → AreBytes xs → AreBytes (written off ys xs)
written_bytes off ys xs h k =
    all_join (take off (xs ++ replicate (off - length xs) 0)) (ys ++ drop (off + length ys) xs)
    (all_take off (xs ++ replicate (off - length xs) 0) (all_join xs (replicate (off - length xs) 0) k (all_copies (off - length xs) 0 refl)))
    (all_join ys (drop (off + length ys) xs) h (all_drop (off + length ys) xs k))

resized_bytes : (size : ℕ) (xs : List ℕ) → AreBytes xs → AreBytes (resized size xs)
resized_bytes size xs h = all_take size (xs ++ replicate (size - length xs) 0) (all_join xs (replicate (size - length xs) 0) h (all_copies (size - length xs) 0 refl))

-- ---- changes of a tree

-- What each change of a tree keeps.
record IsKept (P : Tree → Type 0) : Type 0 where
  made : (limit : ℕ) (t : Tree) (path : List (List ℕ)) (thing : Thing) → Lawful path → ThingBytes thing → P t → P (added limit t path thing)
  changed : (t : Tree) (path : List (List ℕ)) (change : List ℕ → List ℕ) → ((xs : List ℕ) → AreBytes xs → AreBytes (change xs)) → P t → P (edited t path change)
  tied : (t : Tree) (path other : List (List ℕ)) → Lawful other → P t → P (linked t path other)
  gone : (t : Tree) (path : List (List ℕ)) → P t → P (removed t path)
  shifted : (t : Tree) (from to : List (List ℕ)) → Lawful to → P t → P (moved t from to)
  snapped : (t : Tree) (name : List ℕ) (o : Option ℕ) → is_name name ≡ true → P t → P (snapped_by t name o)
  unsnapped : (t : Tree) (name : List ℕ) → P t → P (unsnapped t name)

names_kept : IsKept HasLawfulNames
names_kept = record {
  made = λ limit t path thing law bytes h. make t path thing law h (least_unused limit t);
  changed = λ t path change same h. change_at t change h (get t.names path);
  tied = λ t path other law h. link t other law h (get t.names path);
  gone = λ t path h. out t path h (get t.names path);
  shifted = λ t from to law h. names_moved t.names from to law h;
  snapped = λ t name o law h. snap t name h o;
  unsnapped = λ t name h. h;
}
  where
    snap : (t : Tree) (name : List ℕ) → HasLawfulNames t → (o : Option ℕ) → HasLawfulNames (snapped_by t name o)
    snap t name h None = h
    snap t name h (Some n) = h

    make : (t : Tree) (path : List (List ℕ)) (thing : Thing) → Lawful path → HasLawfulNames t → (o : Option ℕ) → HasLawfulNames (with_node t path thing o)
    make t path thing law h None = h
    make t path thing law h (Some n) = names_put t.names path n law h

    change_at : (t : Tree) (change : List ℕ → List ℕ) → HasLawfulNames t → (o : Option ℕ) → HasLawfulNames (edited_at t change o)
    change_at t change h None = h
    change_at t change h (Some n) = h

    link : (t : Tree) (other : List (List ℕ)) → Lawful other → HasLawfulNames t → (o : Option ℕ) → HasLawfulNames (linked_by t other o)
    link t other law h None = h
    link t other law h (Some n) = names_put t.names other n law h

    out : (t : Tree) (path : List (List ℕ)) → HasLawfulNames t → (o : Option ℕ) → HasLawfulNames (removed_by t path o)
    out t path h None = h
    out t path h (Some n) = names_out t.names path h

bytes_kept : IsKept HasBytes
bytes_kept = record {
  made = λ limit t path thing law bytes h. make t path thing bytes h (least_unused limit t);
  changed = λ t path change same h. change_at t change same h (get t.names path);
  tied = λ t path other law h. link t other h (get t.names path);
  gone = λ t path h. out t path h (get t.names path);
  shifted = λ t from to law h. h;
  snapped = λ t name o law h. snap t name h o;
  unsnapped = λ t name h. h;
}
  where
    snap : (t : Tree) (name : List ℕ) → HasBytes t → (o : Option ℕ) → HasBytes (snapped_by t name o)
    snap t name h None = h
    snap t name h (Some n) = h

    make : (t : Tree) (path : List (List ℕ)) (thing : Thing) → ThingBytes thing → HasBytes t → (o : Option ℕ) → HasBytes (with_node t path thing o)
    make t path thing bytes h None = h
    make t path thing bytes h (Some n) = nodes_put t.nodes n thing bytes h

    node_at : (nodes : Nodes) (n : ℕ) (change : List ℕ → List ℕ) → ((xs : List ℕ) → AreBytes xs → AreBytes (change xs)) → HaveBytes nodes → (o : Option Thing) → get nodes n ≡ o
        → HaveBytes (with_bytes nodes n change o)
    node_at nodes n change same h (Some (File bytes)) is = nodes_put nodes n (File (change bytes)) (same bytes (h n bytes is)) h
    node_at nodes n change same h other is = h

    change_at : (t : Tree) (change : List ℕ → List ℕ) → ((xs : List ℕ) → AreBytes xs → AreBytes (change xs)) → HasBytes t → (o : Option ℕ) → HasBytes (edited_at t change o)
    change_at t change same h None = h
    change_at t change same h (Some n) = node_at t.nodes n change same h (get t.nodes n) refl

    link : (t : Tree) (other : List (List ℕ)) → HasBytes t → (o : Option ℕ) → HasBytes (linked_by t other o)
    link t other h None = h
    link t other h (Some n) = h

    unused : (nodes : Nodes) (n : ℕ) → HaveBytes nodes → (b : Bool) → HaveBytes (if b then remove nodes n else nodes)
    unused nodes n h true = nodes_out nodes n h
    unused nodes n h false = h

    out : (t : Tree) (path : List (List ℕ)) → HasBytes t → (o : Option ℕ) → HasBytes (removed_by t path o)
    out t path h None = h
    out t path h (Some n) = unused t.nodes n h (path_count (remove t.names path) n == 0)

-- ---- with what snapshots keep

name_total : IsTotalOrder (slice_cmp nat_cmp)
name_total = lists_total nat_cmp_total

name_same : IsAntisymmetric (slice_cmp nat_cmp)
name_same = slice_cmp-IsAntisymmetric nat_cmp-IsAntisymmetric

-- what is kept of a tree, with what holds of each snapshot if the tree is so as it is made
module _ (Q : Tree → Type 0) (R : List ℕ → Tree → Type 0) (q : IsKept Q) (so : (name : List ℕ) (t : Tree) → is_name name ≡ true → Q t → R name (alone t.names t.nodes)) where
  with_snapshots : IsKept (λ t. Q t × OfEachSnapshot R t)
  with_snapshots = record {
    made = λ limit t path thing law bytes h. (q.made limit t path thing law bytes h.0, make t path thing h.1 (least_unused limit t));
    changed = λ t path change same h. (q.changed t path change same h.0, change_at t change h.1 (get t.names path));
    tied = λ t path other law h. (q.tied t path other law h.0, link t other h.1 (get t.names path));
    gone = λ t path h. (q.gone t path h.0, out t path h.1 (get t.names path));
    shifted = λ t from to law h. (q.shifted t from to law h.0, h.1);
    snapped = λ t name o law h. (q.snapped t name o law h.0, snap t name law h o);
    unsnapped = λ t name h. (q.unsnapped t name h.0, unsnap t name h.1);
  }
    where
      make : (t : Tree) (path : List (List ℕ)) (thing : Thing) → OfEachSnapshot R t → (o : Option ℕ) → OfEachSnapshot R (with_node t path thing o)
      make t path thing h None = h
      make t path thing h (Some n) = h

      change_at : (t : Tree) (change : List ℕ → List ℕ) → OfEachSnapshot R t → (o : Option ℕ) → OfEachSnapshot R (edited_at t change o)
      change_at t change h None = h
      change_at t change h (Some n) = h

      link : (t : Tree) (other : List (List ℕ)) → OfEachSnapshot R t → (o : Option ℕ) → OfEachSnapshot R (linked_by t other o)
      link t other h None = h
      link t other h (Some n) = h

      out : (t : Tree) (path : List (List ℕ)) → OfEachSnapshot R t → (o : Option ℕ) → OfEachSnapshot R (removed_by t path o)
      out t path h None = h
      out t path h (Some n) = h

      snap : (t : Tree) (name : List ℕ) → is_name name ≡ true → Q t × OfEachSnapshot R t → (o : Option ℕ) → OfEachSnapshot R (snapped_by t name o)
      snap t name law h None = h.1
      snap t name law h (Some n) = λ p k e. elim (eq_by_cmp (slice_cmp nat_cmp) p name) as (λ b. eq_by_cmp (slice_cmp nat_cmp) p name ≡ b → cond b (Some (kept_of n t)) (get t.snapshots p) ≡ Some k → R p (kept_tree k)) [
        | true ↦ λ same is. subst (λ (x : List ℕ). R x (kept_tree k)) (sym (name_same p name (equal_of (slice_cmp nat_cmp p name) same))) (subst (λ (x : Kept). R name (kept_tree x)) (same_Some (kept_of n t) k is) (so name t law h.0))
        | false ↦ λ same is. h.1 p k is
      ] refl (sym (get-insert name_total t.snapshots name (kept_of n t) p) ∙ e)

      unsnap : (t : Tree) (name : List ℕ) → OfEachSnapshot R t → OfEachSnapshot R (unsnapped t name)
      unsnap t name h p k e = elim (eq_by_cmp (slice_cmp nat_cmp) p name) as (λ b. cond b None (get t.snapshots p) ≡ Some k → R p (kept_tree k)) [ true ↦ λ is. cc is | false ↦ λ is. h p k is ] (sym (get-remove name_total t.snapshots name p) ∙ e)

-- ---- commands

module _ (P : Tree → Type 0) (kept : IsKept P) where
  write_keeps : (s : Session) (path : List (List ℕ)) (offset : ℕ) (bytes : List ℕ) → AreBytes bytes → P s.tree → P (write s path offset bytes).0.tree
  write_keeps s path offset bytes law h = elim (length bytes == 0) as (λ b. P (if b then (s, Done) else changed_to s (edited s.tree path (written offset bytes))).0.tree) [
    | true ↦ h
    | false ↦ kept.changed s.tree path (written offset bytes) (λ xs k. written_bytes offset bytes xs law k) h
  ]

  truncate_keeps : (s : Session) (path : List (List ℕ)) (size : ℕ) → P s.tree → P (truncate s path size).0.tree
  truncate_keeps s path size h = elim (size == length (content s.tree path)) as (λ b. P (if b then (s, Done) else changed_to s (edited s.tree path (resized size))).0.tree) [
    | true ↦ h
    | false ↦ kept.changed s.tree path (resized size) (resized_bytes size) h
  ]

  rename_keeps : (s : Session) (from to : List (List ℕ)) → Lawful to → P s.tree → P (rename s from to).0.tree
  rename_keeps s from to law h = elim (is_same_node s.tree from to) as (λ b. P (if b then (s, Done) else changed_to s (moved (removed s.tree to) from to)).0.tree) [
    | true ↦ h
    | false ↦ kept.shifted (removed s.tree to) from to law (kept.gone s.tree to h)
  ]

  sync_keeps : (s : Session) (changed : Bool) → P s.tree → P (osync s changed).0.tree
  sync_keeps s true h = h
  sync_keeps s false h = h

  wait_keeps : (s : Session) (n : ℕ) (b : Bool) → P s.tree → P (dwait s n b).0.tree
  wait_keeps s n true h = h
  wait_keeps s n false h = h

  accepted_keeps : (s : Session) (cmd : Cmd) → IsCommand cmd → P s.tree → P (accepted s cmd).0.tree
  accepted_keeps s (Mkdir path) law h = kept.made s.limit.nodes s.tree path Dir law tt h
  accepted_keeps s (Create path) law h = kept.made s.limit.nodes s.tree path (File []) law refl h
  accepted_keeps s (Write path offset bytes) law h =
      let names = and_parts (list_all is_name path) _ law in
      let numbers = and_parts (fits offset) _ names.1 in
      write_keeps s path offset bytes (and_parts (nat_lt 0 (length bytes)) (list_all (λ b. nat_lt b 256) bytes) numbers.1).1 h
  accepted_keeps s (Fill path offset count byte) law h =
      let names = and_parts (list_all is_name path) _ law in
      let numbers = and_parts (fits offset) _ names.1 in
      let low = (and_parts (fits count) (nat_le byte 255) numbers.1).1 in
      write_keeps s path offset (replicate count byte) (all_copies count byte (byte_low byte low)) h
    where
      byte_low : (b : ℕ) → nat_le b 255 ≡ true → nat_lt b 256 ≡ true
      byte_low b k = grind (arith, tests)
  accepted_keeps s (Truncate path size) law h = truncate_keeps s path size h
  accepted_keeps s (Link path other) law h = kept.tied s.tree path other (and_parts (list_all is_name path) (list_all is_name other) law).1 h
  accepted_keeps s (Unlink path) law h = kept.gone s.tree path h
  accepted_keeps s (Rmdir path) law h = kept.gone s.tree path h
  accepted_keeps s (Rename from to) law h = rename_keeps s from to (and_parts (list_all is_name from) (list_all is_name to) law).1 h
  accepted_keeps s (Snap name) law h = kept.snapped s.tree name (least_unused s.limit.nodes s.tree) (snapshot_name name law) h
  accepted_keeps s (Unsnap name) law h = kept.unsnapped s.tree name h
  accepted_keeps s Osync law h = sync_keeps s s.changed h
  accepted_keeps s Dsync law h = sync_keeps s s.changed h
  accepted_keeps s (Dwait n) law h = wait_keeps s n (nat_le n s.points) h
  accepted_keeps s other law h = h

  step_keeps : (s : Session) (cmd : Cmd) → IsCommand cmd → P s.tree → P (step s cmd).0.tree
  step_keeps s cmd law h = elim (refusal s.limit s.tree cmd) as (λ o. P (answered s cmd o).0.tree) [ None ↦ accepted_keeps s cmd law h | Some why ↦ h ]

pub step_names : (s : Session) (cmd : Cmd) → IsCommand cmd → HasLawfulNames s.tree → HasLawfulNames (step s cmd).0.tree
step_names = step_keeps HasLawfulNames names_kept

pub step_bytes : (s : Session) (cmd : Cmd) → IsCommand cmd → HasBytes s.tree → HasBytes (step s cmd).0.tree
step_bytes = step_keeps HasBytes bytes_kept

-- the same of what snapshots keep

abbrev pub AllNamed : Tree → Type 0
AllNamed t = HasLawfulNames t × OfEachSnapshot (λ name u. (is_name name ≡ true) × HasLawfulNames u) t

abbrev pub AllBytes : Tree → Type 0
AllBytes t = HasBytes t × OfEachSnapshot (λ name u. HasBytes u) t

pub step_named : (s : Session) (cmd : Cmd) → IsCommand cmd → AllNamed s.tree → AllNamed (step s cmd).0.tree
step_named = step_keeps AllNamed (with_snapshots HasLawfulNames (λ name u. (is_name name ≡ true) × HasLawfulNames u) names_kept (λ name t law h. (law, h)))

pub step_all_bytes : (s : Session) (cmd : Cmd) → IsCommand cmd → AllBytes s.tree → AllBytes (step s cmd).0.tree
step_all_bytes = step_keeps AllBytes (with_snapshots HasBytes (λ name u. HasBytes u) bytes_kept (λ name t law h. h))

pub start_names : (limit : Bounds) → HasLawfulNames (start limit).tree
start_names limit = names_put empty [] 1 refl (λ p n e. absurd (none-some n (sym (get-empty path_cmp p) ∙ e)))

pub start_bytes : (limit : Bounds) → HasBytes (start limit).tree
start_bytes limit = nodes_put empty 1 Dir tt (λ n bytes e. absurd (none-some (File bytes) (sym (get-empty nat_cmp n) ∙ e)))

none_first : (R : List ℕ → Tree → Type 0) (limit : Bounds) → OfEachSnapshot R (start limit).tree
none_first R limit name k e = absurd (none-some k (sym (get-empty (slice_cmp nat_cmp) name) ∙ e))

pub start_named : (limit : Bounds) → AllNamed (start limit).tree
start_named limit = (start_names limit, none_first (λ name u. (is_name name ≡ true) × HasLawfulNames u) limit)

pub start_all_bytes : (limit : Bounds) → AllBytes (start limit).tree
start_all_bytes limit = (start_bytes limit, none_first (λ name u. HasBytes u) limit)
