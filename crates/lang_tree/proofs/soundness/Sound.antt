-- A sound tree stays sound under each command, its greatest number stays, and the empty root is sound.
use Rattle.std.proofs.Common.{◌≡◌, ℕ, ◌≤◌, ◌==◌, Bool, true, false, List, [], ◌∷◌, ◌++◌, length, replicate, Option, Some, None, sym, refl, ap, ◌∙◌, ◌⊎◌, inl, inr, arith, if◌then◌else◌, nat_le}
use Rattle.std.specs.Cmp.{nat_cmp_total}
use Rattle.std.specs.FinMap.{nat_cmp-IsAntisymmetric, get, insert, empty, get-empty}
use Rattle.std.specs.Ordering.{nat_cmp}
use Rattle.std.proofs.lemmas.Option.{same_Some, none-some}
use Rattle.base_types.specs.declared.layout.Layout.{Layout}
use Rattle.lang_tree.specs.declared.command.Cmd.{Cmd}
use Rattle.lang_tree.specs.declared.command.Cmd.TheVariants.{Mkdir, Create, Write, Fill, Read, Truncate, Link, Unlink, Rmdir, Rename, Stat, List as ListNames, Snap, Unsnap, Snaps, At, Osync, Dsync, Durable, Dwait, Poll, Bad}
use Rattle.lang_tree.specs.declared.command.Reply.{Reply}
use Rattle.lang_tree.specs.declared.command.Reply.TheVariants.{Ok as Done}
use Rattle.lang_tree.specs.declared.command.Refusal.{Refusal}
use Rattle.lang_tree.specs.declared.command.Refusal.TheVariants.{IsDir}
use Rattle.lang_tree.specs.Tree.{Tree, Bounds, Names, Nodes, Snapshots, Thing, Dir, File, IsSound, path_cmp}
use Rattle.lang_tree.specs.Paths.{parent}
use Rattle.lang_tree.specs.Names.{holds_names}
use Rattle.lang_tree.specs.Walk.{walk_refusal, thing_at, is_dir, is_file, is_same_node, content}
use Rattle.lang_tree.specs.Conditions.{when, least_unused, file_refusal, link_refusal, rmdir_refusal, refusal}
use Rattle.lang_tree.specs.Step.{Session, start, step, answered, changed_to, edited, written, resized, linked_by, linked, removed, moved, snapped, snapped_by, unsnapped, osync, dwait}
use Rattle.lang_tree.proofs.basics.Order.{path_total, path_same}
use Rattle.lang_tree.proofs.basics.Strips.{lacks, no_append}
use Rattle.lang_tree.proofs.basics.Finds.{put_here, look}
use Rattle.lang_tree.proofs.walking.Found.{link_reasons, no_reason, no_reasons, not_so, thing_is, walked_there, parent_is, nothing_below_file, target_apart}
use Rattle.lang_tree.proofs.soundness.SoundChanges.{with_link, added_sound, edited_sound}
use Rattle.lang_tree.proofs.soundness.SoundMoves.{removed_sound, moved_onto_sound}

-- What a removal that isn't refused finds: something is there, below it lies nothing, and it isn't the root.
pub record CanGo (t : Tree) (path : List (List ℕ)) : Type 0 where
  pub number : ℕ
  pub at : get t.names path ≡ Some number
  pub free : holds_names t.names path ≡ false
  pub below_root : path ≡ [] → ⊥

module _ (limit : ℕ) (t : Tree) (s : IsSound limit t) where
  -- what is there and isn't a directory is a file
  pub file_there : (path : List (List ℕ)) (n : ℕ) → get t.names path ≡ Some n → is_dir (thing_at t path) ≡ false → (bytes : List ℕ) × (get t.nodes n ≡ Some (File bytes))
  file_there path n at no_dir = grind (arith, s.named path n at, thing_at t path, s.named, t.nodes, thing_is)

  linked_sound : (l : Layout) (path other : List (List ℕ)) → link_refusal l t path other ≡ None → IsSound limit (linked t path other)
  linked_sound l path other e =
      let r = link_reasons l t path other e in
      let free : get t.names other ≡ None = lacks (get t.names other) r.2 in
      let up = parent_is t other s.root (λ root. none-some 1 (sym (ap (get t.names) (sym root) ∙ free) ∙ s.root)) r.1 in
      by (get t.names path) refl free r.3 up
    where
      by : (o : Option ℕ) → get t.names path ≡ o → get t.names other ≡ None → is_dir (thing_at t path) ≡ false → (k : ℕ) × (get t.names (parent other) ≡ Some k) × (get t.nodes k ≡ Some Dir)
          → IsSound limit (linked_by t other o)
      by None at free file up = s
      by (Some n) at free file up = let f = file_there path n at file in with_link limit t s other n up.0 f.0 free f.1 up.1 up.2

  -- a path of a file can go
  pub can_unlink : (path : List (List ℕ)) → file_refusal t path ≡ None → CanGo t path
  can_unlink path e =
      let one = no_reason (walk_refusal t path) (when (is_dir (thing_at t path)) IsDir ∷ []) e in
      let two = no_reason (when (is_dir (thing_at t path)) IsDir) [] one.1 in
      let file = not_so (is_dir (thing_at t path)) IsDir two.0 in
      let n = walked_there t path s.root one.0 in
      let f = file_there path n.0 n.1 file in
      let is : is_file (thing_at t path) ≡ true = ap is_file (thing_is t path n.0 (File f.0) n.1 f.1) in
      record { number = n.0; at = n.1; free = nothing_below_file limit t s path is; below_root = λ root. root_is_dir file root }
    where
      root_is_dir : is_dir (thing_at t path) ≡ false → path ≡ [] → ⊥
      root_is_dir file root = grind (arith, t.names, s.root, thing_is, s.root_dir)

  -- an empty directory can go
  pub can_rmdir : (path : List (List ℕ)) → rmdir_refusal t path ≡ None → CanGo t path
  can_rmdir path e = grind (arith, length path == 0, t.names, no_reason, no_reasons, walked_there, s.root, not_so)

  gone_sound : (path : List (List ℕ)) → CanGo t path → IsSound limit (removed t path)
  gone_sound path can = removed_sound limit t s path can.free can.below_root

-- what a tree's snapshots are is no matter of its soundness
pub with_snapshots_sound : (limit : ℕ) (t : Tree) (snapshots : Snapshots) → IsSound limit t → IsSound limit (record t { snapshots = snapshots })
with_snapshots_sound limit t snapshots s =
    record { root = s.root; root_dir = s.root_dir; parents = s.parents; named = s.named; reached = s.reached; one_path = s.one_path; within = s.within }

snapped_sound : (limit : ℕ) (t : Tree) → IsSound limit t → (name : List ℕ) → IsSound limit (snapped limit t name)
snapped_sound limit t s name = by (least_unused limit t)
  where
    by : (o : Option ℕ) → IsSound limit (snapped_by t name o)
    by None = s
    by (Some n) = with_snapshots_sound limit t _ s

unsnapped_sound : (limit : ℕ) (t : Tree) → IsSound limit t → (name : List ℕ) → IsSound limit (unsnapped t name)
unsnapped_sound limit t s name = with_snapshots_sound limit t _ s

abbrev pub Sound : Session → Type 0
Sound s = IsSound s.limit.nodes s.tree

-- what a command leaves is sound, and its greatest number is as it was
abbrev Stays : Session → Session × Reply → Type 0
Stays s answer = (IsSound s.limit.nodes answer.0.tree) × (answer.0.limit ≡ s.limit)

-- nothing changes where the test holds, and else this tree comes
choice_stays : (s : Session) (t : Tree) (b : Bool) → Sound s → (b ≡ false → IsSound s.limit.nodes t) → Stays s (if b then (s, Done) else changed_to s t)
choice_stays s t b h1 h2 = grind arith

osync_stays : (s : Session) (b : Bool) → Sound s → Stays s (osync s b)
osync_stays s b h1 = grind arith

dwait_stays : (s : Session) (n : ℕ) (b : Bool) → Sound s → Stays s (dwait s n b)
dwait_stays s n true ok = (ok, refl)
dwait_stays s n false ok = (ok, refl)

accepted_stays : (s : Session) (cmd : Cmd) → Sound s → refusal s.limit s.tree cmd ≡ None → Stays s (answered s cmd None)
accepted_stays s (Mkdir path) ok e = (added_sound s.limit.nodes s.tree ok s.limit.layout path Dir e, refl)
accepted_stays s (Create path) ok e = (added_sound s.limit.nodes s.tree ok s.limit.layout path (File []) e, refl)
accepted_stays s (Write path offset bytes) ok e = choice_stays s (edited s.tree path (written offset bytes)) (length bytes == 0) ok (λ _. edited_sound s.limit.nodes s.tree ok path (written offset bytes))
accepted_stays s (Fill path offset count byte) ok e =
    choice_stays s (edited s.tree path (written offset (replicate count byte))) (length (replicate count byte) == 0) ok (λ _. edited_sound s.limit.nodes s.tree ok path (written offset (replicate count byte)))
accepted_stays s (Read path offset count) ok e = (ok, refl)
accepted_stays s (Truncate path size) ok e = choice_stays s (edited s.tree path (resized size)) (size == length (content s.tree path)) ok (λ _. edited_sound s.limit.nodes s.tree ok path (resized size))
accepted_stays s (Link path other) ok e = (linked_sound s.limit.nodes s.tree ok s.limit.layout path other e, refl)
accepted_stays s (Unlink path) ok e = (gone_sound s.limit.nodes s.tree ok path (can_unlink s.limit.nodes s.tree ok path e), refl)
accepted_stays s (Rmdir path) ok e = (gone_sound s.limit.nodes s.tree ok path (can_rmdir s.limit.nodes s.tree ok path e), refl)
accepted_stays s (Rename from to) ok e =
    choice_stays s (moved (removed s.tree to) from to) (is_same_node s.tree from to) ok (λ other. moved_onto_sound s.limit.nodes s.tree ok from to (target_apart s.limit.nodes s.tree ok from to s.limit.layout e other))
accepted_stays s (Stat path) ok e = (ok, refl)
accepted_stays s (ListNames path) ok e = (ok, refl)
accepted_stays s (Snap name) ok e = (snapped_sound s.limit.nodes s.tree ok name, refl)
accepted_stays s (Unsnap name) ok e = (unsnapped_sound s.limit.nodes s.tree ok name, refl)
accepted_stays s Snaps ok e = (ok, refl)
accepted_stays s (At name l) ok e = (ok, refl)
accepted_stays s Osync ok e = osync_stays s s.changed ok
accepted_stays s Dsync ok e = osync_stays s s.changed ok
accepted_stays s Durable ok e = (ok, refl)
accepted_stays s (Dwait n) ok e = dwait_stays s n (nat_le n s.points) ok
accepted_stays s Poll ok e = (ok, refl)
accepted_stays s Bad ok e = (ok, refl)

answered_stays : (s : Session) (cmd : Cmd) (r : Option Refusal) → refusal s.limit s.tree cmd ≡ r → Sound s → Stays s (answered s cmd r)
answered_stays s cmd r h1 h2 = grind (arith, accepted_stays)

pub step_sound : (s : Session) (cmd : Cmd) → IsSound s.limit.nodes s.tree → IsSound s.limit.nodes (step s cmd).0.tree
step_sound s cmd ok = (answered_stays s cmd (refusal s.limit s.tree cmd) refl ok).0

-- The greatest number stays, sound or not.

choice_limit : (s : Session) (t : Tree) (b : Bool) → (if b then (s, Done) else changed_to s t).0.limit ≡ s.limit
choice_limit s t b = grind arith

osync_limit : (s : Session) (b : Bool) → (osync s b).0.limit ≡ s.limit
osync_limit s b = grind arith

dwait_limit : (s : Session) (n : ℕ) (b : Bool) → (dwait s n b).0.limit ≡ s.limit
dwait_limit s n true = refl
dwait_limit s n false = refl

answered_limit : (s : Session) (cmd : Cmd) (r : Option Refusal) → (answered s cmd r).0.limit ≡ s.limit
answered_limit s cmd r = grind (arith, choice_limit, s.tree, osync_limit, s.changed, dwait_limit, s.points)

pub step_limit : (s : Session) (cmd : Cmd) → (step s cmd).0.limit ≡ s.limit
step_limit s cmd = answered_limit s cmd (refusal s.limit s.tree cmd)

-- The empty root.

abbrev no_names : Names
no_names = empty

abbrev no_nodes : Nodes
no_nodes = empty

pub start_sound : (limit : Bounds) → 1 ≤ limit.nodes → IsSound limit.nodes (start limit).tree
start_sound limit low = record {
  root = put_here path_total no_names [] 1 [] refl;
  root_dir = put_here nat_cmp_total no_nodes 1 Dir 1 refl;
  parents = λ up name n e. absurd (no_append up name (name_by (up ++ name ∷ []) n e (look path_total path_same no_names [] 1 (up ++ name ∷ []))));
  named = λ p n e. (Dir, put_here nat_cmp_total no_nodes 1 Dir n (same_Some n 1 (sym e ∙ put_here path_total no_names [] 1 p (name_by p n e (look path_total path_same no_names [] 1 p)))));
  reached = λ n x e. ([], put_here path_total no_names [] 1 [] refl ∙ ap Some (sym (node_by n x e (look nat_cmp_total nat_cmp-IsAntisymmetric no_nodes 1 Dir n))));
  one_path = λ n p q dir at_p at_q. name_by p n at_p (look path_total path_same no_names [] 1 p) ∙ sym (name_by q n at_q (look path_total path_same no_names [] 1 q));
  within = λ n x e. let is = node_by n x e (look nat_cmp_total nat_cmp-IsAntisymmetric no_nodes 1 Dir n) in (omega (arith, is), omega (arith, is, low));
}
  where
    name_by : (p : List (List ℕ)) (n : ℕ) → get (insert no_names [] 1) p ≡ Some n → (p ≡ []) ⊎ (get (insert no_names [] 1) p ≡ get no_names p) → p ≡ []
    name_by p n e (inl is) = is
    name_by p n e (inr is) = absurd (none-some n (sym (is ∙ get-empty path_cmp p) ∙ e))

    node_by : (n : ℕ) (x : Thing) → get (insert no_nodes 1 Dir) n ≡ Some x → (n ≡ 1) ⊎ (get (insert no_nodes 1 Dir) n ≡ get no_nodes n) → n ≡ 1
    node_by n x e (inl is) = is
    node_by n x e (inr is) = absurd (none-some x (sym (is ∙ get-empty nat_cmp n) ∙ e))
