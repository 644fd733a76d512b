-- The reasons from outside the tree: none of them is one of the tree's own, and a run with some of them is one with more.
use Rattle.std.proofs.Common.{◌≡◌, ◌==◌, ◌⊎◌, ℕ, ◌+◌, nat_lt, nat_le, is_none, is_some, Bool, true, false, not, if◌then◌else◌, ◌&&◌, List, [], ◌∷◌, ◌++◌, length, Option, Some, None, Result, refl, ap, subst, arith}
use Rattle.std.proofs.lemmas.Bool.{false≢true}
use Rattle.std.specs.FinMap.{get}
use Rattle.base_types.specs.declared.layout.Layout.{Layout}
use Rattle.lang_tree.specs.declared.command.Cmd.{Cmd}
use Rattle.lang_tree.specs.declared.command.Cmd.TheVariants.{Mkdir, Create, Write, Fill, Read, Truncate, Link, Unlink, Rmdir, Rename, Stat, List as ListNames, Snap, Unsnap, Snaps, At, Osync, Dsync, Durable, Dwait, Poll, Bad}
use Rattle.lang_tree.specs.declared.command.Look.{Look}
use Rattle.lang_tree.specs.declared.command.Look.TheVariants as look
use Rattle.lang_tree.specs.declared.command.Reply.{Reply}
use Rattle.lang_tree.specs.declared.command.Reply.TheVariants.{Ok as Done, Refused}
use Rattle.lang_tree.specs.declared.command.Refusal.{Refusal}
use Rattle.lang_tree.specs.declared.command.Refusal.TheVariants.{Exists, NotDir, IsDir, NotEmpty, BelowItself, TooLarge, TooManyLinks, NoNode, NoMemory, NameTooLong, NoSnap}
use Rattle.lang_tree.specs.Tree.{Tree, Bounds, Kept, Thing, kept_tree}
use Rattle.lang_tree.specs.Paths.{is_too_long}
use Rattle.lang_tree.specs.Names.{holds_names}
use Rattle.lang_tree.specs.Walk.{walk_from, walk_refusal, parent_refusal, no_directory, refusal_in, enter, thing_at, is_dir, is_file, is_there, is_same_node, links}
use Rattle.lang_tree.specs.Conditions.{when, first_reason, brings_long_name, make_refusal, link_refusal, rename_refusal, refusal, file_refusal, list_refusal, look_refusal, at_refusal, onto_refusal, is_too_large, least_unused}
use Rattle.lang_tree.specs.Step.{Session, step, answered, changed_to, osync, dwait, stat_by, stat_of, seen, seen_in}
use Rattle.lang_tree.specs.Run.{Answers, Run, is_of_memory, is_of_disk}

-- whether a reason is none of the tree's own, where `long` says whether too long a name would come
abbrev is_wrong : Bool → Refusal → Bool
is_wrong long NameTooLong = not long
is_wrong long why = is_of_disk why

-- a reason of the tree's own, where there is one
abbrev Own : Bool → Option Refusal → Type 0
Own long None = Unit {0}
Own long (Some why) = is_wrong long why ≡ false

module _ (long : Bool) where
  first_own : (reason : Option Refusal) (later : List (Option Refusal)) → Own long reason → Own long (first_reason later) → Own long (first_reason (reason ∷ later))
  first_own reason later h1 h2 = grind arith

  when_own : (b : Bool) (why : Refusal) → is_wrong long why ≡ false → Own long (when b why)
  when_own b why h1 = grind arith

  one_own : (o : Option Refusal) (a : Bool) (x : Refusal) → Own long o → is_wrong long x ≡ false → Own long (first_reason (o ∷ when a x ∷ []))
  one_own o a x h1 h2 = grind arith

  two_own : (o : Option Refusal) (a b : Bool) (x y : Refusal) → Own long o → is_wrong long x ≡ false → is_wrong long y ≡ false → Own long (first_reason (o ∷ when a x ∷ when b y ∷ []))
  two_own o a b x y h1 h2 h3 = grind arith

  three_own : (o : Option Refusal) (a b c : Bool) (x y z : Refusal) → Own long o → is_wrong long x ≡ false → is_wrong long y ≡ false → is_wrong long z ≡ false
      → Own long (first_reason (o ∷ when a x ∷ when b y ∷ when c z ∷ []))
  three_own o a b c x y z h1 h2 h3 h4 = grind arith

  -- where the last reason is that the name is too long
  make_by_own : (o : Option Refusal) (a b : Bool) → Own long o → Own long (first_reason (o ∷ when a Exists ∷ when b NoNode ∷ when long NameTooLong ∷ []))
  make_by_own o a b h1 = grind arith

  link_by_own : (o : Option Refusal) (a b c : Bool) → Own long o
      → Own long (first_reason (o ∷ when a Exists ∷ when b IsDir ∷ when c TooManyLinks ∷ when long NameTooLong ∷ []))
  link_by_own o a b c h1 = grind arith

  onto_by_own : (o : Option Refusal) → Own long o → Own long (first_reason (o ∷ when long NameTooLong ∷ []))
  onto_by_own o h1 = grind arith

  enter_own : (there : Bool) (found : Option ℕ) (on : ℕ → Result ℕ Refusal) → ((n : ℕ) → Own long (refusal_in (on n))) → Own long (refusal_in (enter there found on))
  enter_own there found on h1 = grind arith

  walk_own : (t : Tree) (here : List (List ℕ)) (n : ℕ) (rest : List (List ℕ)) → Own long (refusal_in (walk_from t here n rest))
  walk_own t here n [] = tt
  walk_own t here n (name ∷ rest) = grind (arith, λ (m : ℕ). walk_own t (here ++ name ∷ []) m rest, enter_own, t.nodes, t.names)

  a_walk : (t : Tree) (path : List (List ℕ)) → Own long (walk_refusal t path)
  a_walk t path = walk_own t [] 1 path

  directory_own : (t : Tree) (walked : Result ℕ Refusal) → Own long (refusal_in walked) → Own long (no_directory t walked)
  directory_own t walked h1 = grind (arith, t.nodes)

  a_parent : (t : Tree) (path : List (List ℕ)) → Own long (parent_refusal t path)
  a_parent t path = grind (arith, directory_own, a_walk)

  onto_by : (a b c d : Bool) → Own long (first_reason (when a NotDir ∷ when b IsDir ∷ when c NotEmpty ∷ when d BelowItself ∷ []))
  onto_by a b c d = grind arith

  onto_own : (t : Tree) (from to : List (List ℕ)) → Own long (onto_refusal t from to)
  onto_own t from to = grind (arith, onto_by, t.names)

  elsewhere_own : (same : Bool) (reason : Option Refusal) → Own long reason → Own long (if same then None else reason)
  elsewhere_own same reason h1 = grind arith

  file_own : (t : Tree) (path : List (List ℕ)) → Own long (file_refusal t path)
  file_own t path = one_own (walk_refusal t path) (is_dir (thing_at t path)) IsDir (a_walk t path) refl

  list_own : (t : Tree) (path : List (List ℕ)) → Own long (list_refusal t path)
  list_own t path = one_own (walk_refusal t path) (is_file (thing_at t path)) NotDir (a_walk t path) refl

  look_own : (t : Tree) (l : Look) → Own long (look_refusal t l)
  look_own t (look.Read path offset count) = file_own t path
  look_own t (look.Stat path) = a_walk t path
  look_own t (look.List path) = list_own t path

  at_own : (o : Option Kept) (l : Look) → Own long (at_refusal o l)
  at_own None l = refl
  at_own (Some k) l = look_own (kept_tree k) l

  large_own : (t : Tree) (path : List (List ℕ)) (large : Bool) → Own long (first_reason (walk_refusal t path ∷ when (is_dir (thing_at t path)) IsDir ∷ when large TooLarge ∷ []))
  large_own t path large = two_own (walk_refusal t path) (is_dir (thing_at t path)) large IsDir TooLarge (a_walk t path) refl refl

make_own : (limit : Bounds) (t : Tree) (path : List (List ℕ)) → Own (is_too_long limit.layout path) (make_refusal limit t path)
make_own limit t path =
    let long = is_too_long limit.layout path in make_by_own long (parent_refusal t path) (is_there t path) (is_none (least_unused limit.nodes t)) (a_parent long t path)

link_own : (l : Layout) (t : Tree) (path other : List (List ℕ)) → Own (is_too_long l other) (link_refusal l t path other)
link_own l t path other =
    let long = is_too_long l other in
    first_own long (walk_refusal t path)
    (parent_refusal t other ∷ when (is_there t other) Exists ∷ when (is_dir (thing_at t path)) IsDir ∷ when (nat_le 65535 (links t path)) TooManyLinks ∷ when long NameTooLong ∷ [])
    (a_walk long t path) (link_by_own long (parent_refusal t other) (is_there t other) (is_dir (thing_at t path)) (nat_le 65535 (links t path)) (a_parent long t other))

rename_own : (l : Layout) (t : Tree) (from to : List (List ℕ)) → Own (is_too_long l to) (rename_refusal l t from to)
rename_own l t from to =
    let long = is_too_long l to in
    let onto : Option Refusal = if is_same_node t from to then None else onto_refusal t from to in
    first_own long (walk_refusal t from) (parent_refusal t to ∷ onto ∷ when long NameTooLong ∷ []) (a_walk long t from)
    (first_own long (parent_refusal t to) (onto ∷ when long NameTooLong ∷ []) (a_parent long t to)
    (onto_by_own long onto (elsewhere_own long (is_same_node t from to) (onto_refusal t from to) (onto_own long t from to))))

refusal_own : (limit : Bounds) (t : Tree) (cmd : Cmd) → Own (brings_long_name limit.layout cmd) (refusal limit t cmd)
refusal_own limit t (Mkdir path) = make_own limit t path
refusal_own limit t (Create path) = make_own limit t path
refusal_own limit t (Write path offset bytes) = large_own false t path (nat_lt 0 (length bytes) && is_too_large (offset + length bytes))
refusal_own limit t (Fill path offset count byte) = large_own false t path (nat_lt 0 count && is_too_large (offset + count))
refusal_own limit t (Read path offset count) = file_own false t path
refusal_own limit t (Truncate path size) = large_own false t path (is_too_large size)
refusal_own limit t (Link path other) = link_own limit.layout t path other
refusal_own limit t (Unlink path) = file_own false t path
refusal_own limit t (Rmdir path) =
    three_own false (walk_refusal t path) (is_file (thing_at t path)) (holds_names t.names path) (length path == 0) NotDir NotEmpty BelowItself (a_walk false t path) refl refl refl
refusal_own limit t (Rename from to) = rename_own limit.layout t from to
refusal_own limit t (Stat path) = a_walk false t path
refusal_own limit t (ListNames path) = list_own false t path
refusal_own limit t (Snap name) =
    one_own false (when (is_some (get t.snapshots name)) Exists) (is_none (least_unused limit.nodes t)) NoNode (when_own false (is_some (get t.snapshots name)) Exists refl) refl
refusal_own limit t (Unsnap name) = when_own false (is_none (get t.snapshots name)) NoSnap refl
refusal_own limit t Snaps = tt
refusal_own limit t (At name l) = at_own false (get t.snapshots name) l
refusal_own limit t Osync = tt
refusal_own limit t Dsync = tt
refusal_own limit t Durable = tt
refusal_own limit t (Dwait n) = tt
refusal_own limit t Poll = tt
refusal_own limit t Bad = tt

-- a reason of the tree's own comes from no disk
own_only : (long : Bool) (why : Refusal) → is_wrong long why ≡ false → is_of_disk why ≡ false
own_only long why h1 = grind arith

-- Names that are too long.

-- such a reason comes only of too long a name
pub long_alone : (limit : Bounds) (t : Tree) (cmd : Cmd) → refusal limit t cmd ≡ Some NameTooLong → brings_long_name limit.layout cmd ≡ true
long_alone limit t cmd e = by (brings_long_name limit.layout cmd) (subst (Own (brings_long_name limit.layout cmd)) e (refusal_own limit t cmd))
  where
    by : (long : Bool) → is_wrong long NameTooLong ≡ false → long ≡ true
    by true is = refl
    by false is = absurd cc

-- a reply that is no refusal, or one of the tree's own
abbrev OwnReply : Reply → Type 0
OwnReply (Refused why) = is_of_disk why ≡ false
OwnReply _ = Unit {0}

choice_own : (s : Session) (t : Tree) (b : Bool) → OwnReply (if b then (s, Done) else changed_to s t).1
choice_own s t b = grind arith

osync_own : (s : Session) (changed : Bool) → OwnReply (osync s changed).1
osync_own s changed = grind arith

stat_thing : (t : Tree) (path : List (List ℕ)) (n : ℕ) (thing : Option Thing) → OwnReply (stat_of t path n thing)
stat_thing t path n thing = grind arith

stat_own : (t : Tree) (path : List (List ℕ)) (found : Option ℕ) → OwnReply (stat_by t path found)
stat_own t path found = grind (arith, stat_thing, t.nodes)

seen_own : (t : Tree) (l : Look) → OwnReply (seen t l)
seen_own t (look.Read path offset count) = tt
seen_own t (look.Stat path) = stat_own t path (get t.names path)
seen_own t (look.List path) = tt

kept_own : (o : Option Kept) (l : Look) → OwnReply (seen_in o l)
kept_own None l = refl
kept_own (Some k) l = seen_own (kept_tree k) l

dwait_own : (s : Session) (n : ℕ) (b : Bool) → OwnReply (dwait s n b).1
dwait_own s n true = tt
dwait_own s n false = refl

answered_own : (s : Session) (cmd : Cmd) (long : Bool) (r : Option Refusal) → Own long r → OwnReply (answered s cmd r).1
answered_own s cmd long (Some why) h1 = own_only long why h1
answered_own s cmd long None h1 = grind (arith, choice_own, s.tree, stat_own, s.tree.names, kept_own, osync_own, s.changed, dwait_own, s.points)

step_own : (s : Session) (cmd : Cmd) → OwnReply (step s cmd).1
step_own s cmd = answered_own s cmd (brings_long_name s.limit.layout cmd) (refusal s.limit s.tree cmd) (refusal_own s.limit s.tree cmd)

memory_is : (why : Refusal) → is_of_memory why ≡ true → why ≡ NoMemory
memory_is why h1 = grind arith

pub memory_alone : (old new : Session) (cmd : Cmd) (why : Refusal) → Answers is_of_memory old cmd (Refused why) new → (is_of_disk why ≡ false) ⊎ (why ≡ NoMemory)
memory_alone old new cmd why h1 = grind (arith, step_own, memory_is, false≢true)

pub memory_exact : (old new : Session) (cmd : Cmd) (reply : Reply) → Answers is_of_memory old cmd reply new → (step old cmd ≡ (new, reply)) ⊎ ((reply ≡ Refused NoMemory) × (new ≡ old))
memory_exact old new cmd reply h1 = grind (arith, memory_is, false≢true)

-- More reasons from outside, and the same runs.

answer_more : (few more : Refusal → Bool) → ((why : Refusal) → few why ≡ true → more why ≡ true) → (old new : Session) (cmd : Cmd) (reply : Reply)
    → Answers few old cmd reply new → Answers more old cmd reply new
answer_more few more h1 old new cmd reply h2 = grind arith

run_wider : (few more : Refusal → Bool) → ((why : Refusal) → few why ≡ true → more why ≡ true) → (s : Session) (cmds : List Cmd) (replies : List Reply) (end : Session)
    → Run few s cmds replies end → Run more s cmds replies end
run_wider few more wider s [] [] end run = run
run_wider few more wider s [] (reply ∷ replies) end run = absurd run
run_wider few more wider s (cmd ∷ cmds) [] end run = absurd run
run_wider few more wider s (cmd ∷ cmds) (reply ∷ replies) end run =
    (run.0, answer_more few more wider s run.0 cmd reply run.1, run_wider few more wider run.0 cmds replies end run.2)

memory_of_disk : (why : Refusal) → is_of_memory why ≡ true → is_of_disk why ≡ true
memory_of_disk why is = ap is_of_disk (memory_is why is)

pub run_more : (s end : Session) (cmds : List Cmd) (replies : List Reply) → Run is_of_memory s cmds replies end → Run is_of_disk s cmds replies end
run_more s end cmds replies run = run_wider is_of_memory is_of_disk memory_of_disk s cmds replies end run
