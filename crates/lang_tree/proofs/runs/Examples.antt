-- Short runs from an empty tree, and small trees, worked out.
use Rattle.std.proofs.Common.{◌≡◌, ℕ, true, false, List, [], ◌∷◌, ◌++◌, Some, None, cond, refl, sym, ◌∙◌, inl, length, replicate, codes}
use Rattle.std.specs.Cmp.{nat_cmp_total}
use Rattle.std.specs.Ordering.{eq_by_cmp, nat_cmp}
use Rattle.std.specs.Cmp.Lexicographic.{slice_cmp}
use Rattle.std.specs.FinMap.{nat_cmp-IsAntisymmetric, get, insert, remove, empty, entries, put, get-insert, get-empty, entries-insert, len-empty, len-entries}
use Rattle.std.proofs.lemmas.List.{nil_from_length}
use Rattle.base_types.specs.declared.layout.Layout.TheVariants.{One, Two}
use Rattle.lang_tree.specs.declared.command.Cmd.TheVariants.{Mkdir, Create, Write, Link, Rename, Rmdir}
use Rattle.lang_tree.specs.declared.command.Reply.TheVariants.{Ok as Done, Refused}
use Rattle.lang_tree.specs.declared.command.Refusal.TheVariants.{NotFound, NotDir, NotEmpty, NameTooLong}
use Rattle.lang_tree.specs.Tree.{Names, Nodes, Bounds, Kept, Thing, Dir, File, alone, in_layout_one, path_cmp}
use Rattle.lang_tree.specs.Names.{path_count}
use Rattle.lang_tree.specs.Conditions.{least_unused}
use Rattle.lang_tree.specs.Step.{Session, start, step}
use Rattle.lang_tree.specs.Run.{Run}
use Rattle.lang_tree.specs.Figures.{blocks, figures}
use Rattle.lang_tree.proofs.basics.Order.{path_total, path_same}
use Rattle.lang_tree.proofs.basics.Finds.{put_out}
use Rattle.lang_tree.proofs.counting.PathCounts.{none_in}

pub name_at : (names : Names) (k : List (List ℕ)) (v : ℕ) (q : List (List ℕ)) → get (insert names k v) q ≡ cond (eq_by_cmp path_cmp q k) (Some v) (get names q)
name_at names k v q = get-insert path_total names k v q

pub node_at : (nodes : Nodes) (k : ℕ) (v : Thing) (q : ℕ) → get (insert nodes k v) q ≡ cond (eq_by_cmp nat_cmp q k) (Some v) (get nodes q)
node_at nodes k v q = get-insert nat_cmp_total nodes k v q

no_name : (q : List (List ℕ)) → get (empty {X = ℕ} {R = path_cmp}) q ≡ None
no_name q = get-empty path_cmp q

no_node : (q : ℕ) → get (empty {X = Thing} {R = nat_cmp}) q ≡ None
no_node q = get-empty nat_cmp q

all_names : (names : Names) (k : List (List ℕ)) (v : ℕ) → entries (insert names k v) ≡ put path_cmp k v (entries names)
all_names names k v = entries-insert path_total names k v

all_nodes : (nodes : Nodes) (k : ℕ) (v : Thing) → entries (insert nodes k v) ≡ put nat_cmp k v (entries nodes)
all_nodes nodes k v = entries-insert nat_cmp_total nodes k v

none_of : entries (empty {X = Thing} {R = nat_cmp}) ≡ []
none_of = nil_from_length (entries (empty {X = Thing} {R = nat_cmp})) (sym (len-entries (empty {X = Thing} {R = nat_cmp})) ∙ len-empty nat_cmp Thing)

none_kept : entries (empty {X = Kept} {R = slice_cmp nat_cmp}) ≡ []
none_kept = nil_from_length (entries (empty {X = Kept} {R = slice_cmp nat_cmp})) (sym (len-entries (empty {X = Kept} {R = slice_cmp nat_cmp})) ∙ len-empty (slice_cmp nat_cmp) Kept)

abbrev pub a : List (List ℕ)
a = codes "a" ∷ []

abbrev b : List (List ℕ)
b = codes "b" ∷ []

abbrev c : List (List ℕ)
c = codes "c" ∷ []

abbrev changed_to_tree : Names → Nodes → Session
changed_to_tree names nodes = record { tree = alone names nodes; limit = in_layout_one 16; points = 0; changed = true; durable = 0 }

-- One file with two paths.

abbrev pub with_a : Session
with_a = changed_to_tree (insert (insert empty [] 1) a 2) (insert (insert empty 1 Dir) 2 (File []))

abbrev with_link : Session
with_link = changed_to_tree (insert (insert (insert empty [] 1) a 2) b 2) (insert (insert empty 1 Dir) 2 (File []))

pub create_a : step (start (in_layout_one 16)) (Create a) ≡ (with_a, Done)
unfolding least_unused
create_a = simp (name_at, node_at, no_name, no_node, none_kept)

link_b : step with_a (Link a b) ≡ (with_link, Done)
link_b = simp (name_at, node_at, no_name, all_names, none_in)

rename_b : step with_link (Rename a b) ≡ (with_link, Done)
rename_b = simp (name_at, node_at)

pub one_node : (end : Session) × Run (λ why. false) (start (in_layout_one 16)) (Create a ∷ Link a b ∷ Rename a b ∷ []) (Done ∷ Done ∷ Done ∷ []) end
    × (get end.tree.names a ≡ Some 2) × (get end.tree.names b ≡ Some 2) × (path_count end.tree.names 2 ≡ 2)
one_node = (with_link, (with_a, inl create_a, (with_link, inl link_b, (with_link, inl rename_b, refl))), simp name_at, simp name_at, simp (all_names, none_in))

-- Of the reasons that hold the first one is answered.

rmdir_root : step with_a (Rmdir []) ≡ (with_a, Refused NotEmpty)
rmdir_root = simp (name_at, node_at, all_names, none_in)

rename_root : step with_a (Rename [] a) ≡ (with_a, Refused NotDir)
rename_root = simp (name_at, node_at, all_names)

write_past : step with_a (Write (a ++ b) 0 (120 ∷ [])) ≡ (with_a, Refused NotDir)
write_past = simp (name_at, node_at)

link_lost : step with_a (Link b a) ≡ (with_a, Refused NotFound)
link_lost = simp (name_at, node_at, no_name, no_node)

pub first_reasons : (end : Session) × Run (λ why. false) (start (in_layout_one 16)) (Create a ∷ Rmdir [] ∷ Rename [] a ∷ Write (a ++ b) 0 (120 ∷ []) ∷ Link b a ∷ [])
    (Done ∷ Refused NotEmpty ∷ Refused NotDir ∷ Refused NotDir ∷ Refused NotFound ∷ []) end
first_reasons = (with_a, (with_a, inl create_a, (with_a, inl rmdir_root, (with_a, inl rename_root, (with_a, inl write_past, (with_a, inl link_lost, refl))))))

-- A directory moves with its file.

abbrev with_dir : Session
with_dir = changed_to_tree (insert (insert empty [] 1) a 2) (insert (insert empty 1 Dir) 2 Dir)

abbrev with_inner : Session
with_inner = changed_to_tree (insert (insert (insert empty [] 1) a 2) (a ++ c) 3) (insert (insert (insert empty 1 Dir) 2 Dir) 3 (File []))

make_a : step (start (in_layout_one 16)) (Mkdir a) ≡ (with_dir, Done)
unfolding least_unused
make_a = simp (name_at, node_at, no_name, no_node, none_kept)

create_inner : step with_dir (Create (a ++ c)) ≡ (with_inner, Done)
unfolding least_unused
create_inner = simp (name_at, node_at, no_name, no_node, none_kept)

abbrev with_moved : Session
with_moved = changed_to_tree (insert (insert (insert empty (b ++ c) 3) b 2) [] 1) (insert (insert (insert empty 1 Dir) 2 Dir) 3 (File []))

rename_dir : step with_inner (Rename a b) ≡ (with_moved, Done)
rename_dir = simp (name_at, node_at, no_name, all_names, none_in)

pub dir_moves : (end : Session) × Run (λ why. false) (start (in_layout_one 16)) (Mkdir a ∷ Create (a ++ c) ∷ Rename a b ∷ []) (Done ∷ Done ∷ Done ∷ []) end
    × (get end.tree.names b ≡ Some 2) × (get end.tree.names (b ++ c) ≡ Some 3) × (get end.tree.names a ≡ None) × (get end.tree.names (a ++ c) ≡ None)
dir_moves = (with_moved, (with_dir, inl make_a, (with_inner, inl create_inner, (with_moved, inl rename_dir, refl))), simp name_at, simp name_at, simp (name_at, no_name), simp (name_at, no_name))

-- A file moves onto another one, whose number serves again.

abbrev with_two : Session
with_two = changed_to_tree (insert (insert (insert empty [] 1) a 2) b 3) (insert (insert (insert empty 1 Dir) 2 (File [])) 3 (File []))

abbrev with_one : Session
with_one = changed_to_tree (insert (insert empty b 2) [] 1) (insert (insert empty 1 Dir) 2 (File []))

abbrev with_next : Session
with_next = changed_to_tree (insert (insert (insert empty b 2) [] 1) c 3) (insert (insert (insert empty 1 Dir) 2 (File [])) 3 Dir)

b_out : remove {X = ℕ} (insert (insert (insert (empty {X = ℕ} {R = path_cmp}) [] 1) a 2) b 3) b ≡ insert (insert empty [] 1) a 2
b_out = put_out path_total path_same (insert (insert empty [] 1) a 2) b 3 (simp (name_at, no_name))

three_out : remove (insert (insert (insert (empty {X = Thing} {R = nat_cmp}) 1 Dir) 2 (File [])) 3 (File [])) 3 ≡ insert (insert empty 1 Dir) 2 (File [])
three_out = put_out nat_cmp_total nat_cmp-IsAntisymmetric (insert (insert empty 1 Dir) 2 (File [])) 3 (File []) (simp (node_at, no_node))

create_b : step with_a (Create b) ≡ (with_two, Done)
unfolding least_unused
create_b = simp (name_at, node_at, no_name, no_node, none_kept)

rename_onto : step with_two (Rename a b) ≡ (with_one, Done)
rename_onto = simp (name_at, node_at, all_names, none_in, b_out, three_out)

make_c : step with_one (Mkdir c) ≡ (with_next, Done)
unfolding least_unused
make_c = simp (name_at, node_at, no_name, no_node, none_kept)

pub onto_file : (end : Session) × Run (λ why. false) (start (in_layout_one 16)) (Create a ∷ Create b ∷ Rename a b ∷ Mkdir c ∷ []) (Done ∷ Done ∷ Done ∷ Done ∷ []) end
    × (get end.tree.names a ≡ None) × (get end.tree.names b ≡ Some 2) × (get end.tree.names c ≡ Some 3)
onto_file = (with_next, (with_a, inl create_a, (with_two, inl create_b, (with_one, inl rename_onto, (with_next, inl make_c, refl)))), simp (name_at, no_name), simp name_at, simp name_at)

-- A name of 60 bytes.

abbrev long : List (List ℕ)
long = replicate 60 97 ∷ []

abbrev bounds_two : Bounds
bounds_two = record { nodes = 16; layout = Two }

abbrev with_long : Session
with_long = record { tree = alone (insert (insert empty [] 1) long 2) (insert (insert empty 1 Dir) 2 (File [])); limit = bounds_two; points = 0; changed = true; durable = 0 }

create_long : step (start (in_layout_one 16)) (Create long) ≡ (start (in_layout_one 16), Refused NameTooLong)
unfolding least_unused
create_long = simp (name_at, node_at, no_name, no_node, none_kept)

pub long_refused : Run (λ why. false) (start (in_layout_one 16)) (Create long ∷ []) (Refused NameTooLong ∷ []) (start (in_layout_one 16))
long_refused = (start (in_layout_one 16), inl create_long, refl)

create_taken : step (start bounds_two) (Create long) ≡ (with_long, Done)
unfolding least_unused
create_taken = simp (name_at, node_at, no_name, no_node, none_kept)

pub long_taken : (end : Session) × Run (λ why. false) (start bounds_two) (Create long ∷ []) (Done ∷ []) end × (get end.tree.names long ≡ Some 2)
long_taken = (with_long, (with_long, inl create_taken, refl), simp name_at)

-- Blocks and figures.

pub three_blocks : (bytes : List ℕ) → length bytes ≡ 1025 → blocks One (alone (insert (insert empty [] 1) a 2) (insert (insert empty 1 Dir) 2 (File bytes))) ≡ 3
three_blocks bytes long = simp (all_names, all_nodes, none_in, none_of, long)

pub first_name : figures 1 (start (in_layout_one 16)) (Create a) ≡ record { need = 1; cost = 100; freed = 0 }
unfolding least_unused
first_name = simp (name_at, node_at, no_name, no_node, none_kept, all_names, none_in)
