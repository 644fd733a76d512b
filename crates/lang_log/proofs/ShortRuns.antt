-- Short runs from an empty tree, and which log each leaves.
use Rattle.std.proofs.Common.{◌≡◌, ◌≢◌, ℕ, ◌+◌, ◌<◌, ◌≤◌, true, false, List, [], ◌∷◌, ◌++◌, length, Some, None, cond, refl, sym, ap, ◌∙◌, ◌⊎◌, inl, inr, arith, codes}
use Rattle.std.proofs.lemmas.List.{length-append, nil_from_length}
use Rattle.std.proofs.lemmas.Option.{none-some, same_Some}
use Rattle.std.specs.Cmp.{nat_cmp_total}
use Rattle.std.specs.Cmp.Lexicographic.{lists_total, slice_cmp}
use Rattle.std.specs.Ordering.{eq_by_cmp, nat_cmp}
use Rattle.std.specs.FinMap.{get, insert, empty, entries, put, get-insert, get-empty, entries-insert, len-empty, len-entries}
use Rattle.byteorder.specs.Endian.{little_number}
use Rattle.lang_tree.specs.declared.command.Cmd.TheVariants.{Create, Link, Mkdir, Read, Write}
use Rattle.lang_tree.specs.declared.command.Reply.TheVariants.{Ok as Done, Bytes}
use Rattle.lang_tree.specs.Tree.{Names, Nodes, Kept, Thing, Dir, File, alone, path_cmp, in_layout_one}
use Rattle.lang_tree.specs.Conditions.{least_unused}
use Rattle.lang_tree.specs.Step.{Session, start, step}
use Rattle.lang_tree.specs.Run.{Run}
use Rattle.lang_log.specs.Spelling.{AreShort, spelling, spellings}
use Rattle.lang_log.specs.Names.{digits, log_path, path_in_log, segment_name, segment_path}
use Rattle.lang_log.specs.Segments.{Segment, HasSegments}
use Rattle.lang_log.specs.Log.{HasNoLog, IsLogOf}
use Rattle.lang_log.proofs.Digits.{same_number}
use Rattle.lang_log.proofs.Maps.{name_look}
use Rattle.lang_log.proofs.Making.{longer, same_name}
use Rattle.lang_log.proofs.Spelled.{size_is}
use Rattle.lang_log.proofs.NoLog.{directory_in_it, file_there, no_row, other_name, past_the_end, torn_bytes, two_names}
use Rattle.lang_log.proofs.Rising.{so_many}

name_at : (names : Names) (k : List (List ℕ)) (v : ℕ) (q : List (List ℕ)) → get (insert names k v) q ≡ cond (eq_by_cmp path_cmp q k) (Some v) (get names q)
name_at names k v q = get-insert (lists_total (lists_total nat_cmp_total)) names k v q

node_at : (nodes : Nodes) (k : ℕ) (v : Thing) (q : ℕ) → get (insert nodes k v) q ≡ cond (eq_by_cmp nat_cmp q k) (Some v) (get nodes q)
node_at nodes k v q = get-insert nat_cmp_total nodes k v q

no_name : (q : List (List ℕ)) → get (empty {X = ℕ} {R = path_cmp}) q ≡ None
no_name q = get-empty path_cmp q

no_node : (q : ℕ) → get (empty {X = Thing} {R = nat_cmp}) q ≡ None
no_node q = get-empty nat_cmp q

all_names : (names : Names) (k : List (List ℕ)) (v : ℕ) → entries (insert names k v) ≡ put path_cmp k v (entries names)
all_names names k v = entries-insert (lists_total (lists_total nat_cmp_total)) names k v

none_in : entries (empty {X = ℕ} {R = path_cmp}) ≡ []
none_in = nil_from_length (entries (empty {X = ℕ} {R = path_cmp})) (sym (len-entries (empty {X = ℕ} {R = path_cmp})) ∙ len-empty path_cmp ℕ)

none_kept : entries (empty {X = Kept} {R = slice_cmp nat_cmp}) ≡ []
none_kept = nil_from_length (entries (empty {X = Kept} {R = slice_cmp nat_cmp})) (sym (len-entries (empty {X = Kept} {R = slice_cmp nat_cmp})) ∙ len-empty (slice_cmp nat_cmp) Kept)

abbrev changed_to_tree : Names → Nodes → Session
changed_to_tree names nodes = record { tree = alone names nodes; limit = in_layout_one 16; points = 0; changed = true; durable = 0 }

-- The names and nodes of the runs, as they come.

abbrev root : Names
root = insert empty [] 1

abbrev with_log : Names
with_log = insert root log_path 2

abbrev with_first : Names
with_first = insert with_log (segment_path 0) 3

abbrev root_node : Nodes
root_node = insert empty 1 Dir

abbrev log_node : Nodes
log_node = insert root_node 2 Dir

abbrev first_node : Nodes
first_node = insert log_node 3 (File [])

abbrev has_bytes : List ℕ → Nodes
has_bytes bytes = insert first_node 3 (File bytes)

abbrev made : Session
made = changed_to_tree with_log log_node

abbrev begun : Session
begun = changed_to_tree with_first first_node

abbrev wrote : List ℕ → Session
wrote bytes = changed_to_tree with_first (has_bytes bytes)

makes_log : step (start (in_layout_one 16)) (Mkdir log_path) ≡ (made, Done)
unfolding least_unused
makes_log = simp (name_at, node_at, no_name, no_node, none_kept)

makes_first : step made (Create (segment_path 0)) ≡ (begun, Done)
unfolding least_unused
makes_first = simp (name_at, node_at, no_name, no_node, none_kept)

-- Two appends.

abbrev hi : List ℕ
hi = 2 ∷ 0 ∷ 0 ∷ 0 ∷ 104 ∷ 105 ∷ []

abbrev both : List ℕ
both = 2 ∷ 0 ∷ 0 ∷ 0 ∷ 104 ∷ 105 ∷ 1 ∷ 0 ∷ 0 ∷ 0 ∷ 106 ∷ []

abbrev end : Session
end = changed_to_tree with_first (insert (has_bytes hi) 3 (File both))

writes_hi : step begun (Write (segment_path 0) 0 (spelling (codes "hi"))) ≡ (wrote hi, Done)
writes_hi = simp (name_at, node_at)

writes_j : step (wrote hi) (Write (segment_path 0) 6 (spelling (codes "j"))) ≡ (end, Done)
writes_j = simp (name_at, node_at)

reads_both : step end (Read (segment_path 0) 0 20) ≡ (end, Bytes both)
reads_both = simp (name_at, node_at)

abbrev first : Segment
first = record { first = 0; node = 3; appends = codes "hi" ∷ codes "j" ∷ [] }

not_root : (name : List ℕ) → path_in_log name ≡ [] → ⊥
not_root name e = cc

-- what lies in the directory is the first segment
only_first : (name : List ℕ) (n : ℕ) → get with_first (path_in_log name) ≡ Some n → name ≡ segment_name 0
only_first name n at = by (name_look with_log (segment_path 0) 3 (path_in_log name))
  where
    in_root : (path_in_log name ≡ []) ⊎ (get root (path_in_log name) ≡ get (empty {X = ℕ} {R = path_cmp}) (path_in_log name))
        → get root (path_in_log name) ≡ Some n → ⊥
    in_root (inl e) is = not_root name e
    in_root (inr e) is = none-some n (sym (e ∙ no_name (path_in_log name)) ∙ is)

    in_log : (path_in_log name ≡ log_path) ⊎ (get with_log (path_in_log name) ≡ get root (path_in_log name)) → get with_log (path_in_log name) ≡ Some n → ⊥
    in_log (inl e) is = longer _ _ _ _ (sym e)
    in_log (inr e) is = in_root (name_look empty [] 1 (path_in_log name)) (sym e ∙ is)

    by : (path_in_log name ≡ segment_path 0) ⊎ (get with_first (path_in_log name) ≡ get with_log (path_in_log name)) → name ≡ segment_name 0
    by (inl e) = same_name name (segment_name 0) e
    by (inr e) = absurd (in_log (name_look root log_path 2 (path_in_log name)) (sym e ∙ at))

log_at : get with_first log_path ≡ Some 2
log_at = simp (name_at)

dir_at : get end.tree.nodes 2 ≡ Some Dir
dir_at = simp (node_at)

has_first : HasSegments end.tree (first ∷ [])
has_first = record {
  directory = λ n at. ap (get end.tree.nodes) (same_Some n 2 (sym at ∙ log_at)) ∙ dir_at;
  there = (record { at = simp name_at; file = simp node_at }, tt);
  only = λ name n at. inl (only_first name n at);
  apart = (tt, tt);
}

pub two_make_a_log : (end : Session)
    × Run (λ why. false) (start (in_layout_one 16))
    (Mkdir log_path ∷ Create (segment_path 0) ∷ Write (segment_path 0) 0 (spelling (codes "hi")) ∷ Write (segment_path 0) 6 (spelling (codes "j"))
    ∷ Read (segment_path 0) 0 20 ∷ [])
    (Done ∷ Done ∷ Done ∷ Done ∷ Bytes both ∷ []) end
    × IsLogOf end.tree (record { low = 0; appends = codes "hi" ∷ codes "j" ∷ [] })
two_make_a_log = (
  end,
  (made, inl makes_log, (begun, inl makes_first, (wrote hi, inl writes_hi, (end, inl writes_j, (end, inl reads_both, refl))))),
  record {
    segments = first ∷ [];
    has = has_first;
    made = record { row = (refl, tt); low = refl; appends = refl; short = (omega arith, (omega arith, tt)); within = omega arith };
  },
)

-- Spoiled trees.

abbrev file_end : Session
file_end = changed_to_tree (insert root log_path 2) (insert root_node 2 (File []))

makes_file : step (start (in_layout_one 16)) (Create log_path) ≡ (file_end, Done)
unfolding least_unused
makes_file = simp (name_at, node_at, no_name, no_node, none_kept)

pub a_file : (end : Session) × Run (λ why. false) (start (in_layout_one 16)) (Create log_path ∷ []) (Done ∷ []) end × HasNoLog end.tree
a_file = (file_end, (file_end, inl makes_file, refl), file_there file_end.tree 2 [] (simp name_at) (simp node_at))

abbrev dir_end : Session
dir_end = changed_to_tree with_first (insert log_node 3 Dir)

makes_dir : step made (Mkdir (segment_path 0)) ≡ (dir_end, Done)
unfolding least_unused
makes_dir = simp (name_at, node_at, no_name, no_node, none_kept)

pub a_directory : (end : Session) × Run (λ why. false) (start (in_layout_one 16)) (Mkdir log_path ∷ Mkdir (segment_path 0) ∷ []) (Done ∷ Done ∷ []) end × HasNoLog end.tree
a_directory =
    (dir_end, (made, inl makes_log, (dir_end, inl makes_dir, refl)), directory_in_it dir_end.tree (segment_name 0) 3 (simp name_at) (simp node_at))

abbrev empty_append : List ℕ
empty_append = 0 ∷ 0 ∷ 0 ∷ 0 ∷ []

writes_empty : step begun (Write (segment_path 0) 0 empty_append) ≡ (wrote empty_append, Done)
writes_empty = simp (name_at, node_at)

abbrev shared_end : Session
shared_end = changed_to_tree (insert with_first (segment_path 1) 3) (has_bytes empty_append)

links : step (wrote empty_append) (Link (segment_path 0) (segment_path 1)) ≡ (shared_end, Done)
links = simp (name_at, node_at, no_name, all_names, none_in)

names_differ : segment_name 0 ≢ segment_name 1
names_differ e = let same = same_number 0 1 (omega arith) (omega arith) e in omega (arith, same)

pub two_of_one_node : (end : Session)
    × Run (λ why. false) (start (in_layout_one 16))
    (Mkdir log_path ∷ Create (segment_path 0) ∷ Write (segment_path 0) 0 empty_append ∷ Link (segment_path 0) (segment_path 1) ∷ [])
    (Done ∷ Done ∷ Done ∷ Done ∷ []) end
    × HasNoLog end.tree
two_of_one_node = (
  shared_end,
  (made, inl makes_log, (begun, inl makes_first, (wrote empty_append, inl writes_empty, (shared_end, inl links, refl)))),
  two_names shared_end.tree (segment_name 0) (segment_name 1) 3 (simp name_at) (simp name_at) names_differ,
)

abbrev torn : List ℕ
torn = 2 ∷ 0 ∷ 0 ∷ 0 ∷ 104 ∷ []

writes_torn : step begun (Write (segment_path 0) 0 torn) ≡ (wrote torn, Done)
writes_torn = simp (name_at, node_at)

not_whole : (appends : List (List ℕ)) → AreShort appends → torn ≢ spellings appends
not_whole [] short e = cc
not_whole (x ∷ xs) short e =
    let size : 2 ≡ length x = ap (little_number 4) e ∙ size_is x (spellings xs) short.0 in
    omega (arith, size, ap length e, length-append x (spellings xs))

pub a_torn_append : (end : Session)
    × Run (λ why. false) (start (in_layout_one 16)) (Mkdir log_path ∷ Create (segment_path 0) ∷ Write (segment_path 0) 0 torn ∷ []) (Done ∷ Done ∷ Done ∷ []) end
    × HasNoLog end.tree
a_torn_append = (
  wrote torn,
  (made, inl makes_log, (begun, inl makes_first, (wrote torn, inl writes_torn, refl))),
  torn_bytes (wrote torn).tree (segment_name 0) 3 torn (simp name_at) (simp node_at) not_whole,
)

abbrev gap_end : Session
gap_end = changed_to_tree (insert with_first (segment_path 2) 4) (insert (has_bytes empty_append) 4 (File []))

makes_third : step (wrote empty_append) (Create (segment_path 2)) ≡ (gap_end, Done)
unfolding least_unused
makes_third = simp (name_at, node_at, no_name, no_node, none_kept)

abbrev lone : Segment
lone = record { first = 0; node = 3; appends = [] ∷ [] }

none_between : (between : ℕ) → 0 < between → between < 2 → get gap_end.tree.names (segment_path between) ≡ None
none_between between above below = ap (λ n. get gap_end.tree.names (segment_path n)) {y = 1} (omega (arith, above, below)) ∙ simp (name_at, no_name)

pub a_gap : (end : Session)
    × Run (λ why. false) (start (in_layout_one 16)) (Mkdir log_path ∷ Create (segment_path 0) ∷ Write (segment_path 0) 0 empty_append ∷ Create (segment_path 2) ∷ [])
    (Done ∷ Done ∷ Done ∷ Done ∷ []) end
    × HasNoLog end.tree
a_gap = (
  gap_end,
  (made, inl makes_log, (begun, inl makes_first, (wrote empty_append, inl writes_empty, (gap_end, inl makes_third, refl)))),
  no_row gap_end.tree lone 2 4 (record { at = simp name_at; file = simp node_at }) (omega arith, tt) (omega arith) (omega arith) (simp name_at) none_between
      (λ e. omega (arith, e)),
)

abbrev short_name : List (List ℕ)
short_name = path_in_log (digits 9 0)

abbrev short_end : Session
short_end = changed_to_tree (insert with_log short_name 3) first_node

makes_short : step made (Create short_name) ≡ (short_end, Done)
unfolding least_unused
makes_short = simp (name_at, node_at, no_name, no_node, none_kept)

pub a_short_name : (end : Session) × Run (λ why. false) (start (in_layout_one 16)) (Mkdir log_path ∷ Create short_name ∷ []) (Done ∷ Done ∷ []) end × HasNoLog end.tree
a_short_name = (
  short_end,
  (made, inl makes_log, (short_end, inl makes_short, refl)),
  other_name short_end.tree (digits 9 0) 3 (simp name_at) (λ first low e. omega (arith, ap length e, so_many 10 first)),
)

abbrev last_path : List (List ℕ)
last_path = segment_path 4294967295

abbrev last_begun : Session
last_begun = changed_to_tree (insert with_log last_path 3) first_node

abbrev last_end : Session
last_end = changed_to_tree (insert with_log last_path 3) (has_bytes empty_append)

makes_last : step made (Create last_path) ≡ (last_begun, Done)
unfolding least_unused
makes_last = simp (name_at, node_at, no_name, no_node, none_kept)

writes_last : step last_begun (Write last_path 0 empty_append) ≡ (last_end, Done)
writes_last = simp (name_at, node_at)

abbrev last : Segment
last = record { first = 4294967295; node = 3; appends = [] ∷ [] }

pub past_numbers : (end : Session)
    × Run (λ why. false) (start (in_layout_one 16)) (Mkdir log_path ∷ Create last_path ∷ Write last_path 0 empty_append ∷ []) (Done ∷ Done ∷ Done ∷ []) end
    × HasNoLog end.tree
past_numbers = (
  last_end,
  (made, inl makes_log, (last_begun, inl makes_last, (last_end, inl writes_last, refl))),
  past_the_end last_end.tree last (record { at = simp name_at; file = simp node_at }) (omega arith, tt) (omega arith) (omega arith),
)
