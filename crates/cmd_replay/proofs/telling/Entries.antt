-- Equal listings are of trees that are alike.
use Rattle.std.proofs.Common.{◌≡◌, ◌⊎◌, inl, inr, sym, ap, ap₂, refl, ◌∙◌, arith, ℕ, ◌<◌, ◌^◌, true, List, [], ◌∷◌, ◌++◌, codes, drop, map, Option, Some, None, append_assoc}
use Rattle.std.specs.List.{list_all, flat_map}
use Rattle.std.specs.Cmp.{nat_cmp_total}
use Rattle.std.specs.Cmp.Lexicographic.{lists_total}
use Rattle.std.specs.FinMap.{get, entries, get-entries, same_map, same_entries_map, nat_cmp-IsAntisymmetric}
use Rattle.base_types.specs.Name.{is_name}
use Rattle.cmd_trace.specs.Contents.{Each}
use Rattle.lang_tree.specs.Listing.{line_of, path_lines, snapshot_lines, listing}
use Rattle.lang_tree.specs.Tree.{Tree, Nodes, Kept, Thing, Dir, File, IsSound, alone, kept_tree, path_cmp}
use Rattle.cmd_replay.specs.Named.{AreAlike, HasAllBytes, HasBytes, HasLawfulNames, IsListable}
use Rattle.cmd_replay.proofs.telling.Maps.{each_of, entry_each, found_such}
use Rattle.cmd_replay.proofs.telling.Lines.{ThingBytes, some_line, other_start, line_same}
use Rattle.cmd_replay.proofs.telling.Texts.{cut, name_part}

-- ---- entries of a tree

-- an entry whose path is lawful, whose number has 64 bits, and whose node is there
record IsEntry (nodes : Nodes) (e : List (List ℕ) × ℕ) : Type 0 where
  lawful : list_all is_name e.0 ≡ true
  number : e.1 < 2 ^ 64
  thing : Thing
  is : get nodes e.1 ≡ Some thing

are_entries : (limit : ℕ) (t : Tree) → limit < 2 ^ 64 → IsSound limit t → HasLawfulNames t → Each (IsEntry t.nodes) (entries t.names)
are_entries limit t small sound lawful = each_of entry (entries t.names) (entry_each (lists_total (lists_total nat_cmp_total)) t.names)
  where
    entry : (e : List (List ℕ) × ℕ) → get t.names e.0 ≡ Some e.1 → IsEntry t.nodes e
    entry e is =
        let x = sound.named e.0 e.1 is in
        let within = sound.within e.1 x.0 x.1 in
        record { lawful = lawful e.0 e.1 is; number = omega (arith, within, small); thing = x.0; is = x.1 }

bytes_in : (nodes : Nodes) (n : ℕ) (x : Thing) → ((bytes : List ℕ) → get nodes n ≡ Some (File bytes) → ThingBytes (File bytes)) → get nodes n ≡ Some x → ThingBytes x
bytes_in nodes n Dir h is = tt
bytes_in nodes n (File bytes) h is = h bytes is

abbrev lines : Nodes → List (List (List ℕ) × ℕ) → List ℕ
lines nodes es = flat_map (λ e. line_of e.0 e.1 (get nodes e.1)) es

with_thing : (nodes : Nodes) (e : List (List ℕ) × ℕ) (x : Thing) (r : List ℕ) → get nodes e.1 ≡ Some x → line_of e.0 e.1 (get nodes e.1) ++ r ≡ line_of e.0 e.1 (Some x) ++ r
with_thing nodes e x r is = ap (λ o. line_of e.0 e.1 o ++ r) is

-- a text behind the lines of paths: nothing, or the lines of snapshots
abbrev IsBehind : List ℕ → Type 0
IsBehind r = (r ≡ []) ⊎ ((more : List ℕ) × (r ≡ codes "snap " ++ more))

no_line : (p : List (List ℕ)) (n : ℕ) (x : Thing) (r q : List ℕ) → IsBehind q → line_of p n (Some x) ++ r ≡ q → ⊥
no_line p n x r q (inl none) e = some_line p n x r (e ∙ none)
no_line p n x r q (inr (more, is)) e = other_start p n x r more (e ∙ is)

-- the lines of some entries with what stands behind them
one_more : (nodes : Nodes) (e : List (List ℕ) × ℕ) (x : Thing) (es : List (List (List ℕ) × ℕ)) (r : List ℕ) → get nodes e.1 ≡ Some x → lines nodes (e ∷ es) ++ r ≡ line_of e.0 e.1 (Some x) ++ (lines nodes es ++ r)
one_more nodes e x es r is = append_assoc (line_of e.0 e.1 (get nodes e.1)) (lines nodes es) r ∙ with_thing nodes e x (lines nodes es ++ r) is

same_lines : (sn tn : Nodes) → ((n : ℕ) (bytes : List ℕ) → get sn n ≡ Some (File bytes) → ThingBytes (File bytes)) → (es fs : List (List (List ℕ) × ℕ)) (r q : List ℕ) → IsBehind r → IsBehind q
    → Each (IsEntry sn) es → Each (IsEntry tn) fs → lines sn es ++ r ≡ lines tn fs ++ q → (es ≡ fs) × Each (λ e. get sn e.1 ≡ get tn e.1) es × (r ≡ q)
same_lines sn tn bytes [] [] r q behind after h k is = (refl, tt, is)
same_lines sn tn bytes [] (f ∷ fs) r q behind after h k is = absurd (no_line f.0 f.1 k.0.thing (lines tn fs ++ q) r behind (sym (one_more tn f k.0.thing fs q k.0.is) ∙ sym is))
same_lines sn tn bytes (e ∷ es) [] r q behind after h k is = absurd (no_line e.0 e.1 h.0.thing (lines sn es ++ r) q after (sym (one_more sn e h.0.thing es r h.0.is) ∙ is))
same_lines sn tn bytes (e ∷ es) (f ∷ fs) r q behind after h k is =
    let here = h.0 in
    let there = k.0 in
    let line = line_same e.0 f.0 e.1 f.1 here.thing there.thing (lines sn es ++ r) (lines tn fs ++ q) here.lawful there.lawful here.number there.number
    (bytes_in sn e.1 here.thing (bytes e.1) here.is)
    (sym (one_more sn e here.thing es r here.is) ∙ is ∙ one_more tn f there.thing fs q there.is) in
    let rest = same_lines sn tn bytes es fs r q behind after h.1 k.1 line.rest in
    let entry : e ≡ f = ap₂ (λ (p : List (List ℕ)) (n : ℕ). (p, n)) line.path line.number in (
      ap₂ (λ (x : List (List ℕ) × ℕ) (xs : List (List (List ℕ) × ℕ)). x ∷ xs) entry rest.0,
      (here.is ∙ ap Some line.thing ∙ sym there.is ∙ ap (get tn) (sym line.number), rest.1),
      rest.2,
    )

-- ---- the paths and nodes of a tree

module _ (limit more : ℕ) (s t : Tree) (small : limit < 2 ^ 64) (tiny : more < 2 ^ 64) (sound : IsSound limit s) (other : IsSound more t) (lawful : HasLawfulNames s) (named : HasLawfulNames t) (bytes : HasBytes s)
    (r q : List ℕ) (behind : IsBehind r) (after : IsBehind q) (is : path_lines s.names s.nodes ++ r ≡ path_lines t.names t.nodes ++ q) where
  same : (entries s.names ≡ entries t.names) × Each (λ e. get s.nodes e.1 ≡ get t.nodes e.1) (entries s.names) × (r ≡ q)
  same = same_lines s.nodes t.nodes bytes (entries s.names) (entries t.names) r q behind after (are_entries limit s small sound lawful) (are_entries more t tiny other named) is

  same_names : s.names ≡ t.names
  same_names = same_entries_map s.names t.names same.0

  at : (p : List (List ℕ)) (n : ℕ) → get s.names p ≡ Some n → get s.nodes n ≡ get t.nodes n
  at p n e = found_such path_cmp (λ k. get s.nodes k ≡ get t.nodes k) p (entries s.names) n same.1 (sym (get-entries s.names p) ∙ e)

  node_by : (k : ℕ) (a b : Option Thing) → get s.nodes k ≡ a → get t.nodes k ≡ b → get s.nodes k ≡ get t.nodes k
  node_by k None None e f = e ∙ sym f
  node_by k (Some x) b e f = let p = sound.reached k x e in at p.0 k p.1
  node_by k None (Some y) e f = let p = other.reached k y f in at p.0 k (ap (λ m. get m p.0) same_names ∙ p.1)

  same_nodes : s.nodes ≡ t.nodes
  same_nodes = same_map nat_cmp_total nat_cmp-IsAntisymmetric s.nodes t.nodes (λ k. node_by k (get s.nodes k) (get t.nodes k) refl refl)

  same_rest : r ≡ q
  same_rest = same.2

-- ---- the snapshots

abbrev snapshots_text : List (List ℕ × Kept) → List ℕ
snapshots_text es = flat_map (λ e. snapshot_lines e.0 e.1) es

-- the first line, what it keeps, and the rest
snap_text : (name lines r : List ℕ) → ((codes "snap " ++ name ++ codes "\n") ++ lines) ++ r ≡ codes "snap " ++ (name ++ 10 ∷ (lines ++ r))
snap_text name lines r =
    append_assoc (codes "snap " ++ name ++ codes "\n") lines r
    ∙ append_assoc (codes "snap " ++ name) (codes "\n") (lines ++ r)
    ∙ append_assoc (codes "snap ") name (10 ∷ (lines ++ r))

behind_paths : (es : List (List ℕ × Kept)) → IsBehind (snapshots_text es)
behind_paths [] = inl refl
behind_paths (e ∷ es) = inr (e.0 ++ 10 ∷ (path_lines e.1.names e.1.nodes ++ snapshots_text es), snap_text e.0 (path_lines e.1.names e.1.nodes) (snapshots_text es))

-- a snapshot with a lawful name that keeps a sound tree with lawful names
record IsNamed (limit : ℕ) (e : List ℕ × Kept) : Type 0 where
  name : is_name e.0 ≡ true
  sound : IsSound limit (kept_tree e.1)
  lawful : HasLawfulNames (kept_tree e.1)

abbrev trees_of : List (List ℕ × Kept) → List (List ℕ × Tree)
trees_of es = map (λ e. (e.0, kept_tree e.1)) es

no_snapshot : (name r : List ℕ) → [] ≡ codes "snap " ++ (name ++ 10 ∷ r) → ⊥
no_snapshot name r e = cc e

same_snapshots : (limit more : ℕ) → limit < 2 ^ 64 → more < 2 ^ 64 → (es fs : List (List ℕ × Kept)) → Each (IsNamed limit) es → Each (λ e. HasBytes (kept_tree e.1)) es → Each (IsNamed more) fs
    → snapshots_text es ≡ snapshots_text fs → trees_of es ≡ trees_of fs
same_snapshots limit more small tiny [] [] h b k is = refl
same_snapshots limit more small tiny [] (f ∷ fs) h b k is =
    absurd (no_snapshot f.0 (path_lines f.1.names f.1.nodes ++ snapshots_text fs) (is ∙ snap_text f.0 (path_lines f.1.names f.1.nodes) (snapshots_text fs)))
same_snapshots limit more small tiny (e ∷ es) [] h b k is =
    absurd (no_snapshot e.0 (path_lines e.1.names e.1.nodes ++ snapshots_text es) (sym is ∙ snap_text e.0 (path_lines e.1.names e.1.nodes) (snapshots_text es)))
same_snapshots limit more small tiny (e ∷ es) (f ∷ fs) h b k is =
    let here = path_lines e.1.names e.1.nodes ++ snapshots_text es in
    let there = path_lines f.1.names f.1.nodes ++ snapshots_text fs in
    let all : codes "snap " ++ (e.0 ++ 10 ∷ here) ≡ codes "snap " ++ (f.0 ++ 10 ∷ there)
    = sym (snap_text e.0 (path_lines e.1.names e.1.nodes) (snapshots_text es)) ∙ is ∙ snap_text f.0 (path_lines f.1.names f.1.nodes) (snapshots_text fs) in
    let parts = cut e.0 f.0 (10 ∷ here) (10 ∷ there) (name_part e.0 h.0.name) (name_part f.0 k.0.name) (omega arith) (omega arith) (ap (drop 5) all) in
    let rests : here ≡ there = ap (drop 1) parts.1 in
    let names = same_names limit more (kept_tree e.1) (kept_tree f.1) small tiny h.0.sound k.0.sound h.0.lawful k.0.lawful b.0 (snapshots_text es) (snapshots_text fs) (behind_paths es) (behind_paths fs) rests in
    let nodes = same_nodes limit more (kept_tree e.1) (kept_tree f.1) small tiny h.0.sound k.0.sound h.0.lawful k.0.lawful b.0 (snapshots_text es) (snapshots_text fs) (behind_paths es) (behind_paths fs) rests in
    let rest = same_rest limit more (kept_tree e.1) (kept_tree f.1) small tiny h.0.sound k.0.sound h.0.lawful k.0.lawful b.0 (snapshots_text es) (snapshots_text fs) (behind_paths es) (behind_paths fs) rests in
    ap₂ (λ (x : List ℕ × Tree) (xs : List (List ℕ × Tree)). x ∷ xs) (ap₂ (λ (name : List ℕ) (u : Tree). (name, u)) parts.0 (ap₂ alone names nodes)) (same_snapshots limit more small tiny es fs h.1 b.1 k.1 rest)

are_named : (limit : ℕ) (t : Tree) → IsListable limit t → Each (IsNamed limit) (entries t.snapshots)
are_named limit t listable = each_of (λ e is. record { name = (listable.kept e.0 e.1 is).0; sound = listable.snapshots.sound e.0 e.1 is; lawful = (listable.kept e.0 e.1 is).1 }) (entries t.snapshots)
    (entry_each (lists_total nat_cmp_total) t.snapshots)

-- ---- a whole listing

pub alike : (limit more : ℕ) (s t : Tree) → limit < 2 ^ 64 → more < 2 ^ 64 → IsListable limit s → IsListable more t → HasAllBytes s → listing s ≡ listing t → AreAlike s t
alike limit more s t small tiny here there bytes is =
    let kept = snapshots_text (entries s.snapshots) in
    let other = snapshots_text (entries t.snapshots) in
    let behind = behind_paths (entries s.snapshots) in
    let after = behind_paths (entries t.snapshots) in
    let rest = same_rest limit more s t small tiny here.sound there.sound here.names there.names bytes.bytes kept other behind after is in
    let all = same_snapshots limit more small tiny (entries s.snapshots) (entries t.snapshots) (are_named limit s here)
    (each_of (λ e at. bytes.kept e.0 e.1 at) (entries s.snapshots) (entry_each (lists_total nat_cmp_total) s.snapshots)) (are_named more t there) rest in
    record {
      names = same_names limit more s t small tiny here.sound there.sound here.names there.names bytes.bytes kept other behind after is;
      nodes = same_nodes limit more s t small tiny here.sound there.sound here.names there.names bytes.bytes kept other behind after is;
      snapshots = all;
    }

-- and trees that are alike have one listing

abbrev tree_lines : List ℕ × Tree → List ℕ
tree_lines u = (codes "snap " ++ u.0 ++ codes "\n") ++ path_lines u.1.names u.1.nodes

text_by_trees : (es : List (List ℕ × Kept)) → snapshots_text es ≡ flat_map tree_lines (trees_of es)
text_by_trees [] = refl
text_by_trees (e ∷ es) = ap (λ (xs : List ℕ). snapshot_lines e.0 e.1 ++ xs) (text_by_trees es)

pub one_listing : (s t : Tree) → AreAlike s t → listing s ≡ listing t
one_listing s t same =
    ap₂ (λ (a b : List ℕ). a ++ b) (ap₂ path_lines same.names same.nodes)
    (text_by_trees (entries s.snapshots) ∙ ap (flat_map tree_lines) same.snapshots ∙ sym (text_by_trees (entries t.snapshots)))
