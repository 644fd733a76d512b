-- What the plan of a whole tree says: all nodes were met, its blocks are those of the tree, and the first path of a node is the one that a link is made from.
use Rattle.std.proofs.Common.{◌≡◌, ◌≢◌, ◌⊎◌, inl, inr, ℕ, zero, suc, ◌+◌, ◌-◌, ◌<◌, ◌≤◌, ◌==◌, ◌||◌, Bool, true, false, cond, true≢false, List, [], ◌∷◌, ◌++◌, length, map, slice_get, Option, Some, None, refl, sym, ap, ◌∙◌, subst, arith, if◌then◌else◌, append-nil, unwrap_or}
use Rattle.std.proofs.lemmas.Bool.{cases_eq, cases_Bool, eq-eqb, eqb-true}
use Rattle.std.proofs.lemmas.List.Elements.{All-head, All-tail}
use Rattle.std.proofs.lemmas.Option.{none-some, same_Some}
use Rattle.std.specs.Prelude.{◌↔◌, ◌^◌, IsTrue, find, is_some, min, option_and_then, option_map}
use Rattle.std.specs.BTreeMap as btree
use Rattle.std.specs.Cmp.{Equal-is, nat_cmp_total, tied_itself}
use Rattle.std.specs.Cmp.Lexicographic.{lists_total}
use Rattle.std.specs.FinMap.{entries, get, len, nat_cmp-IsAntisymmetric, same_map, slice_cmp-IsAntisymmetric}
use Rattle.std.specs.List.{All}
use Rattle.std.specs.Ordering.{eq_by_cmp, is_eq, nat_cmp}
use Rattle.base_types.specs.declared.layout.Layout.{Layout}
use Rattle.layout_geometry.specs.Geometry.{Geometry, data_start}
use Rattle.lang_tree.specs.declared.command.Cmd.{Cmd}
use Rattle.lang_tree.specs.declared.command.Cmd.TheVariants.{Create, Link, Mkdir}
use Rattle.lang_tree.specs.Figures.{all_directory_blocks, file_blocks}
use Rattle.lang_tree.specs.Figures as figures
use Rattle.lang_tree.specs.Tree.{IsSound, Thing, Tree, path_cmp}
use Rattle.lang_tree.specs.Walk.{are_same, is_dir, is_same_node, thing_at}
use Rattle.lang_making.specs.Making.{file_command, first_alike, is_path, link_from, path_command, paths_made}
use Rattle.cmd_upgrade.specs.declared.plan.Entry.{Entry}
use Rattle.cmd_upgrade.specs.declared.plan.Plan.{Plan}
use Rattle.cmd_upgrade.specs.Plans.{IsEntry, IsWholePlan, place_of}
use Rattle.cmd_upgrade.specs.Upgrades.{TakesTree}
use Rattle.cmd_upgrade.proofs.Planned.{same_number}
use Rattle.cmd_upgrade.proofs.Walking.{all_within}

-- Places of entries.

abbrev pub paths_of : List Entry → List (List (List ℕ))
paths_of es = map (λ (e : Entry). e.path) es

suc_of : (o : Option ℕ) (i : ℕ) → option_map suc o ≡ Some i → (j : ℕ) × (o ≡ Some j) × (suc j ≡ i)
suc_of None i is = absurd (none-some i is)
suc_of (Some j) i is = (j, refl, same_Some (suc j) i is)

-- the path at a place is that of the entry there
pub path_back : (es : List Entry) (i : ℕ) (q : List (List ℕ)) → slice_get (paths_of es) i ≡ Some q → (e : Entry) × (slice_get es i ≡ Some e) × (e.path ≡ q)
path_back [] i q is = absurd (none-some q is)
path_back (e ∷ es) zero q is = (e, refl, same_Some e.path q is)
path_back (e ∷ es) (suc i) q is = path_back es i q is

pub path_at : (es : List Entry) (i : ℕ) (e : Entry) → slice_get es i ≡ Some e → slice_get (paths_of es) i ≡ Some e.path
path_at [] i e is = absurd (none-some e is)
path_at (x ∷ es) zero e is = ap (λ (y : Entry). Some y.path) (same_Some x e is)
path_at (x ∷ es) (suc i) e is = path_at es i e is

pub entry_at : (t : Tree) (es : List Entry) → All (IsEntry t) es → (i : ℕ) (e : Entry) → slice_get es i ≡ Some e → IsEntry t e
entry_at t [] all i e is = absurd (none-some e is)
entry_at t (x ∷ es) all zero e is = subst (IsEntry t) (same_Some x e is) (All-head (IsEntry t) x es all)
entry_at t (x ∷ es) all (suc i) e is = entry_at t es (All-tail (IsEntry t) x es all) i e is

-- the number of an entry has a first place
pub placed : (es : List Entry) (i : ℕ) (e : Entry) (n : ℕ) → slice_get es i ≡ Some e → e.number ≡ n → (j : ℕ) × (place_of n es ≡ Some j)
placed [] i e n is same = absurd (none-some e is)
placed (x ∷ es) zero e n is same =
    (0, ap (λ (b : Bool). if b then Some 0 else option_map suc (place_of n es)) (eq-eqb x.number n (ap (λ (y : Entry). y.number) (same_Some x e is) ∙ same)))
placed (x ∷ es) (suc i) e n is same = by (x.number == n) (placed es i e n is same)
  where
    by : (b : Bool) → (j : ℕ) × (place_of n es ≡ Some j) → (j : ℕ) × ((if b then Some 0 else option_map suc (place_of n es)) ≡ Some j)
    by true later = (0, refl)
    by false later = (suc later.0, ap (option_map suc) later.1)

-- The entry at the first place of a number, whose path is the first one that leads there.
pub record IsFirst (t : Tree) (es : List Entry) (path : List (List ℕ)) (i : ℕ) : Type 0 where
  pub entry : Entry
  pub there : slice_get es i ≡ Some entry
  pub found : find (is_same_node t path) (paths_of es) ≡ Some entry.path

pub first_at : (t : Tree) (es : List Entry) → All (IsEntry t) es → (path : List (List ℕ)) (n : ℕ) → get t.names path ≡ Some n → (i : ℕ) → place_of n es ≡ Some i → IsFirst t es path i
first_at t [] all path n at i is = absurd (none-some i is)
first_at t (x ∷ es) all path n at i is = by (x.number == n) refl is (first_at t es (All-tail (IsEntry t) x es all) path n at)
  where
    test : is_same_node t path x.path ≡ (x.number == n)
    test = ap (λ (o : Option ℕ). are_same o (get t.names x.path)) at ∙ ap (are_same (Some n)) (All-head (IsEntry t) x es all).number ∙ same_number n x.number

    by : (b : Bool) → (x.number == n) ≡ b → (if b then Some 0 else option_map suc (place_of n es)) ≡ Some i
        → ((j : ℕ) → place_of n es ≡ Some j → IsFirst t es path j) → IsFirst t (x ∷ es) path i
    by true e f later = record {
      entry = x;
      there = ap (slice_get (x ∷ es)) (sym (same_Some 0 i f));
      found = ap (λ (b : Bool). cond b (Some x.path) (find (is_same_node t path) (paths_of es))) (test ∙ e);
    }
    by false e f later =
        let s = suc_of (place_of n es) i f in
        let r = later s.0 s.1 in
        record {
          entry = r.entry;
          there = ap (slice_get (x ∷ es)) (sym s.2) ∙ r.there;
          found = ap (λ (b : Bool). cond b (Some x.path) (find (is_same_node t path) (paths_of es))) (test ∙ e) ∙ r.found;
        }

-- All nodes were met.

-- what the law says of the places of paths
abbrev pub IsMadeOnce : Type 0
IsMadeOnce = (limit : ℕ) (t : Tree) (p : List (List ℕ)) (i j : ℕ) → IsSound limit t → slice_get (paths_made t.names) i ≡ Some p → slice_get (paths_made t.names) j ≡ Some p → i ≡ j

abbrev pub IsMadeSome : Type 0
IsMadeSome = (limit : ℕ) (t : Tree) (p : List (List ℕ)) (n : ℕ) → IsSound limit t → get t.names p ≡ Some n → p ≢ [] → (i : ℕ) × (slice_get (paths_made t.names) i ≡ Some p)

pub whole_paths : (l : Layout) (t : Tree) (p : Plan) → IsWholePlan l t p → paths_made t.names ≡ paths_of p.entries.items
whole_paths l t p h = h.paths ∙ append-nil (map (λ (e : Entry). e.path) p.entries.items)

or_parts : (a b : Bool) → (a || b) ≡ false → (a ≡ false) × (b ≡ false)
or_parts true b e = absurd (true≢false e)
or_parts false b e = (refl, e)

path_or : (p : List (List ℕ)) → (p ≡ []) ⊎ (p ≢ [])
path_or [] = inl refl
path_or (x ∷ p) = inr (λ e. absurd cc)

module _ (made : IsMadeSome) (limit : ℕ) (t : Tree) (ok : IsSound limit t) (l : Layout) (p : Plan) (h : IsWholePlan l t p) where
  -- a number that has a path is that of the root, or of an entry
  has_place : (n : ℕ) (q : List (List ℕ)) → get t.names q ≡ Some n → (n == 1) ≡ false → is_some (place_of n p.entries.items) ≡ false → ⊥
  has_place n q at other none = by (path_or q)
    where
      by : (q ≡ []) ⊎ (q ≢ []) → ⊥
      by (inl root) = true≢false (sym (eq-eqb n 1 (same_Some n 1 (sym at ∙ ap (get t.names) root ∙ ok.root))) ∙ other)
      by (inr below) =
          let m = made limit t q n ok at below in
          let e = path_back p.entries.items m.0 q (ap (λ (ps : List (List (List ℕ))). slice_get ps m.0) (sym (whole_paths l t p h)) ∙ m.1) in
          let number = same_Some (e.0).number n (sym (entry_at t p.entries.items h.each m.0 e.0 e.1).number ∙ ap (get t.names) e.2 ∙ at) in
          let place = placed p.entries.items m.0 e.0 n e.1 number in
          true≢false (sym (ap is_some place.1) ∙ none)

  met_each : (n : ℕ) → get h.met.met n ≡ get t.nodes n
  met_each n = by (get h.met.met n) refl (get t.nodes n) refl
    where
      by : (a : Option Thing) → get h.met.met n ≡ a → (b : Option Thing) → get t.nodes n ≡ b → get h.met.met n ≡ get t.nodes n
      by (Some x) e b f = e ∙ sym (h.met.are_met.some n x e)
      by None e None f = e ∙ sym f
      by None e (Some y) f =
          let q = ok.reached n y f in
          let parts = or_parts (n == 1) (is_some (place_of n p.entries.items)) (sym (h.met.are_met.which n) ∙ ap is_some e) in
          absurd (has_place n q.0 q.1 parts.0 parts.1)

  pub all_met : h.met.met ≡ t.nodes
  all_met = same_map nat_cmp_total nat_cmp-IsAntisymmetric h.met.met t.nodes met_each

  pub whole_count : length p.firsts.entries + 1 ≡ len t.nodes
  whole_count = h.met.count ∙ ap len all_met

  pub whole_blocks : p.blocks ≡ min (figures.blocks l t) (2 ^ 64 - 1)
  whole_blocks = h.met.blocks ∙ ap (λ k. min k (2 ^ 64 - 1)) sum
    where
      dirs : h.visited + 0 ≡ all_directory_blocks l t.names (entries t.names)
      dirs = h.all ∙ ap (all_directory_blocks l t.names) (all_within (entries t.names))

      sum : file_blocks (entries h.met.met) + h.visited ≡ figures.blocks l t
      sum = omega (arith, dirs, ap (λ m. file_blocks (entries m)) all_met)

-- a disk takes the tree where its numbers are in their bounds, and the counts are
pub no_nodes : (g : Geometry) (t : Tree) (p : Plan) → length p.firsts.entries + 1 ≡ len t.nodes → g.i ≤ length p.firsts.entries → TakesTree g t → ⊥
no_nodes g t p count many takes = omega (arith, count, many, takes.nodes)

pub takes : (g : Geometry) (t : Tree) (p : Plan) → length p.firsts.entries + 1 ≡ len t.nodes → p.blocks ≡ min (figures.blocks g.layout t) (2 ^ 64 - 1)
    → (g.i ≤ length p.firsts.entries → ⊥) → g.n ≤ 1048576 → p.blocks ≤ g.n - data_start g → TakesTree g t
takes g t p count blocks few bound fits = record {
  nodes = omega (arith, count, few);
  blocks = omega (arith, blocks, bound, fits);
}

pub fits_back : (g : Geometry) (t : Tree) (p : Plan) → p.blocks ≡ min (figures.blocks g.layout t) (2 ^ 64 - 1) → TakesTree g t → p.blocks ≤ g.n - data_start g
fits_back g t p blocks takes = omega (arith, blocks, takes.blocks)

-- The command of a path.

paths_tie : (p q : List (List ℕ)) → p ≡ q → eq_by_cmp path_cmp p q ≡ true
paths_tie p q e = ap (λ z. eq_by_cmp path_cmp z q) e ∙ ap is_eq (tied_itself (lists_total (lists_total nat_cmp_total)) q)

paths_differ : (p q : List (List ℕ)) → (p ≡ q → ⊥) → eq_by_cmp path_cmp p q ≡ false
paths_differ p q apart = by (cases_Bool (eq_by_cmp path_cmp p q))
  where
    by : (eq_by_cmp path_cmp p q ≡ true) ⊎ (eq_by_cmp path_cmp p q ≡ false) → eq_by_cmp path_cmp p q ≡ false
    by (inl e) = absurd (apart (slice_cmp-IsAntisymmetric (slice_cmp-IsAntisymmetric nat_cmp-IsAntisymmetric) p q ((Equal-is (path_cmp p q)).0 e)))
    by (inr e) = e

module _ (limit : ℕ) (t : Tree) (ok : IsSound limit t) (l : Layout) (p : Plan) (h : IsWholePlan l t p) (place : ℕ) (e : Entry) (there : slice_get p.entries.items place ≡ Some e)
    (path : List (List ℕ)) (at : slice_get (paths_made t.names) place ≡ Some path) where
  is_there : IsEntry t e
  is_there = entry_at t p.entries.items h.each place e there

  pub its_path : e.path ≡ path
  its_path = same_Some e.path path (sym (path_at p.entries.items place e there) ∙ ap (λ (ps : List (List (List ℕ))). slice_get ps place) (sym (whole_paths l t p h)) ∙ at)

  leads : get t.names path ≡ Some e.number
  leads = ap (get t.names) (sym its_path) ∙ is_there.number

  -- the first place of its number
  first_place : (j : ℕ) × (place_of e.number p.entries.items ≡ Some j)
  first_place = placed p.entries.items place e e.number there refl

  abbrev pub first : ℕ
  first = unwrap_or (btree.get nat_cmp p.firsts e.number) place

  pub has_first : IsFirst t p.entries.items path first
  has_first = subst (IsFirst t p.entries.items path) (sym (ap (λ (o : Option ℕ). unwrap_or o place) (h.firsts e.number ∙ first_place.1)))
      (first_at t p.entries.items h.each path e.number leads first_place.0 first_place.1)

  found_path : first_alike t (paths_made t.names) path ≡ Some has_first.entry.path
  found_path = ap (find (is_same_node t path)) (whole_paths l t p h) ∙ has_first.found

  pub makes_dir : e.is_dir ≡ true → Mkdir e.path ≡ path_command t (paths_made t.names) path
  makes_dir dir =
      ap Mkdir its_path ∙ sym (ap (λ (b : Bool). if b then Mkdir path else file_command (first_alike t (paths_made t.names) path) path)
      (ap (λ q. is_dir (thing_at t q)) (sym its_path) ∙ sym is_there.dir ∙ dir))

  is_file : e.is_dir ≡ false → path_command t (paths_made t.names) path ≡ file_command (Some has_first.entry.path) path
  is_file file =
      ap (λ (b : Bool). if b then Mkdir path else file_command (first_alike t (paths_made t.names) path) path)
      (ap (λ q. is_dir (thing_at t q)) (sym its_path) ∙ sym is_there.dir ∙ file)
      ∙ ap (λ (o : Option (List (List ℕ))). file_command o path) found_path

  -- at its first place it is created
  pub makes_file : e.is_dir ≡ false → first ≡ place → Create e.path ≡ path_command t (paths_made t.names) path
  makes_file file same =
      let one : has_first.entry ≡ e = same_Some has_first.entry e (sym has_first.there ∙ ap (slice_get p.entries.items) same ∙ there) in
      ap Create its_path
      ∙ sym (is_file file ∙ ap (λ (b : Bool). if b then Create path else link_from (Some has_first.entry.path) path)
      (paths_tie has_first.entry.path path (ap (λ (x : Entry). x.path) one ∙ its_path)))

  -- and else linked from there
  pub makes_link : IsMadeOnce → e.is_dir ≡ false → (first ≡ place → ⊥) → (origin : Entry) → slice_get p.entries.items first ≡ Some origin
      → Link origin.path e.path ≡ path_command t (paths_made t.names) path
  makes_link once file other origin from =
      let one : has_first.entry ≡ origin = same_Some has_first.entry origin (sym has_first.there ∙ from) in
      let differ : has_first.entry.path ≡ path → ⊥ =
      λ same. other (once limit t path first place ok (ap (λ (ps : List (List (List ℕ))). slice_get ps first) (whole_paths l t p h) ∙ path_at p.entries.items first has_first.entry has_first.there ∙ ap Some same) at) in
      ap (λ q. Link q e.path) (sym (ap (λ (x : Entry). x.path) one)) ∙ ap (Link has_first.entry.path) its_path
      ∙ sym (is_file file ∙ ap (λ (b : Bool). if b then Create path else link_from (Some has_first.entry.path) path) (paths_differ has_first.entry.path path differ))

  -- there is an entry at it
  pub no_gap : slice_get p.entries.items first ≡ None → ⊥
  no_gap none = none-some has_first.entry (sym none ∙ has_first.there)

-- Whether a path is the first one of its node.

module _ (made : IsMadeOnce) (limit : ℕ) (t : Tree) (ok : IsSound limit t) (l : Layout) (p : Plan) (h : IsWholePlan l t p) (place : ℕ) (e : Entry) (there : slice_get p.entries.items place ≡ Some e) where
  pub at_place : slice_get (paths_made t.names) place ≡ Some e.path
  at_place = ap (λ (ps : List (List (List ℕ))). slice_get ps place) (whole_paths l t p h) ∙ path_at p.entries.items place e there

  -- it is where its place is the first one
  pub is_first_path : unwrap_or (btree.get nat_cmp p.firsts e.number) place ≡ place → is_path e.path (first_alike t (paths_made t.names) e.path) ≡ true
  is_first_path same =
      let f = has_first limit t ok l p h place e there e.path at_place in
      let one : f.entry ≡ e = same_Some f.entry e (sym f.there ∙ ap (slice_get p.entries.items) same ∙ there) in
      ap (is_path e.path) (found_path limit t ok l p h place e there e.path at_place) ∙ paths_tie f.entry.path e.path (ap (λ (x : Entry). x.path) one)

  pub is_later_path : (unwrap_or (btree.get nat_cmp p.firsts e.number) place ≡ place → ⊥) → is_path e.path (first_alike t (paths_made t.names) e.path) ≡ false
  is_later_path other =
      let f = has_first limit t ok l p h place e there e.path at_place in
      ap (is_path e.path) (found_path limit t ok l p h place e there e.path at_place)
      ∙ paths_differ f.entry.path e.path (λ same. other (made limit t e.path (unwrap_or (btree.get nat_cmp p.firsts e.number) place) place ok
      (ap (λ (ps : List (List (List ℕ))). slice_get ps (unwrap_or (btree.get nat_cmp p.firsts e.number) place)) (whole_paths l t p h)
      ∙ path_at p.entries.items (unwrap_or (btree.get nat_cmp p.firsts e.number) place) f.entry f.there ∙ ap Some same) at_place))
