-- No command of a load would scatter a node: neither a node nor what it grows by has more than 13 blocks.
use Rattle.std.proofs.Common.{◌≡◌, sym, refl, subst, arith, ℕ, ◌+◌, ◌-◌, ◌≤◌, ◌==◌, max, min, Bool, if◌then◌else◌, List, [], ◌∷◌, ◌++◌, length, take, Option, Some, None, nat_lt, true, false}
use Rattle.std.specs.Prelude.{option_and_then}
use Rattle.std.specs.FinMap.{empty, get}
use Rattle.std.specs.List.{zip}
use Rattle.std.proofs.lemmas.List.{length-append, length-take}
use Rattle.std.proofs.lemmas.List.Sums.{count_by-le-length}
use Rattle.std.proofs.lemmas.Slice.Zip.{length-zip}
use Rattle.base_types.specs.declared.layout.Layout.{Layout}
use Rattle.base_types.specs.declared.layout.Layout.TheVariants.{One}
use Rattle.base_types.specs.Layouts.{directory_blocks}
use Rattle.base_types.specs.LayoutLaws.{directory_grows}
use Rattle.layout_extent.specs.Runs.{is_break, stretches}
use Rattle.lang_tree.specs.declared.command.Cmd.{Cmd}
use Rattle.lang_tree.specs.declared.command.Cmd.TheVariants.{Mkdir, Create, Write, Fill, Truncate, Link, Rename, Snap}
use Rattle.lang_tree.specs.declared.command.Refusal.{Refusal}
use Rattle.lang_tree.specs.Conditions.{refusal}
use Rattle.lang_tree.specs.Figures.{Figures, accepted_figures, blocks_for, figures_by, growth, move_figures, nothing, truncate_figures, write_figures, are_in_one, blocks_gone, moving, release, shrinking, siblings, writing}
use Rattle.lang_tree.specs.Names.{names_in}
use Rattle.lang_tree.specs.Step.{Session}
use Rattle.lang_tree.specs.Tree.{Bounds, Tree, Thing, Dir, File}
use Rattle.layout_geometry.specs.Geometry.{bitmap_blocks}
use Rattle.fs_session.specs.NothingKept.{CostsAsAlone, alone_costs, alone_runs, no_snapshot}
use Rattle.fs_session.specs.Room.{HoldsTree, Room, Scatters, figures_in}
use Rattle.fs_session.specs.Space.{grown_in, grown_path}
use Rattle.cmd_load.specs.Summary.{shape}
use Rattle.cmd_load.specs.Trees.{IsLoadTree}
use Rattle.cmd_load.proofs.Fullness.{few_names}
use Rattle.cmd_load.proofs.Trees.{IsLoadCommand}
use Rattle.lang_tree.specs.Walk.{content, is_same_node, is_there}

-- A list has no more stretches than numbers.

few_stretches : (xs : List ℕ) → stretches xs ≤ length xs
few_stretches [] = omega arith
few_stretches (x ∷ xs) = omega (arith, count_by-le-length is_break (zip (x ∷ xs) xs), length-zip (x ∷ xs) xs)

-- A node of a load has at most 12 blocks.

file_low : (size : ℕ) → size ≤ 12288 → blocks_for size ≤ 12
file_low size low = omega (arith, low)

directory_low : (count : ℕ) → count ≤ 8 → directory_blocks One count ≤ 12
directory_low count low = omega (arith, low)

few_places : (t : Tree) (r : Room) (path : List (List ℕ)) (k : ℕ) → IsLoadTree t → t.snapshots ≡ empty → HoldsTree shape t r → get t.names path ≡ Some k → length (r.places k) ≤ 12
few_places t r path k is alone holds at = by (get t.nodes k) refl
  where
    by : (o : Option Thing) → get t.nodes k ≡ o → length (r.places k) ≤ 12
    by None none = subst (λ (xs : List ℕ). length xs ≤ 12) (sym (holds.unused k none (no_snapshot t k alone))) (omega arith)
    by (Some Dir) dir = subst (λ (n : ℕ). n ≤ 12) (sym (holds.directories path k at dir)) (directory_low (length (names_in t.names path)) (few_names t path is))
    by (Some (File bytes)) file = subst (λ (n : ℕ). n ≤ 12) (sym (holds.files k bytes file)) (file_low (length bytes) (is.files k bytes file))

-- A command of a load needs at most 13 blocks.

growth_low : (l : Layout) (count : ℕ) → growth l count ≤ 13
growth_low l count = omega (arith, directory_grows l count)

wider : (a b : ℕ) → max a b ≤ a + b
wider a b = grind arith

writing_low : (size hi : ℕ) → hi ≤ 12288 → blocks_for (max size hi) - blocks_for size ≤ 13
writing_low size hi low = by (max size hi) (wider size hi)
  where
    by : (m : ℕ) → m ≤ size + hi → blocks_for m - blocks_for size ≤ 13
    by m most = omega (arith, most, low)

write_need : (bitmap size offset count : ℕ) → offset + count ≤ 12288 → (write_figures bitmap size offset count).need ≤ 13
write_need bitmap size offset count low =
    elim (count == 0) as (λ b. (if b then nothing else writing bitmap size (min offset size) (offset + count)).need ≤ 13) [ true ↦ omega arith | false ↦ writing_low size (offset + count) low ]

truncate_need : (bitmap old new : ℕ) → new ≤ 12288 → (truncate_figures bitmap old new).need ≤ 13
truncate_need bitmap old new low = by (nat_lt old new) (nat_lt new old)
  where
    by : (b d : Bool) → (if b then writing bitmap old old new else if d then shrinking bitmap (blocks_for old - blocks_for new) else nothing).need ≤ 13
    by true d = writing_low old new low
    by false true = omega arith
    by false false = omega arith

move_need : (bitmap : ℕ) (l : Layout) (t : Tree) (from to : List (List ℕ)) → (move_figures bitmap l t from to).need ≤ 13
move_need bitmap l t from to = by (is_there t to) (are_in_one from to)
  where
    by : (b d : Bool) → (if b then moving bitmap 0 (release l (siblings t.names from) + blocks_gone t to) else if d then moving bitmap 0 0 else moving bitmap (growth l (siblings t.names to)) (release l (siblings t.names from))).need ≤ 13
    by true d = omega arith
    by false true = omega arith
    by false false = growth_low l (siblings t.names to)

rename_need : (bitmap : ℕ) (l : Layout) (t : Tree) (from to : List (List ℕ)) (b : Bool) → (if b then nothing else move_figures bitmap l t from to).need ≤ 13
rename_need bitmap l t from to true = omega arith
rename_need bitmap l t from to false = move_need bitmap l t from to

accepted_need : (bitmap : ℕ) (limit : Bounds) (t : Tree) (cmd : Cmd) → IsLoadCommand cmd → (accepted_figures bitmap limit t cmd).need ≤ 13
accepted_need bitmap limit t (Mkdir path) is = growth_low limit.layout (siblings t.names path)
accepted_need bitmap limit t (Create path) is = growth_low limit.layout (siblings t.names path)
accepted_need bitmap limit t (Link path other) is = growth_low limit.layout (siblings t.names other)
accepted_need bitmap limit t (Write path offset bytes) is = write_need bitmap (length (content t path)) offset (length bytes) is
accepted_need bitmap limit t (Fill path offset count byte) is = write_need bitmap (length (content t path)) offset count is
accepted_need bitmap limit t (Truncate path size) is = truncate_need bitmap (length (content t path)) size is
accepted_need bitmap limit t (Rename from to) is = rename_need bitmap limit.layout t from to (is_same_node t from to)
accepted_need bitmap limit t other is = grind arith

need_by : (bitmap : ℕ) (limit : Bounds) (t : Tree) (cmd : Cmd) (o : Option Refusal) → IsLoadCommand cmd → (figures_by bitmap limit t cmd o).need ≤ 13
need_by bitmap limit t cmd (Some why) is = omega arith
need_by bitmap limit t cmd None is = accepted_need bitmap limit t cmd is

few_needed : CostsAsAlone → (f : Session) (r : Room) (cmd : Cmd) → f.tree.snapshots ≡ empty → IsLoadCommand cmd → (figures_in shape f r cmd).need ≤ 13
few_needed unshared f r cmd alone is = subst (λ (n : Figures). n.need ≤ 13) (sym (alone_costs shape f r alone unshared cmd)) (need_by (bitmap_blocks shape) f.limit f.tree cmd (refusal f.limit f.tree cmd) is)

-- Its node is at some path.

at_path : (f : Session) (k : ℕ) (o : Option (List (List ℕ))) → option_and_then (get f.tree.names) o ≡ Some k → (path : List (List ℕ)) × (get f.tree.names path ≡ Some k)
at_path f k None e = cc e
at_path f k (Some path) e = (path, e)

grown_at : (f : Session) (cmd : Cmd) (k : ℕ) → IsLoadCommand cmd → grown_in f cmd ≡ Some k → (path : List (List ℕ)) × (get f.tree.names path ≡ Some k)
grown_at f (Snap name) k law e = absurd law
grown_at f cmd k law e = at_path f k (grown_path cmd) e

pub never_scattered : CostsAsAlone → (f : Session) (r : Room) (cmd : Cmd) (why : Refusal) → IsLoadCommand cmd → IsLoadTree f.tree → f.tree.snapshots ≡ empty → HoldsTree shape f.tree r → Scatters shape f r cmd (figures_in shape f r cmd).need why → ⊥
never_scattered unshared f r cmd why law is alone holds s =
    let at = grown_at f cmd s.node law s.grows in
    let own = few_places f.tree r at.0 s.node is alone holds at.1 in
    let need = (figures_in shape f r cmd).need in
    omega (
      arith,
      s.past,
      alone_runs shape f r alone cmd s.node need,
      few_stretches (r.places s.node ++ take need r.takeable),
      length-append (r.places s.node) (take need r.takeable),
      length-take need r.takeable,
      own,
      few_needed unshared f r cmd alone law,
      at_most need (length r.takeable),
    )
  where
    at_most : (a b : ℕ) → min a b ≤ a
    at_most a b = grind arith
