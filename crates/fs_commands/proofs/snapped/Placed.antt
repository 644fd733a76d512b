-- Bytes that lie in blocks, one behind the other: what each block has, and that the blocks have a snapshot where these are its bytes.
use Rattle.std.proofs.Common.{◌≡◌, ◌≢◌, ◌⊎◌, inl, inr, ℕ, zero, suc, ◌+◌, ◌-◌, ◌*◌, ◌<◌, ◌≤◌, ◌==◌, ◌||◌, true, if◌then◌else◌, List, [], ◌∷◌, ◌++◌, length, take, drop, get_or, slice_get, Some, refl, sym, ap, ◌∙◌, arith}
use Rattle.std.proofs.Math.Seq.{drop-append_seam, take-append_seam}
use Rattle.std.proofs.lemmas.Bool.{cases_eq, cases_order, eq-eqb, false≢true, ne_eqb}
use Rattle.std.proofs.lemmas.List.{length-append}
use Rattle.std.proofs.lemmas.Option.{none-some, same_Some, slice_get-get_or, slice_get_within}
use Rattle.std.specs.List.{AllPairs, flat_map}
use Rattle.std.specs.Prelude.{⊤}
use Rattle.base_types.specs.Runs.{run_places}
use Rattle.base_types.specs.Seal.{Blocks}
use Rattle.base_types.specs.Layouts.{node_block, node_byte, node_size}
use Rattle.base_types.specs.LayoutLaws.{node_in_table}
use Rattle.layout_geometry.specs.Geometry.{Geometry, IsGeometry, table_start}
use Rattle.layout_extent.specs.Renew.{AreOnce}
use Rattle.layout_bytes.specs.declared.node.Node.{Node}
use Rattle.layout_bytes.specs.declared.node.NodeKind.TheVariants.{File}
use Rattle.layout_bytes.specs.Node.{node_bytes}
use Rattle.crash_stands.specs.Files.{joined, used_node}
use Rattle.crash_stands.specs.Places.{dir_part, kept_table, table_blocks}
use Rattle.crash_snapshots.specs.Kept.{AreCopies, HasSnapshot}
use Rattle.crash_snapshots.specs.Making.{with_blocks}
use Rattle.crash_snapshots.specs.Places.{all_dirs}
use Rattle.engine_blocks.specs.Running.{has}
use Rattle.fs_commands.proofs.snapped.Sizes.{AreWhole}

-- The blocks at these places have these bytes, one by one.
abbrev pub Have : Blocks → List ℕ → List (List ℕ) → Type 0
Have m [] [] = ⊤
Have m (p ∷ ps) (y ∷ ys) = (m p ≡ y) × Have m ps ys
Have m [] (y ∷ ys) = ⊥
Have m (p ∷ ps) [] = ⊥

cut_front : (a b x y : List ℕ) → length a ≡ 1024 → length b ≡ 1024 → a ++ x ≡ b ++ y → (a ≡ b) × (x ≡ y)
cut_front a b x y la lb e = (
  sym (take-append_seam a x) ∙ ap (λ n. take n (a ++ x)) (la ∙ sym lb) ∙ ap (take (length b)) e ∙ take-append_seam b y,
  sym (drop-append_seam a x) ∙ ap (λ n. drop n (a ++ x)) (la ∙ sym lb) ∙ ap (drop (length b)) e ∙ drop-append_seam b y,
)

pub have : (m : Blocks) (ps : List ℕ) (ys : List (List ℕ)) → length ps ≡ length ys → ((i p : ℕ) → slice_get ps i ≡ Some p → length (m p) ≡ 1024) → AreWhole ys → joined m ps ≡ flat_map (λ block. block) ys → Have m ps ys
have m [] [] count whole each e = tt
have m [] (y ∷ ys) count whole each e = absurd (omega (arith, count))
have m (p ∷ ps) [] count whole each e = absurd (omega (arith, count))
have m (p ∷ ps) (y ∷ ys) count whole each e =
    let r = cut_front (m p) y (joined m ps) (flat_map (λ block. block) ys) (whole 0 p refl) (each 0 y refl) e in
    (r.0, have m ps ys (omega (arith, count)) (λ i q is. whole (suc i) q is) (λ i z is. each (suc i) z is) r.1)

-- so many bytes lie in them
pub joined_long : (m : Blocks) (ps : List ℕ) → ((i p : ℕ) → slice_get ps i ≡ Some p → length (m p) ≡ 1024) → length (joined m ps) ≡ 1024 * length ps
joined_long m [] whole = refl
joined_long m (p ∷ ps) whole = omega (arith, length-append (m p) (joined m ps), whole 0 p refl, joined_long m ps (λ i q is. whole (suc i) q is))

-- they are as if they were written there
pub as_written : (old m : Blocks) (ps : List ℕ) (ys : List (List ℕ)) (b : ℕ) → Have m ps ys → has ps b ≡ true → m b ≡ with_blocks old ps ys b
as_written old m [] ys b h is = absurd (false≢true is)
as_written old m (p ∷ ps) [] b h is = absurd h
as_written old m (p ∷ ps) (y ∷ ys) b h is = by (cases_eq b p) (as_written old m ps ys b h.1)
  where
    by : (b ≡ p) ⊎ (b ≢ p) → (has ps b ≡ true → m b ≡ with_blocks old ps ys b) → m b ≡ (if b == p then y else with_blocks old ps ys b)
    by (inl e) rec = ap m e ∙ h.0 ∙ sym (ap (λ t. if t then y else with_blocks old ps ys b) (eq-eqb b p e))
    by (inr ne) rec = rec (sym (ap (λ t. t || has ps b) (ne_eqb b p ne)) ∙ is) ∙ sym (ap (λ t. if t then y else with_blocks old ps ys b) (ne_eqb b p ne))

-- A snapshot is there where the blocks at its places are the same.

copies_alike : (old m w : Blocks) (bs ps : List ℕ) → ((i p : ℕ) → slice_get ps i ≡ Some p → m p ≡ w p) → AreCopies old w bs ps → AreCopies old m bs ps
copies_alike old m w [] [] same h = tt
copies_alike old m w (b ∷ bs) (p ∷ ps) same h = (same 0 p refl ∙ h.0, copies_alike old m w bs ps (λ i q is. same (suc i) q is) h.1)
copies_alike old m w [] (p ∷ ps) same h = absurd h
copies_alike old m w (b ∷ bs) [] same h = absurd h

further : (n : ℕ) (ps : List ℕ) (i p : ℕ) → slice_get (drop n ps) i ≡ Some p → slice_get ps (n + i) ≡ Some p
further zero ps i p e = ap (slice_get ps) {x = 0 + i} {y = i} (omega arith) ∙ e
further (suc n) [] i p e = absurd (none-some p e)
further (suc n) (x ∷ ps) i p e = ap (slice_get (x ∷ ps)) {x = suc n + i} {y = suc (n + i)} (omega arith) ∙ further n ps i p e

module _ (g : Geometry) (old m w : Blocks) (places : List ℕ) (limits : IsGeometry g) (long : 1 + table_blocks g ≤ length places) (same : (i p : ℕ) → slice_get places i ≡ Some p → m p ≡ w p)
    (files : (k i b : ℕ) (node : Node) → used_node g old k ≡ Some node → node.kind ≡ File → slice_get (run_places node.runs) i ≡ Some b → m b ≡ old b) where
  table_alike : (k : ℕ) → 1 ≤ k → k ≤ g.i → node_bytes g (kept_table m places g) k ≡ node_bytes g (kept_table w places g) k
  table_alike k from upto =
      let at = 1 + (table_start g + node_block g.layout k - table_start g) in
      ap (λ bytes. take (node_size g.layout) (drop (node_byte g.layout k) bytes)) (same at (get_or places at 0) (slice_get-get_or places at 0 (omega (arith, long, node_in_table g.layout g.i k limits.whole_blocks from upto))))

  pub has_alike : HasSnapshot g old w places → HasSnapshot g old m places
  has_alike h = record {
    table = λ k from upto. table_alike k from upto ∙ h.table k from upto;
    dirs = copies_alike old m w (all_dirs (used_node g old) 1 g.i) (dir_part g places) (λ i p is. same (1 + table_blocks g + i) p (further (1 + table_blocks g) places i p is)) h.dirs;
    files = files;
  }

-- different numbers have one place each
pub once_of : (xs : List ℕ) → AllPairs (λ a b. a ≢ b) xs → AreOnce xs
once_of xs once i j b at there = by (cases_order i j)
  where
    is : (k : ℕ) → slice_get xs k ≡ Some b → get_or xs k 0 ≡ b
    is k e = same_Some (get_or xs k 0) b (sym (slice_get-get_or xs k 0 (slice_get_within xs k b e)) ∙ e)

    by : (i ≡ j) ⊎ ((i < j) ⊎ (j < i)) → i ≡ j
    by (inl e) = e
    by (inr (inl low)) = absurd (once i j 0 low (slice_get_within xs j b there) (is i at ∙ sym (is j there)))
    by (inr (inr low)) = absurd (once j i 0 low (slice_get_within xs i b at) (is j there ∙ sym (is i at)))
