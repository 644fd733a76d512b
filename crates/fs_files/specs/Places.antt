-- Lemmas on the blocks of nodes, and on looks, that crates above cite too. They add no meaning to the promises.
use Rattle.std.proofs.Common.{◌≡◌, ◌≢◌, ◌⊎◌, inl, inr, ℕ, zero, suc, ◌+◌, ◌*◌, ◌<◌, ◌≤◌, ◌==◌, ◌||◌, not, nat_lt, nat_le, Bool, true, false, List, [], ◌∷◌, ◌++◌, length, slice_get, slice_index, Option, Some, None, refl, sym, ap, subst, ◌∙◌, arith, rules}
use Rattle.std.proofs.lemmas.List.{length-append}
use Rattle.std.proofs.lemmas.Bool.{and_parts, leb-true, ltb-true, not-true, eqb-false, eqb-true, eq-eqb, false≢true, or_right, or_cases}
use Rattle.std.proofs.lemmas.Option.{none-some, same_Some}
use Rattle.base_types.specs.Seal.{Blocks}
use Rattle.base_types.specs.declared.places.Run.{Run}
use Rattle.base_types.specs.Runs.{blocks_from, run_places}
use Rattle.layout_geometry.specs.Geometry.{Geometry, data_start}
use Rattle.layout_bytes.specs.declared.node.Node.{Node}
use Rattle.layout_bytes.specs.declared.node.NodeKind.{NodeKind}
use Rattle.layout_bytes.specs.Bytes.{when}
use Rattle.layout_bytes.specs.Node.{node_of, node_with, node_fields, node_fits, spare_zeros, used_kind, runs_fit, run_blocks}
use Rattle.engine_blocks.specs.Puts.{IsData}
use Rattle.engine_blocks.specs.Running.{has}
use Rattle.engine_blocks.specs.State.{State}
use Rattle.crash_stands.specs.Files.{joined}
use Rattle.fs_files.specs.Effects.{LooksOnly}

-- Places in a list.

-- a number of a list has a place in it
pub place_of : (xs : List ℕ) (b : ℕ) → has xs b ≡ true → (i : ℕ) × (slice_get xs i ≡ Some b)
place_of [] b e = absurd (false≢true e)
place_of (x ∷ xs) b e = by (place_of xs b) (or_cases (b == x) (has xs b) e)
  where
    by : (has xs b ≡ true → (i : ℕ) × (slice_get xs i ≡ Some b)) → ((b == x) ≡ true) ⊎ (has xs b ≡ true) → (i : ℕ) × (slice_get (x ∷ xs) i ≡ Some b)
    by further (inl same) = (0, ap Some (sym (eqb-true b x same)))
    by further (inr rest) = let r = further rest in (suc r.0, r.1)

-- and what has a place is a number of it
pub has_place : (xs : List ℕ) (i b : ℕ) → slice_get xs i ≡ Some b → has xs b ≡ true
has_place [] i b e = absurd (none-some b e)
has_place (x ∷ xs) zero b e = ap (λ t. t || has xs b) (eq-eqb b x (sym (same_Some x b e)))
has_place (x ∷ xs) (suc i) b e = or_right (b == x) (has xs b) (has_place xs i b e)

-- a number of two lists, one behind the other, is in one of them
pub has_append : (xs ys : List ℕ) (b : ℕ) → has (xs ++ ys) b ≡ (has xs b || has ys b)
has_append [] ys b = refl
has_append (x ∷ xs) ys b = ap (λ t. (b == x) || t) (has_append xs ys b) ∙ either (b == x)
  where
    either : (t : Bool) → (t || (has xs b || has ys b)) ≡ ((t || has xs b) || has ys b)
    either true = refl
    either false = refl

pub in_append : (xs ys : List ℕ) (b : ℕ) → has (xs ++ ys) b ≡ true → (has xs b ≡ true) ⊎ (has ys b ≡ true)
in_append xs ys b e = or_cases (has xs b) (has ys b) (sym (has_append xs ys b) ∙ e)

-- A node that is read fits.

pub when_some : {A : Type 0} (t : Bool) (x : Option A) (y : A) → when t x ≡ Some y → (t ≡ true) × (x ≡ Some y)
when_some true x y e = (refl, e)
when_some false x y e = absurd (none-some y e)

pub fits_with : (g : Geometry) (b : List ℕ) (o : Option NodeKind) (node : Node) → node_with g b o ≡ Some node → node_fits g node ≡ true
fits_with g b None node e = absurd (none-some node e)
fits_with g b (Some kind) node e =
    let spare = when_some (spare_zeros g.layout b) (when (node_fits g (node_fields kind b)) (Some (node_fields kind b))) node e in
    let fits = when_some (node_fits g (node_fields kind b)) (Some (node_fields kind b)) node spare.1 in
    subst (λ (m : Node). node_fits g m ≡ true) (same_Some (node_fields kind b) node fits.1) fits.0

pub read_fits : (g : Geometry) (b : List ℕ) (node : Node) → node_of g b ≡ Some node → node_fits g node ≡ true
unfolding node_of
read_fits g b node e = fits_with g b (used_kind (slice_index b 0)) node e

-- what it is that the first of runs fits
pub record FirstFits (g : Geometry) (end : ℕ) (r : Run) (rs : List Run) : Type 0 where
  pub some : 0 < r.count
  pub from : data_start g ≤ r.first
  pub below : r.first + r.count ≤ g.n
  pub apart : r.first ≢ end
  pub rest : runs_fit g (r.first + r.count) rs ≡ true

pub first_fits : (g : Geometry) (end : ℕ) (r : Run) (rs : List Run) → runs_fit g end (r ∷ rs) ≡ true → FirstFits g end r rs
first_fits g end r rs fits =
    let some = and_parts (nat_lt 0 r.count) _ fits in
    let from = and_parts (nat_le (data_start g) r.first) _ some.1 in
    let last = and_parts (nat_le (r.first + r.count) g.n) _ from.1 in
    let apart = and_parts (not (r.first == end)) (runs_fit g (r.first + r.count) rs) last.1 in
    record {
      some = ltb-true 0 r.count some.0;
      from = leb-true (data_start g) r.first from.0;
      below = leb-true (r.first + r.count) g.n last.0;
      apart = eqb-false r.first end (not-true (r.first == end) apart.0);
      rest = apart.1;
    }

-- Its blocks are data blocks, as many as its runs count.

pub blocks_within : (x c b : ℕ) → has (blocks_from x c) b ≡ true → (x ≤ b) × (b < x + c)
blocks_within x zero b e = absurd (false≢true e)
blocks_within x (suc c) b e = by (blocks_within (x + 1) c b) (or_cases (b == x) (has (blocks_from (x + 1) c) b) e)
  where
    by : (has (blocks_from (x + 1) c) b ≡ true → (x + 1 ≤ b) × (b < x + 1 + c)) → ((b == x) ≡ true) ⊎ (has (blocks_from (x + 1) c) b ≡ true) → (x ≤ b) × (b < x + suc c)
    by further (inl same) = let is = eqb-true b x same in (omega (arith, is), omega (arith, is))
    by further (inr rest) = let r = further rest in (omega (arith, r.0), omega (arith, r.1))

pub runs_data : (g : Geometry) (end : ℕ) (rs : List Run) (b : ℕ) → runs_fit g end rs ≡ true → has (run_places rs) b ≡ true → IsData g b
runs_data g end [] b fits e = absurd (false≢true e)
runs_data g end (r ∷ rs) b fits e =
    let first = first_fits g end r rs fits in
    by first.from first.below (runs_data g (r.first + r.count) rs b first.rest) (in_append (blocks_from r.first r.count) (run_places rs) b e)
  where
    by : data_start g ≤ r.first → r.first + r.count ≤ g.n → (has (run_places rs) b ≡ true → IsData g b) → (has (blocks_from r.first r.count) b ≡ true) ⊎ (has (run_places rs) b ≡ true) → IsData g b
    by low high next (inl here) = let at = blocks_within r.first r.count b here in record { from = omega (arith, at.0, low); below = omega (arith, at.1, high) }
    by low high next (inr rest) = next rest

pub length_blocks : (x c : ℕ) → length (blocks_from x c) ≡ c
length_blocks x zero = refl
length_blocks x (suc c) = ap suc (length_blocks (x + 1) c)

pub places_count : (rs : List Run) → length (run_places rs) ≡ run_blocks rs
places_count [] = refl
places_count (r ∷ rs) = omega (arith, length-append (blocks_from r.first r.count) (run_places rs), length_blocks r.first r.count, places_count rs)

-- The bytes of blocks.

-- so many whole blocks have so many bytes
pub joined_length : (m : Blocks) (bs : List ℕ) → ((b : ℕ) → has bs b ≡ true → length (m b) ≡ 1024) → length (joined m bs) ≡ 1024 * length bs
joined_length m [] whole = refl
joined_length m (b ∷ bs) whole =
    let first = whole b (ap (λ t. t || has bs b) (eq-eqb b b refl)) in
    let rest = joined_length m bs (λ c is. whole c (or_right (c == b) (has bs c) is)) in
    omega (arith, length-append (m b) (joined m bs), first, rest)

-- the bytes of blocks that are the same in both
pub joined_same : (m n : Blocks) (bs : List ℕ) → ((b : ℕ) → has bs b ≡ true → n b ≡ m b) → joined n bs ≡ joined m bs
joined_same m n [] same = refl
joined_same m n (b ∷ bs) same =
    ap (λ xs. xs ++ joined n bs) (same b (ap (λ t. t || has bs b) (eq-eqb b b refl)))
    ∙ ap (λ xs. m b ++ xs) (joined_same m n bs (λ c is. same c (or_right (c == b) (has bs c) is)))

-- Looks, one behind the other.

-- nothing was done
pub looks_none : (tells : Bool) (s : State) → LooksOnly tells false s s
looks_none tells s = search (rules, arith)

-- two looks, of which the first didn't fail
pub looks_more : (tells failed : Bool) (s t u : State) → LooksOnly tells false s t → LooksOnly tells failed t u → LooksOnly tells failed s u
looks_more tells failed s t u first second = search (rules, arith)
