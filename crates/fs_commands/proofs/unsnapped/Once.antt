-- Blocks of nodes, one behind the other: none is there twice where each node has each of its own once and shares none. And what a list without some of its numbers has.
use Rattle.std.proofs.Common.{◌≡◌, ◌≢◌, ◌⊎◌, inl, inr, ℕ, zero, suc, ◌+◌, ◌<◌, ◌≤◌, ◌==◌, ◌||◌, Bool, true, false, cond, List, [], ◌∷◌, ◌++◌, get_or, slice_get, All, AllPairs, filter, Option, None, Some, refl, sym, ap, ◌∙◌, arith}
use Rattle.std.proofs.lemmas.Bool.{eq-eqb, eqb-true, false≢true, or_cases, or_right, true≢false}
use Rattle.std.proofs.lemmas.List.Kept.{AllPairs-cons}
use Rattle.std.proofs.lemmas.Option.{none-some, same_Some, slice_get-get_or, slice_get_within}
use Rattle.base_types.specs.Runs.{run_places}
use Rattle.base_types.specs.Seal.{Blocks}
use Rattle.layout_geometry.specs.Geometry.{Geometry}
use Rattle.layout_bytes.specs.declared.node.Node.{Node}
use Rattle.layout_bytes.specs.declared.node.NodeKind.{NodeKind}
use Rattle.layout_bytes.specs.declared.node.NodeKind.TheVariants.{Free, Dir, File, Snapshot}
use Rattle.crash_stands.specs.Files.{used_node}
use Rattle.crash_stands.specs.Places.{kept_table}
use Rattle.crash_stands.specs.Sharing.{HasKeptBlock, IsSoundKept}
use Rattle.crash_stands.specs.Stands.{AreSound, HasBlock}
use Rattle.engine_blocks.specs.Running.{has}
use Rattle.fs_files.specs.Calls.{places_of}
use Rattle.fs_files.specs.Places.{has_place, in_append, place_of}
use Rattle.fs_snapshots.specs.Among.{among_nodes, used_number}
use Rattle.fs_snapshots.specs.Known.{blocks_by_kind, blocks_kept, file_blocks, node_blocks}
use Rattle.fs_session.specs.Snapshots.{kept_files_of, live_files}

-- Lists without a number that is there twice.

abbrev pub IsOnce : List ℕ → Type 0
IsOnce xs = AllPairs (λ a b. a ≢ b) xs

-- each number has one place
once_by : (xs : List ℕ) → ((i j b : ℕ) → slice_get xs i ≡ Some b → slice_get xs j ≡ Some b → i ≡ j) → IsOnce xs
once_by xs one i j d before low same =
    let at : slice_get xs i ≡ Some (get_or xs i d) = slice_get-get_or xs i d (omega (arith, before, low)) in
    omega (arith, before, one i j (get_or xs i d) at (slice_get-get_or xs j d low ∙ ap Some (sym same)))

-- a number that isn't there differs from each that is
differs : (x : ℕ) (zs : List ℕ) → (has zs x ≡ true → ⊥) → All (λ y. x ≢ y) zs
differs x zs off i d low same = off (has_place zs i x (slice_get-get_or zs i d low ∙ ap Some (sym same)))

-- the first one isn't there again
pub not_again : (x : ℕ) (xs : List ℕ) → IsOnce (x ∷ xs) → has xs x ≡ true → ⊥
not_again x xs once is =
    let p = place_of xs x is in
    let low = slice_get_within xs p.0 x p.1 in
    once 0 (suc p.0) 0 (omega arith) (omega (arith, low)) (sym (same_Some (get_or xs p.0 0) x (sym (slice_get-get_or xs p.0 0 low) ∙ p.1)))

-- two lists, one behind the other, that have none in common
once_append : (xs ys : List ℕ) → IsOnce xs → IsOnce ys → ((b : ℕ) → has xs b ≡ true → has ys b ≡ true → ⊥) → IsOnce (xs ++ ys)
once_append [] ys first second apart = second
once_append (x ∷ xs) ys first second apart =
    AllPairs-cons (λ a b. a ≢ b) x (xs ++ ys) (differs x (xs ++ ys) (λ is. by (in_append xs ys x is)))
    (once_append xs ys (λ i j d before low. first (suc i) (suc j) d (omega (arith, before)) (omega (arith, low))) second (λ b here. apart b (or_right (b == x) (has xs b) here)))
  where
    by : (has xs x ≡ true) ⊎ (has ys x ≡ true) → ⊥
    by (inl again) = not_again x xs first again
    by (inr there) = apart x (ap (λ t. t || has xs x) (eq-eqb x x refl)) there

-- Blocks of nodes.

-- one of them is a block of a node up to the last one
node_upto : (p : ℕ → List ℕ) (n b : ℕ) → has (node_blocks p n) b ≡ true → (k : ℕ) × (k ≤ n) × (has (p k) b ≡ true)
node_upto p zero b is = absurd (false≢true is)
node_upto p (suc n) b is = by (node_upto p n b) (in_append (node_blocks p n) (p (suc n)) b is)
  where
    by : (has (node_blocks p n) b ≡ true → (k : ℕ) × (k ≤ n) × (has (p k) b ≡ true)) → (has (node_blocks p n) b ≡ true) ⊎ (has (p (suc n)) b ≡ true) → (k : ℕ) × (k ≤ suc n) × (has (p k) b ≡ true)
    by further (inl before) = let r = further before in (r.0, omega (arith, r.1), r.2)
    by further (inr last) = (suc n, omega arith, last)

-- no block has two places
pub nodes_once : (p : ℕ → List ℕ) (n : ℕ) → ((k l i j b : ℕ) → slice_get (p k) i ≡ Some b → slice_get (p l) j ≡ Some b → (k ≡ l) × (i ≡ j)) → IsOnce (node_blocks p n)
nodes_once p zero own = λ i j d before low. absurd (omega (arith, low))
nodes_once p (suc n) own =
    once_append (node_blocks p n) (p (suc n)) (nodes_once p n own) (once_by (p (suc n)) (λ i j b x y. (own (suc n) (suc n) i j b x y).1)) (λ b before last.
    let k = node_upto p n b before in
    let x = place_of (p k.0) b k.2 in
    let y = place_of (p (suc n)) b last in
    omega (arith, k.1, (own k.0 (suc n) x.0 y.0 b x.1 y.1).0))

-- Files.

pub no_file : Snapshot ≡ File → ⊥
no_file e = cc

-- a block of a file is one of its node
file_place : (o : Option Node) (i b : ℕ) → slice_get (file_blocks o) i ≡ Some b → (node : Node) × (o ≡ Some node) × (node.kind ≡ File) × (slice_get (run_places node.runs) i ≡ Some b)
file_place None i b at = absurd (none-some b at)
file_place (Some node) i b at = let r = by node.kind refl at in (node, refl, r.0, r.1)
  where
    by : (kind : NodeKind) → node.kind ≡ kind → slice_get (blocks_by_kind kind (run_places node.runs)) i ≡ Some b → (node.kind ≡ File) × (slice_get (run_places node.runs) i ≡ Some b)
    by Free is at = absurd (none-some b at)
    by Dir is at = absurd (none-some b at)
    by File is at = (is, at)
    by Snapshot is at = absurd (none-some b at)

file_there : (node : Node) (i b : ℕ) → node.kind ≡ File → slice_get (run_places node.runs) i ≡ Some b → slice_get (file_blocks (Some node)) i ≡ Some b
file_there node i b kind at = ap (λ t. slice_get (blocks_by_kind t (run_places node.runs)) i) kind ∙ at

module _ (g : Geometry) (m : Blocks) where
  -- the tree's files have just the blocks that nodes which are files have
  pub live_has : (k i b : ℕ) (h : HasBlock g m k i b) → h.node.kind ≡ File → has (live_files g m) b ≡ true
  live_has k i b h kind =
      let at = used_number g m k h.node h.is_node in
      among_nodes (λ k. file_blocks (used_node g m k)) g.i k b at.0 at.1 (has_place (file_blocks (used_node g m k)) i b (ap (λ o. slice_get (file_blocks o) i) h.is_node ∙ file_there h.node i b kind h.place))

  pub has_live : (b : ℕ) → has (live_files g m) b ≡ true → (k : ℕ) × (i : ℕ) × (h : HasBlock g m k i b) × (h.node.kind ≡ File)
  has_live b is =
      let k = node_upto (λ k. file_blocks (used_node g m k)) g.i b is in
      let p = place_of (file_blocks (used_node g m k.0)) b k.2 in
      let f = file_place (used_node g m k.0) p.0 b p.1 in
      (k.0, p.0, record { node = f.0; is_node = f.1; place = f.3 }, f.2)

  -- none of which is there twice
  pub live_once : AreSound g m → IsOnce (live_files g m)
  live_once sound = nodes_once (λ k. file_blocks (used_node g m k)) g.i (λ k l i j b x y.
      let e = file_place (used_node g m k) i b x in
      let f = file_place (used_node g m l) j b y in
      sound.own k l i j b (record { node = e.0; is_node = e.1; place = e.3 }) (record { node = f.0; is_node = f.1; place = f.3 }))

  -- nor one of those that a snapshot keeps
  kept_place : (n k i b : ℕ) → slice_get (blocks_kept g m n k) i ≡ Some b → HasKeptBlock g m (places_of g m n) k i b
  kept_place n k i b at = let f = file_place _ i b at in record { node = f.0; is_node = f.1; kind = f.2; place = f.3 }

  pub kept_once : (n : ℕ) → IsSoundKept g m (places_of g m n) → IsOnce (kept_files_of g m n)
  kept_once n sound = nodes_once (blocks_kept g m n) g.i (λ k l i j b x y. sound.once k l i j b (kept_place n k i b x) (kept_place n l j b y))

  -- what a snapshot keeps is a block of a file that it keeps
  pub has_kept : (n b : ℕ) → has (kept_files_of g m n) b ≡ true → (k : ℕ) × (i : ℕ) × HasKeptBlock g m (places_of g m n) k i b
  has_kept n b is =
      let k = node_upto (blocks_kept g m n) g.i b is in
      let p = place_of (blocks_kept g m n k.0) b k.2 in
      (k.0, p.0, kept_place n k.0 p.0 b p.1)

  pub kept_has : (n k i b : ℕ) → HasKeptBlock g m (places_of g m n) k i b → has (kept_files_of g m n) b ≡ true
  kept_has n k i b h =
      let at = used_number g (kept_table m (places_of g m n) g) k h.node h.is_node in
      among_nodes (blocks_kept g m n) g.i k b at.0 at.1 (has_place (blocks_kept g m n k) i b (ap (λ o. slice_get (file_blocks o) i) h.is_node ∙ file_there h.node i b h.kind h.place))

-- What is left of a list where some are left out.

pub in_filter : (p : ℕ → Bool) (xs : List ℕ) (b : ℕ) → has (filter p xs) b ≡ true → (has xs b ≡ true) × (p b ≡ true)
in_filter p [] b is = absurd (false≢true is)
in_filter p (x ∷ xs) b is = by (in_filter p xs b) (p x) refl is
  where
    by : (has (filter p xs) b ≡ true → (has xs b ≡ true) × (p b ≡ true)) → (t : Bool) → p x ≡ t → has (cond t (x ∷ filter p xs) (filter p xs)) b ≡ true → (has (x ∷ xs) b ≡ true) × (p b ≡ true)
    by further false fails is = let r = further is in (or_right (b == x) (has xs b) r.0, r.1)
    by further true passes is = either (or_cases (b == x) (has (filter p xs) b) is)
      where
        either : ((b == x) ≡ true) ⊎ (has (filter p xs) b ≡ true) → (has (x ∷ xs) b ≡ true) × (p b ≡ true)
        either (inl same) = (ap (λ t. t || has xs b) same, ap p (eqb-true b x same) ∙ passes)
        either (inr later) = let r = further later in (or_right (b == x) (has xs b) r.0, r.1)

pub filter_in : (p : ℕ → Bool) (xs : List ℕ) (b : ℕ) → has xs b ≡ true → p b ≡ true → has (filter p xs) b ≡ true
filter_in p [] b is passes = absurd (false≢true is)
filter_in p (x ∷ xs) b is passes = by (λ later. filter_in p xs b later passes) (p x) refl (or_cases (b == x) (has xs b) is)
  where
    by : (has xs b ≡ true → has (filter p xs) b ≡ true) → (t : Bool) → p x ≡ t → ((b == x) ≡ true) ⊎ (has xs b ≡ true) → has (cond t (x ∷ filter p xs) (filter p xs)) b ≡ true
    by further true at (inl same) = ap (λ t. t || has (filter p xs) b) same
    by further false at (inl same) = absurd (true≢false (sym passes ∙ ap p (eqb-true b x same) ∙ at))
    by further true at (inr later) = or_right (b == x) (has (filter p xs) b) (further later)
    by further false at (inr later) = further later

-- all are left where all pass
pub all_left : (p : ℕ → Bool) (xs : List ℕ) → ((b : ℕ) → has xs b ≡ true → p b ≡ true) → filter p xs ≡ xs
all_left p [] pass = refl
all_left p (x ∷ xs) pass =
    ap (λ t. cond t (x ∷ filter p xs) (filter p xs)) (pass x (ap (λ t. t || has xs x) (eq-eqb x x refl)))
    ∙ ap (λ ys. x ∷ ys) (all_left p xs (λ b is. pass b (or_right (b == x) (has xs b) is)))
