-- The runs of a node, read one by one from the front.
use Rattle.std.proofs.Common.{◌≡◌, ℕ, suc, ◌+◌, ◌-◌, ◌*◌, ◌<◌, false, nat_lt, nat_le, List, [], ◌∷◌, ◌++◌, length, take, drop, slice_index, Some, None, sym, ap, ◌∙◌, arith, append_assoc, drop-drop, take_all, length-drop}
use Rattle.std.proofs.lemmas.Bool.{lt-leb, and_left, and_right}
use Rattle.std.proofs.lemmas.List.{length-append, drop-take}
use Rattle.byteorder.specs.Endian.{little_number}
use Rattle.byteorder.specs.Numbers.{little_from-take}
use Rattle.base_types.specs.declared.places.Run.{Run}
use Rattle.layout_geometry.specs.Geometry.{Geometry}
use Rattle.layout_bytes.specs.declared.node.NodeKind.{NodeKind}
use Rattle.layout_bytes.specs.Bytes.{field}
use Rattle.layout_bytes.specs.Node.{used_kind, most_runs, runs_in, node_fits, spare_zeros, node_fields, node_with, node_of}
use Rattle.layout_node.proofs.Fields.{none_behind}
use Rattle.layout_node.proofs.Runs.{runs_length}

-- one run more, read behind those read so far
pub one_more : (n : ℕ) (b : List ℕ) (k : ℕ) (rs : List Run) (first count : ℕ) → k < n → first ≡ field b (8 * k) 4 → count ≡ field b (8 * k + 4) 4
    → rs ++ runs_in (n - k) (drop (8 * k) b) ≡ (rs ++ record { first = first; count = count } ∷ []) ++ runs_in (n - (k + 1)) (drop (8 * (k + 1)) b)
one_more n b k rs first count more f c =
    let behind = runs_in (n - (k + 1)) (drop (8 * (k + 1)) b) in
    ap (λ m. rs ++ runs_in m (drop (8 * k) b)) {x = n - k} {y = suc (n - (k + 1))} (omega (arith, more))
    ∙ ap (λ xs. rs ++ record { first = field b (8 * k) 4; count = field (drop (8 * k) b) 4 4 } ∷ runs_in (n - (k + 1)) xs) (drop-drop 8 (8 * k) b ∙ ap (λ i. drop i b) {x = 8 * k + 8} {y = 8 * (k + 1)} (omega arith))
    ∙ ap (λ xs. rs ++ record { first = field b (8 * k) 4; count = little_number 4 xs } ∷ behind) (drop-drop 4 (8 * k) b)
    ∙ ap (λ x. rs ++ record { first = x; count = field b (8 * k + 4) 4 } ∷ behind) (sym f)
    ∙ ap (λ x. rs ++ record { first = first; count = x } ∷ behind) (sym c)
    ∙ sym (append_assoc rs (record { first = first; count = count } ∷ []) behind)

-- the run in eight bytes
pub run_at : (n at : ℕ) (b : List ℕ) (r : Run) → n ≡ 8 → r ≡ record { first = field (take n (drop at b)) 0 4; count = field (take n (drop at b)) 4 4 }
    → r ≡ record { first = field b at 4; count = field b (at + 4) 4 }
run_at n at b r e is =
    is
    ∙ run_is (little_number 4 (drop 0 (take n (drop at b)))) (little_number 4 (drop at b)) (little_number 4 (drop 4 (take n (drop at b)))) (little_number 4 (drop (at + 4) b))
    (little_from-take 0 4 n (drop at b) (omega (arith, e)))
    (ap (λ k. little_number 4 (drop 4 (take k (drop at b)))) {x = n} {y = 4 + 4} (omega (arith, e))
    ∙ ap (λ xs. little_number 4 xs) (drop-take 4 4 (drop at b))
    ∙ little_from-take 0 4 4 (drop 4 (drop at b)) (omega arith)
    ∙ ap (λ xs. little_number 4 xs) (drop-drop 4 at b))
  where
    run_is : (f g c d : ℕ) → f ≡ g → c ≡ d → ◌≡◌ {A = Run} (record { first = f; count = c }) (record { first = g; count = d })
    run_is f g c d e h = cc

pub length_one_more : (rs : List Run) (r : Run) → length (rs ++ r ∷ []) ≡ length rs + 1
length_one_more rs r = length-append rs (r ∷ [])

-- runs read from as many bytes as there are
pub runs_within : (c d : ℕ) (b : List ℕ) → c ≡ d → runs_in c (take (length b - 32) (drop 32 b)) ≡ runs_in d (drop 32 b)
runs_within c d b e =
    ap (λ xs. runs_in c xs) (take_all (length b - 32) (drop 32 b) (omega (arith, length-drop 32 b))) ∙ ap (λ k. runs_in k (drop 32 b)) e

-- a number of runs that is too great is no node's
pub too_many : (g : Geometry) (b : List ℕ) (kind : NodeKind) → used_kind (slice_index b 0) ≡ Some kind → most_runs g.layout < field b 2 2 → node_of g b ≡ None
unfolding node_of
too_many g b kind k many =
    let unfit : nat_le (length (runs_in (field b 2 2) (drop 32 b))) (most_runs g.layout) ≡ false = lt-leb _ _ (omega (arith, many, runs_length (field b 2 2) (drop 32 b))) in
    ap (node_with g b) k
    ∙ none_behind (spare_zeros g.layout b) {t = node_fits g (node_fields kind b)} (Some (node_fields kind b)) (and_right (nat_lt 0 (field b 4 4)) _ (and_left _ _ unfit))
