-- When a node with these places fits a disk.
use Rattle.std.proofs.Common.{◌≡◌, ◌≢◌, ◌⊎◌, inl, inr, ℕ, zero, suc, ◌+◌, ◌-◌, ◌<◌, ◌≤◌, ◌==◌, ◌||◌, not, nat_lt, nat_le, true, List, [], ◌∷◌, length, All, refl, sym, ap, ◌∙◌, arith}
use Rattle.std.proofs.lemmas.Bool.{cases_eq, and_from, le-leb, lt-ltb, eq-eqb, ne_eqb, not_from_false, or_left, or_right}
use Rattle.std.proofs.lemmas.Bool.Decides.{nat_tests}
use Rattle.base_types.specs.declared.places.Run.{Run}
use Rattle.base_types.specs.Runs.{blocks_from, run_places}
use Rattle.layout_extent.specs.Runs.{AreTidy, runs_of, stretches}
use Rattle.layout_geometry.specs.Geometry.{Geometry, data_start}
use Rattle.layout_bytes.specs.declared.node.NodeKind.{NodeKind}
use Rattle.layout_bytes.specs.declared.node.NodeKind.TheVariants.{Free, Dir, File, Snapshot}
use Rattle.layout_bytes.specs.Node.{most_runs, content_blocks, node_fits, runs_fit, run_blocks, kind_fits}
use Rattle.engine_blocks.specs.Running.{has}
use Rattle.engine_blocks.specs.Puts.{IsData}
use Rattle.fs_files.specs.Contents.{no_blocks}
use Rattle.fs_files.proofs.frames.Places.{places_count}
use Rattle.fs_files.proofs.drafts.Lists.{has_append, each_of}

-- a number from the first one on is among so many neighbours
in_blocks : (x c b : ℕ) → x ≤ b → b < x + c → has (blocks_from x c) b ≡ true
in_blocks x zero b low high = absurd (omega (arith, low, high))
in_blocks x (suc c) b low high = by (cases_eq b x) (λ above. in_blocks (x + 1) c b above (omega (arith, high)))
  where
    by : (b ≡ x) ⊎ (b ≡ x → ⊥) → (x + 1 ≤ b → has (blocks_from (x + 1) c) b ≡ true) → ((b == x) || has (blocks_from (x + 1) c) b) ≡ true
    by (inl e) rest = or_left (b == x) (has (blocks_from (x + 1) c) b) (eq-eqb b x e)
    by (inr other) rest = or_right (b == x) (has (blocks_from (x + 1) c) b) (rest (omega (arith, low, other)))

-- the first run doesn't begin there
abbrev BeginsElsewhere : ℕ → List Run → Type 0
BeginsElsewhere end [] = Unit {0}
BeginsElsewhere end (r ∷ rs) = r.first ≢ end

tidy_first : (r : Run) (rs : List Run) → AreTidy (r ∷ rs) → 0 < r.count
tidy_first r rs e = grind (arith, nat_tests)

tidy_next : (r : Run) (rs : List Run) → AreTidy (r ∷ rs) → BeginsElsewhere (r.first + r.count) rs
tidy_next r rs e = grind (arith, nat_tests)

tidy_rest : (r : Run) (rs : List Run) → AreTidy (r ∷ rs) → AreTidy rs
tidy_rest r rs e = grind (arith, nat_tests)

-- tidy runs of data blocks fit
runs_fit_from : (g : Geometry) (end : ℕ) (rs : List Run) → BeginsElsewhere end rs → AreTidy rs → ((b : ℕ) → has (run_places rs) b ≡ true → IsData g b) → runs_fit g end rs ≡ true
runs_fit_from g end [] first tidy inside = refl
runs_fit_from g end (r ∷ rs) first tidy inside =
    let some = tidy_first r rs tidy in
    let in_first = λ (b : ℕ) (is : has (blocks_from r.first r.count) b ≡ true). inside b (has_append (blocks_from r.first r.count) (run_places rs) b ∙ or_left (has (blocks_from r.first r.count) b) (has (run_places rs) b) is) in
    let low = (in_first r.first (in_blocks r.first r.count r.first (omega arith) (omega (arith, some)))).from in
    let high = (in_first (r.first + r.count - 1) (in_blocks r.first r.count (r.first + r.count - 1) (omega (arith, some)) (omega (arith, some)))).below in
    let rest = runs_fit_from g (r.first + r.count) rs (tidy_next r rs tidy) (tidy_rest r rs tidy)
    (λ b is. inside b (has_append (blocks_from r.first r.count) (run_places rs) b ∙ or_right (has (blocks_from r.first r.count) b) (has (run_places rs) b) is)) in
    and_from (nat_lt 0 r.count) _ (lt-ltb 0 r.count some)
    (and_from (nat_le (data_start g) r.first) _ (le-leb (data_start g) r.first low)
    (and_from (nat_le (r.first + r.count) g.n) _ (le-leb (r.first + r.count) g.n (omega (arith, high, some)))
    (and_from (not (r.first == end)) (runs_fit g (r.first + r.count) rs) (not_from_false (r.first == end) (ne_eqb r.first end first)) rest)))

begins_above : (g : Geometry) (rs : List Run) → AreTidy rs → ((b : ℕ) → has (run_places rs) b ≡ true → IsData g b) → BeginsElsewhere 0 rs
begins_above g [] tidy inside = tt
begins_above g (r ∷ rs) tidy inside =
    let some = tidy_first r rs tidy in
    let is = inside r.first (has_append (blocks_from r.first r.count) (run_places rs) r.first ∙ or_left (has (blocks_from r.first r.count) r.first) (has (run_places rs) r.first) (in_blocks r.first r.count r.first (omega arith) (omega (arith, some)))) in
    λ e. absurd (omega (arith, e, is.from))

-- a node in use with as many data blocks as its content needs, in no more stretches than its layout has room for, fits; the first three are laws of runs
pub fits_with : (g : Geometry) (kind : NodeKind) (links size : ℕ) (places : List ℕ)
    → run_places (runs_of places) ≡ places → length (runs_of places) ≡ stretches places → AreTidy (runs_of places)
    → 0 < links → stretches places ≤ most_runs g.layout → All (IsData g) places → length places ≡ content_blocks g.layout kind size
    → kind_fits (record { kind = kind; links = links; size = size; runs = runs_of places }) kind ≡ true
    → node_fits g (record { kind = kind; links = links; size = size; runs = runs_of places }) ≡ true
fits_with g kind links size places back count tidy linked few inside long by_kind =
    let each : (b : ℕ) → has (run_places (runs_of places)) b ≡ true → IsData g b = λ b is. each_of (IsData g) places inside b (ap (λ xs. has xs b) (sym back) ∙ is) in
    let blocks : run_blocks (runs_of places) ≡ content_blocks g.layout kind size = sym (places_count (runs_of places)) ∙ ap length back ∙ long in
    and_from (nat_lt 0 links) _ (lt-ltb 0 links linked)
    (and_from (nat_le (length (runs_of places)) (most_runs g.layout)) _ (le-leb (length (runs_of places)) (most_runs g.layout) (omega (arith, count, few)))
    (and_from (runs_fit g 0 (runs_of places)) _ (runs_fit_from g 0 (runs_of places) (begins_above g (runs_of places) tidy each) tidy each)
    (and_from (run_blocks (runs_of places) == content_blocks g.layout kind size) _ (eq-eqb (run_blocks (runs_of places)) (content_blocks g.layout kind size) blocks) by_kind)))

new_kind : (kind : NodeKind) → kind_fits (record { kind = kind; links = 1; size = 0; runs = [] }) kind ≡ true
new_kind Free = refl
new_kind Dir = refl
new_kind File = refl
new_kind Snapshot = refl

-- a new node in use, with one link and no bytes, fits
pub new_fits : (g : Geometry) (kind : NodeKind) → node_fits g (record { kind = kind; links = 1; size = 0; runs = [] }) ≡ true
new_fits g kind =
    and_from (nat_lt 0 1) _ (lt-ltb 0 1 (omega arith))
    (and_from (nat_le 0 (most_runs g.layout)) _ (le-leb 0 (most_runs g.layout) (omega arith))
    (and_from (0 == content_blocks g.layout kind 0) (kind_fits (record { kind = kind; links = 1; size = 0; runs = [] }) kind) (eq-eqb 0 (content_blocks g.layout kind 0) (sym (no_blocks g.layout kind))) (new_kind kind)))
