-- A point has one moment and one map, and the newest is the ledger's.
use Rattle.std.proofs.Common.{◌≡◌, ⊎_elim, ℕ, ◌+◌, ◌-◌, ◌/◌, ◌%◌, ◌<◌, ◌≤◌, ◌&&◌, ◌||◌, nat_le, nat_lt, slice_index, ◌==◌, if◌then◌else◌, IsTrue, true, List, [], length, take, drop, take_all, refl, sym, ap, ap₂, ◌∙◌, subst, arith}
use Rattle.std.proofs.Props.{props}
use Rattle.std.proofs.Math.Logic.{∥∥₁_elim}
use Rattle.std.proofs.lemmas.Bool.{cases_lt, and_parts, ltb-true, le-leb, lt-ltb}
use Rattle.std.proofs.lemmas.List.{take-append-drop, take-take, length-take-le}
use Rattle.std.specs.Int.{bit_at}
use Rattle.base_types.specs.Seal.{Blocks}
use Rattle.disk_contract.specs.declared.event.Event.{Event}
use Rattle.layout_geometry.specs.Geometry.{Geometry, bitmap_start, data_start}
use Rattle.layout_bytes.specs.Bitmap.{is_set}
use Rattle.layout_journal.specs.Run.{HeldIs, is_live, live_part}
use Rattle.crash_argument.specs.Ledger.{Ledger, issued, next_number}
use Rattle.crash_argument.specs.Points.{MountedSession, IsMoment, IsPoint, IsSafe, points_in}
use Rattle.engine_blocks.specs.State.{Bookkeeping, Counts}
use Rattle.engine_blocks.specs.Crashes.{HasLiveBlocks, HasMapOfPoint}
use Rattle.engine_store.specs.declared.parts.StoreParts.{StoreParts}
use Rattle.engine_store.specs.SessionView.{state_of}
use Rattle.engine_store.specs.Told.{awaited_in}
use Rattle.engine_store.proofs.Windows.{LastIs, OneMap, points_are, points_more}

-- points never get fewer from one moment to a later one
points_grow : (s : MountedSession) (log : List Event) (i k : ℕ) → s.mounted ≤ i → i ≤ k → k ≤ length log → points_in s (take i log) ≤ points_in s (take k log)
points_grow s log i k late le within =
    let len : length (take i (take k log)) ≡ i = length-take-le i (take k log) (omega (arith, length-take-le k log within)) in
    omega (arith, points_more s (take i (take k log)) (drop i (take k log)) (omega (arith, len, late)), ap (points_in s) (take-append-drop i (take k log)), ap (points_in s) (take-take i k log le))

-- a moment of a point isn't before another of it
not_before : (s : MountedSession) (log : List Event) (p i k : ℕ) → IsMoment s log p i → IsMoment s log p k → i < k → ⊥
not_before s log p i k first second lt = ⊎_elim
    (λ at. ⊎_elim (λ same. omega (arith, at.1, same.1)) (λ since. omega (arith, at.1, since.0)) first.just)
    (λ at. omega (arith, at.1, first.count, points_grow s log i (k - 1) late (omega arith) (omega (arith, second.within))))
    second.just
  where
    late : s.mounted ≤ i
    late = ⊎_elim (λ same. omega (arith, same.1)) (λ since. omega (arith, since.0)) first.just

-- so it has one moment
one_moment : (s : MountedSession) (log : List Event) (p i k : ℕ) → IsMoment s log p i → IsMoment s log p k → i ≡ k
one_moment s log p i k first second = ⊎_elim (λ lt. absurd (not_before s log p i k first second lt))
    (λ ge. ⊎_elim (λ gt. absurd (not_before s log p k i second first gt)) (λ le. omega (arith, ge, le)) (cases_lt k i)) (cases_lt i k)

-- and one map
pub one_point : OneMap → (s : MountedSession) (base : Blocks) (log : List Event) (p : ℕ) (m q : Blocks) → IsPoint s base log p m → IsPoint s base log p q → (b : ℕ) → m b ≡ q b
one_point one_map s base log p m q first second = one_map s.geom.n (issued base (take first.moment log)) m q first.held.held
    (subst (λ (k : ℕ). HeldIs s.geom.n (issued base (take k log)) q) (one_moment s log p second.moment first.moment second.at first.at) second.held.held)

-- the block that has the bit of a block lies before the data
in_bitmap : (g : Geometry) (b : ℕ) → b < g.n → bitmap_start g + b / 8192 < data_start g
in_bitmap g b below = omega (arith, below)

-- what lies between the journal and the data is live
pub low_live : (g : Geometry) (map : Blocks) (b : ℕ) → data_start g ≤ g.n → bitmap_start g ≤ b → b < data_start g → IsTrue (is_live g map b)
low_live g map b shape from below =
    ap₂ (λ x y. x && (y && (nat_lt b (data_start g) || is_set g map b))) (le-leb (bitmap_start g) b from) (lt-ltb b g.n (omega (arith, below, shape)))
    ∙ ap (λ x. x || is_set g map b) (lt-ltb b (data_start g) below)

-- live blocks lie within the disk
pub live_below : (g : Geometry) (map : Blocks) (b : ℕ) → IsTrue (is_live g map b) → b < g.n
live_below g map b live = ltb-true _ _ (and_parts _ _ (and_parts _ _ live).1).0

-- a block that is live by one map is live by one that has its live blocks
stays_live : (g : Geometry) (map m : Blocks) (b : ℕ) → data_start g ≤ g.n → HasLiveBlocks g map m → IsTrue (is_live g map b) → is_live g m b ≡ true
stays_live g map m b shape has live = ap (λ t. nat_le (bitmap_start g) b && (nat_lt b g.n && (nat_lt b (data_start g) || t))) same_bit ∙ live
  where
    same_bit : is_set g m b ≡ is_set g map b
    same_bit = ap (λ (x : List ℕ). bit_at (slice_index x (b % 8192 / 8)) (b % 8) == 1) (has (bitmap_start g + b / 8192) (low_live g map (bitmap_start g + b / 8192) shape (omega arith) (in_bitmap g b (live_below g map b live))))

-- no point comes behind the last commit block
upto_last : (s : MountedSession) (base : Blocks) (log : List Event) (p : ℕ) (m : Blocks) → IsPoint s base log p m → p ≤ points_in s log
upto_last s base log p m is = omega (arith, is.at.count, points_grow s log is.moment (length log) late is.at.within (omega arith), ap (points_in s) (take_all (length log) log (omega arith)))
  where
    late : s.mounted ≤ is.moment
    late = ⊎_elim (λ first. omega (arith, first.1)) (λ behind. omega (arith, behind.0)) is.at.just

-- the map of the newest point has the live blocks of each map whose live blocks the ledger's has
pub made_of : LastIs → OneMap → (s : MountedSession) (base : Blocks) (log : List Event) (l : Ledger) (k : Bookkeeping) (c : Counts) (m : Blocks) (w : StoreParts) (t floor : ℕ) → IsSafe s base log l t floor → k.geom ≡ s.geom → next_number l - s.first ≤ k.point
    → (k.point ≡ next_number l - s.first → HasLiveBlocks k.geom m (l.map_before (next_number l))) → HasMapOfPoint (state_of s k c m base log (awaited_in w)) k.point
made_of last_is one_map s base log l k c m w t floor safe geom least has q point b live = ∥∥₁_elim point (search props) (λ (is : IsPoint s base log k.point q).
    let last : k.point ≡ next_number l - s.first = omega (arith, least, upto_last s base log k.point q is, points_are s base log l t floor (next_number l - s.first) safe refl) in
    one_point one_map s base log k.point q newest is (subst (λ (p : ℕ). IsPoint s base log p newest) (points_are s base log l t floor k.point safe last) (last_is s base log l t floor safe)) b
    ∙ ap (λ t. if t then l.map_before (next_number l) b else []) (subst (λ (g : Geometry). is_live g (l.map_before (next_number l)) b ≡ true) same (stays_live k.geom m (l.map_before (next_number l)) b (subst (λ (g : Geometry). data_start g ≤ g.n) (sym same) safe.keeps.shape) (has last) live))
    ∙ has last b live)
  where
    newest : Blocks
    newest = live_part l.geom (l.map_before (next_number l))

    same : k.geom ≡ l.geom
    same = geom ∙ safe.points.geom
