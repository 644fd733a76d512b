-- Which tree each point has stays known from call to call, and a crash leaves one of these trees.
use Rattle.std.proofs.Common.{◌≡◌, ◌⊎◌, inl, inr, ⊎_elim, ℕ, ◌+◌, ◌≤◌, ◌==◌, nat_lt, Bool, true, false, IsTrue, if◌then◌else◌, length, Result, Ok, Err, sym, ap, subst, arith}
use Rattle.std.proofs.Math.Logic.{∥∥₁_map}
use Rattle.std.proofs.lemmas.Bool.{cases_Bool, cases_eq, eq-eqb, ne_eqb, ltb-false, ltb-true}
use Rattle.base_types.specs.Seal.{Blocks}
use Rattle.layout_geometry.specs.Geometry.{Geometry, IsGeometry}
use Rattle.lang_tree.specs.Tree.{Tree}
use Rattle.engine_blocks.specs.declared.refusals.SyncRefusal.{SyncRefusal}
use Rattle.engine_blocks.specs.declared.refusals.SyncRefusal.TheVariants as sync
use Rattle.engine_blocks.specs.State.{Bookkeeping, State}
use Rattle.engine_blocks.specs.Calls.{IsAfterSync, OnNoMemory, UnlessNoMemory}
use Rattle.engine_blocks.specs.Crashes.{HoldsPointBetween, HasLiveBlocks, HasMapOfPoint, Advances, MakesPoint, IsTold}
use Rattle.engine_blocks.specs.Effects.{Syncs, ChangesNothing}
use Rattle.crash_stands.specs.Stands.{IsTreeOf}
use Rattle.fs_session.specs.Points.{KnowsPoints, LeavesTree, with_tree, trees_after}
use Rattle.fs_session.specs.Staying.{tree_stays}

-- What a crash leaves.

-- an image that holds the map of a point holds one of its tree
holds_tree : (s : State) (trees : ℕ → Tree) (floor : ℕ) (img : Blocks) → KnowsPoints s trees → HoldsPointBetween s floor s.books.point img → LeavesTree s trees floor s.books.point img
holds_tree s trees floor img known h = record { point = h.point; from = h.from; upto = h.upto; map = h.map; holds = h.holds; tree = known.each h.point h.map h.upto h.is }

pub leaves_now : (s : State) (trees : ℕ → Tree) (img : Blocks) → IsTold s → KnowsPoints s trees → s.crash.left_since (length s.crash.log) img → ∥ LeavesTree s trees s.books.floor s.books.point img ∥₁
leaves_now s trees img told known left = ∥∥₁_map (told.now img left) (holds_tree s trees s.books.floor img known)

pub leaves_in_call : (old new : State) (trees : ℕ → Tree) (img : Blocks) → Advances old new → KnowsPoints new trees → new.crash.left_since (length old.crash.log) img → ∥ LeavesTree new trees old.books.floor new.books.point img ∥₁
leaves_in_call old new trees img on known left = ∥∥₁_map (on.window img left) (holds_tree new trees old.books.floor img known)

pub leaves_earlier : (old new : State) (trees : ℕ → Tree) (t : ℕ) (img : Blocks) → Advances old new → KnowsPoints new trees → t ≤ length old.crash.log → new.crash.left_since t img
    → old.crash.left_since t img ⊎ ∥ LeavesTree new trees old.books.floor new.books.point img ∥₁
leaves_earlier old new trees t img on known before left =
    ⊎_elim inl (λ late. inr (∥∥₁_map late (holds_tree new trees old.books.floor img known))) (on.earlier t img before left)

-- What stays known.

-- what the law says of blocks that have the live blocks of others
abbrev pub StandsByLiveBlocks : Type 0
StandsByLiveBlocks = (g : Geometry) (map m : Blocks) (t : Tree) → IsGeometry g → HasLiveBlocks g map m → IsTreeOf g map t → IsTreeOf g m t

-- a point whose map the blocks have is of the tree for which they stand
point_tree : StandsByLiveBlocks → (s : State) (p : ℕ) (t : Tree) → IsGeometry s.books.geom → HasMapOfPoint s p → IsTreeOf s.books.geom s.map t → (m : Blocks) → s.crash.is_point p m → IsTreeOf s.books.geom m t
point_tree alive s p t fits has tree m is = alive s.books.geom s.map m t fits (has m is) tree

pub known_at_first : StandsByLiveBlocks → (s : State) (trees : ℕ → Tree) → IsGeometry s.books.geom → s.books.point ≡ 0 → HasMapOfPoint s 0 → IsTreeOf s.books.geom s.map (trees 0) → KnowsPoints s trees
known_at_first alive s trees fits first has tree = record {
  each = λ p m upto is.
      let same : 0 ≡ p = omega (arith, first, upto) in
      subst (λ q. s.crash.is_point q m → IsTreeOf s.books.geom m (trees q)) same (point_tree alive s 0 (trees 0) fits has tree m) is;
}

-- the points up to the last one before the call are as before
known_before : (old new : State) (trees : ℕ → Tree) → Advances old new → new.books.geom ≡ old.books.geom → KnowsPoints old trees → (p : ℕ) (m : Blocks) → p ≤ old.books.point → new.crash.is_point p m → IsTreeOf new.books.geom m (trees p)
known_before old new trees on geom known p m upto is = subst (λ (g : Geometry). IsTreeOf g m (trees p)) (sym geom) (known.each p m upto ((on.point p m upto).0 is))

pub known_still : (old new : State) (trees : ℕ → Tree) → Advances old new → new.books.geom ≡ old.books.geom → new.books.point ≡ old.books.point → KnowsPoints old trees → KnowsPoints new trees
known_still old new trees on geom last known = record { each = λ p m upto is. known_before old new trees on geom known p m (omega (arith, upto, last)) is }

-- the trees with one more

with_here : (trees : ℕ → Tree) (p q : ℕ) (t : Tree) → q ≡ p → with_tree trees p t q ≡ t
with_here trees p q t same = ap (λ x. if x then t else trees q) (eq-eqb q p same)

with_other : (trees : ℕ → Tree) (p q : ℕ) (t : Tree) → ¬ (q ≡ p) → with_tree trees p t q ≡ trees q
with_other trees p q t other = ap (λ x. if x then t else trees q) (ne_eqb q p other)

pub known_anew : StandsByLiveBlocks → (old new : State) (trees : ℕ → Tree) (t : Tree) → IsGeometry new.books.geom → Advances old new → MakesPoint old new → new.books.geom ≡ old.books.geom → new.books.point ≡ old.books.point + 1
    → IsTreeOf new.books.geom new.map t → KnowsPoints old trees → KnowsPoints new (with_tree trees new.books.point t)
known_anew alive old new trees t fits on made geom more tree known = record { each = λ p m upto is. by p m upto is (cases_eq p new.books.point) }
  where
    by : (p : ℕ) (m : Blocks) → p ≤ new.books.point → new.crash.is_point p m → (p ≡ new.books.point) ⊎ ¬ (p ≡ new.books.point) → IsTreeOf new.books.geom m (with_tree trees new.books.point t p)
    by p m upto is (inl last) =
        subst (λ (u : Tree). IsTreeOf new.books.geom m u) (sym (with_here trees new.books.point p t last))
        (point_tree alive new new.books.point t fits (made (omega (arith, more))) tree m (subst (λ q. new.crash.is_point q m) last is))
    by p m upto is (inr other) =
        subst (λ (u : Tree). IsTreeOf new.books.geom m u) (sym (with_other trees new.books.point p t other))
        (known_before old new trees on geom known p m (omega (arith, upto, more, other)) is)

pub known_after : StandsByLiveBlocks → (old new : State) (trees : ℕ → Tree) (t : Tree) → IsGeometry new.books.geom → Advances old new → MakesPoint old new → new.books.geom ≡ old.books.geom → new.books.point ≤ old.books.point + 1
    → IsTreeOf new.books.geom new.map t → KnowsPoints old trees → KnowsPoints new (trees_after old new trees t)
known_after alive old new trees t fits on made geom most tree known = by (cases_Bool (nat_lt old.books.point new.books.point))
  where
    same : (b : Bool) → nat_lt old.books.point new.books.point ≡ b → trees_after old new trees t ≡ (if b then with_tree trees new.books.point t else trees)
    same b e = ap (λ x. if x then with_tree trees new.books.point t else trees) e

    by : (nat_lt old.books.point new.books.point ≡ true) ⊎ (nat_lt old.books.point new.books.point ≡ false) → KnowsPoints new (trees_after old new trees t)
    by (inl one) = subst (KnowsPoints new) (sym (same true one)) (known_anew alive old new trees t fits on made geom (omega (arith, most, ltb-true old.books.point new.books.point one)) tree known)
    by (inr none) = subst (KnowsPoints new) (sym (same false none)) (known_still old new trees on geom (omega (arith, on.last, ltb-false old.books.point new.books.point none)) known)

-- a sync makes one point at most
one_at_most : (b : Bool) → (if b then 0 else 1) ≤ 1
one_at_most true = omega arith
one_at_most false = omega arith

after_sync : (old new : Bookkeeping) → IsAfterSync old new → (new.geom ≡ old.geom) × (new.point ≤ old.point + 1)
after_sync old new h = (h.geom, omega (arith, h.point, one_at_most (old.running.weight == 0)))

sync_point : (tells : Bool) (result : Result ℕ SyncRefusal) (old new : State) → UnlessNoMemory result (IsAfterSync old.books new.books) → OnNoMemory result (ChangesNothing tells old new)
    → (new.books.geom ≡ old.books.geom) × (new.books.point ≤ old.books.point + 1)
sync_point tells (Ok p) old new after none = after_sync old.books new.books after
sync_point tells (Err sync.DiskFault) old new after none = after_sync old.books new.books after
sync_point tells (Err sync.NoMemory) old new after none = (ap (λ (k : Bookkeeping). k.geom) none.books, omega (arith, ap (λ (k : Bookkeeping). k.point) none.books))

pub known_synced : StandsByLiveBlocks → (tells : Bool) (result : Result ℕ SyncRefusal) (old new : State) (trees : ℕ → Tree) (t : Tree) → IsGeometry new.books.geom → IsTrue tells → Syncs tells result old new
    → IsTreeOf old.books.geom old.map t → KnowsPoints old trees → KnowsPoints new (trees_after old new trees t)
known_synced alive tells result old new trees t fits known syncs tree points =
    let facts = sync_point tells result old new syncs.after syncs.none in
    known_after alive old new trees t fits (syncs.crash known) (syncs.made known) facts.0 facts.1
    (tree_stays old new t facts.0 (syncs.map known) tree) points
