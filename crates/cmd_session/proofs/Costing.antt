-- What a command needs and costs at most, whatever blocks of files snapshots keep.
use Rattle.std.proofs.Common.{◌≡◌, ◌⊎◌, inl, inr, ⊎_elim, ℕ, ◌+◌, ◌-◌, ◌≤◌, ◌==◌, ◌&&◌, min, max, not, nat_lt, if◌then◌else◌, Bool, true, false, List, [], ◌∷◌, length, Option, Some, None, ap, arith}
use Rattle.std.proofs.lemmas.Bool.{cases_Bool, cond-false, eqb-true, true≢false}
use Rattle.std.specs.List.{filter, range_with_len}
use Rattle.std.specs.FinMap.{empty_of_len, get, len}
use Rattle.std.proofs.lemmas.List.FromFn.{length-range_with_len}
use Rattle.layout_geometry.specs.Geometry.{Geometry, bitmap_blocks}
use Rattle.lang_tree.specs.declared.command.Cmd.{Cmd}
use Rattle.lang_tree.specs.declared.command.Cmd.TheVariants as cmds
use Rattle.lang_tree.specs.declared.command.Refusal.{Refusal}
use Rattle.lang_tree.specs.Conditions.{refusal}
use Rattle.lang_tree.specs.Figures.{Figures, accepted_figures, are_in_one, blocks_for, blocks_gone, blocks_met, figures_by, growth, moving, nothing, release, shrinking, siblings, touches, writing}
use Rattle.lang_tree.specs.Sharing.{BlocksAlone, SharedNodes, SharedPlaces, accepted_over, alone_from, alone_gone, cutting, figures_over_by, shared_at, shared_met, writing_over}
use Rattle.lang_tree.specs.Step.{Session}
use Rattle.lang_tree.specs.Tree.{Bounds, Tree}
use Rattle.lang_tree.specs.Walk.{content, is_same_node, is_there, links}
use Rattle.fs_session.specs.NothingKept.{CostsAsAlone, alone_costs}
use Rattle.fs_session.specs.Room.{Room, alone_by, figures_in, shared_by}
use Rattle.cmd_session.specs.Budget.{blocks_touched, freeing_beyond, most_cost, most_need}

-- What a command needs is within its cost.

little_if : (b : Bool) (f n : Figures) → f.need ≤ f.cost → n.need ≤ n.cost → (if b then f else n).need ≤ (if b then f else n).cost
little_if true f n one other = one
little_if false f n one other = other

writes_little : (bitmap : ℕ) (shared : SharedPlaces) (size lo hi : ℕ) → (writing_over bitmap shared size lo hi).need ≤ (writing_over bitmap shared size lo hi).cost
writes_little bitmap shared size lo hi = omega arith

accepted_little : (bitmap : ℕ) (shared : SharedNodes) (alone : BlocksAlone) (limit : Bounds) (t : Tree) (cmd : Cmd) → (accepted_over bitmap shared alone limit t cmd).need ≤ (accepted_over bitmap shared alone limit t cmd).cost
accepted_little bitmap shared alone limit t (cmds.Mkdir path) = omega arith
accepted_little bitmap shared alone limit t (cmds.Create path) = omega arith
accepted_little bitmap shared alone limit t (cmds.Link path other) = omega arith
accepted_little bitmap shared alone limit t (cmds.Unlink path) = omega arith
accepted_little bitmap shared alone limit t (cmds.Rmdir path) = omega arith
accepted_little bitmap shared alone limit t (cmds.Rename from to) =
    little_if (is_same_node t from to) nothing _ (omega arith)
    (little_if (is_there t to) (moving bitmap 0 (release limit.layout (siblings t.names from) + alone_gone shared t to)) _ (omega arith)
    (little_if (are_in_one from to) (moving bitmap 0 0) (moving bitmap (growth limit.layout (siblings t.names to)) (release limit.layout (siblings t.names from))) (omega arith) (omega arith)))
accepted_little bitmap shared alone limit t (cmds.Write path offset bytes) =
    little_if (length bytes == 0) nothing (writing_over bitmap (shared_at shared (get t.names path)) (length (content t path)) (min offset (length (content t path))) (offset + length bytes)) (omega arith)
    (writes_little bitmap (shared_at shared (get t.names path)) (length (content t path)) (min offset (length (content t path))) (offset + length bytes))
accepted_little bitmap shared alone limit t (cmds.Fill path offset count byte) =
    little_if (count == 0) nothing (writing_over bitmap (shared_at shared (get t.names path)) (length (content t path)) (min offset (length (content t path))) (offset + count)) (omega arith)
    (writes_little bitmap (shared_at shared (get t.names path)) (length (content t path)) (min offset (length (content t path))) (offset + count))
accepted_little bitmap shared alone limit t (cmds.Truncate path size) =
    let old = length (content t path) in
    little_if (nat_lt old size) (writing_over bitmap (shared_at shared (get t.names path)) old old size) _ (writes_little bitmap (shared_at shared (get t.names path)) old old size)
    (little_if (nat_lt size old) (cutting bitmap (shared_at shared (get t.names path)) (blocks_for old) (blocks_for size)) nothing (omega arith) (omega arith))
accepted_little bitmap shared alone limit t (cmds.Snap name) = omega arith
accepted_little bitmap shared alone limit t (cmds.Unsnap name) = omega arith
accepted_little bitmap shared alone limit t cmd = omega arith

pub needs_little : (bitmap : ℕ) (shared : SharedNodes) (alone : BlocksAlone) (limit : Bounds) (t : Tree) (cmd : Cmd) (o : Option Refusal)
    → (figures_over_by bitmap shared alone limit t cmd o).need ≤ (figures_over_by bitmap shared alone limit t cmd o).cost
needs_little bitmap shared alone limit t cmd (Some why) = omega arith
needs_little bitmap shared alone limit t cmd None = accepted_little bitmap shared alone limit t cmd

-- Lists of places.

-- what passes two tests passes the first
fewer : (p q : ℕ → Bool) (is : List ℕ) → length (filter (λ i. p i && q i) is) ≤ length (filter p is)
fewer p q [] = omega arith
fewer p q (i ∷ is) = by (p i) (q i) (fewer p q is)
  where
    by : (a b : Bool) → length (filter (λ i. p i && q i) is) ≤ length (filter p is)
        → length (if a && b then i ∷ filter (λ i. p i && q i) is else filter (λ i. p i && q i) is) ≤ length (if a then i ∷ filter p is else filter p is)
    by true true h = omega (arith, h)
    by true false h = omega (arith, h)
    by false b h = h

-- and is in the list
few : (p : ℕ → Bool) (is : List ℕ) → length (filter p is) ≤ length is
few p [] = omega arith
few p (i ∷ is) = by (p i) (few p is)
  where
    by : (a : Bool) → length (filter p is) ≤ length is → length (if a then i ∷ filter p is else filter p is) ≤ length (i ∷ is)
    by true h = omega (arith, h)
    by false h = omega (arith, h)

shared_few : (shared : SharedPlaces) (size lo hi : ℕ) → shared_met shared size lo hi ≤ blocks_met size lo hi
shared_few shared size lo hi = fewer (touches lo hi) shared (range_with_len 0 (blocks_for size))

alone_few : (shared : SharedPlaces) (from count : ℕ) → alone_from shared from count ≤ count
alone_few shared from count = omega (arith, few (λ i. not (shared i)) (range_with_len from count), length-range_with_len from count)

-- With sharing a command needs and costs at most so much more than without.

pub record IsWithin (more extra : ℕ) (f n : Figures) : Type 0 where
  pub need : f.need ≤ n.need + more
  pub cost : f.cost ≤ n.cost + extra

within_if : (more extra : ℕ) (b : Bool) (f n h k : Figures) → IsWithin more extra f n → IsWithin more extra h k → IsWithin more extra (if b then f else h) (if b then n else k)
within_if more extra true f n h k one other = one
within_if more extra false f n h k one other = other

itself : (more extra : ℕ) (f : Figures) → IsWithin more extra f f
itself more extra f = record { need = omega arith; cost = omega arith }

min_more : (s g b : ℕ) → min (s + g) b ≤ s + min g b
min_more s g b = omega arith

min_up : (a c b : ℕ) → a ≤ c → min a b ≤ min c b
min_up a c b le = omega (arith, le)

writes_within : (bitmap : ℕ) (shared : SharedPlaces) (size lo hi : ℕ) → IsWithin (blocks_met size lo hi) (blocks_met size lo hi + 0) (writing_over bitmap shared size lo hi) (writing bitmap size lo hi)
writes_within bitmap shared size lo hi =
    let grown = blocks_for (max size hi) - blocks_for size in
    let some = shared_few shared size lo hi in
    record {
      need = omega (arith, some);
      cost = omega (arith, some, min_more (shared_met shared size lo hi) grown bitmap);
    }

gone_few : (shared : SharedNodes) (t : Tree) (path : List (List ℕ)) → alone_gone shared t path ≤ blocks_gone t path
gone_few shared t path = by (links t path == 1)
  where
    by : (b : Bool) → (if b then alone_from (shared_at shared (get t.names path)) 0 (blocks_for (length (content t path))) else 0) ≤ (if b then blocks_for (length (content t path)) else 0)
    by true = alone_few (shared_at shared (get t.names path)) 0 (blocks_for (length (content t path)))
    by false = omega arith

accepted_within : (bitmap : ℕ) (shared : SharedNodes) (alone : BlocksAlone) (limit : Bounds) (t : Tree) (cmd : Cmd)
    → IsWithin (blocks_touched t cmd) (blocks_touched t cmd + freeing_beyond bitmap cmd) (accepted_over bitmap shared alone limit t cmd) (accepted_figures bitmap limit t cmd)
accepted_within bitmap shared alone limit t (cmds.Unlink path) = record {
  need = omega arith;
  cost = omega (arith, min_up (release limit.layout (siblings t.names path) + alone_gone shared t path) (release limit.layout (siblings t.names path) + blocks_gone t path) bitmap (omega (arith, gone_few shared t path)));
}
accepted_within bitmap shared alone limit t (cmds.Rename from to) =
    within_if 0 0 (is_same_node t from to) nothing nothing _ _ (itself 0 0 nothing)
    (within_if 0 0 (is_there t to) (moving bitmap 0 (release limit.layout (siblings t.names from) + alone_gone shared t to)) (moving bitmap 0 (release limit.layout (siblings t.names from) + blocks_gone t to)) _ _
    (record {
      need = omega arith;
      cost = omega (arith, min_up (release limit.layout (siblings t.names from) + alone_gone shared t to) (release limit.layout (siblings t.names from) + blocks_gone t to) bitmap (omega (arith, gone_few shared t to)));
    })
    (itself 0 0 (if are_in_one from to then moving bitmap 0 0 else moving bitmap (growth limit.layout (siblings t.names to)) (release limit.layout (siblings t.names from)))))
accepted_within bitmap shared alone limit t (cmds.Write path offset bytes) =
    let met = blocks_touched t (cmds.Write path offset bytes) in
    within_if met (met + 0) (length bytes == 0) nothing nothing _ _ (itself met (met + 0) nothing)
    (writes_within bitmap (shared_at shared (get t.names path)) (length (content t path)) (min offset (length (content t path))) (offset + length bytes))
accepted_within bitmap shared alone limit t (cmds.Fill path offset count byte) =
    let met = blocks_touched t (cmds.Fill path offset count byte) in
    within_if met (met + 0) (count == 0) nothing nothing _ _ (itself met (met + 0) nothing)
    (writes_within bitmap (shared_at shared (get t.names path)) (length (content t path)) (min offset (length (content t path))) (offset + count))
accepted_within bitmap shared alone limit t (cmds.Truncate path size) =
    let old = length (content t path) in
    let met = blocks_touched t (cmds.Truncate path size) in
    within_if met (met + 0) (nat_lt old size) _ _ _ _ (writes_within bitmap (shared_at shared (get t.names path)) old old size)
    (within_if met (met + 0) (nat_lt size old) (cutting bitmap (shared_at shared (get t.names path)) (blocks_for old) (blocks_for size)) (shrinking bitmap (blocks_for old - blocks_for size)) nothing nothing
    (record {
      need = omega arith;
      cost = omega (arith, min_up (alone_from (shared_at shared (get t.names path)) (blocks_for size) (blocks_for old - blocks_for size)) (blocks_for old - blocks_for size) bitmap (alone_few (shared_at shared (get t.names path)) (blocks_for size) (blocks_for old - blocks_for size)));
    })
    (itself met (met + 0) nothing))
accepted_within bitmap shared alone limit t (cmds.Unsnap name) = record { need = omega arith; cost = omega arith }
accepted_within bitmap shared alone limit t cmd = itself 0 0 (accepted_figures bitmap limit t cmd)

figures_within : (bitmap : ℕ) (shared : SharedNodes) (alone : BlocksAlone) (limit : Bounds) (t : Tree) (cmd : Cmd) (o : Option Refusal)
    → IsWithin (blocks_touched t cmd) (blocks_touched t cmd + freeing_beyond bitmap cmd) (figures_over_by bitmap shared alone limit t cmd o) (figures_by bitmap limit t cmd o)
figures_within bitmap shared alone limit t cmd (Some why) = itself (blocks_touched t cmd) (blocks_touched t cmd + freeing_beyond bitmap cmd) nothing
figures_within bitmap shared alone limit t cmd None = accepted_within bitmap shared alone limit t cmd

-- In the room of a session.
module _ (unshared : CostsAsAlone) (g : Geometry) (f : Session) (r : Room) (cmd : Cmd) where
  abbrev beyond : ℕ
  beyond = blocks_touched f.tree cmd + freeing_beyond (bitmap_blocks g) cmd

  pub within_most : ((figures_in g f r cmd).need ≤ most_need (bitmap_blocks g) f cmd) × ((figures_in g f r cmd).cost ≤ most_cost (bitmap_blocks g) f cmd)
  within_most = by (cases_Bool (len f.tree.snapshots == 0))
    where
      by : ((len f.tree.snapshots == 0) ≡ true) ⊎ ((len f.tree.snapshots == 0) ≡ false) → ((figures_in g f r cmd).need ≤ most_need (bitmap_blocks g) f cmd) × ((figures_in g f r cmd).cost ≤ most_cost (bitmap_blocks g) f cmd)
      by (inl none) =
          let same = alone_costs g f r (empty_of_len f.tree.snapshots (eqb-true (len f.tree.snapshots) 0 none)) unshared cmd in (
            omega (arith, ap (λ (n : Figures). n.need) same),
            omega (arith, ap (λ (n : Figures). n.cost) same),
          )
      by (inr some) =
          let is = figures_within (bitmap_blocks g) (shared_by g f.tree r) (alone_by g f.tree r) f.limit f.tree cmd (refusal f.limit f.tree cmd) in (
            omega (arith, is.need, cond-false {A = ℕ} (len f.tree.snapshots == 0) 0 (blocks_touched f.tree cmd) some),
            omega (arith, is.cost, cond-false {A = ℕ} (len f.tree.snapshots == 0) 0 beyond some),
          )
