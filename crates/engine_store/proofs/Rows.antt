-- The writes of a row, one by one.
use Rattle.std.proofs.Common.{◌≡◌, ℕ, zero, suc, ◌+◌, ◌-◌, ◌<◌, ◌≤◌, List, [], ◌∷◌, ◌++◌, length, slice_get, Some, Ok, sym, ◌∙◌, ap, subst, arith}
use Rattle.std.proofs.lemmas.List.FromFn.{length-map-range_with_len}
use Rattle.base_types.specs.Seal.{Blocks}
use Rattle.disk_contract.specs.declared.disk.DiskFault.{DiskFault}
use Rattle.disk_contract.specs.declared.event.Event.{Event}
use Rattle.disk_contract.specs.Disk.{AddsWrite}
use Rattle.crash_argument.specs.Writes.{AddsWrites, HasWritten}
use Rattle.engine_store.specs.Formatting.{row_of}

-- the write at a place of a row
pub row_at : (blocks : Blocks) (first count k b : ℕ) → k < count → b ≡ first + k → slice_get (row_of blocks first count) k ≡ Some (b, blocks b)
row_at blocks first zero k b low e = absurd (omega (arith, low))
row_at blocks first (suc count) zero b low e = ap (λ c. Some (c, blocks c)) (omega (arith, e))
row_at blocks first (suc count) (suc k) b low e = row_at blocks (first + 1) count k b (omega (arith, low)) (omega (arith, e))

-- a row has as many writes as it says
pub length_row : (blocks : Blocks) (first count : ℕ) → length (row_of blocks first count) ≡ count
length_row blocks first count = length-map-range_with_len (λ b. (b, blocks b)) first count

-- What crash_argument promises of writes that join a log: so far none, one more, and all.
abbrev pub NoneJoined : Type 0
NoneJoined = (ws : List (ℕ × List ℕ)) (begin : List ℕ) (old : List Event) → HasWritten ws 0 begin begin old old

abbrev pub OneMoreJoins : Type 0
OneMoreJoins = (ws : List (ℕ × List ℕ)) (k b : ℕ) (x : List ℕ) (t : ℕ) (begin now next : List ℕ) (old mid new : List Event) → slice_get ws k ≡ Some (b, x) → next ≡ now ++ t ∷ [] → HasWritten ws k begin now old mid → AddsWrite {E = DiskFault} b x (Ok t) mid new → HasWritten ws (k + 1) begin next old new

abbrev pub AllJoined : Type 0
AllJoined = (ws : List (ℕ × List ℕ)) (k : ℕ) (begin now : List ℕ) (old new : List Event) → length ws ≤ k → HasWritten ws k begin now old new → (ts : List ℕ) × (now ≡ begin ++ ts) × AddsWrites ws ts old new

-- before the first block
pub none_yet : NoneJoined → (ws : List (ℕ × List ℕ)) (first : ℕ) (tickets : List ℕ) (log : List Event) → tickets ≡ [] → HasWritten ws (first - first) [] tickets log log
none_yet law ws first tickets log e = subst (λ ts. HasWritten ws (first - first) [] ts log log) (sym e) (subst (λ k. HasWritten ws k [] [] log log) {x = 0} {y = first - first} (omega arith) (law ws [] log))

-- one block more
pub one_more : OneMoreJoins → (blocks : Blocks) (first end b : ℕ) (x : List ℕ) (t : ℕ) (now next : List ℕ) (old mid new : List Event) → first ≤ b → b < end → x ≡ blocks b → next ≡ now ++ t ∷ []
    → HasWritten (row_of blocks first (end - first)) (b - first) [] now old mid → AddsWrite {E = DiskFault} b x (Ok t) mid new → HasWritten (row_of blocks first (end - first)) (b + 1 - first) [] next old new
one_more law blocks first end b x t now next old mid new from below is joined so_far adds =
    subst (λ k. HasWritten (row_of blocks first (end - first)) k [] next old new) {x = b - first + 1} {y = b + 1 - first} (omega (arith, from))
    (law (row_of blocks first (end - first)) (b - first) b x t [] now next old mid new (row_at blocks first (end - first) (b - first) b (omega (arith, from, below)) (omega (arith, from)) ∙ ap (λ y. Some (b, y)) (sym is)) joined so_far adds)

-- all blocks
pub all_there : AllJoined → (blocks : Blocks) (first end b : ℕ) (tickets : List ℕ) (old new : List Event) → end - first ≤ b - first → HasWritten (row_of blocks first (end - first)) (b - first) [] tickets old new → AddsWrites (row_of blocks first (end - first)) tickets old new
all_there law blocks first end b tickets old new le so_far =
    let all = law (row_of blocks first (end - first)) (b - first) [] tickets old new (omega (arith, le, length_row blocks first (end - first))) so_far in
    subst (λ ts. AddsWrites (row_of blocks first (end - first)) ts old new) (sym all.1) all.2
