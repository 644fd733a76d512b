-- The row of checkpoint writes of a batch, and the list of its blocks.
use Rattle.std.proofs.Common.{◌≡◌, ℕ, zero, suc, ◌+◌, ◌<◌, ◌==◌, ◌||◌, Bool, true, false, if◌then◌else◌, List, [], ◌∷◌, ◌++◌, length, take, map, slice_get, slice_index_or, Option, Some, None, refl, sym, ◌∙◌, ap, arith}
use Rattle.std.proofs.lemmas.Bool.Decides.{nat_tests}
use Rattle.std.specs.Option.{is_some}
use Rattle.std.proofs.lemmas.Bool.{eqb-true, false≢true}
use Rattle.std.proofs.lemmas.List.{length-map}
use Rattle.std.proofs.lemmas.Option.{same_Some, none-some}
use Rattle.crash_argument.specs.HomeTest.{is_one_of}
use Rattle.engine_running.specs.declared.put.Put.{Put}
use Rattle.engine_running.specs.Record.{AreBelow, block_of}
use Rattle.engine_running.specs.Rows.{put_of}
use Rattle.engine_checkpoint.specs.declared.newest.Newest.{Newest}
use Rattle.engine_checkpoint.specs.Newest.{IsSpotList}
use Rattle.engine_checkpoint.specs.Kept.{Kept, newest_in}
use Rattle.engine_checkpoint.specs.Batch.{IsHomeRow, AreHomeBlocks, AreAt, home_block}
use Rattle.engine_checkpoint.proofs.BatchRows.{put_at}
use Rattle.engine_checkpoint.specs.declared.pipeline.HomeWrite.{HomeWrite}
use Rattle.engine_checkpoint.specs.Agree.{home_ticket}
use Rattle.engine_checkpoint.proofs.Lists.{map_push, below_none}
use Rattle.engine_checkpoint.proofs.Placing.{take_at_next}
use Rattle.engine_checkpoint.proofs.RecordSpots.{some_in}

-- A row and its blocks.

get_of_block : (row : List Put) (k b : ℕ) → slice_get (map block_of row) k ≡ Some b → (q : Put) × (slice_get row k ≡ Some q) × (q.block ≡ b)
get_of_block [] k b is = absurd (none-some b is)
get_of_block (q ∷ row) zero b is = (q, refl, same_Some q.block b is)
get_of_block (q ∷ row) (suc k) b is = get_of_block row k b is

get_block : (row : List Put) (k : ℕ) (q : Put) → slice_get row k ≡ Some q → slice_get (map block_of row) k ≡ Some q.block
get_block [] k q is = absurd (none-some q is)
get_block (r ∷ row) zero q is = ap (λ (x : Put). Some x.block) (same_Some r q is)
get_block (r ∷ row) (suc k) q is = get_block row k q is

-- the item of a row at a place, by its block and its bytes
pub row_item : (ks : List Kept) (row : List Put) (bs : List ℕ) (k b : ℕ) (x : List ℕ) → IsHomeRow ks row → map block_of row ≡ bs → slice_get bs k ≡ Some b → newest_in None ks b ≡ Some x → slice_get row k ≡ Some (record { block = b; bytes = x })
row_item ks row bs k b x home same is bytes = grind (arith, nat_tests, get_of_block, put_at)

pub row_length : (row : List Put) (bs : List ℕ) → map block_of row ≡ bs → length row ≡ length bs
row_length row bs same = sym (length-map row block_of) ∙ ap (λ (ns : List ℕ). length ns) same

pub row_below : (row : List Put) (bs : List ℕ) (n : ℕ) → map block_of row ≡ bs → ((k b : ℕ) → slice_get bs k ≡ Some b → b < n) → AreBelow n row
row_below row bs n same below k q is = below k q.block (ap (λ (ns : List ℕ). slice_get ns k) (sym same) ∙ get_block row k q is)

-- Blocks that have a spot, and the row of them.

one_of_place : (b : ℕ) (bs : List ℕ) → is_one_of b bs ≡ true → (k : ℕ) × (slice_get bs k ≡ Some b)
one_of_place b [] e = absurd (false≢true e)
one_of_place b (c ∷ bs) e = by (c == b) refl e (one_of_place b bs)
  where
    by : (v : Bool) → (c == b) ≡ v → (if v then true else is_one_of b bs) ≡ true → (is_one_of b bs ≡ true → (k : ℕ) × (slice_get bs k ≡ Some b)) → (k : ℕ) × (slice_get (c ∷ bs) k ≡ Some b)
    by true own e rest = (0, ap Some (eqb-true c b own))
    by false other e rest = let r = rest e in (suc r.0, r.1)

-- a block is listed exactly where it has a newest payload
pub listed_is : (ks : List Kept) (n : Newest) (bs : List ℕ) → AreAt ks n → IsSpotList n bs → (b : ℕ) → is_one_of b bs ≡ is_some (newest_in None ks b)
listed_is ks n bs at list b = grind (arith, nat_tests, some_in, one_of_place)

pub home_blocks : (ks : List Kept) (n : Newest) (bs : List ℕ) → AreAt ks n → IsSpotList n bs → AreHomeBlocks ks bs
home_blocks ks n bs at list = record { rising = list.rising; each = listed_is ks n bs at list }

abbrev bytes_or : Option (List ℕ) → List ℕ
bytes_or None = []
bytes_or (Some x) = x

abbrev put_for : List Kept → ℕ → Put
put_for ks b = record { block = b; bytes = bytes_or (newest_in None ks b) }

abbrev pub home_row : List Kept → List ℕ → List Put
home_row ks bs = map (put_for ks) bs

pub row_blocks : (ks : List Kept) (bs : List ℕ) → map block_of (home_row ks bs) ≡ bs
row_blocks ks [] = refl
row_blocks ks (b ∷ bs) = ap (λ cs. b ∷ cs) (row_blocks ks bs)

put_in_row : (ks : List Kept) (bs : List ℕ) (b : ℕ) → put_of b (home_row ks bs) ≡ (if is_one_of b bs then Some (bytes_or (newest_in None ks b)) else None)
put_in_row ks [] b = refl
put_in_row ks (c ∷ bs) b = grind (arith, nat_tests, put_in_row ks bs b)

get_for : (ks : List Kept) (bs : List ℕ) (i : ℕ) (q : Put) → slice_get (home_row ks bs) i ≡ Some q → slice_get bs i ≡ Some q.block
get_for ks [] i q is = absurd (none-some q is)
get_for ks (b ∷ bs) zero q is = ap (λ (x : Put). Some x.block) (same_Some _ q is)
get_for ks (b ∷ bs) (suc i) q is = get_for ks bs i q is

pub home_row_is : (ks : List Kept) (bs : List ℕ) → AreHomeBlocks ks bs → IsHomeRow ks (home_row ks bs)
home_row_is ks bs blocks = grind (arith, nat_tests, get_for, put_in_row)

-- the block at a place of the list
pub item_is : (bs : List ℕ) (k : ℕ) → k < length bs → slice_get bs k ≡ Some (slice_index_or bs k 0)
item_is [] k lt = absurd (below_none k lt)
item_is (b ∷ bs) zero lt = refl
item_is (b ∷ bs) (suc k) lt = item_is bs k (omega (arith, lt))

-- the list of checkpoint writes with one more
pub listed_next : (hs : List HomeWrite) (bs : List ℕ) (k t : ℕ) → k < length bs → map home_block hs ≡ take k bs → map home_block (hs ++ record { block = slice_index_or bs k 0; ticket = t } ∷ []) ≡ take (k + 1) bs
listed_next hs bs k t lt was = map_push home_block hs (record { block = slice_index_or bs k 0; ticket = t }) ∙ ap (λ (ns : List ℕ). ns ++ slice_index_or bs k 0 ∷ []) was ∙ sym (take_at_next bs k 0 lt)

one_of_push : (u : ℕ) (ts : List ℕ) (t : ℕ) → is_one_of u (ts ++ t ∷ []) ≡ (if t == u then true else is_one_of u ts)
one_of_push u [] t = refl
one_of_push u (s ∷ ts) t = grind (arith, nat_tests, one_of_push u ts t)

pub expected_next : (hs : List HomeWrite) (b t u : ℕ) (e mid new : Bool) → mid ≡ (is_one_of u (map home_ticket hs) || e) → new ≡ (t == u || mid) → new ≡ (is_one_of u (map home_ticket (hs ++ record { block = b; ticket = t } ∷ [])) || e)
expected_next hs b t u e mid new was now = grind (arith, nat_tests, map_push, one_of_push)
