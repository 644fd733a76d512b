-- Where the newest payloads of sure records are: the record of a spot, the payload in it, and the blocks that have one.
use Rattle.std.proofs.Common.{◌≡◌, ℕ, zero, suc, ◌+◌, ◌<◌, true, List, [], ◌∷◌, ◌++◌, length, map, slice_get, slice_index_or, All, Option, Some, None, refl, sym, ◌∙◌, subst, ap, arith}
use Rattle.std.specs.Option.{is_some}
use Rattle.std.proofs.lemmas.Bool.{false≢true}
use Rattle.std.proofs.lemmas.Option.{same_Some, none-some, slice_get_read, slice_get_within}
use Rattle.engine_running.specs.declared.put.Put.{Put}
use Rattle.engine_running.specs.Record.{AreBelow}
use Rattle.engine_running.specs.declared.states.Sure.{Sure}
use Rattle.engine_checkpoint.specs.declared.newest.Spot.{Spot}
use Rattle.engine_checkpoint.specs.Index.{newest_spot}
use Rattle.engine_checkpoint.specs.Kept.{Kept, of_sure, newest_in}
use Rattle.engine_checkpoint.specs.Batch.{AreInRow}
use Rattle.engine_checkpoint.proofs.Lists.{get_old}
use Rattle.engine_checkpoint.proofs.Payloads.{GoTogether, IsSpotOf, both_some, found_together}

-- a spot has its payload, which is the newest
payload_at : (ks : List Kept) (b : ℕ) (s : Spot) → newest_spot None ks b ≡ Some s → (x : List ℕ) × (newest_in None ks b ≡ Some x) × IsSpotOf ks b s x
payload_at ks b s e = both_some (IsSpotOf ks b) (newest_spot None ks b) (newest_in None ks b) s (found_together ks b) e

-- a block has a spot exactly where it has a newest payload
pub some_in : (ks : List Kept) (b : ℕ) → is_some (newest_spot None ks b) ≡ is_some (newest_in None ks b)
some_in ks b = by (newest_spot None ks b) (newest_in None ks b) (found_together ks b)
  where
    by : (o : Option Spot) (y : Option (List ℕ)) → GoTogether (IsSpotOf ks b) o y → is_some o ≡ is_some y
    by None None go = refl
    by None (Some x) go = absurd go
    by (Some s) None go = absurd go
    by (Some s) (Some x) go = refl

-- The sure records.

get_of_sure : (ss : List Sure) (i : ℕ) (k : Kept) → slice_get (map of_sure ss) i ≡ Some k → (s : Sure) × (slice_get ss i ≡ Some s) × (of_sure s ≡ k)
get_of_sure [] i k is = absurd (none-some k is)
get_of_sure (s ∷ ss) zero k is = (s, refl, same_Some _ _ is)
get_of_sure (s ∷ ss) (suc i) k is = get_of_sure ss i k is

-- The spot of a block in these records, numbered in a row from the first one on: which record it is in, and where.
pub record IsSpotIn (ss : List Sure) (first : Sure) (b : ℕ) (s : Spot) : Type 0 where
  pub place : ℕ
  pub sure : Sure
  pub put : Put
  pub is : slice_get ss place ≡ Some sure
  pub number : s.number ≡ first.number + place
  pub at : slice_get sure.payloads.items s.at ≡ Some put
  pub bytes : newest_in None (map of_sure ss) b ≡ Some put.bytes

pub spot_in_row : (ss : List Sure) (first : Sure) (b : ℕ) (s : Spot) → AreInRow ss → slice_get ss 0 ≡ Some first → newest_spot None (map of_sure ss) b ≡ Some s → IsSpotIn ss first b s
spot_in_row ss first b s row first_is e = record {
  place = r.at;
  sure = t.0;
  put = r.put;
  is = t.1;
  number = sym r.number ∙ sym (ap (λ (k : Kept). k.number) t.2) ∙ row r.at first t.0 first_is t.1;
  at = ap (λ (k : Kept). slice_get k.payloads s.at) t.2 ∙ r.put_is;
  bytes = found.1 ∙ ap Some (sym r.bytes);
}
  where
    found : (x : List ℕ) × (newest_in None (map of_sure ss) b ≡ Some x) × IsSpotOf (map of_sure ss) b s x
    found = payload_at (map of_sure ss) b s e

    r : IsSpotOf (map of_sure ss) b s found.0
    r = found.2

    t : (t : Sure) × (slice_get ss r.at ≡ Some t) × (of_sure t ≡ r.kept)
    t = get_of_sure ss r.at r.kept r.is

-- a block that has a spot is below what all payloads are below
pub spot_below : (n : ℕ) (ss : List Sure) (more : List Kept) (b : ℕ) (s : Spot) → All (λ (k : Kept). AreBelow n k.payloads) (map of_sure ss ++ more) → newest_spot None (map of_sure ss) b ≡ Some s → b < n
spot_below n ss more b s below e =
    let r = (payload_at (map of_sure ss) b s e).2 in
    subst (λ c. c < n) r.block (all_get (λ (k : Kept). AreBelow n k.payloads) (map of_sure ss ++ more) r.at r.kept below (get_old (map of_sure ss) more r.at r.kept r.is) s.at r.put r.put_is)
  where
    all_get : {X : Type 0} (P : X → Type 0) (xs : List X) (k : ℕ) (x : X) → All P xs → slice_get xs k ≡ Some x → P x
    all_get P xs k x all is = subst P (read xs k x is) (all k x (slice_get_within xs k x is))
      where
        read : {X : Type 0} (xs : List X) (k : ℕ) (x : X) → slice_get xs k ≡ Some x → slice_index_or xs k x ≡ x
        read [] k x is = absurd (none-some x is)
        read (y ∷ xs) zero x is = same_Some y x is
        read (y ∷ xs) (suc k) x is = read xs k x is

pub some_below : (n : ℕ) (ss : List Sure) (more : List Kept) (b : ℕ) → All (λ (k : Kept). AreBelow n k.payloads) (map of_sure ss ++ more) → (o : Option Spot) → newest_spot None (map of_sure ss) b ≡ o → is_some o ≡ true → b < n
some_below n ss more b below None is e = absurd (false≢true e)
some_below n ss more b below (Some s) is e = spot_below n ss more b s below is

-- where a block has a spot there is a first record
pub spot_of_first : (ss : List Sure) (b : ℕ) (s : Spot) → newest_spot None (map of_sure ss) b ≡ Some s → 0 < length ss
spot_of_first [] b s e = absurd (none-some s e)
spot_of_first (t ∷ ss) b s e = omega arith

-- the element that was read at a place
pub same_place : (ss : List Sure) (n i : ℕ) (s t : Sure) → i ≡ n → slice_get ss n ≡ Some s → t ≡ slice_index_or ss i t → slice_get ss i ≡ Some t
same_place ss n i s t e is read = slice_get_read ss (length ss) i t refl (omega (arith, e, slice_get_within ss n s is)) read

pub own_sure : (ss : List Sure) (n i : ℕ) (t s : Sure) → i ≡ n → slice_get ss i ≡ Some t → slice_get ss n ≡ Some s → t ≡ s
own_sure ss n i t s e at is = same_Some t s (sym at ∙ ap (slice_get ss) e ∙ is)
