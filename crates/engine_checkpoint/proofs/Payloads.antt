-- Where the index finds a payload, and what the newest payload is: step by step the two folds over the records go together.
use Rattle.std.proofs.Common.{◌≡◌, ℕ, zero, suc, ◌+◌, ◌<◌, ◌==◌, Bool, true, false, if◌then◌else◌, List, [], ◌∷◌, length, ◌&&◌, drop, take, slice_get, slice_index_or, Option, Some, None, refl, sym, ◌∙◌, ap, subst, arith}
use Rattle.std.proofs.lemmas.Bool.Decides.{nat_tests}
use Rattle.std.specs.Bool.{⊤}
use Rattle.std.proofs.lemmas.Bool.{eqb-true, eq-eqb, leb-true, false≢true}
use Rattle.std.proofs.lemmas.Option.{same_Some, none-some}
use Rattle.layout_journal.specs.Run.{or_else}
use Rattle.crash_argument.specs.HomeTest.{is_one_of}
use Rattle.engine_running.specs.declared.put.Put.{Put}
use Rattle.engine_running.specs.Rows.{put_of}
use Rattle.engine_checkpoint.specs.declared.newest.Spot.{Spot}
use Rattle.engine_checkpoint.specs.declared.pipeline.Pipeline.{Pipeline}
use Rattle.engine_checkpoint.specs.Newest.{spot_of, spot_or, spot_in, spot_after, has_block, is_upto}
use Rattle.engine_checkpoint.specs.Kept.{Kept, kept, newest_after, newest_in}
use Rattle.engine_checkpoint.specs.Index.{newest_spot, IndexIsRight}
use Rattle.engine_checkpoint.specs.Order.{IsInOrder}
use Rattle.engine_checkpoint.proofs.Index.{kept_numbers, index_placed}
use Rattle.engine_checkpoint.proofs.Lists.{below_none}

-- neither, or a spot and bytes that go together
abbrev pub GoTogether : (Spot → List ℕ → Type 0) → Option Spot → Option (List ℕ) → Type 0
GoTogether G None None = ⊤
GoTogether G None (Some x) = ⊥
GoTogether G (Some s) None = ⊥
GoTogether G (Some s) (Some x) = G s x

own_together : (G : Spot → List ℕ → Type 0) (number from : ℕ) (ps : List Put) (b : ℕ) → ((i : ℕ) (p : Put) → slice_get ps i ≡ Some p → p.block ≡ b → G (record { number = number; at = from + i }) p.bytes) → GoTogether G (spot_in number from ps b) (put_of b ps)
own_together G number from [] b each = _
own_together G number from (p ∷ ps) b each = by (p.block == b) refl (own_together G number (from + 1) ps b (λ i q is named. subst (λ n. G (record { number = number; at = n }) q.bytes) (s from i) (each (suc i) q is named)))
  where
    z : (n : ℕ) → n + 0 ≡ n
    z n = omega arith

    s : (n i : ℕ) → n + suc i ≡ n + 1 + i
    s n i = omega arith

    by : (v : Bool) → (p.block == b) ≡ v → GoTogether G (spot_in number (from + 1) ps b) (put_of b ps) → GoTogether G (if v then Some (record { number = number; at = from }) else spot_in number (from + 1) ps b) (if v then Some p.bytes else put_of b ps)
    by true e rest = subst (λ n. G (record { number = number; at = n }) p.bytes) (z from) (each 0 p refl (eqb-true p.block b e))
    by false e rest = rest

step_together : (G : Spot → List ℕ → Type 0) (a : Option Spot) (x : Option (List ℕ)) (k : Kept) (b : ℕ) → ((i : ℕ) (p : Put) → slice_get k.payloads i ≡ Some p → p.block ≡ b → G (record { number = k.number; at = i }) p.bytes) → GoTogether G a x
    → GoTogether G (spot_after a k.number k.payloads k.fresh k.freed b) (newest_after x k b)
step_together G a x k b each before = by (is_one_of b k.freed) (is_one_of b k.fresh) (spot_in k.number 0 k.payloads b) (put_of b k.payloads) (own_together G k.number 0 k.payloads b (λ i p is named. subst (λ n. G (record { number = k.number; at = n }) p.bytes) (z i) (each i p is named)))
  where
    z : (n : ℕ) → n ≡ 0 + n
    z n = omega arith

    by : (u v : Bool) (o : Option Spot) (y : Option (List ℕ)) → GoTogether G o y → GoTogether G (if u then None else spot_or o (if v then None else a)) (if u then None else or_else y (if v then None else x))
    by true v o y own = _
    by false v (Some t) (Some y) own = own
    by false v (Some t) None own = absurd own
    by false v None (Some y) own = absurd own
    by false true None None own = _
    by false false None None own = before

rows_together : (G : Spot → List ℕ → Type 0) (a : Option Spot) (x : Option (List ℕ)) (ks : List Kept) (b : ℕ) → ((j i : ℕ) (k : Kept) (p : Put) → slice_get ks j ≡ Some k → slice_get k.payloads i ≡ Some p → p.block ≡ b → G (record { number = k.number; at = i }) p.bytes) → GoTogether G a x
    → GoTogether G (newest_spot a ks b) (newest_in x ks b)
rows_together G a x [] b each before = before
rows_together G a x (k ∷ ks) b each before = rows_together G (spot_after a k.number k.payloads k.fresh k.freed b) (newest_after x k b) ks b (λ j. each (suc j)) (step_together G a x k b (λ i p. each 0 i k p refl) before)

-- the spot is that of a payload for the block in one of these records, with these bytes
pub record IsSpotOf (ks : List Kept) (b : ℕ) (s : Spot) (x : List ℕ) : Type 0 where
  pub at : ℕ
  pub kept : Kept
  pub is : slice_get ks at ≡ Some kept
  pub number : kept.number ≡ s.number
  pub put : Put
  pub put_is : slice_get kept.payloads s.at ≡ Some put
  pub block : put.block ≡ b
  pub bytes : put.bytes ≡ x

-- what is found for a block, and that nothing is found where nothing is
pub found_together : (ks : List Kept) (b : ℕ) → GoTogether (IsSpotOf ks b) (newest_spot None ks b) (newest_in None ks b)
found_together ks b = rows_together (IsSpotOf ks b) None None ks b (λ j i k p is put_is named. record { at = j; kept = k; is = is; number = refl; put = p; put_is = put_is; block = named; bytes = refl }) _

-- what the index says of a block, where it is right
pub record IsFound (v : Pipeline) (b : ℕ) (s : Spot) : Type 0 where
  pub at : ℕ
  pub kept_at : Kept
  pub is : slice_get (kept v) at ≡ Some kept_at
  pub below : at < length (kept v)
  pub number : s.number ≡ v.header.start + length v.placed.items + at
  pub put : Put
  pub put_is : slice_get kept_at.payloads s.at ≡ Some put
  pub bytes : newest_in None (kept v) b ≡ Some put.bytes

pub both_some : (G : Spot → List ℕ → Type 0) (o : Option Spot) (y : Option (List ℕ)) (s : Spot) → GoTogether G o y → o ≡ Some s → (x : List ℕ) × (y ≡ Some x) × G s x
both_some G None y s go e = absurd (none-some s e)
both_some G (Some t) None s go e = absurd go
both_some G (Some t) (Some x) s go e = (x, refl, subst (λ u. G u x) (same_Some _ _ e) go)

both_none : (G : Spot → List ℕ → Type 0) (o : Option Spot) (y : Option (List ℕ)) → GoTogether G o y → o ≡ None → y ≡ None
both_none G None None go e = refl
both_none G None (Some x) go e = absurd go
both_none G (Some t) y go e = absurd (none-some t (sym e))

get_below : {A : Type 0} (xs : List A) (i : ℕ) (x : A) → slice_get xs i ≡ Some x → i < length xs
get_below [] i x is = absurd (none-some x is)
get_below (y ∷ xs) zero x is = omega arith
get_below (y ∷ xs) (suc i) x is = omega (arith, get_below xs i x is)

pub nothing_found : (v : Pipeline) (b : ℕ) → IndexIsRight v → spot_of v.newest b ≡ None → newest_in None (kept v) b ≡ None
nothing_found v b right e = both_none (IsSpotOf (kept v) b) (newest_spot None (kept v) b) (newest_in None (kept v) b) (found_together (kept v) b) (sym (right.at b) ∙ e)

pub spot_found : (v : Pipeline) (b : ℕ) (s : Spot) → IsInOrder v → IndexIsRight v → spot_of v.newest b ≡ Some s → IsFound v b s
spot_found v b s order right e = by (both_some (IsSpotOf (kept v) b) (newest_spot None (kept v) b) (newest_in None (kept v) b) s (found_together (kept v) b) (sym (right.at b) ∙ e))
  where
    by : (x : List ℕ) × (newest_in None (kept v) b ≡ Some x) × IsSpotOf (kept v) b s x → IsFound v b s
    by (x, is, spot) = record {
      at = spot.at;
      kept_at = spot.kept;
      is = spot.is;
      below = get_below (kept v) spot.at spot.kept spot.is;
      number = sym spot.number ∙ kept_numbers v order spot.at spot.kept spot.is;
      put = spot.put;
      put_is = spot.put_is;
      bytes = is ∙ ap Some (sym spot.bytes);
    }

-- the payload is in the list that stands at its record's place
pub found_below : (v : Pipeline) (b : ℕ) (s : Spot) (ps : List Put) (at : ℕ) → (f : IsFound v b s) → f.at ≡ at → ((k : Kept) → slice_get (kept v) at ≡ Some k → ps ≡ k.payloads) → s.at < length ps
found_below v b s ps at f e are = get_below ps s.at f.put (ap (λ xs. slice_get xs s.at) (are f.kept_at (ap (slice_get (kept v)) (sym e) ∙ f.is)) ∙ f.put_is)

pub found_bytes : (v : Pipeline) (b : ℕ) (s : Spot) (ps : List Put) (at : ℕ) (d : Put) → (f : IsFound v b s) → f.at ≡ at → ((k : Kept) → slice_get (kept v) at ≡ Some k → ps ≡ k.payloads) → newest_in None (kept v) b ≡ Some (slice_index_or ps s.at d).bytes
found_bytes v b s ps at d f e are = f.bytes ∙ ap (λ (p : Put). Some p.bytes) (sym (index_of ps s.at f.put (ap (λ xs. slice_get xs s.at) (are f.kept_at (ap (slice_get (kept v)) (sym e) ∙ f.is)) ∙ f.put_is)))
  where
    index_of : (xs : List Put) (n : ℕ) (z : Put) → slice_get xs n ≡ Some z → slice_index_or xs n d ≡ z
    index_of [] n z is = absurd (none-some z is)
    index_of (x ∷ xs) zero z is = same_Some _ _ is
    index_of (x ∷ xs) (suc n) z is = index_of xs n z is

has_at : (ps : List Put) (i b : ℕ) (p : Put) → slice_get ps i ≡ Some p → p.block ≡ b → has_block b ps ≡ true
has_at [] i b p is e = absurd (none-some p is)
has_at (q ∷ ps) zero b p is e = ap (λ (v : Bool). if v then true else has_block b ps) (eq-eqb q.block b (ap (λ (r : Put). r.block) (same_Some _ _ is) ∙ e))
has_at (q ∷ ps) (suc i) b p is e = grind (arith, nat_tests, has_at ps i b p is e)

-- a record of the newest payload's number has the block among its payloads: those up to a number are dropped by the payloads of the records up to it
pub newest_is_had : (ks : List Kept) (b : ℕ) (s : Spot) → newest_spot None ks b ≡ Some s → (at : ℕ) × (k : Kept) × (slice_get ks at ≡ Some k) × (k.number ≡ s.number) × (has_block b k.payloads ≡ true)
newest_is_had ks b s e = by (both_some (IsSpotOf ks b) (newest_spot None ks b) (newest_in None ks b) s (found_together ks b) e)
  where
    by : (x : List ℕ) × (newest_in None ks b ≡ Some x) × IsSpotOf ks b s x → (at : ℕ) × (k : Kept) × (slice_get ks at ≡ Some k) × (k.number ≡ s.number) × (has_block b k.payloads ≡ true)
    by (x, is, spot) = (spot.at, spot.kept, spot.is, spot.number, has_at spot.kept.payloads s.at b spot.put spot.put_is spot.block)

-- ---- the batch is placed: what was dropped by its records' payloads leaves the index

get_taken : {A : Type 0} (n : ℕ) (xs : List A) (i : ℕ) (x : A) → i < n → slice_get xs i ≡ Some x → slice_get (take n xs) i ≡ Some x
get_taken zero xs i x lt is = absurd (below_none i lt)
get_taken (suc n) [] i x lt is = absurd (none-some x is)
get_taken (suc n) (y ∷ xs) zero x lt is = is
get_taken (suc n) (y ∷ xs) (suc i) x lt is = get_taken n xs i x (omega (arith, lt)) is

-- a newest payload up to the batch's last record is of a block that a record of the batch has a payload for
pub upto_is_had : (v : Pipeline) (last b : ℕ) → IsInOrder v → IndexIsRight v → last + 1 ≡ v.header.start + length v.placed.items + v.batch → is_upto last (spot_of v.newest b) ≡ true
    → (at : ℕ) × (k : Kept) × (slice_get (take v.batch (kept v)) at ≡ Some k) × (has_block b k.payloads ≡ true)
upto_is_had v last b order right ends upto = by (spot_of v.newest b) refl upto
  where
    by : (o : Option Spot) → spot_of v.newest b ≡ o → is_upto last o ≡ true → (at : ℕ) × (k : Kept) × (slice_get (take v.batch (kept v)) at ≡ Some k) × (has_block b k.payloads ≡ true)
    by None e low = absurd (false≢true low)
    by (Some s) e low =
        let r = newest_is_had (kept v) b s (sym (right.at b) ∙ e) in
        (r.0, r.1, get_taken v.batch (kept v) r.0 r.1 (omega (arith, ends, kept_numbers v order r.0 r.1 r.2, r.3, leb-true s.number last low)) r.2, r.4)

-- `had` is any test that holds of the blocks that the batch's records have payloads for
pub index_placed_by : (v w : Pipeline) (last : ℕ) (had : ℕ → Bool) → IsInOrder v → kept w ≡ drop v.batch (kept v) → last + 1 ≡ v.header.start + length v.placed.items + v.batch
    → ((b at : ℕ) (k : Kept) → slice_get (take v.batch (kept v)) at ≡ Some k → has_block b k.payloads ≡ true → had b ≡ true) → ((b : ℕ) → spot_of w.newest b ≡ (if had b && is_upto last (spot_of v.newest b) then None else spot_of v.newest b)) → IndexIsRight v → IndexIsRight w
index_placed_by v w last had order placed ends has dropped right = index_placed v w last order placed ends (λ b. dropped b ∙ ap (λ c. if c then None else spot_of v.newest b) (by b (had b) (is_upto last (spot_of v.newest b)) refl refl)) right
  where
    by : (b : ℕ) (x y : Bool) → had b ≡ x → is_upto last (spot_of v.newest b) ≡ y → (x && y) ≡ y
    by b true y e f = refl
    by b false false e f = refl
    by b false true e f =
        let r = upto_is_had v last b order right ends f in
        absurd (false≢true (sym e ∙ has b r.0 r.1 r.2 r.3))
