-- Records are placed one by one, and the tickets of checkpoint writes leave the notes one by one.
use Rattle.std.proofs.Common.{◌≡◌, ℕ, zero, suc, ◌+◌, ◌<◌, ◌≤◌, ◌==◌, ◌&&◌, ◌||◌, not, Bool, true, false, if◌then◌else◌, List, [], ◌∷◌, ◌++◌, length, take, drop, map, slice_get, slice_index_or, Option, Some, None, refl, sym, ◌∙◌, ap, arith, append_assoc}
use Rattle.std.proofs.lemmas.Bool.Decides.{nat_tests}
use Rattle.std.proofs.lemmas.Option.{same_Some, none-some}
use Rattle.engine_notes.specs.Notes.{Expected, is_expected, is_noticed, is_among}
use Rattle.engine_running.specs.States.{Forgets}
use Rattle.engine_running.specs.declared.states.Sure.{Sure}
use Rattle.engine_running.specs.declared.states.Placed.{Placed}
use Rattle.engine_checkpoint.specs.declared.newest.Spot.{Spot}
use Rattle.engine_checkpoint.specs.declared.pipeline.HomeWrite.{HomeWrite}
use Rattle.engine_checkpoint.specs.Agree.{home_ticket}
use Rattle.engine_checkpoint.specs.Kept.{Kept, of_sure, payloads_in}
use Rattle.engine_checkpoint.specs.Newest.{has_block, is_upto}
use Rattle.engine_checkpoint.specs.Batch.{placed_of, have_payload}
use Rattle.engine_checkpoint.proofs.Lists.{map_push, below_none}

-- Fronts of lists.

one_more : (k : ℕ) → k + 1 ≡ suc k
one_more k = omega arith

-- where the rest behind k begins with an element, the front of k + 1 ends with it
take_suc : {A : Type 0} (xs rest : List A) (k : ℕ) (x : A) → drop k xs ≡ x ∷ rest → take (suc k) xs ≡ take k xs ++ x ∷ []
take_suc [] rest zero x e = cc
take_suc [] rest (suc k) x e = cc
take_suc (y ∷ xs) rest zero x e = ap (take 1) e
take_suc (y ∷ xs) rest (suc k) x e = ap (λ zs. y ∷ zs) (take_suc xs rest k x e)

pub take_next : {A : Type 0} (xs rest : List A) (k : ℕ) (x : A) → drop k xs ≡ x ∷ rest → take (k + 1) xs ≡ take k xs ++ x ∷ []
take_next xs rest k x e = ap (λ n. take n xs) (one_more k) ∙ take_suc xs rest k x e

drop_suc : {A : Type 0} (xs rest : List A) (k : ℕ) (x : A) → drop k xs ≡ x ∷ rest → rest ≡ drop (suc k) xs
drop_suc [] rest zero x e = cc
drop_suc [] rest (suc k) x e = cc
drop_suc (y ∷ xs) rest zero x e = sym (ap (drop 1) e)
drop_suc (y ∷ xs) rest (suc k) x e = drop_suc xs rest k x e

pub drop_next : {A : Type 0} (xs rest : List A) (k : ℕ) (x : A) → drop k xs ≡ x ∷ rest → rest ≡ drop (k + 1) xs
drop_next xs rest k x e = drop_suc xs rest k x e ∙ ap (λ n. drop n xs) (sym (one_more k))

take_or : {A : Type 0} (xs : List A) (k : ℕ) (d : A) → k < length xs → take (suc k) xs ≡ take k xs ++ slice_index_or xs k d ∷ []
take_or [] k d lt = absurd (below_none k lt)
take_or (y ∷ xs) zero d lt = refl
take_or (y ∷ xs) (suc k) d lt = ap (λ zs. y ∷ zs) (take_or xs k d (omega (arith, lt)))

-- the front with the element at k
pub take_at_next : {A : Type 0} (xs : List A) (k : ℕ) (d : A) → k < length xs → take (k + 1) xs ≡ take k xs ++ slice_index_or xs k d ∷ []
take_at_next xs k d lt = ap (λ n. take n xs) (one_more k) ∙ take_or xs k d lt

-- Payloads.

pub payloads_push : (xs : List Sure) (x : Sure) → payloads_in (map of_sure (xs ++ x ∷ [])) ≡ payloads_in (map of_sure xs) + length x.payloads.items
payloads_push [] x = omega arith
payloads_push (y ∷ xs) x = omega (arith, payloads_push xs x)

pub payloads_front : (xs : List Sure) (k n : ℕ) → k ≤ n → payloads_in (map of_sure (take k xs)) ≤ payloads_in (map of_sure (take n xs))
payloads_front xs zero n le = omega arith
payloads_front [] (suc k) n le = omega arith
payloads_front (x ∷ xs) (suc k) (suc n) le = omega (arith, payloads_front xs k n (omega (arith, le)))
payloads_front (x ∷ xs) (suc k) zero le = absurd (below_none k (omega (arith, le)))

pub payloads_part : (xs : List Sure) (k : ℕ) → payloads_in (map of_sure (take k xs)) ≤ payloads_in (map of_sure xs)
payloads_part xs zero = omega arith
payloads_part [] (suc k) = omega arith
payloads_part (x ∷ xs) (suc k) = omega (arith, payloads_part xs k)

-- one of the records has a payload for the block
pub have_at : (ks : List Kept) (i b : ℕ) (k : Kept) → slice_get ks i ≡ Some k → has_block b k.payloads ≡ true → have_payload b ks ≡ true
have_at [] i b k is has = absurd (none-some k is)
have_at (j ∷ ks) zero b k is has = ap (λ v. v || have_payload b ks) (ap (λ (x : Kept). has_block b x.payloads) (same_Some j k is) ∙ has)
have_at (j ∷ ks) (suc i) b k is has = grind (arith, nat_tests, have_at ks i b k is has)

have_push : (b : ℕ) (xs : List Sure) (x : Sure) → have_payload b (map of_sure (xs ++ x ∷ [])) ≡ (have_payload b (map of_sure xs) || has_block b x.payloads.items)
have_push b [] x = grind (arith, nat_tests)
have_push b (y ∷ xs) x = grind (arith, nat_tests, have_push b xs x)

-- what drops out for the first records, and then for one more
dropped : (h one : Bool) (last : ℕ) (s mid new : Option Spot) → mid ≡ (if h && is_upto last s then None else s) → new ≡ (if one && is_upto last mid then None else mid) → new ≡ (if (h || one) && is_upto last s then None else s)
dropped h one last s mid new was now = grind (arith, nat_tests)

pub drops_next : (xs : List Sure) (x : Sure) (b last : ℕ) (s mid new : Option Spot) → mid ≡ (if have_payload b (map of_sure xs) && is_upto last s then None else s) → new ≡ (if has_block b x.payloads.items && is_upto last mid then None else mid)
    → new ≡ (if have_payload b (map of_sure (xs ++ x ∷ [])) && is_upto last s then None else s)
drops_next xs x b last s mid new was now = dropped (have_payload b (map of_sure xs)) (has_block b x.payloads.items) last s mid new was now ∙ ap (λ v. if v && is_upto last s then None else s) (sym (have_push b xs x))

pub placed_next : (old : List Placed) (xs : List Sure) (x : Sure) (now new : List Placed) (p : Placed) → p ≡ placed_of x → now ≡ old ++ map placed_of xs → new ≡ now ++ p ∷ [] → new ≡ old ++ map placed_of (xs ++ x ∷ [])
placed_next old xs x now new p own was push = push ∙ ap (λ (ps : List Placed). ps ++ p ∷ []) was ∙ append_assoc old (map placed_of xs) (p ∷ []) ∙ ap (λ (q : Placed). old ++ (map placed_of xs ++ q ∷ [])) own ∙ ap (λ (ps : List Placed). old ++ ps) (sym (map_push placed_of xs x))

-- Tickets that leave the notes.

among_push : (u : ℕ) (ts : List ℕ) (t : ℕ) → is_among u (ts ++ t ∷ []) ≡ (if is_among u ts then true else t == u)
among_push u [] t = grind (arith, nat_tests)
among_push u (s ∷ ts) t = grind (arith, nat_tests, among_push u ts t)

left_next : (p q e : Bool) → (not (if q then true else false) && (not p && e)) ≡ (not (if p then true else q) && e)
left_next true true e = refl
left_next true false e = refl
left_next false true e = refl
left_next false false e = refl

pub forgets_none : (v : Expected) → Forgets [] v v
forgets_none v = record { expected = λ u. refl; noticed = λ u. refl; room = refl }

pub forgets_next : (hs : List HomeWrite) (k : ℕ) (d : HomeWrite) (old mid new : Expected) → k < length hs → Forgets (map home_ticket (take k hs)) old mid → Forgets ((slice_index_or hs k d).ticket ∷ []) mid new → Forgets (map home_ticket (take (k + 1) hs)) old new
forgets_next hs k d old mid new lt was now = record {
  expected = λ u. now.expected u ∙ ap (λ e. not (if t == u then true else false) && e) (was.expected u) ∙ step u (is_expected u old.notes);
  noticed = λ u. now.noticed u ∙ ap (λ e. not (if t == u then true else false) && e) (was.noticed u) ∙ step u (is_noticed u old.notes);
  room = now.room ∙ was.room;
}
  where
    t : ℕ
    t = (slice_index_or hs k d).ticket

    tickets : map home_ticket (take (k + 1) hs) ≡ map home_ticket (take k hs) ++ t ∷ []
    tickets = ap (map home_ticket) (take_at_next hs k d lt) ∙ map_push home_ticket (take k hs) (slice_index_or hs k d)

    step : (u : ℕ) (e : Bool) → (not (if t == u then true else false) && (not (is_among u (map home_ticket (take k hs))) && e)) ≡ (not (is_among u (map home_ticket (take (k + 1) hs))) && e)
    step u e = left_next (is_among u (map home_ticket (take k hs))) (t == u) e ∙ sym (ap (λ v. not v && e) (among_push u (map home_ticket (take k hs)) t)) ∙ sym (ap (λ (ts : List ℕ). not (is_among u ts) && e) tickets)
