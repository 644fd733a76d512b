-- The index of newest payloads stays right: a record joins at the end, records change their state, the first records are placed.
use Rattle.std.proofs.Common.{◌≡◌, ℕ, zero, suc, ◌+◌, ◌<◌, ◌≤◌, if◌then◌else◌, List, [], ◌∷◌, ◌++◌, length, drop, map, slice_get, Option, Some, None, refl, sym, ◌∙◌, ap, arith, append_assoc}
use Rattle.std.proofs.lemmas.Bool.Decides.{nat_tests}
use Rattle.std.specs.List.{range_with_len}
use Rattle.std.proofs.lemmas.List.{length-map, map-append}
use Rattle.std.proofs.lemmas.Option.{same_Some, none-some}
use Rattle.engine_running.specs.declared.put.Put.{Put}
use Rattle.engine_running.specs.declared.commit.Committed.{Committed}
use Rattle.engine_running.specs.declared.states.Durable.{Durable}
use Rattle.engine_running.specs.declared.states.Sure.{Sure}
use Rattle.engine_running.specs.States.{IsDurableOf, IsSureOf}
use Rattle.layout_journal.specs.Ring.{RingPlaces}
use Rattle.engine_checkpoint.specs.declared.newest.Spot.{Spot}
use Rattle.engine_checkpoint.specs.declared.pipeline.Pipeline.{Pipeline}
use Rattle.engine_checkpoint.specs.Newest.{spot_of, spot_in, spot_after, is_upto}
use Rattle.engine_checkpoint.specs.Kept.{Kept, of_committed, of_durable, of_sure, number_of, placed_number, kept, numbers}
use Rattle.engine_checkpoint.specs.Index.{newest_spot, IndexIsRight}
use Rattle.engine_checkpoint.specs.Order.{IsInOrder}
use Rattle.engine_checkpoint.specs.Steps.{SettlesFirst}
use Rattle.engine_checkpoint.specs.Turns.{TurnsHeader, EndsBatch, AreSured}
use Rattle.engine_checkpoint.proofs.Lists.{map_push}

-- ---- a record joins at the end

pub newest_push : (before : Option Spot) (ks : List Kept) (k : Kept) (b : ℕ) → newest_spot before (ks ++ k ∷ []) b ≡ spot_after (newest_spot before ks b) k.number k.payloads k.fresh k.freed b
newest_push before [] k b = refl
newest_push before (j ∷ ks) k b = newest_push (spot_after before j.number j.payloads j.fresh j.freed b) ks k b

pub index_joins : (v w : Pipeline) (k : Kept) → kept w ≡ kept v ++ k ∷ [] → ((b : ℕ) → spot_of w.newest b ≡ spot_after (spot_of v.newest b) k.number k.payloads k.fresh k.freed b) → IndexIsRight v → IndexIsRight w
index_joins v w k joined added right = grind (arith, nat_tests, newest_push)

-- ---- records change their state

pub index_same : (v w : Pipeline) → kept w ≡ kept v → ((b : ℕ) → spot_of w.newest b ≡ spot_of v.newest b) → IndexIsRight v → IndexIsRight w
index_same v w same as_before right = grind (arith, nat_tests)

same_kept : (n m c d : ℕ) (ps qs : List Put) (fs gs hs is : List ℕ) → n ≡ m → c ≡ d → ps ≡ qs → fs ≡ gs → hs ≡ is → ◌≡◌ {A = Kept} (record { number = n; count = c; payloads = ps; fresh = fs; freed = hs }) (record { number = m; count = d; payloads = qs; fresh = gs; freed = is })
same_kept n m c d ps qs fs gs hs is e1 e2 e3 e4 e5 = cc

pub durable_kept : (c : Committed) (d : Durable) → IsDurableOf c d → of_durable d ≡ of_committed c
durable_kept c d e = same_kept d.number c.number d.count c.count d.payloads.items c.payloads.items d.fresh.items c.fresh.items d.freed.items c.freed.items e.number e.count (ap (λ xs. xs.items) e.payloads) (ap (λ xs. xs.items) e.fresh) (ap (λ xs. xs.items) e.freed)

pub sure_kept : (d : Durable) (s : Sure) → IsSureOf d s → of_sure s ≡ of_durable d
sure_kept d s e = same_kept s.number d.number s.count d.count s.payloads.items d.payloads.items s.fresh.items d.fresh.items s.freed.items d.freed.items e.number e.count (ap (λ xs. xs.items) e.payloads) (ap (λ xs. xs.items) e.fresh) (ap (λ xs. xs.items) e.freed)

-- the oldest committed record becomes durable
pub kept_settled : (v w : Pipeline) → SettlesFirst v w → kept w ≡ kept v
kept_settled v w s = grind (arith, nat_tests, map_push, append_assoc, durable_kept)

sured_rows : (news : List Sure) (ds : List Durable) → AreSured ds news → map of_sure news ++ map of_durable (drop (length news) ds) ≡ map of_durable ds
sured_rows [] ds each = refl
sured_rows (s ∷ news) [] each = absurd (none-some (each 0 s refl).0 (each 0 s refl).1)
sured_rows (s ∷ news) (d ∷ ds) each =
    ap (λ k. k ∷ (map of_sure news ++ map of_durable (drop (length news) ds))) (sure_kept (each 0 s refl).0 s (each 0 s refl).2 ∙ ap of_durable (sym (same_Some _ _ (each 0 s refl).1)))
    ∙ ap (λ ks. of_durable d ∷ ks) (sured_rows news ds (λ i t is. each (suc i) t is))

-- the pending header is durable: some durable records are sure
pub kept_turned : (v w : Pipeline) (old new : RingPlaces) → TurnsHeader v w old new → kept w ≡ kept v
kept_turned v w old new t =
    ap (λ (p : Pipeline). map of_sure w.sure.items ++ (map of_durable w.durable.items ++ map of_committed p.committed.items)) t.rest
    ∙ ap (λ ss. map of_sure ss ++ (map of_durable w.durable.items ++ map of_committed v.committed.items)) t.sure
    ∙ ap (λ ds. map of_sure (v.sure.items ++ t.news) ++ (map of_durable ds ++ map of_committed v.committed.items)) (t.durable ∙ ap (λ n. drop n v.durable.items) (sym t.count))
    ∙ ap (λ ks. ks ++ (map of_durable (drop (length t.news) v.durable.items) ++ map of_committed v.committed.items)) (map-append of_sure v.sure.items t.news)
    ∙ append_assoc (map of_sure v.sure.items) (map of_sure t.news) (map of_durable (drop (length t.news) v.durable.items) ++ map of_committed v.committed.items)
    ∙ ap (λ ks. map of_sure v.sure.items ++ ks) (sym (append_assoc (map of_sure t.news) (map of_durable (drop (length t.news) v.durable.items)) (map of_committed v.committed.items))
    ∙ ap (λ ks. ks ++ map of_committed v.committed.items) (sured_rows t.news v.durable.items t.each))

drop_mapped : (n : ℕ) (ss : List Sure) (ks : List Kept) → n ≤ length ss → map of_sure (drop n ss) ++ ks ≡ drop n (map of_sure ss ++ ks)
drop_mapped zero ss ks le = refl
drop_mapped (suc n) [] ks le = absurd (omega (arith, le))
drop_mapped (suc n) (s ∷ ss) ks le = drop_mapped n ss ks (omega (arith, le))

-- the batch is placed
pub kept_ended : (v w : Pipeline) → EndsBatch v w → v.batch ≤ length v.sure.items → kept w ≡ drop v.batch (kept v)
kept_ended v w e le = grind (arith, nat_tests, drop_mapped)

pub index_turned : (v w : Pipeline) (old new : RingPlaces) → TurnsHeader v w old new → IndexIsRight v → IndexIsRight w
index_turned v w old new t right = index_same v w (kept_turned v w old new t) (λ b. ap (λ (p : Pipeline). spot_of p.newest b) t.rest) right

-- ---- the first records are placed

-- without what is up to this number
abbrev pub without_upto : ℕ → Option Spot → Option Spot
without_upto last s = if is_upto last s then None else s

-- these records are numbered in a row
abbrev pub AreNumberedFrom : ℕ → List Kept → Type 0
AreNumberedFrom first ks = (i : ℕ) (k : Kept) → slice_get ks i ≡ Some k → k.number ≡ first + i

tail_numbers : (first : ℕ) (k : Kept) (ks : List Kept) → AreNumberedFrom first (k ∷ ks) → AreNumberedFrom (first + 1) ks
tail_numbers first k ks each i j is = each (suc i) j is ∙ s first i
  where
    s : (n i : ℕ) → n + suc i ≡ n + 1 + i
    s n i = omega arith

-- what a record has itself is at its own number
own_stays : (last number k : ℕ) (ps : List Put) (b : ℕ) → last < number → without_upto last (spot_in number k ps b) ≡ spot_in number k ps b
own_stays last number k [] b above = refl
own_stays last number k (p ∷ ps) b above = grind (arith, nat_tests, own_stays last number (k + 1) ps b above)

own_goes : (last number k : ℕ) (ps : List Put) (b : ℕ) → number ≤ last → without_upto last (spot_in number k ps b) ≡ None
own_goes last number k [] b upto = refl
own_goes last number k (p ∷ ps) b upto = grind (arith, nat_tests, own_goes last number (k + 1) ps b upto)

-- a record above the number, and one up to it
after_above : (last : ℕ) (a : Option Spot) (number : ℕ) (ps : List Put) (fresh freed : List ℕ) (b : ℕ) → last < number → without_upto last (spot_after a number ps fresh freed b) ≡ spot_after (without_upto last a) number ps fresh freed b
after_above last a number ps fresh freed b above = grind (arith, nat_tests, own_stays)

after_upto : (last : ℕ) (a : Option Spot) (number : ℕ) (ps : List Put) (fresh freed : List ℕ) (b : ℕ) → number ≤ last → without_upto last a ≡ None → without_upto last (spot_after a number ps fresh freed b) ≡ None
after_upto last a number ps fresh freed b upto gone = grind (arith, nat_tests, own_goes)

rows_above : (last first : ℕ) (a : Option Spot) (ks : List Kept) (b : ℕ) → AreNumberedFrom first ks → last < first → newest_spot (without_upto last a) ks b ≡ without_upto last (newest_spot a ks b)
rows_above last first a [] b each above = refl
rows_above last first a (k ∷ ks) b each above =
    ap (λ s. newest_spot s ks b) (sym (after_above last a k.number k.payloads k.fresh k.freed b (omega (arith, above, each 0 k refl))))
    ∙ rows_above last (first + 1) (spot_after a k.number k.payloads k.fresh k.freed b) ks b (tail_numbers first k ks each) (omega (arith, above))

-- behind the first n of these records nothing is left of what they have
pub rows_placed : (last n first : ℕ) (a : Option Spot) (ks : List Kept) (b : ℕ) → AreNumberedFrom first ks → last + 1 ≡ first + n → without_upto last a ≡ None → newest_spot None (drop n ks) b ≡ without_upto last (newest_spot a ks b)
rows_placed last zero first a ks b each ends gone = ap (λ s. newest_spot s ks b) (sym gone) ∙ rows_above last first a ks b each (omega (arith, ends))
rows_placed last (suc n) first a [] b each ends gone = sym gone
rows_placed last (suc n) first a (k ∷ ks) b each ends gone =
    rows_placed last n (first + 1) (spot_after a k.number k.payloads k.fresh k.freed b) ks b (tail_numbers first k ks each) (omega (arith, ends)) (after_upto last a k.number k.payloads k.fresh k.freed b (omega (arith, ends, each 0 k refl)) gone)

-- ---- the numbers of a pipeline's records

number_at : (first n : ℕ) (xs : List ℕ) (i x : ℕ) → xs ≡ range_with_len first n → slice_get xs i ≡ Some x → x ≡ first + i
number_at first n xs i x are is = in_range first n i x (ap (λ ys. slice_get ys i) (sym are) ∙ is)
  where
    in_range : (first n i x : ℕ) → slice_get (range_with_len first n) i ≡ Some x → x ≡ first + i
    in_range first zero i x is = absurd (none-some x is)
    in_range first (suc n) zero x is = omega (arith, same_Some _ _ is)
    in_range first (suc n) (suc i) x is = omega (arith, in_range (first + 1) n i x is)

get_behind : {A : Type 0} (xs ys : List A) (i : ℕ) → slice_get (xs ++ ys) (length xs + i) ≡ slice_get ys i
get_behind [] ys i = grind (arith, nat_tests)
get_behind (x ∷ xs) ys i = ap (slice_get (x ∷ (xs ++ ys))) (s (length xs) i) ∙ get_behind xs ys i
  where
    s : (n i : ℕ) → suc n + i ≡ suc (n + i)
    s n i = omega arith

get_mapped : {A B : Type 0} (f : A → B) (xs : List A) (i : ℕ) (x : A) → slice_get xs i ≡ Some x → slice_get (map f xs) i ≡ Some (f x)
get_mapped f [] i x is = absurd (none-some x is)
get_mapped f (y ∷ xs) zero x is = ap (λ z. Some (f z)) (same_Some _ _ is)
get_mapped f (y ∷ xs) (suc i) x is = get_mapped f xs i x is

-- the records that aren't placed are numbered from the last placed one on
pub kept_numbers : (v : Pipeline) → IsInOrder v → AreNumberedFrom (v.header.start + length v.placed.items) (kept v)
kept_numbers v o i k is =
    number_at v.header.start (length (numbers v)) (numbers v) (length (map placed_number v.placed.items) + i) k.number o.numbers_are (get_behind (map placed_number v.placed.items) (map number_of (kept v)) i ∙ get_mapped number_of (kept v) i k is)
    ∙ s v.header.start (length (map placed_number v.placed.items)) (length v.placed.items) i (length-map v.placed.items placed_number)
  where
    s : (a m n i : ℕ) → m ≡ n → a + (m + i) ≡ a + n + i
    s a m n i e = omega (arith, e)

-- the batch is placed, and what is newest up to its last record leaves the index
pub index_placed : (v w : Pipeline) (last : ℕ) → IsInOrder v → kept w ≡ drop v.batch (kept v) → last + 1 ≡ v.header.start + length v.placed.items + v.batch → ((b : ℕ) → spot_of w.newest b ≡ (if is_upto last (spot_of v.newest b) then None else spot_of v.newest b)) → IndexIsRight v → IndexIsRight w
index_placed v w last o placed ends dropped right = record {
  at = λ b. dropped b ∙ ap (without_upto last) (right.at b) ∙ sym (rows_placed last v.batch (v.header.start + length v.placed.items) None (kept v) b (kept_numbers v o) ends refl) ∙ ap (λ ks. newest_spot None ks b) (sym placed);
}
