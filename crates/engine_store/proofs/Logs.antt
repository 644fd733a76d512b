-- Logs that go on: notices behind notices, and events that write no block from some block on.
use Rattle.std.proofs.Common.{◌≡◌, ◌≢◌, ◌⊎◌, ⊎_elim, ℕ, zero, suc, ◌+◌, ◌<◌, ◌≤◌, List, [], ◌∷◌, ◌++◌, take, length, get_or, refl, sym, ◌∙◌, ap, subst, arith, append_assoc, append-nil, length-append}
use Rattle.std.proofs.lemmas.Bool.{false≢true}
use Rattle.disk_contract.specs.declared.event.Event.{Event}
use Rattle.disk_contract.specs.declared.event.Event.TheVariants.{Wrote, Lost, Noticed}
use Rattle.disk_contract.specs.Cell.{IsNoticed, notices}
use Rattle.disk_contract.specs.Disk.{AreOpen, AddsNotices, Grows}
pub use Rattle.disk_contract.specs.Logs.{IsNoticed-append as noticed_in, IsNoticed-more as noticed_still}
use Rattle.disk_contract.specs.Logs.{notices-append}
use Rattle.crash_argument.specs.LastWrites.{AvoidsBlock}
use Rattle.crash_argument.specs.PipelineData.{AllNoticed}
use Rattle.engine_store.specs.Formatting.{WritesBelow}

-- a log that goes on has no fewer events
pub longer : (old new : List Event) → Grows old new → length old ≤ length new
longer old new grows = omega (arith, ap (λ (es : List Event). length es) grows.log, length-append old grows.more)

-- tickets that are open one after another, in two lists
open_then : (ts us : List ℕ) (log : List Event) → AreOpen ts log → AreOpen us (log ++ notices ts) → AreOpen (ts ++ us) log
open_then [] us log one two = subst (AreOpen us) (append-nil log) two
open_then (t ∷ ts) us log one two = (one.0, open_then ts us (log ++ Noticed t ∷ []) one.1 (subst (AreOpen us) (sym (append_assoc log (Noticed t ∷ []) (notices ts))) two))

-- notices, and then more
pub notices_then : (old mid new : List Event) → AddsNotices old mid → AddsNotices mid new → AddsNotices old new
notices_then old mid new one two = record {
  tickets = one.tickets ++ two.tickets;
  open_before = open_then one.tickets two.tickets old one.open_before (subst (AreOpen two.tickets) one.log two.open_before);
  log =
      two.log ∙ ap (λ (l : List Event). l ++ notices two.tickets) one.log ∙ append_assoc old (notices one.tickets) (notices two.tickets)
      ∙ ap (λ (l : List Event). old ++ l) (sym (notices-append one.tickets two.tickets));
}

-- all of these are noticed still
all_still : (ts : List ℕ) (log more : List Event) → AllNoticed log ts → AllNoticed (log ++ more) ts
all_still [] log more all = tt
all_still (t ∷ ts) log more all = (noticed_still t log more all.0, all_still ts log more all.1)

-- and one ticket more
all_then : (log : List Event) (ts : List ℕ) (t : ℕ) → AllNoticed log ts → IsNoticed t log → AllNoticed log (ts ++ t ∷ [])
all_then log [] t all one = (one, tt)
all_then log (u ∷ ts) t all one = (all.0, all_then log ts t all.1 one)

-- one element more of a list
push : (ys : List ℕ) (n : ℕ) → n < length ys → take n ys ++ get_or ys n 0 ∷ [] ≡ take (n + 1) ys
push [] n low = absurd (omega (arith, low))
push (y ∷ ys) zero low = refl
push (y ∷ ys) (suc n) low = ap (λ (l : List ℕ). y ∷ l) (push ys n (omega (arith, low))) ∙ ap (λ m. take m (y ∷ ys)) (s n)
  where
    s : (n : ℕ) → suc (n + 1) ≡ suc n + 1
    s n = omega arith

-- the first tickets of a list are noticed, and after one more wait the next one is
pub one_more_noticed : (tickets : List ℕ) (k : ℕ) (old new : List Event) → k < length tickets → AllNoticed old (take k tickets) → AddsNotices old new → IsNoticed (get_or tickets k 0) new → AllNoticed new (take (k + 1) tickets)
one_more_noticed tickets k old new low all adds one =
    subst (AllNoticed new) (push tickets k low)
    (all_then new (take k tickets) (get_or tickets k 0) (subst (λ (l : List Event). AllNoticed l (take k tickets)) (sym adds.log) (all_still (take k tickets) old (notices adds.tickets) all)) one)

-- two lists of events avoid a block where each does
avoids_both : (b : ℕ) (xs ys : List Event) → AvoidsBlock b xs → AvoidsBlock b ys → AvoidsBlock b (xs ++ ys)
avoids_both b [] ys p q = q
avoids_both b (Wrote t d x ∷ xs) ys p q = (p.0, avoids_both b xs ys p.1 q)
avoids_both b (Lost d x ∷ xs) ys p q = (p.0, avoids_both b xs ys p.1 q)
avoids_both b (Noticed t ∷ xs) ys p q = avoids_both b xs ys p q

pub notices_avoid : (b : ℕ) (ts : List ℕ) → AvoidsBlock b (notices ts)
notices_avoid b [] = tt
notices_avoid b (t ∷ ts) = notices_avoid b ts

apart : (b c end : ℕ) → c < end → end ≤ b → c ≢ b
apart b c end low high e = omega arith

-- nothing is written so far
pub none_below : (end : ℕ) (log : List Event) → WritesBelow end log log
none_below end log = record { more = []; log = sym (append-nil log); avoids = λ b high. tt }

-- an accepted write of a block below
pub wrote_below : (end b t : ℕ) (x : List ℕ) (old new : List Event) → b < end → new ≡ old ++ Wrote t b x ∷ [] → WritesBelow end old new
wrote_below end b t x old new low e = record { more = Wrote t b x ∷ []; log = e; avoids = λ c high. (apart c b end low high, tt) }

-- one that failed
pub failed_below : (end b : ℕ) (x : List ℕ) (old new : List Event) → b < end → (new ≡ old) ⊎ (new ≡ old ++ Lost b x ∷ []) → WritesBelow end old new
failed_below end b x old new low e =
    ⊎_elim (λ same. subst (λ (l : List Event). WritesBelow end old l) (sym same) (none_below end old))
    (λ lost. record { more = Lost b x ∷ []; log = lost; avoids = λ c high. (apart c b end low high, tt) }) e

-- notices
pub noticed_below : (end : ℕ) (old new : List Event) → AddsNotices old new → WritesBelow end old new
noticed_below end old new adds = record { more = notices adds.tickets; log = adds.log; avoids = λ b high. notices_avoid b adds.tickets }

-- and then more, of blocks that are no higher
pub below_then : (low end : ℕ) (old mid new : List Event) → low ≤ end → WritesBelow end old mid → WritesBelow low mid new → WritesBelow end old new
below_then low end old mid new le one two = record {
  more = one.more ++ two.more;
  log = two.log ∙ ap (λ (l : List Event). l ++ two.more) one.log ∙ append_assoc old one.more two.more;
  avoids = λ b high. avoids_both b one.more two.more (one.avoids b high) (two.avoids b (omega (arith, le, high)));
}

-- blocks that are no higher than others
pub below_more : (low end : ℕ) (old new : List Event) → low ≤ end → WritesBelow low old new → WritesBelow end old new
below_more low end old new le one = record { more = one.more; log = one.log; avoids = λ b high. one.avoids b (omega (arith, le, high)) }
