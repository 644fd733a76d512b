-- Which blocks the events of a copying write, and what a crash may leave of a disk whose headers came last.
use Rattle.std.proofs.Common.{◌≡◌, ◌≢◌, ◌⊎◌, inl, inr, ⊎_elim, ℕ, zero, suc, ◌+◌, ◌-◌, ◌<◌, ◌≤◌, ◌==◌, List, [], ◌∷◌, ◌++◌, length, take, Result, Ok, Err, refl, sym, ◌∙◌, ap, subst, arith, append-nil, append_assoc}
use Rattle.std.proofs.Math.Seq.{take-append-add}
use Rattle.std.proofs.lemmas.Bool.{cases_lt, cond-false, ne_eqb}
use Rattle.std.proofs.lemmas.List.{take-append-le}
use Rattle.std.proofs.lemmas.Option.{none-some}
use Rattle.base_types.specs.Seal.{Blocks}
use Rattle.disk_contract.specs.declared.event.Event.{Event}
use Rattle.disk_contract.specs.declared.event.Event.TheVariants.{Wrote, Lost, Noticed}
use Rattle.disk_contract.specs.Cell.{Cell, Write, after_all, cell_of, from_ticket, notices, settle}
use Rattle.disk_contract.specs.Crash.{IsImage, MayHold}
use Rattle.disk_contract.specs.Disk.{AddsNotices, AddsWrite}
use Rattle.disk_contract.specs.Logs.{cell_of-append}
use Rattle.layout_journal.specs.declared.header.Header.{Header}
use Rattle.layout_journal.specs.Run.{Newest}
use Rattle.crash_record.specs.Laws.{HeadersNeedASize}
use Rattle.cmd_mirror.specs.Copies.{AreWithin, ComeInTurn, GrowsWithin, HeadersCameLast, HeadersComeLast}

-- Which blocks are written.

-- in more blocks
pub wider : (a b c d : ℕ) (es : List Event) → c ≤ a → b ≤ d → AreWithin a b es → AreWithin c d es
wider a b c d [] low high is = tt
wider a b c d (Wrote t x y ∷ es) low high is = (omega (arith, low, is.0), omega (arith, high, is.1), wider a b c d es low high is.2)
wider a b c d (Lost x y ∷ es) low high is = (omega (arith, low, is.0), omega (arith, high, is.1), wider a b c d es low high is.2)
wider a b c d (Noticed t ∷ es) low high is = wider a b c d es low high is

-- one list after the other
pub joined : (a b : ℕ) (xs ys : List Event) → AreWithin a b xs → AreWithin a b ys → AreWithin a b (xs ++ ys)
joined a b [] ys first more = more
joined a b (Wrote t x y ∷ xs) ys first more = (first.0, first.1, joined a b xs ys first.2 more)
joined a b (Lost x y ∷ xs) ys first more = (first.0, first.1, joined a b xs ys first.2 more)
joined a b (Noticed t ∷ xs) ys first more = joined a b xs ys first more

-- the first of them
taken : (a b k : ℕ) (es : List Event) → AreWithin a b es → AreWithin a b (take k es)
taken a b zero es is = tt
taken a b (suc k) [] is = tt
taken a b (suc k) (Wrote t x y ∷ es) is = (is.0, is.1, taken a b k es is.2)
taken a b (suc k) (Lost x y ∷ es) is = (is.0, is.1, taken a b k es is.2)
taken a b (suc k) (Noticed t ∷ es) is = taken a b k es is

notices_within : (a b : ℕ) (ts : List ℕ) → AreWithin a b (notices ts)
notices_within a b [] = tt
notices_within a b (t ∷ ts) = notices_within a b ts

-- a log that stays
pub grows_none : (a b : ℕ) (log : List Event) → GrowsWithin a b log log
grows_none a b log = record { more = []; log = sym (append-nil log); within = tt }

pub grows_wider : (a b c d : ℕ) (old new : List Event) → c ≤ a → b ≤ d → GrowsWithin a b old new → GrowsWithin c d old new
grows_wider a b c d old new low high g = record { more = g.more; log = g.log; within = wider a b c d g.more low high g.within }

-- and one that goes on once more
pub grows_on : (a b : ℕ) (old mid new : List Event) → GrowsWithin a b old mid → GrowsWithin a b mid new → GrowsWithin a b old new
grows_on a b old mid new one two = record {
  more = one.more ++ two.more;
  log = two.log ∙ ap (λ (l : List Event). l ++ two.more) one.log ∙ append_assoc old one.more two.more;
  within = joined a b one.more two.more one.within two.within;
}

-- by a write, accepted or lost
pub grows_wrote : {E : Type 0} (a b c : ℕ) (x : List ℕ) (r : Result ℕ E) (old new : List Event) → a ≤ c → c < b → AddsWrite c x r old new → GrowsWithin a b old new
grows_wrote a b c x (Ok t) old new low high adds = record { more = Wrote t c x ∷ []; log = adds.2; within = (low, high, tt) }
grows_wrote a b c x (Err e) old new low high adds =
    ⊎_elim (λ same. subst (GrowsWithin a b old) (sym same) (grows_none a b old)) (λ lost. record { more = Lost c x ∷ []; log = lost; within = (low, high, tt) }) adds

-- and by what a wait brings
pub grows_noticed : (a b : ℕ) (old new : List Event) → AddsNotices old new → GrowsWithin a b old new
grows_noticed a b old new adds = record { more = notices adds.tickets; log = adds.log; within = notices_within a b adds.tickets }

-- The other blocks.

-- a block with nothing pending, to which none of the events writes
rests : (a b c : ℕ) (d : Cell) (es : List Event) → (c < a) ⊎ (b ≤ c) → d.pending ≡ [] → AreWithin a b es → after_all c d es ≡ d
rests a b c d [] out idle is = refl
rests a b c d (Wrote t x y ∷ es) out idle is =
    ap (λ (e : Cell). after_all c e es) (cond-false (x == c) _ _ (ne_eqb x c (λ same. ⊎_elim (λ before. omega (arith, same, before, is.0)) (λ behind. omega (arith, same, behind, is.1)) out))) ∙ rests a b c d es out idle is.2
rests a b c d (Lost x y ∷ es) out idle is =
    ap (λ (e : Cell). after_all c e es) (cond-false (x == c) _ _ (ne_eqb x c (λ same. ⊎_elim (λ before. omega (arith, same, before, is.0)) (λ behind. omega (arith, same, behind, is.1)) out))) ∙ rests a b c d es out idle is.2
rests a b c d (Noticed t ∷ es) out idle is = ap (λ (ws : List Write). after_all c (settle d (from_ticket t ws)) es) idle ∙ rests a b c d es out idle is

-- and so behind a log
pub stays : (base : Blocks) (log more : List Event) (a b c : ℕ) → (c < a) ⊎ (b ≤ c) → (cell_of base log c).pending ≡ [] → AreWithin a b more → cell_of base (log ++ more) c ≡ cell_of base log c
stays base log more a b c out idle is = cell_of-append base log more c ∙ rests a b c (cell_of base log c) more out idle is

-- what a crash leaves of a block with nothing pending
leaves : (c : Cell) (x y : List ℕ) → c ≡ record { settled = y; pending = [] } → MayHold c x → x ≡ y
leaves c x y is holds = by (subst (λ (d : Cell). MayHold d x) is holds)
  where
    by : MayHold (record { settled = y; pending = [] }) x → x ≡ y
    by (inl same) = same
    by (inr (inl none)) = absurd none
    by (inr (inr none)) = absurd (omega (arith, none.0))

-- Moments.

-- the first of two lists one after the other: of the first list, or all of that and the first of the second
pub parted : (k : ℕ) (xs ys : List Event) → (take k (xs ++ ys) ≡ take k xs) ⊎ ((j : ℕ) × (take k (xs ++ ys) ≡ xs ++ take j ys))
parted k xs ys =
    ⊎_elim (λ below. inl (take-append-le k xs ys (omega (arith, below))))
    (λ past. let is : k ≡ length xs + (k - length xs) = omega (arith, past) in inr (k - length xs, ap (λ (n : ℕ). take n (xs ++ ys)) is ∙ take-append-add xs ys (k - length xs))) (cases_lt k (length xs))

-- The turn of the two blocks: only that with the newest header is written.
pub turn_alone : (n : ℕ) (at base : Blocks) (log more : List Event) → ((b : ℕ) → (cell_of base log b).pending ≡ []) → ((slot : ℕ) (h : Header) → Newest n at slot h → AreWithin slot (slot + 1) more) → ComeInTurn n at base log more
turn_alone n at base log more idle within slot h newest k = inl (stays base log (take k more) slot (slot + 1) (1 - slot) (beside slot newest.is_slot) (idle (1 - slot)) (taken slot (slot + 1) k more (within slot h newest)))
  where
    beside : (s : ℕ) → s < 2 → (1 - s < s) ⊎ (s + 1 ≤ 1 - s)
    beside zero low = inr (omega arith)
    beside (suc zero) low = inl (omega arith)
    beside (suc (suc s)) low = absurd (omega (arith, low))

-- then the other one, once it is durable
pub turn_both : (n : ℕ) (at base : Blocks) (log xs ys : List Event) (first : ℕ) → ((b : ℕ) → (cell_of base log b).pending ≡ []) → ((slot : ℕ) (h : Header) → Newest n at slot h → slot ≡ first) → AreWithin first (first + 1) xs → AreWithin (1 - first) ((1 - first) + 1) ys
    → cell_of base (log ++ xs) first ≡ record { settled = at first; pending = [] } → ComeInTurn n at base log (xs ++ ys)
turn_both n at base log xs ys first idle is_first one two durable slot h newest k = ⊎_elim early late (parted k xs ys)
  where
    same : slot ≡ first
    same = is_first slot h newest

    early : take k (xs ++ ys) ≡ take k xs → (cell_of base (log ++ take k (xs ++ ys)) (1 - slot) ≡ cell_of base log (1 - slot)) ⊎ (cell_of base (log ++ take k (xs ++ ys)) slot ≡ record { settled = at slot; pending = [] })
    early is =
        subst (λ (es : List Event). (cell_of base (log ++ es) (1 - slot) ≡ cell_of base log (1 - slot)) ⊎ (cell_of base (log ++ es) slot ≡ record { settled = at slot; pending = [] })) (sym is)
        (turn_alone n at base log xs idle (λ s i new. subst (λ (m : ℕ). AreWithin m (m + 1) xs) (sym (is_first s i new)) one) slot h newest k)

    out : (f : ℕ) → f < 2 → (f < 1 - f) ⊎ ((1 - f) + 1 ≤ f)
    out zero low = inl (omega arith)
    out (suc zero) low = inr (omega arith)
    out (suc (suc f)) low = absurd (omega (arith, low))

    late : (j : ℕ) × (take k (xs ++ ys) ≡ xs ++ take j ys) → (cell_of base (log ++ take k (xs ++ ys)) (1 - slot) ≡ cell_of base log (1 - slot)) ⊎ (cell_of base (log ++ take k (xs ++ ys)) slot ≡ record { settled = at slot; pending = [] })
    late p =
        let settled : cell_of base ((log ++ xs) ++ take p.0 ys) first ≡ record { settled = at first; pending = [] } =
        stays base (log ++ xs) (take p.0 ys) (1 - first) ((1 - first) + 1) first (out first (subst (λ (m : ℕ). m < 2) same newest.is_slot)) (ap (λ (c : Cell). c.pending) durable) (taken (1 - first) ((1 - first) + 1) p.0 ys two) ∙ durable in
        let here : cell_of base (log ++ take k (xs ++ ys)) first ≡ record { settled = at first; pending = [] } = ap (λ (es : List Event). cell_of base es first) (ap (λ (es : List Event). log ++ es) p.1 ∙ sym (append_assoc log xs (take p.0 ys))) ∙ settled in
        inr (subst (λ (m : ℕ). cell_of base (log ++ take k (xs ++ ys)) m ≡ record { settled = at m; pending = [] }) (sym same) here)

-- Crashes.

module _ (law : HeadersNeedASize) (n : ℕ) (at base : Blocks) where
  -- a disk with a header has some size
  sized : (slot : ℕ) (h : Header) → Newest n at slot h → 64 ≤ n
  sized slot h newest = ⊎_elim (λ small. absurd (none-some h (sym (law n (at slot) (inl small)) ∙ newest.stands))) (λ large. large) (cases_lt n 64)

  -- the blocks behind the headers alone were written
  none_came : (es : List Event) (img : Blocks) → AreWithin 2 n es → IsImage n base es img → HeadersCameLast n at base img
  none_came es img within image = record {
    behind = λ slot low differs b from_two below. absurd (differs (here slot low (omega (arith, from_two, below, low))));
    newer = λ slot h newest differs. absurd (differs (here (1 - slot) (omega (arith, newest.is_slot)) (omega (arith, sized slot h newest))));
  }
    where
      here : (slot : ℕ) → slot < 2 → slot < n → img slot ≡ base slot
      here slot low below = leaves (cell_of base es slot) (img slot) (base slot) (rests 2 n slot (record { settled = base slot; pending = [] }) es (inl low) refl within) (image slot below)

  -- a disk of fewer blocks than its headers take has none
  pub small_comes : (log : List Event) → n < 2 → HeadersComeLast n at base log
  small_comes log small k img image = record {
    behind = λ slot low differs b from_two below. absurd (omega (arith, small, from_two, below));
    newer = λ slot h newest differs. absurd (omega (arith, small, sized slot h newest));
  }

  module _ (front : List Event) (within : AreWithin 2 n front) where
    pub none_come : HeadersComeLast n at base front
    none_come k img image = none_came (take k front) img (taken 2 n k front within) image

    module _ (more : List Event) (copied : (b : ℕ) → 2 ≤ b → b < n → cell_of base front b ≡ record { settled = at b; pending = [] }) (last : AreWithin 0 2 more) (turn : ComeInTurn n at base front more) where
      -- those blocks all are copied, and of the events behind so many have come
      some_came : (j : ℕ) (img : Blocks) → IsImage n base (front ++ take j more) img → HeadersCameLast n at base img
      some_came j img image = record {
        behind = λ slot low differs b from_two below.
            leaves (cell_of base (front ++ take j more) b) (img b) (at b)
            (stays base front (take j more) 0 2 b (inr from_two) (ap (λ (c : Cell). c.pending) (copied b from_two below)) (taken 0 2 j more last) ∙ copied b from_two below) (image b below);
        newer = λ slot h newest differs.
            ⊎_elim (λ same. absurd (differs (leaves (cell_of base (front ++ take j more) (1 - slot)) (img (1 - slot)) (base (1 - slot)) (same ∙ rests 2 n (1 - slot) (record { settled = base (1 - slot); pending = [] }) front (inl (omega (arith, newest.is_slot))) refl within)
            (image (1 - slot) (omega (arith, sized slot h newest))))))
            (λ durable. leaves (cell_of base (front ++ take j more) slot) (img slot) (at slot) durable (image slot (omega (arith, newest.is_slot, sized slot h newest)))) (turn slot h newest j);
      }

      pub some_come : HeadersComeLast n at base (front ++ more)
      some_come k img image =
          ⊎_elim (λ is. none_came (take k front) img (taken 2 n k front within) (subst (λ (es : List Event). IsImage n base es img) is image))
          (λ p. some_came p.0 img (subst (λ (es : List Event). IsImage n base es img) p.1 image)) (parted k front more)
