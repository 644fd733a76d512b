-- The bytes of live blocks as the pipeline's calls go on: the steps that make no write leave them by the map, and what is written goes to blocks that have a newest payload.
use Rattle.std.proofs.Common.{◌≡◌, ⊎_elim, ℕ, ◌-◌, ◌==◌, Bool, true, false, if◌then◌else◌, List, [], ◌∷◌, ◌++◌, map, slice_get, Option, Some, None, Result, Ok, Err, Contains, refl, sym, ◌∙◌, ap, subst, arith, append_assoc, append-nil}
use Rattle.std.proofs.lemmas.Bool.Decides.{nat_tests}
use Rattle.std.specs.Bool.{⊤}
use Rattle.std.proofs.lemmas.Bool.{eqb-true}
use Rattle.std.proofs.lemmas.Option.{none-some}
use Rattle.std.proofs.lemmas.List.Elements.{Contains-push, Contains-append_left, Contains-append_right, Contains-append_cases}
use Rattle.base_types.specs.Seal.{Blocks}
use Rattle.disk_contract.specs.declared.event.Event.{Event}
use Rattle.disk_contract.specs.declared.event.Event.TheVariants.{Wrote, Lost, Noticed}
use Rattle.disk_contract.specs.Cell.{accepted, accepted_from, is_lost, is_lost_from, notices}
use Rattle.disk_contract.specs.Disk.{State}
use Rattle.disk_contract.specs.Logs.{accepted_from-append as accepted_on}
use Rattle.layout_journal.specs.Ring.{RingPlaces}
use Rattle.layout_journal.specs.Run.{otherwise}
use Rattle.layout_journal.specs.Spelling.{header_block}
use Rattle.crash_argument.specs.Ledger.{Ledger, issued, next_number}
use Rattle.engine_running.specs.declared.put.Put.{Put}
use Rattle.engine_running.specs.Writes.{fresh_write}
use Rattle.engine_checkpoint.specs.declared.pipeline.Pipeline.{Pipeline}
use Rattle.engine_checkpoint.specs.Adds.{LosesFront}
use Rattle.engine_checkpoint.specs.Advance.{Turned}
use Rattle.engine_checkpoint.specs.Batch.{IsHomeRow}
use Rattle.engine_checkpoint.specs.Bytes.{bytes_now, HasNewest, IsLiveNow, LeavesBytes}
use Rattle.engine_checkpoint.specs.Kept.{kept, newest_in, of_sure}
use Rattle.engine_checkpoint.specs.Turns.{AddsBatch, AddsHeader, due_header}
use Rattle.engine_checkpoint.proofs.Added.{loses_none, newest_before, get_write}
use Rattle.engine_checkpoint.proofs.BatchRows.{put_at}
use Rattle.engine_checkpoint.proofs.CalmBlocks.{lost_on, live_from}
use Rattle.engine_checkpoint.proofs.Settled.{turned_same}
use Rattle.engine_checkpoint.proofs.EventRows.{Adds, none_in, adds_none, adds_one, adds_notices, adds_writes, adds_front}

-- What events say of a block that none of them touches.

none_behind : (e : Event) (more : List Event) (f : Event) → ¬ Contains (e ∷ more) f → ¬ Contains more f
none_behind e more f none there = none (Contains-append_right (e ∷ []) more f there)

is_first : (e : Event) (more : List Event) → Contains (e ∷ more) e
is_first e more = Contains-append_left (e ∷ []) more e (Contains-push [] e)

-- without an accepted write to the block the last accepted bytes stay
accepted_stays : (b : ℕ) (more : List Event) → ((t : ℕ) (y : List ℕ) → ¬ Contains more (Wrote t b y)) → (x : List ℕ) → accepted_from b x more ≡ x
accepted_stays b [] none x = refl
accepted_stays b (Wrote t c y ∷ more) none x = by (c == b) refl (accepted_stays b more (λ u z. none_behind (Wrote t c y) more (Wrote u b z) (none u z)) x)
  where
    by : (v : Bool) → (c == b) ≡ v → accepted_from b x more ≡ x → accepted_from b (if v then y else x) more ≡ x
    by true same on = absurd (none t y (subst (λ d. Contains (Wrote t c y ∷ more) (Wrote t d y)) (eqb-true c b same) (is_first (Wrote t c y) more)))
    by false other on = on
accepted_stays b (Lost c y ∷ more) none x = accepted_stays b more (λ u z. none_behind (Lost c y) more (Wrote u b z) (none u z)) x
accepted_stays b (Noticed t ∷ more) none x = accepted_stays b more (λ u z. none_behind (Noticed t) more (Wrote u b z) (none u z)) x

-- without a lost one none is lost
lost_stays : (b : ℕ) (more : List Event) → ((y : List ℕ) → ¬ Contains more (Lost b y)) → (lost : Bool) → lost ≡ false → is_lost_from b lost more ≡ false
lost_stays b [] none lost calm = calm
lost_stays b (Wrote t c y ∷ more) none lost calm = lost_stays b more (λ z. none_behind (Wrote t c y) more (Lost b z) (none z)) (if c == b then false else lost) (by (c == b))
  where
    by : (v : Bool) → (if v then false else lost) ≡ false
    by true = refl
    by false = calm
lost_stays b (Lost c y ∷ more) none lost calm = by (c == b) refl (lost_stays b more (λ z. none_behind (Lost c y) more (Lost b z) (none z)) lost calm)
  where
    by : (v : Bool) → (c == b) ≡ v → is_lost_from b lost more ≡ false → is_lost_from b (if v then true else lost) more ≡ false
    by true same on = absurd (none y (subst (λ d. Contains (Lost c y ∷ more) (Lost d y)) (eqb-true c b same) (is_first (Lost c y) more)))
    by false other on = on
lost_stays b (Noticed t ∷ more) none lost calm = lost_stays b more (λ z. none_behind (Noticed t) more (Lost b z) (none z)) lost calm

-- What is written goes to blocks that have a newest payload, where they are live.

-- the event is no write of a live block that has no newest payload
abbrev pub Covered : Ledger → Pipeline → Event → Type 0
Covered l v (Wrote t b x) = IsLiveNow l b → HasNewest v b
Covered l v (Lost b x) = IsLiveNow l b → HasNewest v b
Covered l v (Noticed t) = ⊤

has_before : (v w : Pipeline) → LosesFront (kept v) (kept w) → (b : ℕ) → HasNewest w b → HasNewest v b
has_before v w front b has = (has.0, newest_before front.count (kept v) b has.0 (ap (λ ks. newest_in None ks b) (sym front.rest) ∙ has.1))

live_turned : (l k : Ledger) → Turned l k → (b : ℕ) → IsLiveNow l b → IsLiveNow k b
live_turned l k turned b lives = rw turned.geom (rw turned.map_before (rw turned.next lives))

module _ (l k : Ledger) (turned : Turned l k) (v w y : Pipeline) (a d e : State) (front : LosesFront (kept v) (kept w)) (base : e.base ≡ d.base) (same : kept y ≡ kept w) (adds : Adds (Covered k w) d.log e.log) (was : LeavesBytes l v w a d) where
  bare : (b : ℕ) → newest_in None (kept w) b ≡ None → ¬ HasNewest w b
  bare b none has = none-some has.0 (sym none ∙ has.1)

  none_wrote : (b : ℕ) → IsLiveNow l b → newest_in None (kept w) b ≡ None → (t : ℕ) (x : List ℕ) → ¬ Contains adds.more (Wrote t b x)
  none_wrote b lives none t x there = bare b none (adds.each (Wrote t b x) there (live_turned l k turned b lives))

  none_lost : (b : ℕ) → IsLiveNow l b → newest_in None (kept w) b ≡ None → (x : List ℕ) → ¬ Contains adds.more (Lost b x)
  none_lost b lives none x there = bare b none (adds.each (Lost b x) there (live_turned l k turned b lives))

  bytes_on : (b : ℕ) → IsLiveNow l b → bytes_now y e.base e.log b ≡ bytes_now w d.base d.log b
  bytes_on b lives = ap (λ ks. otherwise (newest_in None ks b) (accepted e.base e.log b)) same ∙ by (newest_in None (kept w) b) refl
    where
      by : (o : Option (List ℕ)) → newest_in None (kept w) b ≡ o → otherwise o (accepted e.base e.log b) ≡ otherwise o (accepted d.base d.log b)
      by (Some x) is = refl
      by None is = ap (λ (m : Blocks). accepted_from b (m b) e.log) base ∙ ap (accepted_from b (d.base b)) adds.log ∙ accepted_on b (d.base b) d.log adds.more ∙ accepted_stays b adds.more (none_wrote b lives is) (accepted d.base d.log b)

  calm_on : (b : ℕ) → IsLiveNow l b → newest_in None (kept y) b ≡ None → is_lost b e.log ≡ false
  calm_on b lives none =
      let none_then = ap (λ ks. newest_in None ks b) (sym same) ∙ none in
      ap (is_lost b) adds.log ∙ lost_on b false d.log adds.more ∙ lost_stays b adds.more (none_lost b lives none_then) (is_lost b d.log) (was.calm b lives none_then)

  -- writes that are covered, behind a call, while the records stay
  pub leaves_on : LeavesBytes l v y a e
  leaves_on = record {
    more = was.more ++ adds.more;
    log = adds.log ∙ ap (λ xs. xs ++ adds.more) was.log ∙ append_assoc a.log was.more adds.more;
    bytes = λ b lives. bytes_on b lives ∙ was.bytes b lives;
    wrote = λ t b x there lives. ⊎_elim (λ h. was.wrote t b x h lives) (λ h. has_before v w front b (adds.each (Wrote t b x) h (live_turned l k turned b lives))) (Contains-append_cases was.more adds.more (Wrote t b x) there);
    calm = calm_on;
  }

-- Calls one after the other.

-- nothing is done while all is right
pub leaves_none : (l : Ledger) (v : Pipeline) (d : State) → ((b : ℕ) → IsLiveNow l b → is_lost b d.log ≡ false) → LeavesBytes l v v d d
leaves_none l v d calm = record { more = []; log = sym (append-nil d.log); bytes = λ b lives. refl; wrote = λ t b x there lives. absurd (none_in (Wrote t b x) there); calm = λ b lives none. calm b lives }

-- a call behind another
pub leaves_then : (l k : Ledger) → Turned l k → (v w y : Pipeline) (a d e : State) → LosesFront (kept v) (kept w) → LeavesBytes l v w a d → LeavesBytes k w y d e → LeavesBytes l v y a e
leaves_then l k turned v w y a d e front one two = record {
  more = one.more ++ two.more;
  log = two.log ∙ ap (λ xs. xs ++ two.more) one.log ∙ append_assoc a.log one.more two.more;
  bytes = λ b lives. two.bytes b (live_turned l k turned b lives) ∙ one.bytes b lives;
  wrote = λ t b x there lives. ⊎_elim (λ h. one.wrote t b x h lives) (λ h. has_before v w front b (two.wrote t b x h (live_turned l k turned b lives))) (Contains-append_cases one.more two.more (Wrote t b x) there);
  calm = λ b lives none. two.calm b (live_turned l k turned b lives) none;
}

-- no record leaves, and nothing is written
pub leaves_same : (l : Ledger) (v w y : Pipeline) (a d : State) → LosesFront (kept v) (kept w) → kept y ≡ kept w → LeavesBytes l v w a d → LeavesBytes l v y a d
leaves_same l v w y a d front same was = leaves_on l l (turned_same l) v w y a d d front refl same (adds_none (Covered l w) d.log d.log refl) was

-- notices, while all is right
pub leaves_noticed : (l : Ledger) (v w : Pipeline) (d e : State) (ts : List ℕ) → ((b : ℕ) → IsLiveNow l b → is_lost b d.log ≡ false) → w ≡ record v { notes = w.notes } → e.base ≡ d.base → e.log ≡ d.log ++ notices ts → LeavesBytes l v w d e
leaves_noticed l v w d e ts calm rest base log = leaves_on l l (turned_same l) v v w d d e (loses_none (kept v) (kept v) refl) base (ap kept rest) (adds_notices (Covered l v) (λ t. tt) ts d.log e.log log) (leaves_none l v d calm)

-- The steps that make no write.

module _ (d : State) (l k : Ledger) (turned : Turned l k) (v w : Pipeline) (front : LosesFront (kept v) (kept w))
    (payload : (b : ℕ) (x : List ℕ) → IsLiveNow l b → newest_in None (kept v) b ≡ Some x → l.map_before (next_number l) b ≡ x)
    (payload_then : (b : ℕ) (x : List ℕ) → IsLiveNow k b → newest_in None (kept w) b ≡ Some x → k.map_before (next_number k) b ≡ x)
    (written_then : (b : ℕ) → IsLiveNow k b → newest_in None (kept w) b ≡ None → k.map_before (next_number k) b ≡ issued d.base d.log b)
    (calm : (b : ℕ) → IsLiveNow l b → is_lost b d.log ≡ false) (last : (b : ℕ) → is_lost b d.log ≡ false → accepted d.base d.log b ≡ issued d.base d.log b) where
  map_same : (b : ℕ) → k.map_before (next_number k) b ≡ l.map_before (next_number l) b
  map_same b = ap (λ (m : ℕ → Blocks). m (next_number k) b) turned.map_before ∙ ap (λ n. l.map_before n b) turned.next

  -- a payload that left with its record is at its block
  forward_bytes : (b : ℕ) → IsLiveNow l b → bytes_now w d.base d.log b ≡ bytes_now v d.base d.log b
  forward_bytes b lives = by (newest_in None (kept v) b) (newest_in None (kept w) b) refl refl
    where
      by : (o p : Option (List ℕ)) → newest_in None (kept v) b ≡ o → newest_in None (kept w) b ≡ p → otherwise p (accepted d.base d.log b) ≡ otherwise o (accepted d.base d.log b)
      by None None was is = refl
      by None (Some x) was is = let r = has_before v w front b (x, is) in absurd (none-some r.0 (sym was ∙ r.1))
      by (Some y) (Some x) was is = sym (payload_then b x (live_turned l k turned b lives) is) ∙ map_same b ∙ payload b y lives was
      by (Some y) None was is = last b (calm b lives) ∙ sym (written_then b (live_turned l k turned b lives) is) ∙ map_same b ∙ payload b y lives was

  pub leaves_forward : LeavesBytes l v w d d
  leaves_forward = grind (arith, nat_tests, append-nil, forward_bytes, none_in)

-- The writes of a batch and of a header.

pub batch_covered : {A E : Type 0} (due : Bool) (r : Result A E) (l : Ledger) (w x : Pipeline) (old new : List Event) → AddsBatch due r w x old new → (due ≡ true → (b : ℕ) (z : List ℕ) → newest_in None (map of_sure w.sure.items) b ≡ Some z → IsLiveNow l b → HasNewest w b) → Adds (Covered l w) old new
batch_covered due r l w x old new adds lives = by due r adds lives
  where
    each : (row : List Put) → IsHomeRow (map of_sure w.sure.items) row → ((b : ℕ) (z : List ℕ) → newest_in None (map of_sure w.sure.items) b ≡ Some z → IsLiveNow l b → HasNewest w b)
        → (k : ℕ) (u : ℕ × List ℕ) → slice_get (map fresh_write row) k ≡ Some u → IsLiveNow l u.0 → HasNewest w u.0
    each row home lives k u is = let g = get_write row k u is in subst (λ (p : ℕ × List ℕ). IsLiveNow l p.0 → HasNewest w p.0) g.2 (lives g.0.block g.0.bytes (sym (home.each g.0.block) ∙ put_at row home.rising k g.0 g.1))

    by : {A E : Type 0} (due : Bool) (r : Result A E) → AddsBatch due r w x old new → (due ≡ true → (b : ℕ) (z : List ℕ) → newest_in None (map of_sure w.sure.items) b ≡ Some z → IsLiveNow l b → HasNewest w b) → Adds (Covered l w) old new
    by true (Ok a) adds lives = adds_writes (Covered l w) (map fresh_write adds.0) adds.2.0 old new (λ t k u is. each adds.0 adds.1 (lives refl) k u is) adds.2.2
    by true (Err e) adds lives = adds_front (Covered l w) (map fresh_write adds.0) old new (λ t k u is. each adds.0 adds.1 (lives refl) k u is) (λ k u is. each adds.0 adds.1 (lives refl) k u is) adds.2
    by false r same lives = adds_none (Covered l w) old new same

-- live blocks lie behind the headers
header_dead : (l : Ledger) (w : Pipeline) (slot : ℕ) → IsLiveNow l (1 - slot) → HasNewest w (1 - slot)
header_dead l w slot lives = let from = live_from l (1 - slot) lives in absurd (omega (arith, from))

pub header_covered : {A E : Type 0} (due : Bool) (r : Result A E) (l : Ledger) (w x y : Pipeline) (ring : RingPlaces) (old new : List Event) → AddsHeader due r x y ring old new → Adds (Covered l w) old new
header_covered true (Ok a) l w x y ring old new adds = adds_one (Covered l w) old new (Wrote adds.0.ticket (1 - x.slot) (header_block (due_header x ring))) adds.2.2 (header_dead l w x.slot)
header_covered true (Err e) l w x y ring old new adds = ⊎_elim (λ same. adds_none (Covered l w) old new same) (λ log. adds_one (Covered l w) old new (Lost (1 - x.slot) (header_block (due_header x ring))) log (header_dead l w x.slot)) adds
header_covered false r l w x y ring old new same = adds_none (Covered l w) old new same
