-- What a sync leaves of the blocks that its transaction freed: they wait for the new point.
use Rattle.std.proofs.Common.{◌≡◌, inl, ℕ, ◌+◌, ◌-◌, ◌&&◌, ◌||◌, nat_le, nat_lt, not, Bool, true, false, if◌then◌else◌, ◌++◌, map, is_some, Option, Some, None, option_map, Result, Ok, Err, OnOk, refl, sym, ◌∙◌, ap, ap₂, subst, arith}
use Rattle.std.proofs.lemmas.Bool.{and_parts, false≢true, le-leb, leb-true, lt-ltb, ltb-true, and_right, false_from_ne_true, not-false, or_left, or_right}
use Rattle.layout_geometry.specs.Geometry.{Geometry, data_start}
use Rattle.layout_journal.specs.Ring.{RingPlaces}
use Rattle.engine_reuse.specs.Calls.{with_sealed}
use Rattle.engine_reuse.specs.Dead.{DeadBlocks, block_of, dead_blocks}
use Rattle.engine_reuse.specs.Numbers.{is_among}
use Rattle.engine_checkpoint.specs.declared.pipeline.Pipeline.{Pipeline}
use Rattle.engine_blocks.specs.Puts.{IsData}
use Rattle.engine_blocks.specs.Serving.{EndsFrees, LetsGo, SameFreed, is_held, with_all_served}
use Rattle.engine_blocks.specs.State.{Bookkeeping, State}
use Rattle.engine_books.specs.Books.{TransactionBooks, bit_now}
use Rattle.engine_books.specs.Kept.{AreKept}
use Rattle.engine_store.specs.declared.parts.StoreParts.{StoreParts}
use Rattle.engine_store.specs.Committing.{BecomesRecord}
use Rattle.engine_store.specs.Store.{bookkeeping_of, point_of, waits_for}
use Rattle.engine_store.specs.Syncing.{LetsWait, FreesInRing, SyncFrees}
use Rattle.engine_store.proofs.ServingBlocks.{HeldLaw, waits_none}
use Rattle.engine_store.proofs.WaitingBlocks.{all_wait, dead_is, first_waits, none_among, then_waits}

-- Held blocks.

-- what is so of a held block
pub record Held (k : Bookkeeping) (b : ℕ) : Type 0 where
  pub lies : IsData k.geom b
  pub unmarked : k.marked b ≡ false
  pub not_reusable : k.reusable b ≡ false
  pub not_waiting : k.since b ≡ None

none_of : (x y : Bool) (o : Option ℕ) → not (x || (y || is_some o)) ≡ true → (x ≡ false) × (y ≡ false) × (o ≡ None)
none_of x y o e = grind (arith, e)

held_parts : (k : Bookkeeping) (b : ℕ) → is_held k b ≡ true → Held k b
held_parts k b is =
    let one = and_parts (nat_le (data_start k.geom) b) (nat_lt b k.geom.n && not (k.marked b || (k.reusable b || is_some (k.since b)))) is in
    let two = and_parts (nat_lt b k.geom.n) (not (k.marked b || (k.reusable b || is_some (k.since b)))) one.1 in
    let three = none_of (k.marked b) (k.reusable b) (k.since b) two.1 in
    record { lies = record { from = leb-true (data_start k.geom) b one.0; below = ltb-true b k.geom.n two.0 }; unmarked = three.0; not_reusable = three.1; not_waiting = three.2 }

-- a data block is held where none of the three is so
pub held_if : (k : Bookkeeping) (b : ℕ) → IsData k.geom b → k.marked b ≡ false → k.reusable b ≡ false → k.since b ≡ None → is_held k b ≡ true
held_if k b at unmarked not_reusable not_waiting =
    ap₂ (λ x y. x && (y && not (k.marked b || (k.reusable b || is_some (k.since b))))) (le-leb (data_start k.geom) b at.from) (lt-ltb b k.geom.n at.below)
    ∙ ap₂ (λ x y. not (x || (y || is_some (k.since b)))) unmarked not_reusable ∙ ap (λ (o : Option ℕ). not (is_some o)) not_waiting

-- two bookkeepings that know the same of a data block
held_same : (k j : Bookkeeping) (b : ℕ) → j.geom ≡ k.geom → j.marked ≡ k.marked → j.reusable b ≡ k.reusable b → j.since b ≡ k.since b → is_held j b ≡ is_held k b
held_same k j b geom marked reusable since =
    ap (λ (g : Geometry). nat_le (data_start g) b && (nat_lt b g.n && not (j.marked b || (j.reusable b || is_some (j.since b))))) geom
    ∙ ap (λ (f : ℕ → Bool). nat_le (data_start k.geom) b && (nat_lt b k.geom.n && not (f b || (j.reusable b || is_some (j.since b))))) marked
    ∙ ap₂ (λ (x : Bool) (o : Option ℕ). nat_le (data_start k.geom) b && (nat_lt b k.geom.n && not (k.marked b || (x || is_some o)))) reusable since

-- what a transaction lets go over one bookkeeping it does over another that knows the same
pub lets_from : (k j new : Bookkeeping) → SameFreed k j → j.geom ≡ k.geom → j.marked ≡ k.marked → LetsWait j new → LetsWait k new
lets_from k j new same geom marked l = record {
  held = λ b is. let h = held_parts k b is in l.held b (held_same k j b geom marked (same.reusable b h.lies) (same.since b h.lies) ∙ is);
  reusable = λ b at is. l.reusable b (there b at) (held_same k j b geom marked (same.reusable b at) (same.since b at) ∙ is) ∙ same.reusable b at;
  since = λ b at is. l.since b (there b at) (held_same k j b geom marked (same.reusable b at) (same.since b at) ∙ is) ∙ same.since b at;
}
  where
    there : (b : ℕ) → IsData k.geom b → IsData j.geom b
    there b at = subst (λ (g : Geometry). IsData g b) (sym geom) at

-- A commit.

only : (x y z : Bool) → x ≡ false → z ≡ false → (x || (y || z)) ≡ true → y ≡ true
only x y z e f g = grind (arith, e, f, g)

module _ (v : StoreParts) (w : TransactionBooks) (q : Pipeline) (ring : RingPlaces) (number : ℕ) (kept : AreKept v.books) (held_law : HeldLaw) (next : number ≡ v.first + v.point) (becomes : BecomesRecord number v.books w v.pipeline q ring) (parts : StoreParts) (books : parts.books ≡ w) (first : parts.first ≡ v.first) (point : parts.point ≡ v.point + 1) where
  dead : DeadBlocks
  dead = v.books.dead

  dead_then : parts.books.dead ≡ with_sealed v.books.dead number
  dead_then = ap (λ (x : TransactionBooks). x.dead) books ∙ ap (λ (x : TransactionBooks). x.dead) becomes.books

  since_then : (b : ℕ) → (bookkeeping_of parts).since b ≡ option_map (point_of v.first) (waits_for (v.books.dead.waiting ++ map (λ x. (x, number)) v.books.dead.held) b)
  since_then b = ap₂ (λ (f : ℕ) (x : DeadBlocks). option_map (point_of f) (waits_for x.waiting b)) first dead_then

  -- what the transaction freed are the held blocks
  is_dead : (b : ℕ) → Held (bookkeeping_of v) b → is_among b (dead_blocks v.books.dead) ≡ true
  is_dead b h = not-false (is_among b (dead_blocks v.books.dead)) (sym (kept.bits.same b (record { from = h.lies.from; below = h.lies.below })) ∙ ap (λ x. x && bit_now v.books b) (sym (lt-ltb b v.books.geom.n h.lies.below)) ∙ h.unmarked)

  among_held : (b : ℕ) → Held (bookkeeping_of v) b → is_among b v.books.dead.held ≡ true
  among_held b h = only (is_among b v.books.dead.reusable) (is_among b v.books.dead.held) (is_among b (map block_of v.books.dead.waiting)) h.not_reusable (none_among v.books.dead.waiting b (waits_none v.first (waits_for v.books.dead.waiting b) h.not_waiting)) (sym (dead_is v.books.dead b) ∙ is_dead b h)

  -- and the others aren't
  held_only : (b : ℕ) → IsData (bookkeeping_of v).geom b → (bookkeeping_of v).since b ≡ None → is_held (bookkeeping_of v) b ≡ false → is_among b v.books.dead.held ≡ false
  held_only b at none not_held = false_from_ne_true (is_among b v.books.dead.held) (λ e. false≢true (sym not_held ∙ held_if (bookkeeping_of v) b at (and_right (nat_lt b v.books.geom.n) (bit_now v.books b) (bit e)) (held_law v.books.dead b kept.sound e) none))
    where
      bit : is_among b v.books.dead.held ≡ true → bit_now v.books b ≡ false
      bit e = kept.bits.same b (record { from = at.from; below = at.below }) ∙ ap not (dead_is v.books.dead b ∙ or_right (is_among b v.books.dead.reusable) _ (or_left (is_among b v.books.dead.held) (is_among b (map block_of v.books.dead.waiting)) e))

  pub lets_wait : LetsWait (bookkeeping_of v) (bookkeeping_of parts)
  lets_wait = record {
    held = λ b is.
        let h = held_parts (bookkeeping_of v) b is in (
          ap (λ (x : DeadBlocks). is_among b x.reusable) dead_then ∙ h.not_reusable,
          since_then b ∙ ap (option_map (point_of v.first)) (then_waits v.books.dead.waiting (map (λ x. (x, number)) v.books.dead.held) b (waits_none v.first (waits_for v.books.dead.waiting b) h.not_waiting) ∙ all_wait v.books.dead.held b number)
              ∙ ap (λ (t : Bool). option_map (point_of v.first) (if t then Some number else None)) (among_held b h) ∙ ap Some (own number v.first v.point next ∙ sym point),
        );
    reusable = λ b at is. ap (λ (x : DeadBlocks). is_among b x.reusable) dead_then;
    since = λ b at is. since_then b ∙ ap (option_map (point_of v.first)) (by b at is (waits_for v.books.dead.waiting b) refl);
  }
    where
      own : (n f p : ℕ) → n ≡ f + p → n + 1 - f ≡ p + 1
      own n f p e = omega (arith, e)

      by : (b : ℕ) → IsData (bookkeeping_of v).geom b → is_held (bookkeeping_of v) b ≡ false → (o : Option ℕ) → waits_for v.books.dead.waiting b ≡ o → waits_for (v.books.dead.waiting ++ map (λ x. (x, number)) v.books.dead.held) b ≡ waits_for v.books.dead.waiting b
      by b at is (Some r) some = first_waits v.books.dead.waiting (map (λ x. (x, number)) v.books.dead.held) b r some ∙ sym some
      by b at is None none = then_waits v.books.dead.waiting (map (λ x. (x, number)) v.books.dead.held) b none ∙ all_wait v.books.dead.held b number
          ∙ ap (λ (t : Bool). if t then Some number else None) (held_only b at (ap (option_map (point_of v.first)) none) is) ∙ sym none

-- As the contract of maps of blocks says it.

lets_go : (k : Bookkeeping) (new : State) → LetsWait k new.books → LetsGo k new
lets_go k new l = record { held = λ b is. inl (l.held b is); reusable = l.reusable; since = l.since }

pub ends_frees : (old new : State) → SyncFrees old.books new.books → EndsFrees old new
ends_frees old new s = record { idle = s.idle; fits = λ more fits. lets_go old.books new ((s.frees more).fits fits); drains = λ more not_fits. lets_go (with_all_served old.books) new ((s.frees more).drains not_fits) }

-- with nothing to commit all is as it was
pub frees_none : (k new : Bookkeeping) → new ≡ k → k.running.weight ≡ 0 → SyncFrees k new
frees_none k new same none = record { idle = λ e. record { reusable = λ b at. ap (λ (x : Bookkeeping). x.reusable b) same; since = λ b at. ap (λ (x : Bookkeeping). x.since b) same }; frees = λ more. absurd (omega (arith, more, none)) }

pub frees_some : (k new : Bookkeeping) → (k.running.weight ≡ 0 → ⊥) → FreesInRing k new → SyncFrees k new
frees_some k new some frees = record { idle = λ none. absurd (some none); frees = λ more. frees }

-- a call behind the sync that leaves what may be taken, what waits and the point
lets_still : (k mid new : Bookkeeping) → new.reusable ≡ mid.reusable → new.since ≡ mid.since → new.point ≡ mid.point → LetsWait k mid → LetsWait k new
lets_still k mid new reusable since point l = record {
  held = λ b is. let h = l.held b is in (ap (λ (f : ℕ → Bool). f b) reusable ∙ h.0, ap (λ (f : ℕ → Option ℕ). f b) since ∙ h.1 ∙ ap Some (sym point));
  reusable = λ b at is. ap (λ (f : ℕ → Bool). f b) reusable ∙ l.reusable b at is;
  since = λ b at is. ap (λ (f : ℕ → Option ℕ). f b) since ∙ l.since b at is;
}

pub frees_still : (k mid new : Bookkeeping) → new.reusable ≡ mid.reusable → new.since ≡ mid.since → new.point ≡ mid.point → SyncFrees k mid → SyncFrees k new
frees_still k mid new reusable since point s = record {
  idle = λ none. let i = s.idle none in record { reusable = λ b at. ap (λ (f : ℕ → Bool). f b) reusable ∙ i.reusable b at; since = λ b at. ap (λ (f : ℕ → Option ℕ). f b) since ∙ i.since b at };
  frees = λ more. let f = s.frees more in record { fits = λ fits. lets_still k mid new reusable since point (f.fits fits); drains = λ not_fits. lets_still (with_all_served k) mid new reusable since point (f.drains not_fits) };
}

-- the parts behind a wait for records
pub waited_still : (v w : StoreParts) → w.books ≡ v.books → w.first ≡ v.first → w.point ≡ v.point → ((bookkeeping_of w).reusable ≡ (bookkeeping_of v).reusable) × ((bookkeeping_of w).since ≡ (bookkeeping_of v).since) × ((bookkeeping_of w).point ≡ (bookkeeping_of v).point)
waited_still v w books first point = (
  ap (λ (x : TransactionBooks). λ b. is_among b x.dead.reusable) books,
  ap₂ (λ (f : ℕ) (x : TransactionBooks). λ b. option_map (point_of f) (waits_for x.dead.waiting b)) first books,
  point,
)

pub on_ok : {A E : Type 0} {P Q : Type 0} (r : Result A E) → OnOk r P → (P → Q) → OnOk r Q
on_ok (Ok a) p f = f p
on_ok (Err e) p f = tt
