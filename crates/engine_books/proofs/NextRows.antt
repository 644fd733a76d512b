-- Rows of puts as the entries of a record.
use Rattle.std.proofs.Common.{◌≡◌, ℕ, zero, suc, ◌+◌, ◌<◌, ◌≤◌, ◌==◌, Bool, true, false, not, ◌&&◌, List, [], ◌∷◌, map, slice_get, Some, is_some, IsTrue, refl, ap, ap₂, subst, ◌∙◌, arith}
use Rattle.std.proofs.lemmas.Bool.{cond-true, cond-false, le-leb, lt-ltb, ne_eqb, eq-eqb}
use Rattle.std.proofs.lemmas.Option.{none-some, same_Some}
use Rattle.layout_geometry.specs.Geometry.{Geometry, LiesIn, bitmap_start, data_start}
use Rattle.layout_geometry.specs.Geometry.Area.{Data}
use Rattle.layout_journal.specs.declared.entry.Entry.{Entry}
use Rattle.layout_journal.specs.Run.{are_ascending, are_fresh, entries_fit, names_block}
use Rattle.engine_running.specs.declared.put.Put.{Put}
use Rattle.engine_running.specs.Rows.{IsRising, put_of}
use Rattle.engine_running.specs.Record.{payload_entry, fresh_entry, record_of}
use Rattle.engine_books.specs.Books.{has_put}
use Rattle.engine_books.proofs.Rows.{rising_tail, rising_head}

-- each entry is of its put's block
abbrev pub SameBlocks : (Put → Entry) → Type 0
SameBlocks f = (p : Put) → (f p).block ≡ p.block

pub both : {a b : Bool} → a ≡ true → b ≡ true → (a && b) ≡ true
both e f = ap₂ (λ x y. x && y) e f

-- the bytes of a put that stands in a row
pub put_at : (row : List Put) → IsRising row → (k : ℕ) (p : Put) → slice_get row k ≡ Some p → put_of p.block row ≡ Some p.bytes
put_at [] rising k p is = absurd (none-some p is)
put_at (q ∷ qs) rising zero p is = subst (λ (r : Put). put_of r.block (q ∷ qs) ≡ Some r.bytes) (same_Some q p is) (cond-true (q.block == q.block) (Some q.bytes) (put_of q.block qs) (eq-eqb q.block q.block refl))
put_at (q ∷ qs) rising (suc k) p is =
    cond-false (q.block == p.block) (Some q.bytes) (put_of p.block qs) (ne_eqb q.block p.block (λ e. omega (arith, e, rising_head q qs rising k p is)))
    ∙ put_at qs (rising_tail q qs rising) k p is

pub has_it : (row : List Put) → IsRising row → (k : ℕ) (p : Put) → slice_get row k ≡ Some p → has_put p.block row ≡ true
has_it row rising k p is = ap is_some (put_at row rising k p is)

-- its entries name the blocks of a row
pub names_puts : (f : Put → Entry) → SameBlocks f → (row : List Put) (b : ℕ) → names_block (map f row) b ≡ has_put b row
names_puts f same [] b = refl
names_puts f same (q ∷ qs) b = grind (arith, same q, names_puts f same qs b)

-- they ascend as the puts do
pub ascends : (f : Put → Entry) → SameBlocks f → (low high : ℕ) (row : List Put) → IsRising row → ((k : ℕ) (p : Put) → slice_get row k ≡ Some p → low ≤ p.block) → ((k : ℕ) (p : Put) → slice_get row k ≡ Some p → p.block < high)
    → are_ascending low high (map f row) ≡ true
ascends f same low high [] rising from below = refl
ascends f same low high (q ∷ qs) rising from below =
    both (le-leb low (f q).block (omega (arith, same q, from 0 q refl)))
    (both (lt-ltb (f q).block high (omega (arith, same q, below 0 q refl)))
    (ascends f same ((f q).block + 1) high qs (rising_tail q qs rising) (λ k p is. omega (arith, same q, rising_head q qs rising k p is)) (λ k p is. below (suc k) p is)))

-- fresh entries are of data blocks, which no payload is of
pub are_new : (g : Geometry) (payloads : List Entry) (row : List Put) → ((k : ℕ) (p : Put) → slice_get row k ≡ Some p → LiesIn g Data p.block) → ((k : ℕ) (p : Put) → slice_get row k ≡ Some p → names_block payloads p.block ≡ false)
    → are_fresh g payloads (map fresh_entry row) ≡ true
are_new g payloads [] lie apart = refl
are_new g payloads (q ∷ qs) lie apart =
    both (le-leb (data_start g) q.block (lie 0 q refl).from)
    (both (lt-ltb q.block g.n (lie 0 q refl).below)
    (both (ap not (apart 0 q refl))
    (are_new g payloads qs (λ k p is. lie (suc k) p is) (λ k p is. apart (suc k) p is))))

-- the entries of a record with such rows are in order
pub rows_fit : (g : Geometry) (number place : ℕ) (paid laid : List Put) → IsRising paid → IsRising laid
    → ((k : ℕ) (p : Put) → slice_get paid k ≡ Some p → bitmap_start g ≤ p.block) → ((k : ℕ) (p : Put) → slice_get paid k ≡ Some p → p.block < g.n)
    → ((k : ℕ) (p : Put) → slice_get laid k ≡ Some p → LiesIn g Data p.block) → ((k : ℕ) (p : Put) → slice_get laid k ≡ Some p → has_put p.block paid ≡ false)
    → IsTrue (entries_fit g (record_of number place paid laid))
unfolding entries_fit
rows_fit g number place paid laid rise up from below lie apart =
    both (ascends payload_entry (λ p. refl) (bitmap_start g) g.n paid rise from below)
    (both (ascends fresh_entry (λ p. refl) (data_start g) g.n laid up (λ k p is. (lie k p is).from) (λ k p is. (lie k p is).below))
    (are_new g (map payload_entry paid) laid lie (λ k p is. names_puts payload_entry (λ q. refl) paid p.block ∙ apart k p is)))
