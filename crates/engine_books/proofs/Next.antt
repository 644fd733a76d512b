-- The running transaction as the next record of a ledger.
use Rattle.std.proofs.Common.{◌≡◌, ℕ, ◌+◌, ◌≤◌, true, false, IsTrue, slice_get, Some, is_some, refl, sym, ap, subst, ◌∙◌}
use Rattle.base_types.specs.Seal.{Blocks}
use Rattle.layout_geometry.specs.Geometry.{Geometry, data_start}
use Rattle.layout_journal.specs.declared.header.Header.{Header}
use Rattle.layout_journal.specs.Run.{places, all_places, place_after, entries_fit, is_live}
use Rattle.crash_argument.specs.Ledger.{Ledger, IsStanding, next_number, all_say}
use Rattle.crash_argument.specs.LastWrites.{IsDead}
use Rattle.crash_argument.specs.HomeTest.{is_one_of}
use Rattle.engine_running.specs.declared.put.Put.{Put}
use Rattle.engine_running.specs.Record.{payload_entry, fresh_entry, record_of, AreBelow, IsTransaction}
use Rattle.engine_blocks.specs.Running.{HasNoBare}
use Rattle.engine_books.specs.Books.{TransactionBooks, running_of, map_of}
use Rattle.engine_books.specs.Kept.{AreKept}
use Rattle.engine_books.specs.Point.{BeganAt}
use Rattle.engine_books.proofs.Rows.{not_in_both}
use Rattle.engine_books.proofs.Sound.{laid_lies}
use Rattle.engine_books.proofs.NextRows.{has_it, names_puts, rows_fit}
use Rattle.engine_books.proofs.NextMap.{IsLiveNow, live_there, laid_live, laid_taken, laid_bytes, paid_bytes, paid_live, put_in, unput_same, killed_freed, freed_dead}

-- its entries are in order
pub changes_fit : (v : TransactionBooks) (number place : ℕ) → AreKept v → IsTrue (entries_fit v.geom (record_of number place v.changes.paid v.changes.laid))
changes_fit v number place kept =
    rows_fit v.geom number place v.changes.paid v.changes.laid kept.lie.ordered.paid kept.lie.ordered.laid
    (λ k p is. kept.lie.paid_from p.block (has_it v.changes.paid kept.lie.ordered.paid k p is))
    (λ k p is. kept.lie.paid_below p.block (has_it v.changes.paid kept.lie.ordered.paid k p is))
    (λ k p is. laid_lies v p.block kept (has_it v.changes.laid kept.lie.ordered.laid k p is))
    (λ k p is. ap is_some (not_in_both v.changes.paid v.changes.laid p.block kept.lie.ordered (has_it v.changes.laid kept.lie.ordered.laid k p is)))

pub may_be_next : (v : TransactionBooks) (l : Ledger) (place : ℕ) → AreKept v → BeganAt v (l.map_before (next_number l)) → l.geom ≡ v.geom → HasNoBare (running_of v)
    → ((h : Header) → IsStanding l h → h.closed ≡ false) → place ≡ place_after l.geom.j l.header.at (all_say l.records)
    → all_places (all_say l.records) + places (record_of (next_number l) place v.changes.paid v.changes.laid) ≤ l.geom.j
    → ((b : ℕ) → is_one_of b v.changes.taken ≡ true → IsDead l b)
    → IsTransaction l l.epoch (next_number l) place v.changes.paid v.changes.laid (map_of v (l.map_before (next_number l)))
may_be_next v l place kept began geom filled unclosed at room dead = record {
  is_next = refl;
  is_epoch = refl;
  not_closed = unclosed;
  is_place = at;
  within = room;
  fit = subst (λ (g : Geometry). IsTrue (entries_fit g (record_of (next_number l) place v.changes.paid v.changes.laid))) (sym geom) (changes_fit v (next_number l) place kept);
  dead = λ i p is. dead p.block (laid_taken v p.block kept (has_it v.changes.laid kept.lie.ordered.laid i p is));
  live = λ i p is. here p.block (live_there v last p.block began (in_place i p is));
  paid_in = λ i p is. put_in v last p filled (paid_live v last i p kept began is) (paid_bytes v i p kept is);
  paid_live = λ i p is. here p.block (live_there v last p.block began (paid_live v last i p kept began is));
  laid_in = λ i p is. put_in v last p filled (in_place i p is) (laid_bytes v i p kept is);
  same = λ b paid laid is. subst (λ (g : Geometry). IsTrue (is_live g last b) × (map_of v last b ≡ last b)) (sym geom)
      (unput_same v last b began filled (sym (names_puts payload_entry (λ p. refl) v.changes.paid b) ∙ paid) (sym (names_puts fresh_entry (λ p. refl) v.changes.laid b) ∙ laid)
      (subst (λ (g : Geometry). is_live g (map_of v last) b ≡ true) geom is));
}
  where
    last : Blocks
    last = l.map_before (next_number l)

    here : (b : ℕ) → is_live v.geom (map_of v last) b ≡ true → IsTrue (is_live l.geom (map_of v last) b)
    here b is = subst (λ (g : Geometry). IsTrue (is_live g (map_of v last) b)) (sym geom) is

    in_place : (i : ℕ) (p : Put) → slice_get v.changes.laid i ≡ Some p → IsLiveNow v p.block
    in_place i p is = laid_live v p.block kept (has_it v.changes.laid kept.lie.ordered.laid i p is)

pub next_killed : (v : TransactionBooks) (l : Ledger) → BeganAt v (l.map_before (next_number l)) → l.geom ≡ v.geom → (b : ℕ) → data_start l.geom ≤ b
    → IsTrue (is_live l.geom (l.map_before (next_number l)) b) → is_live l.geom (map_of v (l.map_before (next_number l))) b ≡ false → is_one_of b v.changes.freed ≡ true
next_killed v l began geom b late is out =
    killed_freed v (l.map_before (next_number l)) b began (subst (λ (g : Geometry). data_start g ≤ b) geom late)
    (subst (λ (g : Geometry). is_live g (l.map_before (next_number l)) b ≡ true) geom is) (subst (λ (g : Geometry). is_live g (map_of v (l.map_before (next_number l))) b ≡ false) geom out)

pub next_dead : (v : TransactionBooks) (l : Ledger) → AreKept v → BeganAt v (l.map_before (next_number l)) → l.geom ≡ v.geom → (b : ℕ) → is_one_of b v.changes.freed ≡ true → is_live l.geom (map_of v (l.map_before (next_number l))) b ≡ false
next_dead v l kept began geom b is = subst (λ (g : Geometry). is_live g (map_of v (l.map_before (next_number l))) b ≡ false) (sym geom) (freed_dead v (l.map_before (next_number l)) b kept began is)

-- What a commit asks of the puts.

pub next_taken : (v : TransactionBooks) → AreKept v → (i : ℕ) (p : Put) → slice_get v.changes.laid i ≡ Some p → is_one_of p.block v.changes.taken ≡ true
next_taken v kept i p is = laid_taken v p.block kept (has_it v.changes.laid kept.lie.ordered.laid i p is)

pub next_below : (v : TransactionBooks) → AreKept v → AreBelow v.geom.n v.changes.paid × AreBelow v.geom.n v.changes.laid
next_below v kept = (λ i p is. kept.lie.paid_below p.block (has_it v.changes.paid kept.lie.ordered.paid i p is), λ i p is. (laid_lies v p.block kept (has_it v.changes.laid kept.lie.ordered.laid i p is)).below)
