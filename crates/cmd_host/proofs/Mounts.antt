-- A mount's one write, and the notices behind it: a lawful log has that of its own ticket alone.
use Rattle.std.proofs.Common.{◌≡◌, ◌⊎◌, inl, inr, ℕ, ◌<◌, ◌≤◌, ◌||◌, ◌==◌, if◌then◌else◌, Bool, true, false, List, [], ◌∷◌, length, Some, refl, sym, ap, ◌∙◌, subst, arith}
use Rattle.std.proofs.lemmas.Bool.{cases_Bool, eq-eqb, eqb-true, false≢true}
use Rattle.base_types.specs.Seal.{Blocks}
use Rattle.disk_contract.specs.declared.event.Event.{Event}
use Rattle.disk_contract.specs.declared.event.Event.TheVariants.{Wrote, Noticed}
use Rattle.disk_contract.specs.Cell.{Cell, Write, cell_of, from_ticket, notices, settle, with_write}
use Rattle.disk_contract.specs.Disk.{IsOpen}
use Rattle.disk_contract.specs.Lawful.{AreLawfulAfter, IsLawful}
use Rattle.disk_contract.specs.Manner.{Manner}
use Rattle.layout_geometry.specs.Geometry.{Geometry}
use Rattle.layout_journal.specs.declared.header.Header.{Header}
use Rattle.layout_journal.specs.Layout.{header_of}
use Rattle.crash_argument.specs.Opening.{StopsAtOne, WritesOne}
use Rattle.crash_argument.specs.Points.{IsMounted}
use Rattle.cmd_host.specs.Disks.{OpensAtMost}
use Rattle.cmd_host.specs.Mounts.{IsFirstHeader, MountsAtMost, MountsOnce, WritesAlone}

-- a ticket that is open behind one write is that write's
own : (ticket block t : ℕ) (bytes : List ℕ) → IsOpen t (Wrote ticket block bytes ∷ []) → t ≡ ticket
own ticket block t bytes is = by (cases_own (ticket == t) is.0)
  where
    cases_own : (b : Bool) → (b || false) ≡ true → b ≡ true
    cases_own true is = refl
    cases_own false is = is

    by : (ticket == t) ≡ true → t ≡ ticket
    by is = sym (eqb-true ticket t is)

-- and behind its notice none is
none_open : (ticket block t : ℕ) (bytes : List ℕ) → IsOpen t (Wrote ticket block bytes ∷ Noticed ticket ∷ []) → ⊥
none_open ticket block t bytes is = is.1 is.0

once_more : (ticket block : ℕ) (bytes : List ℕ) (ts : List ℕ) → AreLawfulAfter (Wrote ticket block bytes ∷ []) (notices ts) → WritesAlone (Wrote ticket block bytes ∷ notices ts)
once_more ticket block bytes [] lawful = record { ticket = ticket; block = block; bytes = bytes; is = inl refl }
once_more ticket block bytes (t ∷ []) lawful = record { ticket = ticket; block = block; bytes = bytes; is = inr (ap (λ (n : ℕ). Wrote ticket block bytes ∷ Noticed n ∷ []) (own ticket block t bytes lawful.0)) }
once_more ticket block bytes (t ∷ u ∷ ts) lawful =
    absurd (none_open ticket block u bytes (subst (λ (n : ℕ). IsOpen u (Wrote ticket block bytes ∷ Noticed n ∷ [])) (own ticket block t bytes lawful.0) lawful.1.0))

pub once_by : (log : List Event) → IsLawful log → WritesOne [] log → WritesAlone log
once_by log lawful one = subst WritesAlone (sym one.log) (once_more one.ticket one.block one.bytes one.noticed (subst IsLawful one.log lawful).1)

pub at_most_by : (log : List Event) → IsLawful log → OpensAtMost log → MountsAtMost log
at_most_by log lawful (inl none) = inl none
at_most_by log lawful (inr (inl lost)) = inr (inl lost)
at_most_by log lawful (inr (inr one)) = inr (inr (once_by log lawful one))

-- Where nothing is pending and a header stands that wasn't there before, the one write is that header, and its notice came.

module _ (base : Blocks) (ticket block : ℕ) (bytes : List ℕ) where
  -- block b as it was at first
  abbrev at_first : ℕ → Cell
  at_first b = record { settled = base b; pending = [] }

  never_idle : (cell_of base (Wrote ticket block bytes ∷ []) block).pending ≡ [] → ⊥
  never_idle none = omega (arith, ap (λ (ws : List Write). length ws) (sym (ap (λ (c : Bool). (if c then with_write (at_first block) (Some ticket) bytes else at_first block).pending) (eq-eqb block block refl)) ∙ none))

  -- the notice settles the write
  settled_write : (own : Bool) (b : ℕ) → own ≡ true → (settle (with_write (at_first b) (Some ticket) bytes) (if own then record { ticket = Some ticket; bytes = bytes } ∷ [] else [])).settled ≡ bytes
  settled_write true b is = refl
  settled_write false b is = absurd (false≢true is)

  abbrev behind : ℕ → Bool → Cell
  behind b here = let c = if here then with_write (at_first b) (Some ticket) bytes else at_first b in settle c (from_ticket ticket c.pending)

  stands_written : (b : ℕ) → (block == b) ≡ true → (cell_of base (Wrote ticket block bytes ∷ Noticed ticket ∷ []) b).settled ≡ bytes
  stands_written b here = ap (λ (c : Bool). (behind b c).settled) here ∙ settled_write (ticket == ticket) b (eq-eqb ticket ticket refl)

  stands_still : (b : ℕ) → (block == b) ≡ false → (cell_of base (Wrote ticket block bytes ∷ Noticed ticket ∷ []) b).settled ≡ base b
  stands_still b other = ap (λ (c : Bool). (behind b c).settled) other

pub header_by : (g : Geometry) (base : Blocks) (log : List Event) (slot : ℕ) (h : Header) → WritesAlone log → IsMounted (cell_of base log) g slot h → IsFirstHeader g h → ((b : ℕ) (k : Header) → b < 2 → header_of g.n (base b) ≡ Some k → k.epoch ≤ 1) → MountsOnce g log
header_by g base log slot h one m first others = by one.is
  where
    by_slot : log ≡ Wrote one.ticket one.block one.bytes ∷ Noticed one.ticket ∷ [] → ((one.block == slot) ≡ true) ⊎ ((one.block == slot) ≡ false) → MountsOnce g log
    by_slot noticed (inl here) = record {
      ticket = one.ticket;
      slot = slot;
      bytes = one.bytes;
      header = h;
      is_slot = m.is_slot;
      reads = ap (header_of g.n) (sym (stands_written base one.ticket one.block one.bytes slot here)) ∙ subst (λ (es : List Event). header_of g.n (cell_of base es slot).settled ≡ Some h) noticed m.stands;
      first = first;
      is = noticed ∙ ap (λ (b : ℕ). Wrote one.ticket b one.bytes ∷ Noticed one.ticket ∷ []) (eqb-true one.block slot here);
    }
    by_slot noticed (inr other) = absurd (omega (
      arith,
      first.epoch,
      others slot h m.is_slot (ap (header_of g.n) (sym (stands_still base one.ticket one.block one.bytes slot other)) ∙ subst (λ (es : List Event). header_of g.n (cell_of base es slot).settled ≡ Some h) noticed m.stands),
    ))

    by : (log ≡ Wrote one.ticket one.block one.bytes ∷ []) ⊎ (log ≡ Wrote one.ticket one.block one.bytes ∷ Noticed one.ticket ∷ []) → MountsOnce g log
    by (inl bare) = absurd (never_idle base one.ticket one.block one.bytes (subst (λ (es : List Event). (cell_of base es one.block).pending ≡ []) bare (m.idle one.block)))
    by (inr noticed) = by_slot noticed (cases_Bool (one.block == slot))

-- what stopped at its one write, on a disk of some manner
pub stopped_at : (m : Manner) (log : List Event) → StopsAtOne m [] log → OpensAtMost log
stopped_at m log (inl none) = inl none
stopped_at m log (inr (inl lost)) = inr (inl lost)
stopped_at m log (inr (inr one)) = inr (inr one.0)
