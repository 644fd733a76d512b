-- What a pipeline keeps still agrees where the log goes on and other parts of it stand for the same.
use Rattle.std.proofs.Common.{◌≡◌, ℕ, ◌+◌, ◌<◌, ◌≤◌, List, length, slice_get, Option, Some, None, arith}
use Rattle.base_types.specs.Seal.{Blocks}
use Rattle.disk_contract.specs.declared.event.Event.{Event}
use Rattle.disk_contract.specs.Cell.{cell_of}
use Rattle.layout_journal.specs.declared.header.Header.{Header}
use Rattle.crash_argument.specs.Ledger.{Ledger, WrittenRecord, IsStanding, cover}
use Rattle.crash_argument.specs.LastWrites.{IsLastWrite, HasTickets}
use Rattle.crash_argument.specs.PipelineData.{PipelineData, DataAgree, IsSettledIn, StaysLive, IsPendingHeader, FreedWait}

-- another log, other tickets, another way home and another list of what waits: each is asked for by itself, and the rest stays
abbrev pub knows_with : {base : Blocks} {log : List Event} {l : Ledger} {p : PipelineData} (k : DataAgree base log l p) (new : List Event) (tickets : List (List ℕ)) (home : List (ℕ × ℕ)) (sent : ℕ) (waiting : List (ℕ × ℕ))
    → length tickets ≡ length l.records → ((i : ℕ) (w : WrittenRecord) (ts : List ℕ) → slice_get l.records i ≡ Some w → slice_get tickets i ≡ Some ts → l.known ≤ w.says.number → HasTickets new l w ts)
    → ((h : Header) → l.next ≡ Some h → IsPendingHeader new l p.pending h)
    → ((b : ℕ) (x : List ℕ) → b < sent → cover None k.batch b ≡ Some x → StaysLive l (l.header.start + length k.placed + length k.batch) b → (i t : ℕ) × (slice_get home i ≡ Some (b, t)) × IsLastWrite new b t x)
    → ((b : ℕ) (x : List ℕ) → cover None k.placed b ≡ Some x → StaysLive l (l.header.start + length k.placed) b → IsSettledIn (cell_of base new b) x) → FreedWait l waiting
    → DataAgree base new l (record p { tickets = tickets; home = home; sent = sent; waiting = waiting })
knows_with k new tickets home sent waiting count given header goes settled waits = record {
  count = count;
  tickets = given;
  pending = header;
  not_pending = k.not_pending;
  new = k.new;
  placed = k.placed;
  batch = k.batch;
  rest = k.rest;
  is_batch = k.is_batch;
  placed_is = k.placed_is;
  batch_is = k.batch_is;
  home = goes;
  at_home = settled;
  next_place = k.next_place;
  taken = k.taken;
  waiting = waits;
}

-- a ledger with another header on its way, and more that is known
pub knows_under : {base : Blocks} {log : List Event} {l : Ledger} {p : PipelineData} (k : DataAgree base log l p) (next : Option Header) (known : ℕ) (pending : Option ℕ) → l.known ≤ known
    → ((h : Header) → next ≡ Some h → IsPendingHeader log (record l { next = next; known = known }) pending h) → (next ≡ None → pending ≡ None)
    → ((h : Header) → IsStanding (record l { next = next; known = known }) h → h.start ≤ l.header.start + length k.placed) → DataAgree base log (record l { next = next; known = known }) (record p { pending = pending })
knows_under k next known pending more header none from = record {
  count = k.count;
  tickets = λ i w ts is at low. let h = k.tickets i w ts is at (omega (arith, more, low)) in record { ring = h.ring; fresh = h.fresh };
  pending = header;
  not_pending = none;
  new = record { live = k.new.live; dead = k.new.dead; paid = k.new.paid; kept = k.new.kept };
  placed = k.placed;
  batch = k.batch;
  rest = k.rest;
  is_batch = record { split = k.is_batch.split; sure = k.is_batch.sure; from = from };
  placed_is = k.placed_is;
  batch_is = k.batch_is;
  home = λ b x sent covered on. k.home b x sent covered (record { live = on.live; alone = on.alone });
  at_home = λ b x covered on. k.at_home b x covered (record { live = on.live; alone = on.alone });
  next_place = k.next_place;
  taken = k.taken;
  waiting = record { each = k.waiting.each };
}
