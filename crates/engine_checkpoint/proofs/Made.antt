-- A pipeline with no record agrees with the ledger of a session on a disk that was just mounted.
use Rattle.std.proofs.Common.{◌≡◌, ⊎_elim, ℕ, true, List, [], length, map, slice_get, option_map, Option, Some, refl, sym, ◌∙◌, subst, ap, arith}
use Rattle.std.proofs.lemmas.Bool.Decides.{nat_tests}
use Rattle.std.proofs.lemmas.Bool.{false≢true}
use Rattle.std.proofs.lemmas.Option.{none-some}
use Rattle.base_types.specs.Seal.{Blocks}
use Rattle.disk_contract.specs.declared.event.Event.{Event}
use Rattle.disk_contract.specs.Cell.{cell_of}
use Rattle.layout_geometry.specs.Geometry.{Geometry}
use Rattle.layout_journal.specs.declared.header.Header.{Header}
use Rattle.layout_journal.specs.Ring.{RingPlaces}
use Rattle.crash_argument.specs.Ledger.{Ledger}
use Rattle.crash_argument.specs.OnePending.{HasOnePending}
use Rattle.crash_argument.specs.PipelineData.{PipelineData, DataAgree, data_at_mount}
use Rattle.crash_argument.specs.Points.{IsMounted, ledger_at_mount}
use Rattle.crash_argument.specs.Steps.{NoneIsBeingWritten}
use Rattle.engine_notes.specs.declared.notes.Note.{Note}
use Rattle.engine_notes.specs.Notes.{is_expected, is_noticed}
use Rattle.engine_running.specs.declared.commit.Committed.{Committed}
use Rattle.engine_running.specs.declared.states.Durable.{Durable}
use Rattle.engine_running.specs.declared.states.Sure.{Sure}
use Rattle.engine_running.specs.declared.states.Placed.{Placed}
use Rattle.engine_checkpoint.specs.declared.pipeline.Pending.{Pending}
use Rattle.engine_checkpoint.specs.declared.pipeline.HomeWrite.{HomeWrite}
use Rattle.engine_checkpoint.specs.declared.pipeline.Pipeline.{Pipeline}
use Rattle.engine_checkpoint.specs.Agree.{PipelineAgrees, data_of, header_in, home_pair}
use Rattle.engine_checkpoint.specs.Steps.{HasNoRecord}

-- data of the same parts
pub same_parts : (ts us : List (List ℕ)) (n m b d : ℕ) (hs is : List (ℕ × ℕ)) (s t : ℕ) (p q : Option ℕ) (x y k l : ℕ) (ws : List (ℕ × ℕ)) → ts ≡ us → n ≡ m → b ≡ d → hs ≡ is → s ≡ t → p ≡ q → x ≡ y → k ≡ l
    → ◌≡◌ {A = PipelineData} (record { tickets = ts; placed = n; batch = b; home = hs; sent = s; pending = p; next_place = x; taken = k; waiting = ws }) (record { tickets = us; placed = m; batch = d; home = is; sent = t; pending = q; next_place = y; taken = l; waiting = ws })
same_parts ts us n m b d hs is s t p q x y k l ws e1 e2 e3 e4 e5 e6 e7 e8 = cc

-- nothing stands in an empty list
in_none : {A : Type 0} (xs : List A) (k : ℕ) (x : A) → xs ≡ [] → slice_get xs k ≡ Some x → ⊥
in_none xs k x none is = none-some x (sym (ap (λ ys. slice_get ys k) none) ∙ is)

module _ (g : Geometry) (h : Header) (slot : ℕ) (v : Pipeline) (e : HasNoRecord g h slot v) where
  no_placed : length v.placed.items ≡ 0
  no_placed = ap (λ (xs : List Placed). length xs) e.placed

  no_sure : length v.sure.items ≡ 0
  no_sure = ap (λ (xs : List Sure). length xs) e.sure

  no_durable : length v.durable.items ≡ 0
  no_durable = ap (λ (xs : List Durable). length xs) e.durable

  no_committed : length v.committed.items ≡ 0
  no_committed = ap (λ (xs : List Committed). length xs) e.committed

  module _ (base : Blocks) (log : List Event) (m : IsMounted (cell_of base log) g slot h)
      (agree : DataAgree base log (ledger_at_mount (cell_of base log) g slot h) (data_at_mount h)) (idle : NoneIsBeingWritten (cell_of base log) (ledger_at_mount (cell_of base log) g slot h))
      (one : HasOnePending base log (ledger_at_mount (cell_of base log) g slot h) (data_at_mount h) []) where
    abbrev l : Ledger
    l = ledger_at_mount (cell_of base log) g slot h

    abbrev ring : RingPlaces
    ring = record { geom = g; next = h.at; taken = 0 }

    same_data : data_at_mount h ≡ data_of v ring []
    same_data = grind (arith, nat_tests, same_parts, no_placed, no_sure, no_durable)

    unnoticed : (t : ℕ) → is_noticed t v.notes.notes ≡ true → ⊥
    unnoticed t is = false≢true (sym (ap (λ (ns : List Note). is_noticed t ns) e.notes) ∙ is)

    unexpected : (t : ℕ) → is_expected t v.notes.notes ≡ true → ⊥
    unexpected t is = false≢true (sym (ap (λ (ns : List Note). is_expected t ns) e.notes) ∙ is)

    unpending : {A : Type 0} (q : Pending) → v.next ≡ Some q → A
    unpending q is = absurd (none-some q (sym e.next ∙ is))

    pub agrees_made : PipelineAgrees base log l v ring [] []
    agrees_made = record {
      geom = e.geom;
      ring_geom = refl;
      slot = e.slot_is;
      header = e.header;
      next = sym (ap (option_map header_in) e.next);
      not_closed = λ k stands. ⊎_elim (λ same. ap (λ (j : Header). j.closed) same ∙ m.not_closed) (λ some. absurd (none-some k some)) stands;
      known = omega (arith, no_placed, no_sure, no_durable);
      count = omega (arith, no_placed, no_sure, no_durable, no_committed);
      sure = omega (arith, no_placed, no_sure, m.empty);
      batch = omega (arith, e.batch);
      freed = [];
      freed_by = record { count = refl; killed = λ k b w f is at low live gone. absurd (none-some w is); dead = λ k b w f is at inside. absurd (none-some w is) };
      placed_at = λ k t is. absurd (in_none v.placed.items k t e.placed is);
      sure_at = λ k t is. absurd (in_none v.sure.items k t e.sure is);
      durable_at = λ k t is. absurd (in_none v.durable.items k t e.durable is);
      committed_at = λ k t is. absurd (in_none v.committed.items k t e.committed is);
      agree = subst (DataAgree base log l) same_data agree;
      notes = λ t is. absurd (unnoticed t is);
      given = λ t is. absurd (unexpected t is);
      expected = grind (arith, nat_tests, in_none, unpending);
      apart = grind (arith, nat_tests, in_none, unpending);
      sent = λ k b t is. absurd (none-some (b, t) (sym (ap (λ (hw : List HomeWrite). slice_get (map home_pair hw) k) e.home) ∙ is));
      idle = idle;
      one = subst (λ p. HasOnePending base log l p []) same_data one;
      free = λ b is. absurd (false≢true is);
    }
