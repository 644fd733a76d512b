-- The batch on its way home: it is taken, its blocks are written, ascending, and then all are.
use Rattle.std.proofs.Common.{◌≡◌, ◌≢◌, inl, ⊎_elim, ℕ, ◌+◌, ◌<◌, ◌≤◌, List, [], ◌∷◌, ◌++◌, length, take, drop, slice_get, Some, None, refl, sym, ◌∙◌, ap, subst, arith, length-append, length-take, IsTrue}
use Rattle.std.proofs.lemmas.Bool.{cases_lt, cases_eq, both_ways}
use Rattle.std.proofs.lemmas.Nat.{mod_below}
use Rattle.std.proofs.lemmas.List.{take-append-drop}
use Rattle.std.proofs.lemmas.Option.{none-some, same_Some, slice_get_within}
use Rattle.base_types.specs.Seal.{Blocks}
use Rattle.disk_contract.specs.declared.event.Event.{Event}
use Rattle.disk_contract.specs.declared.event.Event.TheVariants.{Wrote}
use Rattle.disk_contract.specs.Cell.{Cell, greatest_ticket, IsNoticed}
use Rattle.layout_geometry.specs.Geometry.{bitmap_start}
use Rattle.layout_journal.specs.Run.{is_live}
use Rattle.crash_argument.specs.Ledger.{Ledger, WrittenRecord, IsConsistentWith, cover}
use Rattle.crash_argument.specs.LastWrites.{IsLastWrite}
use Rattle.crash_argument.specs.PipelineData.{PipelineData, DataAgree, IsSettledIn, StaysLive, LeavesAlone, NeedsCheckpoint, with_batch, with_home, with_sent}
use Rattle.crash_argument.proofs.log.Lists.{get_front, get_behind}
use Rattle.crash_argument.proofs.log.LastWrites.{last_stays, last_new}
use Rattle.crash_argument.proofs.log.Adds.{adds_wrote}
use Rattle.crash_argument.proofs.theorem.Core.{live_from}
use Rattle.crash_argument.proofs.pipe.InPlace.{numbered}
use Rattle.crash_argument.proofs.pipe.Agree.{knows_with}
use Rattle.crash_argument.proofs.steps.HeaderSteps.{alone_leaves}

module _ (base : Blocks) (log : List Event) (l : Ledger) (keeps : IsConsistentWith base log l) (p : PipelineData) (k : DataAgree base log l p) where
  -- no batch is under way, and the records up to the durable `sure` that aren't at home become the next one
  pub knows_batch : (count : ℕ) → p.batch ≡ 0 → l.header.start + p.placed + count ≡ l.header.sure + 1 → DataAgree base log l (with_batch p count)
  knows_batch count none ends = record {
    count = k.count;
    tickets = k.tickets;
    pending = k.pending;
    not_pending = k.not_pending;
    new = k.new;
    placed = k.placed;
    batch = take count k.rest;
    rest = drop count k.rest;
    is_batch = record {
      split = k.is_batch.split ∙ ap (λ (ws : List WrittenRecord). k.placed ++ (ws ++ k.rest)) (empty k.batch (k.batch_is ∙ none)) ∙ ap (λ (ws : List WrittenRecord). k.placed ++ ws) (sym (take-append-drop count k.rest));
      sure = omega (arith, ends, k.placed_is, size);
      from = k.is_batch.from;
    };
    placed_is = k.placed_is;
    batch_is = size;
    home = λ b x low. absurd (omega (arith, low));
    at_home = k.at_home;
    next_place = k.next_place;
    taken = k.taken;
    waiting = k.waiting;
  }
    where
      empty : (ws : List WrittenRecord) → length ws ≡ 0 → ws ≡ []
      empty [] e = refl
      empty (w ∷ ws) e = absurd (omega (arith, e))

      size : length (take count k.rest) ≡ count
      size = omega (arith, length-take {A = WrittenRecord} count k.rest, ends, k.placed_is, k.batch_is, none, (keeps.headers.fits l.header (inl refl)).last, ap (λ (ws : List WrittenRecord). length ws) k.is_batch.split, length-append k.placed (k.batch ++ k.rest), length-append k.batch k.rest)

  -- the next block is written home
  pub knows_home : (t b : ℕ) (x : List ℕ) → greatest_ticket log < t → ¬ IsNoticed t log → l.header.start + p.placed + p.batch ≡ l.header.sure + 1 → NeedsCheckpoint l k.batch b x → ((c : ℕ) (y : List ℕ) → p.sent ≤ c → c < b → ¬ NeedsCheckpoint l k.batch c y)
      → DataAgree base (log ++ Wrote t b x ∷ []) l (with_home p b t)
  knows_home t b x high none ends goes between = knows_with k (log ++ Wrote t b x ∷ []) p.tickets (p.home ++ (b, t) ∷ []) (b + 1) p.waiting k.count
      (λ i w ts is at from. let h = k.tickets i w ts is at from in record {
        ring = λ j lt. let o = h.ring j lt in (o.0, o.1, last_stays log (Wrote t b x ∷ []) _ o.0 _ ((λ same. omega (arith, same, mod_below (w.says.place + j) l.geom.j keeps.ring, low)), tt) o.2);
        fresh = λ late j f there. let o = h.fresh late j f there in (o.0, o.1, last_stays log (Wrote t b x ∷ []) _ o.0 _ ((λ same. both_ways _ (k.new.dead i j (l.header.sure + 1) w f is (omega arith) (omega (arith, late)) there) (subst (λ c. IsTrue (is_live l.geom (l.map_before (l.header.sure + 1)) c)) same goes.live)), tt) o.2);
      })
      (λ h e. let o = k.pending h e in record { number = o.number; bytes = o.bytes; is_ticket = o.is_ticket; reads = o.reads; last = last_stays log (Wrote t b x ∷ []) _ o.number _ ((λ same. omega (arith, same, low)), tt) o.last })
      (λ c y sent covered on. ⊎_elim (λ same. own c y same covered) (λ apart. ⊎_elim
      (λ before. let o = k.home c y before covered on in (o.0, o.1, get_front p.home ((b, t) ∷ []) o.0 (c, o.1) o.2, last_stays log (Wrote t b x ∷ []) c o.1 y ((λ same. apart same), tt) o.3))
      (λ after. absurd (between c y after (omega (arith, sent, apart_less b c apart sent)) (record { covered = covered; live = on.live })))
      (cases_lt c p.sent)) (cases_eq b c))
      (λ c y covered on. subst (λ (d : Cell). IsSettledIn d y) (sym ((adds_wrote base log t b x).other c (λ same. not_both c same on))) (k.at_home c y covered on)) k.waiting
    where
      low : bitmap_start l.geom ≤ b
      low = live_from l.geom (l.map_before (l.header.sure + 1)) b goes.live

      apart_less : (b c : ℕ) → b ≢ c → c < b + 1 → c < b
      apart_less b c apart lt = ⊎_elim (λ less. less) (λ ge. absurd (apart (omega (arith, lt, ge)))) (cases_lt c b)

      own : (c : ℕ) (y : List ℕ) → b ≡ c → cover None k.batch c ≡ Some y → (i u : ℕ) × (slice_get (p.home ++ (b, t) ∷ []) i ≡ Some (c, u)) × IsLastWrite (log ++ Wrote t b x ∷ []) c u y
      own c y same covered =
          let bytes : x ≡ y = same_Some _ _ (sym goes.covered ∙ ap (cover None k.batch) same ∙ covered) in
          (length p.home + 0, t, get_behind p.home ((b, t) ∷ []) 0 ∙ ap (λ q. Some (q, t)) same, subst (λ (z : List ℕ). IsLastWrite (log ++ Wrote t b x ∷ []) c t z) bytes (subst (λ q. IsLastWrite (log ++ Wrote t b x ∷ []) q t x) same (last_new log b t x high none)))

      not_both : (c : ℕ) → c ≡ b → StaysLive l (l.header.start + length k.placed) c → ⊥
      not_both c same on = none-some x (sym (alone_leaves k.batch b None (λ i w is. subst (λ q. LeavesAlone w q) same (in_records i w is on))) ∙ goes.covered)
        where
          in_records : (i : ℕ) (w : WrittenRecord) → slice_get k.batch i ≡ Some w → StaysLive l (l.header.start + length k.placed) c → LeavesAlone w c
          in_records i w is on =
              let at : slice_get l.records (length k.placed + i) ≡ Some w = ap (λ (ws : List WrittenRecord). slice_get ws (length k.placed + i)) k.is_batch.split ∙ get_behind k.placed (k.batch ++ k.rest) i ∙ get_front k.batch k.rest i w is in
              let number = numbered base log l keeps k.new (length k.placed + i) w at in
              on.alone (length k.placed + i) w at (omega (arith, number)) (omega (arith, number, ends, k.placed_is, k.batch_is, slice_get_within k.batch i w is))

  -- all of them are
  pub knows_sent : (n : ℕ) → ((c : ℕ) (y : List ℕ) → p.sent ≤ c → c < n → ¬ NeedsCheckpoint l k.batch c y) → DataAgree base log l (with_sent p n)
  knows_sent n none = knows_with k log p.tickets p.home n p.waiting k.count k.tickets k.pending
      (λ c y sent covered on. ⊎_elim (λ before. k.home c y before covered on) (λ after. absurd (none c y after sent (record { covered = covered; live = on.live }))) (cases_lt c p.sent)) k.at_home k.waiting
