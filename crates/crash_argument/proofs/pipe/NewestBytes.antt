-- What is the newest of a live block: its payload in a record that isn't at its blocks, or else what was written last.
use Rattle.std.proofs.Common.{◌≡◌, inl, ⊎_elim, ℕ, zero, suc, ◌+◌, ◌-◌, ◌≤◌, IsTrue, List, [], ◌++◌, length, slice_get, Option, Some, None, refl, sym, ◌∙◌, ap, subst, arith, length-append, append-nil}
use Rattle.std.proofs.lemmas.Option.{none-some}
use Rattle.base_types.specs.Seal.{Blocks}
use Rattle.disk_contract.specs.declared.event.Event.{Event}
use Rattle.disk_contract.specs.Cell.{cell_of}
use Rattle.layout_journal.specs.Run.{is_live, otherwise}
use Rattle.crash_argument.specs.Ledger.{Ledger, WrittenRecord, IsConsistentWith, cover, latest, last_of, next_number}
use Rattle.crash_argument.specs.PipelineData.{PipelineData, DataAgree, StaysLive, LeavesAlone, IsSettledIn}
use Rattle.crash_argument.proofs.log.Lists.{whole_list, get_behind, get_some}
use Rattle.crash_argument.proofs.steps.HeaderSteps.{cover-parts, leave_or_decide, alone_leaves}
use Rattle.crash_argument.proofs.pipe.InPlace.{numbered}

module _ (base : Blocks) (log : List Event) (l : Ledger) (keeps : IsConsistentWith base log l) (p : PipelineData) (k : DataAgree base log l p) (b : ℕ) (on : IsTrue (is_live l.geom (l.map_before (next_number l)) b)) where
  -- what all records leave, over what was written last, is the map
  whole : otherwise (cover None l.records b) (latest (cell_of base log b)) ≡ l.map_before (next_number l) b
  whole = keeps.home.map l.header l.records [] b (inl refl) (whole_list l ∙ sym (append-nil l.records)) keeps.known on

  parts : cover None l.records b ≡ cover (cover None k.placed b) (k.batch ++ k.rest) b
  parts = ap (λ (ws : List WrittenRecord). cover None ws b) k.is_batch.split ∙ cover-parts k.placed (k.batch ++ k.rest) None b

  -- a payload among them is the map's
  pub newest_payload : (y : List ℕ) → cover None (k.batch ++ k.rest) b ≡ Some y → l.map_before (next_number l) b ≡ y
  newest_payload y is = ⊎_elim (λ alone. absurd (none-some y (sym (alone_leaves (k.batch ++ k.rest) b None alone) ∙ is)))
      (λ decide. sym whole ∙ ap (λ o. otherwise o (latest (cell_of base log b))) (parts ∙ decide (cover None k.placed b) ∙ is)) (leave_or_decide (k.batch ++ k.rest) b)

  -- a block that no record from a place on names was live there
  live_back : ((i : ℕ) (w : WrittenRecord) → slice_get (k.batch ++ k.rest) i ≡ Some w → LeavesAlone w b) → (j : ℕ) → j ≤ length (k.batch ++ k.rest) → IsTrue (is_live l.geom (l.map_before (next_number l - j)) b)
  live_back alone zero le = subst (λ n. IsTrue (is_live l.geom (l.map_before n) b)) {x = next_number l} {y = next_number l - 0} (omega arith) on
  live_back alone (suc j) le =
      let total : length l.records ≡ length k.placed + length (k.batch ++ k.rest) = ap (λ (ws : List WrittenRecord). length ws) k.is_batch.split ∙ length-append k.placed (k.batch ++ k.rest) in
      let w = get_some (k.batch ++ k.rest) (length (k.batch ++ k.rest) - suc j) (omega (arith, le)) in
      let at : slice_get l.records (length k.placed + (length (k.batch ++ k.rest) - suc j)) ≡ Some w.0 = ap (λ (ws : List WrittenRecord). slice_get ws (length k.placed + (length (k.batch ++ k.rest) - suc j))) k.is_batch.split ∙ get_behind k.placed (k.batch ++ k.rest) (length (k.batch ++ k.rest) - suc j) ∙ w.1 in
      let number = numbered base log l keeps k.new (length k.placed + (length (k.batch ++ k.rest) - suc j)) w.0 at in
      let off = alone (length (k.batch ++ k.rest) - suc j) w.0 w.1 in
      subst (λ n. IsTrue (is_live l.geom (l.map_before n) b)) (omega (arith, number, total, le))
      (k.new.kept (length k.placed + (length (k.batch ++ k.rest) - suc j)) b w.0 at off.paid off.fresh (subst (λ n. IsTrue (is_live l.geom (l.map_before n) b)) (omega (arith, number, total, le)) (live_back alone j (omega (arith, le)))))

  -- and without one, what was written last is the map's
  pub newest_written : cover None (k.batch ++ k.rest) b ≡ None → l.map_before (next_number l) b ≡ latest (cell_of base log b)
  newest_written none = ⊎_elim alone decide (leave_or_decide (k.batch ++ k.rest) b)
    where
      by_placed : (o : Option (List ℕ)) → cover None k.placed b ≡ o → cover None l.records b ≡ o → ((i : ℕ) (w : WrittenRecord) → slice_get (k.batch ++ k.rest) i ≡ Some w → LeavesAlone w b) → l.map_before (next_number l) b ≡ latest (cell_of base log b)
      by_placed None placed all off = sym whole ∙ ap (λ o. otherwise o (latest (cell_of base log b))) all
      by_placed (Some x) placed all off = sym whole ∙ ap (λ o. otherwise o (latest (cell_of base log b))) all ∙ sym (settled_latest (k.at_home b x placed stays))
        where
          settled_latest : IsSettledIn (cell_of base log b) x → latest (cell_of base log b) ≡ x
          settled_latest s = ap (λ ws. last_of (cell_of base log b).settled ws) s.pending ∙ s.settled

          total : length l.records ≡ length k.placed + length (k.batch ++ k.rest)
          total = ap (λ (ws : List WrittenRecord). length ws) k.is_batch.split ∙ length-append k.placed (k.batch ++ k.rest)

          stays : StaysLive l (l.header.start + length k.placed) b
          stays = record {
            live = subst (λ n. IsTrue (is_live l.geom (l.map_before n) b)) (omega (arith, k.is_batch.sure, total, (keeps.headers.fits l.header (inl refl)).last)) (live_back off (next_number l - (l.header.sure + 1)) (omega (arith, k.is_batch.sure, total, (keeps.headers.fits l.header (inl refl)).last)));
            alone = λ i w is from upto. off (i - length k.placed) w (sym (get_behind k.placed (k.batch ++ k.rest) (i - length k.placed)) ∙ ap (slice_get (k.placed ++ (k.batch ++ k.rest))) (omega (arith, from, numbered base log l keeps k.new i w is)) ∙ ap (λ (ws : List WrittenRecord). slice_get ws i) (sym k.is_batch.split) ∙ is);
          }

      alone : ((i : ℕ) (w : WrittenRecord) → slice_get (k.batch ++ k.rest) i ≡ Some w → LeavesAlone w b) → l.map_before (next_number l) b ≡ latest (cell_of base log b)
      alone off = by_placed (cover None k.placed b) refl (parts ∙ alone_leaves (k.batch ++ k.rest) b (cover None k.placed b) off) off

      decide : ((o : Option (List ℕ)) → cover o (k.batch ++ k.rest) b ≡ cover None (k.batch ++ k.rest) b) → l.map_before (next_number l) b ≡ latest (cell_of base log b)
      decide d = sym whole ∙ ap (λ o. otherwise o (latest (cell_of base log b))) (parts ∙ d (cover None k.placed b) ∙ none)
