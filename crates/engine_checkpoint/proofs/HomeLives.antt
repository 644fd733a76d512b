-- A block that a batch has to bring home, and that lives on, has a newest payload in all records that aren't placed: no record behind the sure ones took it away.
use Rattle.std.proofs.Common.{◌≡◌, ◌⊎◌, inl, inr, ⊎_elim, ℕ, zero, suc, ◌+◌, ◌-◌, ◌<◌, ◌≤◌, ◌==◌, nat_lt, Bool, true, false, IsTrue, if◌then◌else◌, List, [], ◌∷◌, length, take, drop, map, slice_get, Option, Some, None, refl, sym, ◌∙◌, ap, ap₂, subst, arith, length-drop}
use Rattle.std.proofs.lemmas.Bool.Decides.{nat_tests}
use Rattle.std.proofs.lemmas.Bool.{false≢true, eqb-true, and_parts, cond-false}
use Rattle.layout_journal.specs.declared.entry.Entry.{Entry}
use Rattle.layout_journal.specs.Run.{names_block, or_else, is_live}
use Rattle.crash_argument.specs.Ledger.{Ledger, WrittenRecord, IsConsistentWith, payload_in, next_number}
use Rattle.crash_argument.specs.LastWrites.{FreshAreNew}
use Rattle.crash_argument.specs.HomeTest.{is_one_of, goes_after, goes_home, AreFreedBy}
use Rattle.crash_argument.specs.PipelineData.{PipelineData, DataAgree, NeedsCheckpoint, with_batch}
use Rattle.base_types.specs.Seal.{Blocks}
use Rattle.disk_contract.specs.declared.event.Event.{Event}
use Rattle.layout_journal.specs.Ring.{RingPlaces}
use Rattle.engine_checkpoint.specs.declared.pipeline.Pipeline.{Pipeline}
use Rattle.engine_checkpoint.specs.Agree.{PipelineAgrees, data_of}
use Rattle.engine_checkpoint.specs.Bytes.{HasNewest, IsLiveNow}
use Rattle.engine_checkpoint.specs.Kept.{kept, of_sure, newest_in}
use Rattle.engine_checkpoint.specs.Turns.{is_batch_due}
use Rattle.engine_checkpoint.proofs.Added.{drop_more}
use Rattle.engine_checkpoint.proofs.HomeBytes.{home_is_newest}
use Rattle.engine_checkpoint.proofs.Lists.{get_drop}
use Rattle.engine_checkpoint.proofs.Told.{newest_goes_home}

named_at : (es : List Entry) (b : ℕ) → names_block es b ≡ true → (i : ℕ) × (e : Entry) × (slice_get es i ≡ Some e) × (e.block ≡ b)
named_at [] b is = absurd (false≢true is)
named_at (e ∷ es) b is = by (e.block == b) refl is (λ rest. named_at es b rest)
  where
    by : (v : Bool) → (e.block == b) ≡ v → (if v then true else names_block es b) ≡ true → (names_block es b ≡ true → (i : ℕ) × (f : Entry) × (slice_get es i ≡ Some f) × (f.block ≡ b)) → (i : ℕ) × (f : Entry) × (slice_get (e ∷ es) i ≡ Some f) × (f.block ≡ b)
    by true same is more = (0, e, refl, eqb-true e.block b same)
    by false other is more = let r = more is in (suc r.0, r.1, r.2, r.3)

module _ (l : Ledger) (new : FreshAreNew l) (freed : List (List ℕ)) (are : AreFreedBy l freed) (b : ℕ) (stands : IsTrue (is_live l.geom (l.map_before (l.header.sure + 1)) b)) where
  abbrev live : ℕ → Bool
  live n = is_live l.geom (l.map_before n) b

  -- these records give the block a payload whatever was before, or the block was live before them and they leave it alone
  abbrev Keeps : ℕ → List WrittenRecord → List (List ℕ) → Type 0
  Keeps n ws fs = ((y : List ℕ) × ((g : Option (List ℕ)) → goes_home g ws fs b ≡ Some y)) ⊎ (IsTrue (live n) × ((g : Option (List ℕ)) → goes_home g ws fs b ≡ g))

  one : (k : ℕ) (w : WrittenRecord) (f : List ℕ) (ws : List WrittenRecord) (fs : List (List ℕ)) → slice_get l.records k ≡ Some w → slice_get freed k ≡ Some f → l.header.sure < w.says.number → IsTrue (live (w.says.number + 1)) → ((g : Option (List ℕ)) → goes_home g ws fs b ≡ g) → Keeps w.says.number (w ∷ ws) (f ∷ fs)
  one k w f ws fs is at behind lives goes = by_free (is_one_of b f) refl
    where
      free : is_one_of b f ≡ false → (g : Option (List ℕ)) → goes_after g w f b ≡ or_else (payload_in w b) (if names_block w.says.fresh b then None else g)
      free e g = cond-false (is_one_of b f) None (or_else (payload_in w b) (if names_block w.says.fresh b then None else g)) e

      by_fresh : is_one_of b f ≡ false → payload_in w b ≡ None → (v : Bool) → names_block w.says.fresh b ≡ v → Keeps w.says.number (w ∷ ws) (f ∷ fs)
      by_fresh e none true fresh = let r = named_at w.says.fresh b fresh in absurd (false≢true (sym (ap live_at (sym r.3) ∙ new.dead k r.0 (l.header.sure + 1) w r.1 is (omega arith) (omega (arith, behind)) r.2) ∙ stands))
        where
          live_at : ℕ → Bool
          live_at c = is_live l.geom (l.map_before (l.header.sure + 1)) c
      by_fresh e none false fresh = inr (new.kept k b w is none fresh lives, λ g. goes (goes_after g w f b) ∙ free e g ∙ ap₂ (λ o (v : Bool). or_else o (if v then None else g)) none fresh)

      by_paid : is_one_of b f ≡ false → (o : Option (List ℕ)) → payload_in w b ≡ o → Keeps w.says.number (w ∷ ws) (f ∷ fs)
      by_paid e (Some y) paid = inl (y, λ g. goes (goes_after g w f b) ∙ free e g ∙ ap (λ o. or_else o (if names_block w.says.fresh b then None else g)) paid)
      by_paid e None paid = by_fresh e paid (names_block w.says.fresh b) refl

      by_free : (v : Bool) → is_one_of b f ≡ v → Keeps w.says.number (w ∷ ws) (f ∷ fs)
      by_free true e = absurd (false≢true (sym (are.dead k b w f is at e) ∙ lives))
      by_free false e = by_paid e (payload_in w b) refl

  module _ (numbers : (k : ℕ) (w : WrittenRecord) → slice_get l.records k ≡ Some w → w.says.number ≡ l.header.start + k) where
    rows : (ws : List WrittenRecord) (fs : List (List ℕ)) (at : ℕ) → l.header.sure < l.header.start + at → length ws ≡ length fs → ((i : ℕ) (w : WrittenRecord) → slice_get ws i ≡ Some w → slice_get l.records (at + i) ≡ Some w) → ((i : ℕ) (f : List ℕ) → slice_get fs i ≡ Some f → slice_get freed (at + i) ≡ Some f)
        → IsTrue (live (l.header.start + at + length ws)) → Keeps (l.header.start + at) ws fs
    rows [] fs at behind same members lists lives = grind (arith, nat_tests)
    rows (w ∷ ws) [] at behind same members lists lives = absurd (omega (arith, same))
    rows (w ∷ ws) (f ∷ fs) at behind same members lists lives =
        let here : slice_get l.records at ≡ Some w = ap (slice_get l.records) (z at) ∙ members 0 w refl in
        let own : slice_get freed at ≡ Some f = ap (slice_get freed) (z at) ∙ lists 0 f refl in
        let number : w.says.number ≡ l.header.start + at = numbers at w here in
        ⊎_elim (λ d. inl (d.0, λ g. d.1 (goes_after g w f b)))
        (λ r. subst (λ n. Keeps n (w ∷ ws) (f ∷ fs)) number (one at w f ws fs here own (omega (arith, number, behind)) (subst (λ n. IsTrue (live n)) (t l.header.start at w.says.number number) r.0) r.1))
        (rows ws fs (at + 1) (omega (arith, behind)) (omega (arith, same)) (λ i u u_is. ap (slice_get l.records) (s at i) ∙ members (suc i) u u_is) (λ i g g_is. ap (slice_get freed) (s at i) ∙ lists (suc i) g g_is) (subst (λ n. IsTrue (live n)) (m l.header.start at (length ws)) lives))
      where
        z : (n : ℕ) → n ≡ n + 0
        z n = omega arith

        s : (n i : ℕ) → n + 1 + i ≡ n + suc i
        s n i = omega arith

        t : (n i k : ℕ) → k ≡ n + i → n + (i + 1) ≡ k + 1
        t n i k e = omega (arith, e)

        m : (n i k : ℕ) → n + i + suc k ≡ n + (i + 1) + k
        m n i k = omega arith

    -- a payload of the records before this one is followed by another or stays
    pub payload_stays : (n : ℕ) (x : List ℕ) → l.header.sure < l.header.start + n → n ≤ length l.records → IsTrue (live (next_number l)) → (y : List ℕ) × (goes_home (Some x) (drop n l.records) (drop n freed) b ≡ Some y)
    payload_stays n x behind few lives = ⊎_elim (λ d. (d.0, d.1 (Some x))) (λ r. (x, r.1 (Some x)))
        (rows (drop n l.records) (drop n freed) n behind (omega (arith, are.count, length-drop n l.records, length-drop n freed)) (λ i w is. sym (get_drop n l.records i) ∙ is) (λ i f is. sym (get_drop n freed i) ∙ is)
        (subst (λ k. IsTrue (live k)) (e l.header.start n (length l.records) (length (drop n l.records)) few (length-drop n l.records)) lives))
      where
        e : (a n k d : ℕ) → n ≤ k → d ≡ k - n → a + k ≡ a + n + d
        e a n k d le is = omega (arith, le, is)

-- The records in two parts.

goes_none : (g : Option (List ℕ)) (ws : List WrittenRecord) (b : ℕ) → g ≡ goes_home g ws [] b
goes_none g [] b = refl
goes_none g (w ∷ ws) b = refl

goes_split : (m : ℕ) (g : Option (List ℕ)) (ws : List WrittenRecord) (fs : List (List ℕ)) (b : ℕ) → goes_home g ws fs b ≡ goes_home (goes_home g (take m ws) (take m fs) b) (drop m ws) (drop m fs) b
goes_split zero g ws fs b = refl
goes_split (suc m) g [] fs b = refl
goes_split (suc m) g (w ∷ ws) [] b = goes_none g (drop m ws) b
goes_split (suc m) g (w ∷ ws) (f ∷ fs) b = goes_split m (goes_after g w f b) ws fs b

-- a payload of the sure records for a block that was live after them and lives on: the records behind them leave it the newest, or have a newer one
pub newest_stays : {base : Blocks} {log : List Event} {l : Ledger} {v : Pipeline} {ring : RingPlaces} {waiting : List (ℕ × ℕ)} {taken : List ℕ} (a : PipelineAgrees base log l v ring waiting taken) (b : ℕ) (x : List ℕ)
    → ((k : ℕ) (w : WrittenRecord) → slice_get l.records k ≡ Some w → w.says.number ≡ l.header.start + k) → IsTrue (is_live l.geom (l.map_before (l.header.sure + 1)) b) → IsTrue (is_live l.geom (l.map_before (next_number l)) b)
    → newest_in None (map of_sure v.sure.items) b ≡ Some x → (y : List ℕ) × (newest_in None (kept v) b ≡ Some y)
newest_stays {base} {log} {l} {v} {ring} {waiting} {taken} a b x numbers stands lives newest =
    let placed = length v.placed.items in
    let sures = length v.sure.items in
    let r = payload_stays l a.agree.new a.freed a.freed_by b stands numbers (placed + sures) x (omega (arith, a.sure)) (omega (arith, a.count)) lives in (
      r.0,
      newest_goes_home a b ∙ goes_split sures None (drop placed l.records) (drop placed a.freed) b
          ∙ ap (λ o. goes_home o (drop sures (drop placed l.records)) (drop sures (drop placed a.freed)) b) (home_is_newest base log l v ring waiting taken a b ∙ newest)
          ∙ ap₂ (λ ws fs. goes_home (Some x) ws fs b) (drop_more sures placed l.records) (drop_more sures placed a.freed) ∙ r.1,
    )

-- The batch as it begins.

-- the batch that begins, as the crash argument has it
abbrev begun_data : Pipeline → RingPlaces → List (ℕ × ℕ) → PipelineData
begun_data v ring waiting = with_batch (data_of v ring waiting) (length v.sure.items)

module _ (base : Blocks) (log : List Event) (l : Ledger) (v : Pipeline) (ring : RingPlaces) (waiting : List (ℕ × ℕ)) (taken : List ℕ) (a : PipelineAgrees base log l v ring waiting taken) (keeps : IsConsistentWith base log l)
    (begins : (base : Blocks) (log : List Event) (l : Ledger) (p : PipelineData) (count : ℕ) → IsConsistentWith base log l → DataAgree base log l p → p.batch ≡ 0 → l.header.start + p.placed + count ≡ l.header.sure + 1 → DataAgree base log l (with_batch p count))
    (tells : (base : Blocks) (log : List Event) (l : Ledger) (p : PipelineData) → (k : DataAgree base log l p) → k.batch ≡ take p.batch (drop p.placed l.records))
    (needs : (base : Blocks) (log : List Event) (l : Ledger) (p : PipelineData) (freed : List (List ℕ)) (b : ℕ) (x : List ℕ) → IsConsistentWith base log l → (k : DataAgree base log l p) → AreFreedBy l freed → l.header.start + p.placed + p.batch ≡ l.header.sure + 1
    → goes_home None k.batch (take p.batch (drop p.placed freed)) b ≡ Some x → NeedsCheckpoint l k.batch b x) where
  -- a block that goes home was live after the last sure record
  pub live_then : v.batch ≡ 0 → (b : ℕ) (x : List ℕ) → newest_in None (map of_sure v.sure.items) b ≡ Some x → IsTrue (is_live l.geom (l.map_before (l.header.sure + 1)) b)
  live_then none b x newest =
      let p = begun_data v ring waiting in
      let agree = begins base log l (data_of v ring waiting) (length v.sure.items) keeps a.agree none a.sure in
      let test = ap (λ (ws : List WrittenRecord). goes_home None ws (take p.batch (drop p.placed a.freed)) b) (tells base log l p agree) ∙ home_is_newest base log l v ring waiting taken a b ∙ newest in
      (needs base log l p a.freed b x keeps agree a.freed_by a.sure test).live

  -- where it lives on, it has a newest payload in all records
  pub home_lives : ((k : ℕ) (w : WrittenRecord) → slice_get l.records k ≡ Some w → w.says.number ≡ l.header.start + k) → is_batch_due v ≡ true → (b : ℕ) (x : List ℕ) → newest_in None (map of_sure v.sure.items) b ≡ Some x → IsLiveNow l b → HasNewest v b
  home_lives numbers due b x newest lives = newest_stays a b x numbers (live_then (eqb-true v.batch 0 (and_parts (v.batch == 0) (nat_lt 0 (length v.sure.items)) due).0) b x newest) lives newest
