-- What the newest payloads are on a disk that tells: those of the ledger's records that aren't placed, and so the newest bytes of live blocks.
use Rattle.std.proofs.Common.{◌≡◌, ◌⊎◌, inl, inr, ⊎_elim, ℕ, zero, suc, ◌+◌, ◌-◌, ◌≤◌, Bool, true, false, IsTrue, if◌then◌else◌, List, [], ◌∷◌, ◌++◌, length, take, drop, map, slice_get, Option, Some, None, refl, sym, ◌∙◌, ap, ap₂, subst, arith, length-append, length-drop}
use Rattle.std.proofs.lemmas.Bool.Decides.{nat_tests}
use Rattle.std.proofs.lemmas.Bool.{false≢true, cond-false}
use Rattle.std.proofs.lemmas.List.{length-map}
use Rattle.std.proofs.lemmas.Option.{same_Some, none-some}
use Rattle.base_types.specs.Seal.{Blocks}
use Rattle.disk_contract.specs.declared.event.Event.{Event}
use Rattle.layout_journal.specs.Ring.{RingPlaces}
use Rattle.layout_journal.specs.Run.{names_block, or_else, is_live}
use Rattle.crash_argument.specs.Ledger.{Ledger, WrittenRecord, payload_in, cover, next_number}
use Rattle.crash_argument.specs.LastWrites.{FreshAreNew}
use Rattle.crash_argument.specs.HomeTest.{is_one_of, goes_after, goes_home, AreFreedBy}
use Rattle.engine_running.specs.declared.put.Put.{Put}
use Rattle.engine_running.specs.Rows.{put_of}
use Rattle.engine_running.specs.declared.commit.Committed.{Committed}
use Rattle.engine_running.specs.declared.states.Durable.{Durable}
use Rattle.engine_running.specs.declared.states.Sure.{Sure}
use Rattle.engine_checkpoint.specs.declared.pipeline.Pipeline.{Pipeline}
use Rattle.engine_checkpoint.specs.Agree.{PipelineAgrees, IsRecordAt, durable_count}
use Rattle.engine_checkpoint.specs.Kept.{Kept, of_committed, of_durable, of_sure, kept, newest_after, newest_in}
use Rattle.engine_checkpoint.proofs.Lists.{either, get_drop}

-- ---- the records that aren't placed are those of the ledger

-- the record at this place of the ledger is this one, of which a state keeps so much
pub record IsKeptAt (l : Ledger) (freed : List (List ℕ)) (at : ℕ) (k : Kept) : Type 0 where
  pub written : WrittenRecord
  pub is : slice_get l.records at ≡ Some written
  pub paid : (b : ℕ) → payload_in written b ≡ put_of b k.payloads
  pub laid : (b : ℕ) → names_block written.says.fresh b ≡ is_one_of b k.fresh
  pub freed_is : slice_get freed at ≡ Some k.freed

kept_at : (l : Ledger) (freed : List (List ℕ)) (at number place count : ℕ) (payloads : List Put) (fresh own_freed : List ℕ) → IsRecordAt l freed at number place count payloads fresh own_freed → IsKeptAt l freed at (record { number = number; count = count; payloads = payloads; fresh = fresh; freed = own_freed })
kept_at l freed at number place count payloads fresh own_freed r = record { written = r.written; is = r.is; paid = r.keeps.paid; laid = r.keeps.laid; freed_is = r.freed_is }

mapped_at : {A B : Type 0} (f : A → B) (xs : List A) (i : ℕ) (y : B) → slice_get (map f xs) i ≡ Some y → (x : A) × (slice_get xs i ≡ Some x) × (f x ≡ y)
mapped_at f [] i y is = absurd (none-some y is)
mapped_at f (x ∷ xs) zero y is = (x, refl, same_Some _ _ is)
mapped_at f (x ∷ xs) (suc i) y is = mapped_at f xs i y is

module _ {base : Blocks} {log : List Event} {l : Ledger} {v : Pipeline} {ring : RingPlaces} {waiting : List (ℕ × ℕ)} {taken : List ℕ} (a : PipelineAgrees base log l v ring waiting taken) where
  abbrev pub placed : ℕ
  placed = length v.placed.items

  pub each_kept : (i : ℕ) (k : Kept) → slice_get (kept v) i ≡ Some k → IsKeptAt l a.freed (placed + i) k
  each_kept i k is = ⊎_elim sure behind (either (map of_sure v.sure.items) (map of_durable v.durable.items ++ map of_committed v.committed.items) i k is)
    where
      at : (n m : ℕ) (j : Kept) → n ≡ m → j ≡ k → IsKeptAt l a.freed n j → IsKeptAt l a.freed m k
      at n m j e f r = subst (λ w. IsKeptAt l a.freed m w) f (subst (λ o. IsKeptAt l a.freed o j) e r)

      sure : slice_get (map of_sure v.sure.items) i ≡ Some k → IsKeptAt l a.freed (placed + i) k
      sure s = by (mapped_at of_sure v.sure.items i k s)
        where
          by : (t : Sure) × (slice_get v.sure.items i ≡ Some t) × (of_sure t ≡ k) → IsKeptAt l a.freed (placed + i) k
          by (t, t_is, e) = at (placed + i) (placed + i) (of_sure t) refl e (kept_at l a.freed (placed + i) t.number t.place t.count t.payloads.items t.fresh.items t.freed.items (a.sure_at i t t_is))

      durable : (j : ℕ) → i ≡ length (map of_sure v.sure.items) + j → slice_get (map of_durable v.durable.items) j ≡ Some k → IsKeptAt l a.freed (placed + i) k
      durable j e d = by (mapped_at of_durable v.durable.items j k d)
        where
          by : (t : Durable) × (slice_get v.durable.items j ≡ Some t) × (of_durable t ≡ k) → IsKeptAt l a.freed (placed + i) k
          by (t, t_is, f) = at (placed + length v.sure.items + j) (placed + i) (of_durable t) (omega (arith, e, length-map v.sure.items of_sure)) f (kept_at l a.freed (placed + length v.sure.items + j) t.number t.place t.count t.payloads.items t.fresh.items t.freed.items (a.durable_at j t t_is))

      committed : (j n : ℕ) → i ≡ length (map of_sure v.sure.items) + j → j ≡ length (map of_durable v.durable.items) + n → slice_get (map of_committed v.committed.items) n ≡ Some k → IsKeptAt l a.freed (placed + i) k
      committed j n e f c = by (mapped_at of_committed v.committed.items n k c)
        where
          by : (t : Committed) × (slice_get v.committed.items n ≡ Some t) × (of_committed t ≡ k) → IsKeptAt l a.freed (placed + i) k
          by (t, t_is, g) = at (durable_count v + n) (placed + i) (of_committed t) (omega (arith, e, f, length-map v.sure.items of_sure, length-map v.durable.items of_durable)) g (kept_at l a.freed (durable_count v + n) t.number t.place t.count t.payloads.items t.fresh.items t.freed.items (a.committed_at n t t_is))

      behind : (j : ℕ) × (i ≡ length (map of_sure v.sure.items) + j) × (slice_get (map of_durable v.durable.items ++ map of_committed v.committed.items) j ≡ Some k) → IsKeptAt l a.freed (placed + i) k
      behind (j, e, is_j) = ⊎_elim (durable j e) (λ r. committed j r.0 e r.1 r.2) (either (map of_durable v.durable.items) (map of_committed v.committed.items) j k is_j)

  pub kept_count : length (kept v) ≡ length (drop placed l.records)
  kept_count = omega (arith, a.count, length-drop placed l.records, length-append (map of_sure v.sure.items) (map of_durable v.durable.items ++ map of_committed v.committed.items), length-append (map of_durable v.durable.items) (map of_committed v.committed.items), length-map v.sure.items of_sure, length-map v.durable.items of_durable, length-map v.committed.items of_committed)

-- ---- the newest payloads go home

-- what a state keeps of a block is what its record says of it
pub record SaysTheSame (b : ℕ) (k : Kept) (w : WrittenRecord) (f : List ℕ) : Type 0 where
  pub paid : payload_in w b ≡ put_of b k.payloads
  pub laid : names_block w.says.fresh b ≡ is_one_of b k.fresh
  pub freed_is : f ≡ k.freed

step_same : (b : ℕ) (k : Kept) (w : WrittenRecord) (f : List ℕ) (x : Option (List ℕ)) → SaysTheSame b k w f → newest_after x k b ≡ goes_after x w f b
step_same b k w f x e = grind (arith, nat_tests)

rows_same : (b : ℕ) (ks : List Kept) (ws : List WrittenRecord) (fs : List (List ℕ)) (x : Option (List ℕ)) → length ks ≡ length ws → length ws ≡ length fs
    → ((i : ℕ) (k : Kept) (w : WrittenRecord) (f : List ℕ) → slice_get ks i ≡ Some k → slice_get ws i ≡ Some w → slice_get fs i ≡ Some f → SaysTheSame b k w f) → newest_in x ks b ≡ goes_home x ws fs b
rows_same b [] [] fs x few same each = refl
rows_same b [] (w ∷ ws) fs x few same each = absurd (omega (arith, few))
rows_same b (k ∷ ks) [] fs x few same each = absurd (omega (arith, few))
rows_same b (k ∷ ks) (w ∷ ws) [] x few same each = absurd (omega (arith, same))
rows_same b (k ∷ ks) (w ∷ ws) (f ∷ fs) x few same each =
    ap (λ y. newest_in y ks b) (step_same b k w f x (each 0 k w f refl refl refl))
    ∙ rows_same b ks ws fs (goes_after x w f b) (omega (arith, few)) (omega (arith, same)) (λ i j u g at_i at_u at_g. each (suc i) j u g at_i at_u at_g)

pub newest_goes_home : {base : Blocks} {log : List Event} {l : Ledger} {v : Pipeline} {ring : RingPlaces} {waiting : List (ℕ × ℕ)} {taken : List ℕ} (a : PipelineAgrees base log l v ring waiting taken) (b : ℕ)
    → newest_in None (kept v) b ≡ goes_home None (drop (length v.placed.items) l.records) (drop (length v.placed.items) a.freed) b
newest_goes_home {base} {log} {l} {v} {ring} {waiting} {taken} a b = rows_same b (kept v) (drop (length v.placed.items) l.records) (drop (length v.placed.items) a.freed) None (kept_count a) (omega (arith, a.freed_by.count, length-drop (length v.placed.items) l.records, length-drop (length v.placed.items) a.freed)) each
  where
    each : (i : ℕ) (k : Kept) (w : WrittenRecord) (f : List ℕ) → slice_get (kept v) i ≡ Some k → slice_get (drop (length v.placed.items) l.records) i ≡ Some w → slice_get (drop (length v.placed.items) a.freed) i ≡ Some f → SaysTheSame b k w f
    each i k w f at_k at_w at_f =
        let r = each_kept a i k at_k in
        let same : r.written ≡ w = same_Some _ _ (sym r.is ∙ sym (get_drop (length v.placed.items) l.records i) ∙ at_w) in
        record {
          paid = ap (λ (u : WrittenRecord). payload_in u b) (sym same) ∙ r.paid b;
          laid = ap (λ (u : WrittenRecord). names_block u.says.fresh b) (sym same) ∙ r.laid b;
          freed_is = same_Some _ _ (sym at_f ∙ get_drop (length v.placed.items) a.freed i ∙ r.freed_is);
        }

-- ---- and a live block has what the records cover it with

module _ (l : Ledger) (new : FreshAreNew l) (freed : List (List ℕ)) (are : AreFreedBy l freed) (numbers : (k : ℕ) (w : WrittenRecord) → slice_get l.records k ≡ Some w → w.says.number ≡ l.header.start + k) (b : ℕ) where
  abbrev live : ℕ → Bool
  live n = is_live l.geom (l.map_before n) b

  abbrev covered : Option (List ℕ) → WrittenRecord → Option (List ℕ)
  covered c w = or_else (payload_in w b) (if names_block w.says.fresh b then None else c)

  -- whatever was before, these records decide, and alike
  abbrev Decides : List WrittenRecord → List (List ℕ) → Type 0
  Decides ws fs = (c g : Option (List ℕ)) → cover c ws b ≡ goes_home g ws fs b

  -- the block was live before these records, and they leave it alone
  abbrev Leaves : ℕ → List WrittenRecord → List (List ℕ) → Type 0
  Leaves n ws fs = IsTrue (live n) × ((c : Option (List ℕ)) → cover c ws b ≡ c) × ((g : Option (List ℕ)) → goes_home g ws fs b ≡ g)

  -- one record before these
  one : (k : ℕ) (w : WrittenRecord) (f : List ℕ) (ws : List WrittenRecord) (fs : List (List ℕ)) → slice_get l.records k ≡ Some w → slice_get freed k ≡ Some f → Leaves (w.says.number + 1) ws fs → Decides (w ∷ ws) (f ∷ fs) ⊎ Leaves w.says.number (w ∷ ws) (f ∷ fs)
  one k w f ws fs is at (lives, covers, goes) = by_free (is_one_of b f) refl
    where
      free : is_one_of b f ≡ false → (g : Option (List ℕ)) → goes_after g w f b ≡ or_else (payload_in w b) (if names_block w.says.fresh b then None else g)
      free e g = cond-false (is_one_of b f) None (or_else (payload_in w b) (if names_block w.says.fresh b then None else g)) e

      by_fresh : is_one_of b f ≡ false → payload_in w b ≡ None → (v : Bool) → names_block w.says.fresh b ≡ v → Decides (w ∷ ws) (f ∷ fs) ⊎ Leaves w.says.number (w ∷ ws) (f ∷ fs)
      by_fresh e none true fresh = inl (λ c g. covers (covered c w) ∙ same c ∙ sym (goes (goes_after g w f b) ∙ free e g ∙ same g))
        where
          same : (c : Option (List ℕ)) → covered c w ≡ None
          same c = ap₂ (λ o (v : Bool). or_else o (if v then None else c)) none fresh
      by_fresh e none false fresh = inr (new.kept k b w is none fresh lives, λ c. covers (covered c w) ∙ same c, λ g. goes (goes_after g w f b) ∙ free e g ∙ same g)
        where
          same : (c : Option (List ℕ)) → covered c w ≡ c
          same c = ap₂ (λ o (v : Bool). or_else o (if v then None else c)) none fresh

      by_paid : is_one_of b f ≡ false → (o : Option (List ℕ)) → payload_in w b ≡ o → Decides (w ∷ ws) (f ∷ fs) ⊎ Leaves w.says.number (w ∷ ws) (f ∷ fs)
      by_paid e (Some y) paid = inl (λ c g. covers (covered c w) ∙ same c ∙ sym (goes (goes_after g w f b) ∙ free e g ∙ same g))
        where
          same : (c : Option (List ℕ)) → covered c w ≡ Some y
          same c = ap (λ o. or_else o (if names_block w.says.fresh b then None else c)) paid
      by_paid e None paid = by_fresh e paid (names_block w.says.fresh b) refl

      by_free : (v : Bool) → is_one_of b f ≡ v → Decides (w ∷ ws) (f ∷ fs) ⊎ Leaves w.says.number (w ∷ ws) (f ∷ fs)
      by_free true e = absurd (false≢true (sym (are.dead k b w f is at e) ∙ lives))
      by_free false e = by_paid e (payload_in w b) refl

  rows : (ws : List WrittenRecord) (fs : List (List ℕ)) (at : ℕ) → length ws ≡ length fs → ((i : ℕ) (w : WrittenRecord) → slice_get ws i ≡ Some w → slice_get l.records (at + i) ≡ Some w) → ((i : ℕ) (f : List ℕ) → slice_get fs i ≡ Some f → slice_get freed (at + i) ≡ Some f)
      → IsTrue (live (l.header.start + at + length ws)) → Decides ws fs ⊎ Leaves (l.header.start + at) ws fs
  rows [] fs at same members lists lives = grind (arith, nat_tests)
  rows (w ∷ ws) [] at same members lists lives = absurd (omega (arith, same))
  rows (w ∷ ws) (f ∷ fs) at same members lists lives =
      let here : slice_get l.records at ≡ Some w = ap (slice_get l.records) (z at) ∙ members 0 w refl in
      let own : slice_get freed at ≡ Some f = ap (slice_get freed) (z at) ∙ lists 0 f refl in
      let number : w.says.number ≡ l.header.start + at = numbers at w here in
      ⊎_elim (λ (d : Decides ws fs). inl (λ c g. d (covered c w) (goes_after g w f b)))
      (λ (r : Leaves (l.header.start + (at + 1)) ws fs). back number (one at w f ws fs here own (subst (λ n. Leaves n ws fs) (t l.header.start at w.says.number number) r)))
      (rows ws fs (at + 1) (omega (arith, same)) (λ i u u_is. ap (slice_get l.records) (s at i) ∙ members (suc i) u u_is) (λ i g g_is. ap (slice_get freed) (s at i) ∙ lists (suc i) g g_is) (subst (λ n. IsTrue (live n)) (m l.header.start at (length ws)) lives))
    where
      z : (n : ℕ) → n ≡ n + 0
      z n = omega arith

      s : (n i : ℕ) → n + 1 + i ≡ n + suc i
      s n i = omega arith

      t : (n i k : ℕ) → k ≡ n + i → n + (i + 1) ≡ k + 1
      t n i k e = omega (arith, e)

      m : (n i k : ℕ) → n + i + suc k ≡ n + (i + 1) + k
      m n i k = omega arith

      back : w.says.number ≡ l.header.start + at → Decides (w ∷ ws) (f ∷ fs) ⊎ Leaves w.says.number (w ∷ ws) (f ∷ fs) → Decides (w ∷ ws) (f ∷ fs) ⊎ Leaves (l.header.start + at) (w ∷ ws) (f ∷ fs)
      back e r = ⊎_elim inl (λ (x : Leaves w.says.number (w ∷ ws) (f ∷ fs)). inr (subst (λ n. Leaves n (w ∷ ws) (f ∷ fs)) e x)) r

  -- all records from one on
  pub covers_from : (n : ℕ) → n ≤ length l.records → IsTrue (live (next_number l)) → cover None (drop n l.records) b ≡ goes_home None (drop n l.records) (drop n freed) b
  covers_from n few lives = ⊎_elim (λ (d : Decides (drop n l.records) (drop n freed)). d None None) (λ (r : Leaves (l.header.start + n) (drop n l.records) (drop n freed)). r.1 None ∙ sym (r.2 None))
      (rows (drop n l.records) (drop n freed) n (omega (arith, are.count, length-drop n l.records, length-drop n freed)) (λ i w is. sym (get_drop n l.records i) ∙ is) (λ i f is. sym (get_drop n freed i) ∙ is)
      (subst (λ k. IsTrue (live k)) (e l.header.start n (length l.records) (length (drop n l.records)) few (length-drop n l.records)) lives))
    where
      e : (a n k d : ℕ) → n ≤ k → d ≡ k - n → a + k ≡ a + n + d
      e a n k d le is = omega (arith, le, is)

take_and_drop : {A : Type 0} (n : ℕ) (xs : List A) → take n xs ++ drop n xs ≡ xs
take_and_drop zero xs = refl
take_and_drop (suc n) [] = refl
take_and_drop (suc n) (x ∷ xs) = ap (λ ys. x ∷ ys) (take_and_drop n xs)

-- what the batch and the records behind it cover a live block with is its newest payload
pub covered_is_newest : {base : Blocks} {log : List Event} {l : Ledger} {v : Pipeline} {ring : RingPlaces} {waiting : List (ℕ × ℕ)} {taken : List ℕ} (a : PipelineAgrees base log l v ring waiting taken) (batch rest : List WrittenRecord) (b : ℕ)
    → ((k : ℕ) (w : WrittenRecord) → slice_get l.records k ≡ Some w → w.says.number ≡ l.header.start + k) → batch ≡ take v.batch (drop (length v.placed.items) l.records) → rest ≡ drop v.batch (drop (length v.placed.items) l.records)
    → IsTrue (is_live l.geom (l.map_before (next_number l)) b) → cover None (batch ++ rest) b ≡ newest_in None (kept v) b
covered_is_newest {base} {log} {l} {v} {ring} {waiting} {taken} a batch rest b numbers batch_is rest_is lives =
    ap (λ ws. cover None ws b) (ap₂ (λ xs ys. xs ++ ys) batch_is rest_is ∙ take_and_drop v.batch (drop (length v.placed.items) l.records))
    ∙ covers_from l a.agree.new a.freed a.freed_by numbers b (length v.placed.items) (omega (arith, a.count)) lives
    ∙ sym (newest_goes_home a b)
