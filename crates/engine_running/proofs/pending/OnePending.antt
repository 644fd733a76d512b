-- A record's writes go to idle blocks, each to another one: so no block has two writes pending after them.
use Rattle.std.proofs.Common.{◌≡◌, ◌≢◌, ◌⊎◌, inl, inr, ⊎_elim, ℕ, zero, suc, ◌+◌, ◌-◌, ◌%◌, ◌<◌, ◌≤◌, ◌==◌, Bool, true, false, List, [], ◌∷◌, ◌++◌, length, map, slice_get, Some, refl, sym, ◌∙◌, ap, subst, arith, option_map}
use Rattle.std.proofs.lemmas.Bool.Decides.{nat_tests}
use Rattle.std.proofs.lemmas.Bool.{eqb-true, false≢true, cond-false}
use Rattle.std.proofs.lemmas.Nat.{mod_below}
use Rattle.std.proofs.lemmas.List.{length-map}
use Rattle.std.proofs.lemmas.Option.{same_Some, none-some, slice_get_within, slice_get-map}
use Rattle.base_types.specs.Seal.{Blocks}
use Rattle.disk_contract.specs.declared.event.Event.{Event}
use Rattle.disk_contract.specs.declared.event.Event.TheVariants.{Wrote, Lost}
use Rattle.disk_contract.specs.Cell.{cell_of}
use Rattle.disk_contract.specs.Logs.{other_wrote}
use Rattle.layout_geometry.specs.Geometry.{Geometry, ring_block, bitmap_start}
use Rattle.layout_journal.specs.Spelling.{commit_block}
use Rattle.layout_journal.specs.Run.{heads, places, commit_says}
use Rattle.crash_argument.specs.Ledger.{Ledger}
use Rattle.crash_argument.specs.HomeTest.{is_one_of}
use Rattle.crash_argument.specs.OnePending.{IsIdle, HasOnePending, AreOfRecord}
use Rattle.crash_argument.specs.PipelineData.{PipelineData}
use Rattle.engine_running.specs.declared.put.Put.{Put}
use Rattle.engine_running.specs.Record.{record_of, written_of, descriptor_blocks, stored_put, fresh_entry}
use Rattle.crash_argument.specs.Writes.{AddsWrites, AddsFront}
use Rattle.engine_running.specs.Writes.{fresh_write, ring_writes, record_writes}
use Rattle.engine_running.proofs.spelling.Forms.{get_map}
use Rattle.engine_running.proofs.logs.Logs.{length_ring_writes}
use Rattle.engine_running.proofs.spelling.Spelled.{length_descriptor_blocks}

-- the blocks of some writes, the last one first, before others
abbrev pub under : List (ℕ × List ℕ) → List ℕ → List ℕ
under [] uw = uw
under (w ∷ ws) uw = under ws (w.0 ∷ uw)

-- a block among them is that of a write, or of the others
pub in_under : (ws : List (ℕ × List ℕ)) (uw : List ℕ) (b : ℕ) → is_one_of b (under ws uw) ≡ true → (is_one_of b uw ≡ true) ⊎ ((i : ℕ) × (w : ℕ × List ℕ) × (slice_get ws i ≡ Some w) × (w.0 ≡ b))
in_under [] uw b e = inl e
in_under (w ∷ ws) uw b e = ⊎_elim (λ inside. by (w.0 == b) refl inside) (λ r. inr (suc r.0, r.1, r.2, r.3)) (in_under ws (w.0 ∷ uw) b e)
  where
    by : (v : Bool) → (w.0 == b) ≡ v → is_one_of b (w.0 ∷ uw) ≡ true → (is_one_of b uw ≡ true) ⊎ ((i : ℕ) × (x : ℕ × List ℕ) × (slice_get (w ∷ ws) i ≡ Some x) × (x.0 ≡ b))
    by true own inside = inr (0, w, refl, eqb-true w.0 b own)
    by false other inside = inl (sym (cond-false (w.0 == b) true (is_one_of b uw) other) ∙ inside)

-- each goes to an idle block behind the header slots
abbrev pub AreIdle : Blocks → List Event → List (ℕ × List ℕ) → Type 0
AreIdle base log ws = (i : ℕ) (w : ℕ × List ℕ) → slice_get ws i ≡ Some w → (2 ≤ w.0) × IsIdle (cell_of base log w.0)

-- and no two to one block
abbrev pub AreUnlike : List (ℕ × List ℕ) → Type 0
AreUnlike ws = (i k : ℕ) (v w : ℕ × List ℕ) → i < k → slice_get ws i ≡ Some v → slice_get ws k ≡ Some w → v.0 ≢ w.0

module _ (base : Blocks) (l : Ledger) (p : PipelineData) (small : l.slot < 2)
    (under_way : (base : Blocks) (log : List Event) (l : Ledger) (p : PipelineData) (uw : List ℕ) (t b : ℕ) (x : List ℕ) → HasOnePending base log l p uw → l.slot < 2 → 2 ≤ b → IsIdle (cell_of base log b) → HasOnePending base (log ++ Wrote t b x ∷ []) l p (b ∷ uw)) where
  pub one_all : (ws : List (ℕ × List ℕ)) (ts : List ℕ) (old new : List Event) (uw : List ℕ) → HasOnePending base old l p uw → AreIdle base old ws → AreUnlike ws → AddsWrites ws ts old new → HasOnePending base new l p (under ws uw)
  one_all [] [] old new uw o idle unlike a = subst (λ (lg : List Event). HasOnePending base lg l p uw) (sym a) o
  one_all [] (t ∷ ts) old new uw o idle unlike a = absurd a
  one_all (w ∷ ws) [] old new uw o idle unlike a = absurd a
  one_all (w ∷ ws) (t ∷ ts) old new uw o idle unlike a = one_all ws ts (old ++ Wrote t w.0 w.1 ∷ []) new (w.0 ∷ uw)
      (under_way base old l p uw t w.0 w.1 o small (idle 0 w refl).0 (idle 0 w refl).1)
      (λ i v is. let was = idle (suc i) v is in (was.0, subst IsIdle (sym (other_wrote base old t w.0 v.0 w.1 (unlike 0 (suc i) w v (omega arith) refl is))) was.1))
      (λ i k v x lt is at. unlike (suc i) (suc k) v x (omega arith) is at) a.2

-- what is in two lists, one behind the other
either : {A : Type 0} (xs ys : List A) (k : ℕ) (z : A) → slice_get (xs ++ ys) k ≡ Some z → ((k < length xs) × (slice_get xs k ≡ Some z)) ⊎ ((i : ℕ) × (k ≡ length xs + i) × (slice_get ys i ≡ Some z))
either [] ys k z is = inr (k, omega arith, is)
either (x ∷ xs) ys zero z is = inl (omega arith, is)
either (x ∷ xs) ys (suc k) z is = ⊎_elim (λ l. inl (omega (arith, l.0), l.1)) (λ r. inr (r.0, omega (arith, r.1), r.2)) (either xs ys k z is)

-- where the writes of a record go: to its fresh blocks, then to the ring behind its first place, and last to that place
module _ (g : Geometry) (epoch number place : ℕ) (paid laid : List Put) where
  ring_at : (at : ℕ) (xs : List (List ℕ)) (i : ℕ) (w : ℕ × List ℕ) → slice_get (ring_writes g at xs) i ≡ Some w → (i < length xs) × (w.0 ≡ ring_block g (at + i))
  ring_at at [] i w is = cc
  ring_at at (x ∷ xs) zero w is = grind (arith, nat_tests)
  ring_at at (x ∷ xs) (suc i) w is = let r = ring_at (at + 1) xs i w is in (omega (arith, r.0), r.1 ∙ ap (ring_block g) (s at i))
    where
      s : (a b : ℕ) → a + 1 + b ≡ a + suc b
      s a b = omega arith

  abbrev ds : List (ℕ × List ℕ)
  ds = ring_writes g (place + 1) (descriptor_blocks epoch (record_of number place paid laid))

  abbrev ps : List (ℕ × List ℕ)
  ps = ring_writes g (place + heads (record_of number place paid laid)) (map stored_put paid)

  abbrev cs : List (ℕ × List ℕ)
  cs = (ring_block g place, commit_block (commit_says epoch (record_of number place paid laid))) ∷ []

  abbrev total : ℕ
  total = places (record_of number place paid laid)

  total_is : total ≡ length ds + length ps + 1
  total_is = omega (arith, length_ring_writes g (place + 1) (descriptor_blocks epoch (record_of number place paid laid)), length_descriptor_blocks epoch (record_of number place paid laid), length_ring_writes g (place + heads (record_of number place paid laid)) (map stored_put paid), length-map paid stored_put, length-map paid Rattle.engine_running.specs.Record.payload_entry)

  -- the ring place of a write behind the fresh ones
  record RingWrite (i b : ℕ) : Type 0 where
    turn : ℕ
    within : turn < total
    block : b ≡ ring_block g (place + turn)
    which : ((i + 1 < total) × (turn ≡ i + 1)) ⊎ ((i + 1 ≡ total) × (turn ≡ 0))

  ring_part : (i : ℕ) (w : ℕ × List ℕ) → slice_get (ds ++ (ps ++ cs)) i ≡ Some w → RingWrite i w.0
  ring_part i w is = ⊎_elim first (λ r. ⊎_elim (second r.0 r.1) (λ q. third r.0 q.0 r.1 q.1 q.2) (either ps cs r.0 w r.2)) (either ds (ps ++ cs) i w is)
    where
      first : (i < length ds) × (slice_get ds i ≡ Some w) → RingWrite i w.0
      first l = let r = ring_at (place + 1) (descriptor_blocks epoch (record_of number place paid laid)) i w l.1 in
          record { turn = i + 1; within = omega (arith, l.0, total_is); block = r.1 ∙ ap (ring_block g) (s place i); which = inl (omega (arith, l.0, total_is), refl) }
        where
          s : (a b : ℕ) → a + 1 + b ≡ a + (b + 1)
          s a b = omega arith

      second : (j : ℕ) → i ≡ length ds + j → (j < length ps) × (slice_get ps j ≡ Some w) → RingWrite i w.0
      second j e l = let r = ring_at (place + heads (record_of number place paid laid)) (map stored_put paid) j w l.1 in
          record { turn = i + 1; within = omega (arith, l.0, e, total_is); block = r.1 ∙ ap (ring_block g) (omega (arith, e, length_ring_writes g (place + 1) (descriptor_blocks epoch (record_of number place paid laid)), length_descriptor_blocks epoch (record_of number place paid laid))); which = inl (omega (arith, l.0, e, total_is), refl) }

      third : (j k : ℕ) → i ≡ length ds + j → j ≡ length ps + k → slice_get cs k ≡ Some w → RingWrite i w.0
      third j zero e f at = record { turn = 0; within = omega (arith, total_is); block = sym (ap (λ (v : ℕ × List ℕ). v.0) (same_Some _ _ at)) ∙ ap (ring_block g) (z place); which = inr (omega (arith, e, f, total_is), refl) }
        where
          z : (n : ℕ) → n ≡ n + 0
          z n = omega arith
      third j (suc k) e f at = absurd (none-some w at)

  abbrev fs : List (ℕ × List ℕ)
  fs = map fresh_write laid

  fresh_part : (i : ℕ) (w : ℕ × List ℕ) → slice_get fs i ≡ Some w → (q : Put) × (slice_get laid i ≡ Some q) × (q.block ≡ w.0)
  fresh_part i w is = let q = get_map fresh_write laid i w is in (q.0, q.1, ap (λ (v : ℕ × List ℕ). v.0) q.2)

  -- each goes to an idle block
  pub record_idle : (base : Blocks) (log : List Event) → ((i : ℕ) (q : Put) → slice_get laid i ≡ Some q → (2 ≤ q.block) × IsIdle (cell_of base log q.block)) → ((n : ℕ) → n < total → IsIdle (cell_of base log (ring_block g (place + n)))) → AreIdle base log (record_writes g epoch number place paid laid)
  record_idle base log fresh ring i w is = ⊎_elim
      (λ f. let q = fresh_part i w f.1 in subst (λ b. (2 ≤ b) × IsIdle (cell_of base log b)) q.2 (fresh i q.0 q.1))
      (λ r. let q = ring_part r.0 w r.2 in subst (λ b. (2 ≤ b) × IsIdle (cell_of base log b)) (sym q.block) (low (place + q.turn), ring q.turn q.within)) (either fs (ds ++ (ps ++ cs)) i w is)
    where
      low : (n : ℕ) → 2 ≤ ring_block g n
      low n = omega arith

  -- and no two to one block
  pub record_unlike : 0 < g.j → total ≤ g.j → ((i k : ℕ) (q r : Put) → i < k → slice_get laid i ≡ Some q → slice_get laid k ≡ Some r → q.block < r.block) → ((i : ℕ) (q : Put) → slice_get laid i ≡ Some q → bitmap_start g ≤ q.block)
      → ((g : Geometry) (place d : ℕ) → 0 < d → d < g.j → ring_block g place ≢ ring_block g (place + d)) → AreUnlike (record_writes g epoch number place paid laid)
  record_unlike some fits rising low apart i k v w lt is at same = ⊎_elim
      (λ f. ⊎_elim (λ h. both f.1 h.1) (λ h. fresh_ring f.1 h.0 h.2) (either fs (ds ++ (ps ++ cs)) k w at))
      (λ r. ⊎_elim (λ h. omega (arith, r.1, h.0, lt)) (λ h. rings r.0 h.0 (omega (arith, r.1, h.1, lt)) (ring_part r.0 v r.2) (ring_part h.0 w h.2)) (either fs (ds ++ (ps ++ cs)) k w at)) (either fs (ds ++ (ps ++ cs)) i v is)
    where
      both : slice_get fs i ≡ Some v → slice_get fs k ≡ Some w → ⊥
      both f h = let q = fresh_part i v f in let r = fresh_part k w h in omega (arith, rising i k q.0 r.0 lt q.1 r.1, q.2, r.2, same)

      far : (b n j : ℕ) → b ≡ 2 + n → n < j → j + 2 ≤ b → ⊥
      far b n j e lt le = omega (arith, e, lt, le)

      fresh_ring : slice_get fs i ≡ Some v → (j : ℕ) → slice_get (ds ++ (ps ++ cs)) j ≡ Some w → ⊥
      fresh_ring f j h = let q = fresh_part i v f in let r = ring_part j w h in far q.0.block ((place + r.turn) % g.j) g.j (q.2 ∙ same ∙ r.block) (mod_below (place + r.turn) g.j some) (low i q.0 q.1)

      shifted : (a b : ℕ) → a < b → b < total → v.0 ≡ ring_block g (place + a) → w.0 ≡ ring_block g (place + b) → ⊥
      shifted a b lt small e f = apart g (place + a) (b - a) (omega (arith, lt)) (omega (arith, lt, small, fits)) (sym e ∙ same ∙ f ∙ ap (ring_block g) (s place a b lt))
        where
          s : (p a b : ℕ) → a < b → p + b ≡ p + a + (b - a)
          s p a b lt = omega (arith, lt)

      back : (a b : ℕ) → b < a → a < total → v.0 ≡ ring_block g (place + a) → w.0 ≡ ring_block g (place + b) → ⊥
      back a b lt small e f = apart g (place + b) (a - b) (omega (arith, lt)) (omega (arith, lt, small, fits)) (sym f ∙ sym same ∙ e ∙ ap (ring_block g) (s place a b lt))
        where
          s : (p a b : ℕ) → b < a → p + a ≡ p + b + (a - b)
          s p a b lt = omega (arith, lt)

      rings : (m n : ℕ) → m < n → RingWrite m v.0 → RingWrite n w.0 → ⊥
      rings m n less x y = ⊎_elim
          (λ here. ⊎_elim (λ there. shifted x.turn y.turn (omega (arith, here.1, there.1, less)) y.within x.block y.block) (λ there. back x.turn y.turn (omega (arith, here.1, there.1)) x.within x.block y.block) y.which)
          (λ here. ⊎_elim (λ there. omega (arith, here.0, there.0, less)) (λ there. omega (arith, here.0, there.0, less)) y.which) x.which

  -- and all are the record's own
  pub record_own : (l : Ledger) → g ≡ l.geom → AreOfRecord l (written_of epoch number place paid laid) (under (record_writes g epoch number place paid laid) [])
  record_own l same = record {
    each = λ b inside. ⊎_elim (λ none. absurd (false≢true none)) (λ r. ⊎_elim
        (λ f. let q = fresh_part r.0 r.1 f.1 in inr (r.0, fresh_entry q.0, slice_get-map fresh_entry laid r.0 ∙ ap (option_map fresh_entry) q.1, q.2 ∙ r.3))
        (λ h. let q = ring_part h.0 r.1 h.2 in inl (q.turn, q.within, ap (λ (k : Geometry). ring_block k (place + q.turn)) (sym same) ∙ sym q.block ∙ r.3)) (either fs (ds ++ (ps ++ cs)) r.0 r.1 r.2)) (in_under (record_writes g epoch number place paid laid) [] b inside);
  }

-- a block that none of the writes goes to stays as it was
pub adds_other : (base : Blocks) (b : ℕ) (ws : List (ℕ × List ℕ)) (ts : List ℕ) (old new : List Event) → AddsWrites ws ts old new → ((i : ℕ) (w : ℕ × List ℕ) → slice_get ws i ≡ Some w → w.0 ≢ b) → cell_of base new b ≡ cell_of base old b
adds_other base b [] [] old new a apart = ap (λ (lg : List Event). cell_of base lg b) a
adds_other base b [] (t ∷ ts) old new a apart = absurd a
adds_other base b (w ∷ ws) [] old new a apart = absurd a
adds_other base b (w ∷ ws) (t ∷ ts) old new a apart = adds_other base b ws ts (old ++ Wrote t w.0 w.1 ∷ []) new a.2 (λ i v is. apart (suc i) v is) ∙ other_wrote base old t w.0 b w.1 (apart 0 w refl)

get_first : {A : Type 0} (xs ys : List A) (k : ℕ) (x : A) → slice_get xs k ≡ Some x → slice_get (xs ++ ys) k ≡ Some x
get_first [] ys k x e = cc
get_first (y ∷ xs) ys zero x e = e
get_first (y ∷ xs) ys (suc k) x e = get_first xs ys k x e

get_second : {A : Type 0} (xs ys : List A) (k : ℕ) → slice_get (xs ++ ys) (length xs + k) ≡ slice_get ys k
get_second [] ys k = grind (arith, nat_tests)
get_second (x ∷ xs) ys k = ap (slice_get (x ∷ (xs ++ ys))) (s (length xs) k) ∙ get_second xs ys k
  where
    s : (n k : ℕ) → suc n + k ≡ suc (n + k)
    s n k = omega arith

-- where a front of the writes was made and the next one lost, each block has one write pending at most
pub one_front : (base : Blocks) (l : Ledger) (p : PipelineData) → l.slot < 2
    → ((base : Blocks) (log : List Event) (l : Ledger) (p : PipelineData) (uw : List ℕ) (t b : ℕ) (x : List ℕ) → HasOnePending base log l p uw → l.slot < 2 → 2 ≤ b → IsIdle (cell_of base log b) → HasOnePending base (log ++ Wrote t b x ∷ []) l p (b ∷ uw))
    → ((base : Blocks) (log : List Event) (b : ℕ) (x : List ℕ) → ((c : ℕ) → length (cell_of base log c).pending ≤ 1) → IsIdle (cell_of base log b) → (c : ℕ) → length (cell_of base (log ++ Lost b x ∷ []) c).pending ≤ 1)
    → (ws : List (ℕ × List ℕ)) (old new : List Event) → HasOnePending base old l p [] → AreIdle base old ws → AreUnlike ws → AddsFront ws old new → (b : ℕ) → length (cell_of base new b).pending ≤ 1
one_front base l p small under_way lost ws old new o idle unlike f = ⊎_elim
    (λ same b. subst (λ (lg : List Event). length (cell_of base lg b).pending ≤ 1) (sym same) (so_far.one b))
    (λ gone b. subst (λ (lg : List Event). length (cell_of base lg b).pending ≤ 1) (sym gone.4) (lost base f.middle gone.0 gone.1 so_far.one (next_idle gone.0 gone.1 gone.2 gone.3) b)) f.ends
  where
    in_ws : (k : ℕ) (w : ℕ × List ℕ) → slice_get f.front k ≡ Some w → slice_get ws k ≡ Some w
    in_ws k w is = ap (λ (l : List (ℕ × List ℕ)). slice_get l k) f.split ∙ get_first f.front f.rest k w is

    so_far : HasOnePending base f.middle l p (under f.front [])
    so_far = one_all base l p small under_way f.front f.tickets old f.middle [] o (λ i w is. idle i w (in_ws i w is)) (λ i k v w lt is at. unlike i k v w lt (in_ws i v is) (in_ws k w at)) f.accepted

    next_idle : (b : ℕ) (x : List ℕ) (later : List (ℕ × List ℕ)) → f.rest ≡ (b, x) ∷ later → IsIdle (cell_of base f.middle b)
    next_idle b x later is =
        let at : slice_get ws (length f.front + 0) ≡ Some (b, x) = ap (λ (l : List (ℕ × List ℕ)). slice_get l (length f.front + 0)) f.split ∙ get_second f.front f.rest 0 ∙ ap (λ (l : List (ℕ × List ℕ)). slice_get l 0) is in
        subst IsIdle (sym (adds_other base b f.front f.tickets old f.middle f.accepted (λ i w has. unlike i (length f.front + 0) w (b, x) (omega (arith, slice_get_within f.front i w has)) (in_ws i w has) at))) (idle (length f.front + 0) (b, x) at).1
