-- Each step is safe: the ledger and the statement on each moment go on.
use Rattle.std.proofs.Common.{◌≡◌, inr, ⊎_elim, ℕ, ◌+◌, ◌-◌, ◌<◌, ◌≤◌, nat_le, nat_lt, ◌&&◌, Bool, true, false, if◌then◌else◌, List, [], ◌∷◌, ◌++◌, None, Some, refl, sym, ◌∙◌, ap, subst, arith, length-append, append-nil, append_assoc}
use Rattle.std.proofs.Math.Bool.{and-false}
use Rattle.std.proofs.lemmas.Bool.{cases_lt, le-ltb, le-leb, lt-leb, lt-ltb, eq-eqb, and_from, cond-true}
use Rattle.base_types.specs.Seal.{Blocks}
use Rattle.disk_contract.specs.declared.event.Event.{Event}
use Rattle.disk_contract.specs.declared.event.Event.TheVariants.{Wrote, Lost, Noticed}
use Rattle.disk_contract.specs.Cell.{cell_of, notices}
use Rattle.layout_geometry.specs.Geometry.{ring_block, bitmap_start}
use Rattle.layout_journal.specs.declared.header.Header.{Header}
use Rattle.layout_journal.specs.Layout.{commit_of}
use Rattle.layout_journal.specs.Run.{commit_says, live_part}
use Rattle.crash_argument.specs.JournalLaws.{JournalLaws}
use Rattle.crash_argument.specs.Ledger.{Ledger, WrittenRecord, IsConsistentWith, next_number, block_at}
use Rattle.crash_argument.specs.Steps.{MayWriteInPlace, MayWriteInRing, IsReadyToCommit, with_record, MayWriteHeader, with_header, IsDurable, with_durable_header, AreNoticed, with_known}
use Rattle.crash_argument.specs.Points.{MountedSession, IsPoint, StandsBetween, HasPoints, IsSafe, commits, commits_told, is_commit, has_epoch, where_told}
use Rattle.crash_argument.proofs.log.Adds.{Adds, adds_wrote, adds_lost}
use Rattle.crash_argument.proofs.steps.Notices.{keeps_notice}
use Rattle.crash_argument.proofs.theorem.Images.{in_ring}
use Rattle.crash_argument.proofs.steps.Steps.{write_in_place, write_in_ring, write_commit}
use Rattle.crash_argument.proofs.steps.HeaderSteps.{with_known_keeps, turned_keeps, write_header, count}
use Rattle.crash_argument.proofs.steps.PointSteps.{point_stays, point_made, points_in-append}
use Rattle.crash_argument.proofs.steps.KnownPoints.{noticed_stays, all_noticed}
use Rattle.crash_argument.proofs.steps.Told.{one_told, tells_from, tells_more}
use Rattle.crash_argument.proofs.steps.WindowSteps.{between_more, points_stay}

module _ (laws : JournalLaws) (s : MountedSession) (base : Blocks) (log : List Event) (l : Ledger) (t floor : ℕ) (safe : IsSafe s base log l t floor) where
  -- an event that is no commit block
  pub safe_event : (e : Event) → commits s.geom s.epoch (e ∷ []) ≡ 0 → IsConsistentWith base (log ++ e ∷ []) l → IsSafe s base (log ++ e ∷ []) l t floor
  safe_event e none k =
      let p = points_stay s base log e l none safe.points in
      record { keeps = k; points = p; low = safe.low; window = between_more laws s base log e l t floor (next_number l - s.first) (next_number l - s.first) safe.window k p safe.low (omega arith) (omega arith) }

  -- a notice
  pub safe_notice : (n : ℕ) → IsSafe s base (log ++ Noticed n ∷ []) l t floor
  safe_notice n = safe_event (Noticed n) refl (keeps_notice base log l n safe.keeps)

  -- what reads as no commit block isn't counted as one
  no_commit_here : (x : List ℕ) (block : ℕ) → commit_of l.geom x ≡ None → is_commit s.geom s.epoch block x ≡ false
  no_commit_here x block none = ap (λ g. is_commit g s.epoch block x) safe.points.geom ∙ ap (λ o. nat_le 2 block && nat_lt block (bitmap_start l.geom) && has_epoch s.epoch o) none ∙ and-false _

  -- nor is what is written behind the journal
  no_commit_high : (x : List ℕ) (block : ℕ) → bitmap_start l.geom ≤ block → is_commit s.geom s.epoch block x ≡ false
  no_commit_high x block high = ap (λ g. is_commit g s.epoch block x) safe.points.geom ∙ ap (λ b. nat_le 2 block && b && has_epoch s.epoch (commit_of l.geom x)) (le-ltb block (bitmap_start l.geom) high) ∙ ap (λ (v : Bool). v && has_epoch s.epoch (commit_of l.geom x)) (and-false (nat_le 2 block))

  -- nor what is written into a slot
  no_commit_low : (x : List ℕ) (block : ℕ) → block < 2 → is_commit s.geom s.epoch block x ≡ false
  no_commit_low x block low = ap (λ b. b && nat_lt block (bitmap_start s.geom) && has_epoch s.epoch (commit_of s.geom x)) (lt-leb 2 block low)

  -- what isn't counted adds none
  count_none : (b : Bool) → b ≡ false → (if b then 1 else 0) + 0 ≡ 0
  count_none true e = cc
  count_none false e = refl

  -- an accepted write into the ring
  pub safe_wrote_ring : (n place : ℕ) (x : List ℕ) → MayWriteInRing l place x → IsSafe s base (log ++ Wrote n (ring_block l.geom place) x ∷ []) l t floor
  safe_wrote_ring n place x may = safe_event _ (count_none _ (no_commit_here x _ may.no_commit)) (write_in_ring laws base log _ l place x (adds_wrote base log n _ x) safe.keeps may)

  -- and a lost one
  pub safe_lost_ring : (place : ℕ) (x : List ℕ) → MayWriteInRing l place x → IsSafe s base (log ++ Lost (ring_block l.geom place) x ∷ []) l t floor
  safe_lost_ring place x may = safe_event _ (count_none _ (no_commit_here x _ may.no_commit)) (write_in_ring laws base log _ l place x (adds_lost base log _ x) safe.keeps may)

  -- an accepted write in place
  pub safe_wrote_in_place : (n block : ℕ) (x : List ℕ) → MayWriteInPlace (cell_of base log) l block → IsSafe s base (log ++ Wrote n block x ∷ []) l t floor
  safe_wrote_in_place n block x may = safe_event _ (count_none _ (no_commit_high x _ may.outside)) (write_in_place base log _ l block x (adds_wrote base log n block x) safe.keeps may)

  -- and a lost one
  pub safe_lost_in_place : (block : ℕ) (x : List ℕ) → MayWriteInPlace (cell_of base log) l block → IsSafe s base (log ++ Lost block x ∷ []) l t floor
  safe_lost_in_place block x may = safe_event _ (count_none _ (no_commit_high x _ may.outside)) (write_in_place base log _ l block x (adds_lost base log block x) safe.keeps may)

  -- the newest header is written
  safe_header : (e : Event) (x : List ℕ) (h : Header) → commits s.geom s.epoch (e ∷ []) ≡ 0 → Adds base log (log ++ e ∷ []) (1 - l.slot) x → MayWriteHeader (cell_of base log) l x h → IsSafe s base (log ++ e ∷ []) (with_header l h) t floor
  safe_header e x h none adds may =
      let k = write_header base log (log ++ e ∷ []) l x h adds safe.keeps may in
      let old = points_stay s base log e l none safe.points in
      let p : HasPoints s base (log ++ e ∷ []) (with_header l h) = record { geom = old.geom; epoch = old.epoch; first = old.first; late = old.late; count = old.count; told = old.told; each = old.each; noticed = old.noticed } in
      record { keeps = k; points = p; low = safe.low; window = between_more laws s base log e (with_header l h) t floor (next_number l - s.first) (next_number l - s.first) safe.window k p safe.low (omega arith) (omega arith) }

  -- an accepted header
  pub safe_wrote_header : (n : ℕ) (x : List ℕ) (h : Header) → MayWriteHeader (cell_of base log) l x h → IsSafe s base (log ++ Wrote n (1 - l.slot) x ∷ []) (with_header l h) t floor
  safe_wrote_header n x h may = safe_header _ x h (count_none _ (no_commit_low x (1 - l.slot) (omega arith))) (adds_wrote base log n _ x) may

  -- and a lost one
  pub safe_lost_header : (x : List ℕ) (h : Header) → MayWriteHeader (cell_of base log) l x h → IsSafe s base (log ++ Lost (1 - l.slot) x ∷ []) (with_header l h) t floor
  safe_lost_header x h may = safe_header _ x h (count_none _ (no_commit_low x (1 - l.slot) (omega arith))) (adds_lost base log _ x) may

  -- more is known
  pub safe_known : (number : ℕ) → AreNoticed (cell_of base log) l number → IsSafe s base log (with_known l number) t floor
  safe_known number n =
      let old = safe.points in
      record {
        keeps = with_known_keeps base log l safe.keeps number n;
        points = record { geom = old.geom; epoch = old.epoch; first = omega (arith, old.first, n.from); late = old.late; count = old.count; told = old.told; each = λ m low high. old.each m (omega (arith, low, n.from)) high; noticed = all_noticed laws s base log l number safe.keeps old.geom old.epoch old.late old.first n old.noticed };
        low = omega (arith, safe.low, n.from);
        window = record { each = safe.window.each };
      }

  -- the header that was written last is durable
  pub safe_turned : (h : Header) → IsDurable (cell_of base log) l h → IsSafe s base log (with_durable_header l h) t floor
  safe_turned h d =
      let same : next_number (with_durable_header l h) ≡ next_number l = count base log l safe.keeps h d in
      let old = safe.points in
      record {
        keeps = turned_keeps base log l safe.keeps h d;
        points = record { geom = old.geom; epoch = old.epoch; first = old.first; late = old.late; count = old.count ∙ sym same; told = tells_from s log l h (safe.keeps.headers.fits h (inr d.next)).start old.told; each = λ m low high. old.each m low (omega (arith, high, same)); noticed = old.noticed };
        low = safe.low;
        window = subst (λ n. StandsBetween s base log t floor (n - s.first)) (sym same) safe.window;
      }

  -- the commit block is written
  safe_commit : (e : Event) (w : WrittenRecord) (m : Blocks) → commits s.geom s.epoch (e ∷ []) ≡ 1 → commits_told s.geom s.epoch (e ∷ []) ≡ commit_says s.epoch w.says ∷ [] → Adds base log (log ++ e ∷ []) (ring_block l.geom w.says.place) (block_at w.ring 0) → IsReadyToCommit base log l w m → IsSafe s base (log ++ e ∷ []) (with_record l w m) t floor
  safe_commit e w m one told adds ready =
      let k = write_commit laws base log (log ++ e ∷ []) l w m adds safe.keeps ready in
      let old = safe.points in
      let grown : next_number (with_record l w m) ≡ next_number l + 1 = omega (arith, length-append l.records (w ∷ [])) in
      let made = point_made laws s base log e (with_record l w m) (next_number l - s.first) old.geom old.late (omega (arith, old.count)) one k in
      let from_first : s.first ≤ next_number l = omega (arith, old.count) in
      let p : HasPoints s base (log ++ e ∷ []) (with_record l w m) = record {
        geom = old.geom;
        epoch = old.epoch;
        first = old.first;
        late = omega (arith, old.late, length-append log (e ∷ []));
        count = omega (arith, points_in-append s log (e ∷ []) old.late, one, old.count, grown);
        told = tells_more s log e l w m old.late told ready.number old.told;
        each = λ n low high. ⊎_elim
            (λ new. subst (λ q. IsPoint s base (log ++ e ∷ []) q (live_part l.geom ((with_record l w m).map_before n))) (omega (arith, new, grown, from_first, high))
            (subst (λ q. IsPoint s base (log ++ e ∷ []) (next_number l - s.first + 1) (live_part l.geom ((with_record l w m).map_before q))) (omega (arith, new, grown, high)) made))
            (λ was. subst (λ (q : Blocks). IsPoint s base (log ++ e ∷ []) (n - s.first) (live_part l.geom q)) (sym (cond-true (nat_le n (next_number l)) (l.map_before n) m (le-leb n (next_number l) was)))
            (point_stays s base log (e ∷ []) (n - s.first) _ (old.each n low was)))
            (cases_lt (next_number l) n);
        noticed = λ q some le. noticed_stays s base log (e ∷ []) q (old.noticed q some le);
      } in
      record { keeps = k; points = p; low = safe.low; window = between_more laws s base log e (with_record l w m) t floor (next_number l - s.first) (next_number (with_record l w m) - s.first) safe.window k p safe.low (omega arith) (omega (arith, grown)) }

  -- it is counted as one
  commit_counts : (w : WrittenRecord) (m : Blocks) → IsReadyToCommit base log l w m → is_commit s.geom s.epoch (ring_block l.geom w.says.place) (block_at w.ring 0) ≡ true
  commit_counts w m ready =
      ap (λ g. is_commit g s.epoch (ring_block l.geom w.says.place) (block_at w.ring 0)) safe.points.geom
      ∙ and_from _ _ (and_from _ _ (le-leb 2 (ring_block l.geom w.says.place) (omega arith)) (lt-ltb _ _ (in_ring l.geom w.says.place safe.keeps.ring)))
      (ap (has_epoch s.epoch) ready.spelled.commit ∙ eq-eqb l.epoch s.epoch (sym safe.points.epoch))

  -- and tells of its record
  commit_told : (w : WrittenRecord) (m : Blocks) → IsReadyToCommit base log l w m → where_told (is_commit s.geom s.epoch (ring_block l.geom w.says.place) (block_at w.ring 0)) (commit_of s.geom (block_at w.ring 0)) ++ [] ≡ commit_says s.epoch w.says ∷ []
  commit_told w m ready = one_told s.geom s.epoch (ring_block l.geom w.says.place) (block_at w.ring 0) (commit_says s.epoch w.says) (commit_counts w m ready) (ap (λ g. commit_of g (block_at w.ring 0)) safe.points.geom ∙ ready.spelled.commit ∙ ap (λ e. Some (commit_says e w.says)) (sym safe.points.epoch))

  -- what is counted adds one
  count_one : (b : Bool) → b ≡ true → (if b then 1 else 0) + 0 ≡ 1
  count_one true e = refl
  count_one false e = cc

  -- an accepted commit block
  pub safe_wrote_commit : (n : ℕ) (w : WrittenRecord) (m : Blocks) → IsReadyToCommit base log l w m → IsSafe s base (log ++ Wrote n (ring_block l.geom w.says.place) (block_at w.ring 0) ∷ []) (with_record l w m) t floor
  safe_wrote_commit n w m ready = safe_commit _ w m (count_one _ (commit_counts w m ready)) (commit_told w m ready) (adds_wrote base log n _ _) ready

  -- and a lost one
  pub safe_lost_commit : (w : WrittenRecord) (m : Blocks) → IsReadyToCommit base log l w m → IsSafe s base (log ++ Lost (ring_block l.geom w.says.place) (block_at w.ring 0) ∷ []) (with_record l w m) t floor
  safe_lost_commit w m ready = safe_commit _ w m (count_one _ (commit_counts w m ready)) (commit_told w m ready) (adds_lost base log _ _) ready

-- a wait adds notices
pub safe_notices : JournalLaws → (s : MountedSession) (base : Blocks) (log : List Event) (l : Ledger) (t floor : ℕ) (ts : List ℕ) → IsSafe s base log l t floor → IsSafe s base (log ++ notices ts) l t floor
safe_notices laws s base log l t floor [] safe = subst (λ (lg : List Event). IsSafe s base lg l t floor) (sym (append-nil log)) safe
safe_notices laws s base log l t floor (n ∷ ts) safe =
    subst (λ (lg : List Event). IsSafe s base lg l t floor) (append_assoc log (Noticed n ∷ []) (notices ts)) (safe_notices laws s base (log ++ Noticed n ∷ []) l t floor ts (safe_notice laws s base log l t floor safe n))

-- the same under equal names
pub moved : (s : MountedSession) (base base2 : Blocks) (log new : List Event) (l : Ledger) (t floor : ℕ) → base2 ≡ base → new ≡ log → IsSafe s base log l t floor → IsSafe s base2 new l t floor
moved s base base2 log new l t floor same is safe = subst (λ (b : Blocks). IsSafe s b new l t floor) (sym same) (subst (λ (lg : List Event). IsSafe s base lg l t floor) (sym is) safe)
