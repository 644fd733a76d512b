-- A mirror over the calls that write nothing, and where no disk is left.
use Rattle.std.proofs.Common.{◌≡◌, ◌≢◌, ◌⊎◌, inl, inr, ⊎_elim, ℕ, zero, suc, ◌<◌, ◌≤◌, ◌-◌, ◌^◌, ◌==◌, ◌||◌, Bool, true, false, List, [], ◌∷◌, ◌++◌, length, get_or, slice_set, Some, refl, sym, ◌∙◌, ap, subst, arith, append-nil}
use Rattle.std.proofs.lemmas.Bool.{eq-eqb, or_cases, false≢true, cases_eq, or_left, or_right, cases_Bool}
use Rattle.std.proofs.lemmas.List.{get_or-set_same, get_or-set_other}
use Rattle.base_types.specs.Seal.{Blocks}
use Rattle.disk_contract.specs.declared.event.Event.{Event}
use Rattle.disk_contract.specs.declared.event.Event.TheVariants.{Noticed}
use Rattle.disk_contract.specs.Cell.{greatest_ticket, is_accepted, is_noticed, IsNoticed, notices}
use Rattle.disk_contract.specs.Lawful.{IsLawful, IsLogOf}
use Rattle.disk_mirror.proofs.Logs.{is_noticed-append, is_accepted-append, greatest-append}
use Rattle.disk_mirror.specs.declared.entry.Side.{Side}
use Rattle.disk_mirror.specs.declared.entry.Side.TheVariants.{First, Second}
use Rattle.disk_mirror.specs.declared.entry.Entry.TheVariants.{Reported}
use Rattle.disk_mirror.specs.declared.entry.Heard.{Heard}
use Rattle.disk_mirror.specs.Half.{end_at}
use Rattle.disk_mirror.specs.Order.{OrderState, log_of}
use Rattle.disk_mirror.specs.Rows.{set_heard, set_reported, with_heard, with_report}
use Rattle.disk_mirror.specs.Twin.{unheard, heard_on, heard_of, is_over, ticket_on}
use Rattle.disk_mirror.specs.Mirror.{IsOnSide, IsMirrorOf}
use Rattle.disk_mirror.specs.declared.entry.Came.{Came}
use Rattle.disk_mirror.specs.Times.{times_on, IsTimed}
use Rattle.disk_mirror.specs.Turns.{heard_in, reported_in_order}
use Rattle.disk_mirror.proofs.Timed.{timed_notices}
use Rattle.disk_mirror.proofs.Came.{report_came}
use Rattle.disk_mirror.proofs.Found.{log_snoc, found_snoc, length-log}
use Rattle.disk_mirror.proofs.Rooms.{row_at}
use Rattle.disk_mirror.proofs.Sides.{side_notices, side_rows, side_report}
use Rattle.disk_mirror.proofs.Mirrors.{log_goes, found_goes, log_event}

-- the rows after one of them changed
pub row_set : (rows : List Heard) (i j : ℕ) (v : Heard) → 0 < i → i ≤ length rows → ((j ≢ i) × (heard_of (slice_set rows (i - 1) v) j ≡ heard_of rows j)) ⊎ ((j ≡ i) × (heard_of (slice_set rows (i - 1) v) j ≡ v))
row_set rows zero j v up low = absurd (none up)
  where
    none : 0 < 0 → ⊥
    none up = omega (arith, up)
row_set rows (suc k) j v up low =
    subst (λ m. ((j ≢ suc k) × (heard_of (slice_set rows m v) j ≡ heard_of rows j)) ⊎ ((j ≡ suc k) × (heard_of (slice_set rows m v) j ≡ v))) {x = k} {y = suc k - 1} (omega arith)
    (⊎_elim (λ same. inr (same, subst (λ m. heard_of (slice_set rows k v) m ≡ v) (sym same) (get_or-set_same rows k v unheard (omega (arith, low)))))
    (λ other. inl (other, elsewhere j other)) (cases_eq j (suc k)))
  where
    elsewhere : (m : ℕ) → m ≢ suc k → heard_of (slice_set rows k v) m ≡ heard_of rows m
    elsewhere zero other = refl
    elsewhere (suc m) other = get_or-set_other rows k m v unheard (λ same. other (ap suc same))

heard_same : (s : Side) (h : Heard) → (set_heard s h).reported ≡ h.reported
heard_same First h = refl
heard_same Second h = refl

heard_apart : (s t : Side) (h : Heard) → heard_on t (set_heard s h) ≡ true → (heard_on t h ≡ true) ⊎ (s ≡ t)
heard_apart First First h e = inr refl
heard_apart First Second h e = inl e
heard_apart Second First h e = inl e
heard_apart Second Second h e = inr refl

-- the notice of ticket i came from this disk: what the rows then note of a disk
pub heard_more : (s t : Side) (rows : List Heard) (i j : ℕ) → 0 < i → i ≤ length rows → heard_on t (heard_of (with_heard s i rows) j) ≡ true → (heard_on t (heard_of rows j) ≡ true) ⊎ ((s ≡ t) × (j ≡ i))
heard_more s t rows i j up low e =
    ⊎_elim (λ same. inl (sym (ap (heard_on t) same.1) ∙ e))
    (λ own. ⊎_elim (λ was. inl (ap (λ m. heard_on t (heard_of rows m)) own.0 ∙ ap (heard_on t) (row_at rows i up) ∙ was)) (λ is. inr (is, own.0))
    (heard_apart s t (get_or rows (i - 1) unheard) (sym (ap (heard_on t) own.1) ∙ e)))
    (row_set rows i j (set_heard s (get_or rows (i - 1) unheard)) up low)

pub heard_reports : (s : Side) (rows : List Heard) (i j : ℕ) → 0 < i → i ≤ length rows → (heard_of (with_heard s i rows) j).reported ≡ (heard_of rows j).reported
heard_reports s rows i j up low =
    ⊎_elim (λ same. ap (λ (h : Heard). h.reported) same.1)
    (λ own. ap (λ (h : Heard). h.reported) own.1 ∙ heard_same s (get_or rows (i - 1) unheard) ∙ sym (ap (λ m. (heard_of rows m).reported) own.0 ∙ ap (λ (h : Heard). h.reported) (row_at rows i up)))
    (row_set rows i j (set_heard s (get_or rows (i - 1) unheard)) up low)

-- notices on the first disk, or that it goes down
pub mirror_first : (n : ℕ) (base began : Blocks) (first now second : Bool) (ea la eb : ℕ) (a b : List Event) (o : OrderState) (ts : List ℕ) → IsLawful a
    → (now ≡ true → (first ≡ true) × (la ≡ ea)) → (now ≡ false → la ≡ end_at (length o.events) first ea) → ((first || second) ≡ false → ts ≡ [])
    → IsMirrorOf n base began a b first second ea eb o → IsMirrorOf n base began (a ++ notices ts) b now second la eb o
mirror_first n base began first now second ea la eb a b o ts lawful stays goes_down quiet is =
    let goes_on : log_of (a ++ notices ts) b o.events ≡ log_of a b o.events = same in
    record {
      log = subst (IsLogOf n) (sym goes_on) is.log;
      count = ap greatest_ticket goes_on ∙ is.count;
      given = λ i up upto. ap (is_accepted i) goes_on ∙ is.given i up upto;
      reported = λ i. is.reported i ∙ sym (ap (is_noticed i) goes_on);
      found = λ some. found_goes o.events a b (a ++ notices ts) b (notices ts, refl) ([], sym (append-nil b)) (is.found (was some));
      on_first = subst (λ l. IsOnSide First n base l o.pairs o.heard now la base (a ++ notices ts)) (sym goes_on)
          (side_notices First n base (log_of a b o.events) o.pairs o.heard first now ea la base a ts is.log.lawful lawful stays (λ off. goes_down off ∙ ap (λ m. end_at m first ea) (sym (length-log o.events a b))) is.on_first);
      on_second = subst (λ l. IsOnSide Second n base l o.pairs o.heard second eb began b) (sym goes_on) is.on_second;
      timed_first = subst (λ l. IsTimed n base l (times_on First o.times) now la base (a ++ notices ts)) (sym goes_on)
          (timed_notices n base (log_of a b o.events) (times_on First o.times) first now ea la base a ts (λ on_it. (stays on_it).0) (λ off. goes_down off ∙ ap (λ m. end_at m first ea) (sym (length-log o.events a b))) is.timed_first);
      timed_second = subst (λ l. IsTimed n base l (times_on Second o.times) second eb began b) (sym goes_on) is.timed_second;
    }
  where
    was : (now || second) ≡ true → (first || second) ≡ true
    was some = ⊎_elim (λ p. or_left first second (stays p).0) (λ p. or_right first second p) (or_cases now second some)

    same : log_of (a ++ notices ts) b o.events ≡ log_of a b o.events
    same = ⊎_elim (λ some. log_goes o.events a b (a ++ notices ts) b (notices ts, refl) ([], sym (append-nil b)) (is.found some))
        (λ none. ap (λ l. log_of l b o.events) (ap (λ us. a ++ notices us) (quiet none) ∙ append-nil a)) (cases_Bool (first || second))

-- the same of the second disk
pub mirror_second : (n : ℕ) (base began : Blocks) (first second now : Bool) (ea eb lb : ℕ) (a b : List Event) (o : OrderState) (ts : List ℕ) → IsLawful b
    → (now ≡ true → (second ≡ true) × (lb ≡ eb)) → (now ≡ false → lb ≡ end_at (length o.events) second eb) → ((first || second) ≡ false → ts ≡ [])
    → IsMirrorOf n base began a b first second ea eb o → IsMirrorOf n base began a (b ++ notices ts) first now ea lb o
mirror_second n base began first second now ea eb lb a b o ts lawful stays goes_down quiet is =
    let goes_on : log_of a (b ++ notices ts) o.events ≡ log_of a b o.events = same in
    record {
      log = subst (IsLogOf n) (sym goes_on) is.log;
      count = ap greatest_ticket goes_on ∙ is.count;
      given = λ i up upto. ap (is_accepted i) goes_on ∙ is.given i up upto;
      reported = λ i. is.reported i ∙ sym (ap (is_noticed i) goes_on);
      found = λ some. found_goes o.events a b a (b ++ notices ts) ([], sym (append-nil a)) (notices ts, refl) (is.found (was some));
      on_first = subst (λ l. IsOnSide First n base l o.pairs o.heard first ea base a) (sym goes_on) is.on_first;
      on_second = subst (λ l. IsOnSide Second n base l o.pairs o.heard now lb began (b ++ notices ts)) (sym goes_on)
          (side_notices Second n base (log_of a b o.events) o.pairs o.heard second now eb lb began b ts is.log.lawful lawful stays (λ off. goes_down off ∙ ap (λ m. end_at m second eb) (sym (length-log o.events a b))) is.on_second);
      timed_first = subst (λ l. IsTimed n base l (times_on First o.times) first ea base a) (sym goes_on) is.timed_first;
      timed_second = subst (λ l. IsTimed n base l (times_on Second o.times) now lb began (b ++ notices ts)) (sym goes_on)
          (timed_notices n base (log_of a b o.events) (times_on Second o.times) second now eb lb began b ts (λ on_it. (stays on_it).0) (λ off. goes_down off ∙ ap (λ m. end_at m second eb) (sym (length-log o.events a b))) is.timed_second);
    }
  where
    was : (first || now) ≡ true → (first || second) ≡ true
    was some = ⊎_elim (λ p. or_left first second p) (λ p. or_right first second (stays p).0) (or_cases first now some)

    same : log_of a (b ++ notices ts) o.events ≡ log_of a b o.events
    same = ⊎_elim (λ some. log_goes o.events a b a (b ++ notices ts) ([], sym (append-nil a)) (notices ts, refl) (is.found some))
        (λ none. ap (λ l. log_of a l o.events) (ap (λ us. b ++ notices us) (quiet none) ∙ append-nil b)) (cases_Bool (first || second))

-- a row notes what a disk has noticed
pub mirror_hears : (n : ℕ) (base began : Blocks) (first second : Bool) (ea eb : ℕ) (a b : List Event) (o : OrderState) (s : Side) (i : ℕ) → 0 < i → i ≤ length o.heard
    → (s ≡ First → is_over a (ticket_on First o.pairs (Some i)) ≡ true) → (s ≡ Second → is_over b (ticket_on Second o.pairs (Some i)) ≡ true)
    → IsMirrorOf n base began a b first second ea eb o → IsMirrorOf n base began a b first second ea eb (heard_in o s i)
mirror_hears n base began first second ea eb a b o s i up low on_a on_b is = record {
  log = is.log;
  count = is.count;
  given = is.given;
  reported = λ j. heard_reports s o.heard i j up low ∙ is.reported j;
  found = is.found;
  on_first = side_rows First n base (log_of a b o.events) o.pairs o.heard (with_heard s i o.heard) first ea base a
      (λ _ j e. ⊎_elim inl (λ own. inr (ap (λ m. is_over a (ticket_on First o.pairs (Some m))) own.1 ∙ on_a own.0)) (heard_more s First o.heard i j up low e)) is.on_first;
  on_second = side_rows Second n base (log_of a b o.events) o.pairs o.heard (with_heard s i o.heard) second eb began b
      (λ _ j e. ⊎_elim inl (λ own. inr (ap (λ m. is_over b (ticket_on Second o.pairs (Some m))) own.1 ∙ on_b own.0)) (heard_more s Second o.heard i j up low e)) is.on_second;
  timed_first = is.timed_first;
  timed_second = is.timed_second;
}

-- a report of a write whose notice came from each live disk
reported_heard : (s : Side) (h : Heard) → heard_on s (set_reported h) ≡ heard_on s h
reported_heard First h = refl
reported_heard Second h = refl

pub mirror_reports : (n : ℕ) (base began : Blocks) (first second : Bool) (ea eb : ℕ) (a b : List Event) (o : OrderState) (i : ℕ) (came : Came) → 0 < i → i ≤ length o.heard → length o.heard ≡ length o.pairs → i < 2 ^ 64 → IsLawful a → IsLawful b → came.first ≡ length a → came.second ≡ length b
    → (heard_of o.heard i).reported ≡ false → (first ≡ true → heard_on First (heard_of o.heard i) ≡ true) → (second ≡ true → heard_on Second (heard_of o.heard i) ≡ true)
    → IsMirrorOf n base began a b first second ea eb o → IsMirrorOf n base began a b first second ea eb (reported_in_order o i came)
mirror_reports n base began first second ea eb a b o i came up low fit short lawful_a lawful_b at_a at_b fresh on_a on_b is =
    let new : log_of a b (o.events ++ Reported i ∷ []) ≡ log_of a b o.events ++ Noticed i ∷ [] = log_snoc o.events (Reported i) a b in
    let log_is = log_event n (log_of a b o.events) (Noticed i) is.log (is.given i up (omega (arith, low, fit)), quiet) short in
    let side_a = side_rows First n base (log_of a b o.events ++ Noticed i ∷ []) o.pairs o.heard (with_report i o.heard) first ea base a (λ _ j e. inl (kept First j e)) (side_report First n base (log_of a b o.events) o.pairs o.heard first ea base a i on_a is.on_first) in
    let side_b = side_rows Second n base (log_of a b o.events ++ Noticed i ∷ []) o.pairs o.heard (with_report i o.heard) second eb began b (λ _ j e. inl (kept Second j e)) (side_report Second n base (log_of a b o.events) o.pairs o.heard second eb began b i on_b is.on_second) in
    record {
      log = subst (IsLogOf n) (sym new) log_is;
      count = ap greatest_ticket new ∙ greatest-append (log_of a b o.events) (Noticed i ∷ []) ∙ omega (arith, is.count);
      given = λ j above upto. ap (is_accepted j) new ∙ is_accepted-append j (log_of a b o.events) (Noticed i ∷ []) ∙ ap (λ v. v || false) (is.given j above upto);
      reported = λ j. row j ∙ sym (ap (is_noticed j) new ∙ is_noticed-append j (log_of a b o.events) (Noticed i ∷ []));
      found = λ some. found_snoc o.events (Reported i) a b (is.found some) refl;
      on_first = subst (λ l. IsOnSide First n base l o.pairs (with_report i o.heard) first ea base a) (sym new) side_a;
      on_second = subst (λ l. IsOnSide Second n base l o.pairs (with_report i o.heard) second eb began b) (sym new) side_b;
      timed_first = subst (λ l. IsTimed n base l (times_on First (o.times ++ came ∷ [])) first ea base a) (sym new)
          (report_came First n base (log_of a b o.events) o.pairs (with_report i o.heard) o.times first ea base a (Noticed i) came log_is.lawful lawful_a at_a side_a is.timed_first);
      timed_second = subst (λ l. IsTimed n base l (times_on Second (o.times ++ came ∷ [])) second eb began b) (sym new)
          (report_came Second n base (log_of a b o.events) o.pairs (with_report i o.heard) o.times second eb began b (Noticed i) came log_is.lawful lawful_b at_b side_b is.timed_second);
    }
  where
    quiet : IsNoticed i (log_of a b o.events) → ⊥
    quiet noticed = false≢true (sym (sym (is.reported i) ∙ fresh) ∙ noticed)

    kept : (s : Side) (j : ℕ) → heard_on s (heard_of (with_report i o.heard) j) ≡ true → heard_on s (heard_of o.heard j) ≡ true
    kept s j e = ⊎_elim (λ same. sym (ap (heard_on s) same.1) ∙ e)
        (λ own. ap (λ m. heard_on s (heard_of o.heard m)) own.0 ∙ ap (heard_on s) (row_at o.heard i up) ∙ sym (ap (heard_on s) own.1 ∙ reported_heard s (get_or o.heard (i - 1) unheard)) ∙ e)
        (row_set o.heard i j (set_reported (get_or o.heard (i - 1) unheard)) up low)

    row : (j : ℕ) → (heard_of (with_report i o.heard) j).reported ≡ (is_noticed j (log_of a b o.events) || ((i == j) || false))
    row j = ⊎_elim (λ same. ap (λ (h : Heard). h.reported) same.1 ∙ is.reported j ∙ others j same.0) (λ own. ap (λ (h : Heard). h.reported) own.1 ∙ sym (mine j own.0)) (row_set o.heard i j (set_reported (get_or o.heard (i - 1) unheard)) up low)
      where
        mine : (j : ℕ) → j ≡ i → (is_noticed j (log_of a b o.events) || ((i == j) || false)) ≡ true
        mine j is_i = or_right _ _ (ap (λ v. v || false) (eq-eqb i j (sym is_i)))

        not_same : (m k : ℕ) → k ≢ m → (m == k) ≡ false
        not_same m k apart = grind (arith, apart)

        or_none : (p : Bool) → (p || (false || false)) ≡ p
        or_none true = refl
        or_none false = refl

        others : (j : ℕ) → j ≢ i → is_noticed j (log_of a b o.events) ≡ (is_noticed j (log_of a b o.events) || ((i == j) || false))
        others j apart = sym (ap (λ v. is_noticed j (log_of a b o.events) || (v || false)) (not_same i j apart) ∙ or_none (is_noticed j (log_of a b o.events)))
