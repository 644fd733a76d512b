-- What holds of a mirror, as events come.
use Rattle.std.proofs.Common.{◌≡◌, ⊎_elim, ℕ, suc, ◌<◌, ◌≤◌, ◌+◌, ◌^◌, ◌||◌, Bool, true, false, is_some, List, [], ◌∷◌, ◌++◌, length, Option, Some, refl, sym, ◌∙◌, ap, ap₂, subst, arith, append-nil, length-append}
use Rattle.std.proofs.lemmas.Bool.{eq-eqb, or_cases, false≢true, or_left, or_right}
use Rattle.base_types.specs.Seal.{Blocks}
use Rattle.disk_contract.specs.declared.event.Event.{Event}
use Rattle.disk_contract.specs.declared.event.Event.TheVariants.{Wrote, Lost}
use Rattle.disk_contract.specs.Cell.{greatest_ticket, is_accepted, is_noticed}
use Rattle.disk_contract.specs.Lawful.{IsLawful, IsLogOf, IsBlock, IsEventOf, AreEventsOf, MayCome}
use Rattle.disk_mirror.proofs.Logs.{is_noticed-append, is_accepted-append, greatest-append}
use Rattle.disk_mirror.proofs.Logs.{lawful_event}
use Rattle.disk_mirror.specs.declared.entry.Side.TheVariants.{First, Second}
use Rattle.disk_mirror.specs.declared.entry.Entry.{Entry}
use Rattle.disk_mirror.specs.declared.entry.Entry.TheVariants.{Accepted}
use Rattle.disk_mirror.specs.declared.entry.Heard.{Heard}
use Rattle.disk_mirror.specs.declared.entry.Came.{Came}
use Rattle.disk_mirror.specs.declared.entry.Pair.{Pair}
use Rattle.disk_mirror.specs.declared.entry.Written.{Written}
use Rattle.disk_mirror.specs.declared.entry.Written.TheVariants.{Given, Missed, Nothing}
use Rattle.disk_mirror.specs.Half.{HalfWrites, given_in}
use Rattle.disk_mirror.specs.Order.{OrderState, Put, put_with, put_at, event_with, log_of, are_found}
use Rattle.disk_mirror.specs.Twin.{unheard, heard_of}
use Rattle.disk_mirror.specs.Mirror.{IsOnSide, IsMirrorOf}
use Rattle.disk_mirror.specs.Times.{times_on, IsTimed}
use Rattle.disk_mirror.specs.Turns.{accepted_in}
use Rattle.disk_mirror.proofs.Found.{put_new, log_more, all_found_more, log_snoc, found_snoc, length-log}
use Rattle.disk_mirror.proofs.Steps.{get-front, get-last, get-behind, parted}
use Rattle.disk_mirror.proofs.Sides.{side_write}
use Rattle.disk_mirror.proofs.Came.{write_came}

-- one more event of a disk of n blocks
events_more : (n : ℕ) (log : List Event) (e : Event) → AreEventsOf n log → IsEventOf n e → AreEventsOf n (log ++ e ∷ [])
events_more n [] e all one = (one, tt)
events_more n (x ∷ log) e all one = (all.0, events_more n log e all.1 one)

pub log_event : (n : ℕ) (log : List Event) (e : Event) → IsLogOf n log → MayCome log e → IsEventOf n e → IsLogOf n (log ++ e ∷ [])
log_event n log e is may one = record { lawful = lawful_event log e is.lawful may; events = events_more n log e is.events one }

-- how a disk's log went on in a write
abbrev pub Goes : List Event → List Event → Type 0
Goes old new = (more : List Event) × (new ≡ old ++ more)

pub goes : (b : ℕ) (x : List ℕ) (m : ℕ) (r : Written) (live now : Bool) (end later : ℕ) (old new : List Event) → HalfWrites true b x m r live now end later old new → Goes old new
goes b x m (Given t) live now end later old new h = (Wrote t b x ∷ [], (h.3 refl).2)
goes b x m Missed live now end later old new h = (Lost b x ∷ [], h.3 refl)
goes b x m Nothing live now end later old new h = ([], h.2 refl ∙ sym (append-nil old))

-- a disk that is live after a write was so before it
was_live : (b : ℕ) (x : List ℕ) (m : ℕ) (r : Written) (live now : Bool) (end later : ℕ) (old new : List Event) → HalfWrites true b x m r live now end later old new → now ≡ true → live ≡ true
was_live b x m (Given t) live now end later old new h on_it = h.0
was_live b x m Missed live now end later old new h on_it = absurd (false≢true (sym h.1 ∙ on_it))
was_live b x m Nothing live now end later old new h on_it = absurd (false≢true (sym h.0 ∙ on_it))

pub log_goes : (es : List Entry) (a b c d : List Event) → Goes a c → Goes b d → are_found a b es ≡ true → log_of c d es ≡ log_of a b es
log_goes es a b c d p q f = ap₂ (λ u v. log_of u v es) p.1 q.1 ∙ log_more es a b p.0 q.0 f

pub found_goes : (es : List Entry) (a b c d : List Event) → Goes a c → Goes b d → are_found a b es ≡ true → are_found c d es ≡ true
found_goes es a b c d p q f = ap₂ (λ u v. are_found u v es) p.1 q.1 ∙ all_found_more es a b p.0 q.0 f

-- the write that a live disk accepted is found in its log
put_found : (blk : ℕ) (x : List ℕ) (m : ℕ) (r q : Written) (first now_a second now_b : Bool) (ea la eb lb : ℕ) (a c b d : List Event)
    → HalfWrites true blk x m r first now_a ea la a c → HalfWrites true blk x m q second now_b eb lb b d → (now_a || now_b) ≡ true
    → put_at (given_in r) (given_in q) c d ≡ Some (record { block = blk; bytes = x })
put_found blk x m (Given t) q first now_a second now_b ea la eb lb a c b d h k some = ap (put_with t) (h.3 refl).2 ∙ put_new t blk x a (h.3 refl).0
put_found blk x m Missed (Given u) first now_a second now_b ea la eb lb a c b d h k some = ap (put_with u) (k.3 refl).2 ∙ put_new u blk x b (k.3 refl).0
put_found blk x m Nothing (Given u) first now_a second now_b ea la eb lb a c b d h k some = ap (put_with u) (k.3 refl).2 ∙ put_new u blk x b (k.3 refl).0
put_found blk x m Missed Missed first now_a second now_b ea la eb lb a c b d h k some = absurd (false≢true (sym (ap₂ (λ p q. p || q) h.1 k.1) ∙ some))
put_found blk x m Missed Nothing first now_a second now_b ea la eb lb a c b d h k some = absurd (false≢true (sym (ap₂ (λ p q. p || q) h.1 k.0) ∙ some))
put_found blk x m Nothing Missed first now_a second now_b ea la eb lb a c b d h k some = absurd (false≢true (sym (ap₂ (λ p q. p || q) h.0 k.1) ∙ some))
put_found blk x m Nothing Nothing first now_a second now_b ea la eb lb a c b d h k some = absurd (false≢true (sym (ap₂ (λ p q. p || q) h.0 k.0) ∙ some))

-- a write that the mirror accepted: the log
pub accepted_log : (blk : ℕ) (x : List ℕ) (m : ℕ) (r q : Written) (first now_a second now_b : Bool) (ea la eb lb : ℕ) (a c b d : List Event) (o : OrderState) (came : Came)
    → HalfWrites true blk x m r first now_a ea la a c → HalfWrites true blk x m q second now_b eb lb b d → (now_a || now_b) ≡ true → are_found a b o.events ≡ true
    → log_of c d (accepted_in o (given_in r) (given_in q) came).events ≡ log_of a b o.events ++ Wrote (length o.pairs + 1) blk x ∷ []
accepted_log blk x m r q first now_a second now_b ea la eb lb a c b d o came h k some f =
    log_snoc o.events (Accepted (length o.pairs + 1) (given_in r) (given_in q)) c d
    ∙ ap₂ (λ (l : List Event) (e : Event). l ++ e ∷ []) (log_goes o.events a b c d (goes blk x m r first now_a ea la a c h) (goes blk x m q second now_b eb lb b d k) f)
    (ap (λ p. event_with p (Accepted (length o.pairs + 1) (given_in r) (given_in q))) (put_found blk x m r q first now_a second now_b ea la eb lb a c b d h k some))

pub still_live : (blk : ℕ) (x : List ℕ) (m : ℕ) (r q : Written) (first now_a second now_b : Bool) (ea la eb lb : ℕ) (a c b d : List Event)
    → HalfWrites true blk x m r first now_a ea la a c → HalfWrites true blk x m q second now_b eb lb b d → (now_a || now_b) ≡ true → (first || second) ≡ true
still_live blk x m r q first now_a second now_b ea la eb lb a c b d h k some =
    ⊎_elim (λ p. or_left first second (was_live blk x m r first now_a ea la a c h p)) (λ p. or_right first second (was_live blk x m q second now_b eb lb b d k p)) (or_cases now_a now_b some)

row_last : (rows : List Heard) (i : ℕ) → heard_of (rows ++ unheard ∷ []) i ≡ heard_of rows i
row_last rows i = ⊎_elim (λ low. get-front (unheard ∷ rows) (unheard ∷ []) unheard i low) (λ high. behind high ∙ sym (get-behind (unheard ∷ rows) unheard i high)) (parted i (suc (length rows)))
  where
    behind : suc (length rows) ≤ i → heard_of (rows ++ unheard ∷ []) i ≡ unheard
    behind high = ⊎_elim (λ low. get-last (unheard ∷ rows) unheard unheard i (omega (arith, high, low))) (λ more. get-behind (unheard ∷ (rows ++ unheard ∷ [])) unheard i (omega (arith, more, length-append rows (unheard ∷ [])))) (parted i (suc (suc (length rows))))

pub mirror_accept : (n : ℕ) (base began : Blocks) (blk : ℕ) (x : List ℕ) (r q : Written) (first now_a second now_b : Bool) (ea la eb lb : ℕ) (a c b d : List Event) (o : OrderState) (came : Came)
    → blk < n → IsBlock x → length o.heard ≡ length o.pairs → length o.pairs + 1 < 2 ^ 64 → IsLawful a → IsLawful b → came.first ≡ length c → came.second ≡ length d
    → HalfWrites true blk x (length o.events) r first now_a ea la a c → HalfWrites true blk x (length o.events) q second now_b eb lb b d → (now_a || now_b) ≡ true
    → IsMirrorOf n base began a b first second ea eb o → IsMirrorOf n base began c d now_a now_b la lb (accepted_in o (given_in r) (given_in q) came)
mirror_accept n base began blk x r q first now_a second now_b ea la eb lb a c b d o came there whole fit short lawful_a lawful_b at_a at_b h k some is =
    let i = length o.pairs + 1 in
    let f = is.found (still_live blk x (length o.events) r q first now_a second now_b ea la eb lb a c b d h k some) in
    let new = accepted_log blk x (length o.events) r q first now_a second now_b ea la eb lb a c b d o came h k some f in
    let log_is = log_event n (log_of a b o.events) (Wrote i blk x) is.log (omega (arith, is.count)) (short, there, whole) in
    let hh = subst (λ m. HalfWrites true blk x m r first now_a ea la a c) (sym (length-log o.events a b)) h in
    let kk = subst (λ m. HalfWrites true blk x m q second now_b eb lb b d) (sym (length-log o.events a b)) k in
    let own : Pair = record { first = given_in r; second = given_in q } in
    let on_a = side_write First n base (log_of a b o.events) o.pairs o.heard first now_a ea la base a c blk x i own r fit is.count refl refl is.log.lawful lawful_a hh is.on_first in
    let on_b = side_write Second n base (log_of a b o.events) o.pairs o.heard second now_b eb lb began b d blk x i own q fit is.count refl refl is.log.lawful lawful_b kk is.on_second in
    record {
      log = subst (IsLogOf n) (sym new) log_is;
      count = ap greatest_ticket new ∙ greatest-append (log_of a b o.events) (Wrote i blk x ∷ []) ∙ omega (arith, is.count, length-append o.pairs (record { first = given_in r; second = given_in q } ∷ []));
      given = λ j up upto. ap (is_accepted j) new ∙ is_accepted-append j (log_of a b o.events) (Wrote i blk x ∷ []) ∙ ⊎_elim (λ low. or_left _ _ (is.given j up (omega (arith, low))))
          (λ high. or_right _ _ (or_left _ _ (eq-eqb i j (omega (arith, high, upto, length-append o.pairs (record { first = given_in r; second = given_in q } ∷ [])))))) (parted j (length o.pairs + 1));
      reported = λ j. ap (λ (row : Heard). row.reported) (row_last o.heard j) ∙ is.reported j ∙ sym (ap (is_noticed j) new ∙ is_noticed-append j (log_of a b o.events) (Wrote i blk x ∷ []) ∙ or_false (is_noticed j (log_of a b o.events)));
      found = λ _. found_snoc o.events (Accepted i (given_in r) (given_in q)) c d (found_goes o.events a b c d (goes blk x (length o.events) r first now_a ea la a c h) (goes blk x (length o.events) q second now_b eb lb b d k) f)
          (ap (λ (p : Option Put). is_some p) (put_found blk x (length o.events) r q first now_a second now_b ea la eb lb a c b d h k some));
      on_first = subst (λ l. IsOnSide First n base l (o.pairs ++ own ∷ []) (o.heard ++ unheard ∷ []) now_a la base c) (sym new) on_a;
      on_second = subst (λ l. IsOnSide Second n base l (o.pairs ++ own ∷ []) (o.heard ++ unheard ∷ []) now_b lb began d) (sym new) on_b;
      timed_first = subst (λ l. IsTimed n base l (times_on First (o.times ++ came ∷ [])) now_a la base c) (sym new)
          (write_came First n base (log_of a b o.events) (o.pairs ++ own ∷ []) (o.heard ++ unheard ∷ []) o.times first now_a ea la base a c (Wrote i blk x) came log_is.lawful at_a on_a is.timed_first blk x r lawful_a hh);
      timed_second = subst (λ l. IsTimed n base l (times_on Second (o.times ++ came ∷ [])) now_b lb began d) (sym new)
          (write_came Second n base (log_of a b o.events) (o.pairs ++ own ∷ []) (o.heard ++ unheard ∷ []) o.times second now_b eb lb began b d (Wrote i blk x) came log_is.lawful at_b on_b is.timed_second blk x q lawful_b kk);
    }
  where
    or_false : (p : Bool) → (p || false) ≡ p
    or_false true = refl
    or_false false = refl
