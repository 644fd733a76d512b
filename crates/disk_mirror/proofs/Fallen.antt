-- A mirror after a write behind which no disk is live.
use Rattle.std.proofs.Common.{◌≡◌, ◌⊎◌, inl, inr, ℕ, ◌<◌, ◌||◌, Bool, true, false, List, [], ◌∷◌, ◌++◌, length, Some, refl, sym, ◌∙◌, ap, ap₂, subst, arith, append-nil}
use Rattle.std.proofs.lemmas.Bool.{false≢true, or_left, or_right}
use Rattle.base_types.specs.Seal.{Blocks}
use Rattle.disk_contract.specs.declared.event.Event.{Event}
use Rattle.disk_contract.specs.declared.event.Event.TheVariants.{Lost}
use Rattle.disk_contract.specs.Cell.{greatest_ticket, is_accepted, is_noticed}
use Rattle.disk_contract.specs.Lawful.{IsLawful, IsLogOf, IsBlock}
use Rattle.disk_mirror.proofs.Logs.{is_noticed-append, is_accepted-append, greatest-append}
use Rattle.disk_mirror.specs.declared.entry.Side.{Side}
use Rattle.disk_mirror.specs.declared.entry.Side.TheVariants.{First, Second}
use Rattle.disk_mirror.specs.declared.entry.Entry.TheVariants.{Failed}
use Rattle.disk_mirror.specs.declared.entry.Written.{Written}
use Rattle.disk_mirror.specs.declared.entry.Written.TheVariants.{Given, Missed, Nothing}
use Rattle.disk_mirror.specs.Half.{end_at, HalfWrites}
use Rattle.disk_mirror.specs.Order.{OrderState, lost_on, event_with, log_of}
use Rattle.disk_mirror.specs.Mirror.{IsOnSide, IsMirrorOf}
use Rattle.disk_mirror.specs.declared.entry.Came.{Came}
use Rattle.disk_mirror.specs.Times.{times_on, IsTimed}
use Rattle.disk_mirror.specs.Turns.{failed_in, after_none}
use Rattle.disk_mirror.proofs.Timed.{timed_notices}
use Rattle.disk_mirror.proofs.Came.{write_came}
use Rattle.disk_mirror.proofs.Found.{log_snoc, length-log}
use Rattle.disk_mirror.proofs.Steps.{lost_new}
use Rattle.disk_mirror.proofs.Sides.{side_lost, side_notices}
use Rattle.disk_mirror.proofs.Mirrors.{goes, log_goes, log_event}

or_false : (p : Bool) → (p || false) ≡ p
or_false true = refl
or_false false = refl

-- one disk lost the write, and the mirror did
module _ (n : ℕ) (base began : Blocks) (blk : ℕ) (x : List ℕ) (r q : Written) (first now_a second now_b : Bool) (ea la eb lb : ℕ) (a c b d : List Event) (o : OrderState) (there : blk < n) (whole : IsBlock x)
    (lawful_a : IsLawful a) (lawful_b : IsLawful b) (h : HalfWrites true blk x (length o.events) r first now_a ea la a c) (k : HalfWrites true blk x (length o.events) q second now_b eb lb b d)
    (off_a : now_a ≡ false) (off_b : now_b ≡ false) (came : Came) (at_a : came.first ≡ length c) (at_b : came.second ≡ length d) (is : IsMirrorOf n base began a b first second ea eb o) where
  pub lost_log : (side : Side) → (first || second) ≡ true → lost_on side c d ≡ Some (record { block = blk; bytes = x }) → log_of c d (failed_in o side came).events ≡ log_of a b o.events ++ Lost blk x ∷ []
  lost_log side some put =
      log_snoc o.events (Failed side) c d
      ∙ ap₂ (λ (l : List Event) (e : Event). l ++ e ∷ []) (log_goes o.events a b c d (goes blk x (length o.events) r first now_a ea la a c h) (goes blk x (length o.events) q second now_b eb lb b d k) (is.found some))
      (ap (λ p. event_with p (Failed side)) put)

  pub mirror_lost : (side : Side) → (first || second) ≡ true → lost_on side c d ≡ Some (record { block = blk; bytes = x }) → IsMirrorOf n base began c d now_a now_b la lb (failed_in o side came)
  mirror_lost side some put =
      let new = lost_log side some put in
      let hh = subst (λ m. HalfWrites true blk x m r first now_a ea la a c) (sym (length-log o.events a b)) h in
      let kk = subst (λ m. HalfWrites true blk x m q second now_b eb lb b d) (sym (length-log o.events a b)) k in
      let log_is = log_event n (log_of a b o.events) (Lost blk x) is.log tt (there, whole) in
      let on_a = side_lost First n base (log_of a b o.events) o.pairs o.heard first now_a ea la base a c blk x r is.log.lawful lawful_a off_a hh is.on_first in
      let on_b = side_lost Second n base (log_of a b o.events) o.pairs o.heard second now_b eb lb began b d blk x q is.log.lawful lawful_b off_b kk is.on_second in
      record {
        log = subst (IsLogOf n) (sym new) log_is;
        count = ap greatest_ticket new ∙ greatest-append (log_of a b o.events) (Lost blk x ∷ []) ∙ omega (arith, is.count);
        given = λ j up upto. ap (is_accepted j) new ∙ is_accepted-append j (log_of a b o.events) (Lost blk x ∷ []) ∙ or_left _ _ (is.given j up upto);
        reported = λ j. is.reported j ∙ sym (ap (is_noticed j) new ∙ is_noticed-append j (log_of a b o.events) (Lost blk x ∷ []) ∙ or_false (is_noticed j (log_of a b o.events)));
        found = λ live. absurd (false≢true (sym (ap₂ (λ u v. u || v) off_a off_b) ∙ live));
        on_first = subst (λ l. IsOnSide First n base l o.pairs o.heard now_a la base c) (sym new) on_a;
        on_second = subst (λ l. IsOnSide Second n base l o.pairs o.heard now_b lb began d) (sym new) on_b;
        timed_first = subst (λ l. IsTimed n base l (times_on First (o.times ++ came ∷ [])) now_a la base c) (sym new)
            (write_came First n base (log_of a b o.events) o.pairs o.heard o.times first now_a ea la base a c (Lost blk x) came log_is.lawful at_a on_a is.timed_first blk x r lawful_a hh);
        timed_second = subst (λ l. IsTimed n base l (times_on Second (o.times ++ came ∷ [])) now_b lb began d) (sym new)
            (write_came Second n base (log_of a b o.events) o.pairs o.heard o.times second now_b eb lb began b d (Lost blk x) came log_is.lawful at_b on_b is.timed_second blk x q lawful_b kk);
      }

-- no disk is left, and nothing of the write is
pub mirror_nothing : (n : ℕ) (base began : Blocks) (first now_a second now_b : Bool) (ea la eb lb : ℕ) (a b : List Event) (o : OrderState) → IsLawful a → IsLawful b → now_a ≡ false → now_b ≡ false
    → la ≡ end_at (length o.events) first ea → lb ≡ end_at (length o.events) second eb → IsMirrorOf n base began a b first second ea eb o → IsMirrorOf n base began a b now_a now_b la lb o
mirror_nothing n base began first now_a second now_b ea la eb lb a b o lawful_a lawful_b off_a off_b at_a at_b is = record {
  log = is.log;
  count = is.count;
  given = is.given;
  reported = is.reported;
  found = λ live. absurd (false≢true (sym (ap₂ (λ u v. u || v) off_a off_b) ∙ live));
  on_first = subst (λ l. IsOnSide First n base (log_of a b o.events) o.pairs o.heard now_a la base l) (append-nil a)
      (side_notices First n base (log_of a b o.events) o.pairs o.heard first now_a ea la base a [] is.log.lawful lawful_a (λ on_it. absurd (false≢true (sym off_a ∙ on_it))) (λ _. at_a ∙ ap (λ m. end_at m first ea) (sym (length-log o.events a b))) is.on_first);
  on_second = subst (λ l. IsOnSide Second n base (log_of a b o.events) o.pairs o.heard now_b lb began l) (append-nil b)
      (side_notices Second n base (log_of a b o.events) o.pairs o.heard second now_b eb lb began b [] is.log.lawful lawful_b (λ on_it. absurd (false≢true (sym off_b ∙ on_it))) (λ _. at_b ∙ ap (λ m. end_at m second eb) (sym (length-log o.events a b))) is.on_second);
  timed_first = subst (λ l. IsTimed n base (log_of a b o.events) (times_on First o.times) now_a la base l) (append-nil a)
      (timed_notices n base (log_of a b o.events) (times_on First o.times) first now_a ea la base a [] (λ on_it. absurd (false≢true (sym off_a ∙ on_it))) (λ _. at_a ∙ ap (λ m. end_at m first ea) (sym (length-log o.events a b))) is.timed_first);
  timed_second = subst (λ l. IsTimed n base (log_of a b o.events) (times_on Second o.times) now_b lb began l) (append-nil b)
      (timed_notices n base (log_of a b o.events) (times_on Second o.times) second now_b eb lb began b [] (λ on_it. absurd (false≢true (sym off_b ∙ on_it))) (λ _. at_b ∙ ap (λ m. end_at m second eb) (sym (length-log o.events a b))) is.timed_second);
}

-- whatever came of the write on two disks of which none is live behind it
pub mirror_none : (n : ℕ) (base began : Blocks) (blk : ℕ) (x : List ℕ) (r q : Written) (first now_a second now_b : Bool) (ea la eb lb : ℕ) (a c b d : List Event) (o : OrderState) → blk < n → IsBlock x
    → IsLawful a → IsLawful b → HalfWrites true blk x (length o.events) r first now_a ea la a c → HalfWrites true blk x (length o.events) q second now_b eb lb b d
    → now_a ≡ false → now_b ≡ false → (came : Came) → came.first ≡ length c → came.second ≡ length d → IsMirrorOf n base began a b first second ea eb o
    → IsMirrorOf n base began c d now_a now_b la lb (after_none o r q came) × ((log_of c d (after_none o r q came).events ≡ log_of a b o.events) ⊎ (log_of c d (after_none o r q came).events ≡ log_of a b o.events ++ Lost blk x ∷ []))
mirror_none n base began blk x Missed q first now_a second now_b ea la eb lb a c b d o there whole lawful_a lawful_b h k off_a off_b came at_a at_b is =
    let some = or_left first second h.0 in
    let put = ap (λ l. lost_on First l d) (h.3 refl) ∙ lost_new a blk x (is.on_first.twin h.0).lossless in (
      mirror_lost n base began blk x Missed q first now_a second now_b ea la eb lb a c b d o there whole lawful_a lawful_b h k off_a off_b came at_a at_b is First some put,
      inr (lost_log n base began blk x Missed q first now_a second now_b ea la eb lb a c b d o there whole lawful_a lawful_b h k off_a off_b came at_a at_b is First some put),
    )
mirror_none n base began blk x Nothing Missed first now_a second now_b ea la eb lb a c b d o there whole lawful_a lawful_b h k off_a off_b came at_a at_b is =
    let some = or_right first second k.0 in
    let put = ap (λ l. lost_on Second c l) (k.3 refl) ∙ lost_new b blk x (is.on_second.twin k.0).lossless in (
      mirror_lost n base began blk x Nothing Missed first now_a second now_b ea la eb lb a c b d o there whole lawful_a lawful_b h k off_a off_b came at_a at_b is Second some put,
      inr (lost_log n base began blk x Nothing Missed first now_a second now_b ea la eb lb a c b d o there whole lawful_a lawful_b h k off_a off_b came at_a at_b is Second some put),
    )
mirror_none n base began blk x (Given t) q first now_a second now_b ea la eb lb a c b d o there whole lawful_a lawful_b h k off_a off_b came at_a at_b is = absurd (false≢true (sym off_a ∙ h.1))
mirror_none n base began blk x Nothing (Given u) first now_a second now_b ea la eb lb a c b d o there whole lawful_a lawful_b h k off_a off_b came at_a at_b is = absurd (false≢true (sym off_b ∙ k.1))
mirror_none n base began blk x Nothing Nothing first now_a second now_b ea la eb lb a c b d o there whole lawful_a lawful_b h k off_a off_b came at_a at_b is = (
  subst (λ l. IsMirrorOf n base began l d now_a now_b la lb o) (sym (h.2 refl)) (subst (λ l. IsMirrorOf n base began a l now_a now_b la lb o) (sym (k.2 refl))
      (mirror_nothing n base began first now_a second now_b ea la eb lb a b o lawful_a lawful_b off_a off_b h.1 k.1 is)),
  inl (ap₂ (λ u v. log_of u v o.events) (h.2 refl) (k.2 refl)),
)
