-- What each private call of a mirror keeps, and what it does to the mirror's log.
use Rattle.std.proofs.Common.{◌≡◌, ◌==◌, if◌then◌else◌, ◌⊎◌, inl, inr, ⊎_elim, ℕ, suc, ◌<◌, ◌≤◌, ◌+◌, ◌^◌, ◌||◌, ◌&&◌, not, Bool, true, false, is_some, List, [], ◌∷◌, ◌++◌, length, Option, Some, None, IfSome, option_map, refl, sym, ◌∙◌, ap, ap₂, subst, arith, append-nil, length-append}
use Rattle.std.proofs.Math.Logic.{∥∥₁_elim, ∥∥₁_map}
use Rattle.std.proofs.lemmas.Bool.{false≢true, eq-eqb, cases_Bool}
use Rattle.std.specs.List.{position}
use Rattle.std.proofs.lemmas.List.Quantifiers.{position-Some}
use Rattle.base_types.specs.Seal.{Blocks}
use Rattle.disk_contract.specs.declared.event.Event.{Event}
use Rattle.disk_contract.specs.declared.event.Event.TheVariants.{Lost, Noticed}
use Rattle.disk_contract.specs.Cell.{accepted, accepted_from, is_accepted, is_noticed, notices}
use Rattle.disk_contract.specs.Disk.{State, IsOpen, SameDisk, Reads}
use Rattle.std.specs.Bool.{OnTrue}
use Rattle.std.proofs.Props.{props}
use Rattle.disk_contract.specs.Lawful.{IsLawful, IsBlock}
use Rattle.disk_mirror.specs.declared.entry.Side.{Side}
use Rattle.disk_mirror.specs.declared.entry.Side.TheVariants.{First, Second}
use Rattle.disk_mirror.specs.declared.entry.Pair.{Pair}
use Rattle.disk_mirror.specs.declared.entry.Heard.{Heard}
use Rattle.disk_mirror.specs.declared.entry.Came.{Came}
use Rattle.disk_mirror.specs.declared.entry.Written.{Written}
use Rattle.disk_mirror.specs.declared.entry.Written.TheVariants.{Given, Missed, Nothing}
use Rattle.disk_mirror.specs.Half.{end_at, HalfReads, HalfWrites, HalfPolls, HalfWaits, given_in}
use Rattle.disk_mirror.specs.Order.{OrderState, lost_on, event_with, log_of}
use Rattle.disk_mirror.specs.declared.entry.Entry.TheVariants.{Failed, Reported}
use Rattle.disk_mirror.proofs.Logs.{is_noticed-append}
use Rattle.disk_mirror.proofs.Found.{log_snoc}
use Rattle.disk_mirror.specs.Rows.{with_heard, is_ready, first_ready, HearsPoll, HearsBoth}
use Rattle.disk_mirror.specs.Twin.{on, no_pair, unheard, heard_on, heard_of, ticket_on, is_over, AreAscending}
use Rattle.disk_mirror.specs.Mirror.{Counts, IsMirrorOf, IsMirror, AreGiven, mirror_state}
use Rattle.disk_mirror.specs.Turns.{accepted_in, heard_in, reported_in_order, after_none}
use Rattle.disk_mirror.proofs.Steps.{calm_of, lost_new, get-front, get-last, parted}
use Rattle.disk_mirror.proofs.Tickets.{has_row}
use Rattle.disk_mirror.proofs.Mirrors.{goes, log_goes, mirror_accept}
use Rattle.disk_mirror.proofs.Fallen.{mirror_none}
use Rattle.disk_mirror.proofs.Reports.{mirror_first, mirror_second, mirror_hears, mirror_reports}
use Rattle.disk_mirror.proofs.Leaves.{found_now, lossless_first, lossless_second}

-- the mirror of disks that are the same but for their logs
pub moved : (n m : ℕ) (base at began from : Blocks) (a b : List Event) (f s : Bool) (ea eb : ℕ) (o : OrderState) → m ≡ n → at ≡ base → from ≡ began → IsMirrorOf n base began a b f s ea eb o → IsMirrorOf m at from a b f s ea eb o
moved n m base at began from a b f s ea eb o size same alike is =
    subst (λ k. IsMirrorOf k at from a b f s ea eb o) (sym size) (subst (λ (x : Blocks). IsMirrorOf n x from a b f s ea eb o) (sym same) (subst (λ (x : Blocks). IsMirrorOf n base x a b f s ea eb o) (sym alike) is))

-- A disk that only notices came to in a call, or that went down.
pub record Grew (m : ℕ) (f now : Bool) (ea la : ℕ) (old new : List Event) : Type 0 where
  pub tickets : List ℕ
  pub log : new ≡ old ++ notices tickets
  pub stays : now ≡ true → (f ≡ true) × (la ≡ ea)
  pub goes : now ≡ false → la ≡ end_at m f ea
  pub quiet : f ≡ false → tickets ≡ []

pub of_read : (m : ℕ) (r f now : Bool) (ea la : ℕ) (old new : List Event) → HalfReads m r f now ea la → new ≡ old → Grew m f now ea la old new
of_read m true f now ea la old new h same = record { tickets = []; log = same ∙ sym (append-nil old); stays = λ _. (h.0, h.2); goes = λ off. absurd (false≢true (sym off ∙ h.1)); quiet = λ _. refl }
of_read m false f now ea la old new h same = record { tickets = []; log = same ∙ sym (append-nil old); stays = λ on_it. absurd (false≢true (sym h.0 ∙ on_it)); goes = λ _. h.1; quiet = λ _. refl }

pub of_poll : (m : ℕ) (r : Option ℕ) (f now : Bool) (ea la : ℕ) (old new : List Event) → HalfPolls true m r f now ea la old new → Grew m f now ea la old new
of_poll m (Some t) f now ea la old new h = record { tickets = t ∷ []; log = (h.3 refl).1; stays = λ _. (h.0, h.2); goes = λ off. absurd (false≢true (sym off ∙ h.1)); quiet = λ off. absurd (false≢true (sym off ∙ h.0)) }
of_poll m None f now ea la old new h = record { tickets = []; log = h.2 refl ∙ sym (append-nil old); stays = h.0; goes = h.1; quiet = λ _. refl }

pub of_wait : (m t : ℕ) (r f now : Bool) (ea la : ℕ) (old new : List Event) → HalfWaits true m t r f now ea la old new → Grew m f now ea la old new
of_wait m t true f now ea la old new h = record { tickets = (h.3 refl).1.tickets; log = (h.3 refl).1.log; stays = λ _. (h.0, h.2); goes = λ off. absurd (false≢true (sym off ∙ h.1)); quiet = λ off. absurd (false≢true (sym off ∙ h.0)) }
of_wait m t false true now ea la old new h = record { tickets = (h.2 refl).tickets; log = (h.2 refl).log; stays = λ on_it. absurd (false≢true (sym h.0 ∙ on_it)); goes = λ _. h.1; quiet = λ off. absurd (false≢true (sym off)) }
of_wait m t false false now ea la old new h = record { tickets = []; log = h.3 refl refl ∙ sym (append-nil old); stays = λ on_it. absurd (false≢true (sym h.0 ∙ on_it)); goes = λ _. h.1; quiet = λ _. refl }

pub none_first : (f s : Bool) → (f || s) ≡ false → f ≡ false
none_first true s e = absurd (false≢true (sym e))
none_first false s e = refl

pub none_second : (f s : Bool) → (f || s) ≡ false → s ≡ false
none_second true s e = absurd (false≢true (sym e))
none_second false s e = e

-- the first disk grew
pub first_told : (a b c : State) (f s now : Bool) (ea eb la m : ℕ) (o : OrderState) → SameDisk a c → m ≡ length o.events → IsLawful a.log → Grew m f now ea la a.log c.log → ∥ IsMirror a b f s ea eb o ∥₁ → ∥ IsMirror c b now s la eb o ∥₁
first_told a b c f s now ea eb la m o same at lawful g told = ∥∥₁_map told (λ (is : IsMirror a b f s ea eb o).
    moved a.blocks c.blocks a.base c.base b.base b.base c.log b.log now s la eb o same.blocks same.base refl
    (subst (λ (l : List Event). IsMirrorOf a.blocks a.base b.base l b.log now s la eb o) (sym g.log)
    (mirror_first a.blocks a.base b.base f now s ea la eb a.log b.log o g.tickets lawful g.stays (λ off. g.goes off ∙ ap (λ k. end_at k f ea) at) (λ none. g.quiet (none_first f s none)) is)))

pub first_log : (a b c : State) (f s now : Bool) (ea eb la m : ℕ) (o : OrderState) → Grew m f now ea la a.log c.log → ∥ IsMirror a b f s ea eb o ∥₁ → log_of c.log b.log o.events ≡ log_of a.log b.log o.events
first_log a b c f s now ea eb la m o g told =
    ⊎_elim (λ some. log_goes o.events a.log b.log c.log b.log (notices g.tickets, g.log) ([], sym (append-nil b.log)) (found_now a.blocks a.base b.base a.log b.log f s ea eb o told some))
    (λ none. ap (λ (l : List Event). log_of l b.log o.events) (g.log ∙ ap (λ ts. a.log ++ notices ts) (g.quiet (none_first f s none)) ∙ append-nil a.log)) (cases_Bool (f || s))

-- the second disk grew
pub second_told : (a b c : State) (f s now : Bool) (ea eb lb m : ℕ) (o : OrderState) → SameDisk b c → m ≡ length o.events → IsLawful b.log → Grew m s now eb lb b.log c.log → ∥ IsMirror a b f s ea eb o ∥₁ → ∥ IsMirror a c f now ea lb o ∥₁
second_told a b c f s now ea eb lb m o same at lawful g told = ∥∥₁_map told (λ (is : IsMirror a b f s ea eb o).
    moved a.blocks a.blocks a.base a.base b.base c.base a.log c.log f now ea lb o refl refl same.base
    (subst (λ (l : List Event). IsMirrorOf a.blocks a.base b.base a.log l f now ea lb o) (sym g.log)
    (mirror_second a.blocks a.base b.base f s now ea eb lb a.log b.log o g.tickets lawful g.stays (λ off. g.goes off ∙ ap (λ k. end_at k s eb) at) (λ none. g.quiet (none_second f s none)) is)))

pub second_log : (a b c : State) (f s now : Bool) (ea eb lb m : ℕ) (o : OrderState) → Grew m s now eb lb b.log c.log → ∥ IsMirror a b f s ea eb o ∥₁ → log_of a.log c.log o.events ≡ log_of a.log b.log o.events
second_log a b c f s now ea eb lb m o g told =
    ⊎_elim (λ some. log_goes o.events a.log b.log a.log c.log ([], sym (append-nil a.log)) (notices g.tickets, g.log) (found_now a.blocks a.base b.base a.log b.log f s ea eb o told some))
    (λ none. ap (λ (l : List Event). log_of a.log l o.events) (g.log ∙ ap (λ ts. b.log ++ notices ts) (g.quiet (none_second f s none)) ∙ append-nil b.log)) (cases_Bool (f || s))

-- what is given stays so as disks go down
pub still_given : (ps : List Pair) (f s f' s' : Bool) → (f' ≡ true → f ≡ true) → (s' ≡ true → s ≡ true) → AreGiven ps f s → AreGiven ps f' s'
still_given ps f s f' s' p q g = record { on_first = λ live. g.on_first (p live); on_second = λ live. g.on_second (q live) }

-- the write that is to be reported next
pub ready_found : (f s : Bool) (rows : List Heard) (i : ℕ) → first_ready f s rows ≡ Some i → (0 < i) × (i ≤ length rows) × (is_ready f s (heard_of rows i) ≡ true)
ready_found f s rows i e = by (position (is_ready f s) rows) refl e
  where
    none_some : (k : ℕ) → None ≡ Some k → ⊥
    none_some k e = cc

    some_is : (m k : ℕ) → Some m ≡ Some k → m ≡ k
    some_is m k e = cc

    by : (p : Option ℕ) → position (is_ready f s) rows ≡ p → option_map (λ k. k + 1) p ≡ Some i → (0 < i) × (i ≤ length rows) × (is_ready f s (heard_of rows i) ≡ true)
    by None is f = absurd (none_some i f)
    by (Some k) is g =
        let r = position-Some (is_ready f s) rows k unheard is in
        let at : suc k ≡ i = omega (arith, some_is (k + 1) i g) in
        (omega (arith, at), omega (arith, at, r.0), subst (λ m. is_ready f s (heard_of rows m) ≡ true) at r.1)

pub ready_parts : (f s : Bool) (h : Heard) → is_ready f s h ≡ true → (h.reported ≡ false) × (f ≡ true → heard_on First h ≡ true) × (s ≡ true → heard_on Second h ≡ true)
ready_parts f s h e = parts f s h.reported h.first h.second e
  where
    parts : (f s r x y : Bool) → (not r && ((not f || x) && (not s || y))) ≡ true → (r ≡ false) × (f ≡ true → x ≡ true) × (s ≡ true → y ≡ true)
    parts f s true x y e = absurd (false≢true e)
    parts true true false true true e = (refl, λ _. refl, λ _. refl)
    parts true true false true false e = absurd (false≢true e)
    parts true true false false y e = absurd (false≢true e)
    parts true false false true y e = (refl, λ _. refl, λ off. absurd (false≢true off))
    parts true false false false y e = absurd (false≢true e)
    parts false true false x true e = (refl, λ off. absurd (false≢true off), λ _. refl)
    parts false true false x false e = absurd (false≢true e)
    parts false false false x y e = (refl, λ off. absurd (false≢true off), λ off. absurd (false≢true off))

-- the mirror notes what a disk has noticed
pub hears_first : (a b : State) (f s : Bool) (ea eb : ℕ) (o : OrderState) (i t : ℕ) → 0 < i → i ≤ length o.heard → ticket_on First o.pairs (Some i) ≡ Some t → is_noticed t a.log ≡ true → ∥ IsMirror a b f s ea eb o ∥₁ → ∥ IsMirror a b f s ea eb (heard_in o First i) ∥₁
hears_first a b f s ea eb o i t up low own noticed told = ∥∥₁_map told (λ (is : IsMirror a b f s ea eb o). mirror_hears a.blocks a.base b.base f s ea eb a.log b.log o First i up low (λ _. ap (is_over a.log) own ∙ noticed) (λ other. absurd (apart other)) is)
  where
    apart : First ≡ Second → ⊥
    apart e = cc

pub hears_second : (a b : State) (f s : Bool) (ea eb : ℕ) (o : OrderState) (i t : ℕ) → 0 < i → i ≤ length o.heard → ticket_on Second o.pairs (Some i) ≡ Some t → is_noticed t b.log ≡ true → ∥ IsMirror a b f s ea eb o ∥₁ → ∥ IsMirror a b f s ea eb (heard_in o Second i) ∥₁
hears_second a b f s ea eb o i t up low own noticed told = ∥∥₁_map told (λ (is : IsMirror a b f s ea eb o). mirror_hears a.blocks a.base b.base f s ea eb a.log b.log o Second i up low (λ other. absurd (apart other)) (λ _. ap (is_over b.log) own ∙ noticed) is)
  where
    apart : Second ≡ First → ⊥
    apart e = cc

pub reports : (a b : State) (f s : Bool) (ea eb : ℕ) (o : OrderState) (i : ℕ) (came : Came) → 0 < i → i ≤ length o.heard → length o.heard ≡ length o.pairs → i < 2 ^ 64 → IsLawful a.log → IsLawful b.log → came.first ≡ length a.log → came.second ≡ length b.log → (heard_of o.heard i).reported ≡ false
    → (f ≡ true → heard_on First (heard_of o.heard i) ≡ true) → (s ≡ true → heard_on Second (heard_of o.heard i) ≡ true) → ∥ IsMirror a b f s ea eb o ∥₁ → ∥ IsMirror a b f s ea eb (reported_in_order o i came) ∥₁
reports a b f s ea eb o i came up low fit short lawful_a lawful_b at_a at_b fresh p q told = ∥∥₁_map told (λ (is : IsMirror a b f s ea eb o). mirror_reports a.blocks a.base b.base f s ea eb a.log b.log o i came up low fit short lawful_a lawful_b at_a at_b fresh p q is)

-- a write
pub accepts : (a b c d : State) (f s f' s' : Bool) (ea eb la lb m : ℕ) (o : OrderState) (blk : ℕ) (x : List ℕ) (r q : Written) (came : Came) → SameDisk a c → SameDisk b d → m ≡ length o.events → blk < a.blocks → IsBlock x → length o.heard ≡ length o.pairs → length o.pairs + 1 < 2 ^ 64 → came.first ≡ length c.log → came.second ≡ length d.log
    → IsLawful a.log → IsLawful b.log → HalfWrites true blk x m r f f' ea la a.log c.log → HalfWrites true blk x m q s s' eb lb b.log d.log → (f' || s') ≡ true
    → ∥ IsMirror a b f s ea eb o ∥₁ → ∥ IsMirror c d f' s' la lb (accepted_in o (given_in r) (given_in q) came) ∥₁
accepts a b c d f s f' s' ea eb la lb m o blk x r q came same alike at there whole fit short at_a at_b lawful_a lawful_b h k some told = ∥∥₁_map told (λ (is : IsMirror a b f s ea eb o).
    moved a.blocks c.blocks a.base c.base b.base d.base c.log d.log f' s' la lb (accepted_in o (given_in r) (given_in q) came) same.blocks same.base alike.base
    (mirror_accept a.blocks a.base b.base blk x r q f f' s s' ea la eb lb a.log c.log b.log d.log o came there whole fit short lawful_a lawful_b at_a at_b
    (subst (λ k. HalfWrites true blk x k r f f' ea la a.log c.log) at h) (subst (λ k. HalfWrites true blk x k q s s' eb lb b.log d.log) at k) some is))

pub falls : (a b c d : State) (f s f' s' : Bool) (ea eb la lb m : ℕ) (o : OrderState) (blk : ℕ) (x : List ℕ) (r q : Written) (came : Came) → SameDisk a c → SameDisk b d → m ≡ length o.events → blk < a.blocks → IsBlock x → came.first ≡ length c.log → came.second ≡ length d.log
    → IsLawful a.log → IsLawful b.log → HalfWrites true blk x m r f f' ea la a.log c.log → HalfWrites true blk x m q s s' eb lb b.log d.log → f' ≡ false → s' ≡ false
    → ∥ IsMirror a b f s ea eb o ∥₁ → ∥ IsMirror c d f' s' la lb (after_none o r q came) ∥₁
falls a b c d f s f' s' ea eb la lb m o blk x r q came same alike at there whole at_a at_b lawful_a lawful_b h k off_a off_b told = ∥∥₁_map told (λ (is : IsMirror a b f s ea eb o).
    moved a.blocks c.blocks a.base c.base b.base d.base c.log d.log f' s' la lb (after_none o r q came) same.blocks same.base alike.base
    (mirror_none a.blocks a.base b.base blk x r q f f' s s' ea la eb lb a.log c.log b.log d.log o there whole lawful_a lawful_b
    (subst (λ k. HalfWrites true blk x k r f f' ea la a.log c.log) at h) (subst (λ k. HalfWrites true blk x k q s s' eb lb b.log d.log) at k) off_a off_b came at_a at_b is).0)

-- what a read of a live disk gives is what a read of the mirror may give
on_true : (v : Bool) (P : Type 0) → OnTrue v P → v ≡ true → P
on_true true P h e = h
on_true false P h e = absurd (false≢true e)

pub read_live : (m : ℕ) (r f now : Bool) (ea la : ℕ) → HalfReads m r f now ea la → r ≡ true → f ≡ true
read_live m true f now ea la h e = h.0
read_live m false f now ea la h e = absurd (false≢true e)

pub reads_first : (a b : State) (f s : Bool) (ea eb : ℕ) (o : OrderState) (c : Counts) (blk : ℕ) (x : List ℕ) (r : Bool) → f ≡ true → OnTrue r (Reads a blk x) → r ≡ true → ∥ IsMirror a b f s ea eb o ∥₁ → Reads (mirror_state a b o c) blk x
reads_first a b f s ea eb o c blk x r live reads done told =
    let own : x ≡ accepted a.base (log_of a.log b.log o.events) blk = ∥∥₁_elim told (search props) (λ (is : IsMirror a b f s ea eb o). let w = is.on_first.twin live in (on_true r (Reads a blk x) reads done).calm (calm_of blk a.log w.lossless) ∙ w.accepted blk (a.base blk)) in
    record { calm = λ _. own; one = ∣ inl own ∣₁ }

pub reads_second : (a b : State) (f s : Bool) (ea eb : ℕ) (o : OrderState) (c : Counts) (blk : ℕ) (x : List ℕ) (r : Bool) → blk < a.blocks → s ≡ true → OnTrue r (Reads b blk x) → r ≡ true → ∥ IsMirror a b f s ea eb o ∥₁ → Reads (mirror_state a b o c) blk x
reads_second a b f s ea eb o c blk x r low live reads done told =
    let own : x ≡ accepted a.base (log_of a.log b.log o.events) blk = ∥∥₁_elim told (search props) (λ (is : IsMirror a b f s ea eb o). let w = is.on_second.twin live in (on_true r (Reads b blk x) reads done).calm (calm_of blk b.log w.lossless) ∙ w.accepted blk (b.base blk) ∙ ap (λ y. accepted_from blk y (log_of a.log b.log o.events)) (is.on_second.alike blk low)) in
    record { calm = λ _. own; one = ∣ inl own ∣₁ }

-- what of a step holds of a disk that tells nothing, too
pub poll_stays : (v : Bool) (m : ℕ) (r : Option ℕ) (f now : Bool) (ea la : ℕ) (old new : List Event) → HalfPolls v m r f now ea la old new → now ≡ true → f ≡ true
poll_stays v m (Some t) f now ea la old new h on_it = h.0
poll_stays v m None f now ea la old new h on_it = (h.0 on_it).0

pub wait_stays : (v : Bool) (m t : ℕ) (r f now : Bool) (ea la : ℕ) (old new : List Event) → HalfWaits v m t r f now ea la old new → now ≡ true → f ≡ true
wait_stays v m t true f now ea la old new h on_it = h.0
wait_stays v m t false f now ea la old new h on_it = absurd (false≢true (sym h.0 ∙ on_it))

-- the notice of the ticket that was answered, or waited for
pub poll_noticed : (m t : ℕ) (r : Option ℕ) (f now : Bool) (ea la : ℕ) (old new : List Event) → HalfPolls true m r f now ea la old new → r ≡ Some t → is_noticed t new ≡ true
poll_noticed m t (Some u) f now ea la old new h e =
    ap (is_noticed t) (h.3 refl).1 ∙ is_noticed-append t old (Noticed u ∷ []) ∙ last (is_noticed t old) (u == t) (eq-eqb u t (same u t e))
  where
    same : (u t : ℕ) → Some u ≡ Some t → u ≡ t
    same u t e = cc

    last : (p q : Bool) → q ≡ true → (p || (q || false)) ≡ true
    last true q e = refl
    last false true e = refl
    last false false e = e
poll_noticed m t None f now ea la old new h e = absurd (none t e)
  where
    none : (t : ℕ) → None ≡ Some t → ⊥
    none t e = cc

pub wait_noticed : (m t : ℕ) (r f now : Bool) (ea la : ℕ) (old new : List Event) → HalfWaits true m t r f now ea la old new → r ≡ true → is_noticed t new ≡ true
wait_noticed m t true f now ea la old new h e = (h.3 refl).0
wait_noticed m t false f now ea la old new h e = absurd (false≢true e)

-- a ticket that was given and isn't reported is open
pub report_open : (a b : State) (f s : Bool) (ea eb : ℕ) (o : OrderState) (i : ℕ) → 0 < i → i ≤ length o.pairs → (heard_of o.heard i).reported ≡ false → ∥ IsMirror a b f s ea eb o ∥₁ → IsOpen i (log_of a.log b.log o.events)
report_open a b f s ea eb o i up low fresh told = (
  ∥∥₁_elim told (search props) (λ (is : IsMirror a b f s ea eb o). is.given i up low),
  λ noticed. ∥∥₁_elim told (λ x y. absurd x) (λ (is : IsMirror a b f s ea eb o). false≢true (sym (sym (is.reported i) ∙ fresh) ∙ noticed)),
)

pub report_log : (a b : List Event) (o : OrderState) (i : ℕ) (came : Came) → log_of a b (reported_in_order o i came).events ≡ log_of a b o.events ++ Noticed i ∷ []
report_log a b o i came = log_snoc o.events (Reported i) a b

pub report_noticed : (a b : List Event) (o : OrderState) (i : ℕ) (came : Came) → is_noticed i (log_of a b (reported_in_order o i came).events) ≡ true
report_noticed a b o i came = ap (is_noticed i) (report_log a b o i came) ∙ is_noticed-append i (log_of a b o.events) (Noticed i ∷ []) ∙ last (is_noticed i (log_of a b o.events)) (i == i) (eq-eqb i i refl)
  where
    last : (p q : Bool) → q ≡ true → (p || (q || false)) ≡ true
    last true q e = refl
    last false true e = refl
    last false false e = e

-- each live disk gave a ticket to the write that was accepted
given_one : (side : Side) (ps : List Pair) (p : Pair) → is_some (on side p) ≡ true → ((i : ℕ) → 0 < i → i ≤ length ps → is_some (ticket_on side ps (Some i)) ≡ true) → (i : ℕ) → 0 < i → i ≤ length (ps ++ p ∷ []) → is_some (ticket_on side (ps ++ p ∷ []) (Some i)) ≡ true
given_one side ps p own all i up low =
    ⊎_elim (λ before. ap (λ q. is_some (on side q)) (get-front (no_pair ∷ ps) (p ∷ []) no_pair i before) ∙ all i up (omega (arith, before)))
    (λ last. ap (λ q. is_some (on side q)) (get-last (no_pair ∷ ps) p no_pair i (omega (arith, last, low, length-append ps (p ∷ [])))) ∙ own) (parted i (suc (length ps)))

pub given_live : (v : Bool) (b : ℕ) (x : List ℕ) (m : ℕ) (r : Written) (f now : Bool) (ea la : ℕ) (old new : List Event) → HalfWrites v b x m r f now ea la old new → now ≡ true → (f ≡ true) × (is_some (given_in r) ≡ true)
given_live v b x m (Given t) f now ea la old new h on_it = (h.0, refl)
given_live v b x m Missed f now ea la old new h on_it = absurd (false≢true (sym h.1 ∙ on_it))
given_live v b x m Nothing f now ea la old new h on_it = absurd (false≢true (sym h.0 ∙ on_it))

pub given_accept : (v w : Bool) (ps : List Pair) (b : ℕ) (x : List ℕ) (m : ℕ) (r q : Written) (f f' s s' : Bool) (ea la eb lb : ℕ) (a c d e : List Event) → HalfWrites v b x m r f f' ea la a c → HalfWrites w b x m q s s' eb lb d e
    → AreGiven ps f s → AreGiven (ps ++ record { first = given_in r; second = given_in q } ∷ []) f' s'
given_accept v w ps b x m r q f f' s s' ea la eb lb a c d e h k g = record {
  on_first = λ live. let p = given_live v b x m r f f' ea la a c h live in given_one First ps (record { first = given_in r; second = given_in q }) p.1 (g.on_first p.0);
  on_second = λ live. let p = given_live w b x m q s s' eb lb d e k live in given_one Second ps (record { first = given_in r; second = given_in q }) p.1 (g.on_second p.0);
}

pub given_none : (ps : List Pair) (f s : Bool) → f ≡ false → s ≡ false → AreGiven ps f s
given_none ps f s p q = record { on_first = λ live. absurd (false≢true (sym p ∙ live)); on_second = λ live. absurd (false≢true (sym q ∙ live)) }

-- the log after a write behind which no disk is live
pub none_log : (a b : State) (c d : List Event) (f s f' s' : Bool) (ea eb la lb m : ℕ) (o : OrderState) (blk : ℕ) (x : List ℕ) (r q : Written) (came : Came) → HalfWrites true blk x m r f f' ea la a.log c → HalfWrites true blk x m q s s' eb lb b.log d → f' ≡ false → s' ≡ false
    → ∥ IsMirror a b f s ea eb o ∥₁ → (log_of c d (after_none o r q came).events ≡ log_of a.log b.log o.events) ⊎ (log_of c d (after_none o r q came).events ≡ log_of a.log b.log o.events ++ Lost blk x ∷ [])
none_log a b c d f s f' s' ea eb la lb m o blk x Missed q came h k off_a off_b told =
    inr (log_snoc o.events (Failed First) c d ∙ ap₂ (λ (l : List Event) (e : Event). l ++ e ∷ [])
    (log_goes o.events a.log b.log c d (goes blk x m Missed f f' ea la a.log c h) (goes blk x m q s s' eb lb b.log d k) (found_now a.blocks a.base b.base a.log b.log f s ea eb o told (left_of f s h.0)))
    (ap (λ p. event_with p (Failed First)) (ap (λ l. lost_on First l d) (h.3 refl) ∙ lost_new a.log blk x (lossless_first a.blocks a.base b.base a.log b.log f s ea eb o told h.0))))
  where
    left_of : (p q : Bool) → p ≡ true → (p || q) ≡ true
    left_of true q e = refl
    left_of false q e = absurd (false≢true e)
none_log a b c d f s f' s' ea eb la lb m o blk x Nothing Missed came h k off_a off_b told =
    inr (log_snoc o.events (Failed Second) c d ∙ ap₂ (λ (l : List Event) (e : Event). l ++ e ∷ [])
    (log_goes o.events a.log b.log c d (goes blk x m Nothing f f' ea la a.log c h) (goes blk x m Missed s s' eb lb b.log d k) (found_now a.blocks a.base b.base a.log b.log f s ea eb o told (right_of f s k.0)))
    (ap (λ p. event_with p (Failed Second)) (ap (λ l. lost_on Second c l) (k.3 refl) ∙ lost_new b.log blk x (lossless_second a.blocks a.base b.base a.log b.log f s ea eb o told k.0))))
  where
    right_of : (p q : Bool) → q ≡ true → (p || q) ≡ true
    right_of true q e = refl
    right_of false q e = e
none_log a b c d f s f' s' ea eb la lb m o blk x (Given t) q came h k off_a off_b told = absurd (false≢true (sym off_a ∙ h.1))
none_log a b c d f s f' s' ea eb la lb m o blk x Nothing (Given u) came h k off_a off_b told = absurd (false≢true (sym off_b ∙ k.1))
none_log a b c d f s f' s' ea eb la lb m o blk x Nothing Nothing came h k off_a off_b told = inl (ap₂ (λ u v. log_of u v o.events) (h.2 refl) (k.2 refl))

-- what a poll of a disk leaves in the rows: it brought no notice
pub hears_none : (side : Side) (pairs : List Pair) (m : ℕ) (r : Option ℕ) (f now : Bool) (ea la : ℕ) (old new : List Event) (rows : List Heard) → HalfPolls true m r f now ea la old new → r ≡ None → HearsPoll side pairs old new rows rows
hears_none side pairs m None f now ea la old new rows h e = record { none = λ _. refl; one = λ t is. absurd (longer t (ap (λ (l : List Event). length l) (sym (h.2 refl) ∙ is))) }
  where
    longer : (t : ℕ) → length old ≡ length (old ++ Noticed t ∷ []) → ⊥
    longer t same = omega (arith, same, length-append old (Noticed t ∷ []))
hears_none side pairs m (Some u) f now ea la old new rows h e = absurd (some_none u e)
  where
    some_none : (u : ℕ) → Some u ≡ None → ⊥
    some_none u e = cc

-- it brought one, which is in the row that was found
pub hears_one : (side : Side) (pairs : List Pair) (m : ℕ) (r : Option ℕ) (f now : Bool) (ea la : ℕ) (old new : List Event) (rows later : List Heard) (t i : ℕ) → HalfPolls true m r f now ea la old new → r ≡ Some t → ticket_on side pairs (Some i) ≡ Some t → later ≡ with_heard side i rows → HearsPoll side pairs old new rows later
hears_one side pairs m None f now ea la old new rows later t i h e own is = absurd (none_some t e)
  where
    none_some : (t : ℕ) → None ≡ Some t → ⊥
    none_some t e = cc
hears_one side pairs m (Some u) f now ea la old new rows later t i h e own is = record {
  none = λ same. absurd (longer (ap (λ (l : List Event). length l) (sym same ∙ (h.3 refl).1)));
  one = λ v log. (i, own ∙ ap (λ k. Some k) (sym (some_is u t e) ∙ last_is u v old (sym (h.3 refl).1 ∙ log)), is);
}
  where
    some_is : (u t : ℕ) → Some u ≡ Some t → u ≡ t
    some_is u t e = cc

    longer : length old ≡ length (old ++ Noticed u ∷ []) → ⊥
    longer same = omega (arith, same, length-append old (Noticed u ∷ []))

    last_is : (u v : ℕ) (xs : List Event) → xs ++ Noticed u ∷ [] ≡ xs ++ Noticed v ∷ [] → u ≡ v
    last_is u v [] e = cc
    last_is u v (x ∷ xs) e = last_is u v xs (rest e)
      where
        rest : x ∷ (xs ++ Noticed u ∷ []) ≡ x ∷ (xs ++ Noticed v ∷ []) → xs ++ Noticed u ∷ [] ≡ xs ++ Noticed v ∷ []
        rest e = cc

-- and a row is always found
pub row_first : (a b : State) (f s : Bool) (ea eb : ℕ) (o : OrderState) (r : Option ℕ) (t : ℕ) → f ≡ true → is_accepted t a.log ≡ true → (AreAscending First o.pairs → (i : ℕ) → ticket_on First o.pairs (Some i) ≡ Some t → r ≡ Some i) → ∥ IsMirror a b f s ea eb o ∥₁ → r ≡ None → ⊥
row_first a b f s ea eb o r t live given all told none = ∥∥₁_elim told (λ x y. absurd x) (λ (is : IsMirror a b f s ea eb o).
    let w = is.on_first.twin live in
    let row = has_row First o.pairs o.heard (log_of a.log b.log o.events) a.log t w given in
    none_some row.0 (sym none ∙ all w.ascend row.0 row.1))
  where
    none_some : (i : ℕ) → None ≡ Some i → ⊥
    none_some i e = cc

pub row_second : (a b : State) (f s : Bool) (ea eb : ℕ) (o : OrderState) (r : Option ℕ) (t : ℕ) → s ≡ true → is_accepted t b.log ≡ true → (AreAscending Second o.pairs → (i : ℕ) → ticket_on Second o.pairs (Some i) ≡ Some t → r ≡ Some i) → ∥ IsMirror a b f s ea eb o ∥₁ → r ≡ None → ⊥
row_second a b f s ea eb o r t live given all told none = ∥∥₁_elim told (λ x y. absurd x) (λ (is : IsMirror a b f s ea eb o).
    let w = is.on_second.twin live in
    let row = has_row Second o.pairs o.heard (log_of a.log b.log o.events) b.log t w given in
    none_some row.0 (sym none ∙ all w.ascend row.0 row.1))
  where
    none_some : (i : ℕ) → None ≡ Some i → ⊥
    none_some i e = cc

-- what was answered was open, on a disk that was live
pub poll_open : (m t : ℕ) (r : Option ℕ) (f now : Bool) (ea la : ℕ) (old new : List Event) → HalfPolls true m r f now ea la old new → r ≡ Some t → (f ≡ true) × IsOpen t old
poll_open m t (Some u) f now ea la old new h e = (h.0, subst (λ k. IsOpen k old) (some_is u t e) (h.3 refl).0)
  where
    some_is : (u t : ℕ) → Some u ≡ Some t → u ≡ t
    some_is u t e = cc
poll_open m t None f now ea la old new h e = absurd (none_some t e)
  where
    none_some : (t : ℕ) → None ≡ Some t → ⊥
    none_some t e = cc

-- a clause under a result that is there
pub if_some : {X : Type 0} (P : X → Type 0) (r : Option X) (x : X) → IfSome r P → r ≡ Some x → P x
if_some P None x h e = absurd (none_some x e)
  where
    none_some : {X : Type 0} (x : X) → None ≡ Some x → ⊥
    none_some x e = cc
if_some P (Some y) x h e = subst P (some_is y x e) h
  where
    some_is : {X : Type 0} (y x : X) → Some y ≡ Some x → y ≡ x
    some_is y x e = cc

-- a poll of the first disk, and then one of the second, behind which the logs stay
pub hears_both : (ps qs : List Pair) (a c e b d k n : List Event) (rows between later : List Heard) → qs ≡ ps → e ≡ c → d ≡ b → n ≡ k → HearsPoll First ps a c rows between → HearsPoll Second qs d k between later → HearsBoth ps a e b n rows later
hears_both ps qs a c e b d k n rows between later same_pairs same_first same_second last first second = (
  between,
  subst (λ (l : List Event). HearsPoll First ps a l rows between) (sym same_first) first,
  subst (λ (l : List Pair). HearsPoll Second l b n between later) same_pairs (subst (λ (l : List Event). HearsPoll Second qs l n between later) same_second (subst (λ (l : List Event). HearsPoll Second qs d l between later) (sym last) second)),
)
