-- What crashes leave of a log at each moment, by the numbers of its appends.
use Rattle.std.proofs.Common.{◌≡◌, ◌⊎◌, inl, inr, ⊎_elim, ℕ, zero, suc, max, nat_le, ◌+◌, ◌-◌, ◌≤◌, ◌<◌, Bool, true, false, if◌then◌else◌, List, [], ◌∷◌, ◌++◌, length, take, drop, slice_get, refl, sym, ◌∙◌, ap, ap₂, subst, arith}
use Rattle.std.proofs.Math.Logic.{∥∥₁_map}
use Rattle.std.proofs.lemmas.Bool.{cases_Bool}
use Rattle.std.proofs.lemmas.Bool.Decides.{nat_tests}
use Rattle.base_types.specs.Seal.{Blocks}
use Rattle.disk_contract.specs.declared.event.Event.{Event}
use Rattle.disk_contract.specs.Crash.{IsHonest}
use Rattle.lang_log.specs.declared.call.LogCall.{LogCall}
use Rattle.lang_log.specs.declared.call.LogCall.TheVariants.{Append, Bad, Count, Get, Order, Sync, Trim}
use Rattle.lang_log.specs.declared.call.LogReply.{LogReply}
use Rattle.lang_log.specs.declared.call.LogReply.TheVariants as reply
use Rattle.lang_log.specs.Answers.{AnswersLog, IsTrimmedUpto, LogRun, MayBegin, after_call, after_calls, trimmed_by}
use Rattle.lang_log.specs.History.{History, MayBeLeft, appended, became, opened_with, synced, trimmed_to}
use Rattle.lang_log.specs.Log.{Log}
use Rattle.lang_log.specs.Runs.{Appends, AreOf, IsRunOf, all_kept, found_in, from_low, one_more}
use Rattle.fs_log.specs.Keeping.{StandsForLog}
use Rattle.cmd_trace.specs.Trace.{Ascend}
use Rattle.cmd_log.specs.Moments.{StandsForRun, answered_by, low_after, low_after_all}
use Rattle.cmd_log.specs.Serving.{LeavesAt, Serves, ServesAll}

-- calls that were answered one after the other are a run
pub is_run : (n : ℕ) (base : Blocks) (log : List Event) (from : ℕ) (h k : History) (calls : List LogCall) (replies : List LogReply) (marks : List ℕ) → ServesAll n base log from h calls replies marks k → LogRun h calls replies k
is_run n base log from h k [] [] [] serves = serves.0
is_run n base log from h k [] [] (mark ∷ marks) serves = absurd serves
is_run n base log from h k [] (answer ∷ replies) marks serves = absurd serves
is_run n base log from h k (call ∷ calls) [] marks serves = absurd serves
is_run n base log from h k (call ∷ calls) (answer ∷ replies) [] serves = absurd serves
is_run n base log from h k (call ∷ calls) (answer ∷ replies) (mark ∷ marks) serves = (serves.0, serves.1.answers, is_run n base log mark serves.0 k calls replies marks serves.2)

-- What lang_log says of histories, of runs of calls, and of their appends.
pub record RunLaws : Type 0 where
  pub now : (h : History) → MayBeLeft h h.now
  pub still : (h : History) (l k : Log) → MayBeLeft h k → MayBeLeft (became l h) k
  pub only : (h : History) (k : Log) → MayBeLeft (synced h) k → k ≡ h.now
  pub more : (h mid k : History) (calls : List LogCall) (replies : List LogReply) (call : LogCall) (answer : LogReply) → LogRun h calls replies mid → AnswersLog mid call answer k
      → LogRun h (calls ++ call ∷ []) (replies ++ answer ∷ []) k
  pub opened : (l : Log) (calls : List LogCall) (replies : List LogReply) (k : History) → LogRun (opened_with l) calls replies k → AreOf k (from_low k.now.low (after_calls calls replies (found_in l)))

-- One call.

-- A sync keeps all; any other call leaves what may be left, and what is kept.
abbrev IsKept : History → History → Appends → Appends → Type 0
IsKept h k a b = (k ≡ synced h) × (b ≡ all_kept a)

abbrev IsStill : History → History → Appends → Appends → Type 0
IsStill h k a b = ((l : Log) → MayBeLeft h l → MayBeLeft k l) × (b.kept ≡ a.kept)

-- What a call makes of what may be left, of what is kept, and of the number with which the log begins, which is this one at most.
record Moves (h k : History) (a b : Appends) (most : ℕ) : Type 0 where
  pub keeps : IsKept h k a b ⊎ IsStill h k a b
  pub rises : h.now.low ≤ k.now.low
  pub upto : k.now.low ≤ most

stays : (h k : History) (a : Appends) (low : ℕ) → h.now.low ≤ low → k ≡ h → Moves h k a a low
stays h k a low le is = record {
  keeps = inr (λ l may. subst (λ (q : History). MayBeLeft q l) (sym is) may, refl);
  rises = omega (arith, ap (λ (q : History). q.now.low) is);
  upto = omega (arith, ap (λ (q : History). q.now.low) is, le);
}

moves_by_append : RunLaws → (h : History) (a : Appends) (bytes : List ℕ) (low : ℕ) → h.now.low ≤ low → Moves h (appended bytes h) a (one_more bytes a) low
moves_by_append laws h a bytes low le = record { keeps = inr (λ l may. laws.still h (appended bytes h).now l may, refl); rises = omega arith; upto = le }

moves_by_sync : (h k : History) (a : Appends) (low : ℕ) → h.now.low ≤ low → k ≡ synced h → Moves h k a (all_kept a) low
moves_by_sync h k a low le is = record {
  keeps = inl (is, refl);
  rises = omega (arith, ap (λ (q : History). q.now.low) is);
  upto = omega (arith, ap (λ (q : History). q.now.low) is, le);
}

-- in a trim it begins no lower with each number that it comes to begin with, nor behind the one up to which it is trimmed
lows_upto : (upto : ℕ) (lows : List ℕ) (h : History) → MayBegin upto h.now lows → (h.now.low ≤ (trimmed_by lows h).now.low) × ((trimmed_by lows h).now.low ≤ max h.now.low upto)
lows_upto upto [] h may = (omega arith, omega arith)
lows_upto upto (low ∷ lows) h may = let more = lows_upto upto lows (trimmed_to low h) may.3 in (omega (arith, more.0, may.0), omega (arith, more.1, may.2))

lows_still : RunLaws → (lows : List ℕ) (h : History) (l : Log) → MayBeLeft h l → MayBeLeft (trimmed_by lows h) l
lows_still laws [] h l may = may
lows_still laws (low ∷ lows) h l may = lows_still laws lows (trimmed_to low h) l (laws.still h (trimmed_to low h).now l may)

trimmed_upto : (h k : History) (upto low : ℕ) → h.now.low ≤ low → IsTrimmedUpto upto h k → k.now.low ≤ max low upto
trimmed_upto h k upto low le trimmed = omega (arith, ap (λ (q : History). q.now.low) trimmed.is, (lows_upto upto trimmed.lows h trimmed.may).1, le)

moves_by_trim : RunLaws → (h k : History) (a : Appends) (upto most : ℕ) → IsTrimmedUpto upto h k → k.now.low ≤ most → Moves h k a a most
moves_by_trim laws h k a upto most trimmed le = record {
  keeps = inr (λ l may. subst (λ (q : History). MayBeLeft q l) (sym trimmed.is) (lows_still laws trimmed.lows h l may), refl);
  rises = omega (arith, ap (λ (q : History). q.now.low) trimmed.is, (lows_upto upto trimmed.lows h trimmed.may).0);
  upto = le;
}

moves : RunLaws → (h k : History) (a : Appends) (call : LogCall) (answer : LogReply) (low : ℕ) → h.now.low ≤ low → AnswersLog h call answer k → Moves h k a (after_call call answer a) (low_after call answer low)
moves laws h k a (Append added) (reply.Number number) low le answers = subst (λ (q : History). Moves h q a (one_more added a) low) (sym answers.3) (moves_by_append laws h a added low le)
moves laws h k a (Append added) (reply.Bytes bytes) low le answers = absurd answers
moves laws h k a (Append added) (reply.Low number) low le answers = absurd answers
moves laws h k a (Append added) (reply.Range begins behind) low le answers = absurd answers
moves laws h k a (Append added) (reply.Ordered point) low le answers = absurd answers
moves laws h k a (Append added) (reply.Durable point) low le answers = absurd answers
moves laws h k a (Append added) reply.Bad low le answers = absurd answers
moves laws h k a (Append added) (reply.NoRecord begins behind) low le answers = absurd answers
moves laws h k a (Append added) reply.TooLong low le answers = stays h k a low le answers.1
moves laws h k a (Append added) reply.LogEnd low le answers = stays h k a low le answers.2
moves laws h k a (Append added) (reply.Refused why) low le answers = stays h k a low le answers.2
moves laws h k a (Get asked) (reply.Number number) low le answers = absurd answers
moves laws h k a (Get asked) (reply.Bytes bytes) low le answers = stays h k a low le answers.2
moves laws h k a (Get asked) (reply.Low number) low le answers = absurd answers
moves laws h k a (Get asked) (reply.Range begins behind) low le answers = absurd answers
moves laws h k a (Get asked) (reply.Ordered point) low le answers = absurd answers
moves laws h k a (Get asked) (reply.Durable point) low le answers = absurd answers
moves laws h k a (Get asked) reply.Bad low le answers = absurd answers
moves laws h k a (Get asked) (reply.NoRecord begins behind) low le answers = stays h k a low le answers.3
moves laws h k a (Get asked) reply.TooLong low le answers = absurd answers
moves laws h k a (Get asked) reply.LogEnd low le answers = absurd answers
moves laws h k a (Get asked) (reply.Refused why) low le answers = stays h k a low le answers.1
moves laws h k a (Trim upto) (reply.Number number) low le answers = absurd answers
moves laws h k a (Trim upto) (reply.Bytes bytes) low le answers = absurd answers
moves laws h k a (Trim upto) (reply.Low number) low le answers = moves_by_trim laws h k a upto number answers.1 (omega (arith, answers.0))
moves laws h k a (Trim upto) (reply.Range begins behind) low le answers = absurd answers
moves laws h k a (Trim upto) (reply.Ordered point) low le answers = absurd answers
moves laws h k a (Trim upto) (reply.Durable point) low le answers = absurd answers
moves laws h k a (Trim upto) reply.Bad low le answers = absurd answers
moves laws h k a (Trim upto) (reply.NoRecord begins behind) low le answers = absurd answers
moves laws h k a (Trim upto) reply.TooLong low le answers = absurd answers
moves laws h k a (Trim upto) reply.LogEnd low le answers = absurd answers
moves laws h k a (Trim upto) (reply.Refused why) low le answers = moves_by_trim laws h k a upto (max low upto) answers (trimmed_upto h k upto low le answers)
moves laws h k a Count (reply.Number number) low le answers = absurd answers
moves laws h k a Count (reply.Bytes bytes) low le answers = absurd answers
moves laws h k a Count (reply.Low number) low le answers = absurd answers
moves laws h k a Count (reply.Range begins behind) low le answers = stays h k a low le answers.2
moves laws h k a Count (reply.Ordered point) low le answers = absurd answers
moves laws h k a Count (reply.Durable point) low le answers = absurd answers
moves laws h k a Count reply.Bad low le answers = absurd answers
moves laws h k a Count (reply.NoRecord begins behind) low le answers = absurd answers
moves laws h k a Count reply.TooLong low le answers = absurd answers
moves laws h k a Count reply.LogEnd low le answers = absurd answers
moves laws h k a Count (reply.Refused why) low le answers = absurd answers
moves laws h k a Order (reply.Number number) low le answers = absurd answers
moves laws h k a Order (reply.Bytes bytes) low le answers = absurd answers
moves laws h k a Order (reply.Low number) low le answers = absurd answers
moves laws h k a Order (reply.Range begins behind) low le answers = absurd answers
moves laws h k a Order (reply.Ordered point) low le answers = stays h k a low le answers
moves laws h k a Order (reply.Durable point) low le answers = absurd answers
moves laws h k a Order reply.Bad low le answers = absurd answers
moves laws h k a Order (reply.NoRecord begins behind) low le answers = absurd answers
moves laws h k a Order reply.TooLong low le answers = absurd answers
moves laws h k a Order reply.LogEnd low le answers = absurd answers
moves laws h k a Order (reply.Refused why) low le answers = stays h k a low le answers
moves laws h k a Sync (reply.Number number) low le answers = absurd answers
moves laws h k a Sync (reply.Bytes bytes) low le answers = absurd answers
moves laws h k a Sync (reply.Low number) low le answers = absurd answers
moves laws h k a Sync (reply.Range begins behind) low le answers = absurd answers
moves laws h k a Sync (reply.Ordered point) low le answers = absurd answers
moves laws h k a Sync (reply.Durable point) low le answers = moves_by_sync h k a low le answers
moves laws h k a Sync reply.Bad low le answers = absurd answers
moves laws h k a Sync (reply.NoRecord begins behind) low le answers = absurd answers
moves laws h k a Sync reply.TooLong low le answers = absurd answers
moves laws h k a Sync reply.LogEnd low le answers = absurd answers
moves laws h k a Sync (reply.Refused why) low le answers = stays h k a low le answers
moves laws h k a Bad (reply.Number number) low le answers = absurd answers
moves laws h k a Bad (reply.Bytes bytes) low le answers = absurd answers
moves laws h k a Bad (reply.Low number) low le answers = absurd answers
moves laws h k a Bad (reply.Range begins behind) low le answers = absurd answers
moves laws h k a Bad (reply.Ordered point) low le answers = absurd answers
moves laws h k a Bad (reply.Durable point) low le answers = absurd answers
moves laws h k a Bad reply.Bad low le answers = stays h k a low le answers
moves laws h k a Bad (reply.NoRecord begins behind) low le answers = absurd answers
moves laws h k a Bad reply.TooLong low le answers = absurd answers
moves laws h k a Bad reply.LogEnd low le answers = absurd answers
moves laws h k a Bad (reply.Refused why) low le answers = absurd answers

-- The image of one moment.

-- a run of some appends is one of the same appends, where no more is kept of them and they may begin later
widened : (a b : Appends) (l : Log) → IsRunOf a l → b.first ≡ a.first → b.appends ≡ a.appends → a.low ≤ b.low → b.kept ≤ a.kept → IsRunOf b l
widened a b l run first appends low kept = record {
  from = omega (arith, run.from, first);
  low = omega (arith, run.low, low);
  kept = omega (arith, run.kept, kept);
  upto = omega (arith, run.upto, first, ap (λ (q : List (List ℕ)). length q) appends);
  appends = run.appends ∙ ap₂ (λ (f : ℕ) (q : List (List ℕ)). take (length l.appends) (drop (l.low - f) q)) (sym first) (sym appends);
}

-- where a log may be left of the one history or of the other, it is a run of the appends behind the call, of which those are kept that were before
left_of_call : RunLaws → (h k : History) (a b : Appends) (most : ℕ) → AreOf h (from_low h.now.low a) → AreOf k (from_low k.now.low b) → Moves h k a b most → (l : Log) → MayBeLeft h l ⊎ MayBeLeft k l
    → IsRunOf (record b { low = most; kept = a.kept }) l
left_of_call laws h k a b most of_h of_k moves l left = ⊎_elim by_sync by_other moves.keeps
  where
    by_sync : IsKept h k a b → IsRunOf (record b { low = most; kept = a.kept }) l
    by_sync is =
        let may : MayBeLeft h l = ⊎_elim (λ before. before) (λ behind. subst (MayBeLeft h) (sym (laws.only h l (subst (λ (q : History). MayBeLeft q l) is.0 behind))) (laws.now h)) left in
        widened (from_low h.now.low a) (record b { low = most; kept = a.kept }) l (of_h.runs l may) (ap (λ (q : Appends). q.first) is.1) (ap (λ (q : Appends). q.appends) is.1) (omega (arith, moves.rises, moves.upto)) (omega arith)

    by_other : IsStill h k a b → IsRunOf (record b { low = most; kept = a.kept }) l
    by_other still =
        let may : MayBeLeft k l = ⊎_elim (λ before. still.0 l before) (λ behind. behind) left in
        widened (from_low k.now.low b) (record b { low = most; kept = a.kept }) l (of_k.runs l may) refl refl moves.upto (omega (arith, still.1))

-- so an image that stands for a tree with such a log stands for such a run
stands_for_run : (n : ℕ) (img : Blocks) (h k : History) (a : Appends) → ((l : Log) → MayBeLeft h l ⊎ MayBeLeft k l → IsRunOf a l) → StandsForLog n img h k → StandsForRun n img a
stands_for_run n img h k a runs image = ⊎_elim
    (λ left. record { tree = image.tree; stands = image.stands; log = left.log; is = left.is; run = runs left.log (inl left.may) })
    (λ left. record { tree = image.tree; stands = image.stands; log = left.log; is = left.is; run = runs left.log (inr left.may) })
    image.left

-- Calls in a row.

run_lengths : (h k : History) (calls : List LogCall) (replies : List LogReply) → LogRun h calls replies k → length calls ≡ length replies
run_lengths h k [] [] run = refl
run_lengths h k [] (answer ∷ replies) run = absurd run
run_lengths h k (call ∷ calls) [] run = absurd run
run_lengths h k (call ∷ calls) (answer ∷ replies) run = omega (arith, run_lengths run.0 k calls replies run.2)

after_more : (calls : List LogCall) (replies : List LogReply) (call : LogCall) (answer : LogReply) (a : Appends) → length calls ≡ length replies
    → after_calls (calls ++ call ∷ []) (replies ++ answer ∷ []) a ≡ after_call call answer (after_calls calls replies a)
after_more [] [] call answer a e = refl
after_more [] (r ∷ replies) call answer a e = absurd (omega (arith, e))
after_more (c ∷ calls) [] call answer a e = absurd (omega (arith, e))
after_more (c ∷ calls) (r ∷ replies) call answer a e = after_more calls replies call answer (after_call c r a) (omega (arith, e))

come : (moment mark : ℕ) → nat_le mark moment ≡ true → mark ≤ moment
come moment mark yet = grind (arith, nat_tests)

not_yet : (moment mark : ℕ) → nat_le mark moment ≡ false → moment ≤ mark
not_yet moment mark not = grind (arith, nat_tests)

-- the appends by a moment, from those on that there were before these calls
abbrev appends_from : Appends → ℕ → List LogCall → List LogReply → ℕ → Appends
appends_from a low calls replies i = record (after_calls (take (suc i) calls) (take (suc i) replies) a) {
  low = low_after_all (take (suc i) calls) (take (suc i) replies) low;
  kept = (after_calls (take i calls) (take i replies) a).kept;
}

module _ (laws : RunLaws) (n : ℕ) (base : Blocks) (log : List Event) (opened : Log) (now : History) (moment : ℕ) (img : Blocks) (within : moment ≤ length log) (honest : IsHonest n base (take moment log) img) where
  -- the appends that there were behind these calls are those of the history then
  of_run : (h : History) (calls : List LogCall) (replies : List LogReply) (a : Appends) → LogRun (opened_with opened) calls replies h → a ≡ after_calls calls replies (found_in opened) → AreOf h (from_low h.now.low a)
  of_run h calls replies a run is = subst (λ (b : Appends). AreOf h (from_low h.now.low b)) (sym is) (laws.opened opened calls replies h run)

  -- A call behind others: the image is of a moment behind it, or before its mark.
  module _ (from mark : ℕ) (h next : History) (done : List LogCall) (told : List LogReply) (a : Appends) (low : ℕ) (call : LogCall) (answer : LogReply) (run : LogRun (opened_with opened) done told h) (is : a ≡ after_calls done told (found_in opened))
      (le : h.now.low ≤ low) (serves : Serves n base log from mark h call answer next) where
    abbrev behind : Appends
    behind = after_call call answer a

    moved : Moves h next a behind (low_after call answer low)
    moved = moves laws h next a call answer low le serves.answers

    run_on : LogRun (opened_with opened) (done ++ call ∷ []) (told ++ answer ∷ []) next
    run_on = laws.more (opened_with opened) h next done told call answer run serves.answers

    is_on : behind ≡ after_calls (done ++ call ∷ []) (told ++ answer ∷ []) (found_in opened)
    is_on = ap (after_call call answer) is ∙ sym (after_more done told call answer (found_in opened) (run_lengths (opened_with opened) h done told run))

    -- what may be left in its midst is a run of the appends that it began
    abbrev begun : Appends
    begun = record behind { low = low_after call answer low; kept = a.kept }

    has_run : (l : Log) → MayBeLeft h l ⊎ MayBeLeft next l → IsRunOf begun l
    has_run = left_of_call laws h next a behind (low_after call answer low) (of_run h done told a run is) (of_run next (done ++ call ∷ []) (told ++ answer ∷ []) behind run_on is_on) moved

    step : (calls : List LogCall) (replies : List LogReply) (marks : List ℕ) → (from ≤ moment) ⊎ LeavesAt n base log moment h h
        → (mark ≤ moment → ∥ StandsForRun n img (appends_from behind (low_after call answer low) calls replies (answered_by moment marks)) ∥₁)
        → ∥ StandsForRun n img (appends_from a low (call ∷ calls) (answer ∷ replies) (answered_by moment (mark ∷ marks))) ∥₁
    step calls replies marks after rest = ⊎_elim
        (λ yet. subst (λ (b : Bool). ∥ StandsForRun n img (appends_from a low (call ∷ calls) (answer ∷ replies) (if b then suc (answered_by moment marks) else 0)) ∥₁) (sym yet) (rest (come moment mark yet)))
        (λ not. subst (λ (b : Bool). ∥ StandsForRun n img (appends_from a low (call ∷ calls) (answer ∷ replies) (if b then suc (answered_by moment marks) else 0)) ∥₁) (sym not) (⊎_elim
        (λ late. ∥∥₁_map (serves.each moment late (not_yet moment mark not) img honest) (stands_for_run n img h next begun has_run))
        (λ leaves. ∥∥₁_map (leaves img honest) (stands_for_run n img h h begun (λ l left. has_run l (inl (⊎_elim (λ may. may) (λ may. may) left)))))
        after))
        (cases_Bool (nat_le mark moment))

  -- behind calls that were answered, where the moment is behind them or leaves a log as it is then: what an image of it stands for
  pub seen : (from : ℕ) (h : History) (done : List LogCall) (told : List LogReply) (a : Appends) (low : ℕ) → LogRun (opened_with opened) done told h → a ≡ after_calls done told (found_in opened) → h.now.low ≤ low
      → (from ≤ moment) ⊎ LeavesAt n base log moment h h
      → (calls : List LogCall) (replies : List LogReply) (marks : List ℕ) → Ascend from marks (length log) → ServesAll n base log from h calls replies marks now
      → ∥ StandsForRun n img (appends_from a low calls replies (answered_by moment marks)) ∥₁
  seen from h done told a low run is le after [] [] [] up serves =
      let leaves : LeavesAt n base log moment h h = ⊎_elim (λ (late : from ≤ moment). subst (λ (m : ℕ). LeavesAt n base log m h h) (omega (arith, up, late, within)) serves.1) (λ leaves. leaves) after in
      ∥∥₁_map (leaves img honest)
      (stands_for_run n img h h (record a { low = low }) (left_of_call laws h h a a low (of_run h done told a run is) (of_run h done told a run is) (stays h h a low le refl)))
  seen from h done told a low run is le after [] [] (mark ∷ marks) up serves = absurd serves
  seen from h done told a low run is le after [] (answer ∷ replies) marks up serves = absurd serves
  seen from h done told a low run is le after (call ∷ calls) [] marks up serves = absurd serves
  seen from h done told a low run is le after (call ∷ calls) (answer ∷ replies) [] up serves = absurd serves
  seen from h done told a low run is le after (call ∷ calls) (answer ∷ replies) (mark ∷ marks) up serves =
      step from mark h serves.0 done told a low call answer run is le serves.1 calls replies marks after (λ come.
      seen mark serves.0 (done ++ call ∷ []) (told ++ answer ∷ []) (after_call call answer a) (low_after call answer low)
      (run_on from mark h serves.0 done told a low call answer run is le serves.1) (is_on from mark h serves.0 done told a low call answer run is le serves.1) (moved from mark h serves.0 done told a low call answer run is le serves.1).upto
      (inl come) calls replies marks up.1 serves.2)

-- One append.

taken_at : {A : Type 0} (n k : ℕ) (xs : List A) → k < n → slice_get (take n xs) k ≡ slice_get xs k
taken_at zero k xs lt = absurd (omega (arith, lt))
taken_at (suc n) k [] lt = refl
taken_at (suc n) zero (x ∷ xs) lt = refl
taken_at (suc n) (suc k) (x ∷ xs) lt = taken_at n k xs (omega (arith, lt))

dropped_at : {A : Type 0} (n : ℕ) (xs : List A) (k : ℕ) → slice_get (drop n xs) k ≡ slice_get xs (n + k)
dropped_at zero xs k = ap (slice_get xs) (behind_none k)
  where
    behind_none : (k : ℕ) → k ≡ zero + k
    behind_none k = omega arith
dropped_at (suc n) [] k = refl
dropped_at (suc n) (x ∷ xs) k = dropped_at n xs k ∙ ap (slice_get (x ∷ xs)) (one_more_behind n k)
  where
    one_more_behind : (n k : ℕ) → suc (n + k) ≡ suc n + k
    one_more_behind n k = omega arith

-- what is kept and isn't trimmed is in each run
pub is_in_run : (a : Appends) (l : Log) (number : ℕ) → IsRunOf a l → a.low ≤ number → number < a.kept → slice_get l.appends (number - l.low) ≡ slice_get a.appends (number - a.first)
is_in_run a l number run from kept =
    let at = number - l.low in
    let behind = l.low - a.first in
    ap (λ (q : List (List ℕ)). slice_get q at) run.appends
    ∙ (taken_at (length l.appends) at (drop behind a.appends) (omega (arith, run.kept, run.low, from, kept))
    ∙ (dropped_at behind a.appends at ∙ ap (slice_get a.appends) (omega (arith, run.from, run.low, from))))
