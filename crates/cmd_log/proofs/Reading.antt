-- How far a log is in its input, from one call to the next, and how it ends.
use Rattle.std.proofs.Common.{◌≡◌, ◌⊎◌, inl, inr, ℕ, ◌+◌, ◌-◌, ◌^◌, ◌<◌, ◌≤◌, Bool, true, false, true≢false, List, [], ◌∷◌, ◌++◌, length, length-append, take, Option, Some, None, Result, Ok, Err, refl, sym, ap, ◌∙◌, subst, arith, append_assoc, append-nil}
use Rattle.std.proofs.lemmas.Bool.{cases_Bool}
use Rattle.std.proofs.lemmas.Result.{err_from_is_err_and}
use Rattle.std.specs.Result.{IsErrAnd}
use Rattle.std.proofs.KnownBytes.{Appends-nil, Appends-trans, Consumes-nil, Consumes-trans}
use Rattle.std.specs.Io.KnownBytes.{Appends, Consumes}
use Rattle.base_types.specs.Counts.{after_call}
use Rattle.disk_contract.specs.declared.bay.Mark.{Mark}
use Rattle.disk_contract.specs.Disk as disk
use Rattle.lang_log.specs.declared.call.LogCall.{LogCall}
use Rattle.lang_log.specs.declared.call.LogReply.{LogReply}
use Rattle.engine_blocks.specs.State.{State}
use Rattle.lang_lines.specs.declared.next.NextItem.TheVariants as next
use Rattle.lang_lines.specs.Lines.{longest}
use Rattle.lang_lines.specs.Reading.{KnowsEnd, ReaderState, first_state}
use Rattle.lang_log_lines.specs.Grammar.{calls_of, whole_calls}
use Rattle.lang_log_lines.specs.Reading.{HasGivenCalls, HoldsCalls, ReadsCall}
use Rattle.cmd_image.specs.declared.ending.Ending.{Ending}
use Rattle.cmd_image.specs.declared.ending.Ending.TheVariants.{End, SourceFault, LongInput}
use Rattle.cmd_image.specs.declared.running.Stop.{Stop}
use Rattle.cmd_image.specs.declared.running.Stop.TheVariants as stop
use Rattle.cmd_image.specs.Runs.{Streams}
use Rattle.cmd_image.specs.Staying.{rose_before}
use Rattle.cmd_image.specs.Shared.{all_taken}
use Rattle.cmd_image.specs.Steps.{stops_pushing}
use Rattle.cmd_log.specs.declared.refusal.LogRunRefusal.{LogRunRefusal}
use Rattle.cmd_log.specs.Logs.{AreFirstCalls, CountsLogFaults, log_fails_pushing, log_reply_line, log_reply_lines}
use Rattle.cmd_log.specs.Steps.{AtCall, BreaksOff, GivesOne, OnNext, RestsNow, RunsTo, ServesNext, SoFar, Turns, answer_for, of_stop}
use Rattle.std.proofs.Math.Seq.{take-append-add}

-- What lang_lines says of the calls that were given.
pub record GivenLaws : Type 0 where
  pub first : HasGivenCalls [] [] first_state
  pub end : (seen : List ℕ) (calls : List LogCall) (r : ReaderState) → HasGivenCalls seen calls r → r.over ≡ true → r.ahead ≡ [] → calls ≡ calls_of longest seen
  pub whole : (seen : List ℕ) (calls : List LogCall) (r : ReaderState) → HasGivenCalls seen calls r → r.over ≡ false → r.ahead ≡ [] → calls ≡ whole_calls longest seen
  pub front : (seen rest : List ℕ) (calls : List LogCall) (r : ReaderState) → HasGivenCalls seen calls r → r.over ≡ false → (later : List LogCall) × (calls_of longest (seen ++ rest) ≡ calls ++ later)

-- Commands of a reader, by their number.
pub record GivesSome (r : ReaderState) (count : ℕ) : Type 0 where
  pub seen : List ℕ
  pub calls : List LogCall
  pub given : HasGivenCalls seen calls r
  pub count_is : count ≡ length calls

-- The first ones.

first_of : GivenLaws → (left : Option (List ℕ)) (seen : List ℕ) (calls : List LogCall) (r : ReaderState) → HasGivenCalls seen calls r → KnowsEnd r left → (r.over ≡ true → r.ahead ≡ []) → AreFirstCalls left seen calls
first_of laws left seen calls r given ends none = by (cases_Bool r.over)
  where
    by : (r.over ≡ true) ⊎ (r.over ≡ false) → AreFirstCalls left seen calls
    by (inl over) = inl (ends over, ([], sym (laws.end seen calls r given over (none over)) ∙ sym (append-nil calls)))
    by (inr going) = inr (λ rest. laws.front seen rest calls r given going)

-- without the last of them
first_less : (left : Option (List ℕ)) (seen : List ℕ) (calls : List LogCall) (call : LogCall) → AreFirstCalls left seen (calls ++ call ∷ []) → AreFirstCalls left seen calls
first_less left seen calls call (inl all) = inl (all.0, (call ∷ all.1.0, all.1.1 ∙ append_assoc calls (call ∷ []) all.1.0))
first_less left seen calls call (inr front) = inr (λ rest. let some = front rest in (call ∷ some.0, some.1 ∙ append_assoc calls (call ∷ []) some.0))

-- Lines of replies.

lines_more : (replies : List LogReply) (reply : LogReply) → log_reply_lines (replies ++ reply ∷ []) ≡ log_reply_lines replies ++ log_reply_line reply
lines_more [] reply = append-nil (log_reply_line reply)
lines_more (r ∷ replies) reply = ap (λ (xs : List ℕ). log_reply_line r ++ xs) (lines_more replies reply) ∙ sym (append_assoc (log_reply_line r) (log_reply_lines replies) (log_reply_line reply))

-- From one call to the next.

pub at_first : (tells : Bool) (first : disk.State) (marks : List Mark) (s : State) (r : ReaderState) (streams : Streams) → GivenLaws → r ≡ first_state → SoFar tells first [] [] marks s → AtCall tells first marks s r streams streams
at_first tells first marks s r streams laws is h = record {
  seen = [];
  calls = [];
  replies = [];
  so_far = h;
  given = subst (λ (x : ReaderState). HasGivenCalls [] [] x) (sym is) laws.first;
  read = Consumes-nil streams.left;
  ends = λ over. absurd (true≢false (sym over ∙ ap (λ (x : ReaderState). x.over) is));
  took = Appends-nil streams.taken;
}

module _ (tells : Bool) (first : disk.State) (marks : List Mark) (s : State) (r q : ReaderState) (before mid after : Streams) (laws : GivenLaws) (h : AtCall tells first marks s r before mid) where
  pub call_at : (call : LogCall) (marks_now : List Mark) (s_now : State) → ReadsCall (next.Item call) r q mid.left after.left mid.source_faults after.source_faults → ServesNext tells call marks s marks_now s_now mid.taken after.taken → AtCall tells first marks_now s_now q before after
  call_at call marks_now s_now reads serves = record {
    seen = h.seen ++ reads.more;
    calls = h.calls ++ call ∷ [];
    replies = h.replies ++ serves.reply ∷ [];
    so_far = serves.answers first h.calls h.replies h.so_far;
    given = reads.given h.seen h.calls h.given;
    read = Consumes-trans before.left mid.left after.left h.seen reads.more h.read reads.read;
    ends = reads.over h.ends;
    took = subst (λ (xs : List ℕ). Appends before.taken after.taken xs) (sym (lines_more h.replies serves.reply)) (Appends-trans before.taken mid.taken after.taken (log_reply_lines h.replies) (log_reply_line serves.reply) h.took serves.took);
  }

  -- no call came: the output is as it was
  same_calls : (more : List ℕ) → HasGivenCalls (h.seen ++ more) (h.calls ++ []) q → HasGivenCalls (h.seen ++ more) h.calls q
  same_calls more given = subst (λ (cs : List LogCall). HasGivenCalls (h.seen ++ more) cs q) (append-nil h.calls) given

  module _ (same : after.taken ≡ mid.taken) where
    took_all : Appends before.taken after.taken (log_reply_lines h.replies)
    took_all = subst (λ (o : Option (List ℕ)). Appends before.taken o (log_reply_lines h.replies)) (sym same) h.took

    pub end_at : ReadsCall next.End r q mid.left after.left mid.source_faults after.source_faults → RunsTo tells first marks s (Ok End) before after
    end_at reads =
        let given = same_calls reads.more (reads.given h.seen h.calls h.given) in
        record {
          calls = h.calls;
          replies = h.replies;
          so_far = h.so_far;
          reads = (h.seen ++ reads.more, Consumes-trans before.left mid.left after.left h.seen reads.more h.read reads.read, reads.over h.ends reads.ends.0, laws.end (h.seen ++ reads.more) h.calls q given reads.ends.0 reads.ends.1);
          writes = took_all;
        }

    pub fault_at : before.source_faults ≤ mid.source_faults → ReadsCall next.SourceFault r q mid.left after.left mid.source_faults after.source_faults → RunsTo tells first marks s (Ok SourceFault) before after
    fault_at le reads =
        let given = same_calls reads.more (reads.given h.seen h.calls h.given) in
        record {
          calls = h.calls;
          replies = h.replies;
          so_far = h.so_far;
          reads = (h.seen ++ reads.more, Consumes-trans before.left mid.left after.left h.seen reads.more h.read reads.read, rose_before before.source_faults mid.source_faults after.source_faults le reads.ends.0, laws.whole (h.seen ++ reads.more) h.calls q given reads.ends.1 reads.ends.2);
          writes = took_all;
        }

    pub long_at : ReadsCall next.LongInput r q mid.left after.left mid.source_faults after.source_faults → RunsTo tells first marks s (Ok LongInput) before after
    long_at reads =
        let given = same_calls reads.more (reads.given h.seen h.calls h.given) in
        record {
          calls = h.calls;
          replies = h.replies;
          so_far = h.so_far;
          reads = (
            h.seen ++ reads.more,
            reads.read.0,
            subst (λ (xs : List ℕ). Consumes before.left after.left xs) (sym (append_assoc h.seen reads.more (reads.read.0 ∷ []))) (Consumes-trans before.left mid.left after.left h.seen (reads.more ++ reads.read.0 ∷ []) h.read reads.read.1),
            sym given.count ∙ reads.ends.0,
            laws.whole (h.seen ++ reads.more) h.calls q given reads.ends.1 reads.ends.2,
          );
          writes = took_all;
        }

    -- memory ran out before a call came
    pub held_at : (why : LogRunRefusal) → HoldsCalls r q mid.left after.left → (q.over ≡ true → q.ahead ≡ []) → RunsTo tells first marks s (Err why) before after
    held_at why holds none = record {
      calls = h.calls;
      replies = h.replies;
      so_far = h.so_far;
      reads = (h.seen ++ holds.more, Consumes-trans before.left mid.left after.left h.seen holds.more h.read holds.read, first_of laws after.left (h.seen ++ holds.more) h.calls q (holds.given h.seen h.calls h.given) (holds.over h.ends) none);
      writes = all_taken before.taken after.taken (log_reply_lines h.replies) took_all;
    }

  -- The log stops in a call, before it was answered or as its reply was written.

  pub stops_at : (call : LogCall) (marks_now : List Mark) (s_now : State) (why : LogRunRefusal) → ReadsCall (next.Item call) r q mid.left after.left mid.source_faults after.source_faults → (q.over ≡ true → q.ahead ≡ []) → RestsNow tells marks s marks_now s_now mid.taken after.taken ⊎ BreaksOff tells call marks s marks_now s_now mid.taken after.taken → RunsTo tells first marks_now s_now (Err why) before after
  stops_at call marks_now s_now why reads none (inl rests) =
      let firsts = first_of laws after.left (h.seen ++ reads.more) (h.calls ++ call ∷ []) q (reads.given h.seen h.calls h.given) (reads.over h.ends) none in
      record {
        calls = h.calls;
        replies = h.replies;
        so_far = rests.still first h.calls h.replies h.so_far;
        reads = (h.seen ++ reads.more, Consumes-trans before.left mid.left after.left h.seen reads.more h.read reads.read, first_less after.left (h.seen ++ reads.more) h.calls call firsts);
        writes = all_taken before.taken after.taken (log_reply_lines h.replies) (subst (λ (xs : List ℕ). Appends before.taken after.taken xs) (append-nil (log_reply_lines h.replies)) (Appends-trans before.taken mid.taken after.taken (log_reply_lines h.replies) [] h.took rests.took));
      }
  stops_at call marks_now s_now why reads none (inr breaks) = record {
    calls = h.calls ++ call ∷ [];
    replies = h.replies ++ breaks.reply ∷ [];
    so_far = breaks.answers first h.calls h.replies h.so_far;
    reads = (h.seen ++ reads.more, Consumes-trans before.left mid.left after.left h.seen reads.more h.read reads.read, first_of laws after.left (h.seen ++ reads.more) (h.calls ++ call ∷ []) q (reads.given h.seen h.calls h.given) (reads.over h.ends) none);
    writes = (
      length (log_reply_lines h.replies) + breaks.took.0,
      subst (λ (xs : List ℕ). Appends before.taken after.taken xs) (sym (ap (λ (xs : List ℕ). take (length (log_reply_lines h.replies) + breaks.took.0) xs) (lines_more h.replies breaks.reply) ∙ take-append-add (log_reply_lines h.replies) (log_reply_line breaks.reply) breaks.took.0))
          (Appends-trans before.taken mid.taken after.taken (log_reply_lines h.replies) (take breaks.took.0 (log_reply_line breaks.reply)) h.took breaks.took.1),
    );
  }

-- no reader was made
pub none_read : (tells : Bool) (first : disk.State) (marks : List Mark) (s : State) (why : LogRunRefusal) (streams : Streams) → SoFar tells first [] [] marks s → RunsTo tells first marks s (Err why) streams streams
none_read tells first marks s why streams h = record {
  calls = [];
  replies = [];
  so_far = h;
  reads = ([], Consumes-nil streams.left, inr (λ rest. (calls_of longest rest, refl)));
  writes = (0, Appends-nil streams.taken);
}

-- The loop over the calls.

-- the calls that the reader has given were answered, and the counts of faults are as they were, but for the source
pub record IsServing (tells : Bool) (marks_first : List Mark) (s_first : State) (marks : List Mark) (s : State) (r : ReaderState) (before now : Streams) : Type 0 where
  pub source : before.source_faults ≤ now.source_faults
  pub sink : now.sink_faults ≡ before.sink_faults
  pub count : ℕ
  pub gives : GivesSome r count
  pub marked : length marks ≡ length marks_first + count
  pub so_far : (first : disk.State) → SoFar tells first [] [] marks_first s_first → AtCall tells first marks s r before now

pub first_serving : (tells : Bool) (marks : List Mark) (s : State) (r : ReaderState) (streams : Streams) → GivenLaws → r ≡ first_state → IsServing tells marks s marks s r streams streams
first_serving tells marks s r streams laws is = record {
  source = omega arith;
  sink = refl;
  count = 0;
  gives = record { seen = []; calls = []; given = subst (λ (x : ReaderState). HasGivenCalls [] [] x) (sym is) laws.first; count_is = refl };
  marked = omega arith;
  so_far = λ first h. at_first tells first marks s r streams laws is h;
}

module _ (tells : Bool) (marks_first : List Mark) (s_first : State) (marks : List Mark) (s : State) (r : ReaderState) (before mid : Streams) (h : IsServing tells marks_first s_first marks s r before mid) (marks_now : List Mark) (s_now : State) (q : ReaderState) (after : Streams) (result : Result (Option Ending) Stop)
    (turns : (first : disk.State) (start : Streams) → start.source_faults ≤ mid.source_faults → AtCall tells first marks s r start mid → Turns tells first marks_now s_now q result start after)
    (source : mid.source_faults ≤ after.source_faults) (sink : after.sink_faults ≡ after_call (stops_pushing result) mid.sink_faults) (rises : mid.sink_faults ≤ after.sink_faults) where
  pub next_serving : result ≡ Ok None → OnNext result ((seen : List ℕ) (calls : List LogCall) → HasGivenCalls seen calls r → GivesOne seen calls q) → OnNext result (length marks_now ≡ length marks + 1) → IsServing tells marks_first s_first marks_now s_now q before after
  next_serving is gives marked =
      let one = subst (λ (x : Result (Option Ending) Stop). OnNext x ((seen : List ℕ) (calls : List LogCall) → HasGivenCalls seen calls r → GivesOne seen calls q)) is gives h.gives.seen h.gives.calls h.gives.given in
      let more : length marks_now ≡ length marks + 1 = subst (λ (x : Result (Option Ending) Stop). OnNext x (length marks_now ≡ length marks + 1)) is marked in
      record {
        source = omega (arith, h.source, source);
        sink = sink ∙ ap (λ (x : Result (Option Ending) Stop). after_call (stops_pushing x) mid.sink_faults) is ∙ h.sink;
        count = h.count + 1;
        gives = record { seen = h.gives.seen ++ one.more; calls = h.gives.calls ++ one.call ∷ []; given = one.given; count_is = omega (arith, h.gives.count_is, length-append h.gives.calls (one.call ∷ [])) };
        marked = omega (arith, h.marked, more);
        so_far = λ first k. subst (λ (x : Result (Option Ending) Stop). Turns tells first marks_now s_now q x before after) is (turns first before h.source (h.so_far first k));
      }

  pub next_smaller : length h.gives.calls ≤ 2 ^ 30 + 1 → result ≡ Ok None → OnNext result (length marks_now ≡ length marks + 1) → (length marks_first + 2 ^ 30 + 2) - length marks_now < (length marks_first + 2 ^ 30 + 2) - length marks
  next_smaller few is marked =
      let more : length marks_now ≡ length marks + 1 = subst (λ (x : Result (Option Ending) Stop). OnNext x (length marks_now ≡ length marks + 1)) is marked in
      omega (arith, h.marked, h.gives.count_is, few, more)

  -- the log ends

  pub next_ends : (ending : Ending) → result ≡ Ok (Some ending) → (first : disk.State) → SoFar tells first [] [] marks_first s_first → RunsTo tells first marks_now s_now (Ok ending) before after
  next_ends ending is first k = subst (λ (x : Result (Option Ending) Stop). Turns tells first marks_now s_now q x before after) is (turns first before h.source (h.so_far first k))

  pub next_counts : (ending : Ending) → result ≡ Ok (Some ending) → CountsLogFaults (Ok ending) before after
  next_counts ending is = record { source = omega (arith, h.source, source); rises = omega (arith, h.sink, rises); sink = sink ∙ ap (λ (x : Result (Option Ending) Stop). after_call (stops_pushing x) mid.sink_faults) is ∙ h.sink }

  pub next_stops : (why : Stop) (x : Result Ending Stop) → result ≡ Err why → IsErrAnd x (λ y. y ≡ why) → (first : disk.State) → SoFar tells first [] [] marks_first s_first → RunsTo tells first marks_now s_now (answer_for x) before after
  next_stops why x is same first k =
      let p = err_from_is_err_and x same in
      subst (λ (a : Result Ending LogRunRefusal). RunsTo tells first marks_now s_now a before after) (sym (ap answer_for p.1 ∙ ap (λ (y : Stop). Err (of_stop y)) p.2))
      (subst (λ (x : Result (Option Ending) Stop). Turns tells first marks_now s_now q x before after) is (turns first before h.source (h.so_far first k)))

  pub next_stop_counts : (why : Stop) (x : Result Ending Stop) → result ≡ Err why → IsErrAnd x (λ y. y ≡ why) → CountsLogFaults (answer_for x) before after
  next_stop_counts why x is same =
      let p = err_from_is_err_and x same in
      record {
        source = omega (arith, h.source, source);
        rises = omega (arith, h.sink, rises);
        sink = sink ∙ ap (λ (x : Result (Option Ending) Stop). after_call (stops_pushing x) mid.sink_faults) is ∙ ap (λ (n : ℕ). after_call (stops_pushing {T = Option Ending} (Err why)) n) h.sink
            ∙ ap (λ (b : Bool). after_call b before.sink_faults) (same_push why ∙ sym (ap (λ (a : Result Ending Stop). log_fails_pushing (answer_for a)) p.1 ∙ ap (λ (y : Stop). log_fails_pushing (Err (of_stop y))) p.2));
      }
    where
      same_push : (why : Stop) → stops_pushing {T = Option Ending} (Err why) ≡ log_fails_pushing (Err (of_stop why))
      same_push stop.NoMemory = refl
      same_push stop.SinkFault = refl

-- the log stops by this answer
pub stops_turn : (tells : Bool) (first : disk.State) (marks : List Mark) (s : State) (r : ReaderState) (before now : Streams) (Q : Stop → Type 0) (x : Result (Option Ending) Stop) → IsErrAnd x Q → ((why : LogRunRefusal) → RunsTo tells first marks s (Err why) before now) → Turns tells first marks s r x before now
stops_turn tells first marks s r before now Q x is runs =
    let p = err_from_is_err_and x is in
    subst (λ (y : Result (Option Ending) Stop). Turns tells first marks s r y before now) (sym p.1) (runs (of_stop p.0))

-- no reader was made, so that nothing was read
pub none_read_by : (tells : Bool) (first : disk.State) (marks : List Mark) (s : State) (streams : Streams) (Q : Stop → Type 0) (x : Result Ending Stop) → IsErrAnd x Q → SoFar tells first [] [] marks s → RunsTo tells first marks s (answer_for x) streams streams
none_read_by tells first marks s streams Q x is h =
    let p = err_from_is_err_and x is in
    subst (λ (y : Result Ending Stop). RunsTo tells first marks s (answer_for y) streams streams) (sym p.1) (none_read tells first marks s (of_stop p.0) streams h)

pub none_counted : (streams : Streams) (x : Result Ending Stop) → IsErrAnd x (λ y. y ≡ stop.NoMemory) → CountsLogFaults (answer_for x) streams streams
none_counted streams x is =
    let p = err_from_is_err_and x is in
    record { source = omega arith; rises = omega arith; sink = sym (ap (λ (a : Result Ending Stop). after_call (log_fails_pushing (answer_for a)) streams.sink_faults) p.1 ∙ ap (λ (y : Stop). after_call (log_fails_pushing (Err (of_stop y))) streams.sink_faults) p.2) }
