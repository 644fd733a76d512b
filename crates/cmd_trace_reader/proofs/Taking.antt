-- What comes of the text of a reply, by the kind of the command and of the text.
use Rattle.std.proofs.Common.{◌≡◌, ◌≢◌, sym, ap, refl, ◌∙◌, subst, arith, ℕ, ◌<◌, ◌≤◌, ◌^◌, Bool, true, false, ◌||◌, inl, inr, List, Option, Some, None}
use Rattle.std.specs.Prelude.{IfSome}
use Rattle.std.proofs.lemmas.Option.{same_Some}
use Rattle.std.proofs.lemmas.Bool.{both_ways}
use Rattle.lang_tree.specs.declared.command.Cmd.{Cmd}
use Rattle.lang_tree.specs.declared.command.Cmd.TheVariants.{Durable, Bad}
use Rattle.lang_tree.specs.declared.command.Reply.{Reply}
use Rattle.lang_tree.specs.declared.command.Reply.TheVariants.{Known, Bad as NotUnderstood, Refused}
use Rattle.lang_tree.specs.declared.command.Refusal.{Refusal}
use Rattle.lang_tree.specs.declared.command.Refusal.TheVariants.{Full, TooBig, Scattered, Stopped, NoPoint}
use Rattle.lang_tree.specs.Step.{Session, step}
use Rattle.lang_tree.specs.Run.{Answers, is_of_disk}
use Rattle.lang_tree.specs.Points.{CountsPoints, after_reply}
use Rattle.lang_script.specs.Text.{text_of_reply, refusal_text}
use Rattle.lang_script.specs.Values.{IsReply, HasFigures}
use Rattle.cmd_trace.specs.ReadsAs.{IsReadAs, IsOutside}
use Rattle.cmd_trace_reader.specs.Replies.{Kept, MayReply, TellsSmallFigures, Takes, Applies, IsKnown, RefusedSo, after, is_bad, is_durable, is_stopped, is_fault, points_by}
use Rattle.cmd_trace_reader.proofs.Steps.{Alone, step_is_small}

-- ---- small facts

or_false : (b : Bool) → b ≡ (b || false)
or_false b = grind arith

pub bad_is : (cmd : Cmd) → is_bad cmd ≡ true → cmd ≡ Bad
bad_is Bad h = refl
bad_is other h = cc h

durable_is : (cmd : Cmd) → is_durable cmd ≡ true → cmd ≡ Durable
durable_is Durable h = refl
durable_is other h = cc h

true_is_not_false : true ≡ false → ⊥
true_is_not_false h = cc h

not_bad : (cmd : Cmd) → is_bad cmd ≡ false → cmd ≢ Bad
not_bad cmd h e = true_is_not_false (ap is_bad (sym e) ∙ h)

not_durable : (cmd : Cmd) → is_durable cmd ≡ false → cmd ≢ Durable
not_durable cmd h e = true_is_not_false (ap is_durable (sym e) ∙ h)

nothing_found : {A : Type 0} (P : A → Type 0) (x : A) → None ≡ Some x → P x
nothing_found P x h = cc h

stopped_is : (why : Refusal) → is_stopped why ≡ true → why ≡ Stopped
stopped_is Stopped h = refl
stopped_is other h = cc h

wide_figures : (why : Refusal) → IsOutside why → HasFigures why
wide_figures (Full need left) out = (omega (arith, out.figures.0), omega (arith, out.figures.1))
wide_figures (TooBig weight cost room) out = (omega (arith, out.figures.0), omega (arith, out.figures.1), omega (arith, out.figures.2))
wide_figures (Scattered runs) out = omega (arith, out.figures)
wide_figures (NoPoint last) out = absurd (true_is_not_false (sym out.number))
wide_figures other out = tt

abbrev why_of : Reply → Bool
why_of (Refused why) = is_stopped why
why_of reply = false

-- that one text is of one reply, as the law says it
pub record OneReply : Type 0 where
  pub same : (reply other : Reply) → IsReply reply → IsReply other → text_of_reply reply ≡ text_of_reply other → reply ≡ other

-- ---- a bad line

pub bad_reply : (s : Session) (stopped : Bool) (cmd : Cmd) (reply : Reply) → cmd ≡ Bad → reply ≡ NotUnderstood → MayReply s stopped cmd reply
bad_reply s stopped cmd reply is e = record {
  next = s;
  answers = inl (ap (step s) is ∙ ap (λ r. (s, r)) (sym e));
  bad = λ _. e;
  ended = λ _ other. absurd (other is);
  figures = subst TellsSmallFigures (sym e) tt;
}

bad_after : (k : Kept) (cmd : Cmd) (reply : Reply) → cmd ≡ Bad → reply ≡ NotUnderstood → k ≡ after k cmd reply
bad_after k cmd reply is e =
    subst (λ r. k ≡ after k cmd r) (sym e) (subst (λ c. k ≡ after k c NotUnderstood) (sym is) (ap (λ b. record k { stopped = b }) (or_false k.stopped)))

pub takes_bad : (k : Kept) (cmd : Cmd) (text : List ℕ) (found : Option Reply) → is_bad cmd ≡ true
    → IsReadAs text_of_reply (λ reply. reply ≡ NotUnderstood) text found → Takes k cmd text found k
takes_bad k cmd text (Some reply) is h =
    let bad = bad_is cmd is in
    record {
      reads = (bad_reply k.session k.stopped cmd reply bad h.0, h.1);
      after = λ r e. bad_after k cmd r bad (sym (same_Some reply r e) ∙ h.0);
      lawful = subst IsReply (sym h.0) tt;
    }
takes_bad k cmd text None is h = record {
  reads = λ reply may e. h reply (may.bad (bad_is cmd is)) e;
  after = λ r e. nothing_found (λ r. k ≡ after k cmd r) r e;
  lawful = tt;
}

-- ---- a refusal from outside

pub refused_reply : (s : Session) (stopped : Bool) (cmd : Cmd) (why : Refusal) (reply : Reply) → is_bad cmd ≡ false → IsOutside why → (stopped ≡ true → is_stopped why ≡ true)
    → reply ≡ Refused why → MayReply s stopped cmd reply
refused_reply s stopped cmd why reply other out may e = record {
  next = s;
  answers = inr (inl (why, out.number, e, refl));
  bad = λ is. absurd (not_bad cmd other is);
  ended = λ st _. e ∙ ap Refused (stopped_is why (may st));
  figures = subst TellsSmallFigures (sym e) out.figures;
}

other_refusal : OneReply → (why : Refusal) (text : List ℕ) → IsOutside why → refusal_text why ≡ text → is_stopped why ≡ false → text_of_reply (Refused Stopped) ≡ text → ⊥
other_refusal law why text out spelled other same =
    let one : Refused Stopped ≡ Refused why = law.same (Refused Stopped) (Refused why) tt (wide_figures why out) (same ∙ sym spelled) in
    true_is_not_false (ap why_of one ∙ other)

pub takes_refused : OneReply → (k new : Kept) (cmd : Cmd) (text : List ℕ) (why : Refusal) (found : Option Reply) → is_bad cmd ≡ false → IsOutside why → refusal_text why ≡ text
    → RefusedSo k why found new → Takes k cmd text found new
takes_refused law k new cmd text why (Some reply) other out spelled so = record {
  reads = (refused_reply k.session k.stopped cmd why reply other out so.1 so.0, ap text_of_reply so.0 ∙ spelled);
  after = λ r e. so.2 ∙ ap (after k cmd) (sym so.0 ∙ same_Some reply r e);
  lawful = subst IsReply (sym so.0) (wide_figures why out);
}
takes_refused law k new cmd text why None other out spelled so = record {
  reads = λ reply may e.
      other_refusal law why text out spelled so.1 (ap text_of_reply (sym (may.ended so.0 (not_bad cmd other))) ∙ e);
  after = λ r e. nothing_found (λ r. new ≡ after k cmd r) r e;
  lawful = tt;
}

-- ---- what the tree and the disk may answer

-- no refusal from outside is written so
refused_not : (s : Session) (stopped : Bool) (cmd : Cmd) (text : List ℕ) (reply : Reply) (why : Refusal) → MayReply s stopped cmd reply → IsReadAs refusal_text IsOutside text None
    → is_of_disk why ≡ true → reply ≡ Refused why → text_of_reply reply ≡ text → ⊥
refused_not s stopped cmd text reply why may none number is e =
    none why record { number = number; figures = subst TellsSmallFigures is may.figures } (ap text_of_reply (sym is) ∙ e)

known_reply : (k : Kept) (cmd : Cmd) (reply : Reply) → k.points ≡ k.session.points → k.durable ≡ k.session.durable → k.stopped ≡ false → cmd ≡ Durable → IsKnown k reply
    → MayReply k.session k.stopped cmd reply
known_reply k cmd reply points durable going is known = record {
  next = k.session;
  answers = inr (inr (
    refl,
    record {
      asked = is;
      point = known.point;
      is = known.is;
      from = subst (λ n. n ≤ known.point) durable known.from;
      upto = subst (λ n. known.point ≤ n) points known.upto;
      same = refl;
    },
  ));
  bad = λ bad. absurd (true_is_not_false (ap is_durable (sym is ∙ bad)));
  ended = λ stopped _. absurd (both_ways k.stopped going stopped);
  figures = subst TellsSmallFigures (sym known.is) tt;
}

known_after : (k : Kept) (cmd : Cmd) (reply : Reply) (point : ℕ) → cmd ≡ Durable → reply ≡ Known point → k ≡ after k cmd reply
known_after k cmd reply point is e =
    subst (λ r. k ≡ after k cmd r) (sym e) (subst (λ c. k ≡ after k c (Known point)) (sym is) (ap (λ b. record k { stopped = b }) (or_false k.stopped)))

pub takes_known : (k : Kept) (cmd : Cmd) (text : List ℕ) (found : Option Reply) → k.points ≡ k.session.points → k.durable ≡ k.session.durable → CountsPoints k.session
    → k.stopped ≡ false → is_durable cmd ≡ true → IsReadAs refusal_text IsOutside text None → IsReadAs text_of_reply (IsKnown k) text found → Takes k cmd text found k
takes_known k cmd text (Some reply) points durable counts going is none h = record {
  reads = (known_reply k cmd reply points durable going (durable_is cmd is) h.0, h.1);
  after = λ r e. known_after k cmd r h.0.point (durable_is cmd is) (sym (same_Some reply r e) ∙ h.0.is);
  lawful = subst IsReply (sym h.0.is) (omega (arith, h.0.upto, points, counts.low));
}
takes_known k cmd text None points durable counts going is none h = record {
  reads = λ reply may e. go reply may e may.answers;
  after = λ r e. nothing_found (λ r. k ≡ after k cmd r) r e;
  lawful = tt;
}
  where
    go : (reply : Reply) (may : MayReply k.session k.stopped cmd reply) → text_of_reply reply ≡ text → Answers is_of_disk k.session cmd reply may.next → ⊥
    go reply may e (inl stepped) =
        let answer : Known k.session.durable ≡ reply = ap (λ c. (step k.session c).1) (sym (durable_is cmd is)) ∙ ap (λ (r : Session × Reply). r.1) stepped in
        h reply (record { point = k.session.durable; is = sym answer; from = omega (arith, durable); upto = omega (arith, points, counts.made) }) e
    go reply may e (inr (inl out)) = refused_not k.session k.stopped cmd text reply out.0 may none out.1 out.2 e
    go reply may e (inr (inr known)) =
        h reply (record { point = known.1.point; is = known.1.is; from = subst (λ n. n ≤ known.1.point) (sym durable) known.1.from; upto = subst (λ n. known.1.point ≤ n) (sym points) known.1.upto }) e

-- that a reply tells the session, as the law says it
pub record Tells : Type 0 where
  pub session : (outside : Refusal → Bool) (old new : Session) (cmd : Cmd) (reply : Reply) → Answers outside old cmd reply new → new ≡ after_reply old cmd reply

stepped_after : Tells → Alone → (k new : Kept) (cmd : Cmd) → k.stopped ≡ false → Applies k cmd new → new ≡ after k cmd (step k.session cmd).1
stepped_after tells law k new cmd going applies =
    let session : new.session ≡ after_reply k.session cmd (step k.session cmd).1 =
    applies.session ∙ tells.session is_of_disk k.session (step k.session cmd).0 cmd (step k.session cmd).1 (inl refl) in
    let stopped : new.stopped ≡ (k.stopped || is_fault (step k.session cmd).1) =
    applies.stopped ∙ or_false k.stopped ∙ ap (λ b. k.stopped || b) (sym (step_is_small law k.session cmd).1) in
    ap (λ s. record new { session = s }) session
    ∙ ap (λ n. record new { session = after_reply k.session cmd (step k.session cmd).1; points = n }) applies.points
    ∙ ap (λ n. record new { session = after_reply k.session cmd (step k.session cmd).1; points = points_by (step k.session cmd).1 k.points; durable = n }) applies.durable
    ∙ ap (λ b. record (after k cmd (step k.session cmd).1) { stopped = b }) stopped

stepped_reply : Alone → (k : Kept) (cmd : Cmd) (reply : Reply) → is_bad cmd ≡ false → k.stopped ≡ false → reply ≡ (step k.session cmd).1 → MayReply k.session k.stopped cmd reply
stepped_reply law k cmd reply other going e = record {
  next = (step k.session cmd).0;
  answers = inl (ap (λ r. ((step k.session cmd).0, r)) (sym e));
  bad = λ bad. absurd (not_bad cmd other bad);
  ended = λ stopped _. absurd (both_ways k.stopped going stopped);
  figures = subst TellsSmallFigures (sym e) (step_is_small law k.session cmd).0;
}

pub takes_applied : Tells → Alone → (k new : Kept) (cmd : Cmd) (text : List ℕ) (found : Option Reply) → is_bad cmd ≡ false → k.stopped ≡ false → is_durable cmd ≡ false
    → IsReadAs refusal_text IsOutside text None → IsReadAs text_of_reply (λ reply. reply ≡ (step k.session cmd).1) text found → IfSome found (λ reply. IsReply reply) → Applies k cmd new → Takes k cmd text found new
takes_applied tells law k new cmd text (Some reply) other going asks none h lawful applies = record {
  reads = (stepped_reply law k cmd reply other going h.0, h.1);
  after = λ r e. stepped_after tells law k new cmd going applies ∙ ap (after k cmd) (sym h.0 ∙ same_Some reply r e);
  lawful = lawful;
}
takes_applied tells law k new cmd text None other going asks none h lawful applies = record {
  reads = λ reply may e. go reply may e may.answers;
  after = λ r e. nothing_found (λ r. new ≡ after k cmd r) r e;
  lawful = tt;
}
  where
    go : (reply : Reply) (may : MayReply k.session k.stopped cmd reply) → text_of_reply reply ≡ text → Answers is_of_disk k.session cmd reply may.next → ⊥
    go reply may e (inl stepped) = h reply (sym (ap (λ (r : Session × Reply). r.1) stepped)) e
    go reply may e (inr (inl out)) = refused_not k.session k.stopped cmd text reply out.0 may none out.1 out.2 e
    go reply may e (inr (inr known)) = not_durable cmd asks known.1.asked

-- ---- which points a text may say

abbrev pub KeepsNumbers : Kept → Type 0
KeepsNumbers k = (k.points ≡ k.session.points) × (k.durable ≡ k.session.durable) × CountsPoints k.session

low_point : (k : Kept) (point : ℕ) → KeepsNumbers k → point ≤ k.points → point < 2 ^ 64
low_point k point keeps below = omega (arith, below, keeps.0, keeps.2.low)

-- where the text says no point
pub known_none : (k : Kept) (text : List ℕ) → KeepsNumbers k → ((point : ℕ) → point < 2 ^ 64 → text_of_reply (Known point) ≡ text → ⊥)
    → (reply : Reply) → IsKnown k reply → text_of_reply reply ≡ text → ⊥
known_none k text keeps none reply known e =
    none known.point (low_point k known.point keeps known.upto) (ap text_of_reply (sym known.is) ∙ e)

abbrev point_of : Reply → ℕ
point_of (Known point) = point
point_of reply = 0

-- where the text says a point, it is that of the reply
pub known_one : OneReply → (k : Kept) (text : List ℕ) (point : ℕ) → KeepsNumbers k → point < 2 ^ 64 → text_of_reply (Known point) ≡ text
    → (reply : Reply) → (known : IsKnown k reply) → text_of_reply reply ≡ text → known.point ≡ point
known_one law k text point keeps low spelled reply known e =
    let one : Known known.point ≡ Known point =
    law.same (Known known.point) (Known point) (low_point k known.point keeps known.upto) low (ap text_of_reply (sym known.is) ∙ e ∙ sym spelled) in
    ap point_of one
