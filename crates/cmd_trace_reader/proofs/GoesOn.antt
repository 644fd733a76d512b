-- What was read goes on to a trace, and is one where its last line was taken.
use Rattle.std.proofs.Common.{◌^◌, ◌<◌, ◌≡◌, sym, ap, refl, ◌∙◌, subst, arith, ℕ, true, false, inl, inr, List, [], ◌∷◌, ◌++◌, length, append_assoc, Option, Some, None}
use Rattle.std.specs.Prelude.{◌↔◌, ◌⊎◌}
use Rattle.std.proofs.lemmas.List.{append-nil}
use Rattle.base_types.specs.declared.layout.Layout.TheVariants.{One}
use Rattle.layout_geometry.specs.Geometry.{Geometry, IsGeometry, geometry_fits}
use Rattle.crash_stands.specs.Bounds.{bounds_of}
use Rattle.lang_tree.specs.declared.command.Cmd.{Cmd}
use Rattle.lang_tree.specs.declared.command.Reply.{Reply}
use Rattle.lang_tree.specs.declared.command.Reply.TheVariants.{Bad as NotUnderstood, Refused}
use Rattle.lang_tree.specs.declared.command.Refusal.TheVariants.{Stopped}
use Rattle.lang_tree.specs.Step.{start}
use Rattle.lang_script.specs.Text.{text_of_reply}
use Rattle.lang_script.specs.Values.{IsReply}
use Rattle.cmd_trace.specs.Line.{geometry_line, reply_line, end_line}
use Rattle.cmd_trace.specs.Contents.{front_of, text_of}
use Rattle.cmd_trace_reader.specs.Replies.{MayReply, after, is_bad}
use Rattle.cmd_trace_reader.specs.Traces.{MayReplyEach, IsTrace, BeginsTrace, text_of_lines}
use Rattle.cmd_trace_reader.specs.declared.reader.Place.{Place}
use Rattle.cmd_trace_reader.specs.declared.reader.Place.TheVariants.{Mounting, Asked, Answered, Ended}
use Rattle.cmd_trace_reader.specs.Reading.{State, begun, ComeEach, contents_of, is_between, is_ended}
use Rattle.cmd_trace_reader.proofs.Texts.{last_mark}
use Rattle.cmd_trace_reader.proofs.Taking.{bad_reply, bad_is, refused_reply}
use Rattle.cmd_trace_reader.proofs.Sound.{Holds, StandsAt, pending, ascend, at_last, between_text, begun_holds, answers, come_all}

-- that a geometry that fits is within its limits, as the law says it
pub record Limits : Type 0 where
  pub limits : (g : Geometry) → (geometry_fits g ≡ true) ↔ IsGeometry g

-- ---- contents of a trace

trace_at : Limits → (s : State) (text : List ℕ) → Holds s text → (is_between s.place ≡ true) ⊎ (s.place ≡ Ended) → IsTrace (contents_of s)
trace_at l s text h here =
    let size : IsGeometry s.geometry = (l.limits s.geometry).0 h.fits in
    let blocks : s.geometry.n < 2 ^ 64 = omega (arith, size.most_blocks) in
    let journal : s.geometry.j < 2 ^ 64 = omega (arith, size.most_journal) in
    let nodes : s.geometry.i < 2 ^ 64 = omega (arith, size.most_nodes) in
    let last : last_mark s.mounted s.marks ≡ length s.log = elim here as (λ _. last_mark s.mounted s.marks ≡ length s.log) [ inl e ↦ at_last s s.place e h.stands | inr e ↦ subst (λ p. StandsAt p s) e h.stands ] in
    record {
      lawful = assumption (ascend s.mounted s.marks (length s.log) h.within last);
      fits = h.fits;
      replies = subst (λ c. MayReplyEach (start (bounds_of s.geometry)) false c s.replies) (append-nil s.cmds)
          (subst (MayReplyEach (start (bounds_of s.geometry)) false (s.cmds ++ [])) (append-nil s.replies) (h.may [] [] tt));
    }

ended_is : (p : Place) → is_ended p ≡ true → p ≡ Ended
ended_is Ended h = refl
ended_is other h = cc h

-- where the last line was taken, what was read is a trace
pub ended_trace : Limits → (s : State) (text : List ℕ) → Holds s text → is_ended s.place ≡ true → IsTrace (contents_of s) × (text_of (contents_of s) ≡ text)
ended_trace l s text h e =
    let ended = ended_is s.place e in
    (trace_at l s text h (inr ended), sym (h.read ∙ ap (λ p. front_of (contents_of s) ++ pending p s) ended))

-- ---- the lines that may still come

pub begins_front : (bytes rest : List ℕ) → BeginsTrace (bytes ++ rest) → BeginsTrace bytes
begins_front bytes rest h = record { contents = h.contents; is = h.is; rest = rest ++ h.rest; split = h.split ∙ append_assoc bytes rest h.rest }

between_begins : Limits → (s : State) (text : List ℕ) → Holds s text → is_between s.place ≡ true → BeginsTrace text
between_begins l s text h here = record {
  contents = contents_of s;
  is = trace_at l s text h (inl here);
  rest = end_line;
  split = ap (λ t. t ++ end_line) (sym (between_text s text here h));
}

ended_begins : Limits → (s : State) (text : List ℕ) → Holds s text → is_ended s.place ≡ true → BeginsTrace text
ended_begins l s text h e =
    let whole = ended_trace l s text h e in
    record { contents = contents_of s; is = whole.0; rest = []; split = whole.1 ∙ sym (append-nil text) }

answered_begins : Limits → (s : State) (cmd : Cmd) (reply : Reply) (text : List ℕ) → Holds (record s { place = Asked cmd }) text → MayReply s.kept.session s.kept.stopped cmd reply → IsReply reply
    → BeginsTrace text
answered_begins l s cmd reply text h may lawful =
    begins_front text (reply_line (length s.log) (text_of_reply reply))
    (between_begins l (record s { cmds = s.cmds ++ cmd ∷ []; replies = s.replies ++ reply ∷ []; marks = s.marks ++ length s.log ∷ []; kept = after s.kept cmd reply; place = Answered })
    (text ++ reply_line (length s.log) (text_of_reply reply)) (answers s cmd reply text h may lawful) refl)

-- a command that waits may be refused as the session has ended, and a bad line is answered
asked_begins : Limits → (s : State) (cmd : Cmd) (text : List ℕ) → Holds (record s { place = Asked cmd }) text → BeginsTrace text
asked_begins l s cmd text h = elim (is_bad cmd) as (λ b. is_bad cmd ≡ b → BeginsTrace text) [
  | true ↦ λ e. answered_begins l s cmd NotUnderstood text h (bad_reply s.kept.session s.kept.stopped cmd NotUnderstood (bad_is cmd e) refl) tt
  | false ↦ λ e. answered_begins l s cmd (Refused Stopped) text h (refused_reply s.kept.session s.kept.stopped cmd Stopped (Refused Stopped) e record { number = refl; figures = tt } (λ _. refl) refl) tt
] refl

begins_at : Limits → (s : State) (p : Place) (text : List ℕ) → Holds (record s { place = p }) text → BeginsTrace text
begins_at l s (Asked cmd) text h = asked_begins l s cmd text h
begins_at l s Ended text h = ended_begins l (record s { place = Ended }) text h refl
begins_at l s other text h = between_begins l (record s { place = other }) text h refl

-- a small geometry
abbrev small : Geometry
small = record { n = 64; j = 16; i = 16; layout = One }

small_fits : geometry_fits small ≡ true
unfolding geometry_fits
small_fits = refl

-- what was begun stays so
stays_some : (s : State) (lines : List (List ℕ)) → ComeEach (Some s) lines None → ⊥
stays_some s [] e = cc e
stays_some s (line ∷ lines) k = stays_some k.0 lines k.2

-- some trace begins with any lines that came
pub come_begins : Limits → (lines : List (List ℕ)) (s : Option State) → ComeEach None lines s → BeginsTrace (text_of_lines lines)
come_begins l [] s k = begins_front [] (geometry_line small) (begins_at l (begun small) Mounting (geometry_line small) (begun_holds small small_fits))
come_begins l (line ∷ lines) (Some s) k = begins_at l s s.place (text_of_lines (line ∷ lines)) (come_all (line ∷ lines) s k)
come_begins l (line ∷ lines) None k = absurd (stays_some k.0 lines k.2)
