-- The first lines of a trace come one behind the other, and all of them lead to the end.
use Rattle.std.proofs.Common.{◌≡◌, sym, ap, refl, ◌∙◌, subst, ℕ, true, List, [], ◌++◌, Option, Some, None}
use Rattle.std.proofs.lemmas.List.{append-nil}
use Rattle.layout_geometry.specs.Geometry.{IsGeometry}
use Rattle.cmd_trace_reader.specs.Traces.{BeginsTrace, AreTrace, AreLines, text_of_lines, is_line}
use Rattle.cmd_trace_reader.specs.Reading.{State, ComeEach, contents_of, has_ended}
use Rattle.cmd_trace_reader.proofs.LineTexts.{front_cut, nothing_left}
use Rattle.cmd_trace_reader.proofs.Parts.{NoFeed, trace_parts, trace_text_is, trace_lines}
use Rattle.cmd_trace_reader.proofs.Runs.{come_front, run_trace}
use Rattle.cmd_trace_reader.proofs.GoesOn.{Limits, ended_trace}
use Rattle.cmd_trace_reader.proofs.Sound.{come_all}
use Rattle.cmd_trace_reader.proofs.OneState.{OneValue}
use Rattle.cmd_trace_reader.proofs.Once.{come_once}

pub begins_come : Limits → NoFeed → (lines : List (List ℕ)) → AreLines lines → BeginsTrace (text_of_lines lines) → (s : Option State) × ComeEach None lines s
begins_come l f lines are h =
    let size : IsGeometry h.contents.geometry = (l.limits h.contents.geometry).0 h.is.fits in
    let front = front_cut lines (trace_parts h.contents) h.rest are (trace_lines f h.contents size h.is.lawful) (sym h.split ∙ sym (trace_text_is h.contents)) in
    let whole = run_trace h.contents h.is in
    let parts = come_front lines front.tail None (Some whole.to) (subst (λ ls. ComeEach None ls (Some whole.to)) front.split whole.come) in
    (parts.0, parts.1)

-- the lines of a trace, where something without a line feed is behind lines
pub whole_lines : Limits → NoFeed → (lines : List (List ℕ)) (rest : List ℕ) → AreLines lines → is_line rest ≡ true → (h : AreTrace (text_of_lines lines ++ rest)) → (trace_parts h.contents ≡ lines) × (rest ≡ [])
whole_lines l f lines rest are one h =
    let size : IsGeometry h.contents.geometry = (l.limits h.contents.geometry).0 h.is.fits in
    let front = front_cut lines (trace_parts h.contents) rest are (trace_lines f h.contents size h.is.lawful) (sym h.text ∙ sym (trace_text_is h.contents)) in
    let none = nothing_left rest front.tail one front.left in
    (front.split ∙ ap (λ t. lines ++ t) none.0 ∙ append-nil lines, none.1)

pub trace_ends : OneValue → NoFeed → (lines : List (List ℕ)) (s : Option State) → AreLines lines → ComeEach None lines s → AreTrace (text_of_lines lines) → has_ended s ≡ true
trace_ends v f lines s are k h = go (subst AreTrace (sym (append-nil (text_of_lines lines))) h)
  where
    go : AreTrace (text_of_lines lines ++ []) → has_ended s ≡ true
    go g =
        let same = whole_lines v.limits f lines [] are refl g in
        let whole = run_trace g.contents g.is in
        ap has_ended (come_once v lines s (Some whole.to) k (subst (λ ls. ComeEach None ls (Some whole.to)) same.0 whole.come)) ∙ whole.ended

pub ends_trace : Limits → (lines : List (List ℕ)) (s : Option State) → ComeEach None lines s → has_ended s ≡ true → AreTrace (text_of_lines lines)
ends_trace l lines None k ended = cc ended
ends_trace l lines (Some s) k ended =
    let whole = ended_trace l s (text_of_lines lines) (come_all lines s k) ended in
    record { contents = contents_of s; is = whole.0; text = whole.1 }
