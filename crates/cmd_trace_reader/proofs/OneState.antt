-- A line leaves one state, since it says one thing.
use Rattle.std.proofs.Common.{◌≡◌, sym, ap, ap₂, ◌∙◌, arith, ℕ, ◌<◌, ◌^◌, true, inl, inr, List, [], ◌∷◌, ◌++◌, length, codes, Some}
use Rattle.std.proofs.lemmas.List.{append-nil, append_cancel_left, append_cancel_right}
use Rattle.layout_geometry.specs.Geometry.{Geometry, IsGeometry, geometry_fits}
use Rattle.lang_tree.specs.declared.command.Cmd.{Cmd}
use Rattle.lang_tree.specs.declared.command.Reply.{Reply}
use Rattle.lang_script.specs.Text.{command_text, text_of_reply}
use Rattle.lang_script.specs.Values.{IsCommand, IsReply}
use Rattle.cmd_trace.specs.Line.{geometry_line}
use Rattle.cmd_trace.specs.Contents.{Contents, AreLawful, front_of}
use Rattle.cmd_trace_reader.specs.Replies.{after}
use Rattle.cmd_trace_reader.specs.declared.reader.Place.TheVariants.{Asked, Answered}
use Rattle.cmd_trace_reader.specs.Reading.{State, begun, Begins, HappensBy, AsksBy, AnswersBy, Follows, mounted_by}
use Rattle.cmd_trace_reader.proofs.Following.{OneEvent, OneMoment, wide, kind_is, asked_or}
use Rattle.cmd_trace_reader.proofs.GoesOn.{Limits}

-- what is known of the values that have one text
pub record OneValue : Type 0 where
  pub limits : Limits
  pub event : OneEvent
  pub moment : OneMoment
  pub command : (cmd other : Cmd) → IsCommand cmd → IsCommand other → command_text cmd ≡ command_text other → cmd ≡ other
  pub reply : (reply other : Reply) → IsReply reply → IsReply other → text_of_reply reply ≡ text_of_reply other → reply ≡ other
  pub front : (c d : Contents) → AreLawful c → AreLawful d → front_of c ≡ front_of d → c ≡ d

-- ---- one line of each kind

happens_once : OneValue → (s t u : State) (line : List ℕ) → geometry_fits s.geometry ≡ true → HappensBy s line t → HappensBy s line u → t ≡ u
happens_once v s t u line fits h k =
    let size : IsGeometry s.geometry = (v.limits.limits s.geometry).0 fits in
    let same : h.event ≡ k.event = v.event.one h.event k.event (wide s.geometry.n h.event size.most_blocks h.next.of) (wide s.geometry.n k.event size.most_blocks k.next.of) (h.written ∙ sym k.written) in
    h.is ∙ ap (λ e. record s { log = s.log ++ e ∷ []; mounted = mounted_by s.place s.mounted (length (s.log ++ e ∷ [])) }) same ∙ sym k.is

asks_once : OneValue → (s t u : State) (line : List ℕ) → AsksBy s line t → AsksBy s line u → t ≡ u
asks_once v s t u line h k =
    let texts : command_text h.cmd ≡ command_text k.cmd =
    append_cancel_left (codes "c ") (command_text h.cmd) (command_text k.cmd) (append_cancel_right (codes "c " ++ command_text h.cmd) (codes "c " ++ command_text k.cmd) (codes "\n") (h.written ∙ sym k.written)) in
    h.is ∙ ap (λ cmd. record s { place = Asked cmd }) (v.command h.cmd k.cmd h.lawful k.lawful texts) ∙ sym k.is

answers_once : OneValue → (s t u : State) (line : List ℕ) → length s.log < 2 ^ 64 → AnswersBy s line t → AnswersBy s line u → t ≡ u
answers_once v s t u line few h k =
    let one : h.cmd ≡ k.cmd = ap (asked_or h.cmd) (sym h.place ∙ k.place) in
    let texts = v.moment.one (length s.log) (length s.log) (text_of_reply h.reply) (text_of_reply k.reply) few few (h.written ∙ sym k.written) in
    h.is
    ∙ ap₂ (λ cmd reply. record s { cmds = s.cmds ++ cmd ∷ []; replies = s.replies ++ reply ∷ []; marks = s.marks ++ length s.log ∷ []; kept = after s.kept cmd reply; place = Answered })
    one (v.reply h.reply k.reply h.lawful k.lawful texts.1)
    ∙ sym k.is

-- a line is of one kind
pub follows_once : OneValue → (s t u : State) (line : List ℕ) → geometry_fits s.geometry ≡ true → length s.log < 2 ^ 64 → Follows s line t → Follows s line u → t ≡ u
follows_once v s t u line fits few (inl h) (inl k) = happens_once v s t u line fits h k
follows_once v s t u line fits few (inr (inl h)) (inr (inl k)) = asks_once v s t u line h k
follows_once v s t u line fits few (inr (inr (inl h))) (inr (inr (inl k))) = answers_once v s t u line few h k
follows_once v s t u line fits few (inr (inr (inr h))) (inr (inr (inr k))) = h.is ∙ sym k.is
follows_once v s t u line fits few h k = absurd (omega (arith, kind_is s t line h, kind_is s u line k))

-- ---- the first line

-- nothing but a geometry
abbrev alone : Geometry → Contents
alone g = record { geometry = g; log = []; mounted = 0; cmds = []; replies = []; marks = [] }

alone_lawful : Limits → (g : Geometry) → geometry_fits g ≡ true → AreLawful (alone g)
alone_lawful l g fits =
    let size : IsGeometry g = (l.limits g).0 fits in
    let blocks : g.n < 2 ^ 64 = omega (arith, size.most_blocks) in
    let journal : g.j < 2 ^ 64 = omega (arith, size.most_journal) in
    let nodes : g.i < 2 ^ 64 = omega (arith, size.most_nodes) in
    let events : 0 < 2 ^ 64 = omega arith in
    assumption (blocks, journal, nodes, events, tt)

alone_text : (g : Geometry) → front_of (alone g) ≡ geometry_line g
alone_text g = append-nil (geometry_line g ++ []) ∙ append-nil (geometry_line g)

pub begins_once : OneValue → (line : List ℕ) (t u : State) → Begins line (Some t) → Begins line (Some u) → t ≡ u
begins_once v line t u h k =
    let same : alone t.geometry ≡ alone u.geometry =
    v.front (alone t.geometry) (alone u.geometry) (alone_lawful v.limits t.geometry h.0) (alone_lawful v.limits u.geometry k.0) (alone_text t.geometry ∙ h.1 ∙ sym k.1 ∙ sym (alone_text u.geometry)) in
    h.2 ∙ ap (λ (c : Contents). begun c.geometry) same ∙ sym k.2
