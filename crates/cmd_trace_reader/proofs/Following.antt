-- Which lines may follow, by their first bytes, and why a line that isn't read doesn't.
use Rattle.std.proofs.Common.{◌≡◌, sym, ap, refl, ◌∙◌, subst, arith, ℕ, ◌<◌, ◌≤◌, ◌^◌, ◌==◌, suc, Bool, true, false, inl, inr, List, [], ◌∷◌, length, get_or, Option, Some, None}
use Rattle.std.specs.Prelude.{◌⊎◌, if◌then◌else◌}
use Rattle.std.proofs.lemmas.Bool.{ne_eqb}
use Rattle.layout_geometry.specs.Geometry.{IsGeometry}
use Rattle.disk_contract.specs.declared.event.Event.{Event}
use Rattle.disk_contract.specs.declared.event.Event.TheVariants.{Wrote, Lost, Noticed}
use Rattle.disk_contract.specs.Lawful.{IsEventOf}
use Rattle.lang_tree.specs.declared.command.Cmd.{Cmd}
use Rattle.lang_script.specs.Text.{text_of_reply}
use Rattle.cmd_trace.specs.Line.{event_line, reply_line}
use Rattle.cmd_trace.specs.ReadsAs.{IsReadAs, fed}
use Rattle.cmd_trace_reader.specs.Events.{IsNext, TakesEvent}
use Rattle.cmd_trace_reader.specs.declared.reader.Place.{Place}
use Rattle.cmd_trace_reader.specs.declared.reader.Place.TheVariants.{Mounting, Asked, Answered, Ended}
use Rattle.cmd_trace_reader.specs.Reading.{State, HappensBy, AsksBy, AnswersBy, EndsBy, Follows, TakesLine}

-- ---- first bytes

-- the first byte of a line, or 0
abbrev pub head : List ℕ → ℕ
head line = get_or line 0 0

-- which kind of line has this first byte: an event's, or that of a command, of a reply, or the last one
abbrev kind_of : ℕ → ℕ
kind_of b = if b == 99 then 1 else if b == 114 then 2 else if b == 101 then 3 else 0

event_kind : (e : Event) → kind_of (head (event_line e)) ≡ 0
event_kind (Noticed ticket) = refl
event_kind other = refl

-- of which kind a line is, by what follows
abbrev last_kind : (s t : State) (line : List ℕ) → AnswersBy s line t ⊎ EndsBy s line t → ℕ
last_kind s t line (inl k) = 0
last_kind s t line (inr k) = 1

abbrev later_kind : (s t : State) (line : List ℕ) → AsksBy s line t ⊎ (AnswersBy s line t ⊎ EndsBy s line t) → ℕ
later_kind s t line (inl k) = 0
later_kind s t line (inr k) = suc (last_kind s t line k)

abbrev kind : (s t : State) (line : List ℕ) → Follows s line t → ℕ
kind s t line (inl k) = 0
kind s t line (inr k) = suc (later_kind s t line k)

pub kind_is : (s t : State) (line : List ℕ) (k : Follows s line t) → kind s t line k ≡ kind_of (head (fed line))
kind_is s t line (inl k) = sym (event_kind k.event) ∙ ap (λ l. kind_of (head l)) k.written
kind_is s t line (inr (inl k)) = ap (λ l. kind_of (head l)) k.written
kind_is s t line (inr (inr (inl k))) = ap (λ l. kind_of (head l)) k.written
kind_is s t line (inr (inr (inr k))) = ap (λ l. kind_of (head l)) (sym k.written)

-- ---- one line by its first byte

pub by_command : (s t : State) (rest : List ℕ) (taken : Bool) → TakesLine AsksBy s (99 ∷ rest) taken t → TakesLine Follows s (99 ∷ rest) taken t
by_command s t rest true h = inr (inl h)
by_command s t rest false h = go
  where
    go : (u : State) → Follows s (99 ∷ rest) u → ⊥
    go u (inr (inl k)) = h u k
    go u other = omega (arith, kind_is s u (99 ∷ rest) other)

pub by_reply : (s t : State) (rest : List ℕ) (taken : Bool) → TakesLine AnswersBy s (114 ∷ rest) taken t → TakesLine Follows s (114 ∷ rest) taken t
by_reply s t rest true h = inr (inr (inl h))
by_reply s t rest false h = go
  where
    go : (u : State) → Follows s (114 ∷ rest) u → ⊥
    go u (inr (inr (inl k))) = h u k
    go u other = omega (arith, kind_is s u (114 ∷ rest) other)

pub by_event : (s t : State) (first : ℕ) (rest : List ℕ) (taken : Bool) → (first == 99) ≡ false → (first == 114) ≡ false → (first == 101) ≡ false
    → TakesLine HappensBy s (first ∷ rest) taken t → TakesLine Follows s (first ∷ rest) taken t
by_event s t first rest true c r e h = inl h
by_event s t first rest false c r e h = go
  where
    none : kind_of first ≡ 0
    none = rw (c, r, e) refl

    go : (u : State) → Follows s (first ∷ rest) u → ⊥
    go u (inl k) = h u k
    go u (inr k) = omega (arith, kind_is s u (first ∷ rest) (inr k), none)

-- ---- events

pub wide : (n : ℕ) (e : Event) → n ≤ 1048576 → IsEventOf n e → IsEventOf (2 ^ 32) e
wide n (Wrote ticket block bytes) small h = (h.0, omega (arith, h.1, small), h.2)
wide n (Lost block bytes) small h = (omega (arith, h.0, small), h.1)
wide n (Noticed ticket) small h = h

-- that one line says one event, as the law says it
pub record OneEvent : Type 0 where
  pub one : (e d : Event) → IsEventOf (2 ^ 32) e → IsEventOf (2 ^ 32) d → event_line e ≡ event_line d → e ≡ d

pub event_not_taken : OneEvent → (s : State) (line : List ℕ) (event : Event) → IsGeometry s.geometry → IsEventOf (2 ^ 32) event → event_line event ≡ fed line
    → (IsNext s.geometry.n s.log event → ⊥) → (t : State) → HappensBy s line t → ⊥
event_not_taken law s line event small of written off t h =
    off (subst (IsNext s.geometry.n s.log) (law.one h.event event (wide s.geometry.n h.event small.most_blocks h.next.of) of (h.written ∙ sym written)) h.next)

-- ---- replies

pub no_reply_read : (s : State) (line : List ℕ) → length s.log < 2 ^ 64
    → IsReadAs (λ (reply : ℕ × List ℕ). reply_line reply.0 reply.1) (λ reply. reply.0 < 2 ^ 64) (fed line) None → (t : State) → AnswersBy s line t → ⊥
no_reply_read s line low none t h = none (length s.log, text_of_reply h.reply) low h.written

-- that one line says one moment and text, as the law says it
pub record OneMoment : Type 0 where
  pub one : (m k : ℕ) (s t : List ℕ) → m < 2 ^ 64 → k < 2 ^ 64 → reply_line m s ≡ reply_line k t → (m ≡ k) × (s ≡ t)

-- the command that waits, where one does
abbrev pub asked_or : Cmd → Place → Cmd
asked_or d Mounting = d
asked_or d (Asked cmd) = cmd
asked_or d Answered = d
asked_or d Ended = d

-- ---- what the functions of `reader` cite

pub event_refused : OneEvent → (s : State) (line : List ℕ) (o : Option Event) (event : Event) (n : ℕ) (taken : Bool) (new : List Event) → IsGeometry s.geometry
    → IsReadAs event_line (IsEventOf (2 ^ 32)) (fed line) o → o ≡ Some event → n ≡ s.geometry.n → TakesEvent n s.log event taken new → taken ≡ false
    → (t : State) → HappensBy s line t → ⊥
event_refused law s line o event n taken new small reads is same takes off =
    let read = subst (IsReadAs event_line (IsEventOf (2 ^ 32)) (fed line)) is reads in
    let left = subst (λ b. TakesEvent n s.log event b new) off takes in
    event_not_taken law s line event small read.0 read.1 (subst (λ k. IsNext k s.log event → ⊥) same left.0)

pub first_asks : (s t : State) (line : List ℕ) (taken : Bool) → 1 ≤ length line → get_or line 0 0 ≡ 99 → TakesLine AsksBy s line taken t → TakesLine Follows s line taken t
first_asks s t [] taken some is h = absurd (omega (arith, some))
first_asks s t (first ∷ rest) taken some is h =
    subst (λ f. TakesLine AsksBy s (f ∷ rest) taken t → TakesLine Follows s (f ∷ rest) taken t) (sym is) (by_command s t rest taken) h

pub first_answers : (s t : State) (line : List ℕ) (taken : Bool) → 1 ≤ length line → get_or line 0 0 ≡ 114 → TakesLine AnswersBy s line taken t → TakesLine Follows s line taken t
first_answers s t [] taken some is h = absurd (omega (arith, some))
first_answers s t (first ∷ rest) taken some is h =
    subst (λ f. TakesLine AnswersBy s (f ∷ rest) taken t → TakesLine Follows s (f ∷ rest) taken t) (sym is) (by_reply s t rest taken) h

differs : (a b : ℕ) → (a ≡ b → ⊥) → (a == b) ≡ false
differs a b off = ne_eqb a b off

pub first_happens : (s t : State) (line : List ℕ) (taken : Bool) → 1 ≤ length line → (get_or line 0 0 ≡ 99 → ⊥) → (get_or line 0 0 ≡ 114 → ⊥) → (get_or line 0 0 ≡ 101 → ⊥)
    → TakesLine HappensBy s line taken t → TakesLine Follows s line taken t
first_happens s t [] taken some c r e h = absurd (omega (arith, some))
first_happens s t (first ∷ rest) taken some c r e h = by_event s t first rest taken (differs first 99 c) (differs first 114 r) (differs first 101 e) h
