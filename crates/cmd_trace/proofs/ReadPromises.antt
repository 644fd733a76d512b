-- What the functions of `read` promise, from what their lines are read as.
use Rattle.std.proofs.Common.{◌≡◌, sym, ap, refl, ◌∙◌, subst, arith, ℕ, ◌+◌, ◌<◌, ◌^◌, true, List, [], ◌∷◌, ◌++◌, length, take, decimal, codes, append_assoc, Option, Some, None, bytes_eq}
use Rattle.std.specs.Prelude.{◌↔◌}
use Rattle.std.proofs.lemmas.Slice.Eq.{bytes_eq-Decides}
use Rattle.std.proofs.lemmas.Option.{same_Some, none-some}
use Rattle.std.proofs.lemmas.List.{length-append}
use Rattle.std.proofs.Math.Seq.{take-append_seam}
use Rattle.hex.specs.Hex.{encode_lower}
use Rattle.layout_geometry.specs.Geometry.{Geometry, IsGeometry, geometry_fits}
use Rattle.disk_contract.specs.declared.event.Event.{Event}
use Rattle.disk_contract.specs.declared.event.Event.TheVariants.{Wrote, Lost, Noticed}
use Rattle.disk_contract.specs.Lawful.{IsEventOf}
use Rattle.lang_tree.specs.declared.command.Reply.TheVariants.{Known}
use Rattle.lang_script.specs.Text.{refusal_text, text_of_reply}
use Rattle.cmd_trace.specs.Line.{geometry_line, layout_mark, event_line, reply_line, end_line}
use Rattle.cmd_trace.specs.ReadsAs.{IsReadAs, IsOutside, fed}
use Rattle.cmd_trace.specs.ReadLines.{behind, geometry_by_letter, event_by_letter, reply_by_letter, refusal_of, known_of}
use Rattle.cmd_trace.proofs.LinesRead.{Numbers, event_text, event_read, event_is_read, geometry_text, geometry_read, geometry_line_is_read, reply_text, reply_read, reply_line_is_read}
use Rattle.cmd_trace.proofs.RefusalsRead.{refusal_read, refusal_is_read, known_read, known_is_read}

-- an answer that comes of each value's text, and of no other text
reads_as : {A : Type 0} (written : A → List ℕ) (IsOne : A → Type 0) (text : List ℕ) (o : Option A) → ((x : A) → o ≡ Some x → IsOne x × (written x ≡ text))
    → ((x : A) → IsOne x → written x ≡ text → o ≡ Some x) → IsReadAs written IsOne text o
reads_as written IsOne text (Some x) is read = is x refl
reads_as written IsOne text None is read = λ x one same. none-some x (read x one same)

-- ---- lines and their line feeds

length_fed : (xs : List ℕ) → length (fed xs) ≡ length xs + 1
length_fed xs = length-append xs (10 ∷ [])

fed_same : (xs ys : List ℕ) → fed xs ≡ fed ys → xs ≡ ys
fed_same xs ys h =
    let same : length xs ≡ length ys = omega (arith, length_fed xs, length_fed ys, ap length h) in
    sym (take-append_seam xs (codes "\n")) ∙ ap (λ l. take (length xs) l) h ∙ ap (λ n. take n (fed ys)) same ∙ take-append_seam ys (codes "\n")

two_fields : (w a b : List ℕ) → w ++ a ++ codes " " ++ b ≡ w ++ (a ++ 32 ∷ b)
two_fields w a b = simp append_assoc

three_fields : (w a b c : List ℕ) → w ++ a ++ codes " " ++ b ++ codes " " ++ c ≡ w ++ (a ++ 32 ∷ (b ++ 32 ∷ c))
three_fields w a b c = simp append_assoc

event_fed : (e : Event) → event_line e ≡ fed (event_text e)
event_fed (Wrote ticket block bytes) = ap fed (three_fields (codes "w ") (decimal ticket) (decimal block) (encode_lower bytes))
event_fed (Lost block bytes) = ap fed (two_fields (codes "f ") (decimal block) (encode_lower bytes))
event_fed (Noticed ticket) = refl

marked_fields : (w a b c d : List ℕ) → w ++ a ++ codes " " ++ b ++ codes " " ++ c ++ d ≡ w ++ (a ++ 32 ∷ (b ++ 32 ∷ (c ++ d)))
marked_fields w a b c d = simp append_assoc

geometry_fed : (g : Geometry) → geometry_line g ≡ fed (103 ∷ 32 ∷ geometry_text g)
geometry_fed g = ap fed (marked_fields (codes "g ") (decimal g.n) (decimal g.j) (decimal g.i) (layout_mark g.layout))

reply_fed : (reply : ℕ × List ℕ) → reply_line reply.0 reply.1 ≡ fed (114 ∷ 32 ∷ reply_text reply)
reply_fed reply = ap fed (two_fields (codes "r ") (decimal reply.0) reply.1)

-- ---- the promises

-- lines that are read as what their texts say
line_reads : {A : Type 0} (written text : A → List ℕ) (IsOne : A → Type 0) (says : List ℕ → Option A) (line : List ℕ) → ((x : A) → written x ≡ fed (text x))
    → ((x : A) → says line ≡ Some x → (text x ≡ line) × IsOne x) → ((x : A) → IsOne x → says (text x) ≡ Some x) → IsReadAs written IsOne (fed line) (says line)
line_reads written text IsOne says line spelled is read = reads_as written IsOne (fed line) (says line)
    (λ x h. ((is x h).1, spelled x ∙ ap fed (is x h).0))
    (λ x one same. subst (λ l. says l ≡ Some x) (fed_same (text x) line (sym (spelled x) ∙ same)) (read x one))

pub event_reads : Numbers → (line : List ℕ) → IsReadAs event_line (IsEventOf (2 ^ 32)) (fed line) (behind event_by_letter line)
event_reads law line = line_reads event_line event_text (IsEventOf (2 ^ 32)) (behind event_by_letter) line event_fed (event_is_read law line) (event_read law)

pub geometry_reads : Numbers → ((g : Geometry) → (geometry_fits g ≡ true) ↔ IsGeometry g) → (line : List ℕ)
    → IsReadAs geometry_line (λ g. geometry_fits g ≡ true) (fed line) (behind geometry_by_letter line)
geometry_reads law limits line =
    line_reads geometry_line (λ g. 103 ∷ 32 ∷ geometry_text g) (λ g. geometry_fits g ≡ true) (behind geometry_by_letter) line geometry_fed (geometry_line_is_read law line) (λ g fits.
    let within = (limits g).0 fits in
    geometry_read law g (omega (arith, within.most_blocks)) (omega (arith, within.most_journal)) (omega (arith, within.most_nodes)) fits)

pub reply_reads : Numbers → (line : List ℕ)
    → IsReadAs (λ (reply : ℕ × List ℕ). reply_line reply.0 reply.1) (λ reply. reply.0 < 2 ^ 64) (fed line) (behind reply_by_letter line)
reply_reads law line =
    line_reads (λ (reply : ℕ × List ℕ). reply_line reply.0 reply.1) (λ reply. 114 ∷ 32 ∷ reply_text reply) (λ reply. reply.0 < 2 ^ 64) (behind reply_by_letter) line
    reply_fed (reply_line_is_read law line) (reply_read law)

pub refusal_reads : Numbers → (text : List ℕ) → IsReadAs refusal_text IsOutside text (refusal_of text)
refusal_reads law text = reads_as refusal_text IsOutside text (refusal_of text) (refusal_is_read law text)
    (λ why out same. subst (λ t. refusal_of t ≡ Some why) same (refusal_read law why out))

pub known_reads : Numbers → (text : List ℕ) → IsReadAs (λ point. text_of_reply (Known point)) (λ point. point < 2 ^ 64) text (known_of text)
known_reads law text = reads_as (λ point. text_of_reply (Known point)) (λ point. point < 2 ^ 64) text (known_of text) (known_is_read law text)
    (λ point low same. subst (λ t. known_of t ≡ Some point) same (known_read law point low))

-- the last line
pub ends : (line : List ℕ) → (bytes_eq line (codes "end") ≡ true) ↔ (fed line ≡ end_line)
ends line = (λ h. ap fed ((bytes_eq-Decides line (codes "end")).0 h), λ same. (bytes_eq-Decides line (codes "end")).1 (fed_same line (codes "end") same))

-- ---- one line says one thing

pub one_event : Numbers → (e d : Event) → IsEventOf (2 ^ 32) e → IsEventOf (2 ^ 32) d → event_line e ≡ event_line d → e ≡ d
one_event law e d one other same =
    let text : event_text e ≡ event_text d = fed_same (event_text e) (event_text d) (sym (event_fed e) ∙ same ∙ event_fed d) in
    same_Some e d (sym (event_read law e one) ∙ ap (behind event_by_letter) text ∙ event_read law d other)

pub one_reply : Numbers → (m k : ℕ) (s t : List ℕ) → m < 2 ^ 64 → k < 2 ^ 64 → reply_line m s ≡ reply_line k t → (m ≡ k) × (s ≡ t)
one_reply law m k s t low small same =
    let text : 114 ∷ 32 ∷ reply_text (m, s) ≡ 114 ∷ 32 ∷ reply_text (k, t) = fed_same (114 ∷ 32 ∷ reply_text (m, s)) (114 ∷ 32 ∷ reply_text (k, t)) (sym (reply_fed (m, s)) ∙ same ∙ reply_fed (k, t)) in
    let pair : (m, s) ≡ (k, t) = same_Some (m, s) (k, t) (sym (reply_read law (m, s) low) ∙ ap (behind reply_by_letter) text ∙ reply_read law (k, t) small) in
    (ap (λ (p : ℕ × List ℕ). p.0) pair, ap (λ (p : ℕ × List ℕ). p.1) pair)
