-- What one more event does to the greatest ticket, and to which tickets are accepted and noticed.
use Rattle.std.proofs.Common.{◌≡◌, sym, ap, refl, ◌∙◌, subst, arith, ℕ, ◌<◌, ◌==◌, Bool, true, false, ◌||◌, List, [], ◌∷◌, ◌++◌}
use Rattle.std.specs.Prelude.{◌&&◌}
use Rattle.std.proofs.lemmas.Bool.{eqb-true}
use Rattle.disk_contract.specs.declared.event.Event.{Event}
use Rattle.disk_contract.specs.declared.event.Event.TheVariants.{Wrote, Lost, Noticed}
use Rattle.disk_contract.specs.Cell.{greatest_ticket, is_accepted, is_noticed}
use Rattle.disk_contract.specs.Disk.{IsOpen}
use Rattle.disk_contract.specs.Logs.{greatest-append as greatest_join, is_noticed-append as noticed_join}
use Rattle.engine_notes.specs.declared.notes.Note.{Note}
use Rattle.engine_notes.specs.Notes.{is_expected, is_noticed as is_marked}
use Rattle.cmd_trace_reader.specs.Events.{IsTracked}

-- ---- events behind events

grouped : (a b c : Bool) → (a || (b || c)) ≡ ((a || b) || c)
grouped a b c = grind arith

turned : (a b : Bool) → (a || (b || false)) ≡ (b || a)
turned a b = grind arith

accepted_join : (u : ℕ) (log more : List Event) → is_accepted u (log ++ more) ≡ (is_accepted u log || is_accepted u more)
accepted_join u [] more = refl
accepted_join u (Wrote t b x ∷ log) more = ap (λ c. (t == u) || c) (accepted_join u log more) ∙ grouped (t == u) (is_accepted u log) (is_accepted u more)
accepted_join u (other ∷ log) more = accepted_join u log more

none_more : (b : Bool) → (b || false) ≡ b
none_more b = grind arith

-- ---- a write that is accepted

pub tracked_wrote : (log : List Event) (last ticket block : ℕ) (bytes : List ℕ) (old new : List Note) → IsTracked log last old → greatest_ticket log < ticket
    → ((u : ℕ) → is_expected u new ≡ ((ticket == u) || is_expected u old)) → ((u : ℕ) → is_marked u new ≡ is_marked u old)
    → IsTracked (log ++ Wrote ticket block bytes ∷ []) ticket new
tracked_wrote log last ticket block bytes old new h low expected marked = record {
  greatest = sym (greatest_join log (Wrote ticket block bytes ∷ []) ∙ omega (arith, low));
  expected = λ u. expected u ∙ ap (λ b. (ticket == u) || b) (h.expected u) ∙ sym (accepted_join u log (Wrote ticket block bytes ∷ []) ∙ turned (is_accepted u log) (ticket == u));
  marked = λ u. marked u ∙ h.marked u ∙ sym (noticed_join u log (Wrote ticket block bytes ∷ []) ∙ none_more (is_noticed u log));
}

-- ---- a write that is lost

pub tracked_lost : (log : List Event) (last block : ℕ) (bytes : List ℕ) (notes : List Note) → IsTracked log last notes → IsTracked (log ++ Lost block bytes ∷ []) last notes
tracked_lost log last block bytes notes h = record {
  greatest = h.greatest ∙ sym (greatest_join log (Lost block bytes ∷ []) ∙ omega arith);
  expected = λ u. h.expected u ∙ sym (accepted_join u log (Lost block bytes ∷ []) ∙ none_more (is_accepted u log));
  marked = λ u. h.marked u ∙ sym (noticed_join u log (Lost block bytes ∷ []) ∙ none_more (is_noticed u log));
}

-- ---- a notice

marks_one : (ticket u : ℕ) (notes : List Note) → is_expected ticket notes ≡ true → ((ticket == u) && is_expected u notes) ≡ (ticket == u)
marks_one ticket u notes there = elim (ticket == u) as (λ b. (ticket == u) ≡ b → (b && is_expected u notes) ≡ b) [ true ↦ λ same. subst (λ k. is_expected k notes ≡ true) (eqb-true ticket u same) there | false ↦ λ same. refl ] refl

pub tracked_notice : (log : List Event) (last ticket : ℕ) (old new : List Note) → IsTracked log last old → IsOpen ticket log
    → ((u : ℕ) → is_expected u new ≡ is_expected u old) → ((u : ℕ) → is_marked u new ≡ (is_marked u old || ((ticket == u) && is_expected u old)))
    → IsTracked (log ++ Noticed ticket ∷ []) last new
tracked_notice log last ticket old new h waits expected marked = record {
  greatest = h.greatest ∙ sym (greatest_join log (Noticed ticket ∷ []) ∙ omega arith);
  expected = λ u. expected u ∙ h.expected u ∙ sym (accepted_join u log (Noticed ticket ∷ []) ∙ none_more (is_accepted u log));
  marked = λ u.
      let there : is_expected ticket old ≡ true = h.expected ticket ∙ waits.0 in
      marked u ∙ ap (λ b. is_marked u old || b) (marks_one ticket u old there) ∙ ap (λ b. b || (ticket == u)) (h.marked u) ∙ sym (noticed_join u log (Noticed ticket ∷ []) ∙ ap (λ b. is_noticed u log || b) (none_more (ticket == u)));
}
