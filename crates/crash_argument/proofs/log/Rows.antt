-- Writes join a log one by one.
use Rattle.std.proofs.Common.{◌≡◌, ◌⊎◌, ⊎_elim, inl, inr, ℕ, ◌+◌, ◌<◌, ◌≤◌, List, [], ◌∷◌, ◌++◌, length, take, drop, slice_get, Some, refl, sym, ◌∙◌, ap, subst, append_assoc, append-nil, take_all}
use Rattle.std.proofs.lemmas.Bool.{false≢true}
use Rattle.std.proofs.lemmas.List.{take-append-drop, take_more, drop_more}
use Rattle.std.proofs.lemmas.Option.{slice_get_within, get_or_from_slice_get}
use Rattle.disk_contract.specs.declared.event.Event.{Event}
use Rattle.disk_contract.specs.declared.event.Event.TheVariants.{Wrote, Lost}
use Rattle.disk_contract.specs.Cell.{greatest_ticket, IsNoticed}
use Rattle.crash_argument.specs.Writes.{AddsWrites, AddsFront, HasWritten}

-- writes behind others
adds_then : (vs ws : List (ℕ × List ℕ)) (ts us : List ℕ) (old mid new : List Event) → AddsWrites vs ts old mid → AddsWrites ws us mid new → AddsWrites (vs ++ ws) (ts ++ us) old new
adds_then [] ws [] us old mid new one two = subst (λ (l : List Event). AddsWrites ws us l new) one two
adds_then [] ws (t ∷ ts) us old mid new one two = absurd one
adds_then (v ∷ vs) ws [] us old mid new one two = absurd one
adds_then (v ∷ vs) ws (t ∷ ts) us old mid new one two = (one.0, one.1, adds_then vs ws ts us (old ++ Wrote t v.0 v.1 ∷ []) mid new one.2 two)

-- before the first
pub none_written : (ws : List (ℕ × List ℕ)) (start : List ℕ) (old : List Event) → HasWritten ws 0 start start old old
none_written ws start old = ([], sym (append-nil start), refl)

-- one more
pub one_more : (ws : List (ℕ × List ℕ)) (k b : ℕ) (x : List ℕ) (t : ℕ) (start now next : List ℕ) (old mid new : List Event) → slice_get ws k ≡ Some (b, x) → next ≡ now ++ t ∷ [] → HasWritten ws k start now old mid → (greatest_ticket mid < t) × (¬ IsNoticed t mid) × (new ≡ mid ++ Wrote t b x ∷ [])
    → HasWritten ws (k + 1) start next old new
one_more ws k b x t start now next old mid new is joined so_far a = (
  so_far.0 ++ t ∷ [],
  joined ∙ ap (λ (l : List ℕ). l ++ t ∷ []) so_far.1 ∙ append_assoc start so_far.0 (t ∷ []),
  subst (λ (l : List (ℕ × List ℕ)). AddsWrites l (so_far.0 ++ t ∷ []) old new) (sym (take_more ws k (b, x) (slice_get_within ws k (b, x) is) ∙ ap (λ (w : ℕ × List ℕ). take k ws ++ w ∷ []) (get_or_from_slice_get ws k (b, x) (b, x) is))) (adds_then (take k ws) ((b, x) ∷ []) so_far.0 (t ∷ []) old mid new so_far.2 a),
)

-- all of them
pub all_written : (ws : List (ℕ × List ℕ)) (k : ℕ) (start now : List ℕ) (old new : List Event) → length ws ≤ k → HasWritten ws k start now old new → (ts : List ℕ) × (now ≡ start ++ ts) × AddsWrites ws ts old new
all_written ws k start now old new le so_far = (so_far.0, so_far.1, subst (λ (l : List (ℕ × List ℕ)). AddsWrites l so_far.0 old new) (take_all k ws le) so_far.2)

-- or the next of them fails
pub front_lost : (ws : List (ℕ × List ℕ)) (k b : ℕ) (x : List ℕ) (start now : List ℕ) (old mid new : List Event) → slice_get ws k ≡ Some (b, x) → HasWritten ws k start now old mid → (new ≡ mid) ⊎ (new ≡ mid ++ Lost b x ∷ []) → AddsFront ws old new
front_lost ws k b x start now old mid new is so_far a = record {
  front = take k ws;
  rest = drop k ws;
  split = sym (take-append-drop k ws);
  tickets = so_far.0;
  middle = mid;
  accepted = so_far.2;
  ends = ⊎_elim (λ same. inl same) (λ lost. inr (b, x, drop (k + 1) ws, drop_more ws k (b, x) (slice_get_within ws k (b, x) is) ∙ ap (λ (w : ℕ × List ℕ). w ∷ drop (k + 1) ws) (get_or_from_slice_get ws k (b, x) (b, x) is), lost)) a;
}
