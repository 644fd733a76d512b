-- A change of a block whose bytes are saved keeps each point.
use Rattle.std.proofs.Common.{◌≡◌, ◌≢◌, ℕ, zero, suc, ◌+◌, ◌-◌, ◌<◌, ◌≤◌, List, [], ◌∷◌, ◌++◌, length, drop, slice_set, slice_index, get_or, refl, sym, ap, ap₂, subst, ◌∙◌, arith, ◌⊎◌, inl, inr}
use Rattle.std.proofs.lemmas.Bool.{cases_eq}
use Rattle.std.proofs.lemmas.List.{set-set, set_comm, set-get_or, drop-append-le, get_or_append_left, get_or_push, get_or-drop, get_or-set_same, get_or-set_other, length-drop, length_push}
use Rattle.engine_blocks.specs.declared.history.Saved.{Saved}
use Rattle.engine_blocks.specs.History.{undone, points_of, IsSavedAt, AreSaved, AreUpTo}

-- The bytes are saved by the newest entry.

-- the newest change is undone first
undone_push : (ss : List Saved) (now : List (List ℕ)) (b : ℕ) (x before : List ℕ) → before ≡ get_or now b before → undone (ss ++ record { block = b; bytes = before } ∷ []) (slice_set now b x) ≡ undone ss now
undone_push [] now b x before is = set-set now b x before ∙ ap (λ y. slice_set now b y) is ∙ set-get_or now b before
undone_push (s ∷ ss) now b x before is = ap (λ ys. slice_set ys s.block s.bytes) (undone_push ss now b x before is)

pub points_kept : (saved : List Saved) (now : List (List ℕ)) (starts : List ℕ) (b : ℕ) (x before : List ℕ) → before ≡ get_or now b before
    → ((p : ℕ) → p < length starts → slice_index starts p ≤ length saved)
    → points_of (saved ++ record { block = b; bytes = before } ∷ []) (slice_set now b x) starts ≡ points_of saved now starts
points_kept saved now [] b x before is behind = refl
points_kept saved now (start ∷ starts) b x before is behind =
    ap₂ ◌∷◌
    (ap (λ ss. undone ss (slice_set now b x)) (drop-append-le start saved (record { block = b; bytes = before } ∷ []) (behind 0 (omega arith))) ∙ undone_push (drop start saved) now b x before is)
    (points_kept saved now starts b x before is (λ p low. behind (suc p) (omega (arith, low))))

-- They were saved before.

-- what is in the block now doesn't matter where it is written at last
undone_over : (ss : List Saved) (now : List (List ℕ)) (b : ℕ) (x y : List ℕ) → slice_set (undone ss (slice_set now b x)) b y ≡ slice_set (undone ss now) b y
undone_over [] now b x y = set-set now b x y
undone_over (s ∷ ss) now b x y = elim (cases_eq s.block b) [
  | inl e ↦ grind (arith, e, set-set, undone_over ss now b x y)
  | inr d ↦ grind (arith, d, set_comm, undone_over ss now b x y)
]

-- nor where an entry is of it
undone_has : (ss : List Saved) (now : List (List ℕ)) (b j : ℕ) (x : List ℕ) → j < length ss → ((d : Saved) → (get_or ss j d).block ≡ b) → undone ss (slice_set now b x) ≡ undone ss now
undone_has [] now b j x low at = absurd (omega (arith, low))
undone_has (s ∷ ss) now b zero x low at =
    ap (λ k. slice_set (undone ss (slice_set now b x)) k s.bytes) (at s) ∙ undone_over ss now b x s.bytes ∙ sym (ap (λ k. slice_set (undone ss now) k s.bytes) (at s))
undone_has (s ∷ ss) now b (suc j) x low at = ap (λ ys. slice_set ys s.block s.bytes) (undone_has ss now b j x (omega (arith, low)) at)

pub points_stay : (saved : List Saved) (now : List (List ℕ)) (starts : List ℕ) (last i b : ℕ) (x : List ℕ) → last < i → IsSavedAt saved i b → AreUpTo last starts → points_of saved (slice_set now b x) starts ≡ points_of saved now starts
points_stay saved now [] last i b x high at behind = refl
points_stay saved now (start ∷ starts) last i b x high at behind =
    ap₂ ◌∷◌
    (undone_has (drop start saved) now b (i - 1 - start) x (omega (arith, length-drop start saved, at.within, high, behind 0 (omega arith)))
    (λ d. ap (λ s. s.block) (get_or-drop start saved (i - 1 - start) d ∙ ap (λ k. get_or saved k d) {x = start + (i - 1 - start)} {y = i - 1} (omega (arith, high, behind 0 (omega arith)))) ∙ at.block d))
    (points_stay saved now starts last i b x high at (λ p low. behind (suc p) (omega (arith, low))))

-- What is kept of the places.

-- an entry stays where others come behind it
saved_more : (saved : List Saved) (s : Saved) (i b : ℕ) → 0 < i → IsSavedAt saved i b → IsSavedAt (saved ++ s ∷ []) i b
saved_more saved s i b some at = record {
  within = omega (arith, at.within, length_push saved s);
  block = λ d. ap (λ r. r.block) (get_or_append_left saved (s ∷ []) d (i - 1) (omega (arith, some, at.within))) ∙ at.block d;
}

pub saves_one : (saved : List Saved) (last b : ℕ) (bytes places : List ℕ) → b < length places → AreSaved saved last places
    → AreSaved (saved ++ record { block = b; bytes = bytes } ∷ []) last (slice_set places b (length saved + 1))
saves_one saved last b bytes places low h = record {
  last_in = omega (arith, h.last_in, length_push saved (record { block = b; bytes = bytes }));
  since = λ c past. by c past (cases_eq c b);
}
  where
    here : IsSavedAt (saved ++ record { block = b; bytes = bytes } ∷ []) (length saved + 1) b
    here = record {
      within = omega (arith, length_push saved (record { block = b; bytes = bytes }));
      block = λ d. ap (λ r. r.block) (get_or_push saved (record { block = b; bytes = bytes }) d (length saved + 1 - 1) (omega arith));
    }

    by : (c : ℕ) → last < slice_index (slice_set places b (length saved + 1)) c → (c ≡ b) ⊎ (c ≢ b) → IsSavedAt (saved ++ record { block = b; bytes = bytes } ∷ []) (slice_index (slice_set places b (length saved + 1)) c) c
    by c past (inl e) = subst (λ i. IsSavedAt (saved ++ record { block = b; bytes = bytes } ∷ []) i c) (sym (ap (λ k. slice_index (slice_set places b (length saved + 1)) k) e ∙ get_or-set_same places b (length saved + 1) 0 low)) (subst (IsSavedAt (saved ++ record { block = b; bytes = bytes } ∷ []) (length saved + 1)) (sym e) here)
    by c past (inr d) =
        let same : slice_index (slice_set places b (length saved + 1)) c ≡ slice_index places c = get_or-set_other places b c (length saved + 1) 0 d in
        subst (λ i. IsSavedAt (saved ++ record { block = b; bytes = bytes } ∷ []) i c) (sym same) (saved_more saved (record { block = b; bytes = bytes }) (slice_index places c) c (omega (arith, past, same)) (h.since c (omega (arith, past, same))))
