-- One payload more, from the last to the first: the first of a block decides.
use Rattle.std.proofs.Common.{◌∷◌, ◌≡◌, ℕ, ◌+◌, ◌<◌, ◌==◌, if◌then◌else◌, List, length, drop, get_or, Option, Some, sym, ◌∙◌, ap, arith, inl, inr}
use Rattle.std.proofs.lemmas.Bool.{cases_Bool}
use Rattle.layout_geometry.specs.Geometry.{Geometry, ring_block}
use Rattle.layout_journal.specs.declared.entry.Entry.{Entry}
use Rattle.layout_journal.specs.declared.entry.EntryKind.{EntryKind}
use Rattle.engine_recover.specs.Payload.{or_before, stored_from}
use Rattle.engine_recover.proofs.Wholes.{blank, from_here}

pub one_more : (g : Geometry) (first k left b at : ℕ) (ps : List Entry) (e : Entry) (old new before : Option (ℕ × EntryKind))
    → k < length ps → left ≡ k + 1 → e ≡ get_or ps k blank → at ≡ ring_block g (first + k) → new ≡ (if e.block == b then Some (at, e.kind) else old)
    → old ≡ or_before (stored_from g (first + left) (drop left ps) b) before → new ≡ or_before (stored_from g (first + k) (drop k ps) b) before
one_more g first k left b at ps e old new before lt next is here put rest =
    let behind = rest ∙ ap (λ n. or_before (stored_from g n (drop left ps) b) before) {x = first + left} {y = first + k + 1} (omega (arith, next)) ∙ ap (λ n. or_before (stored_from g (first + k + 1) (drop n ps) b) before) next in
    let here_on : (if e.block == b then Some (at, e.kind) else old) ≡ or_before (stored_from g (first + k) (e ∷ drop (k + 1) ps) b) before = elim (cases_Bool (e.block == b)) [
      | inl yes' ↦ rw yes' (ap (λ (n : ℕ). Some (n, e.kind)) here)
      | inr no' ↦ rw no' behind
    ] in
    put ∙ here_on ∙ sym (ap (λ (l : List Entry). or_before (stored_from g (first + k) l b) before) (from_here ps k e lt is))
