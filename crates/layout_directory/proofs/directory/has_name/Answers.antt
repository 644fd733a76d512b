-- A name that is longer than the bytes behind its length isn't there, nor one with another end.
use Rattle.std.proofs.Common.{◌≡◌, ◌-◌, ◌<◌, ◌==◌, ℕ, true, false, not, List, length, take, drop, take_all, slice_index, bytes_eq, sym, ap, ◌∙◌, arith}
use Rattle.std.proofs.lemmas.Bool.{and_right, eq-eqb, false_from_ne_true}
use Rattle.std.proofs.lemmas.List.{length-drop, length-take}
use Rattle.std.proofs.lemmas.Slice.Eq.{bytes_eq-Decides}
use Rattle.layout_directory.specs.Directory.{has_name}
use Rattle.layout_directory.proofs.directory.has_name.Goals as goal

too_long : (slot name : List ℕ) → length slot - 5 < length name → false ≡ has_name slot name
too_long slot name long =
    sym (and_right (slice_index slot 4 == length name) _ (false_from_ne_true (bytes_eq (take (length name) (drop 5 slot)) name) (λ t.
    absurd (omega (arith, long, length-drop 5 slot, length-take (length name) (drop 5 slot), ap length ((bytes_eq-Decides (take (length name) (drop 5 slot)) name).0 t))))))

-- bytes that differ at a place aren't the same
differ : (xs ys : List ℕ) (i : ℕ) → true ≡ not (slice_index xs i == slice_index ys i) → bytes_eq xs ys ≡ true → ⊥
differ xs ys i e same =
    let one : not (slice_index xs i == slice_index ys i) ≡ false = ap not (eq-eqb (slice_index xs i) (slice_index ys i) (ap (λ zs. slice_index zs i) ((bytes_eq-Decides xs ys).0 same))) in
    cc

other_end : (slot name : List ℕ) (i : ℕ) → true ≡ not (slice_index (take (length name) (take (length slot - 5) (drop 5 slot))) i == slice_index name i) → false ≡ has_name slot name
other_end slot name i e =
    sym (and_right (slice_index slot 4 == length name) _ (false_from_ne_true (bytes_eq (take (length name) (drop 5 slot)) name) (differ (take (length name) (drop 5 slot)) name i
    (e ∙ ap (λ xs. not (slice_index (take (length name) xs) i == slice_index name i)) (take_all (length slot - 5) (drop 5 slot) (omega (arith, length-drop 5 slot)))))))

pub returns-then-rest-name : goal.returns-then-rest-name
returns-then-rest-name c = too_long c.args.slot.now c.args.name.now (omega (arith, length-drop 5 c.args.slot.now, c.if-rest-name.true))

pub returns-then-end_apart : goal.returns-then-end_apart
returns-then-end_apart c = other_end c.args.slot.now c.args.name.now _ (sym c.if-end_apart.true ∙ c.end_apart.ensures)
