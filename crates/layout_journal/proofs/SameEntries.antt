-- What a record's commit block and descriptors determine: its entries.
use Rattle.std.proofs.Common.{◌≡◌, ℕ, zero, suc, ◌+◌, ◌-◌, ◌*◌, ◌/◌, ◌<◌, ◌≤◌, List, [], ◌∷◌, ◌++◌, length, take, drop, refl, sym, ◌∙◌, ap, arith, length-drop, length-append}
use Rattle.std.proofs.lemmas.List.{take-append-drop, drop-drop}
use Rattle.layout_journal.specs.declared.entry.Entry.{Entry}
use Rattle.layout_journal.specs.Layout.{descriptor_count}
use Rattle.layout_journal.specs.Run.{Record, entries}

-- lists that agree in each part of 24 are the same
chunks : (fuel : ℕ) (xs ys : List Entry) → length xs ≡ length ys → length xs ≤ 24 * fuel → ((i : ℕ) → i < fuel → take 24 (drop (24 * i) xs) ≡ take 24 (drop (24 * i) ys)) → xs ≡ ys
chunks zero [] [] len low same = refl
chunks zero [] (y ∷ ys) len low same = absurd (omega arith)
chunks zero (x ∷ xs) ys len low same = absurd (omega arith)
chunks (suc fuel) xs ys len low same =
    let first : take 24 xs ≡ take 24 ys = same 0 (omega arith) in
    let rest : drop 24 xs ≡ drop 24 ys = chunks fuel (drop 24 xs) (drop 24 ys) (omega (arith, length-drop 24 xs, length-drop 24 ys)) (omega (arith, length-drop 24 xs)) (λ i lt. shift xs ys i (same (suc i) (omega arith))) in
    sym (take-append-drop 24 xs) ∙ ap (λ (l : List Entry). l ++ drop 24 xs) first ∙ ap (λ (l : List Entry). take 24 ys ++ l) rest ∙ take-append-drop 24 ys
  where
    twice : (l : List Entry) (i : ℕ) → drop (24 * i) (drop 24 l) ≡ drop (24 * suc i) l
    twice l i = drop-drop (24 * i) 24 l ∙ ap (λ n. drop n l) (omega arith)

    shift : (a b : List Entry) (i : ℕ) → take 24 (drop (24 * suc i) a) ≡ take 24 (drop (24 * suc i) b) → take 24 (drop (24 * i) (drop 24 a)) ≡ take 24 (drop (24 * i) (drop 24 b))
    shift a b i e = ap (take 24) (twice a i) ∙ e ∙ sym (ap (take 24) (twice b i))

-- so entries that agree in what each descriptor has are the same
pub same_entries : (xs ys : List Entry) → length xs ≡ length ys → ((i : ℕ) → i < descriptor_count (length xs) → take 24 (drop (24 * i) xs) ≡ take 24 (drop (24 * i) ys)) → xs ≡ ys
same_entries xs ys len same = chunks (descriptor_count (length xs)) xs ys len (omega arith) same

-- two parts, the first ones as long
pub same_parts : {A : Type 0} (ks bs xs ys : List A) → length ks ≡ length xs → ks ++ bs ≡ xs ++ ys → (ks ≡ xs) × (bs ≡ ys)
same_parts [] bs [] ys len e = (refl, e)
same_parts [] bs (x ∷ xs) ys len e = absurd (omega arith)
same_parts (a ∷ ks) bs [] ys len e = absurd (omega arith)
same_parts {A} (a ∷ ks) bs (x ∷ xs) ys len e =
    let head : a ≡ x = cc in
    let tails : ks ++ bs ≡ xs ++ ys = cc in
    let rest = same_parts ks bs xs ys (omega arith) tails in
    (ap (λ (y : A). y ∷ ks) head ∙ ap (λ (l : List A). x ∷ l) rest.0, rest.1)

-- the descriptors of a record tell its entries
pub told_entries : (r q : Record) → length r.payloads ≡ length q.payloads → length r.fresh ≡ length q.fresh
    → ((i : ℕ) → i < descriptor_count (length (entries r)) → take 24 (drop (24 * i) (entries r)) ≡ take 24 (drop (24 * i) (entries q))) → (r.payloads ≡ q.payloads) × (r.fresh ≡ q.fresh)
told_entries r q payloads fresh same =
    same_parts r.payloads r.fresh q.payloads q.fresh payloads
    (same_entries (entries r) (entries q) (omega (arith, payloads, fresh, length-append r.payloads r.fresh, length-append q.payloads q.fresh)) same)
