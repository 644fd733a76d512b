-- The entries of a descriptor, read one by one from the front.
use Rattle.std.proofs.Common.{◌≡◌, ℕ, suc, ◌+◌, ◌-◌, ◌*◌, ◌<◌, ◌++◌, List, [], ◌∷◌, take, drop, Option, Some, None, refl, ap, sym, ◌∙◌, arith, append_assoc, length, true, take_all, drop-drop}
use Rattle.std.proofs.lemmas.List.{length-drop, length-append}
use Rattle.base_types.specs.Seal.{is_sealed}
use Rattle.layout_geometry.specs.Geometry.{Geometry}
use Rattle.layout_bytes.specs.Bytes.{field, when}
use Rattle.layout_journal.specs.declared.entry.Entry.{Entry}
use Rattle.layout_journal.specs.Layout.{entry_of, then_entry, entries_in, descriptor_with, descriptor_fits, descriptor_of}

-- the entries read so far before those that the rest gives
abbrev pub after : List Entry → Option (List Entry) → Option (List Entry)
after es None = None
after es (Some more) = Some (es ++ more)

-- the whole list, once these entries are read from its first k places
abbrev pub so_far : Geometry → ℕ → List ℕ → ℕ → List Entry → Option (List Entry)
so_far g n b k es = after es (entries_in g (n - k) (drop (40 * k) b))

after_one : (es : List Entry) (e : Entry) (r : Option (List Entry)) → after es (then_entry (Some e) r) ≡ after (es ++ e ∷ []) r
after_one es e None = refl
after_one es e (Some more) = ap Some (sym (append_assoc es (e ∷ []) more))

-- what an entry in front of the rest adds
pub first_read : (g : Geometry) (m : ℕ) (rest : List ℕ) (es : List Entry) (e : Entry)
    → entry_of g (take 40 rest) ≡ Some e → after es (entries_in g (suc m) rest) ≡ after (es ++ e ∷ []) (entries_in g m (drop 40 rest))
first_read g m rest es e p = ap (λ x. after es (then_entry x (entries_in g m (drop 40 rest)))) p ∙ after_one es e _

first_fails : (g : Geometry) (m : ℕ) (rest : List ℕ) (es : List Entry)
    → entry_of g (take 40 rest) ≡ None → after es (entries_in g (suc m) rest) ≡ None
first_fails g m rest es p = ap (λ x. after es (then_entry x (entries_in g m (drop 40 rest)))) p

one_fewer : (g : Geometry) (n : ℕ) (b : List ℕ) (k : ℕ) (es : List Entry) → k < n
    → so_far g n b k es ≡ after es (entries_in g (suc (n - (k + 1))) (drop (40 * k) b))
one_fewer g n b k es h = ap (λ m. after es (entries_in g m (drop (40 * k) b))) {x = n - k} {y = suc (n - (k + 1))} (omega (arith, h))

next_place : (k : ℕ) (b : List ℕ) → drop 40 (drop (40 * k) b) ≡ drop (40 * (k + 1)) b
next_place k b = drop-drop 40 (40 * k) b ∙ ap (λ i. drop i b) {x = 40 * k + 40} {y = 40 * (k + 1)} (omega arith)

pub length_one_more : (es : List Entry) (e : Entry) → length (es ++ e ∷ []) ≡ length es + 1
length_one_more es e = length-append es (e ∷ [])

-- one more entry is read
pub one_more : (g : Geometry) (n : ℕ) (b : List ℕ) (k : ℕ) (es : List Entry) (e : Entry) → k < n
    → entry_of g (take 40 (drop (40 * k) b)) ≡ Some e → so_far g n b k es ≡ so_far g n b (k + 1) (es ++ e ∷ [])
one_more g n b k es e h p =
    one_fewer g n b k es h
    ∙ (first_read g (n - (k + 1)) (drop (40 * k) b) es e p
    ∙ ap (λ xs. after (es ++ e ∷ []) (entries_in g (n - (k + 1)) xs)) (next_place k b))

-- an entry that doesn't fit leaves none
pub none_fits : (g : Geometry) (n : ℕ) (b : List ℕ) (k : ℕ) (es : List Entry) → k < n
    → entry_of g (take 40 (drop (40 * k) b)) ≡ None → so_far g n b k es ≡ None
none_fits g n b k es h p = one_fewer g n b k es h ∙ first_fails g (n - (k + 1)) (drop (40 * k) b) es p

-- a sealed descriptor that fits is the one that its entries make
pub descriptor_by : (g : Geometry) (b : List ℕ) (r : Option (List Entry)) → is_sealed b ≡ true → descriptor_fits b ≡ true
    → length b ≡ 1024 → r ≡ entries_in g (field b 28 4) (take 992 (drop 32 b)) → descriptor_with b r ≡ descriptor_of g b
unfolding descriptor_of
descriptor_by g b r s f h p =
    ap (descriptor_with b) (p ∙ ap (entries_in g (field b 28 4)) (take_all 992 (drop 32 b) (omega (arith, length-drop 32 b, h))))
    ∙ sym (ap (λ t. when t (when (descriptor_fits b) (descriptor_with b (entries_in g (field b 28 4) (drop 32 b))))) s
    ∙ ap (λ t. when t (descriptor_with b (entries_in g (field b 28 4) (drop 32 b)))) f)
