-- The entries of a directory, place by place: what reads as they do, and what changes of their bytes make of them.
use Rattle.std.proofs.Common.{◌+◌, ◌-◌, ◌*◌, ◌≡◌, ◌<◌, ◌≤◌, ◌==◌, ◌&&◌, ◌⊎◌, inl, inr, ℕ, zero, suc, true, false, List, [], ◌∷◌, ◌++◌, length, take, drop, slice_index, slice_index_or, Option, Some, None, refl, sym, ◌∙◌, ap, ap₂, subst, arith, bytes_eq, nat_le}
use Rattle.std.proofs.Math.ListN.{set}
use Rattle.std.proofs.lemmas.Bool.{cases_eq, cases_lt, cases_order, and_parts, leb-true, ne_eqb, eq-eqb, false_from_ne_true}
use Rattle.std.proofs.lemmas.List.{length-set, length-take-le, length-drop, drop_all, get_or-set_same, get_or-set_other, get_or-take}
use Rattle.std.proofs.lemmas.Slice.Eq.{bytes_eq-Decides}
use Rattle.std.specs.List.{concat}
use Rattle.base_types.specs.declared.layout.Layout.{Layout}
use Rattle.base_types.specs.Layouts.{slot_size, slot_place, longest_name, directory_bytes}
use Rattle.base_types.specs.LayoutLaws.{slot_size_is, slot_within, slot_place_is, slot_apart, slot_rises, directory_holds}
use Rattle.base_types.specs.Name.{is_name}
use Rattle.layout_bytes.specs.Bytes.{are_zeros, has_zeros}
use Rattle.layout_bytes.specs.Slot.{slot_of, slots_at, slots_in, then_slot, name_in}
use Rattle.layout_directory.specs.Slots.{Slot}
use Rattle.layout_directory.specs.Directory.{overwrite}
use Rattle.layout_directory.proofs.Fields.{when_parts, when_is}
use Rattle.layout_directory.proofs.Written.{AreWhole, joined_length, before_same, behind_same, written_there}

-- the name of a slot, where there is one
abbrev name_of : Option Slot → List ℕ
name_of None = []
name_of (Some s) = s.name

-- what a slot and those behind it are
record IsFirst (one : Option Slot) (rest : Option (List Slot)) (slots : List Slot) : Type 0 where
  pub first : Slot
  pub more : List Slot
  pub one_is : one ≡ Some first
  pub rest_is : rest ≡ Some more
  pub slots_are : slots ≡ first ∷ more

-- a list that a slot and those behind it make has them
taken : (one : Option Slot) (rest : Option (List Slot)) (slots : List Slot) → then_slot one rest ≡ Some slots → IsFirst one rest slots
taken None rest slots e = cc
taken (Some s) None slots e = cc
taken (Some s) (Some more) slots e = record { first = s; more = more; one_is = refl; rest_is = refl; slots_are = cc }

-- at place i the bytes read as this slot, with zeros behind it up to the next place
pub record IsAt (l : Layout) (b : List ℕ) (i : ℕ) (s : Slot) : Type 0 where
  pub clear : has_zeros b (slot_place l i + slot_size l) (slot_place l (i + 1)) ≡ true
  pub slot : slot_of l (take (slot_size l) (drop (slot_place l i) b)) ≡ Some s

each_at : (l : Layout) (n from : ℕ) (b : List ℕ) (slots : List Slot) (i : ℕ) (d : Slot) → slots_at l from n b ≡ Some slots → i < n → IsAt l b (from + i) (slice_index_or slots i d)
each_at l zero from b slots i d e low = absurd (omega arith)
each_at l (suc n) from b slots zero d e low =
    let w = when_parts _ _ slots e in
    let t = taken _ _ slots w.1 in
    subst (λ (k : ℕ). IsAt l b k (slice_index_or slots 0 d)) {x = from} {y = from + 0} (omega arith)
    (record { clear = w.0; slot = t.one_is ∙ ap (λ (xs : List Slot). Some (slice_index_or xs 0 d)) (sym t.slots_are) })
each_at l (suc n) from b slots (suc i) d e low =
    let w = when_parts _ _ slots e in
    let t = taken _ _ slots w.1 in
    subst (λ (k : ℕ). IsAt l b k (slice_index_or slots (suc i) d)) {x = from + 1 + i} {y = from + suc i} (omega arith)
    (subst (λ (xs : List Slot). IsAt l b (from + 1 + i) (slice_index_or xs (suc i) d)) (sym t.slots_are) (each_at l n (from + 1) b t.more i d t.rest_is (omega arith)))

by_each : (l : Layout) (n from : ℕ) (b : List ℕ) (slots : List Slot) → length slots ≡ n → ((i : ℕ) (d : Slot) → i < n → IsAt l b (from + i) (slice_index_or slots i d))
    → slots_at l from n b ≡ Some slots
by_each l zero from b [] len each = refl
by_each l zero from b (s ∷ slots) len each = absurd (omega arith)
by_each l (suc n) from b [] len each = absurd (omega arith)
by_each l (suc n) from b (s ∷ slots) len each =
    let a : IsAt l b from s = subst (λ (k : ℕ). IsAt l b k s) {x = from + 0} {y = from} (omega arith) (each 0 s (omega arith)) in
    when_is _ _ a.clear
    ∙ ap₂ then_slot a.slot
    (by_each l n (from + 1) b slots (omega arith)
    (λ i d low. subst (λ (k : ℕ). IsAt l b k (slice_index_or slots i d)) {x = from + suc i} {y = from + 1 + i} (omega arith) (each (suc i) d (omega arith))))

-- each of the slots that are read is at its place
pub each_read : (l : Layout) (n : ℕ) (b : List ℕ) (slots : List Slot) (i : ℕ) (d : Slot) → slots_in l n b ≡ Some slots → i < n → IsAt l b i (slice_index_or slots i d)
each_read l n b slots i d e low = subst (λ (k : ℕ). IsAt l b k (slice_index_or slots i d)) {x = 0 + i} {y = i} (omega arith) (each_at l n 0 b slots i d e low)

-- and slots that are each at its place are those that are read
pub read_by_each : (l : Layout) (n : ℕ) (b : List ℕ) (slots : List Slot) → length slots ≡ n → ((i : ℕ) (d : Slot) → i < n → IsAt l b i (slice_index_or slots i d))
    → slots_in l n b ≡ Some slots
read_by_each l n b slots len each =
    by_each l n 0 b slots len (λ i d low. subst (λ (k : ℕ). IsAt l b k (slice_index_or slots i d)) {x = i} {y = 0 + i} (omega arith) (each i d low))

count_at : (l : Layout) (n from : ℕ) (b : List ℕ) (slots : List Slot) → slots_at l from n b ≡ Some slots → length slots ≡ n
count_at l zero from b slots e = let nil : slots ≡ [] = cc in ap length nil
count_at l (suc n) from b slots e =
    let w = when_parts (has_zeros b (slot_place l from + slot_size l) (slot_place l (from + 1))) (then_slot (slot_of l (take (slot_size l) (drop (slot_place l from) b))) (slots_at l (from + 1) n b)) slots e in
    let t = taken (slot_of l (take (slot_size l) (drop (slot_place l from) b))) (slots_at l (from + 1) n b) slots w.1 in
    omega (arith, ap length t.slots_are, count_at l n (from + 1) b t.more t.rest_is)

-- so many slots are read
pub count_read : (l : Layout) (n : ℕ) (b : List ℕ) (slots : List Slot) → slots_in l n b ≡ Some slots → length slots ≡ n
count_read l n b slots e = count_at l n 0 b slots e

-- fewer entries are a front of them
pub fewer : (l : Layout) (n m : ℕ) (b : List ℕ) (slots : List Slot) → m ≤ n → slots_in l n b ≡ Some slots → slots_in l m b ≡ Some (take m slots)
fewer l n m b slots low e =
    read_by_each l m b (take m slots) (length-take-le m slots (omega (arith, count_read l n b slots e)))
    (λ i d lo. subst (IsAt l b i) (sym (get_or-take m slots i d lo)) (each_read l n b slots i d e (omega arith)))

-- another place is as it was under a write at one
other_at : (l : Layout) (b new : List ℕ) (at i : ℕ) (s : Slot) → length new ≡ slot_size l → slot_place l at + slot_size l ≤ length b → (i < at) ⊎ (at < i)
    → IsAt l b i s → IsAt l (overwrite (slot_place l at) new b) i s
other_at l b new at i s size fits (inl low) is = record {
  clear = ap are_zeros (before_same b new (slot_place l at) (slot_place l i + slot_size l) (slot_place l (i + 1) - (slot_place l i + slot_size l)) (omega (arith, size, fits)) (omega (arith, slot_rises l (i + 1) at (omega arith), slot_apart l i (i + 1) (omega arith)))) ∙ is.clear;
  slot = ap (slot_of l) (before_same b new (slot_place l at) (slot_place l i) (slot_size l) (omega (arith, size, fits)) (slot_apart l i at low)) ∙ is.slot;
}
other_at l b new at i s size fits (inr high) is = record {
  clear = ap are_zeros (behind_same b new (slot_place l at) (slot_place l i + slot_size l) (slot_place l (i + 1) - (slot_place l i + slot_size l)) (omega (arith, size, fits)) (omega (arith, size, slot_apart l at i high))) ∙ is.clear;
  slot = ap (slot_of l) (behind_same b new (slot_place l at) (slot_place l i) (slot_size l) (omega (arith, size, fits)) (omega (arith, size, slot_apart l at i high))) ∙ is.slot;
}

-- the place itself has what was written, and the same zeros
own_at : (l : Layout) (b new : List ℕ) (at : ℕ) (s t : Slot) → length new ≡ slot_size l → slot_place l at + slot_size l ≤ length b → slot_of l new ≡ Some s → IsAt l b at t
    → IsAt l (overwrite (slot_place l at) new b) at s
own_at l b new at s t size fits is old = record {
  clear = ap are_zeros (behind_same b new (slot_place l at) (slot_place l at + slot_size l) (slot_place l (at + 1) - (slot_place l at + slot_size l)) (omega (arith, size, fits)) (omega (arith, size))) ∙ old.clear;
  slot = ap (slot_of l) (written_there b new (slot_place l at) (slot_size l) (omega (arith, size, fits)) size) ∙ is;
}

-- an entry that is written over is the new one
pub entry_set : (l : Layout) (n : ℕ) (b new : List ℕ) (at : ℕ) (slots : List Slot) (s : Slot) → length new ≡ slot_size l → directory_bytes l n ≤ length b → at < n
    → slot_of l new ≡ Some s → slots_in l n b ≡ Some slots → slots_in l n (overwrite (slot_place l at) new b) ≡ Some (set slots at s)
entry_set l n b new at slots s size long low is e =
    read_by_each l n (overwrite (slot_place l at) new b) (set slots at s) (length-set slots at s ∙ count) (λ i d lo. by i d lo (cases_order i at))
  where
    count : length slots ≡ n
    count = count_read l n b slots e

    fits : slot_place l at + slot_size l ≤ length b
    fits = omega (arith, long, directory_holds l at n low)

    not_both : (i : ℕ) → i ≡ at → (i < at) ⊎ (at < i) → ⊥
    not_both i one (inl x) = omega (arith, one, x)
    not_both i one (inr x) = omega (arith, one, x)

    by : (i : ℕ) (d : Slot) → i < n → ((i ≡ at) ⊎ ((i < at) ⊎ (at < i))) → IsAt l (overwrite (slot_place l at) new b) i (slice_index_or (set slots at s) i d)
    by i d lo (inl one) =
        subst (IsAt l (overwrite (slot_place l at) new b) i) (sym (ap (λ (k : ℕ). slice_index_or (set slots at s) k d) one ∙ get_or-set_same slots at s d (omega (arith, count, low))))
        (subst (λ (k : ℕ). IsAt l (overwrite (slot_place l at) new b) k s) (sym one) (own_at l b new at s (slice_index_or slots at d) size fits is (each_read l n b slots at d e low)))
    by i d lo (inr apart) =
        subst (IsAt l (overwrite (slot_place l at) new b) i) (sym (get_or-set_other slots at i s d (λ one. not_both i one apart)))
        (other_at l b new at i (slice_index_or slots i d) size fits apart (each_read l n b slots i d e lo))

-- the name in a slot's bytes is this one where the lengths are alike and then the bytes
pub name_test : (l : Layout) (b name : List ℕ) (s : Slot) → length b ≡ slot_size l → slot_of l b ≡ Some s
    → ((slice_index b 4 == length name) && bytes_eq (take (length name) (drop 5 b)) name) ≡ bytes_eq s.name name
unfolding slot_of
name_test l b name s size e = by (cases_eq (slice_index b 4) (length name))
  where
    got : (nat_le (slice_index b 4) (longest_name l) ≡ true) × (name_in b ≡ s.name)
    got =
        let w = when_parts _ _ s e in
        ((and_parts _ _ w.0).0, ap (λ (o : Option Slot). name_of o) w.1)

    size_is : length s.name ≡ slice_index b 4
    size_is = sym (ap length got.1) ∙ length-take-le (slice_index b 4) (drop 5 b) (omega (arith, leb-true _ _ got.0, length-drop 5 b, size, slot_size_is l))

    by : ((slice_index b 4 ≡ length name) ⊎ (slice_index b 4 ≡ length name → ⊥))
        → ((slice_index b 4 == length name) && bytes_eq (take (length name) (drop 5 b)) name) ≡ bytes_eq s.name name
    by (inl same) =
        ap (λ t. t && bytes_eq (take (length name) (drop 5 b)) name) (eq-eqb _ _ same)
        ∙ ap (λ n. bytes_eq (take n (drop 5 b)) name) (sym same)
        ∙ ap (λ xs. bytes_eq xs name) got.1
    by (inr apart) =
        ap (λ t. t && bytes_eq (take (length name) (drop 5 b)) name) (ne_eqb _ _ apart)
        ∙ sym (false_from_ne_true (bytes_eq s.name name) (λ t. apart (sym size_is ∙ ap length ((bytes_eq-Decides s.name name).0 t))))

-- bytes that are none read as no slot
nothing_there : (l : Layout) (s : Slot) → slot_of l [] ≡ Some s → ⊥
unfolding slot_of
nothing_there l s e =
    let w = when_parts _ _ s e in
    let t = and_parts (is_name (name_in [])) (has_zeros [] (5 + slice_index [] 4) (slot_size l)) (and_parts (nat_le (slice_index [] 4) (longest_name l)) _ w.0).1 in
    let no : false ≡ true = t.0 in
    cc

none_there : (l : Layout) (n : ℕ) (s : Slot) → slot_of l (take n []) ≡ Some s → ⊥
none_there l zero s e = nothing_there l s e
none_there l (suc n) s e = nothing_there l s e

-- whole blocks that read as a slot at a place have room for it
pub place_room : (l : Layout) (blocks : List (List ℕ)) (i : ℕ) (s : Slot) → AreWhole blocks → slot_of l (take (slot_size l) (drop (slot_place l i) (concat blocks))) ≡ Some s
    → slot_place l i + slot_size l ≤ 1024 * length blocks
place_room l blocks i s whole reads = by (cases_lt (slot_place l i) (length (concat blocks)))
  where
    by : ((slot_place l i < length (concat blocks)) ⊎ (length (concat blocks) ≤ slot_place l i)) → slot_place l i + slot_size l ≤ 1024 * length blocks
    by (inl within) = omega (arith, joined_length blocks whole, within, slot_place_is l i, slot_within l i)
    by (inr past) = absurd (none_there l (slot_size l) s (sym (ap (λ xs. slot_of l (take (slot_size l) xs)) (drop_all (slot_place l i) (concat blocks) past)) ∙ reads))
