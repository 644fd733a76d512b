-- Entries behind others in bytes that have no room yet, and what bytes behind all entries leave.
use Rattle.std.proofs.Common.{◌+◌, ◌-◌, ◌≡◌, ◌<◌, ◌≤◌, ◌⊎◌, inl, inr, ℕ, zero, suc, true, List, [], ◌∷◌, ◌++◌, length, take, drop, replicate, slice_index_or, slice_get, Some, refl, sym, ◌∙◌, ap, ap₂, subst, arith}
use Rattle.std.proofs.lemmas.Bool.{cases_eq}
use Rattle.std.proofs.lemmas.List.{length-append, length-replicate, length-take-le, length_push, drop_all, get_or_append_left, get_or_push, take_at}
use Rattle.std.proofs.Common.{take_all}
use Rattle.std.proofs.lemmas.Option.{slice_get_within, get_or_from_slice_get}
use Rattle.base_types.specs.declared.layout.Layout.{Layout}
use Rattle.base_types.specs.Layouts.{slot_size, slot_place, directory_bytes}
use Rattle.base_types.specs.LayoutLaws.{slot_apart, slot_rises, directory_before, directory_ends, directory_holds}
use Rattle.layout_bytes.specs.Bytes.{are_zeros, has_zeros, when}
use Rattle.layout_bytes.specs.Slot.{slot_of, slots_at, slots_in, then_slot, slot_spelling}
use Rattle.layout_directory.specs.Slots.{Slot, IsLawful}
use Rattle.layout_directory.proofs.Fields.{zeros_are}
use Rattle.layout_directory.proofs.Spelled.{spelling_length}
use Rattle.layout_directory.proofs.Written.{drop_further, front_of, front_same}
use Rattle.layout_directory.proofs.Entries.{IsAt, count_read, each_read, read_by_each}

-- bytes behind the place of the next slot leave the slots before it
within_at : (l : Layout) (n from end : ℕ) (b more : List ℕ) → from + n ≤ end → slot_place l end ≤ length b → slots_at l from n (b ++ more) ≡ slots_at l from n b
within_at l zero from end b more upto fits = refl
within_at l (suc n) from end b more upto fits =
    let next = slot_apart l from (from + 1) (omega arith) in
    let last = slot_rises l (from + 1) end (omega (arith, upto)) in
    ap₂ when
    (ap are_zeros (front_of b more (slot_place l from + slot_size l) (slot_place l (from + 1) - (slot_place l from + slot_size l)) (omega (arith, next, last, fits))))
    (ap₂ then_slot (ap (slot_of l) (front_of b more (slot_place l from) (slot_size l) (omega (arith, next, last, fits))))
    (within_at l n (from + 1) end b more (omega (arith, upto)) fits))

pub within_front : (l : Layout) (n : ℕ) (b more : List ℕ) → slot_place l n ≤ length b → slots_in l n (b ++ more) ≡ slots_in l n b
within_front l n b more fits = within_at l n 0 n b more (omega arith) fits

-- and so does a cut behind the last of them
pub cut_behind : (l : Layout) (n : ℕ) (b : List ℕ) (slots : List Slot) → directory_bytes l n ≤ length b → slots_in l n b ≡ Some slots
    → slots_in l n (take (directory_bytes l n) b) ≡ Some slots
cut_behind l n b slots long e = read_by_each l n front slots (count_read l n b slots e) (λ i d low. at i (slice_index_or slots i d) low (each_read l n b slots i d e low))
  where
    front : List ℕ
    front = take (directory_bytes l n) b

    clear : (i : ℕ) → i < n → has_zeros b (slot_place l i + slot_size l) (slot_place l (i + 1)) ≡ true → ((i + 1 ≡ n) ⊎ (i + 1 ≡ n → ⊥))
        → has_zeros front (slot_place l i + slot_size l) (slot_place l (i + 1)) ≡ true
    clear i low zeros (inl last) =
        ap (λ xs. are_zeros (take (slot_place l (i + 1) - (slot_place l i + slot_size l)) xs))
        (drop_all (slot_place l i + slot_size l) front (omega (arith, length-take-le (directory_bytes l n) b long, directory_ends l i, ap (directory_bytes l) last)))
        ∙ no_zeros (slot_place l (i + 1) - (slot_place l i + slot_size l))
      where
        no_zeros : (m : ℕ) → are_zeros (take m []) ≡ true
        no_zeros zero = refl
        no_zeros (suc m) = refl
    clear i low zeros (inr more) =
        ap are_zeros (front_same b (directory_bytes l n) (slot_place l i + slot_size l) (slot_place l (i + 1) - (slot_place l i + slot_size l))
        (omega (arith, slot_apart l i (i + 1) (omega arith), directory_holds l (i + 1) n (omega (arith, low, more)))) long)
        ∙ zeros

    at : (i : ℕ) (s : Slot) → i < n → IsAt l b i s → IsAt l front i s
    at i s low is = record {
      clear = clear i low is.clear (cases_eq (i + 1) n);
      slot = ap (slot_of l) (front_same b (directory_bytes l n) (slot_place l i) (slot_size l) (directory_holds l i n low) long) ∙ is.slot;
    }

-- One entry more behind the last, with zeros in the gap between them.
module _ (l : Layout) (n : ℕ) (b new : List ℕ) (slots : List Slot) (s : Slot) (long : length b ≡ directory_bytes l n) (size : length new ≡ slot_size l) (is : slot_of l new ≡ Some s) (e : slots_in l n b ≡ Some slots) where
  abbrev Gap : ℕ
  Gap = slot_place l n - directory_bytes l n

  abbrev all : List ℕ
  all = b ++ (replicate Gap 0 ++ new)

  gap_long : length b + length {A = ℕ} (replicate Gap 0) ≡ slot_place l n
  gap_long = omega (arith, long, length-replicate {A = ℕ} Gap 0, directory_before l n)

  last_slot : take (slot_size l) (drop (slot_place l n) all) ≡ new
  last_slot =
      ap (take (slot_size l)) (drop_further b (replicate Gap 0 ++ new) (slot_place l n) Gap (omega (arith, long, directory_before l n))
      ∙ drop_further (replicate Gap 0) new Gap 0 (omega (arith, length-replicate {A = ℕ} Gap 0)))
      ∙ take_all (slot_size l) new (omega (arith, size))

  past_end : has_zeros all (slot_place l n + slot_size l) (slot_place l (n + 1)) ≡ true
  past_end = ap (λ xs. are_zeros (take (slot_place l (n + 1) - (slot_place l n + slot_size l)) xs))
      (drop_all (slot_place l n + slot_size l) all (omega (arith, length-append b (replicate Gap 0 ++ new), length-append (replicate Gap 0) new, gap_long, size)))
      ∙ no_zeros (slot_place l (n + 1) - (slot_place l n + slot_size l))
    where
      no_zeros : (m : ℕ) → are_zeros (take m []) ≡ true
      no_zeros zero = refl
      no_zeros (suc m) = refl

  old_at : (i : ℕ) (t : Slot) → i < n → IsAt l b i t → IsAt l all i t
  old_at i t low at = record {
    clear = by (cases_eq (i + 1) n);
    slot = ap (slot_of l) (front_of b (replicate Gap 0 ++ new) (slot_place l i) (slot_size l) (omega (arith, long, directory_holds l i n low))) ∙ at.slot;
  }
    where
      by : ((i + 1 ≡ n) ⊎ (i + 1 ≡ n → ⊥)) → has_zeros all (slot_place l i + slot_size l) (slot_place l (i + 1)) ≡ true
      by (inl last) =
          ap are_zeros (ap (take (slot_place l (i + 1) - (slot_place l i + slot_size l))) (drop_further b (replicate Gap 0 ++ new) (slot_place l i + slot_size l) 0 (omega (arith, long, directory_ends l i, ap (directory_bytes l) last)))
          ∙ take_at (replicate Gap 0) new (slot_place l (i + 1) - (slot_place l i + slot_size l)) (omega (arith, length-replicate {A = ℕ} Gap 0, directory_ends l i, ap (directory_bytes l) last, ap (slot_place l) last)))
          ∙ zeros_are Gap
      by (inr more) =
          ap are_zeros (front_of b (replicate Gap 0 ++ new) (slot_place l i + slot_size l) (slot_place l (i + 1) - (slot_place l i + slot_size l)) (omega (arith, long, slot_apart l i (i + 1) (omega arith), slot_apart l (i + 1) (i + 2) (omega arith), directory_holds l (i + 1) n (omega (arith, low, more)))))
          ∙ at.clear

  -- it is read behind the others
  pub joins : slots_in l (n + 1) all ≡ Some (slots ++ s ∷ [])
  joins = read_by_each l (n + 1) all (slots ++ s ∷ []) (omega (arith, length_push slots s, count)) (λ i d lo. by i d lo (cases_eq i n))
    where
      count : length slots ≡ n
      count = count_read l n b slots e

      by : (i : ℕ) (d : Slot) → i < n + 1 → ((i ≡ n) ⊎ (i ≡ n → ⊥)) → IsAt l all i (slice_index_or (slots ++ s ∷ []) i d)
      by i d lo (inl last) =
          subst (IsAt l all i) (sym (get_or_push slots s d i (count ∙ sym last)))
          (subst (λ (k : ℕ). IsAt l all k s) (sym last) (record { clear = past_end; slot = ap (slot_of l) last_slot ∙ is }))
      by i d lo (inr apart) =
          subst (IsAt l all i) (sym (get_or_append_left slots (s ∷ []) d i (omega (arith, count, lo, apart))))
          (old_at i (slice_index_or slots i d) (omega (arith, lo, apart)) (each_read l n b slots i d e (omega (arith, lo, apart))))

pub each_slot : (l : Layout) (n : ℕ) (b : List ℕ) (slots : List Slot) (i : ℕ) (s : Slot) → slots_in l n b ≡ Some slots → slice_get slots i ≡ Some s
    → slot_of l (take (slot_size l) (drop (slot_place l i) b)) ≡ Some s
each_slot l n b slots i s e at =
    (each_read l n b slots i s e (omega (arith, slice_get_within slots i s at, count_read l n b slots e))).slot ∙ ap (λ (x : Slot). Some x) (get_or_from_slice_get slots i s s at)

-- zeros between the places of the slots
pub each_gap : (l : Layout) (n : ℕ) (b : List ℕ) (slots : List Slot) (i : ℕ) → slots_in l n b ≡ Some slots → i < n
    → has_zeros b (slot_place l i + slot_size l) (slot_place l (i + 1)) ≡ true
each_gap l n b slots i e low = (each_read l n b slots i (record { node = 0; name = [] }) e low).clear

pub spelled_length : (l : Layout) (s : Slot) → IsLawful l s → length (slot_spelling l s) ≡ slot_size l
spelled_length l s lawful = spelling_length l s lawful.short
