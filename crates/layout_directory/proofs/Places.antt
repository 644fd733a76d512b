-- The place of a name among the entries, looked for from the front.
use Rattle.std.proofs.Common.{◌+◌, ◌*◌, ◌≡◌, ◌≢◌, ◌<◌, ◌≤◌, ◌⊎◌, inl, inr, refl, [], ℕ, true, false, cond, List, length, drop, slice_index_or, Option, Some, None, sym, ◌∙◌, ap, arith, bytes_eq, nat_lt}
use Rattle.std.proofs.lemmas.Bool.{cond-true, cond-false, lt-ltb, le-ltb, cases_eq, cases_lt, both_ways}
use Rattle.std.proofs.lemmas.Slice.Eq.{bytes_eq-Decides}
use Rattle.std.proofs.lemmas.List.{length-take-le, length-drop}
use Rattle.std.proofs.lemmas.Option.{get_or_from_slice_get, slice_get-get_or}
use Rattle.std.proofs.lemmas.List.Sums.{position_or_len_is, fails_before_first, passes_at_first}
use Rattle.std.specs.List.{All, concat, position_or_len, slice_get}
use Rattle.base_types.specs.declared.layout.Layout.{Layout}
use Rattle.base_types.specs.Layouts.{slot_size, slot_place}
use Rattle.layout_bytes.specs.Slot.{slot_of}
use Rattle.layout_directory.specs.Slots.{Slot}
use Rattle.layout_directory.specs.Directory.{slot_at, has_name, ReadAs, IsFirstNamed, place_of}
use Rattle.layout_directory.proofs.Written.{AreWhole, joined_length}
use Rattle.layout_directory.proofs.Entries.{name_test, place_room}

-- the bytes of an entry are those of a slot
pub slot_length : (l : Layout) (blocks : List (List ℕ)) (i : ℕ) → AreWhole blocks → slot_place l i + slot_size l ≤ 1024 * length blocks → length (slot_at l i blocks) ≡ slot_size l
slot_length l blocks i whole within =
    length-take-le (slot_size l) (drop (slot_place l i) (concat blocks)) (omega (arith, within, length-drop (slot_place l i) (concat blocks), joined_length blocks whole))

-- the bytes of an entry have the name exactly where the entry has it
pub entry_test : (l : Layout) (blocks : List (List ℕ)) (i : ℕ) (slots : List Slot) (d : Slot) (slot name : List ℕ) → AreWhole blocks → slot ≡ slot_at l i blocks → i < length slots
    → ReadAs l (concat blocks) slots
    → has_name slot name ≡ bytes_eq (slice_index_or slots i d).name name
entry_test l blocks i slots d slot name whole is low e =
    let reads = e i (slice_index_or slots i d) (slice_get-get_or slots i d low) in
    name_test l slot name (slice_index_or slots i d) (ap length is ∙ slot_length l blocks i whole (place_room l blocks i (slice_index_or slots i d) whole reads))
    (ap (slot_of l) is ∙ reads)

-- the place that a count of entries before the first stands for
abbrev place_from : List Slot → ℕ → Option ℕ
place_from slots q = cond (nat_lt q (length slots)) (Some q) None

-- no entry before it has the name, and it has
pub place_is : (name : List ℕ) (slots : List Slot) (i : ℕ) (d : Slot) → i < length slots → ((k : ℕ) → k < i → bytes_eq (slice_index_or slots k d).name name ≡ false)
    → bytes_eq (slice_index_or slots i d).name name ≡ true → Some i ≡ place_of name slots
place_is name slots i d low before here =
    sym (ap (place_from slots) (position_or_len_is (λ (s : Slot). bytes_eq s.name name) slots i d (omega arith) before (λ _. here)) ∙ cond-true _ _ _ (lt-ltb i (length slots) low))

-- no entry has the name
pub place_is_none : (name : List ℕ) (slots : List Slot) (d : Slot) → ((k : ℕ) → k < length slots → bytes_eq (slice_index_or slots k d).name name ≡ false)
    → None ≡ place_of name slots
place_is_none name slots d before =
    sym (ap (place_from slots) (position_or_len_is (λ (s : Slot). bytes_eq s.name name) slots (length slots) d (omega arith) before (λ low. absurd (omega arith)))
    ∙ cond-false _ _ _ (le-ltb (length slots) (length slots) (omega arith)))

-- one more place whose bytes don't have the name
pub none_yet : (l : Layout) (blocks : List (List ℕ)) (name : List ℕ) (i : ℕ) → ((k : ℕ) → k < i → has_name (slot_at l k blocks) name ≡ false)
    → has_name (slot_at l i blocks) name ≡ false → (k : ℕ) → k < i + 1 → has_name (slot_at l k blocks) name ≡ false
none_yet l blocks name i before here k low = by (cases_eq k i)
  where
    by : ((k ≡ i) ⊎ (k ≡ i → ⊥)) → has_name (slot_at l k blocks) name ≡ false
    by (inl same) = ap (λ j. has_name (slot_at l j blocks) name) same ∙ here
    by (inr apart) = before k (omega arith)

blank : Slot
blank = record { node = 0; name = [] }

-- where each entry reads as a slot, the first place whose bytes have the name is that of the first entry with it
pub named_is : (l : Layout) (entries : ℕ) (blocks : List (List ℕ)) (name : List ℕ) (p : Option ℕ) (slots : List Slot) → AreWhole blocks → IsFirstNamed l entries blocks name p
    → length slots ≡ entries → ReadAs l (concat blocks) slots → p ≡ place_of name slots
named_is l entries blocks name None slots whole none count e =
    place_is_none name slots blank
    (λ k low. sym (entry_test l blocks k slots blank (slot_at l k blocks) name whole refl low e) ∙ none k (omega (arith, count, low)))
named_is l entries blocks name (Some p) slots whole is count e =
    place_is name slots p blank (omega (arith, count, is.0))
    (λ k low. sym (entry_test l blocks k slots blank (slot_at l k blocks) name whole refl (omega (arith, count, low, is.0)) e) ∙ is.2 k low)
    (sym (entry_test l blocks p slots blank (slot_at l p blocks) name whole refl (omega (arith, count, is.0)) e) ∙ is.1)

-- where there is a place, it is within the entries and counts those before the first with the name
place_counts : (name : List ℕ) (slots : List Slot) (i : ℕ) → place_of name slots ≡ Some i
    → (position_or_len (λ (s : Slot). bytes_eq s.name name) slots < length slots) × (position_or_len (λ (s : Slot). bytes_eq s.name name) slots ≡ i)
place_counts name slots i e = by (cases_lt (position_or_len (λ (s : Slot). bytes_eq s.name name) slots) (length slots))
  where
    count : ℕ
    count = position_or_len (λ (s : Slot). bytes_eq s.name name) slots

    by : ((count < length slots) ⊎ (length slots ≤ count)) → (count < length slots) × (count ≡ i)
    by (inl low) =
        let both : Some count ≡ Some i = sym (cond-true _ _ _ (lt-ltb count (length slots) low)) ∙ e in
        (low, cc)
    by (inr high) =
        let both : None ≡ Some i = sym (cond-false {A = Option ℕ} _ (Some count) None (le-ltb count (length slots) high)) ∙ e in
        cc

-- the entry at the place has the name
pub there : (name : List ℕ) (slots : List Slot) (i : ℕ) (s : Slot) → place_of name slots ≡ Some i → slice_get slots i ≡ Some s → s.name ≡ name
there name slots i s e is =
    let at = place_counts name slots i e in
    let test = passes_at_first (λ (r : Slot). bytes_eq r.name name) slots s at.0 in
    (bytes_eq-Decides s.name name).0
    (sym (ap (λ (r : Slot). bytes_eq r.name name) (ap (λ k. slice_index_or slots k s) at.1 ∙ get_or_from_slice_get slots i s s is)) ∙ test)

-- and none before it has
pub first : (name : List ℕ) (slots : List Slot) (i k : ℕ) (s : Slot) → place_of name slots ≡ Some i → k < i → slice_get slots k ≡ Some s → s.name ≢ name
first name slots i k s e low is same =
    let at = place_counts name slots i e in
    let test = fails_before_first (λ (r : Slot). bytes_eq r.name name) slots k s (omega arith) in
    both_ways (bytes_eq s.name name) (sym (ap (λ (r : Slot). bytes_eq r.name name) (get_or_from_slice_get slots k s s is)) ∙ test) ((bytes_eq-Decides s.name name).1 same)

-- where there is none, no entry has the name
pub missing : (name : List ℕ) (slots : List Slot) → place_of name slots ≡ None → All (λ s. s.name ≢ name) slots
missing name slots e k d low same = by (cases_lt (position_or_len (λ (s : Slot). bytes_eq s.name name) slots) (length slots))
  where
    count : ℕ
    count = position_or_len (λ (s : Slot). bytes_eq s.name name) slots

    by : ((count < length slots) ⊎ (length slots ≤ count)) → ⊥
    by (inl within) =
        let both : Some count ≡ None = sym (cond-true {A = Option ℕ} _ (Some count) None (lt-ltb count (length slots) within)) ∙ e in
        cc
    by (inr high) =
        both_ways (bytes_eq (slice_index_or slots k d).name name) (fails_before_first (λ (r : Slot). bytes_eq r.name name) slots k d (omega arith))
        ((bytes_eq-Decides (slice_index_or slots k d).name name).1 same)
