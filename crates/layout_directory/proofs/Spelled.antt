-- A slot's spelling reads as that slot, and what reads as a slot is its spelling.
use Rattle.std.proofs.Common.{◌+◌, ◌-◌, ◌≡◌, ◌<◌, ◌≤◌, ℕ, zero, suc, Bool, true, List, [], ◌∷◌, ◌++◌, length, take, drop, replicate, slice_index, Some, refl, sym, ◌∙◌, ap, ap₂, arith, take_all}
use Rattle.std.proofs.Math.Seq.{take-append_seam, drop-append_seam}
use Rattle.std.proofs.lemmas.List.{length-replicate, length-take-le, length-drop, length-append, drop-drop, take-append-drop}
use Rattle.std.proofs.lemmas.Bool.{and_from, and_parts, le-leb, leb-true}
use Rattle.std.proofs.lemmas.Nat.{le_bytes_4}
use Rattle.byteorder.specs.Endian.{little_bytes}
use Rattle.byteorder.specs.Numbers.{little_number-reads_back, little_from-lt}
use Rattle.base_types.specs.declared.layout.Layout.{Layout}
use Rattle.base_types.specs.Layouts.{longest_name, slot_size}
use Rattle.base_types.specs.LayoutLaws.{slot_size_is}
use Rattle.base_types.specs.Name.{is_name}
use Rattle.layout_bytes.specs.Bytes.{field, are_zeros, has_zeros, when, ZerosAreTold}
use Rattle.layout_directory.proofs.Fields.{when_parts, zeros_are}
use Rattle.layout_bytes.specs.Slot.{name_in, slot_of, slot_spelling}
use Rattle.layout_directory.specs.Slots.{Slot, IsLawful, IsSlot}

-- a spelling has as many bytes as a slot
pub spelling_length : (l : Layout) (s : Slot) → length s.name ≤ longest_name l → length (slot_spelling l s) ≡ slot_size l
spelling_length l s short =
    omega (arith, short, slot_size_is l, length-append s.name (replicate (slot_size l - 5 - length s.name) 0), length-replicate {A = ℕ} (slot_size l - 5 - length s.name) 0)

-- a slot of fields that are each another's is that one
slot_from : (s : Slot) (node : ℕ) (name : List ℕ) → node ≡ s.node → name ≡ s.name → ◌≡◌ {A = Slot} (record { node = node; name = name }) s
slot_from s node name n m = rw (n, m) refl

-- a lawful slot reads from its spelling
pub reads : (l : Layout) (s : Slot) → IsLawful l s → slot_of l (slot_spelling l s) ≡ Some s
unfolding slot_of
reads l s lawful =
    let b = slot_spelling l s in
    let short = lawful.short in
    let name : name_in b ≡ s.name = take-append_seam s.name (replicate (slot_size l - 5 - length s.name) 0) in
    let behind : drop (5 + length s.name) b ≡ replicate (slot_size l - 5 - length s.name) 0 =
    sym (drop-drop (length s.name) 5 b) ∙ drop-append_seam s.name (replicate (slot_size l - 5 - length s.name) 0) in
    let zeros : has_zeros b (5 + length s.name) (slot_size l) ≡ true =
    ap (λ xs. are_zeros (take (slot_size l - (5 + length s.name)) xs)) behind
    ∙ ap are_zeros (take_all (slot_size l - (5 + length s.name)) (replicate (slot_size l - 5 - length s.name) 0) (omega (arith, length-replicate {A = ℕ} (slot_size l - 5 - length s.name) 0)))
    ∙ zeros_are (slot_size l - 5 - length s.name) in
    let slot : Slot = record { node = field b 0 4; name = name_in b } in
    ap (λ (t : Bool). when t (Some slot)) (and_from _ _ (le-leb (length s.name) (longest_name l) short) (and_from _ _ (ap is_name name ∙ lawful.name) zeros))
    ∙ ap (λ (r : Slot). Some r) (slot_from s _ _ (little_number-reads_back 4 s.node (length s.name ∷ (s.name ++ replicate (slot_size l - 5 - length s.name) 0)) (omega (arith, lawful.node))) name)

-- a spelling has one slot
pub one : (l : Layout) (b : List ℕ) (s r : Slot) → IsSlot l b s → IsSlot l b r → s ≡ r
one l b s r is other =
    let p : Some s ≡ Some r = sym (reads l s is.lawful) ∙ ap (slot_of l) (sym is.spelled ∙ other.spelled) ∙ reads l r other.lawful in
    cc

-- the number in four bytes has these bytes
four : (a b c d : ℕ) (rest : List ℕ) → a < 256 → b < 256 → c < 256 → d < 256 → little_bytes 4 (field (a ∷ b ∷ c ∷ d ∷ rest) 0 4) ≡ a ∷ b ∷ c ∷ d ∷ []
four a b c d rest la lb lc ld =
    le_bytes_4 (a ∷ b ∷ c ∷ d ∷ []) (field (a ∷ b ∷ c ∷ d ∷ rest) 0 4) refl below (omega arith)
  where
    below : (i : ℕ) → slice_index (a ∷ b ∷ c ∷ d ∷ []) i < 256
    below zero = la
    below (suc zero) = lb
    below (suc (suc zero)) = lc
    below (suc (suc (suc zero))) = ld
    below (suc (suc (suc (suc i)))) = omega arith

-- the name and the zeros behind it are what is behind the length
named : ZerosAreTold → (n k : ℕ) (rest : List ℕ) → n ≤ k → length rest ≡ k → are_zeros (drop n rest) ≡ true
    → (n ∷ rest) ≡ length (take n rest) ∷ (take n rest ++ replicate (k - length (take n rest)) 0)
named told n k rest low len zeros =
    let size : length (take n rest) ≡ n = length-take-le n rest (omega arith) in
    let left : length (drop n rest) ≡ k - length (take n rest) = omega (arith, length-drop n rest, size, len) in
    ap₂ (λ (m : ℕ) (xs : List ℕ). m ∷ xs) (sym size)
    (sym (take-append-drop n rest) ∙ ap (λ xs. take n rest ++ xs) (told (drop n rest) zeros ∙ ap (λ m. replicate m 0) left))

-- what reads as a slot from as many bytes as a slot has is spelled so
pub spelled : ZerosAreTold → (l : Layout) (b : List ℕ) (s : Slot) → length b ≡ slot_size l → ((i : ℕ) → slice_index b i < 256) → slot_of l b ≡ Some s → IsSlot l b s
unfolding slot_of
spelled told l (a ∷ b ∷ c ∷ d ∷ n ∷ rest) s len below e =
    let all = a ∷ b ∷ c ∷ d ∷ n ∷ rest in
    let got = when_parts _ _ s e in
    let is : s ≡ record { node = field all 0 4; name = take n rest } = cc (got.1) in
    let tests = and_parts _ _ got.0 in
    let low : n ≤ longest_name l = leb-true n (longest_name l) tests.0 in
    let more = and_parts (is_name (take n rest)) (has_zeros all (5 + n) (slot_size l)) tests.1 in
    let size : length rest ≡ slot_size l - 5 = omega (arith, len) in
    let upto : n ≤ slot_size l - 5 = omega (arith, low, slot_size_is l) in
    let behind : take (slot_size l - (5 + n)) (drop (5 + n) all) ≡ drop n rest =
    ap (take (slot_size l - (5 + n))) (sym (drop-drop n 5 all)) ∙ take_all (slot_size l - (5 + n)) (drop n rest) (omega (arith, length-drop n rest, size)) in
    let zeros : are_zeros (drop n rest) ≡ true = sym (ap are_zeros behind) ∙ more.1 in
    let fits : n ≤ length rest = omega (arith, size, upto) in
    let short : length (take n rest) ≤ longest_name l = omega (arith, low, length-take-le n rest fits) in
    rw is (record {
      lawful = record { node = omega (arith, little_from-lt 0 4 all below); name = more.0; short = short };
      spelled = ap₂ ◌++◌ (sym (four a b c d (n ∷ rest) (below 0) (below 1) (below 2) (below 3))) (named told n (slot_size l - 5) rest upto size zeros);
    })
spelled told l [] s len below e = absurd (omega (arith, len, slot_size_is l))
spelled told l (a ∷ []) s len below e = absurd (omega (arith, len, slot_size_is l))
spelled told l (a ∷ b ∷ []) s len below e = absurd (omega (arith, len, slot_size_is l))
spelled told l (a ∷ b ∷ c ∷ []) s len below e = absurd (omega (arith, len, slot_size_is l))
spelled told l (a ∷ b ∷ c ∷ d ∷ []) s len below e = absurd (omega (arith, len, slot_size_is l))
