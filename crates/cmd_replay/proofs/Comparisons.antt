-- What a comparison with a text says of the bytes that came.
use Rattle.std.proofs.Common.{◌≡◌, ℕ, zero, suc, ◌+◌, ◌<◌, ◌≤◌, Bool, true, false, List, [], ◌∷◌, ◌++◌, length, take, drop, slice_get, slice_index_or, Option, Some, None, bytes_eq, refl, sym, ◌∙◌, ap, subst, arith, append_assoc, take_all, ◌==◌}
use Rattle.std.specs.Prelude.{is_some}
use Rattle.std.proofs.Math.Seq.{take-add}
use Rattle.std.proofs.lemmas.Bool.{both_ways, false_from_ne_true, eqb-true, eq-eqb}
use Rattle.std.proofs.lemmas.List.{append-nil, length-take-le}
use Rattle.std.proofs.lemmas.Slice.Eq.{bytes_eq-Decides}
use Rattle.std.proofs.lemmas.Option.{same_Some}
use Rattle.cmd_session.specs.Shared.{get_behind}
use Rattle.cmd_replay.specs.Comparing.{ComparingState, IsComparing, Differs, FailsBehind, byte_of, came, taken_by}
use Rattle.cmd_replay.proofs.Lists.{get_of_take, same_behind}

-- bytes that come next are the next ones of the text
pub next_came : (text piece : List ℕ) (done : ℕ) → bytes_eq (take (length piece) (drop done text)) piece ≡ true → take (done + length piece) text ≡ take done text ++ piece
next_came text piece done h = take-add done (length piece) text ∙ ap (λ (l : List ℕ). take done text ++ l) ((bytes_eq-Decides (take (length piece) (drop done text)) piece).0 h)

-- a sink that took no byte but those of the text takes these too
pub takes_more : (text piece : List ℕ) (done now faults : ℕ) (other : Option ℕ) → is_some other ≡ false → take now text ≡ take done text ++ piece
    → taken_by (record { text = text; done = now; other = other; faults = faults }) ≡ taken_by (record { text = text; done = done; other = other; faults = faults }) ++ piece
takes_more text piece done now faults None none is =
    ap (λ (l : List ℕ). length text ∷ (text ++ l)) (append-nil (take now text) ∙ is ∙ ap (λ (l : List ℕ). l ++ piece) (sym (append-nil (take done text))))
    ∙ ap (λ (l : List ℕ). length text ∷ l) (sym (append_assoc text (take done text ++ []) piece))
takes_more text piece done now faults (Some b) none is = cc none

-- the first of some bytes
pub first_one : (bytes : List ℕ) → 0 < length bytes → take 1 bytes ≡ slice_index_or bytes 0 0 ∷ []
first_one [] h = absurd (omega (arith, h))
first_one (b ∷ bytes) h = refl

-- no bytes always come next
pub some_differ : (text bytes : List ℕ) (done : ℕ) → bytes_eq (take (length bytes) (drop done text)) bytes ≡ false → 0 < length bytes
some_differ text [] done h = cc h
some_differ text (b ∷ bytes) done h = omega arith

-- where the byte stood there, it came next
stands_next : (text : List ℕ) (done b : ℕ) → slice_get text done ≡ Some b → take 1 (drop done text) ≡ b ∷ []
stands_next [] done b is = cc is
stands_next (x ∷ text) zero b is = ap (λ (y : ℕ). y ∷ []) (same_Some x b is)
stands_next (x ∷ text) (suc done) b is = stands_next text done b is

pub first_differs : (text bytes : List ℕ) (done : ℕ) → 0 < length bytes → bytes_eq (take (length (take 1 bytes)) (drop done text)) (take 1 bytes) ≡ false
    → slice_get text done ≡ Some (slice_index_or bytes 0 0) → ⊥
first_differs text bytes done some h is =
    let one = first_one bytes some in
    both_ways _ h ((bytes_eq-Decides _ _).1 (ap (λ (l : List ℕ). take (length l) (drop done text)) one ∙ stands_next text done (slice_index_or bytes 0 0) is ∙ sym one))

-- Behind a whole listing: what came is the listing, and the text is the one that was given.
pub whole_came : (text listed : List ℕ) (s : ComparingState) → taken_by s ≡ taken_by (record { text = text; done = 0; other = None; faults = 0 }) ++ listed → (s.text ≡ text) × (came s ≡ listed)
whole_came text listed s is =
    let parts = same_behind s.text (text ++ []) (came s) listed (same_Some _ _ (ap (λ (l : List ℕ). slice_get l 0) is) ∙ ap length (sym (append-nil text))) (ap (drop 1) is) in
    (parts.0 ∙ append-nil text, parts.1)

pub whole_tells : (text listed : List ℕ) (s : ComparingState) → taken_by s ≡ taken_by (record { text = text; done = 0; other = None; faults = 0 }) ++ listed → bytes_eq (came s) s.text ≡ bytes_eq listed text
whole_tells text listed s is =
    let parts = whole_came text listed s is in
    ap (λ (l : List ℕ). bytes_eq l s.text) parts.1 ∙ ap (λ (l : List ℕ). bytes_eq listed l) parts.0

-- behind a byte that differs the front of a listing isn't one of the text
front_differs : (text listed : List ℕ) (n done b : ℕ) → done ≤ length text → (slice_get text done ≡ Some b → ⊥) → take done text ++ b ∷ [] ≡ take n listed → listed ≡ text → ⊥
front_differs text listed n done b within differs is same =
    differs (get_of_take n text done b
    (ap (λ (l : List ℕ). slice_get l done) (ap (take n) (sym same) ∙ sym is)
    ∙ subst (λ (i : ℕ). slice_get (take done text ++ b ∷ []) i ≡ Some b) (length-take-le done text within) (get_behind (take done text) b [])))

pub broken_tells : (text listed : List ℕ) (n : ℕ) (s : ComparingState) → IsComparing s.text s.done s.other s.faults → 1 ≤ s.faults
    → taken_by s ≡ taken_by (record { text = text; done = 0; other = None; faults = 0 }) ++ take n listed → false ≡ bytes_eq listed text
broken_tells text listed n s is faults took = go s.other refl
  where
    parts : (s.text ≡ text) × (came s ≡ take n listed)
    parts = whole_came text (take n listed) s took

    go : (o : Option ℕ) → s.other ≡ o → false ≡ bytes_eq listed text
    go None e = absurd (no_faults (subst (λ (other : Option ℕ). FailsBehind s.faults other) e is.fails))
      where
        no_faults : s.faults ≡ 0 → ⊥
        no_faults none = omega (arith, none, faults)
    go (Some b) e = sym (false_from_ne_true (bytes_eq listed text) (λ h. front_differs s.text listed n s.done b is.within (subst (λ (other : Option ℕ). Differs s.text s.done other) e is.differs) (ap (λ (other : Option ℕ). take s.done s.text ++ byte_of other) (sym e) ∙ parts.1) ((bytes_eq-Decides listed text).0 h ∙ sym parts.0)))

-- two tests that imply each other
pub same_tests : (a b : Bool) → (a ≡ true → b ≡ true) → (b ≡ true → a ≡ true) → a ≡ b
same_tests true b to back = sym (to refl)
same_tests false true to back = back refl
same_tests false false to back = refl

-- all of the text came where as many bytes did, and none that differs
pub whole_where_none : (s : ComparingState) → s.other ≡ None → s.done ≤ length s.text → (s.done == length s.text) ≡ bytes_eq (came s) s.text
whole_where_none s none within = same_tests (s.done == length s.text) (bytes_eq (came s) s.text)
    (λ h. (bytes_eq-Decides (came s) s.text).1 (is ∙ take_all s.done s.text (omega (arith, eqb-true s.done (length s.text) h))))
    (λ h. eq-eqb s.done (length s.text) (sym (length-take-le s.done s.text within) ∙ ap length (sym is ∙ (bytes_eq-Decides (came s) s.text).0 h)))
  where
    is : came s ≡ take s.done s.text
    is = ap (λ (other : Option ℕ). take s.done s.text ++ byte_of other) none ∙ append-nil (take s.done s.text)

pub not_where_some : (s : ComparingState) (b : ℕ) → s.other ≡ Some b → IsComparing s.text s.done s.other s.faults → false ≡ bytes_eq (came s) s.text
not_where_some s b some is = sym (false_from_ne_true (bytes_eq (came s) s.text) (λ h.
    subst (λ (other : Option ℕ). Differs s.text s.done other) some is.differs
    (ap (λ (l : List ℕ). slice_get l s.done) (sym ((bytes_eq-Decides (came s) s.text).0 h) ∙ ap (λ (other : Option ℕ). take s.done s.text ++ byte_of other) some)
    ∙ subst (λ (i : ℕ). slice_get (take s.done s.text ++ b ∷ []) i ≡ Some b) (length-take-le s.done s.text is.within) (get_behind (take s.done s.text) b []))))

-- one byte of some
pub one_byte : (bytes : List ℕ) → 0 < length bytes → length (take 1 bytes) ≡ 1
one_byte bytes some = ap length (first_one bytes some)

pub all_bytes : (bytes : List ℕ) → take (length bytes) bytes ≡ bytes
all_bytes bytes = take_all (length bytes) bytes (omega arith)
