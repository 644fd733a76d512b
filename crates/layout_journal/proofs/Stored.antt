-- A payload that is stored as it has to be reads back, and begins as one of its kind does.
use Rattle.std.proofs.Common.{◌≡◌, ℕ, Bool, true, false, not, if◌then◌else◌, List, [], ◌∷◌, take, drop, refl, ap}
use Rattle.std.proofs.lemmas.Slice.Eq.{bytes_eq-Decides}
use Rattle.layout_journal.specs.declared.entry.EntryKind.TheVariants.{Payload, Escaped}
use Rattle.layout_journal.specs.Layout.{unescaped, is_stored}
use Rattle.layout_journal.specs.Spelling.{begins_tag, stored_of, stored_kind}

pub stored_reads : (x : List ℕ) → unescaped (stored_kind x) (stored_of x) ≡ x
stored_reads x = by (begins_tag x) refl
  where
    three : (x : List ℕ) → take 3 x ≡ 79 ∷ 80 ∷ 84 ∷ [] → 79 ∷ drop 1 x ≡ x
    three [] e = cc
    three (a ∷ x) e = cc

    by : (v : Bool) → begins_tag x ≡ v → unescaped (if v then Escaped else Payload) (if v then 0 ∷ drop 1 x else x) ≡ x
    by true e = three x ((bytes_eq-Decides (take 3 x) (79 ∷ 80 ∷ 84 ∷ [])).0 e)
    by false e = refl

pub stored_is : (x : List ℕ) → is_stored (stored_kind x) (stored_of x) ≡ true
unfolding is_stored
stored_is x = by (begins_tag x) refl
  where
    three : (x : List ℕ) → take 3 x ≡ 79 ∷ 80 ∷ 84 ∷ [] → take 3 (0 ∷ drop 1 x) ≡ 0 ∷ 80 ∷ 84 ∷ []
    three [] e = cc
    three (a ∷ []) e = cc
    three (a ∷ b ∷ []) e = cc
    three (a ∷ b ∷ d ∷ x) e = cc

    by : (v : Bool) → begins_tag x ≡ v → is_stored (if v then Escaped else Payload) (if v then 0 ∷ drop 1 x else x) ≡ true
    by true e = (bytes_eq-Decides (take 3 (0 ∷ drop 1 x)) (0 ∷ 80 ∷ 84 ∷ [])).1 (three x ((bytes_eq-Decides (take 3 x) (79 ∷ 80 ∷ 84 ∷ [])).0 e))
    by false e = ap not e
