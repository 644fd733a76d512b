-- Lemmas on digits, and on lists of bytes that all pass a test, that crates above cite too. They add no meaning to the promises.
use Rattle.std.proofs.Common.{◌≡◌, ◌&&◌, ℕ, nat_le, nat_lt, not, Bool, true, List, [], ◌∷◌, length, refl, rules}
use Rattle.std.specs.Char.{is_ascii_digit}
use Rattle.std.specs.List.{list_all}
use Rattle.std.specs.Str.Parse.{digits_value}
use Rattle.std.proofs.lemmas.Bool.{and_parts}
use Rattle.std.proofs.lemmas.Str.Parse.{IsNumeralModel, numerals_by_value}
use Rattle.base_types.specs.Name.{is_name, is_name_byte, is_dots, is_snapshot_name}

-- digits alone, as a model of numerals
pub own : IsNumeralModel (λ ds. list_all is_ascii_digit ds ≡ true) (digits_value 10)
own = numerals_by_value _ (search rules)

-- bytes that all pass a test pass a weaker one
pub weaker : (p q : ℕ → Bool) → ((b : ℕ) → p b ≡ true → q b ≡ true) → (xs : List ℕ) → list_all p xs ≡ true → list_all q xs ≡ true
weaker p q more [] h = refl
weaker p q more (x ∷ xs) h =
    let parts = and_parts (p x) (list_all p xs) h in
    rw (more x parts.0) (weaker p q more xs parts.1)

-- a name has bytes of names alone
pub name_bytes : (name : List ℕ) → is_name name ≡ true → list_all is_name_byte name ≡ true
name_bytes name h =
    let first = and_parts (nat_lt 0 (length name)) _ h in
    let second = and_parts (nat_le (length name) 255) _ first.1 in
    (and_parts (list_all is_name_byte name) (not (is_dots name)) second.1).0

-- the name of a snapshot is a name
pub snapshot_name : (name : List ℕ) → is_snapshot_name name ≡ true → is_name name ≡ true
snapshot_name name h = (and_parts (is_name name) (nat_le (length name) 59) h).0
