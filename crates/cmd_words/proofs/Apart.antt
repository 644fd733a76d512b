-- Texts with their names: which lists have a name twice, and which rows `clap` keeps of one that has none.
use Rattle.std.proofs.Common.{◌≡◌, ◌||◌, ◌&&◌, Bool, true, false, List, [], ◌∷◌, ◌++◌, map, refl, sym, ap, ◌∙◌, bytes_eq}
use Rattle.std.specs.Prelude.{not}
use Rattle.std.proofs.lemmas.Bool.{and_parts, or_parts, false≢true, not-true, or_right, and_right}
use Rattle.std.proofs.lemmas.Slice.Eq.{bytes_eq-Decides}
use Rattle.clap.specs.Walk.{Row, Text, has_row, with_values, without}
use Rattle.clap.specs.declared.builder.value_parser.Reading.TheVariants.{AsWritten}
use Rattle.clap.specs.declared.parser.matches.ValueSource.TheVariants.{CommandLine}
use Rattle.cmd_words.specs.Program.{kept}
use Rattle.cmd_words.specs.Words.{Named, has_name, are_apart}

-- ---- tests

eq_sym : (a b : Text) → bytes_eq a b ≡ true → bytes_eq b a ≡ true
eq_sym a b h = (bytes_eq-Decides b a).1 (sym ((bytes_eq-Decides a b).0 h))

ne_sym : (a b : Text) → bytes_eq a b ≡ false → bytes_eq b a ≡ false
ne_sym a b h = elim (bytes_eq b a) as (λ c. bytes_eq b a ≡ c → c ≡ false) [ true ↦ λ e. absurd (false≢true (sym h ∙ eq_sym b a e)) | false ↦ λ e. refl ] refl

-- ---- names

pub has_there : (u t : Named) (us rest : List Named) → bytes_eq t.0 u.0 ≡ true → has_name u.0 (us ++ t ∷ rest) ≡ true
has_there u t [] rest e = rw e refl
has_there u t (v ∷ us) rest e = rw (has_there u t us rest e) (or_right (bytes_eq v.0 u.0) true refl)

has_fresh : (name : Text) (t : Named) (us : List Named) → has_name name us ≡ false → bytes_eq t.0 name ≡ false → has_name name (us ++ t ∷ []) ≡ false
has_fresh name t [] h e = rw e refl
has_fresh name t (v ∷ us) h e =
    let parts = or_parts (bytes_eq v.0 name) (has_name name us) h in
    rw (parts.0, has_fresh name t us parts.1 e) refl

-- a text whose name stands before
pub apart_repeat : (t : Named) (us rest : List Named) → has_name t.0 us ≡ true → are_apart (us ++ t ∷ rest) ≡ false
apart_repeat t [] rest has = absurd (false≢true has)
apart_repeat t (u ∷ us) rest has = go (λ h. apart_repeat t us rest h) (bytes_eq u.0 t.0) refl has
  where
    go : (has_name t.0 us ≡ true → are_apart (us ++ t ∷ rest) ≡ false) → (b : Bool) → bytes_eq u.0 t.0 ≡ b → (b || has_name t.0 us) ≡ true
        → (not (has_name u.0 (us ++ t ∷ rest)) && are_apart (us ++ t ∷ rest)) ≡ false
    go later true e h = rw (has_there u t us rest (eq_sym u.0 t.0 e)) refl
    go later false e h = rw (later h) (and_right (not (has_name u.0 (us ++ t ∷ rest))) false refl)

-- and one whose name doesn't
pub apart_more : (t : Named) (us : List Named) → are_apart us ≡ true → has_name t.0 us ≡ false → are_apart (us ++ t ∷ []) ≡ true
apart_more t [] apart fresh = refl
apart_more t (u ∷ us) apart fresh =
    let here = or_parts (bytes_eq u.0 t.0) (has_name t.0 us) fresh in
    let parts = and_parts (not (has_name u.0 us)) (are_apart us) apart in
    rw (has_fresh u.0 t us (not-true _ parts.0) (ne_sym u.0 t.0 here.0), apart_more t us parts.1 here.1) refl

-- ---- what `clap` keeps

abbrev pub rows : List Named → List Row
rows texts = map kept texts

pub has_row_is : (name : Text) (texts : List Named) → has_row name (rows texts) ≡ has_name name texts
has_row_is name [] = refl
has_row_is name (t ∷ texts) = ap (λ b. bytes_eq t.0 name || b) (has_row_is name texts)

pub without_fresh : (name : Text) (texts : List Named) → has_name name texts ≡ false → without name (rows texts) ≡ rows texts
without_fresh name [] fresh = refl
without_fresh name (t ∷ texts) fresh =
    let parts = or_parts (bytes_eq t.0 name) (has_name name texts) fresh in
    rw parts.0 (ap (λ rs. kept t ∷ rs) (without_fresh name texts parts.1))

pub with_fresh : (name word : Text) (texts : List Named) → has_name name texts ≡ false
    → with_values name AsWritten CommandLine (word ∷ []) (rows texts) ≡ rows (texts ++ (name, word) ∷ [])
with_fresh name word [] fresh = refl
with_fresh name word (t ∷ texts) fresh =
    let parts = or_parts (bytes_eq t.0 name) (has_name name texts) fresh in
    rw parts.0 (ap (λ rs. kept t ∷ rs) (with_fresh name word texts parts.1))
