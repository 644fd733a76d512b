-- Segments in a row: the last one, and names that none of them has.
use Rattle.std.proofs.Common.{◌≡◌, ◌⊎◌, inl, inr, ⊎_elim, ℕ, ◌+◌, ◌-◌, ◌^◌, ◌<◌, ◌≤◌, List, [], ◌∷◌, ◌++◌, length, map, slice_get, Some, refl, sym, ◌∙◌, ap, subst, arith}
use Rattle.std.proofs.lemmas.List.{length-append, map-append}
use Rattle.lang_log.specs.Names.{segment_name}
use Rattle.lang_log.specs.Spelling.{spellings}
use Rattle.lang_log.specs.Segments.{AreInRow, OneIsNamed, Segment, appends_in}
use Rattle.lang_log.specs.Log.{IsMadeOf, Log, next_of}
use Rattle.fs_log.specs.Open.{size_of}

-- the last of some segments, and those before it
pub record EndsWith (segments : List Segment) : Type 0 where
  pub before : List Segment
  pub last : Segment
  pub is : segments ≡ before ++ last ∷ []

pub ending : (segments : List Segment) → 0 < length segments → EndsWith segments
ending [] some = absurd (omega (arith, some))
ending (s ∷ []) some = record { before = []; last = s; is = refl }
ending (s ∷ r ∷ rest) some = let e = ending (r ∷ rest) (omega arith) in record { before = s ∷ e.before; last = e.last; is = ap (λ (q : List Segment). s ∷ q) e.is }

pub size_last : (before : List Segment) (s : Segment) → size_of (before ++ s ∷ []) ≡ length (spellings s.appends)
size_last [] s = refl
size_last (q ∷ []) s = refl
size_last (q ∷ r ∷ before) s = size_last (r ∷ before) s

get_end : (xs : List ℕ) (x : ℕ) → slice_get (xs ++ x ∷ []) (length xs) ≡ Some x
get_end [] x = refl
get_end (y ∷ xs) x = get_end xs x

-- the last of the numbers with which they begin is that of the last segment
pub first_last : (before : List Segment) (s : Segment) → slice_get (map (λ (q : Segment). q.first) (before ++ s ∷ [])) (length (map (λ (q : Segment). q.first) (before ++ s ∷ [])) - 1) ≡ Some s.first
first_last before s =
    let firsts = map (λ (q : Segment). q.first) before in
    let is : map (λ (q : Segment). q.first) (before ++ s ∷ []) ≡ firsts ++ s.first ∷ [] = map-append (λ (q : Segment). q.first) before (s ∷ []) in
    let count : length (firsts ++ s.first ∷ []) - 1 ≡ length firsts = omega (arith, length-append firsts (s.first ∷ [])) in
    subst (λ (numbers : List ℕ). slice_get numbers (length numbers - 1) ≡ Some s.first) (sym is)
    (subst (λ (n : ℕ). slice_get (firsts ++ s.first ∷ []) n ≡ Some s.first) (sym count) (get_end firsts s.first))

-- what takes bytes has appends
some_append : (appends : List (List ℕ)) → 0 < length (spellings appends) → 0 < length appends
some_append [] some = absurd (omega (arith, some))
some_append (x ∷ appends) some = omega arith

some_appends : (segments : List Segment) → 0 < size_of segments → 0 < length (appends_in segments)
some_appends [] some = absurd (omega (arith, some))
some_appends (s ∷ []) some = omega (arith, length-append s.appends [], some_append s.appends some)
some_appends (s ∷ r ∷ rest) some = omega (arith, length-append s.appends (appends_in (r ∷ rest)), some_appends (r ∷ rest) some)

-- no segment in a row has the name of the number behind them, where the last one has appends
module _ (apart : (n m : ℕ) → n < 2 ^ 32 → m < 2 ^ 32 → segment_name n ≡ segment_name m → n ≡ m) (m : ℕ) (low : m < 2 ^ 32) where
  unnamed : (n : ℕ) (segments : List Segment) → AreInRow n segments → 0 < size_of segments → m ≡ n + length (appends_in segments) → OneIsNamed segments (segment_name m) → ⊥
  unnamed n [] row some is named = named
  unnamed n (s ∷ []) row some is (inl same) =
      let more = some_appends (s ∷ []) some in
      absurd (omega (arith, apart m s.first low (omega (arith, row.0, is, low)) same, row.0, is, more))
  unnamed n (s ∷ []) row some is (inr named) = named
  unnamed n (s ∷ r ∷ rest) row some is (inl same) =
      let more = some_appends (s ∷ r ∷ rest) some in
      absurd (omega (arith, apart m s.first low (omega (arith, row.0, is, low)) same, row.0, is, more))
  unnamed n (s ∷ r ∷ rest) row some is (inr named) =
      unnamed (n + length s.appends) (r ∷ rest) row.1 some (omega (arith, is, length-append s.appends (appends_in (r ∷ rest)))) named

pub next_is_free : ((n m : ℕ) → n < 2 ^ 32 → m < 2 ^ 32 → segment_name n ≡ segment_name m → n ≡ m) → (segments : List Segment) (l : Log) → IsMadeOf segments l → (segments ≡ []) ⊎ (0 < size_of segments) → OneIsNamed segments (segment_name (next_of l)) → ⊥
next_is_free apart segments l made (inl none) named = subst (λ (q : List Segment). OneIsNamed q (segment_name (next_of l)) → ⊥) (sym none) (λ no. no) named
next_is_free apart segments l made (inr some) named = unnamed apart (next_of l) (omega (arith, made.within)) l.low segments made.row some (omega (arith, ap (λ (q : List (List ℕ)). length q) made.appends)) named
