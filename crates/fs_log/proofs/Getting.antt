-- Which segment has the append of a number, and which append of it that is.
use Rattle.std.proofs.Common.{◌≡◌, ℕ, suc, ◌+◌, ◌-◌, ◌<◌, ◌≤◌, List, [], ◌∷◌, ◌++◌, length, map, take, drop, get_or, slice_get, Some, refl, sym, ◌∙◌, ap, subst, arith}
use Rattle.std.specs.List.{AllByRecursion}
use Rattle.std.proofs.lemmas.List.{take-append-drop}
use Rattle.std.proofs.Math.Seq.{drop-cons}
use Rattle.lang_tree.specs.Tree.{Tree}
use Rattle.lang_log.specs.Segments.{AreInRow, Segment}
use Rattle.lang_log.specs.Log.{IsLogOf, IsMadeOf, Log, next_of}
use Rattle.lang_log.specs.History.{History}
use Rattle.engine_blocks.specs.State.{State}
use Rattle.fs_log.specs.Keeping.{HoldsLog, Keeps}
use Rattle.fs_log.specs.Open.{Mirrors}
use Rattle.fs_log.specs.Reading.{HasAppend, HoldsSegment, IsLastUpto}
use Rattle.fs_log.proofs.Holding.{same_log}

-- the segment that begins with one of the numbers with which segments begin, and those behind it
record Begins (segments : List Segment) (first : ℕ) (behind : List ℕ) : Type 0 where
  before : List Segment
  one : Segment
  rest : List Segment
  is : segments ≡ before ++ one ∷ rest
  first_is : first ≡ one.first
  behind_is : behind ≡ map (λ (s : Segment). s.first) rest

same_head : (a b : ℕ) (xs ys : List ℕ) → a ∷ xs ≡ b ∷ ys → a ≡ b
same_head a b xs ys is = cc

same_rest : (a b : ℕ) (xs ys : List ℕ) → a ∷ xs ≡ b ∷ ys → xs ≡ ys
same_rest a b xs ys is = cc

begins_so : (segments : List Segment) (before : List ℕ) (first : ℕ) (behind : List ℕ) → map (λ (s : Segment). s.first) segments ≡ before ++ first ∷ behind → Begins segments first behind
begins_so [] [] first behind is = absurd cc
begins_so [] (n ∷ before) first behind is = absurd cc
begins_so (s ∷ segments) [] first behind is = record {
  before = [];
  one = s;
  rest = segments;
  is = refl;
  first_is = sym (same_head s.first first (map (λ (q : Segment). q.first) segments) behind is);
  behind_is = sym (same_rest s.first first (map (λ (q : Segment). q.first) segments) behind is);
}
begins_so (s ∷ segments) (n ∷ before) first behind is =
    let b = begins_so segments before first behind (same_rest s.first n (map (λ (q : Segment). q.first) segments) (before ++ first ∷ behind) is) in record {
      before = s ∷ b.before;
      one = b.one;
      rest = b.rest;
      is = ap (λ (q : List Segment). s ∷ q) b.is;
      first_is = b.first_is;
      behind_is = b.behind_is;
    }

row_next : (n : ℕ) (before : List Segment) (s r : Segment) (rest : List Segment) → AreInRow n (before ++ s ∷ r ∷ rest) → r.first ≡ s.first + length s.appends
row_next n [] s r rest row = omega (arith, row.0, row.1.0)
row_next n (q ∷ before) s r rest row = row_next (n + length q.appends) before s r rest row.1

module _ (lies : (before : List Segment) (s : Segment) (rest : List Segment) (l : Log) (n : ℕ) → IsMadeOf (before ++ s ∷ rest) l → s.first ≤ n → n < s.first + length s.appends → slice_get l.appends (n - l.low) ≡ slice_get s.appends (n - s.first))
    (ends : (before : List Segment) (s : Segment) (l : Log) → IsMadeOf (before ++ s ∷ []) l → next_of l ≡ s.first + length s.appends)
    (one : (t : Tree) (l k : Log) → IsLogOf t l → IsLogOf t k → l ≡ k) where
  within : (number : ℕ) (before : List Segment) (s : Segment) (rest : List Segment) (l : Log) → IsMadeOf (before ++ s ∷ rest) l → number < next_of l → AllByRecursion (λ n. number < n) (map (λ (q : Segment). q.first) rest) → number < s.first + length s.appends
  within number before s [] l made low greater = omega (arith, low, ends before s l made)
  within number before s (r ∷ rest) l made low greater = omega (arith, greater.0, row_next l.low before s r rest made.row)

  pub got : (state : State) (firsts : List ℕ) (size next number first : ℕ) (bytes : List ℕ) (h : History) → Mirrors state firsts size next → number < next → IsLastUpto number firsts first
      → ((s : Segment) → HoldsSegment s state → first ≡ s.first → slice_get s.appends (number - first) ≡ Some bytes) → Keeps h state → slice_get h.now.appends (number - h.now.low) ≡ Some bytes
  got state firsts size next number first bytes h m low last read keeps =
      let b = begins_so m.segments last.before first last.behind (sym m.firsts_are ∙ last.is) in
      let holds : HoldsLog (b.before ++ b.one ∷ b.rest) m.log state = subst (λ (q : List Segment). HoldsLog q m.log state) b.is m.holds in
      let above : number < b.one.first + length b.one.appends = within number b.before b.one b.rest m.log holds.made (omega (arith, low, m.next_is)) (subst (AllByRecursion (λ n. number < n)) b.behind_is last.greater) in
      let bytes_are : slice_get b.one.appends (number - b.one.first) ≡ Some bytes = subst (λ (n : ℕ). slice_get b.one.appends (number - n) ≡ Some bytes) b.first_is
      (read b.one (record { before = b.before; rest = b.rest; log = m.log; holds = holds }) b.first_is) in
      subst (λ (l : Log). slice_get l.appends (number - l.low) ≡ Some bytes) (sym (same_log one state m.segments m.log h m.holds keeps))
      (lies b.before b.one b.rest m.log number holds.made (omega (arith, last.low, b.first_is)) above ∙ bytes_are)

  -- the segment that has an append of the number
  pub has_append : (state : State) (firsts : List ℕ) (size next number first : ℕ) → Mirrors state firsts size next → number < next → IsLastUpto number firsts first → HasAppend first (number - first) state
  has_append state firsts size next number first m low last =
      let b = begins_so m.segments last.before first last.behind (sym m.firsts_are ∙ last.is) in
      let holds : HoldsLog (b.before ++ b.one ∷ b.rest) m.log state = subst (λ (q : List Segment). HoldsLog q m.log state) b.is m.holds in
      let above : number < b.one.first + length b.one.appends = within number b.before b.one b.rest m.log holds.made (omega (arith, low, m.next_is)) (subst (AllByRecursion (λ n. number < n)) b.behind_is last.greater) in
      record {
        segment = b.one;
        holds = record { before = b.before; rest = b.rest; log = m.log; holds = holds };
        begins = b.first_is;
        some = omega (arith, above, b.first_is, last.low);
      }

-- The search for the last number that isn't greater, from the end on.
module _ (number : ℕ) (numbers : List ℕ) (left k : ℕ) (is : left ≡ k + 1) (inside : left ≤ length numbers) (behind : AllByRecursion (λ n. number < n) (drop left numbers)) where
  from_here : drop k numbers ≡ get_or numbers k 0 ∷ drop left numbers
  from_here = let same : suc k ≡ left = omega (arith, is) in drop-cons numbers k 0 (omega (arith, is, inside)) ∙ ap (λ (n : ℕ). get_or numbers k 0 ∷ drop n numbers) same

  pub last_found : get_or numbers k 0 ≤ number → IsLastUpto number numbers (get_or numbers k 0)
  last_found low = record { before = take k numbers; behind = drop left numbers; is = sym (take-append-drop k numbers) ∙ ap (λ (q : List ℕ). take k numbers ++ q) from_here; low = low; greater = behind }

  pub none_yet : number < get_or numbers k 0 → AllByRecursion (λ n. number < n) (drop k numbers)
  none_yet greater = subst (AllByRecursion (λ n. number < n)) (sym from_here) (greater, behind)
