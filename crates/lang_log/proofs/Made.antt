-- Which log segments make, as they change.
use Rattle.std.proofs.Common.{◌≡◌, ℕ, zero, suc, ◌<◌, slice_get, ◌+◌, ◌-◌, ◌^◌, ◌≤◌, List, [], ◌∷◌, ◌++◌, length, drop, refl, sym, ap, ◌∙◌, arith, subst, append_assoc, append-nil}
use Rattle.std.proofs.lemmas.List.{length-append}
use Rattle.std.proofs.Math.Seq.{drop-append_seam}
use Rattle.lang_log.specs.Spelling.{AreShort}
use Rattle.lang_log.specs.Segments.{Segment, new_segment, AreInRow, appends_in, low_of}
use Rattle.lang_log.specs.Log.{Log, IsMadeOf, next_of, with_append, trimmed}
use Rattle.lang_log.proofs.Rows.{short_append, short_behind}

row_last : (n : ℕ) (before : List Segment) (s r : Segment) → r.first ≡ s.first → AreInRow n (before ++ s ∷ []) → AreInRow n (before ++ r ∷ [])
row_last n [] s r e h = (e ∙ h.0, tt)
row_last n (q ∷ before) s r e h = (h.0, row_last (n + length q.appends) before s r e h.1)

low_last : (before : List Segment) (s r : Segment) → r.first ≡ s.first → low_of (before ++ r ∷ []) ≡ low_of (before ++ s ∷ [])
low_last [] s r e = e
low_last (q ∷ before) s r e = refl

appends_last : (before : List Segment) (s r : Segment) (more : List (List ℕ)) → r.appends ≡ s.appends ++ more
    → appends_in (before ++ r ∷ []) ≡ appends_in (before ++ s ∷ []) ++ more
appends_last [] s r more e = append-nil r.appends ∙ e ∙ ap (λ xs. xs ++ more) (sym (append-nil s.appends))
appends_last (q ∷ before) s r more e = ap (λ xs. q.appends ++ xs) (appends_last before s r more e) ∙ sym (append_assoc q.appends (appends_in (before ++ s ∷ [])) more)

pub grown_made : (before : List Segment) (s : Segment) (bytes : List ℕ) (l : Log) → IsMadeOf (before ++ s ∷ []) l → length bytes ≤ 65536
    → next_of l + 1 ≤ 2 ^ 32 - 1
    → IsMadeOf (before ++ (record s { appends = s.appends ++ bytes ∷ [] }) ∷ []) (with_append bytes l)
grown_made before s bytes l made short fits =
    let longer : Segment = record s { appends = s.appends ++ bytes ∷ [] } in
    let long = length-append l.appends (bytes ∷ []) in
    record {
      row = row_last l.low before s longer refl made.row;
      low = made.low ∙ sym (low_last before s longer refl);
      appends = ap (λ xs. xs ++ bytes ∷ []) made.appends ∙ sym (appends_last before s longer (bytes ∷ []) refl);
      short = short_append l.appends (bytes ∷ []) made.short (short, tt);
      within = omega (arith, fits, long);
    }

row_new : (n : ℕ) (segments : List Segment) (r : Segment) → r.first ≡ n + length (appends_in segments) → AreInRow n segments → AreInRow n (segments ++ r ∷ [])
row_new n [] r e h = (omega (arith, e), tt)
row_new n (q ∷ segments) r e h = (h.0, row_new (n + length q.appends) segments r (omega (arith, e, length-append q.appends (appends_in segments))) h.1)

low_new : (segments : List Segment) (r : Segment) (l : Log) → r.first ≡ next_of l → IsMadeOf segments l → l.low ≡ low_of (segments ++ r ∷ [])
low_new [] r l e made = let none = ap length made.appends in omega (arith, made.low, none, e)
low_new (q ∷ segments) r l e made = made.low

appends_more : (segments : List Segment) (r : Segment) → appends_in (segments ++ r ∷ []) ≡ appends_in segments ++ r.appends
appends_more [] r = append-nil r.appends
appends_more (q ∷ segments) r =
    ap (λ xs. q.appends ++ xs) (appends_more segments r) ∙ sym (append_assoc q.appends (appends_in segments) r.appends)

pub new_made : (segments : List Segment) (node : ℕ) (l : Log) → IsMadeOf segments l → IsMadeOf (segments ++ new_segment (next_of l) node ∷ []) l
new_made segments node l made =
    let r : Segment = new_segment (next_of l) node in
    record {
      row = row_new l.low segments r (ap (λ xs. l.low + length xs) made.appends) made.row;
      low = low_new segments r l refl made;
      appends = made.appends ∙ sym (appends_more segments r ∙ append-nil (appends_in segments));
      short = made.short;
      within = made.within;
    }

pub lone_made : (s : Segment) → AreShort s.appends → s.first + length s.appends ≤ 2 ^ 32 - 1
    → IsMadeOf (s ∷ []) (record { low = s.first; appends = s.appends })
lone_made s short within = record { row = (refl, tt); low = refl; appends = sym (append-nil s.appends); short = short; within = within }

pub joined_made : (segments : List Segment) (node : ℕ) (appends : List (List ℕ)) (l : Log) → IsMadeOf segments l → AreShort appends
    → next_of l + length appends ≤ 2 ^ 32 - 1
    → IsMadeOf (segments ++ record { first = next_of l; node = node; appends = appends } ∷ []) (record { low = l.low; appends = l.appends ++ appends })
joined_made segments node appends l made short fits =
    let r : Segment = record { first = next_of l; node = node; appends = appends } in
    record {
      row = row_new l.low segments r (ap (λ xs. l.low + length xs) made.appends) made.row;
      low = low_new segments r l refl made;
      appends = ap (λ xs. xs ++ appends) made.appends ∙ sym (appends_more segments r);
      short = short_append l.appends appends made.short short;
      within = omega (arith, fits, length-append l.appends appends);
    }

pub trimmed_made : (s r : Segment) (rest : List Segment) (l : Log) → IsMadeOf (s ∷ r ∷ rest) l → IsMadeOf (r ∷ rest) (trimmed r.first l)
trimmed_made s r rest l made =
    let begins : r.first - l.low ≡ length s.appends = omega (arith, made.row.1.0) in
    let left : drop (r.first - l.low) l.appends ≡ appends_in (r ∷ rest) = ap (λ k. drop k l.appends) begins ∙ ap (drop (length s.appends)) made.appends ∙ drop-append_seam s.appends (appends_in (r ∷ rest)) in
    let long = ap length made.appends ∙ length-append s.appends (appends_in (r ∷ rest)) in
    record {
      row = subst (λ n. AreInRow n (r ∷ rest)) (sym made.row.1.0) made.row.1;
      low = refl;
      appends = left;
      short = subst AreShort (sym left) (short_behind s.appends (appends_in (r ∷ rest)) (subst AreShort made.appends made.short));
      within = omega (arith, made.within, long, ap length left, made.row.1.0);
    }

-- Where an append lies.

begins_at : (n : ℕ) (before : List Segment) (s : Segment) (rest : List Segment) → AreInRow n (before ++ s ∷ rest)
    → s.first ≡ n + length (appends_in before)
begins_at n [] s rest row = omega (arith, row.0)
begins_at n (q ∷ before) s rest row =
    omega (arith, begins_at (n + length q.appends) before s rest row.1, length-append q.appends (appends_in before))

appends_split : (before : List Segment) (s : Segment) (rest : List Segment)
    → appends_in (before ++ s ∷ rest) ≡ appends_in before ++ (s.appends ++ appends_in rest)
appends_split [] s rest = refl
appends_split (q ∷ before) s rest =
    ap (λ xs. q.appends ++ xs) (appends_split before s rest) ∙ sym (append_assoc q.appends (appends_in before) (s.appends ++ appends_in rest))

get_front : {A : Type 0} (xs ys : List A) (k : ℕ) → k < length xs → slice_get (xs ++ ys) k ≡ slice_get xs k
get_front [] ys k within = absurd (omega (arith, within))
get_front (x ∷ xs) ys zero within = refl
get_front (x ∷ xs) ys (suc k) within = get_front xs ys k (omega (arith, within))

get_behind : {A : Type 0} (xs ys : List A) (k n : ℕ) → n ≡ length xs + k → slice_get (xs ++ ys) n ≡ slice_get ys k
get_behind [] ys k n e = ap (slice_get ys) (omega (arith, e))
get_behind (x ∷ xs) ys k zero e = absurd (omega (arith, e))
get_behind (x ∷ xs) ys k (suc n) e = get_behind xs ys k n (omega (arith, e))

pub lies_at : (before : List Segment) (s : Segment) (rest : List Segment) (l : Log) (n : ℕ) → IsMadeOf (before ++ s ∷ rest) l → s.first ≤ n
    → n < s.first + length s.appends → slice_get l.appends (n - l.low) ≡ slice_get s.appends (n - s.first)
lies_at before s rest l n made from upto =
    ap (λ xs. slice_get xs (n - l.low)) (made.appends ∙ appends_split before s rest)
    ∙ get_behind (appends_in before) (s.appends ++ appends_in rest) (n - s.first) (n - l.low) (omega (arith, from, begins_at l.low before s rest made.row))
    ∙ get_front s.appends (appends_in rest) (n - s.first) (omega (arith, from, upto))

pub next_behind : (before : List Segment) (s : Segment) (l : Log) → IsMadeOf (before ++ s ∷ []) l → next_of l ≡ s.first + length s.appends
next_behind before s l made =
    omega (
      arith,
      begins_at l.low before s [] made.row,
      ap length (made.appends ∙ appends_split before s []),
      length-append (appends_in before) (s.appends ++ []),
      length-append s.appends [],
    )
