-- The newest of some points, and of one more.
use Rattle.std.proofs.Common.{◌≡◌, ◌⊎◌, inl, inr, ⊎_elim, ℕ, ◌+◌, ◌<◌, ◌≤◌, Bool, true, false, nat_le, bytes_eq, if◌then◌else◌, List, [], ◌∷◌, ◌++◌, length, slice_get, Option, Some, None, refl, sym, ◌∙◌, ap, subst, arith}
use Rattle.std.proofs.lemmas.List.{append-nil, length-append}
use Rattle.std.proofs.lemmas.Bool.{and_from, and_parts, both_ways, cases_Bool, cases_lt, le-leb, leb-true}
use Rattle.std.proofs.lemmas.Option.{same_Some}
use Rattle.std.proofs.lemmas.Slice.Eq.{bytes_eq-Decides}
use Rattle.lang_tree.specs.Listing.{listing}
use Rattle.lang_tree.specs.Points.{Point}
use Rattle.lang_tree.specs.Tree.{Tree}
use Rattle.cmd_session.specs.Shared.{get_behind}
use Rattle.cmd_replay.specs.Newest.{IsNewest, IsSuch}
use Rattle.cmd_replay.specs.Walking.{AreCounted, IsListedAs, is_sought, with_point}
use Rattle.cmd_replay.specs.declared.walk.Tally.{Tally}
use Rattle.cmd_replay.proofs.Lists.{get_before, get_front}

-- ---- more points behind

pub such_longer : (P : Tree → Type 0) (before rest : List Point) (p : ℕ) → IsSuch P before p → IsSuch P (before ++ rest) p
such_longer P before rest p s = record { point = s.point; is = get_before before rest p s.point s.is; such = s.such }

pub such_front : (P : Tree → Type 0) (before rest : List Point) (p : ℕ) → p < length before → IsSuch P (before ++ rest) p → IsSuch P before p
such_front P before rest p low s = record { point = s.point; is = get_front before rest p s.point low s.is; such = s.such }

pub newest_longer : (P : Tree → Type 0) (before rest : List Point) (low last : ℕ) (found : Option ℕ) → length before ≡ last + 1 → IsNewest P before low last found → IsNewest P (before ++ rest) low last found
newest_longer P before rest low last None count is = λ p from upto such. is p from upto (such_front P before rest p (omega (arith, count, upto)) such)
newest_longer P before rest low last (Some p) count is =
    (is.0, is.1, such_longer P before rest p is.2, λ q above upto such. is.3 q above upto (such_front P before rest q (omega (arith, count, upto)) such))

-- ---- one point more

pub such_split : (P : Tree → Type 0) (before : List Point) (one : Point) (last p : ℕ) → length before ≡ last + 1 → p ≤ last + 1 → IsSuch P (before ++ one ∷ []) p → ((p ≤ last) × IsSuch P before p) ⊎ ((p ≡ last + 1) × P one.tree)
such_split P before one last p count upto such = ⊎_elim early late (cases_lt last p)
  where
    late : p ≤ last → ((p ≤ last) × IsSuch P before p) ⊎ ((p ≡ last + 1) × P one.tree)
    late low = inl (low, such_front P before (one ∷ []) p (omega (arith, count, low)) such)

    early : last < p → ((p ≤ last) × IsSuch P before p) ⊎ ((p ≡ last + 1) × P one.tree)
    early high =
        let there : p ≡ length before = omega (arith, count, high, upto) in
        let point : such.point ≡ one = same_Some such.point one (sym such.is ∙ ap (λ (i : ℕ). slice_get (before ++ one ∷ []) i) there ∙ get_behind before one []) in
        inr (omega (arith, high, upto), subst (λ (x : Point). P x.tree) point such.such)

not_sought : (text : List ℕ) (low number : ℕ) (t : Tree) → is_sought text low number t ≡ false → low ≤ number → listing t ≡ text → ⊥
not_sought text low number t not from listed = both_ways _ not (and_from (nat_le low number) (bytes_eq (listing t) text) (le-leb low number from) ((bytes_eq-Decides (listing t) text).1 listed))

pub newest_more : (text : List ℕ) (before : List Point) (one : Point) (low last : ℕ) (found : Option ℕ) → length before ≡ last + 1 → IsNewest (IsListedAs text) before low last found
    → IsNewest (IsListedAs text) (before ++ one ∷ []) low (last + 1) (if is_sought text low (last + 1) one.tree then Some (last + 1) else found)
newest_more text before one low last found count is = ⊎_elim sought other (cases_Bool (is_sought text low (last + 1) one.tree))
  where
    Is : Option ℕ → Type 0
    Is f = IsNewest (IsListedAs text) (before ++ one ∷ []) low (last + 1) f

    sought : is_sought text low (last + 1) one.tree ≡ true → IsNewest (IsListedAs text) (before ++ one ∷ []) low (last + 1) (if is_sought text low (last + 1) one.tree then Some (last + 1) else found)
    sought yes_it_is =
        let parts = and_parts (nat_le low (last + 1)) (bytes_eq (listing one.tree) text) yes_it_is in
        rw yes_it_is (
          leb-true low (last + 1) parts.0,
          omega arith,
          record { point = one; is = subst (λ (i : ℕ). slice_get (before ++ one ∷ []) i ≡ Some one) count (get_behind before one []); such = (bytes_eq-Decides (listing one.tree) text).0 parts.1 },
          λ q above upto such. omega (arith, above, upto),
        )

    kept : (f : Option ℕ) → is_sought text low (last + 1) one.tree ≡ false → IsNewest (IsListedAs text) before low last f → IsNewest (IsListedAs text) (before ++ one ∷ []) low (last + 1) f
    kept None not was = λ p from upto such.
        ⊎_elim (λ early. was p from early.0 early.1) (λ late. not_sought text low (last + 1) one.tree not (omega (arith, from, late.0)) late.1)
        (such_split (IsListedAs text) before one last p count upto such)
    kept (Some p) not was = (
      was.0,
      omega (arith, was.1),
      such_longer (IsListedAs text) before (one ∷ []) p was.2,
      λ q above upto such.
          ⊎_elim (λ early. was.3 q above early.0 early.1) (λ late. not_sought text low (last + 1) one.tree not (omega (arith, was.0, above, late.0)) late.1)
          (such_split (IsListedAs text) before one last q count upto such),
    )

    other : is_sought text low (last + 1) one.tree ≡ false → IsNewest (IsListedAs text) (before ++ one ∷ []) low (last + 1) (if is_sought text low (last + 1) one.tree then Some (last + 1) else found)
    other not = rw not (kept found not is)

-- point 0 alone
pub newest_first : (text : List ℕ) (low : ℕ) (one : Point) → IsNewest (IsListedAs text) (one ∷ []) low 0 (if is_sought text low 0 one.tree then Some 0 else None)
newest_first text low one = ⊎_elim sought other (cases_Bool (is_sought text low 0 one.tree))
  where
    sought : is_sought text low 0 one.tree ≡ true → IsNewest (IsListedAs text) (one ∷ []) low 0 (if is_sought text low 0 one.tree then Some 0 else None)
    sought yes_it_is =
        let parts = and_parts (nat_le low 0) (bytes_eq (listing one.tree) text) yes_it_is in
        rw yes_it_is (leb-true low 0 parts.0, omega arith, record { point = one; is = refl; such = (bytes_eq-Decides (listing one.tree) text).0 parts.1 }, λ q above upto such. omega (arith, above, upto))

    none : is_sought text low 0 one.tree ≡ false → (p : ℕ) → low ≤ p → p ≤ 0 → IsSuch (IsListedAs text) (one ∷ []) p → ⊥
    none not p from upto such =
        let there : p ≡ 0 = omega (arith, upto) in
        let point : such.point ≡ one = same_Some such.point one (sym such.is ∙ ap (λ (i : ℕ). slice_get (one ∷ []) i) there) in
        not_sought text low 0 one.tree not (omega (arith, from, upto)) (subst (λ (x : Point). listing x.tree ≡ text) point such.such)

    other : is_sought text low 0 one.tree ≡ false → IsNewest (IsListedAs text) (one ∷ []) low 0 (if is_sought text low 0 one.tree then Some 0 else None)
    other not = rw not (none not)

-- the count of one more, where a command makes one
pub counted_more : (text : List ℕ) (low : ℕ) (before : List Point) (one : Point) (y : Tally) (makes : Bool) → AreCounted text low before y
    → AreCounted text low (before ++ (if makes then one ∷ [] else [])) (if makes then with_point text low one.tree y else y)
counted_more text low before one y true is = record {
  count = length-append before (one ∷ []) ∙ omega (arith, is.count);
  newest = newest_more text before one low y.last y.newest is.count is.newest;
}
counted_more text low before one y false is = subst (λ (points : List Point). AreCounted text low points y) (sym (append-nil before)) is
