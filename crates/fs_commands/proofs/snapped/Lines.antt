-- The lines of snapshots are written one snapshot behind the other.
use Rattle.std.proofs.Common.{◌≡◌, ℕ, List, [], ◌∷◌, ◌++◌, Option, Some, sym, ap, subst, ◌∙◌, append_assoc, append-nil}
use Rattle.std.proofs.KnownBytes.{Appends-trans}
use Rattle.std.specs.List.{AllByRecursion, flat_map}
use Rattle.std.specs.FinMap.{get}
use Rattle.std.specs.Io.KnownBytes.{Appends}
use Rattle.lang_tree.specs.Listing.{snapshot_lines}
use Rattle.lang_tree.specs.Tree.{Kept, Snapshots}
use Rattle.fs_commands.specs.Listing.{kept_lines}
use Rattle.fs_commands.proofs.numbered.Numbers.{numbers_of}

abbrev pub lines_of_all : List (List ℕ × Kept) → List ℕ
lines_of_all es = flat_map (λ e. snapshot_lines e.0 e.1) es

-- Of some snapshots the lines were written, and those with these numbers are to come.
pub record HasListed (t : Snapshots) (numbers : List (List ℕ × ℕ)) (before after : Option (List ℕ)) : Type 0 where
  pub rest : List (List ℕ × Kept)
  pub are : numbers_of rest ≡ numbers
  pub there : AllByRecursion (λ e. get t e.0 ≡ Some e.1) rest
  pub seen : List ℕ
  pub wrote : Appends before after seen
  pub lines : kept_lines t ≡ seen ++ lines_of_all rest

-- nothing is left
pub all_listed : (t : Snapshots) (before after : Option (List ℕ)) → HasListed t [] before after → Appends before after (kept_lines t)
all_listed t before after h = subst (Appends before after) (sym (h.lines ∙ by h.rest h.are)) h.wrote
  where
    by : (rest : List (List ℕ × Kept)) → numbers_of rest ≡ [] → h.seen ++ lines_of_all rest ≡ h.seen
    by [] e = append-nil h.seen
    by (e ∷ es) is = absurd cc

-- The next of them: what was written so far, and what comes behind its lines.
pub record NextListed (t : Snapshots) (name : List ℕ) (n : ℕ) (numbers : List (List ℕ × ℕ)) (before mid : Option (List ℕ)) : Type 0 where
  pub kept : Kept
  pub at : get t name ≡ Some kept
  pub number : kept.number ≡ n
  pub seen : List ℕ
  pub wrote : Appends before mid seen
  pub rest : List ℕ
  pub lines : kept_lines t ≡ seen ++ (snapshot_lines name kept ++ rest)
  pub more : (after : Option (List ℕ)) → Appends mid after (snapshot_lines name kept) → HasListed t numbers before after

abbrev heads : {A : Type 0} (x : A) (xs : List A) → A
heads x [] = x
heads x (y ∷ ys) = y

abbrev tails : {A : Type 0} → List A → List A
tails [] = []
tails (y ∷ ys) = ys

pub next_listed : (t : Snapshots) (name : List ℕ) (n : ℕ) (all numbers : List (List ℕ × ℕ)) (before mid : Option (List ℕ)) → all ≡ (name, n) ∷ numbers → HasListed t all before mid → NextListed t name n numbers before mid
next_listed t name n all numbers before mid is h = by h.rest (h.are ∙ is) h.there h.lines
  where
    by : (rest : List (List ℕ × Kept)) → numbers_of rest ≡ (name, n) ∷ numbers → AllByRecursion (λ e. get t e.0 ≡ Some e.1) rest → kept_lines t ≡ h.seen ++ lines_of_all rest → NextListed t name n numbers before mid
    by [] are there lines = absurd (cc)
    by (e ∷ es) are there lines =
        let first : (e.0, e.1.number) ≡ (name, n) = ap (heads (name, n)) are in
        let named : e.0 ≡ name = ap (λ p. p.0) first in
        record {
          kept = e.1;
          at = ap (get t) (sym named) ∙ there.0;
          number = ap (λ p. p.1) first;
          seen = h.seen;
          wrote = h.wrote;
          rest = lines_of_all es;
          lines = lines ∙ ap (λ q. h.seen ++ (snapshot_lines q e.1 ++ lines_of_all es)) named;
          more = λ after wrote. record {
            rest = es;
            are = ap tails are;
            there = there.1;
            seen = h.seen ++ snapshot_lines name e.1;
            wrote = Appends-trans before mid after h.seen (snapshot_lines name e.1) h.wrote wrote;
            lines = lines ∙ ap (λ q. h.seen ++ (snapshot_lines q e.1 ++ lines_of_all es)) named ∙ sym (append_assoc h.seen (snapshot_lines name e.1) (lines_of_all es));
          };
        }
