-- The names that the directory of a log holds.
use Rattle.std.proofs.Common.{◌≡◌, ℕ, Bool, true, false, cond, if◌then◌else◌, List, [], ◌∷◌, Option, Some, None, refl, sym, ap, ap₂, ◌∙◌, ◌⊎◌, inl, inr, bytes_eq, subst, map}
use Rattle.std.proofs.lemmas.Bool.{cases_Bool}
use Rattle.std.proofs.lemmas.Option.{none-some, same_Some}
use Rattle.std.proofs.lemmas.Slice.Eq.{bytes_eq-Decides}
use Rattle.std.specs.FinMap.{get, entries, find, get-entries}
use Rattle.std.specs.List.{AllByRecursion, filter_map, cons_option}
use Rattle.std.specs.Ordering.{eq_by_cmp}
use Rattle.lang_tree.specs.Names.{names_in}
use Rattle.lang_tree.specs.Paths.{lone_name, name_in}
use Rattle.lang_tree.specs.Tree.{Dir, Names, Tree, path_cmp}
use Rattle.lang_log.specs.Names.{log_path, path_in_log, segment_name}
use Rattle.lang_log.specs.Segments.{AreApart, HasSegments, IsOneOf, LiesIn, Segment}
use Rattle.lang_log.proofs.Maps.{tied_paths, which_path}

-- Which paths lie in the directory, and under which name.

lone : (rest : List (List ℕ)) (name : List ℕ) → lone_name (Some rest) ≡ Some name → rest ≡ name ∷ []
lone [] name e = absurd (none-some name e)
lone (a ∷ []) name e = ap (λ a. a ∷ []) (same_Some a name e)
lone (a ∷ (b ∷ rest)) name e = absurd (none-some name e)

pub named_so : (path : List (List ℕ)) (name : List ℕ) → name_in log_path path ≡ Some name → path ≡ path_in_log name
named_so [] name e = absurd (none-some name e)
named_so (a ∷ path) name e = by (cases_Bool (bytes_eq (108 ∷ 111 ∷ 103 ∷ []) a))
  where
    by : (bytes_eq (108 ∷ 111 ∷ 103 ∷ []) a ≡ true) ⊎ (bytes_eq (108 ∷ 111 ∷ 103 ∷ []) a ≡ false) → a ∷ path ≡ path_in_log name
    by (inl same) =
        ap₂ (λ a path. a ∷ path) (sym ((bytes_eq-Decides (108 ∷ 111 ∷ 103 ∷ []) a).0 same))
        (lone path name (sym (ap (λ b. lone_name (if b then Some path else None)) same) ∙ e))
    by (inr other) = absurd (none-some name (sym (ap (λ b. lone_name (if b then Some path else None)) other) ∙ e))

-- What is held.

abbrev pub held_by : List (List (List ℕ) × ℕ) → List (List ℕ)
held_by es = filter_map (λ e. name_in log_path e.0) es

held_in : (es : List (List (List ℕ) × ℕ)) (name : List ℕ) → IsOneOf name (held_by es) → (n : ℕ) × (find path_cmp (path_in_log name) es ≡ Some n)
held_in [] name one = absurd one
held_in (e ∷ es) name one = by (name_in log_path e.0) refl one (held_in es name)
  where
    on : (b : Bool) → (n : ℕ) × (find path_cmp (path_in_log name) es ≡ Some n) → (n : ℕ) × (cond b (Some e.1) (find path_cmp (path_in_log name) es) ≡ Some n)
    on true found = (e.1, refl)
    on false found = found

    by : (o : Option (List ℕ)) → name_in log_path e.0 ≡ o → IsOneOf name (cons_option o (held_by es))
        → (IsOneOf name (held_by es) → (n : ℕ) × (find path_cmp (path_in_log name) es ≡ Some n))
        → (n : ℕ) × (find path_cmp (path_in_log name) (e ∷ es) ≡ Some n)
    by None is one later = on (eq_by_cmp path_cmp (path_in_log name) e.0) (later one)
    by (Some x) is (inl same) later = (
      e.1,
      ap (λ b. cond b (Some e.1) (find path_cmp (path_in_log name) es))
          (tied_paths (path_in_log name) e.0 (ap path_in_log same ∙ sym (named_so e.0 x is))),
    )
    by (Some x) is (inr one) later = on (eq_by_cmp path_cmp (path_in_log name) e.0) (later one)

all_in : (es : List (List (List ℕ) × ℕ)) (name : List ℕ) (n : ℕ) → find path_cmp (path_in_log name) es ≡ Some n → IsOneOf name (held_by es)
all_in [] name n is = absurd (none-some n is)
all_in (e ∷ es) name n is = by (which_path (path_in_log name) e.0) (all_in es name n)
  where
    more : (o : Option (List ℕ)) → IsOneOf name (held_by es) → IsOneOf name (cons_option o (held_by es))
    more None one = one
    more (Some x) one = inr one

    by : (path_in_log name ≡ e.0) ⊎ (eq_by_cmp path_cmp (path_in_log name) e.0 ≡ false)
        → (find path_cmp (path_in_log name) es ≡ Some n → IsOneOf name (held_by es)) → IsOneOf name (held_by (e ∷ es))
    by (inl same) later = subst (λ path. IsOneOf name (cons_option (name_in log_path path) (held_by es))) same (inl refl)
    by (inr other) later =
        more (name_in log_path e.0) (later (sym (ap (λ b. cond b (Some e.1) (find path_cmp (path_in_log name) es)) other) ∙ is))

pub held_leads : (names : Names) (name : List ℕ) → IsOneOf name (names_in names log_path) → (n : ℕ) × (get names (path_in_log name) ≡ Some n)
held_leads names name one =
    let found = held_in (entries names) name one in (found.0, get-entries names (path_in_log name) ∙ found.1)

pub all_held : (names : Names) (name : List ℕ) (n : ℕ) → get names (path_in_log name) ≡ Some n → IsOneOf name (names_in names log_path)
all_held names name n at = all_in (entries names) name n (sym (get-entries names (path_in_log name)) ∙ at)

-- where all names that are listed are those of segments, these are all
pub all_listed : (t : Tree) (segments : List Segment) (n : ℕ) → get t.names log_path ≡ Some n → get t.nodes n ≡ Some Dir
    → names_in t.names log_path ≡ map (λ s. segment_name s.first) segments → AllByRecursion (LiesIn t) segments → AreApart segments
    → HasSegments t segments
all_listed t segments n at dir e there apart = record {
  directory = λ k is. ap (get t.nodes) (same_Some k n (sym is ∙ at)) ∙ dir;
  there = there;
  only = λ name k is. subst (IsOneOf name) e (all_held t.names name k is);
  apart = apart;
}
