-- The entries of a search tree over names make a finite map: look-up and insertion agree.
use Rattle.std.proofs.Common.{◌≡◌, ℕ, ◌+◌, cond, if◌then◌else◌, List, [], ◌∷◌, length, Option, None, is_some, refl, sym, ap, ◌∙◌, arith}
use Rattle.std.specs.Ordering.{is_eq, match_ordering, nat_cmp, eq_by_cmp}
use Rattle.std.specs.declared.cmp.Ordering.{Ordering}
use Rattle.std.specs.Cmp.{IsTotalOrder, nat_cmp_total}
use Rattle.std.specs.Cmp.Lexicographic.{slice_cmp, lists_total}
use Rattle.std.specs.Map.{lookup}
use Rattle.std.specs.BTreeMap.{insert_entry}
use Rattle.std.specs.FinMap.{nat_cmp-IsAntisymmetric, slice_cmp-IsAntisymmetric, get, insert, from_entries, find, put, get-from_entries, get-insert, same_map}
use Rattle.std.specs.FinMap.Entries.{find-put, by_order}
use Rattle.std.proofs.lemmas.Bool.Decides.{nat_tests}
use Rattle.fs_check.specs.Snapshots.{numbers_in}

abbrev name_cmp : List ℕ → List ℕ → Ordering
name_cmp = slice_cmp nat_cmp

total : IsTotalOrder name_cmp
total = lists_total nat_cmp_total

found_entry : (name : List ℕ) (es : List (List ℕ × ℕ)) → lookup (λ k. is_eq (name_cmp name k)) es ≡ find name_cmp name es
found_entry name [] = refl
found_entry name (e ∷ es) = ap (cond (is_eq (name_cmp name e.0)) _) (found_entry name es)

pub found : (name : List ℕ) (es : List (List ℕ × ℕ)) → lookup (λ k. is_eq (name_cmp name k)) es ≡ get (numbers_in es) name
found name es = found_entry name es ∙ sym (get-from_entries total es name)

same_place : (o : Ordering) (e : List ℕ × ℕ) (es : List (List ℕ × ℕ)) (k : List ℕ) (v : ℕ) (us ws : List (List ℕ × ℕ)) → us ≡ ws
    → match_ordering o ((k, v) ∷ e ∷ es) ((e.0, v) ∷ es) (e ∷ us) ≡ by_order o ((k, v) ∷ e ∷ es) ((e.0, v) ∷ es) (e ∷ ws)
same_place o e es k v us ws h = grind (arith, nat_tests)

put_entry : (es : List (List ℕ × ℕ)) (k : List ℕ) (v : ℕ) → insert_entry name_cmp es k v ≡ put name_cmp k v es
put_entry [] k v = refl
put_entry (e ∷ es) k v = same_place (name_cmp k e.0) e es k v _ _ (put_entry es k v)

insert_put : (es : List (List ℕ × ℕ)) (k : List ℕ) (v : ℕ) → numbers_in (put name_cmp k v es) ≡ insert (numbers_in es) k v
insert_put es k v = same_map total (slice_cmp-IsAntisymmetric nat_cmp-IsAntisymmetric) _ _ (λ q.
    get-from_entries total (put name_cmp k v es) q ∙ find-put name_cmp total q k v es
    ∙ sym (get-insert total (from_entries es) k v q ∙ ap (cond (eq_by_cmp name_cmp q k) _) (get-from_entries total es q)))

pub added : (es us : List (List ℕ × ℕ)) (k : List ℕ) (v : ℕ) → us ≡ insert_entry name_cmp es k v → numbers_in us ≡ insert (numbers_in es) k v
added es us k v is = ap numbers_in is ∙ ap numbers_in (put_entry es k v) ∙ insert_put es k v

-- a name that had no number is one entry more
pub one_more : (es us : List (List ℕ × ℕ)) (k : List ℕ) (old : Option ℕ) → length us ≡ length es + (if is_some old then 0 else 1) → old ≡ lookup (λ q. is_eq (name_cmp k q)) es → get (numbers_in es) k ≡ None → length us ≡ length es + 1
one_more es us k old long was none = long ∙ ap (λ (o : Option ℕ). length es + (if is_some o then 0 else 1)) (was ∙ found k es ∙ none)
