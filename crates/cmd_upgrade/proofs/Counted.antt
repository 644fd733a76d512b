-- The nodes that a plan met, as they are counted: one more, and the places of first paths.
use Rattle.std.proofs.Common.{◌≡◌, ◌⊎◌, inl, inr, ℕ, zero, suc, ◌+◌, ◌==◌, ◌||◌, Bool, true, false, cond, List, [], ◌∷◌, ◌++◌, length, Option, Some, None, refl, sym, ap, ◌∙◌, subst, arith, if◌then◌else◌}
use Rattle.std.specs.Prelude.{is_some, option_map}
use Rattle.std.specs.Ordering.{nat_cmp}
use Rattle.std.specs.Cmp.{nat_cmp_total}
use Rattle.std.specs.FinMap.{entries, entries-insert, find, get, get-entries, insert, len, len-entries, put}
use Rattle.lang_tree.specs.Figures.{content_blocks, file_blocks}
use Rattle.lang_tree.specs.Tree.{Nodes, Thing}
use Rattle.cmd_upgrade.specs.declared.plan.Entry.{Entry}
use Rattle.cmd_upgrade.specs.Plans.{place_of}

files_put : (es : List (ℕ × Thing)) (k : ℕ) (x : Thing) → find nat_cmp k es ≡ None → file_blocks (put nat_cmp k x es) ≡ content_blocks x + file_blocks es
files_put [] k x none = refl
files_put (e ∷ es) k x none = grind (arith, files_put es k x, nat_cmp k e.0)

count_put : (es : List (ℕ × Thing)) (k : ℕ) (x : Thing) → find nat_cmp k es ≡ None → length (put nat_cmp k x es) ≡ length es + 1
count_put [] k x none = omega arith
count_put (e ∷ es) k x none = grind (arith, count_put es k x, nat_cmp k e.0)

-- one node more
pub files_more : (met : Nodes) (k : ℕ) (x : Thing) → get met k ≡ None → file_blocks (entries (insert met k x)) ≡ content_blocks x + file_blocks (entries met)
files_more met k x none = ap file_blocks (entries-insert nat_cmp_total met k x) ∙ files_put (entries met) k x (sym (get-entries met k) ∙ none)

pub count_more : (met : Nodes) (k : ℕ) (x : Thing) → get met k ≡ None → len (insert met k x) ≡ len met + 1
count_more met k x none =
    len-entries (insert met k x) ∙ ap (λ (es : List (ℕ × Thing)). length es) (entries-insert nat_cmp_total met k x)
    ∙ count_put (entries met) k x (sym (get-entries met k) ∙ none) ∙ ap (λ n. n + 1) (sym (len-entries met))

-- this place, where the test holds
abbrev pub place_if : Bool → ℕ → Option ℕ
place_if b i = if b then Some i else None

-- the place of a number, or else another one
abbrev pub or_at : Option ℕ → Option ℕ → Option ℕ
or_at None y = y
or_at (Some i) y = Some i

-- one entry more behind the others
pub place_push : (n : ℕ) (es : List Entry) (e : Entry) → place_of n (es ++ e ∷ []) ≡ or_at (place_of n es) (place_if (e.number == n) (length es))
place_push n [] e = by (e.number == n)
  where
    by : (b : Bool) → (if b then Some 0 else option_map suc (place_of n [])) ≡ place_if b 0
    by true = refl
    by false = refl
place_push n (x ∷ es) e = by (x.number == n) (place_push n es e)
  where
    later : (o : Option ℕ) (b : Bool) (i : ℕ) → option_map suc (or_at o (place_if b i)) ≡ or_at (option_map suc o) (place_if b (suc i))
    later None true i = refl
    later None false i = refl
    later (Some j) b i = refl

    by : (b : Bool) → place_of n (es ++ e ∷ []) ≡ or_at (place_of n es) (place_if (e.number == n) (length es))
        → (if b then Some 0 else option_map suc (place_of n (es ++ e ∷ []))) ≡ or_at (if b then Some 0 else option_map suc (place_of n es)) (place_if (e.number == n) (suc (length es)))
    by true h = refl
    by false h = ap (option_map suc) h ∙ later (place_of n es) (e.number == n) (length es)
