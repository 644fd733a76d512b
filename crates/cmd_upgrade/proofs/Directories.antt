-- A plan has fewer directories than the disk of the tree has numbers, as each one has a number of its own and none that of the root: so a walk that has a step for each number comes to its end.
use Rattle.std.proofs.Common.{◌≡◌, ◌≢◌, ℕ, zero, suc, ◌+◌, ◌<◌, ◌≤◌, ◌||◌, Bool, true, false, cond, eqb, true≢false, List, [], ◌∷◌, ◌++◌, length, map, slice_get, Option, Some, None, refl, sym, ap, ◌∙◌, subst, arith, eqb-true, ne_eqb}
use Rattle.std.proofs.lemmas.List.{length-map}
use Rattle.std.proofs.lemmas.Map.Steps.{length-le_from_distinct_below}
use Rattle.std.proofs.lemmas.Option.{none-some, same_Some}
use Rattle.std.specs.Prelude.{option_and_then, reverse}
use Rattle.std.specs.FinMap.{get, keys}
use Rattle.std.specs.List.{All, AllByRecursion, IsDistinct, filter, flat_map, list_any}
use Rattle.base_types.specs.declared.layout.Layout.{Layout}
use Rattle.lang_tree.specs.Names.{names_in}
use Rattle.lang_tree.specs.Tree.{Dir, File, IsSound, Names, Thing, Tree}
use Rattle.lang_tree.specs.Walk.{is_dir, thing_at}
use Rattle.lang_making.specs.Making.{paths_in, paths_made}
use Rattle.cmd_upgrade.specs.declared.plan.Entry.{Entry}
use Rattle.cmd_upgrade.specs.declared.plan.Plan.{Plan}
use Rattle.cmd_upgrade.specs.Plans.{IsEntry, IsPlanOf, dirs_among, made_below}
use Rattle.cmd_upgrade.proofs.Visiting.{no_root}
use Rattle.cmd_upgrade.proofs.Whole.{IsMadeOnce, entry_at, path_at, paths_of}

-- Lists.

at_recursion : {A : Type 0} (P : A → Type 0) (xs : List A) (i : ℕ) (x : A) → AllByRecursion P xs → slice_get xs i ≡ Some x → P x
at_recursion P [] i x all at = absurd (none-some x at)
at_recursion P (y ∷ xs) zero x all at = subst P (same_Some y x at) all.0
at_recursion P (y ∷ xs) (suc i) x all at = at_recursion P xs i x all.1 at

front_at : {A : Type 0} (xs ys : List A) (i : ℕ) (x : A) → slice_get xs i ≡ Some x → slice_get (xs ++ ys) i ≡ Some x
front_at [] ys i x at = absurd (none-some x at)
front_at (z ∷ xs) ys zero x at = at
front_at (z ∷ xs) ys (suc i) x at = front_at xs ys i x at

all_below : (most : ℕ) (ns : List ℕ) → AllByRecursion (λ n. n < most) ns → (q : ℕ) → list_any (eqb q) ns ≡ true → q < most
all_below most [] all q e = absurd (true≢false (sym e))
all_below most (n ∷ ns) all q e = by (eqb q n) refl e (all_below most ns all.1 q)
  where
    by : (b : Bool) → eqb q n ≡ b → (b || list_any (eqb q) ns) ≡ true → (list_any (eqb q) ns ≡ true → q < most) → q < most
    by true same f later = omega (arith, eqb-true q n same, all.0)
    by false other f later = later f

-- No path that is made is the root.

not_root : (up : List (List ℕ)) (names : List (List ℕ)) (ps : List (List (List ℕ))) → AllByRecursion (λ p. p ≢ []) ps → AllByRecursion (λ p. p ≢ []) (map (λ name. up ++ name ∷ []) names ++ ps)
not_root up [] ps all = all
not_root up (name ∷ names) ps all = (no_root up name, not_root up names ps all)

none_is_root : (names : Names) (ups : List (List (List ℕ))) → AllByRecursion (λ p. p ≢ []) (flat_map (paths_in names) ups)
none_is_root names [] = tt
none_is_root names (up ∷ ups) = not_root up (names_in names up) (flat_map (paths_in names) ups) (none_is_root names ups)

-- The numbers of the directories among entries.

abbrev dir_numbers : List Entry → List ℕ
dir_numbers es = map (λ (e : Entry). e.number) (filter (λ (e : Entry). e.is_dir) es)

all_numbers : (P : ℕ → Type 0) (es : List Entry) → ((i : ℕ) (e : Entry) → slice_get es i ≡ Some e → e.is_dir ≡ true → P e.number) → AllByRecursion P (dir_numbers es)
all_numbers P [] each = tt
all_numbers P (e ∷ es) each = by e.is_dir refl (all_numbers P es (λ i x at dir. each (suc i) x at dir))
  where
    by : (b : Bool) → e.is_dir ≡ b → AllByRecursion P (dir_numbers es)
        → AllByRecursion P (map (λ (x : Entry). x.number) (cond b (e ∷ filter (λ (x : Entry). x.is_dir) es) (filter (λ (x : Entry). x.is_dir) es)))
    by true dir rest = (each 0 e refl dir, rest)
    by false none rest = rest

-- no two directories at different places have one number
abbrev AreApart : List Entry → Type 0
AreApart es = (i j : ℕ) (d e : Entry) → slice_get es i ≡ Some d → slice_get es j ≡ Some e → d.is_dir ≡ true → e.is_dir ≡ true → d.number ≡ e.number → i ≡ j

later_apart : (e : Entry) (es : List Entry) → AreApart (e ∷ es) → AreApart es
later_apart e es apart i j c d at to one two same = let next : suc i ≡ suc j = apart (suc i) (suc j) c d at to one two same in omega (arith, next)

distinct : (es : List Entry) → AreApart es → IsDistinct eqb (dir_numbers es)
unfolding IsDistinct
distinct [] apart = tt
distinct (e ∷ es) apart = by e.is_dir refl (distinct es (later_apart e es apart))
  where
    others : e.is_dir ≡ true → AllByRecursion (λ m. eqb e.number m ≡ false) (dir_numbers es)
    others dir = all_numbers (λ m. eqb e.number m ≡ false) es (λ i x at is. ne_eqb e.number x.number (λ same. let none : 0 ≡ suc i = apart 0 (suc i) e x refl at dir is same in absurd (omega (arith, none))))

    by : (b : Bool) → e.is_dir ≡ b → IsDistinct eqb (dir_numbers es)
        → IsDistinct eqb (map (λ (x : Entry). x.number) (cond b (e ∷ filter (λ (x : Entry). x.is_dir) es) (filter (λ (x : Entry). x.is_dir) es)))
    by true dir rest = (others dir, rest)
    by false none rest = rest

module _ (limit : ℕ) (t : Tree) (ok : IsSound limit t) where
  dir_there : (e : Entry) → IsEntry t e → e.is_dir ≡ true → get t.nodes e.number ≡ Some Dir
  dir_there e is dir = by x.0 x.1
    where
      x : (x : Thing) × (get t.nodes e.number ≡ Some x)
      x = ok.named e.path e.number is.number

      by : (x : Thing) → get t.nodes e.number ≡ Some x → get t.nodes e.number ≡ Some Dir
      by Dir there = there
      by (File bytes) there = absurd (true≢false (sym dir ∙ is.dir ∙ ap is_dir (ap (option_and_then (λ n. get t.nodes n)) is.number ∙ there)))

  -- the numbers of directories, that of the root, and 0 are so many different ones
  counted : (es : List Entry) → ((i : ℕ) (e : Entry) → slice_get es i ≡ Some e → IsEntry t e) → ((i : ℕ) (e : Entry) → slice_get es i ≡ Some e → e.path ≢ []) → AreApart es → length (0 ∷ 1 ∷ dir_numbers es) ≤ limit + 1
  unfolding IsDistinct
  counted es each below apart = length-le_from_distinct_below (0 ∷ 1 ∷ dir_numbers es) (limit + 1) ((refl, zero_apart), (root_apart, distinct es apart)) (all_below (limit + 1) (0 ∷ 1 ∷ dir_numbers es) (omega arith, (root_low, all_low)))
    where
      root_low : 1 < limit + 1
      root_low = omega (arith, ok.within 1 Dir ok.root_dir)

      all_low : AllByRecursion (λ n. n < limit + 1) (dir_numbers es)
      all_low = all_numbers (λ n. n < limit + 1) es (λ i e at dir. omega (arith, (ok.within e.number Dir (dir_there e (each i e at) dir)).1))

      zero_apart : AllByRecursion (λ n. eqb 0 n ≡ false) (dir_numbers es)
      zero_apart = all_numbers (λ n. eqb 0 n ≡ false) es (λ i e at dir. ne_eqb 0 e.number (λ same. omega (arith, same, (ok.within e.number Dir (dir_there e (each i e at) dir)).0)))

      root_apart : AllByRecursion (λ n. eqb 1 n ≡ false) (dir_numbers es)
      root_apart = all_numbers (λ n. eqb 1 n ≡ false) es
          (λ i e at dir. ne_eqb 1 e.number (λ same. below i e at (ok.one_path 1 e.path [] ok.root_dir ((each i e at).number ∙ ap Some (sym same)) ok.root)))

  pub few_dirs : IsMadeOnce → (l : Layout) (todo : List (List (List ℕ))) (p : Plan) → IsPlanOf l t todo p → dirs_among p.entries.items + 1 ≤ limit
  few_dirs once l todo p h = omega (arith, counted p.entries.items each below apart, length-map (filter (λ (e : Entry). e.is_dir) p.entries.items) (λ (e : Entry). e.number))
    where
      each : (i : ℕ) (e : Entry) → slice_get p.entries.items i ≡ Some e → IsEntry t e
      each i e at = entry_at t p.entries.items h.each i e at

      made_at : (i : ℕ) (e : Entry) → slice_get p.entries.items i ≡ Some e → slice_get (paths_made t.names) i ≡ Some e.path
      made_at i e at = ap (λ (ps : List (List (List ℕ))). slice_get ps i) h.paths ∙ front_at (paths_of p.entries.items) (flat_map (made_below t) (reverse todo)) i e.path (path_at p.entries.items i e at)

      below : (i : ℕ) (e : Entry) → slice_get p.entries.items i ≡ Some e → e.path ≢ []
      below i e at = at_recursion (λ q. q ≢ []) (paths_made t.names) i e.path (none_is_root t.names (keys t.names)) (made_at i e at)

      apart : AreApart p.entries.items
      apart i j d e at to one two same =
          let path : d.path ≡ e.path = ok.one_path d.number d.path e.path (dir_there d (each i d at) one) (each i d at).number ((each j e to).number ∙ ap Some (sym same)) in
          once limit t d.path i j ok (made_at i d at) (made_at j e to ∙ ap Some (sym path))
