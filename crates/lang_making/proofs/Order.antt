-- The paths of a sound tree in the order in which they are made: each one once, and behind its directory.
use Rattle.std.proofs.Common.{◌≡◌, ℕ, zero, suc, ◌-◌, Bool, List, [], ◌∷◌, ◌++◌, map, length, slice_get, take_at, bytes_eq, Option, Some, None, if◌then◌else◌, refl, sym, ap, ◌∙◌, subst, ◌⊎◌, inl, inr, arith, append_assoc, append-nil}
use Rattle.std.proofs.lemmas.List.{same_from_push, length-append, map-append}
use Rattle.std.proofs.lemmas.Slice.Eq.{bytes_eq-Decides}
use Rattle.std.proofs.lemmas.Option.{same_Some, none-some}
use Rattle.std.proofs.lemmas.Grind.{flat_map-append}
use Rattle.std.specs.List.{flat_map, filter_map, cons_option}
use Rattle.std.specs.FinMap.{get, keys, entries}
use Rattle.lang_tree.specs.Tree.{Tree, Names, IsSound, path_cmp}
use Rattle.lang_tree.specs.Paths.{strip, name_in, lone_name, parent}
use Rattle.lang_tree.specs.Names.{names_in}
use Rattle.lang_making.specs.Making.{paths_in, paths_made}
use Rattle.lang_making.proofs.Lists.{In, Apart, in_left, in_either, in_middle, apart_before, in_map, map_in, in_flat, flat_in, in_filtered, filtered_in}
use Rattle.lang_making.proofs.Maps.{Rising, path_in, in_paths, paths_rise, longer_later, in_front, rising_apart}

-- The last name of a path.

strip_is : (p q r : List (List ℕ)) → strip p q ≡ Some r → q ≡ p ++ r
strip_is [] q r e = same_Some q r e
strip_is (a ∷ p) [] r e = absurd (none-some r e)
strip_is (a ∷ p) (b ∷ q) r e = by (bytes_eq a b) refl (strip_is p q r) e
  where
    by : (t : Bool) → bytes_eq a b ≡ t → (strip p q ≡ Some r → q ≡ p ++ r) → (if t then strip p q else None) ≡ Some r → b ∷ q ≡ (a ∷ p) ++ r
    by t h1 h2 h3 = grind (arith, bytes_eq-Decides, none-some)

strip_join : (p r : List (List ℕ)) → strip p (p ++ r) ≡ Some r
strip_join [] r = refl
strip_join (a ∷ p) r = ap (λ t. if t then strip p (p ++ r) else None) ((bytes_eq-Decides a a).1 refl) ∙ strip_join p r

name_in_is : (up p : List (List ℕ)) (name : List ℕ) → name_in up p ≡ Some name → p ≡ up ++ name ∷ []
name_in_is up p name e = by (strip up p) refl e
  where
    by : (o : Option (List (List ℕ))) → strip up p ≡ o → lone_name o ≡ Some name → p ≡ up ++ name ∷ []
    by None is e = absurd (none-some name e)
    by (Some []) is e = absurd (none-some name e)
    by (Some (x ∷ [])) is e = strip_is up p (x ∷ []) is ∙ ap (λ x. up ++ x ∷ []) (same_Some x name e)
    by (Some (x ∷ y ∷ r)) is e = absurd (none-some name e)

name_in_at : (up : List (List ℕ)) (name : List ℕ) → name_in up (up ++ name ∷ []) ≡ Some name
name_in_at up name = ap lone_name (strip_join up (name ∷ []))

-- a path is the root, or it has a last name
pub last_name : (p : List (List ℕ)) → (p ≡ []) ⊎ ((up : List (List ℕ)) × (name : List ℕ) × (p ≡ up ++ name ∷ []))
last_name [] = inl refl
last_name (a ∷ p) = by (last_name p)
  where
    by : (p ≡ []) ⊎ ((up : List (List ℕ)) × (name : List ℕ) × (p ≡ up ++ name ∷ [])) → (a ∷ p ≡ []) ⊎ ((up : List (List ℕ)) × (name : List ℕ) × (a ∷ p ≡ up ++ name ∷ []))
    by (inl e) = inr ([], a, ap (λ p. a ∷ p) e)
    by (inr s) = inr (a ∷ s.0, s.1, ap (λ p. a ∷ p) s.2)

no_root : (up : List (List ℕ)) (name : List ℕ) → up ++ name ∷ [] ≡ [] → ⊥
no_root [] name e = cc
no_root (x ∷ up) name e = cc

pub parent_is : (up : List (List ℕ)) (name : List ℕ) → parent (up ++ name ∷ []) ≡ up
parent_is up name = take_at up (name ∷ []) (length (up ++ name ∷ []) - 1) (omega (arith, length-append up (name ∷ [])))

-- The names in a directory.

abbrev below : List (List ℕ) → List ℕ → List (List ℕ)
below up name = up ++ name ∷ []

in_directory : (names : Names) (up : List (List ℕ)) (name : List ℕ) (n : ℕ) → get names (up ++ name ∷ []) ≡ Some n → In (names_in names up) name
in_directory names up name n at =
    let e = map_in (λ (e : List (List ℕ) × ℕ). e.0) (entries names) (up ++ name ∷ []) (path_in names (up ++ name ∷ []) n at) in
    in_filtered (λ (e : List (List ℕ) × ℕ). name_in up e.0) (entries names) e.0 name e.1 (ap (name_in up) (sym e.2) ∙ name_in_at up name)

-- what stands at a place of a list is in it
pub at_in : {A : Type 0} (xs : List A) (i : ℕ) (x : A) → slice_get xs i ≡ Some x → In xs x
at_in [] i x is = absurd (none-some x is)
at_in (y ∷ xs) zero x is = inl (sym (same_Some y x is))
at_in (y ∷ xs) (suc i) x is = inr (at_in xs i x is)

pub directory_in : (names : Names) (up : List (List ℕ)) (name : List ℕ) → In (names_in names up) name → (n : ℕ) × (get names (up ++ name ∷ []) ≡ Some n)
directory_in names up name e =
    let r = filtered_in (λ (e : List (List ℕ) × ℕ). name_in up e.0) (entries names) name e in
    let there : In (keys names) (r.0).0 = in_map (λ (e : List (List ℕ) × ℕ). e.0) (entries names) r.0 r.1 in
    in_paths names (up ++ name ∷ []) (subst (In (keys names)) (name_in_is up (r.0).0 name r.2) there)

names_apart : (up : List (List ℕ)) (es : List (List (List ℕ) × ℕ)) → Apart (map (λ e. e.0) es) → Apart (filter_map (λ e. name_in up e.0) es)
names_apart up [] once = tt
names_apart up (e ∷ es) once = by (name_in up e.0) refl (names_apart up es once.1)
  where
    by : (o : Option (List ℕ)) → name_in up e.0 ≡ o → Apart (filter_map (λ e. name_in up e.0) es) → Apart (cons_option o (filter_map (λ e. name_in up e.0) es))
    by None is rest = rest
    by (Some name) is rest = (
      (λ again.
          let r = filtered_in (λ (e : List (List ℕ) × ℕ). name_in up e.0) es name again in
          once.0 (subst (In (map (λ e. e.0) es)) (name_in_is up (r.0).0 name r.2 ∙ sym (name_in_is up e.0 name is)) (in_map (λ (e : List (List ℕ) × ℕ). e.0) es r.0 r.1))),
      rest,
    )

-- What a path finds that comes behind these: it is a path of the tree and not among them, and its directory is.
pub record Fits (names : Names) (before : List (List (List ℕ))) (p : List (List ℕ)) : Type 0 where
  pub up : List (List ℕ)
  pub name : List ℕ
  pub is : p ≡ up ++ name ∷ []
  pub number : ℕ
  pub at : get names p ≡ Some number
  pub dir : In before up
  pub fresh : In before p → ⊥

-- each of the paths fits behind these and those in front of it
abbrev pub Ordered : Names → List (List (List ℕ)) → List (List (List ℕ)) → Type 0
Ordered names before [] = Unit {0}
Ordered names before (p ∷ later) = Fits names before p × Ordered names (before ++ p ∷ []) later

ordered_join : (names : Names) (before xs ys : List (List (List ℕ))) → Ordered names before xs → Ordered names (before ++ xs) ys → Ordered names before (xs ++ ys)
ordered_join names before [] ys a b = subst (λ l. Ordered names l ys) (append-nil before) b
ordered_join names before (x ∷ xs) ys a b =
    (a.0, ordered_join names (before ++ x ∷ []) xs ys a.1 (subst (λ l. Ordered names l ys) (sym (append_assoc before (x ∷ []) xs)) b))

-- one name more
pushed : (before : List (List (List ℕ))) (up : List (List ℕ)) (done : List (List ℕ)) (name : List ℕ)
    → before ++ map (below up) (done ++ name ∷ []) ≡ (before ++ map (below up) done) ++ (up ++ name ∷ []) ∷ []
pushed before up done name = ap (λ l. before ++ l) (map-append (below up) done (name ∷ [])) ∙ sym (append_assoc before (map (below up) done) ((up ++ name ∷ []) ∷ []))

module _ (names : Names) (up : List (List ℕ)) (before : List (List (List ℕ))) (dir : In before up) (free : (name : List ℕ) → In before (up ++ name ∷ []) → ⊥) where
  fresh_name : (done left : List (List ℕ)) (name : List ℕ) → names_in names up ≡ done ++ name ∷ left → In (before ++ map (below up) done) (up ++ name ∷ []) → ⊥
  fresh_name done left name split e = by (in_either before (map (below up) done) (up ++ name ∷ []) e)
    where
      once : Apart (done ++ name ∷ left)
      once = subst Apart split (names_apart up (entries names) (rising_apart (keys names) (paths_rise names)))

      by : In before (up ++ name ∷ []) ⊎ In (map (below up) done) (up ++ name ∷ []) → ⊥
      by (inl there) = free name there
      by (inr there) =
          let r = map_in (below up) done (up ++ name ∷ []) there in
          let same : name ≡ r.0 = (same_from_push up up name r.0 r.2).1 in
          apart_before done left name once (subst (In done) (sym same) r.1)

  within_one : (done left : List (List ℕ)) → names_in names up ≡ done ++ left → Ordered names (before ++ map (below up) done) (map (below up) left)
  within_one done [] split = tt
  within_one done (name ∷ left) split =
      let at = directory_in names up name (subst (λ l. In l name) (sym split) (in_middle done left name)) in (
        record {
          up = up;
          name = name;
          is = refl;
          number = at.0;
          at = at.1;
          dir = in_left before (map (below up) done) up dir;
          fresh = fresh_name done left name split;
        },
        subst (λ l. Ordered names l (map (below up) left)) (pushed before up done name)
            (within_one (done ++ name ∷ []) left (split ∙ sym (append_assoc done (name ∷ []) left))),
      )

  pub one_directory : Ordered names before (paths_in names up)
  one_directory = subst (λ l. Ordered names l (paths_in names up)) (append-nil before) (within_one [] (names_in names up) refl)

module _ (limit : ℕ) (t : Tree) (s : IsSound limit t) where
  made_in_dir : (up : List (List ℕ)) (name : List ℕ) (n : ℕ) → get t.names (up ++ name ∷ []) ≡ Some n → In (paths_in t.names up) (up ++ name ∷ [])
  made_in_dir up name n at = in_map (below up) (names_in t.names up) name (in_directory t.names up name n at)

  -- each path but the root is made
  pub all_made : (p : List (List ℕ)) (n : ℕ) → get t.names p ≡ Some n → (p ≡ []) ⊎ In (paths_made t.names) p
  all_made p n at = by (last_name p)
    where
      by : (p ≡ []) ⊎ ((up : List (List ℕ)) × (name : List ℕ) × (p ≡ up ++ name ∷ [])) → (p ≡ []) ⊎ In (paths_made t.names) p
      by (inl root) = inl root
      by (inr l) =
          let here : get t.names (l.0 ++ l.1 ∷ []) ≡ Some n = ap (get t.names) (sym l.2) ∙ at in
          let up = s.parents l.0 l.1 n here in
          inr (subst (In (paths_made t.names)) (sym l.2)
          (in_flat (paths_in t.names) (keys t.names) l.0 (l.0 ++ l.1 ∷ []) (path_in t.names l.0 up.0 up.1) (made_in_dir l.0 l.1 n here)))

  module _ (front back : List (List (List ℕ))) (up : List (List ℕ)) (split : keys t.names ≡ front ++ up ∷ back) where
    rises : Rising (front ++ up ∷ back)
    rises = subst Rising split (paths_rise t.names)

    -- the directory was made
    dir_made : In ([] ∷ flat_map (paths_in t.names) front) up
    dir_made = by (last_name up)
      where
        by : (up ≡ []) ⊎ ((top : List (List ℕ)) × (name : List ℕ) × (up ≡ top ++ name ∷ [])) → In ([] ∷ flat_map (paths_in t.names) front) up
        by (inl root) = inl root
        by (inr l) =
            let at = in_paths t.names up (subst (λ l. In l up) (sym split) (in_middle front back up)) in
            let here : get t.names (l.0 ++ l.1 ∷ []) ≡ Some at.0 = ap (get t.names) (sym l.2) ∙ at.1 in
            let top = s.parents l.0 l.1 at.0 here in
            let less = ap (path_cmp l.0) l.2 ∙ longer_later l.0 l.1 in
            let there : In front l.0 = in_front front back up l.0 rises (subst (λ k. In k l.0) split (path_in t.names l.0 top.0 top.1)) less in
            inr (subst (In (flat_map (paths_in t.names) front)) (sym l.2)
            (in_flat (paths_in t.names) front l.0 (l.0 ++ l.1 ∷ []) there (made_in_dir l.0 l.1 at.0 here)))

    -- and nothing in it
    none_made : (name : List ℕ) → In ([] ∷ flat_map (paths_in t.names) front) (up ++ name ∷ []) → ⊥
    none_made name (inl root) = no_root up name root
    none_made name (inr e) =
        let d = flat_in (paths_in t.names) front (up ++ name ∷ []) e in
        let r = map_in (below d.0) (names_in t.names d.0) (up ++ name ∷ []) d.2 in
        let same : up ≡ d.0 = (same_from_push up d.0 name r.0 r.2).0 in
        apart_before front back up (rising_apart (front ++ up ∷ back) rises) (subst (In front) (sym same) d.1)

  one_more : (front : List (List (List ℕ))) (up : List (List ℕ)) → flat_map (paths_in t.names) (front ++ up ∷ []) ≡ flat_map (paths_in t.names) front ++ paths_in t.names up
  one_more front up = flat_map-append (paths_in t.names) front (up ∷ []) ∙ ap (λ back. flat_map (paths_in t.names) front ++ back) (append-nil (paths_in t.names up))

  directories : (front back : List (List (List ℕ))) → keys t.names ≡ front ++ back → Ordered t.names ([] ∷ flat_map (paths_in t.names) front) (flat_map (paths_in t.names) back)
  directories front [] split = tt
  directories front (up ∷ back) split =
      ordered_join t.names ([] ∷ flat_map (paths_in t.names) front) (paths_in t.names up) (flat_map (paths_in t.names) back)
      (one_directory t.names up ([] ∷ flat_map (paths_in t.names) front) (dir_made front back up split) (none_made front back up split))
      (subst (λ l. Ordered t.names ([] ∷ l) (flat_map (paths_in t.names) back)) (one_more front up)
      (directories (front ++ up ∷ []) back (split ∙ sym (append_assoc front (up ∷ []) back))))

  pub in_order : Ordered t.names ([] ∷ []) (paths_made t.names)
  in_order = directories [] (keys t.names) refl
