-- Walks by names: that one comes to its end where the path leads, what is at a path's last name, and the parts of a path.
use Rattle.std.proofs.Common.{◌≡◌, ℕ, ◌+◌, ◌-◌, ◌<◌, Bool, true, List, [], ◌∷◌, ◌++◌, length, take, drop, get_or, Option, None, Some, Result, Ok, Err, IfOk, OnErr, option_map, option_and_then, refl, sym, ap, subst, ◌∙◌, arith, drop-cons, length-append, take_all}
use Rattle.std.proofs.lemmas.List.{take-append-le}
use Rattle.std.proofs.lemmas.Bool.Decides.{nat_tests}
use Rattle.lang_tree.specs.declared.command.Refusal.{Refusal}
use Rattle.lang_tree.specs.Paths.{parent}
use Rattle.lang_tree.specs.Walk.{enter}
use Rattle.crash_stands.specs.Inodes.{Inode, Inodes}
use Rattle.crash_stands.specs.Walks.{Entries, entries_of, entry_in, walk}
use Rattle.fs_inodes.specs.Lookups.{walk_on, number_at, is_dir_inode}
use Rattle.fs_memtree.specs.Kept.{split, split_on, spot_at}

-- A walk's end, and the number at the path.
abbrev pub Fits : Result ℕ Refusal → Option ℕ → Type 0
Fits (Ok n) o = o ≡ Some n
Fits (Err why) o = o ≡ None

fits_in : (slots_found : Option ℕ) (f : ℕ → Result ℕ Refusal) (g : ℕ → Option ℕ) → ((j : ℕ) → Fits (f j) (g j)) → Fits (enter true slots_found f) (option_and_then g slots_found)
fits_in slots_found f g e = grind (arith, nat_tests)

fits_step : (o : Option Inode) (name : List ℕ) (f : ℕ → Result ℕ Refusal) (g : ℕ → Option ℕ) → ((j : ℕ) → Fits (f j) (g j))
    → Fits (enter (is_dir_inode o) (entry_in o name) f) (option_and_then g (entry_in o name))
fits_step o name f g e = grind (arith, nat_tests, fits_in)

pub fits : (m : Inodes) (k : ℕ) (path : List (List ℕ)) → Fits (walk_on m k path) (walk (entries_of m) k path)
fits m k [] = refl
fits m k (name ∷ path) = fits_step (m k) name (λ j. walk_on m j path) (λ j. walk (entries_of m) j path) (λ j. fits m j path)

-- what the code's walk answers, and the number at the path
pub found_by : (m : Inodes) (path : List (List ℕ)) (r : Result ℕ Refusal) → r ≡ walk_on m 1 path → Fits r (number_at m path)
found_by m path r is = subst (λ w. Fits w (number_at m path)) (sym is) (fits m 1 path)

pub on_ok : (r : Result ℕ Refusal) (o : Option ℕ) → Fits r o → IfOk r (λ n. o ≡ Some n)
on_ok r o e = grind (arith, nat_tests)

pub on_err : (r : Result ℕ Refusal) (o : Option ℕ) → Fits r o → OnErr r (o ≡ None)
on_err r o e = grind (arith, nat_tests)

-- One step of the code's walk: it goes on, or stops.
pub next_step : (m : Inodes) (k : ℕ) (path : List (List ℕ)) (i : ℕ) (name : List ℕ) (b : Bool) (o : Option ℕ) → i < length path → name ≡ get_or path i name → is_dir_inode (m k) ≡ b → entry_in (m k) name ≡ o
    → walk_on m k (drop i path) ≡ enter b o (λ j. walk_on m j (drop (i + 1) path))
next_step m k path i name b o within is dir there = grind (arith, nat_tests, drop-cons)

-- The parts of a path.

split_end : (up : List (List ℕ)) (first name : List ℕ) → split_on first (up ++ name ∷ []) ≡ (first ∷ up, name)
split_end [] first name = refl
split_end (next ∷ up) first name = ap (λ s. (first ∷ s.0, s.1)) (split_end up next name)

-- the front and the last name
pub split_is : (up : List (List ℕ)) (name : List ℕ) → split (up ++ name ∷ []) ≡ Some (up, name)
split_is [] name = refl
split_is (first ∷ up) name = ap Some (split_end up first name)

-- a path is empty, or has a front and a last name
pub by_parts : (P : List (List ℕ) → Type 0) → P [] → ((up : List (List ℕ)) (name : List ℕ) → P (up ++ name ∷ [])) → (path : List (List ℕ)) → P path
by_parts P nil last [] = nil
by_parts P nil last (name ∷ path) = by_parts (λ q. P (name ∷ q)) (last [] name) (λ up end. last (name ∷ up) end) path

pub parent_is : (up : List (List ℕ)) (name : List ℕ) → parent (up ++ name ∷ []) ≡ up
parent_is up name = take_front (length (up ++ name ∷ []) - 1) up (name ∷ []) (omega (arith, length-append up (name ∷ [])))
  where
    take_front : (n : ℕ) (xs ys : List (List ℕ)) → n ≡ length xs → take n (xs ++ ys) ≡ xs
    take_front n xs ys is = take-append-le n xs ys (omega (arith, is)) ∙ take_all n xs (omega (arith, is))

pub walk_last : (e : Entries) (k : ℕ) (up : List (List ℕ)) (name : List ℕ) → walk e k (up ++ name ∷ []) ≡ option_and_then (λ j. e j name) (walk e k up)
walk_last e k [] name = by (e k name)
  where
    by : (o : Option ℕ) → option_and_then (λ j. Some j) o ≡ o
    by None = refl
    by (Some j) = refl
walk_last e k (x ∷ up) name = by (e k x) (λ j. walk_last e j up name)
  where
    by : (o : Option ℕ) → ((j : ℕ) → walk e j (up ++ name ∷ []) ≡ option_and_then (λ j. e j name) (walk e j up))
        → option_and_then (λ j. walk e j (up ++ name ∷ [])) o ≡ option_and_then (λ j. e j name) (option_and_then (λ j. walk e j up) o)
    by None on = refl
    by (Some j) on = on j

-- what is at a path with a last name
pub number_last : (m : Inodes) (up : List (List ℕ)) (name : List ℕ) → number_at m (up ++ name ∷ []) ≡ option_and_then (λ j. entry_in (m j) name) (number_at m up)
number_last m up name = walk_last (entries_of m) 1 up name

-- where a path's front leads, and its last name
pub spot_is : (m : Inodes) (up : List (List ℕ)) (name : List ℕ) → spot_at m (up ++ name ∷ []) ≡ option_map (λ d. (d, name)) (number_at m up)
spot_is m up name = ap (option_and_then (λ s. option_map (λ d. (d, s.1)) (number_at m s.0))) (split_is up name)
