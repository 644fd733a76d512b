-- All paths are made one by one: so far the first ones.
use Rattle.std.proofs.Common.{◌≡◌, ℕ, zero, suc, ◌+◌, ◌<◌, ◌≤◌, Bool, IsTrue, List, [], ◌∷◌, ◌++◌, length, map, take, take_all, drop, slice_get, Option, Some, None, Result, Ok, Err, refl, sym, ap, ◌∙◌, subst, arith, append_assoc, append-nil}
use Rattle.std.specs.Prelude.{IfErr, IsErr, IsErrAnd, OnOk}
use Rattle.std.proofs.lemmas.List.{length-map}
use Rattle.std.proofs.lemmas.Option.{none-some, same_Some}
use Rattle.base_types.specs.declared.layout.Layout.{Layout}
use Rattle.layout_geometry.specs.Geometry.{Geometry}
use Rattle.lang_tree.specs.declared.command.Cmd.{Cmd}
use Rattle.lang_tree.specs.Tree.{IsSound, Tree}
use Rattle.lang_making.specs.Making.{making, path_command, paths_made}
use Rattle.engine_blocks.specs.State.{State}
use Rattle.cmd_upgrade.specs.declared.plan.Entry.{Entry}
use Rattle.cmd_upgrade.specs.declared.plan.Plan.{Plan}
use Rattle.cmd_upgrade.specs.declared.refusal.UpgradeRefusal.{UpgradeRefusal}
use Rattle.cmd_upgrade.specs.declared.refusal.UpgradeRefusal.TheVariants.{Fault, NoMemory}
use Rattle.cmd_upgrade.specs.Looked.{HasMade, MakesOn, StopsMaking}
use Rattle.cmd_upgrade.specs.Plans.{CanBeMade, IsWholePlan}
use Rattle.cmd_upgrade.proofs.Whole.{whole_paths}

-- the commands of all paths
abbrev pub all_paths : Tree → List Cmd
all_paths t = map (path_command t (paths_made t.names)) (paths_made t.names)

-- so many of them were done
abbrev pub MakesFront : Bool → Plan → ℕ → State → State → Type 0
MakesFront tells p place old now = IsTrue tells → (limit : ℕ) (t : Tree) (l : Layout) → IsSound limit t → IsWholePlan l t p → (g : Geometry) (u : Tree) (front back : List Cmd) → CanBeMade g u
    → making u ≡ front ++ (all_paths t ++ back) → HasMade g front old → HasMade g (front ++ take place (all_paths t)) now

-- a list in which something stands at a place: what is before, it, and what is behind
pub split_at : {A : Type 0} (xs : List A) (i : ℕ) (x : A) → slice_get xs i ≡ Some x → xs ≡ take i xs ++ x ∷ drop (suc i) xs
split_at [] i x is = absurd (none-some x is)
split_at (y ∷ xs) zero x is = ap (λ z. z ∷ xs) (same_Some y x is)
split_at (y ∷ xs) (suc i) x is = ap (λ zs. y ∷ zs) (split_at xs i x is)

pub take_one : {A : Type 0} (xs : List A) (i : ℕ) (x : A) → slice_get xs i ≡ Some x → take (suc i) xs ≡ take i xs ++ x ∷ []
take_one [] i x is = absurd (none-some x is)
take_one (y ∷ xs) zero x is = ap (λ z. z ∷ []) (same_Some y x is)
take_one (y ∷ xs) (suc i) x is = ap (λ zs. y ∷ zs) (take_one xs i x is)

pub mapped_at : {A B : Type 0} (f : A → B) (xs : List A) (i : ℕ) (x : A) → slice_get xs i ≡ Some x → slice_get (map f xs) i ≡ Some (f x)
mapped_at f [] i x is = absurd (none-some x is)
mapped_at f (y ∷ xs) zero x is = ap (λ z. Some (f z)) (same_Some y x is)
mapped_at f (y ∷ xs) (suc i) x is = mapped_at f xs i x is

pub some_at : {A : Type 0} (xs : List A) (i : ℕ) → i < length xs → (x : A) × (slice_get xs i ≡ Some x)
some_at [] i lt = absurd (omega (arith, lt))
some_at (x ∷ xs) zero lt = (x, refl)
some_at (x ∷ xs) (suc i) lt = some_at xs i (omega (arith, lt))

-- the next command stands behind those that were done
next_stands : (all : List Cmd) (u : Tree) (front back : List Cmd) (place : ℕ) (cmd : Cmd) → making u ≡ front ++ (all ++ back) → slice_get all place ≡ Some cmd
    → making u ≡ (front ++ take place all) ++ (cmd ∷ [] ++ (drop (suc place) all ++ back))
next_stands all u front back place cmd is at =
    is ∙ ap (λ xs. front ++ (xs ++ back)) (split_at all place cmd at)
    ∙ ap (λ xs. front ++ xs) (append_assoc (take place all) (cmd ∷ drop (suc place) all) back)
    ∙ sym (append_assoc front (take place all) (cmd ∷ (drop (suc place) all ++ back)))

-- one command more
one_behind : (all front : List Cmd) (place : ℕ) (cmd : Cmd) → slice_get all place ≡ Some cmd → (front ++ take place all) ++ cmd ∷ [] ≡ front ++ take (suc place) all
one_behind all front place cmd at = append_assoc front (take place all) (cmd ∷ []) ∙ ap (λ xs. front ++ xs) (sym (take_one all place cmd at))

-- Of a list of commands the next one is asked: so many more were done, or the session refused one.
pub list_more : (tells : Bool) (all : List Cmd) (g : Geometry) (u : Tree) (front back : List Cmd) (place : ℕ) (cmd : Cmd) (mid now : State) (result : Result (Unit {0}) UpgradeRefusal) → IsTrue tells
    → MakesOn tells (cmd ∷ []) mid now result → CanBeMade g u → making u ≡ front ++ (all ++ back) → slice_get all place ≡ Some cmd → HasMade g (front ++ take place all) mid
    → OnOk result (HasMade g (front ++ take (place + 1) all) now) × IfErr result (StopsMaking g u now)
list_more tells all g u front back place cmd mid now (Ok x) told asked can is at h =
    let a = asked told g u (front ++ take place all) (drop (suc place) all ++ back) can (next_stands all u front back place cmd is at) h in
    let next : suc place ≡ place + 1 = omega arith in
    (subst (λ (n : ℕ). HasMade g (front ++ take n all) now) next (subst (λ (cmds : List Cmd). HasMade g cmds now) (one_behind all front place cmd at) a.0), tt)
list_more tells all g u front back place cmd mid now (Err why) told asked can is at h =
    let a = asked told g u (front ++ take place all) (drop (suc place) all ++ back) can (next_stands all u front back place cmd is at) h in
    (tt, a.1)

-- there are as many paths as entries
pub as_many : (l : Layout) (t : Tree) (p : Plan) → IsWholePlan l t p → length (paths_made t.names) ≡ length p.entries.items
as_many l t p is = ap (λ (xs : List (List (List ℕ))). length xs) (whole_paths l t p is) ∙ length-map p.entries.items (λ (e : Entry). e.path)

-- what is known of the command for a place
abbrev pub IsForPath : Plan → ℕ → Cmd → Type 0
IsForPath p place cmd = (l : Layout) (limit : ℕ) (t : Tree) (path : List (List ℕ)) → IsSound limit t → IsWholePlan l t p → slice_get (paths_made t.names) place ≡ Some path
    → cmd ≡ path_command t (paths_made t.names) path

-- at first none
pub front_none : (tells : Bool) (p : Plan) (old : State) → MakesFront tells p 0 old old
front_none tells p old = λ told limit t l ok whole g u front back can is h. subst (λ (cmds : List Cmd). HasMade g cmds old) (sym (append-nil front)) h

module _ (tells : Bool) (p : Plan) (place : ℕ) (old mid now : State) (cmd : Cmd) (so_far : MakesFront tells p place old mid) (within : place < length p.entries.items) (which : IsForPath p place cmd) where
  stands : (limit : ℕ) (t : Tree) (l : Layout) → IsSound limit t → IsWholePlan l t p → slice_get (all_paths t) place ≡ Some cmd
  stands limit t l ok whole =
      let s = some_at (paths_made t.names) place (omega (arith, within, as_many l t p whole)) in
      mapped_at (path_command t (paths_made t.names)) (paths_made t.names) place s.0 s.1 ∙ ap Some (sym (which l limit t s.0 ok whole s.1))

  pub front_more : MakesOn tells (cmd ∷ []) mid now (Ok tt) → MakesFront tells p (place + 1) old now
  front_more asked = λ told limit t l ok whole g u front back can is h.
      (list_more tells (all_paths t) g u front back place cmd mid now (Ok tt) told asked can is (stands limit t l ok whole) (so_far told limit t l ok whole g u front back can is h)).0

  pub front_stops : (why : UpgradeRefusal) → MakesOn tells (cmd ∷ []) mid now (Err why) → (limit : ℕ) (t : Tree) (l : Layout) → IsSound limit t → IsWholePlan l t p → MakesOn tells (all_paths t) old now (Err why)
  front_stops why asked limit t l ok whole = λ told g u front back can is h.
      (tt, (list_more tells (all_paths t) g u front back place cmd mid now (Err why) told asked can is (stands limit t l ok whole) (so_far told limit t l ok whole g u front back can is h)).1)

-- in the end all
pub front_all : (tells : Bool) (p : Plan) (place : ℕ) (old now : State) → MakesFront tells p place old now → length p.entries.items ≤ place → (limit : ℕ) (t : Tree) (l : Layout) → IsSound limit t
    → IsWholePlan l t p → MakesOn tells (all_paths t) old now (Ok tt)
front_all tells p place old now so_far all limit t l ok whole = λ told g u front back can is h. (
  subst (λ (cmds : List Cmd). HasMade g (front ++ cmds) now)
      (take_all place (all_paths t) (omega (arith, all, as_many l t p whole, length-map (paths_made t.names) (path_command t (paths_made t.names)))))
      (so_far told limit t l ok whole g u front back can is h),
  tt,
)

-- want of memory is no fault
pub want_stops : {A : Type 0} (why : UpgradeRefusal) → why ≡ NoMemory → why ≡ Fault → A
want_stops why e fault = let other : NoMemory ≡ Fault = sym e ∙ fault in absurd cc

-- and it stops there
pub lacks : (tells : Bool) (cmds : List Cmd) (old now : State) (why : UpgradeRefusal) → why ≡ NoMemory → MakesOn tells cmds old now (Err why)
lacks tells cmds old now why e = λ told g u front back can is h. (tt, want_stops why e)

-- what `?` hands on
pub passed_on : {A : Type 0} (result : Result A UpgradeRefusal) (why : UpgradeRefusal) (P : UpgradeRefusal → Type 0) → IsErr result × IsErrAnd result (λ e. e ≡ why) → P why → IfErr result P
passed_on (Ok x) why P h p = tt
passed_on (Err e) why P h p = subst P (sym h.1) p

pub failed_with : (result : Result (Unit {0}) UpgradeRefusal) (why : UpgradeRefusal) → IsErr result × IsErrAnd result (λ e. e ≡ why) → Err why ≡ result
failed_with (Ok x) why h = absurd h.1
failed_with (Err e) why h = ap Err (sym h.1)
