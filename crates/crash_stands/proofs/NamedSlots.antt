-- Each slot of the map of a tree names a node in use by a path of its own.
use Rattle.std.proofs.Common.{◌≡◌, ◌≢◌, ℕ, zero, suc, true, false, cond, List, [], ◌∷◌, ◌++◌, slice_get, bytes_eq, Some, unwrap_or, option_and_then, refl, sym, subst, ap, ◌∙◌, ◌⊎◌, inl, inr, arith}
use Rattle.std.proofs.lemmas.Bool.{cases_Bool}
use Rattle.std.proofs.lemmas.List.{same_from_push}
use Rattle.std.proofs.lemmas.Slice.Eq.{bytes_eq-Decides}
use Rattle.std.proofs.lemmas.Option.{none-some}
use Rattle.layout_bytes.specs.declared.slot.Slot.{Slot}
use Rattle.lang_tree.specs.Tree.{Tree}
use Rattle.crash_stands.specs.Inodes.{Inode, Inodes, ADir, AreDistinct}
use Rattle.crash_stands.specs.Walks.{entries_of, entry_in, node_in, walk, LeadsTo}
use Rattle.crash_stands.specs.Maps.{IsMapOf}
use Rattle.crash_stands.proofs.SoundTree.{walk_end}

-- the name of each slot leads to its node
finds : (slots : List Slot) (i : ℕ) (s : Slot) → AreDistinct slots → slice_get slots i ≡ Some s → node_in slots s.name ≡ Some s.node
finds [] i s distinct at = absurd (none-some s at)
finds (x ∷ slots) zero s distinct at =
    ap (λ b. cond b (Some x.node) (node_in slots s.name)) ((bytes_eq-Decides x.name s.name).1 (ap (λ o. (unwrap_or o s).name) at)) ∙ ap (λ o. Some ((unwrap_or o s).node)) at
finds (x ∷ slots) (suc i) s distinct at = by (finds slots i s (λ j k u v at_j at_k same. omega (arith, distinct (suc j) (suc k) u v at_j at_k same)) at) (cases_Bool (bytes_eq x.name s.name))
  where
    by : node_in slots s.name ≡ Some s.node → (bytes_eq x.name s.name ≡ true) ⊎ (bytes_eq x.name s.name ≡ false) → node_in (x ∷ slots) s.name ≡ Some s.node
    by rest (inl e) = absurd (omega (arith, distinct 0 (suc i) x s refl at ((bytes_eq-Decides x.name s.name).0 e)))
    by rest (inr e) = ap (λ b. cond b (Some x.node) (node_in slots s.name)) e ∙ rest

-- a path with a last name isn't the root
no_end : (p : List (List ℕ)) (a : List ℕ) → p ++ a ∷ [] ≡ [] → ⊥
no_end [] a e = cc
no_end (x ∷ p) a e = cc

number_same : (k l : ℕ) → Some k ≡ Some l → k ≡ l
number_same k l e = cc

module _ (limit : ℕ) (m : Inodes) (t : Tree) (is : IsMapOf limit m t) where
  -- the path of a slot
  named_at : (k i : ℕ) (slots : List Slot) (s : Slot) → m k ≡ Some (ADir slots) → slice_get slots i ≡ Some s
      → (p : List (List ℕ)) × (LeadsTo m p k × LeadsTo m (p ++ s.name ∷ []) s.node)
  named_at k i slots s dir at =
      let up = is.shows.reached k (ADir slots) dir in (
        up.0,
        (
          up.1,
          walk_end (entries_of m) 1 up.0 s.name ∙ ap (option_and_then (λ j. entries_of m j s.name)) up.1
              ∙ ap (λ o. entry_in o s.name) dir ∙ finds slots i s (is.distinct k slots dir) at,
        ),
      )

  -- no slot names the root
  pub never_root : (k i : ℕ) (slots : List Slot) (s : Slot) → m k ≡ Some (ADir slots) → slice_get slots i ≡ Some s → s.node ≢ 1
  never_root k i slots s dir at e =
      let p = named_at k i slots s dir at in
      no_end p.0 s.name (is.shows.only 1 is.root.0 [] is.root.1 refl (p.0 ++ s.name ∷ []) (p.1.1 ∙ ap Some e))

  -- each slot names a node in use
  pub names_used : (k i : ℕ) (slots : List Slot) (s : Slot) → m k ≡ Some (ADir slots) → slice_get slots i ≡ Some s → (x : Inode) × (m s.node ≡ Some x)
  names_used k i slots s dir at = let p = named_at k i slots s dir at in is.shows.used (p.0 ++ s.name ∷ []) s.node p.1.1

  -- two slots that name one directory are one
  pub names_once : (k l i j n : ℕ) (slots others below : List Slot) (s u : Slot) → m k ≡ Some (ADir slots) → m l ≡ Some (ADir others) → slice_get slots i ≡ Some s → slice_get others j ≡ Some u
      → s.node ≡ n → u.node ≡ n → m n ≡ Some (ADir below) → (k ≡ l) × (i ≡ j)
  names_once k l i j n slots others below s u dir other at_i at_j to_s to_u dir_below =
      let p = named_at k i slots s dir at_i in
      let q = named_at l j others u other at_j in
      let one = same_from_push p.0 q.0 s.name u.name (is.shows.only n below (q.0 ++ u.name ∷ []) dir_below (q.1.1 ∙ ap Some to_u) (p.0 ++ s.name ∷ []) (p.1.1 ∙ ap Some to_s)) in
      let same : k ≡ l = number_same k l (sym p.1.0 ∙ ap (walk (entries_of m) 1) one.0 ∙ q.1.0) in
      let found : Some (ADir slots) ≡ Some (ADir others) = sym dir ∙ ap m same ∙ other in
      let lists : slots ≡ others = cc in
      (same, is.distinct l others other i j s u (subst (λ list. slice_get list i ≡ Some s) lists at_i) at_j one.1)
