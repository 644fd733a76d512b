-- The entries of a directory: each is a slot, and its name leads to its node. A file has none.
use Rattle.std.proofs.Common.{◌≡◌, ℕ, zero, suc, ◌<◌, true, false, cond, List, [], ◌∷◌, length, map, take, drop, slice_get, bytes_eq, Some, refl, sym, subst, ap, ◌∙◌, ◌⊎◌, inl, inr, arith}
use Rattle.std.proofs.lemmas.Bool.{cases_Bool}
use Rattle.std.proofs.lemmas.List.{nil_from_length, take-append-drop}
use Rattle.std.proofs.lemmas.List.Elements.{Contains-append_right}
use Rattle.std.proofs.lemmas.List.Sorted.{Contains-permutation, IsPermutation-sym}
use Rattle.std.proofs.lemmas.Option.{slice_get-get_or}
use Rattle.std.proofs.lemmas.Slice.Eq.{bytes_eq-Decides}
use Rattle.std.specs.List.{Contains}
use Rattle.std.specs.List.Sorted.{IsPermutation}
use Rattle.std.specs.Ordering.{nat_cmp}
use Rattle.std.specs.Cmp.Lexicographic.{slice_cmp}
use Rattle.std.specs.FinMap.{empty, entries, len-empty, len-entries}
use Rattle.layout_bytes.specs.declared.slot.Slot.{Slot}
use Rattle.crash_stands.specs.Inodes.{AreDistinct}
use Rattle.crash_stands.specs.Walks.{node_in}
use Rattle.fs_inodes.specs.Names.{names_of}

-- no slot, no name
pub no_names : names_of [] ≡ []
no_names = ap (map (λ e. e.0)) (nil_from_length (entries (empty {X = ℕ} {R = slice_cmp nat_cmp})) (sym (len-entries (empty {X = ℕ} {R = slice_cmp nat_cmp})) ∙ len-empty (slice_cmp nat_cmp) ℕ))

-- an entry that is still to come is a slot
pub is_slot : (slots entries rest : List Slot) (next : ℕ) (e : Slot) → IsPermutation slots entries → drop next entries ≡ e ∷ rest → Contains slots e
is_slot slots entries rest next e same left =
    let first : Contains (drop next entries) e = subst (λ l. Contains l e) (sym left) (0, omega arith, refl) in
    Contains-permutation entries slots e (IsPermutation-sym slots entries same)
    (subst (λ l. Contains l e) (take-append-drop next entries) (Contains-append_right (take next entries) (drop next entries) e first))

-- where a slot stands
pub place_of_slot : (slots : List Slot) (e : Slot) (has : Contains slots e) → slice_get slots has.0 ≡ Some e
place_of_slot slots e has = slice_get-get_or slots has.0 e has.1 ∙ ap Some has.2

-- the name of a slot leads to its node
pub leads_to_node : (slots : List Slot) (e : Slot) → AreDistinct slots → Contains slots e → node_in slots e.name ≡ Some e.node
leads_to_node [] e distinct (k, low, is) = absurd (omega (arith, low))
leads_to_node (x ∷ slots) e distinct (zero, low, is) =
    ap (λ (y : Slot). node_in (y ∷ slots) e.name) is ∙ ap (λ b. cond b (Some e.node) (node_in slots e.name)) ((bytes_eq-Decides e.name e.name).1 refl)
leads_to_node (x ∷ slots) e distinct (suc k, low, is) = by (leads_to_node slots e behind (k, inside, is)) (cases_Bool (bytes_eq x.name e.name))
  where
    inside : k < length slots
    inside = omega (arith, low)

    behind : AreDistinct slots
    behind i j u v at_i at_j same = omega (arith, distinct (suc i) (suc j) u v at_i at_j same)

    by : node_in slots e.name ≡ Some e.node → (bytes_eq x.name e.name ≡ true) ⊎ (bytes_eq x.name e.name ≡ false) → node_in (x ∷ slots) e.name ≡ Some e.node
    by rest (inl same) = absurd (omega (arith, distinct 0 (suc k) x e refl (slice_get-get_or slots k e inside ∙ ap Some is) ((bytes_eq-Decides x.name e.name).0 same)))
    by rest (inr off) = ap (λ b. cond b (Some x.node) (node_in slots e.name)) off ∙ rest
