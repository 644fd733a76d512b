-- What a tree's snapshots are in blocks, by their names and numbers.
use Rattle.std.proofs.Common.{◌≡◌, ℕ, List, Option, Some, None, Result, Ok, Err, IfOk, OnOk, OnErr, option_map, refl, sym, ap, subst, ◌∙◌}
use Rattle.std.proofs.lemmas.Option.{none-some, same_Some}
use Rattle.std.specs.FinMap.{get}
use Rattle.base_types.specs.Seal.{Blocks}
use Rattle.layout_geometry.specs.Geometry.{Geometry}
use Rattle.lang_tree.specs.Tree.{Kept, Tree}
use Rattle.crash_stands.specs.Stands.{IsTreeOf, KeepsTree}
use Rattle.fs_files.specs.Calls.{places_of, places_or_none}
use Rattle.fs_snapshots.specs.Known.{snapshot_number}
use Rattle.fs_commands.specs.Snapping.{IsSnapshot}

-- the number of a snapshot by its name is the one that the tree has
abbrev pub NamedLaw : Type 0
NamedLaw = (g : Geometry) (m : Blocks) (t : Tree) (name : List ℕ) → IsTreeOf g m t → snapshot_number g m name ≡ option_map (λ (k : Kept). k.number) (get t.snapshots name)

pub ok_more : {A E : Type 0} (P Q : A → Type 0) (r : Result A E) → ((x : A) → P x → Q x) → IfOk r P → IfOk r Q
ok_more P Q (Ok x) more h = more x h
ok_more P Q (Err e) more h = tt

number_none : (o : Option Kept) → option_map (λ (k : Kept). k.number) o ≡ None → o ≡ None
number_none None e = refl
number_none (Some k) e = absurd (none-some k.number (sym e))

number_some : (o : Option Kept) (n : ℕ) → option_map (λ (k : Kept). k.number) o ≡ Some n → (k : Kept) × (o ≡ Some k) × (k.number ≡ n)
number_some None n e = absurd (none-some n e)
number_some (Some k) n e = (k, refl, same_Some k.number n e)

module _ (g : Geometry) (m : Blocks) (t : Tree) (name : List ℕ) (stands : IsTreeOf g m t) (law : NamedLaw) where
  -- no snapshot has the name
  pub none_named : snapshot_number g m name ≡ None → get t.snapshots name ≡ None
  none_named e = number_none (get t.snapshots name) (sym (law g m t name stands) ∙ e)

  -- or this one
  pub one_named : (n : ℕ) → snapshot_number g m name ≡ Some n → (k : Kept) × (get t.snapshots name ≡ Some k) × (k.number ≡ n)
  one_named n e = number_some (get t.snapshots name) n (sym (law g m t name stands) ∙ e)

  pub named_is : (n : ℕ) → snapshot_number g m name ≡ Some n → IsSnapshot g m n
  named_is n e = by (one_named n e)
    where
      by : (k : Kept) × (get t.snapshots name ≡ Some k) × (k.number ≡ n) → IsSnapshot g m n
      by (k, at, is) = let h = stands.keeps name k at in subst (IsSnapshot g m) is (h.node, h.is_node, h.kind)

-- a snapshot of the tree keeps in its blocks what the tree says
pub keeps_there : (g : Geometry) (m : Blocks) (t : Tree) (name : List ℕ) (k : Kept) → IsTreeOf g m t → get t.snapshots name ≡ Some k → KeepsTree g m (places_of g m k.number) k
keeps_there g m t name k stands at = let h = stands.keeps name k at in subst (λ ps. KeepsTree g m ps k) (sym (ap places_or_none h.is_node)) h.keeps

pub on_ok_more : {T E : Type 0} {A B : Type 0} (r : Result T E) → (A → B) → OnOk r A → OnOk r B
on_ok_more (Ok x) more h = more h
on_ok_more (Err e) more h = tt

pub on_err_more : {T E : Type 0} {A B : Type 0} (r : Result T E) → (A → B) → OnErr r A → OnErr r B
on_err_more (Ok x) more h = tt
on_err_more (Err e) more h = more h
