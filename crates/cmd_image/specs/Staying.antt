-- Lemmas on damage, counts, and answers, that crates above cite too. They add no meaning to the promises.
use Rattle.std.proofs.Common.{◌≡◌, ℕ, ◌≤◌, Bool, true, false, List, Option, Some, None, Result, Ok, Err, refl, sym, subst, arith}
use Rattle.std.specs.Io.KnownBytes.{Keeps}
use Rattle.base_types.specs.Counts.{Rose}
use Rattle.base_types.specs.Seal.{Blocks}
use Rattle.layout_geometry.specs.Geometry.{Geometry}
use Rattle.lang_tree.specs.Tree.{Tree}
use Rattle.crash_stands.specs.Stands.{IsTreeOf}
use Rattle.fs_check.specs.declared.checking.CheckRefusal.{CheckRefusal}
use Rattle.fs_check.specs.Whole.{IsDamaged, OnDamage}
use Rattle.cmd_image.specs.declared.make_refusal.MakeRefusal.{MakeRefusal}
use Rattle.cmd_image.specs.declared.make_refusal.MakeRefusal.TheVariants.{Fault, NoMemory}

-- what is broken in one map is so in the same one
pub damage_stays : (g k : Geometry) (m q : Blocks) (why : CheckRefusal) → k ≡ g → q ≡ m → OnDamage why (IsDamaged g m) → OnDamage why (IsDamaged k q)
damage_stays g k m q why geom map damage = subst (λ (x : Geometry). OnDamage why (IsDamaged x q)) (sym geom) (subst (λ (x : Blocks). OnDamage why (IsDamaged g x)) (sym map) damage)

-- and no tree stands there where none stood
pub none_stays : (g k : Geometry) (m q : Blocks) (why : CheckRefusal) → k ≡ g → q ≡ m → OnDamage why (λ _. (t : Tree) → IsTreeOf g m t → ⊥) → OnDamage why (λ _. (t : Tree) → IsTreeOf k q t → ⊥)
none_stays g k m q why geom map none = subst (λ (x : Geometry). OnDamage why (λ _. (t : Tree) → IsTreeOf x q t → ⊥)) (sym geom) (subst (λ (x : Blocks). OnDamage why (λ _. (t : Tree) → IsTreeOf g x t → ⊥)) (sym map) none)

-- a count that rose rose since an earlier time too
pub rose_before : (first before now : ℕ) → first ≤ before → Rose before now → Rose first now
rose_before first before now le rose = omega (arith, le, rose)

-- whether the answer of a formatting or of a copy is a fault
unfoldable pub is_make_fault : Result (Unit {0}) MakeRefusal → Bool
is_make_fault (Ok x) = false
is_make_fault (Err Fault) = true
is_make_fault (Err NoMemory) = false

-- bytes that nothing was taken of
pub keeps : (taken : Option (List ℕ)) → Keeps taken taken
keeps None = tt
keeps (Some xs) = refl
