-- Looks at blocks, one behind the other, and what stays the same of the files.
use Rattle.std.proofs.Common.{◌≡◌, Bool, false, ap, ◌∙◌}
use Rattle.engine_blocks.specs.State.{Bookkeeping, State}
use Rattle.fs_files.specs.Asks.{MayRead}
use Rattle.fs_files.specs.Effects.{LooksOnly}
use Rattle.fs_files.specs.NodeMaps.{NodeMap}
use Rattle.fs_check.specs.declared.damage.TreeDamage.{TreeDamage}
use Rattle.fs_check.specs.declared.damage.TreeRefusal.{TreeRefusal}
use Rattle.fs_check.specs.declared.damage.TreeRefusal.TheVariants as tree
use Rattle.fs_check.specs.Reading.{IfDamaged, IsUndamaged}
pub use Rattle.fs_files.specs.Places.{looks_none, looks_more}

-- nodes that are the same have the same files
pub same_files : (v w : NodeMap) → w ≡ v → w.files ≡ v.files
same_files v w same = ap (λ (x : NodeMap). x.files) same

-- and what may be read may be read still
pub read_stays : (tells : Bool) (s t : State) (P Q : Type 0) → LooksOnly tells false s t → (P → Q) → MayRead P s → MayRead Q t
read_stays tells s t P Q looks on may = record { going = ap (λ (b : Bookkeeping). b.stopped) looks.books ∙ may.going; may = on may.may }

-- What was seen is what is there, after a look too.

pub none_broken : (P : TreeDamage → Type 0) (why : TreeRefusal) → IsUndamaged why → IfDamaged why P
none_broken P (tree.Damaged what) h = absurd h
none_broken P tree.ReadFault h = h
none_broken P tree.NoMemory h = h
