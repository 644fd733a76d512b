-- The check of all blocks, from what its parts do, over plain variables.
use Rattle.std.proofs.Common.{◌≡◌, ◌⊎◌, ℕ, ◌+◌, Bool, true, false, IsTrue, List, [], length, sym, subst, arith, Err}
use Rattle.base_types.specs.Seal.{Blocks, blocks_of}
use Rattle.layout_bitmap.specs.Bits.{is_bad_bit}
use Rattle.layout_geometry.specs.Geometry.{Geometry}
use Rattle.crash_stands.specs.Stands.{HasNoSnapshots}
use Rattle.engine_blocks.specs.State.{State}
use Rattle.fs_files.specs.Effects.{LooksOnly}
use Rattle.fs_files.specs.Places.{looks_more}
use Rattle.fs_files.specs.Shared.{is_kept}
use Rattle.fs_files.specs.Sound.{TellsKept}
use Rattle.fs_snapshots.specs.Known.{CountsKeepers}
use Rattle.fs_check.specs.declared.block_damage.BlocksRefusal.{BlocksRefusal}
use Rattle.fs_check.specs.declared.block_damage.BlocksRefusal.TheVariants as refusal
use Rattle.fs_check.specs.Broken.{IsBroken}
use Rattle.fs_check.specs.Calls.{IfDamaged, fails_reading}
use Rattle.fs_check.specs.Meeting.{AreBits, IsCheckedTo}
use Rattle.fs_check.specs.SnapshotCalls.{AreSoundNodes}
use Rattle.fs_check.specs.Snapshots.{AreCheckedBelow, Numbers}
use Rattle.fs_check.specs.Whole.{IsDamaged, OnDamage, fails_by, of_blocks}
use Rattle.fs_check.proofs.sound.Nodes.{used_is}
use Rattle.fs_check.proofs.sound.Whole.{IsThrough, LeavesNone, before_end}
use Rattle.fs_check.proofs.keeping.Known.{counts_keepers}

-- what is broken among blocks is broken as a whole
pub blocks_damage : (T : Type 0) (g : Geometry) (m : Blocks) (why : BlocksRefusal) → IfDamaged {T = T} (Err why) (IsBroken g m) → OnDamage (of_blocks why) (IsDamaged g m)
blocks_damage T g m (refusal.Damaged what) is = is
blocks_damage T g m refusal.ReadFault is = tt
blocks_damage T g m refusal.NoMemory is = tt

-- and the whole ends by a read where a part does
pub looks_ended : (T : Type 0) (tells : Bool) (s t u : State) (why : BlocksRefusal) → LooksOnly tells false s t → LooksOnly tells (fails_reading {T = T} (Err why)) t u → LooksOnly tells (fails_by (of_blocks why)) s u
looks_ended T tells s t u (refusal.Damaged what) first second = looks_more tells false s t u first second
looks_ended T tells s t u refusal.ReadFault first second = looks_more tells true s t u first second
looks_ended T tells s t u refusal.NoMemory first second = looks_more tells false s t u first second

-- the bits that were read are those of a later state
pub bits_then : (tells : Bool) (s t : State) (g : Geometry) (read slice : List (List ℕ)) → LooksOnly tells false s t → IsTrue tells → AreBits g s.map read → slice ≡ read → AreBits g t.map slice
bits_then tells s t g read slice looks told are same = subst (AreBits g t.map) (sym same) (subst (λ (m : Blocks). AreBits g m read) (sym (looks.map told)) are)

-- nodes that were all checked have their blocks to themselves, and these are marked
pub sound_nodes : (g : Geometry) (m : Blocks) (bits met : List (List ℕ)) (found : Bool) → IsCheckedTo g m bits met found (g.i + 1) → AreSoundNodes g m
sound_nodes g m bits met found h = record {
  own = λ k l i j b has other. h.sound.blocks.once k i l j b (before_end g m k i b has) (before_end g m l j b other) has other;
  marked = λ k i b has. h.sound.blocks.marked k i b (before_end g m k i b has) has;
}

-- where no snapshot was found there is none
pub no_snapshots : (g : Geometry) (m : Blocks) (bits met : List (List ℕ)) (found : Bool) → IsCheckedTo g m bits met found (g.i + 1) → found ≡ false → HasNoSnapshots g m
no_snapshots g m bits met found h none k node used = h.plain none k node (let is = used_is g m k node used in let upto = is.upto in omega (arith, upto)) used

-- The law that is used: counts of keepers tell which blocks are kept.
abbrev pub Tell : Type 0
Tell = (g : Geometry) (m : Blocks) (counts : List ℕ) → CountsKeepers g m counts → TellsKept g (is_kept counts) m

pub counts_tell : Tell → (g : Geometry) (m : Blocks) (numbers : Numbers) (counts : List ℕ) → AreCheckedBelow g m (g.i + 1) numbers counts → (counts ≡ []) ⊎ (length counts ≡ g.n) → TellsKept g (is_kept counts) m
counts_tell tell g m numbers counts h room = tell g m counts (counts_keepers g m numbers counts h room)

-- all parts went well
pub through : Tell → (g : Geometry) (m : Blocks) (bits met : List (List ℕ)) (found : Bool) (numbers : Numbers) (counts : List ℕ) → ((b : ℕ) → is_bad_bit g (blocks_of bits) b ≡ false) → IsCheckedTo g m bits met found (g.i + 1) → AreCheckedBelow g m (g.i + 1) numbers counts
    → (counts ≡ []) ⊎ (length counts ≡ g.n) → LeavesNone g bits met counts → IsThrough g m bits met found counts
through tell g m bits met found numbers counts good checked below room rest = record {
  good = good;
  checked = checked;
  tells = counts_tell tell g m numbers counts below room;
  snapshots = λ n node used kind. below.good n node (let is = used_is g m n node used in let upto = is.upto in omega (arith, upto)) used kind;
  rest = rest;
}
