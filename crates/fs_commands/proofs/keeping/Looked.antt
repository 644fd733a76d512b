-- A draft behind reads alone, or behind settlings, that leaves the snapshots as they are: it stands beside what is kept, and leaves sound blocks.
use Rattle.std.proofs.Common.{◌≡◌, ℕ, Bool, false, IsTrue, List}
use Rattle.base_types.specs.Seal.{Blocks}
use Rattle.crash_stands.specs.Stands.{AreSound, IsTreeOf}
use Rattle.lang_tree.specs.Tree.{Tree}
use Rattle.engine_blocks.specs.State.{State}
use Rattle.fs_files.specs.Calls.{files_in, places_in}
use Rattle.fs_files.specs.Drafts.{DraftState, nothing_drafted}
use Rattle.fs_files.specs.Effects.{LooksAndSettles, LooksOnly}
use Rattle.fs_files.specs.Sound.{IsDraftOf}
use Rattle.fs_session.specs.Commands.{places_of}
use Rattle.fs_session.specs.Plans.{HasDrafted, StaysBeside}
use Rattle.fs_session.specs.Sessions.{MayPlan}
use Rattle.fs_session.specs.Snapshots.{LeavesSnapshots}
use Rattle.fs_commands.proofs.Given.{Rests}
use Rattle.fs_commands.proofs.keeping.Leaves.{stands_settled, stays_beside}
use Rattle.fs_commands.proofs.planning.Looking.{advances, looked}

-- a draft that leaves the snapshots of a tree leaves sound blocks
abbrev pub SoundLaw : Bool → State → Type 0
SoundLaw tells now = IsTrue tells → (d : DraftState) (m : Blocks) (t : Tree) → IsTreeOf now.books.geom now.map t → IsDraftOf tells now d → StaysBeside d now → HasDrafted now d m → AreSound now.books.geom m

-- So it is behind what may have settled.
module _ (tells : Bool) (s t : State) (counts : List ℕ) (d : DraftState) (settles : LooksAndSettles tells false false s t) (may : MayPlan tells s counts) (kept : d.kept ≡ counts)
    (leaves : IsTrue tells → LeavesSnapshots (files_in s nothing_drafted) (files_in t d) (places_of s) (places_in t d)) where
  pub settled_stays : IsTrue tells → StaysBeside d t
  settled_stays told = stays_beside tells false false s t d counts settles may.begin kept told (leaves told)

  pub settled_sound : SoundLaw tells t → IsDraftOf tells t d → IsTrue tells → AreSound t.books.geom t.map → (m : Blocks) → HasDrafted t d m → AreSound t.books.geom m
  settled_sound law draft told sound m has =
      let tree = stands_settled tells false false s t settles told (may.stands told) in
      law told d m tree.0 tree.1 draft (settled_stays told) has

-- and behind reads
pub looks_settle : {S : Type 0} (tells : Bool) (state : S → State) → Rests tells state → (old new : S) → (state old).books.stopped ≡ false → LooksOnly tells false (state old) (state new) → LooksAndSettles tells false false (state old) (state new)
looks_settle tells state rests old new going looks = looked tells false (state old) (state new) going looks (advances tells state rests false old new looks)
