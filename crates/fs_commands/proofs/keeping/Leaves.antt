-- When a draft leaves the snapshots as they are: where just nodes that are none changed.
use Rattle.std.proofs.Common.{⊎_elim, ◌≡◌, ◌≢◌, ◌↔◌, ℕ, Bool, false, IsTrue, List, None, Some, refl, sym, subst, ap, ap₂, ◌∙◌}
use Rattle.std.proofs.lemmas.Bool.{cases_eq, true≢false}
use Rattle.std.proofs.lemmas.Option.{none-some, same_Some}
use Rattle.base_types.specs.Seal.{Blocks}
use Rattle.layout_geometry.specs.Geometry.{Geometry}
use Rattle.layout_bytes.specs.declared.node.NodeKind.TheVariants.{Snapshot}
use Rattle.lang_tree.specs.declared.command.Cmd.{Cmd}
use Rattle.lang_tree.specs.declared.command.Cmd.TheVariants.{Snap, Unsnap}
use Rattle.lang_tree.specs.Step.{Session, changes_snapshots}
use Rattle.crash_stands.specs.Files.{FileNode, Files}
use Rattle.engine_blocks.specs.State.{State}
use Rattle.fs_files.specs.Calls.{files_in, places_in, places_of as places_by}
use Rattle.fs_files.specs.Drafts.{DraftState, drafted, nothing_drafted}
use Rattle.fs_files.specs.Effects.{LooksAndSettles}
use Rattle.fs_files.specs.Shared.{is_kept}
use Rattle.fs_files.specs.Sound.{TellsKept}
use Rattle.fs_commands.specs.Looks.{IsNoSnapshot}
use Rattle.fs_session.specs.Commands.{grown_by, grown_on, places_of}
use Rattle.fs_session.specs.Plans.{MakesSnapshots, StaysBeside}
use Rattle.fs_session.specs.Sessions.{MayBegin, Stands, inodes}
use Rattle.fs_session.specs.Staying.{stands_still}
use Rattle.fs_session.specs.Snapshots.{LeavesSnapshots}

-- nothing is no snapshot, and neither is a node of another kind
pub none_is_none : IsNoSnapshot None
none_is_none x is = absurd (none-some x is)

pub kind_is_none : (x : FileNode) → x.kind ≢ Snapshot → IsNoSnapshot (Some x)
kind_is_none x other y is kind = other (ap (λ (z : FileNode). z.kind) (same_Some x y is) ∙ kind)

module _ (old new : Files) (old_places new_places : ℕ → List ℕ) where
  -- one node changed, which is none before and after
  pub leaves_but : (k : ℕ) → ((l : ℕ) → l ≢ k → new l ≡ old l) → ((l : ℕ) → l ≢ k → new_places l ≡ old_places l) → IsNoSnapshot (old k) → IsNoSnapshot (new k) → LeavesSnapshots old new old_places new_places
  leaves_but k files places before after = record {
    files = λ l x kind. ⊎_elim
        (λ e. ((λ is. absurd (before x (ap old (sym e) ∙ is) kind)), (λ is. absurd (after x (ap new (sym e) ∙ is) kind))))
        (λ d. ((λ is. files l d ∙ is), (λ is. sym (files l d) ∙ is))) (cases_eq l k);
    places = λ l x kind is. ⊎_elim
        (λ e. absurd (before x (ap old (sym e) ∙ is) kind))
        (λ d. places l d) (cases_eq l k);
  }

-- nothing changed
pub leaves_all : (files new : Files) (places new_places : ℕ → List ℕ) → ((l : ℕ) → new l ≡ files l) → ((l : ℕ) → new_places l ≡ places l) → LeavesSnapshots files new places new_places
leaves_all files new places new_places same alike = record {
  files = λ l x kind. ((λ is. same l ∙ is), (λ is. sym (same l) ∙ is));
  places = λ l x kind is. alike l;
}

-- one change behind the other
pub leaves_then : (old mid new : Files) (old_places mid_places new_places : ℕ → List ℕ) → LeavesSnapshots old mid old_places mid_places → LeavesSnapshots mid new mid_places new_places → LeavesSnapshots old new old_places new_places
leaves_then old mid new old_places mid_places new_places one two = record {
  files = λ l x kind. ((λ is. (two.files l x kind).0 ((one.files l x kind).0 is)), (λ is. (one.files l x kind).1 ((two.files l x kind).1 is)));
  places = λ l x kind is. two.places l x kind ((one.files l x kind).0 is) ∙ one.places l x kind is;
}

-- a state with this geometry and map
abbrev over : State → Geometry → Blocks → State
over t g m = record t { books = record t.books { geom = g }; map = m }

-- A draft that stands beside what is kept stays so over blocks with the same map and geometry.
pub stays_beside : (tells read_failed failed : Bool) (s t : State) (d : DraftState) (counts : List ℕ) → LooksAndSettles tells read_failed failed s t → MayBegin tells s counts → d.kept ≡ counts → IsTrue tells
    → LeavesSnapshots (files_in s nothing_drafted) (files_in t d) (places_of s) (places_in t d) → StaysBeside d t
stays_beside tells read_failed failed s t d counts settles may kept told leaves = record {
  kept = subst (λ (c : List ℕ). TellsKept t.books.geom (is_kept c) t.map) (sym kept)
      (subst (λ (g : Geometry). TellsKept g (is_kept counts) t.map) (sym settles.pipeline.geom) (subst (λ (m : Blocks). TellsKept s.books.geom (is_kept counts) m) (sym (settles.map told)) (may.kept told)));
  leaves = subst (λ (g : Geometry). LeavesSnapshots (files_in (over t g t.map) nothing_drafted) (files_in t d) (places_of (over t g t.map)) (places_in t d)) (sym settles.pipeline.geom)
      (subst (λ (m : Blocks). LeavesSnapshots (files_in (over t s.books.geom m) nothing_drafted) (files_in t d) (places_of (over t s.books.geom m)) (places_in t d)) (sym (settles.map told)) leaves);
}

-- a tree stands there still
pub stands_settled : (tells read_failed failed : Bool) (s t : State) → LooksAndSettles tells read_failed failed s t → IsTrue tells → Stands s → Stands t
stands_settled tells read_failed failed s t settles told stands = stands_still s t settles.pipeline.geom (settles.map told) stands

-- and the blocks of nodes in a draft are those that they were
pub settled_places : (tells read_failed failed : Bool) (s t : State) (d : DraftState) → LooksAndSettles tells read_failed failed s t → IsTrue tells → places_in t d ≡ places_in s d
settled_places tells read_failed failed s t d settles told = ap₂ (λ (g : Geometry) (m : Blocks). places_by g (drafted d m)) settles.pipeline.geom (settles.map told)

-- A command that makes no snapshot and takes none away leaves all as they are.
pub makes_stay : (cmd : Cmd) (d : DraftState) (now : State) (f : Session) → changes_snapshots cmd ≡ false → StaysBeside d now → MakesSnapshots cmd d now f
makes_stay (Snap name) d now f keeps stays = absurd (true≢false keeps)
makes_stay (Unsnap name) d now f keeps stays = absurd (true≢false keeps)
makes_stay cmd d now f keeps stays = stays

-- and grows the node at its path
pub grows_alike : (s : State) (cmd : Cmd) → changes_snapshots cmd ≡ false → grown_on s cmd ≡ grown_by (inodes s) cmd
grows_alike s (Snap name) keeps = absurd (true≢false keeps)
grows_alike s cmd keeps = refl
