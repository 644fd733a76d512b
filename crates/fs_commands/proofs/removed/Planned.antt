-- The plan of a command by which a name goes makes the tree of the command.
use Rattle.std.proofs.Common.{◌≡◌, ℕ, ◌+◌, ◌≤◌, ◌==◌, if◌then◌else◌, IsTrue, Bool, false, List, [], length, None, sym, subst, ap, ap₂, ◌∙◌, arith}
use Rattle.base_types.specs.Seal.{Blocks}
use Rattle.layout_geometry.specs.Geometry.{Geometry, bitmap_blocks}
use Rattle.lang_tree.specs.declared.command.Kind.{Kind}
use Rattle.lang_tree.specs.Conditions.{least_unused, refusal}
use Rattle.lang_tree.specs.Figures.{Figures, blocks_for, removing, release}
use Rattle.lang_tree.specs.Sharing.{SharedPlaces, alone_from}
use Rattle.lang_tree.specs.Step.{Session}
use Rattle.crash_stands.specs.Maps.{IsMapOf}
use Rattle.crash_stands.specs.Stands.{AreSound}
use Rattle.crash_stands.specs.Walks.{LeadsTo}
use Rattle.fs_inodes.specs.Figures.{blocks_lost, cost_over_by, slots_above}
use Rattle.fs_inodes.specs.Lookups.{bytes_of, inode_at, links_in}
use Rattle.fs_inodes.specs.Refusals.{reason}
use Rattle.engine_blocks.specs.State.{Bookkeeping, State, reusable_blocks}
use Rattle.fs_files.specs.Calls.{files_in, places_in}
use Rattle.fs_files.specs.Drafts.{DraftState, nothing_drafted}
use Rattle.fs_files.specs.Effects.{LooksOnly}
use Rattle.fs_files.specs.Shared.{is_kept}
use Rattle.fs_files.specs.Sound.{IsDraftOf}
use Rattle.fs_dirs.specs.Directories.{inodes_in}
use Rattle.fs_commands.specs.declared.paths.NodeFound.{NodeFound}
use Rattle.fs_commands.specs.declared.removing.Named.{Named}
use Rattle.fs_session.specs.Changes.{ChangesAtMost, IsWithinCost, Uses}
use Rattle.fs_session.specs.Commands.{alone_on, figures_on, places_of, shared_on}
use Rattle.fs_commands.specs.Figures.{AreFiguresOf, HasFacts, LosesBlocks, kept_places}
use Rattle.fs_session.specs.Plans.{HasDrafted, MakesTree, MayBeMade, StaysBeside}
use Rattle.fs_commands.specs.Removing.{KnowsLoss, LosesName, blocks_gone, lose_cmd, use_after}
use Rattle.fs_session.specs.declared.unused.NodeUse.{NodeUse}
use Rattle.fs_session.specs.Sessions.{KeepsUsed, inodes}
use Rattle.fs_commands.proofs.looking.Found.{same_files, uses_of}
use Rattle.fs_session.specs.NothingKept.{renews_without_bytes, uses_unrenewed}
use Rattle.fs_session.specs.Space.{HasRoom, none_renewed}
use Rattle.fs_commands.proofs.AtMost.{altered_few}
use Rattle.fs_commands.proofs.counting.Met.{shared_here}
use Rattle.fs_commands.proofs.counting.Touched.{alone_count}
use Rattle.fs_commands.proofs.keeping.Leaves.{makes_stay}
use Rattle.fs_commands.proofs.removed.Accepted.{LossLaw, accepted_removes, lose_keeps, lose_puts_none, loss_done, loss_mapped, reason_is}
use Rattle.fs_commands.proofs.Given.{RefusalLaw, FiguresLaw, SharedLaw}
use Rattle.fs_commands.proofs.Weighing.{figures_as}

-- What goes with a link of a node, by what snapshots keep of its blocks.
module _ (s : State) (counts : List ℕ) (node : NodeFound) (gone : ℕ) (lost : LosesBlocks s counts node gone) where
  -- it is what goes with the path that leads to the node
  pub lost_with_path : (f : Session) (path : List (List ℕ)) → SharedLaw s f counts → LeadsTo (inodes s) path node.number → HasFacts (inodes s) path node.facts.links node.facts.size → gone ≡ blocks_lost (shared_on s f) (inodes s) path
  lost_with_path f path shared leads facts =
      lost ∙ ap₂ (λ l n. if l == 1 then alone_from (kept_places counts (places_of s node.number)) 0 (blocks_for n) else 0) facts.0 facts.1
      ∙ ap (λ (sh : SharedPlaces). if links_in (inode_at (inodes s) path) == 1 then alone_from sh 0 (blocks_for (length (bytes_of (inode_at (inodes s) path)))) else 0) (sym (shared_here s f path node.number counts shared leads))

  -- and what a draft frees of it
  pub lost_alone : length (places_of s node.number) ≡ blocks_for node.facts.size → gone ≡ blocks_gone (is_kept counts) node.facts (places_of s node.number)
  lost_alone many =
      lost ∙ ap (λ n. if node.facts.links == 1 then n else 0)
      (ap (alone_from (kept_places counts (places_of s node.number)) 0) (sym many) ∙ alone_count counts (places_of s node.number))

-- A command that takes a path away, as it is weighed: what goes, and the figures.
pub record LossIs (kind : Kind) (s : State) (path : List (List ℕ)) (n : Named) (counts : List ℕ) (f : Session) (fs : Figures) : Type 0 where
  pub known : KnowsLoss kind s.books.geom.layout (files_in s nothing_drafted) path n
  pub map : IsMapOf f.limit.nodes (inodes s) f.tree
  pub accepted : refusal f.limit f.tree (lose_cmd kind path) ≡ None
  pub removes : figures_on s f (lose_cmd kind path) ≡ removing (bitmap_blocks s.books.geom) (release s.books.geom.layout n.count + blocks_gone (is_kept counts) n.entry.node.facts (places_of s n.entry.node.number))
  pub figures : figures_on s f (lose_cmd kind path) ≡ fs

pub loss_is : (kind : Kind) (s : State) (path : List (List ℕ)) (n : Named) (counts : List ℕ) (gone : ℕ) (f : Session) (fs : Figures) (bitmap : ℕ) → KnowsLoss kind s.books.geom.layout (files_in s nothing_drafted) path n → IsMapOf f.limit.nodes (inodes s) f.tree → RefusalLaw → FiguresLaw → SharedLaw s f counts
    → LosesBlocks s counts n.entry.node gone → length (places_of s n.entry.node.number) ≡ blocks_for n.entry.node.facts.size → bitmap ≡ bitmap_blocks s.books.geom
    → (n.count ≡ slots_above (inodes s) path → gone ≡ blocks_lost (shared_on s f) (inodes s) path → AreFiguresOf s.books.geom.layout bitmap (shared_on s f) (inodes s) (lose_cmd kind path) fs) → f.limit.layout ≡ s.books.geom.layout → LossIs kind s path n counts f fs
loss_is kind s path n counts gone f fs bitmap known map refusals counted shared lost many is are same =
    let none : reason f.limit.layout (least_unused f.limit.nodes f.tree) f.tree.snapshots (inodes s) (lose_cmd kind path) ≡ None = reason_is f.limit.layout kind (least_unused f.limit.nodes f.tree) f.tree.snapshots (inodes s) path ∙ known.accepted in
    let accepted = refusals f.limit (inodes s) f.tree (lose_cmd kind path) map ∙ none in
    let with_path = lost_with_path s counts n.entry.node gone lost f path shared known.to_node known.facts in
    record {
      known = known;
      map = map;
      accepted = accepted;
      removes = counted (bitmap_blocks s.books.geom) (shared_on s f) (alone_on s f) f (inodes s) (lose_cmd kind path) map
          ∙ ap (cost_over_by (bitmap_blocks s.books.geom) (shared_on s f) (alone_on s f) f.limit f.tree.snapshots (inodes s) (lose_cmd kind path)) none
          ∙ accepted_removes kind (bitmap_blocks s.books.geom) (shared_on s f) (alone_on s f) f.limit f.tree.snapshots (inodes s) path n.count gone known.accepted known.above with_path
          ∙ ap₂ (λ l g. removing (bitmap_blocks s.books.geom) (release l n.count + g)) same (lost_alone s counts n.entry.node gone lost many);
      figures = figures_as s f (lose_cmd kind path) bitmap (inodes s) fs s.books.geom.layout same is (are known.above with_path) map accepted;
    }

-- the tree of such a loss
pub makes_loss : (kind : Kind) (s : State) (path : List (List ℕ)) (n : Named) (counts : List ℕ) (f : Session) (fs : Figures) (a : LossIs kind s path n counts f fs) (now : State) (d : DraftState) → d.kept ≡ counts → StaysBeside d now → HasRoom s.books fs → LosesName s now d a.known.name n → LossLaw kind
    → ((g : Geometry) (d : DraftState) (freed : ℕ) → ChangesAtMost d 4 0 0 freed → IsWithinCost g d (removing (bitmap_blocks g) freed).cost) → now.books ≡ s.books
    → MakesTree (lose_cmd kind path) d fs.cost s now f
makes_loss kind s path n counts f fs a now d kept stays room loses law priced books =
    let freed : ℕ = release s.books.geom.layout n.count + blocks_gone (is_kept d.kept) n.entry.node.facts (places_of s n.entry.node.number) in
    let removes : figures_on s f (lose_cmd kind path) ≡ removing (bitmap_blocks s.books.geom) freed
    = a.removes ∙ ap (λ (c : List ℕ). removing (bitmap_blocks s.books.geom) (release s.books.geom.layout n.count + blocks_gone (is_kept c) n.entry.node.facts (places_of s n.entry.node.number))) (sym kept) in
    record {
      accepted = a.accepted;
      answer = loss_done kind f path a.accepted;
      costs = ap (λ (fs : Figures). fs.cost) a.figures;
      room = subst (λ (fs : Figures). HasRoom s.books fs) (sym a.figures) room;
      runs = λ k some grown. absurd (omega (arith, some, ap (λ (fs : Figures). fs.need) removes));
      reads = loses.reads;
      map = loss_mapped kind law f (inodes s) (inodes_in now d) path a.known.up a.known.name n.dir n.entry.node.number a.known.is a.map a.accepted a.known.leads loses.takes;
      snapshots = makes_stay (lose_cmd kind path) d now f (lose_keeps kind path) stays;
      within = subst (λ (g : Geometry). IsWithinCost g d fs.cost) (sym (ap (λ (k : Bookkeeping). k.geom) books))
          (subst (λ (c : ℕ). IsWithinCost s.books.geom d c) (ap (λ (fs : Figures). fs.cost) (sym removes ∙ a.figures))
          (priced s.books.geom d freed (altered_few 4 freed [] d loses.alters)));
      uses = uses_unrenewed s f (lose_cmd kind path) (renews_without_bytes s f (lose_cmd kind path) (lose_puts_none kind path)) _ _ (reusable_blocks now.books) (places_of s) (places_in now d) d
          (subst (λ (fs : Figures). Uses fs.need fs.freed (reusable_blocks now.books) none_renewed (places_of s) (places_in now d) d) (sym removes) (record { taken = loses.alters.taken; freed_are = omega (arith, loses.alters.freed); placed = loses.placed }));
      enough = omega (arith, ap (λ (fs : Figures). fs.need) removes);
      rests = λ enough. books;
    }

-- The draft may be made.
pub loss_made : (tells : Bool) (s now : State) (d : DraftState) (n : Named) (fs : Figures) (nodes : NodeUse) → IsDraftOf tells now d → (IsTrue tells → AreSound now.books.geom now.map → (m : Blocks) → HasDrafted now d m → AreSound now.books.geom m) → LooksOnly tells false s now → HasRoom s.books fs
    → nodes ≡ use_after n.entry.node → (IsTrue tells → KeepsUsed (use_after n.entry.node) (files_in s nothing_drafted) (files_in now d)) → MayBeMade tells d fs.cost nodes now
loss_made tells s now d n fs nodes draft sound looks room is used = record {
  draft = draft;
  sound = sound;
  weight = subst (λ (k : Bookkeeping). k.running.weight + fs.cost ≤ k.room) (sym looks.books) room.weight;
  used = λ told. uses_of nodes s now d (same_files tells false s now nothing_drafted looks told) (subst (λ (k : NodeUse). KeepsUsed k (files_in s nothing_drafted) (files_in now d)) (sym is) (used told));
}
