-- The plan of unsnap makes the tree of the command: the snapshot is gone, and nothing else.
use Rattle.std.proofs.Common.{◌≡◌, ◌≢◌, ◌⊎◌, inl, inr, ℕ, ◌+◌, ◌*◌, ◌<◌, ◌≤◌, min, Bool, false, IsTrue, List, [], ◌∷◌, ◌++◌, length, is_none, Option, None, Some, option_and_then, refl, sym, ap, ap₂, subst, ◌∙◌, arith}
use Rattle.std.proofs.lemmas.Bool.{cases_eq}
use Rattle.std.proofs.lemmas.List.{length-append}
use mathlib.Core.Path.{fun_ext}
use Rattle.std.specs.FinMap.{get, remove}
use Rattle.base_types.specs.declared.layout.Layout.{Layout}
use Rattle.base_types.specs.Seal.{Blocks}
use Rattle.layout_geometry.specs.Geometry.{Geometry, IsGeometry, bitmap_blocks}
use Rattle.layout_bytes.specs.declared.node.NodeKind.{NodeKind}
use Rattle.layout_bytes.specs.declared.node.NodeKind.TheVariants.{Snapshot}
use Rattle.lang_tree.specs.declared.command.Cmd.TheVariants.{Unsnap}
use Rattle.lang_tree.specs.declared.command.Refusal.TheVariants.{NoSnap}
use Rattle.lang_tree.specs.Conditions.{refusal, when}
use Rattle.lang_tree.specs.Figures.{Figures, kept_blocks, snapshot_blocks}
use Rattle.lang_tree.specs.Sharing.{figures_over_by, unsnapping}
use Rattle.lang_tree.specs.Step.{Session, answered, unsnapped}
use Rattle.lang_tree.specs.Tree.{Kept, Tree}
use Rattle.crash_snapshots.specs.Taking.{TakesSnapshot}
use Rattle.crash_stands.specs.Files.{FileNode, Files, files_of}
use Rattle.crash_stands.specs.Inodes.{AreInodesOf, Inode, Inodes, IsInodeOf, inode_by, inode_of, inodes_of}
use Rattle.crash_stands.specs.Maps.{IsMapOf}
use Rattle.crash_stands.specs.Stands.{IsTreeOf}
use Rattle.engine_blocks.specs.State.{Bookkeeping, State, reusable_blocks}
use Rattle.fs_files.specs.Calls.{files_in, places_in, IsWithFile}
use Rattle.fs_files.specs.Drafts.{DraftState}
use Rattle.fs_files.specs.Effects.{LooksOnly}
use Rattle.fs_files.specs.Nodes.{node_block}
use Rattle.fs_files.specs.Sound.{IsDraftOf}
use Rattle.fs_snapshots.specs.Known.{CountsKeepers, snapshot_number}
use Rattle.fs_session.specs.declared.unused.NodeUse.TheVariants.{Dropped}
use Rattle.fs_session.specs.Changes.{IsWithinCost, Uses}
use Rattle.fs_session.specs.Commands.{alone_on, figures_on, places_of, shared_on}
use Rattle.fs_session.specs.NothingKept.{renews_without_bytes, uses_unrenewed}
use Rattle.fs_session.specs.Plans.{HasDrafted, MakesTree, MayBeMade}
use Rattle.fs_session.specs.Sessions.{IsSession, inodes}
use Rattle.fs_session.specs.Snapshots.{alone_among, kept_files_of, live_files}
use Rattle.fs_session.specs.Space.{HasRoom, none_renewed}
use Rattle.fs_commands.specs.declared.snapping.Gone.{Gone}
use Rattle.fs_commands.specs.Snapping.{DraftsLoss, MayTake, MayUnsnap, figures_to_unsnap}
use Rattle.fs_commands.proofs.keeping.Laid.{inodes_laid, reads_laid}
use Rattle.fs_commands.proofs.Placing.{placed_by}
use Rattle.fs_commands.proofs.planning.Behind.{may_plan_still}
use Rattle.fs_commands.proofs.snapped.Answers.{NamedLaw, one_named}
use Rattle.fs_commands.proofs.snapped.Kept.{still}
use Rattle.fs_commands.proofs.snapped.Live.{DataLaw}
use Rattle.fs_commands.proofs.unsnapped.Lost.{BesideLaw, beside_is, goes_is}
use Rattle.fs_commands.proofs.unsnapped.Taken.{BareLaw, EachLaw, SameLaw, takes}

-- Behind reads the snapshot may go still, and its draft made the same of the blocks.
module _ (tells : Bool) (s t : State) (looks : LooksOnly tells false s t) (told : IsTrue tells) where
  goes_at : (name counts : List ℕ) (gone : Gone) → MayUnsnap tells s name counts gone → MayUnsnap tells (record t { books = s.books; map = s.map }) name counts gone
  goes_at name counts gone h = record { number = h.number; «data» = h.«data»; weight = h.weight; named = h.named; kept = h.kept; alone = h.alone; cost = h.cost; room = h.room }

  pub goes_still : (name counts : List ℕ) (gone : Gone) → MayUnsnap tells s name counts gone → MayUnsnap tells t name counts gone
  goes_still name counts gone h = subst (λ (m : Blocks). MayUnsnap tells (record t { map = m }) name counts gone) (sym (looks.map told))
      (subst (λ (b : Bookkeeping). MayUnsnap tells (record t { books = b; map = s.map }) name counts gone) (sym looks.books) (goes_at name counts gone h))

  pub take_still : (name : List ℕ) (gone : Gone) (rest : List ℕ) → MayTake tells s name gone rest → MayTake tells t name gone rest
  take_still name gone rest h = record {
    counts = h.counts;
    may = may_plan_still tells s t looks h.may;
    known = λ is. still tells s t looks (λ g m. CountsKeepers g m h.counts) is (h.known is);
    goes = goes_still name h.counts gone h.goes;
    out = h.out;
  }

  loss_at : (n : ℕ) (alone : List ℕ) (d : DraftState) → DraftsLoss s t n alone d → DraftsLoss (record t { books = s.books; map = s.map }) t n alone d
  loss_at n alone d h = record { file = h.file; places = h.places; taken = h.taken; freed = h.freed; fresh = h.fresh; only = h.only; changes = h.changes }

  pub loss_still : (n : ℕ) (alone : List ℕ) (d : DraftState) → DraftsLoss s t n alone d → DraftsLoss t t n alone d
  loss_still n alone d h = subst (λ (m : Blocks). DraftsLoss (record t { map = m }) t n alone d) (sym (looks.map told))
      (subst (λ (b : Bookkeeping). DraftsLoss (record t { books = b; map = s.map }) t n alone d) (sym looks.books) (loss_at n alone d h))

  pub takes_before : (n : ℕ) (m : Blocks) → TakesSnapshot t.books.geom t.map m n → TakesSnapshot s.books.geom s.map m n
  takes_before n m h = subst (λ (b : Bookkeeping). TakesSnapshot b.geom s.map m n) looks.books (subst (λ (old : Blocks). TakesSnapshot t.books.geom old m n) (looks.map told) h)

-- The tree.

-- no node is read as another one where a snapshot goes: it is no inode
reads_itself : (lay : Layout) (o : Option FileNode) (i : Option Inode) → IsInodeOf lay o i → IsInodeOf lay o (option_and_then (inode_of lay) o)
reads_itself lay None i h = refl
reads_itself lay (Some file) None h = subst (λ x. IsInodeOf lay (Some file) x) (sym (ap (λ (k : NodeKind). inode_by lay k file.links file.bytes) h)) h
reads_itself lay (Some file) (Some inode) h = subst (λ x. IsInodeOf lay (Some file) x) (sym h) h

module _ (l : Layout) (files new : Files) (n : ℕ) (file : IsWithFile files new n None) where
  loss_reads : (m : Inodes) → AreInodesOf l files m → AreInodesOf l new (inodes_of l new)
  loss_reads m reads k = by (cases_eq k n)
    where
      by : (k ≡ n) ⊎ (k ≢ n) → IsInodeOf l (new k) (inodes_of l new k)
      by (inl same) = subst (λ o. IsInodeOf l o (option_and_then (inode_of l) o)) (sym (ap new same ∙ file.own)) refl
      by (inr other) = subst (λ o. IsInodeOf l o (option_and_then (inode_of l) o)) (sym (file.others k other)) (reads_itself _ (files k) (m k) (reads k))

  loss_inodes : (x : FileNode) → files n ≡ Some x → x.kind ≡ Snapshot → inodes_of l files ≡ inodes_of l new
  loss_inodes x is kind = fun_ext (λ k. by k (cases_eq k n))
    where
      by : (k : ℕ) → (k ≡ n) ⊎ (k ≢ n) → inodes_of l files k ≡ inodes_of l new k
      by k (inl same) = ap (λ o. option_and_then (inode_of l) o) (ap files same ∙ is) ∙ ap (λ (t : NodeKind). inode_by l t x.links x.bytes) kind ∙ sym (ap (λ o. option_and_then (inode_of l) o) (ap new same ∙ file.own))
      by k (inr other) = sym (ap (λ o. option_and_then (inode_of l) o) (file.others k other))

map_without : (limit : ℕ) (m : Inodes) (t : Tree) (name : List ℕ) → IsMapOf limit m t → IsMapOf limit m (unsnapped t name)
map_without limit m t name h = record {
  root = h.root;
  distinct = h.distinct;
  within = h.within;
  shows = record { names = h.shows.names; nodes = h.shows.nodes; links = h.shows.links; only = h.shows.only; reached = h.shows.reached; used = h.shows.used };
}

-- The command, as it is weighed: the snapshot that goes, and the figures.
pub record UnsnapIs (s : State) (name : List ℕ) (number many : ℕ) (f : Session) : Type 0 where
  pub kept : Kept
  pub is : get f.tree.snapshots name ≡ Some kept
  pub number_is : kept.number ≡ number
  pub accepted : refusal f.limit f.tree (Unsnap name) ≡ None
  pub figures : figures_on s f (Unsnap name) ≡ figures_to_unsnap s number many

-- what counts tell of a snapshot that goes
abbrev pub AloneLaw : State → Session → List ℕ → List ℕ → Type 0
AloneLaw s f counts name = (k : Kept) → get f.tree.snapshots name ≡ Some k → alone_on s f name ≡ length (alone_among counts (live_files s.books.geom s.map) (kept_files_of s.books.geom s.map k.number))

abbrev pub BlocksLaw : State → Session → List ℕ → Type 0
BlocksLaw s f name = (k : Kept) → get f.tree.snapshots name ≡ Some k → length (places_of s k.number) ≡ snapshot_blocks f.limit k.names

pub unsnap_is : (s : State) (name counts alone : List ℕ) (number : ℕ) (f : Session) → IsSession s f → NamedLaw → AloneLaw s f counts name → BlocksLaw s f name → snapshot_number s.books.geom s.map name ≡ Some number
    → alone ≡ alone_among counts (live_files s.books.geom s.map) (kept_files_of s.books.geom s.map number) → UnsnapIs s name number (length alone) f
unsnap_is s name counts alone number f h law alones blocks named are = by (one_named s.books.geom s.map f.tree name h.tree law number named)
  where
    by : (k : Kept) × (get f.tree.snapshots name ≡ Some k) × (k.number ≡ number) → UnsnapIs s name number (length alone) f
    by (k, at, is) =
        let accepted : refusal f.limit f.tree (Unsnap name) ≡ None = ap (λ (o : Option Kept). when (is_none o) NoSnap) at in
        record {
          kept = k;
          is = at;
          number_is = is;
          accepted = accepted;
          figures = ap (figures_over_by (bitmap_blocks s.books.geom) (shared_on s f) (alone_on s f) f.limit f.tree (Unsnap name)) accepted
              ∙ ap₂ (unsnapping (bitmap_blocks s.books.geom)) (ap (kept_blocks f.limit) at ∙ sym (blocks k at) ∙ ap (λ n. length (places_of s n)) is)
              (alones k at ∙ ap (λ n. length (alone_among counts (live_files s.books.geom s.map) (kept_files_of s.books.geom s.map n))) is ∙ ap (λ xs. length xs) (sym are));
        }

-- The plan.
module _ (s now : State) (name : List ℕ) (gone : Gone) (f : Session) (is : UnsnapIs s name gone.number (length gone.alone.items) f) (d : DraftState) (loss : DraftsLoss s now gone.number gone.alone.items d) where
  freed_are : length d.freed ≡ length (places_of s gone.number) + length gone.alone.items
  freed_are = omega (arith, ap (λ xs. length xs) loss.freed, length-append gone.alone.items (places_of s gone.number))

  within_cost : (g : Geometry) → g ≡ s.books.geom → gone.cost ≡ (figures_to_unsnap s gone.number (length gone.alone.items)).cost → IsWithinCost g d gone.cost
  within_cost g same cost = subst (λ k. IsWithinCost k d gone.cost) (sym same) (record {
    blocks = node_block s.books.geom gone.number ∷ [];
    only = loss.only;
    price =
        let most = bitmap_blocks s.books.geom in
        let none : length d.taken ≡ 0 = ap (λ xs. length xs) loss.taken in
        omega (arith, cost, loss.fresh, ap (λ n. min n most) none, ap (λ n. min n most) freed_are);
    some = λ more. loss.changes;
  })

  pub makes_unsnap : (x : FileNode) → files_of s.books.geom s.map gone.number ≡ Some x → x.kind ≡ Snapshot → (m : Inodes) → AreInodesOf s.books.geom.layout (files_of s.books.geom s.map) m → IsMapOf f.limit.nodes (inodes s) f.tree
      → gone.cost ≡ (figures_to_unsnap s gone.number (length gone.alone.items)).cost → HasRoom s.books (figures_to_unsnap s gone.number (length gone.alone.items)) → now.books ≡ s.books
      → ((m : Blocks) → HasDrafted now d m → TakesSnapshot now.books.geom now.map m gone.number) → MakesTree (Unsnap name) d gone.cost s now f
  makes_unsnap x there kind m reads map cost room books takes = record {
    accepted = is.accepted;
    answer = ap (λ r. (answered f (Unsnap name) r).1) is.accepted;
    costs = ap (λ (n : Figures). n.cost) is.figures ∙ sym cost;
    room = subst (λ (n : Figures). HasRoom s.books n) (sym is.figures) room;
    runs = λ k some grown. absurd (omega (arith, some, ap (λ (n : Figures). n.need) is.figures));
    reads = reads_laid s now (ap (λ (b : Bookkeeping). b.geom) books) d (loss_reads s.books.geom.layout (files_of s.books.geom s.map) (files_in now d) gone.number loss.file m reads);
    map = subst (λ (u : Tree). IsMapOf f.limit.nodes (inodes_of now.books.geom.layout (files_in now d)) u) (sym (ap (λ r. (answered f (Unsnap name) r).0.tree) is.accepted))
        (map_without f.limit.nodes (inodes_of now.books.geom.layout (files_in now d)) f.tree name
        (subst (λ (i : Inodes). IsMapOf f.limit.nodes i f.tree) (loss_inodes s.books.geom.layout (files_of s.books.geom s.map) (files_in now d) gone.number loss.file x there kind
        ∙ sym (inodes_laid s now (ap (λ (b : Bookkeeping). b.geom) books) d)) map));
    snapshots = record { kept = is.kept; is = is.is; takes = λ m made. subst (TakesSnapshot now.books.geom now.map m) (sym is.number_is) (takes m made) };
    within = within_cost now.books.geom (ap (λ (b : Bookkeeping). b.geom) books) cost;
    uses = uses_unrenewed s f (Unsnap name) (renews_without_bytes s f (Unsnap name) refl) _ _ (reusable_blocks now.books) (places_of s) (places_in now d) d
        (subst (λ (n : Figures). Uses n.need n.freed (reusable_blocks now.books) none_renewed (places_of s) (places_in now d) d) (sym is.figures)
        (record { taken = loss.taken; freed_are = freed_are; placed = placed_by (places_of s) (places_in now d) gone.number [] [] loss.places refl }));
    enough = omega (arith, ap (λ (n : Figures). n.need) is.figures);
    rests = λ enough. books;
  }

-- a snapshot that goes leaves the tree without it
abbrev pub GoesLaw : Type 0
GoesLaw = (g : Geometry) (old new : Blocks) (t : Tree) (name : List ℕ) (k : Kept) → IsGeometry g → IsTreeOf g old t → get t.snapshots name ≡ Some k → TakesSnapshot g old new k.number
    → IsTreeOf g new (record t { snapshots = remove t.snapshots name })

-- The draft may be made.
pub unsnap_made : (tells : Bool) (s t : State) → LooksOnly tells false s t → (name : List ℕ) (gone : Gone) (rest : List ℕ) → MayTake tells s name gone rest → NamedLaw → GoesLaw → IsGeometry s.books.geom → (d : DraftState) → IsDraftOf tells t d
    → (IsTrue tells → DraftsLoss s t gone.number gone.alone.items d) → (IsTrue tells → (m : Blocks) → HasDrafted t d m → TakesSnapshot t.books.geom t.map m gone.number) → MayBeMade tells d gone.cost (Dropped gone.number) t
unsnap_made tells s t looks name gone rest may law goes limits d draft loss takes = record {
  draft = draft;
  sound = λ told sound m made.
      let may_still = take_still tells s t looks told name gone rest may in
      let tree = may_still.may.stands told in
      let one = one_named t.books.geom t.map tree.0 name tree.1 law gone.number (may_still.goes.named told) in
      (goes t.books.geom t.map m tree.0 name one.0 (subst (λ (b : Bookkeeping). IsGeometry b.geom) (sym looks.books) limits) tree.1 one.1 (subst (TakesSnapshot t.books.geom t.map m) (sym one.2) (takes told m made))).sound;
  weight = subst (λ (b : Bookkeeping). b.running.weight + gone.cost ≤ b.room) (sym looks.books) may.goes.weight;
  used = λ told l other used. (used.0, (loss_still tells s t looks told gone.number gone.alone.items d (loss told)).file.others l other ∙ used.1);
}

-- What it makes of the blocks, where its draft stands behind reads.
pub takes_of : (tells : Bool) (s t : State) (looks : LooksOnly tells false s t) (told : IsTrue tells) (name : List ℕ) (gone : Gone) (rest : List ℕ) → MayTake tells s name gone rest → NamedLaw → BesideLaw → EachLaw → IsGeometry s.books.geom → DataLaw
    → SameLaw tells t → BareLaw tells t → (d : DraftState) → IsDraftOf tells t d → DraftsLoss s t gone.number gone.alone.items d → (m : Blocks) → HasDrafted t d m → TakesSnapshot t.books.geom t.map m gone.number
takes_of tells s t looks told name gone rest may named law each limits within same bare d draft loss m made =
    let may_still = take_still tells s t looks told name gone rest may in
    let it = goes_is tells t name gone rest may_still named law told in
    takes tells t name gone rest may_still told (beside_is tells t name gone rest may_still named law told) it.0 it.1 it.2 each
    (subst (λ (b : Bookkeeping). IsGeometry b.geom) (sym looks.books) limits) within same bare d draft (loss_still tells s t looks told gone.number gone.alone.items d loss) m made
