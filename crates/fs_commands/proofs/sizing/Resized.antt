-- A draft that gives a file another size makes the tree of the truncate, and is within its cost.
use Rattle.std.proofs.Common.{⊎_elim, ◌≡◌, ◌≢◌, ◌⊎◌, ℕ, ◌-◌, ◌/◌, ◌<◌, ◌≤◌, ◌==◌, ◌&&◌, not, Bool, true, false, cond, List, [], ◌∷◌, take, drop, length, Option, None, Some, option_and_then, refl, sym, subst, ap, ap₂, ◌∙◌, arith, ◌++◌}
use Rattle.std.proofs.lemmas.Bool.{cases_order}
use Rattle.std.proofs.lemmas.List.{length-append}
use Rattle.std.proofs.lemmas.Option.{same_Some}
use Rattle.layout_geometry.specs.Geometry.{Geometry, bitmap_blocks}
use Rattle.layout_bytes.specs.declared.node.NodeKind.TheVariants.{File}
use Rattle.lang_tree.specs.declared.command.Cmd.{Cmd}
use Rattle.lang_tree.specs.declared.command.Cmd.TheVariants.{Truncate}
use Rattle.lang_tree.specs.declared.command.Reply.{Reply}
use Rattle.lang_tree.specs.declared.command.Reply.TheVariants.{Ok as Done}
use Rattle.lang_tree.specs.Conditions.{refusal}
use Rattle.lang_tree.specs.Figures.{Figures, shrinking, blocks_for}
use Rattle.lang_tree.specs.Sharing.{SharedNodes, SharedPlaces, alone_from, figures_over_by, is_renewed, shared_at, truncate_over_figures, writing_over}
use Rattle.lang_tree.specs.Step.{Session, step, answered, resized, changed_to, edited}
use Rattle.lang_tree.specs.Walk.{content}
use Rattle.crash_stands.specs.Files.{FileNode}
use Rattle.crash_stands.specs.Inodes.{Inodes, AFile, AreInodesOf, inode_of}
use Rattle.crash_stands.specs.Maps.{IsMapOf}
use Rattle.crash_stands.specs.Walks.{LeadsTo}
use Rattle.fs_inodes.specs.Changes.{Sets}
use Rattle.engine_blocks.specs.State.{State, reusable_blocks}
use Rattle.fs_files.specs.Calls.{IsWithFile, Resizes, Shrinks, ChangesAmong, cut_blocks, is_dir, files_in, places_in, with_bytes}
use Rattle.fs_files.specs.Drafts.{DraftState, begun_beside, nothing_drafted}
use Rattle.fs_files.specs.Effects.{LooksAndSettles, LooksOnly}
use Rattle.fs_files.specs.Growing.{alone, taken_by}
use Rattle.fs_files.specs.Nodes.{fills_blocks, node_block}
use Rattle.fs_files.specs.Shared.{is_kept}
use Rattle.fs_dirs.specs.Directories.{inodes_in}
use Rattle.fs_session.specs.Changes.{ChangesAtMost, IsWithinCost, Uses}
use Rattle.fs_session.specs.Commands.{FindsRuns, GrowsInRuns, alone_on, figures_on, places_of, renewed_on, shared_on}
use Rattle.fs_session.specs.Plans.{MakesTree, StaysBeside}
use Rattle.fs_commands.specs.Writing.{IsWeighed}
use Rattle.fs_commands.proofs.keeping.Laid.{inodes_laid, reads_laid}
use Rattle.fs_commands.proofs.AtMost.{only_these}
use Rattle.fs_commands.proofs.Placing.{placed_cut, placed_without}
use Rattle.fs_commands.proofs.counting.Costs.{cut_costs, grown_costs}
use Rattle.fs_commands.proofs.counting.Touched.{alone_behind}
use Rattle.fs_commands.proofs.writing.Written.{at_most, file_reads, grown_uses, renewed_elsewhere, renewed_there, runs_there, shared_there, taken_is, read_with, sets_inode, AtFile}
use Rattle.fs_commands.proofs.Given.{DivisionLaw, KeptTooLaw, SharedLaw, WritingLaw}
use Rattle.fs_session.specs.Space.{ArePlaced, grown_in, touched_by}
use Rattle.fs_commands.specs.Figures.{kept_places}

-- two sizes that differ
pub larger_or_smaller : (old size : ℕ) → size ≢ old → (old < size) ⊎ (size < old)
larger_or_smaller old size other = ⊎_elim
    (λ same. absurd (other (sym same)))
    (λ differ. differ) (cases_order old size)

-- both ways of a truncate answer that it is done
done_both : (b : Bool) (f g : Session) → (cond {A = Session × Reply} b (f, Done) (g, Done)).1 ≡ Done
done_both true f g = refl
done_both false f g = refl

-- A file that shrinks changes the block of its node alone, and frees the blocks past its bytes that aren't kept.
cut_at_most : (g : Geometry) (number : ℕ) (x : FileNode) (counts places new_places : List ℕ) (d : DraftState) (size : ℕ) → x.kind ≡ File
    → Shrinks x places new_places size (begun_beside counts) d → ChangesAmong (cut_blocks g number x places size) (begun_beside counts) d → ChangesAtMost d 1 0 0 (length (alone (is_kept counts) (drop (blocks_for size) places)))
cut_at_most g number x counts places new_places d size file shrinks among =
    let rest = drop (size / 1024) (take (blocks_for size) places) in
    let cuts = not (fills_blocks g.layout size) in
    let none : cond (is_dir x.kind && cuts) rest [] ≡ [] = ap (λ kind. cond (is_dir kind && cuts) rest []) file in
    record {
      blocks = cut_blocks g number x places size;
      only = only_these (cut_blocks g number x places size) d among;
      few_changed = omega (arith, length-append (cond (is_dir x.kind && cuts) rest []) (node_block g number ∷ []), ap (λ (xs : List ℕ). length xs) none);
      few_fresh = shrinks.fresh;
      few_taken = omega (arith, ap (λ (xs : List ℕ). length xs) shrinks.taken);
      few_freed = omega (arith, ap (λ (xs : List ℕ). length xs) shrinks.freed);
      some = shrinks.changes;
    }

-- It takes no blocks, and keeps its first ones.
cut_uses : (s t : State) (d : DraftState) (counts : List ℕ) (renewed : SharedNodes) (number size need freed : ℕ) (x : FileNode) (spare : List ℕ) → need ≡ 0 → freed ≡ length (alone (is_kept counts) (drop (blocks_for size) (places_of s number)))
    → Shrinks x (places_of s number) (places_in t d number) size (begun_beside counts) d → ((l : ℕ) → l ≢ number → places_in t d l ≡ places_of s l) → Uses need freed spare renewed (places_of s) (places_in t d) d
cut_uses s t d counts renewed number size need freed x spare none gone shrinks others = record {
  taken = shrinks.taken ∙ ap (λ n. take n spare) (sym none);
  freed_are = ap (λ (xs : List ℕ). length xs) shrinks.freed ∙ sym gone;
  placed = subst (λ n. ArePlaced renewed (places_of s) (places_in t d) (take n spare)) (sym none)
      (placed_without renewed (places_of s) (places_in t d) (placed_cut (places_of s) (places_in t d) number (blocks_for size) [] (record { own = shrinks.first; others = others })));
}

-- What a resize left in its draft: the file with so many bytes, and what was taken, freed and changed.
pub record Sized (tells : Bool) (s t : State) (old new : DraftState) (number size : ℕ) (x : FileNode) : Type 0 where
  pub file : IsWithFile (files_in s old) (files_in t new) number (Some (with_bytes x (resized size x.bytes)))
  pub resizes : Resizes t.books number x (places_in s old number) (places_in t new number) size old new
  pub cut : size < length x.bytes → (l : ℕ) → l ≢ number → places_in t new l ≡ places_in s old l
  pub grown : length x.bytes < size → (l : ℕ) → l ≢ number → places_in t new l ≡ places_in s old l
  pub looks : (length x.bytes < size → taken_by (is_kept old.kept) (length x.bytes) size (places_in s old number) ≤ length (reusable_blocks s.books)) → LooksOnly tells false s t

-- Another size of a file: the draft makes the tree of the truncate.
module _ (s t : State) (f : Session) (path : List (List ℕ)) (number size cost : ℕ) (x : FileNode) (a : AtFile s f path number x) (counts : List ℕ) (shared : SharedLaw s f counts) (weighed : IsWeighed s f (Truncate path size) cost) (other : size ≢ length x.bytes) where
  abbrev pub cmd : Cmd
  cmd = Truncate path size

  abbrev old : ℕ
  old = length x.bytes

  abbrev kept : SharedPlaces
  kept = kept_places counts (places_of s number)

  -- the blocks past its bytes that aren't kept
  abbrev gone : ℕ
  gone = length (alone (is_kept counts) (drop (blocks_for size) (places_of s number)))

  pub lies_there : grown_in f cmd ≡ Some number
  lies_there = a.map.shows.names path ∙ a.leads

  pub touches_there : (sh : SharedPlaces) → touched_by f.tree cmd sh ≡ is_renewed sh old size
  touches_there sh = ap (λ (xs : List ℕ). is_renewed sh (length xs) size) a.holds

  -- what the command takes
  figures_are : figures_on s f cmd ≡ truncate_over_figures (bitmap_blocks s.books.geom) kept old size
  figures_are = ap (λ r. figures_over_by (bitmap_blocks s.books.geom) (shared_on s f) (alone_on s f) f.limit f.tree cmd r) weighed.accepted
      ∙ ap₂ (λ (o : Option ℕ) (xs : List ℕ). truncate_over_figures (bitmap_blocks s.books.geom) (shared_at (shared_on s f) o) (length xs) size) lies_there a.holds
      ∙ ap (λ (sh : SharedPlaces). truncate_over_figures (bitmap_blocks s.books.geom) sh old size) (shared_there s f cmd path number old size counts shared lies_there touches_there)

  figures_growing : old < size → figures_on s f cmd ≡ writing_over (bitmap_blocks s.books.geom) kept old old size
  figures_growing more = figures_are ∙ grown_costs (bitmap_blocks s.books.geom) kept old size more

  figures_cutting : size < old → figures_on s f cmd ≡ shrinking (bitmap_blocks s.books.geom) gone
  figures_cutting less = figures_are
      ∙ sym (cut_costs (bitmap_blocks s.books.geom) kept old size gone less (sym (alone_behind counts (places_of s number) (blocks_for size)) ∙ ap (λ n. alone_from kept (blocks_for size) (n - blocks_for size)) a.count))

  -- how many blocks it needs
  pub need_grown : old < size → (figures_on s f cmd).need ≡ taken_by (is_kept counts) old size (places_of s number)
  need_grown more = ap (λ (n : Figures). n.need) (figures_growing more) ∙ sym (taken_is counts (places_of s number) old old size a.count)

  pub need_cut : size < old → (figures_on s f cmd).need ≡ 0
  need_cut less = ap (λ (n : Figures). n.need) (figures_cutting less)

  answer_is : (step f cmd).1 ≡ Done
  answer_is = ap (λ r. (answered f cmd r).1) weighed.accepted ∙ done_both (size == length (content f.tree path)) f (changed_to f (edited f.tree path (resized size))).0

  module _ (d : DraftState) (tells failed settling : Bool) (settles : LooksAndSettles tells failed settling s t) (w : Sized tells s t (begun_beside counts) d number size x) where
    -- the node's blocks lie in few runs where it grows
    runs_are : FindsRuns s t.books f cmd
    runs_are k some grown = ⊎_elim
        (λ more. subst (λ n. GrowsInRuns (renewed_on s f cmd n) s t.books n (figures_on s f cmd).need) (same_Some number k (sym a.leads ∙ grown))
        (runs_there s f cmd path number old size counts shared lies_there touches_there t settles.pipeline.geom (figures_on s f cmd).need x (places_in t d number) d a.count (need_grown more) (w.resizes.grows more)))
        (λ less. absurd (omega (arith, some, need_cut less))) (larger_or_smaller old size other)

    -- and there are enough
    enough_are : (figures_on s f cmd).need ≤ length (reusable_blocks t.books)
    enough_are = ⊎_elim
        (λ more. subst (λ n. n ≤ length (reusable_blocks t.books)) (sym (need_grown more)) (w.resizes.grows more).enough)
        (λ less. omega (arith, need_cut less)) (larger_or_smaller old size other)

    -- it is within the cost
    within_cost : KeptTooLaw → DivisionLaw → WritingLaw
        → ((g : Geometry) (d : DraftState) (freed : ℕ) → ChangesAtMost d 1 0 0 freed → IsWithinCost g d (shrinking (bitmap_blocks g) freed).cost) → IsWithinCost t.books.geom d cost
    within_cost kept_too division writes cuts = ⊎_elim
        (λ more. subst (λ n. IsWithinCost t.books.geom d n) (sym (ap (λ (n : Figures). n.cost) (figures_growing more)) ∙ weighed.costs)
        (subst (λ (g : Geometry). IsWithinCost t.books.geom d (writing_over (bitmap_blocks g) kept old old size).cost) settles.pipeline.geom
        (writes t.books.geom d kept old old size
        (at_most t.books.geom number x counts (places_of s number) (places_in t d number) t.books d size old size a.file (omega (arith, more)) a.count kept_too division (w.resizes.grows more) (w.resizes.grows_among more)))))
        (λ less. subst (λ n. IsWithinCost t.books.geom d n) (sym (ap (λ (n : Figures). n.cost) (figures_cutting less)) ∙ weighed.costs)
        (subst (λ (g : Geometry). IsWithinCost t.books.geom d (shrinking (bitmap_blocks g) gone).cost) settles.pipeline.geom
        (cuts t.books.geom d gone
        (cut_at_most t.books.geom number x counts (places_of s number) (places_in t d number) d size a.file (w.resizes.shrinks less) (w.resizes.shrinks_among less))))) (larger_or_smaller old size other)

    -- it uses the blocks that the figures say
    uses_are : Uses (figures_on s f cmd).need (figures_on s f cmd).freed (reusable_blocks t.books) (renewed_on s f cmd) (places_of s) (places_in t d) d
    uses_are = ⊎_elim
        (λ more. grown_uses s t d counts (renewed_on s f cmd) number old size (figures_on s f cmd).need (figures_on s f cmd).freed x a.count (need_grown more) (ap (λ (n : Figures). n.freed) (figures_growing more))
        (renewed_there s f cmd path number old size counts shared lies_there touches_there) (renewed_elsewhere s f cmd path number old size counts shared lies_there touches_there) (w.resizes.grows more) (w.grown more))
        (λ less. cut_uses s t d counts (renewed_on s f cmd) number size (figures_on s f cmd).need (figures_on s f cmd).freed x (reusable_blocks t.books)
        (need_cut less) (ap (λ (n : Figures). n.freed) (figures_cutting less)) (w.resizes.shrinks less) (w.cut less)) (larger_or_smaller old size other)

    -- no node but this one has other blocks
    pub others_are : (l : ℕ) → l ≢ number → places_in t d l ≡ places_of s l
    others_are l away = ⊎_elim (λ more. w.grown more l away) (λ less. w.cut less l away) (larger_or_smaller old size other)

    pub resized_tree : StaysBeside d t → AreInodesOf s.books.geom.layout (files_in s nothing_drafted) (inodes_in s nothing_drafted)
        → ((s : Session) (m new : Inodes) (path : List (List ℕ)) (size node links : ℕ) (old : List ℕ) → IsMapOf s.limit.nodes m s.tree → refusal s.limit s.tree (Truncate path size) ≡ None
        → size ≢ length old → LeadsTo m path node → m node ≡ Some (AFile links old) → Sets m new node (Some (AFile links (resized size old))) → IsMapOf s.limit.nodes new (step s (Truncate path size)).0.tree)
        → KeptTooLaw → DivisionLaw → WritingLaw → ((g : Geometry) (d : DraftState) (freed : ℕ) → ChangesAtMost d 1 0 0 freed → IsWithinCost g d (shrinking (bitmap_blocks g) freed).cost) → MakesTree cmd d cost s t f
    resized_tree stays reads law kept_too division writes cuts =
        let new : FileNode = with_bytes x (resized size x.bytes) in
        let becomes : inode_of s.books.geom.layout new ≡ Some (AFile x.links (resized size x.bytes)) = file_reads _ new a.file in
        let was : inodes_in s nothing_drafted number ≡ Some (AFile x.links x.bytes) = ap (option_and_then (inode_of s.books.geom.layout)) a.is ∙ file_reads _ x a.file in
        record {
          accepted = weighed.accepted;
          answer = answer_is;
          costs = weighed.costs;
          room = weighed.room;
          runs = runs_are;
          reads = reads_laid s t settles.pipeline.geom d (read_with s.books.geom.layout (files_in s nothing_drafted) (files_in t d) number new (AFile x.links (resized size x.bytes)) becomes w.file reads);
          map = law f (inodes_in s nothing_drafted) (inodes_in t d) path size number x.links x.bytes a.map weighed.accepted other a.leads was
              (subst (λ m. Sets (inodes_in s nothing_drafted) m number (Some (AFile x.links (resized size x.bytes)))) (sym (inodes_laid s t settles.pipeline.geom d))
              (sets_inode s.books.geom.layout (files_in s nothing_drafted) (files_in t d) number new (AFile x.links (resized size x.bytes)) becomes w.file));
          snapshots = stays;
          within = within_cost kept_too division writes cuts;
          uses = uses_are;
          enough = enough_are;
          rests = λ enough. (w.looks (λ more. omega (arith, enough, need_grown more))).books;
        }
