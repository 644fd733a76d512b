-- A write into a file, from the states before and after its node was loaded and written.
use Rattle.std.proofs.Common.{◌≡◌, ℕ, ◌+◌, ◌<◌, ◌≤◌, ◌==◌, Bool, false, IsTrue, List, [], length, drop, max, min, Some, sym, ap, subst, ◌∙◌, arith}
use Rattle.std.proofs.lemmas.Bool.Decides.{nat_tests}
use Rattle.base_types.specs.Seal.{Blocks}
use Rattle.base_types.specs.Runs.{run_places}
use Rattle.layout_geometry.specs.Geometry.{Geometry}
use Rattle.layout_extent.specs.Runs.{runs_of}
use Rattle.layout_bytes.specs.declared.node.NodeKind.TheVariants.{Dir}
use Rattle.engine_blocks.specs.State.{Bookkeeping, State, reusable_blocks}
use Rattle.lang_tree.specs.Step.{written}
use Rattle.crash_stands.specs.Files.{FileNode, Files, file_of, files_of, used_node}
use Rattle.fs_files.specs.declared.nodes.OpenNode.{OpenNode}
use Rattle.fs_files.specs.declared.refusal.FileRefusal.{FileRefusal}
use Rattle.fs_files.specs.Bytes.{overwritten}
use Rattle.fs_files.specs.Calls.{files_in, places_in, places_of, places_or_none, IsWithFile, IsWithPlaces, with_bytes, written_blocks, ChangesAmong, Grows, GrowthRefused}
use Rattle.fs_files.specs.Drafts.{DraftState, drafted}
use Rattle.fs_files.specs.Effects.{LooksOnly}
use Rattle.fs_files.specs.Growing.{placed, places_after, taken_by}
use Rattle.fs_files.specs.Contents.{content_of_size}
use Rattle.fs_files.specs.Nodes.{node_of_open, AreWholeSlots, IsOpen}
use Rattle.fs_files.specs.Shared.{is_kept}
use Rattle.fs_files.specs.Sound.{IsSoundDraft}
use Rattle.fs_files.specs.Writing.{WritesFile}
use Rattle.fs_files.proofs.bytes.Contents.{overwritten_some}
use Rattle.fs_files.proofs.frames.Places.{node_file, used_length}
use Rattle.fs_files.proofs.calling.Nodes.{its_file}

-- The node that was loaded, in the state after it.
module _ (tells : Bool) (s t : State) (number : ℕ) (d : DraftState) (o : OpenNode) (looks : LooksOnly tells false s t) (told : IsTrue tells) (sound : IsSoundDraft s.books s.map d) (opened : IsOpen s.books.geom o)
    (used : Some (node_of_open s.books.geom.layout o) ≡ used_node s.books.geom (drafted d s.map) number) (back : (xs : List ℕ) → run_places (runs_of xs) ≡ xs) where
  abbrev file : FileNode
  file = file_of s.books.geom.layout (drafted d s.map) (node_of_open s.books.geom.layout o)

  at_file : files_in s d number ≡ Some file
  at_file = node_file s.books.geom (drafted d s.map) number (node_of_open s.books.geom.layout o) (sym used)

  file_long : length file.bytes ≡ o.size
  file_long = used_length s.books.geom sound.live (drafted d s.map) number (node_of_open s.books.geom.layout o) sound.blocks (sym used) ∙ content_of_size s.books.geom.layout o.kind o.size opened.slots

  -- it is the file, and takes as many blocks
  pub is_long : (x : FileNode) → files_in s d number ≡ Some x → length x.bytes ≡ o.size
  is_long x at = ap (λ (y : FileNode). length y.bytes) (its_file s.books.geom (drafted d s.map) number x (node_of_open s.books.geom.layout o) used at) ∙ file_long

  pub places_then : o.places ≡ places_in s d number
  places_then = sym (back o.places) ∙ ap places_or_none used

  pub takes_same : (x : FileNode) (off end : ℕ) → files_in s d number ≡ Some x → taken_by (is_kept d.kept) (min off o.size) end o.places ≡ taken_by (is_kept d.kept) (min off (length x.bytes)) end (places_in s d number)
  takes_same x off end at = (λ i. taken_by (is_kept d.kept) (min off (sym (is_long x at) i)) end (places_then i))

  pub once_then : (off end : ℕ) → min off o.size < end → ((x : FileNode) → files_in s d number ≡ Some x → min off (length x.bytes) < end → 0 < taken_by (is_kept d.kept) (min off (length x.bytes)) end (places_in s d number) → d.taken ≡ [])
      → 0 < taken_by (is_kept d.kept) (min off o.size) end o.places → d.taken ≡ []
  once_then off end some once more = once file at_file (subst (λ n. min off n < end) (sym file_long) some) (omega (arith, more, takes_same file off end at_file))

  pub slots_then : (end : ℕ) → ((x : FileNode) → files_in s d number ≡ Some x → x.kind ≡ Dir → AreWholeSlots s.books.geom.layout (max (length x.bytes) end)) → o.kind ≡ Dir → AreWholeSlots t.books.geom.layout (max o.size end)
  slots_then end slots dir = subst (λ (b : Bookkeeping). AreWholeSlots b.geom.layout (max o.size end)) (sym looks.books) (subst (λ n. AreWholeSlots s.books.geom.layout (max n end)) file_long (slots file at_file dir))

  pub refused_then : (off end : ℕ) (x : FileNode) (new : Bookkeeping) (why : FileRefusal) → files_in s d number ≡ Some x
      → GrowthRefused (taken_by (is_kept d.kept) (min off o.size) end o.places) (placed (is_kept d.kept) (min off o.size) end o.places) t.books new why
      → GrowthRefused (taken_by (is_kept d.kept) (min off (length x.bytes)) end (places_in s d number)) (placed (is_kept d.kept) (min off (length x.bytes)) end (places_in s d number)) s.books new why
  refused_then off end x new why at h =
      subst (λ (k : Bookkeeping). GrowthRefused (taken_by (is_kept d.kept) (min off (length x.bytes)) end (places_in s d number)) (placed (is_kept d.kept) (min off (length x.bytes)) end (places_in s d number)) k new why) looks.books
      (subst (λ n. GrowthRefused (taken_by (is_kept d.kept) (min off n) end (places_in s d number)) (placed (is_kept d.kept) (min off n) end (places_in s d number)) t.books new why) (sym (is_long x at))
      (subst (λ ps. GrowthRefused (taken_by (is_kept d.kept) (min off o.size) end ps) (placed (is_kept d.kept) (min off o.size) end ps) t.books new why) places_then h))

  pub few_then : (off end : ℕ) (x : FileNode) → files_in s d number ≡ Some x → taken_by (is_kept d.kept) (min off (length x.bytes)) end (places_in s d number) ≤ length (reusable_blocks s.books)
      → taken_by (is_kept d.kept) (min off o.size) end o.places ≤ length (reusable_blocks t.books)
  few_then off end x at few = omega (arith, takes_same x off end at, few, ap (λ (l : Bookkeeping). length (reusable_blocks l)) looks.books)

-- What was written, from the state before the node was loaded on.
module _ (s t u : State) (number off : ℕ) (ys : List ℕ) (d e : DraftState) (geom : u.books.geom ≡ s.books.geom) (first : t.map ≡ s.map) (last : t.map ≡ u.map) (w : WritesFile u.books t.map number off ys d e) where
  pub file_then : (x : FileNode) → files_in s d number ≡ Some x → IsWithFile (files_in s d) (files_in u e) number (Some (with_bytes x (written off ys x.bytes)))
  file_then = grind (arith, nat_tests)

  pub grows_then : (x : FileNode) → files_in s d number ≡ Some x → Grows u.books x (places_in s d number) (places_in u e number) (min off (length x.bytes)) (off + length ys) d e
  grows_then =
      subst (λ (n : Blocks). (x : FileNode) → files_in s d number ≡ Some x → Grows u.books x (places_in s d number) (places_of u.books.geom (drafted e n) number) (min off (length x.bytes)) (off + length ys) d e) last
      (subst (λ (m : Blocks). (x : FileNode) → files_of s.books.geom (drafted d m) number ≡ Some x → Grows u.books x (places_of s.books.geom (drafted d m) number) (places_of u.books.geom (drafted e t.map) number) (min off (length x.bytes)) (off + length ys) d e) first
      (subst (λ (g : Geometry). (x : FileNode) → files_of g (drafted d t.map) number ≡ Some x → Grows u.books x (places_of g (drafted d t.map) number) (places_of u.books.geom (drafted e t.map) number) (min off (length x.bytes)) (off + length ys) d e) geom w.grows))

  pub has_then : (x : FileNode) → files_in s d number ≡ Some x
      → IsWithPlaces (places_in s d) (places_in u e) number (places_after (is_kept d.kept) (min off (length x.bytes)) (off + length ys) (places_in s d number) (reusable_blocks u.books))
  has_then x at = record {
    own = (grows_then x at).placed;
    others = λ l other. (λ i. places_of u.books.geom (drafted e (sym last i)) l) ∙ w.others l other ∙ (λ i. places_of (geom i) (drafted d (first i)) l);
  }

  pub among_then : (x : FileNode) → files_in s d number ≡ Some x
      → ChangesAmong (written_blocks s.books.geom (is_kept d.kept) number x (places_in s d number) (drop (length (places_in s d number)) (places_in u e number)) off (off + length ys)) d e
  among_then =
      subst (λ (n : Blocks). (x : FileNode) → files_in s d number ≡ Some x
      → ChangesAmong (written_blocks s.books.geom (is_kept d.kept) number x (places_in s d number) (drop (length (places_in s d number)) (places_of u.books.geom (drafted e n) number)) off (off + length ys)) d e) last
      (subst (λ (m : Blocks). (x : FileNode) → files_of s.books.geom (drafted d m) number ≡ Some x
      → ChangesAmong (written_blocks s.books.geom (is_kept d.kept) number x (places_of s.books.geom (drafted d m) number) (drop (length (places_of s.books.geom (drafted d m) number)) (places_of u.books.geom (drafted e t.map) number)) off (off + length ys)) d e) first
      (subst (λ (g : Geometry). (x : FileNode) → files_of g (drafted d t.map) number ≡ Some x
      → ChangesAmong (written_blocks g (is_kept d.kept) number x (places_of g (drafted d t.map) number) (drop (length (places_of g (drafted d t.map) number)) (places_of u.books.geom (drafted e t.map) number)) off (off + length ys)) d e) geom w.among))

-- bytes that are written, as the words of the call have them
pub bytes_then : (old new : Files) (number off : ℕ) (ys : List ℕ) (x : FileNode) → 0 < length ys → IsWithFile old new number (Some (with_bytes x (written off ys x.bytes))) → IsWithFile old new number (Some (with_bytes x (overwritten off ys x.bytes)))
bytes_then old new number off ys x some is = subst (λ bs. IsWithFile old new number (Some (with_bytes x bs))) (sym (overwritten_some off ys x.bytes some)) is

pub some_bytes : (n : ℕ) → (n == 0) ≡ false → 0 < n
some_bytes n e = grind (arith, nat_tests)
