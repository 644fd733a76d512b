-- A resize: the node was read, and then it was cut, or grew, or has the size that it had.
use Rattle.std.proofs.Common.{◌≡◌, ℕ, ◌+◌, ◌-◌, ◌<◌, ◌≤◌, Bool, false, IsTrue, List, [], ◌++◌, length, take, drop, replicate, min, Option, Some, refl, sym, ap, subst, ◌∙◌, arith, rules}
use Rattle.std.proofs.lemmas.List.{append-nil, drop_all, take_all}
use Rattle.std.proofs.lemmas.Bool.Decides.{nat_tests}
use Rattle.base_types.specs.Runs.{run_places}
use Rattle.layout_extent.specs.Runs.{runs_of}
use Rattle.layout_bytes.specs.declared.node.NodeKind.TheVariants.{Dir}
use Rattle.engine_blocks.specs.State.{Bookkeeping, State, reusable_blocks}
use Rattle.crash_stands.specs.Files.{FileNode, Files, used_node}
use Rattle.lang_tree.specs.Step.{resized, written}
use Rattle.layout_geometry.specs.Geometry.{Geometry}
use Rattle.fs_files.specs.declared.nodes.OpenNode.{OpenNode}
use Rattle.fs_files.specs.declared.refusal.FileRefusal.{FileRefusal}
use Rattle.fs_files.specs.Bytes.{blocks_for}
use Rattle.fs_files.specs.Calls.{IsWithFile, IsWithPlaces, Shrinks, Grows, Resizes, ChangesAmong, GrowthRefused, files_in, places_in, places_or_none, with_bytes, cut_blocks, written_blocks}
use Rattle.fs_files.specs.Drafts.{DraftState, drafted}
use Rattle.fs_files.specs.Effects.{LooksOnly}
use Rattle.fs_files.specs.Growing.{placed, places_after, taken_by}
use Rattle.fs_files.specs.Shared.{is_kept}
use Rattle.fs_files.specs.Contents.{content_of_size}
use Rattle.fs_files.specs.Nodes.{IsOpen, MayEndAt, node_of_open}
use Rattle.fs_files.specs.Sound.{IsDraftOf}
use Rattle.fs_files.proofs.calling.Nodes.{its_file}
use Rattle.fs_files.proofs.frames.Carry.{files_look, places_look}
use Rattle.fs_files.proofs.frames.Frames.{same_places}
use Rattle.fs_files.proofs.frames.Places.{used_length}

-- a file of the size that it has
same_bytes : (xs : List ℕ) → resized (length xs) xs ≡ xs
same_bytes xs = ap (λ n. take (length xs) (xs ++ replicate n 0)) {x = length xs - length xs} {y = 0} (omega arith) ∙ ap (take (length xs)) (append-nil xs) ∙ take_all (length xs) xs (omega arith)

-- no bytes written past an end are a growth
none_written : (size : ℕ) (xs : List ℕ) → length xs ≤ size → written size [] xs ≡ resized size xs
none_written size xs past = ap (λ ys. resized size xs ++ ys) (drop_all (size + 0) xs (omega (arith, past))) ∙ append-nil (resized size xs)

-- the node that was read, and its file
pub record IsRead (tells : Bool) (s t : State) (number : ℕ) (o : OpenNode) (x : FileNode) (d : DraftState) : Type 0 where
  pub known : IsTrue tells
  pub looks : LooksOnly tells false s t
  pub draft : IsDraftOf tells s d
  pub fits : IsOpen s.books.geom o
  pub is : Some (node_of_open s.books.geom.layout o) ≡ used_node s.books.geom (drafted d s.map) number
  pub at : files_in s d number ≡ Some x
  pub places : (xs : List ℕ) → run_places (runs_of xs) ≡ xs

module _ (tells : Bool) (s t : State) (number size : ℕ) (o : OpenNode) (x : FileNode) (d : DraftState) (r : IsRead tells s t number o x d) where
  pub read_size : length x.bytes ≡ o.size
  read_size = ap (λ (y : FileNode). length y.bytes) (its_file s.books.geom (drafted d s.map) number x (node_of_open s.books.geom.layout o) r.is r.at)
      ∙ used_length s.books.geom (r.draft.sound r.known).live (drafted d s.map) number (node_of_open s.books.geom.layout o) (r.draft.sound r.known).blocks (sym r.is)
      ∙ content_of_size s.books.geom.layout o.kind o.size r.fits.slots

  pub read_places : places_in s d number ≡ o.places
  read_places = ap places_or_none (sym r.is) ∙ r.places o.places

  still_there : places_in t d number ≡ places_in s d number
  still_there = places_look tells false s t d r.looks r.known number

  pub read_at : files_in t d number ≡ Some x
  read_at = files_look tells false s t d r.looks r.known number ∙ r.at

  -- what became of the files that were read became of those before
  pub since_read : (new : Files) (y : Option FileNode) → IsWithFile (files_in t d) new number y → IsWithFile (files_in s d) new number y
  since_read new y w = record { own = w.own; others = λ l away. w.others l away ∙ files_look tells false s t d r.looks r.known l }

  -- it has the size that it had
  pub same_file : size ≡ o.size → IsWithFile (files_in s d) (files_in t d) number (Some (with_bytes x (resized size x.bytes)))
  same_file same = grind (arith, nat_tests, read_at, same_bytes, read_size, files_look)

  -- the places that were read are those before
  since_places : (new : ℕ → List ℕ) (ps qs : List ℕ) → ps ≡ qs → IsWithPlaces (places_in t d) new number ps → IsWithPlaces (places_in s d) new number qs
  since_places new ps qs same is = same_places (places_in t d) new (places_in s d) new number ps qs (λ l. sym (places_look tells false s t d r.looks r.known l)) (λ l. refl) same is

  pub kept_places : size ≡ o.size → IsWithPlaces (places_in s d) (places_in t d) number (take (blocks_for size) (places_in s d number))
  kept_places same = grind (arith, nat_tests, still_there, take_all, read_places, places_look)

  pub cut_read : (new : ℕ → List ℕ) → IsWithPlaces (places_in t d) new number (take (blocks_for size) (places_in t d number)) → IsWithPlaces (places_in s d) new number (take (blocks_for size) (places_in s d number))
  cut_read new = since_places new (take (blocks_for size) (places_in t d number)) (take (blocks_for size) (places_in s d number)) (ap (take (blocks_for size)) still_there)

  pub same_resizes : (k : Bookkeeping) (new_places : List ℕ) → size ≡ o.size → Resizes k number x (places_in s d number) new_places size d d
  same_resizes k new_places same = search (rules, arith, read_size)

  -- it was cut
  pub cut_resizes : (k : Bookkeeping) (e : DraftState) (new_places : List ℕ) → k ≡ t.books → size < o.size → Shrinks x (places_in t d number) new_places size d e → ChangesAmong (cut_blocks t.books.geom number x (places_in t d number) size) d e
      → Resizes k number x (places_in s d number) new_places size d e
  cut_resizes k e new_places books less shrinks among = search (rules, arith, read_size, still_there)

  -- it grew: no bytes were written at its new end
  module _ (more : o.size < size) where
    less : length x.bytes < size
    less = omega (arith, read_size, more)

    from_end : min size (length x.bytes) ≡ length x.bytes
    from_end = omega (arith, less)

    pub longer_file : (old new : Files) → IsWithFile old new number (Some (with_bytes x (written size [] x.bytes))) → IsWithFile old new number (Some (with_bytes x (resized size x.bytes)))
    longer_file old new is = subst (λ bs. IsWithFile old new number (Some (with_bytes x bs))) (none_written size x.bytes (omega (arith, less))) is

    pub longer_places : (k : Bookkeeping) (new : ℕ → List ℕ) → IsWithPlaces (places_in s d) new number (places_after (is_kept d.kept) (min size (length x.bytes)) (size + 0) (places_in s d number) (reusable_blocks k))
        → IsWithPlaces (places_in s d) new number (places_after (is_kept d.kept) (length x.bytes) size (places_in s d number) (reusable_blocks k))
    longer_places k new is = subst (λ lo. IsWithPlaces (places_in s d) new number (places_after (is_kept d.kept) lo size (places_in s d number) (reusable_blocks k))) from_end
        (subst (λ hi. IsWithPlaces (places_in s d) new number (places_after (is_kept d.kept) (min size (length x.bytes)) hi (places_in s d number) (reusable_blocks k))) {x = size + 0} {y = size} (omega arith) is)

    pub longer_resizes : (k : Bookkeeping) (g : Geometry) (e : DraftState) (new_places : List ℕ) → k.geom ≡ g → Grows k x (places_in s d number) new_places (min size (length x.bytes)) (size + 0) d e
        → ChangesAmong (written_blocks g (is_kept d.kept) number x (places_in s d number) (drop (length (places_in s d number)) new_places) size (size + 0)) d e
        → Resizes k number x (places_in s d number) new_places size d e
    longer_resizes k g e new_places geom grows among = record {
      same = λ same. absurd (omega (arith, same, less));
      changes = λ differs. grows.changes;
      grows = λ more. subst (λ lo. Grows k x (places_in s d number) new_places lo size d e) from_end (subst (λ hi. Grows k x (places_in s d number) new_places (min size (length x.bytes)) hi d e) {x = size + 0} {y = size} (omega arith) grows);
      grows_among = λ more. subst (λ hi. ChangesAmong (written_blocks k.geom (is_kept d.kept) number x (places_in s d number) (drop (length (places_in s d number)) new_places) size hi) d e) {x = size + 0} {y = size} (omega arith)
          (subst (λ (h : Geometry). ChangesAmong (written_blocks h (is_kept d.kept) number x (places_in s d number) (drop (length (places_in s d number)) new_places) size (size + 0)) d e) (sym geom) among);
      shrinks = λ shorter. absurd (omega (arith, shorter, less));
      shrinks_among = λ shorter. absurd (omega (arith, shorter, less));
    }

    pub longer_refused : (old new : Bookkeeping) (why : FileRefusal)
        → GrowthRefused (taken_by (is_kept d.kept) (min size (length x.bytes)) (size + 0) (places_in s d number)) (placed (is_kept d.kept) (min size (length x.bytes)) (size + 0) (places_in s d number)) old new why
        → GrowthRefused (taken_by (is_kept d.kept) (length x.bytes) size (places_in s d number)) (placed (is_kept d.kept) (length x.bytes) size (places_in s d number)) old new why
    longer_refused old new why refused = subst (λ lo. GrowthRefused (taken_by (is_kept d.kept) lo size (places_in s d number)) (placed (is_kept d.kept) lo size (places_in s d number)) old new why) from_end
        (subst (λ hi. GrowthRefused (taken_by (is_kept d.kept) (min size (length x.bytes)) hi (places_in s d number)) (placed (is_kept d.kept) (min size (length x.bytes)) hi (places_in s d number)) old new why) {x = size + 0} {y = size} (omega arith) refused)

    pub longer_few : (l : List ℕ) → (length x.bytes < size → taken_by (is_kept d.kept) (length x.bytes) size (places_in s d number) ≤ length l) → taken_by (is_kept d.kept) (min size (length x.bytes)) (size + 0) (places_in s d number) ≤ length l
    longer_few l few = subst (λ lo. taken_by (is_kept d.kept) lo (size + 0) (places_in s d number) ≤ length l) (sym from_end)
        (subst (λ hi. taken_by (is_kept d.kept) (length x.bytes) hi (places_in s d number) ≤ length l) {x = size} {y = size + 0} (omega arith) (few less))

-- where a directory may end before its node was read it may after
pub ends_then : (tells : Bool) (s t : State) (number count : ℕ) (d : DraftState) → LooksOnly tells false s t → IsTrue tells
    → ((x : FileNode) → files_in s d number ≡ Some x → x.kind ≡ Dir → MayEndAt s.books.geom.layout x.bytes count) → (x : FileNode) → files_in t d number ≡ Some x → x.kind ≡ Dir → MayEndAt t.books.geom.layout x.bytes count
ends_then tells s t number count d looks told ends x at dir =
    subst (λ (k : Bookkeeping). MayEndAt k.geom.layout x.bytes count) (sym looks.books) (ends x (sym (files_look tells false s t d looks told number) ∙ at) dir)
