-- A node that was read, and then written within its bytes.
use Rattle.std.proofs.Common.{◌≡◌, ℕ, ◌+◌, ◌*◌, ◌^◌, ◌<◌, ◌≤◌, Bool, true, false, IsTrue, List, ◌++◌, length, take, drop, replicate, max, All, Some, is_some, refl, sym, ap, subst, ◌∙◌, arith}
use Rattle.std.proofs.lemmas.List.{append-nil}
use Rattle.std.proofs.lemmas.Bool.Decides.{nat_tests}
use Rattle.base_types.specs.Runs.{run_places}
use Rattle.base_types.specs.Seal.{Blocks}
use Rattle.layout_extent.specs.Runs.{runs_of}
use Rattle.layout_geometry.specs.Geometry.{IsGeometry, table_start, data_start}
use Rattle.layout_bytes.specs.declared.node.Node.{Node}
use Rattle.layout_bytes.specs.declared.node.NodeKind.TheVariants.{Dir}
use Rattle.layout_bytes.specs.Bytes.{are_zeros}
use Rattle.layout_bytes.specs.Node.{content_of, size_of}
use Rattle.lang_tree.specs.Step.{written}
use Rattle.engine_blocks.specs.Puts.{IsData}
use Rattle.engine_blocks.specs.Running.{has}
use Rattle.engine_blocks.specs.State.{State}
use Rattle.crash_stands.specs.Files.{FileNode, joined, used_node, file_of, files_of}
use Rattle.fs_files.specs.declared.nodes.OpenNode.{OpenNode}
use Rattle.fs_files.specs.Bytes.{met, overwrite, overwritten}
use Rattle.fs_files.specs.Calls.{IsWithFile, IsWithPlaces, files_in, places_in, with_bytes}
use Rattle.fs_files.specs.Content.{HasContent, HasNewBytes, WritesContent}
use Rattle.fs_files.specs.Contents.{content_of_size}
use Rattle.fs_files.specs.Drafts.{DraftState, ChangesSome, change_of, drafted}
use Rattle.fs_files.specs.Effects.{LooksOnly}
use Rattle.fs_files.specs.Frames.{HasNewNode}
use Rattle.fs_files.specs.Nodes.{IsOpen, class_of, node_of_open}
use Rattle.fs_files.specs.Shared.{is_kept}
use Rattle.fs_files.specs.Sound.{FitsBooks, IsDraftOf, IsSoundDraft}
use Rattle.fs_files.proofs.bytes.Contents.{overwritten_some, written_within}
use Rattle.fs_files.proofs.bytes.Joins.{joined_length}
use Rattle.fs_files.proofs.bytes.Known.{content_known}
use Rattle.fs_files.proofs.bytes.Places.{met_in}
use Rattle.fs_files.proofs.bytes.Sizes.{blocks_hold}
use Rattle.fs_files.proofs.bytes.Tails.{past_written}
use Rattle.fs_files.proofs.calling.Nodes.{its_file, looked_files}
use Rattle.fs_files.proofs.drafts.Lists.{none_of_table}
use Rattle.fs_files.proofs.frames.Carry.{draft_looks, looked_places}
use Rattle.fs_files.proofs.frames.Frames.{node_places}
use Rattle.fs_files.proofs.frames.Met.{met_all}
use Rattle.fs_files.proofs.frames.Rules.{writes_fits, writes_others}
use Rattle.fs_files.proofs.frames.Steps.{file_is, file_bytes, node_kept}
use Rattle.fs_files.proofs.frames.Written.{written_sound}

-- some block changed where some has new bytes: where they are new content some other had changed before
some_changes : (bs : List ℕ) (o : OpenNode) (d e : DraftState) → WritesContent (class_of o.kind) bs d e → ((b : ℕ) → is_some (change_of d.fresh b) ≡ true → ChangesSome d) → HasNewBytes e → ChangesSome e
some_changes bs o d e h p q = grind (arith, nat_tests)

-- what is known of a write within a node that was read, from the blocks before it was read
pub record WritesWithin (tells : Bool) (s : State) (number off : ℕ) (ys : List ℕ) (o : OpenNode) (d e : DraftState) : Type 0 where
  pub geom : IsGeometry s.books.geom
  pub from : 1 ≤ number
  pub upto : number ≤ s.books.geom.i
  pub draft : IsDraftOf tells s d
  pub opened : IsOpen s.books.geom o
  pub used : IsTrue tells → Some (node_of_open s.books.geom.layout o) ≡ used_node s.books.geom (drafted d s.map) number
  pub within : off + length ys ≤ o.size
  pub few : off + length ys ≤ 2 ^ 30
  pub some : 0 < length ys
  pub apart : IsTrue tells → All (λ b. is_kept d.kept b ≡ false) o.places
  pub writes : WritesContent (class_of o.kind) (met off (off + length ys) o.places) d e
  pub new : 0 < length ys → HasNewBytes e
  pub content : IsTrue tells → HasContent s.map d o.places → HasContent s.map e o.places
  pub bytes : IsTrue tells → HasContent s.map d o.places → joined (drafted e s.map) o.places ≡ overwrite off ys (joined (drafted d s.map) o.places)
  pub places : (xs : List ℕ) → run_places (runs_of xs) ≡ xs

module _ (tells : Bool) (s : State) (number off : ℕ) (ys : List ℕ) (o : OpenNode) (d e : DraftState) (is : WritesWithin tells s number off ys o d e) where
  abbrev bs : List ℕ
  bs = met off (off + length ys) o.places

  inside : All (IsData s.books.geom) bs
  inside = met_all (IsData s.books.geom) off (off + length ys) o.places is.opened.«data»

  fits : FitsBooks s.books e
  fits = writes_fits s.books (class_of o.kind) bs d e is.writes is.geom inside is.draft.fits

  changed : ChangesSome e
  changed = some_changes bs o d e is.writes is.draft.content (is.new is.some)

  room : o.size ≤ 1024 * length o.places
  room = omega (arith, is.opened.count, (blocks_hold o.size).0)

  -- where the blocks are known
  module _ (told : IsTrue tells) where
    abbrev m : Blocks
    m = s.map

    abbrev node : Node
    node = node_of_open s.books.geom.layout o

    sound : IsSoundDraft s.books m d
    sound = is.draft.sound told

    used : used_node s.books.geom (drafted d m) number ≡ Some node
    used = sym (is.used told)

    known : HasContent m d o.places
    known = subst (HasContent m d) (is.places o.places) (content_known s.books m d number node sound used (subst (All (IsData s.books.geom)) (sym (is.places o.places)) is.opened.«data»))

    long : o.size ≤ length (joined (drafted d m) o.places)
    long = omega (arith, joined_length (drafted d m) o.places known.whole, room)

    size_is : max o.size (off + length ys) ≡ o.size
    size_is = omega (arith, is.within)

    -- as if blocks of no bytes were behind
    padded : joined (drafted e m) o.places ≡ overwrite off ys (joined (drafted d m) o.places ++ replicate 0 0)
    padded = is.bytes told known ∙ ap (overwrite off ys) (sym (append-nil (joined (drafted d m) o.places)))

    bytes : take o.size (joined (drafted e m) o.places) ≡ written off ys (take o.size (joined (drafted d m) o.places))
    bytes = ap (λ n. take n (joined (drafted e m) o.places)) (sym size_is) ∙ ap (take (max o.size (off + length ys))) padded
        ∙ written_within o.size off 0 ys (joined (drafted d m) o.places) long (omega (arith, is.within)) (omega (arith, is.within, long))

    tells_old : content_of s.books.geom.layout o.kind (size_of s.books.geom.layout o.kind o.size) ≡ o.size
    tells_old = content_of_size s.books.geom.layout o.kind o.size is.opened.slots

    tail : o.kind ≡ Dir → IsTrue (are_zeros (drop o.size (joined (drafted e m) o.places)))
    tail dir =
        let zeros : IsTrue (are_zeros (drop o.size (joined (drafted d m) o.places))) = subst (λ xs. IsTrue (are_zeros (drop o.size (joined (drafted d m) xs)))) (is.places o.places)
        (subst (λ n. IsTrue (are_zeros (drop n (joined (drafted d m) (run_places (runs_of o.places)))))) tells_old (sound.blocks.tail number node used dir)) in
        subst (λ n. IsTrue (are_zeros (drop n (joined (drafted e m) o.places)))) size_is (subst (λ xs. IsTrue (are_zeros (drop (max o.size (off + length ys)) xs))) (sym padded)
        (past_written o.size off 0 ys (joined (drafted d m) o.places) zeros long (omega (arith, is.within, long))))

    its : (b : ℕ) → has bs b ≡ true → has (run_places node.runs) b ≡ true
    its b mine = ap (λ xs. has xs b) (is.places o.places) ∙ met_in off (off + length ys) o.places b mine

    all : IsSoundDraft s.books m e × IsWithFile (files_of s.books.geom (drafted d m)) (files_of s.books.geom (drafted e m)) number (Some (file_of s.books.geom.layout (drafted e m) node))
    all = written_sound s.books m number node (class_of o.kind) bs d e is.geom is.draft.fits sound used is.writes its
        (met_all (λ b. is_kept d.kept b ≡ false) off (off + length ys) o.places (is.apart told))
        (subst (All (λ b. length (drafted e m b) ≡ 1024)) (sym (is.places o.places)) (is.content told known).whole)
        (λ dir. subst (λ n. IsTrue (are_zeros (drop n (joined (drafted e m) (run_places (runs_of o.places)))))) (sym tells_old)
        (subst (λ xs. IsTrue (are_zeros (drop o.size (joined (drafted e m) xs)))) (sym (is.places o.places)) (tail dir)))

    file : (x : FileNode) → files_in s d number ≡ Some x → IsWithFile (files_in s d) (files_of s.books.geom (drafted e m)) number (Some (with_bytes x (overwritten off ys x.bytes)))
    file x at =
        let it : x ≡ file_of s.books.geom.layout (drafted d m) node = its_file s.books.geom (drafted d m) number x node (is.used told) at in
        file_is (files_of s.books.geom (drafted d m)) (files_of s.books.geom (drafted e m)) number (Some (file_of s.books.geom.layout (drafted e m) node)) (Some (with_bytes x (overwritten off ys x.bytes)))
        (file_bytes s.books.geom.layout (drafted d m) (drafted e m) node node x (overwritten off ys x.bytes) it refl refl
        (ap (λ n. take n (joined (drafted e m) (run_places (runs_of o.places)))) tells_old ∙ ap (λ xs. take o.size (joined (drafted e m) xs)) (is.places o.places) ∙ bytes
        ∙ ap (λ xs. written off ys (take o.size (joined (drafted d m) xs))) (sym (is.places o.places))
        ∙ ap (λ n. written off ys (take n (joined (drafted d m) (run_places (runs_of o.places))))) (sym tells_old)
        ∙ ap (λ (y : FileNode). written off ys y.bytes) (sym it) ∙ sym (overwritten_some off ys x.bytes is.some)))
        all.1

    table_same : (b : ℕ) → table_start s.books.geom ≤ b → b < data_start s.books.geom → drafted e m b ≡ drafted d m b
    table_same b from below = writes_others s.books (class_of o.kind) bs d e is.writes m b (none_of_table s.books.geom bs b inside below)

    now : HasNewNode s.books.geom (drafted d m) (drafted e m) number (used_node s.books.geom (drafted d m) number)
    now = node_kept s.books.geom sound.live (drafted d m) (drafted e m) number is.geom.whole_blocks is.from is.upto sound.blocks table_same

  -- what is so after it

  pub within_draft : (failed : Bool) (t : State) → LooksOnly tells failed s t → IsDraftOf tells t e
  within_draft failed t looks = draft_looks tells failed s t e looks (record { fits = fits; sound = λ told. (all told).0; content = λ b some. changed })

  pub within_file : (failed : Bool) (t : State) → LooksOnly tells failed s t → IsTrue tells → (x : FileNode) → files_in s d number ≡ Some x → IsWithFile (files_in s d) (files_in t e) number (Some (with_bytes x (overwritten off ys x.bytes)))
  within_file failed t looks told x at = looked_files tells failed s t d e number (Some (with_bytes x (overwritten off ys x.bytes))) looks told (file told x at)

  pub within_places : (failed : Bool) (t : State) → LooksOnly tells failed s t → IsTrue tells → IsWithPlaces (places_in s d) (places_in t e) number (places_in s d number)
  within_places failed t looks told =
      looked_places tells failed s t d e number (places_in s d number) (places_in s d number) looks told refl
      (node_places s.books.geom (drafted d s.map) (drafted e s.map) number (used_node s.books.geom (drafted d s.map) number) (now told))

  pub within_changes : ChangesSome e
  within_changes = changed
