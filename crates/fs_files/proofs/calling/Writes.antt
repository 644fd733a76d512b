-- What a draft is after a write into an open node, and what the node's bytes are: the steps of it put together.
use Rattle.std.proofs.Common.{◌≡◌, ◌≢◌, ◌⊎◌, ℕ, ◌+◌, ◌-◌, ◌*◌, ◌<◌, ◌≤◌, ◌&&◌, ◌||◌, not, if◌then◌else◌, Bool, true, false, IsTrue, List, [], ◌∷◌, ◌++◌, length, take, drop, get_or, replicate, max, min, All, refl, Some, None, is_some, sym, ap, subst, ◌∙◌, arith, ⊎_elim}
use Rattle.std.specs.List.{AllPairs}
use Rattle.std.proofs.lemmas.Bool.{cases_Bool, cases_lt, false≢true, or_left, or_right, false_from_ne_true}
use Rattle.std.proofs.lemmas.List.{append_assoc, get_or_append_left}
use Rattle.base_types.specs.Seal.{Blocks}
use Rattle.base_types.specs.Runs.{run_places}
use Rattle.base_types.specs.declared.words.Class.{Class}
use Rattle.layout_geometry.specs.Geometry.{IsGeometry}
use Rattle.layout_extent.specs.Runs.{runs_of}
use Rattle.layout_bytes.specs.declared.node.NodeKind.{NodeKind}
use Rattle.layout_bytes.specs.declared.node.NodeKind.TheVariants.{Free, Dir, File, Snapshot}
use Rattle.layout_bytes.specs.Bytes.{are_zeros}
use Rattle.layout_bytes.specs.Node.{content_of, size_of}
use Rattle.engine_blocks.specs.Running.{has}
use Rattle.engine_blocks.specs.Puts.{IsData}
use Rattle.engine_blocks.specs.State.{Bookkeeping, IsReusable}
use Rattle.lang_tree.specs.Step.{written}
use Rattle.crash_stands.specs.Files.{joined, used_node}
use Rattle.fs_files.specs.declared.nodes.OpenNode.{OpenNode}
use Rattle.fs_files.specs.Bytes.{blocks_for, met, overwrite}
use Rattle.fs_files.specs.Calls.{is_dir}
use Rattle.fs_files.specs.Content.{HasContent, WritesContent}
use Rattle.fs_files.specs.Contents.{content_of_size}
use Rattle.fs_files.specs.Drafts.{DraftState, change_of, drafted, marks_of}
use Rattle.fs_files.specs.Growing.{placed}
use Rattle.fs_files.specs.Nodes.{class_of, node_of_open, IsOpen}
use Rattle.fs_files.specs.Shared.{is_kept}
use Rattle.fs_files.specs.Sound.{FitsBooks, IsSoundDraft}
use Rattle.fs_files.specs.Places.{place_of}
use Rattle.fs_files.specs.Writing.{WritesOpen, gap_end}
use Rattle.fs_files.proofs.bytes.Joins.{joined_length, joined_same}
use Rattle.fs_files.proofs.bytes.Pieces.{writes_none}
use Rattle.fs_files.proofs.bytes.Places.{met_in}
use Rattle.fs_files.proofs.bytes.Tails.{zero_within}
use Rattle.fs_files.proofs.drafts.Alone.{none_placed}
use Rattle.fs_files.proofs.frames.Met.{met_all}
use Rattle.fs_files.proofs.frames.Places.{used_marked, used_whole, all_of}
use Rattle.fs_files.proofs.frames.Rules.{HasRules, renews_rules, rules_of, writes_fits, writes_rules, writes_others}
use Rattle.fs_files.proofs.frames.Steps.{used_once}
use Rattle.fs_files.proofs.calling.Came.{Came, CameSound, came, news}
use Rattle.fs_files.proofs.calling.Among.{met_wider}
use Rattle.fs_files.proofs.calling.Opens.{gap_writes, room_count, room_data}
use Rattle.fs_files.proofs.drafts.Lists.{each_of}
use Rattle.fs_files.proofs.growing.Copied.{KeepsOutside}
use Rattle.fs_files.proofs.growing.Edges.{writes_both, writes_wide}
use Rattle.fs_files.proofs.growing.Outside.{over_past, over_within, over_zeros, tail_past, tail_within}
use Rattle.fs_files.proofs.growing.Placed.{comes_of, either_of, gone_kept, met_old}

-- the bytes of blocks behind others
joined_append : (m : Blocks) (ps qs : List ℕ) → joined m (ps ++ qs) ≡ joined m ps ++ joined m qs
joined_append m [] qs = refl
joined_append m (p ∷ ps) qs = ap (λ xs. m p ++ xs) (joined_append m ps qs) ∙ sym (append_assoc (m p) (joined m ps) (joined m qs))

dir_is : (kind : NodeKind) → is_dir kind ≡ true → kind ≡ Dir
dir_is Free is = absurd (false≢true is)
dir_is Dir is = refl
dir_is File is = absurd (false≢true is)
dir_is Snapshot is = absurd (false≢true is)

module _ (tells : Bool) (k : Bookkeeping) (m : Blocks) (number off : ℕ) (ys : List ℕ) (o p : OpenNode) (d f : DraftState) (geom : IsGeometry k.geom) (opened : IsOpen k.geom o) (fits : FitsBooks k d) (some : (0 < length ys) ⊎ (o.size < off)) (w : WritesOpen tells k m off ys o p d f) where
  -- its size then, the bytes, and the blocks that come
  abbrev pub wide : ℕ
  wide = max o.size (off + length ys)

  abbrev pub lo : ℕ
  lo = min off o.size

  abbrev pub hi : ℕ
  hi = off + length ys

  abbrev pub extra : List ℕ
  extra = news k lo hi o d

  abbrev class : Class
  class = class_of o.kind

  pub less : lo < hi
  less = ⊎_elim (λ bytes. omega (arith, bytes))
      (λ past. omega (arith, past))
      some

  inside : lo ≤ 1024 * length o.places
  inside = omega (arith, opened.count)

  pub its : Came tells k m lo hi o p extra d w.grown
  its = came tells k m lo hi o p d w.grown geom fits less inside w.room

  its_kind : p.kind ≡ o.kind
  its_kind = ap (λ (q : OpenNode). q.kind) its.node

  its_size : p.size ≡ o.size
  its_size = ap (λ (q : OpenNode). q.size) its.node

  pub its_places : p.places ≡ placed (is_kept d.kept) lo hi o.places extra
  its_places = ap (λ (q : OpenNode). q.places) its.node

  pub its_count : length p.places ≡ length o.places + (blocks_for hi - length o.places)
  its_count = room_count tells k m lo hi o p d w.grown w.room

  pub all_inside : All (IsData k.geom) p.places
  all_inside = room_data tells k m lo hi o p d w.grown k.geom (λ i. k.geom) opened.«data» w.room

  -- no gap is filled in a directory
  end_dir : is_dir p.kind ≡ true → gap_end p off ≡ p.size
  end_dir dir = ap (λ t. if t then p.size else off) dir

  end_file : is_dir p.kind ≡ false → gap_end p off ≡ off
  end_file not_dir = ap (λ t. if t then p.size else off) not_dir

  pub none_filled : is_dir p.kind ≡ true → w.fills.filled ≡ w.grown
  none_filled dir = w.fills.gap.none (omega (arith, end_dir dir))

  gap_wrote : WritesContent class (met lo hi p.places) w.grown w.fills.filled
  gap_wrote = ⊎_elim (λ dir. subst (WritesContent class (met lo hi p.places) w.grown) (sym (none_filled dir)) (writes_none class (met lo hi p.places) w.grown))
      (λ file. subst (λ (x : Class). WritesContent x (met lo hi p.places) w.grown w.fills.filled) (ap class_of its_kind)
      (writes_wide (class_of p.kind) (met p.size (min (gap_end p off) (1024 * length o.places)) p.places) (met lo hi p.places) w.grown w.fills.filled (gap_writes tells m (gap_end p off) (length o.places) p w.grown w.fills.filled w.fills.gap)
      (λ q is. met_wider p.size lo (min (gap_end p off) (1024 * length o.places)) hi p.places q (omega (arith, its_size)) (omega (arith, end_file file)) is)))
      (cases_Bool (is_dir p.kind))

  bytes_wrote : WritesContent class (met lo hi p.places) w.fills.filled f
  bytes_wrote = subst (λ (x : Class). WritesContent x (met lo hi p.places) w.fills.filled f) (ap class_of its_kind)
      (writes_wide (class_of p.kind) (met off hi p.places) (met lo hi p.places) w.fills.filled f w.fills.writes (λ q is. met_wider off lo hi hi p.places q (omega arith) (omega arith) is))

  pub grown_wrote : WritesContent class (met lo hi p.places) w.grown f
  grown_wrote = writes_both class (met lo hi p.places) w.grown w.fills.filled f gap_wrote bytes_wrote

  pub all_wrote : WritesContent class (met lo hi p.places) its.base f
  all_wrote = writes_both class (met lo hi p.places) its.base w.grown f its.edges grown_wrote

  -- in a directory the bytes alone were written, and nothing was copied
  module _ (dir : is_dir o.kind ≡ true) (alone : All (λ b. is_kept d.kept b ≡ false) o.places) where
    dir_now : is_dir p.kind ≡ true
    dir_now = ap is_dir its_kind ∙ dir

    pub dir_grown : w.grown ≡ its.base
    dir_grown = its.plain alone

    pub dir_wrote : WritesContent class (met off hi p.places) its.base f
    dir_wrote = subst (λ (x : Class). WritesContent x (met off hi p.places) its.base f) (ap class_of its_kind)
        (subst (λ (x : DraftState). WritesContent (class_of p.kind) (met off hi p.places) x f) (none_filled dir_now ∙ dir_grown) w.fills.writes)

    pub dir_placed : p.places ≡ o.places ++ extra
    dir_placed = its_places ∙ none_placed (is_kept d.kept) o.places alone lo hi extra

  pub wrote_fits : FitsBooks k f
  wrote_fits = writes_fits k class (met lo hi p.places) its.base f all_wrote geom (met_all (IsData k.geom) lo hi p.places all_inside) its.fits

  pub wrote_kept : f.kept ≡ d.kept
  wrote_kept = all_wrote.kept ∙ its.takes.kept

  -- what its places are
  pub either : (b : ℕ) → has p.places b ≡ true → (has o.places b ≡ true) ⊎ (has extra b ≡ true)
  either = either_of (is_kept d.kept) lo hi o.places p.places extra its_places its.many

  pub comes : (b : ℕ) → has extra b ≡ true → has p.places b ≡ true
  comes = comes_of (is_kept d.kept) lo hi o.places p.places extra its_places its.many

  module _ (told : IsTrue tells) (sound : IsSoundDraft k m d) (free : (b : ℕ) → IsReusable k.geom k.reusable b → k.marked b ≡ false)
      (used : used_node k.geom (drafted d m) number ≡ Some (node_of_open k.geom.layout o)) (back : (xs : List ℕ) → run_places (runs_of xs) ≡ xs) where
    own : (b : ℕ) → has o.places b ≡ true → has (run_places (runs_of o.places)) b ≡ true
    own b is = ap (λ xs. has xs b) (back o.places) ∙ is

    lives : (b : ℕ) → has o.places b ≡ true → sound.live b ≡ true
    lives b is = used_marked k.geom sound.live (drafted d m) number (node_of_open k.geom.layout o) sound.blocks used b (own b is)

    marked : (b : ℕ) → has o.places b ≡ true → marks_of d k.marked b ≡ true
    marked b is = let at = each_of (IsData k.geom) o.places opened.«data» b is in sound.bits b at.from at.below ∙ or_left (sound.live b) (is_kept d.kept b) (lives b is)

    pub content_before : HasContent m d o.places
    content_before = record {
      whole = all_of (λ b. length (drafted d m b) ≡ 1024) o.places (λ b is. used_whole k.geom sound.live (drafted d m) number (node_of_open k.geom.layout o) sound.blocks used b (own b is));
      once = subst (AllPairs (λ a b. a ≢ b)) (back o.places) (used_once k.geom sound.live (drafted d m) number (node_of_open k.geom.layout o) sound.blocks used);
      apart = all_of (λ b. is_some (change_of d.fresh b) ≡ true → change_of d.changed b ≡ None) o.places (λ b is. sound.apart b);
    }

    new : CameSound k sound.live extra d its.base
    new = its.sound sound.live free (rules_of k m d sound)

    out : KeepsOutside m lo hi o.places p.places d w.grown
    out = its.outside sound.live free (rules_of k m d sound) told marked content_before

    pub came_unmarked : All (λ b. marks_of d k.marked b ≡ false) extra
    came_unmarked = new.unmarked

    -- no block that came is kept
    came_alone : (b : ℕ) → has extra b ≡ true → is_kept d.kept b ≡ false
    came_alone b is = false_from_ne_true (is_kept d.kept b) (λ mine.
        let at = each_of (IsData k.geom) extra its.inside b is in
        false≢true (sym (each_of (λ c. marks_of d k.marked c ≡ false) extra new.unmarked b is) ∙ sound.bits b at.from at.below ∙ or_right (sound.live b) (is_kept d.kept b) mine))

    pub met_alone : All (λ b. is_kept d.kept b ≡ false) (met lo hi p.places)
    met_alone = all_of (λ b. is_kept d.kept b ≡ false) (met lo hi p.places) (λ b is. ⊎_elim (λ came. came_alone b came)
        (λ old. (met_old (is_kept d.kept) lo hi o.places p.places extra its_places its.many b less is old).1)
        (cases_Bool (has extra b)))

    met_live : All (λ b. (has extra b || sound.live b) ≡ true) (met lo hi p.places)
    met_live = all_of (λ b. (has extra b || sound.live b) ≡ true) (met lo hi p.places) (λ b is. ⊎_elim (λ old. or_right (has extra b) (sound.live b) (lives b old))
        (λ came. or_left (has extra b) (sound.live b) came)
        (either b (met_in lo hi p.places b is)))

    pub wrote_rules : HasRules k (λ b. has extra b || sound.live b) f
    wrote_rules = writes_rules k class (met lo hi p.places) its.base f all_wrote (λ b. has extra b || sound.live b) met_live
        (subst (λ ks. All (λ b. is_kept ks b ≡ false) (met lo hi p.places)) (sym its.takes.kept) met_alone) new.rules

    -- what is live then
    pub now_rules : HasRules k (λ b. has p.places b || (sound.live b && not (has o.places b))) f
    now_rules = renews_rules k sound.live o.places p.places extra f lives either
        (λ b is gone. ap (λ ks. is_kept ks b) wrote_kept ∙ gone_kept (is_kept d.kept) lo hi o.places p.places extra its_places its.many b is gone) comes wrote_rules

    pub once_now : AllPairs (λ a b. a ≢ b) p.places
    once_now = out.content.once

    pub wrote_others : (b : ℕ) → has o.places b ≡ false → has extra b ≡ false → drafted f m b ≡ drafted d m b
    wrote_others b out_old out_new =
        writes_others k class (met lo hi p.places) its.base f all_wrote m b (false_from_ne_true (has (met lo hi p.places) b) (λ is.
        ⊎_elim (λ old. false≢true (sym out_old ∙ old))
        (λ came. false≢true (sym out_new ∙ came))
        (either b (met_in lo hi p.places b is))))
        ∙ its.others b out_new

    -- The bytes.

    content_filled : HasContent m w.fills.filled p.places
    content_filled = w.fills.gap.content told out.content

    pub content_after : HasContent m f p.places
    content_after = w.fills.content told content_filled

    bytes_after : joined (drafted f m) p.places ≡ overwrite off ys (joined (drafted w.fills.filled m) p.places)
    bytes_after = w.fills.bytes told content_filled

    long_old : length (joined (drafted d m) o.places) ≡ 1024 * length o.places
    long_old = joined_length (drafted d m) o.places content_before.whole

    long_now : length (joined (drafted w.grown m) p.places) ≡ 1024 * length p.places
    long_now = joined_length (drafted w.grown m) p.places out.content.whole

    -- the bytes of a directory's blocks past its end
    pub tail_before : o.kind ≡ Dir → IsTrue (are_zeros (drop o.size (joined (drafted d m) o.places)))
    tail_before dir = subst (λ n. IsTrue (are_zeros (drop n (joined (drafted d m) o.places)))) (content_of_size k.geom.layout o.kind o.size opened.slots)
        (subst (λ xs. IsTrue (are_zeros (drop (content_of k.geom.layout o.kind (size_of k.geom.layout o.kind o.size)) (joined (drafted d m) xs)))) (back o.places) (sound.blocks.tail number (node_of_open k.geom.layout o) used dir))

    -- none of its blocks is kept
    pub dir_alone : is_dir o.kind ≡ true → All (λ b. is_kept d.kept b ≡ false) o.places
    dir_alone dir = all_of (λ b. is_kept d.kept b ≡ false) o.places (λ b is. false_from_ne_true (is_kept d.kept b) (λ mine.
        let r = place_of (run_places (runs_of o.places)) b (own b is) in
        not_file (sound.shared b number r.0 (node_of_open k.geom.layout o) mine (record { node = node_of_open k.geom.layout o; is_node = used; place = r.1 }) used)))
      where
        not_file : o.kind ≡ File → ⊥
        not_file file = false≢true (sym (ap is_dir file) ∙ dir)

    -- and they have the bytes that they had
    dir_front : is_dir o.kind ≡ true → (i z : ℕ) → i < 1024 * length o.places → get_or (joined (drafted w.grown m) p.places) i z ≡ get_or (joined (drafted d m) o.places) i z
    dir_front dir i z low =
        let same : joined (drafted w.grown m) o.places ≡ joined (drafted d m) o.places = joined_same (drafted d m) (drafted w.grown m) o.places (all_of (λ b. drafted w.grown m b ≡ drafted d m b) o.places
        (λ b is. ap (λ (x : DraftState). drafted x m b) (dir_grown dir (dir_alone dir)) ∙ its.others b (false_from_ne_true (has extra b) (λ came.
        false≢true (sym (each_of (λ c. marks_of d k.marked c ≡ false) extra came_unmarked b came) ∙ marked b is))))) in
        ap (λ xs. get_or (joined (drafted w.grown m) xs) i z) (dir_placed dir (dir_alone dir))
        ∙ ap (λ xs. get_or xs i z) (joined_append (drafted w.grown m) o.places extra)
        ∙ get_or_append_left (joined (drafted w.grown m) o.places) (joined (drafted w.grown m) extra) z i (omega (arith, ap length same, long_old, low))
        ∙ ap (λ xs. get_or xs i z) same

    dir_zeros : is_dir o.kind ≡ true → (i z : ℕ) → o.size ≤ i → i < length (joined (drafted w.grown m) p.places) → get_or (joined (drafted w.grown m) p.places) i z ≡ 0
    dir_zeros dir i z past low = ⊎_elim (λ old. dir_front dir i z old ∙ zero_within o.size (joined (drafted d m) o.places) (tail_before (dir_is o.kind dir)) i z past (omega (arith, old, long_old)))
        (λ new. out.zeros i z new (omega (arith, low, long_now)))
        (cases_lt i (1024 * length o.places))

    end_within : off ≤ o.size → gap_end p off ≤ p.size
    end_within within = ⊎_elim (λ dir. omega (arith, end_dir dir))
        (λ file. omega (arith, end_file file, within, its_size))
        (cases_Bool (is_dir p.kind))

    bytes_within : off ≤ o.size → joined (drafted f m) p.places ≡ overwrite off ys (joined (drafted w.grown m) p.places)
    bytes_within within = bytes_after ∙ ap (λ (x : DraftState). overwrite off ys (joined (drafted x m) p.places)) (w.fills.gap.none (end_within within))

    -- in a directory there are zeros where a file gets some
    bytes_past : o.size < off → joined (drafted f m) p.places ≡ overwrite off ys (overwrite o.size (replicate (min off (1024 * length o.places) - o.size) 0) (joined (drafted w.grown m) p.places))
    bytes_past past = ⊎_elim (λ dir. bytes_after ∙ ap (λ (x : DraftState). overwrite off ys (joined (drafted x m) p.places)) (none_filled dir)
        ∙ ap (overwrite off ys) (sym (over_zeros o.size (min off (1024 * length o.places) - o.size) (joined (drafted w.grown m) p.places) (omega (arith, opened.count, past, long_now, its_count))
        (λ i z high low. dir_zeros (ap is_dir (sym its_kind) ∙ dir) i z high (omega (arith, opened.count, past, long_now, its_count, low))))))
        (λ file. bytes_after ∙ ap (overwrite off ys) (w.fills.gap.bytes told out.content (omega (arith, past, its_size, end_file file)))
        ∙ ap (λ n. overwrite off ys (overwrite p.size (replicate (min n (1024 * length o.places) - p.size) 0) (joined (drafted w.grown m) p.places))) (end_file file)
        ∙ ap (λ n. overwrite off ys (overwrite n (replicate (min off (1024 * length o.places) - n) 0) (joined (drafted w.grown m) p.places))) its_size)
        (cases_Bool (is_dir p.kind))

    -- the bytes are those written
    pub bytes_written : take wide (joined (drafted f m) p.places) ≡ written off ys (take o.size (joined (drafted d m) o.places))
    bytes_written = ⊎_elim (λ past. ap (take wide) (bytes_past past)
        ∙ over_past o.size off (1024 * length o.places) ys (joined (drafted d m) o.places) (joined (drafted w.grown m) p.places) long_old (omega (arith, opened.count)) past (omega (arith, long_now, its_count)) (omega (arith, long_now, its_count))
        (λ i z l. out.front i z (omega (arith, l, past))) (λ i z h l. out.zeros i z h (omega (arith, l, long_now))))
        (λ within. ap (take wide) (bytes_within within)
        ∙ over_within o.size off ys (joined (drafted d m) o.places) (joined (drafted w.grown m) p.places) (omega (arith, long_old, opened.count)) within (omega (arith, long_now, its_count)) (omega (arith, long_now, long_old, its_count))
        (λ i z l. out.front i z (omega (arith, l, within))) (λ i z h l. out.back i z h (omega (arith, l, long_old))))
        (cases_lt o.size off)

    -- and what is past them is zeros, if it was
    pub tail_written : IsTrue (are_zeros (drop o.size (joined (drafted d m) o.places))) → IsTrue (are_zeros (drop wide (joined (drafted f m) p.places)))
    tail_written zeros = ⊎_elim (λ past. subst (λ xs. IsTrue (are_zeros (drop wide xs))) (sym (bytes_past past))
        (tail_past o.size off (1024 * length o.places) ys (joined (drafted d m) o.places) (joined (drafted w.grown m) p.places) zeros long_old (omega (arith, opened.count)) past (omega (arith, long_now, its_count)) (omega (arith, long_now, its_count))
        (λ i z h l. out.back i z h l) (λ i z h l. out.zeros i z h (omega (arith, l, long_now)))))
        (λ within. subst (λ xs. IsTrue (are_zeros (drop wide xs))) (sym (bytes_within within))
        (tail_within o.size off (1024 * length o.places) ys (joined (drafted d m) o.places) (joined (drafted w.grown m) p.places) zeros long_old (omega (arith, long_now, its_count)) (omega (arith, long_now, its_count))
        (λ i z h l. out.back i z h l) (λ i z h l. out.zeros i z h (omega (arith, l, long_now)))))
        (cases_lt o.size off)
