-- A snapshot's draft: its node, the least that no node has, and then its bytes.
use Rattle.base_types.specs.Layouts.{most_runs}
use Rattle.std.proofs.Common.{min, ◌≡◌, ◌≢◌, ◌⊎◌, inl, inr, ℕ, zero, suc, ◌+◌, ◌-◌, ◌*◌, ◌/◌, ◌<◌, ◌≤◌, ◌==◌, ◌&&◌, ◌||◌, ◌^◌, nat_le, Bool, true, false, IsTrue, cond, if◌then◌else◌, find, is_none, is_some, List, [], ◌∷◌, ◌++◌, length, take, drop, replicate, Option, Some, None, IfSome, refl, sym, ap, ap₂, subst, ◌∙◌, arith}
use Rattle.std.specs.Prelude.{IfNone}
use Rattle.std.specs.List.{range_with_len}
use Rattle.std.proofs.Math.Bool.{or-false}
use Rattle.std.proofs.Math.Seq.{drop-nil, take-nil}
use Rattle.std.proofs.lemmas.Bool.{cases_eq, cond-false, false≢true, ne_eqb}
use Rattle.std.proofs.lemmas.List.{append-nil}
use Rattle.std.proofs.lemmas.Option.{none-some, same_Some}
use Rattle.base_types.specs.Seal.{Blocks}
use Rattle.layout_geometry.specs.Geometry.{Geometry}
use Rattle.layout_extent.specs.Runs.{stretches}
use Rattle.layout_bytes.specs.declared.node.NodeKind.TheVariants.{Dir, Snapshot}
use Rattle.crash_stands.specs.Files.{FileNode, Files}
use Rattle.engine_blocks.specs.Running.{has}
use Rattle.engine_blocks.specs.State.{Bookkeeping, State, reusable_blocks}
use Rattle.fs_files.specs.Bytes.{blocks_for, overwritten}
use Rattle.fs_files.specs.Calls.{ChangesAmong, GrowthRefused, Grows, IsLeastUnused, IsUsed, IsWithFile, IsWithPlaces, SetsNode, files_in, places_in, with_bytes, written_blocks}
use Rattle.fs_files.specs.Drafts.{ChangesSome, DraftState, begun_beside, change_of, nothing_drafted}
use Rattle.fs_files.specs.Effects.{LooksOnly}
use Rattle.fs_files.specs.Finish.{ChangesOnly}
use Rattle.fs_files.specs.Growing.{alone, placed, places_after, taken_by}
use Rattle.fs_files.specs.Nodes.{node_block}
use Rattle.fs_files.specs.Shared.{is_kept}
use Rattle.fs_session.specs.Commands.{least_number, places_of}
use Rattle.fs_session.specs.Sessions.{AreUsedBelow}
use Rattle.fs_commands.specs.Gathering.{snapshot_bytes, snapshot_count}
use Rattle.fs_commands.specs.Snapping.{DraftsSnapshot}
use Rattle.fs_commands.proofs.looking.Found.{files_stay}
use Rattle.fs_files.specs.declared.refusal.FileRefusal.{FileRefusal}
use Rattle.fs_commands.proofs.growing.Refused.{refused_alike}
use Rattle.fs_commands.proofs.naming.Drafting.{found_is}
use Rattle.fs_commands.proofs.naming.Least.{least_unused}

-- all numbers below the first that passes fail
fails_before : (test : ℕ → Bool) (a n k l : ℕ) → find test (range_with_len a n) ≡ Some k → a ≤ l → l < k → test l ≡ false
fails_before test a zero k l e above below = absurd (none-some k e)
fails_before test a (suc n) k l e above below = by (test a) refl (cases_eq a l) (fails_before test (a + 1) n k l)
  where
    by : (b : Bool) → test a ≡ b → (a ≡ l) ⊎ (a ≢ l) → (find test (range_with_len (a + 1) n) ≡ Some k → a + 1 ≤ l → l < k → test l ≡ false) → test l ≡ false
    by true is o rec = absurd (omega (arith, above, below, same_Some a k (sym (ap (λ b. cond b (Some a) (find test (range_with_len (a + 1) n))) is) ∙ e)))
    by false is (inl same) rec = ap test (sym same) ∙ is
    by false is (inr ne) rec = rec (sym (ap (λ b. cond b (Some a) (find test (range_with_len (a + 1) n))) is) ∙ e) (omega (arith, above, ne)) below

someone : (o : Option FileNode) → is_none o ≡ false → (x : FileNode) × (o ≡ Some x)
someone None e = absurd cc
someone (Some x) e = (x, refl)

pub used_below : (s : State) (number : ℕ) → least_number s ≡ Some number → AreUsedBelow (files_in s nothing_drafted) number
used_below s number least l above below = someone (files_in s nothing_drafted l) (fails_before (λ n. is_none (files_in s nothing_drafted n)) 1 s.books.geom.i number l least above below)

-- a snapshot's node before it has bytes
abbrev pub bare_snapshot : FileNode
bare_snapshot = record { kind = Snapshot; links = 1; bytes = [] }

-- The node is there, without bytes and blocks.
pub record HasBareNode (s u : State) (number : ℕ) (shared : List ℕ) (d : DraftState) : Type 0 where
  pub file : IsWithFile (files_in s nothing_drafted) (files_in u d) number (Some bare_snapshot)
  pub places : IsWithPlaces (places_of s) (places_in u d) number []
  pub sets : SetsNode s.books.geom number [] (begun_beside shared) d

module _ (tells : Bool) (s t u : State) (shared : List ℕ) (b d : DraftState) (number : ℕ) (begun : b ≡ begun_beside shared) (told : IsTrue tells) (looks : LooksOnly tells false s t) (least : least_number s ≡ Some number) (from : 1 ≤ number) (upto : number ≤ s.books.geom.i) where
  -- the empty draft has the files and places of the blocks
  same_files : files_in t b ≡ files_in s nothing_drafted
  same_files = files_stay tells s t b begun told looks

  same_places : places_in t b ≡ places_of s
  same_places = ap (places_in t) begun ∙ ap₂ (λ (k : Bookkeeping) (m : Blocks). places_in (record t { books = k; map = m }) nothing_drafted) looks.books (looks.map told)

  pub below_used : AreUsedBelow (files_in t b) number
  below_used = subst (λ (files : Files). AreUsedBelow files number) (sym same_files) (used_below s number least)

  pub bare_node : (found : Option ℕ) → IfSome found (λ n. IsLeastUnused t.books.geom.i (files_in t b) n × IsWithFile (files_in t b) (files_in u d) n (Some bare_snapshot)) → IfSome found (λ n. IsWithPlaces (places_in t b) (places_in u d) n [])
      → IfNone found (((l : ℕ) → 1 ≤ l → l ≤ t.books.geom.i → IsUsed (files_in t b) l) × (d ≡ b)) → IfSome found (λ n. SetsNode t.books.geom n [] b d) → HasBareNode s u number shared d
  bare_node found node places none sets =
      let limit : t.books.geom.i ≡ s.books.geom.i = ap (λ (k : Bookkeeping). k.geom.i) looks.books in
      let is = found_is t.books.geom.i number (files_in t b) _ _ found from (omega (arith, upto, limit))
      (ap (λ (files : Files). files number) same_files ∙ least_unused s.books.geom.i (files_in s nothing_drafted) number least) below_used node none in
      record {
        file = subst (λ (files : Files). IsWithFile files (files_in u d) number (Some bare_snapshot)) same_files is.1;
        places = subst (λ (p : ℕ → List ℕ). IsWithPlaces p (places_in u d) number []) same_places (subst (λ o. IfSome o (λ n. IsWithPlaces (places_in t b) (places_in u d) n [])) is.0 places);
        sets = subst (λ (k : Bookkeeping). SetsNode k.geom number [] (begun_beside shared) d) looks.books
            (subst (λ c. SetsNode t.books.geom number [] c d) begun (subst (λ o. IfSome o (λ n. SetsNode t.books.geom n [] b d)) is.0 sets));
      }

pub snapshot_no_dir : (x : FileNode) → Some bare_snapshot ≡ Some x → x.kind ≡ Dir → ⊥
snapshot_no_dir x is dir = absurd cc

-- no more bytes than a file may have
pub fits : (n m : ℕ) → m ≡ n → m ≤ 1073741824 → 0 + n ≤ 2 ^ 30
fits n m is few = omega (arith, is, few)

-- Bytes into a node without blocks.

pub taken_none : (kept : ℕ → Bool) (lo hi : ℕ) (places : List ℕ) → places ≡ [] → taken_by kept lo hi places ≡ blocks_for hi
taken_none kept lo hi places none = ap (taken_by kept lo hi) none ∙ omega arith

pub placed_none : (kept : ℕ → Bool) (lo hi : ℕ) (places more : List ℕ) → places ≡ [] → placed kept lo hi places more ≡ more
placed_none kept lo hi places more none = ap (λ ps. placed kept lo hi ps more) none

after_none : (kept : ℕ → Bool) (lo hi : ℕ) (places spare : List ℕ) → places ≡ [] → places_after kept lo hi places spare ≡ take (blocks_for hi) spare
after_none kept lo hi places spare none = placed_none kept lo hi places _ none ∙ ap (λ n. take n spare) (taken_none kept lo hi places none)

all_written : (ys : List ℕ) → 0 < length ys → overwritten 0 ys [] ≡ ys
all_written ys some =
    cond-false (length ys == 0) [] (take 0 ([] ++ replicate (0 - 0) 0) ++ (ys ++ drop (0 + length ys) [])) (ne_eqb (length ys) 0 (λ e. absurd (omega (arith, e, some))))
    ∙ ap (λ xs. ys ++ xs) (drop-nil (0 + length ys)) ∙ append-nil ys

-- of old blocks none is changed
none_changed : (g : Geometry) (kept : ℕ → Bool) (number lo hi q : ℕ) (more places : List ℕ) → places ≡ [] → has (written_blocks g kept number bare_snapshot places more lo hi) q ≡ true → has (node_block g number ∷ []) q ≡ true
none_changed g kept number lo hi q more places none is =
    by (nat_le hi 0 && (taken_by kept (min lo 0) hi [] == 0))
    (sym (ap (λ xs. has (alone kept (drop (min lo 0 / 1024) xs) ++ last (nat_le hi 0 && (taken_by kept (min lo 0) hi [] == 0))) q) (take-nil (blocks_for hi))
    ∙ ap (λ xs. has (alone kept xs ++ last (nat_le hi 0 && (taken_by kept (min lo 0) hi [] == 0))) q) (drop-nil (min lo 0 / 1024)))
    ∙ ap (λ ps. has (written_blocks g kept number bare_snapshot ps more lo hi) q) (sym none) ∙ is)
  where
    last : Bool → List ℕ
    last b = cond b [] (node_block g number ∷ [])

    by : (b : Bool) → has (last b) q ≡ true → has (node_block g number ∷ []) q ≡ true
    by true e = absurd (false≢true e)
    by false e = e

or_false : (a b : Bool) → (a || b) ≡ true → (b ≡ true → a ≡ true) → a ≡ true
or_false true b e on = refl
or_false false b e on = on e

-- What a write of all the bytes asks, and why it is refused.
module _ (s u : State) (number lo hi : ℕ) (shared : List ℕ) (d : DraftState) (bare : HasBareNode s u number shared d) (end : blocks_for hi ≡ snapshot_count s.books.geom s.map) (books : u.books ≡ s.books) where
  pub takes_few : snapshot_count s.books.geom s.map ≤ length (reusable_blocks s.books) → taken_by (is_kept d.kept) lo hi (places_in u d number) ≤ length (reusable_blocks u.books)
  takes_few enough = subst (λ (k : Bookkeeping). taken_by (is_kept d.kept) lo hi (places_in u d number) ≤ length (reusable_blocks k)) (sym books) (omega (arith, enough, end, taken_none (is_kept d.kept) lo hi (places_in u d number) bare.places.own))

  pub growth_is : (v : Bookkeeping) (why : FileRefusal) → GrowthRefused (taken_by (is_kept d.kept) lo hi (places_in u d number)) (placed (is_kept d.kept) lo hi (places_in u d number)) u.books v why → GrowthRefused (snapshot_count s.books.geom s.map) (λ more. more) s.books v why
  growth_is v why h =
      refused_alike (snapshot_count s.books.geom s.map) (placed (is_kept d.kept) lo hi (places_in u d number)) (λ more. more) s.books v (λ more. placed_none (is_kept d.kept) lo hi (places_in u d number) more bare.places.own) why
      (subst (λ (k : Bookkeeping). GrowthRefused (snapshot_count s.books.geom s.map) (placed (is_kept d.kept) lo hi (places_in u d number)) k v why) books
      (subst (λ n. GrowthRefused n (placed (is_kept d.kept) lo hi (places_in u d number)) u.books v why) (taken_none (is_kept d.kept) lo hi (places_in u d number) bare.places.own ∙ end) h))

-- What a write of all the bytes made of the node.
module _ (s u v : State) (number lo hi : ℕ) (shared ys name : List ℕ) (d e : DraftState) (bare : HasBareNode s u number shared d) (geom : u.books.geom ≡ s.books.geom) (after : v.books.geom ≡ u.books.geom)
    (is : ys ≡ snapshot_bytes s.books.geom s.map name) (end : blocks_for hi ≡ snapshot_count s.books.geom s.map) (some : 0 < length ys) where
  -- how many blocks it takes
  pub takes_count : taken_by (is_kept d.kept) lo hi (places_in u d number) ≡ snapshot_count s.books.geom s.map
  takes_count = taken_none (is_kept d.kept) lo hi (places_in u d number) bare.places.own ∙ end

  module _ (file : IsWithFile (files_in u d) (files_in v e) number (Some (with_bytes bare_snapshot (overwritten 0 ys []))))
      (others : IsWithPlaces (places_in u d) (places_in v e) number (places_after (is_kept d.kept) lo hi (places_in u d number) (reusable_blocks v.books)))
      (grows : Grows v.books bare_snapshot (places_in u d number) (places_in v e number) lo hi d e)
      (among : ChangesAmong (written_blocks u.books.geom (is_kept d.kept) number bare_snapshot (places_in u d number) (drop (length (places_in u d number)) (places_in v e number)) lo hi) d e)
      (changes : ChangesSome e) where
    its_places : places_in v e number ≡ take (snapshot_count s.books.geom s.map) (reusable_blocks v.books)
    its_places = grows.placed ∙ after_none (is_kept d.kept) lo hi (places_in u d number) (reusable_blocks v.books) bare.places.own ∙ ap (λ n. take n (reusable_blocks v.books)) end

    only : ChangesOnly (node_block s.books.geom number ∷ []) e
    only q c =
        let nb = has (node_block s.books.geom number ∷ []) q in
        let written = subst (λ (g : Geometry). ChangesAmong (written_blocks g (is_kept d.kept) number bare_snapshot (places_in u d number) (drop (length (places_in u d number)) (places_in v e number)) lo hi) d e) geom among in
        or_false nb (is_some (change_of d.changed q))
        (first (has (written_blocks s.books.geom (is_kept d.kept) number bare_snapshot (places_in u d number) (drop (length (places_in u d number)) (places_in v e number)) lo hi) q) (is_some (change_of d.changed q)) (written q c)
        (none_changed s.books.geom (is_kept d.kept) number lo hi q (drop (length (places_in u d number)) (places_in v e number)) (places_in u d number) bare.places.own))
        (λ old. sym (or-false nb) ∙ bare.sets.among q old)
      where
        first : (a b : Bool) → (a || b) ≡ true → (a ≡ true → has (node_block s.books.geom number ∷ []) q ≡ true) → (has (node_block s.books.geom number ∷ []) q || b) ≡ true
        first true b h on = ap (λ x. x || b) (on refl)
        first false b h on = by (has (node_block s.books.geom number ∷ []) q) b h
          where
            by : (x b : Bool) → b ≡ true → (x || b) ≡ true
            by true b h = refl
            by false b h = h

    pub drafts_snapshot : DraftsSnapshot s v number name e
    drafts_snapshot = record {
      file = record {
        own = file.own ∙ ap (λ xs. Some (with_bytes bare_snapshot xs)) (all_written ys some ∙ is);
        others = λ l ne. file.others l ne ∙ bare.file.others l ne;
      };
      places = record {
        own = its_places;
        others = λ l ne. others.others l ne ∙ bare.places.others l ne;
      };
      enough = omega (arith, grows.enough, takes_count);
      runs = subst (λ (ps : List ℕ). stretches ps ≤ most_runs s.books.geom.layout) its_places (subst (λ (g : Geometry). stretches (places_in v e number) ≤ most_runs g.layout) (after ∙ geom) grows.runs);
      taken = grows.taken ∙ ap₂ (λ (xs : List ℕ) n. xs ++ take n (reusable_blocks v.books)) bare.sets.taken takes_count;
      freed = grows.freed ∙ bare.sets.freed;
      fresh = omega (arith, grows.fresh, bare.sets.fresh, takes_count);
      only = only;
      changes = changes;
    }
