-- What stands for each live block behind a commit of the running transaction, whether it succeeded or the disk failed, and what the cache keeps of it.
use Rattle.std.proofs.Common.{◌≡◌, inl, ℕ, ◌≤◌, ◌&&◌, ◌||◌, nat_le, nat_lt, not, Bool, true, false, IsTrue, List, [], ◌∷◌, ◌++◌, length, map, Option, Some, None, IfSome, is_some, if◌then◌else◌, refl, sym, ◌∙◌, ap, ap₂, subst, arith}
use Rattle.std.proofs.lemmas.Bool.{and_parts, cond-true, false≢true, le-ltb, leb-true, and_right, false_from_ne_true}
use Rattle.std.specs.FinMap.{get}
use Rattle.std.proofs.Math.Bool.{and-false}
use Rattle.base_types.specs.Seal.{Blocks}
use Rattle.disk_contract.specs.Cell.{accepted, is_lost}
use Rattle.disk_contract.specs.Disk.{State, Reads}
use Rattle.layout_geometry.specs.Geometry.{Geometry, LiesIn, bitmap_start, data_start}
use Rattle.layout_geometry.specs.Geometry.Area.{Data}
use Rattle.layout_bytes.specs.Bitmap.{is_set}
use Rattle.layout_journal.specs.Run.{is_live, or_else}
use Rattle.engine_cache.specs.Cache.{Cache, IsTheDisks}
use Rattle.crash_argument.specs.HomeTest.{is_one_of}
use Rattle.crash_argument.specs.Ledger.{Ledger, WrittenRecord}
use Rattle.engine_running.specs.Record.{block_of}
use Rattle.engine_running.specs.Rows.{put_of}
use Rattle.engine_running.specs.Running.{Changes, IsEmpty, bytes_put}
use Rattle.engine_checkpoint.specs.Kept.{Kept, newest_in}
use Rattle.engine_blocks.specs.Running.{is_bare, HasNoBare}
use Rattle.engine_blocks.specs.State.{defined_by}
use Rattle.engine_books.specs.Books.{TransactionBooks, bit_now, bytes_over, is_marked, is_taken_now, map_of, roles_of, running_of}
use Rattle.engine_books.specs.Kept.{AreKept}
use Rattle.engine_books.specs.Point.{BeganAt, HasSameLive}
use Rattle.engine_books.specs.Sealing.{with_record as sealed_books}
use Rattle.engine_store.specs.Committing.{kept_of}
use Rattle.engine_store.specs.Syncing.{Forgets}
use Rattle.engine_store.proofs.Forgetting.{StillKept, still_kept}
use Rattle.engine_store.proofs.Joining.{among, newest_then}
use Rattle.engine_store.proofs.NextRecord.{BitsLaw, BitmapLaw, dead_in, map_then, newest_is, began_then}
use Rattle.engine_store.proofs.OnePoint.{live_below}
use Rattle.engine_store.proofs.StoreStates.{UnputLaw, whole_over}

-- What engine_books promises of the map, and of maps with the same live blocks.
pub record MapLaws : Type 0 where
  pub bits : BitsLaw
  pub bitmap : BitmapLaw
  pub unput : UnputLaw
  pub freed : (v : TransactionBooks) (b : ℕ) → AreKept v → is_one_of b v.changes.freed ≡ true → LiesIn v.geom Data b × (bit_now v b ≡ false)
  pub live : (v : TransactionBooks) (last next : Blocks) (b : ℕ) → AreKept v → HasSameLive v last next → is_live v.geom next b ≡ is_live v.geom last b
  pub map : (v : TransactionBooks) (last next : Blocks) → AreKept v → BeganAt v last → HasSameLive v last next → map_of v next ≡ map_of v last
  pub began : (v : TransactionBooks) (last next : Blocks) → AreKept v → BeganAt v last → HasSameLive v last next → BeganAt v next

-- The transaction's map.

-- a live block is one on which the map is defined, by the tests of both
defined_live : (from below early set marked bare : Bool) → (from && (below && (early || set))) ≡ true → marked ≡ set → bare ≡ false → (from && (early || (below && (marked && not bare)))) ≡ true
defined_live from below early set marked bare live is filled = grind (arith, live, is, filled)

-- a live block doesn't lie before the bitmap
pub live_from : (g : Geometry) (m : Blocks) (b : ℕ) → IsTrue (is_live g m b) → bitmap_start g ≤ b
live_from g m b live = leb-true (bitmap_start g) b (and_parts _ _ live).0

module _ (laws : MapLaws) (v : TransactionBooks) (last : Blocks) (k : AreKept v) (began : BeganAt v last) where
  -- what is written in place was dead in the last map
  pub not_fresh : (b : ℕ) → IsTrue (is_live v.geom last b) → put_of b v.changes.laid ≡ None
  not_fresh b live = by (put_of b v.changes.laid) refl
    where
      dead : is_taken_now v b ≡ true → is_live v.geom last b ≡ false
      dead is =
          let own = (and_parts _ _ is).0 in
          ap₂ (λ x y. nat_le (bitmap_start v.geom) b && (nat_lt b v.geom.n && (x || y))) (le-ltb b (data_start v.geom) (k.lie.taken b own).from) (began.was_dead b own)
          ∙ and_right (nat_le (bitmap_start v.geom) b) _ (and-false (nat_lt b v.geom.n))

      by : (o : Option (List ℕ)) → put_of b v.changes.laid ≡ o → put_of b v.changes.laid ≡ None
      by None is = is
      by (Some x) is = absurd (false≢true (sym (dead (k.lie.laid b (ap is_some is))) ∙ live))

  module _ (filled : HasNoBare (running_of v)) where
    -- the map now is defined on its live blocks
    defined : (b : ℕ) → IsTrue (is_live v.geom (map_of v last) b) → defined_by v.geom (is_marked v b) (is_bare (roles_of v b)) b ≡ true
    defined b live = defined_live (nat_le (bitmap_start v.geom) b) (nat_lt b v.geom.n) (nat_lt b (data_start v.geom)) (is_set v.geom (map_of v last) b) (is_marked v b) (is_bare (roles_of v b)) live (laws.bits v last b began (live_below v.geom (map_of v last) b live)) (filled b)

    -- there it has what was put, or what stood
    pub map_there : (b : ℕ) → IsTrue (is_live v.geom (map_of v last) b) → map_of v last b ≡ bytes_over v.changes last b
    map_there b live = cond-true (defined_by v.geom (is_marked v b) (is_bare (roles_of v b)) b) (bytes_over v.changes last b) [] (defined b live)

    -- none of them was freed
    pub not_freed : (b : ℕ) → IsTrue (is_live v.geom (map_of v last) b) → is_one_of b v.changes.freed ≡ false
    not_freed b live = false_from_ne_true (is_one_of b v.changes.freed) (λ own. let out = laws.freed v b k own in false≢true (sym (dead_in laws.bits v last b began out.0 out.1) ∙ live))

    -- one into which nothing was put was live before
    pub was_live : (b : ℕ) → IsTrue (is_live v.geom (map_of v last) b) → bytes_put v.changes b ≡ None → IsTrue (is_live v.geom last b)
    was_live b live none = laws.unput v last b k began (defined b live) none

    -- each is whole, where the last map's were
    pub whole_now : ((b : ℕ) → IsTrue (is_live v.geom last b) → length (last b) ≡ 1024) → (b : ℕ) → IsTrue (is_live v.geom (map_of v last) b) → length (map_of v last b) ≡ 1024
    whole_now whole b live = ap (λ (x : List ℕ). length x) (map_there b live) ∙ whole_over (bytes_put v.changes b) (last b) (λ y put. began.whole b y put) (λ none. whole b (was_live b live none))

    -- Where the commit succeeded: w are the books that were sealed, and `next` is what stands for each block then.
    module _ (w : TransactionBooks) (number : ℕ) (next : Blocks) (kept_then : AreKept w) (sealed : w ≡ record (sealed_books v number) { changes = w.changes }) (empty : IsEmpty w.changes)
        (bytes : (b : ℕ) → bitmap_start v.geom ≤ b → is_one_of b v.changes.freed ≡ false → next b ≡ bytes_over v.changes last b) where
      to_now : (m : Blocks) (b : ℕ) → IsTrue (is_live w.geom m b) → IsTrue (is_live v.geom m b)
      to_now m b live = subst (λ (x : TransactionBooks). IsTrue (is_live x.geom m b)) sealed live

      -- the map now stands on its live blocks
      pub stands : HasSameLive w (map_of v last) next
      stands b live =
          let now = to_now (map_of v last) b live in
          bytes b (live_from v.geom (map_of v last) b now) (not_freed b now) ∙ sym (map_there b now)

      -- the next transaction begins at it, whatever ledger has the record
      began_now : Ledger → WrittenRecord → BeganAt w (map_of v last)
      began_now l r = subst (λ (u : TransactionBooks). BeganAt u (map_of v last)) (sym sealed) (subst (λ (m : Blocks). BeganAt (sealed_books (record v { changes = w.changes }) number) m) (newest_is l r (map_of v last)) (began_then laws.bitmap l r v w.changes last number began empty))

      pub began_next : Ledger → WrittenRecord → BeganAt w next
      began_next l r = laws.began w (map_of v last) next kept_then (began_now l r) stands

      -- what is live then was live now
      pub live_now : (b : ℕ) → IsTrue (is_live w.geom next b) → IsTrue (is_live v.geom (map_of v last) b)
      live_now b live = to_now (map_of v last) b (sym (laws.live w (map_of v last) next b kept_then stands) ∙ live)

      pub whole_next : ((b : ℕ) → IsTrue (is_live v.geom last b) → length (last b) ≡ 1024) → (b : ℕ) → IsTrue (is_live w.geom next b) → length (next b) ≡ 1024
      whole_next whole b live = ap (λ (x : List ℕ). length x) (stands b (sym (laws.live w (map_of v last) next b kept_then stands) ∙ live)) ∙ whole_now whole b (live_now b live)

      -- the map by the books stays
      pub map_next : Ledger → WrittenRecord → map_of w next ≡ map_of v last
      map_next l r = laws.map w (map_of v last) next kept_then (began_now l r) stands ∙ ap (λ (u : TransactionBooks). map_of u (map_of v last)) sealed ∙ map_then v w.changes last number filled empty

-- The cache.

none_is : (o : Option (List ℕ)) → is_some o ≡ false → o ≡ None
none_is o e = grind (arith, e)

-- a block that is kept still has no put
pub not_laid : (q : Changes) (old new : Cache) (b : ℕ) → StillKept q.paid (map block_of q.laid) old new b → put_of b q.laid ≡ None
not_laid q old new b still = none_is (put_of b q.laid) (sym (among b q.laid) ∙ still.laid)

pub not_put : (q : Changes) (old new : Cache) (b : ℕ) → StillKept q.paid (map block_of q.laid) old new b → bytes_put q b ≡ None
not_put q old new b still = ap₂ or_else (not_laid q old new b still) still.paid

nothing_over : (f l : Bool) → let nothing : Option (List ℕ) = None in (if f then nothing else or_else nothing (if l then nothing else nothing)) ≡ nothing
nothing_over f l = grind arith

-- the record has no newest payload for it
pub none_newest : (q : Changes) (number : ℕ) (ks js : List Kept) (old new : Cache) (b : ℕ) → js ≡ ks ++ kept_of number q ∷ [] → StillKept q.paid (map block_of q.laid) old new b → newest_in None ks b ≡ None → newest_in None js b ≡ None
none_newest q number ks js old new b joins still none =
    ap (λ (xs : List Kept). newest_in None xs b) joins
    ∙ newest_then None ks (kept_of number q) b
    ∙ ap₂ (λ (x before : Option (List ℕ)). if is_one_of b q.freed then None else or_else x (if is_one_of b (map block_of q.laid) then None else before)) still.paid none
    ∙ nothing_over (is_one_of b q.freed) (is_one_of b (map block_of q.laid))

-- and a read may give of it what it might have given
pub still_disks : (q : Changes) (old new : Cache) (b : ℕ) (d e : State) → Forgets q.paid (map block_of q.laid) old new → (StillKept q.paid (map block_of q.laid) old new b → (is_lost b d.log ≡ false) × (accepted e.base e.log b ≡ accepted d.base d.log b) × IsTheDisks b old d) → IsTheDisks b new e
still_disks q old new b d e forgets of = by (get new.kept b) refl
  where
    by : (o : Option (List ℕ)) → get new.kept b ≡ o → IfSome (get new.kept b) (Reads e b)
    by None none = subst (λ (o : Option (List ℕ)). IfSome o (Reads e b)) (sym none) tt
    by (Some x) some =
        let still = still_kept q.paid (map block_of q.laid) old new b forgets (ap is_some some) in
        let r : Reads d b x = subst (λ (o : Option (List ℕ)). IfSome o (Reads d b)) (sym still.same ∙ some) (of still).2 in
        let is : x ≡ accepted e.base e.log b = r.calm (of still).0 ∙ sym (of still).1 in
        subst (λ (o : Option (List ℕ)). IfSome o (Reads e b)) (sym some) (record { calm = λ c. is; one = ∣ inl is ∣₁ })
