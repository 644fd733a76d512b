-- Once a draft within its command's cost is finished and the cost is weighed, a sync may follow, and the draft is carried out.
use Rattle.std.proofs.Common.{◌≡◌, ◌+◌, ℕ, Bool, IsTrue, length, sym, subst, ap, ◌∙◌}
use Rattle.base_types.specs.Seal.{Blocks}
use Rattle.layout_bytes.specs.Bitmap.{is_set}
use Rattle.layout_journal.specs.Run.{is_live}
use Rattle.crash_stands.specs.Files.{files_of}
use Rattle.layout_geometry.specs.Geometry.{Geometry}
use Rattle.engine_blocks.specs.State.{Bookkeeping, State, after_weigh, live_blocks}
use Rattle.fs_files.specs.Calls.{places_of}
use Rattle.fs_files.specs.Drafts.{DraftState}
use Rattle.fs_files.specs.Finish.{MayGoOn, BooksFinished, MapFinished}
use Rattle.fs_files.specs.Shared.{is_kept}
use Rattle.fs_files.specs.Sound.{AreSoundBeside}
use Rattle.fs_session.specs.Changes.{IsCarriedOut, IsWithinCost}

pub weighed : (g : Geometry) (d : DraftState) (cost : ℕ) (old mid new : Bookkeeping) → g ≡ old.geom → IsWithinCost g d cost → BooksFinished d old mid → MayGoOn old → new ≡ after_weigh mid cost → MayGoOn new
weighed g d cost old mid new geom within done on e = subst MayGoOn (sym e) (done.sync on here.blocks cost here.only here.price here.some)
  where
    here : IsWithinCost old.geom d cost
    here = subst (λ h. IsWithinCost h d cost) geom within

module _ (tells : Bool) (d : DraftState) (cost : ℕ) (old mid new : State) (done : BooksFinished d old.books mid.books) (weighs : new.books ≡ after_weigh mid.books cost) where
  -- all but what is told here is as it was
  rests : new.books ≡ record old.books { running = new.books.running; spare = new.books.spare; marked = new.books.marked; reusable = new.books.reusable }
  rests = subst (λ (k : Bookkeeping). k ≡ record old.books { running = k.running; spare = k.spare; marked = k.marked; reusable = k.reusable }) (sym weighs) (ap (λ (k : Bookkeeping). after_weigh k cost) done.same)

  map_weighed : new.map ≡ mid.map → MapFinished d old mid → MapFinished d old new
  map_weighed same h = record {
    blocks = λ b from below. ap (λ (m : Blocks). m b) same ∙ h.blocks b from below;
    files = λ k. ap (λ (m : Blocks). files_of old.books.geom m k) same ∙ h.files k;
    places = λ k. ap (λ (m : Blocks). places_of old.books.geom m k) same ∙ h.places k;
    bits = λ b below. ap (λ (m : Blocks). is_set old.books.geom m b) same ∙ h.bits b below;
    whole = subst (λ (m : Blocks). (b : ℕ) → IsTrue (is_live old.books.geom m b) → length (m b) ≡ 1024) (sym same) h.whole;
    sound = λ before. subst (λ (m : Blocks). AreSoundBeside old.books.geom (is_kept d.kept) m) (sym same) (h.sound before);
    live = ap (λ (k : Bookkeeping). length (live_blocks k) + length d.freed) weighs ∙ h.live;
    held = ap (λ (k : Bookkeeping). k.running.held) weighs ∙ h.held;
  }

  pub carried_out : (IsTrue tells → MapFinished d old mid) → (IsTrue tells → new.map ≡ mid.map) → IsCarriedOut tells d cost old new
  carried_out map same = record {
    same = rests;
    weight = ap (λ (k : Bookkeeping). k.running.weight) weighs ∙ ap (λ n. n + cost) done.weight;
    marked = λ b. ap (λ (k : Bookkeeping). k.marked b) weighs ∙ done.marked b;
    reusable = λ b. ap (λ (k : Bookkeeping). k.reusable b) weighs ∙ done.reusable b;
    map = λ told. map_weighed (same told) (map told);
  }
