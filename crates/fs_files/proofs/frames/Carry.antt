-- A draft of a map of blocks stays one where the map was looked at, or its pipeline moved.
use Rattle.std.proofs.Common.{◌≡◌, ℕ, Bool, IsTrue, List, sym, subst, arith, rules}
use Rattle.std.proofs.lemmas.Bool.Decides.{nat_tests}
use Rattle.base_types.specs.Seal.{Blocks}
use Rattle.engine_blocks.specs.State.{Bookkeeping, State}
use Rattle.engine_blocks.specs.Calls.{MovesPipeline}
use Rattle.fs_files.specs.Calls.{files_in, places_in, places_of, IsWithPlaces}
use Rattle.fs_files.specs.Drafts.{DraftState, drafted}
use Rattle.fs_files.specs.Effects.{LooksOnly, LooksAndSettles}
use Rattle.fs_files.specs.Sound.{FitsBooks, IsSoundDraft, IsDraftOf}
use Rattle.fs_files.proofs.frames.Frames.{same_places}

-- it fits a bookkeeping of the same geometry and transaction, where what may be taken still may
fits_moved : (k l : Bookkeeping) (d : DraftState) → MovesPipeline k l → FitsBooks k d → FitsBooks l d
fits_moved k l d moves fits = search (rules, arith)

-- and is sound where the marks are the same
sound_moved : (k l : Bookkeeping) (m : Blocks) (d : DraftState) → l.geom ≡ k.geom → l.marked ≡ k.marked → IsSoundDraft k m d → IsSoundDraft l m d
sound_moved k l m d geom marked sound =
    let mid = subst (λ g. IsSoundDraft (record k { geom = g; marked = l.marked }) m d) (sym geom) (subst (λ ms. IsSoundDraft (record k { marked = ms }) m d) (sym marked) sound) in
    record { live = mid.live; blocks = mid.blocks; bits = mid.bits; untouched = mid.untouched; shared = mid.shared; changed = mid.changed; fresh = mid.fresh; apart = mid.apart; freed = mid.freed; once = mid.once }

pub draft_looks : (tells failed : Bool) (s t : State) (d : DraftState) → LooksOnly tells failed s t → IsDraftOf tells s d → IsDraftOf tells t d
draft_looks tells failed s t d looks is = grind (arith, nat_tests)

pub draft_settles : (tells read_failed failed : Bool) (s t : State) (d : DraftState) → LooksAndSettles tells read_failed failed s t → IsDraftOf tells s d → IsDraftOf tells t d
draft_settles tells read_failed failed s t d settles is = record {
  fits = fits_moved s.books t.books d settles.pipeline is.fits;
  sound = λ known. sound_moved s.books t.books t.map d settles.pipeline.geom settles.pipeline.marked (subst (λ (m : Blocks). IsSoundDraft s.books m d) (sym (settles.map known)) (is.sound known));
  content = is.content;
}

-- Its files are as before.

pub files_look : (tells failed : Bool) (s t : State) (d : DraftState) → LooksOnly tells failed s t → IsTrue tells → (k : ℕ) → files_in t d k ≡ files_in s d k
files_look tells failed s t d looks known k = grind (arith, nat_tests)

-- And so are the places of its nodes.

pub places_look : (tells failed : Bool) (s t : State) (d : DraftState) → LooksOnly tells failed s t → IsTrue tells → (k : ℕ) → places_in t d k ≡ places_in s d k
places_look tells failed s t d looks known k = λ i. places_of (looks.books i).geom (drafted d (looks.map known i)) k

-- what became of the places is so where the blocks were looked at meanwhile
pub looked_places : (tells failed : Bool) (s t : State) (d e : DraftState) (k : ℕ) (ps qs : List ℕ) → LooksOnly tells failed s t → IsTrue tells → ps ≡ qs
    → IsWithPlaces (places_in s d) (places_of s.books.geom (drafted e s.map)) k ps → IsWithPlaces (places_in s d) (places_in t e) k qs
looked_places tells failed s t d e k ps qs looks known same is = grind (arith, nat_tests, same_places, places_look)
