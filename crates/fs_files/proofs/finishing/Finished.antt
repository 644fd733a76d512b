-- What a finished draft leaves of the bookkeeping, as the contract of finishing says it.
use Rattle.std.proofs.Common.{◌≡◌, ◌≢◌, ℕ, ◌<◌, ◌≤◌, Bool, IsTrue, List, length, AllPairs, refl, sym, ap, ap₂, subst, ◌∙◌, arith}
use Rattle.std.proofs.lemmas.Bool.Decides.{nat_tests}
use Rattle.base_types.specs.Seal.{Blocks}
use Rattle.layout_geometry.specs.Geometry.{IsGeometry}
use Rattle.engine_blocks.specs.Running.{Spare}
use Rattle.engine_blocks.specs.State.{Bookkeeping, State, IsReusable}
use Rattle.engine_blocks.specs.Calls.{IsSound}
use Rattle.engine_blocks.specs.Crashes.{IsTold}
use Rattle.fs_files.specs.declared.changes.Changed.{Changed}
use Rattle.fs_files.specs.Drafts.{DraftState}
use Rattle.fs_files.specs.Sound.{FitsBooks, IsDraftOf, IsSoundDraft}
use Rattle.fs_files.specs.Finish.{MayGoOn, BooksFinished, MapFinished}
use Rattle.fs_files.specs.Making.{after_draft, AreDrafted, HasMade}
use Rattle.fs_files.proofs.finishing.Few.{few_below}
use Rattle.fs_files.proofs.finishing.Books.{by_keys, draft_keeps, draft_same, draft_marked, draft_reusable, draft_bare}
use Rattle.fs_files.proofs.finishing.Sync.{Grows, may_sync}
use Rattle.fs_files.proofs.finishing.Sound.{map_finished}
use Rattle.fs_files.proofs.drafts.Lists.{each_of}

-- what is ready doesn't matter
pub fits_ready : (k : Bookkeeping) (spare : Spare) (d : DraftState) → FitsBooks k d → FitsBooks (record k { spare = spare }) d
fits_ready k spare d fits = record { none_bare = fits.none_bare; changed = fits.changed; fresh = fits.fresh; taken = record { each = λ i e low. record { from = (fits.taken.each i e low).from; below = (fits.taken.each i e low).below; free = (fits.taken.each i e low).free }; distinct = fits.taken.distinct }; filled = fits.filled; freed = fits.freed }

go_on_ready : (k : Bookkeeping) (spare : Spare) → MayGoOn k → MayGoOn (record k { spare = spare })
go_on_ready k spare may = record { may = record { fits = may.may.fits; some = may.may.some; none_bare = may.may.none_bare }; stays = may.stays }

books_of : Grows → (k : Bookkeeping) (spare : Spare) (d : DraftState) → FitsBooks k d → AllPairs (λ (a b : ℕ × Changed). a.0 ≢ b.0) d.changed → BooksFinished d k (after_draft (record k { spare = spare }) d)
books_of grows k spare d fits once =
    let l : Bookkeeping = record k { spare = spare } in
    record {
      same = draft_same k spare d;
      weight = draft_keeps (λ x. x.running.weight) (λ x bs. refl) (λ x b class. refl) (λ x b. refl) l d;
      none_bare = draft_bare l d fits.none_bare fits.filled;
      marked = draft_marked l d;
      reusable = draft_reusable l d;
      sync = λ may bs cost only costs some. may_sync grows l d (fits_ready k spare d fits) once (go_on_ready k spare may) bs cost only costs some;
    }

pub books_finished : Grows → (k new : Bookkeeping) (spare : Spare) (d : DraftState) → FitsBooks k d → AllPairs (λ (a b : ℕ × Changed). a.0 ≢ b.0) d.changed → new ≡ after_draft (record k { spare = spare }) d → BooksFinished d k new
books_finished grows k new spare d fits once e = subst (BooksFinished d k) (sym e) (books_of grows k spare d fits once)

-- The whole, from the state before memory was made ready.

-- the draft with these parts
abbrev pub draft_with : List ℕ → List (ℕ × Changed) → List (ℕ × Changed) → List ℕ → List ℕ → DraftState
draft_with kept a b t f = record { kept = kept; changed = a; fresh = b; taken = t; freed = f }

pub same_draft : (d : DraftState) (a b : List (ℕ × Changed)) (t f : List ℕ) → a ≡ d.changed → b ≡ d.fresh → t ≡ d.taken → f ≡ d.freed → draft_with d.kept a b t f ≡ d
same_draft d a b t f ea eb et ef = grind (arith, nat_tests)

sound_ready : (k : Bookkeeping) (spare : Spare) (m : Blocks) (d : DraftState) → IsSoundDraft k m d → IsSoundDraft (record k { spare = spare }) m d
sound_ready k spare m d h = record { live = h.live; blocks = h.blocks; bits = h.bits; untouched = h.untouched; shared = h.shared; changed = h.changed; fresh = h.fresh; apart = h.apart; freed = h.freed; once = h.once }

-- a draft is one of the same blocks after memory was made ready
pub draft_ready : (tells : Bool) (s one : State) (d : DraftState) → IsDraftOf tells s d → one.books ≡ record s.books { spare = one.books.spare } → (IsTrue tells → one.map ≡ s.map) → IsDraftOf tells one d
draft_ready tells s one d draft books map = record {
  fits = subst (λ k. FitsBooks k d) (sym books) (fits_ready s.books one.books.spare d draft.fits);
  sound = λ t. subst (λ k. IsSoundDraft k one.map d) (sym books) (subst (λ m. IsSoundDraft (record s.books { spare = one.books.spare }) m d) (sym (map t)) (sound_ready s.books one.books.spare s.map d (draft.sound t)));
  content = draft.content;
}

after : (tells : Bool) (s one new : State) (d e : DraftState) → e ≡ d → one.books ≡ record s.books { spare = one.books.spare } → HasMade tells e one new → new.books ≡ after_draft (record s.books { spare = one.books.spare }) d
after tells s one new d e same books made = made.books ∙ ap₂ after_draft books same

pub finish_books : Grows → (tells : Bool) (s one new : State) (d e : DraftState) → IsDraftOf tells s d → AllPairs (λ (a b : ℕ × Changed). a.0 ≢ b.0) e.changed → e ≡ d → one.books ≡ record s.books { spare = one.books.spare } → HasMade tells e one new → BooksFinished d s.books new.books
finish_books grows tells s one new d e draft once same books made =
    books_finished grows s.books new.books one.books.spare d draft.fits (subst (λ x. AllPairs (λ (a b : ℕ × Changed). a.0 ≢ b.0) x.changed) same once) (after tells s one new d e same books made)

pub finish_map : (tells : Bool) (s one new : State) (d e : DraftState) → IsDraftOf tells s d → IsGeometry s.books.geom → e ≡ d → one.books ≡ record s.books { spare = one.books.spare } → (IsTrue tells → one.map ≡ s.map) → HasMade tells e one new
    → BooksFinished d s.books new.books → IsTrue tells → IsTold s → IsTold new → IsSound s.books → MapFinished d s new
finish_map tells s one new d e draft geom same books map made finished t told told_new own =
    map_finished d s new one.books.spare geom draft.fits (draft.sound t) told told_new own (after tells s one new d e same books made) finished
    (subst (λ m. AreDrafted s.books.geom d m new.map) (map t) (subst (λ g. AreDrafted g d one.map new.map) (ap (λ k. k.geom) books) (subst (λ x. AreDrafted one.books.geom x one.map new.map) same (made.map t))))

-- there are no more changes, and no more numbers to take, than blocks
pub few_changes : (k : Bookkeeping) (d : DraftState) → FitsBooks k d → AllPairs (λ (a b : ℕ × Changed). a.0 ≢ b.0) d.changed → length d.changed ≤ k.geom.n
few_changes k d fits once = few_below (λ (e : ℕ × Changed). e.0) d.changed k.geom.n once (by_keys (λ b. b < k.geom.n) d.changed (λ b c is. (fits.changed b c is).1))

pub few_contents : (k : Bookkeeping) (d : DraftState) → FitsBooks k d → AllPairs (λ (a b : ℕ × Changed). a.0 ≢ b.0) d.fresh → length d.fresh ≤ k.geom.n
few_contents k d fits once = few_below (λ (e : ℕ × Changed). e.0) d.fresh k.geom.n once (by_keys (λ b. b < k.geom.n) d.fresh (λ b c is. (each_of (IsReusable k.geom k.reusable) d.taken fits.taken.each b (fits.fresh b c is)).below))

pub few_taken : (k : Bookkeeping) (d : DraftState) → FitsBooks k d → length d.taken ≤ k.geom.n
few_taken k d fits = few_below (λ b. b) d.taken k.geom.n fits.taken.distinct (λ i e low. (fits.taken.each i e low).below)
