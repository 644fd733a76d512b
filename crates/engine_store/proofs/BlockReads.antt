-- A read of a block into which the running transaction put nothing, and that has no newest payload: the cache or the disk gives the bytes of the last map where the map is defined, and the cache agrees with the disk still.
use Rattle.std.proofs.Props.{props}
use Rattle.std.proofs.Common.{arith, ◌≡◌, ⊎_elim, ℕ, Bool, true, false, IsTrue, List, [], Option, Some, None, IfSome, IsSome, Result, Ok, Err, OnOk, OnErr, refl, sym, ◌∙◌, ap, ap₂, subst}
use Rattle.std.proofs.Math.Logic.{∥∥₁_elim, ∥∥₁_map}
use Rattle.std.proofs.lemmas.Bool.{cases_eq, cond-true, false≢true}
use Rattle.std.specs.FinMap.{get}
use Rattle.base_types.specs.Seal.{Blocks}
use Rattle.disk_contract.specs.declared.event.Event.{Event}
use Rattle.disk_contract.specs.Cell.{accepted}
use Rattle.disk_contract.specs.Disk as disk
use Rattle.disk_contract.specs.Disk.{Reads, SameDisk}
use Rattle.disk_contract.specs.Manner.{Manner, HasFailedBy}
use Rattle.layout_journal.specs.Run.{otherwise, is_live}
use Rattle.engine_cache.specs.Cache.{Cache, ComesIn, IsKept, IsTheDisks}
use Rattle.crash_argument.specs.Ledger.{Ledger}
use Rattle.engine_running.specs.Running.{bytes_put}
use Rattle.engine_checkpoint.specs.Kept.{kept, newest_in}
use Rattle.engine_blocks.specs.Running.{is_bare}
use Rattle.engine_blocks.specs.State.{defined_by, is_defined}
use Rattle.engine_books.specs.Books.{TransactionBooks, bytes_over, is_marked, map_of, running_of}
use Rattle.engine_books.specs.Kept.{AreKept}
use Rattle.engine_books.specs.Point.{BeganAt}
use Rattle.engine_store.specs.declared.parts.StoreParts.{StoreParts}
use Rattle.engine_store.specs.Store.{StoreIsSound, bookkeeping_of}
use Rattle.engine_store.specs.Told.{CacheAgrees, IsKeptOn, IsToldBy, last_map}
use Rattle.engine_store.proofs.LastMap.{LastMapLaws, none_lost}

-- What engine_books promises of blocks that weren't put.
abbrev pub UnputIsLive : Type 0
UnputIsLive = (v : TransactionBooks) (last : Blocks) (b : ℕ) → AreKept v → BeganAt v last → defined_by v.geom (is_marked v b) (is_bare ((running_of v).roles b)) b ≡ true → bytes_put v.changes b ≡ None → IsTrue (is_live v.geom last b)

-- What is read.

-- where the map is defined, nothing was put and there is no payload, it has what the disk accepted last
now_accepted : (v : StoreParts) (d : disk.State) (b : ℕ) → is_defined (bookkeeping_of v) b ≡ true → bytes_put v.books.changes b ≡ None → newest_in None (kept v.pipeline) b ≡ None → map_of v.books (last_map v d) b ≡ accepted d.base d.log b
now_accepted v d b is unput none =
    cond-true (is_defined (bookkeeping_of v) b) (bytes_over v.books.changes (last_map v d) b) [] is
    ∙ ap (λ (o : Option (List ℕ)). otherwise o (last_map v d b)) unput ∙ ap (λ (o : Option (List ℕ)). otherwise o (accepted d.base d.log b)) none

-- what the cache or the disk gives is what the map has
pub read_gives : LastMapLaws → UnputIsLive → {A E : Type 0} (r : Result A E) (tells : Bool) (v : StoreParts) (d : disk.State) (b : ℕ) (x : List ℕ) → IsKeptOn tells v d → v.stopped ≡ false → bytes_put v.books.changes b ≡ None → newest_in None (kept v.pipeline) b ≡ None
    → (IsTrue tells → IsTheDisks b v.cache d → OnOk r (Reads d b x)) → IsTrue tells → is_defined (bookkeeping_of v) b ≡ true → OnOk r (x ≡ map_of v.books (last_map v d) b)
read_gives laws unput_live (Ok a) tells v d b x k going unput none gives t is = ∥∥₁_elim (k.told t) (hlevel props) (λ (p : (l : Ledger) × IsToldBy v d l).
    let lives : IsTrue (is_live v.books.geom (last_map v d) b) = unput_live v.books (last_map v d) b k.sound.kept p.1.began is unput in
    (gives t ((p.1.going going).cache.same b lives)).calm (none_lost laws v d p.0 k.sound.kept p.1 going b lives) ∙ sym (now_accepted v d b is unput none))
read_gives laws unput_live (Err e) tells v d b x k going unput none gives t is = tt

-- The cache behind the read.

kept_before : (o p : Option (List ℕ)) → IfSome o (λ x. p ≡ Some x) → IsSome o → IsSome p
kept_before (Some x) p e is = subst IsSome (sym e) refl
kept_before None p e is = absurd (false≢true is)

as_before : (P : List ℕ → Type 0) (o p : Option (List ℕ)) → IfSome o (λ x. p ≡ Some x) → IfSome p P → IfSome o P
as_before P (Some x) p e h = subst (λ (q : Option (List ℕ)). IfSome q P) e h
as_before P None p e h = tt

weaker : (P Q : List ℕ → Type 0) (o : Option (List ℕ)) → ((x : List ℕ) → P x → Q x) → IfSome o P → IfSome o Q
weaker P Q (Some x) f h = f x h
weaker P Q None f h = tt

module _ (v : StoreParts) (d : disk.State) (b : ℕ) (x : List ℕ) (w : Cache) (agrees : CacheAgrees v d) (none : newest_in None (kept v.pipeline) b ≡ None) where
  newest_still : ComesIn b x v.cache w → (n : ℕ) → IsTrue (is_live v.books.geom (last_map v d) n) → IsKept n w → newest_in None (kept v.pipeline) n ≡ None
  newest_still comes n lives is = ⊎_elim (λ e. ap (λ m. newest_in None (kept v.pipeline) m) e ∙ none)
      (λ other. agrees.newest n lives (kept_before (get w.kept n) (get v.cache.kept n) (comes.others n other) is))
      (cases_eq n b)

  same_still : ComesIn b x v.cache w → (IsTheDisks b v.cache d → Reads d b x) → (n : ℕ) → IsTrue (is_live v.books.geom (last_map v d) n) → IsTheDisks n w d
  same_still comes reads n lives = ⊎_elim
      (λ e. subst (λ m. IsTheDisks m w d) (sym e)
      (weaker (λ y. y ≡ x) (Reads d b) (get w.kept b) (λ y is. subst (Reads d b) (sym is) (reads (agrees.same b (subst (λ m. IsTrue (is_live v.books.geom (last_map v d) m)) e lives)))) comes.block))
      (λ other. as_before (Reads d n) (get w.kept n) (get v.cache.kept n) (comes.others n other) (agrees.same n lives))
      (cases_eq n b)

  -- the cache agrees with the disk as it was
  cache_still : {A E : Type 0} (r : Result A E) → OnOk r (ComesIn b x v.cache w) → OnErr r (w ≡ v.cache) → (IsTheDisks b v.cache d → OnOk r (Reads d b x)) → CacheAgrees (record v { cache = w }) d
  cache_still (Ok a) comes same reads = record { newest = newest_still comes; same = same_still comes reads }
  cache_still (Err e) comes same reads = subst (λ (c : Cache). CacheAgrees (record v { cache = c }) d) (sym same) agrees

-- What is kept behind the read.

-- where the disk's base and log stay, what is told of the store stays too
told_still : (v : StoreParts) (d e : disk.State) (w : Cache) (l : Ledger) → e.manner ≡ d.manner → IsToldBy v d l → (v.stopped ≡ false → CacheAgrees (record v { cache = w }) d) → IsToldBy (record v { cache = w }) (record e { base = d.base; log = d.log }) l
told_still v d e w l manner told cache = record {
  failed = λ stopped. subst (λ (m : Manner). HasFailedBy m d.log) (sym manner) (told.failed stopped);
  safe = told.safe;
  made = told.made;
  began = told.began;
  whole = told.whole;
  going = λ going.
      let g = told.going going in
      let a = cache going in
      record {
        agrees = g.agrees;
        serves = g.serves;
        next = g.next;
        due = g.due;
        heard = λ alone. g.heard (ap (λ (m : Manner). m.waits_alone) (sym manner) ∙ alone);
        cache = record {
          newest = a.newest;
          same = λ b lives. weaker (Reads d b) (Reads (record e { base = d.base; log = d.log }) b) (get w.kept b) (λ y r. record { calm = r.calm; one = r.one }) (a.same b lives);
        };
      };
}

sound_still : (v : StoreParts) (w : Cache) → StoreIsSound v → StoreIsSound (record v { cache = w })
sound_still v w s = record {
  kept = s.kept;
  ring_geom = s.ring_geom;
  pipeline_geom = s.pipeline_geom;
  floor = s.floor;
  going = λ going. let g = s.going going in record { sound = g.sound; number = g.number; first = g.first; floor = g.floor };
}

-- the store keeps what it keeps
pub read_keeps : {A E : Type 0} (r : Result A E) (tells : Bool) (v : StoreParts) (d e : disk.State) (b : ℕ) (x : List ℕ) (w : Cache) → IsKeptOn tells v d → newest_in None (kept v.pipeline) b ≡ None
    → OnOk r (ComesIn b x v.cache w) → OnErr r (w ≡ v.cache) → (IsTrue tells → IsTheDisks b v.cache d → OnOk r (Reads d b x)) → SameDisk d e → e.waits ≡ d.waits → (IsTrue tells → e.log ≡ d.log) → IsKeptOn tells (record v { cache = w }) e
read_keeps r tells v d e b x w k none comes same gives on waits log = record {
  size = on.blocks ∙ k.size;
  sound = sound_still v w k.sound;
  waits = omega (arith, k.waits, waits);
  told = λ t. ∥∥₁_map (k.told t) (λ (p : (l : Ledger) × IsToldBy v d l). (
    p.0,
    subst (λ (s : disk.State). IsToldBy (record v { cache = w }) s p.0) (ap₂ (λ (m : Blocks) (es : List Event). record e { base = m; log = es }) (sym on.base) (sym (log t)))
        (told_still v d e w p.0 on.manner p.1 (λ going. cache_still v d b x w (p.1.going going).cache none r comes same (gives t))),
  ));
}
