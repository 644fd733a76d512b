-- What a store keeps is what a map of blocks tells: of each field for itself, since which ledger tells it isn't said.
use Rattle.std.proofs.Common.{◌≡◌, ◌↔◌, inl, ℕ, ◌-◌, ◌<◌, ◌≤◌, Bool, true, false, IsTrue, List, [], length, Option, Some, None, refl, sym, ap, subst, ◌∙◌, arith}
use Rattle.std.proofs.Props.{props}
use Rattle.std.proofs.Math.Logic.{∥∥₁_elim, ∥∥₁_prop}
use Rattle.std.proofs.lemmas.Bool.{cond-true, cond-false}
use Rattle.std.proofs.lemmas.List.{append-nil}
use Rattle.base_types.specs.Seal.{Blocks}
use Rattle.disk_contract.specs.declared.event.Event.{Event}
use Rattle.disk_contract.specs.Disk as disk
use Rattle.layout_bytes.specs.Bitmap.{is_set}
use Rattle.layout_journal.specs.Run.{is_live, otherwise}
use Rattle.crash_argument.specs.Ledger.{Ledger, next_number}
use Rattle.crash_argument.specs.Points.{MountedSession, IsSafe}
use Rattle.engine_running.specs.Running.{bytes_put}
use Rattle.engine_blocks.specs.Running.{is_bare}
use Rattle.engine_blocks.specs.State.{Bookkeeping, Counts, State, defined_by, is_defined}
use Rattle.engine_blocks.specs.Crashes.{Advances, HoldsPointBetween, IssuesNothing, IsTold, StandsForLast}
use Rattle.engine_blocks.specs.Effects.{RunsPipeline}
use Rattle.engine_books.specs.Books.{TransactionBooks, is_marked, running_of, bytes_over, map_of}
use Rattle.engine_books.specs.Kept.{AreKept}
use Rattle.engine_books.specs.Point.{BeganAt}
use Rattle.engine_store.specs.declared.parts.StoreParts.{StoreParts}
use Rattle.engine_store.specs.SessionView.{state_of}
use Rattle.engine_store.specs.Store.{bookkeeping_of}
use Rattle.engine_store.specs.Told.{AwaitsTheSame, IsKeptOn, IsSameSession, IsToldBy, awaited_in, counts_of, last_map, map_now, session_of, store_state}
use Rattle.engine_store.proofs.Awaiting.{awaited_given, awaited_point, awaited_same}

-- What the laws say that are put to use.
abbrev pub NowLaw : Type 0
NowLaw = (s : MountedSession) (base : Blocks) (log : List Event) (l : Ledger) (k : Bookkeeping) (c : Counts) (m : Blocks) (w : StoreParts) (t floor : ℕ) (img : Blocks) → IsSafe s base log l t floor → k.floor ≤ l.known - s.first → next_number l - s.first ≤ k.point
    → (state_of s k c m base log (awaited_in w)).crash.left_since (length log) img → ∥ HoldsPointBetween (state_of s k c m base log (awaited_in w)) k.floor k.point img ∥₁

abbrev pub LastLaw : Type 0
LastLaw = (s : MountedSession) (base : Blocks) (log : List Event) (l : Ledger) (k : Bookkeeping) (c : Counts) (m : Blocks) (w : StoreParts) (t floor : ℕ) → IsSafe s base log l t floor → k.point ≡ next_number l - s.first → StandsForLast (state_of s k c m base log (awaited_in w))

abbrev pub BitsLaw : Type 0
BitsLaw = (v : TransactionBooks) (last : Blocks) (b : ℕ) → BeganAt v last → b < v.geom.n → is_marked v b ≡ is_set v.geom (map_of v last) b

abbrev pub UnputLaw : Type 0
UnputLaw = (v : TransactionBooks) (last : Blocks) (b : ℕ) → AreKept v → BeganAt v last → defined_by v.geom (is_marked v b) (is_bare ((running_of v).roles b)) b ≡ true → bytes_put v.changes b ≡ None → IsTrue (is_live v.geom last b)

abbrev pub NothingLaw : Type 0
NothingLaw = (s : MountedSession) (base : Blocks) (old new : List Event) (j k : Bookkeeping) (c d : Counts) (a b : Blocks) (v w : StoreParts) → new ≡ old → ((p u : ℕ) → awaited_in w p u ↔ awaited_in v p u) → IssuesNothing (state_of s j c a base old (awaited_in v)) (state_of s k d b base new (awaited_in w))

-- what was put is a whole block, and so is what stands for a live block where nothing was put
pub whole_over : (o : Option (List ℕ)) (x : List ℕ) → ((y : List ℕ) → o ≡ Some y → length y ≡ 1024) → (o ≡ None → length x ≡ 1024) → length (otherwise o x) ≡ 1024
whole_over (Some y) x put left = put y refl
whole_over None x put left = left refl

-- each block on which the map is defined is whole
whole_now : UnputLaw → (v : StoreParts) (d : disk.State) (l : Ledger) (b : ℕ) → AreKept v.books → IsToldBy v d l → is_defined (bookkeeping_of v) b ≡ true → length (map_now v d b) ≡ 1024
whole_now unput v d l b kept t is =
    ap (λ (x : List ℕ). length x) (cond-true (is_defined (bookkeeping_of v) b) (bytes_over v.books.changes (last_map v d) b) [] is)
    ∙ whole_over (bytes_put v.books.changes b) (last_map v d b) (λ y put. t.began.whole b y put) (λ none. t.whole b (unput v.books (last_map v d) b kept t.began is none))

-- while it goes, all that was issued is the last point
last_now : LastLaw → (v : StoreParts) (ticks : ℕ) (d : disk.State) (l : Ledger) → IsToldBy v d l → v.stopped ≡ false → StandsForLast (store_state v ticks d)
last_now last v ticks d l t going = last (session_of v) d.base d.log l (bookkeeping_of v) (counts_of ticks d) (map_now v d) v (length d.log) v.floor t.safe (omega (arith, (t.going going).next))

pub is_told_of : NowLaw → LastLaw → BitsLaw → UnputLaw → (tells : Bool) (v : StoreParts) (ticks : ℕ) (d : disk.State) → IsKeptOn tells v d → IsTrue tells → IsTold (store_state v ticks d)
is_told_of now last bits unput tells v ticks d k on = record {
  now = λ img left. ∥∥₁_elim (k.told on) ∥∥₁_prop (λ x. now (session_of v) d.base d.log x.0 (bookkeeping_of v) (counts_of ticks d) (map_now v d) v (length d.log) v.floor img x.1.safe x.1.safe.low (omega (arith, x.1.made)) left);
  bits = λ b below. ∥∥₁_elim (k.told on) (search props) (λ x. bits v.books (last_map v d) b x.1.began below);
  whole = λ b below is. ∥∥₁_elim (k.told on) (search props) (λ x. whole_now unput v d x.0 b k.sound.kept x.1 is);
  nothing = λ b out. cond-false (is_defined (bookkeeping_of v) b) (bytes_over v.books.changes (last_map v d) b) [] out;
  issued = λ going. record {
    some = ∥∥₁_elim (k.told on) ∥∥₁_prop (λ x. (last_now last v ticks d x.0 x.1 going).some);
    each = λ m is. ∥∥₁_elim (k.told on) ∥∥₁_prop (λ x. (last_now last v ticks d x.0 x.1 going).each m is);
  };
  awaits = λ p t waits.
      let point = awaited_point v p t (k.sound.going waits.going) waits in
      record {
        behind = point.0;
        upto = point.1;
        accepted = ∥∥₁_elim (k.told on) (search props) (λ x. let agrees = (x.1.going waits.going).agrees in awaited_given v d.log p t agrees.expected agrees.given waits);
      };
}

-- where the session is the same, base and log are, and points wait for the same tickets, nothing was issued
pub nothing_by_session : NothingLaw → (v w : StoreParts) (before then : ℕ) (d e : disk.State) → IsSameSession v w → AwaitsTheSame v w → e.base ≡ d.base → e.log ≡ d.log → IssuesNothing (store_state v before d) (store_state w then e)
nothing_by_session nothing v w before then d e same waits base log =
    subst (λ (s : MountedSession). IssuesNothing (store_state v before d) (state_of s (bookkeeping_of w) (counts_of then e) (map_now w e) e.base e.log (awaited_in w))) (sym session)
    (subst (λ (b : Blocks). IssuesNothing (store_state v before d) (state_of (session_of v) (bookkeeping_of w) (counts_of then e) (map_now w e) b e.log (awaited_in w))) (sym base)
    (nothing (session_of v) d.base d.log e.log (bookkeeping_of v) (bookkeeping_of w) (counts_of before d) (counts_of then e) (map_now v d) (map_now w e) v w log (awaited_same v w waits)))
  where
    session : session_of w ≡ session_of v
    session = λ i. record { geom = same.geom i; epoch = same.epoch i; mounted = same.mounted i; first = same.first i }

-- the session is the same where of the parts the books alone are new, and so is their geometry
pub books_session : (v w : StoreParts) → w ≡ record v { books = w.books } → w.books.geom ≡ v.books.geom → IsSameSession v w
books_session v w rest geom = record { geom = geom; epoch = ap (λ (x : StoreParts). x.pipeline.header.epoch) rest; mounted = ap (λ (x : StoreParts). x.mounted) rest; first = ap (λ (x : StoreParts). x.first) rest }

-- and then points wait for the same tickets
pub books_awaits : (v w : StoreParts) → w ≡ record v { books = w.books } → AwaitsTheSame v w
books_awaits v w rest = record { stopped = ap (λ (x : StoreParts). x.stopped) rest; first = ap (λ (x : StoreParts). x.first) rest; committed = ap (λ (x : StoreParts). x.pipeline.committed.items) rest }

-- a state goes on from itself
pub goes_on_itself : (s : State) → IsTold s → Advances s s
goes_on_itself s told = record {
  base = refl;
  grows = record { more = []; log = sym (append-nil s.crash.log) };
  window = told.now;
  earlier = λ t img le left. inl left;
  holds = λ img m. (λ is. is, λ is. is);
  sure = λ log p. (λ is. is, λ is. is);
  records = record { told = refl; starts = λ log n. (λ is. is, λ is. is) };
  point = λ p m le. (λ is. is, λ is. is);
  last = omega arith;
  floor = omega arith;
  awaits = λ p t waits. inl waits;
}

pub runs_itself : (tells : Bool) (s : State) → s.books.stopped ≡ false → (IsTrue tells → IsTold s) → RunsPipeline tells false s s
runs_itself tells s going told = record {
  pipeline = record { geom = refl; running = refl; spare = refl; marked = refl; reusable = λ b may. may.free; waiting = omega arith; area = refl; room = refl; free_places = omega arith; turns = omega arith; point = refl; floor = omega arith };
  disk = record { faults = refl; stopped = going; read_faults = refl; waits = omega arith };
  map = λ on. refl;
  crash = λ on. goes_on_itself s (told on);
  writes = λ on. omega arith;
  told = λ on. refl;
}
