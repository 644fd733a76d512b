-- Which blocks serve again: behind an advance those whose point is sure and on which nothing is pending, and behind a drain all.
use Rattle.std.proofs.Common.{◌≡◌, ⊎_elim, ℕ, ◌+◌, ◌-◌, ◌≤◌, ◌==◌, ◌&&◌, ◌||◌, nat_le, not, Bool, true, false, IsTrue, List, [], map, length, is_some, slice_get, Option, Some, None, option_map, Result, Ok, Err, OnOk, refl, sym, ◌∙◌, ap, ap₂, subst, arith}
use Rattle.std.proofs.Props.{props}
use Rattle.std.proofs.Math.Logic.{∥∥₁_elim, ∥∥₁_map}
use Rattle.std.proofs.lemmas.Bool.{and_parts, cases_lt, eqb-true, false≢true, le-leb, leb-true, false_from_ne_true, not-false, not-true, or_right}
use Rattle.std.proofs.lemmas.Option.{none-some, same_Some}
use Rattle.std.proofs.lemmas.List.{nil_from_length}
use Rattle.std.proofs.Math.Bool.{or-false}
use Rattle.disk_contract.specs.declared.disk.DiskFault.{DiskFault}
use Rattle.disk_contract.specs.Cell.{Cell, Write, cell_of}
use Rattle.disk_contract.specs.Disk.{State}
use Rattle.layout_geometry.specs.Geometry.{Geometry}
use Rattle.layout_journal.specs.declared.header.Header.{Header}
use Rattle.layout_journal.specs.Layout.{header_of}
use Rattle.layout_journal.specs.Ring.{RingPlaces}
use Rattle.crash_argument.specs.Ledger.{Ledger}
use Rattle.crash_argument.specs.Points.{MountedSession}
use Rattle.engine_reuse.specs.Numbers.{is_among}
use Rattle.engine_reuse.specs.Dead.{DeadBlocks, AreSound, block_of, dead_blocks}
use Rattle.engine_reuse.specs.Calls.{is_given_up, with_released}
use Rattle.engine_checkpoint.specs.declared.pipeline.Pipeline.{Pipeline}
use Rattle.engine_checkpoint.specs.Advance.{IsRightOn}
use Rattle.engine_checkpoint.specs.Serving.{IsNewestAtRest, ServesByLog, ServesKnown, is_at_rest}
use Rattle.engine_checkpoint.specs.Waits.{HearsAll}
use Rattle.engine_blocks.specs.Serving.{SameFreed, ServesSure, with_all_served}
use Rattle.engine_books.specs.Books.{TransactionBooks}
use Rattle.engine_store.specs.declared.parts.StoreParts.{StoreParts}
use Rattle.engine_store.specs.PipelineCall.{settled_up}
use Rattle.engine_store.specs.SessionView.{IsSure}
use Rattle.engine_store.specs.Store.{PartsMove, StoreIsSound, bookkeeping_of, point_of, waits_for}
use Rattle.engine_store.specs.Told.{IsKeptOn, IsToldBy, session_of, store_state}
use Rattle.engine_store.proofs.PipelineCalls.{with_moved}
use Rattle.engine_store.proofs.WaitingBlocks.{among_none, at_among, dead_is, found, kept_waits, none_among, none_kept, waits_not_held}

abbrev pub HeldLaw : Type 0
HeldLaw = (v : DeadBlocks) (b : ℕ) → AreSound v → is_among b v.held ≡ true → is_among b v.reusable ≡ false

abbrev pub WaitLaw : Type 0
WaitLaw = (v : DeadBlocks) (b : ℕ) → AreSound v → is_among b (map block_of v.waiting) ≡ true → is_among b v.reusable ≡ false

abbrev pub ExactLaw : Type 0
ExactLaw = (v : DeadBlocks) (sure : ℕ) (going_home : List ℕ) (k : ℕ) (p : ℕ × ℕ) → AreSound v → slice_get v.waiting k ≡ Some p → is_among (block_of p) (with_released v sure going_home).reusable ≡ is_given_up sure going_home p

-- A newest header at rest is the only one.
pub one_newest : (n : ℕ) (cells : ℕ → Cell) (h k : Header) → IsNewestAtRest n cells h → IsNewestAtRest n cells k → h ≡ k
one_newest n cells h k a b = ⊎_elim (λ less. absurd (apart (omega (arith, less, b.is_slot), omega (arith, less, b.is_slot))))
    (λ more. ⊎_elim (λ less. absurd (apart (omega (arith, less, a.is_slot), omega (arith, less, a.is_slot)))) (λ same. same_slot (omega (arith, more, same))) (cases_lt b.slot a.slot)) (cases_lt a.slot b.slot)
  where
    same_slot : b.slot ≡ a.slot → h ≡ k
    same_slot same = same_Some h k (sym a.stands ∙ subst (λ (s : ℕ). header_of n (cells s).settled ≡ Some k) same b.stands)

    apart : (b.slot ≡ 1 - a.slot) × (a.slot ≡ 1 - b.slot) → ⊥
    apart at =
        let less = a.other k (subst (λ (s : ℕ). (cells s).pending ≡ []) at.0 b.rests) (subst (λ (s : ℕ). header_of n (cells s).settled ≡ Some k) at.0 b.stands) in
        let more = b.other h (subst (λ (s : ℕ). (cells s).pending ≡ []) at.1 a.rests) (subst (λ (s : ℕ). header_of n (cells s).settled ≡ Some h) at.1 a.stands) in
        omega (arith, less, more)

-- what a block waits for, told as a point
waits_point : (first : ℕ) (o : Option ℕ) (p : ℕ) → option_map (point_of first) o ≡ Some p → (r : ℕ) × (o ≡ Some r) × (point_of first r ≡ p)
waits_point first None p is = absurd (none-some p is)
waits_point first (Some r) p is = (r, refl, same_Some (point_of first r) p is)

pub waits_none : (first : ℕ) (o : Option ℕ) → option_map (point_of first) o ≡ None → o ≡ None
waits_none first None none = refl
waits_none first (Some r) none = absurd (none-some (point_of first r) (sym none))

-- what is dead may be taken, is held or waits, before and after
others_by : (r h w s i u d e : Bool) → w ≡ false → d ≡ (r || (h || w)) → e ≡ (s || (i || u)) → e ≡ d → (r ≡ true → s ≡ true) → (i ≡ true → s ≡ false) → i ≡ h → s ≡ r
others_by r h w s i u d e none before after same still law held = grind (arith, none, before, after, same, still, law, held)

serves_by : (r h w s i u d e : Bool) → w ≡ true → d ≡ (r || (h || w)) → e ≡ (s || (i || u)) → e ≡ d → h ≡ false → i ≡ h → u ≡ false → s ≡ true
serves_by r h w s i u d e waits before after same out held none = grind (arith, waits, before, after, same, out, held, none)

-- The dead blocks before and after a call of the pipeline.
module _ (dead next : DeadBlocks) (sound : AreSound dead) (then_sound : AreSound next) (all : (b : ℕ) → is_among b (dead_blocks next) ≡ is_among b (dead_blocks dead)) (held : next.held ≡ dead.held) (still : (b : ℕ) → is_among b dead.reusable ≡ true → is_among b next.reusable ≡ true) (held_law : HeldLaw) where
  -- a block that didn't wait may be taken where it might before
  pub others_same : (b : ℕ) → is_among b (map block_of dead.waiting) ≡ false → is_among b next.reusable ≡ is_among b dead.reusable
  others_same b none = others_by _ _ _ _ _ _ _ _ none (dead_is dead b) (dead_is next b) (all b) (still b) (held_law next b then_sound) (ap (is_among b) held)

  -- where none waits any more, each that waited may be taken
  pub all_serve : next.waiting ≡ [] → (b : ℕ) → is_among b (map block_of dead.waiting) ≡ true → is_among b next.reusable ≡ true
  all_serve none b waits = serves_by _ _ _ _ _ _ _ _ waits (dead_is dead b) (dead_is next b) (all b) (waits_not_held dead b sound waits) (ap (is_among b) held) (ap (λ (ps : List (ℕ × ℕ)). is_among b (map block_of ps)) none)

given_parts : (r sure : ℕ) (going : Bool) → (nat_le r sure && not going) ≡ true → (r ≤ sure) × (going ≡ false)
given_parts r sure going e = let p = and_parts (nat_le r sure) (not going) e in (leb-true r sure p.0, not-true going p.1)

given_both : (r sure : ℕ) (going : Bool) → r ≤ sure → going ≡ false → (nat_le r sure && not going) ≡ true
given_both r sure going le none = ap₂ (λ x y. x && not y) (le-leb r sure le) none

-- nothing is pending on a cell at rest
none_pends : (c : Cell) → is_at_rest c ≡ true → c.pending ≡ []
none_pends c e = nil_from_length c.pending (eqb-true (length c.pending) 0 e)

-- Behind an advance.
module _ (v u : StoreParts) (d e : State) (before then : ℕ) (headers : ℕ) (m : PartsMove headers v u) (sound : AreSound v.books.dead) (first : u.first ≤ u.pipeline.header.sure + 1) (same_n : u.books.geom.n ≡ v.pipeline.geom.n)
    (held_law : HeldLaw) (wait_law : WaitLaw) (exact : ExactLaw) (some : ∥ ServesByLog v.pipeline.geom.n e.base e.log u.pipeline.header v.books.dead u.books.dead ∥₁) where
  abbrev Served : Type 0
  Served = ServesByLog v.pipeline.geom.n e.base e.log u.pipeline.header v.books.dead u.books.dead

  -- what may be taken of those that waited
  exactly : (g : Served) (k b r : ℕ) → slice_get v.books.dead.waiting k ≡ Some (b, r) → is_among b u.books.dead.reusable ≡ (nat_le r u.pipeline.header.sure && not (is_among b g.going))
  exactly g k b r at = ap (λ (x : DeadBlocks). is_among b x.reusable) g.served ∙ exact v.books.dead u.pipeline.header.sure g.going k (b, r) sound at

  serves_then : (b p : ℕ) → (bookkeeping_of v).since b ≡ Some p → is_among b u.books.dead.reusable ≡ true → ∥ IsSure (session_of u) e.base e.log p ∥₁
  serves_then b p waits may = ∥∥₁_map some (λ (g : Served).
      let w = waits_point v.first (waits_for v.books.dead.waiting b) p waits in
      let at = found v.books.dead.waiting b w.0 w.1 in
      let given = given_parts w.0 u.pipeline.header.sure (is_among b g.going) (sym (exactly g at.0 b w.0 at.1) ∙ may) in
      record { header = u.pipeline.header; newest = subst (λ n. IsNewestAtRest n (cell_of e.base e.log) u.pipeline.header) (sym same_n) g.newest; upto = omega (arith, given.0, w.2, m.first) })

  rests_then : (b p : ℕ) → (bookkeeping_of v).since b ≡ Some p → is_among b u.books.dead.reusable ≡ true → is_at_rest (cell_of e.base e.log b) ≡ true
  rests_then b p waits may = ∥∥₁_elim some (search props) (λ (g : Served).
      let w = waits_point v.first (waits_for v.books.dead.waiting b) p waits in
      let at = found v.books.dead.waiting b w.0 w.1 in
      let given = given_parts w.0 u.pipeline.header.sure (is_among b g.going) (sym (exactly g at.0 b w.0 at.1) ∙ may) in
      not-false (is_at_rest (cell_of e.base e.log b)) (sym (g.pending at.0 b w.0 at.1 given.0) ∙ given.1))

  sure_serves : (b p : ℕ) → (bookkeeping_of v).since b ≡ Some p → ∥ IsSure (session_of u) e.base e.log p ∥₁ → is_at_rest (cell_of e.base e.log b) ≡ true → is_among b u.books.dead.reusable ≡ true
  sure_serves b p waits sure rests = ∥∥₁_elim some (search props) (λ (g : Served). ∥∥₁_elim sure (search props) (λ (s : IsSure (session_of u) e.base e.log p).
      let w = waits_point v.first (waits_for v.books.dead.waiting b) p waits in
      let at = found v.books.dead.waiting b w.0 w.1 in
      let own = one_newest v.pipeline.geom.n (cell_of e.base e.log) s.header u.pipeline.header (subst (λ n. IsNewestAtRest n (cell_of e.base e.log) s.header) same_n s.newest) g.newest in
      let le : w.0 ≤ u.pipeline.header.sure = omega (arith, s.upto, w.2, m.first, first, ap (λ (h : Header). h.sure) own) in
      exactly g at.0 b w.0 at.1 ∙ given_both w.0 u.pipeline.header.sure (is_among b g.going) le (g.pending at.0 b w.0 at.1 le ∙ ap not rests)))

  pub serves_sure : ServesSure (store_state v before d) (store_state u then e)
  serves_sure = record {
    serves = λ b p at waits. (λ may. (serves_then b p waits may, none_pends (cell_of e.base e.log b) (rests_then b p waits may)), λ both. sure_serves b p waits both.0 (ap (λ (xs : List Write). length xs == 0) both.1));
    others = λ b at none. others_same v.books.dead u.books.dead sound m.dead m.moves.all_dead m.moves.held m.moves.reusable held_law b (none_among v.books.dead.waiting b (waits_none v.first (waits_for v.books.dead.waiting b) none));
    serving = λ b at may. ap (option_map (point_of u.first)) (among_none u.books.dead.waiting b (false_from_ne_true (is_among b (map block_of u.books.dead.waiting)) (λ waits. false≢true (sym (wait_law u.books.dead b m.dead waits) ∙ may))));
    waiting = λ b at not_yet. ap₂ (λ (f : ℕ) (o : Option ℕ). option_map (point_of f) o) m.first (∥∥₁_elim some (search props) (λ (g : Served). stays g b not_yet));
  }
    where
      stays : (g : Served) (b : ℕ) → is_among b u.books.dead.reusable ≡ false → waits_for u.books.dead.waiting b ≡ waits_for v.books.dead.waiting b
      stays g b not_yet = ap (λ (x : DeadBlocks). waits_for x.waiting b) g.served ∙ by (waits_for v.books.dead.waiting b) refl
        where
          by : (o : Option ℕ) → waits_for v.books.dead.waiting b ≡ o → waits_for (with_released v.books.dead u.pipeline.header.sure g.going).waiting b ≡ waits_for v.books.dead.waiting b
          by None none = none_kept (λ p. not (is_given_up u.pipeline.header.sure g.going p)) v.books.dead.waiting b none ∙ sym none
          by (Some r) is = let at = found v.books.dead.waiting b r is in kept_waits (λ p. not (is_given_up u.pipeline.header.sure g.going p)) v.books.dead.waiting b r is (ap not (sym (exactly g at.0 b r at.1) ∙ not_yet)) ∙ sym is

-- Behind a drain.
pub drained_serves : (headers : ℕ) (v u : StoreParts) → PartsMove headers v u → AreSound v.books.dead → HeldLaw → u.books.dead.waiting ≡ [] → SameFreed (with_all_served (bookkeeping_of v)) (bookkeeping_of u)
drained_serves headers v u m sound held_law none = record {
  reusable = λ b at. by b (waits_for v.books.dead.waiting b) refl;
  since = λ b at. ap (λ (ps : List (ℕ × ℕ)). option_map (point_of u.first) (waits_for ps b)) none;
}
  where
    by : (b : ℕ) (o : Option ℕ) → waits_for v.books.dead.waiting b ≡ o → is_among b u.books.dead.reusable ≡ (is_among b v.books.dead.reusable || is_some (option_map (point_of v.first) (waits_for v.books.dead.waiting b)))
    by b None is = others_same v.books.dead u.books.dead sound m.dead m.moves.all_dead m.moves.held m.moves.reusable held_law b (none_among v.books.dead.waiting b is)
        ∙ sym (or-false (is_among b v.books.dead.reusable)) ∙ sym (ap (λ (o : Option ℕ). is_among b v.books.dead.reusable || is_some (option_map (point_of v.first) o)) is)
    by b (Some r) is = let at = found v.books.dead.waiting b r is in
        all_serve v.books.dead u.books.dead sound m.dead m.moves.all_dead m.moves.held m.moves.reusable held_law none b (at_among v.books.dead.waiting at.0 b r at.1)
        ∙ sym (or_right (is_among b v.books.dead.reusable) true refl) ∙ sym (ap (λ (o : Option ℕ). is_among b v.books.dead.reusable || is_some (option_map (point_of v.first) o)) is)

-- By the result of the call.

-- an advance told what serves again, by whichever ledger
pub served_some : (done : Result (Unit {0}) DiskFault) (tells : Bool) (v : StoreParts) (q : Pipeline) (lent next : DeadBlocks) (d e : State) → IsTrue tells → IsKeptOn tells v d → v.stopped ≡ false → lent ≡ v.books.dead → d.manner.waits_alone ≡ true
    → (IsTrue tells → (s : MountedSession) (l : Ledger) (t floor : ℕ) (taken : List ℕ) → IsRightOn s d l t floor v.pipeline v.ring lent taken → OnOk done (ServesKnown d e v.pipeline q lent next)) → ∥ OnOk done (ServesByLog v.pipeline.geom.n e.base e.log q.header v.books.dead next) ∥₁
served_some done tells v q lent next d e on k going is alone serves = ∥∥₁_map (k.told on) (λ (x : (l : Ledger) × IsToldBy v d l).
    let goes = x.1.going going in
    by done (goes.heard alone) (subst (λ (dead : DeadBlocks). OnOk done (ServesKnown d e v.pipeline q dead next)) is
    (serves on (session_of v) x.0 (length d.log) v.floor v.books.changes.taken (subst (λ (dead : DeadBlocks). IsRightOn (session_of v) d x.0 (length d.log) v.floor v.pipeline v.ring dead v.books.changes.taken) (sym is) (record { safe = x.1.safe; agrees = goes.agrees; serves = goes.serves })))))
  where
    by : (r : Result (Unit {0}) DiskFault) → HearsAll d.log v.pipeline → OnOk r (ServesKnown d e v.pipeline q v.books.dead next) → OnOk r (ServesByLog v.pipeline.geom.n e.base e.log q.header v.books.dead next)
    by (Ok a) knew served = served alone knew
    by (Err x) knew served = tt

pub serves_ended : (done answer : Result (Unit {0}) DiskFault) (v u : StoreParts) (q : Pipeline) (ring : RingPlaces) (next : DeadBlocks) (d e : State) (before then : ℕ) → answer ≡ done → u ≡ settled_up done (with_moved v q ring next) → PartsMove 1 v u → StoreIsSound v → v.stopped ≡ false → HeldLaw → WaitLaw → ExactLaw
    → ∥ OnOk done (ServesByLog v.pipeline.geom.n e.base e.log q.header v.books.dead next) ∥₁ → OnOk answer (ServesSure (store_state v before d) (store_state u then e))
serves_ended (Err x) answer v u q ring next d e before then same is m sound going held_law wait_law exact some = subst (λ (r : Result (Unit {0}) DiskFault). OnOk r (ServesSure (store_state v before d) (store_state u then e))) (sym same) tt
serves_ended (Ok a) answer v u q ring next d e before then same is m sound going held_law wait_law exact some = subst (λ (r : Result (Unit {0}) DiskFault). OnOk r (ServesSure (store_state v before d) (store_state u then e))) (sym same)
    (serves_sure v u d e before then 1 m sound.kept.sound (omega (arith, (sound.going going).first, m.first, m.moves.sure)) (ap (λ (g : Geometry). g.n) (ap (λ (x : TransactionBooks). x.geom) m.books ∙ sym sound.pipeline_geom)) held_law wait_law exact
    (∥∥₁_map some (λ (g : ServesByLog v.pipeline.geom.n e.base e.log q.header v.books.dead next). subst (λ (x : StoreParts). ServesByLog v.pipeline.geom.n e.base e.log x.pipeline.header v.books.dead x.books.dead) (sym is) g)))

pub drain_ended : (done answer : Result (Unit {0}) DiskFault) (v u : StoreParts) → answer ≡ done → PartsMove 4 v u → AreSound v.books.dead → HeldLaw → OnOk answer ((bookkeeping_of u).waiting ≡ 0) → OnOk answer (SameFreed (with_all_served (bookkeeping_of v)) (bookkeeping_of u))
drain_ended done (Err x) v u same m sound held_law none = tt
drain_ended done (Ok a) v u same m sound held_law none = drained_serves 4 v u m sound held_law (nil_from_length u.books.dead.waiting none)
