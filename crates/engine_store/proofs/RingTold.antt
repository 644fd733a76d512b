-- The ring places that are taken behind an advance are those of the records that the log tells.
use Rattle.std.proofs.Common.{◌≡◌, ℕ, ◌+◌, ◌-◌, ◌≤◌, Bool, false, IsTrue, List, drop, length, Result, Ok, Err, OnOk, refl, sym, ◌∙◌, ap, subst, arith}
use Rattle.std.proofs.Props.{props}
use Rattle.std.proofs.Math.Logic.{∥∥₁_elim, ∥∥₁_map}
use Rattle.std.proofs.lemmas.Option.{same_Some}
use Rattle.base_types.specs.Seal.{Blocks}
use Rattle.disk_contract.specs.declared.disk.DiskFault.{DiskFault}
use Rattle.disk_contract.specs.declared.event.Event.{Event}
use Rattle.disk_contract.specs.Cell.{cell_of}
use Rattle.disk_contract.specs.Disk.{State}
use Rattle.layout_geometry.specs.Geometry.{Geometry}
use Rattle.layout_journal.specs.declared.header.Header.{Header}
use Rattle.layout_journal.specs.declared.record.Commit.{Commit}
use Rattle.layout_journal.specs.Run.{all_places, places_from}
use Rattle.crash_argument.specs.Ledger.{Ledger, all_say}
use Rattle.crash_argument.specs.Points.{MountedSession, IsSafe, points_in, records_told}
use Rattle.engine_reuse.specs.Dead.{DeadBlocks}
use Rattle.engine_checkpoint.specs.declared.pipeline.Pipeline.{Pipeline}
use Rattle.engine_checkpoint.specs.Serving.{IsNewestAtRest, ServesByLog}
use Rattle.engine_blocks.specs.Effects.{RingIsTold}
use Rattle.engine_store.specs.declared.parts.StoreParts.{StoreParts}
use Rattle.engine_store.specs.SessionView.{Starts}
use Rattle.engine_store.specs.PipelineCall.{settled_up}
use Rattle.engine_store.specs.Told.{IsKeptOn, IsToldBy, session_of, store_state}
use Rattle.engine_store.proofs.PipelineCalls.{with_moved}
use Rattle.engine_store.proofs.ServingBlocks.{one_newest}
use Rattle.layout_journal.specs.Ring.{RingPlaces}

-- what a law says of the places that a log tells
abbrev pub PlacesLaw : Type 0
PlacesLaw = (s : MountedSession) (base : Blocks) (log : List Event) (l : Ledger) (t floor n : ℕ) → IsSafe s base log l t floor → l.header.start ≤ n → places_from n (records_told s log) ≡ all_places (all_say (drop (n - l.header.start) l.records))

-- and one of how many it tells
abbrev pub CountsLaw : Type 0
CountsLaw = (s : MountedSession) (log : List Event) → length (records_told s log) ≡ points_in s log

-- the header of the parts is the newest at rest
abbrev pub IsNewest : StoreParts → State → Type 0
IsNewest u e = IsNewestAtRest u.books.geom.n (cell_of e.base e.log) u.pipeline.header

module _ (counts : CountsLaw) (places : PlacesLaw) (tells : Bool) (u : StoreParts) (e : State) (ticks : ℕ) (on : IsTrue tells) (k : IsKeptOn tells u e) (going : u.stopped ≡ false) where
  -- the taken places are those of the ledger's records, which the log tells
  taken_by : (l : Ledger) → IsToldBy u e l → u.ring.taken ≡ places_from u.pipeline.header.start (records_told (session_of u) e.log)
  taken_by l told =
      let goes = told.going going in
      let start : l.header.start ≡ u.pipeline.header.start = ap (λ (h : Header). h.start) (sym goes.agrees.header) in
      goes.agrees.agree.taken ∙ sym (ap (λ n. places_from n (records_told (session_of u) e.log)) (sym start)
      ∙ places (session_of u) e.base e.log l (length e.log) u.floor l.header.start told.safe (omega arith)
      ∙ ap (λ n. all_places (all_say (drop n l.records))) {x = l.header.start - l.header.start} {y = 0} (omega arith))

  within : u.ring.taken ≤ u.ring.geom.j
  within =
      let sound = (k.sound.going going).sound in
      omega (arith, sound.goes_with.taken, sound.order.within, ap (λ (g : Geometry). g.j) sound.goes_with.ring_geom)

  -- one for each point
  one : (told : List Commit) → records_told (session_of u) e.log ≡ told → length told ≡ u.point
  one told is = ∥∥₁_elim (k.told on) (search props) (λ (x : (l : Ledger) × IsToldBy u e l).
      omega (arith, ap (λ (cs : List Commit). length cs) is, counts (session_of u) e.log, x.1.safe.points.count, (x.1.going going).next))

  places_told : IsNewest u e → (told : List Commit) → records_told (session_of u) e.log ≡ told → (number : ℕ) → ∥ Starts (session_of u) e.base e.log number ∥₁ → u.books.geom.j ≡ u.ring.geom.j - u.ring.taken + places_from number told
  places_told newest told is number starts = ∥∥₁_elim starts (search props) (λ (s : Starts (session_of u) e.base e.log number). ∥∥₁_elim (k.told on) (search props) (λ (x : (l : Ledger) × IsToldBy u e l).
      let own = one_newest u.books.geom.n (cell_of e.base e.log) s.header u.pipeline.header s.newest newest in
      let start : u.pipeline.header.start ≡ number = sym (ap (λ (h : Header). h.start) own) ∙ s.is in
      let same : places_from u.pipeline.header.start (records_told (session_of u) e.log) ≡ places_from number told = ap (λ n. places_from n (records_told (session_of u) e.log)) start ∙ ap (places_from number) is in
      omega (arith, taken_by x.0 x.1, same, within, ap (λ (g : Geometry). g.j) k.sound.ring_geom)))

  pub ring_told : ∥ IsNewest u e ∥₁ → RingIsTold (store_state u ticks e)
  ring_told newest told is = let same = same_Some (records_told (session_of u) e.log) told is in record {
    one = one told same;
    starts = ∥∥₁_map newest (λ (n : IsNewest u e). (u.pipeline.header.start, ∣ record { header = u.pipeline.header; newest = n; is = refl } ∣₁));
    places = λ number starts. ∥∥₁_elim newest (search props) (λ (n : IsNewest u e). places_told n told same number starts);
  }

-- the same by the result of an advance
pub ring_ended : (counts : CountsLaw) (places : PlacesLaw) (done answer : Result (Unit {0}) DiskFault) (tells : Bool) (v u : StoreParts) (q : Pipeline) (ring : RingPlaces) (next : DeadBlocks) (d e : State) (ticks : ℕ) → IsTrue tells → answer ≡ done → u ≡ settled_up done (with_moved v q ring next) → v.stopped ≡ false → v.pipeline.geom ≡ v.books.geom → IsKeptOn tells u e
    → ∥ OnOk done (ServesByLog v.pipeline.geom.n e.base e.log q.header v.books.dead next) ∥₁ → OnOk answer (RingIsTold (store_state u ticks e))
ring_ended counts places (Err x) answer tells v u q ring next d e ticks on same is going geom k some = subst (λ (r : Result (Unit {0}) DiskFault). OnOk r (RingIsTold (store_state u ticks e))) (sym same) tt
ring_ended counts places (Ok a) answer tells v u q ring next d e ticks on same is going geom k some = subst (λ (r : Result (Unit {0}) DiskFault). OnOk r (RingIsTold (store_state u ticks e))) (sym same)
    (ring_told counts places tells u e ticks on k (ap (λ (x : StoreParts). x.stopped) is ∙ going) (∥∥₁_map some newest))
  where
    newest : ServesByLog v.pipeline.geom.n e.base e.log q.header v.books.dead next → IsNewest u e
    newest g = subst (λ (x : StoreParts). IsNewestAtRest x.books.geom.n (cell_of e.base e.log) x.pipeline.header) (sym is) (subst (λ (s : Geometry). IsNewestAtRest s.n (cell_of e.base e.log) q.header) geom g.newest)
