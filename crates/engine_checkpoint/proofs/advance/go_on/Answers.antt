-- One step after the other: all stays right, and each write was owed.
use Rattle.std.proofs.Common.{◌∙◌, Ok, refl, sym, ap, arith, Err, ℕ, List, IsTrue}
use Rattle.crash_argument.specs.Points.{MountedSession}
use Rattle.crash_argument.specs.Ledger.{Ledger}
use Rattle.engine_checkpoint.proofs.GoesRows.{goes_fault}
use Rattle.engine_checkpoint.proofs.GoesBoth.{goes_both}
use Rattle.layout_geometry.specs.Geometry.{Geometry}
use Rattle.layout_journal.specs.declared.header.Header.{Header}
use Rattle.engine_reuse.specs.Calls.{with_released}
use Rattle.engine_reuse.specs.Dead.{DeadBlocks}
use Rattle.engine_checkpoint.specs.declared.pipeline.Pipeline.{Pipeline}
use Rattle.engine_checkpoint.specs.Advance.{MayServe, IsSound, IsRightOn}
use Rattle.engine_checkpoint.specs.Kept.{kept}
use Rattle.engine_checkpoint.specs.Turns.{is_batch_due, is_header_due, due_header, going_home, header_made}
use Rattle.engine_checkpoint.specs.Waits.{LosesCommitted, StaysHeard}
use Rattle.engine_checkpoint.proofs.Added.{home_before, home_failed, home_batch, loses_on, loses_batch, kept_begun}
use Rattle.engine_checkpoint.proofs.HeardRecords.{grows_batch, grows_header, grows_on}
use Rattle.engine_checkpoint.proofs.HomeLives.{home_lives}
use Rattle.engine_checkpoint.proofs.LiveBytes.{leaves_on, batch_covered}
use Rattle.engine_checkpoint.proofs.MovesRows.{turns_left, moves_forward, moves_more, moves_upto_batch, sound_batch, sound_header}
use Rattle.engine_checkpoint.proofs.StageRows.{stage_on}
use Rattle.engine_checkpoint.proofs.DueRows.{nothing_due}
use Rattle.engine_checkpoint.proofs.Serves.{serves_batch}
use Rattle.engine_checkpoint.proofs.Serving.{goes_on, header_stays, serves_by_log}
use Rattle.engine_checkpoint.proofs.Spent.{none_ok}
use Rattle.engine_checkpoint.proofs.StepsRight.{leaves_failed, header_failed, serves_header, right_header}
use Rattle.engine_checkpoint.proofs.advance.go_on.Goals as goal

pub returns-in_err-begin_batch-clause-goes : goal.returns-in_err-begin_batch-clause-goes
returns-in_err-begin_batch-clause-goes g c = record {
  right = λ tells s l t floor taken right.
      let a = c.go_forward.ensures.right s (g.D.Disk.state c.args.disk.now).base (g.D.Disk.state c.args.disk.now).log l t floor taken right in
      let safe = (c.begin_batch.ensures.agrees tells s a.now t floor c.go_forward.new.ring c.go_forward.new.reuse.waiting taken a.right.safe a.right.agrees).0 in
      leaves_failed c.from_residual.result s (g.D.Disk.state c.begin_batch.new.disk) l t floor c.begin_batch.new.pipeline c.go_forward.new.ring c.go_forward.new.reuse taken c.from_residual.ensures.0 (record { now = a.now; turned = a.turned; safe = safe });
  sound = none_ok (IsSound c.begin_batch.new.pipeline c.go_forward.new.ring c.go_forward.new.reuse) c.from_residual.result c.from_residual.ensures.0;
  moves = let f = c.go_forward.ensures.forward in
      moves_more 0 1 c.args.pipeline.now c.begin_batch.new.pipeline c.args.ring.now c.go_forward.new.ring c.args.reuse.now c.go_forward.new.reuse (omega arith)
      (moves_upto_batch (is_batch_due c.go_forward.new.pipeline) c.begin_batch.result c.args.pipeline.now f.0 f.1 f.2 c.go_forward.new.pipeline c.begin_batch.new.pipeline c.args.ring.now c.go_forward.new.ring c.args.reuse.now c.go_forward.new.reuse
      c.calls_change_what_is_dead.ensures.released c.lawful.ensures c.requires.sound.order f.3 c.begin_batch.ensures.begins);
  owed = λ tells. omega (arith, c.begin_batch.ensures.owed tells, c.go_forward.ensures.owed);
  adds = λ tells.
      let v = c.args.pipeline.now in
      let w = c.go_forward.new.pipeline in
      let log = (g.D.Disk.state c.args.disk.now).log in
      let new = (g.D.Disk.state c.begin_batch.new.disk).log in
      home_failed c.begin_batch.result c.from_residual.result (kept v) log new c.from_residual.ensures.0
      (home_before c.begin_batch.result (kept v) (kept w) log new c.go_forward.ensures.front (home_batch (is_batch_due w) c.begin_batch.result w c.begin_batch.new.pipeline log new (c.begin_batch.ensures.log tells)));
  front = loses_on (kept c.args.pipeline.now) (kept c.go_forward.new.pipeline) (kept c.begin_batch.new.pipeline) c.go_forward.ensures.front (loses_batch (is_batch_due c.go_forward.new.pipeline) c.begin_batch.result c.go_forward.new.pipeline c.begin_batch.new.pipeline c.begin_batch.ensures.begins);
  lost = none_ok (LosesCommitted c.args.pipeline.now c.begin_batch.new.pipeline) c.from_residual.result c.from_residual.ensures.0;
  heard = λ tells s l t floor taken right. none_ok (StaysHeard (g.D.Disk.state c.args.disk.now) (g.D.Disk.state c.begin_batch.new.disk) c.args.pipeline.now c.begin_batch.new.pipeline) c.from_residual.result c.from_residual.ensures.0;
  bytes = λ tells s l t floor taken right.
      let v = c.args.pipeline.now in
      let w = c.go_forward.new.pipeline in
      let x = c.begin_batch.new.pipeline in
      let old = g.D.Disk.state c.args.disk.now in
      let middle = g.D.Disk.state c.begin_batch.new.disk in
      let on = c.go_forward.ensures.right s old.base old.log l t floor taken right in
      let batch = batch_covered (is_batch_due w) c.begin_batch.result on.now w x old.log middle.log (c.begin_batch.ensures.log tells)
      (home_lives old.base old.log on.now w c.go_forward.new.ring c.go_forward.new.reuse.waiting taken on.right.agrees on.right.safe.keeps c.a_batch_goes_home.ensures.taken c.counts_tell_the_batch.ensures.batch c.the_home_test_is_exact.ensures.needs (λ n u is. c.records_stand_in_order.ensures.numbers old.base old.log on.now n u on.right.safe.keeps is)) in
      leaves_on l on.now on.turned v w x old old middle c.go_forward.ensures.front c.begin_batch.ensures.asks.spends.same.base (kept_begun (is_batch_due w) c.begin_batch.result w x c.begin_batch.ensures.begins) batch (c.go_forward.ensures.bytes s old l t floor taken right);
}

pub begin_batch-requires : goal.begin_batch-requires
begin_batch-requires g c =
    let f = c.go_forward.ensures.forward in
    let moved = moves_forward c.args.pipeline.now f.0 f.1 f.2 c.go_forward.new.pipeline c.args.ring.now c.go_forward.new.ring c.args.reuse.now c.go_forward.new.reuse c.calls_change_what_is_dead.ensures.released c.lawful.ensures c.requires.sound.order f.3 in
    record { order = c.go_forward.ensures.sound.order; room = c.go_forward.ensures.sound.room; size = c.requires.size ∙ sym (ap (λ (k : Geometry). k.n) moved.geom) }

pub write_next_header-requires : goal.write_next_header-requires
write_next_header-requires g c =
    let f = c.go_forward.ensures.forward in
    let moved = moves_upto_batch (is_batch_due c.go_forward.new.pipeline) c.begin_batch.result c.args.pipeline.now f.0 f.1 f.2 c.go_forward.new.pipeline c.begin_batch.new.pipeline c.args.ring.now c.go_forward.new.ring c.args.reuse.now c.go_forward.new.reuse
    c.calls_change_what_is_dead.ensures.released c.lawful.ensures c.requires.sound.order f.3 c.begin_batch.ensures.begins in
    let low = turns_left c.args.pipeline.now c.begin_batch.new.pipeline c.args.ring.now c.go_forward.new.ring c.args.reuse.now c.go_forward.new.reuse 18446744073709551614 (omega (arith, c.requires.turns.turn)) c.begin_batch.ensures.fit.order moved in
    record {
      on = record {
        order = c.begin_batch.ensures.fit.order;
        room = c.begin_batch.ensures.fit.room;
        size = c.begin_batch.ensures.asks.spends.same.blocks ∙ c.requires.size ∙ sym (ap (λ (k : Geometry). k.n) moved.geom);
      };
      turn = omega (arith, low);
      last = omega (arith, c.requires.turns.last, moved.last);
    }

pub returns-in_err-write_next_header-clause-goes : goal.returns-in_err-write_next_header-clause-goes
returns-in_err-write_next_header-clause-goes g c =
    let old = g.D.Disk.state c.args.disk.now in
    let forward = λ (s : MountedSession) (l : Ledger) (t floor : ℕ) (taken : List ℕ) (right : IsRightOn s old l t floor c.args.pipeline.now c.args.ring.now c.args.reuse.now taken). c.go_forward.ensures.right s old.base old.log l t floor taken right in
    let lives = λ (tells : IsTrue g.D.Disk.tells) (s : MountedSession) (l : Ledger) (t floor : ℕ) (taken : List ℕ) (right : IsRightOn s old l t floor c.args.pipeline.now c.args.ring.now c.args.reuse.now taken). let on = forward s l t floor taken right in
    home_lives old.base old.log on.now c.go_forward.new.pipeline c.go_forward.new.ring c.go_forward.new.reuse.waiting taken on.right.agrees on.right.safe.keeps c.a_batch_goes_home.ensures.taken c.counts_tell_the_batch.ensures.batch c.the_home_test_is_exact.ensures.needs (λ n u is. c.records_stand_in_order.ensures.numbers old.base old.log on.now n u on.right.safe.keeps is) in
    goes_fault c.in_err-write_next_header.field-0.0 c.from_residual-in_err-write_next_header.result c.from_residual-in_err-write_next_header.ensures.0 (goes_both g.D.Disk.tells old (g.D.Disk.state c.begin_batch.new.disk) (g.D.Disk.state c.write_next_header.new.disk) c.args.pipeline.now c.go_forward.new.pipeline c.begin_batch.new.pipeline c.write_next_header.new.pipeline c.args.ring.now c.go_forward.new.ring c.args.reuse.now c.go_forward.new.reuse
    c.calls_change_what_is_dead.ensures.released c.calls_add_at_most_one_write.ensures.write c.lawful.ensures c.requires.sound.order c.begin_batch.ensures.fit.order c.go_forward.ensures.forward forward (λ s l t floor taken right. c.go_forward.ensures.bytes s old l t floor taken right) c.go_forward.ensures.front c.go_forward.ensures.owed
    c.in_ok-begin_batch.ensures.begins c.in_ok-begin_batch.ensures.log c.begin_batch.ensures.asks.spends.same.base c.begin_batch.ensures.owed lives
    (Err c.in_err-write_next_header.field-0.0) c.in_err-write_next_header.ensures.adds c.in_err-write_next_header.ensures.log c.write_next_header.ensures.owed c.write_next_header.ensures.asks.spends.same.base
    (λ tells s l t floor taken right.
    let a = c.go_forward.ensures.right s (g.D.Disk.state c.args.disk.now).base (g.D.Disk.state c.args.disk.now).log l t floor taken right in
    let b = c.in_ok-begin_batch.ensures.agrees tells s a.now t floor c.go_forward.new.ring c.go_forward.new.reuse.waiting taken a.right.safe a.right.agrees in
    let safe = c.in_err-write_next_header.ensures.agrees tells s a.now t floor c.go_forward.new.reuse.waiting taken b.0 b.1 in
    (header_failed s (g.D.Disk.state c.write_next_header.new.disk) l a.now t floor (due_header c.begin_batch.new.pipeline c.go_forward.new.ring) a.turned safe))
    tt)

pub returns-clause-goes : goal.returns-clause-goes
returns-clause-goes g c =
    let old = g.D.Disk.state c.args.disk.now in
    let forward = λ (s : MountedSession) (l : Ledger) (t floor : ℕ) (taken : List ℕ) (right : IsRightOn s old l t floor c.args.pipeline.now c.args.ring.now c.args.reuse.now taken). c.go_forward.ensures.right s old.base old.log l t floor taken right in
    let lives = λ (tells : IsTrue g.D.Disk.tells) (s : MountedSession) (l : Ledger) (t floor : ℕ) (taken : List ℕ) (right : IsRightOn s old l t floor c.args.pipeline.now c.args.ring.now c.args.reuse.now taken). let on = forward s l t floor taken right in
    home_lives old.base old.log on.now c.go_forward.new.pipeline c.go_forward.new.ring c.go_forward.new.reuse.waiting taken on.right.agrees on.right.safe.keeps c.a_batch_goes_home.ensures.taken c.counts_tell_the_batch.ensures.batch c.the_home_test_is_exact.ensures.needs (λ n u is. c.records_stand_in_order.ensures.numbers old.base old.log on.now n u on.right.safe.keeps is) in
    goes_both g.D.Disk.tells old (g.D.Disk.state c.begin_batch.new.disk) (g.D.Disk.state c.write_next_header.new.disk) c.args.pipeline.now c.go_forward.new.pipeline c.begin_batch.new.pipeline c.write_next_header.new.pipeline c.args.ring.now c.go_forward.new.ring c.args.reuse.now c.go_forward.new.reuse
    c.calls_change_what_is_dead.ensures.released c.calls_add_at_most_one_write.ensures.write c.lawful.ensures c.requires.sound.order c.begin_batch.ensures.fit.order c.go_forward.ensures.forward forward (λ s l t floor taken right. c.go_forward.ensures.bytes s old l t floor taken right) c.go_forward.ensures.front c.go_forward.ensures.owed
    c.in_ok-begin_batch.ensures.begins c.in_ok-begin_batch.ensures.log c.begin_batch.ensures.asks.spends.same.base c.begin_batch.ensures.owed lives
    (Ok c.in_ok-write_next_header.field-0) c.in_ok-write_next_header.ensures.adds c.in_ok-write_next_header.ensures.log c.write_next_header.ensures.owed c.write_next_header.ensures.asks.spends.same.base
    (λ tells s l t floor taken right.
    let ring = c.go_forward.new.ring in
    let dead = c.go_forward.new.reuse in
    let w = c.go_forward.new.pipeline in
    let x = c.begin_batch.new.pipeline in
    let y = c.write_next_header.new.pipeline in
    let a = c.go_forward.ensures.right s (g.D.Disk.state c.args.disk.now).base (g.D.Disk.state c.args.disk.now).log l t floor taken right in
    let b = c.in_ok-begin_batch.ensures.agrees tells s a.now t floor ring dead.waiting taken a.right.safe a.right.agrees in
    let h = c.in_ok-write_next_header.ensures.agrees tells s a.now t floor dead.waiting taken b.0 b.1 in
    let begun : MayServe a.now x dead = serves_batch (g.D.Disk.state c.args.disk.now).base (g.D.Disk.state c.args.disk.now).log a.now w x ring dead taken a.right.agrees a.right.safe.keeps c.lawful-2.ensures c.go_forward.ensures.sound.goes_with.dead_geom a.right.serves
    c.a_batch_goes_home.ensures.taken c.counts_tell_the_batch.ensures.batch c.the_home_test_is_exact.ensures.needs c.a_freed_block_waits.ensures.waits (is_batch_due w) refl c.in_ok-begin_batch.ensures.begins in
    let made : MayServe (header_made x ring a.now) y dead = serves_header (g.D.Disk.state c.begin_batch.new.disk).base (g.D.Disk.state c.begin_batch.new.disk).log (g.D.Disk.state c.write_next_header.new.disk).log a.now x y ring dead.waiting taken dead (is_header_due x) refl b.1 c.in_ok-write_next_header.ensures.adds (c.in_ok-write_next_header.ensures.log tells) begun in
    right_header s (g.D.Disk.state c.write_next_header.new.disk) l a.now t floor x y ring dead taken a.turned h.0 h.1 made)
    (sound_header _ _ (is_header_due c.begin_batch.new.pipeline) c.in_ok-write_next_header.field-0 c.begin_batch.new.pipeline c.write_next_header.new.pipeline c.go_forward.new.ring c.go_forward.new.reuse c.in_ok-write_next_header.ensures.adds c.in_ok-write_next_header.ensures.fit.order c.in_ok-write_next_header.ensures.fit.room
    (sound_batch (is_batch_due c.go_forward.new.pipeline) c.begin_batch.result c.go_forward.new.pipeline c.begin_batch.new.pipeline c.go_forward.new.ring c.go_forward.new.reuse c.begin_batch.ensures.begins c.begin_batch.ensures.fit.order c.begin_batch.ensures.fit.room c.go_forward.ensures.sound))

pub returns-clause-due : goal.returns-clause-due
returns-clause-due g c = λ tells s l t floor taken right.
    let old = g.D.Disk.state c.args.disk.now in
    let middle = g.D.Disk.state c.begin_batch.new.disk in
    let new = g.D.Disk.state c.write_next_header.new.disk in
    let f = c.go_forward.ensures.forward in
    let on = c.go_forward.ensures.right s old.base old.log l t floor taken right in
    let begun = c.in_ok-begin_batch.ensures.agrees tells s on.now t floor c.go_forward.new.ring c.go_forward.new.reuse.waiting taken on.right.safe on.right.agrees in
    nothing_due _ _ _ _ c.in_ok-begin_batch.field-0 c.in_ok-write_next_header.field-0 c.args.pipeline.now f.0 f.1 f.2 c.go_forward.new.pipeline c.begin_batch.new.pipeline c.write_next_header.new.pipeline c.args.ring.now c.go_forward.new.ring c.args.reuse.now c.go_forward.new.reuse old.log middle.log new.log
    c.requires.sound.order right.agrees.apart f.3 c.in_ok-begin_batch.ensures.begins c.in_ok-write_next_header.ensures.adds (c.in_ok-write_next_header.ensures.log tells) begun.1.notes

pub returns-clause-stage : goal.returns-clause-stage
returns-clause-stage g c =
    let f = c.go_forward.ensures.forward in
    stage_on _ _ c.args.pipeline.now f.0 f.1 f.2 c.go_forward.new.pipeline c.begin_batch.new.pipeline c.write_next_header.new.pipeline c.args.ring.now c.go_forward.new.ring c.args.reuse.now c.go_forward.new.reuse c.requires.sound.order f.3 c.in_ok-begin_batch.ensures.begins c.in_ok-write_next_header.ensures.adds

pub returns-in_err-begin_batch-clause-writes : goal.returns-in_err-begin_batch-clause-writes
returns-in_err-begin_batch-clause-writes g c = λ tells. grows_batch (is_batch_due c.go_forward.new.pipeline) c.begin_batch.result c.go_forward.new.pipeline c.begin_batch.new.pipeline (g.D.Disk.state c.args.disk.now).log (g.D.Disk.state c.begin_batch.new.disk).log (c.begin_batch.ensures.log tells)

pub returns-in_err-write_next_header-clause-writes : goal.returns-in_err-write_next_header-clause-writes
returns-in_err-write_next_header-clause-writes g c = λ tells.
    let w = c.go_forward.new.pipeline in
    let x = c.begin_batch.new.pipeline in
    let old = (g.D.Disk.state c.args.disk.now).log in
    let middle = (g.D.Disk.state c.begin_batch.new.disk).log in
    let new = (g.D.Disk.state c.write_next_header.new.disk).log in
    grows_on old middle new (grows_batch (is_batch_due w) c.begin_batch.result w x old middle (c.begin_batch.ensures.log tells)) (grows_header (is_header_due x) c.write_next_header.result x c.write_next_header.new.pipeline c.go_forward.new.ring middle new (c.write_next_header.ensures.log tells))

pub returns-clause-writes : goal.returns-clause-writes
returns-clause-writes g c = λ tells.
    let w = c.go_forward.new.pipeline in
    let x = c.begin_batch.new.pipeline in
    let old = (g.D.Disk.state c.args.disk.now).log in
    let middle = (g.D.Disk.state c.begin_batch.new.disk).log in
    let new = (g.D.Disk.state c.write_next_header.new.disk).log in
    grows_on old middle new (grows_batch (is_batch_due w) c.begin_batch.result w x old middle (c.begin_batch.ensures.log tells)) (grows_header (is_header_due x) c.write_next_header.result x c.write_next_header.new.pipeline c.go_forward.new.ring middle new (c.write_next_header.ensures.log tells))

pub returns-clause-serves : goal.returns-clause-serves
returns-clause-serves g c = λ tells s l t floor taken right alone heard.
    let f = c.go_forward.ensures.forward in
    let w = c.go_forward.new.pipeline in
    let x = c.begin_batch.new.pipeline in
    let y = c.write_next_header.new.pipeline in
    let ring = c.go_forward.new.ring in
    let served : DeadBlocks = c.go_forward.new.reuse in
    let dead : DeadBlocks = c.args.reuse.now in
    let new = g.D.Disk.state c.write_next_header.new.disk in
    let on = (returns-clause-goes g c).right tells s l t floor taken right in
    let a = on.right.agrees in
    let due = returns-clause-due g c tells s l t floor taken right in
    let knows = (returns-clause-goes g c).heard tells s l t floor taken right alone heard in
    let moved = (returns-clause-goes g c).moves in
    let sound = (returns-clause-goes g c).sound in
    serves_by_log new.base new.log on.now y ring served taken on.right.safe.keeps a on.right.serves c.lawful-2.ensures (sound.goes_with.dead_geom ∙ a.geom)
    (λ k u is. c.records_stand_in_order.ensures.numbers new.base new.log on.now k u on.right.safe.keeps is) c.a_freed_block_waits.ensures.waits knows due.pending dead c.lawful.ensures w.header.sure (going_home w.home.items w.notes.notes)
    (f.3.serves ∙ sym (ap (λ (p : Pipeline). with_released dead p.header.sure (going_home p.home.items p.notes.notes)) f.3.rest))
    (sym (ap (λ (h : Header). h.sure) (header_stays (is_batch_due w) (is_header_due x) c.in_ok-begin_batch.field-0 c.in_ok-write_next_header.field-0 w x y ring refl c.go_forward.ensures.sound.order.none c.in_ok-begin_batch.ensures.begins c.in_ok-write_next_header.ensures.adds)) ∙ ap (λ (h : Header). h.sure) a.header)
    (goes_on (is_batch_due w) (is_header_due x) c.in_ok-begin_batch.field-0 c.in_ok-write_next_header.field-0 w x y ring refl c.go_forward.ensures.sound.order.none c.in_ok-begin_batch.ensures.begins c.in_ok-write_next_header.ensures.adds)
    c.a_freed_block_waits.ensures.exact c.args.pipeline.now.geom.n (sym (ap (λ (k : Geometry). k.n) a.geom) ∙ ap (λ (k : Geometry). k.n) moved.geom)
