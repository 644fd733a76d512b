-- The tickets are waited for, and then records become durable.
use Rattle.std.proofs.Common.{◌∙◌, inl, refl, sym, ap, subst, arith}
use Rattle.engine_checkpoint.specs.Kept.{kept}
use Rattle.engine_checkpoint.specs.Order.{IsFit}
use Rattle.engine_checkpoint.specs.declared.pipeline.Pipeline.{Pipeline}
use Rattle.engine_checkpoint.specs.Waits.{LosesCommitted, StaysHeard}
use Rattle.engine_checkpoint.proofs.Forgotten.{committed_heard, committed_on, committed_settled}
use Rattle.engine_checkpoint.proofs.HeardRecords.{heard_left, heard_waited}
use Rattle.engine_checkpoint.proofs.ForwardSound.{owed_settled}
use Rattle.engine_checkpoint.proofs.Heard.{order_heard, room_heard, sound_heard, serves_heard, owed_heard}
use Rattle.engine_checkpoint.proofs.MovesRows.{moves_on, moves_heard, moves_settled}
use Rattle.engine_checkpoint.proofs.Settled.{turned_same}
use Rattle.engine_checkpoint.proofs.StepsRight.{leaves_failed}
use Rattle.engine_checkpoint.proofs.WaitedRecords.{sound_settled, durable_upto, right_settled}
use Rattle.engine_checkpoint.proofs.Spent.{none_ok, on_err}
use Rattle.engine_checkpoint.proofs.pipeline.Pipeline.wait_records.Goals as goal

pub returns-in_err-wait_upto-clause-hears : goal.returns-in_err-wait_upto-clause-hears
returns-in_err-wait_upto-clause-hears g c = record {
  right = λ tells s l t floor ring dead taken right.
      let waited = c.wait_upto.ensures.agrees tells s l t floor ring dead.waiting taken right.safe right.agrees in
      leaves_failed c.from_residual.result s (g.D.Disk.state c.wait_upto.new.disk) l t floor c.wait_upto.new.pipeline ring dead taken c.from_residual.ensures.0 (record { now = l; turned = turned_same l; safe = waited.0 });
  sound = λ ring dead sound. sound_heard c.args.self.now c.wait_upto.new.pipeline ring dead c.wait_upto.ensures.rest c.wait_upto.ensures.hears sound;
  moves = λ ring dead. moves_heard c.args.self.now c.wait_upto.new.pipeline ring dead c.wait_upto.ensures.rest;
  kept = ap kept c.wait_upto.ensures.rest;
  owed = owed_heard c.args.self.now c.wait_upto.new.pipeline c.wait_upto.ensures.rest;
  lost = none_ok (LosesCommitted c.args.self.now c.wait_upto.new.pipeline) c.from_residual.result c.from_residual.ensures.0;
  heard = λ tells s l t floor ring dead taken right. none_ok (StaysHeard (g.D.Disk.state c.args.disk.now) (g.D.Disk.state c.wait_upto.new.disk) c.args.self.now c.wait_upto.new.pipeline) c.from_residual.result c.from_residual.ensures.0;
  log = c.wait_upto.ensures.log;
}

pub settle_all-requires : goal.settle_all-requires
settle_all-requires g c = subst (λ (p : Pipeline). IsFit p) (sym c.wait_upto.ensures.rest) (record { order = order_heard c.args.self.now c.wait_upto.new.pipeline.notes c.requires.order; room = room_heard c.args.self.now c.wait_upto.new.pipeline.notes c.wait_upto.ensures.hears c.requires.room })

pub returns-clause-hears : goal.returns-clause-hears
returns-clause-hears g c = record {
  right = λ tells s l t floor ring dead taken right.
      let waited = c.wait_upto.ensures.agrees tells s l t floor ring dead.waiting taken right.safe right.agrees in
      let d = g.D.Disk.state c.wait_upto.new.disk in
      right_settled c.settle_all.ensures.settles.0 c.wait_upto.new.pipeline c.settle_all.new.pipeline c.settle_all.ensures.settles.1 s d.base d.log l t floor ring dead taken (c.settle_all.ensures.agrees s d.base d.log l t floor ring dead.waiting taken waited.0 waited.1)
      (serves_heard l c.args.self.now c.wait_upto.new.pipeline dead c.wait_upto.ensures.rest c.wait_upto.ensures.hears right.serves);
  sound = λ ring dead sound. sound_settled c.settle_all.ensures.settles.0 c.wait_upto.new.pipeline c.settle_all.new.pipeline c.settle_all.ensures.settles.1 ring dead c.settle_all.ensures.fit.order c.settle_all.ensures.fit.room
      (sound_heard c.args.self.now c.wait_upto.new.pipeline ring dead c.wait_upto.ensures.rest c.wait_upto.ensures.hears sound);
  moves = λ ring dead. moves_on 0 0 c.args.self.now c.wait_upto.new.pipeline c.settle_all.new.pipeline ring ring ring dead dead dead (moves_heard c.args.self.now c.wait_upto.new.pipeline ring dead c.wait_upto.ensures.rest)
      (moves_settled c.settle_all.ensures.settles.0 c.wait_upto.new.pipeline c.settle_all.new.pipeline ring dead c.settle_all.ensures.settles.1);
  kept = c.settle_all.ensures.settles.1.kept ∙ ap kept c.wait_upto.ensures.rest;
  owed = owed_settled c.settle_all.ensures.settles.0 c.wait_upto.new.pipeline c.settle_all.new.pipeline c.settle_all.ensures.settles.1 ∙ owed_heard c.args.self.now c.wait_upto.new.pipeline c.wait_upto.ensures.rest;
  lost = committed_on c.args.self.now c.wait_upto.new.pipeline c.settle_all.new.pipeline (committed_heard c.args.self.now c.wait_upto.new.pipeline c.wait_upto.ensures.rest) (committed_settled c.settle_all.ensures.settles.0 c.wait_upto.new.pipeline c.settle_all.new.pipeline c.settle_all.ensures.settles.1);
  heard = λ tells s l t floor ring dead taken right alone heard.
      let v = c.args.self.now in
      let w = c.wait_upto.new.pipeline in
      let x = c.settle_all.new.pipeline in
      let old = g.D.Disk.state c.args.disk.now in
      let new = g.D.Disk.state c.wait_upto.new.disk in
      let known = heard_waited c.in_ok-wait_upto.field-0 old.log new.log v w c.wait_upto.ensures.hears (c.in_ok-wait_upto.ensures.only tells alone) heard in
      heard_left new.log new.log w x x c.settle_all.ensures.settles.1.forgets (λ u. refl) (λ u expected. inl expected) (λ u came. came) known;
  log = c.wait_upto.ensures.log;
}

pub returns-clause-durable : goal.returns-clause-durable
returns-clause-durable g c = λ le. durable_upto c.settle_all.ensures.settles.0 c.wait_upto.new.pipeline c.settle_all.new.pipeline c.settle_all.ensures.settles.1 c.args.upto c.settle_all.ensures.fit.order c.in_ok-wait_upto.ensures.noticed c.settle_all.ensures.due
    (omega (arith, le, ap (λ (p : Pipeline). p.last) c.settle_all.ensures.settles.1.rest, ap (λ (p : Pipeline). p.last) c.wait_upto.ensures.rest))

pub returns-in_err-wait_upto-clause-cause : goal.returns-in_err-wait_upto-clause-cause
returns-in_err-wait_upto-clause-cause g c = λ tells given. on_err c.from_residual.result (c.in_err-wait_upto.ensures.cause tells given)

pub returns-in_err-wait_upto-clause-only : goal.returns-in_err-wait_upto-clause-only
returns-in_err-wait_upto-clause-only g c = λ tells alone. (c.wait_upto.ensures.only tells alone).only

pub returns-clause-only : goal.returns-clause-only
returns-clause-only g c = λ tells alone. (c.wait_upto.ensures.only tells alone).only
