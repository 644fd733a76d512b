-- Records become durable, the pending header turns, the batch is placed, and blocks serve again: each clause by the clauses of the four steps.
use Rattle.std.proofs.Common.{◌∙◌, sym}
use Rattle.engine_checkpoint.proofs.Added.{loses_forward}
use Rattle.engine_checkpoint.proofs.ForwardRight.{forward_right}
use Rattle.engine_checkpoint.proofs.ForwardSound.{places_settled, forward_sound, forward_goes, forward_owed}
use Rattle.engine_checkpoint.proofs.LiveBytes.{leaves_forward}
use Rattle.engine_checkpoint.proofs.advance.go_forward.Goals as goal

pub turn_header-requires-clause-taken : goal.turn_header-requires-clause-taken
turn_header-requires-clause-taken c = c.requires.sound.goes_with.taken ∙ sym (places_settled c.settle_all.ensures.settles.0 c.args.pipeline.now c.settle_all.new.pipeline c.settle_all.ensures.settles.1)

pub returns-clause-right : goal.returns-clause-right
returns-clause-right c = λ s base log l t floor taken right.
    let dead = c.args.reuse.now in
    forward_right s base log l t floor taken c.args.pipeline.now c.settle_all.new.pipeline c.turn_header.new.pipeline c.end_batch.new.pipeline c.serve_blocks.new.pipeline c.args.ring.now c.turn_header.new.ring dead c.serve_blocks.new.reuse
    c.settle_all.ensures.settles.0 c.turn_header.result c.end_batch.result c.settle_all.ensures.settles.1 c.turn_header.ensures.turns c.end_batch.ensures.ends c.serve_blocks.ensures.serves c.serve_blocks.ensures.rest
    (λ safe agrees. c.settle_all.ensures.agrees s base log l t floor c.args.ring.now dead.waiting taken safe agrees)
    (λ k safe agrees. c.turn_header.ensures.agrees s base log k t floor dead.waiting taken safe agrees)
    (λ k safe agrees. c.end_batch.ensures.agrees s base log k t floor c.turn_header.new.ring dead.waiting taken safe agrees)
    c.a_freed_block_waits.ensures.stays c.fewer_may_wait.ensures right

pub returns-clause-sound : goal.returns-clause-sound
returns-clause-sound c =
    forward_sound c.args.pipeline.now c.settle_all.new.pipeline c.turn_header.new.pipeline c.end_batch.new.pipeline c.serve_blocks.new.pipeline c.args.ring.now c.turn_header.new.ring c.args.reuse.now c.serve_blocks.new.reuse
    c.settle_all.ensures.settles.0 c.turn_header.result c.end_batch.result c.settle_all.ensures.settles.1 c.turn_header.ensures.turns c.end_batch.ensures.ends c.serve_blocks.ensures.serves c.serve_blocks.ensures.rest
    c.requires.sound c.turn_header.ensures.taken c.turn_header.ensures.fit.order c.end_batch.ensures.index c.serve_blocks.ensures.fit.order c.serve_blocks.ensures.fit.room

pub returns-clause-forward : goal.returns-clause-forward
returns-clause-forward c = (
  c.settle_all.new.pipeline,
  c.turn_header.new.pipeline,
  c.end_batch.new.pipeline,
  forward_goes c.args.pipeline.now c.settle_all.new.pipeline c.turn_header.new.pipeline c.end_batch.new.pipeline c.serve_blocks.new.pipeline c.args.ring.now c.turn_header.new.ring c.args.reuse.now c.serve_blocks.new.reuse
      c.settle_all.ensures.settles.0 c.turn_header.result c.end_batch.result c.settle_all.ensures.settles.1 c.turn_header.ensures.turns c.end_batch.ensures.ends c.serve_blocks.ensures.serves c.serve_blocks.ensures.rest
      c.settle_all.ensures.due c.turn_header.ensures.exact c.end_batch.ensures.exact,
)

pub returns-clause-owed : goal.returns-clause-owed
returns-clause-owed c =
    forward_owed c.args.pipeline.now c.settle_all.new.pipeline c.turn_header.new.pipeline c.end_batch.new.pipeline c.serve_blocks.new.pipeline c.args.ring.now c.turn_header.new.ring c.args.reuse.now c.serve_blocks.new.reuse
    c.settle_all.ensures.settles.0 c.turn_header.result c.end_batch.result c.settle_all.ensures.settles.1 c.turn_header.ensures.turns c.end_batch.ensures.ends c.serve_blocks.ensures.serves c.serve_blocks.ensures.rest
    c.turn_header.ensures.owed c.end_batch.ensures.owed

pub returns-clause-front : goal.returns-clause-front
returns-clause-front c = loses_forward c.args.pipeline.now c.settle_all.new.pipeline c.turn_header.new.pipeline c.end_batch.new.pipeline c.serve_blocks.new.pipeline c.turn_header.result c.end_batch.result c.args.ring.now c.turn_header.new.ring
    c.settle_all.ensures.settles.1.kept c.turn_header.ensures.turns c.turn_header.ensures.fit.order.batch c.end_batch.ensures.ends c.serve_blocks.ensures.rest

pub returns-clause-bytes : goal.returns-clause-bytes
returns-clause-bytes c = λ s d l t floor taken right.
    let on = returns-clause-right c s d.base d.log l t floor taken right in
    let v = c.args.pipeline.now in
    let w = c.serve_blocks.new.pipeline in
    leaves_forward d l on.now on.turned v w (returns-clause-front c)
    (λ b x lives is. c.the_newest_payloads_are_the_map.ensures.payload d.base d.log l v c.args.ring.now c.args.reuse.now.waiting taken b x right.safe.keeps right.agrees lives is)
    (λ b x lives is. c.the_newest_payloads_are_the_map.ensures.payload d.base d.log on.now w c.turn_header.new.ring c.serve_blocks.new.reuse.waiting taken b x on.right.safe.keeps on.right.agrees lives is)
    (λ b lives is. c.the_newest_payloads_are_the_map.ensures.written d.base d.log on.now w c.turn_header.new.ring c.serve_blocks.new.reuse.waiting taken b on.right.safe.keeps on.right.agrees lives is)
    (λ b lives. c.the_newest_payloads_are_the_map.ensures.calm d.base d.log l v c.args.ring.now c.args.reuse.now.waiting taken b right.safe.keeps right.agrees lives)
    (λ b calm. c.a_read_gives_what_was_written_last.ensures.last d.base d.log b calm)
