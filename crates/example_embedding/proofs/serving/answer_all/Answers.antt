use Rattle.std.proofs.Common.{refl, sym, ◌∙◌, arith}
use Rattle.engine_store.specs.StoreOf.{state_of}
use Rattle.fs_commands.specs.Opened.{blocks_in}
use Rattle.example_embedding.proofs.Answering.{none_yet, one_more, all_of_them}
use Rattle.example_embedding.proofs.serving.answer_all.Goals as goal

pub loop-place-init : goal.loop-place-init
loop-place-init g c = record {
  served = λ told k t mounted served. none_yet k t mounted c.args.cmds.now _ _ (state_of g.D.Disk.state (blocks_in c.args.files.now)) c.requires.empty served;
  base = λ told. refl;
  replies = omega arith;
  replies_room = refl;
  marks = omega arith;
  marks_room = refl;
  upto = omega arith;
}

pub loop-place-preserved : goal.loop-place-preserved
loop-place-preserved g c =
    let i = c.loop-place.invariant in
    record {
      served = λ told k t mounted served.
          one_more k t mounted c.args.cmds.now c.loop-place.place c.index-cmds-place.result _ _ c.answer-reply.result _ _ c.loop-place-test.true (sym c.index-cmds-place.is) c.push_reserved.ensures.items
          (c.answer-reply.ensures.serves told k t mounted _ _ (i.served told k t mounted served));
      base = λ told. c.answer-reply.ensures.base told ∙ i.base told;
      replies = omega (arith, c.push_reserved.ensures.len, i.replies);
      replies_room = c.push_reserved.ensures.capacity ∙ i.replies_room;
      marks = omega (arith, c.answer-reply.ensures.len, i.marks);
      marks_room = c.answer-reply.ensures.capacity ∙ i.marks_room;
      upto = omega (arith, c.loop-place-test.true);
    }

pub returns-clause-serves : goal.returns-clause-serves
returns-clause-serves g c = λ told k t mounted served. all_of_them k t mounted c.args.cmds.now c.loop-place.place _ _ (state_of g.D.Disk.state (blocks_in c.loop-place.files)) (omega (arith, c.loop-place-test.false)) (c.loop-place.invariant.served told k t mounted served)

pub returns-clause-room : goal.returns-clause-room
returns-clause-room g c = omega (arith, c.requires.marks, c.loop-place.invariant.marks, c.loop-place.invariant.marks_room, c.loop-place.invariant.upto)
