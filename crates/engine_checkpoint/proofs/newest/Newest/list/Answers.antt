-- Each turn lists one key more.
use Rattle.std.proofs.Common.{◌≡◌, ◌<◌, ◌++◌, ◌∷◌, [], length, vec_capacity, rules, arith, ap, ◌∙◌, length-append}
use Rattle.std.specs.HashMap.{keys}
use Rattle.engine_checkpoint.proofs.Spots.{room_left, one_further}
use Rattle.engine_checkpoint.proofs.newest.Newest.list.Goals as goal

has_room : (c : goal.After-push) → length c.loop-block.into.items < vec_capacity c.loop-block.into
has_room c = room_left c.loop-block.into.items c.loop-block.block-iterator c.next.new.self c.in-Some.block.now (vec_capacity c.loop-block.into) (c.args.into.now.items ++ keys c.args.self.now.spots) c.loop-block.invariant.items c.in-Some.ensures.steps
    (omega (arith, c.requires.room, length-append c.args.into.now.items (keys c.args.self.now.spots), ap length c.keys-block-items.ensures.rest, c.keys-block-items.ensures.len, c.loop-block.invariant.capacity))

pub unwrap-requires : goal.unwrap-requires
unwrap-requires c = c.push.ensures.succeeds (omega (arith, has_room c, c.loop-block.into.ok))

pub loop-block-preserved : goal.loop-block-preserved
loop-block-preserved c =
    let pushed : c.push.new.self.items ≡ c.loop-block.into.items ++ c.in-Some.block.now ∷ [] = search rules in
    record {
      next = search rules;
      finite = search rules;
      items = ap (λ xs. xs ++ c.next.new.self) pushed ∙ one_further c.loop-block.into.items c.loop-block.block-iterator c.next.new.self c.in-Some.block.now (c.args.into.now.items ++ keys c.args.self.now.spots) c.loop-block.invariant.items c.in-Some.ensures.steps;
      capacity = omega (arith, c.push.ensures.capacity, c.loop-block.invariant.capacity);
    }
