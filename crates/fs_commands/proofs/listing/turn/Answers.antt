use Rattle.std.proofs.Common.{sym, refl, ap, ◌∙◌, arith}
use Rattle.std.proofs.lemmas.Bool.{true≢false}
use Rattle.layout_geometry.specs.Geometry.{Geometry}
use Rattle.fs_commands.specs.Listing.{turns_in, HasWritten}
use Rattle.fs_commands.proofs.listed.Texts.{on_err}
use Rattle.fs_commands.proofs.listed.Walks.{turns_join}
use Rattle.fs_commands.proofs.listed.Turns.{nothing_front, leaves, never_outside, shows_front, shows_writes, coming}
use Rattle.fs_commands.proofs.listing.turn.Goals as goal

pub returns-in_default-clause-writes : goal.returns-in_default-clause-writes
returns-in_default-clause-writes g c = λ told.
    leaves (g.S.Blocks.state c.args.blocks.now) (g.N.Nodes.nodes (g.S.Blocks.state c.args.blocks.now) c.args.files.now) c.args.walk.now c.args.frame _ (g.K.Sink.taken c.args.out.now) c.in_default.ensures.none c.leave.ensures refl refl

pub returns-in_err-push-clause-front : goal.returns-in_err-push-clause-front
returns-in_err-push-clause-front g c = λ told. on_err _ _ (nothing_front (g.S.Blocks.state c.args.blocks.now) (g.N.Nodes.nodes (g.S.Blocks.state c.args.blocks.now) c.args.files.now) c.args.walk.now c.args.frame _)

pub returns-in_err-push-2-clause-front : goal.returns-in_err-push-2-clause-front
returns-in_err-push-2-clause-front g c = λ told. on_err _ _ (nothing_front (g.S.Blocks.state c.args.blocks.now) (g.N.Nodes.nodes (g.S.Blocks.state c.args.blocks.now) c.args.files.now) c.args.walk.now c.args.frame _)

pub returns-then-not-is_in_table-clause-writes : goal.returns-then-not-is_in_table-clause-writes
returns-then-not-is_in_table-clause-writes g c = λ told.
    let s = g.S.Blocks.state c.args.blocks.now in
    let w = c.args.walk.now in
    never_outside s (g.N.Nodes.nodes s c.args.files.now) w c.args.frame c.next_entry.new.frame c.in-Some.entry c.in-Some.ensures.some c.slots_name_nodes_in_use.ensures.used
    c.i.result (c.i.ensures ∙ ap (λ (x : Geometry). x.i) c.geom.ensures) (λ inside. true≢false (sym (c.is_in_table.ensures.1 inside) ∙ c.if-not-is_in_table.true))
    (λ m t. HasWritten m t (coming s (g.N.Nodes.nodes s c.args.files.now) w c.args.frame t) _ (g.K.Sink.taken c.args.out.now) (g.K.Sink.taken c.args.out.now))

pub returns-then-not-is_in_table-clause-turns : goal.returns-then-not-is_in_table-clause-turns
returns-then-not-is_in_table-clause-turns g c = omega (arith, ap turns_in c.in_ok-push.ensures.items, turns_join c.args.walk.now.frames.items c.next_entry.new.frame, c.in-Some.ensures.some.turns)

pub returns-clause-turns : goal.returns-clause-turns
returns-clause-turns g c = omega (arith, c.in_ok-show.ensures.turns, ap turns_in c.in_ok-push.ensures.items, turns_join c.args.walk.now.frames.items c.next_entry.new.frame, c.in-Some.ensures.some.turns)

pub returns-in_err-show-clause-front : goal.returns-in_err-show-clause-front
returns-in_err-show-clause-front g c = λ told.
    let s = g.S.Blocks.state c.args.blocks.now in
    on_err _ _ (shows_front s (g.N.Nodes.nodes s c.args.files.now) c.args.walk.now c.args.frame c.next_entry.new.frame c.in-Some.entry c.in-Some.ensures.some
    _ c.in_ok-push-2.ensures.items c.in_ok-push.ensures.items refl c.walks_are_the_same.ensures.last _ _ (c.in_err-show.ensures.front told))

pub returns-clause-writes : goal.returns-clause-writes
returns-clause-writes g c = λ told.
    let s = g.S.Blocks.state c.args.blocks.now in
    shows_writes s (g.N.Nodes.nodes s c.args.files.now) c.args.walk.now c.args.frame c.next_entry.new.frame c.in-Some.entry c.in-Some.ensures.some
    _ c.in_ok-push-2.ensures.items c.in_ok-push.ensures.items refl c.walks_are_the_same.ensures.last _ _ _ (c.in_ok-show.ensures.writes told)
