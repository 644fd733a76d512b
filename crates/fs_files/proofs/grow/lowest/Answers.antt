use Rattle.std.proofs.Common.{false, Err, subst}
use Rattle.engine_blocks.specs.declared.refusals.LowestRefusal.{LowestRefusal}
use Rattle.engine_blocks.specs.Calls.{lowest_fails}
use Rattle.fs_files.specs.Effects.{LooksAndSettles}
use Rattle.fs_files.proofs.effects.Settles.{settles_lowest}
use Rattle.fs_files.proofs.grow.lowest.Goals as goal

pub returns-in-Ok-clause-settles : goal.returns-in-Ok-clause-settles
returns-in-Ok-clause-settles g c = settles_lowest g.S.Blocks.tells false c.args.n (g.S.Blocks.state c.args.blocks.now) (g.S.Blocks.state c.lowest.new.self) c.in-Ok.ensures.moves c.lowest.ensures.ticks c.lowest.ensures.looks c.in-Ok.ensures.serves

pub returns-in-Err-Short-clause-settles : goal.returns-in-Err-Short-clause-settles
returns-in-Err-Short-clause-settles g c =
    let s = g.S.Blocks.state c.args.blocks.now in
    let t = g.S.Blocks.state c.lowest.new.self in
    subst (λ (why : LowestRefusal). LooksAndSettles g.S.Blocks.tells false (lowest_fails {T = Unit {0}} (Err why)) s t) c.in-Err-Short.field-0-is
    (settles_lowest g.S.Blocks.tells (lowest_fails {T = Unit {0}} (Err c.in-Err-Short.field-0)) c.args.n s t c.in-Err-Short.ensures.moves c.lowest.ensures.ticks c.lowest.ensures.looks c.in-Err-Short.ensures.serves)

pub returns-in-Err-DiskFault-clause-settles : goal.returns-in-Err-DiskFault-clause-settles
returns-in-Err-DiskFault-clause-settles g c =
    let s = g.S.Blocks.state c.args.blocks.now in
    let t = g.S.Blocks.state c.lowest.new.self in
    subst (λ (why : LowestRefusal). LooksAndSettles g.S.Blocks.tells false (lowest_fails {T = Unit {0}} (Err why)) s t) c.in-Err-DiskFault.field-0-is
    (settles_lowest g.S.Blocks.tells (lowest_fails {T = Unit {0}} (Err c.in-Err-DiskFault.field-0)) c.args.n s t c.in-Err-DiskFault.ensures.moves c.lowest.ensures.ticks c.lowest.ensures.looks c.in-Err-DiskFault.ensures.serves)

pub returns-in-Err-NoMemory-clause-settles : goal.returns-in-Err-NoMemory-clause-settles
returns-in-Err-NoMemory-clause-settles g c =
    let s = g.S.Blocks.state c.args.blocks.now in
    let t = g.S.Blocks.state c.lowest.new.self in
    subst (λ (why : LowestRefusal). LooksAndSettles g.S.Blocks.tells false (lowest_fails {T = Unit {0}} (Err why)) s t) c.in-Err-NoMemory.field-0-is
    (settles_lowest g.S.Blocks.tells (lowest_fails {T = Unit {0}} (Err c.in-Err-NoMemory.field-0)) c.args.n s t c.in-Err-NoMemory.ensures.moves c.lowest.ensures.ticks c.lowest.ensures.looks c.in-Err-NoMemory.ensures.serves)
