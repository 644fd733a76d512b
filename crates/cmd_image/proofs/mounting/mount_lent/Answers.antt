use Rattle.std.proofs.Common.{[], refl}
use Rattle.engine_store.specs.Mounting.{BeginsWith}
use Rattle.engine_store.specs.StoreOf.{state_of}
use Rattle.cmd_image.proofs.Steps.{begins_at, mounted, unmounted_back}
use Rattle.cmd_image.proofs.mounting.mount_lent.Goals as goal

pub returns-in-Ok-clause-mounted : goal.returns-in-Ok-clause-mounted
returns-in-Ok-clause-mounted g c =
    mounted g.D.Disk.state g.D.Disk.tells (g.D.Disk.state c.args.disk) c.in-Ok.store c.requires.fresh c.disk.ensures.size c.in-Ok.ensures.begun c.in-Ok.ensures.leaves c.in-Ok.ensures.mountable c.in-Ok.ensures.begins

pub returns-in-Ok-clause-begins : goal.returns-in-Ok-clause-begins
returns-in-Ok-clause-begins g c = λ t. begins_at (g.D.Disk.state c.args.disk) (λ k m. BeginsWith k m (state_of g.D.Disk.state c.in-Ok.store)) (c.requires.fresh.nothing t) (c.in-Ok.ensures.begins t)

pub returns-in-Err-clause-refused : goal.returns-in-Err-clause-refused
returns-in-Err-clause-refused g c = λ taken.
    unmounted_back (record { newest = c.an_image_holds_one_map.ensures.newest; maps = c.an_image_holds_one_map.ensures.maps; alike = c.images_alike_below_n_stand_for_the_same.ensures }) g.D.Disk.tells (g.D.Disk.state c.args.disk) (g.D.Disk.state c.in-Err.disk) []
    taken c.in-Err.why c.of_store.result refl c.of_store.ensures c.requires.fresh c.a_damaged_image_stands_for_no_tree.ensures c.in-Err.ensures.refused c.in-Err.ensures.back
