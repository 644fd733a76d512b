use Rattle.std.proofs.Common.{arith, inr, OnOk, Result, subst, sym}
use Rattle.cmd_image.specs.Shows.{HasImage}
use Rattle.cmd_image.specs.declared.make_refusal.MakeRefusal.{MakeRefusal}
use Rattle.cmd_image.specs.Makes.{HasMakeCause, IsFormattedImage}
use Rattle.cmd_image.proofs.MakeBays.{BetweenCalls, cause, hands, made, reason}
use Rattle.cmd_image.proofs.make.make_image.Given.{Over}
use Rattle.cmd_image.proofs.make.make_image.Goals as goal
use Rattle.cmd_image.proofs.make.make_image.Goals.{After-close_made}

-- what the three calls made, as they follow each other
calls : (g : Over) (c : After-close_made g) → BetweenCalls g.B.D.Disk.state g.B.Bay.tells c.args.name.now c.args.geom.now (g.B.Bay.state c.args.bay.now) (g.B.Bay.state c.make_disk.new.bay) (g.B.Bay.state c.close_made.new.bay) c.in_ok-disk.disk c.mkfs-written.new.disk c.mkfs-written.result c.close_made.ensures.0
calls g c = record { makes = c.in_ok-disk.ensures.makes; spends = c.mkfs-written.ensures.spends; closes = c.close_made.ensures.1; failed = λ t. c.mkfs-written.ensures.cause (g.met.B.Bay.told t) }

pub returns-clause-made : goal.returns-clause-made
returns-clause-made g c = λ t.
    subst (λ (r : Result (Unit {0}) MakeRefusal). OnOk r (HasImage ((g.B.Bay.state c.close_made.new.bay).kept c.args.name.now) (IsFormattedImage c.args.geom.now))) (sym c.close_made.ensures.2)
    (made g.B.D.Disk.state g.B.Bay.tells c.args.name.now c.args.geom.now _ _ _ c.in_ok-disk.disk c.mkfs-written.new.disk c.mkfs-written.result c.close_made.ensures.0 (calls g c)
    (record { zeros = c.the_formatted_disk_is_empty.ensures.zeros; alike = c.the_formatted_disk_stands_for_the_root.ensures.alike; mountable = c.a_formatted_image_can_be_mounted.ensures; idle = c.a_read_gives_what_was_written_last.ensures.idle }) c.lawful.ensures.fits (omega (arith, c.lawful.ensures.limits.data_room)) t (c.mkfs-written.ensures.formatted (g.met.B.Bay.told t)))

pub returns-clause-back : goal.returns-clause-back
returns-clause-back g c =
    inr (hands g.B.D.Disk.state g.B.Bay.tells c.args.name.now c.args.geom.now _ _ _ c.in_ok-disk.disk c.mkfs-written.new.disk c.mkfs-written.result c.close_made.ensures.0 (calls g c) c.close_made.result c.close_made.ensures.2
    (λ t. c.mkfs-written.ensures.adds (g.met.B.Bay.told t)) (λ t. c.mkfs-written.ensures.below (g.met.B.Bay.told t)))

pub returns-clause-reason : goal.returns-clause-reason
returns-clause-reason g c =
    reason g.B.D.Disk.state g.B.Bay.tells c.args.name.now c.args.geom.now _ _ _ c.in_ok-disk.disk c.mkfs-written.new.disk c.mkfs-written.result c.close_made.ensures.0 (calls g c) c.close_made.result c.close_made.ensures.2
    (λ t. c.mkfs-written.ensures.adds (g.met.B.Bay.told t)) (λ t. c.mkfs-written.ensures.below (g.met.B.Bay.told t))

pub returns-clause-cause : goal.returns-clause-cause
returns-clause-cause g c =
    subst (λ (r : Result (Unit {0}) MakeRefusal). HasMakeCause r (g.B.Bay.state c.args.bay.now) (g.B.Bay.state c.close_made.new.bay)) (sym c.close_made.ensures.2)
    (cause g.B.D.Disk.state g.B.Bay.tells c.args.name.now c.args.geom.now _ _ _ c.in_ok-disk.disk c.mkfs-written.new.disk c.mkfs-written.result c.close_made.ensures.0 (calls g c))
