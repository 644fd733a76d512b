use Rattle.std.proofs.Common.{ℕ, Err, Ok, Result, ap, subst, sym, ◌∙◌}
use Rattle.disk_contract.specs.Bay.{Makes}
use Rattle.cmd_image.specs.declared.make_refusal.MakeRefusal.{MakeRefusal}
use Rattle.cmd_mirror.specs.Returns.{Copied}
use Rattle.cmd_mirror.proofs.CopyBays.{one, two}
use Rattle.cmd_mirror.proofs.copying.copy_under.Goals as goal

pub returns-in-Ok : goal.returns-in-Ok
returns-in-Ok g c =
    let opened = g.B.Bay.state c.open_original.new.bay in
    let made = g.B.Bay.state c.make_blank.new.bay in
    let opens = c.copy_opened.ensures in
    two g.B.D.Disk.state g.B.Bay.tells c.args.name.now c.args.other.now c.requires.apart (g.B.Bay.state c.args.bay.now) opened c.in_ok-original.original c.in_ok-original.ensures.opens made (g.B.Bay.state c.copy_opened.new.bay) c.in-Ok.copy
    (subst (λ (n : ℕ). Makes g.B.Bay.tells g.B.D.Disk.state c.args.other.now n (Ok c.in-Ok.copy) opened made) c.blocks-2.ensures c.in-Ok.ensures.makes) opens.first_last opens.second_last opens.copied opens.copies opens.may_fail c.copy_opened.result opens.closes
    c.a_read_gives_what_was_written_last.ensures.idle

pub returns-in-Err : goal.returns-in-Err
returns-in-Err g c =
    let opened = g.B.Bay.state c.open_original.new.bay in
    let made = g.B.Bay.state c.make_blank.new.bay in
    let refused = c.in-Err.ensures.refused in
    let closes = c.close_alone.ensures in
    subst (λ (r : Result (Unit {0}) MakeRefusal). Copied g.B.Bay.tells c.args.name.now c.args.other.now r (g.B.Bay.state c.args.bay.now) (g.B.Bay.state c.close_alone.new.bay)) (sym (closes.2 ∙ ap Err refused.1))
    (one g.B.D.Disk.state g.B.Bay.tells c.args.name.now c.args.other.now c.requires.apart (g.B.Bay.state c.args.bay.now) opened c.in_ok-original.original c.in_ok-original.ensures.opens made (g.B.Bay.state c.close_alone.new.bay) refused.0 closes.0
    (subst (λ (n : ℕ). Makes g.B.Bay.tells g.B.D.Disk.state c.args.other.now n (Err refused.0) opened made) c.blocks-2.ensures refused.2) closes.1)
