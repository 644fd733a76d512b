-- An entry that says what is at its path is added, where its node was met or not.
use Rattle.std.proofs.Common.{◌∷◌, ◌++◌, [], Bool, ap, refl, ◌∙◌}
use Rattle.cmd_upgrade.specs.declared.plan.Entry.{Entry}
use Rattle.cmd_upgrade.proofs.Planned.{adds_entry}
use Rattle.cmd_upgrade.proofs.plan.Plan.add.Goals as goal

pub returns-clause-adds : goal.returns-clause-adds
returns-clause-adds c = λ l limit t ok.
    adds_entry l limit t ok c.args.stat c.args.self.now c.meet.new.self _ (record { path = c.args.path; number = c.args.stat.number; is_dir = c.is_dir.result; size = c.args.stat.size })
    refl c.is_dir.ensures refl c.in_ok-meet.ensures.meets c.in_ok-push.ensures.items refl refl

pub returns-clause-entry : goal.returns-clause-entry
returns-clause-entry c =
    let e : Bool → Entry = λ dir. record { path = c.args.path; number = c.args.stat.number; is_dir = dir; size = c.args.stat.size } in
    c.in_ok-push.ensures.items ∙ ap (λ v. v.items ++ e c.is_dir.result ∷ []) c.in_ok-meet.ensures.meets.entries ∙ ap (λ dir. c.args.self.now.entries.items ++ e dir ∷ []) c.is_dir.ensures
