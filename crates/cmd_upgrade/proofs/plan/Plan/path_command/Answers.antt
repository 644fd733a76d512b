-- A file is created at its first path, and linked from there at each other one.
use Rattle.std.proofs.Common.{◌≡◌, ◌∙◌, List, None, Some, ap, arith, length, refl, slice_get, sym}
use Rattle.std.proofs.lemmas.Option.{slice_get_past, slice_get_read}
use Rattle.lang_tree.specs.declared.command.Cmd.TheVariants.{Create, Link}
use Rattle.cmd_upgrade.specs.declared.plan.Entry.{Entry}
use Rattle.cmd_upgrade.proofs.Whole.{makes_file, makes_link, no_gap}
use Rattle.cmd_upgrade.proofs.plan.Plan.path_command.Goals as goal

pub returns-then-first-place-clause-command : goal.returns-then-first-place-clause-command
returns-then-first-place-clause-command c = λ l limit t path ok whole at.
    let e = c.index-entry.result.now in
    let there : slice_get c.args.self.now.entries.items c.args.place ≡ Some e = slice_get_read c.args.self.now.entries.items (length c.args.self.now.entries.items) c.args.place e refl c.requires c.index-entry.ensures in
    ap Create c.in_ok-path.ensures
    ∙ makes_file limit t ok l c.args.self.now whole c.args.place e there path at c.if-entry.false (omega (arith, c.if-first-place.true, c.first-first.ensures e there))

pub returns-in_default-clause-command : goal.returns-in_default-clause-command
returns-in_default-clause-command c = λ l limit t path ok whole at.
    let e = c.index-entry.result.now in
    let there : slice_get c.args.self.now.entries.items c.args.place ≡ Some e = slice_get_read c.args.self.now.entries.items (length c.args.self.now.entries.items) c.args.place e refl c.requires c.index-entry.ensures in
    let none : slice_get c.args.self.now.entries.items c.first-first.result ≡ None = ap (λ (es : List Entry). slice_get es c.first-first.result) (sym c.deref.ensures.value) ∙ slice_get_past c.deref.result.now c.first-first.result c.in_default.ensures.lookup.3 in
    absurd (no_gap limit t ok l c.args.self.now whole c.args.place e there path at (ap (slice_get c.args.self.now.entries.items) (sym (c.first-first.ensures e there)) ∙ none))

pub returns-clause-command : goal.returns-clause-command
returns-clause-command c = λ l limit t path ok whole at.
    let e = c.index-entry.result.now in
    let there : slice_get c.args.self.now.entries.items c.args.place ≡ Some e = slice_get_read c.args.self.now.entries.items (length c.args.self.now.entries.items) c.args.place e refl c.requires c.index-entry.ensures in
    let from : slice_get c.args.self.now.entries.items c.first-first.result ≡ Some c.in-Some.origin.now = ap (λ (es : List Entry). slice_get es c.first-first.result) (sym c.deref.ensures.value)
    ∙ slice_get_read c.deref.result.now (length c.deref.result.now) c.first-first.result c.in-Some.origin.now refl c.in-Some.ensures.lookup.3.0 c.in-Some.ensures.lookup.1 in
    ap (λ q. Link q c.in_ok-path.path) c.in_ok-from.ensures ∙ ap (Link c.in-Some.origin.now.path) c.in_ok-path.ensures
    ∙ makes_link limit t ok l c.args.self.now whole c.args.place e there path at c.each_path_is_made_once.ensures.once c.if-entry.false (λ same. omega (arith, same, c.if-first-place.false, c.first-first.ensures e there))
    c.in-Some.origin.now (ap (slice_get c.args.self.now.entries.items) (sym (c.first-first.ensures e there)) ∙ from)
