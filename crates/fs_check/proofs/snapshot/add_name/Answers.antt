use Rattle.std.proofs.Common.{refl, sym, ◌∙◌}
use Rattle.fs_check.proofs.keeping.Entries.{found}
use Rattle.fs_check.proofs.snapshot.add_name.Goals as goal

pub returns-in-Some-get-clause-damage : goal.returns-in-Some-get-clause-damage
returns-in-Some-get-clause-damage g c = λ tells whole.
    let named = rw c.in-Some.is at (c.in_ok-name.ensures.named tells (whole 0 0 c.requires.some)) in
    (refl, record { name = c.in-Some.name; lawful = rw c.in-Some.is at c.in_ok-name.ensures.lawful; named = named; there = sym (found c.in-Some.name c.args.numbers.now.entries) ∙ sym c.in-Some-get.ensures.value })

pub returns-clause-named : goal.returns-clause-named
returns-clause-named g c = λ tells whole.
    let named = rw c.in-Some.is at (c.in_ok-name.ensures.named tells (whole 0 0 c.requires.some)) in
    record {
      name = c.in-Some.name;
      lawful = rw c.in-Some.is at c.in_ok-name.ensures.lawful;
      named = named;
      fresh = sym (found c.in-Some.name c.args.numbers.now.entries) ∙ sym c.in_default-get.ensures.value;
      grows = c.in_ok-set_number.ensures.ok;
    }

pub returns-clause-one : goal.returns-clause-one
returns-clause-one g c = c.in_ok-set_number.ensures.one (sym (found c.in-Some.name c.args.numbers.now.entries) ∙ sym c.in_default-get.ensures.value)
