use Rattle.std.proofs.Common.{◌≡◌, bytes_eq, subst, false, ◌==◌, length}
use Rattle.cmd_replay.specs.Comparing.{ComparingState, came}
use Rattle.cmd_replay.proofs.Comparisons.{not_where_some, whole_where_none}
use Rattle.cmd_replay.proofs.comparing.Comparing.is_whole.Goals as goal

pub returns-in-None : goal.returns-in-None
returns-in-None c =
    let inside : ComparingState = record { text = c.self.inside.text.now; done = c.self.inside.done; other = c.self.inside.other; faults = c.self.inside.faults } in
    subst (λ (s : ComparingState). (inside.done == length inside.text) ≡ bytes_eq (came s) s.text) c.self.view_is (whole_where_none inside c.in-None.is c.self.invariant.within)

pub returns-in-Some : goal.returns-in-Some
returns-in-Some c =
    let inside : ComparingState = record { text = c.self.inside.text.now; done = c.self.inside.done; other = c.self.inside.other; faults = c.self.inside.faults } in
    subst (λ (s : ComparingState). false ≡ bytes_eq (came s) s.text) c.self.view_is (not_where_some inside c.in-Some.field-0 c.in-Some.is c.self.invariant)
