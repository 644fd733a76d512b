use Rattle.lang_making.proofs.FewPaths.{step_few, start_few}
use Rattle.lang_making.proofs.laws.no_file_gets_too_many_paths.Goals as goal

pub returns-clause-start : goal.returns-clause-start
returns-clause-start c = start_few (record {
  found = c.paths_are_counted.ensures.found;
  taken = c.paths_are_counted.ensures.taken_out;
  put = c.paths_are_counted.ensures.put_in;
  moved = c.paths_are_counted.ensures.moved;
  free = c.what_goes_holds_nothing.ensures.moved;
})

pub returns-clause-step : goal.returns-clause-step
returns-clause-step c = λ s cmd ok few. step_few (record {
  found = c.paths_are_counted.ensures.found;
  taken = c.paths_are_counted.ensures.taken_out;
  put = c.paths_are_counted.ensures.put_in;
  moved = c.paths_are_counted.ensures.moved;
  free = c.what_goes_holds_nothing.ensures.moved;
}) s ok few cmd
