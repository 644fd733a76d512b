use Rattle.layout_extent.specs.TidyLaws.{runs_of_places}
use Rattle.layout_extent.proofs.laws.tidy_runs_are_those_of_their_numbers.Goals as goal

pub returns : goal.returns
returns c = runs_of_places
