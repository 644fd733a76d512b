use Rattle.disk_memory.proofs.crash_images.TornChoices.{choice_of_torn}
use Rattle.disk_memory.proofs.laws.a_choice_makes_each_torn_image.Goals as goal

pub returns : goal.returns
returns c = choice_of_torn c.pending_writes_are_those_of_the_cells.ensures
