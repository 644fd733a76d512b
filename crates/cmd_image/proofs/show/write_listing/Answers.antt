use Rattle.cmd_image.proofs.show.write_listing.Goals as goal

pub returns-in-Ok-clause-all : goal.returns-in-Ok-clause-all
returns-in-Ok-clause-all g c = λ t. c.in-Ok.ensures.all t
