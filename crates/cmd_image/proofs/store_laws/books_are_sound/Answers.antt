use Rattle.cmd_image.proofs.store_laws.books_are_sound.Goals as goal

pub returns : goal.returns
returns g c = λ s. g.met.S.Blocks.is_sound s
