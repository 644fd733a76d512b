use Rattle.cmd_image.proofs.Steps.{still_mounted}
use Rattle.cmd_image.proofs.image_laws.what_is_read_stays_mounted.Goals as goal

pub returns : goal.returns
returns g c = λ old new first failed is looks. still_mounted g.S.Blocks.tells failed first (g.S.Blocks.state old) (g.S.Blocks.state new) is looks
