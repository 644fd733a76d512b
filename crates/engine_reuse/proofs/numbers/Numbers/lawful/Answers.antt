use Rattle.engine_reuse.proofs.Members.{set_is_its_members}
use Rattle.engine_reuse.proofs.numbers.Numbers.lawful.Goals as goal

pub returns : goal.returns
returns c = rw (← c.self.view_is) (set_is_its_members c.self.inside.words.items)
