-- What a refusal says of the image that a crash leaves. What an image is to a mount is described in docs/SHOWING.md.
use Rattle.std.specs.Prelude.{ℕ, ⊤}
use Rattle.base_types.specs.Seal.{Blocks}
use Rattle.engine_mount.specs.Mount.{IsUsedUp}
use Rattle.cmd_session.specs.Images.{HasDamage, StandsForNone}
use Rattle.cmd_replay.specs.declared.refusal.ReplayRefusal.{ReplayRefusal}
use Rattle.cmd_replay.specs.declared.refusal.ReplayRefusal.TheVariants.{Choice, Damaged, Spent, NoMemory}

-- what a refusal says of the image of a disk of n blocks: a damage is there and no tree stands, or the numbers of its journal are at their end; want of memory says nothing of it, and no image comes of a choice that isn't one
abbrev pub RefusesImage : ℕ → Blocks → ReplayRefusal → Type 0
RefusesImage n at Choice = ⊥
RefusesImage n at (Damaged damage) = HasDamage n at damage × StandsForNone n at
RefusesImage n at Spent = IsUsedUp n at
RefusesImage n at NoMemory = ⊤
