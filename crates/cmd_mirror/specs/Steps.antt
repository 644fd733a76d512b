-- What is known of two disks and of their mirror on the way of a run. Only private contracts speak of it.
use Rattle.std.specs.Prelude.{◌≡◌, Bool, IsTrue, Result, Err}
use Rattle.disk_contract.specs.Disk.{State}
use Rattle.disk_mirror.specs.declared.mirror.MirrorRefusal.{MirrorRefusal}
use Rattle.disk_mirror.specs.declared.mirror.MirrorRefusal.TheVariants as mirror
use Rattle.disk_mirror.specs.Mirror.{mirror_manner}
use Rattle.cmd_image.specs.declared.ending.Ending.{Ending}
use Rattle.cmd_image.specs.declared.ending.RunRefusal.TheVariants.{NoMemory}
use Rattle.cmd_image.specs.Mounted.{IsFresh}
use Rattle.cmd_mirror.specs.Comparing.{AreAlike, AreOnlyRead}
use Rattle.cmd_mirror.specs.Mirrored.{MakesNone, most_writes}
use Rattle.cmd_mirror.specs.declared.refusal.MirroredRefusal.{MirroredRefusal}
use Rattle.cmd_mirror.specs.declared.refusal.MirroredRefusal.TheVariants.{Unlike, Run}

-- the refusal where two disks make no mirror
abbrev pub of_mirror : MirrorRefusal → MirroredRefusal
of_mirror mirror.Unlike = Unlike
of_mirror mirror.NoMemory = Run NoMemory

-- a mirror that has room for so many writes as a run asks for
abbrev pub HasRoom : State → Type 0
HasRoom mirror = mirror.manner ≡ mirror_manner most_writes

-- The mirror of two disks that are alike, on which nothing has happened yet: it began as the first of them.
pub record BeginsAsFirst (tells : Bool) (first second mirror : State) : Type 0 where
  pub alike : AreAlike tells first second
  pub blocks : mirror.blocks ≡ first.blocks
  pub base : IsTrue tells → mirror.base ≡ first.base
  pub fresh : IsFresh tells mirror
  pub room : HasRoom mirror

-- Two disks made no mirror: they were only read, and come back with why.
pub record ComparesToNone (tells : Bool) (first first_last second second_last : State) (answer : Result Ending MirroredRefusal) : Type 0 where
  pub first_unread : Bool
  pub second_unread : Bool
  pub why : MirroredRefusal
  pub reads : AreOnlyRead tells first_unread second_unread first first_last second second_last
  pub none : MakesNone tells why first_unread second_unread first second
  pub answered : answer ≡ Err why
