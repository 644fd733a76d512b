-- Which commands only look at a tree. Only private contracts speak of it.
use Rattle.std.specs.Prelude.{Bool, true, false}
use Rattle.lang_tree.specs.declared.command.Cmd.{Cmd}
use Rattle.lang_tree.specs.declared.command.Cmd.TheVariants.{Read, Stat, List as ListNames}

-- whether a command reads a file, asks what is at a path, or for the names in a directory
abbrev pub is_look : Cmd → Bool
is_look (Read path offset count) = true
is_look (Stat path) = true
is_look (ListNames path) = true
is_look _ = false
