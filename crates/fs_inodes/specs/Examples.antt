-- Short runs, worked out.
use Rattle.std.specs.Prelude.{List, [], ◌∷◌, codes}
use Rattle.lang_tree.specs.declared.command.Cmd.{Cmd}
use Rattle.lang_tree.specs.declared.command.Cmd.TheVariants.{Mkdir, Create, Write, Link, Unlink, Rename}
use Rattle.lang_tree.specs.Step.{Session, step}

-- the session after these commands
abbrev pub after : Session → List Cmd → Session
after s [] = s
after s (cmd ∷ cmds) = after (step s cmd).0 cmds

-- A directory with a file that gets another path; that path moves beside the first one, the first one goes, and the file gets a byte.
abbrev pub short_run : List Cmd
short_run =
    Mkdir (codes "a" ∷ []) ∷ Create (codes "a" ∷ codes "f" ∷ []) ∷ Link (codes "a" ∷ codes "f" ∷ []) (codes "g" ∷ []) ∷ Rename (codes "g" ∷ []) (codes "a" ∷ codes "h" ∷ [])
    ∷ Unlink (codes "a" ∷ codes "f" ∷ []) ∷ Write (codes "a" ∷ codes "h" ∷ []) 0 (120 ∷ []) ∷ []

-- A move of each kind: to a free name of its directory, onto a file there, to a free name of another directory, and onto a file there.
abbrev pub run_of_moves : List Cmd
run_of_moves =
    Create (codes "f" ∷ []) ∷ Create (codes "g" ∷ []) ∷ Mkdir (codes "a" ∷ []) ∷ Rename (codes "f" ∷ []) (codes "h" ∷ []) ∷ Rename (codes "g" ∷ []) (codes "h" ∷ [])
    ∷ Rename (codes "h" ∷ []) (codes "a" ∷ codes "f" ∷ []) ∷ Create (codes "h" ∷ []) ∷ Rename (codes "h" ∷ []) (codes "a" ∷ codes "f" ∷ []) ∷ []
