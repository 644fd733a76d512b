-- Which commands of the file system lie behind a call of a log, one after the other.
use Rattle.std.specs.Prelude.{◌≡◌, ◌⊎◌, ℕ, Bool, List, [], ◌∷◌, ◌++◌}
use Rattle.lang_tree.specs.declared.command.Cmd.{Cmd}
use Rattle.lang_tree.specs.declared.command.Cmd.TheVariants.{List as ListNames, Read, Stat as StatCmd}
use Rattle.lang_tree.specs.declared.command.Reply.{Reply}
use Rattle.engine_blocks.specs.State.{State}
use Rattle.fs_session.specs.Applying.{Applies}

-- The command asks what is at a path, which names a directory holds, or for bytes of a file.
abbrev pub IsQuestion : Cmd → Type 0
IsQuestion cmd =
    ((path : List (List ℕ)) × (cmd ≡ StatCmd path))
    ⊎ (((path : List (List ℕ)) × (cmd ≡ ListNames path))
    ⊎ ((path : List (List ℕ)) × (offset : ℕ) × (count : ℕ) × (cmd ≡ Read path offset count)))

module _ {S : Type 0} (tells : Bool) (state : S → State) where
  -- The commands in order, each one of those and each with its reply, lead from the old blocks to the new ones.
  abbrev pub AnswersAll : (Cmd → Type 0) → List (Cmd × Reply) → S → S → Type 0
  AnswersAll cmds [] old new = new ≡ old
  AnswersAll cmds (asked ∷ later) old new = (mid : S) × cmds asked.0 × Applies tells state asked.0 asked.1 old mid × AnswersAll cmds later mid new

  -- All that was asked of the file system on the way from the old blocks to the new ones: some of these commands, and questions.
  pub record Way (cmds : Cmd → Type 0) (old new : S) : Type 0 where
    pub asked : List (Cmd × Reply)
    pub answered : AnswersAll (λ cmd. cmds cmd ⊎ IsQuestion cmd) asked old new

  -- The last of it was a command that was answered so.
  pub record WayTo (cmds : Cmd → Type 0) (reply : Reply) (old new : S) : Type 0 where
    pub way : Way cmds old new
    pub before : List (Cmd × Reply)
    pub last : Cmd
    pub is : way.asked ≡ before ++ (last, reply) ∷ []
