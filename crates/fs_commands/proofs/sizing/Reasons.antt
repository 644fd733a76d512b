-- Why a truncate of a file that was found is refused, or isn't; and what becomes of one to the size that the file has.
use Rattle.std.proofs.Common.{◌≡◌, ℕ, ◌==◌, Bool, false, List, [], ◌∷◌, length, None, Result, sym, ap, ap₂, ◌∙◌}
use Rattle.std.specs.FinMap.{get}
use Rattle.layout_geometry.specs.Geometry.{bitmap_blocks}
use Rattle.engine_blocks.specs.State.{State}
use Rattle.fs_session.specs.Commands.{alone_on, figures_on, shared_on}
use Rattle.std.proofs.lemmas.Bool.{cond-true, eq-eqb}
use Rattle.lang_tree.specs.declared.command.Cmd.TheVariants.{Truncate}
use Rattle.lang_tree.specs.declared.command.Refusal.{Refusal}
use Rattle.lang_tree.specs.declared.command.Refusal.TheVariants.{IsDir, TooLarge}
use Rattle.lang_tree.specs.declared.command.Reply.TheVariants.{Ok as Done}
use Rattle.lang_tree.specs.Conditions.{refusal, when, first_reason, is_too_large}
use Rattle.lang_tree.specs.Figures.{nothing}
use Rattle.lang_tree.specs.Sharing.{figures_over_by, shared_at, truncate_over_figures}
use Rattle.lang_tree.specs.Step.{Session, step, answered, resized, changed_to, edited}
use Rattle.lang_tree.specs.Walk.{content, refusal_in}
use Rattle.crash_stands.specs.Inodes.{Inodes}
use Rattle.fs_inodes.specs.Lookups.{is_dir_inode, inode_at}
use Rattle.fs_commands.specs.declared.paths.NodeFound.{NodeFound}
use Rattle.fs_commands.specs.Found.{IsKnownFile}
use Rattle.fs_commands.proofs.Given.{RefusalLaw}
use Rattle.fs_commands.proofs.counting.Costs.{same_costs}

module _ (m : Inodes) (f : Session) (path : List (List ℕ)) (size : ℕ) (law : RefusalLaw) where
  module _ (found : NodeFound) (k : IsKnownFile m f path found) where
    pub refusal_is : (b : Bool) → is_too_large size ≡ b → refusal f.limit f.tree (Truncate path size) ≡ first_reason (None ∷ when false IsDir ∷ when b TooLarge ∷ [])
    refusal_is b large = law f.limit m f.tree (Truncate path size) k.map
        ∙ ap (λ (r : Result ℕ Refusal). first_reason (refusal_in r ∷ when (is_dir_inode (inode_at m path)) IsDir ∷ when (is_too_large size) TooLarge ∷ [])) k.walk
        ∙ ap₂ (λ (d l : Bool). first_reason (None ∷ when d IsDir ∷ when l TooLarge ∷ [])) k.file large

    -- to the size that it has
    pub nothing_resized : (s : State) → is_too_large size ≡ false → size ≡ found.facts.size → (step f (Truncate path size) ≡ (f, Done)) × (figures_on s f (Truncate path size) ≡ nothing)
    nothing_resized s large same =
        let held : size ≡ length (content f.tree path) = same ∙ sym k.holds in
        let shares = shared_at (shared_on s f) (get f.tree.names path) in (
          ap (λ r. answered f (Truncate path size) r) (refusal_is false large)
              ∙ cond-true (size == length (content f.tree path)) (f, Done) (changed_to f (edited f.tree path (resized size))) (eq-eqb size (length (content f.tree path)) held),
          ap (λ r. figures_over_by (bitmap_blocks s.books.geom) (shared_on s f) (alone_on s f) f.limit f.tree (Truncate path size) r) (refusal_is false large)
              ∙ ap (λ n. truncate_over_figures (bitmap_blocks s.books.geom) shares n size) (sym held) ∙ same_costs (bitmap_blocks s.books.geom) shares size,
        )
