-- Why a fill of a file that was found is refused, or isn't; and what becomes of one that puts no bytes.
use Rattle.std.proofs.Common.{◌≡◌, ℕ, ◌+◌, ◌&&◌, nat_lt, Bool, List, replicate, length, None, sym, ap, ◌∙◌}
use Rattle.std.specs.FinMap.{get}
use Rattle.layout_geometry.specs.Geometry.{bitmap_blocks}
use Rattle.engine_blocks.specs.State.{State}
use Rattle.fs_session.specs.Commands.{alone_on, figures_on, shared_on}
use Rattle.lang_tree.specs.declared.command.Cmd.TheVariants.{Fill}
use Rattle.lang_tree.specs.declared.command.Reply.TheVariants.{Ok as Done}
use Rattle.lang_tree.specs.Conditions.{refusal, is_too_large}
use Rattle.lang_tree.specs.Figures.{nothing}
use Rattle.lang_tree.specs.Sharing.{figures_over_by, shared_at, write_over_figures}
use Rattle.lang_tree.specs.Step.{Session, step, answered, write}
use Rattle.lang_tree.specs.Walk.{content}

-- so many bytes, counted in a wider number, end past the most
pub ends_past : (offset wide count : ℕ) (tested b : Bool) → wide ≡ count → tested ≡ (nat_lt 0 wide && is_too_large (offset + wide)) → tested ≡ b → (nat_lt 0 count && is_too_large (offset + count)) ≡ b
ends_past offset wide count tested b same is so = ap (λ n. nat_lt 0 n && is_too_large (offset + n)) (sym same) ∙ sym is ∙ so

-- no bytes change nothing, and take nothing
pub nothing_filled : (s : State) (f : Session) (path : List (List ℕ)) (offset count byte : ℕ) → refusal f.limit f.tree (Fill path offset count byte) ≡ None → count ≡ 0
    → (step f (Fill path offset count byte) ≡ (f, Done)) × (figures_on s f (Fill path offset count byte) ≡ nothing)
nothing_filled s f path offset count byte accepted none = (
  ap (λ r. answered f (Fill path offset count byte) r) accepted ∙ ap (λ n. write f path offset (replicate n byte)) none,
  ap (λ r. figures_over_by (bitmap_blocks s.books.geom) (shared_on s f) (alone_on s f) f.limit f.tree (Fill path offset count byte) r) accepted
      ∙ ap (λ n. write_over_figures (bitmap_blocks s.books.geom) (shared_at (shared_on s f) (get f.tree.names path)) (length (content f.tree path)) offset n) none,
)
