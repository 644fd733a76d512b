use Rattle.std.proofs.Common.{◌-◌, length, List, ℕ, ap, ap₂, ◌∙◌, arith}
use Rattle.base_types.specs.Seal.{blocks_of}
use Rattle.layout_geometry.specs.Geometry.{data_start}
use Rattle.engine_reuse.specs.Dead.{DeadBlocks}
use Rattle.engine_reuse.specs.Calls.{with_bitmap}
use Rattle.engine_books.proofs.Begun.{mounted_kept, empty_began, none_taken, few_free}
use Rattle.engine_books.proofs.books.Books.new.Goals as goal

pub overflow_sub-live-2 : goal.overflow_sub-live-2
overflow_sub-live-2 c = omega (arith, c.reusable.ensures, c.n.ensures, c.data_start.ensures, ap (λ (d : DeadBlocks). length d.reusable) c.in_ok-reuse.ensures, few_free c.args.geom.now (blocks_of c.as_slice.result.now))

pub returns-clause-kept : goal.returns-clause-kept
returns-clause-kept c = mounted_kept c.calls_change_what_is_dead.ensures.begins c.args.geom.now c.args.bitmap.items c.new-running.result c.in_ok-reuse.reuse _ c.lawful.ensures.limits c.requires.size c.requires.others
    (c.in_ok-reuse.ensures ∙ ap (λ (l : List (List ℕ)). with_bitmap c.args.geom.now (blocks_of l)) c.as_slice.ensures.value) c.lawful-2.ensures c.new-running.ensures
    (ap₂ (λ x y. x - y - c.reusable.result) c.n.ensures c.data_start.ensures ∙ ap (λ z. c.args.geom.now.n - data_start c.args.geom.now - z) c.reusable.ensures)

pub returns-clause-began : goal.returns-clause-began
returns-clause-began c = λ last has. empty_began _ last c.new-running.ensures (none_taken c.new-running.result c.new-running.ensures) has
