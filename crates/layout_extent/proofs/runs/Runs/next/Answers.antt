use Rattle.std.proofs.Common.{◌-◌, length, slice_get, sym, ap, ◌∙◌}
use Rattle.std.specs.Option.{option_copied}
use Rattle.layout_extent.specs.Next.{next_number}
use Rattle.layout_extent.proofs.Count.{end_of, next_of_runs}
use Rattle.layout_extent.proofs.runs.Runs.next.Goals as goal

pub returns : goal.returns
returns c =
    ap end_of (sym (ap option_copied c.in_ok-last.was) ∙ c.last.ensures.value ∙ ap (λ rs. slice_get rs (length rs - 1)) c.as_slice.ensures.value)
    ∙ sym (next_of_runs c.self.inside.list c.self.invariant.0)
    ∙ ap next_number c.self.view_is
