use Rattle.std.proofs.Common.{◌∙◌, refl, sym, ap₂}
use Rattle.disk_mirror.specs.Rows.{first_ready}
use Rattle.disk_mirror.proofs.Calls.{hears_both}
use Rattle.disk_mirror.proofs.mirror.MirrorDisk.poll.Goals as goal

pub returns-then-not-is_live-clause-least : goal.returns-then-not-is_live-clause-least
returns-then-not-is_live-clause-least g c = (
  c.poll_second.new.self.order.heard,
  λ tells. hears_both _ _ _ _ _ _ _ _ _ _ _ _ c.poll_first.ensures.pairs c.poll_second.ensures.other c.poll_first.ensures.other refl (c.poll_first.ensures.hears tells) (c.poll_second.ensures.hears tells),
  tt,
)

pub returns-clause-least : goal.returns-clause-least
returns-clause-least g c = (
  c.poll_second.new.self.order.heard,
  λ tells. hears_both _ _ _ _ _ _ _ _ _ _ _ _ c.poll_first.ensures.pairs (c.report_next.ensures.logs.0 ∙ c.poll_second.ensures.other) c.poll_first.ensures.other c.report_next.ensures.logs.1 (c.poll_first.ensures.hears tells) (c.poll_second.ensures.hears tells),
  (c.report_next.ensures.least ∙ ap₂ (λ f s. first_ready f s c.poll_second.new.self.order.heard) (sym c.report_next.ensures.live.0) (sym c.report_next.ensures.live.1), c.report_next.ensures.rows),
)
