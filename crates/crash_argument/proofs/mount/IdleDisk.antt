-- Where nothing is pending, an honest image holds what is settled.
use Rattle.std.proofs.Common.{◌≡◌, inl, ℕ, ◌+◌, ◌-◌, ◌<◌, List, [], length, refl, sym, ◌∙◌, ap, subst, arith}
use mathlib.Core.Path.{fun_ext}
use Rattle.base_types.specs.Seal.{Blocks}
use Rattle.disk_contract.specs.declared.event.Event.{Event}
use Rattle.disk_contract.specs.Cell.{cell_of}
use Rattle.disk_contract.specs.Crash.{IsHonest}
use Rattle.layout_geometry.specs.Geometry.{Geometry}
use Rattle.layout_journal.specs.Layout.{header_of}
use Rattle.crash_argument.specs.JournalLaws.{JournalLaws}
use Rattle.crash_argument.specs.Ledger.{HoldsUnder}
use Rattle.crash_argument.specs.Opening.{closed_header, last_number, settled}
use Rattle.crash_argument.proofs.log.Adds.{stands_settled}
use Rattle.crash_argument.proofs.mount.ReplayStages.{closing_holds}

-- it is as a run that is being closed, before a header is written
pub idle_holds_map : JournalLaws → (n : ℕ) (base : Blocks) (log : List Event) (g : Geometry) (m img : Blocks) → ((b : ℕ) → (cell_of base log b).pending ≡ []) → HoldsUnder n g (settled (cell_of base log)) m → IsHonest n base log img → HoldsUnder n g img m
idle_holds_map laws n base log g m img idle h honest =
    subst (λ (q : Geometry). HoldsUnder n q img m) h.geom
    (subst (λ (q : Blocks). HoldsUnder n h.held.header.geom img q) (sym (fun_ext h.held.each))
    (closing_holds laws n base log img honest h.held.slot (settled (cell_of base log)) h.held.header (closed_header h.held.header (last_number h.held.header h.held.run)) h.held.run
    (record { newest = h.held.newest; is_run = h.held.is_run })
    (record {
      headers = record {
        is_slot = h.held.newest.is_slot;
        stands = h.held.newest.stands;
        alone = idle h.held.slot;
        other = λ x k st is. inl (h.held.newest.other k (ap (header_of n) (sym (stands_settled _ x (idle (1 - h.held.slot)) st)) ∙ is));
        newer = omega arith;
      };
      closes = record { geom = refl; epoch = refl; start = refl; place = refl; is_closed = refl; sure = ends h.held.header.start (length h.held.run) (laws.header_bounds n _ h.held.header h.held.newest.stands).first };
      rest = λ b high. record { settled = refl; idle = idle b };
    })))
  where
    ends : (a b : ℕ) → 0 < a → a + b - 1 + 1 ≡ a + b
    ends a b some = omega arith
