use Rattle.std.proofs.Common.{◌≡◌, rules}
use Rattle.std.proofs.lemmas.Fn.{always_returns_same}
use Rattle.std.proofs.lemmas.List.Sorted.{ranks_by}
use Rattle.std.specs.Ordering.{nat_cmp, is_lt}
use Rattle.std.specs.Cmp.{nat_cmp_total}
use Rattle.std.specs.Cmp.Lexicographic.{slice_cmp, lists_total}
use Rattle.layout_bytes.specs.declared.slot.Slot.{Slot}
use Rattle.fs_dirs.proofs.reading.Listings.{names_sorted}
use Rattle.fs_dirs.proofs.listing.sort_by_name.Goals as goal

pub returns-clause-sorted : goal.returns-clause-sorted
returns-clause-sorted c =
    names_sorted _ (c.sort_unstable_by.ensures.sorted _ (ranks_by (lists_total nat_cmp_total) (λ (s : Slot). s.name))
    (always_returns_same _ (λ a r. is_lt r ≡ is_lt (slice_cmp nat_cmp a.0.now.name a.1.0.now.name)) _ (λ a r f k. search (rules))))
