-- The test of the payloads of a record, as the code makes it.
use Rattle.std.proofs.Common.{◌≡◌, ℕ, ◌+◌, Bool, List, sym, ◌∙◌, ap₂}
use Rattle.base_types.specs.Seal.{Blocks}
use Rattle.layout_geometry.specs.Geometry.{Geometry}
use Rattle.layout_journal.specs.declared.entry.Entry.{Entry}
use Rattle.layout_journal.specs.Run.{Record, heads}
use Rattle.crash_record.specs.Found.{payloads_fit}

pub payloads_as : (g : Geometry) (img : Blocks) (r : Record) (p hd : ℕ) (ps : List Entry) (b : Bool) → b ≡ payloads_fit g img (p + hd) ps
    → p ≡ r.place → hd ≡ heads r → ps ≡ r.payloads → payloads_fit g img (r.place + heads r) r.payloads ≡ b
payloads_as g img r p hd ps b e x y z = sym (e ∙ ap₂ (λ n (l : List Entry). payloads_fit g img n l) (ap₂ (λ k l. k + l) x y) z)
