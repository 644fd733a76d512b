-- The tests of payloads and fresh blocks, as the loops over entries make them.
use Rattle.std.proofs.Common.{◌≡◌, ℕ, suc, ◌+◌, ◌<◌, Bool, ◌&&◌, bytes_eq, List, [], ◌∷◌, length, drop, get_or, drop-cons, add-one, sym, ◌∙◌, ap, arith}
use Rattle.base_types.specs.Seal.{Blocks, sha256}
use Rattle.layout_geometry.specs.Geometry.{Geometry, ring_block}
use Rattle.layout_journal.specs.declared.entry.Entry.{Entry}
use Rattle.layout_journal.specs.declared.entry.EntryKind.TheVariants.{Payload}
use Rattle.crash_record.specs.Found.{fits, payloads_fit, fresh_fit}

-- what the code reads past the end of entries, which it never does
abbrev pub blank : Entry
blank = record { block = 0; kind = Payload; digest = [] }

-- the entries from one on begin with it
pub from_here : (es : List Entry) (k : ℕ) (e : Entry) → k < length es → e ≡ get_or es k blank → drop k es ≡ e ∷ drop (k + 1) es
from_here es k e lt at = drop-cons es k blank lt ∙ ap (λ (x : Entry). x ∷ drop (suc k) es) (sym at) ∙ ap (λ n. e ∷ drop n es) (sym (add-one k))

-- the test of the fresh blocks, as the loop makes it
pub fresh_here : (img : Blocks) (es : List Entry) (k : ℕ) (e : Entry) (x : List ℕ) (b t : Bool) → k < length es → e ≡ get_or es k blank → x ≡ img e.block → b ≡ bytes_eq (sha256 x) e.digest → b ≡ t
    → fresh_fit img (drop k es) ≡ fresh_fit img es → (t && fresh_fit img (drop (k + 1) es)) ≡ fresh_fit img es
fresh_here img es k e x b t lt at is test same rest =
    ap (λ c. c && fresh_fit img (drop (k + 1) es)) (sym same ∙ test ∙ ap (λ (y : List ℕ). bytes_eq (sha256 y) e.digest) is) ∙ sym (ap (fresh_fit img) (from_here es k e lt at)) ∙ rest

-- and that of the payloads
pub payload_here : (g : Geometry) (img : Blocks) (first p : ℕ) (es : List Entry) (k : ℕ) (e : Entry) (x : List ℕ) (b t : Bool) → k < length es → e ≡ get_or es k blank → p ≡ first + k → x ≡ img (ring_block g p) → b ≡ fits e x → b ≡ t
    → payloads_fit g img (first + k) (drop k es) ≡ payloads_fit g img first es → (t && payloads_fit g img (first + (k + 1)) (drop (k + 1) es)) ≡ payloads_fit g img first es
payload_here g img first p es k e x b t lt at here is test same rest =
    ap (λ n. t && payloads_fit g img n (drop (k + 1) es)) {x = first + (k + 1)} {y = first + k + 1} (omega arith)
    ∙ ap (λ c. c && payloads_fit g img (first + k + 1) (drop (k + 1) es)) (sym same ∙ test ∙ ap (fits e) is ∙ ap (λ n. fits e (img (ring_block g n))) here)
    ∙ sym (ap (payloads_fit g img (first + k)) (from_here es k e lt at)) ∙ rest
