-- What a record keeps of the puts that it was made of.
use Rattle.std.proofs.Common.{◌≡◌, ℕ, suc, ◌+◌, ◌==◌, Bool, true, false, if◌then◌else◌, List, [], ◌∷◌, map, slice_get, Some, refl, sym, ◌∙◌, ap, arith}
use Rattle.std.proofs.lemmas.Bool.{cond-true, cond-false}
use Rattle.layout_journal.specs.Layout.{unescaped}
use Rattle.layout_journal.specs.Spelling.{stored_of, stored_kind}
use Rattle.layout_journal.specs.Run.{names_block, heads}
use Rattle.crash_argument.specs.Ledger.{block_at, payload_among, payload_in}
use Rattle.crash_argument.specs.HomeTest.{is_one_of}
use Rattle.engine_running.specs.declared.put.Put.{Put}
use Rattle.engine_running.specs.Record.{record_of, written_of, payload_entry, fresh_entry, block_of}
use Rattle.engine_running.specs.Rows.{put_of}
use Rattle.engine_running.proofs.spelling.Spelled.{ring_payload}

payload_put : ((x : List ℕ) → unescaped (stored_kind x) (stored_of x) ≡ x) → (ring : List (List ℕ)) (es : List Put) (i b : ℕ) → ((k : ℕ) (p : Put) → slice_get es k ≡ Some p → block_at ring (i + k) ≡ stored_of p.bytes) → payload_among ring i (map payload_entry es) b ≡ put_of b es
payload_put reads ring [] i b at = refl
payload_put reads ring (p ∷ es) i b at = by (payload_put reads ring es (i + 1) b (λ k q is. ap (block_at ring) (s i k) ∙ at (suc k) q is)) (p.block == b) refl
  where
    s : (i k : ℕ) → i + 1 + k ≡ i + suc k
    s i k = omega arith

    z : (i : ℕ) → i ≡ i + 0
    z i = omega arith

    by : payload_among ring (i + 1) (map payload_entry es) b ≡ put_of b es → (v : Bool) → (p.block == b) ≡ v → payload_among ring i (map payload_entry (p ∷ es)) b ≡ put_of b (p ∷ es)
    by rest true own = cond-true (p.block == b) (Some (unescaped (stored_kind p.bytes) (block_at ring i))) (payload_among ring (i + 1) (map payload_entry es) b) own
        ∙ ap Some (ap (unescaped (stored_kind p.bytes)) (ap (block_at ring) (z i) ∙ at 0 p refl) ∙ reads p.bytes) ∙ sym (cond-true (p.block == b) (Some p.bytes) (put_of b es) own)
    by rest false other = cond-false (p.block == b) (Some (unescaped (stored_kind p.bytes) (block_at ring i))) (payload_among ring (i + 1) (map payload_entry es) b) other
        ∙ rest ∙ sym (cond-false (p.block == b) (Some p.bytes) (put_of b es) other)

pub record_pays : ((x : List ℕ) → unescaped (stored_kind x) (stored_of x) ≡ x) → (epoch number place : ℕ) (paid laid : List Put) (b : ℕ) → payload_in (written_of epoch number place paid laid) b ≡ put_of b paid
record_pays reads epoch number place paid laid b = payload_put reads (written_of epoch number place paid laid).ring paid (heads (record_of number place paid laid)) b (ring_payload epoch number place paid laid)

pub record_lays : (laid : List Put) (b : ℕ) → names_block (map fresh_entry laid) b ≡ is_one_of b (map block_of laid)
record_lays [] b = refl
record_lays (q ∷ qs) b = ap (λ v. if q.block == b then true else v) (record_lays qs b)
