-- A text that is put together piece by piece from the front.
use Rattle.std.proofs.Common.{◌≡◌, ℕ, zero, suc, ◌+◌, ◌<◌, ◌++◌, List, [], ◌∷◌, length, take, slice_index_or, sym, ap, ◌∙◌, append_assoc, append-nil, arith}
use Rattle.layout_journal.specs.declared.entry.Entry.{Entry}
use Rattle.layout_journal.specs.Spelling.{entry_bytes, all_entry_bytes}

-- the entries as far as they are written, and one more
pub entries_more : (es : List Entry) (k : ℕ) (d : Entry) → k < length es → all_entry_bytes (take k es) ++ entry_bytes (slice_index_or es k d) ≡ all_entry_bytes (take (k + 1) es)
entries_more [] k d lt = absurd (omega arith)
entries_more (e ∷ es) zero d lt = last (entry_bytes e)
  where
    last : (x : List ℕ) → x ≡ x ++ []
    last x = sym (append-nil x)
entries_more (e ∷ es) (suc k) d lt = append_assoc (entry_bytes e) (all_entry_bytes (take k es)) (entry_bytes (slice_index_or es k d)) ∙ ap (λ t. entry_bytes e ++ t) (entries_more es k d (omega arith)) ∙ ap (λ n. all_entry_bytes (take n (e ∷ es))) (s k)
  where
    s : (k : ℕ) → suc (k + 1) ≡ suc k + 1
    s k = omega arith

-- the text with one entry more
pub entries_go : (es : List Entry) (k : ℕ) (d : Entry) (t u start : List ℕ) → k < length es → t ≡ start ++ all_entry_bytes (take k es) → u ≡ t ++ entry_bytes (slice_index_or es k d) → u ≡ start ++ all_entry_bytes (take (k + 1) es)
entries_go es k d t u start lt was put = put ∙ ap (λ x. x ++ entry_bytes (slice_index_or es k d)) was ∙ append_assoc start (all_entry_bytes (take k es)) (entry_bytes (slice_index_or es k d)) ∙ ap (λ x. start ++ x) (entries_more es k d lt)
