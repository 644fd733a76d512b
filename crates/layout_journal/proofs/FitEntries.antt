-- What the entries of a record keep to: payloads are behind the journal, fresh blocks among the data, each row ascends, and no block is in both.
use Rattle.std.proofs.Common.{◌≡◌, ℕ, zero, suc, ◌+◌, ◌<◌, ◌≤◌, not, IsTrue, true, false, nat_le, nat_lt, ◌&&◌, List, [], ◌∷◌, Some, slice_get, subst, arith}
use Rattle.std.proofs.lemmas.Bool.{and_parts, not-true, leb-true, ltb-true}
use Rattle.layout_geometry.specs.Geometry.{Geometry, bitmap_start, data_start}
use Rattle.layout_journal.specs.declared.entry.Entry.{Entry}
use Rattle.layout_journal.specs.Run.{Record, entries_fit, is_fresh, are_fresh, are_ascending, names_block}

-- what is asked of the first of fresh entries, and of the others
record IsFirstFresh (g : Geometry) (ps : List Entry) (e : Entry) (es : List Entry) : Type 0 where
  pub low : data_start g ≤ e.block
  pub high : e.block < g.n
  pub unnamed : names_block ps e.block ≡ false
  pub others : are_fresh g ps es ≡ true

first_fresh : (g : Geometry) (ps : List Entry) (e : Entry) (es : List Entry) → are_fresh g ps (e ∷ es) ≡ true → IsFirstFresh g ps e es
first_fresh g ps e es fit =
    let one = and_parts (is_fresh e.kind) (nat_le (data_start g) e.block && (nat_lt e.block g.n && (not (names_block ps e.block) && are_fresh g ps es))) fit in
    let two = and_parts (nat_le (data_start g) e.block) (nat_lt e.block g.n && (not (names_block ps e.block) && are_fresh g ps es)) one.1 in
    let three = and_parts (nat_lt e.block g.n) (not (names_block ps e.block) && are_fresh g ps es) two.1 in
    let four = and_parts (not (names_block ps e.block)) (are_fresh g ps es) three.1 in
    record { low = leb-true _ _ two.0; high = ltb-true _ _ three.0; unnamed = not-true _ four.0; others = four.1 }

-- fresh entries name data blocks
fresh_in : (g : Geometry) (ps es : List Entry) (i : ℕ) (e : Entry) → are_fresh g ps es ≡ true → slice_get es i ≡ Some e → (data_start g ≤ e.block) × (e.block < g.n)
fresh_in g ps [] i e fit is = cc
fresh_in g ps (a ∷ es) zero e fit is =
    let same : a ≡ e = cc in
    let parts = first_fresh g ps a es fit in
    subst (λ (c : Entry). (data_start g ≤ c.block) × (c.block < g.n)) same (parts.low, parts.high)
fresh_in g ps (a ∷ es) (suc i) e fit is = fresh_in g ps es i e (first_fresh g ps a es fit).others is

-- fresh entries of a record that fits name data blocks
pub fresh_in_disk : (g : Geometry) (r : Record) (i : ℕ) (e : Entry) → IsTrue (entries_fit g r) → slice_get r.fresh i ≡ Some e → (data_start g ≤ e.block) × (e.block < g.n)
unfolding entries_fit
fresh_in_disk g r i e fit is = fresh_in g r.payloads r.fresh i e (and_parts _ _ (and_parts _ _ fit).1).1 is

above : (low high : ℕ) (es : List Entry) (i : ℕ) (e : Entry) → are_ascending low high es ≡ true → slice_get es i ≡ Some e → (low ≤ e.block) × (e.block < high)
above low high [] i e fit is = cc
above low high (a ∷ es) zero e fit is = let same : a ≡ e = cc in let low_part = and_parts _ _ fit in subst (λ (c : Entry). (low ≤ c.block) × (c.block < high)) same (leb-true _ _ low_part.0, ltb-true _ _ (and_parts _ _ low_part.1).0)
above low high (a ∷ es) (suc i) e fit is =
    let parts = and_parts (nat_le low a.block) _ fit in
    let first = leb-true low a.block parts.0 in
    let rest = above (a.block + 1) high es i e (and_parts (nat_lt a.block high) _ parts.1).1 is in
    (omega (arith, first, rest.0), rest.1)

ordered : (low high : ℕ) (es : List Entry) (i k : ℕ) (e f : Entry) → are_ascending low high es ≡ true → i < k → slice_get es i ≡ Some e → slice_get es k ≡ Some f → e.block < f.block
ordered low high [] i k e f fit lt a b = cc
ordered low high (c ∷ es) i zero e f fit lt a b = absurd (omega arith)
ordered low high (c ∷ es) zero (suc k) e f fit lt a b =
    let same : c ≡ e = cc in
    let parts = and_parts (nat_le low c.block) _ fit in
    let rest = above (c.block + 1) high es k f (and_parts (nat_lt c.block high) _ parts.1).1 b in
    subst (λ (d : Entry). d.block < f.block) same (omega (arith, rest.0))
ordered low high (c ∷ es) (suc i) (suc k) e f fit lt a b = ordered (c.block + 1) high es i k e f (and_parts (nat_lt c.block high) _ (and_parts (nat_le low c.block) _ fit).1).1 (omega arith) a b

-- payloads name blocks behind the journal and on the disk
pub payload_in_disk : (g : Geometry) (r : Record) (i : ℕ) (e : Entry) → IsTrue (entries_fit g r) → slice_get r.payloads i ≡ Some e → (bitmap_start g ≤ e.block) × (e.block < g.n)
unfolding entries_fit
payload_in_disk g r i e fit is = above (bitmap_start g) g.n r.payloads i e (and_parts _ _ fit).0 is

-- fresh entries ascend
pub fresh_ordered : (g : Geometry) (r : Record) (i k : ℕ) (e f : Entry) → IsTrue (entries_fit g r) → i < k → slice_get r.fresh i ≡ Some e → slice_get r.fresh k ≡ Some f → e.block < f.block
unfolding entries_fit
fresh_ordered g r i k e f fit lt a b = ordered (data_start g) g.n r.fresh i k e f (and_parts _ _ (and_parts _ _ fit).1).0 lt a b

-- no payload names a fresh block
fresh_unnamed : (g : Geometry) (ps es : List Entry) (i : ℕ) (e : Entry) → are_fresh g ps es ≡ true → slice_get es i ≡ Some e → names_block ps e.block ≡ false
fresh_unnamed g ps [] i e fit is = cc
fresh_unnamed g ps (a ∷ es) zero e fit is = let same : a ≡ e = cc in subst (λ (c : Entry). names_block ps c.block ≡ false) same (first_fresh g ps a es fit).unnamed
fresh_unnamed g ps (a ∷ es) (suc i) e fit is = fresh_unnamed g ps es i e (first_fresh g ps a es fit).others is

pub fresh_apart : (g : Geometry) (r : Record) (i : ℕ) (e : Entry) → IsTrue (entries_fit g r) → slice_get r.fresh i ≡ Some e → names_block r.payloads e.block ≡ false
unfolding entries_fit
fresh_apart g r i e fit is = fresh_unnamed g r.payloads r.fresh i e (and_parts _ _ (and_parts _ _ fit).1).1 is
