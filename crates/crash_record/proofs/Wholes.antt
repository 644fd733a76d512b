-- Whole records: what the tests on their blocks say.
use Rattle.std.proofs.Common.{◌≡◌, ℕ, zero, suc, ◌+◌, ◌<◌, true, bytes_eq, List, [], ◌∷◌, refl, subst, arith}
use Rattle.std.proofs.lemmas.Bool.{and_parts, and_from}
use Rattle.std.proofs.lemmas.Slice.Eq.{bytes_eq-Decides}
use Rattle.base_types.specs.Seal.{Blocks, sha256}
use Rattle.layout_geometry.specs.Geometry.{Geometry, ring_block}
use Rattle.layout_journal.specs.declared.header.Header.{Header}
use Rattle.layout_journal.specs.declared.entry.Entry.{Entry}
use Rattle.layout_journal.specs.Run.{Record, heads, entries_fit, Fits, IsWhole}
use Rattle.crash_record.specs.Found.{IsDescribed, AllFit, AllMatch, fits, payloads_fit, fresh_fit}

-- a payload that passes fits its entry
fits_true : (e : Entry) (stored : List ℕ) → fits e stored ≡ true → Fits e stored
fits_true e stored t =
    let p = and_parts (bytes_eq (sha256 stored) e.digest) _ t in
    record { digest = (bytes_eq-Decides (sha256 stored) e.digest).0 p.0; kind = p.1 }

-- so a payload that fits its entry passes
fits_back : (e : Entry) (stored : List ℕ) → Fits e stored → fits e stored ≡ true
fits_back e stored f = and_from _ _ ((bytes_eq-Decides (sha256 stored) e.digest).1 f.digest) f.kind

-- payloads that pass each fit
all_fit : (g : Geometry) (img : Blocks) (place : ℕ) (es : List Entry) → payloads_fit g img place es ≡ true → AllFit g img place es
all_fit g img place [] t i e at = absurd (cc)
all_fit g img place (x ∷ es) t zero e at =
    let p = and_parts (fits x (img (ring_block g place))) _ t in
    let same : x ≡ e = cc in
    subst (λ (y : Entry). Fits y (img (ring_block g (place + zero)))) same (subst (λ n. Fits x (img (ring_block g n))) (start place) (fits_true x (img (ring_block g place)) p.0))
  where
    start : (n : ℕ) → n ≡ n + 0
    start n = omega arith
all_fit g img place (x ∷ es) t (suc i) e at =
    let p = and_parts (fits x (img (ring_block g place))) _ t in
    subst (λ n. Fits e (img (ring_block g n))) (later place i) (all_fit g img (place + 1) es p.1 i e at)
  where
    later : (n i : ℕ) → n + 1 + i ≡ n + suc i
    later n i = omega arith

-- so payloads that each fit pass
all_fit_back : (g : Geometry) (img : Blocks) (place : ℕ) (es : List Entry) → AllFit g img place es → payloads_fit g img place es ≡ true
all_fit_back g img place [] f = refl
all_fit_back g img place (x ∷ es) f =
    and_from _ _ (fits_back x (img (ring_block g place)) (subst (λ n. Fits x (img (ring_block g n))) (start place) (f 0 x refl)))
    (all_fit_back g img (place + 1) es (λ i e at. subst (λ n. Fits e (img (ring_block g n))) (later place i) (f (suc i) e at)))
  where
    start : (n : ℕ) → n + 0 ≡ n
    start n = omega arith

    later : (n i : ℕ) → n + suc i ≡ n + 1 + i
    later n i = omega arith

-- fresh blocks that pass each match
all_match : (img : Blocks) (es : List Entry) → fresh_fit img es ≡ true → AllMatch img es
all_match img [] t i e at = absurd (cc)
all_match img (x ∷ es) t zero e at =
    let p = and_parts (bytes_eq (sha256 (img x.block)) x.digest) _ t in
    let same : x ≡ e = cc in
    subst (λ (y : Entry). sha256 (img y.block) ≡ y.digest) same ((bytes_eq-Decides (sha256 (img x.block)) x.digest).0 p.0)
all_match img (x ∷ es) t (suc i) e at = all_match img es (and_parts (bytes_eq (sha256 (img x.block)) x.digest) _ t).1 i e at

-- so fresh blocks that each match pass
all_match_back : (img : Blocks) (es : List Entry) → AllMatch img es → fresh_fit img es ≡ true
all_match_back img [] f = refl
all_match_back img (x ∷ es) f = and_from _ _ ((bytes_eq-Decides (sha256 (img x.block)) x.digest).1 (f 0 x refl)) (all_match_back img es (λ i e at. f (suc i) e at))

-- a described record is whole where its entries are in order, its payloads fit, and its fresh blocks past `sure` do
pub whole_if : (img : Blocks) (h : Header) (r : Record) → IsDescribed img h r → entries_fit h.geom r ≡ true → payloads_fit h.geom img (r.place + heads r) r.payloads ≡ true
    → (h.sure < r.number → fresh_fit img r.fresh ≡ true) → IsWhole img h r
whole_if img h r described fit payloads fresh = record {
  fit = fit;
  commit = described.commit;
  descriptors = described.descriptors;
  payloads = all_fit h.geom img (r.place + heads r) r.payloads payloads;
  fresh = λ past. all_match img r.fresh (fresh past);
}

-- and only there: the payloads of a whole record pass
pub whole_payloads : (img : Blocks) (h : Header) (r : Record) → IsWhole img h r → payloads_fit h.geom img (r.place + heads r) r.payloads ≡ true
whole_payloads img h r w = all_fit_back h.geom img (r.place + heads r) r.payloads w.payloads

-- and so do its fresh blocks past `sure`
pub whole_fresh : (img : Blocks) (h : Header) (r : Record) → IsWhole img h r → h.sure < r.number → fresh_fit img r.fresh ≡ true
whole_fresh img h r w past = all_match_back img r.fresh (w.fresh past)

-- a whole record is described
pub whole_described : (img : Blocks) (h : Header) (r : Record) → IsWhole img h r → IsDescribed img h r
whole_described img h r w = record { commit = w.commit; descriptors = w.descriptors }
