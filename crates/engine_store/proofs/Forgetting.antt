-- What a cache keeps once the blocks of a record were forgotten, one after the other.
use Rattle.std.proofs.Common.{◌≡◌, ℕ, zero, suc, ◌+◌, ◌<◌, ◌==◌, ◌||◌, Bool, true, false, if◌then◌else◌, List, [], ◌∷◌, length, take, slice_index_or, Option, Some, None, is_some, refl, sym, ◌∙◌, ap, arith}
use Rattle.std.proofs.lemmas.Bool.{false≢true}
use Rattle.std.specs.Cmp.{nat_cmp_total, nat_eq_equiv, unsigned_ties}
use Rattle.std.specs.FinMap.{get, get-remove}
use Rattle.engine_cache.specs.Cache.{Cache, IsKept, without}
use Rattle.crash_argument.specs.HomeTest.{is_one_of}
use Rattle.engine_running.specs.declared.put.Put.{Put}
use Rattle.engine_running.specs.Rows.{put_of}
use Rattle.engine_store.specs.Syncing.{Forgets}

-- one block is forgotten
gone : (b n : ℕ) (c d : Cache) → d ≡ without b c → get d.kept n ≡ (if b == n then None else get c.kept n)
gone b n c d is =
    ap (λ (x : Cache). get x.kept n) is
    ∙ get-remove nat_cmp_total c.kept b n
    ∙ ap (λ t. if t then None else get c.kept n) (sym (unsigned_ties n b) ∙ nat_eq_equiv.symm n b)

-- behind those that were forgotten before
both : {A : Type 0} (has same : Bool) (x : Option A) → (if same then None else (if has then None else x)) ≡ (if has || same then None else x)
both has same x = grind arith

-- one number more
number_push : (ns : List ℕ) (k d b : ℕ) → k < length ns → is_one_of b (take (k + 1) ns) ≡ (is_one_of b (take k ns) || (slice_index_or ns k d == b))
number_push [] k d b lt = absurd (omega (arith, lt))
number_push (n ∷ ns) zero d b lt = grind arith
number_push (n ∷ ns) (suc k) d b lt = ap (λ i. is_one_of b (take i (n ∷ ns))) {x = suc k + 1} {y = suc (k + 1)} (omega arith) ∙ grind (arith, number_push ns k d b (omega (arith, lt)))

-- one put more
put_push : (ps : List Put) (k b : ℕ) (d : Put) → k < length ps → is_some (put_of b (take (k + 1) ps)) ≡ (is_some (put_of b (take k ps)) || ((slice_index_or ps k d).block == b))
put_push [] k b d lt = absurd (omega (arith, lt))
put_push (q ∷ ps) zero b d lt = grind arith
put_push (q ∷ ps) (suc k) b d lt = ap (λ i. is_some (put_of b (take i (q ∷ ps)))) {x = suc k + 1} {y = suc (k + 1)} (omega arith) ∙ grind (arith, put_push ps k b d (omega (arith, lt)))

-- so the loops go on
pub number_gone : (ns : List ℕ) (k d b : ℕ) (x : Option (List ℕ)) (c e : Cache) → k < length ns → e ≡ without (slice_index_or ns k d) c → get c.kept b ≡ (if is_one_of b (take k ns) then None else x) → get e.kept b ≡ (if is_one_of b (take (k + 1) ns) then None else x)
number_gone ns k d b x c e lt is before =
    gone (slice_index_or ns k d) b c e is
    ∙ ap (λ o. if slice_index_or ns k d == b then None else o) before
    ∙ both (is_one_of b (take k ns)) (slice_index_or ns k d == b) x
    ∙ ap (λ t. if t then None else x) (sym (number_push ns k d b lt))

pub put_gone : (ps : List Put) (k b : ℕ) (p : Put) (x : Option (List ℕ)) (c e : Cache) → k < length ps → p ≡ slice_index_or ps k p → e ≡ without p.block c → get c.kept b ≡ (if is_some (put_of b (take k ps)) then None else x) → get e.kept b ≡ (if is_some (put_of b (take (k + 1) ps)) then None else x)
put_gone ps k b p x c e lt at is before =
    gone p.block b c e is
    ∙ ap (λ o. if p.block == b then None else o) before
    ∙ both (is_some (put_of b (take k ps))) (p.block == b) x
    ∙ ap (λ t. if t then None else x) (ap (λ (r : Put). is_some (put_of b (take k ps)) || (r.block == b)) at ∙ sym (put_push ps k b p lt))

-- a block that is kept then has no put and isn't fresh, and is kept as before
pub record StillKept (payloads : List Put) (fresh : List ℕ) (old new : Cache) (b : ℕ) : Type 0 where
  pub same : get new.kept b ≡ get old.kept b
  pub paid : put_of b payloads ≡ None
  pub laid : is_one_of b fresh ≡ false

pub still_kept : (payloads : List Put) (fresh : List ℕ) (old new : Cache) (b : ℕ) → Forgets payloads fresh old new → IsKept b new → StillKept payloads fresh old new b
still_kept payloads fresh old new b forgets there = by (put_of b payloads) (is_one_of b fresh) refl refl (forgets b)
  where
    by : (o : Option (List ℕ)) (t : Bool) → put_of b payloads ≡ o → is_one_of b fresh ≡ t → get new.kept b ≡ (if is_some o || t then None else get old.kept b) → StillKept payloads fresh old new b
    by (Some x) t paid laid e = absurd (false≢true (sym (ap is_some e) ∙ there))
    by None true paid laid e = absurd (false≢true (sym (ap is_some e) ∙ there))
    by None false paid laid e = record { same = e; paid = paid; laid = laid }
