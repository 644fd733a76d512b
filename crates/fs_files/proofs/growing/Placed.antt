-- The places of a node that has new numbers among its own: which stay, which are new, and which were given up.
use Rattle.std.proofs.Common.{◌≡◌, ◌⊎◌, inl, inr, ℕ, ◌+◌, ◌-◌, ◌*◌, ◌/◌, ◌<◌, ◌≤◌, Bool, true, false, ◌&&◌, nat_le, nat_lt, List, length, take, get_or, slice_get, max, sym, ap, ◌∙◌, arith, ⊎_elim}
use Rattle.std.proofs.lemmas.Bool.{cases_Bool, cases_lt, false≢true}
use Rattle.std.proofs.lemmas.Option.{slice_get-get_or, get_or_from_slice_get, slice_get_within}
use Rattle.std.proofs.lemmas.List.{get_or-drop, get_or-take, length-take, length-drop}
use Rattle.layout_extent.specs.Renew.{makes_way}
use Rattle.engine_blocks.specs.Running.{has}
use Rattle.fs_files.specs.Bytes.{blocks_for, met}
use Rattle.fs_files.specs.Growing.{placed, taken_by}
use Rattle.fs_files.specs.Places.{place_of}
use Rattle.fs_files.proofs.bytes.Loops.{met_has}
use Rattle.fs_files.proofs.growing.Counted.{way_within}
use Rattle.fs_files.proofs.growing.Renewed.{comes_in, gone_by, in_either, new_at, old_at, renewed_count}

-- The places of the blocks that some bytes meet.

pub met_place : (lo hi : ℕ) (ps : List ℕ) (b : ℕ) → has (met lo hi ps) b ≡ true → (j : ℕ) × (lo / 1024 ≤ j) × (j < blocks_for hi) × (j < length ps) × (get_or ps j 0 ≡ b)
met_place lo hi ps b is =
    let r = place_of (met lo hi ps) b is in
    let low : r.0 < length (met lo hi ps) = slice_get_within (met lo hi ps) r.0 b r.1 in
    let within : lo / 1024 + r.0 < length (take (blocks_for hi) ps) = omega (arith, low, length-drop (lo / 1024) (take (blocks_for hi) ps)) in
    let front : lo / 1024 + r.0 < blocks_for hi = omega (arith, within, length-take (blocks_for hi) ps) in (
      lo / 1024 + r.0,
      omega arith,
      front,
      omega (arith, within, length-take (blocks_for hi) ps),
      sym (get_or-take (blocks_for hi) ps (lo / 1024 + r.0) 0 front) ∙ sym (get_or-drop (lo / 1024) (take (blocks_for hi) ps) r.0 0) ∙ get_or_from_slice_get (met lo hi ps) r.0 b 0 r.1,
    )

pub met_at : (lo hi : ℕ) (ps : List ℕ) (j : ℕ) → lo < hi → lo / 1024 ≤ j → j < blocks_for hi → j < length ps → has (met lo hi ps) (get_or ps j 0) ≡ true
met_at lo hi ps j some from below low =
    let same : max lo (1024 * j) / 1024 ≡ j = omega (arith, from) in
    met_has lo hi (max lo (1024 * j)) (get_or ps j 0) ps (omega arith) (omega (arith, some, below)) (ap (slice_get ps) same ∙ slice_get-get_or ps j 0 low)

module _ (kept : ℕ → Bool) (lo hi : ℕ) (os ps extra : List ℕ) (are : ps ≡ placed kept lo hi os extra) (many : length extra ≡ taken_by kept lo hi os) where
  abbrev pub test : ℕ → Bool
  test = makes_way (lo / 1024) (blocks_for hi) kept os

  pub count_is : length ps ≡ length os + (blocks_for hi - length os)
  count_is = ap length are ∙ renewed_count (makes_way (lo / 1024) (blocks_for hi) kept os) 0 os extra (blocks_for hi - length os) many

  -- where the places stay and where they are new
  pub stays_at : (j : ℕ) → j < length os → test j ≡ false → get_or ps j 0 ≡ get_or os j 0
  stays_at j l fails = ap (λ xs. get_or xs j 0) are ∙ old_at (makes_way (lo / 1024) (blocks_for hi) kept os) 0 os extra j (ap test {x = 0 + j} {y = j} (omega arith) ∙ fails) l

  pub comes_at : (j : ℕ) → j < length ps → (test j ≡ true) ⊎ (length os ≤ j) → has extra (get_or ps j 0) ≡ true
  comes_at j l where_is = ap (λ xs. has extra (get_or xs j 0)) are
      ∙ new_at (makes_way (lo / 1024) (blocks_for hi) kept os) 0 os extra (blocks_for hi - length os) j many (omega (arith, l, count_is)) (⊎_elim (λ t. inl (ap test {x = 0 + j} {y = j} (omega arith) ∙ t)) (λ past. inr past) where_is)

  -- each is an old or a new one, and each new one is there
  pub either_of : (b : ℕ) → has ps b ≡ true → (has os b ≡ true) ⊎ (has extra b ≡ true)
  either_of b is = in_either (makes_way (lo / 1024) (blocks_for hi) kept os) 0 os extra b (sym (ap (λ xs. has xs b) are) ∙ is)

  pub comes_of : (b : ℕ) → has extra b ≡ true → has ps b ≡ true
  comes_of b is = ap (λ xs. has xs b) are ∙ comes_in (makes_way (lo / 1024) (blocks_for hi) kept os) 0 os extra b is

  -- what was given up is kept
  pub gone_kept : (b : ℕ) → has os b ≡ true → has ps b ≡ false → kept b ≡ true
  gone_kept b is out = gone_by (λ x. kept x ≡ true) (makes_way (lo / 1024) (blocks_for hi) kept os) 0 os extra b (λ j l holds. holds_so j (ap test {x = j} {y = 0 + j} (omega arith) ∙ holds)) is (sym (ap (λ xs. has xs b) are) ∙ out)
    where
      parts : (s t u : Bool) → (s && (t && u)) ≡ true → u ≡ true
      parts true true u e = e
      parts true false u e = absurd (false≢true e)
      parts false t u e = absurd (false≢true e)

      holds_so : (j : ℕ) → test j ≡ true → kept (get_or os j 0) ≡ true
      holds_so j holds = parts (nat_le (lo / 1024) j) (nat_lt j (blocks_for hi)) (kept (get_or os j 0)) holds

  -- of the blocks that the bytes meet, those that aren't new were met before, and aren't kept
  pub met_old : (b : ℕ) → lo < hi → has (met lo hi ps) b ≡ true → has extra b ≡ false → (has (met lo hi os) b ≡ true) × (kept b ≡ false)
  met_old b some is out = by (met_place lo hi ps b is)
    where
      by : ((j : ℕ) × (lo / 1024 ≤ j) × (j < blocks_for hi) × (j < length ps) × (get_or ps j 0 ≡ b)) → (has (met lo hi os) b ≡ true) × (kept b ≡ false)
      by (j, from, below, low, at) = on (cases_lt j (length os)) (cases_Bool (test j))
        where
          came : (test j ≡ true) ⊎ (length os ≤ j) → (has (met lo hi os) b ≡ true) × (kept b ≡ false)
          came where_is = absurd (false≢true (sym out ∙ ap (has extra) (sym at) ∙ comes_at j low where_is))

          on : (j < length os) ⊎ (length os ≤ j) → (test j ≡ true) ⊎ (test j ≡ false) → (has (met lo hi os) b ≡ true) × (kept b ≡ false)
          on (inl l) (inl holds) = came (inl holds)
          on (inr past) either = came (inr past)
          on (inl l) (inr fails) =
              let same : get_or os j 0 ≡ b = sym (stays_at j l fails) ∙ at in
              (ap (has (met lo hi os)) (sym same) ∙ met_at lo hi os j some from below l, ap kept (sym same) ∙ sym (way_within kept (lo / 1024) (blocks_for hi) os j from below) ∙ fails)
