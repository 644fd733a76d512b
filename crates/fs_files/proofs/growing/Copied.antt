-- A node got new blocks in the stead of kept ones, and of these was copied what bytes `lo` to `hi` don't fill: outside of the bytes it has what it had, and zeros behind.
use Rattle.std.proofs.Common.{◌≡◌, ◌≢◌, ◌⊎◌, inl, inr, ℕ, suc, ◌+◌, ◌-◌, ◌*◌, ◌/◌, ◌%◌, ◌<◌, ◌≤◌, Bool, true, false, IsTrue, List, [], ◌∷◌, ◌++◌, length, get_or, slice_get, replicate, Option, None, Some, is_some, All, refl, sym, ap, subst, ◌∙◌, arith, ⊎_elim}
use Rattle.std.specs.List.{AllPairs}
use Rattle.std.proofs.lemmas.Bool.{cases_Bool, cases_eq, cases_lt, false≢true}
use Rattle.std.proofs.lemmas.Option.{slice_get-get_or, get_or_from_slice_get, slice_get_within}
use Rattle.std.proofs.lemmas.List.{get_or_append_left, get_or-append_right, length-replicate, get_or-replicate}
use Rattle.base_types.specs.Seal.{Blocks}
use Rattle.base_types.specs.declared.words.Class.{Class}
use Rattle.layout_extent.specs.Renew.{makes_way}
use Rattle.engine_blocks.specs.Running.{has}
use Rattle.crash_stands.specs.Files.{joined}
use Rattle.fs_files.specs.Bytes.{blocks_for, met}
use Rattle.fs_files.specs.Content.{HasContent, WritesContent}
use Rattle.fs_files.specs.Drafts.{DraftState, change_of, drafted}
use Rattle.fs_files.specs.Growing.{edge_of, placed, taken_by, CopiesEdge}
use Rattle.fs_files.specs.Places.{has_place}
use Rattle.fs_files.proofs.bytes.Joins.{of_first, of_rest}
use Rattle.fs_files.proofs.bytes.Loops.{content_at, met_has}
use Rattle.fs_files.proofs.frames.Places.{all_of}
use Rattle.fs_files.proofs.growing.Counted.{way_before, way_behind, way_within}
use Rattle.fs_files.proofs.growing.Edges.{copy_content, copy_here, copy_none, copy_others, copy_writes, edge_is, edge_part, edge_there, some_is, writes_both}
use Rattle.fs_files.proofs.growing.Placed.{comes_at, count_is, either_of, stays_at}
use Rattle.fs_files.proofs.growing.Renewed.{renewed_once}

-- A byte of blocks one behind the other is one of the block in which it lies.
pub joined_at : (m : Blocks) (ps : List ℕ) (k z : ℕ) → All (λ b. length (m b) ≡ 1024) ps → k < 1024 * length ps → get_or (joined m ps) k z ≡ get_or (m (get_or ps (k / 1024) 0)) (k % 1024) z
joined_at m [] k z whole low = absurd (omega (arith, low))
joined_at m (p ∷ ps) k z whole low = by (cases_lt k 1024) (λ l. joined_at m ps (k - 1024) z (of_rest (λ b. length (m b) ≡ 1024) p ps whole) l)
  where
    size : length (m p) ≡ 1024
    size = of_first (λ b. length (m b) ≡ 1024) p ps whole

    by : (k < 1024) ⊎ (1024 ≤ k) → (k - 1024 < 1024 * length ps → get_or (joined m ps) (k - 1024) z ≡ get_or (m (get_or ps ((k - 1024) / 1024) 0)) ((k - 1024) % 1024) z) → get_or (m p ++ joined m ps) k z ≡ get_or (m (get_or (p ∷ ps) (k / 1024) 0)) (k % 1024) z
    by (inl first) rest =
        get_or_append_left (m p) (joined m ps) z k (omega (arith, first, size))
        ∙ ap (λ i. get_or (m p) i z) {x = k} {y = k % 1024} (omega (arith, first))
        ∙ ap (λ i. get_or (m (get_or (p ∷ ps) i 0)) (k % 1024) z) {x = 0} {y = k / 1024} (omega (arith, first))
    by (inr past) rest =
        get_or-append_right (m p) (joined m ps) 1024 k z size past
        ∙ rest (omega (arith, low, past))
        ∙ ap (λ i. get_or (m (get_or ps ((k - 1024) / 1024) 0)) i z) {x = (k - 1024) % 1024} {y = k % 1024} (omega (arith, past))
        ∙ ap (λ i. get_or (m (get_or (p ∷ ps) i 0)) (k % 1024) z) {x = suc ((k - 1024) / 1024)} {y = k / 1024} (omega (arith, past))

-- What the node's blocks have then.
pub record KeepsOutside (m : Blocks) (lo hi : ℕ) (os ps : List ℕ) (d g : DraftState) : Type 0 where
  pub content : HasContent m g ps
  pub count : length ps ≡ length os + (blocks_for hi - length os)
  pub front : (i z : ℕ) → i < lo → get_or (joined (drafted g m) ps) i z ≡ get_or (joined (drafted d m) os) i z
  pub back : (i z : ℕ) → hi ≤ i → i < 1024 * length os → get_or (joined (drafted g m) ps) i z ≡ get_or (joined (drafted d m) os) i z
  pub zeros : (i z : ℕ) → 1024 * length os ≤ i → i < 1024 * length ps → get_or (joined (drafted g m) ps) i z ≡ 0

module _ (tells : Bool) (m : Blocks) (class : Class) (kept : ℕ → Bool) (lo hi : ℕ) (os ps extra : List ℕ) (d b c g : DraftState)
    (some : lo < hi) (inside : lo ≤ 1024 * length os) (are : ps ≡ placed kept lo hi os extra) (many : length extra ≡ taken_by kept lo hi os)
    (low : CopiesEdge tells m class (get_or ps (lo / 1024) 0) (edge_of kept lo os) b c) (high : CopiesEdge tells m class (get_or ps (hi / 1024) 0) (edge_of kept hi os) c g) where
  abbrev test : ℕ → Bool
  test = makes_way (lo / 1024) (blocks_for hi) kept os

  count : length ps ≡ length os + (blocks_for hi - length os)
  count = count_is kept lo hi os ps extra are many

  lo_low : is_some (edge_of kept lo os) ≡ true → lo / 1024 < length os
  lo_low there = let x = some_is (edge_of kept lo os) there in slice_get_within os (lo / 1024) x.0 (edge_is kept lo os x.0 x.1).0

  hi_low : is_some (edge_of kept hi os) ≡ true → hi / 1024 < length os
  hi_low there = let x = some_is (edge_of kept hi os) there in slice_get_within os (hi / 1024) x.0 (edge_is kept hi os x.0 x.1).0

  in_ps : (j : ℕ) → j < length ps → slice_get ps j ≡ Some (get_or ps j 0)
  in_ps j l = slice_get-get_or ps j 0 l

  -- the blocks that were written are some that the bytes meet
  pub edges_written : WritesContent class (met lo hi ps) b g
  edges_written = writes_both class (met lo hi ps) b c g
      (copy_writes tells m class (get_or ps (lo / 1024) 0) (edge_of kept lo os) b c (met lo hi ps)
      (λ x is. let l = lo_low (ap is_some is) in met_has lo hi lo (get_or ps (lo / 1024) 0) ps (omega arith) some (in_ps (lo / 1024) (omega (arith, l, count)))) low)
      (copy_writes tells m class (get_or ps (hi / 1024) 0) (edge_of kept hi os) c g (met lo hi ps)
      (λ x is.
      let l = hi_low (ap is_some is) in
      let part = edge_part kept hi os (ap is_some is) in
      let same : (hi - 1) / 1024 ≡ hi / 1024 = omega (arith, part, some) in
      met_has lo hi (hi - 1) (get_or ps (hi / 1024) 0) ps (omega (arith, some)) (omega (arith, some)) (ap (slice_get ps) same ∙ in_ps (hi / 1024) (omega (arith, l, count)))) high)

  module _ (told : IsTrue tells) (once_os : AllPairs (λ x y. x ≢ y) os) (once_extra : AllPairs (λ x y. x ≢ y) extra) (apart : (q : ℕ) → has os q ≡ true → has extra q ≡ false)
      (old : (q : ℕ) → has os q ≡ true → drafted b m q ≡ drafted d m q) (whole : (q : ℕ) → has os q ≡ true → length (drafted d m q) ≡ 1024)
      (fresh : (q : ℕ) → has extra q ≡ true → drafted b m q ≡ replicate 1024 0) (neat : (q : ℕ) → is_some (change_of b.fresh q) ≡ true → change_of b.changed q ≡ None) where
    once : AllPairs (λ x y. x ≢ y) ps
    once = subst (AllPairs (λ x y. x ≢ y)) (sym are)
        (renewed_once (makes_way (lo / 1024) (blocks_for hi) kept os) 0 os extra once_os once_extra (λ q one two. false≢true (sym (apart q one) ∙ two)))

    different : (i j : ℕ) → i < length ps → j < length ps → i ≢ j → get_or ps i 0 ≢ get_or ps j 0
    different i j l h away same = ⊎_elim (λ less. once i j 0 less h same)
        (λ more. once j i 0 (omega (arith, more, away)) l (sym same))
        (cases_lt i j)

    in_os : (j : ℕ) → j < length os → has os (get_or os j 0) ≡ true
    in_os j l = has_place os j (get_or os j 0) (slice_get-get_or os j 0 l)

    stays : (j : ℕ) → j < length os → test j ≡ false → get_or ps j 0 ≡ get_or os j 0
    stays = stays_at kept lo hi os ps extra are many

    comes : (j : ℕ) → j < length ps → (test j ≡ true) ⊎ (length os ≤ j) → has extra (get_or ps j 0) ≡ true
    comes = comes_at kept lo hi os ps extra are many

    whole_b : (q : ℕ) → has ps q ≡ true → length (drafted b m q) ≡ 1024
    whole_b q is = ⊎_elim (λ mine. ap length (old q mine) ∙ whole q mine)
        (λ came. ap length (fresh q came) ∙ length-replicate {A = ℕ} 1024 0)
        (either_of kept lo hi os ps extra are many q is)

    content_b : HasContent m b ps
    content_b = record {
      whole = all_of (λ q. length (drafted b m q) ≡ 1024) ps whole_b;
      once = once;
      apart = all_of (λ q. is_some (change_of b.fresh q) ≡ true → change_of b.changed q ≡ None) ps (λ q is. neat q);
    }

    -- the edges are new blocks, and what they are copies of are old ones
    lo_way : is_some (edge_of kept lo os) ≡ true → test (lo / 1024) ≡ true
    lo_way there =
        let x = some_is (edge_of kept lo os) there in
        let e = edge_is kept lo os x.0 x.1 in
        way_within kept (lo / 1024) (blocks_for hi) os (lo / 1024) (omega arith) (omega (arith, some)) ∙ ap kept (get_or_from_slice_get os (lo / 1024) x.0 0 e.0) ∙ e.1

    hi_way : is_some (edge_of kept hi os) ≡ true → test (hi / 1024) ≡ true
    hi_way there =
        let x = some_is (edge_of kept hi os) there in
        let e = edge_is kept hi os x.0 x.1 in
        let part = edge_part kept hi os there in
        way_within kept (lo / 1024) (blocks_for hi) os (hi / 1024) (omega (arith, some)) (omega (arith, part)) ∙ ap kept (get_or_from_slice_get os (hi / 1024) x.0 0 e.0) ∙ e.1

    not_new : (q r : ℕ) → has extra q ≡ false → has extra r ≡ true → q ≢ r
    not_new q r out is same = false≢true (sym out ∙ ap (has extra) same ∙ is)

    -- an old block is as it was
    old_c : (q : ℕ) → has extra q ≡ false → drafted c m q ≡ drafted b m q
    old_c q out = copy_others tells m class (get_or ps (lo / 1024) 0) (edge_of kept lo os) b c q
        (λ there. not_new q (get_or ps (lo / 1024) 0) out (comes (lo / 1024) (omega (arith, lo_low there, count)) (inl (lo_way there)))) low

    old_g : (q : ℕ) → has extra q ≡ false → drafted g m q ≡ drafted b m q
    old_g q out = copy_others tells m class (get_or ps (hi / 1024) 0) (edge_of kept hi os) c g q
        (λ there. not_new q (get_or ps (hi / 1024) 0) out (comes (hi / 1024) (omega (arith, hi_low there, count)) (inl (hi_way there)))) high ∙ old_c q out

    from_old : (at x : ℕ) → edge_of kept at os ≡ Some x → has os x ≡ true
    from_old at x is = has_place os (at / 1024) x (edge_is kept at os x is).0

    whole_from : (at x : ℕ) → edge_of kept at os ≡ Some x → length (drafted b m x) ≡ 1024
    whole_from at x is = let mine = from_old at x is in ap length (old x mine) ∙ whole x mine

    here_b : (j : ℕ) → j < length ps → HasContent m b (get_or ps j 0 ∷ [])
    here_b j l = content_at m b ps j (get_or ps j 0) content_b (in_ps j l)

    lo_there : lo / 1024 < length ps
    lo_there = omega (arith, count, some)

    content_c : HasContent m c ps
    content_c = copy_content tells m class (get_or ps (lo / 1024) 0) (edge_of kept lo os) b c ps told content_b (whole_from lo) (here_b (lo / 1024) lo_there) low

    hi_cases : (is_some (edge_of kept hi os) ≡ true) ⊎ (is_some (edge_of kept hi os) ≡ false) → HasContent m g ps
    hi_cases (inl there) = copy_content tells m class (get_or ps (hi / 1024) 0) (edge_of kept hi os) c g ps told content_c
        (λ x is. ap length (old_c x (apart x (from_old hi x is))) ∙ whole_from hi x is) (content_at m c ps (hi / 1024) (get_or ps (hi / 1024) 0) content_c (in_ps (hi / 1024) (omega (arith, hi_low there, count)))) high
    hi_cases (inr none) = subst (λ (x : DraftState). HasContent m x ps) (sym (copy_none tells m class (get_or ps (hi / 1024) 0) (edge_of kept hi os) c g (none_is (edge_of kept hi os) none) high)) content_c
      where
        none_is : (x : Option ℕ) → is_some x ≡ false → x ≡ None
        none_is None e = refl
        none_is (Some y) e = absurd (false≢true (sym e))

    content_g : HasContent m g ps
    content_g = hi_cases (cases_Bool (is_some (edge_of kept hi os)))

    -- The block at a place outside of the bytes has what it had.

    same_stays : (j : ℕ) → j < length os → test j ≡ false → drafted g m (get_or ps j 0) ≡ drafted d m (get_or os j 0)
    same_stays j l fails = ap (drafted g m) (stays j l fails) ∙ old_g (get_or os j 0) (apart (get_or os j 0) (in_os j l)) ∙ old (get_or os j 0) (in_os j l)

    kept_at : (j : ℕ) → lo / 1024 ≤ j → j < blocks_for hi → test j ≡ true → kept (get_or os j 0) ≡ true
    kept_at j from below holds = sym (way_within kept (lo / 1024) (blocks_for hi) os j from below) ∙ holds

    same_hi : hi / 1024 < length os → hi % 1024 ≢ 0 → drafted g m (get_or ps (hi / 1024) 0) ≡ drafted d m (get_or os (hi / 1024) 0)
    same_hi l part = ⊎_elim (λ holds.
        let is : edge_of kept hi os ≡ Some (get_or os (hi / 1024) 0) = edge_there kept hi os (get_or os (hi / 1024) 0) part (slice_get-get_or os (hi / 1024) 0 l) (kept_at (hi / 1024) (omega (arith, some)) (omega (arith, part)) holds) in
        let mine = in_os (hi / 1024) l in
        copy_here tells m class (get_or ps (hi / 1024) 0) (edge_of kept hi os) c g (get_or os (hi / 1024) 0) is told (ap length (old_c (get_or os (hi / 1024) 0) (apart (get_or os (hi / 1024) 0) mine)) ∙ whole_from hi (get_or os (hi / 1024) 0) is)
        (content_at m c ps (hi / 1024) (get_or ps (hi / 1024) 0) content_c (in_ps (hi / 1024) (omega (arith, l, count)))) high
        ∙ old_c (get_or os (hi / 1024) 0) (apart (get_or os (hi / 1024) 0) mine) ∙ old (get_or os (hi / 1024) 0) mine)
        (λ fails. same_stays (hi / 1024) l fails)
        (cases_Bool (test (hi / 1024)))

    same_lo : lo / 1024 < length os → lo % 1024 ≢ 0 → drafted g m (get_or ps (lo / 1024) 0) ≡ drafted d m (get_or os (lo / 1024) 0)
    same_lo l part = ⊎_elim (λ holds. by holds (cases_eq (lo / 1024) (hi / 1024)) (cases_eq (hi % 1024) 0))
        (λ fails. same_stays (lo / 1024) l fails)
        (cases_Bool (test (lo / 1024)))
      where
        copied : test (lo / 1024) ≡ true → drafted c m (get_or ps (lo / 1024) 0) ≡ drafted d m (get_or os (lo / 1024) 0)
        copied holds =
            let is : edge_of kept lo os ≡ Some (get_or os (lo / 1024) 0) = edge_there kept lo os (get_or os (lo / 1024) 0) part (slice_get-get_or os (lo / 1024) 0 l) (kept_at (lo / 1024) (omega arith) (omega (arith, some)) holds) in
            copy_here tells m class (get_or ps (lo / 1024) 0) (edge_of kept lo os) b c (get_or os (lo / 1024) 0) is told (whole_from lo (get_or os (lo / 1024) 0) is) (here_b (lo / 1024) lo_there) low ∙ old (get_or os (lo / 1024) 0) (in_os (lo / 1024) l)

        by : test (lo / 1024) ≡ true → (lo / 1024 ≡ hi / 1024) ⊎ (lo / 1024 ≡ hi / 1024 → ⊥) → (hi % 1024 ≡ 0) ⊎ (hi % 1024 ≡ 0 → ⊥) → drafted g m (get_or ps (lo / 1024) 0) ≡ drafted d m (get_or os (lo / 1024) 0)
        by holds (inl same) (inr hi_part) =
            ap (λ j. drafted g m (get_or ps j 0)) same ∙ same_hi (omega (arith, l, same)) hi_part ∙ ap (λ j. drafted d m (get_or os j 0)) (sym same)
        by holds (inl same) (inl full) = copy_others tells m class (get_or ps (hi / 1024) 0) (edge_of kept hi os) c g (get_or ps (lo / 1024) 0) (λ there. absurd (edge_part kept hi os there full)) high ∙ copied holds
        by holds (inr away) either = copy_others tells m class (get_or ps (hi / 1024) 0) (edge_of kept hi os) c g (get_or ps (lo / 1024) 0)
            (λ there. different (lo / 1024) (hi / 1024) lo_there (omega (arith, hi_low there, count)) away) high ∙ copied holds

    -- a block behind those that it had is zeros
    new_zeros : (j : ℕ) → length os ≤ j → j < length ps → drafted g m (get_or ps j 0) ≡ replicate 1024 0
    new_zeros j past l =
        copy_others tells m class (get_or ps (hi / 1024) 0) (edge_of kept hi os) c g (get_or ps j 0) (λ there. let h = hi_low there in different j (hi / 1024) l (omega (arith, h, count)) (λ same. omega (arith, same, h, past))) high
        ∙ copy_others tells m class (get_or ps (lo / 1024) 0) (edge_of kept lo os) b c (get_or ps j 0) (λ there. let h = lo_low there in different j (lo / 1024) l (omega (arith, h, count)) (λ same. omega (arith, same, h, past))) low
        ∙ fresh (get_or ps j 0) (comes j l (inr past))

    -- The bytes.

    whole_os : All (λ q. length (drafted d m q) ≡ 1024) os
    whole_os = all_of (λ q. length (drafted d m q) ≡ 1024) os whole

    same_byte : (i z : ℕ) → i < 1024 * length os → drafted g m (get_or ps (i / 1024) 0) ≡ drafted d m (get_or os (i / 1024) 0) → get_or (joined (drafted g m) ps) i z ≡ get_or (joined (drafted d m) os) i z
    same_byte i z l same =
        joined_at (drafted g m) ps i z content_g.whole (omega (arith, l, count)) ∙ ap (λ xs. get_or xs (i % 1024) z) same ∙ sym (joined_at (drafted d m) os i z whole_os l)

    front_byte : (i z : ℕ) → i < lo → get_or (joined (drafted g m) ps) i z ≡ get_or (joined (drafted d m) os) i z
    front_byte i z l = same_byte i z (omega (arith, l, inside)) (by (cases_lt (i / 1024) (lo / 1024)))
      where
        by : (i / 1024 < lo / 1024) ⊎ (lo / 1024 ≤ i / 1024) → drafted g m (get_or ps (i / 1024) 0) ≡ drafted d m (get_or os (i / 1024) 0)
        by (inl less) = same_stays (i / 1024) (omega (arith, l, inside)) (way_before kept (lo / 1024) (blocks_for hi) os (i / 1024) less)
        by (inr more) =
            let same : i / 1024 ≡ lo / 1024 = omega (arith, l, more) in
            ap (λ j. drafted g m (get_or ps j 0)) same ∙ same_lo (omega (arith, l, inside, same)) (λ full. omega (arith, full, same, l)) ∙ ap (λ j. drafted d m (get_or os j 0)) (sym same)

    back_byte : (i z : ℕ) → hi ≤ i → i < 1024 * length os → get_or (joined (drafted g m) ps) i z ≡ get_or (joined (drafted d m) os) i z
    back_byte i z past l = same_byte i z l (by (cases_lt (i / 1024) (blocks_for hi)))
      where
        by : (i / 1024 < blocks_for hi) ⊎ (blocks_for hi ≤ i / 1024) → drafted g m (get_or ps (i / 1024) 0) ≡ drafted d m (get_or os (i / 1024) 0)
        by (inr more) = same_stays (i / 1024) (omega (arith, l)) (way_behind kept (lo / 1024) (blocks_for hi) os (i / 1024) more)
        by (inl less) =
            let same : i / 1024 ≡ hi / 1024 = omega (arith, less, past) in
            ap (λ j. drafted g m (get_or ps j 0)) same ∙ same_hi (omega (arith, l, same)) (λ full. omega (arith, full, same, less, past)) ∙ ap (λ j. drafted d m (get_or os j 0)) (sym same)

    zero_byte : (i z : ℕ) → 1024 * length os ≤ i → i < 1024 * length ps → get_or (joined (drafted g m) ps) i z ≡ 0
    zero_byte i z past l =
        joined_at (drafted g m) ps i z content_g.whole l
        ∙ ap (λ xs. get_or xs (i % 1024) z) (new_zeros (i / 1024) (omega (arith, past)) (omega (arith, l)))
        ∙ get_or-replicate 1024 (i % 1024) 0 z (omega arith)

    pub keeps_outside : KeepsOutside m lo hi os ps d g
    keeps_outside = record { content = content_g; count = count; front = front_byte; back = back_byte; zeros = zero_byte }
